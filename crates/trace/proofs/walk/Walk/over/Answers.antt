use Rattle.trace.specs.Walking.{placed_at}
use Rattle.trace.proofs.Held.{held_all}
use Rattle.trace.proofs.Walks.{all_values}
use Rattle.trace.proofs.walk.Walk.over.Goals as goal

pub returns-clause-placed : goal.returns-clause-placed
returns-clause-placed g c = held_all c.args.section.count (placed_at g.T.FromRecord.held c.args.file.now c.args.section)

pub returns-clause-values : goal.returns-clause-values
returns-clause-values g c = all_values g.T.FromRecord.held c.args.file.now c.args.section
