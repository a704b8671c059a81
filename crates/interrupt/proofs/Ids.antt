-- The law of identities.
use Rattle.std.proofs.Common.{◌<◌}
use Rattle.interrupt.specs.declared.id.InterruptId.{InterruptId}
use Rattle.interrupt.specs.Meaning.{id_of}

-- an identity names one of the interrupts
pub id_below : (i : InterruptId) → id_of i < 1020
id_below i = i.named
