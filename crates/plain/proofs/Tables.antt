-- Reading an interrupt of the table, and changing one.
use Rattle.std.proofs.Common.{◌≡◌, ℕ, ◌<◌, ◌≤◌, List, length, get_or, set, replicate, ap, ◌∙◌, ⊎_elim}
use lib.ListN.{get_or-replicate, length-replicate}
use Rattle.std.proofs.lemmas.List.{get_or_past}
use Rattle.std.proofs.lemmas.Bool.{cases_lt}
use Rattle.interrupt.specs.Sets.{put}
use Rattle.waiting.proofs.Tables.{read_at, read_set}
use Rattle.guest.specs.Interrupts.{blank}
use Rattle.plain.specs.declared.source.Source.{Source}
use Rattle.plain.specs.Sources.{means}
use Rattle.plain.specs.Table.{no_source, in_place}

-- what is read at place k is the interrupt n = k
pub read : (sources : List Source) (n k : ℕ) (d : Source) → k ≡ n → k < length sources → means (get_or sources k d) ≡ in_place sources n
read sources n k d e h = read_at means sources n k d no_source e h

-- at place k of interrupt n stands new
pub written : (sources : List Source) (n k : ℕ) (new : Source) → k ≡ n → k < length sources → in_place (set sources k new) ≡ put n (means new) (in_place sources)
written sources n k new e h = read_set means sources n k new no_source e h

-- a table of blanks
pub blanks : (s : Source) → means s ≡ blank → in_place (replicate 1020 s) ≡ (λ _. blank)
blanks s e = λ j n. each n j
  where
    each : (n : ℕ) → means (get_or (replicate 1020 s) n no_source) ≡ blank
    each n = ⊎_elim (λ (h : n < 1020). ap means (get_or-replicate 1020 n s no_source h) ∙ e) (λ (h : 1020 ≤ n). ap means (get_or_past (replicate 1020 s) n no_source (rw length-replicate h))) (cases_lt n 1020)
