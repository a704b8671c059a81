-- From a report of an open trace to the output for its file.
use Rattle.std.proofs.Common.{◌≡◌, ℕ, ◌≤◌, List, length, take, drop, Some, None, Ok, Err, Option, sym, refl, ap, ◌∙◌, arith}
use Rattle.std.proofs.lemmas.List.{take_at}
use Rattle.guest.specs.Book.{Book, start}
use Rattle.fault.specs.declared.Fault.{Fault}
use Rattle.fault.specs.Faults.{◌else◌}
use Rattle.trace.specs.Contents.{setups_section, events_section}
use Rattle.trace.specs.Opening.{fault_of, events_in}
use Rattle.trace.specs.Walking.{placed_in}
use Rattle.report.specs.Playing.{setup_declined}
use Rattle.report.specs.Reporting.{room_for, Reports}
use Rattle.playback.specs.Output.{fault_in, report_in}

module _ (file : List ℕ) (after : Book) (area left : List ℕ) (opens : fault_of file ≡ None) (room : room_for (events_section file) ≤ length area) where
  -- the fault of a file that opens is that of a declined setup
  fault_same : fault_in file ≡ setup_declined start (placed_in file (setups_section file))
  fault_same = ap (λ (o : Option Fault). o else setup_declined start (placed_in file (setups_section file))) opens

  pub written : (n : ℕ) → Reports (room_for (events_section file)) (placed_in file (setups_section file)) (events_in file (events_section file)) start after area left (Ok n) → (fault_in file ≡ None) × (take n left ≡ report_in file)
  written n r = go (setup_declined start (placed_in file (setups_section file))) refl
    where
      go : (o : Option Fault) → setup_declined start (placed_in file (setups_section file)) ≡ o → (fault_in file ≡ None) × (take n left ≡ report_in file)
      go (Some f) e = let c = (r.stopped f room e).0 in let z : ◌≡◌ {A = ℕ} 0 1 = cc in absurd (omega arith)
      go None e =
          let d = r.done room e in
          let l : n ≡ length (report_in file) = let k = d.0 in cc in
          (fault_same ∙ e, ap (take n) d.2 ∙ take_at (report_in file) (drop (length (report_in file)) area) n (sym l))

  pub stopped : (f : Fault) → Reports (room_for (events_section file)) (placed_in file (setups_section file)) (events_in file (events_section file)) start after area left (Err f) → fault_in file ≡ Some f
  stopped f r = go (setup_declined start (placed_in file (setups_section file))) refl
    where
      go : (o : Option Fault) → setup_declined start (placed_in file (setups_section file)) ≡ o → fault_in file ≡ Some f
      go (Some g) e = let c = (r.stopped g room e).0 in fault_same ∙ e ∙ (let q : g ≡ f = cc in ap Some q)
      go None e = let c = (r.done room e).0 in let z : ◌≡◌ {A = ℕ} 0 1 = cc in absurd (omega arith)
