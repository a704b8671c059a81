-- A report whose setups were granted.
use Rattle.std.proofs.Common.{◌≡◌, ℕ, ◌+◌, ◌-◌, ◌≤◌, List, ◌++◌, length, take, drop, None, Ok, ap, ◌∙◌, arith, length-append}
use borrow.Rule.Slice.PartMut.{put_mid}
use Rattle.guest.specs.Book.{Book}
use Rattle.records.specs.declared.record.Setup.{Setup}
use Rattle.records.specs.declared.record.Event.{Event}
use Rattle.trace.specs.declared.placed.Placed.{Placed}
use Rattle.report.specs.declared.play.Tally.{Tally}
use Rattle.report.specs.Lines.{onto, Puts, done_line}
use Rattle.report.specs.Playing.{setup_declined, after_setups, after_events, lines, names_number, count_of, EventsPlayed}
use Rattle.report.specs.Reporting.{report_text, Reports}
use Rattle.report.proofs.Area.{next_onto}

module _ (room : ℕ) (setups : List (Placed Setup)) (events : List Event) (b : Book) (area : List ℕ) where
  pub all_played :
      (ready after : Book) (written part : List ℕ) (t : Tally) (last rest : ℕ) → room ≤ length area → setup_declined b setups ≡ None → ready ≡ after_setups b setups →
      EventsPlayed ready events after area written t → rest ≡ length written - t.used →
      Puts (done_line t.acknowledged t.declined) (take rest (drop t.used written)) part last →
      Reports room setups events b after area (put_mid t.used rest written part) (Ok (t.used + last))
  all_played ready after written part t last rest h d r q e p =
      let text : lines ready events ++ done_line t.acknowledged t.declined ≡ report_text (after_setups b setups) events =
      ap (λ (x : List ℕ). lines ready events ++ x) (ap (λ (m : ℕ). done_line m t.declined) q.acknowledged ∙ ap (done_line (count_of names_number ready events)) q.declined)
      ∙ ap (λ (c : Book). report_text c events) r in
      let long : t.used + last ≡ length (report_text (after_setups b setups) events) =
      omega (arith, q.used, p.value, length-append (lines ready events) (done_line t.acknowledged t.declined), ap length text) in
      record {
        small = λ i. absurd (omega arith);
        stopped = λ f i s. let z : ◌≡◌ {A = ℕ} 0 1 = cc in absurd (omega arith);
        done = λ i s. (
          ap Ok long,
          q.means ∙ ap (λ (c : Book). after_events c events) r,
          next_onto (lines ready events) (done_line t.acknowledged t.declined) area written part t.used rest q.written q.used e p.after ∙ ap (λ (x : List ℕ). onto x area) text,
        );
      }
