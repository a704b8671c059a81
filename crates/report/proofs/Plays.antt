-- Setups and events, played one after another: what is left to play says what was still to come at the start.
use Rattle.std.proofs.Common.{◌≡◌, ℕ, ◌+◌, ◌-◌, ◌*◌, ◌≤◌, Bool, true, false, cond, Ok, Err, Result, List, [], ◌∷◌, ◌++◌, length, take, drop, refl, ap, ◌∙◌, append_assoc, length-append, arith}
use borrow.Rule.Slice.PartMut.{put_mid}
use mir.Val.{bool_byte}
use Rattle.guest.specs.Book.{Book}
use Rattle.guest.specs.Calls.{Does}
use Rattle.guest.specs.Replies.{Said, as_reply}
use Rattle.guest.specs.declared.call.Answer.{Answer}
use Rattle.refusal.specs.declared.Refusal.{Refusal}
use Rattle.std.specs.Result.{is_err}
use Rattle.records.specs.declared.record.Setup.{Setup}
use Rattle.records.specs.declared.record.Event.{Event}
use Rattle.trace.specs.declared.placed.Placed.{Placed}
use Rattle.report.specs.declared.play.Tally.{Tally}
use Rattle.report.specs.Lines.{onto, Puts, line_of}
use Rattle.report.specs.Playing.{setup_declined, after_setups, after_events, lines, names_number, was_declined, count_of}
use Rattle.report.proofs.Area.{next_onto}

-- of all setups these are left, and those before them were granted
pub record SetUp (b : Book) (all : List (Placed Setup)) (now : Book) (left : List (Placed Setup)) : Type 0 where
  pub means : after_setups b all ≡ after_setups now left
  pub fault : setup_declined b all ≡ setup_declined now left

-- of all events these are left; the lines of those before them stand at the area's front
pub record Played (b : Book) (all : List Event) (old : List ℕ) (now : Book) (left : List Event) (area : List ℕ) (most : ℕ) (t : Tally) : Type 0 where
  pub front : List ℕ
  pub means : after_events b all ≡ after_events now left
  pub text : lines b all ≡ front ++ lines now left
  pub written : area ≡ onto front old
  pub used : t.used ≡ length front
  pub acknowledged : count_of names_number b all ≡ t.acknowledged + count_of names_number now left
  pub declined : count_of was_declined b all ≡ t.declined + count_of was_declined now left
  pub few : t.used + 20 * length left ≤ 20 * most
  pub some_acks : t.acknowledged + length left ≤ most
  pub some_nos : t.declined + length left ≤ most

abbrev tally : ℕ → ℕ → ℕ → Tally
tally u a d = record { used = u; acknowledged = a; declined = d }

pub none_played : (b : Book) (all left : List Event) (old : List ℕ) (most : ℕ) → left ≡ all → length all ≤ most → Played b all old b left old most (tally 0 0 0)
none_played b all left old most e h =
    let n : length left ≤ most = rw e h in
    record {
      front = [];
      means = rw e refl;
      text = rw e refl;
      written = refl;
      used = refl;
      acknowledged = rw e (omega arith);
      declined = rw e (omega arith);
      few = omega arith;
      some_acks = omega arith;
      some_nos = omega arith;
    }

-- what a test counts

pub test_counts : (b : Bool) → bool_byte b ≡ cond b 1 0
test_counts true = refl
test_counts false = refl

pub at_most_one : (b : Bool) → bool_byte b ≤ 1
at_most_one true = omega arith
at_most_one false = omega arith

pub declined_is_err : (said : Result Answer Refusal) → was_declined (as_reply said) ≡ is_err said
declined_is_err (Ok a) = refl
declined_is_err (Err r) = refl

-- one more event was played
pub one_more :
    (b : Book) (all : List Event) (old : List ℕ) (now after : Book) (e : Event) (left others : List Event) (area part : List ℕ) (most : ℕ) (t : Tally) (said : Said) (rest n a d : ℕ) →
    Played b all old now left area most t → left ≡ e ∷ others → Does e.call now after said → rest ≡ length area - t.used → Puts (line_of e.time said) (take rest (drop t.used area)) part n → n ≤ 20 →
    a ≡ bool_byte (names_number said) → d ≡ bool_byte (was_declined said) → Played b all old after others (put_mid t.used rest area part) most (tally (t.used + n) (t.acknowledged + a) (t.declined + d))
one_more b all old now after e left others area part most t said rest n a d p l does r line short x y =
    let k : length left ≡ length others + 1 = omega (arith, ap length l) in
    record {
      front = p.front ++ line_of e.time said;
      means = rw does.0 (p.means ∙ ap (after_events now) l);
      text = rw (does.0, does.1, append_assoc) (p.text ∙ ap (λ (es : List Event). p.front ++ lines now es) l);
      written = next_onto p.front (line_of e.time said) old area part t.used rest p.written p.used r line.after;
      used = omega (arith, p.used, line.value, length-append p.front (line_of e.time said));
      acknowledged = rw does.0 (omega (arith, p.acknowledged, x, test_counts (names_number said), ap {B = ℕ} (λ (s : Said). cond (names_number s) 1 0) does.1, ap (count_of names_number now) l));
      declined = rw does.0 (omega (arith, p.declined, y, test_counts (was_declined said), ap {B = ℕ} (λ (s : Said). cond (was_declined s) 1 0) does.1, ap (count_of was_declined now) l));
      few = omega (arith, p.few);
      some_acks = omega (arith, p.some_acks, at_most_one (names_number said));
      some_nos = omega (arith, p.some_nos, at_most_one (was_declined said));
    }
