-- Records: that a cut one holds nothing, an event's time, and its fault once that is compared with the time before it.
use Rattle.std.proofs.Common.{◌≡◌, ℕ, ◌+◌, ◌-◌, ◌<◌, ◌≤◌, Bool, true, false, cond, not, eqb, ltb, List, length, drop, is_some, Some, None, Option, sym, refl, ap, ◌∙◌, ⊎_elim, arith, length-drop, length-take}
use Rattle.std.proofs.lemmas.Bool.{ne_eqb, lt-ltb, le-ltb, cases_lt, cond-false}
use Rattle.std.specs.Option.{option_map}
use Rattle.guest.specs.declared.call.Call.{Call}
use Rattle.trace.specs.declared.section.Section.{Section}
use Rattle.records.specs.declared.record.Event.{Event}
use Rattle.records.specs.Bytes.{byte, le16, le32, record_at}
use Rattle.fault.specs.Faults.{time_falls, bad_field, ◌unless◌, ◌else◌}
use Rattle.records.specs.Letters.{call_of}
use Rattle.trace.specs.Opening.{place, Absent, event_at, time_at, event_fault}
use Rattle.records.specs.Records.{whole, event_of}

abbrev made : ℕ → Call → Event
made t c = record { time = t; call = c }

-- the time of an event is that of its record
pub event_time : (r : List ℕ) (o : Option Event) (e : Event) → o ≡ event_of r → o ≡ Some e → e.time ≡ le32 r 0
event_time r o e a h = go (whole r) (call_of (byte r 4) (byte r 5) (le16 r 6)) (sym a ∙ h)
  where
    go : (w : Bool) (o : Option Call) → cond w (option_map (made (le32 r 0)) o) None ≡ Some e → e.time ≡ le32 r 0
    go true (Some c) q = ap (λ (x : Event). x.time) (let p : e ≡ made (le32 r 0) c = cc in p)
    go true None q = absurd (let z : ◌≡◌ {A = ℕ} 0 1 = cc in omega arith)
    go false o q = absurd (let z : ◌≡◌ {A = ℕ} 0 1 = cc in omega arith)

-- a record that the file's end cuts is not whole
pub not_whole : (file : List ℕ) (s : Section) (k : ℕ) → k < s.count → Absent file s k → whole (record_at file (place s k)) ≡ false
not_whole file s k h a = ne_eqb (length (record_at file (place s k))) 8 (λ e. ⊎_elim (λ (l : s.count ≤ k). omega arith) (λ (l : length file < place s k + 8). omega (arith, length-take 8 (drop (place s k) file), length-drop (place s k) file, e)) a)

-- the time before event k
abbrev pub time_before : List ℕ → Section → ℕ → ℕ
time_before file s k = cond (eqb k 0) 0 (time_at file s (k - 1))

pub time_next : (file : List ℕ) (s : Section) (k : ℕ) → time_before file s (k + 1) ≡ time_at file s k
time_next file s k =
    let e : k + 1 - 1 ≡ k = omega arith in cond-false (eqb (k + 1) 0) 0 (time_at file s (k + 1 - 1)) (ne_eqb (k + 1) 0 (λ z. omega arith)) ∙ ap (time_at file s) e

-- whether event k comes too early, by the time before it
early : (T : ℕ → ℕ) (k : ℕ) → ltb (T k) (T (k - 1)) ≡ ltb (T k) (cond (eqb k 0) 0 (T (k - 1)))
early T k = ⊎_elim (λ (l : 0 < k). rw (ne_eqb k 0 (λ e. omega arith)))
    (λ (l : k ≤ 0). let z : k ≡ 0 = omega arith in rw z (le-ltb (T 0) (T 0) (omega arith) ∙ sym (le-ltb (T 0) 0 (omega arith))))
    (cases_lt 0 k)

-- the fault of an event that was read, by whether its time is below the one before it
fault_read : (file : List ℕ) (s : Section) (k : ℕ) (e : Event) → event_at file s k ≡ Some e → event_fault file s k ≡ (time_falls (place s k) unless not (ltb e.time (time_before file s k)))
fault_read file s k e h = go (event_at file s k) (ltb (time_at file s k) (time_at file s (k - 1))) (ltb e.time (time_before file s k)) h (early (time_at file s) k ∙ ap (λ (t : ℕ). ltb t (time_before file s k)) (sym (event_time (record_at file (place s k)) (event_at file s k) e refl h)))
  where
    go : (o : Option Event) (b c : Bool) → o ≡ Some e → b ≡ c → ((bad_field (place s k) unless is_some o) else (time_falls (place s k) unless not b)) ≡ (time_falls (place s k) unless not c)
    go o b c p q = simp (p, q)

pub event_early : (file : List ℕ) (s : Section) (k before at : ℕ) (o : Option Event) (e : Event) → before ≡ time_before file s k → at ≡ place s k → o ≡ event_at file s k → o ≡ Some e → e.time < before → event_fault file s k ≡ Some (time_falls at)
event_early file s k before at o e b a r h l = let t = lt-ltb e.time before l in fault_read file s k e (sym r ∙ h) ∙ rw (← b, ← a, t)

pub event_in_time : (file : List ℕ) (s : Section) (k before : ℕ) (o : Option Event) (e : Event) → before ≡ time_before file s k → o ≡ event_at file s k → o ≡ Some e → before ≤ e.time → event_fault file s k ≡ None
event_in_time file s k before o e b r h l = let t = le-ltb e.time before l in fault_read file s k e (sym r ∙ h) ∙ rw (← b, t)
