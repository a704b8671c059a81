-- What an answer, or a refusal, tells of a call.
use Rattle.std.proofs.Common.{◌≡◌, ℕ, Some, None, Ok, Err, Option, refl, ap, ◌∙◌, arith}
use Rattle.refusal.specs.declared.Refusal.{Refusal}
use Rattle.refusal.specs.Rows.{unless, say}
use Rattle.guest.specs.declared.call.Call.{Call}
use Rattle.guest.specs.Book.{Book}
use Rattle.guest.specs.Calls.{Does, refusal_of, effect, answer}
use Rattle.guest.specs.Replies.{Reply, Said}

-- a refusal is the first row that applies, and nothing changed
pub declined : (c : Call) (b after : Book) (r : Refusal) → Does c b after (Err r) → (refusal_of c b ≡ Some r) × (after ≡ b)
declined c b after r d = go (refusal_of c b) refl d.0 d.1
  where
    go : (o : Option Refusal) → refusal_of c b ≡ o → after ≡ unless o b (effect c b) → ◌≡◌ {A = Said} (Err r) (say o (answer c b)) → (refusal_of c b ≡ Some r) × (after ≡ b)
    go None e f g = let z : ◌≡◌ {A = ℕ} 0 1 = cc in absurd (omega arith)
    go (Some q) e f g = (e ∙ (let s : q ≡ r = cc in ap Some s), f)

-- an answer means that no row applies
pub granted : (c : Call) (b after : Book) (a : Reply) → Does c b after (Ok a) → (refusal_of c b ≡ None) × (after ≡ effect c b) × (a ≡ answer c b)
granted c b after a d = go (refusal_of c b) refl d.0 d.1
  where
    go : (o : Option Refusal) → refusal_of c b ≡ o → after ≡ unless o b (effect c b) → ◌≡◌ {A = Said} (Ok a) (say o (answer c b)) → (refusal_of c b ≡ None) × (after ≡ effect c b) × (a ≡ answer c b)
    go None e f g = (e, f, cc)
    go (Some q) e f g = let z : ◌≡◌ {A = ℕ} 0 1 = cc in absurd (omega arith)
