-- The first word of a line, by the places of the first byte that is no blank and of the first blank after it.
use Rattle.std.proofs.Common.{◌≡◌, ℕ, ◌+◌, ◌-◌, ◌<◌, Bool, true, false, not, cond, ltb, List, [], ◌∷◌, length, get_or, take, drop, Some, None, suc, sym, refl, ap, ◌∙◌, arith}
use Rattle.std.specs.List.{position, position_or_len}
use Rattle.std.proofs.lemmas.Bool.{ltb-true, ltb-false}
use Rattle.std.proofs.lemmas.Bool.{false≢true}
use Rattle.std.proofs.lemmas.Option.{cond_some, none-some}
use Rattle.std.proofs.lemmas.List.{drop_all, get_or-drop, length-drop, take_rest}
use Rattle.std.proofs.lemmas.List.Sums.{passes_at_first}
use Rattle.console.specs.Words.{blank, to_blank, words_from, words}

-- where the first word begins and, of what begins with a word, where it ends
abbrev start : List ℕ → ℕ
start line = position_or_len (λ c. not (blank c)) line

abbrev end : List ℕ → ℕ
end text = position_or_len blank text

dropped : (k c : ℕ) (cs : List ℕ) → drop (1 + k) (c ∷ cs) ≡ drop k cs
dropped k c cs = ap (λ (m : ℕ). drop m (c ∷ cs)) {x = 1 + k} {y = suc k} (omega arith)

taken : (k c : ℕ) (cs : List ℕ) → take (1 + k) (c ∷ cs) ≡ c ∷ take k cs
taken k c cs = ap (λ (m : ℕ). take m (c ∷ cs)) {x = 1 + k} {y = suc k} (omega arith)

-- blanks in front change nothing
skipped : (line : List ℕ) → words line ≡ words (drop (start line) line)
skipped [] = refl
skipped (c ∷ cs) = go (skipped cs) (blank c) refl
  where
    go : words cs ≡ words (drop (start cs) cs) → (b : Bool) → blank c ≡ b → words (c ∷ cs) ≡ words (drop (start (c ∷ cs)) (c ∷ cs))
    go ih true e = rw e (ih ∙ ap words (sym (dropped (start cs) c cs)))
    go ih false e = ap (λ (b : Bool). words (drop (cond (not (not b)) (1 + start cs) 0) (c ∷ cs))) (sym e)

-- the bytes before the first blank
front : (text : List ℕ) → take (end text) text ≡ to_blank text
front [] = refl
front (c ∷ cs) = go (front cs) (blank c) refl
  where
    go : take (end cs) cs ≡ to_blank cs → (b : Bool) → blank c ≡ b → take (end (c ∷ cs)) (c ∷ cs) ≡ to_blank (c ∷ cs)
    go ih true e = rw e refl
    go ih false e = rw e (taken (end cs) c cs ∙ ap (λ (xs : List ℕ). c ∷ xs) ih)

-- no word begins before the first blank after a word
back : (text : List ℕ) → words_from false text ≡ words (drop (end text) text)
back [] = refl
back (c ∷ cs) = go (back cs) (blank c) refl
  where
    go : words_from false cs ≡ words (drop (end cs) cs) → (b : Bool) → blank c ≡ b → words_from false (c ∷ cs) ≡ words (drop (end (c ∷ cs)) (c ∷ cs))
    go ih true e = rw (e, e) refl
    go ih false e = rw e (ih ∙ ap words (sym (dropped (end cs) c cs)))

-- what begins with a word
word_first : (text : List ℕ) → 0 < length text → not (blank (get_or text 0 0)) ≡ true → words text ≡ take (end text) text ∷ words (drop (end text) text)
word_first [] some e = absurd (omega arith)
word_first (c ∷ cs) some e = go (blank c) refl e
  where
    go : (b : Bool) → blank c ≡ b → not b ≡ true → words (c ∷ cs) ≡ take (end (c ∷ cs)) (c ∷ cs) ∷ words (drop (end (c ∷ cs)) (c ∷ cs))
    go true e n = absurd (false≢true n)
    go false e n = rw e (λ i. sym (taken (end cs) c cs ∙ ap (λ (xs : List ℕ). c ∷ xs) (front cs)) i ∷ (back cs ∙ ap words (sym (dropped (end cs) c cs))) i)

-- a line without a word
pub no_word : (line : List ℕ) → position (λ c. not (blank c)) line ≡ None → words line ≡ []
no_word line e = go (ltb (start line) (length line)) refl e
  where
    go : (b : Bool) → ltb (start line) (length line) ≡ b → cond b (Some (start line)) None ≡ None → words line ≡ []
    go true l n = absurd (none-some (start line) (sym n))
    go false l n = skipped line ∙ ap words (drop_all (start line) line (ltb-false (start line) (length line) l))

-- what begins at i, as a slice gives it
abbrev from : ℕ → List ℕ → List ℕ
from i line = take (length line - i) (drop i line)

-- a line whose first word begins at i
pub word_at : (line : List ℕ) (i : ℕ) → position (λ c. not (blank c)) line ≡ Some i → words line ≡ take (end (from i line)) (from i line) ∷ words (drop (end (from i line)) (from i line))
word_at line i e =
    let here = cond_some (ltb (start line) (length line)) (start line) i e in
    let within : start line < length line = ltb-true (start line) (length line) here.0 in
    let text : List ℕ = drop (start line) line in
    let first : not (blank (get_or text 0 0)) ≡ true = ap (λ (c : ℕ). not (blank c)) (get_or-drop (start line) line 0 0 ∙ ap (λ (k : ℕ). get_or line k 0) {x = start line + 0} {y = start line} (omega arith)) ∙ passes_at_first (λ c. not (blank c)) line 0 within in
    let same : text ≡ from i line = ap (λ (k : ℕ). drop k line) here.1 ∙ sym (take_rest line i) in
    skipped line
    ∙ word_first text (omega (arith, length-drop (start line) line)) first
    ∙ ap (λ (t : List ℕ). take (end t) t ∷ words (drop (end t) t)) same

-- where there is a word, and where there is none
pub ruleset splitting = (no_word, word_at)
