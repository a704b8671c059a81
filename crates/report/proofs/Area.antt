-- Texts written one after another at the front of an area.
use Rattle.std.proofs.Common.{◌≡◌, ℕ, ◌-◌, List, [], ◌++◌, length, take, drop, sym, refl, ap, ◌∙◌, append_assoc, append-nil, arith, length-append, length-drop}
use borrow.Rule.Slice.PartMut.{put_mid}
use Rattle.std.proofs.lemmas.List.{take_at, drop_at, drop_all, take_rest, drop-drop}
use Rattle.report.specs.Lines.{onto}

-- the rest of the area, past the text
rest_onto : (a xs : List ℕ) (n : ℕ) → n ≡ length a → drop n (onto a xs) ≡ drop n xs
rest_onto a xs n e = drop_at a (drop (length a) xs) n (sym e) ∙ ap (λ (m : ℕ). drop m xs) (sym e)

-- a text at the front, and then another written by way of the part `&mut area[n..]`
pub next_onto : (a b xs ys ws : List ℕ) (n k : ℕ) → ys ≡ onto a xs → n ≡ length a → k ≡ length ys - n → ws ≡ onto b (take k (drop n ys))
    → put_mid n k ys ws ≡ onto (a ++ b) xs
next_onto a b xs ys ws n k ey en ek ew =
    let whole : take k (drop n ys) ≡ drop n ys = ap (λ (m : ℕ). take m (drop n ys)) ek ∙ take_rest ys n in
    let rest : drop n ys ≡ drop n xs = ap (drop n) ey ∙ rest_onto a xs n en in
    let front : take n ys ≡ a = ap (take n) ey ∙ take_at a (drop (length a) xs) n (sym en) in
    let none : drop k (drop n ys) ≡ [] = drop_all k (drop n ys) (simp length-drop (omega arith)) in
    let part : ws ≡ b ++ drop (length b) (drop n xs) = ew ∙ ap (λ (r : List ℕ). onto b r) (whole ∙ rest) in
    let deep : drop (length b) (drop n xs) ≡ drop (length (a ++ b)) xs =
    drop-drop (length b) n xs ∙ ap (λ (m : ℕ). drop m xs) (simp length-append (omega arith)) in
    let all : take n ys ++ (ws ++ drop k (drop n ys)) ≡ a ++ (b ++ drop (length (a ++ b)) xs) =
    rw (front, none, part, deep, append-nil) refl in
    all ∙ sym (append_assoc a b (drop (length (a ++ b)) xs))
