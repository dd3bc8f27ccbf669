-- A row or an index moved by a start, number by number. Assumes nothing.
use mathlib.Core.Path.{◌≡◌, refl, sym, ap, ◌∙◌}
use mathlib.Core.List.{List, [], ◌∷◌}
use Prim.Native.Nat.{ℕ, zero, suc, ◌+◌, ◌<◌}
use native.Mathlib.Nat.{zero-add}
use native.Mathlib.Omega.{arith}
use lib.ListN.{length, get_or, take}
use lib.Seq.{ext_get_or}
use Rattle.rules.specs.Concatenate.{moved_by}

-- it keeps its length
pub moved_by_length : (start row : List ℕ) → length (moved_by start row) ≡ length row
unfolding moved_by
moved_by_length [] row = refl
moved_by_length (s ∷ start) [] = refl
moved_by_length (s ∷ start) (c ∷ row) = ap suc (moved_by_length start row)

-- each number is a sum; a start has zeros behind it
pub moved_by_at : (start row : List ℕ) (k : ℕ) → k < length row → get_or (moved_by start row) k 0 ≡ get_or start k 0 + get_or row k 0
unfolding moved_by
moved_by_at [] row k h = sym (zero-add (get_or row k 0))
moved_by_at (s ∷ start) [] k h = absurd (omega arith)
moved_by_at (s ∷ start) (c ∷ row) zero h = refl
moved_by_at (s ∷ start) (c ∷ row) (suc k) h = moved_by_at start row k (omega arith)

-- its first n numbers are the first n numbers moved
pub moved_by_take : (start row : List ℕ) (n : ℕ) → take n (moved_by start row) ≡ moved_by start (take n row)
unfolding moved_by
moved_by_take [] row n = refl
moved_by_take (s ∷ start) row zero = refl
moved_by_take (s ∷ start) [] (suc n) = refl
moved_by_take (s ∷ start) (c ∷ row) (suc n) = ap (λ (t : List ℕ). (s + c) ∷ t) (moved_by_take start row n)

-- two starts that agree on the numbers of a row move it alike
pub moved_by_same : (p q row : List ℕ) → ((k : ℕ) → k < length row → get_or p k 0 ≡ get_or q k 0) → moved_by p row ≡ moved_by q row
moved_by_same p q row f =
    ext_get_or 0 (moved_by p row) (moved_by q row) (moved_by_length p row ∙ sym (moved_by_length q row))
    (λ k l.
    let h : k < length row = rw (moved_by_length p row) at l in
    moved_by_at p row k h ∙ ap (λ (n : ℕ). n + get_or row k 0) (f k h) ∙ sym (moved_by_at q row k h))
