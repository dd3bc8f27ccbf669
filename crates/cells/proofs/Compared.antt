-- Two natural numbers compare as their views do.
use Rattle.std.proofs.Common.{◌≡◌, Bool, true, false, ◌<◌, ◌^◌, ltb, ℤ, pos, negsuc, List, ℕ, get_or, refl, int_cmp, cond, Less, Equal, Greater, arith}
use Rattle.rules.specs.RowsInOrder.{by_first}
use Rattle.cells.specs.View.{code, view, cmp_numbers}
use Rattle.cells.proofs.View.{view_get_or}

by_tests : (less greater : Bool) → cond less Less (cond greater Greater Equal) ≡ by_first less greater Equal
by_tests true greater = refl
by_tests false true = refl
by_tests false false = refl

pub cmp_codes : (x y : ℤ) → code x < 2 ^ 31 → code y < 2 ^ 31 → int_cmp x y ≡ cmp_numbers (code x) (code y)
cmp_codes (pos m) (pos n) h k = by_tests (ltb m n) (ltb n m)
cmp_codes (pos m) (negsuc n) h k = absurd (omega arith)
cmp_codes (negsuc m) y h k = absurd (omega arith)

pub cmp_views : (s t : List ℤ) (i j : ℕ) → get_or (view s) i 0 < 2 ^ 31 → get_or (view t) j 0 < 2 ^ 31 →
    int_cmp (get_or s i (pos 0)) (get_or t j (pos 0)) ≡ cmp_numbers (get_or (view s) i 0) (get_or (view t) j 0)
cmp_views s t i j h k = rw (view_get_or s i, view_get_or t j) (cmp_codes (get_or s i (pos 0)) (get_or t j (pos 0)) (rw view_get_or at h) (rw view_get_or at k))
