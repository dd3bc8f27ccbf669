-- Examples: Positions. Each holds by computation; the answers are those of the reading in tests/reading.
-- Written by tests/examples from tests/reading/examples.txt.
use mathlib.Core.Path.{◌≡◌, refl}
use mathlib.Core.Bool.{Bool, true, false}
use mathlib.Core.List.{List, [], ◌∷◌, map}
use Prim.Native.Nat.{ℕ}
use lib.IntN.{ℤ, pos, negsuc}
use Rattle.std.specs.declared.cmp.Ordering.{Ordering}
use Rattle.std.specs.declared.cmp.Ordering.TheVariants.{Less, Equal, Greater}
use Rattle.rules.specs.Refusals.{given, refused}
use Rattle.rules.specs.Endings.{found, nothing}
use Rattle.rules.proofs.Examples.Asked.{nums, ask_ravel_index, ask_unravel_index, ask_cmp_index}

-- ravel_index_call: answered
e1 : ask_ravel_index [] (nums (0 ∷ [])) ≡ given 0
unfolding ask_ravel_index
e1 = refl

e2 : ask_ravel_index [] (nums (0 ∷ 1 ∷ [])) ≡ given 0
unfolding ask_ravel_index
e2 = refl

e3 : ask_ravel_index [] (nums (0 ∷ 3 ∷ [])) ≡ given 0
unfolding ask_ravel_index
e3 = refl

e4 : ask_ravel_index [] (pos 0 ∷ negsuc 0 ∷ []) ≡ given 0
unfolding ask_ravel_index
e4 = refl

e5 : ask_ravel_index [] (nums (0 ∷ 1 ∷ 4 ∷ [])) ≡ given 0
unfolding ask_ravel_index
e5 = refl

e6 : ask_ravel_index (nums (0 ∷ [])) (nums (1 ∷ 0 ∷ [])) ≡ given 0
unfolding ask_ravel_index
e6 = refl

e7 : ask_ravel_index (nums (1 ∷ [])) (nums (1 ∷ 2 ∷ [])) ≡ given 1
unfolding ask_ravel_index
e7 = refl

e8 : ask_ravel_index (nums (2 ∷ [])) (nums (1 ∷ 2 ∷ [])) ≡ given 2
unfolding ask_ravel_index
e8 = refl

e9 : ask_ravel_index (nums (3 ∷ [])) (nums (1 ∷ 2 ∷ [])) ≡ given 3
unfolding ask_ravel_index
e9 = refl

e10 : ask_ravel_index (nums (4 ∷ [])) (nums (1 ∷ 3 ∷ [])) ≡ given 4
unfolding ask_ravel_index
e10 = refl

e11 : ask_ravel_index (nums (5 ∷ [])) (nums (1 ∷ 4 ∷ [])) ≡ given 5
unfolding ask_ravel_index
e11 = refl

e12 : ask_ravel_index [] (pos 0 ∷ negsuc 1 ∷ pos 0 ∷ []) ≡ given 0
unfolding ask_ravel_index
e12 = refl

e13 : ask_ravel_index (nums (3 ∷ 4 ∷ [])) (nums (2 ∷ 0 ∷ 0 ∷ [])) ≡ given 4
unfolding ask_ravel_index
e13 = refl

-- ravel_index_call: refused 1
e14 : ask_ravel_index [] (nums (6 ∷ [])) ≡ refused 1
unfolding ask_ravel_index
e14 = refl

e15 : ask_ravel_index (negsuc 0 ∷ []) (nums (5 ∷ [])) ≡ refused 1
unfolding ask_ravel_index
e15 = refl

-- ravel_index_call: refused 5
e16 : ask_ravel_index [] [] ≡ refused 5
unfolding ask_ravel_index
e16 = refl

e17 : ask_ravel_index [] (nums (1 ∷ 2 ∷ [])) ≡ refused 5
unfolding ask_ravel_index
e17 = refl

-- unravel_index_call: answered
e18 : ask_unravel_index (pos 1) (nums (0 ∷ [])) ≡ given ([])
unfolding ask_unravel_index
e18 = refl

e19 : ask_unravel_index (pos 1) (nums (1 ∷ 1 ∷ [])) ≡ given (0 ∷ [])
unfolding ask_unravel_index
e19 = refl

e20 : ask_unravel_index (pos 3) (nums (1 ∷ 3 ∷ [])) ≡ given (0 ∷ [])
unfolding ask_unravel_index
e20 = refl

e21 : ask_unravel_index (pos 4) (nums (1 ∷ 4 ∷ [])) ≡ given (0 ∷ [])
unfolding ask_unravel_index
e21 = refl

e22 : ask_unravel_index (pos 5) (nums (1 ∷ 2 ∷ [])) ≡ given (1 ∷ [])
unfolding ask_unravel_index
e22 = refl

e23 : ask_unravel_index (pos 167) (nums (0 ∷ 1 ∷ [])) ≡ given ([])
unfolding ask_unravel_index
e23 = refl

e24 : ask_unravel_index (pos 227) (nums (0 ∷ 3 ∷ [])) ≡ given ([])
unfolding ask_unravel_index
e24 = refl

e25 : ask_unravel_index (pos 5) (nums (2 ∷ 2 ∷ 3 ∷ [])) ≡ given (1 ∷ 2 ∷ [])
unfolding ask_unravel_index
e25 = refl

e26 : ask_unravel_index (pos 7) (nums (2 ∷ 2 ∷ 3 ∷ [])) ≡ given (0 ∷ 1 ∷ [])
unfolding ask_unravel_index
e26 = refl

e27 : ask_unravel_index (pos 157) (nums (0 ∷ 1 ∷ 4 ∷ [])) ≡ given ([])
unfolding ask_unravel_index
e27 = refl

-- unravel_index_call: refused 1
e28 : ask_unravel_index (pos 0) (nums (5 ∷ [])) ≡ refused 1
unfolding ask_unravel_index
e28 = refl

e29 : ask_unravel_index (negsuc 0) (nums (5 ∷ [])) ≡ refused 1
unfolding ask_unravel_index
e29 = refl

-- unravel_index_call: refused 5
e30 : ask_unravel_index (pos 3) [] ≡ refused 5
unfolding ask_unravel_index
e30 = refl

e31 : ask_unravel_index (pos 50) [] ≡ refused 5
unfolding ask_unravel_index
e31 = refl

e32 : ask_unravel_index (negsuc 0) (nums (1 ∷ 0 ∷ [])) ≡ refused 5
unfolding ask_unravel_index
e32 = refl

-- unravel_index_call: refused 6
e33 : ask_unravel_index (pos 0) (nums (1 ∷ 0 ∷ [])) ≡ refused 6
unfolding ask_unravel_index
e33 = refl

-- cmp_index_call: answered
e34 : ask_cmp_index [] [] ≡ given Equal
unfolding ask_cmp_index
e34 = refl

e35 : ask_cmp_index (nums (0 ∷ [])) (nums (2 ∷ [])) ≡ given Less
unfolding ask_cmp_index
e35 = refl

e36 : ask_cmp_index (nums (1 ∷ [])) (nums (0 ∷ [])) ≡ given Greater
unfolding ask_cmp_index
e36 = refl

e37 : ask_cmp_index (nums (2 ∷ [])) (nums (1 ∷ [])) ≡ given Greater
unfolding ask_cmp_index
e37 = refl

e38 : ask_cmp_index (nums (2 ∷ [])) (nums (2 ∷ [])) ≡ given Equal
unfolding ask_cmp_index
e38 = refl

e39 : ask_cmp_index (nums (3 ∷ [])) (nums (2 ∷ [])) ≡ given Greater
unfolding ask_cmp_index
e39 = refl

e40 : ask_cmp_index (nums (4 ∷ [])) (nums (0 ∷ [])) ≡ given Greater
unfolding ask_cmp_index
e40 = refl

e41 : ask_cmp_index (nums (5 ∷ [])) (nums (0 ∷ [])) ≡ given Greater
unfolding ask_cmp_index
e41 = refl

e42 : ask_cmp_index (nums (65535 ∷ [])) (nums (2 ∷ [])) ≡ given Greater
unfolding ask_cmp_index
e42 = refl

e43 : ask_cmp_index (nums (1 ∷ 0 ∷ [])) (nums (0 ∷ 3 ∷ [])) ≡ given Greater
unfolding ask_cmp_index
e43 = refl

-- cmp_index_call: refused 5
e44 : ask_cmp_index [] (nums (0 ∷ [])) ≡ refused 5
unfolding ask_cmp_index
e44 = refl

e45 : ask_cmp_index (negsuc 0 ∷ []) (nums (0 ∷ [])) ≡ refused 5
unfolding ask_cmp_index
e45 = refl

e46 : ask_cmp_index (nums (2 ∷ [])) (negsuc 0 ∷ []) ≡ refused 5
unfolding ask_cmp_index
e46 = refl
