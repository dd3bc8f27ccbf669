-- Examples: Lookup. Each holds by computation; the answers are those of the reading in tests/reading.
-- Written by tests/examples from tests/reading/examples.txt.
use mathlib.Core.Path.{◌≡◌, refl}
use mathlib.Core.Bool.{Bool, true, false}
use mathlib.Core.List.{List, [], ◌∷◌, map}
use Prim.Native.Nat.{ℕ}
use lib.IntN.{ℤ, pos, negsuc}
use Rattle.std.specs.declared.cmp.Ordering.{Ordering}
use Rattle.std.specs.declared.cmp.Ordering.TheVariants.{Less, Equal, Greater}
use Rattle.rules.specs.Refusals.{given, refused}
use Rattle.rules.specs.Endings.{found, nothing}
use Rattle.rules.proofs.Examples.Asked.{nums, ask_find_nnz_index, ask_find_nnz_indices}

-- find_nnz_index_call: answered
e1 : ask_find_nnz_index (nums (0 ∷ 0 ∷ 0 ∷ 0 ∷ 0 ∷ 0 ∷ [])) [] ≡ given (found 0)
unfolding ask_find_nnz_index
e1 = refl

e2 : ask_find_nnz_index (nums (2 ∷ 0 ∷ 0 ∷ 0 ∷ 0 ∷ 0 ∷ [])) [] ≡ given nothing
unfolding ask_find_nnz_index
e2 = refl

e3 : ask_find_nnz_index (nums (2 ∷ 0 ∷ 0 ∷ 1 ∷ 0 ∷ 0 ∷ [])) [] ≡ given (found 0)
unfolding ask_find_nnz_index
e3 = refl

e4 : ask_find_nnz_index (nums (0 ∷ 1 ∷ 1 ∷ 2 ∷ 0 ∷ 0 ∷ 0 ∷ [])) (nums (0 ∷ [])) ≡ given (found 0)
unfolding ask_find_nnz_index
e4 = refl

e5 : ask_find_nnz_index (nums (0 ∷ 1 ∷ 1 ∷ 2 ∷ 0 ∷ 0 ∷ 0 ∷ [])) (nums (1 ∷ [])) ≡ given (found 1)
unfolding ask_find_nnz_index
e5 = refl

e6 : ask_find_nnz_index (nums (0 ∷ 1 ∷ 1 ∷ 2 ∷ 0 ∷ 0 ∷ 0 ∷ [])) (nums (3 ∷ [])) ≡ given nothing
unfolding ask_find_nnz_index
e6 = refl

e7 : ask_find_nnz_index (nums (0 ∷ 1 ∷ 1 ∷ 3 ∷ 0 ∷ 0 ∷ 0 ∷ [])) (nums (2 ∷ [])) ≡ given (found 2)
unfolding ask_find_nnz_index
e7 = refl

e8 : ask_find_nnz_index (nums (0 ∷ 1 ∷ 1 ∷ 4 ∷ 0 ∷ 0 ∷ 0 ∷ [])) (nums (3 ∷ [])) ≡ given (found 3)
unfolding ask_find_nnz_index
e8 = refl

e9 : ask_find_nnz_index (nums (1 ∷ 0 ∷ 1 ∷ 0 ∷ 0 ∷ 0 ∷ 0 ∷ [])) (nums (0 ∷ [])) ≡ given nothing
unfolding ask_find_nnz_index
e9 = refl

e10 : ask_find_nnz_index (nums (1 ∷ 0 ∷ 1 ∷ 1 ∷ 0 ∷ 0 ∷ 0 ∷ [])) (nums (1 ∷ [])) ≡ given nothing
unfolding ask_find_nnz_index
e10 = refl

e11 : ask_find_nnz_index (nums (1 ∷ 0 ∷ 1 ∷ 2 ∷ 0 ∷ 0 ∷ 0 ∷ [])) (nums (0 ∷ [])) ≡ given (found 0)
unfolding ask_find_nnz_index
e11 = refl

e12 : ask_find_nnz_index (nums (1 ∷ 0 ∷ 1 ∷ 4 ∷ 0 ∷ 0 ∷ 0 ∷ [])) (nums (1 ∷ [])) ≡ given (found 1)
unfolding ask_find_nnz_index
e12 = refl

e13 : ask_find_nnz_index (nums (1 ∷ 0 ∷ 1 ∷ 4 ∷ 0 ∷ 0 ∷ 0 ∷ [])) (nums (2 ∷ [])) ≡ given (found 2)
unfolding ask_find_nnz_index
e13 = refl

e14 : ask_find_nnz_index (nums (2 ∷ 1 ∷ 1 ∷ 0 ∷ 1 ∷ 0 ∷ 0 ∷ [])) (nums (1 ∷ [])) ≡ given nothing
unfolding ask_find_nnz_index
e14 = refl

e15 : ask_find_nnz_index (nums (2 ∷ 1 ∷ 1 ∷ 3 ∷ 1 ∷ 0 ∷ 0 ∷ [])) (nums (2 ∷ [])) ≡ given (found 0)
unfolding ask_find_nnz_index
e15 = refl

e16 : ask_find_nnz_index (nums (2 ∷ 0 ∷ 1 ∷ 1 ∷ 1 ∷ 0 ∷ 0 ∷ 0 ∷ [])) (nums (3 ∷ [])) ≡ given (found 0)
unfolding ask_find_nnz_index
e16 = refl

e17 : ask_find_nnz_index (nums (2 ∷ 0 ∷ 1 ∷ 4 ∷ 1 ∷ 2 ∷ 0 ∷ 0 ∷ [])) (nums (0 ∷ [])) ≡ given nothing
unfolding ask_find_nnz_index
e17 = refl

e18 : ask_find_nnz_index (nums (0 ∷ 1 ∷ 1 ∷ 128 ∷ 0 ∷ 0 ∷ 0 ∷ [])) (nums (80 ∷ [])) ≡ given (found 80)
unfolding ask_find_nnz_index
e18 = refl

e19 : ask_find_nnz_index (nums (0 ∷ 1 ∷ 1 ∷ 1 ∷ 0 ∷ 0 ∷ 0 ∷ [])) (nums (65535 ∷ [])) ≡ given (found 0)
unfolding ask_find_nnz_index
e19 = refl

e20 : ask_find_nnz_index (nums (0 ∷ 2 ∷ 2 ∷ 1 ∷ 1 ∷ 0 ∷ 0 ∷ 0 ∷ [])) (nums (0 ∷ 0 ∷ [])) ≡ given (found 0)
unfolding ask_find_nnz_index
e20 = refl

e21 : ask_find_nnz_index (nums (0 ∷ 2 ∷ 2 ∷ 2 ∷ 2 ∷ 0 ∷ 0 ∷ 0 ∷ [])) (nums (0 ∷ 1 ∷ [])) ≡ given (found 1)
unfolding ask_find_nnz_index
e21 = refl

e22 : ask_find_nnz_index (nums (0 ∷ 2 ∷ 2 ∷ 3 ∷ 4 ∷ 0 ∷ 0 ∷ 0 ∷ [])) (nums (1 ∷ 2 ∷ [])) ≡ given (found 6)
unfolding ask_find_nnz_index
e22 = refl

e23 : ask_find_nnz_index (nums (0 ∷ 2 ∷ 2 ∷ 4 ∷ 3 ∷ 0 ∷ 0 ∷ 0 ∷ [])) (nums (3 ∷ 3 ∷ [])) ≡ given nothing
unfolding ask_find_nnz_index
e23 = refl

e24 : ask_find_nnz_index (nums (1 ∷ 0 ∷ 2 ∷ 4 ∷ 4 ∷ 0 ∷ 0 ∷ 0 ∷ [])) (nums (0 ∷ 3 ∷ [])) ≡ given nothing
unfolding ask_find_nnz_index
e24 = refl

e25 : ask_find_nnz_index (nums (1 ∷ 1 ∷ 2 ∷ 2 ∷ 3 ∷ 0 ∷ 0 ∷ 0 ∷ [])) (nums (1 ∷ 1 ∷ [])) ≡ given (found 1)
unfolding ask_find_nnz_index
e25 = refl

e26 : ask_find_nnz_index (nums (1 ∷ 1 ∷ 2 ∷ 2 ∷ 3 ∷ 0 ∷ 0 ∷ 0 ∷ [])) (nums (1 ∷ 2 ∷ [])) ≡ given nothing
unfolding ask_find_nnz_index
e26 = refl

e27 : ask_find_nnz_index (nums (2 ∷ 0 ∷ 2 ∷ 2 ∷ 2 ∷ 0 ∷ 0 ∷ 0 ∷ [])) (nums (1 ∷ 1 ∷ [])) ≡ given nothing
unfolding ask_find_nnz_index
e27 = refl

e28 : ask_find_nnz_index (nums (2 ∷ 2 ∷ 2 ∷ 4 ∷ 2 ∷ 1 ∷ 0 ∷ 0 ∷ [])) (nums (2 ∷ 1 ∷ [])) ≡ given (found 0)
unfolding ask_find_nnz_index
e28 = refl

e29 : ask_find_nnz_index (nums (2 ∷ 0 ∷ 1 ∷ 2 ∷ 2 ∷ 0 ∷ 1 ∷ 0 ∷ 0 ∷ [])) (nums (1 ∷ [])) ≡ given (found 1)
unfolding ask_find_nnz_index
e29 = refl

e30 : ask_find_nnz_index (nums (0 ∷ 2 ∷ 2 ∷ 256 ∷ 256 ∷ 0 ∷ 0 ∷ 0 ∷ [])) (nums (255 ∷ 255 ∷ [])) ≡ given (found 65535)
unfolding ask_find_nnz_index
e30 = refl

e31 : ask_find_nnz_index (nums (0 ∷ 4 ∷ 4 ∷ 3 ∷ 2 ∷ 3 ∷ 1 ∷ 0 ∷ 0 ∷ 0 ∷ [])) (nums (1 ∷ 0 ∷ 1 ∷ 0 ∷ [])) ≡ given (found 7)
unfolding ask_find_nnz_index
e31 = refl

-- find_nnz_index_call: refused 1
e32 : ask_find_nnz_index (nums (0 ∷ 0 ∷ 5 ∷ [])) (negsuc 0 ∷ []) ≡ refused 1
unfolding ask_find_nnz_index
e32 = refl

e33 : ask_find_nnz_index (nums (1 ∷ 0 ∷ 2147483647 ∷ 3 ∷ 0 ∷ 0 ∷ 0 ∷ [])) (nums (2 ∷ [])) ≡ refused 1
unfolding ask_find_nnz_index
e33 = refl

-- find_nnz_index_call: refused 3
e34 : ask_find_nnz_index [] (negsuc 0 ∷ []) ≡ refused 3
unfolding ask_find_nnz_index
e34 = refl

e35 : ask_find_nnz_index [] (nums (1 ∷ 0 ∷ [])) ≡ refused 3
unfolding ask_find_nnz_index
e35 = refl

e36 : ask_find_nnz_index (nums (0 ∷ 0 ∷ 0 ∷ 0 ∷ 1 ∷ 2147483647 ∷ 1 ∷ [])) [] ≡ refused 3
unfolding ask_find_nnz_index
e36 = refl

-- find_nnz_index_call: refused 4
e37 : ask_find_nnz_index (nums (2 ∷ 0 ∷ 1 ∷ 2 ∷ 2 ∷ 1 ∷ 0 ∷ 0 ∷ 0 ∷ [])) (nums (0 ∷ [])) ≡ refused 4
unfolding ask_find_nnz_index
e37 = refl

e38 : ask_find_nnz_index (nums (2 ∷ 0 ∷ 1 ∷ 2 ∷ 2 ∷ 1 ∷ 0 ∷ 0 ∷ 0 ∷ [])) (negsuc 0 ∷ []) ≡ refused 4
unfolding ask_find_nnz_index
e38 = refl

e39 : ask_find_nnz_index (nums (2 ∷ 0 ∷ 1 ∷ 2 ∷ 2 ∷ 1 ∷ 0 ∷ 0 ∷ 0 ∷ [])) (nums (0 ∷ 0 ∷ [])) ≡ refused 4
unfolding ask_find_nnz_index
e39 = refl

-- find_nnz_index_call: refused 5
e40 : ask_find_nnz_index (nums (1 ∷ 0 ∷ 1 ∷ 1 ∷ 0 ∷ 0 ∷ 0 ∷ [])) [] ≡ refused 5
unfolding ask_find_nnz_index
e40 = refl

e41 : ask_find_nnz_index (nums (0 ∷ 1 ∷ 1 ∷ 2 ∷ 0 ∷ 0 ∷ 0 ∷ [])) (negsuc 0 ∷ []) ≡ refused 5
unfolding ask_find_nnz_index
e41 = refl

e42 : ask_find_nnz_index (nums (0 ∷ 1 ∷ 1 ∷ 1 ∷ 0 ∷ 0 ∷ 0 ∷ [])) (nums (65536 ∷ [])) ≡ refused 5
unfolding ask_find_nnz_index
e42 = refl

e43 : ask_find_nnz_index (nums (1 ∷ 0 ∷ 1 ∷ 2 ∷ 0 ∷ 0 ∷ 0 ∷ [])) (negsuc 2147483647 ∷ []) ≡ refused 5
unfolding ask_find_nnz_index
e43 = refl

-- find_nnz_indices_call: answered
e44 : ask_find_nnz_indices (nums (2 ∷ 0 ∷ 2 ∷ 3 ∷ 3 ∷ 3 ∷ 0 ∷ 1 ∷ 1 ∷ 0 ∷ 2 ∷ 2 ∷ 0 ∷ 0 ∷ [])) (pos 3) (nums (2 ∷ 2 ∷ 0 ∷ 1 ∷ 1 ∷ 1 ∷ [])) 1802 ≡ given (pos 2 ∷ pos 0 ∷ negsuc 0 ∷ [])
unfolding ask_find_nnz_indices
e44 = refl

e45 : ask_find_nnz_indices (nums (2 ∷ 0 ∷ 2 ∷ 3 ∷ 3 ∷ 3 ∷ 0 ∷ 1 ∷ 1 ∷ 0 ∷ 2 ∷ 2 ∷ 0 ∷ 0 ∷ [])) (pos 0) [] 1802 ≡ given []
unfolding ask_find_nnz_indices
e45 = refl

e46 : ask_find_nnz_indices (nums (2 ∷ 0 ∷ 2 ∷ 1 ∷ 3 ∷ 2 ∷ 0 ∷ 0 ∷ 0 ∷ 2 ∷ 0 ∷ 0 ∷ [])) (pos 3) (nums (7 ∷ 2 ∷ 0 ∷ 1 ∷ 0 ∷ 0 ∷ [])) 1802 ≡ given (pos 1 ∷ negsuc 0 ∷ pos 0 ∷ [])
unfolding ask_find_nnz_indices
e46 = refl

e47 : ask_find_nnz_indices (nums (0 ∷ 2 ∷ 2 ∷ 2 ∷ 3 ∷ 0 ∷ 0 ∷ 0 ∷ [])) (pos 3) (nums (1 ∷ 2 ∷ 0 ∷ 0 ∷ 2 ∷ 0 ∷ [])) 1802 ≡ given (pos 5 ∷ pos 0 ∷ negsuc 0 ∷ [])
unfolding ask_find_nnz_indices
e47 = refl

e48 : ask_find_nnz_indices (nums (1 ∷ 0 ∷ 2 ∷ 3 ∷ 3 ∷ 0 ∷ 0 ∷ 0 ∷ [])) (pos 3) (nums (2 ∷ 2 ∷ 1 ∷ 0 ∷ 3 ∷ 3 ∷ [])) 1802 ≡ given (pos 2 ∷ negsuc 0 ∷ negsuc 0 ∷ [])
unfolding ask_find_nnz_indices
e48 = refl

e49 : ask_find_nnz_indices (nums (0 ∷ 0 ∷ 0 ∷ 0 ∷ 0 ∷ 0 ∷ [])) (pos 4) [] 1802 ≡ given (nums (0 ∷ 0 ∷ 0 ∷ 0 ∷ []))
unfolding ask_find_nnz_indices
e49 = refl

e50 : ask_find_nnz_indices (nums (2 ∷ 1 ∷ 2 ∷ 2 ∷ 3 ∷ 1 ∷ 1 ∷ 0 ∷ 0 ∷ [])) (pos 3) (nums (1 ∷ 0 ∷ 1 ∷ 2 ∷ 0 ∷ 0 ∷ [])) 1802 ≡ given (pos 0 ∷ pos 0 ∷ negsuc 0 ∷ [])
unfolding ask_find_nnz_indices
e50 = refl

-- find_nnz_indices_call: refused 5
e51 : ask_find_nnz_indices (nums (0 ∷ 0 ∷ 0 ∷ 0 ∷ 0 ∷ 0 ∷ [])) (pos 1803) [] 1802 ≡ refused 5
unfolding ask_find_nnz_indices
e51 = refl

e52 : ask_find_nnz_indices (nums (0 ∷ 0 ∷ 0 ∷ 0 ∷ 0 ∷ 0 ∷ [])) (negsuc 0) [] 1802 ≡ refused 5
unfolding ask_find_nnz_indices
e52 = refl

e53 : ask_find_nnz_indices (nums (2 ∷ 0 ∷ 2 ∷ 3 ∷ 3 ∷ 3 ∷ 0 ∷ 1 ∷ 1 ∷ 0 ∷ 2 ∷ 2 ∷ 0 ∷ 0 ∷ [])) (pos 2) (nums (2 ∷ 2 ∷ 0 ∷ [])) 1802 ≡ refused 5
unfolding ask_find_nnz_indices
e53 = refl

e54 : ask_find_nnz_indices (nums (2 ∷ 0 ∷ 2 ∷ 3 ∷ 3 ∷ 3 ∷ 0 ∷ 1 ∷ 1 ∷ 0 ∷ 2 ∷ 2 ∷ 0 ∷ 0 ∷ [])) (pos 2) (nums (2 ∷ 2 ∷ 0 ∷ 1 ∷ 1 ∷ [])) 1802 ≡ refused 5
unfolding ask_find_nnz_indices
e54 = refl

e55 : ask_find_nnz_indices (nums (2 ∷ 0 ∷ 2 ∷ 3 ∷ 3 ∷ 3 ∷ 0 ∷ 1 ∷ 1 ∷ 0 ∷ 2 ∷ 2 ∷ 0 ∷ 0 ∷ [])) (pos 1) (nums (2 ∷ 2 ∷ 0 ∷ 1 ∷ [])) 1802 ≡ refused 5
unfolding ask_find_nnz_indices
e55 = refl

e56 : ask_find_nnz_indices (nums (2 ∷ 0 ∷ 2 ∷ 3 ∷ 3 ∷ 3 ∷ 0 ∷ 1 ∷ 1 ∷ 0 ∷ 2 ∷ 2 ∷ 0 ∷ 0 ∷ [])) (pos 1) (pos 2 ∷ negsuc 0 ∷ []) 1802 ≡ refused 5
unfolding ask_find_nnz_indices
e56 = refl

e57 : ask_find_nnz_indices (nums (2 ∷ 0 ∷ 2 ∷ 3 ∷ 3 ∷ 3 ∷ 0 ∷ 1 ∷ 1 ∷ 0 ∷ 2 ∷ 2 ∷ 0 ∷ 0 ∷ [])) (pos 1) (nums (2 ∷ 65536 ∷ [])) 1802 ≡ refused 5
unfolding ask_find_nnz_indices
e57 = refl

-- find_nnz_indices_call: answered
e58 : ask_find_nnz_indices (nums (2 ∷ 0 ∷ 2 ∷ 3 ∷ 3 ∷ 3 ∷ 0 ∷ 1 ∷ 1 ∷ 0 ∷ 2 ∷ 2 ∷ 0 ∷ 0 ∷ [])) (pos 1) (nums (2 ∷ 65535 ∷ [])) 1802 ≡ given (negsuc 0 ∷ [])
unfolding ask_find_nnz_indices
e58 = refl

-- find_nnz_indices_call: refused 4
e59 : ask_find_nnz_indices (nums (2 ∷ 0 ∷ 2 ∷ 3 ∷ 3 ∷ 2 ∷ 1 ∷ 0 ∷ 0 ∷ 1 ∷ 0 ∷ 0 ∷ [])) (pos 1) (pos 2 ∷ negsuc 0 ∷ []) 1802 ≡ refused 4
unfolding ask_find_nnz_indices
e59 = refl

e60 : ask_find_nnz_indices (nums (2 ∷ 0 ∷ 2 ∷ 3 ∷ 3 ∷ 2 ∷ 1 ∷ 0 ∷ 0 ∷ 1 ∷ 0 ∷ 0 ∷ [])) (pos 1) (nums (0 ∷ 1 ∷ [])) 1802 ≡ refused 4
unfolding ask_find_nnz_indices
e60 = refl

-- find_nnz_indices_call: refused 3
e61 : ask_find_nnz_indices (nums (2 ∷ 0 ∷ 1 ∷ 3 ∷ 2 ∷ 1 ∷ [])) (pos 1) (negsuc 0 ∷ []) 1802 ≡ refused 3
unfolding ask_find_nnz_indices
e61 = refl

-- find_nnz_indices_call: refused 1
e62 : ask_find_nnz_indices (nums (2 ∷ 0 ∷ 5 ∷ [])) (pos 1) (negsuc 0 ∷ []) 0 ≡ refused 1
unfolding ask_find_nnz_indices
e62 = refl

-- find_nnz_indices_call: refused 2
e63 : ask_find_nnz_indices (nums (2 ∷ 0 ∷ 2 ∷ 3 ∷ 3 ∷ 3 ∷ 0 ∷ 1 ∷ 1 ∷ 0 ∷ 2 ∷ 2 ∷ 0 ∷ 0 ∷ [])) (pos 1) (nums (2 ∷ 2 ∷ [])) 1801 ≡ refused 2
unfolding ask_find_nnz_indices
e63 = refl

e64 : ask_find_nnz_indices (nums (2 ∷ 0 ∷ 1 ∷ 3 ∷ 2 ∷ 1 ∷ [])) (negsuc 0) [] 1801 ≡ refused 2
unfolding ask_find_nnz_indices
e64 = refl

-- find_nnz_indices_call: answered
e65 : ask_find_nnz_indices (nums (2 ∷ 0 ∷ 2 ∷ 3 ∷ 3 ∷ 3 ∷ 0 ∷ 1 ∷ 1 ∷ 0 ∷ 2 ∷ 2 ∷ 0 ∷ 0 ∷ [])) (pos 1) (nums (2 ∷ 2 ∷ [])) 1803 ≡ given (nums (2 ∷ []))
unfolding ask_find_nnz_indices
e65 = refl
