-- Examples: Stretching. Each holds by computation; the answers are those of the reading in tests/reading.
-- Written by tests/examples from tests/reading/examples.txt.
use mathlib.Core.Path.{◌≡◌, refl}
use mathlib.Core.Bool.{Bool, true, false}
use mathlib.Core.List.{List, [], ◌∷◌, map}
use Prim.Native.Nat.{ℕ}
use lib.IntN.{ℤ, pos, negsuc}
use Rattle.std.specs.declared.cmp.Ordering.{Ordering}
use Rattle.std.specs.declared.cmp.Ordering.TheVariants.{Less, Equal, Greater}
use Rattle.rules.specs.Refusals.{given, refused}
use Rattle.rules.specs.Endings.{found, nothing}
use Rattle.rules.proofs.Examples.Asked.{nums, ask_broadcast_to_shape, ask_broadcast_to_rank}

-- broadcast_to_shape_call: answered
e1 : ask_broadcast_to_shape (nums (0 ∷ 0 ∷ 0 ∷ 0 ∷ 0 ∷ 0 ∷ [])) (nums (1 ∷ 3 ∷ [])) 1802 10812 ≡ given (nums (0 ∷ 1 ∷ 1 ∷ 3 ∷ 0 ∷ 0 ∷ 0 ∷ []))
unfolding ask_broadcast_to_shape
e1 = refl

e2 : ask_broadcast_to_shape (nums (0 ∷ 0 ∷ 0 ∷ 0 ∷ 0 ∷ 1 ∷ 1 ∷ [])) (nums (1 ∷ 1 ∷ [])) 1802 20000 ≡ given (nums (0 ∷ 1 ∷ 1 ∷ 1 ∷ 0 ∷ 0 ∷ 1 ∷ 0 ∷ 1 ∷ []))
unfolding ask_broadcast_to_shape
e2 = refl

e3 : ask_broadcast_to_shape (nums (2 ∷ 1 ∷ 1 ∷ 1 ∷ 1 ∷ 0 ∷ 0 ∷ [])) (nums (1 ∷ 2 ∷ [])) 1802 10812 ≡ given (nums (2 ∷ 1 ∷ 1 ∷ 2 ∷ 1 ∷ 0 ∷ 0 ∷ []))
unfolding ask_broadcast_to_shape
e3 = refl

e4 : ask_broadcast_to_shape (nums (0 ∷ 2 ∷ 2 ∷ 4 ∷ 4 ∷ 0 ∷ 0 ∷ 0 ∷ [])) (nums (0 ∷ [])) 1802 10812 ≡ given (nums (0 ∷ 0 ∷ 0 ∷ 0 ∷ 0 ∷ 0 ∷ []))
unfolding ask_broadcast_to_shape
e4 = refl

e5 : ask_broadcast_to_shape (nums (2 ∷ 0 ∷ 0 ∷ 0 ∷ 0 ∷ 2 ∷ 2 ∷ 18 ∷ [])) (nums (0 ∷ [])) 1802 10812 ≡ given (nums (2 ∷ 0 ∷ 0 ∷ 0 ∷ 0 ∷ 2 ∷ 2 ∷ 18 ∷ []))
unfolding ask_broadcast_to_shape
e5 = refl

e6 : ask_broadcast_to_shape (nums (1 ∷ 0 ∷ 1 ∷ 1 ∷ 0 ∷ 0 ∷ 0 ∷ [])) (nums (1 ∷ 129 ∷ [])) 1802 10812 ≡ given (nums (1 ∷ 0 ∷ 1 ∷ 129 ∷ 0 ∷ 0 ∷ 0 ∷ []))
unfolding ask_broadcast_to_shape
e6 = refl

e7 : ask_broadcast_to_shape (nums (1 ∷ 1 ∷ 2 ∷ 1 ∷ 2 ∷ 0 ∷ 0 ∷ 0 ∷ [])) (nums (1 ∷ 2 ∷ [])) 1802 10812 ≡ given (nums (1 ∷ 0 ∷ 1 ∷ 2 ∷ 0 ∷ 0 ∷ 0 ∷ []))
unfolding ask_broadcast_to_shape
e7 = refl

e8 : ask_broadcast_to_shape (nums (2 ∷ 0 ∷ 1 ∷ 1 ∷ 1 ∷ 0 ∷ 0 ∷ 0 ∷ [])) (nums (1 ∷ 2 ∷ [])) 1802 10812 ≡ given (nums (2 ∷ 0 ∷ 1 ∷ 2 ∷ 2 ∷ 0 ∷ 1 ∷ 0 ∷ 0 ∷ []))
unfolding ask_broadcast_to_shape
e8 = refl

e9 : ask_broadcast_to_shape (nums (2 ∷ 0 ∷ 1 ∷ 2 ∷ 1 ∷ 1 ∷ 0 ∷ 0 ∷ [])) (nums (1 ∷ 2 ∷ [])) 1802 10812 ≡ given (nums (2 ∷ 0 ∷ 1 ∷ 2 ∷ 1 ∷ 1 ∷ 0 ∷ 0 ∷ []))
unfolding ask_broadcast_to_shape
e9 = refl

e10 : ask_broadcast_to_shape (nums (2 ∷ 1 ∷ 2 ∷ 1 ∷ 1 ∷ 0 ∷ 0 ∷ 0 ∷ [])) (nums (1 ∷ 1 ∷ [])) 1802 10812 ≡ given (nums (2 ∷ 0 ∷ 1 ∷ 1 ∷ 0 ∷ 0 ∷ 0 ∷ []))
unfolding ask_broadcast_to_shape
e10 = refl

e11 : ask_broadcast_to_shape (nums (0 ∷ 3 ∷ 3 ∷ 2 ∷ 2 ∷ 2 ∷ 0 ∷ 0 ∷ 0 ∷ [])) (nums (0 ∷ [])) 1802 20000 ≡ given (nums (0 ∷ 0 ∷ 0 ∷ 0 ∷ 0 ∷ 0 ∷ []))
unfolding ask_broadcast_to_shape
e11 = refl

e12 : ask_broadcast_to_shape (nums (1 ∷ 0 ∷ 2 ∷ 1 ∷ 1 ∷ 0 ∷ 0 ∷ 0 ∷ [])) (nums (2 ∷ 2 ∷ 2 ∷ [])) 1802 10812 ≡ given (nums (1 ∷ 0 ∷ 2 ∷ 2 ∷ 2 ∷ 0 ∷ 0 ∷ 0 ∷ []))
unfolding ask_broadcast_to_shape
e12 = refl

e13 : ask_broadcast_to_shape (nums (0 ∷ 1 ∷ 1 ∷ 1 ∷ 0 ∷ 1 ∷ 0 ∷ 0 ∷ 0 ∷ [])) (nums (1 ∷ 0 ∷ [])) 1802 10812 ≡ given (nums (0 ∷ 1 ∷ 1 ∷ 0 ∷ 0 ∷ 1 ∷ 0 ∷ 0 ∷ 0 ∷ []))
unfolding ask_broadcast_to_shape
e13 = refl

e14 : ask_broadcast_to_shape (nums (0 ∷ 1 ∷ 1 ∷ 1 ∷ 0 ∷ 1 ∷ 5 ∷ 7 ∷ 0 ∷ [])) (nums (1 ∷ 1 ∷ [])) 1802 10812 ≡ given (nums (0 ∷ 1 ∷ 1 ∷ 1 ∷ 0 ∷ 1 ∷ 5 ∷ 7 ∷ 0 ∷ []))
unfolding ask_broadcast_to_shape
e14 = refl

e15 : ask_broadcast_to_shape (nums (2 ∷ 0 ∷ 1 ∷ 2 ∷ 2 ∷ 1 ∷ 0 ∷ 0 ∷ 0 ∷ [])) (nums (1 ∷ 2 ∷ [])) 1802 10812 ≡ given (nums (2 ∷ 0 ∷ 1 ∷ 2 ∷ 2 ∷ 0 ∷ 1 ∷ 0 ∷ 0 ∷ []))
unfolding ask_broadcast_to_shape
e15 = refl

e16 : ask_broadcast_to_shape (nums (0 ∷ 4 ∷ 4 ∷ 3 ∷ 2 ∷ 3 ∷ 3 ∷ 0 ∷ 0 ∷ 0 ∷ [])) (nums (0 ∷ [])) 1803 10812 ≡ given (nums (0 ∷ 0 ∷ 0 ∷ 0 ∷ 0 ∷ 0 ∷ []))
unfolding ask_broadcast_to_shape
e16 = refl

e17 : ask_broadcast_to_shape (nums (0 ∷ 2 ∷ 2 ∷ 1 ∷ 1 ∷ 0 ∷ 1 ∷ 0 ∷ 0 ∷ 7 ∷ 0 ∷ [])) (nums (2 ∷ 2 ∷ 2 ∷ [])) 1802 10812 ≡ given (nums (0 ∷ 2 ∷ 2 ∷ 2 ∷ 2 ∷ 0 ∷ 3 ∷ 0 ∷ 0 ∷ 7 ∷ 0 ∷ 1 ∷ 7 ∷ 1 ∷ 0 ∷ 7 ∷ 0 ∷ []))
unfolding ask_broadcast_to_shape
e17 = refl

-- broadcast_to_shape_call: refused 1
e18 : ask_broadcast_to_shape [] (nums (5 ∷ [])) 0 0 ≡ refused 1
unfolding ask_broadcast_to_shape
e18 = refl

e19 : ask_broadcast_to_shape [] (nums (5 ∷ [])) 1802 10812 ≡ refused 1
unfolding ask_broadcast_to_shape
e19 = refl

e20 : ask_broadcast_to_shape (nums (0 ∷ 0 ∷ 5 ∷ [])) (negsuc 0 ∷ []) 0 0 ≡ refused 1
unfolding ask_broadcast_to_shape
e20 = refl

e21 : ask_broadcast_to_shape (nums (0 ∷ 0 ∷ 5 ∷ [])) (negsuc 0 ∷ []) 1802 10812 ≡ refused 1
unfolding ask_broadcast_to_shape
e21 = refl

e22 : ask_broadcast_to_shape (nums (0 ∷ 0 ∷ 0 ∷ 0 ∷ 0 ∷ 0 ∷ [])) (nums (5 ∷ [])) 1802 0 ≡ refused 1
unfolding ask_broadcast_to_shape
e22 = refl

-- broadcast_to_shape_call: refused 11
e23 : ask_broadcast_to_shape (nums (1 ∷ 0 ∷ 1 ∷ 2 ∷ 0 ∷ 0 ∷ 0 ∷ [])) (nums (0 ∷ [])) 1802 10812 ≡ refused 11
unfolding ask_broadcast_to_shape
e23 = refl

-- broadcast_to_shape_call: refused 12
e24 : ask_broadcast_to_shape (nums (1 ∷ 0 ∷ 2 ∷ 1 ∷ 1 ∷ 0 ∷ 0 ∷ 0 ∷ [])) (nums (2 ∷ 1 ∷ 2 ∷ [])) 1802 10812 ≡ refused 12
unfolding ask_broadcast_to_shape
e24 = refl

e25 : ask_broadcast_to_shape (nums (1 ∷ 0 ∷ 2 ∷ 1 ∷ 1 ∷ 0 ∷ 1 ∷ 0 ∷ 0 ∷ 3 ∷ 0 ∷ [])) (nums (2 ∷ 200 ∷ 129 ∷ [])) 1802 10812 ≡ refused 12
unfolding ask_broadcast_to_shape
e25 = refl

-- broadcast_to_shape_call: refused 13
e26 : ask_broadcast_to_shape (nums (2 ∷ 0 ∷ 1 ∷ 1 ∷ 1 ∷ 0 ∷ 0 ∷ 0 ∷ [])) (nums (1 ∷ 129 ∷ [])) 1802 10812 ≡ refused 13
unfolding ask_broadcast_to_shape
e26 = refl

e27 : ask_broadcast_to_shape (nums (0 ∷ 1 ∷ 1 ∷ 1 ∷ 0 ∷ 1 ∷ 0 ∷ 3 ∷ 0 ∷ [])) (nums (1 ∷ 129 ∷ [])) 1802 10812 ≡ refused 13
unfolding ask_broadcast_to_shape
e27 = refl

e28 : ask_broadcast_to_shape (nums (0 ∷ 1 ∷ 1 ∷ 1 ∷ 0 ∷ 1 ∷ 0 ∷ 3 ∷ 1 ∷ 0 ∷ 0 ∷ [])) (nums (1 ∷ 129 ∷ [])) 1802 10812 ≡ refused 13
unfolding ask_broadcast_to_shape
e28 = refl

-- broadcast_to_shape_call: refused 2
e29 : ask_broadcast_to_shape [] (negsuc 0 ∷ []) 0 0 ≡ refused 2
unfolding ask_broadcast_to_shape
e29 = refl

e30 : ask_broadcast_to_shape (nums (0 ∷ 0 ∷ 0 ∷ 0 ∷ 0 ∷ 0 ∷ [])) (negsuc 0 ∷ []) 0 0 ≡ refused 2
unfolding ask_broadcast_to_shape
e30 = refl

e31 : ask_broadcast_to_shape (nums (2 ∷ 0 ∷ 0 ∷ 1 ∷ 0 ∷ 0 ∷ [])) (nums (0 ∷ [])) 0 10812 ≡ refused 2
unfolding ask_broadcast_to_shape
e31 = refl

e32 : ask_broadcast_to_shape (nums (0 ∷ 0 ∷ 0 ∷ 0 ∷ 0 ∷ 0 ∷ [])) (nums (0 ∷ [])) 1802 10811 ≡ refused 2
unfolding ask_broadcast_to_shape
e32 = refl

e33 : ask_broadcast_to_shape (nums (1 ∷ 2 ∷ 2 ∷ 129 ∷ 129 ∷ 0 ∷ 0 ∷ 0 ∷ [])) (nums (0 ∷ [])) 1801 10813 ≡ refused 2
unfolding ask_broadcast_to_shape
e33 = refl

e34 : ask_broadcast_to_shape (nums (2 ∷ 0 ∷ 0 ∷ 1 ∷ 0 ∷ 1 ∷ 2147483647 ∷ [])) (nums (0 ∷ [])) 1801 10811 ≡ refused 2
unfolding ask_broadcast_to_shape
e34 = refl

-- broadcast_to_shape_call: refused 3
e35 : ask_broadcast_to_shape [] (negsuc 0 ∷ []) 1802 10812 ≡ refused 3
unfolding ask_broadcast_to_shape
e35 = refl

e36 : ask_broadcast_to_shape [] (nums (1 ∷ 1 ∷ [])) 1802 10812 ≡ refused 3
unfolding ask_broadcast_to_shape
e36 = refl

e37 : ask_broadcast_to_shape [] (nums (4 ∷ 2 ∷ 2 ∷ 2 ∷ 2 ∷ [])) 1802 10812 ≡ refused 3
unfolding ask_broadcast_to_shape
e37 = refl

-- broadcast_to_shape_call: refused 5
e38 : ask_broadcast_to_shape (nums (0 ∷ 0 ∷ 0 ∷ 0 ∷ 0 ∷ 0 ∷ [])) [] 1802 10812 ≡ refused 5
unfolding ask_broadcast_to_shape
e38 = refl

e39 : ask_broadcast_to_shape (nums (0 ∷ 0 ∷ 0 ∷ 0 ∷ 0 ∷ 0 ∷ [])) (negsuc 0 ∷ []) 1802 10812 ≡ refused 5
unfolding ask_broadcast_to_shape
e39 = refl

e40 : ask_broadcast_to_shape (nums (2 ∷ 0 ∷ 0 ∷ 1 ∷ 0 ∷ 0 ∷ [])) (nums (2 ∷ 65536 ∷ 2 ∷ [])) 1802 10812 ≡ refused 5
unfolding ask_broadcast_to_shape
e40 = refl

e41 : ask_broadcast_to_shape (nums (1 ∷ 0 ∷ 2 ∷ 3 ∷ 3 ∷ 0 ∷ 0 ∷ 0 ∷ [])) (pos 2 ∷ negsuc 2 ∷ pos 3 ∷ []) 1802 10813 ≡ refused 5
unfolding ask_broadcast_to_shape
e41 = refl

-- broadcast_to_shape_call: refused 6
e42 : ask_broadcast_to_shape (nums (0 ∷ 2 ∷ 2 ∷ 2 ∷ 1 ∷ 0 ∷ 0 ∷ 0 ∷ [])) (nums (2 ∷ 0 ∷ 1 ∷ [])) 1802 10812 ≡ refused 6
unfolding ask_broadcast_to_shape
e42 = refl

e43 : ask_broadcast_to_shape (nums (1 ∷ 0 ∷ 2 ∷ 255 ∷ 255 ∷ 0 ∷ 0 ∷ 0 ∷ [])) (nums (1 ∷ 0 ∷ [])) 1802 10812 ≡ refused 6
unfolding ask_broadcast_to_shape
e43 = refl

-- broadcast_to_rank_call: answered
e44 : ask_broadcast_to_rank (nums (2 ∷ 0 ∷ 0 ∷ 1 ∷ 0 ∷ 0 ∷ [])) (pos 0) 1802 10812 ≡ given (nums (2 ∷ 0 ∷ 0 ∷ 1 ∷ 0 ∷ 0 ∷ []))
unfolding ask_broadcast_to_rank
e44 = refl

e45 : ask_broadcast_to_rank (nums (0 ∷ 0 ∷ 0 ∷ 0 ∷ 0 ∷ 1 ∷ 3 ∷ [])) (pos 2) 2000 10813 ≡ given (nums (0 ∷ 2 ∷ 2 ∷ 1 ∷ 1 ∷ 0 ∷ 0 ∷ 1 ∷ 0 ∷ 0 ∷ 3 ∷ []))
unfolding ask_broadcast_to_rank
e45 = refl

e46 : ask_broadcast_to_rank (nums (0 ∷ 1 ∷ 1 ∷ 1 ∷ 0 ∷ 0 ∷ 0 ∷ [])) (pos 1) 1802 10812 ≡ given (nums (0 ∷ 1 ∷ 1 ∷ 1 ∷ 0 ∷ 0 ∷ 0 ∷ []))
unfolding ask_broadcast_to_rank
e46 = refl

e47 : ask_broadcast_to_rank (nums (1 ∷ 0 ∷ 1 ∷ 1 ∷ 0 ∷ 0 ∷ 0 ∷ [])) (pos 1) 1802 20000 ≡ given (nums (1 ∷ 0 ∷ 1 ∷ 1 ∷ 0 ∷ 0 ∷ 0 ∷ []))
unfolding ask_broadcast_to_rank
e47 = refl

e48 : ask_broadcast_to_rank (nums (2 ∷ 0 ∷ 1 ∷ 3 ∷ 0 ∷ 0 ∷ 0 ∷ [])) (pos 1) 1802 10812 ≡ given (nums (2 ∷ 0 ∷ 1 ∷ 3 ∷ 0 ∷ 0 ∷ 0 ∷ []))
unfolding ask_broadcast_to_rank
e48 = refl

e49 : ask_broadcast_to_rank (nums (2 ∷ 1 ∷ 1 ∷ 0 ∷ 1 ∷ 0 ∷ 0 ∷ [])) (pos 1) 1802 10812 ≡ given (nums (2 ∷ 1 ∷ 1 ∷ 0 ∷ 1 ∷ 0 ∷ 0 ∷ []))
unfolding ask_broadcast_to_rank
e49 = refl

e50 : ask_broadcast_to_rank (nums (0 ∷ 2 ∷ 2 ∷ 1 ∷ 1 ∷ 0 ∷ 0 ∷ 0 ∷ [])) (pos 0) 1802 10812 ≡ given (nums (0 ∷ 0 ∷ 0 ∷ 0 ∷ 0 ∷ 0 ∷ []))
unfolding ask_broadcast_to_rank
e50 = refl

e51 : ask_broadcast_to_rank (nums (1 ∷ 0 ∷ 2 ∷ 2 ∷ 2 ∷ 0 ∷ 0 ∷ 0 ∷ [])) (pos 2) 1802 10812 ≡ given (nums (1 ∷ 0 ∷ 2 ∷ 2 ∷ 2 ∷ 0 ∷ 0 ∷ 0 ∷ []))
unfolding ask_broadcast_to_rank
e51 = refl

e52 : ask_broadcast_to_rank (nums (1 ∷ 1 ∷ 2 ∷ 1 ∷ 1 ∷ 0 ∷ 0 ∷ 0 ∷ [])) (pos 2) 1802 10812 ≡ given (nums (1 ∷ 1 ∷ 2 ∷ 1 ∷ 1 ∷ 0 ∷ 0 ∷ 0 ∷ []))
unfolding ask_broadcast_to_rank
e52 = refl

e53 : ask_broadcast_to_rank (nums (2 ∷ 0 ∷ 2 ∷ 0 ∷ 0 ∷ 0 ∷ 0 ∷ 0 ∷ [])) (pos 2) 1802 20000 ≡ given (nums (2 ∷ 0 ∷ 2 ∷ 0 ∷ 0 ∷ 0 ∷ 0 ∷ 0 ∷ []))
unfolding ask_broadcast_to_rank
e53 = refl

e54 : ask_broadcast_to_rank (nums (2 ∷ 1 ∷ 2 ∷ 4 ∷ 4 ∷ 0 ∷ 0 ∷ 0 ∷ [])) (pos 2) 1802 10812 ≡ given (nums (2 ∷ 1 ∷ 2 ∷ 4 ∷ 4 ∷ 0 ∷ 0 ∷ 0 ∷ []))
unfolding ask_broadcast_to_rank
e54 = refl

e55 : ask_broadcast_to_rank (nums (2 ∷ 2 ∷ 2 ∷ 1 ∷ 1 ∷ 1 ∷ 0 ∷ 0 ∷ [])) (pos 1) 1802 10812 ≡ given (nums (2 ∷ 1 ∷ 1 ∷ 1 ∷ 1 ∷ 0 ∷ 0 ∷ []))
unfolding ask_broadcast_to_rank
e55 = refl

e56 : ask_broadcast_to_rank (nums (0 ∷ 3 ∷ 3 ∷ 1 ∷ 1 ∷ 1 ∷ 0 ∷ 0 ∷ 0 ∷ [])) (pos 1) 1802 10812 ≡ given (nums (0 ∷ 1 ∷ 1 ∷ 1 ∷ 0 ∷ 0 ∷ 0 ∷ []))
unfolding ask_broadcast_to_rank
e56 = refl

e57 : ask_broadcast_to_rank (nums (0 ∷ 4 ∷ 4 ∷ 1 ∷ 1 ∷ 1 ∷ 1 ∷ 0 ∷ 0 ∷ 0 ∷ [])) (pos 0) 1803 10812 ≡ given (nums (0 ∷ 0 ∷ 0 ∷ 0 ∷ 0 ∷ 0 ∷ []))
unfolding ask_broadcast_to_rank
e57 = refl

e58 : ask_broadcast_to_rank (nums (2 ∷ 4 ∷ 4 ∷ 1 ∷ 1 ∷ 1 ∷ 1 ∷ 1 ∷ 0 ∷ 0 ∷ [])) (pos 0) 1802 10812 ≡ given (nums (2 ∷ 0 ∷ 0 ∷ 1 ∷ 0 ∷ 0 ∷ []))
unfolding ask_broadcast_to_rank
e58 = refl

-- broadcast_to_rank_call: refused 1
e59 : ask_broadcast_to_rank [] (pos 5) 0 0 ≡ refused 1
unfolding ask_broadcast_to_rank
e59 = refl

e60 : ask_broadcast_to_rank [] (pos 5) 1802 10812 ≡ refused 1
unfolding ask_broadcast_to_rank
e60 = refl

e61 : ask_broadcast_to_rank (nums (0 ∷ 0 ∷ 5 ∷ [])) (negsuc 0) 0 0 ≡ refused 1
unfolding ask_broadcast_to_rank
e61 = refl

e62 : ask_broadcast_to_rank (nums (0 ∷ 0 ∷ 5 ∷ [])) (negsuc 0) 1802 10812 ≡ refused 1
unfolding ask_broadcast_to_rank
e62 = refl

e63 : ask_broadcast_to_rank (nums (0 ∷ 0 ∷ 0 ∷ 0 ∷ 0 ∷ 0 ∷ [])) (pos 5) 1802 10812 ≡ refused 1
unfolding ask_broadcast_to_rank
e63 = refl

-- broadcast_to_rank_call: refused 11
e64 : ask_broadcast_to_rank (nums (1 ∷ 0 ∷ 1 ∷ 1 ∷ 0 ∷ 0 ∷ 0 ∷ [])) (pos 0) 1802 10812 ≡ refused 11
unfolding ask_broadcast_to_rank
e64 = refl

-- broadcast_to_rank_call: refused 2
e65 : ask_broadcast_to_rank [] (negsuc 0) 0 0 ≡ refused 2
unfolding ask_broadcast_to_rank
e65 = refl

e66 : ask_broadcast_to_rank [] (pos 3) 0 10812 ≡ refused 2
unfolding ask_broadcast_to_rank
e66 = refl

e67 : ask_broadcast_to_rank (nums (0 ∷ 0 ∷ 0 ∷ 0 ∷ 0 ∷ 0 ∷ [])) (negsuc 0) 0 0 ≡ refused 2
unfolding ask_broadcast_to_rank
e67 = refl

-- broadcast_to_rank_call: refused 3
e68 : ask_broadcast_to_rank [] (negsuc 0) 1802 10812 ≡ refused 3
unfolding ask_broadcast_to_rank
e68 = refl

e69 : ask_broadcast_to_rank (nums (0 ∷ [])) (pos 4) 1802 10812 ≡ refused 3
unfolding ask_broadcast_to_rank
e69 = refl

-- broadcast_to_rank_call: refused 5
e70 : ask_broadcast_to_rank (nums (0 ∷ 0 ∷ 0 ∷ 0 ∷ 0 ∷ 0 ∷ [])) (negsuc 0) 1802 10812 ≡ refused 5
unfolding ask_broadcast_to_rank
e70 = refl

e71 : ask_broadcast_to_rank (nums (1 ∷ 0 ∷ 1 ∷ 2 ∷ 0 ∷ 0 ∷ 0 ∷ [])) (negsuc 2147483647) 1802 10812 ≡ refused 5
unfolding ask_broadcast_to_rank
e71 = refl

-- broadcast_to_rank_call: refused 6
e72 : ask_broadcast_to_rank (nums (2 ∷ 0 ∷ 2 ∷ 1 ∷ 2 ∷ 0 ∷ 0 ∷ 0 ∷ [])) (pos 1) 1802 10812 ≡ refused 6
unfolding ask_broadcast_to_rank
e72 = refl
