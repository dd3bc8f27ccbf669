-- Examples: Shapes. Each holds by computation; the answers are those of the reading in tests/reading.
-- Written by tests/examples from tests/reading/examples.txt.
use mathlib.Core.Path.{◌≡◌, refl}
use mathlib.Core.Bool.{Bool, true, false}
use mathlib.Core.List.{List, [], ◌∷◌, map}
use Prim.Native.Nat.{ℕ}
use lib.IntN.{ℤ, pos, negsuc}
use Rattle.std.specs.declared.cmp.Ordering.{Ordering}
use Rattle.std.specs.declared.cmp.Ordering.TheVariants.{Less, Equal, Greater}
use Rattle.rules.specs.Refusals.{given, refused}
use Rattle.rules.specs.Endings.{found, nothing}
use Rattle.rules.proofs.Examples.Asked.{nums, ask_broadcast_shapes, ask_can_broadcast_to}

-- broadcast_shapes_call: answered
e1 : ask_broadcast_shapes (nums (0 ∷ [])) (pos 1) ≡ given ([])
unfolding ask_broadcast_shapes
e1 = refl

e2 : ask_broadcast_shapes (nums (0 ∷ 0 ∷ [])) (pos 1) ≡ given ([])
unfolding ask_broadcast_shapes
e2 = refl

e3 : ask_broadcast_shapes (nums (0 ∷ 0 ∷ [])) (pos 2) ≡ given ([])
unfolding ask_broadcast_shapes
e3 = refl

e4 : ask_broadcast_shapes (nums (0 ∷ 2 ∷ [])) (pos 1) ≡ given ([])
unfolding ask_broadcast_shapes
e4 = refl

e5 : ask_broadcast_shapes (nums (1 ∷ 0 ∷ [])) (pos 1) ≡ given (0 ∷ [])
unfolding ask_broadcast_shapes
e5 = refl

e6 : ask_broadcast_shapes (nums (1 ∷ 1 ∷ [])) (pos 1) ≡ given (1 ∷ [])
unfolding ask_broadcast_shapes
e6 = refl

e7 : ask_broadcast_shapes (nums (1 ∷ 2 ∷ [])) (pos 1) ≡ given (2 ∷ [])
unfolding ask_broadcast_shapes
e7 = refl

e8 : ask_broadcast_shapes (nums (1 ∷ 3 ∷ [])) (pos 1) ≡ given (3 ∷ [])
unfolding ask_broadcast_shapes
e8 = refl

e9 : ask_broadcast_shapes (nums (1 ∷ 4 ∷ [])) (pos 1) ≡ given (4 ∷ [])
unfolding ask_broadcast_shapes
e9 = refl

e10 : ask_broadcast_shapes (nums (0 ∷ 0 ∷ 0 ∷ [])) (pos 3) ≡ given ([])
unfolding ask_broadcast_shapes
e10 = refl

e11 : ask_broadcast_shapes (nums (0 ∷ 1 ∷ 1 ∷ [])) (pos 2) ≡ given (1 ∷ [])
unfolding ask_broadcast_shapes
e11 = refl

e12 : ask_broadcast_shapes (nums (0 ∷ 1 ∷ 2 ∷ [])) (pos 2) ≡ given (2 ∷ [])
unfolding ask_broadcast_shapes
e12 = refl

e13 : ask_broadcast_shapes (nums (1 ∷ 1 ∷ 0 ∷ [])) (pos 2) ≡ given (1 ∷ [])
unfolding ask_broadcast_shapes
e13 = refl

e14 : ask_broadcast_shapes (nums (1 ∷ 2 ∷ 7 ∷ [])) (pos 1) ≡ given (2 ∷ [])
unfolding ask_broadcast_shapes
e14 = refl

e15 : ask_broadcast_shapes (nums (1 ∷ 2 ∷ 9 ∷ [])) (pos 1) ≡ given (2 ∷ [])
unfolding ask_broadcast_shapes
e15 = refl

e16 : ask_broadcast_shapes (nums (1 ∷ 3 ∷ 0 ∷ [])) (pos 2) ≡ given (3 ∷ [])
unfolding ask_broadcast_shapes
e16 = refl

e17 : ask_broadcast_shapes (pos 0 ∷ pos 0 ∷ negsuc 1 ∷ pos 3 ∷ pos 0 ∷ []) (pos 2) ≡ given ([])
unfolding ask_broadcast_shapes
e17 = refl

-- broadcast_shapes_call: refused 1
e18 : ask_broadcast_shapes [] (pos 17) ≡ refused 1
unfolding ask_broadcast_shapes
e18 = refl

e19 : ask_broadcast_shapes (nums (0 ∷ 6 ∷ [])) (pos 2) ≡ refused 1
unfolding ask_broadcast_shapes
e19 = refl

e20 : ask_broadcast_shapes (pos 1 ∷ negsuc 0 ∷ pos 5 ∷ []) (pos 2) ≡ refused 1
unfolding ask_broadcast_shapes
e20 = refl

-- broadcast_shapes_call: refused 5
e21 : ask_broadcast_shapes [] (pos 1) ≡ refused 5
unfolding ask_broadcast_shapes
e21 = refl

e22 : ask_broadcast_shapes (nums (0 ∷ [])) (pos 16) ≡ refused 5
unfolding ask_broadcast_shapes
e22 = refl

e23 : ask_broadcast_shapes (nums (2 ∷ 256 ∷ 257 ∷ [])) (pos 1) ≡ refused 5
unfolding ask_broadcast_shapes
e23 = refl

e24 : ask_broadcast_shapes (nums (4 ∷ 4 ∷ 3 ∷ 2 ∷ 1 ∷ [])) (pos 2) ≡ refused 5
unfolding ask_broadcast_shapes
e24 = refl

e25 : ask_broadcast_shapes (pos 2 ∷ negsuc 0 ∷ pos 1 ∷ pos 2 ∷ pos 2 ∷ pos 2 ∷ []) (pos 2) ≡ refused 5
unfolding ask_broadcast_shapes
e25 = refl

-- broadcast_shapes_call: refused 6
e26 : ask_broadcast_shapes [] (pos 0) ≡ refused 6
unfolding ask_broadcast_shapes
e26 = refl

e27 : ask_broadcast_shapes (nums (0 ∷ 1 ∷ 0 ∷ [])) (pos 2) ≡ refused 6
unfolding ask_broadcast_shapes
e27 = refl

e28 : ask_broadcast_shapes (nums (2 ∷ 256 ∷ 1 ∷ 2 ∷ 2 ∷ 257 ∷ [])) (pos 2) ≡ refused 6
unfolding ask_broadcast_shapes
e28 = refl

-- can_broadcast_to_call: answered
e29 : ask_can_broadcast_to (nums (0 ∷ [])) (nums (0 ∷ [])) ≡ given true
unfolding ask_can_broadcast_to
e29 = refl

e30 : ask_can_broadcast_to (nums (0 ∷ [])) (nums (0 ∷ 2 ∷ [])) ≡ given true
unfolding ask_can_broadcast_to
e30 = refl

e31 : ask_can_broadcast_to (nums (0 ∷ [])) (nums (1 ∷ 3 ∷ [])) ≡ given false
unfolding ask_can_broadcast_to
e31 = refl

e32 : ask_can_broadcast_to (nums (0 ∷ 3 ∷ [])) (nums (0 ∷ [])) ≡ given true
unfolding ask_can_broadcast_to
e32 = refl

e33 : ask_can_broadcast_to (nums (1 ∷ 1 ∷ [])) (nums (0 ∷ [])) ≡ given true
unfolding ask_can_broadcast_to
e33 = refl

e34 : ask_can_broadcast_to (nums (1 ∷ 2 ∷ [])) (nums (0 ∷ [])) ≡ given true
unfolding ask_can_broadcast_to
e34 = refl

e35 : ask_can_broadcast_to (nums (1 ∷ 3 ∷ [])) (nums (0 ∷ [])) ≡ given true
unfolding ask_can_broadcast_to
e35 = refl

e36 : ask_can_broadcast_to (nums (1 ∷ 4 ∷ [])) (nums (0 ∷ [])) ≡ given true
unfolding ask_can_broadcast_to
e36 = refl

e37 : ask_can_broadcast_to (nums (1 ∷ 0 ∷ [])) (nums (1 ∷ 1 ∷ [])) ≡ given false
unfolding ask_can_broadcast_to
e37 = refl

e38 : ask_can_broadcast_to (nums (1 ∷ 1 ∷ [])) (nums (1 ∷ 2 ∷ [])) ≡ given false
unfolding ask_can_broadcast_to
e38 = refl

e39 : ask_can_broadcast_to (nums (1 ∷ 2 ∷ [])) (nums (1 ∷ 1 ∷ [])) ≡ given true
unfolding ask_can_broadcast_to
e39 = refl

e40 : ask_can_broadcast_to (nums (1 ∷ 3 ∷ [])) (nums (1 ∷ 1 ∷ [])) ≡ given true
unfolding ask_can_broadcast_to
e40 = refl

e41 : ask_can_broadcast_to (nums (0 ∷ 2 ∷ 3 ∷ [])) (nums (0 ∷ [])) ≡ given true
unfolding ask_can_broadcast_to
e41 = refl

e42 : ask_can_broadcast_to (nums (2 ∷ 1 ∷ 2 ∷ [])) (nums (0 ∷ [])) ≡ given true
unfolding ask_can_broadcast_to
e42 = refl

e43 : ask_can_broadcast_to (nums (2 ∷ 2 ∷ 2 ∷ [])) (nums (0 ∷ [])) ≡ given true
unfolding ask_can_broadcast_to
e43 = refl

-- can_broadcast_to_call: refused 1
e44 : ask_can_broadcast_to (nums (0 ∷ [])) (nums (6 ∷ [])) ≡ refused 1
unfolding ask_can_broadcast_to
e44 = refl

e45 : ask_can_broadcast_to (negsuc 0 ∷ []) (nums (5 ∷ [])) ≡ refused 1
unfolding ask_can_broadcast_to
e45 = refl

e46 : ask_can_broadcast_to (nums (5 ∷ [])) (negsuc 0 ∷ []) ≡ refused 1
unfolding ask_can_broadcast_to
e46 = refl

-- can_broadcast_to_call: refused 5
e47 : ask_can_broadcast_to [] (nums (0 ∷ [])) ≡ refused 5
unfolding ask_can_broadcast_to
e47 = refl
