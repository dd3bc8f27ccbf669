-- Examples: Modes. Each holds by computation; the answers are those of the reading in tests/reading.
-- Written by tests/examples from tests/reading/examples.txt.
use mathlib.Core.Path.{◌≡◌, refl}
use mathlib.Core.Bool.{Bool, true, false}
use mathlib.Core.List.{List, [], ◌∷◌, map}
use Prim.Native.Nat.{ℕ}
use lib.IntN.{ℤ, pos, negsuc}
use Rattle.std.specs.declared.cmp.Ordering.{Ordering}
use Rattle.std.specs.declared.cmp.Ordering.TheVariants.{Less, Equal, Greater}
use Rattle.rules.specs.Refusals.{given, refused}
use Rattle.rules.specs.Endings.{found, nothing}
use Rattle.rules.proofs.Examples.Asked.{nums, ask_broadcast_to_shape_with_mode, ask_broadcast_to_rank_with_mode, ask_broadcast_with_mode}

-- broadcast_to_shape_with_mode_call: answered
e1 : ask_broadcast_to_shape_with_mode (nums (0 ∷ 0 ∷ 0 ∷ 0 ∷ 0 ∷ 0 ∷ [])) (nums (0 ∷ [])) (pos 1) 1802 10812 ≡ given (nums (0 ∷ 0 ∷ 0 ∷ 0 ∷ 0 ∷ 0 ∷ []))
unfolding ask_broadcast_to_shape_with_mode
e1 = refl

e2 : ask_broadcast_to_shape_with_mode (nums (0 ∷ 1 ∷ 1 ∷ 1 ∷ 0 ∷ 0 ∷ 0 ∷ [])) (nums (0 ∷ [])) (pos 1) 1802 10812 ≡ given (nums (0 ∷ 0 ∷ 0 ∷ 0 ∷ 0 ∷ 0 ∷ []))
unfolding ask_broadcast_to_shape_with_mode
e2 = refl

e3 : ask_broadcast_to_shape_with_mode (nums (2 ∷ 1 ∷ 1 ∷ 2 ∷ 1 ∷ 0 ∷ 0 ∷ [])) (nums (0 ∷ [])) (pos 1) 1802 10812 ≡ given (nums (2 ∷ 0 ∷ 0 ∷ 1 ∷ 0 ∷ 0 ∷ []))
unfolding ask_broadcast_to_shape_with_mode
e3 = refl

e4 : ask_broadcast_to_shape_with_mode (nums (2 ∷ 0 ∷ 0 ∷ 1 ∷ 0 ∷ 0 ∷ [])) (nums (2 ∷ 2 ∷ 0 ∷ [])) (pos 0) 1802 10812 ≡ given (nums (2 ∷ 2 ∷ 2 ∷ 2 ∷ 0 ∷ 1 ∷ 0 ∷ 0 ∷ []))
unfolding ask_broadcast_to_shape_with_mode
e4 = refl

e5 : ask_broadcast_to_shape_with_mode (nums (1 ∷ 0 ∷ 1 ∷ 2 ∷ 0 ∷ 0 ∷ 0 ∷ [])) (nums (1 ∷ 2 ∷ [])) (pos 1) 1803 10812 ≡ given (nums (1 ∷ 0 ∷ 1 ∷ 2 ∷ 0 ∷ 0 ∷ 0 ∷ []))
unfolding ask_broadcast_to_shape_with_mode
e5 = refl

e6 : ask_broadcast_to_shape_with_mode (nums (2 ∷ 0 ∷ 1 ∷ 2 ∷ 0 ∷ 0 ∷ 0 ∷ [])) (nums (1 ∷ 2 ∷ [])) (pos 1) 1802 10812 ≡ given (nums (2 ∷ 0 ∷ 1 ∷ 2 ∷ 0 ∷ 0 ∷ 0 ∷ []))
unfolding ask_broadcast_to_shape_with_mode
e6 = refl

e7 : ask_broadcast_to_shape_with_mode (nums (2 ∷ 2 ∷ 2 ∷ 1 ∷ 1 ∷ 1 ∷ 0 ∷ 0 ∷ [])) (nums (0 ∷ [])) (pos 1) 1802 10812 ≡ given (nums (2 ∷ 0 ∷ 0 ∷ 1 ∷ 0 ∷ 0 ∷ []))
unfolding ask_broadcast_to_shape_with_mode
e7 = refl

e8 : ask_broadcast_to_shape_with_mode (nums (0 ∷ 2 ∷ 2 ∷ 2 ∷ 2 ∷ 0 ∷ 0 ∷ 0 ∷ [])) (nums (1 ∷ 2 ∷ [])) (pos 1) 1802 10812 ≡ given (nums (0 ∷ 1 ∷ 1 ∷ 2 ∷ 0 ∷ 0 ∷ 0 ∷ []))
unfolding ask_broadcast_to_shape_with_mode
e8 = refl

e9 : ask_broadcast_to_shape_with_mode (nums (1 ∷ 1 ∷ 2 ∷ 1 ∷ 4 ∷ 0 ∷ 0 ∷ 0 ∷ [])) (nums (1 ∷ 1 ∷ [])) (pos 0) 1802 10812 ≡ given (nums (1 ∷ 0 ∷ 1 ∷ 1 ∷ 0 ∷ 0 ∷ 0 ∷ []))
unfolding ask_broadcast_to_shape_with_mode
e9 = refl

e10 : ask_broadcast_to_shape_with_mode (nums (2 ∷ 3 ∷ 3 ∷ 1 ∷ 1 ∷ 2 ∷ 1 ∷ 0 ∷ 0 ∷ [])) (nums (1 ∷ 2 ∷ [])) (pos 1) 1802 10812 ≡ given (nums (2 ∷ 1 ∷ 1 ∷ 2 ∷ 1 ∷ 0 ∷ 0 ∷ []))
unfolding ask_broadcast_to_shape_with_mode
e10 = refl

e11 : ask_broadcast_to_shape_with_mode (nums (0 ∷ 2 ∷ 2 ∷ 1 ∷ 1 ∷ 0 ∷ 1 ∷ 0 ∷ 0 ∷ 7 ∷ 0 ∷ [])) (nums (2 ∷ 2 ∷ 2 ∷ [])) (pos 0) 1802 10812 ≡ given (nums (0 ∷ 2 ∷ 2 ∷ 2 ∷ 2 ∷ 0 ∷ 3 ∷ 0 ∷ 0 ∷ 7 ∷ 0 ∷ 1 ∷ 7 ∷ 1 ∷ 0 ∷ 7 ∷ 0 ∷ []))
unfolding ask_broadcast_to_shape_with_mode
e11 = refl

e12 : ask_broadcast_to_shape_with_mode (nums (0 ∷ 2 ∷ 2 ∷ 1 ∷ 1 ∷ 0 ∷ 1 ∷ 0 ∷ 0 ∷ 7 ∷ 0 ∷ [])) (nums (2 ∷ 2 ∷ 2 ∷ [])) (pos 1) 1802 10812 ≡ given (nums (0 ∷ 2 ∷ 2 ∷ 2 ∷ 2 ∷ 0 ∷ 4 ∷ 0 ∷ 0 ∷ 7 ∷ 0 ∷ 1 ∷ 7 ∷ 1 ∷ 0 ∷ 7 ∷ 1 ∷ 1 ∷ 7 ∷ 0 ∷ []))
unfolding ask_broadcast_to_shape_with_mode
e12 = refl

e13 : ask_broadcast_to_shape_with_mode (nums (0 ∷ 2 ∷ 2 ∷ 1 ∷ 1 ∷ 0 ∷ 1 ∷ 0 ∷ 0 ∷ 7 ∷ 0 ∷ [])) (nums (2 ∷ 3 ∷ 43 ∷ [])) (pos 0) 1802 10812 ≡ given (nums (0 ∷ 2 ∷ 2 ∷ 3 ∷ 43 ∷ 0 ∷ 45 ∷ 0 ∷ 0 ∷ 7 ∷ 0 ∷ 1 ∷ 7 ∷ 0 ∷ 2 ∷ 7 ∷ 0 ∷ 3 ∷ 7 ∷ 0 ∷ 4 ∷ 7 ∷ 0 ∷ 5 ∷ 7 ∷ 0 ∷ 6 ∷ 7 ∷ 0 ∷ 7 ∷ 7 ∷ 0 ∷ 8 ∷ 7 ∷ 0 ∷ 9 ∷ 7 ∷ 0 ∷ 10 ∷ 7 ∷ 0 ∷ 11 ∷ 7 ∷ 0 ∷ 12 ∷ 7 ∷ 0 ∷ 13 ∷ 7 ∷ 0 ∷ 14 ∷ 7 ∷ 0 ∷ 15 ∷ 7 ∷ 0 ∷ 16 ∷ 7 ∷ 0 ∷ 17 ∷ 7 ∷ 0 ∷ 18 ∷ 7 ∷ 0 ∷ 19 ∷ 7 ∷ 0 ∷ 20 ∷ 7 ∷ 0 ∷ 21 ∷ 7 ∷ 0 ∷ 22 ∷ 7 ∷ 0 ∷ 23 ∷ 7 ∷ 0 ∷ 24 ∷ 7 ∷ 0 ∷ 25 ∷ 7 ∷ 0 ∷ 26 ∷ 7 ∷ 0 ∷ 27 ∷ 7 ∷ 0 ∷ 28 ∷ 7 ∷ 0 ∷ 29 ∷ 7 ∷ 0 ∷ 30 ∷ 7 ∷ 0 ∷ 31 ∷ 7 ∷ 0 ∷ 32 ∷ 7 ∷ 0 ∷ 33 ∷ 7 ∷ 0 ∷ 34 ∷ 7 ∷ 0 ∷ 35 ∷ 7 ∷ 0 ∷ 36 ∷ 7 ∷ 0 ∷ 37 ∷ 7 ∷ 0 ∷ 38 ∷ 7 ∷ 0 ∷ 39 ∷ 7 ∷ 0 ∷ 40 ∷ 7 ∷ 0 ∷ 41 ∷ 7 ∷ 0 ∷ 42 ∷ 7 ∷ 1 ∷ 0 ∷ 7 ∷ 2 ∷ 0 ∷ 7 ∷ 0 ∷ []))
unfolding ask_broadcast_to_shape_with_mode
e13 = refl

e14 : ask_broadcast_to_shape_with_mode (nums (0 ∷ 2 ∷ 2 ∷ 1 ∷ 1 ∷ 0 ∷ 1 ∷ 0 ∷ 0 ∷ 7 ∷ 0 ∷ [])) (nums (3 ∷ 2 ∷ 2 ∷ 2 ∷ [])) (pos 0) 1802 10812 ≡ given (nums (0 ∷ 3 ∷ 3 ∷ 2 ∷ 2 ∷ 2 ∷ 0 ∷ 4 ∷ 0 ∷ 0 ∷ 0 ∷ 7 ∷ 0 ∷ 0 ∷ 1 ∷ 7 ∷ 0 ∷ 1 ∷ 0 ∷ 7 ∷ 1 ∷ 0 ∷ 0 ∷ 7 ∷ 0 ∷ []))
unfolding ask_broadcast_to_shape_with_mode
e14 = refl

e15 : ask_broadcast_to_shape_with_mode (nums (0 ∷ 2 ∷ 2 ∷ 1 ∷ 1 ∷ 0 ∷ 1 ∷ 0 ∷ 0 ∷ 7 ∷ 0 ∷ [])) (nums (3 ∷ 2 ∷ 2 ∷ 2 ∷ [])) (pos 1) 1802 10812 ≡ given (nums (0 ∷ 3 ∷ 3 ∷ 2 ∷ 2 ∷ 2 ∷ 0 ∷ 8 ∷ 0 ∷ 0 ∷ 0 ∷ 7 ∷ 0 ∷ 0 ∷ 1 ∷ 7 ∷ 0 ∷ 1 ∷ 0 ∷ 7 ∷ 0 ∷ 1 ∷ 1 ∷ 7 ∷ 1 ∷ 0 ∷ 0 ∷ 7 ∷ 1 ∷ 0 ∷ 1 ∷ 7 ∷ 1 ∷ 1 ∷ 0 ∷ 7 ∷ 1 ∷ 1 ∷ 1 ∷ 7 ∷ 0 ∷ []))
unfolding ask_broadcast_to_shape_with_mode
e15 = refl

e16 : ask_broadcast_to_shape_with_mode (nums (0 ∷ 2 ∷ 2 ∷ 1 ∷ 1 ∷ 0 ∷ 1 ∷ 0 ∷ 0 ∷ 7 ∷ 0 ∷ [])) (nums (2 ∷ 65536 ∷ 0 ∷ [])) (pos 1) 1802 10812 ≡ given (nums (0 ∷ 2 ∷ 2 ∷ 65536 ∷ 0 ∷ 0 ∷ 0 ∷ 0 ∷ []))
unfolding ask_broadcast_to_shape_with_mode
e16 = refl

e17 : ask_broadcast_to_shape_with_mode (nums (0 ∷ 2 ∷ 2 ∷ 1 ∷ 1 ∷ 0 ∷ 3 ∷ 0 ∷ 6 ∷ 7 ∷ 5 ∷ 0 ∷ 7 ∷ 5 ∷ 6 ∷ 8 ∷ 1 ∷ 9 ∷ 9 ∷ 2147483647 ∷ [])) (nums (1 ∷ 2 ∷ [])) (pos 0) 1802 10812 ≡ given (nums (0 ∷ 1 ∷ 1 ∷ 2 ∷ 0 ∷ 6 ∷ 0 ∷ 7 ∷ 0 ∷ 8 ∷ 1 ∷ 7 ∷ 1 ∷ 8 ∷ 5 ∷ 7 ∷ 5 ∷ 8 ∷ 3 ∷ 0 ∷ 2147483647 ∷ 1 ∷ 2147483647 ∷ 9 ∷ 2147483647 ∷ []))
unfolding ask_broadcast_to_shape_with_mode
e17 = refl

e18 : ask_broadcast_to_shape_with_mode (nums (0 ∷ 2 ∷ 2 ∷ 1 ∷ 1 ∷ 0 ∷ 3 ∷ 0 ∷ 6 ∷ 7 ∷ 5 ∷ 0 ∷ 7 ∷ 5 ∷ 6 ∷ 8 ∷ 1 ∷ 9 ∷ 9 ∷ 2147483647 ∷ [])) (nums (1 ∷ 2 ∷ [])) (pos 1) 1802 10812 ≡ given (nums (0 ∷ 1 ∷ 1 ∷ 2 ∷ 0 ∷ 4 ∷ 0 ∷ 7 ∷ 0 ∷ 8 ∷ 1 ∷ 7 ∷ 1 ∷ 8 ∷ 2 ∷ 0 ∷ 2147483647 ∷ 1 ∷ 2147483647 ∷ []))
unfolding ask_broadcast_to_shape_with_mode
e18 = refl

e19 : ask_broadcast_to_shape_with_mode (nums (0 ∷ 2 ∷ 2 ∷ 1 ∷ 1 ∷ 0 ∷ 3 ∷ 0 ∷ 6 ∷ 7 ∷ 5 ∷ 0 ∷ 7 ∷ 5 ∷ 6 ∷ 8 ∷ 1 ∷ 9 ∷ 9 ∷ 2147483647 ∷ [])) (nums (2 ∷ 0 ∷ 2 ∷ [])) (pos 0) 1802 10812 ≡ given (nums (0 ∷ 2 ∷ 2 ∷ 0 ∷ 2 ∷ 0 ∷ 8 ∷ 0 ∷ 0 ∷ 7 ∷ 0 ∷ 1 ∷ 7 ∷ 0 ∷ 6 ∷ 7 ∷ 5 ∷ 0 ∷ 7 ∷ 5 ∷ 0 ∷ 8 ∷ 5 ∷ 1 ∷ 7 ∷ 5 ∷ 1 ∷ 8 ∷ 5 ∷ 6 ∷ 8 ∷ 3 ∷ 9 ∷ 0 ∷ 2147483647 ∷ 9 ∷ 1 ∷ 2147483647 ∷ 9 ∷ 9 ∷ 2147483647 ∷ []))
unfolding ask_broadcast_to_shape_with_mode
e19 = refl

e20 : ask_broadcast_to_shape_with_mode (nums (0 ∷ 2 ∷ 2 ∷ 1 ∷ 1 ∷ 0 ∷ 3 ∷ 0 ∷ 6 ∷ 7 ∷ 5 ∷ 0 ∷ 7 ∷ 5 ∷ 6 ∷ 8 ∷ 1 ∷ 9 ∷ 9 ∷ 2147483647 ∷ [])) (nums (2 ∷ 0 ∷ 2 ∷ [])) (pos 1) 1802 10812 ≡ given (nums (0 ∷ 2 ∷ 2 ∷ 0 ∷ 2 ∷ 0 ∷ 0 ∷ 0 ∷ []))
unfolding ask_broadcast_to_shape_with_mode
e20 = refl

e21 : ask_broadcast_to_shape_with_mode (nums (0 ∷ 2 ∷ 2 ∷ 1 ∷ 1 ∷ 0 ∷ 3 ∷ 0 ∷ 6 ∷ 7 ∷ 5 ∷ 0 ∷ 7 ∷ 5 ∷ 6 ∷ 8 ∷ 1 ∷ 9 ∷ 9 ∷ 2147483647 ∷ [])) (nums (2 ∷ 1 ∷ 1 ∷ [])) (pos 0) 1802 10812 ≡ given (nums (0 ∷ 2 ∷ 2 ∷ 1 ∷ 1 ∷ 0 ∷ 3 ∷ 0 ∷ 6 ∷ 7 ∷ 5 ∷ 0 ∷ 7 ∷ 5 ∷ 6 ∷ 8 ∷ 1 ∷ 9 ∷ 9 ∷ 2147483647 ∷ []))
unfolding ask_broadcast_to_shape_with_mode
e21 = refl

e22 : ask_broadcast_to_shape_with_mode (nums (0 ∷ 2 ∷ 2 ∷ 1 ∷ 1 ∷ 0 ∷ 3 ∷ 0 ∷ 6 ∷ 7 ∷ 5 ∷ 0 ∷ 7 ∷ 5 ∷ 6 ∷ 8 ∷ 1 ∷ 9 ∷ 9 ∷ 2147483647 ∷ [])) (nums (2 ∷ 1 ∷ 1 ∷ [])) (pos 1) 1802 10812 ≡ given (nums (0 ∷ 2 ∷ 2 ∷ 1 ∷ 1 ∷ 0 ∷ 3 ∷ 0 ∷ 6 ∷ 7 ∷ 5 ∷ 0 ∷ 7 ∷ 5 ∷ 6 ∷ 8 ∷ 1 ∷ 9 ∷ 9 ∷ 2147483647 ∷ []))
unfolding ask_broadcast_to_shape_with_mode
e22 = refl

e23 : ask_broadcast_to_shape_with_mode (nums (0 ∷ 2 ∷ 2 ∷ 1 ∷ 1 ∷ 0 ∷ 3 ∷ 0 ∷ 6 ∷ 7 ∷ 5 ∷ 0 ∷ 7 ∷ 5 ∷ 6 ∷ 8 ∷ 1 ∷ 9 ∷ 9 ∷ 2147483647 ∷ [])) (nums (2 ∷ 2 ∷ 1 ∷ [])) (pos 0) 1802 10812 ≡ given (nums (0 ∷ 2 ∷ 2 ∷ 2 ∷ 1 ∷ 0 ∷ 8 ∷ 0 ∷ 0 ∷ 7 ∷ 0 ∷ 6 ∷ 7 ∷ 0 ∷ 6 ∷ 8 ∷ 1 ∷ 0 ∷ 7 ∷ 1 ∷ 6 ∷ 7 ∷ 1 ∷ 6 ∷ 8 ∷ 5 ∷ 0 ∷ 7 ∷ 5 ∷ 6 ∷ 8 ∷ 3 ∷ 0 ∷ 9 ∷ 2147483647 ∷ 1 ∷ 9 ∷ 2147483647 ∷ 9 ∷ 9 ∷ 2147483647 ∷ []))
unfolding ask_broadcast_to_shape_with_mode
e23 = refl

e24 : ask_broadcast_to_shape_with_mode (nums (0 ∷ 2 ∷ 2 ∷ 1 ∷ 1 ∷ 0 ∷ 3 ∷ 0 ∷ 6 ∷ 7 ∷ 5 ∷ 0 ∷ 7 ∷ 5 ∷ 6 ∷ 8 ∷ 1 ∷ 9 ∷ 9 ∷ 2147483647 ∷ [])) (nums (2 ∷ 2 ∷ 1 ∷ [])) (pos 1) 1802 10812 ≡ given (nums (0 ∷ 2 ∷ 2 ∷ 2 ∷ 1 ∷ 0 ∷ 6 ∷ 0 ∷ 0 ∷ 7 ∷ 0 ∷ 6 ∷ 7 ∷ 0 ∷ 6 ∷ 8 ∷ 1 ∷ 0 ∷ 7 ∷ 1 ∷ 6 ∷ 7 ∷ 1 ∷ 6 ∷ 8 ∷ 2 ∷ 0 ∷ 9 ∷ 2147483647 ∷ 1 ∷ 9 ∷ 2147483647 ∷ []))
unfolding ask_broadcast_to_shape_with_mode
e24 = refl

e25 : ask_broadcast_to_shape_with_mode (nums (0 ∷ 2 ∷ 2 ∷ 1 ∷ 1 ∷ 0 ∷ 3 ∷ 0 ∷ 6 ∷ 7 ∷ 5 ∷ 0 ∷ 7 ∷ 5 ∷ 6 ∷ 8 ∷ 1 ∷ 9 ∷ 9 ∷ 2147483647 ∷ [])) (nums (2 ∷ 2 ∷ 2 ∷ [])) (pos 0) 1802 10812 ≡ given (nums (0 ∷ 2 ∷ 2 ∷ 2 ∷ 2 ∷ 0 ∷ 12 ∷ 0 ∷ 0 ∷ 7 ∷ 0 ∷ 1 ∷ 7 ∷ 0 ∷ 6 ∷ 7 ∷ 0 ∷ 6 ∷ 8 ∷ 1 ∷ 0 ∷ 7 ∷ 1 ∷ 6 ∷ 7 ∷ 1 ∷ 6 ∷ 8 ∷ 5 ∷ 0 ∷ 7 ∷ 5 ∷ 0 ∷ 8 ∷ 5 ∷ 1 ∷ 7 ∷ 5 ∷ 1 ∷ 8 ∷ 5 ∷ 6 ∷ 8 ∷ 5 ∷ 0 ∷ 9 ∷ 2147483647 ∷ 1 ∷ 9 ∷ 2147483647 ∷ 9 ∷ 0 ∷ 2147483647 ∷ 9 ∷ 1 ∷ 2147483647 ∷ 9 ∷ 9 ∷ 2147483647 ∷ []))
unfolding ask_broadcast_to_shape_with_mode
e25 = refl

e26 : ask_broadcast_to_shape_with_mode (nums (0 ∷ 2 ∷ 2 ∷ 1 ∷ 1 ∷ 0 ∷ 3 ∷ 0 ∷ 6 ∷ 7 ∷ 5 ∷ 0 ∷ 7 ∷ 5 ∷ 6 ∷ 8 ∷ 1 ∷ 9 ∷ 9 ∷ 2147483647 ∷ [])) (nums (2 ∷ 2 ∷ 2 ∷ [])) (pos 1) 1802 10812 ≡ given (nums (0 ∷ 2 ∷ 2 ∷ 2 ∷ 2 ∷ 0 ∷ 8 ∷ 0 ∷ 0 ∷ 7 ∷ 0 ∷ 0 ∷ 8 ∷ 0 ∷ 1 ∷ 7 ∷ 0 ∷ 1 ∷ 8 ∷ 1 ∷ 0 ∷ 7 ∷ 1 ∷ 0 ∷ 8 ∷ 1 ∷ 1 ∷ 7 ∷ 1 ∷ 1 ∷ 8 ∷ 4 ∷ 0 ∷ 0 ∷ 2147483647 ∷ 0 ∷ 1 ∷ 2147483647 ∷ 1 ∷ 0 ∷ 2147483647 ∷ 1 ∷ 1 ∷ 2147483647 ∷ []))
unfolding ask_broadcast_to_shape_with_mode
e26 = refl

-- broadcast_to_shape_with_mode_call: refused 1
e27 : ask_broadcast_to_shape_with_mode (nums (0 ∷ 2 ∷ 2 ∷ 3 ∷ 3 ∷ 0 ∷ 0 ∷ 0 ∷ [])) (nums (5 ∷ [])) (pos 1) 1802 10812 ≡ refused 1
unfolding ask_broadcast_to_shape_with_mode
e27 = refl

e28 : ask_broadcast_to_shape_with_mode (nums (1 ∷ 0 ∷ 1 ∷ 0 ∷ 0 ∷ 0 ∷ 0 ∷ [])) (nums (5 ∷ 3 ∷ 3 ∷ 2 ∷ 4 ∷ 3 ∷ [])) (pos 1) 1802 1802 ≡ refused 1
unfolding ask_broadcast_to_shape_with_mode
e28 = refl

-- broadcast_to_shape_with_mode_call: refused 11
e29 : ask_broadcast_to_shape_with_mode (nums (2 ∷ 0 ∷ 1 ∷ 2 ∷ 1 ∷ 1 ∷ 0 ∷ 0 ∷ [])) (nums (0 ∷ [])) (pos 1) 1802 10812 ≡ refused 11
unfolding ask_broadcast_to_shape_with_mode
e29 = refl

-- broadcast_to_shape_with_mode_call: refused 12
e30 : ask_broadcast_to_shape_with_mode (nums (1 ∷ 0 ∷ 2 ∷ 1 ∷ 1 ∷ 0 ∷ 0 ∷ 0 ∷ [])) (nums (2 ∷ 128 ∷ 1 ∷ [])) (pos 1) 1802 20000 ≡ refused 12
unfolding ask_broadcast_to_shape_with_mode
e30 = refl

-- broadcast_to_shape_with_mode_call: refused 13
e31 : ask_broadcast_to_shape_with_mode (nums (0 ∷ 1 ∷ 1 ∷ 1 ∷ 0 ∷ 1 ∷ 7 ∷ 1 ∷ 0 ∷ [])) (nums (1 ∷ 129 ∷ [])) (pos 0) 1802 10812 ≡ refused 13
unfolding ask_broadcast_to_shape_with_mode
e31 = refl

e32 : ask_broadcast_to_shape_with_mode (nums (0 ∷ 1 ∷ 1 ∷ 1 ∷ 0 ∷ 0 ∷ 1 ∷ 0 ∷ 2 ∷ [])) (nums (2 ∷ 2 ∷ 65 ∷ [])) (pos 1) 1802 10812 ≡ refused 13
unfolding ask_broadcast_to_shape_with_mode
e32 = refl

e33 : ask_broadcast_to_shape_with_mode (nums (1 ∷ 0 ∷ 1 ∷ 1 ∷ 0 ∷ 1 ∷ 0 ∷ 1 ∷ 0 ∷ [])) (nums (3 ∷ 3 ∷ 43 ∷ 1 ∷ [])) (pos 1) 1802 10812 ≡ refused 13
unfolding ask_broadcast_to_shape_with_mode
e33 = refl

e34 : ask_broadcast_to_shape_with_mode (nums (1 ∷ 0 ∷ 1 ∷ 1 ∷ 0 ∷ 1 ∷ 0 ∷ 2 ∷ 0 ∷ [])) (nums (2 ∷ 65536 ∷ 0 ∷ [])) (pos 0) 1802 10813 ≡ refused 13
unfolding ask_broadcast_to_shape_with_mode
e34 = refl

e35 : ask_broadcast_to_shape_with_mode (nums (0 ∷ 2 ∷ 2 ∷ 1 ∷ 1 ∷ 0 ∷ 1 ∷ 0 ∷ 0 ∷ 7 ∷ 0 ∷ [])) (nums (2 ∷ 3 ∷ 43 ∷ [])) (pos 1) 1802 10812 ≡ refused 13
unfolding ask_broadcast_to_shape_with_mode
e35 = refl

e36 : ask_broadcast_to_shape_with_mode (nums (0 ∷ 2 ∷ 2 ∷ 1 ∷ 1 ∷ 0 ∷ 1 ∷ 0 ∷ 0 ∷ 7 ∷ 0 ∷ [])) (nums (2 ∷ 256 ∷ 256 ∷ [])) (pos 0) 1802 10812 ≡ refused 13
unfolding ask_broadcast_to_shape_with_mode
e36 = refl

e37 : ask_broadcast_to_shape_with_mode (nums (0 ∷ 2 ∷ 2 ∷ 1 ∷ 1 ∷ 0 ∷ 1 ∷ 0 ∷ 0 ∷ 7 ∷ 0 ∷ [])) (nums (2 ∷ 256 ∷ 256 ∷ [])) (pos 1) 1802 10812 ≡ refused 13
unfolding ask_broadcast_to_shape_with_mode
e37 = refl

e38 : ask_broadcast_to_shape_with_mode (nums (0 ∷ 2 ∷ 2 ∷ 1 ∷ 1 ∷ 0 ∷ 1 ∷ 0 ∷ 0 ∷ 7 ∷ 0 ∷ [])) (nums (2 ∷ 65536 ∷ 0 ∷ [])) (pos 0) 1802 10812 ≡ refused 13
unfolding ask_broadcast_to_shape_with_mode
e38 = refl

-- broadcast_to_shape_with_mode_call: refused 2
e39 : ask_broadcast_to_shape_with_mode (nums (1 ∷ 0 ∷ 2 ∷ 1 ∷ [])) (nums (2 ∷ 4 ∷ 4 ∷ [])) (pos 1) 0 10812 ≡ refused 2
unfolding ask_broadcast_to_shape_with_mode
e39 = refl

e40 : ask_broadcast_to_shape_with_mode (nums (0 ∷ 0 ∷ 0 ∷ 0 ∷ 0 ∷ 0 ∷ [])) (nums (0 ∷ [])) (pos 1) 1802 1802 ≡ refused 2
unfolding ask_broadcast_to_shape_with_mode
e40 = refl

e41 : ask_broadcast_to_shape_with_mode (nums (0 ∷ 4 ∷ 4 ∷ 3 ∷ 1 ∷ 2 ∷ 1 ∷ 0 ∷ 0 ∷ 0 ∷ [])) [] (pos 1) 1801 10812 ≡ refused 2
unfolding ask_broadcast_to_shape_with_mode
e41 = refl

-- broadcast_to_shape_with_mode_call: refused 3
e42 : ask_broadcast_to_shape_with_mode [] (nums (0 ∷ [])) (pos 1) 1802 10812 ≡ refused 3
unfolding ask_broadcast_to_shape_with_mode
e42 = refl

e43 : ask_broadcast_to_shape_with_mode [] (negsuc 0 ∷ []) (pos 2) 1802 10812 ≡ refused 3
unfolding ask_broadcast_to_shape_with_mode
e43 = refl

e44 : ask_broadcast_to_shape_with_mode [] (negsuc 0 ∷ []) (negsuc 0) 1802 10812 ≡ refused 3
unfolding ask_broadcast_to_shape_with_mode
e44 = refl

e45 : ask_broadcast_to_shape_with_mode (nums (0 ∷ 0 ∷ 0 ∷ 0 ∷ 1 ∷ 6 ∷ 1 ∷ [])) (nums (0 ∷ [])) (pos 1) 1802 10812 ≡ refused 3
unfolding ask_broadcast_to_shape_with_mode
e45 = refl

-- broadcast_to_shape_with_mode_call: refused 5
e46 : ask_broadcast_to_shape_with_mode (nums (0 ∷ 1 ∷ 1 ∷ 2 ∷ 0 ∷ 0 ∷ 0 ∷ [])) [] (pos 1) 1802 20000 ≡ refused 5
unfolding ask_broadcast_to_shape_with_mode
e46 = refl

e47 : ask_broadcast_to_shape_with_mode (nums (2 ∷ 0 ∷ 0 ∷ 1 ∷ 0 ∷ 0 ∷ [])) (nums (0 ∷ [])) (negsuc 0) 1802 10812 ≡ refused 5
unfolding ask_broadcast_to_shape_with_mode
e47 = refl

e48 : ask_broadcast_to_shape_with_mode (nums (2 ∷ 0 ∷ 1 ∷ 1 ∷ 1 ∷ 0 ∷ 0 ∷ 0 ∷ [])) (pos 1 ∷ negsuc 0 ∷ []) (pos 1) 1802 10812 ≡ refused 5
unfolding ask_broadcast_to_shape_with_mode
e48 = refl

e49 : ask_broadcast_to_shape_with_mode (nums (0 ∷ 1 ∷ 1 ∷ 1 ∷ 0 ∷ 0 ∷ 0 ∷ [])) (nums (1 ∷ 65537 ∷ [])) (pos 0) 1802 10812 ≡ refused 5
unfolding ask_broadcast_to_shape_with_mode
e49 = refl

e50 : ask_broadcast_to_shape_with_mode (nums (0 ∷ 0 ∷ 0 ∷ 0 ∷ 1 ∷ 3 ∷ 1 ∷ 3 ∷ [])) (nums (0 ∷ [])) (pos 2147483647) 1802 10812 ≡ refused 5
unfolding ask_broadcast_to_shape_with_mode
e50 = refl

e51 : ask_broadcast_to_shape_with_mode (nums (0 ∷ 2 ∷ 2 ∷ 1 ∷ 1 ∷ 0 ∷ 1 ∷ 0 ∷ 0 ∷ 7 ∷ 0 ∷ [])) (nums (2 ∷ 2 ∷ 2 ∷ [])) (pos 2) 1802 10812 ≡ refused 5
unfolding ask_broadcast_to_shape_with_mode
e51 = refl

e52 : ask_broadcast_to_shape_with_mode (nums (0 ∷ 2 ∷ 2 ∷ 1 ∷ 1 ∷ 0 ∷ 1 ∷ 0 ∷ 0 ∷ 7 ∷ 0 ∷ [])) (nums (2 ∷ 2 ∷ 2 ∷ [])) (negsuc 0) 1802 10812 ≡ refused 5
unfolding ask_broadcast_to_shape_with_mode
e52 = refl

-- broadcast_to_shape_with_mode_call: refused 6
e53 : ask_broadcast_to_shape_with_mode (nums (1 ∷ 0 ∷ 2 ∷ 2 ∷ 2 ∷ 0 ∷ 0 ∷ 0 ∷ [])) (nums (2 ∷ 2 ∷ 4 ∷ [])) (pos 1) 1802 10812 ≡ refused 6
unfolding ask_broadcast_to_shape_with_mode
e53 = refl

-- broadcast_to_rank_with_mode_call: answered
e54 : ask_broadcast_to_rank_with_mode (nums (0 ∷ 0 ∷ 0 ∷ 0 ∷ 0 ∷ 0 ∷ [])) (pos 0) (pos 0) 2000 10812 ≡ given (nums (0 ∷ 0 ∷ 0 ∷ 0 ∷ 0 ∷ 0 ∷ []))
unfolding ask_broadcast_to_rank_with_mode
e54 = refl

e55 : ask_broadcast_to_rank_with_mode (nums (2 ∷ 0 ∷ 0 ∷ 1 ∷ 0 ∷ 0 ∷ [])) (pos 0) (pos 1) 1803 10812 ≡ given (nums (2 ∷ 0 ∷ 0 ∷ 1 ∷ 0 ∷ 0 ∷ []))
unfolding ask_broadcast_to_rank_with_mode
e55 = refl

e56 : ask_broadcast_to_rank_with_mode (nums (2 ∷ 0 ∷ 0 ∷ 1 ∷ 0 ∷ 0 ∷ [])) (pos 1) (pos 1) 2000 10812 ≡ given (nums (2 ∷ 1 ∷ 1 ∷ 1 ∷ 1 ∷ 0 ∷ 0 ∷ []))
unfolding ask_broadcast_to_rank_with_mode
e56 = refl

e57 : ask_broadcast_to_rank_with_mode (nums (0 ∷ 1 ∷ 1 ∷ 1 ∷ 0 ∷ 0 ∷ 0 ∷ [])) (pos 0) (pos 0) 1802 10812 ≡ given (nums (0 ∷ 0 ∷ 0 ∷ 0 ∷ 0 ∷ 0 ∷ []))
unfolding ask_broadcast_to_rank_with_mode
e57 = refl

e58 : ask_broadcast_to_rank_with_mode (nums (1 ∷ 0 ∷ 1 ∷ 3 ∷ 0 ∷ 0 ∷ 0 ∷ [])) (pos 1) (pos 1) 1802 10812 ≡ given (nums (1 ∷ 0 ∷ 1 ∷ 3 ∷ 0 ∷ 0 ∷ 0 ∷ []))
unfolding ask_broadcast_to_rank_with_mode
e58 = refl

e59 : ask_broadcast_to_rank_with_mode (nums (2 ∷ 0 ∷ 1 ∷ 3 ∷ 0 ∷ 0 ∷ 0 ∷ [])) (pos 2) (pos 1) 1802 10812 ≡ given (nums (2 ∷ 1 ∷ 2 ∷ 3 ∷ 1 ∷ 0 ∷ 0 ∷ 0 ∷ []))
unfolding ask_broadcast_to_rank_with_mode
e59 = refl

e60 : ask_broadcast_to_rank_with_mode (nums (0 ∷ 2 ∷ 2 ∷ 1 ∷ 1 ∷ 0 ∷ 0 ∷ 0 ∷ [])) (pos 0) (pos 1) 1802 10813 ≡ given (nums (0 ∷ 0 ∷ 0 ∷ 0 ∷ 0 ∷ 0 ∷ []))
unfolding ask_broadcast_to_rank_with_mode
e60 = refl

e61 : ask_broadcast_to_rank_with_mode (nums (1 ∷ 1 ∷ 2 ∷ 1 ∷ 1 ∷ 0 ∷ 0 ∷ 0 ∷ [])) (pos 1) (pos 1) 1802 10812 ≡ given (nums (1 ∷ 0 ∷ 1 ∷ 1 ∷ 0 ∷ 0 ∷ 0 ∷ []))
unfolding ask_broadcast_to_rank_with_mode
e61 = refl

e62 : ask_broadcast_to_rank_with_mode (nums (2 ∷ 2 ∷ 2 ∷ 1 ∷ 1 ∷ 1 ∷ 0 ∷ 0 ∷ [])) (pos 0) (pos 1) 1802 10812 ≡ given (nums (2 ∷ 0 ∷ 0 ∷ 1 ∷ 0 ∷ 0 ∷ []))
unfolding ask_broadcast_to_rank_with_mode
e62 = refl

e63 : ask_broadcast_to_rank_with_mode (nums (0 ∷ 2 ∷ 2 ∷ 1 ∷ 1 ∷ 0 ∷ 3 ∷ 0 ∷ 6 ∷ 7 ∷ 5 ∷ 0 ∷ 7 ∷ 5 ∷ 6 ∷ 8 ∷ 1 ∷ 9 ∷ 9 ∷ 2147483647 ∷ [])) (pos 1) (pos 0) 1802 10812 ≡ given (nums (0 ∷ 1 ∷ 1 ∷ 1 ∷ 0 ∷ 3 ∷ 0 ∷ 7 ∷ 5 ∷ 7 ∷ 5 ∷ 8 ∷ 1 ∷ 9 ∷ 2147483647 ∷ []))
unfolding ask_broadcast_to_rank_with_mode
e63 = refl

e64 : ask_broadcast_to_rank_with_mode (nums (0 ∷ 2 ∷ 2 ∷ 1 ∷ 1 ∷ 0 ∷ 3 ∷ 0 ∷ 6 ∷ 7 ∷ 5 ∷ 0 ∷ 7 ∷ 5 ∷ 6 ∷ 8 ∷ 1 ∷ 9 ∷ 9 ∷ 2147483647 ∷ [])) (pos 1) (pos 1) 1802 10812 ≡ given (nums (0 ∷ 1 ∷ 1 ∷ 1 ∷ 0 ∷ 3 ∷ 0 ∷ 7 ∷ 5 ∷ 7 ∷ 5 ∷ 8 ∷ 1 ∷ 9 ∷ 2147483647 ∷ []))
unfolding ask_broadcast_to_rank_with_mode
e64 = refl

e65 : ask_broadcast_to_rank_with_mode (nums (0 ∷ 2 ∷ 2 ∷ 1 ∷ 1 ∷ 0 ∷ 3 ∷ 0 ∷ 6 ∷ 7 ∷ 5 ∷ 0 ∷ 7 ∷ 5 ∷ 6 ∷ 8 ∷ 1 ∷ 9 ∷ 9 ∷ 2147483647 ∷ [])) (pos 3) (pos 0) 1802 10812 ≡ given (nums (0 ∷ 3 ∷ 3 ∷ 1 ∷ 1 ∷ 1 ∷ 0 ∷ 3 ∷ 0 ∷ 6 ∷ 0 ∷ 7 ∷ 5 ∷ 0 ∷ 0 ∷ 7 ∷ 5 ∷ 6 ∷ 0 ∷ 8 ∷ 1 ∷ 9 ∷ 9 ∷ 0 ∷ 2147483647 ∷ []))
unfolding ask_broadcast_to_rank_with_mode
e65 = refl

e66 : ask_broadcast_to_rank_with_mode (nums (0 ∷ 2 ∷ 2 ∷ 1 ∷ 1 ∷ 0 ∷ 3 ∷ 0 ∷ 6 ∷ 7 ∷ 5 ∷ 0 ∷ 7 ∷ 5 ∷ 6 ∷ 8 ∷ 1 ∷ 9 ∷ 9 ∷ 2147483647 ∷ [])) (pos 3) (pos 1) 1802 10812 ≡ given (nums (0 ∷ 3 ∷ 3 ∷ 1 ∷ 1 ∷ 1 ∷ 0 ∷ 3 ∷ 0 ∷ 6 ∷ 0 ∷ 7 ∷ 5 ∷ 0 ∷ 0 ∷ 7 ∷ 5 ∷ 6 ∷ 0 ∷ 8 ∷ 1 ∷ 9 ∷ 9 ∷ 0 ∷ 2147483647 ∷ []))
unfolding ask_broadcast_to_rank_with_mode
e66 = refl

-- broadcast_to_rank_with_mode_call: refused 1
e67 : ask_broadcast_to_rank_with_mode [] (pos 5) (pos 1) 1802 10812 ≡ refused 1
unfolding ask_broadcast_to_rank_with_mode
e67 = refl

-- broadcast_to_rank_with_mode_call: refused 11
e68 : ask_broadcast_to_rank_with_mode (nums (2 ∷ 0 ∷ 1 ∷ 1 ∷ 1 ∷ 0 ∷ 0 ∷ 0 ∷ [])) (pos 0) (pos 1) 2000 10812 ≡ refused 11
unfolding ask_broadcast_to_rank_with_mode
e68 = refl

-- broadcast_to_rank_with_mode_call: refused 2
e69 : ask_broadcast_to_rank_with_mode (nums (1 ∷ 0 ∷ 1 ∷ 1 ∷ 0 ∷ 0 ∷ 0 ∷ [])) (negsuc 2147483647) (pos 1) 1801 10812 ≡ refused 2
unfolding ask_broadcast_to_rank_with_mode
e69 = refl

-- broadcast_to_rank_with_mode_call: refused 3
e70 : ask_broadcast_to_rank_with_mode [] (pos 4) (pos 1) 1802 10812 ≡ refused 3
unfolding ask_broadcast_to_rank_with_mode
e70 = refl

-- broadcast_to_rank_with_mode_call: refused 5
e71 : ask_broadcast_to_rank_with_mode (nums (2 ∷ 0 ∷ 0 ∷ 1 ∷ 0 ∷ 0 ∷ [])) (negsuc 0) (pos 1) 1802 10812 ≡ refused 5
unfolding ask_broadcast_to_rank_with_mode
e71 = refl

e72 : ask_broadcast_to_rank_with_mode (nums (0 ∷ 2 ∷ 2 ∷ 1 ∷ 1 ∷ 0 ∷ 1 ∷ 0 ∷ 0 ∷ 7 ∷ 0 ∷ [])) (pos 3) (pos 2) 1802 10812 ≡ refused 5
unfolding ask_broadcast_to_rank_with_mode
e72 = refl

e73 : ask_broadcast_to_rank_with_mode (nums (0 ∷ 2 ∷ 2 ∷ 1 ∷ 1 ∷ 0 ∷ 1 ∷ 0 ∷ 0 ∷ 7 ∷ 0 ∷ [])) (pos 3) (negsuc 0) 1802 10812 ≡ refused 5
unfolding ask_broadcast_to_rank_with_mode
e73 = refl

-- broadcast_to_rank_with_mode_call: refused 6
e74 : ask_broadcast_to_rank_with_mode (nums (2 ∷ 1 ∷ 1 ∷ 3 ∷ 1 ∷ 0 ∷ 0 ∷ [])) (pos 0) (pos 1) 1802 20000 ≡ refused 6
unfolding ask_broadcast_to_rank_with_mode
e74 = refl

-- broadcast_with_mode_call: answered
e75 : ask_broadcast_with_mode (nums (0 ∷ 0 ∷ 0 ∷ 0 ∷ 0 ∷ 0 ∷ [])) (pos 1) 47 (pos 1) 1802 10812 ≡ given (nums (0 ∷ 0 ∷ 0 ∷ 0 ∷ 0 ∷ 0 ∷ []))
unfolding ask_broadcast_with_mode
e75 = refl

e76 : ask_broadcast_with_mode (nums (2 ∷ 0 ∷ 0 ∷ 1 ∷ 0 ∷ 0 ∷ [])) (pos 1) 42 (pos 1) 1802 10812 ≡ given (nums (0 ∷ 0 ∷ 0 ∷ 0 ∷ 0 ∷ 0 ∷ []))
unfolding ask_broadcast_with_mode
e76 = refl

e77 : ask_broadcast_with_mode (nums (0 ∷ 1 ∷ 1 ∷ 2 ∷ 0 ∷ 0 ∷ 0 ∷ [])) (pos 1) 45 (pos 1) 1802 20000 ≡ given (nums (0 ∷ 1 ∷ 1 ∷ 2 ∷ 0 ∷ 0 ∷ 0 ∷ []))
unfolding ask_broadcast_with_mode
e77 = refl

e78 : ask_broadcast_with_mode (nums (2 ∷ 0 ∷ 1 ∷ 1 ∷ 0 ∷ 0 ∷ 0 ∷ [])) (pos 1) 47 (pos 1) 1802 10812 ≡ given (nums (2 ∷ 0 ∷ 1 ∷ 1 ∷ 0 ∷ 0 ∷ 0 ∷ []))
unfolding ask_broadcast_with_mode
e78 = refl

e79 : ask_broadcast_with_mode (nums (2 ∷ 1 ∷ 1 ∷ 2 ∷ 1 ∷ 0 ∷ 0 ∷ [])) (pos 1) 42 (pos 1) 1802 10812 ≡ given (nums (2 ∷ 1 ∷ 1 ∷ 2 ∷ 1 ∷ 0 ∷ 0 ∷ []))
unfolding ask_broadcast_with_mode
e79 = refl

e80 : ask_broadcast_with_mode (nums (0 ∷ 2 ∷ 2 ∷ 1 ∷ 0 ∷ 0 ∷ 0 ∷ 0 ∷ [])) (pos 1) 45 (pos 1) 1802 10812 ≡ given (nums (0 ∷ 2 ∷ 2 ∷ 1 ∷ 0 ∷ 0 ∷ 0 ∷ 0 ∷ []))
unfolding ask_broadcast_with_mode
e80 = refl

e81 : ask_broadcast_with_mode (nums (1 ∷ 0 ∷ 2 ∷ 0 ∷ 0 ∷ 0 ∷ 0 ∷ 0 ∷ [])) (pos 1) 43 (pos 0) 1802 10812 ≡ given (nums (1 ∷ 0 ∷ 2 ∷ 0 ∷ 0 ∷ 0 ∷ 0 ∷ 0 ∷ []))
unfolding ask_broadcast_with_mode
e81 = refl

e82 : ask_broadcast_with_mode (nums (1 ∷ 1 ∷ 2 ∷ 1 ∷ 3 ∷ 0 ∷ 0 ∷ 0 ∷ [])) (pos 1) 47 (pos 1) 1802 10812 ≡ given (nums (1 ∷ 1 ∷ 2 ∷ 1 ∷ 3 ∷ 0 ∷ 0 ∷ 0 ∷ []))
unfolding ask_broadcast_with_mode
e82 = refl

e83 : ask_broadcast_with_mode (nums (1 ∷ 0 ∷ 1 ∷ 1 ∷ 0 ∷ 0 ∷ 1 ∷ 2 ∷ 3 ∷ [])) (pos 1) 43 (pos 1) 1802 10812 ≡ given (nums (1 ∷ 0 ∷ 1 ∷ 1 ∷ 0 ∷ 0 ∷ 1 ∷ 2 ∷ 3 ∷ []))
unfolding ask_broadcast_with_mode
e83 = refl

e84 : ask_broadcast_with_mode (nums (2 ∷ 0 ∷ 1 ∷ 3 ∷ 3 ∷ 0 ∷ 1 ∷ 2 ∷ 0 ∷ 0 ∷ [])) (pos 1) 42 (pos 1) 1802 10812 ≡ given (nums (0 ∷ 1 ∷ 1 ∷ 3 ∷ 0 ∷ 0 ∷ 0 ∷ []))
unfolding ask_broadcast_with_mode
e84 = refl

e85 : ask_broadcast_with_mode (nums (0 ∷ 2 ∷ 2 ∷ 1 ∷ 1 ∷ 0 ∷ 1 ∷ 0 ∷ 0 ∷ 7 ∷ 0 ∷ 0 ∷ 2 ∷ 2 ∷ 2 ∷ 2 ∷ 0 ∷ 0 ∷ 0 ∷ [])) (pos 2) 43 (pos 0) 1802 10812 ≡ given (nums (0 ∷ 2 ∷ 2 ∷ 2 ∷ 2 ∷ 0 ∷ 3 ∷ 0 ∷ 0 ∷ 7 ∷ 0 ∷ 1 ∷ 7 ∷ 1 ∷ 0 ∷ 7 ∷ 0 ∷ []))
unfolding ask_broadcast_with_mode
e85 = refl

e86 : ask_broadcast_with_mode (nums (0 ∷ 2 ∷ 2 ∷ 1 ∷ 1 ∷ 0 ∷ 1 ∷ 0 ∷ 0 ∷ 7 ∷ 0 ∷ 0 ∷ 2 ∷ 2 ∷ 2 ∷ 2 ∷ 0 ∷ 0 ∷ 0 ∷ [])) (pos 2) 43 (pos 1) 1802 10812 ≡ given (nums (0 ∷ 2 ∷ 2 ∷ 2 ∷ 2 ∷ 0 ∷ 4 ∷ 0 ∷ 0 ∷ 7 ∷ 0 ∷ 1 ∷ 7 ∷ 1 ∷ 0 ∷ 7 ∷ 1 ∷ 1 ∷ 7 ∷ 0 ∷ []))
unfolding ask_broadcast_with_mode
e86 = refl

e87 : ask_broadcast_with_mode (nums (0 ∷ 2 ∷ 2 ∷ 1 ∷ 1 ∷ 0 ∷ 3 ∷ 0 ∷ 6 ∷ 7 ∷ 5 ∷ 0 ∷ 7 ∷ 5 ∷ 6 ∷ 8 ∷ 1 ∷ 9 ∷ 9 ∷ 2147483647 ∷ 2 ∷ 0 ∷ 2 ∷ 2 ∷ 2 ∷ 1 ∷ 1 ∷ 1 ∷ 0 ∷ 0 ∷ [])) (pos 2) 42 (pos 0) 1802 10812 ≡ given (nums (2 ∷ 0 ∷ 2 ∷ 2 ∷ 2 ∷ 1 ∷ 1 ∷ 1 ∷ 0 ∷ 0 ∷ []))
unfolding ask_broadcast_with_mode
e87 = refl

e88 : ask_broadcast_with_mode (nums (0 ∷ 2 ∷ 2 ∷ 1 ∷ 1 ∷ 0 ∷ 3 ∷ 0 ∷ 6 ∷ 7 ∷ 5 ∷ 0 ∷ 7 ∷ 5 ∷ 6 ∷ 8 ∷ 1 ∷ 9 ∷ 9 ∷ 2147483647 ∷ 2 ∷ 0 ∷ 2 ∷ 2 ∷ 2 ∷ 1 ∷ 1 ∷ 1 ∷ 0 ∷ 0 ∷ [])) (pos 2) 42 (pos 1) 1802 10812 ≡ given (nums (2 ∷ 0 ∷ 2 ∷ 2 ∷ 2 ∷ 1 ∷ 1 ∷ 1 ∷ 2 ∷ 1 ∷ 1 ∷ 7 ∷ 1 ∷ 1 ∷ 8 ∷ 1 ∷ 1 ∷ 1 ∷ 2147483647 ∷ []))
unfolding ask_broadcast_with_mode
e88 = refl

-- broadcast_with_mode_call: refused 1
e89 : ask_broadcast_with_mode (nums (1 ∷ 0 ∷ 1 ∷ 1 ∷ 0 ∷ 0 ∷ 0 ∷ [])) (pos 17) 42 (pos 1) 1802 10812 ≡ refused 1
unfolding ask_broadcast_with_mode
e89 = refl

-- broadcast_with_mode_call: refused 11
e90 : ask_broadcast_with_mode (nums (2 ∷ 0 ∷ 0 ∷ 1 ∷ 0 ∷ 0 ∷ 1 ∷ 1 ∷ 2 ∷ 4 ∷ 2 ∷ 0 ∷ 0 ∷ 0 ∷ [])) (pos 2) 42 (pos 0) 1802 10812 ≡ refused 11
unfolding ask_broadcast_with_mode
e90 = refl

-- broadcast_with_mode_call: refused 12
e91 : ask_broadcast_with_mode (nums (2 ∷ 0 ∷ 0 ∷ 0 ∷ 0 ∷ 0 ∷ 3 ∷ [])) (pos 1) 42 (pos 1) 1802 10812 ≡ refused 12
unfolding ask_broadcast_with_mode
e91 = refl

-- broadcast_with_mode_call: refused 2
e92 : ask_broadcast_with_mode (nums (2 ∷ 0 ∷ 0 ∷ 1 ∷ 0 ∷ 0 ∷ [])) (pos 1) 43 (pos 1) 1802 0 ≡ refused 2
unfolding ask_broadcast_with_mode
e92 = refl

-- broadcast_with_mode_call: refused 3
e93 : ask_broadcast_with_mode (nums (0 ∷ 0 ∷ 0 ∷ 0 ∷ 0 ∷ 0 ∷ [])) (pos 16) 45 (pos 1) 1802 10812 ≡ refused 3
unfolding ask_broadcast_with_mode
e93 = refl

-- broadcast_with_mode_call: refused 5
e94 : ask_broadcast_with_mode [] (pos 0) 43 (pos 2) 1802 10812 ≡ refused 5
unfolding ask_broadcast_with_mode
e94 = refl

e95 : ask_broadcast_with_mode [] (pos 0) 43 (negsuc 0) 1802 10812 ≡ refused 5
unfolding ask_broadcast_with_mode
e95 = refl

e96 : ask_broadcast_with_mode (nums (1 ∷ 0 ∷ 1 ∷ 1 ∷ 0 ∷ 0 ∷ 0 ∷ [])) (pos 1) 42 (pos 2) 1802 20000 ≡ refused 5
unfolding ask_broadcast_with_mode
e96 = refl

e97 : ask_broadcast_with_mode (nums (0 ∷ 2 ∷ 2 ∷ 1 ∷ 1 ∷ 0 ∷ 1 ∷ 0 ∷ 0 ∷ 7 ∷ 0 ∷ [])) (pos 1) 43 (pos 2) 1802 10812 ≡ refused 5
unfolding ask_broadcast_with_mode
e97 = refl

e98 : ask_broadcast_with_mode (nums (0 ∷ 2 ∷ 2 ∷ 1 ∷ 1 ∷ 0 ∷ 1 ∷ 0 ∷ 0 ∷ 7 ∷ 0 ∷ [])) (pos 1) 43 (negsuc 0) 1802 10812 ≡ refused 5
unfolding ask_broadcast_with_mode
e98 = refl

-- broadcast_with_mode_call: refused 6
e99 : ask_broadcast_with_mode (nums (1 ∷ 0 ∷ 2 ∷ 3 ∷ 3 ∷ 0 ∷ 0 ∷ 0 ∷ [])) (pos 0) 45 (pos 1) 2000 10812 ≡ refused 6
unfolding ask_broadcast_with_mode
e99 = refl

-- broadcast_with_mode_call: refused 9
e100 : ask_broadcast_with_mode (nums (1 ∷ 0 ∷ 2 ∷ 3 ∷ 3 ∷ 0 ∷ 0 ∷ 0 ∷ 2 ∷ 0 ∷ 0 ∷ 1 ∷ 0 ∷ 2 ∷ 0 ∷ 3 ∷ [])) (pos 2) 47 (pos 1) 1802 20000 ≡ refused 9
unfolding ask_broadcast_with_mode
e100 = refl
