-- Examples: Broadcast. Each holds by computation; the answers are those of the reading in tests/reading.
-- Written by tests/examples from tests/reading/examples.txt.
use mathlib.Core.Path.{◌≡◌, refl}
use mathlib.Core.Bool.{Bool, true, false}
use mathlib.Core.List.{List, [], ◌∷◌, map}
use Prim.Native.Nat.{ℕ}
use lib.IntN.{ℤ, pos, negsuc}
use Rattle.std.specs.declared.cmp.Ordering.{Ordering}
use Rattle.std.specs.declared.cmp.Ordering.TheVariants.{Less, Equal, Greater}
use Rattle.rules.specs.Refusals.{given, refused}
use Rattle.rules.specs.Endings.{found, nothing}
use Rattle.rules.proofs.Examples.Asked.{nums, ask_broadcast}

-- broadcast_call: answered
e1 : ask_broadcast (nums (0 ∷ 1 ∷ 1 ∷ 1 ∷ 0 ∷ 0 ∷ 0 ∷ [])) (pos 1) 43 1802 10812 ≡ given (nums (0 ∷ 1 ∷ 1 ∷ 1 ∷ 0 ∷ 0 ∷ 0 ∷ []))
unfolding ask_broadcast
e1 = refl

e2 : ask_broadcast (nums (1 ∷ 0 ∷ 1 ∷ 1 ∷ 0 ∷ 0 ∷ 0 ∷ [])) (pos 1) 43 1802 10812 ≡ given (nums (1 ∷ 0 ∷ 1 ∷ 1 ∷ 0 ∷ 0 ∷ 0 ∷ []))
unfolding ask_broadcast
e2 = refl

e3 : ask_broadcast (nums (2 ∷ 0 ∷ 1 ∷ 0 ∷ 0 ∷ 0 ∷ 0 ∷ [])) (pos 1) 43 1802 10812 ≡ given (nums (0 ∷ 1 ∷ 1 ∷ 0 ∷ 0 ∷ 0 ∷ 0 ∷ []))
unfolding ask_broadcast
e3 = refl

e4 : ask_broadcast (nums (2 ∷ 1 ∷ 1 ∷ 1 ∷ 1 ∷ 0 ∷ 0 ∷ [])) (pos 1) 43 1802 10812 ≡ given (nums (0 ∷ 1 ∷ 1 ∷ 1 ∷ 0 ∷ 0 ∷ 0 ∷ []))
unfolding ask_broadcast
e4 = refl

e5 : ask_broadcast (nums (2 ∷ 1 ∷ 1 ∷ 4 ∷ 1 ∷ 0 ∷ 0 ∷ [])) (pos 1) 47 1803 20000 ≡ given (nums (2 ∷ 1 ∷ 1 ∷ 4 ∷ 1 ∷ 0 ∷ 0 ∷ []))
unfolding ask_broadcast
e5 = refl

e6 : ask_broadcast (nums (1 ∷ 0 ∷ 2 ∷ 1 ∷ 1 ∷ 0 ∷ 0 ∷ 0 ∷ [])) (pos 1) 0 1802 10812 ≡ given (nums (1 ∷ 0 ∷ 2 ∷ 1 ∷ 1 ∷ 0 ∷ 0 ∷ 0 ∷ []))
unfolding ask_broadcast
e6 = refl

e7 : ask_broadcast (nums (0 ∷ 2 ∷ 2 ∷ 1 ∷ 3 ∷ 0 ∷ 0 ∷ 0 ∷ [])) (pos 1) 42 1802 10812 ≡ given (nums (0 ∷ 2 ∷ 2 ∷ 1 ∷ 3 ∷ 0 ∷ 0 ∷ 0 ∷ []))
unfolding ask_broadcast
e7 = refl

e8 : ask_broadcast (nums (1 ∷ 1 ∷ 2 ∷ 3 ∷ 3 ∷ 0 ∷ 0 ∷ 0 ∷ [])) (pos 1) 45 1802 10812 ≡ given (nums (1 ∷ 1 ∷ 2 ∷ 3 ∷ 3 ∷ 0 ∷ 0 ∷ 0 ∷ []))
unfolding ask_broadcast
e8 = refl

e9 : ask_broadcast (nums (2 ∷ 0 ∷ 2 ∷ 1 ∷ 0 ∷ 0 ∷ 0 ∷ 0 ∷ [])) (pos 1) 43 2000 10812 ≡ given (nums (0 ∷ 2 ∷ 2 ∷ 1 ∷ 0 ∷ 0 ∷ 0 ∷ 0 ∷ []))
unfolding ask_broadcast
e9 = refl

e10 : ask_broadcast (nums (2 ∷ 0 ∷ 2 ∷ 2 ∷ 2 ∷ 0 ∷ 0 ∷ 0 ∷ [])) (pos 1) 255 1802 10812 ≡ given (nums (2 ∷ 0 ∷ 2 ∷ 2 ∷ 2 ∷ 0 ∷ 0 ∷ 0 ∷ []))
unfolding ask_broadcast
e10 = refl

e11 : ask_broadcast (nums (2 ∷ 1 ∷ 2 ∷ 2 ∷ 1 ∷ 1 ∷ 0 ∷ 0 ∷ 0 ∷ [])) (pos 1) 0 1802 10812 ≡ given (nums (2 ∷ 1 ∷ 2 ∷ 2 ∷ 1 ∷ 1 ∷ 0 ∷ 0 ∷ 0 ∷ []))
unfolding ask_broadcast
e11 = refl

e12 : ask_broadcast (nums (0 ∷ 3 ∷ 3 ∷ 1 ∷ 1 ∷ 1 ∷ 0 ∷ 0 ∷ 0 ∷ [])) (pos 1) 42 1802 10812 ≡ given (nums (0 ∷ 3 ∷ 3 ∷ 1 ∷ 1 ∷ 1 ∷ 0 ∷ 0 ∷ 0 ∷ []))
unfolding ask_broadcast
e12 = refl

e13 : ask_broadcast (nums (1 ∷ 0 ∷ 3 ∷ 1 ∷ 1 ∷ 1 ∷ 0 ∷ 0 ∷ 0 ∷ [])) (pos 1) 42 1802 10812 ≡ given (nums (1 ∷ 0 ∷ 3 ∷ 1 ∷ 1 ∷ 1 ∷ 0 ∷ 0 ∷ 0 ∷ []))
unfolding ask_broadcast
e13 = refl

e14 : ask_broadcast (nums (1 ∷ 1 ∷ 3 ∷ 2 ∷ 2 ∷ 3 ∷ 0 ∷ 0 ∷ 0 ∷ [])) (pos 1) 45 1802 10812 ≡ given (nums (1 ∷ 1 ∷ 3 ∷ 2 ∷ 2 ∷ 3 ∷ 0 ∷ 0 ∷ 0 ∷ []))
unfolding ask_broadcast
e14 = refl

e15 : ask_broadcast (nums (1 ∷ 2 ∷ 3 ∷ 3 ∷ 3 ∷ 0 ∷ 0 ∷ 0 ∷ 0 ∷ [])) (pos 1) 43 1802 20000 ≡ given (nums (1 ∷ 2 ∷ 3 ∷ 3 ∷ 3 ∷ 0 ∷ 0 ∷ 0 ∷ 0 ∷ []))
unfolding ask_broadcast
e15 = refl

e16 : ask_broadcast (nums (2 ∷ 0 ∷ 1 ∷ 3 ∷ 2 ∷ 1 ∷ 0 ∷ 0 ∷ 0 ∷ [])) (pos 1) 42 1802 10812 ≡ given (nums (2 ∷ 0 ∷ 1 ∷ 3 ∷ 2 ∷ 0 ∷ 1 ∷ 0 ∷ 0 ∷ []))
unfolding ask_broadcast
e16 = refl

e17 : ask_broadcast (nums (2 ∷ 1 ∷ 2 ∷ 1 ∷ 1 ∷ 1 ∷ 0 ∷ 0 ∷ 0 ∷ [])) (pos 1) 43 1802 10812 ≡ given (nums (0 ∷ 2 ∷ 2 ∷ 1 ∷ 1 ∷ 0 ∷ 0 ∷ 0 ∷ []))
unfolding ask_broadcast
e17 = refl

e18 : ask_broadcast (nums (0 ∷ 4 ∷ 4 ∷ 3 ∷ 1 ∷ 2 ∷ 4 ∷ 0 ∷ 0 ∷ 0 ∷ [])) (pos 1) 42 1803 10812 ≡ given (nums (0 ∷ 4 ∷ 4 ∷ 3 ∷ 1 ∷ 2 ∷ 4 ∷ 0 ∷ 0 ∷ 0 ∷ []))
unfolding ask_broadcast
e18 = refl

e19 : ask_broadcast (nums (1 ∷ 0 ∷ 4 ∷ 4 ∷ 4 ∷ 4 ∷ 4 ∷ 0 ∷ 0 ∷ 0 ∷ [])) (pos 1) 42 1802 10813 ≡ given (nums (1 ∷ 0 ∷ 4 ∷ 4 ∷ 4 ∷ 4 ∷ 4 ∷ 0 ∷ 0 ∷ 0 ∷ []))
unfolding ask_broadcast
e19 = refl

e20 : ask_broadcast (nums (2 ∷ 0 ∷ 2 ∷ 1 ∷ 3 ∷ 1 ∷ 0 ∷ 0 ∷ 0 ∷ 0 ∷ [])) (pos 1) 45 1802 20000 ≡ given (nums (2 ∷ 0 ∷ 2 ∷ 1 ∷ 3 ∷ 1 ∷ 0 ∷ 0 ∷ 0 ∷ 0 ∷ []))
unfolding ask_broadcast
e20 = refl

e21 : ask_broadcast (nums (2 ∷ 1 ∷ 2 ∷ 2 ∷ 2 ∷ 2 ∷ 0 ∷ 1 ∷ 0 ∷ 0 ∷ [])) (pos 1) 42 1802 10812 ≡ given (nums (1 ∷ 1 ∷ 2 ∷ 2 ∷ 2 ∷ 0 ∷ 0 ∷ 0 ∷ []))
unfolding ask_broadcast
e21 = refl

e22 : ask_broadcast (nums (0 ∷ 0 ∷ 0 ∷ 0 ∷ 0 ∷ 0 ∷ 0 ∷ 0 ∷ 0 ∷ 0 ∷ 0 ∷ 0 ∷ [])) (pos 2) 47 1802 10812 ≡ given (nums (0 ∷ 0 ∷ 0 ∷ 0 ∷ 0 ∷ 0 ∷ []))
unfolding ask_broadcast
e22 = refl

e23 : ask_broadcast (nums (2 ∷ 0 ∷ 0 ∷ 0 ∷ 0 ∷ 0 ∷ 2 ∷ 0 ∷ 0 ∷ 1 ∷ 0 ∷ 0 ∷ [])) (pos 2) 45 1802 20000 ≡ given (nums (0 ∷ 0 ∷ 0 ∷ 0 ∷ 0 ∷ 0 ∷ []))
unfolding ask_broadcast
e23 = refl

e24 : ask_broadcast (nums (2 ∷ 0 ∷ 0 ∷ 1 ∷ 0 ∷ 0 ∷ 2 ∷ 0 ∷ 0 ∷ 1 ∷ 0 ∷ 0 ∷ [])) (pos 2) 47 1802 10812 ≡ given (nums (0 ∷ 0 ∷ 0 ∷ 0 ∷ 0 ∷ 0 ∷ []))
unfolding ask_broadcast
e24 = refl

e25 : ask_broadcast (nums (2 ∷ 0 ∷ 2 ∷ 2 ∷ 2 ∷ 2 ∷ 0 ∷ 0 ∷ 1 ∷ 1 ∷ 0 ∷ 0 ∷ [])) (pos 1) 43 1802 10812 ≡ given (nums (1 ∷ 0 ∷ 2 ∷ 2 ∷ 2 ∷ 0 ∷ 0 ∷ 0 ∷ []))
unfolding ask_broadcast
e25 = refl

e26 : ask_broadcast (nums (2 ∷ 0 ∷ 2 ∷ 2 ∷ 2 ∷ 2 ∷ 0 ∷ 1 ∷ 1 ∷ 0 ∷ 0 ∷ 0 ∷ [])) (pos 1) 43 1802 10812 ≡ given (nums (2 ∷ 0 ∷ 2 ∷ 2 ∷ 2 ∷ 2 ∷ 0 ∷ 1 ∷ 1 ∷ 0 ∷ 0 ∷ 0 ∷ []))
unfolding ask_broadcast
e26 = refl

e27 : ask_broadcast (nums (2 ∷ 0 ∷ 2 ∷ 2 ∷ 2 ∷ 2 ∷ 1 ∷ 1 ∷ 1 ∷ 0 ∷ 0 ∷ 0 ∷ [])) (pos 1) 43 1802 10812 ≡ given (nums (2 ∷ 0 ∷ 2 ∷ 2 ∷ 2 ∷ 2 ∷ 1 ∷ 0 ∷ 1 ∷ 1 ∷ 0 ∷ 0 ∷ []))
unfolding ask_broadcast
e27 = refl

e28 : ask_broadcast (nums (1 ∷ 0 ∷ 1 ∷ 2 ∷ 0 ∷ 0 ∷ 0 ∷ 2 ∷ 0 ∷ 0 ∷ 1 ∷ 0 ∷ 0 ∷ [])) (pos 2) 43 1802 10812 ≡ given (nums (0 ∷ 1 ∷ 1 ∷ 2 ∷ 0 ∷ 0 ∷ 0 ∷ []))
unfolding ask_broadcast
e28 = refl

e29 : ask_broadcast (nums (0 ∷ 1 ∷ 1 ∷ 128 ∷ 0 ∷ 0 ∷ 0 ∷ 1 ∷ 0 ∷ 1 ∷ 1 ∷ 0 ∷ 0 ∷ 0 ∷ [])) (pos 2) 47 1803 10812 ≡ given (nums (1 ∷ 0 ∷ 1 ∷ 128 ∷ 0 ∷ 0 ∷ 0 ∷ []))
unfolding ask_broadcast
e29 = refl

e30 : ask_broadcast (nums (2 ∷ 0 ∷ 1 ∷ 2 ∷ 1 ∷ 0 ∷ 0 ∷ 0 ∷ 0 ∷ 2 ∷ 2 ∷ 2 ∷ 2 ∷ 0 ∷ 0 ∷ 0 ∷ [])) (pos 2) 42 1802 10812 ≡ given (nums (2 ∷ 1 ∷ 2 ∷ 2 ∷ 2 ∷ 1 ∷ 0 ∷ 0 ∷ 0 ∷ []))
unfolding ask_broadcast
e30 = refl

-- broadcast_call: refused 1
e31 : ask_broadcast [] (pos 17) 43 0 0 ≡ refused 1
unfolding ask_broadcast
e31 = refl

e32 : ask_broadcast (nums (0 ∷ 0 ∷ 5 ∷ [])) (pos 2) 43 0 0 ≡ refused 1
unfolding ask_broadcast
e32 = refl

e33 : ask_broadcast [] (pos 17) 43 1802 10812 ≡ refused 1
unfolding ask_broadcast
e33 = refl

e34 : ask_broadcast (nums (0 ∷ 0 ∷ 5 ∷ [])) (pos 1) 43 1802 10812 ≡ refused 1
unfolding ask_broadcast
e34 = refl

e35 : ask_broadcast (nums (0 ∷ 0 ∷ 5 ∷ [])) (pos 2) 43 1802 10812 ≡ refused 1
unfolding ask_broadcast
e35 = refl

e36 : ask_broadcast (nums (0 ∷ 1 ∷ 1 ∷ 2 ∷ 0 ∷ 0 ∷ 0 ∷ [])) (negsuc 0) 43 1801 10812 ≡ refused 1
unfolding ask_broadcast
e36 = refl

e37 : ask_broadcast (pos 0 ∷ negsuc 0 ∷ pos 0 ∷ pos 0 ∷ pos 0 ∷ pos 0 ∷ pos 0 ∷ pos 0 ∷ pos 5 ∷ []) (pos 2) 43 1802 10812 ≡ refused 1
unfolding ask_broadcast
e37 = refl

e38 : ask_broadcast (nums (2 ∷ 0 ∷ 0 ∷ 1 ∷ 0 ∷ 0 ∷ [])) (pos 2147483647) 42 1802 10812 ≡ refused 1
unfolding ask_broadcast
e38 = refl

e39 : ask_broadcast (pos 0 ∷ negsuc 2147483647 ∷ pos 0 ∷ pos 0 ∷ pos 0 ∷ pos 0 ∷ pos 0 ∷ pos 0 ∷ pos 5 ∷ []) (pos 2) 43 1802 10812 ≡ refused 1
unfolding ask_broadcast
e39 = refl

-- broadcast_call: refused 11
e40 : ask_broadcast (nums (1 ∷ 0 ∷ 1 ∷ 1 ∷ 0 ∷ 0 ∷ 1 ∷ 0 ∷ 2 ∷ 0 ∷ 1 ∷ 1 ∷ 1 ∷ 0 ∷ 1 ∷ 3 ∷ 2 ∷ 0 ∷ 2 ∷ 0 ∷ 0 ∷ 1 ∷ 0 ∷ 0 ∷ [])) (pos 3) 42 1802 10812 ≡ refused 11
unfolding ask_broadcast
e40 = refl

-- broadcast_call: refused 12
e41 : ask_broadcast (nums (2 ∷ 0 ∷ 0 ∷ 0 ∷ 0 ∷ 0 ∷ [])) (pos 1) 43 1802 10812 ≡ refused 12
unfolding ask_broadcast
e41 = refl

e42 : ask_broadcast (nums (2 ∷ 0 ∷ 0 ∷ 0 ∷ 0 ∷ 0 ∷ [])) (pos 1) 47 1802 10812 ≡ refused 12
unfolding ask_broadcast
e42 = refl

e43 : ask_broadcast (nums (0 ∷ 0 ∷ 0 ∷ 0 ∷ 0 ∷ 0 ∷ 2 ∷ 0 ∷ 0 ∷ 0 ∷ 0 ∷ 0 ∷ [])) (pos 2) 42 1802 10812 ≡ refused 12
unfolding ask_broadcast
e43 = refl

-- broadcast_call: refused 13
e44 : ask_broadcast (nums (0 ∷ 1 ∷ 1 ∷ 128 ∷ 0 ∷ 0 ∷ 0 ∷ 2 ∷ 0 ∷ 1 ∷ 1 ∷ 1 ∷ 0 ∷ 1 ∷ 65535 ∷ 0 ∷ 1 ∷ 0 ∷ 3 ∷ [])) (pos 2) 255 1802 10812 ≡ refused 13
unfolding ask_broadcast
e44 = refl

-- broadcast_call: refused 2
e45 : ask_broadcast [] (pos 1) 43 0 0 ≡ refused 2
unfolding ask_broadcast
e45 = refl

e46 : ask_broadcast (nums (0 ∷ 0 ∷ 0 ∷ 0 ∷ 0 ∷ 0 ∷ [])) (pos 0) 43 0 0 ≡ refused 2
unfolding ask_broadcast
e46 = refl

e47 : ask_broadcast (nums (1 ∷ 0 ∷ 1 ∷ 1 ∷ 0 ∷ 0 ∷ 0 ∷ [])) (pos 1) 42 0 10812 ≡ refused 2
unfolding ask_broadcast
e47 = refl

e48 : ask_broadcast (nums (2 ∷ 0 ∷ 0 ∷ 1 ∷ 0 ∷ 0 ∷ [])) (pos 16) 43 1802 10811 ≡ refused 2
unfolding ask_broadcast
e48 = refl

e49 : ask_broadcast (nums (0 ∷ 1 ∷ 1 ∷ 1 ∷ 0 ∷ 2 ∷ 0 ∷ 0 ∷ 0 ∷ 2 ∷ 1 ∷ 0 ∷ 0 ∷ [])) (pos 0) 45 1802 0 ≡ refused 2
unfolding ask_broadcast
e49 = refl

-- broadcast_call: refused 3
e50 : ask_broadcast [] (pos 1) 43 1802 10812 ≡ refused 3
unfolding ask_broadcast
e50 = refl

e51 : ask_broadcast (nums (0 ∷ 0 ∷ 0 ∷ 0 ∷ 0 ∷ 0 ∷ [])) (pos 2) 43 1802 10812 ≡ refused 3
unfolding ask_broadcast
e51 = refl

e52 : ask_broadcast (nums (2 ∷ 0 ∷ 0 ∷ 1 ∷ 0 ∷ 0 ∷ [])) (pos 16) 47 1802 10812 ≡ refused 3
unfolding ask_broadcast
e52 = refl

-- broadcast_call: refused 6
e53 : ask_broadcast (nums (0 ∷ 0 ∷ 0 ∷ 0 ∷ 0 ∷ 0 ∷ [])) (pos 0) 43 1802 10812 ≡ refused 6
unfolding ask_broadcast
e53 = refl

e54 : ask_broadcast (nums (2 ∷ 0 ∷ 2 ∷ 3 ∷ 1 ∷ 0 ∷ 1 ∷ 2 ∷ 0 ∷ 2 ∷ 0 ∷ [])) (pos 0) 43 1802 10812 ≡ refused 6
unfolding ask_broadcast
e54 = refl

-- broadcast_call: refused 9
e55 : ask_broadcast (nums (0 ∷ 0 ∷ 0 ∷ 0 ∷ 0 ∷ 0 ∷ 2 ∷ 0 ∷ 0 ∷ 0 ∷ 0 ∷ 0 ∷ [])) (pos 2) 47 1802 10812 ≡ refused 9
unfolding ask_broadcast
e55 = refl

e56 : ask_broadcast (nums (0 ∷ 2 ∷ 2 ∷ 2 ∷ 2 ∷ 0 ∷ 0 ∷ 0 ∷ 2 ∷ 0 ∷ 1 ∷ 2 ∷ 1 ∷ 0 ∷ 0 ∷ 0 ∷ [])) (pos 2) 47 1802 10812 ≡ refused 9
unfolding ask_broadcast
e56 = refl

e57 : ask_broadcast (nums (1 ∷ 0 ∷ 1 ∷ 1 ∷ 0 ∷ 0 ∷ 0 ∷ 1 ∷ 0 ∷ 1 ∷ 1 ∷ 0 ∷ 0 ∷ 0 ∷ 2 ∷ 0 ∷ 0 ∷ 0 ∷ 0 ∷ 0 ∷ [])) (pos 3) 47 1802 10812 ≡ refused 9
unfolding ask_broadcast
e57 = refl
