-- Examples: Concatenate. Each holds by computation; the answers are those of the reading in tests/reading.
-- Written by tests/examples from tests/reading/examples.txt.
use mathlib.Core.Path.{◌≡◌, refl}
use mathlib.Core.Bool.{Bool, true, false}
use mathlib.Core.List.{List, [], ◌∷◌, map}
use Prim.Native.Nat.{ℕ}
use lib.IntN.{ℤ, pos, negsuc}
use Rattle.std.specs.declared.cmp.Ordering.{Ordering}
use Rattle.std.specs.declared.cmp.Ordering.TheVariants.{Less, Equal, Greater}
use Rattle.rules.specs.Refusals.{given, refused}
use Rattle.rules.specs.Endings.{found, nothing}
use Rattle.rules.proofs.Examples.Asked.{nums, ask_concatenate}

-- concatenate_call: answered
e1 : ask_concatenate [] (pos 0) (pos 0) 1802 10812 ≡ given (nums (0 ∷ 0 ∷ 0 ∷ 0 ∷ 0 ∷ 0 ∷ []))
unfolding ask_concatenate
e1 = refl

e2 : ask_concatenate [] (pos 0) (pos 0) 2000 10812 ≡ given (nums (0 ∷ 0 ∷ 0 ∷ 0 ∷ 0 ∷ 0 ∷ []))
unfolding ask_concatenate
e2 = refl

e3 : ask_concatenate [] (pos 0) (pos 1) 1802 10812 ≡ given (nums (0 ∷ 0 ∷ 0 ∷ 0 ∷ 0 ∷ 0 ∷ []))
unfolding ask_concatenate
e3 = refl

e4 : ask_concatenate [] (pos 0) (pos 1) 2000 10812 ≡ given (nums (0 ∷ 0 ∷ 0 ∷ 0 ∷ 0 ∷ 0 ∷ []))
unfolding ask_concatenate
e4 = refl

e5 : ask_concatenate [] (pos 0) (pos 2) 1802 10812 ≡ given (nums (0 ∷ 0 ∷ 0 ∷ 0 ∷ 0 ∷ 0 ∷ []))
unfolding ask_concatenate
e5 = refl

e6 : ask_concatenate [] (pos 0) (pos 2) 2000 10812 ≡ given (nums (0 ∷ 0 ∷ 0 ∷ 0 ∷ 0 ∷ 0 ∷ []))
unfolding ask_concatenate
e6 = refl

e7 : ask_concatenate [] (pos 0) (pos 3) 1802 10812 ≡ given (nums (0 ∷ 0 ∷ 0 ∷ 0 ∷ 0 ∷ 0 ∷ []))
unfolding ask_concatenate
e7 = refl

e8 : ask_concatenate [] (pos 0) (pos 3) 1803 10812 ≡ given (nums (0 ∷ 0 ∷ 0 ∷ 0 ∷ 0 ∷ 0 ∷ []))
unfolding ask_concatenate
e8 = refl

e9 : ask_concatenate [] (pos 0) (pos 4) 1802 10812 ≡ given (nums (0 ∷ 0 ∷ 0 ∷ 0 ∷ 0 ∷ 0 ∷ []))
unfolding ask_concatenate
e9 = refl

e10 : ask_concatenate [] (pos 0) (pos 4) 2000 10812 ≡ given (nums (0 ∷ 0 ∷ 0 ∷ 0 ∷ 0 ∷ 0 ∷ []))
unfolding ask_concatenate
e10 = refl

e11 : ask_concatenate (nums (0 ∷ 0 ∷ 0 ∷ 0 ∷ 0 ∷ 0 ∷ 0 ∷ [])) (pos 1) (pos 0) 1802 10812 ≡ given (nums (0 ∷ 0 ∷ 0 ∷ 0 ∷ 0 ∷ 0 ∷ []))
unfolding ask_concatenate
e11 = refl

e12 : ask_concatenate (nums (0 ∷ 0 ∷ 0 ∷ 0 ∷ 0 ∷ 0 ∷ 0 ∷ 0 ∷ [])) (pos 1) (pos 1) 1802 10812 ≡ given (nums (0 ∷ 1 ∷ 1 ∷ 1 ∷ 0 ∷ 0 ∷ 0 ∷ []))
unfolding ask_concatenate
e12 = refl

e13 : ask_concatenate (nums (0 ∷ 0 ∷ 0 ∷ 0 ∷ 0 ∷ 0 ∷ 0 ∷ 0 ∷ 0 ∷ [])) (pos 1) (pos 2) 1802 10812 ≡ given (nums (0 ∷ 2 ∷ 2 ∷ 1 ∷ 1 ∷ 0 ∷ 0 ∷ 0 ∷ []))
unfolding ask_concatenate
e13 = refl

e14 : ask_concatenate (nums (0 ∷ 0 ∷ 2 ∷ 0 ∷ 1 ∷ 0 ∷ 0 ∷ 0 ∷ 0 ∷ [])) (pos 1) (pos 1) 1802 10812 ≡ given (nums (0 ∷ 1 ∷ 1 ∷ 0 ∷ 0 ∷ 0 ∷ 0 ∷ []))
unfolding ask_concatenate
e14 = refl

e15 : ask_concatenate (nums (0 ∷ 1 ∷ 0 ∷ 1 ∷ 1 ∷ 2 ∷ 0 ∷ 0 ∷ 0 ∷ [])) (pos 1) (pos 1) 1802 10812 ≡ given (nums (0 ∷ 1 ∷ 1 ∷ 2 ∷ 0 ∷ 0 ∷ 0 ∷ []))
unfolding ask_concatenate
e15 = refl

e16 : ask_concatenate (nums (1 ∷ 0 ∷ 2 ∷ 1 ∷ 1 ∷ 3 ∷ 0 ∷ 0 ∷ 0 ∷ [])) (pos 1) (pos 1) 1802 10812 ≡ given (nums (2 ∷ 1 ∷ 1 ∷ 4 ∷ 0 ∷ 0 ∷ 0 ∷ []))
unfolding ask_concatenate
e16 = refl

e17 : ask_concatenate (nums (2 ∷ 0 ∷ 0 ∷ 1 ∷ 1 ∷ 3 ∷ 0 ∷ 0 ∷ 0 ∷ [])) (pos 1) (pos 1) 1802 10812 ≡ given (nums (2 ∷ 0 ∷ 1 ∷ 5 ∷ 3 ∷ 2 ∷ 3 ∷ 4 ∷ 0 ∷ 0 ∷ []))
unfolding ask_concatenate
e17 = refl

e18 : ask_concatenate (nums (1 ∷ 1 ∷ 2 ∷ 0 ∷ 1 ∷ 1 ∷ 1 ∷ 0 ∷ 0 ∷ 0 ∷ [])) (pos 1) (pos 1) 1802 10812 ≡ given (nums (2 ∷ 0 ∷ 1 ∷ 2 ∷ 0 ∷ 0 ∷ 0 ∷ []))
unfolding ask_concatenate
e18 = refl

e19 : ask_concatenate (nums (65536 ∷ 1 ∷ 2 ∷ 0 ∷ 1 ∷ 0 ∷ 0 ∷ 0 ∷ 0 ∷ [])) (pos 1) (pos 1) 1802 10812 ≡ given (nums (2 ∷ 0 ∷ 1 ∷ 65536 ∷ 0 ∷ 0 ∷ 0 ∷ []))
unfolding ask_concatenate
e19 = refl

e20 : ask_concatenate (nums (1 ∷ 0 ∷ 0 ∷ 1 ∷ 1 ∷ 1 ∷ 0 ∷ 1 ∷ 65534 ∷ 2 ∷ 0 ∷ [])) (pos 1) (pos 1) 1802 10812 ≡ given (nums (2 ∷ 0 ∷ 1 ∷ 2 ∷ 1 ∷ 1 ∷ 1 ∷ 65535 ∷ 2 ∷ 0 ∷ []))
unfolding ask_concatenate
e20 = refl

e21 : ask_concatenate (nums (0 ∷ 0 ∷ 0 ∷ 1 ∷ 1 ∷ 1 ∷ 0 ∷ 0 ∷ 0 ∷ 1 ∷ 0 ∷ 0 ∷ 1 ∷ 1 ∷ 3 ∷ 0 ∷ 0 ∷ 0 ∷ [])) (pos 2) (pos 1) 1802 10812 ≡ given (nums (0 ∷ 1 ∷ 1 ∷ 4 ∷ 0 ∷ 0 ∷ 0 ∷ []))
unfolding ask_concatenate
e21 = refl

e22 : ask_concatenate (nums (0 ∷ 0 ∷ 1 ∷ 0 ∷ 1 ∷ 0 ∷ 0 ∷ 0 ∷ 0 ∷ 0 ∷ 0 ∷ 1 ∷ 0 ∷ 1 ∷ 1 ∷ 0 ∷ 0 ∷ 0 ∷ [])) (pos 2) (pos 1) 1802 10812 ≡ given (nums (1 ∷ 0 ∷ 1 ∷ 1 ∷ 0 ∷ 0 ∷ 0 ∷ []))
unfolding ask_concatenate
e22 = refl

e23 : ask_concatenate (nums (0 ∷ 0 ∷ 2 ∷ 0 ∷ 1 ∷ 1 ∷ 0 ∷ 0 ∷ 0 ∷ 1 ∷ 0 ∷ 2 ∷ 0 ∷ 1 ∷ 1 ∷ 0 ∷ 0 ∷ 0 ∷ [])) (pos 2) (pos 1) 1802 10812 ≡ given (nums (1 ∷ 0 ∷ 1 ∷ 2 ∷ 0 ∷ 0 ∷ 0 ∷ []))
unfolding ask_concatenate
e23 = refl

e24 : ask_concatenate (nums (0 ∷ 0 ∷ 1 ∷ 0 ∷ 1 ∷ 1 ∷ 0 ∷ 0 ∷ 0 ∷ 0 ∷ 0 ∷ 0 ∷ 1 ∷ 1 ∷ 128 ∷ 0 ∷ 0 ∷ 0 ∷ [])) (pos 2) (pos 1) 1802 10812 ≡ given (nums (0 ∷ 1 ∷ 1 ∷ 128 ∷ 0 ∷ 0 ∷ 0 ∷ []))
unfolding ask_concatenate
e24 = refl

e25 : ask_concatenate (nums (0 ∷ 1 ∷ 1 ∷ 0 ∷ 1 ∷ 2 ∷ 0 ∷ 0 ∷ 0 ∷ 2 ∷ 0 ∷ 0 ∷ 1 ∷ 1 ∷ 2 ∷ 0 ∷ 1 ∷ 0 ∷ 1 ∷ 0 ∷ [])) (pos 2) (pos 1) 1802 10812 ≡ given (nums (2 ∷ 0 ∷ 1 ∷ 4 ∷ 2 ∷ 2 ∷ 3 ∷ 1 ∷ 2 ∷ 1 ∷ 0 ∷ []))
unfolding ask_concatenate
e25 = refl

e26 : ask_concatenate (nums (0 ∷ 0 ∷ 0 ∷ 0 ∷ 2 ∷ 2 ∷ 0 ∷ 3 ∷ 0 ∷ 0 ∷ 0 ∷ 0 ∷ 0 ∷ 0 ∷ 0 ∷ 2 ∷ 2 ∷ 2 ∷ 1 ∷ 0 ∷ 0 ∷ 0 ∷ [])) (pos 2) (pos 2) 1802 10812 ≡ given (nums (0 ∷ 2 ∷ 2 ∷ 2 ∷ 3 ∷ 0 ∷ 0 ∷ 0 ∷ []))
unfolding ask_concatenate
e26 = refl

e27 : ask_concatenate (nums (0 ∷ 0 ∷ 0 ∷ 0 ∷ 2 ∷ 2 ∷ 1 ∷ 2 ∷ 0 ∷ 0 ∷ 0 ∷ 1 ∷ 0 ∷ 0 ∷ 0 ∷ 2 ∷ 2 ∷ 1 ∷ 2 ∷ 0 ∷ 0 ∷ 0 ∷ [])) (pos 2) (pos 2) 1802 10812 ≡ given (nums (0 ∷ 2 ∷ 2 ∷ 2 ∷ 2 ∷ 0 ∷ 0 ∷ 0 ∷ []))
unfolding ask_concatenate
e27 = refl

e28 : ask_concatenate (nums (0 ∷ 0 ∷ 0 ∷ 0 ∷ 2 ∷ 2 ∷ 1 ∷ 2 ∷ 0 ∷ 0 ∷ 0 ∷ 1 ∷ 1 ∷ 0 ∷ 0 ∷ 2 ∷ 2 ∷ 1 ∷ 2 ∷ 0 ∷ 0 ∷ 0 ∷ [])) (pos 2) (pos 2) 1802 10812 ≡ given (nums (2 ∷ 0 ∷ 2 ∷ 2 ∷ 3 ∷ 4 ∷ 0 ∷ 0 ∷ 0 ∷ 1 ∷ 1 ∷ 1 ∷ 1 ∷ 2 ∷ 0 ∷ 0 ∷ []))
unfolding ask_concatenate
e28 = refl

e29 : ask_concatenate (nums (0 ∷ 0 ∷ 0 ∷ 0 ∷ 2 ∷ 2 ∷ 2 ∷ 1 ∷ 0 ∷ 0 ∷ 0 ∷ 2 ∷ 0 ∷ 0 ∷ 0 ∷ 2 ∷ 2 ∷ 1 ∷ 3 ∷ 0 ∷ 0 ∷ 0 ∷ [])) (pos 2) (pos 2) 1802 10812 ≡ given (nums (0 ∷ 2 ∷ 2 ∷ 3 ∷ 3 ∷ 0 ∷ 0 ∷ 0 ∷ []))
unfolding ask_concatenate
e29 = refl

e30 : ask_concatenate (nums (0 ∷ 0 ∷ 0 ∷ 1 ∷ 0 ∷ 2 ∷ 2 ∷ 2 ∷ 0 ∷ 0 ∷ 0 ∷ 2 ∷ 2 ∷ 0 ∷ 1 ∷ 0 ∷ 2 ∷ 1 ∷ 1 ∷ 0 ∷ 0 ∷ 0 ∷ [])) (pos 2) (pos 2) 1802 10812 ≡ given (nums (1 ∷ 0 ∷ 2 ∷ 3 ∷ 3 ∷ 0 ∷ 0 ∷ 0 ∷ []))
unfolding ask_concatenate
e30 = refl

e31 : ask_concatenate (nums (0 ∷ 0 ∷ 0 ∷ 1 ∷ 1 ∷ 32768 ∷ 0 ∷ 0 ∷ 0 ∷ 32768 ∷ 0 ∷ 0 ∷ 1 ∷ 1 ∷ 32768 ∷ 0 ∷ 0 ∷ 0 ∷ [])) (pos 2) (pos 1) 1802 10812 ≡ given (nums (0 ∷ 1 ∷ 1 ∷ 65536 ∷ 0 ∷ 0 ∷ 0 ∷ []))
unfolding ask_concatenate
e31 = refl

e32 : ask_concatenate (nums (0 ∷ 0 ∷ 0 ∷ 2 ∷ 1 ∷ 2 ∷ 1 ∷ 2 ∷ 1 ∷ 0 ∷ 0 ∷ 0 ∷ 1 ∷ 0 ∷ 0 ∷ 2 ∷ 1 ∷ 2 ∷ 2 ∷ 2 ∷ 1 ∷ 1 ∷ 0 ∷ 0 ∷ [])) (pos 2) (pos 2) 1802 10812 ≡ given (nums (2 ∷ 1 ∷ 2 ∷ 3 ∷ 2 ∷ 2 ∷ 0 ∷ 2 ∷ 0 ∷ 0 ∷ []))
unfolding ask_concatenate
e32 = refl

e33 : ask_concatenate (nums (0 ∷ 0 ∷ 0 ∷ 2 ∷ 0 ∷ 2 ∷ 2 ∷ 2 ∷ 1 ∷ 0 ∷ 1 ∷ 0 ∷ 0 ∷ 3 ∷ 1 ∷ 1 ∷ 2 ∷ 0 ∷ 2 ∷ 1 ∷ 2 ∷ 1 ∷ 0 ∷ 0 ∷ 0 ∷ 0 ∷ [])) (pos 2) (pos 2) 1802 10812 ≡ given (nums (2 ∷ 0 ∷ 2 ∷ 4 ∷ 3 ∷ 1 ∷ 0 ∷ 1 ∷ 0 ∷ 0 ∷ []))
unfolding ask_concatenate
e33 = refl

-- concatenate_call: refused 1
e34 : ask_concatenate (nums (0 ∷ 2 ∷ [])) (pos 1) (pos 5) 0 0 ≡ refused 1
unfolding ask_concatenate
e34 = refl

e35 : ask_concatenate (nums (0 ∷ 2 ∷ [])) (pos 17) (pos 1) 0 0 ≡ refused 1
unfolding ask_concatenate
e35 = refl

e36 : ask_concatenate [] (negsuc 0) (pos 3) 1802 10812 ≡ refused 1
unfolding ask_concatenate
e36 = refl

e37 : ask_concatenate (nums (0 ∷ 2 ∷ [])) (pos 1) (pos 5) 1802 10812 ≡ refused 1
unfolding ask_concatenate
e37 = refl

e38 : ask_concatenate (nums (0 ∷ 2 ∷ [])) (pos 17) (pos 1) 1802 10812 ≡ refused 1
unfolding ask_concatenate
e38 = refl

e39 : ask_concatenate [] (negsuc 2147483647) (pos 2) 1802 10812 ≡ refused 1
unfolding ask_concatenate
e39 = refl

e40 : ask_concatenate (nums (1 ∷ 0 ∷ 1 ∷ 0 ∷ 7 ∷ 128 ∷ 0 ∷ 0 ∷ 0 ∷ [])) (pos 1) (pos 1) 1802 10812 ≡ refused 1
unfolding ask_concatenate
e40 = refl

e41 : ask_concatenate (nums (1 ∷ 0 ∷ 2 ∷ 1 ∷ 1 ∷ 2 ∷ 0 ∷ 0 ∷ 0 ∷ [])) (pos 2147483647) (pos 1) 10812 10812 ≡ refused 1
unfolding ask_concatenate
e41 = refl

e42 : ask_concatenate (nums (0 ∷ 0 ∷ 2 ∷ 0 ∷ 2 ∷ 2 ∷ 0 ∷ 3 ∷ 0 ∷ 0 ∷ 2 ∷ 0 ∷ 0 ∷ 1 ∷ 0 ∷ 1 ∷ 1 ∷ [])) (pos 1) (pos 5) 1801 10812 ≡ refused 1
unfolding ask_concatenate
e42 = refl

-- concatenate_call: refused 10
e43 : ask_concatenate (nums (0 ∷ 0 ∷ 0 ∷ 0 ∷ 2 ∷ 2 ∷ 1 ∷ 0 ∷ 0 ∷ 0 ∷ 0 ∷ [])) (pos 1) (pos 2) 1802 10812 ≡ refused 10
unfolding ask_concatenate
e43 = refl

e44 : ask_concatenate (nums (1 ∷ 0 ∷ 1 ∷ 1 ∷ 1 ∷ 2 ∷ 1 ∷ 1 ∷ 0 ∷ 0 ∷ 0 ∷ [])) (pos 1) (pos 2) 1802 10812 ≡ refused 10
unfolding ask_concatenate
e44 = refl

e45 : ask_concatenate (nums (0 ∷ 0 ∷ 0 ∷ 0 ∷ 0 ∷ 0 ∷ 0 ∷ 0 ∷ 0 ∷ 0 ∷ 0 ∷ 0 ∷ 0 ∷ 0 ∷ 0 ∷ 0 ∷ [])) (pos 2) (pos 1) 1802 10812 ≡ refused 10
unfolding ask_concatenate
e45 = refl

e46 : ask_concatenate (nums (1 ∷ 0 ∷ 0 ∷ 0 ∷ 0 ∷ 0 ∷ 0 ∷ 0 ∷ 0 ∷ 0 ∷ 2 ∷ 1 ∷ 1 ∷ 0 ∷ 2 ∷ 2 ∷ 2 ∷ 0 ∷ 0 ∷ 0 ∷ [])) (pos 2) (pos 2) 1802 10812 ≡ refused 10
unfolding ask_concatenate
e46 = refl

e47 : ask_concatenate (nums (0 ∷ 0 ∷ 4 ∷ 4 ∷ 1 ∷ 1 ∷ 1 ∷ 1 ∷ 0 ∷ 0 ∷ 2 ∷ 0 ∷ 0 ∷ 0 ∷ 0 ∷ 0 ∷ 0 ∷ 0 ∷ 0 ∷ 0 ∷ 1 ∷ [])) (pos 1) (pos 0) 1802 10812 ≡ refused 10
unfolding ask_concatenate
e47 = refl

e48 : ask_concatenate (nums (0 ∷ 0 ∷ 0 ∷ 0 ∷ 2 ∷ 2 ∷ 1 ∷ 2 ∷ 0 ∷ 0 ∷ 0 ∷ 1 ∷ 0 ∷ 0 ∷ 0 ∷ 2 ∷ 2 ∷ 1 ∷ 3 ∷ 0 ∷ 0 ∷ 0 ∷ [])) (pos 2) (pos 2) 1802 10812 ≡ refused 10
unfolding ask_concatenate
e48 = refl

e49 : ask_concatenate (nums (0 ∷ 0 ∷ 0 ∷ 1 ∷ 1 ∷ 2 ∷ 2 ∷ 3 ∷ 0 ∷ 0 ∷ 0 ∷ 2 ∷ 0 ∷ 0 ∷ 1 ∷ 1 ∷ 2 ∷ 2 ∷ 3 ∷ 0 ∷ 0 ∷ 0 ∷ [])) (pos 2) (pos 2) 1802 10812 ≡ refused 10
unfolding ask_concatenate
e49 = refl

e50 : ask_concatenate (nums (0 ∷ 0 ∷ 1 ∷ 2 ∷ 1 ∷ 2 ∷ 2 ∷ 2 ∷ 0 ∷ 0 ∷ 0 ∷ 0 ∷ 0 ∷ 0 ∷ 2 ∷ 0 ∷ 2 ∷ 2 ∷ 2 ∷ 0 ∷ 0 ∷ 0 ∷ [])) (pos 2) (pos 2) 1802 10812 ≡ refused 10
unfolding ask_concatenate
e50 = refl

e51 : ask_concatenate (nums (0 ∷ 0 ∷ 0 ∷ 2 ∷ 1 ∷ 2 ∷ 2 ∷ 1 ∷ 1 ∷ 0 ∷ 0 ∷ 0 ∷ 0 ∷ 0 ∷ 0 ∷ 1 ∷ 1 ∷ 2 ∷ 2 ∷ 1 ∷ 0 ∷ 0 ∷ 0 ∷ [])) (pos 2) (pos 2) 1802 10812 ≡ refused 10
unfolding ask_concatenate
e51 = refl

e52 : ask_concatenate (nums (0 ∷ 0 ∷ 0 ∷ 2 ∷ 1 ∷ 2 ∷ 1 ∷ 2 ∷ 1 ∷ 0 ∷ 0 ∷ 0 ∷ 1 ∷ 0 ∷ 0 ∷ 2 ∷ 1 ∷ 2 ∷ 1 ∷ 3 ∷ 1 ∷ 0 ∷ 0 ∷ 0 ∷ [])) (pos 2) (pos 2) 1802 10812 ≡ refused 10
unfolding ask_concatenate
e52 = refl

e53 : ask_concatenate (nums (2 ∷ 3 ∷ 0 ∷ 1 ∷ 2 ∷ 3 ∷ 3 ∷ 4 ∷ 1 ∷ 0 ∷ 0 ∷ 3 ∷ 0 ∷ 4 ∷ 0 ∷ 2 ∷ 2 ∷ 3 ∷ 0 ∷ 2 ∷ 4 ∷ 4 ∷ 0 ∷ 3 ∷ [])) (pos 1) (pos 2) 1802 10813 ≡ refused 10
unfolding ask_concatenate
e53 = refl

-- concatenate_call: refused 12
e54 : ask_concatenate (nums (0 ∷ 2 ∷ 0 ∷ 0 ∷ 1 ∷ 0 ∷ 0 ∷ [])) (pos 1) (pos 0) 1802 10812 ≡ refused 12
unfolding ask_concatenate
e54 = refl

e55 : ask_concatenate (nums (0 ∷ 0 ∷ 2 ∷ 1 ∷ 1 ∷ 1 ∷ 1 ∷ 0 ∷ 0 ∷ [])) (pos 1) (pos 1) 1802 10812 ≡ refused 12
unfolding ask_concatenate
e55 = refl

-- concatenate_call: refused 13
e56 : ask_concatenate (nums (1 ∷ 0 ∷ 1 ∷ 0 ∷ 1 ∷ 129 ∷ 0 ∷ 0 ∷ 0 ∷ [])) (pos 1) (pos 1) 1802 10812 ≡ refused 13
unfolding ask_concatenate
e56 = refl

e57 : ask_concatenate (nums (65536 ∷ 0 ∷ 2 ∷ 0 ∷ 1 ∷ 1 ∷ 0 ∷ 0 ∷ 0 ∷ [])) (pos 1) (pos 1) 1802 10812 ≡ refused 13
unfolding ask_concatenate
e57 = refl

e58 : ask_concatenate (nums (65536 ∷ 0 ∷ 2 ∷ 0 ∷ 1 ∷ 1 ∷ 1 ∷ 0 ∷ 0 ∷ 0 ∷ [])) (pos 1) (pos 1) 1802 10812 ≡ refused 13
unfolding ask_concatenate
e58 = refl

e59 : ask_concatenate (nums (1 ∷ 0 ∷ 0 ∷ 1 ∷ 1 ∷ 1 ∷ 0 ∷ 1 ∷ 65535 ∷ 2 ∷ 0 ∷ [])) (pos 1) (pos 1) 1802 10812 ≡ refused 13
unfolding ask_concatenate
e59 = refl

e60 : ask_concatenate (nums (0 ∷ 0 ∷ 0 ∷ 1 ∷ 1 ∷ 32768 ∷ 0 ∷ 0 ∷ 0 ∷ 32768 ∷ 0 ∷ 0 ∷ 1 ∷ 1 ∷ 32769 ∷ 0 ∷ 0 ∷ 0 ∷ [])) (pos 2) (pos 1) 1802 10812 ≡ refused 13
unfolding ask_concatenate
e60 = refl

-- concatenate_call: refused 2
e61 : ask_concatenate [] (pos 0) (pos 2) 1802 0 ≡ refused 2
unfolding ask_concatenate
e61 = refl

e62 : ask_concatenate [] (pos 0) (pos 0) 0 10812 ≡ refused 2
unfolding ask_concatenate
e62 = refl

e63 : ask_concatenate (nums (0 ∷ 2 ∷ [])) (pos 1) (pos 1) 0 0 ≡ refused 2
unfolding ask_concatenate
e63 = refl

e64 : ask_concatenate [] (pos 0) (pos 4) 1801 10812 ≡ refused 2
unfolding ask_concatenate
e64 = refl

e65 : ask_concatenate (nums (0 ∷ 0 ∷ 0 ∷ [])) (pos 1) (pos 2) 2000 0 ≡ refused 2
unfolding ask_concatenate
e65 = refl

e66 : ask_concatenate (nums (2 ∷ 0 ∷ 1 ∷ 1 ∷ 1 ∷ 0 ∷ 0 ∷ 0 ∷ [])) (pos 1) (pos 0) 0 0 ≡ refused 2
unfolding ask_concatenate
e66 = refl

e67 : ask_concatenate (nums (0 ∷ 0 ∷ 0 ∷ 0 ∷ 0 ∷ 0 ∷ 4 ∷ 4 ∷ 1 ∷ 1 ∷ 1 ∷ 1 ∷ 0 ∷ 0 ∷ 0 ∷ [])) (pos 1) (pos 4) 1802 0 ≡ refused 2
unfolding ask_concatenate
e67 = refl

-- concatenate_call: refused 3
e68 : ask_concatenate [] (pos 1) (pos 1) 1802 10812 ≡ refused 3
unfolding ask_concatenate
e68 = refl

e69 : ask_concatenate (nums (0 ∷ 2 ∷ [])) (pos 1) (pos 1) 1802 10812 ≡ refused 3
unfolding ask_concatenate
e69 = refl

e70 : ask_concatenate (nums (1 ∷ 0 ∷ [])) (pos 16) (pos 1) 1802 10812 ≡ refused 3
unfolding ask_concatenate
e70 = refl

e71 : ask_concatenate (nums (1 ∷ 2 ∷ 0 ∷ 2 ∷ 0 ∷ [])) (pos 16) (pos 2) 1802 20000 ≡ refused 3
unfolding ask_concatenate
e71 = refl

e72 : ask_concatenate (nums (0 ∷ 0 ∷ 0 ∷ 0 ∷ 1 ∷ 2 ∷ [])) (pos 1) (pos 4) 1802 10812 ≡ refused 3
unfolding ask_concatenate
e72 = refl

e73 : ask_concatenate (nums (0 ∷ 0 ∷ 0 ∷ 0 ∷ 1 ∷ 1 ∷ 1 ∷ 0 ∷ 0 ∷ 0 ∷ 1 ∷ 0 ∷ 1 ∷ 0 ∷ 0 ∷ 0 ∷ 2 ∷ 2 ∷ 2 ∷ 3 ∷ 0 ∷ 1 ∷ 0 ∷ 0 ∷ 1 ∷ 2 ∷ 1 ∷ 2 ∷ 2 ∷ 4 ∷ 5 ∷ 3 ∷ [])) (pos 2) (pos 2) 1802 10813 ≡ refused 3
unfolding ask_concatenate
e73 = refl

-- concatenate_call: refused 5
e74 : ask_concatenate [] (pos 0) (negsuc 0) 1802 10812 ≡ refused 5
unfolding ask_concatenate
e74 = refl

e75 : ask_concatenate (nums (0 ∷ 7 ∷ 0 ∷ 0 ∷ 0 ∷ 0 ∷ 0 ∷ 0 ∷ [])) (pos 1) (pos 1) 1802 10812 ≡ refused 5
unfolding ask_concatenate
e75 = refl

e76 : ask_concatenate (nums (2 ∷ 0 ∷ 1 ∷ 1 ∷ 1 ∷ 0 ∷ 0 ∷ 0 ∷ [])) (pos 1) (pos 0) 1802 10812 ≡ refused 5
unfolding ask_concatenate
e76 = refl

e77 : ask_concatenate (nums (65537 ∷ 1 ∷ 2 ∷ 0 ∷ 1 ∷ 0 ∷ 0 ∷ 0 ∷ 0 ∷ [])) (pos 1) (pos 1) 1802 10812 ≡ refused 5
unfolding ask_concatenate
e77 = refl

e78 : ask_concatenate (pos 0 ∷ negsuc 69999 ∷ pos 1 ∷ pos 2 ∷ pos 2 ∷ pos 2 ∷ pos 1 ∷ pos 1 ∷ pos 1 ∷ pos 0 ∷ pos 0 ∷ negsuc 0 ∷ pos 8 ∷ pos 3 ∷ pos 7 ∷ []) (pos 1) (pos 2) 1802 10812 ≡ refused 5
unfolding ask_concatenate
e78 = refl
