-- Examples: Permute. Each holds by computation; the answers are those of the reading in tests/reading.
-- Written by tests/examples from tests/reading/examples.txt.
use mathlib.Core.Path.{◌≡◌, refl}
use mathlib.Core.Bool.{Bool, true, false}
use mathlib.Core.List.{List, [], ◌∷◌, map}
use Prim.Native.Nat.{ℕ}
use lib.IntN.{ℤ, pos, negsuc}
use Rattle.std.specs.declared.cmp.Ordering.{Ordering}
use Rattle.std.specs.declared.cmp.Ordering.TheVariants.{Less, Equal, Greater}
use Rattle.rules.specs.Refusals.{given, refused}
use Rattle.rules.specs.Endings.{found, nothing}
use Rattle.rules.proofs.Examples.Asked.{nums, ask_permute}

-- permute_call: answered
e1 : ask_permute (nums (0 ∷ 0 ∷ 0 ∷ 0 ∷ 0 ∷ 0 ∷ [])) [] 1802 10812 ≡ given (nums (0 ∷ 0 ∷ 0 ∷ 0 ∷ 0 ∷ 0 ∷ []))
unfolding ask_permute
e1 = refl

e2 : ask_permute (nums (2 ∷ 0 ∷ 0 ∷ 1 ∷ 0 ∷ 0 ∷ [])) [] 1802 10812 ≡ given (nums (2 ∷ 0 ∷ 0 ∷ 1 ∷ 0 ∷ 0 ∷ []))
unfolding ask_permute
e2 = refl

e3 : ask_permute (nums (2 ∷ 1 ∷ 1 ∷ 1 ∷ 0 ∷ 0 ∷ 0 ∷ [])) [] 1802 10812 ≡ given (nums (2 ∷ 1 ∷ 1 ∷ 1 ∷ 0 ∷ 0 ∷ 0 ∷ []))
unfolding ask_permute
e3 = refl

e4 : ask_permute (nums (0 ∷ 1 ∷ 1 ∷ 2 ∷ 0 ∷ 0 ∷ 0 ∷ [])) (nums (1 ∷ [])) 1802 10813 ≡ given (nums (0 ∷ 2 ∷ 2 ∷ 1 ∷ 2 ∷ 0 ∷ 0 ∷ 0 ∷ []))
unfolding ask_permute
e4 = refl

e5 : ask_permute (nums (1 ∷ 0 ∷ 1 ∷ 3 ∷ 0 ∷ 0 ∷ 0 ∷ [])) (nums (0 ∷ [])) 2000 10812 ≡ given (nums (1 ∷ 0 ∷ 1 ∷ 3 ∷ 0 ∷ 0 ∷ 0 ∷ []))
unfolding ask_permute
e5 = refl

e6 : ask_permute (nums (1 ∷ 1 ∷ 2 ∷ 1 ∷ 1 ∷ 0 ∷ 0 ∷ 0 ∷ [])) [] 1802 10812 ≡ given (nums (1 ∷ 1 ∷ 2 ∷ 1 ∷ 1 ∷ 0 ∷ 0 ∷ 0 ∷ []))
unfolding ask_permute
e6 = refl

e7 : ask_permute (nums (0 ∷ 2 ∷ 2 ∷ 1 ∷ 1 ∷ 0 ∷ 0 ∷ 0 ∷ [])) (nums (0 ∷ [])) 1802 10812 ≡ given (nums (0 ∷ 1 ∷ 1 ∷ 1 ∷ 0 ∷ 0 ∷ 0 ∷ []))
unfolding ask_permute
e7 = refl

e8 : ask_permute (nums (1 ∷ 0 ∷ 2 ∷ 1 ∷ 1 ∷ 0 ∷ 0 ∷ 0 ∷ [])) (nums (0 ∷ [])) 1802 10812 ≡ given (nums (1 ∷ 0 ∷ 1 ∷ 1 ∷ 0 ∷ 0 ∷ 0 ∷ []))
unfolding ask_permute
e8 = refl

e9 : ask_permute (nums (2 ∷ 0 ∷ 1 ∷ 3 ∷ 1 ∷ 0 ∷ 0 ∷ 0 ∷ [])) (nums (1 ∷ [])) 1802 10812 ≡ given (nums (2 ∷ 0 ∷ 2 ∷ 1 ∷ 3 ∷ 1 ∷ 0 ∷ 0 ∷ 0 ∷ 0 ∷ []))
unfolding ask_permute
e9 = refl

e10 : ask_permute (nums (2 ∷ 0 ∷ 1 ∷ 4 ∷ 1 ∷ 2 ∷ 0 ∷ 0 ∷ [])) (nums (0 ∷ [])) 1802 20000 ≡ given (nums (2 ∷ 0 ∷ 1 ∷ 4 ∷ 1 ∷ 2 ∷ 0 ∷ 0 ∷ []))
unfolding ask_permute
e10 = refl

e11 : ask_permute (nums (1 ∷ 1 ∷ 3 ∷ 1 ∷ 1 ∷ 1 ∷ 0 ∷ 0 ∷ 0 ∷ [])) [] 1802 20000 ≡ given (nums (1 ∷ 1 ∷ 3 ∷ 1 ∷ 1 ∷ 1 ∷ 0 ∷ 0 ∷ 0 ∷ []))
unfolding ask_permute
e11 = refl

e12 : ask_permute (nums (2 ∷ 1 ∷ 2 ∷ 1 ∷ 1 ∷ 1 ∷ 0 ∷ 0 ∷ 0 ∷ [])) [] 1802 10812 ≡ given (nums (2 ∷ 1 ∷ 2 ∷ 1 ∷ 1 ∷ 1 ∷ 0 ∷ 0 ∷ 0 ∷ []))
unfolding ask_permute
e12 = refl

e13 : ask_permute (nums (2 ∷ 3 ∷ 3 ∷ 1 ∷ 1 ∷ 1 ∷ 1 ∷ 0 ∷ 0 ∷ [])) [] 1802 10812 ≡ given (nums (2 ∷ 3 ∷ 3 ∷ 1 ∷ 1 ∷ 1 ∷ 1 ∷ 0 ∷ 0 ∷ []))
unfolding ask_permute
e13 = refl

e14 : ask_permute (nums (0 ∷ 1 ∷ 1 ∷ 1 ∷ 0 ∷ 0 ∷ 1 ∷ 0 ∷ 1 ∷ [])) (nums (1 ∷ [])) 1802 10812 ≡ given (nums (0 ∷ 2 ∷ 2 ∷ 1 ∷ 1 ∷ 0 ∷ 0 ∷ 1 ∷ 0 ∷ 0 ∷ 1 ∷ []))
unfolding ask_permute
e14 = refl

e15 : ask_permute (nums (0 ∷ 3 ∷ 3 ∷ 2 ∷ 1 ∷ 1 ∷ 0 ∷ 0 ∷ 0 ∷ [])) (nums (0 ∷ [])) 1802 20000 ≡ given (nums (0 ∷ 1 ∷ 1 ∷ 2 ∷ 0 ∷ 0 ∷ 0 ∷ []))
unfolding ask_permute
e15 = refl

e16 : ask_permute (nums (1 ∷ 0 ∷ 1 ∷ 2 ∷ 0 ∷ 1 ∷ 1 ∷ 2 ∷ 0 ∷ [])) (nums (0 ∷ [])) 1802 10812 ≡ given (nums (1 ∷ 0 ∷ 1 ∷ 2 ∷ 0 ∷ 1 ∷ 1 ∷ 2 ∷ 0 ∷ []))
unfolding ask_permute
e16 = refl

e17 : ask_permute (nums (1 ∷ 0 ∷ 3 ∷ 1 ∷ 1 ∷ 1 ∷ 0 ∷ 0 ∷ 0 ∷ [])) (nums (0 ∷ [])) 1803 10812 ≡ given (nums (1 ∷ 0 ∷ 1 ∷ 1 ∷ 0 ∷ 0 ∷ 0 ∷ []))
unfolding ask_permute
e17 = refl

e18 : ask_permute (nums (2 ∷ 0 ∷ 3 ∷ 1 ∷ 1 ∷ 1 ∷ 0 ∷ 0 ∷ 0 ∷ [])) (nums (0 ∷ [])) 1802 10813 ≡ given (nums (2 ∷ 0 ∷ 1 ∷ 1 ∷ 0 ∷ 0 ∷ 0 ∷ []))
unfolding ask_permute
e18 = refl

e19 : ask_permute (nums (1 ∷ 0 ∷ 4 ∷ 1 ∷ 1 ∷ 1 ∷ 1 ∷ 0 ∷ 0 ∷ 0 ∷ [])) [] 1802 10812 ≡ given (nums (1 ∷ 0 ∷ 4 ∷ 1 ∷ 1 ∷ 1 ∷ 1 ∷ 0 ∷ 0 ∷ 0 ∷ []))
unfolding ask_permute
e19 = refl

e20 : ask_permute (nums (0 ∷ 3 ∷ 3 ∷ 2 ∷ 3 ∷ 4 ∷ 0 ∷ 0 ∷ 0 ∷ [])) (nums (1 ∷ 2 ∷ 0 ∷ [])) 1802 10812 ≡ given (nums (0 ∷ 3 ∷ 3 ∷ 4 ∷ 2 ∷ 3 ∷ 0 ∷ 0 ∷ 0 ∷ []))
unfolding ask_permute
e20 = refl

e21 : ask_permute (nums (1 ∷ 2 ∷ 3 ∷ 3 ∷ 4 ∷ 3 ∷ 0 ∷ 0 ∷ 0 ∷ [])) (nums (0 ∷ 1 ∷ 2 ∷ [])) 1802 10812 ≡ given (nums (1 ∷ 2 ∷ 3 ∷ 3 ∷ 4 ∷ 3 ∷ 0 ∷ 0 ∷ 0 ∷ []))
unfolding ask_permute
e21 = refl

e22 : ask_permute (nums (0 ∷ 4 ∷ 4 ∷ 1 ∷ 1 ∷ 1 ∷ 1 ∷ 0 ∷ 0 ∷ 0 ∷ [])) (nums (0 ∷ 1 ∷ [])) 1802 10812 ≡ given (nums (0 ∷ 2 ∷ 2 ∷ 1 ∷ 1 ∷ 0 ∷ 0 ∷ 0 ∷ []))
unfolding ask_permute
e22 = refl

e23 : ask_permute (nums (1 ∷ 1 ∷ 4 ∷ 1 ∷ 1 ∷ 1 ∷ 1 ∷ 0 ∷ 0 ∷ 0 ∷ [])) (nums (0 ∷ 1 ∷ 2 ∷ [])) 1802 10812 ≡ given (nums (1 ∷ 1 ∷ 3 ∷ 1 ∷ 1 ∷ 1 ∷ 0 ∷ 0 ∷ 0 ∷ []))
unfolding ask_permute
e23 = refl

e24 : ask_permute (nums (2 ∷ 0 ∷ 2 ∷ 2 ∷ 3 ∷ 2 ∷ 0 ∷ 2 ∷ 1 ∷ 0 ∷ 0 ∷ 0 ∷ [])) (nums (1 ∷ 0 ∷ [])) 1802 10812 ≡ given (nums (2 ∷ 0 ∷ 2 ∷ 3 ∷ 2 ∷ 2 ∷ 2 ∷ 0 ∷ 0 ∷ 1 ∷ 0 ∷ 0 ∷ []))
unfolding ask_permute
e24 = refl

e25 : ask_permute (nums (0 ∷ 3 ∷ 3 ∷ 2 ∷ 3 ∷ 4 ∷ 0 ∷ 1 ∷ 1 ∷ 2 ∷ 3 ∷ 7 ∷ 0 ∷ [])) (nums (2 ∷ 0 ∷ 1 ∷ [])) 1802 10812 ≡ given (nums (0 ∷ 3 ∷ 3 ∷ 3 ∷ 4 ∷ 2 ∷ 0 ∷ 1 ∷ 2 ∷ 3 ∷ 1 ∷ 7 ∷ 0 ∷ []))
unfolding ask_permute
e25 = refl

e26 : ask_permute (nums (0 ∷ 2 ∷ 2 ∷ 2 ∷ 2 ∷ 0 ∷ 2 ∷ 0 ∷ 1 ∷ 5 ∷ 1 ∷ 0 ∷ 4 ∷ 2 ∷ 0 ∷ 1 ∷ 3 ∷ 1 ∷ 0 ∷ 2 ∷ [])) (nums (1 ∷ 0 ∷ [])) 1802 10812 ≡ given (nums (0 ∷ 2 ∷ 2 ∷ 2 ∷ 2 ∷ 0 ∷ 2 ∷ 0 ∷ 1 ∷ 4 ∷ 1 ∷ 0 ∷ 5 ∷ 2 ∷ 0 ∷ 1 ∷ 2 ∷ 1 ∷ 0 ∷ 3 ∷ []))
unfolding ask_permute
e26 = refl

-- permute_call: refused 1
e27 : ask_permute (nums (0 ∷ 0 ∷ 5 ∷ [])) (nums (9 ∷ [])) 0 0 ≡ refused 1
unfolding ask_permute
e27 = refl

e28 : ask_permute (nums (0 ∷ 0 ∷ 5 ∷ [])) (nums (9 ∷ [])) 1802 10812 ≡ refused 1
unfolding ask_permute
e28 = refl

e29 : ask_permute (nums (2 ∷ 6 ∷ 6 ∷ 1 ∷ 1 ∷ 1 ∷ 1 ∷ 1 ∷ 1 ∷ 0 ∷ 0 ∷ 0 ∷ [])) [] 1802 10812 ≡ refused 1
unfolding ask_permute
e29 = refl

-- permute_call: refused 11
e30 : ask_permute (nums (2 ∷ 1 ∷ 1 ∷ 2 ∷ 1 ∷ 0 ∷ 0 ∷ [])) (nums (0 ∷ [])) 1802 10812 ≡ refused 11
unfolding ask_permute
e30 = refl

-- permute_call: refused 12
e31 : ask_permute (nums (1 ∷ 0 ∷ 1 ∷ 4 ∷ 0 ∷ 0 ∷ 0 ∷ [])) (nums (3 ∷ [])) 1802 10812 ≡ refused 12
unfolding ask_permute
e31 = refl

e32 : ask_permute (nums (1 ∷ 1 ∷ 2 ∷ 1 ∷ 1 ∷ 0 ∷ 0 ∷ 0 ∷ [])) (nums (0 ∷ [])) 1802 10812 ≡ refused 12
unfolding ask_permute
e32 = refl

e33 : ask_permute (nums (1 ∷ 0 ∷ 2 ∷ 2 ∷ 2 ∷ 0 ∷ 0 ∷ 0 ∷ [])) (nums (0 ∷ 2 ∷ [])) 1802 10812 ≡ refused 12
unfolding ask_permute
e33 = refl

e34 : ask_permute (nums (1 ∷ 2 ∷ 3 ∷ 1 ∷ 1 ∷ 1 ∷ 0 ∷ 0 ∷ 0 ∷ [])) (nums (0 ∷ [])) 1802 10812 ≡ refused 12
unfolding ask_permute
e34 = refl

-- permute_call: refused 2
e35 : ask_permute [] (nums (9 ∷ [])) 0 0 ≡ refused 2
unfolding ask_permute
e35 = refl

e36 : ask_permute (nums (0 ∷ 0 ∷ [])) [] 1802 0 ≡ refused 2
unfolding ask_permute
e36 = refl

e37 : ask_permute (nums (0 ∷ 0 ∷ 0 ∷ 0 ∷ 0 ∷ 0 ∷ [])) (nums (9 ∷ [])) 0 0 ≡ refused 2
unfolding ask_permute
e37 = refl

e38 : ask_permute (nums (0 ∷ 0 ∷ 0 ∷ 0 ∷ 0 ∷ 0 ∷ [])) [] 1801 10812 ≡ refused 2
unfolding ask_permute
e38 = refl

e39 : ask_permute (nums (0 ∷ 4 ∷ 4 ∷ 1 ∷ 1 ∷ 1 ∷ 1 ∷ 0 ∷ 0 ∷ 0 ∷ [])) [] 1802 10811 ≡ refused 2
unfolding ask_permute
e39 = refl

e40 : ask_permute (nums (2 ∷ 0 ∷ 0 ∷ 1 ∷ 1 ∷ 1 ∷ 0 ∷ [])) (nums (2147483647 ∷ [])) 1802 0 ≡ refused 2
unfolding ask_permute
e40 = refl

e41 : ask_permute (pos 0 ∷ pos 2 ∷ pos 2 ∷ pos 3 ∷ pos 2 ∷ pos 0 ∷ negsuc 2147483647 ∷ pos 0 ∷ []) (pos 3 ∷ negsuc 0 ∷ []) 1802 0 ≡ refused 2
unfolding ask_permute
e41 = refl

-- permute_call: refused 3
e42 : ask_permute [] [] 1802 20000 ≡ refused 3
unfolding ask_permute
e42 = refl

e43 : ask_permute [] (nums (9 ∷ [])) 1802 10812 ≡ refused 3
unfolding ask_permute
e43 = refl

-- permute_call: refused 8
e44 : ask_permute (nums (0 ∷ 0 ∷ 0 ∷ 0 ∷ 0 ∷ 0 ∷ [])) (nums (9 ∷ [])) 1802 10812 ≡ refused 8
unfolding ask_permute
e44 = refl

e45 : ask_permute (nums (0 ∷ 0 ∷ 0 ∷ 0 ∷ 0 ∷ 0 ∷ [])) (nums (0 ∷ 2 ∷ [])) 1802 10812 ≡ refused 8
unfolding ask_permute
e45 = refl

e46 : ask_permute (nums (0 ∷ 1 ∷ 1 ∷ 1 ∷ 0 ∷ 0 ∷ 0 ∷ [])) (nums (4 ∷ [])) 1802 10812 ≡ refused 8
unfolding ask_permute
e46 = refl

e47 : ask_permute (nums (2 ∷ 1 ∷ 2 ∷ 2 ∷ 2 ∷ 1 ∷ 0 ∷ 0 ∷ 0 ∷ [])) (nums (0 ∷ 0 ∷ [])) 1802 10812 ≡ refused 8
unfolding ask_permute
e47 = refl

e48 : ask_permute (nums (0 ∷ 2 ∷ 2 ∷ 4 ∷ 4 ∷ 0 ∷ 0 ∷ 2 ∷ 0 ∷ 2 ∷ 0 ∷ 1 ∷ 0 ∷ 1 ∷ [])) [] 1803 10812 ≡ refused 8
unfolding ask_permute
e48 = refl
