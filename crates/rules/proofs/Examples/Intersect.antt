-- Examples: Intersect. Each holds by computation; the answers are those of the reading in tests/reading.
-- Written by tests/examples from tests/reading/examples.txt.
use mathlib.Core.Path.{◌≡◌, refl}
use mathlib.Core.Bool.{Bool, true, false}
use mathlib.Core.List.{List, [], ◌∷◌, map}
use Prim.Native.Nat.{ℕ}
use lib.IntN.{ℤ, pos, negsuc}
use Rattle.std.specs.declared.cmp.Ordering.{Ordering}
use Rattle.std.specs.declared.cmp.Ordering.TheVariants.{Less, Equal, Greater}
use Rattle.rules.specs.Refusals.{given, refused}
use Rattle.rules.specs.Endings.{found, nothing}
use Rattle.rules.proofs.Examples.Asked.{nums, ask_intersect}

-- intersect_call: answered
e1 : ask_intersect (nums (0 ∷ 0 ∷ 0 ∷ 0 ∷ 0 ∷ 0 ∷ [])) (nums (0 ∷ 0 ∷ 0 ∷ 0 ∷ 0 ∷ 0 ∷ [])) 1802 10813 ≡ given (nums (0 ∷ 0 ∷ 0 ∷ 0 ∷ 0 ∷ 0 ∷ []))
unfolding ask_intersect
e1 = refl

e2 : ask_intersect (nums (0 ∷ 0 ∷ 0 ∷ 0 ∷ 0 ∷ 0 ∷ [])) (nums (2 ∷ 0 ∷ 0 ∷ 1 ∷ 0 ∷ 0 ∷ [])) 1802 10812 ≡ given (nums (2 ∷ 0 ∷ 0 ∷ 1 ∷ 0 ∷ 0 ∷ []))
unfolding ask_intersect
e2 = refl

e3 : ask_intersect (nums (2 ∷ 0 ∷ 0 ∷ 1 ∷ 0 ∷ 0 ∷ [])) (nums (0 ∷ 0 ∷ 0 ∷ 0 ∷ 0 ∷ 0 ∷ [])) 1802 10812 ≡ given (nums (2 ∷ 0 ∷ 0 ∷ 1 ∷ 0 ∷ 0 ∷ []))
unfolding ask_intersect
e3 = refl

e4 : ask_intersect (nums (2 ∷ 0 ∷ 0 ∷ 1 ∷ 0 ∷ 0 ∷ [])) (nums (2 ∷ 0 ∷ 0 ∷ 1 ∷ 0 ∷ 0 ∷ [])) 1802 10812 ≡ given (nums (0 ∷ 0 ∷ 0 ∷ 0 ∷ 0 ∷ 0 ∷ []))
unfolding ask_intersect
e4 = refl

e5 : ask_intersect (nums (2 ∷ 0 ∷ 0 ∷ 0 ∷ 0 ∷ 0 ∷ [])) (nums (2 ∷ 0 ∷ 0 ∷ 1 ∷ 1 ∷ 0 ∷ 0 ∷ [])) 10812 10812 ≡ given (nums (2 ∷ 0 ∷ 0 ∷ 0 ∷ 0 ∷ 0 ∷ []))
unfolding ask_intersect
e5 = refl

e6 : ask_intersect (nums (0 ∷ 1 ∷ 1 ∷ 0 ∷ 0 ∷ 0 ∷ 0 ∷ [])) (nums (1 ∷ 0 ∷ 1 ∷ 0 ∷ 0 ∷ 0 ∷ 0 ∷ [])) 2000 20000 ≡ given (nums (1 ∷ 0 ∷ 1 ∷ 0 ∷ 0 ∷ 0 ∷ 0 ∷ []))
unfolding ask_intersect
e6 = refl

e7 : ask_intersect (nums (0 ∷ 1 ∷ 1 ∷ 0 ∷ 0 ∷ 0 ∷ 0 ∷ [])) (nums (2 ∷ 0 ∷ 1 ∷ 0 ∷ 0 ∷ 0 ∷ 0 ∷ [])) 1802 10812 ≡ given (nums (2 ∷ 0 ∷ 1 ∷ 0 ∷ 0 ∷ 0 ∷ 0 ∷ []))
unfolding ask_intersect
e7 = refl

e8 : ask_intersect (nums (0 ∷ 1 ∷ 1 ∷ 3 ∷ 0 ∷ 0 ∷ 0 ∷ [])) (nums (0 ∷ 1 ∷ 1 ∷ 3 ∷ 0 ∷ 0 ∷ 0 ∷ [])) 1802 10812 ≡ given (nums (0 ∷ 1 ∷ 1 ∷ 3 ∷ 0 ∷ 0 ∷ 0 ∷ []))
unfolding ask_intersect
e8 = refl

e9 : ask_intersect (nums (1 ∷ 0 ∷ 1 ∷ 3 ∷ 0 ∷ 0 ∷ 0 ∷ [])) (nums (1 ∷ 0 ∷ 1 ∷ 3 ∷ 0 ∷ 0 ∷ 0 ∷ [])) 1803 10813 ≡ given (nums (1 ∷ 0 ∷ 1 ∷ 3 ∷ 0 ∷ 0 ∷ 0 ∷ []))
unfolding ask_intersect
e9 = refl

e10 : ask_intersect (nums (2 ∷ 0 ∷ 1 ∷ 0 ∷ 0 ∷ 0 ∷ 0 ∷ [])) (nums (2 ∷ 0 ∷ 1 ∷ 0 ∷ 0 ∷ 0 ∷ 0 ∷ [])) 1802 10812 ≡ given (nums (0 ∷ 1 ∷ 1 ∷ 0 ∷ 0 ∷ 0 ∷ 0 ∷ []))
unfolding ask_intersect
e10 = refl

e11 : ask_intersect (nums (2 ∷ 0 ∷ 1 ∷ 1 ∷ 0 ∷ 0 ∷ 0 ∷ [])) (nums (0 ∷ 1 ∷ 1 ∷ 1 ∷ 0 ∷ 0 ∷ 0 ∷ [])) 1802 10812 ≡ given (nums (2 ∷ 0 ∷ 1 ∷ 1 ∷ 0 ∷ 0 ∷ 0 ∷ []))
unfolding ask_intersect
e11 = refl

e12 : ask_intersect (nums (2 ∷ 1 ∷ 1 ∷ 1 ∷ 1 ∷ 0 ∷ 0 ∷ [])) (nums (0 ∷ 1 ∷ 1 ∷ 1 ∷ 0 ∷ 0 ∷ 0 ∷ [])) 2000 10812 ≡ given (nums (2 ∷ 1 ∷ 1 ∷ 1 ∷ 1 ∷ 0 ∷ 0 ∷ []))
unfolding ask_intersect
e12 = refl

e13 : ask_intersect (nums (2 ∷ 1 ∷ 1 ∷ 1 ∷ 1 ∷ 0 ∷ 0 ∷ [])) (nums (2 ∷ 1 ∷ 1 ∷ 1 ∷ 1 ∷ 0 ∷ 0 ∷ [])) 1802 10812 ≡ given (nums (0 ∷ 1 ∷ 1 ∷ 1 ∷ 0 ∷ 0 ∷ 0 ∷ []))
unfolding ask_intersect
e13 = refl

e14 : ask_intersect (nums (1 ∷ 0 ∷ 1 ∷ 1 ∷ 0 ∷ 0 ∷ 0 ∷ [])) (nums (2 ∷ 0 ∷ 1 ∷ 1 ∷ 1 ∷ 0 ∷ 0 ∷ 0 ∷ [])) 1802 10812 ≡ given (nums (0 ∷ 1 ∷ 1 ∷ 1 ∷ 0 ∷ 0 ∷ 0 ∷ []))
unfolding ask_intersect
e14 = refl

e15 : ask_intersect (nums (1 ∷ 0 ∷ 1 ∷ 2 ∷ 0 ∷ 0 ∷ 0 ∷ [])) (nums (2 ∷ 0 ∷ 1 ∷ 2 ∷ 1 ∷ 0 ∷ 0 ∷ 0 ∷ [])) 1802 10812 ≡ given (nums (2 ∷ 0 ∷ 1 ∷ 2 ∷ 1 ∷ 0 ∷ 0 ∷ 0 ∷ []))
unfolding ask_intersect
e15 = refl

e16 : ask_intersect (nums (2 ∷ 0 ∷ 0 ∷ 1 ∷ 1 ∷ 1 ∷ 0 ∷ [])) (nums (2 ∷ 0 ∷ 0 ∷ 0 ∷ 0 ∷ 2 ∷ 0 ∷ 2 ∷ [])) 1802 10812 ≡ given (nums (2 ∷ 0 ∷ 0 ∷ 0 ∷ 0 ∷ 0 ∷ []))
unfolding ask_intersect
e16 = refl

e17 : ask_intersect (nums (0 ∷ 2 ∷ 2 ∷ 2 ∷ 1 ∷ 0 ∷ 0 ∷ 0 ∷ [])) (nums (1 ∷ 1 ∷ 2 ∷ 2 ∷ 1 ∷ 0 ∷ 0 ∷ 0 ∷ [])) 1802 10812 ≡ given (nums (1 ∷ 1 ∷ 2 ∷ 2 ∷ 1 ∷ 0 ∷ 0 ∷ 0 ∷ []))
unfolding ask_intersect
e17 = refl

e18 : ask_intersect (nums (0 ∷ 2 ∷ 2 ∷ 4 ∷ 1 ∷ 0 ∷ 0 ∷ 0 ∷ [])) (nums (0 ∷ 2 ∷ 2 ∷ 4 ∷ 1 ∷ 0 ∷ 0 ∷ 0 ∷ [])) 1802 20000 ≡ given (nums (0 ∷ 2 ∷ 2 ∷ 4 ∷ 1 ∷ 0 ∷ 0 ∷ 0 ∷ []))
unfolding ask_intersect
e18 = refl

e19 : ask_intersect (nums (1 ∷ 0 ∷ 2 ∷ 2 ∷ 2 ∷ 0 ∷ 0 ∷ 0 ∷ [])) (nums (1 ∷ 0 ∷ 2 ∷ 2 ∷ 2 ∷ 0 ∷ 0 ∷ 0 ∷ [])) 2000 10812 ≡ given (nums (1 ∷ 0 ∷ 2 ∷ 2 ∷ 2 ∷ 0 ∷ 0 ∷ 0 ∷ []))
unfolding ask_intersect
e19 = refl

e20 : ask_intersect (nums (2 ∷ 0 ∷ 2 ∷ 2 ∷ 2 ∷ 0 ∷ 0 ∷ 0 ∷ [])) (nums (0 ∷ 2 ∷ 2 ∷ 2 ∷ 2 ∷ 0 ∷ 0 ∷ 0 ∷ [])) 1802 10812 ≡ given (nums (2 ∷ 0 ∷ 2 ∷ 2 ∷ 2 ∷ 0 ∷ 0 ∷ 0 ∷ []))
unfolding ask_intersect
e20 = refl

e21 : ask_intersect (nums (2 ∷ 1 ∷ 2 ∷ 0 ∷ 0 ∷ 0 ∷ 0 ∷ 0 ∷ [])) (nums (2 ∷ 0 ∷ 2 ∷ 0 ∷ 0 ∷ 0 ∷ 0 ∷ 0 ∷ [])) 1802 20000 ≡ given (nums (0 ∷ 2 ∷ 2 ∷ 0 ∷ 0 ∷ 0 ∷ 0 ∷ 0 ∷ []))
unfolding ask_intersect
e21 = refl

e22 : ask_intersect (nums (2 ∷ 1 ∷ 2 ∷ 2 ∷ 2 ∷ 0 ∷ 0 ∷ 0 ∷ [])) (nums (0 ∷ 2 ∷ 2 ∷ 2 ∷ 2 ∷ 0 ∷ 0 ∷ 0 ∷ [])) 1802 10812 ≡ given (nums (2 ∷ 1 ∷ 2 ∷ 2 ∷ 2 ∷ 0 ∷ 0 ∷ 0 ∷ []))
unfolding ask_intersect
e22 = refl

e23 : ask_intersect (nums (2 ∷ 2 ∷ 2 ∷ 2 ∷ 3 ∷ 1 ∷ 0 ∷ 0 ∷ [])) (nums (0 ∷ 2 ∷ 2 ∷ 2 ∷ 3 ∷ 0 ∷ 0 ∷ 0 ∷ [])) 1802 10812 ≡ given (nums (2 ∷ 2 ∷ 2 ∷ 2 ∷ 3 ∷ 1 ∷ 0 ∷ 0 ∷ []))
unfolding ask_intersect
e23 = refl

e24 : ask_intersect (nums (2 ∷ 0 ∷ 2 ∷ 0 ∷ 0 ∷ 0 ∷ 0 ∷ 0 ∷ [])) (pos 2 ∷ pos 0 ∷ pos 2 ∷ pos 0 ∷ pos 0 ∷ pos 0 ∷ pos 0 ∷ pos 0 ∷ negsuc 0 ∷ []) 1802 10812 ≡ given (nums (0 ∷ 2 ∷ 2 ∷ 0 ∷ 0 ∷ 0 ∷ 0 ∷ 0 ∷ []))
unfolding ask_intersect
e24 = refl

e25 : ask_intersect (nums (0 ∷ 3 ∷ 3 ∷ 2 ∷ 0 ∷ 2 ∷ 0 ∷ 0 ∷ 0 ∷ [])) (nums (0 ∷ 3 ∷ 3 ∷ 2 ∷ 0 ∷ 2 ∷ 0 ∷ 0 ∷ 0 ∷ [])) 1802 10812 ≡ given (nums (0 ∷ 3 ∷ 3 ∷ 2 ∷ 0 ∷ 2 ∷ 0 ∷ 0 ∷ 0 ∷ []))
unfolding ask_intersect
e25 = refl

e26 : ask_intersect (nums (1 ∷ 0 ∷ 3 ∷ 2 ∷ 2 ∷ 2 ∷ 0 ∷ 0 ∷ 0 ∷ [])) (nums (1 ∷ 0 ∷ 3 ∷ 2 ∷ 2 ∷ 2 ∷ 0 ∷ 0 ∷ 0 ∷ [])) 1802 10812 ≡ given (nums (1 ∷ 0 ∷ 3 ∷ 2 ∷ 2 ∷ 2 ∷ 0 ∷ 0 ∷ 0 ∷ []))
unfolding ask_intersect
e26 = refl

e27 : ask_intersect (nums (1 ∷ 2 ∷ 3 ∷ 3 ∷ 2 ∷ 1 ∷ 0 ∷ 0 ∷ 0 ∷ [])) (nums (1 ∷ 2 ∷ 3 ∷ 3 ∷ 2 ∷ 1 ∷ 0 ∷ 0 ∷ 0 ∷ [])) 1802 10812 ≡ given (nums (1 ∷ 2 ∷ 3 ∷ 3 ∷ 2 ∷ 1 ∷ 0 ∷ 0 ∷ 0 ∷ []))
unfolding ask_intersect
e27 = refl

e28 : ask_intersect (nums (2 ∷ 3 ∷ 3 ∷ 3 ∷ 3 ∷ 3 ∷ 1 ∷ 0 ∷ 0 ∷ [])) (nums (0 ∷ 3 ∷ 3 ∷ 3 ∷ 3 ∷ 3 ∷ 0 ∷ 0 ∷ 0 ∷ [])) 1802 10812 ≡ given (nums (2 ∷ 3 ∷ 3 ∷ 3 ∷ 3 ∷ 3 ∷ 1 ∷ 0 ∷ 0 ∷ []))
unfolding ask_intersect
e28 = refl

e29 : ask_intersect (nums (1 ∷ 1 ∷ 2 ∷ 4 ∷ 1 ∷ 0 ∷ 0 ∷ 0 ∷ 4 ∷ 5 ∷ [])) (nums (1 ∷ 1 ∷ 2 ∷ 4 ∷ 1 ∷ 0 ∷ 0 ∷ 0 ∷ [])) 1802 10812 ≡ given (nums (1 ∷ 1 ∷ 2 ∷ 4 ∷ 1 ∷ 0 ∷ 0 ∷ 0 ∷ []))
unfolding ask_intersect
e29 = refl

e30 : ask_intersect (nums (0 ∷ 1 ∷ 1 ∷ 2 ∷ 0 ∷ 2 ∷ 0 ∷ 5 ∷ 1 ∷ 6 ∷ 0 ∷ [])) (nums (2 ∷ 0 ∷ 1 ∷ 2 ∷ 1 ∷ 0 ∷ 0 ∷ 0 ∷ [])) 1802 10812 ≡ given (nums (2 ∷ 0 ∷ 1 ∷ 2 ∷ 1 ∷ 0 ∷ 1 ∷ 0 ∷ 5 ∷ 0 ∷ []))
unfolding ask_intersect
e30 = refl

e31 : ask_intersect (nums (1 ∷ 0 ∷ 2 ∷ 2 ∷ 2 ∷ 0 ∷ 1 ∷ 0 ∷ 1 ∷ 7 ∷ 0 ∷ [])) (nums (1 ∷ 0 ∷ 2 ∷ 2 ∷ 2 ∷ 0 ∷ 0 ∷ 0 ∷ [])) 1802 10812 ≡ given (nums (1 ∷ 0 ∷ 2 ∷ 2 ∷ 2 ∷ 0 ∷ 1 ∷ 0 ∷ 1 ∷ 7 ∷ 0 ∷ []))
unfolding ask_intersect
e31 = refl

e32 : ask_intersect (nums (2 ∷ 2 ∷ 2 ∷ 1 ∷ 0 ∷ 0 ∷ 1 ∷ 0 ∷ 0 ∷ 0 ∷ 0 ∷ [])) (nums (2 ∷ 1 ∷ 2 ∷ 1 ∷ 0 ∷ 0 ∷ 0 ∷ 0 ∷ [])) 1802 10812 ≡ given (nums (0 ∷ 2 ∷ 2 ∷ 1 ∷ 0 ∷ 0 ∷ 0 ∷ 0 ∷ []))
unfolding ask_intersect
e32 = refl

e33 : ask_intersect (nums (2 ∷ 1 ∷ 2 ∷ 1 ∷ 128 ∷ 1 ∷ 0 ∷ 0 ∷ 0 ∷ [])) (nums (2 ∷ 0 ∷ 2 ∷ 1 ∷ 128 ∷ 1 ∷ 0 ∷ 1 ∷ 0 ∷ 0 ∷ [])) 1802 10812 ≡ given (nums (2 ∷ 0 ∷ 2 ∷ 1 ∷ 128 ∷ 1 ∷ 0 ∷ 1 ∷ 0 ∷ 0 ∷ []))
unfolding ask_intersect
e33 = refl

e34 : ask_intersect (nums (1 ∷ 0 ∷ 2 ∷ 128 ∷ 128 ∷ 0 ∷ 0 ∷ 0 ∷ [])) (nums (2 ∷ 0 ∷ 2 ∷ 128 ∷ 128 ∷ 1 ∷ 1 ∷ 1 ∷ 0 ∷ 0 ∷ [])) 1802 10812 ≡ given (nums (2 ∷ 0 ∷ 2 ∷ 128 ∷ 128 ∷ 1 ∷ 1 ∷ 1 ∷ 0 ∷ 0 ∷ []))
unfolding ask_intersect
e34 = refl

e35 : ask_intersect (nums (2 ∷ 1 ∷ 2 ∷ 2 ∷ 2 ∷ 1 ∷ 1 ∷ 1 ∷ 1 ∷ 0 ∷ 7 ∷ 0 ∷ [])) (nums (2 ∷ 0 ∷ 2 ∷ 2 ∷ 2 ∷ 2 ∷ 1 ∷ 0 ∷ 1 ∷ 1 ∷ 0 ∷ 0 ∷ [])) 1802 10812 ≡ given (nums (2 ∷ 0 ∷ 2 ∷ 2 ∷ 2 ∷ 2 ∷ 1 ∷ 0 ∷ 1 ∷ 1 ∷ 2 ∷ 1 ∷ 0 ∷ 7 ∷ 1 ∷ 1 ∷ 7 ∷ 0 ∷ []))
unfolding ask_intersect
e35 = refl

-- intersect_call: refused 1
e36 : ask_intersect (nums (0 ∷ 0 ∷ 5 ∷ [])) [] 0 0 ≡ refused 1
unfolding ask_intersect
e36 = refl

e37 : ask_intersect (nums (0 ∷ 0 ∷ 5 ∷ [])) [] 1802 10812 ≡ refused 1
unfolding ask_intersect
e37 = refl

e38 : ask_intersect (nums (0 ∷ 5 ∷ 5 ∷ 1 ∷ 1 ∷ 1 ∷ 1 ∷ 1 ∷ 0 ∷ 0 ∷ 0 ∷ [])) (nums (0 ∷ 2 ∷ 2 ∷ 4 ∷ 2 ∷ 0 ∷ 0 ∷ 0 ∷ [])) 2000 10812 ≡ refused 1
unfolding ask_intersect
e38 = refl

e39 : ask_intersect (nums (1 ∷ 5 ∷ 5 ∷ 1 ∷ 1 ∷ 1 ∷ 1 ∷ 1 ∷ 0 ∷ 0 ∷ 0 ∷ [])) (nums (0 ∷ 2 ∷ 2 ∷ 2 ∷ 2 ∷ 0 ∷ 0 ∷ 1 ∷ 1 ∷ 0 ∷ 2 ∷ [])) 1802 0 ≡ refused 1
unfolding ask_intersect
e39 = refl

-- intersect_call: refused 11
e40 : ask_intersect (nums (2 ∷ 2 ∷ 2 ∷ 4 ∷ 3 ∷ 1 ∷ 0 ∷ 0 ∷ [])) (nums (1 ∷ 1 ∷ 2 ∷ 4 ∷ 3 ∷ 0 ∷ 0 ∷ 0 ∷ [])) 1802 10812 ≡ refused 11
unfolding ask_intersect
e40 = refl

e41 : ask_intersect (nums (0 ∷ 1 ∷ 1 ∷ 1 ∷ 0 ∷ 1 ∷ 0 ∷ 0 ∷ 0 ∷ [])) (nums (2 ∷ 1 ∷ 1 ∷ 1 ∷ 0 ∷ 0 ∷ 0 ∷ [])) 1802 10812 ≡ refused 11
unfolding ask_intersect
e41 = refl

e42 : ask_intersect (nums (2 ∷ 2 ∷ 3 ∷ 1 ∷ 1 ∷ 1 ∷ 1 ∷ 0 ∷ 1 ∷ 0 ∷ 0 ∷ 0 ∷ 0 ∷ 0 ∷ [])) (nums (2 ∷ 1 ∷ 3 ∷ 1 ∷ 1 ∷ 1 ∷ 0 ∷ 0 ∷ 0 ∷ [])) 1802 10812 ≡ refused 11
unfolding ask_intersect
e42 = refl

e43 : ask_intersect (nums (1 ∷ 2 ∷ 3 ∷ 3 ∷ 3 ∷ 3 ∷ 0 ∷ 1 ∷ 1 ∷ 0 ∷ 0 ∷ 2 ∷ 0 ∷ [])) (nums (1 ∷ 0 ∷ 3 ∷ 3 ∷ 3 ∷ 3 ∷ 0 ∷ 1 ∷ 2 ∷ 0 ∷ 0 ∷ 1 ∷ 0 ∷ [])) 1802 20000 ≡ refused 11
unfolding ask_intersect
e43 = refl

-- intersect_call: refused 12
e44 : ask_intersect (nums (2 ∷ 3 ∷ 3 ∷ 2 ∷ 2 ∷ 200 ∷ 1 ∷ 0 ∷ 0 ∷ [])) (nums (2 ∷ 1 ∷ 3 ∷ 2 ∷ 2 ∷ 200 ∷ 0 ∷ 0 ∷ 0 ∷ [])) 1802 10812 ≡ refused 12
unfolding ask_intersect
e44 = refl

-- intersect_call: refused 13
e45 : ask_intersect (nums (1 ∷ 0 ∷ 1 ∷ 129 ∷ 0 ∷ 0 ∷ 0 ∷ [])) (nums (2 ∷ 0 ∷ 1 ∷ 129 ∷ 0 ∷ 0 ∷ 0 ∷ [])) 1802 10812 ≡ refused 13
unfolding ask_intersect
e45 = refl

e46 : ask_intersect (nums (2 ∷ 0 ∷ 2 ∷ 2 ∷ 129 ∷ 0 ∷ 0 ∷ 0 ∷ [])) (nums (2 ∷ 1 ∷ 2 ∷ 2 ∷ 129 ∷ 1 ∷ 0 ∷ 0 ∷ 0 ∷ [])) 1802 10812 ≡ refused 13
unfolding ask_intersect
e46 = refl

e47 : ask_intersect (nums (2 ∷ 1 ∷ 2 ∷ 1 ∷ 129 ∷ 1 ∷ 0 ∷ 0 ∷ 0 ∷ [])) (nums (2 ∷ 0 ∷ 2 ∷ 1 ∷ 129 ∷ 1 ∷ 0 ∷ 1 ∷ 0 ∷ 0 ∷ [])) 1802 10812 ≡ refused 13
unfolding ask_intersect
e47 = refl

e48 : ask_intersect (nums (1 ∷ 0 ∷ 2 ∷ 129 ∷ 129 ∷ 0 ∷ 0 ∷ 0 ∷ [])) (nums (2 ∷ 0 ∷ 2 ∷ 129 ∷ 129 ∷ 1 ∷ 1 ∷ 1 ∷ 0 ∷ 0 ∷ [])) 1802 10812 ≡ refused 13
unfolding ask_intersect
e48 = refl

-- intersect_call: refused 2
e49 : ask_intersect [] (nums (0 ∷ 0 ∷ 0 ∷ 0 ∷ 0 ∷ 0 ∷ [])) 0 0 ≡ refused 2
unfolding ask_intersect
e49 = refl

e50 : ask_intersect (nums (0 ∷ 0 ∷ 0 ∷ 0 ∷ 0 ∷ 0 ∷ [])) [] 0 0 ≡ refused 2
unfolding ask_intersect
e50 = refl

e51 : ask_intersect [] (nums (2 ∷ 0 ∷ 0 ∷ 1 ∷ 0 ∷ 0 ∷ [])) 1802 10811 ≡ refused 2
unfolding ask_intersect
e51 = refl

e52 : ask_intersect (nums (2 ∷ 0 ∷ 1 ∷ 2 ∷ 2 ∷ 1 ∷ 0 ∷ 0 ∷ 0 ∷ [])) (nums (0 ∷ 0 ∷ 0 ∷ 0 ∷ 0 ∷ 0 ∷ [])) 0 0 ≡ refused 2
unfolding ask_intersect
e52 = refl

e53 : ask_intersect (nums (0 ∷ 0 ∷ 0 ∷ 0 ∷ 0 ∷ 0 ∷ [])) (nums (0 ∷ 0 ∷ 0 ∷ 0 ∷ 1 ∷ 2 ∷ 2 ∷ 0 ∷ 1 ∷ [])) 0 10812 ≡ refused 2
unfolding ask_intersect
e53 = refl

-- intersect_call: refused 3
e54 : ask_intersect [] (nums (0 ∷ 0 ∷ 0 ∷ 0 ∷ 0 ∷ 0 ∷ [])) 1802 10812 ≡ refused 3
unfolding ask_intersect
e54 = refl

e55 : ask_intersect (nums (0 ∷ 0 ∷ 0 ∷ 0 ∷ 0 ∷ 0 ∷ [])) [] 1802 10812 ≡ refused 3
unfolding ask_intersect
e55 = refl

e56 : ask_intersect (nums (0 ∷ 1 ∷ 1 ∷ 1 ∷ 0 ∷ 0 ∷ 0 ∷ [])) [] 1802 10812 ≡ refused 3
unfolding ask_intersect
e56 = refl

e57 : ask_intersect (nums (1 ∷ 3 ∷ 4 ∷ 1 ∷ 2 ∷ 4 ∷ 1 ∷ 0 ∷ 0 ∷ 0 ∷ [])) [] 10812 10812 ≡ refused 3
unfolding ask_intersect
e57 = refl

e58 : ask_intersect [] (nums (2 ∷ 0 ∷ 1 ∷ 4 ∷ 1 ∷ 1 ∷ 0 ∷ 3 ∷ 1 ∷ 4 ∷ 2 ∷ 3 ∷ 2 ∷ 2147483647 ∷ [])) 1802 10812 ≡ refused 3
unfolding ask_intersect
e58 = refl

e59 : ask_intersect (pos 2 ∷ pos 2 ∷ negsuc 2147483647 ∷ pos 4 ∷ pos 3 ∷ pos 1 ∷ pos 0 ∷ pos 0 ∷ []) (nums (2 ∷ 2 ∷ 2 ∷ 4 ∷ 3 ∷ 1 ∷ 0 ∷ 0 ∷ [])) 1802 10812 ≡ refused 3
unfolding ask_intersect
e59 = refl

e60 : ask_intersect (nums (0 ∷ 1 ∷ 1 ∷ 3 ∷ 0 ∷ 0 ∷ 3 ∷ 1 ∷ 0 ∷ 2 ∷ 0 ∷ 2 ∷ [])) (nums (1 ∷ 0 ∷ 1 ∷ 3 ∷ 0 ∷ 0 ∷ 2 ∷ 0 ∷ 1 ∷ 1 ∷ 3 ∷ [])) 2000 10812 ≡ refused 3
unfolding ask_intersect
e60 = refl

-- intersect_call: refused 4
e61 : ask_intersect (nums (2 ∷ 0 ∷ 1 ∷ 2 ∷ 2 ∷ 1 ∷ 0 ∷ 0 ∷ 0 ∷ [])) (nums (0 ∷ 0 ∷ 0 ∷ 0 ∷ 0 ∷ 0 ∷ [])) 1802 10812 ≡ refused 4
unfolding ask_intersect
e61 = refl

e62 : ask_intersect (nums (0 ∷ 1 ∷ 1 ∷ 2 ∷ 0 ∷ 0 ∷ 0 ∷ [])) (nums (2 ∷ 0 ∷ 1 ∷ 2 ∷ 2 ∷ 1 ∷ 0 ∷ 0 ∷ 0 ∷ [])) 1802 10812 ≡ refused 4
unfolding ask_intersect
e62 = refl

-- intersect_call: refused 6
e63 : ask_intersect (nums (1 ∷ 0 ∷ 2 ∷ 3 ∷ 3 ∷ 0 ∷ 0 ∷ 2 ∷ 2 ∷ 2 ∷ 1 ∷ 4 ∷ 1 ∷ 3 ∷ [])) (nums (1 ∷ 0 ∷ 1 ∷ 2 ∷ 0 ∷ 0 ∷ 0 ∷ [])) 1802 20000 ≡ refused 6
unfolding ask_intersect
e63 = refl
