-- Examples: Union. Each holds by computation; the answers are those of the reading in tests/reading.
-- Written by tests/examples from tests/reading/examples.txt.
use mathlib.Core.Path.{◌≡◌, refl}
use mathlib.Core.Bool.{Bool, true, false}
use mathlib.Core.List.{List, [], ◌∷◌, map}
use Prim.Native.Nat.{ℕ}
use lib.IntN.{ℤ, pos, negsuc}
use Rattle.std.specs.declared.cmp.Ordering.{Ordering}
use Rattle.std.specs.declared.cmp.Ordering.TheVariants.{Less, Equal, Greater}
use Rattle.rules.specs.Refusals.{given, refused}
use Rattle.rules.specs.Endings.{found, nothing}
use Rattle.rules.proofs.Examples.Asked.{nums, ask_union}

-- union_call: answered
e1 : ask_union (nums (0 ∷ 0 ∷ 0 ∷ 0 ∷ 0 ∷ 0 ∷ [])) (nums (2 ∷ 0 ∷ 0 ∷ 1 ∷ 0 ∷ 1 ∷ 3 ∷ [])) 1802 10812 ≡ given (nums (0 ∷ 0 ∷ 0 ∷ 0 ∷ 0 ∷ 1 ∷ 3 ∷ []))
unfolding ask_union
e1 = refl

e2 : ask_union (nums (2 ∷ 0 ∷ 0 ∷ 1 ∷ 0 ∷ 0 ∷ [])) (nums (2 ∷ 0 ∷ 0 ∷ 1 ∷ 1 ∷ 2 ∷ 0 ∷ [])) 1802 20000 ≡ given (nums (2 ∷ 0 ∷ 0 ∷ 1 ∷ 1 ∷ 2 ∷ 0 ∷ []))
unfolding ask_union
e2 = refl

e3 : ask_union (nums (2 ∷ 0 ∷ 0 ∷ 1 ∷ 0 ∷ 1 ∷ 0 ∷ [])) (nums (0 ∷ 0 ∷ 0 ∷ 0 ∷ 0 ∷ 0 ∷ [])) 1802 10812 ≡ given (nums (0 ∷ 0 ∷ 0 ∷ 0 ∷ 0 ∷ 1 ∷ 0 ∷ []))
unfolding ask_union
e3 = refl

e4 : ask_union (nums (0 ∷ 1 ∷ 1 ∷ 3 ∷ 0 ∷ 0 ∷ 0 ∷ [])) (nums (0 ∷ 1 ∷ 1 ∷ 3 ∷ 0 ∷ 0 ∷ 0 ∷ [])) 1802 10812 ≡ given (nums (0 ∷ 1 ∷ 1 ∷ 3 ∷ 0 ∷ 0 ∷ 0 ∷ []))
unfolding ask_union
e4 = refl

e5 : ask_union (nums (1 ∷ 0 ∷ 1 ∷ 1 ∷ 0 ∷ 0 ∷ 0 ∷ [])) (nums (1 ∷ 0 ∷ 1 ∷ 1 ∷ 0 ∷ 0 ∷ 0 ∷ [])) 1802 10812 ≡ given (nums (1 ∷ 0 ∷ 1 ∷ 1 ∷ 0 ∷ 0 ∷ 0 ∷ []))
unfolding ask_union
e5 = refl

e6 : ask_union (nums (1 ∷ 0 ∷ 1 ∷ 4 ∷ 0 ∷ 0 ∷ 0 ∷ [])) (nums (0 ∷ 1 ∷ 1 ∷ 4 ∷ 0 ∷ 0 ∷ 0 ∷ [])) 1803 10812 ≡ given (nums (0 ∷ 1 ∷ 1 ∷ 4 ∷ 0 ∷ 0 ∷ 0 ∷ []))
unfolding ask_union
e6 = refl

e7 : ask_union (nums (2 ∷ 1 ∷ 1 ∷ 1 ∷ 1 ∷ 0 ∷ 0 ∷ [])) (nums (0 ∷ 1 ∷ 1 ∷ 1 ∷ 0 ∷ 0 ∷ 0 ∷ [])) 1802 10812 ≡ given (nums (0 ∷ 1 ∷ 1 ∷ 1 ∷ 0 ∷ 0 ∷ 0 ∷ []))
unfolding ask_union
e7 = refl

e8 : ask_union (nums (2 ∷ 1 ∷ 1 ∷ 3 ∷ 1 ∷ 0 ∷ 0 ∷ [])) (nums (2 ∷ 1 ∷ 1 ∷ 3 ∷ 1 ∷ 0 ∷ 0 ∷ [])) 1802 20000 ≡ given (nums (2 ∷ 1 ∷ 1 ∷ 3 ∷ 1 ∷ 0 ∷ 0 ∷ []))
unfolding ask_union
e8 = refl

e9 : ask_union (nums (2 ∷ 0 ∷ 1 ∷ 0 ∷ 0 ∷ 0 ∷ 0 ∷ [])) (pos 0 ∷ pos 1 ∷ pos 1 ∷ pos 0 ∷ pos 0 ∷ pos 0 ∷ pos 0 ∷ negsuc 2 ∷ []) 1802 10812 ≡ given (nums (0 ∷ 1 ∷ 1 ∷ 0 ∷ 0 ∷ 0 ∷ 0 ∷ []))
unfolding ask_union
e9 = refl

e10 : ask_union (nums (0 ∷ 2 ∷ 2 ∷ 1 ∷ 1 ∷ 0 ∷ 0 ∷ 0 ∷ [])) (nums (0 ∷ 2 ∷ 2 ∷ 1 ∷ 1 ∷ 0 ∷ 0 ∷ 0 ∷ [])) 1802 10812 ≡ given (nums (0 ∷ 2 ∷ 2 ∷ 1 ∷ 1 ∷ 0 ∷ 0 ∷ 0 ∷ []))
unfolding ask_union
e10 = refl

e11 : ask_union (nums (1 ∷ 0 ∷ 2 ∷ 2 ∷ 2 ∷ 0 ∷ 0 ∷ 0 ∷ [])) (nums (1 ∷ 0 ∷ 2 ∷ 2 ∷ 2 ∷ 0 ∷ 0 ∷ 0 ∷ [])) 2000 10812 ≡ given (nums (1 ∷ 0 ∷ 2 ∷ 2 ∷ 2 ∷ 0 ∷ 0 ∷ 0 ∷ []))
unfolding ask_union
e11 = refl

e12 : ask_union (nums (1 ∷ 0 ∷ 2 ∷ 2 ∷ 2 ∷ 0 ∷ 0 ∷ 0 ∷ [])) (nums (2 ∷ 1 ∷ 2 ∷ 2 ∷ 2 ∷ 0 ∷ 0 ∷ 0 ∷ [])) 1802 10812 ≡ given (nums (2 ∷ 0 ∷ 2 ∷ 2 ∷ 2 ∷ 2 ∷ 0 ∷ 0 ∷ 1 ∷ 1 ∷ 0 ∷ 0 ∷ []))
unfolding ask_union
e12 = refl

e13 : ask_union (nums (1 ∷ 1 ∷ 2 ∷ 3 ∷ 0 ∷ 0 ∷ 0 ∷ 0 ∷ [])) (nums (0 ∷ 2 ∷ 2 ∷ 3 ∷ 0 ∷ 0 ∷ 0 ∷ 0 ∷ [])) 1802 10812 ≡ given (nums (0 ∷ 2 ∷ 2 ∷ 3 ∷ 0 ∷ 0 ∷ 0 ∷ 0 ∷ []))
unfolding ask_union
e13 = refl

e14 : ask_union (nums (2 ∷ 0 ∷ 1 ∷ 2 ∷ 1 ∷ 0 ∷ 0 ∷ 0 ∷ [])) (nums (2 ∷ 0 ∷ 1 ∷ 2 ∷ 1 ∷ 1 ∷ 0 ∷ 0 ∷ [])) 1802 10812 ≡ given (nums (2 ∷ 0 ∷ 1 ∷ 2 ∷ 2 ∷ 0 ∷ 1 ∷ 0 ∷ 0 ∷ []))
unfolding ask_union
e14 = refl

e15 : ask_union (nums (2 ∷ 0 ∷ 2 ∷ 2 ∷ 2 ∷ 0 ∷ 0 ∷ 0 ∷ [])) (nums (0 ∷ 2 ∷ 2 ∷ 2 ∷ 2 ∷ 0 ∷ 0 ∷ 0 ∷ [])) 1802 10812 ≡ given (nums (0 ∷ 2 ∷ 2 ∷ 2 ∷ 2 ∷ 0 ∷ 0 ∷ 0 ∷ []))
unfolding ask_union
e15 = refl

e16 : ask_union (nums (2 ∷ 1 ∷ 2 ∷ 0 ∷ 0 ∷ 0 ∷ 0 ∷ 0 ∷ [])) (nums (2 ∷ 0 ∷ 2 ∷ 0 ∷ 0 ∷ 0 ∷ 0 ∷ 0 ∷ [])) 1802 20000 ≡ given (nums (2 ∷ 0 ∷ 2 ∷ 0 ∷ 0 ∷ 0 ∷ 0 ∷ 0 ∷ []))
unfolding ask_union
e16 = refl

e17 : ask_union (nums (2 ∷ 1 ∷ 2 ∷ 3 ∷ 3 ∷ 0 ∷ 0 ∷ 0 ∷ [])) (nums (0 ∷ 2 ∷ 2 ∷ 3 ∷ 3 ∷ 0 ∷ 0 ∷ 0 ∷ [])) 2000 20000 ≡ given (nums (0 ∷ 2 ∷ 2 ∷ 3 ∷ 3 ∷ 0 ∷ 0 ∷ 0 ∷ []))
unfolding ask_union
e17 = refl

e18 : ask_union (nums (2 ∷ 2 ∷ 2 ∷ 2 ∷ 2 ∷ 1 ∷ 0 ∷ 0 ∷ [])) (nums (1 ∷ 0 ∷ 2 ∷ 2 ∷ 2 ∷ 0 ∷ 0 ∷ 0 ∷ [])) 1802 10812 ≡ given (nums (2 ∷ 0 ∷ 2 ∷ 2 ∷ 2 ∷ 4 ∷ 0 ∷ 0 ∷ 0 ∷ 1 ∷ 1 ∷ 0 ∷ 1 ∷ 1 ∷ 0 ∷ 0 ∷ []))
unfolding ask_union
e18 = refl

e19 : ask_union (nums (2 ∷ 2 ∷ 2 ∷ 2 ∷ 3 ∷ 1 ∷ 0 ∷ 0 ∷ [])) (nums (0 ∷ 2 ∷ 2 ∷ 2 ∷ 3 ∷ 0 ∷ 0 ∷ 0 ∷ [])) 1802 10812 ≡ given (nums (0 ∷ 2 ∷ 2 ∷ 2 ∷ 3 ∷ 0 ∷ 0 ∷ 0 ∷ []))
unfolding ask_union
e19 = refl

e20 : ask_union (nums (1 ∷ 0 ∷ 1 ∷ 3 ∷ 0 ∷ 0 ∷ 1 ∷ 0 ∷ 2 ∷ [])) (nums (2 ∷ 0 ∷ 1 ∷ 3 ∷ 0 ∷ 0 ∷ 0 ∷ [])) 1802 10812 ≡ given (nums (2 ∷ 0 ∷ 1 ∷ 3 ∷ 3 ∷ 0 ∷ 1 ∷ 2 ∷ 0 ∷ 1 ∷ 0 ∷ 2 ∷ []))
unfolding ask_union
e20 = refl

e21 : ask_union (nums (2 ∷ 0 ∷ 1 ∷ 2 ∷ 2 ∷ 1 ∷ 0 ∷ 0 ∷ 0 ∷ [])) (nums (2 ∷ 0 ∷ 1 ∷ 2 ∷ 1 ∷ 1 ∷ 0 ∷ 0 ∷ [])) 2000 10812 ≡ given (nums (2 ∷ 0 ∷ 1 ∷ 2 ∷ 2 ∷ 0 ∷ 1 ∷ 0 ∷ 0 ∷ []))
unfolding ask_union
e21 = refl

e22 : ask_union (nums (2 ∷ 0 ∷ 2 ∷ 0 ∷ 0 ∷ 0 ∷ 0 ∷ 0 ∷ [])) (pos 2 ∷ pos 0 ∷ pos 2 ∷ pos 0 ∷ pos 0 ∷ pos 0 ∷ pos 0 ∷ pos 0 ∷ negsuc 0 ∷ []) 1802 10812 ≡ given (nums (2 ∷ 0 ∷ 2 ∷ 0 ∷ 0 ∷ 0 ∷ 0 ∷ 0 ∷ []))
unfolding ask_union
e22 = refl

e23 : ask_union (nums (0 ∷ 3 ∷ 3 ∷ 1 ∷ 2 ∷ 2 ∷ 0 ∷ 0 ∷ 0 ∷ [])) (nums (0 ∷ 3 ∷ 3 ∷ 1 ∷ 2 ∷ 2 ∷ 0 ∷ 0 ∷ 0 ∷ [])) 1802 10812 ≡ given (nums (0 ∷ 3 ∷ 3 ∷ 1 ∷ 2 ∷ 2 ∷ 0 ∷ 0 ∷ 0 ∷ []))
unfolding ask_union
e23 = refl

e24 : ask_union (nums (1 ∷ 0 ∷ 3 ∷ 4 ∷ 4 ∷ 4 ∷ 0 ∷ 0 ∷ 0 ∷ [])) (nums (0 ∷ 3 ∷ 3 ∷ 4 ∷ 4 ∷ 4 ∷ 0 ∷ 0 ∷ 0 ∷ [])) 1802 20000 ≡ given (nums (0 ∷ 3 ∷ 3 ∷ 4 ∷ 4 ∷ 4 ∷ 0 ∷ 0 ∷ 0 ∷ []))
unfolding ask_union
e24 = refl

e25 : ask_union (nums (2 ∷ 1 ∷ 3 ∷ 0 ∷ 0 ∷ 0 ∷ 0 ∷ 0 ∷ 0 ∷ [])) (nums (0 ∷ 3 ∷ 3 ∷ 0 ∷ 0 ∷ 0 ∷ 0 ∷ 0 ∷ 0 ∷ [])) 1802 10812 ≡ given (nums (0 ∷ 3 ∷ 3 ∷ 0 ∷ 0 ∷ 0 ∷ 0 ∷ 0 ∷ 0 ∷ []))
unfolding ask_union
e25 = refl

e26 : ask_union (nums (2 ∷ 2 ∷ 3 ∷ 4 ∷ 2 ∷ 3 ∷ 0 ∷ 0 ∷ 0 ∷ [])) (nums (0 ∷ 3 ∷ 3 ∷ 4 ∷ 2 ∷ 3 ∷ 0 ∷ 0 ∷ 0 ∷ [])) 1802 10812 ≡ given (nums (0 ∷ 3 ∷ 3 ∷ 4 ∷ 2 ∷ 3 ∷ 0 ∷ 0 ∷ 0 ∷ []))
unfolding ask_union
e26 = refl

e27 : ask_union (nums (2 ∷ 3 ∷ 3 ∷ 2 ∷ 3 ∷ 1 ∷ 1 ∷ 0 ∷ 0 ∷ [])) (nums (2 ∷ 3 ∷ 3 ∷ 2 ∷ 3 ∷ 1 ∷ 1 ∷ 0 ∷ 0 ∷ [])) 1802 10812 ≡ given (nums (2 ∷ 3 ∷ 3 ∷ 2 ∷ 3 ∷ 1 ∷ 1 ∷ 0 ∷ 0 ∷ []))
unfolding ask_union
e27 = refl

e28 : ask_union (nums (2 ∷ 3 ∷ 3 ∷ 3 ∷ 3 ∷ 1 ∷ 1 ∷ 0 ∷ 0 ∷ [])) (nums (0 ∷ 3 ∷ 3 ∷ 3 ∷ 3 ∷ 1 ∷ 0 ∷ 0 ∷ 0 ∷ [])) 1802 20000 ≡ given (nums (0 ∷ 3 ∷ 3 ∷ 3 ∷ 3 ∷ 1 ∷ 0 ∷ 0 ∷ 0 ∷ []))
unfolding ask_union
e28 = refl

e29 : ask_union (nums (2 ∷ 2 ∷ 3 ∷ 1 ∷ 1 ∷ 0 ∷ 1 ∷ 0 ∷ 0 ∷ 0 ∷ [])) (nums (2 ∷ 1 ∷ 3 ∷ 1 ∷ 1 ∷ 0 ∷ 0 ∷ 0 ∷ 0 ∷ [])) 1802 10812 ≡ given (nums (2 ∷ 1 ∷ 3 ∷ 1 ∷ 1 ∷ 0 ∷ 0 ∷ 0 ∷ 0 ∷ []))
unfolding ask_union
e29 = refl

e30 : ask_union (nums (1 ∷ 1 ∷ 2 ∷ 3 ∷ 3 ∷ 0 ∷ 0 ∷ 0 ∷ [])) (nums (1 ∷ 1 ∷ 2 ∷ 3 ∷ 3 ∷ 0 ∷ 0 ∷ 1 ∷ 2 ∷ 2 ∷ 6 ∷ [])) 1802 10812 ≡ given (nums (1 ∷ 1 ∷ 2 ∷ 3 ∷ 3 ∷ 0 ∷ 0 ∷ 1 ∷ 2 ∷ 2 ∷ 6 ∷ []))
unfolding ask_union
e30 = refl

e31 : ask_union (nums (2 ∷ 0 ∷ 3 ∷ 1 ∷ 1 ∷ 3 ∷ 1 ∷ 0 ∷ 0 ∷ 0 ∷ 0 ∷ 0 ∷ [])) (nums (0 ∷ 3 ∷ 3 ∷ 1 ∷ 1 ∷ 3 ∷ 0 ∷ 0 ∷ 0 ∷ [])) 1802 10812 ≡ given (nums (0 ∷ 3 ∷ 3 ∷ 1 ∷ 1 ∷ 3 ∷ 0 ∷ 0 ∷ 0 ∷ []))
unfolding ask_union
e31 = refl

e32 : ask_union (nums (2 ∷ 1 ∷ 2 ∷ 2 ∷ 2 ∷ 1 ∷ 1 ∷ 1 ∷ 1 ∷ 0 ∷ 7 ∷ 0 ∷ [])) (nums (2 ∷ 0 ∷ 2 ∷ 2 ∷ 2 ∷ 1 ∷ 1 ∷ 0 ∷ 0 ∷ 0 ∷ [])) 1802 10812 ≡ given (nums (2 ∷ 0 ∷ 2 ∷ 2 ∷ 2 ∷ 2 ∷ 1 ∷ 0 ∷ 1 ∷ 1 ∷ 1 ∷ 1 ∷ 0 ∷ 7 ∷ 0 ∷ []))
unfolding ask_union
e32 = refl

-- union_call: refused 1
e33 : ask_union (nums (0 ∷ 0 ∷ 5 ∷ [])) [] 0 0 ≡ refused 1
unfolding ask_union
e33 = refl

e34 : ask_union (nums (0 ∷ 0 ∷ 5 ∷ [])) [] 1802 10812 ≡ refused 1
unfolding ask_union
e34 = refl

e35 : ask_union (nums (0 ∷ 2 ∷ 2 ∷ 0 ∷ 2 ∷ 0 ∷ 0 ∷ 0 ∷ [])) (nums (2 ∷ 6 ∷ 6 ∷ 1 ∷ 1 ∷ 1 ∷ 1 ∷ 1 ∷ 1 ∷ 0 ∷ 0 ∷ 0 ∷ [])) 1801 10812 ≡ refused 1
unfolding ask_union
e35 = refl

e36 : ask_union (nums (2 ∷ 0 ∷ 65536 ∷ 1 ∷ 0 ∷ 2 ∷ 0 ∷ 2147483647 ∷ [])) (nums (2 ∷ 0 ∷ 0 ∷ 1 ∷ 0 ∷ 0 ∷ [])) 1802 10812 ≡ refused 1
unfolding ask_union
e36 = refl

-- union_call: refused 11
e37 : ask_union (nums (1 ∷ 0 ∷ 2 ∷ 1 ∷ 1 ∷ 0 ∷ 0 ∷ 0 ∷ [])) (nums (1 ∷ 1 ∷ 2 ∷ 1 ∷ 1 ∷ 0 ∷ 0 ∷ 0 ∷ [])) 1802 10812 ≡ refused 11
unfolding ask_union
e37 = refl

e38 : ask_union (nums (1 ∷ 1 ∷ 2 ∷ 2 ∷ 3 ∷ 0 ∷ 0 ∷ 0 ∷ [])) (nums (2 ∷ 1 ∷ 2 ∷ 2 ∷ 3 ∷ 0 ∷ 0 ∷ 0 ∷ [])) 1802 10812 ≡ refused 11
unfolding ask_union
e38 = refl

e39 : ask_union (nums (2 ∷ 2 ∷ 2 ∷ 4 ∷ 3 ∷ 1 ∷ 0 ∷ 0 ∷ [])) (nums (1 ∷ 1 ∷ 2 ∷ 4 ∷ 3 ∷ 0 ∷ 0 ∷ 0 ∷ [])) 1802 10812 ≡ refused 11
unfolding ask_union
e39 = refl

e40 : ask_union (nums (1 ∷ 1 ∷ 2 ∷ 2 ∷ 2 ∷ 0 ∷ 0 ∷ 0 ∷ [])) (nums (2 ∷ 0 ∷ 2 ∷ 2 ∷ 2 ∷ 0 ∷ 3 ∷ 0 ∷ 1 ∷ 14 ∷ 1 ∷ 0 ∷ 1 ∷ 1 ∷ 1 ∷ 0 ∷ 0 ∷ [])) 1802 20000 ≡ refused 11
unfolding ask_union
e40 = refl

-- union_call: refused 12
e41 : ask_union (nums (2 ∷ 3 ∷ 3 ∷ 2 ∷ 2 ∷ 1 ∷ 1 ∷ 0 ∷ 0 ∷ [])) (nums (2 ∷ 1 ∷ 3 ∷ 2 ∷ 2 ∷ 1 ∷ 0 ∷ 0 ∷ 0 ∷ [])) 1802 10812 ≡ refused 12
unfolding ask_union
e41 = refl

-- union_call: refused 13
e42 : ask_union (nums (2 ∷ 0 ∷ 2 ∷ 2 ∷ 129 ∷ 0 ∷ 0 ∷ 0 ∷ [])) (nums (2 ∷ 1 ∷ 2 ∷ 2 ∷ 129 ∷ 1 ∷ 0 ∷ 0 ∷ 0 ∷ [])) 1802 10812 ≡ refused 13
unfolding ask_union
e42 = refl

e43 : ask_union (nums (2 ∷ 1 ∷ 2 ∷ 2 ∷ 129 ∷ 1 ∷ 1 ∷ 0 ∷ 0 ∷ [])) (nums (2 ∷ 0 ∷ 2 ∷ 2 ∷ 129 ∷ 0 ∷ 0 ∷ 0 ∷ [])) 1802 10812 ≡ refused 13
unfolding ask_union
e43 = refl

e44 : ask_union (nums (2 ∷ 1 ∷ 2 ∷ 129 ∷ 129 ∷ 0 ∷ 0 ∷ 0 ∷ [])) (nums (1 ∷ 0 ∷ 2 ∷ 129 ∷ 129 ∷ 0 ∷ 0 ∷ 0 ∷ [])) 1802 10812 ≡ refused 13
unfolding ask_union
e44 = refl

e45 : ask_union (nums (1 ∷ 0 ∷ 2 ∷ 129 ∷ 129 ∷ 0 ∷ 0 ∷ 0 ∷ [])) (nums (2 ∷ 0 ∷ 2 ∷ 129 ∷ 129 ∷ 1 ∷ 1 ∷ 1 ∷ 0 ∷ 0 ∷ [])) 1802 10812 ≡ refused 13
unfolding ask_union
e45 = refl

-- union_call: refused 2
e46 : ask_union [] (nums (0 ∷ 0 ∷ 0 ∷ 0 ∷ 0 ∷ 0 ∷ [])) 0 0 ≡ refused 2
unfolding ask_union
e46 = refl

e47 : ask_union (nums (0 ∷ 0 ∷ 0 ∷ 0 ∷ 0 ∷ 0 ∷ [])) [] 0 0 ≡ refused 2
unfolding ask_union
e47 = refl

e48 : ask_union (nums (2 ∷ 0 ∷ 1 ∷ 2 ∷ 2 ∷ 1 ∷ 0 ∷ 0 ∷ 0 ∷ [])) (nums (0 ∷ 0 ∷ 0 ∷ 0 ∷ 0 ∷ 0 ∷ [])) 0 0 ≡ refused 2
unfolding ask_union
e48 = refl

e49 : ask_union (nums (0 ∷ 0 ∷ 0 ∷ 0 ∷ 0 ∷ 0 ∷ [])) (nums (0 ∷ 0 ∷ 0 ∷ 0 ∷ 1 ∷ 3 ∷ 0 ∷ [])) 1803 10811 ≡ refused 2
unfolding ask_union
e49 = refl

e50 : ask_union (nums (0 ∷ 0 ∷ 0 ∷ 0 ∷ 0 ∷ 0 ∷ [])) (nums (0 ∷ 0 ∷ 0 ∷ 0 ∷ 1 ∷ 2 ∷ 2 ∷ 0 ∷ 1 ∷ [])) 0 10812 ≡ refused 2
unfolding ask_union
e50 = refl

e51 : ask_union (nums (1 ∷ 1 ∷ 3 ∷ 2 ∷ 3 ∷ 2 ∷ 0 ∷ 0 ∷ 0 ∷ [])) (nums (2 ∷ 0 ∷ 2 ∷ 128 ∷ 128 ∷ 1 ∷ 3 ∷ 3 ∷ 0 ∷ 0 ∷ [])) 1802 1802 ≡ refused 2
unfolding ask_union
e51 = refl

-- union_call: refused 3
e52 : ask_union [] (nums (0 ∷ 0 ∷ 0 ∷ 0 ∷ 0 ∷ 0 ∷ [])) 1802 10812 ≡ refused 3
unfolding ask_union
e52 = refl

e53 : ask_union (nums (0 ∷ 0 ∷ 0 ∷ 0 ∷ 0 ∷ 0 ∷ [])) [] 1802 10812 ≡ refused 3
unfolding ask_union
e53 = refl

e54 : ask_union [] (nums (0 ∷ 2 ∷ 2 ∷ 1 ∷ 2 ∷ 0 ∷ 0 ∷ 0 ∷ [])) 1802 10812 ≡ refused 3
unfolding ask_union
e54 = refl

e55 : ask_union (nums (1 ∷ 3 ∷ 4 ∷ 1 ∷ 2 ∷ 4 ∷ 1 ∷ 0 ∷ 0 ∷ 0 ∷ [])) [] 10812 10812 ≡ refused 3
unfolding ask_union
e55 = refl

e56 : ask_union (nums (2 ∷ 0 ∷ 0 ∷ 1 ∷ 0 ∷ 3 ∷ 1 ∷ 2 ∷ 2147483647 ∷ [])) (nums (0 ∷ 0 ∷ 0 ∷ 0 ∷ 0 ∷ 1 ∷ [])) 1802 10812 ≡ refused 3
unfolding ask_union
e56 = refl

-- union_call: refused 6
e57 : ask_union (nums (1 ∷ 0 ∷ 1 ∷ 4 ∷ 0 ∷ 0 ∷ 0 ∷ [])) (nums (2 ∷ 0 ∷ 2 ∷ 1 ∷ 0 ∷ 0 ∷ 0 ∷ 0 ∷ [])) 1802 10812 ≡ refused 6
unfolding ask_union
e57 = refl

e58 : ask_union (nums (2 ∷ 0 ∷ 1 ∷ 2 ∷ 2 ∷ 1 ∷ 0 ∷ 0 ∷ 0 ∷ [])) (nums (0 ∷ 0 ∷ 0 ∷ 0 ∷ 0 ∷ 0 ∷ [])) 1802 10812 ≡ refused 6
unfolding ask_union
e58 = refl
