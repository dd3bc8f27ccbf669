-- Examples: ContractLastAxis. Each holds by computation; the answers are those of the reading in tests/reading.
-- Written by tests/examples from tests/reading/examples.txt.
use mathlib.Core.Path.{◌≡◌, refl}
use mathlib.Core.Bool.{Bool, true, false}
use mathlib.Core.List.{List, [], ◌∷◌, map}
use Prim.Native.Nat.{ℕ}
use lib.IntN.{ℤ, pos, negsuc}
use Rattle.std.specs.declared.cmp.Ordering.{Ordering}
use Rattle.std.specs.declared.cmp.Ordering.TheVariants.{Less, Equal, Greater}
use Rattle.rules.specs.Refusals.{given, refused}
use Rattle.rules.specs.Endings.{found, nothing}
use Rattle.rules.proofs.Examples.Asked.{nums, ask_contract_last_axis}

-- contract_last_axis_call: answered
e1 : ask_contract_last_axis (nums (1 ∷ 0 ∷ 1 ∷ 2 ∷ 0 ∷ 0 ∷ 0 ∷ [])) 1802 10812 ≡ given (nums (0 ∷ 0 ∷ 0 ∷ 0 ∷ 0 ∷ 0 ∷ []))
unfolding ask_contract_last_axis
e1 = refl

e2 : ask_contract_last_axis (nums (2 ∷ 0 ∷ 1 ∷ 2 ∷ 0 ∷ 0 ∷ 0 ∷ [])) 1802 10812 ≡ given (nums (2 ∷ 0 ∷ 0 ∷ 0 ∷ 0 ∷ 0 ∷ []))
unfolding ask_contract_last_axis
e2 = refl

e3 : ask_contract_last_axis (nums (2 ∷ 1 ∷ 1 ∷ 4 ∷ 1 ∷ 0 ∷ 0 ∷ [])) 1802 10812 ≡ given (nums (2 ∷ 0 ∷ 0 ∷ 1 ∷ 0 ∷ 0 ∷ []))
unfolding ask_contract_last_axis
e3 = refl

e4 : ask_contract_last_axis (nums (0 ∷ 2 ∷ 2 ∷ 3 ∷ 1 ∷ 0 ∷ 0 ∷ 0 ∷ [])) 1802 10812 ≡ given (nums (0 ∷ 1 ∷ 1 ∷ 3 ∷ 0 ∷ 0 ∷ 0 ∷ []))
unfolding ask_contract_last_axis
e4 = refl

e5 : ask_contract_last_axis (nums (1 ∷ 0 ∷ 2 ∷ 4 ∷ 4 ∷ 0 ∷ 0 ∷ 0 ∷ [])) 1802 10812 ≡ given (nums (0 ∷ 1 ∷ 1 ∷ 4 ∷ 0 ∷ 0 ∷ 0 ∷ []))
unfolding ask_contract_last_axis
e5 = refl

e6 : ask_contract_last_axis (nums (1 ∷ 1 ∷ 2 ∷ 2 ∷ 3 ∷ 0 ∷ 0 ∷ 0 ∷ [])) 1802 10812 ≡ given (nums (1 ∷ 0 ∷ 1 ∷ 2 ∷ 0 ∷ 0 ∷ 0 ∷ []))
unfolding ask_contract_last_axis
e6 = refl

e7 : ask_contract_last_axis (nums (2 ∷ 0 ∷ 2 ∷ 0 ∷ 2 ∷ 0 ∷ 0 ∷ 0 ∷ [])) 1802 10812 ≡ given (nums (0 ∷ 1 ∷ 1 ∷ 0 ∷ 0 ∷ 0 ∷ 0 ∷ []))
unfolding ask_contract_last_axis
e7 = refl

e8 : ask_contract_last_axis (nums (2 ∷ 1 ∷ 2 ∷ 0 ∷ 2 ∷ 0 ∷ 0 ∷ 0 ∷ [])) 1802 10812 ≡ given (nums (2 ∷ 0 ∷ 1 ∷ 0 ∷ 0 ∷ 0 ∷ 0 ∷ []))
unfolding ask_contract_last_axis
e8 = refl

e9 : ask_contract_last_axis (nums (2 ∷ 2 ∷ 2 ∷ 3 ∷ 3 ∷ 1 ∷ 0 ∷ 0 ∷ [])) 1802 10812 ≡ given (nums (2 ∷ 1 ∷ 1 ∷ 3 ∷ 1 ∷ 0 ∷ 0 ∷ []))
unfolding ask_contract_last_axis
e9 = refl

e10 : ask_contract_last_axis (nums (0 ∷ 1 ∷ 1 ∷ 3 ∷ 0 ∷ 1 ∷ 2 ∷ 2 ∷ 0 ∷ [])) 1802 10813 ≡ given (nums (0 ∷ 0 ∷ 0 ∷ 0 ∷ 1 ∷ 2 ∷ 0 ∷ []))
unfolding ask_contract_last_axis
e10 = refl

e11 : ask_contract_last_axis (nums (0 ∷ 3 ∷ 3 ∷ 3 ∷ 3 ∷ 4 ∷ 0 ∷ 0 ∷ 0 ∷ [])) 1802 10812 ≡ given (nums (0 ∷ 2 ∷ 2 ∷ 3 ∷ 3 ∷ 0 ∷ 0 ∷ 0 ∷ []))
unfolding ask_contract_last_axis
e11 = refl

e12 : ask_contract_last_axis (nums (1 ∷ 0 ∷ 3 ∷ 2 ∷ 2 ∷ 2 ∷ 0 ∷ 0 ∷ 0 ∷ [])) 1802 10812 ≡ given (nums (1 ∷ 0 ∷ 2 ∷ 2 ∷ 2 ∷ 0 ∷ 0 ∷ 0 ∷ []))
unfolding ask_contract_last_axis
e12 = refl

e13 : ask_contract_last_axis (nums (1 ∷ 1 ∷ 3 ∷ 1 ∷ 1 ∷ 1 ∷ 0 ∷ 0 ∷ 0 ∷ [])) 2000 10812 ≡ given (nums (1 ∷ 0 ∷ 2 ∷ 1 ∷ 1 ∷ 0 ∷ 0 ∷ 0 ∷ []))
unfolding ask_contract_last_axis
e13 = refl

e14 : ask_contract_last_axis (nums (1 ∷ 2 ∷ 3 ∷ 4 ∷ 3 ∷ 4 ∷ 0 ∷ 0 ∷ 0 ∷ [])) 1802 10812 ≡ given (nums (1 ∷ 1 ∷ 2 ∷ 4 ∷ 3 ∷ 0 ∷ 0 ∷ 0 ∷ []))
unfolding ask_contract_last_axis
e14 = refl

e15 : ask_contract_last_axis (nums (2 ∷ 0 ∷ 1 ∷ 3 ∷ 2 ∷ 0 ∷ 2 ∷ 0 ∷ 0 ∷ [])) 1802 10812 ≡ given (nums (0 ∷ 0 ∷ 0 ∷ 0 ∷ 0 ∷ 0 ∷ []))
unfolding ask_contract_last_axis
e15 = refl

e16 : ask_contract_last_axis (nums (2 ∷ 0 ∷ 3 ∷ 2 ∷ 0 ∷ 4 ∷ 0 ∷ 0 ∷ 0 ∷ [])) 2000 10812 ≡ given (nums (0 ∷ 2 ∷ 2 ∷ 2 ∷ 0 ∷ 0 ∷ 0 ∷ 0 ∷ []))
unfolding ask_contract_last_axis
e16 = refl

e17 : ask_contract_last_axis (nums (2 ∷ 0 ∷ 3 ∷ 2 ∷ 2 ∷ 0 ∷ 0 ∷ 0 ∷ 0 ∷ [])) 1802 10812 ≡ given (nums (2 ∷ 0 ∷ 2 ∷ 2 ∷ 2 ∷ 0 ∷ 0 ∷ 0 ∷ []))
unfolding ask_contract_last_axis
e17 = refl

e18 : ask_contract_last_axis (nums (2 ∷ 3 ∷ 3 ∷ 3 ∷ 2 ∷ 2 ∷ 1 ∷ 0 ∷ 0 ∷ [])) 1802 10812 ≡ given (nums (2 ∷ 2 ∷ 2 ∷ 3 ∷ 2 ∷ 1 ∷ 0 ∷ 0 ∷ []))
unfolding ask_contract_last_axis
e18 = refl

e19 : ask_contract_last_axis (nums (0 ∷ 4 ∷ 4 ∷ 1 ∷ 1 ∷ 1 ∷ 3 ∷ 0 ∷ 0 ∷ 0 ∷ [])) 1802 10812 ≡ given (nums (0 ∷ 3 ∷ 3 ∷ 1 ∷ 1 ∷ 1 ∷ 0 ∷ 0 ∷ 0 ∷ []))
unfolding ask_contract_last_axis
e19 = refl

e20 : ask_contract_last_axis (nums (1 ∷ 0 ∷ 4 ∷ 3 ∷ 3 ∷ 3 ∷ 3 ∷ 0 ∷ 0 ∷ 0 ∷ [])) 1802 10812 ≡ given (nums (1 ∷ 0 ∷ 3 ∷ 3 ∷ 3 ∷ 3 ∷ 0 ∷ 0 ∷ 0 ∷ []))
unfolding ask_contract_last_axis
e20 = refl

e21 : ask_contract_last_axis (nums (1 ∷ 2 ∷ 4 ∷ 1 ∷ 1 ∷ 1 ∷ 1 ∷ 0 ∷ 0 ∷ 0 ∷ [])) 1802 10812 ≡ given (nums (1 ∷ 1 ∷ 3 ∷ 1 ∷ 1 ∷ 1 ∷ 0 ∷ 0 ∷ 0 ∷ []))
unfolding ask_contract_last_axis
e21 = refl

e22 : ask_contract_last_axis (nums (1 ∷ 3 ∷ 4 ∷ 3 ∷ 2 ∷ 2 ∷ 1 ∷ 0 ∷ 0 ∷ 0 ∷ [])) 1803 10812 ≡ given (nums (1 ∷ 2 ∷ 3 ∷ 3 ∷ 2 ∷ 2 ∷ 0 ∷ 0 ∷ 0 ∷ []))
unfolding ask_contract_last_axis
e22 = refl

e23 : ask_contract_last_axis (nums (2 ∷ 0 ∷ 2 ∷ 2 ∷ 2 ∷ 1 ∷ 0 ∷ 0 ∷ 0 ∷ 0 ∷ [])) 1802 10812 ≡ given (nums (2 ∷ 0 ∷ 1 ∷ 2 ∷ 1 ∷ 0 ∷ 0 ∷ 0 ∷ []))
unfolding ask_contract_last_axis
e23 = refl

e24 : ask_contract_last_axis (nums (2 ∷ 0 ∷ 4 ∷ 2 ∷ 2 ∷ 4 ∷ 0 ∷ 0 ∷ 0 ∷ 0 ∷ [])) 1802 10812 ≡ given (nums (2 ∷ 0 ∷ 3 ∷ 2 ∷ 2 ∷ 4 ∷ 0 ∷ 0 ∷ 0 ∷ []))
unfolding ask_contract_last_axis
e24 = refl

e25 : ask_contract_last_axis (nums (2 ∷ 1 ∷ 4 ∷ 2 ∷ 2 ∷ 1 ∷ 2 ∷ 0 ∷ 0 ∷ 0 ∷ [])) 1802 10812 ≡ given (nums (2 ∷ 0 ∷ 3 ∷ 2 ∷ 2 ∷ 1 ∷ 0 ∷ 0 ∷ 0 ∷ []))
unfolding ask_contract_last_axis
e25 = refl

e26 : ask_contract_last_axis (nums (2 ∷ 2 ∷ 3 ∷ 1 ∷ 1 ∷ 1 ∷ 1 ∷ 0 ∷ 0 ∷ 0 ∷ [])) 1802 10812 ≡ given (nums (2 ∷ 1 ∷ 2 ∷ 1 ∷ 1 ∷ 1 ∷ 0 ∷ 0 ∷ 0 ∷ []))
unfolding ask_contract_last_axis
e26 = refl

e27 : ask_contract_last_axis (nums (2 ∷ 4 ∷ 4 ∷ 4 ∷ 4 ∷ 4 ∷ 4 ∷ 1 ∷ 0 ∷ 0 ∷ [])) 1802 10812 ≡ given (nums (2 ∷ 3 ∷ 3 ∷ 4 ∷ 4 ∷ 4 ∷ 1 ∷ 0 ∷ 0 ∷ []))
unfolding ask_contract_last_axis
e27 = refl

e28 : ask_contract_last_axis (nums (1 ∷ 0 ∷ 1 ∷ 2 ∷ 0 ∷ 0 ∷ 2 ∷ 2 ∷ 1 ∷ 3 ∷ 1 ∷ [])) 1802 10812 ≡ given (nums (0 ∷ 0 ∷ 0 ∷ 0 ∷ 0 ∷ 1 ∷ 1 ∷ []))
unfolding ask_contract_last_axis
e28 = refl

e29 : ask_contract_last_axis (nums (1 ∷ 0 ∷ 2 ∷ 3 ∷ 3 ∷ 0 ∷ 0 ∷ 1 ∷ 3 ∷ 3 ∷ 0 ∷ [])) 1802 10812 ≡ given (nums (0 ∷ 1 ∷ 1 ∷ 3 ∷ 0 ∷ 0 ∷ 1 ∷ 3 ∷ 0 ∷ []))
unfolding ask_contract_last_axis
e29 = refl

e30 : ask_contract_last_axis (nums (2 ∷ 1 ∷ 3 ∷ 1 ∷ 1 ∷ 2 ∷ 1 ∷ 0 ∷ 0 ∷ 0 ∷ 0 ∷ [])) 1802 10812 ≡ given (nums (2 ∷ 0 ∷ 2 ∷ 1 ∷ 1 ∷ 1 ∷ 0 ∷ 0 ∷ 0 ∷ 0 ∷ []))
unfolding ask_contract_last_axis
e30 = refl

e31 : ask_contract_last_axis (nums (2 ∷ 1 ∷ 2 ∷ 3 ∷ 2 ∷ 2 ∷ 2 ∷ 0 ∷ 0 ∷ 0 ∷ [])) 1802 10812 ≡ given (nums (2 ∷ 0 ∷ 1 ∷ 3 ∷ 2 ∷ 2 ∷ 0 ∷ 0 ∷ 0 ∷ []))
unfolding ask_contract_last_axis
e31 = refl

e32 : ask_contract_last_axis (nums (2 ∷ 1 ∷ 2 ∷ 2 ∷ 3 ∷ 2 ∷ 1 ∷ 0 ∷ 0 ∷ 0 ∷ [])) 1802 10812 ≡ given (nums (2 ∷ 0 ∷ 1 ∷ 2 ∷ 2 ∷ 1 ∷ 0 ∷ 0 ∷ 0 ∷ []))
unfolding ask_contract_last_axis
e32 = refl

e33 : ask_contract_last_axis (nums (2 ∷ 1 ∷ 2 ∷ 2 ∷ 0 ∷ 1 ∷ 1 ∷ 0 ∷ 0 ∷ [])) 1802 10812 ≡ given (nums (2 ∷ 0 ∷ 1 ∷ 2 ∷ 1 ∷ 1 ∷ 0 ∷ 0 ∷ []))
unfolding ask_contract_last_axis
e33 = refl

e34 : ask_contract_last_axis (nums (2 ∷ 1 ∷ 1 ∷ 0 ∷ 1 ∷ 0 ∷ 0 ∷ [])) 1802 10812 ≡ given (nums (2 ∷ 0 ∷ 0 ∷ 1 ∷ 0 ∷ 0 ∷ []))
unfolding ask_contract_last_axis
e34 = refl

e35 : ask_contract_last_axis (nums (2 ∷ 1 ∷ 3 ∷ 2 ∷ 3 ∷ 2 ∷ 2 ∷ 1 ∷ 2 ∷ 0 ∷ 1 ∷ 2 ∷ 1 ∷ 2 ∷ 0 ∷ 7 ∷ 1 ∷ 2 ∷ 1 ∷ 7 ∷ 1 ∷ 1 ∷ 2 ∷ 1 ∷ 9 ∷ [])) 1802 10812 ≡ given (nums (2 ∷ 0 ∷ 2 ∷ 2 ∷ 3 ∷ 2 ∷ 1 ∷ 2 ∷ 0 ∷ 1 ∷ 1 ∷ 1 ∷ 2 ∷ 7 ∷ 1 ∷ 1 ∷ 2 ∷ 9 ∷ []))
unfolding ask_contract_last_axis
e35 = refl

e36 : ask_contract_last_axis (nums (2 ∷ 2 ∷ 3 ∷ 2 ∷ 3 ∷ 2 ∷ 2 ∷ 1 ∷ 0 ∷ 0 ∷ 0 ∷ [])) 1802 10812 ≡ given (nums (2 ∷ 1 ∷ 2 ∷ 2 ∷ 3 ∷ 2 ∷ 1 ∷ 0 ∷ 0 ∷ 0 ∷ []))
unfolding ask_contract_last_axis
e36 = refl

-- contract_last_axis_call: refused 1
e37 : ask_contract_last_axis (nums (0 ∷ 0 ∷ 5 ∷ [])) 0 0 ≡ refused 1
unfolding ask_contract_last_axis
e37 = refl

e38 : ask_contract_last_axis (nums (0 ∷ 0 ∷ 5 ∷ [])) 1802 10812 ≡ refused 1
unfolding ask_contract_last_axis
e38 = refl

e39 : ask_contract_last_axis (nums (1 ∷ 0 ∷ 5 ∷ 3 ∷ 3 ∷ 3 ∷ 0 ∷ 0 ∷ 0 ∷ [])) 1802 10812 ≡ refused 1
unfolding ask_contract_last_axis
e39 = refl

e40 : ask_contract_last_axis (nums (2 ∷ 6 ∷ 6 ∷ 1 ∷ 1 ∷ 1 ∷ 1 ∷ 1 ∷ 1 ∷ 0 ∷ 0 ∷ 0 ∷ [])) 1801 10812 ≡ refused 1
unfolding ask_contract_last_axis
e40 = refl

-- contract_last_axis_call: refused 2
e41 : ask_contract_last_axis [] 0 0 ≡ refused 2
unfolding ask_contract_last_axis
e41 = refl

e42 : ask_contract_last_axis (nums (0 ∷ 0 ∷ 0 ∷ 0 ∷ 0 ∷ 0 ∷ [])) 0 0 ≡ refused 2
unfolding ask_contract_last_axis
e42 = refl

e43 : ask_contract_last_axis (nums (0 ∷ 0 ∷ 0 ∷ 0 ∷ 0 ∷ 0 ∷ [])) 0 10812 ≡ refused 2
unfolding ask_contract_last_axis
e43 = refl

e44 : ask_contract_last_axis (nums (0 ∷ 2 ∷ 2 ∷ 2 ∷ 2 ∷ 1 ∷ 0 ∷ 0 ∷ [])) 1802 0 ≡ refused 2
unfolding ask_contract_last_axis
e44 = refl

e45 : ask_contract_last_axis (nums (0 ∷ 4 ∷ 4 ∷ 3 ∷ 4 ∷ 2 ∷ 1 ∷ 0 ∷ 0 ∷ 0 ∷ [])) 0 10812 ≡ refused 2
unfolding ask_contract_last_axis
e45 = refl

-- contract_last_axis_call: refused 3
e46 : ask_contract_last_axis [] 1802 10812 ≡ refused 3
unfolding ask_contract_last_axis
e46 = refl

e47 : ask_contract_last_axis (nums (0 ∷ 0 ∷ 0 ∷ 0 ∷ 0 ∷ 3 ∷ 0 ∷ 1 ∷ [])) 1802 10812 ≡ refused 3
unfolding ask_contract_last_axis
e47 = refl

e48 : ask_contract_last_axis (pos 1 ∷ pos 1 ∷ pos 2 ∷ negsuc 1 ∷ pos 2 ∷ pos 0 ∷ pos 0 ∷ pos 0 ∷ []) 1802 10813 ≡ refused 3
unfolding ask_contract_last_axis
e48 = refl

e49 : ask_contract_last_axis (nums (2 ∷ 1 ∷ 1 ∷ 2147483647 ∷ 0 ∷ 0 ∷ 0 ∷ [])) 1802 10812 ≡ refused 3
unfolding ask_contract_last_axis
e49 = refl

-- contract_last_axis_call: refused 7
e50 : ask_contract_last_axis (nums (0 ∷ 0 ∷ 0 ∷ 0 ∷ 0 ∷ 0 ∷ [])) 1802 10812 ≡ refused 7
unfolding ask_contract_last_axis
e50 = refl

e51 : ask_contract_last_axis (nums (2 ∷ 0 ∷ 0 ∷ 1 ∷ 0 ∷ 0 ∷ [])) 1802 10812 ≡ refused 7
unfolding ask_contract_last_axis
e51 = refl
