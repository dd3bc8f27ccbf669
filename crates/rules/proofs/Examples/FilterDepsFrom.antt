-- Examples: FilterDepsFrom. Each holds by computation; the answers are those of the reading in tests/reading.
-- Written by tests/examples from tests/reading/examples.txt.
use mathlib.Core.Path.{◌≡◌, refl}
use mathlib.Core.Bool.{Bool, true, false}
use mathlib.Core.List.{List, [], ◌∷◌, map}
use Prim.Native.Nat.{ℕ}
use lib.IntN.{ℤ, pos, negsuc}
use Rattle.std.specs.declared.cmp.Ordering.{Ordering}
use Rattle.std.specs.declared.cmp.Ordering.TheVariants.{Less, Equal, Greater}
use Rattle.rules.specs.Refusals.{given, refused}
use Rattle.rules.specs.Endings.{found, nothing}
use Rattle.rules.proofs.Examples.Asked.{nums, ask_filter_deps_from}

-- filter_deps_from_call: answered
e1 : ask_filter_deps_from (nums (0 ∷ 0 ∷ 0 ∷ 0 ∷ 0 ∷ 0 ∷ [])) (nums (0 ∷ 1 ∷ 1 ∷ 1 ∷ 0 ∷ 0 ∷ 1 ∷ 0 ∷ 0 ∷ [])) (pos 2) (pos 3) 1802 10812 ≡ given (nums (0 ∷ 0 ∷ 0 ∷ 0 ∷ 0 ∷ 0 ∷ []))
unfolding ask_filter_deps_from
e1 = refl

e2 : ask_filter_deps_from (nums (2 ∷ 0 ∷ 0 ∷ 0 ∷ 0 ∷ 0 ∷ [])) (nums (0 ∷ 1 ∷ 1 ∷ 8 ∷ 0 ∷ 0 ∷ 1 ∷ 3 ∷ 3 ∷ [])) (pos 2) (pos 3) 1802 10812 ≡ given (nums (2 ∷ 0 ∷ 0 ∷ 0 ∷ 0 ∷ 0 ∷ []))
unfolding ask_filter_deps_from
e2 = refl

e3 : ask_filter_deps_from (nums (2 ∷ 1 ∷ 1 ∷ 2 ∷ 1 ∷ 0 ∷ 0 ∷ [])) (nums (0 ∷ 2 ∷ 2 ∷ 8 ∷ 1 ∷ 0 ∷ 0 ∷ 0 ∷ [])) (pos 3) (pos 6) 1802 20000 ≡ given (nums (2 ∷ 1 ∷ 1 ∷ 2 ∷ 1 ∷ 0 ∷ 0 ∷ []))
unfolding ask_filter_deps_from
e3 = refl

e4 : ask_filter_deps_from (nums (0 ∷ 1 ∷ 1 ∷ 1 ∷ 0 ∷ 0 ∷ 0 ∷ [])) (nums (0 ∷ 1 ∷ 1 ∷ 1 ∷ 0 ∷ 0 ∷ 0 ∷ [])) (pos 0) (pos 65536) 1802 10812 ≡ given (nums (0 ∷ 1 ∷ 1 ∷ 1 ∷ 0 ∷ 0 ∷ 0 ∷ []))
unfolding ask_filter_deps_from
e4 = refl

e5 : ask_filter_deps_from (nums (0 ∷ 1 ∷ 1 ∷ 1 ∷ 0 ∷ 0 ∷ 0 ∷ [])) (nums (0 ∷ 1 ∷ 1 ∷ 2 ∷ 0 ∷ 0 ∷ 0 ∷ [])) (pos 0) (pos 65536) 1802 10812 ≡ given (nums (0 ∷ 1 ∷ 1 ∷ 1 ∷ 0 ∷ 0 ∷ 0 ∷ []))
unfolding ask_filter_deps_from
e5 = refl

e6 : ask_filter_deps_from (nums (1 ∷ 0 ∷ 1 ∷ 1 ∷ 0 ∷ 0 ∷ 0 ∷ [])) (nums (0 ∷ 1 ∷ 1 ∷ 8 ∷ 0 ∷ 1 ∷ 4 ∷ 4 ∷ 0 ∷ [])) (pos 2) (pos 6) 1802 10812 ≡ given (nums (1 ∷ 0 ∷ 1 ∷ 1 ∷ 0 ∷ 1 ∷ 2 ∷ 4 ∷ 0 ∷ []))
unfolding ask_filter_deps_from
e6 = refl

e7 : ask_filter_deps_from (nums (2 ∷ 0 ∷ 1 ∷ 2 ∷ 2 ∷ 1 ∷ 0 ∷ 0 ∷ 0 ∷ [])) (nums (0 ∷ 1 ∷ 1 ∷ 1 ∷ 0 ∷ 0 ∷ 0 ∷ [])) (pos 0) (pos 1) 1802 10812 ≡ given (nums (2 ∷ 0 ∷ 1 ∷ 2 ∷ 2 ∷ 1 ∷ 0 ∷ 0 ∷ 0 ∷ []))
unfolding ask_filter_deps_from
e7 = refl

e8 : ask_filter_deps_from (nums (0 ∷ 0 ∷ 0 ∷ 0 ∷ 0 ∷ 0 ∷ [])) (nums (0 ∷ 2 ∷ 2 ∷ 1 ∷ 5 ∷ 0 ∷ 1 ∷ 0 ∷ 1 ∷ 1 ∷ 0 ∷ [])) (pos 1) (pos 2) 1802 10812 ≡ given (nums (0 ∷ 0 ∷ 0 ∷ 0 ∷ 1 ∷ 1 ∷ 0 ∷ []))
unfolding ask_filter_deps_from
e8 = refl

e9 : ask_filter_deps_from (nums (0 ∷ 1 ∷ 1 ∷ 1 ∷ 0 ∷ 0 ∷ 0 ∷ [])) (nums (0 ∷ 1 ∷ 1 ∷ 1 ∷ 0 ∷ 0 ∷ 0 ∷ [])) (pos 65536) (pos 65536) 1802 10812 ≡ given (nums (0 ∷ 1 ∷ 1 ∷ 1 ∷ 0 ∷ 0 ∷ 0 ∷ []))
unfolding ask_filter_deps_from
e9 = refl

e10 : ask_filter_deps_from (nums (0 ∷ 2 ∷ 2 ∷ 1 ∷ 2 ∷ 0 ∷ 1 ∷ 0 ∷ 0 ∷ 1 ∷ 0 ∷ [])) (nums (0 ∷ 2 ∷ 2 ∷ 128 ∷ 1 ∷ 0 ∷ 0 ∷ 0 ∷ [])) (pos 7) (pos 8) 1802 10812 ≡ given (nums (0 ∷ 2 ∷ 2 ∷ 1 ∷ 2 ∷ 0 ∷ 0 ∷ 0 ∷ []))
unfolding ask_filter_deps_from
e10 = refl

e11 : ask_filter_deps_from (nums (1 ∷ 1 ∷ 2 ∷ 2 ∷ 2 ∷ 0 ∷ 0 ∷ 0 ∷ [])) (nums (0 ∷ 2 ∷ 2 ∷ 128 ∷ 1 ∷ 0 ∷ 0 ∷ 1 ∷ 7 ∷ 0 ∷ 7 ∷ [])) (pos 5) (pos 7) 1802 10812 ≡ given (nums (1 ∷ 1 ∷ 2 ∷ 2 ∷ 2 ∷ 0 ∷ 0 ∷ 0 ∷ []))
unfolding ask_filter_deps_from
e11 = refl

e12 : ask_filter_deps_from (nums (2 ∷ 0 ∷ 3 ∷ 3 ∷ 1 ∷ 3 ∷ 1 ∷ 0 ∷ 0 ∷ 1 ∷ 0 ∷ 0 ∷ [])) (nums (0 ∷ 3 ∷ 3 ∷ 1 ∷ 1 ∷ 2 ∷ 0 ∷ 0 ∷ 0 ∷ [])) (pos 1) (pos 8) 1802 10812 ≡ given (nums (2 ∷ 0 ∷ 3 ∷ 3 ∷ 1 ∷ 3 ∷ 1 ∷ 0 ∷ 0 ∷ 1 ∷ 0 ∷ 0 ∷ []))
unfolding ask_filter_deps_from
e12 = refl

e13 : ask_filter_deps_from (nums (2 ∷ 0 ∷ 0 ∷ 1 ∷ 0 ∷ 0 ∷ [])) (nums (0 ∷ 2 ∷ 2 ∷ 128 ∷ 1 ∷ 0 ∷ 0 ∷ 2 ∷ 5 ∷ 4 ∷ 9 ∷ 6 ∷ 1 ∷ 7 ∷ [])) (pos 4) (pos 7) 1802 10812 ≡ given (nums (2 ∷ 0 ∷ 0 ∷ 1 ∷ 0 ∷ 0 ∷ []))
unfolding ask_filter_deps_from
e13 = refl

e14 : ask_filter_deps_from (nums (0 ∷ 1 ∷ 1 ∷ 2 ∷ 0 ∷ 0 ∷ 0 ∷ [])) (nums (0 ∷ 2 ∷ 2 ∷ 1 ∷ 4 ∷ 0 ∷ 2 ∷ 0 ∷ 2 ∷ 6 ∷ 0 ∷ 3 ∷ 7 ∷ 0 ∷ [])) (pos 2) (pos 4) 1802 10812 ≡ given (nums (0 ∷ 1 ∷ 1 ∷ 2 ∷ 0 ∷ 2 ∷ 0 ∷ 6 ∷ 0 ∷ 7 ∷ 0 ∷ []))
unfolding ask_filter_deps_from
e14 = refl

e15 : ask_filter_deps_from (nums (1 ∷ 0 ∷ 2 ∷ 3 ∷ 3 ∷ 0 ∷ 0 ∷ 0 ∷ [])) (nums (0 ∷ 2 ∷ 2 ∷ 128 ∷ 1 ∷ 0 ∷ 1 ∷ 10 ∷ 0 ∷ 10 ∷ 0 ∷ [])) (pos 1) (pos 8) 1802 10812 ≡ given (nums (1 ∷ 0 ∷ 2 ∷ 3 ∷ 3 ∷ 0 ∷ 0 ∷ 0 ∷ []))
unfolding ask_filter_deps_from
e15 = refl

e16 : ask_filter_deps_from (nums (0 ∷ 2 ∷ 2 ∷ 1 ∷ 2 ∷ 0 ∷ 0 ∷ 0 ∷ [])) (nums (0 ∷ 2 ∷ 2 ∷ 1 ∷ 4 ∷ 0 ∷ 2 ∷ 0 ∷ 2 ∷ 6 ∷ 0 ∷ 3 ∷ 7 ∷ 0 ∷ [])) (pos 2) (pos 4) 1802 10812 ≡ given (nums (0 ∷ 2 ∷ 2 ∷ 1 ∷ 2 ∷ 0 ∷ 2 ∷ 0 ∷ 0 ∷ 6 ∷ 0 ∷ 1 ∷ 7 ∷ 0 ∷ []))
unfolding ask_filter_deps_from
e16 = refl

e17 : ask_filter_deps_from (nums (2 ∷ 2 ∷ 3 ∷ 2 ∷ 1 ∷ 3 ∷ 1 ∷ 1 ∷ 0 ∷ 1 ∷ 0 ∷ 0 ∷ 2 ∷ 0 ∷ [])) (nums (0 ∷ 3 ∷ 3 ∷ 1 ∷ 1 ∷ 3 ∷ 0 ∷ 0 ∷ 0 ∷ [])) (pos 7) (pos 7) 1802 10812 ≡ given (nums (2 ∷ 2 ∷ 3 ∷ 2 ∷ 1 ∷ 3 ∷ 1 ∷ 1 ∷ 0 ∷ 0 ∷ []))
unfolding ask_filter_deps_from
e17 = refl

e18 : ask_filter_deps_from (nums (1 ∷ 1 ∷ 3 ∷ 1 ∷ 1 ∷ 2 ∷ 0 ∷ 0 ∷ 1 ∷ 0 ∷ 0 ∷ 2 ∷ 1 ∷ [])) (nums (0 ∷ 3 ∷ 3 ∷ 1 ∷ 3 ∷ 1 ∷ 0 ∷ 0 ∷ 0 ∷ 4 ∷ [])) (pos 0) (pos 1) 1802 10812 ≡ given (nums (1 ∷ 1 ∷ 3 ∷ 1 ∷ 1 ∷ 2 ∷ 0 ∷ 0 ∷ 0 ∷ []))
unfolding ask_filter_deps_from
e18 = refl

-- filter_deps_from_call: refused 1
e19 : ask_filter_deps_from (nums (0 ∷ 0 ∷ 5 ∷ [])) [] (negsuc 0) (pos 0) 0 0 ≡ refused 1
unfolding ask_filter_deps_from
e19 = refl

e20 : ask_filter_deps_from (nums (0 ∷ 0 ∷ 5 ∷ [])) [] (negsuc 0) (pos 0) 1802 10812 ≡ refused 1
unfolding ask_filter_deps_from
e20 = refl

e21 : ask_filter_deps_from (nums (2 ∷ 0 ∷ 1 ∷ 4 ∷ 1 ∷ 3 ∷ 0 ∷ 0 ∷ [])) (nums (0 ∷ 6 ∷ 6 ∷ 1 ∷ 1 ∷ 1 ∷ 1 ∷ 1 ∷ 1 ∷ 0 ∷ 0 ∷ 0 ∷ [])) (pos 5) (pos 6) 1803 10812 ≡ refused 1
unfolding ask_filter_deps_from
e21 = refl

-- filter_deps_from_call: refused 10
e22 : ask_filter_deps_from (nums (0 ∷ 0 ∷ 0 ∷ 0 ∷ 0 ∷ 0 ∷ [])) (nums (0 ∷ 0 ∷ 0 ∷ 0 ∷ 0 ∷ 0 ∷ [])) (pos 0) (pos 1) 1802 10812 ≡ refused 10
unfolding ask_filter_deps_from
e22 = refl

e23 : ask_filter_deps_from (nums (0 ∷ 2 ∷ 2 ∷ 1 ∷ 1 ∷ 0 ∷ 0 ∷ 0 ∷ [])) (nums (0 ∷ 1 ∷ 1 ∷ 1 ∷ 0 ∷ 0 ∷ 0 ∷ [])) (pos 0) (pos 1) 1802 10812 ≡ refused 10
unfolding ask_filter_deps_from
e23 = refl

e24 : ask_filter_deps_from (nums (0 ∷ 1 ∷ 1 ∷ 4 ∷ 0 ∷ 0 ∷ 1 ∷ 0 ∷ 3 ∷ [])) (nums (1 ∷ 0 ∷ 1 ∷ 128 ∷ 0 ∷ 0 ∷ 0 ∷ [])) (pos 0) (pos 4) 1802 10812 ≡ refused 10
unfolding ask_filter_deps_from
e24 = refl

e25 : ask_filter_deps_from (nums (2 ∷ 0 ∷ 2 ∷ 1 ∷ 3 ∷ 1 ∷ 0 ∷ 2 ∷ 0 ∷ 0 ∷ [])) (nums (0 ∷ 2 ∷ 2 ∷ 3 ∷ 8 ∷ 0 ∷ 0 ∷ 0 ∷ [])) (pos 5) (pos 6) 10812 10812 ≡ refused 10
unfolding ask_filter_deps_from
e25 = refl

e26 : ask_filter_deps_from (nums (2 ∷ 0 ∷ 0 ∷ 1 ∷ 0 ∷ 2 ∷ 0 ∷ 2 ∷ [])) (pos 0 ∷ pos 0 ∷ pos 0 ∷ pos 0 ∷ pos 0 ∷ pos 2 ∷ pos 6 ∷ pos 8 ∷ negsuc 1 ∷ pos 8 ∷ pos 7 ∷ []) (pos 4) (pos 7) 1802 10812 ≡ refused 10
unfolding ask_filter_deps_from
e26 = refl

e27 : ask_filter_deps_from (nums (0 ∷ 2 ∷ 2 ∷ 1 ∷ 2 ∷ 0 ∷ 0 ∷ 0 ∷ [])) (nums (0 ∷ 2 ∷ 2 ∷ 2 ∷ 5 ∷ 0 ∷ 2 ∷ 0 ∷ 1 ∷ 8 ∷ 1 ∷ 2 ∷ 5 ∷ 0 ∷ [])) (pos 0) (pos 7) 1802 10812 ≡ refused 10
unfolding ask_filter_deps_from
e27 = refl

-- filter_deps_from_call: refused 12
e28 : ask_filter_deps_from (nums (0 ∷ 0 ∷ 0 ∷ 0 ∷ 0 ∷ 0 ∷ [])) (nums (0 ∷ 1 ∷ 1 ∷ 2 ∷ 0 ∷ 2 ∷ 0 ∷ 1 ∷ 1 ∷ 1 ∷ 0 ∷ [])) (pos 0) (pos 2) 1802 10812 ≡ refused 12
unfolding ask_filter_deps_from
e28 = refl

-- filter_deps_from_call: refused 2
e29 : ask_filter_deps_from [] (nums (0 ∷ 0 ∷ 0 ∷ 0 ∷ 0 ∷ 0 ∷ [])) (negsuc 0) (pos 0) 0 0 ≡ refused 2
unfolding ask_filter_deps_from
e29 = refl

e30 : ask_filter_deps_from (nums (0 ∷ 0 ∷ 0 ∷ 0 ∷ 0 ∷ 0 ∷ [])) [] (negsuc 0) (pos 0) 0 0 ≡ refused 2
unfolding ask_filter_deps_from
e30 = refl

e31 : ask_filter_deps_from (nums (0 ∷ 0 ∷ 0 ∷ 0 ∷ 0 ∷ 0 ∷ [])) (nums (0 ∷ 0 ∷ 0 ∷ 0 ∷ 0 ∷ 0 ∷ [])) (negsuc 0) (pos 0) 0 0 ≡ refused 2
unfolding ask_filter_deps_from
e31 = refl

e32 : ask_filter_deps_from (nums (2 ∷ 0 ∷ 0 ∷ 0 ∷ 0 ∷ 0 ∷ [])) (nums (0 ∷ 1 ∷ 1 ∷ 8 ∷ 0 ∷ 0 ∷ 0 ∷ [])) (pos 0) (negsuc 0) 1802 10811 ≡ refused 2
unfolding ask_filter_deps_from
e32 = refl

e33 : ask_filter_deps_from (nums (2 ∷ 0 ∷ 0 ∷ 1 ∷ 1 ∷ 15 ∷ 0 ∷ [])) (nums (2 ∷ 2 ∷ 2 ∷ 256 ∷ 257 ∷ 0 ∷ 0 ∷ 0 ∷ [])) (pos 4) (pos 4) 2000 0 ≡ refused 2
unfolding ask_filter_deps_from
e33 = refl

e34 : ask_filter_deps_from (nums (2 ∷ 0 ∷ 0 ∷ 1 ∷ 0 ∷ 2 ∷ 0 ∷ 1 ∷ [])) (nums (0 ∷ 1 ∷ 1 ∷ 65536 ∷ 0 ∷ 0 ∷ 0 ∷ [])) (pos 1) (pos 7) 0 10812 ≡ refused 2
unfolding ask_filter_deps_from
e34 = refl

-- filter_deps_from_call: refused 3
e35 : ask_filter_deps_from (nums (0 ∷ 0 ∷ 0 ∷ 0 ∷ 0 ∷ 0 ∷ [])) [] (pos 0) (pos 8) 1802 10812 ≡ refused 3
unfolding ask_filter_deps_from
e35 = refl

e36 : ask_filter_deps_from (nums (2 ∷ 0 ∷ 0 ∷ 1 ∷ 0 ∷ 0 ∷ [])) [] (pos 6) (pos 4) 1802 10812 ≡ refused 3
unfolding ask_filter_deps_from
e36 = refl

e37 : ask_filter_deps_from [] (nums (0 ∷ 0 ∷ 0 ∷ 0 ∷ 0 ∷ 0 ∷ [])) (negsuc 0) (pos 0) 1802 10812 ≡ refused 3
unfolding ask_filter_deps_from
e37 = refl

e38 : ask_filter_deps_from (nums (0 ∷ 0 ∷ 0 ∷ 0 ∷ 0 ∷ 0 ∷ [])) [] (negsuc 0) (pos 0) 1802 10812 ≡ refused 3
unfolding ask_filter_deps_from
e38 = refl

e39 : ask_filter_deps_from (nums (0 ∷ 1 ∷ 1 ∷ 1 ∷ 0 ∷ 0 ∷ 0 ∷ [])) [] (negsuc 0) (pos 1) 1802 10812 ≡ refused 3
unfolding ask_filter_deps_from
e39 = refl

e40 : ask_filter_deps_from (nums (1 ∷ 2 ∷ 3 ∷ 3 ∷ 2 ∷ 2 ∷ 0 ∷ 0 ∷ 1 ∷ 2 ∷ 2 ∷ 2 ∷ 1 ∷ [])) (nums (0 ∷ 4 ∷ 4 ∷ 1 ∷ [])) (pos 0) (pos 5) 1802 10812 ≡ refused 3
unfolding ask_filter_deps_from
e40 = refl

e41 : ask_filter_deps_from (nums (0 ∷ 0 ∷ 0 ∷ 0 ∷ 2 ∷ 1 ∷ 2 ∷ 0 ∷ [])) (nums (2 ∷ 1 ∷ 1 ∷ 2147483647 ∷ 0 ∷ 0 ∷ 0 ∷ [])) (pos 5) (pos 8) 1802 10812 ≡ refused 3
unfolding ask_filter_deps_from
e41 = refl

e42 : ask_filter_deps_from (nums (0 ∷ 0 ∷ 0 ∷ 0 ∷ 2 ∷ 2 ∷ 3 ∷ 1 ∷ 1 ∷ [])) (nums (0 ∷ 1 ∷ 1 ∷ 65536 ∷ 0 ∷ 2 ∷ 1 ∷ 3 ∷ 5 ∷ 5 ∷ 4 ∷ 0 ∷ 0 ∷ 3 ∷ 3 ∷ 5 ∷ 5 ∷ 6 ∷ [])) (pos 7) (pos 8) 1802 10812 ≡ refused 3
unfolding ask_filter_deps_from
e42 = refl

-- filter_deps_from_call: refused 5
e43 : ask_filter_deps_from (nums (0 ∷ 0 ∷ 0 ∷ 0 ∷ 0 ∷ 0 ∷ [])) (nums (0 ∷ 0 ∷ 0 ∷ 0 ∷ 0 ∷ 0 ∷ [])) (negsuc 0) (pos 0) 1802 10812 ≡ refused 5
unfolding ask_filter_deps_from
e43 = refl

e44 : ask_filter_deps_from (nums (0 ∷ 1 ∷ 1 ∷ 1 ∷ 0 ∷ 0 ∷ 0 ∷ [])) (nums (0 ∷ 1 ∷ 1 ∷ 2 ∷ 0 ∷ 0 ∷ 0 ∷ [])) (negsuc 0) (pos 1) 1802 10812 ≡ refused 5
unfolding ask_filter_deps_from
e44 = refl

e45 : ask_filter_deps_from (nums (0 ∷ 1 ∷ 1 ∷ 1 ∷ 0 ∷ 0 ∷ 0 ∷ [])) (nums (0 ∷ 1 ∷ 1 ∷ 1 ∷ 0 ∷ 0 ∷ 0 ∷ [])) (pos 0) (pos 65537) 1802 10812 ≡ refused 5
unfolding ask_filter_deps_from
e45 = refl

e46 : ask_filter_deps_from (nums (0 ∷ 1 ∷ 1 ∷ 1 ∷ 0 ∷ 0 ∷ 0 ∷ [])) (nums (0 ∷ 1 ∷ 1 ∷ 1 ∷ 0 ∷ 0 ∷ 0 ∷ [])) (pos 65537) (pos 0) 1802 10812 ≡ refused 5
unfolding ask_filter_deps_from
e46 = refl

e47 : ask_filter_deps_from (nums (0 ∷ 1 ∷ 1 ∷ 1 ∷ 0 ∷ 0 ∷ 0 ∷ [])) (nums (0 ∷ 1 ∷ 1 ∷ 2 ∷ 0 ∷ 0 ∷ 0 ∷ [])) (pos 0) (pos 65537) 1802 10812 ≡ refused 5
unfolding ask_filter_deps_from
e47 = refl
