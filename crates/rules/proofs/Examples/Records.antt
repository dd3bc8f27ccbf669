-- Examples: Records. Each holds by computation; the answers are those of the reading in tests/reading.
-- Written by tests/examples from tests/reading/examples.txt.
use mathlib.Core.Path.{◌≡◌, refl}
use mathlib.Core.Bool.{Bool, true, false}
use mathlib.Core.List.{List, [], ◌∷◌, map}
use Prim.Native.Nat.{ℕ}
use lib.IntN.{ℤ, pos, negsuc}
use Rattle.std.specs.declared.cmp.Ordering.{Ordering}
use Rattle.std.specs.declared.cmp.Ordering.TheVariants.{Less, Equal, Greater}
use Rattle.rules.specs.Refusals.{given, refused}
use Rattle.rules.specs.Endings.{found, nothing}
use Rattle.rules.proofs.Examples.Asked.{nums, ask_sound, ask_ordered, ask_row}

-- sound: answered
e1 : ask_sound [] ≡ given false
unfolding ask_sound
e1 = refl

e2 : ask_sound (nums (2 ∷ 0 ∷ [])) ≡ given false
unfolding ask_sound
e2 = refl

e3 : ask_sound (nums (0 ∷ 0 ∷ 5 ∷ [])) ≡ given false
unfolding ask_sound
e3 = refl

e4 : ask_sound (nums (1 ∷ 0 ∷ 1 ∷ [])) ≡ given false
unfolding ask_sound
e4 = refl

e5 : ask_sound (nums (2 ∷ 0 ∷ 2 ∷ [])) ≡ given false
unfolding ask_sound
e5 = refl

e6 : ask_sound (nums (0 ∷ 1 ∷ 1 ∷ 1 ∷ [])) ≡ given false
unfolding ask_sound
e6 = refl

e7 : ask_sound (nums (2 ∷ 0 ∷ 0 ∷ 1 ∷ 0 ∷ [])) ≡ given false
unfolding ask_sound
e7 = refl

e8 : ask_sound (nums (0 ∷ 0 ∷ 0 ∷ 0 ∷ 1 ∷ 1 ∷ [])) ≡ given false
unfolding ask_sound
e8 = refl

e9 : ask_sound (nums (1 ∷ 0 ∷ 0 ∷ 0 ∷ 0 ∷ 0 ∷ [])) ≡ given false
unfolding ask_sound
e9 = refl

e10 : ask_sound (nums (2 ∷ 0 ∷ 0 ∷ 1 ∷ 0 ∷ 0 ∷ [])) ≡ given true
unfolding ask_sound
e10 = refl

e11 : ask_sound (nums (2 ∷ 0 ∷ 0 ∷ 1 ∷ 0 ∷ 1 ∷ [])) ≡ given false
unfolding ask_sound
e11 = refl

e12 : ask_sound (nums (2 ∷ 0 ∷ 0 ∷ 2 ∷ 0 ∷ 0 ∷ [])) ≡ given false
unfolding ask_sound
e12 = refl

e13 : ask_sound (nums (0 ∷ 0 ∷ 1 ∷ 2 ∷ 0 ∷ 0 ∷ 0 ∷ [])) ≡ given false
unfolding ask_sound
e13 = refl

e14 : ask_sound (nums (0 ∷ 1 ∷ 1 ∷ 0 ∷ 0 ∷ 0 ∷ 0 ∷ [])) ≡ given true
unfolding ask_sound
e14 = refl

e15 : ask_sound (nums (1 ∷ 0 ∷ 1 ∷ 2 ∷ 0 ∷ 0 ∷ 0 ∷ [])) ≡ given true
unfolding ask_sound
e15 = refl

e16 : ask_sound (nums (2 ∷ 0 ∷ 0 ∷ 1 ∷ 0 ∷ 1 ∷ 3 ∷ [])) ≡ given true
unfolding ask_sound
e16 = refl

e17 : ask_sound (nums (2 ∷ 0 ∷ 0 ∷ 1 ∷ 1 ∷ 1 ∷ 0 ∷ [])) ≡ given true
unfolding ask_sound
e17 = refl

e18 : ask_sound (nums (2 ∷ 1 ∷ 1 ∷ 2 ∷ 1 ∷ 0 ∷ 0 ∷ [])) ≡ given true
unfolding ask_sound
e18 = refl

e19 : ask_sound (pos 0 ∷ pos 0 ∷ negsuc 0 ∷ pos 0 ∷ pos 1 ∷ pos 0 ∷ pos 0 ∷ []) ≡ given false
unfolding ask_sound
e19 = refl

e20 : ask_sound (pos 1 ∷ negsuc 0 ∷ pos 1 ∷ pos 3 ∷ pos 0 ∷ pos 0 ∷ pos 0 ∷ []) ≡ given false
unfolding ask_sound
e20 = refl

e21 : ask_sound (pos 1 ∷ pos 0 ∷ pos 1 ∷ negsuc 1 ∷ pos 0 ∷ pos 0 ∷ pos 0 ∷ []) ≡ given false
unfolding ask_sound
e21 = refl

e22 : ask_sound (nums (0 ∷ 0 ∷ 0 ∷ 0 ∷ 2 ∷ 0 ∷ 1 ∷ 0 ∷ [])) ≡ given true
unfolding ask_sound
e22 = refl

e23 : ask_sound (nums (0 ∷ 2 ∷ 2 ∷ 2 ∷ 2 ∷ 1 ∷ 0 ∷ 0 ∷ [])) ≡ given false
unfolding ask_sound
e23 = refl

e24 : ask_sound (nums (1 ∷ 1 ∷ 2 ∷ 2 ∷ 1 ∷ 0 ∷ 0 ∷ 0 ∷ [])) ≡ given true
unfolding ask_sound
e24 = refl

e25 : ask_sound (nums (2 ∷ 0 ∷ 1 ∷ 1 ∷ 1 ∷ 0 ∷ 0 ∷ 0 ∷ [])) ≡ given true
unfolding ask_sound
e25 = refl

e26 : ask_sound (nums (2 ∷ 0 ∷ 1 ∷ 1 ∷ 1 ∷ 2 ∷ 0 ∷ 0 ∷ [])) ≡ given false
unfolding ask_sound
e26 = refl

e27 : ask_sound (nums (3 ∷ 2 ∷ 2 ∷ 2 ∷ 3 ∷ 0 ∷ 0 ∷ 0 ∷ [])) ≡ given false
unfolding ask_sound
e27 = refl

e28 : ask_sound (nums (0 ∷ 1 ∷ 1 ∷ 65536 ∷ 0 ∷ 0 ∷ 0 ∷ [])) ≡ given true
unfolding ask_sound
e28 = refl

e29 : ask_sound (nums (0 ∷ 1 ∷ 1 ∷ 65537 ∷ 0 ∷ 0 ∷ 0 ∷ [])) ≡ given false
unfolding ask_sound
e29 = refl

e30 : ask_sound (nums (2 ∷ 1 ∷ 1 ∷ 65537 ∷ 0 ∷ 0 ∷ 0 ∷ [])) ≡ given false
unfolding ask_sound
e30 = refl

e31 : ask_sound (nums (2 ∷ 0 ∷ 0 ∷ 1 ∷ 2 ∷ 14 ∷ 14 ∷ 0 ∷ [])) ≡ given false
unfolding ask_sound
e31 = refl

e32 : ask_sound (nums (1 ∷ 0 ∷ 1 ∷ 3 ∷ 0 ∷ 1 ∷ 0 ∷ 2 ∷ 0 ∷ [])) ≡ given true
unfolding ask_sound
e32 = refl

e33 : ask_sound (nums (1 ∷ 0 ∷ 3 ∷ 2 ∷ 3 ∷ 2 ∷ 0 ∷ 0 ∷ 0 ∷ [])) ≡ given false
unfolding ask_sound
e33 = refl

e34 : ask_sound (nums (0 ∷ 2 ∷ 2 ∷ 0 ∷ 65536 ∷ 0 ∷ 0 ∷ 0 ∷ [])) ≡ given true
unfolding ask_sound
e34 = refl

e35 : ask_sound (nums (0 ∷ 2 ∷ 2 ∷ 0 ∷ 65537 ∷ 0 ∷ 0 ∷ 0 ∷ [])) ≡ given false
unfolding ask_sound
e35 = refl

e36 : ask_sound (nums (0 ∷ 2 ∷ 2 ∷ 256 ∷ 256 ∷ 0 ∷ 0 ∷ 0 ∷ [])) ≡ given true
unfolding ask_sound
e36 = refl

e37 : ask_sound (nums (0 ∷ 4 ∷ 4 ∷ 1 ∷ 1 ∷ 1 ∷ 1 ∷ 0 ∷ 0 ∷ 0 ∷ [])) ≡ given true
unfolding ask_sound
e37 = refl

e38 : ask_sound (nums (0 ∷ 1 ∷ 1 ∷ 1 ∷ 0 ∷ 1 ∷ 65535 ∷ 0 ∷ 0 ∷ [])) ≡ given true
unfolding ask_sound
e38 = refl

e39 : ask_sound (nums (0 ∷ 1 ∷ 1 ∷ 1 ∷ 0 ∷ 1 ∷ 65536 ∷ 0 ∷ 0 ∷ [])) ≡ given false
unfolding ask_sound
e39 = refl

e40 : ask_sound (nums (0 ∷ 5 ∷ 5 ∷ 1 ∷ 1 ∷ 1 ∷ 1 ∷ 1 ∷ 0 ∷ 0 ∷ 0 ∷ [])) ≡ given false
unfolding ask_sound
e40 = refl

-- ordered: answered
e41 : ask_ordered [] ≡ given false
unfolding ask_ordered
e41 = refl

e42 : ask_ordered (nums (0 ∷ [])) ≡ given false
unfolding ask_ordered
e42 = refl

e43 : ask_ordered (nums (2 ∷ [])) ≡ given false
unfolding ask_ordered
e43 = refl

e44 : ask_ordered (nums (0 ∷ 1 ∷ [])) ≡ given false
unfolding ask_ordered
e44 = refl

e45 : ask_ordered (nums (1 ∷ 0 ∷ [])) ≡ given false
unfolding ask_ordered
e45 = refl

e46 : ask_ordered (nums (0 ∷ 0 ∷ 5 ∷ [])) ≡ given false
unfolding ask_ordered
e46 = refl

e47 : ask_ordered (nums (2 ∷ 1 ∷ 3 ∷ 1 ∷ [])) ≡ given false
unfolding ask_ordered
e47 = refl

e48 : ask_ordered (pos 2 ∷ pos 0 ∷ pos 0 ∷ pos 1 ∷ pos 0 ∷ pos 1 ∷ negsuc 0 ∷ []) ≡ given false
unfolding ask_ordered
e48 = refl

e49 : ask_ordered (nums (2 ∷ 0 ∷ 1 ∷ 2 ∷ 2 ∷ 0 ∷ 1 ∷ 0 ∷ 0 ∷ [])) ≡ given true
unfolding ask_ordered
e49 = refl

e50 : ask_ordered (nums (2 ∷ 0 ∷ 1 ∷ 3 ∷ 2 ∷ 2 ∷ 1 ∷ 0 ∷ 0 ∷ [])) ≡ given false
unfolding ask_ordered
e50 = refl

-- row: answered
e51 : ask_row [] (pos 0) ≡ given []
unfolding ask_row
e51 = refl

e52 : ask_row [] (pos 1) ≡ given []
unfolding ask_row
e52 = refl

e53 : ask_row [] (pos 2) ≡ given []
unfolding ask_row
e53 = refl

e54 : ask_row [] (pos 3) ≡ given []
unfolding ask_row
e54 = refl

e55 : ask_row (nums (0 ∷ [])) (negsuc 0) ≡ given []
unfolding ask_row
e55 = refl

e56 : ask_row [] (pos 2147483647) ≡ given []
unfolding ask_row
e56 = refl

e57 : ask_row [] (negsuc 2147483647) ≡ given []
unfolding ask_row
e57 = refl

e58 : ask_row (nums (0 ∷ 0 ∷ 0 ∷ 0 ∷ 0 ∷ 0 ∷ [])) (pos 0) ≡ given []
unfolding ask_row
e58 = refl

e59 : ask_row (nums (2 ∷ 0 ∷ 1 ∷ 1 ∷ 1 ∷ 0 ∷ 0 ∷ [])) (pos 0) ≡ given []
unfolding ask_row
e59 = refl

e60 : ask_row (nums (2 ∷ 0 ∷ 1 ∷ 1 ∷ 1 ∷ 0 ∷ 0 ∷ 0 ∷ [])) (pos 0) ≡ given (nums (0 ∷ []))
unfolding ask_row
e60 = refl
