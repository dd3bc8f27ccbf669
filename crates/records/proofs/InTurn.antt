-- Two tests, the second one only where the first one holds; and the order of several. Assumes nothing.
use mathlib.Core.Path.{◌≡◌}
use mathlib.Core.Bool.{Bool, true, false, not, ◌&&◌, and-true, and-false}
use borrow.Author.Tests.{not-true, not-false}

-- a test that failed, before another
pub first_fails : {a : Bool} (b : Bool) {t : Bool} → t ≡ a → not t ≡ true → false ≡ a && b
first_fails b {t} e f = rw (← e, not-true t f)

-- a test that held, before another
pub first_holds : {a b t : Bool} → t ≡ a → not t ≡ false → a && b ≡ b
first_holds {t} e f = rw (← e, not-false t f)

-- the first of four tests may come last
pub first_last : (a b c d : Bool) → a && (b && (c && d)) ≡ b && (c && (d && a))
first_last true b c d = simp and-true
first_last false b c d = simp and-false
