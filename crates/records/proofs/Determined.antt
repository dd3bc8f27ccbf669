-- What the contract of `row` determines: two parts that it allows are one. Assumes nothing.
use mathlib.Core.Path.{◌≡◌, sym, ◌∙◌}
use mathlib.Core.List.{List}
use denote.Ref.{Bor}
use lib.IntN.{ℤ}
use Rattle.rules.specs.Record.{row, row_place}
use Rattle.rules.specs.Endings.{BeginsAt}

-- they begin at one place and have the same numbers, as many of them; a reference has nothing else that a program can see
pub row_determined : (s : Bor (List ℤ)) (n : ℤ) (r r' : Bor (List ℤ)) →
    r.now ≡ row s.now n → BeginsAt (row_place s.now n) s r →
    r'.now ≡ row s.now n → BeginsAt (row_place s.now n) s r' →
    (r.ref_ptr ≡ r'.ref_ptr) × (r.now ≡ r'.now)
row_determined s n r r' p b q c = (b.there ∙ sym c.there, p ∙ sym q)
