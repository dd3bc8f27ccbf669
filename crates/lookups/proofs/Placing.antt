-- `among_rows` and `on_diagonal`: a place is found, or nothing. Assumes nothing.
use Rattle.std.specs.Prelude.{Err, Ok, Result, Option}
use Rattle.std.specs.Result.{result_ok}
use mathlib.Core.Path.{◌≡◌, refl, sym, ap, ◌∙◌}
use mathlib.Core.Bool.{Bool, true, false}
use mathlib.Core.List.{List, []}
use Prim.Native.Nat.{ℕ, ◌<◌}
use lib.ListN.{length, get_or}
use Rattle.rules.specs.Lists.{if}
use Rattle.rules.specs.RowsInOrder.{Increasing}
use Rattle.rules.specs.Endings.{Lookup, found, nothing, lookup_of}
use Rattle.rules.specs.Lookup.{place_from}
use Rattle.rules.proofs.Order.{ComparedNumbers, under, even, above, compare_numbers, less_not_same}
use Rattle.rules.proofs.Places.{in_at, increasing_at}
use Rattle.rules.proofs.Finding.{place_at, place_has}
use Rattle.tables.specs.Rows.{Found, Between, SpotIs}
use Rattle.tables.proofs.Spots.{found_in, between_not_in}

-- ---- on a diagonal

module _ {t a : Bool} (e : t ≡ a) (p : ℕ) where
  pub diagonal_found : t ≡ true → found p ≡ if a (found p) nothing
  diagonal_found f = rw (← e, f)

  pub diagonal_nothing : t ≡ false → nothing ≡ if a (found p) nothing
  diagonal_nothing f = rw (← e, f)

pub ruleset diagonal = (diagonal_found, diagonal_nothing)

-- ---- among rows that increase

module _ (r : List ℕ) (t : List (List ℕ)) (i : Increasing t) where
  -- a row stands at one place
  one_place : (p q : ℕ) → p < length t → q < length t → get_or t p [] ≡ r → get_or t q [] ≡ r → p ≡ q
  one_place p q k l e f = by (compare_numbers p q)
    where
      by : ComparedNumbers p q → p ≡ q
      by (under h) = absurd (less_not_same r (rw (e, f) at (increasing_at i p q h l)))
      by (even h) = h
      by (above h) = absurd (less_not_same r (rw (f, e) at (increasing_at i q p h k)))

  -- a row that is there is found at its place
  pub row_found : {o : (Result ℕ ℕ)} {p : ℕ} → SpotIs r t o → o ≡ Ok p → found p ≡ place_from 0 r t
  row_found {p = p} s e =
      let f : Found r t p = rw e at s in
      let has = place_has (found_in f) 0 in
      let at = place_at r t has.1 in
      ap found (one_place p has.0 f.within at.0 f.is at.1) ∙ sym has.1

  -- a row that is not is not found
  pub row_nothing : {o : (Result ℕ ℕ)} {p : ℕ} → SpotIs r t o → o ≡ Err p → nothing ≡ place_from 0 r t
  row_nothing {p = p} s e = sym (by (place_from 0 r t) refl)
    where
      b : Between r t p
      b = rw e at s

      by : (l : Lookup) → place_from 0 r t ≡ l → l ≡ nothing
      by (found q) f = let at = place_at r t f in absurd (between_not_in b i (rw at.1 at (in_at t q at.0)))
      by nothing f = refl

  -- so what a search answers is the place, or none
  pub row_told : (o : Result ℕ ℕ) (p : Option ℕ) → SpotIs r t o → p ≡ result_ok o → lookup_of p ≡ place_from 0 r t
  row_told o p s e = by o refl
    where
      by : (q : Result ℕ ℕ) → o ≡ q → lookup_of p ≡ place_from 0 r t
      by (Ok x) f = rw (e, f) (row_found s f)
      by (Err x) f = rw (e, f) (row_nothing s f)
