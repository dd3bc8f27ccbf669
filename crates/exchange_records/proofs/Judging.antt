-- What a list of numbers is answered with, by its counts. Assumes nothing.
use Rattle.std.specs.Prelude.{None, Option, Some}
use mathlib.Core.Path.{◌≡◌, refl, sym, ap, ◌∙◌}
use mathlib.Core.Bool.{Bool, true, false, not}
use mathlib.Core.List.{List, [], ◌∷◌}
use Prim.Native.Nat.{ℕ, ◌+◌, ◌*◌, ◌-◌, ◌%◌, ◌<◌, ◌≤◌}
use native.Mathlib.Omega.{arith}
use borrow.Author.Tests.{lt-ltb, le-ltb, not-true, not-false, eqb-true}
use lib.Dec.{eqb}
use lib.IntN.{ℤ, pos, negsuc}
use lib.ListN.{length, get_or, take, drop, length-drop}
use lib.Seq.{drop-drop}
use Rattle.rules.specs.Limits.{list_limit}
use Rattle.rules.specs.Lists.{if}
use Rattle.rules.specs.Record.{natural}
use Rattle.rules.specs.Arguments.{over_count}
use Rattle.cells.specs.View.{sign_of}
use Rattle.records.proofs.EndToEnd.{to_end}
use Rattle.shapes.proofs.Reading.{as_natural, as_over, as_over_negative}
use Rattle.text.specs.Read.{Reading}
use Rattle.record_text.specs.Texts.{text_reading}
use Rattle.record_text.specs.Lines.{refused_text}
use Rattle.exchange_records.specs.Piles.{behind_records}
use Rattle.exchange_records.specs.Exchanges.{exchanges_text, are_pairs, records_text, list_text, reading_text, answer_text}
use Rattle.exchange_records.specs.Growing.{PileLoaded}

-- ---- pairs

pub pairs_none : (rest : List ℤ) → length rest ≡ 0 → false ≡ are_pairs rest
unfolding are_pairs
pairs_none [] e = refl
pairs_none (z ∷ rest) e = absurd (omega arith)

pub pairs_negative : (rest : List ℤ) {g : Option ℕ} → g ≡ sign_of (get_or rest 0 (pos 0)) → g ≡ None → false ≡ are_pairs rest
unfolding are_pairs sign_of
pairs_negative [] e f = refl
pairs_negative (pos n ∷ rest) e f = cc
pairs_negative (negsuc n ∷ rest) e f = refl

pub pairs_counted : (rest : List ℤ) {g : Option ℕ} {n : ℕ} → (length rest ≡ 0 → ⊥) → g ≡ sign_of (get_or rest 0 (pos 0)) → g ≡ Some n → eqb (length rest - 1) (2 * n) ≡ are_pairs rest
unfolding are_pairs sign_of
pairs_counted [] h e f = absurd (h refl)
pairs_counted (pos m ∷ rest) {n = n} h e f = let is : m ≡ n = cc in let size : length (pos m ∷ rest) - 1 ≡ length rest = omega arith in rw (size, is)
pairs_counted (negsuc m ∷ rest) h e f = cc

-- they are there, and two for each
pub record Pairs (rest : List ℤ) : Type 0 where
  pub there : 0 < length rest
  pub even : length (drop 1 rest) % 2 ≡ 0

are_there : (rest : List ℤ) → are_pairs rest ≡ true → Pairs rest
unfolding are_pairs
are_there [] e = absurd (let z : ◌≡◌ {A = ℕ} 0 1 = cc in omega arith)
are_there (pos n ∷ rest) e = let is = eqb-true (length rest) (2 * n) e in record { there = omega arith; even = omega arith }
are_there (negsuc n ∷ rest) e = absurd (let z : ◌≡◌ {A = ℕ} 0 1 = cc in omega arith)

-- ---- records and pairs

module _ {n : ℕ} {list pile : List ℤ} {at : ℕ} (p : PileLoaded n list pile at) {o : Bool} (e : o ≡ are_pairs (take (length list - at) (drop at list))) where
  pairs_there : o ≡ are_pairs (behind_records n list)
  pairs_there = e ∙ ap are_pairs (to_end at list ∙ p.rest)

  pub records_refused : not o ≡ true → refused_text 3 ≡ records_text n list
  unfolding records_text
  records_refused f = rw (sym pairs_there ∙ not-true o f)

  module _ (f : not o ≡ false) where
    abbrev rest : List ℤ
    rest = take (length list - (at + 1)) (drop (at + 1) list)

    found : Pairs (drop at list)
    found = rw p.rest (are_there (behind_records n list) (sym pairs_there ∙ not-false o f))

    pub first_there : at + 1 ≤ length list
    first_there = let there = found.there in omega (arith, length-drop at list)

    rest_is : rest ≡ drop 1 (drop at list)
    rest_is = to_end (at + 1) list ∙ sym (drop-drop 1 at list)

    pub rest_even : length rest % 2 ≡ 0
    rest_even = rw rest_is found.even

    pub records_text_lem : exchanges_text pile rest ≡ records_text n list
    unfolding records_text
    records_text_lem = rw (sym pairs_there ∙ not-false o f, rest_is, p.rest, p.is)

-- ---- the count

module _ (list : List ℤ) where
  pub list_none : length list ≡ 0 → refused_text 3 ≡ list_text list
  unfolding list_text
  list_none e = go list e where
    go : (l : List ℤ) → length l ≡ 0 → refused_text 3 ≡ list_text l
    go [] e = refl
    go (z ∷ l) e = absurd (omega arith)

  module _ (h : length list ≡ 0 → ⊥) where
    counted : list_text list ≡ if (over_count (get_or list 0 (pos 0))) (refused_text 1) (records_text (natural (get_or list 0 (pos 0))) (drop 1 list))
    unfolding list_text
    counted = go list h where
      go : (l : List ℤ) → (length l ≡ 0 → ⊥) → list_text l ≡ if (over_count (get_or l 0 (pos 0))) (refused_text 1) (records_text (natural (get_or l 0 (pos 0))) (drop 1 l))
      go [] h = absurd (h refl)
      go (z ∷ l) h = refl

    module _ {g : Option ℕ} (e : g ≡ sign_of (get_or list 0 (pos 0))) where
      pub list_negative : g ≡ None → refused_text 1 ≡ list_text list
      list_negative f = rw (counted, ← as_over_negative (get_or list 0 (pos 0)) e f)

      module _ {n : ℕ} (f : g ≡ Some n) where
        pub list_over : list_limit < n → refused_text 1 ≡ list_text list
        list_over k = rw (counted, ← as_over (get_or list 0 (pos 0)) e f, lt-ltb list_limit n k)

        pub list_records : n ≤ list_limit → records_text n (take (length list - 1) (drop 1 list)) ≡ list_text list
        list_records k = rw (counted, ← as_over (get_or list 0 (pos 0)) e f, le-ltb list_limit n k, to_end 1 list, ← as_natural (get_or list 0 (pos 0)) e f)

-- ---- a text

pub text_is : (text : List ℕ) {reading : Reading} → text_reading text ≡ reading → answer_text text ≡ reading_text reading
unfolding answer_text
text_is text e = rw e
