-- `rows_fit` and `sparse`: rows that become a sparse record. Assumes nothing.
use Rattle.std.specs.Prelude.{Err, Result}
use Rattle.rules.specs.declared.Refusal.{Refusal}
use mathlib.Core.Path.{◌≡◌, refl, sym, ap, ◌∙◌}
use mathlib.Core.Bool.{Bool, true, false, not, ◌&&◌}
use mathlib.Core.List.{List, [], map}
use Prim.Native.Nat.{ℕ, zero, suc, min, ◌+◌, ◌-◌, ◌*◌, ◌<◌, ◌≤◌}
use native.Mathlib.Nat.{mul-zero, mul-le-mul}
use native.Mathlib.Omega.{arith}
use borrow.Author.Tests.{leb-true, leb-false, le-leb, lt-leb, eqb-true, eq-eqb, not-true, not-false}
use lib.Dec.{leb}
use lib.IntN.{ℤ, pos}
use lib.ListN.{length, get_or, take, drop, replicate, length-replicate, length-map, get_or-replicate}
use lib.Seq.{take_all, take-length}
use lib.Signed.{non_neg}
use Rattle.rules.specs.declared.Refusal.TheVariants.{MadeUnsound, MadeTooLarge}
use Rattle.rules.specs.Limits.{product_limit, result_size}
use Rattle.rules.specs.Lists.{if, all, none, gather, all_below}
use Rattle.rules.specs.RowsInOrder.{cmp_rows, insert, sorted, increasing}
use Rattle.rules.specs.Layout.{Layout, encode, distinct, few, alike, well_formed, within_product, nonzero_product}
use Rattle.rules.specs.Record.{naturals, rows_of, entries_of, shape_in}
use Rattle.rules.specs.Refusals.{given, refused, in_form, number_of, lowest}
use Rattle.rules.specs.Soundness.{WellFormed}
use Rattle.rules.specs.Endings.{EndsIn}
use Rattle.rules.specs.CountsAndForms.{sparse}
use Rattle.rules.proofs.Made.{Formed, formed_made}
use Rattle.rules.proofs.RowsRead.{pos_naturals, rows_length, gather_rows, rows_of_width}
use Rattle.rules.proofs.Same.{both_true, decided, true_not_false}
use Rattle.rules.proofs.Sets.{each_nil}
use Rattle.rules.proofs.Soundness.{well_formed_true, true_well_formed}
use Rattle.rules.proofs.Tests.{all_each, each_all, no_length}
use Rattle.rules.proofs.Forming.{unformed_made, no_deps_fit}
use Rattle.cells.specs.View.{view, Low}
use Rattle.tables.specs.Rows.{row_at, rows_at, HasRows}
use Rattle.tables.proofs.Different.{twice_length}
use Rattle.records.proofs.Naturals.{has_rows, entries_rows}
use Rattle.axes.specs.Numbers.{RowsInside}
use Rattle.shapes.specs.Judged.{Judged}
use Rattle.shapes.proofs.Judging.{shape_row, shape_extents, shape_within}
use Rattle.shapes.proofs.Reading.{length_naturals, view_natural}
use Rattle.forms.specs.Pieces.{pieces, PiecesFit, no_deps, sparse_of}
use Rattle.forms.proofs.Packed.{flat}
use Rattle.forms.proofs.Pieces.{encode_pieces, ends_same}
use Rattle.forms.proofs.Making.{extents, lent_extents, ends_refused}

-- rows without a negative number are what they are as naturals
rows_natural : (w n : ℕ) (s : List ℤ) → all non_neg s ≡ true → rows_at 0 w n s ≡ rows_of w n (naturals s)
unfolding rows_at
rows_natural w n s e = ap (rows_of w n) (view_natural s e)

-- a row is inside a shape
abbrev below : List ℤ → List ℕ → Bool
below shape row = all_below row (shape_in shape)

-- ---- without axes

-- two rows of no numbers are the same
twice_empty : (k : ℕ) → 2 ≤ k → length (sorted (replicate k [])) ≡ length {A = List ℕ} (replicate k []) → ⊥
twice_empty k h e =
    let t : List (List ℕ) = replicate k [] in
    let size : length t ≡ k = length-replicate k [] in
    let twins : get_or t 1 [] ≡ get_or t 0 [] = get_or-replicate k 1 [] [] (omega arith) ∙ sym (get_or-replicate k 0 [] [] (omega arith)) in
    let fewer = twice_length t 1 0 (omega arith) (omega arith) twins in
    omega arith

-- so at most one makes a layout
empty_formed : (n : ℕ) → leb n 1 ≡ well_formed (sparse_of [] n [])
unfolding entries_of well_formed none sorted insert cmp_rows all all_below alike increasing
empty_formed zero = refl
empty_formed (suc zero) = refl
empty_formed (suc (suc n)) = lt-leb (suc (suc n)) 1 (omega arith) ∙ sym (by (well_formed (sparse_of [] (suc (suc n)) [])) refl)
  where
    by : (t : Bool) → well_formed (sparse_of [] (suc (suc n)) []) ≡ t → t ≡ false
    by true e = absurd (twice_empty (min (suc (suc n)) 129) (omega arith) (well_formed_true {l = sparse_of [] (suc (suc n)) []} e).rows_distinct)
    by false e = refl

module _ (s : List ℤ) {w : ℕ} (n : ℕ) (numbers : List ℤ) (size : length numbers ≡ n * length (shape_in s)) (e : w ≡ length (shape_in s)) where
  pub rows_without_axes : w ≡ 0 → leb n 1 ≡ all non_neg numbers && well_formed (sparse_of (shape_in s) n numbers)
  unfolding all
  rows_without_axes z =
      let none : shape_in s ≡ [] = no_length (shape_in s) (sym e ∙ z) in
      let nothing : numbers ≡ [] = no_length numbers (size ∙ rw (← e, z) (mul-zero n)) in
      rw (none, nothing) (empty_formed n)

  -- ---- with axes

  -- entries are rows then
  entries_are : (w ≡ 0 → ⊥) → (l : List ℕ) → entries_of (length (shape_in s)) n l ≡ rows_of w n l
  unfolding entries_of
  entries_are z l = rw (← e) (by w z)
    where
      by : (k : ℕ) → (k ≡ 0 → ⊥) → entries_of k n l ≡ rows_of k n l
      by zero y = absurd (y refl)
      by (suc k) y = refl

  -- they are rows of the slice, if none is negative
  pub rows_there_lem : {t : Bool} → (t ≡ true → Low (take (length numbers) (view numbers))) → not t ≡ false → HasRows 0 w n numbers
  rows_there_lem {t} low g = has_rows 0 w n (length numbers) numbers (rw e (omega arith)) (omega arith) (low (not-false t g))

  module _ {t : Bool} (f : t ≡ all non_neg (take (length numbers) numbers)) where
    natural_told : t ≡ all non_neg numbers
    natural_told = f ∙ ap (all non_neg) (take-length numbers)

    -- a number is negative
    pub rows_negative : not t ≡ true → false ≡ all non_neg numbers && well_formed (sparse_of (shape_in s) n numbers)
    rows_negative g = rw (← natural_told, not-true t g)

    module _ (z : w ≡ 0 → ⊥) (g : not t ≡ false) (j : Judged s) {u : Bool} (d : u ≡ all (λ row. all_below row (row_at 1 w s)) (rows_at 0 w n numbers)) where
      -- the rows and the shape as they are read
      told_below : u ≡ all (below s) (rows_of w n (naturals numbers))
      told_below =
          d
          ∙ ap (λ (l : List ℕ). all (λ row. all_below row l) (rows_at 0 w n numbers)) (shape_row s j e)
          ∙ ap (all (below s)) (rows_natural w n numbers (sym natural_told ∙ not-false t g))

      -- a row is outside the shape
      pub rows_outside : not u ≡ true → false ≡ all non_neg numbers && well_formed (sparse_of (shape_in s) n numbers)
      rows_outside k = rw (← natural_told, not-false t g) (sym (by (well_formed (sparse_of (shape_in s) n numbers)) refl))
        where
          by : (v : Bool) → well_formed (sparse_of (shape_in s) n numbers) ≡ v → v ≡ false
          by true q =
              let inside = rw (entries_are z (naturals numbers)) at (well_formed_true q).rows_lie_below in
              absurd (true_not_false (each_all (below s) (rows_of w n (naturals numbers)) inside) (sym told_below ∙ not-true u k))
          by false q = refl

      module _ (k : not u ≡ false) where
        -- all are inside
        pub rows_within : HasRows 0 w n numbers → RowsInside 0 1 w n numbers s
        rows_within r = record { rows = r; extents = shape_extents s j e; inside = sym d ∙ not-false u k }

        -- what the layout asks of them besides
        formed : distinct (rows_of w n (naturals numbers)) ≡ true → WellFormed (sparse_of (shape_in s) n numbers)
        formed q =
            let rows = entries_are z (naturals numbers) in
            let few = (extents s j e).few in
            let long : n * w ≤ length (naturals numbers) = rw (length_naturals, size, e) (omega arith) in
            let width : length (shape_in s) - 0 ≡ w = omega arith in
            record {
              kind_most = omega arith;
              dense_most = omega arith;
              rank_most = omega arith;
              sparse_rows = λ x. absurd (x refl);
              rows_distinct = rw rows (eqb-true _ _ q);
              row_lengths = rw (rows, width) (rows_of_width w n (naturals numbers) long);
              rows_lie_below = rw rows (all_each (below s) (sym told_below ∙ not-false u k));
              dense_all = λ x. absurd (omega arith);
              diagonal_wide = λ x. absurd (omega arith);
              diagonal_alike = λ x. absurd (omega arith);
              states_fit = no_deps_fit (sparse_of (shape_in s) n numbers);
              inputs_fit = no_deps_fit (sparse_of (shape_in s) n numbers);
            }

        -- whether they differ decides
        pub rows_decide : {v : Bool} → v ≡ distinct (rows_at 0 w n numbers) → v ≡ all non_neg numbers && well_formed (sparse_of (shape_in s) n numbers)
        rows_decide {v} q =
            let rows = entries_are z (naturals numbers) in
            let told : v ≡ distinct (rows_of w n (naturals numbers)) = q ∙ ap distinct (rows_natural w n numbers (sym natural_told ∙ not-false t g)) in
            rw (← natural_told, not-false t g)
            (decided v (well_formed (sparse_of (shape_in s) n numbers))
            (λ y. true_well_formed (formed (sym told ∙ y)))
            (λ y. told ∙ eq-eqb _ _ (rw rows at (well_formed_true y).rows_distinct)))

pub ruleset fits = (rows_without_axes, rows_negative, rows_outside, rows_within, rows_decide)

-- ---- the record: `sparse`

-- how many rows there are, as far as the limit goes
few_entries_lem : (w n : ℕ) (l : List ℕ) → few (entries_of w n l) ≡ leb n 128
unfolding entries_of
few_entries_lem zero n l = rw length-replicate (by (leb n 128) refl)
  where
    by : (t : Bool) → leb n 128 ≡ t → leb (min n 129) 128 ≡ t
    by true e = let h = leb-true n 128 e in le-leb (min n 129) 128 (omega arith)
    by false e = let h = leb-false n 128 e in lt-leb (min n 129) 128 (omega arith)
few_entries_lem (suc w) n l = rw (rows_length (suc w) n l)

module _ (s : List ℤ) (n : ℕ) (numbers : List ℤ) {t : Bool} (e : t ≡ all non_neg numbers && well_formed (sparse_of (shape_in s) n numbers)) where
  -- the rows do not fit
  sparse_wrong : t ≡ false → sparse (shape_in s) n numbers ≡ refused 12
  unfolding sparse lowest
  sparse_wrong f = by (all non_neg numbers) refl
    where
      by : (a : Bool) → all non_neg numbers ≡ a → sparse (shape_in s) n numbers ≡ refused 12
      by true q = rw q (unformed_made (λ m. true_not_false (rw (q, true_well_formed m)) (sym e ∙ f)))
      by false q = rw q

  pub sparse_refused : (old : List ℤ) → not t ≡ true → EndsIn (in_form encode (sparse (shape_in s) n numbers)) old (Err MadeUnsound) old
  unfolding number_of
  sparse_refused old f = ends_refused MadeUnsound old (sparse_wrong (not-true t f))

  module _ (j : Judged s) (f : not t ≡ false) where
    both : (all non_neg numbers ≡ true) × (well_formed (sparse_of (shape_in s) n numbers) ≡ true)
    both = both_true (all non_neg numbers) (well_formed (sparse_of (shape_in s) n numbers)) (sym e ∙ not-false t f)

    -- they do: only their count is left to judge
    sparse_made : sparse (shape_in s) n numbers ≡ if (leb n 128) (given (sparse_of (shape_in s) n numbers)) (refused 13)
    unfolding sparse lowest within_product
    sparse_made =
        let l : Layout = sparse_of (shape_in s) n numbers in
        let formed : Formed l = record {
          form = well_formed_true both.1;
          product_most = leb-true (nonzero_product (shape_in s)) product_limit (shape_within s j.good);
          states_small = each_nil _;
          inputs_small = each_nil _;
        } in
        rw (both.0, formed_made formed, few_entries_lem (length (shape_in s)) n (naturals numbers)) (by (leb n 128))
      where
        by : (a : Bool) → if (a && true && true) (given (sparse_of (shape_in s) n numbers)) (refused 13) ≡ if a (given (sparse_of (shape_in s) n numbers)) (refused 13)
        by true = refl
        by false = refl

    -- they are too many
    pub sparse_too_large : (old : List ℤ) → 128 < n → EndsIn (in_form encode (sparse (shape_in s) n numbers)) old (Err MadeTooLarge) old
    unfolding number_of
    sparse_too_large old h = ends_refused MadeTooLarge old (sparse_made ∙ rw (lt-leb n 128 h))

    module _ (size : length numbers ≡ n * length (shape_in s)) (h : n ≤ 128) {rank : ℕ} (c : rank ≡ length (shape_in s)) where
      -- there is room for them
      pub sparse_room : {result : List ℤ} → result_size ≤ length result → PiecesFit 2 0 n (take (1 + rank - 1) (drop 1 s)) numbers no_deps result
      sparse_room l =
          let few = (extents s j c).few in
          let axes : length (shape_in s) ≤ 4 = omega arith in
          let most : n * length (shape_in s) ≤ 128 * 4 = mul-le-mul h axes in
          let lent : length (take (1 + rank - 1) (drop 1 s)) ≡ rank = rw (lent_extents s j c, length-map) (sym c) in
          record { kind_small = omega arith; dense_small = omega arith; count_small = omega arith; extents_few = omega arith; room = omega arith }

      -- its pieces
      sparse_pieces : pieces 2 0 (take (1 + rank - 1) (drop 1 s)) n numbers no_deps ≡ encode (sparse_of (shape_in s) n numbers)
      unfolding gather
      sparse_pieces =
          let l : List ℕ = naturals numbers in
          let w : ℕ = length (shape_in s) in
          let rows : entries_of w n l ≡ rows_of w n l = entries_rows w n l h in
          let all : take (n * w) l ≡ l = take_all (n * w) l (rw (length_naturals numbers) (omega arith)) in
          let count : length (entries_of w n l) ≡ n = ap length rows ∙ rows_length w n l in
          let listed : map pos (flat (entries_of w n l)) ≡ numbers = rw (rows, gather_rows w n l, all) (pos_naturals numbers both.0) in
          rw (lent_extents s j c) (sym (encode_pieces (sparse_of (shape_in s) n numbers) ∙ rw (count, listed)))

      pub sparse_written : {old new : List ℤ} {r : (Result ℕ Refusal)} → EndsIn (given (pieces 2 0 (take (1 + rank - 1) (drop 1 s)) n numbers no_deps)) old r new →
          EndsIn (in_form encode (sparse (shape_in s) n numbers)) old r new
      sparse_written x = rw (sparse_made, le-leb n 128 h) (ends_same x (ap given sparse_pieces))

pub ruleset sparses = (sparse_refused, sparse_too_large, sparse_room, sparse_written)
