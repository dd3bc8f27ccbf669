-- `dense`, `new_empty` and `diagonal`: records made of a shape. Assumes nothing.
use Rattle.std.specs.Prelude.{Err, None, Option, Result, Some}
use Rattle.rules.specs.declared.Entries.{Entries}
use mathlib.Core.Path.{◌≡◌, refl, sym, ap, ◌∙◌}
use mathlib.Core.Bool.{Bool, true, false, not}
use mathlib.Core.List.{List, [], ◌∷◌, map}
use Prim.Native.Nat.{ℕ, zero, suc, ◌+◌, ◌-◌, ◌≤◌}
use native.Mathlib.Nat.{mul-one}
use native.Mathlib.Omega.{arith}
use borrow.Author.Tests.{leb-true, not-true, not-false}
use lib.IntN.{ℤ, pos}
use lib.ListN.{length, get_or, take, drop, replicate, length-replicate, length-map}
use lib.Seq.{take-length}
use lib.Signed.{non_neg}
use Rattle.rules.specs.declared.Refusal.{Refusal}
use Rattle.rules.specs.declared.Refusal.TheVariants.{MadeUnsound}
use Rattle.rules.specs.Limits.{product_limit, result_size}
use Rattle.rules.specs.Lists.{all, gather}
use Rattle.rules.specs.Buffers.{part}
use Rattle.rules.specs.RowsInOrder.{sorted}
use Rattle.rules.specs.Layout.{Layout, encode, alike, within_product, nonzero_product}
use Rattle.rules.specs.Record.{natural, naturals, section_at, shape_in, good_extents, good_shape}
use Rattle.rules.specs.Refusals.{Verdict, given, refused, in_form, number_of}
use Rattle.rules.specs.Endings.{EndsIn, result_after}
use Rattle.rules.specs.CountsAndForms.{dense, new_empty, diagonal}
use Rattle.rules.proofs.Made.{Formed, formed_made}
use Rattle.rules.proofs.RowsRead.{pos_naturals}
use Rattle.rules.proofs.Same.{both_true, true_not_false}
use Rattle.rules.proofs.Sets.{each_nil}
use Rattle.rules.proofs.Forming.{unformed_made, no_deps_fit}
use Rattle.cells.specs.View.{view}
use Rattle.cells.proofs.View.{view_part, view_pos}
use Rattle.tables.proofs.Rows.{lent_row}
use Rattle.records.proofs.Sections.{section_laid}
use Rattle.shapes.specs.Judged.{Judged}
use Rattle.shapes.proofs.Judging.{rank_counted, rank_small, shape_within}
use Rattle.forms.specs.Pieces.{pieces, PiecesFit, no_deps, diagonal_of}
use Rattle.forms.proofs.Pieces.{encode_pieces, ends_same}

-- ---- the extents of a shape

-- the extents of a judged shape lie behind their count, and none is negative
pub record Extents (s : List ℤ) (rank : ℕ) : Type 0 where
  pub few : rank ≤ 4
  pub room : 1 + rank ≤ length s
  pub are : part 1 rank s ≡ map pos (shape_in s)

pub extents : (s : List ℤ) {rank : ℕ} → Judged s → rank ≡ length (shape_in s) → Extents s rank
unfolding good_shape natural shape_in
extents s {rank} j e = by (section_at 0 1 s) refl j.good
  where
    counted : rank ≡ natural (get_or s 0 (pos 0))
    counted = e ∙ rank_counted s j

    by : (g : Option Entries) → section_at 0 1 s ≡ g → good_extents g s ≡ true → Extents s rank
    by (Some x) q f =
        let l = section_laid 0 1 s q in
        let count : rank ≡ x.count = counted ∙ rw l.count in
        let natural : all non_neg (part 1 x.count s) ≡ true = (both_true (all non_neg (part 1 x.count s)) (within_product (shape_in s)) f).0 in
        record {
          few = rank_small s j counted;
          room = omega (arith, l.first, l.next, l.room, mul-one x.count);
          are = sym (pos_naturals (part 1 rank s) (rw count natural)) ∙ ap (λ (n : ℕ). map pos (naturals (part 1 n s))) counted;
        }
    by None q f = absurd (true_not_false f refl)

module _ (s : List ℤ) {rank : ℕ} (j : Judged s) (e : rank ≡ length (shape_in s)) where
  -- they are lent as a part of the slice
  pub extents_end : 1 + rank ≤ length s
  extents_end = (extents s j e).room

  pub lent_extents : take (1 + rank - 1) (drop 1 s) ≡ map pos (shape_in s)
  lent_extents = lent_row 1 rank s ∙ (extents s j e).are

  lent_length : length (take (1 + rank - 1) (drop 1 s)) ≡ rank
  lent_length = rw (lent_extents, length-map) (sym e)

  -- there is room for them
  pub shape_room : {kind dense : ℕ} {result : List ℤ} → kind ≤ 4 → dense ≤ 4 → result_size ≤ length result → PiecesFit kind dense 0 (take (1 + rank - 1) (drop 1 s)) [] no_deps result
  shape_room k d h =
      let x = extents s j e in
      let n = lent_length in
      record { kind_small = omega arith; dense_small = omega arith; count_small = omega arith; extents_few = omega arith; room = omega arith }

  -- and a rank that is no larger
  pub rank_few : rank ≤ 4
  rank_few = (extents s j e).few

  -- the view of them
  seen_extents : part 1 rank (view s) ≡ shape_in s
  seen_extents = sym (view_part 1 rank s) ∙ ap view (extents s j e).are ∙ view_pos (shape_in s)

-- ---- a record without rows and dependencies

-- its pieces
bare_pieces : (k d : ℕ) (shape : List ℕ) → pieces k d (map pos shape) 0 [] no_deps ≡ encode (record { kind = k; dense = d; shape = shape; rows = []; states = []; inputs = [] })
unfolding gather
bare_pieces k d shape = sym (encode_pieces (record { kind = k; dense = d; shape = shape; rows = []; states = []; inputs = [] }))

-- dense
pub dense_written : (s : List ℤ) {rank : ℕ} {old new : List ℤ} {r : (Result ℕ Refusal)} → Judged s → rank ≡ length (shape_in s) →
    EndsIn (given (pieces 0 rank (take (1 + rank - 1) (drop 1 s)) 0 [] no_deps)) old r new → EndsIn (given (encode (dense (shape_in s)))) old r new
unfolding dense
dense_written s j e t = ends_same t (ap given (rw (lent_extents s j e, e) (bare_pieces 0 (length (shape_in s)) (shape_in s))))

-- empty
some_zeros : (rank : ℕ) → rank ≤ 4 → take rank (pos 0 ∷ pos 0 ∷ pos 0 ∷ pos 0 ∷ []) ≡ map pos (replicate rank 0)
some_zeros zero h = refl
some_zeros (suc zero) h = refl
some_zeros (suc (suc zero)) h = refl
some_zeros (suc (suc (suc zero))) h = refl
some_zeros (suc (suc (suc (suc zero)))) h = refl
some_zeros (suc (suc (suc (suc (suc n))))) h = absurd (omega arith)

module _ (rank : ℕ) (h : rank ≤ 4) where
  zeros_length : length (take rank (pos 0 ∷ pos 0 ∷ pos 0 ∷ pos 0 ∷ [])) ≡ rank
  zeros_length = rw (some_zeros rank h, length-map, length-replicate)

  pub zeros_lent : rank ≡ length (take rank (pos 0 ∷ pos 0 ∷ pos 0 ∷ pos 0 ∷ []))
  zeros_lent = sym zeros_length

  pub zeros_room : {result : List ℤ} → result_size ≤ length result → PiecesFit 0 rank 0 (take rank (pos 0 ∷ pos 0 ∷ pos 0 ∷ pos 0 ∷ [])) [] no_deps result
  zeros_room l =
      let n = zeros_length in
      record { kind_small = omega arith; dense_small = omega arith; count_small = omega arith; extents_few = omega arith; room = omega arith }

  pub empty_written : {old new : List ℤ} {r : (Result ℕ Refusal)} →
      EndsIn (given (pieces 0 rank (take rank (pos 0 ∷ pos 0 ∷ pos 0 ∷ pos 0 ∷ [])) 0 [] no_deps)) old r new → EndsIn (given (encode (new_empty rank))) old r new
  unfolding dense
  empty_written t =
      let size : length {A = ℕ} (replicate rank 0) ≡ rank = length-replicate rank 0 in
      ends_same t (ap given (rw (some_zeros rank h, size) (bare_pieces 0 rank (replicate rank 0))))

-- ---- diagonal

-- a refusal leaves the result
pub ends_refused : {v : Verdict Layout} (why : Refusal) (old : List ℤ) → v ≡ refused (number_of why) → EndsIn (in_form encode v) old (Err why) old
unfolding result_after
ends_refused why old e = rw e (record { answer = refl; result_is = refl })

module _ (s : List ℤ) {rank : ℕ} (j : Judged s) (e : rank ≡ length (shape_in s)) where
  -- without axes there is none
  pub diagonal_none : (old : List ℤ) → rank ≡ 0 → EndsIn (in_form encode (diagonal (shape_in s))) old (Err MadeUnsound) old
  unfolding diagonal number_of
  diagonal_none old z = ends_refused MadeUnsound old (unformed_made {l = diagonal_of (shape_in s)} (λ w. let wide = w.diagonal_wide refl in omega arith))

  module _ {t : Bool} (f : t ≡ alike (part 1 rank (view s))) where
    same : alike (take (length (shape_in s) - 0) (shape_in s)) ≡ t
    same = let all : length (shape_in s) - 0 ≡ length (shape_in s) = omega arith in rw (all, take-length) (sym (f ∙ ap alike (seen_extents s j e)))

    -- of extents that differ there is none
    pub diagonal_unlike : (old : List ℤ) → not t ≡ true → EndsIn (in_form encode (diagonal (shape_in s))) old (Err MadeUnsound) old
    unfolding diagonal number_of
    diagonal_unlike old g =
        ends_refused MadeUnsound old (unformed_made {l = diagonal_of (shape_in s)} (λ w. true_not_false (w.diagonal_alike refl) (same ∙ not-true t g)))

    -- of others there is one
    diagonal_formed : (rank ≡ 0 → ⊥) → not t ≡ false → Formed (diagonal_of (shape_in s))
    unfolding within_product
    diagonal_formed n g =
        let few = (extents s j e).few in
        record {
          form = record {
            kind_most = omega arith;
            dense_most = omega arith;
            rank_most = omega arith;
            sparse_rows = λ x. refl;
            rows_distinct = unfold sorted in refl;
            row_lengths = each_nil _;
            rows_lie_below = each_nil _;
            dense_all = λ x. omega arith;
            diagonal_wide = λ x. omega arith;
            diagonal_alike = λ x. same ∙ not-false t g;
            states_fit = no_deps_fit (diagonal_of (shape_in s));
            inputs_fit = no_deps_fit (diagonal_of (shape_in s));
          };
          product_most = leb-true (nonzero_product (shape_in s)) product_limit (shape_within s j.good);
          states_small = each_nil _;
          inputs_small = each_nil _;
        }

    pub diagonal_written : {old new : List ℤ} {r : (Result ℕ Refusal)} → (rank ≡ 0 → ⊥) → not t ≡ false →
        EndsIn (given (pieces 1 0 (take (1 + rank - 1) (drop 1 s)) 0 [] no_deps)) old r new → EndsIn (in_form encode (diagonal (shape_in s))) old r new
    unfolding diagonal
    diagonal_written n g w =
        rw (formed_made (diagonal_formed n g)) (ends_same w (ap given (rw (lent_extents s j e) (bare_pieces 1 0 (shape_in s)))))

pub ruleset shapes = (extents_end, shape_room, rank_few)

pub ruleset empties = (zeros_lent, zeros_room, empty_written)

pub ruleset diagonals = (shapes, diagonal_none, diagonal_unlike, diagonal_written)
