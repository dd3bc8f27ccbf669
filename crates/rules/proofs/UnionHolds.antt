-- A union holds a position exactly if one of the two layouts does: for every kind and D. Assumes nothing.
use mathlib.Core.Path.{◌≡◌, refl, sym, ap, ◌∙◌}
use mathlib.Core.Bool.{Bool, true, false, ◌&&◌, ◌||◌}
use mathlib.Core.Logic.{◌⊎◌, inl, inr, ⊎_elim}
use mathlib.Core.List.{List}
use Prim.Native.Nat.{ℕ}
use native.Mathlib.Omega.{arith}
use borrow.Author.Tests.{eqb-true, eqb-false}
use lib.Dec.{eqb}
use lib.ListN.{take}
use Rattle.rules.specs.RowsInOrder.{merge, among}
use Rattle.rules.specs.Refusals.{given}
use Rattle.rules.specs.Layout.{Layout, width, is_dense, is_diagonal, with_deps}
use Rattle.rules.specs.Soundness.{WellFormed}
use Rattle.rules.specs.CountsAndForms.{to_dense}
use Rattle.rules.specs.Removal.{lists_row}
use Rattle.rules.specs.Holding.{is_position, holds}
use Rattle.rules.specs.Pairs.{alike_diagonals, lowered, lower_d, bars_expansion}
use Rattle.rules.specs.Union.{joined, union}
use Rattle.rules.proofs.Same.{both_true, neither, decided}
use Rattle.rules.proofs.Sets.{among_in, in_among}
use Rattle.rules.proofs.Merging.{merge_left, merge_right, merge_only}
use Rattle.rules.proofs.Tests.{true_either}
use Rattle.rules.proofs.Holding.{true_position, holds_position, holds_dense, holds_diagonal, holds_sparse}
use Rattle.rules.proofs.Made.{made_sound}
use Rattle.rules.proofs.Lowering.{Lowered, lowered_is}
use Rattle.rules.proofs.Unions.{United, of_dense, of_diagonals, of_rows, union_gives}

-- ---- tests

-- one of two holds: which
either_true : (a b : Bool) → a || b ≡ true → (a ≡ true) ⊎ (b ≡ true)
either_true true b e = inl refl
either_true false b e = inr e

-- the first of two holds
either_left : (a b : Bool) → a ≡ true → a || b ≡ true
either_left a b e = rw e

-- the second of two holds
either_right : (a b : Bool) → b ≡ true → a || b ≡ true
either_right a b e = true_either a b (λ _. e)

-- two tests that are one
either_same : {a b : Bool} → a ≡ b → a ≡ a || b
either_same {a = true} e = refl
either_same {a = false} e = e

-- a test beside either of two
both_either : (p a b : Bool) → p && (a || b) ≡ (p && a) || (p && b)
both_either true a b = refl
both_either false a b = refl

-- a row is among merged rows if it is among those of one of the two
among_merge : (r : List ℕ) (x y : List (List ℕ)) → among r (merge x y) ≡ among r x || among r y
among_merge r x y = decided (among r (merge x y)) (among r x || among r y) there back
  where
    there : among r (merge x y) ≡ true → among r x || among r y ≡ true
    there h =
        ⊎_elim (λ m. either_left (among r x) (among r y) (in_among m)) (λ m. either_right (among r x) (among r y) (in_among m))
        (merge_only x y (among_in r (merge x y) h))

    back : among r x || among r y ≡ true → among r (merge x y) ≡ true
    back h =
        ⊎_elim (λ e. in_among (merge_left y (among_in r x e))) (λ e. in_among (merge_right x (among_in r y e))) (either_true (among r x) (among r y) h)

-- ---- by what a union is made of

-- other dependencies change nothing in what is held
pub deps_hold : (states inputs : List (List ℕ)) (l : Layout) (index : List ℕ) → holds (with_deps states inputs l) index ≡ holds l index
unfolding holds
deps_hold states inputs l index = refl

-- rows of one shape and D, joined
joined_holds : (x y : Layout) → x.kind ≡ 2 → y.kind ≡ 2 → x.shape ≡ y.shape → x.dense ≡ y.dense →
    (index : List ℕ) → holds (joined x y) index ≡ holds x index || holds y index
joined_holds x y k j e f index =
    let front : List ℕ = take (width x) index in
    let second : holds y index ≡ is_position x.shape index && among front y.rows = holds_sparse y index j ∙ (rw (e, f)) in
    holds_sparse (joined x y) index refl
    ∙ (rw (among_merge front x.rows y.rows, both_either (is_position x.shape index) (among front x.rows) (among front y.rows), holds_sparse x index k, second))

module _ (a b : Layout) (e : a.shape ≡ b.shape) (index : List ℕ) where
  -- with a dense one every position is held
  dense_holds : is_dense a || is_dense b ≡ true → holds (to_dense a) index ≡ holds a index || holds b index
  unfolding to_dense
  dense_holds f = holds_dense (to_dense a) index refl ∙ decided (is_position a.shape index) (holds a index || holds b index) there back
    where
      there : is_position a.shape index ≡ true → holds a index || holds b index ≡ true
      there p =
          ⊎_elim (λ g. either_left (holds a index) (holds b index) (holds_dense a index (eqb-true a.kind 0 g) ∙ p))
          (λ g. either_right (holds a index) (holds b index) (holds_dense b index (eqb-true b.kind 0 g) ∙ (rw (← e) p)))
          (either_true (is_dense a) (is_dense b) f)

      back : holds a index || holds b index ≡ true → is_position a.shape index ≡ true
      back h =
          ⊎_elim (λ g. true_position (holds_position a index g)) (λ g. rw e (true_position (holds_position b index g)))
          (either_true (holds a index) (holds b index) h)

  -- two diagonals with equal D hold the same
  pub diagonals_hold : alike_diagonals a b ≡ true → holds a index ≡ holds b index
  diagonals_hold f =
      let h = both_true (is_diagonal a && is_diagonal b) (eqb a.dense b.dense) f in
      let k = both_true (is_diagonal a) (is_diagonal b) h.0 in
      let d : a.dense ≡ b.dense = eqb-true a.dense b.dense h.1 in
      holds_diagonal a index (eqb-true a.kind 1 k.0) ∙ (rw (e, d)) ∙ sym (holds_diagonal b index (eqb-true b.kind 1 k.1))

  module _ (p : WellFormed a) (q : WellFormed b) where
    -- of rows: each is lowered to the smaller D, and holds what it did
    rows_hold : is_dense a || is_dense b ≡ false → bars_expansion a || bars_expansion b ≡ false → lists_row a (lower_d a b) || lists_row b (lower_d a b) ≡ false →
        holds (joined (lowered a (lower_d a b)) (lowered b (lower_d a b))) index ≡ holds a index || holds b index
    rows_hold f g h =
        let d : ℕ = lower_d a b in
        let k = neither (is_dense a) (is_dense b) f in
        let bars = neither (bars_expansion a) (bars_expansion b) g in
        let lists = neither (lists_row a d) (lists_row b d) h in
        let x : Lowered a (lowered a d) d = lowered_is p (eqb-false a.kind 0 k.0) (omega arith) bars.0 lists.0 in
        let y : Lowered b (lowered b d) d = lowered_is q (eqb-false b.kind 0 k.1) (omega arith) bars.1 lists.1 in
        joined_holds (lowered a d) (lowered b d) x.kind_is y.kind_is (x.shape_is ∙ e ∙ sym y.shape_is) (x.dense_is ∙ sym y.dense_is) index
        ∙ (rw (x.holds_same index, y.holds_same index))

    united_holds : {l : Layout} → United a b l → holds l index ≡ holds a index || holds b index
    united_holds (of_dense f) = dense_holds f
    united_holds (of_diagonals f) = either_same (diagonals_hold f)
    united_holds (of_rows f g h) = rows_hold f g h

-- ---- the union

-- what a union of two well-formed layouts holds: what either does
pub union_holds : {a b l : Layout} → WellFormed a → WellFormed b → union a b ≡ given l → (index : List ℕ) → holds l index ≡ holds a index || holds b index
union_holds {a} {b} {l} p q u index =
    let g = union_gives a b u in
    ap (λ (x : Layout). holds x index) (sym (made_sound g.was_made).0) ∙ deps_hold (merge a.states b.states) (merge a.inputs b.inputs) g.whole index ∙ united_holds a b g.shapes index p q g.united
