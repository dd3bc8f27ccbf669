-- An intersection holds a position exactly if both layouts do: for every kind and D. Assumes nothing.
use mathlib.Core.Path.{◌≡◌, refl, sym, ◌∙◌}
use mathlib.Core.Bool.{Bool, true, false, ◌&&◌, ◌||◌}
use mathlib.Core.List.{List}
use Prim.Native.Nat.{ℕ}
use native.Mathlib.Omega.{arith}
use borrow.Author.Tests.{eqb-true, eqb-false}
use lib.ListN.{take}
use Rattle.rules.specs.Lists.{keep}
use Rattle.rules.specs.RowsInOrder.{sorted, among}
use Rattle.rules.specs.Refusals.{given}
use Rattle.rules.specs.Layout.{Layout, width, is_dense}
use Rattle.rules.specs.Soundness.{WellFormed, Sound}
use Rattle.rules.specs.CountsAndForms.{dense_if_full}
use Rattle.rules.specs.Removal.{lists_row}
use Rattle.rules.specs.Holding.{is_position, holds}
use Rattle.rules.specs.Pairs.{with_merged, alike_diagonals, lowered, lower_d, bars_expansion}
use Rattle.rules.specs.Intersect.{filtered_by, common, intersect}
use Rattle.rules.proofs.Same.{both_true, neither, decided}
use Rattle.rules.proofs.Sets.{among_in, in_among}
use Rattle.rules.proofs.Sorting.{sorted_has, sorted_only}
use Rattle.rules.proofs.Keeping.{keep_only, keep_passes, keep_has}
use Rattle.rules.proofs.Tests.{true_both}
use Rattle.rules.proofs.Holding.{true_position, holds_position, holds_dense, holds_sparse}
use Rattle.rules.proofs.Lowering.{Lowered, lowered_is}
use Rattle.rules.proofs.IntersectMade.{common_of, MadeOf, made_right, made_left, made_diagonals, made_rows, intersect_made}
use Rattle.rules.proofs.UnionHolds.{deps_hold, diagonals_hold}
use Rattle.rules.proofs.Full.{dense_if_full_holds}

-- ---- what is given

-- what an intersection is: the other where one is dense, the diagonal of two with equal D, or the common rows, dense if full
pub data Met (a b : Layout) : Layout → Type 0 where
  of_right : is_dense a ≡ true → Met a b (filtered_by a b b)
  of_left : is_dense b ≡ true → Met a b (filtered_by a b a)
  of_diagonals : alike_diagonals a b ≡ true → Met a b (with_merged a b a)
  of_rows : is_dense a || is_dense b ≡ false → bars_expansion a || bars_expansion b ≡ false → lists_row a (lower_d a b) || lists_row b (lower_d a b) ≡ false →
      Sound (common_of a b) → Met a b (dense_if_full (common_of a b))

-- the shapes are equal, it is such a layout, and it is sound
pub record Intersected (a b l : Layout) : Type 0 where
  pub shapes : a.shape ≡ b.shape
  pub met : Met a b l
  pub is_sound : Sound l

-- an answer of `intersect` is such
pub intersect_gives : (a b : Layout) {l : Layout} → intersect a b ≡ given l → Intersected a b l
intersect_gives a b g = let m = intersect_made a b g in record { shapes = m.shapes; met = met_of m.way; is_sound = m.is_sound }
  where
    met_of : {x : Layout} → MadeOf a b x → Met a b x
    met_of (made_right f bars) = of_right f
    met_of (made_left f bars) = of_left f
    met_of (made_diagonals f) = of_diagonals f
    met_of (made_rows m s) = of_rows m.plain m.expand m.bare s

-- an answer is sound
pub intersect_sound : (a b : Layout) {l : Layout} → intersect a b ≡ given l → Sound l
intersect_sound a b g = (intersect_gives a b g).is_sound

-- ---- tests

-- a test beside one that follows from it
both_left : (a b : Bool) → (a ≡ true → b ≡ true) → a ≡ a && b
both_left true b f = sym (f refl)
both_left false b f = refl

-- a test behind one that follows from it
both_right : (a b : Bool) → (b ≡ true → a ≡ true) → b ≡ a && b
both_right true b f = refl
both_right false true f = sym (f refl)
both_right false false f = refl

-- a test beside both of two
both_both : (p a b : Bool) → p && (a && b) ≡ (p && a) && (p && b)
both_both true a b = refl
both_both false a b = refl

-- a row is among the rows of one that are among those of the other, if it is among both
among_common : (r : List ℕ) (x y : List (List ℕ)) → among r (sorted (keep (λ q. among q y) x)) ≡ among r x && among r y
among_common r x y = decided (among r both) (among r x && among r y) there back
  where
    both : List (List ℕ)
    both = sorted (keep (λ q. among q y) x)

    there : among r both ≡ true → among r x && among r y ≡ true
    there e =
        let m = sorted_only (keep (λ q. among q y) x) (among_in r both e) in
        true_both (in_among (keep_only (λ q. among q y) x r m)) (keep_passes (λ q. among q y) x r m)

    back : among r x && among r y ≡ true → among r both ≡ true
    back e =
        let h = both_true (among r x) (among r y) e in
        in_among (sorted_has (keep_has (λ q. among q y) (among_in r x h.0) h.1))

-- ---- by what an intersection is made of

-- a dense layout holds what another of its shape does
dense_has : (a b : Layout) → is_dense a ≡ true → a.shape ≡ b.shape → (index : List ℕ) → holds b index ≡ true → holds a index ≡ true
dense_has a b f e index h = holds_dense a index (eqb-true a.kind 0 f) ∙ (rw e (true_position (holds_position b index h)))

-- the common rows of one shape and D
common_holds : (x y : Layout) → x.kind ≡ 2 → y.kind ≡ 2 → x.shape ≡ y.shape → x.dense ≡ y.dense →
    (index : List ℕ) → holds (common x y) index ≡ holds x index && holds y index
common_holds x y k j e f index =
    let front : List ℕ = take (width x) index in
    let second : holds y index ≡ is_position x.shape index && among front y.rows = holds_sparse y index j ∙ (rw (e, f)) in
    holds_sparse (common x y) index refl
    ∙ (rw (among_common front x.rows y.rows, both_both (is_position x.shape index) (among front x.rows) (among front y.rows), holds_sparse x index k, second))

module _ (a b : Layout) (e : a.shape ≡ b.shape) (index : List ℕ) where
  module _ (p : WellFormed a) (q : WellFormed b) where
    -- of rows: each is lowered to the smaller D, and holds what it did
    rows_hold : is_dense a || is_dense b ≡ false → bars_expansion a || bars_expansion b ≡ false → lists_row a (lower_d a b) || lists_row b (lower_d a b) ≡ false →
        holds (common_of a b) index ≡ holds a index && holds b index
    rows_hold f g h =
        let d : ℕ = lower_d a b in
        let k = neither (is_dense a) (is_dense b) f in
        let bars = neither (bars_expansion a) (bars_expansion b) g in
        let lists = neither (lists_row a d) (lists_row b d) h in
        let x : Lowered a (lowered a d) d = lowered_is p (eqb-false a.kind 0 k.0) (omega arith) bars.0 lists.0 in
        let y : Lowered b (lowered b d) d = lowered_is q (eqb-false b.kind 0 k.1) (omega arith) bars.1 lists.1 in
        deps_hold _ _ (common (lowered a d) (lowered b d)) index
        ∙ common_holds (lowered a d) (lowered b d) x.kind_is y.kind_is (x.shape_is ∙ e ∙ sym y.shape_is) (x.dense_is ∙ sym y.dense_is) index
        ∙ (rw (x.holds_same index, y.holds_same index))

    met_holds : {l : Layout} → Met a b l → holds l index ≡ holds a index && holds b index
    met_holds (of_right f) = deps_hold _ _ b index ∙ both_right (holds a index) (holds b index) (dense_has a b f e index)
    met_holds (of_left f) = deps_hold _ _ a index ∙ both_left (holds a index) (holds b index) (dense_has b a f (sym e) index)
    met_holds (of_diagonals f) = deps_hold _ _ a index ∙ both_left (holds a index) (holds b index) (λ t. sym (diagonals_hold a b e index f) ∙ t)
    met_holds (of_rows f g h s) =
        dense_if_full_holds (common_of a b) refl s.form.rows_distinct s.form.row_lengths s.form.rows_lie_below index ∙ rows_hold f g h

-- ---- the intersection

-- what an intersection of two well-formed layouts holds: what both do
pub intersect_holds : {a b l : Layout} → WellFormed a → WellFormed b → intersect a b ≡ given l → (index : List ℕ) → holds l index ≡ holds a index && holds b index
intersect_holds {a} {b} {l} p q u index = let g = intersect_gives a b u in met_holds a b g.shapes index p q g.met
