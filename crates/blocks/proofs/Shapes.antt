-- The extents to which blocks are joined. Assumes nothing.
use mathlib.Core.Path.{◌≡◌, refl, sym, ap, ◌∙◌}
use mathlib.Core.Bool.{Bool, true, false}
use mathlib.Core.List.{List, [], ◌∷◌, map}
use Prim.Native.Nat.{ℕ, zero, suc, ◌+◌, ◌-◌, ◌^◌, ◌<◌, ◌≤◌}
use native.Mathlib.Omega.{arith}
use borrow.Author.Tests.{ne_eqb, ltb-true, ltb-false}
use lib.Dec.{eqb, ltb}
use lib.IntN.{ℤ}
use lib.ListN.{get_or, drop, set, replicate}
use lib.Seq.{get_or-take}
use Rattle.rules.specs.Limits.{rank_limit}
use Rattle.rules.specs.Lists.{if, sum, larger, largest, from, below, fit_to}
use Rattle.rules.specs.Layout.{Layout}
use Rattle.rules.specs.Concatenate.{Block, layouts_of, shapes_of, first_extent, later_extent, later_axes, reach}
use Rattle.rules.proofs.Ranges.{map_agree}
use Rattle.rules.proofs.Largest.{larger_is}
use Rattle.cells.specs.View.{Low}
use Rattle.lists.specs.Records.{layouts_at}
use Rattle.lists.proofs.Entering.{Entered, entered_none, entered_more, Filled, filled_done}
use Rattle.blocks.specs.declared.deciding.Way.{Way}
use Rattle.blocks.specs.declared.deciding.Way.TheVariants.{Unjoinable, Dense, Diagonal, Rows}
use Rattle.blocks.specs.declared.measuring.Measure.TheVariants.{First, Extent, Reach}
use Rattle.blocks.specs.declared.measuring.Fold.TheVariants.{Sum, Largest}
use Rattle.blocks.specs.Blocks.{placed, blocks_by}
use Rattle.blocks.specs.Measured.{measure, folded, fold_limit}
use Rattle.blocks.specs.Joins.{shape_by, extent_by}
use Rattle.blocks.proofs.Placed.{layouts_placed, shapes_placed}

-- what g gives of what f gives
map_of : {A B C : Type 0} (g : B → C) (f : A → B) (l : List A) → map (λ x. g (f x)) l ≡ map g (map f l)
map_of g f [] = refl
map_of g f (x ∷ l) = ap (λ (m : List _). g (f x) ∷ m) (map_of g f l)

-- ---- one axis

-- the extents of an axis
extents_of_lem : (l : List Block) (axis : ℕ) → map (measure (Extent axis)) l ≡ map (λ shape. get_or shape axis 0) (shapes_of l)
extents_of_lem l axis = map_of (λ (shape : List ℕ). get_or shape axis 0) (λ (b : Block). b.layout.shape) l

pub no_extent : {way : Way} (l : List Block) (axis : ℕ) → way ≡ Unjoinable → 0 ≡ extent_by way l axis
no_extent l axis e = rw e

module _ {way : Way} (l : List Block) (axis : ℕ) {r : ℕ} where
  pub first_extent_lem : way ≡ Dense → axis ≡ 0 → r ≡ folded Sum (map (measure First) l) → r ≡ extent_by way l axis
  first_extent_lem e f g = g ∙ rw (e, f) (ap sum (map_of first_extent (λ b. b.layout) l))

  pub later_extent_lem : {m : ℕ} → way ≡ Dense → (axis ≡ 0 → ⊥) → m ≡ folded Largest (map (measure (Extent axis)) l) → r ≡ larger 1 m → r ≡ extent_by way l axis
  later_extent_lem e f g h = h ∙ rw (e, ne_eqb axis 0 f) (ap (λ (x : ℕ). larger 1 x) (g ∙ ap largest (extents_of_lem l axis)))

  pub diagonal_extent : way ≡ Diagonal → r ≡ folded Sum (map (measure (Extent axis)) l) → r ≡ extent_by way l axis
  diagonal_extent e g = g ∙ rw e (ap sum (extents_of_lem l axis))

  pub reached_extent : way ≡ Rows → r ≡ folded Largest (map (measure (Reach axis)) l) → r ≡ extent_by way l axis
  reached_extent e g = g ∙ rw e

pub later_low : {m r : ℕ} → m ≤ fold_limit → r ≡ larger 1 m → r ≤ fold_limit
later_low {m} h e = rw e ((larger_is 1 m).least fold_limit (omega arith) h)

pub ruleset extent_laws = (no_extent, first_extent_lem, later_extent_lem, diagonal_extent, reached_extent, later_low)

-- ---- all axes

-- zeros are no extents
no_extents : (r : ℕ) → r ≤ 4 → fit_to 4 0 (map (λ (axis : ℕ). 0) (below r)) ≡ fit_to 4 0 []
unfolding fit_to from
no_extents zero h = refl
no_extents (suc zero) h = refl
no_extents (suc (suc zero)) h = refl
no_extents (suc (suc (suc zero))) h = refl
no_extents (suc (suc (suc (suc zero)))) h = refl
no_extents (suc (suc (suc (suc (suc r))))) h = absurd (omega arith)

-- the first extents summed, and the later ones
dense_shape : (l : List Layout) (shapes : List (List ℕ)) (r : ℕ) →
    map (λ axis. if (eqb axis 0) (sum (map first_extent l)) (later_extent shapes axis)) (below r) ≡ if (eqb r 0) [] (sum (map first_extent l) ∷ map (later_extent shapes) (later_axes r))
unfolding from
dense_shape l shapes zero = refl
dense_shape l shapes (suc r) =
    let same : suc r - 1 ≡ r = omega arith in
    rw (ne_eqb (suc r) 0 (λ e. omega arith), same)
    (ap (λ (m : List ℕ). sum (map first_extent l) ∷ m)
    (map_agree (λ axis. if (eqb axis 0) (sum (map first_extent l)) (later_extent shapes axis)) (later_extent shapes) 1 r (λ axis u v. rw (ne_eqb axis 0 (λ e. omega arith)))))

module _ (r : ℕ) (h : r ≤ 4) where
  -- blocks reach as far by the numbers of their starts that count
  reach_by : (starts : List (List ℕ)) (l : List Layout) (axis : ℕ) → axis < r → reach (placed 4 starts l) axis ≡ reach (placed r starts l) axis
  unfolding placed largest
  reach_by starts [] axis k = refl
  reach_by starts (x ∷ l) axis k =
      rw (get_or-take 4 (get_or starts 0 []) axis 0 (omega arith), get_or-take r (get_or starts 0 []) axis 0 k, reach_by (drop 1 starts) l axis k)

  -- the extents are those of the shape
  extents_are : (way : Way) (starts : List (List ℕ)) (l : List Layout) →
      fit_to 4 0 (map (extent_by way (placed 4 starts l)) (below r)) ≡ fit_to 4 0 (shape_by way r (placed r starts l))
  extents_are Unjoinable starts l = no_extents r h
  extents_are Dense starts l =
      ap (fit_to 4 0)
      (dense_shape (layouts_of (placed 4 starts l)) (shapes_of (placed 4 starts l)) r
      ∙ ap (λ (m : List Layout). if (eqb r 0) [] (sum (map first_extent m) ∷ map (later_extent (shapes_of (placed 4 starts l))) (later_axes r)))
      (layouts_placed 4 starts l ∙ sym (layouts_placed r starts l))
      ∙ ap (λ (shapes : List (List ℕ)). if (eqb r 0) [] (sum (map first_extent (layouts_of (placed r starts l))) ∷ map (later_extent shapes) (later_axes r)))
      (shapes_placed 4 starts l ∙ sym (shapes_placed r starts l)))
  extents_are Diagonal starts l =
      ap (λ (shapes : List (List ℕ)). fit_to 4 0 (map (λ axis. sum (map (λ shape. get_or shape axis 0) shapes)) (below r)))
      (shapes_placed 4 starts l ∙ sym (shapes_placed r starts l))
  extents_are Rows starts l = ap (fit_to 4 0) (map_agree (reach (placed 4 starts l)) (reach (placed r starts l)) 0 r (λ axis u v. reach_by starts l axis (omega arith)))

-- the first k of rank extents are there, and none is too large
pub record ExtentsTo (way : Way) (rank n : ℕ) (records : List ℕ) (starts : List (List ℕ)) (s : List ℤ) (k : ℕ) (out : List ℕ) : Type 0 where
  pub upto : k ≤ rank
  pub room : rank ≤ 4
  pub entered : Entered (λ j v. (v ≡ extent_by way (blocks_by rank_limit n records starts s) j) × (v ≤ fold_limit)) 4 0 k out

module _ {way : Way} {rank n : ℕ} {records : List ℕ} {starts : List (List ℕ)} {s : List ℤ} where
  pub extents_start : rank ≤ 4 → ExtentsTo way rank n records starts s 0 (replicate 4 0)
  extents_start h = record { upto = omega arith; room = h; entered = entered_none }

  module _ {k : ℕ} {out : List ℕ} (p : ExtentsTo way rank n records starts s k out) where
    pub extents_turn : {v : ℕ} → k < rank → v ≡ extent_by way (blocks_by rank_limit n records starts s) k → v ≤ fold_limit →
        ExtentsTo way rank n records starts s (k + 1) (set out k v)
    extents_turn h e l = record { upto = omega arith; room = p.room; entered = entered_more p.entered (omega (arith, p.room)) (e, l) }

    pub extents_done : rank ≤ k → out ≡ fit_to rank_limit 0 (shape_by way rank (blocks_by rank n records starts s))
    extents_done h =
        let filled : Filled (extent_by way (blocks_by rank_limit n records starts s)) rank k out =
        record { upto = p.upto; room = p.room; entered = record { size = p.entered.size; done = λ j l. (p.entered.done j l).0; rest = p.entered.rest } } in
        filled_done filled h ∙ extents_are rank p.room way starts (layouts_at n records s)

    pub extents_low : Low out
    extents_low j = by (ltb j k) refl
      where
        by : (t : Bool) → ltb j k ≡ t → get_or out j 0 < 2 ^ 31
        by true e = omega (arith, (p.entered.done j (ltb-true j k e)).1)
        by false e = omega (arith, p.entered.rest j (ltb-false j k e))

pub ruleset extents_laws = (extents_start, extents_turn, extents_done, extents_low)
