-- The way in which blocks are joined. Assumes nothing.
use mathlib.Core.Path.{◌≡◌, refl, sym, ap, ◌∙◌}
use mathlib.Core.Bool.{Bool, true, false, not, ◌&&◌, ◌||◌}
use mathlib.Core.List.{List, [], ◌∷◌, map, Memᴰ}
use Prim.Native.Nat.{ℕ, zero, suc, ◌+◌, ◌-◌, ◌<◌, ◌≤◌}
use native.Mathlib.Numerals.{add-one}
use native.Mathlib.Omega.{arith}
use borrow.Author.Tests.{eq-eqb, ne_eqb, eqb-true, lt-ltb, not-true, not-false}
use lib.Dec.{eqb, ltb}
use lib.IntN.{ℤ}
use lib.ListN.{length, get_or, take, drop, length-drop}
use lib.Seq.{get_or-drop, ext_get_or}
use Rattle.rules.specs.Limits.{rank_limit}
use Rattle.rules.specs.Lists.{all, any, keep, from, same, fit_to}
use Rattle.rules.specs.Layout.{Layout, rank, is_dense}
use Rattle.rules.specs.Record.{layout_in}
use Rattle.rules.specs.Concatenate.{Block, shapes_of, start_at, later_extent, later_agree, first_d, last_agree, agree}
use Rattle.rules.proofs.Same.{decided, same_true, same_refl}
use Rattle.rules.proofs.Tests.{all_each, each_all}
use Rattle.rules.proofs.Ranges.{from_only, from_has}
use Rattle.lists.specs.Places.{EachAt}
use Rattle.lists.specs.Records.{layouts_at}
use Rattle.lists.proofs.Asking.{any_all, all_of}
use Rattle.lists.proofs.Beginning.{place_inside, place_fits}
use Rattle.blocks.specs.declared.deciding.Way.{Way}
use Rattle.blocks.specs.declared.deciding.Way.TheVariants.{Unjoinable, Dense, Diagonal, Rows}
use Rattle.blocks.specs.declared.deciding.Join.{Join}
use Rattle.blocks.specs.declared.running.Line.TheVariants.{First, Diagonal as OnDiagonal}
use Rattle.blocks.specs.declared.asking.Ask.TheVariants.{Within, OfRank, Dense as AllDense, Sparse, Diagonal as AllDiagonal, DenseAxes, Stretches, Extent}
use Rattle.blocks.specs.Blocks.{SoundAt, placed, blocks_by}
use Rattle.blocks.specs.Asked.{asked, otherwise}
use Rattle.blocks.specs.Lines.{place_on}
use Rattle.blocks.specs.Joins.{rows_way, way_other, way_of, agree_on, dense_by, shape_by, extent_by, join_of}
use Rattle.blocks.proofs.Asks.{length_layouts, layout_at_lem, sound_at}
use Rattle.blocks.proofs.Placed.{layouts_placed, shapes_placed}

-- ---- axes put to a test, from a on

-- those below k have passed
pub record AxesTo (test : ℕ → Bool) (a r k : ℕ) : Type 0 where
  pub past : a ≤ k
  pub eq : all test (from a (r - a)) ≡ all test (from k (r - k))

module _ {test : ℕ → Bool} {a r : ℕ} where
  pub axes_start : AxesTo test a r a
  axes_start = record { past = omega arith; eq = refl }

  module _ {k : ℕ} (p : AxesTo test a r k) where
    module _ {b : Bool} (h : k < r) (e : b ≡ test k) where
      -- the next axis decides, and those behind it
      next : all test (from a (r - a)) ≡ b && all test (from (suc k) (r - suc k))
      unfolding all from
      next = let left : r - k ≡ suc (r - suc k) = omega arith in p.eq ∙ rw (left, e)

      pub axes_turn : b ≡ true → AxesTo test a r (k + 1)
      axes_turn f = record { past = omega (arith, p.past); eq = rw add-one (next ∙ rw f) }

      pub axes_stop : b ≡ false → false ≡ all test (from a (r - a))
      axes_stop f = sym (next ∙ rw f)

    pub axes_done : r ≤ k → true ≡ all test (from a (r - a))
    unfolding all from
    axes_done h = let left : r - k ≡ 0 = omega arith in sym (p.eq ∙ rw left)

-- ---- later extents

-- whether an axis after the first agrees
abbrev pub later_test : List Layout → ℕ → Bool
later_test l axis = all (λ x. eqb (get_or x.shape axis 1) 1 || eqb (get_or x.shape axis 1) (later_extent (map (λ y. y.shape) l) axis)) l

module _ (rank n : ℕ) (records : List ℕ) (starts : List (List ℕ)) (s : List ℤ) where
  -- an axis agrees if each layout stretches to the extent to which dense blocks are joined
  pub later_is : {r axis common : ℕ} {b : Bool} → AxesTo (later_test (layouts_at n records s)) 1 r axis →
      common ≡ extent_by Dense (blocks_by rank_limit n records starts s) axis →
      b ≡ all (asked (Stretches axis common)) (layouts_at n records s) → b ≡ later_test (layouts_at n records s) axis
  later_is {axis = axis} {common} p e f =
      let is : common ≡ later_extent (map (λ y. y.shape) (layouts_at n records s)) axis =
      rw (ne_eqb axis 0 (λ z. omega (arith, p.past)), shapes_placed 4 starts (layouts_at n records s)) at e in
      f ∙ rw is

  pub laters_are : {b : Bool} → b ≡ all (later_test (layouts_at n records s)) (from 1 (rank - 1)) → b ≡ later_agree rank (shapes_of (blocks_by rank n records starts s))
  unfolding all
  laters_are f = f ∙ rw (shapes_placed rank starts (layouts_at n records s)) (each (from 1 (rank - 1)))
    where
      l : List Layout
      l = layouts_at n records s

      each : (axes : List ℕ) → all (later_test l) axes ≡ all (λ axis. all (λ shape. eqb (get_or shape axis 1) 1 || eqb (get_or shape axis 1) (later_extent (map (λ y. y.shape) l) axis)) (map (λ y. y.shape) l)) axes
      each [] = refl
      each (axis ∷ axes) =
          rw (all_of (λ (shape : List ℕ). eqb (get_or shape axis 1) 1 || eqb (get_or shape axis 1) (later_extent (map (λ y. y.shape) l) axis)) (λ (y : Layout). y.shape) l)
          (ap (λ (t : Bool). later_test l axis && t) (each axes))

pub ruleset later_laws = (axes_start, axes_turn, axes_stop, axes_done, later_is, laters_are, not-true, not-false)

-- ---- last extents

-- whether an axis has the same extent in each layout as in the first
abbrev pub last_test : List Layout → ℕ → Bool
last_test l axis = all (asked (Extent axis (get_or (get_or l 0 (layout_in [])).shape axis 0))) l

-- the last extents of layouts of one rank do not differ if those of each axis do not
lasts : (r kept : ℕ) (l : List Layout) → 0 < length l → all (asked (OfRank r)) l ≡ true → all (last_test l) (from kept (r - kept)) ≡ last_agree kept (map (λ x. x.shape) l)
unfolding last_agree
lasts r kept [] h e = absurd (omega arith)
lasts r kept (x ∷ l) h e = decided (all (last_test (x ∷ l)) (from kept (r - kept))) (last_agree kept (x.shape ∷ map (λ y. y.shape) l)) there back
  where
    long : (y : Layout) → Memᴰ y (x ∷ l) → rank y ≡ r
    long y m = eqb-true (rank y) r (all_each (asked (OfRank r)) e y m)

    -- two layouts whose extents are the same on every axis from kept on
    ends : (y : Layout) → rank y ≡ r → ((axis : ℕ) → kept ≤ axis → axis < r → get_or y.shape axis 0 ≡ get_or x.shape axis 0) → drop kept x.shape ≡ drop kept y.shape
    ends y f g =
        let first : rank x ≡ r = long x (Memᴰ.head refl) in
        let size : length (drop kept x.shape) ≡ length (drop kept y.shape) = rw (length-drop kept x.shape, length-drop kept y.shape, first, f) in
        ext_get_or 0 (drop kept x.shape) (drop kept y.shape) size
        (λ k i. let inside : k < r - kept = rw (length-drop, first) at i in
        get_or-drop kept x.shape k 0 ∙ sym (get_or-drop kept y.shape k 0 ∙ g (kept + k) (omega arith) (omega arith)))

    there : all (last_test (x ∷ l)) (from kept (r - kept)) ≡ true → last_agree kept (x.shape ∷ map (λ y. y.shape) l) ≡ true
    there f = rw (all_of (λ (other : List ℕ). same (drop kept x.shape) (drop kept other)) (λ (y : Layout). y.shape) l)
        (each_all (λ (y : Layout). same (drop kept x.shape) (drop kept y.shape)) l (λ y m.
        rw (← ends y (long y (Memᴰ.tail m)) (λ axis u v.
        eqb-true (get_or y.shape axis 0) (get_or x.shape axis 0)
        (all_each (asked (Extent axis (get_or x.shape axis 0))) (all_each (last_test (x ∷ l)) f axis (from_has kept (r - kept) u (omega arith))) y (Memᴰ.tail m))))
        (same_refl (drop kept x.shape))))

    back : last_agree kept (x.shape ∷ map (λ y. y.shape) l) ≡ true → all (last_test (x ∷ l)) (from kept (r - kept)) ≡ true
    back f = each_all (last_test (x ∷ l)) (from kept (r - kept)) (λ axis m. each_all (asked (Extent axis (get_or x.shape axis 0))) (x ∷ l) (one axis (from_only kept (r - kept) m).0))
      where
        tails : all (λ (y : Layout). same (drop kept x.shape) (drop kept y.shape)) l ≡ true
        tails = rw (all_of (λ (other : List ℕ). same (drop kept x.shape) (drop kept other)) (λ (y : Layout). y.shape) l) at f

        alike : (y : Layout) (axis : ℕ) → kept ≤ axis → drop kept x.shape ≡ drop kept y.shape → eqb (get_or y.shape axis 0) (get_or x.shape axis 0) ≡ true
        alike y axis u g =
            let at : kept + (axis - kept) ≡ axis = omega arith in
            eq-eqb (get_or y.shape axis 0) (get_or x.shape axis 0)
            (rw at at (sym (get_or-drop kept y.shape (axis - kept) 0) ∙ sym (ap (λ (t : List ℕ). get_or t (axis - kept) 0) g) ∙ get_or-drop kept x.shape (axis - kept) 0))

        one : (axis : ℕ) → kept ≤ axis → (y : Layout) → Memᴰ y (x ∷ l) → asked (Extent axis (get_or x.shape axis 0)) y ≡ true
        one axis u y (Memᴰ.head d) = rw d (eq-eqb (get_or x.shape axis 0) (get_or x.shape axis 0) refl)
        one axis u y (Memᴰ.tail m) = alike y axis u (same_true (all_each (λ (z : Layout). same (drop kept x.shape) (drop kept z.shape)) tails y m))

module _ (n : ℕ) (records : List ℕ) (s : List ℤ) where
  -- an axis is asked of each layout with the extent of the first
  pub last_is : (axis : ℕ) {e : ℕ} {b : Bool} → EachAt SoundAt n records s → 0 < n →
      e ≡ get_or (layout_in (take (length s - get_or records 0 0) (drop (get_or records 0 0) s))).shape axis 0 →
      b ≡ all (asked (Extent axis e)) (layouts_at n records s) → b ≡ last_test (layouts_at n records s) axis
  last_is axis p h f g = g ∙ rw (f, layout_at_lem p.inside h)

  pub lasts_are : (r d : ℕ) {b : Bool} → EachAt SoundAt n records s → 0 < n → all (asked (OfRank r)) (layouts_at n records s) ≡ true →
      b ≡ all (last_test (layouts_at n records s)) (from (r - d) (r - (r - d))) → b ≡ last_agree (r - d) (map (λ x. x.shape) (layouts_at n records s))
  lasts_are r d p h f e = e ∙ lasts r (r - d) (layouts_at n records s) (rw (length_layouts p.inside) h) f

pub ruleset last_laws = (axes_start, axes_turn, axes_stop, axes_done, last_is, lasts_are, not-true, not-false, place_inside, place_fits, sound_at)

-- ---- layouts agree

-- those not dense have one D if each layout is dense or has it
pub dense_axes : (d : ℕ) (l : List Layout) → all (asked (DenseAxes d)) l ≡ all (λ x. eqb x.dense d) (keep otherwise l)
unfolding all keep
dense_axes d [] = refl
dense_axes d (x ∷ l) = by (is_dense x) refl (dense_axes d l)
  where
    by : (t : Bool) → is_dense x ≡ t → all (asked (DenseAxes d)) l ≡ all (λ y. eqb y.dense d) (keep otherwise l) →
        all (asked (DenseAxes d)) (x ∷ l) ≡ all (λ y. eqb y.dense d) (keep otherwise (x ∷ l))
    by true e f = rw e f
    by false e f = rw e (ap (λ (t : Bool). eqb x.dense d && t) f)

module _ (d r : ℕ) (l : List Layout) {a : Bool} (e : a ≡ all (asked (DenseAxes d)) l) where
  pub no_one_d : not a ≡ true → false ≡ agree_on d r l
  unfolding agree_on
  no_one_d f = rw (← dense_axes d l, ← e, not-true a f)

  module _ (f : not a ≡ false) {b : Bool} (g : b ≡ all (asked (OfRank r)) l) where
    pub no_one_rank : not b ≡ true → false ≡ agree_on d r l
    unfolding agree_on
    no_one_rank h = rw (← dense_axes d l, ← e, not-false a f, ← g, not-true b h)

    pub agrees : {c : Bool} → not b ≡ false → c ≡ last_agree (r - d) (map (λ x. x.shape) l) → c ≡ agree_on d r l
    unfolding agree_on
    agrees h i = rw (← dense_axes d l, ← e, not-false a f, ← g, not-false b h) i

pub ruleset agree_laws = (no_one_d, no_one_rank, agrees)

-- ---- two tests

module _ {a x : Bool} (y : Bool) (e : a ≡ x) where
  pub not_both : not a ≡ true → false ≡ x && y
  not_both f = rw (← e, not-true a f)

  pub both : {b : Bool} → not a ≡ false → b ≡ y → b ≡ x && y
  both f g = rw (← e, not-false a f) g

pub ruleset both_laws = (not_both, both)

-- ---- by rows

module _ (d : ℕ) (l : List Layout) where
  pub rows_bare : d ≡ 0 → Rows ≡ rows_way d l
  rows_bare e = rw e

  module _ {b : Bool} (f : d ≡ 0 → ⊥) (g : b ≡ all (asked Sparse) l) where
    above : ltb 0 d ≡ true
    above = by d f
      where
        by : (k : ℕ) → (k ≡ 0 → ⊥) → ltb 0 k ≡ true
        by zero n = absurd (n refl)
        by (suc k) n = lt-ltb 0 (suc k) (omega arith)

    pub rows_sparse : b ≡ true → Rows ≡ rows_way d l
    rows_sparse h = rw (above, ← g, h)

    pub rows_none : b ≡ false → Unjoinable ≡ rows_way d l
    rows_none h = rw (above, ← g, h)

pub ruleset rows_laws = (rows_bare, rows_sparse, rows_none)

-- ---- otherwise

module _ (r : ℕ) (starts : List (List ℕ)) (l : List Layout) {d : ℕ} {a : Bool} (e : d ≡ first_d (keep otherwise l)) (f : a ≡ agree_on d r l) where
  -- what blocks agree on, their layouts do
  agree_is : agree r (placed r starts l) ≡ a
  unfolding agree agree_on
  agree_is = rw (layouts_placed r starts l, shapes_placed r starts l, ← e) (sym f)

  pub other_none : not a ≡ true → Unjoinable ≡ way_other r (placed r starts l)
  unfolding way_other
  other_none g = rw (agree_is, not-true a g)

  module _ (g : not a ≡ false) {b : Bool} (h : b ≡ all (asked AllDiagonal) l && start_at (place_on OnDiagonal r) 0 (placed r starts l)) where
    pub other_diagonal : b ≡ true → Diagonal ≡ way_other r (placed r starts l)
    unfolding way_other
    other_diagonal i = rw (agree_is, not-false a g, layouts_placed r starts l, ← h, i)

    pub other_rows : b ≡ false → {w : Way} → w ≡ rows_way d l → w ≡ way_other r (placed r starts l)
    unfolding way_other
    other_rows i k = rw (agree_is, not-false a g, layouts_placed r starts l, ← h, i, ← e) k

pub ruleset other_laws = (other_none, other_diagonal, other_rows)

-- ---- the way

module _ (r : ℕ) (starts : List (List ℕ)) (l : List Layout) {a : Bool} (e : a ≡ all (asked (Within r)) l) where
  -- a block is above the asked rank
  above_is : any (λ x. ltb r (rank x)) l ≡ not a
  above_is = any_all (λ x. ltb r (rank x)) l ∙ ap not (sym e)

  pub way_above : not a ≡ true → Unjoinable ≡ way_of r (placed r starts l)
  unfolding way_of
  way_above f = rw (layouts_placed r starts l, above_is, f)

  module _ (f : not a ≡ false) {b : Bool} (g : b ≡ all (asked AllDense) l && start_at (place_on First r) 0 (placed r starts l)) where
    module _ (h : b ≡ true) {c : Bool} (i : c ≡ later_agree r (shapes_of (placed r starts l))) where
      pub way_dense_lem : c ≡ true → Dense ≡ way_of r (placed r starts l)
      unfolding way_of
      way_dense_lem k = rw (layouts_placed r starts l, above_is, f, ← g, h, ← i, k)

      pub way_none : c ≡ false → Unjoinable ≡ way_of r (placed r starts l)
      unfolding way_of
      way_none k = rw (layouts_placed r starts l, above_is, f, ← g, h, ← i, k)

    pub way_other_lem : b ≡ false → {w : Way} → w ≡ way_other r (placed r starts l) → w ≡ way_of r (placed r starts l)
    unfolding way_of
    way_other_lem h i = rw (layouts_placed r starts l, above_is, f, ← g, h) i

pub ruleset way_laws = (way_above, way_dense_lem, way_none, way_other_lem)

-- ---- the dense-axis count

module _ {way : Way} (r : ℕ) (l : List Layout) where
  pub no_axes : way ≡ Unjoinable → 0 ≡ dense_by way r l
  no_axes e = rw e

  pub all_axes : way ≡ Dense → r ≡ dense_by way r l
  all_axes e = rw e

  module _ {d : ℕ} (f : d ≡ first_d (keep otherwise l)) where
    pub axes_diagonal : way ≡ Diagonal → d ≡ dense_by way r l
    axes_diagonal e = f ∙ rw e

    pub axes_rows : way ≡ Rows → d ≡ dense_by way r l
    axes_rows e = f ∙ rw e

pub ruleset axes_laws = (no_axes, all_axes, axes_diagonal, axes_rows)

-- ---- the join

-- a way, with the count and the extents that it has of blocks
abbrev join_as : ℕ → List Block → Way → List Layout → Join
join_as r blocks way l = record { way = way; dense = dense_by way r l; extents = fit_to rank_limit 0 (shape_by way r blocks) }

pub join_is : (r : ℕ) (starts : List (List ℕ)) (l : List Layout) {way : Way} {d : ℕ} {extents : List ℕ} →
    way ≡ way_of r (placed r starts l) → d ≡ dense_by way r l → extents ≡ fit_to rank_limit 0 (shape_by way r (placed r starts l)) →
    record { way = way; dense = d; extents = extents } ≡ join_of r (placed r starts l)
join_is r starts l {way} e f g =
    let blocks : List Block = placed r starts l in
    rw (f, g) (ap (λ (w : Way). join_as r blocks w l) e ∙ ap (join_as r blocks (way_of r blocks)) (sym (layouts_placed r starts l)))
