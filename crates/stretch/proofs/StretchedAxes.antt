-- Which axes stretch, as both slices show it. Assumes nothing.
use mathlib.Core.Path.{◌≡◌, refl, sym, ◌∙◌}
use mathlib.Core.Bool.{Bool, true, false, not, ◌&&◌, ◌||◌}
use mathlib.Core.List.{List, [], ◌∷◌, map-append}
use mathlib.Core.Logic.{⊎_elim}
use Prim.Native.Nat.{ℕ, ◌+◌, ◌^◌, ◌<◌, ◌≤◌}
use native.Mathlib.Nat.{zero-add, le_trans}
use native.Mathlib.Numerals.{add-one}
use native.Mathlib.Omega.{arith}
use borrow.Author.Tests.{eq-eqb, ne_eqb, le-leb, lt-leb, leb-true}
use lib.Dec.{eqb, leb}
use lib.IntN.{ℤ, pos}
use lib.ListN.{length, get_or, drop, set, replicate, length-set, get_or-replicate, drop_of_length-le}
use lib.Seq.{get_or-drop, get_or-take, get_or-set_other, drop-cons, take-suc-set}
use Rattle.rules.specs.Limits.{product_limit}
use Rattle.rules.specs.Lists.{all, from}
use Rattle.rules.specs.Buffers.{part}
use Rattle.rules.specs.Layout.{within_product, nonzero_product}
use Rattle.rules.specs.Stretching.{shared_axes_fit, is_stretched}
use Rattle.rules.proofs.Extents.{extent_nonzero}
use Rattle.cells.specs.View.{view}
use Rattle.cells.proofs.View.{view_length, view_set}
use Rattle.tables.specs.Rows.{row_at}
use Rattle.tables.proofs.Rows.{row_length, row_number}
use Rattle.moving.specs.Fitting.{Smaller}
use Rattle.stretch.specs.Spread.{Shapes, extents_in, values_on, spread_over, SpreadIs}
use Rattle.stretch.proofs.InTurn.{from_more}

-- ---- one extent: `axis_fits`

-- ---- one axis: `is_stretched` and `values`

module _ (old : ℕ) (s : List ℤ) (room : 3 + old ≤ length s) (at : ℕ) (t : List ℤ) (axis : ℕ) where
  abbrev told : Bool
  told = is_stretched (extents_in old s) (drop at (view t)) axis

  -- an axis that is added
  pub added_axis : old ≤ axis → leb old axis ≡ told
  added_axis h = rw (row_length 3 old s room, le-leb old axis h)

  module _ (h : axis < old) {x : ℕ} (e : x ≡ get_or (view s) (3 + axis) 0) where
    old_extent : get_or (extents_in old s) axis 0 ≡ x
    old_extent = row_number 3 old axis s h ∙ sym e

    -- one whose extent was not 1
    pub wide_axis : (x ≡ 1 → ⊥) → eqb x 1 ≡ told
    wide_axis n = rw (row_length 3 old s room, lt-leb old axis h, old_extent, ne_eqb x 1 n)

    -- one whose extent was 1
    pub narrow_axis : x ≡ 1 → {y : ℕ} → y ≡ get_or (view t) (at + axis) 0 → not (eqb y 1) ≡ told
    narrow_axis o f = rw (row_length 3 old s room, lt-leb old axis h, old_extent, eq-eqb x 1 o, get_or-drop, ← f)

-- the extents from a place on are read as those of the shape there
pub same_axis : (old : List ℕ) (at rank : ℕ) (t : List ℤ) (axis : ℕ) → axis < rank → is_stretched old (drop at (view t)) axis ≡ is_stretched old (row_at at rank t) axis
unfolding part
same_axis old at rank t axis h = rw (get_or-take rank (drop at (view t)) axis 0 h)

same_values : (old : List ℕ) (at rank : ℕ) (t : List ℤ) (axis : ℕ) → axis < rank → values_on old (drop at (view t)) axis ≡ values_on old (row_at at rank t) axis
unfolding part
same_values old at rank t axis h = rw (get_or-take rank (drop at (view t)) axis 0 h)

-- ---- both shapes: `shared_fit`

-- of two shapes, the extents at k decide, and those behind them
next_fits : (p q : List ℕ) (k : ℕ) → k < length p → k < length q →
    shared_axes_fit (drop k p) (drop k q) ≡ (eqb (get_or p k 0) 1 || eqb (get_or p k 0) (get_or q k 0)) && shared_axes_fit (drop (k + 1) p) (drop (k + 1) q)
unfolding shared_axes_fit
next_fits p q k h l = rw (add-one, drop-cons p k 0, drop-cons q k 0)

-- where one of them ends, all fit
fits_nil : (p : List ℕ) → shared_axes_fit p [] ≡ true
unfolding shared_axes_fit
fits_nil [] = refl
fits_nil (x ∷ p) = refl

-- the first k shared axes fit
pub record Sharing (old : ℕ) (s : List ℤ) (at rank : ℕ) (t : List ℤ) (both k : ℕ) : Type 0 where
  pub shapes : Shapes old s at rank t
  pub smaller : Smaller old rank both
  pub upto : k ≤ both
  pub eq : shared_axes_fit (extents_in old s) (row_at at rank t) ≡ shared_axes_fit (drop k (extents_in old s)) (drop k (row_at at rank t))

module _ {old : ℕ} {s : List ℤ} {at rank : ℕ} {t : List ℤ} {both : ℕ} where
  pub share_start : Shapes old s at rank t → Smaller old rank both → Sharing old s at rank t both 0
  share_start a m = record { shapes = a; smaller = m; upto = omega arith; eq = refl }

  module _ {k : ℕ} (g : Sharing old s at rank t both k) where
    module _ (h : k < both) {x y : ℕ} (e : x ≡ get_or (view s) (3 + k) 0) (f : y ≡ get_or (view t) (at + k) 0) {r : Bool} (told : r ≡ (eqb x 1 || eqb x y)) where
      next : shared_axes_fit (extents_in old s) (row_at at rank t) ≡ r && shared_axes_fit (drop (k + 1) (extents_in old s)) (drop (k + 1) (row_at at rank t))
      next =
          let p = row_length 3 old s g.shapes.old_in in
          let q = row_length at rank t g.shapes.new_in in
          let a = g.smaller.first in
          let b = g.smaller.second in
          g.eq ∙ next_fits (extents_in old s) (row_at at rank t) k (omega arith) (omega arith)
          ∙ rw (row_number 3 old k s (omega arith), row_number at rank k t (omega arith), ← e, ← f, ← told)

      pub share_turn : r ≡ true → Sharing old s at rank t both (k + 1)
      share_turn l = record { shapes = g.shapes; smaller = g.smaller; upto = omega arith; eq = next ∙ rw l }

      pub share_stop : r ≡ false → false ≡ shared_axes_fit (extents_in old s) (row_at at rank t)
      share_stop l = sym (next ∙ rw l)

    pub share_done : both ≤ k → true ≡ shared_axes_fit (extents_in old s) (row_at at rank t)
    unfolding shared_axes_fit
    share_done h =
        let p = row_length 3 old s g.shapes.old_in in
        let q = row_length at rank t g.shapes.new_in in
        sym (g.eq
        ∙ ⊎_elim (λ e. rw (drop_of_length-le (extents_in old s) {i = k} (omega arith)))
        (λ e. rw (drop_of_length-le (row_at at rank t) {i = k} (omega arith)) (fits_nil (drop k (extents_in old s))))
        g.smaller.one)

pub ruleset sharing = (share_start, share_turn, share_stop, share_done)

-- ---- axes that are cut: `cut_fit`

-- the axes from the rank up to k have extent 1
pub record Cutting (old : ℕ) (s : List ℤ) (rank k : ℕ) : Type 0 where
  pub room : 3 + old ≤ length s
  pub eq : all (eqb 1) (drop rank (extents_in old s)) ≡ all (eqb 1) (drop k (extents_in old s))

module _ {old : ℕ} {s : List ℤ} {rank : ℕ} where
  pub cut_start : 3 + old ≤ length s → Cutting old s rank rank
  cut_start h = record { room = h; eq = refl }

  module _ {k : ℕ} (g : Cutting old s rank k) where
    module _ (h : k < old) {x : ℕ} (e : x ≡ get_or (view s) (3 + k) 0) where
      cut_next : all (eqb 1) (drop rank (extents_in old s)) ≡ eqb 1 x && all (eqb 1) (drop (k + 1) (extents_in old s))
      unfolding all
      cut_next =
          let p = row_length 3 old s g.room in
          let inside : k < length (extents_in old s) = omega arith in
          g.eq ∙ rw (add-one, drop-cons (extents_in old s) k 0, row_number 3 old k s h, ← e)

      pub cut_turn : x ≡ 1 → Cutting old s rank (k + 1)
      cut_turn l = record { room = g.room; eq = cut_next ∙ rw (eq-eqb 1 x (sym l)) }

      pub cut_stop : (x ≡ 1 → ⊥) → false ≡ all (eqb 1) (drop rank (extents_in old s))
      cut_stop l = sym (cut_next ∙ rw (ne_eqb 1 x (λ e. l (sym e))))

    pub cut_done : old ≤ k → true ≡ all (eqb 1) (drop rank (extents_in old s))
    unfolding all
    cut_done h = let p = row_length 3 old s g.room in sym (g.eq ∙ rw (drop_of_length-le (extents_in old s) {i = k} (omega arith)))

pub ruleset cutting = (cut_start, cut_turn, cut_stop, cut_done)

-- ---- how many values each axis takes: `spread_extents`

-- of extents within the limit each is small
pub within_small : (shape : List ℕ) → within_product shape ≡ true → (axis : ℕ) → get_or shape axis 0 ≤ product_limit
unfolding within_product
within_small shape e axis = le_trans (extent_nonzero shape axis 0 (omega arith)) (leb-true (nonzero_product shape) product_limit e)

-- so is each of the new shape
pub extent_small : {old : ℕ} {s : List ℤ} {at rank : ℕ} {t : List ℤ} → Shapes old s at rank t → (axis : ℕ) → get_or (row_at at rank t) axis 0 ≤ product_limit
extent_small {at = at} {rank} {t} a axis = within_small (row_at at rank t) a.within axis

values_small : (old new : List ℕ) (axis : ℕ) → get_or new axis 0 ≤ product_limit → values_on old new axis ≤ product_limit
values_small old new axis h = by (is_stretched old new axis) refl
  where
    by : (b : Bool) → is_stretched old new axis ≡ b → values_on old new axis ≤ product_limit
    by true e = rw e h
    by false e = rw e (omega arith)

-- five ones
ones_at : (k : ℕ) → k < 5 → get_or (view (replicate 5 (pos 1))) k 0 ≡ 1
unfolding view
ones_at k h = get_or-replicate 5 k 1 0 h

-- the first k axes have their count of values, and 1 stands behind them
pub record Spreading (old : ℕ) (s : List ℤ) (at rank : ℕ) (t : List ℤ) (w k : ℕ) (out : List ℤ) : Type 0 where
  pub shapes : Shapes old s at rank t
  pub within : w ≤ rank
  pub upto : k ≤ w
  pub long : length out ≡ 5
  pub is : row_at 0 k out ≡ spread_over (extents_in old s) (row_at at rank t) k
  pub ones : (j : ℕ) → k ≤ j → j < 5 → get_or (view out) j 0 ≡ 1

module _ {old : ℕ} {s : List ℤ} {at rank : ℕ} {t : List ℤ} {w : ℕ} where
  pub spread_start : Shapes old s at rank t → w ≤ rank → Spreading old s at rank t w 0 (replicate 5 (pos 1))
  unfolding part from
  spread_start a h = record { shapes = a; within = h; upto = omega arith; long = refl; is = refl; ones = λ j l i. ones_at j i }

  module _ {k : ℕ} {out : List ℤ} (g : Spreading old s at rank t w k out) where
    module _ (h : k < w) {v : ℕ} (e : v ≡ values_on (extents_in old s) (drop at (view t)) k) where
      value_is : v ≡ values_on (extents_in old s) (row_at at rank t) k
      value_is = let l = g.within in e ∙ same_values (extents_in old s) at rank t k (omega arith)

      pub value_small : v < 2 ^ 31
      value_small = omega (arith, value_is, values_small (extents_in old s) (row_at at rank t) k (extent_small g.shapes k))

      pub spread_turn : {next : List ℤ} → next ≡ set out k (pos v) → Spreading old s at rank t w (k + 1) next
      unfolding part
      spread_turn f = record {
        shapes = g.shapes;
        within = g.within;
        upto = omega arith;
        long = rw (f, length-set) g.long;
        is =
            let l = g.within in
            let m = g.shapes.new_few in
            let inside : k < length (view out) = rw view_length (omega (arith, g.long)) in
            rw (f, view_set, from_more 0 k, map-append, add-one k, take-suc-set (view out) k v inside, g.is, zero-add k, ← value_is);
        ones = λ j l i. rw (f, view_set) (get_or-set_other (view out) k j v 0 (λ d. omega arith) ∙ g.ones j (omega arith) i);
      }

    pub spread_done : w ≤ k → SpreadIs (extents_in old s) (row_at at rank t) w out
    spread_done h =
        let u = g.upto in
        let e : k ≡ w = omega arith in
        record { values = rw e at g.is; behind = g.ones w (omega arith) (omega (arith, g.within, g.shapes.new_few)) }

pub ruleset spreading = (spread_start, value_small, spread_turn, spread_done)
