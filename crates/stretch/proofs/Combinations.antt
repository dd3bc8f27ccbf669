-- Rows plus every index of the values on some axes are the rows that take all values there. Assumes nothing.
use mathlib.Core.Path.{◌≡◌, refl, sym, ap, ◌∙◌, subst}
use mathlib.Core.Bool.{Bool, true, false}
use mathlib.Core.List.Memᴰ
use mathlib.Core.List.{List, map, Memᴰ}
use mathlib.Core.Logic.{⊎_elim}
use Prim.Native.Nat.{ℕ, ◌+◌, ◌-◌, ◌<◌, ◌≤◌}
use native.Mathlib.Nat.{zero-add}
use native.Mathlib.Omega.{arith}
use lib.IntN.{ℤ}
use lib.ListN.{length, get_or, length-map, get_or-eq_default}
use lib.Seq.{ext_get_or}
use Rattle.rules.specs.Lists.{gather, below, product, all_below}
use Rattle.rules.specs.RowsInOrder.{In, Each}
use Rattle.rules.specs.Positions.{ravel_index, unravel}
use Rattle.rules.specs.Stretching.{is_stretched, stretched_axes, take_all}
use Rattle.rules.proofs.Order.{ComparedNumbers, under, even, above, compare_numbers}
use Rattle.rules.proofs.Sets.{Subset}
use Rattle.rules.proofs.Low.{at_below}
use Rattle.rules.proofs.Ranges.{from_length, from_at, from_only, from_has, map_at}
use Rattle.rules.proofs.Indices.{ravel_below, positions_ravel}
use Rattle.rules.proofs.Gathering.{gather_only, gather_has}
use Rattle.rules.proofs.Taking.{axis_or_not, Taken, take_only, take_has}
use Rattle.rules.proofs.Axes.{stretched_below, stretched_has}
use Rattle.cells.specs.View.{view}
use Rattle.tables.specs.Rows.{row_at}
use Rattle.tables.proofs.Rows.{row_length, row_number}
use Rattle.axes.proofs.Indices.{unravel_length, unravel_position}
use Rattle.stretch.specs.Spread.{plus, values_on, spread_over, SpreadIs}
use Rattle.stretch.specs.Tables.{in_turn}
use Rattle.stretch.proofs.Plus.{plus_length, plus_at, unravel_under, moved_by}

-- ---- values on axes

-- number k of what f gives for 0, 1, .., n - 1
below_at : (f : ℕ → ℕ) (n k : ℕ) → k < n → get_or (map f (below n)) k 0 ≡ f k
below_at f n k h = map_at f (below n) k 0 0 (rw from_length h) ∙ ap f (from_at 0 n k 0 h ∙ zero-add k)

-- it gives n numbers
below_length : (f : ℕ → ℕ) (n : ℕ) → length (map f (below n)) ≡ n
below_length f n = rw (length-map, from_length)

-- so many values on each of n axes: the new extent on the given ones, 1 on the others
pub record Spreads (new axes values : List ℕ) (n : ℕ) : Type 0 where
  pub size : length values ≡ n
  pub inside : (k : ℕ) → Memᴰ k axes → k < n
  pub on : (k : ℕ) → Memᴰ k axes → get_or values k 0 ≡ get_or new k 0
  pub off : (k : ℕ) → k < n → (Memᴰ k axes → ⊥) → get_or values k 0 ≡ 1

-- ---- rows of n numbers that are 0 on the axes

module _ {new axes values : List ℕ} {n : ℕ} (s : Spreads new axes values n) {rows : List (List ℕ)}
    (sizes : Each (λ r. length r ≡ n) rows) (zeros : Each (λ r. (k : ℕ) → Memᴰ k axes → get_or r k 0 ≡ 0) rows) where
  -- each of them plus each index of the values
  abbrev sums : List (List ℕ)
  sums = gather (λ r. in_turn (moved_by r values) (product values)) rows

  -- a row plus an index
  module _ {r : List ℕ} (m : In r rows) {number : ℕ} (h : number < product values) where
    abbrev t : List ℕ
    t = unravel number values

    t_long : length t ≡ n
    t_long = unravel_length number values ∙ s.size

    under_value : (k : ℕ) → k < n → get_or t k 0 < get_or values k 0
    under_value k i = unravel_under number values h k (rw s.size i)

    sum_at : (k : ℕ) → k < n → get_or (plus r t) k 0 ≡ get_or r k 0 + get_or t k 0
    sum_at k i = plus_at r t k (omega (arith, sizes r m)) (omega (arith, t_long))

    sum_long : length (plus r t) ≡ length r
    sum_long = plus_length r t (sizes r m ∙ sym t_long)

    -- off the axes it is the row
    sum_kept : (k : ℕ) → (Memᴰ k axes → ⊥) → get_or (plus r t) k 0 ≡ get_or r k 0
    sum_kept k o = by (compare_numbers k n)
      where
        past : n ≤ k → get_or (plus r t) k 0 ≡ get_or r k 0
        past i = get_or-eq_default (plus r t) 0 {n = k} (omega (arith, sum_long, sizes r m)) ∙ sym (get_or-eq_default r 0 {n = k} (omega (arith, sizes r m)))

        by : ComparedNumbers k n → get_or (plus r t) k 0 ≡ get_or r k 0
        by (under i) = omega (arith, sum_at k i, under_value k i, s.off k i o)
        by (even i) = past (omega arith)
        by (above i) = past (omega arith)

    -- and on them it has a value of the new shape
    sum_free : (k : ℕ) → Memᴰ k axes → get_or (plus r t) k 0 < get_or new k 0
    sum_free k i = let a = s.inside k i in omega (arith, sum_at k a, under_value k a, s.on k i, zeros r m k i)

    sum_taken : Taken new axes r (plus r t)
    sum_taken = record { size = sum_long; kept = sum_kept; free = sum_free }

  -- each of these takes values on the axes
  pub moved_only : Subset sums (take_all new axes rows)
  moved_only x m =
      let i = gather_only (λ r. in_turn (moved_by r values) (product values)) rows m in
      let j = gather_only (moved_by i.0 values) (below (product values)) i.2 in
      let h : j.0 < product values = omega (arith, from_only 0 (product values) j.1) in
      take_has new n axes s.inside sizes i.1
      (subst (λ (y : List ℕ). Taken new axes i.0 y) (sym (Memᴰ.eq_of_singleton j.2)) (sum_taken i.1 h))

  -- a row that takes values
  module _ {r x : List ℕ} (m : In r rows) (t : Taken new axes r x) where
    -- how far it is from the row on an axis
    abbrev beyond : ℕ → ℕ
    beyond k = get_or x k 0 - get_or r k 0

    abbrev index : List ℕ
    index = map beyond (below n)

    index_long : length index ≡ length values
    index_long = below_length beyond n ∙ sym s.size

    index_below : (k : ℕ) → k < n → get_or index k 0 < get_or values k 0
    index_below k h =
        let e = below_at beyond n k h in
        ⊎_elim (λ i. omega (arith, t.free k i, s.on k i)) (λ o. omega (arith, t.kept k o, s.off k h o)) (axis_or_not k axes)

    inside : all_below index values ≡ true
    inside = at_below index values (λ k h. index_below k (omega (arith, below_length beyond n)))

    number : ℕ
    number = ravel_index index values

    number_below : number < product values
    unfolding number
    number_below = ravel_below index values index_long inside

    number_index : unravel number values ≡ index
    unfolding number
    number_index = unravel_position number values number_below ∙ positions_ravel index values index_long inside

    -- it is the row plus the index of that
    sum_is : x ≡ plus r index
    sum_is = ext_get_or 0 x (plus r index) (t.size ∙ sym (plus_length r index (sizes r m ∙ sym (below_length beyond n)))) (λ k h. at k (omega (arith, t.size, sizes r m)))
      where
        least : (k : ℕ) → get_or r k 0 ≤ get_or x k 0
        least k = ⊎_elim (λ i. omega (arith, zeros r m k i)) (λ o. omega (arith, t.kept k o)) (axis_or_not k axes)

        at : (k : ℕ) → k < n → get_or x k 0 ≡ get_or (plus r index) k 0
        at k h = omega (arith, least k, below_at beyond n k h, plus_at r index k (omega (arith, sizes r m)) (omega (arith, below_length beyond n)))

    taken_moved : In x sums
    taken_moved =
        gather_has (λ r. in_turn (moved_by r values) (product values)) m
        (gather_has (moved_by r values) (from_has {v = number} 0 (product values) (omega arith) (omega (arith, number_below)))
        (Memᴰ.head (sum_is ∙ ap (plus r) (sym number_index))))

  -- and each row that takes values there is one of them
  pub moved_has : Subset (take_all new axes rows) sums
  moved_has x m = let i = take_only new n axes s.inside sizes m in taken_moved i.1 i.2

-- ---- the values on the stretched axes

module _ (old new : List ℕ) where
  -- an axis that is not stretched takes one value
  value_off : (k : ℕ) → (is_stretched old new k ≡ true → ⊥) → values_on old new k ≡ 1
  value_off k o = by (is_stretched old new k) refl
    where
      by : (b : Bool) → is_stretched old new k ≡ b → values_on old new k ≡ 1
      by true e = absurd (o e)
      by false e = rw e

  -- the axes below w that are stretched, all of them
  pub spreads_over : (w : ℕ) (axes : List ℕ) → ((k : ℕ) → Memᴰ k axes → (k < w) × (is_stretched old new k ≡ true)) →
      ((k : ℕ) → k < w → is_stretched old new k ≡ true → Memᴰ k axes) → Spreads new axes (spread_over old new w) w
  spreads_over w axes only has = record {
    size = below_length (values_on old new) w;
    inside = λ k m. (only k m).0;
    on = λ k m. below_at (values_on old new) w k (only k m).0 ∙ rw (only k m).1;
    off = λ k h o. below_at (values_on old new) w k h ∙ value_off k (λ e. o (has k h e));
  }

-- the same of the axes of a shape, with one more number behind them
pub spreads_behind : (old new : List ℕ) (extents : List ℤ) → length new ≤ 4 → length extents ≡ 5 → SpreadIs old new (length new) extents →
    Spreads new (stretched_axes old new) (row_at 0 (length new + 1) extents) (length new + 1)
spreads_behind old new extents few long is = record {
  size = row_length 0 (length new + 1) extents (omega arith);
  inside = λ k m. omega (arith, (stretched_below old new m).0);
  on = λ k m. let h = (stretched_below old new m).0 in front k h ∙ s.on k m;
  off = λ k h o. by k h o (compare_numbers k (length new));
}
  where
    s : Spreads new (stretched_axes old new) (spread_over old new (length new)) (length new)
    s = spreads_over old new (length new) (stretched_axes old new) (λ k m. stretched_below old new m) (λ k h e. stretched_has old new h e)

    number : (k : ℕ) → k < length new + 1 → get_or (row_at 0 (length new + 1) extents) k 0 ≡ get_or (view extents) k 0
    number k h = row_number 0 (length new + 1) k extents h ∙ ap (λ (j : ℕ). get_or (view extents) j 0) (zero-add k)

    front : (k : ℕ) → k < length new → get_or (row_at 0 (length new + 1) extents) k 0 ≡ get_or (spread_over old new (length new)) k 0
    front k h =
        row_number 0 (length new + 1) k extents (omega arith) ∙ sym (row_number 0 (length new) k extents h)
        ∙ ap (λ (l : List ℕ). get_or l k 0) is.values

    by : (k : ℕ) → k < length new + 1 → (Memᴰ k (stretched_axes old new) → ⊥) → ComparedNumbers k (length new) → get_or (row_at 0 (length new + 1) extents) k 0 ≡ 1
    by k h o (under i) = front k i ∙ s.off k i o
    by k h o (even e) = number k h ∙ ap (λ (j : ℕ). get_or (view extents) j 0) e ∙ is.behind
    by k h o (above i) = absurd (omega arith)
