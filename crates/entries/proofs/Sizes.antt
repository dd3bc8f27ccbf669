-- How many numbers an entry of a block has, and how large they are: `moved_entry`. Assumes nothing.
use mathlib.Core.Path.{◌≡◌, refl, sym, ap, ◌∙◌, subst}
use mathlib.Core.Bool.{Bool, true, false}
use mathlib.Core.List.Memᴰ
use mathlib.Core.List.{List, []}
use mathlib.Core.Logic.{◌⊎◌, inl, inr, ⊎_elim}
use Prim.Native.Nat.{ℕ, zero, suc, ◌^◌, ◌<◌, ◌≤◌}
use native.Mathlib.Nat.{zero-add}
use native.Mathlib.Omega.{arith}
use borrow.Author.Tests.{eq-eqb, ne_eqb}
use lib.IntN.{ℤ}
use lib.ListN.{length, get_or, take, replicate, length-take, length-replicate, get_or-eq_default}
use lib.Seq.{get_or-take}
use Rattle.rules.specs.declared.Head.{Head}
use Rattle.rules.specs.Limits.{rank_limit, product_limit}
use Rattle.rules.specs.Lists.{below, fit_to}
use Rattle.rules.specs.RowsInOrder.{Each}
use Rattle.rules.specs.Layout.{Layout, rank, width, is_sparse}
use Rattle.rules.specs.Soundness.{DepsFit, DepsSmall, NumbersBelow, DepsLow, Sound}
use Rattle.rules.specs.Record.{layout_in}
use Rattle.rules.specs.Dependencies.{on_index}
use Rattle.rules.specs.Removal.{positions}
use Rattle.rules.specs.Pairs.{expanded}
use Rattle.rules.specs.Concatenate.{moved_by, rows_of_block}
use Rattle.rules.proofs.Order.{ComparedNumbers, under, even, above, compare_numbers}
use Rattle.rules.proofs.Places.{in_at}
use Rattle.rules.proofs.Soundness.{OneKind, dense_case, diagonal_case, sparse_case, one_kind}
use Rattle.rules.proofs.Ranges.{from_only, map_at}
use Rattle.rules.proofs.Indices.{positions_only}
use Rattle.rules.proofs.Extents.{extent_limited}
use Rattle.rules.proofs.Low.{below_at, rows_low}
use Rattle.rules.proofs.Forming.{DepOfRank}
use Rattle.rules.proofs.Changed.{RowBelow, changed_low, changed_of_rank, each_map}
use Rattle.rules.proofs.Replaced.{fit_length, fit_low}
use Rattle.rules.proofs.MovedBy.{moved_by_length, moved_by_at, moved_by_same}
use Rattle.cells.specs.View.{view, Low}
use Rattle.tables.specs.Rows.{row_at}
use Rattle.tables.proofs.Rows.{row_number}
use Rattle.records.proofs.SoundRecords.{layout_sound}
use Rattle.records.proofs.Shown.{deps_low}
use Rattle.entries.specs.declared.entries.Listed.{Listed}
use Rattle.entries.specs.declared.entries.Listed.TheVariants.{Rows, States, Inputs}
use Rattle.entries.specs.Listing.{fitted, listed, moved_list, row_width, OfWidth, axes_in, ListAsked, StartLow, MoveAsked, Moved, EntryIs}
use Rattle.entries.proofs.Shifting.{row_moved}

-- ---- rows

-- as many numbers as the layout's rows have, each below 65,536
pub record RowFits (l : Layout) (r : List ℕ) : Type 0 where
  pub size : length r ≡ row_width l
  pub low : RowBelow product_limit r

-- one number, over and over
same_low : (n v k : ℕ) → v < product_limit → get_or (replicate n v) k 0 < product_limit
same_low zero v k h = omega arith
same_low (suc n) v zero h = h
same_low (suc n) v (suc k) h = same_low n v k h

-- by kind
pub rows_dense : (l : Layout) → l.kind ≡ 0 → rows_of_block l ≡ positions l.shape
rows_dense l k = rw (eq-eqb l.kind 0 k)

pub rows_diagonal : (l : Layout) → l.kind ≡ 1 → rows_of_block l ≡ (expanded l).rows
rows_diagonal l k = rw (ne_eqb l.kind 0 (λ e. omega arith), eq-eqb l.kind 1 k)

pub rows_sparse : (l : Layout) → l.kind ≡ 2 → rows_of_block l ≡ l.rows
rows_sparse l k = rw (ne_eqb l.kind 0 (λ e. omega arith), ne_eqb l.kind 1 (λ e. omega arith))

module _ {l : Layout} (p : Sound l) where
  -- an index of the shape
  dense_fits : l.kind ≡ 0 → Each (RowFits l) (positions l.shape)
  dense_fits e r m = record { size = rw e (positions_only l.shape m).0; low = λ k. by k (compare_numbers k (length r)) }
    where
      past : (k : ℕ) → length r ≤ k → get_or r k 0 < product_limit
      past k h = omega (arith, get_or-eq_default r 0 {n = k} h)

      by : (k : ℕ) → ComparedNumbers k (length r) → get_or r k 0 < product_limit
      by k (under h) = omega (arith, below_at r l.shape (positions_only l.shape m).1 k h (omega (arith, (positions_only l.shape m).0)), extent_limited p.sizes k)
      by k (even h) = past k (omega arith)
      by k (above h) = past k (omega arith)

  -- (i,..,i)
  diagonal_fits_lem : l.kind ≡ 1 → Each (RowFits l) (expanded l).rows
  unfolding expanded
  diagonal_fits_lem e r m =
      let f = Memᴰ.of_map (λ i. replicate (rank l) i) (below (get_or l.shape 0 0)) m in
      let i : f.0 < get_or l.shape 0 0 = omega (arith, (from_only 0 (get_or l.shape 0 0) f.1).1) in
      subst (RowFits l) f.2
      (record { size = rw e (length-replicate (rank l) f.0); low = λ k. same_low (rank l) f.0 k (omega (arith, extent_limited p.sizes 0)) })

  sparse_fits : l.kind ≡ 2 → Each (RowFits l) l.rows
  sparse_fits e r m = record { size = rw e (p.form.row_lengths r m); low = rows_low p r m }

  pub rows_fit : Each (RowFits l) (rows_of_block l)
  rows_fit = by (one_kind p.form)
    where
      by : OneKind l → Each (RowFits l) (rows_of_block l)
      by (dense_case k) = subst (Each (RowFits l)) (sym (rows_dense l k)) (dense_fits k)
      by (diagonal_case k) = subst (Each (RowFits l)) (sym (rows_diagonal l k)) (diagonal_fits_lem k)
      by (sparse_case k) = subst (Each (RowFits l)) (sym (rows_sparse l k)) (sparse_fits k)

  -- ---- dependencies

  -- fitted to a rank, they are of that rank
  pub deps_of_rank : (r : ℕ) {deps : List (List ℕ)} → DepsFit l deps → DepsSmall l deps → Each (DepOfRank r) (fitted r deps)
  deps_of_rank r f s =
      each_map (DepOfRank r) (on_index (fit_to r 0))
      (λ d o. changed_of_rank (fit_to r 0) d o (λ i e. fit_length r 0 i) (λ i g. fit_low r i g))
      (λ d m. record { size = f.lengths d m; small = s d m })

  pub fitted_low : (r : ℕ) {deps : List (List ℕ)} → NumbersBelow (2 ^ 31) deps → NumbersBelow (2 ^ 31) (fitted r deps)
  fitted_low r f = each_map (RowBelow (2 ^ 31)) (on_index (fit_to r 0)) (λ d o. changed_low (fit_to r 0) d o (λ i g. fit_low r i g)) f

-- ---- entries

-- w numbers, of which those of axes are small and none is negative
pub record EntryFits (x : Listed) (r w : ℕ) (d : List ℕ) : Type 0 where
  pub size : length d ≡ w
  pub small : (k : ℕ) → k < axes_in x r w → get_or d k 0 ≤ product_limit
  pub low : Low d

pub list_fits : (x : Listed) {r w : ℕ} {l : Layout} → Sound l → DepsLow l → OfWidth x r w l → Each (EntryFits x r w) (listed x r l)
list_fits Rows p q f d m = let a = rows_fit p d m in record { size = a.size ∙ sym f.1; small = λ k h. omega (arith, a.low k); low = λ k. omega (arith, a.low k) }
list_fits States {r} p q f d m =
    let a = deps_of_rank p r p.form.states_fit p.sizes.states_small d m in
    record { size = omega (arith, a.size, f.1); small = λ k h. omega (arith, a.small k h); low = fitted_low p r q.states_low d m }
list_fits Inputs {r} p q f d m =
    let a = deps_of_rank p r p.form.inputs_fit p.sizes.inputs_small d m in
    record { size = omega (arith, a.size, f.1); small = λ k h. omega (arith, a.small k h); low = fitted_low p r q.inputs_low d m }

-- the axes are no more than the numbers, nor than the asked rank, nor than 4
pub record AxesFew (n r w : ℕ) : Type 0 where
  pub upto : n ≤ w
  pub within : n ≤ r
  pub all : (n ≡ w) ⊎ (n ≡ r)
  pub narrow : w ≤ 5

pub axes_few : (x : Listed) {r w : ℕ} (l : Layout) → OfWidth x r w l → r ≤ rank_limit → AxesFew (axes_in x r w) r w
axes_few Rows {r} {w} l f h = let n : w ≤ r = by (is_sparse l) refl in record { upto = omega arith; within = n; all = inl refl; narrow = omega arith }
  where
    by : (t : Bool) → is_sparse l ≡ t → w ≤ r
    by true e = let g : w ≡ width l = rw e at f.1 in omega (arith, f.0)
    by false e = let g : w ≡ rank l = rw e at f.1 in omega (arith, f.0)
axes_few States l f h = record { upto = omega (arith, f.1); within = omega arith; all = inr refl; narrow = omega (arith, f.1) }
axes_few Inputs l f h = record { upto = omega (arith, f.1); within = omega arith; all = inr refl; narrow = omega (arith, f.1) }

-- ---- an entry that is moved

-- the first numbers of a start move those of axes
abbrev pub moved_on : Listed → ℕ → ℕ → List ℕ → List ℕ → List ℕ
moved_on x r w start d = moved_by (take (axes_in x r w) start) d

module _ (x : Listed) {r w : ℕ} (l : Layout) (f : OfWidth x r w l) (few : r ≤ rank_limit) (start : List ℕ) (q : StartLow start) {d : List ℕ} (fits : EntryFits x r w d) where
  axes : AxesFew (axes_in x r w) r w
  axes = axes_few x l f few

  -- a number of a start that is behind the axes does not count
  pub axes_only : moved_on x r w start d ≡ moved_by (take r start) d
  axes_only =
      moved_by_same (take (axes_in x r w) start) (take r start) d
      (λ k o.
      ⊎_elim
      (λ e.
      let j : k < axes_in x r w = omega (arith, fits.size) in
      get_or-take (axes_in x r w) start k 0 j ∙ sym (get_or-take r start k 0 (omega (arith, axes.within))))
      (λ e. rw e)
      axes.all)

  -- no number becomes negative
  pub moved_low : Low (moved_on x r w start d)
  moved_low k = by (compare_numbers k (length d)) (compare_numbers k (axes_in x r w))
    where
      past : length d ≤ k → get_or (moved_on x r w start d) k 0 < 2 ^ 31
      past o = omega (arith, get_or-eq_default (moved_on x r w start d) 0 {n = k} (rw moved_by_length o))

      behind : k < length d → axes_in x r w ≤ k → get_or (moved_on x r w start d) k 0 < 2 ^ 31
      behind o j =
          let z = get_or-eq_default (take (axes_in x r w) start) 0 {n = k} (simp length-take (omega arith)) in
          rw (moved_by_at (take (axes_in x r w) start) d k o) (omega (arith, fits.low k))

      by : ComparedNumbers k (length d) → ComparedNumbers k (axes_in x r w) → get_or (moved_on x r w start d) k 0 < 2 ^ 31
      by (under o) (under j) =
          let s : get_or (take (axes_in x r w) start) k 0 ≤ product_limit = rw (get_or-take (axes_in x r w) start k 0 j) (q k) in
          rw (moved_by_at (take (axes_in x r w) start) d k o) (omega (arith, fits.small k j))
      by (under o) (even j) = behind o (omega arith)
      by (under o) (above j) = behind o (omega arith)
      by (even o) j = past (omega arith)
      by (above o) j = past (omega arith)

-- ---- an entry of a record: `moved_entry`

-- entry i of a list
abbrev row_of : Listed → ℕ → ℕ → List ℤ → List ℕ
row_of x r i s = get_or (listed x r (layout_in s)) i []

module _ {x : Listed} {h : Head} {s : List ℤ} {r w : ℕ} (a : ListAsked x h s r w) where
  pub record_fits : Each (EntryFits x r w) (listed x r (layout_in s))
  record_fits = list_fits x (layout_sound a.source) (deps_low a.source) a.fits

  module _ (start : List ℕ) {i : ℕ} (q : StartLow start × (i < length (listed x r (layout_in s))))
      (entry : List ℤ) (long : length entry ≡ 5) (is : row_at 0 w entry ≡ get_or (listed x r (layout_in s)) i []) {n : ℕ} (n-is : n ≡ axes_in x r w) where
    fits : EntryFits x r w (row_of x r i s)
    fits = record_fits (row_of x r i s) (in_at (listed x r (layout_in s)) i q.1)

    few : AxesFew n r w
    few = rw n-is (axes_few x (layout_in s) a.fits a.few)

    pub ask_move : MoveAsked entry start n
    ask_move = record {
      narrow = omega (arith, few.within, a.few);
      start_low = q.0;
      row_low = λ k o.
          let j : k < w = omega (arith, few.upto) in
          let seen : get_or (view entry) k 0 ≡ get_or (row_of x r i s) k 0 = sym (row_number 0 w k entry j ∙ ap (λ (o' : ℕ). get_or (view entry) o' 0) (zero-add k)) ∙ ap (λ (t : List ℕ). get_or t k 0) is in
          rw seen (fits.small k (rw (← n-is) o));
    }

    pub entry_moved : {sum : List ℤ} → Moved n start entry sum → length sum ≡ 5 → EntryIs w (get_or (moved_list x r (take r start) (layout_in s)) i []) sum
    entry_moved {sum} m long' =
        let made : row_at 0 w sum ≡ moved_by (take (axes_in x r w) start) (row_of x r i s) = rw (n-is, is) at (row_moved m (long' ∙ sym long) w) in
        let e : moved_by (take (axes_in x r w) start) (row_of x r i s) ≡ get_or (moved_list x r (take r start) (layout_in s)) i [] =
        axes_only x (layout_in s) a.fits a.few start q.0 fits ∙ sym (map_at (moved_by (take r start)) (listed x r (layout_in s)) i [] [] q.1) in
        record { is = made ∙ e; low = rw e at (moved_low x (layout_in s) a.fits a.few start q.0 fits) }
