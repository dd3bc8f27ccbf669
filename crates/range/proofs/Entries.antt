-- `in_range` and `cut_row`: one entry, held against the range, and what is left of it. Assumes nothing.
use mathlib.Core.Path.{◌≡◌, refl, sym, ap, ◌∙◌}
use mathlib.Core.Bool.{Bool, true, false, not, ◌&&◌}
use mathlib.Core.List.{List}
use Prim.Native.Nat.{ℕ, suc, ◌+◌, ◌-◌, ◌^◌, ◌<◌, ◌≤◌}
use native.Mathlib.Omega.{arith}
use borrow.Author.Tests.{not-true, lt-ltb, le-ltb}
use lib.Dec.{leb, ltb}
use lib.IntN.{ℤ, pos}
use lib.ListN.{length, get_or, set, take, drop}
use lib.Seq.{take-take, take-set-lt, set-append_left, length-take-le, get_or-take}
use Rattle.rules.specs.Buffers.{part}
use Rattle.rules.specs.Lists.{all_below}
use Rattle.rules.specs.Dependencies.{index_of, on_index}
use Rattle.rules.specs.FilterDepsFrom.{less_start}
use Rattle.rules.proofs.Changed.{take_low, changed_low}
use Rattle.rules.proofs.Replaced.{with_set}
use Rattle.rules.proofs.Ranging.{less_start_low}
use Rattle.cells.specs.View.{view, Low}
use Rattle.cells.proofs.View.{view_set}
use Rattle.tables.specs.Rows.{row_at}
use Rattle.tables.proofs.Rows.{row_length, row_number, row_low}
use Rattle.moving.specs.Picking.{picked, shorter_places}
use Rattle.moving.proofs.Shortening.{dep_shortened}
use Rattle.range.specs.declared.Cut.{Cut}
use Rattle.range.specs.Cutting.{in_cut, cut_dep, EntryAsked, RowAsked}

-- ---- its index

module _ (at r : ℕ) (s : List ℤ) (room : at + (r + 1) ≤ length s) where
  -- an entry is its index and a number
  entry_size : length (row_at at (r + 1) s) ≡ suc r
  entry_size = row_length at (r + 1) s room ∙ omega arith

  pub index_there : index_of (row_at at (r + 1) s) ≡ row_at at r s
  unfolding part
  index_there =
      let less : length (take (r + 1) (drop at (view s))) - 1 ≡ r = omega (arith, row_length at (r + 1) s room) in
      rw less (take-take r (r + 1) (drop at (view s)) (omega arith))

-- ---- whether it lies in the range

module _ {at r : ℕ} {cut : Cut} {s : List ℤ} (q : EntryAsked at r cut s) {b : Bool} (below : b ≡ all_below (row_at at r s) (row_at 3 r s)) where
  abbrev entry : List ℕ
  entry = row_at at (r + 1) s

  index_is : index_of entry ≡ row_at at r s
  index_is = index_there at r s q.entry.room

  -- it lies outside the shape
  pub out_of_shape : not b ≡ true → false ≡ in_cut cut (row_at 3 r s) entry
  out_of_shape e = rw (index_is, ← below, not-true b e)

  -- it lies in it: the range decides
  pub told_range : b ≡ true → {x : ℕ} → x ≡ get_or (view s) (at + cut.axis) 0 → leb cut.start x && ltb x cut.end ≡ in_cut cut (row_at 3 r s) entry
  told_range inside {x} read =
      let component : get_or (row_at at r s) cut.axis 0 ≡ x = row_number at r cut.axis s q.axis_in ∙ sym read in
      rw (index_is, ← below, inside, component)

-- ---- what is left of it

-- an index changed alike makes the dependency alike
on_index_same : (f g : List ℕ → List ℕ) (d : List ℕ) → f (index_of d) ≡ g (index_of d) → on_index f d ≡ on_index g d
unfolding on_index
on_index_same f g d e = rw e

-- a number of the index set in the dependency
on_index_set : (f : List ℕ → List ℕ) (d : List ℕ) (k v : ℕ) → k < length (f (index_of d)) → set (on_index f d) k v ≡ on_index (λ i. set (f i) k v) d
unfolding on_index
on_index_set f d k v h = set-append_left (f (index_of d)) (drop (length d - 1) d) k v h

-- a number set in the front of a slice
number_set : (w k v : ℕ) (s : List ℤ) → k < w → row_at 0 w (set s k (pos v)) ≡ set (row_at 0 w s) k v
unfolding part
number_set w k v s h = rw (view_set, take-set-lt w (view s) k v h)

-- less the start, by whether the axis remains
module _ (axis start : ℕ) (index : List ℕ) where
  stays_whole : length index ≤ axis → index ≡ less_start axis start index
  stays_whole h = rw (le-ltb axis (length index) h)

  is_less_lem : axis < length index → set index axis (get_or index axis 0 - start) ≡ less_start axis start index
  is_less_lem h = rw (lt-ltb axis (length index) h) (sym (with_set (get_or index axis 0 - start) index h))

-- what is left has no negative number
pub cut_low : (cut : Cut) (d : List ℕ) → Low d → Low (cut_dep cut d)
cut_low cut d low =
    changed_low (λ index. less_start cut.axis cut.start (take cut.rank index)) d low
    (λ i f. less_start_low cut.axis cut.start (take cut.rank i) (take_low cut.rank i f))

module _ {at r : ℕ} {cut : Cut} {s : List ℤ} (q : RowAsked at r cut s) where
  abbrev whole : List ℕ
  whole = row_at at (r + 1) s

  whole_index : index_of whole ≡ row_at at r s
  whole_index = index_there at r s q.entry.room

  index_size : length (index_of whole) ≡ r
  index_size = ap length whole_index ∙ row_length at r s (omega (arith, q.entry.room))

  short_size : length (take cut.rank (index_of whole)) ≡ cut.rank
  short_size = length-take-le cut.rank (index_of whole) (omega (arith, index_size, q.shorter))

  -- its component on the axis
  module _ {x : ℕ} (read : x ≡ get_or (view s) (at + cut.axis) 0) where
    component_is : cut.axis < cut.rank → get_or (take cut.rank (index_of whole)) cut.axis 0 ≡ x
    component_is remains =
        get_or-take cut.rank (index_of whole) cut.axis 0 remains
        ∙ ap (λ (l : List ℕ). get_or l cut.axis 0) whole_index ∙ row_number at r cut.axis s q.axis_in ∙ sym read

    pub not_under : cut.start ≤ x
    not_under = rw read q.least

    pub less_fits : x - cut.start < 2 ^ 31
    less_fits = omega (arith, row_low at (r + 1) cut.axis s q.entry (omega (arith, q.axis_in)), read)

  module _ {places : List ℕ} (placed : places ≡ shorter_places cut.rank r) (row : List ℤ)
      (p : row_at 0 (cut.rank + 1) row ≡ picked 0 (take (cut.rank + 1) places) (row_at at (r + 1) s)) where
    shortened : row_at 0 (cut.rank + 1) row ≡ on_index (take cut.rank) whole
    shortened =
        p ∙ rw placed
        (dep_shortened {kept = cut.rank} r (omega (arith, q.shorter, q.rank_few)) {n = cut.rank + 1} refl q.shorter whole (entry_size at r s q.entry.room))

    -- the axis does not remain
    pub axis_gone : cut.rank ≤ cut.axis → row_at 0 (cut.rank + 1) row ≡ cut_dep cut whole
    axis_gone h =
        shortened
        ∙ on_index_same (take cut.rank) (λ i. less_start cut.axis cut.start (take cut.rank i)) whole
        (stays_whole cut.axis cut.start (take cut.rank (index_of whole)) (omega (arith, short_size)))

    -- it does
    pub axis_less : {x : ℕ} → cut.axis < cut.rank → x ≡ get_or (view s) (at + cut.axis) 0 → {row' : List ℤ} → row' ≡ set row cut.axis (pos (x - cut.start)) → row_at 0 (cut.rank + 1) row' ≡ cut_dep cut whole
    axis_less {x} remains read e = ap (row_at 0 (cut.rank + 1)) e ∙ number_set (cut.rank + 1) cut.axis (x - cut.start) row (omega arith) ∙ ap (λ (l : List ℕ). set l cut.axis (x - cut.start)) shortened ∙ there
      where
        there : set (on_index (take cut.rank) whole) cut.axis (x - cut.start) ≡ cut_dep cut whole
        there =
            on_index_set (take cut.rank) whole cut.axis (x - cut.start) (omega (arith, short_size))
            ∙ on_index_same (λ i. set (take cut.rank i) cut.axis (x - cut.start)) (λ i. less_start cut.axis cut.start (take cut.rank i)) whole
            (ap (λ (y : ℕ). set (take cut.rank (index_of whole)) cut.axis (y - cut.start)) (sym (component_is read remains))
            ∙ is_less_lem cut.axis cut.start (take cut.rank (index_of whole)) (omega (arith, short_size)))

pub ruleset cutting = (axis_gone, not_under, less_fits, axis_less)
