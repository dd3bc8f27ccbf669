-- The layout of a readable record, as its slice shows it. Assumes nothing.
use mathlib.Core.Path.{◌≡◌, refl, sym, ap, ◌∙◌}
use mathlib.Core.Bool.{Bool, true, false}
use mathlib.Core.List.{List}
use Prim.Native.Nat.{ℕ, zero, suc, ◌+◌, ◌*◌, ◌-◌, ◌^◌, ◌<◌, ◌≤◌}
use native.Mathlib.Numerals.{add-one}
use native.Mathlib.Omega.{arith}
use borrow.Author.Tests.{ltb-false, leb-true}
use lib.Dec.{ltb}
use lib.IntN.{ℤ, pos, ◌-ℤ◌}
use lib.ListN.{length, get_or, take}
use lib.Seq.{get_or-take}
use Rattle.rules.specs.declared.Head.{Head}
use Rattle.rules.specs.Buffers.{part}
use Rattle.rules.specs.Layout.{Layout}
use Rattle.rules.specs.Record.{natural, layout_by}
use Rattle.rules.proofs.Same.{both_true}
use Rattle.cells.specs.View.{code, view, Low}
use Rattle.cells.proofs.View.{view_get_or, low_pos}
use Rattle.tables.specs.Rows.{rows_at, HasRows}
use Rattle.records.specs.Judging.{Readable, few_entries}
use Rattle.records.proofs.Naturals.{has_rows, naturals_part, entries_seen}

-- ---- bounds

-- a number as the natural one that it is
one_natural : {m n : ℕ} → pos m ≡ pos n → m ≡ n
one_natural e = cc

-- a difference that is natural
difference : (r d w : ℕ) → pos r -ℤ pos d ≡ pos w → d + w ≡ r
difference r zero w e = let same : r + 0 ≡ w = one_natural e in omega arith
difference r (suc d) w e = by (ltb r (suc d)) refl
  where
    by : (t : Bool) → ltb r (suc d) ≡ t → suc d + w ≡ r
    by true f = absurd (let z : ◌≡◌ {A = ℕ} 0 1 = cc (rw f at e) in omega arith)
    by false f = let least = ltb-false r (suc d) f in let same : r - suc d ≡ w = one_natural (rw f at e) in omega arith

-- where the sections of a readable record lie, all of it within the slice
pub record Bounds (h : Head) (s : List ℤ) : Type 0 where
  pub rank_few : h.rank ≤ 4
  pub rows_few : h.rows.count ≤ 128
  pub states_few : h.states.count ≤ 128
  pub inputs_few : h.inputs.count ≤ 128
  pub shape_lies_in : 3 + h.rank ≤ h.inputs.next
  pub rows_in : h.rows.first + h.rows.count * h.width ≤ h.inputs.next
  pub states_in : h.states.first + h.states.count * (h.rank + 1) ≤ h.inputs.next
  pub inputs_in : h.inputs.first + h.inputs.count * (h.rank + 1) ≤ h.inputs.next
  pub end_in : h.inputs.next ≤ length s
  pub narrow : h.width ≤ h.rank

-- a number of a low front is natural
low_natural : (k size : ℕ) (s : List ℤ) → k < size → Low (take size (view s)) → get_or s k (pos 0) ≡ pos (get_or (view s) k 0)
low_natural k size s h f =
    let low : code (get_or s k (pos 0)) < 2 ^ 31 = rw (get_or-take size (view s) k 0 h, view_get_or s k) at (f k) in
    low_pos (get_or s k (pos 0)) low ∙ ap pos (sym (view_get_or s k))

module _ {h : Head} {s : List ℤ} (p : Readable h s) where
  -- D and the width of the rows make up the rank
  pub axes : get_or (view s) 1 0 + h.width ≡ h.rank
  axes =
      let g = p.head in
      let e = low_natural 1 h.inputs.next s (omega arith) p.low in
      difference h.rank (get_or (view s) 1 0) h.width (rw (g.dense, e) at g.width)

  -- all bounds
  pub bounds : Bounds h s
  unfolding few_entries
  bounds =
      let a = both_true _ _ p.few in
      let b = both_true _ _ a.0 in
      let c = both_true _ _ b.0 in
      let rank = leb-true h.rank 4 c.0 in
      let rows = leb-true h.rows.count 128 c.1 in
      let states = leb-true h.states.count 128 b.1 in
      let inputs = leb-true h.inputs.count 128 a.1 in
      let sum = axes in
      let g = p.head in
      record {
        rank_few = rank;
        rows_few = rows;
        states_few = states;
        inputs_few = inputs;
        shape_lies_in = omega arith;
        rows_in = omega arith;
        states_in = omega arith;
        inputs_in = omega arith;
        end_in = omega arith;
        narrow = omega arith;
      }

-- ---- the layout

-- the layout as the view of the slice shows it
abbrev pub seen : Head → List ℤ → Layout
seen h s = record {
  kind = get_or (view s) 0 0;
  dense = get_or (view s) 1 0;
  shape = part 3 h.rank (view s);
  rows = rows_at h.rows.first h.width h.rows.count s;
  states = rows_at h.states.first (h.rank + 1) h.states.count s;
  inputs = rows_at h.inputs.first (h.rank + 1) h.inputs.count s;
}

module _ {h : Head} {s : List ℤ} (p : Readable h s) where
  -- the rows lie in the slice
  pub rows_room : h.rows.first + h.rows.count * h.width ≤ length s
  rows_room = omega (arith, bounds p)

  -- so do the extents of their axes
  pub axes_room : 3 + h.width ≤ length s
  axes_room = omega (arith, bounds p)

  -- the dependencies on states are rows of the slice
  pub has_states : HasRows h.states.first (h.rank + 1) h.states.count s
  has_states = let b = bounds p in has_rows h.states.first (h.rank + 1) h.states.count h.inputs.next s b.states_in b.end_in p.low

  -- so are those on inputs
  pub has_inputs : HasRows h.inputs.first (h.rank + 1) h.inputs.count s
  has_inputs = let b = bounds p in has_rows h.inputs.first (h.rank + 1) h.inputs.count h.inputs.next s b.inputs_in b.end_in p.low

  -- so are the rows
  pub has_rows_there : HasRows h.rows.first h.width h.rows.count s
  has_rows_there = let b = bounds p in has_rows h.rows.first h.width h.rows.count h.inputs.next s b.rows_in b.end_in p.low

  -- the layout of the record is the one that the slice shows
  pub layout_seen : layout_by h s ≡ seen h s
  unfolding layout_by natural
  layout_seen =
      let b = bounds p in
      let size = h.inputs.next in
      let kind : natural h.kind ≡ get_or (view s) 0 0 = rw (p.head.kind, low_natural 0 size s (omega arith) p.low) in
      let dense : natural h.dense ≡ get_or (view s) 1 0 = rw (p.head.dense, low_natural 1 size s (omega arith) p.low) in
      rw (
        ← add-one h.rank,
        kind,
        dense,
        naturals_part 3 h.rank size s b.shape_lies_in p.low,
        entries_seen h.width size h.rows s b.rows_few b.rows_in p.low,
        entries_seen (h.rank + 1) size h.states s b.states_few b.states_in p.low,
        entries_seen (h.rank + 1) size h.inputs s b.inputs_few b.inputs_in p.low,
      )

pub ruleset rooms = (rows_room, axes_room, has_rows_there, has_states, has_inputs)
