-- What is known of a part that holds a layout, and that writing elsewhere leaves it as it was. Assumes nothing.
use mathlib.Core.Path.{◌≡◌, refl, sym, ap, ◌∙◌}
use mathlib.Core.List.{List}
use Prim.Native.Nat.{ℕ, ◌+◌, ◌*◌, ◌≤◌}
use native.Mathlib.Nat.{add-zero, mul-le-mul_right}
use native.Mathlib.Omega.{arith}
use lib.IntN.{ℤ}
use lib.ListN.{length, get_or, length-take, length-drop}
use Rattle.rules.specs.Buffers.{part}
use Rattle.rules.specs.Layout.{rank}
use Rattle.rules.proofs.Buffers.{length_part}
use Rattle.rules.proofs.Low.{rows_low}
use Rattle.cells.specs.View.{view}
use Rattle.cells.proofs.View.{view_length, view_part}
use Rattle.tables.specs.Tables.{table_at, Only, Fits, Ready}
use Rattle.tables.proofs.Only.{part_outside}
use Rattle.tables.proofs.Tables.{table_length}
use Rattle.parts.specs.Parts.{part_size, extents_from, rows_from, states_from, inputs_from, kind_at, dense_at, rank_at, width_at, layout_at, Holds, Apart}
use Rattle.parts.proofs.Copied.{number_copied, part_copied, table_copied}

-- the extents of a rank of at most 4 are all there, so a rank is at most 4 if they are
rank_by : (at : ℕ) (s : List ℤ) → at + part_size ≤ length s → length (part (at + extents_from) (rank_at at s) (view s)) ≤ 4 → rank_at at s ≤ 4
unfolding part
rank_by at s h few = let k = simp (length-take, length-drop, view_length) at few in omega arith

module _ {at : ℕ} {s : List ℤ} (h : Holds at s) where
  -- the kind is 0, 1 or 2
  pub kind_most : kind_at at s ≤ 2
  unfolding layout_at
  kind_most = h.sound.form.kind_most

  -- the rank is at most 4
  pub rank_most : rank_at at s ≤ 4
  unfolding layout_at
  rank_most = rank_by at s h.inside h.sound.form.rank_most

  -- there are as many extents as the rank says
  pub shape_length : length (part (at + extents_from) (rank_at at s) (view s)) ≡ rank_at at s
  shape_length = let r = rank_most in length_part (at + extents_from) (rank_at at s) (view s) (rw view_length (omega (arith, h.inside)))

  -- the rank of the layout is the one that stands there
  pub rank_is : rank (layout_at at s) ≡ rank_at at s
  unfolding layout_at
  rank_is = shape_length

  -- at most all axes are dense
  pub dense_most : dense_at at s ≤ rank_at at s
  unfolding layout_at
  dense_most = rw shape_length at h.sound.form.dense_most

  -- each table has at most 128 rows
  pub rows_few : get_or (view s) (at + rows_from) 0 ≤ 128
  unfolding layout_at
  rows_few = rw table_length at h.sound.sizes.rows_few

  pub states_few : get_or (view s) (at + states_from) 0 ≤ 128
  unfolding layout_at
  states_few = rw table_length at h.sound.sizes.states_few

  pub inputs_few : get_or (view s) (at + inputs_from) 0 ≤ 128
  unfolding layout_at
  inputs_few = rw table_length at h.sound.sizes.inputs_few

  -- the rows fit their room
  pub rows_fit : Fits (at + rows_from) (width_at at s) s
  unfolding layout_at
  rows_fit = record {
    room = let r = rank_most in omega (arith, h.inside);
    few = rows_few;
    low = λ r m k. omega (arith, rows_low h.sound r m k);
  }

  -- the dependencies fit their room, and increase
  pub states_ready : Ready (at + states_from) (rank_at at s + 1) s
  unfolding layout_at
  states_ready = record {
    fits = record { room = let r = rank_most in omega (arith, h.inside); few = states_few; low = h.low.states_low };
    increasing = h.sound.form.states_fit.increase;
  }

  pub inputs_ready : Ready (at + inputs_from) (rank_at at s + 1) s
  unfolding layout_at
  inputs_ready = record {
    fits = record { room = let r = rank_most in omega (arith, h.inside); few = inputs_few; low = h.low.inputs_low };
    increasing = h.sound.form.inputs_fit.increase;
  }

-- ---- the same numbers elsewhere

-- the part at b of t has the numbers of the part at a of s
pub record Moved (a b : ℕ) (s t : List ℤ) : Type 0 where
  pub numbers : part b part_size t ≡ part a part_size s

module _ {a b : ℕ} {s t : List ℤ} (m : Moved a b s t) where
  kind_moved : kind_at b t ≡ kind_at a s
  kind_moved = simp add-zero at (number_copied b a part_size s t m.numbers 0 (omega arith))

  dense_moved : dense_at b t ≡ dense_at a s
  dense_moved = number_copied b a part_size s t m.numbers 1 (omega arith)

  pub rank_moved : rank_at b t ≡ rank_at a s
  rank_moved = number_copied b a part_size s t m.numbers 2 (omega arith)

  module _ (h : Holds a s) where
    shape_moved : part (b + extents_from) (rank_at a s) (view t) ≡ part (a + extents_from) (rank_at a s) (view s)
    shape_moved =
        let r = rank_most h in
        sym (view_part (b + extents_from) (rank_at a s) t) ∙ ap view (part_copied b a part_size s t m.numbers 3 (rank_at a s) (omega arith)) ∙ view_part (a + extents_from) (rank_at a s) s

    table_moved : (k w : ℕ) → Fits (a + k) w s → k + 1 + 128 * w ≤ part_size → table_at (b + k) w t ≡ table_at (a + k) w s
    unfolding table_at
    table_moved k w f l =
        let n : ℕ = get_or (view s) (a + k) 0 in
        let small : n * w ≤ 128 * w = mul-le-mul_right w f.few in
        table_copied (b + k) (a + k) (1 + n * w) s t (part_copied b a part_size s t m.numbers k (1 + n * w) (omega arith)) w n refl (omega arith)

    -- the layout is the same
    pub layout_moved : layout_at b t ≡ layout_at a s
    unfolding layout_at
    layout_moved =
        let r = rank_most h in
        rw (
          kind_moved,
          dense_moved,
          rank_moved,
          shape_moved,
          table_moved 7 (width_at a s) (rows_fit h) (omega arith),
          table_moved states_from (rank_at a s + 1) (states_ready h).fits (omega arith),
          table_moved inputs_from (rank_at a s + 1) (inputs_ready h).fits (omega arith),
        )

    pub holds_moved : b + part_size ≤ length t → Holds b t
    holds_moved l = record { inside = l; sound = rw layout_moved h.sound; low = rw layout_moved h.low }

-- ---- writing elsewhere

module _ {at a e : ℕ} {s t : List ℤ} (o : Only a e s t) (d : Apart at a e) where
  stays : Moved at at s t
  stays = record { numbers = part_outside o at part_size d }

  pub rank_outside : rank_at at t ≡ rank_at at s
  rank_outside = rank_moved stays

  pub layout_outside : Holds at s → layout_at at t ≡ layout_at at s
  layout_outside h = layout_moved stays h

  pub holds_outside : Holds at s → Holds at t
  holds_outside h = holds_moved stays h (rw o.size h.inside)
