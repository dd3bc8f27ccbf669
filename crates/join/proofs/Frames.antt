-- A layout made in the target: its head and rows, then its dependencies. Assumes nothing.
use Rattle.std.specs.Prelude.{Err, Ok, Result, ⊤}
use Rattle.rules.specs.declared.Refusal.{Refusal}
use mathlib.Core.Path.{◌≡◌, refl, sym, ap, ◌∙◌}
use mathlib.Core.Bool.{Bool, true, false}
use mathlib.Core.List.{List, []}
use mathlib.Core.Logic.{inl}
use Prim.Native.Nat.{ℕ, ◌+◌, ◌-◌, ◌<◌, ◌≤◌}
use native.Mathlib.Omega.{arith}
use lib.IntN.{ℤ, pos}
use lib.ListN.{length, get_or, set, take, drop}
use lib.Seq.{take_all}
use Rattle.rules.specs.declared.Refusal.TheVariants.{MadeTooLarge}
use Rattle.rules.specs.Buffers.{part}
use Rattle.rules.specs.Refusals.{given, number_of}
use Rattle.rules.specs.Layout.{Layout, rank, few, within_product, within_sizes, made}
use Rattle.rules.specs.Soundness.{WellFormed, DepsLow}
use Rattle.rules.specs.Concatenate.{Block, joined_deps}
use Rattle.rules.proofs.Same.{true_not_false}
use Rattle.rules.proofs.Made.{form_made, made_sound}
use Rattle.cells.specs.View.{view}
use Rattle.cells.proofs.View.{view_part}
use Rattle.tables.specs.Rows.{row_at}
use Rattle.tables.specs.Tables.{table_at, room_end, Only}
use Rattle.tables.proofs.Rows.{row_length}
use Rattle.tables.proofs.Only.{only_set, only_then, only_wider, view_outside, row_outside, table_outside, ready_outside}
use Rattle.tables.proofs.Tables.{table_length}
use Rattle.tables.proofs.Made.{emptied}
use Rattle.parts.specs.Parts.{part_size, window_size, target, spare, extents_from, rows_from, states_from, inputs_from, kind_at, dense_at, rank_at, layout_at}
use Rattle.parts.specs.Answers.{Says}
use Rattle.parts.proofs.Copied.{number_copied, part_copied}
use Rattle.parts.proofs.Lent.{lent_of, back_in, lent_length, lent_again, back_only}
use Rattle.moving.specs.Sections.{HeadMade}
use Rattle.parts.proofs.Saying.{says_refused}
use Rattle.entries.specs.declared.entries.Listed.TheVariants.{States, Inputs}
use Rattle.entries.specs.Merging.{Tabled, joined, blocks_of}
use Rattle.join.specs.Assembling.{bare, with_joined, Framed, FrameAsked, FrameMade, DepsAsked, DepsMade, CompleteAsked}
use Rattle.join.proofs.Sizes.{sizes_kept}

-- ---- a head, and no rows: `write_frame`

module _ {kind dense r : ℕ} (s : List ℤ) (a : FrameAsked kind dense r s) (extents : List ℤ) (long : length extents ≡ 4) where
  abbrev shape : List ℕ
  shape = row_at 0 r extents

  shape_length : length shape ≡ r
  shape_length = row_length 0 r extents (omega (arith, a.rank_most))

  -- the extents that are lent
  lent_extents : view (take (r - 0) (drop 0 extents)) ≡ shape
  unfolding part
  lent_extents = let e : r - 0 ≡ r = omega arith in rw e (view_part 0 r extents)

  module _ {p : List ℤ} (same : length p ≡ length (lent_of target spare s)) (m : HeadMade kind dense (view (take (r - 0) (drop 0 extents))) (lent_of target spare s) p) where
    abbrev next : List ℤ
    next = back_in target spare s p

    p_length : length p ≡ part_size
    p_length = same ∙ lent_length target spare s (omega arith) (omega (arith, a.room))

    copied : part target part_size next ≡ part 0 part_size p
    unfolding part
    copied = lent_again target spare s (omega arith) (omega (arith, a.room)) p same ∙ sym (take_all part_size p (omega (arith, p_length)))

    next_only : Only target spare s next
    next_only = back_only target spare s (omega arith) (omega (arith, a.room)) p same

    module _ {t : List ℤ} (e : t ≡ set next (target + rows_from) (pos 0)) where
      stored : Only (target + rows_from) (target + rows_from + 1) next t
      stored = rw e (only_set (target + rows_from) (pos 0) next)

      number_there : (k : ℕ) → k < 7 → get_or (view t) (target + k) 0 ≡ get_or (view p) (0 + k) 0
      number_there k h = view_outside stored (target + k) (inl (omega arith)) ∙ number_copied target 0 part_size p next copied k (omega arith)

      shape_there : row_at (target + extents_from) r t ≡ row_at extents_from r p
      shape_there =
          row_outside stored (target + extents_from) r (inl (omega (arith, a.rank_most)))
          ∙ sym (view_part (target + extents_from) r next)
          ∙ ap view (part_copied target 0 part_size p next copied 3 r (omega (arith, a.rank_most)))
          ∙ view_part (0 + extents_from) r p

      size_there : length next ≡ length s
      size_there = next_only.size

      no_rows : (w : ℕ) → w ≤ 4 → table_at (target + rows_from) w t ≡ []
      no_rows w h = rw e (emptied (target + rows_from) w next (omega (arith, size_there, a.room)))

      pub frame_made : FrameMade (bare kind dense shape) s t
      frame_made =
          let h = rw lent_extents at m.head in
          record {
            frame = record {
              kind_is = number_there 0 (omega arith) ∙ h.kind_is;
              dense_is = number_there 1 (omega arith) ∙ h.dense_is;
              rank_is = number_there 2 (omega arith) ∙ h.rank_is;
              shape_is = rw shape_length (shape_there ∙ rw shape_length at h.shape_is);
              rows_are = no_rows (length shape - dense) (omega (arith, shape_length, a.rank_most));
              few = let z = table_length (target + rows_from) 0 t in let y = ap length (no_rows 0 (omega arith)) in omega (arith, z, y);
            };
            size = stored.size ∙ size_there;
          }

-- ---- dependencies: `add_deps`

module _ {r n : ℕ} {places : List ℕ} {starts : List (List ℕ)} {src s : List ℤ} (a : DepsAsked r n places starts src s) where
  abbrev the_blocks : List Block
  the_blocks = blocks_of r n places src

  pub ask_states : (room_end (target + states_from) (r + 1) ≤ spare) × (r + 1 ≤ 5) × (window_size ≤ length s)
  ask_states = (omega (arith, a.rank_most), omega (arith, a.rank_most), a.room)

  module _ {u : List ℤ} {b : Bool} (p : Tabled (target + states_from) (r + 1) r window_size (joined States r the_blocks) s u b) where
    pub states_over : b ≡ false → DepsMade r the_blocks s u false
    states_over e =
        record {
          verdict = rw (← p.verdict, e);
          states = λ z. absurd (true_not_false z refl);
          inputs = λ z. absurd (true_not_false z refl);
          states_ready = λ z. absurd (true_not_false z refl);
          inputs_ready = λ z. absurd (true_not_false z refl);
          only = p.only;
        }

    module _ (e : b ≡ true) where
      pub ask_inputs : (room_end (target + inputs_from) (r + 1) ≤ spare) × (r + 1 ≤ 5) × (window_size ≤ length u)
      ask_inputs = (omega (arith, a.rank_most), omega (arith, a.rank_most), rw p.only.size a.room)

      pub deps_made : {t : List ℤ} {c : Bool} → Tabled (target + inputs_from) (r + 1) r window_size (joined Inputs r the_blocks) u t c → DepsMade r the_blocks s t c
      unfolding joined_deps
      deps_made q =
          let k = p.ready e in
          record {
            verdict = rw (← p.verdict, e) q.verdict;
            states = λ z. table_outside q.only (target + states_from) (r + 1) k.fits.few (inl (omega (arith, a.rank_most))) ∙ p.table e;
            inputs = q.table;
            states_ready = λ z. ready_outside q.only k (inl (omega (arith, a.rank_most)));
            inputs_ready = q.ready;
            only = only_then p.only (only_wider q.only (target + states_from) window_size (omega arith) (omega arith));
          }

-- ---- a layout in its frame

module _ {l : Layout} {t : List ℤ} (f : Framed l t) where
  -- what stands there has the same head and rows
  pub kind_same : (layout_at target t).kind ≡ l.kind
  unfolding layout_at
  kind_same = f.kind_is

  dense_same : (layout_at target t).dense ≡ l.dense
  unfolding layout_at
  dense_same = f.dense_is

  pub shape_same : (layout_at target t).shape ≡ l.shape
  unfolding layout_at
  shape_same = rw f.rank_is f.shape_is

  pub rows_same : (layout_at target t).rows ≡ l.rows
  unfolding layout_at
  rows_same = rw (f.rank_is, f.dense_is) f.rows_are

  -- with the dependencies of all blocks they are the same
  pub joined_same : (r : ℕ) (blocks : List Block) → with_joined r blocks (layout_at target t) ≡ with_joined r blocks l
  joined_same r blocks = rw (kind_same, dense_same, shape_same, rows_same)

  -- it is its own frame
  own_frame : Framed (layout_at target t) t
  own_frame = record {
    kind_is = f.kind_is ∙ sym kind_same;
    dense_is = f.dense_is ∙ sym dense_same;
    rank_is = f.rank_is ∙ ap length (sym shape_same);
    shape_is = ap (λ (k : ℕ). part (target + extents_from) k (view t)) (ap length shape_same) ∙ f.shape_is ∙ sym shape_same;
    rows_are = ap (λ (k : ℕ). table_at (target + rows_from) k t) (rw (shape_same, dense_same)) ∙ f.rows_are ∙ sym rows_same;
    few = f.few;
  }

  module _ {r n : ℕ} {places : List ℕ} {starts : List (List ℕ)} {src : List ℤ} (a : DepsAsked r n places starts src t) (e : rank l ≡ r)
      (form : WellFormed (with_joined r (blocks_of r n places src) l)) (product : within_product l.shape ≡ true) (rows_few : few l.rows ≡ true) where
    pub ask_complete : CompleteAsked r n places starts src t
    ask_complete = record {
      deps = a;
      frame = own_frame;
      rank_is = ap length shape_same ∙ e;
      form = rw (joined_same r (blocks_of r n places src)) form;
      product = rw shape_same product;
      rows_few = rw rows_same rows_few;
    }

  -- what is said of it is said of the layout
  pub said_same : (r : ℕ) (blocks : List Block) {u : List ℤ} {step : (Result ⊤ Refusal)} → Says (made (with_joined r blocks (layout_at target t))) target u step → Says (made (with_joined r blocks l)) target u step
  said_same r blocks p = rw (← joined_same r blocks) p

-- ---- `complete`

module _ {r n : ℕ} {places : List ℕ} {starts : List (List ℕ)} {src s : List ℤ} (a : CompleteAsked r n places starts src s) where
  abbrev blocks : List Block
  blocks = blocks_of r n places src

  abbrev frame : Layout
  frame = layout_at target s

  module _ {t : List ℤ} {b : Bool} (m : DepsMade r blocks s t b) where
    within : within_sizes (with_joined r blocks frame) ≡ b
    within = sizes_kept r blocks frame a.rank_is ∙ rw (a.product, a.rows_few) (sym m.verdict)

    -- too many dependencies, or too large ones: 13
    pub too_large : b ≡ false → Says (made (with_joined r blocks frame)) target t (Err MadeTooLarge)
    unfolding number_of
    too_large e = says_refused MadeTooLarge target t (form_made a.form ∙ rw (within, e))

    module _ (e : b ≡ true) where
      number_stays : (k : ℕ) → k < 520 → get_or (view t) (target + k) 0 ≡ get_or (view s) (target + k) 0
      number_stays k h = view_outside m.only (target + k) (inl (omega arith))

      kind_there : kind_at target t ≡ frame.kind
      kind_there = number_stays 0 (omega arith) ∙ a.frame.kind_is

      dense_there : dense_at target t ≡ frame.dense
      dense_there = number_stays 1 (omega arith) ∙ a.frame.dense_is

      rank_there : rank_at target t ≡ r
      rank_there = number_stays 2 (omega arith) ∙ a.frame.rank_is ∙ a.rank_is

      extents_there : row_at (target + extents_from) r t ≡ frame.shape
      extents_there = row_outside m.only (target + extents_from) r (inl (omega (arith, a.deps.rank_most))) ∙ rw a.rank_is at a.frame.shape_is

      rows_there_lem : table_at (target + rows_from) (r - frame.dense) t ≡ frame.rows
      rows_there_lem =
          table_outside m.only (target + rows_from) (r - frame.dense) a.frame.few (inl (omega (arith, a.deps.rank_most))) ∙ rw a.rank_is at a.frame.rows_are

      layout_there : layout_at target t ≡ with_joined r blocks frame
      unfolding layout_at
      layout_there =
          rw (kind_there, dense_there, rank_there, extents_there, rows_there_lem, m.states e, m.inputs e)

      -- the dependencies are low
      deps_low : DepsLow (layout_at target t)
      unfolding layout_at
      deps_low = rw rank_there (record { states_low = (m.states_ready e).fits.low; inputs_low = (m.inputs_ready e).fits.low })

      -- it is made
      pub is_made : Says (made (with_joined r blocks frame)) target t (Ok tt)
      is_made =
          let is : made (with_joined r blocks frame) ≡ given (layout_at target t) = form_made a.form ∙ rw (within, e, layout_there) in
          let sound = made_sound is in
          record {
            is = sym is;
            holds = λ _. record { inside = rw m.only.size (omega (arith, a.deps.room)); sound = rw (← sound.0) sound.1; low = deps_low };
          }
