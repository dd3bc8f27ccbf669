-- The layout in the target becomes the left one: `carry_table` and `carry_left`. Assumes nothing.
use mathlib.Core.Path.{◌≡◌, sym, ap, ◌∙◌, subst}
use mathlib.Core.List.{List}
use mathlib.Core.Logic.{inl, inr, ◌⊎◌}
use Prim.Native.Nat.{ℕ, ◌+◌, ◌-◌, ◌*◌, ◌<◌, ◌≤◌}
use native.Mathlib.Nat.{zero-add, mul-le-mul_right}
use native.Mathlib.Omega.{arith}
use lib.IntN.{ℤ}
use lib.ListN.{length, get_or}
use Rattle.rules.specs.Buffers.{part, put}
use Rattle.rules.proofs.Buffers.{length_part, part_put_all}
use Rattle.cells.specs.View.{view}
use Rattle.cells.proofs.View.{view_part}
use Rattle.tables.specs.Tables.{table_at, room_end, Only}
use Rattle.tables.proofs.Only.{only_then, only_put, only_wider, part_outside, table_outside, fits_outside}
use Rattle.tables.proofs.Tables.{table_length, table_moved}
use Rattle.parts.specs.Parts.{left, right, target, extents_from, rows_from, states_from, inputs_from, rank_at, width_at, layout_at, Holds}
use Rattle.parts.proofs.Holds.{rank_most, dense_most, rows_fit, states_ready, inputs_ready}
use Rattle.parts.proofs.Copied.{number_copied, part_copied}
use Rattle.fold.specs.Folded.{CarryAsked, TableCarried, Carried}

-- ---- a table: `carry_table`

module _ {at w : ℕ} {s : List ℤ} (a : CarryAsked at w s) {n : ℕ} (count : n ≡ get_or (view s) (target + at) 0) where
  pub size_most : n * w ≤ 128 * w
  size_most = mul-le-mul_right w (rw count a.source.few)

  pub ask_move : ((target + at + (1 + n * w) ≤ length s) × (left + at + (1 + n * w) ≤ length s)) × ((target + at + (1 + n * w) ≤ left + at) ⊎ (left + at + (1 + n * w) ≤ target + at))
  ask_move =
      let r = a.source.room in
      ((omega (arith, size_most), omega (arith, size_most)), inr (omega (arith, size_most, a.before)))

  pub table_carried : {t : List ℤ} → t ≡ put (left + at) (part (target + at) (1 + n * w) s) s → TableCarried at w s t
  table_carried {t} is = record {
    table = same;
    few = rw (← table_length at w t, same, table_length) a.source.few;
    only = only_wider written at (room_end at w) (omega arith) (omega (arith, size_most));
  }
    where
      block : List ℤ
      block = part (target + at) (1 + n * w) s

      long : length block ≡ 1 + n * w
      long = length_part (target + at) (1 + n * w) s ask_move.0.0

      put_there : t ≡ put at block s
      put_there = rw (zero-add at) at is

      same : table_at at w t ≡ table_at (target + at) w s
      same = rw put_there (table_moved (target + at) at w n s count ask_move.0.0 (omega (arith, ask_move.0.1)))

      written : Only at (at + (1 + n * w)) s t
      written = rw put_there (subst (λ z. Only at (at + z) s (put at block s)) long (only_put at block s (rw long (omega (arith, ask_move.0.1)))))

-- ---- the layout: `carry_left`

module _ {s : List ℤ} (h : Holds target s) where
  -- rank and width, as they were read
  module _ {r d : ℕ} (rank_is : r ≡ get_or (view s) (target + 2) 0) (dense_is : d ≡ get_or (view s) (target + 1) 0) where
    pub width_fits : d ≤ r
    width_fits = rw (rank_is, dense_is) (dense_most h)

    pub rank_small : r ≤ 4
    rank_small = rw rank_is (rank_most h)

    pub ask_head : ((target + rows_from ≤ length s) × (left + rows_from ≤ length s)) × ((target + rows_from ≤ left) ⊎ (left + rows_from ≤ target))
    ask_head = ((omega (arith, h.inside), omega (arith, h.inside)), inr (omega arith))

    -- the head is there, and the target is as it was
    module _ {t₁ : List ℤ} (head : t₁ ≡ put left (part target rows_from s) s) where
      head_long : length (part target rows_from s) ≡ rows_from
      head_long = length_part target rows_from s ask_head.0.0

      head_there : part left rows_from t₁ ≡ part target rows_from s
      head_there = rw head (rw head_long at (part_put_all left (part target rows_from s) s (omega arith)))

      head_only : Only left rows_from s t₁
      head_only = rw head (rw head_long at (only_put left (part target rows_from s) s (rw head_long ask_head.0.1)))

      pub ask_rows : CarryAsked rows_from (r - d) t₁
      ask_rows = record {
        source = fits_outside head_only (rw (rank_is, dense_is) (rows_fit h)) (inr (omega arith));
        before = omega (arith, rank_small);
      }

      -- and the rows
      module _ {t₂ : List ℤ} (rows : TableCarried rows_from (r - d) t₁ t₂) where
        rows_only : Only left states_from s t₂
        rows_only = only_then (only_wider head_only left states_from (omega arith) (omega arith)) (only_wider rows.only left states_from (omega arith) (omega (arith, rank_small)))

        pub ask_states : CarryAsked states_from (r + 1) t₂
        ask_states = record {
          source = fits_outside rows_only (rw rank_is (states_ready h).fits) (inr (omega arith));
          before = omega (arith, rank_small);
        }

        -- and the states
        module _ {t₃ : List ℤ} (states : TableCarried states_from (r + 1) t₂ t₃) where
          states_only : Only left inputs_from s t₃
          states_only = only_then (only_wider rows_only left inputs_from (omega arith) (omega arith)) (only_wider states.only left inputs_from (omega arith) (omega (arith, rank_small)))

          pub ask_inputs : CarryAsked inputs_from (r + 1) t₃
          ask_inputs = record {
            source = fits_outside states_only (rw rank_is (inputs_ready h).fits) (inr (omega arith));
            before = omega (arith, rank_small);
          }

          -- and the inputs
          pub layout_carried : {t₄ : List ℤ} → TableCarried inputs_from (r + 1) t₃ t₄ → Carried s t₄
          unfolding layout_at
          layout_carried {t₄} inputs = record { layout = whole; size = inputs.only.size ∙ states_only.size }
            where
              since_rows : Only states_from right t₂ t₄
              since_rows = only_then (only_wider states.only states_from right (omega arith) (omega (arith, rank_small))) (only_wider inputs.only states_from right (omega arith) (omega (arith, rank_small)))

              since_head : Only rows_from right t₁ t₄
              since_head = only_then (only_wider rows.only rows_from right (omega arith) (omega (arith, rank_small))) (only_wider since_rows rows_from right (omega arith) (omega arith))

              front : part left rows_from t₄ ≡ part target rows_from s
              front = part_outside since_head left rows_from (inl (omega arith)) ∙ head_there

              number : (k : ℕ) → k < rows_from → get_or (view t₄) (left + k) 0 ≡ get_or (view s) (target + k) 0
              number k l = number_copied left target rows_from s t₄ front k l

              shape : part (left + extents_from) (rank_at target s) (view t₄) ≡ part (target + extents_from) (rank_at target s) (view s)
              shape =
                  sym (view_part (left + extents_from) (rank_at target s) t₄)
                  ∙ ap view (part_copied left target rows_from s t₄ front extents_from (rank_at target s) (omega (arith, rank_most h)))
                  ∙ view_part (target + extents_from) (rank_at target s) s

              rows_are : table_at (left + rows_from) (width_at target s) t₄ ≡ table_at (target + rows_from) (width_at target s) s
              rows_are =
                  rw (rank_is, dense_is) at
                  (table_outside since_rows rows_from (r - d) rows.few (inl (omega (arith, rank_small))) ∙ rows.table
                  ∙ table_outside head_only (target + rows_from) (r - d) (rows_fit h).few (inr (omega arith)))

              states_are : table_at (left + states_from) (rank_at target s + 1) t₄ ≡ table_at (target + states_from) (rank_at target s + 1) s
              states_are =
                  rw rank_is at
                  (table_outside inputs.only states_from (r + 1) states.few (inl (omega (arith, rank_small))) ∙ states.table
                  ∙ table_outside rows_only (target + states_from) (r + 1) (states_ready h).fits.few (inr (omega arith)))

              inputs_are : table_at (left + inputs_from) (rank_at target s + 1) t₄ ≡ table_at (target + inputs_from) (rank_at target s + 1) s
              inputs_are =
                  rw rank_is at
                  (inputs.table ∙ table_outside states_only (target + inputs_from) (r + 1) (inputs_ready h).fits.few (inr (omega arith)))

              whole : layout_at left t₄ ≡ layout_at target s
              whole = rw (number 0 (omega arith), number 1 (omega arith), number 2 (omega arith), shape, rows_are, states_are, inputs_are)
