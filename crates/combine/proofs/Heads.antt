-- `write_head`: rank and extents are copied, kind and D stored. Assumes nothing.
use mathlib.Core.Path.{◌≡◌, sym, ap, ◌∙◌}
use mathlib.Core.List.{List}
use mathlib.Core.Logic.{◌⊎◌, inl, inr}
use Prim.Native.Nat.{ℕ, ◌+◌, ◌≤◌}
use native.Mathlib.Nat.{add-zero}
use native.Mathlib.Omega.{arith}
use lib.IntN.{ℤ, pos}
use lib.ListN.{length, get_or, set}
use Rattle.rules.specs.Buffers.{part, put}
use Rattle.rules.proofs.Buffers.{length_part, part_part}
use Rattle.cells.specs.View.{view}
use Rattle.cells.proofs.View.{stored_number}
use Rattle.tables.specs.Rows.{row_at}
use Rattle.tables.specs.Tables.{Only}
use Rattle.tables.proofs.Rows.{row_number, row_put}
use Rattle.tables.proofs.Only.{only_then, only_wider, only_put, only_set, view_outside, row_outside}
use Rattle.parts.specs.Parts.{rows_from, left, target, rank_at}
use Rattle.parts.proofs.Holds.{rank_most}
use Rattle.combine.specs.Window.{HeadAsked, HeadMade}

module _ {kind dense : ℕ} {s : List ℤ} (q : HeadAsked kind dense s) where
  -- the numbers that are copied
  pub ask_move : (left + 2 + 5 ≤ length s) × (target + 2 + 5 ≤ length s)
  ask_move = (omega (arith, q.window.room), omega (arith, q.window.room))

  pub move_apart : (left + 2 + 5 ≤ target + 2) ⊎ (target + 2 + 5 ≤ left + 2)
  move_apart = inl (omega arith)

  pub dense_small : dense ≤ 4
  dense_small = omega (arith, q.dense_most, rank_most q.window.first)

  module _ {t u v : List ℤ} (copied : t ≡ put (target + 2) (part (left + 2) 5 s) s) (kinded : u ≡ set t target (pos kind)) (densed : v ≡ set u (target + 1) (pos dense)) where
    copy_length : length (part (left + 2) 5 s) ≡ 5
    copy_length = length_part (left + 2) 5 s (omega (arith, ask_move.0))

    copy_only : Only target (target + rows_from) s t
    copy_only =
        rw copied
        (only_wider (only_put (target + 2) (part (left + 2) 5 s) s (rw copy_length ask_move.1)) target (target + rows_from) (omega arith) (rw copy_length (omega arith)))

    kind_only : Only target (target + 1) t u
    kind_only = rw kinded (only_set target (pos kind) t)

    dense_only : Only (target + 1) (target + 2) u v
    dense_only = rw densed (only_set (target + 1) (pos dense) u)

    size_t : length t ≡ length s
    size_t = copy_only.size

    head_only : Only target (target + rows_from) s v
    head_only =
        only_then copy_only
        (only_then (only_wider kind_only target (target + rows_from) (omega arith) (omega arith)) (only_wider dense_only target (target + rows_from) (omega arith) (omega arith)))

    -- rank and extents
    numbers : row_at (target + 2) 5 v ≡ row_at (left + 2) 5 s
    numbers =
        row_outside dense_only (target + 2) 5 (inr (omega arith))
        ∙ row_outside kind_only (target + 2) 5 (inr (omega arith))
        ∙ rw copied (row_put (target + 2) (left + 2) 5 s s (omega (arith, ask_move.1)) ask_move.0)

    pub head_made : HeadMade kind dense s v
    head_made = record {
      kind_is = view_outside dense_only target (inl (omega arith)) ∙ rw kinded (stored_number target kind t (omega (arith, ask_move.1, size_t)));
      dense_is = rw densed (stored_number (target + 1) dense u (omega (arith, ask_move.1, size_t, kind_only.size)));
      rank_is = first (target + 2) v ∙ ap (λ (l : List ℕ). get_or l 0 0) numbers ∙ sym (first (left + 2) s);
      shape_is = behind target v ∙ ap (part 1 (rank_at left s)) numbers ∙ sym (behind left s);
      only = head_only;
    }
      where
        first : (p : ℕ) (l : List ℤ) → get_or (view l) p 0 ≡ get_or (row_at p 5 l) 0 0
        first p l = sym (rw add-zero at (row_number p 5 0 l (omega arith)))

        behind : (p : ℕ) (l : List ℤ) → part (p + 3) (rank_at left s) (view l) ≡ part 1 (rank_at left s) (row_at (p + 2) 5 l)
        behind p l =
            let m = rank_most q.window.first in
            let e : p + 2 + 1 ≡ p + 3 = omega arith in
            sym (rw e at (part_part (p + 2) 5 1 (rank_at left s) (view l) (omega arith)))

pub ruleset laws = (ask_move, move_apart, dense_small, head_made)
