-- Module 11, `permute`: a layout with its axes moved.
use Rattle.std.specs.Prelude.{Bool, false, not, ◌&&◌, ◌||◌, List, [], ◌∷◌, map, ℕ, suc, length, eqb, ltb, ℤ}
use Rattle.rules.specs.Lists.{if, all, any, none, below, largest}
use Rattle.rules.specs.RowsInOrder.{sorted}
use Rattle.rules.specs.Refusals.{Verdict, given, ◌then◌, ◌when◌, lowest}
use Rattle.rules.specs.Layout.{Layout, rank, is_dense, is_sparse, made}
use Rattle.rules.specs.Record.{naturals, layout_in, sound}
use Rattle.rules.specs.Arguments.{up_to, over_record, short_result, short_work}
use Rattle.rules.specs.Dependencies.{on_index}
use Rattle.rules.specs.CountsAndForms.{min_rank}

-- an entry stands there twice
unfoldable pub repeats : List ℕ → Bool
repeats [] = false
repeats (p ∷ ps) = any (eqb p) ps || repeats ps

-- 8: longer than R, shorter than `min_rank`, an entry over 3 or negative, an entry twice
unfoldable pub is_permutation : Layout → List ℤ → Bool
is_permutation l entries =
    not (ltb (rank l) (length entries))
    && not (ltb (length entries) (min_rank l))
    && all (up_to 3) entries
    && not (repeats (naturals entries))

-- what goes to axis k: the number whose entry is k, or a missing one
unfoldable pub moved_to : ℕ → ℕ → List ℕ → List ℕ → ℕ
moved_to k missing [] numbers = missing
moved_to k missing (p ∷ entries) [] = missing
moved_to k missing (p ∷ entries) (x ∷ numbers) = if (eqb p k) x (moved_to k missing entries numbers)

-- the new rank is the largest entry plus one
unfoldable pub moved : ℕ → List ℕ → List ℕ → List ℕ
moved missing entries numbers = map (λ k. moved_to k missing entries numbers) (below (suc (largest entries)))

-- untouched axes are 1; rows are moved and NOT sorted; dependencies are moved alike and merged
unfoldable pub permuted : Layout → List ℕ → Layout
permuted l entries = record {
  kind = l.kind;
  dense = if (is_dense l) (suc (largest entries)) l.dense;
  shape = moved 1 entries l.shape;
  rows = map (moved 0 entries) l.rows;
  states = sorted (map (on_index (moved 0 entries)) l.states);
  inputs = sorted (map (on_index (moved 0 entries)) l.inputs);
}

-- empty: a copy; 11: otherwise sparse with D > 0
unfoldable pub permute : Layout → List ℤ → Verdict Layout
permute l entries =
    lowest (8 when not (is_permutation l entries) ∷ 11 when (not (none entries) && is_sparse l && ltb 0 l.dense) ∷ [])
    then λ _. if (none entries) (given l) (made (permuted l (naturals entries)))

-- ---- the call

unfoldable pub permute_call : List ℤ → List ℤ → ℕ → ℕ → Verdict Layout
permute_call s entries result work =
    lowest (1 when over_record s ∷ 2 when (short_result result || short_work work) ∷ 3 when not (sound s) ∷ [])
    then λ _. permute (layout_in s) entries
