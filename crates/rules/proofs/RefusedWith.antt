-- Which numbers each operation can be refused with, behind those that are judged of its arguments. Assumes nothing.
use mathlib.Core.Path.{◌≡◌, refl}
use mathlib.Core.Bool.{not, ◌&&◌, ◌||◌}
use mathlib.Core.List.{List, [], ◌∷◌}
use Prim.Native.Nat.{ℕ, zero, suc, ◌+◌}
use native.Mathlib.Omega.{arith}
use lib.Dec.{eqb, ltb}
use lib.IntN.{ℤ}
use lib.ListN.{length, drop}
use Rattle.rules.specs.declared.Mode.{Mode}
use Rattle.rules.specs.Lists.{all, none, same, fit_to}
use Rattle.rules.specs.Refusals.{Verdict, in_form, ◌then◌, Reason, ◌when◌, lowest}
use Rattle.rules.specs.Layout.{Layout, rank, is_dense, is_sparse, few, made}
use Rattle.rules.specs.Soundness.{Sound}
use Rattle.rules.specs.CountsAndForms.{dense_if_full}
use Rattle.rules.specs.Removal.{lists_row}
use Rattle.rules.specs.Pairs.{with_merged, alike_diagonals, lowered, lower_d, bars_expansion, few_of}
use Rattle.rules.specs.Union.{joined, union_of_rows, union}
use Rattle.rules.specs.Intersect.{filtered_by, bars_merged, with_dense, common, intersect_of_rows, intersect}
use Rattle.rules.specs.ContractLastAxis.{contract_last_axis}
use Rattle.rules.specs.Permute.{is_permutation, permute}
use Rattle.rules.specs.FilterDepsFrom.{cannot_cut, filter_deps_from}
use Rattle.rules.specs.Stretching.{shared_axes_fit, broadcast_to_shape, broadcast_to_rank}
use Rattle.rules.proofs.Refusing.{Refusing, Reasons, refusing_if, refusing_then, refusing_form, refusing_lowest, refusing_made}
use Rattle.rules.proofs.Contracting.{contract_scalar, contract_given}

-- reasons of which P holds, and then such a verdict
pub refusing_step : (P : ℕ → Type 0) (reasons : List Reason) → Reasons P reasons → (v : Verdict Layout) → Refusing P v → Refusing P (lowest reasons then λ _. v)
refusing_step P reasons p v q = refusing_then P (lowest reasons) (λ _. v) (refusing_lowest P reasons p) (λ _. q)

-- ---- two layouts: 6, 11, 12 and 13

module _ (P : ℕ → Type 0) (p6 : P 6) (p11 : P 11) (p12 : P 12) (p13 : P 13) (a b : Layout) where
  -- a layout that is judged
  refusing_layout : (l : Layout) → Refusing P (made l)
  refusing_layout = refusing_made P p12 p13

  -- `union`
  pub union_refusing : Refusing P (union a b)
  unfolding union union_of_rows
  union_refusing =
      let d : ℕ = lower_d a b in
      let x : Layout = lowered a d in
      let y : Layout = lowered b d in
      refusing_step P (6 when not (same a.shape b.shape) ∷ []) (p6, tt) _
      (refusing_if P (is_dense a || is_dense b) _ _ (λ _. refusing_layout _)
      (λ _. refusing_if P (alike_diagonals a b) _ _ (λ _. refusing_layout _)
      (λ _. refusing_step P
      (11 when (bars_expansion a || bars_expansion b) ∷ 12 when (lists_row a d || lists_row b d) ∷ 13 when not (few x.rows && few y.rows) ∷ [])
      (p11, (p12, (p13, tt))) (made (with_merged a b (joined x y))) (refusing_layout _))))

  -- `intersect` with a dense one
  refusing_with_dense : (other : Layout) → Refusing P (with_dense a b other)
  unfolding with_dense
  refusing_with_dense other = refusing_step P (11 when bars_merged a b other ∷ []) (p11, tt) _ (refusing_layout _)

  -- `intersect` of rows
  refusing_common : Refusing P (intersect_of_rows a b)
  unfolding intersect_of_rows
  refusing_common =
      let d : ℕ = lower_d a b in
      let x : Layout = lowered a d in
      let y : Layout = lowered b d in
      refusing_step P
      (11 when (bars_expansion a || bars_expansion b || bars_merged x y (common x y)) ∷ 12 when (lists_row a d || lists_row b d) ∷ 13 when not (few_of x && few_of y) ∷ [])
      (p11, (p12, (p13, tt))) (in_form dense_if_full (made (filtered_by x y (common x y)))) (refusing_form P dense_if_full (made _) (refusing_layout _))

  -- `intersect`
  pub intersect_refusing : Refusing P (intersect a b)
  unfolding intersect
  intersect_refusing =
      refusing_step P (6 when not (same a.shape b.shape) ∷ []) (p6, tt) _
      (refusing_if P (is_dense a) _ _ (λ _. refusing_with_dense b)
      (λ _. refusing_if P (is_dense b) _ _ (λ _. refusing_with_dense a)
      (λ _. refusing_if P (alike_diagonals a b) _ _ (λ _. refusing_layout _) (λ _. refusing_common))))

-- ---- one layout

-- `contract_last_axis` of a sound layout: 7
pub contract_refusing_sound : (P : ℕ → Type 0) → P 7 → {l : Layout} → Sound l → Refusing P (contract_last_axis l)
contract_refusing_sound P p7 {l} s = by (rank l) refl
  where
    by : (n : ℕ) → rank l ≡ n → Refusing P (contract_last_axis l)
    by zero e = rw (contract_scalar l e) p7
    by (suc n) e = rw (contract_given s (omega arith)) tt

module _ (P : ℕ → Type 0) (p12 : P 12) (p13 : P 13) where
  -- `contract_last_axis` of any: 7, and those of the layout that is made
  pub contract_refusing : P 7 → (l : Layout) → Refusing P (contract_last_axis l)
  unfolding contract_last_axis
  contract_refusing p7 l = refusing_step P (7 when eqb (rank l) 0 ∷ []) (p7, tt) _ (refusing_made P p12 p13 _)

  -- `permute`: 8, 11, 12 and 13
  pub permute_refusing : P 8 → P 11 → (l : Layout) (entries : List ℤ) → Refusing P (permute l entries)
  unfolding permute
  permute_refusing p8 p11 l entries =
      refusing_step P (8 when not (is_permutation l entries) ∷ 11 when (not (none entries) && is_sparse l && ltb 0 l.dense) ∷ []) (p8, (p11, tt)) _
      (refusing_if P (none entries) _ _ (λ _. tt) (λ _. refusing_made P p12 p13 _))

  -- `filter_deps_from`: 10, 12 and 13
  pub filter_refusing : P 10 → (target source : Layout) (start end : ℕ) → Refusing P (filter_deps_from target source start end)
  unfolding filter_deps_from
  filter_refusing p10 target source start end = refusing_step P (10 when cannot_cut target source ∷ []) (p10, tt) _ (refusing_made P p12 p13 _)

  -- stretching to a shape: 6, 11, 12 and 13
  pub stretch_refusing : P 6 → P 11 → (mode : Mode) (l : Layout) (shape : List ℕ) → Refusing P (broadcast_to_shape mode l shape)
  unfolding broadcast_to_shape
  stretch_refusing p6 p11 mode l shape =
      refusing_step P (6 when not (shared_axes_fit l.shape shape) ∷ 11 when ltb (l.dense + length shape) (rank l) ∷ []) (p6, (p11, tt)) _
      (refusing_made P p12 p13 _)

  -- and to a rank
  pub rank_refusing : P 6 → P 11 → (mode : Mode) (l : Layout) (r : ℕ) → Refusing P (broadcast_to_rank mode l r)
  unfolding broadcast_to_rank
  rank_refusing p6 p11 mode l r =
      refusing_step P (6 when not (all (eqb 1) (drop r l.shape)) ∷ []) (p6, tt) _ (stretch_refusing p6 p11 mode l (fit_to r 1 l.shape))
