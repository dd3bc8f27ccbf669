-- A layout that is made, kind by kind: what makes it formed, and when it is refused with 12. Assumes nothing.
use mathlib.Core.Path.{◌≡◌, refl, ◌∙◌}
use mathlib.Core.Bool.{Bool, true, false, not, ◌&&◌}
use mathlib.Core.List.{List, [], ◌∷◌}
use Prim.Native.Nat.{ℕ, suc, ◌≤◌, ◌<◌}
use native.Mathlib.Omega.{arith}
use borrow.Author.Tests.{le-leb}
use lib.Dec.{eqb}
use lib.ListN.{length, get_or, take}
use Rattle.rules.specs.Limits.{rank_limit, entry_limit, product_limit, component_limit}
use Rattle.rules.specs.Lists.{if, product, all_below}
use Rattle.rules.specs.RowsInOrder.{sorted, increasing, Each, Increasing, increasing_nil}
use Rattle.rules.specs.Refusals.{given, refused, ◌then◌, ◌when◌, lowest}
use Rattle.rules.specs.Layout.{Layout, rank, width, is_sparse, nonzero_product, alike, diagonal_fits, well_formed, within_sizes, made}
use Rattle.rules.specs.Soundness.{DepsFit, WellFormed, Sound}
use Rattle.rules.specs.CountsAndForms.{to_dense, dense_if_full}
use Rattle.rules.proofs.Same.{true_not_false}
use Rattle.rules.proofs.Sets.{each_nil, true_increasing}
use Rattle.rules.proofs.Tests.{true_both}
use Rattle.rules.proofs.Soundness.{well_formed_true}
use Rattle.rules.proofs.Made.{Formed, sound_formed, formed_made}

-- ---- a shape and dependencies

-- a dependency of rank n: n components, each at most 65,535, and a number
pub record DepOfRank (n : ℕ) (d : List ℕ) : Type 0 where
  pub size : length d ≡ suc n
  pub small : (k : ℕ) → k < n → get_or d k 0 ≤ component_limit

-- dependencies of rank n, in order
pub record DepsOfRank (n : ℕ) (deps : List (List ℕ)) : Type 0 where
  pub each : Each (DepOfRank n) deps
  pub increase : Increasing deps

-- its shape and its dependencies are as soundness has them, whatever its kind, D and rows
pub record Framed (l : Layout) : Type 0 where
  pub rank_most : rank l ≤ rank_limit
  pub product_most : nonzero_product l.shape ≤ product_limit
  pub states_are : DepsOfRank (rank l) l.states
  pub inputs_are : DepsOfRank (rank l) l.inputs

module _ {l : Layout} (s : Sound l) where
  -- the state dependencies of a sound layout are of its rank
  pub states_of_rank : DepsOfRank (rank l) l.states
  states_of_rank = record {
    each = λ d m. record { size = s.form.states_fit.lengths d m; small = s.sizes.states_small d m };
    increase = s.form.states_fit.increase;
  }

  -- its input dependencies are
  pub inputs_of_rank : DepsOfRank (rank l) l.inputs
  inputs_of_rank = record {
    each = λ d m. record { size = s.form.inputs_fit.lengths d m; small = s.sizes.inputs_small d m };
    increase = s.form.inputs_fit.increase;
  }

  -- a sound layout is framed
  pub sound_framed : Framed l
  sound_framed = record {
    rank_most = s.form.rank_most;
    product_most = s.sizes.product_most;
    states_are = states_of_rank;
    inputs_are = inputs_of_rank;
  }

-- no dependencies fit any layout
pub no_deps_fit : (l : Layout) → DepsFit l []
no_deps_fit l = record { lengths = each_nil _; increase = increasing_nil }

-- ---- formed, kind by kind

module _ {l : Layout} (f : Framed l) where
  states_framed : DepsFit l l.states
  states_framed = record { lengths = λ d m. (f.states_are.each d m).size; increase = f.states_are.increase }

  inputs_framed : DepsFit l l.inputs
  inputs_framed = record { lengths = λ d m. (f.inputs_are.each d m).size; increase = f.inputs_are.increase }

  -- dense: D = R, and no rows
  pub dense_framed : l.kind ≡ 0 → l.dense ≡ rank l → l.rows ≡ [] → Formed l
  unfolding sorted
  dense_framed k d n = record {
    form = record {
      kind_most = omega arith;
      dense_most = omega arith;
      rank_most = f.rank_most;
      sparse_rows = λ _. n;
      rows_distinct = rw n;
      row_lengths = rw n (each_nil _);
      rows_lie_below = rw n (each_nil _);
      dense_all = λ _. d;
      diagonal_wide = λ i. absurd (omega arith);
      diagonal_alike = λ i. absurd (omega arith);
      states_fit = states_framed;
      inputs_fit = inputs_framed;
    };
    product_most = f.product_most;
    states_small = λ d m. (f.states_are.each d m).small;
    inputs_small = λ d m. (f.inputs_are.each d m).small;
  }

  -- diagonal: R - D at least 1, its extents alike, and no rows
  pub diagonal_framed : l.kind ≡ 1 → 1 ≤ width l → alike (take (width l) l.shape) ≡ true → l.rows ≡ [] → Formed l
  unfolding sorted
  diagonal_framed k w a n = record {
    form = record {
      kind_most = omega arith;
      dense_most = omega arith;
      rank_most = f.rank_most;
      sparse_rows = λ _. n;
      rows_distinct = rw n;
      row_lengths = rw n (each_nil _);
      rows_lie_below = rw n (each_nil _);
      dense_all = λ i. absurd (omega arith);
      diagonal_wide = λ _. w;
      diagonal_alike = λ _. a;
      states_fit = states_framed;
      inputs_fit = inputs_framed;
    };
    product_most = f.product_most;
    states_small = λ d m. (f.states_are.each d m).small;
    inputs_small = λ d m. (f.inputs_are.each d m).small;
  }

  -- sparse: rows of R - D numbers below the extents, no two equal
  pub sparse_framed : l.kind ≡ 2 → l.dense ≤ rank l → length (sorted l.rows) ≡ length l.rows →
      Each (λ r. length r ≡ width l) l.rows → Each (λ r. all_below r l.shape ≡ true) l.rows → Formed l
  sparse_framed k h o w b = record {
    form = record {
      kind_most = omega arith;
      dense_most = h;
      rank_most = f.rank_most;
      sparse_rows = λ n. absurd (n k);
      rows_distinct = o;
      row_lengths = w;
      rows_lie_below = b;
      dense_all = λ i. absurd (omega arith);
      diagonal_wide = λ i. absurd (omega arith);
      diagonal_alike = λ i. absurd (omega arith);
      states_fit = states_framed;
      inputs_fit = inputs_framed;
    };
    product_most = f.product_most;
    states_small = λ d m. (f.states_are.each d m).small;
    inputs_small = λ d m. (f.inputs_are.each d m).small;
  }

-- the dense layout of a framed one is formed
pub to_dense_framed : {l : Layout} → Framed l → Formed (to_dense l)
unfolding to_dense
to_dense_framed f =
    dense_framed (record { rank_most = f.rank_most; product_most = f.product_most; states_are = f.states_are; inputs_are = f.inputs_are }) refl refl refl

-- ---- the verdict

-- a formed layout with few entries is sound
pub formed_sound : {l : Layout} → Formed l → length l.rows ≤ entry_limit → length l.states ≤ entry_limit → length l.inputs ≤ entry_limit → Sound l
formed_sound f r s i = record {
  form = f.form;
  sizes = record {
    product_most = f.product_most;
    rows_few = r;
    states_few = s;
    inputs_few = i;
    states_small = f.states_small;
    inputs_small = f.inputs_small;
  };
}

-- the dense layout of a sound one is sound
pub to_dense_sound : {l : Layout} → Sound l → Sound (to_dense l)
unfolding to_dense
to_dense_sound s = formed_sound (to_dense_framed (sound_framed s)) (omega arith) s.sizes.states_few s.sizes.inputs_few

-- what holds of a layout and of its dense one holds of it dense if full
pub if_full : (P : Layout → Type 0) (l : Layout) → P l → P (to_dense l) → P (dense_if_full l)
unfolding dense_if_full
if_full P l p q = go (is_sparse l && eqb (length l.rows) (product l.shape))
  where
    go : (t : Bool) → P (if t (to_dense l) l)
    go true = q
    go false = p

-- a sound layout is so dense if full
pub full_sound : {l : Layout} → Sound l → Sound (dense_if_full l)
full_sound {l} s = if_full Sound l s (to_dense_sound s)

-- a sound layout is given
pub sound_given : {l : Layout} → Sound l → made l ≡ given l
sound_given {l} s =
    formed_made (sound_formed s) ∙ rw (
      le-leb (length l.rows) entry_limit s.sizes.rows_few,
      le-leb (length l.states) entry_limit s.sizes.states_few,
      le-leb (length l.inputs) entry_limit s.sizes.inputs_few,
    )

-- a layout that is not well formed is refused with 12
pub unformed_made : {l : Layout} → (WellFormed l → ⊥) → made l ≡ refused 12
unfolding made lowest
unformed_made {l} n = go (well_formed l) refl
  where
    go : (t : Bool) → well_formed l ≡ t → (lowest (12 when not t ∷ 13 when not (within_sizes l) ∷ []) then λ _. given l) ≡ refused 12
    go true e = absurd (n (well_formed_true e))
    go false e = refl

-- a diagonal that does not fit is
pub bad_diagonal_made : (l : Layout) → l.kind ≡ 1 → diagonal_fits l ≡ false → made l ≡ refused 12
bad_diagonal_made l k e = unformed_made (λ w. true_not_false (true_both (le-leb 1 (width l) (w.diagonal_wide k)) (w.diagonal_alike k)) e)

-- dependencies that do not increase are
pub bad_deps_made : (l : Layout) → increasing l.states && increasing l.inputs ≡ false → made l ≡ refused 12
bad_deps_made l e = unformed_made (λ w. true_not_false (true_both (true_increasing w.states_fit.increase) (true_increasing w.inputs_fit.increase)) e)
