-- A layout made on the way: where its form is known, only the counts are left to judge. Assumes nothing.
use mathlib.Core.Path.{◌≡◌, refl, ◌∙◌}
use mathlib.Core.Bool.{Bool, true, false, not, ◌&&◌}
use mathlib.Core.List.{List, [], ◌∷◌, ◌++◌}
use Prim.Native.Nat.{ℕ, ◌≤◌}
use native.Mathlib.Omega.{arith}
use borrow.Author.Tests.{le-leb}
use lib.Dec.{eqb}
use Rattle.rules.specs.Limits.{product_limit}
use Rattle.rules.specs.Lists.{if, keep, product}
use Rattle.rules.specs.RowsInOrder.{merge}
use Rattle.rules.specs.Refusals.{Verdict, given, refused, ◌then◌, ◌when◌, lowest}
use Rattle.rules.specs.Layout.{Layout, rank, few, with_deps, within_product, well_formed, within_sizes, made}
use Rattle.rules.specs.Soundness.{DepsFit, DepsSmall, WellFormed, Sound}
use Rattle.rules.specs.Pairs.{with_merged}
use Rattle.rules.proofs.Sets.{each_append}
use Rattle.rules.proofs.Sorting.{sorted_increasing, sorted_each}
use Rattle.rules.proofs.Soundness.{true_deps_small, well_formed_true, true_well_formed, within_sizes_true}

-- ---- what is judged of a layout that is made

-- the layout, or 13 if one of its lists passes the limit
abbrev pub few_or : Layout → Verdict Layout
few_or l = if (few l.rows && few l.states && few l.inputs) (given l) (refused 13)

-- a layout, or 13 if it passes a limit of size
abbrev pub sized_or : Layout → Verdict Layout
sized_or l = if (within_sizes l) (given l) (refused 13)

-- a well-formed layout that is made is given unless it passes a limit of size
pub form_made : {l : Layout} → WellFormed l → made l ≡ sized_or l
unfolding made lowest
form_made {l} f = rw (true_well_formed f) (by (within_sizes l))
  where
    by : (t : Bool) → (lowest (13 when not t ∷ []) then λ _. given l) ≡ if t (given l) (refused 13)
    by true = refl
    by false = refl

-- sound but for the counts of its lists
pub record Formed (l : Layout) : Type 0 where
  pub form : WellFormed l
  pub product_most : product (keep (λ e. not (eqb e 0)) l.shape) ≤ product_limit
  pub states_small : DepsSmall l l.states
  pub inputs_small : DepsSmall l l.inputs

-- a sound layout is so
pub sound_formed : {l : Layout} → Sound l → Formed l
sound_formed s = record {
  form = s.form;
  product_most = s.sizes.product_most;
  states_small = s.sizes.states_small;
  inputs_small = s.sizes.inputs_small;
}

-- its sizes test as its counts do
formed_sizes : {l : Layout} → Formed l → within_sizes l ≡ few l.rows && few l.states && few l.inputs
unfolding within_sizes within_product
formed_sizes {l} f =
    rw (
      le-leb (product (keep (λ e. not (eqb e 0)) l.shape)) product_limit f.product_most,
      true_deps_small l l.states f.states_small,
      true_deps_small l l.inputs f.inputs_small,
    ) (and_true (few l.rows && few l.states && few l.inputs))
  where
    and_true : (t : Bool) → t && true && true ≡ t
    and_true true = refl
    and_true false = refl

-- made, it is given unless a list passes the limit
pub formed_made : {l : Layout} → Formed l → made l ≡ few_or l
formed_made f = form_made f.form ∙ rw (formed_sizes f)

-- a layout that is made is sound
pub made_sound : {l l' : Layout} → made l ≡ given l' → (l ≡ l') × Sound l
unfolding made lowest
made_sound {l} {l'} e = go (well_formed l) (within_sizes l) refl refl e
  where
    go : (form sizes : Bool) → well_formed l ≡ form → within_sizes l ≡ sizes →
        (lowest (12 when not form ∷ 13 when not sizes ∷ []) then λ _. given l) ≡ given l' → (l ≡ l') × Sound l
    go true true f s h = (cc, record { form = well_formed_true f; sizes = within_sizes_true s })
    go true false f s h = absurd (let z : ◌≡◌ {A = ℕ} 0 1 = cc in omega arith)
    go false sizes f s h = absurd (let z : ◌≡◌ {A = ℕ} 0 1 = cc in omega arith)

-- ---- other dependencies

-- a formed layout is so with other dependencies that fit and are small
pub formed_deps : {l : Layout} {states inputs : List (List ℕ)} → Formed l →
    DepsFit l states → DepsFit l inputs → DepsSmall l states → DepsSmall l inputs → Formed (with_deps states inputs l)
formed_deps {l} f states_fit inputs_fit states_small inputs_small = record {
  form = record {
    kind_most = f.form.kind_most;
    dense_most = f.form.dense_most;
    rank_most = f.form.rank_most;
    sparse_rows = f.form.sparse_rows;
    rows_distinct = f.form.rows_distinct;
    row_lengths = f.form.row_lengths;
    rows_lie_below = f.form.rows_lie_below;
    dense_all = f.form.dense_all;
    diagonal_wide = f.form.diagonal_wide;
    diagonal_alike = f.form.diagonal_alike;
    states_fit = record { lengths = states_fit.lengths; increase = states_fit.increase };
    inputs_fit = record { lengths = inputs_fit.lengths; increase = inputs_fit.increase };
  };
  product_most = f.product_most;
  states_small = states_small;
  inputs_small = inputs_small;
}

module _ (a b l : Layout) (left : rank l ≡ rank a) (right : rank l ≡ rank b) {s t : List (List ℕ)} where
  -- dependencies that fit two layouts, merged, fit a third of the same rank
  pub merged_fit : DepsFit a s → DepsFit b t → DepsFit l (merge s t)
  merged_fit f g = record {
    lengths = sorted_each (each_append (λ d m. rw left (f.lengths d m)) (λ d m. rw right (g.lengths d m)));
    increase = sorted_increasing (s ++ t);
  }

  -- dependencies that are small for two layouts, merged, are so for a third of the same rank
  pub merged_small : DepsSmall a s → DepsSmall b t → DepsSmall l (merge s t)
  merged_small f g = sorted_each (each_append (λ d m. rw left (f d m)) (λ d m. rw right (g d m)))

-- a formed layout is so with the dependencies of two sound ones of the same rank, merged
pub formed_merged : {a b l : Layout} → Sound a → Sound b → rank l ≡ rank a → rank l ≡ rank b → Formed l → Formed (with_merged a b l)
formed_merged {a} {b} {l} p q left right f =
    formed_deps f
    (merged_fit a b l left right p.form.states_fit q.form.states_fit)
    (merged_fit a b l left right p.form.inputs_fit q.form.inputs_fit)
    (merged_small a b l left right p.sizes.states_small q.sizes.states_small)
    (merged_small a b l left right p.sizes.inputs_small q.sizes.inputs_small)
