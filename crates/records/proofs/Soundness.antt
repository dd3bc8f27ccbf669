-- A readable record is sound where the tests that are put to its slice hold. Assumes nothing.
use Rattle.std.specs.Prelude.{None, Option}
use mathlib.Core.Path.{◌≡◌, sym, ap, ◌∙◌}
use mathlib.Core.Bool.{Bool, true, false, not, ◌&&◌, and_assoc, and-true}
use mathlib.Core.List.{List}
use Prim.Native.Nat.{◌+◌, ◌*◌, ◌≤◌}
use native.Mathlib.Nat.{le_trans}
use native.Mathlib.Omega.{arith}
use borrow.Author.Tests.{le-leb, leb-true}
use lib.IntN.{ℤ}
use lib.ListN.{length}
use Rattle.rules.specs.declared.Head.{Head}
use Rattle.rules.specs.Limits.{product_limit}
use Rattle.rules.specs.Buffers.{part}
use Rattle.rules.specs.RowsInOrder.{increasing}
use Rattle.rules.specs.Layout.{nonzero_product, within_product, well_formed, within_sizes}
use Rattle.rules.specs.Record.{layout_by}
use Rattle.rules.proofs.Extents.{nonzero_take}
use Rattle.rules.proofs.Same.{both_true}
use Rattle.cells.specs.View.{view}
use Rattle.tables.specs.Rows.{row_at, rows_at}
use Rattle.tables.proofs.Rows.{front_row}
use Rattle.axes.specs.Extents.{Extents}
use Rattle.records.specs.Judging.{Readable, kind_fits, axes_fit, rows_fit, small_deps, fit_of, rows_increase}
use Rattle.records.proofs.InTurn.{first_fails, first_holds, first_last}
use Rattle.records.proofs.Fits.{unfit}
use Rattle.records.proofs.Layouts.{layout_seen, bounds}
use Rattle.records.proofs.Conjuncts.{dense_within, rank_within, all_dense, diagonal_seen, no_rows, rows_seen, deps_seen, deps_small_lem, few_seen}

module _ {h : Head} {s : List ℤ} (p : Readable h s) where
  -- the dependencies on states lie in the slice
  states_in : h.states.first + h.states.count * (h.rank + 1) ≤ length s
  states_in = omega (arith, bounds p)

  -- so do those on inputs
  inputs_in : h.inputs.first + h.inputs.count * (h.rank + 1) ≤ length s
  inputs_in = omega (arith, bounds p)

  -- the rules other than size
  formed : well_formed (layout_by h s) ≡
      kind_fits h.rows.count s && (rows_fit h.rows h.width s && (axes_fit h.width s
      && (increasing (rows_at h.states.first (h.rank + 1) h.states.count s) && increasing (rows_at h.inputs.first (h.rank + 1) h.inputs.count s))))
  unfolding well_formed kind_fits axes_fit rows_fit
  formed =
      rw (
        layout_seen p,
        dense_within p,
        rank_within p,
        no_rows p,
        rows_seen p,
        all_dense p,
        diagonal_seen p,
        deps_seen p h.states.first h.states.count states_in,
        deps_seen p h.inputs.first h.inputs.count inputs_in,
      )
      (simp (and-true, and_assoc))

  -- the same in the order in which they are tested: whether the rows fit comes last
  formed_in_turn : well_formed (layout_by h s) ≡
      kind_fits h.rows.count s && (axes_fit h.width s && (increasing (rows_at h.states.first (h.rank + 1) h.states.count s)
      && (increasing (rows_at h.inputs.first (h.rank + 1) h.inputs.count s) && rows_fit h.rows h.width s)))
  formed_in_turn =
      formed
      ∙ ap (λ (b : Bool). kind_fits h.rows.count s && b)
      (first_last (rows_fit h.rows h.width s) (axes_fit h.width s) (increasing (rows_at h.states.first (h.rank + 1) h.states.count s))
      (increasing (rows_at h.inputs.first (h.rank + 1) h.inputs.count s)))

  -- the limits of size, in the order in which they are tested
  sized : within_sizes (layout_by h s) ≡
      within_product (part 3 h.rank (view s)) && (small_deps h.states.first h.rank h.states.count s && small_deps h.inputs.first h.rank h.inputs.count s)
  unfolding within_sizes
  sized =
      let b = bounds p in
      rw (
        layout_seen p,
        few_seen p h.rows.first h.width h.rows.count b.rows_few,
        few_seen p h.states.first (h.rank + 1) h.states.count b.states_few,
        few_seen p h.inputs.first (h.rank + 1) h.inputs.count b.inputs_few,
        deps_small_lem p h.states.first h.states.count states_in,
        deps_small_lem p h.inputs.first h.inputs.count inputs_in,
      )
      (simp (and-true, and_assoc))

  -- the extents of the first axes, where they are kept
  pub row_extents : within_sizes (layout_by h s) ≡ true → Extents 3 h.width s
  unfolding within_product
  row_extents e =
      let b = bounds p in
      let most = leb-true (nonzero_product (row_at 3 h.rank s)) product_limit (both_true _ _ (sym sized ∙ e)).0 in
      let front = front_row 3 h.width h.rank s b.narrow in
      record {
        room = omega arith;
        within = rw front (le-leb _ _ (le_trans (nonzero_take h.width (row_at 3 h.rank s)) most));
      }

-- ---- one test after the other: `well_formed`

-- what is found of the rows of a record, by whether it is well-formed
abbrev found : Head → List ℤ → Option Bool
found h s = fit_of (well_formed (layout_by h s)) (rows_increase h s)

module _ {h : Head} {s : List ℤ} (p : Readable h s) {t₁ : Bool} (e₁ : t₁ ≡ kind_fits h.rows.count s) where
  -- a test fails
  fails : false ≡ well_formed (layout_by h s) → None ≡ found h s
  fails e = unfit (well_formed (layout_by h s)) (rows_increase h s) e

  -- the kind does not fit
  pub kind_wrong : not t₁ ≡ true → None ≡ found h s
  kind_wrong f = fails (first_fails _ e₁ f ∙ sym (formed_in_turn p))

  module _ (f₁ : not t₁ ≡ false) {t₂ : Bool} (e₂ : t₂ ≡ axes_fit h.width s) where
    -- the axes do not fit the kind
    pub axes_wrong : not t₂ ≡ true → None ≡ found h s
    axes_wrong f = fails (first_fails _ e₂ f ∙ sym (formed_in_turn p ∙ first_holds e₁ f₁))

    module _ (f₂ : not t₂ ≡ false) {t₃ : Bool} (e₃ : t₃ ≡ increasing (rows_at h.states.first (h.rank + 1) h.states.count s)) where
      -- what is left to test
      rest₃ : well_formed (layout_by h s) ≡ increasing (rows_at h.states.first (h.rank + 1) h.states.count s)
          && (increasing (rows_at h.inputs.first (h.rank + 1) h.inputs.count s) && rows_fit h.rows h.width s)
      rest₃ = formed_in_turn p ∙ first_holds e₁ f₁ ∙ first_holds e₂ f₂

      -- the dependencies on states do not increase
      pub states_wrong : not t₃ ≡ true → None ≡ found h s
      states_wrong f = fails (first_fails _ e₃ f ∙ sym rest₃)

      module _ (f₃ : not t₃ ≡ false) {t₄ : Bool} (e₄ : t₄ ≡ increasing (rows_at h.inputs.first (h.rank + 1) h.inputs.count s)) where
        -- those on inputs do not
        pub inputs_wrong : not t₄ ≡ true → None ≡ found h s
        inputs_wrong f = fails (first_fails _ e₄ f ∙ sym (rest₃ ∙ first_holds e₃ f₃))

        -- the rows decide
        pub well_formed_lem : {r : (Option Bool)} → not t₄ ≡ false → r ≡ fit_of (rows_fit h.rows h.width s) (rows_increase h s) → r ≡ found h s
        well_formed_lem f₄ e₅ = e₅ ∙ ap (λ (b : Bool). fit_of b (rows_increase h s)) (sym (rest₃ ∙ first_holds e₃ f₃ ∙ first_holds e₄ f₄))

pub ruleset forms = (row_extents, kind_wrong, axes_wrong, states_wrong, inputs_wrong, well_formed_lem)

-- ---- one test after the other: `within_sizes`

module _ {h : Head} {s : List ℤ} (p : Readable h s) {t₁ : Bool} (e₁ : t₁ ≡ within_product (part 3 h.rank (view s))) where
  -- the product of the extents is too large
  pub shape_too_large : not t₁ ≡ true → false ≡ within_sizes (layout_by h s)
  shape_too_large f = first_fails _ e₁ f ∙ sym (sized p)

  module _ (f₁ : not t₁ ≡ false) {t₂ : Bool} (e₂ : t₂ ≡ small_deps h.states.first h.rank h.states.count s) where
    -- a component of a dependency on states is too large
    pub state_too_large : not t₂ ≡ true → false ≡ within_sizes (layout_by h s)
    state_too_large f = first_fails _ e₂ f ∙ sym (sized p ∙ first_holds e₁ f₁)

    -- those of dependencies on inputs decide
    pub sizes_right : {t₃ : Bool} → not t₂ ≡ false → t₃ ≡ small_deps h.inputs.first h.rank h.inputs.count s → t₃ ≡ within_sizes (layout_by h s)
    sizes_right f₂ e₃ = e₃ ∙ sym (sized p ∙ first_holds e₁ f₁ ∙ first_holds e₂ f₂)

pub ruleset sizes = (shape_too_large, state_too_large, sizes_right)
