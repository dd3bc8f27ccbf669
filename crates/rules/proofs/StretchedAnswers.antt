-- Which answer stretching gives of a sound layout, in either mode. Assumes nothing.
use mathlib.Core.Path.{◌≡◌, ◌∙◌}
use mathlib.Core.Bool.{true, false}
use mathlib.Core.List.{List}
use Prim.Native.Nat.{ℕ, ◌+◌, ◌≤◌, ◌<◌}
use native.Mathlib.Nat.{le_trans}
use native.Mathlib.Omega.{arith}
use borrow.Author.Tests.{lt-ltb, le-ltb}
use lib.ListN.{length, get_or, take}
use Rattle.rules.specs.declared.Mode.{Mode}
use Rattle.rules.specs.Limits.{rank_limit, product_limit, component_limit}
use Rattle.rules.specs.Lists.{implies, with, fit_to}
use Rattle.rules.specs.RowsInOrder.{Each}
use Rattle.rules.specs.Refusals.{refused, lowest}
use Rattle.rules.specs.Layout.{Layout, rank, width, is_diagonal, nonzero_product, alike}
use Rattle.rules.specs.Soundness.{NumbersBelow, DepsLow, WellFormed, Sound}
use Rattle.rules.specs.Dependencies.{on_index}
use Rattle.rules.specs.Stretching.{shared_axes_fit, stretched_axes, fitted_yields, stretch_deps, stretched, broadcast_to_shape}
use Rattle.rules.proofs.Order.{ComparedNumbers, under, even, above, compare_numbers}
use Rattle.rules.proofs.Few.{few_increasing, few_each}
use Rattle.rules.proofs.Extents.{extent_nonzero}
use Rattle.rules.proofs.Made.{few_or, Formed, formed_made}
use Rattle.rules.proofs.Forming.{DepOfRank, DepsOfRank, states_of_rank, inputs_of_rank}
use Rattle.rules.proofs.Changed.{RowBelow, changed_low, changed_of_rank}
use Rattle.rules.proofs.Replaced.{with_length, with_same, with_other, with_low, fit_length, fit_low}
use Rattle.rules.proofs.Gathering.{gather_each}
use Rattle.rules.proofs.Axes.{stretched_below}
use Rattle.rules.proofs.Yielding.{yields_each}
use Rattle.rules.proofs.Stretching.{Stretches, stretched_formed, stretched_breaks}

-- ---- dependencies

-- a dependency with another component is of its rank
with_of_rank : {n : ℕ} (axis v : ℕ) {d : List ℕ} → axis < n → v ≤ component_limit → DepOfRank n d → DepOfRank n (with axis v d)
with_of_rank {n} axis v {d} h small p = record { size = with_length v d inside ∙ p.size; small = λ k g. at k g (compare_numbers k axis) }
  where
    inside : axis < length d
    inside = omega (arith, p.size)

    at : (k : ℕ) → k < n → ComparedNumbers k axis → get_or (with axis v d) k 0 ≤ component_limit
    at k g (under o) = rw (with_other v d inside k (λ e. omega arith)) (p.small k g)
    at k g (even e) = rw (e, with_same v d inside) small
    at k g (above o) = rw (with_other v d inside k (λ e. omega arith)) (p.small k g)

module _ (mode : Mode) (old shape : List ℕ) (most : nonzero_product shape ≤ product_limit) where
  -- an extent is at most 65,536
  extent_most : (axis : ℕ) → get_or shape axis 0 ≤ product_limit
  extent_most axis = le_trans (extent_nonzero shape axis 0 (omega arith)) most

  -- stretched dependencies are of the new rank
  pub stretched_of_rank : {n : ℕ} {deps : List (List ℕ)} → DepsOfRank n deps → DepsOfRank (length shape) (stretch_deps mode old shape deps)
  unfolding stretch_deps
  stretched_of_rank {n} {deps} p = record { each = few_each (gather_each (fitted_yields mode old shape) (λ d m. of_rank d (p.each d m))); increase = few_increasing _ }
    where
      of_rank : (d : List ℕ) → DepOfRank n d → Each (DepOfRank (length shape)) (fitted_yields mode old shape d)
      of_rank d q =
          yields_each shape (stretched_axes old shape) mode (DepOfRank (length shape))
          (λ x axis v m h. with_of_rank axis v (stretched_below old shape m).0 (omega (arith, h, extent_most axis)))
          (on_index (fit_to (length shape) 0) d) (changed_of_rank (fit_to (length shape) 0) d q (λ i e. fit_length (length shape) 0 i) (λ i. fit_low (length shape) i))

  -- their numbers are below b, if those of the dependencies and 65,536 are
  pub numbers_stay_below : {b : ℕ} → product_limit ≤ b → {deps : List (List ℕ)} → NumbersBelow b deps → NumbersBelow b (stretch_deps mode old shape deps)
  unfolding stretch_deps
  numbers_stay_below {b} h {deps} p = few_each (gather_each (fitted_yields mode old shape) (λ d m. low d (p d m)))
    where
      low : (d : List ℕ) → RowBelow b d → NumbersBelow b (fitted_yields mode old shape d)
      low d q =
          yields_each shape (stretched_axes old shape) mode (RowBelow b) (λ x axis v m g. with_low axis v x (omega (arith, g, extent_most axis)))
          (on_index (fit_to (length shape) 0) d) (changed_low (fit_to (length shape) 0) d q (λ i. fit_low (length shape) i))

-- ---- the answer to a shape

module _ (mode : Mode) (l : Layout) (shape : List ℕ) where
  -- a shared axis is neither 1 nor equal: 6
  pub stretch_disagrees : shared_axes_fit l.shape shape ≡ false → broadcast_to_shape mode l shape ≡ refused 6
  unfolding broadcast_to_shape lowest
  stretch_disagrees e = rw e

  -- D would fall below 0: 11
  pub stretch_bars : shared_axes_fit l.shape shape ≡ true → l.dense + length shape < rank l → broadcast_to_shape mode l shape ≡ refused 11
  unfolding broadcast_to_shape lowest
  stretch_bars e h = rw (e, lt-ltb (l.dense + length shape) (rank l) h)

module _ (mode : Mode) {l : Layout} {shape : List ℕ} (g : Stretches l shape) where
  -- a diagonal whose first R - D new extents are not alike: 12
  pub stretch_breaks : WellFormed l → l.kind ≡ 1 → alike (take (width l) shape) ≡ false → broadcast_to_shape mode l shape ≡ refused 12
  unfolding broadcast_to_shape lowest stretched
  stretch_breaks w k e =
      rw (g.fits, le-ltb (l.dense + length shape) (rank l) g.room)
      (stretched_breaks mode w g k e (stretch_deps mode l.shape shape l.states) (stretch_deps mode l.shape shape l.inputs))

  module _ (s : Sound l) (few_axes : length shape ≤ rank_limit) (small : nonzero_product shape ≤ product_limit) (e : implies (is_diagonal l) (alike (take (width l) shape)) ≡ true) where
    -- otherwise it is formed
    pub stretch_formed : Formed (stretched mode l shape)
    unfolding stretched
    stretch_formed =
        stretched_formed mode s.form g few_axes small e (stretched_of_rank mode l.shape shape small (states_of_rank s)) (stretched_of_rank mode l.shape shape small (inputs_of_rank s))

    -- and given, unless a list passes the limit
    pub stretch_given : broadcast_to_shape mode l shape ≡ few_or (stretched mode l shape)
    unfolding broadcast_to_shape lowest
    stretch_given = rw (g.fits, le-ltb (l.dense + length shape) (rank l) g.room) (formed_made stretch_formed)

-- the numbers of its dependencies are below 2 ^ 31 if they were
pub stretched_low : (mode : Mode) {l : Layout} → DepsLow l → (shape : List ℕ) → nonzero_product shape ≤ product_limit → DepsLow (stretched mode l shape)
unfolding stretched
stretched_low mode {l} p shape small = record {
  states_low = numbers_stay_below mode l.shape shape small (omega arith) p.states_low;
  inputs_low = numbers_stay_below mode l.shape shape small (omega arith) p.inputs_low;
}
