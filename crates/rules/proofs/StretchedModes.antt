-- What both modes of stretching share, where they answer the same, and that mode 0 is the default. Assumes nothing.
use mathlib.Core.Path.{◌≡◌, refl, sym, ap, ◌∙◌}
use mathlib.Core.Bool.{Bool, true, false, ◌&&◌}
use mathlib.Core.List.{List, Memᴰ}
use Prim.Native.Nat.{ℕ, suc, ◌+◌, ◌≤◌, ◌<◌}
use borrow.Author.Tests.{eqb-true, ltb-true, ltb-false}
use lib.Dec.{eqb, ltb}
use lib.IntN.{ℤ, pos}
use lib.ListN.{length, get_or, take, drop}
use lib.Signed.{non_neg}
use Rattle.rules.specs.declared.Mode.{Mode}
use Rattle.rules.specs.declared.Mode.TheVariants.{Alone, Together}
use Rattle.rules.specs.Limits.{rank_limit, product_limit, entry_limit}
use Rattle.rules.specs.Lists.{if, all, implies, fit_to}
use Rattle.rules.specs.RowsInOrder.{Each}
use Rattle.rules.specs.Refusals.{given, refused, lowest}
use Rattle.rules.specs.Layout.{Layout, rank, width, is_diagonal, nonzero_product, alike, few, with_deps}
use Rattle.rules.specs.Soundness.{Sound}
use Rattle.rules.specs.Record.{natural, good_shape}
use Rattle.rules.specs.Arguments.{up_to}
use Rattle.rules.specs.Dependencies.{on_index}
use Rattle.rules.specs.Stretching.{shared_axes_fit, stretched_axes, stretch_rows, stretch_deps, stretched, broadcast_to_shape, broadcast_to_rank, broadcast_to_shape_call, broadcast_to_rank_call, mode_of, broadcast_to_shape_with_mode_call, broadcast_to_rank_with_mode_call}
use Rattle.rules.specs.Broadcast.{broadcast_call, broadcast_with_mode_call}
use Rattle.rules.proofs.Made.{few_or}
use Rattle.rules.proofs.Stretching.{Stretches}
use Rattle.rules.proofs.StretchedAnswers.{stretch_disagrees, stretch_bars, stretch_breaks, stretch_given}
use Rattle.rules.proofs.ToRank.{rank_deps, rank_disagrees, rank_bars, rank_given}
use Rattle.rules.proofs.StretchedTogether.{same_few, same_lists}

-- ---- what both modes share

-- a mode decides about the dependencies alone: kind, D, shape and rows are those of the other
pub modes_share : (m n : Mode) (l : Layout) (shape : List ℕ) →
    stretched m l shape ≡ with_deps (stretch_deps m l.shape shape l.states) (stretch_deps m l.shape shape l.inputs) (stretched n l shape)
unfolding stretched
modes_share m n l shape = refl

-- how a stretching ends in either mode: 6, 11, 12, or a layout whose lists are still to be counted
data Ended (l : Layout) (shape : List ℕ) : Type 0 where
  disagrees : shared_axes_fit l.shape shape ≡ false → Ended l shape
  bars : shared_axes_fit l.shape shape ≡ true → l.dense + length shape < rank l → Ended l shape
  breaks : Stretches l shape → l.kind ≡ 1 → alike (take (width l) shape) ≡ false → Ended l shape
  fits : Stretches l shape → implies (is_diagonal l) (alike (take (width l) shape)) ≡ true → Ended l shape

ended : (l : Layout) (shape : List ℕ) → Ended l shape
ended l shape = by (shared_axes_fit l.shape shape) refl (ltb (l.dense + length shape) (rank l)) refl (is_diagonal l) refl (alike (take (width l) shape)) refl
  where
    by : (f : Bool) → shared_axes_fit l.shape shape ≡ f → (b : Bool) → ltb (l.dense + length shape) (rank l) ≡ b → (k : Bool) → is_diagonal l ≡ k →
        (a : Bool) → alike (take (width l) shape) ≡ a → Ended l shape
    by false f b g k d a e = disagrees f
    by true f true g k d a e = bars f (ltb-true (l.dense + length shape) (rank l) g)
    by true f false g true d false e = breaks (record { fits = f; room = ltb-false (l.dense + length shape) (rank l) g }) (eqb-true l.kind 1 d) e
    by true f false g true d true e = fits (record { fits = f; room = ltb-false (l.dense + length shape) (rank l) g }) (rw (d, e))
    by true f false g false d a e = fits (record { fits = f; room = ltb-false (l.dense + length shape) (rank l) g }) (rw d)

-- a layout whose lists are too long is refused with 13
only_13 : (x : Layout) {number : ℕ} → few_or x ≡ refused number → number ≡ 13
only_13 x {number} e = by (few x.rows && few x.states && few x.inputs) e
  where
    by : (t : Bool) → if t (given x) (refused 13) ≡ refused number → number ≡ 13
    by true q = cc
    by false q = cc

module _ {l : Layout} (s : Sound l) (shape : List ℕ) (few_axes : length shape ≤ rank_limit) (small : nonzero_product shape ≤ product_limit) where
  -- a refusal but 13 is the same in both modes
  pub refusals_shared : (m n : Mode) {number : ℕ} → broadcast_to_shape m l shape ≡ refused number → (number ≡ 13 → ⊥) → broadcast_to_shape n l shape ≡ refused number
  refusals_shared m n {number} e other = by (ended l shape)
    where
      by : Ended l shape → broadcast_to_shape n l shape ≡ refused number
      by (disagrees f) = stretch_disagrees n l shape f ∙ sym (stretch_disagrees m l shape f) ∙ e
      by (bars f h) = stretch_bars n l shape f h ∙ sym (stretch_bars m l shape f h) ∙ e
      by (breaks g k a) = stretch_breaks n g s.form k a ∙ sym (stretch_breaks m g s.form k a) ∙ e
      by (fits g a) = absurd (other (only_13 (stretched m l shape) (sym (stretch_given m g s few_axes small a) ∙ e)))

  -- where at most one axis stretches, and every original lies below its new extent there, both modes answer the same
  module _ (one : length (stretched_axes l.shape shape) ≤ 1)
      (low-states : Each (λ d. (k : ℕ) → Memᴰ k (stretched_axes l.shape shape) → get_or (on_index (fit_to (length shape) 0) d) k 0 < get_or shape k 0) l.states)
      (low-inputs : Each (λ d. (k : ℕ) → Memᴰ k (stretched_axes l.shape shape) → get_or (on_index (fit_to (length shape) 0) d) k 0 < get_or shape k 0) l.inputs) where
    abbrev states_in : Mode → List (List ℕ)
    states_in mode = stretch_deps mode l.shape shape l.states

    abbrev inputs_in : Mode → List (List ℕ)
    inputs_in mode = stretch_deps mode l.shape shape l.inputs

    same_counts : few_or (stretched Alone l shape) ≡ few_or (stretched Together l shape)
    unfolding stretched
    same_counts = by (few (stretch_rows l shape)) (few (states_in Alone)) refl (few (inputs_in Alone)) refl
      where
        states_fit : Each (λ d. length d ≡ suc (rank l)) l.states
        states_fit = s.form.states_fit.lengths

        inputs_fit : Each (λ d. length d ≡ suc (rank l)) l.inputs
        inputs_fit = s.form.inputs_fit.lengths

        by : (r : Bool) (p : Bool) → few (states_in Alone) ≡ p → (q : Bool) → few (inputs_in Alone) ≡ q →
            if (r && few (states_in Alone) && few (inputs_in Alone)) (given (stretched Alone l shape)) (refused 13)
            ≡ if (r && few (states_in Together) && few (inputs_in Together)) (given (stretched Together l shape)) (refused 13)
        by false p e q f = refl
        by true false e q f = rw (e, ← same_few l.shape shape states_fit one low-states, e)
        by true true e false f = rw (e, f, ← same_few l.shape shape states_fit one low-states, e, ← same_few l.shape shape inputs_fit one low-inputs, f)
        by true true e true f =
            rw (
              e,
              f,
              ← same_few l.shape shape states_fit one low-states,
              e,
              ← same_few l.shape shape inputs_fit one low-inputs,
              f,
              same_lists l.shape shape states_fit one low-states e,
              same_lists l.shape shape inputs_fit one low-inputs f,
            )

    pub modes_same : broadcast_to_shape Alone l shape ≡ broadcast_to_shape Together l shape
    modes_same = by (ended l shape)
      where
        by : Ended l shape → broadcast_to_shape Alone l shape ≡ broadcast_to_shape Together l shape
        by (disagrees f) = stretch_disagrees Alone l shape f ∙ sym (stretch_disagrees Together l shape f)
        by (bars f h) = stretch_bars Alone l shape f h ∙ sym (stretch_bars Together l shape f h)
        by (breaks g k a) = stretch_breaks Alone g s.form k a ∙ sym (stretch_breaks Together g s.form k a)
        by (fits g a) = stretch_given Alone g s few_axes small a ∙ same_counts ∙ sym (stretch_given Together g s few_axes small a)

-- ---- to a rank both modes answer the same: an axis that is added takes the value 0 alone

module _ {l : Layout} (s : Sound l) (r : ℕ) (few_axes : r ≤ rank_limit) where
  same_deps : (m n : Mode) {deps : List (List ℕ)} → Each (λ d. length d ≡ suc (rank l)) deps → length deps ≤ entry_limit →
      stretch_deps m l.shape (fit_to r 1 l.shape) deps ≡ stretch_deps n l.shape (fit_to r 1 l.shape) deps
  same_deps m n f h = rank_deps l.shape r m f h ∙ sym (rank_deps l.shape r n f h)

  same_stretched : (m n : Mode) → stretched m l (fit_to r 1 l.shape) ≡ stretched n l (fit_to r 1 l.shape)
  unfolding stretched
  same_stretched m n =
      rw (same_deps m n s.form.states_fit.lengths s.sizes.states_few, same_deps m n s.form.inputs_fit.lengths s.sizes.inputs_few)

  pub rank_modes_same : (m n : Mode) → broadcast_to_rank m l r ≡ broadcast_to_rank n l r
  rank_modes_same m n = by (all (eqb 1) (drop r l.shape)) refl (ltb (l.dense + r) (rank l)) refl
    where
      by : (c : Bool) → all (eqb 1) (drop r l.shape) ≡ c → (b : Bool) → ltb (l.dense + r) (rank l) ≡ b → broadcast_to_rank m l r ≡ broadcast_to_rank n l r
      by false e b g = rank_disagrees m l r e ∙ sym (rank_disagrees n l r e)
      by true e true g = let h = ltb-true (l.dense + r) (rank l) g in rank_bars m l r e h ∙ sym (rank_bars n l r e h)
      by true e false g =
          let h = ltb-false (l.dense + r) (rank l) g in
          rank_given m l r e s few_axes h ∙ ap given (same_stretched m n) ∙ sym (rank_given n l r e s few_axes h)

-- ---- the calls of the Rust's names are those with mode 0

both_good : (t : Bool) → t && true ≡ t
both_good true = refl
both_good false = refl

module _ (s : List ℤ) (result work : ℕ) where
  pub default_shape : (shape : List ℤ) → broadcast_to_shape_with_mode_call s shape (pos 0) result work ≡ broadcast_to_shape_call s shape result work
  unfolding broadcast_to_shape_with_mode_call broadcast_to_shape_call mode_of natural up_to
  default_shape shape = rw (both_good (good_shape shape))

  pub default_rank : (r : ℤ) → broadcast_to_rank_with_mode_call s r (pos 0) result work ≡ broadcast_to_rank_call s r result work
  unfolding broadcast_to_rank_with_mode_call broadcast_to_rank_call mode_of natural up_to
  default_rank r = rw (both_good (non_neg r))

  pub default_broadcast : (n : ℤ) (operator : ℕ) → broadcast_with_mode_call s n operator (pos 0) result work ≡ broadcast_call s n operator result work
  unfolding broadcast_with_mode_call broadcast_call mode_of natural up_to lowest
  default_broadcast n operator = refl
