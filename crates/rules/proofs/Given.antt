-- What was made where something is given; a layout that one of these operations gives is sound, its shape is told, and the numbers of its
-- dependencies are below 2 ^ 31 if they were. Assumes nothing.
use mathlib.Core.Path.{◌≡◌, refl, subst}
use mathlib.Core.Bool.{Bool, true, false, not, ◌&&◌}
use mathlib.Core.List.{List, [], ◌∷◌, map}
use Prim.Native.Nat.{ℕ, zero, suc, ◌+◌, ◌≤◌, ◌<◌}
use native.Mathlib.Omega.{arith}
use borrow.Author.Tests.{eqb-false, ltb-false, not-false}
use lib.Dec.{eqb, ltb}
use lib.IntN.{ℤ}
use lib.ListN.{length, get_or, drop}
use Rattle.rules.specs.declared.Mode.{Mode}
use Rattle.rules.specs.Lists.{if, all, none, fit_to}
use Rattle.rules.specs.RowsInOrder.{Increasing}
use Rattle.rules.specs.Refusals.{Verdict, given, refused, ◌then◌, Reason, ◌when◌, lowest}
use Rattle.rules.specs.Layout.{Layout, rank, is_sparse, with_deps, made}
use Rattle.rules.specs.Soundness.{DepsLow, Sound}
use Rattle.rules.specs.Record.{naturals}
use Rattle.rules.specs.ContractLastAxis.{shortened, contracted, contract_last_axis}
use Rattle.rules.specs.Permute.{is_permutation, moved, permuted, permute}
use Rattle.rules.specs.FilterDepsFrom.{cannot_cut, filter_deps_from}
use Rattle.rules.specs.Stretching.{shared_axes_fit, stretched, broadcast_to_shape, broadcast_to_rank}
use Rattle.rules.proofs.Made.{made_sound}
use Rattle.rules.proofs.Unions.{never}
use Rattle.rules.proofs.Contracting.{contracted_shape, contracted_low, contracted_in_order}
use Rattle.rules.proofs.Permuting.{permuted_low}
use Rattle.rules.proofs.Ranging.{cut_states, cut_inputs, filtered_low}
use Rattle.rules.proofs.StretchedAnswers.{stretched_low}

-- ---- what was made

-- where two steps are given, each one is
pub then_given : {A B : Type 0} (v : Verdict A) (next : A → Verdict B) {x : B} → (v then next) ≡ given x → (a : A) × (v ≡ given a) × (next a ≡ given x)
then_given (given a) next e = (a, refl, e)
then_given (refused n) next e = absurd (never e)

-- the answers of two verdicts, given, and what is made of them
pub record BothGiven {A B C : Type 0} (v : Verdict A) (w : Verdict B) (f : A → B → C) (x : C) : Type 0 where
  pub first : A
  pub second : B
  pub first_given : v ≡ given first
  pub second_given : w ≡ given second
  pub is : f first second ≡ x

-- where both are given one after the other, there are such
pub both_given : {A B C : Type 0} (v : Verdict A) (w : Verdict B) (f : A → B → C) {x : C} → (v then λ a. w then λ b. given (f a b)) ≡ given x → BothGiven v w f x
both_given v w f e =
    let a = then_given v (λ a. w then λ b. given (f a b)) e in
    let b = then_given w (λ b. given (f a.0 b)) a.2 in
    record { first = a.0; second = b.0; first_given = a.1; second_given = b.1; is = cc b.2 }

-- where a step is given, no reason held
pub step_given : {A : Type 0} (reasons : List Reason) (v : Verdict A) {x : A} → (lowest reasons then λ _. v) ≡ given x → v ≡ given x
step_given reasons v e = (then_given (lowest reasons) (λ _. v) e).2

-- the test of a reason
abbrev pub test_of : Reason → Bool
test_of (n when holds) = holds

-- so number k of the reasons did not
pub none_held : {A : Type 0} (reasons : List Reason) (v : Verdict A) {a : A} → (lowest reasons then λ _. v) ≡ given a → (k : ℕ) → get_or (map test_of reasons) k false ≡ false
unfolding lowest
none_held [] v e k = refl
none_held ((n when true) ∷ reasons) v e k = absurd (never e)
none_held ((n when false) ∷ reasons) v e zero = refl
none_held ((n when false) ∷ reasons) v e (suc k) = none_held reasons v e k

-- what holds of the layout made holds of the one given
pub made_given : (P : Layout → Type 0) {l x : Layout} → (Sound l → P l) → made l ≡ given x → P x
made_given P f e = let s = made_sound e in subst P s.0 (f s.1)

-- ---- `contract_last_axis`

module _ (l : Layout) {x : Layout} (e : contract_last_axis l ≡ given x) where
  -- what was made
  pub contract_made : made (contracted l) ≡ given x
  unfolding contract_last_axis
  contract_made = step_given (7 when eqb (rank l) 0 ∷ []) (made (contracted l)) e

  -- there was an axis, and an answer has the shape without the last extent
  pub contract_shape : (0 < rank l) × (x.shape ≡ shortened l.shape)
  unfolding contract_last_axis
  contract_shape =
      (omega (arith, eqb-false (rank l) 0 (none_held (7 when eqb (rank l) 0 ∷ []) (made (contracted l)) e 0)), made_given (λ y. y.shape ≡ shortened l.shape) (λ _. contracted_shape l) contract_made)

  -- an answer is sound
  pub contract_sound : Sound x
  contract_sound = made_given Sound (λ s. s) contract_made

  -- and its dependencies' numbers are below 2 ^ 31
  pub contract_low : DepsLow l → DepsLow x
  contract_low p = made_given DepsLow (λ _. contracted_low p) contract_made

  -- and its rows increase if they did
  pub contract_in_order : Increasing l.rows → Increasing x.rows
  contract_in_order i = made_given (λ y. Increasing y.rows) (λ _. contracted_in_order l i) contract_made

-- ---- `permute`

module _ (l : Layout) (entries : List ℤ) {x : Layout} (e : permute l entries ≡ given x) where
  -- what holds of the layout, where there are no entries, and of the permuted one, where there are, holds of an answer
  pub permute_made : (P : Layout → Type 0) → (none entries ≡ true → P l) → (none entries ≡ false → Sound (permuted l (naturals entries)) → P (permuted l (naturals entries))) → P x
  unfolding permute
  permute_made P p f =
      by (none entries) refl (step_given (8 when not (is_permutation l entries) ∷ 11 when (not (none entries) && is_sparse l && ltb 0 l.dense) ∷ []) _ e)
    where
      by : (t : Bool) → none entries ≡ t → if t (given l) (made (permuted l (naturals entries))) ≡ given x → P x
      by true n g = let same : l ≡ x = cc in subst P same (p n)
      by false n g = made_given P (f n) g

  -- the entries are a permutation
  pub permute_usable : is_permutation l entries ≡ true
  unfolding permute
  permute_usable =
      not-false (is_permutation l entries)
      (none_held (8 when not (is_permutation l entries) ∷ 11 when (not (none entries) && is_sparse l && ltb 0 l.dense) ∷ []) _ e 0)

  -- an answer has the shape, or its extents moved
  pub permute_shape : x.shape ≡ if (none entries) l.shape (moved 1 (naturals entries) l.shape)
  unfolding permuted
  permute_shape = permute_made (λ y. y.shape ≡ if (none entries) l.shape (moved 1 (naturals entries) l.shape)) (λ n. rw n) (λ n _. rw n)

  -- an answer is sound
  pub permute_sound : Sound l → Sound x
  permute_sound s = permute_made Sound (λ _. s) (λ _ t. t)

  -- and its dependencies' numbers are below 2 ^ 31
  pub permute_low : DepsLow l → DepsLow x
  permute_low p = permute_made DepsLow (λ _. p) (λ _ _. permuted_low p (naturals entries))

-- ---- `filter_deps_from`

module _ (target source : Layout) (start end : ℕ) {x : Layout} (e : filter_deps_from target source start end ≡ given x) where
  -- what was made
  pub filter_made : made (with_deps (cut_states target source start end) (cut_inputs target source start end) target) ≡ given x
  unfolding filter_deps_from
  filter_made = step_given (10 when cannot_cut target source ∷ []) _ e

  -- an answer is sound
  pub filter_sound : Sound x
  filter_sound = made_given Sound (λ s. s) filter_made

  -- and its dependencies' numbers are below 2 ^ 31
  pub filter_low : DepsLow source → DepsLow x
  filter_low p = made_given DepsLow (λ _. filtered_low target source start end p) filter_made

-- ---- stretching

module _ (mode : Mode) (l : Layout) (shape : List ℕ) {x : Layout} (e : broadcast_to_shape mode l shape ≡ given x) where
  -- what was made
  stretch_made : made (stretched mode l shape) ≡ given x
  unfolding broadcast_to_shape
  stretch_made = step_given (6 when not (shared_axes_fit l.shape shape) ∷ 11 when ltb (l.dense + length shape) (rank l) ∷ []) (made (stretched mode l shape)) e

  -- shared axes fit, and D does not fall below 0
  pub stretch_fits : (shared_axes_fit l.shape shape ≡ true) × (rank l ≤ l.dense + length shape)
  unfolding broadcast_to_shape
  stretch_fits = (not-false (shared_axes_fit l.shape shape) (none_held reasons _ e 0), ltb-false (l.dense + length shape) (rank l) (none_held reasons _ e 1))
    where
      reasons : List Reason
      reasons = 6 when not (shared_axes_fit l.shape shape) ∷ 11 when ltb (l.dense + length shape) (rank l) ∷ []

  -- an answer has the shape that was asked for
  pub stretch_shape : x.shape ≡ shape
  unfolding stretched
  stretch_shape = made_given (λ y. y.shape ≡ shape) (λ _. refl) stretch_made

  -- an answer is sound
  pub stretch_sound : Sound x
  stretch_sound = made_given Sound (λ s. s) stretch_made

  -- and its dependencies' numbers are below 2 ^ 31
  pub stretch_low : DepsLow l → DepsLow x
  unfolding stretched
  stretch_low p = made_given DepsLow (λ s. stretched_low mode p shape s.sizes.product_most) stretch_made

module _ (mode : Mode) (l : Layout) (r : ℕ) {x : Layout} (e : broadcast_to_rank mode l r ≡ given x) where
  -- what was stretched
  pub rank_made : broadcast_to_shape mode l (fit_to r 1 l.shape) ≡ given x
  unfolding broadcast_to_rank
  rank_made = step_given (6 when not (all (eqb 1) (drop r l.shape)) ∷ []) (broadcast_to_shape mode l (fit_to r 1 l.shape)) e

  -- an answer is sound
  pub rank_sound : Sound x
  rank_sound = stretch_sound mode l (fit_to r 1 l.shape) rank_made

  -- and its dependencies' numbers are below 2 ^ 31
  pub rank_low : DepsLow l → DepsLow x
  rank_low = stretch_low mode l (fit_to r 1 l.shape) rank_made
