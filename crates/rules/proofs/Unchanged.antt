-- A layout that has the shape already is stretched to itself, with its rows in order. Assumes nothing.
use mathlib.Core.Path.{◌≡◌, refl, ◌∙◌}
use mathlib.Core.Bool.{Bool, true, false, not, ◌&&◌}
use mathlib.Core.List.{List, [], ◌∷◌, ◌++◌, Memᴰ}
use Prim.Native.Nat.{ℕ, suc, ◌+◌, ◌-◌, ◌<◌, ◌≤◌}
use native.Mathlib.Omega.{arith}
use borrow.Author.Tests.{eq-eqb, eqb-true, le-leb, lt-leb}
use lib.Dec.{eqb}
use lib.ListN.{length, get_or, take, replicate, length-take, take-append-drop}
use Rattle.rules.specs.declared.Mode.{Mode}
use Rattle.rules.specs.declared.Mode.TheVariants.{Alone, Together}
use Rattle.rules.specs.Limits.{entry_limit}
use Rattle.rules.specs.Lists.{gather, keep, fit_to}
use Rattle.rules.specs.Buffers.{part}
use Rattle.rules.specs.RowsInOrder.{sorted, Each, Increasing}
use Rattle.rules.specs.Refusals.{given}
use Rattle.rules.specs.Layout.{Layout, rank, width, is_diagonal, alike}
use Rattle.rules.specs.Soundness.{Sound}
use Rattle.rules.specs.Dependencies.{on_index}
use Rattle.rules.specs.Stretching.{shared_axes_fit, is_stretched, stretched_axes, take_all, yields, stretch_rows, stretch_deps, stretched, broadcast_to_shape}
use Rattle.rules.proofs.Same.{true_not_false}
use Rattle.rules.proofs.Tests.{true_both, true_either, true_implies}
use Rattle.rules.proofs.Sets.{each_head, each_tail}
use Rattle.rules.proofs.Sorting.{sorted_id}
use Rattle.rules.proofs.Few.{sorted_few_lem}
use Rattle.rules.proofs.Sections.{part_at}
use Rattle.rules.proofs.Axes.{stretched_below}
use Rattle.rules.proofs.StretchedAnswers.{stretch_given}

-- ---- no axis is stretched

-- shared axes fit themselves
shared_same : (shape : List ℕ) → shared_axes_fit shape shape ≡ true
unfolding shared_axes_fit
shared_same [] = refl
shared_same (e ∷ shape) = true_both (true_either (eqb e 1) (eqb e e) (λ _. eq-eqb e e refl)) (shared_same shape)

-- a list without members
no_members : (l : List ℕ) → ((k : ℕ) → Memᴰ k l → ⊥) → l ≡ []
no_members [] h = refl
no_members (x ∷ l) h = absurd (h x (Memᴰ.head refl))

pub none_stretched : (shape : List ℕ) → stretched_axes shape shape ≡ []
none_stretched shape = no_members (stretched_axes shape shape) (λ k m. let h = stretched_below shape shape m in never k h.0 h.1)
  where
    both : (b : Bool) → b && not b ≡ false
    both true = refl
    both false = refl

    never : (k : ℕ) → k < length shape → is_stretched shape shape k ≡ true → ⊥
    never k h e = true_not_false e (rw (lt-leb (length shape) k h) (both (eqb (get_or shape k 0) 1)))

-- ---- rows and dependencies stay

-- rows are put in order
rows_unchanged : (l : Layout) → stretch_rows l l.shape ≡ sorted l.rows
unfolding stretch_rows keep take_all
rows_unchanged l = rw (none_stretched l.shape)

-- numbers that are as many as asked for
fit_same : (n v : ℕ) (l : List ℕ) → length l ≡ n → fit_to n v l ≡ l
unfolding fit_to part
fit_same n v l e = part_at 0 n (l ++ replicate n v) l (replicate n v) refl e

-- a dependency of the rank
pub index_same : (n : ℕ) (d : List ℕ) → length d ≡ suc n → on_index (fit_to n 0) d ≡ d
unfolding on_index
index_same n d e =
    let k : length (take (length d - 1) d) ≡ n = simp length-take (omega arith) in
    rw (fit_same n 0 (take (length d - 1) d) k) (take-append-drop (length d - 1) d)

-- each dependency yields itself
yields_same : (mode : Mode) (shape d : List ℕ) → yields mode shape [] d ≡ d ∷ []
unfolding yields gather take_all
yields_same Alone shape d = refl
yields_same Together shape d = refl

pub all_same : (mode : Mode) (shape : List ℕ) (deps : List (List ℕ)) → Each (λ d. length d ≡ suc (length shape)) deps →
    gather (λ d. yields mode shape [] (on_index (fit_to (length shape) 0) d)) deps ≡ deps
unfolding gather
all_same mode shape [] p = refl
all_same mode shape (d ∷ deps) p = rw (index_same (length shape) d (each_head p), yields_same mode shape d, all_same mode shape deps (each_tail p))

deps_unchanged : (mode : Mode) (shape : List ℕ) (deps : List (List ℕ)) → Each (λ d. length d ≡ suc (length shape)) deps → Increasing deps → length deps ≤ entry_limit →
    stretch_deps mode shape shape deps ≡ deps
unfolding stretch_deps
deps_unchanged mode shape deps p i h =
    rw (none_stretched shape, all_same mode shape deps p)
    (sorted_few_lem deps (rw (sorted_id i) (le-leb (length deps) 128 h)) ∙ sorted_id i)

-- ---- the layout

module _ (mode : Mode) {l : Layout} (s : Sound l) where
  states_unchanged : stretch_deps mode l.shape l.shape l.states ≡ l.states
  states_unchanged = deps_unchanged mode l.shape l.states s.form.states_fit.lengths s.form.states_fit.increase s.sizes.states_few

  inputs_unchanged : stretch_deps mode l.shape l.shape l.inputs ≡ l.inputs
  inputs_unchanged = deps_unchanged mode l.shape l.inputs s.form.inputs_fit.lengths s.form.inputs_fit.increase s.sizes.inputs_few

  -- stretched to its own shape it is given
  pub unchanged_given : broadcast_to_shape mode l l.shape ≡ given (stretched mode l l.shape)
  unfolding stretched
  unchanged_given =
      stretch_given mode (record { fits = shared_same l.shape; room = omega arith }) s s.form.rank_most s.sizes.product_most
      (true_implies (is_diagonal l) (alike (take (width l) l.shape)) (λ e. s.form.diagonal_alike (eqb-true l.kind 1 e)))
      ∙ rw (
        rows_unchanged l,
        states_unchanged,
        inputs_unchanged,
        s.form.rows_distinct,
        le-leb (length l.rows) 128 s.sizes.rows_few,
        le-leb (length l.states) 128 s.sizes.states_few,
        le-leb (length l.inputs) 128 s.sizes.inputs_few,
      )

  -- and the same, if its rows are in order
  pub unchanged_same : Increasing l.rows → stretched mode l l.shape ≡ l
  unfolding stretched
  unchanged_same i =
      let d : l.dense + length l.shape - rank l ≡ l.dense = omega arith in
      rw (d, rows_unchanged l, sorted_id i, states_unchanged, inputs_unchanged)
