-- What mode 1 of stretching lists, that it has what mode 0 lists inside the new extents, and where both list the same. Assumes nothing.
use mathlib.Core.Path.{◌≡◌, refl, sym, ap, ◌∙◌, subst}
use mathlib.Core.Bool.{Bool, true, false}
use mathlib.Core.List.Memᴰ
use mathlib.Core.List.{List, [], ◌∷◌, Memᴰ}
use Prim.Native.Nat.{ℕ, suc, ◌+◌, ◌-◌, ◌≤◌, ◌<◌}
use native.Mathlib.Omega.{arith}
use borrow.Author.Tests.{le-leb}
use lib.ListN.{length, get_or, drop, length-append, length-drop, get_or-append, get_or-eq_default}
use lib.Seq.{get_or-drop}
use Rattle.rules.specs.declared.Mode.{Mode}
use Rattle.rules.specs.declared.Mode.TheVariants.{Alone, Together}
use Rattle.rules.specs.Lists.{gather, with, fit_to}
use Rattle.rules.specs.RowsInOrder.{sorted, In, Each}
use Rattle.rules.specs.Refusals.{given}
use Rattle.rules.specs.Layout.{Layout, rank, few}
use Rattle.rules.specs.Soundness.{WellFormed}
use Rattle.rules.specs.Dependencies.{index_of, on_index}
use Rattle.rules.specs.ComputedFrom.{Source, State, Input, deps_on, ComesFrom}
use Rattle.rules.specs.Stretching.{is_stretched, stretched_axes, take_all, yields, fitted_yields, stretch_deps, stretched, broadcast_to_shape, broadcast_to_rank}
use Rattle.rules.proofs.Order.{ComparedNumbers, under, even, above, compare_numbers}
use Rattle.rules.proofs.Same.{true_not_false}
use Rattle.rules.proofs.Sets.{Subset, each_one}
use Rattle.rules.proofs.Sorting.{sorted_has, sorted_same}
use Rattle.rules.proofs.Few.{few_each, few_sorted, sorted_few_lem}
use Rattle.rules.proofs.Changed.{at_seam}
use Rattle.rules.proofs.Replaced.{with_length, with_same, with_other, fit_length}
use Rattle.rules.proofs.Gathering.{gather_only, gather_has, gather_each}
use Rattle.rules.proofs.Taking.{Taken, take_only, take_has}
use Rattle.rules.proofs.Axes.{stretched_below, stretched_has}
use Rattle.rules.proofs.Yielding.{yields_each}
use Rattle.rules.proofs.Folding.{given_is}
use Rattle.rules.proofs.Given.{stretch_sound, rank_made}

-- entries are those that come from some dependencies, and no others
pub record FromAll (old shape : List ℕ) (deps entries : List (List ℕ)) : Type 0 where
  pub only : Each (λ x. (d : List ℕ) × In d deps × ComesFrom old shape d x) entries
  pub has : {d x : List ℕ} → In d deps → ComesFrom old shape d x → In x entries

-- on one axis at most, what is yielded in mode 1 is yielded in mode 0
on_one : (shape a : List ℕ) → length a ≤ 1 → (d : List ℕ) {x : List ℕ} → In x (yields Together shape a d) → In x (yields Alone shape a d)
unfolding yields take_all gather
on_one shape [] h d i = i
on_one shape (a ∷ []) h d i = Memᴰ.tail i
on_one shape (a ∷ b ∷ rest) h d i = absurd (omega arith)

module _ (old shape : List ℕ) where
  -- the stretched axes
  abbrev axes : List ℕ
  axes = stretched_axes old shape

  -- a dependency fitted to the new rank
  abbrev fitted : List ℕ → List ℕ
  fitted d = on_index (fit_to (length shape) 0) d

  -- a stretched axis is one of the numbers of an entry
  axis_inside : (k : ℕ) → Memᴰ k axes → k < length shape + 1
  axis_inside k m = omega (arith, (stretched_below old shape m).0)

  -- a dependency of the old rank
  module _ (d : List ℕ) (n : length d ≡ suc (length old)) where
    -- fitted, it has the new rank
    fitted_length : length (fitted d) ≡ length shape + 1
    unfolding on_index
    fitted_length = rw (length-append, length-drop, fit_length (length shape) 0 (index_of d)) (omega arith)

    -- its index is fitted
    fitted_index : (k : ℕ) → k < length shape → get_or (fitted d) k 0 ≡ get_or (fit_to (length shape) 0 (index_of d)) k 0
    unfolding on_index
    fitted_index k h = get_or-append (fit_to (length shape) 0 (index_of d)) (drop (length d - 1) d) 0 k (rw fit_length h)

    -- and its number stays
    fitted_number : get_or (fitted d) (length shape) 0 ≡ get_or d (length old) 0
    unfolding on_index
    fitted_number =
        let at : length old + 0 ≡ length old = omega arith in
        let last : length d - 1 ≡ length old = omega arith in
        at_seam (fit_to (length shape) 0 (index_of d)) (drop (length d - 1) d) (fit_length (length shape) 0 (index_of d)) ∙ get_or-drop (length d - 1) d 0 0 ∙ rw (last, at)

    -- what it takes on the stretched axes comes from it
    taken_comes : {x : List ℕ} → Taken shape axes (fitted d) x → ComesFrom old shape d x
    taken_comes t = record {
      size = t.size ∙ fitted_length;
      number = t.kept (length shape) (λ m. omega (arith, (stretched_below old shape m).0)) ∙ fitted_number;
      agrees = λ k h e. t.kept k (λ m. true_not_false (stretched_below old shape m).1 e) ∙ fitted_index k h;
      inside = λ k h e. t.free k (stretched_has old shape h e);
    }

    -- and what comes from it is taken
    comes_taken : {x : List ℕ} → ComesFrom old shape d x → Taken shape axes (fitted d) x
    comes_taken {x} c = record {
      size = c.size ∙ sym fitted_length;
      kept = λ k o. kept k o (compare_numbers k (length shape));
      free = λ k m. let h = stretched_below old shape m in c.inside k h.0 h.1;
    }
      where
        under_rank : (k : ℕ) → (Memᴰ k axes → ⊥) → k < length shape → (b : Bool) → is_stretched old shape k ≡ b → get_or x k 0 ≡ get_or (fitted d) k 0
        under_rank k o h true e = absurd (o (stretched_has old shape h e))
        under_rank k o h false e = c.agrees k h e ∙ sym (fitted_index k h)

        kept : (k : ℕ) → (Memᴰ k axes → ⊥) → ComparedNumbers k (length shape) → get_or x k 0 ≡ get_or (fitted d) k 0
        kept k o (under h) = under_rank k o h (is_stretched old shape k) refl
        kept k o (even h) = rw h (c.number ∙ sym fitted_number)
        kept k o (above h) = get_or-eq_default x 0 {n = k} (omega (arith, c.size)) ∙ sym (get_or-eq_default (fitted d) 0 {n = k} (omega (arith, fitted_length)))

    -- what it yields in mode 1, and nothing else, comes from it
    one_only : {x : List ℕ} → In x (fitted_yields Together old shape d) → ComesFrom old shape d x
    unfolding yields
    one_only {x} m =
        let t = take_only shape (length shape + 1) axes axis_inside {rows = fitted d ∷ []} (each_one (λ r. length r ≡ length shape + 1) fitted_length) m in
        taken_comes (subst (λ (r : List ℕ). Taken shape axes r x) (Memᴰ.eq_of_singleton t.1) t.2)

    one_has : {x : List ℕ} → ComesFrom old shape d x → In x (fitted_yields Together old shape d)
    unfolding yields
    one_has c =
        take_has shape (length shape + 1) axes axis_inside {rows = fitted d ∷ []} (each_one (λ r. length r ≡ length shape + 1) fitted_length) (Memᴰ.head refl)
        (comes_taken c)

    -- what it yields in mode 0 agrees with it on every axis not stretched, so that it comes from it if it lies below the new extents
    alone_comes : {x : List ℕ} → In x (fitted_yields Alone old shape d) → ((k : ℕ) → k < length shape → is_stretched old shape k ≡ true → get_or x k 0 < get_or shape k 0) →
        ComesFrom old shape d x
    alone_comes {x} m low =
        let kept = yields_each shape axes Alone Kept stays (fitted d) (refl, λ k o. refl) x m in
        taken_comes (record { size = kept.0; kept = kept.1; free = λ k i. let h = stretched_below old shape i in low k h.0 h.1 })
      where
        Kept : List ℕ → Type 0
        Kept y = (length y ≡ length (fitted d)) × ((k : ℕ) → (Memᴰ k axes → ⊥) → get_or y k 0 ≡ get_or (fitted d) k 0)

        stays : (y : List ℕ) (axis v : ℕ) → Memᴰ axis axes → v < get_or shape axis 0 → Kept y → Kept (with axis v y)
        stays y axis v i h p =
            let in_y : axis < length y = omega (arith, (stretched_below old shape i).0, p.0, fitted_length) in
            (with_length v y in_y ∙ p.0, λ k o. with_other v y in_y k (λ e. o (subst (λ (j : ℕ). Memᴰ j axes) (sym e) i)) ∙ p.1 k o)

  module _ {deps : List (List ℕ)} (f : Each (λ d. length d ≡ suc (length old)) deps) where
    -- all that is yielded in a mode
    abbrev all_yielded : Mode → List (List ℕ)
    all_yielded mode = gather (fitted_yields mode old shape) deps

    -- an entry of a list was yielded
    was_yielded : (mode : Mode) → Each (λ x. In x (all_yielded mode)) (stretch_deps mode old shape deps)
    unfolding stretch_deps
    was_yielded mode = few_each (λ x m. m)

    -- mode 1 lists what comes from the dependencies, and nothing else, unless that is too much
    pub together_lists : few (stretch_deps Together old shape deps) ≡ true → FromAll old shape deps (stretch_deps Together old shape deps)
    unfolding stretch_deps
    together_lists few-are = record {
      only = λ x m. let k = gather_only (fitted_yields Together old shape) deps (was_yielded Together x m) in (k.0, k.1, one_only k.0 (f k.0 k.1) k.2);
      has = λ {d} m c.
          rw (sorted_few_lem (all_yielded Together) (sym (few_sorted (all_yielded Together)) ∙ few-are))
          (sorted_has (gather_has (fitted_yields Together old shape) m (one_has d (f d m) c)));
    }

    -- entries of mode 0 that lie below the new extents on the stretched axes are among those of mode 1
    pub alone_among : few (stretch_deps Together old shape deps) ≡ true → {x : List ℕ} → In x (stretch_deps Alone old shape deps) →
        ((k : ℕ) → k < length shape → is_stretched old shape k ≡ true → get_or x k 0 < get_or shape k 0) → In x (stretch_deps Together old shape deps)
    alone_among few-are {x} m low =
        let k = gather_only (fitted_yields Alone old shape) deps (was_yielded Alone x m) in
        (together_lists few-are).has k.1 (alone_comes k.0 (f k.0 k.1) k.2 low)

    -- where at most one axis stretches, and every original lies below its new extent there, both modes list the same
    module _ (one : length axes ≤ 1) (low : Each (λ d. (k : ℕ) → Memᴰ k axes → get_or (fitted d) k 0 < get_or shape k 0) deps) where
      alone_in : Subset (all_yielded Alone) (all_yielded Together)
      alone_in =
          gather_each (fitted_yields Alone old shape)
          (λ d m x i. gather_has (fitted_yields Together old shape) m (one_has d (f d m) (alone_comes d (f d m) i (below_all d m x i))))
        where
          below_all : (d : List ℕ) → In d deps → (x : List ℕ) → In x (fitted_yields Alone old shape d) → (k : ℕ) → k < length shape → is_stretched old shape k ≡ true → get_or x k 0 < get_or shape k 0
          below_all d m x i k h e = (yields_each shape axes Alone Low stays (fitted d) (fitted_length d (f d m), low d m) x i).1 k (stretched_has old shape h e)
            where
              Low : List ℕ → Type 0
              Low y = (length y ≡ length shape + 1) × ((j : ℕ) → Memᴰ j axes → get_or y j 0 < get_or shape j 0)

              stays : (y : List ℕ) (axis v : ℕ) → Memᴰ axis axes → v < get_or shape axis 0 → Low y → Low (with axis v y)
              stays y axis v a g p = (with_length v y in_y ∙ p.0, λ j b. at j b (compare_numbers j axis))
                where
                  in_y : axis < length y
                  in_y = omega (arith, (stretched_below old shape a).0, p.0)

                  at : (j : ℕ) → Memᴰ j axes → ComparedNumbers j axis → get_or (with axis v y) j 0 < get_or shape j 0
                  at j b (under o) = rw (with_other v y in_y j (λ z. omega arith)) (p.1 j b)
                  at j b (even o) = rw (o, with_same v y in_y) g
                  at j b (above o) = rw (with_other v y in_y j (λ z. omega arith)) (p.1 j b)

      together_in : Subset (all_yielded Together) (all_yielded Alone)
      together_in = gather_each (fitted_yields Together old shape) (λ d m x i. gather_has (fitted_yields Alone old shape) m (on_one shape axes one (fitted d) i))

      same_sorted : sorted (all_yielded Alone) ≡ sorted (all_yielded Together)
      same_sorted = sorted_same alone_in together_in

      -- they pass the limit both or neither
      pub same_few : few (stretch_deps Alone old shape deps) ≡ few (stretch_deps Together old shape deps)
      unfolding stretch_deps
      same_few = few_sorted (all_yielded Alone) ∙ ap few same_sorted ∙ sym (few_sorted (all_yielded Together))

      -- and are the same within it
      pub same_lists : few (stretch_deps Alone old shape deps) ≡ true → stretch_deps Alone old shape deps ≡ stretch_deps Together old shape deps
      unfolding stretch_deps
      same_lists e =
          let here : few (sorted (all_yielded Alone)) ≡ true = sym (few_sorted (all_yielded Alone)) ∙ e in
          sorted_few_lem (all_yielded Alone) here ∙ same_sorted ∙ sym (sorted_few_lem (all_yielded Together) (rw (← same_sorted) here))

-- ---- layouts

-- a layout that mode 1 gives lists what comes from the dependencies, and nothing else
module _ {l : Layout} (w : WellFormed l) where
  module _ (shape : List ℕ) {x : Layout} (e : broadcast_to_shape Together l shape ≡ given x) where
    listed : {deps entries : List (List ℕ)} → Each (λ d. length d ≡ suc (rank l)) deps → entries ≡ stretch_deps Together l.shape shape deps → length entries ≤ 128 →
        FromAll l.shape shape deps entries
    listed f is most = rw is (together_lists l.shape shape f (rw (← is) (le-leb _ 128 most)))

    pub states_listed : FromAll l.shape shape l.states x.states
    unfolding stretched
    states_listed = listed w.states_fit.lengths (ap (λ (y : Layout). y.states) (given_is Together l shape e)) (stretch_sound Together l shape e).sizes.states_few

    pub inputs_listed : FromAll l.shape shape l.inputs x.inputs
    unfolding stretched
    inputs_listed = listed w.inputs_fit.lengths (ap (λ (y : Layout). y.inputs) (given_is Together l shape e)) (stretch_sound Together l shape e).sizes.inputs_few

    -- those on states or inputs
    pub deps_listed : (on : Source) → FromAll l.shape shape (deps_on on l) (deps_on on x)
    deps_listed State = states_listed
    deps_listed Input = inputs_listed

  -- stretched to a rank, likewise
  module _ (r : ℕ) {x : Layout} (e : broadcast_to_rank Together l r ≡ given x) where
    pub rank_states_listed : FromAll l.shape (fit_to r 1 l.shape) l.states x.states
    rank_states_listed = states_listed (fit_to r 1 l.shape) (rank_made Together l r e)

    pub rank_inputs_listed : FromAll l.shape (fit_to r 1 l.shape) l.inputs x.inputs
    rank_inputs_listed = inputs_listed (fit_to r 1 l.shape) (rank_made Together l r e)
