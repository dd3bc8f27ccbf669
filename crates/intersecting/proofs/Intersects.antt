-- Which answer `intersect` gives of two sound layouts, case by case, and how large its numbers are. Assumes nothing.
use mathlib.Core.Path.{◌≡◌, refl, sym, ap, subst, ◌∙◌}
use mathlib.Core.Bool.{Bool, true, false, not, ◌&&◌, ◌||◌}
use mathlib.Core.List.{List, [], ◌∷◌}
use Prim.Native.Nat.{ℕ, ◌≤◌}
use native.Mathlib.Omega.{arith}
use borrow.Author.Tests.{eqb-false}
use lib.Dec.{ltb}
use lib.ListN.{length}
use Rattle.rules.specs.Lists.{if, keep, same}
use Rattle.rules.specs.RowsInOrder.{merge, among}
use Rattle.rules.specs.Refusals.{given, refused, in_form, ◌then◌, ◌when◌, lowest}
use Rattle.rules.specs.Layout.{Layout, rank, is_dense, is_diagonal, nonzero_product, made}
use Rattle.rules.specs.Limits.{product_limit}
use Rattle.rules.specs.Soundness.{DepsFit, DepsLow, WellFormed, Sound}
use Rattle.rules.specs.Dependencies.{filter_deps, bars_filter}
use Rattle.rules.specs.CountsAndForms.{to_dense, dense_if_full}
use Rattle.rules.specs.Removal.{lists_row, remove_dense_axes}
use Rattle.rules.specs.Pairs.{with_merged, alike_diagonals, expanded, lowered, lower_d, bars_expansion, few_of}
use Rattle.rules.specs.Intersect.{filtered_by, bars_merged, with_dense, common, intersect_of_rows, intersect}
use Rattle.rules.proofs.Order.{ComparedNumbers, under, even, above, compare_numbers}
use Rattle.rules.proofs.Same.{neither, same_true}
use Rattle.rules.proofs.Sorting.{sorted_each, sorted_sorted}
use Rattle.rules.proofs.Keeping.{keep_only}
use Rattle.rules.proofs.Soundness.{OneKind, dense_case, diagonal_case, sparse_case, one_kind}
use Rattle.rules.proofs.Made.{few_or, Formed, sound_formed, formed_made, formed_deps, formed_merged}
use Rattle.rules.proofs.Forming.{DepsOfRank, Framed, states_of_rank, inputs_of_rank, sparse_framed, if_full}
use Rattle.rules.proofs.Lowering.{expands_dense, lowered_diagonal, lowered_same, lowered_removed, Lowered, lowered_is}
use Rattle.rules.proofs.Low.{merged_deps_low}
use Rattle.rules.proofs.IntersectHolds.{Met, of_right, of_left, of_diagonals, of_rows, intersect_gives}
use Rattle.lowering.specs.Lowering.{lowered_deps}
use Rattle.lowering.proofs.LoweredDeps.{lowered_deps_lem}
use Rattle.intersecting.specs.Intersecting.{depends, common_of, few_common}
use Rattle.intersecting.proofs.FilteredDeps.{held_each, held_of_rank, lowered_of_rank, lowered_low}
use Rattle.intersecting.proofs.Meeting.{merged_meet}

-- dependencies of a rank fit a layout of that rank
fit_of : (l : Layout) {deps : List (List ℕ)} → DepsOfRank (rank l) deps → DepsFit l deps
fit_of l p = record { lengths = λ d m. (p.each d m).size; increase = p.increase }

-- ---- which way

-- shapes disagree: 6
pub intersect_shapes : (a b : Layout) → same a.shape b.shape ≡ false → intersect a b ≡ refused 6
unfolding intersect lowest
intersect_shapes a b e = rw e

module _ (a b : Layout) (e : same a.shape b.shape ≡ true) where
  -- the left one is dense, or only the right one
  pub left_dense : is_dense a ≡ true → intersect a b ≡ with_dense a b b
  unfolding intersect lowest
  left_dense f = rw (e, f)

  pub right_dense : is_dense a ≡ false → is_dense b ≡ true → intersect a b ≡ with_dense a b a
  unfolding intersect lowest
  right_dense f g = rw (e, f, g)

  module _ (f : is_dense a || is_dense b ≡ false) where
    plain : (is_dense a ≡ false) × (is_dense b ≡ false)
    plain = neither (is_dense a) (is_dense b) f

    -- two diagonals with equal D: merged, not filtered
    pub intersect_diagonals : Sound a → Sound b → alike_diagonals a b ≡ true → intersect a b ≡ few_or (with_merged a b a)
    unfolding intersect lowest
    intersect_diagonals p q g = rw (e, plain.0, plain.1, g) (formed_made (formed_merged p q refl (ap length (same_true e)) (sound_formed p)))

    -- otherwise by rows
    by_rows_lem : alike_diagonals a b ≡ false → intersect a b ≡ intersect_of_rows a b
    unfolding intersect lowest
    by_rows_lem g = rw (e, plain.0, plain.1, g)

-- ---- with a dense one

module _ {a b o : Layout} (p : Sound a) (q : Sound b) (s : Sound o) (ra : rank a ≡ rank o) (rb : rank b ≡ rank o) where
  filtered_formed : Formed (filtered_by a b o)
  filtered_formed =
      let states = held_of_rank o (rw ra at (states_of_rank p)) (rw rb at (states_of_rank q)) in
      let inputs = held_of_rank o (rw ra at (inputs_of_rank p)) (rw rb at (inputs_of_rank q)) in
      formed_deps (sound_formed s) (fit_of o states) (fit_of o inputs) (λ d m. (states.each d m).small) (λ d m. (inputs.each d m).small)

  -- a dependency meets dense axes: 11
  pub dense_barred : bars_merged a b o ≡ true → with_dense a b o ≡ refused 11
  unfolding with_dense lowest
  dense_barred e = rw e

  -- the other one, with the dependencies of both that it holds
  pub dense_given : bars_merged a b o ≡ false → with_dense a b o ≡ few_or (filtered_by a b o)
  unfolding with_dense lowest
  dense_given e = rw e (formed_made filtered_formed)

-- ---- by rows

-- a layout that may expand has the smaller D once it is lowered
lowered_dense : {l : Layout} {d : ℕ} → WellFormed l → (l.kind ≡ 0 → ⊥) → d ≤ l.dense → bars_expansion l ≡ false → (lowered l d).dense ≡ d
unfolding expanded remove_dense_axes
lowered_dense {l} {d} w n h e = by (one_kind w)
  where
    sparse : l.kind ≡ 2 → ComparedNumbers d l.dense → (lowered l d).dense ≡ d
    sparse k (under s) = rw (lowered_removed l k s)
    sparse k (even s) = rw (lowered_same l k (sym s)) (sym s)
    sparse k (above s) = absurd (omega arith)

    by : OneKind l → (lowered l d).dense ≡ d
    by (dense_case k) = absurd (n k)
    by (diagonal_case k) = rw (lowered_diagonal l d k) (omega (arith, expands_dense l k e))
    by (sparse_case k) = sparse k (compare_numbers d l.dense)

-- its shape stays
lowered_shape : (l : Layout) (d : ℕ) → (lowered l d).shape ≡ l.shape
unfolding lowered expanded remove_dense_axes
lowered_shape l d = go (is_diagonal l) (ltb d l.dense) refl refl
  where
    go : (s t : Bool) → is_diagonal l ≡ s → ltb d l.dense ≡ t → (lowered l d).shape ≡ l.shape
    go true t e f = rw e
    go false true e f = rw (e, f)
    go false false e f = rw (e, f)

module _ {a b : Layout} (p : Sound a) (q : Sound b) (e : same a.shape b.shape ≡ true) (f : is_dense a || is_dense b ≡ false) (g : alike_diagonals a b ≡ false) where
  abbrev d : ℕ
  d = lower_d a b

  abbrev x : Layout
  x = lowered a d

  abbrev y : Layout
  y = lowered b d

  ranks : rank a ≡ rank b
  ranks = ap length (same_true e)

  -- a diagonal with dense axes does not expand: 11
  pub rows_barred : bars_expansion a || bars_expansion b ≡ true → intersect a b ≡ refused 11
  unfolding intersect_of_rows lowest
  rows_barred h = rw (by_rows_lem a b e f g, h)

  module _ (h : bars_expansion a || bars_expansion b ≡ false) where
    free : (bars_expansion a ≡ false) × (bars_expansion b ≡ false)
    free = neither (bars_expansion a) (bars_expansion b) h

    kinds : (a.kind ≡ 0 → ⊥) × (b.kind ≡ 0 → ⊥)
    kinds = let k = plain a b e f in (eqb-false a.kind 0 k.0, eqb-false b.kind 0 k.1)

    -- whether a lowered dependency meets dense axes that are left
    pub meets_is : bars_merged x y (common x y) ≡ ltb 0 d && (depends a d || depends b d)
    unfolding bars_filter
    meets_is =
        let l = lowered_deps_lem a d in
        let r = lowered_deps_lem b d in
        rw (lowered_dense {d = d} p.form kinds.0 (omega arith) free.0, l.0, l.1, r.0, r.1)
        (ap (λ (t : Bool). ltb 0 d && t) (merged_meet (lowered_deps a d a.states) (lowered_deps b d b.states) (lowered_deps a d a.inputs) (lowered_deps b d b.inputs)))

    -- then 11
    pub rows_meet : ltb 0 d && (depends a d || depends b d) ≡ true → intersect a b ≡ refused 11
    unfolding intersect_of_rows lowest
    rows_meet i = rw (by_rows_lem a b e f g, h, meets_is ∙ i)

    module _ (i : ltb 0 d && (depends a d || depends b d) ≡ false) where
      -- a row is listed while the new D is above 0: 12
      pub rows_listed : lists_row a d || lists_row b d ≡ true → intersect a b ≡ refused 12
      unfolding intersect_of_rows lowest
      rows_listed j = rw (by_rows_lem a b e f g, h, meets_is ∙ i, j)

      module _ (j : lists_row a d || lists_row b d ≡ false) where
        bare : (lists_row a d ≡ false) × (lists_row b d ≡ false)
        bare = neither (lists_row a d) (lists_row b d) j

        pub left_lowered : Lowered a x d
        left_lowered = lowered_is p.form kinds.0 (omega arith) free.0 bare.0

        states_are : DepsOfRank (rank a) (filter_deps (common x y) (merge x.states y.states))
        states_are =
            rw ((lowered_deps_lem a d).0, (lowered_deps_lem b d).0)
            (held_of_rank (common x y) (lowered_of_rank a d p.sizes.product_most (states_of_rank p)) (subst (λ (n : ℕ). DepsOfRank n (lowered_deps b d b.states)) (sym ranks) (lowered_of_rank b d q.sizes.product_most (states_of_rank q))))

        inputs_are : DepsOfRank (rank a) (filter_deps (common x y) (merge x.inputs y.inputs))
        inputs_are =
            rw ((lowered_deps_lem a d).1, (lowered_deps_lem b d).1)
            (held_of_rank (common x y) (lowered_of_rank a d p.sizes.product_most (inputs_of_rank p)) (subst (λ (n : ℕ). DepsOfRank n (lowered_deps b d b.inputs)) (sym ranks) (lowered_of_rank b d q.sizes.product_most (inputs_of_rank q))))

        common_framed : Framed (common_of a b d)
        common_framed = record {
          rank_most = rw left_lowered.shape_is p.form.rank_most;
          product_most = rw left_lowered.shape_is p.sizes.product_most;
          states_are = subst (λ (n : ℕ). DepsOfRank n (filter_deps (common x y) (merge x.states y.states))) (sym (ap length left_lowered.shape_is)) states_are;
          inputs_are = subst (λ (n : ℕ). DepsOfRank n (filter_deps (common x y) (merge x.inputs y.inputs))) (sym (ap length left_lowered.shape_is)) inputs_are;
        }

        common_formed : Formed (common_of a b d)
        common_formed =
            let test : List ℕ → Bool = λ r. among r y.rows in
            sparse_framed common_framed refl (rw (left_lowered.dense_is, left_lowered.shape_is) (omega (arith, p.form.dense_most)))
            (ap length (sorted_sorted (keep test x.rows)))
            (rw (left_lowered.dense_is, left_lowered.shape_is) (sorted_each (λ r m. left_lowered.row_lengths r (keep_only test x.rows r m))))
            (rw left_lowered.shape_is (sorted_each (λ r m. left_lowered.rows_lie_below r (keep_only test x.rows r m))))

        -- the common rows with the dependencies of both that they hold, dense if they are all; 13 if a list is too long
        pub rows_told : intersect a b ≡ if (few_common a b d) (given (dense_if_full (common_of a b d))) (refused 13)
        unfolding intersect_of_rows lowest
        rows_told = rw (by_rows_lem a b e f g, h, meets_is ∙ i, j) (judged (few_of x && few_of y))
          where
            ended : (t : Bool) → made (common_of a b d) ≡ if t (given (common_of a b d)) (refused 13) →
                in_form dense_if_full (made (common_of a b d)) ≡ if t (given (dense_if_full (common_of a b d))) (refused 13)
            ended true k = rw k
            ended false k = rw k

            judged : (t : Bool) → (lowest (13 when not t ∷ []) then λ _. in_form dense_if_full (made (common_of a b d)))
                ≡ if (t && few_of (common_of a b d)) (given (dense_if_full (common_of a b d))) (refused 13)
            judged true = ended (few_of (common_of a b d)) (formed_made common_formed)
            judged false = refl

-- ---- what is given

-- merged and filtered dependencies of two layouts with low ones are low
held_low : {x y : Layout} (l : Layout) → DepsLow x → DepsLow y → DepsLow (filtered_by x y l)
held_low l p q = record { states_low = held_each l p.states_low q.states_low; inputs_low = held_each l p.inputs_low q.inputs_low }

-- lowered ones are
low_lowered : (l : Layout) (d : ℕ) → nonzero_product l.shape ≤ product_limit → DepsLow l → DepsLow (lowered l d)
low_lowered l d h p = record {
  states_low = rw (lowered_deps_lem l d).0 (lowered_low l d h p.states_low);
  inputs_low = rw (lowered_deps_lem l d).1 (lowered_low l d h p.inputs_low);
}

-- a layout that turns dense if it is full has low dependencies as before
full_low : {l : Layout} → DepsLow l → DepsLow (dense_if_full l)
unfolding to_dense
full_low {l} p = if_full DepsLow l p (record { states_low = p.states_low; inputs_low = p.inputs_low })

-- the numbers of an answer's dependencies are below 2 ^ 31 if those of both are
pub intersect_low : {a b l : Layout} → DepsLow a → DepsLow b → intersect a b ≡ given l → DepsLow l
intersect_low {a} {b} p q e = let g = intersect_gives a b e in by g.shapes g.met
  where
    d : ℕ
    d = lower_d a b

    by : a.shape ≡ b.shape → {x : Layout} → Met a b x → DepsLow x
    by k (of_right f) = held_low b p q
    by k (of_left f) = held_low a p q
    by k (of_diagonals f) = merged_deps_low a p q
    by k (of_rows f h i s) =
        let small : nonzero_product a.shape ≤ product_limit = rw (lowered_shape a d) at s.sizes.product_most in
        full_low (held_low (common (lowered a d) (lowered b d)) (low_lowered a d small p) (low_lowered b d (rw k at small) q))
