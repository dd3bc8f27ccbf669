-- What an intersection lists, exactly: what either of the two lists, on the dense axes of a sparse one with every value, at the positions that it keeps. Assumes nothing.
use mathlib.Core.Path.{◌≡◌, refl, sym, ◌∙◌, subst}
use mathlib.Core.Bool.{Bool, true, false, ◌&&◌}
use mathlib.Core.Logic.{◌⊎◌, inl, inr, ⊎_elim}
use mathlib.Core.List.Memᴰ
use mathlib.Core.List.{List, [], ◌∷◌, ◌++◌}
use Prim.Native.Nat.{ℕ, ◌≤◌}
use native.Mathlib.Omega.{arith}
use borrow.Author.Tests.{eqb-true, eqb-false, ltb-false}
use lib.Dec.{eqb}
use lib.ListN.{length, get_or-append}
use Rattle.rules.specs.Lists.{if, product}
use Rattle.rules.specs.RowsInOrder.{merge, In}
use Rattle.rules.specs.Refusals.{given}
use Rattle.rules.specs.Layout.{Layout, is_dense, is_diagonal, is_sparse}
use Rattle.rules.specs.Soundness.{WellFormed, Sound}
use Rattle.rules.specs.Dependencies.{index_of, held}
use Rattle.rules.specs.CountsAndForms.{to_dense, dense_if_full}
use Rattle.rules.specs.Removal.{lists_row}
use Rattle.rules.specs.Holding.{is_position, holds}
use Rattle.rules.specs.Pairs.{with_merged, alike_diagonals, lowered, lower_d, bars_expansion, few_of}
use Rattle.rules.specs.Intersect.{filtered_by, bars_merged, common, intersect}
use Rattle.rules.specs.ComputedFrom.{Source, deps_on, DependsOn, Kept}
use Rattle.rules.proofs.Same.{both_true, neither, true_not_false}
use Rattle.rules.proofs.Order.{ComparedNumbers, under, even, above, compare_numbers}
use Rattle.rules.proofs.Soundness.{OneKind, dense_case, diagonal_case, sparse_case, one_kind}
use Rattle.rules.proofs.Merging.{merge_only}
use Rattle.rules.proofs.Tests.{true_both}
use Rattle.rules.proofs.Low.{below_at}
use Rattle.rules.proofs.Holding.{Position, holds_position, sparse_true}
use Rattle.rules.proofs.Lowering.{Lowered, expands_dense, lowered_same, none_made, lowered_is}
use Rattle.rules.proofs.Full.{dense_if_full_holds, full_diagonal}
use Rattle.rules.proofs.IntersectMade.{common_of, RowsMeet, MadeOf, made_right, made_left, made_diagonals, made_rows, intersect_made}
use Rattle.rules.proofs.IntersectHolds.{intersect_holds}
use Rattle.rules.proofs.EntriesKept.{entry_index, merge_has, merged_deps, full_deps}
use Rattle.rules.proofs.FreeEntries.{index_length, from_itself}
use Rattle.rules.proofs.Offering.{Offers, Solid, dep_length, offers_listed, listed_offers, lowered_only, lowered_has}
use Rattle.rules.proofs.FilteredDeps.{kept_held, held_kept, filtered_only, filtered_has, merged_solid}

-- what an intersection lists: only what one of the two offers; of that all at the positions that it keeps; nothing if it is sparse with dense
-- axes; and nothing but what it keeps, if it is not one of two diagonals
pub record Intersects (on : Source) (a b x : Layout) : Type 0 where
  pub only : {e : List ℕ} → In e (deps_on on x) → Offers on a e ⊎ Offers on b e
  pub has : {e : List ℕ} → Kept x (index_of e) → Offers on a e ⊎ Offers on b e → In e (deps_on on x)
  pub solid : {e : List ℕ} → In e (deps_on on x) → Solid x
  pub filtered : {e : List ℕ} → is_diagonal b && is_diagonal x ≡ false → In e (deps_on on x) → (x.kind ≡ 1 → is_position x.shape (index_of e) ≡ true) → Kept x (index_of e)

-- a dense layout is solid
dense_solid : (l : Layout) → is_dense l ≡ true → Solid l
dense_solid l e = let k : l.kind ≡ 0 = eqb-true l.kind 0 e in rw k

-- dependencies listed by one of two solid layouts, and offered by it
module _ (on : Source) {a b : Layout} (v : WellFormed a) (w : WellFormed b) {e : List ℕ} where
  -- what is listed is offered
  either_offers : Solid a × Solid b → In e (deps_on on a) ⊎ In e (deps_on on b) → Offers on a e ⊎ Offers on b e
  either_offers s m = ⊎_elim (λ i. inl (listed_offers v s.0 on i)) (λ i. inr (listed_offers w s.1 on i)) m

  -- what is offered is listed
  either_lists : Solid a × Solid b → Offers on a e ⊎ Offers on b e → In e (deps_on on a) ⊎ In e (deps_on on b)
  either_lists s m = ⊎_elim (λ i. inl (offers_listed v s.0 on i)) (λ i. inr (offers_listed w s.1 on i)) m

-- a layout that lists a dependency and holds a position is lowered to no dense axis, if it is so where it lists that still
lowered_whole : {l : Layout} (w : WellFormed l) (on : Source) (d : ℕ) → (l.kind ≡ 0 → ⊥) → d ≤ l.dense → bars_expansion l ≡ false → lists_row l d ≡ false → (q : List ℕ) → holds l q ≡ true →
    {r : List ℕ} → In r (deps_on on l) → (In r (deps_on on (lowered l d)) → d ≡ 0) → d ≡ 0
lowered_whole {l} w on d n most bars lists q h {r} i then-zero = by (one_kind w)
  where
    sparse : l.kind ≡ 2 → ComparedNumbers d l.dense → ComparedNumbers 0 d → d ≡ 0
    sparse k (above g) z = absurd (omega arith)
    sparse k (even g) z = then-zero (rw (lowered_same l k (sym g)) i)
    sparse k (under g) (above z) = absurd (omega arith)
    sparse k (under g) (even z) = sym z
    sparse k (under g) (under z) =
        let low = lowered_is w n most bars lists in
        absurd (Memᴰ.not-nil (rw (none_made l k g z lists) at (sparse_true (lowered l d) q low.kind_is (low.holds_same q ∙ h)).1))

    by : OneKind l → d ≡ 0
    by (dense_case k) = absurd (n k)
    by (diagonal_case k) = omega (arith, expands_dense l k bars)
    by (sparse_case k) = sparse k (compare_numbers d l.dense) (compare_numbers 0 d)

-- dense if full, a layout is as solid
full_solid : (l : Layout) → Solid l → Solid (dense_if_full l)
unfolding dense_if_full to_dense
full_solid l s = by (is_sparse l && eqb (length l.rows) (product l.shape))
  where
    by : (t : Bool) → Solid (if t (to_dense l) l)
    by true = refl
    by false = s

module _ (on : Source) (a b : Layout) (v : WellFormed a) (w : WellFormed b) where
  -- with a dense one
  dense_lists : (other : Layout) → ((is_dense a ≡ true) × (other ≡ b)) ⊎ ((is_dense b ≡ true) × (other ≡ a)) → bars_merged a b other ≡ false → Sound (filtered_by a b other) → Intersects on a b (filtered_by a b other)
  unfolding held
  dense_lists other o bars s = record {
    only = λ {e} i. let f = filtered_only on a b other i in either_offers on v w (both (merged_solid on a b other bars f.0)) f.0;
    has = λ {e} k m.
        let sol = ⊎_elim (λ (p : Offers on a e). merged_solid on a b other bars (inl p.listed)) (λ (p : Offers on b e). merged_solid on a b other bars (inr p.listed)) m in
        filtered_has on a b other (either_lists on v w (both sol) m) (kept_held s.form sol (index_of e) k);
    solid = λ {e} i. merged_solid on a b other bars (filtered_only on a b other i).0;
    filtered = λ {e} n i inside.
        let f = filtered_only on a b other i in
        held_kept s.form (merged_solid on a b other bars f.0) (index_of e) (index_length e (dep_length s.form on i)) inside f.1;
  }
    where
      both : Solid other → Solid a × Solid b
      both h = ⊎_elim (λ c. (dense_solid a c.0, subst Solid c.1 h)) (λ c. (subst Solid c.1 h, dense_solid b c.0)) o

  -- of two diagonals
  two_diagonals_list : alike_diagonals a b ≡ true → Intersects on a b (with_merged a b a)
  two_diagonals_list f = record {
    only = λ {e} i. either_offers on v w solids (merge_only (deps_on on a) (deps_on on b) (subst (In e) (merged_deps on a b a) i));
    has = λ {e} k m. subst (In e) (sym (merged_deps on a b a)) (merge_has (deps_on on a) (deps_on on b) (either_lists on v w solids m));
    solid = λ {e} i. solids.0;
    filtered = λ {e} n i inside. absurd (true_not_false (true_both kinds.1 kinds.0) n);
  }
    where
      kinds : (is_diagonal a ≡ true) × (is_diagonal b ≡ true)
      kinds = both_true (is_diagonal a) (is_diagonal b) (both_true (is_diagonal a && is_diagonal b) (eqb a.dense b.dense) f).0

      solids : Solid a × Solid b
      solids = (rw (eqb-true a.kind 1 kinds.0), rw (eqb-true b.kind 1 kinds.1))

  -- of rows
  module _ (r : RowsMeet a b) where
    -- the two layouts, lowered
    abbrev left : Layout
    left = lowered a (lower_d a b)

    abbrev right : Layout
    right = lowered b (lower_d a b)

    -- neither is dense
    kinds : (a.kind ≡ 0 → ⊥) × (b.kind ≡ 0 → ⊥)
    kinds = let n = neither (is_dense a) (is_dense b) r.plain in (eqb-false a.kind 0 n.0, eqb-false b.kind 0 n.1)

    -- both expand
    expand : (bars_expansion a ≡ false) × (bars_expansion b ≡ false)
    expand = neither (bars_expansion a) (bars_expansion b) r.expand

    -- no row is listed where dense axes are left
    bare : (lists_row a (lower_d a b) ≡ false) × (lists_row b (lower_d a b) ≡ false)
    bare = neither (lists_row a (lower_d a b)) (lists_row b (lower_d a b)) r.bare

    -- if the common rows are solid, both are lowered to no dense axis
    solid_zero : Solid (common left right) → lower_d a b ≡ 0
    solid_zero s =
        let low : Lowered a left (lower_d a b) = lowered_is v kinds.0 (omega arith) expand.0 bare.0 in
        omega (arith, ltb-false 0 left.dense s, low.dense_is)

    -- the common rows, dense if full
    rows_list : (s : Sound (common_of a b)) →
        ((q : List ℕ) → holds (dense_if_full (common_of a b)) q ≡ true → (holds a q ≡ true) × (holds b q ≡ true)) → Intersects on a b (dense_if_full (common_of a b))
    unfolding held
    rows_list s both = record {
      only = λ {e} i.
          let g = filtered_only on left right (common left right) (subst (In e) (full_deps on (common_of a b)) i) in
          offered (solid_zero (merged_solid on left right (common left right) r.filter g.0)) g.0;
      has = λ {e} k m.
          let l : In e (deps_on on left) ⊎ In e (deps_on on right) = listed (zero_of k m) m in
          subst (In e) (sym (full_deps on (common_of a b)))
          (filtered_has on left right (common left right) l
          (kept_held {l = common_of a b} s.form (merged_solid on left right (common left right) r.filter l) (index_of e)
          (record { is_held = sym (same_held (index_of e)) ∙ k.is_held; lies_on_diagonal = λ one. absurd (omega arith) })));
      solid = λ {e} i.
          full_solid (common_of a b) (merged_solid on left right (common left right) r.filter (filtered_only on left right (common left right) (subst (In e) (full_deps on (common_of a b)) i)).0);
      filtered = λ {e} n i inside.
          let j = subst (In e) (full_deps on (common_of a b)) i in
          let g = filtered_only on left right (common left right) j in
          let k = held_kept {l = common_of a b} s.form (merged_solid on left right (common left right) r.filter g.0) (index_of e) (index_length e (dep_length s.form on j)) (λ one. absurd (omega arith)) g.1 in
          record { is_held = same_held (index_of e) ∙ k.is_held; lies_on_diagonal = λ one. absurd (full_diagonal (common_of a b) refl one) };
    }
      where
        same_held : (q : List ℕ) → holds (dense_if_full (common_of a b)) q ≡ holds (common_of a b) q
        same_held q = dense_if_full_holds (common_of a b) refl s.form.rows_distinct s.form.row_lengths s.form.rows_lie_below q

        offered : {e : List ℕ} → lower_d a b ≡ 0 → In e (deps_on on left) ⊎ In e (deps_on on right) → Offers on a e ⊎ Offers on b e
        offered z m = ⊎_elim (λ i. inl (lowered_only v on kinds.0 (rw z at i))) (λ i. inr (lowered_only w on kinds.1 (rw z at i))) m

        listed : {e : List ℕ} → lower_d a b ≡ 0 → Offers on a e ⊎ Offers on b e → In e (deps_on on left) ⊎ In e (deps_on on right)
        listed z m =
            let g = both_true (few_of left) (few_of right) r.fews in
            ⊎_elim (λ o. inl (rw z (lowered_has v on kinds.0 (rw z at g.0) o))) (λ o. inr (rw z (lowered_has w on kinds.1 (rw z at g.1) o))) m

        zero_of : {e : List ℕ} → Kept (dense_if_full (common_of a b)) (index_of e) → Offers on a e ⊎ Offers on b e → lower_d a b ≡ 0
        zero_of {e} k m =
            let h = both (index_of e) k.is_held in
            ⊎_elim
            (λ o. lowered_whole v on (lower_d a b) kinds.0 (omega arith) expand.0 bare.0 (index_of e) h.0 o.listed (λ i. solid_zero (merged_solid on left right (common left right) r.filter (inl i))))
            (λ o. lowered_whole w on (lower_d a b) kinds.1 (omega arith) expand.1 bare.1 (index_of e) h.1 o.listed (λ i. solid_zero (merged_solid on left right (common left right) r.filter (inr i))))
            m

-- what an intersection of two well formed layouts lists
pub intersect_lists : (on : Source) {a b x : Layout} → WellFormed a → WellFormed b → intersect a b ≡ given x → Intersects on a b x
intersect_lists on {a} {b} {x} v w g = let m = intersect_made a b g in by m.way m.is_sound (λ q h. both_true (holds a q) (holds b q) (sym (intersect_holds v w g q) ∙ h))
  where
    by : {x : Layout} → MadeOf a b x → Sound x → ((q : List ℕ) → holds x q ≡ true → (holds a q ≡ true) × (holds b q ≡ true)) → Intersects on a b x
    by (made_right f bars) s both = dense_lists on a b v w b (inl (f, refl)) bars s
    by (made_left f bars) s both = dense_lists on a b v w a (inr (f, refl)) bars s
    by (made_diagonals f) s both = two_diagonals_list on a b v w f
    by (made_rows r t) s both = rows_list on a b v w r t both

-- so it lists what either of the two lists, at the positions that it holds, of a diagonal at (i,..,i)
pub intersect_keeps : (on : Source) {a b x : Layout} → WellFormed a → WellFormed b → intersect a b ≡ given x → (p : List ℕ) (j : ℕ) → Kept x p →
    DependsOn on a p j ⊎ DependsOn on b p j → DependsOn on x p j
intersect_keeps on {a} {b} v w g p j h m =
    let both = both_true (holds a p) (holds b p) (sym (intersect_holds v w g p) ∙ h.is_held) in
    (intersect_lists on v w g).has (rw (entry_index p j) h) (⊎_elim (λ i. inl (offers v (holds_position a p both.0) i)) (λ i. inr (offers w (holds_position b p both.1) i)) m)
  where
    offers : {l : Layout} → WellFormed l → Position l.shape p → DependsOn on l p j → Offers on l (p ++ (j ∷ []))
    offers {l} u pos i = record {
      dependency = p ++ (j ∷ []);
      listed = i;
      takes = from_itself _ l.shape (dep_length u on i)
          (λ k n _. rw (get_or-append p (j ∷ []) 0 k (omega (arith, pos.size))) (below_at p l.shape pos.inside k (omega (arith, pos.size)) n));
    }

-- an intersection of two diagonals is a diagonal that lists all that either of the two lists; with another D it is refused
pub diagonals_meet : (on : Source) (a b : Layout) {x : Layout} → a.kind ≡ 1 → b.kind ≡ 1 → intersect a b ≡ given x → (x.kind ≡ 1) × (deps_on on x ≡ merge (deps_on on a) (deps_on on b))
diagonals_meet on a b k j g = by (intersect_made a b g).way
  where
    no_dense : (l : Layout) → l.kind ≡ 1 → is_dense l ≡ true → ⊥
    no_dense l k f = omega (arith, eqb-true l.kind 0 f)

    by : {x : Layout} → MadeOf a b x → (x.kind ≡ 1) × (deps_on on x ≡ merge (deps_on on a) (deps_on on b))
    by (made_right f bars) = absurd (no_dense a k f)
    by (made_left f bars) = absurd (no_dense b j f)
    by (made_diagonals f) = (k, merged_deps on a b a)
    by (made_rows r s) =
        let bars = neither (bars_expansion a) (bars_expansion b) r.expand in
        let p = expands_dense a k bars.0 in
        let q = expands_dense b j bars.1 in
        absurd (true_not_false (rw (k, j, p, q)) r.apart)
