-- No entry is lost by one operation: what an argument lists at a position, the result lists at every position that is computed from it.
-- Assumes nothing.
use mathlib.Core.Path.{◌≡◌, refl, sym, ap, ◌∙◌}
use mathlib.Core.Bool.{Bool, true, false, not, ◌&&◌, ◌||◌}
use mathlib.Core.Logic.{◌⊎◌, ⊎_elim}
use mathlib.Core.List.Memᴰ
use mathlib.Core.List.{List, [], ◌∷◌, ◌++◌, map, Memᴰ}
use Prim.Native.Nat.{ℕ, zero, suc, ◌-◌, ◌≤◌, ◌<◌}
use native.Mathlib.Omega.{arith}
use borrow.Author.Tests.{eqb-true, ltb-true, lt-ltb, leb-false}
use lib.Dec.{eqb, ltb, leb}
use lib.IntN.{ℤ}
use lib.ListN.{length, get_or, take, length-append, length-take, get_or-append}
use lib.Seq.{length-take-le, take_at, take_all, drop_at, get_or-take}
use Rattle.rules.specs.declared.Mode.{Mode}
use Rattle.rules.specs.declared.Mode.TheVariants.{Alone, Together}
use Rattle.rules.specs.Lists.{if, none, all_below, fit_to}
use Rattle.rules.specs.RowsInOrder.{sorted, merge, In, Each}
use Rattle.rules.specs.Refusals.{given}
use Rattle.rules.specs.Layout.{Layout, rank, with_deps}
use Rattle.rules.specs.Soundness.{WellFormed, Sound}
use Rattle.rules.specs.Record.{naturals}
use Rattle.rules.specs.Dependencies.{index_of, on_index}
use Rattle.rules.specs.Lookup.{read_index}
use Rattle.rules.specs.CountsAndForms.{to_dense, dense_if_full}
use Rattle.rules.specs.Holding.{is_position}
use Rattle.rules.specs.Pairs.{with_merged}
use Rattle.rules.specs.Union.{union}
use Rattle.rules.specs.Stretching.{shared_axes_fit, is_stretched, stretched_axes, broadcast_to_shape, broadcast_to_rank}
use Rattle.rules.specs.ContractLastAxis.{shortened, shortened_deps, over_shorter, contracted, contract_last_axis}
use Rattle.rules.specs.Permute.{moved, permuted, permute}
use Rattle.rules.specs.Concatenate.{Block, joined_deps, concatenate, moved_by}
use Rattle.rules.specs.FilterDepsFrom.{cut_axis, in_range, less_start, cut_deps, filter_deps_from}
use Rattle.rules.specs.ComputedFrom.{Source, State, Input, deps_on, DependsOn, read_at, StretchedFrom, ComesFrom, ContractedFrom, PermutedFrom, JoinedFrom, CutFrom}
use Rattle.rules.proofs.Same.{both_true, true_not_false}
use Rattle.rules.proofs.Tests.{true_both}
use Rattle.rules.proofs.Sorting.{sorted_has}
use Rattle.rules.proofs.Merging.{merge_left, merge_right}
use Rattle.rules.proofs.Keeping.{keep_has}
use Rattle.rules.proofs.Gathering.{gather_has}
use Rattle.rules.proofs.Low.{below_at}
use Rattle.rules.proofs.Changed.{at_seam}
use Rattle.rules.proofs.Replaced.{fit_at}
use Rattle.rules.proofs.Finding.{read_length}
use Rattle.rules.proofs.Holding.{Position, position_true, true_position}
use Rattle.rules.proofs.Forming.{if_full}
use Rattle.rules.proofs.Contracting.{contracted_cases}
use Rattle.rules.proofs.Unions.{union_gives}
use Rattle.rules.proofs.Given.{made_given, contract_made, permute_made, filter_made, rank_made, stretch_fits, stretch_shape, stretch_sound}
use Rattle.rules.proofs.StretchedModes.{modes_same}
use Rattle.rules.proofs.StretchedTogether.{deps_listed}
use Rattle.rules.proofs.ConcatenateMade.{joined_full}
use Rattle.rules.proofs.ConcatenateRefused.{concatenate_joined}

-- ---- an entry, and its index changed

module _ (p : List ℕ) (j : ℕ) where
  -- without the number it is as long as its index
  front_length : length (p ++ (j ∷ [])) - 1 ≡ length p
  front_length = rw length-append (omega arith)

  -- its index
  pub entry_index : index_of (p ++ (j ∷ [])) ≡ p
  entry_index = take_at p (j ∷ []) _ (sym front_length)

  -- the number is behind the index
  pub entry_number : {n : ℕ} → length p ≡ n → get_or (p ++ (j ∷ [])) n 0 ≡ j
  entry_number e = at_seam p (j ∷ []) e

  -- a change of its index leaves the number
  pub entry_changed : (f : List ℕ → List ℕ) → on_index f (p ++ (j ∷ [])) ≡ f p ++ (j ∷ [])
  unfolding on_index
  entry_changed f = rw (entry_index, drop_at p (j ∷ []) _ (sym front_length))

  -- an entry with its index changed is one of the dependencies changed
  changed_in : (f : List ℕ → List ℕ) {deps : List (List ℕ)} → In (p ++ (j ∷ [])) deps → In (f p ++ (j ∷ [])) (map (on_index f) deps)
  changed_in f m = rw (← entry_changed f) (Memᴰ.map (on_index f) m)

-- the dependencies of a layout, if those on states and those on inputs are told
pub deps_as : (on : Source) (deps : Source → List (List ℕ)) (x : Layout) → x.states ≡ deps State → x.inputs ≡ deps Input → deps_on on x ≡ deps on
deps_as State deps x s i = s
deps_as Input deps x s i = i

-- so it lists them
lists_as : (on : Source) (deps : Source → List (List ℕ)) (x : Layout) → x.states ≡ deps State → x.inputs ≡ deps Input → {e : List ℕ} → In e (deps on) → In e (deps_on on x)
lists_as on deps x s i m = rw (deps_as on deps x s i) m

-- ---- union

-- an entry of either list is one of the merged one
pub merge_has : {e : List ℕ} (s t : List (List ℕ)) → In e s ⊎ In e t → In e (merge s t)
merge_has s t m = ⊎_elim (λ i. merge_left t i) (λ i. merge_right s i) m

-- a layout with the dependencies of two merged lists those
pub merged_deps : (on : Source) (a b l : Layout) → deps_on on (with_merged a b l) ≡ merge (deps_on on a) (deps_on on b)
merged_deps on a b l = deps_as on (λ s. merge (deps_on s a) (deps_on s b)) (with_merged a b l) refl refl

-- a union lists what either of the two lists, merged
pub union_deps : (on : Source) (a b : Layout) {x : Layout} → union a b ≡ given x → deps_on on x ≡ merge (deps_on on a) (deps_on on b)
union_deps on a b e =
    let g = union_gives a b e in
    made_given (λ y. deps_on on y ≡ merge (deps_on on a) (deps_on on b)) (λ _. merged_deps on a b g.whole) g.was_made

-- so it lists what either of the two lists
pub union_keeps : (on : Source) (a b : Layout) {x : Layout} → union a b ≡ given x → (p : List ℕ) (j : ℕ) → DependsOn on a p j ⊎ DependsOn on b p j → DependsOn on x p j
union_keeps on a b e p j m = rw (union_deps on a b e) (merge_has (deps_on on a) (deps_on on b) m)

-- ---- stretching in mode 1

-- what an index is read as, component by component
read_at_lem : (q old : List ℕ) (k : ℕ) → k < length q → k < length old → get_or (read_index q old) k 0 ≡ if (eqb (get_or old k 0) 1) 0 (get_or q k 0)
unfolding read_index
read_at_lem [] old k h g = absurd (omega arith)
read_at_lem (c ∷ q) [] k h g = absurd (omega arith)
read_at_lem (c ∷ q) (e ∷ old) zero h g = refl
read_at_lem (c ∷ q) (e ∷ old) (suc k) h g = read_at_lem q old k (omega arith) (omega arith)

-- an entry at q comes from one at p, if q is computed from p
comes : (old shape p q : List ℕ) (j : ℕ) → length p ≡ length old → StretchedFrom old shape p q → ComesFrom old shape (p ++ (j ∷ [])) (q ++ (j ∷ []))
comes old shape p q j n s = record {
  size = rw length-append (omega (arith, pos.size));
  number = entry_number q j pos.size ∙ sym (entry_number p j n);
  agrees = agrees;
  inside = λ k h e. rw (component k h) (below_at q shape pos.inside k (omega (arith, pos.size)) h);
}
  where
    pos : Position shape q
    pos = position_true shape q s.inside

    component : (k : ℕ) → k < length shape → get_or (q ++ (j ∷ [])) k 0 ≡ get_or q k 0
    component k h = get_or-append q (j ∷ []) 0 k (omega (arith, pos.size))

    agrees : (k : ℕ) → k < length shape → is_stretched old shape k ≡ false → get_or (q ++ (j ∷ [])) k 0 ≡ get_or (fit_to (length shape) 0 (index_of (p ++ (j ∷ [])))) k 0
    agrees k h e = component k h ∙ rw (entry_index p j) (go (leb (length old) k) refl (eqb (get_or old k 0) 1) refl (eqb (get_or shape k 0) 1) refl e)
      where
        reads_at : k < length old → get_or p k 0 ≡ if (eqb (get_or old k 0) 1) 0 (get_or q k 0)
        reads_at here =
            sym (get_or-take (length shape) p k 0 h)
            ∙ ap (λ (r : List ℕ). get_or r k 0) s.reads
            ∙ get_or-take (length old) (read_index q old) k 0 here
            ∙ read_at_lem q old k (omega (arith, pos.size)) here

        go : (s : Bool) → leb (length old) k ≡ s → (t : Bool) → eqb (get_or old k 0) 1 ≡ t → (u : Bool) → eqb (get_or shape k 0) 1 ≡ u → s || (t && not u) ≡ false →
            get_or q k 0 ≡ get_or (fit_to (length shape) 0 p) k 0
        go true a t b u c f = absurd (true_not_false refl f)
        go false a true b false c f = absurd (true_not_false refl f)
        go false a true b true c f =
            let here : k < length old = leb-false (length old) k a in
            let one : get_or shape k 0 ≡ 1 = eqb-true (get_or shape k 0) 1 c in
            let low = below_at q shape pos.inside k (omega (arith, pos.size)) h in
            let zero-there : get_or p k 0 ≡ 0 = reads_at here ∙ rw b in
            rw (fit_at (length shape) 0 p k h (omega arith)) (omega arith)
        go false a false b u c f =
            let here : k < length old = leb-false (length old) k a in
            rw (fit_at (length shape) 0 p k h (omega arith)) (sym (reads_at here ∙ rw b))

-- what a position of the new shape reads lies below the old extents
read_below : (old shape q : List ℕ) → shared_axes_fit old shape ≡ true → length q ≡ length shape → all_below q shape ≡ true → all_below (read_at old q) old ≡ true
unfolding shared_axes_fit all_below read_index
read_below [] shape q f h b = refl
read_below (e ∷ old) shape [] f h b = refl
read_below (e ∷ old) [] (c ∷ q) f h b = absurd (omega arith)
read_below (e ∷ old) (n ∷ shape) (c ∷ q) f h b =
    let fits = both_true (eqb e 1 || eqb e n) (shared_axes_fit old shape) f in
    let low = both_true (ltb c n) (all_below q shape) b in
    true_both (first (eqb e 1) refl (eqb e n) refl fits.0 (ltb-true c n low.0)) (read_below old shape q fits.1 (omega arith) low.1)
  where
    first : (s : Bool) → eqb e 1 ≡ s → (t : Bool) → eqb e n ≡ t → s || t ≡ true → c < n → ltb (if s 0 c) e ≡ true
    first true i t k o l = lt-ltb 0 e (omega (arith, eqb-true e 1 i))
    first false i true k o l = lt-ltb c e (omega (arith, eqb-true e n k))
    first false i false k o l = absurd (true_not_false o refl)

-- every position of the new shape reads a position of the old one, where that is not of a higher rank
pub read_position : (old shape q : List ℕ) → shared_axes_fit old shape ≡ true → length old ≤ length shape → is_position shape q ≡ true →
    is_position old (read_at old q) ≡ true
read_position old shape q f h i =
    let p = position_true shape q i in
    true_position (record { size = length-take-le (length old) (read_index q old) (omega (arith, p.size, read_length q old)); inside = read_below old shape q f p.size p.inside })

-- so does every position of what a layout is stretched to, if no axis is cut
pub stretch_reads : (mode : Mode) (l : Layout) (shape : List ℕ) {x : Layout} → broadcast_to_shape mode l shape ≡ given x → rank l ≤ length shape → (q : List ℕ) → is_position shape q ≡ true →
    is_position l.shape (read_at l.shape q) ≡ true
stretch_reads mode l shape e h q i = read_position l.shape shape q (stretch_fits mode l shape e).0 h i

-- and it is computed from that
pub read_computed : (old shape q : List ℕ) → is_position shape q ≡ true → StretchedFrom old shape (read_at old q) q
read_computed old shape q i = record {
  inside = i;
  reads = take_all (length shape) (read_at old q) (rw (length-take, read_length) (omega (arith, (position_true shape q i).size)));
}

module _ {l : Layout} (w : WellFormed l) where
  -- the index of an entry has R components
  entry_length : (on : Source) (p : List ℕ) (j : ℕ) → DependsOn on l p j → length p ≡ rank l
  entry_length State p j m = omega (arith, front_length p j, w.states_fit.lengths (p ++ (j ∷ [])) m)
  entry_length Input p j m = omega (arith, front_length p j, w.inputs_fit.lengths (p ++ (j ∷ [])) m)

  -- a layout stretched to a shape lists at every position of it what is listed where that is read
  pub stretch_keeps : (on : Source) (shape : List ℕ) {x : Layout} → broadcast_to_shape Together l shape ≡ given x → (p q : List ℕ) (j : ℕ) →
      StretchedFrom l.shape shape p q → DependsOn on l p j → DependsOn on x q j
  stretch_keeps on shape e p q j s m = (deps_listed w shape e on).has m (comes l.shape shape p q j (entry_length on p j m) s)

  -- so does one stretched to a rank
  pub rank_keeps : (on : Source) (r : ℕ) {x : Layout} → broadcast_to_rank Together l r ≡ given x → (p q : List ℕ) (j : ℕ) →
      StretchedFrom l.shape (fit_to r 1 l.shape) p q → DependsOn on l p j → DependsOn on x q j
  rank_keeps on r e = stretch_keeps on (fit_to r 1 l.shape) (rank_made Together l r e)

-- mode 0 keeps them too where at most one axis stretches, and every entry lies below its new extent there
pub alone_keeps : {l : Layout} → Sound l → (on : Source) (shape : List ℕ) {x : Layout} → broadcast_to_shape Alone l shape ≡ given x → length (stretched_axes l.shape shape) ≤ 1 →
    ((on : Source) → Each (λ d. (k : ℕ) → Memᴰ k (stretched_axes l.shape shape) → get_or (on_index (fit_to (length shape) 0) d) k 0 < get_or shape k 0) (deps_on on l)) → (p q : List ℕ) (j : ℕ) →
    StretchedFrom l.shape shape p q → DependsOn on l p j → DependsOn on x q j
alone_keeps {l} s on shape {x} e one low =
    let t = stretch_sound Alone l shape e in
    let is : x.shape ≡ shape = stretch_shape Alone l shape e in
    stretch_keeps s.form on shape (sym (modes_same s shape (rw (← is) t.form.rank_most) (rw (← is) t.sizes.product_most) one (low State) (low Input)) ∙ e)

-- ---- contraction, permutation, concatenation, cutting

-- dense if full, a layout lists the same
pub full_deps : (on : Source) (l : Layout) → deps_on on (dense_if_full l) ≡ deps_on on l
unfolding to_dense
full_deps on l = if_full (λ x. deps_on on x ≡ deps_on on l) l refl (deps_as on (λ s. deps_on s l) (to_dense l) refl refl)

module _ (p : List ℕ) (j : ℕ) where
  -- what is contracted lists what was listed, with its index shortened
  contracted_has : (on : Source) (l : Layout) → DependsOn on l p j → DependsOn on (contracted l) (shortened p) j
  unfolding to_dense shortened_deps
  contracted_has on l m =
      contracted_cases l (λ x. DependsOn on x (shortened p) j) (shorter (over_shorter l (l.dense - 1) l.rows) refl refl) (shorter (over_shorter l 0 []) refl refl)
      (shorter (to_dense (over_shorter l 0 [])) refl refl) (shorter (over_shorter l 0 rows) refl refl) (shorter (to_dense (over_shorter l 0 rows)) refl refl)
    where
      rows : List (List ℕ)
      rows = sorted (map shortened l.rows)

      shorter : (x : Layout) → x.states ≡ shortened_deps l.states → x.inputs ≡ shortened_deps l.inputs → DependsOn on x (shortened p) j
      shorter x s i = lists_as on (λ s. shortened_deps (deps_on s l)) x s i (sorted_has (changed_in p j shortened m))

  -- a contraction lists at each position what is listed at those that it sums
  pub contract_keeps : (on : Source) (l : Layout) {x : Layout} → contract_last_axis l ≡ given x → (q : List ℕ) → ContractedFrom p q → DependsOn on l p j → DependsOn on x q j
  contract_keeps on l e q c m = rw c (made_given (λ y. DependsOn on y (shortened p) j) (λ _. contracted_has on l m) (contract_made l e))

  -- a permutation lists at each position what is listed where it comes from
  pub permute_keeps : (on : Source) (l : Layout) (entries : List ℤ) {x : Layout} → permute l entries ≡ given x → (q : List ℕ) → PermutedFrom entries p q →
      DependsOn on l p j → DependsOn on x q j
  unfolding permuted
  permute_keeps on l entries e q c m =
      rw c (permute_made l entries e (λ y. DependsOn on y (if (none entries) p (moved 0 (naturals entries) p)) j) (λ n. rw n m)
      (λ n _. rw n (lists_as on (λ s. sorted (map (on_index (moved 0 (naturals entries))) (deps_on s l))) (permuted l (naturals entries)) refl refl (sorted_has (changed_in p j (moved 0 (naturals entries)) m)))))

  -- a join lists what each of its blocks lists, flagged as zero or not
  pub concatenate_keeps : (on : Source) (r : ℕ) (blocks : List Block) {x : Layout} → concatenate blocks r ≡ given x → (b : Block) → Memᴰ b blocks → (q : List ℕ) → JoinedFrom r b.start p q →
      DependsOn on b.layout p j → DependsOn on x q j
  unfolding joined_deps
  concatenate_keeps on r blocks e b i q c m =
      let joined = concatenate_joined r i e in
      rw c (made_given (λ y. DependsOn on y (moved_by b.start (fit_to r 0 p)) j)
      (λ _. lists_as on (λ s. joined_deps r (deps_on s) blocks) (joined_full r blocks joined.whole) refl refl
      (sorted_has (gather_has _ i (changed_in p j (λ index. moved_by b.start (fit_to r 0 index)) m)))) joined.was_made)

  -- what is cut of a source lists what the source lists in the range
  pub filter_keeps : (on : Source) (target source : Layout) (start end : ℕ) {x : Layout} → filter_deps_from target source start end ≡ given x → (q : List ℕ) → CutFrom target source start end p q →
      DependsOn on source p j → DependsOn on x q j
  unfolding cut_deps
  filter_keeps on target source start end e q c m =
      let to : List ℕ → List ℕ = λ index. less_start (cut_axis source) start (take (rank target) index) in
      let cut : Source → List (List ℕ) = λ s. cut_deps target source start end (deps_on s source) in
      rw c.cut (made_given (λ y. DependsOn on y (to p) j)
      (λ _. lists_as on cut (with_deps (cut State) (cut Input) target) refl refl (changed_in p j to (keep_has (λ d. in_range source start end (index_of d)) m (rw (entry_index p j) c.ranges))))
      (filter_made target source start end e))

-- a layout that is stretched in mode 1 and then joined as a block: the join lists, where that moves them, all entries that the stretched one has
pub widened_keeps : {l : Layout} → WellFormed l → (on : Source) (shape : List ℕ) (b : Block) → broadcast_to_shape Together l shape ≡ given b.layout → (r : ℕ) (blocks : List Block) {x : Layout} →
    concatenate blocks r ≡ given x → Memᴰ b blocks → (p n q : List ℕ) (j : ℕ) → StretchedFrom l.shape shape p n → JoinedFrom r b.start n q → DependsOn on l p j → DependsOn on x q j
widened_keeps w on shape b e r blocks f i p n q j s c m = concatenate_keeps n j on r blocks f b i q c (stretch_keeps w on shape e p n j s m)
