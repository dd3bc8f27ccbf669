-- Entries that are free on the axes behind the first ones: those with every position of these axes. Assumes nothing.
use mathlib.Core.Path.{◌≡◌, sym, ap, ◌∙◌, subst}
use mathlib.Core.Bool.{true}
use mathlib.Core.List.Memᴰ
use mathlib.Core.List.{List, [], ◌∷◌, ◌++◌, map}
use Prim.Native.Nat.{ℕ, suc, ◌+◌, ◌-◌, ◌≤◌, ◌<◌}
use native.Mathlib.Omega.{arith}
use borrow.Author.Tests.{le-leb, lt-leb, leb-true, leb-false}
use lib.Dec.{leb}
use lib.ListN.{length, get_or, take, drop, length-append, length-take, length-drop, take-append-drop, get_or-append}
use lib.Seq.{get_or-take, get_or-drop, get_or-append-add, ext_get_or}
use Rattle.rules.specs.Lists.{gather, all_below, fit_to}
use Rattle.rules.specs.RowsInOrder.{In, Each}
use Rattle.rules.specs.Dependencies.{index_of, on_index}
use Rattle.rules.specs.Removal.{positions}
use Rattle.rules.specs.ComputedFrom.{Freely}
use Rattle.rules.proofs.Replaced.{fit_at}
use Rattle.rules.proofs.Gathering.{gather_only, gather_has}
use Rattle.rules.proofs.Indices.{positions_only, positions_has}
use Rattle.rules.proofs.Low.{below_at, at_below}
use Rattle.rules.proofs.EntriesKept.{entry_number, entry_changed}
use Rattle.rules.proofs.FreeEntries.{index_length, index_at, fitted_at, entry_split}

-- ---- free on the axes behind the first ones

module _ (w : ℕ) (shape : List ℕ) (most : w ≤ length shape) (d : List ℕ) (s : length d ≡ suc (length shape)) where
  -- its index
  abbrev index : List ℕ
  index = index_of d

  -- the entry with other components there
  abbrev ending : List ℕ → List ℕ
  ending t = on_index (λ i. take w i ++ t) d

  -- its number stays
  ending_is : (t : List ℕ) → ending t ≡ (take w index ++ t) ++ (get_or d (length shape) 0 ∷ [])
  ending_is t = ap (on_index (λ i. take w i ++ t)) (entry_split d s) ∙ entry_changed index (get_or d (length shape) 0) (λ i. take w i ++ t)

  -- so many components stay
  first_length : length (take w index) ≡ w
  first_length = rw length-take (omega (arith, index_length d s))

  -- with every position of those axes it comes from the entry
  pub ending_free : {t : List ℕ} → In t (positions (drop w shape)) → Freely (λ k. leb w k) shape shape d (ending t)
  ending_free {t} i = rw (ending_is t) (record {
    size = rw (length-append, whole);
    number = entry_number (take w index ++ t) (get_or d (length shape) 0) whole;
    agrees = λ k h n. component k h ∙ before k h (leb-false w k n);
    inside = λ k h b. rw (component k h) (after k h (leb-true w k b));
  })
    where
      told : (length t ≡ length (drop w shape)) × (all_below t (drop w shape) ≡ true)
      told = positions_only (drop w shape) i

      long : length t ≡ length shape - w
      long = told.0 ∙ length-drop w shape

      whole : length (take w index ++ t) ≡ length shape
      whole = rw (length-append, first_length) (omega (arith, long))

      component : (k : ℕ) → k < length shape → get_or ((take w index ++ t) ++ (get_or d (length shape) 0 ∷ [])) k 0 ≡ get_or (take w index ++ t) k 0
      component k h = get_or-append (take w index ++ t) (get_or d (length shape) 0 ∷ []) 0 k (omega (arith, whole))

      before : (k : ℕ) → k < length shape → k < w → get_or (take w index ++ t) k 0 ≡ get_or (fit_to (length shape) 0 index) k 0
      before k h b =
          get_or-append (take w index) t 0 k (omega (arith, first_length)) ∙ get_or-take w index k 0 b ∙ sym (fit_at (length shape) 0 index k h (omega (arith, index_length d s)))

      after : (k : ℕ) → k < length shape → w ≤ k → get_or (take w index ++ t) k 0 < get_or shape k 0
      after k h b =
          let place : k ≡ length (take w index) + (k - w) = omega (arith, first_length) in
          let there : w + (k - w) ≡ k = omega arith in
          let low : get_or t (k - w) 0 < get_or (drop w shape) (k - w) 0 = below_at t (drop w shape) told.1 (k - w) (omega (arith, long)) (rw length-drop (omega arith)) in
          let is : get_or (take w index ++ t) k 0 ≡ get_or t (k - w) 0 = ap (λ (j : ℕ). get_or (take w index ++ t) j 0) place ∙ get_or-append-add (take w index) t (k - w) 0 in
          let extent : get_or (drop w shape) (k - w) 0 ≡ get_or shape k 0 = get_or-drop w shape (k - w) 0 ∙ ap (λ (j : ℕ). get_or shape j 0) there in
          omega arith

  -- and what comes from it so has a position there
  pub free_ending : {e : List ℕ} → Freely (λ k. leb w k) shape shape d e → In (drop w (index_of e)) (positions (drop w shape)) × (e ≡ ending (drop w (index_of e)))
  free_ending {e} f = (
    positions_has t (drop w shape) (length-drop w (index_of e) ∙ rw (index_length e size, length-drop w shape)) (at_below t (drop w shape) low),
    entry_split e size ∙ (rw f.number) ∙ ap (λ (p : List ℕ). p ++ (get_or d (length shape) 0 ∷ [])) whole ∙ sym (ending_is t),
  )
    where
      t : List ℕ
      t = drop w (index_of e)

      size : length e ≡ suc (length shape)
      size = omega (arith, f.size)

      low : (k : ℕ) → k < length t → get_or t k 0 < get_or (drop w shape) k 0
      low k h =
          let here : w + k < length shape = omega (arith, length-drop w (index_of e), index_length e size) in
          rw (get_or-drop w (index_of e) k 0, get_or-drop w shape k 0, index_at e size (w + k) here) (f.inside (w + k) here (le-leb w (w + k) (omega arith)))

      first : take w (index_of e) ≡ take w index
      first = ext_get_or 0 (take w (index_of e)) (take w index) (rw (first_length, length-take w (index_of e)) (omega (arith, index_length e size))) (λ k h. at k (omega (arith, length-take w (index_of e))))
        where
          at : (k : ℕ) → k < w → get_or (take w (index_of e)) k 0 ≡ get_or (take w index) k 0
          at k h =
              get_or-take w (index_of e) k 0 h ∙ index_at e size k (omega arith) ∙ f.agrees k (omega arith) (lt-leb w k h) ∙ fitted_at d s k (omega arith) ∙ sym (index_at d s k (omega arith))
              ∙ sym (get_or-take w index k 0 h)

      whole : index_of e ≡ take w index ++ t
      whole = sym (take-append-drop w (index_of e)) ∙ ap (λ (p : List ℕ). p ++ t) first

-- all entries that dependencies take on the axes behind the first ones
abbrev pub endings : ℕ → List ℕ → List (List ℕ) → List (List ℕ)
endings w shape deps = gather (λ d. map (λ t. on_index (λ index. take w index ++ t) d) (positions (drop w shape))) deps

module _ (w : ℕ) (shape : List ℕ) (most : w ≤ length shape) {deps : List (List ℕ)} (lengths : Each (λ d. length d ≡ suc (length shape)) deps) where
  -- are free there
  pub endings_only : {e : List ℕ} → In e (endings w shape deps) → (d : List ℕ) × In d deps × Freely (λ k. leb w k) shape shape d e
  endings_only {e} i = of (gather_only (λ d. map (λ t. on_index (λ index. take w index ++ t) d) (positions (drop w shape))) deps i)
    where
      of : (d : List ℕ) × In d deps × In e (map (λ t. on_index (λ index. take w index ++ t) d) (positions (drop w shape))) → (d : List ℕ) × In d deps × Freely (λ k. leb w k) shape shape d e
      of (d, m, j) =
          let t = Memᴰ.of_map (λ t. on_index (λ index. take w index ++ t) d) (positions (drop w shape)) j in
          (d, m, subst (Freely (λ k. leb w k) shape shape d) t.2 (ending_free w shape most d (lengths d m) t.1))

  -- and all that are
  pub endings_has : {d e : List ℕ} → In d deps → Freely (λ k. leb w k) shape shape d e → In e (endings w shape deps)
  endings_has {d} {e} m f =
      let t = free_ending w shape most d (lengths d m) f in
      gather_has (λ d. map (λ t. on_index (λ index. take w index ++ t) d) (positions (drop w shape))) m
      (rw t.1 (Memᴰ.map (λ t. on_index (λ index. take w index ++ t) d) t.0))
