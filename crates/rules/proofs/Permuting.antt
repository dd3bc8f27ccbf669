-- Which answer `permute` gives of a sound layout, case by case. Assumes nothing.
use mathlib.Core.Path.{◌≡◌, refl, sym, ap, ◌∙◌}
use mathlib.Core.Bool.{Bool, true, false, not, ◌&&◌}
use mathlib.Core.List.{List, [], ◌∷◌, map}
use Prim.Native.Nat.{ℕ, suc, ◌-◌, ◌≤◌}
use native.Mathlib.Nat.{sub-zero}
use native.Mathlib.Omega.{arith}
use borrow.Author.Tests.{ltb-false, leb-true, leb-false, le-leb, lt-leb, not-true, eq-eqb, ne_eqb}
use lib.Dec.{ltb, leb}
use lib.IntN.{ℤ, pos, negsuc}
use lib.ListN.{length, get_or, take, length-map}
use Rattle.rules.specs.Lists.{if, implies, all, none, largest, all_below}
use Rattle.rules.specs.RowsInOrder.{sorted, Each}
use Rattle.rules.specs.Refusals.{given, refused, lowest}
use Rattle.rules.specs.Layout.{Layout, rank, width, is_diagonal, is_sparse, alike, diagonal_fits}
use Rattle.rules.specs.Soundness.{DepsLow, Sound}
use Rattle.rules.specs.Record.{natural, naturals}
use Rattle.rules.specs.Arguments.{up_to}
use Rattle.rules.specs.Dependencies.{on_index}
use Rattle.rules.specs.CountsAndForms.{min_rank}
use Rattle.rules.specs.Permute.{repeats, is_permutation, moved, permuted, permute}
use Rattle.rules.proofs.Same.{both_true, true_not_false}
use Rattle.rules.proofs.Tests.{conjunct, implied}
use Rattle.rules.proofs.Soundness.{OneKind, dense_case, diagonal_case, sparse_case, one_kind, dense_rows, diagonal_rows_lem}
use Rattle.rules.proofs.Once.{Once, once_distinct, distinct_once, map_once}
use Rattle.rules.proofs.Made.{Formed}
use Rattle.rules.proofs.Forming.{DepsOfRank, Framed, states_of_rank, inputs_of_rank, dense_framed, diagonal_framed, sparse_framed, formed_sound, sound_given, bad_diagonal_made}
use Rattle.rules.proofs.Changed.{each_map, changed_sorted, changed_sorted_low, sorted_map_length}
use Rattle.rules.proofs.Moved.{moved_length, moved_low, moved_below, moved_product, moved_apart}

-- ---- entries that can be used

-- at most R of them and at least `min_rank`, none over 3, none twice
pub record Usable (l : Layout) (entries : List ℕ) : Type 0 where
  pub most : length entries ≤ rank l
  pub least : min_rank l ≤ length entries
  pub small : largest entries ≤ 3
  pub once : repeats entries ≡ false

-- the largest of entries up to 3 is
largest_small : (entries : List ℤ) → all (up_to 3) entries ≡ true → largest (naturals entries) ≤ 3
unfolding all up_to largest natural
largest_small [] e = omega arith
largest_small (pos n ∷ entries) e =
    let h = both_true (leb n 3) (all (up_to 3) entries) e in
    go (ltb n (largest (naturals entries))) (leb-true n 3 h.0) (largest_small entries h.1)
  where
    go : (t : Bool) → n ≤ 3 → largest (naturals entries) ≤ 3 → if t (largest (naturals entries)) n ≤ 3
    go true first rest = rest
    go false first rest = first
largest_small (negsuc n ∷ entries) e = absurd (true_not_false e refl)

-- entries that test so are so
pub usable_true : (l : Layout) (entries : List ℤ) → is_permutation l entries ≡ true → Usable l (naturals entries)
unfolding is_permutation
usable_true l entries e = record {
  most = rw length-map (ltb-false (rank l) (length entries) (not-true _ (test 0)));
  least = rw length-map (ltb-false (length entries) (min_rank l) (not-true _ (test 1)));
  small = largest_small entries (test 2);
  once = not-true _ (test 3);
}
  where
    not_longer : Bool
    not_longer = not (ltb (rank l) (length entries))

    others : List Bool
    others = not (ltb (length entries) (min_rank l)) ∷ all (up_to 3) entries ∷ not (repeats (naturals entries)) ∷ []

    test : (k : ℕ) → get_or (not_longer ∷ others) k true ≡ true
    test = conjunct not_longer others e

-- ---- the diagonal

-- a moved diagonal is one: D is at most the new rank R less 1, and the first R - D moved extents are alike
unfoldable pub stays_diagonal : Layout → List ℕ → Bool
stays_diagonal l entries = leb l.dense (largest entries) && alike (take (suc (largest entries) - l.dense) (moved 1 entries l.shape))

-- that is how soundness tests it
pub stays_fits : (l : Layout) (entries : List ℕ) → l.kind ≡ 1 → diagonal_fits (permuted l entries) ≡ stays_diagonal l entries
unfolding stays_diagonal permuted
stays_fits l entries k = rw (k, moved_length) (ap (λ (t : Bool). t && alike (take (suc (largest entries) - l.dense) (moved 1 entries l.shape))) least)
  where
    least : leb 1 (suc (largest entries) - l.dense) ≡ leb l.dense (largest entries)
    least = go (leb l.dense (largest entries)) refl
      where
        go : (t : Bool) → leb l.dense (largest entries) ≡ t → leb 1 (suc (largest entries) - l.dense) ≡ t
        go true e = le-leb 1 (suc (largest entries) - l.dense) (omega (arith, leb-true l.dense (largest entries) e))
        go false e = lt-leb 1 (suc (largest entries) - l.dense) (omega (arith, leb-false l.dense (largest entries) e))

-- ---- it is sound

module _ {l : Layout} (s : Sound l) {entries : List ℕ} (u : Usable l entries) where
  -- dependencies moved and merged are of the new rank
  deps_moved : {deps : List (List ℕ)} → DepsOfRank (rank l) deps → DepsOfRank (length (moved 1 entries l.shape)) (sorted (map (on_index (moved 0 entries)) deps))
  deps_moved = changed_sorted (moved 0 entries) (λ i e. moved_length 0 entries i ∙ sym (moved_length 1 entries l.shape)) (moved_low entries)

  -- the moved shape with the moved dependencies
  moved_framed : Framed (permuted l entries)
  unfolding permuted
  moved_framed = record {
    rank_most = rw moved_length (omega (arith, u.small));
    product_most = omega (arith, moved_product entries l.shape, s.sizes.product_most);
    states_are = deps_moved (states_of_rank s);
    inputs_are = deps_moved (inputs_of_rank s);
  }

  -- rows without dense axes stay apart
  moved_once : l.dense ≡ 0 → Once (map (moved 0 entries) l.rows)
  moved_once z =
      map_once (moved 0 entries)
      (λ x y m n. moved_apart entries l.shape u.least u.once x y (size x m) (size y n) (s.form.rows_lie_below x m) (s.form.rows_lie_below y n))
      (distinct_once l.rows s.form.rows_distinct)
    where
      size : Each (λ r. length r ≡ rank l) l.rows
      size r m = omega (arith, s.form.row_lengths r m)

  -- a permuted layout is formed, unless dense axes stand in the way or it is a diagonal that stays none
  permuted_formed : is_sparse l && ltb 0 l.dense ≡ false → implies (is_diagonal l) (stays_diagonal l entries) ≡ true → Formed (permuted l entries)
  unfolding permuted
  permuted_formed e f = by (one_kind s.form)
    where
      rank_is : rank (permuted l entries) ≡ suc (largest entries)
      rank_is = moved_length 1 entries l.shape

      diagonal : (k : l.kind ≡ 1) → Formed (permuted l entries)
      diagonal k =
          let stays = implied (is_diagonal l) (stays_diagonal l entries) f (eq-eqb l.kind 1 k) in
          let fits = both_true (leb 1 (width (permuted l entries))) (alike (take (width (permuted l entries)) (moved 1 entries l.shape))) (stays_fits l entries k ∙ stays) in
          diagonal_framed moved_framed k (leb-true 1 (width (permuted l entries)) fits.0) fits.1 (rw (diagonal_rows_lem s.form k))

      sparse : (k : l.kind ≡ 2) → l.dense ≡ 0 → Formed (permuted l entries)
      sparse k z =
          sparse_framed moved_framed k (rw (k, z) (omega arith)) (once_distinct (moved_once z))
          (each_map (λ r. length r ≡ width (permuted l entries)) (moved 0 entries) (λ r g. rw (k, z, sub-zero) (moved_length 0 entries r ∙ sym rank_is)) s.form.row_lengths)
          (each_map {P = λ r. (length r ≡ rank l) × (all_below r l.shape ≡ true)} (λ r. all_below r (moved 1 entries l.shape) ≡ true) (moved 0 entries)
          (λ r g. moved_below entries r l.shape g.0 g.1) (λ r m. (omega (arith, s.form.row_lengths r m), s.form.rows_lie_below r m)))

      by : OneKind l → Formed (permuted l entries)
      by (dense_case k) = dense_framed moved_framed k (rw k (sym rank_is)) (rw (dense_rows s.form k))
      by (diagonal_case k) = diagonal k
      by (sparse_case k) = sparse k (omega (arith, ltb-false 0 l.dense (rw k at e)))

  -- such a layout is sound
  pub permuted_sound : is_sparse l && ltb 0 l.dense ≡ false → implies (is_diagonal l) (stays_diagonal l entries) ≡ true → Sound (permuted l entries)
  unfolding permuted
  permuted_sound e f =
      formed_sound (permuted_formed e f)
      (rw length-map s.sizes.rows_few)
      (omega (arith, sorted_map_length (on_index (moved 0 entries)) l.states, s.sizes.states_few))
      (omega (arith, sorted_map_length (on_index (moved 0 entries)) l.inputs, s.sizes.inputs_few))

-- ---- the answer

module _ (l : Layout) (entries : List ℤ) where
  -- not a usable permutation: 8
  pub permute_unusable : is_permutation l entries ≡ false → permute l entries ≡ refused 8
  unfolding permute lowest
  permute_unusable e = rw e

  module _ (e : is_permutation l entries ≡ true) where
    -- empty: a copy
    pub permute_empty : none entries ≡ true → permute l entries ≡ given l
    unfolding permute lowest
    permute_empty n = rw (e, n)

    -- sparse with dense axes: 11
    pub permute_bars : none entries ≡ false → is_sparse l && ltb 0 l.dense ≡ true → permute l entries ≡ refused 11
    unfolding permute lowest
    permute_bars n f = rw (e, n, f)

    -- a diagonal that stays none: 12
    pub permute_breaks : none entries ≡ false → l.kind ≡ 1 → stays_diagonal l (naturals entries) ≡ false → permute l entries ≡ refused 12
    unfolding permute lowest permuted
    permute_breaks n k f = rw (e, n, ne_eqb l.kind 2 (λ two. omega arith)) (bad_diagonal_made (permuted l (naturals entries)) k (stays_fits l (naturals entries) k ∙ f))

    -- otherwise it is given
    pub permute_given : Sound l → none entries ≡ false → is_sparse l && ltb 0 l.dense ≡ false → implies (is_diagonal l) (stays_diagonal l (naturals entries)) ≡ true →
        permute l entries ≡ given (permuted l (naturals entries))
    unfolding permute lowest
    permute_given s n f g = rw (e, n, f) (sound_given (permuted_sound s (usable_true l entries e) f g))

-- ---- the numbers of its dependencies

-- they are below 2 ^ 31 if they were
pub permuted_low : {l : Layout} → DepsLow l → (entries : List ℕ) → DepsLow (permuted l entries)
unfolding permuted
permuted_low p entries = record {
  states_low = changed_sorted_low (moved 0 entries) (moved_low entries) p.states_low;
  inputs_low = changed_sorted_low (moved 0 entries) (moved_low entries) p.inputs_low;
}
