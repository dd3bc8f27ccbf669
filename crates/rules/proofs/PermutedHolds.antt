-- What a permuted layout holds: the moved positions. Assumes nothing.
use mathlib.Core.Path.{◌≡◌, refl, sym, ap, ◌∙◌}
use mathlib.Core.Bool.{Bool, true, false}
use mathlib.Core.Logic.{◌⊎◌, inl, inr, ⊎_elim}
use mathlib.Core.List.Memᴰ
use mathlib.Core.List.{List, [], ◌∷◌, ◌++◌, map}
use Prim.Native.Nat.{ℕ, zero, suc, ◌-◌, ◌≤◌, ◌<◌}
use native.Mathlib.Omega.{arith}
use borrow.Author.Tests.{eqb-true, eq-eqb, ne_eqb}
use lib.Dec.{eqb, leb}
use lib.ListN.{length, get_or, take, replicate, length-map, get_or-eq_default}
use lib.Seq.{take_all, ext_get_or}
use Rattle.rules.specs.Lists.{if, implies, largest, fit_to}
use Rattle.rules.specs.Layout.{Layout, rank, is_diagonal, alike}
use Rattle.rules.specs.Soundness.{WellFormed}
use Rattle.rules.specs.Permute.{moved_to, moved, permuted}
use Rattle.rules.specs.Holding.{holds}
use Rattle.rules.proofs.Order.{ComparedNumbers, under, even, above, compare_numbers}
use Rattle.rules.proofs.Same.{both_true}
use Rattle.rules.proofs.Sets.{in_same}
use Rattle.rules.proofs.Tests.{implied}
use Rattle.rules.proofs.Ranges.{map_at}
use Rattle.rules.proofs.Alike.{alike_at, at_alike}
use Rattle.rules.proofs.Low.{below_at, at_below}
use Rattle.rules.proofs.Holding.{Position, true_position, holds_position, holds_dense, sparse_true, true_sparse, Whole, whole_dense, whole_diagonal, whole_sparse, whole_front, diagonal_rank, diagonal_extents, held_alike}
use Rattle.rules.proofs.Largest.{largest_at}
use Rattle.rules.proofs.Moved.{moved_length, moved_at, moved_low, moved_below, moved_to_entry, past_min_rank}
use Rattle.rules.proofs.Permuting.{Usable, stays_diagonal}
use Rattle.rules.proofs.Replaced.{fit_length, fit_at, fit_past}

-- ---- numbers moved back

-- the number at each entry, and 0 on the axes without one
unfoldable pub moved_back : ℕ → List ℕ → List ℕ → List ℕ
moved_back n entries x = fit_to n 0 (map (λ p. get_or x p 0) entries)

module _ (n : ℕ) (entries x : List ℕ) where
  -- an axis with an entry
  back_at : (i : ℕ) → i < n → i < length entries → get_or (moved_back n entries x) i 0 ≡ get_or x (get_or entries i 0) 0
  unfolding moved_back
  back_at i h g = fit_at n 0 (map (λ p. get_or x p 0) entries) i h (rw length-map g) ∙ map_at (λ p. get_or x p 0) entries i 0 0 g

  -- an axis without one
  back_past : (i : ℕ) → length entries ≤ i → get_or (moved_back n entries x) i 0 ≡ 0
  unfolding moved_back
  back_past i g = omega (arith, fit_past n 0 (map (λ p. get_or x p 0) entries) i (rw length-map g))

-- what was moved back goes to its axis again
back_again : (k n : ℕ) (entries shape x t : List ℕ) → length entries ≤ n → length entries ≤ length shape → get_or x k 0 < moved_to k 1 entries shape →
    moved_to k 0 entries (take n (map (λ p. get_or x p 0) entries ++ t)) ≡ get_or x k 0
unfolding moved_to
back_again k n [] shape x t h g e = omega arith
back_again k zero (p ∷ entries) shape x t h g e = absurd (omega arith)
back_again k (suc n) (p ∷ entries) [] x t h g e = absurd (omega arith)
back_again k (suc n) (p ∷ entries) (c ∷ shape) x t h g e = go (eqb p k) refl (back_again k n entries shape x t (omega arith) (omega arith)) e
  where
    go : (b : Bool) → eqb p k ≡ b → (get_or x k 0 < moved_to k 1 entries shape → moved_to k 0 entries (take n (map (λ p. get_or x p 0) entries ++ t)) ≡ get_or x k 0) →
        get_or x k 0 < if b c (moved_to k 1 entries shape) → if b (get_or x p 0) (moved_to k 0 entries (take n (map (λ p. get_or x p 0) entries ++ t))) ≡ get_or x k 0
    go true q rest e = ap (λ (i : ℕ). get_or x i 0) (eqb-true p k q)
    go false q rest e = rest e

module _ {l : Layout} {entries : List ℕ} (u : Usable l entries) where
  -- a moved position is a position of the moved shape
  moved_position : {index : List ℕ} → Position l.shape index → Position (moved 1 entries l.shape) (moved 0 entries index)
  moved_position {index} p = record {
    size = moved_length 0 entries index ∙ sym (moved_length 1 entries l.shape);
    inside = moved_below entries index l.shape p.size p.inside;
  }

  module _ {x : List ℕ} (p : Position (moved 1 entries l.shape) x) where
    -- a component is below the extent that goes to its axis
    component : (k : ℕ) → k ≤ largest entries → get_or x k 0 < moved_to k 1 entries l.shape
    component k h =
        rw (moved_at 1 entries l.shape k 0 h)
        at (below_at x (moved 1 entries l.shape) p.inside k (omega (arith, p.size, moved_length 1 entries l.shape)) (omega (arith, moved_length 1 entries l.shape)))

    -- moved back, it is a position of the shape
    back_position : Position l.shape (moved_back (rank l) entries x)
    unfolding moved_back
    back_position = record {
      size = fit_length (rank l) 0 (map (λ p. get_or x p 0) entries);
      inside = at_below (moved_back (rank l) entries x) l.shape (λ i h. at i (omega (arith, fit_length (rank l) 0 (map (λ p. get_or x p 0) entries))) (compare_numbers i (length entries)));
    }
      where
        past : (i : ℕ) → i < rank l → length entries ≤ i → get_or (moved_back (rank l) entries x) i 0 < get_or l.shape i 0
        past i h g = omega (arith, back_past (rank l) entries x i g, past_min_rank l.shape i (omega (arith, u.least)) h)

        at : (i : ℕ) → i < rank l → ComparedNumbers i (length entries) → get_or (moved_back (rank l) entries x) i 0 < get_or l.shape i 0
        at i h (under g) =
            omega (arith, back_at (rank l) entries x i h g, component (get_or entries i 0) (largest_at entries i), moved_to_entry 1 entries l.shape u.once i g h)
        at i h (even g) = past i h (omega arith)
        at i h (above g) = past i h (omega arith)

    -- and moved again, it is what it was
    moved_back_lem : moved 0 entries (moved_back (rank l) entries x) ≡ x
    unfolding moved_back fit_to
    moved_back_lem =
        ext_get_or 0 (moved 0 entries back) x (long ∙ sym (p.size ∙ moved_length 1 entries l.shape))
        (λ k h. moved_at 0 entries back k 0 (omega (arith, long)) ∙ back_again k (rank l) entries l.shape x (replicate (rank l) 0) u.most u.most (component k (omega (arith, long))))
      where
        back : List ℕ
        back = moved_back (rank l) entries x

        long : length (moved 0 entries back) ≡ suc (largest entries)
        long = moved_length 0 entries back

-- ---- a diagonal

-- what goes to an axis, of numbers that are each v: v, or there goes no extent
each_moved : (v k : ℕ) (entries index shape : List ℕ) → length index ≡ length shape → ((i : ℕ) → i < length index → get_or index i 0 ≡ v) →
    (moved_to k 1 entries shape ≡ 1) ⊎ (moved_to k 0 entries index ≡ v)
unfolding moved_to
each_moved v k [] index shape n f = inl refl
each_moved v k (p ∷ entries) [] [] n f = inl refl
each_moved v k (p ∷ entries) [] (e ∷ shape) n f = absurd (omega arith)
each_moved v k (p ∷ entries) (c ∷ index) [] n f = absurd (omega arith)
each_moved v k (p ∷ entries) (c ∷ index) (e ∷ shape) n f = go (eqb p k) (each_moved v k entries index shape (omega arith) (λ i h. f (suc i) (omega arith)))
  where
    go : (b : Bool) → (moved_to k 1 entries shape ≡ 1) ⊎ (moved_to k 0 entries index ≡ v) →
        (if b e (moved_to k 1 entries shape) ≡ 1) ⊎ (if b c (moved_to k 0 entries index) ≡ v)
    go true rest = inr (f 0 (omega arith))
    go false rest = rest

module _ {l : Layout} (w : WellFormed l) (k : l.kind ≡ 1) (z : l.dense ≡ 0) {entries : List ℕ} (u : Usable l entries) where
  -- the extents of the shape are those of the first axis
  extents_same : (i : ℕ) → i < rank l → get_or l.shape i 0 ≡ get_or l.shape 0 0
  extents_same = alike_at l.shape (diagonal_extents w k z)

  -- moved back, components that are equal are
  back_alike : {x : List ℕ} → Position (moved 1 entries l.shape) x → alike x ≡ true → alike (moved_back (rank l) entries x) ≡ true
  back_alike {x} p e = by (compare_numbers (length entries) (rank l))
    where
      q : Position l.shape (moved_back (rank l) entries x)
      q = back_position u p

      short : length entries < rank l → alike (moved_back (rank l) entries x) ≡ true
      short h =
          let one = past_min_rank l.shape (length entries) u.least h in
          at_alike 0 (moved_back (rank l) entries x)
          (λ i g. omega (arith, below_at (moved_back (rank l) entries x) l.shape q.inside i g (omega (arith, q.size)), extents_same i (omega (arith, q.size)), extents_same (length entries) h, one))

      all_there : rank l ≤ length entries → alike (moved_back (rank l) entries x) ≡ true
      all_there h =
          at_alike (get_or x 0 0) (moved_back (rank l) entries x)
          (λ i g. back_at (rank l) entries x i (omega (arith, q.size)) (omega (arith, q.size))
          ∙ alike_at x e (get_or entries i 0) (omega (arith, p.size, moved_length 1 entries l.shape, largest_at entries i)))

      by : ComparedNumbers (length entries) (rank l) → alike (moved_back (rank l) entries x) ≡ true
      by (under h) = short h
      by (even h) = all_there (omega arith)
      by (above h) = all_there (omega arith)

  -- where the extents are at most 1, moved components are 0
  narrow_alike : get_or l.shape 0 0 ≤ 1 → {index : List ℕ} → Position l.shape index → alike (moved 0 entries index) ≡ true
  narrow_alike h {index} p = at_alike 0 (moved 0 entries index) (λ i g. omega (arith, moved_low {b = 1} entries index (λ j. zero_at j (compare_numbers j (length index))) i))
    where
      zero_at : (i : ℕ) → ComparedNumbers i (length index) → get_or index i 0 < 1
      zero_at i (under g) = omega (arith, below_at index l.shape p.inside i g (omega (arith, p.size)), extents_same i (omega (arith, p.size)))
      zero_at i (even g) = omega (arith, get_or-eq_default index 0 {n = i} (omega arith))
      zero_at i (above g) = omega (arith, get_or-eq_default index 0 {n = i} (omega arith))

  module _ (a : alike (moved 1 entries l.shape) ≡ true) where
    -- where they are larger, some axis has an entry, and to every axis goes an extent
    wide_extent : 1 < get_or l.shape 0 0 → (i : ℕ) → i ≤ largest entries → moved_to i 1 entries l.shape ≡ get_or l.shape 0 0
    wide_extent h i g =
        sym (moved_at 1 entries l.shape i 0 g) ∙ first i g ∙ sym (first to (largest_at entries 0))
        ∙ moved_at 1 entries l.shape to 0 (largest_at entries 0) ∙ moved_to_entry 1 entries l.shape u.once 0 (some (compare_numbers 0 (length entries))) (diagonal_rank w k z)
      where
        to : ℕ
        to = get_or entries 0 0

        first : (j : ℕ) → j ≤ largest entries → get_or (moved 1 entries l.shape) j 0 ≡ get_or (moved 1 entries l.shape) 0 0
        first j o = alike_at (moved 1 entries l.shape) a j (omega (arith, moved_length 1 entries l.shape))

        some : ComparedNumbers 0 (length entries) → 0 < length entries
        some (under o) = o
        some (even o) = absurd (omega (arith, past_min_rank l.shape 0 (omega (arith, u.least)) (diagonal_rank w k z)))
        some (above o) = absurd (omega arith)

    -- moved, components that are equal are
    moved_alike : {index : List ℕ} → Position l.shape index → alike index ≡ true → alike (moved 0 entries index) ≡ true
    moved_alike {index} p e = by (compare_numbers 1 (get_or l.shape 0 0))
      where
        at : 1 < get_or l.shape 0 0 → (i : ℕ) → i ≤ largest entries → get_or (moved 0 entries index) i 0 ≡ get_or index 0 0
        at h i g =
            moved_at 0 entries index i 0 g
            ∙ ⊎_elim (λ one. absurd (omega (arith, wide_extent h i g))) (λ same. same) (each_moved (get_or index 0 0) i entries index l.shape p.size (alike_at index e))

        by : ComparedNumbers 1 (get_or l.shape 0 0) → alike (moved 0 entries index) ≡ true
        by (under h) = at_alike (get_or index 0 0) (moved 0 entries index) (λ i g. at h i (omega (arith, moved_length 0 entries index)))
        by (even h) = narrow_alike (omega arith) p
        by (above h) = narrow_alike (omega arith) p

-- ---- what is held

-- a layout that is dense or has no dense axis, and a permutation that leaves a diagonal one
module _ {l : Layout} (w : WellFormed l) {entries : List ℕ} (u : Usable l entries) where
  -- the layout without dense axes still has none
  still_none : (l.kind ≡ 0 → ⊥) → l.dense ≡ 0 → (permuted l entries).dense ≡ 0
  unfolding permuted
  still_none n z = rw (ne_eqb l.kind 0 n) z

  -- a diagonal's moved extents are alike, if it stays a diagonal
  stays_alike : l.kind ≡ 1 → l.dense ≡ 0 → implies (is_diagonal l) (stays_diagonal l entries) ≡ true → alike (moved 1 entries l.shape) ≡ true
  unfolding stays_diagonal
  stays_alike k z f =
      let on = both_true (leb l.dense (largest entries)) _ (implied (is_diagonal l) (stays_diagonal l entries) f (eq-eqb l.kind 1 k)) in
      rw (take_all (suc (largest entries) - l.dense) (moved 1 entries l.shape) (omega (arith, moved_length 1 entries l.shape))) at on.1

  -- a held position is held where it is moved to
  pub permuted_holds : Whole l → implies (is_diagonal l) (stays_diagonal l entries) ≡ true → (index : List ℕ) → holds l index ≡ true → holds (permuted l entries) (moved 0 entries index) ≡ true
  unfolding permuted
  permuted_holds whole f index e = by whole
    where
      p : Position (moved 1 entries l.shape) (moved 0 entries index)
      p = moved_position u (holds_position l index e)

      by : Whole l → holds (permuted l entries) (moved 0 entries index) ≡ true
      by (whole_dense k) = holds_dense (permuted l entries) (moved 0 entries index) k ∙ true_position p
      by (whole_diagonal k z) =
          let q = holds_position l index e in
          held_alike (permuted l entries) k (still_none (λ o. omega arith) z) p ∙ moved_alike w k z u (stays_alike k z f) q (sym (held_alike l k z q) ∙ e)
      by (whole_sparse k z) =
          let on = sparse_true l index k e in
          true_sparse (permuted l entries) (moved 0 entries index) k p
          (in_same (whole_front (permuted l entries) (still_none (λ o. omega arith) z) p) (Memᴰ.map (moved 0 entries) (in_same (sym (whole_front l z on.0)) on.1)))

  -- and only moved positions are held
  pub holds_permuted : Whole l → (x : List ℕ) → holds (permuted l entries) x ≡ true → (index : List ℕ) × (holds l index ≡ true) × (moved 0 entries index ≡ x)
  unfolding permuted
  holds_permuted whole x e = by whole
    where
      p : Position (moved 1 entries l.shape) x
      p = holds_position (permuted l entries) x e

      back : List ℕ
      back = moved_back (rank l) entries x

      by : Whole l → (index : List ℕ) × (holds l index ≡ true) × (moved 0 entries index ≡ x)
      by (whole_dense k) = (back, holds_dense l back k ∙ true_position (back_position u p), moved_back_lem u p)
      by (whole_diagonal k z) =
          let same = sym (held_alike (permuted l entries) k (still_none (λ o. omega arith) z) p) ∙ e in
          (back, held_alike l k z (back_position u p) ∙ back_alike w k z u p same, moved_back_lem u p)
      by (whole_sparse k z) =
          let on = sparse_true (permuted l entries) x k e in
          let i = Memᴰ.of_map (moved 0 entries) l.rows (in_same (sym (whole_front (permuted l entries) (still_none (λ o. omega arith) z) p)) on.1) in
          let q : Position l.shape i.0 = record { size = omega (arith, w.row_lengths i.0 i.1); inside = w.rows_lie_below i.0 i.1 } in
          (i.0, true_sparse l i.0 k q (in_same (whole_front l z q) i.1), i.2)
