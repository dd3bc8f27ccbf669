-- The next index in row-major order: `turn`. Assumes nothing.
use mathlib.Core.Path.{◌≡◌, refl, sym, ap, ◌∙◌}
use mathlib.Core.Bool.{true}
use mathlib.Core.List.{List, [], ◌∷◌, ◌++◌, append_assoc, append-nil}
use Prim.Native.Nat.{ℕ, zero, suc, ◌+◌, ◌-◌, ◌*◌, ◌^◌, ◌<◌, ◌≤◌}
use native.Mathlib.Nat.{zero-add, zero-mul, suc-mul}
use native.Mathlib.Numerals.{add-one}
use native.Mathlib.Omega.{arith}
use borrow.Author.Tests.{lt-ltb, ltb-true}
use lib.Dec.{ltb}
use lib.IntN.{ℤ, pos}
use lib.ListN.{length, get_or, set, take, drop, replicate, length-set, drop_of_length-le, get_or-append}
use lib.Seq.{get_or-take, take-suc, take_all, drop-cons, take-set-lt, set_at, length-take-le}
use Rattle.rules.specs.Limits.{product_limit}
use Rattle.rules.specs.Lists.{product, all_below}
use Rattle.rules.specs.Buffers.{part}
use Rattle.rules.specs.Positions.{ravel_index}
use Rattle.rules.proofs.Same.{both_true}
use Rattle.rules.proofs.Tests.{true_both}
use Rattle.rules.proofs.Low.{below_at}
use Rattle.cells.specs.View.{view}
use Rattle.cells.proofs.View.{view_set}
use Rattle.tables.specs.Rows.{row_at}
use Rattle.tables.proofs.Rows.{row_length, row_number}
use Rattle.stretch.specs.Tables.{TurnAsked, Turned}
use Rattle.stretch.proofs.StretchedAxes.{within_small}

-- ---- numbers of indices

-- zeros are the first index
pub ravel_zeros : (n : ℕ) (shape : List ℕ) → ravel_index (replicate n 0) shape ≡ 0
unfolding ravel_index
ravel_zeros zero shape = refl
ravel_zeros (suc n) [] = refl
ravel_zeros (suc n) (e ∷ shape) = rw (zero-mul, ravel_zeros n shape)

-- they are below extents that some index is below
pub zeros_below : (n : ℕ) (p shape : List ℕ) → n ≡ length p → all_below p shape ≡ true → all_below (replicate n 0) shape ≡ true
unfolding all_below
zeros_below zero p shape e b = refl
zeros_below (suc n) [] shape e b = absurd (omega arith)
zeros_below (suc n) (c ∷ p) [] e b = refl
zeros_below (suc n) (c ∷ p) (x ∷ shape) e b =
    let h = both_true (ltb c x) (all_below p shape) b in
    true_both (lt-ltb 0 x (omega (arith, ltb-true c x h.0))) (zeros_below n p shape (omega arith) h.1)

-- the components from k on are the last ones
abbrev LastFrom : ℕ → List ℕ → List ℕ → Type 0
LastFrom k p shape = ravel_index (drop k p) (drop k shape) + 1 ≡ product (drop k shape)

-- the one before them grows
grown : (k n : ℕ) (p shape : List ℕ) → length p ≡ length shape → n + suc k ≡ length p → all_below p shape ≡ true → LastFrom (suc k) p shape → get_or p k 0 + 1 < get_or shape k 0 →
    (ravel_index (take k p ++ ((get_or p k 0 + 1) ∷ replicate n 0)) shape ≡ ravel_index p shape + 1) × (all_below (take k p ++ ((get_or p k 0 + 1) ∷ replicate n 0)) shape ≡ true)
unfolding ravel_index all_below product
grown k n [] shape e m b l g = absurd (omega arith)
grown k n (c ∷ p) [] e m b l g = absurd (omega arith)
grown zero n (c ∷ p) (x ∷ shape) e m b l g =
    let h = both_true (ltb c x) (all_below p shape) b in
    (rw (ravel_zeros n shape) (omega (arith, suc-mul c (product shape), ap (λ (z : ℕ). z * product shape) (add-one c))), true_both (lt-ltb (c + 1) x g) (zeros_below n p shape (omega arith) h.1))
grown (suc k) n (c ∷ p) (x ∷ shape) e m b l g =
    let h = both_true (ltb c x) (all_below p shape) b in
    let rest = grown k n p shape (omega arith) (omega arith) h.1 l g in
    (omega (arith, rest.0), true_both h.0 rest.1)

-- or it is the last one too
more_last : (k : ℕ) (p shape : List ℕ) → length p ≡ length shape → k < length p → all_below p shape ≡ true → LastFrom (suc k) p shape → get_or shape k 0 ≤ get_or p k 0 + 1 → LastFrom k p shape
unfolding ravel_index product
more_last k p shape e h b l g =
    let c : get_or shape k 0 ≡ suc (get_or p k 0) = omega (arith, below_at p shape b k h (omega arith)) in
    rw (drop-cons p k 0 h, drop-cons shape k 0 (omega arith), c) (omega (arith, suc-mul (get_or p k 0) (product (drop (suc k) shape))))

-- ---- one component after the other: `turn`

-- those from k on were the last ones, and are 0
pub record Turning (w : ℕ) (extents : List ℤ) (k : ℕ) (s t : List ℤ) : Type 0 where
  pub asked : TurnAsked w extents s
  pub upto : k ≤ w
  pub size : length t ≡ length s
  pub row : row_at 0 w t ≡ take k (row_at 0 w s) ++ replicate (w - k) 0
  pub last : ravel_index (drop k (row_at 0 w s)) (drop k (row_at 0 w extents)) + 1 ≡ product (drop k (row_at 0 w extents))

module _ {w : ℕ} {extents s : List ℤ} where
  module _ (a : TurnAsked w extents s) where
    index_long : length (row_at 0 w s) ≡ w
    index_long = row_length 0 w s (omega (arith, a.room))

    shape_long : length (row_at 0 w extents) ≡ w
    shape_long = row_length 0 w extents a.extents_are.room

    pub turn_start : Turning w extents w s s
    unfolding ravel_index product
    turn_start = record {
      asked = a;
      upto = omega arith;
      size = refl;
      row = let none : w - w ≡ 0 = omega arith in rw (none, take_all w (row_at 0 w s) (omega (arith, index_long)), append-nil);
      last = rw (drop_of_length-le (row_at 0 w s) {i = w} (omega (arith, index_long)), drop_of_length-le (row_at 0 w extents) {i = w} (omega (arith, shape_long)));
    }

  module _ {k : ℕ} {t : List ℤ} (g : Turning w extents k s t) where
    module _ (h : 0 < k) where
      in_row : k - 1 < w
      in_row = omega (arith, g.upto)

      one_less : suc (k - 1) ≡ k
      one_less = omega arith

      -- a component as it stands is that of the index
      component : get_or (view t) (k - 1) 0 ≡ get_or (row_at 0 w s) (k - 1) 0
      component =
          let long : length (take k (row_at 0 w s)) ≡ k = length-take-le k (row_at 0 w s) (omega (arith, g.upto, index_long g.asked)) in
          sym (row_number 0 w (k - 1) t in_row ∙ ap (λ (j : ℕ). get_or (view t) j 0) (zero-add (k - 1)))
          ∙ ap (λ (l : List ℕ). get_or l (k - 1) 0) g.row
          ∙ get_or-append (take k (row_at 0 w s)) (replicate (w - k) 0) 0 (k - 1) (omega arith)
          ∙ get_or-take k (row_at 0 w s) (k - 1) 0 (omega arith)

      extent : get_or (view extents) (k - 1) 0 ≡ get_or (row_at 0 w extents) (k - 1) 0
      extent = sym (row_number 0 w (k - 1) extents in_row ∙ ap (λ (j : ℕ). get_or (view extents) j 0) (zero-add (k - 1)))

      component_below : get_or (row_at 0 w s) (k - 1) 0 < get_or (row_at 0 w extents) (k - 1) 0
      component_below =
          below_at (row_at 0 w s) (row_at 0 w extents) g.asked.below (k - 1) (omega (arith, in_row, index_long g.asked)) (omega (arith, in_row, shape_long g.asked))

      extent_small : get_or (row_at 0 w extents) (k - 1) 0 ≤ product_limit
      extent_small = within_small (row_at 0 w extents) g.asked.extents_are.within (k - 1)

      pub ask_component : (k - 1 < length t) × (get_or (view t) (k - 1) 0 < 2 ^ 31)
      ask_component = (omega (arith, g.size, g.asked.room, in_row), omega (arith, component, component_below, extent_small))

      pub ask_extent : (k - 1 < length extents) × (get_or (view extents) (k - 1) 0 < 2 ^ 31)
      ask_extent = (omega (arith, g.asked.extents_are.room, in_row), omega (arith, extent, extent_small))

      -- the row with a number stored there
      stored : (v : ℕ) → row_at 0 w (set t (k - 1) (pos v)) ≡ take (k - 1) (row_at 0 w s) ++ (v ∷ replicate (w - k) 0)
      unfolding part
      stored v =
          rw (view_set t (k - 1) (pos v), take-set-lt w (view t) (k - 1) v in_row)
          (ap (λ (l : List ℕ). set l (k - 1) v) (g.row ∙ split)
          ∙ set_at (take (k - 1) (row_at 0 w s)) (get_or (row_at 0 w s) (k - 1) 0) (replicate (w - k) 0) v (k - 1)
          (length-take-le (k - 1) (row_at 0 w s) (omega (arith, in_row, index_long g.asked))))
        where
          split : take k (row_at 0 w s) ++ replicate (w - k) 0 ≡ take (k - 1) (row_at 0 w s) ++ (get_or (row_at 0 w s) (k - 1) 0 ∷ replicate (w - k) 0)
          split =
              let inside : k - 1 < length (row_at 0 w s) = omega (arith, in_row, index_long g.asked) in
              ap (λ (l : List ℕ). l ++ replicate (w - k) 0) (ap (λ (j : ℕ). take j (row_at 0 w s)) (sym one_less) ∙ take-suc (row_at 0 w s) (k - 1) 0 inside)
              ∙ append_assoc (take (k - 1) (row_at 0 w s)) (get_or (row_at 0 w s) (k - 1) 0 ∷ []) (replicate (w - k) 0)

      module _ {y x : ℕ} (e : y ≡ get_or (view t) (k - 1) 0) (f : x ≡ get_or (view extents) (k - 1) 0) where
        pub sum_small : y + 1 < 2 ^ 31
        sum_small = omega (arith, component, component_below, extent_small)

        last_there : LastFrom (suc (k - 1)) (row_at 0 w s) (row_at 0 w extents)
        last_there = rw one_less g.last

        -- it grows
        pub turn_grown : y + 1 < x → {u : List ℤ} → u ≡ set t (k - 1) (pos (y + 1)) → Turned w extents s u
        turn_grown l {u} is =
            let both = grown (k - 1) (w - k) (row_at 0 w s) (row_at 0 w extents) (index_long g.asked ∙ sym (shape_long g.asked)) (omega (arith, g.upto, index_long g.asked)) g.asked.below last_there (omega (arith, component, extent)) in
            let there : row_at 0 w u ≡ take (k - 1) (row_at 0 w s) ++ ((get_or (row_at 0 w s) (k - 1) 0 + 1) ∷ replicate (w - k) 0) = rw (is, e, component) (stored (get_or (row_at 0 w s) (k - 1) 0 + 1)) in
            record { next = λ _. rw there both.0; below = λ _. rw there both.1 }

        -- it begins again
        pub turn_rolled : x ≤ y + 1 → {u : List ℤ} → u ≡ set t (k - 1) (pos 0) → Turning w extents (k - 1) s u
        turn_rolled l {u} is = record {
          asked = g.asked;
          upto = omega (arith, g.upto);
          size = rw (is, length-set) g.size;
          row = let more : w - (k - 1) ≡ suc (w - k) = omega (arith, g.upto) in rw (is, more) (stored 0);
          last =
              more_last (k - 1) (row_at 0 w s) (row_at 0 w extents) (index_long g.asked ∙ sym (shape_long g.asked)) (omega (arith, in_row, index_long g.asked)) g.asked.below last_there
              (omega (arith, component, extent));
        }
