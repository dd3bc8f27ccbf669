-- The end of a broadcast, case by case, and that a diagonal in rows is a sound diagonal. Assumes nothing.
use mathlib.Core.Path.{◌≡◌, refl, sym, ◌∙◌}
use mathlib.Core.Bool.{true, false, not, ◌&&◌}
use mathlib.Core.List.Memᴰ
use mathlib.Core.List.{List, [], ◌∷◌}
use Prim.Native.Nat.{ℕ, zero, suc, ◌≤◌, ◌<◌}
use native.Mathlib.Omega.{arith}
use native.Mathlib.Nat.{zero-mul}
use borrow.Author.Tests.{eq-eqb, eqb-true, eqb-false, ne_eqb}
use lib.Dec.{eqb}
use lib.ListN.{length, get_or}
use Rattle.std.specs.declared.cmp.Ordering.TheVariants.{Less}
use Rattle.rules.specs.Lists.{if, all, product}
use Rattle.rules.specs.RowsInOrder.{cmp_rows, sorted, Each, Increasing}
use Rattle.rules.specs.Refusals.{given, refused, ◌when◌, lowest}
use Rattle.rules.specs.Layout.{Layout, rank, width, is_sparse, alike, made}
use Rattle.rules.specs.Soundness.{Sound}
use Rattle.rules.specs.CountsAndForms.{to_dense}
use Rattle.rules.specs.Broadcast.{is_diagonal_in_rows, as_diagonal, end_of_broadcast}
use Rattle.rules.proofs.Same.{both_true}
use Rattle.rules.proofs.Sets.{head_least, each_head, each_tail}
use Rattle.rules.proofs.Sorting.{sorted_increasing, sorted_each}
use Rattle.rules.proofs.Alike.{alike_take}
use Rattle.rules.proofs.Giving.{Giving, giving_if, giving_step, giving_made}
use Rattle.rules.proofs.Forming.{Framed, sound_framed, diagonal_framed, formed_sound, sound_given}

-- ---- sound layouts

-- of rows without numbers there is at most one that differs
no_two_less : (x y : List ℕ) → length x ≡ 0 → length y ≡ 0 → cmp_rows x y ≡ Less → ⊥
unfolding cmp_rows
no_two_less [] [] p q e = let z : ◌≡◌ {A = ℕ} 0 1 = cc in omega arith
no_two_less [] (y ∷ q) p h e = omega arith
no_two_less (x ∷ p) y h q e = omega arith

one_empty_row : {t : List (List ℕ)} → Increasing t → Each (λ r. length r ≡ 0) t → length t ≤ 1
one_empty_row {t = []} i p = omega arith
one_empty_row {t = x ∷ []} i p = omega arith
one_empty_row {t = x ∷ y ∷ t} i p =
    absurd (no_two_less x y (each_head p) (each_head (each_tail p)) (head_least i (Memᴰ.head refl)))

-- extents that are all 1
ones_product : (l : List ℕ) → all (eqb 1) l ≡ true → product l ≡ 1
unfolding product all
ones_product [] e = refl
ones_product (x ∷ l) e =
    let h = both_true (eqb 1 x) (all (eqb 1) l) e in
    let is : 1 ≡ x = eqb-true 1 x h.0 in
    rw (← is, ones_product l h.1)

-- at most one row, as many as the first extent of equal ones: that is all
few_full : (shape : List ℕ) (n : ℕ) → 0 < length shape → alike shape ≡ true → n ≡ get_or shape 0 0 → n ≤ 1 → n ≡ product shape
unfolding alike product
few_full [] n h a e f = absurd (omega arith)
few_full (zero ∷ shape) n h a e f = e ∙ sym (zero-mul (product shape))
few_full (suc zero ∷ shape) n h a e f = e ∙ sym (rw (ones_product shape a))
few_full (suc (suc x) ∷ shape) n h a e f = absurd (omega arith)

module _ {l : Layout} (s : Sound l) (not_full : eqb (length l.rows) (product l.shape) ≡ false) (some : 0 < rank l) (e : is_diagonal_in_rows l ≡ true) where
  parts : (not (eqb (rank l) 1) && alike l.shape ≡ true) × (eqb (length l.rows) (get_or l.shape 0 0) ≡ true)
  parts =
      let h = both_true (not (eqb (rank l) 1) && alike l.shape && eqb (length l.rows) (get_or l.shape 0 0)) (all alike l.rows) e in
      both_true (not (eqb (rank l) 1) && alike l.shape) (eqb (length l.rows) (get_or l.shape 0 0)) h.0

  extents_alike : alike l.shape ≡ true
  extents_alike = (both_true (not (eqb (rank l) 1)) (alike l.shape) parts.0).1

  -- its rows have numbers: a layout with one empty row or none, as many as its first extent, is full
  pub rows_wide : 1 ≤ width l
  rows_wide = by (width l) refl
    where
      count : length l.rows ≡ get_or l.shape 0 0
      count = eqb-true (length l.rows) (get_or l.shape 0 0) parts.1

      by : (n : ℕ) → width l ≡ n → 1 ≤ n
      by (suc n) f = omega arith
      by zero f =
          let one : length (sorted l.rows) ≤ 1 = one_empty_row (sorted_increasing l.rows) (sorted_each (λ r m. s.form.row_lengths r m ∙ f)) in
          absurd (eqb-false (length l.rows) (product l.shape) not_full
          (few_full l.shape (length l.rows) some extents_alike count (omega (arith, s.form.rows_distinct))))

  -- the diagonal is sound
  pub diagonal_sound : Sound (as_diagonal l)
  diagonal_sound =
      let f = sound_framed s in
      let frame : Framed (as_diagonal l) = record { rank_most = f.rank_most; product_most = f.product_most; states_are = f.states_are; inputs_are = f.inputs_are } in
      formed_sound (diagonal_framed frame refl rows_wide (alike_take (width l) l.shape extents_alike) refl) (omega arith) s.sizes.states_few s.sizes.inputs_few

-- ---- the end, case by case

module _ (l : Layout) where
  -- a layout that is not sparse stays
  pub end_other : is_sparse l ≡ false → end_of_broadcast l ≡ given l
  unfolding end_of_broadcast
  end_other e = rw e

  module _ (sparse : is_sparse l ≡ true) where
    -- one that is full becomes dense
    pub end_full : eqb (length l.rows) (product l.shape) ≡ true → end_of_broadcast l ≡ given (to_dense l)
    unfolding end_of_broadcast
    end_full e = rw (sparse, e)

    module _ (not_full : eqb (length l.rows) (product l.shape) ≡ false) where
      -- one without axes: 12
      pub end_scalar : rank l ≡ 0 → end_of_broadcast l ≡ refused 12
      unfolding end_of_broadcast lowest
      end_scalar e = rw (sparse, not_full, eq-eqb (rank l) 0 e)

      module _ (some : rank l ≡ 0 → ⊥) where
        -- one whose rows are no diagonal stays
        pub end_stays : is_diagonal_in_rows l ≡ false → end_of_broadcast l ≡ given l
        unfolding end_of_broadcast lowest
        end_stays e = rw (sparse, not_full, ne_eqb (rank l) 0 some, e)

        -- one whose rows are a diagonal becomes diagonal; it is never refused
        pub end_diagonal : Sound l → is_diagonal_in_rows l ≡ true → end_of_broadcast l ≡ given (as_diagonal l)
        unfolding end_of_broadcast lowest
        end_diagonal s e = rw (sparse, not_full, ne_eqb (rank l) 0 some, e) (sound_given (diagonal_sound s not_full (omega arith) e))

-- what holds of a layout, of it turned dense and of it as a diagonal, if that is sound, holds of what it ends as
pub end_such : (P : Layout → Type 0) (l : Layout) → P l → P (to_dense l) → (Sound (as_diagonal l) → P (as_diagonal l)) → Giving P (end_of_broadcast l)
unfolding end_of_broadcast
end_such P l p q r =
    giving_if P (not (is_sparse l)) _ _ (λ _. p)
    (λ _. giving_if P (eqb (length l.rows) (product l.shape)) _ _ (λ _. q)
    (λ _. giving_step P (12 when eqb (rank l) 0 ∷ []) (if (is_diagonal_in_rows l) (made (as_diagonal l)) (given l))
    (giving_if P (is_diagonal_in_rows l) (made (as_diagonal l)) (given l) (λ _. giving_made P (as_diagonal l) r) (λ _. p))))
