-- `picked_row`: each number is copied, unless it is missing. Assumes nothing.
use mathlib.Core.Path.{◌≡◌, refl, sym, ◌∙◌}
use mathlib.Core.List.{List, [], ◌∷◌}
use Prim.Native.Nat.{ℕ, zero, suc, ◌+◌, ◌<◌, ◌≤◌}
use native.Mathlib.Nat.{zero-add}
use native.Mathlib.Omega.{arith}
use lib.IntN.{ℤ, pos}
use lib.ListN.{length, get_or, set, take, replicate, length-set, length-map, get_or-eq_default}
use lib.Seq.{get_or-take, get_or-set_same, get_or-set_other, length-take-le, ext_get_or}
use Rattle.rules.proofs.Ranges.{map_at}
use Rattle.rules.proofs.Order.{ComparedNumbers, under, even, above, compare_numbers}
use Rattle.cells.specs.View.{code, view, Low}
use Rattle.cells.proofs.View.{view_length, view_get_or, view_set}
use Rattle.records.proofs.Sections.{other_default}
use Rattle.cells.proofs.Signed.{held, back}
use Rattle.tables.specs.Rows.{row_at}
use Rattle.tables.proofs.Rows.{row_length, row_number}
use Rattle.moving.specs.Picking.{picked, RowAsked}

-- ---- picked numbers

-- as many as there are places
pub picked_length : (missing : ℕ) (places row : List ℕ) → length (picked missing places row) ≡ length places
unfolding picked
picked_length missing places row = length-map places (λ j. get_or row j missing)

-- the one at a place
pub picked_at : (missing : ℕ) (places row : List ℕ) (k : ℕ) → k < length places → get_or (picked missing places row) k 0 ≡ get_or row (get_or places k 0) missing
unfolding picked
picked_at missing places row k h = map_at (λ j. get_or row j missing) places k 0 0 h

-- none of them is negative, if none was
pub picked_low : (places row : List ℕ) → Low row → Low (picked 0 places row)
unfolding picked
picked_low [] row f k = omega arith
picked_low (j ∷ places) row f zero = f j
picked_low (j ∷ places) row f (suc k) = picked_low places row f k

-- ---- one number after the other

-- the first k are picked, and the others missing
pub record Picking (missing : ℕ) (places : List ℕ) (w : ℕ) (row : List ℕ) (k : ℕ) (out : List ℤ) : Type 0 where
  pub upto : k ≤ w
  pub narrow : w ≤ 5
  pub size : length out ≡ 5
  pub done : (i : ℕ) → i < k → get_or (view out) i 0 ≡ get_or row (get_or places i 0) missing
  pub rest : (i : ℕ) → k ≤ i → i < 5 → get_or (view out) i 0 ≡ missing

-- a number over and over
alike_at : (z : ℤ) (i : ℕ) → i < 5 → get_or (view (replicate 5 z)) i 0 ≡ code z
unfolding view
alike_at z zero h = refl
alike_at z (suc zero) h = refl
alike_at z (suc (suc zero)) h = refl
alike_at z (suc (suc (suc zero))) h = refl
alike_at z (suc (suc (suc (suc zero)))) h = refl
alike_at z (suc (suc (suc (suc (suc i))))) h = absurd (omega arith)

-- all are missing
pub none_picked : {at width missing w : ℕ} {s : List ℤ} (places : List ℕ) {z : ℤ} → RowAsked at width missing w s → z ≡ pos missing →
    Picking missing places w (row_at at width s) 0 (replicate 5 (held z))
none_picked {missing = missing} places {z} q e =
    let is : held z ≡ pos missing = rw e (back (pos missing) q.small) in
    rw is
    (record {
      upto = omega arith;
      narrow = q.narrow;
      size = refl;
      done = λ i h. absurd (omega arith);
      rest = λ i h l. alike_at (pos missing) i l;
    })

module _ {at width missing w : ℕ} {s : List ℤ} (q : RowAsked at width missing w s) {places : List ℕ} {k : ℕ} {out : List ℤ} (p : Picking missing places w (row_at at width s) k out) where
  -- the row has its numbers
  wide : length (row_at at width s) ≡ width
  wide = row_length at width s q.room

  module _ (h : k < w) where
    -- the next one is missing
    pub one_missing : width ≤ get_or places k 0 → Picking missing places w (row_at at width s) (k + 1) out
    one_missing l = record {
      upto = omega arith;
      narrow = p.narrow;
      size = p.size;
      done = λ i j. by i (compare_numbers i k) j;
      rest = λ i j. p.rest i (omega arith);
    }
      where
        by : (i : ℕ) → ComparedNumbers i k → i < k + 1 → get_or (view out) i 0 ≡ get_or (row_at at width s) (get_or places i 0) missing
        by i (under g) j = p.done i g
        by i (even g) j =
            rw g (p.rest k (omega arith) (omega (arith, p.narrow)) ∙ sym (get_or-eq_default (row_at at width s) missing (rw wide l)))
        by i (above g) j = absurd (omega arith)

    -- the next one is copied
    pub one_picked : {out' : List ℤ} → get_or places k 0 < width → out' ≡ set out k (get_or s (at + get_or places k 0) (pos 0)) →
        Picking missing places w (row_at at width s) (k + 1) out'
    one_picked {out'} l e = record {
      upto = omega arith;
      narrow = p.narrow;
      size = rw (e, length-set) p.size;
      done = λ i j. by i (compare_numbers i k) j;
      rest = λ i j g. other i (λ d. omega arith) ∙ p.rest i (omega arith) g;
    }
      where
        place : ℕ
        place = get_or places k 0

        new : view out' ≡ set (view out) k (code (get_or s (at + get_or places k 0) (pos 0)))
        new = rw (e, view_set)

        other : (i : ℕ) → (i ≡ k → ⊥) → get_or (view out') i 0 ≡ get_or (view out) i 0
        other i d = rw new (get_or-set_other (view out) k i _ 0 d)

        there : get_or (row_at at width s) (get_or places k 0) missing ≡ code (get_or s (at + get_or places k 0) (pos 0))
        there =
            other_default (row_at at width s) (get_or places k 0) missing 0 (rw wide l)
            ∙ row_number at width (get_or places k 0) s l ∙ view_get_or s (at + get_or places k 0)

        by : (i : ℕ) → ComparedNumbers i k → i < k + 1 → get_or (view out') i 0 ≡ get_or (row_at at width s) (get_or places i 0) missing
        by i (under g) j = other i (λ d. omega arith) ∙ p.done i g
        by i (even g) j =
            rw (g, new) (get_or-set_same (view out) k _ 0 (rw view_length (omega (arith, p.size, p.narrow))) ∙ sym there)
        by i (above g) j = absurd (omega arith)

  -- all w of them
  pub all_picked : length places ≡ 5 → w ≤ k → row_at 0 w out ≡ picked missing (take w places) (row_at at width s)
  all_picked five h =
      let long : length (row_at 0 w out) ≡ w = row_length 0 w out (omega (arith, p.size, p.narrow)) in
      let few : length (take w places) ≡ w = length-take-le w places (omega (arith, p.narrow)) in
      ext_get_or 0 (row_at 0 w out) (picked missing (take w places) (row_at at width s)) (long ∙ sym (picked_length missing (take w places) (row_at at width s) ∙ few))
      (λ i l. at_place i (omega arith) few)
    where
      at_place : (i : ℕ) → i < w → length (take w places) ≡ w → get_or (row_at 0 w out) i 0 ≡ get_or (picked missing (take w places) (row_at at width s)) i 0
      at_place i l few =
          (rw zero-add at (row_number 0 w i out l)) ∙ p.done i (omega arith)
          ∙ sym (picked_at missing (take w places) (row_at at width s) i (omega arith) ∙ rw (get_or-take w places i 0 l))

pub ruleset laws = (none_picked, one_missing, one_picked, all_picked)
