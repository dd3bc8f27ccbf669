-- `read_index` and `all_are`: the components of an index, one after the other. Assumes nothing.
use mathlib.Core.Path.{◌≡◌, refl, sym, ap, ◌∙◌}
use mathlib.Core.Bool.{Bool, true, false, ◌&&◌}
use mathlib.Core.List.{List, [], ◌∷◌, ◌++◌, map, map-append}
use Prim.Native.Nat.{ℕ, zero, suc, ◌+◌, ◌≤◌, ◌<◌, ◌^◌}
use native.Mathlib.Numerals.{add-one}
use native.Mathlib.Omega.{arith}
use borrow.Author.Tests.{ne_eqb}
use lib.Dec.{eqb}
use lib.IntN.{ℤ, pos}
use lib.ListN.{length, get_or, take, drop, set, length-take, length-map, drop_of_length-le}
use lib.Seq.{take-suc, take_all, drop-cons}
use Rattle.std.specs.List.{list_all, range_with_len}
use Rattle.rules.specs.Lists.{if, all}
use Rattle.rules.specs.Buffers.{over, zeros}
use Rattle.rules.specs.Record.{natural, naturals, shape_in}
use Rattle.rules.specs.Lookup.{read_index}
use Rattle.rules.proofs.Buffers.{over_nil, over_more}
use Rattle.rules.proofs.Finding.{read_length}
use Rattle.shapes.specs.Judged.{Judged}
use Rattle.shapes.proofs.Judging.{rank_counted, rank_small}
use Rattle.shapes.proofs.Reading.{length_naturals, natural_there}

-- ---- one component

module _ (c e : ℕ) where
  -- on an extent 1
  pub component_zero : e ≡ 1 → 0 ≡ if (eqb e 1) 0 c
  component_zero h = rw h

  -- on any other
  pub component_itself : (e ≡ 1 → ⊥) → c ≡ if (eqb e 1) 0 c
  component_itself h = rw (ne_eqb e 1 h)

-- a component is read as no larger a number
pub component_low : (x e : ℕ) {v : ℕ} → v ≡ if (eqb e 1) 0 x → x < 2 ^ 31 → v < 2 ^ 31
component_low x e i h = rw i (by (eqb e 1))
  where
    by : (t : Bool) → if t 0 x < 2 ^ 31
    by true = omega arith
    by false = h

pub ruleset components = (component_zero, component_itself)

-- component k as it is read
read_at_lem : (index shape : List ℕ) (k : ℕ) → k < length shape → get_or (read_index index shape) k 0 ≡ if (eqb (get_or shape k 1) 1) 0 (get_or index k 0)
unfolding read_index
read_at_lem index [] k h = absurd (omega arith)
read_at_lem [] (e ∷ shape) k h = nothing (eqb (get_or (e ∷ shape) k 1) 1)
  where
    nothing : (t : Bool) → ◌≡◌ {A = ℕ} 0 (if t 0 0)
    nothing true = refl
    nothing false = refl
read_at_lem (c ∷ index) (e ∷ shape) zero h = refl
read_at_lem (c ∷ index) (e ∷ shape) (suc k) h = read_at_lem index shape k (omega arith)

-- a shape that was judged has few axes
pub axes_few : (s : List ℤ) → Judged s → length (shape_in s) ≤ 4
axes_few s j = rw (rank_counted s j) (rank_small s j refl)

-- ---- the index as it is read

-- the first k components are written
pub record Reading (index shape : List ℤ) (k : ℕ) (out : List ℤ) : Type 0 where
  pub upto : k ≤ length index
  pub long : length index ≡ length (shape_in shape)
  pub few : length index ≤ 4
  pub is : out ≡ over (map pos (take k (read_index (naturals index) (shape_in shape)))) (zeros 4)

-- before the first
pub read_start : (index shape : List ℤ) → Judged shape → length index ≡ length (shape_in shape) → Reading index shape 0 (pos 0 ∷ pos 0 ∷ pos 0 ∷ pos 0 ∷ [])
read_start index shape j e = record {
  upto = omega arith;
  long = e;
  few = rw e (axes_few shape j);
  is = sym (over_nil (zeros 4));
}

module _ {index shape : List ℤ} {k : ℕ} {out : List ℤ} (r : Reading index shape k out) where
  -- the index as it is read
  read : List ℕ
  read = read_index (naturals index) (shape_in shape)

  size : length read ≡ length index
  unfolding read
  size = read_length (naturals index) (shape_in shape) ∙ length_naturals index

  -- one component more
  pub read_turn : {x e v : ℕ} {z : ℤ} → k < length index → x ≡ natural (get_or index k (pos 0)) → e ≡ get_or (shape_in shape) k 1 → v ≡ if (eqb e 1) 0 x → z ≡ pos v →
      Reading index shape (k + 1) (set out k z)
  unfolding read
  read_turn {x} {e} {v} {z} h f g i j =
      let n = size in
      let inside : k < length read = omega arith in
      let there : get_or read k 0 ≡ v = read_at_lem (naturals index) (shape_in shape) k (omega (arith, r.long)) ∙ rw (← natural_there index k f, ← g) (sym i) in
      let front : length (map pos (take k read)) ≡ k = length-map (take k read) pos ∙ simp length-take (omega arith) in
      let more : map pos (take k read) ++ (z ∷ []) ≡ map pos (take (k + 1) read) = rw (add-one, take-suc read k 0 inside, there, j, map-append) in
      let room : k < length (zeros 4) = omega (arith, r.few) in
      record {
        upto = omega arith;
        long = r.long;
        few = r.few;
        is = rw (r.is, over_more (map pos (take k read)) (zeros 4) z k front room, more);
      }

  -- all components
  pub read_done : length index ≤ k → out ≡ over (map pos (read_index (naturals index) (shape_in shape))) (zeros 4)
  unfolding read
  read_done h = let n = size in let all : take k read ≡ read = take_all k read (omega arith) in r.is ∙ rw all

pub ruleset reading = (component_low, read_start, read_turn, read_done)

-- ---- all the same

-- the test put to each of the n components from a on, by their places, is that put to the components
pub are_all : (index : List ℤ) (v a n : ℕ) → a + n ≡ length index →
    list_all (λ k. eqb v (natural (get_or index k (pos 0)))) (range_with_len a n) ≡ all (eqb v) (naturals (drop a index))
unfolding all
are_all index v a zero e = rw (drop_of_length-le index {i = a} (omega arith))
are_all index v a (suc n) e =
    let inside : a < length index = omega arith in
    rw (drop-cons index a (pos 0), add-one) (ap (λ t. eqb v (natural (get_or index a (pos 0))) && t) (are_all index v (suc a) n (omega arith)))
