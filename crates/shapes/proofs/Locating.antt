-- Indices and their numbers in row-major order. Assumes nothing.
use mathlib.Core.Path.{◌≡◌, sym, ◌∙◌}
use mathlib.Core.Bool.{true, false}
use mathlib.Core.List.{List, [], ◌∷◌, map}
use Prim.Native.Nat.{ℕ, suc, ◌+◌, ◌*◌, ◌^◌, ◌<◌, ◌≤◌}
use native.Mathlib.Nat.{zero-mul, zero-add, add-zero, mul-one, pow-suc, suc-mul, mul-le-mul_left, mul-le-mul_right, pow-le-pow_right, lt_of_lt_of_le}
use native.Mathlib.Numerals.{add-one}
use native.Mathlib.Omega.{arith}
use borrow.Author.Tests.{eqb-true}
use lib.Dec.{eqb, lit<}
use lib.IntN.{ℤ, pos}
use lib.ListN.{length, get_or, drop, length-map, drop_of_length-le}
use mir.Syntax.{w64}
use mir.Val.{Fits}
use Rattle.rules.specs.Limits.{rank_limit}
use Rattle.rules.specs.Lists.{any, product, fit_to}
use Rattle.rules.specs.Buffers.{put, zeros}
use Rattle.rules.specs.Record.{natural, naturals, shape_in}
use Rattle.rules.specs.Arguments.{good_components, good_index}
use Rattle.rules.specs.Positions.{ravel_index, unravel}
use Rattle.rules.proofs.Same.{both_true}
use Rattle.rules.proofs.Replaced.{fit_length}
use Rattle.cells.specs.View.{view}
use Rattle.cells.proofs.View.{view_put, view_pos, view_zeros}
use Rattle.tables.specs.Rows.{row_at}
use Rattle.axes.specs.Extents.{IndexAsked}
use Rattle.axes.proofs.Indices.{unravel_length}
use Rattle.axes.proofs.Numbering.{ravel_next}
use Rattle.shapes.specs.Judged.{Judged}
use Rattle.shapes.proofs.Reading.{component_small, natural_get_or, inside_naturals, past_naturals}
use Rattle.shapes.proofs.Judging.{rank_counted, rank_small, shape_row, shape_extents}
use Rattle.shapes.proofs.Fitting.{four_numbers, fit_over}

-- ---- the number of an index

-- the number of the first k components, with what the other ones add
pub record Raveled (index shape : List ℤ) (k number : ℕ) : Type 0 where
  pub upto : k ≤ length index
  pub long : length index ≡ length (shape_in shape)
  pub few : length index ≤ 4
  pub good : good_components index ≡ true
  pub size : number < 65536 ^ k
  pub eq : ravel_index (naturals index) (shape_in shape) ≡ number * product (drop k (shape_in shape)) + ravel_index (drop k (naturals index)) (drop k (shape_in shape))

pub ravel_start : (index shape : List ℤ) → Judged shape → good_index index (length (shape_in shape)) ≡ true → Raveled index shape 0 0
ravel_start index shape j g =
    let both = both_true (eqb (length index) (length (shape_in shape))) (good_components index) g in
    let long = eqb-true (length index) (length (shape_in shape)) both.0 in
    record {
      upto = omega arith;
      long = long;
      few = rw long (rank_small shape j (rank_counted shape j));
      good = both.1;
      size = lit< tt;
      eq = rw (zero-mul (product (shape_in shape)), zero-add (ravel_index (naturals index) (shape_in shape)));
    }

-- one more digit to the base 65,536
digit_fits : (b number k e c : ℕ) → number < b ^ k → e ≤ b → c < b → number * e + c < b ^ suc k
digit_fits b number k e c h l m =
    let low : number * e ≤ number * b = mul-le-mul_left number l in
    let high : suc number * b ≤ b ^ k * b = mul-le-mul_right b h in
    let next : suc number * b ≡ number * b + b = suc-mul number b in
    rw (pow-suc b k) (omega arith)

module _ (index shape : List ℤ) {k number e : ℕ} (p : Raveled index shape k number) (h : k < length index) (low : e ≤ 65536) where
  grown : (c : ℕ) → c ≤ 65535 → number * e + c < 65536 ^ suc k
  grown c l = digit_fits 65536 number k e c p.size low (omega arith)

  -- four digits are 64 bits
  fits : {n : ℕ} → n < 65536 ^ suc k → Fits w64 n
  fits l =
      let some : 0 < 65536 = lit< tt in
      record { fits = lt_of_lt_of_le l (pow-le-pow_right some {i = suc k} {j = 4} (omega (arith, p.few))) }

  pub ravel_mul_fits : Fits w64 (number * e)
  ravel_mul_fits = let g = grown 0 (omega arith) in fits (rw add-zero at g)

  module _ {c : ℕ} (ec : c ≡ natural (get_or index k (pos 0))) where
    component : c ≤ 65535
    component = rw ec (component_small index k p.good)

    pub ravel_add_fits : Fits w64 (number * e + c)
    ravel_add_fits = fits (grown c component)

    pub ravel_turn : e ≡ get_or (shape_in shape) k 1 → Raveled index shape (k + 1) (number * e + c)
    ravel_turn ee =
        let there : c ≡ get_or (naturals index) k 0 = ec ∙ sym (natural_get_or index k) in
        let inside : k < length (shape_in shape) = omega (arith, p.long) in
        record {
          upto = omega arith;
          long = p.long;
          few = p.few;
          good = p.good;
          size = rw add-one (grown c component);
          eq = p.eq ∙ rw (← ee, ← there) at (ravel_next (naturals index) (shape_in shape) k number 1 (inside_naturals index k h) inside);
        }

pub ravel_done : {index shape : List ℤ} {k number : ℕ} → Raveled index shape k number → length index ≤ k → number ≡ ravel_index (naturals index) (shape_in shape)
unfolding product ravel_index
ravel_done {index} {shape} {k} {number} p h =
    let l : length (shape_in shape) ≤ k = omega (arith, p.long) in
    sym (p.eq ∙ rw (drop_of_length-le (shape_in shape) l, drop_of_length-le (naturals index) (past_naturals index k h), mul-one number, add-zero number))

pub ruleset ravel_laws = (ravel_start, ravel_mul_fits, ravel_add_fits, ravel_turn, ravel_done)

-- ---- the index of a number

module _ (n : ℕ) (shape : List ℤ) (j : Judged shape) (z : any (eqb 0) (shape_in shape) ≡ false) {rank : ℕ} (e : rank ≡ length (shape_in shape)) where
  -- there is room for it among four numbers
  pub index_room : IndexAsked 1 rank shape 0 (zeros 4)
  index_room =
      let seen = shape_row shape j e in
      let few = rank_small shape j (e ∙ rank_counted shape j) in
      record { extents = shape_extents shape j e; nonzero = rw seen z; room = omega arith }

  -- read by value it has zeros behind it
  index_read : {index : List ℤ} → index ≡ put 0 (map pos (unravel n (row_at 1 rank shape))) (zeros 4) → view index ≡ fit_to rank_limit 0 (unravel n (shape_in shape))
  index_read f =
      let few = rank_small shape j (e ∙ rank_counted shape j) in
      let u : List ℕ = unravel n (shape_in shape) in
      let long : length u ≤ 4 = rw (unravel_length n (shape_in shape)) (omega arith) in
      rw (f, shape_row shape j e, view_put, view_pos, length-map, view_zeros, zero-add) (fit_over 4 u long)

  pub index_by_value : {index : List ℤ} {a b c d : ℕ} → index ≡ put 0 (map pos (unravel n (row_at 1 rank shape))) (zeros 4) →
      a ≡ get_or (view index) 0 0 → b ≡ get_or (view index) 1 0 → c ≡ get_or (view index) 2 0 → d ≡ get_or (view index) 3 0 →
      a ∷ b ∷ c ∷ d ∷ [] ≡ fit_to rank_limit 0 (unravel n (shape_in shape))
  index_by_value {index} f p q r t =
      let read = index_read f in
      rw (p, q, r, t, read) (four_numbers (fit_to 4 0 (unravel n (shape_in shape))) (fit_length 4 0 (unravel n (shape_in shape))))

pub ruleset unravel_laws = (index_room, index_by_value)
