-- `number_of`, `differ_in_window` and `differ_by_numbers`: rows below extents are known by their numbers. Assumes nothing.
use mathlib.Core.Path.{◌≡◌, refl, sym, ap, ◌∙◌}
use mathlib.Core.Bool.{Bool, true, false, not}
use mathlib.Core.List.{List, [], ◌∷◌}
use Prim.Native.Nat.{ℕ, zero, suc, ◌+◌, ◌*◌, ◌^◌, ◌<◌, ◌≤◌}
use native.Mathlib.Nat.{zero-mul, zero-add, add-zero, add-mul, add_assoc, mul-one, mul_assoc, le_trans, le-mul_of_pos_right}
use native.Mathlib.Numerals.{add-one}
use native.Mathlib.Omega.{arith}
use borrow.Author.Tests.{leb-true, eq-eqb, ne_eqb, not-true}
use lib.IntN.{ℤ}
use lib.ListN.{length, get_or, drop, length-map, drop_of_length-le}
use lib.Seq.{drop-cons}
use mir.Syntax.{w64}
use mir.Val.{Fits}
use Rattle.rules.specs.Limits.{product_limit}
use Rattle.rules.specs.Lists.{product, all_below}
use Rattle.rules.specs.RowsInOrder.{sorted}
use Rattle.rules.specs.Layout.{distinct, within_product, nonzero_product}
use Rattle.rules.specs.Positions.{ravel_index}
use Rattle.rules.proofs.Extents.{product_nonzero, extent_nonzero}
use Rattle.rules.proofs.Indices.{ravel_below, ravel_same}
use Rattle.rules.proofs.Ranges.{map_at}
use Rattle.rules.proofs.Tests.{all_at}
use Rattle.cells.specs.View.{view}
use Rattle.tables.specs.Rows.{row_at, rows_at}
use Rattle.tables.proofs.Different.{different_length, twice_length}
use Rattle.tables.proofs.Rows.{row_length, row_number, row_low, length_rows, row_of, has_row}
use Rattle.axes.specs.Extents.{Extents}
use Rattle.axes.specs.Numbers.{RowInside, RowsInside, row_numbers, Twice, DifferIn}
use Rattle.axes.proofs.Pairs.{pair_row, pair_first, pair_second}
use Rattle.axes.proofs.Indices.{factors}
use Rattle.axes.proofs.Marking.{Apart, apart_start, apart_turn}

-- ---- extents whose product is within the limit

module _ {at w : ℕ} {t : List ℤ} (x : Extents at w t) where
  nonzero_low : nonzero_product (row_at at w t) ≤ product_limit
  unfolding within_product
  nonzero_low = leb-true (nonzero_product (row_at at w t)) product_limit x.within

  -- the product of all is
  product_low : product (row_at at w t) ≤ 65536
  product_low = le_trans (product_nonzero (row_at at w t)) nonzero_low

  -- each is natural
  pub extent_low : {k : ℕ} → k < w → get_or (view t) (at + k) 0 < 2 ^ 31
  extent_low {k} h = let small = le_trans (extent_nonzero (row_at at w t) k 0 (omega arith)) nonzero_low in omega (arith, row_number at w k t h)

-- ---- the number of a row: `number_of`

-- no factor behind the first k of a product that is not zero is
rest_pos : (k : ℕ) (l : List ℕ) → 0 < product l → 0 < product (drop k l)
unfolding product
rest_pos zero l h = h
rest_pos (suc k) [] h = h
rest_pos (suc k) (e ∷ l) h = rest_pos k l (factors e (product l) h).1

-- what component k and those behind it add to the number of those before it
pub ravel_next : (index shape : List ℕ) (k number d : ℕ) → k < length index → k < length shape →
    number * product (drop k shape) + ravel_index (drop k index) (drop k shape) ≡
    (number * get_or shape k d + get_or index k 0) * product (drop (k + 1) shape) + ravel_index (drop (k + 1) index) (drop (k + 1) shape)
unfolding product ravel_index
ravel_next index shape k number d h l =
    let e : ℕ = get_or shape k d in
    let c : ℕ = get_or index k 0 in
    let rest : ℕ = product (drop (suc k) shape) in
    let other : ℕ = ravel_index (drop (suc k) index) (drop (suc k) shape) in
    let sum : number * (e * rest) + (c * rest + other) ≡ (number * e + c) * rest + other =
    rw (add-mul (number * e) c rest, mul_assoc number e rest, add_assoc (number * (e * rest)) (c * rest) other) in
    rw (add-one, drop-cons shape k d, drop-cons index k 0) sum

module _ {a at w : ℕ} {s t : List ℤ} (r : RowInside a at w s t) where
  -- it is below the product of the extents
  number_below : ravel_index (row_at a w s) (row_at at w t) < product (row_at at w t)
  number_below =
      let p = row_length a w s r.row.room in
      let q = row_length at w t r.extents.room in
      ravel_below (row_at a w s) (row_at at w t) (p ∙ sym q) r.inside

  -- so it fits
  number_fits : {x : ℕ} → x ≤ ravel_index (row_at a w s) (row_at at w t) → Fits w64 x
  number_fits h = let n = number_below in let m = product_low r.extents in record { fits = omega arith }

-- the number of the first k components, with what the other ones add
pub record Numbered (a at w k number : ℕ) (s t : List ℤ) : Type 0 where
  pub upto : k ≤ w
  pub row : RowInside a at w s t
  pub eq : ravel_index (row_at a w s) (row_at at w t) ≡ number * product (drop k (row_at at w t)) + ravel_index (drop k (row_at a w s)) (drop k (row_at at w t))

pub number_start : {a at w : ℕ} {s t : List ℤ} → RowInside a at w s t → Numbered a at w 0 0 s t
number_start {a} {at} {w} {s} {t} r = record {
  upto = omega arith;
  row = r;
  eq = rw (zero-mul (product (row_at at w t)), zero-add (ravel_index (row_at a w s) (row_at at w t)));
}

-- what there is so far is at most the number
so_far_fits : {a at w k number : ℕ} {s t : List ℤ} → Numbered a at w k number s t → Fits w64 number
so_far_fits {a} {at} {w} {k} {number} {s} {t} p =
    let some = rest_pos k (row_at at w t) (let n = number_below p.row in omega arith) in
    let least : number ≤ number * product (drop k (row_at at w t)) = le-mul_of_pos_right number some in
    number_fits p.row (omega (arith, p.eq))

module _ {a at w k number : ℕ} {s t : List ℤ} (p : Numbered a at w k number s t) where
  module _ (h : k < w) where
    -- both can be read
    pub component_low : get_or (view s) (a + k) 0 < 2 ^ 31
    component_low = row_low a w k s p.row.row h

    pub number_turn : {e c : ℕ} → e ≡ get_or (view t) (at + k) 0 → c ≡ get_or (view s) (a + k) 0 → Numbered a at w (k + 1) (number * e + c) s t
    number_turn {e} {c} f g =
        let long = row_length a w s p.row.row.room in
        let wide = row_length at w t p.row.extents.room in
        record {
          upto = omega arith;
          row = p.row;
          eq =
              p.eq
              ∙ rw (row_number at w k t h, row_number a w k s h, ← f, ← g) at (ravel_next (row_at a w s) (row_at at w t) k number 0 (omega arith) (omega arith));
        }

    module _ {e : ℕ} (f : e ≡ get_or (view t) (at + k) 0) where
      -- neither the product nor the sum wraps
      pub number_add : {c : ℕ} → c ≡ get_or (view s) (a + k) 0 → Fits w64 (number * e + c)
      number_add g = so_far_fits (number_turn f g)

      pub number_mul : Fits w64 (number * e)
      number_mul = let sum = number_add refl in record { fits = omega arith }

pub number_done : {a at w k number : ℕ} {s t : List ℤ} → Numbered a at w k number s t → w ≤ k → number ≡ ravel_index (row_at a w s) (row_at at w t)
unfolding product ravel_index
number_done {a} {at} {w} {k} {number} {s} {t} p h =
    let m = row_length a w s p.row.row.room in
    let n = row_length at w t p.row.extents.room in
    sym (p.eq ∙ rw (drop_of_length-le (row_at at w t) {i = k} (omega arith), drop_of_length-le (row_at a w s) {i = k} (omega arith), mul-one number, add-zero number))

pub ruleset numbered = (number_start, extent_low, component_low, number_mul, number_add, number_turn, number_done)

-- the number of two components
module _ {a at w : ℕ} {s t : List ℤ} (r : RowInside a at w s t) (two : w ≡ 2) where
  pair_number : ravel_index (row_at a w s) (row_at at w t) ≡ get_or (view s) a 0 * get_or (view t) (at + 1) 0 + get_or (view s) (a + 1) 0
  unfolding product ravel_index
  pair_number =
      let y : ℕ = get_or (view s) (a + 1) 0 in
      rw (pair_row a s two r.row.room, pair_row at t two r.extents.room, mul-one (get_or (view t) (at + 1) 0), mul-one y, add-zero y)

  -- the extent that counts can be read
  pub pair_extent : get_or (view t) (at + 1) 0 < 2 ^ 31
  pair_extent = extent_low r.extents (omega arith)

  module _ {x e : ℕ} (d : x ≡ get_or (view s) a 0) (f : e ≡ get_or (view t) (at + 1) 0) where
    pub pair_done : {y : ℕ} → y ≡ get_or (view s) (a + 1) 0 → x * e + y ≡ ravel_index (row_at a w s) (row_at at w t)
    pair_done g = rw (d, f, g) (sym pair_number)

    pub pair_add : {y : ℕ} → y ≡ get_or (view s) (a + 1) 0 → Fits w64 (x * e + y)
    pair_add g = number_fits r (omega (arith, pair_done g))

    pub pair_mul : Fits w64 (x * e)
    pair_mul = let sum = pair_add refl in record { fits = omega arith }

pub ruleset pair_numbered = (pair_first, pair_second, pair_extent, pair_mul, pair_add, pair_done)

-- ---- the numbers of rows

module _ {a at w n : ℕ} {s t : List ℤ} (r : RowsInside a at w n s t) where
  -- there are as many as rows
  pub numbers_length : length (row_numbers a at w n s t) ≡ n
  numbers_length = length-map (rows_at a w n s) (λ row. ravel_index row (row_at at w t)) ∙ length_rows a w n s

  module _ (i : ℕ) (h : i < n) where
    -- each row is inside
    pub row_inside : RowInside (a + i * w) at w s t
    row_inside =
        let there : i < length (rows_at a w n s) = rw length_rows h in
        record {
          row = has_row a w n s r.rows i h;
          extents = r.extents;
          inside = rw (row_of a w n s i h) at (all_at (λ row. all_below row (row_at at w t)) (rows_at a w n s) [] r.inside i there);
        }

    -- its number is that of the row
    number_is : get_or (row_numbers a at w n s t) i 0 ≡ ravel_index (row_at (a + i * w) w s) (row_at at w t)
    number_is =
        map_at (λ row. ravel_index row (row_at at w t)) (rows_at a w n s) i [] 0 (rw length_rows h)
        ∙ ap (λ (row : List ℕ). ravel_index row (row_at at w t)) (row_of a w n s i h)

    pub number_read : {x : ℕ} → x ≡ ravel_index (row_at (a + i * w) w s) (row_at at w t) → x ≡ get_or (row_numbers a at w n s t) i 0
    number_read e = e ∙ sym number_is

    number_under : get_or (row_numbers a at w n s t) i 0 < product (row_at at w t)
    number_under = rw number_is (number_below row_inside)

  -- rows that have one number are the same
  same_rows : (i k : ℕ) → i < n → k < n → get_or (row_numbers a at w n s t) i 0 ≡ get_or (row_numbers a at w n s t) k 0 →
      get_or (rows_at a w n s) i [] ≡ get_or (rows_at a w n s) k []
  same_rows i k h l e =
      let p = row_inside i h in
      let q = row_inside k l in
      let wide = row_length at w t r.extents.room in
      let first = row_length (a + i * w) w s p.row.room in
      let second = row_length (a + k * w) w s q.row.room in
      row_of a w n s i h
      ∙ ravel_same (row_at at w t) (first ∙ sym wide) (second ∙ sym wide) p.inside q.inside (sym (number_is i h) ∙ e ∙ number_is k l)
      ∙ sym (row_of a w n s k l)

  -- ---- all different: `differ_by_numbers`

  -- the next window begins at a number of 64 bits
  pub window_fits : {size from : ℕ} → size ≡ product (row_at at w t) → from < size → Fits w64 (from + 4096)
  window_fits e h = let low = product_low r.extents in record { fits = omega arith }

  -- two rows have one number
  pub windows_found : (from to : ℕ) (u : Bool) → DifferIn from to (row_numbers a at w n s t) u → not u ≡ true → false ≡ distinct (rows_at a w n s)
  windows_found from to u d f =
      let rows : List (List ℕ) = rows_at a w n s in
      let two : Twice from to (row_numbers a at w n s t) = rw (not-true u f) at d in
      let inside : two.second < n = rw numbers_length at two.within in
      let earlier = two.first.before in
      let twin = same_rows two.second two.first.at inside (omega arith) (sym two.first.is) in
      let fewer = twice_length rows two.second two.first.at earlier (rw length_rows inside) twin in
      sym (ne_eqb (length (sorted rows)) (length rows) (λ z. omega arith))

  -- no two have
  pub windows_done : {size from : ℕ} → size ≡ product (row_at at w t) → Apart from (row_numbers a at w n s t) → size ≤ from → true ≡ distinct (rows_at a w n s)
  windows_done {size} {from} d p h = sym (eq-eqb _ _ (different_length (rows_at a w n s) different))
    where
      different : (i : ℕ) → i < length (rows_at a w n s) → (k : ℕ) → k < i → get_or (rows_at a w n s) i [] ≡ get_or (rows_at a w n s) k [] → ⊥
      different i l k m e =
          let inside : i < n = rw length_rows at l in
          let earlier : k < n = omega arith in
          let low = number_under i inside in
          let twin : row_at (a + k * w) w s ≡ row_at (a + i * w) w s = sym (row_of a w n s k earlier) ∙ sym e ∙ row_of a w n s i inside in
          let same : get_or (row_numbers a at w n s t) k 0 ≡ get_or (row_numbers a at w n s t) i 0 =
          number_is k earlier ∙ ap (λ (row : List ℕ). ravel_index row (row_at at w t)) twin ∙ sym (number_is i inside) in
          p.once i (rw numbers_length inside) (omega arith) (omega arith) k m same

pub ruleset in_window = (numbers_length, row_inside, number_read)

pub ruleset windows = (apart_start, apart_turn, window_fits, windows_found, windows_done)
