-- Rows in a slice, by their places: their numbers, and which rows they are. Assumes nothing.
use mathlib.Core.Path.{◌≡◌, refl, sym, ap, ◌∙◌}
use mathlib.Core.List.{List, [], ◌∷◌, ◌++◌}
use Prim.Native.Nat.{ℕ, zero, suc, ◌+◌, ◌*◌, ◌-◌, ◌^◌, ◌<◌, ◌≤◌}
use native.Mathlib.Nat.{suc-mul, zero-mul, suc-add, zero-add, mul-le-mul_right}
use native.Mathlib.Omega.{arith}
use lib.IntN.{ℤ, pos}
use lib.ListN.{length, get_or, take, drop, replicate, length-drop}
use lib.Seq.{get_or-take, get_or-drop, take-take, drop-drop, take_at, drop_at}
use Rattle.rules.specs.Buffers.{part, put}
use Rattle.rules.specs.RowsInOrder.{In, Each}
use Rattle.rules.specs.Record.{rows_of}
use Rattle.rules.proofs.Buffers.{length_part, part_put_all}
use Rattle.rules.proofs.Sets.{each_head, each_tail}
use Rattle.rules.proofs.Places.{in_at}
use Rattle.rules.proofs.RowsRead.{rows_length, rows_of_width, rows_row, rows_cut}
use Rattle.cells.specs.View.{view}
use Rattle.cells.proofs.View.{view_length, view_part}
use Rattle.tables.specs.Rows.{row_at, rows_at, HasRow, HasRows}

-- ---- one row

-- a row that lies in the slice has w numbers
pub row_length : (a w : ℕ) (s : List ℤ) → a + w ≤ length s → length (row_at a w s) ≡ w
row_length a w s h = length_part a w (view s) (rw view_length h)

-- number k of the row
pub row_number : (a w k : ℕ) (s : List ℤ) → k < w → get_or (row_at a w s) k 0 ≡ get_or (view s) (a + k) 0
unfolding part
row_number a w k s h = rw (get_or-take, get_or-drop)

-- a number of a row that lies in the slice is not negative
pub row_low : (a w k : ℕ) (s : List ℤ) → HasRow a w s → k < w → get_or (view s) (a + k) 0 < 2 ^ 31
row_low a w k s r h = rw (row_number a w k s) at (r.low k)

-- the first n numbers at a place are the first n of more
pub front_row : (a n w : ℕ) (s : List ℤ) → n ≤ w → row_at a n s ≡ take n (row_at a w s)
unfolding part
front_row a n w s h = sym (take-take n w (drop a (view s)) h)

-- the part of a slice that is lent for it
pub lent_row : (a w : ℕ) (s : List ℤ) → take (a + w - a) (drop a s) ≡ part a w s
unfolding part
lent_row a w s = let e : a + w - a ≡ w = omega arith in rw e

-- a row of five equal numbers
abbrev pub five : ℤ → List ℤ
five z = z ∷ z ∷ z ∷ z ∷ z ∷ []

-- the first of them
pub five_row : (w i : ℕ) → w ≤ 4 → row_at 0 w (five (pos i)) ≡ replicate w i
unfolding part view
five_row zero i h = refl
five_row (suc zero) i h = refl
five_row (suc (suc zero)) i h = refl
five_row (suc (suc (suc zero))) i h = refl
five_row (suc (suc (suc (suc zero)))) i h = refl
five_row (suc (suc (suc (suc (suc w))))) i h = absurd (omega arith)

-- ---- some rows

-- each row ends before the ones that follow
pub row_ends : {i n : ℕ} (w : ℕ) → i < n → i * w + w ≤ n * w
row_ends {i} w h = omega (arith, mul-le-mul_right w h, suc-mul i w)

-- some rows, and then some more
rows_split : (w i j : ℕ) (l : List ℕ) → rows_of w (i + j) l ≡ rows_of w i l ++ rows_of w j (drop (i * w) l)
unfolding rows_of
rows_split w zero j l = rw (zero-mul, zero-add)
rows_split w (suc i) j l =
    let e : w + i * w ≡ suc i * w = omega (arith, suc-mul i w) in
    rw suc-add (ap (λ (t : List (List ℕ)). take w l ∷ t) (rows_split w i j (drop w l) ∙ rw (drop-drop (i * w) w l, e)))

module _ (a w n : ℕ) (s : List ℤ) where
  -- there are as many rows as asked for
  pub length_rows : length (rows_at a w n s) ≡ n
  unfolding rows_at
  length_rows = rows_length w n (drop a (view s))

  -- row i stands i rows on
  pub row_of : (i : ℕ) → i < n → get_or (rows_at a w n s) i [] ≡ row_at (a + i * w) w s
  unfolding rows_at
  row_of i h = rows_row w n i (drop a (view s)) h ∙ (unfold part in rw drop-drop)

  -- it is one of the rows
  pub row_in : (i : ℕ) → i < n → In (row_at (a + i * w) w s) (rows_at a w n s)
  row_in i h = rw (← row_of i h) (in_at (rows_at a w n s) i (rw length_rows h))

  -- they have w numbers each, if all of them lie in the slice
  pub rows_wide : a + n * w ≤ length s → Each (λ r. length r ≡ w) (rows_at a w n s)
  unfolding rows_at
  rows_wide h = rows_of_width w n (drop a (view s)) (rw (length-drop, view_length) (omega arith))

  -- it lies in the slice, with no negative number, if all do
  pub has_row : HasRows a w n s → (i : ℕ) → i < n → HasRow (a + i * w) w s
  has_row r i h = record { room = omega (arith, r.room, row_ends w h); low = r.low (row_at (a + i * w) w s) (row_in i h) }

  -- the rows are those of the part that they fill
  pub rows_part : rows_at a w n s ≡ rows_of w n (view (part a (n * w) s))
  unfolding rows_at
  rows_part = rw view_part (unfold part in sym (rows_cut w n (drop a (view s))))

  -- the first n + m rows are the first n, and the m that follow
  pub rows_then : (m : ℕ) → rows_at a w (n + m) s ≡ rows_at a w n s ++ rows_at (a + n * w) w m s
  unfolding rows_at
  rows_then m = rw (rows_split w n m (drop a (view s)), drop-drop)

  -- the first row, and those behind it
  pub rows_first : rows_at a w (suc n) s ≡ row_at a w s ∷ rows_at (a + w) w n s
  unfolding rows_at rows_of part
  rows_first = rw drop-drop

  -- the rows, and one more
  pub rows_more : rows_at a w (n + 1) s ≡ rows_at a w n s ++ (row_at (a + n * w) w s ∷ [])
  rows_more = rows_then 1 ∙ (unfold rows_at rows_of part in refl)

-- where there is a row, the first one and those behind it
pub rows_head : (a w n : ℕ) (s : List ℤ) → 0 < n → rows_at a w n s ≡ row_at a w s ∷ rows_at (a + w) w (n - 1) s
rows_head a w n s h = ap (λ (k : ℕ). rows_at a w k s) (omega arith) ∙ rows_first a w (n - 1) s

-- how many numbers they have
pub rows_size : (w n : ℕ) → 0 < n → w + (n - 1) * w ≡ n * w
rows_size w n h = let e : suc (n - 1) ≡ n = omega arith in omega (arith, suc-mul (n - 1) w, ap (λ (k : ℕ). k * w) e)

module _ {a w n : ℕ} {s : List ℤ} (r : HasRows a w n s) (h : 0 < n) where
  -- the first one can be compared
  pub has_first : HasRow a w s
  has_first = record { room = omega (arith, r.room, rows_size w n h); low = each_head (rw (rows_head a w n s h) at r.low) }

  -- those behind it can be compared
  pub has_rest : HasRows (a + w) w (n - 1) s
  has_rest = record { room = omega (arith, r.room, rows_size w n h); low = each_tail (rw (rows_head a w n s h) at r.low) }

-- no rows
pub rows_none : (a w : ℕ) (s : List ℤ) → rows_at a w 0 s ≡ []
unfolding rows_at rows_of
rows_none a w s = refl

module _ (a w p n : ℕ) (s : List ℤ) (h : p ≤ n) where
  -- the rows up to row p, and those from it on
  rows_both : rows_at a w n s ≡ rows_at a w p s ++ rows_at (a + p * w) w (n - p) s
  rows_both = ap (λ (k : ℕ). rows_at a w k s) (omega arith) ∙ rows_then a w p s (n - p)

  -- the first p of n rows
  pub rows_take : take p (rows_at a w n s) ≡ rows_at a w p s
  rows_take = rw rows_both (take_at (rows_at a w p s) (rows_at (a + p * w) w (n - p) s) p (length_rows a w p s))

  -- the n rows but for the first p
  pub rows_drop : drop p (rows_at a w n s) ≡ rows_at (a + p * w) w (n - p) s
  rows_drop = rw rows_both (drop_at (rows_at a w p s) (rows_at (a + p * w) w (n - p) s) p (length_rows a w p s))

-- ---- rows that are written

-- a row that was written is the row that was read
pub row_put : (a b w : ℕ) (s t : List ℤ) → a ≤ length s → b + w ≤ length t → row_at a w (put a (part b w t) s) ≡ row_at b w t
row_put a b w s t h l =
    let long : length (part b w t) ≡ w = length_part b w t l in
    rw (← view_part a w (put a (part b w t) s), ← view_part b w t) (ap view (rw long at (part_put_all a (part b w t) s h)))

-- rows that were written are the rows that were read
pub rows_put : (a b w n : ℕ) (s t : List ℤ) → a ≤ length s → b + n * w ≤ length t → rows_at a w n (put a (part b (n * w) t) s) ≡ rows_at b w n t
rows_put a b w n s t h l =
    let long : length (part b (n * w) t) ≡ n * w = length_part b (n * w) t l in
    rows_part a w n (put a (part b (n * w) t) s)
    ∙ ap (λ (u : List ℤ). rows_of w n (view u)) (rw long at (part_put_all a (part b (n * w) t) s h))
    ∙ sym (rows_part b w n t)
