-- Numbers that are natural and small: parts of them, rows of them, and what they are as naturals. Assumes nothing.
use mathlib.Core.Path.{◌≡◌, refl, sym, ap, ◌∙◌}
use mathlib.Core.List.{List, [], ◌∷◌}
use Prim.Native.Nat.{ℕ, zero, suc, min, ◌+◌, ◌*◌, ◌^◌, ◌<◌, ◌≤◌}
use native.Mathlib.Nat.{suc-mul, min-eq_left}
use native.Mathlib.Omega.{arith}
use lib.IntN.{ℤ, pos, negsuc}
use lib.ListN.{length, get_or, take, drop, replicate, length-take, get_or-eq_default}
use lib.Seq.{get_or-take, get_or-drop}
use Rattle.rules.specs.declared.Entries.{Entries}
use Rattle.rules.specs.Buffers.{part}
use Rattle.rules.specs.RowsInOrder.{Each}
use Rattle.rules.specs.Record.{natural, naturals, rows_of, entries_of, entries_in}
use Rattle.rules.proofs.RowsRead.{naturals_take}
use Rattle.rules.proofs.Order.{ComparedNumbers, under, even, above, compare_numbers}
use Rattle.rules.proofs.RowsRead.{naturals_take, rows_cut}
use Rattle.rules.proofs.Sets.{each_nil, each_cons}
use Rattle.cells.specs.View.{code, view, Low}
use Rattle.cells.proofs.View.{view_part}
use Rattle.tables.specs.Rows.{rows_at, HasRow, HasRows}
use Rattle.tables.proofs.Rows.{row_low}

-- ---- parts

-- a list whose first n numbers are low has a low front
pub low_front : (n : ℕ) (l : List ℕ) → ((k : ℕ) → k < n → get_or l k 0 < 2 ^ 31) → Low (take n l)
low_front n l f k = go (compare_numbers k n)
  where
    past : n ≤ k → get_or (take n l) k 0 < 2 ^ 31
    past h = let short : length (take n l) ≤ k = simp length-take (omega arith) in rw (get_or-eq_default (take n l) 0 short) (omega arith)

    go : ComparedNumbers k n → get_or (take n l) k 0 < 2 ^ 31
    go (under h) = rw (get_or-take n l k 0 h) (f k h)
    go (even h) = past (omega arith)
    go (above h) = past (omega arith)

-- a part of a low front is low
pub low_part : (a m n : ℕ) (l : List ℕ) → a + m ≤ n → Low (take n l) → Low (part a m l)
unfolding part
low_part a m n l h f =
    low_front m (drop a l)
    (λ k i. let inside : a + k < n = omega arith in rw (get_or-drop a l k 0, ← get_or-take n l (a + k) 0 inside) (f (a + k)))

-- ---- rows

-- the front of a row that lies in the slice
pub has_front : {a w n : ℕ} {s : List ℤ} → HasRow a w s → n ≤ w → HasRow a n s
unfolding part
has_front {a} {w} {n} {s} r h =
    record { room = omega (arith, r.room); low = low_front n (drop a (view s)) (λ k i. rw get_or-drop (row_low a w k s r (omega arith))) }

-- rows of low numbers are low
rows_low : (w n : ℕ) (l : List ℕ) → Low (take (n * w) l) → Each Low (rows_of w n l)
unfolding rows_of part
rows_low w zero l f = each_nil Low
rows_low w (suc n) l f =
    let size : suc n * w ≡ w + n * w = omega (arith, suc-mul n w) in
    each_cons (low_part 0 w (suc n * w) l (omega arith) f) (rows_low w n (drop w l) (low_part w (n * w) (suc n * w) l (omega arith) f))

-- n rows of a low front of the slice lie in it
pub has_rows : (a w n size : ℕ) (s : List ℤ) → a + n * w ≤ size → size ≤ length s → Low (take size (view s)) → HasRows a w n s
unfolding rows_at
has_rows a w n size s h l f =
    record { room = omega arith; low = rows_low w n (drop a (view s)) (unfold part in low_part a (n * w) size (view s) h f) }

-- ---- as naturals

-- low numbers are their codes
natural_code : (z : ℤ) → code z < 2 ^ 31 → natural z ≡ code z
unfolding natural
natural_code (pos n) h = refl
natural_code (negsuc n) h = absurd (omega arith)

pub naturals_view : (l : List ℤ) → Low (view l) → naturals l ≡ view l
unfolding view
naturals_view [] f = refl
naturals_view (z ∷ l) f = rw (natural_code z (f 0)) (ap (λ (t : List ℕ). code z ∷ t) (naturals_view l (λ k. f (suc k))))

-- a part of a low front of the slice
pub naturals_part : (a m size : ℕ) (s : List ℤ) → a + m ≤ size → Low (take size (view s)) → naturals (part a m s) ≡ part a m (view s)
naturals_part a m size s h f = naturals_view (part a m s) (rw (view_part a m s) (low_part a m size (view s) h f)) ∙ view_part a m s

-- ---- entries

-- rows of no numbers
rows_empty : (n : ℕ) (l : List ℕ) → rows_of 0 n l ≡ replicate n []
unfolding rows_of
rows_empty zero l = refl
rows_empty (suc n) l = ap (λ (t : List (List ℕ)). [] ∷ t) (rows_empty n l)

-- a few entries are rows
pub entries_rows : (w n : ℕ) (l : List ℕ) → n ≤ 128 → entries_of w n l ≡ rows_of w n l
unfolding entries_of
entries_rows zero n l h = let e : min n 129 ≡ n = min-eq_left (omega arith) in rw e (sym (rows_empty n l))
entries_rows (suc w) n l h = refl

-- the entries of a section in a low front of the slice are the rows of the view
pub entries_seen : (w size : ℕ) (e : Entries) (s : List ℤ) → e.count ≤ 128 → e.first + e.count * w ≤ size → Low (take size (view s)) →
    entries_in w e s ≡ rows_at e.first w e.count s
unfolding rows_at
entries_seen w size e s k h f =
    let m = e.count * w in
    let same : take m (naturals (drop e.first s)) ≡ take m (drop e.first (view s))
    = naturals_take m (drop e.first s) ∙ (unfold part in naturals_part e.first m size s h f) in
    entries_rows w e.count (naturals (drop e.first s)) k
    ∙ sym (rows_cut w e.count (naturals (drop e.first s))) ∙ ap (rows_of w e.count) same ∙ rows_cut w e.count (drop e.first (view s))
