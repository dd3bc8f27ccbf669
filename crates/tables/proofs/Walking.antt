-- Two tables that increase, walked together into a third one: what is left of each, and what is made so far. Assumes nothing.
use mathlib.Core.Path.{◌≡◌, sym, ◌∙◌}
use mathlib.Core.List.{List, [], ◌∷◌, ◌++◌, append_assoc, append-nil}
use mathlib.Core.Logic.{◌⊎◌, inl, inr, ⊎_elim}
use Prim.Native.Nat.{ℕ, ◌+◌, ◌*◌, ◌-◌, ◌<◌, ◌≤◌}
use native.Mathlib.Nat.{mul-le-mul_right}
use native.Mathlib.Omega.{arith}
use lib.IntN.{ℤ, pos}
use lib.ListN.{length, get_or, set}
use Rattle.rules.specs.Buffers.{part, put}
use Rattle.rules.specs.RowsInOrder.{Increasing}
use Rattle.rules.proofs.Buffers.{length_part}
use Rattle.rules.proofs.Sets.{tail_increasing}
use Rattle.cells.specs.View.{view}
use Rattle.tables.specs.Rows.{row_at, rows_at, HasRow, HasRows}
use Rattle.tables.specs.Tables.{table_at, room_end, Only, Disjoint, Ready, PairAsked, AppendAsked}
use Rattle.tables.proofs.Rows.{row_ends, row_put, rows_none, rows_head, rows_size, rows_more, has_first, has_rest}
use Rattle.tables.proofs.Only.{only_same, only_then, only_put, only_set, only_wider, rows_outside, has_rows_outside}
use Rattle.tables.proofs.Tables.{table_rows, fits_rows, count_stored}

-- ---- what is left

-- of the table at x the n rows from p on are left
pub record Left (x w p n : ℕ) (t : List ℤ) : Type 0 where
  pub after : x < p
  pub within : p + n * w ≤ room_end x w
  pub few : n ≤ 128
  pub rows : HasRows p w n t
  pub increasing : Increasing (rows_at p w n t)

-- all of it
left_all : {x w n : ℕ} {s : List ℤ} → Ready x w s → n ≡ get_or (view s) x 0 → Left x w (x + 1) n s
left_all {x} {w} {n} {s} r e = record {
  after = omega arith;
  within = let small : n * w ≤ 128 * w = mul-le-mul_right w (rw e r.fits.few) in omega arith;
  few = rw e r.fits.few;
  rows = fits_rows r.fits e;
  increasing = rw (← table_rows x w n s e) r.increasing;
}

-- all but the first row
pub left_rest : {x w p n : ℕ} {t : List ℤ} → Left x w p n t → 0 < n → Left x w (p + w) (n - 1) t
left_rest {w} {p} {n} {t} l h = record {
  after = omega (arith, l.after);
  within = omega (arith, l.within, rows_size w n h);
  few = omega (arith, l.few);
  rows = has_rest l.rows h;
  increasing = tail_increasing (rw (rows_head p w n t h) at l.increasing);
}

-- what is left lies outside a room apart
outside : {x a e w p n : ℕ} {t : List ℤ} → Left x w p n t → (room_end x w ≤ a) ⊎ (e ≤ x) → (p + n * w ≤ a) ⊎ (e ≤ p)
outside l d = ⊎_elim (λ h. inl (omega (arith, l.within))) (λ h. inr (omega (arith, l.after))) d

module _ {x a e w p n : ℕ} {t u : List ℤ} (l : Left x w p n t) (o : Only a e t u) (d : (room_end x w ≤ a) ⊎ (e ≤ x)) where
  -- it is as it was
  left_same : rows_at p w n u ≡ rows_at p w n t
  left_same = rows_outside o p w n (outside l d)

  -- it is left still
  left_outside : Left x w p n u
  left_outside = record {
    after = l.after;
    within = l.within;
    few = l.few;
    rows = has_rows_outside o l.rows (outside l d);
    increasing = rw left_same l.increasing;
  }

-- the row at p can be moved behind the k rows of the table that is made
pub record Movable (to w p k : ℕ) (t : List ℤ) : Type 0 where
  pub narrow : w ≤ 5
  pub ends : p + w ≤ length t
  pub room : to + 1 + k * w + w ≤ length t
  pub apart : (p + w ≤ to + 1 + k * w) ⊎ (to + 1 + k * w + w ≤ p)

-- a row that is left can be moved while there is room
movable : {x to w p n k : ℕ} {t : List ℤ} → Left x w p n t → 0 < n → k < 128 → w ≤ 5 → room_end to w ≤ length t → Disjoint x to w → Movable to w p k t
movable {x} {to} {w} {p} {n} {k} {t} l h few narrow room d =
    let first : w ≤ n * w = omega (arith, rows_size w n h) in
    let last : k * w + w ≤ 128 * w = row_ends w few in
    record {
      narrow = narrow;
      ends = omega (arith, l.rows.room);
      room = omega arith;
      apart = ⊎_elim (λ e. inl (omega (arith, l.within))) (λ e. inr (omega (arith, l.after))) d;
    }

-- ---- the walk

-- two tables that increase, of widths w and v, and room for a third one of width w
pub record Pair (x y to w v : ℕ) (s : List ℤ) : Type 0 where
  pub narrow : w ≤ 5
  pub first : Ready x w s
  pub second : Ready y v s
  pub target : room_end to w ≤ length s
  pub apart_first : Disjoint x to w
  pub apart_second : (room_end y v ≤ to) ⊎ (room_end to w ≤ y)

-- k rows are made, and those that f makes of what is left follow
pub record Walk (f : List (List ℕ) → List (List ℕ) → List (List ℕ)) (x y to w v p n q m k : ℕ) (s t : List ℤ) : Type 0 where
  pub asked : Pair x y to w v s
  pub first : Left x w p n t
  pub second : Left y v q m t
  pub few : k ≤ 128
  pub only : Only to (room_end to w) s t
  pub rows : rows_at (to + 1) w k t ++ f (rows_at p w n t) (rows_at q v m t) ≡ f (table_at x w s) (table_at y v s)

-- nothing is made, and all is left
pub begin : (f : List (List ℕ) → List (List ℕ) → List (List ℕ)) {x y to w v n m : ℕ} {s : List ℤ} → Pair x y to w v s →
    n ≡ get_or (view s) x 0 → m ≡ get_or (view s) y 0 → Walk f x y to w v (x + 1) n (y + 1) m 0 s s
begin f {x} {y} {to} {w} {v} {n} {m} {s} a e d = record {
  asked = a;
  first = left_all a.first e;
  second = left_all a.second d;
  few = omega arith;
  only = only_same to (room_end to w) s;
  rows = rw (rows_none, table_rows x w n s e, table_rows y v m s d);
}

-- of one width
pub start : (f : List (List ℕ) → List (List ℕ) → List (List ℕ)) {x y to w n m : ℕ} {s : List ℤ} → PairAsked x y to w s →
    n ≡ get_or (view s) x 0 → m ≡ get_or (view s) y 0 → Walk f x y to w w (x + 1) n (y + 1) m 0 s s
start f a e d =
    begin f (record { narrow = a.narrow; first = a.first; second = a.second; target = a.target; apart_first = a.apart_first; apart_second = a.apart_second }) e d

module _ {f : List (List ℕ) → List (List ℕ) → List (List ℕ)} {x y to w v p n q m k : ℕ} {s t : List ℤ} (g : Walk f x y to w v p n q m k s t) where
  -- the table to be made has its room
  fits : room_end to w ≤ length t
  fits = rw g.only.size g.asked.target

  -- the next row of each can be compared, and moved while there is room
  module _ (some : 0 < n) where
    pub first_row : HasRow p w t
    first_row = has_first g.first.rows some

    pub first_moves : k < 128 → Movable to w p k t
    first_moves few = movable g.first some few g.asked.narrow fits g.asked.apart_first

  module _ (some : m ≡ 0 → ⊥) where
    more : 0 < m
    more = omega arith

    pub second_row : HasRow q v t
    second_row = has_first g.second.rows more

  -- what is left of the first can follow
  pub first_follows : AppendAsked to k p n w t
  first_follows = record { made = g.few; left = g.first.few; source = g.first.rows.room; target = fits; apart = outside g.first g.asked.apart_first }

  -- a row that makes nothing is passed
  pub pass : {p' n' q' m' : ℕ} → Left x w p' n' t → Left y v q' m' t →
      f (rows_at p w n t) (rows_at q v m t) ≡ f (rows_at p' w n' t) (rows_at q' v m' t) → Walk f x y to w v p' n' q' m' k s t
  pass a b e = record {
    asked = g.asked;
    first = a;
    second = b;
    few = g.few;
    only = g.only;
    rows = rw e at g.rows;
  }

  -- a row is moved behind those that are made
  pub move : {c p' n' q' m' : ℕ} {u : List ℤ} → Movable to w c k t → k < 128 → u ≡ put (to + 1 + k * w) (part c w t) t →
      Left x w p' n' t → Left y v q' m' t →
      f (rows_at p w n t) (rows_at q v m t) ≡ row_at c w t ∷ f (rows_at p' w n' t) (rows_at q' v m' t) → Walk f x y to w v p' n' q' m' (k + 1) s u
  move {c} {p'} {n'} {q'} {m'} {u} z h moved a b e =
      let wide : length (part c w t) ≡ w = length_part c w t z.ends in
      let written : Only (to + 1 + k * w) (to + 1 + k * w + length (part c w t)) t u =
      rw moved (only_put (to + 1 + k * w) (part c w t) t (omega (arith, z.room))) in
      let last : k * w + w ≤ 128 * w = row_ends w h in
      let only : Only to (room_end to w) t u = only_wider written to (room_end to w) (omega arith) (omega arith) in
      let here : row_at (to + 1 + k * w) w u ≡ row_at c w t = rw moved (row_put (to + 1 + k * w) c w t t (omega (arith, z.room)) z.ends) in
      let before : rows_at (to + 1) w k u ≡ rows_at (to + 1) w k t = rows_outside written (to + 1) w k (inl (omega arith)) in
      record {
        asked = g.asked;
        first = left_outside a only g.asked.apart_first;
        second = left_outside b only g.asked.apart_second;
        few = omega arith;
        only = only_then g.only only;
        rows =
            rw (rows_more (to + 1) w k u, before, here, left_same a only g.asked.apart_first, left_same b only g.asked.apart_second, append_assoc)
            (rw e at g.rows);
      }

  -- the count is stored
  pub counted : {u : List ℤ} → u ≡ set t to (pos k) → f (rows_at p w n t) (rows_at q v m t) ≡ [] →
      (table_at to w u ≡ f (table_at x w s) (table_at y v s)) × Only to (room_end to w) s u
  counted {u} stored e = (
    rw (stored, count_stored to w k t (omega (arith, fits))) (sym (append-nil (rows_at (to + 1) w k t)) ∙ (rw e at g.rows)),
    only_then g.only (rw stored (only_wider (only_set to (pos k) t) to (room_end to w) (omega arith) (omega arith))),
  )

-- of one width, the next row of the second can be moved, and what is left of it can follow
module _ {f : List (List ℕ) → List (List ℕ) → List (List ℕ)} {x y to w p n q m k : ℕ} {s t : List ℤ} (g : Walk f x y to w w p n q m k s t) where
  pub second_moves : (m ≡ 0 → ⊥) → k < 128 → Movable to w q k t
  second_moves some few = movable g.second (omega arith) few g.asked.narrow (fits g) g.asked.apart_second

  pub second_follows : AppendAsked to k q m w t
  second_follows = record { made = g.few; left = g.second.few; source = g.second.rows.room; target = fits g; apart = outside g.second g.asked.apart_second }
