-- `pick_sorted`, `cut_sorted` and `pick_as_they_come`: what is made of the first i rows is the table, in one arrangement or another.
-- Assumes nothing.
use mathlib.Core.Path.{◌≡◌, refl, sym, ap, ◌∙◌, subst}
use mathlib.Core.Bool.{Bool}
use mathlib.Core.List.Memᴰ
use mathlib.Core.List.{List, [], ◌∷◌, ◌++◌, map}
use Prim.Native.Nat.{ℕ, ◌+◌, ◌*◌, ◌<◌, ◌≤◌}
use native.Mathlib.Numerals.{add-one}
use native.Mathlib.Omega.{arith}
use borrow.Author.Tests.{le-leb}
use lib.IntN.{ℤ, pos}
use lib.ListN.{length, get_or, set, take, drop, length-map, take-append-drop, drop_of_length-le}
use lib.Seq.{take-suc, take_all, length-take-le}
use Rattle.rules.specs.declared.Entries.{Entries}
use Rattle.rules.specs.Limits.{entry_limit}
use Rattle.rules.specs.RowsInOrder.{insert, sorted, Each}
use Rattle.rules.proofs.Ranges.{map_at}
use Rattle.rules.proofs.Sets.{each_left}
use Rattle.rules.proofs.Sorting.{sorted_increasing, sorted_each, sorted_length, insert_length_most}
use Rattle.rules.proofs.Merging.{sorted_snoc}
use Rattle.cells.specs.View.{Low}
use Rattle.tables.specs.Rows.{row_at, rows_at, HasRow}
use Rattle.tables.specs.Tables.{table_at, room_end, Only, Ready, CanInsert, Inserted, Put}
use Rattle.tables.proofs.Rows.{length_rows, row_of, has_row}
use Rattle.tables.proofs.Only.{only_same, only_then, only_set, only_wider}
use Rattle.tables.proofs.Tables.{table_length}
use Rattle.tables.proofs.Made.{made_ready, emptied}
use Rattle.moving.specs.Sections.{TableMade}
use Rattle.moving.specs.Picking.{RowAsked, PickAsked}

-- what is made of each of the rows
abbrev pub changed_rows : (List ℕ → List ℕ) → Entries → ℕ → List ℤ → List (List ℕ)
changed_rows f rows width s = map f (rows_at rows.first width rows.count s)

-- what is made of the first i of them, in one arrangement or another, is the table
pub record Filling (arranged : List (List ℕ) → List (List ℕ)) (f : List ℕ → List ℕ) (rows : Entries) (width w : ℕ) (s : List ℤ) (at i : ℕ) (t u : List ℤ) : Type 0 where
  pub asked : PickAsked rows width w s at t
  pub keeps_low : (row : List ℕ) → Low row → Low (f row)
  pub upto : i ≤ rows.count
  pub only : Only at (room_end at w) t u
  pub table : table_at at w u ≡ arranged (take i (changed_rows f rows width s))

-- ---- none yet

module _ {rows : Entries} {width w : ℕ} {s : List ℤ} {at : ℕ} {t u : List ℤ}
    (q : PickAsked rows width w s at t) (stored : u ≡ set t at (pos 0)) where
  begun : Only at (room_end at w) t u
  begun = rw stored (only_wider (only_set at (pos 0) t) at (room_end at w) (omega arith) (omega arith))

  pub start_filling : {arranged : List (List ℕ) → List (List ℕ)} {f : List ℕ → List ℕ} → ((row : List ℕ) → Low row → Low (f row)) → arranged [] ≡ [] →
      Filling arranged f rows width w s at 0 u u
  start_filling low e = record {
    asked = record { has = q.has; few = q.few; narrow = q.narrow; room = rw begun.size q.room };
    keeps_low = low;
    upto = omega arith;
    only = only_same at (room_end at w) u;
    table = rw (stored, emptied at w t q.room) (sym e);
  }

  -- all of them
  pub filled : {arranged : List (List ℕ) → List (List ℕ)} {f : List ℕ → List ℕ} {i : ℕ} {v : List ℤ} → ((l : List (List ℕ)) → length (arranged l) ≤ length l) →
      Filling arranged f rows width w s at i u v → rows.count ≤ i → TableMade at w (arranged (changed_rows f rows width s)) t v
  filled {arranged} {f} {i} few g h =
      let all = changed_rows f rows width s in
      let count : length all ≡ rows.count = rw length-map (length_rows rows.first width rows.count s) in
      record {
        table = record {
          rows_are = g.table ∙ ap arranged (take_all i all (omega arith));
          few = omega (arith, few all, q.few);
        };
        only = only_then begun g.only;
      }

-- ---- one more

module _ {arranged : List (List ℕ) → List (List ℕ)} {f : List ℕ → List ℕ} {rows : Entries} {width w : ℕ} {s : List ℤ} {at i : ℕ} {t u : List ℤ}
    (g : Filling arranged f rows width w s at i t u) where
  abbrev all : List (List ℕ)
  all = changed_rows f rows width s

  count : length all ≡ rows.count
  count = rw length-map (length_rows rows.first width rows.count s)

  sofar : length (take i all) ≡ i
  sofar = length-take-le i all (omega (arith, g.upto, count))

  all_low : Each Low all
  all_low r m =
      let from = Memᴰ.of_map f (rows_at rows.first width rows.count s) m in
      subst Low from.2 (g.keeps_low from.0 (g.asked.has.low from.0 from.1))

  module _ (h : i < rows.count) where
    -- the row lies in the slice
    pub row_there : HasRow (rows.first + i * width) width s
    row_there = has_row rows.first width rows.count s g.asked.has i h

    pub row_ended : rows.first + i * width + width ≤ length s
    row_ended = row_there.room

    pub ask_row_lem : RowAsked (rows.first + i * width) width 0 w s
    ask_row_lem = record { room = row_ended; small = omega arith; narrow = g.asked.narrow }

    -- a row by value can be compared
    pub row_made : (row : List ℤ) → row_at 0 w row ≡ f (row_at (rows.first + i * width) width s) → 5 ≤ length row → HasRow 0 w row
    row_made row e long = record { room = omega (arith, g.asked.narrow); low = rw e (g.keeps_low (row_at (rows.first + i * width) width s) row_there.low) }

    module _ {x : List ℕ} (e : x ≡ f (row_at (rows.first + i * width) width s)) where
      -- it is the next one
      next : x ≡ get_or all i []
      next =
          e ∙ ap f (sym (row_of rows.first width rows.count s i h))
          ∙ sym (map_at f (rows_at rows.first width rows.count s) i [] [] (rw length_rows h))

      one_more : take (i + 1) all ≡ take i all ++ (x ∷ [])
      one_more = rw (add-one i, next) (take-suc all i [] (omega (arith, count)))

      -- it is in the table
      took : {v : List ℤ} → Only at (room_end at w) u v → table_at at w v ≡ arranged (take i all ++ (x ∷ [])) → Filling arranged f rows width w s at (i + 1) t v
      took o is = record {
        asked = g.asked;
        keeps_low = g.keeps_low;
        upto = omega arith;
        only = only_then g.only o;
        table = rw one_more is;
      }

-- ---- in order

module _ {f : List ℕ → List ℕ} {rows : Entries} {width w : ℕ} {s : List ℤ} {at i : ℕ} {t u : List ℤ} (g : Filling sorted f rows width w s at i t u) where
  pub can_take : Ready at w u
  can_take =
      let some = take i (all g) in
      let low : Each Low some = each_left some (drop i (all g)) (rw take-append-drop (all_low g)) in
      made_ready (rw g.only.size g.asked.room) g.table (omega (arith, sorted_length some, sofar g, g.upto, g.asked.few)) (sorted_each low) (sorted_increasing some)

  pub turn_sorted : i < rows.count → {x : List ℕ} → x ≡ f (row_at (rows.first + i * width) width s) → {v : List ℤ} {r : Bool} → Put at w x u v r →
      Filling sorted f rows width w s at (i + 1) t v
  turn_sorted h {x} e p =
      let some = take i (all g) in
      let is : insert x (table_at at w u) ≡ sorted (some ++ (x ∷ [])) = rw g.table (sym (sorted_snoc some x)) in
      let few : length (insert x (table_at at w u)) ≤ entry_limit =
      rw g.table (omega (arith, insert_length_most x (sorted some), sorted_length some, sofar g, g.asked.few)) in
      took g h e p.only (p.table (p.verdict ∙ le-leb (length (insert x (table_at at w u))) entry_limit few) ∙ is)

-- no rows, sorted, are none
pub sorted_none : sorted [] ≡ []
unfolding sorted
sorted_none = refl

-- ---- as they come

-- rows as they come
abbrev pub as_they_come : List (List ℕ) → List (List ℕ)
as_they_come l = l

module _ {f : List ℕ → List ℕ} {rows : Entries} {width w : ℕ} {s : List ℤ} {at i : ℕ} {t u : List ℤ} (g : Filling as_they_come f rows width w s at i t u) (h : i < rows.count) where
  pub can_add : CanInsert at w i i u
  can_add = record {
    room = rw g.only.size g.asked.room;
    count = sym (sofar g) ∙ ap length (sym g.table) ∙ table_length at w u;
    few = omega (arith, g.asked.few);
    upto = omega arith;
  }

  pub turn_added : {x : List ℕ} → x ≡ f (row_at (rows.first + i * width) width s) → {v : List ℤ} → Inserted at w i x u v → Filling as_they_come f rows width w s at (i + 1) t v
  turn_added e p =
      let some = take i (all g) in
      let none_left : drop i some ≡ [] = drop_of_length-le some {i = i} (omega (arith, sofar g)) in
      took g h e p.only (p.table ∙ rw (g.table, take_all i some (omega (arith, sofar g)), none_left))

pub same_many : (l : List (List ℕ)) → length (as_they_come l) ≤ length l
same_many l = omega arith
