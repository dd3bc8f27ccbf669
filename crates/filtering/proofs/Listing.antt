-- `keep_listed`: the entries and the rows are walked, and the entries whose index is a row are moved. Assumes nothing.
use mathlib.Core.Path.{◌≡◌, refl, sym, ap, ◌∙◌}
use mathlib.Core.Bool.{Bool, true, false}
use mathlib.Core.List.Memᴰ
use mathlib.Core.List.{List, [], ◌∷◌}
use mathlib.Core.Logic.{◌⊎◌, inl, inr, ⊎_elim}
use Prim.Native.Nat.{ℕ, zero, suc, ◌+◌, ◌*◌, ◌-◌, ◌<◌, ◌≤◌}
use native.Mathlib.Omega.{arith}
use borrow.Author.Tests.{ne_eqb}
use lib.Dec.{ltb}
use lib.IntN.{ℤ, pos}
use lib.ListN.{length, get_or, set, take, length-append}
use Rattle.std.specs.declared.cmp.Ordering.{Ordering}
use Rattle.std.specs.declared.cmp.Ordering.TheVariants.{Less, Equal, Greater}
use Rattle.rules.specs.Buffers.{part, put}
use Rattle.rules.specs.Lists.{any, keep}
use Rattle.rules.specs.RowsInOrder.{by_first, cmp_rows, among, Each, Increasing}
use Rattle.rules.specs.declared.Kind.TheVariants.{Sparse}
use Rattle.rules.specs.Layout.{kind_of}
use Rattle.rules.specs.Dependencies.{index_of, held, filter_deps}
use Rattle.rules.proofs.Order.{cmp_equal, cmp_greater_flip, cmp_less_trans, less_not_equal, less_not_greater, greater_not_equal, less_not_same, Compared, less, equal, greater, compare}
use Rattle.rules.proofs.Sets.{in_among, head_least, next_increasing, not_in_among, each_cons}
use Rattle.rules.proofs.Before.{keep_none}
use Rattle.rules.proofs.KindRead.{sparse_not_dense, sparse_not_diagonal}
use Rattle.rules.proofs.Keeping.{keep_pass, keep_fail, keep_length, keep_only, keep_increasing}
use Rattle.cells.specs.View.{view}
use Rattle.tables.specs.Rows.{row_at, rows_at, HasRow}
use Rattle.tables.specs.Tables.{table_at, room_end, Only}
use Rattle.tables.proofs.Rows.{front_row, length_rows, rows_none, rows_head}
use Rattle.tables.proofs.Tables.{table_length, table_wide}
use Rattle.tables.proofs.Made.{made_ready}
use Rattle.tables.proofs.CommonWalk.{keep_same, among_below}
use Rattle.tables.proofs.Walking.{left_rest, Movable, Walk, begin, first_row, second_row, first_moves, pass, move, counted}
use Rattle.records.proofs.Naturals.{has_front}
use Rattle.parts.specs.Parts.{kind_at, dense_at, rank_at, width_at, layout_at}
use Rattle.filtering.specs.Filtering.{filter_at, KeepAsked, Kept}
use Rattle.filtering.proofs.Keeping.{narrow, room, entries, apart, entries_apart}

-- ---- lists

-- the front of a lesser row is not greater
front_upto : (n : ℕ) (p q : List ℕ) → cmp_rows p q ≡ Less → cmp_rows (take n p) (take n q) ≡ Greater → ⊥
unfolding cmp_rows
front_upto zero p q e f = greater_not_equal f refl
front_upto (suc n) [] [] e f = less_not_equal e refl
front_upto (suc n) [] (y ∷ q) e f = less_not_greater refl f
front_upto (suc n) (x ∷ p) [] e f = less_not_greater e refl
front_upto (suc n) (x ∷ p) (y ∷ q) e f = go (ltb x y) (ltb y x) (front_upto n p q) e f
  where
    go : (below above : Bool) → (cmp_rows p q ≡ Less → cmp_rows (take n p) (take n q) ≡ Greater → ⊥) →
        by_first below above (cmp_rows p q) ≡ Less → by_first below above (cmp_rows (take n p) (take n q)) ≡ Greater → ⊥
    go true above rest e f = less_not_greater refl f
    go false true rest e f = less_not_greater e refl
    go false false rest e f = rest e f

-- what is below the front of a row is below the front of a greater one
front_on : (n : ℕ) (y p q : List ℕ) → cmp_rows y (take n p) ≡ Less → cmp_rows p q ≡ Less → cmp_rows y (take n q) ≡ Less
front_on n y p q e f = go (compare (take n p) (take n q))
  where
    go : Compared (take n p) (take n q) → cmp_rows y (take n q) ≡ Less
    go (less l) = cmp_less_trans y (take n p) (take n q) e l
    go (equal l) = rw (← cmp_equal l) e
    go (greater l) = absurd (front_upto n p q f l)

-- the entries whose first r numbers are one of the rows
abbrev pub fronts : ℕ → List (List ℕ) → List (List ℕ) → List (List ℕ)
fronts r deps rows = keep (λ d. among (take r d) rows) deps

-- none is one of no rows
fronts_none : (r : ℕ) (deps : List (List ℕ)) → fronts r deps [] ≡ []
unfolding any
fronts_none r deps = keep_none (λ d. among (take r d) []) deps (λ d m. refl)

module _ (r : ℕ) {d y : List ℕ} {a b : List (List ℕ)} (i : Increasing (d ∷ a)) (j : Increasing (y ∷ b)) where
  -- the first entry comes before all rows
  fronts_less : cmp_rows (take r d) y ≡ Less → fronts r (d ∷ a) (y ∷ b) ≡ fronts r a (y ∷ b)
  fronts_less e =
      keep_fail (λ x. among (take r x) (y ∷ b)) a (not_in_among (take r d) (y ∷ b) (λ m. less_not_same (take r d) (head_least (next_increasing e j) m)))

  -- the first row is its index
  fronts_equal : cmp_rows (take r d) y ≡ Equal → fronts r (d ∷ a) (y ∷ b) ≡ d ∷ fronts r a (y ∷ b)
  fronts_equal e = keep_pass (λ x. among (take r x) (y ∷ b)) a (in_among (Memᴰ.head (cmp_equal e)))

  -- the first row comes before all entries
  fronts_greater : cmp_rows (take r d) y ≡ Greater → fronts r (d ∷ a) (y ∷ b) ≡ fronts r (d ∷ a) b
  fronts_greater e =
      let first : cmp_rows y (take r d) ≡ Less = cmp_greater_flip (take r d) y e in
      let each : Each (λ x. cmp_rows y (take r x) ≡ Less) (d ∷ a) = each_cons first (λ x m. front_on r y d x first (head_least i m)) in
      keep_same (λ x. among (take r x) (y ∷ b)) (λ x. among (take r x) b) (d ∷ a) (λ x m. among_below y (take r x) b (each x m))

-- ---- the walk

-- of the entries, r + 1 numbers wide or more, and the rows
pub record Listing (x y to r w p n q m k : ℕ) (s t : List ℤ) : Type 0 where
  pub upto : r ≤ w
  pub walk : Walk (fronts r) x y to w r p n q m k s t

module _ {x y to r w p n q m k : ℕ} {s t : List ℤ} (g : Listing x y to r w p n q m k s t) where
  module _ (some : 0 < n) (more : 0 < m) where
    -- the next entry and the next row
    pub entry_row : HasRow p w t
    entry_row = first_row g.walk some

    pub listed_row : HasRow q r t
    listed_row = second_row g.walk (λ e. omega arith)

    pub index_row : HasRow p r t
    index_row = has_front entry_row g.upto

    head : rows_at p w n t ≡ row_at p w t ∷ rows_at (p + w) w (n - 1) t
    head = rows_head p w n t some

    twin : rows_at q r m t ≡ row_at q r t ∷ rows_at (q + r) r (m - 1) t
    twin = rows_head q r m t (omega arith)

    module _ {o : Ordering} (e : o ≡ cmp_rows (row_at p r t) (row_at q r t)) where
      test : o ≡ cmp_rows (take r (row_at p w t)) (row_at q r t)
      test = rw (front_row p r w t g.upto) at e

      -- the entry is passed
      pub passed : o ≡ Less → Listing x y to r w (p + w) (n - 1) q m k s t
      passed d = record {
        upto = g.upto;
        walk =
            pass g.walk (left_rest g.walk.first some) g.walk.second
            (rw (head, twin) (fronts_less r (rw head at g.walk.first.increasing) (rw twin at g.walk.second.increasing) (sym test ∙ d)));
      }

      -- the row is passed
      pub behind : o ≡ Greater → Listing x y to r w p n (q + r) (m - 1) k s t
      behind d = record {
        upto = g.upto;
        walk =
            pass g.walk g.walk.first (left_rest g.walk.second (omega arith))
            (rw (head, twin) (fronts_greater r (rw head at g.walk.first.increasing) (rw twin at g.walk.second.increasing) (sym test ∙ d)));
      }

      module _ (d : o ≡ Equal) where
        -- the row is the entry's index
        one : fronts r (rows_at p w n t) (rows_at q r m t) ≡ row_at p w t ∷ fronts r (rows_at (p + w) w (n - 1) t) (rows_at q r m t)
        one = rw (head, twin) (fronts_equal r (rw head at g.walk.first.increasing) (rw twin at g.walk.second.increasing) (sym test ∙ d))

        -- there is room for the entry
        few : k < 128
        few =
            let all : k + length (fronts r (rows_at p w n t) (rows_at q r m t)) ≡ length (fronts r (table_at x w s) (table_at y r s)) =
            rw (length-append, length_rows) at (ap length g.walk.rows) in
            omega (arith, all, ap length one, keep_length (λ d. among (take r d) (table_at y r s)) (table_at x w s), table_length x w s, g.walk.asked.first.fits.few)

        -- it can be moved
        pub entry_moves : Movable to w p k t
        entry_moves = first_moves g.walk some few

        -- it was moved
        pub moved : {u : List ℤ} → u ≡ put (to + 1 + k * w) (part p w t) t → Listing x y to r w (p + w) (n - 1) q m (k + 1) s u
        moved f = record { upto = g.upto; walk = move g.walk entry_moves few f (left_rest g.walk.first some) g.walk.second one }

  -- nothing is left that could be moved
  pub ended : {u : List ℤ} → u ≡ set t to (pos k) → (n ≤ 0) ⊎ (m ≤ 0) → (table_at to w u ≡ fronts r (table_at x w s) (table_at y r s)) × Only to (room_end to w) s u
  ended stored d =
      ⊎_elim
      (λ h. let a : n ≡ 0 = omega arith in counted g.walk stored (rw (a, rows_none p w t) (unfold keep in refl)))
      (λ h.
      let b : m ≡ 0 = omega arith in
      let none : rows_at q r m t ≡ [] = rw b (rows_none q r t) in
      counted g.walk stored (ap (λ (b : List (List ℕ)). fronts r (rows_at p w n t) b) none ∙ fronts_none r (rows_at p w n t)))
      d

-- ---- a layout in a part

module _ {at from to r w : ℕ} {s : List ℤ} (a : KeepAsked at from to s) (plain : (kind_of (kind_at at s) ≡ Sparse) × (dense_at at s ≡ 0)) (r-is : r ≡ rank_at at s) (w-is : w ≡ r + 1) where
  wide : w ≡ rank_at at s + 1
  wide = omega arith

  whole : width_at at s ≡ r
  whole = omega arith

  -- nothing is kept yet
  pub start : {n m : ℕ} → n ≡ get_or (view s) from 0 → m ≡ get_or (view s) (at + 7) 0 → Listing from (at + 7) to r w (from + 1) n (at + 8) m 0 s s
  start {n} {m} e d =
      let first : at + 7 + 1 ≡ at + 8 = omega arith in
      record {
        upto = omega arith;
        walk = rw first at (begin (fronts r) (record {
          narrow = narrow a wide;
          first = entries a wide;
          second = rw whole at a.filters.rows;
          target = room a wide;
          apart_first = entries_apart a wide;
          apart_second = ⊎_elim (λ h. inl (omega (arith, a.filters.rank_most))) (λ h. inr (omega arith)) (apart a wide);
        }) e d);
      }

  -- an entry is held if its index is one of the rows
  listed : fronts r (table_at from w s) (table_at (at + 7) r s) ≡ filter_deps (filter_at at s) (table_at from w s)
  unfolding filter_deps held layout_at
  listed = keep_same (λ d. among (take r d) (table_at (at + 7) r s)) (λ d. held (filter_at at s) (index_of d)) (table_at from w s) (λ d m.
      let long : length d - 1 ≡ r = omega (arith, table_wide (entries a wide).fits d m) in
      rw (ne_eqb _ 0 (sparse_not_dense refl plain.0), ne_eqb _ 1 (sparse_not_diagonal refl plain.0), whole, long))

  -- all is
  pub kept : {u : List ℤ} → (table_at to w u ≡ fronts r (table_at from w s) (table_at (at + 7) r s)) × Only to (room_end to w) s u → Kept at from to s u
  kept c =
      let test : List ℕ → Bool = λ d. among (take r d) (table_at (at + 7) r s) in
      let rows = table_at from w s in
      record {
        table = rw (← wide) (c.0 ∙ listed);
        ready = rw (← wide) (made_ready (rw c.1.size (room a wide)) c.0 (omega (arith, keep_length test rows, table_length from w s, (entries a wide).fits.few))
            (λ x m. (entries a wide).fits.low x (keep_only test rows x m)) (keep_increasing test (entries a wide).increasing));
        only = rw (← wide) c.1;
      }
