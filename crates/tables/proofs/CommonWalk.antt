-- `common_into`: the two tables are walked, and the rows that both have are moved. Assumes nothing.
use mathlib.Core.Path.{◌≡◌, refl, sym, ap, ◌∙◌}
use mathlib.Core.Bool.{Bool, true, false}
use mathlib.Core.List.Memᴰ
use mathlib.Core.List.{List, [], ◌∷◌}
use Prim.Native.Nat.{ℕ, ◌+◌, ◌*◌, ◌-◌, ◌<◌, ◌≤◌}
use native.Mathlib.Omega.{arith}
use lib.IntN.{ℤ, pos}
use lib.ListN.{length, set, length-append}
use Rattle.std.specs.declared.cmp.Ordering.{Ordering}
use Rattle.std.specs.declared.cmp.Ordering.TheVariants.{Less, Equal, Greater}
use Rattle.rules.specs.Buffers.{part, put}
use Rattle.rules.specs.Lists.{any, keep, same}
use Rattle.rules.specs.RowsInOrder.{cmp_rows, among, In, Increasing}
use Rattle.rules.proofs.Order.{cmp_equal, cmp_greater_flip, less_not_same}
use Rattle.rules.proofs.Same.{same_true}
use Rattle.rules.proofs.Sets.{in_among, head_least, next_increasing, not_in_among}
use Rattle.rules.proofs.Before.{keep_none}
use Rattle.rules.proofs.Keeping.{keep_pass, keep_fail, keep_length}
use Rattle.tables.specs.Rows.{row_at, rows_at}
use Rattle.tables.specs.Tables.{table_at, common_rows, CommonRows}
use Rattle.tables.proofs.Rows.{length_rows, rows_none, rows_head}
use Rattle.tables.proofs.Tables.{table_length}
use Rattle.tables.proofs.Walking.{left_rest, Movable, Walk, first_moves, pass, move, counted}

-- ---- lists

-- tests that agree keep the same rows
pub keep_same : (f g : List ℕ → Bool) (t : List (List ℕ)) → ((r : List ℕ) → In r t → f r ≡ g r) → keep f t ≡ keep g t
unfolding keep
keep_same f g [] h = refl
keep_same f g (x ∷ t) h = rw (h x (Memᴰ.head refl), keep_same f g t (λ r m. h r (Memᴰ.tail m)))

-- a row below another is not that one
pub among_below : (y r : List ℕ) (b : List (List ℕ)) → cmp_rows y r ≡ Less → among r (y ∷ b) ≡ among r b
unfolding any
among_below y r b l = go (same r y) refl
  where
    go : (v : Bool) → same r y ≡ v → among r (y ∷ b) ≡ among r b
    go true e = absurd (less_not_same y (rw (same_true e) at l))
    go false e = rw e

-- a row below all of a has no part in what is common
below_all : (y : List ℕ) (a b : List (List ℕ)) → ((r : List ℕ) → In r a → cmp_rows y r ≡ Less) → common_rows a (y ∷ b) ≡ common_rows a b
below_all y a b h = keep_same (λ r. among r (y ∷ b)) (λ r. among r b) a (λ r m. among_below y r b (h r m))

-- nothing is common with no rows
common_none : (a : List (List ℕ)) → common_rows a [] ≡ []
unfolding any
common_none a = keep_none (λ r. among r []) a (λ r m. refl)

module _ {x y : List ℕ} {a b : List (List ℕ)} (i : Increasing (x ∷ a)) (j : Increasing (y ∷ b)) where
  -- a row below all of the second has no part in what is common
  common_less : cmp_rows x y ≡ Less → common_rows (x ∷ a) (y ∷ b) ≡ common_rows a (y ∷ b)
  common_less e = keep_fail (λ r. among r (y ∷ b)) a (not_in_among x (y ∷ b) (λ m. less_not_same x (head_least (next_increasing e j) m)))

  -- nor has a row below all of the first
  common_greater : cmp_rows x y ≡ Greater → common_rows (x ∷ a) (y ∷ b) ≡ common_rows (x ∷ a) b
  common_greater e = below_all y (x ∷ a) b (λ r m. head_least (next_increasing (cmp_greater_flip x y e) i) m)

  -- a row that is the first of both is common
  common_equal : cmp_rows x y ≡ Equal → common_rows (x ∷ a) (y ∷ b) ≡ x ∷ common_rows a b
  common_equal e =
      let d : x ≡ y = cmp_equal e in
      keep_pass (λ r. among r (y ∷ b)) a (in_among (Memᴰ.head d))
      ∙ ap (λ (t : List (List ℕ)). x ∷ t) (below_all y a b (λ r m. rw (← d) (head_least i m)))

-- ---- the walk

module _ {x y to w p n q m k : ℕ} {s t : List ℤ} (g : Walk common_rows x y to w w p n q m k s t) where
  module _ (some : 0 < n) (more : m ≡ 0 → ⊥) where
    -- the next row of each
    head : rows_at p w n t ≡ row_at p w t ∷ rows_at (p + w) w (n - 1) t
    head = rows_head p w n t some

    twin : rows_at q w m t ≡ row_at q w t ∷ rows_at (q + w) w (m - 1) t
    twin = rows_head q w m t (omega arith)

    module _ {o : Ordering} (e : o ≡ cmp_rows (row_at p w t) (row_at q w t)) where
      -- that of the first is passed
      pub less : o ≡ Less → Walk common_rows x y to w w (p + w) (n - 1) q m k s t
      less d =
          pass g (left_rest g.first some) g.second
          (rw (head, twin) (common_less (rw head at g.first.increasing) (rw twin at g.second.increasing) (sym e ∙ d)))

      -- that of the second is passed
      pub greater : o ≡ Greater → Walk common_rows x y to w w p n (q + w) (m - 1) k s t
      greater d =
          pass g g.first (left_rest g.second (omega arith))
          (rw (head, twin) (common_greater (rw head at g.first.increasing) (rw twin at g.second.increasing) (sym e ∙ d)))

      module _ (d : o ≡ Equal) where
        -- they are the same
        both : common_rows (rows_at p w n t) (rows_at q w m t) ≡ row_at p w t ∷ common_rows (rows_at (p + w) w (n - 1) t) (rows_at (q + w) w (m - 1) t)
        both = rw (head, twin) (common_equal (rw head at g.first.increasing) (rw twin at g.second.increasing) (sym e ∙ d))

        -- there is room for it
        few : k < 128
        few =
            let all : k + length (common_rows (rows_at p w n t) (rows_at q w m t)) ≡ length (common_rows (table_at x w s) (table_at y w s)) =
            rw (length-append, length_rows) at (ap length g.rows) in
            omega (arith, all, ap length both, keep_length (λ r. among r (table_at y w s)) (table_at x w s), table_length x w s, g.asked.first.fits.few)

        -- it can be moved
        pub both_moves : Movable to w p k t
        both_moves = first_moves g some few

        -- it was moved
        pub equal : {u : List ℤ} → u ≡ put (to + 1 + k * w) (part p w t) t → Walk common_rows x y to w w (p + w) (n - 1) (q + w) (m - 1) (k + 1) s u
        equal moved = move g both_moves few moved (left_rest g.first some) (left_rest g.second (omega arith)) both

  module _ {u : List ℤ} (stored : u ≡ set t to (pos k)) where
    -- no row of the first is left
    pub first_done : n ≤ 0 → CommonRows x y to w s u
    first_done h =
        let a : n ≡ 0 = omega arith in
        let c = counted g stored (rw (a, rows_none p w t) (unfold keep in refl)) in
        record { table = c.0; only = c.1 }

    -- no row of the second is left
    pub second_done : m ≡ 0 → CommonRows x y to w s u
    second_done h = let c = counted g stored (rw (h, rows_none q w t) (common_none (rows_at p w n t))) in record { table = c.0; only = c.1 }

pub ruleset laws = (less, greater, first_done, second_done)
