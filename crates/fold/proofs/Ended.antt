-- What a folded layout becomes in its part: kind, D and the count of rows stored anew. Assumes nothing.
use Rattle.std.specs.Prelude.{Err, Ok}
use mathlib.Core.Path.{◌≡◌, sym, ap, ◌∙◌}
use mathlib.Core.Bool.{Bool, true, false}
use mathlib.Core.List.{List, []}
use mathlib.Core.Logic.{inl, inr}
use Prim.Native.Nat.{ℕ, ◌+◌, ◌-◌, ◌*◌, ◌^◌, ◌<◌, ◌≤◌}
use native.Mathlib.Nat.{mul-le-mul}
use native.Mathlib.Omega.{arith}
use borrow.Author.Tests.{eq-eqb, ne_eqb, le-leb}
use lib.Dec.{eqb}
use lib.IntN.{ℤ, pos}
use lib.ListN.{length, get_or, set}
use Rattle.rules.specs.declared.Refusal.TheVariants.{MadeUnsound}
use Rattle.rules.specs.Limits.{product_limit}
use Rattle.rules.specs.Lists.{all, product}
use Rattle.rules.specs.Buffers.{part}
use Rattle.rules.specs.Record.{rows_of}
use Rattle.rules.specs.Refusals.{given, number_of}
use Rattle.rules.specs.Layout.{rank, alike, is_sparse, nonzero_product, within_product}
use Rattle.rules.specs.Soundness.{Sound}
use Rattle.rules.specs.CountsAndForms.{to_dense}
use Rattle.rules.specs.Broadcast.{is_diagonal_in_rows, as_diagonal, end_of_broadcast}
use Rattle.cells.specs.View.{view}
use Rattle.tables.specs.Rows.{row_at, rows_at}
use Rattle.tables.specs.Tables.{table_at, Only}
use Rattle.tables.proofs.Rows.{row_number}
use Rattle.tables.proofs.Tables.{table_length}
use Rattle.tables.proofs.Only.{only_then, only_set, only_wider, view_outside, row_outside, table_outside}
use Rattle.axes.specs.Extents.{Extents}
use Rattle.parts.specs.Parts.{kind_at, dense_at, rank_at, width_at, layout_at, Holds}
use Rattle.parts.specs.Answers.{Says}
use Rattle.parts.proofs.Holds.{rank_most, rank_is, dense_most, rows_few, states_few, inputs_few}
use Rattle.fold.specs.Ended.{BareAsked, bare_of, Bared, SparseEnd}
use Rattle.rules.proofs.BroadcastEnds.{diagonal_sound, end_other, end_full, end_scalar, end_stays, end_diagonal}
use Rattle.rules.proofs.Forming.{to_dense_sound}
use Rattle.cells.proofs.View.{stored_number}
use Rattle.parts.proofs.Saying.{says_refused}

-- ---- `bare`

module _ {kind dense : ℕ} {s : List ℤ} (q : BareAsked kind dense s) where
  pub dense_low : dense < 2 ^ 31
  dense_low = omega (arith, q.dense_most, rank_most q.holds)

  module _ {t u v : List ℤ} (a : t ≡ set s 0 (pos kind)) (b : u ≡ set t 1 (pos dense)) (c : v ≡ set u 7 (pos 0)) where
    one : Only 0 1 s t
    one = rw a (only_set 0 (pos kind) s)

    two : Only 1 2 t u
    two = rw b (only_set 1 (pos dense) t)

    three : Only 7 8 u v
    three = rw c (only_set 7 (pos 0) u)

    front : Only 0 2 s u
    front = only_then (only_wider one 0 2 (omega arith) (omega arith)) (only_wider two 0 2 (omega arith) (omega arith))

    both : Only 0 8 s v
    both = only_then (only_wider front 0 8 (omega arith) (omega arith)) (only_wider three 0 8 (omega arith) (omega arith))

    room : 1802 ≤ length s
    room = q.holds.inside

    kind_there : kind_at 0 v ≡ kind
    kind_there = view_outside three 0 (inl (omega arith)) ∙ view_outside two 0 (inl (omega arith)) ∙ rw a (stored_number 0 kind s (omega (arith, room)))

    dense_there : dense_at 0 v ≡ dense
    dense_there = view_outside three 1 (inl (omega arith)) ∙ rw b (stored_number 1 dense t (omega (arith, room, one.size)))

    rank_there : rank_at 0 v ≡ rank_at 0 s
    rank_there = view_outside three 2 (inl (omega arith)) ∙ view_outside front 2 (inr (omega arith))

    shape_there : row_at 3 (rank_at 0 s) v ≡ row_at 3 (rank_at 0 s) s
    shape_there =
        let few = rank_most q.holds in
        row_outside three 3 (rank_at 0 s) (inl (omega arith)) ∙ row_outside front 3 (rank_at 0 s) (inr (omega arith))

    rows_there_lem : (w : ℕ) → table_at 7 w v ≡ []
    unfolding table_at rows_at rows_of
    rows_there_lem w = let none : get_or (view v) 7 0 ≡ 0 = rw c (stored_number 7 0 u (omega (arith, room, front.size))) in rw none

    pub bared : Bared kind dense s v
    bared = record { layout = there; size = both.size }
      where
        states_there : table_at 520 (rank_at 0 s + 1) v ≡ table_at 520 (rank_at 0 s + 1) s
        states_there = table_outside both 520 (rank_at 0 s + 1) (states_few q.holds) (inr (omega arith))

        inputs_there : table_at 1161 (rank_at 0 s + 1) v ≡ table_at 1161 (rank_at 0 s + 1) s
        inputs_there = table_outside both 1161 (rank_at 0 s + 1) (inputs_few q.holds) (inr (omega arith))

        there : layout_at 0 v ≡ bare_of kind dense (layout_at 0 s)
        there = unfold layout_at in rw (kind_there, dense_there, rank_there, shape_there, rows_there_lem, states_there, inputs_there)

-- a layout that is sound with no rows is held where it was made so
held_bare : {kind dense : ℕ} {s t : List ℤ} → Holds 0 s → Bared kind dense s t → Sound (bare_of kind dense (layout_at 0 s)) → Holds 0 t
held_bare h b sound = record {
  inside = rw b.size h.inside;
  sound = rw b.layout sound;
  low = rw b.layout (record { states_low = h.low.states_low; inputs_low = h.low.inputs_low });
}

-- ---- `end`

module _ {s : List ℤ} (h : Holds 0 s) where
  -- the extents may be multiplied
  pub ask_product : {r : ℕ} → r ≡ get_or (view s) 2 0 → Extents 3 r s
  ask_product e = record { room = let few = rank_most h in omega (arith, h.inside, e); within = rw e within }
    where
      within : within_product (row_at 3 (rank_at 0 s) s) ≡ true
      within = unfold within_product layout_at in le-leb (nonzero_product (row_at 3 (rank_at 0 s) s)) product_limit h.sound.sizes.product_most

  module _ {k : ℕ} (k-is : k ≡ get_or (view s) 0 0) where
    -- a layout that is not sparse stays
    pub stays_other : (k ≡ 2 → ⊥) → Says (end_of_broadcast (layout_at 0 s)) 0 s (Ok tt)
    stays_other n = record { is = sym (end_other (layout_at 0 s) (unfold layout_at in ne_eqb (get_or (view s) 0 0) 2 (λ e. n (k-is ∙ e)))); holds = λ _. h }

    module _ (e : k ≡ 2) {r n m : ℕ} (r-is : r ≡ get_or (view s) 2 0) (n-is : n ≡ get_or (view s) 7 0) (m-is : m ≡ product (row_at 3 r s)) where
      kind_is : (layout_at 0 s).kind ≡ 2
      unfolding layout_at
      kind_is = sym k-is ∙ e

      counted : eqb (length (layout_at 0 s).rows) (product (layout_at 0 s).shape) ≡ eqb n m
      unfolding layout_at
      counted = rw (table_length 7 (width_at 0 s) s, n-is, m-is, r-is)

      -- one that is full becomes dense
      pub becomes_dense : n ≡ m → {t : List ℤ} → Bared 0 r s t → Says (end_of_broadcast (layout_at 0 s)) 0 t (Ok tt)
      unfolding to_dense
      becomes_dense f b =
          let ranks : r ≡ rank (layout_at 0 s) = r-is ∙ sym (rank_is h) in
          let dense : layout_at 0 _ ≡ to_dense (layout_at 0 s) = b.layout ∙ rw ranks in
          record {
            is = sym (end_full (layout_at 0 s) (eq-eqb (layout_at 0 s).kind 2 kind_is) (counted ∙ eq-eqb n m f) ∙ ap given (sym dense));
            holds = λ _. held_bare h b (rw ranks (to_dense_sound h.sound));
          }

      -- any other sparse one goes on
      pub ask_sparse_lem : (n ≡ m → ⊥) → SparseEnd s
      ask_sparse_lem f = record { holds = h; sparse = kind_is; not_full = counted ∙ ne_eqb n m f }

-- ---- `end_sparse`

module _ {s : List ℤ} (q : SparseEnd s) {r : ℕ} (r-is : r ≡ get_or (view s) 2 0) where
  sparse_is : is_sparse (layout_at 0 s) ≡ true
  sparse_is = eq-eqb (layout_at 0 s).kind 2 q.sparse

  ranks_are : rank (layout_at 0 s) ≡ r
  ranks_are = rank_is q.holds ∙ sym r-is

  -- one without axes: 12
  pub refuses_scalar : r ≡ 0 → (t : List ℤ) → Says (end_of_broadcast (layout_at 0 s)) 0 t (Err MadeUnsound)
  unfolding number_of
  refuses_scalar e t = says_refused MadeUnsound 0 t (end_scalar (layout_at 0 s) sparse_is q.not_full (ranks_are ∙ e))

  module _ (some : r ≡ 0 → ⊥) where
    pub has_axes : 0 < rank_at 0 s
    has_axes = omega (arith, r-is)

    module _ {b : Bool} (b-is : b ≡ is_diagonal_in_rows (layout_at 0 s)) where
      pub stays_sparse : b ≡ false → Says (end_of_broadcast (layout_at 0 s)) 0 s (Ok tt)
      stays_sparse e = record { is = sym (end_stays (layout_at 0 s) sparse_is q.not_full (λ z. some (sym ranks_are ∙ z)) (sym b-is ∙ e)); holds = λ _. q.holds }

      module _ {d : ℕ} (d-is : d ≡ get_or (view s) 1 0) where
        pub ask_diagonal_lem : BareAsked 1 d s
        ask_diagonal_lem = record { holds = q.holds; kind_most = omega arith; dense_most = omega (arith, d-is, dense_most q.holds) }

        pub becomes_diagonal : b ≡ true → {t : List ℤ} → Bared 1 d s t → Says (end_of_broadcast (layout_at 0 s)) 0 t (Ok tt)
        becomes_diagonal e {t} c =
            let dense : d ≡ (layout_at 0 s).dense = unfold layout_at in d-is in
            let diagonal : layout_at 0 t ≡ as_diagonal (layout_at 0 s) = c.layout ∙ rw dense in
            let there : 0 < rank (layout_at 0 s) = omega (arith, rank_is q.holds, has_axes) in
            record {
              is = sym (end_diagonal (layout_at 0 s) sparse_is q.not_full (λ z. some (sym ranks_are ∙ z)) q.holds.sound (sym b-is ∙ e) ∙ ap given (sym diagonal));
              holds = λ _. held_bare q.holds c (rw dense (diagonal_sound q.holds.sound q.not_full there (sym b-is ∙ e)));
            }

-- ---- `is_diagonal_in_rows`

module _ {s : List ℤ} (h : Holds 0 s) (some : 0 < rank_at 0 s) {r : ℕ} (r-is : r ≡ get_or (view s) 2 0) where
  ranked : rank (layout_at 0 s) ≡ r
  ranked = rank_is h ∙ sym r-is

  pub extents_there : 3 + r ≤ length s
  extents_there = let few = rank_most h in omega (arith, h.inside, r-is)

  -- R is 1
  pub one_axis : r ≡ 1 → false ≡ is_diagonal_in_rows (layout_at 0 s)
  one_axis e = rw (eq-eqb (rank (layout_at 0 s)) 1 (ranked ∙ e))

  module _ (e : r ≡ 1 → ⊥) {a : Bool} (a-is : a ≡ alike (part 3 r (view s))) where
    axes : eqb (rank (layout_at 0 s)) 1 ≡ false
    axes = ne_eqb (rank (layout_at 0 s)) 1 (λ z. e (sym ranked ∙ z))

    extents_told : alike (layout_at 0 s).shape ≡ a
    extents_told = unfold layout_at in rw (← r-is) (sym a-is)

    -- the extents differ
    pub extents_differ : a ≡ false → false ≡ is_diagonal_in_rows (layout_at 0 s)
    extents_differ f = rw (axes, extents_told, f)

    module _ (f : a ≡ true) {n x : ℕ} (n-is : n ≡ get_or (view s) 7 0) (x-is : x ≡ get_or (view s) 3 0) where
      count_is : length (layout_at 0 s).rows ≡ n
      count_is = unfold layout_at in table_length 7 (width_at 0 s) s ∙ sym n-is

      first_is : get_or (layout_at 0 s).shape 0 0 ≡ x
      first_is = unfold layout_at in row_number 3 (rank_at 0 s) 0 s some ∙ sym x-is

      -- so many rows are no diagonal
      pub count_differs : (n ≡ x → ⊥) → false ≡ is_diagonal_in_rows (layout_at 0 s)
      count_differs g = rw (axes, extents_told, f, count_is, first_is, ne_eqb n x g)

      module _ (g : n ≡ x) {d : ℕ} (d-is : d ≡ get_or (view s) 1 0) where
        pub dense_under : d ≤ r
        dense_under = omega (arith, d-is, r-is, dense_most h)

        pub rows_there_in : 8 + n * (r - d) ≤ length s
        rows_there_in =
            let few = rank_most h in
            let x : n ≤ 128 = omega (arith, n-is, rows_few h) in
            let y : r - d ≤ 4 = omega (arith, r-is) in
            let most : n * (r - d) ≤ 128 * 4 = mul-le-mul x y in
            omega (arith, h.inside)

        -- each row decides
        pub rows_decide : {t : Bool} → t ≡ all alike (rows_at 8 (r - d) n s) → t ≡ is_diagonal_in_rows (layout_at 0 s)
        rows_decide {t} i = rw (axes, extents_told, f, count_is, first_is, eq-eqb n x g) (i ∙ unfold layout_at table_at in rw (n-is, r-is, d-is))
