-- Blocks joined in the way that is theirs: `whole_extents`, `join_blocks`, `write_scalar` and `concatenate_into`. Assumes nothing.
use Rattle.std.specs.Prelude.{Err, Ok, Result, ⊤}
use Rattle.rules.specs.declared.Refusal.{Refusal}
use mathlib.Core.Path.{◌≡◌, refl, sym, ap, ◌∙◌}
use mathlib.Core.Bool.{Bool, true, false}
use mathlib.Core.List.Memᴰ
use mathlib.Core.List.{List, [], ◌∷◌, Memᴰ}
use mathlib.Core.Logic.{inl}
use Prim.Native.Nat.{ℕ, ◌+◌, ◌-◌, ◌^◌, ◌<◌, ◌≤◌}
use native.Mathlib.Omega.{arith}
use borrow.Author.Tests.{eq-eqb, ne_eqb, ltb-false}
use lib.Dec.{ltb}
use lib.IntN.{ℤ, pos}
use lib.ListN.{length, get_or, set, take, length-map, length-set}
use Rattle.rules.specs.declared.Refusal.TheVariants.{Unjoinable as Refuses}
use Rattle.rules.specs.Limits.{rank_limit}
use Rattle.rules.specs.Lists.{all, any, none, keep, product}
use Rattle.rules.specs.RowsInOrder.{sorted, increasing}
use Rattle.rules.specs.Buffers.{part}
use Rattle.rules.specs.Refusals.{given, number_of, lowest}
use Rattle.rules.specs.Layout.{rank, is_dense, is_sparse, within_product, well_formed, within_sizes, made}
use Rattle.rules.specs.CountsAndForms.{dense, new_scalar}
use Rattle.rules.specs.Concatenate.{Block, layouts_of, joined_shape, blocks_d, agree, join_diagonal, joined_rows, join_blocks, concatenate}
use Rattle.rules.proofs.Same.{neither}
use Rattle.rules.proofs.Sets.{each_nil}
use Rattle.rules.proofs.Soundness.{OneKind, dense_case, diagonal_case, sparse_case, one_kind}
use Rattle.rules.proofs.Changed.{RowBelow}
use Rattle.rules.proofs.Made.{made_sound}
use Rattle.rules.proofs.Replaced.{fit_length}
use Rattle.rules.proofs.Blocks.{FormedBlocks, rank_one, dense_one, d_low, no_axis, length_reach}
use Rattle.rules.proofs.ConcatenateMade.{length_dense, form_joined, dense_form, length_diagonal, diagonal_form, rows_form}
use Rattle.cells.specs.View.{view}
use Rattle.tables.specs.Rows.{row_at}
use Rattle.tables.specs.Tables.{table_at, Only}
use Rattle.tables.proofs.Only.{only_set, view_outside, table_outside}
use Rattle.tables.proofs.Tables.{table_length}
use Rattle.tables.proofs.Made.{emptied}
use Rattle.lists.proofs.Beginning.{length_standing}
use Rattle.parts.specs.Parts.{window_size, target, rows_from, states_from, inputs_from, rank_at, layout_at}
use Rattle.parts.specs.Answers.{Says}
use Rattle.blocks.specs.declared.deciding.Way.{Way}
use Rattle.blocks.specs.declared.deciding.Way.TheVariants.{Unjoinable, Dense, Diagonal, Rows}
use Rattle.blocks.specs.declared.deciding.Join.{Join}
use Rattle.blocks.specs.Blocks.{blocks_by, BlocksAt}
use Rattle.blocks.specs.Joins.{way_of, shape_by, join_of}
use Rattle.blocks.proofs.Given.{at_hand, join_given}
use Rattle.blocks.proofs.Joined.{way_named, join_by, join_shape, join_axes}
use Rattle.blocks.proofs.Verdicts.{way_diagonal, way_rows, blocks_formed}
use Rattle.parts.proofs.Saying.{says_refused}
use Rattle.entries.specs.declared.entries.Listed.TheVariants.{Rows as RowsOf, States, Inputs}
use Rattle.entries.specs.Listing.{row_width}
use Rattle.entries.specs.Merging.{blocks_of}
use Rattle.join.specs.Assembling.{bare, with_joined, by_rows, FrameMade, DepsAsked, BareAsked, DiagonalAsked, SparseAsked, JoinAsked}
use Rattle.join.proofs.Sizes.{rows_small}
use Rattle.join.proofs.Handing.{handed, all_asked}

-- ---- what the way says of each block

any_none : {A : Type 0} (test : A → Bool) {x : A} {l : List A} → Memᴰ x l → any test l ≡ false → test x ≡ false
unfolding any
any_none test (Memᴰ.head {x = y} {xs = l} d) e = ap test d ∙ (neither (test y) (any test l) e).0
any_none test (Memᴰ.tail {x = y} {xs = l} m) e = any_none test m (neither (test y) (any test l) e).1

-- blocks that can be joined are not above the asked rank
not_above : (r : ℕ) (blocks : List Block) → (way_of r blocks ≡ Unjoinable → ⊥) → (b : Block) → Memᴰ b blocks → rank b.layout ≤ r
unfolding way_of
not_above r blocks n b m = by (any (λ l. ltb r (rank l)) (layouts_of blocks)) refl
  where
    by : (t : Bool) → any (λ l. ltb r (rank l)) (layouts_of blocks) ≡ t → rank b.layout ≤ r
    by true e = absurd (n (rw e))
    by false e = ltb-false r (rank b.layout) (any_none (λ l. ltb r (rank l)) (Memᴰ.map (λ (c : Block). c.layout) m) e)

-- blocks that are joined by rows have rows of R - D numbers
module _ (r : ℕ) (blocks : List Block) (p : FormedBlocks r blocks) (w : way_of r blocks ≡ Rows) where
  row_width_lem : (b : Block) → Memᴰ b blocks → r - blocks_d blocks ≡ row_width b.layout
  row_width_lem b m = by (one_kind (p b m).form)
    where
      known : agree r blocks ≡ true
      known = (way_rows r blocks w).0

      whole : (b.layout.kind ≡ 2 → ⊥) → r - blocks_d blocks ≡ row_width b.layout
      whole n =
          let test : is_sparse b.layout ≡ false = ne_eqb b.layout.kind 2 n in
          let z = no_axis blocks (way_rows r blocks w).1 b m test in
          rw test (omega (arith, z, rank_one r blocks known b m))

      by : OneKind b.layout → r - blocks_d blocks ≡ row_width b.layout
      by (dense_case k) = whole (λ e. omega arith)
      by (diagonal_case k) = whole (λ e. omega arith)
      by (sparse_case k) =
          let other : is_dense b.layout ≡ false = ne_eqb b.layout.kind 0 (λ e. omega arith) in
          rw (eq-eqb b.layout.kind 2 k) (omega (arith, rank_one r blocks known b m, dense_one r blocks known b m other))

-- four numbers as a slice holds them
pub extents_seen : (e : List ℕ) {x y z w : ℤ} → length e ≡ 4 → x ≡ pos (get_or e 0 0) → y ≡ pos (get_or e 1 0) → z ≡ pos (get_or e 2 0) → w ≡ pos (get_or e 3 0) →
    view (x ∷ y ∷ z ∷ w ∷ []) ≡ e
unfolding view
extents_seen [] l p q r s = absurd (omega arith)
extents_seen (a ∷ []) l p q r s = absurd (omega arith)
extents_seen (a ∷ b ∷ []) l p q r s = absurd (omega arith)
extents_seen (a ∷ b ∷ c ∷ []) l p q r s = absurd (omega arith)
extents_seen (a ∷ b ∷ c ∷ d ∷ []) l p q r s = rw (p, q, r, s)
extents_seen (a ∷ b ∷ c ∷ d ∷ f ∷ e) l p q r s = absurd (omega arith)

-- ---- by the way

-- ways that differ
never : {x : Way} → x ≡ Unjoinable → (x ≡ Dense → ⊥) × (x ≡ Diagonal → ⊥) × (x ≡ Rows → ⊥)
never e = (λ f. let z : ◌≡◌ {A = ℕ} 0 1 = cc in omega arith, λ f. let z : ◌≡◌ {A = ℕ} 0 1 = cc in omega arith, λ f. let z : ◌≡◌ {A = ℕ} 0 1 = cc in omega arith)

module _ {r n : ℕ} {places records : List ℕ} {starts : List (List ℕ)} {s t : List ℤ} (q : JoinAsked r n places records starts s t × (0 < n)) where
  abbrev its : List Block
  its = blocks_of r n places s

  a : JoinAsked r n places records starts s t
  a = q.0

  formed : FormedBlocks r its
  formed = blocks_formed (handed a q.1)

  pub ask_join : {m : ℕ} → m ≡ n → BlocksAt m records starts s × (r ≤ rank_limit)
  ask_join e = (rw e (at_hand (handed a q.1)), a.rank_most)

  deps : (way_of r its ≡ Unjoinable → ⊥) → DepsAsked r n places starts s t
  deps m =
      let above = not_above r its m in
      record { rank_most = a.rank_most; states = all_asked a States (λ b i. (above b i, refl)); inputs = all_asked a Inputs (λ b i. (above b i, refl)); room = a.room }

  module _ {j : Join} (told : j ≡ join_of r (blocks_by r n records starts s)) where
    is : j ≡ join_of r its
    is = told ∙ join_given (handed a q.1)

    -- there are four extents
    pub extents_four : length j.extents ≡ 4
    extents_four = ap (λ (k : Join). length k.extents) is ∙ fit_length 4 0 (shape_by (way_of r its) r its)

    -- they cannot be joined: 10
    pub not_joined : j.way ≡ Unjoinable → (u : List ℤ) → Says (join_blocks r its) target u (Err Refuses)
    unfolding number_of
    not_joined f u = says_refused Refuses target u (join_by r its is f)

    module _ (extents : List ℤ) (four : length extents ≡ 4) (view-is : view extents ≡ j.extents) where
      shape_is : {way : Way} → j.way ≡ way → (way ≡ Unjoinable → ⊥) → row_at 0 r extents ≡ shape_by way r its
      unfolding part
      shape_is f m = ap (take r) view-is ∙ join_shape r its is f m a.rank_most

      -- dense
      module _ (f : j.way ≡ Dense) where
        dense_way : way_of r its ≡ Unjoinable → ⊥
        dense_way e = (never e).0 (way_named r its is f)

        dense_shape : row_at 0 r extents ≡ joined_shape r its
        dense_shape = shape_is f (λ e. (never e).0 refl)

        axes_all : j.dense ≡ length (joined_shape r its)
        axes_all = join_axes r its is f ∙ sym (length_dense r its)

        pub ask_dense_lem : BareAsked 0 j.dense extents r n places starts s t
        unfolding dense
        ask_dense_lem = record {
          deps = deps dense_way;
          four = four;
          kind_most = omega arith;
          dense_most = omega (arith, axes_all, length_dense r its);
          form = rw (dense_shape, axes_all) (form_joined formed (dense (joined_shape r its)) (length_dense r its) (dense_form r its a.rank_most));
        }

        pub dense_said : {u : List ℤ} {step : (Result ⊤ Refusal)} → Says (made (with_joined r its (bare 0 j.dense (row_at 0 r extents)))) target u step → Says (join_blocks r its) target u step
        unfolding dense
        dense_said p = rw (join_by r its is f) (rw (dense_shape, axes_all) at p)

      -- along the diagonal
      module _ (f : j.way ≡ Diagonal) where
        named : way_of r its ≡ Diagonal
        named = way_named r its is f

        line_shape : row_at 0 r extents ≡ (join_diagonal r its).shape
        line_shape = shape_is f (λ e. (never e).1 refl)

        line_axes : j.dense ≡ blocks_d its
        line_axes = join_axes r its is f

        pub ask_diagonal_lem : DiagonalAsked j.dense extents r n places starts s t
        ask_diagonal_lem =
            let known = way_diagonal r its named in
            record {
              deps = deps (λ e. (never e).1 named);
              four = four;
              dense_most = rw line_axes (d_low r its known.0 formed);
              form = rw (line_axes, line_shape)
                  (λ h.
                  form_joined formed (join_diagonal r its) (length_diagonal r its)
                  (diagonal_form r its known.0 formed known.1 a.rank_most h));
            }

        pub diagonal_said : {u : List ℤ} {step : (Result ⊤ Refusal)} → Says (made (with_joined r its (bare 1 j.dense (row_at 0 r extents)))) target u step → Says (join_blocks r its) target u step
        diagonal_said p = rw (join_by r its is f) (rw (line_shape, line_axes) at p)

      -- by rows
      module _ (f : j.way ≡ Rows) where
        by_rows_lem : way_of r its ≡ Rows
        by_rows_lem = way_named r its is f

        rows_shape : row_at 0 r extents ≡ (joined_rows r its).shape
        rows_shape = shape_is f (λ e. (never e).2 refl)

        rows_axes : j.dense ≡ blocks_d its
        rows_axes = join_axes r its is f

        agreed : agree r its ≡ true
        agreed = (way_rows r its by_rows_lem).0

        pub ask_sparse_lem : SparseAsked j.dense extents r n places starts s t
        ask_sparse_lem =
            let form = rows_form r its agreed formed (way_rows r its by_rows_lem).1 a.rank_most in
            let long = length_reach r its in
            record {
              deps = deps (λ e. (never e).2 by_rows_lem);
              rows = rw rows_axes (all_asked a RowsOf (λ b m. (rank_one r its agreed b m, row_width_lem r its formed by_rows_lem b m)));
              four = four;
              dense_most = rw rows_axes (d_low r its agreed formed);
              form = rw (rows_axes, rows_shape) form;
              small = rw (rows_axes, rows_shape) (rows_small (blocks_d its) (joined_rows r its).shape r its form long);
              joins = form_joined formed;
            }

        pub rows_said : {u : List ℤ} {step : (Result ⊤ Refusal)} → Says (by_rows j.dense (row_at 0 r extents) r its) target u step → Says (join_blocks r its) target u step
        rows_said p = rw (join_by r its is f) (rw (rows_shape, rows_axes) at p)

-- ---- the scalar: `write_scalar`

scalar_made : made new_scalar ≡ given new_scalar
unfolding made lowest dense well_formed within_sizes within_product keep product all none increasing sorted
scalar_made = refl

module _ {s u : List ℤ} (room : window_size ≤ length s) (none : List ℤ) (m : FrameMade (bare 0 0 (row_at 0 0 none)) s u) {v t : List ℤ}
    (cleared : v ≡ set u (target + states_from) (pos 0)) (both : t ≡ set v (target + inputs_from) (pos 0)) where
  scalar_is : t ≡ set (set u (target + states_from) (pos 0)) (target + inputs_from) (pos 0)
  scalar_is = both ∙ ap (λ (l : List ℤ). set l (target + inputs_from) (pos 0)) cleared

  abbrev middle : List ℤ
  middle = set u (target + states_from) (pos 0)

  u_room : window_size ≤ length u
  u_room = rw m.size room

  last_only : Only (target + inputs_from) (target + inputs_from + 1) middle t
  last_only = rw scalar_is (only_set (target + inputs_from) (pos 0) middle)

  first_only : Only (target + states_from) (target + states_from + 1) u middle
  first_only = only_set (target + states_from) (pos 0) u

  number_stays : (k : ℕ) → k < 520 → get_or (view t) (target + k) 0 ≡ get_or (view u) (target + k) 0
  number_stays k h = view_outside last_only (target + k) (inl (omega arith)) ∙ view_outside first_only (target + k) (inl (omega arith))

  rank_none : rank_at target t ≡ 0
  unfolding part
  rank_none = number_stays 2 (omega arith) ∙ m.frame.rank_is

  rows_none_there : table_at (target + rows_from) 0 t ≡ []
  unfolding part
  rows_none_there =
      table_outside last_only (target + rows_from) 0 (rw (view_outside first_only (target + rows_from) (inl (omega arith))) m.frame.few) (inl (omega arith))
      ∙ table_outside first_only (target + rows_from) 0 m.frame.few (inl (omega arith)) ∙ m.frame.rows_are

  states_none : table_at (target + states_from) 1 t ≡ []
  states_none =
      let none_yet : table_at (target + states_from) 1 middle ≡ [] = emptied (target + states_from) 1 u (omega (arith, u_room)) in
      let count = table_length (target + states_from) 1 middle in
      table_outside last_only (target + states_from) 1 (omega (arith, count, ap length none_yet)) (inl (omega arith)) ∙ none_yet

  inputs_none : table_at (target + inputs_from) 1 t ≡ []
  inputs_none = rw scalar_is (emptied (target + inputs_from) 1 middle (rw length-set (omega (arith, u_room))))

  scalar_there : layout_at target t ≡ new_scalar
  unfolding layout_at dense part
  scalar_there = rw (number_stays 0 (omega arith) ∙ m.frame.kind_is, number_stays 1 (omega arith) ∙ m.frame.dense_is, rank_none, rows_none_there, states_none, inputs_none)

  pub scalar_said : Says (given new_scalar) target t (Ok tt)
  scalar_said = record {
    is = ap given scalar_there;
    holds = λ _. record {
      inside = rw (last_only.size, first_only.size) (omega (arith, u_room));
      sound = rw scalar_there (made_sound scalar_made).1;
      low = rw scalar_there (unfold dense in record { states_low = each_nil (RowBelow (2 ^ 31)); inputs_low = each_nil (RowBelow (2 ^ 31)) });
    };
  }

-- ---- `concatenate_into`

none_concatenated : (blocks : List Block) (r : ℕ) → length blocks ≡ 0 → concatenate blocks r ≡ given new_scalar
unfolding concatenate none
none_concatenated [] r e = refl
none_concatenated (b ∷ blocks) r e = absurd (omega arith)

some_concatenated : (blocks : List Block) (r : ℕ) → 0 < length blocks → concatenate blocks r ≡ join_blocks r blocks
unfolding concatenate none
some_concatenated [] r h = absurd (omega arith)
some_concatenated (b ∷ blocks) r h = refl

module _ {r n : ℕ} {places records : List ℕ} {starts : List (List ℕ)} {s t : List ℤ} (a : JoinAsked r n places records starts s t) where
  as_many : length (blocks_of r n places s) ≡ n
  as_many = rw (length-map, length-map, length_standing a.inside)

  pub none_said : n ≡ 0 → {u : List ℤ} {step : (Result ⊤ Refusal)} → Says (given new_scalar) target u step → Says (concatenate (blocks_of r n places s) r) target u step
  none_said e p = rw (none_concatenated (blocks_of r n places s) r (as_many ∙ e)) p

  pub some_said : (n ≡ 0 → ⊥) → {u : List ℤ} {step : (Result ⊤ Refusal)} → Says (join_blocks r (blocks_of r n places s)) target u step → Says (concatenate (blocks_of r n places s) r) target u step
  some_said f p = rw (some_concatenated (blocks_of r n places s) r (omega (arith, as_many))) p

  pub ask_some : (n ≡ 0 → ⊥) → JoinAsked r n places records starts s t × (0 < n)
  ask_some f = (a, omega arith)
