-- The layout of each way: with no rows, along the diagonal, and by rows. Assumes nothing.
use Rattle.std.specs.Prelude.{Err, Result, ⊤}
use Rattle.rules.specs.declared.Refusal.{Refusal}
use mathlib.Core.Path.{◌≡◌, refl, sym, ap, ◌∙◌}
use mathlib.Core.Bool.{Bool, true, false, ◌&&◌}
use mathlib.Core.List.{List, []}
use mathlib.Core.Logic.{inl, inr}
use Prim.Native.Nat.{ℕ, ◌+◌, ◌-◌, ◌<◌, ◌≤◌}
use native.Mathlib.Omega.{arith}
use borrow.Author.Tests.{leb-true, eq-eqb, ne_eqb}
use lib.Dec.{eqb}
use lib.IntN.{ℤ, pos}
use lib.ListN.{length, get_or, set, length-set}
use lib.Seq.{get_or-set_same}
use Rattle.rules.specs.declared.Refusal.TheVariants.{MadeUnsound, MadeTooLarge}
use Rattle.rules.specs.Lists.{if, all, product}
use Rattle.rules.specs.Limits.{product_limit}
use Rattle.rules.specs.RowsInOrder.{sorted, increasing_nil}
use Rattle.rules.specs.Refusals.{Verdict, given, refused, number_of}
use Rattle.rules.specs.Layout.{Layout, rank, few, nonzero_product, within_product, within_sizes, made}
use Rattle.rules.specs.Soundness.{WellFormed}
use Rattle.rules.specs.CountsAndForms.{to_dense, dense_if_full}
use Rattle.rules.specs.Concatenate.{Block}
use Rattle.rules.proofs.Same.{true_not_false}
use Rattle.rules.proofs.Sets.{each_nil}
use Rattle.rules.proofs.Made.{form_made}
use Rattle.rules.proofs.Forming.{DepOfRank, DepsOfRank, Framed as Forms, to_dense_framed, bad_diagonal_made}
use Rattle.cells.specs.View.{view}
use Rattle.cells.proofs.View.{view_length, view_set}
use Rattle.tables.specs.Rows.{row_at}
use Rattle.tables.specs.Tables.{table_at, room_end, Only}
use Rattle.tables.proofs.Rows.{row_length}
use Rattle.tables.proofs.Only.{only_set, view_outside, row_outside}
use Rattle.tables.proofs.Tables.{table_length}
use Rattle.tables.proofs.Made.{emptied}
use Rattle.parts.specs.Parts.{window_size, target, spare, extents_from, rows_from, layout_at}
use Rattle.parts.specs.Answers.{Says}
use Rattle.parts.proofs.Saying.{says_refused}
use Rattle.entries.specs.declared.entries.Listed.TheVariants.{Rows}
use Rattle.entries.specs.Merging.{Tabled, joined, blocks_of}
use Rattle.join.specs.Assembling.{bare, sparse_of, with_joined, by_rows, Framed, FrameAsked, FrameMade, DepsAsked, CompleteAsked, BareAsked, DiagonalAsked, RowsAsked, RowsMade, SparseAsked}
use Rattle.join.proofs.Sizes.{sizes_kept}
use Rattle.join.proofs.Frames.{ask_complete, said_same}

-- a test that fails and one that holds
sizes_over : {v : Verdict Layout} (l : Layout) {b : Bool} → v ≡ if b (given l) (refused 13) → b ≡ false → v ≡ refused 13
sizes_over l e f = e ∙ rw f

-- dependencies are asked for of a window that was written
later_deps : {r n : ℕ} {places : List ℕ} {starts : List (List ℕ)} {src s t : List ℤ} → DepsAsked r n places starts src s → length t ≡ length s → DepsAsked r n places starts src t
later_deps a e = record { rank_most = a.rank_most; states = a.states; inputs = a.inputs; room = rw e a.room }

-- ---- no rows: `join_bare`

module _ {kind dense : ℕ} (extents : List ℤ) {r n : ℕ} {places : List ℕ} {starts : List (List ℕ)} {src s : List ℤ} (a : BareAsked kind dense extents r n places starts src s) where
  abbrev bare_blocks : List Block
  bare_blocks = blocks_of r n places src

  abbrev bare_frame : Layout
  bare_frame = bare kind dense (row_at 0 r extents)

  bare_rank : rank bare_frame ≡ r
  bare_rank = row_length 0 r extents (omega (arith, a.four, a.deps.rank_most))

  pub ask_bare_frame : FrameAsked kind dense r s
  ask_bare_frame = record { kind_most = a.kind_most; dense_most = a.dense_most; rank_most = a.deps.rank_most; room = a.deps.room }

  module _ {b : Bool} (told : b ≡ within_product (row_at 0 r extents)) where
    -- the product is over the limit: 13
    pub bare_over : b ≡ false → (t : List ℤ) → Says (made (with_joined r bare_blocks bare_frame)) target t (Err MadeTooLarge)
    unfolding number_of
    bare_over e t =
        says_refused MadeTooLarge target t
        (sizes_over (with_joined r bare_blocks bare_frame) (form_made a.form) (sizes_kept r bare_blocks bare_frame bare_rank ∙ rw (← told, e)))

    module _ (e : b ≡ true) {t : List ℤ} (m : FrameMade bare_frame s t) where
      pub ask_bare : CompleteAsked r n places starts src t
      ask_bare = ask_complete m.frame (later_deps a.deps m.size) bare_rank a.form (sym told ∙ e) refl

  pub bare_said : {t u : List ℤ} {step : (Result ⊤ Refusal)} → FrameMade bare_frame s t → Says (made (with_joined r bare_blocks (layout_at target t))) target u step →
      Says (made (with_joined r bare_blocks bare_frame)) target u step
  bare_said m p = said_same m.frame r bare_blocks p

-- ---- a diagonal: `join_diagonal`

module _ {dense : ℕ} (extents : List ℤ) {r n : ℕ} {places : List ℕ} {starts : List (List ℕ)} {src s : List ℤ} (a : DiagonalAsked dense extents r n places starts src s) where
  abbrev line : Layout
  line = bare 1 dense (row_at 0 r extents)

  line_rank : rank line ≡ r
  line_rank = row_length 0 r extents (omega (arith, a.four, a.deps.rank_most))

  -- no axis is left for it: 12
  pub line_none : r ≡ dense → (t : List ℤ) → Says (made (with_joined r (blocks_of r n places src) line)) target t (Err MadeUnsound)
  unfolding number_of
  line_none e t =
      let none : length (row_at 0 r extents) - dense ≡ 0 = omega (arith, line_rank) in
      says_refused MadeUnsound target t (bad_diagonal_made (with_joined r (blocks_of r n places src) line) refl (rw none))

  pub ask_line : (r ≡ dense → ⊥) → BareAsked 1 dense extents r n places starts src s
  ask_line n = record {
    deps = a.deps;
    four = a.four;
    kind_most = omega arith;
    dense_most = a.dense_most;
    form = a.form (omega (arith, a.dense_most));
  }

-- ---- by rows: `add_rows`

module _ {dense : ℕ} (extents : List ℤ) {r n : ℕ} {places : List ℕ} {starts : List (List ℕ)} {src s : List ℤ} (a : RowsAsked dense extents r n places starts src s) where
  abbrev row_blocks : List Block
  row_blocks = blocks_of r n places src

  abbrev rows_of : Layout
  rows_of = sparse_of dense (row_at 0 r extents) r row_blocks

  shape_long : length (row_at 0 r extents) ≡ r
  shape_long = row_length 0 r extents (omega (arith, a.four, a.rank_most))

  pub ask_rows_frame : FrameAsked 2 dense r s
  ask_rows_frame = record { kind_most = omega arith; dense_most = a.dense_most; rank_most = a.rank_most; room = a.room }

  module _ {t : List ℤ} (m : FrameMade (bare 2 dense (row_at 0 r extents)) s t) where
    pub ask_rows : (room_end (target + rows_from) (r - dense) ≤ spare) × (r - dense ≤ 5) × (window_size ≤ length t)
    ask_rows = (omega (arith, a.rank_most), omega (arith, a.rank_most), rw m.size a.room)

    module _ {u : List ℤ} {b : Bool} (p : Tabled (target + rows_from) (r - dense) (r - dense) window_size (joined Rows r row_blocks) t u b) where
      pub rows_over : b ≡ false → RowsMade dense extents r row_blocks s u false
      rows_over e = record {
        verdict = sym e ∙ p.verdict;
        frame = λ z. absurd (true_not_false z refl);
        size = p.only.size ∙ m.size;
      }

      module _ (e : b ≡ true) where
        number_same : (k : ℕ) → k < 7 → get_or (view u) (target + k) 0 ≡ get_or (view t) (target + k) 0
        number_same k h = view_outside p.only (target + k) (inl (omega arith))

        pub rows_framed : Framed rows_of u
        rows_framed =
            let f = m.frame in
            record {
              kind_is = number_same 0 (omega arith) ∙ f.kind_is;
              dense_is = number_same 1 (omega arith) ∙ f.dense_is;
              rank_is = number_same 2 (omega arith) ∙ f.rank_is;
              shape_is = row_outside p.only (target + extents_from) (length (row_at 0 r extents)) (inl (omega (arith, shape_long, a.rank_most))) ∙ f.shape_is;
              rows_are = rw shape_long (p.table e);
              few = (p.ready e).fits.few;
            }

        module _ {c q : ℕ} (count : c ≡ get_or (view u) (target + rows_from) 0) (size : q ≡ product (row_at 0 r extents)) where
          count_is : length (sorted (joined Rows r row_blocks)) ≡ c
          count_is = ap length (sym (p.table e)) ∙ table_length (target + rows_from) (r - dense) u ∙ sym count

          -- they do not number the product
          pub rows_stay : (c ≡ q → ⊥) → RowsMade dense extents r row_blocks s u true
          unfolding dense_if_full
          rows_stay d = record {
            verdict = sym e ∙ p.verdict;
            frame = λ _. rw (count_is, ← size, ne_eqb c q d) rows_framed;
            size = p.only.size ∙ m.size;
          }

          module _ (d : c ≡ q) {v : List ℤ} (is : v ≡ set (set (set u target (pos 0)) (target + 1) (pos r)) (target + rows_from) (pos 0)) where
            abbrev first : List ℤ
            first = set u target (pos 0)

            abbrev second : List ℤ
            second = set first (target + 1) (pos r)

            u_long : window_size ≤ length u
            u_long = rw (p.only.size, m.size) a.room

            third : Only (target + rows_from) (target + rows_from + 1) second v
            third = rw is (only_set (target + rows_from) (pos 0) second)

            kind_zero : get_or (view v) target 0 ≡ 0
            kind_zero =
                view_outside third target (inl (omega arith)) ∙ view_outside (only_set (target + 1) (pos r) first) target (inl (omega arith))
                ∙ rw view_set (get_or-set_same (view u) target 0 0 (rw view_length (omega (arith, u_long))))

            dense_all : get_or (view v) (target + 1) 0 ≡ r
            dense_all =
                view_outside third (target + 1) (inl (omega arith))
                ∙ rw view_set (get_or-set_same (view first) (target + 1) r 0 (rw (view_length, length-set) (omega (arith, u_long))))

            rank_same : get_or (view v) (target + 2) 0 ≡ get_or (view u) (target + 2) 0
            rank_same =
                view_outside third (target + 2) (inl (omega arith)) ∙ view_outside (only_set (target + 1) (pos r) first) (target + 2) (inr (omega arith))
                ∙ view_outside (only_set target (pos 0) u) (target + 2) (inr (omega arith))

            shape_kept : row_at (target + extents_from) (length (row_at 0 r extents)) v ≡ row_at (target + extents_from) (length (row_at 0 r extents)) u
            shape_kept =
                let k : ℕ = length (row_at 0 r extents) in
                row_outside third (target + extents_from) k (inl (omega (arith, shape_long, a.rank_most)))
                ∙ row_outside (only_set (target + 1) (pos r) first) (target + extents_from) k (inr (omega arith))
                ∙ row_outside (only_set target (pos 0) u) (target + extents_from) k (inr (omega arith))

            none_there : (w : ℕ) → w ≤ 4 → table_at (target + rows_from) w v ≡ []
            none_there w h = rw is (emptied (target + rows_from) w second (rw (length-set, length-set) (omega (arith, u_long))))

            dense_framed : Framed (to_dense rows_of) v
            unfolding to_dense
            dense_framed = record {
              kind_is = kind_zero;
              dense_is = dense_all ∙ sym shape_long;
              rank_is = rank_same ∙ rows_framed.rank_is;
              shape_is = shape_kept ∙ rows_framed.shape_is;
              rows_are = none_there (length (row_at 0 r extents) - length (row_at 0 r extents)) (omega arith);
              few = let z = table_length (target + rows_from) 0 v in let y = ap length (none_there 0 (omega arith)) in omega (arith, z, y);
            }

            -- they number the product
            pub rows_turn : RowsMade dense extents r row_blocks s v true
            unfolding dense_if_full
            rows_turn = record {
              verdict = sym e ∙ p.verdict;
              frame = λ _. rw (count_is, ← size, eq-eqb c q d) dense_framed;
              size = third.size ∙ length-set first (target + 1) (pos r) ∙ length-set u target (pos 0) ∙ p.only.size ∙ m.size;
            }

-- ---- by rows: `join_rows`

module _ {dense : ℕ} (extents : List ℤ) {r n : ℕ} {places : List ℕ} {starts : List (List ℕ)} {src s : List ℤ} (a : SparseAsked dense extents r n places starts src s) where
  abbrev its_blocks : List Block
  its_blocks = blocks_of r n places src

  abbrev its_rows : Layout
  its_rows = sparse_of dense (row_at 0 r extents) r its_blocks

  rows_rank : rank its_rows ≡ r
  rows_rank = row_length 0 r extents (omega (arith, a.four, a.deps.rank_most))

  -- the sizes of the rows alone
  rows_sizes : within_sizes its_rows ≡ within_product (row_at 0 r extents) && few (sorted (joined Rows r its_blocks))
  unfolding within_sizes all
  rows_sizes = by (within_product (row_at 0 r extents)) (few (sorted (joined Rows r its_blocks)))
    where
      by : (x y : Bool) → x && y && true && true && true && true ≡ x && y
      by true true = refl
      by true false = refl
      by false y = refl

  rows_made : made its_rows ≡ if (within_product (row_at 0 r extents) && few (sorted (joined Rows r its_blocks))) (given its_rows) (refused 13)
  rows_made = form_made a.form ∙ rw rows_sizes

  over : within_product (row_at 0 r extents) && few (sorted (joined Rows r its_blocks)) ≡ false → by_rows dense (row_at 0 r extents) r its_blocks ≡ refused 13
  over e = rw (rows_made, e)

  module _ {b : Bool} (told : b ≡ within_product (row_at 0 r extents)) where
    -- the product is over the limit: 13
    pub product_over : b ≡ false → (t : List ℤ) → Says (by_rows dense (row_at 0 r extents) r its_blocks) target t (Err MadeTooLarge)
    unfolding number_of
    product_over e t = says_refused MadeTooLarge target t (over (rw (← told, e)))

    module _ (e : b ≡ true) where
      inside : within_product (row_at 0 r extents) ≡ true
      inside = sym told ∙ e

      pub ask_add : RowsAsked dense extents r n places starts src s
      ask_add = record { rows = a.rows; four = a.four; dense_most = a.dense_most; rank_most = a.deps.rank_most; product = inside; room = a.deps.room }

      module _ {t : List ℤ} {c : Bool} (m : RowsMade dense extents r its_blocks s t c) where
        few_told : few (sorted (joined Rows r its_blocks)) ≡ c
        few_told = sym (m.verdict ∙ rw (a.small inside))

        -- the rows are too many: 13
        pub rows_many : c ≡ false → Says (by_rows dense (row_at 0 r extents) r its_blocks) target t (Err MadeTooLarge)
        unfolding number_of
        rows_many f = says_refused MadeTooLarge target t (over (rw (inside, few_told, f)))

        module _ (f : c ≡ true) where
          few_rows : few (sorted (joined Rows r its_blocks)) ≡ true
          few_rows = few_told ∙ f

          abbrev whole : Layout
          whole = dense_if_full its_rows

          given_is : by_rows dense (row_at 0 r extents) r its_blocks ≡ made (with_joined r its_blocks whole)
          given_is = rw (rows_made, inside, few_rows)

          -- sound but for its rows
          its_frame : Forms its_rows
          unfolding within_product
          its_frame =
              let none : DepsOfRank (rank its_rows) [] = record { each = each_nil (DepOfRank (rank its_rows)); increase = increasing_nil } in
              record {
                rank_most = rw rows_rank a.deps.rank_most;
                product_most = leb-true (nonzero_product (row_at 0 r extents)) product_limit inside;
                states_are = none;
                inputs_are = none;
              }

          form : WellFormed whole
          unfolding dense_if_full to_dense
          form = by (eqb (length (sorted (joined Rows r its_blocks))) (product (row_at 0 r extents))) refl
            where
              by : (z : Bool) → eqb (length (sorted (joined Rows r its_blocks))) (product (row_at 0 r extents)) ≡ z → WellFormed whole
              by true g = rw g (to_dense_framed its_frame).form
              by false g = rw g a.form

          shape_is : whole.shape ≡ row_at 0 r extents
          unfolding dense_if_full to_dense
          shape_is = by (eqb (length (sorted (joined Rows r its_blocks))) (product (row_at 0 r extents))) refl
            where
              by : (z : Bool) → eqb (length (sorted (joined Rows r its_blocks))) (product (row_at 0 r extents)) ≡ z → whole.shape ≡ row_at 0 r extents
              by true g = rw g
              by false g = rw g

          few_left : few whole.rows ≡ true
          unfolding dense_if_full to_dense
          few_left = by (eqb (length (sorted (joined Rows r its_blocks))) (product (row_at 0 r extents))) refl
            where
              by : (z : Bool) → eqb (length (sorted (joined Rows r its_blocks))) (product (row_at 0 r extents)) ≡ z → few whole.rows ≡ true
              by true g = rw g
              by false g = rw g few_rows

          pub ask_whole : CompleteAsked r n places starts src t
          ask_whole =
              let e : rank whole ≡ r = ap length shape_is ∙ rows_rank in
              ask_complete (m.frame f) (later_deps a.deps m.size) e (a.joins whole e form) (ap within_product shape_is ∙ inside) few_left

          pub rows_said : {u : List ℤ} {step : (Result ⊤ Refusal)} → Says (made (with_joined r its_blocks (layout_at target t))) target u step → Says (by_rows dense (row_at 0 r extents) r its_blocks) target u step
          rows_said q = rw given_is (said_same (m.frame f) r its_blocks q)
