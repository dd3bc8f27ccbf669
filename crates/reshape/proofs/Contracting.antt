-- `contract_into`: each arm writes the front of the contracted layout, and its dependencies are shortened. Assumes nothing.
use Rattle.std.specs.Prelude.{Err, Ok}
use mathlib.Core.Path.{◌≡◌, refl, sym, ap, ◌∙◌}
use mathlib.Core.List.{List, [], map}
use mathlib.Core.Logic.{inl}
use Prim.Native.Nat.{ℕ, suc, ◌+◌, ◌-◌, ◌<◌, ◌≤◌}
use native.Mathlib.Omega.{arith}
use borrow.Author.Tests.{le-leb, eq-eqb, ne_eqb}
use lib.IntN.{ℤ, pos}
use lib.ListN.{length, get_or, set, take, drop, length-take, length-set}
use lib.Seq.{take-take}
use Rattle.rules.specs.declared.Head.{Head}
use Rattle.rules.specs.declared.Refusal.TheVariants.{ScalarContracted}
use Rattle.rules.specs.Limits.{product_limit}
use Rattle.rules.specs.Lists.{product}
use Rattle.rules.specs.RowsInOrder.{sorted, Each}
use Rattle.rules.specs.Refusals.{number_of}
use Rattle.rules.specs.Buffers.{part}
use Rattle.rules.specs.Layout.{Layout, rank, nonzero_product, within_product}
use Rattle.rules.specs.Record.{layout_in}
use Rattle.rules.specs.CountsAndForms.{to_dense, dense_if_full}
use Rattle.rules.specs.ContractLastAxis.{shortened, shortened_deps, over_shorter, contracted, contract_last_axis}
use Rattle.rules.proofs.Soundness.{OneKind, dense_case, diagonal_case, sparse_case, one_kind}
use Rattle.rules.proofs.Extents.{nonzero_take}
use Rattle.rules.proofs.Contracting.{shortened_length, same_width, contracted_dense_axis, contracted_diagonal, contracted_to_dense, contracted_rows, contracted_cases, contracted_sound, contract_scalar, contract_given, contracted_low}
use Rattle.cells.specs.View.{view}
use Rattle.cells.proofs.View.{view_take, view_drop}
use Rattle.tables.specs.Rows.{row_at, rows_at}
use Rattle.tables.proofs.Only.{only_then, only_wider}
use Rattle.tables.proofs.Tables.{table_length}
use Rattle.axes.specs.Extents.{Extents}
use Rattle.records.specs.Sound.{SoundRecord}
use Rattle.records.proofs.SoundRecords.{lies, layout_sound, layout_shown}
use Rattle.records.proofs.Shown.{shape_size, rank_shown, dense_shown, width_shown, kind_shown, deps_low}
use Rattle.parts.specs.Parts.{part_size, rows_from, states_from, layout_at}
use Rattle.parts.specs.Answers.{Says}
use Rattle.parts.proofs.Saying.{says_refused}
use Rattle.moving.specs.Sections.{HeadAsked, HeadMade, TableMade}
use Rattle.moving.specs.Picking.{picked, shorter_places, DepsPicked}
use Rattle.moving.proofs.Sections.{head_stays, table_stays, assembled, says_made}
use Rattle.reshape.specs.Contracting.{FrontMade, SumAsked, NoDenseAxis}
use Rattle.reshape.proofs.Shortening.{rows_shortened, deps_shortened}
use Rattle.reshape.proofs.Fronts.{head_same, front_made, bare_front}

-- ---- what a record shows of its layout

module _ {h : Head} {s : List ℤ} (r : SoundRecord h s) where
  -- its extents but for the last, as they stand there
  extents_there : take (h.rank - 1) (drop 3 (view s)) ≡ shortened (layout_in s).shape
  unfolding part
  extents_there = rw (layout_shown r, shape_size r) (sym (take-take (h.rank - 1) h.rank (drop 3 (view s)) (omega arith)))

  row_there : row_at 3 (h.rank - 1) s ≡ shortened (layout_in s).shape
  unfolding part
  row_there = extents_there

  -- and as they are lent
  lent_extents : view (take (h.rank + 2 - 3) (drop 3 s)) ≡ shortened (layout_in s).shape
  lent_extents =
      let less : h.rank + 2 - 3 ≡ h.rank - 1 = omega arith in
      rw (view_take, view_drop, less) extents_there

module _ {h : Head} {s t : List ℤ} (q : SumAsked h s t) where
  abbrev l : Layout
  l = layout_in s

  few : h.rank ≤ 4
  few = (lies q.sound).rank_few

  pub axes_few : (0 < h.rank) × (h.rank ≤ 4)
  axes_few = (q.axis, few)

  shorter : length (shortened l.shape) ≡ h.rank - 1
  shorter = shortened_length l.shape ∙ omega (arith, rank_shown q.sound)

  -- the front numbers can be read, and the extents but for the last lent
  pub front_inside : h.rank + 3 ≤ length s
  front_inside = omega (arith, lies q.sound)

  -- a head can be written
  pub ask_head : (kind dense : ℕ) {u : List ℤ} → kind ≤ 2 → dense ≤ h.rank → length u ≡ length t → HeadAsked kind dense (take (h.rank + 2 - 3) (drop 3 s)) u
  ask_head kind dense k d e = record {
    kind_most = k;
    dense_most = omega (arith, few);
    rank_most = simp length-take (omega (arith, few));
    room = omega (arith, q.room);
  }

  kind_most : get_or (view s) 0 0 ≤ 2
  kind_most = rw (← kind_shown q.sound) (layout_sound q.sound).form.kind_most

  -- which arm is taken, where no axis is dense
  module _ (wide : h.rank ≤ h.width) {kind : ℕ} (kind_is : kind ≡ get_or (view s) 0 0) where
    pub is_diagonal_one : kind ≡ 1 → NoDenseAxis 1 h l
    is_diagonal_one e = record { kind_is = kind_shown q.sound ∙ sym kind_is ∙ e; all_rows = wide }

    pub is_sparse_one : (kind ≡ 1 → ⊥) → NoDenseAxis 2 h l
    is_sparse_one d = by (one_kind (layout_sound q.sound).form)
      where
        by : OneKind l → NoDenseAxis 2 h l
        by (dense_case k) = absurd (omega (arith, (layout_sound q.sound).form.dense_all k, dense_shown q.sound, rank_shown q.sound, q.axis))
        by (diagonal_case k) = absurd (d (kind_is ∙ sym (kind_shown q.sound) ∙ k))
        by (sparse_case k) = record { kind_is = k; all_rows = wide }

  -- ---- with dense axes

  module _ {kind : ℕ} (kind_is : kind ≡ get_or (view s) 0 0) {u : List ℤ} (p : TableMade rows_from h.width l.rows t u) where
    pub ask_dense_axis : (dense : ℕ) → dense ≤ h.rank → HeadAsked kind dense (take (h.rank + 2 - 3) (drop 3 s)) u
    ask_dense_axis dense d = ask_head kind dense (rw kind_is kind_most) d p.only.size

    pub dense_axis_summed : {v : List ℤ} → h.width < h.rank → HeadMade kind (h.rank - h.width - 1) (view (take (h.rank + 2 - 3) (drop 3 s))) u v → FrontMade (contracted l) t v
    dense_axis_summed less m =
        let dense = dense_shown q.sound in
        let wide : h.width ≡ length (shortened l.shape) - (l.dense - 1) = sym (same_width (layout_sound q.sound).form (omega arith) ∙ width_shown q.sound) in
        rw (contracted_dense_axis l (omega arith))
        (front_made (omega (arith, shorter, few)) q.room
        (head_same (kind_is ∙ sym (kind_shown q.sound)) (omega arith) (lent_extents q.sound) m) (rw wide at p))

  -- ---- without

  none_dense : {kind : ℕ} → NoDenseAxis kind h l → l.dense ≡ 0
  none_dense n = omega (arith, dense_shown q.sound, n.all_rows)

  module _ (n : NoDenseAxis 1 h l) {u : List ℤ} (e : u ≡ set t rows_from (pos 0)) where
    -- a diagonal stays one
    pub ask_diagonal_lem : HeadAsked 1 0 (take (h.rank + 2 - 3) (drop 3 s)) u
    ask_diagonal_lem = ask_head 1 0 (omega arith) (omega arith) (rw (e, length-set) refl)

    pub diagonal_stays : {v : List ℤ} → 1 < h.rank - 1 → HeadMade 1 0 (view (take (h.rank + 2 - 3) (drop 3 s))) u v → FrontMade (contracted l) t v
    diagonal_stays g m =
        rw (contracted_diagonal l n.kind_is (none_dense n) (omega (arith, rank_shown q.sound)))
        (bare_front (omega (arith, shorter, few)) q.room (head_same (sym n.kind_is) refl (lent_extents q.sound) m) e refl)

    -- or turns dense
    pub ask_dense_lem : HeadAsked 0 (h.rank - 1) (take (h.rank + 2 - 3) (drop 3 s)) u
    ask_dense_lem = ask_head 0 (h.rank - 1) (omega arith) (omega arith) (rw (e, length-set) refl)

    pub diagonal_turns : {v : List ℤ} → h.rank - 1 ≤ 1 → HeadMade 0 (h.rank - 1) (view (take (h.rank + 2 - 3) (drop 3 s))) u v → FrontMade (contracted l) t v
    unfolding to_dense
    diagonal_turns g m =
        rw (contracted_to_dense l n.kind_is (none_dense n) (omega (arith, rank_shown q.sound)))
        (bare_front (omega (arith, shorter, few)) q.room (head_same refl (sym shorter) (lent_extents q.sound) m) e refl)

  module _ (n : NoDenseAxis 2 h l) where
    -- the rows without their last number
    abbrev rows : List (List ℕ)
    rows = sorted (map shortened l.rows)

    pub ask_product : Extents 3 (h.rank - 1) s
    unfolding within_product
    ask_product = record {
      room = omega (arith, front_inside);
      within = rw (row_there q.sound) (le-leb (nonzero_product (shortened l.shape)) product_limit (omega (arith, nonzero_take (length l.shape - 1) l.shape, (layout_sound q.sound).sizes.product_most)));
    }

    module _ {u : List ℤ} (p : TableMade rows_from (h.rank - 1) (sorted (map (take (h.rank - 1)) (rows_at h.rows.first h.width h.rows.count s))) t u) where
      rows_made : TableMade rows_from (h.rank - 1) rows t u
      rows_made =
          let same : map (take (h.rank - 1)) l.rows ≡ map shortened l.rows =
          rows_shortened q.axis few (λ r m. (layout_sound q.sound).form.row_lengths r m ∙ omega (arith, rank_shown q.sound, none_dense n)) in
          let there : map (take (h.rank - 1)) (rows_at h.rows.first h.width h.rows.count s) ≡ map shortened l.rows =
          rw (← ap (λ (x : Layout). x.rows) (layout_shown q.sound)) same in
          rw there at p

      module _ {count size : ℕ} (count_is : count ≡ get_or (view u) rows_from 0) (size_is : size ≡ product (row_at 3 (h.rank - 1) s)) where
        -- the count of rows and the product, as they were read
        both : (count ≡ length rows) × (size ≡ product (shortened l.shape))
        both = (
          count_is ∙ sym (table_length rows_from (h.rank - 1) u) ∙ ap length rows_made.table.rows_are,
          size_is ∙ ap product (row_there q.sound),
        )

        -- as many as the product: dense
        pub ask_full : {v : List ℤ} → v ≡ set u rows_from (pos 0) → HeadAsked 0 (h.rank - 1) (take (h.rank + 2 - 3) (drop 3 s)) v
        ask_full f = ask_head 0 (h.rank - 1) (omega arith) (omega arith) (rw (f, length-set) p.only.size)

        pub rows_fill : {v w : List ℤ} → count ≡ size → v ≡ set u rows_from (pos 0) → HeadMade 0 (h.rank - 1) (view (take (h.rank + 2 - 3) (drop 3 s))) v w → FrontMade (contracted l) t w
        unfolding to_dense dense_if_full
        rows_fill {v} {w} g f m =
            rw (contracted_rows l n.kind_is (none_dense n), n.kind_is, eq-eqb (length rows) (product (shortened l.shape)) (sym both.0 ∙ g ∙ both.1))
            (record { front = made.front; only = only_then (only_wider p.only 0 states_from (omega arith) (omega (arith, few))) made.only })
          where
            made : FrontMade (to_dense (over_shorter l 0 rows)) u w
            made = bare_front (omega (arith, shorter, few)) (omega (arith, q.room, p.only.size)) (head_same refl (sym shorter) (lent_extents q.sound) m) f refl

        -- otherwise sparse
        pub ask_sparse_lem : HeadAsked 2 0 (take (h.rank + 2 - 3) (drop 3 s)) u
        ask_sparse_lem = ask_head 2 0 (omega arith) (omega arith) p.only.size

        pub rows_stay : {v : List ℤ} → (count ≡ size → ⊥) → HeadMade 2 0 (view (take (h.rank + 2 - 3) (drop 3 s))) u v → FrontMade (contracted l) t v
        unfolding dense_if_full
        rows_stay {v} g m = rw stays made
          where
            stays : contracted l ≡ over_shorter l 0 rows
            stays =
                contracted_rows l n.kind_is (none_dense n)
                ∙ rw (n.kind_is, ne_eqb (length rows) (product (shortened l.shape)) (λ same. g (both.0 ∙ same ∙ sym both.1))) refl

            made : FrontMade (over_shorter l 0 rows) t v
            made =
                let wide : h.rank - 1 ≡ length (shortened l.shape) - 0 = omega (arith, shorter) in
                front_made (omega (arith, shorter, few)) q.room (head_same (sym n.kind_is) refl (lent_extents q.sound) m) (rw wide at rows_made)

-- ---- the whole

-- shape and dependencies are the same in every arm
record Shorter (l x : Layout) : Type 0 where
  shape_is : x.shape ≡ shortened l.shape
  states_are : x.states ≡ shortened_deps l.states
  inputs_are : x.inputs ≡ shortened_deps l.inputs

contracted_shorter : (l : Layout) → Shorter l (contracted l)
unfolding to_dense
contracted_shorter l = contracted_cases l (Shorter l) (plain (l.dense - 1) l.rows) (plain 0 []) (dense []) (plain 0 rows) (dense rows)
  where
    rows : List (List ℕ)
    rows = sorted (map shortened l.rows)

    plain : (d : ℕ) (rows : List (List ℕ)) → Shorter l (over_shorter l d rows)
    plain d rows = record { shape_is = refl; states_are = refl; inputs_are = refl }

    dense : (rows : List (List ℕ)) → Shorter l (to_dense (over_shorter l 0 rows))
    dense rows = record { shape_is = refl; states_are = refl; inputs_are = refl }

-- a record that has an axis
pub has_axis : {h : Head} {s t : List ℤ} → SoundRecord h s → (h.rank ≡ 0 → ⊥) → part_size ≤ length t → SumAsked h s t
has_axis r d room = record { sound = r; axis = omega arith; room = room }

pub few_axes : {h : Head} {s : List ℤ} → SoundRecord h s → (h.rank ≡ 0 → ⊥) → (0 < h.rank) × (h.rank ≤ 4)
few_axes r d = (omega arith, (lies r).rank_few)

-- one that has none
pub scalar_says : {h : Head} {s t : List ℤ} → SoundRecord h s → h.rank ≡ 0 → Says (contract_last_axis (layout_in s)) 0 t (Err ScalarContracted)
unfolding number_of
scalar_says r e = says_refused ScalarContracted 0 _ (contract_scalar _ (rank_shown r ∙ e))

module _ {h : Head} {s t u v : List ℤ} (q : SumAsked h s t) (f : FrontMade (contracted (layout_in s)) t u) {places : List ℕ} (e : places ≡ shorter_places (h.rank - 1) h.rank)
    (d : DepsPicked (take h.rank places) h.rank (layout_in s) u v) where
  same : Shorter (layout_in s) (contracted (layout_in s))
  same = contracted_shorter (layout_in s)

  rank_is : h.rank ≡ rank (contracted (layout_in s)) + 1
  rank_is = rw same.shape_is (omega (arith, shorter q, q.axis))

  sizes : {deps : List (List ℕ)} → Each (λ x. length x ≡ suc (rank (layout_in s))) deps → sorted (map (picked 0 (take h.rank places)) deps) ≡ shortened_deps deps
  sizes g = rw e (deps_shortened q.axis (few q) (λ x m. g x m ∙ ap suc (rank_shown q.sound)))

  contracted_there : layout_at 0 v ≡ contracted (layout_in s)
  contracted_there =
      let form = (layout_sound q.sound).form in
      assembled {l = contracted (layout_in s)}
      (head_stays d.only (rw same.shape_is (omega (arith, shorter q, few q))) (omega arith) f.front.head)
      (table_stays d.only (inl (omega (arith, (contracted_sound (layout_sound q.sound) (omega (arith, rank_shown q.sound, q.axis))).form.rank_most))) f.front.rows)
      (rw (same.states_are, ← sizes form.states_fit.lengths, ← rank_is) d.states)
      (rw (same.inputs_are, ← sizes form.inputs_fit.lengths, ← rank_is) d.inputs)

  pub contracted_says : Says (contract_last_axis (layout_in s)) 0 v (Ok tt)
  contracted_says =
      let sound = layout_sound q.sound in
      let axis : 0 < rank (layout_in s) = omega (arith, rank_shown q.sound, q.axis) in
      says_made (contract_given sound axis) contracted_there (contracted_sound sound axis) (contracted_low (deps_low q.sound))
      (omega (arith, q.room, f.only.size, d.only.size))
