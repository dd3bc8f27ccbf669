-- `permute_into`: each arm writes the front of the permuted layout, and its dependencies are moved. Assumes nothing.
use Rattle.std.specs.Prelude.{Err, Ok, Result, ⊤}
use mathlib.Core.Path.{◌≡◌, refl, sym, ap, ◌∙◌, subst}
use mathlib.Core.Bool.{Bool, true, false, not, ◌&&◌, and-false}
use mathlib.Core.List.{List, [], ◌∷◌, ◌++◌, map}
use mathlib.Core.Logic.{inl}
use Prim.Native.Nat.{ℕ, zero, suc, ◌+◌, ◌-◌, ◌<◌, ◌≤◌}
use native.Mathlib.Numerals.{add-one}
use native.Mathlib.Omega.{arith}
use borrow.Author.Tests.{lt-ltb, le-ltb, lt-leb, le-leb, not-true, not-false}
use lib.Dec.{eqb, ltb}
use lib.IntN.{ℤ, pos}
use lib.ListN.{length, get_or, set, take, drop, length-take, length-set, length-append, length-drop, get_or-append}
use lib.Seq.{get_or-take, get_or-drop, get_or-set_same, get_or-set_other, get_or-append-add, take-take, length-take-le, ext_get_or}
use Rattle.rules.specs.declared.Head.{Head}
use Rattle.rules.specs.declared.Refusal.TheVariants.{MadeUnsound, DenseAxes, NoPermutation}
use Rattle.rules.specs.Lists.{if, largest, all, none}
use Rattle.rules.specs.RowsInOrder.{sorted, Each}
use Rattle.rules.specs.Buffers.{part}
use Rattle.rules.specs.Refusals.{refused, number_of}
use Rattle.rules.specs.Layout.{Layout, rank, alike}
use Rattle.rules.specs.Record.{naturals, layout_in, shape_in}
use Rattle.rules.specs.Dependencies.{index_of, on_index}
use Rattle.rules.specs.Permute.{moved_to, moved, permuted, permute, repeats, is_permutation}
use Rattle.rules.proofs.Order.{ComparedNumbers, under, even, above, compare_numbers}
use Rattle.rules.proofs.Soundness.{OneKind, dense_case, diagonal_case, sparse_case, one_kind, dense_rows, diagonal_rows_lem}
use Rattle.rules.proofs.Moved.{moved_length, moved_at}
use Rattle.rules.proofs.Permuting.{usable_true, stays_diagonal, permute_bars, permute_breaks, permute_given, permute_unusable, permute_empty}
use Rattle.cells.specs.View.{view}
use Rattle.cells.proofs.View.{view_take}
use Rattle.tables.specs.Rows.{row_at, rows_at}
use Rattle.records.specs.Sound.{SoundRecord}
use Rattle.records.proofs.SoundRecords.{lies, layout_sound, layout_shown}
use Rattle.parts.specs.Parts.{part_size, rows_from}
use Rattle.moving.specs.Sections.{HeadAsked, HeadMade, TableMade}
use Rattle.moving.specs.Picking.{picked, DepsPicked}
use Rattle.moving.proofs.Picking.{picked_length, picked_at}
use Rattle.moving.proofs.Shortening.{map_alike}
use Rattle.rules.specs.declared.Refusal.{Refusal}
use Rattle.rules.specs.Arguments.{up_to}
use Rattle.rules.specs.CountsAndForms.{min_rank, min_rank_of}
use Rattle.rules.proofs.Given.{permute_sound, permute_low}
use Rattle.rules.proofs.Tests.{none_empty}
use Rattle.records.proofs.Shown.{rank_shown, dense_shown, kind_shown, deps_low}
use Rattle.lookups.proofs.SoundRecords.{lent_shape}
use Rattle.parts.specs.Answers.{Says, Loaded}
use Rattle.parts.proofs.Saying.{says_refused}
use Rattle.moving.proofs.Sections.{head_stays, table_stays, assembled, says_made}
use Rattle.reshape.specs.Permuting.{Moves, Permutes, FrontSays, FrontMoved, MoveAsked, names_axes, MovesAre, AxesMoved}
use Rattle.reshape.proofs.Fronts.{head_same, front_made, bare_front}

-- ---- rows and dependencies, moved by their places

-- what stands behind the last entry goes nowhere
moved_front : (k missing : ℕ) (entries numbers : List ℕ) (n : ℕ) → length entries ≤ n → moved_to k missing entries (take n numbers) ≡ moved_to k missing entries numbers
unfolding moved_to
moved_front k missing [] numbers n h = refl
moved_front k missing (p ∷ entries) numbers zero h = absurd (omega arith)
moved_front k missing (p ∷ entries) [] (suc n) h = refl
moved_front k missing (p ∷ entries) (x ∷ numbers) (suc n) h = ap (λ (y : ℕ). if (eqb p k) x y) (moved_front k missing entries numbers n (omega arith))

-- the places that are used
used : (places : List ℕ) (n : ℕ) → n ≤ 5 → length places ≡ 5 → length (take n places) ≡ n
used places n h five = length-take-le n places (omega arith)

module _ (entries places : List ℕ) (m : Moves entries places) (small : largest entries ≤ 3) (five : length places ≡ 5) where
  -- a row
  pub row_moved : (missing : ℕ) (row : List ℕ) → length row ≤ 5 → picked missing (take (largest entries + 1) places) row ≡ moved missing entries row
  row_moved missing row h =
      ext_get_or 0 (picked missing (take (largest entries + 1) places) row) (moved missing entries row) (size ∙ sym (moved_length missing entries row ∙ sym (add-one (largest entries))))
      (λ k l. at k (omega (arith, size)))
    where
      size : length (picked missing (take (largest entries + 1) places) row) ≡ largest entries + 1
      size = picked_length missing (take (largest entries + 1) places) row ∙ used places (largest entries + 1) (omega arith) five

      at : (k : ℕ) → k ≤ largest entries → get_or (picked missing (take (largest entries + 1) places) row) k 0 ≡ get_or (moved missing entries row) k 0
      at k l =
          picked_at missing (take (largest entries + 1) places) row k (omega (arith, used places (largest entries + 1) (omega arith) five))
          ∙ ap (λ (j : ℕ). get_or row j missing) (get_or-take (largest entries + 1) places k 0 (omega arith))
          ∙ sym (m k (omega arith) missing row h) ∙ sym (moved_at missing entries row k 0 l)

  -- a dependency
  pub dep_moved : (r : ℕ) (d : List ℕ) → length d ≡ suc r → r ≤ 4 → length entries ≤ r →
      picked 0 (take (largest entries + 2) (set places (largest entries + 1) r)) d ≡ on_index (moved 0 entries) d
  unfolding on_index
  dep_moved r d e few least =
      ext_get_or 0 (picked 0 (take (largest entries + 2) new) d) changed (size ∙ sym changed_size) (λ k l. at k (compare_numbers k (largest entries + 1)) (omega (arith, size)))
    where
      new : List ℕ
      new = set places (largest entries + 1) r

      new_five : length new ≡ 5
      new_five = rw length-set five

      changed : List ℕ
      changed = moved 0 entries (index_of d) ++ drop (length d - 1) d

      size : length (picked 0 (take (largest entries + 2) new) d) ≡ largest entries + 2
      size = picked_length 0 (take (largest entries + 2) new) d ∙ used new (largest entries + 2) (omega arith) new_five

      index_size : length (moved 0 entries (index_of d)) ≡ largest entries + 1
      index_size = moved_length 0 entries (index_of d) ∙ sym (add-one (largest entries))

      changed_size : length changed ≡ largest entries + 2
      changed_size = rw (length-append, length-drop) (omega (arith, index_size))

      number : (k : ℕ) → k < largest entries + 2 → get_or (picked 0 (take (largest entries + 2) new) d) k 0 ≡ get_or d (get_or new k 0) 0
      number k l =
          picked_at 0 (take (largest entries + 2) new) d k (omega (arith, used new (largest entries + 2) (omega arith) new_five))
          ∙ ap (λ (j : ℕ). get_or d j 0) (get_or-take (largest entries + 2) new k 0 l)

      at : (k : ℕ) → ComparedNumbers k (largest entries + 1) → k < largest entries + 2 → get_or (picked 0 (take (largest entries + 2) new) d) k 0 ≡ get_or changed k 0
      at k (under h) l =
          number k l ∙ ap (λ (j : ℕ). get_or d j 0) (get_or-set_other places (largest entries + 1) k r 0 (λ z. omega arith))
          ∙ sym (m k (omega arith) 0 d (omega arith))
          ∙ sym (get_or-append (moved 0 entries (index_of d)) (drop (length d - 1) d) 0 k (omega (arith, index_size))
          ∙ moved_at 0 entries (index_of d) k 0 (omega arith) ∙ moved_front k 0 entries d (length d - 1) (omega arith))
      at k (even h) l =
          number k l ∙ ap (λ (j : ℕ). get_or d j 0) (rw h (get_or-set_same places (largest entries + 1) r 0 (omega arith)))
          ∙ sym (ap (λ (j : ℕ). get_or changed j 0) here
          ∙ get_or-append-add (moved 0 entries (index_of d)) (drop (length d - 1) d) 0 0
          ∙ get_or-drop (length d - 1) d 0 0 ∙ ap (λ (j : ℕ). get_or d j 0) last)
        where
          here : k ≡ length (moved 0 entries (index_of d)) + 0
          here = omega (arith, index_size)

          last : length d - 1 + 0 ≡ r
          last = omega arith
      at k (above h) l = absurd (omega arith)

-- ---- the front

module _ {h : Head} {most : ℕ} {s t : List ℤ} (q : MoveAsked h most s t) where
  abbrev l : Layout
  l = layout_in s

  few : h.rank ≤ 4
  few = (lies q.sound).rank_few

  -- D, as it is read
  pub dense_is : h.rank - h.width ≡ l.dense
  dense_is = omega (arith, dense_shown q.sound)

  pub width_most : h.width ≤ h.rank
  width_most = omega (arith, dense_shown q.sound)

  -- a head can be written
  pub ask_moved : (ext : List ℤ) (kind dense : ℕ) {u : List ℤ} → kind ≤ 2 → dense ≤ 4 → length u ≡ length t → HeadAsked kind dense (take (most + 1) ext) u
  ask_moved ext kind dense k d same = record {
    kind_most = k;
    dense_most = d;
    rank_most = simp length-take (omega (arith, q.small));
    room = omega (arith, q.room);
  }

  pub ask_bare : (ext : List ℤ) (kind dense : ℕ) {u : List ℤ} → kind ≤ 2 → dense ≤ 4 → u ≡ set t rows_from (pos 0) → HeadAsked kind dense (take (most + 1) ext) u
  ask_bare ext kind dense k d e = ask_moved ext kind dense k d (rw (e, length-set) refl)

  pub dense_few : h.rank - h.width ≤ 4
  dense_few = omega (arith, few)

  -- the extents were picked
  module _ (places : List ℕ) (five : length places ≡ 5) (ext : List ℤ) (e : row_at 0 (most + 1) ext ≡ picked 1 (take (most + 1) places) (row_at 3 h.rank s)) where
    module _ (entries : List ℤ) (p : Permutes l entries most places) where
      extents_are : row_at 0 (most + 1) ext ≡ moved 1 (naturals entries) l.shape
      extents_are =
          let shown : row_at 3 h.rank s ≡ l.shape = sym (ap (λ (x : Layout). x.shape) (layout_shown q.sound)) in
          let is = p.largest_is in
          e ∙ rw (shown, is) (row_moved (naturals entries) places p.moves (omega (arith, q.small)) five 1 l.shape (omega (arith, rank_shown q.sound, few)))

      lent_moved : view (take (most + 1) ext) ≡ moved 1 (naturals entries) l.shape
      unfolding part
      lent_moved = view_take (most + 1) ext ∙ extents_are

      moved_size : length (moved 1 (naturals entries) l.shape) ≡ most + 1
      moved_size = moved_length 1 (naturals entries) l.shape ∙ rw p.largest_is (sym (add-one (largest (naturals entries))))

      -- dense
      pub dense_moved : {u v : List ℤ} → l.kind ≡ 0 → u ≡ set t rows_from (pos 0) → HeadMade 0 (most + 1) (view (take (most + 1) ext)) u v →
          FrontSays (permute l entries) (permuted l (naturals entries)) t v (Ok tt)
      unfolding permuted
      dense_moved k stored m = (
        bare_front (rw (k, moved_size) (omega (arith, q.small))) q.room (head_same (sym k) (rw (k, p.largest_is) (add-one (largest (naturals entries)))) lent_moved m) stored
            (rw (dense_rows (layout_sound q.sound).form k) refl),
        permute_given l entries p.usable (layout_sound q.sound) p.some (rw k refl) (rw k refl),
      )

      -- a diagonal
      module _ (k : l.kind ≡ 1) where
        -- that has no axis left
        pub diagonal_narrow : most < h.rank - h.width → permute l entries ≡ refused (number_of MadeUnsound)
        unfolding number_of stays_diagonal
        diagonal_narrow g =
            permute_breaks l entries p.usable p.some k
            (rw (lt-leb l.dense (largest (naturals entries)) (omega (arith, p.largest_is, dense_is))) refl)

        module _ (wide : h.rank - h.width ≤ most) {b : Bool} (b-is : b ≡ alike (part 0 (most + 1 - (h.rank - h.width)) (view ext))) where
          test_is : stays_diagonal l (naturals entries) ≡ b
          unfolding stays_diagonal part
          test_is =
              let n : ℕ = most + 1 - (h.rank - h.width) in
              let size : suc (largest (naturals entries)) - l.dense ≡ n = omega (arith, p.largest_is, dense_is) in
              let same : take n (moved 1 (naturals entries) l.shape) ≡ take n (view ext) = rw (← extents_are) (take-take n (most + 1) (view ext) (omega arith)) in
              rw (le-leb l.dense (largest (naturals entries)) (omega (arith, p.largest_is, dense_is)), size, same) (sym b-is)

          -- whose extents are not alike
          pub diagonal_unlike : not b ≡ true → permute l entries ≡ refused (number_of MadeUnsound)
          unfolding number_of
          diagonal_unlike g = permute_breaks l entries p.usable p.some k (test_is ∙ not-true b g)

          -- that stays one
          pub diagonal_moved : {u v : List ℤ} → not b ≡ false → u ≡ set t rows_from (pos 0) → HeadMade 1 (h.rank - h.width) (view (take (most + 1) ext)) u v →
              FrontSays (permute l entries) (permuted l (naturals entries)) t v (Ok tt)
          unfolding permuted
          diagonal_moved g stored m = (
            bare_front (rw (k, moved_size) (omega (arith, q.small))) q.room (head_same (sym k) (rw k dense_is) lent_moved m) stored
                (rw (diagonal_rows_lem (layout_sound q.sound).form k) refl),
            permute_given l entries p.usable (layout_sound q.sound) p.some (rw k refl) (rw (test_is, k) (not-false b g)),
          )

      -- sparse
      module _ (k : l.kind ≡ 2) where
        -- with dense axes
        pub sparse_bars : 0 < h.rank - h.width → permute l entries ≡ refused (number_of DenseAxes)
        unfolding number_of
        sparse_bars g = permute_bars l entries p.usable p.some (rw (k, lt-ltb 0 l.dense (omega (arith, dense_is))) refl)

        -- without
        pub sparse_moved : {u v : List ℤ} → h.rank - h.width ≤ 0 →
            TableMade rows_from (most + 1) (map (picked 0 (take (most + 1) places)) (rows_at h.rows.first h.width h.rows.count s)) t u →
            HeadMade 2 0 (view (take (most + 1) ext)) u v → FrontSays (permute l entries) (permuted l (naturals entries)) t v (Ok tt)
        unfolding permuted
        sparse_moved {u} {v} g rows m =
            let none : l.dense ≡ 0 = omega (arith, dense_is) in
            let wide : most + 1 ≡ length (moved 1 (naturals entries) l.shape) - 0 = omega (arith, moved_size) in
            let there : map (picked 0 (take (most + 1) places)) (rows_at h.rows.first h.width h.rows.count s) ≡ map (moved 0 (naturals entries)) l.rows =
            ap (λ (x : Layout). map (picked 0 (take (most + 1) places)) x.rows) (sym (layout_shown q.sound))
            ∙ map_alike (picked 0 (take (most + 1) places)) (moved 0 (naturals entries)) l.rows each in
            let new : TableMade rows_from (most + 1) (map (moved 0 (naturals entries)) l.rows) t u = rw there at rows in (
              rw (k, none) (front_made (rw moved_size (omega (arith, q.small))) q.room (head_same refl refl lent_moved m) (rw wide at new)),
              permute_given l entries p.usable (layout_sound q.sound) p.some (rw (k, none) refl) (rw k refl),
            )
          where
            each : Each (λ r. picked 0 (take (most + 1) places) r ≡ moved 0 (naturals entries) r) l.rows
            each r i =
                rw p.largest_is
                (row_moved (naturals entries) places p.moves (omega (arith, q.small, p.largest_is)) five 0 r
                (omega (arith, (layout_sound q.sound).form.row_lengths r i, rank_shown q.sound, few)))

  -- which arm is taken
  module _ {kind : ℕ} (kind_is : kind ≡ get_or (view s) 0 0) where
    pub kind_told : {n : ℕ} → kind ≡ n → l.kind ≡ n
    kind_told e = kind_shown q.sound ∙ sym kind_is ∙ e

    pub sparse_told : (kind ≡ 0 → ⊥) → (kind ≡ 1 → ⊥) → l.kind ≡ 2
    sparse_told d g = by (one_kind (layout_sound q.sound).form)
      where
        by : OneKind l → l.kind ≡ 2
        by (dense_case k) = absurd (d (kind_is ∙ sym (kind_shown q.sound) ∙ k))
        by (diagonal_case k) = absurd (g (kind_is ∙ sym (kind_shown q.sound) ∙ k))
        by (sparse_case k) = k

-- a lent front is as long as asked
pub front_length : (n : ℕ) (ext : List ℤ) → n ≤ 5 → length ext ≡ 5 → n ≡ length (take n ext)
front_length n ext h five = sym (length-take-le n ext (omega arith))

-- ---- the whole

module _ {h : Head} {most : ℕ} {s t : List ℤ} (q : MoveAsked h most s t) (places : List ℕ) (u : List ℤ) (r : Result ⊤ Refusal) (f : FrontMoved most places (layout_in s) t u r) where
  said : (entries : List ℤ) → Permutes (layout_in s) entries most places → {r' : (Result ⊤ Refusal)} → r ≡ r' → FrontSays (permute (layout_in s) entries) (permuted (layout_in s) (naturals entries)) t u r'
  said entries p e = subst (FrontSays (permute (layout_in s) entries) (permuted (layout_in s) (naturals entries)) t u) e (f entries p)

  -- refused
  pub axes_refused : {why : Refusal} → r ≡ Err why → AxesMoved most places (layout_in s) u (Err why)
  axes_refused {why} e entries p = says_refused why 0 _ (said entries p e)

  -- or made, with its dependencies
  pub axes_moved : {v : List ℤ} → r ≡ Ok tt → DepsPicked (take (most + 2) (set places (most + 1) h.rank)) (most + 2) (layout_in s) u v → AxesMoved most places (layout_in s) v (Ok tt)
  unfolding permuted
  axes_moved {v} e d entries p =
      let g = said entries p e in
      let sound = layout_sound q.sound in
      says_made g.1
      (assembled {l = permuted (layout_in s) (naturals entries)}
      (head_stays d.only (omega (arith, size, q.small)) (omega arith) g.0.front.head)
      (table_stays d.only (inl (omega (arith, size, q.small))) g.0.front.rows)
      (rw (← deps_same sound.form.states_fit.lengths, ← wide) d.states)
      (rw (← deps_same sound.form.inputs_fit.lengths, ← wide) d.inputs))
      (permute_sound (layout_in s) entries g.1 sound) (permute_low (layout_in s) entries g.1 (deps_low q.sound))
      (omega (arith, q.room, g.0.only.size, d.only.size))
    where
      size : length (moved 1 (naturals entries) (layout_in s).shape) ≡ most + 1
      size = moved_length 1 (naturals entries) (layout_in s).shape ∙ rw p.largest_is (sym (add-one (largest (naturals entries))))

      wide : most + 2 ≡ length (moved 1 (naturals entries) (layout_in s).shape) + 1
      wide = omega (arith, size)

      deps_same : {deps : List (List ℕ)} → Each (λ x. length x ≡ suc (rank (layout_in s))) deps →
          sorted (map (picked 0 (take (most + 2) (set places (most + 1) h.rank))) deps) ≡ sorted (map (on_index (moved 0 (naturals entries))) deps)
      deps_same {deps} each =
          ap sorted (map_alike (picked 0 (take (most + 2) (set places (most + 1) h.rank))) (on_index (moved 0 (naturals entries))) deps
          (λ x i. rw p.largest_is
          (dep_moved (naturals entries) places p.moves (omega (arith, q.small, p.largest_is)) p.size h.rank x (each x i ∙ ap suc (rank_shown q.sound)) (lies q.sound).rank_few
          (omega (arith, (usable_true (layout_in s) entries p.usable).most, rank_shown q.sound)))))

-- ---- which permutations can be used

all_four : (a b c d : Bool) → ((a && b) && c) && d ≡ (a && b) && (c && d)
all_four true true c d = refl
all_four true false c d = refl
all_four false b c d = refl

some_entries : (entries : List ℤ) → (length entries ≡ 0 → ⊥) → none entries ≡ false
unfolding none
some_entries [] d = absurd (d refl)
some_entries (z ∷ entries) d = refl

module _ {h : Head} {s : List ℤ} (r : SoundRecord h s) (entries : List ℤ) where
  permutation_is : is_permutation (layout_in s) entries ≡ (not (ltb (rank (layout_in s)) (length entries)) && not (ltb (length entries) (min_rank (layout_in s)))) && names_axes entries
  unfolding is_permutation names_axes
  permutation_is = all_four (not (ltb (rank (layout_in s)) (length entries))) (not (ltb (length entries) (min_rank (layout_in s)))) (all (up_to 3) entries) (not (repeats (naturals entries)))

  unusable_says : {t : List ℤ} → is_permutation (layout_in s) entries ≡ false → Says (permute (layout_in s) entries) 0 t (Err NoPermutation)
  unfolding number_of
  unusable_says e = says_refused NoPermutation 0 _ (permute_unusable (layout_in s) entries e)

  -- more entries than axes
  pub too_many : {t : List ℤ} → h.rank < length entries → Says (permute (layout_in s) entries) 0 t (Err NoPermutation)
  too_many g = unusable_says (permutation_is ∙ rw (lt-ltb (rank (layout_in s)) (length entries) (omega (arith, rank_shown r))) refl)

  module _ (most-entries : length entries ≤ h.rank) {n : ℕ} (n-is : n ≡ min_rank_of (shape_in (take (length s - 2) (drop 2 s)))) where
    min_is : n ≡ min_rank (layout_in s)
    min_is = n-is ∙ ap min_rank_of (lent_shape r)

    -- fewer than `min_rank`
    pub too_few : {t : List ℤ} → length entries < n → Says (permute (layout_in s) entries) 0 t (Err NoPermutation)
    too_few g =
        unusable_says
        (permutation_is ∙ rw (lt-ltb (length entries) (min_rank (layout_in s)) (omega (arith, min_is)), and-false (not (ltb (rank (layout_in s)) (length entries)))) refl)

    module _ (enough : n ≤ length entries) where
      -- an entry that names no axis, or one twice
      pub unnamed_says : {t : List ℤ} → names_axes entries ≡ false → Says (permute (layout_in s) entries) 0 t (Err NoPermutation)
      unnamed_says g = unusable_says (permutation_is ∙ rw g (and-false (not (ltb (rank (layout_in s)) (length entries)) && not (ltb (length entries) (min_rank (layout_in s))))))

      module _ {most : ℕ} {places : List ℕ} (m : MovesAre entries most places) where
        usable : is_permutation (layout_in s) entries ≡ true
        usable =
            permutation_is
            ∙ rw (le-ltb (rank (layout_in s)) (length entries) (omega (arith, rank_shown r)), le-ltb (length entries) (min_rank (layout_in s)) (omega (arith, min_is)), m.named)

        -- none: a copy
        pub empty_says : {t : List ℤ} → length entries ≡ 0 → Loaded s t → Says (permute (layout_in s) entries) 0 t (Ok tt)
        empty_says z d = says_made (permute_empty (layout_in s) entries usable (none_empty entries z)) d.layout (layout_sound r) (deps_low r) (omega (arith, d.holds.inside))

        -- some: the axes are moved
        pub ask_move : {t : List ℤ} → part_size ≤ length t → MoveAsked h most s t
        ask_move room = record { sound = r; small = omega (arith, m.largest_is, (usable_true (layout_in s) entries usable).small); room = room }

        pub permutes : (length entries ≡ 0 → ⊥) → Permutes (layout_in s) entries most places
        permutes d = record {
          usable = usable;
          some = some_entries entries d;
          largest_is = m.largest_is;
          size = m.size;
          moves = m.moves;
        }
