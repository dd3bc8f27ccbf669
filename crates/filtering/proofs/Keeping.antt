-- `put_held` and `keep_each`: those of the first i entries that are held are in the table. Assumes nothing.
use mathlib.Core.Path.{◌≡◌, refl, sym, ap, ◌∙◌}
use mathlib.Core.Bool.{Bool, true, false}
use mathlib.Core.List.{List, [], ◌∷◌, ◌++◌}
use mathlib.Core.Logic.{◌⊎◌, inl, inr, ⊎_elim}
use Prim.Native.Nat.{ℕ, ◌+◌, ◌*◌, ◌-◌, ◌<◌, ◌≤◌}
use native.Mathlib.Nat.{mul-le-mul_right}
use native.Mathlib.Numerals.{add-one}
use native.Mathlib.Omega.{arith}
use borrow.Author.Tests.{le-leb}
use lib.IntN.{ℤ, pos}
use lib.ListN.{length, get_or, set, take, length-take}
use lib.Seq.{take-suc, take_all, take-take}
use Rattle.rules.specs.Lists.{keep, put_if}
use Rattle.rules.specs.Buffers.{part}
use Rattle.rules.specs.RowsInOrder.{sorted}
use Rattle.rules.specs.Layout.{Layout}
use Rattle.rules.specs.Dependencies.{index_of, held, filter_deps}
use Rattle.rules.proofs.Changed.{take_low}
use Rattle.rules.proofs.Keeping.{keep_increasing, keep_length}
use Rattle.rules.proofs.Sorting.{sorted_id, sorted_length}
use Rattle.cells.specs.View.{view}
use Rattle.tables.specs.Rows.{row_at}
use Rattle.tables.specs.Tables.{table_at, room_end, Only, Ready, RowApart, Put, Taken}
use Rattle.tables.proofs.Rows.{row_ends, row_of, row_length, has_row}
use Rattle.tables.proofs.Only.{only_then, row_outside, has_row_outside, table_outside, ready_outside, count_outside}
use Rattle.tables.proofs.Tables.{table_rows, table_length, fits_rows}
use Rattle.tables.proofs.Made.{emptied}
use Rattle.tables.proofs.Taking.{cleared_only, cleared_ready, taken_none, taken_one, taken_then}
use Rattle.parts.specs.Parts.{states_from, rank_at}
use Rattle.filtering.specs.Filtering.{filter_at, Filters, HeldAsked, taken_if, EntryAsked, KeepAsked, Kept}
use Rattle.filtering.proofs.Held.{rank_same, filter_same, filters_still}

-- ---- one entry

module _ {at p to w : ℕ} {s : List ℤ} (a : EntryAsked at p to w s) where
  front : take (rank_at at s) (row_at p w s) ≡ row_at p (rank_at at s) s
  unfolding part
  front = take-take (rank_at at s) w _ (omega (arith, a.width))

  -- its index stands before its number
  pub index_there : row_at p (rank_at at s) s ≡ index_of (row_at p w s)
  index_there =
      let e : length (row_at p w s) - 1 ≡ rank_at at s = omega (arith, row_length p w s a.entry.room, a.width) in
      rw e (sym front)

  pub ask_held : HeldAsked at p s
  ask_held = record {
    filters = a.filters;
    index = record { room = omega (arith, a.entry.room, a.width); low = rw (← front) (take_low (rank_at at s) (row_at p w s) a.entry.low) };
  }

  pub ask_put : Ready to w s × RowApart to w p s
  ask_put = (a.target, record { row = a.entry; narrow = omega (arith, a.width, a.filters.rank_most); apart = a.apart })

  module _ {b : Bool} (b-is : b ≡ held (filter_at at s) (row_at p (rank_at at s) s)) where
    test : held (filter_at at s) (index_of (row_at p w s)) ≡ b
    test = sym (b-is ∙ ap (held (filter_at at s)) index_there)

    pub put_taken : b ≡ true → {t : List ℤ} {r : Bool} → Put to w (row_at p w s) s t r →
        Taken to w (taken_if (held (filter_at at s) (index_of (row_at p w s))) (row_at p w s)) s t r
    put_taken e q = rw (test, e) (taken_one a.target a.entry.low q)

    pub none_taken : b ≡ false → Taken to w (taken_if (held (filter_at at s) (index_of (row_at p w s))) (row_at p w s)) s s true
    none_taken e = rw (test, e) (taken_none a.target)

-- ---- the walk

-- one entry more
keep_snoc : (test : List ℕ → Bool) (t : List (List ℕ)) (x : List ℕ) → keep test (t ++ (x ∷ [])) ≡ keep test t ++ taken_if (test x) x
unfolding keep
keep_snoc test [] x = go (test x) refl
  where
    go : (b : Bool) → test x ≡ b → keep test (x ∷ []) ≡ taken_if (test x) x
    go true e = rw e
    go false e = rw e
keep_snoc test (y ∷ t) x = go (test y) (keep_snoc test t x)
  where
    go : (b : Bool) → keep test (t ++ (x ∷ [])) ≡ keep test t ++ taken_if (test x) x → put_if b y (keep test (t ++ (x ∷ []))) ≡ put_if b y (keep test t) ++ taken_if (test x) x
    go true e = rw e
    go false e = e

-- what is asked once the table is empty
pub record WalkAsked (at from to w n : ℕ) (s : List ℤ) : Type 0 where
  pub filters : Filters at s
  pub width : w ≡ rank_at at s + 1
  pub entries : Ready from w s
  pub count_is : n ≡ get_or (view s) from 0
  pub empty : table_at to w s ≡ []
  pub target : Ready to w s
  pub apart : (at + states_from ≤ to) ⊎ (room_end to w ≤ at)
  pub entries_apart : (room_end from w ≤ to) ⊎ (room_end to w ≤ from)

pub record Walk (at from to w n i : ℕ) (s t : List ℤ) : Type 0 where
  pub asked : WalkAsked at from to w n s
  pub upto : i ≤ n
  pub most : n ≤ 128
  pub taken : Taken to w (filter_deps (filter_at at s) (take i (table_at from w s))) s t true

module _ {at from to w n : ℕ} {s : List ℤ} where
  begin : WalkAsked at from to w n s → Walk at from to w n 0 s s
  unfolding filter_deps keep
  begin a = record { asked = a; upto = omega arith; most = omega (arith, a.entries.fits.few, a.count_is); taken = taken_none a.target }

  module _ {i : ℕ} {t : List ℤ} (g : Walk at from to w n i s t) where
    abbrev rows : List (List ℕ)
    rows = table_at from w s

    abbrev l : Layout
    l = filter_at at s

    module _ (h : i < n) where
      -- where entry i ends
      ended : from + 1 + i * w + w ≤ room_end from w
      ended =
          let small : n * w ≤ 128 * w = mul-le-mul_right w g.most in
          omega (arith, row_ends w h)

      pub entry_ended : from + 1 + i * w + w ≤ length t
      entry_ended = omega (arith, ended, g.asked.entries.fits.room, g.taken.only.size)

      entry_apart : (from + 1 + i * w + w ≤ to) ⊎ (room_end to w ≤ from + 1 + i * w)
      entry_apart = ⊎_elim (λ x. inl (omega (arith, ended))) (λ x. inr (omega arith)) g.asked.entries_apart

      pub ask_entry : EntryAsked at (from + 1 + i * w) to w t
      ask_entry = record {
        filters = filters_still g.taken.only g.asked.apart g.asked.filters;
        width = g.asked.width ∙ sym (ap (λ (k : ℕ). k + 1) (rank_same g.taken.only g.asked.apart g.asked.filters));
        entry = has_row_outside g.taken.only (has_row (from + 1) w n s (fits_rows g.asked.entries.fits g.asked.count_is) i h) entry_apart;
        target = g.taken.ready refl;
        apart = entry_apart;
      }

      entry_is : row_at (from + 1 + i * w) w t ≡ get_or rows i []
      entry_is =
          row_outside g.taken.only (from + 1 + i * w) w entry_apart
          ∙ sym (row_of (from + 1) w n s i h)
          ∙ ap (λ (x : List (List ℕ)). get_or x i []) (sym (table_rows from w n s g.asked.count_is))

      module _ {u : List ℤ} {r : Bool} (p : Taken to w (taken_if (held (filter_at at t) (index_of (row_at (from + 1 + i * w) w t))) (row_at (from + 1 + i * w) w t)) t u r) where
        one_more : Taken to w (filter_deps l (take (i + 1) rows)) s u r
        unfolding filter_deps
        one_more =
            rw (add-one i, take-suc rows i [] (rw table_length (omega (arith, g.asked.count_is))), keep_snoc (λ d. held l (index_of d)) (take i rows) (get_or rows i []))
            (taken_then g.taken (rw (filter_same g.taken.only g.asked.apart g.asked.filters, entry_is) at p))

        -- there is room
        fits : r ≡ true
        unfolding filter_deps
        fits =
            let kept = keep (λ d. held l (index_of d)) (take (i + 1) rows) in
            let most : length kept ≤ i + 1 = omega (arith, keep_length (λ d. held l (index_of d)) (take (i + 1) rows), length-take (i + 1) rows) in
            one_more.verdict ∙ rw g.asked.empty (le-leb (length (sorted kept)) 128 (omega (arith, sorted_length kept, g.most)))

        pub turn : Walk at from to w n (i + 1) s u
        turn = record { asked = g.asked; upto = omega arith; most = g.most; taken = rw fits at one_more }

    all_kept : n ≤ i → table_at to w t ≡ filter_deps l rows
    unfolding filter_deps
    all_kept h =
        let e : take i rows ≡ rows = take_all i rows (rw table_length (omega (arith, g.asked.count_is))) in
        rw e at (rw g.asked.empty at (g.taken.table refl)) ∙ sorted_id (keep_increasing (λ d. held l (index_of d)) g.asked.entries.increasing)

-- ---- from an emptied table on

-- what is asked, by the width of an entry
module _ {at from to w : ℕ} {s : List ℤ} (a : KeepAsked at from to s) (w-is : w ≡ rank_at at s + 1) where
  pub narrow : w ≤ 5
  narrow = omega (arith, a.filters.rank_most)

  pub room : room_end to w ≤ length s
  room = let m = narrow in omega (arith, a.room)

  pub entries : Ready from w s
  entries = rw w-is a.entries

  pub apart : (at + states_from ≤ to) ⊎ (room_end to w ≤ at)
  apart = let m = narrow in ⊎_elim (λ x. inl x) (λ x. inr (omega arith)) a.apart

  pub entries_apart : (room_end from w ≤ to) ⊎ (room_end to w ≤ from)
  entries_apart = let m = narrow in ⊎_elim (λ x. inl (omega arith)) (λ x. inr (omega arith)) a.entries_apart

module _ {at from to w n : ℕ} {s t : List ℤ} (a : KeepAsked at from to s) (w-is : w ≡ rank_at at s + 1) (n-is : n ≡ get_or (view s) from 0) (e : t ≡ set s to (pos 0)) where
  cleared : Only to (room_end to w) s t
  cleared = cleared_only s e (room_end to w) (omega arith)

  pub start : Walk at from to w n 0 t t
  start = begin (record {
    filters = filters_still cleared (apart a w-is) a.filters;
    width = w-is ∙ sym (ap (λ (k : ℕ). k + 1) (rank_same cleared (apart a w-is) a.filters));
    entries = ready_outside cleared (entries a w-is) (entries_apart a w-is);
    count_is = n-is ∙ sym (count_outside cleared from w (entries a w-is).fits.few (entries_apart a w-is));
    empty = rw e (emptied to w s (room a w-is));
    target = cleared_ready s e (room a w-is);
    apart = apart a w-is;
    entries_apart = entries_apart a w-is;
  })

  pub done : {i : ℕ} {u : List ℤ} → Walk at from to w n i t u → n ≤ i → Kept at from to s u
  done g h = record {
    table = rw (← w-is, ← filter_same cleared (apart a w-is) a.filters, ← table_outside cleared from w (entries a w-is).fits.few (entries_apart a w-is)) (all_kept g h);
    ready = rw (← w-is) (g.taken.ready refl);
    only = rw (← w-is) (only_then cleared g.taken.only);
  }
