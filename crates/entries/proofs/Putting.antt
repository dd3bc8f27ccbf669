-- One entry put if it is small, and a list of a block that becomes a table: `put_small` and `list_block`. Assumes nothing.
use mathlib.Core.Path.{◌≡◌, refl, sym, ◌∙◌}
use mathlib.Core.Bool.{Bool, true, false, ◌&&◌}
use mathlib.Core.List.{List, [], ◌∷◌}
use Prim.Native.Nat.{ℕ, zero, suc, ◌+◌, ◌<◌, ◌≤◌}
use native.Mathlib.Omega.{arith}
use lib.IntN.{ℤ, pos}
use lib.ListN.{length, get_or, set, take, replicate, length-map, length-take, length-replicate, get_or-replicate}
use lib.Seq.{get_or-take}
use Rattle.rules.specs.declared.Head.{Head}
use Rattle.rules.specs.Limits.{product_limit}
use Rattle.rules.specs.Lists.{all, all_below}
use Rattle.rules.specs.RowsInOrder.{sorted}
use Rattle.rules.specs.Buffers.{part}
use Rattle.rules.specs.Layout.{few}
use Rattle.rules.specs.Record.{layout_in}
use Rattle.rules.proofs.Same.{true_not_false}
use Rattle.rules.proofs.Low.{below_at, at_below}
use Rattle.cells.specs.View.{view}
use Rattle.tables.specs.Rows.{row_at}
use Rattle.tables.specs.Tables.{table_at, room_end, Put, Taken}
use Rattle.tables.proofs.Rows.{front_row}
use Rattle.tables.proofs.Only.{only_same, only_then, only_wider, only_set}
use Rattle.tables.proofs.Passing.{Passed, none_passed, one_more, one_fails, all_passed}
use Rattle.tables.proofs.Taking.{taken_none, taken_all, taken_next, taken_over, cleared_ready, cleared_listed}
use Rattle.entries.specs.declared.entries.Listed.{Listed}
use Rattle.entries.specs.Listing.{listed, moved_list, axes_in, ListAsked, StartLow, EntryIs}
use Rattle.entries.specs.Merging.{small_to, SmallAsked, PutSmall, TableAsked, Tabled}
use Rattle.entries.proofs.Sizes.{AxesFew, axes_few}

-- ---- one entry: `put_small`

-- four limits
abbrev pub limits : List ℤ
limits = pos product_limit ∷ pos product_limit ∷ pos product_limit ∷ pos product_limit ∷ []

limits_row : (n : ℕ) → n ≤ 4 → row_at 0 n limits ≡ replicate n product_limit
unfolding part view
limits_row zero h = refl
limits_row (suc zero) h = refl
limits_row (suc (suc zero)) h = refl
limits_row (suc (suc (suc zero))) h = refl
limits_row (suc (suc (suc (suc zero)))) h = refl
limits_row (suc (suc (suc (suc (suc n))))) h = absurd (omega arith)

-- numbers behind the last extent are not held against one
cut_below : (n v : ℕ) (l : List ℕ) → all_below (take n l) (replicate n v) ≡ all_below l (replicate n v)
unfolding all_below
cut_below zero v [] = refl
cut_below zero v (c ∷ l) = refl
cut_below (suc n) v [] = refl
cut_below (suc n) v (c ∷ l) = rw (cut_below n v l)

-- a row is small if its first n numbers are, and then each of them is
pub small_is : (n : ℕ) (row : List ℕ) → ((k : ℕ) → k < n → get_or row k 0 < product_limit) → small_to n row ≡ true
small_is n row f =
    rw (← cut_below n product_limit row)
    (at_below (take n row) (replicate n product_limit)
    (λ k h.
    let i : k < n = omega (arith, simp length-take at h) in
    rw (get_or-take n row k 0 i, get_or-replicate n k product_limit 0 i) (f k i)))

pub small_at : (n : ℕ) (row : List ℕ) → small_to n row ≡ true → (k : ℕ) → k < n → k < length row → get_or row k 0 < product_limit
small_at n row e k h i = rw (get_or-replicate n k product_limit 0 h) at (below_at row (replicate n product_limit) e k i (rw length-replicate h))

module _ {entry : List ℤ} {n to w : ℕ} {s : List ℤ} (a : SmallAsked entry n to w s) where
  module _ {b : Bool} (told : b ≡ all_below (row_at 0 n entry) (row_at 0 n limits)) where
    small_told : small_to n (row_at 0 w entry) ≡ b
    small_told =
        sym (told ∙ rw (limits_row n a.narrow, front_row 0 n w entry a.upto) (cut_below n product_limit (row_at 0 w entry)))

    pub too_large : b ≡ false → PutSmall to w n (row_at 0 w entry) s s false
    too_large f = record {
      small = λ e. absurd (true_not_false e refl);
      put = λ e. absurd (true_not_false (sym small_told ∙ e) f);
      only = only_same to (room_end to w) s;
    }

    pub small_put : b ≡ true → {t : List ℤ} {r : Bool} → Put to w (row_at 0 w entry) s t r → PutSmall to w n (row_at 0 w entry) s t r
    small_put f p = record { small = λ e. small_told ∙ f; put = λ e. p; only = p.only }

-- ---- a list of a block: `list_block`

-- the first i entries are small, and in the table
pub record Tabling (x : Listed) (h : Head) (src : List ℤ) (start : List ℕ) (r w to count n i : ℕ) (s t : List ℤ) : Type 0 where
  pub list : ListAsked x h src r w
  pub start_low : StartLow start
  pub axes : n ≡ axes_in x r w
  pub size : count ≡ length (listed x r (layout_in src))
  pub small : Passed (small_to n) count i (moved_list x r (take r start) (layout_in src))
  pub taken : Taken to w (take i (moved_list x r (take r start) (layout_in src))) s t true

-- of two tests of which the second fails, not both hold
pub either_fails : (a b : Bool) → b ≡ false → false ≡ a && b
either_fails true b e = sym e
either_fails false b e = refl

module _ {x : Listed} {h : Head} {src : List ℤ} {start : List ℕ} {r w to : ℕ} {old : List ℤ} (a : TableAsked x h src start r w to old) {s : List ℤ} (e : s ≡ set old to (pos 0)) where
  pub table_start : {count n : ℕ} → count ≡ length (listed x r (layout_in src)) → n ≡ axes_in x r w → Tabling x h src start r w to count n 0 s s
  table_start c m = record {
    list = a.list;
    start_low = a.start_low;
    axes = m;
    size = c;
    small = none_passed (rw length-map (sym c));
    taken = taken_none (cleared_ready old e a.room);
  }

module _ {x : Listed} {h : Head} {src : List ℤ} {start : List ℕ} {r w to count n i : ℕ} {s t : List ℤ} (g : Tabling x h src start r w to count n i s t) where
  abbrev moved : List (List ℕ)
  moved = moved_list x r (take r start) (layout_in src)

  in_all : AxesFew n r w
  in_all = rw g.axes (axes_few x (layout_in src) g.list.fits g.list.few)

  module _ (o : i < count) where
    pub ask_entry : StartLow start × (i < length (listed x r (layout_in src)))
    ask_entry = (g.start_low, rw (← g.size) o)

    inside : i < length moved
    inside = rw length-map ask_entry.1

    module _ (entry : List ℤ) (long : length entry ≡ 5) (is : EntryIs w (get_or moved i []) entry) where
      pub ask_small : SmallAsked entry n to w t
      ask_small = record {
        row = record { room = omega (arith, in_all.narrow); low = rw is.is is.low };
        narrow = omega (arith, in_all.within, g.list.few);
        upto = in_all.upto;
        target = g.taken.ready refl;
      }

      module _ {u : List ℤ} {b : Bool} (p : PutSmall to w n (row_at 0 w entry) t u b) where
        put : PutSmall to w n (get_or moved i []) t u b
        put = rw is.is at p

        pub table_turn : b ≡ true → Tabling x h src start r w to count n (i + 1) s u
        table_turn f = record {
          list = g.list;
          start_low = g.start_low;
          axes = g.axes;
          size = g.size;
          small = one_more g.small [] o (sym (put.small f)) refl;
          taken = taken_next i moved g.taken inside f is.low (put.put (put.small f));
        }

        pub table_stop : b ≡ false → {old : List ℤ} → TableAsked x h src start r w to old → s ≡ set old to (pos 0) → Tabled to w (axes_in x r w) (room_end to w) moved old u false
        table_stop f {old} a e = rw (← g.axes) (by (small_to n (get_or moved i [])) refl)
          where
            none : {z : List (List ℕ)} → false ≡ true → table_at to w u ≡ z
            none z = absurd (true_not_false z refl)

            by : (v : Bool) → small_to n (get_or moved i []) ≡ v → Tabled to w n (room_end to w) moved old u false
            by true k =
                let q = cleared_listed old e a.room (taken_over i moved g.taken inside f is.low (put.put k)) in
                record { verdict = either_fails (all (small_to n) moved) (few (sorted moved)) (sym q.verdict); table = none; ready = λ z. absurd (true_not_false z refl); only = q.only }
            by false k =
                record {
                  verdict = rw (← one_fails g.small [] o (sym k) refl);
                  table = none;
                  ready = λ z. absurd (true_not_false z refl);
                  only = only_then (rw e (only_wider (only_set to (pos 0) old) to (room_end to w) (omega arith) (omega arith))) (only_then g.taken.only put.only);
                }

  pub table_done : count ≤ i → {old : List ℤ} → TableAsked x h src start r w to old → s ≡ set old to (pos 0) → Tabled to w (axes_in x r w) (room_end to w) moved old t true
  table_done o {old} a e =
      let all_there : length moved ≤ i = omega (arith, g.small.size) in
      let q = cleared_listed old e a.room (taken_all i moved g.taken all_there) in
      rw (← g.axes) (record { verdict = rw (← all_passed g.small o) q.verdict; table = q.table; ready = q.ready; only = q.only })
