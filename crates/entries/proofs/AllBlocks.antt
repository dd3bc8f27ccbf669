-- The entries of all blocks in one table: `merge_blocks`. Assumes nothing.
use mathlib.Core.Path.{◌≡◌, refl, sym, ap, ◌∙◌}
use mathlib.Core.Bool.{Bool, true, false, ◌&&◌}
use mathlib.Core.List.{List, [], ◌∷◌, ◌++◌, append-nil}
use Prim.Native.Nat.{ℕ, ◌+◌, ◌-◌, ◌<◌, ◌≤◌}
use native.Mathlib.Numerals.{add-one}
use native.Mathlib.Omega.{arith}
use borrow.Author.Tests.{leb-false, lt-leb, le-leb}
use lib.IntN.{ℤ, pos}
use lib.ListN.{length, get_or, set, take, drop, length-map, take-append-drop}
use lib.Seq.{take-suc, take_all}
use Rattle.rules.specs.Lists.{all, gather}
use Rattle.rules.specs.RowsInOrder.{sorted}
use Rattle.rules.specs.Layout.{few}
use Rattle.rules.specs.Record.{block_at}
use Rattle.rules.specs.Concatenate.{Block, block_of}
use Rattle.rules.proofs.Same.{true_not_false, both_true}
use Rattle.rules.proofs.Ranges.{map_at}
use Rattle.rules.proofs.Gathering.{gather_append}
use Rattle.rules.proofs.Merging.{sorted_left, merge_length_left}
use Rattle.rules.proofs.Tests.{all_append}
use Rattle.tables.specs.Tables.{table_at, room_end, Only}
use Rattle.tables.proofs.Only.{only_same, only_then, only_wider, only_set}
use Rattle.tables.proofs.Tables.{table_length}
use Rattle.tables.proofs.Made.{emptied}
use Rattle.tables.proofs.Taking.{cleared_ready}
use Rattle.parts.specs.Parts.{window_size, spare}
use Rattle.lists.specs.Places.{standing, Inside}
use Rattle.lists.specs.Starts.{blocks_at}
use Rattle.lists.proofs.Beginning.{length_standing, lent_at, place_inside, place_fits}
use Rattle.entries.specs.declared.entries.Listed.{Listed}
use Rattle.entries.specs.Listing.{axes_in}
use Rattle.entries.specs.Merging.{small_to, Tabled, TargetReady, MergedMore, entries_of, joined, BlockAsked, AllAsked, blocks_of}
use Rattle.entries.proofs.Putting.{either_fails}

-- ---- tests of what is gathered

-- what the first blocks give, and what the next one does
module _ {B : Type 0} (f : Block → List B) (blocks : List Block) (i : ℕ) (d : Block) (h : i < length blocks) where
  gather_more : gather f (take (i + 1) blocks) ≡ gather f (take i blocks) ++ f (get_or blocks i d)
  unfolding gather
  gather_more = rw (add-one i, take-suc blocks i d h, gather_append f (take i blocks) (get_or blocks i d ∷ []), append-nil)

  gather_rest : gather f blocks ≡ gather f (take (i + 1) blocks) ++ gather f (drop (i + 1) blocks)
  gather_rest = ap (gather f) (sym (take-append-drop (i + 1) blocks)) ∙ gather_append f (take (i + 1) blocks) (drop (i + 1) blocks)

-- ---- the loop

-- the block at a place of a slice, as it is lent
block_at_lem : (r n : ℕ) {places : List ℕ} {s : List ℤ} (p : Inside n places s) {i : ℕ} → i < n →
    get_or (blocks_of r n places s) i (block_of (block_at r [])) ≡ block_of (block_at r (take (length s - get_or places i 0) (drop (get_or places i 0) s)))
block_at_lem r n {places} {s} p {i} h =
    map_at block_of (blocks_at r n places s) i (block_at r []) (block_of (block_at r [])) (rw (length-map, length_standing p) h)
    ∙ ap block_of (map_at (block_at r) (standing n places s) i [] (block_at r []) (rw length_standing h))
    ∙ ap (λ (t : List ℤ). block_of (block_at r t)) (sym (lent_at p h))

-- the entries of the first i blocks are small, and are the table
pub record Joining (x : Listed) (r w n : ℕ) (places : List ℕ) (starts : List (List ℕ)) (src : List ℤ) (at i : ℕ) (s t : List ℤ) : Type 0 where
  pub asked : AllAsked x r w n places starts src
  pub upto : i ≤ n
  pub target : TargetReady at w t
  pub small : all (small_to (axes_in x r w)) (gather (entries_of x r) (take i (blocks_of r n places src))) ≡ true
  pub table : table_at at w t ≡ sorted (gather (entries_of x r) (take i (blocks_of r n places src)))
  pub only : Only at window_size s t

cleared_only : {at w : ℕ} {old s : List ℤ} → (room_end at w ≤ spare) × (w ≤ 5) × (window_size ≤ length old) → s ≡ set old at (pos 0) → Only at window_size old s
cleared_only {at} {old = old} q e = rw e (only_wider (only_set at (pos 0) old) at window_size (omega arith) (omega (arith, q.0)))

-- the table was cleared at the beginning
pub join_cleared : {at w : ℕ} {old s t : List ℤ} {m : ℕ} {rows : List (List ℕ)} {v : Bool} → (room_end at w ≤ spare) × (w ≤ 5) × (window_size ≤ length old) → s ≡ set old at (pos 0) →
    Tabled at w m window_size rows s t v → Tabled at w m window_size rows old t v
join_cleared q e p = record { verdict = p.verdict; table = p.table; ready = p.ready; only = only_then (cleared_only q e) p.only }

module _ {x : Listed} {r w n : ℕ} {places : List ℕ} {starts : List (List ℕ)} {src : List ℤ} {at : ℕ} where
  pub join_start : AllAsked x r w n places starts src → (old : List ℤ) {s : List ℤ} → (room_end at w ≤ spare) × (w ≤ 5) × (window_size ≤ length old) → s ≡ set old at (pos 0) →
      Joining x r w n places starts src at 0 s s
  unfolding gather all sorted
  join_start a old {s} q e =
      let room : room_end at w ≤ length old = omega (arith, q.0, q.2) in
      let o : Only at window_size old s = cleared_only q e in
      record {
        asked = a;
        upto = omega arith;
        target = record { ready = cleared_ready old e room; before = q.0; narrow = q.1; room = rw o.size q.2 };
        small = refl;
        table = rw e (emptied at w old room);
        only = only_same at window_size s;
      }

  module _ {i : ℕ} {s t : List ℤ} (g : Joining x r w n places starts src at i s t) where
    abbrev the_blocks : List Block
    the_blocks = blocks_of r n places src

    blocks_length : length the_blocks ≡ n
    blocks_length = rw (length-map, length-map, length_standing g.asked.inside)

    pub join_done : n ≤ i → Tabled at w (axes_in x r w) window_size (joined x r the_blocks) s t true
    join_done h =
        let every : take i the_blocks ≡ the_blocks = take_all i the_blocks (rw blocks_length h) in
        let small : all (small_to (axes_in x r w)) (joined x r the_blocks) ≡ true = rw every at g.small in
        let table : table_at at w t ≡ sorted (joined x r the_blocks) = rw every at g.table in
        record {
          verdict = rw (small, ← table) (sym (le-leb (length (table_at at w t)) 128 (rw table_length g.target.ready.fits.few)));
          table = λ _. table;
          ready = λ _. g.target.ready;
          only = g.only;
        }

    module _ (h : i < n) where
      abbrev here : Block
      here = block_of (block_at r (take (length src - get_or places i 0) (drop (get_or places i 0) src)))

      pub ask_block : BlockAsked x r w (get_or starts i []) (take (length src - get_or places i 0) (drop (get_or places i 0) src))
      ask_block = rw (lent_at g.asked.inside h) (g.asked.each i h)

      more : gather (entries_of x r) (take (i + 1) the_blocks) ≡ gather (entries_of x r) (take i the_blocks) ++ entries_of x r here
      more =
          gather_more (entries_of x r) the_blocks i (block_of (block_at r [])) (rw blocks_length h)
          ∙ ap (λ (b : Block). gather (entries_of x r) (take i the_blocks) ++ entries_of x r b) (block_at_lem r n g.asked.inside h)

      module _ {u : List ℤ} {v : Bool} (m : MergedMore at w (all (small_to (axes_in x r w)) (entries_of x r here)) (entries_of x r here) t u v) where
        both : sorted (table_at at w t ++ entries_of x r here) ≡ sorted (gather (entries_of x r) (take (i + 1) the_blocks))
        both = rw (g.table, more) (sorted_left (gather (entries_of x r) (take i the_blocks)) (entries_of x r here))

        small_more : all (small_to (axes_in x r w)) (gather (entries_of x r) (take (i + 1) the_blocks)) ≡ all (small_to (axes_in x r w)) (entries_of x r here)
        small_more = rw (more, all_append (small_to (axes_in x r w)) (gather (entries_of x r) (take i the_blocks)) (entries_of x r here), g.small)

        pub join_turn : v ≡ true → Joining x r w n places starts src at (i + 1) s u
        join_turn e =
            let yes = e in
            record {
              asked = g.asked;
              upto = omega arith;
              target = record { ready = m.ready yes; before = g.target.before; narrow = g.target.narrow; room = rw m.only.size g.target.room };
              small = small_more ∙ (both_true (all (small_to (axes_in x r w)) (entries_of x r here)) (few (sorted (table_at at w t ++ entries_of x r here))) (sym m.verdict ∙ yes)).0;
              table = m.table yes ∙ both;
              only = only_then g.only m.only;
            }

        -- one block is not small, or makes too many
        pub join_stop : v ≡ false → Tabled at w (axes_in x r w) window_size (joined x r the_blocks) s u false
        join_stop e = record {
          verdict = fails (all (small_to (axes_in x r w)) (gather (entries_of x r) (take (i + 1) the_blocks))) refl;
          table = λ z. absurd (true_not_false z refl);
          ready = λ z. absurd (true_not_false z refl);
          only = only_then g.only m.only;
        }
          where
            first : List (List ℕ)
            first = gather (entries_of x r) (take (i + 1) the_blocks)

            rest : List (List ℕ)
            rest = gather (entries_of x r) (drop (i + 1) the_blocks)

            whole : joined x r the_blocks ≡ first ++ rest
            whole = gather_rest (entries_of x r) the_blocks i (block_of (block_at r [])) (rw blocks_length h)

            told : all (small_to (axes_in x r w)) first && few (sorted first) ≡ false
            told = rw (small_more, ← both) (sym m.verdict ∙ e)

            fails : (a : Bool) → all (small_to (axes_in x r w)) first ≡ a → false ≡ all (small_to (axes_in x r w)) (joined x r the_blocks) && few (sorted (joined x r the_blocks))
            fails true f =
                let long : few (sorted first) ≡ false = rw f at told in
                either_fails (all (small_to (axes_in x r w)) (joined x r the_blocks)) (few (sorted (joined x r the_blocks)))
                (rw whole (lt-leb (length (sorted (first ++ rest))) 128 (omega (arith, leb-false (length (sorted first)) 128 long, merge_length_left first rest))))
            fails false f = rw (whole, all_append (small_to (axes_in x r w)) first rest, f)

pub ruleset joining = (place_inside, place_fits)
