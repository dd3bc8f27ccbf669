-- What one block gives: its start, its record and its entries. Assumes nothing.
use Rattle.std.specs.Prelude.{None, Option, Some}
use mathlib.Core.Path.{◌≡◌, refl, sym, ap, ◌∙◌}
use mathlib.Core.Bool.{Bool, true, false}
use mathlib.Core.List.{List, [], ◌∷◌, ◌++◌, map}
use Prim.Native.Nat.{ℕ, ◌+◌, ◌-◌, ◌≤◌}
use native.Mathlib.Numerals.{add-one}
use native.Mathlib.Omega.{arith}
use borrow.Author.Tests.{ltb-true, ltb-false}
use lib.Dec.{ltb}
use lib.IntN.{ℤ}
use lib.ListN.{length, take, drop, length-map, drop_of_length-le}
use lib.Seq.{get_or-take, length-take-le, ext_get_or}
use Rattle.rules.specs.declared.Head.{Head}
use Rattle.rules.specs.Lists.{all, fit_to}
use Rattle.rules.specs.Record.{layout_in, naturals, sound, walk, section_at, entries_from, block_at}
use Rattle.rules.specs.Dependencies.{index_of, on_index}
use Rattle.rules.specs.Concatenate.{Block, block_of, moved_by}
use Rattle.rules.proofs.Same.{true_not_false}
use Rattle.rules.proofs.Replaced.{fit_length}
use Rattle.tables.specs.Tables.{table_at, room_end, Ready}
use Rattle.parts.specs.Parts.{window_size, spare}
use Rattle.records.specs.Sound.{SoundRecord}
use Rattle.records.proofs.EndToEnd.{to_end}
use Rattle.records.proofs.SoundRecords.{broken_unsound}
use Rattle.entries.specs.declared.entries.Listed.{Listed}
use Rattle.entries.specs.declared.entries.Listed.TheVariants.{Rows, States, Inputs}
use Rattle.entries.specs.Listing.{fitted, moved_list, axes_in}
use Rattle.entries.specs.Merging.{small_to, TableAsked, Tabled, TargetReady, MergedMore, entries_of, left_out, BlockAsked}
use Rattle.entries.proofs.Spare.{none_merged, list_over, ask_target, ask_spare, list_merged}

-- ---- entries

-- what is behind a start stays
moved_append : (start p q : List ℕ) → length start ≡ length p → moved_by start (p ++ q) ≡ moved_by start p ++ q
unfolding moved_by
moved_append [] [] q e = refl
moved_append [] (c ∷ p) q e = absurd (omega arith)
moved_append (s ∷ start) [] q e = absurd (omega arith)
moved_append (s ∷ start) (c ∷ p) q e = ap (λ (t : List ℕ). (s + c) ∷ t) (moved_append start p q (omega arith))

-- a dependency fitted and moved
dep_moved : (start : List ℕ) (r : ℕ) (d : List ℕ) → length start ≡ r → on_index (λ index. moved_by start (fit_to r 0 index)) d ≡ moved_by start (on_index (fit_to r 0) d)
unfolding on_index
dep_moved start r d e = sym (moved_append start (fit_to r 0 (index_of d)) (drop (length d - 1) d) (e ∙ sym (fit_length r 0 (index_of d))))

-- all of them
deps_moved : (start : List ℕ) (r : ℕ) (deps : List (List ℕ)) → length start ≡ r →
    map (on_index (λ index. moved_by start (fit_to r 0 index))) deps ≡ map (moved_by start) (fitted r deps)
deps_moved start r [] e = refl
deps_moved start r (d ∷ deps) e = rw (dep_moved start r d e, deps_moved start r deps e)

-- the entries of a block that is not left out
entries_moved : (x : Listed) (r : ℕ) (b : Block) → length b.start ≡ r → left_out x b ≡ false → entries_of x r b ≡ moved_list x r b.start b.layout
entries_moved Rows r b e f = rw f
entries_moved States r b e f = deps_moved b.start r b.layout.states e
entries_moved Inputs r b e f = deps_moved b.start r b.layout.inputs e

-- and of one that is
entries_none : (x : Listed) (r : ℕ) (b : Block) → left_out x b ≡ true → entries_of x r b ≡ []
entries_none Rows r b f = rw f
entries_none States r b f = absurd (true_not_false f refl)
entries_none Inputs r b f = absurd (true_not_false f refl)

-- ---- the block in a slice

none_sound : sound [] ≡ false
unfolding sound walk section_at entries_from
none_sound = refl

module _ {x : Listed} {r w : ℕ} {start : List ℕ} {block : List ℤ} (a : BlockAsked x r w start block) where
  -- the record is there
  pub record_inside : r + 1 ≤ length block
  record_inside = by (ltb (length block) (r + 1)) refl
    where
      by : (t : Bool) → ltb (length block) (r + 1) ≡ t → r + 1 ≤ length block
      by true e =
          let none : drop (r + 1) block ≡ [] = drop_of_length-le block {i = r + 1} (omega (arith, ltb-true (length block) (r + 1) e)) in
          absurd (true_not_false a.judged.judged (ap sound none ∙ none_sound))
      by false e = ltb-false (length block) (r + 1) e

  -- as it is lent
  abbrev lent : List ℤ
  lent = take (length block - (r + 1)) (drop (r + 1) block)

  pub lent_is : lent ≡ drop (r + 1) block
  lent_is = to_end (r + 1) block

  module _ {v : (Option Head)} (told : v ≡ walk lent) where
    pub never_broken : v ≡ None → ⊥
    never_broken e = true_not_false a.judged.judged (broken_unsound (drop (r + 1) block) (rw lent_is at told) e)

    pub head_sound : {h : Head} → v ≡ Some h → SoundRecord h lent
    head_sound {h} e =
        rw lent_is
        (let walked : walk (drop (r + 1) block) ≡ Some h = sym (rw lent_is at told) ∙ e in
        record { walked = walked; judged = a.judged.judged; readable = a.judged.readable h walked })

    pub ask_table : {h : Head} → v ≡ Some h → {to : ℕ} {s : List ℤ} → room_end to w ≤ length s → TableAsked x h lent start r w to s
    ask_table e room = record {
      list = record { source = head_sound e; few = a.few; fits = rw lent_is a.fits };
      start_low = a.start_low;
      room = room;
    }

  -- the start by value
  pub start_length : length (naturals (take r block)) ≡ r
  start_length = rw length-map (length-take-le r block (omega (arith, record_inside)))

  start_same : take r start ≡ naturals (take r block)
  start_same =
      let l : length (take r start) ≡ r = length-take-le r start (omega (arith, a.start_is.size, a.few)) in
      ext_get_or 0 (take r start) (naturals (take r block)) (l ∙ sym start_length) (λ k o. get_or-take r start k 0 (omega arith) ∙ a.start_is.numbers k)

  abbrev the_block : Block
  the_block = block_of (block_at r block)

  entries_are : left_out x the_block ≡ false → entries_of x r the_block ≡ moved_list x r (take r start) (layout_in lent)
  entries_are f =
      let layout : the_block.layout ≡ layout_in (drop (r + 1) block) = unfold block_of block_at in ap (λ (n : ℕ). layout_in (drop n block)) (sym (add-one r)) in
      let begin : the_block.start ≡ naturals (take r block) = unfold block_of block_at in refl in
      entries_moved x r the_block (ap length begin ∙ start_length) f ∙ rw (begin, layout, start_same, lent_is)

  -- ---- the block merged: `merge_block`

  module _ {at : ℕ} {s : List ℤ} (b : TargetReady at w s) {z : Bool} (told : z ≡ left_out x the_block) where
    -- it is left out
    pub block_left : z ≡ true → MergedMore at w (all (small_to (axes_in x r w)) (entries_of x r the_block)) (entries_of x r the_block) s s true
    block_left e = none_merged b (axes_in x r w) (entries_none x r the_block (sym told ∙ e))

    module _ (e : z ≡ false) {u : List ℤ} {v : Bool} (p : Tabled spare w (axes_in x r w) window_size (moved_list x r (take r start) (layout_in lent)) s u v) where
      is : entries_of x r the_block ≡ moved_list x r (take r start) (layout_in lent)
      is = entries_are (sym told ∙ e)

      -- it has too many entries, or too large ones
      pub block_over : v ≡ false → MergedMore at w (all (small_to (axes_in x r w)) (entries_of x r the_block)) (entries_of x r the_block) s u false
      block_over f = rw is (list_over b p f)

      pub block_asks : v ≡ true → TargetReady at w u × Ready spare w u
      block_asks f = (ask_target b p f, ask_spare b p f)

      -- it is merged
      pub block_merged : v ≡ true → {t : List ℤ} {y : Bool} → MergedMore at w true (table_at spare w u) u t y →
          MergedMore at w (all (small_to (axes_in x r w)) (entries_of x r the_block)) (entries_of x r the_block) s t y
      block_merged f m = rw is (list_merged b p f m)
