-- `store`: a layout as the numbers of a record. Assumes nothing.
use mathlib.Core.Path.{◌≡◌, sym, ap, ◌∙◌}
use mathlib.Core.List.{List, ◌∷◌, ◌++◌, map, map-append}
use Prim.Native.Nat.{ℕ, suc, ◌+◌, ◌-◌, ◌≤◌}
use native.Mathlib.Omega.{arith}
use lib.IntN.{ℤ, pos}
use lib.ListN.{length, take, length-append}
use Rattle.rules.specs.Buffers.{part, over}
use Rattle.rules.specs.Layout.{section, encode}
use Rattle.rules.proofs.Buffers.{length_part}
use Rattle.rules.proofs.Writes.{put_over}
use Rattle.rules.proofs.Extents.{extent_limited}
use Rattle.cells.specs.View.{view, Low}
use Rattle.cells.proofs.View.{view_length}
use Rattle.tables.specs.Tables.{table_at, Fits}
use Rattle.parts.specs.Parts.{part_size, states_from, inputs_from, kind_at, dense_at, rank_at, width_at, layout_at, Holds}
use Rattle.parts.specs.Answers.{numbers_of, TableStored, Stored}
use Rattle.parts.proofs.Holds.{kind_most, rank_most, dense_most, shape_length, rows_fit, states_ready, inputs_ready}
use Rattle.parts.proofs.Packing.{low_cons, part_cons, part_is}

-- the extents of a part
abbrev extents : List ℤ → List ℕ
extents s = part 3 (rank_at 0 s) (view s)

-- kind, D, R and the extents
abbrev head_numbers : List ℤ → List ℤ
head_numbers s = map pos (kind_at 0 s ∷ dense_at 0 s ∷ rank_at 0 s ∷ extents s)

-- the sections
abbrev row_numbers : List ℤ → List ℤ
row_numbers s = numbers_of (table_at 7 (width_at 0 s) s)

abbrev state_numbers : List ℤ → List ℤ
state_numbers s = numbers_of (table_at states_from (rank_at 0 s + 1) s)

abbrev input_numbers : List ℤ → List ℤ
input_numbers s = numbers_of (table_at inputs_from (rank_at 0 s + 1) s)

-- four lists of numbers, one behind the other
four_lists : (a b c d : List ℕ) → ((map pos a ++ map pos b) ++ map pos c) ++ map pos d ≡ map pos (((a ++ b) ++ c) ++ d)
four_lists a b c d = sym (simp map-append)

module _ {s : List ℤ} (h : Holds 0 s) where
  -- the head as it stands in the slice
  head_seen : part 0 (suc (suc (suc (rank_at 0 s)))) (view s) ≡ kind_at 0 s ∷ dense_at 0 s ∷ rank_at 0 s ∷ extents s
  head_seen =
      let long : part_size ≤ length (view s) = rw view_length h.inside in
      part_cons 0 (suc (suc (rank_at 0 s))) (view s) (omega arith)
      ∙ ap (λ (l : List ℕ). kind_at 0 s ∷ l)
      (part_cons 1 (suc (rank_at 0 s)) (view s) (omega arith)
      ∙ (ap (λ (l : List ℕ). dense_at 0 s ∷ l) (part_cons 2 (rank_at 0 s) (view s) (omega arith))))

  -- the extents are natural numbers
  extents_low : Low (extents s)
  unfolding layout_at
  extents_low k = omega (arith, extent_limited h.sound.sizes k)

  -- the head's numbers are those that are written for it
  head_numbers_lem : part 0 (rank_at 0 s + 3) s ≡ head_numbers s
  head_numbers_lem =
      let e : rank_at 0 s + 3 ≡ suc (suc (suc (rank_at 0 s))) = omega arith in
      let r = rank_most h in
      let d = dense_most h in
      let k = kind_most h in
      rw e
      (part_is 0 (suc (suc (suc (rank_at 0 s)))) s head_seen
      (low_cons (kind_at 0 s) (dense_at 0 s ∷ rank_at 0 s ∷ extents s) (omega arith)
      (low_cons (dense_at 0 s) (rank_at 0 s ∷ extents s) (omega arith) (low_cons (rank_at 0 s) (extents s) (omega arith) extents_low))))

  head_length : length (head_numbers s) ≡ rank_at 0 s + 3
  head_length = ap length (sym head_numbers_lem) ∙ length_part 0 (rank_at 0 s + 3) s (omega (arith, h.inside, rank_most h))

  -- the record is the head and the sections
  encoded : ((head_numbers s ++ row_numbers s) ++ state_numbers s) ++ input_numbers s ≡ encode (layout_at 0 s)
  unfolding encode layout_at
  encoded =
      rw (shape_length h)
      (four_lists (kind_at 0 s ∷ dense_at 0 s ∷ rank_at 0 s ∷ extents s) (section (table_at 7 (width_at 0 s) s))
      (section (table_at states_from (rank_at 0 s + 1) s)) (section (table_at inputs_from (rank_at 0 s + 1) s)))

  -- the sections are written one behind the other
  module _ {states inputs r : ℕ} (t : List ℤ) {t₁ t₂ t₃ t₄ : List ℤ}
      (p₁ : t₁ ≡ over (take (rank_at 0 s + 3) s) t)
      (p₂ : TableStored 7 (width_at 0 s) (rank_at 0 s + 3) s t₁ t₂ states)
      (p₃ : TableStored states_from (rank_at 0 s + 1) states s t₂ t₃ inputs)
      (p₄ : TableStored inputs_from (rank_at 0 s + 1) inputs s t₃ t₄ r) where
    head_over : t₁ ≡ over (head_numbers s) t
    unfolding part
    head_over = p₁ ∙ rw head_numbers_lem

    rows_over : t₂ ≡ over (head_numbers s ++ row_numbers s) t
    rows_over = p₂.is ∙ rw head_over (put_over (rank_at 0 s + 3) (head_numbers s) (row_numbers s) t head_length)

    states_over : t₃ ≡ over ((head_numbers s ++ row_numbers s) ++ state_numbers s) t
    states_over =
        p₃.is
        ∙ rw rows_over
        (put_over states (head_numbers s ++ row_numbers s) (state_numbers s) t (rw length-append (omega (arith, p₂.next, head_length))))

    inputs_over : t₄ ≡ over (((head_numbers s ++ row_numbers s) ++ state_numbers s) ++ input_numbers s) t
    inputs_over =
        p₄.is
        ∙ rw states_over
        (put_over inputs ((head_numbers s ++ row_numbers s) ++ state_numbers s) (input_numbers s) t
        (simp length-append (omega (arith, p₂.next, p₃.next, head_length))))

    stored : Stored s t t₄ r
    stored = record {
      is = inputs_over ∙ ap (λ (l : List ℤ). over l t) encoded;
      count = rw (← encoded) (simp length-append (omega (arith, p₂.next, p₃.next, p₄.next, head_length)));
    }

  module _ {rank dense : ℕ} (er : rank ≡ rank_at 0 s) (ed : dense ≡ dense_at 0 s) where
    -- how far the rank and D go
    pub rank_few : rank ≤ 4
    rank_few = rw er (rank_most h)

    pub dense_within : dense ≤ rank
    dense_within = rw (er, ed) (dense_most h)

    -- the tables are there
    pub rows_there_lem : Fits 7 (rank - dense) s
    rows_there_lem = rw (er, ed) (rows_fit h)

    pub states_there : Fits states_from (rank + 1) s
    states_there = rw er (states_ready h).fits

    pub inputs_there : Fits inputs_from (rank + 1) s
    inputs_there = rw er (inputs_ready h).fits

    -- the record is written, by the rank and D that were read
    pub layout_stored : {states inputs r : ℕ} {t t₁ t₂ t₃ t₄ : List ℤ} → t₁ ≡ over (take (rank + 3) s) t →
        TableStored 7 (rank - dense) (rank + 3) s t₁ t₂ states → TableStored states_from (rank + 1) states s t₂ t₃ inputs →
        TableStored inputs_from (rank + 1) inputs s t₃ t₄ r → Stored s t t₄ r
    layout_stored {t = t} p₁ p₂ p₃ p₄ = stored t (rw er at p₁) (rw (er, ed) at p₂) (rw er at p₃) (rw er at p₄)
