-- `load`: the sections of a record, each at its place in a part. Assumes nothing.
use mathlib.Core.Path.{◌≡◌, sym, ap, ◌∙◌}
use mathlib.Core.List.{List}
use mathlib.Core.Logic.{inl}
use Prim.Native.Nat.{ℕ, ◌+◌, ◌*◌, ◌-◌, ◌<◌, ◌≤◌}
use native.Mathlib.Nat.{add-zero, mul-le-mul_right}
use native.Mathlib.Omega.{arith}
use lib.IntN.{ℤ}
use lib.ListN.{length, get_or}
use Rattle.rules.specs.declared.Head.{Head}
use Rattle.rules.specs.declared.Entries.{Entries}
use Rattle.rules.specs.Buffers.{part, put}
use Rattle.rules.specs.Record.{layout_in}
use Rattle.rules.proofs.Buffers.{length_part, part_put_all}
use Rattle.cells.specs.View.{code, view}
use Rattle.cells.proofs.View.{view_get_or, view_part}
use Rattle.tables.specs.Rows.{rows_at}
use Rattle.tables.specs.Tables.{table_at, Only}
use Rattle.tables.proofs.Only.{only_then, only_wider, only_put, part_outside}
use Rattle.records.specs.Sections.{Laid}
use Rattle.records.specs.Judging.{Readable}
use Rattle.records.specs.Sound.{SoundRecord}
use Rattle.records.proofs.Layouts.{axes, seen, has_states, has_inputs}
use Rattle.records.proofs.SoundRecords.{lies, layout_sound, layout_shown}
use Rattle.parts.specs.Parts.{part_size, states_from, inputs_from, kind_at, dense_at, rank_at, layout_at}
use Rattle.parts.specs.Answers.{Loaded}
use Rattle.parts.proofs.Copied.{number_copied, part_copied, table_copied}

-- ---- numbers that are copied

-- the n numbers from b of s on are copied to a of t, which makes it u
pub record Copied (a b n : ℕ) (s t u : List ℤ) : Type 0 where
  pub there : part a n u ≡ part b n s
  pub only : Only a (a + n) t u

pub copied : (a b n : ℕ) (s t : List ℤ) {u : List ℤ} → b + n ≤ length s → a + n ≤ length t → u ≡ put a (part b n s) t →
    Copied a b n s t u
copied a b n s t h l e =
    let long : length (part b n s) ≡ n = length_part b n s h in
    rw e (record { there = rw long at (part_put_all a (part b n s) t (omega arith)); only = rw long at (only_put a (part b n s) t (omega arith)) })

-- one write, and another one behind it
only_on : {a f b e : ℕ} {t u v : List ℤ} → Only a f t u → Only b e u v → a ≤ b → f ≤ e → Only a e t v
only_on {a} {f} {b} {e} o q h l = only_then (only_wider o a e (omega arith) l) (only_wider q a e h (omega arith))

-- ---- the places of a record's sections

-- each section is as long as its room at most
pub record Places (h : Head) (s : List ℤ) : Type 0 where
  pub head_few : h.rank ≤ 4
  pub rows_up : h.rank + 3 ≤ h.rows.next
  pub rows_few : h.rows.next ≤ h.rank + 516
  pub states_up : h.rows.next ≤ h.states.next
  pub states_few : h.states.next ≤ h.rows.next + 641
  pub inputs_up : h.states.next ≤ h.inputs.next
  pub inputs_few : h.inputs.next ≤ h.states.next + 641
  pub inside : h.inputs.next ≤ length s

-- a section of at most 128 entries
pub section_few : {i w : ℕ} {s : List ℤ} {e : Entries} → Laid i w s e → e.count ≤ 128 → (i + 1 ≤ e.next) × (e.next ≤ i + 1 + 128 * w)
section_few {i} {w} {s} {e} l few = let k : e.count * w ≤ 128 * w = mul-le-mul_right w few in (omega arith, omega arith)

-- a section whose numbers stand at a place is the table there
pub section_there : {i w : ℕ} {s : List ℤ} {e : Entries} → Laid i w s e → (to : ℕ) (t : List ℤ) → part to (e.next - i) t ≡ part i (e.next - i) s → table_at to w t ≡ rows_at e.first w e.count s
section_there {i} {w} {s} {e} l to t there = rw l.first (table_copied to i (e.next - i) s t there w e.count (view_get_or s i ∙ ap code l.count) (omega arith))

module _ {h : Head} {s : List ℤ} (r : SoundRecord h s) where
  -- the record is readable
  p : Readable h s
  p = r.readable

  pub places : Places h s
  places =
      let b = lies r in
      let rows = section_few p.head.rows b.rows_few in
      let states = section_few p.head.states b.states_few in
      let inputs = section_few p.head.inputs b.inputs_few in
      record {
        head_few = b.rank_few;
        rows_up = omega arith;
        rows_few = omega arith;
        states_up = omega arith;
        states_few = omega arith;
        inputs_up = omega arith;
        inputs_few = omega arith;
        inside = b.end_in;
      }

  -- ---- the part after the four writes

  module _ (t : List ℤ) {t₁ t₂ t₃ t₄ : List ℤ} (room : part_size ≤ length t)
      (p₁ : t₁ ≡ put 0 (part 0 (h.rank + 3 - 0) s) t)
      (p₂ : t₂ ≡ put 7 (part (h.rank + 3) (h.rows.next - (h.rank + 3)) s) t₁)
      (p₃ : t₃ ≡ put states_from (part h.rows.next (h.states.next - h.rows.next) s) t₂)
      (p₄ : t₄ ≡ put inputs_from (part h.states.next (h.inputs.next - h.states.next) s) t₃) where
    -- each write
    c₁ : Copied 0 0 (h.rank + 3 - 0) s t t₁
    c₁ = let b = places in copied 0 0 (h.rank + 3 - 0) s t (omega arith) (omega arith) p₁

    c₂ : Copied 7 (h.rank + 3) (h.rows.next - (h.rank + 3)) s t₁ t₂
    c₂ = let b = places in copied 7 (h.rank + 3) (h.rows.next - (h.rank + 3)) s t₁ (omega arith) (omega (arith, c₁.only.size)) p₂

    c₃ : Copied states_from h.rows.next (h.states.next - h.rows.next) s t₂ t₃
    c₃ =
        let b = places in
        copied states_from h.rows.next (h.states.next - h.rows.next) s t₂ (omega arith) (omega (arith, c₁.only.size, c₂.only.size)) p₃

    c₄ : Copied inputs_from h.states.next (h.inputs.next - h.states.next) s t₃ t₄
    c₄ =
        let b = places in
        copied inputs_from h.states.next (h.inputs.next - h.states.next) s t₃ (omega arith)
        (omega (arith, c₁.only.size, c₂.only.size, c₃.only.size)) p₄

    -- what is written later stands behind
    from_inputs_lem : Only inputs_from part_size t₃ t₄
    from_inputs_lem = let b = places in only_wider c₄.only inputs_from part_size (omega arith) (omega arith)

    from_states_lem : Only states_from part_size t₂ t₄
    from_states_lem = let b = places in only_on c₃.only from_inputs_lem (omega arith) (omega arith)

    from_rows_lem : Only 7 part_size t₁ t₄
    from_rows_lem = let b = places in only_on c₂.only from_states_lem (omega arith) (omega arith)

    from_head : Only 0 part_size t t₄
    from_head = let b = places in only_on c₁.only from_rows_lem (omega arith) (omega arith)

    -- each section in the end
    head_there : part 0 (h.rank + 3 - 0) t₄ ≡ part 0 (h.rank + 3 - 0) s
    head_there = let b = places in part_outside from_rows_lem 0 (h.rank + 3 - 0) (inl (omega arith)) ∙ c₁.there

    rows_there_lem : table_at 7 h.width t₄ ≡ rows_at h.rows.first h.width h.rows.count s
    rows_there_lem =
        let b = places in
        section_there p.head.rows 7 t₄ (part_outside from_states_lem 7 (h.rows.next - (h.rank + 3)) (inl (omega arith)) ∙ c₂.there)

    states_there : table_at states_from (h.rank + 1) t₄ ≡ rows_at h.states.first (h.rank + 1) h.states.count s
    states_there =
        let b = places in
        section_there p.head.states states_from t₄ (part_outside from_inputs_lem states_from (h.states.next - h.rows.next) (inl (omega arith)) ∙ c₃.there)

    inputs_there : table_at inputs_from (h.rank + 1) t₄ ≡ rows_at h.inputs.first (h.rank + 1) h.inputs.count s
    inputs_there = section_there p.head.inputs inputs_from t₄ c₄.there

    -- the head
    number_there : (k : ℕ) → k < 3 → get_or (view t₄) (0 + k) 0 ≡ get_or (view s) (0 + k) 0
    number_there k l = number_copied 0 0 (h.rank + 3 - 0) s t₄ head_there k (omega arith)

    kind_there : kind_at 0 t₄ ≡ get_or (view s) 0 0
    kind_there = simp add-zero at (number_there 0 (omega arith))

    dense_there : dense_at 0 t₄ ≡ get_or (view s) 1 0
    dense_there = number_there 1 (omega arith)

    rank_there : rank_at 0 t₄ ≡ h.rank
    rank_there = number_there 2 (omega arith) ∙ view_get_or s 2 ∙ ap code p.head.rank

    shape_there : part 3 h.rank (view t₄) ≡ part 3 h.rank (view s)
    shape_there =
        sym (view_part 3 h.rank t₄)
        ∙ ap view (part_copied 0 0 (h.rank + 3 - 0) s t₄ head_there 3 h.rank (omega arith))
        ∙ view_part 3 h.rank s

    -- the layout of the part is the one that the record shows
    layout_there : layout_at 0 t₄ ≡ seen h s
    unfolding layout_at
    layout_there =
        let width : h.rank - get_or (view s) 1 0 ≡ h.width = omega (arith, axes p) in
        rw (kind_there, dense_there, rank_there, width, shape_there, rows_there_lem, states_there, inputs_there)

    pub is_loaded : Loaded s t₄
    is_loaded =
        let same : layout_at 0 t₄ ≡ layout_in s = layout_there ∙ sym (layout_shown r) in
        record {
          layout = same;
          holds = record {
            inside = omega (arith, from_head.size);
            sound = rw same (layout_sound r);
            low = rw layout_there (record { states_low = (has_states p).low; inputs_low = (has_inputs p).low });
          };
        }
