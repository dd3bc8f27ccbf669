-- A sound record is the numbers of its layout, section behind section; and those numbers tell the layout. Assumes nothing.
use mathlib.Core.Path.{◌≡◌, refl, sym, ap, ◌∙◌}
use mathlib.Core.List.{List, [], ◌∷◌, ◌++◌, append_assoc, append-nil}
use Prim.Native.Nat.{ℕ, suc, ◌+◌, ◌*◌, ◌<◌, ◌≤◌}
use native.Mathlib.Omega.{arith}
use lib.IntN.{ℤ}
use lib.ListN.{length, get_or, take, drop}
use lib.Seq.{take-add, drop-cons}
use Rattle.rules.specs.declared.Head.{Head}
use Rattle.rules.specs.declared.Entries.{Entries}
use Rattle.rules.specs.Lists.{gather}
use Rattle.rules.specs.Buffers.{part}
use Rattle.rules.specs.RowsInOrder.{Each}
use Rattle.rules.specs.Layout.{Layout, rank, width, section}
use Rattle.rules.specs.Soundness.{WellFormed}
use Rattle.rules.specs.Record.{layout_in}
use Rattle.rules.proofs.RowsRead.{gather_rows}
use Rattle.rules.proofs.Sets.{each_head, each_tail}
use Rattle.cells.specs.View.{view, code}
use Rattle.cells.proofs.View.{view_length, view_get_or}
use Rattle.tables.specs.Rows.{rows_at}
use Rattle.tables.proofs.Rows.{length_rows}
use Rattle.records.specs.Sections.{Laid}
use Rattle.records.specs.Sound.{SoundRecord}
use Rattle.records.proofs.SoundRecords.{lies, layout_shown}
use Rattle.records.proofs.Shown.{shape_size}

-- the numbers of entries, one after the other
abbrev pub flat : List (List ℕ) → List ℕ
flat entries = gather (λ e. e) entries

-- ---- a section of the slice

-- rows of a slice are the part where they lie
pub rows_part : (a w n : ℕ) (s : List ℤ) → flat (rows_at a w n s) ≡ part a (n * w) (view s)
unfolding rows_at part
rows_part a w n s = gather_rows w n (drop a (view s))

-- up to the end of a section stand what is before it, its count and its entries
pub section_packed : (i w : ℕ) (s : List ℤ) (e : Entries) → Laid i w s e → take e.next (view s) ≡ take i (view s) ++ section (rows_at e.first w e.count s)
section_packed i w s e l =
    let inside : i < length (view s) = rw view_length l.at in
    let count : get_or (view s) i 0 ≡ e.count = view_get_or s i ∙ ap code l.count in
    let end : e.next ≡ i + suc (e.count * w) = omega (arith, l.first, l.next) in
    let first : e.first ≡ suc i = omega (arith, l.first) in
    rw (end, take-add i (suc (e.count * w)) (view s), drop-cons (view s) i 0 inside, count, length_rows, rows_part, first) (unfold part in refl)

-- ---- the record

-- kind, D, extents and rows, each list behind its count, and what stands behind them
abbrev pub numbers : Layout → List ℕ → List ℕ
numbers l tail = l.kind ∷ l.dense ∷ rank l ∷ (l.shape ++ (section l.rows ++ tail))

-- three numbers are a front
front_three : (l : List ℕ) → 3 ≤ length l → take 3 l ≡ get_or l 0 0 ∷ get_or l 1 0 ∷ get_or l 2 0 ∷ []
front_three [] h = absurd (omega arith)
front_three (x ∷ []) h = absurd (omega arith)
front_three (x ∷ y ∷ []) h = absurd (omega arith)
front_three (x ∷ y ∷ z ∷ l) h = refl

module _ {h : Head} {s : List ℤ} (r : SoundRecord h s) where
  -- up to the end of the extents
  shape_packed : take (h.rank + 3) (view s) ≡ get_or (view s) 0 0 ∷ get_or (view s) 1 0 ∷ h.rank ∷ part 3 h.rank (view s)
  shape_packed =
      let b = lies r in
      let long : 3 ≤ length (view s) = rw view_length (omega arith) in
      let count : get_or (view s) 2 0 ≡ h.rank = view_get_or s 2 ∙ ap code r.readable.head.rank in
      let end : h.rank + 3 ≡ 3 + h.rank = omega arith in
      rw (end, take-add 3 h.rank (view s), front_three (view s) long, count) (unfold part in refl)

  -- up to the end of the rows
  pub rows_packed : take h.rows.next (view s) ≡ numbers (layout_in s) []
  rows_packed =
      let last = append-nil (section (rows_at h.rows.first h.width h.rows.count s)) in
      rw (layout_shown r, section_packed (h.rank + 3) h.width s h.rows r.readable.head.rows, shape_packed, shape_size r)
      (ap (λ (l : List ℕ). get_or (view s) 0 0 ∷ get_or (view s) 1 0 ∷ h.rank ∷ (part 3 h.rank (view s) ++ l)) (sym last))

  -- all of it
  pub all_packed : take h.inputs.next (view s) ≡ numbers (layout_in s) (section (layout_in s).states ++ section (layout_in s).inputs)
  all_packed =
      rw (
        section_packed h.states.next (h.rank + 1) s h.inputs r.readable.head.inputs,
        section_packed h.rows.next (h.rank + 1) s h.states r.readable.head.states,
        section_packed (h.rank + 3) h.width s h.rows r.readable.head.rows,
        shape_packed,
        layout_shown r,
        shape_size r,
      )
      (simp append_assoc)

-- ---- the layout that they tell

-- fronts of one length that are followed by something
fronts_same : (p q x y : List ℕ) → length p ≡ length q → p ++ x ≡ q ++ y → (p ≡ q) × (x ≡ y)
fronts_same [] [] x y n e = (refl, e)
fronts_same [] (b ∷ q) x y n e = absurd (omega arith)
fronts_same (a ∷ p) [] x y n e = absurd (omega arith)
fronts_same (a ∷ p) (b ∷ q) x y n e =
    let rest : p ++ x ≡ q ++ y = cc in
    let h = fronts_same p q x y (omega arith) rest in
    let first : a ≡ b = cc in
    let front : p ≡ q = h.0 in
    (cc, h.1)

-- as many rows of one width
flat_same : (w : ℕ) (t u : List (List ℕ)) (x y : List ℕ) → Each (λ p. length p ≡ w) t → Each (λ p. length p ≡ w) u → length t ≡ length u →
    flat t ++ x ≡ flat u ++ y → (t ≡ u) × (x ≡ y)
unfolding gather
flat_same w [] [] x y f g n e = (refl, e)
flat_same w [] (q ∷ u) x y f g n e = absurd (omega arith)
flat_same w (p ∷ t) [] x y f g n e = absurd (omega arith)
flat_same w (p ∷ t) (q ∷ u) x y f g n e =
    let h = fronts_same p q (flat t ++ x) (flat u ++ y) (each_head f ∙ sym (each_head g)) (sym (append_assoc p (flat t) x) ∙ e ∙ append_assoc q (flat u) y) in
    let k = flat_same w t u x y (each_tail f) (each_tail g) (omega arith) h.1 in
    let first : p ≡ q = h.0 in
    let rest : t ≡ u = k.0 in
    (cc, k.1)

-- sections of one width
pub section_same : (w : ℕ) (t u : List (List ℕ)) (x y : List ℕ) → Each (λ p. length p ≡ w) t → Each (λ p. length p ≡ w) u →
    section t ++ x ≡ section u ++ y → (t ≡ u) × (x ≡ y)
section_same w t u x y f g e =
    let count : length t ≡ length u = cc in
    let rest : flat t ++ x ≡ flat u ++ y = cc in
    flat_same w t u x y f g count rest

-- two layouts agree up to their rows
pub record SameFront (a b : Layout) : Type 0 where
  pub kind : a.kind ≡ b.kind
  pub dense : a.dense ≡ b.dense
  pub shape : a.shape ≡ b.shape
  pub rows : a.rows ≡ b.rows

-- those of one front have the same numbers
pub front_numbers : {a b : Layout} (x y : List ℕ) → SameFront a b → x ≡ y → numbers a x ≡ numbers b y
front_numbers x y f e = rw (f.kind, f.dense, f.shape, f.rows, e)

-- those of the same numbers have one front, and the same behind it
pub numbers_front : {a b : Layout} (x y : List ℕ) → WellFormed a → WellFormed b → numbers a x ≡ numbers b y → SameFront a b × (x ≡ y)
numbers_front {a} {b} x y f g e =
    let kind : a.kind ≡ b.kind = cc in
    let dense : a.dense ≡ b.dense = cc in
    let count : rank a ≡ rank b = cc in
    let behind : a.shape ++ (section a.rows ++ x) ≡ b.shape ++ (section b.rows ++ y) = cc in
    let h = fronts_same a.shape b.shape (section a.rows ++ x) (section b.rows ++ y) count behind in
    let same : width b ≡ width a = omega arith in
    let k = section_same (width a) a.rows b.rows x y f.row_lengths (λ p m. g.row_lengths p m ∙ same) h.1 in
    (record { kind = kind; dense = dense; shape = h.0; rows = k.0 }, k.1)
