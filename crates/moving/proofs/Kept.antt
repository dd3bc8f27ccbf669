-- `keep_rows`: the rows of a record, copied as they stand, are the table. Assumes nothing.
use mathlib.Core.Path.{◌≡◌, sym, ap, ◌∙◌}
use mathlib.Core.List.{List}
use Prim.Native.Nat.{ℕ, ◌+◌, ◌-◌, ◌≤◌}
use native.Mathlib.Omega.{arith}
use lib.IntN.{ℤ}
use lib.ListN.{length, take, drop}
use Rattle.rules.specs.declared.Head.{Head}
use Rattle.rules.specs.Buffers.{part, put}
use Rattle.rules.specs.Layout.{Layout}
use Rattle.rules.specs.Record.{layout_in}
use Rattle.tables.proofs.Only.{only_wider}
use Rattle.records.specs.Sound.{SoundRecord}
use Rattle.records.proofs.SoundRecords.{lies, layout_sound, layout_shown}
use Rattle.parts.specs.Parts.{part_size, rows_from}
use Rattle.parts.proofs.Loading.{Copied, copied, section_few, section_there, places}
use Rattle.moving.specs.Sections.{TableMade}

-- the section of rows of a sound record, put where a part has its rows
pub rows_kept : {h : Head} {s t u : List ℤ} → SoundRecord h s → part_size ≤ length t → u ≡ put rows_from (take (h.rows.next - (h.rank + 3)) (drop (h.rank + 3) s)) t →
    TableMade rows_from h.width (layout_in s).rows t u
unfolding part
rows_kept {h} {s} {t} {u} r room e =
    let rows = r.readable.head.rows in
    let few = (layout_sound r).sizes.rows_few in
    let b = places r in
    let size : ℕ = h.rows.next - (h.rank + 3) in
    let c : Copied rows_from (h.rank + 3) size s t u = copied rows_from (h.rank + 3) size s t (omega arith) (omega arith) e in
    record {
      table = record {
        rows_are = section_there rows rows_from u c.there ∙ sym (ap (λ (l : Layout). l.rows) (layout_shown r));
        few = few;
      };
      only = only_wider c.only rows_from _ (omega arith) (omega (arith, section_few rows (lies r).rows_few));
    }
