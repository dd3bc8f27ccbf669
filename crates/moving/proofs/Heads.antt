-- `write_head`: kind, D and rank are stored, and the extents copied. Assumes nothing.
use mathlib.Core.Path.{◌≡◌, sym, ap, ◌∙◌}
use mathlib.Core.List.{List}
use mathlib.Core.Logic.{inl}
use Prim.Native.Nat.{ℕ, ◌+◌, ◌≤◌}
use native.Mathlib.Omega.{arith}
use lib.IntN.{ℤ, pos}
use lib.ListN.{length, set}
use Rattle.rules.specs.Buffers.{put}
use Rattle.rules.proofs.Buffers.{part_put_all}
use Rattle.cells.specs.View.{view}
use Rattle.cells.proofs.View.{view_length, view_part, stored_number}
use Rattle.tables.specs.Tables.{Only}
use Rattle.tables.proofs.Only.{only_then, only_wider, only_set, only_put, view_outside}
use Rattle.parts.specs.Parts.{extents_from, rows_from}
use Rattle.moving.specs.Sections.{HeadAsked, HeadMade}

module _ {kind dense : ℕ} {extents s : List ℤ} (q : HeadAsked kind dense extents s) {t u v w : List ℤ}
    (kinded : t ≡ set s 0 (pos kind)) (densed : u ≡ set t 1 (pos dense)) (ranked : v ≡ set u 2 (pos (length extents))) (copied : w ≡ put extents_from extents v) where
  first : Only 0 1 s t
  first = rw kinded (only_set 0 (pos kind) s)

  second : Only 1 2 t u
  second = rw densed (only_set 1 (pos dense) t)

  third : Only 2 3 u v
  third = rw ranked (only_set 2 (pos (length extents)) u)

  room : extents_from + length extents ≤ length v
  room = omega (arith, q.rank_most, q.room, first.size, second.size, third.size)

  fourth : Only extents_from (extents_from + length extents) v w
  fourth = rw copied (only_put extents_from extents v room)

  pub head_made : HeadMade kind dense (view extents) s w
  head_made = record {
    head = record {
      kind_is =
          view_outside fourth 0 (inl (omega arith)) ∙ view_outside third 0 (inl (omega arith)) ∙ view_outside second 0 (inl (omega arith))
          ∙ rw kinded (stored_number 0 kind s (omega (arith, q.room)));
      dense_is =
          view_outside fourth 1 (inl (omega arith)) ∙ view_outside third 1 (inl (omega arith))
          ∙ rw densed (stored_number 1 dense t (omega (arith, q.room, first.size)));
      rank_is =
          view_outside fourth 2 (inl (omega arith))
          ∙ rw (ranked, view_length) (stored_number 2 (length extents) u (omega (arith, q.room, first.size, second.size)));
      shape_is = rw view_length (sym (view_part extents_from (length extents) w) ∙ ap view (rw copied (part_put_all extents_from extents v (omega (arith, room)))));
    };
    only =
        only_then (only_then (wide first (omega arith)) (wide second (omega arith)))
        (only_then (wide third (omega arith)) (wide fourth (omega (arith, q.rank_most))));
  }
    where
      wide : {a e : ℕ} {x y : List ℤ} → Only a e x y → e ≤ rows_from → Only 0 rows_from x y
      wide o h = only_wider o 0 rows_from (omega arith) h
