-- `write_record`: the pieces are written one behind the other; and a layout's record is made of such pieces. Assumes nothing.
use Rattle.std.specs.Prelude.{Ok, Result}
use Rattle.rules.specs.declared.Refusal.{Refusal}
use mathlib.Core.Path.{◌≡◌, refl, ap, ◌∙◌}
use mathlib.Core.List.{List, [], ◌∷◌, ◌++◌, map, map-append, append_assoc}
use Prim.Native.Nat.{ℕ, ◌+◌, ◌<◌}
use native.Mathlib.Omega.{arith}
use lib.IntN.{ℤ, pos}
use lib.ListN.{length, set, length-append, length-map}
use Rattle.rules.specs.Buffers.{over, put}
use Rattle.rules.specs.Layout.{Layout, rank, section, encode}
use Rattle.rules.specs.Refusals.{Verdict, given}
use Rattle.rules.specs.Endings.{EndsIn, result_after}
use Rattle.rules.proofs.Buffers.{over_more}
use Rattle.rules.proofs.Writes.{put_over}
use Rattle.cells.proofs.Signed.{held, back}
use Rattle.forms.specs.Pieces.{pieces, PiecesFit}
use Rattle.forms.proofs.Packed.{flat, numbers}

-- ---- numbers that were written

-- so many of them, over the front of the result
pub ends_given : {numbers old new : List ℤ} {n : ℕ} → n ≡ length numbers → new ≡ over numbers old → EndsIn (given numbers) old (Ok n) new
unfolding result_after
ends_given e f = record { answer = ap given e; result_is = f }

-- what was written for one verdict was for another that is the same
pub ends_same : {v w : Verdict (List ℤ)} {old new : List ℤ} {r : (Result ℕ Refusal)} → EndsIn w old r new → w ≡ v → EndsIn v old r new
ends_same t e = rw e at t

-- ---- the pieces

module _ {kind dense count : ℕ} {extents rows deps result r₁ r₂ r₃ r₄ r₅ : List ℤ} {x y z : ℤ} where
  pub pieces_written : PiecesFit kind dense count extents rows deps result → x ≡ pos kind → y ≡ pos dense → z ≡ pos (length extents) →
      r₁ ≡ over (held x ∷ held y ∷ held z ∷ []) result → r₂ ≡ put 3 extents r₁ → r₃ ≡ set r₂ (3 + length extents) (pos count) →
      r₄ ≡ put (3 + length extents + 1) rows r₃ → r₅ ≡ put (3 + length extents + 1 + length rows) deps r₄ →
      EndsIn (given (pieces kind dense extents count rows deps)) result (Ok (3 + length extents + 1 + length rows + length deps)) r₅
  unfolding pieces
  pieces_written room a b c e₁ e₂ e₃ e₄ e₅ =
      let first : List ℤ = pos kind ∷ pos dense ∷ pos (length extents) ∷ [] in
      let shape : List ℤ = first ++ extents in
      let counted : List ℤ = shape ++ (pos count ∷ []) in
      let listed : List ℤ = counted ++ rows in
      let size₂ : length shape ≡ 3 + length extents = simp length-append (omega arith) in
      let size₃ : length counted ≡ 3 + length extents + 1 = simp length-append (omega arith) in
      let size₄ : length listed ≡ 3 + length extents + 1 + length rows = simp length-append (omega arith) in
      let inside : 3 + length extents < length result = omega (arith, room.room) in
      let w₁ : r₁ ≡ over first result =
      rw (a, b, c, back (pos kind) room.kind_small, back (pos dense) room.dense_small, back (pos (length extents)) room.extents_few) at e₁ in
      let w₂ : r₂ ≡ over shape result = e₂ ∙ rw w₁ (put_over 3 first extents result refl) in
      let w₃ : r₃ ≡ over counted result = e₃ ∙ rw w₂ (over_more shape result (pos count) (3 + length extents) size₂ inside) in
      let w₄ : r₄ ≡ over listed result = e₄ ∙ rw w₃ (put_over (3 + length extents + 1) counted rows result size₃) in
      let w₅ : r₅ ≡ over (listed ++ deps) result = e₅ ∙ rw w₄ (put_over (3 + length extents + 1 + length rows) listed deps result size₄) in
      let joined : listed ++ deps ≡ pos kind ∷ pos dense ∷ pos (length extents) ∷ (extents ++ (pos count ∷ (rows ++ deps))) = simp append_assoc in
      ends_given (simp length-append (omega arith)) (rw joined at w₅)

-- ---- the record of a layout

-- it is made of its pieces
pub encode_pieces : (l : Layout) → encode l ≡
    pieces l.kind l.dense (map pos l.shape) (length l.rows) (map pos (flat l.rows)) (map pos (section l.states ++ section l.inputs))
unfolding encode pieces
encode_pieces l =
    let deps : List ℕ = section l.states ++ section l.inputs in
    let parted : l.kind ∷ l.dense ∷ rank l ∷ l.shape ++ section l.rows ++ section l.states ++ section l.inputs ≡ numbers l deps = simp append_assoc in
    ap (map pos) parted ∙ rw (length-map l.shape pos, map-append pos l.shape (section l.rows ++ deps), map-append pos (flat l.rows) deps)
