-- Layouts of the working buffer stored into slots of the pile. Assumes nothing.
use mathlib.Core.Path.{◌≡◌, ◌∙◌}
use mathlib.Core.List.{List}
use Prim.Native.Nat.{ℕ, ◌+◌, ◌-◌, ◌≤◌}
use native.Mathlib.Omega.{arith}
use lib.IntN.{ℤ}
use lib.ListN.{length}
use Rattle.rules.specs.Limits.{result_size}
use Rattle.rules.specs.Buffers.{put}
use Rattle.rules.specs.Layout.{encode}
use Rattle.rules.proofs.Encoded.{encode_short}
use Rattle.cells.proofs.Buffers.{lent_over}
use Rattle.parts.specs.Parts.{part_size, target, layout_at, Holds}
use Rattle.parts.specs.Answers.{Stored}
use Rattle.parts.proofs.Lent.{lent_of, back_in, lent_part_layout}
use Rattle.pile.specs.Exchanging.{sixth}

-- a slot was lent, and came back with a record at its front
pub slot_stored : {part : List ℤ} (at e : ℕ) (pile : List ℤ) {u : List ℤ} {n : ℕ} → Holds 0 part → e ≡ at + result_size → at + result_size ≤ length pile →
    Stored part (lent_of at e pile) u n → back_in at e pile u ≡ put at (encode (layout_at 0 part)) pile
slot_stored {part} at e pile h is l s =
    let size : e - at ≡ result_size = omega arith in
    rw (s.is, size) (lent_over at result_size (encode (layout_at 0 part)) pile (encode_short h.sound) l)

-- the sixth part and the target of the working buffer were lent, and each was stored into its slot
pub both_stored : {work next last : List ℤ} (pile : List ℤ) (a b : ℕ) → Holds sixth work → Holds target work →
    next ≡ put a (encode (layout_at 0 (lent_of sixth (sixth + part_size) work))) pile → last ≡ put b (encode (layout_at 0 (lent_of target (target + part_size) work))) next →
    last ≡ put b (encode (layout_at target work)) (put a (encode (layout_at sixth work)) pile)
both_stored pile a b g h e f = f ∙ rw (e, lent_part_layout g, lent_part_layout h)
