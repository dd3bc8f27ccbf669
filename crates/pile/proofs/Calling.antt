-- What an exchange asks of the slots at two places is what `exchange_call` asks. Assumes nothing.
use Rattle.std.specs.Prelude.{Err, Result, ⊤}
use Rattle.rules.specs.declared.Refusal.{Refusal}
use mathlib.Core.Path.{◌≡◌, refl}
use mathlib.Core.Bool.{Bool, true, false, not, ◌&&◌, ◌||◌}
use mathlib.Core.List.{List, [], ◌∷◌}
use Prim.Native.Nat.{ℕ, ◌*◌, ◌/◌, ◌<◌, ◌≤◌}
use borrow.Author.Tests.{lt-ltb, le-ltb}
use lib.IntN.{ℤ}
use lib.ListN.{length}
use Rattle.rules.specs.declared.Refusal.TheVariants.{ShortBuffer, WrongArgument}
use Rattle.rules.specs.Limits.{result_size, work_size}
use Rattle.rules.specs.Buffers.{part, over, zeros}
use Rattle.rules.specs.Refusals.{Verdict, given, refused, in_form, number_of, ◌then◌, ◌when◌, lowest}
use Rattle.rules.specs.Layout.{Layout}
use Rattle.rules.specs.Record.{natural, layout_in, sound, ordered}
use Rattle.rules.specs.Arguments.{over_record}
use Rattle.rules.specs.Endings.{work_after}
use Rattle.rules.specs.Union.{union, union_call}
use Rattle.rules.specs.Intersect.{intersect, intersect_call}
use Rattle.rules.specs.Pile.{are_two_places, exchange_call, Exchanged}
use Rattle.pile.specs.Slots.{TwoSlots}
use Rattle.pile.specs.Exchanging.{Both, both_of, with_both, slots_call}

-- two calls on the same records one after the other: what both judge is judged once
one_judging : (over sound ordered : Bool) (u i : Verdict Layout) (f : Both → List ℤ) →
    ((lowest (1 when over ∷ 2 when false ∷ 3 when not sound ∷ []) then λ _. u) then λ either.
    (lowest (1 when over ∷ 2 when false ∷ 3 when not sound ∷ 4 when not ordered ∷ []) then λ _. i) then λ both.
    given (f (record { united = either; common = both })))
    ≡ (lowest (1 when over ∷ []) then λ _.
    in_form f (lowest (3 when not sound ∷ []) then λ _. u then λ either. lowest (4 when not ordered ∷ []) then λ _. i then λ both. given (record { united = either; common = both })))
unfolding lowest
one_judging true sound ordered u i f = refl
one_judging false false ordered u i f = refl
one_judging false true ordered (refused n) i f = refl
one_judging false true false (given l) i f = refl
one_judging false true true (given l) (refused n) f = refl
one_judging false true true (given l) (given m) f = refl

-- ---- the ways out of `exchange`

module _ (pile : List ℤ) (first second : ℤ) where
  -- the slots of two places
  pub slots_asked : (n : ℕ) → work_size ≤ n → {a b : ℕ} → TwoSlots first second (length pile) a b → exchange_call pile first second n ≡ slots_call pile a b
  unfolding exchange_call union_call intersect_call slots_call both_of lowest
  slots_asked n h p =
      let s : List ℤ = part (natural first * result_size) result_size pile in
      let t : List ℤ = part (natural second * result_size) result_size pile in
      rw (p.first_at, p.second_at, le-ltb n work_size h, p.places)
      (one_judging (over_record s || over_record t) (sound s && sound t) (ordered s && ordered t) (union (layout_in s) (layout_in t)) (intersect (layout_in s) (layout_in t)) (with_both (natural first * result_size) (natural second * result_size) pile))

  module _ (work : List ℤ) where
    -- 2: nothing is touched
    pub ends_short : length work < work_size → Exchanged (exchange_call pile first second (length work)) pile work (Err ShortBuffer) pile work
    unfolding exchange_call lowest number_of work_after
    ends_short h = rw (lt-ltb (length work) work_size h) (record { answer = refl; pile_is = refl; work_is = refl })

    module _ (h : work_size ≤ length work) where
      -- 5: the working buffer is cleared
      pub ends_wrong : {work' : List ℤ} → are_two_places first second (length pile / result_size) ≡ false → work' ≡ over (zeros work_size) work →
          Exchanged (exchange_call pile first second (length work)) pile work (Err WrongArgument) pile work'
      unfolding exchange_call lowest number_of work_after
      ends_wrong e w = rw (le-ltb (length work) work_size h, e) (record { answer = refl; pile_is = refl; work_is = w })

      -- the slots are exchanged
      pub ends_slots : {a b : ℕ} → TwoSlots first second (length pile) a b → {r : (Result ⊤ Refusal)} {pile' work' : List ℤ} → Exchanged (slots_call pile a b) pile work r pile' work' →
          Exchanged (exchange_call pile first second (length work)) pile work r pile' work'
      ends_slots p x = rw (slots_asked (length work) h p) x
