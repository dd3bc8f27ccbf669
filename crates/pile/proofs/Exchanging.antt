-- How an exchange of two slots ends. Assumes nothing.
use Rattle.std.specs.Prelude.{Err, Ok, Result, ⊤}
use mathlib.Core.Path.{◌≡◌, refl, sym, ◌∙◌, subst}
use mathlib.Core.Bool.{Bool, true, false, ◌||◌}
use mathlib.Core.List.{List}
use Prim.Native.Nat.{ℕ, ◌+◌, ◌-◌, ◌≤◌}
use native.Mathlib.Omega.{arith}
use lib.IntN.{ℤ}
use Rattle.rules.specs.declared.Refusal.{Refusal}
use Rattle.rules.specs.declared.Refusal.TheVariants.{OverCount, Unsound}
use Rattle.rules.specs.Limits.{result_size, work_size}
use Rattle.rules.specs.Buffers.{part, put, over, zeros}
use Rattle.rules.specs.Refusals.{given, refused, in_form, number_of, lowest}
use Rattle.rules.specs.Layout.{encode}
use Rattle.rules.specs.Arguments.{over_record}
use Rattle.rules.specs.Endings.{work_after}
use Rattle.tables.specs.Tables.{Only}
use Rattle.parts.specs.Parts.{target, layout_at}
use Rattle.parts.proofs.Ending.{Late, call_refused}
use Rattle.parts.proofs.Lent.{lent_of}
use Rattle.judging.proofs.SoundRecords.{over_first, over_second, NoneOver}
use Rattle.rules.specs.Pile.{Exchanged}
use Rattle.pile.specs.Exchanging.{sixth, both_of, BothMade, with_both, slots_call}
use Rattle.pile.proofs.Late.{late_both}

-- a working buffer that was written and cleared, behind a refusal above 2
late_clear : (x : Refusal) → 3 ≤ number_of x → {work now work' : List ℤ} → Only 0 work_size work now → work' ≡ over (zeros work_size) now → work' ≡ work_after (refused (number_of x)) work
late_clear x h {work} {now} {work'} o e = (call_refused {v = refused (number_of x)} {x = x} {result = work} {r = Err x} refl h o (refl, e)).work_is

-- and behind what is given
pub given_clear : {work now work' : List ℤ} → Only 0 work_size work now → work' ≡ over (zeros work_size) now → work' ≡ over (zeros work_size) work
unfolding work_after number_of
given_clear o e = late_clear Unsound (omega arith) o e

-- a slot as it is lent
pub slot_lent : (a : ℕ) (pile : List ℤ) → lent_of a (a + result_size) pile ≡ part a result_size pile
unfolding part
slot_lent a pile = let n : a + result_size - a ≡ result_size = omega arith in rw n

module _ (pile : List ℤ) (a b : ℕ) where
  abbrev s : List ℤ
  s = lent_of a (a + result_size) pile

  abbrev t : List ℤ
  t = lent_of b (b + result_size) pile

  -- 1: nothing is touched
  ends_over : (work : List ℤ) → (over_record s || over_record t) ≡ true → Exchanged (slots_call pile a b) pile work (Err OverCount) pile work
  unfolding slots_call lowest number_of work_after
  ends_over work e = rw (← slot_lent a pile, ← slot_lent b pile, e) (record { answer = refl; pile_is = refl; work_is = refl })

  pub ends_over_first : (work : List ℤ) {o : Bool} → o ≡ over_record s → o ≡ true → Exchanged (slots_call pile a b) pile work (Err OverCount) pile work
  ends_over_first work e f = ends_over work (over_first s t e f)

  pub ends_over_second : (work : List ℤ) {o q : Bool} → o ≡ over_record s → o ≡ false → q ≡ over_record t → q ≡ true →
      Exchanged (slots_call pile a b) pile work (Err OverCount) pile work
  ends_over_second work e f g k = ends_over work (over_second s t e f g k)

  module _ (n : NoneOver s t) where
    goes_on : slots_call pile a b ≡ in_form (with_both a b pile) (both_of s t)
    unfolding slots_call lowest
    goes_on = rw (← slot_lent a pile, ← slot_lent b pile, n.is)

    -- one of the two calls is refused: the pile stays
    pub ends_refused : {work now work' : List ℤ} {step : (Result ⊤ Refusal)} {why : Refusal} → BothMade s t work now step → step ≡ Err why → work' ≡ over (zeros work_size) now →
        Exchanged (slots_call pile a b) pile work (Err why) pile work'
    ends_refused {work} {why = why} m f w =
        let is : both_of s t ≡ refused (number_of why) = sym m.says ∙ rw f in
        rw (goes_on, is) (record {
          answer = refl;
          pile_is = refl;
          work_is = late_clear why (subst Late is (late_both s t)) m.only w;
        })

    -- both are made, and stored
    pub ends_made : {work now work' pile' : List ℤ} {step : (Result ⊤ Refusal)} → BothMade s t work now step → step ≡ Ok tt →
        pile' ≡ put b (encode (layout_at target now)) (put a (encode (layout_at sixth now)) pile) → work' ≡ over (zeros work_size) now →
        Exchanged (slots_call pile a b) pile work (Ok tt) pile' work'
    unfolding work_after
    ends_made {now = now} m f q w =
        let is : both_of s t ≡ given (record { united = layout_at sixth now; common = layout_at target now }) = sym m.says ∙ rw f in
        rw (goes_on, is) (record { answer = refl; pile_is = q; work_is = given_clear m.only w })
