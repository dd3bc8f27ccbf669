-- What a text, a list of two records and a union are answered with. Assumes nothing.
use Rattle.std.specs.Prelude.{Err, Ok, Result}
use mathlib.Core.Path.{◌≡◌, refl, sym, ap, ◌∙◌}
use mathlib.Core.Bool.{Bool, true, false, not, ◌&&◌, ◌||◌}
use mathlib.Core.List.{List, [], ◌∷◌}
use Prim.Native.Nat.{ℕ, ◌-◌, ◌<◌, ◌≤◌}
use native.Mathlib.Omega.{arith}
use lib.IntN.{ℤ}
use lib.ListN.{length, take, drop, length-drop}
use lib.Seq.{take_at}
use Rattle.rules.specs.declared.Refusal.{Refusal}
use Rattle.rules.specs.Limits.{result_size, work_size}
use Rattle.rules.specs.Buffers.{over}
use Rattle.rules.specs.Refusals.{Verdict, given, refused, in_form, number_of, ◌then◌, ◌when◌, lowest}
use Rattle.rules.specs.Layout.{Layout, encode}
use Rattle.rules.specs.Soundness.{Sound}
use Rattle.rules.specs.Record.{layout_in, sound, behind_record}
use Rattle.rules.specs.Arguments.{over_record, short_result, short_work}
use Rattle.rules.specs.Endings.{result_after, says, Ends}
use Rattle.rules.specs.Union.{union, union_call}
use Rattle.rules.proofs.Encoded.{encode_short, layout_alone, sound_alone}
use Rattle.rules.proofs.Unions.{never, union_sound}
use Rattle.rules.proofs.Tests.{none_empty, none_some}
use Rattle.records.proofs.EndToEnd.{to_end}
use Rattle.text.specs.Read.{Reading}
use Rattle.record_text.specs.Texts.{text_reading}
use Rattle.record_text.specs.Lines.{layout_text, refused_text, verdict_text}
use Rattle.union_records.specs.Unions.{union_of, reading_text, union_text}

-- ---- a text

pub text_is : (text : List ℕ) {reading : Reading} → text_reading text ≡ reading → union_text text ≡ reading_text reading
unfolding union_text
text_is text e = rw e

-- ---- leftovers

-- the first record of a list ends at one place, the second at another
module _ (list : List ℤ) (first second : ℕ) (p : drop first list ≡ behind_record list) (q : drop second list ≡ behind_record (drop first list)) where
  -- what stands behind both
  behind_both : behind_record (behind_record list) ≡ drop second list
  behind_both = sym (q ∙ ap behind_record p)

  -- leftovers are refused
  pub leftover : second < length list → union_of list ≡ refused 3
  unfolding union_of
  leftover h = rw (behind_both, none_some (drop second list) (rw length-drop (omega arith)))

  -- without them the union is asked for
  pub no_leftover : {a b : ℕ} → length list ≤ second → a ≡ result_size → b ≡ work_size → union_call list (take (length list - first) (drop first list)) a b ≡ union_of list
  unfolding union_of
  no_leftover h k l =
      rw (behind_both, none_empty (drop second list) (rw length-drop (omega arith)), k, l, to_end first list, p)

-- ---- a union

-- what a call gives is sound
call_sound : (s t : List ℤ) (a b : ℕ) {l : Layout} → union_call s t a b ≡ given l → Sound l
unfolding union_call lowest
call_sound s t a b {l} e = go (over_record s || over_record t) (short_result a || short_work b) (not (sound s && sound t)) e
  where
    go : (x y z : Bool) → (lowest (1 when x ∷ 2 when y ∷ 3 when z ∷ []) then λ _. union (layout_in s) (layout_in t)) ≡ given l → Sound l
    go true y z e = absurd (never e)
    go false true z e = absurd (never e)
    go false false true e = absurd (never e)
    go false false false e = union_sound (layout_in s) (layout_in t) e

-- the first n numbers are the record of the layout that a verdict gives
pub record Holds (v : Verdict Layout) (numbers : List ℤ) (n : ℕ) : Type 0 where
  pub layout : Layout
  pub is : v ≡ given layout
  pub front : take n numbers ≡ encode layout
  pub is_sound : Sound layout
  pub short : n ≤ result_size

module _ {v : Verdict Layout} {result work result' work' : List ℤ} {r : Result ℕ Refusal} (e : Ends (in_form encode v) result work r result' work') where
  -- a refusal says why
  refused_why : {x : Refusal} → r ≡ Err x → v ≡ refused (number_of x)
  refused_why {x} f = go v (sym (ap says f) ∙ e.answer)
    where
      go : (v : Verdict Layout) → refused (number_of x) ≡ in_form length (in_form encode v) → v ≡ refused (number_of x)
      go (given l) p = cc
      go (refused n) p = cc

  -- numbers that were written are the record of a layout
  record_held : ((l : Layout) → v ≡ given l → Sound l) → {n : ℕ} → r ≡ Ok n → Holds v result' n
  unfolding result_after over
  record_held All-sound {n} f = go v refl (sym (ap says f) ∙ e.answer) e.result_is
    where
      go : (u : Verdict Layout) → v ≡ u → given n ≡ in_form length (in_form encode u) → result' ≡ result_after (in_form encode u) result → Holds v result' n
      go (given l) p q k =
          let size : length (encode l) ≡ n = cc in
          let short = encode_short (All-sound l p) in
          record { layout = l; is = p; front = rw k (take_at (encode l) (drop (length (encode l)) result) n size); is_sound = All-sound l p; short = omega arith }
      go (refused m) p q k = absurd (never (sym q))

module _ (s t : List ℤ) (a b : ℕ) {result work result' work' : List ℤ} {r : Result ℕ Refusal} (e : Ends (in_form encode (union_call s t a b)) result work r result' work') where
  -- the numbers that a union wrote
  pub union_held : {n : ℕ} → r ≡ Ok n → Holds (union_call s t a b) result' n
  union_held f = record_held {v = union_call s t a b} e (λ l. call_sound s t a b) f

  -- why a union was refused
  pub union_why : {x : Refusal} → r ≡ Err x → refused_text (number_of x) ≡ verdict_text (union_call s t a b)
  union_why f = sym (ap verdict_text (refused_why {v = union_call s t a b} e f))

module _ {v : Verdict Layout} {numbers : List ℤ} {n : ℕ} (h : Holds v numbers n) where
  -- they are a sound record
  pub held_sound : sound (take n numbers) ≡ true
  held_sound = rw h.front (sound_alone h.is_sound)

  -- and that of the layout that is given
  pub held_text : layout_text (layout_in (take n numbers)) ≡ verdict_text v
  held_text = rw (h.front, layout_alone h.is_sound, h.is)
