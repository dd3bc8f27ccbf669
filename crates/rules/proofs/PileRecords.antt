-- One exchange of records: it leaves in the slots what the exchange of their layouts gives, and all else as it was. Assumes nothing.
use mathlib.Core.Path.{◌≡◌, refl, sym, ap, ◌∙◌}
use mathlib.Core.Bool.{Bool, true, false, not}
use mathlib.Core.List.{List, [], ◌∷◌}
use Prim.Native.Nat.{ℕ, ◌*◌, ◌/◌, ◌<◌}
use lib.IntN.{ℤ}
use lib.ListN.{length, drop, set}
use Rattle.rules.specs.Limits.{result_size}
use Rattle.rules.specs.Buffers.{put}
use Rattle.rules.specs.Refusals.{Verdict, given, refused, in_form, ◌then◌, ◌when◌, lowest}
use Rattle.rules.specs.Layout.{Layout, encode}
use Rattle.rules.specs.Soundness.{Sound}
use Rattle.rules.specs.Record.{natural, sound}
use Rattle.rules.specs.Arguments.{short_work}
use Rattle.rules.specs.Union.{union_call}
use Rattle.rules.specs.Intersect.{intersect_call}
use Rattle.rules.specs.Pile.{are_two_places, union_of, intersection_of, exchange, slot_count, slot_at, sound_slots, layouts_in, exchange_call}
use Rattle.rules.proofs.Encoded.{encode_short}
use Rattle.rules.proofs.Unions.{never}
use Rattle.rules.proofs.Calls.{union_call_sound, intersect_call_sound, union_read, intersect_read}
use Rattle.rules.proofs.ExchangeMade.{Places, places_true, at_place, exchange_nowhere, exchange_made, exchange_first_refused, exchange_second_refused}
use Rattle.rules.proofs.Slots.{slots_true, layouts_length, layouts_at_lem, written_length, written_count, written_behind, slot_stays, slots_sound, layouts_set}

-- ---- what an exchange writes

-- the records of two sound layouts in two different slots
pub record Written (first second : ℤ) (pile new : List ℤ) : Type 0 where
  pub at : Places first second (slot_count pile)
  pub either : Layout
  pub both : Layout
  pub either_sound : Sound either
  pub both_sound : Sound both
  pub is : new ≡ put (natural second * result_size) (encode both) (put (natural first * result_size) (encode either) pile)

-- an exchange that is given writes so
pub exchange_written : (pile : List ℤ) (first second : ℤ) (work : ℕ) {new : List ℤ} → exchange_call pile first second work ≡ given new → Written first second pile new
unfolding exchange_call lowest
exchange_written pile first second work {new} e = go (short_work work) (are_two_places first second (slot_count pile)) refl (union_call a b result_size work) (intersect_call a b result_size work) refl refl e
  where
    a : List ℤ
    a = slot_at pile (natural first)

    b : List ℤ
    b = slot_at pile (natural second)

    go : (s t : Bool) → are_two_places first second (slot_count pile) ≡ t → (u v : Verdict Layout) → union_call a b result_size work ≡ u → intersect_call a b result_size work ≡ v →
        (lowest (2 when s ∷ 5 when not t ∷ []) then λ _. u then λ either. v then λ both.
        given (put (natural second * result_size) (encode both) (put (natural first * result_size) (encode either) pile))) ≡ given new → Written first second pile new
    go true t f u v c d r = absurd (never r)
    go false false f u v c d r = absurd (never r)
    go false true f (refused n) v c d r = absurd (never r)
    go false true f (given u) (refused n) c d r = absurd (never r)
    go false true f (given u) (given v) c d r = record {
      at = places_true first second (slot_count pile) f;
      either = u;
      both = v;
      either_sound = union_call_sound a b result_size work c;
      both_sound = intersect_call_sound a b result_size work d;
      is = cc;
    }

-- ---- what stays of the slice

-- its length, what stands behind the last slot, and sound slots
pub record Kept (old new : List ℤ) : Type 0 where
  pub as_long : length new ≡ length old
  pub behind : drop (slot_count old * result_size) new ≡ drop (slot_count old * result_size) old
  pub stay_sound : sound_slots old ≡ true → sound_slots new ≡ true

-- a slice to which nothing was done keeps all
pub kept_same : (pile : List ℤ) → Kept pile pile
kept_same pile = record { as_long = refl; behind = refl; stay_sound = λ e. e }

-- what stays twice stays
pub kept_both : {a b c : List ℤ} → Kept a b → Kept b c → Kept a c
kept_both {a} {b} {c} p q =
    let count : slot_count b ≡ slot_count a = ap (λ k. k / result_size) p.as_long in
    record {
      as_long = q.as_long ∙ p.as_long;
      behind = (rw count at q.behind) ∙ p.behind;
      stay_sound = λ e. q.stay_sound (p.stay_sound e);
    }

module _ {first second : ℤ} {pile new : List ℤ} (w : Written first second pile new) where
  -- the slice with the first record written
  abbrev half : List ℤ
  half = put (natural first * result_size) (encode w.either) pile

  -- it has as many slots
  half_count : slot_count half ≡ slot_count pile
  half_count = written_count pile (natural first) w.at.first_in (encode w.either) (encode_short w.either_sound)

  second_in : natural second < slot_count half
  second_in = rw half_count w.at.second_in

  -- what an exchange keeps
  pub written_kept : Kept pile new
  written_kept = rw w.is (kept_both one two)
    where
      one : Kept pile half
      one = record {
        as_long = written_length pile (natural first) w.at.first_in (encode w.either) (encode_short w.either_sound);
        behind = written_behind pile (natural first) w.at.first_in (encode w.either) (encode_short w.either_sound);
        stay_sound = slots_sound pile (natural first) w.at.first_in w.either_sound;
      }

      two : Kept half (put (natural second * result_size) (encode w.both) half)
      two = record {
        as_long = written_length half (natural second) second_in (encode w.both) (encode_short w.both_sound);
        behind = written_behind half (natural second) second_in (encode w.both) (encode_short w.both_sound);
        stay_sound = slots_sound half (natural second) second_in w.both_sound;
      }

  -- all other slots stay
  pub written_others : (k : ℕ) → (k ≡ natural first → ⊥) → (k ≡ natural second → ⊥) → slot_at new k ≡ slot_at pile k
  written_others k n o =
      ap (λ t. slot_at t k) w.is
      ∙ slot_stays half (natural second) second_in (encode w.both) (encode_short w.both_sound) k o
      ∙ slot_stays pile (natural first) w.at.first_in (encode w.either) (encode_short w.either_sound) k n

  -- the layouts are the old ones with two others in their places
  written_layouts : layouts_in new ≡ set (set (layouts_in pile) (natural first) w.either) (natural second) w.both
  written_layouts =
      ap (λ (t : List ℤ). layouts_in t) w.is
      ∙ layouts_set half (natural second) second_in w.both_sound
      ∙ ap (λ t. set t (natural second) w.both) (layouts_set pile (natural first) w.at.first_in w.either_sound)

-- ---- the same exchange on the layouts

module _ (pile : List ℤ) (first second : ℤ) (work : ℕ) (w : short_work work ≡ false) (s : sound_slots pile ≡ true) where
  -- the two slots
  abbrev one : List ℤ
  one = slot_at pile (natural first)

  abbrev other : List ℤ
  other = slot_at pile (natural second)

  module _ (t : are_two_places first second (slot_count pile) ≡ true) where
    places : Places first second (slot_count pile)
    places = places_true first second (slot_count pile) t

    one_sound : sound one ≡ true
    one_sound = slots_true pile s (natural first) places.first_in

    other_sound : sound other ≡ true
    other_sound = slots_true pile s (natural second) places.second_in

    -- they are places of the layouts
    two_places : are_two_places first second (length (layouts_in pile)) ≡ true
    two_places = rw (layouts_length pile) t

    -- the calls on the two layouts
    union_same : union_of (at_place (layouts_in pile) first) (at_place (layouts_in pile) second) ≡ union_call one other result_size work
    union_same = rw (layouts_at_lem pile (natural first) places.first_in, layouts_at_lem pile (natural second) places.second_in) (sym (union_read one other work one_sound other_sound w))

    intersect_same : intersection_of (at_place (layouts_in pile) first) (at_place (layouts_in pile) second) ≡ intersect_call one other result_size work
    intersect_same = rw (layouts_at_lem pile (natural first) places.first_in, layouts_at_lem pile (natural second) places.second_in) (sym (intersect_read one other work one_sound other_sound w))

  -- of sound slots: an exchange of records is given or refused as that of their layouts, and leaves those that it gives
  pub exchange_records : in_form layouts_in (exchange_call pile first second work) ≡ exchange first second (layouts_in pile)
  unfolding exchange_call lowest
  exchange_records = rw w (go (are_two_places first second (slot_count pile)) refl (union_call one other result_size work) (intersect_call one other result_size work) refl refl)
    where
      go : (t : Bool) → are_two_places first second (slot_count pile) ≡ t → (u v : Verdict Layout) → union_call one other result_size work ≡ u → intersect_call one other result_size work ≡ v →
          in_form layouts_in (lowest (5 when not t ∷ []) then λ _. u then λ either. v then λ both.
          given (put (natural second * result_size) (encode both) (put (natural first * result_size) (encode either) pile))) ≡ exchange first second (layouts_in pile)
      go false t u v c d = sym (exchange_nowhere first second (layouts_in pile) (rw (layouts_length pile) t))
      go true t (refused n) v c d = sym (exchange_first_refused first second (layouts_in pile) (two_places t) (union_same t ∙ c))
      go true t (given u) (refused n) c d = sym (exchange_second_refused first second (layouts_in pile) (two_places t) (union_same t ∙ c) (intersect_same t ∙ d))
      go true t (given u) (given v) c d =
          ap (λ (l : List Layout). given l) (written_layouts {first = first} {second = second} {pile = pile} (record {
            at = places t;
            either = u;
            both = v;
            either_sound = union_call_sound one other result_size work c;
            both_sound = intersect_call_sound one other result_size work d;
            is = refl;
          }))
          ∙ sym (exchange_made first second (layouts_in pile) (two_places t) (union_same t ∙ c) (intersect_same t ∙ d))
