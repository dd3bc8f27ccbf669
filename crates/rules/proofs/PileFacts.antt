-- What exchanges keep of a pile of records, as one record of facts. Assumes nothing.
use mathlib.Core.Path.{◌≡◌, refl, sym, ap, ◌∙◌}
use mathlib.Core.Bool.{Bool, true, false, not, ◌&&◌}
use mathlib.Core.List.{List, [], ◌∷◌, map}
use Prim.Native.Nat.{ℕ, zero, suc, ◌+◌, ◌*◌, ◌%◌, ◌≤◌, ◌<◌}
use native.Mathlib.Nat.{zero-add}
use native.Mathlib.Omega.{arith}
use borrow.Author.Tests.{ne_eqb}
use lib.IntN.{ℤ}
use lib.ListN.{length}
use Rattle.rules.specs.Limits.{result_size, work_size}
use Rattle.rules.specs.Lists.{all, from, below, sum}
use Rattle.rules.specs.Buffers.{put}
use Rattle.rules.specs.Refusals.{Verdict, given, refused, ◌then◌, ◌when◌, lowest}
use Rattle.rules.specs.Layout.{Layout, encode}
use Rattle.rules.specs.Record.{natural, layout_in}
use Rattle.rules.specs.Arguments.{short_work}
use Rattle.rules.specs.CountsAndForms.{nnz, nnz_call}
use Rattle.rules.specs.Union.{union_call}
use Rattle.rules.specs.Intersect.{intersect_call}
use Rattle.rules.specs.Pile.{are_two_places, given_or, belongs, layout_of, finds, how_many, nonzeros, one_if_given, slot_count, slot_at, sound_slots, layouts_in, exchange_call, Exchanges, one_more, exchanges_from, exchange_all_call}
use Rattle.rules.specs.PileKept.{is_pile, is_given, can_exchange, MadeAt, Tried, none_left, made_then, not_made_then, answers_found, slot_finds, slots_finding, nnz_sum, PileKept}
use Rattle.rules.proofs.Same.{both_true}
use Rattle.rules.proofs.Tests.{true_both}
use Rattle.rules.proofs.Holding.{Position, position_true}
use Rattle.rules.proofs.Summing.{bit, count_sum}
use Rattle.rules.proofs.ExchangeMade.{Places}
use Rattle.rules.proofs.Slots.{layouts_at_lem}
use Rattle.rules.proofs.PileRecords.{Written, exchange_written, written_others}
use Rattle.rules.proofs.RecordPiles.{exchange_enough, Leaves, exchange_leaves, LeftBy, exchange_all_leaves, Answers, slots_answer}

-- ---- when an exchange is made

module _ (pile : List ℤ) (first second : ℤ) where
  abbrev one : List ℤ
  one = slot_at pile (natural first)

  abbrev other : List ℤ
  other = slot_at pile (natural second)

  -- it is given exactly if it can be made
  pub given_if_can : is_given (exchange_call pile first second work_size) ≡ can_exchange pile first second
  unfolding exchange_call lowest
  given_if_can = go (are_two_places first second (slot_count pile)) (union_call one other result_size work_size) (intersect_call one other result_size work_size)
    where
      go : (t : Bool) (u v : Verdict Layout) →
          is_given (lowest (5 when not t ∷ []) then λ _. u then λ either. v then λ both.
          given (put (natural second * result_size) (encode both) (put (natural first * result_size) (encode either) pile))) ≡ t && is_given u && is_given v
      go false u v = refl
      go true (refused n) v = refl
      go true (given u) (refused n) = refl
      go true (given u) (given v) = refl

-- with an even count of numbers, and a working buffer that is not short, all pairs of a list are tried
pub all_given : (pile pairs : List ℤ) (work : ℕ) → short_work work ≡ false → length pairs % 2 ≡ 0 →
    exchange_all_call pile pairs work ≡ given (exchanges_from (record { made = 0; pile = pile }) pairs)
unfolding exchange_all_call lowest
all_given pile pairs work w even = rw (w, ne_eqb (length pairs % 2) 1 (λ e. omega arith))

-- ---- what calls answer of the slots

-- numbers that are told of things, each by its place, have the sum of those told of the things
sums_agree : {A : Type 0} (f : ℕ → ℕ) (g : A → ℕ) (h : ℕ → A) (a n : ℕ) → ((k : ℕ) → a ≤ k → k < a + n → f k ≡ g (h k)) → sum (map f (from a n)) ≡ sum (map g (map h (from a n)))
unfolding from sum
sums_agree f g h a zero e = refl
sums_agree f g h a (suc n) e = rw (e a (omega arith) (omega arith), sums_agree f g h (suc a) n (λ k l m. e k (omega arith) (omega arith)))

module _ (shape : List ℕ) (pile : List ℤ) (p : is_pile shape pile ≡ true) where
  sounds : sound_slots pile ≡ true
  sounds = (both_true (sound_slots pile) (all (belongs shape) (layouts_in pile)) p).0

  belong : all (belongs shape) (layouts_in pile) ≡ true
  belong = (both_true (sound_slots pile) (all (belongs shape) (layouts_in pile)) p).1

  answers : (k : ℕ) → k < slot_count pile → Answers shape (slot_at pile k)
  answers = slots_answer shape pile sounds belong

  -- a lookup in a slot finds a position exactly if that in its layout does
  slot_finds_lem : (k : ℕ) → k < slot_count pile → (q : List ℕ) → Position shape q → slot_finds pile q k ≡ finds q (layout_in (slot_at pile k))
  slot_finds_lem k h q n = ap answers_found ((answers k h).lookup_answer q n)

  -- it is found in as many slots as layouts
  slots_finding_lem : (q : List ℕ) → Position shape q → slots_finding q pile ≡ how_many q (layouts_in pile)
  unfolding how_many
  slots_finding_lem q n =
      count_sum (slot_finds pile q) (below (slot_count pile))
      ∙ sums_agree (λ k. bit (slot_finds pile q k)) (λ l. bit (finds q l)) (λ k. layout_in (slot_at pile k)) 0 (slot_count pile) (λ k l m. ap bit (slot_finds_lem k (omega arith) q n))
      ∙ sym (count_sum (finds q) (layouts_in pile))

  -- the sum of what `nnz` answers is that of the layouts
  nnz_summed : nnz_sum pile ≡ nonzeros (layouts_in pile)
  unfolding nonzeros
  nnz_summed = sums_agree (λ k. given_or 0 (nnz_call (slot_at pile k))) nnz (λ k. layout_in (slot_at pile k)) 0 (slot_count pile) (λ k l m.
      let a = answers k (omega arith) in
      ap (given_or 0) a.nnz_answer ∙ sym a.counted.nnz_is)

-- ---- one exchange that is made

module _ (shape : List ℕ) (pile : List ℤ) (first second : ℤ) {new : List ℤ} (p : is_pile shape pile ≡ true) (e : exchange_call pile first second work_size ≡ given new) where
  leaves : Leaves shape first second pile new
  leaves = exchange_leaves shape pile first second work_size (sounds shape pile p) (belong shape pile p) e

  -- a pile is left
  one_pile : is_pile shape new ≡ true
  one_pile = true_both (leaves.kept.stay_sound (sounds shape pile p)) leaves.keeps.belong

  -- it does what it is to do
  made_at : MadeAt shape (natural first) (natural second) pile new
  made_at = record {
    first_holds = λ q. rw (← old_at (natural first) at.first_in, ← old_at (natural second) at.second_in, ← new_at (natural first) at.first_in) (leaves.exchanged_at.either q);
    second_holds = λ q. rw (← old_at (natural first) at.first_in, ← old_at (natural second) at.second_in, ← new_at (natural second) at.second_in) (leaves.exchanged_at.both q);
    others_stay = written_others written;
    pile_left = one_pile;
    as_long = leaves.kept.as_long;
  }
    where
      written : Written first second pile new
      written = exchange_written pile first second work_size e

      at : Places first second (slot_count pile)
      at = written.at

      old_at : (k : ℕ) → k < slot_count pile → layout_of (layouts_in pile) k ≡ layout_in (slot_at pile k)
      old_at = layouts_at_lem pile

      new_at : (k : ℕ) → k < slot_count pile → layout_of (layouts_in new) k ≡ layout_in (slot_at new k)
      new_at k h = layouts_at_lem new k (rw leaves.kept.as_long h)

-- ---- exchanges one after the other

-- each is tried in turn, and those that are made are counted
records_tried : (shape : List ℕ) (pairs : List ℤ) (e : Exchanges) → length pairs % 2 ≡ 0 → is_pile shape e.pile ≡ true →
    (made : ℕ) × ((exchanges_from e pairs).made ≡ e.made + made) × Tried shape pairs made e.pile (exchanges_from e pairs).pile
unfolding exchanges_from
records_tried shape [] e h p = (0, omega arith, none_left)
records_tried shape (first ∷ []) e h p = absurd (omega arith)
records_tried shape (first ∷ second ∷ pairs) e h p = go (exchange_call e.pile first second work_size) refl (λ next. records_tried shape pairs next (omega arith))
  where
    go : (v : Verdict (List ℤ)) → exchange_call e.pile first second work_size ≡ v →
        ((next : Exchanges) → is_pile shape next.pile ≡ true → (made : ℕ) × ((exchanges_from next pairs).made ≡ next.made + made) × Tried shape pairs made next.pile (exchanges_from next pairs).pile) →
        (made : ℕ) × ((exchanges_from (one_more e v) pairs).made ≡ e.made + made) × Tried shape (first ∷ second ∷ pairs) made e.pile (exchanges_from (one_more e v) pairs).pile
    go (given new) d rest =
        let r = rest (one_more e (given new)) (one_pile shape e.pile first second p d) in
        (suc r.0, omega (arith, r.1), made_then (sym (given_if_can e.pile first second) ∙ ap is_given d) (made_at shape e.pile first second p d) r.2)
    go (refused n) d rest = let r = rest e p in (r.0, r.1, not_made_then (sym (given_if_can e.pile first second) ∙ ap is_given d) r.2)

-- ---- all that is kept

-- by the exchanges of a list
pub records_keep : (shape : List ℕ) (pile pairs : List ℤ) → is_pile shape pile ≡ true → length pairs % 2 ≡ 0 →
    PileKept shape pairs (exchanges_from (record { made = 0; pile = pile }) pairs).made pile (exchanges_from (record { made = 0; pile = pile }) pairs).pile
records_keep shape pile pairs p even = record {
  tried = rw (tries.1, zero-add) tries.2;
  still_pile = still;
  as_long = left.kept.as_long;
  behind_stays = left.kept.behind;
  found_as_often = λ q n.
      let at = position_true shape q n in
      slots_finding_lem shape new still q at ∙ left.keeps.how_many_hold q at.size ∙ sym (slots_finding_lem shape pile p q at);
  same_sum = nnz_summed shape new still ∙ left.keeps.total ∙ sym (nnz_summed shape pile p);
  nnz_is = λ k h. (answers shape new still k h).nnz_answer;
  found_if_held = λ k h q n.
      let at = position_true shape q n in
      slot_finds_lem shape new still k h q at ∙ (answers shape new still k h).counted.found_is q at;
  in_order = λ k h q n e.
      let at = position_true shape q n in
      (answers shape new still k h).counted.place_is q at (cc ((answers shape new still k h).lookup_answer q at));
}
  where
    start : Exchanges
    start = record { made = 0; pile = pile }

    new : List ℤ
    new = (exchanges_from start pairs).pile

    tries : (made : ℕ) × ((exchanges_from start pairs).made ≡ 0 + made) × Tried shape pairs made pile new
    tries = records_tried shape pairs start even p

    left : LeftBy shape pairs pile (exchanges_from start pairs)
    left = exchange_all_leaves shape pile pairs work_size (sounds shape pile p) (belong shape pile p) (all_given pile pairs work_size refl even)

    still : is_pile shape new ≡ true
    still = true_both left.sounds left.keeps.belong

-- by one exchange
pub one_exchange_keeps : (shape : List ℕ) (pile : List ℤ) (first second : ℤ) (work : ℕ) → is_pile shape pile ≡ true → short_work work ≡ false →
    PileKept shape (first ∷ second ∷ []) (one_if_given (exchange_call pile first second work)) pile (given_or pile (exchange_call pile first second work))
unfolding exchanges_from
one_exchange_keeps shape pile first second work p w = rw (exchange_enough pile first second work w) (go (exchange_call pile first second work_size) (records_keep shape pile (first ∷ second ∷ []) p refl))
  where
    go : (v : Verdict (List ℤ)) → PileKept shape (first ∷ second ∷ []) (one_more (record { made = 0; pile = pile }) v).made pile (one_more (record { made = 0; pile = pile }) v).pile →
        PileKept shape (first ∷ second ∷ []) (one_if_given v) pile (given_or pile v)
    go (given new) k = k
    go (refused n) k = k
