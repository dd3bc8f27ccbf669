-- `make_both`: both records loaded, their union set aside, then their intersection.
use Rattle.rules.proofs.HandedOn.{handed_on, was_some, was_none}
use mathlib.Core.Path.{◌≡◌, refl}
use native.Mathlib.Omega.{arith}
use lib.ListN.{length-take}
use Rattle.rules.specs.Record.{ordered}
use Rattle.records.specs.Sound.{SoundRecord}
use Rattle.records.proofs.SoundRecords.{none_found, head_found_lem, found_sound, order_found_lem}
use Rattle.judging.proofs.SoundRecords.{unsound_first, unsound_second}
use Rattle.pile.proofs.Making.{Halfway, made_unsound, loaded_only, pair_back, union_out, halfway, first_unordered, second_unordered, ordered_window, both_made}
use Rattle.pile.proofs.make_both.Goals as goal
use Rattle.pile.proofs.make_both.Goals.{In_ok-second, In_ok-unite}

-- both records are sound
both_sound : (c : In_ok-second) → SoundRecord c.in_ok-first.first c.args.left.now × SoundRecord c.in_ok-second.second c.args.right.now
both_sound c = (found_sound c.judged.ensures (was_some _ _ c.ok_or.ensures.value c.in_ok-first.was), found_sound c.judged-2.ensures (was_some _ _ c.ok_or-2.ensures.value c.in_ok-second.was))

-- the union waits in the sixth part
midway : (c : In_ok-unite) → Halfway c.args.left.now c.args.right.now c.args.work.now c.unite.new.work
midway c =
    halfway (found_sound c.judged.ensures (was_some _ _ c.ok_or.ensures.value c.in_ok-first.was)) (found_sound c.judged-2.ensures (was_some _ _ c.ok_or-2.ensures.value c.in_ok-second.was)) c.requires
    (pair_back c.args.work.now c.requires c.load_pair.ensures c.work-1.given.0) (loaded_only c.args.work.now c.requires c.load_pair.ensures c.work-1.given.0) c.unite.ensures c.in_ok-unite.was

-- whether the rows of the first record are in order, and those of the second
first_told : (c : In_ok-unite) → c.in_ok-first.left_ordered ≡ ordered c.args.left.now
first_told c = order_found_lem c.judged.ensures (was_some _ _ c.ok_or.ensures.value c.in_ok-first.was)

second_told : (c : In_ok-unite) → c.in_ok-second.right_ordered ≡ ordered c.args.right.now
second_told c = order_found_lem c.judged-2.ensures (was_some _ _ c.ok_or-2.ensures.value c.in_ok-second.was)

pub returns-in_err-first : goal.returns-in_err-first
returns-in_err-first c =
    let none = was_none _ _ c.ok_or.ensures.value c.in_err-first.was in
    rw (handed_on c.from_residual.result c.from_residual.ensures.1, none.1)
    (made_unsound _ (unsound_first _ _ (none_found c.judged.ensures none.0) refl))

pub returns-in_err-second : goal.returns-in_err-second
returns-in_err-second c =
    let found = c.judged.ensures in
    let first = was_some _ _ c.ok_or.ensures.value c.in_ok-first.was in
    let none = was_none _ _ c.ok_or-2.ensures.value c.in_err-second.was in
    rw (handed_on c.from_residual-in_err-second.result c.from_residual-in_err-second.ensures.1, none.1)
    (made_unsound _ (unsound_second _ _ (head_found_lem found first) (found_sound found first).readable refl (none_found c.judged-2.ensures none.0) refl))

pub load_pair-requires : goal.load_pair-requires
load_pair-requires c = record {
  sound_record = both_sound (goal.at.load_pair-requires c).In_ok-second;
  window_size_in_bounds = simp length-take (omega (arith, c.requires));
}

pub unite-requires : goal.unite-requires
unite-requires c = (
  (pair_back c.args.work.now c.requires c.load_pair.ensures c.work-1.given.0).holds,
  omega (arith, c.requires, (loaded_only c.args.work.now c.requires c.load_pair.ensures c.work-1.given.0).size),
)

pub returns-in_err-unite : goal.returns-in_err-unite
returns-in_err-unite c =
    let both = both_sound (goal.at.returns-in_err-unite c).In_ok-second in
    rw (handed_on c.from_residual-in_err-unite.result c.from_residual-in_err-unite.ensures.1)
    (union_out both.0 both.1 c.requires (pair_back c.args.work.now c.requires c.load_pair.ensures c.work-1.given.0)
    (loaded_only c.args.work.now c.requires c.load_pair.ensures c.work-1.given.0) c.unite.ensures c.in_err-unite.was)

pub returns-then-not-left_ordered : goal.returns-then-not-left_ordered
returns-then-not-left_ordered c = let united = (goal.at.returns-then-not-left_ordered c).In_ok-unite in
    first_unordered (midway united) (first_told united) c.if-not-left_ordered.true

pub returns-then-not-right_ordered : goal.returns-then-not-right_ordered
returns-then-not-right_ordered c = let united = (goal.at.returns-then-not-right_ordered c).In_ok-unite in
    second_unordered (midway united) (first_told united) c.if-not-left_ordered.false (second_told united) c.if-not-right_ordered.true

pub intersect_in-requires : goal.intersect_in-requires
intersect_in-requires c = let united = (goal.at.intersect_in-requires c).In_ok-unite in
    ordered_window (midway united) (first_told united) c.if-not-left_ordered.false (second_told united) c.if-not-right_ordered.false

pub returns : goal.returns
returns c = let united = (goal.at.returns c).In_ok-unite in
    both_made (midway united) (first_told united) c.if-not-left_ordered.false (second_told united) c.if-not-right_ordered.false c.intersect_in.ensures
