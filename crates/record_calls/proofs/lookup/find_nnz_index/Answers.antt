-- `find_nnz_index`: by the first reason that holds.
use mathlib.Core.Bool.{Bool}
use mathlib.Core.Path.{◌≡◌, ap}
use lib.IntN.{pos}
use lib.ListN.{get_or}
use Rattle.rules.specs.Arguments.{good_index}
use Rattle.rules.specs.Record.{natural, ordered}
use Rattle.rules.specs.Lookup.{find_nnz_index_call}
use Rattle.rules.specs.Refusals.{given, number_of}
use Rattle.rules.proofs.HandedOn.{handed_on, was_some, was_none}
use Rattle.records.specs.Sound.{SoundRecord}
use Rattle.records.proofs.SoundRecords.{found_unsound, found_sound, order_found_lem}
use Rattle.judging.proofs.Judged.{judged, told_not_true, told_not_false}
use Rattle.record_calls.proofs.Asked.{index_counted}
use Rattle.record_calls.proofs.lookup.find_nnz_index.Goals.{In_ok-head, After-good_index}
use Rattle.record_calls.proofs.lookup.find_nnz_index.Goals as goal

pub returns-then-over_record : goal.returns-then-over_record
unfolding find_nnz_index_call number_of
returns-then-over_record c = search judged

pub returns-in_err-head : goal.returns-in_err-head
unfolding find_nnz_index_call number_of
returns-in_err-head c =
    let none = was_none _ _ c.ok_or.ensures.value c.in_err-head.was in
    let unsound = found_unsound c.judged.ensures none.0 in
    rw (handed_on c.from_residual.result c.from_residual.ensures.1, none.1) (search judged)

-- the record is sound, and whether its rows increase is told
sound : (c : In_ok-head) → SoundRecord c.in_ok-head.head c.args.«record».now
sound c = found_sound c.judged.ensures (was_some _ _ c.ok_or.ensures.value c.in_ok-head.was)

order : (c : In_ok-head) → c.in_ok-head.ordered ≡ ordered c.args.«record».now
order c = order_found_lem c.judged.ensures (was_some _ _ c.ok_or.ensures.value c.in_ok-head.was)

pub returns-then-not-ordered : goal.returns-then-not-ordered
unfolding find_nnz_index_call number_of
returns-then-not-ordered c =
    let at = (goal.at.returns-then-not-ordered c).In_ok-head in
    let read = (sound at).judged in
    let mixed = told_not_true _ (order at) c.if-not-ordered.true-raw in
    search judged

-- whether the index fits the record
abbrev fits : (c : After-good_index) → Bool
fits c = good_index c.args.index.now (natural (get_or c.args.«record».now 2 (pos 0)))

index : (c : After-good_index) → c.good_index.result ≡ fits c
index c =
    let sound = found_sound c.judged.ensures (was_some _ _ c.ok_or.ensures.value c.in_ok-head.was) in
    index_counted _ c.args.index.now sound c.good_index.ensures

pub returns-then-not-good_index : goal.returns-then-not-good_index
unfolding find_nnz_index_call number_of
returns-then-not-good_index c =
    let at = (goal.at.returns-then-not-good_index c).In_ok-head in
    let asked = (goal.at.returns-then-not-good_index c).After-good_index in
    let read = (sound at).judged in
    let increase = told_not_false _ (order at) c.if-not-ordered.false-raw in
    let wrong = told_not_true (fits asked) (index asked) c.if-not-good_index.true-raw in
    search judged

pub find-requires : goal.find-requires
find-requires c =
    let at = (goal.at.find-requires c).In_ok-head in
    let asked = (goal.at.find-requires c).After-good_index in record {
      sound_record = sound at;
      s_value = told_not_false _ (order at) c.if-not-ordered.false-raw;
      pos_value = told_not_false (fits asked) (index asked) c.if-not-good_index.false-raw;
    }

pub returns : goal.returns
unfolding find_nnz_index_call number_of
returns c =
    let at = (goal.at.returns c).In_ok-head in
    let asked = (goal.at.returns c).After-good_index in
    let read = (sound at).judged in
    let increase = told_not_false _ (order at) c.if-not-ordered.false-raw in
    let right = told_not_false (fits asked) (index asked) c.if-not-good_index.false-raw in
    let place = ap given c.find.ensures in
    search judged
