-- `find_nnz_indices`: by the first reason that holds.
use mathlib.Core.Path.{◌≡◌, ap, ◌∙◌}
use Rattle.std.specs.Prelude.{Some}
use mathlib.Core.Bool.{true, false}
use mathlib.Core.List.{List}
use native.Mathlib.Nat.{le_trans}
use lib.IntN.{ℤ}
use lib.ListN.{length}
use Rattle.rules.specs.Record.{ordered}
use Rattle.rules.specs.Arguments.{over_record, short_result}
use Rattle.rules.specs.Lookup.{find_nnz_indices_call}
use Rattle.rules.specs.Refusals.{Verdict, given, number_of}
use Rattle.rules.specs.declared.Refusal.TheVariants.{OverCount, ShortBuffer, Unsound, Unordered, WrongArgument}
use Rattle.rules.proofs.HandedOn.{handed_on, was_some, was_none}
use Rattle.rules.proofs.FoundAll.{places_counted}
use Rattle.cells.specs.View.{sign_of}
use Rattle.records.specs.Sound.{SoundRecord}
use Rattle.records.proofs.SoundRecords.{lies, found_unsound, found_sound, order_found_lem}
use Rattle.shapes.proofs.Reading.{handed_over}
use Rattle.judging.proofs.Judged.{judged, told_not_true, told_not_false}
use Rattle.judging.proofs.Results.{refused_in, written_in, results}
use Rattle.record_calls.proofs.Asked.{call_unordered, call_wrong, call_given, count_negative, indices_counted, indices_few, indices_there, places_are}
use Rattle.record_calls.proofs.indices.find_nnz_indices.Goals.{In_ok-head, After-sign_of, In_ok-n}
use Rattle.record_calls.proofs.indices.find_nnz_indices.Goals as goal

pub returns-then-over_record : goal.returns-then-over_record
unfolding find_nnz_indices_call number_of
returns-then-over_record c =
    let call : Verdict (List ℤ) = find_nnz_indices_call c.args.«record».now c.args.count c.args.indices.now (length c.args.res.now) in
    refused_in call OverCount (search (judged, results))

pub returns-then-res-lt-RESULT_SIZE : goal.returns-then-res-lt-RESULT_SIZE
unfolding find_nnz_indices_call number_of
returns-then-res-lt-RESULT_SIZE c =
    let call : Verdict (List ℤ) = find_nnz_indices_call c.args.«record».now c.args.count c.args.indices.now (length c.args.res.now) in
    refused_in call ShortBuffer (search (judged, results))

pub returns-in_err-head : goal.returns-in_err-head
unfolding find_nnz_indices_call number_of
returns-in_err-head c =
    let call : Verdict (List ℤ) = find_nnz_indices_call c.args.«record».now c.args.count c.args.indices.now (length c.args.res.now) in
    let none = was_none _ _ c.ok_or.ensures.value c.in_err-head.was in
    let unsound = found_unsound c.judged.ensures none.0 in
    rw (handed_on c.from_residual.result c.from_residual.ensures.1, none.1) (refused_in call Unsound (search (judged, results)))

-- the record is sound, and whether its rows increase is told
found : (c : In_ok-head) → SoundRecord c.in_ok-head.head c.args.«record».now
found c = found_sound c.judged.ensures (was_some _ _ c.ok_or.ensures.value c.in_ok-head.was)

order : (c : In_ok-head) → c.in_ok-head.ordered ≡ ordered c.args.«record».now
order c = order_found_lem c.judged.ensures (was_some _ _ c.ok_or.ensures.value c.in_ok-head.was)

-- it has few axes, and the result is long enough
few : (c : In_ok-head) → over_record c.args.«record».now ≡ false
few c = search judged

long : (c : In_ok-head) → short_result (length c.args.res.now) ≡ false
long c = search results

pub returns-then-not-ordered : goal.returns-then-not-ordered
unfolding number_of
returns-then-not-ordered c =
    let call : Verdict (List ℤ) = find_nnz_indices_call c.args.«record».now c.args.count c.args.indices.now (length c.args.res.now) in
    let at = (goal.at.returns-then-not-ordered c).In_ok-head in
    refused_in call Unordered (call_unordered _ _ _ _ (few at) (long at) (found at).judged (told_not_true _ (order at) c.if-not-ordered.true-raw))

-- its rows increase, and the count is read by its sign
rising : (c : After-sign_of) → ordered c.args.«record».now ≡ true
rising c =
    let order = order_found_lem c.judged.ensures (was_some _ _ c.ok_or.ensures.value c.in_ok-head.was) in
    told_not_false _ order c.if-not-ordered.false-raw

sign : (c : After-sign_of) → c.sign_of.result ≡ sign_of c.args.count
sign c = handed_over _ c.ranges.count c.sign_of.ensures.is

pub returns-in_err-n : goal.returns-in_err-n
unfolding number_of
returns-in_err-n c =
    let call : Verdict (List ℤ) = find_nnz_indices_call c.args.«record».now c.args.count c.args.indices.now (length c.args.res.now) in
    let at = (goal.at.returns-in_err-n c).In_ok-head in
    let read = (goal.at.returns-in_err-n c).After-sign_of in
    let none = was_none _ _ c.ok_or-2.ensures.value c.in_err-n.was in
    let wrong = count_negative _ c.args.indices.now (sign read) _ none.0 in
    rw (handed_on c.from_residual-in_err-n.result c.from_residual-in_err-n.ensures.1, none.1)
    (refused_in call WrongArgument (call_wrong _ _ _ _ (few at) (long at) (found at).judged (rising read) wrong))

pub good_indices-requires : goal.good_indices-requires
good_indices-requires c = (lies (found (goal.at.good_indices-requires c).In_ok-head)).rank_few

-- the count is the natural number that was read
number : (c : In_ok-n) → c.sign_of.result ≡ Some c.in_ok-n.n
number c = was_some _ _ c.ok_or-2.ensures.value c.in_ok-n.was

pub returns-then-not-good_indices : goal.returns-then-not-good_indices
unfolding number_of
returns-then-not-good_indices c =
    let call : Verdict (List ℤ) = find_nnz_indices_call c.args.«record».now c.args.count c.args.indices.now (length c.args.res.now) in
    let at = (goal.at.returns-then-not-good_indices c).In_ok-head in
    let read = (goal.at.returns-then-not-good_indices c).After-sign_of in
    let there = number (goal.at.returns-then-not-good_indices c).In_ok-n in
    let wrong = told_not_true _ (indices_counted _ _ (sign read) (found at) there c.good_indices.ensures) c.if-not-good_indices.true-raw in
    refused_in call WrongArgument (call_wrong _ _ _ _ (few at) (long at) (found at).judged (rising read) wrong)

pub find_all-requires : goal.find_all-requires
find_all-requires c =
    let at = (goal.at.find_all-requires c).In_ok-head in
    let read = (goal.at.find_all-requires c).After-sign_of in
    let there = number (goal.at.find_all-requires c).In_ok-n in
    let good = told_not_false _ c.good_indices.ensures c.if-not-good_indices.false-raw in record {
      sound_record = found at;
      s_value = rising read;
      indices = indices_there _ _ (sign read) (found at) there good;
      n_in_bounds = le_trans (indices_few _ _ (sign read) (found at) there good) c.if-res-lt-RESULT_SIZE.false;
    }

pub returns : goal.returns
returns c =
    let call : Verdict (List ℤ) = find_nnz_indices_call c.args.«record».now c.args.count c.args.indices.now (length c.args.res.now) in
    let at = (goal.at.returns c).In_ok-head in
    let read = (goal.at.returns c).After-sign_of in
    let there = number (goal.at.returns c).In_ok-n in
    let good = told_not_false _ (indices_counted _ _ (sign read) (found at) there c.good_indices.ensures) c.if-not-good_indices.false-raw in
    let same = places_are _ c.args.indices.now (sign read) (found at) there in
    written_in call (ap given same ∙ call_given _ _ _ _ (few at) (long at) (found at).judged (rising read) good) (places_counted _ _ _ _) c.find_all.ensures
