-- `answer_records`: no pairs behind the records, or what comes of them.
use native.Mathlib.Omega.{arith}
use lib.ListN.{length-take, length-drop}
use Rattle.rules.specs.Refusals.{number_of}
use Rattle.record_text.proofs.Fronts.{front_is}
use Rattle.exchange_records.proofs.Judging.{records_refused, first_there, rest_even, records_text_lem}
use Rattle.exchange_records.proofs.answer_records.Goals as goal

pub returns-then-not-are_pairs : goal.returns-then-not-are_pairs
unfolding number_of
returns-then-not-are_pairs c = front_is (records_refused c.load_pile-at.ensures c.are_pairs.ensures c.if-not-are_pairs.true-raw) c.write_refusal.ensures

pub slice_bounds-answer_pairs-count : goal.slice_bounds-answer_pairs-count
slice_bounds-answer_pairs-count c = first_there c.load_pile-at.ensures c.are_pairs.ensures c.if-not-are_pairs.false-raw

pub slice_bounds-answer_pairs-start : goal.slice_bounds-answer_pairs-start
slice_bounds-answer_pairs-start c = omega (arith, first_there c.load_pile-at.ensures c.are_pairs.ensures c.if-not-are_pairs.false-raw)

pub answer_pairs-requires : goal.answer_pairs-requires
answer_pairs-requires c = record {
  pairs_len = (rest_even c.load_pile-at.ensures c.are_pairs.ensures c.if-not-are_pairs.false-raw, c.requires.n_le_list_limit.2, omega (arith, c.load_pile-at.auto.pile, c.requires.n_le_list_limit.0, c.requires.n_le_list_limit.1));
  pairs_in_bounds = simp (length-take, length-drop) (omega (arith, c.requires.list_in_bounds));
}

pub returns : goal.returns
returns c = front_is (records_text_lem c.load_pile-at.ensures c.are_pairs.ensures c.if-not-are_pairs.false-raw) c.answer_pairs.ensures
