-- `answer`: numbers, or other text.
use mathlib.Core.Path.{◌∙◌, sym}
use Rattle.rules.specs.Refusals.{number_of}
use Rattle.record_text.proofs.Texts.{list_front, list_other}
use Rattle.union_records.proofs.Verdicts.{text_is}
use Rattle.union_records.proofs.Buffers.answer.Goals.{in-Some, in-None}
use Rattle.union_records.proofs.Buffers.answer.Goals as goal

pub returns : goal.returns
unfolding number_of
returns c = elim c.match-read_list.branch [
  | in-Some w ↦ let f = list_front _ _ c.read_list.ensures w.in-Some.is in rw (w.end-is, w.self-is) (w.answer_list-end.ensures.is ∙ sym (text_is c.args.text.now f.reads))
  | in-None w ↦ rw (w.end-is, w.self-is) (w.write_refusal-end.ensures.is ∙ sym (text_is c.args.text.now (list_other _ _ c.read_list.ensures w.in-None.is)))
]
