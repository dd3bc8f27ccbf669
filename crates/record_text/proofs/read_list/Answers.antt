-- `read_list`: too much text, or what the numbers are.
use Rattle.record_text.proofs.Texts.{too_long, list_read}
use Rattle.record_text.proofs.read_list.Goals as goal

pub returns-then-text-gt-TEXT_SIZE : goal.returns-then-text-gt-TEXT_SIZE
returns-then-text-gt-TEXT_SIZE c = too_long _ c.if-text-gt-TEXT_SIZE.true

pub returns : goal.returns
returns c = list_read c.args.text.now c.args.numbers.now _ _ c.if-text-gt-TEXT_SIZE.false c.read_numbers.auto.out c.read_numbers.ensures
