-- `write_number`: the library prints the number's text.
use mathlib.Core.Path.{◌∙◌}
use Rattle.text.proofs.Spelling.{number_wrote}
use Rattle.text.proofs.write_number.Goals as goal

pub returns : goal.returns
returns c = number_wrote c.args.z c.args.at c.args.out.now c.ranges.z.sfits (c.as_bytes-digits.ensures.value ∙ c.format.ensures.text) (rw c.as_bytes-digits.ensures.value c.format.ensures.fits) c.copy_from_slice.ensures.after
