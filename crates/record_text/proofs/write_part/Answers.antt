-- `write_part`: a part has as many numbers as lie between its places.
use Rattle.record_text.proofs.Sections.{part_wrote}
use Rattle.record_text.proofs.write_part.Goals as goal

pub returns : goal.returns
returns c = part_wrote c.args.s.now c.args.from c.args.to c.requires.0 c.requires.1 c.write_line.ensures
