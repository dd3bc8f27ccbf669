-- `sound`: a finding is there exactly if the record is sound.
use Rattle.std.proofs.Common.{rules}
use Rattle.records.proofs.SoundRecords.{is_found}
use Rattle.records.proofs.sound.Goals as goal

pub returns : goal.returns
returns c = search (rules, is_found c.judged.result c.judged.ensures)
