-- `write_step`: 'made', or the line of the refusal.
use Rattle.exchange_records.proofs.Turning.{step_refused}
use Rattle.exchange_records.proofs.write_step.Goals as goal

pub returns-in-Err : goal.returns-in-Err
returns-in-Err c = step_refused c.in-Err.is c.write_refusal.ensures
