-- The text that a text of two records is answered with: the five lines of their union, or the line of a refusal.
use Rattle.std.specs.Prelude.{List, ℕ, ℤ}
use Rattle.rules.specs.Lists.{if, none}
use Rattle.rules.specs.Layout.{Layout}
use Rattle.rules.specs.Limits.{result_size, work_size}
use Rattle.rules.specs.Refusals.{Verdict, refused}
use Rattle.rules.specs.Record.{behind_record}
use Rattle.rules.specs.Union.{union_call}
use Rattle.text.specs.Read.{Reading, numbers, other}
use Rattle.record_text.specs.Lines.{refused_text, verdict_text}
use Rattle.record_text.specs.Texts.{text_reading}

-- a list of two records, with nothing left over behind them, and their union; the program's own buffers are long enough
unfoldable pub union_of : List ℤ → Verdict Layout
union_of list =
    if (none (behind_record (behind_record list))) (union_call list (behind_record list) result_size work_size) (refused 3)

abbrev pub reading_text : Reading → List ℕ
reading_text (numbers list) = verdict_text (union_of list)
reading_text other = refused_text 3

-- too much text, other text than numbers and leftovers are judged first
unfoldable pub union_text : List ℕ → List ℕ
union_text text = reading_text (text_reading text)
