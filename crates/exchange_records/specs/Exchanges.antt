-- The text that a text of records and of places is answered with: a line for each exchange, then the pile.
use Rattle.std.specs.Prelude.{Bool, false, List, [], ◌∷◌, ◌++◌, ℕ, ◌*◌, eqb, ℤ, pos, negsuc, length, drop}
use Rattle.rules.specs.Limits.{work_size}
use Rattle.rules.specs.Lists.{if}
use Rattle.rules.specs.Refusals.{Verdict, given, refused}
use Rattle.rules.specs.Record.{natural}
use Rattle.rules.specs.Arguments.{over_count}
use Rattle.rules.specs.Pile.{given_or, exchange_call}
use Rattle.text.specs.Read.{Reading, numbers, other}
use Rattle.record_text.specs.Lines.{refused_text}
use Rattle.record_text.specs.Texts.{text_reading}
use Rattle.exchange_records.specs.Piles.{behind_records, pile_of, pile_text}

-- 'made', or why an exchange is refused
abbrev pub exchange_text : Verdict (List ℤ) → List ℕ
exchange_text (given pile) = 109 ∷ 97 ∷ 100 ∷ 101 ∷ 10 ∷ []
exchange_text (refused n) = refused_text n

-- a line for each pair of places, one after the other, and then the pile
unfoldable pub exchanges_text : List ℤ → List ℤ → List ℕ
exchanges_text pile [] = pile_text pile
exchanges_text pile (first ∷ []) = pile_text pile
exchanges_text pile (first ∷ second ∷ pairs) =
    let v : Verdict (List ℤ) = exchange_call pile first second work_size in
    exchange_text v ++ exchanges_text (given_or pile v) pairs

-- a count of pairs, and exactly their numbers
unfoldable pub are_pairs : List ℤ → Bool
are_pairs [] = false
are_pairs (pos n ∷ places) = eqb (length places) (2 * n)
are_pairs (negsuc n ∷ places) = false

-- n records and then pairs of places
unfoldable pub records_text : ℕ → List ℤ → List ℕ
records_text n list =
    let rest : List ℤ = behind_records n list in if (are_pairs rest) (exchanges_text (pile_of n list) (drop 1 rest)) (refused_text 3)

-- after their count, which is 0..16
unfoldable pub list_text : List ℤ → List ℕ
list_text [] = refused_text 3
list_text (count ∷ list) = if (over_count count) (refused_text 1) (records_text (natural count) list)

abbrev pub reading_text : Reading → List ℕ
reading_text (numbers list) = list_text list
reading_text other = refused_text 3

-- too much text and other text than numbers are judged first
unfoldable pub answer_text : List ℕ → List ℕ
answer_text text = reading_text (text_reading text)
