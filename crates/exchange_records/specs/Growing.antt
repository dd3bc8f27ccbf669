-- What is written behind a text, and what was loaded and exchanged.
use Rattle.std.specs.Prelude.{◌≡◌, List, [], ◌∷◌, ◌++◌, ℕ, ◌*◌, ◌≤◌, ℤ, length, take, drop, ⊤, Result, Ok, Err}
use Rattle.io.specs.Counts.{IsPrefixLen}
use Rattle.rules.specs.declared.Refusal.{Refusal}
use Rattle.rules.specs.Refusals.{number_of}
use Rattle.record_text.specs.Lines.{refused_text}
use Rattle.record_text.specs.Fronts.{Front}
use Rattle.exchange_records.specs.Piles.{behind_records, pile_of, pile_text}
use Rattle.exchange_records.specs.Exchanges.{exchanges_text}

-- n records are in the slots of a pile, and the rest of the list begins at a place
pub record PileLoaded (n : ℕ) (list pile : List ℤ) (r : ℕ) : Type 0 where
  pub is : pile ≡ pile_of n list
  pub inside : r ≤ length list
  pub rest : drop r list ≡ behind_records n list

-- the line of an exchange by its answer
abbrev pub step_text : Result ⊤ Refusal → List ℕ
step_text (Ok _) = 109 ∷ 97 ∷ 100 ∷ 101 ∷ 10 ∷ []
step_text (Err why) = refused_text (number_of why)

-- the lines of all exchanges are at the front, and the pile is what they left: its text is the rest
pub record PairsWritten (pile pairs pile' : List ℤ) (out' : List ℕ) (r : ℕ) : Type 0 where
  pub lines : List ℕ
  pub front : Front lines out' r
  pub rest : exchanges_text pile pairs ≡ lines ++ pile_text pile'
  pub short : r ≤ 16 * length pairs

-- new bytes stand behind those before a place
pub record Grown (at : ℕ) (new old now : List ℕ) (r : ℕ) : Type 0 where
  pub counts : IsPrefixLen r now
  pub is : take r now ≡ take at old ++ new
