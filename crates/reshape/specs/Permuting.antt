-- Where the entries of a permutation send each axis.
use Rattle.std.specs.Prelude.{Err, Ok, Result, ⊤}
use Rattle.rules.specs.declared.Refusal.{Refusal}
use Rattle.std.specs.Prelude.{◌≡◌, Bool, true, false, not, ◌&&◌, List, ℕ, ◌≤◌, ℤ, length, get_or}
use Rattle.rules.specs.declared.Head.{Head}
use Rattle.rules.specs.Lists.{all, none, largest}
use Rattle.rules.specs.Refusals.{Verdict, given, refused, number_of}
use Rattle.rules.specs.Layout.{Layout}
use Rattle.rules.specs.Record.{naturals}
use Rattle.rules.specs.Arguments.{up_to}
use Rattle.rules.specs.Permute.{repeats, is_permutation, moved_to, permuted, permute}
use Rattle.records.specs.Sound.{SoundRecord}
use Rattle.parts.specs.Parts.{part_size}
use Rattle.parts.specs.Answers.{Says}
use Rattle.reshape.specs.Contracting.{FrontMade}

-- each entry names an axis, and none stands there twice
unfoldable pub names_axes : List ℤ → Bool
names_axes entries = all (up_to 3) entries && not (repeats (naturals entries))

-- what goes to an axis is the number at its place, of at most five
abbrev pub Moves : List ℕ → List ℕ → Type 0
Moves entries places =
    (axis : ℕ) → axis ≤ 3 → (missing : ℕ) (numbers : List ℕ) → length numbers ≤ 5 → moved_to axis missing entries numbers ≡ get_or numbers (get_or places axis 0) missing

-- the entries name axes, with the largest of them and the places
pub record MovesAre (entries : List ℤ) (most : ℕ) (places : List ℕ) : Type 0 where
  pub named : names_axes entries ≡ true
  pub largest_is : most ≡ largest (naturals entries)
  pub size : length places ≡ 5
  pub moves : Moves (naturals entries) places

-- entries that can be used, of which there is one, with the largest of them and the places
pub record Permutes (l : Layout) (entries : List ℤ) (most : ℕ) (places : List ℕ) : Type 0 where
  pub usable : is_permutation l entries ≡ true
  pub some : none entries ≡ false
  pub largest_is : most ≡ largest (naturals entries)
  pub size : length places ≡ 5
  pub moves : Moves (naturals entries) places

-- the front of a layout was written, which a rule gives; or the rule is refused
abbrev pub FrontSays : Verdict Layout → Layout → List ℤ → List ℤ → Result ⊤ Refusal → Type 0
FrontSays v l s t (Ok tt) = FrontMade l s t × (v ≡ given l)
FrontSays v l s t (Err why) = v ≡ refused (number_of why)

-- whatever the entries are, that is so of the layout with its axes moved
abbrev pub FrontMoved : ℕ → List ℕ → Layout → List ℤ → List ℤ → Result ⊤ Refusal → Type 0
FrontMoved most places l s t r = (entries : List ℤ) → Permutes l entries most places → FrontSays (permute l entries) (permuted l (naturals entries)) s t r

-- and a step says the whole
abbrev pub AxesMoved : ℕ → List ℕ → Layout → List ℤ → Result ⊤ Refusal → Type 0
AxesMoved most places l t r = (entries : List ℤ) → Permutes l entries most places → Says (permute l entries) 0 t r

-- a sound record, entries up to 3, and a part
pub record MoveAsked (h : Head) (most : ℕ) (s t : List ℤ) : Type 0 where
  pub sound : SoundRecord h s
  pub small : most ≤ 3
  pub room : part_size ≤ length t
