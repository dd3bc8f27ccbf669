-- The blocks at hand: the places of their records in a slice, and their starts by value.
use Rattle.std.specs.Prelude.{◌≡◌, true, false, List, [], ◌∷◌, ℕ, ◌<◌, ◌≤◌, ℤ, length, get_or, take, drop}
use Rattle.rules.specs.Limits.{rank_limit, list_limit, product_limit}
use Rattle.rules.specs.Layout.{Layout}
use Rattle.rules.specs.Record.{sound}
use Rattle.rules.specs.Concatenate.{Block}
use Rattle.lists.specs.Places.{EachAt}
use Rattle.lists.specs.Records.{layouts_at}

-- a sound record is at the front of the slice
abbrev pub SoundAt : List ℤ → Type 0
SoundAt s = sound s ≡ true

-- a block that starts there; flags do not matter to how blocks are joined
abbrev pub block_with : List ℕ → Layout → Block
block_with start l = record { start = start; zero = false; layout = l }

-- layouts and their starts, of which the first r numbers count
unfoldable pub placed : ℕ → List (List ℕ) → List Layout → List Block
placed r starts [] = []
placed r starts (l ∷ layouts) = block_with (take r (get_or starts 0 [])) l ∷ placed r (drop 1 starts) layouts

-- the blocks whose records begin at the first n places
abbrev pub blocks_by : ℕ → ℕ → List ℕ → List (List ℕ) → List ℤ → List Block
blocks_by r n records starts s = placed r starts (layouts_at n records s)

-- one block or more, the records sound, the starts four numbers each and small
pub record BlocksAt (n : ℕ) (records : List ℕ) (starts : List (List ℕ)) (s : List ℤ) : Type 0 where
  pub some : 0 < n
  pub sound : EachAt SoundAt n records s
  pub size : length starts ≡ list_limit
  pub fours : (i : ℕ) → i < list_limit → length (get_or starts i []) ≡ rank_limit
  pub low : (i k : ℕ) → get_or (get_or starts i []) k 0 ≤ product_limit
