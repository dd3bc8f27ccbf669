-- Things end to end in a slice, and places of the slice.
use Rattle.std.specs.Prelude.{◌≡◌, List, [], map, ℕ, ◌<◌, ◌≤◌, ℤ, length, get_or, take, drop}
use Rattle.rules.specs.Limits.{list_limit}
use Rattle.rules.specs.Record.{behind_shape, behind_record, behind_block}
use Rattle.lists.specs.declared.walking.Thing.{Thing}
use Rattle.lists.specs.declared.walking.Thing.TheVariants.{Shape, Record, Block}

-- what stands behind a thing
abbrev pub behind_thing : Thing → List ℤ → List ℤ
behind_thing Shape = behind_shape
behind_thing Record = behind_record
behind_thing (Block rank) = behind_block rank

-- the slices that begin at the first n places
unfoldable pub standing : ℕ → List ℕ → List ℤ → List (List ℤ)
standing n places s = map (λ p. drop p s) (take n places)

-- n of sixteen places are places of a slice
pub record Inside (n : ℕ) (places : List ℕ) (s : List ℤ) : Type 0 where
  pub few : n ≤ list_limit
  pub size : length places ≡ list_limit
  pub each : (i : ℕ) → i < n → get_or places i 0 ≤ length s

-- and something is known of what stands at each of them
pub record EachAt (Known : List ℤ → Type 0) (n : ℕ) (places : List ℕ) (s : List ℤ) : Type 0 where
  pub inside : Inside n places s
  pub known : (i : ℕ) → i < n → Known (get_or (standing n places s) i [])

-- n things begin at the first n of sixteen places; behind them stand zeros
pub record PlacesOf (things : List (List ℤ)) (n : ℕ) (s : List ℤ) (places : List ℕ) : Type 0 where
  pub inside : Inside n places s
  pub begin : standing n places s ≡ things
  pub zeros : (i : ℕ) → n ≤ i → get_or places i 0 ≡ 0
