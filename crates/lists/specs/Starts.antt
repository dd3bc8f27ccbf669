-- The starts of blocks by value.
use Rattle.std.specs.Prelude.{◌≡◌, List, [], map, ℕ, ◌<◌, ◌≤◌, ℤ, length, get_or}
use Rattle.rules.specs.Limits.{rank_limit, list_limit, product_limit}
use Rattle.rules.specs.Record.{naturals, RawBlock, block_at}
use Rattle.lists.specs.Places.{standing}

-- the blocks of an asked rank at the first n places
abbrev pub blocks_at : ℕ → ℕ → List ℕ → List ℤ → List RawBlock
blocks_at rank n places s = map (block_at rank) (standing n places s)

-- their starts
abbrev pub starts_in : List RawBlock → List (List ℕ)
starts_in blocks = map (λ b. naturals b.start) blocks

-- four numbers: a start, and zeros behind it
pub record StartOf (start four : List ℕ) : Type 0 where
  pub size : length four ≡ rank_limit
  pub numbers : (k : ℕ) → get_or four k 0 ≡ get_or start k 0

-- sixteen times four numbers: the starts, and zeros behind them; none is above the limit of a start
pub record StartsOf (starts sixteen : List (List ℕ)) : Type 0 where
  pub size : length sixteen ≡ list_limit
  pub each : (b : ℕ) → b < list_limit → StartOf (get_or starts b []) (get_or sixteen b [])
  pub low : (b k : ℕ) → get_or (get_or sixteen b []) k 0 ≤ product_limit
