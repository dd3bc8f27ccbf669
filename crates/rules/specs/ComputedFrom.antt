-- From which position of an argument a position of a result is computed, operation by operation; and when a layout lists that a
-- position depends on a state or an input. No entry is lost if the result lists, at every position that is computed from a
-- position of an argument, what the argument lists there.
use Rattle.std.specs.Prelude.{◌≡◌, Bool, true, false, ◌&&◌, ◌||◌, ℕ, ◌+◌, ◌<◌, leb, ℤ, length, get_or, take}
use mathlib.Core.List.{List, [], ◌∷◌, ◌++◌, Memᴰ}
use Rattle.rules.specs.declared.Rule.{Rule}
use Rattle.rules.specs.declared.Rule.TheVariants.{Unite, Multiply, Divide}
use Rattle.rules.specs.Lists.{if, none, fit_to}
use Rattle.rules.specs.RowsInOrder.{In}
use Rattle.rules.specs.Layout.{Layout, rank, width, is_sparse, alike}
use Rattle.rules.specs.Record.{naturals}
use Rattle.rules.specs.Dependencies.{index_of}
use Rattle.rules.specs.Lookup.{read_index}
use Rattle.rules.specs.Holding.{is_position, holds}
use Rattle.rules.specs.Stretching.{is_stretched}
use Rattle.rules.specs.ContractLastAxis.{shortened}
use Rattle.rules.specs.Permute.{moved}
use Rattle.rules.specs.Concatenate.{moved_by}
use Rattle.rules.specs.FilterDepsFrom.{cut_axis, in_range, less_start}

-- ---- entries

-- on what a value depends
pub data Source : Type 0 where
  State : Source
  Input : Source

-- the dependencies of a layout on those
abbrev pub deps_on : Source → Layout → List (List ℕ)
deps_on State l = l.states
deps_on Input l = l.inputs

-- a layout lists that the value at position p depends on the state, or the input, number j
abbrev pub DependsOn : Source → Layout → List ℕ → ℕ → Type 0
DependsOn on l p j = In (p ++ (j ∷ [])) (deps_on on l)

-- ---- `union` and `intersect`: position p of the result is computed from position p of both

-- ---- stretching

-- where a position reads a layout of an old shape: as lookup reads an index, so at 0 on axes of extent 1, and not on axes that are added
abbrev pub read_at : List ℕ → List ℕ → List ℕ
read_at old q = take (length old) (read_index q old)

-- q is a position of the new shape, and it reads the old layout at p. Axes that are cut are not read: there p may have any component
pub record StretchedFrom (old shape p q : List ℕ) : Type 0 where
  pub inside : is_position shape q ≡ true
  pub reads : take (length shape) p ≡ read_at old q

-- an entry x of the new layout, from a dependency d of the old one: it has its number, agrees with it, fitted to the new rank, on every axis
-- that is not free, and lies below the new extent on each that is
pub record Freely (free : ℕ → Bool) (old shape d x : List ℕ) : Type 0 where
  pub size : length x ≡ length shape + 1
  pub number : get_or x (length shape) 0 ≡ get_or d (length old) 0
  pub agrees : (k : ℕ) → k < length shape → free k ≡ false → get_or x k 0 ≡ get_or (fit_to (length shape) 0 (index_of d)) k 0
  pub inside : (k : ℕ) → k < length shape → free k ≡ true → get_or x k 0 < get_or shape k 0

-- mode 1 of stretching: the stretched axes are free
abbrev pub ComesFrom : List ℕ → List ℕ → List ℕ → List ℕ → Type 0
ComesFrom old shape d x = Freely (is_stretched old shape) old shape d x

-- ---- `contract_last_axis`: a sum over the last component
abbrev pub ContractedFrom : List ℕ → List ℕ → Type 0
ContractedFrom p q = q ≡ shortened p

-- ---- `permute`: component i goes to axis entry i, and axes without an entry are 0; no entries at all change nothing
abbrev pub PermutedFrom : List ℤ → List ℕ → List ℕ → Type 0
PermutedFrom entries p q = q ≡ if (none entries) p (moved 0 (naturals entries) p)

-- ---- `concatenate` to rank r: fitted to it with zeros, and moved by the start of the block
abbrev pub JoinedFrom : ℕ → List ℕ → List ℕ → List ℕ → Type 0
JoinedFrom r start p q = q ≡ moved_by start (fit_to r 0 p)

-- ---- `filter_deps_from`: p lies in the source's shape and in the range, q is p cut to the target's rank, less start on the cut axis
pub record CutFrom (target source : Layout) (start end : ℕ) (p q : List ℕ) : Type 0 where
  pub ranges : in_range source start end p ≡ true
  pub cut : q ≡ less_start (cut_axis source) start (take (rank target) p)

-- ---- products: the positions that a product holds; of a diagonal only (i,..,i), as lookup has it. This leaves out positions that a diagonal
-- with dense axes holds, where a component of a dense axis differs: there a product drops the entries
pub record Kept (x : Layout) (q : List ℕ) : Type 0 where
  pub is_held : holds x q ≡ true
  pub lies_on_diagonal : x.kind ≡ 1 → alike q ≡ true

-- ---- `broadcast`: all are stretched, and then combined position by position
abbrev pub Computes : Rule → Layout → List ℕ → Type 0
Computes Unite x q = Unit
Computes Multiply x q = Kept x q
Computes Divide x q = Kept x q

-- an entry of the result, from a dependency of one of the layouts
pub record FromOne (free : List ℕ → Layout → ℕ → Bool) (on : Source) (layouts : List Layout) (shape x : List ℕ) : Type 0 where
  pub layout : Layout
  pub one_of : Memᴰ layout layouts
  pub dependency : List ℕ
  pub listed : In dependency (deps_on on layout)
  pub comes : Freely (free shape layout) layout.shape shape dependency x

-- a sum stretches in mode 1
abbrev pub free_in_sum : List ℕ → Layout → ℕ → Bool
free_in_sum shape l k = is_stretched l.shape shape k

-- a product takes every value on the dense axes of a sparse factor as well
abbrev pub free_in_product : List ℕ → Layout → ℕ → Bool
free_in_product shape l k = is_stretched l.shape shape k || (is_sparse l && leb (width l) k)
