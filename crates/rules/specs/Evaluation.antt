-- The values of an expression, position by position, for any arithmetic: what the positions of a result are computed from, as a program.
use Rattle.std.specs.Prelude.{◌≡◌, Bool, true, false, ◌&&◌, List, [], ◌∷◌, ◌++◌, map, ℕ, ◌-◌, ◌≤◌, length, get_or, take}
use Rattle.rules.specs.declared.Rule.{Rule}
use Rattle.rules.specs.declared.Rule.TheVariants.{Unite, Multiply, Divide}
use Rattle.rules.specs.Lists.{if, none, below, same, fit_to}
use Rattle.rules.specs.Refusals.{Verdict, given, refused}
use Rattle.rules.specs.Layout.{Layout}
use Rattle.rules.specs.Record.{naturals}
use Rattle.rules.specs.Holding.{is_position, holds}
use Rattle.rules.specs.Concatenate.{moved_by}
use Rattle.rules.specs.ComputedFrom.{Source, DependsOn, read_at}
use Rattle.rules.specs.Expressions.{Expression, Expressions, Parts, leaf, combined, stretched_by, contracted, permuted, joined, no_more, and_then, no_part, part_then, value}

-- ---- the arithmetic

-- what stands where nothing is computed, a sum over an axis, and an operator on the values at one position: any functions
pub record Arithmetic (A : Type 0) : Type 0 where
  pub nil : A
  pub total : List A → A
  pub operate : Rule → List A → A

-- ---- where a position is read

-- the shape of a value
abbrev pub shape_of : Verdict Layout → List ℕ
shape_of (given l) = l.shape
shape_of (refused n) = []

-- a sum computes every position, a product those that it holds
abbrev pub computes_at : Rule → Verdict Layout → List ℕ → Bool
computes_at Unite v q = true
computes_at Multiply (given x) q = holds x q
computes_at Multiply (refused n) q = false
computes_at Divide (given x) q = holds x q
computes_at Divide (refused n) q = false

-- where a position reads a layout that is permuted: the number at each entry, and 0 on the axes without one
abbrev pub back_by : ℕ → List ℕ → List ℕ → List ℕ
back_by n entries q = fit_to n 0 (map (λ p. get_or q p 0) entries)

-- where a position reads a block: less its start, on its axes
unfoldable pub back_from : List ℕ → List ℕ → List ℕ
back_from [] q = q
back_from (s ∷ start) [] = []
back_from (s ∷ start) (c ∷ q) = (c - s) ∷ back_from start q

-- whether the block has that position
abbrev pub in_block : ℕ → List ℕ → List ℕ → List ℕ → Bool
in_block r start p q = same q (moved_by start (fit_to r 0 p))

-- ---- the values, where the leaf number n has the values leaves n

module _ {A : Type 0} (a : Arithmetic A) (leaves : ℕ → List ℕ → A) where
  unfoldable mutual
    pub at : Expression → List ℕ → A
    at (leaf n l) q = leaves n q
    at (combined rule es) q = if (computes_at rule (value (combined rule es)) q) (a.operate rule (at_each es q)) a.nil
    at (stretched_by shape e) q = at e (read_at (shape_of (value e)) q)
    at (contracted e) q = a.total (map (λ i. at e (q ++ (i ∷ []))) (below (get_or (shape_of (value e)) (length (shape_of (value e)) - 1) 0)))
    at (permuted entries e) q = at e (if (none entries) q (back_by (length (shape_of (value e))) (naturals entries) q))
    at (joined r ps) q = at_parts ps r q

    -- the values of all expressions where a position reads them
    pub at_each : Expressions → List ℕ → List A
    at_each no_more q = []
    at_each (and_then e es) q = at e (read_at (shape_of (value e)) q) ∷ at_each es q

    -- the value of the first part that has a position
    pub at_parts : Parts → ℕ → List ℕ → A
    at_parts no_part r q = a.nil
    at_parts (part_then start zero e ps) r q =
        let p : List ℕ = take (length (shape_of (value e))) (back_from start q) in
        if (is_position (shape_of (value e)) p && in_block r start p q) (at e p) (at_parts ps r q)

-- ---- what is asked of an expression: P of each leaf, that no product is a diagonal with dense axes, and that no stretching cuts axes, which
-- are not read

abbrev pub NoDenseDiagonal : Rule → Verdict Layout → Type 0
NoDenseDiagonal Unite v = Unit
NoDenseDiagonal Multiply (given x) = x.kind ≡ 1 → x.dense ≡ 0
NoDenseDiagonal Multiply (refused n) = Unit
NoDenseDiagonal Divide (given x) = x.kind ≡ 1 → x.dense ≡ 0
NoDenseDiagonal Divide (refused n) = Unit

module _ (P : ℕ → Layout → Type 0) where
  unfoldable mutual
    pub Suited : Expression → Type 0
    Suited (leaf n l) = P n l
    Suited (combined rule es) = NoDenseDiagonal rule (value (combined rule es)) × SuitedAll es
    Suited (stretched_by shape e) = (length (shape_of (value e)) ≤ length shape) × Suited e
    Suited (contracted e) = Suited e
    Suited (permuted entries e) = Suited e
    Suited (joined r ps) = SuitedParts ps

    pub SuitedAll : Expressions → Type 0
    SuitedAll no_more = Unit
    SuitedAll (and_then e es) = Suited e × SuitedAll es

    pub SuitedParts : Parts → Type 0
    SuitedParts no_part = Unit
    SuitedParts (part_then start zero e ps) = Suited e × SuitedParts ps

-- ---- two values

-- they agree at the positions of a layout where it does not list number j
abbrev pub AgreeOff : {A : Type 0} → Source → ℕ → Layout → (List ℕ → A) → (List ℕ → A) → Type 0
AgreeOff on j l u v = (p : List ℕ) → is_position l.shape p ≡ true → (DependsOn on l p j → ⊥) → u p ≡ v p
