-- Expressions over layouts, their values by the rules, and from which position of a leaf a position of a value is computed through
-- the whole expression. All that is stretched is stretched in mode 1.
use Rattle.std.specs.Prelude.{◌≡◌, Bool, List, [], ◌∷◌, ℕ, ℤ}
use Rattle.rules.specs.declared.Mode.TheVariants.{Together}
use Rattle.rules.specs.declared.Rule.{Rule}
use Rattle.rules.specs.Refusals.{Verdict, given, ◌then◌}
use Rattle.rules.specs.Layout.{Layout, made}
use Rattle.rules.specs.Stretching.{broadcast_to_shape}
use Rattle.rules.specs.ContractLastAxis.{contract_last_axis}
use Rattle.rules.specs.Permute.{permute}
use Rattle.rules.specs.Broadcast.{broadcast}
use Rattle.rules.specs.Concatenate.{Block, concatenate}
use Rattle.rules.specs.ComputedFrom.{StretchedFrom, ContractedFrom, PermutedFrom, JoinedFrom, Computes}

mutual
  -- a layout, under a number; others combined by an operator; one stretched to a shape in mode 1, contracted, permuted; parts joined to a rank
  pub data Expression : Type 0 where
    leaf : ℕ → Layout → Expression
    combined : Rule → Expressions → Expression
    stretched_by : List ℕ → Expression → Expression
    contracted : Expression → Expression
    permuted : List ℤ → Expression → Expression
    joined : ℕ → Parts → Expression

  pub data Expressions : Type 0 where
    no_more : Expressions
    and_then : Expression → Expressions → Expressions

  -- each part with its start and its zero flag
  pub data Parts : Type 0 where
    no_part : Parts
    part_then : List ℕ → Bool → Expression → Parts → Parts

unfoldable mutual
  -- what the rules give for an expression; an unsound leaf is refused
  pub value : Expression → Verdict Layout
  value (leaf n l) = made l
  value (combined rule es) = values es then λ layouts. broadcast Together layouts rule
  value (stretched_by shape e) = value e then λ l. broadcast_to_shape Together l shape
  value (contracted e) = value e then λ l. contract_last_axis l
  value (permuted entries e) = value e then λ l. permute l entries
  value (joined r ps) = blocks_of ps then λ blocks. concatenate blocks r

  pub values : Expressions → Verdict (List Layout)
  values no_more = given []
  values (and_then e es) = value e then λ l. values es then λ layouts. given (l ∷ layouts)

  pub blocks_of : Parts → Verdict (List Block)
  blocks_of no_part = given []
  blocks_of (part_then start zero e ps) =
      value e then λ l. blocks_of ps then λ blocks. given (record { start = start; zero = zero; layout = l } ∷ blocks)

-- ---- which positions of a value are computed from a position of a leaf

-- e is one of the expressions
pub data OneOf (e : Expression) : Expressions → Type 0 where
  first_of : {es : Expressions} → OneOf e (and_then e es)
  later_of : {d : Expression} {es : Expressions} → OneOf e es → OneOf e (and_then d es)

-- e is one of the parts, with this start and flag
pub data PartOf (start : List ℕ) (zero : Bool) (e : Expression) : Parts → Type 0 where
  first_part : {ps : Parts} → PartOf start zero e (part_then start zero e ps)
  later_part : {s : List ℕ} {z : Bool} {d : Expression} {ps : Parts} → PartOf start zero e ps → PartOf start zero e (part_then s z d ps)

-- position q of the value of an expression is computed, through all its steps, from position p of a leaf. A product computes the positions
-- that it holds, of a diagonal (i,..,i)
pub data Through (l : Layout) (p : List ℕ) : Expression → List ℕ → Type 0 where
  at_leaf : {n : ℕ} → Through l p (leaf n l) p
  through_combined : {rule : Rule} {es : Expressions} {e : Expression} {q r : List ℕ} {a x : Layout} → Through l p e q → OneOf e es → value e ≡ given a →
      value (combined rule es) ≡ given x → StretchedFrom a.shape x.shape q r → Computes rule x r → Through l p (combined rule es) r
  through_stretched : {shape : List ℕ} {e : Expression} {q r : List ℕ} {a : Layout} → Through l p e q → value e ≡ given a → StretchedFrom a.shape shape q r →
      Through l p (stretched_by shape e) r
  through_contracted : {e : Expression} {q r : List ℕ} → Through l p e q → ContractedFrom q r → Through l p (contracted e) r
  through_permuted : {entries : List ℤ} {e : Expression} {q r : List ℕ} → Through l p e q → PermutedFrom entries q r → Through l p (permuted entries e) r
  through_joined : {asked : ℕ} {ps : Parts} {start : List ℕ} {zero : Bool} {e : Expression} {q r : List ℕ} → Through l p e q → PartOf start zero e ps →
      JoinedFrom asked start q r → Through l p (joined asked ps) r
