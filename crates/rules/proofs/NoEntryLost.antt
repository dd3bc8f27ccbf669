-- No entry is lost in an expression: what a leaf lists at a position, the value lists at every position that is computed from it, through
-- all the steps. Assumes nothing.
use mathlib.Core.Path.{◌≡◌, refl, sym, ap, ◌∙◌, subst}
use mathlib.Core.Bool.{Bool}
use mathlib.Core.Logic.{⊎_elim}
use mathlib.Core.List.Memᴰ
use mathlib.Core.List.{List, [], ◌∷◌, Memᴰ}
use Prim.Native.Nat.{ℕ}
use Rattle.rules.specs.declared.Mode.TheVariants.{Together}
use Rattle.rules.specs.Refusals.{given}
use Rattle.rules.specs.Layout.{Layout}
use Rattle.rules.specs.Soundness.{Sound}
use Rattle.rules.specs.Stretching.{broadcast_to_shape}
use Rattle.rules.specs.ContractLastAxis.{contract_last_axis}
use Rattle.rules.specs.Permute.{permute}
use Rattle.rules.specs.Broadcast.{broadcast}
use Rattle.rules.specs.Concatenate.{Block, concatenate}
use Rattle.rules.specs.ComputedFrom.{Source, DependsOn}
use Rattle.rules.specs.Expressions.{Expression, Expressions, Parts, leaf, combined, stretched_by, contracted, permuted, joined, no_more, and_then, part_then, value, values, blocks_of, OneOf, first_of, later_of, PartOf, first_part, later_part, Through, at_leaf, through_combined, through_stretched, through_contracted, through_permuted, through_joined}
use Rattle.rules.proofs.Made.{made_sound}
use Rattle.rules.proofs.Given.{then_given, BothGiven, both_given, contract_sound, permute_sound, stretch_sound}
use Rattle.rules.proofs.BroadcastHolds.{broadcast_sound}
use Rattle.rules.proofs.ConcatenateRefused.{concatenate_sound}
use Rattle.rules.proofs.EntriesKept.{stretch_keeps, contract_keeps, permute_keeps, concatenate_keeps}
use Rattle.rules.proofs.EntriesBroadcast.{broadcast_keeps}

-- ---- values

-- a value is sound
pub value_sound : (e : Expression) {x : Layout} → value e ≡ given x → Sound x
unfolding value
value_sound (leaf n l) g = let s = made_sound g in subst Sound s.0 s.1
value_sound (combined rule es) g = let u = then_given (values es) (λ layouts. broadcast Together layouts rule) g in broadcast_sound Together u.0 rule u.2
value_sound (stretched_by shape e) g = let u = then_given (value e) (λ l. broadcast_to_shape Together l shape) g in stretch_sound Together u.0 shape u.2
value_sound (contracted e) g = let u = then_given (value e) contract_last_axis g in contract_sound u.0 u.2
value_sound (permuted entries e) g = let u = then_given (value e) (λ l. permute l entries) g in permute_sound u.0 entries u.2 (value_sound e u.1)
value_sound (joined r ps) g = let u = then_given (blocks_of ps) (λ blocks. concatenate blocks r) g in concatenate_sound u.0 r u.2

-- the values of an expression and others are its value and theirs
pub values_first : (e : Expression) (es : Expressions) {layouts : List Layout} → values (and_then e es) ≡ given layouts → BothGiven (value e) (values es) (λ l rest. l ∷ rest) layouts
unfolding values
values_first e es h = both_given (value e) (values es) (λ l rest. l ∷ rest) h

-- so are the blocks of parts
pub blocks_first : (start : List ℕ) (zero : Bool) (e : Expression) (ps : Parts) {blocks : List Block} → blocks_of (part_then start zero e ps) ≡ given blocks →
    BothGiven (value e) (blocks_of ps) (λ l rest. record { start = start; zero = zero; layout = l } ∷ rest) blocks
unfolding blocks_of
blocks_first start zero e ps h = both_given (value e) (blocks_of ps) (λ l rest. record { start = start; zero = zero; layout = l } ∷ rest) h

-- the value of one of the expressions is one of their values
pub values_has : {e : Expression} {es : Expressions} → OneOf e es → {a : Layout} → value e ≡ given a → {layouts : List Layout} → values es ≡ given layouts → Memᴰ a layouts
values_has {e} (first_of {es}) {a} g h =
    let u = values_first e es h in
    subst (Memᴰ a) u.is (Memᴰ.head cc)
values_has (later_of {d} {es} o) {a} g h =
    let u = values_first d es h in
    subst (Memᴰ a) u.is (Memᴰ.tail (values_has o g u.second_given))

-- and each of their values is that of one of them
pub values_only : (es : Expressions) {layouts : List Layout} → values es ≡ given layouts → (b : Layout) → Memᴰ b layouts → (d : Expression) × OneOf d es × (value d ≡ given b)
unfolding values
values_only no_more {layouts} h b m =
    let is : [] ≡ layouts = cc in
    absurd (Memᴰ.not-nil (rw (← is) at m))
values_only (and_then e es) h b m =
    let u = values_first e es h in
    let rest = values_only es u.second_given b in
    ⊎_elim (λ d. (e, first_of, u.first_given ∙ ap given (sym d))) (λ k. let o = rest k in (o.0, later_of o.1, o.2)) (Memᴰ.cases_cons (subst (Memᴰ b) (sym u.is) m))

-- the value of a part is the layout of a block, with its start
blocks_have : {start : List ℕ} {zero : Bool} {e : Expression} {ps : Parts} → PartOf start zero e ps → {blocks : List Block} → blocks_of ps ≡ given blocks →
    (b : Block) × Memᴰ b blocks × (b.start ≡ start) × (value e ≡ given b.layout)
blocks_have {start} {zero} {e} (first_part {ps}) h =
    let u = blocks_first start zero e ps h in
    let block : Block = record { start = start; zero = zero; layout = u.first } in
    (block, subst (Memᴰ block) u.is (Memᴰ.head refl), refl, u.first_given)
blocks_have (later_part {s} {z} {d} {ps} o) h =
    let u = blocks_first s z d ps h in
    let k = blocks_have o u.second_given in
    (k.0, subst (Memᴰ k.0) u.is (Memᴰ.tail k.1), k.2, k.3)

-- ---- the theorem

-- no entry is lost: what a leaf lists at a position, the value of the expression lists at every position that is computed from it
pub no_entry_lost : (on : Source) {l : Layout} {p : List ℕ} {e : Expression} {q : List ℕ} → Through l p e q → {x : Layout} → value e ≡ given x → (j : ℕ) →
    DependsOn on l p j → DependsOn on x q j
unfolding value
no_entry_lost on {p} at_leaf g j m = subst (λ (y : Layout). DependsOn on y p j) (made_sound g).0 m
no_entry_lost on (through_combined {rule} {es} {e} {q} {r} {a} {x = z} t o f k s c) {x} g j m =
    let is : z ≡ x = cc in
    let u = then_given (values es) (λ layouts. broadcast Together layouts rule) k in
    subst (λ (y : Layout). DependsOn on y r j) is
    (broadcast_keeps u.0 rule u.2 on a (values_has o f u.1) (value_sound e f).form q r j s c
    (no_entry_lost on t f j m))
no_entry_lost on (through_stretched {shape} {e} {q} {r} {a} t f s) {x} g j m =
    let u = then_given (value e) (λ l. broadcast_to_shape Together l shape) g in
    let is : a ≡ u.0 = cc u.1 in
    stretch_keeps (value_sound e f).form on shape (rw is u.2) q r j s (no_entry_lost on t f j m)
no_entry_lost on (through_contracted {e} {q} {r} t c) g j m =
    let u = then_given (value e) contract_last_axis g in
    contract_keeps q j on u.0 u.2 r c (no_entry_lost on t u.1 j m)
no_entry_lost on (through_permuted {entries} {e} {q} {r} t c) g j m =
    let u = then_given (value e) (λ l. permute l entries) g in
    permute_keeps q j on u.0 entries u.2 r c (no_entry_lost on t u.1 j m)
no_entry_lost on (through_joined {asked} {ps} {start} {zero} {e} {q} {r} t o c) g j m =
    let u = then_given (blocks_of ps) (λ blocks. concatenate blocks asked) g in
    let b = blocks_have o u.1 in
    concatenate_keeps q j on asked u.0 u.2 b.0 b.1 r (rw b.2 c) (no_entry_lost on t b.3 j m)
