-- The steps of a broadcast that is given: its layouts stretched, folded from the last, and the end; and what holds of the fold, if it is
-- kept where one more layout is combined with. Assumes nothing.
use mathlib.Core.Path.{◌≡◌, refl, sym, subst}
use mathlib.Core.Logic.{⊎_elim}
use mathlib.Core.List.{List, [], ◌∷◌, ◌++◌, map, reverse, reverse_aux, reverse-cons, reverse-reverse, Memᴰ}
use mathlib.Core.Bool.{not, ◌||◌}
use Prim.Native.Nat.{ℕ}
use Rattle.rules.specs.declared.Mode.{Mode}
use Rattle.rules.specs.declared.Rule.{Rule}
use Rattle.rules.specs.Lists.{none}
use Rattle.rules.specs.Refusals.{Verdict, given, refused, ◌then◌, ◌when◌}
use Rattle.rules.specs.Layout.{Layout, within_product}
use Rattle.rules.specs.Shapes.{shapes_agree, common_shape, broadcast_shapes}
use Rattle.rules.specs.Stretching.{stretched, broadcast_to_shape}
use Rattle.rules.specs.Broadcast.{combine, stretch_all, divides_by_sparse, fold_onto, fold_back, end_of_broadcast, broadcast}
use Rattle.rules.proofs.Giving.{Giving, given_such, giving_step}
use Rattle.rules.proofs.Given.{then_given, both_given, step_given}
use Rattle.rules.proofs.Folding.{given_stretched}

-- ---- folds

-- what holds of the last layout alone, and is kept where one more is combined with, holds of the whole fold; the list is in its own order
module _ (rule : Rule) (Good : Layout → Type 0) (P : List Layout → Layout → Type 0)
    (step : (done : List Layout) (a b x : Layout) → P done a → Good b → combine rule a b ≡ given x → P (b ∷ done) x) where
  fold_such : (done : List Layout) (l : Layout) (layouts : List Layout) → P done l → ((b : Layout) → Memᴰ b layouts → Good b) →
      Giving (P (reverse_aux layouts done)) (fold_onto rule l layouts)
  unfolding fold_onto
  fold_such done l [] p g = p
  fold_such done l (next ∷ layouts) p g = by (combine rule l next) refl (λ x q. fold_such (next ∷ done) x layouts q (λ b i. g b (mathlib.Core.List.Memᴰ.tail i)))
    where
      by : (v : Verdict Layout) → combine rule l next ≡ v → ((x : Layout) → P (next ∷ done) x → Giving (P (reverse_aux layouts (next ∷ done))) (fold_onto rule x layouts)) →
          Giving (P (reverse_aux layouts (next ∷ done))) (v then λ x. fold_onto rule x layouts)
      by (refused n) e rest = tt
      by (given x) e rest = rest x (step done l next x p (g next (mathlib.Core.List.Memᴰ.head refl)) e)

  pub back_such : ((l : Layout) → Good l → P (l ∷ []) l) → (layouts : List Layout) → ((b : Layout) → Memᴰ b layouts → Good b) → Giving (P (reverse layouts)) (fold_back rule layouts)
  unfolding fold_back
  back_such start [] g = tt
  back_such start (last ∷ []) g = start last (g last (mathlib.Core.List.Memᴰ.head refl))
  back_such start (last ∷ next ∷ layouts) g =
      giving_step (P (reverse (last ∷ next ∷ layouts))) (9 when divides_by_sparse rule last next ∷ []) (fold_onto rule last (next ∷ layouts))
      (fold_such (last ∷ []) last (next ∷ layouts) (start last (g last (mathlib.Core.List.Memᴰ.head refl))) (λ b i. g b (mathlib.Core.List.Memᴰ.tail i)))

-- ---- the steps

-- an element of a list backwards is one of the list
reverse_in : {A : Type 0} {x : A} (l : List A) → Memᴰ x (reverse l) → Memᴰ x l
reverse_in [] i = i
reverse_in {A} {x} (y ∷ l) i =
    let rest = reverse_in l in
    let here : Memᴰ x (reverse l ++ (y ∷ [])) = rw reverse-cons at i in
    ⊎_elim (λ k. mathlib.Core.List.Memᴰ.tail (rest k)) (λ k. mathlib.Core.List.Memᴰ.head (mathlib.Core.List.Memᴰ.eq_of_singleton k)) (mathlib.Core.List.Memᴰ.append_cases (reverse l) here)

-- the common shape of layouts
abbrev pub shared_shape : List Layout → List ℕ
shared_shape layouts = common_shape (map (λ l. l.shape) layouts)

-- the layouts stretched to a shape, in their order
abbrev pub stretched_to : Mode → List ℕ → List Layout → List Layout
stretched_to mode shape layouts = map (λ l. stretched mode l shape) layouts

-- each layout is stretched to the shape, they are folded from the last, and that ends
pub record Steps (mode : Mode) (layouts : List Layout) (rule : Rule) (shape : List ℕ) (x : Layout) : Type 0 where
  pub stretches : (a : Layout) → Memᴰ a layouts → broadcast_to_shape mode a shape ≡ given (stretched mode a shape)
  pub whole : Layout
  pub folds : fold_back rule (reverse (stretched_to mode shape layouts)) ≡ given whole
  pub ends : end_of_broadcast whole ≡ given x

-- the shape that is given is the common one
common_given : (shapes : List (List ℕ)) {shape : List ℕ} → broadcast_shapes shapes ≡ given shape → common_shape shapes ≡ shape
unfolding broadcast_shapes
common_given shapes e = cc (step_given (6 when (none shapes || not (shapes_agree shapes)) ∷ 13 when not (within_product (common_shape shapes)) ∷ []) (given (common_shape shapes)) e)

-- what all are stretched to
all_stretched_lem : (mode : Mode) (shape : List ℕ) (layouts : List Layout) {all : List Layout} → stretch_all mode shape layouts ≡ given all →
    (stretched_to mode shape layouts ≡ all) × ((a : Layout) → Memᴰ a layouts → broadcast_to_shape mode a shape ≡ given (stretched mode a shape))
unfolding stretch_all
all_stretched_lem mode shape [] e = (cc, λ a i. absurd (mathlib.Core.List.Memᴰ.not-nil i))
all_stretched_lem mode shape (l ∷ layouts) {all} e =
    let both = both_given (broadcast_to_shape mode l shape) (stretch_all mode shape layouts) (λ first others. first ∷ others) e in
    let rest = all_stretched_lem mode shape layouts both.second_given in
    let first = given_stretched mode l shape both.first_given in
    (cc, λ a i. ⊎_elim (λ d. rw d first) (rest.1 a) (mathlib.Core.List.Memᴰ.cases_cons i))

-- those of a broadcast that is given
pub broadcast_steps : (mode : Mode) (layouts : List Layout) (rule : Rule) {x : Layout} → broadcast mode layouts rule ≡ given x →
    Steps mode layouts rule (shared_shape layouts) x
unfolding broadcast
broadcast_steps mode layouts rule {x} e =
    let common = then_given (broadcast_shapes (map (λ l. l.shape) layouts)) _ e in
    let all = then_given (stretch_all mode common.0 layouts) _ common.2 in
    let fold = then_given (fold_back rule (reverse all.0)) _ all.2 in
    let each = all_stretched_lem mode common.0 layouts all.1 in
    subst (λ (shape : List ℕ). Steps mode layouts rule shape x) (sym (common_given (map (λ l. l.shape) layouts) common.1))
    (record { stretches = each.1; whole = fold.0; folds = rw each.0 fold.1; ends = fold.2 })

-- what is kept by every fold holds of the whole
pub steps_such : {mode : Mode} {layouts : List Layout} {rule : Rule} {shape : List ℕ} {x : Layout} (s : Steps mode layouts rule shape x) (Good : Layout → Type 0) (P : List Layout → Layout → Type 0) →
    ((done : List Layout) (a b y : Layout) → P done a → Good b → combine rule a b ≡ given y → P (b ∷ done) y) → ((l : Layout) → Good l → P (l ∷ []) l) →
    ((a : Layout) → Memᴰ a layouts → Good (stretched mode a shape)) → P (stretched_to mode shape layouts) s.whole
steps_such {mode} {layouts} {rule} {shape} s Good P step start good =
    let ones : List Layout = stretched_to mode shape layouts in
    let folded = given_such (P (reverse (reverse ones))) (fold_back rule (reverse ones)) (back_such rule Good P step start (reverse ones) one_good) s.folds in
    rw reverse-reverse at folded
  where
    one_good : (b : Layout) → Memᴰ b (reverse (stretched_to mode shape layouts)) → Good b
    one_good b i =
        let m = mathlib.Core.List.Memᴰ.of_map (λ l. stretched mode l shape) layouts (reverse_in (stretched_to mode shape layouts) i) in
        subst Good m.2 (good m.0 m.1)
