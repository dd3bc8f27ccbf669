-- A whole broadcast: the common shape, then all stretched, then folded, then ended. Assumes nothing.
use Rattle.std.specs.Prelude.{Err, Ok, Result, ⊤}
use mathlib.Core.Path.{◌≡◌, refl, sym, ap, ◌∙◌}
use mathlib.Core.Bool.{Bool, true, false, not, ◌||◌}
use mathlib.Core.List.{List, [], ◌∷◌, map, reverse}
use Prim.Native.Nat.{ℕ, ◌<◌, ◌≤◌}
use native.Mathlib.Omega.{arith}
use borrow.Author.Tests.{leb-true}
use lib.IntN.{ℤ, pos}
use lib.ListN.{length, take, drop, replicate, length-map}
use lib.Seq.{take_at}
use Rattle.rules.specs.declared.Mode.{Mode}
use Rattle.rules.specs.declared.Refusal.{Refusal}
use Rattle.rules.specs.declared.Rule.{Rule}
use Rattle.rules.specs.declared.Tuple.{Tuple}
use Rattle.rules.specs.Limits.{rank_limit, product_limit}
use Rattle.rules.specs.Lists.{none, fit_to}
use Rattle.rules.specs.Buffers.{part}
use Rattle.rules.specs.Refusals.{Verdict, given, refused, ◌then◌, in_form, number_of, ◌when◌, lowest}
use Rattle.rules.specs.Layout.{Layout, nonzero_product, within_product}
use Rattle.rules.specs.Shapes.{shapes_agree, common_shape, broadcast_shapes}
use Rattle.rules.specs.Endings.{tuple_of, TupleIs}
use Rattle.rules.specs.Broadcast.{stretch_all, fold_back, end_of_broadcast, broadcast}
use Rattle.rules.proofs.Extents.{extent_nonzero}
use Rattle.rules.proofs.Unions.{never}
use Rattle.cells.specs.View.{Low}
use Rattle.cells.proofs.View.{view_pos}
use Rattle.shapes.proofs.Fitting.{fit_over}
use Rattle.parts.specs.Parts.{left, right, layout_at, Holds}
use Rattle.parts.specs.Answers.{Says}
use Rattle.parts.proofs.Lent.{lent_of, back_in, back_says, lent_part_layout, lent_part_holds}
use Rattle.lists.specs.Places.{EachAt}
use Rattle.lists.specs.Asked.{RankFew}
use Rattle.lists.specs.Records.{JudgedRecord, layouts_at}
use Rattle.fold.specs.declared.agreeing.Shape.{Shape}
use Rattle.fold.specs.Stretched.{extents_of, ShapeFits, ShapeIs, common_of, AllAsked, AllBringable, all_stretched, told, whether}
use Rattle.fold.specs.Folded.{broadcast_to}
use Rattle.rules.proofs.Giving.{Giving, given_such}
use Rattle.rules.proofs.Replaced.{fit_length, fit_low}
use Rattle.parts.proofs.Saying.{says_refused, refused_said, done_said}
use Rattle.fold.proofs.Bringing.{all_stretched_lem, all_bringable}

-- ---- `stretch_and_fold`

-- what is told to be refused is refused
whether_refused : {A : Type 0} (v : Verdict A) {n : ℕ} → refused n ≡ whether v → v ≡ refused n
whether_refused (given a) e = absurd (never e)
whether_refused (refused m) {n} e = let same : m ≡ n = cc in ap refused same

module _ {shape : Shape} {n : ℕ} {places : List ℕ} {s : List ℤ} (a : AllAsked shape n places s) (mode : Mode) (rule : Rule) (step : Result ⊤ Refusal)
    (e : told step ≡ whether (stretch_all mode (extents_of shape) (layouts_at n places s))) where
  abbrev whole : Verdict Layout
  whole = broadcast_to mode (extents_of shape) (layouts_at n places s) rule

  -- a stretching is refused
  pub stretching_stops : {why : Refusal} → step ≡ Err why → (w : List ℤ) → Says whole left w (Err why)
  unfolding broadcast_to
  stretching_stops {why} f w =
      says_refused why left w (rw (whether_refused (stretch_all mode (extents_of shape) (layouts_at n places s)) (sym (ap told f) ∙ e)))

  module _ (f : step ≡ Ok tt) where
    all_told : told (Ok tt) ≡ whether (stretch_all mode (extents_of shape) (layouts_at n places s))
    all_told = sym (ap told f) ∙ e

    pub ask_folds : 0 < n → AllBringable mode shape n places s
    ask_folds some = all_bringable a mode all_told some

    folds : whole ≡ (fold_back rule (reverse (all_stretched mode shape n places s)) then λ l. end_of_broadcast l)
    unfolding broadcast_to
    folds = rw (all_stretched_lem a mode all_told)

    module _ {w : List ℤ} {fold : (Result ⊤ Refusal)} (d : Says (fold_back rule (reverse (all_stretched mode shape n places s))) left w fold) where
      -- a fold is refused
      pub fold_stops : {why : Refusal} → fold ≡ Err why → Says whole left w (Err why)
      fold_stops {why} g = says_refused why left w (folds ∙ rw (refused_said d g))

      module _ (g : fold ≡ Ok tt) where
        held : Holds left w
        held = d.holds g

        -- the end is lent the left part
        pub ask_end : Holds 0 (lent_of left right w)
        ask_end = lent_part_holds held

        pub whole_ended : {x : List ℤ} {end : (Result ⊤ Refusal)} → length x ≡ length (lent_of left right w) → Says (end_of_broadcast (layout_at 0 (lent_of left right w))) 0 x end → Says whole left (back_in left right w x) end
        whole_ended {x} same p =
            rw (folds, done_said d g, ← lent_part_layout held)
            (back_says left right w (omega arith) held.inside x same 0 left refl (omega arith) p)

-- ---- `broadcast_in`

-- a common shape that is given is within the limit
common_within : (shapes : List (List ℕ)) {l : List ℕ} → broadcast_shapes shapes ≡ given l → within_product l ≡ true
unfolding broadcast_shapes lowest
common_within shapes e = given_such (λ l. within_product l ≡ true) _ (by (none shapes || not (shapes_agree shapes)) (within_product (common_shape shapes)) refl) e
  where
    by : (x y : Bool) → within_product (common_shape shapes) ≡ y → Giving (λ l. within_product l ≡ true) (lowest (6 when x ∷ 13 when not y ∷ []) then λ _. given (common_shape shapes))
    by true y f = tt
    by false true f = f
    by false false f = tt

module _ {v : Verdict (List ℕ)} (r : Result Tuple Refusal) (t : TupleIs v r) where
  -- a shape by value that is refused
  tuple_refused : {why : Refusal} → r ≡ Err why → v ≡ refused (number_of why)
  tuple_refused {why} e = by v (rw e at t)
    where
      by : (x : Verdict (List ℕ)) → refused (number_of why) ≡ in_form tuple_of x → x ≡ refused (number_of why)
      by (given l) f = absurd (never f)
      by (refused m) f = let same : m ≡ number_of why = cc in ap refused same

  -- one that is given
  tuple_given : {m : Tuple} → r ≡ Ok m → (l : List ℕ) × (v ≡ given l) × (m.count ≡ length l) × (m.numbers ≡ fit_to rank_limit 0 l)
  tuple_given {m} e = by v refl (rw e at t)
    where
      by : (x : Verdict (List ℕ)) → v ≡ x → given m ≡ in_form tuple_of x → (l : List ℕ) × (v ≡ given l) × (m.count ≡ length l) × (m.numbers ≡ fit_to rank_limit 0 l)
      by (given l) g f = let same : m ≡ tuple_of l = cc f in (l, g, ap (λ (x : Tuple). x.count) same, ap (λ (x : Tuple). x.numbers) same)
      by (refused k) g f = absurd (never (sym f))

-- the first numbers of a list that was filled up
fit_front : (l : List ℕ) → length l ≤ 4 → take (length l) (fit_to 4 0 l) ≡ l
fit_front l h = rw (← fit_over 4 l h) (take_at l (drop (length l) (replicate 4 0)) (length l) refl)

-- the extents as slices hold them
extents_by : (shape : Shape) (m : ℕ) (four l : List ℕ) → ShapeIs m four shape → four ≡ fit_to 4 0 l → m ≡ length l → m ≤ 4 → extents_of shape ≡ l
unfolding part
extents_by shape m four l p e f h =
    rw (p.rank_is, p.extents_are, e, view_pos (fit_to 4 0 l), f) (fit_front l (omega arith))

module _ {n : ℕ} {places : List ℕ} {s : List ℤ} (k : EachAt JudgedRecord n places s) (mode : Mode) (rule : Rule) (r : Result Tuple Refusal) (t : TupleIs (common_of n places s) r) where
  abbrev all : Verdict Layout
  all = broadcast mode (layouts_at n places s) rule

  -- there is no common shape
  pub common_stops : {why : Refusal} → r ≡ Err why → (w : List ℤ) → Says all left w (Err why)
  unfolding broadcast
  common_stops {why} e w = says_refused why left w (rw (tuple_refused r t e))

  module _ (few : RankFew n r) {m : Tuple} (e : r ≡ Ok m) where
    common : (l : List ℕ) × (common_of n places s ≡ given l) × (m.count ≡ length l) × (m.numbers ≡ fit_to rank_limit 0 l)
    common = tuple_given r t e

    within : within_product common.0 ≡ true
    within = common_within (map (λ l. l.shape) (layouts_at n places s)) common.1

    low : Low common.0
    unfolding within_product
    low i = omega (arith, extent_nonzero common.0 i 0 (omega arith), leb-true (nonzero_product common.0) product_limit within)

    pub numbers_low : Low m.numbers
    numbers_low = rw common.3 (fit_low 4 common.0 low)

    module _ {shape : Shape} (p : ShapeIs m.count m.numbers shape) where
      extents_are : extents_of shape ≡ common.0
      extents_are = extents_by shape m.count m.numbers common.0 p common.3 common.2 (few m e).0

      pub ask_stretches : AllAsked shape n places s × (0 < n)
      ask_stretches = (record { inside = k.inside; each = k.known; fits = fits }, (few m e).1)
        where
          size : length shape.extents ≡ 4
          size = rw (p.extents_are, common.3) (length-map (fit_to 4 0 common.0) pos ∙ fit_length 4 0 common.0)

          fits : ShapeFits shape
          fits = record { extents = record { room = omega (arith, p.rank_is, (few m e).0, size); within = rw extents_are within }; few = omega (arith, p.rank_is, (few m e).0) }

      pub whole_said : {w : List ℤ} {step : (Result ⊤ Refusal)} → Says (broadcast_to mode (extents_of shape) (layouts_at n places s) rule) left w step → Says all left w step
      unfolding broadcast broadcast_to
      whole_said d = rw (common.1, ← extents_are) d
