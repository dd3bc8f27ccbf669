-- One fold after the other in a window: the next layout is brought to the right, both are combined, and what comes out moves to the left. Assumes nothing.
use Rattle.std.specs.Prelude.{Err, Ok, Result, ⊤}
use mathlib.Core.Path.{◌≡◌, refl, sym, ap, ◌∙◌}
use mathlib.Core.Bool.{Bool, true, false, ◌&&◌}
use mathlib.Core.List.{List, [], ◌∷◌, reverse, reverse-append}
use mathlib.Core.Logic.{inl}
use Prim.Native.Nat.{ℕ, suc, ◌-◌, ◌*◌, ◌<◌, ◌≤◌}
use native.Mathlib.Omega.{arith}
use lib.IntN.{ℤ}
use lib.ListN.{length, get_or, take, drop, length-map, get_or-map}
use lib.Seq.{take-suc, take_all}
use mir.Syntax.{w64}
use mir.Val.{Fits}
use Rattle.rules.specs.declared.Mode.{Mode}
use Rattle.rules.specs.declared.Refusal.{Refusal}
use Rattle.rules.specs.declared.Refusal.TheVariants.{SparseDivisor}
use Rattle.rules.specs.declared.Rule.{Rule}
use Rattle.rules.specs.declared.Rule.TheVariants.{Unite, Multiply, Divide}
use Rattle.rules.specs.RowsInOrder.{increasing}
use Rattle.rules.specs.Refusals.{Verdict, given, refused, ◌then◌, number_of, lowest}
use Rattle.rules.specs.Layout.{Layout}
use Rattle.rules.specs.Record.{layout_in}
use Rattle.rules.specs.Union.{union}
use Rattle.rules.specs.Intersect.{intersect}
use Rattle.rules.specs.Stretching.{stretched}
use Rattle.rules.specs.Broadcast.{combine, divides_by_sparse, fold_back}
use Rattle.rules.proofs.Sets.{increasing_true, true_increasing}
use Rattle.rules.proofs.Stretching.{stretch_increasing}
use Rattle.records.proofs.EndToEnd.{to_end}
use Rattle.tables.specs.Tables.{Only}
use Rattle.parts.specs.Parts.{window_size, left, right, target, layout_at, Holds}
use Rattle.parts.specs.Answers.{Says}
use Rattle.parts.proofs.Holds.{layout_outside, holds_outside}
use Rattle.parts.proofs.Lent.{lent_of, back_in, back_only, back_layout, back_holds}
use Rattle.combine.specs.Window.{Combined}
use Rattle.intersecting.specs.Intersecting.{OrderedWindow}
use Rattle.lists.specs.Places.{standing}
use Rattle.lists.specs.Records.{layouts_at}
use Rattle.lists.proofs.Beginning.{length_standing, standing_at}
use Rattle.fold.specs.declared.agreeing.Shape.{Shape}
use Rattle.fold.specs.Stretched.{extents_of, BringAsked, AllBringable, Brought, stretched_to, all_stretched}
use Rattle.fold.specs.Folded.{fold_one, fold_from, LeftReady, LeftIs, Folded, Carried}
use Rattle.rules.proofs.Folding.{combine_in_order}
use Rattle.parts.proofs.Saying.{never_done, says_refused, refused_said, done_said}
use Rattle.fold.proofs.Folds.{fold_back_lem}

-- ---- what a step says

-- a fold that is refused as the rule is says so
folded_refused : (r : Refusal) {v : Verdict Layout} (s : List ℤ) → v ≡ refused (number_of r) → Folded v s (Err r)
folded_refused r s e = record { says = says_refused r left s e; ready = λ d. absurd (never_done d) }

-- ---- `combine_in`

pub combined_as : (rule : Rule) {other : Layout → Layout → Verdict Layout} {s t : List ℤ} {r : (Result ⊤ Refusal)} →
    combine rule (layout_at left s) (layout_at right s) ≡ other (layout_at left s) (layout_at right s) → Combined other s t r → Combined (combine rule) s t r
combined_as rule e c = record { says = rw e c.says; only = c.only }

-- by the rule that was met
module _ {rule : Rule} (a b : Layout) where
  pub unites : rule ≡ Unite → combine rule a b ≡ union a b
  unfolding combine
  unites e = rw e

  pub multiplies : rule ≡ Multiply → combine rule a b ≡ intersect a b
  unfolding combine
  multiplies e = rw e

  pub divides : rule ≡ Divide → combine rule a b ≡ intersect a b
  unfolding combine
  divides e = rw e

-- ---- `fold_next`

module _ (first : Bool) (rule : Rule) {s : List ℤ} (o : OrderedWindow s) {b : Bool} (e : b ≡ first && divides_by_sparse rule (layout_at left s) (layout_at right s)) where
  abbrev fold : Verdict Layout
  fold = fold_one first rule (layout_at left s) (layout_at right s)

  -- 9
  pub next_barred : b ≡ true → (t : List ℤ) → Folded fold t (Err SparseDivisor)
  unfolding lowest number_of
  next_barred f t = folded_refused SparseDivisor t (rw (sym e ∙ f))

  module _ (f : b ≡ false) where
    free : fold ≡ combine rule (layout_at left s) (layout_at right s)
    unfolding lowest
    free = rw (sym e ∙ f)

    module _ {t : List ℤ} {step : (Result ⊤ Refusal)} (c : Combined (combine rule) s t step) where
      pub next_refused : {why : Refusal} → step ≡ Err why → Folded fold t (Err why)
      next_refused {why} g = folded_refused why t (free ∙ refused_said c.says g)

      room : window_size ≤ length t
      room = rw c.only.size o.window.room

      module _ (g : step ≡ Ok tt) where
        pub held : Holds target t
        held = c.says.holds g

        pub next_done : {u : List ℤ} → Carried t u → Folded fold u (Ok tt)
        next_done {u} m = record {
          says = record { is = sym (free ∙ made); holds = λ _. there };
          ready = λ _. record { holds = there; ordered = true_increasing (combine_in_order _ _ (increasing_true _ o.left_ordered) (increasing_true _ o.right_ordered) rule made); room = rw m.size room };
        }
          where
            there : Holds left u
            there = record { inside = rw m.size (omega (arith, room)); sound = rw m.layout held.sound; low = rw m.layout held.low }

            made : combine rule (layout_at left s) (layout_at right s) ≡ given (layout_at left u)
            made = done_said c.says g ∙ ap given (sym m.layout)

-- ---- `bring_left` and `fold_onto`

-- what is lent behind a place is all that stands there
pub lent_behind : {mode : Mode} {shape : Shape} (s : List ℤ) (at : ℕ) → BringAsked mode shape (drop at s) → BringAsked mode shape (take (length s - at) (drop at s))
lent_behind s at b = rw (to_end at s) b

-- stretched rows are in order
stretched_order : (mode : Mode) (l : Layout) (shape : List ℕ) → increasing (stretched mode l shape).rows ≡ true
unfolding stretched
stretched_order mode l shape = true_increasing (stretch_increasing l shape)

module _ (mode : Mode) (shape : Shape) (s : List ℤ) (at : ℕ) (window : List ℤ) (long : window_size ≤ length window) where
  abbrev brought : Layout
  brought = stretched_to mode shape (drop at s)

  module _ {x : List ℤ} (b : Brought (stretched_to mode shape (take (length s - at) (drop at s))) x) where
    layout_is : layout_at 0 x ≡ brought
    layout_is = rw (to_end at s) at b.layout

    pub left_brought : length x ≡ length (lent_of left right window) → LeftIs brought (back_in left right window x)
    left_brought same = record {
      layout = is;
      ready = record {
        holds = back_holds left right window (omega arith) (omega arith) x same 0 left refl (omega arith) b.holds;
        ordered = rw is (stretched_order mode (layout_in (drop at s)) (extents_of shape));
        room = rw (back_only left right window (omega arith) (omega arith) x same).size long;
      };
    }
      where
        is : layout_at left (back_in left right window x) ≡ brought
        is = back_layout left right window (omega arith) (omega arith) x same 0 left refl (omega arith) b.holds ∙ layout_is

    module _ (ready : LeftReady window) (same : length x ≡ length (lent_of right target window)) where
      abbrev both : List ℤ
      both = back_in right target window x

      only : Only right target window both
      only = back_only right target window (omega arith) (omega arith) x same

      left_stays : layout_at left both ≡ layout_at left window
      left_stays = layout_outside only (inl (omega arith)) ready.holds

      right_is : layout_at right both ≡ brought
      right_is = back_layout right target window (omega arith) (omega arith) x same 0 right refl (omega arith) b.holds ∙ layout_is

      pub window_ordered : OrderedWindow both
      window_ordered = record {
        window = record {
          first = holds_outside only (inl (omega arith)) ready.holds;
          second = back_holds right target window (omega arith) (omega arith) x same 0 right refl (omega arith) b.holds;
          room = rw only.size long;
        };
        left_ordered = rw left_stays ready.ordered;
        right_ordered = rw right_is (stretched_order mode (layout_in (drop at s)) (extents_of shape));
      }

      pub onto_folded : (first : Bool) (rule : Rule) {t : List ℤ} {step : (Result ⊤ Refusal)} → Folded (fold_one first rule (layout_at left both) (layout_at right both)) t step →
          Folded (fold_one first rule (layout_at left window) brought) t step
      onto_folded first rule f = rw (left_stays, right_is) at f

-- ---- `fold_all`

-- the last of some elements comes first
reverse_take : (l : List Layout) (k : ℕ) (d : Layout) → k < length l → reverse (take (suc k) l) ≡ get_or l k d ∷ reverse (take k l)
reverse_take l k d h = rw (take-suc l k d h) (reverse-append (take k l) (get_or l k d ∷ []))

-- all but the first k layouts are folded
pub record FoldedTo (mode : Mode) (shape : Shape) (rule : Rule) (n : ℕ) (places : List ℕ) (s : List ℤ) (size : ℕ) (first : Bool) (k : ℕ) (window : List ℤ) : Type 0 where
  pub asked : AllBringable mode shape n places s
  pub upto : k < n
  pub ready : LeftReady window
  pub same_size : length window ≡ size
  pub eq : fold_back rule (reverse (all_stretched mode shape n places s)) ≡ fold_from first rule (layout_at left window) (reverse (take k (all_stretched mode shape n places s)))

module _ {mode : Mode} {shape : Shape} {n : ℕ} {places : List ℕ} {s : List ℤ} (a : AllBringable mode shape n places s) where
  abbrev layouts : List Layout
  layouts = all_stretched mode shape n places s

  layouts_length : length layouts ≡ n
  layouts_length = length-map (layouts_at n places s) (λ l. stretched mode l (extents_of shape)) ∙ length-map (standing n places s) layout_in ∙ length_standing a.inside

  module _ {i : ℕ} (h : i < n) where
    pub place_few : i < 16
    place_few = omega (arith, a.inside.few)

    pub place_small : Fits w64 (i * 8)
    place_small = record { fits = omega (arith, a.inside.few) }

    pub bring_there : (get_or places i 0 ≤ length s) × BringAsked mode shape (drop (get_or places i 0) s)
    bring_there = (a.inside.each i h, rw (standing_at a.inside h) at (a.each i h))

    there : get_or layouts i (stretched mode (layout_in []) (extents_of shape)) ≡ stretched_to mode shape (drop (get_or places i 0) s)
    there =
        get_or-map (λ l. stretched mode l (extents_of shape)) (layouts_at n places s) i (layout_in [])
        ∙ ap (λ (l : Layout). stretched mode l (extents_of shape)) (get_or-map layout_in (standing n places s) i [] ∙ ap layout_in (standing_at a.inside h))

    next : reverse (take (suc i) layouts) ≡ stretched_to mode shape (drop (get_or places i 0) s) ∷ reverse (take i layouts)
    next = reverse_take layouts i (stretched mode (layout_in []) (extents_of shape)) (rw layouts_length h) ∙ ap (λ (l : Layout). l ∷ reverse (take i layouts)) there

  -- the last one stands in the left part
  pub fold_start : {rule : Rule} {window : List ℤ} {size : ℕ} → LeftIs (stretched_to mode shape (drop (get_or places (n - 1) 0) s)) window → length window ≡ size →
      FoldedTo mode shape rule n places s size true (n - 1) window
  fold_start {rule} {window} l e =
      let i : n - 1 < n = omega (arith, a.some) in
      let whole : suc (n - 1) ≡ n = omega (arith, a.some) in
      let all : take n layouts ≡ layouts = take_all n layouts (rw layouts_length (omega arith)) in
      let ends : reverse layouts ≡ reverse (take (suc (n - 1)) layouts) = rw (whole, all) in
      let is : reverse layouts ≡ layout_at left window ∷ reverse (take (n - 1) layouts) = rw l.layout (ends ∙ next i) in
      record { asked = a; upto = i; ready = l.ready; same_size = e; eq = rw is (fold_back_lem rule (layout_at left window) (reverse (take (n - 1) layouts))) }

module _ {mode : Mode} {shape : Shape} {rule : Rule} {n : ℕ} {places : List ℕ} {s : List ℤ} {size : ℕ} {first : Bool} {k : ℕ} {window : List ℤ} (p : FoldedTo mode shape rule n places s size first k window) where
  module _ (h : 0 < k) where
    below : k - 1 < n
    below = omega (arith, p.upto)

    module _ {t : List ℤ} {step : (Result ⊤ Refusal)} (f : Folded (fold_one first rule (layout_at left window) (stretched_to mode shape (drop (get_or places (k - 1) 0) s))) t step) where
      goes_on : fold_back rule (reverse (all_stretched mode shape n places s)) ≡
          (fold_one first rule (layout_at left window) (stretched_to mode shape (drop (get_or places (k - 1) 0) s)) then λ both. fold_from false rule both (reverse (take (k - 1) (all_stretched mode shape n places s))))
      unfolding fold_from
      goes_on =
          let one : suc (k - 1) ≡ k = omega arith in
          p.eq
          ∙ ap (λ (m : ℕ). fold_from first rule (layout_at left window) (reverse (take m (all_stretched mode shape n places s)))) (sym one)
          ∙ ap (fold_from first rule (layout_at left window)) (next p.asked below)

      -- one fold is refused
      pub fold_stop : {why : Refusal} → step ≡ Err why → Says (fold_back rule (reverse (all_stretched mode shape n places s))) left t (Err why)
      fold_stop {why} e = says_refused why left t (goes_on ∙ rw (refused_said f.says e))

      -- one is done
      pub fold_turn : step ≡ Ok tt → length t ≡ size → FoldedTo mode shape rule n places s size false (k - 1) t
      fold_turn e l = record { asked = p.asked; upto = below; ready = f.ready e; same_size = l; eq = goes_on ∙ rw (done_said f.says e) }

  -- all are done
  pub fold_done : k ≤ 0 → Says (fold_back rule (reverse (all_stretched mode shape n places s))) left window (Ok tt)
  unfolding fold_from
  fold_done h =
      let none : k ≡ 0 = omega arith in
      record { is = sym (p.eq ∙ rw none); holds = λ _. p.ready.holds }
