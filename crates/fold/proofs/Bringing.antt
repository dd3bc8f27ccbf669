-- Judged records: whether each may be stretched, and that it is brought as the rule says. Assumes nothing.
use Rattle.std.specs.Prelude.{Err, None, Ok, Option, Result, Some, ⊤}
use mathlib.Core.Path.{◌≡◌, refl, sym, ap, ◌∙◌}
use mathlib.Core.Bool.{Bool, true, false, ◌&&◌}
use mathlib.Core.List.{List, [], ◌∷◌, map}
use Prim.Native.Nat.{ℕ, zero, suc, ◌+◌, ◌-◌, ◌<◌, ◌≤◌}
use native.Mathlib.Numerals.{add-one}
use native.Mathlib.Omega.{arith}
use lib.IntN.{ℤ}
use lib.ListN.{length, get_or, take, drop, length-map, drop_of_length-le, get_or-map}
use lib.Seq.{drop-cons}
use Rattle.rules.specs.declared.Head.{Head}
use Rattle.rules.specs.declared.Mode.{Mode}
use Rattle.rules.specs.declared.Refusal.{Refusal}
use Rattle.rules.specs.Lists.{same}
use Rattle.rules.specs.Refusals.{Verdict, given, refused, ◌then◌}
use Rattle.rules.specs.RowsInOrder.{increasing}
use Rattle.rules.specs.Layout.{Layout}
use Rattle.rules.specs.Record.{walk, layout_in, sound, ordered}
use Rattle.rules.specs.Stretching.{stretched, broadcast_to_shape}
use Rattle.rules.specs.Broadcast.{stretch_all}
use Rattle.rules.specs.Endings.{step_says}
use Rattle.rules.proofs.Same.{both_true, true_not_false, same_true, lengths_differ}
use Rattle.rules.proofs.Sets.{increasing_true}
use Rattle.rules.proofs.Unions.{never}
use Rattle.tables.specs.Rows.{row_at}
use Rattle.tables.proofs.Rows.{row_length}
use Rattle.records.specs.Sound.{SoundRecord}
use Rattle.records.proofs.SoundRecords.{broken_unsound, lies, layout_sound, layout_shown}
use Rattle.parts.specs.Parts.{layout_at}
use Rattle.parts.specs.Answers.{Loaded, Says}
use Rattle.lists.specs.Places.{standing}
use Rattle.lists.specs.Records.{JudgedRecord, layouts_at}
use Rattle.lists.proofs.Beginning.{length_standing, lent_at, place_inside, place_fits}
use Rattle.stretch.specs.Layouts.{StretchAsked as IntoAsked}
use Rattle.stretch.proofs.Assembled.{ask_shape}
use Rattle.fold.specs.declared.agreeing.Shape.{Shape}
use Rattle.fold.specs.Stretched.{extents_of, ShapeFits, StretchAsked, AllAsked, AllBringable, Brought, stretched_to, stretching, all_stretched, told, whether}
use Rattle.rules.proofs.Unchanged.{unchanged_given, unchanged_same}
use Rattle.rules.proofs.Folding.{given_stretched}

-- ---- the head of a judged record

module _ {s : List ℤ} (j : JudgedRecord s) {r : (Option Head)} (e : r ≡ walk s) where
  pub judged_head : {h : Head} → r ≡ Some h → SoundRecord h s
  judged_head {h} f = record { walked = sym e ∙ f; judged = j.judged; readable = j.readable h (sym e ∙ f) }

  -- it has one
  pub judged_walks : r ≡ None → ⊥
  judged_walks f = true_not_false j.judged (broken_unsound s e f)

-- ---- `has_shape` and `is_unchanged`

module _ {h : Head} {s : List ℤ} (r : SoundRecord h s) (shape : Shape) where
  shape_shown : (layout_in s).shape ≡ row_at 3 h.rank s
  shape_shown = ap (λ (l : Layout). l.shape) (layout_shown r)

  room : 3 + h.rank ≤ length s
  room = let b = lies r in omega (arith, b.shape_lies_in, b.end_in)

  -- another rank
  pub rank_differs : ShapeFits shape → (h.rank ≡ shape.rank → ⊥) → false ≡ same (layout_in s).shape (extents_of shape)
  rank_differs f n =
      sym (lengths_differ (layout_in s).shape (extents_of shape)
      (λ e. n (sym (row_length 3 h.rank s room) ∙ ap length (sym shape_shown) ∙ e ∙ row_length 0 shape.rank shape.extents f.extents.room)))

  -- the same rank
  pub rank_same : {t : Bool} → h.rank ≡ shape.rank → t ≡ same (row_at 3 shape.rank s) (extents_of shape) → t ≡ same (layout_in s).shape (extents_of shape)
  rank_same {t} e f = f ∙ rw (shape_shown, e)

-- both hold, or the first does not
pub both_told : {a b t u : Bool} → t ≡ a → t ≡ true → u ≡ b → u ≡ a && b
both_told e f g = g ∙ rw (sym e ∙ f)

pub first_told : {a : Bool} (b : Bool) {t : Bool} → t ≡ a → t ≡ false → false ≡ a && b
first_told b e f = rw (sym e ∙ f)

pub ruleset shape_laws = (rank_differs, rank_same, both_told, first_told)

-- ---- a step

-- what a step says it tells
pub says_told : {v : Verdict Layout} {at : ℕ} {s : List ℤ} (step : Result ⊤ Refusal) → Says v at s step → told step ≡ whether v
says_told {at} {s} step d = by step ∙ ap whether d.is
  where
    by : (x : Result ⊤ Refusal) → told x ≡ whether (step_says x (layout_at at s))
    by (Ok tt) = refl
    by (Err why) = refl

-- where the verdict is given, the layout is there
pub says_brought : {v : Verdict Layout} {l : Layout} {s : List ℤ} (step : Result ⊤ Refusal) → Says v 0 s step → v ≡ given l → Brought l s
says_brought (Ok tt) d e = record { layout = let f = d.is ∙ e in cc; holds = d.holds refl }
says_brought (Err why) d e = absurd (never (d.is ∙ e))

-- ---- `judge` and `bring`

module _ {shape : Shape} {s : List ℤ} (a : StretchAsked shape s) where
  -- what stretching asks
  pub asked_into : {h : Head} → SoundRecord h s → IntoAsked h s 0 shape.rank shape.extents
  asked_into r = ask_shape r a.fits.extents a.fits.few

  module _ {h : Head} (r : SoundRecord h s) {t : Bool} where
    -- a record that has the shape may be stretched to it
    pub same_told : (mode : Mode) → t ≡ same (layout_in s).shape (extents_of shape) → t ≡ true → given tt ≡ whether (stretching mode shape s)
    same_told mode e f =
        let is : (layout_in s).shape ≡ extents_of shape = same_true (sym e ∙ f) in
        rw (← is, unchanged_given mode (layout_sound r))

    -- and is loaded where its rows are in order
    pub loaded_brought : (mode : Mode) → t ≡ same (layout_in s).shape (extents_of shape) && ordered s → t ≡ true → {part : List ℤ} → Loaded s part → Brought (stretched_to mode shape s) part
    unfolding ordered
    loaded_brought mode e f l =
        let both = both_true (same (layout_in s).shape (extents_of shape)) (sound s && increasing (layout_in s).rows) (sym e ∙ f) in
        let rows = both_true (sound s) (increasing (layout_in s).rows) both.1 in
        let is : (layout_in s).shape ≡ extents_of shape = same_true both.0 in
        record { layout = l.layout ∙ rw (← is) (sym (unchanged_same mode (layout_sound r) (increasing_true (layout_in s).rows rows.1))); holds = l.holds }

-- ---- `judge_all`

-- the first i of n layouts may be stretched, and the part is as long as it was
pub record JudgedTo (mode : Mode) (shape : List ℕ) (n i : ℕ) (layouts : List Layout) (part₀ part : List ℤ) : Type 0 where
  pub same_size : length part ≡ length part₀
  pub upto : i ≤ n
  pub size : length layouts ≡ n
  pub eq : whether (stretch_all mode shape layouts) ≡ whether (stretch_all mode shape (drop i layouts))

whether_cons : (v : Verdict Layout) (w : Verdict (List Layout)) → whether (v then λ first. w then λ others. given (first ∷ others)) ≡ (v then λ _. whether w)
whether_cons (given x) (given xs) = refl
whether_cons (given x) (refused n) = refl
whether_cons (refused n) w = refl

-- behind one that was told
told_then : (v : Verdict Layout) (w : Verdict Unit) → whether v ≡ given tt → (v then λ _. w) ≡ w
told_then (given x) w e = refl
told_then (refused n) w e = absurd (never e)

told_refused : (v : Verdict Layout) (w : Verdict Unit) {n : ℕ} → whether v ≡ refused n → (v then λ _. w) ≡ refused n
told_refused (given x) w e = absurd (never (sym e))
told_refused (refused m) w e = e

module _ {shape : Shape} {n : ℕ} {places : List ℕ} {s : List ℤ} (a : AllAsked shape n places s) where
  abbrev all : List Layout
  all = layouts_at n places s

  all_length : length all ≡ n
  all_length = length-map (standing n places s) layout_in ∙ length_standing a.inside

  pub judged_start : {mode : Mode} (part : List ℤ) → JudgedTo mode (extents_of shape) n 0 all part part
  judged_start part = record { same_size = refl; upto = omega arith; size = all_length; eq = refl }

  module _ {i : ℕ} (h : i < n) where
    -- the record that is lent
    pub judged_asked : StretchAsked shape (take (length s - get_or places i 0) (drop (get_or places i 0) s))
    judged_asked = record { source = rw (lent_at a.inside h) (a.each i h); fits = a.fits }

    at_layout : layout_in (take (length s - get_or places i 0) (drop (get_or places i 0) s)) ≡ get_or all i (layout_in [])
    at_layout = ap layout_in (lent_at a.inside h) ∙ sym (get_or-map layout_in (standing n places s) i [])

    module _ {mode : Mode} {part₀ part : List ℤ} (p : JudgedTo mode (extents_of shape) n i all part₀ part) (step : Result ⊤ Refusal) (e : told step ≡ whether (stretching mode shape (take (length s - get_or places i 0) (drop (get_or places i 0) s)))) where
      next : whether (stretch_all mode (extents_of shape) all) ≡ (broadcast_to_shape mode (get_or all i (layout_in [])) (extents_of shape) then λ _. whether (stretch_all mode (extents_of shape) (drop (i + 1) all)))
      unfolding stretch_all
      next = let inside : i < length all = omega (arith, p.size) in p.eq ∙ rw (add-one, drop-cons all i (layout_in []) inside) (whether_cons (broadcast_to_shape mode (get_or all i (layout_in [])) (extents_of shape)) (stretch_all mode (extents_of shape) (drop (suc i) all)))

      here : whether (broadcast_to_shape mode (get_or all i (layout_in [])) (extents_of shape)) ≡ told step
      here = rw (← at_layout) (sym e)

      -- one may be stretched
      pub judged_turn : {next-part : List ℤ} → step ≡ Ok tt → length next-part ≡ length part → JudgedTo mode (extents_of shape) n (i + 1) all part₀ next-part
      judged_turn f l = record { same_size = l ∙ p.same_size; upto = omega arith; size = p.size; eq = next ∙ told_then (broadcast_to_shape mode (get_or all i (layout_in [])) (extents_of shape)) (whether (stretch_all mode (extents_of shape) (drop (i + 1) all))) (here ∙ ap told f) }

      -- one may not
      pub judged_stop : {why : Refusal} → step ≡ Err why → told (Err why) ≡ whether (stretch_all mode (extents_of shape) all)
      judged_stop f = sym (next ∙ told_refused (broadcast_to_shape mode (get_or all i (layout_in [])) (extents_of shape)) (whether (stretch_all mode (extents_of shape) (drop (i + 1) all))) (here ∙ ap told f))

  -- all may
  pub judged_done : {mode : Mode} {i : ℕ} {part₀ part : List ℤ} → JudgedTo mode (extents_of shape) n i all part₀ part → n ≤ i → told (Ok tt) ≡ whether (stretch_all mode (extents_of shape) all)
  unfolding stretch_all
  judged_done {i = i} p h = sym (p.eq ∙ rw (drop_of_length-le all {i = i} (omega (arith, p.size))))

pub ruleset judged_laws = (judged_start, judged_asked, judged_turn, judged_stop, judged_done, place_inside, place_fits)

-- ---- all may be stretched

pub record AllGiven (mode : Mode) (shape : List ℕ) (layouts : List Layout) : Type 0 where
  pub all_is : stretch_all mode shape layouts ≡ given (map (λ l. stretched mode l shape) layouts)
  pub each : (d : Layout) (i : ℕ) → i < length layouts → broadcast_to_shape mode (get_or layouts i d) shape ≡ given (stretched mode (get_or layouts i d) shape)

all_given : (mode : Mode) (shape : List ℕ) (layouts : List Layout) → given tt ≡ whether (stretch_all mode shape layouts) → AllGiven mode shape layouts
unfolding stretch_all
all_given mode shape [] e = record { all_is = refl; each = λ d i h. absurd (omega arith) }
all_given mode shape (l ∷ layouts) e = by (broadcast_to_shape mode l shape) refl (all_given mode shape layouts) (e ∙ whether_cons (broadcast_to_shape mode l shape) (stretch_all mode shape layouts))
  where
    by : (v : Verdict Layout) → broadcast_to_shape mode l shape ≡ v → (given tt ≡ whether (stretch_all mode shape layouts) → AllGiven mode shape layouts) →
        given tt ≡ (v then λ _. whether (stretch_all mode shape layouts)) → AllGiven mode shape (l ∷ layouts)
    by (given x) f rest g =
        let r = rest g in
        let first : broadcast_to_shape mode l shape ≡ given (stretched mode l shape) = given_stretched mode l shape f in
        record { all_is = rw (first, r.all_is); each = at r.each first }
      where
        at : ((d : Layout) (i : ℕ) → i < length layouts → broadcast_to_shape mode (get_or layouts i d) shape ≡ given (stretched mode (get_or layouts i d) shape)) →
            broadcast_to_shape mode l shape ≡ given (stretched mode l shape) →
            (d : Layout) (i : ℕ) → i < length (l ∷ layouts) → broadcast_to_shape mode (get_or (l ∷ layouts) i d) shape ≡ given (stretched mode (get_or (l ∷ layouts) i d) shape)
        at r f d zero h = f
        at r f d (suc i) h = r d i (omega arith)
    by (refused n) f rest g = absurd (never (sym g))

module _ {shape : Shape} {n : ℕ} {places : List ℕ} {s : List ℤ} (a : AllAsked shape n places s) (mode : Mode) (e : told (Ok tt) ≡ whether (stretch_all mode (extents_of shape) (layouts_at n places s))) where
  pub all_stretched_lem : stretch_all mode (extents_of shape) (layouts_at n places s) ≡ given (all_stretched mode shape n places s)
  all_stretched_lem = (all_given mode (extents_of shape) (layouts_at n places s) e).all_is

  pub all_bringable : 0 < n → AllBringable mode shape n places s
  all_bringable some = record { some = some; inside = a.inside; each = λ i h. record { asked = record { source = a.each i h; fits = a.fits }; given_is = at i h } }
    where
      at : (i : ℕ) → i < n → stretching mode shape (get_or (standing n places s) i []) ≡ given (stretched_to mode shape (get_or (standing n places s) i []))
      at i h =
          rw (← get_or-map layout_in (standing n places s) i [])
          ((all_given mode (extents_of shape) (layouts_at n places s) e).each (layout_in []) i (rw (all_length a) h))
