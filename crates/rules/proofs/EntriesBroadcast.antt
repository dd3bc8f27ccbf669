-- No entry is lost by a broadcast in mode 1. Assumes nothing.
use mathlib.Core.Path.{◌≡◌, refl, sym, ap, ◌∙◌, subst}
use mathlib.Core.Bool.{Bool, true, false, not, ◌&&◌, ◌||◌}
use mathlib.Core.Logic.{◌⊎◌, inl, inr, ⊎_elim}
use mathlib.Core.List.Memᴰ
use mathlib.Core.List.{List, [], ◌∷◌, map, Memᴰ}
use Prim.Native.Nat.{ℕ, ◌≤◌}
use native.Mathlib.Omega.{arith}
use borrow.Author.Tests.{eqb-true, not-false}
use lib.Dec.{eqb}
use lib.IntN.{ℤ, pos}
use lib.ListN.{length, length-map}
use Rattle.rules.specs.declared.Mode.TheVariants.{Together}
use Rattle.rules.specs.declared.Rule.{Rule}
use Rattle.rules.specs.declared.Rule.TheVariants.{Unite, Multiply, Divide}
use Rattle.rules.specs.Lists.{if, all, any, product}
use Rattle.rules.specs.Refusals.{Verdict, given, refused, ◌then◌, Reason, ◌when◌, lowest}
use Rattle.rules.specs.Layout.{Layout, rank, is_diagonal, is_sparse, alike, made}
use Rattle.rules.specs.Soundness.{WellFormed, Sound}
use Rattle.rules.specs.CountsAndForms.{to_dense, dense_if_full}
use Rattle.rules.specs.Removal.{remove_dense_axes}
use Rattle.rules.specs.Holding.{is_position, holds}
use Rattle.rules.specs.Pairs.{expanded, lowered, lower_d, bars_expansion}
use Rattle.rules.specs.Intersect.{intersect}
use Rattle.rules.specs.Shapes.{common_shape}
use Rattle.rules.specs.Stretching.{mode_of, stretched}
use Rattle.rules.specs.Record.{natural, records_in, layout_in, sound}
use Rattle.rules.specs.Arguments.{over_count, over_record, short_result, short_work, good_mode}
use Rattle.rules.specs.Broadcast.{rule_of, broadcast_with_mode_call, combine, is_diagonal_in_rows, as_diagonal, end_of_broadcast, broadcast}
use Rattle.rules.specs.ComputedFrom.{Source, deps_on, DependsOn, read_at, StretchedFrom, Kept, Computes}
use Rattle.rules.proofs.Same.{both_true, neither}
use Rattle.rules.proofs.Holding.{holds_position, held_alike}
use Rattle.rules.proofs.Lowering.{lowered_such, expands_dense}
use Rattle.rules.proofs.Forming.{if_full}
use Rattle.rules.proofs.Tests.{true_both, all_each}
use Rattle.rules.proofs.IntersectHolds.{Met, of_right, of_left, of_diagonals, of_rows, intersect_gives, intersect_holds}
use Rattle.rules.proofs.Made.{made_sound}
use Rattle.rules.proofs.ReadBack.{layout_sound}
use Rattle.rules.proofs.Ranges.{from_length}
use Rattle.rules.proofs.Largest.{largest_each}
use Rattle.rules.proofs.Unions.{United, of_dense, of_diagonals, of_rows, union_gives}
use Rattle.rules.proofs.Giving.{Giving, given_such}
use Rattle.rules.proofs.Given.{step_given, none_held, stretch_sound}
use Rattle.rules.proofs.BroadcastEnds.{end_such}
use Rattle.rules.proofs.BroadcastSteps.{shared_shape, stretched_to, Steps, broadcast_steps, steps_such}
use Rattle.rules.proofs.BroadcastHolds.{held_by, broadcast_holds}
use Rattle.rules.proofs.EntriesKept.{deps_as, stretch_reads, union_keeps, stretch_keeps}
use Rattle.rules.proofs.IntersectLists.{intersect_keeps}
use Rattle.rules.proofs.Full.{full_diagonal}
use Rattle.rules.proofs.IntersectMade.{common_of}

-- ---- shapes

-- dense if full, a layout has its shape
pub full_shape : (l : Layout) → (dense_if_full l).shape ≡ l.shape
unfolding to_dense
full_shape l = if_full (λ x. x.shape ≡ l.shape) l refl refl

-- so has one that is lowered
lowered_shape : (l : Layout) (d : ℕ) → (lowered l d).shape ≡ l.shape
unfolding expanded remove_dense_axes
lowered_shape l d = lowered_such (λ x. x.shape ≡ l.shape) l d refl refl refl

-- and what two layouts are united to
united_shape : (a b : Layout) {x : Layout} → United a b x → x.shape ≡ a.shape
unfolding to_dense
united_shape a b (of_dense f) = refl
united_shape a b (of_diagonals f) = refl
united_shape a b (of_rows f g h) = lowered_shape a (lower_d a b)

-- intersected to
met_shape : (a b : Layout) {x : Layout} → intersect a b ≡ given x → x.shape ≡ a.shape
met_shape a b {x} e = let g = intersect_gives a b e in by g.shapes g.met
  where
    by : a.shape ≡ b.shape → {y : Layout} → Met a b y → y.shape ≡ a.shape
    by s (of_right f) = sym s
    by s (of_left f) = refl
    by s (of_diagonals f) = refl
    by s (of_rows f g h t) = full_shape (common_of a b) ∙ lowered_shape a (lower_d a b)

-- or combined to by any rule
combine_shape : (rule : Rule) (a b : Layout) {x : Layout} → combine rule a b ≡ given x → x.shape ≡ a.shape
unfolding combine
combine_shape Unite a b e = let u = union_gives a b e in sym (ap (λ (y : Layout). y.shape) (made_sound u.was_made).0) ∙ united_shape a b u.united
combine_shape Multiply a b e = met_shape a b e
combine_shape Divide a b e = met_shape a b e

-- and what a layout ends as has its shape
end_shape : (l : Layout) → Giving (λ x. x.shape ≡ l.shape) (end_of_broadcast l)
unfolding to_dense
end_shape l = end_such (λ x. x.shape ≡ l.shape) l refl refl (λ _. refl)

module _ (layouts : List Layout) (rule : Rule) {x : Layout} (e : broadcast Together layouts rule ≡ given x) where
  -- a broadcast has the common shape
  pub broadcast_shape : x.shape ≡ shared_shape layouts
  unfolding stretched
  broadcast_shape =
      let s = broadcast_steps Together layouts rule e in
      let P : Layout → Type 0 = λ l. l.shape ≡ shared_shape layouts in
      given_such (λ y. y.shape ≡ s.whole.shape) (end_of_broadcast s.whole) (end_shape s.whole) s.ends
      ∙ steps_such s P (λ _ l. P l) (λ _ a b y h _ c. combine_shape rule a b c ∙ h) (λ l h. h) (λ a i. refl)

  -- so its steps are those to its shape
  pub shape_steps : Steps Together layouts rule x.shape x
  shape_steps = subst (λ (shape : List ℕ). Steps Together layouts rule shape x) (sym broadcast_shape) (broadcast_steps Together layouts rule e)

  -- every position of a broadcast reads a position of each layout
  pub broadcast_reads : (a : Layout) → Memᴰ a layouts → (q : List ℕ) → is_position x.shape q ≡ true → is_position a.shape (read_at a.shape q) ≡ true
  unfolding common_shape
  broadcast_reads a i q h = stretch_reads Together a (shared_shape layouts) ((broadcast_steps Together layouts rule e).stretches a i) long q (rw (← broadcast_shape) h)
    where
      long : rank a ≤ length (shared_shape layouts)
      long = rw (length-map, from_length) (largest_each (Memᴰ.map length (Memᴰ.map (λ l. l.shape) i)))

-- ---- entries at one position

-- what a layout ends as lists what it lists
pub end_lists : (on : Source) (l : Layout) → Giving (λ x. deps_on on x ≡ deps_on on l) (end_of_broadcast l)
unfolding to_dense
end_lists on l = end_such (λ x. deps_on on x ≡ deps_on on l) l refl (deps_as on (λ s. deps_on s l) (to_dense l) refl refl) (λ _. deps_as on (λ s. deps_on s l) (as_diagonal l) refl refl)

module _ (q : List ℕ) where
  -- of a diagonal, the position is (i,..,i)
  abbrev OnDiagonal : Layout → Type 0
  OnDiagonal l = l.kind ≡ 1 → alike q ≡ true

  -- in a product: it is
  abbrev DiagonalIn : Rule → Layout → Type 0
  DiagonalIn Unite l = Unit
  DiagonalIn Multiply l = OnDiagonal l
  DiagonalIn Divide l = OnDiagonal l

  -- in a product: the layout is sound and holds it
  abbrev HeldIn : Rule → Layout → Type 0
  HeldIn Unite l = Unit
  HeldIn Multiply l = Sound l × (holds l q ≡ true)
  HeldIn Divide l = Sound l × (holds l q ≡ true)

  -- a position that a product computes is on its diagonal
  computes_diagonal : (rule : Rule) (l : Layout) → Computes rule l q → DiagonalIn rule l
  computes_diagonal Unite l c = tt
  computes_diagonal Multiply l c = c.lies_on_diagonal
  computes_diagonal Divide l c = c.lies_on_diagonal

  -- a sparse layout is no diagonal
  sparse_diagonal : (rule : Rule) (l : Layout) → l.kind ≡ 2 → DiagonalIn rule l
  sparse_diagonal Unite l k = tt
  sparse_diagonal Multiply l k = λ one. absurd (omega arith)
  sparse_diagonal Divide l k = λ one. absurd (omega arith)

  -- it is on that of an intersection, if it is on those of both
  met_diagonal : (a b : Layout) → OnDiagonal a → OnDiagonal b → {x : Layout} → Met a b x → OnDiagonal x
  met_diagonal a b m n (of_right f) = n
  met_diagonal a b m n (of_left f) = m
  met_diagonal a b m n (of_diagonals f) = m
  met_diagonal a b m n (of_rows f g h s) = λ k. absurd (full_diagonal (common_of a b) refl k)

  -- and on those of both, if it is on that of the intersection and both hold it
  met_back : (a b : Layout) → holds a q ≡ true → holds b q ≡ true → {x : Layout} → Met a b x → OnDiagonal x → OnDiagonal a × OnDiagonal b
  met_back a b h i (of_right f) o = (λ k. absurd (omega (arith, eqb-true a.kind 0 f)), o)
  met_back a b h i (of_left f) o = (o, λ k. absurd (omega (arith, eqb-true b.kind 0 f)))
  met_back a b h i (of_diagonals f) o = (o, λ _. o (eqb-true a.kind 1 (both_true (is_diagonal a) (is_diagonal b) (both_true (is_diagonal a && is_diagonal b) (eqb a.dense b.dense) f).0).0))
  met_back a b h i (of_rows f g _ s) o = let bars = neither (bars_expansion a) (bars_expansion b) g in (alone a h bars.0, alone b i bars.1)
    where
      alone : (l : Layout) → holds l q ≡ true → bars_expansion l ≡ false → OnDiagonal l
      alone l e n k = sym (held_alike l k (expands_dense l k n) (holds_position l q e)) ∙ e

  -- an intersection keeps what both keep
  pub met_kept : {a b x : Layout} → WellFormed a → WellFormed b → intersect a b ≡ given x → Kept a q → Kept b q → Kept x q
  met_kept {a} {b} v w e h i = record {
    is_held = intersect_holds v w e q ∙ true_both h.is_held i.is_held;
    lies_on_diagonal = met_diagonal a b h.lies_on_diagonal i.lies_on_diagonal (intersect_gives a b e).met;
  }

  -- and on that of a layout, if on that of what it ends as
  ends_diagonal : (rule : Rule) (l : Layout) → Giving (λ x. DiagonalIn rule x → DiagonalIn rule l) (end_of_broadcast l)
  unfolding end_of_broadcast
  ends_diagonal rule l = by (is_sparse l) refl
    where
      anything : (v : Verdict Layout) → DiagonalIn rule l → Giving (λ x. DiagonalIn rule x → DiagonalIn rule l) v
      anything (given x) o = λ _. o
      anything (refused n) o = tt

      others : Verdict Layout
      others =
          if (eqb (length l.rows) (product l.shape)) (given (to_dense l))
          (lowest (12 when eqb (rank l) 0 ∷ []) then λ _. if (is_diagonal_in_rows l) (made (as_diagonal l)) (given l))

      by : (t : Bool) → is_sparse l ≡ t → Giving (λ x. DiagonalIn rule x → DiagonalIn rule l) (if (not t) (given l) others)
      by false f = λ o. o
      by true f = anything others (sparse_diagonal rule l (eqb-true l.kind 2 f))

  -- an intersection of two that hold it holds it; if it is on its diagonal, it is on theirs
  meet_back : (a b : Layout) → Sound a × (holds a q ≡ true) → Sound b × (holds b q ≡ true) → {x : Layout} → intersect a b ≡ given x →
      (Sound x × (holds x q ≡ true)) × (OnDiagonal x → OnDiagonal a × OnDiagonal b)
  meet_back a b h i e = let g = intersect_gives a b e in ((g.is_sound, intersect_holds h.0.form i.0.form e q ∙ true_both h.1 i.1), met_back a b h.1 i.1 g.met)

  -- the same of what two are combined to
  combine_back : (rule : Rule) (a b : Layout) → HeldIn rule a → HeldIn rule b → {x : Layout} → combine rule a b ≡ given x → HeldIn rule x × (DiagonalIn rule x → DiagonalIn rule a × DiagonalIn rule b)
  unfolding combine
  combine_back Unite a b h i e = (tt, λ _. (tt, tt))
  combine_back Multiply a b h i e = meet_back a b h i e
  combine_back Divide a b h i e = meet_back a b h i e

  -- a fold of some layouts: if it is on its diagonal, it is on those of all
  abbrev FoldOn : Rule → List Layout → Layout → Type 0
  FoldOn rule layouts x = HeldIn rule x × (DiagonalIn rule x → (m : Layout) → Memᴰ m layouts → DiagonalIn rule m)

  -- one layout alone
  one_on : (rule : Rule) (l : Layout) → HeldIn rule l → FoldOn rule (l ∷ []) l
  one_on rule l h = (h, λ d m i. subst (DiagonalIn rule) (sym (Memᴰ.eq_of_singleton i)) d)

  -- one more
  more_on : (rule : Rule) (done : List Layout) (a b x : Layout) → FoldOn rule done a → HeldIn rule b → combine rule a b ≡ given x → FoldOn rule (b ∷ done) x
  more_on rule done a b x p h c =
      let k = combine_back rule a b p.0 h c in
      (k.0, λ d m i. let r = k.1 d in ⊎_elim (λ same. subst (DiagonalIn rule) (sym same) r.1) (p.1 r.0 m) (Memᴰ.cases_cons i))

  module _ (on : Source) (j : ℕ) where
    -- the layout lists the entry there
    abbrev Lists : Layout → Type 0
    Lists l = DependsOn on l q j

    -- what two layouts are combined to lists what either lists, if the position is on its diagonal
    combine_keeps : (rule : Rule) (a b : Layout) → HeldIn rule a → HeldIn rule b → {x : Layout} → combine rule a b ≡ given x → DiagonalIn rule x → Lists a ⊎ Lists b → Lists x
    unfolding combine
    combine_keeps rule a b h i {x} e d m = by rule h i e d
      where
        meet : Sound a × (holds a q ≡ true) → Sound b × (holds b q ≡ true) → intersect a b ≡ given x → OnDiagonal x → Lists x
        meet h i e d = intersect_keeps on h.0.form i.0.form e q j (record { is_held = (meet_back a b h i e).0.1; lies_on_diagonal = d }) m

        by : (rule : Rule) → HeldIn rule a → HeldIn rule b → combine rule a b ≡ given x → DiagonalIn rule x → Lists x
        by Unite h i e d = union_keeps on a b e q j m
        by Multiply h i e d = meet h i e d
        by Divide h i e d = meet h i e d

    -- one of some layouts lists it
    abbrev OneLists : List Layout → Type 0
    OneLists layouts = (l : Layout) × Memᴰ l layouts × Lists l

    -- a fold of some layouts lists what one of them lists, if the position is on its diagonal
    abbrev FoldLists : Rule → List Layout → Layout → Type 0
    FoldLists rule layouts x = HeldIn rule x × (DiagonalIn rule x → OneLists layouts → Lists x)

    -- one layout alone does
    one_keeps : (rule : Rule) (l : Layout) → HeldIn rule l → FoldLists rule (l ∷ []) l
    one_keeps rule l h = (h, λ _ o. subst Lists (Memᴰ.eq_of_singleton o.1) o.2)

    -- and where one more is combined with, it still does
    more_keeps : (rule : Rule) (done : List Layout) (a b x : Layout) → FoldLists rule done a → HeldIn rule b → combine rule a b ≡ given x → FoldLists rule (b ∷ done) x
    more_keeps rule done a b x p h c =
        let k = combine_back rule a b p.0 h c in
        (k.0, λ d o. combine_keeps rule a b p.0 h c d (⊎_elim (λ same. inr (subst Lists same o.2)) (λ i. inl (p.1 (k.1 d).0 (o.0, i, o.2))) (Memᴰ.cases_cons o.1)))

-- ---- broadcast in mode 1

module _ (layouts : List Layout) (rule : Rule) {x : Layout} (e : broadcast Together layouts rule ≡ given x) where
  -- the steps to the shape of the answer
  steps : Steps Together layouts rule x.shape x
  steps = shape_steps layouts rule e

  module _ (q : List ℕ) (c : Computes rule x q) where
    -- what one of them is stretched to holds a position that a product holds
    stretched_held : (a : Layout) → Memᴰ a layouts → HeldIn q rule (stretched Together a x.shape)
    stretched_held a i = by rule c (subst (λ (shape : List ℕ). holds x q ≡ held_by rule (stretched_to Together shape layouts) q) (sym (broadcast_shape layouts rule e)) (broadcast_holds Together layouts rule e q))
      where
        m : Layout
        m = stretched Together a x.shape

        all_hold : holds x q ≡ true → holds x q ≡ all (λ l. holds l q) (stretched_to Together x.shape layouts) → Sound m × (holds m q ≡ true)
        all_hold h is_all =
            (stretch_sound Together a x.shape (steps.stretches a i), all_each (λ l. holds l q) (sym is_all ∙ h) m (Memᴰ.map (λ y. stretched Together y x.shape) i))

        by : (rule : Rule) → Computes rule x q → holds x q ≡ held_by rule (stretched_to Together x.shape layouts) q → HeldIn q rule m
        by Unite h is_all = tt
        by Multiply h is_all = all_hold h.is_held is_all
        by Divide h is_all = all_hold h.is_held is_all

    -- such a position is on the diagonal of the fold
    whole_diagonal : DiagonalIn q rule steps.whole
    whole_diagonal = given_such (λ y. DiagonalIn q rule y → DiagonalIn q rule steps.whole) (end_of_broadcast steps.whole) (ends_diagonal q rule steps.whole) steps.ends (computes_diagonal q rule x c)

    -- so each that is stretched computes it
    pub stretched_computes : (a : Layout) → Memᴰ a layouts → Computes rule (stretched Together a x.shape) q
    stretched_computes a i =
        by rule (stretched_held a i)
        ((steps_such steps (HeldIn q rule) (FoldOn q rule) (more_on q rule) (one_on q rule) stretched_held).1 whole_diagonal m (Memᴰ.map (λ y. stretched Together y x.shape) i))
      where
        m : Layout
        m = stretched Together a x.shape

        by : (rule : Rule) → HeldIn q rule m → DiagonalIn q rule m → Computes rule m q
        by Unite h d = tt
        by Multiply h d = record { is_held = h.1; lies_on_diagonal = d }
        by Divide h d = record { is_held = h.1; lies_on_diagonal = d }

  -- a broadcast in mode 1 lists at every position what each layout lists where that is read; if it is a product, at every position that it
  -- holds, of a diagonal at (i,..,i)
  pub broadcast_keeps : (on : Source) (a : Layout) → Memᴰ a layouts → WellFormed a → (p q : List ℕ) (j : ℕ) → StretchedFrom a.shape x.shape p q → Computes rule x q →
      DependsOn on a p j → DependsOn on x q j
  broadcast_keeps on a i w p q j r c m =
      let folded = steps_such steps (HeldIn q rule) (FoldLists q on j rule) (more_keeps q on j rule) (one_keeps q on j rule) (stretched_held q c) in
      rw (given_such (λ y. deps_on on y ≡ deps_on on steps.whole) (end_of_broadcast steps.whole) (end_lists on steps.whole) steps.ends)
      (folded.1 (whole_diagonal q c)
      (stretched Together a x.shape, Memᴰ.map (λ y. stretched Together y x.shape) i, stretch_keeps w on x.shape (steps.stretches a i) p q j r m))

-- ---- the call

-- what a call in mode 1 gives is the broadcast of sound layouts
pub call_broadcast : (s : List ℤ) (n : ℤ) (operator result work : ℕ) {x : Layout} → broadcast_with_mode_call s n operator (pos 1) result work ≡ given x →
    (broadcast Together (map layout_in (records_in n s)) (rule_of operator) ≡ given x) × (all sound (records_in n s) ≡ true)
unfolding broadcast_with_mode_call mode_of natural
call_broadcast s n operator result work e = (step_given reasons _ e, not-false (all sound (records_in n s)) (none_held reasons _ e 2))
  where
    reasons : List Reason
    reasons =
        1 when (over_count n || any over_record (records_in n s)) ∷ 2 when (short_result result || short_work work) ∷ 3 when not (all sound (records_in n s))
        ∷ 5 when not (good_mode (pos 1)) ∷ []

-- so it lists, at every position that reads a record there, what that record lists
pub call_keeps : (s : List ℤ) (n : ℤ) (operator result work : ℕ) {x : Layout} → broadcast_with_mode_call s n operator (pos 1) result work ≡ given x → (on : Source) (r : List ℤ) →
    Memᴰ r (records_in n s) → (p q : List ℕ) (j : ℕ) → StretchedFrom (layout_in r).shape x.shape p q → Computes (rule_of operator) x q → DependsOn on (layout_in r) p j → DependsOn on x q j
call_keeps s n operator result work {x} e on r i =
    let c = call_broadcast s n operator result work e in
    broadcast_keeps (map layout_in (records_in n s)) (rule_of operator) c.0 on (layout_in r) (Memᴰ.map layout_in i) (layout_sound r (all_each sound c.1 r i)).form
