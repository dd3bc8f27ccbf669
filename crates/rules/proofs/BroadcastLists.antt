-- What a broadcast in mode 1 lists, exactly, where nothing is filtered: a sum, one layout alone, and a product of diagonals. Assumes nothing.
use mathlib.Core.Path.{◌≡◌, refl, sym, subst}
use mathlib.Core.Bool.{Bool}
use mathlib.Core.Logic.{⊎_elim}
use mathlib.Core.List.Memᴰ
use mathlib.Core.List.{List, [], ◌∷◌, Memᴰ}
use Prim.Native.Nat.{ℕ}
use Rattle.rules.specs.declared.Mode.TheVariants.{Together}
use Rattle.rules.specs.declared.Rule.{Rule}
use Rattle.rules.specs.declared.Rule.TheVariants.{Unite, Multiply, Divide}
use Rattle.rules.specs.RowsInOrder.{merge, In, Each}
use Rattle.rules.specs.Refusals.{given}
use Rattle.rules.specs.Layout.{Layout}
use Rattle.rules.specs.Soundness.{WellFormed}
use Rattle.rules.specs.Stretching.{stretched}
use Rattle.rules.specs.Broadcast.{combine, fold_back, end_of_broadcast, broadcast}
use Rattle.rules.specs.ComputedFrom.{Source, deps_on, FromOne, free_in_sum}
use Rattle.rules.proofs.Merging.{merge_left, merge_right, merge_only}
use Rattle.rules.proofs.Giving.{given_such}
use Rattle.rules.proofs.StretchedTogether.{deps_listed}
use Rattle.rules.proofs.BroadcastSteps.{stretched_to, Steps, steps_such}
use Rattle.rules.proofs.EntriesKept.{union_deps}
use Rattle.rules.proofs.IntersectLists.{diagonals_meet}
use Rattle.rules.proofs.EntriesBroadcast.{end_lists, shape_steps}

-- a layout lists what comes from a dependency of one of some layouts, and nothing else
pub record ListsExactly (free : List ℕ → Layout → ℕ → Bool) (on : Source) (layouts : List Layout) (x : Layout) : Type 0 where
  pub only : Each (FromOne free on layouts x.shape) (deps_on on x)
  pub has : {e : List ℕ} → FromOne free on layouts x.shape e → In e (deps_on on x)

-- ---- dependencies that are merged

-- a layout lists what one of some layouts lists, and nothing else
record Gathers (on : Source) (layouts : List Layout) (x : Layout) : Type 0 where
  only : {e : List ℕ} → In e (deps_on on x) → (m : Layout) × Memᴰ m layouts × In e (deps_on on m)
  has : {e : List ℕ} (m : Layout) → Memᴰ m layouts → In e (deps_on on m) → In e (deps_on on x)

-- one layout alone does
gathers_one : (on : Source) (l : Layout) → Gathers on (l ∷ []) l
gathers_one on l = record {
  only = λ i. (l, Memᴰ.head refl, i);
  has = λ {e} m k i. ⊎_elim (λ d. subst (λ (y : Layout). In e (deps_on on y)) d i) (λ n. absurd (Memᴰ.not-nil n)) (Memᴰ.cases_cons k);
}

-- and so does one merged with another
gathers_more : (on : Source) {done : List Layout} {a b x : Layout} → Gathers on done a → deps_on on x ≡ merge (deps_on on a) (deps_on on b) → Gathers on (b ∷ done) x
gathers_more on {done} {a} {b} g is = record {
  only = λ {e} i.
      ⊎_elim (λ j. let o = g.only j in (o.0, Memᴰ.tail o.1, o.2)) (λ j. (b, Memᴰ.head refl, j)) (merge_only (deps_on on a) (deps_on on b) (subst (In e) is i));
  has = λ {e} m k i.
      subst (In e) (sym is)
      (⊎_elim (λ d. merge_right (deps_on on a) (subst (λ (y : Layout). In e (deps_on on y)) d i)) (λ n. merge_left (deps_on on b) (g.has m n i)) (Memᴰ.cases_cons k));
}

-- the end lists what was listed
pub end_deps : (on : Source) (l : Layout) {x : Layout} → end_of_broadcast l ≡ given x → deps_on on x ≡ deps_on on l
end_deps on l e = given_such (λ x. deps_on on x ≡ deps_on on l) (end_of_broadcast l) (end_lists on l) e

-- ---- broadcasts in which nothing is filtered

module _ (layouts : List Layout) (rule : Rule) {x : Layout} (e : broadcast Together layouts rule ≡ given x) (w : (a : Layout) → Memᴰ a layouts → WellFormed a) (on : Source) where
  -- a fold that gathers what the stretched layouts list is exact
  gathered_lists : (s : Steps Together layouts rule x.shape x) → Gathers on (stretched_to Together x.shape layouts) s.whole → ListsExactly free_in_sum on layouts x
  gathered_lists s g = record {
    only = λ e i.
        let o = g.only (subst (In e) (end_deps on s.whole s.ends) i) in
        let m = Memᴰ.of_map (λ l. stretched Together l x.shape) layouts o.1 in
        let f = (deps_listed (w m.0 m.1) x.shape (s.stretches m.0 m.1) on).only e (subst (λ (y : Layout). In e (deps_on on y)) (sym m.2) o.2) in
        record { layout = m.0; one_of = m.1; dependency = f.0; listed = f.1; comes = f.2 };
    has = λ {e} f.
        let l = f.layout in
        subst (In e) (sym (end_deps on s.whole s.ends))
        (g.has (stretched Together l x.shape) (Memᴰ.map (λ y. stretched Together y x.shape) f.one_of)
        ((deps_listed (w l f.one_of) x.shape (s.stretches l f.one_of) on).has f.listed f.comes));
  }

  -- where combining merges, it is exact
  merging_lists : (Good : Layout → Type 0) → ((a b y : Layout) → Good a → Good b → combine rule a b ≡ given y → Good y × (deps_on on y ≡ merge (deps_on on a) (deps_on on b))) →
      ((a : Layout) → Memᴰ a layouts → Good (stretched Together a x.shape)) → ListsExactly free_in_sum on layouts x
  merging_lists Good merges good =
      let s = shape_steps layouts rule e in
      gathered_lists s
      (steps_such s Good (λ done l. Good l × Gathers on done l)
      (λ done a b y p h c. let m = merges a b y p.0 h c in (m.0, gathers_more on p.1 m.1)) (λ l h. (h, gathers_one on l)) good).1

-- a sum lists what comes from a dependency of one of its layouts on the stretched axes, and nothing else
pub sum_lists : (layouts : List Layout) {x : Layout} → broadcast Together layouts Unite ≡ given x → ((a : Layout) → Memᴰ a layouts → WellFormed a) → (on : Source) →
    ListsExactly free_in_sum on layouts x
unfolding combine
sum_lists layouts e w on = merging_lists layouts Unite e w on (λ _. Unit) (λ a b y _ _ c. (tt, union_deps on a b c)) (λ a i. tt)

-- so does a broadcast of one layout alone, by any rule
pub one_lists : (l : Layout) (rule : Rule) {x : Layout} → broadcast Together (l ∷ []) rule ≡ given x → WellFormed l → (on : Source) → ListsExactly free_in_sum on (l ∷ []) x
unfolding fold_back
one_lists l rule {x} e w on =
    let s = shape_steps (l ∷ []) rule e in
    let is : stretched Together l x.shape ≡ s.whole = cc s.folds in
    gathered_lists (l ∷ []) rule e (λ a i. ⊎_elim (λ d. rw d w) (λ n. absurd (Memᴰ.not-nil n)) (Memᴰ.cases_cons i)) on s
    (subst (Gathers on (stretched Together l x.shape ∷ [])) is (gathers_one on (stretched Together l x.shape)))

-- so does a product of diagonals, whatever its rule
pub diagonals_list : (layouts : List Layout) (rule : Rule) {x : Layout} → broadcast Together layouts rule ≡ given x → ((a : Layout) → Memᴰ a layouts → WellFormed a × (a.kind ≡ 1)) → (on : Source) →
    ListsExactly free_in_sum on layouts x
unfolding combine stretched
diagonals_list layouts rule {x} e w on = by rule e
  where
    forms : (a : Layout) → Memᴰ a layouts → WellFormed a
    forms a i = (w a i).0

    by : (rule : Rule) → broadcast Together layouts rule ≡ given x → ListsExactly free_in_sum on layouts x
    by Unite e = sum_lists layouts e forms on
    by Multiply e = merging_lists layouts Multiply e forms on (λ l. l.kind ≡ 1) (λ a b y k j c. diagonals_meet on a b k j c) (λ a i. (w a i).1)
    by Divide e = merging_lists layouts Divide e forms on (λ l. l.kind ≡ 1) (λ a b y k j c. diagonals_meet on a b k j c) (λ a i. (w a i).1)
