-- What a broadcast in mode 1 lists, by its rule: a product what comes from a factor, at the positions that it keeps. Assumes nothing.
use mathlib.Core.Path.{◌≡◌, refl, sym, ap, ◌∙◌, subst}
use mathlib.Core.Bool.{Bool, true, false, ◌&&◌}
use mathlib.Core.List.Memᴰ
use mathlib.Core.List.{List, [], ◌∷◌, map, Memᴰ}
use Prim.Native.Nat.{ℕ}
use native.Mathlib.Omega.{arith}
use borrow.Author.Tests.{eqb-true}
use lib.Dec.{leb}
use lib.IntN.{ℤ, pos}
use Rattle.rules.specs.declared.Mode.TheVariants.{Together}
use Rattle.rules.specs.declared.Rule.{Rule}
use Rattle.rules.specs.declared.Rule.TheVariants.{Unite, Multiply, Divide}
use Rattle.rules.specs.RowsInOrder.{In, Each}
use Rattle.rules.specs.Refusals.{given}
use Rattle.rules.specs.Layout.{Layout, width, is_diagonal, is_sparse}
use Rattle.rules.specs.Soundness.{WellFormed, Sound}
use Rattle.rules.specs.Record.{records_in, layout_in, sound}
use Rattle.rules.specs.Dependencies.{index_of}
use Rattle.rules.specs.Holding.{is_position}
use Rattle.rules.specs.Intersect.{intersect}
use Rattle.rules.specs.Stretching.{is_stretched, stretched}
use Rattle.rules.specs.Broadcast.{rule_of, combine, broadcast, broadcast_with_mode_call}
use Rattle.rules.specs.ComputedFrom.{Source, deps_on, FromOne, free_in_sum, free_in_product, Kept, Computes}
use Rattle.rules.proofs.Same.{neither, true_not_false}
use Rattle.rules.proofs.Tests.{true_both, all_each}
use Rattle.rules.proofs.ReadBack.{layout_sound}
use Rattle.rules.proofs.Given.{stretch_fits, stretch_sound}
use Rattle.rules.proofs.BroadcastEnds.{end_other}
use Rattle.rules.proofs.EntriesBroadcast.{shape_steps, stretched_computes, call_broadcast}
use Rattle.rules.proofs.BroadcastSteps.{stretched_to, Steps, steps_such}
use Rattle.rules.proofs.FreeEntries.{free_inside}
use Rattle.rules.proofs.Offering.{Offers, offers_listed, listed_offers}
use Rattle.rules.proofs.BroadcastLists.{ListsExactly, end_deps, sum_lists, one_lists, diagonals_list}
use Rattle.rules.proofs.ProductFolds.{offers_comes, comes_offers, AllKeep, Stands, Filtered, FilteredBehind, filtered_behind, stands_alone, stands_more, end_kept}

-- ---- products

-- '*' and '/' intersect
product_combines : (rule : Rule) → (rule ≡ Unite → ⊥) → (a b : Layout) {x : Layout} → combine rule a b ≡ given x → intersect a b ≡ given x
unfolding combine
product_combines Unite n a b e = absurd (n refl)
product_combines Multiply n a b e = e
product_combines Divide n a b e = e

-- what is kept is computed by any rule
kept_computes : (rule : Rule) {x : Layout} {q : List ℕ} → Kept x q → Computes rule x q
kept_computes Unite k = tt
kept_computes Multiply k = k
kept_computes Divide k = k

-- by '*' and '/' nothing else is
computes_kept : (rule : Rule) → (rule ≡ Unite → ⊥) → {x : Layout} {q : List ℕ} → Computes rule x q → Kept x q
computes_kept Unite n c = absurd (n refl)
computes_kept Multiply n c = c
computes_kept Divide n c = c

-- a product lists only what comes from a dependency of a factor, and all of that at the positions that it keeps; it lists nothing else, unless it and its first
-- factor are both diagonals. Of a diagonal this is said of the positions of its shape
pub record ListsKept (on : Source) (first : Layout) (others : List Layout) (x : Layout) : Type 0 where
  pub only : Each (FromOne free_in_product on (first ∷ others) x.shape) (deps_on on x)
  pub has : {e : List ℕ} → FromOne free_in_product on (first ∷ others) x.shape e → Kept x (index_of e) → In e (deps_on on x)
  pub kept : {e : List ℕ} → is_diagonal first && is_diagonal x ≡ false → In e (deps_on on x) → (x.kind ≡ 1 → is_position x.shape (index_of e) ≡ true) → Kept x (index_of e)

-- a layout lists dependencies at positions of its shape only; soundness does not ask that
abbrev pub ListsInside : Source → Layout → Type 0
ListsInside on l = Each (λ d. is_position l.shape (index_of d) ≡ true) (deps_on on l)

module _ (first second : Layout) (others : List Layout) (rule : Rule) (n : rule ≡ Unite → ⊥) {x : Layout} (g : broadcast Together (first ∷ second ∷ others) rule ≡ given x)
    (w : (a : Layout) → Memᴰ a (first ∷ second ∷ others) → WellFormed a) (on : Source) where
  -- the factors
  abbrev layouts : List Layout
  layouts = first ∷ second ∷ others

  -- its steps
  steps : Steps Together layouts rule x.shape x
  steps = shape_steps layouts rule g

  -- the whole fold
  folded : Stands on (stretched_to Together x.shape layouts) steps.whole × Filtered on (stretched Together first x.shape) steps.whole
  folded =
      steps_such steps Sound (λ done l. Stands on done l × FilteredBehind on done l)
      (λ done a b y p s c. let m = stands_more on p.0 s (product_combines rule n a b c) in (m.0, filtered_behind on b done y m.1))
      (λ l s. (stands_alone on l s, tt))
      (λ a i. stretch_sound Together a x.shape (steps.stretches a i))

  -- what is listed was listed by the whole
  in_whole : {e : List ℕ} → In e (deps_on on x) → In e (deps_on on steps.whole)
  in_whole {e} i = subst (In e) (end_deps on steps.whole steps.ends) i

  -- what it lists it keeps
  product_filtered : is_diagonal first && is_diagonal x ≡ false → {e : List ℕ} → In e (deps_on on x) → (x.kind ≡ 1 → is_position x.shape (index_of e) ≡ true) → Kept x (index_of e)
  unfolding stretched
  product_filtered apart {e} i inside =
      let j = in_whole i in
      let solid = folded.1.solid j in
      end_kept folded.0.is_sound solid steps.ends (index_of e)
      (folded.1.filtered (whole_apart (is_diagonal first) (is_diagonal steps.whole) refl refl) j (λ one. subst (λ (y : Layout). is_position y.shape (index_of e) ≡ true) (whole_end one) (inside (ap (λ (y : Layout). y.kind) (whole_end one) ∙ one))))
    where
      whole_end : steps.whole.kind ≡ 1 → x ≡ steps.whole
      whole_end one = cc (end_other steps.whole (rw one), steps.ends)

      whole_apart : (s t : Bool) → is_diagonal first ≡ s → is_diagonal steps.whole ≡ t → s && t ≡ false
      whole_apart false t a b = refl
      whole_apart true false a b = refl
      whole_apart true true a b = absurd (true_not_false (true_both a (ap (λ (y : Layout). is_diagonal y) (whole_end (eqb-true steps.whole.kind 1 b)) ∙ b)) apart)

  -- a product of two layouts or more
  pub product_lists : ListsKept on first (second ∷ others) x
  product_lists = record {
    only = λ e i.
        let j = in_whole i in
        let o = folded.0.only (listed_offers folded.0.is_sound.form (folded.1.solid j) on j) in
        let m = Memᴰ.of_map (λ l. stretched Together l x.shape) layouts o.1 in
        let c = offers_comes on (w m.0 m.1) x.shape (steps.stretches m.0 m.1) (subst (λ (y : Layout). Offers on y e) (sym m.2) o.2) in
        record { layout = m.0; one_of = m.1; dependency = c.0; listed = c.1; comes = c.2 };
    has = λ {e} f k.
        let l = f.layout in
        let o = folded.0.has (all_keep (index_of e) k) (
          stretched Together l x.shape,
          Memᴰ.map (λ y. stretched Together y x.shape) f.one_of,
          comes_offers on (w l f.one_of) x.shape (steps.stretches l f.one_of) f.listed f.comes,
        ) in
        subst (In e) (sym (end_deps on steps.whole steps.ends)) (offers_listed folded.0.is_sound.form (folded.1.solid o.listed) on o);
    kept = λ {e} apart i inside. product_filtered apart i inside;
  }
    where
      all_keep : (q : List ℕ) → Kept x q → AllKeep (stretched_to Together x.shape layouts) q
      all_keep q k m i =
          let l = Memᴰ.of_map (λ l. stretched Together l x.shape) layouts i in
          subst (λ (y : Layout). Kept y q) l.2 (computes_kept rule n (stretched_computes layouts rule g q (kept_computes rule k) l.0 l.1))

  -- if every factor lists positions of its own shape, what comes from them lies inside the shape of the product
  from_inside : ((a : Layout) → Memᴰ a layouts → ListsInside on a) → {e : List ℕ} → FromOne free_in_product on layouts x.shape e → is_position x.shape (index_of e) ≡ true
  from_inside inside f =
      let l = f.layout in
      free_inside (free_in_product x.shape l) l.shape x.shape (λ k h. (neither (is_stretched l.shape x.shape k) (is_sparse l && leb (width l) k) h).0)
      (stretch_fits Together l x.shape (steps.stretches l f.one_of)).0 (inside l f.one_of f.dependency f.listed) f.comes

  -- then a product lists exactly what comes from a factor at a position that it keeps, unless it and its first factor are both diagonals
  pub product_exactly : is_diagonal first && is_diagonal x ≡ false → ((a : Layout) → Memᴰ a layouts → ListsInside on a) →
      Each (λ e. FromOne free_in_product on layouts x.shape e × Kept x (index_of e)) (deps_on on x) ×
      ((e : List ℕ) → FromOne free_in_product on layouts x.shape e → Kept x (index_of e) → In e (deps_on on x))
  product_exactly apart inside = (λ e i. let f = product_lists.only e i in (f, product_lists.kept apart i (λ _. from_inside inside f)), λ e f k. product_lists.has f k)

-- ---- any broadcast

-- what a product lists: one layout alone is not filtered, nor are diagonals alone; of no layout there is no product
abbrev pub ProductLists : Source → List Layout → Layout → Type 0
ProductLists on [] x = Unit
ProductLists on (l ∷ []) x = ListsExactly free_in_sum on (l ∷ []) x
ProductLists on (first ∷ second ∷ others) x =
    ListsKept on first (second ∷ others) x × (((a : Layout) → Memᴰ a (first ∷ second ∷ others) → a.kind ≡ 1) → ListsExactly free_in_sum on (first ∷ second ∷ others) x)

-- what a broadcast lists, by its rule
abbrev pub Lists : Rule → Source → List Layout → Layout → Type 0
Lists Unite on layouts x = ListsExactly free_in_sum on layouts x
Lists Multiply on layouts x = ProductLists on layouts x
Lists Divide on layouts x = ProductLists on layouts x

-- a broadcast in mode 1 of well formed layouts lists that
pub broadcast_lists : (layouts : List Layout) (rule : Rule) {x : Layout} → broadcast Together layouts rule ≡ given x → ((a : Layout) → Memᴰ a layouts → WellFormed a) → (on : Source) → Lists rule on layouts x
broadcast_lists layouts rule {x} e w on = by rule e
  where
    of_product : (rule : Rule) → (rule ≡ Unite → ⊥) → (layouts : List Layout) → broadcast Together layouts rule ≡ given x → ((a : Layout) → Memᴰ a layouts → WellFormed a) → ProductLists on layouts x
    of_product rule n [] e w = tt
    of_product rule n (l ∷ []) e w = one_lists l rule e (w l (Memᴰ.head refl)) on
    of_product rule n (first ∷ second ∷ others) e w =
        (product_lists first second others rule n e w on, λ ones. diagonals_list (first ∷ second ∷ others) rule e (λ a i. (w a i, ones a i)) on)

    by : (rule : Rule) → broadcast Together layouts rule ≡ given x → Lists rule on layouts x
    by Unite e = sum_lists layouts e w on
    by Multiply e = of_product Multiply (λ d. let z : ◌≡◌ {A = ℕ} 0 1 = cc in omega arith) layouts e w
    by Divide e = of_product Divide (λ d. let z : ◌≡◌ {A = ℕ} 0 1 = cc in omega arith) layouts e w

-- so does a call in mode 1, of the layouts of its records
pub call_lists : (s : List ℤ) (n : ℤ) (operator result work : ℕ) {x : Layout} → broadcast_with_mode_call s n operator (pos 1) result work ≡ given x → (on : Source) →
    Lists (rule_of operator) on (map layout_in (records_in n s)) x
call_lists s n operator result work e on =
    let c = call_broadcast s n operator result work e in
    broadcast_lists (map layout_in (records_in n s)) (rule_of operator) c.0
    (λ a i. let r = Memᴰ.of_map layout_in (records_in n s) i in subst WellFormed r.2 (layout_sound r.0 (all_each sound c.1 r.0 r.1)).form) on
