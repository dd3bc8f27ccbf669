-- What a product of stretched layouts lists while it is folded, and at its end. Assumes nothing.
use mathlib.Core.Path.{◌≡◌, refl, sym, ◌∙◌, subst}
use mathlib.Core.Bool.{true, false, not, ◌&&◌, ◌||◌}
use mathlib.Core.Logic.{◌⊎◌, inl, inr, ⊎_elim}
use mathlib.Core.List.Memᴰ
use mathlib.Core.List.{List, [], ◌∷◌, Memᴰ}
use Prim.Native.Nat.{ℕ}
use native.Mathlib.Omega.{arith}
use borrow.Author.Tests.{eqb-true, ltb-false, not-false}
use lib.Dec.{eqb, leb}
use lib.ListN.{length, get_or, take}
use Rattle.rules.specs.declared.Mode.TheVariants.{Together}
use Rattle.rules.specs.Lists.{if, all, product}
use Rattle.rules.specs.RowsInOrder.{In}
use Rattle.rules.specs.Refusals.{given, ◌when◌}
use Rattle.rules.specs.Layout.{Layout, rank, width, is_diagonal, is_sparse, alike, made}
use Rattle.rules.specs.Soundness.{WellFormed, Sound}
use Rattle.rules.specs.Dependencies.{index_of}
use Rattle.rules.specs.CountsAndForms.{to_dense}
use Rattle.rules.specs.Holding.{is_position}
use Rattle.rules.specs.Intersect.{intersect}
use Rattle.rules.specs.Stretching.{is_stretched, stretched, broadcast_to_shape}
use Rattle.rules.specs.Broadcast.{is_diagonal_in_rows, as_diagonal, end_of_broadcast}
use Rattle.rules.specs.ComputedFrom.{Source, deps_on, Freely, free_in_product, Kept}
use Rattle.rules.proofs.Same.{both_true}
use Rattle.rules.proofs.Tests.{all_each}
use Rattle.rules.proofs.Holding.{sparse_true, whole_front}
use Rattle.rules.proofs.IntersectHolds.{intersect_sound}
use Rattle.rules.proofs.Giving.{Giving, given_such, giving_if, giving_step, giving_made}
use Rattle.rules.proofs.Given.{stretch_fits}
use Rattle.rules.proofs.BroadcastHolds.{end_holds}
use Rattle.rules.proofs.EntriesBroadcast.{met_kept}
use Rattle.rules.proofs.FreeEntries.{free_both, freed_in_turn}
use Rattle.rules.proofs.Offering.{Offers, Solid, offers_listed, listed_offers}
use Rattle.rules.proofs.IntersectLists.{Intersects, intersect_lists}
use Rattle.rules.proofs.Stretching.{stretched_width}
use Rattle.rules.proofs.StretchedTogether.{deps_listed}

-- ---- what a stretched layout offers

module _ (on : Source) {l : Layout} (w : WellFormed l) (shape : List ℕ) (e : broadcast_to_shape Together l shape ≡ given (stretched Together l shape)) where
  -- an entry that is free on the stretched axes, and then on the dense ones of the stretched layout
  abbrev SpreadAfter : List ℕ → List ℕ → Type 0
  SpreadAfter d x = Freely (λ k. is_stretched l.shape shape k || (is_sparse (stretched Together l shape) && leb (width (stretched Together l shape)) k)) l.shape shape d x

  -- that is free as in a product
  spread_same : (d x : List ℕ) → SpreadAfter d x ≡ Freely (free_in_product shape l) l.shape shape d x
  unfolding stretched
  spread_same d x = let f = stretch_fits Together l shape e in rw (stretched_width Together w (record { fits = f.0; room = f.1 }))

  -- what a stretched layout offers comes from one of its dependencies, as a product frees them
  pub offers_comes : {x : List ℕ} → Offers on (stretched Together l shape) x → (d : List ℕ) × In d (deps_on on l) × Freely (free_in_product shape l) l.shape shape d x
  unfolding stretched
  offers_comes {x} o =
      let f = (deps_listed w shape e on).only o.dependency o.listed in
      (f.0, f.1, subst (λ (t : Type 0). t) (spread_same f.0 x) (free_both _ _ f.2 o.takes))

  -- and that is all it offers
  pub comes_offers : {d x : List ℕ} → In d (deps_on on l) → Freely (free_in_product shape l) l.shape shape d x → Offers on (stretched Together l shape) x
  unfolding stretched
  comes_offers {d} {x} i f =
      let m = freed_in_turn _ _ (subst (λ (t : Type 0). t) (sym (spread_same d x)) f) in
      record { dependency = m.0; listed = (deps_listed w shape e on).has i m.1; takes = m.2 }

-- ---- folds

-- one of some layouts offers an entry
abbrev pub OneOffers : Source → List Layout → List ℕ → Type 0
OneOffers on layouts e = (m : Layout) × Memᴰ m layouts × Offers on m e

-- all of them keep a position
abbrev pub AllKeep : List Layout → List ℕ → Type 0
AllKeep layouts q = (m : Layout) → Memᴰ m layouts → Kept m q

-- a layout offers only what one of some layouts does, and all of that at the positions that all of them keep; and those it keeps
pub record Stands (on : Source) (layouts : List Layout) (x : Layout) : Type 0 where
  pub is_sound : Sound x
  pub only : {e : List ℕ} → Offers on x e → OneOffers on layouts e
  pub has : {e : List ℕ} → AllKeep layouts (index_of e) → OneOffers on layouts e → Offers on x e
  pub keeps : (q : List ℕ) → AllKeep layouts q → Kept x q

-- it lists nothing if it is sparse with dense axes, and nothing but what it keeps if it and the first layout are not both diagonals
pub record Filtered (on : Source) (first x : Layout) : Type 0 where
  pub solid : {e : List ℕ} → In e (deps_on on x) → Solid x
  pub filtered : {e : List ℕ} → is_diagonal first && is_diagonal x ≡ false → In e (deps_on on x) → (x.kind ≡ 1 → is_position x.shape (index_of e) ≡ true) → Kept x (index_of e)

-- so it is once two were combined
abbrev pub FilteredBehind : Source → List Layout → Layout → Type 0
FilteredBehind on [] x = Unit
FilteredBehind on (first ∷ []) x = Unit
FilteredBehind on (first ∷ second ∷ layouts) x = Filtered on first x

-- what is so with one more is so behind any
pub filtered_behind : (on : Source) (first : Layout) (layouts : List Layout) (x : Layout) → Filtered on first x → FilteredBehind on (first ∷ layouts) x
filtered_behind on first [] x f = tt
filtered_behind on first (second ∷ layouts) x f = f

-- one layout stands for itself
pub stands_alone : (on : Source) (l : Layout) → Sound l → Stands on (l ∷ []) l
stands_alone on l s = record {
  is_sound = s;
  only = λ o. (l, Memᴰ.head refl, o);
  has = λ {e} k o. ⊎_elim (λ d. subst (λ (y : Layout). Offers on y e) d o.2) (λ n. absurd (Memᴰ.not-nil n)) (Memᴰ.cases_cons o.1);
  keeps = λ q k. k l (Memᴰ.head refl);
}

-- intersected with one more it stands for both, and is filtered
pub stands_more : (on : Source) {done : List Layout} {a b x : Layout} → Stands on done a → Sound b → intersect a b ≡ given x → Stands on (b ∷ done) x × Filtered on b x
stands_more on {done} {a} {b} {x} s t g = (
  record {
    is_sound = sound;
    only = λ {e} o.
        ⊎_elim (λ m. let p = s.only m in (p.0, Memᴰ.tail p.1, p.2)) (λ m. (b, Memᴰ.head refl, m))
        (i.only (offers_listed sound.form (i.solid o.listed) on o));
    has = λ {e} k o. let l = i.has (keeps (index_of e) k) (either k o) in listed_offers sound.form (i.solid l) on l;
    keeps = keeps;
  },
  record { solid = λ {e} m. i.solid m; filtered = λ {e} n m inside. i.filtered n m inside },
)
  where
    i : Intersects on a b x
    i = intersect_lists on s.is_sound.form t.form g

    sound : Sound x
    sound = intersect_sound a b g

    keeps : (q : List ℕ) → AllKeep (b ∷ done) q → Kept x q
    keeps q k = met_kept q s.is_sound.form t.form g (s.keeps q (λ m j. k m (Memᴰ.tail j))) (k b (Memᴰ.head refl))

    either : {e : List ℕ} → AllKeep (b ∷ done) (index_of e) → OneOffers on (b ∷ done) e → Offers on a e ⊎ Offers on b e
    either {e} k o =
        ⊎_elim (λ d. inr (subst (λ (y : Layout). Offers on y e) d o.2)) (λ j. inl (s.has (λ m n. k m (Memᴰ.tail n)) (o.0, j, o.2))) (Memᴰ.cases_cons o.1)

-- ---- the end

-- what is kept is kept at the end, of a solid layout
pub end_kept : {l x : Layout} → Sound l → Solid l → end_of_broadcast l ≡ given x → (q : List ℕ) → Kept l q → Kept x q
unfolding end_of_broadcast to_dense
end_kept {l} {x} s solid e q k = record { is_held = given_such _ (end_of_broadcast l) (end_holds s) e q ∙ k.is_held; lies_on_diagonal = given_such P (end_of_broadcast l) lies_on_diagonal e }
  where
    P : Layout → Type 0
    P y = y.kind ≡ 1 → alike q ≡ true

    front : l.kind ≡ 2 → take (width l) q ≡ q
    front two = whole_front l (omega (arith, ltb-false 0 l.dense (rw two at solid))) (sparse_true l q two k.is_held).0

    rows_alike : l.kind ≡ 2 → is_diagonal_in_rows l ≡ true → alike q ≡ true
    rows_alike two d =
        let rows = (both_true (not (eqb (rank l) 1) && alike l.shape && eqb (length l.rows) (get_or l.shape 0 0)) (all alike l.rows) d).1 in
        rw (front two) at (all_each alike rows (take (width l) q) (sparse_true l q two k.is_held).1)

    lies_on_diagonal : Giving P (end_of_broadcast l)
    lies_on_diagonal =
        giving_if P (not (is_sparse l)) _ _ (λ _. k.lies_on_diagonal)
        (λ f.
        let two : l.kind ≡ 2 = eqb-true l.kind 2 (not-false (is_sparse l) f) in
        giving_if P (eqb (length l.rows) (product l.shape)) _ _ (λ _ one. absurd (omega arith))
        (λ _. giving_step P (12 when eqb (rank l) 0 ∷ []) (if (is_diagonal_in_rows l) (made (as_diagonal l)) (given l))
        (giving_if P (is_diagonal_in_rows l) (made (as_diagonal l)) (given l) (λ d. giving_made P (as_diagonal l) (λ _ _. rows_alike two d)) (λ _ one. absurd (omega arith)))))
