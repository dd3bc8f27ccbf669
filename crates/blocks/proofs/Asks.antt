-- What is asked of every block. Assumes nothing.
use mathlib.Core.Path.{◌≡◌, refl, sym, ap, ◌∙◌, subst}
use mathlib.Core.Bool.{Bool, true, false, not}
use mathlib.Core.List.Memᴰ
use mathlib.Core.List.{List, [], ◌∷◌, Memᴰ}
use Prim.Native.Nat.{ℕ, suc, ◌+◌, ◌-◌, ◌<◌, ◌≤◌}
use native.Mathlib.Numerals.{add-one}
use native.Mathlib.Omega.{arith}
use borrow.Author.Tests.{eqb-true, ne_eqb, ltb-true, ltb-false, lt-leb, le-leb, not-true, not-false}
use lib.Dec.{eqb, leb, ltb}
use lib.IntN.{ℤ}
use lib.ListN.{length, get_or, take, drop, length-map, drop_of_length-le, get_or-map}
use lib.Seq.{drop-cons}
use Rattle.rules.specs.Lists.{all, keep}
use Rattle.rules.specs.declared.Kind.{Kind}
use Rattle.rules.specs.declared.Kind.TheVariants as kinds
use Rattle.rules.specs.Layout.{Layout, rank, kind_of}
use Rattle.rules.specs.Soundness.{Sound}
use Rattle.rules.specs.Record.{layout_in, sound}
use Rattle.rules.specs.Concatenate.{first_d}
use Rattle.rules.proofs.Tests.{all_each}
use Rattle.rules.proofs.ReadBack.{layout_sound}
use Rattle.rules.proofs.Blocks.{first_low}
use Rattle.rules.proofs.KindRead.{dense_number, diagonal_number, sparse_number, not_dense, not_diagonal, not_sparse}
use Rattle.tables.proofs.Passing.{Passed, none_passed, one_more, one_fails, all_passed}
use Rattle.lists.specs.Places.{standing, Inside, EachAt}
use Rattle.lists.specs.Records.{layouts_at}
use Rattle.lists.proofs.Beginning.{length_standing, lent_at, place_inside, place_fits, known_at}
use Rattle.blocks.specs.declared.asking.Ask.{Ask}
use Rattle.blocks.specs.declared.asking.Ask.TheVariants.{Within, OfRank, Dense, Sparse, Diagonal, DenseAxes, Stretches, Extent}
use Rattle.blocks.specs.Blocks.{SoundAt}
use Rattle.blocks.specs.Asked.{asked, otherwise}

-- ---- one layout

-- not above is at most
at_most : (n r : ℕ) → leb n r ≡ not (ltb r n)
at_most n r = by (ltb r n) refl
  where
    by : (t : Bool) → ltb r n ≡ t → leb n r ≡ not t
    by true e = lt-leb n r (ltb-true r n e)
    by false e = le-leb n r (ltb-false r n e)

-- it is asked as the test says
module _ {ask : Ask} (l : Layout) where
  pub within_asked : {r n : ℕ} → ask ≡ Within r → n ≡ rank l → leb n r ≡ asked ask l
  within_asked {r} {n} e f = at_most n r ∙ rw (e, f)

  pub rank_asked : {r n : ℕ} → ask ≡ OfRank r → n ≡ rank l → eqb n r ≡ asked ask l
  rank_asked e f = rw (e, f)

  module _ {k : Kind} (f : k ≡ kind_of l.kind) where
    pub dense_asked : ask ≡ Dense → k ≡ kinds.Dense → true ≡ asked ask l
    dense_asked e g = rw (e, dense_number f g)

    pub not_dense_asked : ask ≡ Dense → (k ≡ kinds.Dense → ⊥) → false ≡ asked ask l
    not_dense_asked e g = rw (e, ne_eqb l.kind 0 (not_dense f g))

    pub sparse_asked : ask ≡ Sparse → k ≡ kinds.Sparse → l.kind ≤ 2 → true ≡ asked ask l
    sparse_asked e g h = rw (e, sparse_number f g h)

    pub not_sparse_asked : ask ≡ Sparse → (k ≡ kinds.Sparse → ⊥) → false ≡ asked ask l
    not_sparse_asked e g = rw (e, ne_eqb l.kind 2 (not_sparse f g))

    pub diagonal_asked : ask ≡ Diagonal → k ≡ kinds.Diagonal → true ≡ asked ask l
    diagonal_asked e g = rw (e, diagonal_number f g)

    pub ones_asked : {b : Bool} → ask ≡ Diagonal → (k ≡ kinds.Diagonal → ⊥) → b ≡ all (eqb 1) l.shape → b ≡ asked ask l
    ones_asked e g h = rw (e, ne_eqb l.kind 1 (not_diagonal f g)) h

    pub no_axes_asked : {d : ℕ} → ask ≡ DenseAxes d → k ≡ kinds.Dense → true ≡ asked ask l
    no_axes_asked e g = rw (e, dense_number f g)

    pub axes_asked : {d n : ℕ} → ask ≡ DenseAxes d → (k ≡ kinds.Dense → ⊥) → n ≡ l.dense → eqb n d ≡ asked ask l
    axes_asked e g h = rw (e, ne_eqb l.kind 0 (not_dense f g), h)

  module _ {axis common e : ℕ} (f : e ≡ get_or l.shape axis 1) (g : ask ≡ Stretches axis common) where
    pub one_asked : e ≡ 1 → true ≡ asked ask l
    one_asked h = rw (g, ← f, h)

    pub common_asked : (e ≡ 1 → ⊥) → eqb e common ≡ asked ask l
    common_asked h = rw (g, ← f, ne_eqb e 1 h)

  pub extent_asked : {axis v e : ℕ} → ask ≡ Extent axis e → v ≡ get_or l.shape axis 0 → eqb v e ≡ asked ask l
  extent_asked e f = rw (e, f)

-- a sound record has one of the three kinds
pub kind_few : (s : List ℤ) → sound s ≡ true → (layout_in s).kind ≤ 2
kind_few s e = (layout_sound s e).form.kind_most

pub ruleset asked_laws = (kind_few, within_asked, rank_asked, dense_asked, not_dense_asked, sparse_asked, not_sparse_asked, diagonal_asked, ones_asked, no_axes_asked, axes_asked, one_asked, common_asked, extent_asked)

-- ---- the layouts at n places

module _ {n : ℕ} {records : List ℕ} {s : List ℤ} (p : Inside n records s) where
  pub length_layouts : length (layouts_at n records s) ≡ n
  length_layouts = length-map (standing n records s) layout_in ∙ length_standing p

  -- the layout of the record that is lent there
  pub layout_at_lem : {i : ℕ} → i < n → layout_in (take (length s - get_or records i 0) (drop (get_or records i 0) s)) ≡ get_or (layouts_at n records s) i (layout_in [])
  layout_at_lem {i} h = ap layout_in (lent_at p h) ∙ sym (get_or-map layout_in (standing n records s) i [])

  -- none has been put to the test
  pub pass_start : {test : Layout → Bool} → Passed test n 0 (layouts_at n records s)
  pass_start = none_passed length_layouts

  module _ {test : Layout → Bool} {i : ℕ} {b : Bool} (q : Passed test n i (layouts_at n records s)) (h : i < n)
      (e : b ≡ test (layout_in (take (length s - get_or records i 0) (drop (get_or records i 0) s)))) where
    pub pass_turn : b ≡ true → Passed test n (i + 1) (layouts_at n records s)
    pass_turn f = one_more q (layout_in []) h (e ∙ ap test (layout_at_lem h)) f

    pub pass_stop : b ≡ false → false ≡ all test (layouts_at n records s)
    pass_stop f = one_fails q (layout_in []) h (e ∙ ap test (layout_at_lem h)) f

pub sound_at : {n : ℕ} {records : List ℕ} {s : List ℤ} → EachAt SoundAt n records s → {i : ℕ} → i < n →
    sound (take (length s - get_or records i 0) (drop (get_or records i 0) s)) ≡ true
sound_at p h = known_at SoundAt p h

pub ruleset pass_laws = (pass_start, pass_turn, pass_stop, all_passed, not-true, not-false, place_inside, place_fits, sound_at)

-- what is known at each place is known of each element
each_known : {A : Type 0} (P : A → Type 0) (d : A) {x : A} {l : List A} → ((i : ℕ) → i < length l → P (get_or l i d)) → Memᴰ x l → P x
each_known P d f (Memᴰ.head e) = subst P (sym e) (f 0 (omega arith))
each_known P d f (Memᴰ.tail m) = each_known P d (λ i h. f (suc i) (omega arith)) m

-- so the layouts are sound
layouts_sound : {n : ℕ} {records : List ℕ} {s : List ℤ} → EachAt SoundAt n records s → (l : Layout) → Memᴰ l (layouts_at n records s) → Sound l
layouts_sound {n} {records} {s} p l m =
    let t = Memᴰ.of_map layout_in (standing n records s) m in
    subst Sound t.2 (layout_sound t.0 (each_known SoundAt [] (λ i h. p.known i (rw (length_standing p.inside) at h)) t.1))

-- ---- the first one not dense

-- its D is not above the rank of all
pub first_within : {n : ℕ} {records : List ℕ} {s : List ℤ} {r d : ℕ} {b : Bool} → EachAt SoundAt n records s → d ≡ first_d (keep otherwise (layouts_at n records s)) →
    b ≡ all (asked (OfRank r)) (layouts_at n records s) → not b ≡ false → d ≤ r
first_within {n} {records} {s} {r} {d} {b} p e f g =
    let l : List Layout = layouts_at n records s in
    rw e (first_low r l (λ x m. omega (arith, (layouts_sound p x m).form.dense_most, eqb-true (rank x) r (all_each (asked (OfRank r)) (sym f ∙ not-false b g) x m))))

-- the first k layouts are dense
pub record DenseTo (n k : ℕ) (l : List Layout) : Type 0 where
  pub upto : k ≤ n
  pub size : length l ≡ n
  pub eq : first_d (keep otherwise l) ≡ first_d (keep otherwise (drop k l))

module _ {n : ℕ} {records : List ℕ} {s : List ℤ} where
  pub dense_start : Inside n records s → DenseTo n 0 (layouts_at n records s)
  dense_start p = record { upto = omega arith; size = length_layouts p; eq = refl }

  module _ {i : ℕ} {k : Kind} (p : Inside n records s) (q : DenseTo n i (layouts_at n records s)) (h : i < n)
      (e : k ≡ kind_of (layout_in (take (length s - get_or records i 0) (drop (get_or records i 0) s))).kind) where
    -- the next one decides, and those behind it
    next : first_d (keep otherwise (layouts_at n records s)) ≡ first_d (keep otherwise (get_or (layouts_at n records s) i (layout_in []) ∷ drop (suc i) (layouts_at n records s)))
    next = q.eq ∙ ap (λ (l : List Layout). first_d (keep otherwise l)) (drop-cons (layouts_at n records s) i (layout_in []) (omega (arith, q.size)))

    kind : k ≡ kind_of (get_or (layouts_at n records s) i (layout_in [])).kind
    kind = e ∙ ap (λ (l : Layout). kind_of l.kind) (layout_at_lem p h)

    pub dense_turn : k ≡ kinds.Dense → DenseTo n (i + 1) (layouts_at n records s)
    unfolding keep
    dense_turn f = record { upto = omega arith; size = q.size; eq = rw add-one (rw (dense_number kind f) at next) }

    pub dense_stop : (k ≡ kinds.Dense → ⊥) → {d : ℕ} → d ≡ (layout_in (take (length s - get_or records i 0) (drop (get_or records i 0) s))).dense →
        d ≡ first_d (keep otherwise (layouts_at n records s))
    unfolding keep first_d
    dense_stop f g = g ∙ ap (λ (l : Layout). l.dense) (layout_at_lem p h) ∙ sym (rw (ne_eqb _ 0 (not_dense kind f)) at next)

  pub dense_done : {i : ℕ} → Inside n records s → DenseTo n i (layouts_at n records s) → n ≤ i → 0 ≡ first_d (keep otherwise (layouts_at n records s))
  unfolding keep first_d
  dense_done {i} p q h = sym (q.eq ∙ rw (drop_of_length-le (layouts_at n records s) {i = i} (omega (arith, q.size))))

pub ruleset first_laws = (dense_start, dense_turn, dense_stop, dense_done, place_inside, place_fits, sound_at)
