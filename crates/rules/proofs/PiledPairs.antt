-- The union and the intersection of two layouts of a pile: which is given, that it belongs to the pile, and what is refused.
-- Assumes nothing.
use mathlib.Core.Path.{◌≡◌, refl, sym, ◌∙◌, subst}
use mathlib.Core.Bool.{Bool, true, false, not, ◌&&◌}
use mathlib.Core.List.{List, ◌++◌}
use Prim.Native.Nat.{ℕ, ◌≤◌}
use native.Mathlib.Omega.{arith}
use borrow.Author.Tests.{leb-true, le-leb, not-true, not-false}
use lib.Dec.{eqb}
use lib.ListN.{length}
use Rattle.rules.specs.Limits.{entry_limit}
use Rattle.rules.specs.Lists.{if, keep, product}
use Rattle.rules.specs.RowsInOrder.{among, sorted, merge}
use Rattle.rules.specs.Refusals.{Verdict, given, refused, lowest}
use Rattle.rules.specs.Layout.{Layout, is_sparse, few}
use Rattle.rules.specs.Dependencies.{filter_deps, bars_filter}
use Rattle.rules.specs.CountsAndForms.{to_dense, dense_if_full, dense}
use Rattle.rules.specs.Removal.{lists_row}
use Rattle.rules.specs.Pairs.{lowered}
use Rattle.rules.specs.Union.{union_of_rows, union}
use Rattle.rules.specs.Intersect.{with_dense, intersect_of_rows, intersect}
use Rattle.rules.proofs.Same.{same_refl, true_not_false}
use Rattle.rules.proofs.Sets.{each_append}
use Rattle.rules.proofs.Sorting.{sorted_increasing, sorted_each, sorted_length}
use Rattle.rules.proofs.Keeping.{keep_only, keep_length}
use Rattle.rules.proofs.Made.{formed_made}
use Rattle.rules.proofs.Forming.{sound_given}
use Rattle.rules.proofs.Unions.{never}
use Rattle.rules.proofs.Piled.{Good, Ordered, listing, Form, whole, listed, Piled, whole_sound, listed_formed, listed_sound}

-- ---- rows of both

-- the rows of the first that are among the second, sorted
abbrev shared : List (List ℕ) → List (List ℕ) → List (List ℕ)
shared r s = sorted (keep (λ x. among x s) r)

module _ {shape : List ℕ} {r s : List (List ℕ)} (x : Ordered shape r) (y : Ordered shape s) where
  -- merged, they are in order
  ordered_merged : Ordered shape (merge r s)
  ordered_merged = record {
    increase = sorted_increasing (r ++ s);
    lengths = sorted_each (each_append x.lengths y.lengths);
    below = sorted_each (each_append x.below y.below);
  }

  -- and so are those that they share
  ordered_shared : Ordered shape (shared r s)
  ordered_shared = record {
    increase = sorted_increasing (keep (λ q. among q s) r);
    lengths = sorted_each (λ q m. x.lengths q (keep_only (λ q. among q s) r q m));
    below = sorted_each (λ q m. x.below q (keep_only (λ q. among q s) r q m));
  }

-- those that they share are not more than those of the first
shared_few : (r s : List (List ℕ)) → length r ≤ entry_limit → length (shared r s) ≤ entry_limit
shared_few r s h = omega (arith, sorted_length (keep (λ q. among q s) r), keep_length (λ q. among q s) r)

-- ---- the answers, form by form

module _ {shape : List ℕ} (g : Good shape) where
  union_whole_whole : union (dense shape) (dense shape) ≡ given (dense shape)
  unfolding union lowest to_dense dense sorted
  union_whole_whole = rw (same_refl shape) (sound_given (whole_sound g))

  union_whole_listed : (s : List (List ℕ)) → union (dense shape) (listing shape s) ≡ given (dense shape)
  unfolding union lowest to_dense dense sorted
  union_whole_listed s = rw (same_refl shape) (sound_given (whole_sound g))

  union_listed_whole : (r : List (List ℕ)) → union (listing shape r) (dense shape) ≡ given (dense shape)
  unfolding union lowest to_dense dense sorted
  union_listed_whole r = rw (same_refl shape) (sound_given (whole_sound g))

  intersect_whole_whole : intersect (dense shape) (dense shape) ≡ given (dense shape)
  unfolding intersect with_dense lowest dense sorted filter_deps bars_filter keep
  intersect_whole_whole = rw (same_refl shape) (sound_given (whole_sound g))

  module _ {r : List (List ℕ)} (x : Ordered shape r) (m : length r ≤ entry_limit) where
    intersect_whole_listed : intersect (dense shape) (listing shape r) ≡ given (listing shape r)
    unfolding intersect with_dense lowest dense sorted filter_deps bars_filter keep
    intersect_whole_listed = rw (same_refl shape) (sound_given (listed_sound g x m))

    intersect_listed_whole : intersect (listing shape r) (dense shape) ≡ given (listing shape r)
    unfolding intersect with_dense lowest dense sorted filter_deps bars_filter keep
    intersect_listed_whole = rw (same_refl shape) (sound_given (listed_sound g x m))

    module _ {s : List (List ℕ)} (y : Ordered shape s) (n : length s ≤ entry_limit) where
      union_listed_listed : union (listing shape r) (listing shape s) ≡ if (few (merge r s)) (given (listing shape (merge r s))) (refused 13)
      unfolding union union_of_rows lowered lists_row lowest sorted
      union_listed_listed =
          rw (same_refl shape, le-leb (length r) entry_limit m, le-leb (length s) entry_limit n, formed_made (listed_formed g (ordered_merged x y)))
          (counted (few (merge r s)))
        where
          counted : (b : Bool) → (if (b && true && true) (given (listing shape (merge r s))) (refused 13))
              ≡ if b (given (listing shape (merge r s))) (refused 13)
          counted true = refl
          counted false = refl

      intersect_listed_listed : intersect (listing shape r) (listing shape s) ≡ given (dense_if_full (listing shape (shared r s)))
      unfolding intersect intersect_of_rows lowered lists_row lowest sorted filter_deps bars_filter keep
      intersect_listed_listed =
          rw (same_refl shape, le-leb (length r) entry_limit m, le-leb (length s) entry_limit n, sound_given (listed_sound g (ordered_shared x y) (shared_few r s m)))

-- ---- the union

-- both are sparse, and their rows together are more than 128
abbrev pub overfull : Layout → Layout → Bool
overfull a b = is_sparse a && is_sparse b && not (few (merge a.rows b.rows))

-- an answer that belongs to the pile
abbrev pub GivenIn : List ℕ → Verdict Layout → Type 0
GivenIn shape v = (l : Layout) × (v ≡ given l) × Piled shape l

-- what is given then is that answer
answer_piled : {shape : List ℕ} {v : Verdict Layout} → GivenIn shape v → {l : Layout} → v ≡ given l → Piled shape l
answer_piled {shape} (x, e, p) {l} u = let one : x ≡ l = cc (sym e ∙ u) in subst (Piled shape) one p

module _ {shape : List ℕ} {a b : Layout} (p : Piled shape a) (q : Piled shape b) where
  g : Good shape
  g = p.good

  -- the dense layout of the shape belongs to the pile
  dense_piled : Piled shape (dense shape)
  dense_piled = record { good = g; form = whole refl }

  -- rows of the shape in order do
  listing_piled : {r : List (List ℕ)} → Ordered shape r → length r ≤ entry_limit → Piled shape (listing shape r)
  listing_piled {r} x m = record { good = g; form = listed r x m refl }

  -- the union of two layouts of a pile is given, and one of the pile, unless they are overfull
  pub union_given : overfull a b ≡ false → GivenIn shape (union a b)
  union_given e = by p.form q.form
    where
      by : Form shape a → Form shape b → GivenIn shape (union a b)
      by (whole f) (whole h) = (dense shape, rw (f, h) (union_whole_whole g), dense_piled)
      by (whole f) (listed s y n h) = (dense shape, rw (f, h) (union_whole_listed g s), dense_piled)
      by (listed r x m f) (whole h) = (dense shape, rw (f, h) (union_listed_whole g r), dense_piled)
      by (listed r x m f) (listed s y n h) =
          let fit : few (merge r s) ≡ true = not-false (few (merge r s)) (rw (f, h) at e) in
          (listing shape (merge r s), rw (f, h) (union_listed_listed g x m y n ∙ rw fit), listing_piled (ordered_merged x y) (leb-true (length (merge r s)) entry_limit fit))

  -- of two that are overfull it is refused with 13
  pub union_over : overfull a b ≡ true → union a b ≡ refused 13
  unfolding dense
  union_over e = by p.form q.form
    where
      by : Form shape a → Form shape b → union a b ≡ refused 13
      by (whole f) h = absurd (true_not_false (rw f at e) refl)
      by (listed r x m f) (whole h) = absurd (true_not_false (rw (f, h) at e) refl)
      by (listed r x m f) (listed s y n h) =
          let over : few (merge r s) ≡ false = not-true (few (merge r s)) (rw (f, h) at e) in
          rw (f, h) (union_listed_listed g x m y n ∙ rw over)

  -- their intersection is given, and one of the pile
  pub intersection_given : GivenIn shape (intersect a b)
  unfolding dense_if_full to_dense dense
  intersection_given = by p.form q.form
    where
      by : Form shape a → Form shape b → GivenIn shape (intersect a b)
      by (whole f) (whole h) = (dense shape, rw (f, h) (intersect_whole_whole g), dense_piled)
      by (whole f) (listed s y n h) = (listing shape s, rw (f, h) (intersect_whole_listed g y n), listing_piled y n)
      by (listed r x m f) (whole h) = (listing shape r, rw (f, h) (intersect_listed_whole g x m), listing_piled x m)
      by (listed r x m f) (listed s y n h) =
          (dense_if_full (listing shape (shared r s)), rw (f, h) (intersect_listed_listed g x m y n), full (eqb (length (shared r s)) (product shape)))
        where
          full : (t : Bool) → Piled shape (if t (dense shape) (listing shape (shared r s)))
          full true = dense_piled
          full false = listing_piled (ordered_shared x y) (shared_few r s m)

  -- a union that is given belongs to the pile
  pub union_piled : {l : Layout} → union a b ≡ given l → Piled shape l
  union_piled {l} u = go (overfull a b) refl
    where
      go : (t : Bool) → overfull a b ≡ t → Piled shape l
      go true e = absurd (never (sym (union_over e) ∙ u))
      go false e = answer_piled (union_given e) u

  -- so does an intersection
  pub intersection_piled : {l : Layout} → intersect a b ≡ given l → Piled shape l
  intersection_piled u = answer_piled intersection_given u
