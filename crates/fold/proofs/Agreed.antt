-- The common shape of judged records. Assumes nothing.
use Rattle.std.specs.Prelude.{None, Option, Some}
use Rattle.rules.specs.declared.Head.{Head}
use mathlib.Core.Path.{◌≡◌, refl, ap}
use mathlib.Core.List.{List, [], ◌∷◌, map}
use Prim.Native.Nat.{ℕ, suc, ◌<◌}
use native.Mathlib.Omega.{arith}
use lib.IntN.{ℤ, pos}
use lib.ListN.{length, get_or, drop, get_or-map}
use lib.Seq.{drop-nil}
use Rattle.rules.specs.Record.{walk, layout_in, shape_in}
use Rattle.rules.specs.Shapes.{broadcast_shapes}
use Rattle.lookups.proofs.SoundRecords.{shape_shown, shape_judged}
use Rattle.shapes.specs.Judged.{Judged}
use Rattle.shapes.proofs.Fitting.{four_numbers}
use Rattle.lists.specs.Places.{standing, EachAt, PlacesOf}
use Rattle.lists.specs.Asked.{shapes_at}
use Rattle.lists.specs.Records.{JudgedRecord}
use Rattle.lists.proofs.Beginning.{length_standing}
use Rattle.fold.specs.Stretched.{ShapeIs, common_of}
use Rattle.fold.proofs.Bringing.{judged_head, judged_walks}

-- ---- the shapes of records

-- the shape of a judged record stands behind its second number
module _ {s : List ℤ} (j : JudgedRecord s) where
  record_shape : (shape_in (drop 2 s) ≡ (layout_in s).shape) × Judged (drop 2 s)
  record_shape = by (walk s) refl
    where
      by : (w : Option Head) → w ≡ walk s → (shape_in (drop 2 s) ≡ (layout_in s).shape) × Judged (drop 2 s)
      by (Some h) e = (shape_shown (judged_head j e refl), shape_judged (judged_head j e refl))
      by None e = absurd (judged_walks j e refl)

all_shapes : (l : List (List ℤ)) → ((i : ℕ) → i < length l → JudgedRecord (get_or l i [])) → map shape_in (map (drop 2) l) ≡ map (λ x. x.shape) (map layout_in l)
all_shapes [] p = refl
all_shapes (s ∷ l) p = rw ((record_shape (p 0 (omega arith))).0, all_shapes l (λ i h. p (suc i) (omega arith)))

module _ {n : ℕ} {places : List ℕ} {s : List ℤ} (k : EachAt JudgedRecord n places s) {q : ℕ} {shapes : List ℕ} (m : PlacesOf (map (drop 2) (standing n places s)) q s shapes) (e : q ≡ n) where
  pub shapes_judged : EachAt Judged q shapes s
  shapes_judged = record { inside = m.inside; known = λ i h. rw (there i) (record_shape (k.known i (omega arith))).1 }
    where
      there : (i : ℕ) → get_or (standing q shapes s) i [] ≡ drop 2 (get_or (standing n places s) i [])
      there i = rw m.begin (rw drop-nil at (get_or-map (drop 2) (standing n places s) i []))

  pub shapes_are : broadcast_shapes (shapes_at q shapes s) ≡ common_of n places s
  shapes_are = ap broadcast_shapes (rw m.begin (all_shapes (standing n places s) (λ i h. k.known i (rw (length_standing k.inside) at h))))

-- ---- a shape as slices hold it

pub shape_is : (rank : ℕ) (e : List ℕ) {a b c d : ℤ} → length e ≡ 4 → a ≡ pos (get_or e 0 0) → b ≡ pos (get_or e 1 0) → c ≡ pos (get_or e 2 0) → d ≡ pos (get_or e 3 0) →
    ShapeIs rank e (record { rank = rank; extents = a ∷ b ∷ c ∷ d ∷ [] })
shape_is rank e l p q r u = record { rank_is = refl; extents_are = rw (p, q, r, u) (ap (map pos) (four_numbers e l)) }
