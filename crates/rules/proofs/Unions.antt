-- Which answer `union` gives of two sound layouts, case by case. Assumes nothing.
use mathlib.Core.Path.{◌≡◌, refl, ap, ◌∙◌, subst}
use mathlib.Core.Bool.{Bool, true, false, not, ◌&&◌, ◌||◌}
use mathlib.Core.List.{List, [], ◌∷◌, ◌++◌}
use Prim.Native.Nat.{ℕ, ◌≤◌}
use native.Mathlib.Omega.{arith}
use borrow.Author.Tests.{leb-false, lt-leb, eqb-false}
use lib.ListN.{length}
use Rattle.rules.specs.Lists.{same}
use Rattle.rules.specs.RowsInOrder.{merge}
use Rattle.rules.specs.Refusals.{Verdict, given, refused, ◌then◌, ◌when◌, lowest}
use Rattle.rules.specs.Layout.{Layout, rank, is_dense, few, with_deps, made}
use Rattle.rules.specs.Soundness.{Sound}
use Rattle.rules.specs.CountsAndForms.{to_dense}
use Rattle.rules.specs.Removal.{lists_row}
use Rattle.rules.specs.Pairs.{with_merged, alike_diagonals, lowered, lower_d, bars_expansion}
use Rattle.rules.specs.Union.{joined, union_of_rows, union}
use Rattle.rules.proofs.Same.{neither, true_not_false, same_true}
use Rattle.rules.proofs.Sets.{each_append}
use Rattle.rules.proofs.Sorting.{sorted_each, sorted_sorted}
use Rattle.rules.proofs.Merging.{merge_length_left, merge_length_right}
use Rattle.rules.proofs.ToRows.{CombinedBy, shapes_disagree, one_dense, two_diagonals, neither_dense, union_by}
use Rattle.rules.proofs.Once.{Once, once_distinct}
use Rattle.rules.proofs.Made.{few_or, Formed, sound_formed, formed_made, made_sound, formed_merged}
use Rattle.rules.proofs.Forming.{sound_framed, to_dense_framed}
use Rattle.rules.proofs.Lowering.{Lowered, lowered_is}

-- no refusal is an answer
pub never : {A : Type 0} {n : ℕ} {x : A} → refused n ≡ given x → ⊥
never e = let z : ◌≡◌ {A = ℕ} 0 1 = cc in omega arith

-- ---- layouts that are made

-- the dense layout of a sound one is formed
pub dense_formed : {l : Layout} → Sound l → Formed (to_dense l)
dense_formed s = to_dense_framed (sound_framed s)

-- the rows of two layouts of one shape and D joined are formed, with the dependencies of a sound one
pub joined_formed : {a b x y : Layout} {d : ℕ} → Sound a → a.shape ≡ b.shape → d ≤ a.dense → Lowered a x d → Lowered b y d →
    Formed (with_deps a.states a.inputs (joined x y))
joined_formed {a} {b} {x} {y} {d} s e h p q = record {
  form = record {
    kind_most = omega arith;
    dense_most = rw (p.dense_is, p.shape_is) (omega arith);
    rank_most = rw p.shape_is s.form.rank_most;
    sparse_rows = λ n. absurd (n refl);
    rows_distinct = ap length (sorted_sorted (x.rows ++ y.rows));
    row_lengths = rw (p.dense_is, p.shape_is) (sorted_each (each_append p.row_lengths (rw e q.row_lengths)));
    rows_lie_below = rw p.shape_is (sorted_each (each_append p.rows_lie_below (rw e q.rows_lie_below)));
    dense_all = λ k. absurd (omega arith);
    diagonal_wide = λ k. absurd (omega arith);
    diagonal_alike = λ k. absurd (omega arith);
    states_fit = record { lengths = rw p.shape_is s.form.states_fit.lengths; increase = s.form.states_fit.increase };
    inputs_fit = record { lengths = rw p.shape_is s.form.inputs_fit.lengths; increase = s.form.inputs_fit.increase };
  };
  product_most = rw p.shape_is s.sizes.product_most;
  states_small = rw p.shape_is s.sizes.states_small;
  inputs_small = rw p.shape_is s.sizes.inputs_small;
}

-- ---- how many rows are joined

-- joined, rows that do not come again pass the limit where those of one list do
few_joined : {x y : List (List ℕ)} → Once x → Once y → few x && few y ≡ false → few (merge x y) ≡ false
few_joined {x} {y} p q e = go (few x) (few y) refl refl e
  where
    left : length x ≤ length (merge x y)
    left = rw (once_distinct p) at (merge_length_left x y)

    right : length y ≤ length (merge x y)
    right = rw (once_distinct q) at (merge_length_right x y)

    go : (s t : Bool) → few x ≡ s → few y ≡ t → s && t ≡ false → few (merge x y) ≡ false
    go true true f g h = absurd (true_not_false refl h)
    go true false f g h = lt-leb (length (merge x y)) 128 (omega (arith, leb-false (length y) 128 g, right))
    go false t f g h = lt-leb (length (merge x y)) 128 (omega (arith, leb-false (length x) 128 f, left))

-- ---- the answer, case by case

-- shapes disagree: 6
pub union_shapes : (a b : Layout) → same a.shape b.shape ≡ false → union a b ≡ refused 6
unfolding union lowest
union_shapes a b e = rw e

module _ {a b : Layout} (p : Sound a) (q : Sound b) (e : same a.shape b.shape ≡ true) where
  -- the ranks are equal
  ranks : rank a ≡ rank b
  ranks = ap length (same_true e)

  -- one of them is dense: so is the union
  pub union_dense : is_dense a || is_dense b ≡ true → union a b ≡ few_or (with_merged a b (to_dense a))
  unfolding union lowest to_dense
  union_dense f = rw (e, f) (formed_made (formed_merged p q refl ranks (dense_formed p)))

  -- two diagonals with equal D: so is the union
  pub union_diagonals : is_dense a || is_dense b ≡ false → alike_diagonals a b ≡ true → union a b ≡ few_or (with_merged a b a)
  unfolding union lowest
  union_diagonals f g = rw (e, f, g) (formed_made (formed_merged p q refl ranks (sound_formed p)))

  -- otherwise the rows are joined
  by_rows_lem : is_dense a || is_dense b ≡ false → alike_diagonals a b ≡ false → union a b ≡ union_of_rows a b
  unfolding union lowest
  by_rows_lem f g = rw (e, f, g)

  -- a diagonal with dense axes does not expand: 11
  pub union_bars : is_dense a || is_dense b ≡ false → alike_diagonals a b ≡ false →
      bars_expansion a || bars_expansion b ≡ true → union a b ≡ refused 11
  unfolding union_of_rows lowest
  union_bars f g h = rw (by_rows_lem f g, h)

  -- a row is listed while the new D is above 0: 12
  pub union_lists : is_dense a || is_dense b ≡ false → alike_diagonals a b ≡ false →
      bars_expansion a || bars_expansion b ≡ false → lists_row a (lower_d a b) || lists_row b (lower_d a b) ≡ true → union a b ≡ refused 12
  unfolding union_of_rows lowest
  union_lists f g h i = rw (by_rows_lem f g, h, i)

  -- the rows of both, lowered to the smaller D, joined
  pub union_rows : is_dense a || is_dense b ≡ false → alike_diagonals a b ≡ false →
      bars_expansion a || bars_expansion b ≡ false → lists_row a (lower_d a b) || lists_row b (lower_d a b) ≡ false →
      union a b ≡ few_or (with_merged a b (joined (lowered a (lower_d a b)) (lowered b (lower_d a b))))
  unfolding union_of_rows lowest
  union_rows f g h i = rw (by_rows_lem f g, h, i) (judged (few x.rows && few y.rows) refl)
    where
      x : Layout
      x = lowered a (lower_d a b)

      y : Layout
      y = lowered b (lower_d a b)

      plain : (is_dense a ≡ false) × (is_dense b ≡ false)
      plain = neither (is_dense a) (is_dense b) f

      free : (bars_expansion a ≡ false) × (bars_expansion b ≡ false)
      free = neither (bars_expansion a) (bars_expansion b) h

      bare : (lists_row a (lower_d a b) ≡ false) × (lists_row b (lower_d a b) ≡ false)
      bare = neither (lists_row a (lower_d a b)) (lists_row b (lower_d a b)) i

      left : Lowered a x (lower_d a b)
      left = lowered_is p.form (eqb-false a.kind 0 plain.0) (omega arith) free.0 bare.0

      right : Lowered b y (lower_d a b)
      right = lowered_is q.form (eqb-false b.kind 0 plain.1) (omega arith) free.1 bare.1

      judged : (t : Bool) → few x.rows && few y.rows ≡ t →
          (lowest (13 when not t ∷ []) then λ _. made (with_merged a b (joined x y))) ≡ few_or (with_merged a b (joined x y))
      judged true k = formed_made (formed_merged p q (ap length left.shape_is) (ap length left.shape_is ∙ ranks) (joined_formed p (same_true e) (omega arith) left right))
      judged false k = rw (few_joined left.rows_once right.rows_once k)

-- ---- what is given

-- what a union is made of, but for its dependencies: a dense one, two diagonals with equal D, or rows
pub data United (a b : Layout) : Layout → Type 0 where
  of_dense : is_dense a || is_dense b ≡ true → United a b (to_dense a)
  of_diagonals : alike_diagonals a b ≡ true → United a b a
  of_rows : is_dense a || is_dense b ≡ false → bars_expansion a || bars_expansion b ≡ false → lists_row a (lower_d a b) || lists_row b (lower_d a b) ≡ false →
      United a b (joined (lowered a (lower_d a b)) (lowered b (lower_d a b)))

-- the shapes are equal, and what it is made of was made with the merged dependencies
pub record Gives (a b l : Layout) : Type 0 where
  pub shapes : a.shape ≡ b.shape
  pub whole : Layout
  pub united : United a b whole
  pub was_made : made (with_merged a b whole) ≡ given l

-- an answer of `union` is such
pub union_gives : (a b : Layout) {l : Layout} → union a b ≡ given l → Gives a b l
unfolding union_of_rows lowest
union_gives a b {l} e = go (union_by a b) e
  where
    d : ℕ
    d = lower_d a b

    rows : Layout
    rows = joined (lowered a d) (lowered b d)

    by_rows_lem : a.shape ≡ b.shape → is_dense a || is_dense b ≡ false → (s t u : Bool) → bars_expansion a || bars_expansion b ≡ s → lists_row a d || lists_row b d ≡ t →
        (lowest (11 when s ∷ 12 when t ∷ 13 when u ∷ []) then λ _. made (with_merged a b rows)) ≡ given l → Gives a b l
    by_rows_lem k f true t u g h e = absurd (never e)
    by_rows_lem k f false true u g h e = absurd (never e)
    by_rows_lem k f false false true g h e = absurd (never e)
    by_rows_lem k f false false false g h e = record { shapes = k; whole = rows; united = of_rows f g h; was_made = e }

    go : {v : Verdict Layout} → CombinedBy a b (made (with_merged a b (to_dense a))) (union_of_rows a b) v → v ≡ given l → Gives a b l
    go (shapes_disagree k) e = absurd (never e)
    go (one_dense k f) e = record { shapes = k; whole = to_dense a; united = of_dense f; was_made = e }
    go (two_diagonals k g) e = record { shapes = k; whole = a; united = of_diagonals g; was_made = e }
    go (neither_dense k f g) e =
        by_rows_lem k f (bars_expansion a || bars_expansion b) (lists_row a d || lists_row b d) (not (few (lowered a d).rows && few (lowered b d).rows)) refl refl e

-- an answer is sound
pub union_sound : (a b : Layout) {l : Layout} → union a b ≡ given l → Sound l
union_sound a b e =
    let s = made_sound (union_gives a b e).was_made in
    subst Sound s.0 s.1
