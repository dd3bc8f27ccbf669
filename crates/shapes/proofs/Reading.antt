-- What the sign of a number says of what is judged by the number. Assumes nothing.
use Rattle.std.specs.Prelude.{None, Option, Some}
use mathlib.Core.Path.{◌≡◌, refl, sym, ap, ◌∙◌}
use mathlib.Core.Bool.{Bool, true, false, not, ◌&&◌}
use mathlib.Core.List.{List, [], ◌∷◌}
use Prim.Native.Nat.{ℕ, zero, suc, ◌*◌, ◌<◌, ◌≤◌}
use native.Mathlib.Nat.{lt_of_le_of_lt, mul-le-mul}
use native.Mathlib.Omega.{arith}
use borrow.Author.Tests.{lt-ltb, le-ltb, le-leb, lt-leb, leb-true, leb-false, eq-eqb, ne_eqb, eqb-true, not-true, not-false}
use lib.Dec.{ltb, leb, eqb, lit<}
use lib.IntN.{ℤ, pos, negsuc}
use lib.ListN.{length, get_or, get_or-eq_default, get_or-map, length-map}
use lib.Seq.{take_all}
use lib.Signed.{non_neg}
use mir.Syntax.{w32, w64}
use mir.Val.{Fits, SFits, to_z, of_z}
use mir.ValLaws.{to_z-of_z}
use Rattle.rules.specs.Limits.{rank_limit, list_limit, component_limit, result_size}
use Rattle.rules.specs.Lists.{all}
use Rattle.rules.specs.Buffers.{part}
use Rattle.rules.specs.RowsInOrder.{cmp_rows}
use Rattle.rules.specs.Record.{natural, naturals, list_count}
use Rattle.rules.specs.Arguments.{up_to, over_count, good_components, good_index}
use Rattle.rules.specs.Lookup.{good_indices}
use Rattle.rules.proofs.RowsRead.{pos_naturals}
use Rattle.rules.proofs.Same.{both_true, true_not_false}
use Rattle.cells.specs.View.{view, Low, sign_of}
use Rattle.cells.proofs.View.{view_length, view_pos}
use Rattle.tables.specs.Rows.{row_at, HasRow}
use Rattle.records.proofs.Naturals.{naturals_view}
use Rattle.records.proofs.Numbers.{natural_passes, negative_fails}
use Rattle.records.proofs.Sections as sections
use Rattle.shapes.specs.Judged.{comparable_indices}

-- a number is above a limit where it is not up to it
above_limit : (limit n : ℕ) (t : Bool) → leb n limit ≡ t → ltb limit n ≡ not (leb n limit)
above_limit limit n true e = rw (e, le-ltb limit n (leb-true n limit e))
above_limit limit n false e = rw (e, lt-ltb limit n (leb-false n limit e))

-- what is judged of a number that was read as negative
module _ (z : ℤ) (e : sign_of z ≡ None) where
  none_natural : 0 ≡ natural z
  unfolding sign_of natural
  none_natural = by z e
    where
      by : (y : ℤ) → sign_of y ≡ None → 0 ≡ natural y
      by (pos n) f = cc
      by (negsuc n) f = refl

  pub none_up_to : (limit : ℕ) → false ≡ up_to limit z
  unfolding sign_of up_to
  none_up_to limit = by z e
    where
      by : (y : ℤ) → sign_of y ≡ None → false ≡ up_to limit y
      by (pos n) f = cc
      by (negsuc n) f = refl

  none_listed : 0 ≡ list_count z
  unfolding sign_of list_count
  none_listed = by z e
    where
      by : (y : ℤ) → sign_of y ≡ None → 0 ≡ list_count y
      by (pos n) f = cc
      by (negsuc n) f = refl

-- a number that was handed over is the one that was read
pub handed_over : {g : (Option ℕ)} (z : ℤ) → SFits w32 z → g ≡ sign_of (to_z w32 (of_z w32 z)) → g ≡ sign_of z
handed_over z h e = e ∙ ap sign_of (to_z-of_z w32 z h)

-- nothing stands past the end
pub nothing_there : (s : List ℤ) (i : ℕ) → length s ≤ i → 0 ≡ natural (get_or s i (pos 0))
unfolding natural
nothing_there s i h = rw (get_or-eq_default s (pos 0) h)

-- and nothing is within every limit
pub nothing_up_to : (limit : ℕ) (s : List ℤ) (i : ℕ) → length s ≤ i → true ≡ up_to limit (get_or s i (pos 0))
unfolding up_to
nothing_up_to limit s i h = rw (get_or-eq_default s (pos 0) h, le-leb 0 limit (omega arith))

module _ {g : (Option ℕ)} (z : ℤ) (e : g ≡ sign_of z) where
  pub as_natural : {n : ℕ} → g ≡ Some n → n ≡ natural z
  unfolding natural
  as_natural f = rw (sections.sign_natural z (sym e ∙ f))

  pub as_nothing : g ≡ None → 0 ≡ natural z
  as_nothing f = none_natural z (sym e ∙ f)

  pub as_over : {n : ℕ} → g ≡ Some n → ltb list_limit n ≡ over_count z
  unfolding up_to
  as_over {n} f = rw (sections.sign_natural z (sym e ∙ f)) (above_limit list_limit n (leb n list_limit) refl)

  pub as_over_negative : g ≡ None → true ≡ over_count z
  as_over_negative f = ap not (none_up_to z (sym e ∙ f) list_limit)

  pub as_count : {n : ℕ} → g ≡ Some n → n ≤ list_limit → n ≡ list_count z
  unfolding list_count
  as_count {n} f h = rw (sections.sign_natural z (sym e ∙ f), le-leb n list_limit h)

  pub as_no_count : {n : ℕ} → g ≡ Some n → list_limit < n → 0 ≡ list_count z
  unfolding list_count
  as_no_count {n} f h = rw (sections.sign_natural z (sym e ∙ f), lt-leb n list_limit h)

  pub as_negative_count : g ≡ None → 0 ≡ list_count z
  as_negative_count f = none_listed z (sym e ∙ f)

  pub as_up_to : (limit : ℕ) {n : ℕ} → g ≡ Some n → leb n limit ≡ up_to limit z
  unfolding up_to
  as_up_to limit f = rw (sections.sign_natural z (sym e ∙ f))

  pub as_not_up_to : (limit : ℕ) → g ≡ None → false ≡ up_to limit z
  as_not_up_to limit f = none_up_to z (sym e ∙ f) limit

pub ruleset reading = (sections.size_natural, handed_over, nothing_there, as_natural, as_nothing, as_over, as_over_negative, as_count, as_no_count, as_negative_count, nothing_up_to, as_up_to, as_not_up_to)

-- the sign of a number that was handed over says whether it is natural
pub sign_natural : {g : (Option ℕ)} (z : ℤ) {n : ℕ} → g ≡ sign_of z → g ≡ Some n → non_neg z ≡ true
sign_natural z e f = natural_passes z (sym e ∙ f)

pub sign_negative : {g : (Option ℕ)} (z : ℤ) → g ≡ sign_of z → g ≡ None → non_neg z ≡ false
sign_negative z e f = negative_fails z (sym e ∙ f)

-- ---- a list of numbers read as natural ones

-- the same as its view where none is negative
pub view_natural : (s : List ℤ) → all non_neg s ≡ true → view s ≡ naturals s
view_natural s e = ap view (sym (pos_naturals s e)) ∙ view_pos (naturals s)

pub length_naturals : (s : List ℤ) → length (naturals s) ≡ length s
length_naturals s = length-map s natural

pub natural_get_or : (s : List ℤ) (i : ℕ) → get_or (naturals s) i 0 ≡ natural (get_or s i (pos 0))
unfolding natural
natural_get_or s i = get_or-map natural s i (pos 0)

module _ (s : List ℤ) (k : ℕ) where
  pub inside_naturals : k < length s → k < length (naturals s)
  inside_naturals h = rw (length_naturals s) h

  pub past_naturals : length s ≤ k → length (naturals s) ≤ k
  past_naturals h = rw (length_naturals s) h

  pub natural_there : {n : ℕ} → n ≡ natural (get_or s k (pos 0)) → n ≡ get_or (naturals s) k 0
  natural_there e = e ∙ sym (natural_get_or s k)

pub ruleset in_naturals = (inside_naturals, past_naturals, natural_there)

-- ---- judged indices

module _ (s : List ℤ) (n : ℕ) where
  pub index_length : (length s ≡ n → ⊥) → false ≡ good_index s n
  index_length h = rw (ne_eqb (length s) n h)

  pub index_components : {b : Bool} → length s ≡ n → b ≡ good_components s → b ≡ good_index s n
  index_components h e = rw (eq-eqb (length s) n h) e

module _ (s : List ℤ) (n r : ℕ) where
  pub indices_many : result_size < n → false ≡ good_indices (pos n) s r
  unfolding good_indices up_to
  indices_many h = rw (lt-leb n result_size h)

  pub indices_fit : n ≤ result_size → r ≤ 4 → Fits w64 (n * r)
  indices_fit h k = record { fits = lt_of_le_of_lt (mul-le-mul h k) (lit< tt) }

  module _ (h : n ≤ result_size) where
    pub indices_length : (length s ≡ n * r → ⊥) → false ≡ good_indices (pos n) s r
    unfolding good_indices up_to natural
    indices_length d = rw (le-leb n result_size h, ne_eqb (length s) (n * r) d)

    pub indices_components : {b : Bool} → length s ≡ n * r → b ≡ good_components s → b ≡ good_indices (pos n) s r
    unfolding good_indices up_to natural
    indices_components e g = rw (le-leb n result_size h, eq-eqb (length s) (n * r) e) g

module _ (a b : List ℤ) where
  pub pair_lengths : (length a ≡ length b → ⊥) → false ≡ comparable_indices a b
  pair_lengths h = rw (ne_eqb (length a) (length b) h)

  module _ (l : length a ≡ length b) where
    pub pair_long : 4 < length a → false ≡ comparable_indices a b
    pair_long h = rw (eq-eqb (length a) (length b) l, lt-leb (length a) 4 h)

    module _ {t : Bool} (h : length a ≤ 4) (e : t ≡ good_components a) where
      pub pair_first : t ≡ false → false ≡ comparable_indices a b
      pair_first f = rw (eq-eqb (length a) (length b) l, le-leb (length a) 4 h, ← e, f)

      pub pair_second : {u : Bool} → t ≡ true → u ≡ good_components b → u ≡ comparable_indices a b
      pair_second f g = rw (eq-eqb (length a) (length b) l, le-leb (length a) 4 h, ← e, f) g

pub ruleset indices = (index_length, index_components, indices_many, indices_fit, indices_length, indices_components, pair_lengths, pair_long, pair_first, pair_second, not-true, not-false)

-- components are small
pub components_small : (s : List ℤ) → good_components s ≡ true → (k : ℕ) → get_or (view s) k 0 ≤ 65535
unfolding good_components all up_to view
components_small [] e k = omega arith
components_small (pos n ∷ s) e zero = leb-true n component_limit (both_true (leb n component_limit) (all (up_to component_limit) s) e).0
components_small (pos n ∷ s) e (suc k) = components_small s (both_true (leb n component_limit) (all (up_to component_limit) s) e).1 k
components_small (negsuc n ∷ s) e k = absurd (true_not_false e refl)

components_low : (s : List ℤ) → good_components s ≡ true → Low (view s)
components_low s e k = omega (arith, components_small s e k)

pub component_small : (s : List ℤ) (k : ℕ) → good_components s ≡ true → natural (get_or s k (pos 0)) ≤ 65535
component_small s k e = rw (← natural_get_or s k, naturals_view s (components_low s e)) (components_small s e k)

-- so an index is a row
module _ (s : List ℤ) (g : good_components s ≡ true) where
  index_whole : row_at 0 (length s) s ≡ view s
  unfolding part
  index_whole = take_all (length s) (view s) (rw view_length (omega arith))

  index_row : HasRow 0 (length s) s
  index_row = record { room = omega arith; low = rw index_whole (components_low s g) }

  index_seen : row_at 0 (length s) s ≡ naturals s
  index_seen = index_whole ∙ sym (naturals_view s (components_low s g))

-- two indices that can be compared are compared as rows
module _ (a b : List ℤ) (e : comparable_indices a b ≡ true) where
  same_length : length a ≡ length b
  same_length =
      let three = (both_true (eqb (length a) (length b) && leb (length a) rank_limit && good_components a) (good_components b) e).0 in
      let two = (both_true (eqb (length a) (length b) && leb (length a) rank_limit) (good_components a) three).0 in
      eqb-true (length a) (length b) (both_true (eqb (length a) (length b)) (leb (length a) rank_limit) two).0

  good_first : good_components a ≡ true
  good_first =
      let three = (both_true (eqb (length a) (length b) && leb (length a) rank_limit && good_components a) (good_components b) e).0 in
      (both_true (eqb (length a) (length b) && leb (length a) rank_limit) (good_components a) three).1

  good_second : good_components b ≡ true
  good_second = (both_true (eqb (length a) (length b) && leb (length a) rank_limit && good_components a) (good_components b) e).1

  pub compared_rows : HasRow 0 (length a) a × HasRow 0 (length a) b
  compared_rows = (index_row a good_first, rw same_length (index_row b good_second))

  pub compared_same : cmp_rows (row_at 0 (length a) a) (row_at 0 (length a) b) ≡ cmp_rows (naturals a) (naturals b)
  compared_same = rw (index_seen a good_first) (ap (cmp_rows (naturals a)) (rw same_length (index_seen b good_second)))
