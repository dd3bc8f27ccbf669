-- `read_numbers`: what the loop knows at each turn. Assumes nothing.
use mathlib.Core.Path.{◌≡◌, refl, sym, ap, ◌∙◌}
use mathlib.Core.Bool.{Bool, true, false}
use mathlib.Core.List.{List, [], ◌∷◌, ◌++◌, append_assoc}
use Prim.Native.Nat.{ℕ, suc, ◌+◌, ◌*◌, ◌<◌, ◌≤◌}
use native.Mathlib.Numerals.{add-one}
use native.Mathlib.Omega.{arith}
use lib.IntN.{ℤ, pos, neg_ℤ}
use lib.ListN.{length, get_or, drop, length-append, drop_of_length-le}
use lib.Seq.{drop-cons}
use Rattle.rules.specs.Buffers.{over}
use Rattle.rules.proofs.Buffers.{over_nil}
use Rattle.rules.proofs.Writes.{put_over}
use Rattle.std.specs.Prelude.{Option, Some, None}
use Rattle.text.specs.declared.Word.{Word}
use Rattle.text.specs.declared.Word.TheVariants.{Nothing, Minus, Natural, Negative, Broken}
use Rattle.text.specs.Read.{Reading, numbers, other, is_gap, both, read_text}
use Rattle.text.specs.Words.{next_of, ending, read_on, Small, begun}
use Rattle.text.specs.Placed.{Stand, Placed, ReadInto}
use Rattle.text.proofs.Words.{text_read}
use Rattle.text.proofs.Steps.{next_small}

-- ---- a word that ends

-- at most 1
begun_one : (word : Word) → begun word ≤ 1
begun_one Nothing = omega arith
begun_one Minus = omega arith
begun_one (Natural v) = omega arith
begun_one (Negative v) = omega arith
begun_one Broken = omega arith

-- a number takes a byte, and the gap behind it another
number_begun : (word : Word) (list : List ℤ) → ending word ≡ numbers list → 2 * length list ≤ begun word + 1
unfolding ending
number_begun Nothing list e = let l : list ≡ [] = cc in rw l (omega arith)
number_begun Minus list e = let z : ◌≡◌ {A = ℕ} 0 1 = cc in omega arith
number_begun (Natural v) list e = let l : list ≡ pos v ∷ [] = cc in rw l (omega arith)
number_begun (Negative v) list e = let l : list ≡ neg_ℤ (pos v) ∷ [] = cc in rw l (omega arith)
number_begun Broken list e = let z : ◌≡◌ {A = ℕ} 0 1 = cc in omega arith

-- ---- two readings

both_none : (r : Reading) → both (numbers []) r ≡ r
both_none (numbers l) = refl
both_none other = refl

both_two : (l m : List ℤ) (r : Reading) → both (numbers l) (both (numbers m) r) ≡ both (numbers (l ++ m)) r
both_two l m (numbers k) = ap numbers (sym (append_assoc l m k))
both_two l m other = refl

-- ---- the loop

-- up to i the numbers of list were read, and a word may be begun
pub record Progress (text : List ℕ) (old : List ℤ) (word : Word) (n i : ℕ) (now : List ℤ) : Type 0 where
  pub list : List ℤ
  pub count : length list ≡ n
  pub is : now ≡ over list old
  pub size : length now ≡ length old
  pub room : length text ≤ 2 * length old
  pub upto : i ≤ length text
  pub few : 2 * n + begun word ≤ i
  pub small : Small word
  pub rest : read_text text ≡ both (numbers list) (read_on word (drop i text))

pub start : {text : List ℕ} {old : List ℤ} → length text ≤ 2 * length old → Progress text old Nothing 0 0 old
start {text} {old} h = record {
  list = [];
  count = refl;
  is = sym (over_nil old);
  size = refl;
  room = h;
  upto = omega arith;
  few = omega arith;
  small = tt;
  rest = text_read text ∙ sym (both_none (read_on Nothing text));
}

module _ {text : List ℕ} {old now : List ℤ} {word : Word} {n i : ℕ} (p : Progress text old word n i now) where
  -- there is room for the number of a word that is begun
  pub has_room : n + begun word ≤ length now
  has_room = let b = begun_one word in let s = p.size in let r = p.room in let f = p.few in let u = p.upto in omega arith

  module _ (h : i < length text) where
    next_byte : drop i text ≡ get_or text i 0 ∷ drop (suc i) text
    next_byte = drop-cons text i 0 h

    pub turn_word : {gap : Bool} {after : Word} → gap ≡ is_gap (get_or text i 0) → gap ≡ false → after ≡ next_of word (get_or text i 0) →
        Progress text old after n (i + 1) now
    unfolding read_on
    turn_word {gap} {after} g e a =
        let no : is_gap (get_or text i 0) ≡ false = sym g ∙ e in
        let f = p.few in
        let b = begun_one after in
        record {
          list = p.list;
          count = p.count;
          is = p.is;
          size = p.size;
          room = p.room;
          upto = omega arith;
          few = omega arith;
          small = rw a (next_small word (get_or text i 0));
          rest = p.rest ∙ rw (add-one, a, next_byte, no);
        }

    module _ {gap : Bool} (g : gap ≡ is_gap (get_or text i 0)) (e : gap ≡ true) where
      gap_rest : read_text text ≡ both (numbers p.list) (both (ending word) (read_on Nothing (drop (suc i) text)))
      unfolding read_on
      gap_rest = let yes : is_gap (get_or text i 0) ≡ true = sym g ∙ e in p.rest ∙ rw (next_byte, yes)

      turn_number : {m : ℕ} {after : List ℤ} → length after ≡ length now → Stand n (ending word) now after m → Progress text old Nothing m (i + 1) after
      turn_number {m} {after} s k =
          let f = p.few in
          let b = number_begun word k.list k.reads in
          let c = k.count in
          record {
            list = p.list ++ k.list;
            count = length-append p.list k.list ∙ rw p.count k.count;
            is = k.is ∙ rw p.is (put_over n p.list k.list old p.count);
            size = s ∙ p.size;
            room = p.room;
            upto = omega arith;
            few = omega arith;
            small = tt;
            rest = gap_rest ∙ rw (add-one, k.reads) (both_two p.list k.list (read_on Nothing (drop (suc i) text)));
          }

      pub turn_gap : {r : Option ℕ} {m : ℕ} {after : List ℤ} → length after ≡ length now → Placed n (ending word) now after r → r ≡ Some m →
          Progress text old Nothing m (i + 1) after
      turn_gap {r} {m} {after} s k q = turn_number s (rw q at k)

      pub stop_gap : ending word ≡ other → read_text text ≡ other
      stop_gap none = gap_rest ∙ rw none

  module _ (h : length text ≤ i) where
    end_rest : read_text text ≡ both (numbers p.list) (ending word)
    unfolding read_on
    end_rest = p.rest ∙ rw (drop_of_length-le text h)

    pub done : (r : Option ℕ) (after : List ℤ) → Placed n (ending word) now after r → ReadInto text old after r
    done (Some m) after k =
        let b = number_begun word k.list k.reads in
        let c = k.count in
        let f = p.few in
        record {
          list = p.list ++ k.list;
          reads = end_rest ∙ rw k.reads;
          count = length-append p.list k.list ∙ rw p.count k.count;
          fits = omega (arith, begun_one word);
          is = k.is ∙ rw p.is (put_over n p.list k.list old p.count);
        }
    done None after k = end_rest ∙ rw k

pub ruleset laws = (start, has_room, turn_word, turn_gap, done)
