-- What a caller of `read_numbers` has by its answer, and what the answer is by the text. Assumes nothing.
use mathlib.Core.Path.{◌≡◌, refl, sym, ap, ◌∙◌, subst}
use mathlib.Core.List.{List}
use Prim.Native.Nat.{ℕ}
use lib.IntN.{ℤ}
use lib.ListN.{length, take, drop}
use lib.Seq.{take_at}
use Rattle.rules.specs.Buffers.{over}
use Rattle.std.specs.Prelude.{Option, Some, None}
use Rattle.text.specs.Read.{numbers, other, read_text}
use Rattle.text.specs.Placed.{Front, ReadInto}

module _ (text : List ℕ) (old now : List ℤ) {r : Option ℕ} (into : ReadInto text old now r) where
  -- an answer with numbers
  pub read_front : {n : ℕ} → r ≡ Some n → Front text old now n
  read_front {n} e = subst (λ (x : Option ℕ). ReadInto text old now x) e into

  -- an answer without
  pub read_other : r ≡ None → read_text text ≡ other
  read_other e = subst (λ (x : Option ℕ). ReadInto text old now x) e into

-- the numbers are the first n
pub front_reads : {text : List ℕ} {old now : List ℤ} {n : ℕ} → Front text old now n → read_text text ≡ numbers (take n now)
unfolding over
front_reads {text} {old} {now} {n} f =
    f.reads ∙ sym (ap numbers (rw f.is (take_at f.list (drop (length f.list) old) n f.count)))

module _ (text : List ℕ) (old now : List ℤ) where
  -- a text of numbers is answered with their count, and they stand at the front
  pub numbers_read : (r : Option ℕ) (list : List ℤ) → ReadInto text old now r → read_text text ≡ numbers list → (r ≡ Some (length list)) × (now ≡ over list old)
  numbers_read (Some n) list f e =
      let same : f.list ≡ list = cc (f.reads, e) in
      (ap Some (sym f.count ∙ ap length same), f.is ∙ ap (λ (l : List ℤ). over l old) same)
  numbers_read None list f e = (cc (f, e), cc (f, e))

  -- another text is answered so
  pub other_read : (r : Option ℕ) → ReadInto text old now r → read_text text ≡ other → r ≡ None
  other_read (Some n) f e = cc (f.reads, e)
  other_read None f e = refl

pub ruleset answers = (read_front, read_other, front_reads)
