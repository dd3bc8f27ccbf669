-- Starts that run along a line. Assumes nothing.
use mathlib.Core.Path.{◌≡◌, refl, sym, ◌∙◌}
use mathlib.Core.Bool.{Bool, true, false, ◌&&◌}
use mathlib.Core.List.{List, [], ◌∷◌, ◌++◌}
use Prim.Native.Nat.{ℕ, zero, suc, ◌+◌, ◌*◌, ◌-◌, ◌<◌, ◌≤◌}
use native.Mathlib.Numerals.{add-one}
use native.Mathlib.Omega.{arith}
use borrow.Author.Tests.{eq-eqb, ne_eqb, not-true, not-false}
use lib.Dec.{eqb}
use lib.IntN.{ℤ}
use lib.ListN.{length, get_or, take, drop, replicate, length-replicate, length-take, drop_of_length-le}
use lib.Seq.{drop-cons, get_or-take}
use Rattle.rules.specs.Limits.{product_limit}
use Rattle.rules.specs.Lists.{same, fit_to}
use Rattle.rules.specs.Record.{layout_in}
use Rattle.rules.specs.Concatenate.{start_at}
use Rattle.rules.proofs.Replaced.{fit_length}
use Rattle.lists.proofs.Entering.{same_entry}
use Rattle.lists.proofs.Beginning.{place_inside, place_fits}
use Rattle.blocks.specs.declared.running.Line.{Line}
use Rattle.blocks.specs.declared.running.Line.TheVariants.{First, Diagonal}
use Rattle.blocks.specs.Blocks.{blocks_by, BlocksAt}
use Rattle.blocks.specs.Lines.{place_on, number_on}
use Rattle.blocks.proofs.Asks.{sound_at}
use Rattle.blocks.proofs.Placed.{no_block, length_blocks, block_at_lem, start_four}

-- ---- one number of a start

module _ {line : Line} (run axis : ℕ) where
  pub first_on : line ≡ First → axis ≡ 0 → run ≡ number_on line run axis
  first_on e f = rw (e, f)

  pub other_on : line ≡ First → (axis ≡ 0 → ⊥) → 0 ≡ number_on line run axis
  other_on e f = rw (e, ne_eqb axis 0 f)

  pub diagonal_on : line ≡ Diagonal → run ≡ number_on line run axis
  diagonal_on e = rw e

pub ruleset number_laws = (first_on, other_on, diagonal_on)

-- ---- one start

length_on : (line : Line) (r run : ℕ) → length (place_on line r run) ≡ r
length_on First r run = fit_length r 0 (run ∷ [])
length_on Diagonal r run = length-replicate r run

repeated : (n k x : ℕ) → k < n → get_or (replicate n x) k 0 ≡ x
repeated zero k x h = absurd (omega arith)
repeated (suc n) zero x h = refl
repeated (suc n) (suc k) x h = repeated n k x (omega arith)

on_at : (line : Line) (r run axis : ℕ) → axis < r → get_or (place_on line r run) axis 0 ≡ number_on line run axis
unfolding fit_to
on_at First r run axis h = get_or-take r ((run ∷ []) ++ replicate r 0) axis 0 h ∙ behind axis
  where
    behind : (k : ℕ) → get_or ((run ∷ []) ++ replicate r 0) k 0 ≡ number_on First run k
    behind zero = refl
    behind (suc k) = same_entry r k 0 ∙ rw (ne_eqb (suc k) 0 (λ e. omega arith))
on_at Diagonal r run axis h = repeated r axis run h

-- the first k numbers of a start are those of the line
pub record OnTo (line : Line) (run rank : ℕ) (start : List ℕ) (k : ℕ) : Type 0 where
  pub upto : k ≤ rank
  pub left : length (take rank start) ≡ rank
  pub right : length (place_on line rank run) ≡ rank
  pub eq : same (take rank start) (place_on line rank run) ≡ same (drop k (take rank start)) (drop k (place_on line rank run))

module _ {line : Line} {run rank : ℕ} {start : List ℕ} where
  pub on_start : rank ≤ 4 → length start ≡ 4 → OnTo line run rank start 0
  on_start h e = record { upto = omega arith; left = rw length-take (omega arith); right = length_on line rank run; eq = refl }

module _ {line : Line} {run rank : ℕ} {start : List ℕ} {k : ℕ} (p : OnTo line run rank start k) where
  module _ {y : ℕ} (h : k < rank) (e : y ≡ number_on line run k) where
    -- the next number decides, and those behind it
    next : same (take rank start) (place_on line rank run) ≡ eqb (get_or start k 0) y && same (drop (suc k) (take rank start)) (drop (suc k) (place_on line rank run))
    unfolding same
    next =
        p.eq
        ∙ rw (drop-cons (take rank start) k 0 (omega (arith, p.left)), drop-cons (place_on line rank run) k 0 (omega (arith, p.right)), get_or-take rank start k 0 h, on_at line rank run k h, ← e)

    pub on_turn : get_or start k 0 ≡ y → OnTo line run rank start (k + 1)
    on_turn f = record { upto = omega arith; left = p.left; right = p.right; eq = rw add-one (next ∙ rw (eq-eqb (get_or start k 0) y f)) }

    pub on_stop : (get_or start k 0 ≡ y → ⊥) → false ≡ same (take rank start) (place_on line rank run)
    on_stop f = sym (next ∙ rw (ne_eqb (get_or start k 0) y f))

  pub on_done : rank ≤ k → true ≡ same (take rank start) (place_on line rank run)
  unfolding same
  on_done h =
      sym (p.eq ∙ rw (drop_of_length-le (take rank start) {i = k} (omega (arith, p.left)), drop_of_length-le (place_on line rank run) {i = k} (omega (arith, p.right))))

pub ruleset on_laws = (on_start, on_turn, on_stop, on_done)

-- ---- all starts

-- the first k of n blocks start on the line, and have come so far
pub record RunTo (line : Line) (rank n : ℕ) (records : List ℕ) (starts : List (List ℕ)) (s : List ℤ) (k run : ℕ) : Type 0 where
  pub upto : k ≤ n
  pub size : length (blocks_by rank n records starts s) ≡ n
  pub few : n ≤ 16
  pub low : run ≤ k * 65536
  pub eq : start_at (place_on line rank) 0 (blocks_by rank n records starts s) ≡ start_at (place_on line rank) run (drop k (blocks_by rank n records starts s))

module _ {line : Line} {rank n : ℕ} {records : List ℕ} {starts : List (List ℕ)} {s : List ℤ} (p : BlocksAt n records starts s) where
  pub run_start : RunTo line rank n records starts s 0 0
  run_start = record { upto = omega arith; size = length_blocks p rank; few = p.sound.inside.few; low = omega arith; eq = refl }

  module _ {i run : ℕ} (q : RunTo line rank n records starts s i run) where
    module _ {b : Bool} (h : i < n) (e : b ≡ same (take rank (get_or starts i [])) (place_on line rank run)) where
      -- the next block decides, and those behind it
      next_run : start_at (place_on line rank) 0 (blocks_by rank n records starts s) ≡ b && start_at (place_on line rank) (run + get_or (layout_in (take (length s - get_or records i 0) (drop (get_or records i 0) s))).shape 0 1) (drop (suc i) (blocks_by rank n records starts s))
      unfolding start_at
      next_run = q.eq ∙ rw (drop-cons (blocks_by rank n records starts s) i no_block (omega (arith, q.size)), ← block_at_lem p h rank, ← e)

      pub run_turn : b ≡ true → {x : ℕ} → x ≡ get_or (layout_in (take (length s - get_or records i 0) (drop (get_or records i 0) s))).shape 0 1 → x ≤ product_limit →
          RunTo line rank n records starts s (i + 1) (run + x)
      run_turn f g l = record { upto = omega arith; size = q.size; few = q.few; low = omega (arith, q.low); eq = rw (add-one, g) (next_run ∙ rw f) }

      pub run_stop : b ≡ false → false ≡ start_at (place_on line rank) 0 (blocks_by rank n records starts s)
      run_stop f = sym (next_run ∙ rw f)

    pub run_done : n ≤ i → true ≡ start_at (place_on line rank) 0 (blocks_by rank n records starts s)
    unfolding start_at
    run_done h = sym (q.eq ∙ rw (drop_of_length-le (blocks_by rank n records starts s) {i = i} (omega (arith, q.size))))

pub ruleset run_laws = (run_start, run_turn, run_stop, run_done, not-true, not-false, start_four, place_inside, place_fits, sound_at)
