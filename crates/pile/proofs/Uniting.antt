-- Two layouts at the front of the working buffer, lent to a step as its window; and their union moved to the sixth part. Assumes nothing.
use Rattle.std.specs.Prelude.{Err, Ok, Result, ⊤}
use mathlib.Core.Path.{◌≡◌, sym, ap, ◌∙◌}
use mathlib.Core.List.{List}
use mathlib.Core.Logic.{inl}
use Prim.Native.Nat.{ℕ, ◌+◌, ◌≤◌}
use native.Mathlib.Omega.{arith}
use lib.IntN.{ℤ}
use lib.ListN.{length}
use Rattle.rules.specs.declared.Refusal.{Refusal}
use Rattle.rules.specs.Limits.{work_size}
use Rattle.rules.specs.Buffers.{part, put}
use Rattle.rules.specs.Refusals.{Verdict, given}
use Rattle.rules.specs.Layout.{Layout}
use Rattle.rules.specs.Union.{union}
use Rattle.rules.proofs.Buffers.{length_part, part_put_all}
use Rattle.tables.specs.Tables.{Only}
use Rattle.tables.proofs.Only.{only_then, only_wider, only_put}
use Rattle.parts.specs.Parts.{part_size, window_size, left, right, target, layout_at, Holds, Window}
use Rattle.parts.specs.Answers.{Says}
use Rattle.parts.proofs.Holds.{Moved, layout_moved, holds_moved, layout_outside, holds_outside}
use Rattle.parts.proofs.Lent.{lent_of, back_in, lent_length, lent_layout, lent_holds, back_layout, back_holds}
use Rattle.parts.proofs.Windows.{window_only, window_says}
use Rattle.parts.proofs.Saying.{says_refused, refused_said}
use Rattle.combine.specs.Window.{Combined}
use Rattle.pile.specs.Exchanging.{sixth, United}

-- ---- the window is lent

module _ (work : List ℤ) (long : work_size ≤ length work) where
  -- a part of the window
  module _ (at : ℕ) (in_window : at + part_size ≤ window_size) (h : Holds at work) where
    pub part_lent : Holds at (lent_of 0 window_size work)
    part_lent = lent_holds 0 window_size work (omega arith) (omega arith) at at (omega arith) (omega arith) h

    pub layout_lent : layout_at at (lent_of 0 window_size work) ≡ layout_at at work
    layout_lent = lent_layout 0 window_size work (omega arith) (omega arith) at at (omega arith) (omega arith) h

  module _ (w : Window work) where
    pub window_lent : Window (lent_of 0 window_size work)
    window_lent = record {
      first = part_lent left (omega arith) w.first;
      second = part_lent right (omega arith) w.second;
      room = rw (lent_length 0 window_size work (omega arith) (omega arith)) (omega arith);
    }

    pub left_lent : layout_at left (lent_of 0 window_size work) ≡ layout_at left work
    left_lent = layout_lent left (omega arith) w.first

    pub right_lent : layout_at right (lent_of 0 window_size work) ≡ layout_at right work
    right_lent = layout_lent right (omega arith) w.second

    -- ---- it comes back from a step, by any rule

    module _ {rule : Layout → Layout → Verdict Layout} {u : List ℤ} {step : (Result ⊤ Refusal)} (m : Combined rule (lent_of 0 window_size work) u step) where
      pub came_says : Says (rule (layout_at left work) (layout_at right work)) target (back_in 0 window_size work u) step
      came_says = window_says work long u m.only.size (rw (left_lent, right_lent) at m.says)

      pub came_only : Only 0 window_size work (back_in 0 window_size work u)
      came_only = window_only work long u m.only.size

      -- a part before the target is as it was
      module _ (at : ℕ) (before : at + part_size ≤ target) (h : Holds at work) where
        kept : Holds at u
        kept = holds_outside m.only (inl before) (part_lent at (omega arith) h)

        pub kept_holds : Holds at (back_in 0 window_size work u)
        kept_holds = back_holds 0 window_size work (omega arith) (omega arith) u m.only.size at at (omega arith) (omega arith) kept

        pub kept_layout : layout_at at (back_in 0 window_size work u) ≡ layout_at at work
        kept_layout =
            back_layout 0 window_size work (omega arith) (omega arith) u m.only.size at at (omega arith) (omega arith) kept
            ∙ layout_outside m.only (inl before) (part_lent at (omega arith) h)
            ∙ layout_lent at (omega arith) h

      pub kept_window : Window (back_in 0 window_size work u)
      kept_window = record {
        first = kept_holds left (omega arith) w.first;
        second = kept_holds right (omega arith) w.second;
        room = omega (arith, came_only.size);
      }

-- ---- the target moved to the sixth part

module _ (s : List ℤ) {t : List ℤ} (long : work_size ≤ length s) (is : t ≡ put sixth (part target part_size s) s) where
  length_target : length (part target part_size s) ≡ part_size
  length_target = length_part target part_size s (omega arith)

  pub aside_only : Only sixth work_size s t
  aside_only =
      let n = length_target in
      rw is (rw n at (only_put sixth (part target part_size s) s (omega arith)))

  aside_same : Moved target sixth s t
  aside_same = record { numbers = rw is (ap (λ (n : ℕ). part sixth n (put sixth (part target part_size s) s)) (sym length_target) ∙ part_put_all sixth (part target part_size s) s (omega arith)) }

  pub aside_says : {v : Verdict Layout} {step : (Result ⊤ Refusal)} → step ≡ Ok tt → Says v target s step → Says v sixth t (Ok tt)
  aside_says e d = record {
    is = ap given (layout_moved aside_same (d.holds e)) ∙ rw e at d.is;
    holds = λ _. holds_moved aside_same (d.holds e) (omega (arith, aside_only.size));
  }

-- ---- `unite`

module _ (work : List ℤ) (long : work_size ≤ length work) (w : Window work) {u : List ℤ} {step : (Result ⊤ Refusal)} (m : Combined union (lent_of 0 window_size work) u step) where
  abbrev came : List ℤ
  came = back_in 0 window_size work u

  pub came_long : work_size ≤ length came
  came_long = omega (arith, (came_only work long w m).size)

  came_wide : Only 0 work_size work came
  came_wide = only_wider (came_only work long w m) 0 work_size (omega arith) (omega arith)

  -- the union was made, and moved
  pub united_done : {t : List ℤ} → step ≡ Ok tt → t ≡ put sixth (part target part_size came) came → United work t (Ok tt)
  united_done {t} e is =
      let o : Only sixth work_size came t = aside_only came came_long is in
      let k : Window came = kept_window work long w m in record {
        says = aside_says came came_long is e (came_says work long w m);
        window = record {
          first = holds_outside o (inl (omega arith)) k.first;
          second = holds_outside o (inl (omega arith)) k.second;
          room = omega (arith, o.size);
        };
        left_stays = layout_outside o (inl (omega arith)) k.first ∙ kept_layout work long w m left (omega arith) w.first;
        right_stays = layout_outside o (inl (omega arith)) k.second ∙ kept_layout work long w m right (omega arith) w.second;
        only = only_then came_wide (only_wider o 0 work_size (omega arith) (omega arith));
      }

  -- it was refused
  pub united_refused : {why : Refusal} → step ≡ Err why → United work came (Err why)
  united_refused {why} e = record {
    says = says_refused why sixth came (refused_said (came_says work long w m) e);
    window = kept_window work long w m;
    left_stays = kept_layout work long w m left (omega arith) w.first;
    right_stays = kept_layout work long w m right (omega arith) w.second;
    only = came_wide;
  }
