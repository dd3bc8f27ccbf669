-- Which answer `filter_deps_from` gives of two sound layouts, case by case. Assumes nothing.
use mathlib.Core.Path.{◌≡◌, refl, ◌∙◌}
use mathlib.Core.Bool.{Bool, true, false, not, ◌&&◌, ◌||◌}
use mathlib.Core.List.{List}
use Prim.Native.Nat.{ℕ, ◌-◌, ◌≤◌}
use native.Mathlib.Omega.{arith}
use borrow.Author.Tests.{ltb-true, ltb-false}
use lib.Dec.{eqb, ltb}
use lib.ListN.{length, get_or, take, length-map}
use lib.Seq.{length-take-le}
use Rattle.rules.specs.Lists.{if, with}
use Rattle.rules.specs.RowsInOrder.{increasing, Each}
use Rattle.rules.specs.Refusals.{given, refused, lowest}
use Rattle.rules.specs.Layout.{Layout, rank, is_dense, with_deps}
use Rattle.rules.specs.Soundness.{NumbersBelow, DepsFit, DepsLow, Sound}
use Rattle.rules.specs.Dependencies.{index_of, on_index}
use Rattle.rules.specs.FilterDepsFrom.{wide_axes, cut_axis, cannot_cut, in_range, less_start, cut_deps, filter_deps_from}
use Rattle.rules.proofs.Same.{both_true, neither}
use Rattle.rules.proofs.Sets.{increasing_true}
use Rattle.rules.proofs.Keeping.{keep_only, keep_length}
use Rattle.rules.proofs.Made.{sound_formed, formed_deps}
use Rattle.rules.proofs.Forming.{DepOfRank, states_of_rank, inputs_of_rank, formed_sound, sound_given, bad_deps_made}
use Rattle.rules.proofs.Changed.{RowBelow, take_low, changed_low, changed_of_rank, each_map}
use Rattle.rules.proofs.Replaced.{with_length, with_low}

-- ---- an index less the start

module _ (axis start : ℕ) (index : List ℕ) where
  -- it has as many numbers
  less_start_length : length (less_start axis start index) ≡ length index
  less_start_length = go (ltb axis (length index)) refl
    where
      go : (t : Bool) → ltb axis (length index) ≡ t → length (if t (with axis (get_or index axis 0 - start) index) index) ≡ length index
      go true e = with_length (get_or index axis 0 - start) index (ltb-true axis (length index) e)
      go false e = refl

  -- and no larger ones
  pub less_start_low : {b : ℕ} → RowBelow b index → RowBelow b (less_start axis start index)
  less_start_low {b} f = go (ltb axis (length index))
    where
      go : (t : Bool) → RowBelow b (if t (with axis (get_or index axis 0 - start) index) index)
      go true = with_low axis (get_or index axis 0 - start) index (omega (arith, f axis)) f
      go false = f

-- ---- the dependencies that are cut

module _ (target source : Layout) (start end : ℕ) where
  -- the index of a dependency, cut
  abbrev cut : List ℕ → List ℕ
  cut index = less_start (cut_axis source) start (take (rank target) index)

  -- it has no larger numbers
  cut_low : {b : ℕ} (index : List ℕ) → RowBelow b index → RowBelow b (cut index)
  cut_low index f = less_start_low (cut_axis source) start (take (rank target) index) (take_low (rank target) index f)

  -- dependencies of the source's rank are cut to the target's
  deps_cut : rank target ≤ rank source → {deps : List (List ℕ)} → Each (DepOfRank (rank source)) deps → Each (DepOfRank (rank target)) (cut_deps target source start end deps)
  unfolding cut_deps
  deps_cut h {deps} f =
      each_map (DepOfRank (rank target)) (on_index cut)
      (λ d p. changed_of_rank cut d p (λ i e. less_start_length (cut_axis source) start (take (rank target) i) ∙ length-take-le (rank target) i (omega arith)) (λ i. cut_low i))
      (λ d m. f d (keep_only (λ d. in_range source start end (index_of d)) deps d m))

  -- they are not more
  cut_length : (deps : List (List ℕ)) → length (cut_deps target source start end deps) ≤ length deps
  unfolding cut_deps
  cut_length deps = rw length-map (keep_length (λ d. in_range source start end (index_of d)) deps)

  -- and have no larger numbers
  cut_deps_low : {b : ℕ} {deps : List (List ℕ)} → NumbersBelow b deps → NumbersBelow b (cut_deps target source start end deps)
  unfolding cut_deps
  cut_deps_low {b} {deps} f =
      each_map (RowBelow b) (on_index cut) (λ d p. changed_low cut d p cut_low)
      (λ d m. f d (keep_only (λ d. in_range source start end (index_of d)) deps d m))

-- ---- the answer

module _ (target source : Layout) (start end : ℕ) where
  -- the state dependencies of the range
  abbrev pub cut_states : List (List ℕ)
  cut_states = cut_deps target source start end source.states

  -- the input dependencies of the range
  abbrev pub cut_inputs : List (List ℕ)
  cut_inputs = cut_deps target source start end source.inputs

  -- a source that cannot be cut: 10
  pub filter_bars : cannot_cut target source ≡ true → filter_deps_from target source start end ≡ refused 10
  unfolding filter_deps_from lowest
  filter_bars e = rw e

  -- entries that meet or fall out of order: 12
  pub filter_breaks : cannot_cut target source ≡ false → increasing cut_states && increasing cut_inputs ≡ false → filter_deps_from target source start end ≡ refused 12
  unfolding filter_deps_from lowest
  filter_breaks e f = rw e (bad_deps_made (with_deps cut_states cut_inputs target) f)

  -- a source that can be cut has the rank of the target or a larger one
  pub cut_ranks : cannot_cut target source ≡ false → rank target ≤ rank source
  cut_ranks e =
      ltb-false (rank source) (rank target)
      (neither (not (is_dense source) || eqb (rank source) 0 || ltb 1 (length (wide_axes source))) (ltb (rank source) (rank target)) e).1

  module _ (s : Sound target) (t : Sound source) (e : cannot_cut target source ≡ false) (f : increasing cut_states && increasing cut_inputs ≡ true) where
    -- in order, they make the target sound
    pub filtered_sound : Sound (with_deps cut_states cut_inputs target)
    filtered_sound =
        formed_sound (formed_deps (sound_formed s) states_fit inputs_fit (λ d m. (states d m).small) (λ d m. (inputs d m).small)) s.sizes.rows_few
        (omega (arith, cut_length target source start end source.states, t.sizes.states_few))
        (omega (arith, cut_length target source start end source.inputs, t.sizes.inputs_few))
      where
        states : Each (DepOfRank (rank target)) cut_states
        states = deps_cut target source start end (cut_ranks e) (states_of_rank t).each

        inputs : Each (DepOfRank (rank target)) cut_inputs
        inputs = deps_cut target source start end (cut_ranks e) (inputs_of_rank t).each

        order : (increasing cut_states ≡ true) × (increasing cut_inputs ≡ true)
        order = both_true (increasing cut_states) (increasing cut_inputs) f

        states_fit : DepsFit target cut_states
        states_fit = record { lengths = λ d m. (states d m).size; increase = increasing_true cut_states order.0 }

        inputs_fit : DepsFit target cut_inputs
        inputs_fit = record { lengths = λ d m. (inputs d m).size; increase = increasing_true cut_inputs order.1 }

    -- and replace its lists
    pub filter_given : filter_deps_from target source start end ≡ given (with_deps cut_states cut_inputs target)
    unfolding filter_deps_from lowest
    filter_given = rw e (sound_given filtered_sound)

  -- the numbers of dependencies are below 2 ^ 31 if the source's were
  pub filtered_low : DepsLow source → DepsLow (with_deps cut_states cut_inputs target)
  filtered_low p = record { states_low = cut_deps_low target source start end p.states_low; inputs_low = cut_deps_low target source start end p.inputs_low }
