-- Module 14, `filter_deps_from`: the dependencies of a range of a source replace a target's.
use Rattle.std.specs.Prelude.{Bool, not, ◌&&◌, ◌||◌, List, [], ◌∷◌, map, ℕ, ◌-◌, length, get_or, take, eqb, leb, ltb, ℤ}
use Rattle.rules.specs.Lists.{if, keep, below, all_below, with}
use Rattle.rules.specs.Refusals.{Verdict, ◌then◌, ◌when◌, lowest}
use Rattle.rules.specs.Layout.{Layout, rank, is_dense, with_deps, made}
use Rattle.rules.specs.Record.{natural, layout_in, sound}
use Rattle.rules.specs.Arguments.{over_record, short_result, short_work, good_end}
use Rattle.rules.specs.Dependencies.{index_of, on_index}

-- the axes whose extent is over 1
abbrev pub wide_axes : Layout → List ℕ
wide_axes l = keep (λ axis. ltb 1 (get_or l.shape axis 0)) (below (rank l))

-- the axis that is cut: the first extent over 1, else 0
abbrev pub cut_axis : Layout → ℕ
cut_axis source = get_or (wide_axes source) 0 0

-- 10: source not dense, rank 0, two extents over 1, or target rank above the source's
abbrev pub cannot_cut : Layout → Layout → Bool
cannot_cut target source =
    not (is_dense source) || eqb (rank source) 0 || ltb 1 (length (wide_axes source)) || ltb (rank source) (rank target)

-- entries in the source's shape with start <= component < end
abbrev pub in_range : Layout → ℕ → ℕ → List ℕ → Bool
in_range source start end index =
    all_below index source.shape
    && leb start (get_or index (cut_axis source) 0)
    && ltb (get_or index (cut_axis source) 0) end

-- less start on the axis, if it remains
abbrev pub less_start : ℕ → ℕ → List ℕ → List ℕ
less_start axis start index = if (ltb axis (length index)) (with axis (get_or index axis 0 - start) index) index

-- shortened to the target's rank, less start on that axis
unfoldable pub cut_deps : Layout → Layout → ℕ → ℕ → List (List ℕ) → List (List ℕ)
cut_deps target source start end deps =
    map (on_index (λ index. less_start (cut_axis source) start (take (rank target) index)))
    (keep (λ d. in_range source start end (index_of d)) deps)

-- they replace the target's lists; where they meet or fall out of order, 12
unfoldable pub filter_deps_from : Layout → Layout → ℕ → ℕ → Verdict Layout
filter_deps_from target source start end =
    lowest (10 when cannot_cut target source ∷ []) then λ _.
    made (with_deps (cut_deps target source start end source.states) (cut_deps target source start end source.inputs) target)

-- ---- the call

unfoldable pub filter_deps_from_call : List ℤ → List ℤ → ℤ → ℤ → ℕ → ℕ → Verdict Layout
filter_deps_from_call target source start end result work =
    lowest
    (1 when (over_record target || over_record source) ∷ 2 when (short_result result || short_work work)
    ∷ 3 when not (sound target && sound source) ∷ 5 when not (good_end start && good_end end) ∷ [])
    then λ _. filter_deps_from (layout_in target) (layout_in source) (natural start) (natural end)
