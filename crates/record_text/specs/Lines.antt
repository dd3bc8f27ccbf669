-- The text of a layout, five lines, and the line of a refusal.
use mathlib.Core.List.{List, [], ◌∷◌, ◌++◌}
use Rattle.std.specs.Prelude.{ℕ, pos}
use Rattle.rules.specs.Layout.{Layout, rank, section}
use Rattle.rules.specs.Refusals.{Verdict, given, refused}
use Rattle.text.specs.Written.{line_text}

-- numbers of a layout as a line
abbrev pub line : List ℕ → List ℕ
line l = line_text (mathlib.Core.List.map pos l)

-- kind and D; extents after their count; rows; state dependencies; input dependencies
unfoldable pub layout_text : Layout → List ℕ
layout_text l =
    line (l.kind ∷ l.dense ∷ [])
    ++ line (rank l ∷ l.shape)
    ++ line (section l.rows)
    ++ line (section l.states)
    ++ line (section l.inputs)

-- 'refused' and the number
unfoldable pub refused_text : ℕ → List ℕ
refused_text n = 114 ∷ 101 ∷ 102 ∷ 117 ∷ 115 ∷ 101 ∷ 100 ∷ 32 ∷ line (n ∷ [])

abbrev pub verdict_text : Verdict Layout → List ℕ
verdict_text (given l) = layout_text l
verdict_text (refused n) = refused_text n
