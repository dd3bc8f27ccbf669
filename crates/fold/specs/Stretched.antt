-- The common shape of records, and records that are stretched to it: judged, then brought into a part.
use Rattle.std.specs.Prelude.{Err, Ok, Result, ⊤}
use Rattle.rules.specs.declared.Refusal.{Refusal}
use Rattle.std.specs.Prelude.{◌≡◌, List, [], map, ℕ, ◌<◌, ◌≤◌, ℤ, pos, get_or}
use Rattle.rules.specs.declared.Mode.{Mode}
use Rattle.rules.specs.Refusals.{Verdict, given, refused, in_form, number_of}
use Rattle.rules.specs.Layout.{Layout}
use Rattle.rules.specs.Record.{layout_in}
use Rattle.rules.specs.Shapes.{broadcast_shapes}
use Rattle.rules.specs.Stretching.{stretched, broadcast_to_shape}
use Rattle.tables.specs.Rows.{row_at}
use Rattle.axes.specs.Extents.{Extents}
use Rattle.parts.specs.Parts.{layout_at, Holds}
use Rattle.lists.specs.Places.{standing, Inside}
use Rattle.lists.specs.Records.{JudgedRecord, layouts_at}
use Rattle.fold.specs.declared.agreeing.Shape.{Shape}

-- ---- the common shape

-- the extents of a shape by value
abbrev pub extents_of : Shape → List ℕ
extents_of shape = row_at 0 shape.rank shape.extents

-- there are at most 4, and they are within the limit
pub record ShapeFits (shape : Shape) : Type 0 where
  pub extents : Extents 0 shape.rank shape.extents
  pub few : shape.rank ≤ 4

-- a shape of so many extents, of four numbers by value
pub record ShapeIs (rank : ℕ) (four : List ℕ) (shape : Shape) : Type 0 where
  pub rank_is : shape.rank ≡ rank
  pub extents_are : shape.extents ≡ map pos four

-- the common shape of the records at the first n places
abbrev pub common_of : ℕ → List ℕ → List ℤ → Verdict (List ℕ)
common_of n places s = broadcast_shapes (map (λ l. l.shape) (layouts_at n places s))

-- ---- stretching

-- a judged record, and a shape that it is to be stretched to
pub record StretchAsked (shape : Shape) (from : List ℤ) : Type 0 where
  pub source : JudgedRecord from
  pub fits : ShapeFits shape

-- the layout of a record, stretched in a mode
abbrev pub stretched_to : Mode → Shape → List ℤ → Layout
stretched_to mode shape from = stretched mode (layout_in from) (extents_of shape)

-- and whether it may be
abbrev pub stretching : Mode → Shape → List ℤ → Verdict Layout
stretching mode shape from = broadcast_to_shape mode (layout_in from) (extents_of shape)

-- a step tells whether something is refused, whatever it gives
abbrev pub told : Result ⊤ Refusal → Verdict Unit
told (Ok tt) = given tt
told (Err why) = refused (number_of why)

abbrev pub whether : {A : Type 0} → Verdict A → Verdict Unit
whether v = in_form (λ _. tt) v

-- a record that may be stretched
pub record BringAsked (mode : Mode) (shape : Shape) (from : List ℤ) : Type 0 where
  pub asked : StretchAsked shape from
  pub given_is : stretching mode shape from ≡ given (stretched_to mode shape from)

-- a layout stands in the part
pub record Brought (l : Layout) (s : List ℤ) : Type 0 where
  pub layout : layout_at 0 s ≡ l
  pub holds : Holds 0 s

-- ---- all records of a list

-- each of the records at the first n places is to be stretched
pub record AllAsked (shape : Shape) (n : ℕ) (places : List ℕ) (s : List ℤ) : Type 0 where
  pub inside : Inside n places s
  pub each : (i : ℕ) → i < n → JudgedRecord (get_or (standing n places s) i [])
  pub fits : ShapeFits shape

-- and may be
pub record AllBringable (mode : Mode) (shape : Shape) (n : ℕ) (places : List ℕ) (s : List ℤ) : Type 0 where
  pub some : 0 < n
  pub inside : Inside n places s
  pub each : (i : ℕ) → i < n → BringAsked mode shape (get_or (standing n places s) i [])

-- the layouts of all of them, stretched
abbrev pub all_stretched : Mode → Shape → ℕ → List ℕ → List ℤ → List Layout
all_stretched mode shape n places s = map (λ l. stretched mode l (extents_of shape)) (layouts_at n places s)
