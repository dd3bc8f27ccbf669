-- Numbers 1 to 5: what is judged of a call's arguments, over all of them, lowest first. Each call lists its own reasons.
use Rattle.std.specs.Prelude.{Bool, false, not, ◌&&◌, List, ℕ, length, get_or, eqb, leb, ltb, ℤ, pos, negsuc}
use Rattle.rules.specs.Limits.{rank_limit, list_limit, product_limit, component_limit, result_size, work_size}
use Rattle.rules.specs.Lists.{all}
use Rattle.rules.specs.Record.{natural}

-- a number that stands between 0 and a limit
unfoldable pub up_to : ℕ → ℤ → Bool
up_to limit (pos n) = leb n limit
up_to limit (negsuc n) = false

-- 1: an asked rank over 4
abbrev pub over_rank : ℤ → Bool
over_rank r = ltb rank_limit (natural r)

-- 1: the count of extents of a record is over 4, as soon as that number stands in the slice
abbrev pub over_record : List ℤ → Bool
over_record s = over_rank (get_or s 2 (pos 0))

-- 1: the count of extents of a shape is over 4
abbrev pub over_shape : List ℤ → Bool
over_shape s = over_rank (get_or s 0 (pos 0))

-- 1: a count of shapes, layouts or blocks outside 0..16
abbrev pub over_count : ℤ → Bool
over_count n = not (up_to list_limit n)

-- 2: a lent result below 1,802 numbers, a lent working buffer below 10,812
abbrev pub short_result : ℕ → Bool
short_result size = ltb size result_size

abbrev pub short_work : ℕ → Bool
short_work size = ltb size work_size

-- 5: components are 0..65,535
unfoldable pub good_components : List ℤ → Bool
good_components index = all (up_to component_limit) index

-- 5: an index has R components
abbrev pub good_index : List ℤ → ℕ → Bool
good_index index r = eqb (length index) r && good_components index

-- 5: starts and range ends are 0..65,536
abbrev pub good_end : ℤ → Bool
good_end n = up_to product_limit n

-- 5: a flag is 0 or 1
abbrev pub good_flag : ℤ → Bool
good_flag n = up_to 1 n

-- 5: a mode of stretching is 0 or 1
abbrev pub good_mode : ℤ → Bool
good_mode n = up_to 1 n
