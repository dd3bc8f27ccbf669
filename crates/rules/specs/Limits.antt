-- The limits: how large things may be.
use Rattle.std.specs.Prelude.{ℕ}

-- the rank stops at 4
abbrev pub rank_limit : ℕ
rank_limit = 4

-- a call takes at most 16 shapes, layouts or blocks
abbrev pub list_limit : ℕ
list_limit = 16

-- rows and dependencies: at most 128 in each list
abbrev pub entry_limit : ℕ
entry_limit = 128

-- the product of the extents that are not zero
abbrev pub product_limit : ℕ
product_limit = 65536

-- a component of an index or of a dependency
abbrev pub component_limit : ℕ
component_limit = 65535

-- a result buffer has room for the longest record
abbrev pub result_size : ℕ
result_size = 1802

-- a working buffer has room for six of them
abbrev pub work_size : ℕ
work_size = 10812
