-- `rows_fit`: natural, inside the shape and all different, in turn.
use Rattle.shapes.proofs.Judging.{shape_extents}
use Rattle.forms.proofs.Fitting.{rows_there_lem, rows_within}
use Rattle.forms.proofs.rows.rows_fit.Goals as goal

pub rows_below-requires : goal.rows_below-requires
rows_below-requires c = let given = c.requires in
    let wide = c.rank-w.ensures.0 in record {
      has_rows = rows_there_lem _ _ _ given.numbers_len wide c.all_natural.ensures.low c.if-not-all_natural.false-raw;
      w_in_bounds = (shape_extents _ given.judged wide).room;
    }

pub all_differ-requires : goal.all_differ-requires
all_differ-requires c = let given = c.requires in
    let wide = c.rank-w.ensures.0 in
    let told = c.all_natural.ensures in
    let inside = c.rows_below.ensures in
    let none = c.if-not-all_natural.false-raw in
    rows_within _ _ _ given.numbers_len wide told.is c.if-w-eq0.false none given.judged inside c.if-not-rows_below.false-raw (rows_there_lem _ _ _ given.numbers_len wide told.low none)
