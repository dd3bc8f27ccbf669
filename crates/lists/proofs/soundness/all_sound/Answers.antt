-- `all_sound`: all before this one are sound.
use borrow.Author.Rules.{rules}
use Rattle.lists.proofs.Sounding.{sound_laws}
use Rattle.lists.proofs.soundness.all_sound.Goals as goal

pub loop-i-init : goal.loop-i-init
loop-i-init c = search (rules, sound_laws)

pub offset_bounds-places-i : goal.offset_bounds-places-i
offset_bounds-places-i c = search (rules, sound_laws)

pub bounds-places-i : goal.bounds-places-i
bounds-places-i c = search (rules, sound_laws)

pub offset_bounds-s-at : goal.offset_bounds-s-at
offset_bounds-s-at c = search (rules, sound_laws)

pub slice_bounds-sound_head-count : goal.slice_bounds-sound_head-count
slice_bounds-sound_head-count c = search (rules, sound_laws)

pub slice_bounds-sound_head-start : goal.slice_bounds-sound_head-start
slice_bounds-sound_head-start c = search (rules, sound_laws)

pub slice_bounds-sound_head-end : goal.slice_bounds-sound_head-end
slice_bounds-sound_head-end c = search (rules, sound_laws)

pub sound_head-requires : goal.sound_head-requires
sound_head-requires c = search (rules, sound_laws)

pub enum_told-1 : goal.enum_told-1
enum_told-1 c = search (rules, sound_laws)

pub enum_told-in_default : goal.enum_told-in_default
enum_told-in_default c = search (rules, sound_laws)

pub returns-in_default : goal.returns-in_default
returns-in_default c = search (rules, sound_laws)

pub overflow_step-i : goal.overflow_step-i
overflow_step-i c = search (rules, sound_laws)

pub loop-i-smaller : goal.loop-i-smaller
loop-i-smaller c = search (rules, sound_laws)

pub loop-i-preserved : goal.loop-i-preserved
loop-i-preserved c = search (rules, sound_laws)

pub returns : goal.returns
returns c = search (rules, sound_laws)
