-- `sound_by`: each test decides where those before it hold, and a record that passed the first two is readable.
use mathlib.Core.Path.{sym, ◌∙◌}
use borrow.Author.Rules.{rules}
use borrow.Author.Tests.{not-false}
use Rattle.records.proofs.Fits.{fit_readable}
use Rattle.records.proofs.Answers.{is_readable, judged}
use Rattle.records.proofs.sound_by.Goals as goal

pub returns-then-not-few_entries : goal.returns-then-not-few_entries
returns-then-not-few_entries c = record {
  is = search (rules, judged);
  readable = tt;
}

pub returns-then-not-all_natural : goal.returns-then-not-all_natural
returns-then-not-all_natural c = record {
  is = search (rules, judged);
  readable = tt;
}

pub returns-then-not-within_sizes : goal.returns-then-not-within_sizes
returns-then-not-within_sizes c = record {
  is = search (rules, judged);
  readable = tt;
}

pub well_formed-requires : goal.well_formed-requires
well_formed-requires c = record {
  readable = search (rules, is_readable);
  sizes_kept = sym c.within_sizes.ensures ∙ not-false _ c.if-not-within_sizes.false-raw;
}

pub returns : goal.returns
returns c = record {
  is = search (rules, judged);
  readable = fit_readable c.well_formed-2.result (search is_readable);
}
