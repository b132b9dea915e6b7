use Rattle.std.proofs.Common.{rules}
use Rattle.oc_items.proofs.Numerals.{all_no_space, cut_there}
use Rattle.oc_items.proofs.read.split_at_space.Goals as goal

pub returns-in_default-clause-none : goal.returns-in_default-clause-none
returns-in_default-clause-none c = all_no_space c.args.line.now (search rules)

pub returns-clause-some : goal.returns-clause-some
returns-clause-some c = cut_there c.args.line.now c.in-Some.place (search rules) (search rules) (search rules)
