use Rattle.std.proofs.Common.{rules}
use Rattle.oc_audit.proofs.Cut.{all_other, front_other, cut_before, tail_before}
use Rattle.oc_audit.proofs.words.split_word.Goals as goal

pub returns-in_default-clause-field : goal.returns-in_default-clause-field
returns-in_default-clause-field c = all_other 32 c.args.bytes.now (search rules)

pub returns-clause-parts : goal.returns-clause-parts
returns-clause-parts c = cut_before c.args.bytes.now c.in-Some.place

pub returns-clause-field : goal.returns-clause-field
returns-clause-field c = front_other 32 c.args.bytes.now c.in-Some.place (search rules)

pub returns-clause-tail : goal.returns-clause-tail
returns-clause-tail c = tail_before c.args.bytes.now c.in-Some.place (search rules) (search rules)
