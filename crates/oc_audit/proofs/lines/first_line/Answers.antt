use Rattle.std.proofs.Common.{rules}
use Rattle.oc_audit.proofs.Cut.{all_other, front_other, cut_here}
use Rattle.oc_audit.proofs.lines.first_line.Goals as goal

pub returns-in_default-clause-none : goal.returns-in_default-clause-none
returns-in_default-clause-none c = all_other 10 c.args.bytes.now (search rules)

pub returns-clause-some : goal.returns-clause-some
returns-clause-some c = (
  cut_here 10 c.args.bytes.now c.in-Some.place (search rules) (search rules),
  front_other 10 c.args.bytes.now c.in-Some.place (search rules),
)
