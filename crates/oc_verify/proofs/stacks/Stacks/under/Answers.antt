use Rattle.std.proofs.Common.{drop, map, ap, sym}
use Rattle.oc_verify.specs.Stacks.{stack_to}
use Rattle.oc_verify.specs.Told.{kind_of}
use Rattle.oc_verify.proofs.stacks.Stacks.under.Goals as goal

pub returns-in-None-clause-under : goal.returns-in-None-clause-under
unfolding stack_to
returns-in-None-clause-under c = sym (ap (λ l. drop 1 (map kind_of l)) c.in-None.ensures.top)
