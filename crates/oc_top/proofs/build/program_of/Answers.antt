use Rattle.std.proofs.Common.{false}
use Rattle.oc_top.proofs.Parsing.{without_tree}
use Rattle.oc_top.proofs.build.program_of.Goals as goal

pub returns-clause-refused : goal.returns-clause-refused
returns-clause-refused c =
    rw (c.answer_without_tree.ensures false c.args.source.now, c.deref-in-Err.ensures.value)
    (without_tree false c.args.source.now c.in_ok-tokens.tokens.items c.in_ok-tokens.ensures.tokens c.in-Err.error (rw c.deref.ensures.value at c.in-Err.ensures.fault))
