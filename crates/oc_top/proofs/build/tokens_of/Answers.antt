use Rattle.std.proofs.Common.{true, false}
use Rattle.oc_top.proofs.Parsing.{without_tokens}
use Rattle.oc_top.proofs.build.tokens_of.Goals as goal

pub returns-in-Err-clause-refused : goal.returns-in-Err-clause-refused
returns-in-Err-clause-refused c = rw c.answer_without_tokens.ensures (without_tokens false c.args.source.now c.in-Err.error c.in-Err.ensures.fault)

pub returns-in-Err-clause-refused_with_blocks : goal.returns-in-Err-clause-refused_with_blocks
returns-in-Err-clause-refused_with_blocks c = rw c.answer_without_tokens.ensures (without_tokens true c.args.source.now c.in-Err.error c.in-Err.ensures.fault)
