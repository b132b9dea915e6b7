use Rattle.std.proofs.Common.{ap, ◌∙◌}
use Rattle.oc_verify.specs.Tables.{passed_seen}
use Rattle.oc_verify.proofs.SeenLaws.{none_more}
use Rattle.oc_verify.proofs.kinds.none_passed.Goals as goal

pub loop-function-preserved : goal.loop-function-preserved
loop-function-preserved c = ap passed_seen c.in_ok-push.ensures.items ∙ none_more c.loop-function.passed.items c.loop-function._function c.loop-function.invariant
