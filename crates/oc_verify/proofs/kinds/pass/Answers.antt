use Rattle.std.proofs.Common.{sym, subst}
use Rattle.oc_verify.specs.Rules.{params_of}
use Rattle.oc_verify.specs.Tables.{Joins, passed_seen}
use Rattle.oc_verify.specs.Told.{kinds}
use Rattle.oc_verify.proofs.SeenLaws.{seen_set}
use Rattle.oc_verify.proofs.kinds.pass.Goals as goal

pub returns-clause-joins : goal.returns-clause-joins
returns-clause-joins c =
    subst (Joins (params_of c.args.facts.now c.args.callee) (passed_seen c.args.passed.now.items) c.args.callee (kinds c.args.tops.now c.args.ops))
    (sym (seen_set c.args.passed.now.items c.args.callee c.in_ok-codes.codes)) c.in_ok-codes.ensures.joins
