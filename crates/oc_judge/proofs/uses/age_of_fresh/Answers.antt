use Rattle.std.proofs.Common.{sym, ap, ◌∙◌, arith}
use Rattle.oc_tree.specs.Names.{names_seen}
use Rattle.oc_judge.specs.Fresh.{with_names}
use Rattle.oc_judge.specs.Values.{age_view}
use Rattle.oc_judge.proofs.FreshLaws.{with_names_taken, with_names_none, with_names_is}
use Rattle.oc_judge.proofs.uses.age_of_fresh.Goals as goal

pub loop-name-preserved : goal.loop-name-preserved
loop-name-preserved c =
    ap (with_names c.args.scope.now c.args.store.now (names_seen c.pop.new.self.items)) c.with_name-age.ensures
    ∙ sym (with_names_taken c.args.scope.now c.args.store.now _ _ _ (age_view c.loop-name.age) c.in-Some.ensures.items) ∙ c.loop-name.invariant

pub returns : goal.returns
returns c =
    sym (with_names_none c.args.scope.now c.args.store.now c.loop-name.names.items (age_view c.loop-name.age) (omega (arith, c.in_default.ensures.cases.0, c.loop-name.names.ok.0)))
    ∙ c.loop-name.invariant ∙ with_names_is c.args.scope.now c.args.store.now _
