use Rattle.std.proofs.Common.{sym, ap, ◌∙◌, arith}
use Rattle.oc_interpreter.specs.Fresh.{with_names}
use Rattle.oc_tree.specs.Names.{names_seen}
use Rattle.oc_interpreter.proofs.FreshLaws.{with_names_taken, with_names_none, with_names_is}
use Rattle.oc_interpreter.proofs.uses.samples_of_fresh.Goals as goal

pub loop-name-preserved : goal.loop-name-preserved
loop-name-preserved c =
    ap (with_names c.args.scope.now c.args.store.now (names_seen c.pop.new.self.items)) c.in_ok-samples.ensures
    ∙ sym (with_names_taken c.args.scope.now c.args.store.now _ _ _ c.loop-name.samples c.in-Some.ensures.items) ∙ c.loop-name.invariant

pub returns : goal.returns
returns c =
    sym (with_names_none c.args.scope.now c.args.store.now c.loop-name.names.items c.loop-name.samples (omega (arith, c.in_default.ensures.cases.0, c.loop-name.names.ok.0)))
    ∙ c.loop-name.invariant ∙ ap (with_names c.args.scope.now c.args.store.now (names_seen c.args.names.items)) c.none-samples.ensures ∙ with_names_is c.args.scope.now c.args.store.now _
