use Rattle.std.proofs.Common.{◌<◌, ap, ◌∙◌, subst, length, arith}
use Rattle.std.proofs.lemmas.List.{length-map}
use Rattle.oc_tree.specs.Tree.{TProgram}
use Rattle.oc_tree.specs.View.{function_view}
use Rattle.oc_tree.specs.Checked.{TChecked, IsChecked}
use Rattle.oc_flow.specs.Known.{function_rank}
use Rattle.oc_flow.proofs.Ranks.{small}
use Rattle.oc_flow.proofs.functions.learn_all.Goals as goal

pub loop-rank-preserved : goal.loop-rank-preserved
loop-rank-preserved c = record { right = c.in_ok-learn_more.ensures.right; below = c.in_ok-learn_more.ensures.below c.loop-rank._rank c.loop-rank.invariant.below }

pub returns-clause-all : goal.returns-clause-all
returns-clause-all c = λ f h.
    let p = c.args.effects.now.program in
    let groups = c.args.effects.now.groups in
    let e = c.checked-checked.ensures in
    let checked : IsChecked p groups = subst (λ (t : TChecked). IsChecked t.program t.groups) e c.program.ensures.checked in
    let low : function_rank p f < length p.functions = small p groups checked f h in
    let same = ap (λ (t : TProgram). length t.functions) c.program.ensures.same ∙ ap (λ (t : TChecked). length t.program.functions) e in
    let count = length-map c.program.result.now.functions.items function_view in
    c.loop-rank.invariant.below f h (omega (arith, low, same, count, c.len-count.ensures))
