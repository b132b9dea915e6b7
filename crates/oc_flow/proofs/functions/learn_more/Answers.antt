use Rattle.std.proofs.Common.{◌<◌, ◌≤◌, ap, ◌∙◌, subst, length, arith}
use Rattle.std.proofs.lemmas.List.{length-map}
use Rattle.oc_tree.specs.Tree.{TProgram}
use Rattle.oc_tree.specs.View.{function_view}
use Rattle.oc_tree.specs.Checked.{TChecked, IsChecked}
use Rattle.oc_flow.proofs.Ranks.{ranked, falls}
use Rattle.oc_flow.proofs.Knows.{learns_turn}
use Rattle.oc_flow.proofs.functions.learn_more.Goals as goal

pub loop-f-preserved : goal.loop-f-preserved
loop-f-preserved c =
    let p = c.args.effects.now.program in
    let groups = c.args.effects.now.groups in
    let e = c.checked-checked.ensures in
    let checked : IsChecked p groups = subst (λ (t : TChecked). IsChecked t.program t.groups) e c.program.ensures.checked in
    let same = ap (λ (t : TProgram). length t.functions) c.program.ensures.same ∙ ap (λ (t : TChecked). length t.program.functions) e in
    let count = length-map c.program.result.now.functions.items function_view in
    let h : c.loop-f.f < length p.functions = omega (arith, same, count, c.len-f-end.ensures) in
    learns_turn p (ranked p groups checked) (falls p groups checked) c.loop-f.f c.args.known.now.items c.loop-f.known.items c.learn.new.known.items h c.loop-f.invariant c.in_ok-learn.ensures

pub returns : goal.returns
returns c =
    let p = c.args.effects.now.program in
    let same = ap (λ (t : TProgram). length t.functions) c.program.ensures.same ∙ ap (λ (t : TChecked). length t.program.functions) c.checked-checked.ensures in
    let count = length-map c.program.result.now.functions.items function_view in
    let end : length p.functions ≤ c.loop-f.f = omega (arith, same, count, c.len-f-end.ensures) in
    record { right = c.loop-f.invariant.right; below = λ d b f h m. c.loop-f.invariant.more d f b (omega arith) m }
