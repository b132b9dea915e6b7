use Rattle.std.proofs.Common.{rules, ◌≡◌, ◌+◌, suc, ap, ◌∙◌, [], length, map, arith}
use Rattle.std.specs.Prelude.{codes}
use Rattle.std.proofs.lemmas.List.{length-map}
use Rattle.oc_tree.specs.View.{function_view}
use Rattle.oc_judge.specs.Frames.{frames_view}
use Rattle.oc_judge.specs.Going.{passed_here, program_of}
use Rattle.oc_judge.specs.Passing.{passed_view}
use Rattle.oc_judge.proofs.way.begin_main.Goals as goal

pub returns : goal.returns
returns c =
    let r = c.args.run.now in
    let k = frames_view c.args.frames.now.items in
    let σ = c.args.store.now in
    let fs = c.as_slice-functions.result.now in
    let x = c.new-main.result in
    let ps = map passed_view c.new-passed.result.items in
    let n = suc (length (program_of r).functions) in
    let depth : length fs + 1 ≡ n = omega (arith, ap length c.as_slice-functions.ensures.value, length-map r.program.now.functions.items function_view) in
    let name : x ≡ codes "main" = search rules in
    let none : ps ≡ [] = ap (map passed_view) c.new-passed.ensures.items in
    c.in_ok-begun.ensures
    ∙ ap (λ d. passed_here r d x ps k σ) depth
    ∙ ap (λ m. passed_here r n m ps k σ) name
    ∙ ap (λ l. passed_here r n (codes "main") l k σ) none
