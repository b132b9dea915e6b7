use Rattle.std.proofs.Common.{◌≡◌, ◌∙◌, ◌++◌, map, length, arith}
use Rattle.oc_flow.specs.Variables.{from}
use Rattle.oc_needs.specs.View.{requirement_view}
use Rattle.oc_needs.specs.Code.{required_here, required_rows}
use Rattle.oc_needs.specs.CodeView.{rows_view}
use Rattle.oc_needs.proofs.Locals.{locals_many}
use Rattle.oc_needs.proofs.RequiredLaw.{function_more}
use Rattle.oc_needs.proofs.required.add_of_policy.Goals as goal

pub loop-function-preserved : goal.loop-function-preserved
loop-function-preserved c =
    let same = c.in_ok-body.ensures.summaries in
    let here = c.in_ok-body.ensures.function in
    let rows = rows_view c.in_ok-rows.rows.items in
    function_more c.args.summaries.now.program c.args.policy c.args.asked.now.policy rows c.loop-function.function (map requirement_view c.args.required.now.items)
    (map requirement_view c.loop-function.required.items) _ c.loop-function.invariant
    (c.in_ok-add_in_function.ensures ∙ (λ i. map requirement_view c.loop-function.required.items ++ required_here (same i).program c.args.policy c.args.asked.now.policy
    (rows_view (c.as_slice.ensures.value i)) (here i)))

pub returns : goal.returns
returns c =
    let p = c.args.summaries.now.program in
    let many = locals_many p c.args.locals.now c.requires.locals in
    let all : c.loop-function.function ≡ length p.functions = omega (arith, many) in
    c.loop-function.invariant ∙ (λ i. map requirement_view c.args.required.now.items ++ required_rows p c.args.policy c.args.asked.now.policy (c.in_ok-rows.ensures i) (from 0 (all i)))
