use Rattle.std.proofs.Common.{◌≡◌, ◌∙◌, [], length, arith}
use Rattle.oc_needs.specs.Code.{next_row, is_row_changed}
use Rattle.oc_needs.specs.CodeView.{level_view}
use Rattle.oc_needs.proofs.Froms.{push_view_more, push_from_more}
use Rattle.oc_needs.proofs.Locals.{locals_many}
use Rattle.oc_needs.proofs.NeedLevels.{next_level_is}
use Rattle.oc_needs.proofs.need.next_level.Goals as goal

pub loop-function-preserved : goal.loop-function-preserved
loop-function-preserved c =
    let p = c.args.summaries.now.program in
    let q = c.args.asked.now.policy in
    let old = level_view c.args.old.now in
    let same = c.in_ok-body.ensures.summaries in
    let here = c.in_ok-body.ensures.function in (
      push_view_more (λ v. v.items) (next_row p q old) c.loop-function.function c.loop-function.rows.items _ c.in_ok-row.row c.loop-function.invariant.0 c.in_ok-push.ensures.items
          (c.in_ok-row.ensures.row ∙ (λ i. next_row (same i).program q old (here i))),
      push_from_more (is_row_changed p q old) c.loop-function.function [] c.loop-function.changed.items _ c.in_ok-row.differs c.loop-function.invariant.1
          c.in_ok-push-2.ensures.items (c.in_ok-row.ensures.changed ∙ (λ i. is_row_changed (same i).program q old (here i))),
    )

pub returns : goal.returns
returns c =
    let p = c.args.summaries.now.program in
    let many = locals_many p c.args.locals.now c.requires.locals in
    let all : c.loop-function.function ≡ length p.functions = omega (arith, many) in
    next_level_is p c.args.asked.now.policy (level_view c.args.old.now) c.loop-function.function _ all c.loop-function.invariant.0 c.loop-function.invariant.1
