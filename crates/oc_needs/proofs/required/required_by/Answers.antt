use Rattle.std.proofs.Common.{◌≡◌, ◌∙◌, ap, sym, [], arith, rules}
use Rattle.oc_needs.specs.View.{requirement_view}
use Rattle.std.proofs.Common.{map}
use Rattle.oc_needs.specs.Code.{required_by_from}
use Rattle.oc_needs.proofs.RequiredLaw.{policy_more}
use Rattle.oc_needs.proofs.SiteLists.{empty_is}
use Rattle.oc_needs.proofs.required.required_by.Goals as goal

pub returns-then-is_empty : goal.returns-then-is_empty
returns-then-is_empty c =
    let none : c.args.policies.now ≡ [] = empty_is _ (sym c.is_empty.ensures ∙ c.if-is_empty.true) in
    ap (map requirement_view) c.new.ensures.items ∙ ap (required_by_from c.args.summaries.now.program 0) (sym none)

pub loop-number-preserved : goal.loop-number-preserved
loop-number-preserved c =
    policy_more c.args.summaries.now.program c.loop-number.number c.args.policies.now _ (map requirement_view c.loop-number.required.items) _ _ (omega arith)
    (search rules) c.in_ok-add_numbered.ensures c.loop-number.invariant
