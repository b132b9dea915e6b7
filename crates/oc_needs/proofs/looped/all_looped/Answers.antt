use Rattle.std.proofs.Common.{◌≡◌, ◌∙◌, sym, ap, map, length}
use Rattle.std.proofs.lemmas.List.{length-map}
use Rattle.oc_flow.specs.Variables.{from}
use Rattle.oc_needs.specs.Code.{looped_at}
use Rattle.oc_needs.specs.CodeView.{sites_view}
use Rattle.oc_needs.proofs.Froms.{length_map_from, push_view_more}
use Rattle.oc_needs.proofs.looped.all_looped.Goals as goal

pub loop-function-preserved : goal.loop-function-preserved
loop-function-preserved c =
    let same = c.in_ok-body.ensures.summaries in
    let here = c.in_ok-body.ensures.function in
    push_view_more (λ v. sites_view v.items) (looped_at c.args.summaries.now.program) c.loop-function.function c.loop-function.tables.items _ c.in_ok-rows.rows
    c.loop-function.invariant c.in_ok-push.ensures.items (c.in_ok-rows.ensures ∙ (λ i. looped_at (same i).program (here i)))

pub returns : goal.returns
returns c =
    let p = c.args.summaries.now.program in
    let all : c.loop-function.function ≡ length c.loop-function.tables.items =
    sym (length_map_from (looped_at p) 0 c.loop-function.function) ∙ (sym (ap length c.loop-function.invariant) ∙ length-map c.loop-function.tables.items (λ v. sites_view v.items)) in
    c.loop-function.invariant ∙ ap (λ n. map (looped_at p) (from 0 n)) all
