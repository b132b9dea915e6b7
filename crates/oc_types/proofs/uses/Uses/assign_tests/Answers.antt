use Rattle.std.proofs.Common.{◌∙◌, ap, map}
use Rattle.std.specs.Prelude.{is_some}
use Rattle.oc_tree.specs.Assigned.{function_assigns}
use Rattle.oc_tree.specs.Calls.{place}
use Rattle.oc_tree.specs.View.{function_view}
use Rattle.oc_types.proofs.ShownLaws.{assign_tests}
use Rattle.oc_types.proofs.uses.Uses.assign_tests.Goals as goal

pub returns : goal.returns
returns c =
    let x = c.args.name.now in
    let fs = map function_view c.self.inside.functions.now in
    c.in_ok-tests.ensures
    ∙ ap (map (λ names. is_some (place names x))) (c.as_slice.ensures.value ∙ c.self.invariant.2)
    ∙ assign_tests fs x fs
    ∙ ap (λ gs. map (function_assigns (map function_view gs) x) (map function_view gs)) c.self.view_is
