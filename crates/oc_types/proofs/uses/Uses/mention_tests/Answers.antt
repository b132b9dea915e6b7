use Rattle.std.proofs.Common.{◌∙◌, ap, map}
use Rattle.std.specs.Prelude.{is_some}
use Rattle.oc_tree.specs.Calls.{function_mentions, place}
use Rattle.oc_tree.specs.View.{function_view}
use Rattle.oc_types.proofs.ShownLaws.{mention_tests}
use Rattle.oc_types.proofs.uses.Uses.mention_tests.Goals as goal

pub returns : goal.returns
returns c =
    let x = c.args.name.now in
    c.in_ok-tests.ensures
    ∙ ap (map (λ names. is_some (place names x))) (c.as_slice.ensures.value ∙ c.self.invariant.1)
    ∙ mention_tests x (map function_view c.self.inside.functions.now)
    ∙ ap (λ fs. map (function_mentions x) (map function_view fs)) c.self.view_is
