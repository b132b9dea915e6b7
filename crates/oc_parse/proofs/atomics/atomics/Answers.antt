use Rattle.std.proofs.Common.{map, ap, ◌∙◌}
use Rattle.oc_tree.specs.View.{function_view, program_view}
use Rattle.oc_parse.specs.Collected.{functions_ifs_at}
use Rattle.oc_parse.proofs.Expanded.{picked_is}
use Rattle.oc_parse.proofs.atomics.atomics.Goals as goal

pub returns : goal.returns
returns c =
    picked_is (λ a. a.items) c.pick_numbers.result (program_view c.args.program.now) c.args.tokens.now _ _ (c.as_slice-2.ensures.value ∙ c.in_ok-begins.ensures)
    (c.as_slice-3.ensures.value ∙ c.in_ok-ifs.ensures ∙ ap (λ fs. functions_ifs_at 1 (map function_view fs)) c.as_slice.ensures.value) c.pick_numbers.ensures
