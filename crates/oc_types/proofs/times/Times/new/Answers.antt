use Rattle.std.proofs.Common.{None, ap, ◌∙◌}
use Rattle.oc_tree.specs.Names.{names_seen}
use Rattle.oc_types.specs.Times.{times_on}
use Rattle.oc_types.proofs.TimesLaws.{all_counted}
use Rattle.oc_types.proofs.times.Times.new.Goals as goal

pub invariant_of-result : goal.invariant_of-result
invariant_of-result c = λ x.
    c.in_ok-singles.ensures x
    ∙ ap (λ l. times_on x None (names_seen l)) c.as_slice.ensures.value
    ∙ all_counted x (names_seen c.args.names.items)
