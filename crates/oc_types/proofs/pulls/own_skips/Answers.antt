use Rattle.std.proofs.Common.{sym, ◌∙◌}
use Rattle.oc_tree.specs.View.{kind_view}
use Rattle.oc_tree.proofs.PartLaws.{skips_of_own}
use Rattle.oc_types.proofs.pulls.own_skips.Goals as goal

pub returns : goal.returns
returns c = c.kind_skips.ensures ∙ sym (skips_of_own (kind_view c.args.kind.now))
