use Rattle.std.proofs.Common.{sym, ◌∙◌}
use Rattle.oc_tree.specs.View.{kind_view, program_view}
use Rattle.oc_tree.proofs.PartLaws.{known_of_own}
use Rattle.oc_types.proofs.known.own_known.Goals as goal

pub returns : goal.returns
returns c = c.kind_known.ensures ∙ sym (known_of_own (program_view c.args.top.now) c.args.scope.now (kind_view c.args.kind.now))
