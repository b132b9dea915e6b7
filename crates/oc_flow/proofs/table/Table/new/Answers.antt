use Rattle.std.proofs.Common.{ap, ◌∙◌}
use Rattle.oc_flow.specs.Known.{linked}
use Rattle.oc_flow.proofs.Cells.{none_linked}
use Rattle.oc_flow.proofs.table.Table.new.Goals as goal

pub returns-clause-none : goal.returns-clause-none
returns-clause-none c = λ u v hu hv. ap (λ cells. linked (record { variables = c.in_ok-numbering.numbering; cells = cells }) u v) c.in_ok-rows.ensures ∙ none_linked c.in_ok-numbering.numbering _ u v
