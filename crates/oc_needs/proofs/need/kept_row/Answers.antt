use Rattle.std.proofs.Common.{◌∙◌, sym}
use Rattle.oc_needs.proofs.SiteLists.{empty_is}
use Rattle.oc_needs.proofs.need.kept_row.Goals as goal

pub returns-then-is_empty-clause-row : goal.returns-then-is_empty-clause-row
returns-then-is_empty-clause-row c = c.new.ensures.items ∙ sym (empty_is c.args.row.now (sym c.is_empty.ensures ∙ c.if-is_empty.true))
