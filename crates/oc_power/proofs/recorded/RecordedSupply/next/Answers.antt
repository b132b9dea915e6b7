use Rattle.std.proofs.Common.{◌∙◌, sym}
use Rattle.oc_power.proofs.Pieces.{at_place}
use Rattle.oc_power.proofs.recorded.RecordedSupply.next.Goals as goal

pub returns-clause-first : goal.returns-clause-first
returns-clause-first c = sym c.self.view_is ∙ at_place c.self.inside.rows c.self.inside.place c.period-period.result c.period-period.ensures
