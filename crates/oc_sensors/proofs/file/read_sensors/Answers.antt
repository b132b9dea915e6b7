use Rattle.std.proofs.Common.{◌+◌, subst, sym}
use Rattle.oc_sensors.specs.History.{ShowsWords, Told}
use Rattle.oc_sensors.proofs.Words.{history_word}
use Rattle.oc_sensors.proofs.Orders.{rows_fit}
use Rattle.oc_sensors.proofs.file.read_sensors.Goals as goal

pub new-requires-clause-ordered : goal.new-requires-clause-ordered
new-requires-clause-ordered c = rows_fit c.args.names.now (c.step_on.new.self.number + 1) 0 c.step_on.new.self.left c.in_ok-read.read.items c.in_ok-read.ensures.ok

pub new-requires-clause-words : goal.new-requires-clause-words
new-requires-clause-words c = history_word c.args.names.now (c.step_on.new.self.number + 1) 0 c.step_on.new.self.left c.in_ok-read.read.items c.in_ok-read.ensures.ok

pub returns-clause-words : goal.returns-clause-words
returns-clause-words c =
    subst (λ (s : Told). ShowsWords s.rows) (sym c.in_ok-new.ensures)
    (history_word c.args.names.now (c.step_on.new.self.number + 1) 0 c.step_on.new.self.left c.in_ok-read.read.items c.in_ok-read.ensures.ok)
