use Rattle.oc_names.proofs.Entries.{table_new}
use Rattle.oc_names.proofs.table.Numbers.add_first.Goals as goal

pub returns-in_ok-add-in-None : goal.returns-in_ok-add-in-None
returns-in_ok-add-in-None c = λ x rest. table_new c.args.self.now c.add.new.self c.args.name.now x c.args.number rest c.in_ok-add-in-None.ensures
