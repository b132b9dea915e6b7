-- The worked reports pass the tests.
use Rattle.std.proofs.Common.{refl}
use Rattle.oc_tree.specs.Worked.{fresh_input, fresh_writes, set_of_two, carried_input}
use Rattle.oc_honest.specs.Worked.{WorkedReports}
use Rattle.oc_honest.proofs.Deciding.{tests_tell}

pub worked_reports : WorkedReports
worked_reports = record {
  broken_off = record { shown = refl; timely = tests_tell fresh_input _ refl };
  undone = record { shown = refl; timely = tests_tell fresh_writes _ refl };
  behind_commit = record { shown = refl; timely = tests_tell fresh_input _ refl };
  behind_set = record { shown = refl; timely = tests_tell set_of_two _ refl };
  third_attempt = record { shown = refl; timely = tests_tell carried_input _ refl };
}
