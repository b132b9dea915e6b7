-- What calls pass, in the meaning's terms.
use Rattle.std.specs.Prelude.{map, Result, Ok, Err}
use Rattle.oc_tree.specs.declared.said.TrapKind.{TrapKind}
use Rattle.oc_meaning.specs.Exec as runs
use Rattle.oc_judge.specs.Values.{value_view}
use Rattle.oc_meaning.specs.Places.{place_view}
use Rattle.oc_judge.specs.declared.arguments.Passed.{Passed}
use Rattle.oc_judge.specs.declared.arguments.Passed.TheVariants as passings
use Rattle.oc_judge.specs.declared.arguments.Passing.{Passing}
use Rattle.oc_judge.specs.declared.arguments.Passing.TheVariants as passed

abbrev pub passed_view : Passed → runs.Passed
passed_view (passings.Copied v) = runs.Copied (value_view v)
passed_view (passings.Lent p) = runs.Lent (place_view p)

-- an argument before the others
abbrev pub before : Result Passed TrapKind → runs.Passing → runs.Passing
before (Ok p) rest = runs.passed_first (passed_view p) rest
before (Err k) rest = runs.Breaks k

abbrev pub passing_view : Passing → runs.Passing
passing_view (passed.Passes ps) = runs.Passes (map passed_view ps.items)
passing_view (passed.Breaks k) = runs.Breaks k
