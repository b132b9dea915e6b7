-- What the interpreter's values are in the meaning's terms.
use Rattle.oc_meaning.specs.Store as meant
use Rattle.oc_meaning.specs.Eval as evals
use Rattle.oc_meaning.specs.Exec as runs
use Rattle.oc_meaning.specs.Places.{place_view}
use Rattle.oc_interpreter.specs.declared.value.Got.{Got}
use Rattle.oc_interpreter.specs.declared.value.Got.TheVariants as gots
use Rattle.oc_interpreter.specs.declared.completion.Stop.{Stop}
use Rattle.oc_interpreter.specs.declared.completion.Stop.TheVariants as stops
use Rattle.oc_interpreter.specs.declared.completion.Completion.{Completion}
use Rattle.oc_interpreter.specs.declared.completion.Completion.TheVariants as completions
use Rattle.oc_interpreter.specs.declared.completion.Passed.{Passed}
use Rattle.oc_interpreter.specs.declared.completion.Passed.TheVariants as passings

abbrev pub got_view : Got → evals.Got
got_view (gots.Value v) = evals.Val v
got_view (gots.Traps k) = evals.Traps k

abbrev pub stop_view : Stop → runs.Stop
stop_view stops.Trapped = runs.Trap
stop_view stops.Short = runs.Short

-- an outcome with the store that it leaves
abbrev pub completion_at : Completion → meant.Store → runs.Outcome
completion_at completions.Went σ = runs.Went σ
completion_at (completions.Returned v) σ = runs.Returned v σ
completion_at (completions.Stopped s) σ = runs.Stopped (stop_view s) σ

abbrev pub passed_view : Passed → runs.Passed
passed_view (passings.Copied v) = runs.Copied v
passed_view (passings.Lent p) = runs.Lent (place_view p)
