-- The steps of a run over ages, for what runs.
use Rattle.std.specs.Prelude.{◌≡◌, ℕ, suc, List, [], length, map, codes, Option, Some, None}
use Rattle.oc_tree.specs.Names.{Text}
use Rattle.oc_tree.specs.Tree.{TCall, TFunction, TKind, TProgram, TRight, TStmts}
use Rattle.oc_tree.specs.Marked.{TRegion}
use Rattle.oc_tree.specs.View.{program_view}
use Rattle.oc_tree.specs.Regions.{region_view}
use Rattle.oc_meaning.specs.Store.{Binding, Store, Value}
use Rattle.oc_meaning.specs.Exec.{Outcome, Passed}
use Rattle.oc_steps.specs.Ages.{join_ages, of_ages}
use Rattle.oc_steps.specs.Steps.{Frame, Inside, Step, Goes, Asks, Over}
use Rattle.oc_steps.specs.Steps as steps
use Rattle.oc_judge.specs.Stores.{completion_at}
use Rattle.oc_judge.specs.declared.running.Running.{Running}
use Rattle.oc_judge.specs.declared.going.Going.{Going}
use Rattle.oc_judge.specs.declared.going.Going.TheVariants as goings

-- a step that leaves these frames and this store
abbrev pub step_at : Going → List Frame → Store → Step
step_at (goings.Goes o) fs σ = Goes fs (completion_at o σ)
step_at (goings.Asks s) fs σ = Asks s fs σ

-- where no step is left, nothing was done
abbrev pub IsKept : Option Going → List Frame → Store → List Frame → Store → Type 0
IsKept None fs σ fs' σ' = (fs' ≡ fs) × (σ' ≡ σ)
IsKept (Some g) fs σ fs' σ' = Unit {0}

abbrev pub program_of : Running → TProgram
program_of r = program_view r.program.now

abbrev pub regions_of : Running → List TRegion
regions_of r = map region_view r.regions.now

abbrev pub function_here : Running → ℕ → Option TFunction → List Passed → List Frame → Store → Step
function_here r = steps.step_function (program_of r) (regions_of r) join_ages of_ages

abbrev pub passed_here : Running → ℕ → Text → List Passed → List Frame → Store → Step
passed_here r = steps.step_passed (program_of r) (regions_of r) join_ages of_ages

-- `main` is called
abbrev pub main_here : Running → List Frame → Store → Step
main_here r = passed_here r (suc (length (program_of r).functions)) (codes "main") []

abbrev pub call_here : Running → Inside → List Binding → ℕ → TCall → List Frame → Store → Step
call_here r = steps.step_call (program_of r) (regions_of r) join_ages of_ages

abbrev pub right_here : Running → Inside → List Binding → ℕ → TRight → List Frame → Store → Step
right_here r = steps.step_right (program_of r) (regions_of r) join_ages of_ages

abbrev pub taken_here : Running → List Binding → ℕ → TKind → Value → List Frame → Store → Step
taken_here r = steps.taken (program_of r) (regions_of r) join_ages of_ages

abbrev pub work_here : Running → Inside → List Binding → ℕ → TKind → List Frame → Store → Step
work_here r = steps.work (program_of r) (regions_of r) join_ages of_ages

abbrev pub rest_here : Running → Inside → List Binding → TStmts → List Frame → Store → Step
rest_here r = steps.step_rest (program_of r) (regions_of r) join_ages of_ages

abbrev pub went_here : Running → Frame → List Frame → Store → Step
went_here r = steps.step_went (program_of r) (regions_of r) join_ages of_ages

abbrev pub step_here : Running → List Frame → Outcome → Step
step_here r = steps.step (program_of r) (regions_of r) join_ages of_ages
