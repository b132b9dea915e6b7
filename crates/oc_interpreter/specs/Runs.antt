-- What the statements of a run do, in the order of the code.
use Rattle.std.specs.Prelude.{ℕ, suc, List, [], length, map, codes, Option, Some, None, Result, Ok, Err}
use Rattle.oc_tree.specs.Names.{Text, names_view}
use Rattle.oc_tree.specs.Tree.{TCall, TRight, TKind, while_do, return, TBlock, block, TStmts, TProgram}
use Rattle.oc_tree.specs.Marked.{TRegion}
use Rattle.oc_tree.specs.View.{block_view, program_view}
use Rattle.oc_tree.specs.Regions.{region_view}
use Rattle.oc_tree.specs.declared.said.TrapKind.{TrapKind}
use Rattle.oc_tree.specs.declared.said.Said.TheVariants.{Showed}
use Rattle.oc_tree.specs.declared.said.Shown.TheVariants.{Used, Finished}
use Rattle.oc_meaning.specs.Store.{Value, Binding, Store, noted}
use Rattle.oc_meaning.specs.Uses.{begins_use, ends_use, is_fresh, use_samples}
use Rattle.oc_meaning.specs.Blocks.{set_home}
use Rattle.oc_meaning.specs.Exec as runs
use Rattle.oc_meaning.specs.Run.{call_to}
use Rattle.oc_interpreter.specs.declared.completion.Stop.{Stop}
use Rattle.oc_interpreter.specs.declared.completion.Passed.{Passed}
use Rattle.oc_interpreter.specs.declared.arguments.Passing.{Passing}
use Rattle.oc_interpreter.specs.declared.arguments.Passing.TheVariants as passings
use Rattle.oc_interpreter.specs.declared.running.Running.{Running}
use Rattle.oc_interpreter.specs.Seen.{passed_view, stop_view}

-- ---- the meaning's runs, for what runs

-- a function called from here
abbrev pub callee : Running → Text → List runs.Passed → Store → runs.Outcome
callee r = call_to (program_view r.program.now) (map region_view r.regions.now) r.depth

abbrev pub call_here : Running → List Binding → ℕ → Store → TCall → runs.Outcome
call_here r =
    runs.call_run (names_view r.program.now.names)
    (map region_view r.regions.now) (callee r) (set_home (block_view r.body.now))

abbrev pub right_here : Running → List Binding → ℕ → Store → TRight → runs.Outcome
right_here r =
    runs.right_run (names_view r.program.now.names)
    (map region_view r.regions.now) (callee r) (set_home (block_view r.body.now))

abbrev pub kind_here : Running → List Binding → ℕ → TKind → Store → runs.Outcome
kind_here r =
    runs.kind_run (names_view r.program.now.names)
    (map region_view r.regions.now) (callee r) (set_home (block_view r.body.now))

abbrev pub block_here : Running → List Binding → TBlock → Store → runs.Outcome
block_here r =
    runs.block_run (names_view r.program.now.names)
    (map region_view r.regions.now) (callee r) (set_home (block_view r.body.now))

abbrev pub stmts_here : Running → List Binding → TStmts → Store → runs.Outcome
stmts_here r =
    runs.stmts_run (names_view r.program.now.names)
    (map region_view r.regions.now) (callee r) (set_home (block_view r.body.now))

abbrev pub stmts_in : TBlock → TStmts
stmts_in (block id ss) = ss

-- a statement with its region and its use
abbrev pub stmt_here : Running → List Binding → ℕ → TKind → Store → runs.Outcome
stmt_here r env n k σ =
    runs.finished (λ τ. runs.closed (runs.ended_by (map region_view r.regions.now) n)
    (runs.done (ends_use (is_fresh env) k) n (use_samples env k σ) τ))
    (kind_here r env n k (runs.used (begins_use (is_fresh env) k)
    n (use_samples env k σ) (runs.opened (runs.begun_by (map region_view r.regions.now) n) σ)))

-- what `main` does from a store on
abbrev pub main_from : TProgram → List TRegion → Store → runs.Outcome
main_from p rs σ = call_to p rs (suc (length p.functions)) (codes "main") [] σ

-- ---- uses that are there or not

abbrev pub begun : Option (List ℕ) → ℕ → Store → Store
begun None n σ = σ
begun (Some samples) n σ = noted (Showed (Used n)) samples σ

abbrev pub ended : Option (List ℕ) → ℕ → Store → Store
ended None n σ = σ
ended (Some samples) n σ = noted (Showed (Finished n)) samples σ

-- a `while` begins its uses itself
abbrev pub begun_at : TKind → Option (List ℕ) → ℕ → Store → Store
begun_at (while_do c t b) uses n σ = σ
begun_at k uses n σ = begun uses n σ

-- a `while` and a `return` end their uses themselves
abbrev pub ended_at : TKind → Option (List ℕ) → ℕ → Store → Store
ended_at (while_do c t b) uses n σ = σ
ended_at (return e) uses n σ = σ
ended_at k uses n σ = ended uses n σ

-- ---- right sides and arguments

-- on with a value, or the run has stopped
abbrev pub settled : Result Value Stop → (Value → Store → runs.Outcome) → Store → runs.Outcome
settled (Ok v) go σ = go v σ
settled (Err s) go σ = runs.Stopped (stop_view s) σ

-- an argument before the others
abbrev pub before : Result Passed TrapKind → runs.Passing → runs.Passing
before (Ok p) rest = runs.passed_first (passed_view p) rest
before (Err k) rest = runs.Breaks k

abbrev pub passing_view : Passing → runs.Passing
passing_view (passings.Passes ps) = runs.Passes (map passed_view ps.items)
passing_view (passings.Breaks k) = runs.Breaks k
