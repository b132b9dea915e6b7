-- What a program does over a list of samples.
use Rattle.std.specs.Prelude.{ℕ, zero, suc, ℤ, List, [], ◌∷◌, ◌++◌, length, map, codes, Option, Some, None, true, false, if◌then◌else◌}
use Rattle.std.specs.Str.{bytes_eq}
use Rattle.oc_tree.specs.Names.{Text}
use Rattle.oc_tree.specs.Tree.{TFunction, TProgram}
use Rattle.oc_tree.specs.declared.tree.Param.{Param}
use Rattle.oc_tree.specs.declared.tree.NvDecl.{NvDecl}
use Rattle.oc_tree.specs.declared.said.Said.{Said}
use Rattle.oc_tree.specs.declared.said.Said.TheVariants.{Ended}
use Rattle.oc_tree.specs.declared.said.Ending.TheVariants.{Halted}
use Rattle.oc_meaning.specs.Store.{Held, Local, Global, Event, Store, Binding, holding, noted}
use Rattle.oc_meaning.specs.Blocks.{set_home}
use Rattle.oc_tree.specs.Marked.{TRegion}
use Rattle.oc_meaning.specs.Exec.{Trap, Short, Outcome, Went, Returned, Stopped, Passed, Copied, Lent, leave, array_of, block_run}

-- Functions

-- the function of a name
abbrev pub function_named : List TFunction → Text → Option TFunction
function_named [] x = None
function_named (f ∷ fs) x = if bytes_eq x f.name then Some f else function_named fs x

-- the nonvolatile variables, which all functions see, the first of which has the number a
abbrev pub nv_env : ℕ → List Text → List Binding
nv_env a [] = []
nv_env a (x ∷ xs) =
    record { name = x; place = Global a; reference = false; fresh = false } ∷ nv_env (suc a) xs

-- where a function begins
pub record Frame : Type 0 where
  -- the variables that it sees
  pub env : List Binding
  -- what the local variables hold, the newest first
  pub locals : List Held

-- a parameter gets what was passed for it: a value makes a variable of the function's own, and a
-- reference is the place that was passed
abbrev pub with_param : Text → Passed → Frame → Frame
with_param x (Copied v) fr =
    record {
      env = record {
        name = x;
        place = Local (length fr.locals);
        reference = false;
        fresh = false;
      } ∷ fr.env;
      locals = holding v ∷ fr.locals;
    }
with_param x (Lent p) fr =
    record {
      env = record { name = x; place = p; reference = true; fresh = false } ∷ fr.env;
      locals = fr.locals;
    }

-- the parameters get what was passed for them, one after the other
abbrev pub with_params : List Param → List Passed → Frame → Frame
with_params [] ps fr = fr
with_params (q ∷ qs) [] fr = fr
with_params (q ∷ qs) (p ∷ ps) fr = with_params qs ps (with_param q.name p fr)

-- the program with its regions
module _ (p : TProgram) (regions : List TRegion) where
  -- the body of a function, which begins so; all its variables are gone behind it
  abbrev pub body_run : (Text → List Passed → Store → Outcome) → TFunction → Frame → Store → Outcome
  body_run call f fr σ =
      leave (length σ.locals) (block_run
      p.names regions call (set_home f.body) fr.env f.body (record σ { locals = fr.locals }))

  -- a function, where there is one, with what was passed for its parameters
  abbrev pub function_run : (Text → List Passed → Store → Outcome)
      → Option TFunction → List Passed → Store → Outcome
  function_run call None ps σ = Went σ
  function_run call (Some f) ps σ = body_run
      call f (with_params f.params ps (record { env = nv_env 0 p.names.nvs; locals = σ.locals })) σ

  -- a function executed, where calls go no deeper than a number. As deep as there are functions is
  -- enough: none calls itself
  abbrev pub call_to : ℕ → Text → List Passed → Store → Outcome
  call_to zero x ps σ = Went σ
  call_to (suc d) x ps σ = function_run (call_to d) (function_named p.functions x) ps σ

-- what the nonvolatile variables hold before a run
abbrev pub first_values : List NvDecl → List Held
first_values [] = []
first_values (d ∷ ds) = array_of d.initial d.words ∷ first_values ds

-- the state before a run over these samples
abbrev pub first_store : TProgram → List ℤ → Store
first_store p samples =
    record {
      locals = [];
      nv = first_values p.nv;
      left = samples;
      taken = 0;
      depth = 0;
      blocks = [];
      events = [];
    }

-- what comes of `main` over these samples
abbrev pub main_run : TProgram → List TRegion → List ℤ → Outcome
main_run p regions samples =
    call_to p regions (suc (length p.functions)) (codes "main") [] (first_store p samples)

-- Runs

-- how a run over a list of samples ended
pub data Ending : Type 0 where
  -- `main` went through
  AtEnd : Ending
  -- it trapped
  AtTrap : Ending
  -- an input found no sample left
  AtShort : Ending

-- what a run over a list of samples said, and how it ended
pub record Trace : Type 0 where
  -- the events in order
  pub events : List Event
  -- how it ended
  pub ending : Ending
  -- the nonvolatile words at that moment
  pub nv : List ℤ

-- events that stand newest first, turned around
abbrev pub in_order : List Event → List Event
in_order [] = []
in_order (e ∷ es) = in_order es ++ e ∷ []

-- the words of variables, one after the other
abbrev pub words_of : List Held → List ℤ
words_of [] = []
words_of (h ∷ hs) = h.words ++ words_of hs

-- what a run said that ended so at this state
abbrev pub trace_at : Ending → Store → Trace
trace_at ending σ = record { events = in_order σ.events; ending = ending; nv = words_of σ.nv }

-- what a run said that ends here by itself
abbrev pub ended : Store → Trace
ended σ = trace_at AtEnd (noted (Ended Halted) [] σ)

-- what a run said of which this came
abbrev pub trace_of : Outcome → Trace
trace_of (Went σ) = ended σ
trace_of (Returned v σ) = ended σ
trace_of (Stopped Trap σ) = trace_at AtTrap σ
trace_of (Stopped Short σ) = trace_at AtShort σ

-- the run with the marks of these regions: each execution of one that isn't inside an execution of another has its
-- `Entered` before and its `Committed` behind it
abbrev pub marked_run : TProgram → List TRegion → List ℤ → Trace
marked_run p regions samples = trace_of (main_run p regions samples)

-- the run of the source over these samples, without marks of regions
abbrev pub source_run : TProgram → List ℤ → Trace
source_run p samples = marked_run p [] samples

-- what a run said, without the samples on which it depends
abbrev pub said_in : Trace → List Said
said_in t = map (λ e. e.said) t.events
