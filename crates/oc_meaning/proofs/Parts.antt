-- What a run tells are parts of a trace.
use Rattle.std.proofs.Common.{◌≡◌, List, [], ◌∷◌, ◌++◌, subst, sym, ap}
use Rattle.std.specs.Prelude.{ℤ}
use Rattle.oc_tree.specs.Tree.{TProgram}
use Rattle.oc_tree.specs.Marked.{TRegion}
use Rattle.oc_meaning.specs.Store.{Event, Store}
use Rattle.oc_meaning.specs.Exec.{Outcome, Went, Returned, Stopped, Trap, Short}
use Rattle.oc_meaning.specs.Run.{Ending, in_order, trace_at, trace_of, main_run, marked_run}
use Rattle.oc_meaning.specs.Parts.{AreParts}
use Rattle.oc_meaning.specs.Cuts.{events_in}
use Rattle.oc_meaning.proofs.Growing.{main_keeps}

AreParts-append : (xs ys : List Event) → AreParts xs → AreParts ys → AreParts (xs ++ ys)
AreParts-append [] ys h k = k
AreParts-append (x ∷ xs) ys h k = (h.0, AreParts-append xs ys h.1 k)

AreParts-in_order : (es : List Event) → AreParts es → AreParts (in_order es)
AreParts-in_order [] h = tt
AreParts-in_order (e ∷ es) h = AreParts-append (in_order es) (e ∷ []) (AreParts-in_order es h.1) (h.0, tt)

trace_parts : (o : Outcome) → AreParts (events_in o) → AreParts (trace_of o).events
trace_parts (Went σ) h = AreParts-append (in_order σ.events) _ (AreParts-in_order σ.events h) (tt, tt)
trace_parts (Returned v σ) h = AreParts-append (in_order σ.events) _ (AreParts-in_order σ.events h) (tt, tt)
trace_parts (Stopped Trap σ) h = AreParts-in_order σ.events h
trace_parts (Stopped Short σ) h = AreParts-in_order σ.events h

pub says_parts : (p : TProgram) (regions : List TRegion) (samples : List ℤ) → AreParts (marked_run p regions samples).events
says_parts p regions samples = trace_parts (main_run p regions samples) (main_keeps AreParts (λ e es may rest. (may, rest)) p regions samples tt)

-- of the store with which a run ends
pub parts_at : (p : TProgram) (regions : List TRegion) (samples : List ℤ) (ending : Ending) (σ : Store) → trace_at ending σ ≡ marked_run p regions samples → AreParts (in_order σ.events)
parts_at p regions samples ending σ e = subst AreParts (ap (λ t. t.events) (sym e)) (says_parts p regions samples)
