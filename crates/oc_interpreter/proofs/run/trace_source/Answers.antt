use Rattle.std.proofs.Common.{◌≡◌, [], ap, ◌∙◌}
use Rattle.oc_tree.specs.View.{program_view}
use Rattle.oc_meaning.specs.Run.{first_store, trace_at, trace_of}
use Rattle.oc_meaning.specs.Unmarked.{without_marks}
use Rattle.oc_meaning.proofs.Bare.{only_tell}
use Rattle.oc_interpreter.specs.Runs.{main_from}
use Rattle.oc_interpreter.specs.Traces.{ending_of, trace_view}
use Rattle.oc_meaning.proofs.Parts.{parts_at}
use Rattle.oc_interpreter.proofs.run.trace_source.Goals as goal

pub source_trace-requires : goal.source_trace-requires
source_trace-requires c =
    let p = program_view c.args.program.now in
    let start : c.in_ok-store.store ≡ first_store p c.args.samples.now = c.in_ok-store.ensures in
    let ran : trace_at (ending_of c.in_ok-outcome.outcome) c.run.new.store ≡ trace_of (main_from p [] c.in_ok-store.store) = c.in_ok-outcome.ensures.runs in
    parts_at p [] c.args.samples.now (ending_of c.in_ok-outcome.outcome) c.run.new.store (ran ∙ ap (λ σ. trace_of (main_from p [] σ)) start)

pub returns : goal.returns
returns c =
    let p = program_view c.args.program.now in
    let start : c.in_ok-store.store ≡ first_store p c.args.samples.now = c.in_ok-store.ensures in
    let ran : trace_at (ending_of c.in_ok-outcome.outcome) c.run.new.store ≡ trace_of (main_from p [] c.in_ok-store.store) = c.in_ok-outcome.ensures.runs in
    let seen : trace_view c.in_ok-trace.trace ≡ without_marks (trace_at (ending_of c.in_ok-outcome.outcome) c.run.new.store) = c.in_ok-trace.ensures in
    seen ∙ ap without_marks (ran ∙ ap (λ σ. trace_of (main_from p [] σ)) start) ∙ only_tell p [] c.args.samples.now
