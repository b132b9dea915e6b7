use Rattle.std.proofs.Common.{◌≡◌, ◌≤◌, ◌<◌, ap, sym, ◌∙◌, subst, length, map, take, le-leb, arith}
use Rattle.oc_tree.specs.View.{program_view}
use Rattle.oc_tree.specs.Regions.{region_view}
use Rattle.oc_meaning.specs.Store.{Store}
use Rattle.oc_meaning.specs.Run.{first_store, in_order, marked_run, trace_at, trace_of}
use Rattle.oc_meaning.specs.Unmarked.{without_marks}
use Rattle.oc_meaning.proofs.Bare.{only_tell}
use Rattle.oc_meaning.specs.Cuts.{Begins}
use Rattle.oc_interpreter.specs.Runs.{main_from}
use Rattle.oc_interpreter.specs.Traces.{ending_of}
use Rattle.oc_interpreter.proofs.FirstParts.{first_all, first_begun, length-in_order, more_begun, parts_begun}
use Rattle.oc_interpreter.proofs.run.trace_marked.Goals as goal

pub cut_trace-requires-clause-parts : goal.cut_trace-requires-clause-parts
cut_trace-requires-clause-parts c =
    let p = program_view c.args.program.now in
    let rs = map region_view c.args.regions.now in
    let σ = c.run-ran.new.store in
    let start : c.in_ok-store.store ≡ first_store p c.args.samples.now = c.in_ok-store.ensures in
    let told : Begins (in_order σ.events) (trace_of (main_from p rs c.in_ok-store.store)).events = c.run-ran.ensures.begins in
    let begins = subst (λ (s : Store). Begins (in_order σ.events) (trace_of (main_from p rs s)).events) start told in
    parts_begun p rs c.args.samples.now (in_order σ.events) begins

pub whole_trace-requires : goal.whole_trace-requires
whole_trace-requires c =
    let p = program_view c.args.program.now in
    let rs = map region_view c.args.regions.now in
    let σ = c.run-ran.new.store in
    let start : c.in_ok-store.store ≡ first_store p c.args.samples.now = c.in_ok-store.ensures in
    let told : Begins (in_order σ.events) (trace_of (main_from p rs c.in_ok-store.store)).events = c.run-ran.ensures.begins in
    let begins = subst (λ (s : Store). Begins (in_order σ.events) (trace_of (main_from p rs s)).events) start told in
    parts_begun p rs c.args.samples.now (in_order σ.events) begins

pub returns-then-count_told-limit-clause-parts : goal.returns-then-count_told-limit-clause-parts
returns-then-count_told-limit-clause-parts c =
    let p = program_view c.args.program.now in
    let rs = map region_view c.args.regions.now in
    let σ = c.run-ran.new.store in
    let start : c.in_ok-store.store ≡ first_store p c.args.samples.now = c.in_ok-store.ensures in
    let told : Begins (in_order σ.events) (trace_of (main_from p rs c.in_ok-store.store)).events = c.run-ran.ensures.begins in
    let begins = subst (λ (s : Store). Begins (in_order σ.events) (trace_of (main_from p rs s)).events) start told in
    let more : c.args.limit ≤ length σ.events = omega (arith, c.count_told.ensures) in
    c.in_ok-trace.ensures.parts ∙ first_begun c.args.limit σ.events (marked_run p rs c.args.samples.now).events more begins

pub returns-then-count_told-limit-clause-whole : goal.returns-then-count_told-limit-clause-whole
returns-then-count_told-limit-clause-whole c =
    let p = program_view c.args.program.now in
    let rs = map region_view c.args.regions.now in
    let σ = c.run-ran.new.store in
    let start : c.in_ok-store.store ≡ first_store p c.args.samples.now = c.in_ok-store.ensures in
    let told : Begins (in_order σ.events) (trace_of (main_from p rs c.in_ok-store.store)).events = c.run-ran.ensures.begins in
    let begins = subst (λ (s : Store). Begins (in_order σ.events) (trace_of (main_from p rs s)).events) start told in
    let more : c.args.limit < length σ.events = omega (arith, c.count_told.ensures) in
    c.in_ok-trace.ensures.cut ∙ sym (more_begun c.args.limit σ.events (marked_run p rs c.args.samples.now).events more begins)

pub returns-clause-whole : goal.returns-clause-whole
returns-clause-whole c =
    let p = program_view c.args.program.now in
    let rs = map region_view c.args.regions.now in
    let σ = c.run-ran.new.store in
    let start : c.in_ok-store.store ≡ first_store p c.args.samples.now = c.in_ok-store.ensures in
    let ending = ending_of c.in_ok-outcome.outcome in
    let started : trace_at ending σ ≡ trace_of (main_from p rs c.in_ok-store.store) = c.in_ok-outcome.ensures.runs in
    let ran : trace_at ending σ ≡ marked_run p rs c.args.samples.now = started ∙ ap (λ s. trace_of (main_from p rs s)) start in
    let many : length (marked_run p rs c.args.samples.now).events ≡ length σ.events = sym (sym (length-in_order σ.events) ∙ ap (λ t. length t.events) ran) in
    c.in_ok-trace-2.ensures.whole
    ∙ sym (le-leb (length (marked_run p rs c.args.samples.now).events) c.args.limit (omega (arith, many, c.count_told.ensures)))

pub returns-clause-parts : goal.returns-clause-parts
returns-clause-parts c =
    let p = program_view c.args.program.now in
    let rs = map region_view c.args.regions.now in
    let σ = c.run-ran.new.store in
    let start : c.in_ok-store.store ≡ first_store p c.args.samples.now = c.in_ok-store.ensures in
    let ending = ending_of c.in_ok-outcome.outcome in
    let started : trace_at ending σ ≡ trace_of (main_from p rs c.in_ok-store.store) = c.in_ok-outcome.ensures.runs in
    let ran : trace_at ending σ ≡ marked_run p rs c.args.samples.now = started ∙ ap (λ s. trace_of (main_from p rs s)) start in
    let few : length σ.events ≤ c.args.limit = omega (arith, c.count_told.ensures) in
    c.in_ok-trace-2.ensures.parts ∙ sym (first_all c.args.limit σ.events few) ∙ ap (λ t. take c.args.limit t.events) ran

pub returns-clause-told : goal.returns-clause-told
returns-clause-told c =
    let p = program_view c.args.program.now in
    let rs = map region_view c.args.regions.now in
    let start : c.in_ok-store.store ≡ first_store p c.args.samples.now = c.in_ok-store.ensures in
    let ending = ending_of c.in_ok-outcome.outcome in
    let started : trace_at ending c.run-ran.new.store ≡ trace_of (main_from p rs c.in_ok-store.store) = c.in_ok-outcome.ensures.runs in
    let ran : trace_at ending c.run-ran.new.store ≡ marked_run p rs c.args.samples.now = started ∙ ap (λ s. trace_of (main_from p rs s)) start in
    λ _. c.in_ok-trace-2.ensures.parts ∙ ap (λ t. t.events) ran

pub returns-clause-source : goal.returns-clause-source
returns-clause-source c =
    let p = program_view c.args.program.now in
    let rs = map region_view c.args.regions.now in
    let start : c.in_ok-store.store ≡ first_store p c.args.samples.now = c.in_ok-store.ensures in
    let ending = ending_of c.in_ok-outcome.outcome in
    let started : trace_at ending c.run-ran.new.store ≡ trace_of (main_from p rs c.in_ok-store.store) = c.in_ok-outcome.ensures.runs in
    let ran : trace_at ending c.run-ran.new.store ≡ marked_run p rs c.args.samples.now = started ∙ ap (λ s. trace_of (main_from p rs s)) start in
    λ _. c.in_ok-trace-2.ensures.source ∙ ap without_marks ran ∙ only_tell p rs c.args.samples.now
