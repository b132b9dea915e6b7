use Rattle.std.proofs.Common.{rules, ◌≡◌, ◌+◌, suc, refl, ap, ◌∙◌, [], length, map, arith}
use Rattle.std.specs.Prelude.{codes}
use Rattle.std.proofs.lemmas.Result.{on_err_weaker}
use Rattle.std.proofs.lemmas.List.{length-map}
use Rattle.oc_tree.specs.View.{function_view, program_view}
use Rattle.oc_tree.specs.Regions.{region_view}
use Rattle.oc_meaning.specs.Run.{call_to}
use Rattle.oc_meaning.specs.Cuts.{Oldest, events_in}
use Rattle.oc_interpreter.specs.Runs.{main_from}
use Rattle.oc_interpreter.specs.Seen.{passed_view}
use Rattle.oc_interpreter.proofs.Cutting.{along_with, as_before, main_start, on_err}
use Rattle.oc_interpreter.proofs.run.execute.Goals as goal

pub returns-in_err-from_slice-clause-cut : goal.returns-in_err-from_slice-clause-cut
returns-in_err-from_slice-clause-cut c =
    let σ = c.args.store.now in
    on_err _ (main_start σ.events (program_view c.args.program.now) (map region_view c.args.regions.now) σ (as_before σ σ refl))

pub returns-clause-cut : goal.returns-clause-cut
returns-clause-cut c =
    let p = program_view c.args.program.now in
    let rs = map region_view c.args.regions.now in
    let σ = c.args.store.now in
    let fs = c.as_slice-functions.result.now in
    let x = c.new-main.result in
    let ps = map passed_view c.new.result.items in
    let events = c.call_to.new.store.events in
    let depth : length fs + 1 ≡ suc (length p.functions) = omega (arith, ap length c.as_slice-functions.ensures.value, length-map c.args.program.now.functions.items function_view) in
    let name : x ≡ codes "main" = search rules in
    let none : ps ≡ [] = ap (map passed_view) c.new.ensures.items in
    let same : call_to p rs (length fs + 1) x ps σ ≡ main_from p rs σ =
    ap (λ d. call_to p rs d x ps σ) depth ∙ ap (λ n. call_to p rs (suc (length p.functions)) n ps σ) name ∙ ap (λ l. call_to p rs (suc (length p.functions)) (codes "main") l σ) none in
    on_err_weaker c.call_to.result (λ (h : Oldest events (events_in (call_to p rs (length fs + 1) x ps σ))). along_with events (call_to p rs (length fs + 1) x ps σ)
    (main_from p rs σ) same h) c.call_to.ensures.cut
