use Rattle.std.proofs.Common.{◌≡◌, map, ap, sym, ◌∙◌}
use Rattle.oc_tree.specs.Tree.{TProgram}
use Rattle.oc_tree.specs.View.{program_view}
use Rattle.oc_tree.specs.Checked.{TChecked}
use Rattle.oc_writes.specs.Targets.{region_targets}
use Rattle.oc_writes.proofs.KeptLaw.{only_targets}
use Rattle.oc_writes.proofs.Same.{functions_below}
use Rattle.oc_writes.proofs.writes.marked_targets.Goals as goal

pub all_targets-requires-clause-same : goal.all_targets-requires-clause-same
all_targets-requires-clause-same c = c.requires ∙ sym (c.program.ensures.same ∙ ap (λ (k : TChecked). k.program) c.checked-checked.ensures.same)

pub all_targets-requires-clause-functions : goal.all_targets-requires-clause-functions
all_targets-requires-clause-functions c =
    let same : program_view c.program.result.now ≡ c.args.marked.now.program = c.program.ensures.same ∙ ap (λ (k : TChecked). k.program) c.checked-checked.ensures.same in
    functions_below c.args.marked.now c.program.result.now.functions.items c.regions.result.now c.checked-checked.ensures.marked c.regions.ensures (sym (ap (λ (p : TProgram). p.functions) same))

pub returns : goal.returns
returns c =
    let same : program_view c.program.result.now ≡ c.args.marked.now.program = c.program.ensures.same ∙ ap (λ (k : TChecked). k.program) c.checked-checked.ensures.same in
    let targets = c.in_ok-targets.ensures ∙ (λ i. map (region_targets (same i)) (c.regions.ensures i)) in
    record { targets = targets; only = only_targets c.args.marked.now c.checked-checked.ensures.marked _ targets }
