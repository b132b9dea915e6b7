use Rattle.std.proofs.Common.{◌≡◌, ◌≤◌, map, length, ap, ◌∙◌, All}
use Rattle.oc_tree.specs.Checked.{TChecked}
use Rattle.oc_tree.specs.Regions.{region_view}
use Rattle.oc_tree.specs.View.{function_view, program_view}
use Rattle.oc_tree.specs.Tree.{TProgram}
use Rattle.oc_tree.specs.Marked.{TMarked, IsMarked}
use Rattle.oc_tree.specs.declared.tree.Program.{Program}
use Rattle.oc_code.specs.Code.{code_of}
use Rattle.oc_writes.specs.Targets.{may_write}
use Rattle.oc_codegen.specs.Small.{IsSmall}
use Rattle.oc_codegen.proofs.MarkedLaws.{enough_targets, read_formed}
use Rattle.oc_codegen.proofs.SmallLaws.{read_functions}
use Rattle.oc_codegen.proofs.raw.Goals as goal

pub raw_image-requires-clause-formed : goal.raw_image-requires-clause-formed
raw_image-requires-clause-formed c =
    let m = c.args.marked.now in
    let ts = map (λ v. v.items) c.in_ok-targets.targets.items in
    read_formed m (program_view c.program.result.now) (map region_view c.regions.result.now) ts
    (c.program.ensures.same ∙ ap (λ (k : TChecked). k.program) c.checked-checked.ensures.same) c.regions.ensures c.checked-checked.ensures.marked
    (enough_targets m ts (c.in_ok-targets.ensures ∙ c.requires))

-- what the functions of a marked program are
functions_read : (m : TMarked) (p : Program) → program_view p ≡ m.program → IsMarked m → (length p.functions.items ≤ 128) × All (λ f. IsSmall (function_view f)) p.functions.items
functions_read m p same is = read_functions m.program m.groups is.checked p.functions.items (ap (λ (q : TProgram). q.functions) same)

pub raw_image-requires-clause-few : goal.raw_image-requires-clause-few
raw_image-requires-clause-few c =
    let m = c.args.marked.now in
    let same : program_view c.program.result.now ≡ m.program = c.program.ensures.same ∙ ap (λ (k : TChecked). k.program) c.checked-checked.ensures.same in
    (functions_read m c.program.result.now same c.checked-checked.ensures.marked).0

pub raw_image-requires-clause-small : goal.raw_image-requires-clause-small
raw_image-requires-clause-small c =
    let m = c.args.marked.now in
    let same : program_view c.program.result.now ≡ m.program = c.program.ensures.same ∙ ap (λ (k : TChecked). k.program) c.checked-checked.ensures.same in
    (functions_read m c.program.result.now same c.checked-checked.ensures.marked).1

pub returns : goal.returns
returns c =
    let m = c.args.marked.now in
    let same : program_view c.program.result.now ≡ m.program = c.program.ensures.same ∙ ap (λ (k : TChecked). k.program) c.checked-checked.ensures.same in
    let ts : map (λ v. v.items) c.in_ok-targets.targets.items ≡ may_write m = c.in_ok-targets.ensures ∙ c.requires in
    c.in_ok-raw.ensures ∙ (λ i. code_of (same i) (c.regions.ensures i) (ts i))
