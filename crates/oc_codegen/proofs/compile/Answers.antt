use Rattle.std.proofs.Common.{refl}
use Rattle.oc_isa.specs.Image.{parts_of}
use Rattle.oc_writes.specs.Targets.{may_write}
use Rattle.oc_codegen.proofs.MarkedLaws.{enough_targets, read_made, marked_right}
use Rattle.oc_codegen.proofs.compile.Goals as goal

pub new-requires : goal.new-requires
new-requires c =
    let m = c.args.marked.now in
    read_made m m.program m.regions (may_write m) (parts_of c.in-Ok.raw) c.in-Ok.ensures refl refl c.checked-checked.ensures.marked (enough_targets m (may_write m) refl)

pub returns-in-Ok-clause-right : goal.returns-in-Ok-clause-right
returns-in-Ok-clause-right c =
    let m = c.args.marked.now in
    marked_right m (may_write m) c.checked-checked.ensures.marked (enough_targets m (may_write m) refl)

pub returns-in-Err-clause-right : goal.returns-in-Err-clause-right
returns-in-Err-clause-right c =
    let m = c.args.marked.now in
    marked_right m (may_write m) c.checked-checked.ensures.marked (enough_targets m (may_write m) refl)
