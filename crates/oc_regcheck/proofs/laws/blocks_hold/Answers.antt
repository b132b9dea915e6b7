use Rattle.oc_regcheck.specs.BlockMarks.{blocks_marked}
use Rattle.oc_regcheck.proofs.Marked.{is_marked, is_covering}
use Rattle.oc_regcheck.proofs.laws.blocks_hold.Goals as goal

pub returns : goal.returns
returns c = λ m checked blocks statements h. c.marks_are_timely.ensures (blocks_marked m blocks) (is_marked m.program m.groups checked blocks statements)
    (is_covering m.program m.groups checked blocks statements h)
