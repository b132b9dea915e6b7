use Rattle.std.proofs.Common.{◌≡◌, map, take}
use Rattle.oc_judge.specs.Frames.{frame_view}
use Rattle.oc_judge.proofs.frames.copies.Given as goal

abbrev pub invariant-loop-frame : goal.invariant-loop-frame
invariant-loop-frame l = map frame_view l.copies.items ≡ map frame_view (take l.frame-index l.frames)
