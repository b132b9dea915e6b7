use Rattle.std.proofs.Common.{◌≡◌, ◌++◌, drop, map}
use Rattle.oc_code.specs.Code.{image_nv}
use Rattle.oc_codegen.proofs.program.image_nvs.Given as goal

abbrev pub invariant-loop-next : goal.invariant-loop-next
invariant-loop-next l = l.image.items ++ map image_nv (drop l.next-index l.nv) ≡ map image_nv l.nv
