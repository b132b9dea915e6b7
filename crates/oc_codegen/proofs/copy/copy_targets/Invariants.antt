use Rattle.std.proofs.Common.{◌≡◌, ◌++◌, drop, map}
use Rattle.oc_codegen.proofs.copy.copy_targets.Given as goal

abbrev pub invariant-loop-set : goal.invariant-loop-set
invariant-loop-set l = map (λ v. v.items) l.all.items ++ map (λ v. v.items) (drop l.set-index l.set-items) ≡ l.writes
