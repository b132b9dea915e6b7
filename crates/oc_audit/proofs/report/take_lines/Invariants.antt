use Rattle.std.proofs.Common.{length, map}
use Rattle.oc_tree.specs.Names.{names_view}
use Rattle.oc_audit.specs.Taking.{Stands}
use Rattle.oc_audit.proofs.report.take_lines.Given as goal

abbrev pub invariant-loop-front : goal.invariant-loop-front
invariant-loop-front l = Stands (names_view l.names) (map (λ d. d.words) l.variables) l.bytes l.line l.rest l.read

abbrev pub decreases-loop-front : goal.decreases-loop-front
decreases-loop-front l = length l.rest
