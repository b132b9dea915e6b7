use Rattle.std.proofs.Common.{◌≡◌, length, ◌≤◌}
use Rattle.oc_grammar.specs.ReadingPrograms.{params_at}
use Rattle.oc_parse.specs.Steps.{left}
use Rattle.oc_parse.specs.Parts.{after}
use Rattle.oc_parse.proofs.reader.Reader.params.Given as goal

abbrev pub invariant-loop-params : goal.invariant-loop-params
invariant-loop-params l = (after l.params.items (params_at (left l.self)) ≡ params_at (left l.fn.self)) × (length l.self.rest.now ≤ length l.fn.self.rest.now)

abbrev pub decreases-loop-params : goal.decreases-loop-params
decreases-loop-params l = length l.self.rest.now
