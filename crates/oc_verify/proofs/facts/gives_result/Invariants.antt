use Rattle.std.proofs.Common.{◌≡◌, drop}
use Rattle.oc_isa.specs.Image.{parts_of}
use Rattle.oc_verify.specs.Rules.{gives, is_retv, some_before}
use Rattle.oc_verify.proofs.facts.gives_result.Given as goal

abbrev pub invariant-loop-at : goal.invariant-loop-at
invariant-loop-at l = gives (parts_of l.image) l.function ≡ some_before is_retv l.at-end l.at (drop l.at (parts_of l.image).code)
