use Rattle.std.proofs.Common.{◌≡◌}
use Rattle.std.specs.Prelude.{map}
use Rattle.oc_verify.proofs.declared.split.Given as goal

abbrev pub invariant-loop-name : goal.invariant-loop-name
invariant-loop-name l = record { names : l.names.items ≡ map (λ x. x.0) l.yielded; words : l.words.items ≡ map (λ x. x.1) l.yielded }
