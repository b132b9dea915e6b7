use Rattle.std.proofs.Common.{◌≡◌, ◌<◌, ℕ, false, length, get_or}
use Rattle.oc_isa.specs.Image.{parts_of}
use Rattle.oc_verify.specs.Rules.{gives}
use Rattle.oc_verify.proofs.facts.results.Given as goal

abbrev pub invariant-loop-function : goal.invariant-loop-function
invariant-loop-function l = record {
  sized : length l.results.items ≡ l.function;
  each : (f : ℕ) → f < l.function → get_or l.results.items f false ≡ gives (parts_of l.image) f;
}
