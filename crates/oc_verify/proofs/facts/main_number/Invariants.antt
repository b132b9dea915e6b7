use Rattle.std.proofs.Common.{◌≡◌, drop}
use Rattle.oc_verify.specs.Rules.{main_from}
use Rattle.oc_verify.proofs.facts.main_number.Given as goal

abbrev pub invariant-loop-number : goal.invariant-loop-number
invariant-loop-number l = main_from 0 l.functions ≡ main_from l.number (drop l.number l.functions)
