-- What is told of a program that isn't passed on.
use Rattle.std.specs.Prelude.{◌≡◌, Option, Some}
use Rattle.oc_tree.specs.declared.broken.Broken.{Broken}
use Rattle.oc_types.specs.declared.rules.RuleError.{RuleError}
use Rattle.oc_types.specs.declared.rules.RuleError.TheVariants as errors

-- an error tells what is broken: the rule, in its line; or memory ran out
abbrev pub TellsBroken : Option Broken → RuleError → Type 0
TellsBroken found errors.Memory = Unit {0}
TellsBroken found (errors.Rule line rule) = found ≡ Some (record { line = line; rule = rule })
