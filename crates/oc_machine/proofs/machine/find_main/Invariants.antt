use Rattle.std.proofs.Common.{◌≡◌, drop}
use Rattle.oc_isa.specs.Image.{main_of}
use Rattle.oc_machine.proofs.machine.find_main.Given as goal

abbrev pub invariant-loop-function : goal.invariant-loop-function
invariant-loop-function l = main_of (drop l.function-index l.functions) ≡ main_of l.functions
