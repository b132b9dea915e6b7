use Rattle.std.proofs.Common.{◌≡◌, drop, map}
use Rattle.oc_tree.specs.View.{function_view, program_view}
use Rattle.oc_command.specs.DeclaredNames.{functions_names, program_names}
use Rattle.oc_command.proofs.names.declared_by.Given as goal

abbrev pub invariant-loop-function : goal.invariant-loop-function
invariant-loop-function l =
    functions_names l.s (map function_view (drop l.function-index l.function-items)) ≡ program_names l.s (program_view l.program)
