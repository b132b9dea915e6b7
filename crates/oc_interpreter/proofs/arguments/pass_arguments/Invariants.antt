use Rattle.std.proofs.Common.{◌≡◌, drop, map}
use Rattle.oc_tree.specs.View.{args_view}
use Rattle.oc_meaning.specs.Exec.{args_of}
use Rattle.oc_interpreter.specs.Seen.{passed_view}
use Rattle.oc_meaning.proofs.Passings.{behind}
use Rattle.oc_interpreter.proofs.arguments.pass_arguments.Given as goal

-- What is passed so far, with what the arguments that are left pass, is the whole.
abbrev pub invariant-loop-arg : goal.invariant-loop-arg
invariant-loop-arg l = behind (map passed_view l.passed.items) (args_of l.scope l.store (args_view (drop l.arg-index l.args))) ≡ args_of l.scope l.store (args_view l.args)
