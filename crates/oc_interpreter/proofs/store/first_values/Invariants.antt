use Rattle.std.proofs.Common.{◌≡◌, ◌++◌, drop}
use Rattle.oc_meaning.specs.Run.{first_values}
use Rattle.oc_interpreter.proofs.store.first_values.Given as goal

abbrev pub invariant-loop-decl : goal.invariant-loop-decl
invariant-loop-decl l = l.values.items ++ first_values (drop l.decl-index l.decls) ≡ first_values l.decls
