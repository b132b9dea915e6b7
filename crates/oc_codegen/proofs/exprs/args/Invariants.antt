use Rattle.std.proofs.Common.{◌≡◌, ◌++◌, length, drop}
use Rattle.oc_tree.specs.View.{args_view}
use Rattle.oc_code.specs.Forms.{args_code}
use Rattle.oc_codegen.proofs.exprs.args.Given as goal

-- what is written, with the code of the arguments that are left, is the whole
abbrev pub invariant-loop-next : goal.invariant-loop-next
invariant-loop-next l = l.code ++ args_code l.n l.scope (length l.code) (args_view (drop l.next-index l.args)) ≡ l.initial.code ++ args_code l.n l.scope (length l.initial.code) (args_view l.args)
