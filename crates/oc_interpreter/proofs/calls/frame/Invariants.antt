use Rattle.std.proofs.Common.{◌≡◌, drop, map}
use Rattle.oc_meaning.specs.Run.{with_params}
use Rattle.oc_interpreter.specs.Seen.{passed_view}
use Rattle.oc_interpreter.proofs.calls.frame.Given as goal

-- What is bound, with the parameters that are left, is the whole.
abbrev pub invariant-loop-param : goal.invariant-loop-param
invariant-loop-param l = record {
  bound : with_params (drop l.param-index l.param-items) (map passed_view l.left.items) (record { env = l.scope; locals = l.store.locals })
      ≡ with_params l.param-items (map passed_view l.initial.left.items) (record { env = l.initial.scope; locals = l.initial.store.locals });
  kept : l.store ≡ record l.initial.store { locals = l.store.locals };
}
