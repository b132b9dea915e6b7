use Rattle.std.proofs.Common.{[], ◌∷◌, refl, sym, ap}
use Rattle.oc_interpreter.specs.Stores.{event_view, told}
use Rattle.oc_interpreter.proofs.store.tell.Goals as goal

pub returns-then-len-limit-clause-cut : goal.returns-then-len-limit-clause-cut
returns-then-len-limit-clause-cut c = record { more = event_view c.args.event ∷ []; is = refl }

pub returns-in-Err-clause-cut : goal.returns-in-Err-clause-cut
returns-in-Err-clause-cut c =
    record { more = event_view c.args.event ∷ []; is = ap (λ es. event_view c.args.event ∷ told es) (sym c.in-Err.ensures.items) }
