-- What was told of a run that was given up begins the whole.
use Rattle.std.proofs.Common.{◌≡◌, ap, sym, ◌∙◌, List, [], ◌∷◌, ◌++◌, append_assoc}
use Rattle.std.proofs.lemmas.List.{append-nil}
use Rattle.oc_meaning.specs.Store.{Event}
use Rattle.oc_meaning.specs.Exec.{Outcome, Went, Returned, Stopped, Trap, Short}
use Rattle.oc_meaning.specs.Run.{in_order, trace_of}
use Rattle.oc_meaning.specs.Cuts.{Begins, Oldest, events_in}
use Rattle.oc_meaning.specs.Parts.{MayBe}

pub one_more : (events : List Event) (e : Event) (es : List Event) → MayBe e.said e.samples e.instance → Oldest events es → Oldest events (e ∷ es)
one_more events e es may h = record { more = e ∷ h.more; is = ap (λ (l : List Event). e ∷ l) h.is }

in_order-append : (xs ys : List Event) → in_order (xs ++ ys) ≡ in_order ys ++ in_order xs
in_order-append [] ys = sym (append-nil (in_order ys))
in_order-append (x ∷ xs) ys = ap (λ l. l ++ x ∷ []) (in_order-append xs ys) ∙ append_assoc (in_order ys) (in_order xs) (x ∷ [])

pub begins : (es all : List Event) → Oldest es all → Begins (in_order es) (in_order all)
begins es all h = record { rest = in_order h.more; is = ap in_order h.is ∙ in_order-append h.more es }

pub trace_begins : (es : List Event) (o : Outcome) → Oldest es (events_in o) → Begins (in_order es) (trace_of o).events
trace_begins es (Went σ) h = begins es (_ ∷ σ.events) (one_more es _ σ.events tt h)
trace_begins es (Returned v σ) h = begins es (_ ∷ σ.events) (one_more es _ σ.events tt h)
trace_begins es (Stopped Trap σ) h = begins es σ.events h
trace_begins es (Stopped Short σ) h = begins es σ.events h
