-- Events in the order in which they came, and newest first.
use Rattle.std.proofs.Common.{◌≡◌, ℕ, suc, ◌+◌, ◌<◌, ℤ, pos, List, [], ◌∷◌, ◌++◌, length, map, reverse, drop, ap, sym, ◌∙◌, arith}
use Rattle.std.proofs.Math.ListN.{get_or}
use Rattle.std.proofs.lemmas.List.{drop_more, map-append, reverse-append}
use Rattle.oc_tree.specs.declared.said.Said.TheVariants.{Sensed}
use Rattle.oc_meaning.specs.Store as meant
use Rattle.oc_meaning.specs.Exec.{Returned, sense}
use Rattle.oc_interpreter.specs.declared.store.Event.{Event}
use Rattle.oc_interpreter.specs.Stores.{event_view, told}

pub told-push : (es : List Event) (e : Event) → told (es ++ e ∷ []) ≡ event_view e ∷ told es
told-push es e = ap reverse (map-append event_view es (e ∷ [])) ∙ reverse-append (map event_view es) (event_view e ∷ [])

-- one more sample is taken
pub sensed : (sensor : ℕ) (xs : List ℤ) (z : ℤ) (v : meant.Value) (es : List meant.Event) (σ τ : meant.Store) → σ.left ≡ drop σ.taken xs → σ.taken < length xs
    → z ≡ get_or xs σ.taken (pos 0) → v ≡ record { num = z; samples = σ.taken ∷ [] } → es ≡ record { said = Sensed sensor z; samples = σ.taken ∷ []; instance = 0 } ∷ σ.events
    → σ ≡ τ → Returned v (record σ { left = drop (σ.taken + 1) xs; taken = σ.taken + 1; events = es }) ≡ sense sensor τ.left τ
sensed sensor xs z v es σ τ left h read value events same =
    let n : ℕ = σ.taken in
    let one : n + 1 ≡ suc n = omega arith in
    let next : σ.left ≡ z ∷ drop (n + 1) xs = left ∙ drop_more xs n (pos 0) h ∙ ap (λ y. y ∷ drop (n + 1) xs) (sym read) in
    ap (λ w. Returned w (record σ { left = drop (n + 1) xs; taken = n + 1; events = es })) value
    ∙ ap (λ fs. Returned (record { num = z; samples = n ∷ [] }) (record σ { left = drop (n + 1) xs; taken = n + 1; events = fs })) events
    ∙ ap (λ t. Returned (record { num = z; samples = n ∷ [] })
    (record σ { left = drop (n + 1) xs; taken = t; events = record { said = Sensed sensor z; samples = n ∷ []; instance = 0 } ∷ σ.events })) one
    ∙ sym (ap (λ l. sense sensor l σ) next)
    ∙ ap (λ ρ. sense sensor ρ.left ρ) same
