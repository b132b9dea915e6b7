use Rattle.std.proofs.Common.{◌≡◌, ap, sym, ◌∙◌, option_map}
use Rattle.std.specs.Prelude.{slice_get}
use Rattle.oc_meaning.specs.Store.{held_at}
use Rattle.oc_meaning.specs.Store as meant
use Rattle.oc_meaning.specs.Places.{place_view, held_or}
use Rattle.oc_meaning.proofs.Levels.{held-local}
use Rattle.oc_judge.proofs.store.Store.find_variable.Goals as goal

pub returns-in-Local : goal.returns-in-Local
returns-in-Local c =
    let n = c.in-Local.level in
    let o = option_map (λ h. h.now) c.local.result in
    let read : o ≡ slice_get c.self.inside.locals.items n = c.local.ensures ∙ ap (λ l. slice_get l n) c.deref.ensures.value in
    ap (λ p. held_or (place_view p) o) c.in-Local.is
    ∙ held-local c.self.inside.locals.items n o read
    ∙ ap (λ τ. held_at τ (meant.Local n)) c.self.view_is
    ∙ ap (λ p. held_at c.args.self.now (place_view p)) (sym c.in-Local.is)
