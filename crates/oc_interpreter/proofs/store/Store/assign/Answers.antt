use Rattle.std.proofs.Common.{ap, sym, ◌∙◌, refl}
use Rattle.oc_meaning.specs.Store.{held_at, put, replaced}
use Rattle.oc_meaning.specs.Store as meant
use Rattle.oc_meaning.specs.Places.{place_view}
use Rattle.oc_interpreter.specs.Stores.{store_view}
use Rattle.oc_meaning.proofs.Levels.{put-local}
use Rattle.oc_interpreter.proofs.store.Store.assign.Goals as goal

pub returns-in-Local-clause-step : goal.returns-in-Local-clause-step
returns-in-Local-clause-step c =
    let i = c.self.inside in
    let n = c.in-Local.level in
    put-local (λ h. replaced h c.args.value) i.locals.items c.replace.new.variables.items n (store_view i) refl c.replace.ensures
    ∙ ap (λ τ. put τ (meant.Local n) (replaced (held_at τ (meant.Local n)) c.args.value)) c.self.view_is
    ∙ ap (λ p. put c.args.self.now (place_view p) (replaced (held_at c.args.self.now (place_view p)) c.args.value)) (sym c.in-Local.is)
