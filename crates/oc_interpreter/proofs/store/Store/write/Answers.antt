use Rattle.std.proofs.Common.{◌≡◌, rules, ap, sym, ◌∙◌, refl}
use Rattle.std.specs.Prelude.{slice_index_or, slice_set}
use Rattle.oc_meaning.specs.Store.{held_at, nothing, put, with_element}
use Rattle.oc_meaning.specs.Store as meant
use Rattle.oc_meaning.specs.Places.{place_view}
use Rattle.oc_interpreter.specs.Stores.{store_view}
use Rattle.oc_meaning.proofs.Levels.{put-local}
use Rattle.oc_interpreter.proofs.store.Store.write.Goals as goal

pub returns-in_ok-write-in-Local-clause-step : goal.returns-in_ok-write-in-Local-clause-step
returns-in_ok-write-in-Local-clause-step c =
    let i = c.self.inside in
    let n = c.in-Local.level in
    let written : c.write.new.variables.items ≡ slice_set i.locals.items n (with_element (slice_index_or i.locals.items n nothing) c.args.at c.args.word c.args.samples) = search rules in
    put-local (λ h. with_element h c.args.at c.args.word c.args.samples) i.locals.items c.write.new.variables.items n (store_view i) refl written
    ∙ ap (λ τ. put τ (meant.Local n) (with_element (held_at τ (meant.Local n)) c.args.at c.args.word c.args.samples)) c.self.view_is
    ∙ ap (λ p. put c.args.self.now (place_view p) (with_element (held_at c.args.self.now (place_view p)) c.args.at c.args.word c.args.samples)) (sym c.in-Local.is)
