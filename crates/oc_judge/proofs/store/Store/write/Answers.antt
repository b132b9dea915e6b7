use Rattle.std.proofs.Common.{◌≡◌, rules, ap, sym, ◌∙◌, refl}
use Rattle.std.specs.Prelude.{slice_index_or, slice_set}
use Rattle.oc_meaning.specs.Store.{held_at, nothing, put}
use Rattle.oc_meaning.specs.Store as meant
use Rattle.oc_steps.specs.Ages.{join_ages}
use Rattle.oc_steps.specs.Sets.{with_element_by}
use Rattle.oc_meaning.specs.Places.{place_view}
use Rattle.oc_judge.specs.Stores.{store_view}
use Rattle.oc_judge.specs.Values.{age_view}
use Rattle.oc_meaning.proofs.Levels.{put-local}
use Rattle.oc_judge.proofs.store.Store.write.Goals as goal

pub returns-in-Local : goal.returns-in-Local
returns-in-Local c =
    let i = c.self.inside in
    let n = c.in-Local.level in
    let a = age_view c.args.age in
    let written : c.write.new.variables.items ≡ slice_set i.locals.items n (with_element_by join_ages (slice_index_or i.locals.items n nothing) c.args.at c.args.word a) = search rules in
    put-local (λ h. with_element_by join_ages h c.args.at c.args.word a) i.locals.items c.write.new.variables.items n (store_view i) refl written
    ∙ ap (λ τ. put τ (meant.Local n) (with_element_by join_ages (held_at τ (meant.Local n)) c.args.at c.args.word a)) c.self.view_is
    ∙ ap (λ p. put c.args.self.now (place_view p) (with_element_by join_ages (held_at c.args.self.now (place_view p)) c.args.at c.args.word a)) (sym c.in-Local.is)
