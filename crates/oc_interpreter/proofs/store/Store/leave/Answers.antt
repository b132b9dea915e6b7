use Rattle.std.proofs.Common.{ap, ◌∙◌, refl}
use Rattle.oc_meaning.specs.Store.{left_at}
use Rattle.oc_interpreter.specs.Stores.{store_view}
use Rattle.oc_meaning.proofs.Levels.{left-local}
use Rattle.oc_interpreter.proofs.store.Store.leave.Goals as goal

pub returns : goal.returns
returns c =
    let i = c.self.inside in
    left-local i.locals.items c.truncate.new.self.items c.args.locals (store_view i) refl c.truncate.ensures.items ∙ ap (left_at c.args.locals) c.self.view_is
