use Rattle.std.proofs.Common.{ℕ, List, Option, ap, ◌∙◌}
use Rattle.std.specs.Prelude.{is_some}
use Rattle.oc_tree.specs.View.{kind_view}
use Rattle.oc_meaning.specs.Uses.{is_fresh, is_use, use_samples}
use Rattle.oc_interpreter.proofs.FreshNames.{has_samples}
use Rattle.oc_interpreter.proofs.marks.is_use.Goals as goal

pub returns : goal.returns
returns c =
    let env = c.args.scope.now in
    let k = kind_view c.args.kind.now in
    c.is_some.ensures ∙ ap (λ (o : Option (List ℕ)). is_some o) c.in_ok-uses.ensures ∙ has_samples (is_use (is_fresh env) k) (use_samples env k c.args.store.now)
