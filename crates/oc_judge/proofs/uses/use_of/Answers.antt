use Rattle.std.proofs.Common.{rules, ◌≡◌, true, false}
use Rattle.std.specs.List.{list_any}
use Rattle.oc_tree.specs.Named.{own_names}
use Rattle.oc_tree.specs.View.{kind_view}
use Rattle.oc_meaning.specs.Uses.{is_fresh}
use Rattle.oc_steps.specs.Ages.{join_ages}
use Rattle.oc_steps.specs.Sets.{use_by}
use Rattle.oc_judge.specs.Values.{age_view}
use Rattle.oc_judge.proofs.FreshLaws.{is_none}
use Rattle.oc_judge.proofs.uses.use_of.Goals as goal

pub returns-then-not-is_use : goal.returns-then-not-is_use
returns-then-not-is_use c =
    let env = c.args.scope.now in
    let k = kind_view c.args.kind.now in
    let none : list_any (is_fresh env) (own_names k) ≡ false = search rules in
    is_none env k c.args.store.now none

pub returns : goal.returns
returns c =
    let env = c.args.scope.now in
    let k = kind_view c.args.kind.now in
    let some : list_any (is_fresh env) (own_names k) ≡ true = search rules in
    let samples : age_view c.age_of_fresh-age.result ≡ use_by join_ages env k c.args.store.now = search rules in
    c.use_with.ensures env c.args.store.now some samples
