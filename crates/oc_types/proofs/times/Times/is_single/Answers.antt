use Rattle.std.proofs.Common.{List, ap, sym, ◌∙◌}
use Rattle.std.specs.Prelude.{count_by}
use Rattle.std.specs.Str.{bytes_eq}
use Rattle.oc_tree.specs.Names.{Text}
use Rattle.oc_types.specs.Times.{singly}
use Rattle.oc_types.proofs.TimesLaws.{none_is, single_is}
use Rattle.oc_types.proofs.times.Times.is_single.Goals as goal

pub returns-in-Some : goal.returns-in-Some
returns-in-Some c =
    let x = c.args.name.now in
    single_is c.in-Some.single (count_by (bytes_eq x) c.args.self.now)
    (sym c.in-Some.is ∙ c.get.ensures ∙ c.self.invariant x ∙ ap (λ (l : List Text). singly (count_by (bytes_eq x) l)) c.self.view_is)

pub returns-in-None : goal.returns-in-None
returns-in-None c =
    let x = c.args.name.now in
    none_is (count_by (bytes_eq x) c.args.self.now)
    (sym c.in-None.is ∙ c.get.ensures ∙ c.self.invariant x ∙ ap (λ (l : List Text). singly (count_by (bytes_eq x) l)) c.self.view_is)
