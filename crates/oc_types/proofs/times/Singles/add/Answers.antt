use Rattle.std.proofs.Common.{◌≡◌, ap, sym, ◌∙◌}
use Rattle.std.specs.Str.{bytes_eq}
use Rattle.oc_tree.specs.Names.{named_in}
use Rattle.oc_names.proofs.Entries.{seen}
use Rattle.oc_types.specs.Times.{is_first, once_more}
use Rattle.oc_types.proofs.TimesLaws.{counted_on}
use Rattle.oc_types.proofs.times.Singles.add.Goals as goal

pub returns : goal.returns
returns c = λ x.
    let es = c.self.inside.entries.entries in
    let old = c.args.self.now in
    let k = c.bytes.result in
    let first : c.is_first-first.result ≡ is_first (named_in old k.now) =
    c.is_first-first.ensures ∙ ap is_first c.get.ensures ∙ ap (λ y. is_first (named_in old y)) (sym c.bytes.ensures) in
    ap (λ l. named_in (seen l) x) c.in_ok-insert.ensures.entries
    ∙ counted_on es old k c.is_first-first.result x (sym c.self.view_is) first
    ∙ ap (λ y. once_more (bytes_eq x y) (named_in old x)) c.bytes.ensures
