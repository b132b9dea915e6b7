use Rattle.std.proofs.Common.{◌∙◌, sym, ap, subst}
use Rattle.oc_tree.specs.Checked.{IsChecked, TChecked}
use Rattle.oc_needs.specs.View.{requirement_view}
use Rattle.oc_tree.specs.Members.{is_number_of}
use Rattle.oc_regcheck.specs.Code.{second_by}
use Rattle.oc_regcheck.proofs.Exact.{first_there, second_there}
use Rattle.oc_regcheck.proofs.check.second_site.Goals as goal

pub unreachable-requires : goal.unreachable-requires
unreachable-requires c =
    let p = c.args.effects.now.program in
    let is_block = is_number_of c.args.blocks.now in
    let required = requirement_view c.args.requirement.now in
    let checked = subst (λ (t : TChecked). IsChecked t.program t.groups) c.checked.ensures c.program-program.ensures.checked in
    let open' = first_there p is_block required c.requires in
    second_there p checked.form.numbered c.args.blocks.now required open'.0 open'.1 c.args.first
    (ap (second_by p is_block c.args.first) (sym c.as_slice.ensures.value) ∙ sym c.in-None.ensures)
