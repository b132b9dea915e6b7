use Rattle.std.proofs.Common.{refl, ap, ◌∙◌, get_or, []}
use Rattle.csv.specs.Records.{fields_of}
use Rattle.oc_rows.specs.Place.{Cursor}
use Rattle.oc_rows.proofs.Fields.{field_or_nothing}
use Rattle.oc_rows.proofs.rows.Rows.field.Goals as goal

pub returns : goal.returns
returns c =
    field_or_nothing (fields_of c.self.inside.row) c.args.at c.get.result _ c.unwrap_or.result c.unwrap_or.ensures refl c.get.ensures.value
    ∙ ap (λ (p : Cursor). get_or p.row c.args.at []) c.self.view_is
