-- The names of a program that breaks no rule are apart.
use Rattle.std.proofs.Common.{◌≡◌, None}
use Rattle.oc_tree.specs.Names.{Text}
use Rattle.oc_tree.specs.Tree.{TProgram}
use Rattle.oc_tree.specs.Form.{InForm}
use Rattle.oc_tree.specs.Broken.{broken}
use Rattle.oc_checked.proofs.NamesDiffer.{names_differ}
use Rattle.oc_items.proofs.Spelled.{all_fit}
use Rattle.oc_audit.specs.Apart.{HasNamesApart}

pub names_apart : (N : Text → Type 0) (p : TProgram) → InForm N p → broken p ≡ None → HasNamesApart p.names
names_apart N p form h =
    let differ = names_differ N p form h in
    record {
      sensors = record { fields = all_fit p.names.sensors form.spellable.sensors; differ = differ.0 };
      ports = record { fields = all_fit p.names.ports form.spellable.ports; differ = differ.1 };
      nvs = all_fit p.names.nvs form.spellable.nvs;
    }
