-- The names of a checked program.
use Rattle.std.proofs.Common.{◌≡◌, ◌≤◌, ◌^◌, List, length, map, refl, ◌∙◌, arith}
use Rattle.std.proofs.lemmas.List.{length-map}
use Rattle.oc_tree.specs.Tree.{TProgram}
use Rattle.oc_tree.specs.Checked.{Group, IsChecked}
use Rattle.oc_items.proofs.Spelled.{all_fit}
use Rattle.oc_checked.proofs.Declared.{AllWithin, all_within}
use Rattle.oc_checked.proofs.Amounts as amounts
use Rattle.oc_audit.specs.Taking.{AreNames}

pub are_names : (p : TProgram) (groups : List Group) → IsChecked p groups → AreNames p.names (map (λ d. d.words) p.nv)
are_names p groups c =
    let within : AllWithin p = all_within p c.form.declared c.unbroken in
    let most : 2 ^ 8 ≡ 256 = refl in
    record {
      sensors = all_fit p.names.sensors c.form.spellable.sensors;
      ports = all_fit p.names.ports c.form.spellable.ports;
      nvs = all_fit p.names.nvs c.form.spellable.nvs;
      few_sensors = let few : length p.names.sensors ≤ 64 = amounts.few_sensors p within in omega (arith, few, most);
      few_ports = let few : length p.names.ports ≤ 64 = amounts.few_ports p within in omega (arith, few, most);
      each = length-map p.nv _ ∙ c.form.declared.each_nv;
    }
