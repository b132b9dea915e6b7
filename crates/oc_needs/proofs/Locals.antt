-- What is known of all functions.
use Rattle.std.proofs.Common.{◌≡◌, sym, ap, ◌∙◌, List, map, length}
use Rattle.std.proofs.lemmas.List.{length-map}
use Rattle.oc_tree.specs.Tree.{TProgram}
use Rattle.oc_needs.specs.declared.local.Local.{Local}
use Rattle.oc_needs.specs.Code.{local_at, all_locals}
use Rattle.oc_needs.specs.CodeView.{local_view}
use Rattle.oc_needs.proofs.Froms.{length_map_from}

-- one for each function
pub locals_many : (p : TProgram) (xs : List Local) → map local_view xs ≡ all_locals p → length xs ≡ length p.functions
locals_many p xs e = sym (length-map xs local_view) ∙ (ap length e ∙ length_map_from (local_at p) 0 (length p.functions))
