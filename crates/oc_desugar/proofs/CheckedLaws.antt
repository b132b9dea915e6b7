-- The expansion of a written program is a checked program.
use Rattle.std.proofs.Common.{◌≡◌, ◌<◌, ◌^◌, ◌+◌, List, sym, subst, arith}
use Rattle.oc_tree.specs.Tree.{TProgram}
use Rattle.oc_tree.specs.Pulls.{program_pulls}
use Rattle.oc_tree.specs.Expansion.{program_size, expansion, program_groups}
use Rattle.oc_tree.specs.Checked.{Group, IsWritten, IsChecked}
use Rattle.oc_desugar.proofs.NoPulls.{none_left}
use Rattle.oc_desugar.proofs.FormKept.{form_kept}
use Rattle.oc_desugar.proofs.GroupsKept.{groups_kept}
use Rattle.oc_desugar.proofs.FewPulls.{few_pulls}
use Rattle.oc_desugar.proofs.FewStatements.{few_statements}
use Rattle.oc_desugar.proofs.KeptRules.{expansion_keeps_rules}
use Rattle.oc_desugar.proofs.SizesKept.{unbroken_element, unbroken_kept}

-- the pulls and the statements of the expansion can be counted
pub fit : (p : TProgram) → IsWritten p → (program_pulls p + 1 < 2 ^ 32) × (program_size p + 1 < 2 ^ 32)
fit p w =
    let size = few_statements p w.form.declared (unbroken_element p w.unbroken) in
    let pulls = few_pulls p in
    (omega (arith, size, pulls), omega (arith, size))

pub is_checked : (p : TProgram) → IsWritten p → (q : TProgram) (groups : List Group) → q ≡ expansion p → groups ≡ program_groups p → IsChecked q groups
is_checked p w q groups e g = subst (λ (r : TProgram). IsChecked r groups) (sym e) (subst (λ (gs : List Group). IsChecked (expansion p) gs) (sym g) (record {
  form = form_kept p w.form;
  plain = none_left p;
  unbroken = unbroken_kept p (expansion_keeps_rules p w.form (unbroken_element p w.unbroken)) w.unbroken;
  grouped = groups_kept p;
}))
