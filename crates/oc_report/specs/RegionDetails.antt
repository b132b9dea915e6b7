-- What is found out of regions before they are written.
use Rattle.std.specs.Prelude.{ℕ, ℤ, ◌≡◌, ◌++◌, [], ◌∷◌, map, get_or, codes, decimal}
use Rattle.std.specs.Fmt.{signed_decimal}
use Rattle.oc_io.specs.Lines.{line_of}
use Rattle.oc_tree.specs.Names.{Text}
use Rattle.oc_tree.specs.Tree.{TProgram}
use Rattle.oc_tree.specs.Marked.{TRegion, TMarked}
use Rattle.oc_tree.specs.declared.marked.PolicyKind.{PolicyKind}
use Rattle.oc_tree.specs.declared.marked.PolicyKind.TheVariants as policies
use Rattle.oc_budget.specs.declared.told.Budgets.{Budgets}
use Rattle.oc_command.specs.Names.{function_name, line_at, policy_name}
use Rattle.oc_report.specs.RegionLines.{reason_lines, span}
use Rattle.oc_report.specs.declared.regions.LineRange.{LineRange}
use Rattle.oc_report.specs.declared.regions.Details.{Details}
use Rattle.oc_report.specs.declared.regions.Numbers.{Numbers}

-- the lines of a region
abbrev pub range_of : TProgram → TRegion → LineRange
range_of p r = record { first = line_at p r.first; last = line_at p r.last }

-- the lines of each region, and the name of each policy's variable
pub record HasDetails (m : TMarked) (d : Details) : Type 0 where
  pub lines : d.lines.items ≡ map (range_of m.program) m.regions
  pub names : d.names.items ≡ map (policy_name m.program) m.policies

-- ---- lines by what they tell

-- the line of a region of a function with this name
abbrev pub region_fields : TRegion → (function : Text) → Numbers → Text
region_fields r function n = line_of (codes "region" ∷ decimal r.id ∷ function ∷ span r.first r.last
    ∷ codes "lines" ∷ span n.lines.first n.lines.last
    ∷ codes "logged" ∷ decimal n.logged ∷ codes "budget" ∷ decimal n.budget ∷ [])

-- the line of a consistent set of a function with this name
abbrev pub consistent_line : (function : Text) → ℤ → Text
consistent_line function id = line_of (codes "consistent" ∷ function ∷ signed_decimal id ∷ [])

-- the line of a policy of a function with this name, whose variable has that name
abbrev pub policy_fields : PolicyKind → (function variable : Text) → Text
policy_fields (policies.Fresh v) function variable =
    line_of (codes "fresh" ∷ function ∷ variable ∷ [])
policy_fields (policies.Consistent id) function variable = consistent_line function id

-- the numbers of the region at a place
abbrev pub numbers_at : Budgets → Details → ℕ → Numbers
numbers_at b d i = record {
  lines = get_or d.lines.items i (record { first = 0; last = 0 });
  logged = get_or b.logged.items i 0;
  budget = get_or b.regions.items i 0;
}

-- the line of a region with these numbers, and those of its reasons
abbrev pub lines_with : TMarked → TRegion → Numbers → Text
lines_with m r n =
    region_fields r (function_name m.program r.function) n ++ reason_lines m r.reasons
