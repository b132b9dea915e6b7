-- The text of a program's regions.
use Rattle.std.specs.Prelude.{ℕ, ◌+◌, ◌++◌, List, [], ◌∷◌, map, get_or, codes, decimal}
use Rattle.std.specs.List.{flat_map}
use Rattle.std.specs.Fmt.{signed_decimal}
use Rattle.oc_io.specs.Lines.{line_of}
use Rattle.oc_tree.specs.Names.{Text}
use Rattle.oc_tree.specs.Tree.{TProgram}
use Rattle.oc_tree.specs.Marked.{TRegion, TMarked}
use Rattle.oc_tree.specs.declared.marked.Policy.{Policy}
use Rattle.oc_tree.specs.declared.marked.PolicyKind.{PolicyKind}
use Rattle.oc_tree.specs.declared.marked.PolicyKind.TheVariants as policies
use Rattle.oc_budget.specs.Budgets.{TBudgets}
use Rattle.oc_command.specs.Names.{function_name, line_at, variable_name}

-- ---- lines of the text

-- two numbers as a range, as in `3..7`
abbrev pub span : ℕ → ℕ → Text
span a b = decimal a ++ (codes ".." ++ decimal b)

-- the line of a region, which logs so many words and has this budget
abbrev pub region_line : TProgram → TRegion → (logged budget : ℕ) → Text
region_line p r logged budget =
    line_of (codes "region" ∷ decimal r.id ∷ function_name p r.function ∷ span r.first r.last
    ∷ codes "lines" ∷ span (line_at p r.first) (line_at p r.last)
    ∷ codes "logged" ∷ decimal logged ∷ codes "budget" ∷ decimal budget ∷ [])

-- the line of a policy of this kind in a function, which asks for a region
abbrev pub kind_line : TProgram → (function : ℕ) → PolicyKind → Text
kind_line p f (policies.Fresh v) =
    line_of (codes "fresh" ∷ function_name p f ∷ variable_name p f v ∷ [])
kind_line p f (policies.Consistent id) =
    line_of (codes "consistent" ∷ function_name p f ∷ signed_decimal id ∷ [])

-- the line of a policy that asks for a region
abbrev pub policy_line : TProgram → Policy → Text
policy_line p q = kind_line p q.function q.kind

-- the line of the policy of a number
abbrev pub reason_line : TMarked → ℕ → Text
reason_line m n = get_or (map (policy_line m.program) m.policies) n []

-- a word and a number, as a line
abbrev pub number_line : Text → ℕ → Text
number_line word n = line_of (word ∷ decimal n ∷ [])

-- how many instructions a run takes at most, and how many steps a safe period has, as two lines
abbrev pub total_lines : (total safe : ℕ) → Text
total_lines total safe = number_line (codes "total") total ++ number_line (codes "safe") safe

-- ---- the text

-- the lines of the policies with these numbers
abbrev pub reason_lines : TMarked → List ℕ → Text
reason_lines m reasons = flat_map (reason_line m) reasons

-- a region's line, and those of its reasons
abbrev pub lines_of : TMarked → TBudgets → (place : ℕ) → TRegion → Text
lines_of m b i r =
    region_line m.program r (get_or b.logged i 0) (get_or b.regions i 0) ++ reason_lines m r.reasons

-- the lines of regions, the first of which stands at this place among all
abbrev pub region_lines : TMarked → TBudgets → (place : ℕ) → List TRegion → Text
region_lines m b i [] = []
region_lines m b i (r ∷ rs) = lines_of m b i r ++ region_lines m b (i + 1) rs

-- the regions with their reasons, and what runs cost and periods need
abbrev pub regions_text : TMarked → TBudgets → Text
regions_text m b = region_lines m b 0 m.regions ++ total_lines b.total b.safe
