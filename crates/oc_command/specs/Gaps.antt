-- What hand-written blocks leave open.
use Rattle.std.specs.Prelude.{ℕ, ◌∷◌, List, [], codes, decimal}
use Rattle.std.specs.Fmt.{signed_decimal}
use Rattle.oc_io.specs.Lines.{line_of}
use Rattle.oc_tree.specs.Names.{Text}
use Rattle.oc_tree.specs.Tree.{TProgram}
use Rattle.oc_tree.specs.declared.marked.Policy.{Policy}
use Rattle.oc_tree.specs.declared.marked.PolicyKind.{PolicyKind}
use Rattle.oc_tree.specs.declared.marked.PolicyKind.TheVariants as policies
use Rattle.oc_command.specs.Names.{function_name, line_at, policy_name}
use Rattle.oc_command.specs.declared.gap.Gap.{Gap}

-- two statements of a function that a policy needs inside one block
abbrev pub gap_of : TProgram → Policy → (function first second : ℕ) → Gap
gap_of p q f s u = record {
  kind = q.kind;
  owner = function_name p q.function;
  variable = policy_name p q;
  first = line_at p s;
  second = line_at p u;
  function = function_name p f;
}

-- the lines that must lie inside one block, and their function
abbrev pub needed_lines : Gap → List Text
needed_lines g =
    codes "needs lines"
    ∷ decimal g.first ∷ codes "and" ∷ decimal g.second ∷ codes "in" ∷ g.function ∷ []

-- the line that says what blocks leave open of a policy of this kind
abbrev pub kind_gap_line : PolicyKind → Gap → Text
kind_gap_line (policies.Fresh v) g =
    line_of (codes "ocelot: not covered: fresh" ∷ g.owner ∷ g.variable ∷ needed_lines g)
kind_gap_line (policies.Consistent id) g =
    line_of (codes "ocelot: not covered: consistent" ∷ g.owner ∷ signed_decimal id ∷ needed_lines g)

-- the line that says what blocks leave open
abbrev pub gap_line : Gap → Text
gap_line g = kind_gap_line g.kind g
