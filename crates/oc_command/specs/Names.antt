-- The names of functions and of their variables, and the lines of statements.
use Rattle.std.specs.Prelude.{ℕ, [], map, get_or, option_map}
use Rattle.std.specs.Option.{unwrap_or}
use Rattle.oc_tree.specs.Names.{Text}
use Rattle.oc_tree.specs.Tree.{TKind, let_to, let_array, for_in, TProgram}
use Rattle.oc_tree.specs.Places.{placed, line_of_stmt}
use Rattle.oc_tree.specs.declared.tree.VarId.{VarId}
use Rattle.oc_tree.specs.declared.tree.VarId.TheVariants as variables
use Rattle.oc_tree.specs.declared.marked.Policy.{Policy}
use Rattle.oc_tree.specs.declared.marked.PolicyKind.{PolicyKind}
use Rattle.oc_tree.specs.declared.marked.PolicyKind.TheVariants as policies

-- ---- functions and variables

-- the name of the function at a place
abbrev pub function_name : TProgram → ℕ → Text
function_name p f = get_or (map (λ g. g.name) p.functions) f []

-- the name of a function's parameter
abbrev pub param_name : TProgram → (function index : ℕ) → Text
param_name p f i = get_or (map (λ q. q.name) (get_or (map (λ g. g.params) p.functions) f [])) i []

-- the name of the nonvolatile variable of this number
abbrev pub nv_name : TProgram → ℕ → Text
nv_name p i = get_or p.names.nvs i []

-- the name that a statement declares
abbrev pub declared_name : TKind → Text
declared_name (let_to m x k r) = x
declared_name (let_array m x k i n) = x
declared_name (for_in x m n b) = x
declared_name _ = []

-- the name of a variable of a function, which is that of its declaration
abbrev pub variable_name : TProgram → (function : ℕ) → VarId → Text
variable_name p f (variables.Nv i) = nv_name p i
variable_name p f (variables.Param i) = param_name p f i
variable_name p f (variables.Declared s) =
    unwrap_or (option_map (λ a. declared_name a.kind) (placed p s)) []
variable_name p f variables.Returned = []

-- the line in the source of the statement with this number
abbrev pub line_at : TProgram → ℕ → ℕ
line_at p s = unwrap_or (line_of_stmt p s) 0

-- the name of the variable that a policy of this kind holds fresh; none of a consistent set
abbrev pub kind_name : TProgram → (function : ℕ) → PolicyKind → Text
kind_name p f (policies.Fresh v) = variable_name p f v
kind_name p f (policies.Consistent id) = []

-- the name of a policy's variable
abbrev pub policy_name : TProgram → Policy → Text
policy_name p q = kind_name p q.function q.kind
