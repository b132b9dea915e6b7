-- Policies and requirements, by examples.
use Rattle.std.specs.Prelude.{◌≡◌, refl, pos, [], ◌∷◌}
use Rattle.oc_tree.specs.declared.tree.VarId.TheVariants as variables
use Rattle.oc_tree.specs.declared.marked.PolicyKind.TheVariants as kinds
use Rattle.oc_tree.specs.Worked.{fresh_input, fresh_writes, set_of_two, fresh_policy}
use Rattle.oc_flow.specs.Flow.{flows_to, brings_to}
use Rattle.oc_needs.specs.Policies.{policies}
use Rattle.oc_needs.specs.Sites.{input_sites}
use Rattle.oc_needs.specs.Requirements.{requirements}

pub policies_example : policies fresh_input ≡ fresh_policy ∷ []
policies_example = refl

-- two annotations of one set ask for it once
pub policies_example_set :
    policies set_of_two ≡ record { function = 0; kind = kinds.Consistent (pos 1) } ∷ []
policies_example_set = refl

-- the input of `x` is statement 1
pub input_sites_example : input_sites fresh_input 0 (variables.Declared 1 ∷ []) ≡ 1 ∷ []
unfolding flows_to brings_to
input_sites_example = refl

-- the input and the use
pub requirements_example :
    requirements fresh_input ≡ record { policy = 0; function = 0; sites = 1 ∷ 3 ∷ [] } ∷ []
unfolding flows_to brings_to
requirements_example = refl

-- `x` is used by the statements 3 and 5, and `m = n + 1;` needn't be near
pub requirements_example_writes :
    requirements fresh_writes
    ≡ record { policy = 0; function = 0; sites = 1 ∷ 3 ∷ 5 ∷ [] } ∷ []
unfolding flows_to brings_to
requirements_example_writes = refl

-- both inputs and both annotations
pub requirements_example_set :
    requirements set_of_two
    ≡ record { policy = 0; function = 0; sites = 1 ∷ 4 ∷ 5 ∷ 6 ∷ [] } ∷ []
unfolding flows_to brings_to
requirements_example_set = refl
