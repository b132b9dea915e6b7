-- What flows into what, by examples.
use Rattle.std.specs.Prelude.{◌≡◌, refl, true, false, [], ◌∷◌, map}
use Rattle.oc_tree.specs.declared.tree.VarId.TheVariants as variables
use Rattle.oc_tree.specs.Worked.{fresh_input, fresh_writes, carried_input}
use Rattle.oc_effects.specs.Effects.{effects_at}
use Rattle.oc_flow.specs.Flow.{flows, flows_to, brings, brings_to}

-- in `fresh_writes`, `x` flows into `n`, which has the number 0, and on into `m`
pub flows_example : flows fresh_writes 0 (variables.Declared 1) (variables.Nv 1) ≡ true
unfolding flows_to
flows_example = refl

pub flows_example_back : flows fresh_writes 0 (variables.Nv 1) (variables.Declared 1) ≡ false
unfolding flows_to
flows_example_back = refl

-- in `fresh_input`, statement 1 alone brings input into `x`
pub brings_example :
    map (λ a. brings fresh_input a (variables.Declared 1)) (effects_at fresh_input 0)
    ≡ true ∷ false ∷ false ∷ []
unfolding flows_to brings_to
brings_example = refl

-- in `main` of `carried_input`, the call of `grab` alone brings input into `n`
pub brings_example_call :
    map (λ a. brings carried_input a (variables.Nv 0)) (effects_at carried_input 3)
    ≡ true ∷ false ∷ false ∷ []
unfolding flows_to brings_to
brings_example_call = refl
