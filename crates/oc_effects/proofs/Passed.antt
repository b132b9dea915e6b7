-- Arguments and parameters.
use Rattle.std.proofs.Common.{◌≡◌, ◌≤◌, ℕ, List, [], ◌∷◌, ◌++◌, length, drop, refl, sym, ap, ◌∙◌}
use Rattle.std.proofs.lemmas.List.{append-nil, drop_all}
use Rattle.oc_tree.specs.declared.tree.Arg.{Arg}
use Rattle.oc_tree.specs.declared.tree.Param.{Param}
use Rattle.oc_tree.specs.Tree.{no_args, TProgram}
use Rattle.oc_tree.specs.View.{args_view}
use Rattle.oc_tree.specs.Places.{Placed}
use Rattle.oc_effects.specs.Effects.{TPassed, all_passed}

-- where no argument is left, nothing is passed
passed_none : (p : TProgram) (a : Placed) (qs : List Param) → all_passed p a qs no_args ≡ []
passed_none p a [] = refl
passed_none p a (q ∷ qs) = refl

-- what is passed when all arguments are done is all
pub passed_all : (p : TProgram) (a : Placed) (qs : List Param) (gs : List Arg) (i : ℕ) (done whole : List TPassed) → length gs ≤ i
    → done ++ all_passed p a qs (args_view (drop i gs)) ≡ whole → done ≡ whole
passed_all p a qs gs i done whole h e =
    let none : all_passed p a qs (args_view (drop i gs)) ≡ [] = ap (λ xs. all_passed p a qs (args_view xs)) (drop_all i gs h) ∙ passed_none p a qs in
    sym (ap (λ xs. done ++ xs) none ∙ append-nil done) ∙ e
