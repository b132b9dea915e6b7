-- The walk sees the effects of the statements at their places.
use Rattle.std.proofs.Common.{◌≡◌, refl, ap, ◌∙◌, ℕ, [], ◌∷◌, ◌++◌, map}
use Rattle.std.proofs.lemmas.List.{append-nil, map-append}
use Rattle.oc_tree.specs.Tree.{TKind, if_else, for_in, while_do, TElse, no_else, else_do, stmt, TBlock, block, TStmts, no_stmts, more, TFunction, TProgram}
use Rattle.oc_tree.specs.declared.tree.VarId.TheVariants as variables
use Rattle.oc_tree.specs.Places.{Place, behind, in_branch, in_loop, at_start, kind_placed, else_placed, block_placed, stmts_placed}
use Rattle.oc_effects.specs.Effects.{effect_of, function_effects}
use Rattle.oc_effects.specs.Walk.{standing, kind_effects, else_effects, block_effects, stmts_effects}

module _ (p : TProgram) where
  mutual
    kind_agrees : (at : Place) (id : ℕ) (k : TKind) → map (effect_of p) (kind_placed at id k) ≡ kind_effects p at.around at.variables id k
    kind_agrees at id (if_else c a b) = map-append (effect_of p) (block_placed (in_branch at id) a) (else_placed (in_branch at id) b)
        ∙ (λ i. block_agrees (in_branch at id) a i ++ else_agrees (in_branch at id) b i)
    kind_agrees at id (for_in x m n b) = block_agrees (in_loop at id ((x, variables.Declared id) ∷ [])) b
    kind_agrees at id (while_do c n b) = block_agrees (in_loop at id []) b ∙ ap (λ vs. block_effects p (id ∷ at.around) vs b) (append-nil at.variables)
    kind_agrees at id _ = refl

    else_agrees : (at : Place) (b : TElse) → map (effect_of p) (else_placed at b) ≡ else_effects p at.around at.variables b
    else_agrees at no_else = refl
    else_agrees at (else_do b) = block_agrees at b

    pub block_agrees : (at : Place) (b : TBlock) → map (effect_of p) (block_placed at b) ≡ block_effects p at.around at.variables b
    block_agrees at (block id ss) = stmts_agrees (record at { block = id }) ss

    stmts_agrees : (at : Place) (ss : TStmts) → map (effect_of p) (stmts_placed at ss) ≡ stmts_effects p at.block at.around at.variables ss
    stmts_agrees at no_stmts = refl
    stmts_agrees at (more (stmt id line k) ss) =
        ap (λ rest. effect_of p (standing at.block at.around at.variables id line k) ∷ rest)
        (map-append (effect_of p) (kind_placed at id k) (stmts_placed (behind at id k) ss) ∙ (λ i. kind_agrees at id k i ++ stmts_agrees (behind at id k) ss i))

  pub function_agrees : (f : TFunction) → function_effects p f ≡ block_effects p [] (at_start f).variables f.body
  function_agrees f = block_agrees (at_start f) f.body
