-- Expansions of statements, by examples.
use Rattle.std.specs.Prelude.{◌≡◌, refl, pos, false, [], ◌∷◌, ◌++◌, None, codes, decimal}
use Rattle.oc_tree.specs.Tree.{TExpr, number, variable, binary, sensed, called, value, call, no_args, more_args, right_sense, right_call, let_to, emit, stmt, TStmts, no_stmts, more}
use Rattle.oc_tree.specs.declared.tree.BinaryOp.TheVariants.{Add}
use Rattle.oc_tree.specs.Worked.{main_of, program_of}
use Rattle.oc_tree.specs.Expansion.{temporary, pulled, left_expr, expand_stmts, stmts_groups, expansion, program_groups}

-- `sense(s) + f(sense(t))`
abbrev pub nested : TExpr
nested =
    binary Add (sensed (codes "s"))
    (called (call (codes "f") (more_args (value (sensed (codes "t"))) no_args)))

-- `emit(p, sense(s));` as the statement 1, in line 7
abbrev pub emit_input : TStmts
emit_input = more (stmt 1 7 (emit (codes "p") (sensed (codes "s")))) no_stmts

pub temporary_example : temporary 12 ≡ codes "." ++ decimal 12
temporary_example = refl

-- `emit(p, sense(s) + f(sense(t)));` pulls `sense(s)`, `sense(t)` and `f(.2)`
pub pulled_example : pulled 1 (emit (codes "p") nested)
    ≡ right_sense (codes "s") ∷ right_sense (codes "t")
    ∷ right_call (call (codes "f") (more_args (value (variable (temporary 2))) no_args)) ∷ []
pulled_example = refl

-- what is left of it is `.1 + .3`
pub left_expr_example :
    left_expr 1 nested ≡ binary Add (variable (temporary 1)) (variable (temporary 3))
left_expr_example = refl

-- `let .1 = sense(s);` and `emit(p, .1);`, both in line 7
pub expand_stmts_example : expand_stmts 1 1 emit_input
    ≡ more (stmt 1 7 (let_to false (temporary 1) None (right_sense (codes "s"))))
    (more (stmt 2 7 (emit (codes "p") (variable (temporary 1)))) no_stmts)
expand_stmts_example = refl

pub stmts_groups_example : stmts_groups 1 emit_input ≡ (1, 2) ∷ []
stmts_groups_example = refl

-- `fn main() { emit(p, sense(s)); emit(p, 1); }` becomes
-- `fn main() { let .1 = sense(s); emit(p, .1); emit(p, 1); }`
pub expansion_example :
    expansion (program_of (codes "s" ∷ []) (codes "p" ∷ []) [] []
    (main_of 1 (stmt 1 1 (emit (codes "p") (sensed (codes "s")))
    ∷ stmt 2 1 (emit (codes "p") (number (pos 1))) ∷ []) ∷ []))
    ≡ program_of (codes "s" ∷ []) (codes "p" ∷ []) [] []
    (main_of 1 (stmt 1 1 (let_to false (temporary 1) None (right_sense (codes "s")))
    ∷ stmt 2 1 (emit (codes "p") (variable (temporary 1)))
    ∷ stmt 3 1 (emit (codes "p") (number (pos 1))) ∷ []) ∷ [])
expansion_example = refl

-- its groups are the first two statements, and the third
pub program_groups_example :
    program_groups (program_of (codes "s" ∷ []) (codes "p" ∷ []) [] []
    (main_of 1 (stmt 1 1 (emit (codes "p") (sensed (codes "s")))
    ∷ stmt 2 1 (emit (codes "p") (number (pos 1))) ∷ []) ∷ [])) ≡ (1, 2) ∷ (3, 3) ∷ []
program_groups_example = refl
