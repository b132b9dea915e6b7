-- Programs that break a rule or none, by examples.
use Rattle.std.specs.Prelude.{◌≡◌, refl, pos, true, false, List, [], ◌∷◌, Some, None, codes}
use Rattle.oc_tree.specs.Tree.{number, truth, for_in, emit, stmt, TStmt, block, no_stmts, TProgram}
use Rattle.oc_tree.specs.declared.tree.DeclKind.TheVariants as decls
use Rattle.oc_tree.specs.Worked.{fresh_input, let_value, main_of, name, program_of}
use Rattle.oc_tree.specs.Weight.{weights_to}
use Rattle.oc_tree.specs.Stack.{stacks_to}
use Rattle.oc_tree.specs.Rules.{has_many_turns}
use Rattle.oc_tree.specs.Broken.{broken}

-- a program that declares a sensor, then a port, and then a function
abbrev pub in_order : TProgram → TProgram
in_order p =
    record p {
      order =
          record { kind = decls.Sensor; line = 1 } ∷ record { kind = decls.Port; line = 1 }
          ∷ record { kind = decls.Function; line = 1 } ∷ [];
    }

-- `fn main() { .. }` with these statements, behind a sensor `t` and a port `r`
abbrev pub with_main : List TStmt → TProgram
with_main ss = in_order (program_of (codes "t" ∷ []) (codes "r" ∷ []) [] [] (main_of 1 ss ∷ []))

pub broken_example : broken (in_order fresh_input) ≡ None
unfolding weights_to stacks_to
broken_example = refl

-- `let x = 1;` in line 1 and `emit(r, y);` in line 4: nothing is named `y`
pub broken_example_name :
    broken (with_main (let_value 1 (codes "x") (number (pos 1))
    ∷ stmt 2 4 (emit (codes "r") (name (codes "y"))) ∷ []))
    ≡ Some (record { line = 4; rule = 3 })
broken_example_name = refl

-- `emit(r, true);`: a port takes a number
pub broken_example_type :
    broken (with_main (stmt 1 2 (emit (codes "r") (truth true)) ∷ []))
    ≡ Some (record { line = 2; rule = 6 })
broken_example_type = refl

-- `for i in 0..65536 { }` has one turn too many
pub has_many_turns_example :
    has_many_turns (for_in (codes "i") (pos 0) (pos 65536) (block 2 no_stmts)) ≡ true
has_many_turns_example = refl

pub has_many_turns_example_fewer :
    has_many_turns (for_in (codes "i") (pos 0) (pos 65535) (block 2 no_stmts)) ≡ false
has_many_turns_example_fewer = refl
