-- Worked examples of the definitions.
use Rattle.std.proofs.Common.{◌≡◌, [], ◌∷◌, false, None, refl}
use Rattle.std.specs.Prelude.{pos, codes}
use Rattle.oc_tree.specs.Tree.{TProgram, TBlock, no_stmts, more, stmt, block, let_to, for_in, emit, fresh, right_value, right_sense, variable, binary, sensed}
use Rattle.oc_tree.specs.declared.tree.BinaryOp.TheVariants.{Add}
use Rattle.oc_tree.specs.Expansion.{expansion, program_groups, temporary}
use Rattle.oc_tree.specs.Weight.{weights, weights_to}
use Rattle.oc_tree.specs.Stack.{stack_words, stacks_to}

abbrev only : TBlock → TProgram
only b = record {
  names = record { sensors = []; ports = []; nvs = [] };
  nv = [];
  functions =
      record { name = codes "main"; line = 1; params = []; result = None; body = b } ∷ [];
  order = [];
  last_line = 1;
}

-- for i in 0..65535 { for j in 0..7280 { } } for k in 0..14562 { }
abbrev loops : TBlock
loops = block 1 (more (stmt 1 1 (for_in (codes "i") (pos 0) (pos 65535) (block 2 (more (stmt 2 1 (for_in (codes "j") (pos 0) (pos 7280) (block 3 no_stmts))) no_stmts))))
    (more (stmt 3 1 (for_in (codes "k") (pos 0) (pos 14562) (block 4 no_stmts))) no_stmts))

greatest : weights (only loops) ≡ 4294967296 ∷ []
unfolding weights_to
greatest = refl

-- let x = sense(t) + sense(t); Fresh(x); emit(r, x);
abbrev both : TBlock
both = block 1 (more (stmt 1 1 (let_to false (codes "x") None (right_value (binary Add (sensed (codes "t")) (sensed (codes "t"))))))
    (more (stmt 2 1 (fresh (codes "x"))) (more (stmt 3 1 (emit (codes "r") (variable (codes "x")))) no_stmts)))

expanded : (expansion (only both)) ≡ only
    (block 1 (more (stmt 1 1 (let_to false (temporary 1) None (right_sense (codes "t"))))
    (more (stmt 2 1 (let_to false (temporary 2) None (right_sense (codes "t"))))
    (more (stmt 3 1 (let_to false (codes "x") None (right_value (binary Add (variable (temporary 1)) (variable (temporary 2))))))
    (more (stmt 4 1 (fresh (codes "x"))) (more (stmt 5 1 (emit (codes "r") (variable (codes "x")))) no_stmts))))))
expanded = refl

grouped : program_groups (only both) ≡ (1, 3) ∷ (4, 4) ∷ (5, 5) ∷ []
grouped = refl

-- without its two uses, which take two probes, it weighs two less than it costs
summed : weights (only both) ≡ 11 ∷ []
unfolding weights_to
summed = refl

-- one variable and two temporaries, and two operands
stacked : stack_words (only both) ≡ 5
unfolding stacks_to
stacked = refl
