-- What the entries of a program written by hand cost at most.
use Rattle.std.proofs.Common.{◌≡◌, ◌+◌, ◌*◌, ℕ, pos, List, [], ◌∷◌, codes, false, true, None, refl}
use Rattle.oc_tree.specs.Names.{Text}
use Rattle.oc_tree.specs.Tree.{truth, variable, call, no_args, right_sense, let_to, if_else, for_in, call_only, emit, fresh, else_do, TStmt, stmt, block, TStmts, no_stmts, more, TFunction, TProgram}
use Rattle.oc_tree.specs.Marked.{TRegion}
use Rattle.oc_watch.specs.Entries.{run_toll}

abbrev statements : List TStmt → TStmts
statements [] = no_stmts
statements (s ∷ ss) = more s (statements ss)

-- `let x = sense(t); Fresh(x); emit(r, x);`, from the statement n on
abbrev shows : ℕ → List TStmt
shows n =
    stmt n 1 (let_to false (codes "x") None (right_sense (codes "t"))) ∷ (stmt (n + 1) 1 (fresh (codes "x"))
    ∷ (stmt (n + 2) 1 (emit (codes "r") (variable (codes "x"))) ∷ []))

abbrev calls_show : ℕ → TStmt
calls_show n = stmt n 1 (call_only (call (codes "show") no_args))

abbrev function_of : Text → ℕ → List TStmt → TFunction
function_of name id ss = record { name = name; line = 1; params = []; result = None; body = block id (statements ss) }

-- `fn show() { .. }` with a region, and `fn main() { for i in 0..3 { show(); } if true { show(); } else { .. } }`, with
-- one in its second branch
abbrev program : TProgram
program = record {
  names = record { sensors = codes "t" ∷ []; ports = codes "r" ∷ []; nvs = [] };
  nv = [];
  functions =
      function_of (codes "show") 1 (shows 1)
      ∷ (function_of (codes "main") 2 (stmt 4 1 (for_in (codes "i") (pos 0) (pos 3) (block 3 (statements (calls_show 5 ∷ []))))
      ∷ (stmt 6 1 (if_else (truth true) (block 4 (statements (calls_show 7 ∷ []))) (else_do (block 5 (statements (shows 8))))) ∷ [])) ∷ []);
  order = [];
  last_line = 1;
}

abbrev region : (id function home first : ℕ) → TRegion
region id function home first = record { id = id; function = function; block = home; first = first; last = first + 2; reasons = [] }

-- where an entry of region 1 costs 5 steps and one of region 2 nine: three turns, and the dearer branch
costs : run_toll program (region 1 0 1 1 ∷ (region 2 1 5 8 ∷ [])) (λ r. 1 + 4 * r) ≡ 24
costs = refl
