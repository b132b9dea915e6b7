-- Sources worked by hand, each on one line, for examples of what definitions say.
use Rattle.std.specs.Prelude.{ℕ, ℤ, pos, true, false, List, [], ◌∷◌, None, codes}
use Rattle.oc_tree.specs.Names.{Text}
use Rattle.oc_tree.specs.Tree.{TExpr, number, variable, deref, binary, mutable, call, TArgs, no_args, more_args, right_value, right_sense, let_to, assign, assign_deref, if_else}
use Rattle.oc_tree.specs.Tree.{call_only, emit, fresh, consistent, no_else, TStmt, stmt, block, TStmts, no_stmts, more, TFunction, TProgram}
use Rattle.oc_tree.specs.declared.tree.BinaryOp.TheVariants as operators
use Rattle.oc_tree.specs.Marked.{TRegion, TMarked}
use Rattle.oc_tree.specs.declared.marked.Policy.{Policy}
use Rattle.oc_tree.specs.declared.marked.PolicyKind.TheVariants as policies
use Rattle.oc_tree.specs.declared.tree.NvDecl.{NvDecl}
use Rattle.oc_tree.specs.declared.tree.Param.{Param}
use Rattle.oc_tree.specs.declared.tree.Passing.TheVariants as passings
use Rattle.oc_tree.specs.declared.tree.ValueKind.TheVariants as kinds
use Rattle.oc_tree.specs.declared.tree.VarId.TheVariants as variables

-- a list of statements, as a block has them
abbrev pub statements : List TStmt → TStmts
statements [] = no_stmts
statements (s ∷ ss) = more s (statements ss)

-- a function without a result
abbrev pub function_of : Text → List Param → (block : ℕ) → List TStmt → TFunction
function_of name params n ss =
    record { name = name; line = 1; params = params; result = None; body = block n (statements ss) }

-- the function `main`
abbrev pub main_of : (block : ℕ) → List TStmt → TFunction
main_of n ss = function_of (codes "main") [] n ss

-- a program, all of it on line 1
abbrev pub program_of : (sensors ports nvs : List Text) → List NvDecl → List TFunction → TProgram
program_of sensors ports nvs nv functions =
    record {
      names = record { sensors = sensors; ports = ports; nvs = nvs };
      nv = nv;
      functions = functions;
      order = [];
      last_line = 1;
    }

-- a nonvolatile variable of one word, with its first value
abbrev pub word : ℤ → NvDecl
word z = record { words = 1; array = false; initial = z }

-- `let x = sense(s);`
abbrev pub let_sense : (id : ℕ) → Text → Text → TStmt
let_sense id x sensor = stmt id 1 (let_to false x None (right_sense sensor))

-- `let x = e;`
abbrev pub let_value : (id : ℕ) → Text → TExpr → TStmt
let_value id x e = stmt id 1 (let_to false x None (right_value e))

-- a variable in an expression
abbrev pub name : Text → TExpr
name x = variable x

-- `a + b`
abbrev pub sum : TExpr → TExpr → TExpr
sum a b = binary operators.Add a b

-- `f(args);`
abbrev pub calls : (id : ℕ) → Text → TArgs → TStmt
calls id f args = stmt id 1 (call_only (call f args))

-- `let x = sense(t); Fresh(x); emit(r, x);`
abbrev pub fresh_input : TProgram
fresh_input =
    program_of (codes "t" ∷ []) (codes "r" ∷ []) [] []
    (main_of 1
    (let_sense 1 (codes "x") (codes "t")
    ∷ stmt 2 1 (fresh (codes "x"))
    ∷ stmt 3 1 (emit (codes "r") (name (codes "x")))
    ∷ [])
    ∷ [])

-- `let x = sense(t); Fresh(x); n = x; m = n + 1; emit(r, x);` over `nv n: i32 = 7; nv m: i32 = 9;`
abbrev pub fresh_writes : TProgram
fresh_writes =
    program_of (codes "t" ∷ []) (codes "r" ∷ []) (codes "n" ∷ codes "m" ∷ [])
    (word (pos 7) ∷ word (pos 9) ∷ [])
    (main_of 1
    (let_sense 1 (codes "x") (codes "t")
    ∷ stmt 2 1 (fresh (codes "x"))
    ∷ stmt 3 1 (assign (codes "n") (right_value (name (codes "x"))))
    ∷ stmt 4 1 (assign (codes "m") (right_value (sum (name (codes "n")) (number (pos 1)))))
    ∷ stmt 5 1 (emit (codes "r") (name (codes "x")))
    ∷ [])
    ∷ [])

-- `let x = sense(a); let mut y = 0; if x > 0 { y = sense(b); } Consistent(x, 1); Consistent(y, 1); emit(r, x + y);`
abbrev pub set_of_two : TProgram
set_of_two =
    program_of (codes "a" ∷ codes "b" ∷ []) (codes "r" ∷ []) [] []
    (main_of 1
    (let_sense 1 (codes "x") (codes "a")
    ∷ stmt 2 1 (let_to true (codes "y") None (right_value (number (pos 0))))
    ∷ stmt 3 1 (if_else (binary operators.Gt (name (codes "x")) (number (pos 0)))
    (block 2 (statements (stmt 4 1 (assign (codes "y") (right_sense (codes "b"))) ∷ [])))
    no_else)
    ∷ stmt 5 1 (consistent (codes "x") (pos 1))
    ∷ stmt 6 1 (consistent (codes "y") (pos 1))
    ∷ stmt 7 1 (emit (codes "r") (sum (name (codes "x")) (name (codes "y"))))
    ∷ [])
    ∷ [])

-- `fn grab() { n = sense(t); } fn bump(k: &mut i32) { *k = *k + 1; } fn show() { let x = n; Fresh(x); emit(r, x); }`
-- `fn main() { grab(); bump(&mut c); show(); }` over `nv n: i32 = 3; nv c: i32 = 0;`
abbrev pub carried_input : TProgram
carried_input =
    program_of (codes "t" ∷ []) (codes "r" ∷ []) (codes "n" ∷ codes "c" ∷ [])
    (word (pos 3) ∷ word (pos 0) ∷ [])
    (function_of (codes "grab") [] 1
    (stmt 1 1 (assign (codes "n") (right_sense (codes "t")))
    ∷ [])
    ∷ function_of (codes "bump")
    (record { name = codes "k"; passing = passings.Mutable; kind = kinds.Int } ∷ []) 2
    (stmt 2 1 (assign_deref (codes "k") (right_value (sum (deref (codes "k")) (number (pos 1)))))
    ∷ [])
    ∷ function_of (codes "show") [] 3
    (let_value 3 (codes "x") (name (codes "n"))
    ∷ stmt 4 1 (fresh (codes "x"))
    ∷ stmt 5 1 (emit (codes "r") (name (codes "x")))
    ∷ [])
    ∷ main_of 4
    (calls 6 (codes "grab") no_args
    ∷ calls 7 (codes "bump") (more_args (mutable (codes "c")) no_args)
    ∷ calls 8 (codes "show") no_args
    ∷ [])
    ∷ [])

-- ---- with regions

-- the policy of `fresh_input`: its variable `x`, which statement 1 declares, is fresh
abbrev pub fresh_policy : Policy
fresh_policy = record { function = 0; kind = policies.Fresh (variables.Declared 1) }

-- the region of `fresh_input`: all of its statements
abbrev pub fresh_region : TRegion
fresh_region =
    record { id = 1; function = 0; block = 1; first = 1; last = 3; reasons = 0 ∷ [] }

-- the region of `fresh_writes`: all of its statements
abbrev pub writes_region : TRegion
writes_region =
    record { id = 1; function = 0; block = 1; first = 1; last = 5; reasons = 0 ∷ [] }

-- `fresh_input` with its policy and its region
abbrev pub fresh_marked : TMarked
fresh_marked =
    record {
      program = fresh_input;
      groups = (1, 1) ∷ (2, 2) ∷ (3, 3) ∷ [];
      policies = fresh_policy ∷ [];
      regions = fresh_region ∷ [];
    }
