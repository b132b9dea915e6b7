-- What is visible at a statement was declared by an earlier one.
use Rattle.std.proofs.Common.{◌≡◌, ℕ, suc, ◌+◌, ◌<◌, ◌≤◌, Bool, true, false, List, [], ◌∷◌, ◌++◌, length, Option, Some, None, cond, refl, sym, ◌∙◌, subst, arith, append-nil}
use Rattle.std.specs.Prelude.{slice_get}
use Rattle.std.specs.Str.{bytes_eq}
use Rattle.std.proofs.lemmas.Option.{none-some}
use Rattle.oc_tree.specs.Names.{Text}
use Rattle.oc_tree.specs.Tree.{TKind, let_to, let_array, if_else, for_in, while_do}
use Rattle.oc_tree.specs.Tree.{TElse, no_else, else_do, stmt, TBlock, block, TStmts, no_stmts, more, TFunction, TProgram}
use Rattle.oc_tree.specs.declared.tree.Param.{Param}
use Rattle.oc_tree.specs.declared.tree.VarId.{VarId}
use Rattle.oc_tree.specs.declared.tree.VarId.TheVariants as variables
use Rattle.oc_tree.specs.Numbers.{kind_statements, else_statements, block_statements, stmts_statements, program_statements}
use Rattle.oc_tree.specs.Places.{Place, Placed, Variables, find_variable, let_variables, param_variables, at_start, in_branch, in_loop, behind, kind_placed, else_placed, block_placed, stmts_placed}
use Rattle.oc_tree.specs.Members.{IsOf}
use Rattle.oc_desugar.proofs.NumberLists.{Follow, first_of, parts}
use Rattle.oc_laws.proofs.Members.{in_append}
use Rattle.oc_laws.proofs.Names.{find_found, find_not}
use Rattle.oc_timely.proofs.Members.{by_side}
use Rattle.oc_timely.proofs.Around.{body_follows}

-- all that these stand for was declared before the statement `n`
abbrev IsBefore : ℕ → Variables → Type 0
IsBefore n vs = (y : Text) (s : ℕ) → find_variable vs y ≡ Some (variables.Declared s) → s < n

later : (n k : ℕ) (vs : Variables) → n ≤ k → IsBefore n vs → IsBefore k vs
later n k vs l h y s e = let q = h y s e in omega (arith, q, l)

same_declared : (s t : ℕ) → variables.Declared s ≡ variables.Declared t → s ≡ t
same_declared s t e = cc

one_more : (n : ℕ) (vs : Variables) (x : Text) → IsBefore n vs → IsBefore (suc n) (vs ++ (x, variables.Declared n) ∷ [])
one_more n vs x h y s e = by (find_variable vs y) refl
  where
    last : (b : Bool) → cond b (Some (variables.Declared n)) None ≡ Some (variables.Declared s) → s < suc n
    last true q = let same = same_declared n s (cc) in omega (arith, same)
    last false q = absurd (none-some _ q)

    by : (o : Option VarId) → find_variable vs y ≡ o → s < suc n
    by (Some u) q = let l = h y s (q ∙ sym (find_found vs ((x, variables.Declared n) ∷ []) y u q) ∙ e) in omega (arith, l)
    by None q = last (bytes_eq y x) (sym (find_not vs ((x, variables.Declared n) ∷ []) y q) ∙ e)

none_more : (n k : ℕ) (vs : Variables) → n ≤ k → IsBefore n vs → IsBefore k (vs ++ [])
none_more n k vs l h = subst (IsBefore k) (sym (append-nil vs)) (later n k vs l h)

-- behind a statement
on_behind : (id k : ℕ) (vs : Variables) (kind : TKind) → suc id ≤ k → IsBefore id vs → IsBefore k (vs ++ let_variables id kind)
on_behind id k vs (let_to m x t r) l h = later (suc id) k _ l (one_more id vs x h)
on_behind id k vs (let_array m x t z n) l h = later (suc id) k _ l (one_more id vs x h)
on_behind id k vs kind l h = none_more id k vs (omega (arith, l)) h

abbrev Declares : Placed → Type 0
Declares q = IsBefore q.id q.at.variables

mutual
  kind_before : (id : ℕ) (at : Place) (k : TKind) → IsBefore id at.variables → Follow (suc id) (kind_statements k) → (q : Placed) → IsOf q (kind_placed at id k) → Declares q
  kind_before id at (if_else c a b) h f q o =
      let s = parts (suc id) (block_statements a) (else_statements b) f in
      by_side (in_append q (block_placed (in_branch at id) a) (else_placed (in_branch at id) b) o)
      (block_before (suc id) (in_branch at id) a (later id (suc id) at.variables (omega arith) h) s.0 q)
      (else_before (suc id + length (block_statements a)) (in_branch at id) b (later id (suc id + length (block_statements a)) at.variables (omega arith) h) s.1 q)
  kind_before id at (for_in x m n b) h f q o = block_before (suc id) (in_loop at id ((x, variables.Declared id) ∷ [])) b (one_more id at.variables x h) f q o
  kind_before id at (while_do c n b) h f q o = block_before (suc id) (in_loop at id []) b (none_more id (suc id) at.variables (omega arith) h) f q o
  kind_before id at k h f q o = absurd o

  else_before : (i : ℕ) (at : Place) (b : TElse) → IsBefore i at.variables → Follow i (else_statements b) → (q : Placed) → IsOf q (else_placed at b) → Declares q
  else_before i at no_else h f q o = absurd o
  else_before i at (else_do b) h f q o = block_before i at b h f q o

  block_before : (i : ℕ) (at : Place) (b : TBlock) → IsBefore i at.variables → Follow i (block_statements b) → (q : Placed) → IsOf q (block_placed at b) → Declares q
  block_before i at (block id ss) h f q o = stmts_before i (record at { block = id }) ss h f q o

  stmts_before : (i : ℕ) (at : Place) (ss : TStmts) → IsBefore i at.variables → Follow i (stmts_statements ss) → (q : Placed) → IsOf q (stmts_placed at ss) → Declares q
  stmts_before i at no_stmts h f q o = absurd o
  stmts_before i at (more (stmt id line k) ss) h f q o =
      let s = parts i (id ∷ kind_statements k) (stmts_statements ss) f in
      let own = first_of id i (kind_statements k) s.0 in
      let next = i + length (id ∷ kind_statements k) in
      let here : IsBefore id at.variables = subst (λ n. IsBefore n at.variables) (sym own.0) h in
      let inside : Follow (suc id) (kind_statements k) = subst (λ n. Follow (suc n) (kind_statements k)) (sym own.0) own.1 in
      let low : suc id ≤ next = (let e = own.0 in omega (arith, e)) in
      by_side o (λ (e : q ≡ record { id = id; line = line; kind = k; at = at }). subst Declares (sym e) here)
      (λ j. by_side (in_append q (kind_placed at id k) (stmts_placed (behind at id k) ss) j) (kind_before id at k here inside q)
      (stmts_before next (behind at id k) ss (on_behind id next at.variables k low here) s.1 q))

-- parameters are declared by no statement
none_declared : (i : ℕ) (qs : List Param) (y : Text) (s : ℕ) → find_variable (param_variables i qs) y ≡ Some (variables.Declared s) → ⊥
none_declared i [] y s e = none-some _ e
none_declared i (q ∷ qs) y s e = by (bytes_eq y q.name) e (none_declared (i + 1) qs y s)
  where
    by : (b : Bool) → cond b (Some (variables.Param i)) (find_variable (param_variables (i + 1) qs) y) ≡ Some (variables.Declared s) →
        (find_variable (param_variables (i + 1) qs) y ≡ Some (variables.Declared s) → ⊥) → ⊥
    by true h rest = cc
    by false h rest = rest h

pub before : (p : TProgram) (f : ℕ) (g : TFunction) → slice_get p.functions f ≡ Some g → Follow 1 (program_statements p) → (b : Placed) (y : Text) (s : ℕ) → IsOf b (block_placed (at_start g) g.body) →
    find_variable b.at.variables y ≡ Some (variables.Declared s) → s < b.id
before p f g at follow b y s o e =
    let r = body_follows 1 p.functions follow f g at in
    block_before r.0 (at_start g) g.body (λ z t h. absurd (none_declared 0 g.params z t h)) r.2 b o y s e
