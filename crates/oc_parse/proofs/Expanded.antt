-- The `if`s of the expansion, by the sizes of what stands before them.
use Rattle.std.proofs.Common.{◌≡◌, ◌≤◌, ℕ, ◌+◌, Bool, true, false, List, [], ◌∷◌, ◌++◌, drop, flat_map, sum_by, append_assoc, refl, sym, ap, ◌∙◌, cond, arith}
use Rattle.std.specs.Prelude.{map, filter, Result, Ok, Err, IfOk}
use Rattle.std.proofs.lemmas.List.Sums.{sum_by-cons}
use Rattle.oc_tree.specs.View.{block_view, function_view}
use Rattle.oc_tree.specs.declared.tree.Function.{Function}
use Rattle.oc_tree.specs.Tree.{TExpr, number, truth, variable, index, deref, unary, binary, sensed, called, TArg, value, shared, mutable, TCall, call, TArgs, no_args, more_args}
use Rattle.oc_tree.specs.Tree.{TRight, right_value, right_sense, right_call, TKind, let_to, let_array, assign, assign_index, assign_deref, if_else, for_in, while_do, call_only}
use Rattle.oc_tree.specs.Tree.{sense_only, emit, fresh, consistent, return, TElse, no_else, else_do, stmt, TBlock, block, TStmts, no_stmts, more, TFunction, TProgram}
use Rattle.oc_tree.specs.Pulls.{expr_pulls, call_pulls, args_pulls, arg_pulls, right_pulls, own_pulls, block_pulls, stmt_pulls}
use Rattle.oc_tree.specs.Nodes.{expr_nodes, call_nodes, args_nodes, arg_nodes, right_nodes, kind_nodes, block_nodes}
use Rattle.oc_tree.specs.Expansion.{block_size, inner_size, stmt_size, temporaries, join_stmts, pulled, expand_kind, expand_else, expand_block, expand_stmts, expand_functions, expansion}
use Rattle.oc_lex.specs.declared.token.Kind.{Kind}
use Rattle.oc_lex.specs.declared.token.Kind.TheVariants as kinds
use Rattle.oc_lex.specs.declared.token.Word.{Word}
use Rattle.oc_lex.specs.declared.token.Word.TheVariants as words
use Rattle.oc_lex.specs.declared.token.Token.{Token}
use Rattle.oc_grammar.specs.Lexemes.{lexeme_by, lexemes_in}
use Rattle.oc_tree.specs.Places.{Place, Placed, behind, in_branch, at_start, kind_placed, else_placed, block_placed, stmts_placed, program_placed}
use Rattle.oc_parse.specs.Atomics.{is_if, ifs_of, begins_if, picked, atomics}
use Rattle.oc_parse.specs.Collected.{own_if, kind_ifs_at, else_ifs_at, block_ifs_at, stmts_ifs_at}
use Rattle.oc_parse.specs.Collected.{functions_ifs_at, kind_begins, token_begins}

-- ---- the expansion

ifs_both : (ps qs : List Placed) → ifs_of (ps ++ qs) ≡ ifs_of ps ++ ifs_of qs
ifs_both [] qs = refl
ifs_both (p ∷ ps) qs = by (is_if p.kind) (ifs_both ps qs)
  where
    by : (b : Bool) → ifs_of (ps ++ qs) ≡ ifs_of ps ++ ifs_of qs
        → map (λ a. a.id) (cond b (p ∷ filter (λ a. is_if a.kind) (ps ++ qs)) (filter (λ a. is_if a.kind) (ps ++ qs)))
        ≡ map (λ a. a.id) (cond b (p ∷ filter (λ a. is_if a.kind) ps) (filter (λ a. is_if a.kind) ps)) ++ ifs_of qs
    by true e = ap (λ ns. p.id ∷ ns) e
    by false e = e

-- a statement, and those that stand behind its beginning
own_first : (n line k i : ℕ) (t : TKind) (at : Place) (ps : List Placed) → ifs_of (record { id = n; line = line; kind = expand_kind k i t; at = at } ∷ ps) ≡ own_if n t ++ ifs_of ps
own_first n line k i (if_else c a b) at ps = refl
own_first n line k i _ at ps = refl

-- temporaries are no `if`s
joined : (rs : List TRight) (k i line n m : ℕ) (t : TKind) (rest : TStmts) (found : List ℕ) → ((at : Place) → ifs_of (stmts_placed at (more (stmt n m t) rest)) ≡ found)
    → (at : Place) → ifs_of (stmts_placed at (join_stmts (temporaries k i line rs ++ stmt n m t ∷ []) rest)) ≡ found
joined [] k i line n m t rest found h at = h at
joined (r ∷ rs) k i line n m t rest found h at = joined rs (k + 1) (i + 1) line n m t rest found h _

mutual
  kind_same : (at : Place) (n k i : ℕ) (t : TKind) → ifs_of (kind_placed at n (expand_kind k i t)) ≡ kind_ifs_at i t
  kind_same at n k i (if_else c a b) =
      ifs_both (block_placed (in_branch at n) (expand_block (k + expr_pulls c) i a)) (else_placed (in_branch at n) (expand_else (k + expr_pulls c + block_pulls a) (i + block_size a) b))
      ∙ ap (λ xs. xs ++ ifs_of (else_placed (in_branch at n) (expand_else (k + expr_pulls c + block_pulls a) (i + block_size a) b))) (block_same (in_branch at n) (k + expr_pulls c) i a)
      ∙ ap (λ xs. block_ifs_at i a ++ xs) (else_same (in_branch at n) (k + expr_pulls c + block_pulls a) (i + block_size a) b)
  kind_same at n k i (for_in x m z b) = block_same _ k i b
  kind_same at n k i (while_do c z b) = block_same _ (k + expr_pulls c) i b
  kind_same at n k i _ = refl

  else_same : (at : Place) (k i : ℕ) (b : TElse) → ifs_of (else_placed at (expand_else k i b)) ≡ else_ifs_at i b
  else_same at k i no_else = refl
  else_same at k i (else_do b) = block_same at k i b

  block_same : (at : Place) (k i : ℕ) (b : TBlock) → ifs_of (block_placed at (expand_block k i b)) ≡ block_ifs_at i b
  block_same at k i (block id ss) = stmts_same _ k i ss

  stmts_same : (at : Place) (k i : ℕ) (ss : TStmts) → ifs_of (stmts_placed at (expand_stmts k i ss)) ≡ stmts_ifs_at i ss
  stmts_same at k i no_stmts = refl
  stmts_same at k i (more (stmt id line t) ss) =
      let n = i + own_pulls t in
      let kind = expand_kind k (n + 1) t in
      let rest = expand_stmts (k + stmt_pulls (stmt id line t)) (i + stmt_size (stmt id line t)) ss in
      joined (pulled k t) k i line n line kind rest (stmts_ifs_at i (more (stmt id line t) ss))
      (λ here. own_first n line k (n + 1) t here (kind_placed here n kind ++ stmts_placed (behind here n kind) rest)
      ∙ ap (λ xs. own_if n t ++ xs) (ifs_both (kind_placed here n kind) (stmts_placed (behind here n kind) rest))
      ∙ ap (λ xs. own_if n t ++ (xs ++ ifs_of (stmts_placed (behind here n kind) rest))) (kind_same here n k (n + 1) t)
      ∙ ap (λ xs. own_if n t ++ (kind_ifs_at (n + 1) t ++ xs)) (stmts_same (behind here n kind) (k + stmt_pulls (stmt id line t)) (i + stmt_size (stmt id line t)) ss)) at

functions_same : (k i : ℕ) (fs : List TFunction) → ifs_of (flat_map (λ f. block_placed (at_start f) f.body) (expand_functions k i fs)) ≡ functions_ifs_at i fs
functions_same k i [] = refl
functions_same k i (f ∷ fs) =
    let rest = expand_functions (k + block_pulls f.body) (i + block_size f.body) fs in
    ifs_both (block_placed _ (expand_block k i f.body)) (flat_map (λ g. block_placed (at_start g) g.body) rest)
    ∙ ap (λ xs. xs ++ ifs_of (flat_map (λ g. block_placed (at_start g) g.body) rest)) (block_same _ k i f.body)
    ∙ ap (λ xs. block_ifs_at i f.body ++ xs) (functions_same (k + block_pulls f.body) (i + block_size f.body) fs)

pub expanded_ifs : (p : TProgram) → ifs_of (program_placed (expansion p)) ≡ functions_ifs_at 1 p.functions
expanded_ifs p = functions_same 1 1 p.functions

-- ---- tokens

kind_same_begins : (line : ℕ) (text : List ℕ) (k : Kind) → begins_if (lexeme_by true line text k) ≡ kind_begins k
kind_same_begins line text kinds.Name = refl
kind_same_begins line text (kinds.Number v) = refl
kind_same_begins line text (kinds.Mark m) = refl
kind_same_begins line text (kinds.Word w) = word_same w
  where
    word_same : (w : Word) → begins_if (lexeme_by true line text (kinds.Word w)) ≡ kind_begins (kinds.Word w)
    word_same words.If = refl
    word_same words.Atomic = refl
    word_same _ = refl

pub same_begins : (source : List ℕ) (tokens : List Token) → flat_map begins_if (lexemes_in true source tokens) ≡ flat_map token_begins tokens
same_begins source [] = refl
same_begins source (t ∷ ts) = ap (λ xs. xs ++ flat_map begins_if (lexemes_in true source ts)) (kind_same_begins t.line _ t.kind) ∙ ap (λ xs. token_begins t ++ xs) (same_begins source ts)

-- what the code picks is what is defined
pub picked_is : {V E : Type 0} (items : V → List ℕ) (r : Result V E) (p : TProgram) (tokens : List Token) (begins : List Bool) (ifs : List ℕ)
    → begins ≡ flat_map token_begins tokens → ifs ≡ functions_ifs_at 1 p.functions
    → IfOk r (λ a. items a ≡ picked begins ifs)
    → IfOk r (λ a. (source : List ℕ) → items a ≡ atomics p (lexemes_in true source tokens))
picked_is items (Err e) p tokens begins ifs b i h = h
picked_is items (Ok a) p tokens begins ifs b i h = λ source.
    h ∙ ap (λ bs. picked bs ifs) (b ∙ sym (same_begins source tokens)) ∙ ap (picked (flat_map begins_if (lexemes_in true source tokens))) (i ∙ sym (expanded_ifs p))

-- ---- pulls are nodes

mutual
  expr_fits : (e : TExpr) → expr_pulls e ≤ expr_nodes e
  expr_fits (number n) = omega arith
  expr_fits (truth b) = omega arith
  expr_fits (variable x) = omega arith
  expr_fits (index x e) = omega (arith, expr_fits e)
  expr_fits (deref x) = omega arith
  expr_fits (unary op e) = omega (arith, expr_fits e)
  expr_fits (binary op a b) = omega (arith, expr_fits a, expr_fits b)
  expr_fits (sensed s) = omega arith
  expr_fits (called c) = omega (arith, call_fits c)

  call_fits : (c : TCall) → call_pulls c ≤ call_nodes c
  call_fits (call f args) = args_fit args

  args_fit : (args : TArgs) → args_pulls args ≤ args_nodes args
  args_fit no_args = omega arith
  args_fit (more_args a rest) = omega (arith, arg_fits a, args_fit rest)

  arg_fits : (a : TArg) → arg_pulls a ≤ arg_nodes a
  arg_fits (value e) = expr_fits e
  arg_fits (shared x) = omega arith
  arg_fits (mutable x) = omega arith

right_fits : (r : TRight) → right_pulls r ≤ right_nodes r
right_fits (right_value e) = expr_fits e
right_fits (right_sense s) = omega arith
right_fits (right_call c) = call_fits c

pub own_fits : (k : TKind) → own_pulls k ≤ kind_nodes k
own_fits (let_to m x t r) = right_fits r
own_fits (let_array m x t z n) = omega arith
own_fits (assign x r) = right_fits r
own_fits (assign_index x e r) = omega (arith, expr_fits e, right_fits r)
own_fits (assign_deref x r) = right_fits r
own_fits (if_else c a b) = let h = expr_fits c in omega (arith, h)
own_fits (for_in x m n b) = omega arith
own_fits (while_do c n b) = let h = expr_fits c in omega (arith, h)
own_fits (call_only c) = call_fits c
own_fits (sense_only s) = omega arith
own_fits (emit p e) = expr_fits e
own_fits (fresh x) = omega arith
own_fits (consistent x n) = omega arith
own_fits (return e) = expr_fits e

-- ---- one statement more

pub ifs_more : (front added grown : List ℕ) (next here inside to id line : ℕ) (k : TKind) (rest : TStmts) (whole : List ℕ)
    → here ≡ next + own_pulls k
    → added ≡ front ++ own_if here k
    → inside ≡ here + 1
    → grown ≡ added ++ kind_ifs_at inside k
    → to ≡ inside + inner_size k
    → front ++ stmts_ifs_at next (more (stmt id line k) rest) ≡ whole
    → grown ++ stmts_ifs_at to rest ≡ whole
ifs_more front added grown next here inside to id line k rest whole n a i b c h =
    let own = own_if (next + own_pulls k) k in
    let within = kind_ifs_at (next + own_pulls k + 1) k in
    let after = stmts_ifs_at to rest in
    let place : inside ≡ next + own_pulls k + 1 = omega (arith, n, i) in
    let e : to ≡ next + (own_pulls k + 1 + inner_size k) = omega (arith, c, place) in
    ap (λ g. g ++ after) (b ∙ ap (λ m. added ++ kind_ifs_at m k) place ∙ ap (λ g. g ++ within) (a ∙ ap (λ m. front ++ own_if m k) n))
    ∙ append_assoc (front ++ own) within after
    ∙ append_assoc front own (within ++ after)
    ∙ ap (λ m. front ++ (own ++ (within ++ stmts_ifs_at m rest))) e
    ∙ h

-- ---- one function more

pub functions_more : (front grown : List ℕ) (next to i : ℕ) (l : List Function) (x : Function) (whole : List ℕ) → drop i l ≡ x ∷ drop (i + 1) l
    → grown ≡ front ++ block_ifs_at next (block_view x.body)
    → to ≡ next + block_size (block_view x.body)
    → front ++ functions_ifs_at next (map function_view (drop i l)) ≡ whole
    → grown ++ functions_ifs_at to (map function_view (drop (i + 1) l)) ≡ whole
functions_more front grown next to i l x whole e a b h =
    let own = block_ifs_at next (block_view x.body) in
    let rest = map function_view (drop (i + 1) l) in
    ap (λ g. g ++ functions_ifs_at to rest) a
    ∙ ap (λ m. (front ++ own) ++ functions_ifs_at m rest) b
    ∙ append_assoc front own (functions_ifs_at (next + block_size (block_view x.body)) rest)
    ∙ ap (λ fs. front ++ functions_ifs_at next (map function_view fs)) (sym e)
    ∙ h

pub nodes_behind : (i : ℕ) (l : List Function) (x : Function) → drop i l ≡ x ∷ drop (i + 1) l
    → sum_by (λ f. block_nodes f.body) (map function_view (drop i l)) ≡ block_nodes (block_view x.body) + sum_by (λ f. block_nodes f.body) (map function_view (drop (i + 1) l))
nodes_behind i l x e =
    let nodes : TFunction → ℕ = λ f. block_nodes f.body in
    ap (λ fs. sum_by nodes (map function_view fs)) e ∙ sum_by-cons nodes (function_view x) (map function_view (drop (i + 1) l))
