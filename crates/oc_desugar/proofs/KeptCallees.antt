-- The expansion calls what the program calls: the callees are the same, in the same order.
use Rattle.std.proofs.Common.{◌≡◌, ℕ, ◌+◌, false, List, [], ◌∷◌, ◌++◌, map, refl, ap, sym, ◌∙◌, append_assoc, append-nil, None, cond}
use Rattle.std.specs.List.{flat_map}
use Rattle.std.specs.Prelude.{option_to_list}
use Rattle.std.proofs.lemmas.List.{map-append}
use Rattle.std.proofs.lemmas.List.Concat.{flat_map-append}
use Rattle.std.proofs.lemmas.List.Folds.{flat_map-map}
use Rattle.oc_tree.specs.Names.{Text}
use Rattle.oc_tree.specs.Tree.{TExpr, number, truth, variable, index, deref, unary, binary, sensed, called, TArg, value, shared, mutable, TCall, call, TArgs, no_args, more_args}
use Rattle.oc_tree.specs.Tree.{TRight, right_value, right_sense, right_call, TKind, let_to, let_array, assign, assign_index, assign_deref, if_else, for_in, while_do, call_only}
use Rattle.oc_tree.specs.Tree.{sense_only, emit, fresh, consistent, return, TElse, no_else, else_do, stmt, TBlock, block, TStmts, no_stmts, more, TFunction}
use Rattle.oc_tree.specs.Pulls.{expr_pulls, arg_pulls, own_pulls, stmt_pulls, block_pulls}
use Rattle.oc_tree.specs.Calls.{callee, expr_calls, call_calls, args_calls, arg_calls, right_calls, own_calls, kind_hides, kind_kinds, else_kinds, block_kinds, stmts_kinds}
use Rattle.oc_tree.specs.Calls.{body_calls, place, called_places, links_from, function_names, call_links}
use Rattle.oc_tree.specs.Expansion.{left_expr, left_call, left_args, left_right, pulled_expr, pulled_call, pulled_args, pulled_arg, pulled_right, pulled, temporaries, join_stmts}
use Rattle.oc_tree.specs.Expansion.{expand_kind, expand_else, expand_block, expand_stmts, expand_function, expand_functions, block_size, stmt_size}
use Rattle.oc_desugar.proofs.KeptExpressions.{no_calls_expr, no_calls_args}

-- the names that right sides call, and those that statements call
abbrev pub rights_call : List TRight → List Text
rights_call rs = flat_map (λ r. map callee (right_calls r)) rs

abbrev kinds_call : List TKind → List Text
kinds_call ks = flat_map (λ s. map callee (own_calls s)) ks

-- two lists, one after the other, part by part
both_parts : (xs zs ys ws : List Text) → xs ≡ zs → ys ≡ ws → xs ++ ys ≡ zs ++ ws
both_parts xs zs ys ws p q = ap (λ l. l ++ ys) p ∙ ap (λ l. zs ++ l) q

-- what is called by right sides, and by statements, one after the other
pub rights_join : (xs ys : List TRight) → rights_call (xs ++ ys) ≡ rights_call xs ++ rights_call ys
rights_join xs ys = flat_map-append (λ r. map callee (right_calls r)) xs ys

kinds_join : (xs ys : List TKind) → kinds_call (xs ++ ys) ≡ kinds_call xs ++ kinds_call ys
kinds_join xs ys = flat_map-append (λ s. map callee (own_calls s)) xs ys

-- ---- the calls of an expression are those of its pulls

-- of a call itself only it is left
one_call : (k : ℕ) (c : TCall) → call_calls (left_call k c) ≡ left_call k c ∷ []
one_call k (call f args) = ap (λ l. l ++ call f (left_args k args) ∷ []) (no_calls_args k args)

-- it calls what the written one calls
same_callee : (k : ℕ) (c : TCall) → callee (left_call k c) ≡ callee c
same_callee k (call f args) = refl

one_callee : (k : ℕ) (c : TCall) → map callee (call_calls (left_call k c)) ≡ callee c ∷ []
one_callee k c = ap (map callee) (one_call k c) ∙ ap (λ f. f ∷ []) (same_callee k c)

mutual
  callees_expr : (k : ℕ) (e : TExpr) → rights_call (pulled_expr k e) ≡ map callee (expr_calls e)
  callees_expr k (number n) = refl
  callees_expr k (truth b) = refl
  callees_expr k (variable x) = refl
  callees_expr k (index x e) = callees_expr k e
  callees_expr k (deref x) = refl
  callees_expr k (unary op e) = callees_expr k e
  callees_expr k (binary op a b) =
      rights_join (pulled_expr k a) (pulled_expr (k + expr_pulls a) b)
      ∙ both_parts _ _ _ _ (callees_expr k a) (callees_expr (k + expr_pulls a) b)
      ∙ sym (map-append callee (expr_calls a) (expr_calls b))
  callees_expr k (sensed s) = refl
  callees_expr k (called c) =
      rights_join (pulled_call k c) (right_call (left_call k c) ∷ [])
      ∙ ap (λ l. rights_call (pulled_call k c) ++ l) (append-nil (map callee (call_calls (left_call k c))))
      ∙ callees_call k c

  callees_call : (k : ℕ) (c : TCall) → rights_call (pulled_call k c) ++ map callee (call_calls (left_call k c)) ≡ map callee (call_calls c)
  callees_call k (call f args) =
      both_parts _ _ _ _ (callees_args k args) (one_callee k (call f args))
      ∙ sym (map-append callee (args_calls args) (call f args ∷ []))

  callees_args : (k : ℕ) (xs : TArgs) → rights_call (pulled_args k xs) ≡ map callee (args_calls xs)
  callees_args k no_args = refl
  callees_args k (more_args a rest) =
      rights_join (pulled_arg k a) (pulled_args (k + arg_pulls a) rest)
      ∙ both_parts _ _ _ _ (callees_arg k a) (callees_args (k + arg_pulls a) rest)
      ∙ sym (map-append callee (arg_calls a) (args_calls rest))

  callees_arg : (k : ℕ) (a : TArg) → rights_call (pulled_arg k a) ≡ map callee (arg_calls a)
  callees_arg k (value e) = callees_expr k e
  callees_arg k (shared x) = refl
  callees_arg k (mutable x) = refl

-- with an expression that is left
with_expr : (k : ℕ) (e : TExpr) → rights_call (pulled_expr k e) ++ map callee (expr_calls (left_expr k e)) ≡ map callee (expr_calls e)
with_expr k e = ap (λ l. rights_call (pulled_expr k e) ++ map callee l) (no_calls_expr k e) ∙ append-nil (rights_call (pulled_expr k e)) ∙ callees_expr k e

-- with a right side that is left
with_right : (k : ℕ) (r : TRight) → rights_call (pulled_right k r) ++ map callee (right_calls (left_right k r)) ≡ map callee (right_calls r)
with_right k (right_value e) = with_expr k e
with_right k (right_sense s) = refl
with_right k (right_call c) = callees_call k c

-- with an index and a right side that are left
with_index : (k : ℕ) (e : TExpr) (r : TRight)
    → rights_call (pulled_expr k e ++ pulled_right (k + expr_pulls e) r) ++ map callee (expr_calls (left_expr k e) ++ right_calls (left_right (k + expr_pulls e) r))
    ≡ map callee (expr_calls e ++ right_calls r)
with_index k e r =
    let n = k + expr_pulls e in
    let back = map callee (right_calls (left_right n r)) in
    ap (λ l. l ++ map callee (expr_calls (left_expr k e) ++ right_calls (left_right n r))) (rights_join (pulled_expr k e) (pulled_right n r))
    ∙ ap (λ l. (rights_call (pulled_expr k e) ++ rights_call (pulled_right n r)) ++ map callee (l ++ right_calls (left_right n r))) (no_calls_expr k e)
    ∙ append_assoc (rights_call (pulled_expr k e)) (rights_call (pulled_right n r)) back
    ∙ both_parts _ _ _ _ (callees_expr k e) (with_right n r)
    ∙ sym (map-append callee (expr_calls e) (right_calls r))

-- a statement calls what its pulls call and what is left calls
pub with_own : (k i : ℕ) (s : TKind) → rights_call (pulled k s) ++ map callee (own_calls (expand_kind k i s)) ≡ map callee (own_calls s)
with_own k i (let_to m x t r) = with_right k r
with_own k i (let_array m x t z n) = refl
with_own k i (assign x r) = with_right k r
with_own k i (assign_index x e r) = with_index k e r
with_own k i (assign_deref x r) = with_right k r
with_own k i (if_else c a b) = with_expr k c
with_own k i (for_in x m n b) = refl
with_own k i (while_do c n b) = with_expr k c
with_own k i (call_only c) = callees_call k c
with_own k i (sense_only s) = refl
with_own k i (emit p e) = with_expr k e
with_own k i (fresh x) = refl
with_own k i (consistent x n) = refl
with_own k i (return e) = with_expr k e

-- ---- bodies

-- where no name is asked for, nothing is hidden
hides_none : (s : TKind) → kind_hides None s ≡ false
hides_none (let_to m x t r) = refl
hides_none (let_array m x t z n) = refl
hides_none (assign x r) = refl
hides_none (assign_index x e r) = refl
hides_none (assign_deref x r) = refl
hides_none (if_else c a b) = refl
hides_none (for_in x m n b) = refl
hides_none (while_do c n b) = refl
hides_none (call_only c) = refl
hides_none (sense_only s) = refl
hides_none (emit p e) = refl
hides_none (fresh x) = refl
hides_none (consistent x n) = refl
hides_none (return e) = refl

-- the statement that comes first, and those behind it
first_call : (id line : ℕ) (s : TKind) (rest : TStmts) → kinds_call (stmts_kinds None (more (stmt id line s) rest)) ≡ kinds_call (kind_kinds None s) ++ kinds_call (stmts_kinds None rest)
first_call id line s rest =
    ap (λ b. kinds_call (kind_kinds None s ++ cond b [] (stmts_kinds None rest))) (hides_none s)
    ∙ kinds_join (kind_kinds None s) (stmts_kinds None rest)

-- a group
group_call : (k i line : ℕ) (rs : List TRight) (id at : ℕ) (s : TKind) (rest : TStmts)
    → kinds_call (stmts_kinds None (join_stmts (temporaries k i line rs ++ stmt id at s ∷ []) rest)) ≡ rights_call rs ++ (kinds_call (kind_kinds None s) ++ kinds_call (stmts_kinds None rest))
group_call k i line [] id at s rest = first_call id at s rest
group_call k i line (r ∷ rs) id at s rest =
    ap (λ l. map callee (right_calls r) ++ l) (group_call (k + 1) (i + 1) line rs id at s rest)
    ∙ sym (append_assoc (map callee (right_calls r)) (rights_call rs) (kinds_call (kind_kinds None s) ++ kinds_call (stmts_kinds None rest)))

-- a statement with what stands inside it
inside_call : (front own own' : List Text) (inner inner' : List TKind) → front ++ own' ≡ own → kinds_call inner' ≡ kinds_call inner → front ++ (own' ++ kinds_call inner') ≡ own ++ kinds_call inner
inside_call front own own' inner inner' p q = sym (append_assoc front own' (kinds_call inner')) ∙ both_parts _ _ _ _ p q

mutual
  kind_call : (k i : ℕ) (s : TKind) → rights_call (pulled k s) ++ kinds_call (kind_kinds None (expand_kind k i s)) ≡ kinds_call (kind_kinds None s)
  kind_call k i (let_to m x t r) = inside_call _ _ _ [] [] (with_own k i (let_to m x t r)) refl
  kind_call k i (let_array m x t z n) = refl
  kind_call k i (assign x r) = inside_call _ _ _ [] [] (with_own k i (assign x r)) refl
  kind_call k i (assign_index x e r) = inside_call _ _ _ [] [] (with_own k i (assign_index x e r)) refl
  kind_call k i (assign_deref x r) = inside_call _ _ _ [] [] (with_own k i (assign_deref x r)) refl
  kind_call k i (if_else c a b) =
      let n = k + expr_pulls c in
      let a' = expand_block n i a in
      let b' = expand_else (n + block_pulls a) (i + block_size a) b in
      inside_call _ _ _ (block_kinds None a ++ else_kinds None b) (block_kinds None a' ++ else_kinds None b') (with_own k i (if_else c a b))
      (kinds_join (block_kinds None a') (else_kinds None b') ∙ both_parts _ _ _ _ (block_call n i a) (else_call (n + block_pulls a) (i + block_size a) b)
      ∙ sym (kinds_join (block_kinds None a) (else_kinds None b)))
  kind_call k i (for_in x m n b) = block_call k i b
  kind_call k i (while_do c n b) = inside_call _ _ _ (block_kinds None b) (block_kinds None (expand_block (k + expr_pulls c) i b)) (with_own k i (while_do c n b)) (block_call (k + expr_pulls c) i b)
  kind_call k i (call_only c) = inside_call _ _ _ [] [] (with_own k i (call_only c)) refl
  kind_call k i (sense_only s) = refl
  kind_call k i (emit p e) = inside_call _ _ _ [] [] (with_own k i (emit p e)) refl
  kind_call k i (fresh x) = refl
  kind_call k i (consistent x n) = refl
  kind_call k i (return e) = inside_call _ _ _ [] [] (with_own k i (return e)) refl

  else_call : (k i : ℕ) (b : TElse) → kinds_call (else_kinds None (expand_else k i b)) ≡ kinds_call (else_kinds None b)
  else_call k i no_else = refl
  else_call k i (else_do b) = block_call k i b

  block_call : (k i : ℕ) (b : TBlock) → kinds_call (block_kinds None (expand_block k i b)) ≡ kinds_call (block_kinds None b)
  block_call k i (block id ss) = stmts_call k i ss

  stmts_call : (k i : ℕ) (ss : TStmts) → kinds_call (stmts_kinds None (expand_stmts k i ss)) ≡ kinds_call (stmts_kinds None ss)
  stmts_call k i no_stmts = refl
  stmts_call k i (more (stmt id line s) ss) =
      let k' = k + stmt_pulls (stmt id line s) in
      let i' = i + stmt_size (stmt id line s) in
      let own = expand_kind k (i + own_pulls s + 1) s in
      let rest = kinds_call (stmts_kinds None (expand_stmts k' i' ss)) in
      group_call k i line (pulled k s) (i + own_pulls s) line own (expand_stmts k' i' ss)
      ∙ sym (append_assoc (rights_call (pulled k s)) (kinds_call (kind_kinds None own)) rest)
      ∙ both_parts _ _ _ _ (kind_call k (i + own_pulls s + 1) s) (stmts_call k' i' ss)
      ∙ sym (first_call id line s ss)

-- ---- functions

-- the callees of all calls, statement by statement
map_of_calls : (ks : List TKind) → map callee (flat_map own_calls ks) ≡ kinds_call ks
map_of_calls [] = refl
map_of_calls (s ∷ ks) = map-append callee (own_calls s) (flat_map own_calls ks) ∙ ap (λ l. map callee (own_calls s) ++ l) (map_of_calls ks)

-- a body calls the same names
same_callees : (k i : ℕ) (f : TFunction) → map callee (body_calls (expand_function k i f)) ≡ map callee (body_calls f)
same_callees k i f = map_of_calls (block_kinds None (expand_block k i f.body)) ∙ block_call k i f.body ∙ sym (map_of_calls (block_kinds None f.body))

-- the called places by the callees
places_of : (names : List Text) (cs : List TCall) → called_places names cs ≡ flat_map (λ f. option_to_list (place names f)) (map callee cs)
places_of names cs = sym (flat_map-map (λ f. option_to_list (place names f)) callee cs)

-- a body calls the same places
same_places : (names : List Text) (k i : ℕ) (f : TFunction) → called_places names (body_calls (expand_function k i f)) ≡ called_places names (body_calls f)
same_places names k i f = places_of names (body_calls (expand_function k i f)) ∙ ap (flat_map (λ g. option_to_list (place names g))) (same_callees k i f) ∙ sym (places_of names (body_calls f))

-- functions are linked alike
links_same : (names : List Text) (u k i : ℕ) (fs : List TFunction) → links_from names u (expand_functions k i fs) ≡ links_from names u fs
links_same names u k i [] = refl
links_same names u k i (f ∷ fs) =
    let k' = k + block_pulls f.body in
    let i' = i + block_size f.body in
    ap (λ vs. map (λ v. (u, v)) vs ++ links_from names (u + 1) (expand_functions k' i' fs)) (same_places names k i f)
    ∙ ap (λ l. map (λ v. (u, v)) (called_places names (body_calls f)) ++ l) (links_same names (u + 1) k' i' fs)

-- functions keep their names
same_names : (k i : ℕ) (fs : List TFunction) → function_names (expand_functions k i fs) ≡ function_names fs
same_names k i [] = refl
same_names k i (f ∷ fs) = ap (λ l. f.name ∷ l) (same_names (k + block_pulls f.body) (i + block_size f.body) fs)

-- which function calls which stays
pub same_links : (k i : ℕ) (fs : List TFunction) → call_links (expand_functions k i fs) ≡ call_links fs
same_links k i fs = ap (λ names. links_from names 0 (expand_functions k i fs)) (same_names k i fs) ∙ links_same (function_names fs) 0 k i fs
