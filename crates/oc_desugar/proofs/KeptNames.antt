-- A function of the expansion names what the written one names: the mentions of the right sides of the temporaries and
-- of what is left add up to those written, and a temporary hides no name of the language.
use Rattle.std.proofs.Common.{◌≡◌, ℕ, ◌+◌, Bool, true, false, List, [], ◌∷◌, ◌++◌, map, refl, ap, sym, ◌∙◌, arith, None, Some, cond}
use Rattle.std.specs.Prelude.{◌&&◌, ◌||◌, not, nat_lt}
use Rattle.std.specs.List.{list_any}
use Rattle.std.specs.Str.{bytes_eq}
use Rattle.std.proofs.lemmas.Bool.Decides.{nat_tests}
use Rattle.std.proofs.lemmas.List.Folds.{list_any-append}
use Rattle.std.proofs.Math.Bool.{or_assoc}
use Rattle.oc_lex.specs.Stands.{IsName}
use Rattle.oc_tree.specs.Names.{Text}
use Rattle.oc_tree.specs.Tree.{TExpr, number, truth, variable, index, deref, unary, binary, sensed, called, TArg, value, shared, mutable, TCall, call, TArgs, no_args, more_args}
use Rattle.oc_tree.specs.Tree.{TRight, right_value, right_sense, right_call, TKind, let_to, let_array, assign, assign_index, assign_deref, if_else, for_in, while_do, call_only}
use Rattle.oc_tree.specs.Tree.{sense_only, emit, fresh, consistent, return, TElse, no_else, else_do, stmt, TBlock, block, TStmts, no_stmts, more, TFunction}
use Rattle.oc_tree.specs.Pulls.{expr_pulls, call_pulls, arg_pulls, own_pulls, stmt_pulls, block_pulls}
use Rattle.oc_tree.specs.Mentions.{own_mentions, targets, annotates, is_named}
use Rattle.oc_tree.specs.Calls.{kind_hides, kind_kinds, else_kinds, block_kinds, stmts_kinds, has_param, function_mentions}
use Rattle.oc_tree.specs.Expansion.{left_expr, left_call, left_args, left_arg, left_right, pulled_expr, pulled_call, pulled_args, pulled_arg, pulled_right, pulled, temporary}
use Rattle.oc_tree.specs.Expansion.{temporaries, join_stmts, expand_kind, expand_else, expand_block, expand_stmts, expand_functions, block_size, stmt_size}
use Rattle.oc_tree.specs.Walks.{inner_mentions, kind_mentions, once, expr_mentions, args_mentions, arg_mentions, right_mentions}
use Rattle.oc_tree.proofs.PartLaws.{mentions_of_own}
use Rattle.oc_desugar.proofs.KeptLookups.{apart}

-- how often right sides name it
abbrev rights_mention : Text → List TRight → ℕ
rights_mention x [] = 0
rights_mention x (r ∷ rs) = right_mentions x r + rights_mention x rs

-- what right sides mention, one after the other
mentions_join : (x : Text) (xs ys : List TRight) → rights_mention x (xs ++ ys) ≡ rights_mention x xs + rights_mention x ys
mentions_join x [] ys = omega arith
mentions_join x (r ∷ xs) ys = omega (arith, mentions_join x xs ys)

-- a temporary's name is no mention of it
no_mention : (x : Text) → IsName x → (k : ℕ) → once (bytes_eq x (temporary k)) ≡ 0
no_mention x h k = ap once (apart x h k)

-- ---- expressions

mutual
  mentions_expr : (x : Text) → IsName x → (k : ℕ) (e : TExpr) → rights_mention x (pulled_expr k e) + expr_mentions x (left_expr k e) ≡ expr_mentions x e
  mentions_expr x h k (number n) = refl
  mentions_expr x h k (truth b) = refl
  mentions_expr x h k (variable y) = omega arith
  mentions_expr x h k (index y e) = omega (arith, mentions_expr x h k e)
  mentions_expr x h k (deref y) = omega arith
  mentions_expr x h k (unary op e) = mentions_expr x h k e
  mentions_expr x h k (binary op a b) =
      omega (arith, mentions_join x (pulled_expr k a) (pulled_expr (k + expr_pulls a) b), mentions_expr x h k a, mentions_expr x h (k + expr_pulls a) b)
  mentions_expr x h k (sensed s) = omega (arith, no_mention x h k)
  mentions_expr x h k (called c) =
      omega (arith, mentions_join x (pulled_call k c) (right_call (left_call k c) ∷ []), mentions_call x h k c, no_mention x h (k + call_pulls c))

  mentions_call : (x : Text) → IsName x → (k : ℕ) (c : TCall) → rights_mention x (pulled_call k c) + inner_mentions x (left_call k c) ≡ inner_mentions x c
  mentions_call x h k (call f args) = mentions_args x h k args

  mentions_args : (x : Text) → IsName x → (k : ℕ) (xs : TArgs) → rights_mention x (pulled_args k xs) + args_mentions x (left_args k xs) ≡ args_mentions x xs
  mentions_args x h k no_args = refl
  mentions_args x h k (more_args a rest) =
      omega (arith, mentions_join x (pulled_arg k a) (pulled_args (k + arg_pulls a) rest), mentions_arg x h k a, mentions_args x h (k + arg_pulls a) rest)

  mentions_arg : (x : Text) → IsName x → (k : ℕ) (a : TArg) → rights_mention x (pulled_arg k a) + arg_mentions x (left_arg k a) ≡ arg_mentions x a
  mentions_arg x h k (value e) = mentions_expr x h k e
  mentions_arg x h k (shared y) = omega arith
  mentions_arg x h k (mutable y) = omega arith

-- of a right side
mentions_right : (x : Text) → IsName x → (k : ℕ) (r : TRight) → rights_mention x (pulled_right k r) + right_mentions x (left_right k r) ≡ right_mentions x r
mentions_right x h k (right_value e) = mentions_expr x h k e
mentions_right x h k (right_sense s) = refl
mentions_right x h k (right_call c) = mentions_call x h k c

-- of a statement itself
mentions_kind : (x : Text) → IsName x → (k i : ℕ) (s : TKind) → rights_mention x (pulled k s) + kind_mentions x (expand_kind k i s) ≡ kind_mentions x s
mentions_kind x h k i (let_to m y t r) = mentions_right x h k r
mentions_kind x h k i (let_array m y t z n) = refl
mentions_kind x h k i (assign y r) = mentions_right x h k r
mentions_kind x h k i (assign_index y e r) =
    omega (arith, mentions_join x (pulled_expr k e) (pulled_right (k + expr_pulls e) r), mentions_expr x h k e, mentions_right x h (k + expr_pulls e) r)
mentions_kind x h k i (assign_deref y r) = mentions_right x h k r
mentions_kind x h k i (if_else c a b) = mentions_expr x h k c
mentions_kind x h k i (for_in y m n b) = refl
mentions_kind x h k i (while_do c n b) = mentions_expr x h k c
mentions_kind x h k i (call_only c) = mentions_call x h k c
mentions_kind x h k i (sense_only s) = refl
mentions_kind x h k i (emit p e) = mentions_expr x h k e
mentions_kind x h k i (fresh y) = refl
mentions_kind x h k i (consistent y n) = refl
mentions_kind x h k i (return e) = mentions_expr x h k e

mentions_own : (x : Text) → IsName x → (k i : ℕ) (s : TKind) → rights_mention x (pulled k s) + own_mentions x (expand_kind k i s) ≡ own_mentions x s
mentions_own x h k i s = omega (arith, mentions_kind x h k i s, mentions_of_own x (expand_kind k i s), mentions_of_own x s)

-- ---- statements

-- targets and annotations stay, and so does what a statement hides
same_places : (x : Text) (k i : ℕ) (s : TKind) → (targets x (expand_kind k i s) ≡ targets x s) × (annotates x (expand_kind k i s) ≡ annotates x s) ×
    (kind_hides (Some x) (expand_kind k i s) ≡ kind_hides (Some x) s)
same_places x k i (let_to m y t r) = (refl, refl, refl)
same_places x k i (let_array m y t z n) = (refl, refl, refl)
same_places x k i (assign y r) = (refl, refl, refl)
same_places x k i (assign_index y e r) = (refl, refl, refl)
same_places x k i (assign_deref y r) = (refl, refl, refl)
same_places x k i (if_else c a b) = (refl, refl, refl)
same_places x k i (for_in y m n b) = (refl, refl, refl)
same_places x k i (while_do c n b) = (refl, refl, refl)
same_places x k i (call_only c) = (refl, refl, refl)
same_places x k i (sense_only s) = (refl, refl, refl)
same_places x k i (emit p e) = (refl, refl, refl)
same_places x k i (fresh y) = (refl, refl, refl)
same_places x k i (consistent y n) = (refl, refl, refl)
same_places x k i (return e) = (refl, refl, refl)

-- one of two counts is more than none
some_sum : (m n : ℕ) → nat_lt 0 (m + n) ≡ nat_lt 0 m || nat_lt 0 n
some_sum m n = grind (arith, nat_tests)

or_false : (a : Bool) → a || (false || false) ≡ a
or_false true = refl
or_false false = refl

-- a statement itself names it, in one of its pulls or in what is left
own_named : (x : Text) → IsName x → (k i : ℕ) (s : TKind) → nat_lt 0 (rights_mention x (pulled k s)) || is_named x (expand_kind k i s) ≡ is_named x s
own_named x h k i s =
    let n = rights_mention x (pulled k s) in
    let m = own_mentions x (expand_kind k i s) in
    let e = same_places x k i s in
    let sum : nat_lt 0 n || nat_lt 0 m ≡ nat_lt 0 (own_mentions x s) = sym (some_sum n m) ∙ ap (nat_lt 0) (mentions_own x h k i s) in
    regroup (nat_lt 0 n) (nat_lt 0 m) (targets x (expand_kind k i s)) (annotates x (expand_kind k i s)) (nat_lt 0 (own_mentions x s)) (targets x s) (annotates x s) sum e.0 e.1
  where
    regroup : (a b c d e f g : Bool) → a || b ≡ e → c ≡ f → d ≡ g → a || (b || c || d) ≡ e || f || g
    regroup true b c d e f g p q r = ap (λ y. y || f || g) p
    regroup false b c d e f g p q r = cc

-- ---- bodies

-- whether statements name it
abbrev named_in : Text → List TKind → Bool
named_in x ks = list_any (is_named x) ks

-- where they are hidden none is asked
named_cond : (x : Text) (b : Bool) (ks : List TKind) → named_in x (cond b [] ks) ≡ cond b false (named_in x ks)
named_cond x true ks = refl
named_cond x false ks = refl

-- the statement that comes first, and those behind it
abbrev then_named : Text → TKind → TStmts → Bool
then_named x s rest = named_in x (kind_kinds (Some x) s) || cond (kind_hides (Some x) s) false (named_in x (stmts_kinds (Some x) rest))

first_named : (x : Text) (id line : ℕ) (s : TKind) (rest : TStmts) → named_in x (stmts_kinds (Some x) (more (stmt id line s) rest)) ≡ then_named x s rest
first_named x id line s rest =
    list_any-append (is_named x) (kind_kinds (Some x) s) (cond (kind_hides (Some x) s) [] (stmts_kinds (Some x) rest))
    ∙ ap (λ b. named_in x (kind_kinds (Some x) s) || b) (named_cond x (kind_hides (Some x) s) (stmts_kinds (Some x) rest))

-- a group
group_named : (x : Text) → IsName x → (k i line : ℕ) (rs : List TRight) (id at : ℕ) (s : TKind) (rest : TStmts)
    → named_in x (stmts_kinds (Some x) (join_stmts (temporaries k i line rs ++ stmt id at s ∷ []) rest)) ≡ nat_lt 0 (rights_mention x rs) || then_named x s rest
group_named x h k i line [] id at s rest = first_named x id at s rest
group_named x h k i line (r ∷ rs) id at s rest =
    let tail = join_stmts (temporaries (k + 1) (i + 1) line rs ++ stmt id at s ∷ []) rest in
    let e = first_named x i line (let_to false (temporary k) None r) tail in
    let own = mentions_of_own x (let_to false (temporary k) None r) in
    let m = ap (λ n. ((nat_lt 0 n || false || false) || false) || cond (bytes_eq x (temporary k)) false (named_in x (stmts_kinds (Some x) tail))) own in
    let f = ap (λ b. ((nat_lt 0 (right_mentions x r) || false || false) || false) || cond b false (named_in x (stmts_kinds (Some x) tail))) (apart x h k) in
    let g = group_named x h (k + 1) (i + 1) line rs id at s rest in
    e ∙ m ∙ f ∙ regroup (nat_lt 0 (right_mentions x r)) (nat_lt 0 (rights_mention x rs)) (nat_lt 0 (right_mentions x r + rights_mention x rs)) _ _ (some_sum (right_mentions x r) (rights_mention x rs)) g
  where
    regroup : (a b c d e : Bool) → c ≡ a || b → d ≡ b || e → ((a || false || false) || false) || d ≡ c || e
    regroup true b c d e p q = ap (λ y. y || e) (sym p)
    regroup false b c d e p q = q ∙ ap (λ y. y || e) (sym p)

-- a statement with what stands inside it
inside_named : (a b c d e : Bool) → a || b ≡ c → d ≡ e → a || (b || d) ≡ c || e
inside_named a b c d e p q = sym (or_assoc a b d) ∙ ap (λ y. y || d) p ∙ ap (λ y. c || y) q

-- in one of two parts
both_named : (a b c d : Bool) → a ≡ b → c ≡ d → a || c ≡ b || d
both_named a b c d p q = ap (λ y. y || c) p ∙ ap (λ y. b || y) q

-- in the body of a loop whose variable may hide it
turns_named : (x : Text) (b : Bool) (ks ls : List TKind) → named_in x ks ≡ named_in x ls → named_in x (cond b [] ks) ≡ named_in x (cond b [] ls)
turns_named x true ks ls h = refl
turns_named x false ks ls h = h

mutual
  kind_named : (x : Text) → IsName x → (k i : ℕ) (s : TKind) → nat_lt 0 (rights_mention x (pulled k s)) || named_in x (kind_kinds (Some x) (expand_kind k i s)) ≡ named_in x (kind_kinds (Some x) s)
  kind_named x h k i (let_to m y t r) = inside_named _ _ _ false false (own_named x h k i (let_to m y t r)) refl
  kind_named x h k i (let_array m y t z n) = refl
  kind_named x h k i (assign y r) = inside_named _ _ _ false false (own_named x h k i (assign y r)) refl
  kind_named x h k i (assign_index y e r) = inside_named _ _ _ false false (own_named x h k i (assign_index y e r)) refl
  kind_named x h k i (assign_deref y r) = inside_named _ _ _ false false (own_named x h k i (assign_deref y r)) refl
  kind_named x h k i (if_else c a b) =
      let n = k + expr_pulls c in
      let a' = expand_block n i a in
      let b' = expand_else (n + block_pulls a) (i + block_size a) b in
      let both = both_named (named_in x (block_kinds (Some x) a')) (named_in x (block_kinds (Some x) a)) (named_in x (else_kinds (Some x) b')) (named_in x (else_kinds (Some x) b))
      (block_named x h n i a) (else_named x h (n + block_pulls a) (i + block_size a) b) in
      inside_named _ _ _ (named_in x (block_kinds (Some x) a' ++ else_kinds (Some x) b')) (named_in x (block_kinds (Some x) a ++ else_kinds (Some x) b)) (own_named x h k i (if_else c a b))
      (list_any-append (is_named x) (block_kinds (Some x) a') (else_kinds (Some x) b') ∙ both ∙ sym (list_any-append (is_named x) (block_kinds (Some x) a) (else_kinds (Some x) b)))
  kind_named x h k i (for_in y m n b) = turns_named x (bytes_eq x y) (block_kinds (Some x) (expand_block k i b)) (block_kinds (Some x) b) (block_named x h k i b)
  kind_named x h k i (while_do c n b) = inside_named _ _ _ (named_in x (block_kinds (Some x) (expand_block (k + expr_pulls c) i b))) (named_in x (block_kinds (Some x) b))
      (own_named x h k i (while_do c n b)) (block_named x h (k + expr_pulls c) i b)
  kind_named x h k i (call_only c) = inside_named _ _ _ false false (own_named x h k i (call_only c)) refl
  kind_named x h k i (sense_only s) = refl
  kind_named x h k i (emit p e) = inside_named _ _ _ false false (own_named x h k i (emit p e)) refl
  kind_named x h k i (fresh y) = refl
  kind_named x h k i (consistent y n) = refl
  kind_named x h k i (return e) = inside_named _ _ _ false false (own_named x h k i (return e)) refl

  else_named : (x : Text) → IsName x → (k i : ℕ) (b : TElse) → named_in x (else_kinds (Some x) (expand_else k i b)) ≡ named_in x (else_kinds (Some x) b)
  else_named x h k i no_else = refl
  else_named x h k i (else_do b) = block_named x h k i b

  block_named : (x : Text) → IsName x → (k i : ℕ) (b : TBlock) → named_in x (block_kinds (Some x) (expand_block k i b)) ≡ named_in x (block_kinds (Some x) b)
  block_named x h k i (block id ss) = stmts_named x h k i ss

  stmts_named : (x : Text) → IsName x → (k i : ℕ) (ss : TStmts) → named_in x (stmts_kinds (Some x) (expand_stmts k i ss)) ≡ named_in x (stmts_kinds (Some x) ss)
  stmts_named x h k i no_stmts = refl
  stmts_named x h k i (more (stmt id line s) ss) =
      let k' = k + stmt_pulls (stmt id line s) in
      let i' = i + stmt_size (stmt id line s) in
      let own = expand_kind k (i + own_pulls s + 1) s in
      let rest = expand_stmts k' i' ss in
      group_named x h k i line (pulled k s) (i + own_pulls s) line own rest
      ∙ sym (or_assoc (nat_lt 0 (rights_mention x (pulled k s))) (named_in x (kind_kinds (Some x) own)) (cond (kind_hides (Some x) own) false (named_in x (stmts_kinds (Some x) rest))))
      ∙ ap (λ b. b || cond (kind_hides (Some x) own) false (named_in x (stmts_kinds (Some x) rest))) (kind_named x h k (i + own_pulls s + 1) s)
      ∙ ap (λ b. named_in x (kind_kinds (Some x) s) || cond b false (named_in x (stmts_kinds (Some x) rest))) (same_places x k (i + own_pulls s + 1) s).2
      ∙ ap (λ b. named_in x (kind_kinds (Some x) s) || cond (kind_hides (Some x) s) false b) (stmts_named x h k' i' ss)
      ∙ sym (first_named x id line s ss)

-- ---- functions

-- each function names it where the written one does
pub same_mentions : (x : Text) → IsName x → (k i : ℕ) (fs : List TFunction) → map (function_mentions x) (expand_functions k i fs) ≡ map (function_mentions x) fs
same_mentions x h k i [] = refl
same_mentions x h k i (f ∷ fs) =
    let k' = k + block_pulls f.body in
    let i' = i + block_size f.body in
    ap (λ b. (not (has_param x f.params) && b) ∷ map (function_mentions x) (expand_functions k' i' fs)) (block_named x h k i f.body)
    ∙ ap (λ l. function_mentions x f ∷ l) (same_mentions x h k' i' fs)
