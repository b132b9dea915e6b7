-- What is asked of the expressions in a statement one by one is what the walks over the tree say.
use Rattle.std.proofs.Common.{◌≡◌, ℕ, ◌+◌, Bool, true, false, List, [], ◌∷◌, refl, ap, ◌∙◌, sym, arith}
use Rattle.std.specs.Prelude.{◌++◌, ◌&&◌, ◌||◌, cond, count_by, is_some, nat_lt}
use Rattle.std.specs.List.{flat_map, list_all, list_any, sum_by}
use Rattle.std.specs.Str.{bytes_eq}
use Rattle.std.proofs.lemmas.Grind.{flat_map-append}
use Rattle.std.proofs.lemmas.List.{append-nil}
use Rattle.std.proofs.lemmas.List.Folds.{list_all-append, list_any-append}
use Rattle.std.proofs.lemmas.List.Sums.{sum_by-append, sum_by-cons}
use Rattle.std.proofs.Math.Bool.{or-false}
use Rattle.oc_tree.specs.Names.{Text}
use Rattle.oc_tree.specs.Tree.{TExpr, number, truth, variable, index, deref, unary, binary, sensed, called, TArg, value, shared, mutable, TCall, call, TArgs, no_args, more_args}
use Rattle.oc_tree.specs.Tree.{TRight, right_value, right_sense, right_call, TKind, let_to, let_array, assign, assign_index, assign_deref, if_else, for_in, while_do, call_only}
use Rattle.oc_tree.specs.Tree.{sense_only, emit, fresh, consistent, return, TProgram}
use Rattle.oc_tree.specs.declared.tree.BinaryOp.{BinaryOp}
use Rattle.oc_tree.specs.Calls.{function_place}
use Rattle.oc_tree.specs.Scope.{Scope, is_variable, is_name_of}
use Rattle.oc_tree.specs.Pulls.{expr_pulls, may_skip, part_skips, own_skips}
use Rattle.oc_tree.specs.Parts.{expr_parts, call_parts, args_parts, arg_parts, right_parts, own_parts}
use Rattle.oc_tree.specs.Named.{part_names, expr_names, arg_names, own_names}
use Rattle.oc_tree.specs.Mentions.{call_mentions, own_mentions}
use Rattle.oc_tree.specs.Rules.{part_known, own_known}
use Rattle.oc_tree.specs.Walks.{expr_named, call_named, args_named, arg_named, right_named, kind_named}
use Rattle.oc_tree.specs.Walks.{once, expr_mentions, inner_mentions, args_mentions, arg_mentions, right_mentions, kind_mentions}
use Rattle.oc_tree.specs.Walks.{expr_known, call_known, args_known, arg_known, right_known, kind_known}
use Rattle.oc_tree.specs.Walks.{expr_skips, call_skips, args_skip, arg_skips, right_skips, kind_skips}

-- ---- the variables that are named

both_lists : (vs ws xs ys : List Text) → vs ≡ xs → ws ≡ ys → vs ++ ws ≡ xs ++ ys
both_lists vs ws xs ys e f = ap (λ l. l ++ ws) e ∙ ap (λ l. xs ++ l) f

mutual
  pub names_of_expr : (e : TExpr) → expr_names e ≡ expr_named e
  names_of_expr (number z) = refl
  names_of_expr (truth b) = refl
  names_of_expr (variable x) = refl
  names_of_expr (index x e) = ap (λ l. x ∷ l) (names_of_expr e)
  names_of_expr (deref x) = refl
  names_of_expr (unary op e) = names_of_expr e
  names_of_expr (binary op a b) =
      flat_map-append part_names (expr_parts a) (expr_parts b)
      ∙ both_lists (expr_names a) (expr_names b) (expr_named a) (expr_named b) (names_of_expr a) (names_of_expr b)
  names_of_expr (sensed s) = refl
  names_of_expr (called c) =
      flat_map-append part_names (call_parts c) (called c ∷ []) ∙ append-nil (flat_map part_names (call_parts c)) ∙ names_of_call c

  pub names_of_call : (c : TCall) → flat_map part_names (call_parts c) ≡ call_named c
  names_of_call (call f args) = names_of_args args

  pub names_of_args : (args : TArgs) → flat_map part_names (args_parts args) ≡ args_named args
  names_of_args no_args = refl
  names_of_args (more_args a rest) =
      flat_map-append part_names (arg_parts a) (args_parts rest)
      ∙ both_lists (arg_names a) (flat_map part_names (args_parts rest)) (arg_named a) (args_named rest) (names_of_arg a) (names_of_args rest)

  pub names_of_arg : (a : TArg) → arg_names a ≡ arg_named a
  names_of_arg (value e) = names_of_expr e
  names_of_arg (shared x) = refl
  names_of_arg (mutable x) = refl

names_of_right : (r : TRight) → flat_map part_names (right_parts r) ≡ right_named r
names_of_right (right_value e) = names_of_expr e
names_of_right (right_sense s) = refl
names_of_right (right_call c) = names_of_expr (called c)

pub names_of_own : (k : TKind) → own_names k ≡ kind_named k
names_of_own (let_to m x k r) = names_of_right r
names_of_own (let_array m x k z n) = refl
names_of_own (assign x r) = names_of_right r
names_of_own (assign_index x e r) =
    flat_map-append part_names (expr_parts e) (right_parts r)
    ∙ both_lists (expr_names e) (flat_map part_names (right_parts r)) (expr_named e) (right_named r) (names_of_expr e) (names_of_right r)
names_of_own (assign_deref x r) = names_of_right r
names_of_own (if_else c a b) = names_of_expr c
names_of_own (for_in x c d b) = refl
names_of_own (while_do c n b) = names_of_expr c
names_of_own (call_only c) = names_of_expr (called c)
names_of_own (sense_only s) = refl
names_of_own (emit p e) = names_of_expr e
names_of_own (fresh x) = refl
names_of_own (consistent x k) = refl
names_of_own (return e) = names_of_expr e

-- ---- how often a name stands

count_more : (x y : Text) (ys : List Text) → count_by (bytes_eq x) (y ∷ ys) ≡ once (bytes_eq x y) + count_by (bytes_eq x) ys
count_more x y ys = sum_by-cons one y ys ∙ ap (λ n. n + sum_by one ys) (by (bytes_eq x y))
  where
    one : Text → ℕ
    one z = cond (bytes_eq x z) 1 0

    by : (b : Bool) → cond b 1 0 ≡ once b
    by true = refl
    by false = refl

count_join : (x : Text) (ys zs : List Text) → count_by (bytes_eq x) (ys ++ zs) ≡ count_by (bytes_eq x) ys + count_by (bytes_eq x) zs
count_join x ys zs = sum_by-append (λ z. cond (bytes_eq x z) 1 0) ys zs

count_one : (x y : Text) → count_by (bytes_eq x) (y ∷ []) ≡ once (bytes_eq x y)
count_one x y = let none : count_by (bytes_eq x) [] ≡ 0 = refl in omega (arith, count_more x y [], none)

mutual
  mentions_expr : (x : Text) (e : TExpr) → count_by (bytes_eq x) (expr_named e) ≡ expr_mentions x e
  mentions_expr x (number z) = refl
  mentions_expr x (truth b) = refl
  mentions_expr x (variable y) = count_one x y
  mentions_expr x (index y e) = count_more x y (expr_named e) ∙ ap (λ n. once (bytes_eq x y) + n) (mentions_expr x e)
  mentions_expr x (deref y) = count_one x y
  mentions_expr x (unary op e) = mentions_expr x e
  mentions_expr x (binary op a b) = omega (arith, count_join x (expr_named a) (expr_named b), mentions_expr x a, mentions_expr x b)
  mentions_expr x (sensed s) = refl
  mentions_expr x (called c) = mentions_call x c

  mentions_call : (x : Text) (c : TCall) → count_by (bytes_eq x) (call_named c) ≡ inner_mentions x c
  mentions_call x (call f args) = mentions_args x args

  mentions_args : (x : Text) (args : TArgs) → count_by (bytes_eq x) (args_named args) ≡ args_mentions x args
  mentions_args x no_args = refl
  mentions_args x (more_args a rest) = omega (arith, count_join x (arg_named a) (args_named rest), mentions_arg x a, mentions_args x rest)

  mentions_arg : (x : Text) (a : TArg) → count_by (bytes_eq x) (arg_named a) ≡ arg_mentions x a
  mentions_arg x (value e) = mentions_expr x e
  mentions_arg x (shared y) = count_one x y
  mentions_arg x (mutable y) = count_one x y

mentions_right : (x : Text) (r : TRight) → count_by (bytes_eq x) (right_named r) ≡ right_mentions x r
mentions_right x (right_value e) = mentions_expr x e
mentions_right x (right_sense s) = refl
mentions_right x (right_call c) = mentions_call x c

mentions_kind : (x : Text) (k : TKind) → count_by (bytes_eq x) (kind_named k) ≡ kind_mentions x k
mentions_kind x (let_to m y t r) = mentions_right x r
mentions_kind x (let_array m y t z n) = refl
mentions_kind x (assign y r) = mentions_right x r
mentions_kind x (assign_index y e r) = omega (arith, count_join x (expr_named e) (right_named r), mentions_expr x e, mentions_right x r)
mentions_kind x (assign_deref y r) = mentions_right x r
mentions_kind x (if_else c a b) = mentions_expr x c
mentions_kind x (for_in y c d b) = refl
mentions_kind x (while_do c n b) = mentions_expr x c
mentions_kind x (call_only c) = mentions_call x c
mentions_kind x (sense_only s) = refl
mentions_kind x (emit p e) = mentions_expr x e
mentions_kind x (fresh y) = refl
mentions_kind x (consistent y n) = refl
mentions_kind x (return e) = mentions_expr x e

pub mentions_of_call : (x : Text) (c : TCall) → call_mentions x c ≡ inner_mentions x c
mentions_of_call x c = ap (count_by (bytes_eq x)) (names_of_call c) ∙ mentions_call x c

pub mentions_of_own : (x : Text) (k : TKind) → own_mentions x k ≡ kind_mentions x k
mentions_of_own x k = ap (count_by (bytes_eq x)) (names_of_own k) ∙ mentions_kind x k

-- ---- whether what is named is known

and_true : (b : Bool) → b && true ≡ b
and_true true = refl
and_true false = refl

turned : (a b : Bool) → a && (b && true) ≡ b && a
turned true true = refl
turned true false = refl
turned false true = refl
turned false false = refl

both_hold : (a b c d : Bool) → a ≡ c → b ≡ d → a && b ≡ c && d
both_hold a b c d e f = ap (λ x. x && b) e ∙ ap (λ x. c && x) f

module _ (p : TProgram) (scope : Scope) where
  mutual
    known_in_expr : (e : TExpr) → list_all (part_known p scope) (expr_parts e) ≡ expr_known p scope e
    known_in_expr (number z) = refl
    known_in_expr (truth b) = refl
    known_in_expr (variable x) = and_true (is_variable p scope x)
    known_in_expr (index x e) = ap (λ b. is_variable p scope x && b) (known_in_expr e)
    known_in_expr (deref x) = and_true (is_variable p scope x)
    known_in_expr (unary op e) = known_in_expr e
    known_in_expr (binary op a b) =
        list_all-append (part_known p scope) (expr_parts a) (expr_parts b)
        ∙ both_hold _ _ (expr_known p scope a) (expr_known p scope b) (known_in_expr a) (known_in_expr b)
    known_in_expr (sensed s) = and_true (is_name_of p.names.sensors s)
    known_in_expr (called (call f args)) =
        list_all-append (part_known p scope) (args_parts args) (called (call f args) ∷ [])
        ∙ turned (list_all (part_known p scope) (args_parts args)) (is_some (function_place p.functions f))
        ∙ ap (λ b. is_some (function_place p.functions f) && b) (known_in_args args)

    known_in_args : (args : TArgs) → list_all (part_known p scope) (args_parts args) ≡ args_known p scope args
    known_in_args no_args = refl
    known_in_args (more_args a rest) =
        list_all-append (part_known p scope) (arg_parts a) (args_parts rest)
        ∙ both_hold _ _ (arg_known p scope a) (args_known p scope rest) (known_in_arg a) (known_in_args rest)

    known_in_arg : (a : TArg) → list_all (part_known p scope) (arg_parts a) ≡ arg_known p scope a
    known_in_arg (value e) = known_in_expr e
    known_in_arg (shared x) = and_true (is_variable p scope x)
    known_in_arg (mutable x) = and_true (is_variable p scope x)

  known_in_right : (r : TRight) → list_all (part_known p scope) (right_parts r) ≡ right_known p scope r
  known_in_right (right_value e) = known_in_expr e
  known_in_right (right_sense s) = and_true (is_name_of p.names.sensors s)
  known_in_right (right_call (call f args)) = known_in_expr (called (call f args))

  pub known_of_own : (k : TKind) → own_known p scope k ≡ kind_known p scope k
  known_of_own (let_to m x t r) = known_in_right r
  known_of_own (let_array m x t z n) = refl
  known_of_own (assign x r) = ap (λ b. is_variable p scope x && b) (known_in_right r)
  known_of_own (assign_index x e r) =
      ap (λ b. is_variable p scope x && b)
      (list_all-append (part_known p scope) (expr_parts e) (right_parts r)
      ∙ both_hold _ _ (expr_known p scope e) (right_known p scope r) (known_in_expr e) (known_in_right r))
  known_of_own (assign_deref x r) = ap (λ b. is_variable p scope x && b) (known_in_right r)
  known_of_own (if_else c a b) = known_in_expr c
  known_of_own (for_in x c d b) = refl
  known_of_own (while_do c n b) = known_in_expr c
  known_of_own (call_only (call f args)) = known_in_expr (called (call f args))
  known_of_own (sense_only s) = and_true (is_name_of p.names.sensors s)
  known_of_own (emit port e) = ap (λ b. is_name_of p.names.ports port && b) (known_in_expr e)
  known_of_own (fresh x) = and_true (is_variable p scope x)
  known_of_own (consistent x n) = and_true (is_variable p scope x)
  known_of_own (return e) = known_in_expr e

-- ---- whether a pull may be skipped

one_of : (a b c d : Bool) → a ≡ c → b ≡ d → a || b ≡ c || d
one_of a b c d e f = ap (λ x. x || b) e ∙ ap (λ x. c || x) f

last_first : (a b c : Bool) → c || (a || b) ≡ a || b || c
last_first true true true = refl
last_first true true false = refl
last_first true false true = refl
last_first true false false = refl
last_first false true true = refl
last_first false true false = refl
last_first false false true = refl
last_first false false false = refl

mutual
  skips_in_expr : (e : TExpr) → list_any part_skips (expr_parts e) ≡ expr_skips e
  skips_in_expr (number z) = refl
  skips_in_expr (truth b) = refl
  skips_in_expr (variable x) = refl
  skips_in_expr (index x e) = skips_in_expr e
  skips_in_expr (deref x) = refl
  skips_in_expr (unary op e) = skips_in_expr e
  skips_in_expr (binary op a b) =
      ap (λ x. (may_skip op && nat_lt 0 (expr_pulls b)) || x)
      (list_any-append part_skips (expr_parts a) (expr_parts b) ∙ one_of _ _ (expr_skips a) (expr_skips b) (skips_in_expr a) (skips_in_expr b))
      ∙ last_first (expr_skips a) (expr_skips b) (may_skip op && nat_lt 0 (expr_pulls b))
  skips_in_expr (sensed s) = refl
  skips_in_expr (called c) =
      list_any-append part_skips (call_parts c) (called c ∷ []) ∙ or-false (list_any part_skips (call_parts c)) ∙ skips_in_call c

  skips_in_call : (c : TCall) → list_any part_skips (call_parts c) ≡ call_skips c
  skips_in_call (call f args) = skips_in_args args

  skips_in_args : (args : TArgs) → list_any part_skips (args_parts args) ≡ args_skip args
  skips_in_args no_args = refl
  skips_in_args (more_args a rest) =
      list_any-append part_skips (arg_parts a) (args_parts rest)
      ∙ one_of _ _ (arg_skips a) (args_skip rest) (skips_in_arg a) (skips_in_args rest)

  skips_in_arg : (a : TArg) → list_any part_skips (arg_parts a) ≡ arg_skips a
  skips_in_arg (value e) = skips_in_expr e
  skips_in_arg (shared x) = refl
  skips_in_arg (mutable x) = refl

skips_in_right : (r : TRight) → list_any part_skips (right_parts r) ≡ right_skips r
skips_in_right (right_value e) = skips_in_expr e
skips_in_right (right_sense s) = refl
skips_in_right (right_call c) = skips_in_expr (called c)

pub skips_of_own : (k : TKind) → own_skips k ≡ kind_skips k
skips_of_own (let_to m x t r) = skips_in_right r
skips_of_own (let_array m x t z n) = refl
skips_of_own (assign x r) = skips_in_right r
skips_of_own (assign_index x e r) =
    list_any-append part_skips (expr_parts e) (right_parts r)
    ∙ one_of _ _ (expr_skips e) (right_skips r) (skips_in_expr e) (skips_in_right r)
skips_of_own (assign_deref x r) = skips_in_right r
skips_of_own (if_else c a b) = skips_in_expr c
skips_of_own (for_in x c d b) = refl
skips_of_own (while_do c n b) = refl
skips_of_own (call_only c) = skips_in_expr (called c)
skips_of_own (sense_only s) = refl
skips_of_own (emit p e) = skips_in_expr e
skips_of_own (fresh x) = refl
skips_of_own (consistent x n) = refl
skips_of_own (return e) = skips_in_expr e
