-- A name stands in the list of what a function shows where the function names it, or assigns it.
use Rattle.std.proofs.Common.{◌≡◌, ◌<◌, ℕ, ◌+◌, Bool, true, false, true≢false, List, [], ◌∷◌, ◌++◌, Option, Some, None, cond, map, refl, ap, sym, ◌∙◌, arith}
use Rattle.std.specs.Prelude.{◌&&◌, ◌||◌, not, is_some, option_to_list, nat_lt, count_by}
use Rattle.std.specs.List.{list_any, flat_map}
use Rattle.std.specs.Str.{bytes_eq}
use Rattle.std.proofs.lemmas.Bool.Decides.{nat_tests}
use Rattle.std.proofs.lemmas.List.Folds.{list_any-append}
use Rattle.std.proofs.lemmas.List.Sums.{sum_by-cons}
use Rattle.std.proofs.lemmas.Slice.Eq.{bytes_eq-Decides}
use Rattle.oc_tree.specs.Names.{Text}
use Rattle.oc_tree.specs.Tree.{TArg, mutable, TCall, call, TArgs, no_args, more_args, TKind, let_to, let_array, assign, assign_index, assign_deref, if_else, for_in, while_do, fresh, consistent}
use Rattle.oc_tree.specs.Tree.{TElse, no_else, else_do, stmt, TBlock, block, TStmts, no_stmts, more, TFunction}
use Rattle.oc_tree.specs.declared.tree.Param.{Param}
use Rattle.oc_tree.specs.declared.scope.Var.{Var}
use Rattle.oc_tree.specs.Scope.{Scope, is_in_scope, variable_in}
use Rattle.oc_tree.specs.Elements.{turn_var}
use Rattle.oc_tree.specs.Named.{own_names}
use Rattle.oc_tree.specs.Mentions.{is_named, own_mentions, targets, annotates}
use Rattle.oc_tree.specs.Calls.{block_kinds, else_kinds, function_mentions, function_place, has_param, kind_hides, kind_kinds, own_calls, place, place_from, stmts_kinds}
use Rattle.oc_tree.specs.Assigned.{arg_assigns, args_assign, assigned_number, call_assigns, callee_assigns, function_assigns, is_target, mutable_param, own_assigns}
use Rattle.oc_types.specs.Shown.{all_names, arg_assigned, args_assigned, assigned_names, block_shown, call_assigned, callee_assigned, else_shown, end_name, function_shown, hiding, hiding_kind, hiding_params}
use Rattle.oc_types.specs.Shown.{inner_shown, stmts_shown, target_name, unhidden}

-- ---- tests

-- one test more, of what isn't hidden
own_case : (a h t : Bool) → a || (not h && t) ≡ a || (not h && (t || false))
own_case true h t = refl
own_case false true t = refl
own_case false false true = refl
own_case false false false = refl

two_cases : (a h t p : Bool) → (a || (not h && t)) || (not h && p) ≡ a || (not h && (t || p))
two_cases true h t p = refl
two_cases false true t p = refl
two_cases false false true p = refl
two_cases false false false p = refl

three_cases : (a h t p q : Bool) → ((a || (not h && t)) || (not h && p)) || (not h && q) ≡ a || (not h && (t || (p || q)))
three_cases true h t p q = refl
three_cases false true t p q = refl
three_cases false false true p q = refl
three_cases false false false true q = refl
three_cases false false false false q = refl

-- what stands behind a variable of that name, which hides it
behind_case : (a h e t p : Bool) → (a || (not h && t)) || (not (h || e) && p) ≡ a || (not h && (t || cond e false p))
behind_case true h e t p = refl
behind_case false true e t p = refl
behind_case false false true true p = refl
behind_case false false true false p = refl
behind_case false false false true p = refl
behind_case false false false false p = refl

nothing_case : (a h : Bool) → a ≡ a || (not h && false)
nothing_case true h = refl
nothing_case false true = refl
nothing_case false false = refl

or_assoc : (a b c : Bool) → (a || b) || c ≡ a || (b || c)
or_assoc true b c = refl
or_assoc false b c = refl

or_same : (a b : Bool) → b ≡ false → a || b ≡ a
or_same true b e = refl
or_same false b e = e

-- ---- names in scope

-- the same name is hidden or not
hid_same : (hs : Scope) (x y : Text) → bytes_eq x y ≡ true → is_in_scope hs y ≡ is_in_scope hs x
hid_same hs x y e = ap (is_in_scope hs) (sym ((bytes_eq-Decides x y).0 e))

in_more : (hs : Scope) (x y : Text) (v : Var) → is_in_scope (hs ++ (y, v) ∷ []) x ≡ is_in_scope hs x || bytes_eq x y
in_more [] x y v = by (bytes_eq x y)
  where
    by : (b : Bool) → is_some (cond b (Some v) None) ≡ b
    by true = refl
    by false = refl
in_more (h ∷ hs) x y v = by (bytes_eq x h.0) (in_more hs x y v)
  where
    by : (b : Bool) → is_in_scope (hs ++ (y, v) ∷ []) x ≡ is_in_scope hs x || bytes_eq x y
        → is_some (cond b (Some h.1) (variable_in (hs ++ (y, v) ∷ []) x)) ≡ is_some (cond b (Some h.1) (variable_in hs x)) || bytes_eq x y
    by true e = refl
    by false e = e

-- a name is hidden behind one more where it was, or where it is that one
hid_more : (hs : Scope) (x y : Text) → is_in_scope (hiding hs y) x ≡ is_in_scope hs x || bytes_eq x y
hid_more hs x y = by (is_in_scope hs y) refl (bytes_eq x y) refl
  where
    by : (b : Bool) → is_in_scope hs y ≡ b → (e : Bool) → bytes_eq x y ≡ e → is_in_scope (cond b hs (hs ++ (y, turn_var) ∷ [])) x ≡ is_in_scope hs x || e
    by true h true s =
        let here : is_in_scope hs x ≡ true = sym (hid_same hs x y s) ∙ h in
        here ∙ sym (ap (λ (c : Bool). c || true) here)
    by true h false s = sym (or_same (is_in_scope hs x) false refl)
    by false h e s = in_more hs x y turn_var ∙ ap (λ (c : Bool). is_in_scope hs x || c) s

hid_params : (hs : Scope) (x : Text) (qs : List Param) → is_in_scope (hiding_params hs qs) x ≡ is_in_scope hs x || has_param x qs
hid_params hs x [] = sym (or_same (is_in_scope hs x) false refl)
hid_params hs x (q ∷ qs) =
    hid_params (hiding hs q.name) x qs
    ∙ ap (λ (c : Bool). c || has_param x qs) (hid_more hs x q.name)
    ∙ or_assoc (is_in_scope hs x) (bytes_eq x q.name) (has_param x qs)

hid_kind : (hs : Scope) (x : Text) (k : TKind) → is_in_scope (hiding_kind hs k) x ≡ is_in_scope hs x || kind_hides (Some x) k
hid_kind hs x (let_to m y k r) = hid_more hs x y
hid_kind hs x (let_array m y k i n) = hid_more hs x y
hid_kind hs x k = sym (or_same (is_in_scope hs x) false refl)

-- ---- what statements show

-- what isn't hidden of some names
unhidden_has : (hs : Scope) (x : Text) (done ns : List Text) → list_any (bytes_eq x) (unhidden hs done ns) ≡ list_any (bytes_eq x) done || (not (is_in_scope hs x) && list_any (bytes_eq x) ns)
unhidden_has hs x done [] = nothing_case (list_any (bytes_eq x) done) (is_in_scope hs x)
unhidden_has hs x done (n ∷ ns) =
    unhidden_has hs x (cond (is_in_scope hs n) done (done ++ n ∷ [])) ns
    ∙ by (is_in_scope hs n) refl (bytes_eq x n) refl
  where
    a : Bool
    a = list_any (bytes_eq x) done

    r : Bool
    r = list_any (bytes_eq x) ns

    skipped : (h : Bool) → a || (not h && r) ≡ a || (not h && (false || r))
    skipped h = refl

    joined : (a h e r : Bool) → (e ≡ true → h ≡ false) → (a || (e || false)) || (not h && r) ≡ a || (not h && (e || r))
    joined true h e r f = refl
    joined false true true r f = absurd (true≢false (f refl))
    joined false false true r f = refl
    joined false h false r f = refl

    by : (b : Bool) → is_in_scope hs n ≡ b → (e : Bool) → bytes_eq x n ≡ e
        → list_any (bytes_eq x) (cond b done (done ++ n ∷ [])) || (not (is_in_scope hs x) && r) ≡ a || (not (is_in_scope hs x) && (e || r))
    by true h true s = let here : is_in_scope hs x ≡ true = sym (hid_same hs x n s) ∙ h in rw here refl
    by true h false s = refl
    by false h e s =
        ap (λ (c : Bool). c || (not (is_in_scope hs x) && r)) (list_any-append (bytes_eq x) done (n ∷ []) ∙ ap (λ (c : Bool). a || (c || false)) s)
        ∙ joined a (is_in_scope hs x) e r (λ t. sym (hid_same hs x n (s ∙ t)) ∙ h)

module _ (asked : TKind → List Text) (test : Text → TKind → Bool) (told : (x : Text) (k : TKind) → list_any (bytes_eq x) (asked k) ≡ test x k) (x : Text) where
  abbrev has : List Text → Bool
  has done = list_any (bytes_eq x) done

  chosen : (b : Bool) (ks : List TKind) → cond b false (list_any (test x) ks) ≡ list_any (test x) (cond b [] ks)
  chosen true ks = refl
  chosen false ks = refl

  own_has : (hs : Scope) (done : List Text) (k : TKind) → has (unhidden hs done (asked k)) ≡ has done || (not (is_in_scope hs x) && test x k)
  own_has hs done k = unhidden_has hs x done (asked k) ∙ ap (λ (c : Bool). has done || (not (is_in_scope hs x) && c)) (told x k)

  -- behind what a statement shows itself, what it shows inside
  after_own : (hs : Scope) (done : List Text) (k : TKind) (p : Bool) → has (unhidden hs done (asked k)) || (not (is_in_scope hs x) && p) ≡ has done || (not (is_in_scope hs x) && (test x k || p))
  after_own hs done k p =
      ap (λ (c : Bool). c || (not (is_in_scope hs x) && p)) (own_has hs done k)
      ∙ two_cases (has done) (is_in_scope hs x) (test x k) p

  mutual
    -- of a statement with what it shows itself
    kind_has : (hs : Scope) (done : List Text) (k : TKind) → has (inner_shown asked hs (unhidden hs done (asked k)) k) ≡ has done || (not (is_in_scope hs x) && list_any (test x) (kind_kinds (Some x) k))
    kind_has hs done (if_else c a b) =
        let k = if_else c a b in
        let own = unhidden hs done (asked k) in
        else_has hs (block_shown asked hs own a) b
        ∙ ap (λ (d : Bool). d || (not (is_in_scope hs x) && list_any (test x) (else_kinds (Some x) b))) (block_has hs own a ∙ ap (λ (d : Bool). d || (not (is_in_scope hs x) && list_any (test x) (block_kinds (Some x) a))) (own_has hs done k))
        ∙ three_cases (has done) (is_in_scope hs x) (test x k) (list_any (test x) (block_kinds (Some x) a)) (list_any (test x) (else_kinds (Some x) b))
        ∙ sym (ap (λ (d : Bool). has done || (not (is_in_scope hs x) && (test x k || d))) (list_any-append (test x) (block_kinds (Some x) a) (else_kinds (Some x) b)))
    kind_has hs done (for_in y m n b) =
        let k = for_in y m n b in
        block_has (hiding hs y) (unhidden hs done (asked k)) b
        ∙ ap (λ (d : Bool). d || (not (is_in_scope (hiding hs y) x) && list_any (test x) (block_kinds (Some x) b))) (own_has hs done k)
        ∙ ap (λ (h : Bool). (has done || (not (is_in_scope hs x) && test x k)) || (not h && list_any (test x) (block_kinds (Some x) b))) (hid_more hs x y)
        ∙ behind_case (has done) (is_in_scope hs x) (bytes_eq x y) (test x k) (list_any (test x) (block_kinds (Some x) b))
        ∙ ap (λ (d : Bool). has done || (not (is_in_scope hs x) && (test x k || d))) (chosen (bytes_eq x y) (block_kinds (Some x) b))
    kind_has hs done (while_do c n b) = block_has hs (unhidden hs done (asked (while_do c n b))) b ∙ after_own hs done (while_do c n b) (list_any (test x) (block_kinds (Some x) b))
    kind_has hs done k = own_has hs done k ∙ own_case (has done) (is_in_scope hs x) (test x k)

    else_has : (hs : Scope) (done : List Text) (b : TElse) → has (else_shown asked hs done b) ≡ has done || (not (is_in_scope hs x) && list_any (test x) (else_kinds (Some x) b))
    else_has hs done no_else = nothing_case (has done) (is_in_scope hs x)
    else_has hs done (else_do b) = block_has hs done b

    block_has : (hs : Scope) (done : List Text) (b : TBlock) → has (block_shown asked hs done b) ≡ has done || (not (is_in_scope hs x) && list_any (test x) (block_kinds (Some x) b))
    block_has hs done (block id ss) = stmts_has hs done ss

    stmts_has : (hs : Scope) (done : List Text) (ss : TStmts) → has (stmts_shown asked hs done ss) ≡ has done || (not (is_in_scope hs x) && list_any (test x) (stmts_kinds (Some x) ss))
    stmts_has hs done no_stmts = nothing_case (has done) (is_in_scope hs x)
    stmts_has hs done (more (stmt id line k) ss) =
        let shown = inner_shown asked hs (unhidden hs done (asked k)) k in
        let here = list_any (test x) (kind_kinds (Some x) k) in
        let rest = list_any (test x) (stmts_kinds (Some x) ss) in
        stmts_has (hiding_kind hs k) shown ss
        ∙ ap (λ (d : Bool). d || (not (is_in_scope (hiding_kind hs k) x) && rest)) (kind_has hs done k)
        ∙ ap (λ (h : Bool). (has done || (not (is_in_scope hs x) && here)) || (not h && rest)) (hid_kind hs x k)
        ∙ behind_case (has done) (is_in_scope hs x) (kind_hides (Some x) k) here rest
        ∙ ap (λ (d : Bool). has done || (not (is_in_scope hs x) && (here || d))) (chosen (kind_hides (Some x) k) (stmts_kinds (Some x) ss))
        ∙ sym (ap (λ (d : Bool). has done || (not (is_in_scope hs x) && d)) (list_any-append (test x) (kind_kinds (Some x) k) (cond (kind_hides (Some x) k) [] (stmts_kinds (Some x) ss))))

  -- of a function
  function_has : (f : TFunction) → has (function_shown asked f) ≡ not (has_param x f.params) && list_any (test x) (block_kinds (Some x) f.body)
  function_has f =
      block_has (hiding_params [] f.params) [] f.body
      ∙ ap (λ (h : Bool). not h && list_any (test x) (block_kinds (Some x) f.body)) (hid_params [] x f.params)

-- ---- names by their places

pub place_has : (n : ℕ) (xs : List Text) (x : Text) → is_some (place_from n xs x) ≡ list_any (bytes_eq x) xs
place_has n [] x = refl
place_has n (y ∷ ys) x = by (bytes_eq x y) (place_has (n + 1) ys x)
  where
    by : (b : Bool) → is_some (place_from (n + 1) ys x) ≡ list_any (bytes_eq x) ys → is_some (cond b (Some n) (place_from (n + 1) ys x)) ≡ b || list_any (bytes_eq x) ys
    by true e = refl
    by false e = e

-- ---- what statements name

abbrev one_of : Bool → ℕ
one_of b = cond b 1 0

one_more : (b : Bool) (n : ℕ) → nat_lt 0 (one_of b + n) ≡ b || nat_lt 0 n
one_more true n = let l : 0 < one_of true + n = omega arith in grind (arith, nat_tests, l)
one_more false n = let e : one_of false + n ≡ n = omega arith in ap (nat_lt 0) e

pub counted_any : (test : Text → Bool) (xs : List Text) → nat_lt 0 (count_by test xs) ≡ list_any test xs
counted_any test [] = refl
counted_any test (x ∷ xs) =
    ap (nat_lt 0) (sum_by-cons (λ y. one_of (test y)) x xs)
    ∙ one_more (test x) (count_by test xs)
    ∙ ap (λ (b : Bool). test x || b) (counted_any test xs)

end_named : (x : Text) (k : TKind) → list_any (bytes_eq x) (option_to_list (end_name k)) ≡ targets x k || annotates x k
end_named x (assign y r) = refl
end_named x (assign_index y i r) = refl
end_named x (assign_deref y r) = refl
end_named x (fresh y) = or_same (bytes_eq x y) false refl
end_named x (consistent y n) = or_same (bytes_eq x y) false refl
end_named x k = refl

all_told : (x : Text) (k : TKind) → list_any (bytes_eq x) (all_names k) ≡ is_named x k
all_told x k =
    list_any-append (bytes_eq x) (own_names k) (option_to_list (end_name k))
    ∙ ap (λ (b : Bool). b || list_any (bytes_eq x) (option_to_list (end_name k))) (sym (counted_any (bytes_eq x) (own_names k)))
    ∙ ap (λ (b : Bool). nat_lt 0 (own_mentions x k) || b) (end_named x k)
    ∙ sym (or_assoc (nat_lt 0 (own_mentions x k)) (targets x k) (annotates x k))

-- ---- what statements assign

module _ (fs : List TFunction) (x : Text) where
  arg_told : (v i : ℕ) (a : TArg) → list_any (bytes_eq x) (option_to_list (arg_assigned fs v i a)) ≡ arg_assigns fs x v i a
  arg_told v i (mutable y) = by (assigned_number fs (mutable_param fs v i)) (bytes_eq x y) refl
    where
      by : (b e : Bool) → bytes_eq x y ≡ e → list_any (bytes_eq x) (option_to_list (cond b (Some y) None)) ≡ bytes_eq x y && b
      by true true h = rw h refl
      by true false h = rw h refl
      by false true h = rw h refl
      by false false h = rw h refl
  arg_told v i a = refl

  args_told : (v i : ℕ) (args : TArgs) → list_any (bytes_eq x) (args_assigned fs v i args) ≡ args_assign fs x v i args
  args_told v i no_args = refl
  args_told v i (more_args a rest) =
      list_any-append (bytes_eq x) (option_to_list (arg_assigned fs v i a)) (args_assigned fs v (i + 1) rest)
      ∙ ap (λ (b : Bool). b || list_any (bytes_eq x) (args_assigned fs v (i + 1) rest)) (arg_told v i a)
      ∙ ap (λ (b : Bool). arg_assigns fs x v i a || b) (args_told v (i + 1) rest)

  callee_told : (args : TArgs) (v : Option ℕ) → list_any (bytes_eq x) (callee_assigned fs args v) ≡ callee_assigns fs x args v
  callee_told args None = refl
  callee_told args (Some v) = args_told v 0 args

  calls_told : (cs : List TCall) → list_any (bytes_eq x) (flat_map (call_assigned fs) cs) ≡ list_any (call_assigns fs x) cs
  calls_told [] = refl
  calls_told (call f args ∷ cs) =
      list_any-append (bytes_eq x) (callee_assigned fs args (function_place fs f)) (flat_map (call_assigned fs) cs)
      ∙ ap (λ (b : Bool). b || list_any (bytes_eq x) (flat_map (call_assigned fs) cs)) (callee_told args (function_place fs f))
      ∙ ap (λ (b : Bool). callee_assigns fs x args (function_place fs f) || b) (calls_told cs)

target_told : (x : Text) (k : TKind) → list_any (bytes_eq x) (option_to_list (target_name k)) ≡ is_target x k
target_told x (assign y r) = or_same (bytes_eq x y) false refl
target_told x (assign_index y i r) = or_same (bytes_eq x y) false refl
target_told x k = refl

assigned_told : (fs : List TFunction) (x : Text) (k : TKind) → list_any (bytes_eq x) (assigned_names fs k) ≡ own_assigns fs x k
assigned_told fs x k =
    list_any-append (bytes_eq x) (option_to_list (target_name k)) (flat_map (call_assigned fs) (own_calls k))
    ∙ ap (λ (b : Bool). b || list_any (bytes_eq x) (flat_map (call_assigned fs) (own_calls k))) (target_told x k)
    ∙ ap (λ (b : Bool). is_target x k || b) (calls_told fs x (own_calls k))

-- ---- the tests of all functions

pub mention_tests : (x : Text) (fs : List TFunction) → map (λ names. is_some (place names x)) (map (function_shown all_names) fs) ≡ map (function_mentions x) fs
mention_tests x [] = refl
mention_tests x (f ∷ fs) =
    ap (λ (b : Bool). b ∷ map (λ names. is_some (place names x)) (map (function_shown all_names) fs))
    (place_has 0 (function_shown all_names f) x ∙ function_has all_names is_named all_told x f)
    ∙ ap (λ l. function_mentions x f ∷ l) (mention_tests x fs)

pub assign_tests : (all : List TFunction) (x : Text) (fs : List TFunction)
    → map (λ names. is_some (place names x)) (map (function_shown (assigned_names all)) fs) ≡ map (function_assigns all x) fs
assign_tests all x [] = refl
assign_tests all x (f ∷ fs) =
    ap (λ (b : Bool). b ∷ map (λ names. is_some (place names x)) (map (function_shown (assigned_names all)) fs))
    (place_has 0 (function_shown (assigned_names all) f) x ∙ function_has (assigned_names all) (own_assigns all) (assigned_told all) x f)
    ∙ ap (λ l. function_assigns all x f ∷ l) (assign_tests all x fs)
