-- Bodies of a checked program are lawful: they name nothing hidden, assign no parameter by `&`, and lend it to such ones alone.
use Rattle.std.proofs.Common.{◌≡◌, ℕ, ◌+◌, Bool, true, false, true≢false, List, [], ◌∷◌, ◌++◌, length, Option, Some, None, cond, refl, ap, sym, ◌∙◌, subst, arith}
use Rattle.std.specs.Prelude.{◌&&◌, ◌||◌, ◌==◌, nat_lt, is_some, slice_get, option_and_then, if◌then◌else◌}
use Rattle.std.specs.Str.{bytes_eq}
use Rattle.std.proofs.lemmas.Bool.{eqb-true, ltb-false, and_parts, not-false}
use Rattle.std.proofs.lemmas.Slice.Eq.{bytes_eq-Decides}
use Rattle.std.proofs.lemmas.Option.{none-some}
use Rattle.oc_tree.specs.Names.{Text}
use Rattle.oc_tree.specs.Tree.{TCall, call, TRight, right_value, right_sense, right_call, TKind, let_to, let_array, assign, assign_index, assign_deref, if_else, for_in, while_do}
use Rattle.oc_tree.specs.Tree.{call_only, sense_only, emit, fresh, consistent, return, TElse, no_else, else_do, stmt, TBlock, block, TStmts, no_stmts, more, TFunction, TProgram}
use Rattle.oc_tree.specs.declared.tree.Param.{Param}
use Rattle.oc_tree.specs.declared.tree.Passing.{Passing}
use Rattle.oc_tree.specs.declared.tree.Passing.TheVariants as passings
use Rattle.oc_tree.specs.declared.scope.Origin.{Origin}
use Rattle.oc_tree.specs.declared.scope.Origin.TheVariants as origins
use Rattle.oc_tree.specs.declared.scope.Var.{Var}
use Rattle.oc_tree.specs.Mentions.{own_mentions, targets, annotates, is_named}
use Rattle.oc_tree.specs.Calls.{function_place, callee, expr_calls, call_calls, args_calls, right_calls, own_calls, kind_hides, kind_kinds, else_kinds}
use Rattle.oc_tree.specs.Calls.{block_kinds, stmts_kinds, has_param, reaches_mention}
use Rattle.oc_tree.specs.Scope.{Scope, variable_in, variable_of, is_variable, is_in_scope, is_name_of, is_declared, is_taken, param_var, with_param, with_params, takes_param}
use Rattle.oc_tree.specs.Scope.{function_named as rule_named}
use Rattle.oc_tree.specs.Elements.{Here, inside, in_turn, before_stmts, scope_after, after_stmt, stmt_elements, kind_elements, else_elements, block_elements, stmts_elements}
use Rattle.oc_tree.specs.Elements.{in_function, function_item}
use Rattle.oc_tree.specs.Broken.{item_rules}
use Rattle.oc_tree.specs.Checked.{Group, IsChecked}
use Rattle.oc_tree.specs.Rules.{takes_name, callee_params, params_of, args_meet, args_list, origin_is, is_writable}
use Rattle.oc_tree.specs.Rules.{is_writable_array, is_mutable_param}
use Rattle.oc_tree.specs.Named.{own_names as said_names}
use Rattle.oc_tree.specs.Walks.{expr_named, right_named, kind_named, inner_mentions, kind_mentions, expr_mentions, right_mentions, call_known, args_known, expr_known, right_known}
use Rattle.oc_tree.proofs.PartLaws.{names_of_own, mentions_of_own}
use Rattle.oc_meaning.specs.Run.{function_named}
use Rattle.oc_meaning.proofs.Functions.{named_at}
use Rattle.oc_desugar.proofs.FineCalls.{CallFine, Each as EachCall, each_back as calls_back}
use Rattle.oc_desugar.proofs.Unbroken.{Passes, none_broken, Unbroken, unbroken}
use Rattle.oc_checked.proofs.BodiesPass.{first_fails, second_fails, AllFine, fine_front, fine_back, function_fine}
use Rattle.oc_checked.proofs.CallLinks.{none_hides}
use Rattle.oc_laws.proofs.Maps.{none_is}
use Rattle.oc_copies.proofs.Twins.{Flags, flag_of, is_shared, flags_behind, Shown, IsLawfulCall, IsLawfulRight, IsLawful, IsLawfulElse, IsLawfulBlock, AreLawfulAll}
use Rattle.oc_copies.proofs.TwinCalls.{start_flags}
use Rattle.oc_copies.proofs.LeadToNone.{EachKind, kinds_front, kinds_back}
use Rattle.oc_copies.proofs.Reached.{none_names, none_called}
use Rattle.oc_copies.proofs.LawfulArgs.{ForHidden, unhidden, shown_join, shown_expr, shown_call, AllFlags, unflagged, all_lawful}

-- ---- a function by its name

pub record IsFound (p : TProgram) (x : Text) (v : ℕ) : Type 0 where
  pub function : TFunction
  pub stands : slice_get p.functions v ≡ Some function
  pub named : function_named p.functions x ≡ Some function
  pub ruled : rule_named p x ≡ Some function

pub found_named : (p : TProgram) (x : Text) (v : ℕ) → function_place p.functions x ≡ Some v → IsFound p x v
found_named p x v e =
    let r = named_at 0 p.functions x v e in
    let i : r.0 ≡ v = (let s = r.1 in omega (arith, s)) in
    let at_v : slice_get p.functions v ≡ Some r.2 = ap (slice_get p.functions) (sym i) ∙ r.3 in
    record { function = r.2; stands = at_v; named = r.4; ruled = ap (λ o. option_and_then (λ j. slice_get p.functions j) o) e ∙ at_v }

pub is_there : (o : Option ℕ) → is_some o ≡ true → (v : ℕ) × (o ≡ Some v)
is_there None h = absurd (true≢false (sym h))
is_there (Some v) h = (v, refl)

-- ---- what names are

three : (a b c : Bool) → a || b || c ≡ false → (a ≡ false) × (b ≡ false) × (c ≡ false)
three true b c h = absurd (true≢false h)
three false true c h = absurd (true≢false h)
three false false c h = (refl, refl, h)

none_less : (n : ℕ) → nat_lt 0 n ≡ false → n ≡ 0
none_less n h = let l = ltb-false 0 n h in omega (arith, l)

module _ (p : TProgram) (hidden : Text → Bool) (nv : ForHidden hidden (λ y. is_name_of p.names.nvs y ≡ true)) where
  -- a function of this number leads to no mention of what is hidden
  pub record IsQuiet (x : Text) (g : TFunction) : Type 0 where
    pub number : ℕ
    pub stands : slice_get p.functions number ≡ Some g
    pub unnamed : ForHidden hidden (λ y. reaches_mention p.functions y number ≡ false)

  -- a statement doesn't name it
  abbrev pub Free : Text → TKind → Type 0
  Free y k = is_named y k ≡ false

  -- calls lead to no mention
  abbrev pub Goes : TKind → Type 0
  Goes k = EachCall (λ c. (v : ℕ) → function_place p.functions (callee c) ≡ Some v → (y : Text) → hidden y ≡ true → reaches_mention p.functions y v ≡ false) (own_calls k)

  free_parts : (y : Text) (k : TKind) → Free y k → (own_mentions y k ≡ 0) × (targets y k ≡ false) × (annotates y k ≡ false)
  free_parts y k h = let t = three (nat_lt 0 (own_mentions y k)) (targets y k) (annotates y k) h in (none_less (own_mentions y k) t.0, t.1, t.2)

  -- a new name is none of the hidden ones
  nv_not_taken : (s : Scope) (x : Text) → is_taken p s x ≡ false → is_name_of p.names.nvs x ≡ false
  nv_not_taken s x h =
      let d : is_declared p x ≡ false = second_fails (is_in_scope s x) (is_declared p x) h in
      let q = second_fails (is_name_of p.names.sensors x) _ d in
      let r = second_fails (is_name_of p.names.ports x) _ q in
      first_fails (is_name_of p.names.nvs x) _ r

  new_name : (s : Scope) (x : Text) → is_taken p s x ≡ false → ForHidden hidden (λ y. bytes_eq y x ≡ false)
  new_name s x h y k = by (bytes_eq y x) refl
    where
      by : (b : Bool) → bytes_eq y x ≡ b → b ≡ false
      by false e = refl
      by true e = absurd (true≢false (sym (nv y k) ∙ ap (is_name_of p.names.nvs) ((bytes_eq-Decides y x).0 e) ∙ nv_not_taken s x h))

  -- ---- flags

  -- behind one name more at the end
  found_first : (s : Scope) (x y : Text) (v w : Var) → variable_in s y ≡ Some v → variable_in (s ++ (x, w) ∷ []) y ≡ Some v
  found_first [] x y v w e = absurd (none-some v e)
  found_first (z ∷ s) x y v w e = by (bytes_eq y z.0) e (found_first s x y v w)
    where
      by : (b : Bool) → cond b (Some z.1) (variable_in s y) ≡ Some v → (variable_in s y ≡ Some v → variable_in (s ++ (x, w) ∷ []) y ≡ Some v) →
          cond b (Some z.1) (variable_in (s ++ (x, w) ∷ []) y) ≡ Some v
      by true h rest = h
      by false h rest = rest h

  flags_more : (s : Scope) (fs : Flags) (x : Text) (w : Var) → AllFlags s fs → AllFlags (s ++ (x, w) ∷ []) ((x, false) ∷ fs)
  flags_more s fs x w h y = by (bytes_eq y x)
    where
      by : (b : Bool) → (if b then false else flag_of fs y) ≡ true → (v : Var) × (variable_in (s ++ (x, w) ∷ []) y ≡ Some v) × (v.origin ≡ origins.Param passings.Shared)
      by true k = absurd (true≢false (sym k))
      by false k = let v = h y k in (v.0, found_first s x y v.0 w v.1, v.2)

  flags_after : (h : Here) (fs : Flags) (id : ℕ) (k : TKind) → AllFlags h.scope fs → AllFlags (scope_after p h id k) (flags_behind fs k)
  flags_after h fs id (let_to m x t r) s = flags_more h.scope fs x _ s
  flags_after h fs id (let_array m x t z n) s = flags_more h.scope fs x _ s
  flags_after h fs id k s = s

  -- ---- right sides

  abbrev pub LawfulRight : Flags → TRight → Type 0
  LawfulRight = IsLawfulRight hidden p IsQuiet (function_named p.functions)

  abbrev Goal : TCall → Type 0
  Goal c = (v : ℕ) → function_place p.functions (callee c) ≡ Some v → (y : Text) → hidden y ≡ true → reaches_mention p.functions y v ≡ false

  call_lawful : (h : Here) (fs : Flags) (c : TCall) → AllFlags h.scope fs → call_known p h.scope c ≡ true → EachCall (CallFine p h) (call_calls c) → EachCall Goal (call_calls c) →
      ForHidden hidden (λ y. inner_mentions y c ≡ 0) → IsLawfulCall hidden p IsQuiet (function_named p.functions) fs c
  call_lawful h fs (call f args) s known fine goes free =
      let v = is_there (function_place p.functions f) (and_parts (is_some (function_place p.functions f)) (args_known p h.scope args) known).0 in
      let found = found_named p f v.0 v.1 in
      let own : CallFine p h (call f args) = (calls_back (CallFine p h) (args_calls args) (call f args ∷ []) fine).0 in
      let on : Goal (call f args) = (calls_back Goal (args_calls args) (call f args ∷ []) goes).0 in
      let params : callee_params p (call f args) ≡ found.function.params = ap params_of found.ruled in
      let meets : (length found.function.params == length (args_list args)) && args_meet p h.scope found.function.params args ≡ true =
      subst (λ qs. (length qs == length (args_list args)) && args_meet p h.scope qs args ≡ true) params own.meets in
      let many : length found.function.params ≡ length (args_list args) =
      eqb-true _ _ (and_parts (length found.function.params == length (args_list args)) (args_meet p h.scope found.function.params args) meets).0 in (
        found.function,
        found.named,
        record { number = v.0; stands = found.stands; unnamed = λ y k. on v.0 v.1 y k },
        all_lawful p h.scope fs s hidden found.function.params args many
            (and_parts (length found.function.params == length (args_list args)) (args_meet p h.scope found.function.params args) meets).1 own.lends free,
      )

  right_lawful : (h : Here) (fs : Flags) (r : TRight) → AllFlags h.scope fs → right_known p h.scope r ≡ true → EachCall (CallFine p h) (right_calls r) → EachCall Goal (right_calls r) →
      ForHidden hidden (λ y. right_mentions y r ≡ 0) → LawfulRight fs r
  right_lawful h fs (right_value e) s known fine goes free = shown_expr hidden e free
  right_lawful h fs (right_sense q) s known fine goes free = tt
  right_lawful h fs (right_call c) s known fine goes free = call_lawful h fs c s known fine goes free

  right_shown : (r : TRight) → ForHidden hidden (λ y. right_mentions y r ≡ 0) → Shown hidden (right_named r)
  right_shown (right_value e) free = shown_expr hidden e free
  right_shown (right_sense q) free = tt
  right_shown (right_call c) free = shown_call hidden c free

  -- what a statement names
  kind_shown : (k : TKind) → ForHidden hidden (λ y. kind_mentions y k ≡ 0) → Shown hidden (kind_named k)
  kind_shown (let_to m x t r) free = right_shown r free
  kind_shown (assign x r) free = right_shown r free
  kind_shown (assign_index x e r) free =
      shown_join hidden (expr_named e) (right_named r)
      (shown_expr hidden e (λ y k. let s : expr_mentions y e + right_mentions y r ≡ 0 = free y k in omega (arith, s)))
      (right_shown r (λ y k. let s : expr_mentions y e + right_mentions y r ≡ 0 = free y k in omega (arith, s)))
  kind_shown (assign_deref x r) free = right_shown r free
  kind_shown (if_else c a b) free = shown_expr hidden c free
  kind_shown (while_do c n b) free = shown_expr hidden c free
  kind_shown (call_only c) free = shown_call hidden c free
  kind_shown (emit q e) free = shown_expr hidden e free
  kind_shown (return e) free = shown_expr hidden e free
  kind_shown k free = tt

  own_shown : (k : TKind) → ForHidden hidden (λ y. kind_mentions y k ≡ 0) → Shown hidden (said_names k)
  own_shown k free = subst (λ xs. Shown hidden xs) (sym (names_of_own k)) (kind_shown k free)

  -- ---- statements

  -- none of the statements names what is hidden, as far as nothing hides it
  abbrev AllFree : (Text → List TKind) → Type 0
  AllFree ks = ForHidden hidden (λ y. EachKind (Free y) (ks y))

  abbrev LawfulKind : Flags → TKind → Type 0
  LawfulKind = IsLawful hidden p IsQuiet (function_named p.functions)

  target_shown : (x : Text) (k : TKind) → ((y : Text) → targets y k ≡ bytes_eq y x) → ForHidden hidden (λ y. Free y k) → hidden x ≡ false
  target_shown x k is h = unhidden hidden x (λ y e. sym (is y) ∙ (free_parts y k (h y e)).1)

  mentions_none : (k : TKind) → ForHidden hidden (λ y. Free y k) → ForHidden hidden (λ y. kind_mentions y k ≡ 0)
  mentions_none k h y e = sym (mentions_of_own y k) ∙ (free_parts y k (h y e)).0

  assign_lawful : (h : Here) (fs : Flags) (x : Text) (r : TRight) (test : Origin → Bool) → test (origins.Param passings.Shared) ≡ false → AllFlags h.scope fs → hidden x ≡ false →
      right_known p h.scope r ≡ true → EachCall (CallFine p h) (right_calls r) → EachCall Goal (right_calls r) → ForHidden hidden (λ y. right_mentions y r ≡ 0)
      → origin_is test (variable_of p h.scope x) ≡ true →
      (hidden x ≡ false) × (flag_of fs x ≡ false) × LawfulRight fs r
  assign_lawful h fs x r test fails s shown known fine goes free w = (shown, unflagged p h.scope fs s test fails x w, right_lawful h fs r s known fine goes free)

  -- a name that a statement declares hides nothing hidden
  hides_none : (h : Here) (k : TKind) → takes_name p h.scope k ≡ false → ForHidden hidden (λ y. kind_hides (Some y) k ≡ false)
  hides_none h (let_to m x t r) taken y e = new_name h.scope x taken y e
  hides_none h (let_array m x t z n) taken y e = new_name h.scope x taken y e
  hides_none h (emit q e) taken y k = refl
  hides_none h (return e) taken y k = refl
  hides_none h k taken y e = refl

  -- a statement is the first of its list
  head_free : (k : TKind) → AllFree (λ y. kind_kinds (Some y) k) → ForHidden hidden (λ y. Free y k)
  head_free (let_to m x t r) h y e = (h y e).0
  head_free k h y e = (h y e).0

  mutual
    kind_lawful : (h : Here) (fs : Flags) (k : TKind) → AllFlags h.scope fs → Unbroken p h k → AllFine p (kind_elements p h k) → AllFree (λ y. kind_kinds (Some y) k) →
        EachKind Goes (kind_kinds None k) → LawfulKind fs k
    kind_lawful h fs (let_to m x t r) s u fine free goes = right_lawful h fs r s u.known u.calls goes.0 (mentions_none (let_to m x t r) (λ y e. (free y e).0))
    kind_lawful h fs (let_array m x t z n) s u fine free goes = tt
    kind_lawful h fs (assign x r) s u fine free goes =
        assign_lawful h fs x r is_writable refl s (target_shown x (assign x r) (λ y. refl) (λ y e. (free y e).0))
        (and_parts (is_variable p h.scope x) (right_known p h.scope r) u.known).1 u.calls goes.0 (mentions_none (assign x r) (λ y e. (free y e).0)) (not-false _ u.target)
    kind_lawful h fs (assign_deref x r) s u fine free goes =
        assign_lawful h fs x r is_mutable_param refl s (target_shown x (assign_deref x r) (λ y. refl) (λ y e. (free y e).0))
        (and_parts (is_variable p h.scope x) (right_known p h.scope r) u.known).1 u.calls goes.0 (mentions_none (assign_deref x r) (λ y e. (free y e).0)) (not-false _ u.pointee)
    kind_lawful h fs (assign_index x i r) s u fine free goes =
        let none = mentions_none (assign_index x i r) (λ y e. (free y e).0) in
        let known = (and_parts (is_variable p h.scope x) (expr_known p h.scope i && right_known p h.scope r) u.known).1 in
        let rest = assign_lawful h fs x r is_writable_array refl s (target_shown x (assign_index x i r) (λ y. refl) (λ y e. (free y e).0))
        (and_parts (expr_known p h.scope i) (right_known p h.scope r) known).1
        (calls_back (CallFine p h) (expr_calls i) (right_calls r) u.calls) (calls_back Goal (expr_calls i) (right_calls r) goes.0)
        (λ y k. let q : expr_mentions y i + right_mentions y r ≡ 0 = none y k in omega (arith, q)) (not-false _ u.array) in
        (rest.0, rest.1, shown_expr hidden i (λ y k. let q : expr_mentions y i + right_mentions y r ≡ 0 = none y k in omega (arith, q)), rest.2)
    kind_lawful h fs (if_else c a b) s u fine free goes = (
      shown_expr hidden c (mentions_none (if_else c a b) (λ y e. (free y e).0)),
      block_lawful (inside h) fs a s (fine_front p (block_elements p (inside h) a) (else_elements p (inside h) b) fine)
          (λ y e. kinds_front (Free y) (block_kinds (Some y) a) (else_kinds (Some y) b) (free y e).1) (kinds_front Goes (block_kinds None a) (else_kinds None b) goes.1),
      else_lawful (inside h) fs b s (fine_back p (block_elements p (inside h) a) (else_elements p (inside h) b) fine)
          (λ y e. kinds_back (Free y) (block_kinds (Some y) a) (else_kinds (Some y) b) (free y e).1) (kinds_back Goes (block_kinds None a) (else_kinds None b) goes.1),
    )
    kind_lawful h fs (for_in x m n b) s u fine free goes =
        block_lawful (in_turn h x) ((x, false) ∷ fs) b (flags_more h.scope fs x _ s) fine
        (λ y e. subst (λ c. EachKind (Free y) (cond c [] (block_kinds (Some y) b))) (new_name h.scope x u.taken y e) (free y e).1) goes.1
    kind_lawful h fs (while_do c n b) s u fine free goes =
        (shown_expr hidden c (mentions_none (while_do c n b) (λ y e. (free y e).0)), block_lawful (inside h) fs b s fine (λ y e. (free y e).1) goes.1)
    kind_lawful h fs (call_only c) s u fine free goes = call_lawful h fs c s u.known u.calls goes.0 (mentions_none (call_only c) (λ y e. (free y e).0))
    kind_lawful h fs (sense_only q) s u fine free goes = tt
    kind_lawful h fs (emit q e) s u fine free goes = shown_expr hidden e (mentions_none (emit q e) (λ y k. (free y k).0))
    kind_lawful h fs (fresh x) s u fine free goes = tt
    kind_lawful h fs (consistent x n) s u fine free goes = unhidden hidden x (λ y e. (free_parts y (consistent x n) (free y e).0).2)
    kind_lawful h fs (return e) s u fine free goes = shown_expr hidden e (mentions_none (return e) (λ y k. (free y k).0))

    else_lawful : (h : Here) (fs : Flags) (b : TElse) → AllFlags h.scope fs → AllFine p (else_elements p h b) → AllFree (λ y. else_kinds (Some y) b) → EachKind Goes (else_kinds None b) →
        IsLawfulElse hidden p IsQuiet (function_named p.functions) fs b
    else_lawful h fs no_else s fine free goes = tt
    else_lawful h fs (else_do b) s fine free goes = block_lawful h fs b s fine free goes

    block_lawful : (h : Here) (fs : Flags) (b : TBlock) → AllFlags h.scope fs → AllFine p (block_elements p h b) → AllFree (λ y. block_kinds (Some y) b) → EachKind Goes (block_kinds None b) →
        IsLawfulBlock hidden p IsQuiet (function_named p.functions) fs b
    block_lawful h fs (block id ss) s fine free goes = stmts_lawful (record h { block = id }) fs ss s fine free goes

    stmts_lawful : (h : Here) (fs : Flags) (ss : TStmts) → AllFlags h.scope fs → AllFine p (stmts_elements p h ss) → AllFree (λ y. stmts_kinds (Some y) ss) → EachKind Goes (stmts_kinds None ss) →
        AreLawfulAll hidden p IsQuiet (function_named p.functions) fs ss
    stmts_lawful h fs no_stmts s fine free goes = tt
    stmts_lawful h fs (more (stmt id line k) ss) s fine free goes =
        let here = before_stmts h ss in
        let own = fine_front p (stmt_elements p here (stmt id line k)) (stmts_elements p (after_stmt p h (stmt id line k)) ss) fine in
        let rest = fine_back p (stmt_elements p here (stmt id line k)) (stmts_elements p (after_stmt p h (stmt id line k)) ss) fine in
        let u : Unbroken p here k = unbroken p own.0.0 here k own.0.1 in
        let each : AllFree (λ y. kind_kinds (Some y) k ++ stmts_kinds (Some y) ss) =
        λ y e. subst (λ c. EachKind (Free y) (kind_kinds (Some y) k ++ cond c [] (stmts_kinds (Some y) ss))) (hides_none here k u.taken y e) (free y e) in
        let on : EachKind Goes (kind_kinds None k ++ stmts_kinds None ss) = subst (λ c. EachKind Goes (kind_kinds None k ++ cond c [] (stmts_kinds None ss))) (none_hides k) goes in
        let one : AllFree (λ y. kind_kinds (Some y) k) = λ y e. kinds_front (Free y) (kind_kinds (Some y) k) (stmts_kinds (Some y) ss) (each y e) in (
          own_shown k (mentions_none k (head_free k one)),
          kind_lawful here fs k s u own.1 one (kinds_front Goes (kind_kinds None k) (stmts_kinds None ss) on),
          stmts_lawful (after_stmt p h (stmt id line k)) (flags_behind fs k) ss (flags_after h fs id k s) rest
              (λ y e. kinds_back (Free y) (kind_kinds (Some y) k) (stmts_kinds (Some y) ss) (each y e)) (kinds_back Goes (kind_kinds None k) (stmts_kinds None ss) on),
        )

  -- ---- at the start of a body

  -- no parameter has a hidden name, and the flags are those of the scope
  start_flagged : (s : Scope) (qs : List Param) (fs : Flags) → takes_param p s qs ≡ false → AllFlags s fs → AllFlags (with_params s qs) (start_flags qs fs)
  start_flagged s [] fs taken h = h
  start_flagged s (q ∷ qs) fs taken h =
      start_flagged (with_param s q) qs ((q.name, is_shared q.passing) ∷ fs) (second_fails (is_taken p s q.name) (takes_param p (with_param s q) qs) taken) (λ y. by y (bytes_eq y q.name) refl)
    where
      found_last : (t : Scope) (y : Text) → variable_in t y ≡ None → bytes_eq y q.name ≡ true → variable_in (t ++ (q.name, param_var q) ∷ []) y ≡ Some (param_var q)
      found_last [] y none e = ap (λ b. cond b (Some (param_var q)) None) e
      found_last (z ∷ t) y none e = go (bytes_eq y z.0) none (found_last t y)
        where
          go : (b : Bool) → cond b (Some z.1) (variable_in t y) ≡ None → (variable_in t y ≡ None → bytes_eq y q.name ≡ true → variable_in (t ++ (q.name, param_var q) ∷ []) y ≡ Some (param_var q)) →
              cond b (Some z.1) (variable_in (t ++ (q.name, param_var q) ∷ []) y) ≡ Some (param_var q)
          go true n k = absurd (none-some _ (sym n))
          go false n k = k n e

      shared_is : (w : Passing) → is_shared w ≡ true → origins.Param w ≡ origins.Param passings.Shared
      shared_is passings.Shared e = refl
      shared_is passings.Value e = absurd (true≢false (sym e))
      shared_is passings.Mutable e = absurd (true≢false (sym e))

      by : (y : Text) (b : Bool) → bytes_eq y q.name ≡ b → (if b then is_shared q.passing else flag_of fs y) ≡ true →
          (v : Var) × (variable_in (s ++ (q.name, param_var q) ∷ []) y ≡ Some v) × (v.origin ≡ origins.Param passings.Shared)
      by y true e k =
          let new : is_in_scope s q.name ≡ false = first_fails (is_in_scope s q.name) (is_declared p q.name) (first_fails (is_taken p s q.name) (takes_param p (with_param s q) qs) taken) in
          let none : variable_in s y ≡ None = ap (variable_in s) ((bytes_eq-Decides y q.name).0 e) ∙ none_is (variable_in s q.name) new in
          (param_var q, found_last s y none e, shared_is q.passing k)
      by y false e k = let v = h y k in (v.0, found_first s q.name y v.0 (param_var q) v.1, v.2)

  params_shown : (s : Scope) (qs : List Param) → takes_param p s qs ≡ false → ForHidden hidden (λ y. has_param y qs ≡ false)
  params_shown s [] taken y e = refl
  params_shown s (q ∷ qs) taken y e =
      ap (λ b. b || has_param y qs) (new_name s q.name (first_fails (is_taken p s q.name) (takes_param p (with_param s q) qs) taken) y e)
      ∙ params_shown (with_param s q) qs (second_fails (is_taken p s q.name) (takes_param p (with_param s q) qs) taken) y e

  -- The bodies of quiet functions are lawful.
  pub lawful : (groups : List Group) → IsChecked p groups → (x : Text) (g : TFunction) → IsQuiet x g → IsLawfulBlock hidden p IsQuiet (function_named p.functions) (start_flags g.params []) g.body
  lawful groups checked x g q =
      let fine = function_fine p checked.unbroken checked.form.declared q.number g q.stands in
      let head : Passes (item_rules p fine.tally fine.before (function_item g)) = none_broken (item_rules p fine.tally fine.before (function_item g)) fine.head in
      let taken : takes_param p [] g.params ≡ false = head.1.0 in
      block_lawful (in_function g q.number) (start_flags g.params []) g.body (start_flagged [] g.params [] taken (λ y e. absurd (true≢false (sym e)))) fine.body
      (λ y e. none_names p.functions q.number g q.stands y (q.unnamed y e) (params_shown [] g.params taken y e))
      (none_called p.functions q.number g q.stands hidden q.unnamed)
