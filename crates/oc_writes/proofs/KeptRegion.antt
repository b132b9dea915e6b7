-- A region's statements spare each nonvolatile variable that is no target of it.
use Rattle.std.proofs.Common.{◌≡◌, ℕ, zero, suc, ◌+◌, Bool, true, false, true≢false, List, [], ◌∷◌, ◌++◌, map, length, take, sum_by, Some, None, cond, refl, ap, sym, ◌∙◌, subst, arith}
use Rattle.std.specs.Prelude.{◌&&◌, ◌||◌, ◌==◌, slice_get, option_map, option_and_then}
use Rattle.std.specs.List.{All, filter, list_any}
use Rattle.std.proofs.Math.ListN.{get_or}
use Rattle.std.proofs.lemmas.Bool.{eq-eqb, and_parts, or_left, or_right}
use Rattle.std.proofs.lemmas.Option.{none-some, same_Some}
use Rattle.std.proofs.lemmas.List.Elements.{All-head, All-tail}
use Rattle.std.proofs.lemmas.List.Sums.{sum_by-cons}
use Rattle.std.proofs.lemmas.List.Folds.{list_any-append}
use Rattle.oc_tree.specs.Names.{Text}
use Rattle.oc_tree.specs.Tree.{TArg, value, shared, mutable, TCall, call, TArgs, no_args, more_args, TRight, right_value, right_sense, right_call, TKind, let_to, assign}
use Rattle.oc_tree.specs.Tree.{assign_index, assign_deref, if_else, for_in, while_do, call_only, TElse, no_else, else_do, stmt, TBlock, block, TStmts, no_stmts, more, TFunction}
use Rattle.oc_tree.specs.Tree.{TProgram}
use Rattle.oc_tree.specs.declared.said.Target.{Target}
use Rattle.oc_tree.specs.declared.said.Target.TheVariants as targets
use Rattle.oc_tree.specs.declared.tree.NvDecl.{NvDecl}
use Rattle.oc_tree.specs.declared.tree.Param.{Param}
use Rattle.oc_tree.specs.declared.tree.VarId.{VarId}
use Rattle.oc_tree.specs.declared.tree.VarId.TheVariants as variables
use Rattle.oc_tree.specs.Calls.{args_calls, call_calls, expr_calls, right_calls, own_calls}
use Rattle.oc_tree.specs.Assigned.{is_mutable, first_param, takes_mutable, param_assigned}
use Rattle.oc_tree.specs.Checked.{Group, IsChecked}
use Rattle.oc_tree.specs.Marked.{TRegion, is_in_region}
use Rattle.oc_tree.specs.Places.{Place as Spot, Placed, Variables, find_variable, or_nonvolatile, behind, in_branch, in_loop, at_start, kind_placed, else_placed, block_placed, stmts_placed}
use Rattle.oc_tree.specs.Scope.{Scope, function_named}
use Rattle.oc_tree.specs.Elements.{Here}
use Rattle.oc_tree.specs.Rules.{params_of, arg_meets, args_meet, call_args}
use Rattle.oc_meaning.specs.Store.{Place, Global}
use Rattle.oc_effects.specs.Effects.{TEffect, right_call_of, call_of, lent_name, variable_at, target_of, passed as passes, all_passed, params_at, called_at, called_by, effect_of}
use Rattle.oc_effects.specs.Effects.{function_effects, effects_at}
use Rattle.oc_flow.specs.Variables.{same_variable, is_variable_of}
use Rattle.oc_desugar.proofs.FineCalls.{CallFine, Each as EachCall, each_back as calls_back}
use Rattle.oc_checked.proofs.BodiesPass.{first_fails, second_fails, function_fine}
use Rattle.oc_writes.specs.Targets.{lends, call_assigns, assigns, reaches, region_effects, assigns_nv, assigns_param, words_of, nv_targets, param_targets, region_targets}
use Rattle.oc_writes.specs.Seen.{stands_in}
use Rattle.oc_writes.specs.Kept.{StandIn, numbers_of, first_word, is_stored, is_lent, IsNoTarget}
use Rattle.oc_writes.proofs.Standing.{Each, each_map, each_front, each_back, each_join, each_both, each_for, standing_is}
use Rattle.oc_writes.proofs.KeptNames.{Names}
use Rattle.oc_writes.proofs.KeptRuns.{ArgSpared, ArgsSpared, CallSpared, RightSpared, KindSpared, Spared}
use Rattle.oc_reach.proofs.Lists.{at_place}
use Rattle.oc_writes.proofs.KeptRules.{AllSame, Ruled, body_ruled, param_found}
use Rattle.oc_writes.proofs.KeptFunctions.{alone_is, shared_never, no_more, takes_at}

-- ---- what passes no filter

none_filtered : (p : TProgram) (keeps test : TEffect → Bool) (xs : List Placed) → list_any test (filter keeps (map (effect_of p) xs)) ≡ false
    → Each (λ a. keeps (effect_of p a) ≡ true → test (effect_of p a) ≡ false) xs
none_filtered p keeps test [] h = tt
none_filtered p keeps test (a ∷ xs) h = by (keeps (effect_of p a)) refl h (none_filtered p keeps test xs)
  where
    by : (b : Bool) → keeps (effect_of p a) ≡ b → list_any test (cond b (effect_of p a ∷ filter keeps (map (effect_of p) xs)) (filter keeps (map (effect_of p) xs))) ≡ false
        → (list_any test (filter keeps (map (effect_of p) xs)) ≡ false → Each (λ a. keeps (effect_of p a) ≡ true → test (effect_of p a) ≡ false) xs)
        → Each (λ a. keeps (effect_of p a) ≡ true → test (effect_of p a) ≡ false) (a ∷ xs)
    by true is h rest = ((λ k. first_fails (test (effect_of p a)) _ h), rest (second_fails (test (effect_of p a)) _ h))
    by false is h rest = ((λ k. absurd (true≢false (sym k ∙ is))), rest h)

-- ---- what is no target

-- one target or none
one_target : (b : Bool) (t : Target) (test : Target → Bool) → test t ≡ true → list_any test (cond b (t ∷ []) []) ≡ false → b ≡ false
one_target true t test e h = absurd (true≢false (sym e ∙ first_fails (test t) false h))
one_target false t test e h = refl

module _ (p : TProgram) (r : TRegion) where
  -- a variable whose first word is that of no target isn't assigned
  nv_unassigned : (n base : ℕ) (xs : List Text) (ds : List NvDecl) (k : ℕ) (x : Text) → length ds ≡ length xs → slice_get xs k ≡ Some x
      → list_any (is_stored (base + sum_by (λ d. d.words) (take k ds))) (nv_targets p r n base xs ds) ≡ false → assigns_nv p r (n + k) x ≡ false
  nv_unassigned n base [] ds k x long at h = absurd (none-some x at)
  nv_unassigned n base (y ∷ xs) [] k x long at h = absurd (cc)
  nv_unassigned n base (y ∷ xs) (d ∷ ds) zero x long at h =
      let z : n + 0 ≡ n = omega arith in
      let b : base ≡ base + 0 = omega arith in
      let parts = sym (list_any-append (is_stored (base + 0)) (cond (assigns_nv p r n y) (targets.Nv base d.words ∷ []) []) (nv_targets p r (n + 1) (base + d.words) xs ds)) ∙ h in
      let own = one_target (assigns_nv p r n y) (targets.Nv base d.words) (is_stored (base + 0)) (eq-eqb base (base + 0) b)
      (first_fails _ (list_any (is_stored (base + 0)) (nv_targets p r (n + 1) (base + d.words) xs ds)) parts) in
      let e : x ≡ y = sym (same_Some y x at) in
      (λ j. assigns_nv p r (z j) (e j)) ∙ own
  nv_unassigned n base (y ∷ xs) (d ∷ ds) (suc k) x long at h =
      let m : n + 1 + k ≡ n + suc k = omega arith in
      let l : length ds ≡ length xs = omega (arith, long) in
      let b : base + sum_by (λ d. d.words) (d ∷ take k ds) ≡ base + d.words + sum_by (λ d. d.words) (take k ds) = omega (arith, sum_by-cons (λ d. d.words) d (take k ds)) in
      let parts = sym (list_any-append (is_stored (base + sum_by (λ d. d.words) (d ∷ take k ds))) (cond (assigns_nv p r n y) (targets.Nv base d.words ∷ []) [])
      (nv_targets p r (n + 1) (base + d.words) xs ds)) ∙ h in
      let rest = second_fails (list_any (is_stored (base + sum_by (λ d. d.words) (d ∷ take k ds))) (cond (assigns_nv p r n y) (targets.Nv base d.words ∷ []) [])) _ parts in
      ap (λ c. assigns_nv p r c x) (sym m) ∙ nv_unassigned (n + 1) (base + d.words) xs ds k x l at (ap (λ c. list_any (is_stored c) (nv_targets p r (n + 1) (base + d.words) xs ds)) (sym b) ∙ rest)

  -- and neither is what was lent for a parameter that is no target
  param_unassigned : (n : ℕ) (qs : List Param) (k : ℕ) (q : Param) → slice_get qs k ≡ Some q → list_any (is_lent (n + k)) (param_targets p r n qs) ≡ false → assigns_param p r (n + k) ≡ false
  param_unassigned n [] k q at h = absurd (none-some q at)
  param_unassigned n (c ∷ qs) zero q at h =
      let z : n ≡ n + 0 = omega arith in
      let parts = sym (list_any-append (is_lent (n + 0)) (cond (assigns_param p r n) (targets.Param n (words_of c.kind) ∷ []) []) (param_targets p r (n + 1) qs)) ∙ h in
      ap (assigns_param p r) (sym z) ∙ one_target (assigns_param p r n) (targets.Param n (words_of c.kind)) (is_lent (n + 0)) (eq-eqb n (n + 0) z)
      (first_fails _ (list_any (is_lent (n + 0)) (param_targets p r (n + 1) qs)) parts)
  param_unassigned n (c ∷ qs) (suc k) q at h =
      let m : n + suc k ≡ n + 1 + k = omega arith in
      let parts = sym (list_any-append (is_lent (n + suc k)) (cond (assigns_param p r n) (targets.Param n (words_of c.kind) ∷ []) []) (param_targets p r (n + 1) qs)) ∙ h in
      let rest = second_fails (list_any (is_lent (n + suc k)) (cond (assigns_param p r n) (targets.Param n (words_of c.kind) ∷ []) [])) _ parts in
      ap (assigns_param p r) m ∙ param_unassigned (n + 1) qs k q at (ap (λ j. list_any (is_lent j) (param_targets p r (n + 1) qs)) (sym m) ∙ rest)

  -- the same of all targets
  nv_free : (i : ℕ) (x : Text) → slice_get p.names.nvs i ≡ Some x → length p.nv ≡ length p.names.nvs → list_any (is_stored (first_word p i)) (region_targets p r) ≡ false → assigns_nv p r i x ≡ false
  nv_free i x at long h =
      let z : 0 + first_word p i ≡ first_word p i = omega arith in
      let n : 0 + i ≡ i = omega arith in
      let parts = sym (list_any-append (is_stored (first_word p i)) (nv_targets p r 0 0 p.names.nvs p.nv) (param_targets p r 0 (params_at p r.function))) ∙ h in
      let own = first_fails _ (list_any (is_stored (first_word p i)) (param_targets p r 0 (params_at p r.function))) parts in
      ap (λ c. assigns_nv p r c x) (sym n) ∙ nv_unassigned 0 0 p.names.nvs p.nv i x long at (ap (λ c. list_any (is_stored c) (nv_targets p r 0 0 p.names.nvs p.nv)) z ∙ own)

  param_free : (qs : List Param) → params_at p r.function ≡ qs → (j : ℕ) (q : Param) → slice_get qs j ≡ Some q → list_any (is_lent j) (region_targets p r) ≡ false → assigns_param p r j ≡ false
  param_free qs are j q at h =
      let n : 0 + j ≡ j = omega arith in
      let parts = sym (list_any-append (is_lent j) (nv_targets p r 0 0 p.names.nvs p.nv) (param_targets p r 0 (params_at p r.function))) ∙ h in
      let rest = second_fails (list_any (is_lent j) (nv_targets p r 0 0 p.names.nvs p.nv)) _ parts in
      ap (assigns_param p r) (sym n) ∙ param_unassigned 0 qs j q at ((let e = sym are in λ k. list_any (is_lent (n k)) (param_targets p r 0 (e k))) ∙ rest)

-- ---- what is around statements

module _ (test : ℕ → Bool) where
  -- something that passes is around a statement
  abbrev Inside : Placed → Type 0
  Inside a = list_any test a.at.around ≡ true

  -- it passes itself, or something around it does
  abbrev Within : Placed → Type 0
  Within a = list_any test (a.id ∷ a.at.around) ≡ true

  -- inside it or around it
  deeper : (id : ℕ) (ids : List ℕ) → list_any test ids ≡ true → list_any test (id ∷ ids) ≡ true
  deeper id ids h = or_right (test id) (list_any test ids) h

  mutual
    kind_inside : (at : Spot) (id : ℕ) (k : TKind) → list_any test (id ∷ at.around) ≡ true → Each Inside (kind_placed at id k)
    kind_inside at id (if_else c a b) h = each_join Inside (block_placed (in_branch at id) a) (else_placed (in_branch at id) b) (block_inside (in_branch at id) a h) (else_inside (in_branch at id) b h)
    kind_inside at id (for_in x m n b) h = block_inside (in_loop at id ((x, variables.Declared id) ∷ [])) b h
    kind_inside at id (while_do c n b) h = block_inside (in_loop at id []) b h
    kind_inside at id k h = tt

    else_inside : (at : Spot) (b : TElse) → list_any test at.around ≡ true → Each Inside (else_placed at b)
    else_inside at no_else h = tt
    else_inside at (else_do b) h = block_inside at b h

    block_inside : (at : Spot) (b : TBlock) → list_any test at.around ≡ true → Each Inside (block_placed at b)
    block_inside at (block id ss) h = stmts_inside (record at { block = id }) ss h

    stmts_inside : (at : Spot) (ss : TStmts) → list_any test at.around ≡ true → Each Inside (stmts_placed at ss)
    stmts_inside at no_stmts h = tt
    stmts_inside at (more (stmt id line k) ss) h =
        (h, each_join Inside (kind_placed at id k) (stmts_placed (behind at id k) ss) (kind_inside at id k (deeper id at.around h)) (stmts_inside (behind at id k) ss h))

  -- statements that pass, and those in them
  all_within : (at : Spot) (ss : TStmts) → All (λ s. test s ≡ true) (numbers_of ss) → Each Within (stmts_placed at ss)
  all_within at no_stmts h = tt
  all_within at (more (stmt id line k) ss) h =
      let own : list_any test (id ∷ at.around) ≡ true = or_left (test id) (list_any test at.around) (All-head (λ s. test s ≡ true) id (numbers_of ss) h) in
      let inner = each_map Inside Within (λ a i. deeper a.id a.at.around i) (kind_placed at id k) (kind_inside at id k own) in
      (own, each_join Within (kind_placed at id k) (stmts_placed (behind at id k) ss) inner (all_within (behind at id k) ss (All-tail (λ s. test s ≡ true) id (numbers_of ss) h)))

-- ---- one statement

same_itself : (w : VarId) → same_variable w w ≡ true
same_itself (variables.Nv n) = eq-eqb n n refl
same_itself (variables.Param n) = eq-eqb n n refl
same_itself (variables.Declared n) = eq-eqb n n refl
same_itself variables.Returned = refl

-- what is the variable itself fails the other test
itself_free : (w : VarId) (b : Bool) → is_variable_of (Some w) w && b ≡ false → b ≡ false
itself_free w b h = sym (ap (λ t. t && b) (same_itself w)) ∙ h

params_looked : (fs : List TFunction) (v : ℕ) → params_of (slice_get fs v) ≡ get_or (map (λ g. g.params) fs) v []
params_looked [] v = refl
params_looked (g ∷ fs) zero = refl
params_looked (g ∷ fs) (suc v) = params_looked fs v

module _ (p : TProgram) (i : ℕ) (x : Text) (passed : ℕ → Place) where
  -- the variable for which a name stands, and that passes no test
  record Free (test : VarId → Bool) (vs : Variables) (y : Text) : Type 0 where
    var : VarId
    is : or_nonvolatile p y (find_variable vs y) ≡ Some var
    fails : test var ≡ false

  -- of all names that may stand for the nonvolatile variable
  abbrev AllFree : (test : VarId → Bool) → Variables → Type 0
  AllFree test vs = (y : Text) → Names p i passed vs y → Free test vs y

  -- a parameter of the function for which the variable was lent
  abbrev LentTo : TFunction → Type 0
  LentTo f = (j : ℕ) × (q : Param) × (slice_get f.params j ≡ Some q) × (passed j ≡ Global i)

  all_free : (f : TFunction) (scope : Scope) (test : VarId → Bool) (vs : Variables) → AllSame p f scope vs → test (variables.Nv i) ≡ false
      → ((l : LentTo f) → test (variables.Param l.0) ≡ false) → AllFree test vs
  all_free f scope test vs same own lent y (Names.own none is) = record { var = variables.Nv i; is = ap (or_nonvolatile p y) none ∙ ap (option_map variables.Nv) is; fails = own }
  all_free f scope test vs same own lent y (Names.given j some at) =
      let q = (param_found p f scope vs same y j some).2 in
      record { var = variables.Param j; is = ap (or_nonvolatile p y) some; fails = lent (j, q.param, q.stands, at) }

  module _ (a : Placed) (ruled : (f : TFunction) × Ruled p f a) where
    abbrev vs : Variables
    vs = a.at.variables

    abbrev here : Here
    here = ruled.1.here

    target_free : (y : Text) → AllFree (is_variable_of (variable_at p a y)) vs → Names p i passed vs y → ⊥
    target_free y free n =
        let f = free y n in
        true≢false (sym (same_itself f.var) ∙ sym (ap (λ o. is_variable_of o f.var) f.is) ∙ f.fails)

    module _ (v : ℕ) where
      -- an argument
      arg_spared : (l : ℕ) (q : Param) (g : TArg) → arg_meets p here.scope q g ≡ true
          → AllFree (λ w. is_variable_of (passes p a q g).lent w && param_assigned p.functions (first_param p.functions v + l)) vs → takes_mutable p.functions v l
          ≡ is_mutable q.passing → ArgSpared p i x passed vs v l g
      arg_spared l q (value e) meets free t y h n takes =
          let m : is_mutable q.passing ≡ true = sym t ∙ takes in
          let f = free y n in
          let lent : (passes p a q (value e)).lent ≡ Some f.var = (λ k. cond (m k) (option_and_then (variable_at p a) (lent_name (value (alone_is e y h k)))) None) ∙ f.is in
          itself_free f.var (param_assigned p.functions (first_param p.functions v + l))
          (sym (ap (λ o. is_variable_of o f.var && param_assigned p.functions (first_param p.functions v + l)) lent) ∙ f.fails)
      arg_spared l q (shared z) meets free t y h n takes = absurd (shared_never p here.scope q z (sym t ∙ takes) meets)
      arg_spared l q (mutable z) meets free t y h n takes =
          let m : is_mutable q.passing ≡ true = sym t ∙ takes in
          let f = free y n in
          let lent : (passes p a q (mutable z)).lent ≡ Some f.var = (λ k. cond (m k) (option_and_then (variable_at p a) (h k)) None) ∙ f.is in
          itself_free f.var (param_assigned p.functions (first_param p.functions v + l))
          (sym (ap (λ o. is_variable_of o f.var && param_assigned p.functions (first_param p.functions v + l)) lent) ∙ f.fails)

      args_spared : (l : ℕ) (qs : List Param) (gs : TArgs) → args_meet p here.scope qs gs ≡ true → AllFree (lends p (first_param p.functions v + l) (all_passed p a qs gs)) vs
          → ((k : ℕ) → takes_mutable p.functions v (l + k) ≡ get_or (map (λ q. is_mutable q.passing) qs) k false) → ArgsSpared p i x passed vs v l gs
      args_spared l qs no_args meets free takes = tt
      args_spared l [] (more_args g gs) meets free takes =
          let z : l + 0 ≡ l = omega arith in
          let none : takes_mutable p.functions v l ≡ false = sym (ap (takes_mutable p.functions v) z) ∙ takes 0 in (
            λ y h n t. absurd (true≢false (sym t ∙ none)),
            args_spared (l + 1) [] gs (no_more p here.scope gs) (λ y n. (let f = free y n in record { var = f.var; is = f.is; fails = none_passed gs f.var }))
                (λ k. let e : l + 1 + k ≡ l + suc k = omega arith in ap (takes_mutable p.functions v) e ∙ takes (suc k)),
          )
        where
          none_passed : (gs : TArgs) (w : VarId) → lends p (first_param p.functions v + (l + 1)) (all_passed p a [] gs) w ≡ false
          none_passed gs w = refl
      args_spared l (q ∷ qs) (more_args g gs) meets free takes =
          let z : l + 0 ≡ l = omega arith in
          let here_takes : takes_mutable p.functions v l ≡ is_mutable q.passing = sym (ap (takes_mutable p.functions v) z) ∙ takes 0 in
          let n : first_param p.functions v + l + 1 ≡ first_param p.functions v + (l + 1) = omega arith in (
            arg_spared l q g (and_parts (arg_meets p here.scope q g) (args_meet p here.scope qs gs) meets).0
                (λ y m. (let f = free y m in record {
                  var = f.var;
                  is = f.is;
                  fails =
                      first_fails (is_variable_of (passes p a q g).lent f.var && param_assigned p.functions (first_param p.functions v + l)) _ f.fails;
                })) here_takes,
            args_spared (l + 1) qs gs (and_parts (arg_meets p here.scope q g) (args_meet p here.scope qs gs) meets).1
                (λ y m. (let f = free y m in record {
                  var = f.var;
                  is = f.is;
                  fails = ap (λ c. lends p c (all_passed p a qs gs) f.var) (sym n)
                      ∙ second_fails (is_variable_of (passes p a q g).lent f.var && param_assigned p.functions (first_param p.functions v + l)) _ f.fails;
                }))
                (λ k. let e : l + 1 + k ≡ l + suc k = omega arith in ap (takes_mutable p.functions v) e ∙ takes (suc k)),
          )

    -- a call
    call_spared : (c : TCall) → CallFine p here c → reaches p (called_by p a c) x ≡ false → AllFree (call_assigns p (called_by p a c)) vs → CallSpared p i x passed vs c
    call_spared (call g gs) fine none free = λ v at.
        let called : called_by p a (call g gs) ≡ Some (called_at p a gs v) = ap (option_map (called_at p a gs)) at in
        let found : function_named p g ≡ slice_get p.functions v = ap (option_and_then (λ k. slice_get p.functions k)) at in
        let looked : params_of (function_named p g) ≡ params_at p v = ap params_of found ∙ params_looked p.functions v in
        let meet : args_meet p here.scope (params_at p v) gs ≡ true =
        subst (λ qs. args_meet p here.scope qs gs ≡ true) looked
        (and_parts (length (params_of (function_named p g)) == length (call_args (call g gs))) (args_meet p here.scope (params_of (function_named p g)) gs) fine.meets).1 in
        let z : first_param p.functions v ≡ first_param p.functions v + 0 = omega arith in (
          sym (ap (λ o. reaches p o x) called) ∙ none,
          args_spared v 0 (params_at p v) gs meet
              (λ y m. (let f = free y m in record {
                var = f.var;
                is = f.is;
                fails = ap (λ c. lends p c (all_passed p a (params_at p v) gs) f.var) (sym z)
                    ∙ sym (ap (λ o. call_assigns p o f.var) called) ∙ f.fails;
              }))
              (λ k. let n : 0 + k ≡ k = omega arith in ap (takes_mutable p.functions v) n ∙ takes_at p.functions v k
              ∙ ap (λ qs. get_or (map (λ q. is_mutable q.passing) qs) k false) (params_looked p.functions v)),
        )

    whole_spared : (c : TCall) → EachCall (CallFine p here) (call_calls c) → reaches p (called_by p a c) x ≡ false → AllFree (call_assigns p (called_by p a c)) vs → CallSpared p i x passed vs c
    whole_spared (call g gs) fine none free = call_spared (call g gs) (calls_back (CallFine p here) (args_calls gs) (call g gs ∷ []) fine).0 none free

    right_spared : (r : TRight) → EachCall (CallFine p here) (right_calls r) → reaches p (option_and_then (called_by p a) (right_call_of r)) x ≡ false
        → AllFree (call_assigns p (option_and_then (called_by p a) (right_call_of r))) vs → RightSpared p i x passed vs r
    right_spared (right_value e) fine none free = tt
    right_spared (right_sense s) fine none free = tt
    right_spared (right_call c) fine none free = whole_spared c fine none free

    -- what is free of both is free of each
    targeted : (k : TKind) → AllFree (λ w. is_variable_of (target_of p a k) w || call_assigns p (option_and_then (called_by p a) (call_of k)) w) vs → AllFree (is_variable_of (target_of p a k)) vs
    targeted k free y n = let f = free y n in record { var = f.var; is = f.is; fails = first_fails (is_variable_of (target_of p a k) f.var) _ f.fails }

    called : (k : TKind) → AllFree (λ w. is_variable_of (target_of p a k) w || call_assigns p (option_and_then (called_by p a) (call_of k)) w) vs
        → AllFree (call_assigns p (option_and_then (called_by p a) (call_of k))) vs
    called k free y n = let f = free y n in record { var = f.var; is = f.is; fails = second_fails (is_variable_of (target_of p a k) f.var) _ f.fails }

    -- what a statement doesn't do to the variable, it spares
    kind_spared : (k : TKind) → EachCall (CallFine p here) (own_calls k) → reaches p (option_and_then (called_by p a) (call_of k)) x ≡ false
        → AllFree (λ w. is_variable_of (target_of p a k) w || call_assigns p (option_and_then (called_by p a) (call_of k)) w) vs → KindSpared p i x passed vs k
    kind_spared (let_to m y t r) fine none free = right_spared r fine none (called (let_to m y t r) free)
    kind_spared (assign y r) fine none free = (target_free y (targeted (assign y r) free), right_spared r fine none (called (assign y r) free))
    kind_spared (assign_index y e r) fine none free =
        (target_free y (targeted (assign_index y e r) free), right_spared r (calls_back (CallFine p here) (expr_calls e) (right_calls r) fine) none (called (assign_index y e r) free))
    kind_spared (assign_deref y r) fine none free = (target_free y (targeted (assign_deref y r) free), right_spared r fine none (called (assign_deref y r) free))
    kind_spared (call_only c) fine none free = whole_spared c fine none (called (call_only c) free)
    kind_spared k fine none free = tt

-- ---- all statements

module _ (p : TProgram) (groups : List Group) (checked : IsChecked p groups) (r : TRegion) (at : Spot) (ss : TStmts) (stand : StandIn p r at ss) where
  abbrev body : List Placed
  body = block_placed (at_start stand.function) stand.function.body

  -- what holds of each statement of the function holds of these
  among : (P : Placed → Type 0) → Each P body → Each P (stmts_placed at ss)
  among P h = each_front P (stmts_placed at ss) stand.back (each_back P stand.front (stmts_placed at ss ++ stand.back) (subst (Each P) stand.stand h))

  -- the rules hold of them
  pub all_ruled : Each (Ruled p stand.function) (stmts_placed at ss)
  all_ruled = among (Ruled p stand.function) (body_ruled p stand.function r.function (function_fine p checked.unbroken checked.form.declared r.function stand.function stand.there).body)

  -- what no statement of the region does, none of these does
  none_does : (test : TEffect → Bool) → list_any test (region_effects p r) ≡ false → Each (λ a. test (effect_of p a) ≡ false) (stmts_placed at ss)
  none_does test h =
      let same : effects_at p r.function ≡ map (effect_of p) body = at_place (function_effects p) p.functions r.function stand.function [] stand.there in
      let none : list_any test (filter (stands_in p r) (map (effect_of p) body)) ≡ false = sym (ap (λ es. list_any test (filter (stands_in p r) es)) same)
      ∙ ap (list_any test) (standing_is p r groups checked) ∙ h in
      each_map _ (λ a. test (effect_of p a) ≡ false) (λ a q. q.0 q.1) (stmts_placed at ss)
      (each_both _ _ (stmts_placed at ss) (among _ (none_filtered p (stands_in p r) test body none)) (all_within (is_in_region p r) at ss stand.inside))

  module _ (i : ℕ) (x : Text) (named : slice_get p.names.nvs i ≡ Some x) (lengths : length p.nv ≡ length p.names.nvs) where
    pub region_spared : (passed : ℕ → Place) → IsNoTarget p (region_targets p r) passed i → Each (Spared p i x passed) (stmts_placed at ss)
    region_spared passed free =
        let f = stand.function in
        let J : Type 0 = LentTo p i x passed f in
        let params : params_at p r.function ≡ f.params = at_place (λ g. g.params) p.functions r.function f [] stand.there in
        let own = none_does (λ a. assigns p (variables.Nv i) a || reaches p a.call x) (nv_free p r i x named lengths free.own) in
        let lent = each_for J (λ l a. assigns p (variables.Param l.0) (effect_of p a) ≡ false) (stmts_placed at ss)
        (λ l. none_does (assigns p (variables.Param l.0)) (param_free p r f.params params l.0 l.1 l.2 (free.lent l.0 l.3))) in
        each_map _ (Spared p i x passed)
        (λ a h. kind_spared p i x passed a (f, h.0) a.kind h.0.rules.calls (second_fails (assigns p (variables.Nv i) (effect_of p a)) _ h.1.0)
        (all_free p i x passed f h.0.here.scope (λ w. assigns p w (effect_of p a)) a.at.variables h.0.same (first_fails (assigns p (variables.Nv i) (effect_of p a)) _ h.1.0) h.1.1))
        (stmts_placed at ss) (each_both _ _ (stmts_placed at ss) all_ruled (each_both _ _ (stmts_placed at ss) own lent))
