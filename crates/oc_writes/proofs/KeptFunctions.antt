-- In a checked program, a function that doesn't assign a nonvolatile variable, by itself or through functions that it
-- calls or parameters, spares it in each statement.
use Rattle.std.proofs.Common.{◌≡◌, ℕ, zero, suc, ◌+◌, Bool, true, false, true≢false, List, [], ◌∷◌, map, length, Option, Some, None, cond, refl, ap, sym, ◌∙◌, subst, arith}
use Rattle.std.specs.Prelude.{◌&&◌, ◌||◌, ◌==◌, is_some, slice_get, option_map, option_and_then, nat_eq}
use Rattle.std.specs.List.{list_all, list_any}
use Rattle.std.specs.Str.{bytes_eq}
use Rattle.std.proofs.Math.ListN.{get_or}
use Rattle.std.proofs.lemmas.Bool.{eq-eqb, and_from, and_parts, or_left, or_right, not-false}
use Rattle.std.proofs.lemmas.Option.{none-some, same_Some}
use Rattle.std.proofs.lemmas.Slice.Eq.{bytes_eq-Decides}
use Rattle.std.proofs.lemmas.List.Folds.{list_any-append}
use Rattle.oc_tree.specs.Names.{Text}
use Rattle.oc_tree.specs.Tree.{TExpr, variable, TArg, value, shared, mutable, TCall, call, TArgs, no_args, more_args, TRight, right_value, right_sense, right_call, TKind, let_to}
use Rattle.oc_tree.specs.Tree.{let_array, assign, assign_index, assign_deref, for_in, call_only, TFunction, TProgram}
use Rattle.oc_tree.specs.declared.tree.Param.{Param}
use Rattle.oc_tree.specs.declared.tree.Passing.{Passing}
use Rattle.oc_tree.specs.declared.tree.Passing.TheVariants as passings
use Rattle.oc_tree.specs.declared.tree.ValueKind.{ValueKind}
use Rattle.oc_tree.specs.declared.tree.VarId.TheVariants as variables
use Rattle.oc_tree.specs.declared.scope.Origin.{Origin}
use Rattle.oc_tree.specs.declared.scope.Origin.TheVariants as origins
use Rattle.oc_tree.specs.declared.scope.Var.{Var}
use Rattle.oc_tree.specs.Reach.{linked, is_link}
use Rattle.oc_tree.specs.Calls.{place_from, place, function_place, callee, args_calls, call_calls, expr_calls, right_calls, own_calls, has_param}
use Rattle.oc_tree.specs.Assigned.{is_mutable, mutable_params, param_names, first_param, takes_mutable, mutable_param, own_param, alone, link_of, arg_links, args_links, to_links}
use Rattle.oc_tree.specs.Assigned.{pass_call, written_through, param_assigned, assigned_number, arg_assigns, args_assign, callee_assigns, call_assigns, own_assigns, reaches_assign}
use Rattle.oc_tree.specs.Places.{Variables, find_variable, at_start, block_placed}
use Rattle.oc_tree.specs.Scope.{Scope, variable_of, is_name_of, is_taken, is_in_scope, is_declared, function_named, takes_param, with_param}
use Rattle.oc_tree.specs.Types.{is_reference}
use Rattle.oc_tree.specs.Checked.{Group, IsChecked}
use Rattle.oc_tree.specs.Elements.{Here}
use Rattle.oc_tree.specs.Rules.{only_reference, has_kind, origin_is, is_mutable_param, is_writable, is_writable_array, value_meets, shared_meets, arg_meets}
use Rattle.oc_tree.specs.Rules.{args_meet, args_list, params_of, call_args, arg_lends, takes_name}
use Rattle.oc_meaning.specs.Store.{Place, Global}
use Rattle.oc_desugar.proofs.FineCalls.{CallFine, Each as EachCall, each_back as calls_back}
use Rattle.oc_desugar.proofs.Unbroken.{Unbroken}
use Rattle.oc_checked.proofs.Heads.{head_unbroken}
use Rattle.oc_checked.proofs.BodiesPass.{first_fails, second_fails, function_fine}
use Rattle.oc_writes.proofs.Standing.{Each, each_map, each_all, each_both, each_for}
use Rattle.oc_writes.proofs.KeptNames.{Names}
use Rattle.oc_writes.proofs.KeptRuns.{IsSafe, ArgSpared, ArgsSpared, CallSpared, RightSpared, KindSpared, Spared}
use Rattle.oc_reach.proofs.Lists.{at_place}
use Rattle.oc_writes.proofs.KeptReach.{none_assigns, none_called, none_writes, none_passes}
use Rattle.oc_writes.proofs.KeptRules.{AllSame, Ruled, param_passes, own_passes, body_ruled}
use Rattle.oc_writes.proofs.KeptKinds.{hidden, none_hidden, block_each}

-- ---- names of nonvolatile variables

-- what is found at a place stands there
pub place_there : (n : ℕ) (xs : List Text) (y : Text) (i : ℕ) → place_from n xs y ≡ Some i → (k : ℕ) × (i ≡ n + k) × (slice_get xs k ≡ Some y)
place_there n [] y i h = absurd (none-some i h)
place_there n (z ∷ xs) y i h = by (bytes_eq y z) refl h (place_there (n + 1) xs y i)
  where
    by : (b : Bool) → bytes_eq y z ≡ b → cond b (Some n) (place_from (n + 1) xs y) ≡ Some i
        → (place_from (n + 1) xs y ≡ Some i → (k : ℕ) × (i ≡ n + 1 + k) × (slice_get xs k ≡ Some y)) → (k : ℕ) × (i ≡ n + k) × (slice_get (z ∷ xs) k ≡ Some y)
    by true is e rest = let same = same_Some n i e in (0, omega (arith, same), ap Some (sym ((bytes_eq-Decides y z).0 is)))
    by false is e rest = let r = rest e in (suc r.0, omega (arith, r.1), r.2)

-- what stands in a list is among it
pub stands_among : (n : ℕ) (xs : List Text) (i : ℕ) (x : Text) → slice_get xs i ≡ Some x → is_some (place_from n xs x) ≡ true
stands_among n [] i x h = absurd (none-some x h)
stands_among n (z ∷ xs) zero x h = ap (λ b. is_some (cond b (Some n) (place_from (n + 1) xs x))) ((bytes_eq-Decides x z).1 (sym (same_Some z x h)))
stands_among n (z ∷ xs) (suc i) x h = by (bytes_eq x z) (stands_among (n + 1) xs i x h)
  where
    by : (b : Bool) → is_some (place_from (n + 1) xs x) ≡ true → is_some (cond b (Some n) (place_from (n + 1) xs x)) ≡ true
    by true e = refl
    by false e = e

-- ---- small tests

-- an array that may be written, and is a parameter, is one by `&mut`
pub array_param : (q : Passing) → is_writable_array (origins.Param q) ≡ true → is_mutable q ≡ true
array_param q h = h

-- what stands alone
pub alone_is : (e : TExpr) (y : Text) → alone e ≡ Some y → e ≡ variable y
alone_is (variable z) y h = ap variable (same_Some z y h)
alone_is e y h = absurd (none-some y h)

module _ (p : TProgram) (scope : Scope) where
  -- a reference that is a parameter by `&mut`
  only_mutable : (o : Option Var) → origin_is is_mutable_param (only_reference o) ≡ true → origin_is is_mutable_param o ≡ true
  only_mutable None h = h
  only_mutable (Some v) h = by (is_reference v.origin) h
    where
      by : (b : Bool) → origin_is is_mutable_param (cond b (Some v) None) ≡ true → is_mutable_param v.origin ≡ true
      by true e = e
      by false e = absurd (true≢false (sym e))

  -- a name that meets a parameter by `&mut` is such a parameter
  pub value_mutable : (q : Passing) (kind : ValueKind) (y : Text) → is_mutable q ≡ true → value_meets p scope q kind (variable y) ≡ true → origin_is is_mutable_param (variable_of p scope y) ≡ true
  value_mutable passings.Value kind y m h = absurd (true≢false (sym m))
  value_mutable passings.Shared kind y m h = absurd (true≢false (sym m))
  value_mutable passings.Mutable kind y m h = only_mutable (variable_of p scope y) (and_parts _ (has_kind kind (only_reference (variable_of p scope y))) h).0

  -- `&` meets no such parameter
  pub shared_never : (q : Param) (y : Text) → is_mutable q.passing ≡ true → arg_meets p scope q (shared y) ≡ true → ⊥
  shared_never q y m h = by q.passing m h
    where
      by : (s : Passing) → is_mutable s ≡ true → shared_meets s q.kind (variable_of p scope y) ≡ true → ⊥
      by passings.Value m h = true≢false (sym m)
      by passings.Shared m h = true≢false (sym m)
      by passings.Mutable m h = true≢false (sym h)

  pub no_more : (args : TArgs) → args_meet p scope [] args ≡ true
  no_more no_args = refl
  no_more (more_args a rest) = refl

-- the parameters of a function, as they are looked up
pub takes_at : (fs : List TFunction) (v m : ℕ) → takes_mutable fs v m ≡ get_or (map (λ q. is_mutable q.passing) (params_of (slice_get fs v))) m false
takes_at [] v m = refl
takes_at (g ∷ fs) zero m = refl
takes_at (g ∷ fs) (suc v) m = takes_at fs v m

-- what holds of each call for all of one kind
pub calls_for : (J : Type 0) (P : J → TCall → Type 0) (cs : List TCall) → ((j : J) → EachCall (P j) cs) → EachCall (λ c. (j : J) → P j c) cs
calls_for J P [] h = tt
calls_for J P (c ∷ cs) h = ((λ j. (h j).0), calls_for J P cs (λ j. (h j).1))

-- a link links
pub linked_is : (a b : ℕ) → linked (link_of (Some a) (Some b)) a b ≡ true
linked_is a b = or_left (nat_eq a a && nat_eq b b) false (and_from (nat_eq a a) (nat_eq b b) (eq-eqb a a refl) (eq-eqb b b refl))

module _ (p : TProgram) (i : ℕ) (x : Text) (named : slice_get p.names.nvs i ≡ Some x) where
  -- the variable's name
  own_name : (y : Text) → place p.names.nvs y ≡ Some i → bytes_eq x y ≡ true
  own_name y h =
      let t = place_there 0 p.names.nvs y i h in
      let z : i ≡ t.0 = omega (arith, t.1) in
      (bytes_eq-Decides x y).1 (same_Some x y (sym named ∙ ap (slice_get p.names.nvs) z ∙ t.2))

  -- no other declaration has it
  apart : (y : Text) → is_declared p y ≡ false → bytes_eq x y ≡ false
  apart y h = by (bytes_eq x y) refl
    where
      by : (b : Bool) → bytes_eq x y ≡ b → b ≡ false
      by false e = refl
      by true e =
          let among : is_name_of p.names.nvs y ≡ true = subst (λ z. is_name_of p.names.nvs z ≡ true) ((bytes_eq-Decides x y).0 e) (stands_among 0 p.names.nvs i x named) in
          let past = second_fails (is_name_of p.names.ports y) _ (second_fails (is_name_of p.names.sensors y) _ h) in
          absurd (true≢false (sym among ∙ first_fails (is_name_of p.names.nvs y) (is_some (function_place p.functions y)) past))

  -- no parameter has it
  pub no_param : (scope : Scope) (qs : List Param) → takes_param p scope qs ≡ false → has_param x qs ≡ false
  no_param scope [] h = refl
  no_param scope (q ∷ qs) h =
      let free = apart q.name (second_fails (is_in_scope scope q.name) (is_declared p q.name) (first_fails (is_taken p scope q.name) _ h)) in
      ap (λ b. b || has_param x qs) free ∙ no_param (with_param scope q) qs (second_fails (is_taken p scope q.name) _ h)

  -- no statement hides it
  pub not_hidden : (scope : Scope) (k : TKind) → takes_name p scope k ≡ false → hidden (Some x) k ≡ false
  not_hidden scope (let_to m y t r) h = apart y (second_fails (is_in_scope scope y) (is_declared p y) h)
  not_hidden scope (let_array m y t z n) h = apart y (second_fails (is_in_scope scope y) (is_declared p y) h)
  not_hidden scope (for_in y m n b) h = apart y (second_fails (is_in_scope scope y) (is_declared p y) h)
  not_hidden scope k h = refl

  module _ (u : ℕ) (f : TFunction) (stands : slice_get p.functions u ≡ Some f) (passed : ℕ → Place) where
    abbrev first : ℕ
    first = first_param p.functions u

    -- a parameter by `&mut` for which the variable was passed
    abbrev Through : Type 0
    Through = (j : ℕ) × (passed j ≡ Global i) × (takes_mutable p.functions u j ≡ true)

    abbrev through : (j : ℕ) (q : Param) → passed j ≡ Global i → slice_get f.params j ≡ Some q → is_mutable q.passing ≡ true → Through
    through j q lent there m = (j, lent, ap (λ l. get_or l j false) (at_place mutable_params p.functions u f [] stands) ∙ at_place (λ r. is_mutable r.passing) f.params j q false there ∙ m)

    -- ---- calls

    -- the call names no function that assigns the variable
    abbrev Named : TCall → Type 0
    Named c = (v : ℕ) → function_place p.functions (callee c) ≡ Some v → reaches_assign p.functions x v ≡ false

    -- the call passes no such parameter on to one that is assigned through
    abbrev Links : TCall → Type 0
    Links c = (m : Through) → (b : ℕ) → linked (pass_call p.functions first (param_names f) c) (first + m.0) b ≡ true → param_assigned p.functions b ≡ false

    module _ (v : ℕ) where
      -- what the links of all arguments give, those of the first and of the rest do
      first_links : (l : ℕ) (a : TArg) (rest : TArgs)
          → ((m : Through) → (b : ℕ) → linked (args_links p.functions first (param_names f) v l (more_args a rest)) (first + m.0) b ≡ true → param_assigned p.functions b ≡ false)
          → (m : Through) → (b : ℕ) → linked (arg_links p.functions first (param_names f) v l a) (first + m.0) b ≡ true → param_assigned p.functions b ≡ false
      first_links l a rest links m b h = links m b
          (list_any-append (is_link (first + m.0) b) (arg_links p.functions first (param_names f) v l a) (args_links p.functions first (param_names f) v (l + 1) rest)
          ∙ or_left _ (linked (args_links p.functions first (param_names f) v (l + 1) rest) (first + m.0) b) h)

      rest_links : (l : ℕ) (a : TArg) (rest : TArgs)
          → ((m : Through) → (b : ℕ) → linked (args_links p.functions first (param_names f) v l (more_args a rest)) (first + m.0) b ≡ true → param_assigned p.functions b ≡ false)
          → (m : Through) → (b : ℕ) → linked (args_links p.functions first (param_names f) v (l + 1) rest) (first + m.0) b ≡ true → param_assigned p.functions b ≡ false
      rest_links l a rest links m b h = links m b
          (list_any-append (is_link (first + m.0) b) (arg_links p.functions first (param_names f) v l a) (args_links p.functions first (param_names f) v (l + 1) rest)
          ∙ or_right (linked (arg_links p.functions first (param_names f) v l a) (first + m.0) b) _ h)

    -- what is known of a statement
    record Known (k : TKind) : Type 0 where
      unassigned : own_assigns p.functions x k ≡ false
      names : EachCall Named (own_calls k)
      unwritten : (m : Through) → own_param first (param_names f) (written_through k) ≡ Some (first + m.0) → ⊥
      links : EachCall Links (own_calls k)

    module _ (here : Here) (vs : Variables) (same : AllSame p f here.scope vs) where
      abbrev scope : Scope
      scope = here.scope

      module _ (v : ℕ) where
        arg_spared : (l : ℕ) (q : Param) (a : TArg) → arg_meets p scope q a ≡ true → arg_lends p scope a ≡ true → arg_assigns p.functions x v l a ≡ false
            → ((m : Through) → (b : ℕ) → linked (arg_links p.functions first (param_names f) v l a) (first + m.0) b ≡ true → param_assigned p.functions b ≡ false)
            → takes_mutable p.functions v l ≡ is_mutable q.passing → ArgSpared p i x passed vs v l a
        arg_spared l q (value e) meets lends assigns links t y h n takes =
            let m : is_mutable q.passing ≡ true = sym t ∙ takes in
            let alone_e = alone_is e y h in
            let origin = value_mutable p scope q.passing q.kind y m (subst (λ a. value_meets p scope q.passing q.kind a ≡ true) alone_e meets) in
            by origin n
          where
            by : origin_is is_mutable_param (variable_of p scope y) ≡ true → Names p i passed vs y → param_assigned p.functions (first_param p.functions v + l) ≡ false
            by origin (Names.own none is) = absurd (true≢false (sym (own_passes p f is_mutable_param scope vs same y origin none)))
            by origin (Names.given j some lent) =
                let q' = param_passes p f is_mutable_param scope vs same y origin j some in
                let m = through j q'.param lent q'.stands q'.passes in
                let own : own_param first (param_names f) (alone e) ≡ Some (first + j) = ap (λ a. own_param first (param_names f) (alone a)) (alone_is e y h)
                ∙ ap (λ o. option_map (λ k. first + k) o) q'.placed in
                let to : mutable_param p.functions v l ≡ Some (first_param p.functions v + l) = ap (λ b. cond b (Some (first_param p.functions v + l)) None) takes in
                links m (first_param p.functions v + l) ((λ k. linked (link_of (own k) (to k)) (first + j) (first_param p.functions v + l)) ∙ linked_is (first + j) (first_param p.functions v + l))
        arg_spared l q (shared y) meets lends assigns links t z h n takes = absurd (shared_never p scope q y (sym t ∙ takes) meets)
        arg_spared l q (mutable y) meets lends assigns links t z h n takes = by n
          where
            to : mutable_param p.functions v l ≡ Some (first_param p.functions v + l)
            to = ap (λ b. cond b (Some (first_param p.functions v + l)) None) takes

            same_name : y ≡ z
            same_name = same_Some y z h

            by : Names p i passed vs z → param_assigned p.functions (first_param p.functions v + l) ≡ false
            by (Names.own none is) =
                let e : bytes_eq x y ≡ true = own_name y (ap (place p.names.nvs) same_name ∙ is) in
                sym (λ k. e k && assigned_number p.functions (to k)) ∙ assigns
            by (Names.given j some lent) =
                let q' = param_passes p f is_writable scope vs same y lends j (ap (find_variable vs) same_name ∙ some) in
                absurd (true≢false (sym q'.passes))

        args_spared : (l : ℕ) (qs : List Param) (args : TArgs) → args_meet p scope qs args ≡ true → list_all (arg_lends p scope) (args_list args) ≡ true
            → args_assign p.functions x v l args ≡ false
            → ((m : Through) → (b : ℕ) → linked (args_links p.functions first (param_names f) v l args) (first + m.0) b ≡ true → param_assigned p.functions b ≡ false)
            → ((k : ℕ) → takes_mutable p.functions v (l + k) ≡ get_or (map (λ q. is_mutable q.passing) qs) k false) → ArgsSpared p i x passed vs v l args
        args_spared l qs no_args meets lends assigns links takes = tt
        args_spared l [] (more_args a rest) meets lends assigns links takes =
            let z : l + 0 ≡ l = omega arith in
            let none : takes_mutable p.functions v l ≡ false = sym (ap (takes_mutable p.functions v) z) ∙ takes 0 in (
              λ y h n t. absurd (true≢false (sym t ∙ none)),
              args_spared (l + 1) [] rest (no_more p scope rest) (and_parts (arg_lends p scope a) _ lends).1 (second_fails (arg_assigns p.functions x v l a) _ assigns)
                  (rest_links v l a rest links) (λ k. let e : l + 1 + k ≡ l + suc k = omega arith in ap (takes_mutable p.functions v) e ∙ takes (suc k)),
            )
        args_spared l (q ∷ qs) (more_args a rest) meets lends assigns links takes =
            let z : l + 0 ≡ l = omega arith in
            let here : takes_mutable p.functions v l ≡ is_mutable q.passing = sym (ap (takes_mutable p.functions v) z) ∙ takes 0 in (
              arg_spared l q a (and_parts (arg_meets p scope q a) (args_meet p scope qs rest) meets).0 (and_parts (arg_lends p scope a) _ lends).0
                  (first_fails (arg_assigns p.functions x v l a) _ assigns) (first_links v l a rest links) here,
              args_spared (l + 1) qs rest (and_parts (arg_meets p scope q a) (args_meet p scope qs rest) meets).1 (and_parts (arg_lends p scope a) _ lends).1
                  (second_fails (arg_assigns p.functions x v l a) _ assigns) (rest_links v l a rest links) (λ k. let e : l + 1 + k ≡ l + suc k = omega arith in
                  ap (takes_mutable p.functions v) e ∙ takes (suc k)),
            )

      call_spared : (c : TCall) → CallFine p here c → call_assigns p.functions x c ≡ false → Named c → Links c → CallSpared p i x passed vs c
      call_spared (call g args) fine assigns names links = λ v at.
          let found : function_named p g ≡ slice_get p.functions v = ap (option_and_then (λ k. slice_get p.functions k)) at in
          let qs = params_of (slice_get p.functions v) in
          let meet : args_meet p scope qs args ≡ true =
          subst (λ o. args_meet p scope (params_of o) args ≡ true) found
          (and_parts (length (params_of (function_named p g)) == length (call_args (call g args))) (args_meet p scope (params_of (function_named p g)) args) fine.meets).1 in
          let own : args_assign p.functions x v 0 args ≡ false = sym (ap (callee_assigns p.functions x args) at) ∙ assigns in
          let passes : (m : Through) → (b : ℕ) → linked (args_links p.functions first (param_names f) v 0 args) (first + m.0) b ≡ true → param_assigned p.functions b ≡ false =
          λ m b l. links m b (ap (λ o. linked (to_links p.functions first (param_names f) args o) (first + m.0) b) at ∙ l) in
          (names v at, args_spared v 0 qs args meet fine.lends own passes (λ k. let z : 0 + k ≡ k = omega arith in ap (takes_mutable p.functions v) z ∙ takes_at p.functions v k))

      -- the call that is a whole right side, or a whole statement
      whole_spared : (c : TCall) → EachCall (CallFine p here) (call_calls c) → list_any (call_assigns p.functions x) (call_calls c) ≡ false → EachCall Named (call_calls c)
          → EachCall Links (call_calls c) → CallSpared p i x passed vs c
      whole_spared (call g args) fine assigns names links =
          let c = call g args in
          let none = second_fails (list_any (call_assigns p.functions x) (args_calls args)) _ (sym (list_any-append (call_assigns p.functions x) (args_calls args) (c ∷ [])) ∙ assigns) in
          call_spared c (calls_back (CallFine p here) (args_calls args) (c ∷ []) fine).0 (first_fails (call_assigns p.functions x c) false none)
          (calls_back Named (args_calls args) (c ∷ []) names).0 (calls_back Links (args_calls args) (c ∷ []) links).0

      -- the right side of a statement
      right_spared : (r : TRight) → EachCall (CallFine p here) (right_calls r) → list_any (call_assigns p.functions x) (right_calls r) ≡ false → EachCall Named (right_calls r)
          → EachCall Links (right_calls r) → RightSpared p i x passed vs r
      right_spared (right_value e) fine assigns names links = tt
      right_spared (right_sense s) fine assigns names links = tt
      right_spared (right_call c) fine assigns names links = whole_spared c fine assigns names links

      -- ---- statements

      -- what is written through is no parameter for which the variable was passed
      unthrough : (test : Origin → Bool) → ((q : Passing) → test (origins.Param q) ≡ true → is_mutable q ≡ true) → (y : Text) → origin_is test (variable_of p scope y) ≡ true
          → ((m : Through) → own_param first (param_names f) (Some y) ≡ Some (first + m.0) → ⊥) → (j : ℕ) → find_variable vs y ≡ Some (variables.Param j) → passed j ≡ Global i → ⊥
      unthrough test only y origin none j some lent =
          let q = param_passes p f test scope vs same y origin j some in
          none (through j q.param lent q.stands (only q.param.passing q.passes)) (ap (λ o. option_map (λ k. first + k) o) q.placed)

      -- of a target
      assign_free : (y : Text) → origin_is is_writable (variable_of p scope y) ≡ true → bytes_eq x y ≡ false → Names p i passed vs y → ⊥
      assign_free y origin other (Names.own none is) = true≢false (sym (own_name y is) ∙ other)
      assign_free y origin other (Names.given j some lent) = true≢false (sym (param_passes p f is_writable scope vs same y origin j some).passes)

      index_free : (y : Text) → origin_is is_writable_array (variable_of p scope y) ≡ true → bytes_eq x y ≡ false
          → ((m : Through) → own_param first (param_names f) (Some y) ≡ Some (first + m.0) → ⊥) → Names p i passed vs y → ⊥
      index_free y origin other none (Names.own missing is) = true≢false (sym (own_name y is) ∙ other)
      index_free y origin other none (Names.given j some lent) = unthrough is_writable_array array_param y origin none j some lent

      deref_free : (y : Text) → origin_is is_mutable_param (variable_of p scope y) ≡ true → ((m : Through) → own_param first (param_names f) (Some y) ≡ Some (first + m.0) → ⊥)
          → Names p i passed vs y → ⊥
      deref_free y origin none (Names.own missing is) = true≢false (sym (own_passes p f is_mutable_param scope vs same y origin missing))
      deref_free y origin none (Names.given j some lent) = unthrough is_mutable_param (λ q h. h) y origin none j some lent

      kind_spared : (k : TKind) → Unbroken p here k → Known k → KindSpared p i x passed vs k
      kind_spared (let_to m y t r) rules known = right_spared r rules.calls (second_fails false _ known.unassigned) known.names known.links
      kind_spared (assign y r) rules known =
          (assign_free y (not-false _ rules.target) (first_fails (bytes_eq x y) _ known.unassigned), right_spared r rules.calls (second_fails (bytes_eq x y) _ known.unassigned) known.names known.links)
      kind_spared (assign_index y e r) rules known =
          let calls = second_fails (bytes_eq x y) _ known.unassigned in
          let none = second_fails (list_any (call_assigns p.functions x) (expr_calls e)) _ (sym (list_any-append (call_assigns p.functions x) (expr_calls e) (right_calls r)) ∙ calls) in (
            index_free y (not-false _ rules.array) (first_fails (bytes_eq x y) _ known.unassigned) known.unwritten,
            right_spared r (calls_back (CallFine p here) (expr_calls e) (right_calls r) rules.calls) none (calls_back Named (expr_calls e) (right_calls r) known.names)
                (calls_back Links (expr_calls e) (right_calls r) known.links),
          )
      kind_spared (assign_deref y r) rules known =
          (deref_free y (not-false _ rules.pointee) known.unwritten, right_spared r rules.calls (second_fails false _ known.unassigned) known.names known.links)
      kind_spared (call_only c) rules known = whole_spared c rules.calls (second_fails false _ known.unassigned) known.names known.links
      kind_spared k rules known = tt

    -- the function spares the variable in each statement
    pub body_spared : (groups : List Group) → IsChecked p groups → reaches_assign p.functions x u ≡ false → ((j : ℕ) → passed j ≡ Global i → IsSafe p u j)
        → Each (Spared p i x passed) (block_placed (at_start f) f.body)
    body_spared groups checked free unlent =
        let fs = p.functions in
        let xs = block_placed (at_start f) f.body in
        let fine = function_fine p checked.unbroken checked.form.declared u f stands in
        let ruled = body_ruled p f u fine.body in
        let shown = each_map (Ruled p f) (λ a. hidden (Some x) a.kind ≡ false) (λ a r. not_hidden r.here.scope a.kind r.rules.taken) xs ruled in
        let plain = each_all (λ a. hidden None a.kind ≡ false) (λ a. none_hidden a.kind) xs in
        let safe : (m : Through) → param_assigned fs (first + m.0) ≡ false = λ m. unlent m.0 m.1 m.2 in
        let one = block_each (Some x) (λ k. own_assigns fs x k ≡ false) (at_start f) f.body (none_assigns fs u f stands x free (no_param [] f.params (head_unbroken p u f fine).free)) shown in
        let two = block_each None (λ k. EachCall Named (own_calls k)) (at_start f) f.body (none_called fs u f stands x free) plain in
        let three = each_for Through (λ m a. own_param first (param_names f) (written_through a.kind) ≡ Some (first + m.0) → ⊥) xs
        (λ m. block_each None (λ k. own_param first (param_names f) (written_through k) ≡ Some (first + m.0) → ⊥) (at_start f) f.body (none_writes fs u f stands m.0 m.2 (safe m)) plain) in
        let four = each_for Through (λ m a. EachCall (λ c. (b : ℕ) → linked (pass_call fs first (param_names f) c) (first + m.0) b ≡ true → param_assigned fs b ≡ false)
        (own_calls a.kind)) xs (λ m. block_each None
        (λ k. EachCall (λ c. (b : ℕ) → linked (pass_call fs first (param_names f) c) (first + m.0) b ≡ true → param_assigned fs b ≡ false) (own_calls k)) (at_start f) f.body
        (none_passes fs u f stands m.0 m.2 (safe m)) plain) in
        each_map _ (Spared p i x passed)
        (λ a h. kind_spared h.0.here a.at.variables h.0.same a.kind h.0.rules
        (record { unassigned = h.1.0; names = h.1.1.0; unwritten = h.1.1.1.0; links = calls_for Through _ (own_calls a.kind) h.1.1.1.1 }))
        xs (each_both _ _ xs ruled (each_both _ _ xs one (each_both _ _ xs two (each_both _ _ xs three four))))
