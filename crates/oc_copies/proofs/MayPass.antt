-- What a call that breaks no rule passes may be passed.
use Rattle.std.proofs.Common.{◌≡◌, ◌<◌, ◌≤◌, ℕ, zero, suc, Bool, true, false, true≢false, List, [], ◌∷◌, length, Option, Some, None, cond, refl, ap, sym, ◌∙◌, subst, arith}
use Rattle.std.specs.Prelude.{ℤ, ◌&&◌, ◌==◌, nat_lt, is_some, slice_get, option_map, if◌then◌else◌}
use Rattle.std.specs.List.{list_any, list_all}
use Rattle.std.proofs.lemmas.Bool.{eqb-true, and_parts}
use Rattle.std.proofs.lemmas.Slice.Eq.{bytes_eq-Decides}
use Rattle.std.proofs.lemmas.Option.{none-some, same_Some, slice_get_within}
use Rattle.oc_tree.specs.Names.{Text}
use Rattle.oc_tree.specs.Tree.{TExpr, number, truth, variable, index, deref, unary, binary, sensed, called, TArg, value, shared, mutable, call, TArgs, no_args, more_args, TFunction, TProgram}
use Rattle.oc_tree.specs.declared.tree.Param.{Param}
use Rattle.oc_tree.specs.declared.tree.NvDecl.{NvDecl}
use Rattle.oc_tree.specs.declared.tree.Passing.{Passing}
use Rattle.oc_tree.specs.declared.tree.Passing.TheVariants as passings
use Rattle.oc_tree.specs.declared.tree.ValueKind.{ValueKind}
use Rattle.oc_tree.specs.declared.tree.ValueKind.TheVariants as kinds
use Rattle.oc_tree.specs.declared.scope.Var.{Var}
use Rattle.oc_tree.specs.Calls.{function_place, reaches_mention}
use Rattle.oc_tree.specs.Scope.{Scope, variable_of, or_nv, nv_var, is_variable}
use Rattle.oc_tree.specs.Types.{is_reference, is_by_reference, scalar_of, is_same, value_type}
use Rattle.oc_tree.specs.Rules.{only_reference, passed_on as rule_passed, has_kind, origin_is, is_mutable_param, is_writable, is_nv, passes_nv, value_meets, shared_meets}
use Rattle.oc_tree.specs.Rules.{mutable_meets, arg_meets, args_meet, args_list, callee_params, params_of, arg_lends, arg_exposes, at_place, value_lent_is}
use Rattle.oc_tree.specs.Rules.{lone_is, lent_is, all_lent}
use Rattle.oc_tree.specs.Walks.{once, args_mentions, arg_mentions, arg_known, args_known}
use Rattle.oc_tree.specs.Mentions.{call_mentions}
use Rattle.oc_tree.proofs.PartLaws.{mentions_of_call}
use Rattle.oc_meaning.specs.Store.{Place, Local, Global, Turn, Nowhere, Store, Binding, binding_of, place_of}
use Rattle.oc_meaning.specs.Eval.{Got, Val, Traps, value_of}
use Rattle.oc_meaning.specs.Exec.{Passed, Copied, Lent, Passing as Given, Passes, Breaks, passed_on, value_first, arg_first, args_of}
use Rattle.oc_checked.proofs.BodiesPass.{first_fails, second_fails}
use Rattle.oc_copies.specs.Copies.{lent_place, passing_at, IsThere, nv_name, MayPass}
use Rattle.oc_copies.specs.Stands.{IsVariablePlace, Stands, AreFormed, IsRuledCall, CallsMayPass}
use Rattle.oc_copies.proofs.Twins.{handed}
use Rattle.oc_copies.proofs.Lawful.{found_named}

-- ---- tests that agree on each name agree on what is lent

lone_same : (s t : Text → Bool) → ((x : Text) → s x ≡ t x) → (e : TExpr) → lone_is s e ≡ lone_is t e
lone_same s t same (variable x) = same x
lone_same s t same x = refl

lent_same : (s t : Text → Bool) → ((x : Text) → s x ≡ t x) → (q : Param) (a : TArg) → lent_is s q a ≡ lent_is t q a
lent_same s t same q (value e) = by q.passing
  where
    by : (m : Passing) → value_lent_is s m e ≡ value_lent_is t m e
    by passings.Value = refl
    by passings.Shared = refl
    by passings.Mutable = lone_same s t same e
lent_same s t same q (shared x) = refl
lent_same s t same q (mutable x) = same x

all_lent_same : (s t : Text → Bool) → ((x : Text) → s x ≡ t x) → (qs : List Param) (args : TArgs) → all_lent s qs args ≡ all_lent t qs args
all_lent_same s t same qs no_args = refl
all_lent_same s t same [] (more_args a rest) = refl
all_lent_same s t same (q ∷ qs) (more_args a rest) =
    ap (λ b. b && all_lent s qs rest) (lent_same s t same q a) ∙ ap (λ b. lent_is t q a && b) (all_lent_same s t same qs rest)

-- ---- variables by their origin

-- a reference is no value
value_none : (o : Option Var) → origin_is is_reference o ≡ true → value_type o ≡ None
value_none None h = refl
value_none (Some v) h = ap (λ b. cond b None (scalar_of v.kind)) h

-- what is no reference isn't passed on
only_none : (o : Option Var) → origin_is is_reference o ≡ false → only_reference o ≡ None
only_none None h = refl
only_none (Some v) h = ap (λ b. cond b (Some v) None) h

same_none : (kind : ValueKind) → is_same (scalar_of kind) None ≡ false
same_none kinds.Int = refl
same_none kinds.Bool = refl
same_none (kinds.Array n) = refl

nv_no_reference : (o : Option NvDecl) → origin_is is_reference (option_map nv_var o) ≡ false
nv_no_reference None = refl
nv_no_reference (Some d) = refl

nv_is_nv : (o : Option NvDecl) → is_some (option_map nv_var o) ≡ true → origin_is is_nv (option_map nv_var o) ≡ true
nv_is_nv None h = absurd (true≢false (sym h))
nv_is_nv (Some d) h = refl

-- ---- names in arguments

handed_mention : (a : TArg) (x : Text) → handed a ≡ Some x → 1 ≤ arg_mentions x a
handed_mention (value (variable z)) x e = subst (λ b. 1 ≤ once b) (sym ((bytes_eq-Decides x z).1 (sym (same_Some z x e)))) (omega arith)
handed_mention (shared z) x e = subst (λ b. 1 ≤ once b) (sym ((bytes_eq-Decides x z).1 (sym (same_Some z x e)))) (omega arith)
handed_mention (mutable z) x e = subst (λ b. 1 ≤ once b) (sym ((bytes_eq-Decides x z).1 (sym (same_Some z x e)))) (omega arith)
handed_mention (value expr) x e = absurd (none-some x e)

abbrev nth_arg : TArgs → ℕ → Option TArg
nth_arg no_args i = None
nth_arg (more_args a rest) zero = Some a
nth_arg (more_args a rest) (suc i) = nth_arg rest i

mention_one : (args : TArgs) (i : ℕ) (a : TArg) (x : Text) → nth_arg args i ≡ Some a → handed a ≡ Some x → 1 ≤ args_mentions x args
mention_one no_args i a x e h = absurd (none-some a e)
mention_one (more_args b rest) zero a x e h = let m = handed_mention b x (ap handed (same_Some b a e) ∙ h) in omega (arith, m)
mention_one (more_args b rest) (suc i) a x e h = let m = mention_one rest i a x e h in omega (arith, m)

mention_two : (args : TArgs) (i j : ℕ) (a b : TArg) (x : Text) → i < j → nth_arg args i ≡ Some a → nth_arg args j ≡ Some b → handed a ≡ Some x → handed b ≡ Some x → 2 ≤ args_mentions x args
mention_two no_args i j a b x l e f h k = absurd (none-some a e)
mention_two (more_args c rest) zero zero a b x l e f h k = absurd (omega (arith, l))
mention_two (more_args c rest) zero (suc j) a b x l e f h k =
    let m = handed_mention c x (ap handed (same_Some c a e) ∙ h) in
    let n = mention_one rest j b x f k in omega (arith, m, n)
mention_two (more_args c rest) (suc i) zero a b x l e f h k = absurd (omega (arith, l))
mention_two (more_args c rest) (suc i) (suc j) a b x l e f h k = let m = mention_two rest i j a b x (omega (arith, l)) e f h k in omega (arith, m)

passes_is : (xs ys : List Passed) → Passes xs ≡ Passes ys → xs ≡ ys
passes_is xs ys e = cc

module _ (p : TProgram) (scope : Scope) (env : List Binding) (σ : Store) (s : Stands p scope env σ) where
  -- ---- what was passed, argument by argument

  abbrev IsGivenBy : TArg → Passed → Type 0
  IsGivenBy (value e) (Copied v) = passed_on env e ≡ None
  IsGivenBy (value e) (Lent q) = (x : Text) × (e ≡ variable x) × ((binding_of env x).reference ≡ true) × (q ≡ place_of env x)
  IsGivenBy (shared x) (Lent q) = q ≡ place_of env x
  IsGivenBy (mutable x) (Lent q) = q ≡ place_of env x
  IsGivenBy (shared x) (Copied v) = ⊥
  IsGivenBy (mutable x) (Copied v) = ⊥

  abbrev AreGivenBy : TArgs → List Passed → Type 0
  AreGivenBy no_args [] = Unit {0}
  AreGivenBy (more_args a rest) (t ∷ ps) = IsGivenBy a t × AreGivenBy rest ps
  AreGivenBy no_args (t ∷ ps) = ⊥
  AreGivenBy (more_args a rest) [] = ⊥

  on_name : (e : TExpr) (q : Place) → passed_on env e ≡ Some q → (x : Text) × (e ≡ variable x) × ((binding_of env x).reference ≡ true) × (q ≡ place_of env x)
  on_name (variable x) q h = by (binding_of env x).reference refl h
    where
      by : (b : Bool) → (binding_of env x).reference ≡ b → (if b then Some (place_of env x) else None) ≡ Some q →
          (y : Text) × (variable x ≡ variable y) × ((binding_of env y).reference ≡ true) × (q ≡ place_of env y)
      by true e k = (x, refl, e, sym (same_Some _ _ k))
      by false e k = absurd (none-some q k)
  on_name x q h = absurd (none-some q h)

  value_given : (e : TExpr) (rest : TArgs) (r : Given) → ((qs : List Passed) → r ≡ Passes qs → AreGivenBy rest qs) → (ps : List Passed) (o : Option Place) (g : Got) → passed_on env e ≡ o →
      value_first o g r ≡ Passes ps → AreGivenBy (more_args (value e) rest) ps
  value_given e rest (Passes qs) more ps (Some q) g is h = subst (AreGivenBy (more_args (value e) rest)) (passes_is _ ps h) (on_name e q is, more qs refl)
  value_given e rest (Passes qs) more ps None (Val v) is h = subst (AreGivenBy (more_args (value e) rest)) (passes_is _ ps h) (is, more qs refl)
  value_given e rest (Passes qs) more ps None (Traps k) is h = absurd (cc)
  value_given e rest (Breaks k) more ps (Some q) g is h = absurd (cc)
  value_given e rest (Breaks k) more ps None (Val v) is h = absurd (cc)
  value_given e rest (Breaks k) more ps None (Traps t) is h = absurd (cc)

  arg_given : (a : TArg) (rest : TArgs) (r : Given) → ((qs : List Passed) → r ≡ Passes qs → AreGivenBy rest qs) → (ps : List Passed) → arg_first env σ a r ≡ Passes ps →
      AreGivenBy (more_args a rest) ps
  arg_given (value e) rest r more ps h = value_given e rest r more ps (passed_on env e) (value_of env σ e) refl h
  arg_given (shared x) rest (Passes qs) more ps h = subst (AreGivenBy (more_args (shared x) rest)) (passes_is _ ps h) (refl, more qs refl)
  arg_given (mutable x) rest (Passes qs) more ps h = subst (AreGivenBy (more_args (mutable x) rest)) (passes_is _ ps h) (refl, more qs refl)
  arg_given (shared x) rest (Breaks k) more ps h = absurd (cc)
  arg_given (mutable x) rest (Breaks k) more ps h = absurd (cc)

  args_given : (args : TArgs) (ps : List Passed) → args_of env σ args ≡ Passes ps → AreGivenBy args ps
  args_given no_args [] h = tt
  args_given no_args (t ∷ ps) h = absurd (cc)
  args_given (more_args a rest) ps h = arg_given a rest (args_of env σ rest) (λ qs e. args_given rest qs e) ps h

  -- ---- forms

  abbrev HasForm : Passing → Passed → Type 0
  HasForm w (Copied v) = is_by_reference w ≡ false
  HasForm w (Lent q) = is_by_reference w ≡ true

  not_passed : (e : TExpr) → passed_on env e ≡ None → rule_passed p scope e ≡ None
  not_passed (variable x) h = by (binding_of env x).reference refl h
    where
      by : (b : Bool) → (binding_of env x).reference ≡ b → (if b then Some (place_of env x) else None) ≡ None → only_reference (variable_of p scope x) ≡ None
      by true e k = absurd (none-some _ (sym k))
      by false e k = only_none (variable_of p scope x) (sym (s.reference x) ∙ e)
  not_passed x h = refl

  copied_form : (w : Passing) (kind : ValueKind) (e : TExpr) → value_meets p scope w kind e ≡ true → passed_on env e ≡ None → is_by_reference w ≡ false
  copied_form passings.Value kind e m h = refl
  copied_form passings.Shared kind e m h = absurd (true≢false (sym m ∙ ap (has_kind kind) (not_passed e h)))
  copied_form passings.Mutable kind e m h =
      absurd (true≢false (sym (and_parts (origin_is is_mutable_param (rule_passed p scope e)) (has_kind kind (rule_passed p scope e)) m).1 ∙ ap (has_kind kind) (not_passed e h)))

  lent_form : (w : Passing) (kind : ValueKind) (x : Text) → value_meets p scope w kind (variable x) ≡ true → (binding_of env x).reference ≡ true → is_by_reference w ≡ true
  lent_form passings.Value kind x m r = absurd (true≢false (sym m ∙ ap (is_same (scalar_of kind)) (value_none (variable_of p scope x) (sym (s.reference x) ∙ r)) ∙ same_none kind))
  lent_form passings.Shared kind x m r = refl
  lent_form passings.Mutable kind x m r = refl

  shared_form : (w : Passing) (kind : ValueKind) (o : Option Var) → shared_meets w kind o ≡ true → is_by_reference w ≡ true
  shared_form passings.Shared kind o h = refl
  shared_form passings.Mutable kind o h = refl
  shared_form passings.Value kind o h = absurd (true≢false (sym h))

  mutable_form : (w : Passing) (kind : ValueKind) (o : Option Var) → mutable_meets w kind o ≡ true → is_by_reference w ≡ true
  mutable_form passings.Shared kind o h = refl
  mutable_form passings.Mutable kind o h = refl
  mutable_form passings.Value kind o h = absurd (true≢false (sym h))

  one_form : (q : Param) (a : TArg) (t : Passed) → arg_meets p scope q a ≡ true → IsGivenBy a t → HasForm q.passing t
  one_form q (value e) (Copied v) m g = copied_form q.passing q.kind e m g
  one_form q (value e) (Lent b) m g = lent_form q.passing q.kind g.0 (subst (λ d. value_meets p scope q.passing q.kind d ≡ true) g.1 m) g.2
  one_form q (shared x) (Lent b) m g = shared_form q.passing q.kind (variable_of p scope x) m
  one_form q (mutable x) (Lent b) m g = mutable_form q.passing q.kind (variable_of p scope x) m
  one_form q (shared x) (Copied v) m g = absurd g
  one_form q (mutable x) (Copied v) m g = absurd g

  formed_first : (q : Param) (qs : List Param) (t : Passed) (ps : List Passed) → HasForm q.passing t → AreFormed qs ps → AreFormed (q ∷ qs) (t ∷ ps)
  formed_first q qs (Copied v) ps f h = (f, h)
  formed_first q qs (Lent b) ps f h = (f, h)

  all_formed : (qs : List Param) (args : TArgs) (ps : List Passed) → length qs ≡ length (args_list args) → args_meet p scope qs args ≡ true → AreGivenBy args ps → AreFormed qs ps
  all_formed [] no_args [] n m g = tt
  all_formed (q ∷ qs) (more_args a rest) (t ∷ ps) n m g =
      formed_first q qs t ps (one_form q a t (and_parts (arg_meets p scope q a) (args_meet p scope qs rest) m).0 g.0)
      (all_formed qs rest ps (omega (arith, n)) (and_parts (arg_meets p scope q a) (args_meet p scope qs rest) m).1 g.1)
  all_formed [] (more_args a rest) ps n m g = absurd (omega (arith, n))
  all_formed (q ∷ qs) no_args ps n m g = absurd (omega (arith, n))
  all_formed [] no_args (t ∷ ps) n m g = absurd g
  all_formed (q ∷ qs) (more_args a rest) [] n m g = absurd g

  formed_many : (qs : List Param) (ps : List Passed) → AreFormed qs ps → length ps ≡ length qs
  formed_many [] [] h = refl
  formed_many (q ∷ qs) (Copied v ∷ ps) h = ap suc (formed_many qs ps h.1)
  formed_many (q ∷ qs) (Lent b ∷ ps) h = ap suc (formed_many qs ps h.1)
  formed_many [] (t ∷ ps) h = absurd h
  formed_many (q ∷ qs) [] h = absurd h

  formed_lent : (qs : List Param) (ps : List Passed) (i : ℕ) (q : Place) → AreFormed qs ps → lent_place ps i ≡ Some q → passing_at qs i ≡ Some passings.Value → ⊥
  formed_lent [] [] i q h e v = none-some q e
  formed_lent (r ∷ qs) (Copied w ∷ ps) zero q h e v = none-some q e
  formed_lent (r ∷ qs) (Copied w ∷ ps) (suc i) q h e v = formed_lent qs ps i q h.1 e v
  formed_lent (r ∷ qs) (Lent b ∷ ps) zero q h e v = true≢false (sym h.0 ∙ ap is_by_reference (same_Some r.passing passings.Value v))
  formed_lent (r ∷ qs) (Lent b ∷ ps) (suc i) q h e v = formed_lent qs ps i q h.1 e v
  formed_lent [] (t ∷ ps) i q h e v = h
  formed_lent (r ∷ qs) [] i q h e v = h

  -- ---- one that is lent

  record IsLentAt (u : ℕ) (qs : List Param) (args : TArgs) (i : ℕ) (q : Place) : Type 0 where
    param : Param
    arg : TArg
    passing : passing_at qs i ≡ Some param.passing
    nth : nth_arg args i ≡ Some arg
    given : IsGivenBy arg (Lent q)
    meets : arg_meets p scope param arg ≡ true
    lends : arg_lends p scope arg ≡ true
    known : arg_known p scope arg ≡ true
    hidden : arg_exposes p scope u arg ≡ false
    tests : (test : Text → Bool) → all_lent test qs args ≡ true → lent_is test param arg ≡ true

  lent_at : (u : ℕ) (qs : List Param) (args : TArgs) (ps : List Passed) (i : ℕ) (q : Place) → length qs ≡ length (args_list args) → args_meet p scope qs args ≡ true →
      list_all (arg_lends p scope) (args_list args) ≡ true → args_known p scope args ≡ true → list_any (arg_exposes p scope u) (args_list args) ≡ false → AreGivenBy args ps →
      lent_place ps i ≡ Some q → IsLentAt u qs args i q
  lent_at u [] no_args [] i q n m l k h g e = absurd (none-some q e)
  lent_at u (r ∷ qs) (more_args a rest) (Copied v ∷ ps) zero q n m l k h g e = absurd (none-some q e)
  lent_at u (r ∷ qs) (more_args a rest) (Lent b ∷ ps) zero q n m l k h g e = record {
    param = r;
    arg = a;
    passing = refl;
    nth = refl;
    given = subst (λ c. IsGivenBy a (Lent c)) (same_Some b q e) g.0;
    meets = (and_parts (arg_meets p scope r a) (args_meet p scope qs rest) m).0;
    lends = (and_parts (arg_lends p scope a) (list_all (arg_lends p scope) (args_list rest)) l).0;
    known = (and_parts (arg_known p scope a) (args_known p scope rest) k).0;
    hidden = first_fails (arg_exposes p scope u a) (list_any (arg_exposes p scope u) (args_list rest)) h;
    tests = λ test t. (and_parts (lent_is test r a) (all_lent test qs rest) t).0;
  }
  lent_at u (r ∷ qs) (more_args a rest) (t ∷ ps) (suc i) q n m l k h g e =
      let f = lent_at u qs rest ps i q (omega (arith, n)) (and_parts (arg_meets p scope r a) (args_meet p scope qs rest) m).1
      (and_parts (arg_lends p scope a) (list_all (arg_lends p scope) (args_list rest)) l).1
      (and_parts (arg_known p scope a) (args_known p scope rest) k).1 (second_fails (arg_exposes p scope u a) (list_any (arg_exposes p scope u) (args_list rest)) h) g.1 (later t ∙ e) in
      record {
        param = f.param;
        arg = f.arg;
        passing = f.passing;
        nth = f.nth;
        given = f.given;
        meets = f.meets;
        lends = f.lends;
        known = f.known;
        hidden = f.hidden;
        tests = λ test c. f.tests test (and_parts (lent_is test r a) (all_lent test qs rest) c).1;
      }
    where
      later : (t : Passed) → lent_place ps i ≡ lent_place (t ∷ ps) (suc i)
      later (Copied v) = refl
      later (Lent b) = refl
  lent_at u [] (more_args a rest) ps i q n m l k h g e = absurd (omega (arith, n))
  lent_at u (r ∷ qs) no_args ps i q n m l k h g e = absurd (omega (arith, n))
  lent_at u [] no_args (t ∷ ps) i q n m l k h g e = absurd g
  lent_at u (r ∷ qs) (more_args a rest) [] i q n m l k h g e = absurd g

  -- its name
  lent_name : (a : TArg) (q : Place) → IsGivenBy a (Lent q) → arg_known p scope a ≡ true → (x : Text) × (handed a ≡ Some x) × (q ≡ place_of env x) × (is_variable p scope x ≡ true)
  lent_name (value e) q g k = (g.0, ap (λ d. handed (value d)) g.1, g.3, ap (λ d. arg_known p scope (value d)) (sym g.1) ∙ k)
  lent_name (shared x) q g k = (x, refl, g, k)
  lent_name (mutable x) q g k = (x, refl, g, k)

  there_so : (x : Text) → is_variable p scope x ≡ true → (q : Place) → place_of env x ≡ q → IsThere p σ q
  there_so x k (Local l) e = s.local x l e
  there_so x k (Global i) e = slice_get_within p.names.nvs i x (s.stored x i e).0
  there_so x k (Turn z) e = tt
  there_so x k Nowhere e = s.found x k e

  not_turn : (param : Param) (a : TArg) (q : Place) (z : ℤ) → IsGivenBy a (Lent q) → arg_meets p scope param a ≡ true → arg_lends p scope a ≡ true → param.passing ≡ passings.Mutable → q ≡ Turn z → ⊥
  not_turn param (value e) q z g m l w t =
      let in_turn = s.turn g.0 z (sym g.3 ∙ t) in
      let meets : value_meets p scope passings.Mutable param.kind (variable g.0) ≡ true =
      subst (λ d. value_meets p scope passings.Mutable param.kind d ≡ true) g.1 (subst (λ c. value_meets p scope c param.kind e ≡ true) w m) in
      let first = (and_parts (origin_is is_mutable_param (rule_passed p scope (variable g.0))) (has_kind param.kind (rule_passed p scope (variable g.0))) meets).0 in
      true≢false (sym first ∙ ap (λ o. origin_is is_mutable_param (only_reference (or_nv p g.0 o))) in_turn)
  not_turn param (shared x) q z g m l w t = true≢false (sym m ∙ ap (λ c. shared_meets c param.kind (variable_of p scope x)) w)
  not_turn param (mutable x) q z g m l w t = true≢false (sym l ∙ ap (λ o. origin_is is_writable (or_nv p x o)) (s.turn x z (sym g ∙ t)))

  stored_so : (u : ℕ) (x : Text) (k : ℕ) (y : Text) → is_variable p scope x ≡ true → place_of env x ≡ Global k → passes_nv p scope x && reaches_mention p.functions x u ≡ false → nv_name p k ≡ Some y →
      reaches_mention p.functions y u ≡ false
  stored_so u x k y known e h n =
      let st = s.stored x k e in
      let is : passes_nv p scope x ≡ true = ap (λ o. origin_is is_nv (or_nv p x o)) st.1 ∙ nv_is_nv _ (ap (λ o. is_some (or_nv p x o)) (sym st.1) ∙ known) in
      let same : x ≡ y = same_Some x y (sym st.0 ∙ n) in
      ap (λ c. reaches_mention p.functions c u) (sym same) ∙ ap (λ b. b && reaches_mention p.functions x u) (sym is) ∙ h

  not_named : (u : ℕ) (a : TArg) (q : Place) (k : ℕ) (y : Text) → IsGivenBy a (Lent q) → arg_known p scope a ≡ true → arg_exposes p scope u a ≡ false → q ≡ Global k → nv_name p k ≡ Some y →
      reaches_mention p.functions y u ≡ false
  not_named u (value e) q k y g known h t n =
      let st = s.stored g.0 k (sym g.3 ∙ t) in
      absurd (true≢false (sym g.2 ∙ s.reference g.0 ∙ ap (λ o. origin_is is_reference (or_nv p g.0 o)) st.1 ∙ nv_no_reference _))
  not_named u (shared x) q k y g known h t n = stored_so u x k y known (sym g ∙ t) h n
  not_named u (mutable x) q k y g known h t n = stored_so u x k y known (sym g ∙ t) h n

  -- what is lent by `&mut` passes a test of all such names
  tested : (test : Text → Bool) (param : Param) (a : TArg) (q : Place) (x : Text) → IsGivenBy a (Lent q) → arg_meets p scope param a ≡ true → param.passing ≡ passings.Mutable →
      lent_is test param a ≡ true → handed a ≡ Some x → test x ≡ true
  tested test param (value e) q x g m w h k =
      let name : g.0 ≡ x = same_Some g.0 x (sym (ap (λ d. handed (value d)) g.1) ∙ k) in
      ap test (sym name) ∙ sym (ap (value_lent_is test passings.Mutable) g.1) ∙ sym (ap (λ c. value_lent_is test c e) w) ∙ h
  tested test param (shared z) q x g m w h k = absurd (true≢false (sym m ∙ ap (λ c. shared_meets c param.kind (variable_of p scope z)) w))
  tested test param (mutable z) q x g m w h k = ap test (sym (same_Some z x k)) ∙ h

  cell_place : (q : Place) → IsThere p σ q → ((z : ℤ) → q ≡ Turn z → ⊥) → IsVariablePlace q
  cell_place (Local l) t n = tt
  cell_place (Global k) t n = tt
  cell_place (Turn z) t n = absurd (n z refl)
  cell_place Nowhere t n = absurd t

  same_index : (args : TArgs) (i j : ℕ) (a b : TArg) (x : Text) → args_mentions x args ≡ 1 → nth_arg args i ≡ Some a → nth_arg args j ≡ Some b → handed a ≡ Some x → handed b ≡ Some x → i ≡ j
  same_index args i j a b x one e f h k = by (nat_lt i j) (nat_lt j i) refl refl
    where
      by : (c d : Bool) → nat_lt i j ≡ c → nat_lt j i ≡ d → i ≡ j
      by true d l m = let two = mention_two args i j a b x (grind (arith, l)) e f h k in absurd (omega (arith, two, one))
      by false true l m = let two = mention_two args j i b a x (grind (arith, m)) f e k h in absurd (omega (arith, two, one))
      by false false l m = let first : j ≤ i = grind (arith, l) in let second : i ≤ j = grind (arith, m) in omega (arith, first, second)

  module _ (f : Text) (args : TArgs) (ruled : IsRuledCall p scope (call f args)) (u : ℕ) (g : TFunction) (at_name : function_place p.functions f ≡ Some u) (stands : slice_get p.functions u ≡ Some g)
      (ps : List Passed) (given : AreGivenBy args ps) where
    params : callee_params p (call f args) ≡ g.params
    params = let found = found_named p f u at_name in ap params_of (found.ruled ∙ sym found.stands ∙ stands)

    meets : (length g.params == length (args_list args)) && args_meet p scope g.params args ≡ true
    meets = subst (λ qs. (length qs == length (args_list args)) && args_meet p scope qs args ≡ true) params ruled.meets

    many : length g.params ≡ length (args_list args)
    many = eqb-true _ _ (and_parts (length g.params == length (args_list args)) (args_meet p scope g.params args) meets).0

    each : args_meet p scope g.params args ≡ true
    each = (and_parts (length g.params == length (args_list args)) (args_meet p scope g.params args) meets).1

    formed : AreFormed g.params ps
    formed = all_formed g.params args ps many each given

    known : args_known p scope args ≡ true
    known = (and_parts (is_some (function_place p.functions f)) (args_known p scope args) ruled.known).1

    hidden : list_any (arg_exposes p scope u) (args_list args) ≡ false
    hidden = ap (at_place (λ w. list_any (arg_exposes p scope w) (args_list args))) (sym at_name) ∙ ruled.hidden

    once_named : (x : Text) → (call_mentions x (call f args) == 1) ≡ (args_mentions x args == 1)
    once_named x = ap (λ n. n == 1) (mentions_of_call x (call f args))

    alone : all_lent (λ x. args_mentions x args == 1) g.params args ≡ true
    alone =
        sym (all_lent_same (λ x. call_mentions x (call f args) == 1) (λ x. args_mentions x args == 1) once_named g.params args)
        ∙ subst (λ qs. all_lent (λ x. call_mentions x (call f args) == 1) qs args ≡ true) params ruled.alone

    lent : (i : ℕ) (q : Place) → lent_place ps i ≡ Some q → IsLentAt u g.params args i q
    lent i q e = lent_at u g.params args ps i q many each ruled.lends known hidden given e

    is_there : (i : ℕ) (q : Place) → lent_place ps i ≡ Some q → IsThere p σ q
    is_there i q e =
        let l = lent i q e in
        let n = lent_name l.arg q l.given l.known in
        subst (IsThere p σ) (sym n.2) (there_so n.0 n.3 (place_of env n.0) refl)

    is_fixed : (i : ℕ) (q : Place) (z : ℤ) → passing_at g.params i ≡ Some passings.Mutable → lent_place ps i ≡ Some q → q ≡ Turn z → ⊥
    is_fixed i q z w e t =
        let l = lent i q e in
        not_turn l.param l.arg q z l.given l.meets l.lends (same_Some _ _ (sym l.passing ∙ w)) t

    pub may_pass : MayPass p u g ps σ
    may_pass = record {
      as_many = formed_many g.params ps formed;
      form = λ i q e v. formed_lent g.params ps i q formed e v;
      there = is_there;
      once = λ i j q w e h.
          let l = lent i q e in
          let m = lent j q h in
          let x = lent_name l.arg q l.given l.known in
          let y = lent_name m.arg q m.given m.known in
          let same : x.0 ≡ y.0 = s.apart x.0 y.0 (subst IsVariablePlace x.2 (cell_place q (is_there i q e) (λ z t. is_fixed i q z w e t))) (sym x.2 ∙ y.2) in
          let one : (args_mentions x.0 args == 1) ≡ true =
          tested (λ c. args_mentions c args == 1) l.param l.arg q x.0 l.given l.meets (same_Some _ _ (sym l.passing ∙ w)) (l.tests (λ c. args_mentions c args == 1) alone) x.1 in
          same_index args i j l.arg m.arg x.0 (eqb-true _ _ one) l.nth m.nth x.1 (y.1 ∙ ap Some (sym same));
      fixed = λ i z w e. is_fixed i (Turn z) z w e refl;
      unnamed = λ i k x e n.
          let l = lent i (Global k) e in
          not_named u l.arg (Global k) k x l.given l.known l.hidden refl n;
    }

    pub formed_so : AreFormed g.params ps
    formed_so = formed

pub calls_may_pass : CallsMayPass
calls_may_pass p scope env σ s f args ruled u g at_name stands ps e = (
  may_pass p scope env σ s f args ruled u g at_name stands ps (args_given p scope env σ s args ps e),
  formed_so p scope env σ s f args ruled u g at_name stands ps
      (args_given p scope env σ s args ps e),
)
