-- Arguments that meet their parameters have the forms in which the code passes them.
use Rattle.std.proofs.Common.{◌≡◌, ◌≤◌, ℕ, Bool, true, false, true≢false, List, [], ◌∷◌, length, Option, Some, None, cond, refl, ap, sym, ◌∙◌, arith}
use Rattle.std.specs.Prelude.{is_some, nat_lt}
use Rattle.std.specs.List.{list_all, list_any}
use Rattle.std.proofs.lemmas.Bool.{eqb-true, ltb-false, and_parts}
use Rattle.std.proofs.lemmas.Option.{none-some, same_Some}
use Rattle.oc_tree.specs.Names.{Text}
use Rattle.oc_tree.specs.Tree.{TExpr, number, truth, variable, index, deref, unary, binary, sensed, called, TArg, value, shared, mutable, TArgs, no_args, more_args, TProgram}
use Rattle.oc_tree.specs.declared.tree.Scalar.{Scalar}
use Rattle.oc_tree.specs.declared.tree.Scalar.TheVariants as scalars
use Rattle.oc_tree.specs.declared.tree.ValueKind.{ValueKind}
use Rattle.oc_tree.specs.declared.tree.ValueKind.TheVariants as kinds
use Rattle.oc_tree.specs.declared.tree.Param.{Param}
use Rattle.oc_tree.specs.declared.tree.Passing.{Passing}
use Rattle.oc_tree.specs.declared.tree.Passing.TheVariants as passings
use Rattle.oc_tree.specs.declared.scope.Origin.{Origin}
use Rattle.oc_tree.specs.declared.scope.Var.{Var}
use Rattle.oc_tree.specs.Scope.{Scope, variable_of}
use Rattle.oc_tree.specs.Types.{is_reference, scalar_of, is_same, is_same_kind, value_type, type_of}
use Rattle.oc_tree.specs.Rules.{only_reference, passed_on, has_kind, origin_is, is_mutable_param, is_writable, value_meets, shared_meets, mutable_meets, arg_meets, args_meet}
use Rattle.oc_tree.specs.Rules.{args_list, is_bad_length, has_bad_length, arg_lends}
use Rattle.oc_code.specs.Scope.{Named, named, slot_of, address_slot, passed_slot, kind_words}
use Rattle.oc_code.specs.Formed.{IsLent, NamesLent, NamesWritable, IsPassed, ArePassed}
use Rattle.oc_checked.proofs.BodiesPass.{first_fails, second_fails}
use Rattle.oc_formed.proofs.ScopesSeen.{AllFound, code_writes, writes_own, writes_through}

-- ---- kinds and types

-- a length that isn't bad is at least one word
long_enough : (n : ℕ) → is_bad_length n ≡ false → 1 ≤ n
long_enough n h = ltb-false n 1 (first_fails (nat_lt n 1) (nat_lt 65536 n) h)

-- what isn't too short has a word
pub some_words : (kind : ValueKind) → has_bad_length kind ≡ false → 1 ≤ kind_words kind
some_words kinds.Int h = omega arith
some_words kinds.Bool h = omega arith
some_words (kinds.Array n) h = long_enough n h

-- the same kinds have as many words
same_words : (a b : ValueKind) → is_same_kind a b ≡ true → kind_words a ≡ kind_words b
same_words kinds.Int kinds.Int h = refl
same_words kinds.Int kinds.Bool h = absurd (true≢false (sym h))
same_words kinds.Int (kinds.Array n) h = absurd (true≢false (sym h))
same_words kinds.Bool kinds.Int h = absurd (true≢false (sym h))
same_words kinds.Bool kinds.Bool h = refl
same_words kinds.Bool (kinds.Array n) h = absurd (true≢false (sym h))
same_words (kinds.Array m) kinds.Int h = absurd (true≢false (sym h))
same_words (kinds.Array m) kinds.Bool h = absurd (true≢false (sym h))
same_words (kinds.Array m) (kinds.Array n) h = eqb-true m n h

-- what has a type is one word
scalar_words : (kind : ValueKind) (t : Option Scalar) → is_same (scalar_of kind) t ≡ true → kind_words kind ≡ 1
scalar_words kinds.Int t h = refl
scalar_words kinds.Bool t h = refl
scalar_words (kinds.Array n) t h = absurd (true≢false (sym h))

-- both types are there
pub same_left : (a b : Option Scalar) → is_same a b ≡ true → is_some a ≡ true
same_left None b h = h
same_left (Some a) b h = refl

pub same_right : (a b : Option Scalar) → is_same a b ≡ true → is_some b ≡ true
same_right None b h = absurd (true≢false (sym h))
same_right (Some scalars.Int) None h = h
same_right (Some scalars.Bool) None h = h
same_right (Some scalars.Int) (Some t) h = refl
same_right (Some scalars.Bool) (Some t) h = refl

-- ---- variables that pass a test

-- a variable that is there and passes a test
abbrev pub Meets : (Var → Bool) → Option Var → Type 0
Meets test o = (v : Var) × (o ≡ Some v) × (test v ≡ true)

-- a variable of that kind is there
pub kind_there : (kind : ValueKind) (o : Option Var) → has_kind kind o ≡ true → Meets (λ v. is_same_kind v.kind kind) o
kind_there kind None h = absurd (true≢false (sym h))
kind_there kind (Some v) h = (v, refl, h)

-- a variable of such an origin is there
pub origin_there : (test : Origin → Bool) (o : Option Var) → origin_is test o ≡ true → Meets (λ v. test v.origin) o
origin_there test None h = absurd (true≢false (sym h))
origin_there test (Some v) h = (v, refl, h)

-- a reference that is there is the variable
reference_there : (o : Option Var) (v : Var) → only_reference o ≡ Some v → (o ≡ Some v) × (is_reference v.origin ≡ true)
reference_there None v h = absurd (none-some v h)
reference_there (Some w) v h = by (is_reference w.origin) refl h
  where
    by : (b : Bool) → is_reference w.origin ≡ b → cond b (Some w) None ≡ Some v → (Some w ≡ Some v) × (is_reference v.origin ≡ true)
    by true is e = (e, ap (λ u. is_reference u.origin) (sym (same_Some w v e)) ∙ is)
    by false is e = absurd (none-some v e)

-- what has a value is there and is no reference
value_there : (o : Option Var) → is_some (value_type o) ≡ true → Meets (λ v. cond (is_reference v.origin) false true) o
value_there None h = absurd (true≢false (sym h))
value_there (Some v) h = (v, refl, by (is_reference v.origin) h)
  where
    by : (b : Bool) → is_some (cond b None (scalar_of v.kind)) ≡ true → cond b false true ≡ true
    by true e = e
    by false e = refl

-- what is no reference has no address
no_address : (o : Option ℕ) (b : Bool) → is_some o ≡ b → cond b false true ≡ true → o ≡ None
no_address None b e h = refl
no_address (Some s) true e h = absurd (true≢false (sym h))
no_address (Some s) false e h = absurd (true≢false e)

module _ (p : TProgram) (scope : Scope) (γ : List Named) (all : AllFound p scope γ) where
  -- what has a value is found by no address
  pub own_value : (x : Text) → is_some (value_type (variable_of p scope x)) ≡ true → address_slot (slot_of γ x) ≡ None
  own_value x h =
      let there = value_there (variable_of p scope x) h in
      no_address (address_slot (slot_of γ x)) (is_reference there.0.origin) (all x there.0 there.1).reference there.2

  -- what may be written by a rule is writable
  pub rule_writes : (test : Origin → Bool) → ((o : Origin) → test o ≡ true → code_writes o ≡ true) → (x : Text) → origin_is test (variable_of p scope x) ≡ true → (named γ x).writable ≡ true
  rule_writes test writes x h =
      let there = origin_there test (variable_of p scope x) h in
      (all x there.0 there.1).writable ∙ writes there.0.origin there.2

  -- ---- arguments

  -- a variable of the parameter's kind has its words
  lent : (kind : ValueKind) (x : Text) → 1 ≤ kind_words kind → has_kind kind (variable_of p scope x) ≡ true → IsLent (named γ x) (kind_words kind)
  lent kind x l h =
      let there = kind_there kind (variable_of p scope x) h in
      (l, (all x there.0 there.1).words ∙ same_words there.0.kind kind there.2)

  -- an expression with a type passes no reference on
  none_passed : (e : TExpr) → is_some (type_of p scope e) ≡ true → passed_slot γ e ≡ None
  none_passed (variable x) h = own_value x h
  none_passed x h = refl

  -- a reference that is passed on
  lent_on : (kind : ValueKind) (x : Text) (o : Option Var) → 1 ≤ kind_words kind → only_reference (variable_of p scope x) ≡ o → has_kind kind o ≡ true → NamesLent γ (variable x) (kind_words kind)
  lent_on kind x o l is h =
      let there = kind_there kind o h in
      let found = reference_there (variable_of p scope x) there.0 (is ∙ there.1) in
      let finds = all x there.0 found.0 in
      ((l, finds.words ∙ same_words there.0.kind kind there.2), finds.reference ∙ found.1)

  -- a reference by `&mut` that is passed on is writable
  writes_on : (x : Text) (o : Option Var) → only_reference (variable_of p scope x) ≡ o → origin_is is_mutable_param o ≡ true → NamesWritable γ (variable x)
  writes_on x o is h =
      let there = origin_there is_mutable_param o h in
      let found = reference_there (variable_of p scope x) there.0 (is ∙ there.1) in
      (all x there.0 found.0).writable ∙ writes_through there.0.origin there.2

  -- an expression for a parameter by reference is such a name
  passed_shared : (kind : ValueKind) (e : TExpr) → 1 ≤ kind_words kind → has_kind kind (passed_on p scope e) ≡ true → NamesLent γ e (kind_words kind)
  passed_shared kind (variable x) l h = lent_on kind x (only_reference (variable_of p scope x)) l refl h
  passed_shared kind x l h = absurd (true≢false (sym h))

  -- one for a parameter by `&mut` is writable
  passed_writable : (e : TExpr) → origin_is is_mutable_param (passed_on p scope e) ≡ true → NamesWritable γ e
  passed_writable (variable x) h = writes_on x (only_reference (variable_of p scope x)) refl h
  passed_writable x h = absurd (true≢false (sym h))

  -- an argument that is an expression has its parameter's form
  value_passed : (passing : Passing) (kind : ValueKind) (e : TExpr) → 1 ≤ kind_words kind → value_meets p scope passing kind e ≡ true → IsPassed γ passing (kind_words kind) (value e)
  value_passed passings.Value kind e l h = (scalar_words kind (type_of p scope e) h, none_passed e (same_right (scalar_of kind) (type_of p scope e) h))
  value_passed passings.Shared kind e l h = passed_shared kind e l h
  value_passed passings.Mutable kind e l h =
      let writes = (and_parts (origin_is is_mutable_param (passed_on p scope e)) (has_kind kind (passed_on p scope e)) h).0 in
      let kept = (and_parts (origin_is is_mutable_param (passed_on p scope e)) (has_kind kind (passed_on p scope e)) h).1 in
      (passed_shared kind e l kept, passed_writable e writes)

  -- so has an argument `&x`
  shared_passed : (passing : Passing) (kind : ValueKind) (x : Text) → 1 ≤ kind_words kind → shared_meets passing kind (variable_of p scope x) ≡ true → IsPassed γ passing (kind_words kind) (shared x)
  shared_passed passings.Value kind x l h = absurd (true≢false (sym h))
  shared_passed passings.Shared kind x l h = lent kind x l h
  shared_passed passings.Mutable kind x l h = absurd (true≢false (sym h))

  -- and an argument `&mut x`
  mutable_passed : (passing : Passing) (kind : ValueKind) (x : Text) → 1 ≤ kind_words kind → mutable_meets passing kind (variable_of p scope x) ≡ true
      → origin_is is_writable (variable_of p scope x) ≡ true → IsPassed γ passing (kind_words kind) (mutable x)
  mutable_passed passings.Value kind x l h w = absurd (true≢false (sym h))
  mutable_passed passings.Shared kind x l h w = absurd (true≢false (sym h))
  mutable_passed passings.Mutable kind x l h w = (lent kind x l h, rule_writes is_writable writes_own x w)

  -- each argument has its parameter's form
  one_passed : (q : Param) (a : TArg) → 1 ≤ kind_words q.kind → arg_meets p scope q a ≡ true → arg_lends p scope a ≡ true → IsPassed γ q.passing (kind_words q.kind) a
  one_passed q (value e) l h w = value_passed q.passing q.kind e l h
  one_passed q (shared x) l h w = shared_passed q.passing q.kind x l h
  one_passed q (mutable x) l h w = mutable_passed q.passing q.kind x l h w

  -- as many arguments as parameters, each of its form
  pub all_passed : (qs : List Param) (args : TArgs) → list_any (λ q. has_bad_length q.kind) qs ≡ false → length qs ≡ length (args_list args) → args_meet p scope qs args ≡ true
      → list_all (arg_lends p scope) (args_list args) ≡ true → ArePassed γ qs args
  all_passed [] no_args long e h w = tt
  all_passed [] (more_args a rest) long e h w = absurd (omega (arith, e))
  all_passed (q ∷ qs) no_args long e h w = absurd (omega (arith, e))
  all_passed (q ∷ qs) (more_args a rest) long e h w =
      let l = some_words q.kind (first_fails (has_bad_length q.kind) (list_any (λ r. has_bad_length r.kind) qs) long) in
      let one = one_passed q a l (and_parts (arg_meets p scope q a) (args_meet p scope qs rest) h).0 (and_parts (arg_lends p scope a) (list_all (arg_lends p scope) (args_list rest)) w).0 in
      let more = all_passed qs rest (second_fails (has_bad_length q.kind) (list_any (λ r. has_bad_length r.kind) qs) long) (omega (arith, e))
      (and_parts (arg_meets p scope q a) (args_meet p scope qs rest) h).1 (and_parts (arg_lends p scope a) (list_all (arg_lends p scope) (args_list rest)) w).1 in
      (one, more)
