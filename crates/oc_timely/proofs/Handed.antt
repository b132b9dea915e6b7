-- What a call hands on is held where what stands for it is.
use Rattle.std.proofs.Common.{◌≡◌, inl, ℕ, zero, suc, ◌+◌, ◌<◌, Bool, true, false, ◌==◌, List, [], ◌∷◌, length, Option, Some, None, refl, sym, ap, ◌∙◌, subst, arith}
use Rattle.std.specs.Prelude.{if◌then◌else◌, unwrap_or}
use Rattle.std.proofs.Math.ListN.{get_or}
use Rattle.oc_tree.specs.Names.{Text}
use Rattle.oc_tree.specs.Tree.{TExpr, variable, TArg, value, shared, mutable, TArgs, no_args, more_args, TProgram}
use Rattle.oc_tree.specs.declared.tree.Param.{Param}
use Rattle.oc_tree.specs.declared.tree.VarId.{VarId}
use Rattle.oc_tree.specs.Places.{Placed}
use Rattle.oc_tree.specs.Named.{expr_names, arg_names}
use Rattle.oc_meaning.specs.Store.{Held, Place, Store, Binding, at, nothing, holding, held_at, binding_of, place_of}
use Rattle.oc_meaning.specs.Eval.{Got, Val, Traps, value_of}
use Rattle.oc_meaning.specs.Exec.{Passed, Copied, Lent, Passing, Passes, Breaks, passed_first, value_first, passed_on, arg_first, args_of}
use Rattle.oc_meaning.specs.Run.{Frame}
use Rattle.oc_effects.specs.Effects.{variable_at, variables_at, all_passed}
use Rattle.oc_flow.specs.Variables.{is_among, nothing_passed}
use Rattle.oc_tree.specs.Members.{IsOf}
use Rattle.oc_copies.specs.Copies.{own_param, own_params}
use Rattle.oc_timely.specs.Within.{Where, place_in, samples_of}
use Rattle.oc_copies.proofs.Cells.{at_past}
use Rattle.oc_timely.proofs.Sampled.{got_samples, value_from}
use Rattle.oc_timely.proofs.Sources.{named_among}

-- the samples of what is passed for a parameter
abbrev pub passed_samples : Store → List Passed → ℕ → List ℕ
passed_samples σ [] k = []
passed_samples σ (Copied v ∷ ps) zero = v.samples
passed_samples σ (Lent q ∷ ps) zero = (held_at σ q).samples
passed_samples σ (s ∷ ps) (suc k) = passed_samples σ ps k

at_now : (xs : List Held) (x : Held) (n : ℕ) → n ≡ length xs → at (x ∷ xs) n ≡ Some x
at_now xs x n e = by (n == length xs) refl
  where
    by : (b : Bool) → (n == length xs) ≡ b → (if b then Some x else at xs n) ≡ Some x
    by true q = refl
    by false q = absurd (grind (arith, e, q))

at_older : (xs : List Held) (x : Held) (n : ℕ) → n < length xs → at (x ∷ xs) n ≡ at xs n
at_older xs x n h = by (n == length xs) refl
  where
    by : (b : Bool) → (n == length xs) ≡ b → (if b then Some x else at xs n) ≡ at xs n
    by false q = refl
    by true q = let e : n ≡ length xs = grind (arith, q) in absurd (omega (arith, e, h))

pub own_older : (σ : Store) (qs : List Param) (ps : List Passed) (fr : Frame) (l : ℕ) → l < length fr.locals → at (own_params σ qs ps fr).locals l ≡ at fr.locals l
own_older σ [] ps fr l h = refl
own_older σ (q ∷ qs) [] fr l h = refl
own_older σ (q ∷ qs) (Copied v ∷ ps) fr l h = own_older σ qs ps (own_param σ q.name (Copied v) fr) l (omega (arith, h)) ∙ at_older fr.locals (holding v) l h
own_older σ (q ∷ qs) (Lent a ∷ ps) fr l h = own_older σ qs ps (own_param σ q.name (Lent a) fr) l (omega (arith, h)) ∙ at_older fr.locals (held_at σ a) l h

nothing_there : (o : Option Held) (j : ℕ) → o ≡ None → IsOf j (unwrap_or o nothing).samples → ⊥
nothing_there o j e h = subst (λ o. IsOf j (unwrap_or o nothing).samples) e h

some_there : (o : Option Held) (x : Held) (j : ℕ) → o ≡ Some x → IsOf j (unwrap_or o nothing).samples → IsOf j x.samples
some_there o x j e h = subst (λ o. IsOf j (unwrap_or o nothing).samples) e h

-- a parameter's own variable holds what was passed
pub own_held : (σ : Store) (qs : List Param) (ps : List Passed) (fr : Frame) (k l j : ℕ) → l ≡ length fr.locals + k → IsOf j (unwrap_or (at (own_params σ qs ps fr).locals l) nothing).samples →
    IsOf j (passed_samples σ ps k)
own_held σ [] ps fr k l j e h = absurd (nothing_there (at fr.locals l) j (at_past fr.locals l (omega (arith, e))) h)
own_held σ (q ∷ qs) [] fr k l j e h = absurd (nothing_there (at fr.locals l) j (at_past fr.locals l (omega (arith, e))) h)
own_held σ (q ∷ qs) (Copied v ∷ ps) fr zero l j e h =
    some_there _ (holding v) j (own_older σ qs ps (own_param σ q.name (Copied v) fr) l (omega (arith, e)) ∙ at_now fr.locals (holding v) l (omega (arith, e))) h
own_held σ (q ∷ qs) (Lent a ∷ ps) fr zero l j e h =
    some_there _ (held_at σ a) j (own_older σ qs ps (own_param σ q.name (Lent a) fr) l (omega (arith, e)) ∙ at_now fr.locals (held_at σ a) l (omega (arith, e))) h
own_held σ (q ∷ qs) (Copied v ∷ ps) fr (suc k) l j e h = own_held σ qs ps (own_param σ q.name (Copied v) fr) k l j (omega (arith, e)) h
own_held σ (q ∷ qs) (Lent a ∷ ps) fr (suc k) l j e h = own_held σ qs ps (own_param σ q.name (Lent a) fr) k l j (omega (arith, e)) h

module _ (env : List Binding) (σ : Store) where
  abbrev FromName : List Text → ℕ → Type 0
  FromName xs j = (x : Text) × IsOf x xs × IsOf j (held_at σ (place_of env x)).samples

  passed_on_name : (e : TExpr) (q : Place) → passed_on env e ≡ Some q → (x : Text) × IsOf x (expr_names e) × (q ≡ place_of env x)
  passed_on_name (variable x) q h = by (binding_of env x).reference h
    where
      by : (b : Bool) → (if b then Some (place_of env x) else None) ≡ Some q → (y : Text) × IsOf y (x ∷ []) × (q ≡ place_of env y)
      by true e = (x, inl refl, cc e)
      by false e = absurd (cc e)
  passed_on_name e q h = absurd (cc h)

  -- the first of what is passed, and the rest
  record First (a : TArg) (r : Passing) (ps : List Passed) : Type 0 where
    one : Passed
    others : List Passed
    rest : r ≡ Passes others
    all : ps ≡ one ∷ others
    from : (j : ℕ) → IsOf j (passed_samples σ (one ∷ []) 0) → FromName (arg_names a) j

  first_is : (a : TArg) (s : Passed) (r : Passing) (ps : List Passed) → passed_first s r ≡ Passes ps → ((j : ℕ) → IsOf j (passed_samples σ (s ∷ []) 0) → FromName (arg_names a) j) → First a r ps
  first_is a s (Passes rs) ps e f = record { one = s; others = rs; rest = refl; all = cc e; from = f }
  first_is a s (Breaks k) ps e f = absurd (cc e)

  value_is : (e : TExpr) (o : Option Place) (g : Got) (r : Passing) (ps : List Passed) → passed_on env e ≡ o → value_of env σ e ≡ g → value_first o g r ≡ Passes ps → First (value e) r ps
  value_is e (Some q) g r ps n v h = first_is (value e) (Lent q) r ps h (λ j i. let x = passed_on_name e q n in (x.0, x.1, subst (λ z. IsOf j (held_at σ z).samples) x.2 i))
  value_is e None (Val z) r ps n v h = first_is (value e) (Copied z) r ps h (λ j i. value_from env σ j e (subst (λ g. IsOf j (got_samples g)) (sym v) i))
  value_is e None (Traps k) r ps n v h = absurd (cc h)

  first_of : (a : TArg) (r : Passing) (ps : List Passed) → arg_first env σ a r ≡ Passes ps → First a r ps
  first_of (value e) r ps h = value_is e (passed_on env e) (value_of env σ e) r ps refl refl h
  first_of (shared x) r ps h = first_is (shared x) (Lent (place_of env x)) r ps h (λ j i. (x, inl refl, i))
  first_of (mutable x) r ps h = first_is (mutable x) (Lent (place_of env x)) r ps h (λ j i. (x, inl refl, i))

cons_is : (a b : Passed) (xs ys : List Passed) → ◌≡◌ {A = List Passed} (a ∷ xs) (b ∷ ys) → (a ≡ b) × (xs ≡ ys)
cons_is a b xs ys e = (cc e, cc e)

zero_of : (σ : Store) (s : Passed) (ps : List Passed) (j : ℕ) → IsOf j (passed_samples σ (s ∷ ps) zero) → IsOf j (passed_samples σ (s ∷ []) 0)
zero_of σ (Copied v) ps j h = h
zero_of σ (Lent q) ps j h = h

suc_of : (σ : Store) (s : Passed) (ps : List Passed) (k j : ℕ) → IsOf j (passed_samples σ (s ∷ ps) (suc k)) → IsOf j (passed_samples σ ps k)
suc_of σ (Copied v) ps k j h = h
suc_of σ (Lent q) ps k j h = h

module _ (p : TProgram) (b : Placed) (env : List Binding) (w : Where) (σ : Store) (named : (x : Text) → place_of env x ≡ place_in w (variable_at p b x)) where
  -- the caller's variables that an argument names hold the samples of what is passed
  abbrev pub Names : List VarId → ℕ → Type 0
  Names vs j = (u : VarId) × (is_among u vs ≡ true) × IsOf j (samples_of σ w u)

  of_name : (xs : List Text) (j : ℕ) → FromName env σ xs j → Names (variables_at p b xs) j
  of_name xs j f = by (variable_at p b f.0) refl (subst (λ q. IsOf j (held_at σ q).samples) (named f.0) f.2)
    where
      by : (o : Option VarId) → variable_at p b f.0 ≡ o → IsOf j (held_at σ (place_in w o)).samples → Names (variables_at p b xs) j
      by None e h = absurd h
      by (Some u) e h = (u, named_among p b f.0 u xs f.1 e, h)

  pub arg_named : (args : TArgs) (qs : List Param) (ps : List Passed) (k j : ℕ) → args_of env σ args ≡ Passes ps → length ps ≡ length qs → IsOf j (passed_samples σ ps k) →
      Names (get_or (all_passed p b qs args) k nothing_passed).named j
  arg_named no_args qs [] k j e l h = absurd h
  arg_named no_args qs (s ∷ ps) k j e l h = absurd (cc e)
  arg_named (more_args a rest) qs [] k j e l h = absurd h
  arg_named (more_args a rest) [] (s ∷ ps) k j e l h = absurd (omega (arith, l))
  arg_named (more_args a rest) (q ∷ qs) (s ∷ ps) zero j e l h =
      let f = first_of env σ a (args_of env σ rest) (s ∷ ps) e in
      of_name (arg_names a) j (f.from j (subst (λ z. IsOf j (passed_samples σ (z ∷ []) 0)) (cons_is s f.one ps f.others f.all).0 (zero_of σ s ps j h)))
  arg_named (more_args a rest) (q ∷ qs) (s ∷ ps) (suc k) j e l h =
      let f = first_of env σ a (args_of env σ rest) (s ∷ ps) e in
      arg_named rest qs ps k j (f.rest ∙ ap Passes (sym (cons_is s f.one ps f.others f.all).1)) (omega (arith, l)) (suc_of σ s ps k j h)
