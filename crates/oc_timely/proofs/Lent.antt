-- What is copied back behind a call was lent by a name of its arguments.
use Rattle.std.proofs.Common.{◌≡◌, ◌⊎◌, inl, inr, ℕ, zero, suc, ◌+◌, Bool, true, false, true≢false, List, [], ◌∷◌, Option, Some, None, cond, refl, sym, ap, ◌∙◌, subst, arith}
use Rattle.std.proofs.lemmas.Bool.{and_parts}
use Rattle.std.specs.Prelude.{if◌then◌else◌, option_and_then}
use Rattle.std.proofs.Math.ListN.{get_or}
use Rattle.std.proofs.lemmas.Option.{none-some, same_Some}
use Rattle.oc_tree.specs.Names.{Text}
use Rattle.oc_tree.specs.Tree.{TExpr, variable, TArg, value, shared, mutable, TArgs, no_args, more_args, TProgram}
use Rattle.oc_tree.specs.declared.tree.Param.{Param}
use Rattle.oc_tree.specs.declared.tree.Passing.{Passing}
use Rattle.oc_tree.specs.declared.tree.Passing.TheVariants as passings
use Rattle.oc_tree.specs.declared.tree.VarId.{VarId}
use Rattle.oc_tree.specs.Assigned.{is_mutable}
use Rattle.oc_tree.specs.Places.{Placed}
use Rattle.oc_tree.specs.Scope.{Scope, variable_of}
use Rattle.oc_tree.specs.Rules.{shared_meets, arg_meets, args_meet}
use Rattle.oc_meaning.specs.Store.{Place, Local, Store, Binding, held_at, binding_of, place_of}
use Rattle.oc_meaning.specs.Eval.{Got, Val, Traps, value_of}
use Rattle.oc_meaning.specs.Exec.{Passed, Copied, Lent, Passing as Given, Passes, Breaks, passed_first, value_first, passed_on, arg_first, args_of}
use Rattle.oc_effects.specs.Effects.{variable_at, lent_name, all_passed}
use Rattle.oc_flow.specs.Variables.{nothing_passed}
use Rattle.oc_tree.specs.Members.{IsOf}
use Rattle.oc_copies.specs.Copies.{lent_place, passing_at, copied_back, all_copied_back}
use Rattle.oc_timely.proofs.Writes.{put_or}

-- ---- what is copied back

lent_later : (s : Passed) (ps : List Passed) (i : ℕ) (r : Place) → lent_place ps i ≡ Some r → lent_place (s ∷ ps) (suc i) ≡ Some r
lent_later (Copied v) ps i r e = e
lent_later (Lent q) ps i r e = e

module _ (from : Store) where
  -- a sample behind the copying was lent a place there, or was there
  abbrev pub Back : (l : ℕ) → List Param → List Passed → Place → (j : ℕ) → Type 0
  Back l qs ps r j = (i : ℕ) × (passing_at qs i ≡ Some passings.Mutable) × (lent_place ps i ≡ Some r) × IsOf j (held_at from (Local (l + i))).samples

  one_back : (l : ℕ) (pass : Passing) (q : Param) (qs : List Param) (s : Passed) (ps : List Passed) (σ : Store) (r : Place) (j : ℕ) → q.passing ≡ pass →
      IsOf j (held_at (copied_back from l pass s σ) r).samples → Back l (q ∷ qs) (s ∷ ps) r j ⊎ IsOf j (held_at σ r).samples
  one_back l passings.Mutable q qs (Lent a) ps σ r j e h = elim (put_or σ a (held_at from (Local l)) r j h) [
    | inl k ↦ inl (0, ap Some e, ap Some k.0, (let n : l + 0 ≡ l = omega arith in subst (λ m. IsOf j (held_at from (Local m)).samples) (sym n) k.2))
    | inr k ↦ inr k
  ]
  one_back l passings.Mutable q qs (Copied v) ps σ r j e h = inr h
  one_back l passings.Shared q qs s ps σ r j e h = inr h
  one_back l passings.Value q qs s ps σ r j e h = inr h

  pub back_or : (l : ℕ) (qs : List Param) (ps : List Passed) (σ : Store) (r : Place) (j : ℕ) → IsOf j (held_at (all_copied_back from l qs ps σ) r).samples →
      Back l qs ps r j ⊎ IsOf j (held_at σ r).samples
  back_or l [] ps σ r j h = inr h
  back_or l (q ∷ qs) [] σ r j h = inr h
  back_or l (q ∷ qs) (s ∷ ps) σ r j h = elim (back_or (suc l) qs ps (copied_back from l q.passing s σ) r j h) [
    | inl k ↦ inl (suc k.0, k.1, lent_later s ps k.0 r k.2, (let n : suc l + k.0 ≡ l + suc k.0 = omega arith in subst (λ m. IsOf j (held_at from (Local m)).samples) n k.3))
    | inr k ↦ one_back l q.passing q qs s ps σ r j refl k
  ]

-- ---- arguments

module _ (p : TProgram) (scope : Scope) (b : Placed) (env : List Binding) (σ : Store) where
  -- the name that lends the place
  pub record Lends (lent : Option VarId) (q : Place) : Type 0 where
    pub name : Text
    pub there : place_of env name ≡ q
    pub is : lent ≡ variable_at p b name

  abbrev lent_by : Param → TArg → Option VarId
  lent_by q a = cond (is_mutable q.passing) (option_and_then (variable_at p b) (lent_name a)) None

  by_name : (q : Param) (a : TArg) (x : Text) (r : Place) → q.passing ≡ passings.Mutable → lent_name a ≡ Some x → place_of env x ≡ r → Lends (lent_by q a) r
  by_name q a x r pass is e = record { name = x; there = e; is = (λ i. cond (is_mutable (pass i)) (option_and_then (variable_at p b) (is i)) None) }

  -- the first of what is passed, and the rest
  record First (q : Param) (a : TArg) (rest : Given) (ps : List Passed) : Type 0 where
    others : List Passed
    is : rest ≡ Passes others
    later : (i : ℕ) (r : Place) → lent_place ps (suc i) ≡ Some r → lent_place others i ≡ Some r
    first : (r : Place) → q.passing ≡ passings.Mutable → lent_place ps 0 ≡ Some r → Lends (lent_by q a) r

  tail_is : (s t : Passed) (xs ys : List Passed) → ◌≡◌ {A = List Passed} (s ∷ xs) (t ∷ ys) → (i : ℕ) (r : Place) → lent_place (t ∷ ys) (suc i) ≡ Some r → lent_place xs i ≡ Some r
  tail_is s (Copied v) xs ys e i r h = let q : ys ≡ xs = cc in subst (λ zs. lent_place zs i ≡ Some r) q h
  tail_is s (Lent a) xs ys e i r h = let q : ys ≡ xs = cc in subst (λ zs. lent_place zs i ≡ Some r) q h

  copied_first : (q : Param) (a : TArg) (v : _) (rest : Given) (ps : List Passed) → passed_first (Copied v) rest ≡ Passes ps → First q a rest ps
  copied_first q a v (Breaks k) ps h = absurd (cc)
  copied_first q a v (Passes xs) [] h = absurd (cc)
  copied_first q a v (Passes xs) (Copied z ∷ ys) h = record { others = xs; is = refl; later = tail_is (Copied v) (Copied z) xs ys (cc h); first = λ r m e. absurd (none-some r e) }
  copied_first q a v (Passes xs) (Lent z ∷ ys) h = absurd (cc)

  lent_first : (q : Param) (a : TArg) (x : Text) (rest : Given) (ps : List Passed) → (q.passing ≡ passings.Mutable → lent_name a ≡ Some x) → passed_first (Lent (place_of env x)) rest ≡ Passes ps →
      First q a rest ps
  lent_first q a x (Breaks k) ps n h = absurd (cc)
  lent_first q a x (Passes xs) [] n h = absurd (cc)
  lent_first q a x (Passes xs) (Copied z ∷ ys) n h = absurd (cc)
  lent_first q a x (Passes xs) (Lent z ∷ ys) n h =
      let same : place_of env x ≡ z = cc in
      record { others = xs; is = refl; later = tail_is (Lent (place_of env x)) (Lent z) xs ys (cc h); first = λ r m e. by_name q a x r m (n m) (same ∙ same_Some z r e) }

  shared_never : (q : Param) (x : Text) → arg_meets p scope q (shared x) ≡ true → q.passing ≡ passings.Mutable → ⊥
  shared_never q x h m = true≢false (sym h ∙ ap (λ s. shared_meets s q.kind (variable_of p scope x)) m)

  value_given : (q : Param) (e : TExpr) (o : Option Place) (v : Got) (rest : Given) (ps : List Passed) → passed_on env e ≡ o → value_first o v rest ≡ Passes ps → First q (value e) rest ps
  value_given q e None (Val v) rest ps n h = copied_first q (value e) v rest ps h
  value_given q e None (Traps k) rest ps n h = absurd (cc)
  value_given q (variable x) (Some r) v rest ps n h = by (binding_of env x).reference n
    where
      by : (c : Bool) → (if c then Some (place_of env x) else None) ≡ Some r → First q (value (variable x)) rest ps
      by true e = lent_first q (value (variable x)) x rest ps (λ m. refl) (subst (λ z. passed_first (Lent z) rest ≡ Passes ps) (sym (same_Some (place_of env x) r e)) h)
      by false e = absurd (none-some r e)
  value_given q e (Some r) v rest ps n h = absurd (none-some r n)

  first_given : (q : Param) (a : TArg) (rest : Given) (ps : List Passed) → arg_meets p scope q a ≡ true → arg_first env σ a rest ≡ Passes ps → First q a rest ps
  first_given q (value e) rest ps meets h = value_given q e (passed_on env e) (value_of env σ e) rest ps refl h
  first_given q (shared x) rest ps meets h = lent_first q (shared x) x rest ps (λ m. absurd (shared_never q x meets m)) h
  first_given q (mutable x) rest ps meets h = lent_first q (mutable x) x rest ps (λ m. refl) h

  -- what is lent for a parameter by `&mut`
  pub lent_named : (args : TArgs) (qs : List Param) (ps : List Passed) → args_of env σ args ≡ Passes ps → args_meet p scope qs args ≡ true → (i : ℕ) (r : Place) →
      passing_at qs i ≡ Some passings.Mutable → lent_place ps i ≡ Some r → Lends (get_or (all_passed p b qs args) i nothing_passed).lent r
  lent_named no_args qs [] e meets i r m l = absurd (none-some r l)
  lent_named no_args qs (s ∷ ps) e meets i r m l = absurd (cc)
  lent_named (more_args a rest) [] ps e meets i r m l = absurd (none-some passings.Mutable m)
  lent_named (more_args a rest) (q ∷ qs) ps e meets zero r m l =
      (first_given q a (args_of env σ rest) ps (and_parts (arg_meets p scope q a) (args_meet p scope qs rest) meets).0 e).first r (same_Some q.passing passings.Mutable m) l
  lent_named (more_args a rest) (q ∷ qs) ps e meets (suc i) r m l =
      let g = first_given q a (args_of env σ rest) ps (and_parts (arg_meets p scope q a) (args_meet p scope qs rest) meets).0 e in
      lent_named rest qs g.others g.is (and_parts (arg_meets p scope q a) (args_meet p scope qs rest) meets).1 i r m (g.later i r l)
