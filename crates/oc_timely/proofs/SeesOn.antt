-- What is seen of variables with one variable more: behind a `let`, and in a turn of a `for`.
use Rattle.std.proofs.Common.{◌≡◌, ◌⊎◌, inl, inr, ℕ, suc, ◌<◌, ◌≤◌, Bool, true, false, List, [], ◌∷◌, ◌++◌, length, Option, Some, None, refl, sym, ap, ◌∙◌, arith}
use Rattle.std.specs.Prelude.{ℤ, ◌||◌, cond, if◌then◌else◌, option_map}
use Rattle.std.specs.Str.{bytes_eq}
use Rattle.std.proofs.lemmas.Slice.Eq.{bytes_eq-Decides}
use Rattle.oc_tree.specs.Names.{Text}
use Rattle.oc_tree.specs.Calls.{place}
use Rattle.oc_tree.specs.Tree.{TKind, let_to, let_array, for_in, fresh, stmt, TCall, TStmts, no_stmts, more, TProgram}
use Rattle.oc_tree.specs.Places.{Place as Spot, Placed, Variables, find_variable, or_nonvolatile, behind, declares, stmts_placed, kind_placed, placed}
use Rattle.oc_tree.specs.declared.tree.VarId.{VarId}
use Rattle.oc_tree.specs.declared.tree.VarId.TheVariants as variables
use Rattle.oc_tree.specs.declared.marked.PolicyKind.TheVariants as kinds
use Rattle.oc_meaning.specs.Uses.{is_fresh_note, is_annotated}
use Rattle.oc_meaning.specs.Store.{Place, Local, Global, Turn, Nowhere, Store, Binding, binding_of}
use Rattle.oc_effects.specs.Effects.{effect_of, effects_at, variable_at, call_of}
use Rattle.oc_flow.specs.Variables.{same_variable, is_variable}
use Rattle.oc_tree.specs.Members.{IsOf}
use Rattle.oc_needs.specs.Policies.{policies}
use Rattle.oc_copies.specs.Stands.{Stands, IsRuledCall}
use Rattle.oc_timely.specs.Within.{Where, place_in}
use Rattle.oc_timely.specs.Scopes.{scope_of}
use Rattle.oc_timely.specs.Modes.{Sees, with_place}
use Rattle.oc_laws.proofs.Members.{of_right}
use Rattle.oc_laws.proofs.Names.{find_found, find_not}
use Rattle.oc_flow.proofs.Lists.{same_is, same_itself}

-- ---- what is taken from the rules and the numbers of a function's statements

-- the name that a statement declares
abbrev pub declared_name : TKind → Option Text
declared_name (let_to m x k r) = Some x
declared_name (let_array m x k z n) = Some x
declared_name (for_in x c d b) = Some x
declared_name k = None

-- Each statement has its effect, what it declares is a variable of the function, with a name that no other visible one has; what is
-- visible at a statement was declared before it; what is annotated as fresh is a policy's; and the rules find nothing wrong in calls.
pub record AreNamed (p : TProgram) (f : ℕ) (body : List Placed) : Type 0 where
  pub effect : (b : Placed) → IsOf b body → IsOf (effect_of p b) (effects_at p f)
  pub declared : (b : Placed) → IsOf b body → declares b.kind ≡ true → is_variable p f (variables.Declared b.id) ≡ true
  pub unused : (b : Placed) (x : Text) → IsOf b body → declared_name b.kind ≡ Some x → find_variable b.at.variables x ≡ None
  pub before : (b : Placed) (y : Text) (s : ℕ) → IsOf b body → find_variable b.at.variables y ≡ Some (variables.Declared s) → s < b.id
  pub noted : (b : Placed) (x : Text) (v : VarId) → IsOf b body → b.kind ≡ fresh x → variable_at p b x ≡ Some v → IsOf (record { function = f; kind = kinds.Fresh v }) (policies p)
  pub found : (b : Placed) → IsOf b body → placed p b.id ≡ Some b
  pub ruled : (b : Placed) → IsOf b body → (c : TCall) → call_of b.kind ≡ Some c → IsRuledCall p (scope_of p f b.at.variables) c

-- ---- one variable more

module _ (p : TProgram) (f base id : ℕ) (spot next : Spot) (env : List Binding) (w : Where) (σ τ : Store) (b : Binding)
    (grows : next.variables ≡ spot.variables ++ (b.name, variables.Declared id) ∷ [])
    (none : find_variable spot.variables b.name ≡ None)
    (before : (y : Text) (s : ℕ) → find_variable spot.variables y ≡ Some (variables.Declared s) → s < id)
    (known : is_variable p f (variables.Declared id) ≡ true)
    (its : ((b.place ≡ Local (length σ.locals)) × (length σ.locals < length τ.locals)) ⊎ ((i : ℤ) × (b.place ≡ Turn i)))
    (longer : length σ.locals ≤ length τ.locals)
    (fresh_one : b.fresh ≡ true → IsOf (record { function = f; kind = kinds.Fresh (variables.Declared id) }) (policies p))
    (stands : Stands p (scope_of p f next.variables) (b ∷ env) τ)
    (s : Sees p f base id spot env w σ) where
  abbrev chosen : Bool → Text → Binding
  chosen c y = if c then b else binding_of env y

  abbrev at_new : Bool → VarId → Place
  at_new c v = if c then b.place else w v

  abbrev then_found : Text → Option VarId
  then_found y = find_variable (spot.variables ++ (b.name, variables.Declared id) ∷ []) y

  is_it : (y : Text) → bytes_eq y b.name ≡ true → then_found y ≡ Some (variables.Declared id)
  is_it y c =
      let same : y ≡ b.name = (bytes_eq-Decides y b.name).0 c in
      find_not spot.variables ((b.name, variables.Declared id) ∷ []) y (ap (find_variable spot.variables) same ∙ none) ∙ ap (λ d. cond d (Some (variables.Declared id)) None) c

  is_other : (y : Text) → bytes_eq y b.name ≡ false → then_found y ≡ find_variable spot.variables y
  is_other y c = by (find_variable spot.variables y) refl
    where
      by : (o : Option VarId) → find_variable spot.variables y ≡ o → then_found y ≡ o
      by None e = find_not spot.variables ((b.name, variables.Declared id) ∷ []) y e ∙ ap (λ d. cond d (Some (variables.Declared id)) None) c
      by (Some u) e = find_found spot.variables ((b.name, variables.Declared id) ∷ []) y u e

  there : b.place ≡ at_new (same_variable (variables.Declared id) (variables.Declared id)) (variables.Declared id)
  there = ap (λ c. at_new c (variables.Declared id)) (sym (same_itself (variables.Declared id)))

  -- what was found is where it was
  was_there : (y : Text) (o : Option VarId) → find_variable spot.variables y ≡ o → place_in w (or_nonvolatile p y o) ≡ place_in (with_place w id b.place) (or_nonvolatile p y o)
  was_there y (Some u) e = by (same_variable u (variables.Declared id)) refl
    where
      by : (c : Bool) → same_variable u (variables.Declared id) ≡ c → w u ≡ at_new c u
      by true q = let l = before y id (e ∙ ap Some (same_is u (variables.Declared id) q)) in absurd (omega (arith, l))
      by false q = refl
  was_there y None e = by (place p.names.nvs y)
    where
      by : (o : Option ℕ) → place_in w (option_map variables.Nv o) ≡ place_in (with_place w id b.place) (option_map variables.Nv o)
      by None = refl
      by (Some i) = refl

  named : (y : Text) (c : Bool) → bytes_eq y b.name ≡ c → (chosen c y).place ≡ place_in (with_place w id b.place) (or_nonvolatile p y (then_found y))
  named y true c = there ∙ ap (λ o. place_in (with_place w id b.place) (or_nonvolatile p y o)) (sym (is_it y c))
  named y false c = s.owns.named y ∙ was_there y (find_variable spot.variables y) refl ∙ ap (λ o. place_in (with_place w id b.place) (or_nonvolatile p y o)) (sym (is_other y c))

  known_new : (v : VarId) (c : Bool) → same_variable v (variables.Declared id) ≡ c → (at_new c v ≡ Nowhere) ⊎ (is_variable p f v ≡ true)
  known_new v true c = inr (ap (is_variable p f) (same_is v (variables.Declared id) c) ∙ known)
  known_new v false c = s.owns.known v

  -- a local place of the new variable is past all others
  past : (l : ℕ) → b.place ≡ Local l → (l ≡ length σ.locals) × (l < length τ.locals)
  past l e = elim its [
    | inl k ↦ let q : Local l ≡ Local (length σ.locals) = sym e ∙ k.0 in let n : l ≡ length σ.locals = cc in (n, let m = k.1 in omega (arith, n, m))
    | inr k ↦ let q : Local l ≡ Turn k.0 = sym e ∙ k.1 in absurd (cc)
  ]

  own_new : (v : VarId) (l : ℕ) (c : Bool) → at_new c v ≡ Local l → (base ≤ l) × (l < length τ.locals)
  own_new v l true e = let q = past l e in let r = s.room in (let n = q.0 in omega (arith, n, r), q.1)
  own_new v l false e = let o = s.owns.own v l e in (o.0, let n = o.1 in omega (arith, n, longer))

  not_both : (v : VarId) (l : ℕ) → b.place ≡ Local l → w v ≡ Local l → ⊥
  not_both v l e d = let q = (past l e).0 in let o = (s.owns.own v l d).1 in omega (arith, q, o)

  apart_new : (u v : VarId) (l : ℕ) (c d : Bool) → same_variable u (variables.Declared id) ≡ c → same_variable v (variables.Declared id) ≡ d → at_new c u ≡ Local l → at_new d v ≡ Local l → u ≡ v
  apart_new u v l true true c d e g = same_is u (variables.Declared id) c ∙ sym (same_is v (variables.Declared id) d)
  apart_new u v l true false c d e g = absurd (not_both v l e g)
  apart_new u v l false true c d e g = absurd (not_both u l g e)
  apart_new u v l false false c d e g = s.owns.apart u v l e g

  stored_new : (v : VarId) (i : ℕ) (c : Bool) → at_new c v ≡ Global i → v ≡ variables.Nv i
  stored_new v i true e = elim its [
    | inl k ↦ let q : Local (length σ.locals) ≡ Global i = sym k.0 ∙ e in absurd (cc)
    | inr k ↦ let q : Turn k.0 ≡ Global i = sym k.1 ∙ e in absurd (cc)
  ]
  stored_new v i false e = s.owns.stored v i e

  older_new : (n : ℕ) (c : Bool) → same_variable (variables.Declared n) (variables.Declared id) ≡ c → (at_new c (variables.Declared n) ≡ Nowhere) ⊎ (n < suc id)
  older_new n true c = let e : n ≡ id = grind (arith, c) in inr (omega (arith, e))
  older_new n false c = elim (s.older n) [ inl e ↦ inl e | inr l ↦ inr (omega (arith, l)) ]

  fresh_new : (y : Text) (c : Bool) → bytes_eq y b.name ≡ c → (chosen c y).fresh ≡ true →
      (x : VarId) × (or_nonvolatile p y (then_found y) ≡ Some x) × IsOf (record { function = f; kind = kinds.Fresh x }) (policies p)
  fresh_new y true c e = (variables.Declared id, ap (or_nonvolatile p y) (is_it y c), fresh_one e)
  fresh_new y false c e = let a = s.fresh y e in (a.0, ap (or_nonvolatile p y) (is_other y c) ∙ a.1, a.2)

  pub sees_more : Sees p f base (suc id) next (b ∷ env) (with_place w id b.place) τ
  sees_more = record {
    owns = record {
      named = λ y. named y (bytes_eq y b.name) refl ∙ ap (λ (vs : Variables). place_in (with_place w id b.place) (or_nonvolatile p y (find_variable vs y))) (sym grows);
      known = λ v. known_new v (same_variable v (variables.Declared id)) refl;
      own = λ v l e. own_new v l (same_variable v (variables.Declared id)) e;
      apart = λ u v l e g. apart_new u v l (same_variable u (variables.Declared id)) (same_variable v (variables.Declared id)) refl refl e g;
      stored = λ v i e. stored_new v i (same_variable v (variables.Declared id)) e;
      result = s.owns.result;
    };
    room = let r = s.room in omega (arith, r, longer);
    stands = stands;
    older = λ n. older_new n (same_variable (variables.Declared n) (variables.Declared id)) refl;
    global = s.global;
    fresh = λ y e. let a = fresh_new y (bytes_eq y b.name) refl e in (a.0, ap (λ (vs : Variables). or_nonvolatile p y (find_variable vs y)) grows ∙ a.1, a.2);
  }

-- ---- notes of later statements

note_is : (x : Text) (k : TKind) → is_fresh_note x k ≡ true → k ≡ fresh x
note_is x (fresh y) e = ap fresh (sym ((bytes_eq-Decides x y).0 e))
note_is x k e = absurd (grind (arith, e))

-- where a later statement of the list annotates a name, the name stands there for what it stood for
pub annotated : (x : Text) (v : VarId) (at : Spot) (rest : TStmts) → find_variable at.variables x ≡ Some v → is_annotated x rest ≡ true →
    (b : Placed) × IsOf b (stmts_placed at rest) × (b.kind ≡ fresh x) × (find_variable b.at.variables x ≡ Some v)
annotated x v at no_stmts e a = absurd (grind (arith, a))
annotated x v at (more (stmt id line k) rest) e a = by (is_fresh_note x k) refl a (annotated x v (behind at id k) rest (find_found at.variables _ x v e))
  where
    by : (c : Bool) → is_fresh_note x k ≡ c → c || is_annotated x rest ≡ true →
        (is_annotated x rest ≡ true → (b : Placed) × IsOf b (stmts_placed (behind at id k) rest) × (b.kind ≡ fresh x) × (find_variable b.at.variables x ≡ Some v)) →
        (b : Placed) × IsOf b (stmts_placed at (more (stmt id line k) rest)) × (b.kind ≡ fresh x) × (find_variable b.at.variables x ≡ Some v)
    by true c h later = (record { id = id; line = line; kind = k; at = at }, inl refl, note_is x k c, e)
    by false c h later = let r = later h in (r.0, inr (of_right r.0 (kind_placed at id k) (stmts_placed (behind at id k) rest) r.1), r.2, r.3)
