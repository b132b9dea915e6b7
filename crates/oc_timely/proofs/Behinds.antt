-- A straight statement goes through: with what is seen behind it.
use Rattle.std.proofs.Common.{◌≡◌, inl, inr, ℕ, suc, ◌+◌, ◌<◌, true, List, [], ◌∷◌, ◌++◌, length, Some, None, refl, sym, ap, ◌∙◌, subst, arith, append-nil}
use Rattle.std.specs.Prelude.{ℤ, cond}
use Rattle.std.proofs.lemmas.Slice.Eq.{bytes_eq-Decides}
use Rattle.oc_tree.specs.Names.{Text}
use Rattle.oc_tree.specs.Tree.{TKind, let_to, let_array, for_in, stmt, TBlock, TStmts, more, TProgram}
use Rattle.oc_tree.specs.Places.{Place as Spot, Placed, find_variable, or_nonvolatile, behind, in_loop, stmts_placed}
use Rattle.oc_tree.specs.Marked.{TRegion}
use Rattle.oc_tree.specs.declared.tree.VarId.TheVariants as variables
use Rattle.oc_tree.specs.declared.marked.PolicyKind.TheVariants as kinds
use Rattle.oc_meaning.specs.Uses.{is_annotated}
use Rattle.oc_meaning.specs.Store.{Local, Turn, Store, Binding}
use Rattle.oc_meaning.specs.Exec.{Outcome, Went, Passed, bound_to, in_turn, grown, kind_run}
use Rattle.oc_flow.specs.Variables.{is_variable}
use Rattle.oc_tree.specs.Members.{IsOf}
use Rattle.oc_needs.specs.Policies.{policies}
use Rattle.oc_copies.specs.Copies.{HasStored}
use Rattle.oc_copies.specs.Stands.{Stands, makes}
use Rattle.oc_laws.proofs.Names.{find_not}
use Rattle.oc_timely.specs.Scopes.{var_declared, scope_of}
use Rattle.oc_timely.proofs.Scopes.{stands_let, stands_turn}
use Rattle.oc_timely.specs.Within.{Where}
use Rattle.oc_timely.specs.Steps.{AreTaken}
use Rattle.oc_timely.specs.Modes.{Sees, Goes, In, IsEffectAmong, own_placed, with_place, where_behind}
use Rattle.oc_timely.proofs.Marks.{sees_length, sees_later, sees_spot}
use Rattle.oc_timely.proofs.Straight.{IsStraight}
use Rattle.oc_timely.proofs.Writes.{came_wider}
use Rattle.oc_timely.proofs.SeesOn.{AreNamed, sees_more, annotated}
use Rattle.oc_timely.proofs.StraightGoes.{IsThis, CallsGo, straight_leaves}

module _ (p : TProgram) (regions : List TRegion) (call : Text → List Passed → Store → Outcome) (home : ℤ → ℕ) (f base : ℕ) (body : List Placed) (names : AreNamed p f body) where
  -- behind a `let`
  let_sees : (spot : Spot) (id line : ℕ) (k : TKind) (x : Text) (rest : TStmts) → IsOf (record { id = id; line = line; kind = k; at = spot }) body → find_variable spot.variables x ≡ None →
      ((y : Text) (s : ℕ) → find_variable spot.variables y ≡ Some (variables.Declared s) → s < id) →
      is_variable p f (variables.Declared id) ≡ true → (behind spot id k).variables ≡ spot.variables ++ (x, variables.Declared id) ∷ []
      → ((z : Placed) → IsOf z (stmts_placed (behind spot id k) rest) → IsOf z body) →
      (env : List Binding) (w : Where) (first σ υ : Store) → length first.locals ≡ length σ.locals → length υ.locals ≡ 1 + length σ.locals → Sees p f base id spot env w σ
      → Sees p f base (suc id) (behind spot id k) (bound_to x rest first ∷ env) (with_place w id (Local (length first.locals))) υ
  let_sees spot id line k x rest one none before known grows sub env w first σ υ same many sees =
      sees_more p f base id spot (behind spot id k) env w σ υ (bound_to x rest first) grows none before known (inl (ap Local same, omega (arith, many))) (omega (arith, many)) noted
      (subst (λ vs. Stands p (scope_of p f vs) (bound_to x rest first ∷ env) υ) (sym grows)
      (stands_let p f spot.variables env σ υ id sees.stands x rest first none same (omega (arith, many)))) sees
    where
      found : find_variable (behind spot id k).variables x ≡ Some (variables.Declared id)
      found =
          ap (λ vs. find_variable vs x) grows ∙ find_not spot.variables ((x, variables.Declared id) ∷ []) x none ∙ ap (λ c. cond c (Some (variables.Declared id)) None) ((bytes_eq-Decides x x).1 refl)

      noted : is_annotated x rest ≡ true → IsOf (record { function = f; kind = kinds.Fresh (variables.Declared id) }) (policies p)
      noted h = let a = annotated x (variables.Declared id) (behind spot id k) rest found h in names.noted a.0 x (variables.Declared id) (sub a.0 a.1) a.2 (ap (or_nonvolatile p x) a.3)

  -- behind a statement that makes no variable
  pub kept_sees : (spot next : Spot) (id : ℕ) (env : List Binding) (w : Where) (σ υ : Store) → next.variables ≡ spot.variables ++ [] → length υ.locals ≡ length σ.locals →
      Sees p f base id spot env w σ → Sees p f base (suc id) next env w υ
  kept_sees spot next id env w σ υ grows many sees =
      sees_later p f base id (suc id) next env w υ (omega arith) (sees_spot p f base id spot next env w υ (grows ∙ append-nil spot.variables) (sees_length p f base id spot env w σ υ many sees))

  -- a turn of a `for`
  pub turn_sees : (spot : Spot) (id line : ℕ) (x : Text) (c d : ℤ) (b : TBlock) → IsOf (record { id = id; line = line; kind = for_in x c d b; at = spot }) body →
      (env : List Binding) (w : Where) (σ : Store) (i : ℤ) → Sees p f base id spot env w σ →
      Sees p f base (suc id) (in_loop spot id ((x, variables.Declared id) ∷ [])) (in_turn x i ∷ env) (with_place w id (Turn i)) σ
  turn_sees spot id line x c d b one env w σ i sees =
      sees_more p f base id spot (in_loop spot id ((x, variables.Declared id) ∷ [])) env w σ σ (in_turn x i) refl (names.unused _ x one refl) (λ y s. names.before _ y s one)
      (names.declared _ one refl) (inr (i, refl)) (omega arith) (λ h. absurd (cc))
      (stands_turn p f spot.variables env σ σ id sees.stands x i (names.unused _ x one refl) (ap (var_declared p (scope_of p f spot.variables)) (names.found _ one))) sees

  -- behind a straight statement
  straight_sees : (spot : Spot) (id line : ℕ) (k : TKind) (rest : TStmts) → ((z : Placed) → IsOf z (stmts_placed spot (more (stmt id line k) rest)) → IsOf z body) →
      (env : List Binding) (w : Where) (first σ υ : Store) → length first.locals ≡ length σ.locals → length υ.locals ≡ makes k + length σ.locals → Sees p f base id spot env w σ
      → Sees p f base (suc id) (behind spot id k) (grown k rest env first) (where_behind w id k first) υ
  straight_sees spot id line (let_to m x t r) rest sub env w first σ υ same many sees =
      let_sees spot id line (let_to m x t r) x rest (sub _ (inl refl)) (names.unused _ x (sub _ (inl refl)) refl) (λ y s. names.before _ y s (sub _ (inl refl)))
      (names.declared _ (sub _ (inl refl)) refl) refl (λ z h. sub z (inr h)) env w first σ υ same many sees
  straight_sees spot id line (let_array m x t z n) rest sub env w first σ υ same many sees =
      let_sees spot id line (let_array m x t z n) x rest (sub _ (inl refl)) (names.unused _ x (sub _ (inl refl)) refl) (λ y s. names.before _ y s (sub _ (inl refl)))
      (names.declared _ (sub _ (inl refl)) refl) refl (λ z h. sub z (inr h)) env w first σ υ same many sees
  straight_sees spot id line k rest sub env w first σ υ same many sees = kept_sees spot (behind spot id k) id env w σ υ refl (omega (arith, many)) sees

  module _ (calls : CallsGo p regions call home f base body) where
    pub straight_goes : (spot : Spot) (id line : ℕ) (k : TKind) (rest : TStmts) → IsStraight k → In p regions call home f base body (stmts_placed spot (more (stmt id line k) rest)) →
        (env : List Binding) (w : Where) (first σ υ : Store) → length first.locals ≡ length σ.locals → Sees p f base id spot env w σ → AreTaken σ → HasStored p σ →
        kind_run p.names regions call home env id k σ ≡ Went υ → Goes p regions call home f base body spot id line k rest env w first σ υ
    straight_goes spot id line k rest s sub env w first σ υ same sees taken stored e =
        let l = straight_leaves p regions call home f base body names calls spot id line k s (sub _ (inl refl)) env w first σ υ same sees taken stored e in
        record {
          came = came_wider p f base (IsThis p regions call home f base body (record { id = id; line = line; kind = k; at = spot })) (IsEffectAmong p (own_placed spot id line k)) (λ a i. (_, inl refl, i)) w
              (where_behind w id k first) σ υ l.came;
          sees = straight_sees spot id line k rest sub env w first σ υ same l.many sees;
          steady = l.steady;
          more = let m = l.many in omega (arith, m);
        }
