-- A region's statements leave each nonvolatile variable that is no target of it alone.
use Rattle.std.proofs.Common.{◌≡◌, ◌<◌, ℕ, zero, suc, List, [], ◌∷◌, length, Option, Some, None, refl, sym, ap, ◌∙◌, subst, arith}
use Rattle.std.specs.Prelude.{ℤ, option_map, slice_get}
use Rattle.std.proofs.Math.ListN.{get_or}
use Rattle.oc_tree.specs.Names.{Text}
use Rattle.oc_tree.specs.Tree.{stmt, TStmts, no_stmts, more, TFunction, TProgram}
use Rattle.oc_tree.specs.declared.said.Target.{Target}
use Rattle.oc_tree.specs.declared.scope.Var.{Var}
use Rattle.oc_tree.specs.declared.tree.VarId.{VarId}
use Rattle.oc_tree.specs.declared.tree.VarId.TheVariants as variables
use Rattle.oc_tree.specs.Calls.{place}
use Rattle.oc_tree.specs.Scope.{Scope, variable_in}
use Rattle.oc_tree.specs.Marked.{TRegion, TMarked, IsMarked}
use Rattle.oc_tree.specs.Places.{Place as Spot, find_variable, or_nonvolatile}
use Rattle.oc_meaning.specs.Store.{Place, Local, Global, Turn, Nowhere, Store, Binding, held_at, place_of}
use Rattle.oc_meaning.specs.Exec.{stmts_run}
use Rattle.oc_meaning.specs.Run.{call_to}
use Rattle.oc_writes.specs.Targets.{region_targets, may_write}
use Rattle.oc_writes.specs.Kept.{StandIn, IsMade, IsFound, Sees, IsNoTarget, store_after, OnlyTargets}
use Rattle.oc_writes.proofs.KeptStore.{cell}
use Rattle.oc_writes.proofs.KeptNames.{Names, Seen}
use Rattle.oc_writes.proofs.KeptRuns.{stmts_keep}
use Rattle.oc_reach.proofs.Lists.{at_place}
use Rattle.oc_writes.proofs.KeptRules.{Same, AllSame}
use Rattle.oc_writes.proofs.KeptCalls.{calls_keep}
use Rattle.oc_writes.proofs.KeptRegion.{all_ruled, region_spared}

-- what is made is no nonvolatile variable
made_apart : (q : Place) (i : ℕ) → q ≡ Global i → IsMade q → ⊥
made_apart (Local l) i e h = absurd (cc)
made_apart (Global k) i e h = h
made_apart (Turn z) i e h = absurd (cc)
made_apart Nowhere i e h = h

-- where names are bound to what they stand for, those that are bound to a nonvolatile variable stand for it
sees_seen : (p : TProgram) (f : TFunction) (at : Spot) (scope : Scope) (passed : ℕ → Place) (env : List Binding) (i : ℕ) → AllSame p f scope at.variables → Sees p at passed env
    → Seen p i passed at.variables env
sees_seen p f at scope passed env i same sees y e = by (find_variable at.variables y) refl (sees y) (variable_in scope y) (same y)
  where
    by_place : find_variable at.variables y ≡ None → (o : Option ℕ) → place p.names.nvs y ≡ o → IsFound passed (option_map variables.Nv o) (place_of env y) → Names p i passed at.variables y
    by_place none None is h = absurd (cc)
    by_place none (Some k) is h = let k_is : k ≡ i = cc in Names.own none (is ∙ ap Some k_is)

    by : (o : Option VarId) → find_variable at.variables y ≡ o → IsFound passed (or_nonvolatile p y o) (place_of env y) → (w : Option Var) → Same p f y w o → Names p i passed at.variables y
    by None is h w s = by_place is (place p.names.nvs y) refl h
    by (Some (variables.Nv k)) is h None s = absurd s
    by (Some (variables.Nv k)) is h (Some w) s = absurd s
    by (Some (variables.Param j)) is h w s = Names.given j is (sym h ∙ e)
    by (Some (variables.Declared n)) is h w s = absurd (made_apart (place_of env y) i e h)
    by (Some variables.Returned) is h w s = absurd h

-- what stands in a list
standing : (xs : List Text) (i : ℕ) → i < length xs → (x : Text) × (slice_get xs i ≡ Some x)
standing [] i l = absurd (omega (arith, l))
standing (x ∷ xs) zero l = (x, refl)
standing (x ∷ xs) (suc i) l = standing xs i (omega (arith, l))

module _ (m : TMarked) (marked : IsMarked m) where
  -- of the targets of one region
  region_only : (r : TRegion) (at : Spot) (ss : TStmts) → StandIn m.program r at ss → (passed : ℕ → Place) (env : List Binding) → Sees m.program at passed env
      → (depth : ℕ) (home : ℤ → ℕ) (σ : Store) (i : ℕ) → IsNoTarget m.program (region_targets m.program r) passed i
      → held_at (store_after (stmts_run m.program.names m.regions (call_to m.program m.regions depth) home env ss σ)) (Global i) ≡ held_at σ (Global i)
  region_only r at no_stmts stand passed env sees depth home σ i free = refl
  region_only r at (more (stmt n line k) ss) stand passed env sees depth home σ i free =
      let p = m.program in
      let checked = marked.checked in
      let named = standing p.names.nvs i free.there in
      let first = (all_ruled p m.groups checked r at (more (stmt n line k) ss) stand).0 in
      stmts_keep p i named.0 passed p.names m.regions (call_to p m.regions depth) home (calls_keep p m.groups checked m.regions i named.0 named.1 depth) (cell i σ) env at (more (stmt n line k) ss) σ
      (sees_seen p stand.function at first.here.scope passed env i first.same sees)
      (region_spared p m.groups checked r at (more (stmt n line k) ss) stand i named.0 named.1 checked.form.declared.each_nv passed free) refl

  pub only_targets : (sets : List (List Target)) → sets ≡ may_write m → OnlyTargets m sets
  only_targets sets are k r stands at ss stand passed env sees depth home σ i free =
      let set : get_or sets k [] ≡ region_targets m.program r = ap (λ ts. get_or ts k []) are ∙ at_place (region_targets m.program) m.regions k r [] stands in
      region_only r at ss stand passed env sees depth home σ i (subst (λ t. IsNoTarget m.program t passed i) set free)
