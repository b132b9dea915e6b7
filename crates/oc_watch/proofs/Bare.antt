-- A program without regions: the whole run alone is bounded, by what `main` costs.
use Rattle.std.proofs.Common.{◌≡◌, ◌≤◌, ◌+◌, ℕ, Bool, List, [], ◌∷◌, length, Option, Some, None, refl, arith}
use Rattle.std.specs.Prelude.{codes, slice_get}
use Rattle.std.proofs.lemmas.Option.{none-some}
use Rattle.oc_tree.specs.Names.{Text}
use Rattle.oc_tree.specs.Tree.{TArgs, no_args, more_args, TCall, call, TFunction, TProgram}
use Rattle.oc_tree.specs.declared.tree.Param.{Param}
use Rattle.oc_tree.specs.Calls.{function_place}
use Rattle.oc_tree.specs.Weight.{known_of}
use Rattle.oc_tree.specs.declared.said.Target.{Target}
use Rattle.oc_tree.specs.Stack.{link_words}
use Rattle.oc_isa.specs.Table.{device_of}
use Rattle.oc_code.specs.Scope.{function_scope}
use Rattle.oc_code.specs.Formed.{IsFormed}
use Rattle.oc_code.proofs.Lawful.{all_access, block_all}
use Rattle.oc_code.proofs.Closed.{name_may, lent_name, params_within, call_within}
use Rattle.oc_bounds.specs.Bounds.{Bounds, IsBounded}
use Rattle.oc_bounds.proofs.Tolls.{toll}
use Rattle.oc_watch.specs.Entries.{run_toll}
use Rattle.oc_tree.specs.Costs.{costs_to}
use Rattle.oc_watch.proofs.Compared.{block_counted, cost_less}
use Rattle.oc_watch.proofs.Bounded.{image, Tables, Fits, bounded}

may_all : (o : Option Text) → name_may all_access o
may_all None = tt
may_all (Some x) = refl

params_all : (qs : List Param) (args : TArgs) → params_within all_access all_access qs args
params_all [] args = tt
params_all (q ∷ qs) no_args = tt
params_all (q ∷ qs) (more_args a rest) = (λ r w. may_all (lent_name a), params_all qs rest)

calls_all : (fs : List TFunction) (c : TCall) → call_within fs (λ f. all_access) all_access c
calls_all fs (call f args) = (λ g found. params_all g.params args, λ i w. refl)

module _ (p : TProgram) (targets : List (List Target)) (b : Bounds) (formed : IsFormed p [] targets) (uses : ℕ → Bool)
    (counted : (i : ℕ) (f : TFunction) → slice_get p.functions i ≡ Some f → block_counted uses (function_scope p f) (length f.params + link_words f) f.body) where
  tables : Tables p [] targets b
  tables = record {
    writes = λ f. all_access;
    names = λ r. all_access;
    held = λ r. [];
    lawful = λ i f at. block_all [] all_access (call_within p.functions (λ f. all_access) all_access) (λ r γ s ss. Unit {0}) (λ x. refl) (calls_all p.functions) (λ n r e γ s ss. tt) _ _ f.body;
    tells = λ f i x e w. refl;
  }

  pub bare_bounded : known_of (costs_to p.functions uses [] (length p.functions)) (function_place p.functions (codes "main")) ≤ b.total
      → b.total + run_toll p [] (toll (device_of (image p [] targets b)) b) ≤ b.steps → (device_of (image p [] targets b)).room + 6 ≤ b.safe → IsBounded (device_of (image p [] targets b)) b
  bare_bounded most steps safe =
      bounded p [] targets b formed tables
      (λ i f at. block_all [] all_access (λ c. Unit {0}) (Fits p [] targets b tables formed.rank f.name) (λ x. refl) (λ c. tt) (λ n r e γ s ss. absurd (none-some r e)) _ _ f.body)
      (omega (arith, most, cost_less p [] formed.rank uses formed.bodies counted (length p.functions) (codes "main"))) steps safe
