-- What a called function begins with: each sample of its variables is one of a variable of the caller that stands for it.
use Rattle.std.proofs.Common.{◌≡◌, ◌⊎◌, inl, inr, ℕ, ◌+◌, ◌<◌, ◌≤◌, Bool, true, false, List, length, refl, sym, ap, ◌∙◌, subst, arith}
use Rattle.std.specs.Prelude.{unwrap_or, ◌-◌, nat_lt, if◌then◌else◌}
use Rattle.oc_tree.specs.Tree.{TArgs, TFunction, TProgram}
use Rattle.oc_tree.specs.Places.{Placed}
use Rattle.oc_tree.specs.declared.tree.Param.{Param}
use Rattle.oc_tree.specs.declared.tree.VarId.{VarId}
use Rattle.oc_tree.specs.declared.tree.VarId.TheVariants as variables
use Rattle.oc_meaning.specs.Store.{nothing, Place, Local, Global, Turn, Nowhere, Store, Binding, held_at}
use Rattle.oc_meaning.specs.Exec.{Passed, Passes, args_of}
use Rattle.oc_meaning.specs.Run.{nv_env}
use Rattle.oc_effects.specs.Effects.{called_at, params_at}
use Rattle.oc_flow.specs.Variables.{begins}
use Rattle.oc_tree.specs.Members.{IsOf}
use Rattle.oc_copies.specs.Copies.{own_frame}
use Rattle.oc_timely.specs.Within.{Where, samples_of, start_where}
use Rattle.oc_timely.specs.Steps.{AreTaken}
use Rattle.oc_timely.specs.Modes.{Sees}
use Rattle.oc_timely.proofs.Handed.{passed_samples, own_older, own_held, arg_named}
use Rattle.oc_flow.proofs.Lists.{same_itself}
use Rattle.oc_timely.proofs.Directly.{either}

module _ (p : TProgram) (f base : ℕ) (b : Placed) (args : TArgs) (env : List Binding) (w : Where) (σ : Store) (sees : Sees p f base b.id b.at env w σ) (taken : AreTaken σ)
    (u : ℕ) (g : TFunction) (params : params_at p u ≡ g.params) (ps : List Passed) (passes : args_of env σ args ≡ Passes ps) (many : length ps ≡ length g.params) where
  abbrev own : Store
  own = record σ { locals = (own_frame p g ps σ).locals }

  -- a variable of the caller that stands for it, and has the sample
  abbrev pub StandsFor : VarId → (j : ℕ) → Type 0
  StandsFor x j = (y : VarId) × (begins (called_at p b args u) x y ≡ true) × IsOf j (samples_of σ w y)

  handed : (k j : ℕ) → IsOf j (passed_samples σ ps k) → StandsFor (variables.Param k) j
  handed k j h = arg_named p b env w σ sees.owns.named args (params_at p u) ps k j passes (many ∙ ap (λ (qs : List Param). length qs) (sym params)) h

  pub stands_for : (x : VarId) (j : ℕ) → IsOf j (samples_of own (start_where p u (length σ.locals)) x) → StandsFor x j
  stands_for (variables.Nv i) j h = by (nat_lt i (length p.names.nvs)) refl h
    where
      by : (c : Bool) → nat_lt i (length p.names.nvs) ≡ c → IsOf j (held_at own (if c then Global i else Nowhere)).samples → StandsFor (variables.Nv i) j
      by false e k = absurd k
      by true e k =
          let l : i < length p.names.nvs = grind (arith, e) in
          (variables.Nv i, same_itself (variables.Nv i), subst (λ r. IsOf j (held_at σ r).samples) (sym (sees.global i l)) k)
  stands_for (variables.Param k) j h = by (nat_lt k (length (params_at p u))) h
    where
      by : (c : Bool) → IsOf j (held_at own (if c then Local (length σ.locals + k) else Nowhere)).samples → StandsFor (variables.Param k) j
      by false i = absurd i
      by true i = handed k j (own_held σ g.params ps (record { env = nv_env 0 p.names.nvs; locals = σ.locals }) k (length σ.locals + k) j refl i)
  stands_for (variables.Declared s) j h = absurd h
  stands_for variables.Returned j h = absurd h

  own_below : (r : Place) (j : ℕ) → IsOf j (held_at own r).samples → j < σ.taken
  own_below (Local l) j h = by (either l (length σ.locals))
    where
      by : (length σ.locals ≤ l) ⊎ (l < length σ.locals) → j < σ.taken
      by (inr z) = taken.held (Local l) j (subst (λ o. IsOf j (unwrap_or o nothing).samples) (own_older σ g.params ps (record { env = nv_env 0 p.names.nvs; locals = σ.locals }) l z) h)
      by (inl z) =
          let y = handed (l - length σ.locals) j (own_held σ g.params ps (record { env = nv_env 0 p.names.nvs; locals = σ.locals }) (l - length σ.locals) l j (omega (arith, z)) h) in
          taken.held (w y.0) j y.2
  own_below (Global l) j h = taken.held (Global l) j h
  own_below (Turn z) j h = absurd h
  own_below Nowhere j h = absurd h

  -- all of them were taken
  pub own_taken : AreTaken own
  own_taken = record { held = own_below; count = taken.count; opened = taken.opened; begun = taken.begun }
