-- Before the first item.
use Rattle.std.proofs.Common.{◌≡◌, ℕ, suc, List, [], ◌∷◌, length, Option, Some, None, refl}
use Rattle.std.specs.Prelude.{codes}
use Rattle.oc_tree.specs.Marked.{TRegion}
use Rattle.oc_tree.specs.Tree.{TFunction, TProgram, TBlock, block}
use Rattle.oc_tree.specs.Samples.{union}
use Rattle.oc_meaning.specs.Store.{Store}
use Rattle.oc_meaning.specs.Exec.{Passed}
use Rattle.oc_meaning.specs.Run.{first_store, function_named, with_params, nv_env, main_run}
use Rattle.oc_steps.specs.Steps.{Frame, Leave, Step, Goes, Asks, Over, begin, step_function, step_passed, of_samples}
use Rattle.oc_meaning.specs.Cuts.{events_in}
use Rattle.oc_steps.specs.Starting.{Starts, StartsRight}
use Rattle.oc_steps.proofs.Keeping.{Makes, makes_passed}

-- a step that only goes on
abbrev IsQuiet : Step → Type 0
IsQuiet (Goes fs o) = events_in o ≡ []
IsQuiet s = ⊥

begins_quiet : (f : Rattle.oc_steps.specs.Steps.Inside) (env : List Rattle.oc_meaning.specs.Store.Binding) (b : TBlock) (fs : List Frame) (σ : Store) → σ.events ≡ [] → IsQuiet (begin of_samples f env b fs σ)
begins_quiet f env (block id ss) fs σ h = h

module _ (p : TProgram) (regions : List TRegion) where
  quiet : (d : ℕ) (o : Option TFunction) (ps : List Passed) (fs : List Frame) (σ : Store) → σ.events ≡ [] → IsQuiet (step_function p regions union of_samples d o ps fs σ)
  quiet d None ps fs σ h = h
  quiet d (Some f) ps fs σ h =
      let fr = with_params f.params ps (record { env = nv_env 0 p.names.nvs; locals = σ.locals }) in
      begins_quiet (record { depth = d; body = f.body }) fr.env f.body (Leave (length σ.locals) ∷ fs) (record σ { locals = fr.locals }) h

  starts_from : (s : Step) → IsQuiet s → Makes p regions [] s [] (λ t. main_run p regions t) → Starts p regions s
  starts_from (Goes fs o) q m = record { run = λ t. Rattle.std.proofs.Common.sym (m t); none = q }
  starts_from (Asks s fs σ) q m = absurd q
  starts_from Over q m = absurd q

pub starts_right : StartsRight
starts_right p regions =
    starts_from p regions (step_passed p regions union of_samples (suc (length p.functions)) (codes "main") [] [] (first_store p []))
    (quiet p regions (length p.functions) (function_named p.functions (codes "main")) [] [] (first_store p []) refl)
    (makes_passed p regions [] (suc (length p.functions)) (codes "main") [] [] (first_store p []))
