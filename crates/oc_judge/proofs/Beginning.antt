-- The steps of a statement of a block.
use Rattle.std.proofs.Common.{◌≡◌, sym, ◌∙◌, subst, false, List, ◌∷◌}
use Rattle.oc_tree.specs.Tree.{TKind, TStmts}
use Rattle.oc_tree.specs.View.{kind_view, stmts_view}
use Rattle.oc_meaning.specs.Store.{Binding, Store}
use Rattle.oc_meaning.specs.Exec.{Went, begun_by, ended_by, grown, opened, used}
use Rattle.oc_meaning.specs.Uses.{begins_use, is_fresh}
use Rattle.oc_steps.specs.Ages.{join_ages}
use Rattle.oc_steps.specs.Sets.{use_by}
use Rattle.oc_steps.specs.Steps.{Close, Done, Frame, Goes, Inside, Rest, Step, Use, Work}
use Rattle.oc_judge.specs.Frames.{inside_view}
use Rattle.oc_judge.specs.Going.{program_of, regions_of, work_here}
use Rattle.oc_judge.specs.Leading.{Leads, LeadsTo}
use Rattle.oc_judge.specs.Statements.{IsPlain, IsSilent, IsUse, begun_here, end_frames}
use Rattle.oc_judge.specs.Stores.{completion_at}
use Rattle.oc_judge.specs.Values.{age_view}
use Rattle.oc_judge.specs.declared.going.Going.TheVariants as goings
use Rattle.oc_judge.specs.declared.running.Running.{Running}
use Rattle.oc_judge.specs.declared.statement.Statement.{Statement}
use Rattle.oc_judge.specs.declared.store.Completion.{Completion}
use Rattle.oc_judge.proofs.Leading.{at_once, begins_it, ends_it, leads_then, works_it}

module _ (r : Running) (s : Statement) (env : List Binding) (σ : Store) (fs : List Frame) where
  abbrev f : Inside
  f = inside_view s.inside

  abbrev k : TKind
  k = kind_view s.kind.now

  abbrev ss : TStmts
  ss = stmts_view s.rest.now

  -- what stands behind it
  abbrev behind : List Frame
  behind = end_frames r s (grown k ss env σ) fs

  abbrev started : List Frame → Step
  started gs = Goes (Use f env s.id (use_by join_ages env k σ) k ∷ gs) (Went (opened (begun_by (regions_of r) s.id) σ))

  begun_so : IsUse env k σ s.found → started behind ≡ begun_here r s env fs σ
  begun_so h =
      λ i. started (Done (h.ended i) s.id (h.samples i) ∷ Close (ended_by (regions_of r) s.id) ∷ Rest f (grown k ss env σ) ss ∷ fs)

  -- its region is entered
  pub enters : (gs : List Frame) (τ : Store) → IsUse env k σ s.found → gs ≡ Use f env s.id (age_view s.found.age) k ∷ behind
      → τ ≡ opened (begun_by (regions_of r) s.id) σ → Leads (program_of r) (regions_of r) (begun_here r s env fs σ) (Goes gs (Went τ))
  enters gs τ h e t =
      at_once (program_of r) (regions_of r) (begun_here r s env fs σ) (Goes gs (Went τ))
      ((λ i. Goes (e i) (Went (t i))) ∙ (λ i. Goes (Use f env s.id (h.samples i) k ∷ behind) (Went (opened (begun_by (regions_of r) s.id) σ))) ∙ begun_so h)

  -- its use begins
  pub uses : (t : Step) → IsUse env k σ s.found → IsPlain (regions_of r) s.id σ → t ≡ Goes (Work f env s.id k ∷ behind) (Went (used s.found.begins s.id (age_view s.found.age) σ))
      → Leads (program_of r) (regions_of r) (begun_here r s env fs σ) t
  uses t h q e =
      subst (λ x. Leads (program_of r) (regions_of r) x t) (begun_so h)
      (leads_then (program_of r) (regions_of r) (started behind) (Goes (Work f env s.id k ∷ behind) (Went (used (begins_use (is_fresh env) k) s.id (use_by join_ages env k σ) σ))) t
      (begins_it (program_of r) (regions_of r) f env s.id (use_by join_ages env k σ) k behind σ q.told (begun_by (regions_of r) s.id) q.outside)
      (at_once (program_of r) (regions_of r) _ t (e ∙ (λ i. Goes (Work f env s.id k ∷ behind) (Went (used (h.begun i) s.id (h.samples i) σ))))))

  -- it does its work
  pub works : (t : Step) → IsUse env k σ s.found → IsPlain (regions_of r) s.id σ → s.found.begins ≡ false
      → Leads (program_of r) (regions_of r) (work_here r f env s.id k behind σ) t → Leads (program_of r) (regions_of r) (begun_here r s env fs σ) t
  works t h q b w =
      subst (λ x. Leads (program_of r) (regions_of r) x t) (begun_so h)
      (leads_then (program_of r) (regions_of r) (started behind) (work_here r f env s.id k behind σ) t
      (works_it (program_of r) (regions_of r) f env s.id (use_by join_ages env k σ) k behind σ q.told (begun_by (regions_of r) s.id) q.outside (sym h.begun ∙ b))
      w)

-- and has nothing left to say
pub finishes : (r : Running) (s : Statement) (env : List Binding) (fs gs : List Frame) (o : Completion) (σ : Store) → IsSilent (regions_of r) s o σ
    → gs ≡ Rest (inside_view s.inside) env (stmts_view s.rest.now) ∷ fs → LeadsTo r (Goes (end_frames r s env fs) (completion_at o σ)) (goings.Goes o) gs σ
finishes r s env fs gs o σ h e =
    subst (λ l. Leads (program_of r) (regions_of r) (Goes (end_frames r s env fs) (completion_at o σ)) (Goes l (completion_at o σ))) (sym e)
    (ends_it (program_of r) (regions_of r) s.found.ends s.id (age_view s.found.age) (ended_by (regions_of r) s.id) (Rest (inside_view s.inside) env (stmts_view s.rest.now) ∷ fs)
    (completion_at o σ) σ h.use_ended h.region_ended h.told h.went)
