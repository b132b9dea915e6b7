-- All runs are good, where flow stays within what is said of it and no mark stands between the tags of a set.
use Rattle.std.proofs.Common.{◌≡◌, ℕ, zero, suc, true≢false, List, [], ◌∷◌, Some, refl, sym, ap, ◌∙◌, subst, arith}
use Rattle.std.specs.Prelude.{ℤ, codes, slice_get, slice_index_or}
use Rattle.std.proofs.lemmas.Option.{same_Some}
use Rattle.oc_tree.specs.Tree.{TFunction, TProgram}
use Rattle.oc_tree.specs.Calls.{function_place}
use Rattle.oc_tree.specs.Marked.{TMarked, IsMarked}
use Rattle.oc_tree.specs.declared.tree.Param.{Param}
use Rattle.oc_meaning.specs.Store.{Place, Local, Global, Turn, Nowhere, Store, held_at, nothing}
use Rattle.oc_meaning.specs.Exec.{Outcome, Went, Returned, Stopped}
use Rattle.oc_meaning.specs.Run.{Frame, nv_env, first_values, first_store, main_run}
use Rattle.oc_meaning.specs.Cuts.{events_in}
use Rattle.oc_tree.specs.Members.{IsOf}
use Rattle.oc_copies.specs.Copies.{MayPass, own_params, own_frame}
use Rattle.oc_copies.specs.Stands.{AreFormed}
use Rattle.oc_timely.specs.Covering.{IsCovering}
use Rattle.oc_timely.specs.Within.{start_where, samples_of}
use Rattle.oc_timely.specs.Enough.{RunsAreGood}
use Rattle.oc_timely.specs.Steps.{AreTaken}
use Rattle.oc_timely.specs.Modes.{AllFine, FineOut, AllFlows}
use Rattle.oc_timely.proofs.Calls.{FindsOwn}
use Rattle.oc_copies.proofs.Copied.{calls_copy}
use Rattle.oc_copies.proofs.DoCopy.{main_copies}
use Rattle.oc_timely.proofs.Whole.{good_of, main_fine}
use Rattle.oc_timely.specs.Sets.{RunsPartNone}
use Rattle.oc_timely.proofs.Gathers.{all_gathered}
use Rattle.oc_timely.proofs.Callees.{callee_at}
use Rattle.oc_timely.proofs.Known.{known}

-- ---- the start of a run

first_clear : (ds : List _) (a : ℕ) → (slice_index_or (first_values ds) a nothing).samples ≡ []
first_clear [] a = refl
first_clear (d ∷ ds) zero = refl
first_clear (d ∷ ds) (suc a) = first_clear ds a

none_held : (p : TProgram) (samples : List ℤ) (q : Place) → (held_at (first_store p samples) q).samples ≡ []
none_held p samples (Local l) = refl
none_held p samples (Global a) = first_clear p.nv a
none_held p samples (Turn z) = refl
none_held p samples Nowhere = refl

none_own : (σ : Store) (qs : List Param) (fr : Frame) → own_params σ qs [] fr ≡ fr
none_own σ [] fr = refl
none_own σ (q ∷ qs) fr = refl

begins_so : (p : TProgram) (g : TFunction) (samples : List ℤ) → record (first_store p samples) { locals = (own_frame p g [] (first_store p samples)).locals } ≡ first_store p samples
begins_so p g samples = ap (λ (fr : Frame). record (first_store p samples) { locals = fr.locals }) (none_own (first_store p samples) g.params (record { env = nv_env 0 p.names.nvs; locals = [] }))

first_taken : (p : TProgram) (samples : List ℤ) → AreTaken (first_store p samples)
first_taken p samples = record {
  held = λ q j o. absurd (subst (IsOf j) (none_held p samples q) o);
  count = refl;
  opened = grind arith;
  begun = omega arith;
}

module _ (m : TMarked) (marked : IsMarked m) (c : IsCovering m) (samples : List ℤ) where
  abbrev p : TProgram
  p = m.program

  pub starts : (u : ℕ) (g : TFunction) → function_place p.functions (codes "main") ≡ Some u → slice_get p.functions u ≡ Some g →
      MayPass p u g [] (first_store p samples) × AreFormed g.params [] × FindsOwn m c.guarded u g [] (first_store p samples)
  starts u g place at =
      let d = (main_copies p m.groups marked.checked m.regions samples).1 in
      let number : d.number ≡ u = same_Some d.number u (sym d.placed ∙ place) in
      let function : d.function ≡ g = same_Some d.function g (sym d.stands ∙ ap (slice_get p.functions) number ∙ at) in
      let same = begins_so p g samples in (
        subst (λ n. MayPass p n g [] (first_store p samples)) number (subst (λ (z : TFunction). MayPass p d.number z [] (first_store p samples)) function d.may),
        subst (λ (z : TFunction). AreFormed z.params []) function d.formed,
        record {
          deep = λ h. absurd (true≢false (sym h ∙ c.guarding.main u place));
          guard = λ q v j o n i. absurd (subst (IsOf j) (none_held p samples (start_where p u 0 v)) (subst (λ (τ : Store). IsOf j (samples_of τ (start_where p u 0) v)) same i));
          taken = subst AreTaken (sym same) (first_taken p samples);
        },
      )

fine_events : (o : Outcome) → FineOut o → AllFine (events_in o)
fine_events (Went τ) h = h
fine_events (Returned v τ) h = h
fine_events (Stopped s τ) h = h

pub fine_run : AllFlows → (m : TMarked) → IsMarked m → IsCovering m → (samples : List ℤ) → AllFine (events_in (main_run m.program m.regions samples))
fine_run flows m marked c samples =
    fine_events (main_run m.program m.regions samples)
    (main_fine m m.groups marked.checked c.guarded calls_copy (callee_at m.program) (λ f g at. known m marked c f g at (flows m marked f g at)) samples
    (main_copies m.program m.groups marked.checked m.regions samples).0 (starts m marked c samples))

pub runs_are_good : AllFlows → RunsPartNone → RunsAreGood
runs_are_good flows unparted m marked c samples =
    let fine = fine_run flows m marked c samples in
    good_of m.program (events_in (main_run m.program m.regions samples)) fine (all_gathered m.program (events_in (main_run m.program m.regions samples)) fine (unparted m marked c samples))
