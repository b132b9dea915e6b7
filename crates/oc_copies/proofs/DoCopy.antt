-- A call that breaks no rule, as a whole.
use Rattle.std.proofs.Common.{◌≡◌, ℕ, suc, List, [], ◌∷◌, length, Some, refl, ap, sym, ◌∙◌, subst}
use Rattle.std.proofs.lemmas.Bool.{and_parts}
use Rattle.std.proofs.lemmas.Option.{none-some}
use Rattle.std.specs.Prelude.{is_some, slice_get, codes}
use Rattle.oc_tree.specs.Names.{Text}
use Rattle.oc_tree.specs.Tree.{TFunction, TProgram}
use Rattle.oc_tree.specs.declared.tree.NvDecl.{NvDecl}
use Rattle.oc_tree.specs.Checked.{Group, IsChecked}
use Rattle.oc_tree.specs.Marked.{TRegion}
use Rattle.oc_tree.specs.Calls.{function_place}
use Rattle.oc_tree.specs.Walks.{args_known}
use Rattle.oc_meaning.specs.Store.{Store, Global, Turn}
use Rattle.oc_meaning.specs.Exec.{Passed, Went, Returned, Stopped}
use Rattle.oc_meaning.specs.Run.{function_named, function_run, call_to, first_values, first_store}
use Rattle.oc_checked.proofs.Declared.{all_within}
use Rattle.oc_checked.proofs.Mains.{main_called, main_takes_none}
use Rattle.oc_copies.specs.Copies.{AreCopies, AreCopiedBack, own_run, beside, MayPass, HasStored, CopiesTellTheSame}
use Rattle.oc_copies.specs.Stands.{AreFormed, DoesCopy, CallsDoCopy, MainCopies}
use Rattle.oc_copies.proofs.Lawful.{is_there, found_named}
use Rattle.oc_copies.proofs.Copied.{calls_copy, calls_copy_back}
use Rattle.oc_copies.proofs.Frames.{frames_hold}
use Rattle.oc_copies.proofs.MayPass.{calls_may_pass}
use Rattle.oc_copies.proofs.StandsOn.{frames_stand}

module _ (p : TProgram) (groups : List Group) (checked : IsChecked p groups) (regions : List TRegion) (depth : ℕ) (f : Text) (u : ℕ) (g : TFunction) (placed : function_place p.functions f ≡ Some u)
    (stands : slice_get p.functions u ≡ Some g) (ps : List Passed) (σ : Store) (stored : HasStored p σ) (may : MayPass p u g ps σ) (formed : AreFormed g.params ps) where
  named : function_named p.functions f ≡ Some g
  named = let found = found_named p f u placed in found.named ∙ sym found.stands ∙ stands

  does_copy : DoesCopy p regions depth f ps σ
  does_copy = record {
    number = u;
    function = g;
    placed = placed;
    stands = stands;
    may = may;
    formed = formed;
    begins = frames_stand p groups checked u g stands ps σ formed;
    holds = frames_hold p g ps σ may.as_many;
    back = subst (λ o. AreCopiedBack p (length σ.locals) g ps σ (function_run p regions (call_to p regions depth) o ps σ) (own_run p regions depth g ps σ)) (sym named)
        (calls_copy_back p groups checked regions depth u g stands ps σ stored may);
    copies = subst (λ o. AreCopies (length σ.locals) g ps (function_run p regions (call_to p regions depth) o ps σ) (own_run p regions depth g ps σ)) (sym named)
        (calls_copy p groups checked regions depth u g stands ps σ stored may);
  }

pub calls_do_copy : CallsDoCopy
calls_do_copy p groups checked regions depth scope env σ stands stored f args ruled ps e =
    let v = is_there (function_place p.functions f) (and_parts (is_some (function_place p.functions f)) (args_known p scope args) ruled.known).0 in
    let found = found_named p f v.0 v.1 in
    let may = calls_may_pass p scope env σ stands f args ruled v.0 found.function v.1 found.stands ps e in
    does_copy p groups checked regions depth f v.0 found.function v.1 found.stands ps σ stored may.0 may.1

-- ---- the run of a program

first_many : (ds : List NvDecl) → length (first_values ds) ≡ length ds
first_many [] = refl
first_many (d ∷ ds) = ap suc (first_many ds)

none_may : (p : TProgram) (u : ℕ) (g : TFunction) (σ : Store) → g.params ≡ [] → MayPass p u g [] σ
none_may p u g σ e = record {
  as_many = sym (ap length e);
  form = λ i q h k. none-some q h;
  there = λ i q h. absurd (none-some q h);
  once = λ i j q k h l. absurd (none-some q h);
  fixed = λ i z k h. none-some (Turn z) h;
  unnamed = λ i k x h n. absurd (none-some (Global k) h);
}

pub main_copies : MainCopies
main_copies p groups checked regions samples =
    let within = all_within p checked.form.declared checked.unbroken in
    let m = main_called p within in
    let stored : HasStored p (first_store p samples) = first_many p.nv ∙ checked.form.declared.each_nv in (
      stored,
      does_copy p groups checked regions (length p.functions) (codes "main") m.number m.callee m.placed m.stands [] (first_store p samples) stored
          (none_may p m.number m.callee (first_store p samples) (main_takes_none p within))
          (subst (λ qs. AreFormed qs []) (sym (main_takes_none p within)) tt),
    )

-- ---- what is told

told_same : (σ τ : Store) → beside σ ≡ beside τ → σ.events ≡ τ.events
told_same σ τ e = ap (λ (υ : Store). υ.events) e

pub copies_tell_the_same : CopiesTellTheSame
copies_tell_the_same p n g ps σ (Went τ) (Went υ) h = told_same τ υ h.rest
copies_tell_the_same p n g ps σ (Returned v τ) (Returned w υ) h = told_same τ υ h.1.rest
copies_tell_the_same p n g ps σ (Stopped s τ) (Stopped r υ) h = told_same τ υ h.1
copies_tell_the_same p n g ps σ (Went τ) (Returned w υ) h = absurd h
copies_tell_the_same p n g ps σ (Went τ) (Stopped r υ) h = absurd h
copies_tell_the_same p n g ps σ (Returned v τ) (Went υ) h = absurd h
copies_tell_the_same p n g ps σ (Returned v τ) (Stopped r υ) h = absurd h
copies_tell_the_same p n g ps σ (Stopped s τ) (Went υ) h = absurd h
copies_tell_the_same p n g ps σ (Stopped s τ) (Returned w υ) h = absurd h
