-- The whole run, but for what sets gather.
use Rattle.std.proofs.Common.{◌≡◌, ℕ, Bool, List, [], ◌∷◌, length, Option, Some, None, refl}
use Rattle.std.specs.Prelude.{ℤ, codes, slice_get}
use Rattle.oc_tree.specs.Tree.{TFunction, TProgram}
use Rattle.oc_tree.specs.Checked.{Group, IsChecked}
use Rattle.oc_tree.specs.Calls.{function_place}
use Rattle.oc_tree.specs.Marked.{TMarked}
use Rattle.oc_tree.specs.declared.said.Said.{Said}
use Rattle.oc_tree.specs.declared.said.Said.TheVariants.{Sensed, Showed}
use Rattle.oc_tree.specs.declared.said.Shown.TheVariants.{Used, Finished, Tagged}
use Rattle.oc_meaning.specs.Store.{Event, Store}
use Rattle.oc_meaning.specs.Run.{function_named, function_run, call_to, first_store, main_run}
use Rattle.oc_copies.specs.Copies.{CallsCopy, HasStored, MayPass, own_run, lent_run}
use Rattle.oc_copies.specs.Stands.{AreFormed}
use Rattle.oc_timely.specs.Enough.{IsGood, AllGood}
use Rattle.oc_timely.specs.Modes.{IsFine, AllFine, IsGathered, AllGathered, FineOut}
use Rattle.oc_timely.proofs.Calls.{FindsOwn, CalleeAt, fine_copies}
use Rattle.oc_timely.proofs.Sound.{Knows, runs_fine}

-- ---- good is fine and gathered

good_one : (p : TProgram) (s : Said) (e : Event) (es : List Event) → IsFine s e es → IsGathered p s e es → IsGood p s e es
good_one p (Sensed n z) e es f g = f
good_one p (Showed (Used n)) e es f g = f
good_one p (Showed (Finished n)) e es f g = f
good_one p (Showed (Tagged n)) e es f g = (f, g)
good_one p s e es f g = tt

pub good_of : (p : TProgram) (es : List Event) → AllFine es → AllGathered p es → AllGood p es
good_of p [] f g = tt
good_of p (e ∷ es) f g = (good_one p e.said e es f.0 g.0, good_of p es f.1 g.1)

-- ---- the run of `main`

pub main_fine : (m : TMarked) (groups : List Group) (checked : IsChecked m.program groups) (guarded : ℕ → Bool) (copies : CallsCopy) (callees : CalleeAt m.program) →
    ((f : ℕ) (g : TFunction) → slice_get m.program.functions f ≡ Some g → Knows m guarded f g) → (samples : List ℤ) → HasStored m.program (first_store m.program samples) →
    ((u : ℕ) (g : TFunction) → function_place m.program.functions (codes "main") ≡ Some u → slice_get m.program.functions u ≡ Some g
    → MayPass m.program u g [] (first_store m.program samples) × AreFormed g.params [] × FindsOwn m guarded u g [] (first_store m.program samples)) → FineOut (main_run m.program m.regions samples)
main_fine m groups checked guarded copies callees knows samples stored starts = by (function_named m.program.functions (codes "main")) refl
  where
    σ : Store
    σ = first_store m.program samples

    by : (o : Option TFunction) → function_named m.program.functions (codes "main") ≡ o →
        FineOut (function_run m.program m.regions (call_to m.program m.regions (length m.program.functions)) o [] (first_store m.program samples))
    by None e = tt
    by (Some g) e =
        let c = callees (codes "main") g e in
        let s = starts c.0 g c.1 c.2 in
        fine_copies (length (first_store m.program samples).locals) g [] (lent_run m.program m.regions (length m.program.functions) g [] (first_store m.program samples))
        (own_run m.program m.regions (length m.program.functions) g [] (first_store m.program samples))
        (copies m.program groups checked m.regions (length m.program.functions) c.0 g c.2 [] (first_store m.program samples) stored s.0)
        (runs_fine m groups checked guarded copies callees knows (length m.program.functions) c.0 g c.2 [] (first_store m.program samples) stored s.1 s.2 tt)
