-- What regions must cover, and that runs with them are timely.
use Rattle.std.specs.Prelude.{◌≡◌, ◌⊎◌, ℕ, ℤ, Bool, true, false, List, Some}
use Rattle.std.specs.List.{list_all}
use Rattle.oc_tree.specs.Rules.{main}
use Rattle.oc_tree.specs.Calls.{function_place}
use Rattle.oc_tree.specs.Marked.{TRegion, TMarked, IsMarked, covers}
use Rattle.oc_meaning.specs.Run.{marked_run}
use Rattle.oc_effects.specs.Effects.{TCalled, TEffect, effects_at}
use Rattle.oc_tree.specs.Members.{IsOf}
use Rattle.oc_needs.specs.Requirements.{TRequirement, requirements}
use Rattle.oc_honest.specs.Timely.{RunsAreTimely}
use Rattle.oc_honest.specs.Held.{ran, AreHeld}

-- ---- what marks must cover

-- a region of the function at `f` covers the statement `s`
pub record IsCoveredAt (m : TMarked) (f s : ℕ) : Type 0 where
  pub region : TRegion
  pub one : IsOf region m.regions
  pub there : region.function ≡ f
  pub covered : covers m.program region s ≡ true

-- each call of a function that is guarded is in a region, or in a guarded function, and `main`
-- isn't guarded
pub record IsGuarding (m : TMarked) (guarded : ℕ → Bool) : Type 0 where
  pub main : (f : ℕ) → function_place m.program.functions main ≡ Some f → guarded f ≡ false
  pub calls : (f : ℕ) (a : TEffect) (c : TCalled) → IsOf a (effects_at m.program f)
      → a.call ≡ Some c → guarded c.function ≡ true → (guarded f ≡ true) ⊎ IsCoveredAt m f a.stmt

-- one region of its function covers all sites of the requirement
pub record IsMet (m : TMarked) (r : TRequirement) : Type 0 where
  pub region : TRegion
  pub one : IsOf region m.regions
  pub there : region.function ≡ r.function
  pub covered : list_all (covers m.program region) r.sites ≡ true

-- each requirement is met by a region, or lies in a guarded function
pub record IsCovering (m : TMarked) : Type 0 where
  pub guarded : ℕ → Bool
  pub guarding : IsGuarding m guarded
  pub met : (r : TRequirement)
      → IsOf r (requirements m.program) → (guarded r.function ≡ true) ⊎ IsMet m r

-- ---- the laws

-- Where the regions cover what is required, each run over any samples holds together what must be.
abbrev pub MarksHold : Type 0
MarksHold =
    (m : TMarked) → IsMarked m → IsCovering m
    → (samples : List ℤ) → AreHeld m.program (ran (marked_run m.program m.regions samples).events)

-- where the regions cover what is required, each run is timely with outages anywhere outside of
-- them
abbrev pub MarksAreTimely : Type 0
MarksAreTimely = (m : TMarked) → IsMarked m → IsCovering m → RunsAreTimely m
