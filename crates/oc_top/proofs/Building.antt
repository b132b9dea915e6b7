-- The image of an accepted program.
use Rattle.std.proofs.Common.{◌≡◌, ◌∙◌, ℕ, List, ap, sym, subst}
use Rattle.oc_tree.specs.Tree.{TProgram}
use Rattle.oc_tree.specs.Marked.{TMarked, IsMarked}
use Rattle.oc_isa.specs.Image.{Parts}
use Rattle.oc_isa.specs.Run.{IsSound}
use Rattle.oc_isa.specs.Table.{device_of}
use Rattle.oc_code.specs.Right.{IsRight}
use Rattle.oc_writes.specs.Targets.{may_write}
use Rattle.oc_bounds.specs.Bounds.{IsBounded}
use Rattle.oc_budget.specs.Bounding.{bounds_of, BudgetsBound}
use Rattle.oc_honest.specs.Timely.{RunsAreTimely}
use Rattle.oc_top.specs.Meant.{program_marked, marked_code, program_code, RunsAs}
use Rattle.oc_top.specs.Steps.{IsAccepted, IsMarkedOf, IsBuilt}

pub is_marked : (source : List ℕ) (p : TProgram) (m : TMarked) → IsAccepted source p → m ≡ program_marked p → RunsAreTimely m → IsMarkedOf source m
is_marked source p m a e timely = record { written = p; reads = (a.spelled, a.unbroken); is_marked = e; timely = timely }

-- the budgets bound the runs of the image
pub bounded_code : (m : TMarked) (parts : Parts) → IsMarked m → BudgetsBound → parts ≡ marked_code m → IsBounded (device_of parts) (bounds_of m)
bounded_code m parts is law e = subst (λ (i : Parts). IsBounded (device_of i) (bounds_of m)) (sym e) (law m is)

pub built : (source : List ℕ) (m : TMarked) (parts : Parts) → IsMarkedOf source m → parts ≡ marked_code m → IsRight m.program m.regions (may_write m)
    → IsBounded (device_of parts) (bounds_of m) → IsBuilt source parts
built source m parts a is right bounded =
    let code : parts ≡ program_code a.written = is ∙ ap marked_code a.is_marked in
    let whole : IsRight (program_marked a.written).program (program_marked a.written).regions (may_write (program_marked a.written)) =
    subst (λ (n : TMarked). IsRight n.program n.regions (may_write n)) a.is_marked right in
    record {
      written = a.written;
      reads = a.reads;
      is_code = code;
      sound = subst (λ (i : Parts). IsSound (device_of i)) (sym code) whole.sound;
      runs = subst (λ (i : Parts). RunsAs i a.written) (sym code) whole.shows;
      bounded = subst (λ (n : TMarked). IsBounded (device_of parts) (bounds_of n)) a.is_marked bounded;
      timely = subst RunsAreTimely a.is_marked a.timely;
    }
