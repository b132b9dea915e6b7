-- What a report keeps, whenever power fails, and how a run is left.
use Rattle.std.specs.Prelude.{◌≡◌, ◌≤◌, ℕ, suc, ◌+◌, ℤ, List, [], ◌∷◌, Bool, true, false, not, if◌then◌else◌}
use Rattle.oc_io.specs.declared.period.Period.{Period}
use Rattle.oc_tree.specs.Said.{Told}
use Rattle.oc_tree.specs.declared.said.Said.{Said}
use Rattle.oc_tree.specs.declared.said.Said.TheVariants.{Sensed, Off, Dark, Ended}
use Rattle.oc_ckpt.specs.declared.AreaState.{AreaState}
use Rattle.oc_ckpt.specs.declared.AreaState.TheVariants.{Armed}
use Rattle.oc_isa.specs.declared.phase.Phase.{Phase}
use Rattle.oc_isa.specs.declared.phase.Phase.TheVariants.{Running, Entering, Over, Lost}
use Rattle.oc_isa.specs.Next.{Regs, Enters, Device}
use Rattle.oc_isa.specs.Run.{continuous_run}
use Rattle.oc_isa.specs.Power.{State, World, is_over, ticks_on, one_period}
use Rattle.oc_items.specs.Erase.{erase, marked, kept_samples, HasNoOffInside}
use Rattle.oc_items.specs.Reports.{IsPrefixOf, EndsWith}

-- the image tells at the address behind each `enter` which region it begins
pub record IsFit (d : Device) : Type 0 where
  pub entered : (regs : Regs) (nv : List ℤ) (r : ℕ) (to : Regs)
      → d.next regs nv ≡ Enters r to → d.region to.pc ≡ r

-- how many steps the periods have
abbrev pub all_on : List Period → ℕ
all_on [] = 0
all_on (p ∷ periods) = p.on + all_on periods

-- an input has the value that its sensor shows at its tick
abbrev pub IsRead : (ℕ → ℕ → ℤ) → ℕ → Said → Type 0
IsRead h tick (Sensed sensor value) = value ≡ h sensor tick
IsRead h tick s = Unit {0}

-- each input of a report has the value that its sensor shows at its tick
abbrev pub AreRead : (ℕ → ℕ → ℤ) → List Told → Type 0
AreRead h [] = Unit {0}
AreRead h (i ∷ is) = IsRead h i.tick i.said × AreRead h is

-- without its aborted attempts, a report says what the run without outages says in its first n
-- instructions, over the kept samples, or a prefix of it; no outage lies in a region; and each
-- input is the sensor's
pub record IsHonest (d : Device) (h : ℕ → ℕ → ℤ) (n : ℕ) (report : List Told) : Type 0 where
  pub said : IsPrefixOf (marked report) ((continuous_run d (kept_samples report) n).out)
  pub outside : HasNoOffInside false (erase report)
  pub read : AreRead h report

-- over the kept samples the run without outages says what the report says and leaves these
-- nonvolatile words, in n instructions and in any more
pub record IsWhole (d : Device) (n : ℕ) (report : List Told) (nv : List ℤ) : Type 0 where
  pub said : (more : ℕ)
      → n ≤ more → (continuous_run d (kept_samples report) more).out ≡ marked report
  pub left : (more : ℕ) → n ≤ more → (continuous_run d (kept_samples report) more).core.nv ≡ nv

-- over each list of samples the run without outages has said just this, from some number of
-- instructions on
abbrev pub IsSaidBy : Device → (List ℤ → List Said) → Type 0
IsSaidBy d said =
    (samples : List ℤ)
    → (n : ℕ) × ((more : ℕ) → n ≤ more → (continuous_run d samples more).out ≡ said samples)

-- How a run is left

-- the last item, where the run ended by itself, lost a checkpoint, or used the periods up
abbrev pub IsLeft : Phase → List Told → Type 0
IsLeft (Over how) report = EndsWith report (Ended how)
IsLeft Lost report = (ticks : ℕ) × EndsWith report (Off ticks)
IsLeft phase report = EndsWith report Dark

-- boot is over, and the run goes on
abbrev pub is_awake : Phase → Bool
is_awake Running = true
is_awake (Entering done) = true
is_awake phase = false

-- the area holds the checkpoint of a region that is under way
abbrev pub is_armed : AreaState → Bool
is_armed Armed = true
is_armed area = false

-- at the end of this period a checkpoint is cut: one is taken where boot is over and no region is under way
abbrev pub loses : Period → State → Bool
loses p s = if p.cut then (if is_awake s.phase then not (is_armed s.area) else false) else false

-- some period ends with a checkpoint that is cut
abbrev pub loses_checkpoint : Device → (ℕ → ℕ → ℤ) → List Period → World → Bool
loses_checkpoint d h [] w = false
loses_checkpoint d h (p ∷ periods) w =
    if loses p (ticks_on d h p.on w).state
    then true else loses_checkpoint d h periods (one_period d h p w)

-- how many of the periods a run begins from here: none behind the one in which it is over
abbrev pub begun : Device → (ℕ → ℕ → ℤ) → List Period → World → ℕ
begun d h [] w = 0
begun d h (p ∷ periods) w =
    if is_over w.state.phase then 0 else suc (begun d h periods (one_period d h p w))
