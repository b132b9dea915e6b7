-- How far a period of power carries a run, at least: in instructions that are kept, and in steps.
use Rattle.std.specs.Prelude.{◌≡◌, ◌≤◌, ◌<◌, ◌⊎◌, ℕ, zero, suc, ◌+◌, ◌*◌, ◌-◌, ℤ, max, nat_lt}
use Rattle.std.specs.Prelude.{List, [], ◌∷◌, ◌++◌}
use Rattle.std.specs.Prelude.{Bool, false, if◌then◌else◌}
use Rattle.oc_io.specs.declared.period.Period.{Period}
use Rattle.oc_tree.specs.declared.said.Ending.{Ending}
use Rattle.oc_isa.specs.declared.phase.Phase.TheVariants.{Over}
use Rattle.oc_isa.specs.Next.{Device}
use Rattle.oc_isa.specs.Power.{is_over, power_run}
use Rattle.oc_outage.specs.Kept.{kept_after}
use Rattle.oc_bounds.specs.Bounds.{Bounds, AreLong}

-- Periods

-- by these bounds no region is entered: where one is, `safe` has the steps to restore one stack and
-- to save another
abbrev pub is_plain : Device → Bounds → Bool
is_plain d b = nat_lt b.safe (2 * d.room + 9)

-- the fewest steps with which a period is sure to carry a run further: those of a boot with a full
-- stack and of what comes next, an instruction, the entry of a region, or an attempt with all that
-- it logs
abbrev pub least : Device → Bounds → ℕ
least d b = if is_plain d b then b.safe else max (2 * d.room + 9) (b.safe - (d.room + 4))

-- the steps of two instructions, with those of an entry and of so many words that are logged: a
-- region has two at least, its `enter` and its `commit`
abbrev pub two_steps : Device → Bounds → (most : ℕ) → ℕ
two_steps d b most = if is_plain d b then 2 else 5 + d.room + most

-- the steps that periods have from the number `low` on, with that one, add up to so many, and no
-- period that is needed for it loses a checkpoint
abbrev pub AddUp : (low steps : ℕ) → List Period → Type 0
AddUp low zero periods = Unit {0}
AddUp low (suc n) [] = ⊥
AddUp low (suc n) (p ∷ periods) = (p.cut ≡ false) × AddUp low (suc n - (suc p.on - low)) periods

-- periods have enough steps for the end of a run, by the numbers that are printed. No region logs
-- more words than `most`; `work` is half of what two instructions take, for each instruction of the
-- total; and the steps that the first periods have from the least number on add up to it
pub record HaveEnough (d : Device) (b : Bounds) (periods : List Period) : Type 0 where
  pub most : ℕ
  pub few : (r : ℕ) → b.logged r ≤ most
  pub work : ℕ
  pub half : b.total * two_steps d b most ≤ 2 * work
  pub steps : AddUp (least d b) work periods

-- periods suffice for the end of a run: of the first ones, one more than its total are safe, or as
-- many as its total have the least number of steps, or what they have from that number on adds up to
-- the steps of the run, or they have steps enough by the numbers that are printed
abbrev pub Suffice : Device → Bounds → List Period → Type 0
Suffice d b periods =
    AreLong b.safe (suc b.total) periods
    ⊎ (AreLong (least d b) b.total periods
    ⊎ (AddUp (least d b) b.steps periods ⊎ HaveEnough d b periods))

-- Laws of runs

-- a run over these periods ends by itself
abbrev pub RunEnds : Device → (ℕ → ℕ → ℤ) → List Period → Type 0
RunEnds d h periods = (how : Ending) × ((power_run d h periods).state.phase ≡ Over how)

-- each period that has the least number of steps keeps one instruction more at least, whatever the
-- periods before it are, or the run is over behind it
abbrev pub PeriodsKeep : Device → Bounds → (ℕ → ℕ → ℤ) → List Period → Type 0
PeriodsKeep d b h periods =
    (before rest : List Period) (p : Period) → before ++ p ∷ rest ≡ periods → least d b ≤ p.on
    → is_over (power_run d h (before ++ p ∷ [])).state.phase ≡ false
    → kept_after d h before < kept_after d h (before ++ p ∷ [])
