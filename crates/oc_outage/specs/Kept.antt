-- How many instructions of a run are kept, whenever power fails, and where the run without outages
-- stands behind them.
use Rattle.std.specs.Prelude.{◌≡◌, ℕ, zero, suc, ◌+◌, ℤ, nat_lt}
use Rattle.std.specs.Prelude.{List, [], ◌∷◌, ◌++◌, length, reverse, take, drop}
use Rattle.std.specs.Prelude.{Option, Some, None, if◌then◌else◌}
use Rattle.oc_io.specs.declared.period.Period.{Period}
use Rattle.oc_tree.specs.Said.{Told}
use Rattle.oc_tree.specs.declared.said.Said.{Said}
use Rattle.oc_tree.specs.declared.said.Said.TheVariants.{Entered}
use Rattle.oc_undo.specs.Undo.{undo}
use Rattle.oc_ckpt.specs.declared.AreaState.{AreaState}
use Rattle.oc_ckpt.specs.declared.AreaState.TheVariants.{Fresh, Open, Sealed, Armed}
use Rattle.oc_isa.specs.declared.phase.Phase.{Phase}
use Rattle.oc_isa.specs.declared.phase.Phase.TheVariants.{Running, Entering, Over, Lost}
use Rattle.oc_isa.specs.Next.{Regs, Next, Goes, Senses, Enters, Commits, Ends, Stuck, Device}
use Rattle.oc_isa.specs.Run.{Core, core_at, stops, continuous_run}
use Rattle.oc_isa.specs.Power.{State, World, words_of, word_of, number_of, regs_of, to_log, next_at}
use Rattle.oc_isa.specs.Power.{tick_on, one_period, first_world, power_run}
use Rattle.oc_items.specs.Erase.{marked, kept_samples}
use Rattle.oc_outage.specs.Honest.{IsWhole}

-- Counting

-- how many instructions a run took
pub record Count : Type 0 where
  -- how many are kept, whatever comes
  pub kept : ℕ
  -- how many an attempt that is under way took
  pub tried : ℕ

-- the count where so many instructions are kept, and no attempt took any
abbrev pub untried : (kept : ℕ) → Count
untried kept = record { kept = kept; tried = 0 }

-- the count with one instruction more at this depth: outside of regions it is kept, in an attempt
-- it is tried
abbrev pub takes_one : (depth : ℕ) → Count → Count
takes_one zero c = untried (suc c.kept)
takes_one (suc k) c = record { kept = c.kept; tried = suc c.tried }

-- the count with one instruction more, with which the attempt that took it is kept
abbrev pub closes : Count → Count
closes c = untried (suc (c.kept + c.tried))

-- the count after a step that goes on: one that logs a word is no instruction
abbrev pub count_write : (logs : Option ℕ) → (depth : ℕ) → Count → Count
count_write (Some addr) depth c = c
count_write None depth c = takes_one depth c

-- the count after a step of an outermost `enter`: the last one, which arms, is the instruction, and
-- it is kept
abbrev pub count_entry : (done : ℕ) → Regs → Count → Count
count_entry done to c = if nat_lt done (length (words_of to)) then c else takes_one 0 c

-- the count after the first step of an `enter` at this depth
abbrev pub count_enter : (depth : ℕ) → Regs → Count → Count
count_enter zero to c = count_entry 0 to c
count_enter (suc k) to c = takes_one (suc k) c

-- the count after a `commit`: the outermost one keeps the attempt, and one at depth 0 is undefined
abbrev pub count_commit : (depth : ℕ) → Count → Count
count_commit zero c = c
count_commit (suc zero) c = closes c
count_commit (suc (suc k)) c = takes_one (suc k) c

-- the count after the end of a run, which is an instruction; in an attempt, which a trap ends, it
-- keeps what the attempt took
abbrev pub count_end : (depth : ℕ) → Count → Count
count_end zero c = takes_one 0 c
count_end (suc k) c = closes c

-- the count after a step at an instruction that does this
abbrev pub count_next : Next → State → Count → Count
count_next (Goes to w shown) s c = count_write (to_log s.depth w s.log) s.depth c
count_next (Senses x to) s c = takes_one s.depth c
count_next (Enters r to) s c = count_enter s.depth to c
count_next (Commits r to) s c = count_commit s.depth c
count_next (Ends how) s c = count_end s.depth c
count_next Stuck s c = c

-- the count after a further step of an outermost `enter` that is under way
abbrev pub count_entering : (done : ℕ) → Next → Count → Count
count_entering done (Enters r to) c = count_entry done to c
count_entering done n c = c

-- the count after a step at this state: those of a boot are no instructions
abbrev pub counted : Device → Phase → State → Count → Count
counted d Running s c = count_next (next_at d s) s c
counted d (Entering done) s c = count_entering done (next_at d s) c
counted d phase s c = c

-- the count after so many steps under power
abbrev pub count_ticks : Device → (ℕ → ℕ → ℤ) → ℕ → World → Count → Count
count_ticks d h zero w c = c
count_ticks d h (suc n) w c = count_ticks d h n (tick_on d h w) (counted d w.state.phase w.state c)

-- how many instructions are kept behind these periods, of which `kept` were before them: an outage
-- breaks an attempt off, and nothing of it is kept
abbrev pub kept_on : Device → (ℕ → ℕ → ℤ) → List Period → World → (kept : ℕ) → ℕ
kept_on d h [] w kept = kept
kept_on d h (p ∷ periods) w kept =
    kept_on d h periods (one_period d h p w) (count_ticks d h p.on w (untried kept)).kept

-- how many instructions a run has kept behind its first periods, which are these
abbrev pub kept_after : Device → (ℕ → ℕ → ℤ) → List Period → ℕ
kept_after d h periods = kept_on d h periods (first_world d) 0

-- What the count means

-- the registers and the stack that the area holds: pc, fp, sp, then the stack from its first word
abbrev pub held_regs : List ℤ → Regs
held_regs words = record {
  pc = number_of (word_of words 0);
  fp = number_of (word_of words 1);
  stack = reverse (take (number_of (word_of words 2)) (drop 3 words));
}

-- where a run goes on behind an outage, once a boot is over: at its start, at the checkpoint, or
-- behind the `enter` of a region, with the old nonvolatile words
abbrev pub goes_on_at : Device → AreaState → State → Core
goes_on_at d Fresh s = core_at d.start 0 s.nv
goes_on_at d Open s = core_at (regs_of s) 0 s.nv
goes_on_at d Sealed s = core_at (held_regs s.words) 0 s.nv
goes_on_at d Armed s = core_at (held_regs s.words) 1 (undo s.log s.nv)

-- what is said up to where a run goes on: of an attempt that was broken off, its `enter`
abbrev pub said_up_to : Device → AreaState → State → List Told → List Said
said_up_to d Armed s report = marked report ++ Entered (d.region (held_regs s.words).pc) ∷ []
said_up_to d area s report = marked report

-- in just n instructions the run without outages over the kept samples has said what is kept of the
-- report, and stands where the run goes on. Where a checkpoint is lost the registers are lost
abbrev pub StandsAfter : Device → Phase → (n : ℕ) → State → List Told → Type 0
StandsAfter d (Over how) n s report = IsWhole d n report s.nv
StandsAfter d Lost n s report =
    (regs : Regs)
    × (continuous_run d (kept_samples report) n ≡ stops (core_at regs 0 s.nv) (marked report))
StandsAfter d phase n s report =
    continuous_run d (kept_samples report) n
    ≡ stops (goes_on_at d s.area s) (said_up_to d s.area s report)

-- behind these periods of power so many instructions are kept as are counted
abbrev pub CountIsKept : Device → (ℕ → ℕ → ℤ) → List Period → Type 0
CountIsKept d h periods =
    let end = power_run d h periods in
    StandsAfter d end.state.phase (kept_after d h periods) end.state end.report
