-- What a step tells of how the run ends. No image has to be sound for this.
use Rattle.std.proofs.Common.{◌≡◌, ℕ, zero, suc, ℤ, length, Option, Some, None, refl, Bool, true, false}
use Rattle.std.specs.Prelude.{nat_lt, if◌then◌else◌}
use Rattle.oc_tree.specs.declared.said.Said.{Said}
use Rattle.oc_tree.specs.declared.said.Said.TheVariants.{Ended}
use Rattle.oc_tree.specs.declared.said.Shown.{Shown}
use Rattle.oc_ckpt.specs.declared.AreaState.{AreaState}
use Rattle.oc_ckpt.specs.declared.AreaState.TheVariants.{Fresh, Open, Sealed, Armed}
use Rattle.oc_isa.specs.declared.phase.Phase.{Phase}
use Rattle.oc_isa.specs.declared.phase.Phase.TheVariants.{Waking, Restoring, Running, Entering, Over, Lost}
use Rattle.oc_isa.specs.Next.{Regs, Next, Goes, Senses, Enters, Commits, Ends, Stuck, Device}
use Rattle.oc_isa.specs.Power.{State, Stepped, World, held, undo_phase, wake, restore, resume, enter, enters, enter_on, commits, goes, to_log, run_next, shown_of, words_of}

abbrev pub IsNoEnd : Said → Type 0
IsNoEnd (Ended how) = ⊥
IsNoEnd s = Unit {0}

abbrev pub TellsNoEnd : Option Said → Type 0
TellsNoEnd None = Unit {0}
TellsNoEnd (Some s) = IsNoEnd s

-- a step of a run that isn't over loses no checkpoint, and says that the run ends exactly where it ends it
abbrev pub IsTold : Phase → Option Said → Type 0
IsTold (Over how) said = said ≡ Some (Ended how)
IsTold Lost said = ⊥
IsTold p said = TellsNoEnd said

abbrev pub TellsItsEnd : Stepped → Type 0
TellsItsEnd r = IsTold r.state.phase r.said

-- the state in a phase, and the world
abbrev pub in_phase : State → Phase → State
in_phase s p = record s { phase = p }

abbrev pub world_in : World → Phase → World
world_in w p = record w { state = in_phase w.state p }

pub told_undoing : (k : ℕ) → IsTold (undo_phase k) None
told_undoing zero = tt
told_undoing (suc k) = tt

pub wake_tells : (d : Device) (a : AreaState) (s : State) → TellsItsEnd (wake d a (in_phase s Waking))
wake_tells d Fresh s = tt
wake_tells d Open s = tt
wake_tells d Sealed s = tt
wake_tells d Armed s = told_undoing (length s.log)

resume_tells : (d : Device) (a : AreaState) (done : ℕ) (s : State) → TellsItsEnd (resume d a (in_phase s (Restoring done)))
resume_tells d Fresh done s = tt
resume_tells d area done s = tt

choice_tells : (b : Bool) (x y : Stepped) → TellsItsEnd x → TellsItsEnd y → TellsItsEnd (if b then x else y)
choice_tells true x y p q = p
choice_tells false x y p q = q

pub restore_tells : (d : Device) (done : ℕ) (s : State) → TellsItsEnd (restore d done (in_phase s (Restoring done)))
restore_tells d done s = choice_tells (nat_lt done (held s.words)) _ _ tt (resume_tells d s.area done s)

enter_tells : (done r : ℕ) (to : Regs) (s : State) → TellsItsEnd (enter done r to s)
enter_tells done r to s = choice_tells (nat_lt done (length (words_of to))) _ _ tt tt

enters_tells : (depth r : ℕ) (to : Regs) (s : State) → TellsItsEnd (enters depth r to s)
enters_tells zero r to s = enter_tells 0 r to s
enters_tells (suc k) r to s = tt

pub enter_on_tells : (done : ℕ) (n : Next) (s : State) → TellsItsEnd (enter_on done n (in_phase s (Entering done)))
enter_on_tells done (Enters r to) s = enter_tells done r to (in_phase s (Entering done))
enter_on_tells done x s = tt

commits_tells : (depth r : ℕ) (to : Regs) (s : State) → TellsItsEnd (commits depth r to (in_phase s Running))
commits_tells zero r to s = tt
commits_tells (suc zero) r to s = tt
commits_tells (suc (suc k)) r to s = tt

shown_tells : (to : Option Shown) → TellsNoEnd (shown_of to)
shown_tells None = tt
shown_tells (Some what) = tt

goes_tells : (a : Option ℕ) (to : Regs) (w : _) (v : Option Shown) (s : State) → TellsItsEnd (goes a to w v (in_phase s Running))
goes_tells None to w v s = shown_tells v
goes_tells (Some a) to w v s = tt

pub next_tells : (sample : ℕ → ℤ) (n : Next) (s : State) → TellsItsEnd (run_next sample n (in_phase s Running))
next_tells sample (Goes to w v) s = goes_tells (to_log s.depth w s.log) to w v s
next_tells sample (Senses x to) s = tt
next_tells sample (Enters r to) s = enters_tells s.depth r to (in_phase s Running)
next_tells sample (Commits r to) s = commits_tells s.depth r to s
next_tells sample (Ends how) s = refl
next_tells sample Stuck s = tt
