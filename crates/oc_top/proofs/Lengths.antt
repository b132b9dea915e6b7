-- A run keeps the number of the nonvolatile words.
use Rattle.std.proofs.Common.{ℕ, zero, suc, ◌+◌, ◌≡◌, ◌∙◌, ℤ, List, [], ◌∷◌, length, map, Option, Some, None, refl, sym, ap₂, Bool, true, false}
use Rattle.std.proofs.lemmas.List.{length-set, length-append, length-replicate}
use Rattle.std.proofs.lemmas.List.Sums.{sum_by-cons}
use Rattle.std.specs.Prelude.{nat_lt, if◌then◌else◌, sum, slice_get, replicate}
use Rattle.oc_io.specs.declared.period.Period.{Period}
use Rattle.oc_tree.specs.declared.tree.NvDecl.{NvDecl}
use Rattle.oc_tree.specs.declared.said.Shown.{Shown}
use Rattle.oc_undo.specs.declared.Entry.{Entry}
use Rattle.oc_ckpt.specs.declared.AreaState.{AreaState}
use Rattle.oc_ckpt.specs.declared.AreaState.TheVariants.{Fresh, Open, Sealed, Armed}
use Rattle.oc_isa.specs.declared.phase.Phase.{Phase}
use Rattle.oc_isa.specs.declared.phase.Phase.TheVariants.{Waking, Undoing, Restoring, Running, Entering, Over, Lost}
use Rattle.oc_isa.specs.Image.{initial_words}
use Rattle.oc_isa.specs.Next.{Regs, Write, Next, Goes, Senses, Enters, Commits, Ends, Stuck, Device, written}
use Rattle.oc_isa.specs.Power.{State, Stepped, World, held, undone, wake, restore, resume, enter, enters, enter_on, commits, goes, to_log, run_next, next_at}
use Rattle.oc_isa.specs.Power.{words_of, step_in, fail_in, checkpoint, is_over, tick_on, ticks_on, power_fails, one_period, through, first_world, power_run}
use Rattle.oc_code.specs.Code.{image_nv}

-- so many words are left by a step
abbrev Has : ℕ → Stepped → Type 0
Has n r = length r.state.nv ≡ n

abbrev Keeps : State → Stepped → Type 0
Keeps s r = Has (length s.nv) r

choice_has : (n : ℕ) (b : Bool) (x y : Stepped) → Has n x → Has n y → Has n (if b then x else y)
choice_has n true x y p q = p
choice_has n false x y p q = q

wake_keeps : (d : Device) (a : AreaState) (s : State) → Keeps s (wake d a s)
wake_keeps d Fresh s = refl
wake_keeps d Open s = refl
wake_keeps d Sealed s = refl
wake_keeps d Armed s = refl

undone_keeps : (e : Option Entry) (nv : List ℤ) → length (undone e nv) ≡ length nv
undone_keeps None nv = refl
undone_keeps (Some e) nv = length-set nv e.addr e.old

resume_keeps : (d : Device) (a : AreaState) (s : State) → Keeps s (resume d a s)
resume_keeps d Fresh s = refl
resume_keeps d Open s = refl
resume_keeps d Sealed s = refl
resume_keeps d Armed s = refl

restore_keeps : (d : Device) (done : ℕ) (s : State) → Keeps s (restore d done s)
restore_keeps d done s = choice_has (length s.nv) (nat_lt done (held s.words)) _ _ refl (resume_keeps d s.area s)

enter_keeps : (done r : ℕ) (to : Regs) (s : State) → Keeps s (enter done r to s)
enter_keeps done r to s = choice_has (length s.nv) (nat_lt done (length (words_of to))) _ _ refl refl

enters_keeps : (depth r : ℕ) (to : Regs) (s : State) → Keeps s (enters depth r to s)
enters_keeps zero r to s = enter_keeps 0 r to s
enters_keeps (suc k) r to s = refl

enter_on_keeps : (done : ℕ) (n : Next) (s : State) → Keeps s (enter_on done n s)
enter_on_keeps done (Goes to w v) s = refl
enter_on_keeps done (Senses x to) s = refl
enter_on_keeps done (Enters r to) s = enter_keeps done r to s
enter_on_keeps done (Commits r to) s = refl
enter_on_keeps done (Ends how) s = refl
enter_on_keeps done Stuck s = refl

commits_keeps : (depth r : ℕ) (to : Regs) (s : State) → Keeps s (commits depth r to s)
commits_keeps zero r to s = refl
commits_keeps (suc zero) r to s = refl
commits_keeps (suc (suc k)) r to s = refl

written_keeps : (w : Option Write) (nv : List ℤ) → length (written w nv) ≡ length nv
written_keeps None nv = refl
written_keeps (Some w) nv = length-set nv w.addr w.word

goes_keeps : (a : Option ℕ) (to : Regs) (w : Option Write) (v : Option Shown) (s : State) → Keeps s (goes a to w v s)
goes_keeps None to w v s = written_keeps w s.nv
goes_keeps (Some a) to w v s = refl

next_keeps : (sample : ℕ → ℤ) (n : Next) (s : State) → Keeps s (run_next sample n s)
next_keeps sample (Goes to w v) s = goes_keeps (to_log s.depth w s.log) to w v s
next_keeps sample (Senses x to) s = refl
next_keeps sample (Enters r to) s = enters_keeps s.depth r to s
next_keeps sample (Commits r to) s = commits_keeps s.depth r to s
next_keeps sample (Ends how) s = refl
next_keeps sample Stuck s = refl

step_keeps : (d : Device) (sample : ℕ → ℤ) (p : Phase) (s : State) → Keeps s (step_in d sample p s)
step_keeps d sample Waking s = wake_keeps d s.area s
step_keeps d sample (Undoing k) s = undone_keeps (slice_get s.log k) s.nv
step_keeps d sample (Restoring done) s = restore_keeps d done s
step_keeps d sample Running s = next_keeps sample (next_at d s) s
step_keeps d sample (Entering done) s = enter_on_keeps done (next_at d s) s
step_keeps d sample (Over how) s = refl
step_keeps d sample Lost s = refl

-- ---- outages

checkpoint_keeps : (cut : Bool) (a : AreaState) (s : State) → length (checkpoint cut a s).nv ≡ length s.nv
checkpoint_keeps true Fresh s = refl
checkpoint_keeps true Open s = refl
checkpoint_keeps true Sealed s = refl
checkpoint_keeps true Armed s = refl
checkpoint_keeps false Fresh s = refl
checkpoint_keeps false Open s = refl
checkpoint_keeps false Sealed s = refl
checkpoint_keeps false Armed s = refl

fail_keeps : (d : Device) (cut : Bool) (p : Phase) (s : State) → Keeps s (fail_in d cut p s)
fail_keeps d cut Waking s = refl
fail_keeps d cut (Undoing k) s = refl
fail_keeps d cut (Restoring k) s = refl
fail_keeps d cut Running s = checkpoint_keeps cut s.area s
fail_keeps d cut (Entering done) s = checkpoint_keeps cut s.area s
fail_keeps d cut (Over how) s = refl
fail_keeps d cut Lost s = refl

-- ---- runs

abbrev wide : World → ℕ
wide w = length w.state.nv

choice_wide : (n : ℕ) (b : Bool) (x y : World) → wide x ≡ n → wide y ≡ n → wide (if b then x else y) ≡ n
choice_wide n true x y p q = p
choice_wide n false x y p q = q

module _ (d : Device) (h : ℕ → ℕ → ℤ) where
  tick_wide : (w : World) → wide (tick_on d h w) ≡ wide w
  tick_wide w = choice_wide (wide w) (is_over w.state.phase) w _ refl (step_keeps d (λ sensor. h sensor w.tick) w.state.phase w.state)

  ticks_wide : (n : ℕ) (w : World) → wide (ticks_on d h n w) ≡ wide w
  ticks_wide zero w = refl
  ticks_wide (suc n) w = ticks_wide n (tick_on d h w) ∙ tick_wide w

  fails_wide : (p : Period) (w : World) → wide (power_fails d p w) ≡ wide w
  fails_wide p w = choice_wide (wide w) (is_over w.state.phase) w _ refl (fail_keeps d p.cut w.state.phase w.state)

  through_wide : (periods : List Period) (w : World) → wide (through d h periods w) ≡ wide w
  through_wide [] w = choice_wide (wide w) (is_over w.state.phase) w _ refl refl
  through_wide (p ∷ periods) w = through_wide periods (one_period d h p w) ∙ fails_wide p (ticks_on d h p.on w) ∙ ticks_wide p.on w

  -- as many words as at first
  pub run_wide : (periods : List Period) → length (power_run d h periods).state.nv ≡ length d.initial
  run_wide periods = through_wide periods (first_world d)

-- so many words are declared
pub declared_wide : (ds : List NvDecl) → length (initial_words (map image_nv ds)) ≡ sum (map (λ (d : NvDecl). d.words) ds)
declared_wide [] = refl
declared_wide (d ∷ ds) =
    length-append (replicate d.words d.initial) (initial_words (map image_nv ds)) ∙ ap₂ (λ m n. m + n) (length-replicate d.words d.initial) (declared_wide ds)
    ∙ sym (sum_by-cons (λ (n : ℕ). n) d.words (map (λ (d : NvDecl). d.words) ds))
