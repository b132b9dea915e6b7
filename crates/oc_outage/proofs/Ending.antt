-- Nothing is told after the item that ends a run.
use Rattle.std.proofs.Common.{◌≡◌, ℕ, zero, suc, ℤ, List, [], ◌∷◌, ◌++◌, Option, Some, None, refl, sym, ap, ◌∙◌, subst, Bool, true, false}
use Rattle.oc_io.specs.declared.period.Period.{Period}
use Rattle.oc_tree.specs.Said.{Told}
use Rattle.oc_tree.specs.declared.said.Ending.{Ending}
use Rattle.oc_tree.specs.declared.said.Said.{Said}
use Rattle.oc_tree.specs.declared.said.Said.TheVariants.{Off, Dark, Ended}
use Rattle.oc_ckpt.specs.declared.AreaState.{AreaState}
use Rattle.oc_ckpt.specs.declared.AreaState.TheVariants.{Fresh, Open, Sealed, Armed}
use Rattle.oc_isa.specs.declared.phase.Phase.{Phase}
use Rattle.oc_isa.specs.declared.phase.Phase.TheVariants.{Waking, Undoing, Restoring, Running, Entering, Over, Lost}
use Rattle.oc_isa.specs.Next.{Device}
use Rattle.oc_isa.specs.Power.{State, Stepped, checkpoint, World, with_said, next_at, ticked, tick_on, ticks_on, abort_of, power_fails, darkness, one_period, through, first_world, power_run, step}
use Rattle.oc_items.specs.Reports.{EndsWith}
use Rattle.oc_outage.proofs.Telling.{IsNoEnd, TellsNoEnd, IsTold, TellsItsEnd, world_in, told_undoing, wake_tells, restore_tells, enter_on_tells, next_tells}

-- ---- lists of items

abbrev HasNoEnd : List Told → Type 0
HasNoEnd [] = Unit {0}
HasNoEnd (t ∷ ts) = IsNoEnd t.said × HasNoEnd ts

-- at most the last item ends a run
abbrev EndsOnlyLast : List Told → Type 0
EndsOnlyLast [] = Unit {0}
EndsOnlyLast (t ∷ []) = Unit {0}
EndsOnlyLast (t ∷ u ∷ rest) = IsNoEnd t.said × EndsOnlyLast (u ∷ rest)

only_last : (ts : List Told) → HasNoEnd ts → EndsOnlyLast ts
only_last [] n = tt
only_last (t ∷ []) n = tt
only_last (t ∷ u ∷ rest) n = (n.0, only_last (u ∷ rest) n.1)

no_end_more : (ts : List Told) (t : Told) → HasNoEnd ts → IsNoEnd t.said → HasNoEnd (ts ++ t ∷ [])
no_end_more [] t n s = (s, tt)
no_end_more (u ∷ us) t n s = (n.0, no_end_more us t n.1 s)

last_more : (ts : List Told) (t : Told) → HasNoEnd ts → EndsOnlyLast (ts ++ t ∷ [])
last_more [] t n = tt
last_more (u ∷ []) t n = (n.0, tt)
last_more (u ∷ v ∷ rest) t n = (n.0, last_more (v ∷ rest) t n.1)

-- behind an item that ends a run there is none
behind_end : (before rest : List Told) (t : Told) (how : Ending) → t.said ≡ Ended how → EndsOnlyLast (before ++ t ∷ rest) → rest ≡ []
behind_end [] [] t how e o = refl
behind_end [] (u ∷ rest) t how e o = absurd (subst IsNoEnd e o.0)
behind_end (b ∷ []) rest t how e o = behind_end [] rest t how e o.1
behind_end (b ∷ d ∷ before) rest t how e o = behind_end (d ∷ before) rest t how e o.1

split_end : (before rest : List Told) (t : Told) → (before ++ t ∷ []) ++ rest ≡ before ++ t ∷ rest
split_end [] rest t = refl
split_end (b ∷ before) rest t = ap (λ (ts : List Told). b ∷ ts) (split_end before rest t)

-- ---- runs

-- a run that is over has told its end at most as its last item, and another none
abbrev IsClear : Phase → List Told → Type 0
IsClear (Over how) report = EndsOnlyLast report
IsClear p report = HasNoEnd report

more : (report : List Told) (t : ℕ) (said : Option Said) → HasNoEnd report → TellsNoEnd said → HasNoEnd (with_said report t said)
more report t None n q = n
more report t (Some s) n q = no_end_more report (record { tick = t; said = s }) n q

last : (report : List Told) (t : ℕ) (said : Option Said) → HasNoEnd report → EndsOnlyLast (with_said report t said)
last report t None n = only_last report n
last report t (Some s) n = last_more report (record { tick = t; said = s }) n

stays_clear : (p : Phase) (report : List Told) (t : ℕ) (said : Option Said) → HasNoEnd report → IsTold p said → IsClear p (with_said report t said)
stays_clear (Over how) report t said n q = last report t said n
stays_clear Lost report t said n q = absurd q
stays_clear phase report t said n q = more report t said n q

awake_clear : (cut : Bool) (a : AreaState) (s : State) (report : List Told) → HasNoEnd report → IsClear ((checkpoint cut a s).phase) report
awake_clear true Fresh s report n = n
awake_clear true area s report n = n
awake_clear false Fresh s report n = n
awake_clear false area s report n = n

abort_says : (d : Device) (a : AreaState) (words : List ℤ) → TellsNoEnd (abort_of d a words)
abort_says d Fresh words = tt
abort_says d area words = tt

off_more : (report : List Told) (t off : ℕ) → HasNoEnd report → HasNoEnd (with_said report t (Some (Off off)))
off_more report t off n = no_end_more report (record { tick = t; said = Off off }) n tt

dark_last : (report : List Told) (t : ℕ) → HasNoEnd report → EndsOnlyLast (with_said report t (Some Dark))
dark_last report t n = last_more report (record { tick = t; said = Dark }) n

abbrev HasCleared : World → Type 0
HasCleared w = IsClear w.state.phase w.report

module _ (d : Device) (h : ℕ → ℕ → ℤ) where
  ticked_clear : (w : World) (r : Stepped) → HasNoEnd w.report → TellsItsEnd r → HasCleared (ticked w r)
  ticked_clear w r n q = stays_clear r.state.phase w.report w.tick r.said n q

  -- the step of a world in this phase
  abbrev stepped : Phase → World → Stepped
  stepped p w = step d (λ sensor. h sensor w.tick) (world_in w p).state

  tick_by : (p : Phase) (w : World) → HasCleared (world_in w p) → HasCleared (tick_on d h (world_in w p))
  tick_by Waking w n = ticked_clear (world_in w Waking) (stepped Waking w) n (wake_tells d w.state.area w.state)
  tick_by (Undoing k) w n = ticked_clear (world_in w (Undoing k)) (stepped (Undoing k) w) n (told_undoing k)
  tick_by (Restoring k) w n = ticked_clear (world_in w (Restoring k)) (stepped (Restoring k) w) n (restore_tells d k w.state)
  tick_by Running w n = ticked_clear (world_in w Running) (stepped Running w) n (next_tells (λ s. h s w.tick) (next_at d w.state) w.state)
  tick_by (Entering k) w n = ticked_clear (world_in w (Entering k)) (stepped (Entering k) w) n (enter_on_tells k (next_at d w.state) w.state)
  tick_by (Over how) w n = n
  tick_by Lost w n = n

  ticks_by : (n : ℕ) (w : World) → HasCleared w → HasCleared (ticks_on d h n w)
  ticks_by zero w c = c
  ticks_by (suc n) w c = ticks_by n (tick_on d h w) (tick_by w.state.phase w c)

  awake : (p : Period) (s : State) (report : List Told) (t : ℕ) → HasNoEnd report → IsClear ((checkpoint p.cut s.area s).phase) (with_said (with_said report t (abort_of d s.area s.words)) t (Some (Off p.off)))
  awake p s report t n = awake_clear p.cut s.area s _ (off_more _ t p.off (more report t _ n (abort_says d s.area s.words)))

  fails_by : (p : Period) (phase : Phase) (w : World) → HasCleared (world_in w phase) → HasCleared (power_fails d p (world_in w phase))
  fails_by p Waking w n = off_more w.report w.tick p.off n
  fails_by p (Undoing k) w n = off_more w.report w.tick p.off n
  fails_by p (Restoring k) w n = off_more w.report w.tick p.off n
  fails_by p Running w n = awake p (record w.state { phase = Running }) w.report w.tick n
  fails_by p (Entering k) w n = awake p (record w.state { phase = Entering k }) w.report w.tick n
  fails_by p (Over how) w n = n
  fails_by p Lost w n = n

  dark_by : (p : Phase) (w : World) → HasCleared (world_in w p) → EndsOnlyLast (darkness (world_in w p)).report
  dark_by (Over how) w n = n
  dark_by Lost w n = only_last w.report n
  dark_by phase w n = dark_last w.report w.tick n

  through_by : (periods : List Period) (w : World) → HasCleared w → EndsOnlyLast (through d h periods w).report
  through_by [] w c = dark_by w.state.phase w c
  through_by (p ∷ periods) w c =
      let v = ticks_on d h p.on w in
      through_by periods (one_period d h p w) (fails_by p v.state.phase v (ticks_by p.on w c))

  -- a front of a report that ends with `end` or `trap` is the whole report
  pub ends_whole : (periods : List Period) (front rest : List Told) (how : Ending) → front ++ rest ≡ (power_run d h periods).report → EndsWith front (Ended how) → rest ≡ []
  ends_whole periods front rest how e f =
      let end : Told = record { tick = f.1; said = Ended how } in
      let is : (power_run d h periods).report ≡ f.0 ++ end ∷ rest = sym e ∙ ap (λ (ts : List Told). ts ++ rest) f.2 ∙ split_end f.0 rest end in
      behind_end f.0 rest end how refl (subst EndsOnlyLast is (through_by periods (first_world d) tt))
