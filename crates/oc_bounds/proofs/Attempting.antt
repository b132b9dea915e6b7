-- Each `enter` that has the steps behind it begins an attempt that is closed.
use Rattle.std.proofs.Common.{◌≡◌, ℕ, zero, suc, ◌+◌, ◌-◌, ◌<◌, ◌≤◌, ℤ, List, [], ◌∷◌, ◌++◌, length, append_assoc, Option, Some, None, refl, sym, ap, ◌∙◌, subst, arith, Bool, true, false}
use Rattle.std.specs.Prelude.{nat_lt, slice_set, if◌then◌else◌}
use Rattle.std.proofs.lemmas.Bool.{ltb-false, lt-ltb, le-ltb}
use Rattle.oc_io.specs.declared.period.Period.{Period}
use Rattle.oc_tree.specs.Said.{Told}
use Rattle.oc_tree.specs.Word.{is_word}
use Rattle.oc_tree.specs.declared.said.Said.{Said}
use Rattle.oc_tree.specs.declared.said.Said.TheVariants.{Sensed, Showed, Entered, Committed, Aborted, Off, Dark, Ended}
use Rattle.oc_tree.specs.declared.said.Shown.{Shown}
use Rattle.oc_undo.specs.declared.Entry.{Entry}
use Rattle.oc_ckpt.specs.declared.AreaState.{AreaState}
use Rattle.oc_ckpt.specs.declared.AreaState.TheVariants.{Fresh, Open, Sealed, Armed}
use Rattle.oc_isa.specs.declared.phase.Phase.{Phase}
use Rattle.oc_isa.specs.declared.phase.Phase.TheVariants.{Waking, Undoing, Restoring, Running, Entering, Over, Lost}
use Rattle.oc_isa.specs.Next.{Regs, Write, Next, Goes, Senses, Enters, Commits, Ends, Stuck, Device}
use Rattle.oc_isa.specs.Run.{core_at}
use Rattle.oc_isa.specs.Power.{State, Stepped, World, is_over, quietly, running, in_area, words_of, word_of, held, resume, enter, enter_on, commits, goes, to_log, run_next, step, restore_one}
use Rattle.oc_isa.specs.Power.{step_in, with_said, ticked, tick_on, fail_in, abort_of, failed, power_fails, through, shown_of, first_state, power_run}
use Rattle.oc_outage.specs.Honest.{IsFit}
use Rattle.oc_outage.proofs.Facts.{state_at, regs_at}
use Rattle.oc_outage.proofs.Going.{onto, world_at, through-onto}
use Rattle.oc_outage.proofs.Resting.{ticks_on-over, power_fails-over, through-over}
use Rattle.oc_outage.proofs.Restored.{all_restored}
use Rattle.oc_bounds.specs.Bounds.{Bounds, Leaves, IsBounded}
use Rattle.oc_bounds.specs.Attempts.{Closes, AttemptsClose, steps_after}
use Rattle.oc_outage.specs.Kept.{Count, untried, counted}
use Rattle.oc_bounds.proofs.Unlogged.{unlogged, none_logged}
use Rattle.oc_bounds.proofs.Ahead.{taking, IsOpen, IsEntering, IsUndone, Stands, Ahead, Moves, over, gains, nears}
use Rattle.oc_bounds.proofs.Moving.{step_moves}
use Rattle.oc_bounds.proofs.Carrying.{not_over, not_lost, fails_any, first_at}
use Rattle.oc_bounds.proofs.Closing.{rest_of, rest_after, closes_in}

module _ (d : Device) (b : Bounds) where
  -- an attempt of region r begins here
  pub record Begun (r : ℕ) (s : State) : Type 0 where
    pub pc : ℕ
    pub fp : ℕ
    pub deep : ℕ
    pub stack : List ℤ
    pub nv : List ℤ
    pub log : List Entry
    pub words : List ℤ
    pub is : s ≡ state_at Running pc fp (suc deep) stack nv log Armed words
    pub ws : List ℕ
    pub leaves : Leaves d ws (b.spent r) (core_at (regs_at pc fp stack) (suc deep) nv)
    pub few : unlogged ws log ≤ b.logged r

  abbrev pub Begins : Option Said → State → Type 0
  Begins (Some (Entered r)) s = Begun r s
  Begins said s = Unit {0}

  abbrev Says : Stepped → Type 0
  Says r = Begins r.said r.state

  begins_shown : (v : Option Shown) (s : State) → Begins (shown_of v) s
  begins_shown None s = tt
  begins_shown (Some v) s = tt

  module _ (total : ℕ) (sample : ℕ → ℤ) (stack nv : List ℤ) (log : List Entry) (words : List ℤ) (left t : ℕ) (c : Count) (pc fp : ℕ) where
    enter_by : (phase : Phase) (depth done : ℕ) (more : Bool) (en : IsEntering d b total left t c done (regs_at pc fp stack) nv log words) → nat_lt done (length (words_of en.to)) ≡ more → Says
        (if more
        then quietly (record (state_at phase pc fp depth stack nv log Open words) { phase = Entering (suc done); words = slice_set words done (word_of (words_of en.to) done) })
        else record { state = in_area (running (state_at phase pc fp depth stack nv log Open words) en.to 1) Armed; said = Some (Entered en.number) })
    enter_by phase depth done true en q = tt
    enter_by phase depth done false en q =
        let s = taking d b en.n left (core_at (regs_at pc fp stack) 0 nv) (Enters en.number en.to) en.next en.takes in
        let brief = s.next.1 in
        let z : unlogged brief.words [] ≤ b.logged en.number = omega (arith, none_logged brief.words, brief.few) in
        record {
          pc = en.to.pc;
          fp = en.to.fp;
          deep = 0;
          stack = en.to.stack;
          nv = nv;
          log = log;
          words = words;
          is = refl;
          ws = brief.words;
          leaves = brief.left;
          few =
              subst (λ l. unlogged brief.words l ≤ b.logged en.number) (sym en.empty) z;
        }

    enter_says : (phase : Phase) (depth done : ℕ) (en : IsEntering d b total left t c done (regs_at pc fp stack) nv log words)
        → Says (enter done en.number en.to (state_at phase pc fp depth stack nv log Open words))
    enter_says phase depth done en = enter_by phase depth done (nat_lt done (length (words_of en.to))) en refl

    enter_on_says : (depth done : ℕ) (en : IsEntering d b total left t c done (regs_at pc fp stack) nv log words)
        → Says (enter_on done (d.next (regs_at pc fp stack) nv) (state_at (Entering done) pc fp depth stack nv log Open words))
    enter_on_says depth done en = subst (λ x. Says (enter_on done x (state_at (Entering done) pc fp depth stack nv log Open words))) (sym en.next) (enter_says (Entering done) depth done en)

    open_by : (x : Next) → IsOpen d b total left t c (regs_at pc fp stack) nv log → d.next (regs_at pc fp stack) nv ≡ x → Says (run_next sample x (state_at Running pc fp 0 stack nv log Open words))
    open_by (Goes to w v) o e = begins_shown v _
    open_by (Senses x to) o e = tt
    open_by (Enters r to) o e = enter_says Running 0 0
        (record { n = o.n; tied = o.tied; takes = o.takes; number = r; to = to; next = e; empty = o.empty; upto = omega arith; saved = refl; due = omega (arith, o.due) })
    open_by (Commits r to) o e = tt
    open_by (Ends how) o e = tt
    open_by Stuck o e = tt

    restores_sealed : (done depth : ℕ) (more : Bool)
        → Says (if more then restore_one d done (state_at (Restoring done) pc fp depth stack nv log Sealed words) else resume d Sealed
        (state_at (Restoring done) pc fp depth stack nv log Sealed words))
    restores_sealed done depth true = tt
    restores_sealed done depth false = tt

    restores_armed : (done depth : ℕ) (more : Bool) → IsUndone d b total left t c done pc fp stack nv log words → nat_lt done (held words) ≡ more
        → Says (if more then restore_one d done (state_at (Restoring done) pc fp depth stack nv log Armed words) else resume d Armed (state_at (Restoring done) pc fp depth stack nv log Armed words))
    restores_armed done depth true r q = tt
    restores_armed done depth false r q =
        let g = r.entry in
        let e = all_restored d words g.saved g.is_saved done pc fp stack r.restored (ltb-false done (held words) q) in
        let at : d.region pc ≡ g.number = ap (λ (r : Regs). d.region r.pc) e ∙ g.found in
        let l : Leaves d g.brief.words (b.spent g.number) (core_at (regs_at pc fp stack) 1 nv) =
        subst (λ x. Leaves d g.brief.words (b.spent g.number) (core_at x 1 nv)) (sym e) (subst (λ v. Leaves d g.brief.words (b.spent g.number) (core_at g.saved 1 v)) (sym r.same) g.brief.left) in
        subst (λ r. Begun r (state_at Running pc fp 1 stack nv log Armed words)) (sym at)
        (record { pc = pc; fp = fp; deep = 0; stack = stack; nv = nv; log = log; words = words; is = refl; ws = g.brief.words; leaves = l; few = omega (arith, g.full, g.brief.few) })

    armed_goes : (deep : ℕ) (to : Regs) (w : Option Write) (v : Option Shown) (o : Option ℕ) → Says (goes o to w v (state_at Running pc fp (suc deep) stack nv log Armed words))
    armed_goes deep to w v None = begins_shown v _
    armed_goes deep to w v (Some a) = tt

    armed_commits : (deep q : ℕ) (to : Regs) → Says (commits (suc deep) q to (state_at Running pc fp (suc deep) stack nv log Armed words))
    armed_commits zero q to = tt
    armed_commits (suc deep) q to = tt

    armed_by : (deep : ℕ) (x : Next) → Says (run_next sample x (state_at Running pc fp (suc deep) stack nv log Armed words))
    armed_by deep (Goes to w v) = armed_goes deep to w v (to_log (suc deep) w log)
    armed_by deep (Senses x to) = tt
    armed_by deep (Enters r to) = tt
    armed_by deep (Commits q to) = armed_commits deep q to
    armed_by deep (Ends how) = tt
    armed_by deep Stuck = tt

    says : (area : AreaState) (phase : Phase) (depth : ℕ) → Stands d b total area phase depth left t c (state_at phase pc fp depth stack nv log area words)
        → Says (step_in d sample phase (state_at phase pc fp depth stack nv log area words))
    says Fresh Waking depth s = tt
    says Fresh (Undoing j) depth s = absurd s
    says Fresh (Restoring j) depth s = absurd s
    says Fresh Running depth s = absurd s
    says Fresh (Entering j) depth s = absurd s
    says Fresh (Over how) depth s = absurd s
    says Fresh Lost depth s = absurd s
    says Open Waking depth s = absurd s
    says Open (Undoing j) depth s = absurd s
    says Open (Restoring j) depth s = absurd s
    says Open Running zero s = open_by (d.next (regs_at pc fp stack) nv) s refl
    says Open Running (suc depth) s = absurd s
    says Open (Entering j) depth s = enter_on_says depth j s
    says Open (Over how) depth s = absurd s
    says Open Lost depth s = absurd s
    says Sealed Waking depth s = tt
    says Sealed (Undoing j) depth s = absurd s
    says Sealed (Restoring j) depth s = restores_sealed j depth (nat_lt j (held words))
    says Sealed Running depth s = absurd s
    says Sealed (Entering j) depth s = absurd s
    says Sealed (Over how) depth s = absurd s
    says Sealed Lost depth s = absurd s
    says Armed Waking depth s = tt
    says Armed (Undoing j) depth s = tt
    says Armed (Restoring j) depth s = restores_armed j depth (nat_lt j (held words)) s refl
    says Armed Running zero s = absurd s
    says Armed Running (suc depth) s = armed_by depth (d.next (regs_at pc fp stack) nv)
    says Armed (Entering j) depth s = absurd s
    says Armed (Over how) depth s = absurd s
    says Armed Lost depth s = absurd s

-- all items of a report, where `left` tells the steps that are left behind a tick
module _ (b : Bounds) (left : ℕ → ℕ) where
  abbrev pub at_item : Said → ℕ → Type 0 → Type 0
  at_item (Entered r) t goal = b.spent r + b.logged r ≤ left t → goal
  at_item s t goal = Unit {0}

  abbrev pub AllClose : List Told → Type 0
  AllClose [] = Unit {0}
  AllClose (i ∷ is) = at_item i.said i.tick (Closes is) × AllClose is

  pub one_of : (before rest : List Told) (tick r : ℕ) → AllClose (before ++ record { tick = tick; said = Entered r } ∷ rest) → b.spent r + b.logged r ≤ left tick → Closes rest
  one_of [] rest tick r a le = a.0 le
  one_of (i ∷ before) rest tick r a le = one_of before rest tick r a.1 le

-- a state that is over, or stands somewhere in the run
data Fine (d : Device) (b : Bounds) (total : ℕ) (s : State) : Type 0 where
  stopped : is_over s.phase ≡ true → Fine d b total s
  awake : (k t : ℕ) (c : Count) → Ahead d b total k t c s → Fine d b total s

module _ (d : Device) (b : Bounds) (total : ℕ) (h : ℕ → ℕ → ℤ) (fit : IsFit d) (words_of_h : (s t : ℕ) → is_word (h s t) ≡ true) (left : ℕ → ℕ) where
  alive_by : (phase : Phase) (area : AreaState) (depth k u : ℕ) (c : Count) (s : State) → Stands d b total area phase depth k u c s → is_over phase ≡ false
  alive_by Waking area depth k u c s g = refl
  alive_by (Undoing j) area depth k u c s g = refl
  alive_by (Restoring j) area depth k u c s g = refl
  alive_by Running area depth k u c s g = refl
  alive_by (Entering j) area depth k u c s g = refl
  alive_by (Over how) area depth k u c s g = absurd (not_over d b total k u c area how depth s g)
  alive_by Lost area depth k u c s g = absurd (not_lost d b total k u c area depth s g)

  -- what is left of a run that is over
  over_rest : (p : Period) (periods : List Period) (j : ℕ) (w : World) → is_over w.state.phase ≡ true → rest_of d h p periods j w ≡ w
  over_rest p periods j w e = ap (λ v. through d h periods (power_fails d p v)) (ticks_on-over w e d h j) ∙ ap (through d h periods) (power_fails-over w e d p) ∙ through-over w e d h periods

  fine_after : (k u : ℕ) (c e : Count) (s : State) → Moves d b total k u 1 c e s → Fine d b total s
  fine_after k u c e s (over how x) = stopped (ap is_over x)
  fine_after k u c e s (gains less v le due more g) = awake less v e g
  fine_after k u c e s (nears v due same g) = awake k v e g

  fine_failed : (cut o : Bool) (k u : ℕ) (c : Count) (s : State) → Ahead d b total k u c s → is_over (fail_in d cut s.phase s).state.phase ≡ o → Fine d b total (fail_in d cut s.phase s).state
  fine_failed cut true k u c s g e = stopped e
  fine_failed cut false k u c s g e = awake k (5 + d.room + k) (untried c.kept)
      (fails_any d b total k u s.pc s.fp s.depth c s.stack s.nv s.log s.words g.sized cut s.area s.phase s.depth g.stands e)

  -- of the rest of a run from here
  abbrev Behind : List Period → Type 0
  Behind periods = (from : ℕ) (s : State) → Fine d b total s → ((i : ℕ) → from ≤ i → left i ≡ steps_after from periods i) → AllClose b left (through d h periods (world_at from s [])).report

  all_behind : (t : ℕ) (said : Option Said) (is : List Told) → ((r : ℕ) → said ≡ Some (Entered r) → b.spent r + b.logged r ≤ left t → Closes is) → AllClose b left is
      → AllClose b left (with_said [] t said ++ is)
  all_behind t None is f a = a
  all_behind t (Some (Sensed x v)) is f a = (tt, a)
  all_behind t (Some (Showed v)) is f a = (tt, a)
  all_behind t (Some (Entered r)) is f a = (f r refl, a)
  all_behind t (Some (Committed r)) is f a = (tt, a)
  all_behind t (Some (Aborted r)) is f a = (tt, a)
  all_behind t (Some (Off n)) is f a = (tt, a)
  all_behind t (Some Dark) is f a = (tt, a)
  all_behind t (Some (Ended how)) is f a = (tt, a)

  module _ (p : Period) (periods : List Period) (behind : Behind periods) where
    abbrev Rest : ℕ → ℕ → State → Type 0
    Rest j t s = AllClose b left (rest_of d h p periods j (world_at t s [])).report

    closes_here : (j t r : ℕ) (s : State) → Begun d b r s → left t ≡ j → b.spent r + b.logged r ≤ left t → Closes (rest_of d h p periods j (world_at (suc t) s [])).report
    closes_here j t r s g e le =
        subst (λ x. Closes (rest_of d h p periods j (world_at (suc t) x [])).report) (sym g.is)
        (closes_in d h p periods words_of_h g.ws j (suc t) g.pc g.fp g.deep (b.spent r) g.stack g.nv g.log g.words g.leaves (omega (arith, e, le, g.few)))

    begins_here : (j t r : ℕ) (said : Option Said) (s : State) → Begins d b said s → said ≡ Some (Entered r) → left t ≡ j → b.spent r + b.logged r ≤ left t
        → Closes (rest_of d h p periods j (world_at (suc t) s [])).report
    begins_here j t r said s g x e le = closes_here j t r s (subst (λ y. Begins d b y s) x g) e le

    abort_says : (area : AreaState) (words : List ℤ) (r : ℕ) → abort_of d area words ≡ Some (Entered r) → ⊥
    abort_says Fresh words r e = absurd (cc)
    abort_says Open words r e = absurd (cc)
    abort_says Sealed words r e = absurd (cc)
    abort_says Armed words r e = absurd (cc)

    fail_says : (phase : Phase) (s : State) (r : ℕ) → (fail_in d p.cut phase s).said ≡ Some (Entered r) → ⊥
    fail_says Waking s r e = absurd (cc)
    fail_says (Undoing j) s r e = absurd (cc)
    fail_says (Restoring j) s r e = absurd (cc)
    fail_says Running s r e = abort_says s.area s.words r e
    fail_says (Entering j) s r e = abort_says s.area s.words r e
    fail_says (Over how) s r e = absurd (cc)
    fail_says Lost s r e = absurd (cc)

    -- the period is over
    ends_here : (t k u : ℕ) (c : Count) (s : State) → Ahead d b total k u c s → ((i : ℕ) → t + p.off ≤ i → left i ≡ steps_after (t + p.off) periods i) → Rest 0 t s
    ends_here t k u c s g later =
        let w = world_at t s [] in
        let r = fail_in d p.cut s.phase s in
        let v = world_at (t + p.off) r.state [] in
        let pre = with_said [] t r.said ++ with_said [] t (Some (Off p.off)) in
        let is_failed : power_fails d p w ≡ failed w p.off r = ap (λ x. if x then w else failed w p.off r) (alive_by s.phase s.area s.depth k u c s g.stands) in
        let split : failed w p.off r ≡ onto pre v = ap (world_at (t + p.off) r.state) (joined t r.said) in
        let whole : rest_of d h p periods 0 w ≡ onto pre (through d h periods v) = ap (through d h periods) (is_failed ∙ split) ∙ through-onto pre d h periods v in
        let a = behind (t + p.off) r.state (fine_failed p.cut (is_over r.state.phase) k u c s g refl) later in
        subst (λ (x : World). AllClose b left x.report) (sym whole)
        (subst (λ l. AllClose b left l) (sym (append_assoc (with_said [] t r.said) (with_said [] t (Some (Off p.off))) (through d h periods v).report))
        (all_behind t r.said _ (λ q e. absurd (fail_says s.phase s q e)) (tt, a)))
      where
        joined : (t : ℕ) (said : Option Said) → with_said (with_said [] t said) t (Some (Off p.off)) ≡ (with_said [] t said ++ with_said [] t (Some (Off p.off))) ++ []
        joined t None = refl
        joined t (Some x) = refl

    abbrev Lefts : ℕ → ℕ → Type 0
    Lefts j t = ((i : ℕ) → t ≤ i → i < t + j → left i ≡ t + j - suc i) × ((i : ℕ) → t + j + p.off ≤ i → left i ≡ steps_after (t + j + p.off) periods i)

    ticks_close : (j t : ℕ) (s : State) → Fine d b total s → Lefts j t → Rest j t s
    ticks_close j t s (stopped e) l = subst (λ (x : World). AllClose b left x.report) (sym (over_rest p periods j (world_at t s []) e)) tt
    ticks_close zero t s (awake k u c g) l =
        let e : t + 0 ≡ t = omega arith in
        ends_here t k u c s g (subst (λ u. (i : ℕ) → u + p.off ≤ i → left i ≡ steps_after (u + p.off) periods i) e l.1)
    ticks_close (suc j) t s (awake k u c g) l =
        let w = world_at t s [] in
        let r = step d (λ x. h x t) s in
        let is_ticked : tick_on d h w ≡ ticked w r = ap (λ x. if x then w else ticked w r) (alive_by s.phase s.area s.depth k u c s g.stands) in
        let e : suc t + j ≡ t + suc j = omega arith in
        let here : left t ≡ j = l.0 t (omega arith) (omega arith) ∙ (omega arith) in
        let moves = step_moves d b total fit (λ x. h x t) (λ x. words_of_h x t) s.stack s.nv s.log s.words g.sized k u c s.pc s.fp s.area s.phase s.depth g.stands in
        let began = says d b total (λ x. h x t) s.stack s.nv s.log s.words k u c s.pc s.fp s.area s.phase s.depth g.stands in
        let rest = ticks_close j (suc t) r.state (fine_after k u c (counted d s.phase s c) r.state moves) (
          subst (λ u. (i : ℕ) → suc t ≤ i → i < u → left i ≡ u - suc i) (sym e) (λ i a b. l.0 i (omega (arith, a)) b),
          subst
              (λ u. (i : ℕ) → u + p.off ≤ i → left i ≡ steps_after (u + p.off) periods i) (sym e) l.1,
        ) in
        subst (λ (x : World). AllClose b left (rest_of d h p periods j x).report) (sym is_ticked)
        (subst (λ x. AllClose b left x) (sym (rest_after d h p periods j t r))
        (all_behind t r.said _ (λ q x le. begins_here j t q r.said r.state began x here le) rest))

  dark_close : (over : Bool) (from : ℕ) (s : State) → AllClose b left (if over then world_at from s [] else world_at from s (with_said [] from (Some Dark))).report
  dark_close true from s = tt
  dark_close false from s = (tt, tt)

  all_close : (periods : List Period) → Behind periods
  all_close [] from s f l = dark_close (is_over s.phase) from s
  all_close (p ∷ periods) from s f l = ticks_close p periods (all_close periods) p.on from s f (
    (λ i a c. l i a ∙ ap (λ x. if x then from + p.on - suc i else steps_after (from + p.on + p.off) periods i) (lt-ltb i (from + p.on) c)),
    (λ i a. l i (omega (arith, a)) ∙ ap (λ x. if x then from + p.on - suc i else steps_after (from + p.on + p.off) periods i) (le-ltb i (from + p.on) (omega (arith, a)))),
  )

pub attempts_close : (d : Device) (b : Bounds) (h : ℕ → ℕ → ℤ) (periods : List Period) → IsFit d → IsBounded d b → ((s t : ℕ) → is_word (h s t) ≡ true)
    → AttemptsClose b periods (power_run d h periods).report
attempts_close d b h periods fit q words before rest tick r e le =
    one_of b (steps_after 0 periods) before rest tick r
    (subst (λ l. AllClose b (steps_after 0 periods) l) (sym e)
    (all_close d b b.total h fit words (steps_after 0 periods) periods 0 (first_state d) first (λ i a. refl))) le
  where
    first : Fine d b b.total (first_state d)
    first = awake b.steps (5 + d.room + b.steps) (untried 0) (first_at d b b.total h fit words b.steps q.takes)
