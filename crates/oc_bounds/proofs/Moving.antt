-- Each step brings a state nearer to the end of its run, and counts its instruction.
use Rattle.std.proofs.Common.{◌≡◌, ℕ, zero, suc, ◌+◌, ◌-◌, ◌<◌, ◌≤◌, ℤ, List, [], ◌∷◌, ◌++◌, length, take, Option, Some, None, refl, sym, ap, ◌∙◌, subst, arith, Bool, true, false, length-append}
use Rattle.std.specs.Prelude.{nat_lt, slice_set, if◌then◌else◌}
use Rattle.std.proofs.lemmas.Bool.{ltb-true, ltb-false}
use Rattle.std.proofs.lemmas.List.{length-set}
use Rattle.std.proofs.Math.Seq.{take-length}
use Rattle.oc_tree.specs.Word.{is_word}
use Rattle.oc_tree.specs.declared.said.Said.TheVariants.{Entered}
use Rattle.oc_tree.specs.declared.said.Shown.{Shown}
use Rattle.oc_undo.specs.Undo.{put_back, undo, has_entry}
use Rattle.oc_undo.specs.declared.Entry.{Entry}
use Rattle.oc_ckpt.specs.declared.AreaState.{AreaState}
use Rattle.oc_ckpt.specs.declared.AreaState.TheVariants.{Fresh, Open, Sealed, Armed}
use Rattle.oc_isa.specs.declared.phase.Phase.{Phase}
use Rattle.oc_isa.specs.declared.phase.Phase.TheVariants.{Waking, Undoing, Restoring, Running, Entering, Over, Lost}
use Rattle.oc_isa.specs.Next.{pushed, Regs, Write, Next, Goes, Senses, Enters, Commits, Ends, Stuck, Device, written}
use Rattle.oc_isa.specs.Run.{Core, core_at}
use Rattle.oc_isa.specs.Power.{State, running, quietly, in_area, words_of, word_of, held, wake, undone, undo_phase, undo_step, resume, enter, enter_on, commits, goes, to_log, restore_one}
use Rattle.oc_isa.specs.Power.{entry_at, run_next, step_in}
use Rattle.oc_outage.specs.Honest.{IsFit}
use Rattle.oc_outage.proofs.Facts.{state_at, regs_at}
use Rattle.oc_outage.proofs.Inside.{undoes_write}
use Rattle.oc_outage.proofs.Undone.{undo-set, undo-last, undo-entry_at, EntryNumber, entry_number}
use Rattle.oc_outage.proofs.Words.{IsSaved, length-words_of, held-saved, one_saved}
use Rattle.oc_outage.proofs.Restored.{none_restored, more_restored, all_restored}
use Rattle.oc_bounds.specs.Bounds.{Bounds, Leaves, Takes, is_listed}
use Rattle.oc_outage.specs.Kept.{Count, takes_one, count_write, count_entry, count_commit, count_next, count_entering, counted}
use Rattle.oc_bounds.proofs.Unlogged.{unlogged, none_logged, logged_one, asked}
use Rattle.oc_bounds.proofs.Leaving.{leaving}
use Rattle.oc_bounds.proofs.Ahead.{taking, takes_fits, takes_some, IsOpen, IsEntering, IsRestoring, IsEntry, IsWaking, IsUndoing, IsUndone, IsRunning}
use Rattle.oc_bounds.proofs.Ahead.{OnArmed, Stands, Moves, over, gains, nears}

module _ (d : Device) (b : Bounds) (total : ℕ) (fit : IsFit d) (sample : ℕ → ℤ) (words_are : (s : ℕ) → is_word (sample s) ≡ true) (stack nv : List ℤ) (log : List Entry) (words : List ℤ)
    (sized : length words ≡ 3 + d.room) (left t : ℕ) (c : Count) (pc fp : ℕ) where
  -- a step of an `enter`
  module _ (phase : Phase) (depth done : ℕ) (en : IsEntering d b total left t c done (regs_at pc fp stack) nv log words) where
    abbrev here : State
    here = state_at phase pc fp depth stack nv log Open words

    to_fits : length (words_of en.to) ≤ 3 + d.room
    to_fits =
        let s = taking d b en.n left (core_at (regs_at pc fp stack) 0 nv) (Enters en.number en.to) en.next en.takes in
        omega (arith, takes_fits d b s.less (left - (4 + d.room + b.logged en.number)) (core_at en.to 1 nv) s.next.2, length-words_of en.to)

    arms : IsSaved words en.to → length (words_of en.to) ≤ done → Moves d b total left t 1 c (takes_one 0 c) (in_area (running here en.to 1) Armed)
    arms saved ge =
        let s = taking d b en.n left (core_at (regs_at pc fp stack) 0 nv) (Enters en.number en.to) en.next en.takes in
        let brief = s.next.1 in
        let rest : ℕ = left - (4 + d.room + b.logged en.number) in
        let price : 4 + d.room + b.logged en.number ≤ left = s.next.0 in
        let less : ℕ = rest + b.logged en.number in
        let u : undo log nv ≡ nv = ap (λ l. undo l nv) en.empty in
        let z : length {A = Entry} [] + unlogged brief.words [] ≤ length brief.words = omega (arith, none_logged brief.words) in
        let f : length log + unlogged brief.words log ≤ length brief.words = subst (λ l. length l + unlogged brief.words l ≤ length brief.words) (sym en.empty) z in
        let tied : suc c.kept + s.less ≡ total = omega (arith, s.is, en.tied) in
        let none_tried : suc c.kept + 0 + s.less ≡ total = omega (arith, tied) in
        let more : c.kept < suc c.kept = omega arith in
        let run : IsRunning d b total less less (takes_one 0 c) en.to 1 nv log words =
        record {
          entry = record {
            n = s.less;
            tied = tied;
            saved = en.to;
            is_saved = saved;
            number = en.number;
            found = fit.entered (regs_at pc fp stack) nv en.number en.to en.next;
            entry_nv =
                nv;
            undoes = u;
            rest = rest;
            takes = s.next.2;
            brief = brief;
            full = f;
            due = omega arith;
          };
          now = s.less;
          tied = none_tried;
          rest = rest;
          below = omega arith;
          takes = s.next.2;
          m = b.spent en.number;
          leaves = brief.left;
          due = omega (arith, f, brief.few);
          far = omega (arith, f, brief.few);
        } in
        gains less less (omega (arith, price)) (omega (arith, price, en.due, en.upto, ge, to_fits)) more (record { stands = run; sized = sized })

    enter_by : (more : Bool) → nat_lt done (length (words_of en.to)) ≡ more → Moves d b total left t 1 c (if more then c else takes_one 0 c)
        (if more
        then quietly (record here { phase = Entering (suc done); words = slice_set words done (word_of (words_of en.to) done) })
        else record { state = in_area (running here en.to 1) Armed; said = Some (Entered en.number) }).state
    enter_by true q =
        let s = taking d b en.n left (core_at (regs_at pc fp stack) 0 nv) (Enters en.number en.to) en.next en.takes in
        let price : 4 + d.room + b.logged en.number ≤ left = s.next.0 in
        let lt : done < length (words_of en.to) = ltb-true done _ q in
        let low : done < length words = omega (arith, to_fits, lt, sized) in
        nears (t - 1) (omega (arith, en.due, lt, price, to_fits)) refl (record {
          stands = record {
            n = en.n;
            tied = en.tied;
            takes = en.takes;
            number = en.number;
            to = en.to;
            next = en.next;
            empty = en.empty;
            upto = omega (arith, lt);
            saved = one_saved words (words_of en.to) done low lt en.saved;
            due = omega (arith, en.due, lt);
          };
          sized = length-set words done _ ∙ sized;
        })
    enter_by false q =
        let ge : length (words_of en.to) ≤ done = ltb-false done _ q in
        let e : done ≡ length (words_of en.to) = omega (arith, ge, en.upto) in
        arms (record { front = subst (λ n. take n words ≡ take n (words_of en.to)) e en.saved ∙ take-length (words_of en.to) }) ge

    pub enter_moves : Moves d b total left t 1 c (count_entry done en.to c) (enter done en.number en.to here).state
    enter_moves = enter_by (nat_lt done (length (words_of en.to))) refl

    pub enter_on_moves : Moves d b total left t 1 c (count_entering done (d.next (regs_at pc fp stack) nv) c) (enter_on done (d.next (regs_at pc fp stack) nv) here).state
    enter_on_moves = subst (λ x. Moves d b total left t 1 c (count_entering done x c) (enter_on done x here).state) (sym en.next) enter_moves

  -- outside a region
  open_by : (x : Next) → IsOpen d b total left t c (regs_at pc fp stack) nv log → d.next (regs_at pc fp stack) nv ≡ x
      → Moves d b total left t 1 c (count_next x (state_at Running pc fp 0 stack nv log Open words) c) (run_next sample x (state_at Running pc fp 0 stack nv log Open words)).state
  open_by (Goes to w v) o e =
      let s = taking d b o.n left (core_at (regs_at pc fp stack) 0 nv) _ e o.takes in
      let tied : suc c.kept + s.less ≡ total = omega (arith, s.is, o.tied) in
      let more : c.kept < suc c.kept = omega arith in
      gains (left - 1) (left - 1) (omega arith) (omega (arith, s.next.0, o.due)) more
      (record { stands = record { n = s.less; tied = tied; takes = s.next.1; empty = o.empty; due = omega arith }; sized = sized })
  open_by (Senses x to) o e =
      let s = taking d b o.n left (core_at (regs_at pc fp stack) 0 nv) _ e o.takes in
      let tied : suc c.kept + s.less ≡ total = omega (arith, s.is, o.tied) in
      let more : c.kept < suc c.kept = omega arith in
      gains (left - 1) (left - 1) (omega arith) (omega (arith, s.next.0, o.due)) more
      (record { stands = record { n = s.less; tied = tied; takes = s.next.1 (sample x) (words_are x); empty = o.empty; due = omega arith }; sized = sized })
  open_by (Enters r to) o e = enter_moves Running 0 0
      (record { n = o.n; tied = o.tied; takes = o.takes; number = r; to = to; next = e; empty = o.empty; upto = omega arith; saved = refl; due = omega (arith, o.due) })
  open_by (Commits r to) o e = absurd ((taking d b o.n left (core_at (regs_at pc fp stack) 0 nv) _ e o.takes).next.1)
  open_by (Ends how) o e = over how refl
  open_by Stuck o e = absurd ((taking d b o.n left (core_at (regs_at pc fp stack) 0 nv) _ e o.takes).next)

  -- a boot from a checkpoint
  restores_sealed : (done depth : ℕ) (more : Bool) → IsRestoring d b total left t c done pc fp stack nv log words → nat_lt done (held words) ≡ more
      → Moves d b total left t 1 c c (if more then restore_one d done (state_at (Restoring done) pc fp depth stack nv log Sealed words) else resume d Sealed
      (state_at (Restoring done) pc fp depth stack nv log Sealed words)).state
  restores_sealed done depth true r q =
      let g = r.stored in
      let lt = ltb-true done (held words) q in
      let h = held-saved words g.saved g.is_saved in
      nears (t - 1) (omega (arith, r.due, lt, h)) refl (record {
        stands = record {
          stored = record { n = g.n; tied = g.tied; saved = g.saved; is_saved = g.is_saved; takes = g.takes; empty = g.empty };
          restored = more_restored d words g.saved g.is_saved done pc fp stack r.restored lt (takes_fits d b g.n left (core_at g.saved 0 nv) g.takes);
          due = omega (arith, r.due, lt, h);
        };
        sized = sized;
      })
  restores_sealed done depth false r q =
      let g = r.stored in
      let ge = ltb-false done (held words) q in
      let h = held-saved words g.saved g.is_saved in
      let e = all_restored d words g.saved g.is_saved done pc fp stack r.restored ge in
      let o : IsOpen d b total left (t - 1) c g.saved nv log = record { n = g.n; tied = g.tied; takes = g.takes; empty = g.empty; due = omega (arith, r.due, r.restored.upto) } in
      nears (t - 1) (omega (arith, r.due, r.restored.upto)) refl (record { stands = subst (λ x. IsOpen d b total left (t - 1) c x nv log) (sym e) o; sized = sized })

  -- a log is no longer than what is left
  log_left : (mem : List ℤ) (e : IsEntry d b total left c.kept mem log words) → length log ≤ left
  log_left mem e = omega (arith, e.full, e.brief.few, e.due)

  -- a boot in a region
  undone_from : (mem : List ℤ) (j u depth : ℕ) (entry : IsEntry d b total left c.kept mem log words) → c.tried ≡ 0 → j ≤ length log → undo (take j log) mem ≡ entry.entry_nv
      → 1 + j + length (words_of entry.saved) + left ≤ u + length log → OnArmed d b total (undo_phase j) depth left u c (state_at (undo_phase j) pc fp depth stack mem log Armed words)
  undone_from mem zero u depth entry none le rest due =
      record { entry = entry; none = none; same = rest; restored = none_restored d pc fp stack entry.saved; due = omega (arith, due) }
  undone_from mem (suc j) u depth entry none le rest due = record { entry = entry; none = none; short = omega (arith, le); rest = rest; due = omega (arith, due) }

  undo_moves : (j depth : ℕ) (w : IsUndoing d b total left t c j nv log words) → Moves d b total left t 1 c c (undo_step j (state_at (Undoing j) pc fp depth stack nv log Armed words)).state
  undo_moves j depth w = subst (λ o. Moves d b total left t 1 c c (quietly (state_at (undo_phase j) pc fp depth stack (undone o nv) log Armed words)).state) (sym l.got) there
    where
      l : EntryNumber log j
      l = entry_number log j w.short

      there : Moves d b total left t 1 c c (state_at (undo_phase j) pc fp depth stack (put_back l.entry nv) log Armed words)
      there =
          let e = w.entry in
          let u : undo log (put_back l.entry nv) ≡ e.entry_nv = undo-set log nv l.entry.addr l.entry.old l.has ∙ e.undoes in
          let rest : undo (take j log) (put_back l.entry nv) ≡ e.entry_nv = sym (undo-last (take j log) l.entry nv) ∙ ap (λ l. undo l nv) (sym l.taken) ∙ w.rest in
          nears (t - 1) (omega (arith, w.due, log_left nv e)) refl (record {
            stands = undone_from (put_back l.entry nv) j (t - 1) depth
                (record {
                  n = e.n;
                  tied = e.tied;
                  saved = e.saved;
                  is_saved = e.is_saved;
                  number = e.number;
                  found = e.found;
                  entry_nv = e.entry_nv;
                  undoes = u;
                  rest = e.rest;
                  takes = e.takes;
                  brief = e.brief;
                  full = e.full;
                  due =
                      e.due;
                }) w.none (omega (arith, w.short)) rest (omega (arith, w.due, log_left nv e));
            sized = sized;
          })

  -- the entry again, from the area
  resumes : (entry : IsEntry d b total left c.kept nv log words) → c.tried ≡ 0 → nv ≡ entry.entry_nv → regs_at pc fp stack ≡ entry.saved → 1 + left ≤ t + length log
      → Moves d b total left t 1 c c (state_at Running pc fp 1 stack nv log Armed words)
  resumes entry none same eq due =
      let l : Takes d b entry.n entry.rest (core_at (regs_at pc fp stack) 1 nv) =
      subst (λ g. Takes d b entry.n entry.rest (core_at g 1 nv)) (sym eq) (subst (λ v. Takes d b entry.n entry.rest (core_at entry.saved 1 v)) (sym same) entry.takes) in
      let q : Leaves d entry.brief.words (b.spent entry.number) (core_at (regs_at pc fp stack) 1 nv) =
      subst (λ g. Leaves d entry.brief.words (b.spent entry.number) (core_at g 1 nv)) (sym eq)
      (subst (λ v. Leaves d entry.brief.words (b.spent entry.number) (core_at entry.saved 1 v)) (sym same) entry.brief.left) in
      nears (t - 1) (omega (arith, due, log_left nv entry)) refl (record {
        stands = record {
          entry = entry;
          now = entry.n;
          tied = omega (arith, none, entry.tied);
          rest = entry.rest;
          below = omega arith;
          takes = l;
          m = b.spent entry.number;
          leaves = q;
          due = omega (arith, due, entry.due, entry.full, entry.brief.few);
          far = omega (arith, due, entry.due, entry.full, entry.brief.few);
        };
        sized = sized;
      })

  restores_armed : (done depth : ℕ) (more : Bool) → IsUndone d b total left t c done pc fp stack nv log words → nat_lt done (held words) ≡ more
      → Moves d b total left t 1 c c (if more then restore_one d done (state_at (Restoring done) pc fp depth stack nv log Armed words) else resume d Armed
      (state_at (Restoring done) pc fp depth stack nv log Armed words)).state
  restores_armed done depth true r q =
      let g = r.entry in
      let lt = ltb-true done (held words) q in
      let h = held-saved words g.saved g.is_saved in
      nears (t - 1) (omega (arith, r.due, lt, h, log_left nv g)) refl (record {
        stands = record {
          entry = g;
          none = r.none;
          same = r.same;
          restored = more_restored d words g.saved g.is_saved done pc fp stack r.restored lt (takes_fits d b g.n g.rest (core_at g.saved 1 g.entry_nv) g.takes);
          due = omega (arith, r.due, lt, h, log_left nv g);
        };
        sized = sized;
      })
  restores_armed done depth false r q =
      let g = r.entry in
      let ge = ltb-false done (held words) q in
      resumes g r.none r.same (all_restored d words g.saved g.is_saved done pc fp stack r.restored ge) (omega (arith, r.due, r.restored.upto))

  -- inside a region
  module _ (depth : ℕ) (r : IsRunning d b total left t c (regs_at pc fp stack) (suc depth) nv log words) where
    abbrev inside : State
    inside = state_at Running pc fp (suc depth) stack nv log Armed words

    abbrev core : Core
    core = core_at (regs_at pc fp stack) (suc depth) nv

    some : 1 ≤ t
    some = omega (arith, r.due, takes_some d b r.now r.rest core r.takes)

    goes_by : (to : Regs) (w : Option Write) (v : Option Shown) (o : Option ℕ) → d.next (regs_at pc fp stack) nv ≡ Goes to w v → to_log (suc depth) w log ≡ o
        → Moves d b total left t 1 c (count_write o (suc depth) c) (goes o to w v inside).state
    goes_by to w v None e o =
        let g = r.entry in
        let s = taking d b r.now r.rest core _ e r.takes in
        let l = leaving d g.brief.words r.m core _ e r.leaves in
        let u : undo log (written w nv) ≡ g.entry_nv = undoes_write log nv g.entry_nv depth w o g.undoes in
        let tied : c.kept + suc c.tried + s.less ≡ total = omega (arith, s.is, r.tied) in
        nears (t - 1) (omega (arith, some)) refl (record {
          stands = record {
            entry = record {
              n = g.n;
              tied = g.tied;
              saved = g.saved;
              is_saved = g.is_saved;
              number = g.number;
              found = g.found;
              entry_nv = g.entry_nv;
              undoes = u;
              rest = g.rest;
              takes = g.takes;
              brief = g.brief;
              full = g.full;
              due = g.due;
            };
            now = s.less;
            tied = tied;
            rest = r.rest - 1;
            below = omega (arith, r.below);
            takes = s.next.1;
            m = l.less;
            leaves = l.next.1;
            due = omega (arith, r.due, s.next.0);
            far = omega (arith, r.far, l.is, some);
          };
          sized = sized;
        })
    goes_by to None v (Some a) e o = absurd (cc)
    goes_by to (Some w) v (Some a) e o =
        let g = r.entry in
        let l = leaving d g.brief.words r.m core _ e r.leaves in
        let new = asked (has_entry log w.addr) w.addr a o in
        let x = entry_at nv a in
        let listed : is_listed g.brief.words a ≡ true = subst (λ c. is_listed g.brief.words c ≡ true) new.1 l.next.0 in
        let had : has_entry log a ≡ false = subst (λ c. has_entry log c ≡ false) new.1 new.0 in
        let one = logged_one g.brief.words log x listed had in
        let u : undo (log ++ x ∷ []) nv ≡ g.entry_nv = undo-entry_at log nv a ∙ g.undoes in
        nears (t - 1) (omega (arith, some)) refl (record {
          stands = record {
            entry = record {
              n = g.n;
              tied = g.tied;
              saved = g.saved;
              is_saved = g.is_saved;
              number = g.number;
              found = g.found;
              entry_nv = g.entry_nv;
              undoes = u;
              rest = g.rest;
              takes = g.takes;
              brief = g.brief;
              full = omega (arith, one, g.full, length-append log (x ∷ []));
              due = g.due;
            };
            now = r.now;
            tied = r.tied;
            rest = r.rest;
            below = r.below;
            takes = r.takes;
            m = r.m;
            leaves = r.leaves;
            due = omega (arith, r.due, one);
            far = omega (arith, r.far, one, some);
          };
          sized = sized;
        })

    -- the words and the log stay
    stays : (to : Regs) (deep now rest m : ℕ) → suc now ≡ r.now → suc rest ≡ r.rest → suc m ≤ r.m → Takes d b now rest (core_at to (suc deep) nv)
        → Leaves d r.entry.brief.words m (core_at to (suc deep) nv) → Moves d b total left t 1 c (takes_one (suc depth) c) (state_at Running to.pc to.fp (suc deep) to.stack nv log Armed words)
    stays to deep now rest m is fewer lm l q =
        let tied : c.kept + suc c.tried + now ≡ total = omega (arith, is, r.tied) in
        nears (t - 1) (omega (arith, some)) refl (record {
          stands = record {
            entry = r.entry;
            now = now;
            tied = tied;
            rest = rest;
            below = omega (arith, fewer, r.below);
            takes = l;
            m = m;
            leaves = q;
            due = omega (arith, r.due, fewer);
            far = omega (arith, r.far, lm, some);
          };
          sized = sized;
        })

  commits_by : (depth q : ℕ) (to : Regs) (r : IsRunning d b total left t c (regs_at pc fp stack) (suc depth) nv log words) → d.next (regs_at pc fp stack) nv ≡ Commits q to
      → Moves d b total left t 1 c (count_commit (suc depth) c) (commits (suc depth) q to (inside depth r)).state
  commits_by zero q to r e =
      let s = taking d b r.now r.rest (core zero r) _ e r.takes in
      let tied : suc (c.kept + c.tried) + s.less ≡ total = omega (arith, s.is, r.tied) in
      let more : c.kept < suc (c.kept + c.tried) = omega arith in
      gains (r.rest - 1) (r.rest - 1) (omega (arith, r.below, r.entry.due)) (omega (arith, r.due, s.next.0)) more
      (record { stands = record { n = s.less; tied = tied; takes = s.next.1; empty = refl; due = omega arith }; sized = sized })
  commits_by (suc depth) q to r e =
      let s = taking d b r.now r.rest (core (suc depth) r) _ e r.takes in
      let l = leaving d r.entry.brief.words r.m (core (suc depth) r) _ e r.leaves in
      stays (suc depth) r to depth s.less (r.rest - 1) l.less (omega (arith, s.is)) (omega (arith, s.next.0)) (omega (arith, l.is)) s.next.1 l.next

  running_by : (depth : ℕ) (x : Next) (r : IsRunning d b total left t c (regs_at pc fp stack) (suc depth) nv log words) → d.next (regs_at pc fp stack) nv ≡ x
      → Moves d b total left t 1 c (count_next x (inside depth r) c) (run_next sample x (inside depth r)).state
  running_by depth (Goes to w v) r e = goes_by depth r to w v (to_log (suc depth) w log) e refl
  running_by depth (Senses x to) r e =
      let s = taking d b r.now r.rest (core depth r) _ e r.takes in
      let l = leaving d r.entry.brief.words r.m (core depth r) _ e r.leaves in
      stays depth r (pushed to (sample x)) depth s.less (r.rest - 1) l.less (omega (arith, s.is)) (omega (arith, s.next.0)) (omega (arith, l.is)) (s.next.1 (sample x) (words_are x))
      (l.next (sample x) (words_are x))
  running_by depth (Enters q to) r e =
      let s = taking d b r.now r.rest (core depth r) _ e r.takes in
      let l = leaving d r.entry.brief.words r.m (core depth r) _ e r.leaves in
      stays depth r to (suc depth) s.less (r.rest - 1) l.less (omega (arith, s.is)) (omega (arith, s.next.0)) (omega (arith, l.is)) s.next.2 l.next
  running_by depth (Commits q to) r e = commits_by depth q to r e
  running_by depth (Ends how) r e = over how refl
  running_by depth Stuck r e = absurd ((taking d b r.now r.rest (core depth r) _ e r.takes).next)

  armed_wakes : (depth : ℕ) → IsWaking d b total left t c nv log words → Moves d b total left t 1 c c (wake d Armed (state_at Waking pc fp depth stack nv log Armed words)).state
  armed_wakes depth w =
      let e = w.entry in
      let f = takes_fits d b e.n e.rest (core_at e.saved 1 e.entry_nv) e.takes in
      nears (t - 1) (omega (arith, w.due)) refl (record {
        stands = undone_from nv (length log) (t - 1) depth e w.none (omega arith) (ap (λ l. undo l nv) (take-length log) ∙ e.undoes) (omega (arith, w.due, f, length-words_of e.saved));
        sized = sized;
      })

  -- one step, by the area and what is under way
  pub step_moves : (area : AreaState) (phase : Phase) (depth : ℕ) → Stands d b total area phase depth left t c (state_at phase pc fp depth stack nv log area words)
      → Moves d b total left t 1 c (counted d phase (state_at phase pc fp depth stack nv log area words) c) (step_in d sample phase (state_at phase pc fp depth stack nv log area words)).state
  step_moves Fresh Waking depth s =
      nears (t - 1) (omega (arith, s.due)) refl (record { stands = record { n = s.n; tied = s.tied; takes = s.takes; empty = s.empty; due = omega (arith, s.due) }; sized = sized })
  step_moves Fresh (Undoing j) depth s = absurd s
  step_moves Fresh (Restoring j) depth s = absurd s
  step_moves Fresh Running depth s = absurd s
  step_moves Fresh (Entering j) depth s = absurd s
  step_moves Fresh (Over how) depth s = absurd s
  step_moves Fresh Lost depth s = absurd s
  step_moves Open Waking depth s = absurd s
  step_moves Open (Undoing j) depth s = absurd s
  step_moves Open (Restoring j) depth s = absurd s
  step_moves Open Running zero s = open_by (d.next (regs_at pc fp stack) nv) s refl
  step_moves Open Running (suc depth) s = absurd s
  step_moves Open (Entering j) depth s = enter_on_moves (Entering j) depth j s
  step_moves Open (Over how) depth s = absurd s
  step_moves Open Lost depth s = absurd s
  step_moves Sealed Waking depth s =
      let g = s.stored in
      let f = takes_fits d b g.n left (core_at g.saved 0 nv) g.takes in
      nears (t - 1) (omega (arith, s.due)) refl (record {
        stands = record { stored = g; restored = none_restored d pc fp stack g.saved; due = omega (arith, s.due, f, length-words_of g.saved) };
        sized = sized;
      })
  step_moves Sealed (Undoing j) depth s = absurd s
  step_moves Sealed (Restoring j) depth s = restores_sealed j depth (nat_lt j (held words)) s refl
  step_moves Sealed Running depth s = absurd s
  step_moves Sealed (Entering j) depth s = absurd s
  step_moves Sealed (Over how) depth s = absurd s
  step_moves Sealed Lost depth s = absurd s
  step_moves Armed Waking depth s = armed_wakes depth s
  step_moves Armed (Undoing j) depth s = undo_moves j depth s
  step_moves Armed (Restoring j) depth s = restores_armed j depth (nat_lt j (held words)) s refl
  step_moves Armed Running zero s = absurd s
  step_moves Armed Running (suc depth) s = running_by depth (d.next (regs_at pc fp stack) nv) s refl
  step_moves Armed (Entering j) depth s = absurd s
  step_moves Armed (Over how) depth s = absurd s
  step_moves Armed Lost depth s = absurd s
