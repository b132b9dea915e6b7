-- Steps inside a region.
use Rattle.std.proofs.Common.{◌≡◌, ℕ, zero, suc, ◌+◌, ℤ, List, [], ◌∷◌, ◌++◌, length, Option, Some, None, refl, sym, ap, ◌∙◌, subst, arith, append_assoc, append-nil, Bool, true, false}
use Rattle.std.specs.Prelude.{if◌then◌else◌}
use Rattle.oc_tree.specs.Said.{Told}
use Rattle.oc_tree.specs.Word.{is_word}
use Rattle.oc_tree.specs.declared.said.Said.{Said}
use Rattle.oc_tree.specs.declared.said.Said.TheVariants.{Sensed, Showed, Committed}
use Rattle.oc_tree.specs.declared.said.Shown.{Shown}
use Rattle.oc_undo.specs.Undo.{undo, has_entry}
use Rattle.oc_undo.specs.declared.Entry.{Entry}
use Rattle.oc_ckpt.specs.declared.AreaState.TheVariants.{Armed}
use Rattle.oc_isa.specs.declared.phase.Phase.TheVariants.{Running}
use Rattle.oc_isa.specs.Next.{pushed, Regs, Write, Next, Goes, Senses, Enters, Commits, Ends, Stuck, Device, written}
use Rattle.oc_isa.specs.Run.{Core, core_at}
use Rattle.oc_isa.specs.Power.{State, run_next, goes, to_log, entry_at, enters, commits}
use Rattle.oc_items.specs.Erase.{marked, kept_samples}
use Rattle.oc_outage.specs.Kept.{Count, takes_one, count_write, count_commit, count_next}
use Rattle.oc_outage.proofs.Continues as continues
use Rattle.oc_outage.proofs.Continues.{IsAt}
use Rattle.oc_outage.proofs.Erasing.{item, IsPlain, ArePlain}
use Rattle.oc_outage.proofs.Facts.{state_at, regs_at, IsEntry, IsRunning, AreHonest, Stays}
use Rattle.oc_outage.proofs.Reports.{entry_later, honest_later, at_more, settled_more, grown, ended_whole, ended_honest}
use Rattle.oc_outage.proofs.Undone.{undo-set, undo-entry_at, has_entry_is}

is_logged : (b : Bool) (a : ℕ) → (if b then None else Some a) ≡ None → b ≡ true
is_logged true a e = refl
is_logged false a e = absurd (cc)

-- a write that asks for no entry has one, or is none
pub undoes_write : (log : List Entry) (nv entry_nv : List ℤ) (depth : ℕ) (w : Option Write) → to_log (suc depth) w log ≡ None → undo log nv ≡ entry_nv → undo log (written w nv) ≡ entry_nv
undoes_write log nv entry_nv depth None e u = u
undoes_write log nv entry_nv depth (Some w) e u = undo-set log nv w.addr w.word (has_entry_is log w.addr (is_logged (has_entry log w.addr) w.addr e)) ∙ u

module _ (d : Device) (report : List Told) (k made r : ℕ) (saved : Regs) (nv : List ℤ) (log : List Entry) (s : IsEntry d report k made r saved nv log) where
  entry_written : (depth : ℕ) (w : Option Write) → to_log (suc depth) w log ≡ None → IsEntry d report k (suc made) r saved (written w nv) log
  entry_written depth w e = record { within = omega arith; entry_nv = s.entry_nv; undoes = undoes_write log nv s.entry_nv depth w e s.undoes; at = s.at; closed = s.closed }

  entry_logged : (a : ℕ) → IsEntry d report k (suc made) r saved nv (log ++ entry_at nv a ∷ [])
  entry_logged a = record { within = omega arith; entry_nv = s.entry_nv; undoes = undo-entry_at log nv a ∙ s.undoes; at = s.at; closed = s.closed }

plain_more : (body : List Told) (t : ℕ) (s : Said) → ArePlain body → IsPlain s → ArePlain (body ++ item t s ∷ [])
plain_more [] t s p q = (q, tt)
plain_more (i ∷ body) t s p q = (p.0, plain_more body t s p.1 q)

pub parts_more : (report before body : List Told) (i j : Told) → report ≡ before ++ i ∷ body → report ++ j ∷ [] ≡ before ++ i ∷ (body ++ j ∷ [])
parts_more report before body i j e = ap (λ l. l ++ j ∷ []) e ∙ append_assoc before (i ∷ body) (j ∷ [])

-- one instruction more is tried
one_tried : (d : Device) (c : Count) (samples : List ℤ) (out : List Said) (core : Core) → IsAt d samples out (suc (c.kept + c.tried)) core → IsAt d samples out (c.kept + suc c.tried) core
one_tried d c samples out core a = let e : suc (c.kept + c.tried) ≡ c.kept + suc c.tried = omega arith in subst (λ n. IsAt d samples out n core) e a

module _ (d : Device) (h : ℕ → ℕ → ℤ) (report : List Told) (c : Count) (made t pc fp : ℕ) (stack : List ℤ) (depth : ℕ) (nv : List ℤ) (log : List Entry) (words : List ℤ)
    (a : AreHonest d h made report) (sized : length words ≡ 3 + d.room) (g : IsRunning d report c made (regs_at pc fp stack) (suc depth) nv log words) where
  abbrev here : State
  here = state_at Running pc fp (suc depth) stack nv log Armed words

  -- the instructions up to here
  abbrev tally : ℕ
  tally = c.kept + c.tried

  write_goes : (to : Regs) (w : Option Write) (v : Option Shown) → d.next (regs_at pc fp stack) nv ≡ Goes to w v → to_log (suc depth) w log ≡ None
      → Stays d h report (takes_one (suc depth) c) made t (goes None to w v here)
  write_goes to w None e log_none =
      let s = g.attempt in (
        record {
          region = g.region;
          attempt = record {
            before = s.before;
            tick = s.tick;
            body = s.body;
            parts = s.parts;
            plain = s.plain;
            entry = entry_written d s.before c.kept made g.region.number g.region.saved nv log s.entry depth w log_none;
            within = omega arith;
            at = one_tried d c _ _ _ (continues.goes d _ _ tally (core_at (regs_at pc fp stack) (suc depth) nv) to w None s.at e);
          };
        },
        honest_later d h report made a,
        sized,
      )
  write_goes to w (Some what) e log_none =
      let s = g.attempt in
      let at = at_more d report t (Showed what) tt (kept_samples report) (marked report ++ Showed what ∷ []) (suc tally) (core_at to (suc depth) (written w nv))
      (sym (append-nil (kept_samples report))) refl (continues.goes d _ _ tally (core_at (regs_at pc fp stack) (suc depth) nv) to w (Some what) s.at e) in (
        record {
          region = g.region;
          attempt = record {
            before = s.before;
            tick = s.tick;
            body = s.body ++ item t (Showed what) ∷ [];
            parts = parts_more report s.before s.body _ (item t (Showed what)) s.parts;
            plain = plain_more s.body t (Showed what) s.plain tt;
            entry = entry_written d s.before c.kept made g.region.number g.region.saved nv log s.entry depth w log_none;
            within = omega arith;
            at = one_tried d c _ _ _ at;
          };
        },
        grown d report t (Showed what) tt h made (suc tally) (core_at to (suc depth) (written w nv)) a at (omega arith) (tt, tt) tt,
        sized,
      )

  goes_by : (to : Regs) (w : Option Write) (v : Option Shown) (o : Option ℕ) → d.next (regs_at pc fp stack) nv ≡ Goes to w v → to_log (suc depth) w log ≡ o
      → Stays d h report (count_write o (suc depth) c) made t (goes o to w v here)
  goes_by to w v None e o = write_goes to w v e o
  goes_by to w v (Some x) e o =
      let s = g.attempt in (
        record {
          region = g.region;
          attempt = record {
            before = s.before;
            tick = s.tick;
            body = s.body;
            parts = s.parts;
            plain = s.plain;
            entry = entry_logged d s.before c.kept made g.region.number g.region.saved nv log s.entry x;
            within = omega arith;
            at = s.at;
          };
        },
        honest_later d h report made a,
        sized,
      )

  armed_senses : (x : ℕ) (to : Regs) → is_word (h x t) ≡ true → d.next (regs_at pc fp stack) nv ≡ Senses x to
      → Stays d h report (takes_one (suc depth) c) made t (run_next (λ s. h s t) (Senses x to) here)
  armed_senses x to word e =
      let s = g.attempt in
      let core = core_at (pushed to (h x t)) (suc depth) nv in
      let at = at_more d report t (Sensed x (h x t)) tt (kept_samples report ++ h x t ∷ []) (marked report ++ Sensed x (h x t) ∷ []) (suc tally) core refl refl
      (continues.senses d _ _ tally (core_at (regs_at pc fp stack) (suc depth) nv) x to (h x t) word s.at e) in (
        record {
          region = g.region;
          attempt = record {
            before = s.before;
            tick = s.tick;
            body = s.body ++ item t (Sensed x (h x t)) ∷ [];
            parts = parts_more report s.before s.body _ (item t (Sensed x (h x t))) s.parts;
            plain = plain_more s.body t (Sensed x (h x t)) s.plain tt;
            entry = entry_later d s.before c.kept made g.region.number g.region.saved nv log s.entry;
            within = omega arith;
            at = one_tried d c _ _ _ at;
          };
        },
        grown d report t (Sensed x (h x t)) tt h made (suc tally) core a at (omega arith) (tt, tt) refl,
        sized,
      )

  armed_enters : (q : ℕ) (to : Regs) → d.next (regs_at pc fp stack) nv ≡ Enters q to → Stays d h report (takes_one (suc depth) c) made t (enters (suc depth) q to here)
  armed_enters q to e =
      let s = g.attempt in (
        record {
          region = g.region;
          attempt = record {
            before = s.before;
            tick = s.tick;
            body = s.body;
            parts = s.parts;
            plain = s.plain;
            entry = entry_later d s.before c.kept made g.region.number g.region.saved nv log s.entry;
            within = omega arith;
            at = one_tried d c _ _ _ (continues.enters_more d _ _ tally (regs_at pc fp stack) depth nv q to s.at e);
          };
        },
        honest_later d h report made a,
        sized,
      )

module _ (d : Device) (h : ℕ → ℕ → ℤ) (report : List Told) (c : Count) (made t pc fp : ℕ) (stack : List ℤ) where
  armed_commits : (depth : ℕ) (nv : List ℤ) (log : List Entry) (words : List ℤ) (q : ℕ) (to : Regs) → AreHonest d h made report → length words ≡ 3 + d.room
      → IsRunning d report c made (regs_at pc fp stack) (suc depth) nv log words → d.next (regs_at pc fp stack) nv ≡ Commits q to
      → Stays d h report (count_commit (suc depth) c) made t (commits (suc depth) q to (state_at Running pc fp (suc depth) stack nv log Armed words))
  armed_commits zero nv log words q to a sized g e =
      let s = g.attempt in
      let at = at_more d report t (Committed q) tt (kept_samples report) (marked report ++ Committed q ∷ []) (suc (c.kept + c.tried)) (core_at to 0 nv) (sym (append-nil (kept_samples report)))
      refl (continues.commits d _ _ (c.kept + c.tried) (regs_at pc fp stack) nv q to s.at e) in (
        (settled_more d report t (Committed q) tt (suc made) (suc (c.kept + c.tried)) to nv at (omega arith) refl, refl),
        grown d report t (Committed q) tt h made (suc (c.kept + c.tried)) (core_at to 0 nv) a at (omega arith) (tt, tt) tt,
        sized,
      )
  armed_commits (suc depth) nv log words q to a sized g e =
      let s = g.attempt in (
        record {
          region = g.region;
          attempt = record {
            before = s.before;
            tick = s.tick;
            body = s.body;
            parts = s.parts;
            plain = s.plain;
            entry = entry_later d s.before c.kept made g.region.number g.region.saved nv log s.entry;
            within = omega arith;
            at = one_tried d c _ _ _ (continues.commits_more d _ _ (c.kept + c.tried) (regs_at pc fp stack) depth nv q to s.at e);
          };
        },
        honest_later d h report made a,
        sized,
      )

-- one step inside a region
module _ (d : Device) (h : ℕ → ℕ → ℤ) (words_of_h : (s t : ℕ) → is_word (h s t) ≡ true) (report : List Told) (c : Count) (made t pc fp : ℕ) (stack : List ℤ) (depth : ℕ) (nv : List ℤ)
    (log : List Entry) (words : List ℤ) (a : AreHonest d h made report) (sized : length words ≡ 3 + d.room) (g : IsRunning d report c made (regs_at pc fp stack) (suc depth) nv log words) where
  armed_by : (x : Next) → d.next (regs_at pc fp stack) nv ≡ x
      → Stays d h report (count_next x (state_at Running pc fp (suc depth) stack nv log Armed words) c) made t (run_next (λ s. h s t) x (state_at Running pc fp (suc depth) stack nv log Armed words))
  armed_by (Goes to w v) e = goes_by d h report c made t pc fp stack depth nv log words a sized g to w v (to_log (suc depth) w log) e refl
  armed_by (Senses x to) e = armed_senses d h report c made t pc fp stack depth nv log words a sized g x to (words_of_h x t) e
  armed_by (Enters q to) e = armed_enters d h report c made t pc fp stack depth nv log words a sized g q to e
  armed_by (Commits q to) e = armed_commits d h report c made t pc fp stack depth nv log words q to a sized g e
  armed_by (Ends how) e =
      let s = g.attempt in
      let core = core_at (regs_at pc fp stack) (suc depth) nv in
      (ended_whole d report made t (c.kept + c.tried) core how s.at s.within e, ended_honest d report made t (c.kept + c.tried) core how s.at s.within e h a, sized)
  armed_by Stuck e = let s = g.attempt in absurd (continues.stuck_never d _ _ (c.kept + c.tried) (core_at (regs_at pc fp stack) (suc depth) nv) s.at e)

  pub armed_keeps : Stays d h report (count_next (d.next (regs_at pc fp stack) nv) (state_at Running pc fp (suc depth) stack nv log Armed words) c) made t
      (run_next (λ s. h s t) (d.next (regs_at pc fp stack) nv) (state_at Running pc fp (suc depth) stack nv log Armed words))
  armed_keeps = armed_by (d.next (regs_at pc fp stack) nv) refl
