-- A state of the continuous run, and what leads on from it.
use Rattle.std.proofs.Common.{◌≡◌, ℕ, zero, suc, ◌+◌, ◌-◌, ◌≤◌, ℤ, List, [], ◌∷◌, ◌++◌, length, Option, Some, None, refl, sym, ap, ◌∙◌, subst, arith, append_assoc, append-nil, true}
use Rattle.std.proofs.lemmas.List.Elements.{All-cons, All-nil}
use Rattle.oc_tree.specs.Word.{is_word}
use Rattle.oc_tree.specs.declared.said.Ending.{Ending}
use Rattle.oc_tree.specs.declared.said.Said.{Said}
use Rattle.oc_tree.specs.declared.said.Said.TheVariants.{Sensed, Showed, Entered, Committed, Ended}
use Rattle.oc_tree.specs.declared.said.Shown.{Shown}
use Rattle.oc_isa.specs.Next.{pushed, Regs, Write, Next, Goes, Senses, Enters, Commits, Ends, Stuck, Device, written}
use Rattle.oc_isa.specs.Run.{Core, start_of, core_at, Ran, stops, Onward, then_shown, then_entered, run_sense, run_commit, follow, run_on, continuous_run, safe_next, Safe, AreWords, IsSound}
use Rattle.oc_items.specs.Reports.{IsPrefixOf}

abbrev IsWord : ℤ → Type 0
IsWord x = is_word x ≡ true

no_words : AreWords []
no_words = All-nil IsWord

-- after m instructions over these samples the continuous run has said `out`, and stands at c
pub record IsAt (d : Device) (samples : List ℤ) (out : List Said) (m : ℕ) (c : Core) : Type 0 where
  pub by : (k : ℕ) (more : List ℤ) → run_on d (m + k) (samples ++ more) (start_of d) [] ≡ run_on d k more c out
  pub safe : (k : ℕ) (more : List ℤ) → AreWords more → Safe d k more c

pub at_start : (d : Device) → IsSound d → IsAt d [] [] 0 (start_of d)
at_start d s = record {
  by = λ k more. let e : 0 + k ≡ k = omega arith in ap (λ n. run_on d n more (start_of d) []) e;
  safe = λ k more a. s.safe k more a;
}

module _ (d : Device) where
  -- a run over these samples goes on from there
  pub run-from : (samples : List ℤ) (out : List Said) (m : ℕ) (c : Core) → IsAt d samples out m c → (n : ℕ) → m ≤ n → continuous_run d samples n ≡ run_on d (n - m) [] c out
  run-from samples out m c a n le =
      let e : n ≡ m + (n - m) = omega arith in
      ap (λ k. run_on d k samples (start_of d) []) e ∙ ap (λ l. run_on d (m + (n - m)) l (start_of d) []) (sym (append-nil samples)) ∙ a.by (n - m) []

  -- what was said stays said
  prefix_same : (out : List Said) → IsPrefixOf out out
  prefix_same out = ([], append-nil out)

  prefix_more : (out more all : List Said) → IsPrefixOf (out ++ more) all → IsPrefixOf out all
  prefix_more out more all p = (more ++ p.0, sym (append_assoc out more p.0) ∙ p.1)

  abbrev Grows : Onward → Type 0
  Grows go = (samples : List ℤ) (c : Core) (out : List Said) → IsPrefixOf out ((go samples c out).out)

  shown_grows : (go : Onward) → Grows go → (v : Option Shown) (samples : List ℤ) (c : Core) (out : List Said) → IsPrefixOf out ((go samples c (then_shown out v)).out)
  shown_grows go h None samples c out = h samples c out
  shown_grows go h (Some what) samples c out = prefix_more out (Showed what ∷ []) _ (h samples c (out ++ Showed what ∷ []))

  entered_grows : (go : Onward) → Grows go → (depth r : ℕ) (samples : List ℤ) (c : Core) (out : List Said) → IsPrefixOf out ((go samples c (then_entered out depth r)).out)
  entered_grows go h zero r samples c out = prefix_more out (Entered r ∷ []) _ (h samples c (out ++ Entered r ∷ []))
  entered_grows go h (suc k) r samples c out = h samples c out

  sense_grows : (go : Onward) → Grows go → (samples : List ℤ) (s : ℕ) (to : Regs) (c : Core) (out : List Said) → IsPrefixOf out ((run_sense samples s to c out go).out)
  sense_grows go h [] s to c out = prefix_same out
  sense_grows go h (x ∷ samples) s to c out = prefix_more out (Sensed s x ∷ []) _ (h samples _ (out ++ Sensed s x ∷ []))

  commit_grows : (go : Onward) → Grows go → (depth r : ℕ) (to : Regs) (samples : List ℤ) (c : Core) (out : List Said) → IsPrefixOf out ((run_commit depth r to samples c out go).out)
  commit_grows go h zero r to samples c out = prefix_same out
  commit_grows go h (suc zero) r to samples c out = prefix_more out (Committed r ∷ []) _ (h samples _ (out ++ Committed r ∷ []))
  commit_grows go h (suc (suc k)) r to samples c out = h samples _ out

  follow_grows : (go : Onward) → Grows go → (x : Next) (samples : List ℤ) (c : Core) (out : List Said) → IsPrefixOf out ((follow x samples c out go).out)
  follow_grows go h (Goes to w v) samples c out = shown_grows go h v samples _ out
  follow_grows go h (Senses s to) samples c out = sense_grows go h samples s to c out
  follow_grows go h (Enters r to) samples c out = entered_grows go h c.depth r samples _ out
  follow_grows go h (Commits r to) samples c out = commit_grows go h c.depth r to samples c out
  follow_grows go h (Ends how) samples c out = (Ended how ∷ [], refl)
  follow_grows go h Stuck samples c out = prefix_same out

  run_grows : (n : ℕ) → Grows (run_on d n)
  run_grows zero samples c out = prefix_same out
  run_grows (suc n) samples c out = follow_grows (run_on d n) (run_grows n) (d.next c.regs c.nv) samples c out

  -- so what was said there is said by every run that is no shorter
  pub said_by : (samples : List ℤ) (out : List Said) (m : ℕ) (c : Core) → IsAt d samples out m c → (n : ℕ) → m ≤ n → IsPrefixOf out ((continuous_run d samples n).out)
  said_by samples out m c a n le = subst (λ (r : Ran). IsPrefixOf out r.out) (sym (run-from samples out m c a n le)) (run_grows (n - m) [] c out)

-- what the next instruction leads to
module _ (d : Device) (samples : List ℤ) (out : List Said) (m : ℕ) where
  goes_by : (c : Core) (x : Next) → IsAt d samples out m c → d.next c.regs c.nv ≡ x → (k : ℕ) (more : List ℤ) → run_on d (suc m + k) (samples ++ more) (start_of d) []
      ≡ follow x more c out (run_on d k)
  goes_by c x a e k more =
      let n : suc m + k ≡ m + suc k = omega arith in
      ap (λ n. run_on d n (samples ++ more) (start_of d) []) n ∙ a.by (suc k) more ∙ ap (λ x. follow x more c out (run_on d k)) e

  safe_by : (c : Core) (x : Next) → IsAt d samples out m c → d.next c.regs c.nv ≡ x → (k : ℕ) (more : List ℤ) → AreWords more → safe_next x more c (Safe d k)
  safe_by c x a e k more w = subst (λ x. safe_next x more c (Safe d k)) e (a.safe (suc k) more w).1

  -- the stack has room
  pub fits : (c : Core) → IsAt d samples out m c → length c.regs.stack ≤ d.room
  fits c a = (a.safe 1 [] no_words).0

  pub goes : (c : Core) (to : Regs) (w : Option Write) (v : Option Shown) → IsAt d samples out m c → d.next c.regs c.nv ≡ Goes to w v
      → IsAt d samples (then_shown out v) (suc m) (core_at to c.depth (written w c.nv))
  goes c to w v a e = record { by = goes_by c (Goes to w v) a e; safe = safe_by c (Goes to w v) a e }

  pub senses : (c : Core) (s : ℕ) (to : Regs) (x : ℤ) → is_word x ≡ true → IsAt d samples out m c → d.next c.regs c.nv ≡ Senses s to
      → IsAt d (samples ++ x ∷ []) (out ++ Sensed s x ∷ []) (suc m) (core_at (pushed to x) c.depth c.nv)
  senses c s to x w a e = record {
    by = λ k more. ap (λ l. run_on d (suc m + k) l (start_of d) []) (append_assoc samples (x ∷ []) more) ∙ goes_by c (Senses s to) a e k (x ∷ more);
    safe = λ k more ws. safe_by c (Senses s to) a e k (x ∷ more) (All-cons IsWord x more w ws);
  }

  pub enters : (regs : Regs) (nv : List ℤ) (r : ℕ) (to : Regs) → IsAt d samples out m (core_at regs 0 nv) → d.next regs nv ≡ Enters r to
      → IsAt d samples (out ++ Entered r ∷ []) (suc m) (core_at to 1 nv)
  enters regs nv r to a e = record { by = goes_by (core_at regs 0 nv) (Enters r to) a e; safe = safe_by (core_at regs 0 nv) (Enters r to) a e }

  pub enters_more : (regs : Regs) (depth : ℕ) (nv : List ℤ) (r : ℕ) (to : Regs) → IsAt d samples out m (core_at regs (suc depth) nv) → d.next regs nv ≡ Enters r to
      → IsAt d samples out (suc m) (core_at to (suc (suc depth)) nv)
  enters_more regs depth nv r to a e = record { by = goes_by (core_at regs (suc depth) nv) (Enters r to) a e; safe = safe_by (core_at regs (suc depth) nv) (Enters r to) a e }

  pub commits : (regs : Regs) (nv : List ℤ) (r : ℕ) (to : Regs) → IsAt d samples out m (core_at regs 1 nv) → d.next regs nv ≡ Commits r to
      → IsAt d samples (out ++ Committed r ∷ []) (suc m) (core_at to 0 nv)
  commits regs nv r to a e = record { by = goes_by (core_at regs 1 nv) (Commits r to) a e; safe = safe_by (core_at regs 1 nv) (Commits r to) a e }

  pub commits_more : (regs : Regs) (depth : ℕ) (nv : List ℤ) (r : ℕ) (to : Regs) → IsAt d samples out m (core_at regs (suc (suc depth)) nv) → d.next regs nv ≡ Commits r to
      → IsAt d samples out (suc m) (core_at to (suc depth) nv)
  commits_more regs depth nv r to a e = record { by = goes_by (core_at regs (suc (suc depth)) nv) (Commits r to) a e; safe = safe_by (core_at regs (suc (suc depth)) nv) (Commits r to) a e }

  pub commits_never : (regs : Regs) (nv : List ℤ) (r : ℕ) (to : Regs) → IsAt d samples out m (core_at regs 0 nv) → d.next regs nv ≡ Commits r to → ⊥
  commits_never regs nv r to a e = safe_by (core_at regs 0 nv) (Commits r to) a e 0 [] no_words

  pub stuck_never : (c : Core) → IsAt d samples out m c → d.next c.regs c.nv ≡ Stuck → ⊥
  stuck_never c a e = safe_by c Stuck a e 0 [] no_words

  -- the last word: every run that is longer ends there
  pub ends : (c : Core) (how : Ending) → IsAt d samples out m c → d.next c.regs c.nv ≡ Ends how → (n : ℕ) → suc m ≤ n → continuous_run d samples n ≡ stops c (out ++ Ended how ∷ [])
  ends c how a e n le =
      let i : n ≡ suc m + (n - suc m) = omega arith in
      ap (λ k. run_on d k samples (start_of d) []) i ∙ ap (λ l. run_on d (suc m + (n - suc m)) l (start_of d) []) (sym (append-nil samples)) ∙ goes_by c (Ends how) a e (n - suc m) []
