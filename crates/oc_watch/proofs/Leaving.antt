-- Attempts of a region, watched for its bounds: behind the commit nothing is claimed.
use Rattle.std.proofs.Common.{◌≡◌, ◌≤◌, ℕ, zero, suc, ℤ, List, [], ◌∷◌, Some, refl, sym, ap, ◌∙◌, subst, arith, true}
use Rattle.std.specs.Prelude.{slice_get}
use Rattle.std.proofs.lemmas.List.Elements.{All-cons, All-nil}
use Rattle.oc_tree.specs.Word.{is_word}
use Rattle.oc_tree.specs.declared.said.Ending.{Ending}
use Rattle.oc_tree.specs.declared.said.Ending.TheVariants.{Halted, Trapped}
use Rattle.oc_isa.specs.declared.instr.Instr.{Instr}
use Rattle.oc_isa.specs.Image.{Parts}
use Rattle.oc_isa.specs.Next.{Regs, Next, Goes, Senses, Enters, Commits, Ends, Stuck, Device, pushed, written}
use Rattle.oc_isa.specs.Run.{Core, core_at, Aim, AreWords}
use Rattle.oc_isa.specs.Table.{on, act, next_of, device_of}
use Rattle.oc_code.specs.Forms.{placed}
use Rattle.oc_code.proofs.Steps.{Mach, Watch}
use Rattle.oc_bounds.specs.Bounds.{Leaves, WritesIn, left_by_end, left_by_commit, leaves_next}

-- at depth 0 the region was left
abbrev pub at_depth : ℕ → Type 0 → Type 0
at_depth zero claim = Unit {0}
at_depth (suc j) claim = claim

abbrev pub leave_sense : List ℤ → Regs → Core → Aim → Type 0
leave_sense [] to c go = Unit {0}
leave_sense (x ∷ xs) to c go = go xs (core_at (pushed to x) c.depth c.nv)

abbrev pub leave_commit : ℕ → List ℤ → Regs → Core → Aim → Type 0
leave_commit zero xs to c go = ⊥
leave_commit (suc j) xs to c go = go xs (core_at to j c.nv)

abbrev pub leave_next : List ℕ → Next → List ℤ → Core → Aim → Type 0
leave_next ws (Goes to w shown) xs c go = WritesIn ws w × go xs (core_at to c.depth (written w c.nv))
leave_next ws (Senses s to) xs c go = leave_sense xs to c go
leave_next ws (Enters r to) xs c go = go xs (core_at to (suc c.depth) c.nv)
leave_next ws (Commits r to) xs c go = leave_commit c.depth xs to c go
leave_next ws (Ends how) xs c go = left_by_end how
leave_next ws Stuck xs c go = ⊥

-- in a region
abbrev pub Inside : Device → List ℕ → ℕ → Aim
Inside d ws zero xs c = ⊥
Inside d ws (suc n) xs c = leave_next ws (d.next c.regs c.nv) xs c (λ xs c. at_depth c.depth (Inside d ws n xs c))

-- over these samples the region is left within n instructions, or none is left, and until then only these words are written
abbrev pub LeavesOver : Device → List ℕ → ℕ → Aim
LeavesOver d ws n xs c = at_depth c.depth (Inside d ws n xs c)

module _ (p : Parts) (ws : List ℕ) where
  abbrev d : Device
  d = device_of p

  next_is : (n : ℕ) (i : Instr) (c : Mach) (x : Next) → slice_get p.code c.core.regs.pc ≡ Some (placed n i) → act p n i c.core.regs c.core.nv ≡ x → next_of p c.core.regs c.core.nv ≡ x
  next_is n i c x at e = ap (λ o. on o (λ q. act p q.site q.instr c.core.regs c.core.nv)) at ∙ e

  pub lift : (depth : ℕ) (A : Type 0) → A → at_depth depth A
  lift zero A a = tt
  lift (suc j) A a = a

  -- a step: at depth 0 nothing is to be shown
  pub step : (k n : ℕ) (i : Instr) (c : Mach) (x : Next) → slice_get p.code c.core.regs.pc ≡ Some (placed n i) → act p n i c.core.regs c.core.nv ≡ x
      → at_depth c.core.depth (leave_next ws x c.samples c.core (LeavesOver d ws k)) → LeavesOver d ws (suc k) c.samples c.core
  step k n i c x at e l = subst (λ x. at_depth c.core.depth (leave_next ws x c.samples c.core (LeavesOver d ws k))) (sym (next_is n i c x at e)) l

  more_depth : (j : ℕ) (A B : Type 0) → (A → B) → at_depth j A → at_depth j B
  more_depth zero A B f a = tt
  more_depth (suc j) A B f a = f a

  more_sense : (xs : List ℤ) (to : Regs) (c : Core) (f g : Aim) → ((xs : List ℤ) (c : Core) → f xs c → g xs c) → leave_sense xs to c f → leave_sense xs to c g
  more_sense [] to c f g h l = tt
  more_sense (x ∷ xs) to c f g h l = h xs _ l

  more_commit : (depth : ℕ) (xs : List ℤ) (to : Regs) (c : Core) (f g : Aim) → ((xs : List ℤ) (c : Core) → f xs c → g xs c) → leave_commit depth xs to c f → leave_commit depth xs to c g
  more_commit zero xs to c f g h l = l
  more_commit (suc j) xs to c f g h l = h xs _ l

  more_next : (x : Next) (xs : List ℤ) (c : Core) (f g : Aim) → ((xs : List ℤ) (c : Core) → f xs c → g xs c) → leave_next ws x xs c f → leave_next ws x xs c g
  more_next (Goes to w v) xs c f g h l = (l.0, h xs _ l.1)
  more_next (Senses s to) xs c f g h l = more_sense xs to c f g h l
  more_next (Enters r to) xs c f g h l = h xs _ l
  more_next (Commits r to) xs c f g h l = more_commit c.depth xs to c f g h l
  more_next (Ends how) xs c f g h l = l
  more_next Stuck xs c f g h l = l

  inside_more : (k j : ℕ) (xs : List ℤ) (c : Core) → k ≤ j → Inside d ws k xs c → Inside d ws j xs c
  inside_more zero j xs c le l = absurd l
  inside_more (suc k) zero xs c le l = absurd (omega (arith, le))
  inside_more (suc k) (suc j) xs c le l = more_next (d.next c.regs c.nv) xs c (LeavesOver d ws k) (LeavesOver d ws j)
      (λ xs c l. more_depth c.depth (Inside d ws k xs c) (Inside d ws j xs c) (λ i. inside_more k j xs c (omega (arith, le)) i) l) l

  pub leaves_more : (k j : ℕ) (xs : List ℤ) (c : Core) → k ≤ j → LeavesOver d ws k xs c → LeavesOver d ws j xs c
  leaves_more k j xs c le l = more_depth c.depth (Inside d ws k xs c) (Inside d ws j xs c) (λ i. inside_more k j xs c le i) l

  pub ends_by : (depth : ℕ) (how : Ending) → (how ≡ Halted → depth ≡ 0) → at_depth depth (left_by_end how)
  ends_by zero how h = tt
  ends_by (suc j) Halted h = absurd (let e : suc j ≡ 0 = h refl in omega (arith, e))
  ends_by (suc j) (Trapped kind site) h = tt

  pub committed : (depth j : ℕ) (xs : List ℤ) (to : Regs) (c : Core) (f : Aim) → depth ≡ suc j → f xs (core_at to j c.nv) → leave_commit depth xs to c f
  committed depth j xs to c f e g = subst (λ n. leave_commit n xs to c f) (sym e) g

  abbrev pub leaving : Watch
  leaving = record {
    parts = p;
    holds = λ k c. LeavesOver d ws k c.samples c.core;
    allows = λ w. WritesIn ws w;
    quiet = tt;
    over = λ out nv. Unit {0};
    opens = λ r c. Unit {0};
    more = λ k j c le l. leaves_more k j c.samples c.core le l;
    goes = λ k n i c to w sh at room e a l. step k n i c (Goes to w sh) at e (lift c.core.depth _ (a, l));
    senses = λ k n i c s to z zs at room e q l. step k n i c (Senses s to) at e (lift c.core.depth _ (subst (λ xs. leave_sense xs to c.core (LeavesOver d ws k)) (sym q) l));
    starves = λ k n i c s to at room e q o. step k n i c (Senses s to) at e (lift c.core.depth _ (subst (λ xs. leave_sense xs to c.core (LeavesOver d ws k)) (sym q) tt));
    enters = λ k n i c r to at room e o l. step k n i c (Enters r to) at e (lift c.core.depth _ l);
    commits = λ k n j i c r to at room e q l. step k n i c (Commits r to) at e (lift c.core.depth _ (committed c.core.depth j c.samples to c.core (LeavesOver d ws k) q l));
    ends = λ k n i c how at room e h o. step k n i c (Ends how) at e (ends_by c.core.depth how h);
  }

-- ---- from runs over lists of samples to runs over whatever is sampled

abbrev IsWord : ℤ → Type 0
IsWord x = is_word x ≡ true

module _ (d : Device) (ws : List ℕ) where
  abbrev AllLeaves : ℕ → Core → Type 0
  AllLeaves n c = (xs : List ℤ) → AreWords xs → LeavesOver d ws n xs c

  abbrev Later : ℕ → Type 0
  Later n = (j : ℕ) (c : Core) → c.depth ≡ suc j → AllLeaves n c → Leaves d ws n c

  commit_leaves : (n depth : ℕ) (to : Regs) (c : Core) → Later n → ((xs : List ℤ) → AreWords xs → leave_commit depth xs to c (LeavesOver d ws n)) → left_by_commit depth to c (Leaves d ws n)
  commit_leaves n zero to c f g = g [] (All-nil IsWord)
  commit_leaves n (suc zero) to c f g = tt
  commit_leaves n (suc (suc k)) to c f g = f k (core_at to (suc k) c.nv) refl g

  next_leaves : (n : ℕ) (x : Next) (j : ℕ) (c : Core) → c.depth ≡ suc j → Later n → ((xs : List ℤ) → AreWords xs → leave_next ws x xs c (LeavesOver d ws n)) → leaves_next ws x c (Leaves d ws n)
  next_leaves n (Goes to w v) j c e f g = ((g [] (All-nil IsWord)).0, f j (core_at to c.depth (written w c.nv)) e (λ xs a. (g xs a).1))
  next_leaves n (Senses s to) j c e f g = λ x w. f j (core_at (pushed to x) c.depth c.nv) e (λ xs a. g (x ∷ xs) (All-cons IsWord x xs w a))
  next_leaves n (Enters r to) j c e f g = f c.depth (core_at to (suc c.depth) c.nv) refl g
  next_leaves n (Commits r to) j c e f g = commit_leaves n c.depth to c f g
  next_leaves n (Ends how) j c e f g = g [] (All-nil IsWord)
  next_leaves n Stuck j c e f g = g [] (All-nil IsWord)

  in_depth : (depth j : ℕ) (A : Type 0) → depth ≡ suc j → at_depth depth A → A
  in_depth depth j A e a = subst (λ n. at_depth n A) e a

  pub leaves_all : (n j : ℕ) (c : Core) → c.depth ≡ suc j → AllLeaves n c → Leaves d ws n c
  leaves_all zero j c e g = in_depth c.depth j ⊥ e (g [] (All-nil IsWord))
  leaves_all (suc n) j c e g = next_leaves n (d.next c.regs c.nv) j c e (λ j c e g. leaves_all n j c e g) (λ xs a. in_depth c.depth j (Inside d ws (suc n) xs c) e (g xs a))
