-- Whole runs, watched for their bounds.
use Rattle.std.proofs.Common.{◌≡◌, ◌≤◌, ℕ, zero, suc, ℤ, List, [], ◌∷◌, length, Some, refl, sym, ap, ◌∙◌, subst, arith}
use Rattle.std.specs.Prelude.{slice_get}
use Rattle.oc_isa.specs.declared.instr.Instr.{Instr}
use Rattle.oc_isa.specs.Image.{Parts}
use Rattle.oc_isa.specs.Next.{Regs, Next, Goes, Senses, Enters, Commits, Ends, Stuck, Device}
use Rattle.oc_isa.specs.Run.{Core, core_at, Aim}
use Rattle.oc_isa.specs.Table.{on, act, next_of, device_of}
use Rattle.oc_code.specs.Forms.{placed}
use Rattle.oc_code.proofs.Steps.{Mach, Watch}
use Rattle.oc_bounds.specs.Bounds.{Bounds, IsBrief, opens}
use Rattle.oc_bounds.proofs.Lists.{LastsOver, over_next, over_sense, over_commit}

module _ (p : Parts) (b : Bounds) where
  abbrev d : Device
  d = device_of p

  next_is : (n : ℕ) (i : Instr) (c : Mach) (x : Next) → slice_get p.code c.core.regs.pc ≡ Some (placed n i) → act p n i c.core.regs c.core.nv ≡ x → next_of p c.core.regs c.core.nv ≡ x
  next_is n i c x at e = ap (λ o. on o (λ q. act p q.site q.instr c.core.regs c.core.nv)) at ∙ e

  pub step : (k n : ℕ) (i : Instr) (c : Mach) (x : Next) → slice_get p.code c.core.regs.pc ≡ Some (placed n i) → length c.core.regs.stack ≤ p.stack → act p n i c.core.regs c.core.nv ≡ x
      → over_next d b x c.samples c.core (LastsOver d b k) → LastsOver d b (suc k) c.samples c.core
  step k n i c x at room e l = (room, subst (λ x. over_next d b x c.samples c.core (LastsOver d b k)) (sym (next_is n i c x at e)) l)

  more_sense : (xs : List ℤ) (to : Regs) (c : Core) (f g : Aim) → ((xs : List ℤ) (c : Core) → f xs c → g xs c) → over_sense xs to c f → over_sense xs to c g
  more_sense [] to c f g h l = tt
  more_sense (x ∷ xs) to c f g h l = h xs _ l

  more_commit : (depth : ℕ) (xs : List ℤ) (to : Regs) (c : Core) (f g : Aim) → ((xs : List ℤ) (c : Core) → f xs c → g xs c) → over_commit depth xs to c f → over_commit depth xs to c g
  more_commit zero xs to c f g h l = l
  more_commit (suc j) xs to c f g h l = h xs _ l

  more_next : (x : Next) (xs : List ℤ) (c : Core) (f g : Aim) → ((xs : List ℤ) (c : Core) → f xs c → g xs c) → over_next d b x xs c f → over_next d b x xs c g
  more_next (Goes to w v) xs c f g h l = h xs _ l
  more_next (Senses s to) xs c f g h l = more_sense xs to c f g h l
  more_next (Enters r to) xs c f g h l = (l.0, h xs _ l.1)
  more_next (Commits r to) xs c f g h l = more_commit c.depth xs to c f g h l
  more_next (Ends how) xs c f g h l = tt
  more_next Stuck xs c f g h l = l

  pub lasts_more : (k j : ℕ) (xs : List ℤ) (c : Core) → k ≤ j → LastsOver d b k xs c → LastsOver d b j xs c
  lasts_more zero j xs c le l = absurd l
  lasts_more (suc k) zero xs c le l = absurd (omega (arith, le))
  lasts_more (suc k) (suc j) xs c le l = (l.0, more_next (d.next c.regs c.nv) xs c (LastsOver d b k) (LastsOver d b j) (λ xs c l. lasts_more k j xs c (omega (arith, le)) l) l.1)

  pub opened : (depth r : ℕ) (to : Regs) (nv : List ℤ) → (depth ≡ 0 → IsBrief d b r (core_at to 1 nv)) → opens d b depth r (core_at to (suc depth) nv)
  opened zero r to nv f = f refl
  opened (suc j) r to nv f = tt

  pub committed : (depth j : ℕ) (xs : List ℤ) (to : Regs) (c : Core) (f : Aim) → depth ≡ suc j → f xs (core_at to j c.nv) → over_commit depth xs to c f
  committed depth j xs to c f e g = subst (λ n. over_commit n xs to c f) (sym e) g

  abbrev pub lasting : Watch
  lasting = record {
    parts = p;
    holds = λ k c. LastsOver d b k c.samples c.core;
    allows = λ w. Unit {0};
    quiet = tt;
    over = λ out nv. Unit {0};
    opens = λ r c. IsBrief d b r c.core;
    more = λ k j c le l. lasts_more k j c.samples c.core le l;
    goes = λ k n i c to w sh at room e a l. step k n i c (Goes to w sh) at room e l;
    senses = λ k n i c s to z zs at room e q l. step k n i c (Senses s to) at room e (subst (λ xs. over_sense xs to c.core (LastsOver d b k)) (sym q) l);
    starves = λ k n i c s to at room e q o. step k n i c (Senses s to) at room e (subst (λ xs. over_sense xs to c.core (LastsOver d b k)) (sym q) tt);
    enters = λ k n i c r to at room e o l. step k n i c (Enters r to) at room e (opened c.core.depth r to c.core.nv o, l);
    commits = λ k n j i c r to at room e q l. step k n i c (Commits r to) at room e (committed c.core.depth j c.samples to c.core (LastsOver d b k) q l);
    ends = λ k n i c how at room e h o. step k n i c (Ends how) at room e tt;
  }
