-- How many instructions a run takes at most, apart from its steps.
use Rattle.std.proofs.Common.{◌≤◌, ℕ, zero, suc, ◌-◌, length}
use Rattle.oc_isa.specs.Next.{Regs, Next, Goes, Senses, Enters, Commits, Ends, Stuck, Device, pushed, written}
use Rattle.oc_isa.specs.Run.{Core, core_at, start_of}
use Rattle.oc_bounds.specs.Bounds.{Bounds, Claim, Takes, IsBounded, sampled, opens, goes_on_commit, takes_next, enter_steps}

-- behind an instruction the claim holds, it is no undefined one, and a region that it enters stays
-- within its bounds
abbrev pub lasts_next : Device → Bounds → Next → Core → Claim → Type 0
lasts_next d b (Goes to w shown) c go = go (core_at to c.depth (written w c.nv))
lasts_next d b (Senses s to) c go = sampled to c go
lasts_next d b (Enters r to) c go =
    opens d b c.depth r (core_at to (suc c.depth) c.nv) × go (core_at to (suc c.depth) c.nv)
lasts_next d b (Commits r to) c go = goes_on_commit c.depth to c go
lasts_next d b (Ends how) c go = Unit {0}
lasts_next d b Stuck c go = ⊥

-- from here a run is over within n instructions and meets no undefined
-- step, and each region that it enters stays within its bounds
abbrev pub Lasts : Device → Bounds → ℕ → Core → Type 0
Lasts d b zero c = ⊥
Lasts d b (suc n) c =
    (length c.regs.stack ≤ d.room) × lasts_next d b (d.next c.regs c.nv) c (Lasts d b n)

-- what takes t steps at most is over within as many instructions
module _ (d : Device) (b : Bounds) where
  lasts_by_commit : (depth n t : ℕ) (to : Regs) (c : Core) → ((c : Core) (t : ℕ) → Takes d b n t c → Lasts d b n c)
      → goes_on_commit depth to c (Takes d b n t) → goes_on_commit depth to c (Lasts d b n)
  lasts_by_commit zero n t to c f h = h
  lasts_by_commit (suc k) n t to c f h = f (core_at to k c.nv) t h

  lasts_by : (x : Next) (n t : ℕ) (c : Core) → ((c : Core) (t : ℕ) → Takes d b n t c → Lasts d b n c) → takes_next d b x c t (Takes d b n)
      → lasts_next d b x c (Lasts d b n)
  lasts_by (Goes to w shown) n t c f h = f (core_at to c.depth (written w c.nv)) (t - 1) h.1
  lasts_by (Senses s to) n t c f h = λ x w. f (core_at (pushed to x) c.depth c.nv) (t - 1) (h.1 x w)
  lasts_by (Enters r to) n t c f h = (h.1, f (core_at to (suc c.depth) c.nv) (t - enter_steps d b c.depth r) h.2)
  lasts_by (Commits r to) n t c f h = lasts_by_commit c.depth n (t - 1) to c f h.1
  lasts_by (Ends how) n t c f h = tt
  lasts_by Stuck n t c f h = h

  lasts_if : (n t : ℕ) (c : Core) → Takes d b n t c → Lasts d b n c
  lasts_if zero t c h = h
  lasts_if (suc n) t c h = (h.0, lasts_by (d.next c.regs c.nv) n t c (λ c t g. lasts_if n t c g) h.1)

  pub lasts_whole : IsBounded d b → Lasts d b b.total (start_of d)
  lasts_whole q = lasts_if b.total b.steps (start_of d) q.takes
