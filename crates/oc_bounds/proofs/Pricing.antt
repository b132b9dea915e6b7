-- The steps of a run without outages, from the number of its instructions; and the least number of steps of a period.
use Rattle.std.proofs.Common.{◌≡◌, ℕ, zero, suc, ◌+◌, ◌*◌, ◌-◌, ◌<◌, ◌≤◌, ℤ, List, max, refl, subst, arith, Bool, true, false, suc-mul}
use Rattle.std.specs.Prelude.{nat_lt, if◌then◌else◌}
use Rattle.std.proofs.lemmas.Bool.{ltb-true, ltb-false}
use Rattle.oc_isa.specs.Next.{Regs, Next, Goes, Senses, Enters, Commits, Ends, Stuck, Device, pushed, written}
use Rattle.oc_isa.specs.Run.{Core, core_at, start_of}
use Rattle.oc_bounds.specs.Bounds.{Bounds, Takes, IsBrief, IsBounded, opens, goes_on_commit, takes_next, enter_steps}
use Rattle.oc_bounds.proofs.Lasting.{Lasts, lasts_next, lasts_whole}
use Rattle.oc_bounds.specs.Headway.{least, two_steps}
use Rattle.oc_bounds.proofs.Carrying.{IsLeast}

-- a region takes so many steps more than its instructions
module _ (d : Device) (b : Bounds) (more : ℕ) (few : (r : ℕ) (c : Core) → IsBrief d b r c → 3 + d.room + b.logged r ≤ more) where
  -- twice the steps of n instructions at most: a region has two of them, its `enter` and its `commit`
  abbrev twice : (depth n : ℕ) → ℕ
  twice zero n = n * (2 + more)
  twice (suc k) n = n * (2 + more) - more

  grown : (n : ℕ) → suc n * (2 + more) ≡ n * (2 + more) + (2 + more)
  grown n = suc-mul n (2 + more)

  some : (depth n t : ℕ) → twice depth (suc n) ≤ 2 * t → 1 ≤ t
  some zero n t le = let x : suc n * (2 + more) ≤ 2 * t = le in omega (arith, x, grown n)
  some (suc k) n t le = let x : suc n * (2 + more) - more ≤ 2 * t = le in omega (arith, x, grown n)

  less : (depth n t : ℕ) → twice depth (suc n) ≤ 2 * t → twice depth n ≤ 2 * (t - 1)
  less zero n t le =
      let x : suc n * (2 + more) ≤ 2 * t = le in
      let y : n * (2 + more) ≤ 2 * (t - 1) = omega (arith, x, grown n) in
      y
  less (suc k) n t le =
      let x : suc n * (2 + more) - more ≤ 2 * t = le in
      let y : n * (2 + more) - more ≤ 2 * (t - 1) = omega (arith, x, grown n) in
      y

  -- behind the commit
  leaves : (n t : ℕ) → twice 1 (suc n) ≤ 2 * t → twice 0 n ≤ 2 * (t - 1)
  leaves n t le =
      let x : suc n * (2 + more) - more ≤ 2 * t = le in
      let y : n * (2 + more) ≤ 2 * (t - 1) = omega (arith, x, grown n) in
      y

  -- behind the entry
  goes_in : (n t r : ℕ) → 3 + d.room + b.logged r ≤ more → twice 0 (suc (suc n)) ≤ 2 * t → (4 + d.room + b.logged r ≤ t) × (twice 1 (suc n) ≤ 2 * (t - (4 + d.room + b.logged r)))
  goes_in n t r low le =
      let x : suc (suc n) * (2 + more) ≤ 2 * t = le in
      let y : suc n * (2 + more) - more ≤ 2 * (t - (4 + d.room + b.logged r)) = omega (arith, x, low, grown n, grown (suc n)) in
      (omega (arith, x, low, grown n, grown (suc n)), y)

  abbrev Onward : ℕ → Type 0
  Onward n = (t : ℕ) (c : Core) → twice c.depth n ≤ 2 * t → Lasts d b n c → Takes d b n t c

  commits_by : (depth n t : ℕ) (to : Regs) (c : Core) → Onward n → twice depth (suc n) ≤ 2 * t → goes_on_commit depth to c (Lasts d b n) → goes_on_commit depth to c (Takes d b n (t - 1))
  commits_by zero n t to c f le l = l
  commits_by (suc zero) n t to c f le l = f (t - 1) (core_at to 0 c.nv) (leaves n t le) l
  commits_by (suc (suc k)) n t to c f le l = f (t - 1) (core_at to (suc k) c.nv) (less (suc k) n t le) l

  enters_by : (depth n t r : ℕ) (to : Regs) (nv : List ℤ) → Onward n → twice depth (suc n) ≤ 2 * t
      → opens d b depth r (core_at to (suc depth) nv) × Lasts d b n (core_at to (suc depth) nv)
      → (enter_steps d b depth r ≤ t) × opens d b depth r (core_at to (suc depth) nv) × Takes d b n (t - enter_steps d b depth r) (core_at to (suc depth) nv)
  enters_by zero zero t r to nv f le l = absurd (l.1)
  enters_by zero (suc n) t r to nv f le l =
      let q = goes_in n t r (few r (core_at to 1 nv) l.0) le in
      (q.0, l.0, f (t - (4 + d.room + b.logged r)) (core_at to 1 nv) q.1 l.1)
  enters_by (suc k) n t r to nv f le l = (some (suc k) n t le, l.0, f (t - 1) (core_at to (suc (suc k)) nv) (less (suc k) n t le) l.1)

  takes_by : (x : Next) (n t : ℕ) (c : Core) → Onward n → twice c.depth (suc n) ≤ 2 * t → lasts_next d b x c (Lasts d b n) → takes_next d b x c t (Takes d b n)
  takes_by (Goes to w v) n t c f le l = (some c.depth n t le, f (t - 1) (core_at to c.depth (written w c.nv)) (less c.depth n t le) l)
  takes_by (Senses s to) n t c f le l = (some c.depth n t le, λ x w. f (t - 1) (core_at (pushed to x) c.depth c.nv) (less c.depth n t le) (l x w))
  takes_by (Enters r to) n t c f le l = enters_by c.depth n t r to c.nv f le l
  takes_by (Commits r to) n t c f le l = (some c.depth n t le, commits_by c.depth n t to c f le l)
  takes_by (Ends how) n t c f le l = some c.depth n t le
  takes_by Stuck n t c f le l = absurd l

  pub takes_of : (n : ℕ) → Onward n
  takes_of zero t c le l = absurd l
  takes_of (suc n) t c le l = (l.0, takes_by (d.next c.regs c.nv) n t c (λ t c le l. takes_of n t c le l) le l.1)

module _ (d : Device) (b : Bounds) where
  abbrev long : ℕ
  long = max (2 * d.room + 9) (b.safe - (d.room + 4))

  low_long : d.room + 6 ≤ max (2 * d.room + 9) (b.safe - (d.room + 4))
  low_long = omega arith

  entry_long : 2 * d.room + 9 ≤ max (2 * d.room + 9) (b.safe - (d.room + 4))
  entry_long = omega arith

  attempt_long : (k : ℕ) → 2 * d.room + 9 + k ≤ b.safe → d.room + 5 + k ≤ max (2 * d.room + 9) (b.safe - (d.room + 4))
  attempt_long k le = omega (arith, le)

  never : (r : ℕ) (c : Core) → b.safe < 2 * d.room + 9 → IsBrief d b r c → ⊥
  never r c short i = let safe : 2 * d.room + 9 + (b.spent r + b.logged r) ≤ b.safe = i.safe in omega (arith, safe, short)

  least_by : (plain : Bool) → nat_lt b.safe (2 * d.room + 9) ≡ plain → d.room + 6 ≤ b.safe → IsLeast d b (if plain then b.safe else long)
  least_by true e low =
      let short : b.safe < 2 * d.room + 9 = ltb-true b.safe (2 * d.room + 9) e in
      record { low = low; entry = λ r c i. absurd (never r c short i); attempt = λ r c i. absurd (never r c short i) }
  least_by false e low = record { low = low_long; entry = λ r c i. entry_long; attempt = λ r c i. attempt_long (b.spent r + b.logged r) i.safe }

  pub least_is : IsBounded d b → IsLeast d b (least d b)
  least_is q = least_by (nat_lt b.safe (2 * d.room + 9)) refl q.safe

  -- a safe period has the least number of steps
  pub least_safe : least d b ≤ b.safe
  least_safe = by (nat_lt b.safe (2 * d.room + 9)) refl
    where
      by : (plain : Bool) → nat_lt b.safe (2 * d.room + 9) ≡ plain → (if plain then b.safe else long) ≤ b.safe
      by true e = let x : b.safe ≤ b.safe = omega arith in x
      by false e =
          let fits : 2 * d.room + 9 ≤ b.safe = ltb-false b.safe (2 * d.room + 9) e in
          let x : max (2 * d.room + 9) (b.safe - (d.room + 4)) ≤ b.safe = omega (arith, fits) in
          x

  takes_in : (plain : Bool) (most t : ℕ) → nat_lt b.safe (2 * d.room + 9) ≡ plain → ((r : ℕ) (c : Core) → IsBrief d b r c → b.logged r ≤ most)
      → b.total * (if plain then 2 else 5 + d.room + most) ≤ 2 * t → Lasts d b b.total (start_of d) → Takes d b b.total t (start_of d)
  takes_in true most t e few le l =
      let short : b.safe < 2 * d.room + 9 = ltb-true b.safe (2 * d.room + 9) e in
      let x : b.total * 2 ≤ 2 * t = le in
      let same : 2 ≡ 2 + 0 = refl in
      takes_of d b 0 (λ r c i. absurd (never r c short i)) b.total t (start_of d) (subst (λ k. b.total * k ≤ 2 * t) same x) l
  takes_in false most t e few le l =
      let x : b.total * (5 + d.room + most) ≤ 2 * t = le in
      let same : 5 + d.room + most ≡ 2 + (3 + d.room + most) = omega arith in
      takes_of d b (3 + d.room + most) (λ r c i. omega (arith, few r c i)) b.total t (start_of d) (subst (λ k. b.total * k ≤ 2 * t) same x) l

  -- the steps of a whole run, by the number of its instructions
  pub takes_whole : (most t : ℕ) → ((r : ℕ) (c : Core) → IsBrief d b r c → b.logged r ≤ most) → b.total * two_steps d b most ≤ 2 * t → IsBounded d b → Takes d b b.total t (start_of d)
  takes_whole most t few le q = takes_in (nat_lt b.safe (2 * d.room + 9)) most t refl few le (lasts_whole d b q)
