-- The device of an image is fit.
use Rattle.std.proofs.Common.{◌≡◌, ℕ, ◌+◌, ◌-◌, ℤ, List, Option, Some, None, refl, ap, ◌∙◌, subst, arith}
use Rattle.std.specs.Prelude.{slice_get}
use Rattle.oc_isa.specs.declared.instr.Placed.{Placed}
use Rattle.oc_isa.specs.declared.instr.Instr.{Instr}
use Rattle.oc_isa.specs.declared.instr.Instr.TheVariants.{Enter}
use Rattle.oc_isa.specs.Image.{Parts}
use Rattle.oc_isa.specs.Next.{Regs, Next, Enters, Stuck}
use Rattle.oc_isa.specs.Table.{on, act, region_of, region_in, device_of}
use Rattle.oc_isa.proofs.Enters.{NoEnter, Passes, act_passes}
use Rattle.oc_outage.specs.Honest.{IsFit}

-- where the instruction isn't an `Enter`, nothing enters
enters_never : (n : Next) (q : ℕ) (to : Regs) → Passes n → n ≡ Enters q to → ⊥
enters_never n q to p e = subst NoEnter e p.it

abbrev to_of : Next → ℕ
to_of (Enters q to) = to.pc
to_of n = 0

module _ (i : Parts) (r : Regs) (nv : List ℤ) (q : ℕ) (to : Regs) where
  -- an `Enter` leads to the next address
  found_by : (site : ℕ) (x : Instr) → act i site x r nv ≡ Enters q to → (to.pc - 1 ≡ r.pc) × (region_of x ≡ q)
  found_by site (Enter k) e =
      let p : r.pc + 1 ≡ to.pc = ap to_of e in
      (omega arith, cc)
  found_by site x e = absurd (enters_never (act i site x r nv) q to (act_passes i site r nv x (λ k. k)) e)

  fetched : (o : Option Placed) → slice_get i.code r.pc ≡ o → on o (λ p. act i p.site p.instr r nv) ≡ Enters q to → region_in (slice_get i.code (to.pc - 1)) ≡ q
  fetched None g e = absurd (enters_never Stuck q to (record { it = tt }) e)
  fetched (Some p) g e =
      let f = found_by p.site p.instr e in
      ap (λ n. region_in (slice_get i.code n)) f.0 ∙ ap region_in g ∙ f.1

pub device_fit : (i : Parts) → IsFit (device_of i)
device_fit i = record { entered = λ regs nv q to e. fetched i regs nv q to (slice_get i.code regs.pc) refl e }
