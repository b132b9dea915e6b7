-- What the next instruction of an attempt leads to.
use Rattle.std.proofs.Common.{◌≡◌, ℕ, zero, suc, List, refl, subst}
use Rattle.oc_isa.specs.Next.{Next, Device}
use Rattle.oc_isa.specs.Run.{Core}
use Rattle.oc_bounds.specs.Bounds.{Leaves, leaves_next}

module _ (d : Device) where
  pub record Leaving (ws : List ℕ) (m : ℕ) (c : Core) (x : Next) : Type 0 where
    pub less : ℕ
    pub is : m ≡ suc less
    pub next : leaves_next ws x c (Leaves d ws less)

  pub leaving : (ws : List ℕ) (m : ℕ) (c : Core) (x : Next) → d.next c.regs c.nv ≡ x → Leaves d ws m c → Leaving ws m c x
  leaving ws zero c x e l = absurd l
  leaving ws (suc m) c x e l = record { less = m; is = refl; next = subst (λ x. leaves_next ws x c (Leaves d ws m)) e l }
