-- The slots of a function whose parameters are numbers.
use Rattle.std.proofs.Common.{◌≡◌, ℕ, zero, suc, ◌+◌, ◌-◌, ◌<◌, ◌≤◌, List, length, get_or, Option, Some, None, refl, sym, ap, ◌∙◌, arith, Bool, true, false, nat_lt, nat_le}
use Rattle.std.specs.Prelude.{◌&&◌, ◌||◌, if◌then◌else◌, option_map, replicate}
use Rattle.oc_isa.specs.declared.image.ImageFunction.{ImageFunction}
use Rattle.oc_isa.specs.declared.instr.Instr.{Instr}
use Rattle.oc_isa.specs.declared.instr.Instr.TheVariants.{Load, Store, Addr}
use Rattle.oc_verify.specs.declared.kind.Kind.{Kind}
use Rattle.oc_verify.specs.declared.kind.Kind.TheVariants.{Number, Place}
use Rattle.oc_verify.specs.Own.{own_list, plain, plain_slot, plain_right, slot_kind}
use Rattle.oc_verify.specs.Rules.{slot_right}
use Rattle.oc_verify.specs.Told.{kind_of}
use Rattle.oc_verify.specs.Typing.{level}
use Rattle.oc_verify.proofs.SeenLaws.{zeros_long}
use Rattle.oc_verify.proofs.SlotLaws.{own_param, own_link, own_above}

zeros_at : (n j : ℕ) → ◌≡◌ {A = ℕ} (get_or (replicate n 0) j 0) 0
zeros_at zero j = refl
zeros_at (suc n) zero = refl
zeros_at (suc n) (suc j) = zeros_at n j

abbrev kind_if : Bool → Option Kind
kind_if b = if b then Some Number else None

plain_kind : (g : ImageFunction) (s : ℕ) → slot_kind (level (own_list (plain g)) s) ≡ kind_if (plain_slot g s)
plain_kind g s = by_param (nat_lt s g.params) refl
  where
    in_frame_by : (c : Bool) → nat_lt s g.frame ≡ c → option_map kind_of (if nat_lt s g.frame then Some 0 else None) ≡ kind_if c
    in_frame_by true f = ap (λ x. option_map kind_of (if x then Some 0 else None)) f
    in_frame_by false f = ap (λ x. option_map kind_of (if x then Some 0 else None)) f

    by_link : (b : Bool) → nat_le (g.params + 2) s ≡ b → nat_lt s g.params ≡ false → slot_kind (level (own_list (plain g)) s) ≡ kind_if (b && nat_lt s g.frame)
    by_link true e p =
        let z = zeros_long g.params in
        let l : g.params + 2 ≤ s = grind (arith, e) in
        sym (own_above (plain g) s refl z (omega (arith, l, z))) ∙ in_frame_by (nat_lt s g.frame) refl
    by_link false e p =
        let z = zeros_long g.params in
        let l : g.params ≤ s = grind (arith, p) in
        let u : s < g.params + 2 = grind (arith, e) in
        sym (own_link (plain g) s refl z (omega (arith, l, z)) (omega (arith, u, z)))

    by_param : (b : Bool) → nat_lt s g.params ≡ b → slot_kind (level (own_list (plain g)) s) ≡ kind_if (plain_slot g s)
    by_param true e =
        let z = zeros_long g.params in
        let l : s < g.params = grind (arith, e) in
        sym (own_param (plain g) s refl z (omega (arith, l, z))) ∙ ap (λ n. Some (kind_of n)) (zeros_at g.params (length {A = ℕ} (replicate g.params 0) - 1 - s))
        ∙ sym (ap (λ b. kind_if (b || (nat_le (g.params + 2) s && nat_lt s g.frame))) e)
    by_param false e = by_link (nat_le (g.params + 2) s) refl e ∙ sym (ap (λ b. kind_if (b || (nat_le (g.params + 2) s && nat_lt s g.frame))) e)

load_by : (ss : List (Option Kind)) (s : ℕ) (o : Option (Option Kind)) (b : Bool) → level ss s ≡ o → slot_kind o ≡ kind_if b → slot_right ss (Load s) ≡ b
load_by ss s None true e q = absurd (cc)
load_by ss s None false e q = rw e refl
load_by ss s (Some None) true e q = absurd (cc)
load_by ss s (Some None) false e q = rw e refl
load_by ss s (Some (Some k)) true e q = rw e refl
load_by ss s (Some (Some k)) false e q = absurd (cc)

store_by : (ss : List (Option Kind)) (s : ℕ) (o : Option (Option Kind)) (b : Bool) → level ss s ≡ o → slot_kind o ≡ kind_if b → slot_right ss (Store s) ≡ b
store_by ss s None true e q = absurd (cc)
store_by ss s None false e q = rw e refl
store_by ss s (Some None) true e q = absurd (cc)
store_by ss s (Some None) false e q = rw e refl
store_by ss s (Some (Some Number)) true e q = rw e refl
store_by ss s (Some (Some Number)) false e q = absurd (cc)
store_by ss s (Some (Some (Place n))) true e q = absurd (let z : Place n ≡ Number = (cc) in (cc))
store_by ss s (Some (Some (Place n))) false e q = absurd (cc)

addr_by : (ss : List (Option Kind)) (s : ℕ) (o : Option (Option Kind)) (b : Bool) → level ss s ≡ o → slot_kind o ≡ kind_if b → slot_right ss (Addr s) ≡ b
addr_by ss s None true e q = absurd (cc)
addr_by ss s None false e q = rw e refl
addr_by ss s (Some None) true e q = absurd (cc)
addr_by ss s (Some None) false e q = rw e refl
addr_by ss s (Some (Some Number)) true e q = rw e refl
addr_by ss s (Some (Some Number)) false e q = absurd (cc)
addr_by ss s (Some (Some (Place n))) true e q = absurd (let z : Place n ≡ Number = (cc) in (cc))
addr_by ss s (Some (Some (Place n))) false e q = absurd (cc)

-- the test of single slots is that of all of them
pub plain_tells : (g : ImageFunction) (x : Instr) → plain_right g x ≡ slot_right (own_list (plain g)) x
plain_tells g (Load s) = sym (load_by (own_list (plain g)) s (level (own_list (plain g)) s) (plain_slot g s) refl (plain_kind g s))
plain_tells g (Store s) = sym (store_by (own_list (plain g)) s (level (own_list (plain g)) s) (plain_slot g s) refl (plain_kind g s))
plain_tells g (Addr s) = sym (addr_by (own_list (plain g)) s (level (own_list (plain g)) s) (plain_slot g s) refl (plain_kind g s))
plain_tells g x = refl
