-- A verified image is well made.
use Rattle.std.proofs.Common.{◌≡◌, ℕ, suc, ◌+◌, ◌<◌, ◌≤◌, List, [], ◌∷◌, length, Some, None, refl, sym, ap, ◌∙◌, subst, arith, Bool, true, false, nat_lt, nat_le, nat_eq, All}
use Rattle.std.proofs.lemmas.Bool.{and_parts}
use Rattle.std.specs.Prelude.{if◌then◌else◌, ◌&&◌, slice_get, count_by}
use Rattle.std.specs.List.{list_all}
use Rattle.std.proofs.lemmas.List.Elements.{All-nil, All-cons}
use Rattle.std.proofs.lemmas.Option.{slice_get_within}
use Rattle.oc_isa.specs.declared.image.ImageFunction.{ImageFunction}
use Rattle.oc_isa.specs.declared.instr.Placed.{Placed}
use Rattle.oc_isa.specs.declared.instr.Instr.{Instr}
use Rattle.oc_isa.specs.declared.instr.Instr.TheVariants.{Call, Sense, Emit, Enter, Commit}
use Rattle.oc_isa.specs.Image.{Parts, is_main, main_of, frame_of, Exists, IsWellMade}
use Rattle.oc_verify.specs.Typing.{pair, Typing}
use Rattle.oc_verify.specs.Rules.{on_function, end_at, within, code_at, rises, rises_from, names_exist, is_region, has_frame, nv_words, target_fits, param_fits, params_of, targets_of}
use Rattle.oc_verify.specs.Verified.{IsVerified, frame_at}
use Rattle.oc_verify.proofs.Owners.{laid_rises, main_is}
use Rattle.oc_verify.proofs.Exact.{in_table, seen_in}

-- a function in whose code an address is
pub record Home (fs : List ImageFunction) (size a : ℕ) : Type 0 where
  pub number : ℕ
  pub home : ImageFunction
  pub is : slice_get fs number ≡ Some home
  pub low : home.entry ≤ a
  pub high : a < end_at fs size number

pub home_of : (g : ImageFunction) (gs : List ImageFunction) (size a : ℕ) → g.entry ≤ a → a < size → Home (g ∷ gs) size a
home_of g [] size a l h = record { number = 0; home = g; is = refl; low = l; high = h }
home_of g (k ∷ gs) size a l h = by (nat_le k.entry a) refl (λ l'. home_of k gs size a l' h)
  where
    by : (b : Bool) → nat_le k.entry a ≡ b → (k.entry ≤ a → Home (k ∷ gs) size a) → Home (g ∷ (k ∷ gs)) size a
    by true e ih = let r = ih (grind (arith, e)) in record { number = suc r.number; home = r.home; is = r.is; low = r.low; high = r.high }
    by false e ih = record { number = 0; home = g; is = refl; low = l; high = grind (arith, e) }

home_in : (fs : List ImageFunction) (size a : ℕ) → rises fs ≡ true → a < size → Home fs size a
home_in [] size a r h = absurd (cc)
home_in (g ∷ gs) size a r h = let z : nat_eq g.entry 0 ≡ true = (and_parts (nat_eq g.entry 0) (rises_from 1 gs) r).0 in home_of g gs size a (grind (arith, z)) h

code_is : (i : Parts) (a : ℕ) (p : Placed) (h : Home i.functions (length i.code) a) → slice_get i.code a ≡ Some p → code_at i h.number a ≡ Some p
code_is i a p h e =
    let l = h.low in
    let u = h.high in
    let x : nat_le h.home.entry a ≡ true = grind (arith, l) in
    let y : nat_lt a (end_at i.functions (length i.code) h.number) ≡ true = grind (arith, u) in
    ap (on_function None (λ g. if within g (end_at i.functions (length i.code) h.number) a then slice_get i.code a else None)) h.is
    ∙ ap (λ b. if b && nat_lt a (end_at i.functions (length i.code) h.number) then slice_get i.code a else None) x
    ∙ ap (λ b. if b then slice_get i.code a else None) y ∙ e

region_there : (i : Parts) (r : ℕ) → is_region i r ≡ true → (1 ≤ r) × (r ≤ length i.targets)
region_there i r e = let x = (and_parts (nat_le 1 r) (nat_le r (length i.targets)) e).0 in let y = (and_parts (nat_le 1 r) (nat_le r (length i.targets)) e).1 in (grind (arith, x), grind (arith, y))

exists_by : (i : Parts) (f : ℕ) (x : Instr) → names_exist i f x ≡ true → Exists i x
exists_by i f (Call g) e = grind (arith, e)
exists_by i f (Sense s) e = grind (arith, e)
exists_by i f (Emit p) e = grind (arith, e)
exists_by i f (Enter r) e = region_there i r (and_parts (is_region i r) (list_all (param_fits (params_of i f)) (targets_of i r)) e).0
exists_by i f (Commit r) e = region_there i r e
exists_by i f x e = tt

all_from : (P : Placed → Type 0) (xs : List Placed) → ((j : ℕ) (p : Placed) → slice_get xs j ≡ Some p → P p) → All P xs
all_from P [] h = All-nil P
all_from P (x ∷ xs) h = All-cons P x xs (h 0 x refl) (all_from P xs (λ j p e. h (suc j) p e))

six : (a b c d e f : Bool) → a && (b && (c && (d && (e && f)))) ≡ true → (a ≡ true) × (b ≡ true) × (c ≡ true) × (d ≡ true) × (e ≡ true)
six true true true true true f h = (refl, refl, refl, refl, refl)
six true true true true false f h = absurd (cc)
six true true true false e f h = absurd (cc)
six true true false d e f h = absurd (cc)
six true false c d e f h = absurd (cc)
six false b c d e f h = absurd (cc)

five : (a b c d e : Bool) → a && (b && (c && (d && e))) ≡ true → (a ≡ true) × (d ≡ true)
five true true true true e h = (refl, refl)
five true true true false e h = absurd (cc)
five true true false d e h = absurd (cc)
five true false c d e h = absurd (cc)
five false b c d e h = absurd (cc)

pub well_made : (i : Parts) (t : Typing) → IsVerified i t → IsWellMade i
well_made i t v =
    let c = six (nat_le (length i.names.sensors) 64) (nat_le (length i.names.ports) 64) (nat_le (length i.names.nvs) 64) (nat_eq (length i.nv) (length i.names.nvs))
    (nat_le (nv_words i) 65536) (list_all (λ ts. list_all (target_fits i) ts) i.targets) v.counts in
    let l = five (nat_lt (length i.code) 2147483648) (rises i.functions) (list_all (λ g. nat_lt g.entry (length i.code)) i.functions) (nat_eq (count_by is_main i.functions) 1)
    (list_all has_frame i.functions) v.laid in
    let s = v.seen v.start.0.entry (pair [] []) v.start.2 in
    let w = seen_in i t v t.main v.start.0.entry (pair [] []) (in_table i t v t.main v.start.0.entry (pair [] []) (0, v.main) (0, (v.start.0, v.start.1, refl, refl))) in
    let m : main_of i.functions ≡ Some v.start.0 = main_is i ∙ ap (slice_get i.functions) (sym v.main) ∙ v.start.1 in
    let fr : frame_at i t.main ≡ v.start.0.frame = ap (on_function 0 (λ g. g.frame)) v.start.1 in
    let high : frame_at i t.main + 0 ≤ t.bound t.main = subst (λ f. frame_at i f + 0 ≤ t.bound f) w.1 w.0.high in
    let room = v.room in
    let fits : v.start.0.frame ≤ i.stack = omega (arith, fr, high, room) in
    record {
      one_main = grind (arith, l.1);
      main_fits = subst (λ o. frame_of o ≤ i.stack) (sym m) fits;
      stack_low = v.low;
      code_short = (let n = l.0 in let z : length i.code < 2147483648 = grind (arith, n) in z);
      exist = all_from (λ p. Exists i p.instr) i.code
          (λ a p e. (let h = home_in i.functions (length i.code) a (laid_rises i v.laid) (slice_get_within i.code a p e) in exists_by i h.number p.instr (v.names h.number a p (code_is i a p h e))));
      few_sensors = grind (arith, c.0);
      few_ports = grind (arith, c.1);
      few_nvs = grind (arith, c.2);
      each_nv = grind (arith, c.3);
      few_words = grind (arith, c.4);
    }
