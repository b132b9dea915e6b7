-- The code of a function, from its entry to its end.
use Rattle.std.proofs.Common.{◌≡◌, ℕ, zero, suc, ◌+◌, ◌<◌, ◌≤◌, List, [], ◌∷◌, ◌++◌, length, drop, get_or, map, Option, Some, None, refl, sym, ap, ◌∙◌, subst, ⊎_elim, arith, Bool, true, false, nat_lt, nat_le}
use Rattle.std.proofs.Math.Arith.{lt_of_le-ne}
use Rattle.std.proofs.lemmas.Bool.{and_from, and_parts}
use Rattle.std.proofs.lemmas.Bool.Decides.{eqb_tells}
use Rattle.std.proofs.lemmas.List.{get_or_append_left, get_or_push}
use Rattle.std.specs.Prelude.{◌⊎◌, ◌&&◌, ◌||◌, if◌then◌else◌, slice_get, max}
use Rattle.std.specs.List.{list_all}
use Rattle.oc_tree.specs.declared.said.Target.{Target}
use Rattle.oc_tree.specs.declared.said.Target.TheVariants.{Nv, Param}
use Rattle.oc_isa.specs.declared.image.ImageFunction.{ImageFunction}
use Rattle.oc_isa.specs.declared.instr.Placed.{Placed}
use Rattle.oc_isa.specs.declared.instr.Instr.{Instr}
use Rattle.oc_isa.specs.Image.{Parts}
use Rattle.oc_isa.specs.declared.instr.Instr.TheVariants.{Enter}
use Rattle.oc_verify.specs.Rules.{names_exist, params_of, targets_of, on_function, end_at, within, code_at, some_before, param_fits, laid_out, gives, is_retv}
use Rattle.oc_verify.specs.Facts.{IsStretch, need, needs}
use Rattle.std.proofs.lemmas.Option.{slice_get_read}
use Rattle.oc_verify.proofs.Owners.{stands}

-- where a function's code ends
pub end_is : (fs : List ImageFunction) (size f : ℕ) (g : ImageFunction) → slice_get fs (suc f) ≡ Some g → end_at fs size f ≡ g.entry
end_is [] size f g e = absurd (cc)
end_is (h ∷ []) size zero g e = absurd (cc)
end_is (h ∷ (k ∷ fs)) size zero g e = let q : k ≡ g = (cc) in ap (λ x. x.entry) q
end_is (h ∷ fs) size (suc f) g e = end_is fs size f g e

pub end_last : (fs : List ImageFunction) (size f : ℕ) → length fs ≤ suc f → end_at fs size f ≡ size
end_last [] size f h = refl
end_last (k ∷ []) size zero h = refl
end_last (k ∷ (j ∷ fs)) size zero h = absurd (omega (arith, h))
end_last (k ∷ fs) size (suc f) h = end_last fs size f (omega (arith, h))

pub inside_code : (i : Parts) (f a : ℕ) (s : ℕ × ℕ) (x : Placed) → IsStretch i f s → s.0 ≤ a → a < s.1 → slice_get i.code a ≡ Some x → code_at i f a ≡ Some x
inside_code i f a s x h l u e =
    let g = h.0 in
    let low : nat_le g.entry a ≡ true = (let q = h.2 in let m : g.entry ≤ a = omega (arith, q, l) in grind (arith, m)) in
    let high : nat_lt a (end_at i.functions (length i.code) f) ≡ true = (let q = h.3 in let m : a < end_at i.functions (length i.code) f = omega (arith, q, u) in grind (arith, m)) in
    ap (on_function None (λ g. if within g (end_at i.functions (length i.code) f) a then slice_get i.code a else None)) h.1
    ∙ ap (λ b. if b then slice_get i.code a else None) (and_from (nat_le g.entry a) (nat_lt a (end_at i.functions (length i.code) f)) low high) ∙ e

pub outside_code : (i : Parts) (f a : ℕ) (s : ℕ × ℕ) → IsStretch i f s → (a < s.0) ⊎ (s.1 ≤ a) → code_at i f a ≡ None
outside_code i f a s h o = by (code_at i f a) refl
  where
    by : (r : Option Placed) → code_at i f a ≡ r → r ≡ None
    by None e = refl
    by (Some x) e =
        let t = stands i f a x e in
        let z : Some t.home ≡ Some h.0 = sym t.is ∙ h.1 in
        let q : t.home ≡ h.0 = (cc) in
        let low : h.0.entry ≤ a = subst (λ g. g.entry ≤ a) q t.low in
        let high = t.high in
        absurd (⊎_elim (λ k. let m = h.2 in omega (arith, k, m, low)) (λ k. let m = h.3 in omega (arith, k, m, high)) o)

-- an instruction before the end

pub none_past : (test : Instr → Bool) (end a : ℕ) (ps : List Placed) → end ≤ a → some_before test end a ps ≡ false
none_past test end a [] h = refl
none_past test end a (p ∷ ps) h = let q : nat_lt a end ≡ false = grind (arith, h) in ap (λ b. b && (test p.instr || some_before test end (suc a) ps)) q

dropped : (ps : List Placed) (a : ℕ) (p : Placed) → slice_get ps a ≡ Some p → drop a ps ≡ p ∷ drop (suc a) ps
dropped [] a p e = absurd (cc)
dropped (q ∷ ps) zero p e = let s : q ≡ p = (cc) in ap (λ x. x ∷ ps) s
dropped (q ∷ ps) (suc a) p e = dropped ps a p e

pub before_here : (test : Instr → Bool) (end a : ℕ) (ps : List Placed) (p : Placed) → slice_get ps a ≡ Some p → a < end → test p.instr ≡ true → some_before test end a (drop a ps) ≡ true
before_here test end a ps p e l t =
    let q : nat_lt a end ≡ true = grind (arith, l) in
    ap (some_before test end a) (dropped ps a p e) ∙ ap (λ b. b && (test p.instr || some_before test end (suc a) (drop (suc a) ps))) q ∙ ap (λ b. b || some_before test end (suc a) (drop (suc a) ps)) t

pub before_next : (test : Instr → Bool) (end a : ℕ) (ps : List Placed) (p : Placed) → slice_get ps a ≡ Some p → a < end → test p.instr ≡ false
    → some_before test end a (drop a ps) ≡ some_before test end (suc a) (drop (suc a) ps)
before_next test end a ps p e l t =
    let q : nat_lt a end ≡ true = grind (arith, l) in
    ap (some_before test end a) (dropped ps a p e) ∙ ap (λ b. b && (test p.instr || some_before test end (suc a) (drop (suc a) ps))) q ∙ ap (λ b. b || some_before test end (suc a) (drop (suc a) ps)) t

-- what a region needs of its function's parameters

need_one : (params : ℕ) (t : Target) → param_fits params t ≡ nat_le (need t) params
need_one params (Nv base len) = let q : nat_le 0 params ≡ true = grind arith in sym q
need_one params (Param slot len) = by (nat_lt slot params) refl
  where
    by : (b : Bool) → nat_lt slot params ≡ b → b ≡ nat_le (suc slot) params
    by true e = let l : slot < params = grind (arith, e) in let q : nat_le (suc slot) params ≡ true = grind (arith, l) in sym q
    by false e = let l : params ≤ slot = grind (arith, e) in let q : nat_le (suc slot) params ≡ false = grind (arith, l) in sym q

max_le : (a b n : ℕ) → nat_le (max a b) n ≡ (nat_le a n && nat_le b n)
max_le a b n = by (nat_le a n) (nat_le b n) refl refl
  where
    by : (c d : Bool) → nat_le a n ≡ c → nat_le b n ≡ d → nat_le (max a b) n ≡ (c && d)
    by true true e f = let x : a ≤ n = grind (arith, e) in let y : b ≤ n = grind (arith, f) in let m : max a b ≤ n = omega (arith, x, y) in grind (arith, m)
    by true false e f = let y : n < b = grind (arith, f) in let m : n < max a b = omega (arith, y) in grind (arith, m)
    by false d e f = let x : n < a = grind (arith, e) in let m : n < max a b = omega (arith, x) in grind (arith, m)

pub needs_tell : (params : ℕ) (ts : List Target) → list_all (param_fits params) ts ≡ nat_le (needs ts) params
needs_tell params [] = let q : nat_le 0 params ≡ true = grind arith in sym q
needs_tell params (t ∷ ts) = (λ j. need_one params t j && needs_tell params ts j) ∙ sym (max_le (need t) (needs ts) params)

-- functions end in the code

end_small : (fs : List ImageFunction) (size f : ℕ) → list_all (λ g. nat_lt g.entry size) fs ≡ true → end_at fs size f ≤ size
end_small [] size f h = omega arith
end_small (g ∷ []) size zero h = omega arith
end_small (g ∷ (k ∷ fs)) size zero h = (let t : nat_lt k.entry size ≡ true = (and_parts _ _ (and_parts (nat_lt g.entry size) (list_all (λ g. nat_lt g.entry size) (k ∷ fs)) h).1).0 in
    let l : k.entry < size = grind (arith, t) in omega (arith, l))
end_small (g ∷ fs) size (suc f) h = end_small fs size f (and_parts (nat_lt g.entry size) (list_all (λ g. nat_lt g.entry size) fs) h).1

pub end_inside : (i : Parts) → laid_out i ≡ true → (f : ℕ) → end_at i.functions (length i.code) f ≤ length i.code
end_inside i l f = end_small i.functions (length i.code) f (and_parts _ _ (and_parts _ _ (and_parts _ _ l).1).1).0

no_function : (fs : List ImageFunction) (f : ℕ) → length fs ≤ f → slice_get fs f ≡ None
no_function [] f h = refl
no_function (g ∷ fs) zero h = absurd (omega (arith, h))
no_function (g ∷ fs) (suc f) h = no_function fs f (omega (arith, h))

no_result : (xs : List Bool) (f : ℕ) → length xs ≤ f → get_or xs f false ≡ false
no_result [] f h = refl
no_result (x ∷ xs) zero h = absurd (omega (arith, h))
no_result (x ∷ xs) (suc f) h = no_result xs f (omega (arith, h))

-- one result more, at the end
pub more_results : (i : Parts) (xs : List Bool) (n : ℕ) (b : Bool) → length xs ≡ n → ((f : ℕ) → f < n → get_or xs f false ≡ gives i f) → b ≡ gives i n
    → (f : ℕ) → f < n + 1 → get_or (xs ++ b ∷ []) f false ≡ gives i f
more_results i xs n b l h e f k = ⊎_elim
    (λ q. get_or_push xs b false f (l ∙ sym q.1) ∙ e ∙ ap (gives i) (sym q.1))
    (λ q. let m : f < n = lt_of_le-ne (omega (arith, k)) q.1 in get_or_append_left xs (b ∷ []) false f (omega (arith, m, l)) ∙ h f m)
    (eqb_tells f n)

pub all_results : (i : Parts) (xs : List Bool) (n : ℕ) → n ≡ length i.functions → length xs ≡ n → ((f : ℕ) → f < n → get_or xs f false ≡ gives i f) → (f : ℕ) → get_or xs f false ≡ gives i f
all_results i xs n e l h f = by (nat_lt f n) refl
  where
    by : (b : Bool) → nat_lt f n ≡ b → get_or xs f false ≡ gives i f
    by true t = h f (grind (arith, t))
    by false t =
        let u : n ≤ f = grind (arith, t) in
        no_result xs f (omega (arith, u, l)) ∙ sym (ap (on_function false (λ g. some_before is_retv (end_at i.functions (length i.code) f) g.entry (drop g.entry i.code)))
        (no_function i.functions f (omega (arith, u, e))))

-- a region, by what it needs

region_is : (ts : List (List Target)) (r : ℕ) → r < length ts → (one : List Target) × (slice_get ts r ≡ Some one) × (get_or (map needs ts) r 0 ≡ needs one)
region_is [] r h = absurd (omega (arith, h))
region_is (t ∷ ts) zero h = (t, refl, refl)
region_is (t ∷ ts) (suc r) h = region_is ts r (omega (arith, h))

pub all_long : (ts : List (List Target)) → length (map needs ts) ≡ length ts
all_long [] = refl
all_long (t ∷ ts) = ap suc (all_long ts)

pub region_in : (i : Parts) (f r : ℕ) → r < length i.targets → names_exist i f (Enter (suc r)) ≡ nat_le (get_or (map needs i.targets) r 0) (params_of i f)
region_in i f r h =
    let q = region_is i.targets r h in
    let one : nat_le 1 (suc r) ≡ true = grind arith in
    let two : nat_le (suc r) (length i.targets) ≡ true = grind (arith, h) in
    let ts : targets_of i (suc r) ≡ q.0 = rw q.1 refl in
    (λ j. (one j && two j) && list_all (param_fits (params_of i f)) (ts j)) ∙ needs_tell (params_of i f) q.0 ∙ ap (λ n. nat_le n (params_of i f)) (sym q.2)

-- what was read of the code of a function stands in it
pub here : (j i : Parts) → j ≡ i → (f : ℕ) (s : ℕ × ℕ) → IsStretch i f s → (a : ℕ) → s.0 ≤ a → a < s.1 → (p : Placed) → p ≡ get_or j.code a p → (slice_get i.code a ≡ Some p) × (code_at i f a ≡ Some p)
here j i q f s h a l u p e =
    let m = h.4 in
    let g = slice_get_read i.code (length i.code) a p refl (omega (arith, u, m)) (e ∙ ap (λ k. get_or k.code a p) q) in
    (g, inside_code i f a s p h l u g)
