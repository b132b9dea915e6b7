-- What a function comes to in its own code, where that is a piece that stays within itself.
use Rattle.std.proofs.Common.{◌≡◌, ℕ, zero, suc, ◌+◌, ◌-◌, ◌<◌, ◌≤◌, Bool, true, false, List, [], ◌∷◌, ◌++◌, length, Some, None, Ok, refl, sym, ap, ◌∙◌, subst, ⊎_elim, arith, length-append, nat_lt}
use Rattle.std.proofs.Common.{nat_le, nat_eq}
use Rattle.std.specs.Prelude.{slice_get, if◌then◌else◌, ◌&&◌, ◌||◌, ◌⊎◌}
use Rattle.std.specs.List.{list_any}
use Rattle.std.proofs.lemmas.Bool.{and_parts}
use Rattle.std.proofs.lemmas.Option.{none-some, same_Some, slice_get_within}
use Rattle.oc_isa.specs.declared.image.ImageFunction.{ImageFunction}
use Rattle.oc_isa.specs.declared.instr.Placed.{Placed}
use Rattle.oc_isa.specs.declared.instr.Instr.{Instr}
use Rattle.oc_isa.specs.declared.instr.Instr.TheVariants.{Jump, Jfalse}
use Rattle.oc_isa.specs.Image.{Parts}
use Rattle.oc_verify.specs.declared.kind.Kind.{Kind}
use Rattle.oc_verify.specs.Typing.{Pair, pair}
use Rattle.oc_verify.specs.Rules.{Judged, judge, own_slots, successors, code_at, within, end_at, on_function, names_exist, ReachIn, Reach}
use Rattle.oc_code.proofs.Steps.{lt_true, le_true}
use Rattle.oc_builds.proofs.Pieces.{Nowhere, Home, Kept, IsNamed, Step, Each, Ends}

-- the code of a function stands at these addresses, and nothing else of it
pub record Laid (i : Parts) (fn at : ℕ) (code : List Placed) : Type 0 where
  pub home : ImageFunction
  pub is : slice_get i.functions fn ≡ Some home
  pub entry : home.entry ≡ at
  pub end : end_at i.functions (length i.code) fn ≡ at + length code
  pub front : List Placed
  pub back : List Placed
  pub whole : i.code ≡ front ++ (code ++ back)
  pub before : length front ≡ at

-- ---- lists

pub get_behind : {A : Type 0} (xs ys : List A) (a k : ℕ) → a ≡ length xs + k → slice_get (xs ++ ys) a ≡ slice_get ys k
get_behind [] ys a k e = let q : a ≡ k = omega (arith, e) in ap (slice_get ys) q
get_behind (x ∷ xs) ys zero k e = absurd (omega (arith, e))
get_behind (x ∷ xs) ys (suc a) k e = get_behind xs ys a k (omega (arith, e))

pub get_before : {A : Type 0} (xs ys : List A) (k : ℕ) → k < length xs → slice_get (xs ++ ys) k ≡ slice_get xs k
get_before [] ys k h = absurd (omega (arith, h))
get_before (x ∷ xs) ys zero h = refl
get_before (x ∷ xs) ys (suc k) h = get_before xs ys k (omega (arith, h))

pub get_there : {A : Type 0} (xs : List A) (k : ℕ) → k < length xs → (x : A) × (slice_get xs k ≡ Some x)
get_there [] k h = absurd (omega (arith, h))
get_there (x ∷ xs) zero h = (x, refl)
get_there (x ∷ xs) (suc k) h = get_there xs k (omega (arith, h))

and_both : (a b : Bool) → a ≡ true → b ≡ true → a && b ≡ true
and_both true b e f = f
and_both false b e f = absurd (cc)

module _ (i : Parts) (fn at : ℕ) (code : List Placed) (laid : Laid i fn at code) where
  code_is : (a : ℕ) → code_at i fn a ≡ (if nat_le at a && nat_lt a (at + length code) then slice_get i.code a else None)
  code_is a = ap (on_function None (λ g. if within g (end_at i.functions (length i.code) fn) a then slice_get i.code a else None)) laid.is
      ∙ ap (λ e. if nat_le e a && nat_lt a (end_at i.functions (length i.code) fn) then slice_get i.code a else None) laid.entry
      ∙ ap (λ e. if nat_le at a && nat_lt a e then slice_get i.code a else None) laid.end

  here_is : (a k : ℕ) → a ≡ at + k → k < length code → slice_get i.code a ≡ slice_get code k
  here_is a k e h = ap (λ c. slice_get c a) laid.whole ∙ get_behind laid.front (code ++ laid.back) a k (let b = laid.before in omega (arith, e, b)) ∙ get_before code laid.back k h

  pub stands : (k : ℕ) (x : Placed) → slice_get code k ≡ Some x → code_at i fn (at + k) ≡ Some x
  stands k x e =
      let h = slice_get_within code k x e in
      let t : nat_le at (at + k) && nat_lt (at + k) (at + length code) ≡ true =
      and_both (nat_le at (at + k)) (nat_lt (at + k) (at + length code)) (le_true at (at + k) (omega arith)) (lt_true (at + k) (at + length code) (omega (arith, h))) in
      code_is (at + k) ∙ ap (λ b. if b then slice_get i.code (at + k) else None) t ∙ here_is (at + k) k refl h ∙ e

  -- an address of the code
  pub record Stands (a : ℕ) (x : Placed) : Type 0 where
    pub place : ℕ
    pub is : a ≡ at + place
    pub found : slice_get code place ≡ Some x

  pub only : (a : ℕ) (x : Placed) → code_at i fn a ≡ Some x → Stands a x
  only a x e = by (nat_le at a && nat_lt a (at + length code)) refl (sym (code_is a) ∙ e)
    where
      by : (b : Bool) → nat_le at a && nat_lt a (at + length code) ≡ b → (if b then slice_get i.code a else None) ≡ Some x → Stands a x
      by true t h =
          let p = and_parts (nat_le at a) (nat_lt a (at + length code)) t in
          let low : at ≤ a = grind (arith, p.0) in
          let high : a < at + length code = grind (arith, p.1) in
          let k : ℕ = a - at in
          let is : a ≡ at + k = omega (arith, low) in
          record { place = k; is = is; found = sym (here_is a k is (omega (arith, low, high))) ∙ h }
      by false t h = absurd (none-some x h)

  end_inside : at + length code ≤ length i.code
  end_inside =
      let b = laid.before in
      let l : length i.code ≡ length (laid.front ++ (code ++ laid.back)) = ap length laid.whole in
      omega (arith, l, b, length-append laid.front (code ++ laid.back), length-append code laid.back)

  -- ---- with the kinds of the words at each address
  module _ (home : Home) (ks : List Kind) (parts : home.parts ≡ i) (number : home.fn ≡ fn) (slots : home.slots ≡ own_slots i fn ks) (ends : Ends home Nowhere at code (pair [] [])) where
    step_at : (lo hi a : ℕ) (xs : List Placed) (k : ℕ) (x : Placed) → Each home Nowhere ends.tab lo hi a xs → slice_get xs k ≡ Some x → Step home Nowhere ends.tab lo hi (a + k) x.instr
    step_at lo hi a [] k x h e = absurd (none-some x e)
    step_at lo hi a (y ∷ xs) zero x h e =
        let same : y ≡ x = same_Some y x e in
        let z : a ≡ a + 0 = omega arith in
        subst (λ b. Step home Nowhere ends.tab lo hi b x.instr) z (subst (λ w. Step home Nowhere ends.tab lo hi a w.instr) same h.0)
    step_at lo hi a (y ∷ xs) (suc k) x h e =
        let z : a + 1 + k ≡ a + suc k = omega arith in
        subst (λ b. Step home Nowhere ends.tab lo hi b x.instr) z (step_at lo hi (a + 1) xs k x h.1 e)

    -- what is kept at each address
    pub kept_at : (a : ℕ) (x : Placed) → code_at i fn a ≡ Some x → Step home Nowhere ends.tab at ends.top a x.instr
    kept_at a x e =
        let s = only a x e in
        subst (λ b. Step home Nowhere ends.tab at ends.top b x.instr) (sym s.is) (step_at at ends.top at code s.place x ends.each s.found)

    judged : Instr → Pair → Judged Pair
    judged x p = judge i (own_slots i fn ks) x p.ops p.opens

    same_judge : (x : Instr) (p : Pair) → judge home.parts home.slots x p.ops p.opens ≡ judge i (own_slots i fn ks) x p.ops p.opens
    same_judge x p = ap (λ j. judge j home.slots x p.ops p.opens) parts ∙ ap (λ s. judge i s x p.ops p.opens) slots

    -- an address that is reached
    pub record Comes (a : ℕ) (p : Pair) : Type 0 where
      pub pair_is : ends.tab a ≡ p
      pub low : at ≤ a
      pub high : a ≤ ends.top

    pub comes : (n a : ℕ) (p : Pair) → ReachIn i fn (own_slots i fn ks) n a p → Comes a p
    comes zero a p r =
        let same : r.0 ≡ laid.home = same_Some r.0 laid.home (sym r.1 ∙ laid.is) in
        let is : a ≡ at = r.2 ∙ ap (λ g. g.entry) same ∙ laid.entry in
        let over = ends.above in
        record { pair_is = ap ends.tab is ∙ ends.first ∙ sym r.3; low = omega (arith, is); high = omega (arith, is, over) }
    comes (suc n) b q r =
        let before = comes n r.0 r.1 r.2 in
        let o = r.3 in
        let s = kept_at r.0 o.placed o.found in
        let x : Instr = o.placed.instr in
        let right : judge home.parts home.slots x (ends.tab r.0).ops (ends.tab r.0).opens ≡ Ok s.after = s.right in
        let there : judge i (own_slots i fn ks) x r.1.ops r.1.opens ≡ Ok s.after = sym (same_judge x r.1) ∙ ap (λ p. judge home.parts home.slots x p.ops p.opens) (sym before.pair_is) ∙ right in
        let z : ◌≡◌ {A = Judged Pair} (Ok s.after) (Ok q) = sym there ∙ o.right in
        let same : s.after ≡ q = (cc) in
        ⊎_elim (λ g. record { pair_is = g.2 ∙ same; low = g.0; high = g.1 }) (λ g. absurd g) (s.goes b o.leads)

    -- what is reached stands in the code, and goes on
    pub record GoesOn (a : ℕ) (p : Pair) : Type 0 where
      pub placed : Placed
      pub found : code_at i fn a ≡ Some placed
      pub after : Pair
      pub right : judge i (own_slots i fn ks) placed.instr p.ops p.opens ≡ Ok after
      pub kept : Kept home placed.instr p.ops

    pub reached : (a : ℕ) (p : Pair) → Reach i fn ks a p → GoesOn a p
    reached a p r =
        let c = comes r.0 a p r.1 in
        let low = c.low in
        let high = c.high in
        let below = ends.below in
        let k : ℕ = a - at in
        let is : a ≡ at + k = omega (arith, low) in
        let x = get_there code k (omega (arith, low, high, below)) in
        let found : code_at i fn a ≡ Some x.0 = ap (code_at i fn) is ∙ stands k x.0 x.1 in
        let s = kept_at a x.0 found in
        record {
          placed = x.0;
          found = found;
          after = s.after;
          right = sym (same_judge x.0.instr p) ∙ ap (λ q. judge home.parts home.slots x.0.instr q.ops q.opens) (sym c.pair_is) ∙ s.right;
          kept = subst (λ q. Kept home x.0.instr q.ops) c.pair_is s.kept;
        }

    -- with one pair alone
    pub once : (a : ℕ) (p q : Pair) → Reach i fn ks a p → Reach i fn ks a q → p ≡ q
    once a p q r s = sym (comes r.0 a p r.1).pair_is ∙ (comes s.0 a q s.1).pair_is

    -- what each instruction names is there
    pub named_at : (a : ℕ) (x : Placed) → code_at i fn a ≡ Some x → names_exist i fn x.instr ≡ true
    named_at a x e = by x.instr s.kept.named s.goes
      where
        s : Step home Nowhere ends.tab at ends.top a x.instr
        s = kept_at a x e

        -- a jump leads into the code
        lands : (t : ℕ) → (at ≤ t) × (t ≤ ends.top) × (ends.tab t ≡ s.after) → nat_lt t (length i.code) ≡ true
        lands t g = let below = ends.below in lt_true t (length i.code) (omega (arith, g.1, below, end_inside))

        there : (t : ℕ) (bs : List ℕ) → list_any (nat_eq t) (t ∷ bs) ≡ true
        there t bs = let n : nat_eq t t ≡ true = grind arith in ap (λ b. b || list_any (nat_eq t) bs) n

        same_names : (y : Instr) → names_exist home.parts home.fn y ≡ true → names_exist i fn y ≡ true
        same_names y h = sym (ap (λ j. names_exist j home.fn y) parts ∙ ap (λ f. names_exist i f y) number) ∙ h

        by : (y : Instr) → IsNamed home y → ((b : ℕ) → list_any (nat_eq b) (successors y a) ≡ true → ((at ≤ b) × (b ≤ ends.top) × (ends.tab b ≡ s.after)) ⊎ ⊥) → names_exist i fn y ≡ true
        by (Jump t) h goes = ⊎_elim (λ g. lands t g) (λ g. absurd g) (goes t (there t []))
        by (Jfalse t) h goes = ⊎_elim (λ g. lands t g) (λ g. absurd g) (goes t (there t ((a + 1) ∷ [])))
        by y h goes = same_names y h
