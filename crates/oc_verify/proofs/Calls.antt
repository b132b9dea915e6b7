-- Calls in the code are links, and what is called is led to from `main`.
use Rattle.std.proofs.Common.{◌≡◌, ℕ, zero, suc, ◌+◌, ◌<◌, ◌≤◌, List, [], ◌∷◌, ◌++◌, length, drop, Option, Some, Ok, Err, refl, sym, ap, ◌∙◌, subst, ⊎_elim, inl, inr, arith, Bool, true, false, nat_le, nat_eq}
use Rattle.std.proofs.lemmas.Bool.{and_parts}
use Rattle.std.specs.Prelude.{◌⊎◌, if◌then◌else◌, ◌&&◌, ◌||◌, slice_get}
use Rattle.std.specs.List.{list_any}
use Rattle.std.proofs.lemmas.Option.{slice_get_within}
use Rattle.oc_tree.specs.Reach.{linked, is_link, leads}
use Rattle.oc_tree.proofs.ReachLaws.{links_lead, leads_trans}
use Rattle.oc_isa.specs.declared.image.ImageFunction.{ImageFunction}
use Rattle.oc_isa.specs.declared.instr.Placed.{Placed}
use Rattle.oc_isa.specs.declared.instr.Instr.{Instr}
use Rattle.oc_isa.specs.declared.instr.Instr.TheVariants.{Call}
use Rattle.oc_isa.specs.Image.{Parts}
use Rattle.oc_verify.specs.declared.kind.Kind.{Kind}
use Rattle.oc_verify.specs.Facts.{crowds}
use Rattle.oc_verify.specs.Typing.{Pair, pair, owner, owner_from, result}
use Rattle.oc_verify.specs.Rules.{◌>>=◌, judge, gives, params_of, link_from, links_on, calls_of, code_at, main_number, rises, rises_from, laid_out, Kinds, CalledIn, IsCalled}
use Rattle.oc_verify.proofs.Owners.{stays, owned, stands, laid_rises}

-- a call whose pair is right has all of its arguments
pub has_arguments : (i : Parts) (ss : List (Option Kind)) (g : ℕ) (ks : List Kind) (rs : List ℕ) (q : Pair) → judge i ss (Call g) ks rs ≡ Ok q → params_of i g ≤ length ks
has_arguments i ss g ks rs q = by (nat_le (params_of i g) (length ks)) refl
  where
    by : (b : Bool) → nat_le (params_of i g) (length ks) ≡ b → ((if b then Ok (drop (params_of i g) ks) else Err 5) >>= λ rest. Ok (pair (result (gives i g) rest) rs)) ≡ Ok q
        → params_of i g ≤ length ks
    by true e r = grind (arith, e)
    by false e r = absurd (cc)

-- one with more arguments than the stack has words finds more words than that
pub crowded : (i : Parts) (ss : List (Option Kind)) (x : Instr) (ks : List Kind) (rs : List ℕ) (q : Pair) → crowds i x ≡ true → judge i ss x ks rs ≡ Ok q → i.stack < length ks
crowded i ss (Call g) ks rs q e r = let l : i.stack < params_of i g = grind (arith, e) in let m = has_arguments i ss g ks rs q r in omega (arith, l, m)
crowded i ss x ks rs q e r = absurd (cc)

any_left : {A : Type 0} (test : A → Bool) (xs ys : List A) → list_any test xs ≡ true → list_any test (xs ++ ys) ≡ true
any_left test [] ys e = absurd (cc)
any_left test (x ∷ xs) ys e = by (test x) e (any_left test xs ys)
  where
    by : (b : Bool) → b || list_any test xs ≡ true → (list_any test xs ≡ true → list_any test (xs ++ ys) ≡ true) → b || list_any test (xs ++ ys) ≡ true
    by true e h = refl
    by false e h = h e

any_right : {A : Type 0} (test : A → Bool) (xs ys : List A) → list_any test ys ≡ true → list_any test (xs ++ ys) ≡ true
any_right test [] ys e = e
any_right test (x ∷ xs) ys e = by (test x) (any_right test xs ys e)
  where
    by : (b : Bool) → list_any test (xs ++ ys) ≡ true → b || list_any test (xs ++ ys) ≡ true
    by true e = refl
    by false e = e

one_link : (f h : ℕ) (x : Instr) → x ≡ Call h → linked (link_from f x) f h ≡ true
one_link f h x e = subst (λ y. linked (link_from f y) f h ≡ true) (sym e) (let a : nat_eq f f ≡ true = grind arith in let b : nat_eq h h ≡ true = grind arith in
    ap (λ c. c && nat_eq h h || false) a ∙ ap (λ c. c || false) b)

pub entry_low : (a : ℕ) (g : ImageFunction) (gs : List ImageFunction) → rises_from a (g ∷ gs) ≡ true → a ≤ g.entry
entry_low a g gs r = let x : nat_le a g.entry ≡ true = (and_parts _ _ r).0 in grind (arith, x)

-- past the entry, or before it
pub rises_past : (a : ℕ) (g : ImageFunction) (gs : List ImageFunction) → rises_from a (g ∷ gs) ≡ true → nat_le g.entry a ≡ true → rises_from (suc a) gs ≡ true
rises_past a g gs r e = let l = entry_low a g gs r in let n : g.entry ≡ a = (let u : g.entry ≤ a = grind (arith, e) in omega (arith, l, u)) in
    subst (λ m. rises_from (suc m) gs ≡ true) n (and_parts _ _ r).1

pub rises_before : (a : ℕ) (g : ImageFunction) (gs : List ImageFunction) → rises_from a (g ∷ gs) ≡ true → nat_le g.entry a ≡ false → rises_from (suc a) (g ∷ gs) ≡ true
rises_before a g gs r e = let l = entry_low a g gs r in let n : nat_le (suc a) g.entry ≡ true = grind (arith, l, e) in ap (λ b. b && rises_from (suc g.entry) gs) n ∙ (and_parts _ _ r).1

-- the call stands here
call_here : (f a : ℕ) (gs : List ImageFunction) (ps : List Placed) (h : ℕ) (q : Placed) → rises_from a gs ≡ true → q.instr ≡ Call h
    → linked (links_on f a gs (q ∷ ps)) (owner_from gs a (suc f) f) h ≡ true
call_here f a [] ps h q r c = any_left (is_link f h) (link_from f q.instr) _ (one_link f h q.instr c)
call_here f a (g ∷ gs) ps h q r c = by (nat_le g.entry a) refl
  where
    by : (b : Bool) → nat_le g.entry a ≡ b → linked
        (if b then link_from (suc f) q.instr ++ links_on (suc f) (suc a) gs ps else link_from f q.instr ++ links_on f (suc a) (g ∷ gs) ps)
        (owner_from gs a (suc (suc f)) (if b then suc f else f)) h ≡ true
    by true e = let o : owner_from gs a (suc (suc f)) (suc f) ≡ suc f = stays (suc a) gs a (suc (suc f)) (suc f) (rises_past a g gs r e) (omega arith) in
        subst (λ n. linked (link_from (suc f) q.instr ++ links_on (suc f) (suc a) gs ps) n h ≡ true) (sym o) (any_left (is_link (suc f) h) (link_from (suc f) q.instr) _ (one_link (suc f) h q.instr c))
    by false e = let o : owner_from gs a (suc (suc f)) f ≡ f = stays (suc g.entry) gs a (suc (suc f)) f (and_parts _ _ r).1 (let l = entry_low a g gs r in omega (arith, l)) in
        subst (λ n. linked (link_from f q.instr ++ links_on f (suc a) (g ∷ gs) ps) n h ≡ true) (sym o) (any_left (is_link f h) (link_from f q.instr) _ (one_link f h q.instr c))

-- or further on
call_past : (f a b : ℕ) (g : ImageFunction) (gs : List ImageFunction) (q : Placed) (ps : List Placed) (h : ℕ) → a < b → rises_from a (g ∷ gs) ≡ true
    → (rises_from (suc a) gs ≡ true → linked (links_on (suc f) (suc a) gs ps) (owner_from gs b (suc (suc f)) (suc f)) h ≡ true)
    → (rises_from (suc a) (g ∷ gs) ≡ true → linked (links_on f (suc a) (g ∷ gs) ps) (owner_from (g ∷ gs) b (suc f) f) h ≡ true)
    → linked (links_on f a (g ∷ gs) (q ∷ ps)) (owner_from (g ∷ gs) b (suc f) f) h ≡ true
call_past f a b g gs q ps h l r one two = by (nat_le g.entry a) refl
  where
    by : (c : Bool) → nat_le g.entry a ≡ c → linked
        (if c then link_from (suc f) q.instr ++ links_on (suc f) (suc a) gs ps else link_from f q.instr ++ links_on f (suc a) (g ∷ gs) ps) (owner_from (g ∷ gs) b (suc f) f) h ≡ true
    by true e =
        let n : nat_le g.entry b ≡ true = grind (arith, e, l) in
        let o : owner_from gs b (suc (suc f)) (suc f) ≡ owner_from (g ∷ gs) b (suc f) f = ap (λ c. owner_from gs b (suc (suc f)) (if c then suc f else f)) (sym n) in
        any_right (is_link (owner_from (g ∷ gs) b (suc f) f) h) (link_from (suc f) q.instr) _ (subst (λ n. linked (links_on (suc f) (suc a) gs ps) n h ≡ true) o (one (rises_past a g gs r e)))
    by false e = any_right (is_link (owner_from (g ∷ gs) b (suc f) f) h) (link_from f q.instr) _ (two (rises_before a g gs r e))

call_on : (f a : ℕ) (gs : List ImageFunction) (ps : List Placed) (j h : ℕ) (p : Placed) → rises_from a gs ≡ true → slice_get ps j ≡ Some p → p.instr ≡ Call h
    → linked (links_on f a gs ps) (owner_from gs (a + j) (suc f) f) h ≡ true
call_on f a gs [] j h p r e c = absurd (cc)
call_on f a gs (q ∷ ps) zero h p r e c =
    let s : q ≡ p = (cc) in
    let n : a ≡ a + 0 = omega arith in
    subst (λ m. linked (links_on f a gs (q ∷ ps)) (owner_from gs m (suc f) f) h ≡ true) n (call_here f a gs ps h q r (ap (λ x. x.instr) s ∙ c))
call_on f a [] (q ∷ ps) (suc j) h p r e c = any_right (is_link f h) (link_from f q.instr) _ (call_on f (suc a) [] ps j h p refl e c)
call_on f a (g ∷ gs) (q ∷ ps) (suc j) h p r e c =
    let n : suc a + j ≡ a + suc j = omega arith in
    call_past f a (a + suc j) g gs q ps h (omega arith) r
    (λ r'. subst (λ m. linked (links_on (suc f) (suc a) gs ps) (owner_from gs m (suc (suc f)) (suc f)) h ≡ true) n (call_on (suc f) (suc a) gs ps j h p r' e c))
    (λ r'. subst (λ m. linked (links_on f (suc a) (g ∷ gs) ps) (owner_from (g ∷ gs) m (suc f) f) h ≡ true) n (call_on f (suc a) (g ∷ gs) ps j h p r' e c))

rises_one : (fs : List ImageFunction) → rises fs ≡ true → rises_from 0 (drop 1 fs) ≡ true
rises_one [] r = refl
rises_one (g ∷ gs) r = lower gs (and_parts _ _ r).1
  where
    lower : (gs : List ImageFunction) → rises_from 1 gs ≡ true → rises_from 0 gs ≡ true
    lower [] r = refl
    lower (h ∷ gs) r = let n : nat_le 0 h.entry ≡ true = grind arith in ap (λ b. b && rises_from (suc h.entry) gs) n ∙ (and_parts _ _ r).1

owner_one : (fs : List ImageFunction) (a : ℕ) → rises fs ≡ true → owner_from (drop 1 fs) a 1 0 ≡ owner fs a
owner_one [] a r = refl
owner_one (g ∷ gs) a r = by (nat_le g.entry a)
  where
    by : (b : Bool) → owner_from gs a 1 0 ≡ owner_from gs a 1 (if b then 0 else 0)
    by true = refl
    by false = refl

-- a call in the code of f is a link from f
pub call_linked : (i : Parts) → laid_out i ≡ true → (f a g : ℕ) (p : Placed) → code_at i f a ≡ Some p → p.instr ≡ Call g → linked (calls_of i) f g ≡ true
call_linked i l f a g p e c =
    let s = stands i f a p e in
    let r = laid_rises i l in
    let o : owner_from (drop 1 i.functions) (0 + a) 1 0 ≡ f = (let n : 0 + a ≡ a = omega arith in ap (λ m. owner_from (drop 1 i.functions) m 1 0) n) ∙ owner_one i.functions a r ∙ owned i l f a p e in
    subst (λ m. linked (calls_of i) m g ≡ true) o (call_on 0 0 (drop 1 i.functions) i.code a g p (rises_one i.functions r) s.found c)

pub function_short : (i : Parts) (f a : ℕ) (p : Placed) → code_at i f a ≡ Some p → f < length i.functions
function_short i f a p e = let s = stands i f a p e in slice_get_within i.functions f s.home s.is

-- what is called is `main`, or `main` leads to it
pub called_from_main : (i : Parts) → laid_out i ≡ true → (t : Kinds) (n f : ℕ) → CalledIn i t n f → (f ≡ main_number i) ⊎ (leads (calls_of i) (length i.functions) (main_number i) f ≡ true)
called_from_main i l t zero f h = inl h
called_from_main i l t (suc n) g h =
    let c = h.4 in
    let k : leads (calls_of i) (length i.functions) h.0 g ≡ true = links_lead (calls_of i) (length i.functions) h.0 g (call_linked i l h.0 h.1 g c.placed c.found c.calls) in
    ⊎_elim
    (λ e. inr (subst (λ m. leads (calls_of i) (length i.functions) m g ≡ true) e k))
    (λ e. inr (leads_trans (calls_of i) (length i.functions) (main_number i) h.0 g (function_short i h.0 h.1 c.placed c.found) e k))
    (called_from_main i l t n h.0 h.3)

-- no reached call is one of `main`
pub no_call_of_main : (i : Parts) → laid_out i ≡ true → ((f : ℕ) → leads (calls_of i) (length i.functions) f f ≡ false) → (t : Kinds) (f : ℕ) → IsCalled i t f
    → (a : ℕ) (p : Placed) → code_at i f a ≡ Some p → p.instr ≡ Call (main_number i) → ⊥
no_call_of_main i l free t f h a p e c =
    let k : leads (calls_of i) (length i.functions) f (main_number i) ≡ true = links_lead (calls_of i) (length i.functions) f (main_number i) (call_linked i l f a (main_number i) p e c) in
    ⊎_elim
    (λ q. let z : leads (calls_of i) (length i.functions) (main_number i) (main_number i) ≡ true =
    subst (λ m. leads (calls_of i) (length i.functions) m (main_number i) ≡ true) q k in
    let y : leads (calls_of i) (length i.functions) (main_number i) (main_number i) ≡ false = free (main_number i) in absurd (cc))
    (λ q. let z : leads (calls_of i) (length i.functions) (main_number i) (main_number i) ≡ true =
    leads_trans (calls_of i) (length i.functions) (main_number i) f (main_number i) (function_short i f a p e) q k in
    let y : leads (calls_of i) (length i.functions) (main_number i) (main_number i) ≡ false = free (main_number i) in absurd (cc))
    (called_from_main i l t h.0 f h.1)
