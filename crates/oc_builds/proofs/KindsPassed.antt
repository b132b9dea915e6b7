-- The kinds of parameters in the image of a program: those that its functions ask for.
use Rattle.std.proofs.Common.{◌≡◌, ℕ, zero, suc, ◌+◌, ◌<◌, ◌≤◌, true, false, List, [], ◌∷◌, ◌++◌, length, take, Some, refl, sym, ap, ◌∙◌, subst, ⊎_elim, arith, nat_eq, append-nil}
use Rattle.std.specs.Prelude.{slice_get, ◌||◌, codes}
use Rattle.std.specs.List.{All}
use Rattle.std.proofs.lemmas.Option.{none-some, same_Some, slice_get_within}
use Rattle.std.proofs.lemmas.List.Elements.{All-head, All-tail}
use Rattle.oc_tree.specs.Tree.{TFunction, TProgram}
use Rattle.oc_tree.specs.Reach.{leads, reaches}
use Rattle.oc_tree.specs.declared.tree.Param.{Param}
use Rattle.oc_tree.specs.declared.tree.Passing.{Passing}
use Rattle.oc_tree.specs.declared.tree.Passing.TheVariants.{Value, Shared, Mutable}
use Rattle.oc_tree.specs.declared.said.Target.{Target}
use Rattle.oc_tree.specs.Marked.{TRegion}
use Rattle.oc_tree.specs.Rules.{is_main}
use Rattle.oc_isa.specs.declared.instr.Placed.{Placed}
use Rattle.oc_isa.specs.declared.instr.Instr.{Instr}
use Rattle.oc_isa.specs.declared.instr.Instr.TheVariants.{Call}
use Rattle.oc_isa.specs.Image.{Parts}
use Rattle.oc_verify.specs.declared.kind.Kind.{Kind}
use Rattle.oc_verify.specs.declared.kind.Kind.TheVariants.{Number, Place}
use Rattle.oc_verify.specs.Typing.{Pair, level, Suits}
use Rattle.oc_verify.specs.Rules.{code_at, main_number, params_of, calls_of, laid_out, Reach, Kinds, CallAt, CalledIn, IsCalled, Passes, IsRight, AreRight}
use Rattle.oc_verify.proofs.Calls.{call_linked, function_short}
use Rattle.oc_verify.proofs.Exact.{reach_back, suit_at, front_is, either, or_second}
use Rattle.oc_tree.proofs.ReachLaws.{links_lead, leads_trans}
use Rattle.oc_code.proofs.Whole.{as_many}
use Rattle.oc_code.specs.Scope.{kind_words}
use Rattle.oc_code.specs.Code.{function_code, code_of}
use Rattle.oc_code.specs.Formed.{IsFormed}
use Rattle.oc_builds.proofs.Pieces.{Home, Finds, Kept, CallFinds, KindOf, AreOf, onto}
use Rattle.oc_builds.proofs.Calls.{onto_length, fit_length}
use Rattle.oc_builds.proofs.Reached.{GoesOn, reached, kept_at, get_there}
use Rattle.oc_builds.proofs.Placing.{number_found, name_found, function_in, main_numbered}
use Rattle.oc_builds.proofs.Homes.{IsPlacedRight, AreKinds, level_onto, home_of, function_ends, params_is}

-- ---- lists of kinds

onto_more : (zs ks ls : List Kind) → onto zs (ks ++ ls) ≡ onto zs ks ++ ls
onto_more [] ks ls = refl
onto_more (z ∷ zs) ks ls = onto_more zs (z ∷ ks) ls

onto_onto : (xs ys ks : List Kind) → onto (onto xs ys) ks ≡ onto ys (xs ++ ks)
onto_onto [] ys ks = refl
onto_onto (x ∷ xs) ys ks = onto_onto xs (x ∷ ys) ks

-- turned around twice
pub twice : (ks : List Kind) → onto (onto ks []) [] ≡ ks
twice ks = onto_onto ks [] [] ∙ append-nil ks

pub fit_at : (qs : List Param) (zs : List Kind) (j : ℕ) (q : Param) (k : Kind) → AreOf qs zs → slice_get qs j ≡ Some q → slice_get zs j ≡ Some k → KindOf q.passing (kind_words q.kind) k
fit_at [] zs j q k h e d = absurd (none-some q e)
fit_at (r ∷ qs) [] j q k h e d = absurd h
fit_at (r ∷ qs) (z ∷ zs) zero q k h e d =
    subst (λ r. KindOf r.passing (kind_words r.kind) k) (same_Some r q e) (subst (KindOf r.passing (kind_words r.kind)) (same_Some z k d) h.0)
fit_at (r ∷ qs) (z ∷ zs) (suc j) q k h e d = fit_at qs zs j q k h.1 e d

pub fit_by : (qs : List Param) (zs : List Kind) → length zs ≡ length qs
    → ((j : ℕ) (q : Param) (k : Kind) → slice_get qs j ≡ Some q → slice_get zs j ≡ Some k → KindOf q.passing (kind_words q.kind) k) → AreOf qs zs
fit_by [] [] e h = tt
fit_by [] (z ∷ zs) e h = absurd (omega (arith, e))
fit_by (q ∷ qs) [] e h = absurd (omega (arith, e))
fit_by (q ∷ qs) (z ∷ zs) e h = (h 0 q z refl refl, fit_by qs zs (omega (arith, e)) (λ j r k a b. h (suc j) r k a b))

-- the kinds that a function without calls may have
canon : (qs : List Param) → All (λ q. 1 ≤ kind_words q.kind) qs → All (λ q. q.passing ≡ Value → kind_words q.kind ≡ 1) qs → (zs : List Kind) × AreOf qs zs
canon [] some single = ([], tt)
canon (q ∷ qs) some single =
    let rest = canon qs (All-tail (λ (q : Param). 1 ≤ kind_words q.kind) q qs some) (All-tail (λ (q : Param). q.passing ≡ Value → kind_words q.kind ≡ 1) q qs single) in
    let one = by q.passing (All-head (λ (q : Param). 1 ≤ kind_words q.kind) q qs some) (All-head (λ (q : Param). q.passing ≡ Value → kind_words q.kind ≡ 1) q qs single) in
    (one.0 ∷ rest.0, (one.1, rest.1))
  where
    by : (how : Passing) → 1 ≤ kind_words q.kind → (how ≡ Value → kind_words q.kind ≡ 1) → (k : Kind) × KindOf how (kind_words q.kind) k
    by Value some single = (Number, (refl, single refl))
    by Shared some single = (Place (kind_words q.kind), (kind_words q.kind, refl, some, omega arith))
    by Mutable some single = (Place (kind_words q.kind), (kind_words q.kind, refl, some, omega arith))

-- a number for a place, or a place for a number, suits nothing
same_number : (how : Passing) (w : ℕ) (a : Kind) → KindOf how w a → Suits a Number → KindOf how w Number
same_number how w Number h s = h
same_number how w (Place n) h s = absurd s

pub never_both : (how : Passing) (w n : ℕ) → KindOf how w Number → KindOf how w (Place n) → ⊥
never_both Value w n h k = (let z : Place n ≡ Number = k.0 in absurd (cc))
never_both Shared w n h k = (let z : Number ≡ Place h.0 = h.1 in absurd (cc))
never_both Mutable w n h k = (let z : Number ≡ Place h.0 = h.1 in absurd (cc))

module _ (p : TProgram) (regions : List TRegion) (targets : List (List Target)) (formed : IsFormed p regions targets) (right : IsPlacedRight p regions targets) where
  abbrev pub I : Parts
  I = code_of p regions targets

  abbrev pub at_of : (i : ℕ) (f : TFunction) → slice_get p.functions i ≡ Some f → ℕ
  at_of i f e = (function_in p regions targets i f e).entry

  abbrev pub code_of_fn : (i : ℕ) (f : TFunction) → slice_get p.functions i ≡ Some f → List Placed
  code_of_fn i f e = function_code p regions (at_of i f e) f

  pub canon_of : (i : ℕ) (f : TFunction) → slice_get p.functions i ≡ Some f → (ks : List Kind) × AreKinds f ks
  canon_of i f e = let c = canon f.params (right.words i f e) (right.single i f e) in (onto c.0 [], record { zs = c.0; fit = c.1; is = refl })

  -- a function with code
  pub record IsFunction (i : ℕ) : Type 0 where
    pub function : TFunction
    pub there : slice_get p.functions i ≡ Some function

  pub in_code : (i a : ℕ) (x : Placed) → code_at I i a ≡ Some x → IsFunction i
  in_code i a x e =
      let s = function_short I i a x e in
      let n = as_many p regions 0 p.functions in
      let f = get_there p.functions i (omega (arith, s, n)) in
      record { function = f.0; there = f.1 }

  -- what is kept at each address, whether it is reached or not
  pub static : (i : ℕ) (f : TFunction) (e : slice_get p.functions i ≡ Some f) (a : ℕ) (x : Placed) → code_at I i a ≡ Some x
      → (ops : List Kind) × Kept (home_of p regions targets formed right i f (canon_of i f e).0 0) x.instr ops
  static i f e a x c =
      let k = canon_of i f e in
      let ends = function_ends p regions targets formed right i f e k.0 k.1 0 in
      let s = kept_at I i (at_of i f e) (code_of_fn i f e) (function_in p regions targets i f e).laid (home_of p regions targets formed right i f k.0 0) k.0 refl refl refl ends a x c in
      ((ends.tab a).ops, s.kept)

  -- what is kept where it is reached with these kinds of parameters
  pub goes : (i : ℕ) (f : TFunction) (e : slice_get p.functions i ≡ Some f) (ks : List Kind) (kinds : AreKinds f ks) (d a : ℕ) (q : Pair) → Reach I i ks a q
      → GoesOn I i (at_of i f e) (code_of_fn i f e) (function_in p regions targets i f e).laid (home_of p regions targets formed right i f ks d) ks refl refl refl
      (function_ends p regions targets formed right i f e ks kinds d) a q
  goes i f e ks kinds d a q r = reached I i (at_of i f e) (code_of_fn i f e) (function_in p regions targets i f e).laid (home_of p regions targets formed right i f ks d) ks refl refl refl
      (function_ends p regions targets formed right i f e ks kinds d) a q r

  -- ---- calls

  pub finds_at : (h : Home) (x : Instr) (ops : List Kind) (g : ℕ) → Kept h x ops → x ≡ Call g → Finds h g ops
  finds_at h x ops g kept is = subst (λ y. CallFinds h y ops) is kept.calls

  -- a call in the code of a function is of one of a lower rank
  pub record Falls (f : TFunction) (g : ℕ) : Type 0 where
    pub callee : TFunction
    pub there : slice_get p.functions g ≡ Some callee
    pub no_main : is_main callee.name ≡ false
    pub lower : formed.rank callee.name < formed.rank f.name

  falls_by : (i : ℕ) (f : TFunction) (ks : List Kind) (d g : ℕ) (ops : List Kind) → Finds (home_of p regions targets formed right i f ks d) g ops → Falls f g
  falls_by i f ks d g ops h =
      let named = name_found p.functions h.name h.callee h.found in
      let low = h.lower in
      record {
        callee = h.callee;
        there = ap (slice_get p.functions) h.is ∙ number_found p.functions h.name h.callee h.found;
        no_main = h.no_main;
        lower = subst (λ x. formed.rank x < formed.rank f.name) named low;
      }

  pub call_falls : (i : ℕ) (f : TFunction) (e : slice_get p.functions i ≡ Some f) (a g : ℕ) (x : Placed) → code_at I i a ≡ Some x → x.instr ≡ Call g → Falls f g
  call_falls i f e a g x c is =
      let s = static i f e a x c in
      falls_by i f (canon_of i f e).0 0 g s.0 (finds_at (home_of p regions targets formed right i f (canon_of i f e).0 0) x.instr s.0 g s.1 is)

  pub one_function : (i : ℕ) (f g : TFunction) → slice_get p.functions i ≡ Some f → slice_get p.functions i ≡ Some g → f ≡ g
  one_function i f g a b = same_Some f g (sym a ∙ b)

  pub main_there : slice_get p.functions (main_number I) ≡ Some formed.main
  main_there = ap (slice_get p.functions) (main_numbered p regions targets) ∙ number_found p.functions (codes "main") formed.main formed.main_found

  -- what is called from `main` has no higher rank
  called_low : (t : Kinds) (n i : ℕ) (f : TFunction) → slice_get p.functions i ≡ Some f → CalledIn I t n i → formed.rank f.name < length p.functions
  called_low t zero i f e c =
      let same : f ≡ formed.main = one_function i f formed.main e (ap (slice_get p.functions) c ∙ main_there) in
      let named : codes "main" ≡ f.name = name_found p.functions (codes "main") formed.main formed.main_found ∙ ap (λ g. g.name) (sym same) in
      subst (λ x. formed.rank x < length p.functions) named formed.main_high
  called_low t (suc n) i f e c =
      let call = c.4 in
      let h = in_code c.0 c.1 call.placed call.found in
      let above = called_low t n c.0 h.function h.there c.3 in
      let falls = call_falls c.0 h.function h.there c.1 i call.placed call.found call.calls in
      let same : f ≡ falls.callee = one_function i f falls.callee e falls.there in
      let low = subst (λ g. formed.rank g.name < formed.rank h.function.name) (sym same) falls.lower in
      omega (arith, low, above)

  -- what a call passes to function g, where the kinds of the caller's parameters are right
  pub record GivesKinds (g : ℕ) (f : TFunction) (ops : List Kind) : Type 0 where
    pub zs : List Kind
    pub under : List Kind
    pub stack : ops ≡ onto zs under
    pub fit : AreOf f.params zs

  pub call_gives : (t : Kinds) (i : ℕ) (f : TFunction) (e : slice_get p.functions i ≡ Some f) → AreKinds f (t i) → (g a : ℕ) (q : Pair) (h : TFunction) → slice_get p.functions g ≡ Some h
      → CallAt I t i g a q
      → GivesKinds g h q.ops
  call_gives t i f e kinds g a q h there call =
      let home = home_of p regions targets formed right i f (t i) 0 in
      let w = goes i f e (t i) kinds 0 a q call.reach in
      let same : w.placed ≡ call.placed = same_Some w.placed call.placed (sym w.found ∙ call.found) in
      let finds = finds_at home w.placed.instr q.ops g w.kept (ap (λ x. x.instr) same ∙ call.calls) in
      let callee : finds.callee ≡ h = one_function g finds.callee h (ap (slice_get p.functions) finds.is ∙ number_found p.functions finds.name finds.callee finds.found) there in
      record { zs = finds.args; under = finds.under; stack = finds.stack; fit = subst (λ f. AreOf f.params finds.args) callee finds.fit }

  module _ (laid : laid_out I ≡ true) (t : Kinds) where
    back : (i g a : ℕ) (q : Pair) (f : ℕ) → CallAt I t i g a q → reaches (calls_of I) (length I.functions) g f ≡ true → reaches (calls_of I) (length I.functions) i f ≡ true
    back i g a q f call r =
        let h = in_code i a call.placed call.found in
        let falls = call_falls i h.function h.there a g call.placed call.found call.calls in
        let n = as_many p regions 0 p.functions in
        let s = slice_get_within p.functions g falls.callee falls.there in
        reach_back (calls_of I) (length I.functions) i g f (omega (arith, n, s)) (call_linked I laid i a g call.placed call.found call.calls) r

    -- the callers' kinds are right too
    pub right_back : (i g a : ℕ) (q : Pair) → CallAt I t i g a q → AreRight I t g → AreRight I t i
    right_back i g a q call R h r = R h (or_second (nat_eq h g) (leads (calls_of I) (length I.functions) h g) (⊎_elim
        (λ e. let same : i ≡ h = grind (arith, e) in subst (λ m. leads (calls_of I) (length I.functions) m g ≡ true) same on)
        (λ l. leads_trans (calls_of I) (length I.functions) h i g (function_short I i a call.placed call.found) l on)
        (either (nat_eq h i) (leads (calls_of I) (length I.functions) h i) r)))
      where
        on : leads (calls_of I) (length I.functions) i g ≡ true
        on = links_lead (calls_of I) (length I.functions) i g (call_linked I laid i a g call.placed call.found call.calls)

    itself : (f : ℕ) → reaches (calls_of I) (length I.functions) f f ≡ true
    itself f = let n : nat_eq f f ≡ true = grind arith in ap (λ b. b || leads (calls_of I) (length I.functions) f f) n

    -- what a passing gives, by what is known of callers
    passes_give : (g : ℕ) (h : TFunction) → slice_get p.functions g ≡ Some h → (args : List Kind) (A : Passes I t g args)
        → ((f : TFunction) → slice_get p.functions A.caller ≡ Some f → AreKinds f (t A.caller)) → (zs : List Kind) × AreOf h.params zs × (args ≡ onto zs [])
    passes_give g h there args A known =
        let c = in_code A.caller A.address A.call.placed A.call.found in
        let k = call_gives t A.caller c.function c.there (known c.function c.there) g A.address A.kinds h there A.call in
        let many : length (onto k.zs []) ≡ params_of I g =
        onto_length k.zs [] ∙ (let n = fit_length h.params k.zs k.fit in let m = params_is p regions targets formed right g h there in omega (arith, n, m)) in
        let own : take (params_of I g) A.kinds.ops ≡ args = ap (take (params_of I g)) A.parts ∙ front_is args A.rest (params_of I g) A.sized in
        let theirs : take (params_of I g) A.kinds.ops ≡ onto k.zs [] = ap (take (params_of I g)) (k.stack ∙ onto_more k.zs [] k.under) ∙ front_is (onto k.zs []) k.under (params_of I g) many in
        (k.zs, k.fit, sym own ∙ theirs)

    -- the kinds of a called function's parameters are such as it asks for
    abbrev Known : ℕ → Type 0
    Known k = (i : ℕ) (f : TFunction) → slice_get p.functions i ≡ Some f → AreRight I t i → IsCalled I t i → length p.functions ≤ formed.rank f.name + k → AreKinds f (t i)

    kinds_step : (k : ℕ) → Known k → Known (suc k)
    kinds_step k known i f e R c up = by c.0 c.1
      where
        mine : IsRight I t i
        mine = R i (itself i)

        sized : length (t i) ≡ length f.params
        sized = mine.sized ∙ params_is p regions targets formed right i f e

        callers : (args : List Kind) (A : Passes I t i args) (g : TFunction) → slice_get p.functions A.caller ≡ Some g → AreKinds g (t A.caller)
        callers args A g there =
            let falls = call_falls A.caller g there A.address i A.call.placed A.call.found A.call.calls in
            let same : f ≡ falls.callee = one_function i f falls.callee e falls.there in
            let low = subst (λ h. formed.rank h.name < formed.rank g.name) (sym same) falls.lower in
            known A.caller g there (right_back A.caller i A.address A.kinds A.call R) A.called (omega (arith, low, up))

        fits : (args : List Kind) → Passes I t i args → (zs : List Kind) × AreOf f.params zs × (args ≡ onto zs [])
        fits args A = passes_give i f e args A (callers args A)

        ls : List Kind
        ls = onto (t i) []

        sized_ls : length ls ≡ length f.params
        sized_ls = onto_length (t i) [] ∙ (let n = sized in omega (arith, n))

        at_level : (zs : List Kind) (j : ℕ) (x : Kind) → slice_get zs j ≡ Some x → level (onto zs []) j ≡ Some x
        at_level zs j x h = let z : 0 + j ≡ j = omega arith in ap (level (onto zs [])) (sym z) ∙ level_onto zs [] j x h

        by : (n : ℕ) → CalledIn I t n i → AreKinds f (t i)
        by zero m =
            let same : f ≡ formed.main = one_function i f formed.main e (ap (slice_get p.functions) m ∙ main_there) in
            let none : f.params ≡ [] = ap (λ g. g.params) same ∙ formed.main_takes_none in
            record {
              zs = ls;
              fit = fit_by f.params ls sized_ls (λ j q x a b. (let z : slice_get [] j ≡ Some q = ap (λ l. slice_get l j) (sym none) ∙ a in absurd (none-some q z)));
              is = sym (twice (t i));
            }
        by (suc n) m =
            let call = m.4 in
            let h = in_code m.0 m.1 call.placed call.found in
            let falls = call_falls m.0 h.function h.there m.1 i call.placed call.found call.calls in
            let same : f ≡ falls.callee = one_function i f falls.callee e falls.there in
            let low = subst (λ g. formed.rank g.name < formed.rank h.function.name) (sym same) falls.lower in
            let caller = known m.0 h.function h.there (right_back m.0 i m.1 m.2 call R) (n, m.3) (omega (arith, low, up)) in
            let g = call_gives t m.0 h.function h.there caller i m.1 m.2 f e call in
            let args : List Kind = onto g.zs [] in
            let passes : Passes I t i args = record {
              caller = m.0;
              called = (n, m.3);
              address = m.1;
              kinds = m.2;
              call = call;
              rest = g.under;
              parts = g.stack ∙ onto_more g.zs [] g.under;
              sized = onto_length g.zs [] ∙ (let n = fit_length f.params g.zs g.fit in let m = params_is p regions targets formed right i f e in omega (arith, n, m));
            } in
            let suits = mine.suit args passes in
            record {
              zs = ls;
              fit = fit_by f.params ls sized_ls (λ j q x a b. (
                  let there : level (t i) j ≡ Some x = ap (λ l. level l j) (sym (twice (t i))) ∙ at_level ls j x b in
                  let s = slice_get_within f.params j q a in
                  let n = fit_length f.params g.zs g.fit in
                  let y = get_there g.zs j (omega (arith, s, n)) in
                  let first = fit_at f.params g.zs j q y.0 g.fit a y.1 in
                  let suit = suit_at args (t i) j y.0 x suits (at_level g.zs j y.0 y.1) there in
                  kind_by j x there q a y.0 first suit));
              is = sym (twice (t i));
            }
          where
            kind_by : (j : ℕ) (x : Kind) → level (t i) j ≡ Some x → (q : Param) → slice_get f.params j ≡ Some q → (y : Kind) → KindOf q.passing (kind_words q.kind) y → Suits y x
                → KindOf q.passing (kind_words q.kind) x
            kind_by j Number there q a y first suit = same_number q.passing (kind_words q.kind) y first suit
            kind_by j (Place n) there q a y first suit =
                let met = mine.met j n there in
                let zs = fits met.0 met.1 in
                let s = slice_get_within f.params j q a in
                let l = fit_length f.params zs.0 zs.1 in
                let z = get_there zs.0 j (omega (arith, s, l)) in
                let lv : level met.0 j ≡ Some z.0 = ap (λ l. level l j) zs.2 ∙ at_level zs.0 j z.0 z.1 in
                let same : z.0 ≡ Place n = same_Some z.0 (Place n) (sym lv ∙ met.2) in
                subst (KindOf q.passing (kind_words q.kind)) same (fit_at f.params zs.0 j q z.0 zs.1 a z.1)

    kinds_by : (k : ℕ) → Known k
    kinds_by zero = λ i f e R c up. absurd (let low = called_low t c.0 i f e c.1 in omega (arith, low, up))
    kinds_by (suc k) = kinds_step k (kinds_by k)

    -- of each called function whose kinds are right
    pub kinds_are : (i : ℕ) (f : TFunction) → slice_get p.functions i ≡ Some f → AreRight I t i → IsCalled I t i → AreKinds f (t i)
    kinds_are i f e R c = kinds_by (length p.functions) i f e R c (omega arith)

    -- and so is what is passed
    pub passed_are : (g : ℕ) (h : TFunction) → slice_get p.functions g ≡ Some h → (args : List Kind) (A : Passes I t g args) → AreRight I t A.caller
        → (zs : List Kind) × AreOf h.params zs × (args ≡ onto zs [])
    passed_are g h there args A R = passes_give g h there args A (λ f e. kinds_are A.caller f e R A.called)
