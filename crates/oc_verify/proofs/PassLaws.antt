-- The kinds behind one call more.
use Rattle.std.proofs.Common.{◌≡◌, ℕ, zero, suc, ◌+◌, ◌<◌, ◌≤◌, ◌≢◌, List, [], ◌∷◌, length, take, map, Option, Some, None, refl, sym, ap, ◌∙◌, subst, ⊎_elim, inl, inr, arith, true, nat_eq, nat_lt}
use Rattle.std.proofs.lemmas.Bool.{and_parts}
use Rattle.std.specs.Prelude.{◌⊎◌, ◌||◌, ◌&&◌, slice_get, slice_set}
use Rattle.std.specs.List.{All}
use Rattle.std.proofs.lemmas.Bool.Decides.{eqb_tells}
use Rattle.std.proofs.lemmas.List.{length-take-le}
use Rattle.std.proofs.Math.Arith.{lt_of_le-ne}
use Rattle.oc_isa.specs.declared.instr.Instr.{Instr}
use Rattle.oc_isa.specs.declared.instr.Instr.TheVariants.{Call}
use Rattle.oc_isa.specs.declared.instr.Placed.{Placed}
use Rattle.oc_isa.specs.Image.{Parts}
use Rattle.oc_verify.specs.declared.kind.Kind.{Kind}
use Rattle.oc_verify.specs.declared.kind.Kind.TheVariants.{Place}
use Rattle.oc_verify.specs.Typing.{Pair, SuitAll, level}
use Rattle.oc_verify.specs.Rules.{code_at, params_of}
use Rattle.oc_verify.specs.Told.{kind_of}
use Rattle.oc_verify.specs.Work.{Marks}
use Rattle.oc_verify.specs.Tables.{Calls, Passed, SeenCall, IsPassed, with_calls, JoinsBy, Joins}
use Rattle.oc_verify.proofs.Exact.{either, or_second}
use Rattle.oc_verify.proofs.MergeLaws.{suit_both, one_of_both, all_then, itself}
use Rattle.oc_verify.proofs.KindLaws.{kinds_long}

-- one element of a list is set

pub put_same : {A : Type 0} (xs : List A) (k : ℕ) (o x : A) → slice_get xs k ≡ Some o → slice_get (slice_set xs k x) k ≡ Some x
put_same [] k o x e = absurd (cc)
put_same (y ∷ xs) zero o x e = refl
put_same (y ∷ xs) (suc k) o x e = put_same xs k o x e

pub put_other : {A : Type 0} (xs : List A) (k j : ℕ) (x : A) → j ≢ k → slice_get (slice_set xs k x) j ≡ slice_get xs j
put_other [] k j x d = refl
put_other (y ∷ xs) zero zero x d = absurd (d refl)
put_other (y ∷ xs) zero (suc j) x d = refl
put_other (y ∷ xs) (suc k) zero x d = refl
put_other (y ∷ xs) (suc k) (suc j) x d = put_other xs k j x (λ e. d (ap suc e))

pub put_long : {A : Type 0} (xs : List A) (k : ℕ) (x : A) → length (slice_set xs k x) ≡ length xs
put_long [] k x = refl
put_long (y ∷ xs) zero x = refl
put_long (y ∷ xs) (suc k) x = ap suc (put_long xs k x)

pub put_itself : {A : Type 0} (xs : List A) (k : ℕ) (x : A) → slice_get xs k ≡ Some x → xs ≡ slice_set xs k x
put_itself [] k x e = refl
put_itself (y ∷ xs) zero x e = let q : y ≡ x = (cc) in ap (λ z. z ∷ xs) q
put_itself (y ∷ xs) (suc k) x e = ap (λ l. y ∷ l) (put_itself xs k x e)

-- calls that were looked at, said in another way
pub passed_as : (i : Parts) (s1 s2 : Calls) (tab1 tab2 : Marks) (ps : Passed)
    → ((h g a : ℕ) (p : Pair) → s2 h a ≡ true → SeenCall i tab2 h g a p → (s1 h a ≡ true) × SeenCall i tab1 h g a p)
    → ((h g a : ℕ) (p : Pair) → s1 h a ≡ true → SeenCall i tab1 h g a p → (s2 h a ≡ true) × SeenCall i tab2 h g a p)
    → IsPassed i s1 tab1 ps → IsPassed i s2 tab2 ps
passed_as i s1 s2 tab1 tab2 ps back on P = record {
  many = P.many;
  sized = P.sized;
  small = P.small;
  suits = λ h g a p d s. let b = back h g a p d s in P.suits h g a p b.0 b.1;
  met = λ g j n cs e l. let m = P.met g j n cs e l in let o = on m.0 g m.1 m.2 m.3 m.4 in (m.0, m.1, m.2, o.0, o.1, m.5);
  passes = λ g cs e. let m = P.passes g cs e in let o = on m.0 g m.1 m.2 m.3 m.4 in (m.0, m.1, m.2, o.0, o.1);
}

-- the calls of one function below an address

pub calls_old : (seen : Calls) (f to h a : ℕ) → seen h a ≡ true → with_calls seen f to h a ≡ true
calls_old seen f to h a e = ap (λ b. b || (nat_eq h f && nat_lt a to)) e

pub calls_new : (seen : Calls) (f to h a : ℕ) → h ≡ f → a < to → with_calls seen f to h a ≡ true
calls_new seen f to h a e l =
    let x : nat_eq h f ≡ true = grind (arith, e) in
    let y : nat_lt a to ≡ true = grind (arith, l) in
    or_second (seen h a) (nat_eq h f && nat_lt a to) (ap (λ b. b && nat_lt a to) x ∙ y)

pub calls_parts : (seen : Calls) (f to h a : ℕ) → with_calls seen f to h a ≡ true → (seen h a ≡ true) ⊎ ((h ≡ f) × (a < to))
calls_parts seen f to h a e = ⊎_elim
    (λ q. inl q)
    (λ q. inr (let x : nat_eq h f ≡ true = (and_parts (nat_eq h f) (nat_lt a to) q).0 in grind (arith, x), let y : nat_lt a to ≡ true = (and_parts (nat_eq h f) (nat_lt a to) q).1 in grind (arith, y)))
    (either (seen h a) (nat_eq h f && nat_lt a to) e)

module _ (i : Parts) (tab : Marks) (f : ℕ) (ps : Passed) where
  call_of : (h g a : ℕ) (p : Pair) → h ≡ f → SeenCall i tab h g a p → SeenCall i tab f g a p
  call_of h g a p e s = subst (λ k. SeenCall i tab k g a p) e s

  -- nothing of the function's code was looked at yet
  pub pass_begun : (seen : Calls) (to : ℕ) → ((g a : ℕ) (p : Pair) → SeenCall i tab f g a p → to ≤ a) → IsPassed i seen tab ps → IsPassed i (with_calls seen f to) tab ps
  pass_begun seen to high P = passed_as i seen (with_calls seen f to) tab tab ps
      (λ h g a p d s. (⊎_elim (λ q. q) (λ q. absurd (let l = high g a p (call_of h g a p q.0 s) in let u = q.1 in omega (arith, l, u))) (calls_parts seen f to h a d), s))
      (λ h g a p d s. (calls_old seen f to h a d, s))
      P

  -- there is no call between
  pub pass_on : (seen : Calls) (to up : ℕ) → to ≤ up → ((g a : ℕ) (p : Pair) → SeenCall i tab f g a p → a < up → a < to) → IsPassed i (with_calls seen f to) tab ps
      → IsPassed i (with_calls seen f up) tab ps
  pass_on seen to up l none P = passed_as i (with_calls seen f to) (with_calls seen f up) tab tab ps
      (λ h g a p d s. (⊎_elim (λ q. calls_old seen f to h a q) (λ q. calls_new seen f to h a q.0 (none g a p (call_of h g a p q.0 s) q.1)) (calls_parts seen f up h a d), s))
      (λ h g a p d s. (⊎_elim (λ q. calls_old seen f up h a q) (λ q. calls_new seen f up h a q.0 (let u = q.1 in omega (arith, l, u))) (calls_parts seen f to h a d), s))
      P

-- what the kinds behind one call more are
record Joined (ps : Passed) (g : ℕ) (args ks : List Kind) : Type 0 where
  pub suit : SuitAll args ks
  pub suit_old : (cs : List ℕ) → slice_get ps g ≡ Some (Some cs) → SuitAll (map kind_of cs) ks
  pub from : (j : ℕ) (k : Kind) → level ks j ≡ Some k → (level args j ≡ Some k) ⊎ ((cs : List ℕ) × (slice_get ps g ≡ Some (Some cs)) × (level (map kind_of cs) j ≡ Some k))
  pub there : (o : Option (List ℕ)) × (slice_get ps g ≡ Some o)

joined_by : (ps : Passed) (g : ℕ) (args ks : List Kind) (o : Option (Option (List ℕ))) → slice_get ps g ≡ o
    → ((cs : List ℕ) → slice_get ps g ≡ Some (Some cs) → length (map kind_of cs) ≡ length args) → JoinsBy o args ks → Joined ps g args ks
joined_by ps g args ks None e n j = absurd j
joined_by ps g args ks (Some None) e n j = record {
  suit = subst (λ l. SuitAll args l) (sym j) (itself args);
  suit_old = λ cs q. absurd (let z : Some None ≡ Some (Some cs) = sym e ∙ q in (cc));
  from = λ l k q. inl (ap (λ x. level x l) (sym j) ∙ q);
  there = (None, e);
}
joined_by ps g args ks (Some (Some cs)) e n j =
    let b = suit_both (map kind_of cs) args ks (n cs e) j in
    record {
      suit = b.1;
      suit_old = λ ds q. let z : Some (Some cs) ≡ Some (Some ds) = sym e ∙ q in let y : cs ≡ ds = (cc) in subst (λ x. SuitAll (map kind_of x) ks) y b.0;
      from = λ l k q. ⊎_elim (λ x. inr (cs, e, x)) (λ x. inl x) (one_of_both (map kind_of cs) args ks (n cs e) j l k q);
      there = (Some cs, e);
    }

abbrev callee_of : Instr → ℕ
callee_of (Call g) = g
callee_of x = 0

module _ (i : Parts) (tab : Marks) (f place g : ℕ) (p : Pair) (ps ps' : Passed) (S : SeenCall i tab f g place p) (J : Joins (params_of i g) ps g p.ops ps') (deep : params_of i g ≤ length p.ops)
    (seen : Calls) (P : IsPassed i (with_calls seen f place) tab ps) where
  abbrev args : List Kind
  args = take (params_of i g) p.ops

  abbrev ks : List Kind
  ks = map kind_of J.codes

  told : Joined ps g args ks
  told = joined_by ps g args ks (slice_get ps g) refl (λ cs e. kinds_long cs ∙ P.sized g cs e ∙ sym (length-take-le (params_of i g) p.ops deep)) J.joins

  here : slice_get ps' g ≡ Some (Some J.codes)
  here = ap (λ l. slice_get l g) J.is ∙ put_same ps g told.there.0 (Some J.codes) told.there.1

  elsewhere : (k : ℕ) → k ≢ g → slice_get ps' k ≡ slice_get ps k
  elsewhere k d = ap (λ l. slice_get l k) J.is ∙ put_other ps g k (Some J.codes) d

  codes_are : (cs : List ℕ) → slice_get ps' g ≡ Some (Some cs) → J.codes ≡ cs
  codes_are cs e = let z : Some (Some J.codes) ≡ Some (Some cs) = sym here ∙ e in (cc)

  abbrev now : Calls
  now = with_calls seen f (place + 1)

  later : (h a : ℕ) → with_calls seen f place h a ≡ true → now h a ≡ true
  later h a d = ⊎_elim (λ q. calls_old seen f (place + 1) h a q) (λ q. calls_new seen f (place + 1) h a q.0 (let u = q.1 in omega (arith, u))) (calls_parts seen f place h a d)

  newest : now f place ≡ true
  newest = calls_new seen f (place + 1) f place refl (omega arith)

  same_call : (h k a : ℕ) (q : Pair) → h ≡ f → a ≡ place → SeenCall i tab h k a q → (g ≡ k) × (p ≡ q)
  same_call h k a q e n s =
      let z : Some S.placed ≡ Some s.placed = sym S.found ∙ (λ j. code_at i (sym e j) (sym n j)) ∙ s.found in
      let x : S.placed ≡ s.placed = (cc) in
      let y : Call g ≡ Call k = sym S.calls ∙ ap (λ (w : Placed). w.instr) x ∙ s.calls in
      let v : Some p ≡ Some q = sym S.pair ∙ ap tab (sym n) ∙ s.pair in
      (ap callee_of y, (cc))

  abbrev SuitAt : ℕ → Pair → Type 0
  SuitAt k q = (cs : List ℕ) × (slice_get ps' k ≡ Some (Some cs)) × SuitAll (take (params_of i k) q.ops) (map kind_of cs)

  abbrev PassAt : ℕ → Type 0
  PassAt k = (h : ℕ) × (a : ℕ) × (q : Pair) × (now h a ≡ true) × SeenCall i tab h k a q

  abbrev MetAt : ℕ → ℕ → ℕ → Type 0
  MetAt k j n = (h : ℕ) × (a : ℕ) × (q : Pair) × (now h a ≡ true) × SeenCall i tab h k a q × (level (take (params_of i k) q.ops) j ≡ Some (Place n))

  suit_here : (h k a : ℕ) (q : Pair) → h ≡ f → a ≡ place → SeenCall i tab h k a q → SuitAt k q
  suit_here h k a q e n s =
      let c = same_call h k a q e n s in
      subst (λ x. SuitAt x q) c.0 (subst (λ x. SuitAt g x) c.1 (J.codes, here, told.suit))

  suit_there : (h k a : ℕ) (q : Pair) → with_calls seen f place h a ≡ true → SeenCall i tab h k a q → SuitAt k q
  suit_there h k a q d s =
      let m = P.suits h k a q d s in
      ⊎_elim
      (λ e. subst (λ x. SuitAt x q) (sym e.1) (
        J.codes,
        here,
        all_then (take (params_of i g) q.ops) (map kind_of m.0) ks (subst (λ x. SuitAll (take (params_of i x) q.ops) (map kind_of m.0)) e.1 m.2)
            (told.suit_old m.0 (ap (slice_get ps) (sym e.1) ∙ m.1)),
      ))
      (λ e. (m.0, elsewhere k e.1 ∙ m.1, m.2))
      (eqb_tells k g)

  met_here : (j n : ℕ) → level ks j ≡ Some (Place n) → MetAt g j n
  met_here j n l = ⊎_elim
      (λ x. (f, place, p, newest, S, x))
      (λ x. let m = P.met g j n x.0 x.1 x.2 in (m.0, m.1, m.2, later m.0 m.1 m.3, m.4, m.5))
      (told.from j (Place n) l)

  -- the kinds are the least over this call, too
  pub joins_them : IsPassed i now tab ps'
  joins_them = record {
    many = ap length J.is ∙ put_long ps g (Some J.codes) ∙ P.many;
    sized = λ k cs e. ⊎_elim
        (λ q. ap length (sym (codes_are cs (ap (slice_get ps') (sym q.1) ∙ e))) ∙ J.sized ∙ ap (params_of i) (sym q.1))
        (λ q. P.sized k cs (sym (elsewhere k q.1) ∙ e))
        (eqb_tells k g);
    small = λ k cs e. ⊎_elim
        (λ q. subst (All (λ c. c < 8589934592)) (codes_are cs (ap (slice_get ps') (sym q.1) ∙ e)) J.small)
        (λ q. P.small k cs (sym (elsewhere k q.1) ∙ e))
        (eqb_tells k g);
    suits = λ h k a q d s. ⊎_elim
        (λ o. suit_there h k a q (calls_old seen f place h a o) s)
        (λ o. ⊎_elim
        (λ n. suit_here h k a q o.0 n.1 s)
        (λ n. suit_there h k a q (calls_new seen f place h a o.0 (lt_of_le-ne (let u = o.1 in omega (arith, u)) n.1)) s)
        (eqb_tells a place))
        (calls_parts seen f (place + 1) h a d);
    met = λ k j n cs e l. ⊎_elim
        (λ q. subst (λ x. MetAt x j n) (sym q.1) (met_here j n (ap (λ x. level (map kind_of x) j) (codes_are cs (ap (slice_get ps') (sym q.1) ∙ e)) ∙ l)))
        (λ q. let m = P.met k j n cs (sym (elsewhere k q.1) ∙ e) l in (m.0, m.1, m.2, later m.0 m.1 m.3, m.4, m.5))
        (eqb_tells k g);
    passes = λ k cs e. ⊎_elim
        (λ q. subst (λ x. PassAt x) (sym q.1) (f, place, p, newest, S))
        (λ q. let m = P.passes k cs (sym (elsewhere k q.1) ∙ e) in (m.0, m.1, m.2, later m.0 m.1 m.3, m.4))
        (eqb_tells k g);
  }
