-- The kinds that were passed, as the code keeps them.
use Rattle.std.proofs.Common.{◌≡◌, ℕ, zero, suc, ◌+◌, ◌<◌, ◌≤◌, List, [], ◌∷◌, ◌++◌, length, take, map, ⊎_elim, Option, Some, None, refl, sym, ap, ◌∙◌, subst, arith}
use Rattle.std.proofs.Common.{Vec, Global, Bool, true, false, cond, nat_cmp, inl, inr}
use Rattle.std.specs.Prelude.{◌==◌, ◌⊎◌, option_map, slice_get, slice_set, replicate}
use Rattle.std.specs.BTreeSet.{BTreeSet, Updates, contains}
use Rattle.std.specs.Cmp.{unsigned_tied}
use Rattle.std.proofs.lemmas.Bool.Decides.{eqb_tells}
use Rattle.oc_tree.specs.Reach.{linked}
use Rattle.oc_isa.specs.declared.image.ImageFunction.{ImageFunction}
use Rattle.std.specs.List.{All}
use Rattle.std.proofs.lemmas.List.{length-take-le}
use Rattle.std.proofs.lemmas.List.Elements.{All-nil, All-cons, All-take}
use Rattle.std.proofs.Math.Arith.{lt_of_le-ne}
use Rattle.oc_isa.specs.declared.instr.Placed.{Placed}
use Rattle.oc_isa.specs.declared.instr.Instr.TheVariants.{Call}
use Rattle.oc_isa.specs.Image.{Parts}
use Rattle.oc_verify.specs.declared.kind.Kind.{Kind}
use Rattle.oc_verify.specs.declared.walk.Table.{Table}
use Rattle.oc_verify.specs.declared.fault.VerifyError.{VerifyError}
use Rattle.oc_verify.specs.declared.fault.VerifyError.TheVariants as errors
use Rattle.oc_verify.specs.Merging.{leasts}
use Rattle.oc_verify.specs.Own.{own_list}
use Rattle.oc_verify.specs.Typing.{Pair, SuitAll, slots, slots_by}
use Rattle.oc_verify.specs.Rules.{calls_of, code_at, laid_out, main_number, on_function, own_slots, params_of}
use Rattle.oc_verify.specs.Work.{Marks}
use Rattle.oc_verify.specs.Stacks.{Nodes, stack}
use Rattle.oc_verify.specs.Told.{kind_of, kinds, pair_of}
use Rattle.oc_verify.specs.Walks.{table_marks}
use Rattle.oc_verify.specs.Tables.{Calls, IsPassed, with_calls, codes_by, codes_of, Passed, passed_seen, pair_in, was_passed}
use Rattle.oc_verify.specs.Tables.{Joins, JoinsBy, Mixes, MixesWith, SeenCall, call_number, number_callee, number_stack}
use Rattle.oc_verify.proofs.Calls.{call_linked}
use Rattle.oc_verify.proofs.KindLaws.{kinds_long}
use Rattle.oc_verify.proofs.MergeLaws.{all_stay}
use Rattle.oc_verify.proofs.PassLaws.{calls_new, put_itself, put_other, pass_on, joins_them}
use Rattle.oc_verify.proofs.TopLaws.{all_small, leasts_take}

abbrev Kept : Type 0
Kept = List (Option (Vec ℕ Global))

pub seen_none : (ps : Kept) (k : ℕ) → slice_get ps k ≡ Some None → slice_get (passed_seen ps) k ≡ Some None
seen_none [] k e = absurd (cc)
seen_none (None ∷ ps) zero e = refl
seen_none (Some v ∷ ps) zero e = absurd (cc)
seen_none (None ∷ ps) (suc k) e = seen_none ps k e
seen_none (Some v ∷ ps) (suc k) e = seen_none ps k e

pub seen_some : (ps : Kept) (k : ℕ) (v : Vec ℕ Global) → slice_get ps k ≡ Some (Some v) → slice_get (passed_seen ps) k ≡ Some (Some v.items)
seen_some [] k v e = absurd (cc)
seen_some (None ∷ ps) zero v e = absurd (cc)
seen_some (Some w ∷ ps) zero v e = let q : w ≡ v = (cc) in ap (λ (x : Vec ℕ Global). Some (Some x.items)) q
seen_some (None ∷ ps) (suc k) v e = seen_some ps k v e
seen_some (Some w ∷ ps) (suc k) v e = seen_some ps k v e

pub seen_long : (ps : Kept) → length (passed_seen ps) ≡ length ps
seen_long [] = refl
seen_long (None ∷ ps) = ap suc (seen_long ps)
seen_long (Some v ∷ ps) = ap suc (seen_long ps)

pub seen_set : (ps : Kept) (k : ℕ) (v : Vec ℕ Global) → passed_seen (slice_set ps k (Some v)) ≡ slice_set (passed_seen ps) k (Some v.items)
seen_set [] k v = refl
seen_set (None ∷ ps) zero v = refl
seen_set (Some w ∷ ps) zero v = refl
seen_set (None ∷ ps) (suc k) v = ap (λ l. None ∷ l) (seen_set ps k v)
seen_set (Some w ∷ ps) (suc k) v = ap (λ l. Some w.items ∷ l) (seen_set ps k v)

pub seen_push : (ps : Kept) → passed_seen (ps ++ None ∷ []) ≡ passed_seen ps ++ None ∷ []
seen_push [] = refl
seen_push (None ∷ ps) = ap (λ l. None ∷ l) (seen_push ps)
seen_push (Some w ∷ ps) = ap (λ l. Some w.items ∷ l) (seen_push ps)

one_suc : {A : Type 0} (n : ℕ) (x : A) → replicate n x ++ x ∷ [] ≡ replicate (suc n) x
one_suc zero x = refl
one_suc (suc n) x = ap (λ l. x ∷ l) (one_suc n x)

one_more : {A : Type 0} (n : ℕ) (x : A) → replicate n x ++ x ∷ [] ≡ replicate (n + 1) x
one_more n x = let m : suc n ≡ n + 1 = omega arith in one_suc n x ∙ ap (λ k. replicate k x) m

pub none_more : (ps : Kept) (n : ℕ) → passed_seen ps ≡ replicate n None → passed_seen (ps ++ None ∷ []) ≡ replicate (n + 1) None
none_more ps n e = seen_push ps ∙ ap (λ (l : Passed). l ++ None ∷ []) e ∙ one_more n None

-- one call more, with kinds that were passed before
pub joins_some : (params : ℕ) (ps : Passed) (g : ℕ) (ops : List Kind) (cs new : List ℕ) → slice_get ps g ≡ Some (Some cs) → length cs ≡ params → leasts (map kind_of cs) ops ≡ Some (map kind_of new)
    → length new ≡ length cs → All (λ c. c < 8589934592) new → Joins params ps g ops (slice_set ps g (Some new))
joins_some params ps g ops cs new e n l m s = record {
  codes = new;
  is = refl;
  sized = m ∙ n;
  small = s;
  joins = subst (λ o. JoinsBy o (take params ops) (map kind_of new)) (sym e) (sym (leasts_take (map kind_of cs) ops params (kinds_long cs ∙ n)) ∙ l);
}

kinds_take : (n : ℕ) (cs : List ℕ) → map kind_of (take n cs) ≡ take n (map kind_of cs)
kinds_take zero [] = refl
kinds_take zero (c ∷ cs) = refl
kinds_take (suc n) [] = refl
kinds_take (suc n) (c ∷ cs) = ap (λ l. kind_of c ∷ l) (kinds_take n cs)

-- the first call
pub joins_none : (params : ℕ) (ps : Passed) (g : ℕ) (ks : Nodes) (n : ℕ) (new : List ℕ) → slice_get ps g ≡ Some None → new ≡ take params (stack ks n) → params ≤ length (stack ks n)
    → Joins params ps g (kinds ks n) (slice_set ps g (Some new))
joins_none params ps g ks n new e t l = record {
  codes = new;
  is = refl;
  sized = ap length t ∙ length-take-le params (stack ks n) l;
  small = subst (All (λ c. c < 8589934592)) (sym t) (All-take (λ c. c < 8589934592) params (stack ks n) (all_small ks n));
  joins = subst (λ o. JoinsBy o (take params (kinds ks n)) (map kind_of new)) (sym e) (ap (map kind_of) t ∙ kinds_take params (stack ks n));
}

mixes_take : (params : ℕ) (ops : List Kind) (cs : List ℕ) (e : VerifyError) → length cs ≡ params → Mixes (map kind_of cs) ops e → Mixes (map kind_of cs) (take params ops) e
mixes_take params ops cs (errors.Refused place rule) n m = (m.0, m.1, sym (leasts_take (map kind_of cs) ops params (kinds_long cs ∙ n)) ∙ m.2)
mixes_take params ops cs errors.Memory n m = tt

pub mixes_some : (params : ℕ) (ps : Passed) (g : ℕ) (ops : List Kind) (cs : List ℕ) (e : VerifyError) → slice_get ps g ≡ Some (Some cs) → length cs ≡ params → Mixes (map kind_of cs) ops e
    → MixesWith (slice_get ps g) (take params ops) e
mixes_some params ps g ops cs e is n m = subst (λ o. MixesWith o (take params ops) e) (sym is) (mixes_take params ops cs e n m)

-- what a cell says
pub cell_mark : (t : Table) (a : ℕ) (n : ℕ × ℕ) → slice_get t.cells.items a ≡ Some (Some n) → table_marks t a ≡ Some (pair_of t.tops t.regions n)
cell_mark t a n e = ap (pair_in t.tops t.regions) e

pub cell_blank : (t : Table) (a : ℕ) → slice_get t.cells.items a ≡ Some None → table_marks t a ≡ None
cell_blank t a e = ap (pair_in t.tops t.regions) e

pub cell_call : (i : Parts) (t : Table) (f g a : ℕ) (x : Placed) (n : ℕ × ℕ) → code_at i f a ≡ Some x → x.instr ≡ Call g → slice_get t.cells.items a ≡ Some (Some n)
    → SeenCall i (table_marks t) f g a (pair_of t.tops t.regions n)
cell_call i t f g a x n c e s = record { placed = x; found = c; calls = e; pair = cell_mark t a n s }

pub kinds_high : (ks : Nodes) (n : ℕ) → length (kinds ks n) ≡ length (stack ks n)
kinds_high ks n = kinds_long (stack ks n)

-- kinds of a function, as they are kept

pub codes_some : (i : Parts) (ps : Passed) (f : ℕ) (cs : List ℕ) → slice_get ps f ≡ Some (Some cs) → cs ≡ codes_of i ps f
codes_some i ps f cs e = sym (ap (codes_by (params_of i f)) e)

pub codes_none : (i : Parts) (ps : Passed) (f : ℕ) → slice_get ps f ≡ Some None → replicate (params_of i f) 0 ≡ codes_of i ps f
codes_none i ps f e = sym (ap (codes_by (params_of i f)) e)

pub zeros_long : (n : ℕ) → length {A = ℕ} (replicate n 0) ≡ n
zeros_long zero = refl
zeros_long (suc n) = ap suc (zeros_long n)

pub zeros_small : (n : ℕ) → All (λ c. c < 8589934592) (replicate n 0)
zeros_small zero = All-nil (λ c. c < 8589934592)
zeros_small (suc n) = All-cons (λ c. c < 8589934592) 0 (replicate n 0) (omega arith) (zeros_small n)

pub own_slots_are : (i : Parts) (f : ℕ) (g : ImageFunction) (cs : List ℕ) (m : Bool) → m ≡ (f == main_number i) → slice_get i.functions f ≡ Some g
    → own_list (record { main = m; function = g; codes = cs }) ≡ own_slots i f (map kind_of cs)
own_slots_are i f g cs m e s = ap (λ b. slots_by b g (map kind_of cs)) e ∙ sym (ap (on_function [] (λ h. slots (main_number i) f h (map kind_of cs))) s)

-- the calls in the code of a function, up to an address

module _ (i : Parts) (t : Table) (f place : ℕ) (first old : Passed) (P : (seen : Calls) → IsPassed i seen (table_marks t) first → IsPassed i (with_calls seen f place) (table_marks t) old) where
  pub call_passed : (g : ℕ) (x : Placed) (n : ℕ × ℕ) (new : Passed) → code_at i f place ≡ Some x → x.instr ≡ Call g → slice_get t.cells.items place ≡ Some (Some n)
      → Joins (params_of i g) old g (kinds t.tops n.0) new
      → params_of i g ≤ length (kinds t.tops n.0) → (seen : Calls) → IsPassed i seen (table_marks t) first → IsPassed i (with_calls seen f (place + 1)) (table_marks t) new
  call_passed g x n new c e s J deep seen Q = joins_them i (table_marks t) f place g (pair_of t.tops t.regions n) old new (cell_call i t f g place x n c e s) J deep seen (P seen Q)

  pub none_passed : ((g : ℕ) (p : Pair) → SeenCall i (table_marks t) f g place p → ⊥) → (seen : Calls) → IsPassed i seen (table_marks t) first
      → IsPassed i (with_calls seen f (place + 1)) (table_marks t) old
  none_passed none seen Q = pass_on i (table_marks t) f old seen place (place + 1) (omega arith) (λ g a p s l. ⊎_elim
      (λ e. absurd (none g p (subst (λ k. SeenCall i (table_marks t) f g k p) e.1 s)))
      (λ e. lt_of_le-ne (omega (arith, l)) e.1)
      (eqb_tells a place)) (P seen Q)

-- the kinds of this function suit what stands on top of these
abbrev pub SuitedBy : Parts → Passed → ℕ → List Kind → Type 0
SuitedBy i ps g ops = (cs : List ℕ) × (slice_get ps g ≡ Some (Some cs)) × SuitAll (take (params_of i g) ops) (map kind_of cs)

-- so one call more with these changes nothing
pub joins_again : (i : Parts) (seen : Calls) (tab : Marks) (ps : Passed) (g : ℕ) (ops : List Kind) → IsPassed i seen tab ps → SuitedBy i ps g ops → Joins (params_of i g) ps g ops ps
joins_again i seen tab ps g ops P s = record {
  codes = s.0;
  is = put_itself ps g (Some s.0) s.1;
  sized = P.sized g s.0 s.1;
  small = P.small g s.0 s.1;
  joins = subst (λ o. JoinsBy o (take (params_of i g) ops) (map kind_of s.0)) (sym s.1) (all_stay (take (params_of i g) ops) (map kind_of s.0) s.2);
}

-- function f calls g below an address with this stack
abbrev pub CallsWith : Parts → Table → (f to g n : ℕ) → Type 0
CallsWith i t f to g n = (a : ℕ) × (p : Pair) × (a < to) × SeenCall i (table_marks t) f g a p × (p.ops ≡ kinds t.tops n)

pub call_suits : (i : Parts) (t : Table) (f to g n : ℕ) (ps : Passed) (seen : Calls) → CallsWith i t f to g n → IsPassed i (with_calls seen f to) (table_marks t) ps → SuitedBy i ps g (kinds t.tops n)
call_suits i t f to g n ps seen C P = subst (λ ops. SuitedBy i ps g ops) C.4 (P.suits f g C.0 C.1 (calls_new seen f to f C.0 refl C.2) C.3)

-- it does so with each of these, by their numbers
abbrev pub CallsEach : Parts → Table → (f to : ℕ) → BTreeSet ℕ → Type 0
CallsEach i t f to ks = (k : ℕ) → contains nat_cmp ks k ≡ true → CallsWith i t f to (number_callee k) (number_stack k)

-- a number is one of the earlier ones, or the new one
one_of_calls : (old new : BTreeSet ℕ) (x k : ℕ) → Updates nat_cmp old new x true → contains nat_cmp new k ≡ true → (contains nat_cmp old k ≡ true) ⊎ (k ≡ x)
one_of_calls old new x k U m = ⊎_elim
    (λ q. inr (sym q.1))
    (λ q. inl (sym (ap (λ b. cond b true (contains nat_cmp old k)) (unsigned_tied x k ∙ q.0)) ∙ sym (U.0 k) ∙ m))
    (eqb_tells x k)

number_parts : (g n : ℕ) → n < 4294967296 → (number_callee (call_number g n) ≡ g) × (number_stack (call_number g n) ≡ n)
number_parts g n l = (omega (arith, l), omega (arith, l))

pub calls_on : (i : Parts) (t : Table) (f to : ℕ) (ks : BTreeSet ℕ) → CallsEach i t f to ks → CallsEach i t f (to + 1) ks
calls_on i t f to ks E k m = let C = E k m in (C.0, C.1, (let l = C.2 in omega (arith, l)), C.3, C.4)

pub calls_one : (i : Parts) (t : Table) (f to g n : ℕ) (ks : BTreeSet ℕ) → CallsEach i t f to ks → n < 4294967296 → contains nat_cmp ks (call_number g n) ≡ true → CallsWith i t f to g n
calls_one i t f to g n ks E l m =
    let e = number_parts g n l in
    subst (λ b. CallsWith i t f to b n) e.0 (subst (λ b. CallsWith i t f to (number_callee (call_number g n)) b) e.1 (E (call_number g n) m))

pub calls_more : (i : Parts) (t : Table) (f a g : ℕ) (x : Placed) (n : ℕ × ℕ) (ks new : BTreeSet ℕ) → code_at i f a ≡ Some x → x.instr ≡ Call g → slice_get t.cells.items a ≡ Some (Some n)
    → n.0 < 4294967296 → CallsEach i t f a ks → Updates nat_cmp ks new (call_number g n.0) true → CallsEach i t f (a + 1) new
calls_more i t f a g x n ks new c e s l E U k m =
    let q = number_parts g n.0 l in
    let here : CallsWith i t f (a + 1) g n.0 = (a, pair_of t.tops t.regions n, omega arith, cell_call i t f g a x n c e s, refl) in
    let there : CallsWith i t f (a + 1) (number_callee (call_number g n.0)) (number_stack (call_number g n.0)) =
    subst (λ b. CallsWith i t f (a + 1) (number_callee (call_number g n.0)) b) (sym q.1) (subst (λ b. CallsWith i t f (a + 1) b n.0) (sym q.0) here) in
    ⊎_elim
    (λ o. calls_on i t f a ks E k o)
    (λ o. subst (λ b. CallsWith i t f (a + 1) (number_callee b) (number_stack b)) (sym o) there)
    (one_of_calls ks new (call_number g n.0) k U m)

-- an address that wasn't looked at has no call, nor has another instruction
pub no_call_blank : (i : Parts) (t : Table) (f a : ℕ) → slice_get t.cells.items a ≡ Some None → (g : ℕ) (p : Pair) → SeenCall i (table_marks t) f g a p → ⊥
no_call_blank i t f a e g p s = let z : Some p ≡ None = sym s.pair ∙ cell_blank t a e in absurd (cc)

pub no_call_other : (i : Parts) (tab : Marks) (f a : ℕ) (x : Placed) → code_at i f a ≡ Some x → ((g : ℕ) → x.instr ≡ Call g → ⊥) → (g : ℕ) (p : Pair) → SeenCall i tab f g a p → ⊥
no_call_other i tab f a x c none g p s = let z : Some x ≡ Some s.placed = sym c ∙ s.found in let q : x ≡ s.placed = (cc) in none g (ap (λ (y : Placed). y.instr) q ∙ s.calls)

-- only what is called is changed
pub call_kept : (i : Parts) → laid_out i ≡ true → (f a g : ℕ) (x : Placed) (params : ℕ) (ops : List Kind) (old new : Passed) → code_at i f a ≡ Some x → x.instr ≡ Call g → Joins params old g ops new
    → (k : ℕ) → linked (calls_of i) f k ≡ false → slice_get new k ≡ slice_get old k
call_kept i l f a g x params ops old new c e J k n = ap (λ p. slice_get p k) J.is ∙ put_other old g k (Some J.codes)
    (λ q. let z : true ≡ false = sym (call_linked i l f a g x c e) ∙ ap (linked (calls_of i) f) (sym q) ∙ n in absurd (cc))

-- whether a call was seen
pub was_by : (ps : Kept) (k : ℕ) (o : Option (Vec ℕ Global)) → slice_get ps k ≡ Some o → was_passed (slice_get (passed_seen ps) k) ≡ was_passed (Some (option_map (λ (v : Vec ℕ Global). v.items) o))
was_by ps k None e = ap was_passed (seen_none ps k e)
was_by ps k (Some v) e = ap was_passed (seen_some ps k v e)

-- nothing was looked at
pub blank_at : (ks rs : Nodes) (n a : ℕ) → pair_in ks rs (slice_get (replicate n None) a) ≡ None
blank_at ks rs zero a = refl
blank_at ks rs (suc n) zero = refl
blank_at ks rs (suc n) (suc a) = blank_at ks rs n a
