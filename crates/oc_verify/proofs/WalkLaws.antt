-- Where a walk begins, and that it comes to an end.
use Rattle.std.proofs.Common.{◌≡◌, true, nat_lt, get_or, Err, ℕ, zero, suc, ◌+◌, ◌*◌, ◌<◌, ◌≤◌, List, [], ◌∷◌, ◌++◌, length, map, reverse, cond, Option, Some, None, refl, sym, ap, ◌∙◌, subst, arith}
use Rattle.std.proofs.lemmas.Bool.{and_parts}
use Rattle.std.specs.Prelude.{slice_get, slice_set}
use Rattle.std.proofs.lemmas.List.{length-append, length-map, length-reverse}
use Rattle.std.proofs.lemmas.List.Elements.{All-nil, All-cons}
use Rattle.std.proofs.lemmas.List.Sums.{sum_by-cons}
use Rattle.std.proofs.lemmas.Option.{slice_get_read, slice_get_within}
use Rattle.oc_isa.specs.declared.image.ImageFunction.{ImageFunction}
use Rattle.oc_isa.specs.declared.instr.Placed.{Placed}
use Rattle.oc_isa.specs.declared.instr.Instr.{Instr}
use Rattle.oc_isa.specs.declared.instr.Instr.TheVariants.{Push, Load, Store, Nload, Nstore, Addr, Naddr, Get, Put, Index, Bin, Un, Jump, Jfalse, Call, Ret, Retv, Drop, Sense, Emit}
use Rattle.oc_isa.specs.declared.instr.Instr.TheVariants.{Probe, Enter, Commit, Halt}
use Rattle.oc_isa.specs.Image.{Parts}
use Rattle.oc_verify.specs.declared.kind.Kind.{Kind}
use Rattle.oc_verify.specs.Typing.{Pair, pair}
use Rattle.oc_verify.specs.Rules.{Judged, code_at, judge, own_slots, successors}
use Rattle.oc_verify.specs.Stacks.{Grows, Nodes, stack_to, stack}
use Rattle.oc_verify.specs.Told.{AreIn, IsJudgment, kinds}
use Rattle.oc_verify.specs.Work.{todo_at, Marks, IsWork}
use Rattle.oc_verify.specs.Tables.{Cells, pair_in, marks, own_by, own_marks, AreCells, IsWalk, KeepsOthers, is_blank, blanks}
use Rattle.oc_verify.specs.Facts.{IsLaid, IsStretch}
use Rattle.oc_verify.specs.Blames.{BlamesIn, fault_at}
use Rattle.oc_verify.specs.declared.fault.Fault.{Fault}
use Rattle.oc_verify.specs.declared.fault.Fault.TheVariants as faults
use Rattle.oc_verify.proofs.FactLaws.{inside_code}
use Rattle.oc_verify.proofs.TableLaws.{all_last, blame_step, same_marks, set_other}
use Rattle.oc_verify.proofs.Owners.{stands}
use Rattle.oc_verify.proofs.Working.{begun}

-- one blank less

abbrev one : Option (ℕ × ℕ) → ℕ
one c = cond {A = ℕ} (is_blank c) 1 0

blanks_cons : (c : Option (ℕ × ℕ)) (cs : Cells) → blanks (c ∷ cs) ≡ one c + blanks cs
blanks_cons c cs = sum_by-cons (λ x. cond {A = ℕ} (is_blank x) 1 0) c cs

pub blank_less : (cs : Cells) (a : ℕ) (n : ℕ × ℕ) → slice_get cs a ≡ Some None → blanks (slice_set cs a (Some n)) + 1 ≡ blanks cs
blank_less [] a n e = absurd (cc)
blank_less (None ∷ cs) zero n e =
    let x : blanks (Some n ∷ cs) ≡ one (Some n) + blanks cs = blanks_cons (Some n) cs in
    let y : blanks (None ∷ cs) ≡ one None + blanks cs = blanks_cons None cs in
    let u : one (Some n) ≡ 0 = refl in
    let v : one None ≡ 1 = refl in
    omega (arith, x, y, u, v)
blank_less (Some m ∷ cs) zero n e = absurd (cc)
blank_less (c ∷ cs) (suc a) n e =
    let x : blanks (c ∷ slice_set cs a (Some n)) ≡ one c + blanks (slice_set cs a (Some n)) = blanks_cons c (slice_set cs a (Some n)) in
    let y : blanks (c ∷ cs) ≡ one c + blanks cs = blanks_cons c cs in
    let h = blank_less cs a n e in
    omega (arith, x, y, h)

-- at most two addresses follow

few : (x : Instr) (a : ℕ) → length (successors x a) ≤ 2
few (Push c) a = omega arith
few (Load s) a = omega arith
few (Store s) a = omega arith
few (Nload n) a = omega arith
few (Nstore n) a = omega arith
few (Addr s) a = omega arith
few (Naddr n) a = omega arith
few Get a = omega arith
few Put a = omega arith
few (Index n) a = omega arith
few (Bin op) a = omega arith
few (Un op) a = omega arith
few (Jump t) a = omega arith
few (Jfalse t) a = omega arith
few (Call f) a = omega arith
few (Ret k) a = omega arith
few (Retv k) a = omega arith
few Drop a = omega arith
few (Sense s) a = omega arith
few (Emit p) a = omega arith
few (Probe kind n) a = omega arith
few (Enter r) a = omega arith
few (Commit r) a = omega arith
few Halt a = omega arith

-- looking at an address takes away more than it adds
pub looked_less : (cs : Cells) (a : ℕ) (n after : ℕ × ℕ) (x : Instr) (todo : List (ℕ × (ℕ × ℕ))) → slice_get cs a ≡ Some None
    → 2 * blanks (slice_set cs a (Some n)) + length (todo ++ reverse (map (λ b. (b, after)) (successors x a))) ≤ 2 * blanks cs + length todo
looked_less cs a n after x todo e =
    let steps : List (ℕ × (ℕ × ℕ)) = map (λ b. (b, after)) (successors x a) in
    let b = blank_less cs a n e in
    let l : length (todo ++ reverse steps) ≡ length todo + length (reverse steps) = length-append todo (reverse steps) in
    let r : length (reverse steps) ≡ length steps = length-reverse steps in
    let m : length steps ≡ length (successors x a) = length-map (successors x a) (λ b. (b, after)) in
    let f = few x a in
    omega (arith, b, l, r, m, f)

-- nothing was looked at in the code of f
pub walk_begins : (i : Parts) (f : ℕ) (kinds' : List Kind) (ks rs : Nodes) (cs : Cells) (g : ImageFunction) (e : ℕ) → slice_get i.functions f ≡ Some g → e ≡ g.entry
    → length cs ≡ length i.code → AreCells ks rs cs → ((a : ℕ) (x : Placed) → code_at i f a ≡ Some x → marks ks rs cs a ≡ None) → IsWalk i f kinds' ks rs cs ((e, (0, 0)) ∷ [])
unfolding stack_to
walk_begins i f kinds' ks rs cs g e is at' sized cells blank = record {
  work = subst (λ n. IsWork i f kinds' (own_marks i f (marks ks rs cs)) (todo_at (pair [] []) n ∷ [])) (sym at')
      (subst (λ t. IsWork i f kinds' t (todo_at (pair [] []) g.entry ∷ [])) all_none (begun i f kinds' g is));
  sized = sized;
  cells = cells;
  todo = All-cons (λ (s : ℕ × (ℕ × ℕ)). AreIn ks rs s.1) (e, (0, 0)) [] (omega arith, omega arith) (All-nil (λ (s : ℕ × (ℕ × ℕ)). AreIn ks rs s.1));
}
  where
    by : (a : ℕ) (o : Option Placed) → code_at i f a ≡ o → None ≡ own_by o (marks ks rs cs a)
    by a None q = refl
    by a (Some x) q = sym (blank a x q)

    none : (a : ℕ) → None ≡ own_marks i f (marks ks rs cs) a
    none a = by a (code_at i f a) refl

    all_none : ◌≡◌ {A = Marks} (λ a. None) (own_marks i f (marks ks rs cs))
    all_none = (λ j a. none a j)

pub some_at : (xs : List Placed) (n : ℕ) → n < length xs → (x : Placed) × (slice_get xs n ≡ Some x)
some_at [] n h = absurd (omega (arith, h))
some_at (x ∷ xs) zero h = (x, refl)
some_at (x ∷ xs) (suc n) h = some_at xs n (omega (arith, h))

-- an address between a function's entry and its end is in its code
pub stands_at : (i : Parts) (f a : ℕ) (s : ℕ × ℕ) → IsStretch i f s → s.0 ≤ a → a < s.1 → (x : Placed) × (code_at i f a ≡ Some x)
stands_at i f a s h l u =
    let m = h.4 in
    let t = some_at i.code a (omega (arith, m, u)) in
    (t.0, inside_code i f a s t.0 h l u t.1)

-- the pair that is looked at next
pub next_in : (i : Parts) (f : ℕ) (kinds' : List Kind) (ks rs : Nodes) (cs : Cells) (todo : List (ℕ × (ℕ × ℕ))) (a : ℕ) (n : ℕ × ℕ) → IsWalk i f kinds' ks rs cs (todo ++ (a, n) ∷ []) → AreIn ks rs n
next_in i f kinds' ks rs cs todo a n w = all_last (λ e. AreIn ks rs e.1) todo (a, n) w.todo

-- what was read of the code is what stands there
pub read_there : (j i : Parts) → j ≡ i → (f a : ℕ) (x p : Placed) → code_at i f a ≡ Some x → p ≡ get_or j.code a p → p ≡ x
read_there j i q f a x p e r =
    let s = stands i f a x e in
    let l = slice_get_within i.code a x s.found in
    let g = slice_get_read i.code (length i.code) a p refl l (r ∙ ap (λ k. get_or k.code a p) q) in
    let z : Some p ≡ Some x = sym g ∙ s.found in
    (cc)

pub address_small : (i : Parts) → IsLaid i → (f a : ℕ) (x : Placed) → code_at i f a ≡ Some x → a < 2147483648
address_small i L f a x e =
    let s = stands i f a x e in
    let l = slice_get_within i.code a x s.found in
    let n : nat_lt (length i.code) 2147483648 ≡ true = (and_parts (nat_lt (length i.code) 2147483648) _ L.laid).0 in
    let m : length i.code < 2147483648 = grind (arith, n) in
    omega (arith, l, m)

-- a cell of the table that was read
pub cell_read : (cs : Cells) (i : Parts) (f a : ℕ) (s : ℕ × ℕ) → length cs ≡ length i.code → IsStretch i f s → a < s.1 → (o : Option (ℕ × ℕ)) → o ≡ get_or cs a o → slice_get cs a ≡ Some o
cell_read cs i f a s z S u o e = let m = S.4 in slice_get_read cs (length cs) a o refl (omega (arith, z, m, u)) e

-- what was judged, seen otherwise
pub judged_here : (i i' : Parts) (ss ss' : List (Option Kind)) (x y : Placed) (ks : List Kind) (rs : List ℕ) (r : Judged Pair) → i ≡ i' → ss ≡ ss' → x ≡ y
    → judge i ss x.instr ks rs ≡ r → judge i' ss' y.instr ks rs ≡ r
judged_here i i' ss ss' x y ks rs r p q e h = (λ j. judge (sym p j) (sym q j) ((sym e j).instr) ks rs) ∙ h

-- nothing else was looked at
pub looked_others : (i : Parts) (f : ℕ) (ks ks' rs rs' : Nodes) (cs : Cells) (a : ℕ) (n : ℕ × ℕ) (x : Placed) → code_at i f a ≡ Some x → Grows ks ks' → Grows rs rs' → AreCells ks rs cs
    → KeepsOthers i f (marks ks rs cs) (marks ks' rs' (slice_set cs a (Some n)))
looked_others i f ks ks' rs rs' cs a n x e g h c b z =
    ap (pair_in ks' rs') (set_other cs a b (Some n) (λ q. let y : None ≡ Some x = sym z ∙ ap (code_at i f) q ∙ e in (cc))) ∙ same_marks ks ks' rs rs' g h cs c b

-- a fault of the judgement blames a rule that is broken
pub blame_fault : (i : Parts) (f : ℕ) (kinds' : List Kind) (ks rs : Nodes) (cs : Cells) (todo : List (ℕ × (ℕ × ℕ))) (a : ℕ) (n : ℕ × ℕ) (w : IsWalk i f kinds' ks rs cs (todo ++ (a, n) ∷ []))
    (x : Placed) → code_at i f a ≡ Some x → (view : ℕ × ℕ → Pair) (e : Fault) (j : Judged Pair) → IsJudgment view (Err e) j → judge i (own_slots i f kinds') x.instr (kinds ks n.0) (stack rs n.1) ≡ j
    → BlamesIn i f kinds' (fault_at a e)
blame_fault i f kinds' ks rs cs todo a n w x found view (faults.Broken rule) j t e = blame_step i f kinds' ks rs cs todo a n w x rule found (e ∙ t)
blame_fault i f kinds' ks rs cs todo a n w x found view faults.Memory j t e = λ k q R c. tt
