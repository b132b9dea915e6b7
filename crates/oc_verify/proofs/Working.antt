-- The walk through one function's code finds what is reached, or a rule that is broken.
use Rattle.std.proofs.Common.{◌≡◌, ℕ, zero, suc, ◌+◌, ◌<◌, ◌≢◌, List, [], ◌∷◌, ◌++◌, length, map, Some, None, Ok, Err, refl, sym, ap, ◌∙◌, subst, ⊎_elim, inl, inr, arith, Bool, true, false, nat_eq}
use Rattle.std.specs.Prelude.{◌⊎◌, slice_get, ◌||◌}
use Rattle.std.specs.List.{list_any}
use Rattle.std.proofs.lemmas.Bool.Decides.{eqb_tells}
use Rattle.oc_isa.specs.declared.image.ImageFunction.{ImageFunction}
use Rattle.oc_isa.specs.declared.instr.Placed.{Placed}
use Rattle.oc_isa.specs.Image.{Parts}
use Rattle.oc_verify.specs.declared.kind.Kind.{Kind}
use Rattle.oc_verify.specs.Typing.{Pair, pair}
use Rattle.oc_verify.specs.Rules.{Judged, judge, own_slots, successors, code_at, Reach, ReachIn, Kinds, AreRight, IsCalled, Broken, leaves, step, differ, tall}
use Rattle.oc_verify.specs.Verified.{frame_at}
use Rattle.oc_verify.specs.Work.{Todo, todo_at, Among, Marks, mark, Done, Looked, IsWork}

among_more : (e : Todo) (new old : List Todo) → Among e old → Among e (new ++ old)
among_more e [] old h = h
among_more e (f ∷ new) old h = inr (among_more e new old h)

among_new : (e : Todo) (new old : List Todo) → Among e new → Among e (new ++ old)
among_new e [] old h = absurd h
among_new e (f ∷ new) old (inl h) = inl h
among_new e (f ∷ new) old (inr h) = inr (among_new e new old h)

among_parts : (e : Todo) (new old : List Todo) → Among e (new ++ old) → Among e new ⊎ Among e old
among_parts e [] old h = inr h
among_parts e (f ∷ new) old (inl h) = inl (inl h)
among_parts e (f ∷ new) old (inr h) = ⊎_elim (λ a. inl (inr a)) (λ a. inr a) (among_parts e new old h)

-- the addresses that an instruction goes on to, with the pair behind it
among_map : (p : Pair) (bs : List ℕ) (b : ℕ) → list_any (nat_eq b) bs ≡ true → Among (todo_at p b) (map (todo_at p) bs)
among_map p [] b e = absurd (cc)
among_map p (c ∷ bs) b e = by (nat_eq b c) refl e (λ h. among_map p bs b h)
  where
    by : (x : Bool) → nat_eq b c ≡ x → x || list_any (nat_eq b) bs ≡ true → (list_any (nat_eq b) bs ≡ true → Among (todo_at p b) (map (todo_at p) bs)) → Among (todo_at p b) (map (todo_at p) (c ∷ bs))
    by true h e ih = let q : b ≡ c = grind (arith, h) in inl (ap (todo_at p) q)
    by false h e ih = inr (ih e)

map_among : (p : Pair) (bs : List ℕ) (e : Todo) → Among e (map (todo_at p) bs) → (list_any (nat_eq e.at) bs ≡ true) × (e.kinds ≡ p)
map_among p [] e h = absurd h
map_among p (c ∷ bs) e (inl h) = (let n : nat_eq e.at c ≡ true = (let q : e.at ≡ c = ap (λ x. x.at) h in grind (arith, q)) in ap (λ b. b || list_any (nat_eq e.at) bs) n, ap (λ x. x.kinds) h)
map_among p (c ∷ bs) e (inr h) = let r = map_among p bs e h in (or_second (nat_eq e.at c) (list_any (nat_eq e.at) bs) r.0, r.1)
  where
    or_second : (b c : Bool) → c ≡ true → b || c ≡ true
    or_second true c e = refl
    or_second false c e = e

module _ (i : Parts) (f : ℕ) (ks : List Kind) where
  abbrev W : Marks → List Todo → Type 0
  W = IsWork i f ks

  more_looked : (ta tb : Marks) (sa sb : List Todo) → ((a : ℕ) (p : Pair) → Done ta sa a p → Done tb sb a p) → (a : ℕ) (p : Pair) → Looked i f ks ta sa a p → Looked i f ks tb sb a p
  more_looked ta tb sa sb h a p s = record { placed = s.placed; found = s.found; after = s.after; right = s.right; goes = λ b q. h b s.after (s.goes b q) }

  pub begun : (g : ImageFunction) → slice_get i.functions f ≡ Some g → W (λ a. None) (todo_at (pair [] []) g.entry ∷ [])
  begun g is = record {
    start = λ h e. (let z : Some g ≡ Some h = sym is ∙ e in let q : g ≡ h = (cc) in inr (inl (ap (λ x. todo_at (pair [] []) x.entry) (sym q))));
    each = λ a p q. absurd (cc);
    marks = λ a p q. absurd (cc);
    owes = λ e q. ⊎_elim (λ r. (0, (g, is, ap (λ x. x.at) r, ap (λ x. x.kinds) r))) (λ r. absurd r) q;
  }

  -- an address that was looked at with this pair
  pub again : (tab : Marks) (e : Todo) (todo : List Todo) → tab e.at ≡ Some e.kinds → W tab (e ∷ todo) → W tab todo
  again tab e todo s w =
      let keep : (a : ℕ) (p : Pair) → Done tab (e ∷ todo) a p → Done tab todo a p =
      λ a p d. ⊎_elim (λ l. inl l) (λ r. ⊎_elim (λ q. inl (ap (λ x. tab x.at) q ∙ s ∙ ap (λ x. Some x.kinds) (sym q))) (λ q. inr q) r) d in
      record { start = λ g q. keep _ _ (w.start g q); each = λ a p q. more_looked tab tab (e ∷ todo) todo keep a p (w.each a p q); marks = w.marks; owes = λ x q. w.owes x (inr q) }

  mark_other : (tab : Marks) (a b : ℕ) (p q : Pair) → tab a ≡ None → tab b ≡ Some q → mark tab a p b ≡ Some q
  mark_other tab a b p q n h = ⊎_elim (λ e. let z : Some q ≡ None = sym h ∙ ap tab e.1 ∙ n in absurd (cc)) (λ e. grind (arith, e.1, h)) (eqb_tells b a)

  mark_same : (tab : Marks) (a : ℕ) (p : Pair) → mark tab a p a ≡ Some p
  mark_same tab a p = grind arith

  pub looks : (tab : Marks) (e : Todo) (todo : List Todo) (x : Placed) (q : Pair) → tab e.at ≡ None → code_at i f e.at ≡ Some x → judge i (own_slots i f ks) x.instr e.kinds.ops e.kinds.opens ≡ Ok q
      → W tab (e ∷ todo) → W (mark tab e.at e.kinds) (map (todo_at q) (successors x.instr e.at) ++ todo)
  looks tab e todo x q n found right w =
      let new : List Todo = map (todo_at q) (successors x.instr e.at) in
      let tab' : Marks = mark tab e.at e.kinds in
      let keep : (a : ℕ) (p : Pair) → Done tab (e ∷ todo) a p → Done tab' (new ++ todo) a p
      = λ a p d. ⊎_elim (λ l. inl (mark_other tab e.at a e.kinds p n l))
      (λ r. ⊎_elim (λ z. inl (ap (λ y. tab' y.at) z ∙ mark_same tab e.at e.kinds ∙ ap (λ y. Some y.kinds) (sym z))) (λ z. inr (among_more _ new todo z)) r) d in
      let fresh : Looked i f ks tab' (new ++ todo) e.at e.kinds =
      record { placed = x; found = found; after = q; right = right; goes = λ b l. inr (among_new _ new todo (among_map q (successors x.instr e.at) b l)) } in
      let here : Reach i f ks e.at e.kinds = w.owes e (inl refl) in
      record {
        start = λ g z. keep _ _ (w.start g z);
        each = λ a p z. ⊎_elim
            (λ y. let s : Some e.kinds ≡ Some p = sym (mark_same tab e.at e.kinds) ∙ ap tab' (sym y.1) ∙ z in
            let s' : e.kinds ≡ p = (cc) in
            subst (λ b. Looked i f ks tab' (new ++ todo) b p) (sym y.1) (subst (Looked i f ks tab' (new ++ todo) e.at) s' fresh))
            (λ y. let s : tab a ≡ Some p = grind (arith, y.1, z) in more_looked tab tab' (e ∷ todo) (new ++ todo) keep a p (w.each a p s))
            (eqb_tells a e.at);
        marks = λ a p z. ⊎_elim
            (λ y. let s : Some e.kinds ≡ Some p = sym (mark_same tab e.at e.kinds) ∙ ap tab' (sym y.1) ∙ z in
            let s' : e.kinds ≡ p = (cc) in
            subst (λ b. Reach i f ks b p) (sym y.1) (subst (Reach i f ks e.at) s' here))
            (λ y. let s : tab a ≡ Some p = grind (arith, y.1, z) in w.marks a p s)
            (eqb_tells a e.at);
        owes = λ d z. ⊎_elim
            (λ y. let r = map_among q (successors x.instr e.at) d y in
            (suc here.0, (e.at, e.kinds, here.1, record { placed = x; found = found; right = right ∙ ap Ok (sym r.1); leads = r.0 })))
            (λ y. w.owes d (inr y))
            (among_parts d new todo z);
      }

  -- with nothing left, all that is reached stands in the table
  pub ends : (tab : Marks) → W tab [] → (n a : ℕ) (p : Pair) → ReachIn i f (own_slots i f ks) n a p → tab a ≡ Some p
  ends tab w zero a p r = ⊎_elim (λ h. ap tab r.2 ∙ h ∙ ap Some (sym r.3)) (λ h. absurd h) (w.start r.0 r.1)
  ends tab w (suc n) b q r =
      let h = ends tab w n r.0 r.1 r.2 in
      let s = w.each r.0 r.1 h in
      let o = r.3 in
      let z : Some s.placed ≡ Some o.placed = sym s.found ∙ o.found in
      let x : s.placed ≡ o.placed = (cc) in
      let y : ◌≡◌ {A = Judged Pair} (Ok s.after) (Ok q) = sym s.right ∙ ap (λ c. judge i (own_slots i f ks) c.instr r.1.ops r.1.opens) x ∙ o.right in
      let u : s.after ≡ q = (cc) in
      ⊎_elim (λ l. l ∙ ap Some u) (λ l. absurd l) (s.goes b (ap (λ c. list_any (nat_eq b) (successors c.instr r.0)) x ∙ o.leads))

-- a fault blames a rule that is broken
module _ (i : Parts) (t : Kinds) (f : ℕ) (R : AreRight i t f) (c : IsCalled i t f) where
  pub blames_place : (tab : Marks) (e : Todo) (todo : List Todo) → code_at i f e.at ≡ None → IsWork i f (t f) tab (e ∷ todo) → Broken i e.at 2
  blames_place tab e todo n w = leaves t f e.at e.kinds R c (w.owes e (inl refl)) n

  pub blames_step : (tab : Marks) (e : Todo) (todo : List Todo) (x : Placed) (rule : ℕ) → code_at i f e.at ≡ Some x
      → judge i (own_slots i f (t f)) x.instr e.kinds.ops e.kinds.opens ≡ Err rule → IsWork i f (t f) tab (e ∷ todo) → Broken i e.at rule
  blames_step tab e todo x rule found wrong w = step t f e.at e.kinds x rule R c (w.owes e (inl refl)) found wrong

  pub blames_crowd : (tab : Marks) (e : Todo) (todo : List Todo) → i.stack < length e.kinds.ops → IsWork i f (t f) tab (e ∷ todo) → Broken i 0 11
  blames_crowd tab e todo l w =
      let s : ℕ = frame_at i f + length e.kinds.ops in
      tall t f s R c (e.at, e.kinds, w.owes e (inl refl), refl) (omega (arith, l))

  pub blames_pair : (tab : Marks) (e : Todo) (todo : List Todo) (p : Pair) → tab e.at ≡ Some p → p ≢ e.kinds → IsWork i f (t f) tab (e ∷ todo) → Broken i e.at 10
  blames_pair tab e todo p s n w = differ t f e.at p e.kinds R c (w.marks e.at p s) (w.owes e (inl refl)) n
