-- What passes the tests is timely.
use Rattle.std.proofs.Common.{◌≡◌, ℕ, inl, inr, Bool, true, false, true≢false, List, [], ◌∷◌, Some, refl, sym, ap, ◌∙◌, subst, ◌==◌, cond}
use Rattle.std.specs.Prelude.{ℤ}
use Rattle.std.specs.List.{list_all}
use Rattle.std.specs.Cmp.Derive.{both_true}
use Rattle.std.proofs.lemmas.Bool.{eqb-true, and_parts, eq-eqb}
use Rattle.std.proofs.lemmas.Bool.Decides.{Decides-int_eq}
use Rattle.oc_tree.specs.Tree.{TProgram}
use Rattle.oc_tree.specs.Members.{IsOf}
use Rattle.oc_tree.specs.declared.said.Said.{Said}
use Rattle.oc_tree.specs.declared.said.Said.TheVariants.{Sensed, Showed, Entered, Committed, Aborted, Off, Dark, Ended}
use Rattle.oc_tree.specs.declared.said.Shown.TheVariants.{Emitted, Used, Finished, Tagged}
use Rattle.oc_meaning.specs.Store.{Event}
use Rattle.oc_laws.proofs.Members.{of_any}
use Rattle.oc_honest.specs.Timely.{IsInput, IsUse, AreTogether, set_of}
use Rattle.oc_honest.specs.Deciding.{input_of, uses, tag_of, holds, feeds, same_set, tags_one_set, together, use_is_fresh, inputs_meet, TestsTell}

each : {A : Type 0} (f : A → Bool) (xs : List A) (x : A) → list_all f xs ≡ true → IsOf x xs → f x ≡ true
each f [] x h o = elim o [ ]
each f (y ∷ ys) x h (inl e) = ap f e ∙ (and_parts (f y) (list_all f ys) h).0
each f (y ∷ ys) x h (inr o) = each f ys x (and_parts (f y) (list_all f ys) h).1 o

fed : (j : ℕ) (a u : Event) → IsInput j a → IsOf j u.samples → feeds a u ≡ true
fed j a u i o = subst (λ (s : Said). holds (input_of s a.samples) u.samples ≡ true) (sym i.2) (subst (λ js. holds (input_of (Sensed i.0 i.1) js) u.samples ≡ true) (sym i.3) (of_any (λ k. k == j) j u.samples o (eq-eqb j j refl)))

used : (s : Said) → IsUse s → uses s ≡ true
used (Showed (Used n)) h = refl
used (Showed (Finished n)) h = refl
used (Showed (Emitted port value)) h = elim h [ ]
used (Showed (Tagged n)) h = elim h [ ]
used (Sensed sensor value) h = elim h [ ]
used (Entered r) h = elim h [ ]
used (Committed r) h = elim h [ ]
used (Aborted r) h = elim h [ ]
used (Off ticks) h = elim h [ ]
used Dark h = elim h [ ]
used (Ended how) h = elim h [ ]

-- a condition that holds makes its numbers equal
equal_where : (b : Bool) (m n : ℕ) → b ≡ true → cond b (m == n) true ≡ true → m ≡ n
equal_where true m n h e = eqb-true m n e
equal_where false m n h e = absurd (true≢false (sym h))

one_set : (s : ℕ × ℤ) → same_set (Some s) (Some s) ≡ true
one_set s = both_true (eq-eqb s.0 s.0 refl) ((Decides-int_eq s.1 s.1).1 refl)

stand_together : (p : TProgram) (t u : Event) → AreTogether p t u → together p t u ≡ true
stand_together p t u h =
    let sets : tags_one_set p (Some h.one) (Some h.other) ≡ true =
    subst (λ s. same_set s (set_of p h.other) ≡ true) (sym h.first_set) (subst (λ s. same_set (Some h.set) s ≡ true) (sym h.second_set) (one_set h.set)) in
    let tags : tags_one_set p (tag_of t.said) (tag_of u.said) ≡ true =
    subst (λ (s : Said). tags_one_set p (tag_of s) (tag_of u.said) ≡ true) (sym h.first) (subst (λ (s : Said). tags_one_set p (Some h.one) (tag_of s) ≡ true) (sym h.second) sets) in
    both_true tags (subst (λ i. (t.instance == i) ≡ true) h.instance (eq-eqb t.instance t.instance refl))

pub tests_tell : TestsTell
tests_tell p all h = record {
  fresh = λ a u j ina inu i it o.
      let passes = each (λ v. use_is_fresh a v) all u (each (λ b. list_all (λ v. use_is_fresh b v) all) all a (and_parts (list_all (λ b. list_all (λ v. use_is_fresh b v) all) all) _ h).0 ina) inu in
      equal_where _ a.offs u.offs (both_true (fed j a.event u.event i o) (used u.event.said it)) passes;
  consistent = λ a b t u j k ina inb int inu i l tags o q.
      let at_a = each _ all a (and_parts (list_all (λ b. list_all (λ v. use_is_fresh b v) all) all) _ h).1 ina in
      let at_b = each _ all b at_a inb in
      let at_t = each _ all t at_b int in
      let passes = each (λ v. inputs_meet p a b t v) all u at_t inu in
      equal_where _ a.offs b.offs (both_true (fed j a.event t.event i o) (both_true (fed k b.event u.event l q) (stand_together p t.event u.event tags))) passes;
}
