-- The answer to an `abort`.
use Rattle.std.proofs.Common.{◌≡◌, ℕ, ℤ, Bool, true, false, List, [], ◌∷◌, ◌++◌, map, Option, Some, None, refl, sym, ap, ◌∙◌, subst, inl, inr, eqb-true, eq-eqb, append_assoc}
use Rattle.std.specs.Prelude.{◌≢◌, ◌==◌, if◌then◌else◌}
use Rattle.oc_tree.specs.Tree.{TProgram}
use Rattle.oc_tree.specs.Marked.{TRegion}
use Rattle.oc_tree.specs.Said.{Told}
use Rattle.oc_tree.specs.declared.said.Ending.{Ending}
use Rattle.oc_tree.specs.declared.said.Said.{Said}
use Rattle.oc_tree.specs.declared.said.Said.TheVariants.{Entered, Committed, Aborted, Ended}
use Rattle.oc_meaning.specs.Run.{marked_run, source_run, said_in}
use Rattle.oc_items.specs.Erase.{erase, marked, kept_samples, without_offs, HasNoOffInside}
use Rattle.oc_steps.specs.Erasing.{item, newer, last_mark, AreUnmarked, IsUnmarked}
use Rattle.oc_items.specs.Reports.{IsPrefixOf}
use Rattle.oc_items.specs.Reports.{EndsWith}
use Rattle.oc_items.proofs.Parting.{without_offs-append}
use Rattle.oc_honest.specs.Honest.{IsHonestSoFar}
use Rattle.oc_tree.specs.Members.{IsOf}
use Rattle.oc_honest.specs.Timely.{AreTimely, lived_from}
use Rattle.oc_steps.specs.Fold.{Way, aborted}
use Rattle.oc_steps.specs.Watching.{samples_in, IsWay, IsSaved, IsAnswer, AllHonest, AbortsRight}
use Rattle.oc_meaning.specs.Parts.{AreParts, MayBe}
use Rattle.oc_meaning.proofs.Parts.{says_parts}
use Rattle.oc_meaning.specs.Store.{Event}
use Rattle.oc_steps.proofs.Adding.{last_mark-more, ends_so}
use Rattle.oc_steps.proofs.Erasing.{erases}

stays_last : (m : Option Said) (body : List Told) → AreUnmarked body → last_mark m body ≡ m
stays_last m [] u = refl
stays_last m (i ∷ is) u = by i.said u.0 ∙ stays_last m is u.1
  where
    by : (s : Said) → IsUnmarked s → last_mark (newer s m) is ≡ last_mark m is
    by (Entered a) h = absurd h
    by (Committed a) h = absurd h
    by (Aborted a) h = absurd h
    by said h = refl

last_of : (m : Option Said) (front body : List Told) (t k : ℕ) → AreUnmarked body → last_mark m (front ++ item t (Entered k) ∷ body) ≡ Some (Entered k)
last_of m [] body t k u = stays_last (Some (Entered k)) body u
last_of m (i ∷ front) body t k u = last_of (newer i.said m) front body t k u

stands_last : {X : Type 0} (xs rest : List X) (x : X) → IsOf x ((xs ++ x ∷ []) ++ rest)
stands_last [] rest x = inl refl
stands_last (y ∷ xs) rest x = inr (stands_last xs rest x)

-- all but the end of a report goes by its erased items
same_so_far : (p : TProgram) (regions : List TRegion) (nv : Option (List ℤ)) (a b : List Told) → erase b ≡ erase a → ((how : Ending) → EndsWith b (Ended how) → ⊥)
    → IsHonestSoFar p regions nv a → IsHonestSoFar p regions nv b
same_so_far p regions nv a b e n h = record {
  said = subst (λ l. IsPrefixOf (without_offs l) (said_in (marked_run p regions (samples_in l)))) (sym e) h.said;
  outside = subst (HasNoOffInside false) (sym e) h.outside;
  timely = subst (λ l. AreTimely p (lived_from 0 l (source_run p (samples_in l)).events)) (sym e) h.timely;
  whole = λ how x. absurd (n how x);
}

not_ended : (q : List Told) (t r : ℕ) (how : Ending) → EndsWith (q ++ item t (Aborted r) ∷ []) (Ended how) → ⊥
not_ended q t r how e = absurd (cc (ends_so t (Aborted r) q e.0 e.1 (Ended how) e.2))

-- no run says an `abort`
said_none : (es : List Event) → AreParts es → (r : ℕ) → IsOf (Aborted r) (map (λ e. e.said) es) → ⊥
said_none [] a r h = h
said_none (e ∷ es) a r (inl h) = subst (λ s. MayBe s e.samples e.instance) (sym h) a.0
said_none (e ∷ es) a r (inr h) = said_none es a.1 r h

module _ (p : TProgram) (regions : List TRegion) (nv : Option (List ℤ)) (q : List Told) (t r : ℕ) where
  abbrev all : List Told
  all = q ++ item t (Aborted r) ∷ []

  left : last_mark None q ≢ Some (Entered r) → IsHonestSoFar p regions nv all → ⊥
  left n h =
      let e : erase all ≡ erase q ++ item t (Aborted r) ∷ [] = erases.left_over q t r n in
      let m : marked all ≡ marked q ++ Aborted r ∷ [] = ap without_offs e ∙ without_offs-append (erase q) (item t (Aborted r) ∷ []) in
      let at : IsOf (Aborted r) (said_in (marked_run p regions (kept_samples all))) =
      subst (IsOf (Aborted r)) h.said.1 (subst (λ l. IsOf (Aborted r) (l ++ h.said.0)) (sym m) (stands_last (marked q) h.said.0 (Aborted r))) in
      said_none (marked_run p regions (kept_samples all)).events (says_parts p regions (kept_samples all)) r at

  by_saved : AllHonest p regions nv q → (o : Option (ℕ × Way)) → IsSaved p regions q o → IsAnswer p regions nv all (aborted p nv r o)
  by_saved h None s = left (s r)
  by_saved h (Some s) x = test (s.0 == r) refl
    where
      test : (b : Bool) → (s.0 == r) ≡ b → IsAnswer p regions nv all (if b then Some (record { now = s.1; saved = None }) else None)
      test true g =
          let kr : s.0 ≡ r = eqb-true s.0 r g in
          let split : q ≡ x.0 ++ item x.2 (Entered r) ∷ x.1 = x.3 ∙ ap (λ k. x.0 ++ item x.2 (Entered k) ∷ x.1) kr in
          let e : erase all ≡ erase x.0 =
          ap (λ l. erase (l ++ item t (Aborted r) ∷ [])) split
          ∙ ap erase (append_assoc x.0 (item x.2 (Entered r) ∷ x.1) (item t (Aborted r) ∷ []))
          ∙ erases.leaves_nothing x.0 x.1 x.2 t r x.4 in (
            same_so_far p regions nv x.0 all e (λ how y. not_ended q t r how y) (h x.0 (item x.2 (Entered r) ∷ x.1) (sym split)),
            record {
              now = subst (λ l. IsWay p regions l s.1) (sym e) x.5;
              saved = λ k l.
                  let o : last_mark None all ≡ Some (Aborted r) = last_mark-more t (Aborted r) None q in
                  absurd (cc (l, o));
            },
          )
      test false g = left (λ e.
          let l : last_mark None q ≡ Some (Entered s.0) = ap (last_mark None) x.3 ∙ last_of None x.0 x.1 x.2 s.0 x.4 in
          let kr : s.0 ≡ r = cc (e, l) in
          let no : true ≡ false = sym (eq-eqb s.0 r kr) ∙ g in
          absurd (cc (no)))

pub aborts_right : AbortsRight
aborts_right p regions nv q t r w h k = by_saved p regions nv q t r h w.saved k.saved
