-- The two stores match at the start of a call, and names stand for each other.
use Rattle.std.proofs.Common.{◌≡◌, ℕ, suc, ◌+◌, ◌-◌, ◌≤◌, Bool, true, false, true≢false, not, List, [], ◌∷◌, length, Some, refl, sym, ap, ◌∙◌, arith}
use Rattle.std.specs.Prelude.{unwrap_or, nat_lt}
use Rattle.oc_tree.specs.Names.{Text}
use Rattle.oc_tree.specs.declared.tree.Param.{Param}
use Rattle.oc_tree.specs.declared.tree.Passing.{Passing}
use Rattle.oc_tree.specs.declared.tree.Passing.TheVariants as passings
use Rattle.oc_meaning.specs.Store.{Held, Place, Local, Global, Turn, Nowhere, Store, Binding, nothing}
use Rattle.oc_meaning.specs.Exec.{Passed, Copied, Lent}
use Rattle.oc_meaning.specs.Run.{Frame, with_param, with_params}
use Rattle.oc_copies.specs.Copies.{own_param, own_params, lent_place, passing_at}
use Rattle.oc_copies.proofs.Cells.{at_past}
use Rattle.oc_copies.proofs.Matching.{Match}
use Rattle.oc_copies.proofs.Twins.{Flags, is_shared, Sees, sees_more}
use Rattle.oc_copies.proofs.TwinCalls.{start_flags}
use Rattle.oc_tree.specs.Assigned.{is_mutable}
use Rattle.oc_copies.proofs.Root.{Entry, entries, to_own, fixed_own, Fine, renaming, is_renaming, to_place, is_live, to_at, live_at, fixed_at, own_index, own_later}
use Rattle.oc_copies.proofs.Passing.{Lows, later_place}
use Rattle.oc_copies.proofs.Start.{held_in, IsMade, AreLeft, left_more, left_first, made_copied, made_lent}

module _ (σ : Store) (n : ℕ) (es : List Entry) (fine : Fine n (length σ.nv) es) where
  abbrev start : ℕ
  start = length σ.locals

  past_held : (xs : List Held) (l : ℕ) → length xs ≤ l → held_in σ xs (Local l) ≡ nothing
  past_held xs l h = ap (λ o. unwrap_or o nothing) (at_past xs l h)

  module _ (own lent : Frame) (made : IsMade σ (length σ.nv) n es (length es) n own lent) where
    own_held : (i : ℕ) → held_in σ own.locals (Local (start + i)) ≡ held_in σ lent.locals (to_own es n i)
    own_held i = by (nat_lt i (length es)) refl
      where
        by : (b : Bool) → nat_lt i (length es) ≡ b → held_in σ own.locals (Local (start + i)) ≡ held_in σ lent.locals (to_own es n i)
        by true e = made.held i (grind (arith, e))
        by false e =
            let h : length es ≤ i = grind (arith, e) in
            let s : length es + (i - length es) ≡ i = omega (arith, h) in
            past_held own.locals (start + i) (omega (arith, made.many, h))
            ∙ sym (ap (held_in σ lent.locals) (sym (ap (to_own es n) s) ∙ (own_later n es (i - length es)).0) ∙ past_held lent.locals (n + (i - length es)) (omega (arith, made.other_many)))

    all_held : (a : Place) → is_live start (length σ.nv) n es fine a ≡ true → held_in σ own.locals a ≡ held_in σ lent.locals (to_place start (length σ.nv) n es fine a)
    all_held (Local l) h =
        let k = own_index start (length σ.nv) n es fine l h in
        ap (λ x. held_in σ own.locals (Local x)) k.1 ∙ own_held k.0
        ∙ sym (ap (held_in σ lent.locals) (ap (λ x. to_place start (length σ.nv) n es fine (Local x)) k.1 ∙ to_at start (length σ.nv) n es fine k.0))
    all_held (Global g) h = refl
    all_held (Turn z) h = refl
    all_held Nowhere h = refl

    pub start_match : Match (renaming start (length σ.nv) n es fine) (is_renaming start (length σ.nv) n es fine) (record σ { locals = own.locals })
        (record σ { locals = lent.locals }) (record σ { locals = own.locals }) (record σ { locals = lent.locals })
    start_match = record {
      more = 0;
      count = omega (arith, made.many);
      other_count = omega (arith, made.other_many);
      stored = refl;
      other_stored = refl;
      holds = all_held;
      rest = refl;
      kept = λ a k. refl;
      other_kept = λ b k. refl;
    }

  -- ---- names

  module _ (hidden : Text → Bool) (first other_first : Store) where
    abbrev See : Flags → List Binding → List Binding → Type 0
    See = Sees hidden (renaming start (length σ.nv) n es fine) (is_renaming start (length σ.nv) n es fine) first other_first

    shared_or : (q : Passing) → (q ≡ passings.Value → ⊥) → is_shared q ≡ false → not (is_mutable q) ≡ false
    shared_or passings.Mutable h e = refl
    shared_or passings.Shared h e = absurd (true≢false e)
    shared_or passings.Value h e = absurd (h refl)

    fixed_first : (k : ℕ) (e : Entry) (rest : List Entry) → AreLeft σ (length σ.nv) n es k (e ∷ rest) → fixed_own es k ≡ e.1
    fixed_first k e rest h = let s : k ≡ k + 0 = omega arith in ap (fixed_own es) s ∙ h.fixings 0

    pub all_seen : (qs : List Param) (ps : List Passed) (k m : ℕ) (own lent : Frame) (fs : Flags) → length ps ≡ length qs → Lows start (length σ.nv) ps →
        ((i : ℕ) (q : Place) → lent_place ps i ≡ Some q → passing_at qs i ≡ Some passings.Value → ⊥) →
        AreLeft σ (length σ.nv) n es k (entries qs ps m) → IsMade σ (length σ.nv) n es k m own lent → See fs own.env lent.env
        → See (start_flags qs fs) (own_params σ qs ps own).env (with_params qs ps lent).env
    all_seen [] ps k m own lent fs as_many low form rest made s = s
    all_seen (q ∷ qs) [] k m own lent fs as_many low form rest made s = absurd (omega (arith, as_many))
    all_seen (q ∷ qs) (Copied v ∷ ps) k m own lent fs as_many low form rest made s =
        all_seen qs ps (suc k) (suc m) (own_param σ q.name (Copied v) own) (with_param q.name (Copied v) lent) ((q.name, is_shared q.passing) ∷ fs) (omega (arith, as_many))
        (later_place start (length σ.nv) (Copied v) ps low) (λ i a e. form (suc i) a e)
        (left_more σ (length σ.nv) n es k _ _ rest) (made_copied σ (length σ.nv) n es k m own lent q.name v (left_first σ (length σ.nv) n es k _ _ rest) made)
        (sees_more hidden _ _ first other_first fs own.env lent.env q.name (is_shared q.passing) _ _ refl refl
        (record {
          place = ap Local made.other_many ∙ sym (left_first σ (length σ.nv) n es k _ _ rest)
              ∙ sym (ap (λ x. to_place start (length σ.nv) n es fine (Local x)) made.many ∙ to_at start (length σ.nv) n es fine k);
          live =
              ap (λ x. is_live start (length σ.nv) n es fine (Local x)) made.many ∙ live_at start (length σ.nv) n es fine k;
          reference = refl;
          fresh = refl;
        })
        (λ e. ap (λ x. (renaming start (length σ.nv) n es fine).fixed (Local x)) made.many ∙ fixed_at start (length σ.nv) n es fine k ∙ fixed_first k _ _ rest) s)
    all_seen (q ∷ qs) (Lent a ∷ ps) k m own lent fs as_many low form rest made s =
        all_seen qs ps (suc k) m (own_param σ q.name (Lent a) own) (with_param q.name (Lent a) lent) ((q.name, is_shared q.passing) ∷ fs) (omega (arith, as_many))
        (later_place start (length σ.nv) (Lent a) ps low) (λ i b e. form (suc i) b e)
        (left_more σ (length σ.nv) n es k _ _ rest) (made_lent σ (length σ.nv) n es k m own lent q.name a (left_first σ (length σ.nv) n es k _ _ rest) (low 0 a refl) made)
        (sees_more hidden _ _ first other_first fs own.env lent.env q.name (is_shared q.passing) _ _ refl refl
        (record {
          place = sym (left_first σ (length σ.nv) n es k _ _ rest)
              ∙ sym (ap (λ x. to_place start (length σ.nv) n es fine (Local x)) made.many ∙ to_at start (length σ.nv) n es fine k);
          live =
              ap (λ x. is_live start (length σ.nv) n es fine (Local x)) made.many ∙ live_at start (length σ.nv) n es fine k;
          reference = refl;
          fresh = refl;
        })
        (λ e. ap (λ x. (renaming start (length σ.nv) n es fine).fixed (Local x)) made.many ∙ fixed_at start (length σ.nv) n es fine k ∙ fixed_first k _ _ rest
        ∙ shared_or q.passing (λ v. form 0 a refl (ap Some v)) e) s)
