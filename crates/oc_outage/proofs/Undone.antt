-- Putting the log back.
use Rattle.std.proofs.Common.{◌≡◌, ℕ, zero, suc, ◌<◌, ℤ, pos, List, [], ◌∷◌, ◌++◌, length, take, Some, refl, sym, ap, ◌∙◌, ⊎_elim, inl, inr, arith, true}
use Rattle.std.specs.Prelude.{slice_get, slice_set, ◌⊎◌, if◌then◌else◌}
use Rattle.std.proofs.lemmas.List.{set-set, set_comm, set-get_or}
use Rattle.std.proofs.lemmas.Bool.Decides.{eqb_tells}
use Rattle.oc_undo.specs.Undo.{put_back, undo, has_entry}
use Rattle.oc_undo.specs.declared.Entry.{Entry}
use Rattle.oc_isa.specs.Power.{entry_at}

-- there is an entry of this address
abbrev pub HasEntry : List Entry → ℕ → Type 0
HasEntry [] a = ⊥
HasEntry (e ∷ es) a = (e.addr ≡ a) ⊎ HasEntry es a

pub has_entry_is : (es : List Entry) (a : ℕ) → has_entry es a ≡ true → HasEntry es a
has_entry_is [] a h = absurd (cc)
has_entry_is (e ∷ es) a h =
    ⊎_elim
    (λ k. inl k.1)
    (λ k. inr (has_entry_is es a (sym (ap (λ b. if b then true else has_entry es a) k.0) ∙ h)))
    (eqb_tells e.addr a)

-- a write under a later write of the same word doesn't matter
undo-under : (es : List Entry) (nv : List ℤ) (a : ℕ) (v o : ℤ) → slice_set (undo es (slice_set nv a v)) a o ≡ slice_set (undo es nv) a o
undo-under [] nv a v o = set-set nv a v o
undo-under (e ∷ es) nv a v o =
    ⊎_elim
    (λ h. ap (λ b. slice_set (slice_set (undo es (slice_set nv a v)) b e.old) a o) h.1 ∙ set-set _ a e.old o ∙ undo-under es nv a v o ∙ sym (set-set (undo es nv) a e.old o)
    ∙ ap (λ b. slice_set (slice_set (undo es nv) b e.old) a o) (sym h.1))
    (λ h. set_comm _ e.addr a e.old o h.1 ∙ ap (λ l. slice_set l e.addr e.old) (undo-under es nv a v o) ∙ sym (set_comm (undo es nv) e.addr a e.old o h.1))
    (eqb_tells e.addr a)

-- a write of a logged word is undone
pub undo-set : (es : List Entry) (nv : List ℤ) (a : ℕ) (v : ℤ) → HasEntry es a → undo es (slice_set nv a v) ≡ undo es nv
undo-set [] nv a v h = absurd h
undo-set (e ∷ es) nv a v h =
    ⊎_elim
    (λ s. ap (λ b. slice_set (undo es (slice_set nv a v)) b e.old) s ∙ undo-under es nv a v e.old ∙ ap (λ b. slice_set (undo es nv) b e.old) (sym s))
    (λ t. ap (λ l. slice_set l e.addr e.old) (undo-set es nv a v t))
    h

-- an entry with the present word undoes nothing
pub undo-entry_at : (es : List Entry) (nv : List ℤ) (a : ℕ) → undo (es ++ entry_at nv a ∷ []) nv ≡ undo es nv
undo-entry_at [] nv a = set-get_or nv a (pos 0)
undo-entry_at (e ∷ es) nv a = ap (put_back e) (undo-entry_at es nv a)

-- the last entry is put back first
pub undo-last : (es : List Entry) (e : Entry) (nv : List ℤ) → undo (es ++ e ∷ []) nv ≡ undo es (put_back e nv)
undo-last [] e nv = refl
undo-last (f ∷ es) e nv = ap (put_back f) (undo-last es e nv)

-- entry k, and what stands before it
pub record EntryNumber (es : List Entry) (k : ℕ) : Type 0 where
  pub entry : Entry
  pub got : slice_get es k ≡ Some entry
  pub taken : take (suc k) es ≡ take k es ++ entry ∷ []
  pub has : HasEntry es entry.addr

pub entry_number : (es : List Entry) (k : ℕ) → k < length es → EntryNumber es k
entry_number [] k h = absurd (omega arith)
entry_number (e ∷ es) zero h = record { entry = e; got = refl; taken = refl; has = inl refl }
entry_number (e ∷ es) (suc k) h =
    let r = entry_number es k (omega arith) in
    record { entry = r.entry; got = r.got; taken = ap (λ l. e ∷ l) r.taken; has = inr r.has }
