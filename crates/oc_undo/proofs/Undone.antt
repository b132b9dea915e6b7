-- Putting the log back.
use Rattle.std.proofs.Common.{true, ◌≡◌, ℕ, zero, suc, ◌<◌, ◌≤◌, List, [], ◌∷◌, ◌++◌, length, Some, refl, sym, ap, ◌∙◌, ⊎_elim, inl, inr, arith, get_or, take, ℤ, pos}
use Rattle.std.proofs.Common.{get_or-set_same, get_or-set_other}
use Rattle.std.specs.Prelude.{slice_get, slice_set, ◌⊎◌, if◌then◌else◌}
use Rattle.std.proofs.lemmas.List.{set-set, set_comm, set-get_or, length-set}
use Rattle.std.proofs.Math.Seq.{take-length}
use Rattle.std.proofs.lemmas.Bool.Decides.{eqb_tells}
use Rattle.oc_undo.specs.Undo.{has_entry, put_back, put_back_some, undo, undo_one, undo_some, rollback, first_old}
use Rattle.oc_undo.specs.declared.Entry.{Entry}

-- there is an entry of this address
abbrev HasAddr : List Entry → ℕ → Type 0
HasAddr [] a = ⊥
HasAddr (e ∷ es) a = (e.addr ≡ a) ⊎ HasAddr es a

-- a write under a later write of the same word doesn't matter
under : (es : List Entry) (nv : List ℤ) (a : ℕ) (v o : ℤ) → slice_set (undo es (slice_set nv a v)) a o ≡ slice_set (undo es nv) a o
under [] nv a v o = set-set nv a v o
under (e ∷ es) nv a v o =
    ⊎_elim
    (λ h. ap (λ b. slice_set (slice_set (undo es (slice_set nv a v)) b e.old) a o) h.1 ∙ set-set _ a e.old o ∙ under es nv a v o ∙ sym (set-set (undo es nv) a e.old o)
    ∙ ap (λ b. slice_set (slice_set (undo es nv) b e.old) a o) (sym h.1))
    (λ h. set_comm _ e.addr a e.old o h.1 ∙ ap (λ l. slice_set l e.addr e.old) (under es nv a v o) ∙ sym (set_comm (undo es nv) e.addr a e.old o h.1))
    (eqb_tells e.addr a)

-- a write of a logged word is undone
undo_write : (es : List Entry) (nv : List ℤ) (a : ℕ) (v : ℤ) → HasAddr es a → undo es (slice_set nv a v) ≡ undo es nv
undo_write [] nv a v h = absurd h
undo_write (e ∷ es) nv a v h =
    ⊎_elim
    (λ s. ap (λ b. slice_set (undo es (slice_set nv a v)) b e.old) s ∙ under es nv a v e.old ∙ ap (λ b. slice_set (undo es nv) b e.old) (sym s))
    (λ t. ap (λ l. slice_set l e.addr e.old) (undo_write es nv a v t))
    h

marked_has : (es : List Entry) (a : ℕ) → has_entry es a ≡ true → HasAddr es a
marked_has [] a h = absurd (cc)
marked_has (e ∷ es) a h =
    ⊎_elim
    (λ k. inl k.1)
    (λ k. inr (marked_has es a (sym (ap (λ b. if b then true else has_entry es a) k.0) ∙ h)))
    (eqb_tells e.addr a)

pub undo_write_marked : (es : List Entry) (nv : List ℤ) (a : ℕ) (v : ℤ) → has_entry es a ≡ true → undo es (slice_set nv a v) ≡ undo es nv
undo_write_marked es nv a v h = undo_write es nv a v (marked_has es a h)

-- an entry with the present word undoes nothing
pub undo_noted : (es : List Entry) (nv : List ℤ) (a : ℕ) → undo (es ++ record { addr = a; old = get_or nv a (pos 0) } ∷ []) nv ≡ undo es nv
undo_noted [] nv a = set-get_or nv a (pos 0)
undo_noted (e ∷ es) nv a = ap (put_back e) (undo_noted es nv a)

undo_last : (es : List Entry) (e : Entry) (nv : List ℤ) → undo (es ++ e ∷ []) nv ≡ undo es (put_back e nv)
undo_last [] e nv = refl
undo_last (f ∷ es) e nv = ap (put_back f) (undo_last es e nv)

record Last (es : List Entry) (k : ℕ) : Type 0 where
  pub entry : Entry
  pub got : slice_get es k ≡ Some entry
  pub taken : take (suc k) es ≡ take k es ++ entry ∷ []
  pub has : HasAddr es entry.addr

last_of : (es : List Entry) (k : ℕ) → k < length es → Last es k
last_of [] k h = absurd (omega arith)
last_of (e ∷ es) zero h = record { entry = e; got = refl; taken = refl; has = inl refl }
last_of (e ∷ es) (suc k) h =
    let r = last_of es k (omega arith) in
    record { entry = r.entry; got = r.got; taken = ap (λ l. e ∷ l) r.taken; has = inr r.has }

-- one entry put back is undone by all
pub one_undone : (es : List Entry) (k : ℕ) (nv : List ℤ) → k < length es → undo es (undo_one es (suc k) nv) ≡ undo es nv
one_undone es k nv h =
    let r = last_of es k (omega arith) in
    ap (λ o. undo es (put_back_some o nv)) r.got ∙ undo_write es nv r.entry.addr r.entry.old r.has

-- so are some of them
some_undone : (es : List Entry) (k n : ℕ) (nv : List ℤ) → k ≤ length es → undo es (undo_some es k n nv) ≡ undo es nv
some_undone es k zero nv h = refl
some_undone es zero (suc n) nv h = refl
some_undone es (suc k) (suc n) nv h = some_undone es k n (undo_one es (suc k) nv) (omega arith) ∙ one_undone es k nv (omega arith)

-- to put back so many of so many is to undo these
all_of : (es : List Entry) (k : ℕ) (nv : List ℤ) → k ≤ length es → undo_some es k k nv ≡ undo (take k es) nv
all_of es zero nv h = refl
all_of es (suc k) nv h =
    let r = last_of es k (omega arith) in
    all_of es k (undo_one es (suc k) nv) (omega arith) ∙ ap (λ o. undo (take k es) (put_back_some o nv)) r.got ∙ sym (undo_last (take k es) r.entry nv) ∙ ap (λ l. undo l nv) (sym r.taken)

pub rollback_is : (es : List Entry) (broken_off : List ℕ) (nv : List ℤ) → rollback es broken_off nv ≡ undo es nv
rollback_is es [] nv = all_of es (length es) nv (omega arith) ∙ ap (λ l. undo l nv) (take-length es)
rollback_is es (n ∷ ns) nv = rollback_is es ns (undo_some es (length es) n nv) ∙ some_undone es (length es) n nv (omega arith)

pub length-undo : (es : List Entry) (nv : List ℤ) → length (undo es nv) ≡ length nv
length-undo [] nv = refl
length-undo (e ∷ es) nv = length-set (undo es nv) e.addr e.old ∙ length-undo es nv

pub undo_at : (es : List Entry) (nv : List ℤ) (a : ℕ) → a < length nv → get_or (undo es nv) a (pos 0) ≡ first_old es a (get_or nv a (pos 0))
undo_at [] nv a h = refl
undo_at (e ∷ es) nv a h =
    let inside : a < length (undo es nv) = omega (arith, length-undo es nv) in
    ⊎_elim
    (λ k. ap (λ b. get_or (slice_set (undo es nv) b e.old) a (pos 0)) k.1 ∙ get_or-set_same (undo es nv) a e.old (pos 0) inside
    ∙ ap (λ t. if t then e.old else first_old es a (get_or nv a (pos 0))) (sym k.0))
    (λ k. get_or-set_other (undo es nv) e.addr a e.old (pos 0) (λ q. k.1 (sym q)) ∙ undo_at es nv a h ∙ ap (λ t. if t then e.old else first_old es a (get_or nv a (pos 0))) (sym k.0))
    (eqb_tells e.addr a)
