-- The marks beside the entries.
use Rattle.std.proofs.Common.{◌≡◌, ℕ, suc, ◌+◌, ◌<◌, ◌≤◌, List, [], ◌∷◌, ◌++◌, length, refl, sym, ap, ◌∙◌, ⊎_elim, inl, inr, arith, get_or, cond, get_or-set_same, get_or-set_other}
use Rattle.std.proofs.Common.{length-append, drop, add-one, subst, take}
use Rattle.std.specs.Prelude.{slice_set, Bool, true, false, ◌==◌, if◌then◌else◌, count_by, All}
use Rattle.std.specs.Prelude.{Result, IsOk}
use Rattle.std.specs.Result.{is_ok}
use Rattle.std.proofs.Math.Seq.{drop-cons, take-append_seam}
use Rattle.std.specs.List.{AllByRecursion}
use Rattle.std.proofs.lemmas.List.{length-set, get_or_past, drop_all}
use Rattle.std.proofs.lemmas.List.Elements.{All-append, All-cons, All-nil, recursion_from_All}
use Rattle.std.proofs.lemmas.List.Sums.{sum_by-set, sum_by-cons, count_by-le-length}
use Rattle.std.proofs.lemmas.Bool.{cases_lt}
use Rattle.std.proofs.lemmas.Bool.Decides.{eqb_tells}
use Rattle.oc_undo.specs.Undo.{has_entry, IsMarked}
use Rattle.oc_undo.specs.declared.Entry.{Entry}

no_entry_by : (es : List Entry) (n a : ℕ) → AllByRecursion (λ e. e.addr < n) es → n ≤ a → has_entry es a ≡ false
no_entry_by [] n a h k = refl
no_entry_by (e ∷ es) n a h k =
    ⊎_elim
    (λ s. absurd (let p : e.addr < n = h.0 in let q : e.addr ≡ a = s.1 in omega arith))
    (λ s. ap (λ t. if t then true else has_entry es a) s.0 ∙ no_entry_by es n a h.1 k)
    (eqb_tells e.addr a)

-- no entry lies past the words
pub no_entry_past : (es : List Entry) (n a : ℕ) → All (λ e. e.addr < n) es → n ≤ a → has_entry es a ≡ false
no_entry_past es n a h k = no_entry_by es n a (recursion_from_All (λ (e : Entry). e.addr < n) es h) k

has_last : (es : List Entry) (e : Entry) (a : ℕ) → (e.addr == a) ≡ true → has_entry (es ++ e ∷ []) a ≡ true
has_last [] e a h = ap (λ t. if t then true else false) h
has_last (f ∷ es) e a h =
    ⊎_elim
    (λ s. ap (λ t. if t then true else has_entry (es ++ e ∷ []) a) s.0)
    (λ s. ap (λ t. if t then true else has_entry (es ++ e ∷ []) a) s.0 ∙ has_last es e a h)
    (eqb_tells f.addr a)

has_other : (es : List Entry) (e : Entry) (a : ℕ) → (e.addr == a) ≡ false → has_entry (es ++ e ∷ []) a ≡ has_entry es a
has_other [] e a h = ap (λ t. if t then true else false) h
has_other (f ∷ es) e a h = ap (λ t. if f.addr == a then true else t) (has_other es e a h)

one_more : (marks : List Bool) (a : ℕ) → a < length marks → get_or marks a false ≡ false → count_by (λ m. m) (slice_set marks a true) ≡ count_by (λ m. m) marks + 1
one_more marks a h k =
    let s : count_by (λ m. m) (slice_set marks a true) + cond {A = ℕ} (get_or marks a false) 1 0 ≡ count_by (λ m. m) marks + 1 = sum_by-set (λ m. cond {A = ℕ} m 1 0) marks a true false h in
    let z : cond {A = ℕ} (get_or marks a false) 1 0 ≡ 0 = ap (λ b. cond {A = ℕ} b 1 0) k in
    omega arith

-- an address without an entry leaves room for one more
pub has_room : (es : List Entry) (marks : List Bool) (a : ℕ) → IsMarked es marks → a < length marks → has_entry es a ≡ false → length es < length marks
has_room es marks a m h k =
    let s = one_more marks a h (m.told a h ∙ k) in
    omega (arith, m.count, s, count_by-le-length (λ m. m) (slice_set marks a true), length-set marks a true)

-- an entry is noted, and its address marked
pub noted : (es : List Entry) (marks : List Bool) (e : Entry) → IsMarked es marks → e.addr < length marks → has_entry es e.addr ≡ false → IsMarked (es ++ e ∷ []) (slice_set marks e.addr true)
noted es marks e m h k = record {
  told = λ b l.
      ⊎_elim
      (λ s. ap (λ i. get_or (slice_set marks e.addr true) i false) (sym s.1) ∙ get_or-set_same marks e.addr true false h ∙ sym (has_last es e b s.0))
      (λ s. get_or-set_other marks e.addr b true false (λ q. s.1 (sym q)) ∙ m.told b (omega (arith, length-set marks e.addr true)) ∙ sym (has_other es e b s.0))
      (eqb_tells e.addr b);
  inside = λ i d l. omega (
    arith,
    length-set marks e.addr true,
    All-append (λ (x : Entry). x.addr < length marks) es (e ∷ []) m.inside
        (All-cons (λ (x : Entry). x.addr < length marks) e [] h (All-nil (λ (x : Entry). x.addr < length marks))) i d l,
  );
  count = one_more marks e.addr h (m.told e.addr h ∙ k) ∙ omega (arith, m.count, length-append es (e ∷ []));
}

-- a mark is taken away with its entry
pub unmarked : (es : List Entry) (e : Entry) (marks : List Bool) → ((a : ℕ) → get_or marks a false ≡ true → has_entry (e ∷ es) a ≡ true) → e.addr < length marks → (a : ℕ)
    → get_or (slice_set marks e.addr false) a false ≡ true → has_entry es a ≡ true
unmarked es e marks h l a k =
    ⊎_elim
    (λ s. let n : get_or (slice_set marks e.addr false) a false ≡ false = ap (λ i. get_or (slice_set marks e.addr false) i false) (sym s.1) ∙ get_or-set_same marks e.addr false false l in absurd (cc))
    (λ s. sym (ap (λ t. if t then true else has_entry es a) s.0) ∙ h a (sym (get_or-set_other marks e.addr a false false (λ q. s.1 (sym q))) ∙ k))
    (eqb_tells e.addr a)

-- the marks are those of the entries
pub told_by : (es : List Entry) (marks : List Bool) → ((a : ℕ) → a < length marks → get_or marks a false ≡ has_entry es a) → (a : ℕ) → get_or marks a false ≡ true → has_entry es a ≡ true
told_by es marks h a k =
    elim (cases_lt a (length marks)) [ inl l ↦ sym (h a l) ∙ k | inr g ↦ let n = get_or_past marks a false g in absurd (cc) ]

-- no mark is left where there are no entries
pub none_left : (b : Bool) → (b ≡ true → false ≡ true) → b ≡ false
none_left false h = refl
none_left true h = let e : false ≡ true = h refl in absurd (cc)

pub count_none : (marks : List Bool) → ((a : ℕ) → get_or marks a false ≡ false) → count_by (λ m. m) marks ≡ 0
count_none [] h = refl
count_none (m ∷ ms) h =
    let z : cond {A = ℕ} m 1 0 ≡ 0 = ap (λ b. cond {A = ℕ} b 1 0) (h 0) in
    let e : count_by (λ m. m) (m ∷ ms) ≡ cond {A = ℕ} m 1 0 + count_by (λ m. m) ms = sum_by-cons (λ m. cond {A = ℕ} m 1 0) m ms in
    omega (arith, count_none ms (λ a. h (suc a)))

drop_more : (es : List Entry) (i : ℕ) (d : Entry) → i < length es → drop i es ≡ get_or es i d ∷ drop (i + 1) es
drop_more es i d h = rw (add-one) (drop-cons es i d h)

-- the marks of the entries from the next one on are left
pub unmark_more : (es : List Entry) (i : ℕ) (d : Entry) (marks : List Bool) → i < length es → All (λ e. e.addr < length marks) es
    → ((a : ℕ) → get_or marks a false ≡ true → has_entry (drop i es) a ≡ true) → (a : ℕ) → get_or (slice_set marks (get_or es i d).addr false) a false ≡ true → has_entry (drop (i + 1) es) a ≡ true
unmark_more es i d marks h inside left =
    unmarked (drop (i + 1) es) (get_or es i d) marks (λ a k. ap (λ l. has_entry l a) (sym (drop_more es i d h)) ∙ left a k) (inside i d h)

pub unmark_done : (es : List Entry) (i : ℕ) (marks : List Bool) → length es ≤ i → ((a : ℕ) → get_or marks a false ≡ true → has_entry (drop i es) a ≡ true) → (a : ℕ) → get_or marks a false ≡ false
unmark_done es i marks h left a = none_left (get_or marks a false) (λ k. ap (λ l. has_entry l a) (sym (drop_all i es h)) ∙ left a k)

pub when_ok : {A E X : Type 0} (r : Result A E) (x y : X) → IsOk r → (if is_ok r then x else y) ≡ x
when_ok r x y h = ap (λ b. if b then x else y) h

-- without entries there are no marks
pub no_marks : (es : List Entry) (marks : List Bool) → es ≡ [] → ((a : ℕ) → get_or marks a false ≡ false) → IsMarked es marks
no_marks es marks p h = subst (λ (l : List Entry). IsMarked l marks) (sym p) (record {
  told = λ a l. h a;
  inside = All-nil (λ (x : Entry). x.addr < length marks);
  count = count_none marks h;
})

pub kept_front : (n : ℕ) (xs ys : List Bool) → length xs ≡ n → take n (xs ++ ys) ≡ xs
kept_front n xs ys h = ap (λ k. take k (xs ++ ys)) (sym h) ∙ take-append_seam xs ys
