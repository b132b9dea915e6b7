-- A report without its aborted attempts is one alone.
use Rattle.std.proofs.Common.{◌≡◌, ℕ, zero, suc, ◌≤◌, Bool, true, false, cond, List, [], ◌∷◌, ◌++◌, length, Option, Some, None, refl, sym, ap, subst, ◌∙◌, append_assoc, arith}
use Rattle.std.proofs.lemmas.Bool.{eqb-true, eq-eqb}
use Rattle.std.proofs.lemmas.List.{length-append}
use Rattle.oc_tree.specs.Said.{Told}
use Rattle.oc_tree.specs.declared.said.Said.{Said}
use Rattle.oc_tree.specs.declared.said.Said.TheVariants.{Sensed, Showed, Entered, Committed, Aborted, Off, Dark, Ended}
use Rattle.oc_items.specs.Erase.{mark_or, next_mark, begins_stretch, goes_on, erase_from, erase}
use Rattle.oc_items.specs.Erased.{IsNoMark, HasNoMark, IsAttempt, attempt, BeginsRun, Erases, nothing, leaving, keeping, ErasesIt, ErasesAlone}

-- the rest of an attempt in front: what stands up to the `abort` of this region
record Ends (r : ℕ) (items : List Told) : Type 0 where
  between : List Told
  last : Told
  behind : List Told
  is : items ≡ between ++ last ∷ behind
  plain : HasNoMark between
  aborts : last.said ≡ Aborted r

one_more : (r : ℕ) (i : Told) (is : List Told) → IsNoMark i.said → Ends r is → Ends r (i ∷ is)
one_more r i is h e = record {
  between = i ∷ e.between;
  last = e.last;
  behind = e.behind;
  is = ap (λ (l : List Told). i ∷ l) e.is;
  plain = (h, e.plain);
  aborts = e.aborts;
}

same_region : (k r : ℕ) → Some (Aborted k) ≡ Some (Aborted r) → Aborted k ≡ Aborted r
same_region k r e = cc

next_by : (r : ℕ) (i : Told) (is : List Told) (s : Said) → i.said ≡ s → (next_mark is ≡ Some (Aborted r) → Ends r is) → mark_or s (next_mark is) ≡ Some (Aborted r) → Ends r (i ∷ is)
next_by r i is (Entered k) g again e = cc e
next_by r i is (Committed k) g again e = cc e
next_by r i is (Aborted k) g again e = record { between = []; last = i; behind = is; is = refl; plain = tt; aborts = g ∙ same_region k r e }
next_by r i is (Sensed a b) g again e = one_more r i is (rw g tt) (again e)
next_by r i is (Showed a) g again e = one_more r i is (rw g tt) (again e)
next_by r i is (Off a) g again e = one_more r i is (rw g tt) (again e)
next_by r i is Dark g again e = one_more r i is (rw g tt) (again e)
next_by r i is (Ended a) g again e = one_more r i is (rw g tt) (again e)

-- the next mark is an `abort` where an attempt ends
ends_there : (r : ℕ) (items : List Told) → next_mark items ≡ Some (Aborted r) → Ends r items
ends_there r [] e = cc e
ends_there r (i ∷ is) e = next_by r i is i.said refl (ends_there r is) e

no_mark : (s : Said) (later : Option Said) → IsNoMark s → mark_or s later ≡ later
no_mark (Entered k) later h = absurd h
no_mark (Committed k) later h = absurd h
no_mark (Aborted k) later h = absurd h
no_mark (Sensed a b) later h = refl
no_mark (Showed a) later h = refl
no_mark (Off a) later h = refl
no_mark Dark later h = refl
no_mark (Ended a) later h = refl

no_end : (s : Said) → IsNoMark s → goes_on s ≡ true
no_end (Entered k) h = absurd h
no_end (Committed k) h = absurd h
no_end (Aborted k) h = absurd h
no_end (Sensed a b) h = refl
no_end (Showed a) h = refl
no_end (Off a) h = refl
no_end Dark h = refl
no_end (Ended a) h = refl

marked_there : (r : ℕ) (between : List Told) (last : Told) (behind : List Told) → HasNoMark between → last.said ≡ Aborted r → next_mark (between ++ last ∷ behind) ≡ Some (Aborted r)
marked_there r [] last behind h e = rw e refl
marked_there r (i ∷ between) last behind h e = no_mark i.said (next_mark (between ++ last ∷ behind)) h.0 ∙ marked_there r between last behind h.1 e

gone_there : (r : ℕ) (between : List Told) (last : Told) (behind : List Told) → HasNoMark between → last.said ≡ Aborted r → erase_from true (between ++ last ∷ behind) ≡ erase behind
gone_there r [] last behind h e = ap (λ (s : Said). erase_from (goes_on s) behind) e
gone_there r (i ∷ between) last behind h e = ap (λ (b : Bool). erase_from b (between ++ last ∷ behind)) (no_end i.said h.0) ∙ gone_there r between last behind h.1 e

-- ---- where an attempt begins

record Starts (s : Said) (mark : Option Said) : Type 0 where
  region : ℕ
  enters : s ≡ Entered region
  aborts : mark ≡ Some (Aborted region)

starts_by : (s : Said) (mark : Option Said) → begins_stretch s mark ≡ true → Starts s mark
starts_by (Entered r) (Some (Aborted k)) e = record { region = r; enters = refl; aborts = ap (λ (n : ℕ). Some (Aborted n)) (sym (eqb-true r k e)) }
starts_by (Entered r) (Some (Entered k)) e = cc e
starts_by (Entered r) (Some (Committed k)) e = cc e
starts_by (Entered r) (Some (Sensed a b)) e = cc e
starts_by (Entered r) (Some (Showed a)) e = cc e
starts_by (Entered r) (Some (Off a)) e = cc e
starts_by (Entered r) (Some Dark) e = cc e
starts_by (Entered r) (Some (Ended a)) e = cc e
starts_by (Entered r) None e = cc e
starts_by (Committed r) mark e = cc e
starts_by (Aborted r) mark e = cc e
starts_by (Sensed a b) mark e = cc e
starts_by (Showed a) mark e = cc e
starts_by (Off a) mark e = cc e
starts_by Dark mark e = cc e
starts_by (Ended a) mark e = cc e

starts : (r : ℕ) (s : Said) (mark : Option Said) → s ≡ Entered r → mark ≡ Some (Aborted r) → begins_stretch s mark ≡ true
starts r s mark e g = rw (e, g) (eq-eqb r r refl)

-- the attempt in front, and what stands behind it
record Front (i : Told) (is : List Told) : Type 0 where
  behind : List Told
  begins : BeginsRun (i ∷ is)
  same : begins.behind ≡ behind
  left : erase_from true is ≡ erase behind
  shorter : length behind ≤ length is

begins_there : (i : Told) (is : List Told) → begins_stretch i.said (next_mark is) ≡ true → Front i is
begins_there i is e =
    let s = starts_by i.said (next_mark is) e in
    let d = ends_there s.region is s.aborts in
    let g : is ≡ (d.between ++ d.last ∷ []) ++ d.behind = d.is ∙ sym (append_assoc d.between (d.last ∷ []) d.behind) in
    let n : length is ≡ length (d.between ++ d.last ∷ d.behind) = ap (λ (l : List Told). length l) d.is in
    let m = length-append d.between (d.last ∷ d.behind) in
    record {
      behind = d.behind;
      begins = record { taken = i ∷ d.between ++ d.last ∷ []; behind = d.behind; is = ap (λ (l : List Told). i ∷ l) g; attempts = attempt s.region i d.last d.between s.enters d.plain d.aborts };
      same = refl;
      left = ap (λ (l : List Told). erase_from true l) d.is ∙ gone_there s.region d.between d.last d.behind d.plain d.aborts;
      shorter = omega (arith, n, m);
    }

-- what an attempt in front leaves
record Leaves (items behind : List Told) : Type 0 where
  first : Told
  rest : List Told
  is : items ≡ first ∷ rest
  begins : begins_stretch first.said (next_mark rest) ≡ true
  left : erase_from true rest ≡ erase behind

attempts_leave : (taken behind : List Told) → IsAttempt taken → Leaves (taken ++ behind) behind
attempts_leave _ behind (attempt r first last between e h g) =
    let j : (between ++ last ∷ []) ++ behind ≡ between ++ last ∷ behind = append_assoc between (last ∷ []) behind in
    record {
      first = first;
      rest = (between ++ last ∷ []) ++ behind;
      is = refl;
      begins = starts r first.said _ e (ap (λ (l : List Told). next_mark l) j ∙ marked_there r between last behind h g);
      left = ap (λ (l : List Told). erase_from true l) j ∙ gone_there r between last behind h g;
    }

head_is : (i j : Told) (is js : List Told) → i ∷ is ≡ j ∷ js → i ≡ j
head_is i j is js e = cc

tail_is : (i j : Told) (is js : List Told) → i ∷ is ≡ j ∷ js → is ≡ js
tail_is i j is js e = cc

begins_stretch_there : (i : Told) (is : List Told) → BeginsRun (i ∷ is) → begins_stretch i.said (next_mark is) ≡ true
begins_stretch_there i is b =
    let l = attempts_leave b.taken b.behind b.attempts in
    let e = b.is ∙ l.is in
    rw (head_is i l.first is l.rest e, tail_is i l.first is l.rest e) l.begins

-- ---- the law

erases_by : (n : ℕ) (items : List Told) → length items ≤ n → Erases items (erase items)
erases_by n [] h = nothing
erases_by zero (i ∷ is) h = absurd (omega arith)
erases_by (suc n) (i ∷ is) h = by_test (begins_stretch i.said (next_mark is)) refl (λ (rest : List Told) l. erases_by n rest (omega (arith, h, l)))
  where
    by_test : (b : Bool) → begins_stretch i.said (next_mark is) ≡ b → ((rest : List Told) → length rest ≤ length is → Erases rest (erase rest))
        → Erases (i ∷ is) (cond b (erase_from true is) (i ∷ erase_from false is))
    by_test true e again =
        let f = begins_there i is e in
        let b = f.begins in
        subst (λ (l : List Told). Erases l (erase_from true is)) (sym b.is)
        (subst (λ (l : List Told). Erases (b.taken ++ b.behind) l) (sym f.left) (leaving b.attempts (rw f.same (again f.behind f.shorter))))
    by_test false e again =
        keeping (λ b. let t : true ≡ false = sym (begins_stretch_there i is b) ∙ e in cc) (again is (omega arith))

pub erases_it : ErasesIt
erases_it items = erases_by (length items) items (omega arith)

pub erases_alone : ErasesAlone
erases_alone _ _ nothing = refl
erases_alone _ left (leaving {taken = taken} {behind = behind} a d) =
    let l = attempts_leave taken behind a in
    let again = erases_alone behind left d in
    rw l.is (rw l.begins (again ∙ sym l.left))
erases_alone _ _ (keeping {i = i} {behind = behind} {left = left} none d) = by_test (begins_stretch i.said (next_mark behind)) refl (erases_alone behind left d)
  where
    by_test : (b : Bool) → begins_stretch i.said (next_mark behind) ≡ b → left ≡ erase behind → i ∷ left ≡ cond b (erase_from true behind) (i ∷ erase_from false behind)
    by_test true e again = absurd (none (begins_there i behind e).begins)
    by_test false e again = ap (λ (l : List Told). i ∷ l) again
