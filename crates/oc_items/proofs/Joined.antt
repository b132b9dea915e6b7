-- A report whose parts are erased one by one.
use Rattle.std.proofs.Common.{◌≡◌, List, [], ◌∷◌, ◌++◌, Option, Some, None, refl, sym, ap, ◌∙◌, Bool, true, false}
use Rattle.std.specs.Prelude.{if◌then◌else◌}
use Rattle.oc_tree.specs.Said.{Told}
use Rattle.oc_tree.specs.declared.said.Said.{Said}
use Rattle.oc_tree.specs.declared.said.Said.TheVariants.{Sensed, Showed, Entered, Committed, Aborted, Off, Dark, Ended}
use Rattle.oc_items.specs.Erase.{mark_or, next_mark, begins_stretch, goes_on, erase_from, erase}

-- the mark is an `abort`
abbrev pub IsAbort : Option Said → Type 0
IsAbort (Some (Aborted r)) = Unit {0}
IsAbort mark = ⊥

abbrev pub NoAbort : Option Said → Type 0
NoAbort (Some (Aborted r)) = ⊥
NoAbort mark = Unit {0}

begins-no_abort : (s : Said) (m : Option Said) → NoAbort m → begins_stretch s m ≡ false
begins-no_abort (Entered r) None n = refl
begins-no_abort (Entered r) (Some (Sensed a b)) n = refl
begins-no_abort (Entered r) (Some (Showed a)) n = refl
begins-no_abort (Entered r) (Some (Entered a)) n = refl
begins-no_abort (Entered r) (Some (Committed a)) n = refl
begins-no_abort (Entered r) (Some (Aborted a)) n = absurd n
begins-no_abort (Entered r) (Some (Off a)) n = refl
begins-no_abort (Entered r) (Some Dark) n = refl
begins-no_abort (Entered r) (Some (Ended a)) n = refl
begins-no_abort (Sensed a b) m n = refl
begins-no_abort (Showed a) m n = refl
begins-no_abort (Committed a) m n = refl
begins-no_abort (Aborted a) m n = refl
begins-no_abort (Off a) m n = refl
begins-no_abort Dark m n = refl
begins-no_abort (Ended a) m n = refl

pub begins-abort : (s : Said) (m : Option Said) → begins_stretch s m ≡ true → IsAbort m
begins-abort (Entered r) None e = absurd (cc)
begins-abort (Entered r) (Some (Sensed a b)) e = absurd (cc)
begins-abort (Entered r) (Some (Showed a)) e = absurd (cc)
begins-abort (Entered r) (Some (Entered a)) e = absurd (cc)
begins-abort (Entered r) (Some (Committed a)) e = absurd (cc)
begins-abort (Entered r) (Some (Aborted a)) e = tt
begins-abort (Entered r) (Some (Off a)) e = absurd (cc)
begins-abort (Entered r) (Some Dark) e = absurd (cc)
begins-abort (Entered r) (Some (Ended a)) e = absurd (cc)
begins-abort (Sensed a b) m e = absurd (cc)
begins-abort (Showed a) m e = absurd (cc)
begins-abort (Committed a) m e = absurd (cc)
begins-abort (Aborted a) m e = absurd (cc)
begins-abort (Off a) m e = absurd (cc)
begins-abort Dark m e = absurd (cc)
begins-abort (Ended a) m e = absurd (cc)

-- what comes after a mark doesn't matter
later : (s i : Said) (m n : Option Said) → begins_stretch s m ≡ begins_stretch s n → begins_stretch s (mark_or i m) ≡ begins_stretch s (mark_or i n)
later s (Sensed a b) m n e = e
later s (Showed a) m n e = e
later s (Entered a) m n e = refl
later s (Committed a) m n e = refl
later s (Aborted a) m n e = refl
later s (Off a) m n e = e
later s Dark m n e = e
later s (Ended a) m n e = e

-- what is appended begins with no `abort`, so it ends no stretch that began before
begins-append : (s : Said) (xs ys : List Told) → NoAbort (next_mark ys) → begins_stretch s (next_mark (xs ++ ys)) ≡ begins_stretch s (next_mark xs)
begins-append s [] ys n = begins-no_abort s (next_mark ys) n ∙ sym (begins-no_abort s None tt)
begins-append s (i ∷ xs) ys n = later s i.said (next_mark (xs ++ ys)) (next_mark xs) (begins-append s xs ys n)

-- an `abort` is ahead where the place lies in a stretch
abbrev pub HasAhead : Bool → List Told → Type 0
HasAhead true xs = IsAbort (next_mark xs)
HasAhead false xs = Unit {0}

pub ahead_on : (i : Said) (xs : List Told) → IsAbort (mark_or i (next_mark xs)) → HasAhead (goes_on i) xs
ahead_on (Sensed a b) xs h = h
ahead_on (Showed a) xs h = h
ahead_on (Entered a) xs h = absurd h
ahead_on (Committed a) xs h = absurd h
ahead_on (Aborted a) xs h = tt
ahead_on (Off a) xs h = h
ahead_on Dark xs h = h
ahead_on (Ended a) xs h = h

choice-append : (c : Bool) (i : Told) (xs ys : List Told) → begins_stretch i.said (next_mark xs) ≡ c
    → (HasAhead true xs → erase_from true (xs ++ ys) ≡ erase_from true xs ++ erase_from false ys) → erase_from false (xs ++ ys) ≡ erase_from false xs ++ erase_from false ys
    → (if c then erase_from true (xs ++ ys) else i ∷ erase_from false (xs ++ ys)) ≡ (if c then erase_from true xs else i ∷ erase_from false xs) ++ erase_from false ys
choice-append true i xs ys e ht hf = ht (begins-abort i.said (next_mark xs) e)
choice-append false i xs ys e ht hf = ap (λ l. i ∷ l) hf

erase_from-append : (b : Bool) (xs ys : List Told) → HasAhead b xs → NoAbort (next_mark ys) → erase_from b (xs ++ ys) ≡ erase_from b xs ++ erase_from false ys
erase_from-append true [] ys a n = absurd a
erase_from-append false [] ys a n = refl
erase_from-append true (i ∷ xs) ys a n = erase_from-append (goes_on i.said) xs ys (ahead_on i.said xs a) n
erase_from-append false (i ∷ xs) ys a n =
    ap (λ c. if c then erase_from true (xs ++ ys) else i ∷ erase_from false (xs ++ ys)) (begins-append i.said xs ys n)
    ∙ choice-append (begins_stretch i.said (next_mark xs)) i xs ys refl (λ h. erase_from-append true xs ys h n) (erase_from-append false xs ys tt n)

pub erase-append : (xs ys : List Told) → NoAbort (next_mark ys) → erase (xs ++ ys) ≡ erase xs ++ erase ys
erase-append xs ys n = erase_from-append false xs ys tt n
