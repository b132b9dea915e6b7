-- The topmost words of a stack, and the least kinds of them and of others.
use Rattle.std.proofs.Common.{◌≡◌, ℕ, zero, suc, ◌+◌, ◌<◌, ◌≤◌, List, [], ◌∷◌, ◌++◌, append_assoc, length, take, drop, map, Option, Some, None, refl, sym, ap, ◌∙◌, arith}
use Rattle.std.specs.Prelude.{slice_get}
use Rattle.std.specs.List.{All}
use Rattle.std.proofs.lemmas.List.Elements.{All-nil, All-cons}
use Rattle.oc_verify.specs.declared.kind.Kind.{Kind}
use Rattle.oc_verify.specs.Merging.{least, joined, leasts}
use Rattle.oc_verify.specs.Stacks.{Nodes, below_of, top_of, stack_to, stack_by, stack}
use Rattle.oc_verify.specs.Told.{kind_of, kinds}

abbrev Small : ℕ → Type 0
Small c = c < 8589934592

-- what stands on a stack is small
small_to : (ks : Nodes) (k n : ℕ) → All Small (stack_to ks k n)
unfolding stack_to
small_to ks zero n = All-nil Small
small_to ks (suc k) zero = All-nil Small
small_to ks (suc k) (suc n) = by (slice_get ks n) (λ x. small_to ks k (below_of x))
  where
    by : (o : Option ℕ) → ((x : ℕ) → All Small (stack_to ks k (below_of x))) → All Small (stack_by (stack_to ks k) o)
    by None ih = All-nil Small
    by (Some x) ih = All-cons Small (top_of x) (stack_to ks k (below_of x)) (omega arith) (ih x)

pub all_small : (ks : Nodes) (n : ℕ) → All (λ c. c < 8589934592) (stack ks n)
all_small ks n = small_to ks n n

low_to : (ks : Nodes) (k n : ℕ) → length (stack_to ks k n) ≤ k
unfolding stack_to
low_to ks zero n = omega arith
low_to ks (suc k) zero = omega arith
low_to ks (suc k) (suc n) = by (slice_get ks n) (λ x. low_to ks k (below_of x))
  where
    by : (o : Option ℕ) → ((x : ℕ) → length (stack_to ks k (below_of x)) ≤ k) → length (stack_by (stack_to ks k) o) ≤ suc k
    by None ih = omega arith
    by (Some x) ih = let h = ih x in omega (arith, h)

-- a stack is no higher than its number
pub stack_low : (ks : Nodes) (n : ℕ) → length (stack ks n) ≤ n
stack_low ks n = low_to ks n n

-- one word more

take_suc : {A : Type 0} (xs ys : List A) (d : ℕ) (y : A) → drop d xs ≡ y ∷ ys → take (suc d) xs ≡ take d xs ++ y ∷ []
take_suc [] ys zero y e = absurd (cc)
take_suc [] ys (suc d) y e = absurd (cc)
take_suc (x ∷ xs) ys zero y e = let h : x ≡ y = (cc) in ap (λ z. z ∷ []) h
take_suc (x ∷ xs) ys (suc d) y e = ap (λ l. x ∷ l) (take_suc xs ys d y e)

pub take_next : {A : Type 0} (xs ys : List A) (d : ℕ) (y : A) → drop d xs ≡ y ∷ ys → take (d + 1) xs ≡ take d xs ++ y ∷ []
take_next xs ys d y e = let n : d + 1 ≡ suc d = omega arith in ap (λ k. take k xs) n ∙ take_suc xs ys d y e

drop_suc : {A : Type 0} (xs ys : List A) (d : ℕ) (y : A) → drop d xs ≡ y ∷ ys → drop (suc d) xs ≡ ys
drop_suc [] ys zero y e = absurd (cc)
drop_suc [] ys (suc d) y e = absurd (cc)
drop_suc (x ∷ xs) ys zero y e = (cc)
drop_suc (x ∷ xs) ys (suc d) y e = drop_suc xs ys d y e

pub drop_next : {A : Type 0} (xs ys : List A) (d : ℕ) (y : A) → drop d xs ≡ y ∷ ys → drop (d + 1) xs ≡ ys
drop_next xs ys d y e = let n : d + 1 ≡ suc d = omega arith in ap (λ k. drop k xs) n ∙ drop_suc xs ys d y e

-- the least of two lists, of which the first ones are found

abbrev pub onto : List Kind → Option (List Kind) → Option (List Kind)
onto ks None = None
onto ks (Some rest) = Some (ks ++ rest)

onto_one : (ks : List Kind) (k : Kind) (o : Option (List Kind)) → onto ks (joined (Some k) o) ≡ onto (ks ++ k ∷ []) o
onto_one ks k None = refl
onto_one ks k (Some rest) = ap Some (sym (append_assoc ks (k ∷ []) rest))

onto_none : (ks : List Kind) (o : Option (List Kind)) → onto ks (joined None o) ≡ None
onto_none ks o = refl

kinds_more : (cs : List ℕ) (c : ℕ) → map kind_of (cs ++ c ∷ []) ≡ map kind_of cs ++ kind_of c ∷ []
kinds_more [] c = refl
kinds_more (d ∷ cs) c = ap (λ l. kind_of d ∷ l) (kinds_more cs c)

-- these are the codes of a list and the kinds of a stack; of both the next ones are taken
pub least_next : (ks : Nodes) (codes both rest : List ℕ) (n m code top one : ℕ) (whole : Option (List Kind)) → codes ≡ code ∷ rest → stack ks n ≡ top ∷ stack ks m
    → Some (kind_of one) ≡ least (kind_of code) (kind_of top)
    → whole ≡ onto (map kind_of both) (leasts (map kind_of codes) (kinds ks n)) → whole ≡ onto (map kind_of (both ++ one ∷ [])) (leasts (map kind_of rest) (kinds ks m))
least_next ks codes both rest n m code top one whole c s l w =
    w ∙ (λ j. onto (map kind_of both) (leasts (map kind_of (c j)) (map kind_of (s j)))) ∙ ap (λ o. onto (map kind_of both) (joined o (leasts (map kind_of rest) (kinds ks m)))) (sym l)
    ∙ onto_one (map kind_of both) (kind_of one) (leasts (map kind_of rest) (kinds ks m)) ∙ ap (λ x. onto x (leasts (map kind_of rest) (kinds ks m))) (sym (kinds_more both one))

pub least_stops : (ks : Nodes) (codes both rest : List ℕ) (n m code top : ℕ) (whole : Option (List Kind)) → codes ≡ code ∷ rest → stack ks n ≡ top ∷ stack ks m
    → least (kind_of code) (kind_of top) ≡ None
    → whole ≡ onto (map kind_of both) (leasts (map kind_of codes) (kinds ks n)) → whole ≡ None
least_stops ks codes both rest n m code top whole c s l w =
    w ∙ (λ j. onto (map kind_of both) (leasts (map kind_of (c j)) (map kind_of (s j)))) ∙ ap (λ o. onto (map kind_of both) (joined o (leasts (map kind_of rest) (kinds ks m)))) l
    ∙ onto_none (map kind_of both) (leasts (map kind_of rest) (kinds ks m))

pub least_done : (ks : Nodes) (codes both : List ℕ) (n : ℕ) (whole : Option (List Kind)) → codes ≡ [] → whole ≡ onto (map kind_of both) (leasts (map kind_of codes) (kinds ks n))
    → whole ≡ Some (map kind_of both)
least_done ks codes both n whole c w = w ∙ ap (λ l. onto (map kind_of both) (leasts (map kind_of l) (kinds ks n))) c ∙ ap Some (append_none (map kind_of both))
  where
    append_none : (xs : List Kind) → xs ++ [] ≡ xs
    append_none [] = refl
    append_none (x ∷ xs) = ap (λ l. x ∷ l) (append_none xs)

-- only as many words as there are codes count
pub leasts_take : (as' bs : List Kind) (n : ℕ) → length as' ≡ n → leasts as' bs ≡ leasts as' (take n bs)
leasts_take [] bs n e = refl
leasts_take (a ∷ as') [] zero e = refl
leasts_take (a ∷ as') [] (suc n) e = refl
leasts_take (a ∷ as') (b ∷ bs) zero e = absurd (omega (arith, e))
leasts_take (a ∷ as') (b ∷ bs) (suc n) e = ap (joined (least a b)) (leasts_take as' bs n (omega (arith, e)))
