-- Numbers that follow each other.
use Rattle.std.proofs.Common.{◌≡◌, refl, sym, ap, ◌∙◌, ℕ, zero, suc, ◌+◌, ◌<◌, arith, List, [], ◌∷◌, ◌++◌, map, length, append_assoc}
use Rattle.std.proofs.Math.ListN.{get_or}
use Rattle.std.proofs.lemmas.List.{map-append}
use Rattle.oc_flow.specs.Variables.{from}

from_end : (n count m : ℕ) → m ≡ n + count → from n (suc count) ≡ from n count ++ m ∷ []
from_end n zero m e = let i : n ≡ m = omega arith in ap (λ k. k ∷ []) i
from_end n (suc count) m e = ap (λ ks. n ∷ ks) (from_end (n + 1) count m (omega arith))

pub from_more : (n : ℕ) → from 0 (n + 1) ≡ from 0 n ++ n ∷ []
from_more n = let i : n + 1 ≡ suc n = omega arith in ap (from 0) i ∙ from_end 0 n n (omega arith)

pub map_from_more : {A : Type 0} (f : ℕ → A) (n : ℕ) → map f (from 0 (n + 1)) ≡ map f (from 0 n) ++ f n ∷ []
map_from_more f n = ap (map f) (from_more n) ∙ map-append f (from 0 n) (n ∷ [])

-- one element more, behind those of a list
pub push_from_more : {A : Type 0} (f : ℕ → A) (n : ℕ) (front old new : List A) (x : A) → old ≡ front ++ map f (from 0 n) → new ≡ old ++ x ∷ [] → x ≡ f n → new ≡ front ++ map f (from 0 (n + 1))
push_from_more f n front old new x i j k =
    j ∙ (ap (λ xs. xs ++ x ∷ []) i ∙ (append_assoc front (map f (from 0 n)) (x ∷ []) ∙ ap (λ xs. front ++ xs) (ap (λ y. map f (from 0 n) ++ y ∷ []) k ∙ sym (map_from_more f n))))

length_from : (n count : ℕ) → length (from n count) ≡ count
length_from n zero = refl
length_from n (suc count) = let e = length_from (n + 1) count in ap suc e

pub length_map_from : {A : Type 0} (f : ℕ → A) (n count : ℕ) → length (map f (from n count)) ≡ count
length_map_from f n zero = refl
length_map_from f n (suc count) = let e = length_map_from f (n + 1) count in ap suc e

get_from : {A : Type 0} (f : ℕ → A) (n count i : ℕ) (d : A) → i < count → get_or (map f (from n count)) i d ≡ f (n + i)
get_from f n zero i d h = absurd (omega arith)
get_from f n (suc count) zero d h = let e : n ≡ n + 0 = omega arith in ap f e
get_from f n (suc count) (suc i) d h = let e : n + 1 + i ≡ n + suc i = omega arith in get_from f (n + 1) count i d (omega arith) ∙ ap f e

-- what stands at a place
pub get_map_from : {A : Type 0} (f : ℕ → A) (count i : ℕ) (d : A) → i < count → get_or (map f (from 0 count)) i d ≡ f i
get_map_from f count i d h = let e : 0 + i ≡ i = omega arith in get_from f 0 count i d h ∙ ap f e

-- the same where the code's list is seen through a view
pub push_view_more : {A B : Type 0} (view : B → A) (f : ℕ → A) (n : ℕ) (old new : List B) (x : B) → map view old ≡ map f (from 0 n) → new ≡ old ++ x ∷ [] → view x ≡ f n
    → map view new ≡ map f (from 0 (n + 1))
push_view_more view f n old new x i j k =
    ap (map view) j ∙ (map-append view old (x ∷ []) ∙ (ap (λ xs. xs ++ view x ∷ []) i ∙ (ap (λ y. map f (from 0 n) ++ y ∷ []) k ∙ sym (map_from_more f n))))

-- what a view shows of an element that is read
pub get_of_map : {A B : Type 0} (view : A → B) (xs : List A) (i : ℕ) (x : A) (d : B) → i < length xs → x ≡ get_or xs i x → get_or (map view xs) i d ≡ view x
get_of_map view [] i x d h e = absurd (omega arith)
get_of_map view (y ∷ ys) zero x d h e = sym (ap view e)
get_of_map view (y ∷ ys) (suc i) x d h e = get_of_map view ys i x d (omega arith) e
