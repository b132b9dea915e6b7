-- Variables in the order in which they were made, and the visible ones, newest first.
use Rattle.std.proofs.Common.{◌≡◌, ℕ, ◌-◌, Bool, true, false, List, [], ◌∷◌, ◌++◌, length, map, reverse, take, drop, cond, refl, ap, sym, ◌∙◌, arith}
use Rattle.std.specs.Prelude.{find, Some}
use Rattle.std.specs.Str.{bytes_eq}
use Rattle.std.proofs.lemmas.Grind.{reverse_onto}
use Rattle.std.proofs.lemmas.List.{length-reverse, length-drop, reverse-append, take-append-drop, take-map, drop_at, map-append}
use Rattle.oc_tree.specs.Names.{Text}
use Rattle.oc_meaning.specs.Store.{binding_of}
use Rattle.oc_meaning.specs.declared.scope.Binding.{Binding}
use Rattle.oc_meaning.specs.Scopes.{binding_view, visible, found}

map-reverse : {A B : Type 0} (f : A → B) (xs : List A) → map f (reverse xs) ≡ reverse (map f xs)
map-reverse f [] = refl
map-reverse f (x ∷ xs) =
    ap (map f) (reverse_onto xs x []) ∙ map-append f (reverse xs) (x ∷ []) ∙ ap (λ l. l ++ f x ∷ []) (map-reverse f xs) ∙ sym (reverse_onto (map f xs) (f x) [])

found-first : (x : Text) (bs : List Binding) → found x (find (λ b. bytes_eq x b.name.now) bs) ≡ binding_of (map binding_view bs) x
found-first x [] = refl
found-first x (b ∷ bs) = by_test (bytes_eq x b.name.now) (found-first x bs)
  where
    by_test : (t : Bool) → found x (find (λ c. bytes_eq x c.name.now) bs) ≡ binding_of (map binding_view bs) x → found x (cond t (Some b) (find (λ c. bytes_eq x c.name.now) bs))
        ≡ cond t (binding_view b) (binding_of (map binding_view bs) x)
    by_test true rest = refl
    by_test false rest = rest

pub found-newest : (x : Text) (bs : List Binding) → found x (find (λ b. bytes_eq x b.name.now) (reverse bs)) ≡ binding_of (visible bs) x
found-newest x bs = found-first x (reverse bs) ∙ ap (λ l. binding_of l x) (map-reverse binding_view bs)

-- what stands newest first is left from its oldest
pub drop-reverse : {A : Type 0} (xs : List A) (n : ℕ) → drop (length (reverse xs) - n) (reverse xs) ≡ reverse (take n xs)
drop-reverse xs n =
    ap (λ l. drop (length (reverse xs) - n) l) (ap reverse (sym (take-append-drop n xs)) ∙ reverse-append (take n xs) (drop n xs))
    ∙ drop_at (reverse (drop n xs)) (reverse (take n xs)) (length (reverse xs) - n) (omega (arith, length-reverse xs, length-reverse (drop n xs), length-drop n xs))

pub visible-take : (bs : List Binding) (n : ℕ) → visible (take n bs) ≡ drop (length (visible bs) - n) (visible bs)
visible-take bs n = ap reverse (sym (take-map binding_view n bs)) ∙ sym (drop-reverse (map binding_view bs) n)
