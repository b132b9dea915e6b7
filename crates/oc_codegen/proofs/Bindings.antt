-- Bindings in the order in which they were made, and the visible variables, newest first.
use Rattle.std.proofs.Common.{◌≡◌, ℕ, zero, suc, ◌+◌, ◌-◌, ◌<◌, ◌≤◌, Bool, true, false, List, [], ◌∷◌, ◌++◌, length, take, drop, refl, sym, ap, ◌∙◌, arith}
use Rattle.std.specs.Prelude.{slice_index_or, if◌then◌else◌}
use Rattle.std.specs.Str.{bytes_eq}
use Rattle.oc_tree.specs.Names.{Text}
use Rattle.oc_code.specs.Scope.{Named, named}
use Rattle.oc_codegen.specs.declared.scope.Binding.{Binding}
use Rattle.oc_codegen.specs.Slots.{binding_view, onto, visible}

-- one more binding
pub onto_push : (bs : List Binding) (b : Binding) (γ : List Named) → onto (bs ++ b ∷ []) γ ≡ binding_view b ∷ onto bs γ
onto_push [] b γ = refl
onto_push (a ∷ bs) b γ = onto_push bs b (binding_view a ∷ γ)

pub visible_push : (bs : List Binding) (b : Binding) → visible (bs ++ b ∷ []) ≡ binding_view b ∷ visible bs
visible_push bs b = onto_push bs b []

length_onto : (bs : List Binding) (γ : List Named) → length (onto bs γ) ≡ length bs + length γ
length_onto [] γ = omega arith
length_onto (b ∷ bs) γ = omega (arith, length_onto bs (binding_view b ∷ γ))

-- as many variables as bindings
pub length_visible : (bs : List Binding) → length (visible bs) ≡ length bs
length_visible bs = omega (arith, length_onto bs [])

pub behind : (n : ℕ) (γ : List Named) (g : Named) (rest : List Named) → drop n γ ≡ g ∷ rest → drop (suc n) γ ≡ rest
behind zero [] g rest h = cc
behind (suc n) [] g rest h = cc
behind zero (a ∷ γ) g rest h = cc
behind (suc n) (a ∷ γ) g rest h = behind n γ g rest h

older : (bs : List Binding) (γ : List Named) → drop (length bs) (onto bs γ) ≡ γ
older [] γ = refl
older (b ∷ bs) γ = behind (length bs) (onto bs (binding_view b ∷ γ)) (binding_view b) γ (older bs (binding_view b ∷ γ))

onto_take : (n : ℕ) (bs : List Binding) (γ : List Named) → onto (take n bs) γ ≡ drop (length bs - n) (onto bs γ)
onto_take zero [] γ = refl
onto_take (suc n) [] γ =
    let e : zero - suc n ≡ zero = omega arith in
    sym (ap (λ m. drop m γ) e)
onto_take zero (b ∷ bs) γ =
    let e : suc (length bs) - zero ≡ suc (length bs) = omega arith in
    sym (ap (λ m. drop m (onto bs (binding_view b ∷ γ))) e ∙ older (b ∷ bs) γ)
onto_take (suc n) (b ∷ bs) γ =
    let e : suc (length bs) - suc n ≡ length bs - n = omega arith in
    onto_take n bs (binding_view b ∷ γ) ∙ sym (ap (λ m. drop m (onto bs (binding_view b ∷ γ))) e)

-- the oldest bindings
pub visible_take : (n : ℕ) (bs : List Binding) → visible (take n bs) ≡ drop (length (visible bs) - n) (visible bs)
visible_take n bs = onto_take n bs [] ∙ sym (ap (λ m. drop (m - n) (visible bs)) (length_visible bs))

onto_next : (i : ℕ) (bs : List Binding) (b : Binding) (γ : List Named) → i < length bs → b ≡ slice_index_or bs i b → onto (take (suc i) bs) γ ≡ binding_view b ∷ onto (take i bs) γ
onto_next i [] b γ h e = absurd (omega (arith, h))
onto_next zero (a ∷ bs) b γ h e = ap (λ x. binding_view x ∷ γ) (sym e)
onto_next (suc i) (a ∷ bs) b γ h e =
    let l : i < length bs = omega (arith, h) in
    onto_next i bs b (binding_view a ∷ γ) l e

-- the newest of the oldest bindings
pub visible_next : (i : ℕ) (bs : List Binding) (b : Binding) → i < length bs → b ≡ slice_index_or bs i b → visible (take (i + 1) bs) ≡ binding_view b ∷ visible (take i bs)
visible_next i bs b h e =
    let n : i + 1 ≡ suc i = omega arith in
    ap (λ m. visible (take m bs)) n ∙ onto_next i bs b [] h e

by_test : (x : Text) (b : Binding) (γ : List Named) (t : Bool) → bytes_eq x b.name.now ≡ t → named (binding_view b ∷ γ) x ≡ (if t then binding_view b else named γ x)
by_test x b γ t h = ap (λ t. if t then binding_view b else named γ x) h

newest : (i : ℕ) (bs : List Binding) (b : Binding) → 0 < i → i ≤ length bs → b ≡ slice_index_or bs (i - 1) b → visible (take i bs) ≡ binding_view b ∷ visible (take (i - 1) bs)
newest i bs b p h e =
    let l : i - 1 < length bs = omega (arith, p, h) in
    let n : i - 1 + 1 ≡ i = omega (arith, p) in
    ap (λ m. visible (take m bs)) (sym n) ∙ visible_next (i - 1) bs b l e

-- the newest of the bindings that are left has the name
pub found : (x : Text) (i : ℕ) (bs : List Binding) (b : Binding) (γ : List Named) → 0 < i → i ≤ length bs → b ≡ slice_index_or bs (i - 1) b → named (visible (take i bs)) x
    ≡ named γ x → bytes_eq x b.name.now ≡ true → binding_view b ≡ named γ x
found x i bs b γ p h e is t =
    sym (ap (λ l. named l x) (newest i bs b p h e) ∙ by_test x b (visible (take (i - 1) bs)) true t) ∙ is

-- it has another name
pub passed : (x : Text) (i : ℕ) (bs : List Binding) (b : Binding) (γ : List Named) → 0 < i → i ≤ length bs → b ≡ slice_index_or bs (i - 1) b → named (visible (take i bs)) x
    ≡ named γ x → bytes_eq x b.name.now ≡ false → named (visible (take (i - 1) bs)) x ≡ named γ x
passed x i bs b γ p h e is t =
    sym (ap (λ l. named l x) (newest i bs b p h e) ∙ by_test x b (visible (take (i - 1) bs)) false t) ∙ is
