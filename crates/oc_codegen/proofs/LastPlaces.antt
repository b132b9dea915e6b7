-- Behind the places that are kept beside names none of them comes, so that a search may begin there.
use Rattle.std.proofs.Common.{◌≡◌, ℕ, zero, suc, ◌-◌, ◌≤◌, Bool, true, false, true≢false, cond, List, [], ◌∷◌, ◌++◌, length, take, drop, Option, Some, refl, sym, ap, ◌∙◌, arith, Bor, min}
use Rattle.std.specs.Prelude.{◌&&◌, ◌||◌, if◌then◌else◌, nat_eq, not}
use Rattle.std.specs.List.{list_any}
use Rattle.std.specs.Str.{bytes_eq}
use Rattle.std.proofs.lemmas.Bool.{eqb-true, or_from, or_parts}
use Rattle.std.proofs.lemmas.Slice.Eq.{bytes_eq-Decides}
use Rattle.std.proofs.lemmas.List.{drop_all, length-append, length-take, take_all, take-append-le, take-take}
use Rattle.std.proofs.lemmas.List.Folds.{list_any-append}
use Rattle.indexmap.specs.IndexMap.{insert_entry}
use Rattle.oc_tree.specs.Names.{Text, named_in}
use Rattle.oc_names.proofs.Entries.{seen}
use Rattle.oc_code.specs.Scope.{Named, named}
use Rattle.oc_codegen.specs.declared.scope.Binding.{Binding}
use Rattle.oc_codegen.specs.Slots.{binding_view, onto, visible}
use Rattle.oc_codegen.specs.Last.{AreLast, ArePlain, has_name, is_any_fresh}
use Rattle.oc_codegen.proofs.Bindings.{visible_take}

-- ---- names with places

-- one more name, or another place beside it
abbrev with_place : List (Bor Text × ℕ) → Bor Text → ℕ → List (Bor Text × ℕ)
with_place es k n = insert_entry (λ x y. bytes_eq x.now y.now) es k n

hidden : (b : Bool) (n : ℕ) (m o : Option ℕ) → cond b (Some n) o ≡ cond b (Some n) (cond b m o)
hidden true n m o = refl
hidden false n m o = refl

swapped : (b c : Bool) (n m : ℕ) (o : Option ℕ) → (b ≡ true → c ≡ true → ⊥) → cond b (Some m) (cond c (Some n) o) ≡ cond c (Some n) (cond b (Some m) o)
swapped true true n m o h = absurd (h refl refl)
swapped true false n m o h = refl
swapped false c n m o h = refl

-- a name is found at the new place, and each other one as before
placed : (es : List (Bor Text × ℕ)) (k : Bor Text) (n : ℕ) (x : Text) → named_in (seen (with_place es k n)) x ≡ cond (bytes_eq x k.now) (Some n) (named_in (seen es) x)
placed [] k n x = refl
placed (e ∷ es) k n x = by (bytes_eq k.now e.0.now) refl (placed es k n x)
  where
    by : (b : Bool) → bytes_eq k.now e.0.now ≡ b → named_in (seen (with_place es k n)) x ≡ cond (bytes_eq x k.now) (Some n) (named_in (seen es) x)
        → named_in (seen (cond b ((e.0, n) ∷ es) (e ∷ with_place es k n))) x ≡ cond (bytes_eq x k.now) (Some n) (cond (bytes_eq x e.0.now) (Some e.1) (named_in (seen es) x))
    by true t h =
        hidden (bytes_eq x e.0.now) n (Some e.1) (named_in (seen es) x)
        ∙ ap (λ y. cond (bytes_eq x y) (Some n) (cond (bytes_eq x e.0.now) (Some e.1) (named_in (seen es) x))) (sym ((bytes_eq-Decides k.now e.0.now).0 t))
    by false t h =
        ap (cond (bytes_eq x e.0.now) (Some e.1)) h
        ∙ swapped (bytes_eq x e.0.now) (bytes_eq x k.now) n e.1 (named_in (seen es) x)
        (λ u v. true≢false (sym ((bytes_eq-Decides k.now e.0.now).1 (sym ((bytes_eq-Decides x k.now).0 v) ∙ (bytes_eq-Decides x e.0.now).0 u)) ∙ t))

-- ---- bindings without a name

-- none of fewer bindings has it
fewer : (x : Text) (j m : ℕ) (bs : List Binding) → has_name x (drop j bs) ≡ false → has_name x (drop j (take m bs)) ≡ false
fewer x zero zero bs h = refl
fewer x (suc j) zero bs h = refl
fewer x zero (suc m) [] h = refl
fewer x (suc j) (suc m) [] h = refl
fewer x zero (suc m) (b ∷ bs) h =
    let s = or_parts (bytes_eq x b.name.now) (has_name x bs) h in
    or_from (bytes_eq x b.name.now) (has_name x (take m bs)) s.0 (fewer x zero m bs s.1)
fewer x (suc j) (suc m) (b ∷ bs) h = fewer x j m bs h

-- one more binding, of another name
another : (x : Text) (j : ℕ) (bs : List Binding) (b : Binding) → has_name x (drop j bs) ≡ false → bytes_eq x b.name.now ≡ false → has_name x (drop j (bs ++ b ∷ [])) ≡ false
another x zero [] b h e = ap (λ t. t || false) e
another x (suc zero) [] b h e = refl
another x (suc (suc j)) [] b h e = refl
another x zero (c ∷ bs) b h e =
    let s = or_parts (bytes_eq x c.name.now) (has_name x bs) h in
    or_from (bytes_eq x c.name.now) (has_name x (bs ++ b ∷ [])) s.0 (another x zero bs b s.1 e)
another x (suc j) (c ∷ bs) b h e = another x j bs b h e

-- nothing stands past the end
past : (x : Text) (j : ℕ) (bs : List Binding) → length bs ≤ j → has_name x (drop j bs) ≡ false
past x j bs h = ap (has_name x) (drop_all j bs h)

-- ---- what is kept

-- a place behind all bindings
pub last_placed : (bs : List Binding) (es : List (Bor Text × ℕ)) (k : Bor Text) (n : ℕ) → n ≡ length bs → AreLast bs es → AreLast bs (with_place es k n)
last_placed bs es k n l h = λ x i e. by x i (bytes_eq x k.now) (sym (placed es k n x) ∙ e)
  where
    by : (x : Text) (i : ℕ) (b : Bool) → cond b (Some n) (named_in (seen es) x) ≡ Some i → has_name x (drop (suc i) bs) ≡ false
    by x i true e = let same : n ≡ i = cc in past x (suc i) bs (omega (arith, l, same))
    by x i false e = h x i e

-- and then the binding
pub last_declared : (bs : List Binding) (es : List (Bor Text × ℕ)) (b : Binding) (k : Bor Text) (n : ℕ) → n ≡ length bs → b.name.now ≡ k.now → AreLast bs es
    → AreLast (bs ++ b ∷ []) (with_place es k n)
last_declared bs es b k n l s h = λ x i e. by x i (bytes_eq x k.now) refl (sym (placed es k n x) ∙ e)
  where
    by : (x : Text) (i : ℕ) (t : Bool) → bytes_eq x k.now ≡ t → cond t (Some n) (named_in (seen es) x) ≡ Some i → has_name x (drop (suc i) (bs ++ b ∷ [])) ≡ false
    by x i true t e =
        let same : n ≡ i = cc in
        past x (suc i) (bs ++ b ∷ []) (omega (arith, l, same, length-append bs (b ∷ [])))
    by x i false t e = another x (suc i) bs b (h x i e) (ap (bytes_eq x) s ∙ t)

-- fewer bindings
pub last_taken : (m : ℕ) (bs : List Binding) (es : List (Bor Text × ℕ)) → AreLast bs es → AreLast (take m bs) es
last_taken m bs es h = λ x i e. fewer x (suc i) m bs (h x i e)

-- ---- the newest variable

silent : (x : Text) (bs : List Binding) (γ : List Named) → has_name x bs ≡ false → named (onto bs γ) x ≡ named γ x
silent x [] γ h = refl
silent x (b ∷ bs) γ h =
    let s = or_parts (bytes_eq x b.name.now) (has_name x bs) h in
    silent x bs (binding_view b ∷ γ) s.1 ∙ ap (λ t. if t then binding_view b else named γ x) s.0

onto_split : (j : ℕ) (bs : List Binding) (γ : List Named) → onto bs γ ≡ onto (drop j bs) (onto (take j bs) γ)
onto_split zero bs γ = refl
onto_split (suc j) [] γ = refl
onto_split (suc j) (b ∷ bs) γ = onto_split j bs (binding_view b ∷ γ)

-- it is among the oldest ones, where no binding behind these has the name
pub looked_through : (x : Text) (m : ℕ) (bs : List Binding) → has_name x (drop m bs) ≡ false → named (drop (length (visible bs) - m) (visible bs)) x ≡ named (visible bs) x
looked_through x m bs h =
    ap (λ γ. named γ x) (sym (visible_take m bs)) ∙ sym (ap (λ γ. named γ x) (onto_split m bs []) ∙ silent x (drop m bs) (visible (take m bs)) h)

-- all of them
pub looked_at_all : (x : Text) (m : ℕ) (bs : List Binding) → length bs ≤ m → named (drop (length (visible bs) - m) (visible bs)) x ≡ named (visible bs) x
looked_at_all x m bs h = looked_through x m bs (past x m bs h)

-- up to a place that is kept
pub looked_up_to : (x : Text) (i m : ℕ) (bs : List Binding) (es : List (Bor Text × ℕ)) → AreLast bs es → named_in (seen es) x ≡ Some i → m ≡ suc i
    → named (drop (length (visible bs) - m) (visible bs)) x ≡ named (visible bs) x
looked_up_to x i m bs es h e s = looked_through x m bs (ap (λ j. has_name x (drop j bs)) s ∙ h x i e)

-- ---- variables that aren't fresh

fewer_fresh : (n m : ℕ) (bs : List Binding) → n ≤ m → is_any_fresh (take m bs) ≡ false → is_any_fresh (take n bs) ≡ false
fewer_fresh zero m bs l h = refl
fewer_fresh (suc n) zero bs l h = absurd (omega (arith, l))
fewer_fresh (suc n) (suc m) [] l h = refl
fewer_fresh (suc n) (suc m) (b ∷ bs) l h =
    let s = or_parts b.variable.fresh (is_any_fresh (take m bs)) h in
    or_from b.variable.fresh (is_any_fresh (take n bs)) s.0 (fewer_fresh n m bs (omega (arith, l)) s.1)

-- with one more variable
pub plain_declared : (n : ℕ) (bs : List Binding) (b : Binding) (place all : ℕ) → place ≡ length bs → all ≡ length (bs ++ b ∷ []) → ArePlain n bs
    → ArePlain (if nat_eq n place && not b.variable.fresh then all else n) (bs ++ b ∷ [])
plain_declared n bs b place all p a h = by (nat_eq n place) (b.variable.fresh) refl refl
  where
    kept : ArePlain n (bs ++ b ∷ [])
    kept = (omega (arith, h.0, length-append bs (b ∷ [])), ap is_any_fresh (take-append-le n bs (b ∷ []) h.0) ∙ h.1)

    by : (t f : Bool) → nat_eq n place ≡ t → b.variable.fresh ≡ f → ArePlain (if t && not f then all else n) (bs ++ b ∷ [])
    by false f e g = kept
    by true true e g = kept
    by true false e g =
        let same : n ≡ length bs = omega (arith, eqb-true n place e, p) in
        let old : is_any_fresh bs ≡ false = ap is_any_fresh (sym (take_all n bs (omega (arith, same)))) ∙ h.1 in
        let none : is_any_fresh (bs ++ b ∷ []) ≡ false = list_any-append (λ c. c.variable.fresh) bs (b ∷ []) ∙ or_from (is_any_fresh bs) (b.variable.fresh || false) old (ap (λ c. c || false) g) in
        (omega (arith, a), ap is_any_fresh (take_all all (bs ++ b ∷ []) (omega (arith, a))) ∙ none)

-- with fewer variables
pub plain_taken : (n m : ℕ) (bs : List Binding) → ArePlain n bs → ArePlain (min n m) (take m bs)
plain_taken n m bs h =
    let few : min n m ≤ n = omega arith in
    let within : min n m ≤ m = omega arith in
    (omega (arith, h.0, length-take m bs), ap is_any_fresh (take-take (min n m) m bs within) ∙ fewer_fresh (min n m) n bs few h.1)

not_fresh : (x : Text) (bs : List Binding) (γ : List Named) → is_any_fresh bs ≡ false → (named γ x).fresh ≡ false → (named (onto bs γ) x).fresh ≡ false
not_fresh x [] γ h e = e
not_fresh x (b ∷ bs) γ h e =
    let s = or_parts b.variable.fresh (is_any_fresh bs) h in
    not_fresh x bs (binding_view b ∷ γ) s.1 (by (bytes_eq x b.name.now) s.0)
  where
    by : (t : Bool) → b.variable.fresh ≡ false → (if t then binding_view b else named γ x).fresh ≡ false
    by true f = f
    by false f = e

-- where all variables are plain no name is that of a fresh one
pub none_fresh : (n : ℕ) (bs : List Binding) → length bs ≤ n → ArePlain n bs → (x : Text) → (named (visible bs) x).fresh ≡ false
none_fresh n bs l h = λ x. not_fresh x bs [] (ap is_any_fresh (sym (take_all n bs l)) ∙ h.1) refl

pub none_of_any : {A : Type 0} (is : A → Bool) (xs : List A) → ((x : A) → is x ≡ false) → list_any is xs ≡ false
none_of_any is [] h = refl
none_of_any is (x ∷ xs) h = or_from (is x) (list_any is xs) (h x) (none_of_any is xs h)
