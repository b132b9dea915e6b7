-- What a function sees when it begins: its parameters and the nonvolatile variables.
use Rattle.std.proofs.Common.{◌≡◌, ◌⊎◌, inl, inr, ℕ, zero, suc, ◌+◌, ◌<◌, ◌≤◌, Bool, true, false, ◌==◌, List, [], ◌∷◌, length, map, Option, Some, None, refl, sym, ap, ◌∙◌, subst, arith}
use Rattle.std.proofs.lemmas.Bool.{and_from, or_left, or_right}
use Rattle.std.specs.Prelude.{cond, if◌then◌else◌, nat_lt, option_map, ◌||◌}
use Rattle.std.specs.Str.{bytes_eq}
use Rattle.std.proofs.lemmas.Slice.Eq.{bytes_eq-Decides}
use Rattle.oc_tree.specs.Names.{Text}
use Rattle.oc_tree.specs.Tree.{TFunction, TProgram}
use Rattle.oc_tree.specs.Calls.{place_from}
use Rattle.oc_tree.specs.Places.{find_variable, or_nonvolatile, param_variables, at_start}
use Rattle.oc_tree.specs.declared.tree.Param.{Param}
use Rattle.oc_tree.specs.declared.tree.VarId.{VarId}
use Rattle.oc_tree.specs.declared.tree.VarId.TheVariants as variables
use Rattle.oc_meaning.specs.Uses.{is_fresh}
use Rattle.oc_meaning.specs.Store.{Place, Local, Global, Nowhere, Store, Binding, binding_of, place_of}
use Rattle.oc_meaning.specs.Exec.{Passed, Copied, Lent}
use Rattle.oc_meaning.specs.Run.{Frame, nv_env}
use Rattle.oc_effects.specs.Effects.{params_at}
use Rattle.oc_flow.specs.Variables.{same_variable, is_among, is_variable, from}
use Rattle.oc_copies.specs.Copies.{own_param, own_params, own_frame}
use Rattle.oc_timely.specs.Within.{Where, place_in, start_where}
use Rattle.oc_copies.specs.Stands.{Stands}
use Rattle.oc_timely.specs.Scopes.{scope_of}
use Rattle.oc_timely.specs.Modes.{Sees}
use Rattle.oc_copies.proofs.Frames.{all_many}
use Rattle.oc_timely.proofs.Sources.{among_front, among_back}
use Rattle.oc_flow.proofs.Lists.{same_itself}

-- ---- variables that a function has

from_has : (c : ℕ → VarId) (n count i : ℕ) → n ≤ i → i < n + count → is_among (c i) (map c (from n count)) ≡ true
from_has c n zero i l u = absurd (omega (arith, l, u))
from_has c n (suc count) i l u = by (n == i) refl (λ l'. from_has c (n + 1) count i l' (omega (arith, u)))
  where
    by : (b : Bool) → (n == i) ≡ b → (n + 1 ≤ i → is_among (c i) (map c (from (n + 1) count)) ≡ true) → same_variable (c i) (c n) || is_among (c i) (map c (from (n + 1) count)) ≡ true
    by true e rest = let s : n ≡ i = grind (arith, e) in or_left (same_variable (c i) (c n)) (is_among (c i) (map c (from (n + 1) count))) (ap (λ k. same_variable (c i) (c k)) s ∙ same_itself (c i))
    by false e rest = or_right (same_variable (c i) (c n)) (is_among (c i) (map c (from (n + 1) count))) (rest (let s : n ≡ i → ⊥ = grind (arith, e) in grind (arith, s, l)))

-- ---- names

-- parameters have names of their own
abbrev pub AreDistinct : ℕ → List Param → Type 0
AreDistinct i [] = Unit {0}
AreDistinct i (q ∷ qs) = (find_variable (param_variables (i + 1) qs) q.name ≡ None) × AreDistinct (i + 1) qs

-- where a name is, when it stands for this
abbrev found_at : Where → List Binding → Text → Option VarId → Place
found_at w env y None = place_of env y
found_at w env y (Some v) = w v

-- one parameter more
named_one : (w : Where) (old : List Binding) (b : Binding) (i : ℕ) (qs : List Param) (y : Text) (at : Place) → b.place ≡ w (variables.Param i) →
    find_variable (param_variables (i + 1) qs) b.name ≡ None →
    at ≡ found_at w (b ∷ old) y (find_variable (param_variables (i + 1) qs) y) → (c : Bool) → bytes_eq y b.name ≡ c
    → at ≡ found_at w old y (cond c (Some (variables.Param i)) (find_variable (param_variables (i + 1) qs) y))
named_one w old b i qs y at its none rest true e =
    rest ∙ ap (found_at w (b ∷ old) y) (ap (find_variable (param_variables (i + 1) qs)) ((bytes_eq-Decides y b.name).0 e) ∙ none) ∙ ap (λ c. (if c then b else binding_of old y).place) e ∙ its
named_one w old b i qs y at its none rest false e = rest ∙ last (find_variable (param_variables (i + 1) qs) y)
  where
    last : (o : Option VarId) → found_at w (b ∷ old) y o ≡ found_at w old y o
    last None = ap (λ c. (if c then b else binding_of old y).place) e
    last (Some v) = refl

named_from : (σ : Store) (w : Where) (base i total : ℕ) (qs : List Param) (ps : List Passed) (fr : Frame) → length ps ≡ length qs → AreDistinct i qs → length fr.locals ≡ base + i →
    i + length qs ≤ total → ((j : ℕ) → j < total → w (variables.Param j) ≡ Local (base + j)) →
    (y : Text) → place_of (own_params σ qs ps fr).env y ≡ found_at w fr.env y (find_variable (param_variables i qs) y)
named_from σ w base i total [] ps fr many distinct here few params y = refl
named_from σ w base i total (q ∷ qs) [] fr many distinct here few params y = absurd (omega (arith, many))
named_from σ w base i total (q ∷ qs) (Copied v ∷ ps) fr many distinct here few params y =
    named_one w fr.env (record { name = q.name; place = Local (length fr.locals); reference = false; fresh = false }) i qs y _ (ap Local here ∙ sym (params i (omega (arith, few)))) distinct.0
    (named_from σ w base (i + 1) total qs ps (own_param σ q.name (Copied v) fr) (omega (arith, many)) distinct.1 (omega (arith, here)) (omega (arith, few)) params y) (bytes_eq y q.name) refl
named_from σ w base i total (q ∷ qs) (Lent a ∷ ps) fr many distinct here few params y =
    named_one w fr.env (record { name = q.name; place = Local (length fr.locals); reference = true; fresh = false }) i qs y _ (ap Local here ∙ sym (params i (omega (arith, few)))) distinct.0
    (named_from σ w base (i + 1) total qs ps (own_param σ q.name (Lent a) fr) (omega (arith, many)) distinct.1 (omega (arith, here)) (omega (arith, few)) params y) (bytes_eq y q.name) refl

-- nothing is annotated yet
plain_from : (σ : Store) (qs : List Param) (ps : List Passed) (fr : Frame) → ((y : Text) → is_fresh fr.env y ≡ false) → (y : Text) → is_fresh (own_params σ qs ps fr).env y ≡ false
plain_from σ [] ps fr h y = h y
plain_from σ (q ∷ qs) [] fr h y = h y
plain_from σ (q ∷ qs) (Copied v ∷ ps) fr h y = plain_from σ qs ps (own_param σ q.name (Copied v) fr) (λ z. by z (bytes_eq z q.name)) y
  where
    by : (z : Text) (c : Bool) → (if c then record { name = q.name; place = Local (length fr.locals); reference = false; fresh = false } else binding_of fr.env z).fresh ≡ false
    by z true = refl
    by z false = h z
plain_from σ (q ∷ qs) (Lent a ∷ ps) fr h y = plain_from σ qs ps (own_param σ q.name (Lent a) fr) (λ z. by z (bytes_eq z q.name)) y
  where
    by : (z : Text) (c : Bool) → (if c then record { name = q.name; place = Local (length fr.locals); reference = true; fresh = false } else binding_of fr.env z).fresh ≡ false
    by z true = refl
    by z false = h z

nv_plain : (n : ℕ) (xs : List Text) (y : Text) → is_fresh (nv_env n xs) y ≡ false
nv_plain n [] y = refl
nv_plain n (x ∷ xs) y = by (bytes_eq y x) (nv_plain (suc n) xs y)
  where
    by : (c : Bool) → is_fresh (nv_env (suc n) xs) y ≡ false → (if c then record { name = x; place = Global n; reference = false; fresh = false } else binding_of (nv_env (suc n) xs) y).fresh ≡ false
    by true h = refl
    by false h = h

-- a nonvolatile variable is where its name says
nv_named : (w : Where) (total n : ℕ) (xs : List Text) → n + length xs ≤ total → ((i : ℕ) → i < total → w (variables.Nv i) ≡ Global i) → (y : Text) →
    place_of (nv_env n xs) y ≡ place_in w (option_map variables.Nv (place_from n xs y))
nv_named w total n [] few nvs y = refl
nv_named w total n (x ∷ xs) few nvs y =
    by (bytes_eq y x) (subst (λ m. place_of (nv_env m xs) y ≡ place_in w (option_map variables.Nv (place_from (n + 1) xs y))) (omega arith) (nv_named w total (n + 1) xs (omega (arith, few)) nvs y))
  where
    by : (c : Bool) → place_of (nv_env (suc n) xs) y ≡ place_in w (option_map variables.Nv (place_from (n + 1) xs y))
        → (if c then record { name = x; place = Global n; reference = false; fresh = false } else binding_of (nv_env (suc n) xs) y).place
        ≡ place_in w (option_map variables.Nv (cond c (Some n) (place_from (n + 1) xs y)))
    by true h = sym (nvs n (omega (arith, few)))
    by false h = h

-- ---- the start

module _ (p : TProgram) (f : ℕ) (g : TFunction) (inside : nat_lt f (length p.functions) ≡ true) (params : params_at p f ≡ g.params) (distinct : AreDistinct 0 g.params) where
  has_nv : (i : ℕ) → i < length p.names.nvs → is_variable p f (variables.Nv i) ≡ true
  has_nv i h = and_from _ _ inside (among_front (variables.Nv i) (map variables.Nv (from 0 (length p.names.nvs))) _ (from_has variables.Nv 0 (length p.names.nvs) i (omega arith) (omega (arith, h))))

  has_param : (i : ℕ) → i < length (params_at p f) → is_variable p f (variables.Param i) ≡ true
  has_param i h = and_from _ _ inside (among_back (variables.Param i) (map variables.Nv (from 0 (length p.names.nvs))) _
      (among_front (variables.Param i) (map variables.Param (from 0 (length (params_at p f)))) _ (from_has variables.Param 0 (length (params_at p f)) i (omega arith) (omega (arith, h)))))

  module _ (base : ℕ) where
    abbrev w : Where
    w = start_where p f base

    at_nv : (i : ℕ) → i < length p.names.nvs → w (variables.Nv i) ≡ Global i
    at_nv i h = let e : nat_lt i (length p.names.nvs) ≡ true = grind (arith, h) in ap (λ c. if c then Global i else Nowhere) e

    at_param : (j : ℕ) → j < length (params_at p f) → w (variables.Param j) ≡ Local (base + j)
    at_param j h = let e : nat_lt j (length (params_at p f)) ≡ true = grind (arith, h) in ap (λ c. if c then Local (base + j) else Nowhere) e

    known : (v : VarId) → (w v ≡ Nowhere) ⊎ (is_variable p f v ≡ true)
    known (variables.Nv i) = by (nat_lt i (length p.names.nvs)) refl
      where
        by : (c : Bool) → nat_lt i (length p.names.nvs) ≡ c → ((if c then Global i else Nowhere) ≡ Nowhere) ⊎ (is_variable p f (variables.Nv i) ≡ true)
        by true e = inr (has_nv i (grind (arith, e)))
        by false e = inl refl
    known (variables.Param j) = by (nat_lt j (length (params_at p f))) refl
      where
        by : (c : Bool) → nat_lt j (length (params_at p f)) ≡ c → ((if c then Local (base + j) else Nowhere) ≡ Nowhere) ⊎ (is_variable p f (variables.Param j) ≡ true)
        by true e = inr (has_param j (grind (arith, e)))
        by false e = inl refl
    known (variables.Declared s) = inl refl
    known variables.Returned = inl refl

    nv_local : (i l : ℕ) (c : Bool) → (if c then Global i else Nowhere) ≡ Local l → ⊥
    nv_local i l true e = cc
    nv_local i l false e = cc

    param_local : (j l : ℕ) (c : Bool) → nat_lt j (length (params_at p f)) ≡ c → (if c then Local (base + j) else Nowhere) ≡ Local l → (l ≡ base + j) × (j < length (params_at p f))
    param_local j l true q e = let n : base + j ≡ l = cc in (sym n, grind (arith, q))
    param_local j l false q e = absurd (cc)

    -- only parameters are local
    is_param : (v : VarId) (l : ℕ) → w v ≡ Local l → (j : ℕ) × (v ≡ variables.Param j) × (l ≡ base + j) × (j < length (params_at p f))
    is_param (variables.Nv i) l e = absurd (nv_local i l (nat_lt i (length p.names.nvs)) e)
    is_param (variables.Param j) l e = let a = param_local j l (nat_lt j (length (params_at p f))) refl e in (j, refl, a.0, a.1)
    is_param (variables.Declared s) l e = absurd (cc)
    is_param variables.Returned l e = absurd (cc)

    nv_global : (i k : ℕ) (c : Bool) → (if c then Global i else Nowhere) ≡ Global k → i ≡ k
    nv_global i k true e = cc
    nv_global i k false e = absurd (cc)

    param_global : (j k : ℕ) (c : Bool) → (if c then Local (base + j) else Nowhere) ≡ Global k → ⊥
    param_global j k true e = cc
    param_global j k false e = cc

    is_nv : (v : VarId) (k : ℕ) → w v ≡ Global k → v ≡ variables.Nv k
    is_nv (variables.Nv i) k e = ap variables.Nv (nv_global i k (nat_lt i (length p.names.nvs)) e)
    is_nv (variables.Param j) k e = absurd (param_global j k (nat_lt j (length (params_at p f))) e)
    is_nv (variables.Declared s) k e = absurd (cc)
    is_nv variables.Returned k e = absurd (cc)

  -- what a function sees when it begins
  pub begins_sees : (n : ℕ) (ps : List Passed) (σ : Store) → length ps ≡ length g.params →
      Stands p (scope_of p f (at_start g).variables) (own_frame p g ps σ).env (record σ { locals = (own_frame p g ps σ).locals }) →
      Sees p f (length σ.locals) n (at_start g) (own_frame p g ps σ).env (start_where p f (length σ.locals)) (record σ { locals = (own_frame p g ps σ).locals })
  begins_sees n ps σ many stands =
      let frame : Frame = record { env = nv_env 0 p.names.nvs; locals = σ.locals } in
      let size = all_many σ g.params ps frame many in
      let total : length (params_at p f) ≡ length g.params = ap (λ (qs : List Param). length qs) params in
      record {
        owns = record {
          named =
              λ y. named_from σ (start_where p f (length σ.locals)) (length σ.locals) 0 (length (params_at p f)) g.params ps frame many distinct (omega arith) (omega (arith, total))
              (at_param (length σ.locals)) y ∙ either y (find_variable (param_variables 0 g.params) y);
          known = known (length σ.locals);
          own = λ v l e. let a = is_param (length σ.locals) v l e in (let b = a.2 in omega (arith, b), let b = a.2 in let c = a.3 in omega (arith, b, c, size, many, total));
          apart = λ u v l e h.
              let a = is_param (length σ.locals) u l e in
              let b = is_param (length σ.locals) v l h in
              let same : a.0 ≡ b.0 = (let c = a.2 in let d = b.2 in omega (arith, c, d)) in
              a.1 ∙ ap variables.Param same ∙ sym b.1;
          stored = is_nv (length σ.locals);
          result = refl;
        };
        room = omega (arith, size);
        stands = stands;
        older = λ s. inl refl;
        global = at_nv (length σ.locals);
        fresh = λ y e. let no_note = plain_from σ g.params ps frame (λ z. nv_plain 0 p.names.nvs z) y in let q : true ≡ false = sym e ∙ no_note in absurd (cc);
      }
    where
      either : (y : Text) (o : Option VarId) → found_at (start_where p f (length σ.locals)) (nv_env 0 p.names.nvs) y o ≡ place_in (start_where p f (length σ.locals)) (or_nonvolatile p y o)
      either y None = nv_named (start_where p f (length σ.locals)) (length p.names.nvs) 0 p.names.nvs (omega arith) (at_nv (length σ.locals)) y
      either y (Some v) = refl
