-- What is asked of known functions.
use Rattle.std.proofs.Common.{◌≡◌, ◌<◌, ◌≤◌, ◌⊎◌, inl, inr, map, ℕ, zero, suc, Bool, true, false, true≢false, List, [], ◌∷◌, Option, Some, None, cond, refl, ap, sym, ◌∙◌, length, arith}
use Rattle.std.specs.Prelude.{◌||◌, ◌&&◌, ◌==◌, nat_lt, nat_eq, is_some, option_map, flat_map, find}
use Rattle.std.specs.List.{list_any}
use Rattle.std.proofs.Math.ListN.{get_or}
use Rattle.std.proofs.lemmas.Bool.{eqb-true}
use Rattle.std.proofs.lemmas.Bool.Decides.{nat_tests}
use Rattle.std.proofs.lemmas.Option.{none-some, same_Some}
use Rattle.std.proofs.lemmas.List.Folds.{list_any-append}
use Rattle.oc_tree.specs.Tree.{TProgram, TFunction}
use Rattle.oc_tree.specs.declared.tree.VarId.{VarId}
use Rattle.oc_tree.specs.Numbers.{numbers_on, program_statements}
use Rattle.oc_tree.specs.Places.{Placed, at_start, block_placed, program_placed, placed}
use Rattle.oc_tree.specs.Checked.{Group, IsChecked}
use Rattle.oc_tree.proofs.Grouped.{ids, program_ids}
use Rattle.oc_effects.specs.Effects.{TCalled, TEffect, effect_of, function_effects, effects_at}
use Rattle.oc_flow.specs.Variables.{is_among, variables, is_variable, same_variable}
use Rattle.oc_tree.specs.Members.{IsOf}
use Rattle.oc_laws.proofs.Members.{in_append, in_image}
use Rattle.oc_flow.specs.Flow.{chain, leads, flows_to, flows, brings, brings_at, may_bring, may_bring_at}
use Rattle.oc_flow.specs.Known.{TKnown, Knowns, known_at, is_ready, AllKnown, known_flows, brings_seen, may_bring_seen}
use Rattle.oc_flow.proofs.Fixpoint.{Ranked}
use Rattle.oc_flow.proofs.Knows.{known_brings}

-- outside of the functions nothing flows
outside : (p : TProgram) (n f : ℕ) (u v : VarId) → nat_lt f (length p.functions) ≡ false → flows_to p n f u v ≡ false
unfolding flows_to
outside p zero f u v h = refl
outside p (suc n) f u v h = λ i. (h i && is_among u (variables p f)) && (is_variable p f v && (same_variable u v || chain (leads p (flows_to p n) f) (variables p f) u v))

nothing_past : (ks : Knowns) (f : ℕ) → length ks ≤ f → known_at ks f ≡ None
nothing_past [] f h = refl
nothing_past (k ∷ ks) zero h = absurd (omega arith)
nothing_past (k ∷ ks) (suc f) h = nothing_past ks f (omega arith)

pub flows_asked : (p : TProgram) (ks : Knowns) → AllKnown p ks → (f : ℕ) (u v : VarId) → known_flows (known_at ks f) u v ≡ flows p f u v
flows_asked p ks known f u v = go (nat_lt f (length p.functions)) refl
  where
    some : (o : Option TKnown) → known_at ks f ≡ o → is_some o ≡ true → known_flows o u v ≡ flows p f u v
    some None e h = absurd (true≢false (sym h))
    some (Some k) e h = (known.right.each f k e).flows u v

    go : (b : Bool) → nat_lt f (length p.functions) ≡ b → known_flows (known_at ks f) u v ≡ flows p f u v
    go true h = some (known_at ks f) refl (known.all f (grind (arith, nat_tests)))
    go false h =
        let past : length p.functions ≤ f = grind (arith, nat_tests) in
        ap (λ o. known_flows o u v) (nothing_past ks f (omega (arith, past, known.right.count))) ∙ sym (outside p (length p.functions) f u v h)

-- ---- statements by their numbers

any_map : {A B : Type 0} (t : B → Bool) (g : A → B) (xs : List A) → list_any t (map g xs) ≡ list_any (λ x. t (g x)) xs
any_map t g [] = refl
any_map t g (x ∷ xs) = ap (λ b. t (g x) || b) (any_map t g xs)

module _ (p : TProgram) (t : TEffect → Bool) where
  flat : (fs : List TFunction) → list_any (λ es. list_any t es) (map (function_effects p) fs) ≡ list_any (λ b. t (effect_of p b)) (flat_map (λ f. block_placed (at_start f) f.body) fs)
  flat [] = refl
  flat (f ∷ fs) = (λ i. any_map t (effect_of p) (block_placed (at_start f) f.body) i || flat fs i)
      ∙ sym (list_any-append (λ b. t (effect_of p b)) (block_placed (at_start f) f.body) (flat_map (λ f. block_placed (at_start f) f.body) fs))

abbrev on_found : (Placed → Bool) → Option Placed → Bool
on_found q None = false
on_found q (Some b) = q b

head_of : (a b : ℕ) (xs ys : List ℕ) → ◌≡◌ {A = List ℕ} (a ∷ xs) (b ∷ ys) → a ≡ b
head_of a b xs ys e = cc

tail_of : (a b : ℕ) (xs ys : List ℕ) → ◌≡◌ {A = List ℕ} (a ∷ xs) (b ∷ ys) → xs ≡ ys
tail_of a b xs ys e = cc

differs_test : (a s : ℕ) → s < a → nat_eq a s ≡ false
differs_test a s h = grind (arith, nat_tests)

module _ (s : ℕ) (q : Placed → Bool) where
  -- numbers above
  none_above : (n m : ℕ) (xs : List Placed) → s < n → ids xs ≡ numbers_on n m → list_any (λ b. nat_eq b.id s && q b) xs ≡ false
  none_above n m [] h e = refl
  none_above n zero (x ∷ xs) h e = absurd (cc)
  none_above n (suc m) (x ∷ xs) h e =
      let a = head_of x.id n (ids xs) (numbers_on (suc n) m) e in
      (λ i. (differs_test x.id s (omega (arith, a)) i && q x) || none_above (suc n) m xs (omega arith) (tail_of x.id n (ids xs) (numbers_on (suc n) m) e) i)

  only_one : (n m : ℕ) (xs : List Placed) → ids xs ≡ numbers_on n m → list_any (λ b. nat_eq b.id s && q b) xs ≡ on_found q (find (λ a. a.id == s) xs)
  only_one n m [] e = refl
  only_one n zero (x ∷ xs) e = absurd (cc)
  only_one n (suc m) (x ∷ xs) e = go (nat_eq x.id s) refl (only_one (suc n) m xs (tail_of x.id n (ids xs) (numbers_on (suc n) m) e))
    where
      or_false : (a : Bool) → a || false ≡ a
      or_false true = refl
      or_false false = refl

      go : (b : Bool) → nat_eq x.id s ≡ b → list_any (λ b. nat_eq b.id s && q b) xs ≡ on_found q (find (λ a. a.id == s) xs) → (b && q x) || list_any (λ b. nat_eq b.id s && q b) xs
          ≡ on_found q (cond b (Some x) (find (λ a. a.id == s) xs))
      go false h rest = rest
      go true h rest =
          let a = head_of x.id n (ids xs) (numbers_on (suc n) m) e in
          let b = eqb-true x.id s h in
          ap (λ r. q x || r) (none_above (suc n) m xs (omega (arith, a, b)) (tail_of x.id n (ids xs) (numbers_on (suc n) m) e)) ∙ or_false (q x)

found_of : (s : ℕ) (xs : List Placed) (b : Placed) → find (λ a. a.id == s) xs ≡ Some b → IsOf b xs
found_of s [] b e = absurd (none-some b e)
found_of s (x ∷ xs) b e = go (nat_eq x.id s) e (found_of s xs b)
  where
    go : (c : Bool) → cond c (Some x) (find (λ a. a.id == s) xs) ≡ Some b → (find (λ a. a.id == s) xs ≡ Some b → IsOf b xs) → (b ≡ x) ⊎ IsOf b xs
    go true e rest = inl (sym (same_Some x b e))
    go false e rest = inr (rest e)

-- a statement of the program is one of some function
somewhere : (p : TProgram) (fs : List TFunction) (b : Placed) → IsOf b (flat_map (λ f. block_placed (at_start f) f.body) fs)
    → (f : ℕ) × IsOf (effect_of p b) (get_or (map (function_effects p) fs) f [])
somewhere p [] b i = absurd i
somewhere p (f ∷ fs) b i = elim (in_append b (block_placed (at_start f) f.body) (flat_map (λ f. block_placed (at_start f) f.body) fs) i) [
  | inl a ↦ (0, in_image (effect_of p) (block_placed (at_start f) f.body) b a)
  | inr a ↦ let z = somewhere p fs b a in (suc z.0, z.1)
]

pub may_bring_asked : (p : TProgram) (groups : List Group) → IsChecked p groups → (s : ℕ) (o : Option TEffect) → o ≡ option_map (effect_of p) (placed p s)
    → may_bring_seen o ≡ may_bring_at p s
may_bring_asked p groups checked s o e =
    ap may_bring_seen e ∙ go (placed p s)
    ∙ sym (only_one s (λ b. may_bring (effect_of p b)) 1 (length (program_statements p)) (program_placed p) (program_ids p ∙ checked.form.numbered.statements))
    ∙ sym (flat p (λ a. nat_eq a.stmt s && may_bring a) p.functions)
  where
    go : (q : Option Placed) → may_bring_seen (option_map (effect_of p) q) ≡ on_found (λ b. may_bring (effect_of p b)) q
    go None = refl
    go (Some b) = refl

module _ (p : TProgram) (groups : List Group) (checked : IsChecked p groups) (r : Ranked p) (ks : Knowns) (known : AllKnown p ks) where
  ready : (f : ℕ) (a : TEffect) → IsOf a (effects_at p f) → (o : Option TCalled) → a.call ≡ o → is_ready ks o ≡ true
  ready f a i None e = refl
  ready f a i (Some c) e = known.all c.function (r.inside f a c i e)

  pub brings_asked : (s : ℕ) (v : VarId) (o : Option TEffect) → o ≡ option_map (effect_of p) (placed p s) → brings_seen ks o v ≡ brings_at p s v
  brings_asked s v o e =
      ap (λ x. brings_seen ks x v) e ∙ go (placed p s) refl
      ∙ sym (only_one s (λ b. brings p (effect_of p b) v) 1 (length (program_statements p)) (program_placed p) (program_ids p ∙ checked.form.numbered.statements))
      ∙ sym (flat p (λ a. nat_eq a.stmt s && brings p a v) p.functions)
    where
      go : (q : Option Placed) → placed p s ≡ q → brings_seen ks (option_map (effect_of p) q) v ≡ on_found (λ b. brings p (effect_of p b) v) q
      go None e = refl
      go (Some b) e =
          let z = somewhere p p.functions b (found_of s (program_placed p) b e) in
          known_brings p r ks known.right z.0 (effect_of p b) z.1 (ready z.0 (effect_of p b) z.1 (effect_of p b).call refl) v
