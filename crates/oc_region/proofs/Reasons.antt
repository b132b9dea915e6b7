-- The policies that ask for a region.
use Rattle.std.proofs.Common.{◌≡◌, ℕ, ◌+◌, true, List, [], ◌∷◌, ◌++◌, map, Option, Some, None, Result, Ok, Err, IfOk, cond, refl, ap, sym, ◌∙◌, append_assoc}
use Rattle.std.specs.Prelude.{flat_map, option_to_list}
use Rattle.std.proofs.lemmas.List.{map-append}
use Rattle.oc_tree.specs.Tree.{TProgram}
use Rattle.oc_tree.specs.Checked.{Group}
use Rattle.oc_tree.specs.Marked.{TRegion, covers}
use Rattle.oc_tree.specs.Samples.{with_sample, union}
use Rattle.oc_needs.specs.Requirements.{TRequirement, requirements, rising}
use Rattle.oc_region.specs.declared.asks.Ask.{Ask}
use Rattle.oc_region.specs.Smallest.{smallest}
use Rattle.oc_region.specs.Regions.{reason, reasons, united, outermost, by_first, ranges, numbered, regions_for, regions}
use Rattle.oc_region.specs.Views.{TAsk, ask_range, ask_view, asks_of, asks, ask_reason, ask_reasons, numbered_for}

-- ---- from the end of a list

union_append : (ms ns s : List ℕ) → union (ms ++ ns) s ≡ union ms (union ns s)
union_append [] ns s = refl
union_append (m ∷ ms) ns s = ap (with_sample m) (union_append ms ns s)

flat_map_last : {A B : Type 0} (f : A → List B) (xs : List A) (x : A) → flat_map f (xs ++ x ∷ []) ≡ flat_map f xs ++ (f x ++ [])
flat_map_last f [] x = refl
flat_map_last f (y ∷ xs) x = ap (λ l. f y ++ l) (flat_map_last f xs x) ∙ sym (append_assoc (f y) (flat_map f xs) (f x ++ []))

pub reason_more : (p : TProgram) (r : TRegion) (left rest : List Ask) (a : Ask) (found new whole : List ℕ) → left ≡ rest ++ a ∷ [] → covers p r a.range.range.first ≡ true
    → new ≡ with_sample a.policy found → union (flat_map (ask_reason p r) (map ask_view left)) found ≡ whole → union (flat_map (ask_reason p r) (map ask_view rest)) new ≡ whole
reason_more p r left rest a found new whole e c step before =
    let f : TAsk → List ℕ = ask_reason p r in
    let split : flat_map f (map ask_view left) ≡ flat_map f (map ask_view rest) ++ (f (ask_view a) ++ []) = ap (λ l. flat_map f (map ask_view l)) e
    ∙ ap (flat_map f) (map-append ask_view rest (a ∷ [])) ∙ flat_map_last f (map ask_view rest) (ask_view a) in
    let one : union (f (ask_view a) ++ []) found ≡ with_sample a.policy found = ap (λ b. union (cond b (a.policy ∷ []) [] ++ []) found) c in
    ap (union (flat_map f (map ask_view rest))) (step ∙ sym one) ∙ sym (union_append (flat_map f (map ask_view rest)) (f (ask_view a) ++ []) found) ∙ ap (λ l. union l found) (sym split) ∙ before

-- ---- ranges and reasons by what is asked for

map_append_of : {A B C : Type 0} (f : B → C) (g : A → List B) (h : A → List C) → ((x : A) → map f (g x) ≡ h x) → (xs : List A) → map f (flat_map g xs) ≡ flat_map h xs
map_append_of f g h e [] = refl
map_append_of f g h e (x ∷ xs) = map-append f (g x) (flat_map g xs) ∙ (λ i. e x i ++ map_append_of f g h e xs i)

flat_map_append : {A B : Type 0} (f : A → List B) (xs ys : List A) → flat_map f (xs ++ ys) ≡ flat_map f xs ++ flat_map f ys
flat_map_append f [] ys = refl
flat_map_append f (x ∷ xs) ys = ap (λ l. f x ++ l) (flat_map_append f xs ys) ∙ sym (append_assoc (f x) (flat_map f xs) (flat_map f ys))

flat_map_of : {A B C : Type 0} (f : B → List C) (g : A → List B) (h : A → List C) → ((x : A) → flat_map f (g x) ≡ h x) → (xs : List A) → flat_map f (flat_map g xs) ≡ flat_map h xs
flat_map_of f g h e [] = refl
flat_map_of f g h e (x ∷ xs) = flat_map_append f (g x) (flat_map g xs) ∙ (λ i. e x i ++ flat_map_of f g h e xs i)

module _ (p : TProgram) (groups : List Group) where
  pub asked_ranges_are : (qs : List TRequirement) → map ask_range (asks p groups qs) ≡ ranges p groups qs
  asked_ranges_are qs = map_append_of ask_range (asks_of p groups) (λ q. option_to_list (smallest p groups q)) (λ q. by_range q (smallest p groups q)) qs
    where
      by_range : (q : TRequirement) (o : Option TRegion) → map ask_range (map (λ range. record { policy = q.policy; range = range }) (option_to_list o)) ≡ option_to_list o
      by_range q None = refl
      by_range q (Some r) = refl

  asked_reasons_are : (r : TRegion) (qs : List TRequirement) → ask_reasons p (asks p groups qs) r ≡ reasons p groups qs r
  asked_reasons_are r qs = ap rising (flat_map_of (ask_reason p r) (asks_of p groups) (reason p groups r) (λ q. by_range q (smallest p groups q)) qs)
    where
      by_range : (q : TRequirement) (o : Option TRegion) → flat_map (ask_reason p r) (map (λ range. record { policy = q.policy; range = range }) (option_to_list o))
          ≡ flat_map (λ range. cond (covers p r range.first) (q.policy ∷ []) []) (option_to_list o)
      by_range q None = refl
      by_range q (Some x) = refl

  pub numbered_is : (qs : List TRequirement) (i : ℕ) (rs : List TRegion) → numbered_for p (asks p groups qs) i rs ≡ numbered p groups qs i rs
  numbered_is qs i [] = refl
  numbered_is qs i (r ∷ rs) = λ j. record r { id = i; reasons = asked_reasons_are r qs j } ∷ numbered_is qs (i + 1) rs j

-- ---- the regions, step by step

pub steps_told : (p : TProgram) (groups : List Group) (qs : List TRequirement) (all : List TAsk) (rs us ks ss : List TRegion) → qs ≡ requirements p → all ≡ asks p groups qs
    → rs ≡ map ask_range all → us ≡ united rs → ks ≡ outermost p us → ss ≡ by_first ks → numbered_for p all 1 ss ≡ regions p groups
steps_told p groups qs all rs us ks ss e a r u k s =
    let ranged : rs ≡ ranges p groups qs = r ∙ ap (map ask_range) a ∙ asked_ranges_are p groups qs in
    let sorted : ss ≡ by_first (outermost p (united (ranges p groups qs))) = s ∙ ap by_first (k ∙ ap (outermost p) (u ∙ ap united ranged)) in
    ap (λ l. numbered_for p l 1 ss) a ∙ numbered_is p groups qs 1 ss ∙ ap (numbered p groups qs 1) sorted ∙ ap (λ l. regions_for p groups l) e

pub if_ok_along : {A E : Type 0} (P Q : A → Type 0) → ((x : A) → P x → Q x) → (r : Result A E) → IfOk r P → IfOk r Q
if_ok_along P Q f (Ok x) h = f x h
if_ok_along P Q f (Err e) h = h
