-- The words that a region may write, from its targets, where it is entered.
use Rattle.std.proofs.Common.{◌≡◌, ◌≤◌, ◌<◌, ◌+◌, ◌-◌, ℕ, zero, suc, Bool, true, false, List, [], ◌∷◌, ◌++◌, length, Option, Some, None, refl, sym, ap, ◌∙◌, subst, arith, length-append}
use Rattle.std.specs.Prelude.{ℤ, pos, negsuc, slice_get, nat_eq, ◌||◌}
use Rattle.std.specs.List.{list_any}
use Rattle.std.proofs.lemmas.List.Folds.{list_any-append}
use Rattle.std.proofs.lemmas.Option.{none-some, same_Some}
use Rattle.oc_tree.specs.Names.{Text}
use Rattle.oc_tree.specs.declared.tree.NvDecl.{NvDecl}
use Rattle.oc_tree.specs.declared.said.Target.{Target}
use Rattle.oc_tree.specs.declared.said.Target.TheVariants.{Nv, Param}
use Rattle.oc_isa.specs.Image.{Parts}
use Rattle.oc_meaning.specs.Store.{Place, Local, Global, Turn, Nowhere, Binding, place_of}
use Rattle.oc_code.specs.Scope.{Slot, InFrame, ByAddress, InNv, NoSlot, Named, named}
use Rattle.oc_code.proofs.Cells.{Cell, size, fixed_at}
use Rattle.oc_code.proofs.Places.{base, nv_width, place_width, Fits, Sees, found}
use Rattle.oc_code.proofs.Writes.{May}
use Rattle.oc_code.proofs.Lawful.{Access}
use Rattle.oc_code.proofs.Bodies.{Keeps}
use Rattle.oc_bounds.specs.Bounds.{is_listed}
use Rattle.oc_watch.proofs.Leaving.{leaving}

-- so many numbers from one on
abbrev pub run_of : ℕ → ℕ → List ℕ
run_of a zero = []
run_of a (suc n) = a ∷ run_of (suc a) n

length-run_of : (a n : ℕ) → length (run_of a n) ≡ n
length-run_of a zero = refl
length-run_of a (suc n) = ap suc (length-run_of (suc a) n)

run_listed : (a n j : ℕ) → j < n → is_listed (run_of a n) (a + j) ≡ true
run_listed a zero j lt = absurd (omega (arith, lt))
run_listed a (suc n) zero lt = let e : nat_eq (a + 0) a ≡ true = grind arith in ap (λ b. b || list_any (λ w. nat_eq (a + 0) w) (run_of (suc a) n)) e
run_listed a (suc n) (suc j) lt =
    let e : suc a + j ≡ a + suc j = omega arith in
    or_right (nat_eq (a + suc j) a) _ (subst (λ i. is_listed (run_of (suc a) n) i ≡ true) e (run_listed (suc a) n j (omega (arith, lt))))
  where
    or_right : (b c : Bool) → c ≡ true → (b || c) ≡ true
    or_right true c h = refl
    or_right false c h = h

-- from the address of what was passed: where it is nonvolatile
abbrev pub lent_words : Option ℤ → ℕ → List ℕ
lent_words (Some (pos a)) len = run_of (a - 65536) len
lent_words (Some (negsuc a)) len = []
lent_words None len = []

abbrev pub target_list : List Cell → ℕ → Target → List ℕ
target_list cs fp (Nv a len) = run_of a len
target_list cs fp (Param slot len) = lent_words (fixed_at cs (fp + slot)) len

abbrev pub words_for : List Cell → ℕ → List Target → List ℕ
words_for cs fp [] = []
words_for cs fp (t ∷ ts) = target_list cs fp t ++ words_for cs fp ts

abbrev pub target_words : Target → ℕ
target_words (Nv a len) = len
target_words (Param slot len) = len

abbrev pub all_words : List Target → ℕ
all_words [] = 0
all_words (t ∷ ts) = target_words t + all_words ts

-- no more of them than are logged
lent_few : (o : Option ℤ) (len : ℕ) → length (lent_words o len) ≤ len
lent_few (Some (pos a)) len = omega (arith, length-run_of (a - 65536) len)
lent_few (Some (negsuc a)) len = omega arith
lent_few None len = omega arith

target_few : (cs : List Cell) (fp : ℕ) (t : Target) → length (target_list cs fp t) ≤ target_words t
target_few cs fp (Nv a len) = omega (arith, length-run_of a len)
target_few cs fp (Param slot len) = lent_few (fixed_at cs (fp + slot)) len

pub words_few : (cs : List Cell) (fp : ℕ) (ts : List Target) → length (words_for cs fp ts) ≤ all_words ts
words_few cs fp [] = omega arith
words_few cs fp (t ∷ ts) = omega (arith, length-append (target_list cs fp t) (words_for cs fp ts), target_few cs fp t, words_few cs fp ts)

-- what a target has is among them
listed_in : (cs : List Cell) (fp : ℕ) (ts : List Target) (i : ℕ) (t : Target) (a : ℕ) → slice_get ts i ≡ Some t → is_listed (target_list cs fp t) a ≡ true → is_listed (words_for cs fp ts) a ≡ true
listed_in cs fp [] i t a e h = absurd (none-some t e)
listed_in cs fp (u ∷ ts) zero t a e h =
    list_any-append (λ w. nat_eq a w) (target_list cs fp u) (words_for cs fp ts)
    ∙ ap (λ b. b || is_listed (words_for cs fp ts) a) (ap (λ u. is_listed (target_list cs fp u) a) (same_Some u t e) ∙ h)
listed_in cs fp (u ∷ ts) (suc i) t a e h =
    list_any-append (λ w. nat_eq a w) (target_list cs fp u) (words_for cs fp ts) ∙ or_right (is_listed (target_list cs fp u) a) _ (listed_in cs fp ts i t a e h)
  where
    or_right : (b c : Bool) → c ≡ true → (b || c) ≡ true
    or_right true c h = refl
    or_right false c h = h

-- a name that targets cover: a nonvolatile variable or a reference with all its words
abbrev pub covers : List Target → ℕ → Slot → Type 0
covers ts w (InNv b) = (i a len : ℕ) × (slice_get ts i ≡ Some (Nv a len)) × (a ≤ b) × (b + w ≤ a + len)
covers ts w (ByAddress s) = (i len : ℕ) × (slice_get ts i ≡ Some (Param s len)) × (w ≤ len)
covers ts w (InFrame s) = Unit {0}
covers ts w NoSlot = Unit {0}

module _ (image : Parts) (ds : List NvDecl) (cs : List Cell) (fp : ℕ) (ts : List Target) (low : size cs ≤ 65536) where
  ws : List ℕ
  ws = words_for cs fp ts

  place_kept : (s : Slot) (w : ℕ) (q : Place) → Fits ds cs fp s q → ((g : ℕ) → q ≡ Global g → w ≡ nv_width ds g) → covers ts w s → May (leaving image (words_for cs fp ts)) ds q
  place_kept s w (Local l) fit wide c = tt
  place_kept s w (Turn z) fit wide c = tt
  place_kept s w Nowhere fit wide c = tt
  place_kept NoSlot w (Global g) fit wide c = absurd fit
  place_kept (InFrame k) w (Global g) fit wide c = absurd (omega (arith, fit.lies.1, fit.stands, low))
  place_kept (InNv b) w (Global g) fit wide c = λ j z lt.
      let n : c.1 + (base ds g + j - c.1) ≡ base ds g + j = omega (arith, fit.lies, fit.stands, c.4) in
      listed_in cs fp ts c.0 (Nv c.1 c.2) (base ds g + j) c.3
      (subst (λ a. is_listed (run_of c.1 c.2) a ≡ true) n (run_listed c.1 c.2 (base ds g + j - c.1) (omega (arith, fit.lies, fit.stands, c.4, c.5, wide g refl, lt))))
  place_kept (ByAddress k) w (Global g) fit wide c = λ j z lt.
      let n : fit.spot - 65536 + j ≡ base ds g + j = omega (arith, fit.stands) in
      listed_in cs fp ts c.0 (Param k c.1) (base ds g + j) c.2
      (subst (λ o. is_listed (lent_words o c.1) (base ds g + j) ≡ true) (sym fit.lies)
      (subst (λ a. is_listed (run_of (fit.spot - 65536) c.1) a ≡ true) n (run_listed (fit.spot - 65536) c.1 j (omega (arith, c.3, wide g refl, lt)))))

  -- so the names that a region's targets cover keep to their words
  pub words_keep : (writes : Access) (γ : List Named) (env : List Binding) → Sees ds cs fp γ env → ((x : Text) → writes.names x ≡ true → covers ts (named γ x).words (named γ x).slot)
      → ((i : ℕ) → writes.nvs i ≡ true → covers ts (nv_width ds i) (InNv (base ds i))) → Keeps (leaving image (words_for cs fp ts)) ds writes env
  words_keep writes γ env sees cover store = record { names = λ x is. name_kept x (cover x is); nvs = λ i is. nv_kept i (store i is) }
    where
      name_kept : (x : Text) → covers ts (named γ x).words (named γ x).slot → May (leaving image (words_for cs fp ts)) ds (place_of env x)
      name_kept x c =
          let f = found ds cs fp γ env x sees in
          place_kept (named γ x).slot (named γ x).words (place_of env x) f.fits (λ g e. f.words ∙ ap (λ q. place_width ds cs q) e) c

      nv_kept : (i : ℕ) → covers ts (nv_width ds i) (InNv (base ds i)) → May (leaving image (words_for cs fp ts)) ds (Global i)
      nv_kept i c = λ j z lt.
          let n : c.1 + (base ds i + j - c.1) ≡ base ds i + j = omega (arith, c.4) in
          listed_in cs fp ts c.0 (Nv c.1 c.2) (base ds i + j) c.3
          (subst (λ a. is_listed (run_of c.1 c.2) a ≡ true) n (run_listed c.1 c.2 (base ds i + j - c.1) (omega (arith, c.4, c.5, lt))))
