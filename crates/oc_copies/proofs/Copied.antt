-- The law of copies.
use Rattle.std.proofs.Common.{◌≡◌, ℕ, suc, ◌+◌, Bool, true, false, true≢false, List, [], ◌∷◌, length, Some, cond, refl, ap, sym, ◌∙◌, subst, arith}
use Rattle.std.specs.Prelude.{is_some, slice_get, if◌then◌else◌}
use Rattle.std.specs.Str.{bytes_eq}
use Rattle.std.proofs.lemmas.Slice.Eq.{bytes_eq-Decides}
use Rattle.oc_tree.specs.Names.{Text}
use Rattle.oc_tree.specs.Calls.{place_from, reaches_mention}
use Rattle.oc_tree.specs.Scope.{is_name_of}
use Rattle.oc_meaning.specs.Store.{Place, Local, Global, Turn, Nowhere, binding_of, place_of, Store}
use Rattle.oc_meaning.specs.Run.{nv_env, function_named}
use Rattle.oc_checked.proofs.Declared.{all_within}
use Rattle.oc_checked.proofs.Mains.{own_place}
use Rattle.oc_copies.specs.Copies.{CallsCopy, CallsCopyBack, MayPass}
use Rattle.oc_tree.specs.Tree.{TFunction, TProgram}
use Rattle.oc_tree.specs.Checked.{Group, IsChecked}
use Rattle.oc_meaning.specs.Exec.{Passed}
use Rattle.oc_copies.proofs.Root.{Entry, entries, has_global}
use Rattle.oc_copies.proofs.Back.{is_lent_place, hidden_by, global_back, copied_so, copied_back_so}
use Rattle.oc_copies.proofs.Twins.{IsLawfulBlock}
use Rattle.oc_copies.proofs.TwinCalls.{start_flags}
use Rattle.oc_copies.proofs.Lawful.{found_named, IsQuiet, lawful}

-- a name that stands for a nonvolatile variable is its name
pub nv_of_name : (n : ℕ) (xs : List Text) (x : Text) (k : ℕ) → place_of (nv_env n xs) x ≡ Global k → (place_from n xs x ≡ Some k) × ((i : ℕ) × (k ≡ n + i) × (slice_get xs i ≡ Some x))
nv_of_name n [] x k e = absurd (cc)
nv_of_name n (z ∷ xs) x k e = by (bytes_eq x z) refl e (nv_of_name (n + 1) xs x k)
  where
    next : suc n ≡ n + 1
    next = omega arith

    by : (b : Bool) → bytes_eq x z ≡ b → (if b then record { name = z; place = Global n; reference = false; fresh = false } else binding_of (nv_env (suc n) xs) x).place ≡ Global k →
        (place_of (nv_env (n + 1) xs) x ≡ Global k → (place_from (n + 1) xs x ≡ Some k) × ((i : ℕ) × (k ≡ n + 1 + i) × (slice_get xs i ≡ Some x))) →
        (cond b (Some n) (place_from (n + 1) xs x) ≡ Some k) × ((i : ℕ) × (k ≡ n + i) × (slice_get (z ∷ xs) i ≡ Some x))
    by true h s rest = let same : n ≡ k = cc in (ap Some same, (0, omega (arith, same), ap Some (sym ((bytes_eq-Decides x z).0 h))))
    by false h s rest =
        let r = rest (subst (λ m. place_of (nv_env m xs) x ≡ Global k) next s) in
        (r.0, (suc r.1.0, (let q = r.1.1 in omega (arith, q)), r.1.2))

lent_global : (es : List Entry) (q : Place) → is_lent_place es q ≡ true → (k : ℕ) × (q ≡ Global k) × (has_global k es ≡ true)
lent_global es (Global k) h = (k, refl, h)
lent_global es (Local l) h = absurd (true≢false (sym h))
lent_global es (Turn z) h = absurd (true≢false (sym h))
lent_global es Nowhere h = absurd (true≢false (sym h))

module _ (p : TProgram) (groups : List Group) (checked : IsChecked p groups) (f : ℕ) (g : TFunction) (stands : slice_get p.functions f ≡ Some g) (ps : List Passed) (σ : Store)
    (may : MayPass p f g ps σ) where
  abbrev all : List Entry
  all = entries g.params ps (length σ.locals)

  abbrev unseen : Text → Bool
  unseen = hidden_by p all

  nv : (y : Text) → unseen y ≡ true → is_name_of p.names.nvs y ≡ true
  nv y h =
      let l = lent_global all (place_of (nv_env 0 p.names.nvs) y) h in
      ap is_some (nv_of_name 0 p.names.nvs y l.0 l.1).0

  unnamed : (y : Text) → unseen y ≡ true → reaches_mention p.functions y f ≡ false
  unnamed y h =
      let l = lent_global all (place_of (nv_env 0 p.names.nvs) y) h in
      let i = global_back g.params ps (length σ.locals) l.0 l.2 in
      let n = nv_of_name 0 p.names.nvs y l.0 l.1 in
      let k : n.1.0 ≡ l.0 = (let q = n.1.1 in omega (arith, q)) in
      may.unnamed i.0 l.0 y i.1 (ap (slice_get p.names.nvs) (sym k) ∙ n.1.2)

  named : function_named p.functions g.name ≡ Some g
  named =
      let found = found_named p g.name f (own_place p (all_within p checked.form.declared checked.unbroken) f g stands) in
      found.named ∙ sym found.stands ∙ stands

  quiet : (x : Text) (h : TFunction) → function_named p.functions x ≡ Some h → IsQuiet p unseen nv x h →
      IsLawfulBlock unseen p (IsQuiet p unseen nv) (function_named p.functions) (start_flags h.params []) h.body
  quiet x h at_name q = lawful p unseen nv groups checked x h q

  own_quiet : IsQuiet p unseen nv g.name g
  own_quiet = record { number = f; stands = stands; unnamed = unnamed }

pub calls_copy : CallsCopy
calls_copy p groups checked regions depth f g stands ps σ stored may =
    copied_so p f g ps σ stored may regions depth (IsQuiet p _ (nv p groups checked f g stands ps σ may)) (quiet p groups checked f g stands ps σ may) g.name
    (named p groups checked f g stands ps σ may) (own_quiet p groups checked f g stands ps σ may)

pub calls_copy_back : CallsCopyBack
calls_copy_back p groups checked regions depth f g stands ps σ stored may =
    copied_back_so p f g ps σ stored may regions depth (IsQuiet p _ (nv p groups checked f g stands ps σ may)) (quiet p groups checked f g stands ps σ may) g.name
    (named p groups checked f g stands ps σ may) (own_quiet p groups checked f g stands ps σ may)
