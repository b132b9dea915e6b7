-- Functions by their names and by their places.
use Rattle.std.proofs.Common.{◌≡◌, ℕ, suc, ◌+◌, Bool, true, false, List, [], ◌∷◌, Some, cond, refl, ap, ◌∙◌, arith}
use Rattle.std.specs.Prelude.{slice_get, if◌then◌else◌}
use Rattle.std.specs.Str.{bytes_eq}
use Rattle.std.proofs.lemmas.Option.{none-some, same_Some}
use Rattle.oc_tree.specs.Names.{Text}
use Rattle.oc_tree.specs.Tree.{TFunction}
use Rattle.oc_tree.specs.Calls.{place_from, function_names}
use Rattle.oc_meaning.specs.Run.{function_named}

-- what stands at the place of a name is found by the name
pub named_at : (n : ℕ) (fs : List TFunction) (x : Text) (v : ℕ) → place_from n (function_names fs) x ≡ Some v
    → (i : ℕ) × (v ≡ n + i) × (g : TFunction) × (slice_get fs i ≡ Some g) × (function_named fs x ≡ Some g)
named_at n [] x v e = absurd (none-some v e)
named_at n (f ∷ fs) x v e = by (bytes_eq x f.name) e (named_at (n + 1) fs x v)
  where
    by : (b : Bool) → cond b (Some n) (place_from (n + 1) (function_names fs) x) ≡ Some v
        → (place_from (n + 1) (function_names fs) x ≡ Some v → (i : ℕ) × (v ≡ n + 1 + i) × (g : TFunction) × (slice_get fs i ≡ Some g) × (function_named fs x ≡ Some g))
        → (i : ℕ) × (v ≡ n + i) × (g : TFunction) × (slice_get (f ∷ fs) i ≡ Some g) × ((if b then Some f else function_named fs x) ≡ Some g)
    by true h rest = (0, (let s = same_Some n v h in omega (arith, s)), f, refl, refl)
    by false h rest = let r = rest h in (suc r.0, (let s = r.1 in omega (arith, s)), r.2, r.3, r.4)

-- what is found by a name stands at its place
pub place_named : (n : ℕ) (fs : List TFunction) (x : Text) (g : TFunction) → function_named fs x ≡ Some g
    → (i : ℕ) × (place_from n (function_names fs) x ≡ Some (n + i)) × (slice_get fs i ≡ Some g)
place_named n [] x g e = absurd (none-some g e)
place_named n (f ∷ fs) x g e = by (bytes_eq x f.name) e (place_named (n + 1) fs x g)
  where
    by : (b : Bool) → (if b then Some f else function_named fs x) ≡ Some g
        → (function_named fs x ≡ Some g → (i : ℕ) × (place_from (n + 1) (function_names fs) x ≡ Some (n + 1 + i)) × (slice_get fs i ≡ Some g))
        → (i : ℕ) × (cond b (Some n) (place_from (n + 1) (function_names fs) x) ≡ Some (n + i)) × (slice_get (f ∷ fs) i ≡ Some g)
    by true h rest = let first : n ≡ n + 0 = omega arith in (0, ap Some first, h)
    by false h rest = let r = rest h in let more : n + 1 + r.0 ≡ n + suc r.0 = omega arith in (suc r.0, r.1 ∙ ap Some more, r.2)
