-- At the start of a function's body the code finds its parameters and the nonvolatile variables.
use Rattle.std.proofs.Common.{◌≡◌, ◌≤◌, ℕ, zero, suc, ◌+◌, Bool, true, false, List, [], ◌∷◌, Option, Some, None, cond, refl, ap, sym, subst, ◌∙◌, arith}
use Rattle.std.specs.Prelude.{is_some, if◌then◌else◌, slice_get, option_map, option_and_then}
use Rattle.std.specs.List.{All}
use Rattle.std.specs.Str.{bytes_eq}
use Rattle.std.proofs.lemmas.Option.{none-some, same_Some}
use Rattle.std.proofs.lemmas.List.Elements.{All-head, All-tail}
use Rattle.oc_tree.specs.Names.{Text}
use Rattle.oc_tree.specs.Tree.{TFunction, TProgram}
use Rattle.oc_tree.specs.declared.tree.NvDecl.{NvDecl}
use Rattle.oc_tree.specs.declared.tree.Param.{Param}
use Rattle.oc_tree.specs.declared.tree.Passing.{Passing}
use Rattle.oc_tree.specs.declared.tree.Passing.TheVariants as passings
use Rattle.oc_tree.specs.declared.tree.ValueKind.TheVariants as kinds
use Rattle.oc_tree.specs.Form.{NvInForm, CellsInForm}
use Rattle.oc_tree.specs.Calls.{place_from, place}
use Rattle.oc_tree.specs.Scope.{Scope, is_taken, nv_kind, nv_var, param_var, with_param, with_params, takes_param}
use Rattle.oc_tree.specs.Types.{is_by_reference}
use Rattle.oc_code.specs.Scope.{InNv, Named, named, address_slot, kind_words, param_slot, may_write, params_scope, nv_scope, function_scope}
use Rattle.oc_checked.proofs.BodiesPass.{first_fails, second_fails}
use Rattle.oc_formed.proofs.ScopesSeen.{Finds, AllFound, found_more}

-- ---- nonvolatile variables

-- the words of a declaration's kind are those that it has
nv_words : (d : NvDecl) → NvInForm d → d.words ≡ kind_words (nv_kind d)
nv_words d h = by d.array h.0
  where
    by : (b : Bool) → CellsInForm b d.words → d.words ≡ kind_words (cond b (kinds.Array d.words) kinds.Int)
    by true c = refl
    by false c = c

-- places are counted from `n` on
least_place : (n : ℕ) (xs : List Text) (x : Text) (i : ℕ) → place_from n xs x ≡ Some i → n ≤ i
least_place n [] x i h = absurd (none-some i h)
least_place n (y ∷ ys) x i h = by (bytes_eq x y) (least_place (n + 1) ys x i) h
  where
    by : (b : Bool) → (place_from (n + 1) ys x ≡ Some i → n + 1 ≤ i) → cond b (Some n) (place_from (n + 1) ys x) ≡ Some i → n ≤ i
    by true rest e = let same = same_Some n i e in omega (arith, same)
    by false rest e = let more = rest e in omega (arith, more)

-- the declaration at a name's place is found under the name
nv_found : (n a : ℕ) (xs : List Text) (ds : List NvDecl) (x : Text) (i j : ℕ) (d : NvDecl) → All NvInForm ds → place_from n xs x ≡ Some i → i ≡ n + j → slice_get ds j ≡ Some d
    → Finds (named (nv_scope a xs ds) x) (nv_var d)
nv_found n a [] ds x i j d form placed e stands = absurd (none-some i placed)
nv_found n a (y ∷ ys) [] x i j d form placed e stands = absurd (none-some d stands)
nv_found n a (y ∷ ys) (c ∷ ds) x i j d form placed e stands = by (bytes_eq x y) placed (λ m. nv_found (n + 1) (a + c.words) ys ds x i m d (All-tail NvInForm c ds form))
  where
    here : (j : ℕ) → j ≡ 0 → slice_get (c ∷ ds) j ≡ Some d → c ≡ d
    here j z h = same_Some c d (sym (ap (slice_get (c ∷ ds)) z) ∙ h)

    behind : (j : ℕ) → n + 1 ≤ i → i ≡ n + j → slice_get (c ∷ ds) j ≡ Some d → (m : ℕ) × (i ≡ n + 1 + m) × (slice_get ds m ≡ Some d)
    behind zero l k h = absurd (omega (arith, l, k))
    behind (suc m) l k h = (m, omega (arith, k), h)

    own : NvInForm c → Finds (record { name = y; slot = InNv a; words = c.words; writable = true; fresh = false }) (nv_var c)
    own f = record { words = nv_words c f; reference = refl; writable = refl }

    by : (b : Bool) → cond b (Some n) (place_from (n + 1) ys x) ≡ Some i
        → ((m : ℕ) → place_from (n + 1) ys x ≡ Some i → i ≡ n + 1 + m → slice_get ds m ≡ Some d → Finds (named (nv_scope (a + c.words) ys ds) x) (nv_var d))
        → Finds (if b then record { name = y; slot = InNv a; words = c.words; writable = true; fresh = false } else named (nv_scope (a + c.words) ys ds) x) (nv_var d)
    by true h more =
        let same : n ≡ i = same_Some n i h in
        let zero : j ≡ 0 = omega (arith, same, e) in
        subst (λ v. Finds (record { name = y; slot = InNv a; words = c.words; writable = true; fresh = false }) (nv_var v)) (here j zero stands) (own (All-head NvInForm c ds form))
    by false h more =
        let rest = behind j (least_place (n + 1) ys x i h) e stands in
        more rest.0 h rest.1 rest.2

-- all nonvolatile variables are found
nvs_found : (p : TProgram) → All NvInForm p.nv → AllFound p [] (nv_scope 0 p.names.nvs p.nv)
nvs_found p form x v e = by_place (place p.names.nvs x) refl e
  where
    by_decl : (i : ℕ) → place p.names.nvs x ≡ Some i → (o : Option NvDecl) → slice_get p.nv i ≡ o → option_map nv_var o ≡ Some v → Finds (named (nv_scope 0 p.names.nvs p.nv) x) v
    by_decl i placed None is h = absurd (none-some v h)
    by_decl i placed (Some d) is h = subst (Finds (named (nv_scope 0 p.names.nvs p.nv) x)) (same_Some (nv_var d) v h) (nv_found 0 0 p.names.nvs p.nv x i i d form placed (omega arith) is)

    by_place : (o : Option ℕ) → place p.names.nvs x ≡ o → option_map nv_var (option_and_then (λ i. slice_get p.nv i) o) ≡ Some v → Finds (named (nv_scope 0 p.names.nvs p.nv) x) v
    by_place None is h = absurd (none-some v h)
    by_place (Some i) is h = by_decl i is (slice_get p.nv i) refl h

-- ---- parameters

-- what is passed by reference has a slot for its address, and nothing else has
by_address : (passing : Passing) (k : ℕ) → is_some (address_slot (param_slot passing k)) ≡ is_by_reference passing
by_address passings.Value k = refl
by_address passings.Shared k = refl
by_address passings.Mutable k = refl

-- a parameter in the slot `k`
abbrev param_named : Param → ℕ → Named
param_named q k = record { name = q.name; slot = param_slot q.passing k; words = kind_words q.kind; writable = may_write q.passing; fresh = false }

-- all parameters are found, and what was found before them
params_found : (p : TProgram) (s : Scope) (γ : List Named) (k : ℕ) (qs : List Param) → takes_param p s qs ≡ false → AllFound p s γ → AllFound p (with_params s qs) (params_scope qs k γ)
params_found p s γ k [] free all = all
params_found p s γ k (q ∷ qs) free all =
    let taken = first_fails (is_taken p s q.name) (takes_param p (with_param s q) qs) free in
    let rest = second_fails (is_taken p s q.name) (takes_param p (with_param s q) qs) free in
    let one : Finds (param_named q k) (param_var q) = record { words = refl; reference = by_address q.passing k; writable = refl } in
    params_found p (with_param s q) (param_named q k ∷ γ) (k + 1) qs rest (found_more p s γ (param_var q) (param_named q k) one taken all)

-- all that a function's body sees at its start is found
pub start_found : (p : TProgram) (f : TFunction) → All NvInForm p.nv → takes_param p [] f.params ≡ false → AllFound p (with_params [] f.params) (function_scope p f)
start_found p f form free = params_found p [] (nv_scope 0 p.names.nvs p.nv) 0 f.params free (nvs_found p form)
