-- A number past the bound of links leads nowhere.
use Rattle.std.proofs.Common.{◌≡◌, ◌<◌, ◌≤◌, ℕ, zero, suc, Bool, true, false, nat_eq, refl, arith}
use Rattle.std.specs.Prelude.{◌&&◌, ◌||◌, List, [], ◌∷◌, length}
use Rattle.std.proofs.Math.ListN.{get_or}
use Rattle.std.proofs.lemmas.Bool.{eqb-true, or_from}
use Rattle.oc_tree.specs.Tree.{TFunction}
use Rattle.oc_tree.specs.Reach.{Links, linked, leads, some_below, reaches, reaches_some}
use Rattle.oc_tree.specs.Names.{Text}
use Rattle.oc_tree.specs.Calls.{call_links}
use Rattle.oc_tree.specs.Assigned.{first_params, param_assigned, param_count, pass_links, reaches_assign}
use Rattle.oc_reach.specs.Within.{IsWithin}
use Rattle.oc_reach.proofs.LinkLaws.{calls_within}
use Rattle.oc_reach.proofs.PassLaws.{passes_within, firsts_length}

none_below : (n : ℕ) (q : ℕ → Bool) → ((v : ℕ) → v < n → q v ≡ false) → some_below n q ≡ false
none_below zero q h = refl
none_below (suc n) q h = rw (h n (omega arith), none_below n q (λ v l. h v (omega (arith, l)))) refl

and_false : (a b : Bool) → b ≡ false → a && b ≡ false
and_false true b e = e
and_false false b e = refl

module _ (links : Links) (n u : ℕ) (within : IsWithin links n) (past : n ≤ u) where
  not_linked : (v : ℕ) → linked links u v ≡ false
  not_linked v = by_test (linked links u v) refl
    where
      by_test : (b : Bool) → linked links u v ≡ b → b ≡ false
      by_test true e = absurd (let w = within u v e in let l : u < n = w.0 in omega (arith, l, past))
      by_test false e = refl

  not_leads : (k v : ℕ) → leads links k u v ≡ false
  not_leads zero v = not_linked v
  not_leads (suc k) v = rw (not_leads k v, not_leads k k) refl

  not_same : (v : ℕ) → v < n → nat_eq u v ≡ false
  not_same v l = by_test (nat_eq u v) refl
    where
      by_test : (b : Bool) → nat_eq u v ≡ b → b ≡ false
      by_test true e = absurd (let s = eqb-true u v e in omega (arith, s, l, past))
      by_test false e = refl

  reaches_none : (test : ℕ → Bool) → reaches_some links n test u ≡ false
  reaches_none test = none_below n (λ v. test v && reaches links n u v) (λ v l. and_false (test v) (reaches links n u v) (or_from (nat_eq u v) (leads links n u v) (not_same v l) (not_leads n v)))

pub no_param : (fs : List TFunction) (n : ℕ) → param_count fs ≤ n → param_assigned fs n ≡ false
no_param fs n h = reaches_none (pass_links fs) (param_count fs) n (passes_within fs) h _

pub no_function : (fs : List TFunction) (x : Text) (u : ℕ) → length fs ≤ u → reaches_assign fs x u ≡ false
no_function fs x u h = reaches_none (call_links fs) (length fs) u (calls_within fs) h _

-- no function stands at such a place
past_end : (xs : List ℕ) (u : ℕ) → length xs ≤ u → get_or xs u 0 ≡ 0
past_end [] u h = refl
past_end (x ∷ xs) zero h = absurd (omega (arith, h))
past_end (x ∷ xs) (suc u) h = past_end xs u (omega (arith, h))

pub no_first : (fs : List TFunction) (u : ℕ) → length fs ≤ u → get_or (first_params 0 fs) u 0 ≡ 0
no_first fs u h = past_end (first_params 0 fs) u (let e = firsts_length 0 fs in omega (arith, e, h))
