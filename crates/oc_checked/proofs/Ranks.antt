-- The ranks of functions. Where no link leads back, ranks fall along links.
use Rattle.std.proofs.Common.{◌≡◌, ◌<◌, ℕ, zero, suc, Bool, true, false, true≢false, List, length, Option, Some, None, refl, ap, sym, ◌∙◌, subst, arith}
use Rattle.std.specs.Prelude.{nat_eq, ◌||◌}
use Rattle.std.proofs.lemmas.Bool.{eqb-true, eq-eqb, or_right}
use Rattle.oc_tree.specs.Names.{Text}
use Rattle.oc_tree.specs.Tree.{TFunction}
use Rattle.oc_tree.specs.Calls.{function_place, call_links}
use Rattle.oc_tree.specs.Reach.{Links, linked, leads, reaches, count_below, rank}
use Rattle.oc_tree.proofs.ReachLaws.{or_elim, links_lead, leads_trans, least, count_less, rank_falls}

-- the rank of what stands at the place that was found; what was not found has none
abbrev pub rank_at : List TFunction → Option ℕ → ℕ
rank_at fs None = 0
rank_at fs (Some u) = rank (call_links fs) (length fs) u

-- the rank of the function of a name
abbrev pub rank_of : List TFunction → Text → ℕ
rank_of fs x = rank_at fs (function_place fs x)

-- a number reaches itself
itself : (v : ℕ) (b : Bool) → nat_eq v v || b ≡ true
itself v b = ap (λ a. a || b) (eq-eqb v v refl)

-- below n there are n numbers
count_all : (n : ℕ) → count_below (λ x. true) n ≡ n
count_all zero = refl
count_all (suc n) = omega (arith, count_all n)

-- a link goes from a number below n to one below n, which does not lead back
abbrev pub Onwards : Links → ℕ → Type 0
Onwards g n = (u v : ℕ) → linked g u v ≡ true → (u < n) × (v < n) × (reaches g n v u ≡ false)

module _ (g : Links) (n : ℕ) (onwards : Onwards g n) where
  -- what leads to v does so over its first link
  abbrev First : ℕ → ℕ → Type 0
  First u v = (w : ℕ) × (linked g u w ≡ true) × (reaches g n w v ≡ true)

  -- over one more number below n
  further : (u w v : ℕ) → w < n → reaches g n u w ≡ true → leads g n w v ≡ true → leads g n u v ≡ true
  further u w v below r l = or_elim (nat_eq u w) (leads g n u w) r
      (λ e. subst (λ x. leads g n x v ≡ true) (sym (eqb-true u w e)) l)
      (λ h. leads_trans g n u w v below h l)

  -- the same, where the last step may be none
  reaches_on : (u w v : ℕ) → leads g n u w ≡ true → reaches g n w v ≡ true → w < n → leads g n u v ≡ true
  reaches_on u w v l r below = or_elim (nat_eq w v) (leads g n w v) r
      (λ e. subst (λ x. leads g n u x ≡ true) (eqb-true w v e) l)
      (λ h. leads_trans g n u w v below l h)

  -- one behind the other
  joined : (u w v : ℕ) → First u w → First w v → First u v
  joined u w v a b =
      let next = onwards w b.0 b.1 in
      let on : leads g n w v ≡ true = reaches_on w b.0 v (links_lead g n w b.0 b.1) b.2 next.1 in
      (a.0, a.1, or_right (nat_eq a.0 v) (leads g n a.0 v) (further a.0 w v next.0 a.2 on))

  -- the first link of a way
  first : (u v : ℕ) → leads g n u v ≡ true → First u v
  first u v h = least g First (λ u v l. (v, l, itself v (leads g n v v))) joined n u v h

  -- nothing leads to itself
  none_back : (v : ℕ) → leads g n v v ≡ false
  none_back v = go (leads g n v v) refl
    where
      go : (b : Bool) → leads g n v v ≡ b → b ≡ false
      go false e = refl
      go true e = let a = first v v e in absurd (true≢false (sym a.2 ∙ (onwards v a.0 a.1).2))

  -- the rank falls along links
  pub falls : (u v : ℕ) → linked g u v ≡ true → rank g n v < rank g n u
  falls u v h = rank_falls g n u v (onwards u v h).1 h (none_back v)

  -- a number below n leads to less than n numbers
  pub rank_small : (u : ℕ) → u < n → rank g n u < n
  rank_small u below = omega (arith, count_less (leads g n u) (λ x. true) (λ x h. refl) n u below (none_back u) refl, count_all n)
