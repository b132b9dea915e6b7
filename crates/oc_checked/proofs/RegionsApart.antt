-- What the regions of a marked program keep: each begins and ends in its block, and no two begin or end with the same
-- statement.
use Rattle.std.proofs.Common.{◌≡◌, ◌<◌, ◌≤◌, ℕ, suc, ◌+◌, true, false, true≢false, List, [], ◌∷◌, length, map, Option, Some, refl, ap, sym, ◌∙◌, arith}
use Rattle.std.specs.Prelude.{◌&&◌, ◌||◌, nat_le}
use Rattle.std.specs.List.{All, AllPairs, list_any}
use Rattle.std.specs.Prelude.{slice_index_or}
use Rattle.std.proofs.lemmas.Bool.{eq-eqb, le-leb}
use Rattle.std.proofs.lemmas.Option.{same_Some}
use Rattle.std.proofs.lemmas.List.Elements.{All-nil, All-cons}
use Rattle.oc_tree.specs.Tree.{TProgram}
use Rattle.oc_tree.specs.Numbers.{numbers_on}
use Rattle.oc_tree.specs.Places.{placed, block_of}
use Rattle.oc_tree.specs.Checked.{same_block}
use Rattle.oc_tree.specs.Marked.{TRegion, around, is_in_region, covers, AreRegions}

-- each region is so
abbrev pub EachRegion : (TRegion → Type 0) → List TRegion → Type 0
EachRegion P [] = Unit {0}
EachRegion P (r ∷ rs) = P r × EachRegion P rs

-- no two regions have the same number there
abbrev pub Differ : (TRegion → ℕ) → List TRegion → Type 0
Differ key [] = Unit {0}
Differ key (r ∷ rs) = EachRegion (λ q. key q ≡ key r → ⊥) rs × Differ key rs

-- a region begins and ends in its block, where `spot` says in which block a statement stands
pub record InBlock (spot : ℕ → Option ℕ) (r : TRegion) : Type 0 where
  pub ordered : r.first ≤ r.last
  pub first_there : spot r.first ≡ Some r.block
  pub last_there : spot r.last ≡ Some r.block

-- ---- lists

-- what holds at each place holds of each region
pub each_of : (P : TRegion → Type 0) (rs : List TRegion) → ((j : ℕ) (d : TRegion) → j < length rs → P (slice_index_or rs j d)) → EachRegion P rs
each_of P [] h = tt
each_of P (r ∷ rs) h = (h 0 r (omega arith), each_of P rs (λ j d l. h (suc j) d (omega (arith, l))))

-- of each region with the later ones
abbrev pub Pairs : (TRegion → TRegion → Type 0) → List TRegion → Type 0
Pairs R [] = Unit {0}
Pairs R (r ∷ rs) = EachRegion (R r) rs × Pairs R rs

-- what holds of all pairs, region by region
pub pairs_of : (R : TRegion → TRegion → Type 0) (rs : List TRegion) → AllPairs R rs → Pairs R rs
pairs_of R [] h = tt
pairs_of R (r ∷ rs) h =
    let first : EachRegion (R r) rs = each_of (R r) rs (λ j d l. h 0 (suc j) d (omega arith) (omega (arith, l))) in
    let others : AllPairs R rs = λ i j d l m. h (suc i) (suc j) d (omega (arith, l)) (omega (arith, m)) in
    (first, pairs_of R rs others)

-- what follows from what holds of each
each_map : (P Q : TRegion → Type 0) → ((r : TRegion) → P r → Q r) → (rs : List TRegion) → EachRegion P rs → EachRegion Q rs
each_map P Q f [] h = tt
each_map P Q f (r ∷ rs) h = (f r h.0, each_map P Q f rs h.1)

-- of both
each_both : (P Q : TRegion → Type 0) (rs : List TRegion) → EachRegion P rs → EachRegion Q rs → EachRegion (λ r. P r × Q r) rs
each_both P Q [] h g = tt
each_both P Q (r ∷ rs) h g = ((h.0, g.0), each_both P Q rs h.1 g.1)

-- regions that differ, pair by pair
differ : (key : TRegion → ℕ) (R : TRegion → TRegion → Type 0) (P : TRegion → Type 0) → ((r q : TRegion) → P r → P q → R r q → key q ≡ key r → ⊥) → (rs : List TRegion)
    → EachRegion P rs → Pairs R rs → Differ key rs
differ key R P f [] h g = tt
differ key R P f (r ∷ rs) h g =
    (each_map (λ q. P q × R r q) (λ q. key q ≡ key r → ⊥) (λ q b. f r q h.0 b.0 b.1) rs (each_both P (R r) rs h.1 g.0), differ key R P f rs h.1 g.1)

-- ---- regions

module _ (p : TProgram) (policies : ℕ) (regions : List TRegion) (are : AreRegions p policies regions) where
  -- each begins and ends in its block
  pub in_blocks : EachRegion (InBlock (block_of p)) regions
  in_blocks = each_of (InBlock (block_of p)) regions (λ j d l. (let r = are.each j d l in record { ordered = r.ordered; first_there = r.first_there; last_there = r.last_there }))

  -- they begin with different statements
  pub firsts_differ : Differ (λ r. r.first) regions
  firsts_differ = differ (λ r. r.first) (λ r q. r.first < q.first) (InBlock (block_of p)) (λ r q a b l e. omega (arith, l, e)) regions in_blocks
      (pairs_of (λ r q. r.first < q.first) regions are.rising)

  -- the first rises, and stands in no earlier region
  abbrev Behind : TRegion → TRegion → Type 0
  Behind r q = (r.first < q.first) × (covers p r q.first ≡ false)

  -- they end with different statements
  same_last : (r q : TRegion) → InBlock (block_of p) r → InBlock (block_of p) q → Behind r q → q.last ≡ r.last → ⊥
  same_last r q a b h e =
      let block : q.block ≡ r.block = same_Some q.block r.block (sym b.last_there ∙ ap (block_of p) e ∙ a.last_there) in
      let there : block_of p q.first ≡ Some r.block = b.first_there ∙ ap Some block in
      let from : nat_le r.first q.first ≡ true = le-leb r.first q.first (omega (arith, h.0)) in
      let to : nat_le q.first r.last ≡ true = le-leb q.first r.last (omega (arith, b.ordered, e)) in
      let in_it : is_in_region p r q.first ≡ true =
      ap (λ o. same_block o (Some r.block) && (nat_le r.first q.first && nat_le q.first r.last)) there
      ∙ ap (λ c. c && (nat_le r.first q.first && nat_le q.first r.last)) (eq-eqb r.block r.block refl)
      ∙ ap (λ c. c && nat_le q.first r.last) from
      ∙ to in
      let covered : covers p r q.first ≡ true = ap (λ c. c || list_any (is_in_region p r) (around (placed p q.first))) in_it in
      true≢false (sym covered ∙ h.1)

  -- all of them
  pub lasts_differ : Differ (λ r. r.last) regions
  lasts_differ =
      let both : AllPairs Behind regions = λ i j d l m. (are.rising i j d l m, (are.apart i j d l m).0) in
      differ (λ r. r.last) Behind (InBlock (block_of p)) same_last regions in_blocks (pairs_of Behind regions both)

  -- ---- their numbers

  -- the numbers of regions that are numbered from i on
  ids_from : (i n : ℕ) (rs : List TRegion) → map (λ r. r.id) rs ≡ numbers_on i (length rs) → 1 ≤ i → i + length rs ≤ n + 1 → All (λ r. (1 ≤ r.id) × (r.id ≤ n)) rs
  ids_from i n [] h l m = All-nil (λ r. (1 ≤ r.id) × (r.id ≤ n))
  ids_from i n (r ∷ rs) h l m =
      let own : r.id ≡ i = cc h in
      let others : map (λ r. r.id) rs ≡ numbers_on (suc i) (length rs) = cc h in
      All-cons (λ r. (1 ≤ r.id) × (r.id ≤ n)) r rs (omega (arith, own, l), omega (arith, own, m)) (ids_from (suc i) n rs others (omega arith) (omega (arith, m)))

  -- from 1 on, as many as there are
  pub ids_known : (n : ℕ) → length regions ≤ n → All (λ r. (1 ≤ r.id) × (r.id ≤ n)) regions
  ids_known n few = ids_from 1 n regions are.numbered (omega arith) (omega (arith, few))
