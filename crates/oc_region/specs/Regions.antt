-- The regions that requirements ask for.
use Rattle.std.specs.Prelude.{ℕ, ◌+◌, Bool, ◌&&◌, not, List, [], ◌∷◌, flat_map, filter, min, max, cond, nat_eq, nat_le, option_to_list}
use Rattle.std.specs.List.{list_any}
use Rattle.oc_tree.specs.Tree.{TProgram}
use Rattle.oc_tree.specs.Places.{placed}
use Rattle.oc_tree.specs.Checked.{Group}
use Rattle.oc_tree.specs.Marked.{TRegion, TMarked, around, is_in_region, covers}
use Rattle.oc_needs.specs.Policies.{policies}
use Rattle.oc_needs.specs.Requirements.{TRequirement, requirements, rising}
use Rattle.oc_region.specs.Smallest.{smallest}

-- ---- ranges of one block that share a statement become one

-- two ranges of statements stand in one block and share a statement
abbrev pub shares : TRegion → TRegion → Bool
shares r q = nat_eq r.block q.block && (nat_le r.first q.last && nat_le q.first r.last)

-- two ranges of a block as one, from the first statement of both to the last
abbrev pub joined : TRegion → TRegion → TRegion
joined r q = record r { first = min r.first q.first; last = max r.last q.last }

-- a range with these others as one
abbrev pub joined_all : TRegion → List TRegion → TRegion
joined_all r [] = r
joined_all r (q ∷ qs) = joined_all (joined r q) qs

-- one more range among ranges that share no statement: with those that it shares one with it becomes one
abbrev pub with_range : TRegion → List TRegion → List TRegion
with_range r rs = joined_all r (filter (shares r) rs) ∷ filter (λ q. not (shares r q)) rs

-- ranges, of which those that share a statement are one
abbrev pub united : List TRegion → List TRegion
united [] = []
united (r ∷ rs) = with_range r (united rs)

-- ---- a range inside a statement of another one is dropped

-- a range stands inside a statement of another
abbrev pub is_inside : TProgram → TRegion → TRegion → Bool
is_inside p r q = list_any (is_in_region p q) (around (placed p r.first))

-- the ranges that stand inside no statement of another
abbrev pub outermost : TProgram → List TRegion → List TRegion
outermost p rs = filter (λ r. not (list_any (is_inside p r) rs)) rs

-- ---- in order

-- one more range among ranges in order
abbrev pub with_region : TRegion → List TRegion → List TRegion
with_region r [] = r ∷ []
with_region r (q ∷ qs) = cond (nat_le r.first q.first) (r ∷ (q ∷ qs)) (q ∷ with_region r qs)

-- ranges in the order of their first statements
abbrev pub by_first : List TRegion → List TRegion
by_first [] = []
by_first (r ∷ rs) = with_region r (by_first rs)

-- ---- the policies that ask for a region

-- the policy of a requirement, where its range lies in the region
abbrev pub reason : TProgram → List Group → TRegion → TRequirement → List ℕ
reason p groups r q =
    flat_map (λ range. cond (covers p r range.first) (q.policy ∷ []) [])
    (option_to_list (smallest p groups q))

-- the policies of the requirements whose ranges lie in a region, rising, each once
abbrev pub reasons : TProgram → List Group → List TRequirement → TRegion → List ℕ
reasons p groups qs r = rising (flat_map (reason p groups r) qs)

-- ---- the regions

-- the smallest ranges of all requirements
abbrev pub ranges : TProgram → List Group → List TRequirement → List TRegion
ranges p groups qs = flat_map (λ q. option_to_list (smallest p groups q)) qs

-- ranges with numbers from `i` on and with the policies that ask for them
abbrev pub numbered : TProgram → List Group → List TRequirement → ℕ → List TRegion → List TRegion
numbered p groups qs i [] = []
numbered p groups qs i (r ∷ rs) =
    record r { id = i; reasons = reasons p groups qs r } ∷ numbered p groups qs (i + 1) rs

-- the regions that these requirements ask for: their ranges united, the outermost of them, in order
-- and numbered from 1
abbrev pub regions_for : TProgram → List Group → List TRequirement → List TRegion
regions_for p groups qs =
    numbered p groups qs 1 (by_first (outermost p (united (ranges p groups qs))))

-- the regions of a program
abbrev pub regions : TProgram → List Group → List TRegion
regions p groups = regions_for p groups (requirements p)

-- a checked program with its policies and regions
abbrev pub marked : TProgram → List Group → TMarked
marked p groups =
    record { program = p; groups = groups; policies = policies p; regions = regions p groups }
