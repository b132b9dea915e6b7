-- Orders of numbers in which each stands behind those that it leads to directly.
use Rattle.std.specs.Prelude.{◌≡◌, ◌<◌, ℕ, ◌+◌, Bool, true, List, [], ◌∷◌, ◌++◌, map, length, take}
use Rattle.std.proofs.Math.ListN.{get_or}
use Rattle.oc_tree.specs.Reach.{Links, linked, leads, some_below, count_below}
use Rattle.oc_reach.specs.Marked.{is_in}

-- the links from numbers to those in their rows, where the first row is that of `u`
abbrev pub row_links : ℕ → List (List ℕ) → Links
row_links u [] = []
row_links u (row ∷ rows) = map (λ v. (u, v)) row ++ row_links (u + 1) rows

-- each number stands behind those that it leads to directly
abbrev pub IsBehind : Links → List ℕ → Type 0
IsBehind links order =
    (i v : ℕ) → i < length order → linked links (get_or order i 0) v ≡ true
    → is_in (take i order) v ≡ true

-- an order of some of the numbers below `n`, each of them once
pub record IsBegun (links : Links) (n : ℕ) (order : List ℕ) : Type 0 where
  pub behind : IsBehind links order
  pub within : (v : ℕ) → is_in order v ≡ true → v < n
  pub once : count_below (is_in order) n ≡ length order

-- an order of all numbers below `n`, each of them once
pub record IsOrder (links : Links) (n : ℕ) (order : List ℕ) : Type 0 where
  pub behind : IsBehind links order
  pub within : (v : ℕ) → is_in order v ≡ true → v < n
  pub there : (v : ℕ) → v < n → is_in order v ≡ true
  pub many : length order ≡ n

-- a number below `n` leads to itself
abbrev pub comes_back : Links → ℕ → Bool
comes_back links n = some_below n (λ u. leads links n u u)
