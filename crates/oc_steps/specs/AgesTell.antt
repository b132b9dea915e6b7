-- What an age tells of the samples of a set.
use Rattle.std.specs.Prelude.{◌≡◌, ◌≢◌, ◌<◌, ℕ, List, [], ◌∷◌, length, get_or}
use Rattle.oc_steps.specs.Ages.{age_of}
use Rattle.oc_tree.specs.Members.{IsOf}

-- two samples of the set with another number of outages before them
abbrev pub Differ : (ℕ → ℕ) → List ℕ → Type 0
Differ before s = (j : ℕ) × (k : ℕ) × IsOf j s × IsOf k s × (before j ≢ before k)

-- these are the numbers of outages before the samples so far
abbrev pub Agrees : List ℕ → (ℕ → ℕ) → Type 0
Agrees table before = (j : ℕ) → j < length table → before j ≡ get_or table j 0

-- whatever stands before later samples, the set has this age
abbrev pub HasAge : List ℕ → List ℕ → List ℕ → Type 0
HasAge table s age = (before : ℕ → ℕ) → Agrees table before → age_of before s ≡ age

pub record AgesTell : Type 0 where
  -- one outage: that of each sample
  pub each : (before : ℕ → ℕ) (s : List ℕ) (x : ℕ)
      → age_of before s ≡ x ∷ [] → (j : ℕ) → IsOf j s → before j ≡ x
  pub none : (before : ℕ → ℕ) (s : List ℕ) → age_of before s ≡ [] → s ≡ []
  -- mixed: two samples differ
  pub mixes : (before : ℕ → ℕ) (s : List ℕ) (x y : ℕ) (w : List ℕ)
      → age_of before s ≡ x ∷ y ∷ w → Differ before s
  -- a set of one age whatever comes later has no sample that is to come
  pub within : (table s : List ℕ) (x : ℕ)
      → HasAge table s (x ∷ []) → (j : ℕ) → IsOf j s → j < length table
