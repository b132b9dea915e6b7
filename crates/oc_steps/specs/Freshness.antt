-- The test of an age is that of the samples.
use Rattle.std.specs.Prelude.{◌≡◌, ◌<◌, ℕ, true, false, List, length, get_or}
use Rattle.oc_tree.specs.Members.{IsOf}
use Rattle.oc_honest.specs.Timely.{Lived, IsInput}
use Rattle.oc_steps.specs.AgesTell.{HasAge}
use Rattle.oc_steps.specs.Fold.{is_new, is_one}

-- the inputs among these are numbered, and the table says how many outages stand before each
pub record AreNumbered (all : List Lived) (table : List ℕ) : Type 0 where
  pub each : (a : Lived) (j : ℕ)
      → IsOf a all → IsInput j a.event → (j < length table) × (a.offs ≡ get_or table j 0)
  pub has : (j : ℕ) → j < length table
      → (a : Lived) × IsOf a all × IsInput j a.event × (a.offs ≡ get_or table j 0)

-- no outage stands between the samples and now
abbrev pub AreNew : List Lived → List ℕ → ℕ → Type 0
AreNew all s c = (a : Lived) (j : ℕ) → IsOf a all → IsOf j s → IsInput j a.event → a.offs ≡ c

-- none stands among them
abbrev pub AreOne : List Lived → List ℕ → Type 0
AreOne all s =
    (a b : Lived) (j k : ℕ) → IsOf a all
    → IsOf b all → IsOf j s → IsOf k s → IsInput j a.event → IsInput k b.event → a.offs ≡ b.offs

pub record TestsRight : Type 0 where
  pub new : (all : List Lived) (table s age : List ℕ) (c : ℕ)
      → AreNumbered all table → HasAge table s age → is_new c age ≡ true → AreNew all s c
  pub old : (all : List Lived) (table s age : List ℕ) (c : ℕ)
      → AreNumbered all table → HasAge table s age → is_new c age ≡ false → AreNew all s c → ⊥
  pub one : (all : List Lived) (table s age : List ℕ)
      → AreNumbered all table → HasAge table s age → is_one age ≡ true → AreOne all s
  pub more : (all : List Lived) (table s age : List ℕ)
      → AreNumbered all table → HasAge table s age → is_one age ≡ false → AreOne all s → ⊥
