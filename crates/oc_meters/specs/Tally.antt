-- What meters make of the items of a report.
use Rattle.std.specs.Prelude.{ℕ, zero, suc, ◌+◌, ◌-◌, ◌^◌, List, [], ◌∷◌, map, min, max}
use Rattle.oc_items.specs.declared.item.Item.{Item}
use Rattle.oc_items.specs.declared.item.Item.TheVariants as item

-- a sum that stops at the greatest 64-bit number
abbrev pub sum_to : ℕ → ℕ → ℕ
sum_to a b = min (a + b) (2 ^ 64 - 1)

-- the numbers of inputs, outputs, commits, aborts and outages, after an item
abbrev pub counted : Item → List ℕ → List ℕ
counted (item.Sense t s v) (a ∷ b ∷ c ∷ d ∷ e ∷ []) = sum_to a 1 ∷ b ∷ c ∷ d ∷ e ∷ []
counted (item.Emit t p v) (a ∷ b ∷ c ∷ d ∷ e ∷ []) = a ∷ sum_to b 1 ∷ c ∷ d ∷ e ∷ []
counted (item.Commit t r) (a ∷ b ∷ c ∷ d ∷ e ∷ []) = a ∷ b ∷ sum_to c 1 ∷ d ∷ e ∷ []
counted (item.Abort t r) (a ∷ b ∷ c ∷ d ∷ e ∷ []) = a ∷ b ∷ c ∷ sum_to d 1 ∷ e ∷ []
counted (item.Off t n) (a ∷ b ∷ c ∷ d ∷ e ∷ []) = a ∷ b ∷ c ∷ d ∷ sum_to e 1 ∷ []
counted i ns = ns

-- the sum and the greatest of the times without power, after an item
abbrev pub offs : Item → List ℕ → List ℕ
offs (item.Off t n) (sum ∷ most ∷ []) = sum_to sum n ∷ max most n ∷ []
offs i ns = ns

-- the aborts since the last commit, and the most of these, after an item
abbrev pub retried : Item → List ℕ → List ℕ
retried (item.Abort t r) (now ∷ most ∷ []) = sum_to now 1 ∷ max most (sum_to now 1) ∷ []
retried (item.Commit t r) (now ∷ most ∷ []) = 0 ∷ most ∷ []
retried i ns = ns

-- the numbers of a meter of this kind after it was told an item
abbrev pub tallied : ℕ → Item → List ℕ → List ℕ
tallied zero i ns = counted i ns
tallied (suc zero) i ns = offs i ns
tallied (suc (suc k)) i ns = retried i ns

-- the kind and the numbers of a meter
pub record Reading : Type 0 where
  pub kind : ℕ
  pub numbers : List ℕ

-- the kind and the numbers of a meter
abbrev pub reading : {M : Type 0} → (M → ℕ) → (M → List ℕ) → M → Reading
reading kind numbers meter = record { kind = kind meter; numbers = numbers meter }

-- the kinds and the numbers of these meters
abbrev pub readings : {M : Type 0} → (M → ℕ) → (M → List ℕ) → List M → List Reading
readings kind numbers meters = map (reading kind numbers) meters

-- what a meter reads after it was told an item
abbrev pub tell_reading : Item → Reading → Reading
tell_reading i r = record { kind = r.kind; numbers = tallied r.kind i r.numbers }

-- what meters read after they were told an item
abbrev pub tell_readings : Item → List Reading → List Reading
tell_readings i rs = map (tell_reading i) rs

-- how many numbers a meter of this kind has
abbrev pub width : ℕ → ℕ
width zero = 5
width (suc k) = 2
