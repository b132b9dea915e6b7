-- What the program's own supplies plan.
use Rattle.std.proofs.Common.{ℕ, zero, suc, ◌≡◌, ◌<◌, ◌∙◌, Bool, false, ap, refl, arith, List, [], ◌∷◌, Option, Some, None}
use Rattle.std.specs.Prelude.{◌==◌, option_map, if◌then◌else◌}
use Rattle.oc_power.specs.Cutting.{cut_rows}
use Rattle.oc_power.specs.Looping.{looped}
use Rattle.oc_meters.specs.Tally.{Reading, reading, readings}
use Rattle.oc_command.specs.Commands.{Command, Drill, Exec, Plan, Plans, Run, plans_of, task_of, report, drill, executing}
use Rattle.oc_top.specs.Supplies.{piece_limit, round_limit, standard_meters, standard_plans}

-- plans that give the same for each number give the same task
same_task_for : (p q : Plans) (meters : List Reading) → ((k : ℕ) → p k ≡ q k) → (command : Option Command) → task_of p meters command ≡ task_of q meters command
same_task_for p q meters h None = refl
same_task_for p q meters h (Some (Run supply metered files)) = ap (λ (o : Option Plan). option_map (λ plan. report plan (if metered then Some meters else None)) o) (h supply)
same_task_for p q meters h (Some (Drill turns)) = ap (λ (o : Option Plan). option_map (drill turns) o) (h 0)
same_task_for p q meters h (Some (Exec files)) = ap (λ (o : Option Plan). option_map executing o) (h 0)
same_task_for p q meters h (Some other) = refl

unlike : (n k : ℕ) → n < k → (n == k) ≡ false
unlike n k h = grind (arith, h)

module _ {B : Type 0} (boxes : List B) (number : B → ℕ) (plan : B → Plan) (a b c : B)
    (zero_is : number a ≡ 0) (one_is : number b ≡ 1) (two_is : number c ≡ 2)
    (rows : plan a ≡ (λ rows. rows)) (rounds : plan b ≡ looped round_limit) (pieces : plan c ≡ cut_rows piece_limit) where
  -- the plan of the first whose test holds
  abbrev picked : (first second third : Bool) → Option Plan
  picked x y z = option_map plan (if x then Some a else if y then Some b else if z then Some c else None)

  -- the plan of the first of the three that has this number
  abbrev chosen : (x y z k : ℕ) → Option Plan
  chosen x y z k = picked (x == k) (y == k) (z == k)

  chosen_is : (k : ℕ) → chosen 0 1 2 k ≡ standard_plans k
  chosen_is zero = ap Some rows
  chosen_is (suc zero) = ap Some rounds
  chosen_is (suc (suc zero)) = ap Some pieces
  chosen_is (suc (suc (suc k))) =
      let j : ℕ = suc (suc (suc k)) in
      ap (λ (x : Bool). picked x (1 == j) (2 == j)) (unlike 0 j (omega arith)) ∙ ap (λ (y : Bool). picked false y (2 == j)) (unlike 1 j (omega arith))
      ∙ ap (λ (z : Bool). picked false false z) (unlike 2 j (omega arith))

  plans_are : (k : ℕ) → plans_of number plan (a ∷ b ∷ c ∷ []) k ≡ standard_plans k
  plans_are k =
      ap (λ (x : ℕ). chosen x (number b) (number c) k) zero_is ∙ ap (λ (y : ℕ). chosen 0 y (number c) k) one_is ∙ ap (λ (z : ℕ). chosen 0 1 z k) two_is
      ∙ chosen_is k

  pub standard_task : (meters : List Reading) (command : Option Command) → boxes ≡ a ∷ b ∷ c ∷ [] → task_of (plans_of number plan boxes) meters command ≡ task_of standard_plans meters command
  standard_task meters command is =
      ap (λ (bs : List B). task_of (plans_of number plan bs) meters command) is
      ∙ same_task_for (plans_of number plan (a ∷ b ∷ c ∷ [])) standard_plans meters plans_are command

-- the program's own meters, from zero on
module _ {M : Type 0} (kind : M → ℕ) (numbers : M → List ℕ) (a b c : M) (counts : reading kind numbers a ≡ record { kind = 0; numbers = 0 ∷ 0 ∷ 0 ∷ 0 ∷ 0 ∷ [] })
    (offs : reading kind numbers b ≡ record { kind = 1; numbers = 0 ∷ 0 ∷ [] }) (retries : reading kind numbers c ≡ record { kind = 2; numbers = 0 ∷ 0 ∷ [] }) where
  abbrev three : Reading → Reading → Reading → List Reading
  three x y z = x ∷ y ∷ z ∷ []

  pub own_meters : (boxes : List M) → boxes ≡ a ∷ b ∷ c ∷ [] → readings kind numbers boxes ≡ standard_meters
  own_meters boxes is =
      ap (readings kind numbers) is ∙ ap (λ (x : Reading). three x (reading kind numbers b) (reading kind numbers c)) counts
      ∙ ap (λ (y : Reading). three (record { kind = 0; numbers = 0 ∷ 0 ∷ 0 ∷ 0 ∷ 0 ∷ [] }) y (reading kind numbers c)) offs
      ∙ ap (λ (z : Reading). three (record { kind = 0; numbers = 0 ∷ 0 ∷ 0 ∷ 0 ∷ 0 ∷ [] }) (record { kind = 1; numbers = 0 ∷ 0 ∷ [] }) z) retries
