-- The audit of a report, item by item, and what it finds.
use Rattle.std.specs.Prelude.{◌≡◌, ℕ, suc, ℤ, List, [], ◌∷◌, ◌++◌, Option, Some, None}
use Rattle.oc_tree.specs.Form.{Numbered}
use Rattle.oc_tree.specs.Tree.{TProgram}
use Rattle.oc_tree.specs.Marked.{TRegion}
use Rattle.oc_tree.specs.Said.{Told}
use Rattle.oc_tree.specs.declared.said.Said.{Said}
use Rattle.oc_tree.specs.declared.said.Said.TheVariants.{Aborted, Off, Dark}
use Rattle.oc_honest.specs.Honest.{TReport, IsHonest, BreaksAt}
use Rattle.oc_steps.specs.Fold.{Watch, aborted, off, on_next, steps_on, at_first}
use Rattle.oc_steps.specs.Watching.{AllHonest, IsMade, IsWatch, IsAnswer}

module _ (p : TProgram) (regions : List TRegion) (nv : Option (List ℤ)) where
  -- this is the answer to an item that says this: how the audit goes on, or that the report breaks here
  abbrev pub IsHeard : Watch → Said → Option Watch → Type 0
  IsHeard w (Off ticks) a = a ≡ off p nv w
  IsHeard w Dark a = a ≡ Some w
  IsHeard w (Aborted r) a = a ≡ aborted p nv r w.saved
  IsHeard w s a =
      (n : ℕ) × IsMade (steps_on p regions n w.now)
      × (a ≡ on_next p nv regions w s (steps_on p regions n w.now))

  -- it finds this in the items from here on, of which the first is item n: all is honest, or one breaks
  pub data Finds : Watch → List Told → ℕ → Option ℕ → Type 0 where
    all : {w : Watch} {n : ℕ} → Finds w [] n None
    breaks : {w : Watch} {i : Told} {is : List Told} {n : ℕ}
        → IsHeard w i.said None → Finds w (i ∷ is) n (Some n)
    goes : {w now : Watch} {i : Told} {is : List Told} {n : ℕ} {v : Option ℕ}
        → IsHeard w i.said (Some now) → Finds now is (suc n) v → Finds w (i ∷ is) n v

-- before the first item
abbrev pub first_watch : TProgram → List TRegion → Watch
first_watch p regions = record { now = at_first p regions; saved = None }

-- a report is honest, or breaks at its item n
abbrev pub Judges : TProgram → List TRegion → TReport → Option ℕ → Type 0
Judges p regions r None = IsHonest p regions r
Judges p regions r (Some n) = BreaksAt p regions r n

-- one item more: where all prefixes so far are honest, the answer is that of the definition
abbrev pub HearsRight : Type 0
HearsRight =
    (p : TProgram) (regions : List TRegion)
    (nv : Option (List ℤ)) (q : List Told) (i : Told) (w : Watch) (a : Option Watch) → Numbered p
    → AllHonest p regions nv q → IsWatch p regions q w
    → IsHeard p regions nv w i.said a → IsAnswer p regions nv (q ++ i ∷ []) a

-- what the audit finds is so
abbrev pub FindsRight : Type 0
FindsRight =
    (p : TProgram) (regions : List TRegion) (r : TReport) (v : Option ℕ)
    → Numbered p → Finds p regions r.nv (first_watch p regions) r.items 1 v → Judges p regions r v
