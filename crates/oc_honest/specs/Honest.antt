-- When a report is honest for a program with its regions.
use Rattle.std.specs.Prelude.{◌≡◌, ◌≢◌, ℕ, suc, ℤ, false, List, [], ◌∷◌, ◌++◌, length, Option, Some}
use Rattle.oc_tree.specs.Tree.{TProgram}
use Rattle.oc_tree.specs.Marked.{TRegion}
use Rattle.oc_tree.specs.Said.{Told}
use Rattle.oc_tree.specs.declared.said.Ending.{Ending}
use Rattle.oc_tree.specs.declared.said.Said.TheVariants.{Ended}
use Rattle.oc_meaning.specs.Run.{AtShort, marked_run, source_run, said_in}
use Rattle.oc_items.specs.Erase.{erase, marked, kept_samples, HasNoOffInside}
use Rattle.oc_items.specs.Reports.{IsPrefixOf, EndsWith}
use Rattle.oc_honest.specs.Timely.{IsTimely}

-- what a run reported
pub record TReport : Type 0 where
  -- its items
  pub items : List Told
  -- the nonvolatile words that it left, where there are any
  pub nv : Option (List ℤ)

-- without its aborted attempts a report is the whole marked run, which is over, and these are the
-- words that it leaves
pub record IsWhole
    (p : TProgram) (regions : List TRegion) (q : List Told) (nv : Option (List ℤ)) : Type 0 where
  pub said : marked q ≡ said_in (marked_run p regions (kept_samples q))
  pub over : (marked_run p regions (kept_samples q)).ending ≢ AtShort
  pub left : nv ≡ Some (source_run p (kept_samples q)).nv

-- one prefix of a report. Without its aborted attempts it says what the marked run over its kept samples says, or a
-- prefix of it; no outage lies in a region; it is timely; and where it ends it is the whole run
pub record IsHonestSoFar
    (p : TProgram) (regions : List TRegion) (nv : Option (List ℤ)) (q : List Told) : Type 0 where
  pub said : IsPrefixOf (marked q) (said_in (marked_run p regions (kept_samples q)))
  pub outside : HasNoOffInside false (erase q)
  pub timely : IsTimely p q (source_run p (kept_samples q)).events
  pub whole : (how : Ending) → EndsWith q (Ended how) → IsWhole p regions q nv

-- every prefix of the report is honest
abbrev pub IsHonest : TProgram → List TRegion → TReport → Type 0
IsHonest p regions r = (q rest : List Told) → q ++ rest ≡ r.items → IsHonestSoFar p regions r.nv q

-- item n, from 1, is the last of the shortest prefix that isn't honest
pub record BreaksAt (p : TProgram) (regions : List TRegion) (r : TReport) (n : ℕ) : Type 0 where
  pub before : List Told
  pub item : Told
  pub rest : List Told
  pub split : before ++ item ∷ rest ≡ r.items
  pub number : n ≡ suc (length before)
  pub honest : (q more : List Told) → q ++ more ≡ before → IsHonestSoFar p regions r.nv q
  pub broken : IsHonestSoFar p regions r.nv (before ++ item ∷ []) → ⊥
