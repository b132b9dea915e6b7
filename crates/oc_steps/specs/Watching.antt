-- What the audit's state has to do with the items so far, and what an item does to it.
use Rattle.std.specs.Prelude.{◌≡◌, ◌≢◌, ◌<◌, ◌≤◌, ℕ, suc, ℤ, Bool, true, false, List, [], ◌∷◌, ◌++◌, length, map, find, get_or, Option, Some, None}
use Rattle.oc_tree.specs.Form.{Numbered}
use Rattle.oc_tree.specs.Tree.{TProgram}
use Rattle.oc_tree.specs.Marked.{TRegion}
use Rattle.oc_tree.specs.Said.{Told}
use Rattle.oc_tree.specs.declared.said.Said.{Said}
use Rattle.oc_tree.specs.declared.said.Said.TheVariants.{Sensed, Showed, Entered, Aborted, Off, Dark}
use Rattle.oc_tree.specs.declared.said.Shown.TheVariants.{Tagged}
use Rattle.oc_tree.specs.Samples.{union}
use Rattle.oc_meaning.specs.Store.{Event}
use Rattle.oc_meaning.specs.Exec.{Outcome}
use Rattle.oc_meaning.specs.Run.{marked_run, said_in, in_order}
use Rattle.oc_items.specs.Erase.{erase, without_offs, without_marks, samples_of, inside_after}
use Rattle.oc_steps.specs.Steps.{Frame, Over, step, of_samples}
use Rattle.oc_steps.specs.Ages.{aged_frame, aged_outcome}
use Rattle.oc_steps.specs.AgesTell.{Agrees}
use Rattle.oc_steps.specs.Heard.{Under, said_so_far, store_in}
use Rattle.oc_honest.specs.Honest.{IsHonestSoFar}
use Rattle.oc_steps.specs.Fold.{Way, Watch, Next, Went_on, Instance, Rises, is_set, is_one, aborted, on_next, steps_on}
use Rattle.oc_honest.specs.Timely.{Lived, lived_from, IsUse, set_of}
use Rattle.oc_meaning.specs.Unmarked.{unmarked}
use Rattle.oc_steps.specs.Freshness.{AreNumbered}
use Rattle.oc_steps.specs.Erasing.{item, last_mark, AreUnmarked}
use Rattle.oc_steps.specs.Counting.{AreCounted}
use Rattle.oc_tree.specs.Members.{IsOf}

abbrev pub off_more : Said → ℕ → ℕ
off_more (Off t) n = suc n
off_more s n = n

-- how many outages stand before the end of it
abbrev pub offs_in : ℕ → List Told → ℕ
offs_in n [] = n
offs_in n (i ∷ is) = offs_in (off_more i.said n) is

abbrev pub with_input : Said → ℕ → List ℕ → List ℕ
with_input (Sensed s z) n later = n ∷ later
with_input s n later = later

-- and before each of its inputs
abbrev pub offs_before : ℕ → List Told → List ℕ
offs_before n [] = []
offs_before n (i ∷ is) = with_input i.said n (offs_before (off_more i.said n) is)

abbrev pub is_inside : Bool → List Told → Bool
is_inside b [] = b
is_inside b (i ∷ is) = is_inside (inside_after b i.said) is

-- the samples of an erased report
abbrev pub samples_in : List Told → List ℤ
samples_in e = samples_of (without_marks (without_offs e))

-- what these items tell of a run that told these events, newest first
abbrev pub lives_of : List Told → List Event → List Lived
lives_of e past = lived_from 0 e (unmarked (in_order past))

-- a sample with so many outages before it
abbrev pub IsAt : List ℕ → ℕ → ℕ → Type 0
IsAt table j x = (j < length table) × (get_or table j 0 ≡ x)

-- a tag is of the last instance of its set, whose age has all its samples, or of an earlier one
pub record IsLatest (table : List ℕ) (e : Event) (i : Instance) : Type 0 where
  pub number : e.instance ≤ i.number
  pub below : (j : ℕ) → IsOf j e.samples → j < length table
  pub ages : e.instance ≡ i.number
      → (j : ℕ) → IsOf j e.samples → (x : ℕ) × IsOf x i.age × IsAt table j x

-- a tag of a set with a sample of this age
pub record IsAged
    (p : TProgram) (all : List Lived) (table : List ℕ) (k : ℕ × ℤ) (number x : ℕ) : Type 0 where
  pub tag : Lived
  pub stmt : ℕ
  pub sample : ℕ
  pub lives : IsOf tag all
  pub said : tag.event.said ≡ Showed (Tagged stmt)
  pub set : set_of p stmt ≡ Some k
  pub instance : tag.event.instance ≡ number
  pub has : IsOf sample tag.event.samples
  pub stands_at : IsAt table sample x

-- uses and tags depend on samples so far, and the last instance of each set has the age of its samples
pub record IsSeen
    (p : TProgram) (all : List Lived) (table : List ℕ) (sets : List Instance) : Type 0 where
  pub uses : (u : Lived) (j : ℕ)
      → IsOf u all → IsUse u.event.said → IsOf j u.event.samples → j < length table
  pub tags : (u : Lived) (n : ℕ) (k : ℕ × ℤ)
      → IsOf u all → u.event.said ≡ Showed (Tagged n) → set_of p n ≡ Some k
      → (i : Instance) × (find (is_set k) sets ≡ Some i) × IsLatest table u.event i
  pub each : (k : ℕ × ℤ) (i : Instance) (x : ℕ)
      → find (is_set k) sets ≡ Some i → IsOf x i.age → IsAged p all table k i.number x
  pub one : (k : ℕ × ℤ) (i : Instance) → find (is_set k) sets ≡ Some i → is_one i.age ≡ true

-- the run under way told these items, and its inputs are numbered
pub record IsGoing
    (p : TProgram) (e : List Told) (past : List Event) (sets : List Instance) : Type 0 where
  pub said : said_so_far past ≡ without_offs e
  pub numbered : AreNumbered (lives_of e past) (offs_before 0 e)
  pub seen : IsSeen p (lives_of e past) (offs_before 0 e) sets

-- a run under way over these samples, of which the table says how many outages stand before each, and c before the
-- next one: whatever it says of later samples, over ages it is this
pub record Follows (p : TProgram) (regions : List TRegion) (v : List ℤ) (table : List ℕ) (c : ℕ)
    (past : List Event) (fs : List Frame) (o : Outcome) (aged : List Frame) (aged_out : Outcome)
    : Type 0 where
  pub under : Under p regions v past fs o
  pub frames_age : (before : ℕ → ℕ) → Agrees table before → map (aged_frame before) fs ≡ aged
  pub out_age : (before : ℕ → ℕ) → Agrees table before → aged_outcome before c o ≡ aged_out
  pub count : (store_in o).taken ≡ length table

-- a run under way is that of these items, the erased report so far
pub record IsWay (p : TProgram) (regions : List TRegion) (e : List Told) (w : Way) : Type 0 where
  pub past : List Event
  pub fs : List Frame
  pub o : Outcome
  pub follows : Follows p regions
      (samples_in e) (offs_before 0 e) (offs_in 0 e) past fs o w.frames w.out
  pub inside : is_inside false e ≡ w.inside
  pub going : w.over ≡ false → IsGoing p e past w.sets
  pub whole : w.over ≡ true
      → (t : List ℤ) → said_in (marked_run p regions (samples_in e ++ t)) ≡ without_offs e
  pub stands : w.over ≡ true → step p regions union of_samples fs o ≡ Over
  pub counted : AreCounted p w.sets w.frames (store_in w.out).blocks

-- the run before the last `enter`, where no mark stands behind it
abbrev pub IsSaved : TProgram → List TRegion → List Told → Option (ℕ × Way) → Type 0
IsSaved p regions q None = (r : ℕ) → last_mark None q ≢ Some (Entered r)
IsSaved p regions q (Some s) =
    (front : List Told) × (body : List Told) × (t : ℕ) × (q ≡ front ++ item t (Entered s.0) ∷ body)
    × AreUnmarked body × IsWay p regions (erase front) s.1

pub record IsWatch
    (p : TProgram) (regions : List TRegion) (q : List Told) (w : Watch) : Type 0 where
  pub now : IsWay p regions (erase q) w.now
  pub saved : IsSaved p regions q w.saved

abbrev pub IsAnswer : TProgram → List TRegion → Option (List ℤ) → List Told → Option Watch → Type 0
IsAnswer p regions nv q None = IsHonestSoFar p regions nv q → ⊥
IsAnswer p regions nv q (Some w) = IsHonestSoFar p regions nv q × IsWatch p regions q w

abbrev pub IsMade : Next → Type 0
IsMade (Went_on w) = ⊥
IsMade n = Unit {0}

-- every front part of these items is honest
abbrev pub AllHonest : TProgram → List TRegion → Option (List ℤ) → List Told → Type 0
AllHonest p regions nv q =
    (front rest : List Told) → front ++ rest ≡ q → IsHonestSoFar p regions nv front

-- the answer to an `abort`
abbrev pub AbortsRight : Type 0
AbortsRight =
    (p : TProgram) (regions : List TRegion)
    (nv : Option (List ℤ)) (q : List Told) (t r : ℕ) (w : Watch)
    → AllHonest p regions nv q → IsWatch p regions q w
    → IsAnswer p regions nv (q ++ item t (Aborted r) ∷ []) (aborted p nv r w.saved)

-- it neither stands beside what a run says, nor ends an attempt
abbrev pub IsTelling : Said → Type 0
IsTelling (Aborted r) = ⊥
IsTelling (Off ticks) = ⊥
IsTelling Dark = ⊥
IsTelling s = Unit {0}

-- what a run tells next is no tag of an earlier instance than the last one of its set
abbrev pub NoneFalls : Type 0
NoneFalls =
    (p : TProgram) (regions : List TRegion) (q : List Told) (w : Watch) (n : ℕ)
    → Numbered p → IsWatch p regions q w → Rises p (steps_on p regions n w.now)

-- the answer to an item that a run tells, where this is what it does next
abbrev pub TellsRight : Type 0
TellsRight =
    (p : TProgram) (regions : List TRegion)
    (nv : Option (List ℤ)) (q : List Told) (t : ℕ) (s : Said) (w : Watch) (n : ℕ) → Numbered p
    → IsHonestSoFar p regions nv q
    → IsWatch p regions q w → IsTelling s → IsMade (steps_on p regions n w.now)
    → IsAnswer p regions nv
    (q ++ item t s ∷ []) (on_next p nv regions w s (steps_on p regions n w.now))
