-- The audit: one pass over the items of a report, which keeps a run under way and the one at the last `enter`.
use Rattle.std.specs.Prelude.{◌≡◌, ℕ, zero, suc, ℤ, Bool, true, false, ◌&&◌, ◌==◌, not, nat_lt, List, [], ◌∷◌, length, codes, Option, Some, None, find, if◌then◌else◌}
use Rattle.std.specs.Ordering.{int_eq}
use Rattle.oc_tree.specs.Tree.{TProgram}
use Rattle.oc_tree.specs.Marked.{TRegion}
use Rattle.oc_tree.specs.declared.said.Said.{Said}
use Rattle.oc_tree.specs.declared.said.Said.TheVariants.{Sensed, Showed, Entered, Committed, Aborted, Off, Dark, Ended}
use Rattle.oc_tree.specs.declared.said.Shown.TheVariants.{Emitted, Used, Finished, Tagged}
use Rattle.oc_tree.specs.declared.said.Ending.TheVariants.{Halted, Trapped}
use Rattle.oc_tree.specs.declared.said.Shown.{Shown}
use Rattle.oc_tree.specs.declared.said.TrapKind.{TrapKind}
use Rattle.oc_tree.specs.declared.said.TrapKind.TheVariants.{Zero, Index}
use Rattle.oc_meaning.specs.Store.{Event, Store}
use Rattle.oc_meaning.specs.Exec.{Outcome, Went, Returned, Stopped}
use Rattle.oc_meaning.specs.Run.{first_store, words_of}
use Rattle.oc_steps.specs.Steps.{Frame, Step, Goes, Asks, Over, step, step_passed, sensed}
use Rattle.oc_steps.specs.Ages.{join_ages, of_ages}
use Rattle.oc_meaning.specs.Cuts.{events_in}
use Rattle.oc_steps.specs.Heard.{cleared, store_in}
use Rattle.oc_honest.specs.Timely.{set_of}

-- the last tag of a set: its instance, and the age of the samples of that instance
pub record Instance : Type 0 where
  pub set : ℕ × ℤ
  pub number : ℕ
  pub age : List ℕ

-- A run under way over ages. Its store holds no event, no sample to come, and for `taken` the outages before; `over`
-- says that its last word was told
pub record Way : Type 0 where
  pub frames : List Frame
  pub out : Outcome
  pub sets : List Instance
  pub inside : Bool
  pub over : Bool

-- and the region of the last `enter`, where no mark stands behind it, with the run before it
pub record Watch : Type 0 where
  pub now : Way
  pub saved : Option (ℕ × Way)

-- what a run does next: says something, wants a sample, or nothing more; or it only went on
pub data Next : Type 0 where
  Says : Event → Way → Next
  Wants : (sensor : ℕ) → List Frame → Store → Next
  Stands : Way → Next
  Went_on : Way → Next

abbrev pub told_by : Way → List Frame → Outcome → List Event → Next
told_by w fs o [] = Went_on (record w { frames = fs; out = o })
told_by w fs o (e ∷ es) = Says e (record w { frames = fs; out = cleared o })

abbrev pub after_step : Way → Step → Next
after_step w (Goes fs o) = told_by w fs o (events_in o)
after_step w (Asks s fs σ) = Wants s fs σ
after_step w Over = Stands w

module _ (p : TProgram) (regions : List TRegion) where
  abbrev pub next_of : Way → Next
  next_of w = after_step w (step p regions join_ages of_ages w.frames w.out)

  abbrev pub then_next : Next → Next
  then_next (Went_on w) = next_of w
  then_next n = n

  -- so many steps on, or fewer where it says or wants something before
  abbrev pub steps_on : ℕ → Way → Next
  steps_on zero w = Went_on w
  steps_on (suc n) w = then_next (steps_on n w)

  abbrev pub start : List ℤ → Step → Way
  start samples (Goes fs o) =
      record { frames = fs; out = o; sets = []; inside = false; over = false }
  start samples s =
      record {
        frames = [];
        out = Went (first_store p samples);
        sets = [];
        inside = false;
        over = false;
      }

  -- before the first item
  abbrev pub at_first : Way
  at_first =
      start [] (step_passed p
      regions join_ages of_ages (suc (length p.functions)) (codes "main") [] [] (first_store p []))

-- ---- what may be said

abbrev pub outages : Outcome → ℕ
outages o = (store_in o).taken

-- all samples stand behind the last outage
abbrev pub is_new : ℕ → List ℕ → Bool
is_new c [] = true
is_new c (x ∷ []) = x == c
is_new c (x ∷ y ∷ w) = false

abbrev pub is_one : List ℕ → Bool
is_one (x ∷ y ∷ w) = false
is_one a = true

abbrev pub is_set : ℕ × ℤ → Instance → Bool
is_set k i = (i.set.0 == k.0) && int_eq i.set.1 k.1

-- the age of the instance of a set, if its last tag was of this instance
abbrev pub age_at : ℕ → Option Instance → List ℕ
age_at n None = []
age_at n (Some i) = if i.number == n then i.age else []

-- the samples of a set's instance with those of this tag
abbrev pub tag_age : ℕ × ℤ → Event → List Instance → List ℕ
tag_age k e sets = join_ages (age_at e.instance (find (is_set k) sets)) e.samples

-- the last tag of a set was of a later instance
abbrev pub is_later : Option Instance → ℕ → Bool
is_later None n = false
is_later (Some i) n = nat_lt n i.number

abbrev pub falls_at : Option (ℕ × ℤ) → Event → List Instance → Bool
falls_at None e sets = false
falls_at (Some k) e sets = is_later (find (is_set k) sets) e.instance

abbrev pub falls : TProgram → Said → Event → List Instance → Bool
falls p (Showed (Tagged n)) e sets = falls_at (set_of p n) e sets
falls p s e sets = false

-- no tag is of an earlier instance than the last one of its set
abbrev pub Rises : TProgram → Next → Type 0
Rises p (Says e now) = falls p e.said e now.sets ≡ false
Rises p next = Unit {0}

-- one entry for each set
abbrev pub put_instance : ℕ × ℤ → Instance → List Instance → List Instance
put_instance k new [] = new ∷ []
put_instance k new (i ∷ is) = if is_set k i then new ∷ is else i ∷ put_instance k new is

abbrev pub with_tag : Option (ℕ × ℤ) → Event → List Instance → List Instance
with_tag None e sets = sets
with_tag (Some k) e sets =
    put_instance k (record { set = k; number = e.instance; age = tag_age k e sets }) sets

abbrev pub may_tag : Option (ℕ × ℤ) → Event → List Instance → Bool
may_tag None e sets = true
may_tag (Some k) e sets = is_one (tag_age k e sets)

abbrev pub is_kind : TrapKind → TrapKind → Bool
is_kind Zero Zero = true
is_kind Index Index = true
is_kind a b = false

abbrev pub is_shown : Shown → Shown → Bool
is_shown (Emitted q z) (Emitted r y) = (q == r) && int_eq z y
is_shown (Used n) (Used m) = n == m
is_shown (Finished n) (Finished m) = n == m
is_shown (Tagged n) (Tagged m) = n == m
is_shown a b = false

-- the same was said
abbrev pub is_said : Said → Said → Bool
is_said (Sensed s z) (Sensed r y) = (s == r) && int_eq z y
is_said (Showed a) (Showed b) = is_shown a b
is_said (Entered r) (Entered k) = r == k
is_said (Committed r) (Committed k) = r == k
is_said (Ended Halted) (Ended Halted) = true
is_said (Ended (Trapped k n)) (Ended (Trapped j m)) = is_kind k j && (n == m)
is_said a b = false

abbrev pub are_words : List ℤ → List ℤ → Bool
are_words [] [] = true
are_words (x ∷ xs) (y ∷ ys) = int_eq x y && are_words xs ys
are_words xs ys = false

abbrev pub one_more : Outcome → Outcome
one_more (Went σ) = Went (record σ { taken = suc σ.taken })
one_more (Returned v σ) = Returned v (record σ { taken = suc σ.taken })
one_more (Stopped s σ) = Stopped s (record σ { taken = suc σ.taken })

-- what the audit answers to an item: how it goes on, or that the report breaks here
module _ (p : TProgram) (nv : Option (List ℤ)) where
  abbrev pub words : Outcome → List ℤ
  words o = words_of (store_in o).nv

  abbrev pub if_so : Bool → Watch → Option Watch
  if_so b w = if b then Some w else None

  abbrev pub has_words : Option (List ℤ) → List ℤ → Bool
  has_words None ws = false
  has_words (Some vs) ws = are_words vs ws

  -- an event of the source other than an input
  abbrev pub may_show : Way → Shown → Event → Bool
  may_show w (Emitted q z) e = true
  may_show w (Used n) e = is_new (outages w.out) e.samples
  may_show w (Finished n) e = is_new (outages w.out) e.samples
  may_show w (Tagged n) e = may_tag (set_of p n) e w.sets

  abbrev pub with_shown : Way → Shown → Event → Way
  with_shown w (Tagged n) e = record w { sets = with_tag (set_of p n) e w.sets }
  with_shown w s e = w

  abbrev pub aborted : ℕ → Option (ℕ × Way) → Option Watch
  aborted r None = None
  aborted r (Some s) = if_so (s.0 == r) (record { now = s.1; saved = None })

  abbrev pub off : Watch → Option Watch
  off w = if_so (not w.now.inside) (record w { now = record w.now { out = one_more w.now.out } })

  -- something was said next
  abbrev pub on_event : Watch → Said → Event → Way → Option Watch
  on_event w (Entered r) e now =
      if_so (is_said e.said (Entered r))
      (record { now = record now { inside = true }; saved = Some (r, w.now) })
  on_event w (Committed r) e now =
      if_so (is_said e.said (Committed r))
      (record { now = record now { inside = false }; saved = None })
  on_event w (Showed a) e now =
      if_so (is_said e.said (Showed a) && may_show now a e) (record w { now = with_shown now a e })
  on_event w (Ended how) e now =
      if_so (is_said e.said (Ended how) && has_words nv (words now.out))
      (record w { now = record now { over = true } })
  on_event w s e now = None

  -- a sample is wanted
  abbrev pub on_want : List TRegion → Watch → Said → ℕ → List Frame → Store → Option Watch
  on_want rs w (Sensed s z) sensor fs σ =
      if_so (s == sensor) (record w {
        now = record w.now {
          frames = fs;
          out = cleared (sensed p rs join_ages of_ages sensor z σ);
        };
      })
  on_want rs w s sensor fs σ = None

  -- the run went through
  abbrev pub at_end : Watch → Way → Outcome → Option Watch
  at_end w now (Went σ) =
      if_so (not now.over && has_words nv (words (Went σ)))
      (record w { now = record now { over = true } })
  at_end w now (Returned v σ) =
      if_so (not now.over && has_words nv (words (Returned v σ)))
      (record w { now = record now { over = true } })
  at_end w now (Stopped s σ) = None

  -- the run stands at its end
  abbrev pub on_end : Watch → Said → Way → Option Watch
  on_end w (Ended Halted) now = at_end w now now.out
  on_end w s now = None

  abbrev pub on_next : List TRegion → Watch → Said → Next → Option Watch
  on_next rs w s (Says e now) = on_event w s e now
  on_next rs w s (Wants sensor fs σ) = on_want rs w s sensor fs σ
  on_next rs w s (Stands now) = on_end w s now
  on_next rs w s (Went_on now) = None

  -- how it goes on after an item, where this is what the run does next
  abbrev pub hear : List TRegion → Watch → Said → Next → Option Watch
  hear rs w (Off ticks) next = off w
  hear rs w Dark next = Some w
  hear rs w (Aborted r) next = aborted r w.saved
  hear rs w s next = on_next rs w s next
