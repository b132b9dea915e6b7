-- The tests by which a list of events is found timely.
use Rattle.std.specs.Prelude.{◌≡◌, ℕ, ℤ, Bool, true, false, ◌==◌, ◌&&◌, cond, List, [], ◌∷◌, Option, Some, None}
use Rattle.std.specs.List.{list_all, list_any}
use Rattle.std.specs.Ordering.{int_eq}
use Rattle.oc_tree.specs.Tree.{TProgram}
use Rattle.oc_tree.specs.declared.said.Said.{Said}
use Rattle.oc_tree.specs.declared.said.Said.TheVariants.{Sensed, Showed}
use Rattle.oc_tree.specs.declared.said.Shown.TheVariants.{Used, Finished, Tagged}
use Rattle.oc_meaning.specs.Store.{Event}
use Rattle.oc_honest.specs.Timely.{Lived, AreTimely, set_of}

-- the number of the sample that an event takes, if it is an input
abbrev pub input_of : Said → List ℕ → Option ℕ
input_of (Sensed sensor value) (j ∷ []) = Some j
input_of s js = None

-- an event begins or ends a use
abbrev pub uses : Said → Bool
uses (Showed (Used n)) = true
uses (Showed (Finished n)) = true
uses s = false

-- the statement of a tag
abbrev pub tag_of : Said → Option ℕ
tag_of (Showed (Tagged n)) = Some n
tag_of s = None

-- a sample, if there is one, is among these
abbrev pub holds : Option ℕ → List ℕ → Bool
holds None js = false
holds (Some j) js = list_any (λ k. k == j) js

-- the first is an input, and the second depends on its sample
abbrev pub feeds : Event → Event → Bool
feeds a u = holds (input_of a.said a.samples) u.samples

-- two consistent sets are there and the same
abbrev pub same_set : Option (ℕ × ℤ) → Option (ℕ × ℤ) → Bool
same_set (Some a) (Some b) = (a.0 == b.0) && int_eq a.1 b.1
same_set a b = false

-- two statements annotate one consistent set
abbrev pub tags_one_set : TProgram → Option ℕ → Option ℕ → Bool
tags_one_set p (Some n) (Some m) = same_set (set_of p n) (set_of p m)
tags_one_set p n m = false

-- two events are tags of one instance of a consistent set
abbrev pub together : TProgram → Event → Event → Bool
together p t u = tags_one_set p (tag_of t.said) (tag_of u.said) && (t.instance == u.instance)

-- where the second event begins or ends a use of the sample that the first takes, as many outages
-- stand before both
abbrev pub use_is_fresh : Lived → Lived → Bool
use_is_fresh a u = cond (feeds a.event u.event && uses u.event.said) (a.offs == u.offs) true

-- where two tags of one instance of a set depend on the samples that two inputs take, as many
-- outages stand before both inputs
abbrev pub inputs_meet : TProgram → Lived → Lived → Lived → Lived → Bool
inputs_meet p a b t u =
    cond (feeds a.event t.event && (feeds b.event u.event && together p t.event u.event))
    (a.offs == b.offs) true

-- each use is fresh, and the inputs of each instance of a set meet
abbrev pub is_timely : TProgram → List Lived → Bool
is_timely p all =
    list_all (λ a. list_all (λ u. use_is_fresh a u) all) all
    && list_all (λ a. list_all (λ b. list_all (λ t. list_all (λ u.
    inputs_meet p a b t u) all) all) all) all

-- what passes the tests is timely
abbrev pub TestsTell : Type 0
TestsTell = (p : TProgram) (all : List Lived) → is_timely p all ≡ true → AreTimely p all
