-- When reports are timely and honest, by examples.
use Rattle.std.proofs.Common.{true≢false, ap, sym, subst, ◌∙◌, inl, inr}
use Rattle.std.specs.Prelude.{◌≡◌, refl, ℕ, zero, suc, pos, Bool, true, false, List, [], ◌∷◌, ◌++◌, None, Some}
use Rattle.oc_tree.specs.Tree.{TProgram}
use Rattle.oc_tree.specs.Members.{IsOf}
use Rattle.oc_tree.specs.Said.{Told}
use Rattle.oc_tree.specs.declared.said.Said.{Said}
use Rattle.oc_tree.specs.declared.said.Said.TheVariants.{Sensed, Showed, Ended}
use Rattle.oc_tree.specs.declared.said.Shown.TheVariants.{Emitted, Used, Finished}
use Rattle.oc_tree.specs.declared.said.Ending.{Ending}
use Rattle.oc_tree.specs.declared.said.Ending.TheVariants.{Halted}
use Rattle.oc_tree.specs.Worked.{fresh_input}
use Rattle.oc_meaning.specs.Run.{Ending as RunEnding, AtShort}
use Rattle.oc_honest.specs.Timely.{Lived, lived, AreTimely, told_at, event}
use Rattle.oc_honest.specs.Honest.{TReport, IsWhole, IsHonestSoFar, IsHonest, BreaksAt}
use Rattle.oc_honest.specs.Examples.{used_late, input_and_use}

-- ---- timely

-- an input and its use, with no outage before either
abbrev pub used_at_once : List Lived
used_at_once =
    record { offs = 0; event = event (Sensed 0 (pos 21)) (0 ∷ []) 0 }
    ∷ record { offs = 0; event = event (Showed (Used 3)) (0 ∷ []) 0 } ∷ []

-- no outage stands before either of them
before_none : (a : Lived) → IsOf a used_at_once → a.offs ≡ 0
before_none a (inl e) = ap (λ l. l.offs) e
before_none a (inr (inl e)) = ap (λ l. l.offs) e
before_none a (inr (inr o)) = absurd o

pub AreTimely_example : (p : TProgram) → AreTimely p used_at_once
AreTimely_example p = record {
  fresh = λ a u j ina inu i it o. before_none a ina ∙ sym (before_none u inu);
  consistent = λ a b t u j k ina inb int inu i l tags o q.
      before_none a ina ∙ sym (before_none b inb);
}

-- a number is 0
abbrev is_none : ℕ → Bool
is_none zero = true
is_none (suc n) = false

-- with an outage between them they aren't
pub AreTimely_example_late : (p : TProgram) → AreTimely p (lived used_late input_and_use) → ⊥
AreTimely_example_late p timely =
    true≢false (ap is_none (timely.fresh _ _ 0 (inl refl) (inr (inl refl)) (0, pos 21, refl, refl)
    tt (inl refl)))

-- ---- honest

-- the whole run of `fresh_input` over 21
abbrev pub whole_report : List Told
whole_report =
    told_at 1 (Sensed 0 (pos 21)) ∷ told_at 2 (Showed (Used 3))
    ∷ told_at 3 (Showed (Emitted 0 (pos 21))) ∷ told_at 4 (Showed (Finished 3))
    ∷ told_at 5 (Ended Halted) ∷ []

-- a run found no sample left
abbrev is_short : RunEnding → Bool
is_short AtShort = true
is_short e = false

-- the program has no nonvolatile words
pub IsWhole_example : IsWhole fresh_input [] whole_report (Some [])
IsWhole_example = record {
  said = refl;
  over = λ e. true≢false (sym (ap is_short e));
  left = refl;
}

-- ---- front parts

-- `fresh_input` has read its sensor
abbrev pub one_input : List Told
one_input = told_at 1 (Sensed 0 (pos 21)) ∷ []

-- a report has no item
abbrev is_empty : List Told → Bool
is_empty [] = true
is_empty (i ∷ is) = false

-- the items behind the first
abbrev tail_of : List Told → List Told
tail_of [] = []
tail_of (i ∷ is) = is

-- the first item alone
abbrev first_of : List Told → List Told
first_of [] = []
first_of (i ∷ is) = i ∷ []

-- what was said is an input
abbrev is_input : Said → Bool
is_input (Sensed sensor value) = true
is_input s = false

-- the first item is an input
abbrev begins_with_input : List Told → Bool
begins_with_input (i ∷ is) = is_input i.said
begins_with_input [] = false

-- an empty report ends with nothing
none_ends : (how : Ending) (before : List Told) (tick : ℕ)
    → [] ≡ before ++ told_at tick (Ended how) ∷ [] → ⊥
none_ends how [] tick e = true≢false (ap is_empty e)
none_ends how (i ∷ before) tick e = true≢false (ap is_empty e)

-- a report of one input doesn't end a run
input_ends : (how : Ending) (before : List Told) (tick : ℕ)
    → one_input ≡ before ++ told_at tick (Ended how) ∷ [] → ⊥
input_ends how [] tick e = true≢false (ap begins_with_input e)
input_ends how (i ∷ before) tick e = none_ends how before tick (ap tail_of e)

-- there is one number of outages in a list of one event
only_one : (l a : Lived) → IsOf a (l ∷ []) → a.offs ≡ l.offs
only_one l a (inl e) = ap (λ k. k.offs) e
only_one l a (inr o) = absurd o

-- so it is timely
one_timely : (p : TProgram) (l : Lived) → AreTimely p (l ∷ [])
one_timely p l = record {
  fresh = λ a u j ina inu i it o. only_one l a ina ∙ sym (only_one l u inu);
  consistent = λ a b t u j k ina inb int inu i q tags o r.
      only_one l a ina ∙ sym (only_one l b inb);
}

-- a report that says nothing yet
pub IsHonestSoFar_example : IsHonestSoFar fresh_input [] None []
IsHonestSoFar_example = record {
  said = ([], refl);
  outside = tt;
  timely = record {
    fresh = λ a u j ina inu i it o. absurd ina;
    consistent = λ a b t u j k ina inb int inu i l tags o q. absurd ina;
  };
  whole = λ how end. absurd (none_ends how end.0 end.1 end.2);
}

-- behind the input the program says the use, the output, the end of the use, and that it ends
pub IsHonestSoFar_example_input : IsHonestSoFar fresh_input [] None one_input
IsHonestSoFar_example_input = record {
  said = (
    Showed (Used 3) ∷ Showed (Emitted 0 (pos 21)) ∷ Showed (Finished 3) ∷ Ended Halted ∷ [],
    refl,
  );
  outside = (tt, tt);
  timely = one_timely fresh_input _;
  whole = λ how end. absurd (input_ends how end.0 end.1 end.2);
}

-- a report of one input has two front parts
fronts : (q rest : List Told) → q ++ rest ≡ one_input → IsHonestSoFar fresh_input [] None q
fronts [] rest e = IsHonestSoFar_example
fronts (i ∷ []) rest e =
    subst (λ q. IsHonestSoFar fresh_input [] None q) (sym (ap first_of e))
    IsHonestSoFar_example_input
fronts (i ∷ j ∷ q) rest e = absurd (true≢false (sym (ap (λ is. is_empty (tail_of is)) e)))

pub IsHonest_example : IsHonest fresh_input [] (record { items = one_input; nv = None })
IsHonest_example = fronts

-- an empty report has one
no_front : (q rest : List Told) → q ++ rest ≡ [] → IsHonestSoFar fresh_input [] None q
no_front [] rest e = IsHonestSoFar_example
no_front (i ∷ q) rest e = absurd (true≢false (sym (ap is_empty e)))

pub IsHonest_example_empty : IsHonest fresh_input [] (record { items = []; nv = None })
IsHonest_example_empty = no_front

-- an output that stands before the use begins
abbrev pub output_first : TReport
output_first =
    record {
      items = one_input ++ told_at 2 (Showed (Emitted 0 (pos 21))) ∷ [];
      nv = None;
    }

-- an output is said second
abbrev second_is_output : List Said → Bool
second_is_output (s ∷ Showed (Emitted port value) ∷ ss) = true
second_is_output ss = false

-- its second item isn't honest
pub BreaksAt_example : BreaksAt fresh_input [] output_first 2
BreaksAt_example = record {
  before = one_input;
  item = told_at 2 (Showed (Emitted 0 (pos 21)));
  rest = [];
  split = refl;
  number = refl;
  honest = fronts;
  broken = λ h. true≢false (ap second_is_output h.said.1);
}
