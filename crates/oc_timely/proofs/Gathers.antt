-- Sets gather, where no mark stands between two tags that are together, of which the earlier has samples.
use Rattle.std.proofs.Common.{◌≡◌, ℕ, ◌≤◌, Bool, List, [], ◌∷◌, ◌++◌, refl, sym, ◌∙◌, subst, arith}
use Rattle.oc_tree.specs.Tree.{TProgram}
use Rattle.oc_tree.specs.declared.said.Said.{Said}
use Rattle.oc_tree.specs.declared.said.Said.TheVariants.{Sensed, Showed, Entered, Committed, Aborted, Off, Dark, Ended}
use Rattle.oc_tree.specs.declared.said.Shown.TheVariants.{Tagged}
use Rattle.oc_meaning.specs.Store.{Event}
use Rattle.oc_tree.specs.Members.{IsOf}
use Rattle.oc_honest.specs.Timely.{AreTogether}
use Rattle.oc_timely.specs.Enough.{sense_count, taken_in, open_after, is_open, since_after, since, AreSince, AreGathered}
use Rattle.oc_timely.specs.Sets.{IsNoMark, AreNoMarks, IsUnparted, AreUnparted}
use Rattle.oc_timely.specs.Modes.{IsFine, AllFine, IsGathered, AllGathered}

pub count_more : (s : Said) (n : ℕ) → n ≤ sense_count s n
count_more (Sensed q z) n = omega arith
count_more (Showed w) n = omega arith
count_more (Entered r) n = omega arith
count_more (Committed r) n = omega arith
count_more (Aborted r) n = omega arith
count_more (Off t) n = omega arith
count_more Dark n = omega arith
count_more (Ended w) n = omega arith

same_open : (s : Said) (b : Bool) → IsNoMark s → open_after s b ≡ b
same_open (Entered r) b h = absurd h
same_open (Committed r) b h = absurd h
same_open s b h = refl

same_since : (s : Said) (es : List Event) (n : ℕ) → IsNoMark s → since_after s es n ≡ n
same_since (Entered r) es n h = absurd h
same_since s es n h = refl

pub since_more : (samples : List ℕ) (more es : List Event) → AreNoMarks more → AreSince es samples → AreSince (more ++ es) samples
since_more samples [] es h a j i = a j i
since_more samples (e ∷ more) es h a j i =
    let r = since_more samples more es h.1 a j i in
    let s = same_since e.said (more ++ es) (since (more ++ es)) h.0 in
    let c = count_more e.said (taken_in (more ++ es)) in
    (same_open e.said (is_open (more ++ es)) h.0 ∙ r.0, omega (arith, s, r.1), omega (arith, c, r.2))

pub fine_part : (more es : List Event) → AllFine (more ++ es) → AllFine es
fine_part [] es h = h
fine_part (e ∷ more) es h = fine_part more es h.1

pub tag_since : (s : Said) (n : ℕ) (x : Event) (es : List Event) → s ≡ Showed (Tagged n) → IsFine s x es → AreSince es x.samples
tag_since s n x es q h = subst (λ t. IsFine t x es) q h

tag_no_mark : (s : Said) (n : ℕ) → s ≡ Showed (Tagged n) → IsNoMark s
tag_no_mark s n q = subst IsNoMark (sym q) tt

gathered : (p : TProgram) (e : Event) (es : List Event) → AllFine es → ((x : Event) (j : ℕ) → IsOf x es → AreTogether p x e → IsOf j x.samples → IsUnparted x es) → AreGathered p e es
gathered p e es f h x i t j k =
    let b = h x j i t k in
    let g = fine_part b.more (x ∷ b.older) (subst AllFine b.is f) in
    let a = tag_since x.said t.one x b.older t.first g.0 in
    let c = since_more x.samples (x ∷ []) b.older (tag_no_mark x.said t.one t.first, tt) a in
    subst (λ ds. AreSince ds x.samples) (sym b.is) (since_more x.samples b.more (x ∷ b.older) b.marks c) j k

gathers_one : (p : TProgram) (s : Said) (e : Event) (es : List Event) → AreGathered p e es → IsGathered p s e es
gathers_one p (Showed (Tagged n)) e es g = g
gathers_one p s e es g = tt

pub all_gathered : (p : TProgram) (es : List Event) → AllFine es → AreUnparted p es → AllGathered p es
all_gathered p [] f u = tt
all_gathered p (e ∷ es) f u = (gathers_one p e.said e es (gathered p e es f.1 u.0), all_gathered p es f.1 u.1)
