-- Which periods keep more of a run, and which suffice for its end.
use Rattle.std.proofs.Common.{zero, suc, ◌-◌, false, replicate, suc-mul, zero-mul, ◌≡◌, ◌≤◌, ℕ, ◌*◌, ℤ, List, [], ◌∷◌, arith, inl, inr, true}
use Rattle.oc_io.specs.declared.period.Period.{Period}
use Rattle.oc_tree.specs.Word.{is_word}
use Rattle.oc_isa.specs.Next.{Device}
use Rattle.oc_isa.specs.Run.{start_of}
use Rattle.oc_isa.specs.Power.{first_world}
use Rattle.oc_outage.specs.Honest.{IsFit}
use Rattle.oc_bounds.specs.Bounds.{Bounds, IsBounded, AreLong, Takes}
use Rattle.oc_bounds.specs.Headway.{AddUp, PeriodsKeep, RunEnds, Suffice, least}
use Rattle.oc_bounds.proofs.Carrying.{first_at, keeps_more, through_enough, through_long}
use Rattle.oc_bounds.proofs.Pricing.{least_is, least_safe, takes_whole}

-- n periods of the same length
pub even_enough : (low steps n : ℕ) (p : Period) → p.cut ≡ false → steps ≤ n * (suc p.on - low) → AddUp low steps (replicate n p)
even_enough low zero n p whole le = tt
even_enough low (suc k) zero p whole le = absurd (let none = zero-mul (suc p.on - low) in omega (arith, le, none))
even_enough low (suc k) (suc n) p whole le = (whole, even_enough low (suc k - (suc p.on - low)) n p whole (omega (arith, le, suc-mul n (suc p.on - low))))

-- one period fewer, with fewer steps
fewer_long : (low steps n : ℕ) (periods : List Period) → low ≤ steps → AreLong steps (suc n) periods → AreLong low n periods
fewer_long low steps zero periods le s = tt
fewer_long low steps (suc n) [] le s = absurd s
fewer_long low steps (suc n) (p ∷ periods) le s = let long = s.0 in (omega (arith, le, long), s.1, fewer_long low steps n periods le s.2)

module _ (d : Device) (b : Bounds) where
  module _ (h : ℕ → ℕ → ℤ) (fit : IsFit d) (bounded : IsBounded d b) (words : (s t : ℕ) → is_word (h s t) ≡ true) where
    pub periods_keep : (periods : List Period) → PeriodsKeep d b h periods
    periods_keep periods = λ before rest p split low goes.
        keeps_more d b b.total h fit words (least d b) (least_is d b bounded) before p b.steps 0 (first_world d) low
        (first_at d b b.total h fit words b.steps bounded.takes) goes

    -- as many long periods as a run has instructions suffice
    pub long_ends : (periods : List Period) → AreLong (least d b) b.total periods → RunEnds d h periods
    long_ends periods long =
        through_long d b b.total h fit words (least d b) (least_is d b bounded) b.total b.steps 0 periods (first_world d) (omega arith) long
        (first_at d b b.total h fit words b.steps bounded.takes)

    -- so do the steps of a run, where periods have them beyond those that a boot and what comes next may take
    pub steps_end : (periods : List Period) (work : ℕ) → Takes d b b.total work (start_of d) → AddUp (least d b) work periods → RunEnds d h periods
    steps_end periods work takes enough =
        through_enough d b b.total h fit words (least d b) (least_is d b bounded) work work 0 periods (first_world d) (omega arith) enough (first_at d b b.total h fit words work takes)

    pub run_ends : (periods : List Period) → Suffice d b periods → RunEnds d h periods
    run_ends periods (inl safe) = long_ends periods (fewer_long (least d b) b.safe b.total periods (least_safe d b) safe)
    run_ends periods (inr (inl long)) = long_ends periods long
    run_ends periods (inr (inr (inl e))) = steps_end periods b.steps bounded.takes e
    run_ends periods (inr (inr (inr e))) = steps_end periods e.work (takes_whole d b e.most e.work (λ r c i. e.few r) e.half bounded) e.steps
