-- Entries beside one more long period.
use Rattle.std.proofs.Common.{◌+◌, ◌*◌, ◌^◌, ◌≡◌, List, [], ◌∷◌, ◌++◌, length, map, arith, refl}
use Rattle.std.specs.List.{All}
use Rattle.std.proofs.lemmas.List.{get_or_append_left, length-append}
use Rattle.std.proofs.lemmas.List.Elements.{All-head, All-tail, All-weaker}
use Rattle.oc_io.specs.declared.period.Period.{Period}
use Rattle.oc_power.specs.declared.trace.Entry.{Entry}
use Rattle.oc_power.specs.declared.trace.Entry.TheVariants.{Whole, Cut, Long}
use Rattle.oc_power.specs.Entries.{IsPlaced, no_period, period_of}

longer : (long : List Period) (p : Period) → length (long ++ p ∷ []) ≡ length long + 1
longer long p = length-append long (p ∷ [])

still_placed : (long : List Period) (p : Period) (e : Entry) → IsPlaced (length long) e → IsPlaced (length (long ++ p ∷ [])) e
still_placed long p (Whole on off) h = tt
still_placed long p (Cut on off) h = tt
still_placed long p (Long high low) h = omega (arith, h, longer long p)

same_period : (long : List Period) (p : Period) (e : Entry) → IsPlaced (length long) e → period_of (long ++ p ∷ []) e ≡ period_of long e
same_period long p (Whole on off) h = refl
same_period long p (Cut on off) h = refl
same_period long p (Long high low) h = get_or_append_left long (p ∷ []) no_period (high * 2 ^ 32 + low) h

same_periods : (long : List Period) (p : Period) (es : List Entry) → All (IsPlaced (length long)) es → map (period_of (long ++ p ∷ [])) es ≡ map (period_of long) es
same_periods long p [] h = refl
same_periods long p (e ∷ es) h =
    rw (same_period long p e (All-head (IsPlaced (length long)) e es h), same_periods long p es (All-tail (IsPlaced (length long)) e es h)) refl

-- one more long period leaves each entry's own
pub kept_beside : (long : List Period) (p : Period) (es : List Entry) → All (IsPlaced (length long)) es
    → All (IsPlaced (length (long ++ p ∷ []))) es × (map (period_of (long ++ p ∷ [])) es ≡ map (period_of long) es)
kept_beside long p es h = (All-weaker (IsPlaced (length long)) (IsPlaced (length (long ++ p ∷ []))) (still_placed long p) es h, same_periods long p es h)
