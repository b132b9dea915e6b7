-- One more of a block, where each block's entry says how often it was executed.
use Rattle.std.proofs.Common.{◌≡◌, refl, sym, ap, ◌∙◌, ℕ, zero, suc, ◌+◌, ◌<◌, ◌≤◌, arith, List, [], ◌∷◌, ◌++◌, length}
use Rattle.std.specs.Prelude.{slice_index_or, slice_set}
use Rattle.oc_steps.specs.Ages.{one_more}
use Rattle.oc_judge.specs.Passes.{more_times}

-- an entry more before that of the block
pub entry_more : (id : ℕ) (counts : List ℕ) → length counts ≤ id → one_more id (counts ++ 0 ∷ []) ≡ one_more id counts
entry_more zero [] h = refl
entry_more (suc id) [] h = refl
entry_more zero (c ∷ counts) h = absurd (omega (arith, h))
entry_more (suc id) (c ∷ counts) h = ap (λ l. c ∷ l) (entry_more id counts (omega (arith, h)))

-- ---- so many more

times_first : (n c : ℕ) (counts : List ℕ) → more_times n 0 (c ∷ counts) ≡ (c + n) ∷ counts
times_first zero c counts = let e : c ≡ c + 0 = omega arith in ap (λ m. m ∷ counts) e
times_first (suc n) c counts = let e : suc c + n ≡ c + suc n = omega arith in times_first n (suc c) counts ∙ ap (λ m. m ∷ counts) e

times_later : (n id c : ℕ) (counts : List ℕ) → more_times n (suc id) (c ∷ counts) ≡ c ∷ more_times n id counts
times_later zero id c counts = refl
times_later (suc n) id c counts = times_later n id c (one_more id counts)

-- an entry that grows by so many
set_times : (n id : ℕ) (counts : List ℕ) → id < length counts → slice_set counts id (slice_index_or counts id 0 + n) ≡ more_times n id counts
set_times n id [] h = absurd (omega (arith, h))
set_times n zero (c ∷ counts) h = sym (times_first n c counts)
set_times n (suc id) (c ∷ counts) h = ap (λ l. c ∷ l) (set_times n id counts (omega (arith, h))) ∙ sym (times_later n id c counts)

-- and in a list that got the entry: one more makes the same of both
pub added : (n id : ℕ) (counts grown : List ℕ) → 0 < n → id < length grown → one_more id grown ≡ one_more id counts
    → slice_set grown id (slice_index_or grown id 0 + n) ≡ more_times n id counts
added zero id counts grown some h e = absurd (omega (arith, some))
added (suc n) id counts grown some h e = set_times (suc n) id grown h ∙ ap (more_times n id) e
