-- One more turn of a loop.
use Rattle.std.proofs.Common.{◌≡◌, refl, ap, ◌∙◌, ℕ, suc, ◌+◌, ◌-◌, ◌<◌, Bool, true, false, List, arith}
use Rattle.std.specs.Prelude.{ℤ, pos, negsuc, ◌+ℤ◌, ◌-ℤ◌, ◌≤ℤ◌, int_lt, if◌then◌else◌}
use Rattle.std.proofs.lemmas.Int.{ints}
use Rattle.oc_tree.specs.Samples.{union}
use Rattle.oc_meaning.specs.Store.{Value, Store}
use Rattle.oc_tree.specs.declared.said.TrapKind.{TrapKind}
use Rattle.oc_tree.specs.Weight.{count_of}
use Rattle.oc_meaning.specs.Eval.{Got, Val, Traps, is_zero}
use Rattle.oc_meaning.specs.Exec.{Outcome, Went, done, for_turns, then_do, trapped, used, while_turns, with_value}

count_up : (d e : ℤ) → pos 0 ≤ℤ e → d ≡ e +ℤ pos 1 → count_of d ≡ suc (count_of e)
count_up d (pos n) h e =
    let u : pos n +ℤ pos 1 ≡ pos (suc n) = omega (arith, ints) in
    ap count_of (e ∙ u)
count_up d (negsuc n) h e = absurd (omega (arith, ints))

count_none : (d : ℤ) → d ≤ℤ pos 0 → count_of d ≡ 0
count_none (pos n) h = omega (arith, ints)
count_none (negsuc n) h = refl

pub count_more : (a b : ℤ) → int_lt a b ≡ true → count_of (b -ℤ a) ≡ suc (count_of (b -ℤ (a +ℤ pos 1)))
count_more a b h = count_up (b -ℤ a) (b -ℤ (a +ℤ pos 1)) (omega (arith, ints)) (omega (arith, ints))

pub for_more : (a b : ℤ) (f : ℤ → Store → Outcome) (σ : Store) → int_lt a b ≡ true → for_turns (count_of (b -ℤ a)) a f σ ≡ then_do (f a σ) (for_turns (count_of (b -ℤ (a +ℤ pos 1))) (a +ℤ pos 1) f)
for_more a b f σ h = ap (λ n. for_turns n a f σ) (count_more a b h)

pub for_over : (a b : ℤ) (f : ℤ → Store → Outcome) (σ : Store) → int_lt a b ≡ false → for_turns (count_of (b -ℤ a)) a f σ ≡ Went σ
for_over a b f σ h = ap (λ n. for_turns n a f σ) (count_none (b -ℤ a) (omega (arith, ints)))

pub one_left : (bound turn : ℕ) → turn < bound → bound - turn ≡ suc (bound - (turn + 1))
one_left bound turn h = omega arith

module _ (n : ℕ) (is : Bool) (taken : Store → List ℕ) (test : Store → Got) (body : Store → Outcome) where
  go_on : ℕ → List ℕ → Store → Value → Outcome
  go_on t before σ v =
      if is_zero v.num
      then Went (done is n (union before (taken σ)) (used is n (taken σ) σ))
      else then_do (body (used is n (taken σ) σ)) (while_turns t n is taken test body (union before (taken σ)))

  tested : (bound turn : ℕ) (before : List ℕ) (σ : Store) (v : Value) → turn < bound → test (used is n (taken σ) σ) ≡ Val v
      → while_turns (bound - turn) n is taken test body before σ ≡ go_on (bound - (turn + 1)) before σ v
  unfolding go_on
  tested bound turn before σ v h e =
      ap (λ t. while_turns t n is taken test body before σ) (one_left bound turn h)
      ∙ ap (λ g. with_value g n (used is n (taken σ) σ) (go_on (bound - (turn + 1)) before σ)) e

  pub while_ends : (bound turn : ℕ) (before : List ℕ) (σ : Store) (v : Value) → turn < bound → test (used is n (taken σ) σ) ≡ Val v → is_zero v.num ≡ true
      → while_turns (bound - turn) n is taken test body before σ ≡ Went (done is n (union before (taken σ)) (used is n (taken σ) σ))
  unfolding go_on
  while_ends bound turn before σ v h e z =
      tested bound turn before σ v h e
      ∙ ap (λ (b : Bool). (if b
      then Went (done is n (union before (taken σ)) (used is n (taken σ) σ))
      else then_do (body (used is n (taken σ) σ)) (while_turns (bound - (turn + 1)) n is taken test body (union before (taken σ))))) z

  pub while_more : (bound turn : ℕ) (before : List ℕ) (σ : Store) (v : Value) → turn < bound → test (used is n (taken σ) σ) ≡ Val v → is_zero v.num ≡ false
      → while_turns (bound - turn) n is taken test body before σ ≡ then_do (body (used is n (taken σ) σ)) (while_turns (bound - (turn + 1)) n is taken test body (union before (taken σ)))
  unfolding go_on
  while_more bound turn before σ v h e z =
      tested bound turn before σ v h e
      ∙ ap (λ (b : Bool). (if b
      then Went (done is n (union before (taken σ)) (used is n (taken σ) σ))
      else then_do (body (used is n (taken σ) σ)) (while_turns (bound - (turn + 1)) n is taken test body (union before (taken σ))))) z

  pub while_traps : (bound turn : ℕ) (before : List ℕ) (σ : Store) (k : TrapKind) → turn < bound → test (used is n (taken σ) σ) ≡ Traps k
      → while_turns (bound - turn) n is taken test body before σ ≡ trapped k n (used is n (taken σ) σ)
  unfolding go_on
  while_traps bound turn before σ k h e =
      ap (λ t. while_turns t n is taken test body before σ) (one_left bound turn h)
      ∙ ap (λ g. with_value g n (used is n (taken σ) σ) (go_on (bound - (turn + 1)) before σ)) e
