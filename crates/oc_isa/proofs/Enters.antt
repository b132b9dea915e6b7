-- Only the instruction `enter` enters.
use Rattle.std.proofs.Common.{◌≡◌, ℕ, ◌-◌, ℤ, List, ◌∷◌, length, Option, Some, None, refl, Bool, true, false}
use Rattle.std.specs.Prelude.{nat_lt, if◌then◌else◌}
use Rattle.oc_tree.specs.Word.{is_word}
use Rattle.oc_tree.specs.declared.said.Ending.{Ending}
use Rattle.oc_tree.specs.declared.said.Shown.{Shown}
use Rattle.oc_isa.specs.declared.instr.Instr.{Instr}
use Rattle.oc_isa.specs.declared.instr.Instr.TheVariants.{Push, Load, Store, Nload, Nstore, Addr, Naddr, Get, Put, Index, Bin, Un, Jump, Jfalse, Call, Ret, Retv, Drop, Sense, Emit}
use Rattle.oc_isa.specs.declared.instr.Instr.TheVariants.{Probe, Enter, Commit, Halt}
use Rattle.oc_isa.specs.Image.{Parts}
use Rattle.oc_isa.specs.Next.{Regs, Write, Next, Goes, Senses, Enters, Commits, Ends, Stuck}
use Rattle.oc_isa.specs.Power.{State, enter_on, quietly}
use Rattle.oc_isa.specs.Table.{on, check, operand, operands, popped, popped_two, moves, pushes, pushes_number, jumps, writes, puts_at, element, results, calls, returns, act}

-- it is no `enter`
abbrev pub NoEnter : Next → Type 0
NoEnter (Enters r to) = ⊥
NoEnter n = Unit {0}

pub record Passes (n : Next) : Type 0 where
  pub it : NoEnter n

stuck : Passes Stuck
stuck = record { it = tt }

goes : (to : Regs) (w : Option Write) (v : Option Shown) → Passes (Goes to w v)
goes to w v = record { it = tt }

ends : (how : Ending) → Passes (Ends how)
ends how = record { it = tt }

if_passes : (b : Bool) (m n : Next) → Passes m → Passes n → Passes (if b then m else n)
if_passes true m n p q = p
if_passes false m n p q = q

check_passes : (b : Bool) (n : Next) → Passes n → Passes (check b n)
check_passes b n p = if_passes b n Stuck p stuck

on_passes : {A : Type 0} (o : Option A) (go : A → Next) → ((x : A) → Passes (go x)) → Passes (on o go)
on_passes None go p = stuck
on_passes (Some x) go p = p x

popped_passes : (fp : ℕ) (stack : List ℤ) (go : ℤ → List ℤ → Next) → ((x : ℤ) (xs : List ℤ) → Passes (go x xs)) → Passes (popped fp stack go)
popped_passes fp stack go p = on_passes (operand fp stack) _ (λ t. p t.0 t.1)

popped_two_passes : (fp : ℕ) (stack : List ℤ) (go : ℤ → ℤ → List ℤ → Next) → ((y x : ℤ) (xs : List ℤ) → Passes (go y x xs)) → Passes (popped_two fp stack go)
popped_two_passes fp stack go p = on_passes (operands fp stack) _ (λ t. p t.0 t.1 t.2)

moves_passes : (pc fp : ℕ) (stack : List ℤ) → Passes (moves pc fp stack)
moves_passes pc fp stack = record { it = tt }

pushes_passes : (room pc fp : ℕ) (stack : List ℤ) (word : ℤ) → Passes (pushes room pc fp stack word)
pushes_passes room pc fp stack word = check_passes (nat_lt (length stack) room) _ (moves_passes pc fp (word ∷ stack))

pushes_number_passes : (room pc fp : ℕ) (stack : List ℤ) (number : ℤ) → Passes (pushes_number room pc fp stack number)
pushes_number_passes room pc fp stack number = check_passes (is_word number) _ (pushes_passes room pc fp stack number)

jumps_passes : (size t fp : ℕ) (stack : List ℤ) → Passes (jumps size t fp stack)
jumps_passes size t fp stack = check_passes (nat_lt t size) _ (moves_passes t fp stack)

writes_passes : (pc fp : ℕ) (stack nv : List ℤ) (a : ℕ) (word : ℤ) → Passes (writes pc fp stack nv a word)
writes_passes pc fp stack nv a word = check_passes (nat_lt a (length nv)) _ (goes _ _ _)

puts_at_passes : (pc fp : ℕ) (stack rest nv : List ℤ) (a : ℕ) (word : ℤ) → Passes (puts_at pc fp stack rest nv a word)
puts_at_passes pc fp stack rest nv a word =
    if_passes (nat_lt a 65536) _ _ (check_passes (nat_lt a (length stack)) _ (moves_passes pc fp _)) (writes_passes pc fp rest nv (a - 65536) word)

element_passes : (room site n pc fp : ℕ) (rest : List ℤ) (base : ℤ) (o : Option ℕ) → Passes (element room site n pc fp rest base o)
element_passes room site n pc fp rest base None = ends _
element_passes room site n pc fp rest base (Some i) = search (if_passes, pushes_number_passes, ends)

results_passes : (room site pc fp : ℕ) (rest : List ℤ) (o : Option ℤ) → Passes (results room site pc fp rest o)
results_passes room site pc fp rest None = ends _
results_passes room site pc fp rest (Some word) = pushes_passes room pc fp rest word

calls_passes : (size room back fp : ℕ) (stack : List ℤ) (entry params frame : ℕ) → Passes (calls size room back fp stack entry params frame)
calls_passes size room back fp stack entry params frame = search (check_passes, jumps_passes)

returns_passes : (k fp : ℕ) (stack : List ℤ) (go : ℕ → ℕ → List ℤ → Next) → ((pc fp : ℕ) (rest : List ℤ) → Passes (go pc fp rest)) → Passes (returns k fp stack go)
returns_passes k fp stack go p = search (on_passes, p)

ruleset instruction_passes = (
  check_passes,
  on_passes,
  popped_passes,
  popped_two_passes,
  if_passes,
  goes,
  ends,
  moves_passes,
  pushes_passes,
  pushes_number_passes,
  jumps_passes,
  writes_passes,
  puts_at_passes,
  element_passes,
  results_passes,
  calls_passes,
  returns_passes,
)

abbrev pub IsEnter : Instr → Type 0
IsEnter (Enter r) = Unit {0}
IsEnter x = ⊥

module _ (i : Parts) (site : ℕ) (r : Regs) (nv : List ℤ) where
  pub act_passes : (x : Instr) → (IsEnter x → ⊥) → Passes (act i site x r nv)
  act_passes (Push c) n = search instruction_passes
  act_passes (Load s) n = search instruction_passes
  act_passes (Store s) n = search instruction_passes
  act_passes (Nload a) n = search instruction_passes
  act_passes (Nstore a) n = search instruction_passes
  act_passes (Addr s) n = search instruction_passes
  act_passes (Naddr a) n = search instruction_passes
  act_passes Get n = search instruction_passes
  act_passes Put n = search instruction_passes
  act_passes (Index k) n = search instruction_passes
  act_passes (Bin op) n = search instruction_passes
  act_passes (Un op) n = search instruction_passes
  act_passes (Jump t) n = search instruction_passes
  act_passes (Jfalse t) n = search instruction_passes
  act_passes (Call f) n = search instruction_passes
  act_passes (Ret k) n = search instruction_passes
  act_passes (Retv k) n = search instruction_passes
  act_passes Drop n = search instruction_passes
  act_passes (Sense s) n = search instruction_passes
  act_passes (Emit p) n = search instruction_passes
  act_passes (Probe kind k) n = search instruction_passes
  act_passes (Enter q) n = absurd (n tt)
  act_passes (Commit q) n = search instruction_passes
  act_passes Halt n = search instruction_passes

-- an `enter` that is under way stays where it is at any other instruction
pub no_enter_on : (done : ℕ) (n : Next) (s : State) → Passes n → enter_on done n s ≡ quietly s
no_enter_on done (Goes to w shown) s p = refl
no_enter_on done (Senses x to) s p = refl
no_enter_on done (Enters r to) s p = absurd p.it
no_enter_on done (Commits r to) s p = refl
no_enter_on done (Ends how) s p = refl
no_enter_on done Stuck s p = refl
