-- A drill that a line of words asks for has few turns.
use Rattle.std.proofs.Common.{ℕ, ◌<◌, ◌≤◌, ◌≡◌, sym, List, [], ◌∷◌, length, arith, subst, refl, Bool, true, false, cond, map, Option, Some, None}
use Rattle.std.specs.Prelude.{nat_le, ◌&&◌, codes, option_and_then, option_map, IfSome}
use Rattle.std.specs.Str.{bytes_eq}
use Rattle.std.proofs.lemmas.Bool.{leb-true, and_parts}
use Rattle.oc_drill.specs.Drill.{turn_limit}
use Rattle.oc_rows.specs.Numbers.{number_of}
use Rattle.oc_command.specs.Commands.{Audit, Command, Drill, Exec, HasFewTurns, Run, Source, command_of, command_view, with_both, with_meters, with_supply, with_three}
use Rattle.oc_command.specs.Commands.{drill_with, files_with, is_file, run_with, source_task_of, supply_of, turns_named, turns_of}
use Rattle.oc_command.specs.declared.command.Command.{Command as Written}
use Rattle.oc_command.specs.declared.command.SourceTask.{SourceTask}
use Rattle.oc_command.specs.declared.command.SourceTask.TheVariants as tasks

-- ---- one command

abbrev pub Fits : Option Command → Type 0
Fits o = (command : Command) → o ≡ Some command → HasFewTurns command

this_one : (command : Command) → HasFewTurns command → Fits (Some command)
this_one command h other e = let i : command ≡ other = cc in subst HasFewTurns i h

not_none : Fits None
not_none command e = cc e

either : (b : Bool) (x y : Option Command) → Fits x → Fits y → Fits (cond b x y)
either true x y p q = p
either false x y p q = q

run_in : (o : Option ℕ) (metered : Bool) (files : List (List ℕ)) → Fits (run_with o metered files)
run_in None metered files = not_none
run_in (Some k) metered files = this_one (Run k metered files) tt

-- ---- the turns of a drill

within_by : (b : Bool) (n m : ℕ) → (nat_le 1 n && nat_le n turn_limit) ≡ b → cond b (Some n) None ≡ Some m → m ≤ turn_limit
within_by true n m h e =
    let i : n ≡ m = cc in
    let within : nat_le n turn_limit ≡ true = (and_parts (nat_le 1 n) (nat_le n turn_limit) h).1 in
    subst (λ (k : ℕ). k ≤ turn_limit) i (grind (arith, leb-true, within))
within_by false n m h e = cc e

of_number : (o : Option ℕ) (m : ℕ) → option_and_then turns_named o ≡ Some m → m ≤ turn_limit
of_number None m e = cc e
of_number (Some n) m e = within_by (nat_le 1 n && nat_le n turn_limit) n m refl e

turns_by : (b : Bool) (o : Option ℕ) (m : ℕ) → cond b (option_and_then turns_named o) None ≡ Some m → m ≤ turn_limit
turns_by true o m e = of_number o m e
turns_by false o m e = cc e

drill_in : (o : Option ℕ) → ((k : ℕ) → o ≡ Some k → k ≤ turn_limit) → Fits (drill_with o)
drill_in None h = not_none
drill_in (Some turns) h = this_one (Drill turns) (h turns refl)

-- ---- all of them

with_source : (o : Option SourceTask) (source : List ℕ) → Fits (option_map (λ task. Source task source) o)
with_source None source = not_none
with_source (Some task) source = this_one (Source task source) tt

with_files : (o : Option (List (List ℕ))) (f : List (List ℕ) → Option Command) → ((files : List (List ℕ)) → Fits (f files)) → Fits (option_and_then f o)
with_files None f h = not_none
with_files (Some files) f h = h files

pub commands_fit : (words : List (List ℕ)) → Fits (command_of words)
commands_fit (word ∷ other ∷ []) command e =
    either (bytes_eq word (codes "drill")) (drill_with (turns_of other)) (cond (is_file other) (option_map (λ task. Source task other) (source_task_of word)) None)
    (drill_in (turns_of other) (λ k f. turns_by (nat_le (length other) 4) (number_of other) k f))
    (either (is_file other) (option_map (λ task. Source task other) (source_task_of word)) None (with_source (source_task_of word) other) not_none) command e
commands_fit (word ∷ second ∷ third ∷ []) command e =
    let image = cond (bytes_eq word (codes "build") && bytes_eq second (codes "--image") && is_file third) (Some (Source tasks.Image third)) None in
    either (bytes_eq word (codes "audit") && is_file second && is_file third) (Some (Audit second third)) image (this_one (Audit second third) tt)
    (either (bytes_eq word (codes "build") && bytes_eq second (codes "--image") && is_file third) (Some (Source tasks.Image third)) None (this_one (Source tasks.Image third) tt) not_none) command e
commands_fit (word ∷ source ∷ sensors ∷ power ∷ []) command e =
    with_files (files_with source sensors power) (with_three word)
    (λ files. either (bytes_eq word (codes "run")) (run_with (Some 0) false files) (cond (bytes_eq word (codes "exec")) (Some (Exec files)) None) (run_in (Some 0) false files)
    (either (bytes_eq word (codes "exec")) (Some (Exec files)) None (this_one (Exec files) tt) not_none)) command e
commands_fit (word ∷ option ∷ source ∷ sensors ∷ power ∷ []) command e =
    with_files (files_with source sensors power) (with_meters word option)
    (λ files. either (bytes_eq word (codes "run") && bytes_eq option (codes "--meters")) (run_with (Some 0) true files) None (run_in (Some 0) true files) not_none) command e
commands_fit (word ∷ option ∷ number ∷ source ∷ sensors ∷ power ∷ []) command e =
    with_files (files_with source sensors power) (with_supply word option number)
    (λ files. either (bytes_eq word (codes "run") && bytes_eq option (codes "--supply")) (run_with (supply_of number) false files) None (run_in (supply_of number) false files)
    not_none) command e
commands_fit (word ∷ option ∷ number ∷ meters ∷ source ∷ sensors ∷ power ∷ []) command e =
    with_files (files_with source sensors power) (with_both word option number meters)
    (λ files. either (bytes_eq word (codes "run") && bytes_eq option (codes "--supply") && bytes_eq meters (codes "--meters")) (run_with (supply_of number) true files) None
    (run_in (supply_of number) true files) not_none) command e
commands_fit words command e = cc e

-- what is read of a line of words has few turns
pub few_turns : (o : Option Written) (words : List (List ℕ)) → option_map command_view o ≡ command_of words → IfSome o (λ c. HasFewTurns (command_view c))
few_turns None words e = tt
few_turns (Some c) words e = commands_fit words (command_view c) (sym e)

-- ---- no command

-- fewer words than two, or more than seven, are none
pub none_of_few : {A : Type 0} (f : A → List ℕ) (words : List A) → length words < 2 → None ≡ command_of (map f words)
none_of_few f [] l = refl
none_of_few f (a ∷ []) l = refl
none_of_few f (a ∷ b ∷ words) l = absurd (omega (arith, l))

pub none_of_many : {A : Type 0} (f : A → List ℕ) (words : List A) → 7 < length words → None ≡ command_of (map f words)
none_of_many f (a ∷ b ∷ c ∷ d ∷ e ∷ g ∷ h ∷ i ∷ words) l = refl
none_of_many f words l = absurd (omega (arith, l))
