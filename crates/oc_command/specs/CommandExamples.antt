-- What words ask for, and statuses of answers, by examples.
use Rattle.std.specs.Prelude.{◌≡◌, refl, false, [], ◌∷◌, Some, None, codes}
use Rattle.oc_command.specs.declared.answer.Answer.TheVariants as answer
use Rattle.oc_command.specs.Commands.{Run, command_of}
use Rattle.oc_command.specs.Statuses.{status_of, line_of}

pub command_of_example :
    command_of (codes "run" ∷ codes "a" ∷ codes "b" ∷ codes "c" ∷ [])
    ≡ Some (Run 0 false (codes "a" ∷ codes "b" ∷ codes "c" ∷ []))
command_of_example = refl

pub command_of_example_supply :
    command_of (codes "run" ∷ codes "--supply" ∷ codes "7" ∷ codes "a" ∷ codes "b" ∷ codes "c" ∷ [])
    ≡ Some (Run 7 false (codes "a" ∷ codes "b" ∷ codes "c" ∷ []))
command_of_example_supply = refl

-- a drill has at most 1000 turns
pub command_of_example_drill : command_of (codes "drill" ∷ codes "1001" ∷ []) ≡ None
command_of_example_drill = refl

pub status_of_example : status_of answer.End ≡ 0
status_of_example = refl

pub status_of_example_cut : status_of answer.Cut ≡ 12
status_of_example_cut = refl

pub line_of_example :
    line_of (codes "a" ∷ codes "b" ∷ []) (answer.Unreadable 1) ≡ codes "ocelot: cannot read b\n"
line_of_example = refl
