use Rattle.std.proofs.Common.{rules}
use Rattle.std.specs.String.{string_bytes}
use Rattle.oc_command.proofs.Commanding.{none_of_few, none_of_many}
use Rattle.oc_command.proofs.command.read_command.Goals.{in_default-via-then-words-lt2}
use Rattle.oc_command.proofs.command.read_command.Goals.{in_default-via-else-words-lt2+else-words-lt3+else-words-lt4+else-words-lt5+else-words-lt6+else-words-lt7+else-words-lt8}
use Rattle.oc_command.proofs.command.read_command.Goals as goal

pub returns-in_default : goal.returns-in_default
returns-in_default c =
    elim c.in_default.branch [
      | in_default-via-then-words-lt2 w ↦ none_of_few string_bytes c.args.words.now (search rules)
      | in_default-via-else-words-lt2+else-words-lt3+else-words-lt4+else-words-lt5+else-words-lt6+else-words-lt7+else-words-lt8 w ↦
          none_of_many string_bytes c.args.words.now (search rules)
    ]
