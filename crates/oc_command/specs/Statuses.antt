-- The status of each answer, and its line.
use Rattle.std.specs.Prelude.{ℕ, ◌==◌, ◌||◌, ◌++◌, Bool, List, [], codes, decimal}
use Rattle.oc_command.specs.Commands.{word_at}
use Rattle.oc_command.specs.Gaps.{gap_line}
use Rattle.oc_command.specs.declared.answer.Answer.{Answer}
use Rattle.oc_command.specs.declared.answer.Answer.TheVariants as answer

-- the status of an answer
abbrev pub status_of : Answer → ℕ
status_of answer.Usage = 1
status_of (answer.Unreadable file) = 2
status_of (answer.TooLong file) = 3
status_of (answer.Syntax line) = 4
status_of (answer.Rule line rule) = 5
status_of (answer.BadSensors row) = 6
status_of (answer.BadPower row) = 7
status_of answer.WriteFault = 10
status_of answer.End = 0
status_of answer.Trapped = 8
status_of answer.Dark = 9
status_of answer.Memory = 11
status_of answer.Cut = 12
status_of (answer.Dishonest item) = 14
status_of (answer.BadReport line) = 15
status_of (answer.BadImage at) = 16
status_of answer.Refused = 17
status_of (answer.Uncovered gap) = 18

-- with these statuses a text was written, or a part of it
abbrev pub is_written : ℕ → Bool
is_written status =
    (status == 0) || (status == 8) || (status == 9) || (status == 10) || (status == 12)

-- the line of an answer on the standard error, or none, where these are the words of the command's files
abbrev pub line_of : List (List ℕ) → Answer → List ℕ
line_of words answer.Usage = codes "ocelot: not a command\n"
line_of words (answer.Unreadable file) =
    codes "ocelot: cannot read " ++ (word_at words file ++ codes "\n")
line_of words (answer.TooLong file) =
    codes "ocelot: too long " ++ (word_at words file ++ codes "\n")
line_of words (answer.Syntax line) =
    codes "ocelot: syntax error in line " ++ (decimal line ++ codes "\n")
line_of words (answer.Rule line rule) =
    codes "ocelot: rule "
    ++ (decimal rule ++ (codes " broken in line " ++ (decimal line ++ codes "\n")))
line_of words (answer.BadSensors row) =
    codes "ocelot: bad row " ++ (decimal row ++ codes " in sensors\n")
line_of words (answer.BadPower row) =
    codes "ocelot: bad row " ++ (decimal row ++ codes " in power\n")
line_of words answer.WriteFault = codes "ocelot: cannot write\n"
line_of words answer.End = []
line_of words answer.Trapped = []
line_of words answer.Dark = []
line_of words answer.Memory = codes "ocelot: out of memory\n"
line_of words answer.Cut = codes "ocelot: checkpoint lost\n"
line_of words (answer.Dishonest item) =
    codes "ocelot: report breaks at item " ++ (decimal item ++ codes "\n")
line_of words (answer.BadReport line) =
    codes "ocelot: bad report line " ++ (decimal line ++ codes "\n")
line_of words (answer.BadImage at) =
    codes "ocelot: bad image at byte " ++ (decimal at ++ codes "\n")
line_of words answer.Refused = codes "ocelot: image refused\n"
line_of words (answer.Uncovered gap) = gap_line gap
