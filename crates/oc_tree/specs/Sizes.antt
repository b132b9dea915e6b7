-- The sizes that a program may have.
use Rattle.std.specs.Prelude.{ℕ}

-- how many sensors a program may have, how many ports, and how many nonvolatile variables
abbrev pub name_limit : ℕ
name_limit = 64

-- how many functions a program may have
abbrev pub function_limit : ℕ
function_limit = 128

-- how many parameters a function may have
abbrev pub parameter_limit : ℕ
parameter_limit = 8

-- how many variables a function may have
abbrev pub variable_limit : ℕ
variable_limit = 256

-- how many statements a program may have
abbrev pub statement_limit : ℕ
statement_limit = 8192

-- how many calls a program may have
abbrev pub call_limit : ℕ
call_limit = 1024

-- how many policies a program may have
abbrev pub policy_limit : ℕ
policy_limit = 64

-- how many words an array may have, all nonvolatile variables together, and a stack
abbrev pub word_limit : ℕ
word_limit = 65536

-- how great the weight of a function may be
abbrev pub weight_limit : ℕ
weight_limit = 4294967296
