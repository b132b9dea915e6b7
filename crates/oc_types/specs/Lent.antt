-- A name that may be lent.
use Rattle.std.specs.Prelude.{Bool, true, Option, Some, None}
use Rattle.std.specs.Borrow.{Bor}
use Rattle.oc_tree.specs.Names.{Text}

-- the name, if any, passes the test
abbrev pub passes : (Text → Bool) → Option (Bor Text) → Bool
passes test None = true
passes test (Some x) = test x.now
