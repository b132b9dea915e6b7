-- How often names stand in lists: not, once, or more than once.
use Rattle.std.specs.Prelude.{ℕ, zero, suc, Bool, true, false, List, [], ◌∷◌, Option, Some, None, cond}
use Rattle.std.specs.Str.{bytes_eq}
use Rattle.oc_tree.specs.Names.{Text}

-- nothing for none, else whether it is one
abbrev pub singly : ℕ → Option Bool
singly zero = None
singly (suc zero) = Some true
singly (suc (suc n)) = Some false

-- one that is the first
abbrev pub is_first : Option Bool → Bool
is_first None = true
is_first (Some single) = false

-- the same with one name more, where that is the one that is counted
abbrev pub once_more : (same : Bool) → Option Bool → Option Bool
once_more same times = cond same (Some (is_first times)) times

-- the same with more names
abbrev pub times_on : Text → Option Bool → List Text → Option Bool
times_on x times [] = times
times_on x times (y ∷ ys) = times_on x (once_more (bytes_eq x y) times) ys
