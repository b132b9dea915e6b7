-- Measures of functions that are told by those of the functions that they call.
use Rattle.std.specs.Prelude.{◌≡◌, ℕ, suc, ◌+◌, max, List, [], None, map}
use Rattle.oc_tree.specs.Tree.{TCall, TKind, TFunction}
use Rattle.oc_tree.specs.Calls.{callee, function_place, own_calls, block_kinds}
use Rattle.oc_tree.specs.Members.{IsOf}
use Rattle.oc_tree.specs.Weight.{known_of}

-- a cap that sums and the greater of two numbers go by; so is none
pub record IsCap (cap : ℕ → ℕ) : Type 0 where
  pub sums : (a b c d : ℕ) → cap a ≡ cap c → cap b ≡ cap d → cap (a + b) ≡ cap (c + d)
  pub maxima : (a b c d : ℕ) → cap a ≡ cap c → cap b ≡ cap d → cap (max a b) ≡ cap (max c d)

-- two tables know the same of what a call names, up to a cap
abbrev pub KnownAlike : (ℕ → ℕ) → List TFunction → (ws vs : List ℕ) → TCall → Type 0
KnownAlike cap fs ws vs c =
    cap (known_of ws (function_place fs (callee c)))
    ≡ cap (known_of vs (function_place fs (callee c)))

-- and of each call in these statements
abbrev pub KindsAlike : (ℕ → ℕ) → List TFunction → (ws vs : List ℕ) → List TKind → Type 0
KindsAlike cap fs ws vs ks =
    (k : TKind) → IsOf k ks → (c : TCall) → IsOf c (own_calls k) → KnownAlike cap fs ws vs c

-- How much a function takes by what is known of others, and the tables of how much each takes where
-- calls go at most so deep. Of what is known, only that of the functions that it calls counts.
pub record IsMeasure
    (measure : List TFunction → List ℕ → TFunction → ℕ)
    (levels : List TFunction → ℕ → List ℕ) : Type 0 where
  pub no_level : (fs : List TFunction) → levels fs 0 ≡ []
  pub one_level : (fs : List TFunction) (depth : ℕ)
      → levels fs (suc depth) ≡ map (measure fs (levels fs depth)) fs
  pub by_callees : (cap : ℕ → ℕ) → IsCap cap
      → (fs : List TFunction) (ws vs : List ℕ) (f : TFunction)
      → KindsAlike cap fs ws vs (block_kinds None f.body)
      → cap (measure fs ws f) ≡ cap (measure fs vs f)
