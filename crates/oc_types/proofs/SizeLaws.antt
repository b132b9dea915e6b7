-- The numbers of the rules on weight and stack, where those of the code stop at a cap.
use Rattle.std.proofs.Common.{◌≡◌, ◌<◌, ◌+◌, ℕ, zero, suc, Bool, List, [], ◌∷◌, Option, Some, None, refl, ap, ◌∙◌, map, length, arith}
use Rattle.std.specs.Prelude.{◌||◌, codes, cond, nat_lt}
use Rattle.std.specs.List.{list_any}
use Rattle.std.proofs.Math.ListN.{get_or}
use Rattle.oc_tree.specs.Names.{Text}
use Rattle.oc_tree.specs.Tree.{TFunction, TProgram}
use Rattle.oc_tree.specs.Pulls.{block_pulls}
use Rattle.oc_tree.specs.Expansion.{block_size, expand_functions, expansion}
use Rattle.oc_tree.specs.Broken.{lowest, size_rules}
use Rattle.oc_tree.specs.Calls.{function_names, function_place, place}
use Rattle.oc_tree.specs.Stack.{stack_words, stacks, stacks_to}
use Rattle.oc_tree.specs.Weight.{known_of, weights, weights_to}
use Rattle.oc_weight.specs.Capped.{capped}

-- an expansion has as many functions
pub as_many : (k i : ℕ) (fs : List TFunction) → length (expand_functions k i fs) ≡ length fs
as_many k i [] = refl
as_many k i (f ∷ fs) = ap (λ (n : ℕ). suc n) (as_many (k + block_pulls f.body) (i + block_size f.body) fs)

-- and of the same names
same_names : (k i : ℕ) (fs : List TFunction) → function_names (expand_functions k i fs) ≡ function_names fs
same_names k i [] = refl
same_names k i (f ∷ fs) = ap (λ (xs : List Text). f.name ∷ xs) (same_names (k + block_pulls f.body) (i + block_size f.body) fs)

-- a limit below the cap is passed by what stops there just as by the number itself
passes_same : (limit n : ℕ) → limit < 4294967297 → nat_lt limit (capped n) ≡ nat_lt limit n
passes_same limit n h = grind arith

pub some_pass : (ws : List ℕ) → list_any (nat_lt 4294967296) (map capped ws) ≡ list_any (nat_lt 4294967296) ws
some_pass [] = refl
some_pass (w ∷ ws) =
    ap (λ (b : Bool). b || list_any (nat_lt 4294967296) (map capped ws)) (passes_same 4294967296 w (omega arith))
    ∙ ap (λ (b : Bool). nat_lt 4294967296 w || b) (some_pass ws)

capped_at : (ws : List ℕ) (v : ℕ) → get_or (map capped ws) v 0 ≡ capped (get_or ws v 0)
capped_at [] v = refl
capped_at (w ∷ ws) zero = refl
capped_at (w ∷ ws) (suc v) = capped_at ws v

capped_known : (ws : List ℕ) (place : Option ℕ) → known_of (map capped ws) place ≡ capped (known_of ws place)
capped_known ws None = refl
capped_known ws (Some v) = capped_at ws v

pub known_passes : (ws : List ℕ) (place : Option ℕ) → nat_lt 65536 (known_of (map capped ws) place) ≡ nat_lt 65536 (known_of ws place)
known_passes ws place = ap (nat_lt 65536) (capped_known ws place) ∙ passes_same 65536 (known_of ws place) (omega arith)

-- ---- the rules, from the functions of the expansion

module _ (p : TProgram) (fs : List TFunction) (n : ℕ) where
  many : fs ≡ (expansion p).functions → n ≡ length fs → n ≡ length p.functions
  many h l = l ∙ ap (λ (gs : List TFunction). length gs) h ∙ as_many 1 1 p.functions

  is_heavy : fs ≡ (expansion p).functions → n ≡ length fs → list_any (nat_lt 4294967296) (weights_to fs n) ≡ list_any (nat_lt 4294967296) (weights p)
  is_heavy h l =
      ap (λ (gs : List TFunction). list_any (nat_lt 4294967296) (weights_to gs n)) h
      ∙ ap (λ (m : ℕ). list_any (nat_lt 4294967296) (weights_to (expansion p).functions m)) (many h l)

  is_deep : fs ≡ (expansion p).functions → n ≡ length fs → nat_lt 65536 (known_of (stacks_to fs n) (function_place fs (codes "main"))) ≡ nat_lt 65536 (stack_words p)
  is_deep h l =
      ap (λ (gs : List TFunction). nat_lt 65536 (known_of (stacks_to gs n) (function_place gs (codes "main")))) h
      ∙ ap (λ (m : ℕ). nat_lt 65536 (known_of (stacks_to (expansion p).functions m) (function_place (expansion p).functions (codes "main")))) (many h l)
      ∙ ap (λ (names : List Text). nat_lt 65536 (known_of (stacks p) (place names (codes "main")))) (same_names 1 1 p.functions)

  -- the lowest rule that the functions of the expansion break is that of the program
  pub lowest_size : fs ≡ (expansion p).functions → n ≡ length fs
      → lowest ((23, list_any (nat_lt 4294967296) (weights_to fs n)) ∷ (24, nat_lt 65536 (known_of (stacks_to fs n) (function_place fs (codes "main")))) ∷ []) ≡ lowest (size_rules p)
  lowest_size h l =
      ap (λ (b : Bool). cond b (Some 23) (cond (nat_lt 65536 (known_of (stacks_to fs n) (function_place fs (codes "main")))) (Some 24) None)) (is_heavy h l)
      ∙ ap (λ (b : Bool). cond (list_any (nat_lt 4294967296) (weights p)) (Some 23) (cond b (Some 24) None)) (is_deep h l)
