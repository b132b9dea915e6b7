-- The top level of an expansion, and what its calls reach, are those of the program.
use Rattle.std.proofs.Common.{◌≡◌, ℕ, suc, ◌+◌, Bool, false, List, [], ◌∷◌, map, length, get_or, refl, ap, ◌∙◌}
use Rattle.std.specs.Prelude.{◌&&◌}
use Rattle.oc_tree.specs.Tree.{TFunction, TProgram}
use Rattle.oc_tree.specs.Pulls.{block_pulls}
use Rattle.oc_tree.specs.Reach.{Links, reaches, some_below}
use Rattle.oc_tree.specs.Calls.{call_links, function_mentions}
use Rattle.oc_tree.specs.Expansion.{expand_functions, expansion, block_size}
use Rattle.oc_desugar.proofs.Seen.{head_of, SameTop, SameReach}
use Rattle.oc_desugar.proofs.KeptCallees.{same_links}
use Rattle.oc_desugar.proofs.KeptNames.{same_mentions}

-- the heads of functions stay
same_heads : (k i : ℕ) (fs : List TFunction) → map head_of (expand_functions k i fs) ≡ map head_of fs
same_heads k i [] = refl
same_heads k i (f ∷ fs) = ap (λ l. head_of f ∷ l) (same_heads (k + block_pulls f.body) (i + block_size f.body) fs)

-- so does all that is looked up at the top level
pub same_top : (p : TProgram) → SameTop p (expansion p)
same_top p = record { names = refl; nv = refl; heads = same_heads 1 1 p.functions }

-- there are as many functions
same_length : (k i : ℕ) (fs : List TFunction) → length (expand_functions k i fs) ≡ length fs
same_length k i [] = refl
same_length k i (f ∷ fs) = ap suc (same_length (k + block_pulls f.body) (i + block_size f.body) fs)

-- whether a function that is reached passes its test
abbrev mentioned : List Bool → Links → ℕ → ℕ → Bool
mentioned tests links n u = some_below n (λ v. get_or tests v false && reaches links n u v)

-- and calls reach the same
pub same_reach : (p : TProgram) → SameReach p (expansion p)
same_reach p =
    let fs = p.functions in
    let gs = expand_functions 1 1 fs in
    let links = same_links 1 1 fs in
    let long = same_length 1 1 fs in
    record {
      back = λ n u. ap (λ l. reaches l (length gs) u n) links ∙ ap (λ m. reaches (call_links fs) m u n) long;
      mention = λ x h u.
          ap (λ t. mentioned t (call_links gs) (length gs) u) (same_mentions x h 1 1 fs)
          ∙ ap (λ l. mentioned (map (function_mentions x) fs) l (length gs) u) links
          ∙ ap (λ m. mentioned (map (function_mentions x) fs) (call_links fs) m u) long;
    }
