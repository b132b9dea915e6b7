-- Runs of sources, by examples.
use Rattle.std.specs.Prelude.{◌≡◌, refl, pos, negsuc, true, [], ◌∷◌, map, codes}
use Rattle.oc_tree.specs.Tree.{truth, if_else, consistent, number, emit, no_else, stmt, block, no_stmts, more}
use Rattle.oc_tree.specs.declared.said.Said.TheVariants.{Sensed, Showed, Entered, Committed, Ended}
use Rattle.oc_tree.specs.declared.said.Shown.TheVariants.{Emitted, Used, Finished, Tagged}
use Rattle.oc_tree.specs.declared.said.Ending.TheVariants.{Halted}
use Rattle.oc_tree.specs.Worked.{fresh_input, fresh_writes, set_of_two, fresh_region}
use Rattle.oc_meaning.specs.Blocks.{set_home}
use Rattle.oc_meaning.specs.Store.{happened}
use Rattle.oc_meaning.specs.Exec.{Went, kind_run}
use Rattle.oc_meaning.specs.Run.{AtShort, first_store, source_run, marked_run, said_in}

pub source_run_example :
    said_in (source_run fresh_input (pos 21 ∷ []))
    ≡ Sensed 0 (pos 21) ∷ Showed (Used 3) ∷ Showed (Emitted 0 (pos 21)) ∷ Showed (Finished 3)
    ∷ Ended Halted ∷ []
source_run_example = refl

-- the second sensor isn't read where the first one shows no more than 0
pub source_run_example_branch :
    said_in (source_run set_of_two (negsuc 0 ∷ []))
    ≡ Sensed 0 (negsuc 0) ∷ Showed (Tagged 5) ∷ Showed (Tagged 6) ∷ Showed (Emitted 0 (negsuc 0))
    ∷ Ended Halted ∷ []
source_run_example_branch = refl

-- the samples on which each event depends: the inputs, the two tags, the sum, and the end
pub source_run_example_samples :
    map (λ e. e.samples) (source_run set_of_two (pos 5 ∷ pos 8 ∷ [])).events
    ≡ (0 ∷ []) ∷ (1 ∷ []) ∷ (0 ∷ []) ∷ (1 ∷ []) ∷ (0 ∷ 1 ∷ []) ∷ [] ∷ []
source_run_example_samples = refl

-- n holds the sample, and m one more
pub source_run_example_words :
    (source_run fresh_writes (pos 4 ∷ [])).nv ≡ pos 4 ∷ pos 5 ∷ []
source_run_example_words = refl

pub marked_run_example :
    said_in (marked_run fresh_input (fresh_region ∷ []) (pos 21 ∷ []))
    ≡ Entered 1 ∷ Sensed 0 (pos 21) ∷ Showed (Used 3) ∷ Showed (Emitted 0 (pos 21))
    ∷ Showed (Finished 3) ∷ Committed 1 ∷ Ended Halted ∷ []
marked_run_example = refl

-- no sample is left
pub marked_run_example_short :
    (marked_run fresh_input (fresh_region ∷ []) []).ending ≡ AtShort
marked_run_example_short = refl

-- `emit(r, 7);`, whatever calls and sets are
pub kind_run_example :
    kind_run fresh_input.names [] (λ f ps σ. Went σ) (λ k. 0) [] 1
    (emit (codes "r") (number (pos 7)))
    (first_store fresh_input [])
    ≡ Went (happened (record { said = Showed (Emitted 0 (pos 7)); samples = []; instance = 0 })
    (first_store fresh_input []))
kind_run_example = refl

-- `if true { Consistent(x, 1); }`, as block 2 in block 1
pub set_home_example :
    set_home (block 1 (more (stmt 1 1 (if_else (truth true)
    (block 2 (more (stmt 2 1 (consistent (codes "x") (pos 1))) no_stmts)) no_else)) no_stmts))
    (pos 1)
    ≡ 2
set_home_example = refl

-- both annotations of the set of `set_of_two` stand in block 1
pub set_home_example_two :
    map (λ f. set_home f.body (pos 1)) set_of_two.functions ≡ 1 ∷ []
set_home_example_two = refl
