-- What is known of the program that a source spells.
use Rattle.std.proofs.Common.{ℕ, ◌≤◌, ◌≡◌, sym, subst, refl, arith, List, length, false}
use Rattle.std.proofs.lemmas.List.{length-map}
use Rattle.oc_tree.specs.Tree.{TProgram}
use Rattle.oc_tree.specs.Checked.{IsWritten}
use Rattle.oc_tree.specs.Marked.{IsMarked}
use Rattle.oc_tree.specs.Expansion.{expansion, program_groups}
use Rattle.oc_lex.proofs.StandsLaws.{tokens_count}
use Rattle.oc_grammar.specs.Limits.{the_depths}
use Rattle.oc_grammar.specs.Lexemes.{lexemes_in}
use Rattle.oc_grammar.proofs.LexemeLaws.{lexemes_in_form}
use Rattle.oc_grammar.proofs.NodeLaws.{nodes_within}
use Rattle.oc_grammar.proofs.NumberLaws.{in_form}
use Rattle.oc_desugar.proofs.CheckedLaws.{is_checked}
use Rattle.oc_region.proofs.Regions.{is_marked}
use Rattle.oc_audit.specs.Apart.{HasNamesApart, NamesAreApart}
use Rattle.oc_isa.specs.Image.{Parts}
use Rattle.oc_top.specs.Meant.{program_marked}
use Rattle.oc_top.specs.Sources.{ReadsAs, program}
use Rattle.oc_top.specs.Steps.{IsBuilt}

module _ (source : List ℕ) (small : length source ≤ 1048576) where
  module _ (p : TProgram) (reads : ReadsAs source (program p)) where
    pub is_written : IsWritten p
    is_written =
        let s = reads.0 in
        let ts = lexemes_in false source s.tokens in
        let count : length ts ≡ length s.tokens = length-map s.tokens _ in
        let few = tokens_count source s.tokens s.are_tokens in
        let nodes = nodes_within the_depths ts p s.spelled in
        record {
          form = in_form the_depths ts p s.spelled (lexemes_in_form false source s.tokens s.are_tokens) (omega (arith, count, few, small));
          few_nodes = omega (arith, nodes, count, few, small);
          unbroken = reads.1;
        }

    pub marked_there : IsMarked (program_marked p)
    marked_there = is_marked (expansion p) (program_groups p) (is_checked p is_written (expansion p) (program_groups p) refl refl)

  -- no two sensors of its image have one name, and no two ports
  pub built_apart : NamesAreApart → (parts : Parts) → IsBuilt source parts → HasNamesApart parts.names
  built_apart law parts b = subst (λ (i : Parts). HasNamesApart i.names) (sym b.is_code) (law b.written (is_written b.written b.reads))
