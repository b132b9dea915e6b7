-- The outermost blocks as regions.
use Rattle.std.specs.Prelude.{ℕ, ◌+◌, not, List, [], ◌∷◌, filter}
use Rattle.std.specs.Option.{unwrap_or}
use Rattle.oc_tree.specs.Tree.{TProgram}
use Rattle.oc_tree.specs.Places.{block_of}
use Rattle.oc_tree.specs.Checked.{TChecked}
use Rattle.oc_tree.specs.Marked.{TRegion, TMarked, function_of}
use Rattle.oc_needs.specs.Policies.{policies}
use Rattle.oc_needs.specs.Requirements.{rising}
use Rattle.oc_regcheck.specs.Enough.{is_inside}

-- the blocks that are inside no other, in order
abbrev pub outermost : TProgram → List ℕ → List ℕ
outermost p blocks = filter (λ b. not (is_inside p blocks b)) (rising blocks)

-- a block is the region from its statement to itself
abbrev pub block_region : TProgram → (id : ℕ) → ℕ → TRegion
block_region p i b =
    record {
      id = i;
      function = unwrap_or (function_of p b) 0;
      block = unwrap_or (block_of p b) 0;
      first = b;
      last = b;
      reasons = [];
    }

-- blocks as regions, the first of which has the number `i`
abbrev pub block_regions : TProgram → (i : ℕ) → List ℕ → List TRegion
block_regions p i [] = []
block_regions p i (b ∷ bs) = block_region p i b ∷ block_regions p (i + 1) bs

-- a program whose regions are its outermost blocks: an outage
-- outside of them is one outside of every execution of a block
abbrev pub blocks_marked : TChecked → List ℕ → TMarked
blocks_marked c blocks =
    record {
      program = c.program;
      groups = c.groups;
      policies = policies c.program;
      regions = block_regions c.program 1 (outermost c.program blocks);
    }
