-- Instances of consistent sets are counted: each execution of a set's block is the next one, so none falls along a run.
use Rattle.std.specs.Prelude.{◌≡◌, ◌≤◌, ℕ, ℤ, List, [], ◌∷◌, Option, Some, None, find, slice_get, slice_index_or}
use Rattle.oc_tree.specs.Tree.{TKind, if_else, for_in, while_do, consistent, TElse, no_else, else_do, stmt, TBlock, block, TStmts, no_stmts, more, TFunction, TProgram}
use Rattle.oc_meaning.specs.Blocks.{set_home}
use Rattle.oc_steps.specs.Steps.{Frame, Rest, Use, Work, Done, Close, Take, Leave, Turns, Loop, Test, Back}
use Rattle.oc_honest.specs.Timely.{set_of}
use Rattle.oc_steps.specs.Fold.{Instance, is_set}

-- the block of a set, by its function and its number
abbrev pub home_in : Option TFunction → ℤ → ℕ
home_in None k = 0
home_in (Some f) k = set_home f.body k

abbrev pub home_of : TProgram → ℕ × ℤ → ℕ
home_of p s = home_in (slice_get p.functions s.0) s.1

-- in how many executions of its block a set was, where each block was executed so often
abbrev pub times : TProgram → ℕ × ℤ → List ℕ → ℕ
times p s counts = slice_index_or counts (home_of p s) 0

-- each annotation in a tree is of a set whose block is that of a function with this body
module _ (p : TProgram) (body : TBlock) where
  abbrev pub IsNoted : ℕ → ℤ → Type 0
  IsNoted n k = (s : ℕ × ℤ) → set_of p n ≡ Some s → home_of p s ≡ set_home body k

  abbrev mutual
    pub KindNoted : ℕ → TKind → Type 0
    KindNoted n (consistent x k) = IsNoted n k
    KindNoted n (if_else c a b) = BlockNoted a × ElseNoted b
    KindNoted n (for_in x c d b) = BlockNoted b
    KindNoted n (while_do c t b) = BlockNoted b
    KindNoted n k = Unit {0}

    pub ElseNoted : TElse → Type 0
    ElseNoted no_else = Unit {0}
    ElseNoted (else_do b) = BlockNoted b

    pub BlockNoted : TBlock → Type 0
    BlockNoted (block id ss) = StmtsNoted ss

    pub StmtsNoted : TStmts → Type 0
    StmtsNoted no_stmts = Unit {0}
    StmtsNoted (more (stmt n line k) ss) = KindNoted n k × StmtsNoted ss

-- so are those in what is left to do
abbrev pub FrameNoted : TProgram → Frame → Type 0
FrameNoted p (Rest f env ss) = StmtsNoted p f.body ss
FrameNoted p (Use f env n u k) = KindNoted p f.body n k
FrameNoted p (Work f env n k) = KindNoted p f.body n k
FrameNoted p (Done is n u) = Unit {0}
FrameNoted p (Close r) = Unit {0}
FrameNoted p (Take env n k) = Unit {0}
FrameNoted p (Leave n) = Unit {0}
FrameNoted p (Turns f x t i b env) = BlockNoted p f.body b
FrameNoted p (Loop f env n c t b u) = BlockNoted p f.body b
FrameNoted p (Test f env n c t b u) = BlockNoted p f.body b
FrameNoted p (Back v r) = Unit {0}

abbrev pub FramesNoted : TProgram → List Frame → Type 0
FramesNoted p [] = Unit {0}
FramesNoted p (f ∷ fs) = FrameNoted p f × FramesNoted p fs

-- a run that is to do this, where each block was executed so often: the last instance of each set is at most that which a tag would have now
pub record AreCounted
    (p : TProgram) (sets : List Instance) (fs : List Frame) (blocks : List ℕ) : Type 0 where
  pub noted : FramesNoted p fs
  pub last : (s : ℕ × ℤ) (i : Instance)
      → find (is_set s) sets ≡ Some i → i.number ≤ times p s blocks
