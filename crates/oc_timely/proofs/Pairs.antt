-- Regions begin and end in one list of statements.
use Rattle.std.proofs.Common.{◌≡◌, inl, inr, ℕ, suc, ◌<◌, ◌≤◌, Bool, List, [], ◌∷◌, Option, Some, None, refl, sym, ap, ◌∙◌, subst, arith}
use Rattle.std.specs.Prelude.{option_map}
use Rattle.oc_tree.specs.Tree.{TKind, if_else, for_in, while_do, TElse, no_else, else_do, stmt, TBlock, block, TStmts, no_stmts, more, TProgram}
use Rattle.oc_tree.specs.declared.tree.VarId.TheVariants as variables
use Rattle.oc_tree.specs.Places.{Place as Spot, Placed, block_of, behind, in_branch, in_loop, kind_placed, else_placed, block_placed, stmts_placed}
use Rattle.oc_tree.specs.Marked.{TRegion, TMarked}
use Rattle.oc_meaning.specs.Exec.{begun_by, ended_by}
use Rattle.oc_tree.specs.Members.{IsOf}
use Rattle.oc_timely.specs.Enough.{next_mode}
use Rattle.oc_timely.specs.Modes.{IsStep, IsShutMode, PairedKind, PairedElse, PairedBlock, PairedStmts}
use Rattle.oc_timely.specs.Laid.{LaidKind, LaidElse, LaidBlock, LaidStmts, Static}
use Rattle.oc_laws.proofs.Members.{of_left, of_right}
use Rattle.oc_timely.proofs.Directly.{begun_none, begun_some, Clear, OpenAt, AtStatement, at_statement}
use Rattle.oc_timely.proofs.Lies.{up_kind, up_block, up_stmts}

module _ (m : TMarked) (guarded : ℕ → Bool) (f : ℕ) (body : List Placed) (facts : Static m guarded f body) where
  abbrev p : TProgram
  p = m.program

  abbrev State : (inside : Option ℕ) → ℕ → (b : ℕ) → Type 0
  State None n b = Clear m n b
  State (Some q) n b = (r : TRegion) × OpenAt m r n b

  paired_by : (b id mid : ℕ) → AtStatement m b id mid → (inside o e : Option ℕ) → begun_by m.regions id ≡ o → ended_by m.regions id ≡ e → State inside id b →
      IsStep inside o e × State (next_mode inside o e) mid b
  paired_by b id mid here None None None n z s = (tt, here.clear_on s (λ r i a l. begun_none m.regions id r n i a))
  paired_by b id mid here None None (Some y) n z s = absurd (here.none_ends s n y z)
  paired_by b id mid here None (Some q) None n z s = let r = begun_some m.regions id q n in (tt, (r.0, here.starts r.0 r.1 r.2 z))
  paired_by b id mid here None (Some q) (Some y) n z s = (tt, here.clear_on s (λ r i e h. let l = here.short y z r i e in let u = here.up in omega (arith, l, h, u)))
  paired_by b id mid here (Some q) (Some y) e n z s = absurd (here.no_other s.0 s.1 y n)
  paired_by b id mid here (Some q) None None n z s = (tt, (s.0, here.goes_on s.0 s.1 z))
  paired_by b id mid here (Some q) None (Some y) n z s = (tt, here.clear_behind s.0 s.1 y z)

  ends_shut : (inside : Option ℕ) (k b : ℕ) → ((t : ℕ) → block_of p t ≡ Some b → t < k) → State inside k b → IsShutMode inside
  ends_shut None k b last s = tt
  ends_shut (Some q) k b last s = let a = last s.0.last ((facts.region s.0 s.1.one).2 ∙ ap Some s.1.block) in let h = s.1.behind in absurd (omega (arith, a, h))

  at_block : (b : Placed) → IsOf b body → block_of p b.id ≡ Some b.at.block
  at_block b i = ap (option_map (λ (a : Placed). a.at.block)) (facts.found b i)

  mutual
    paired_kind : (low : ℕ) (spot : Spot) (id : ℕ) (k : TKind) (n mid : ℕ) → low ≤ n → LaidKind p n k mid → ((z : Placed) → IsOf z (kind_placed spot id k) → IsOf z body) → PairedKind m.regions low k
    paired_kind low spot id (if_else c a b) n mid h laid sub = (
      paired_block low (in_branch spot id) n a laid.0 h laid.1 (λ z i. sub z (of_left z (block_placed (in_branch spot id) a) (else_placed (in_branch spot id) b) i)),
      paired_else low (in_branch spot id) laid.0 b mid (let u = up_block p n a laid.0 laid.1 in omega (arith, u, h)) laid.2
          (λ z i. sub z (of_right z (block_placed (in_branch spot id) a) (else_placed (in_branch spot id) b) i)),
    )
    paired_kind low spot id (for_in x c d b) n mid h laid sub = paired_block low (in_loop spot id ((x, variables.Declared id) ∷ [])) n b mid h laid sub
    paired_kind low spot id (while_do c t b) n mid h laid sub = paired_block low (in_loop spot id []) n b mid h laid sub
    paired_kind low spot id k n mid h laid sub = tt

    paired_else : (low : ℕ) (spot : Spot) (n : ℕ) (b : TElse) (k : ℕ) → low ≤ n → LaidElse p n b k → ((z : Placed) → IsOf z (else_placed spot b) → IsOf z body) → PairedElse m.regions low b
    paired_else low spot n no_else k h laid sub = tt
    paired_else low spot n (else_do b) k h laid sub = paired_block low spot n b k h laid sub

    pub paired_block : (low : ℕ) (spot : Spot) (n : ℕ) (b : TBlock) (k : ℕ) → low ≤ n → LaidBlock p n b k → ((z : Placed) → IsOf z (block_placed spot b) → IsOf z body) → PairedBlock m.regions low b
    paired_block low spot n (block bid no_stmts) k h laid sub = tt
    paired_block low spot n (block bid (more (stmt id line s) rest)) k h laid sub =
        let z = laid.1.0 in
        let u = up_kind p (suc id) s laid.1.1 laid.1.2 in
        let v = up_stmts p laid.1.1 rest k laid.1.3 in
        let e = at_block (record { id = id; line = line; kind = s; at = record spot { block = bid } }) (sub _ (inl refl)) in
        paired_stmts low None (record spot { block = bid }) n (more (stmt id line s) rest) k h laid.1 sub (λ t d. (laid.0 id t bid (omega (arith, z)) (omega (arith, u, v)) e d).1)
        (λ r i q a b. absurd (let y = (laid.0 id r.first bid (omega (arith, z)) (omega (arith, u, v)) e ((facts.region r i).1 ∙ ap Some q)).0 in omega (arith, y, a)))

    paired_stmts : (low : ℕ) (inside : Option ℕ) (spot : Spot) (n : ℕ) (ss : TStmts) (k : ℕ) → low ≤ n → LaidStmts p n ss k → ((z : Placed) → IsOf z (stmts_placed spot ss) → IsOf z body) →
        ((t : ℕ) → block_of p t ≡ Some spot.block → t < k) → State inside n spot.block → PairedStmts m.regions low inside ss
    paired_stmts low inside spot n no_stmts k h laid sub last st = ends_shut inside k spot.block last (subst (λ z. State inside z spot.block) laid st)
    paired_stmts low inside spot n (more (stmt id line s) rest) k h laid sub last st =
        let e = at_block (record { id = id; line = line; kind = s; at = spot }) (sub _ (inl refl)) in
        let q = paired_by spot.block id laid.1 (at_statement m guarded f body facts spot.block id s laid.1 laid.2 e) inside (begun_by m.regions id) (ended_by m.regions id) refl refl
        (subst (λ z. State inside z spot.block) (sym laid.0) st) in
        let z = laid.0 in
        let u = up_kind p (suc id) s laid.1 laid.2 in (
          omega (arith, h, z),
          q.0,
          paired_kind (suc id) spot id s (suc id) laid.1 (omega arith) laid.2 (λ y i. sub y (inr (of_left y (kind_placed spot id s) (stmts_placed (behind spot id s) rest) i))),
          paired_stmts (suc id) (next_mode inside (begun_by m.regions id) (ended_by m.regions id)) (behind spot id s) laid.1 rest k u laid.3
              (λ y i. sub y (inr (of_right y (kind_placed spot id s) (stmts_placed (behind spot id s) rest) i))) last q.1,
        )
