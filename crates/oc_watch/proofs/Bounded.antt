-- The bounds of a program's code, from what its tree tells.
use Rattle.std.proofs.Common.{◌≡◌, ◌≤◌, ◌<◌, ◌+◌, ◌-◌, ◌*◌, ℕ, zero, suc, Bool, true, List, ◌++◌, length, Some, refl, sym, ap, ◌∙◌, subst, arith}
use Rattle.std.specs.Prelude.{ℤ, codes, slice_get}
use Rattle.oc_tree.specs.Names.{Text}
use Rattle.oc_tree.specs.Tree.{TArgs, call, stmt, TStmts, more, TFunction, TProgram}
use Rattle.oc_tree.specs.declared.said.Target.{Target}
use Rattle.oc_tree.specs.Marked.{TRegion}
use Rattle.oc_tree.specs.Stack.{link_words}
use Rattle.oc_isa.specs.Image.{Parts}
use Rattle.oc_isa.specs.Next.{Regs, Device}
use Rattle.oc_isa.specs.Run.{core_at, start_of, continuous_run}
use Rattle.oc_isa.specs.Table.{device_of}
use Rattle.oc_meaning.specs.Store.{Held, Place, Local, Global, Turn, Nowhere, Store, Binding}
use Rattle.oc_meaning.specs.Exec.{Passed, Passes, args_of}
use Rattle.oc_meaning.specs.Run.{function_named, nv_env, with_params, call_to, words_of}
use Rattle.oc_code.specs.Scope.{InNv, Named, named, function_scope}
use Rattle.oc_code.specs.Code.{code_of}
use Rattle.oc_code.specs.Formed.{stmts_formed, IsFormed}
use Rattle.oc_code.proofs.Needs.{need_to}
use Rattle.oc_code.proofs.Cells.{Cell, stack_of}
use Rattle.oc_code.proofs.Steps.{Mach}
use Rattle.oc_code.proofs.Places.{total, base, nv_width}
use Rattle.oc_code.proofs.Spent.{region_spent, cost_to}
use Rattle.oc_code.proofs.Lawful.{Access, all_access, block_lawful, region_lawful}
use Rattle.std.proofs.lemmas.Option.{same_Some}
use Rattle.oc_code.proofs.Args.{AreGiven}
use Rattle.oc_code.proofs.Closed.{call_within, tells_nvs, callee_keeps}
use Rattle.oc_code.proofs.Writes.{May}
use Rattle.oc_code.proofs.Bodies.{Keeps, OpensRun}
use Rattle.oc_code.proofs.Calls as code
use Rattle.oc_code.proofs.Calls.{fair, calls_run}
use Rattle.oc_code.proofs.Regions.{region_holds}
use Rattle.oc_code.proofs.Whole.{code_stands, small_of, some_words, main_holds}
use Rattle.oc_code.proofs.Law.{formed_right}
use Rattle.oc_bounds.specs.Bounds.{Bounds, Takes, IsBounded}
use Rattle.oc_bounds.proofs.Lasting.{Lasts}
use Rattle.oc_bounds.proofs.Lists.{all_lists}
use Rattle.oc_bounds.proofs.Tolls.{tolls, toll, takes_said}
use Rattle.oc_watch.specs.Entries.{run_toll}
use Rattle.oc_watch.proofs.Tolled.{run_within}
use Rattle.oc_watch.proofs.Lasting.{lasting, lasts_more}
use Rattle.oc_watch.proofs.Words.{words_for, all_words, words_few, covers, words_keep}
use Rattle.oc_watch.proofs.Leaving.{at_depth, LeavesOver, leaving, leaves_more, leaves_all}

module _ (p : TProgram) (regions : List TRegion) (targets : List (List Target)) (b : Bounds) where
  abbrev pub image : Parts
  image = code_of p regions targets

  -- the names may be written where just these words may be
  abbrev pub KeepsIn : List ℕ → Access → List Binding → Type 0
  KeepsIn ws writes env = Keeps (leaving image ws) p.nv writes env

  -- what a called function sees
  abbrev pub callee_env : TFunction → List Passed → List Held → List Binding
  callee_env g ps hs = (with_params g.params ps (record { env = nv_env 0 p.names.nvs; locals = hs })).env

  -- What each function may write, itself and in the functions that it calls; the same for the statements of each region;
  -- and each region's targets.
  pub record Tables : Type 0 where
    pub writes : Text → Access
    pub names : ℕ → Access
    pub held : ℕ → List Target
    pub lawful : (i : ℕ) (f : TFunction) → slice_get p.functions i ≡ Some f
        → block_lawful regions (writes f.name) (call_within p.functions writes (writes f.name)) (λ r γ s ss. Unit {0}) (function_scope p f) (length f.params + link_words f) f.body
    pub tells : (f : Text) → tells_nvs p.names.nvs (writes f)

  -- What is asked where region r begins: its targets cover its names, and its numbers are enough.
  pub record Fits (t : Tables) (rank : Text → ℕ) (x : Text) (r : ℕ) (γ : List Named) (s : ℕ) (ss : TStmts) : Type 0 where
    pub lawful : region_lawful regions (t.names r) (call_within p.functions t.writes (t.names r)) γ s ss
    pub covered : (x : Text) → (t.names r).names x ≡ true → covers (t.held r) (named γ x).words (named γ x).slot
    pub stored : (i : ℕ) → (t.names r).nvs i ≡ true → covers (t.held r) (nv_width p.nv i) (InNv (base p.nv i))
    pub few : all_words (t.held r) ≤ b.logged r
    pub spent : (d : ℕ) → d < length p.functions → (g : Bool) → stmts_formed p.names p.functions regions rank (rank x) g 0 γ s ss
        → region_spent p.functions regions (cost_to p regions d) γ s ss ≤ b.spent r
    pub safe : 2 * (device_of image).room + 9 + (b.spent r + b.logged r) ≤ b.safe

  module _ (formed : IsFormed p regions targets) (t : Tables) where
    abbrev d : Device
    d = device_of image

    small : total p.nv ≤ 65536
    small = small_of p regions targets formed

    -- in a region, where these words may be written
    inside : List ℕ → code.Claim p regions formed.rank
    inside ws = record {
      watch = leaving image ws;
      writes = t.writes;
      within = λ x. call_within p.functions t.writes (t.writes x);
      fits = λ f r γ s ss. Unit {0};
      code = code_stands p regions targets;
      functions = refl;
      low = formed.stack_low;
      lawful = t.lawful;
      fairly = λ x env keeps f args ps σ c passes g found cs zs given hs. callee_keeps (leaving image ws) p.nv p.names.nvs p.functions t.writes (t.writes x) env keeps f args ps σ (t.tells f)
          c passes g found cs zs given hs;
      opening = λ x d k fp le lt r n line kind rest g o s pc sp γ env cs top σ is deep q fm fits slots low room has stop none. tt;
    }

    free : (ws : List ℕ) (k : ℕ) (c : Mach) → c.core.depth ≡ 0 → LeavesOver d ws k c.samples c.core
    free ws k c e = go c.core.depth _ e
      where
        go : (n : ℕ) (A : Type 0) → n ≡ 0 → at_depth n A
        go zero A e = tt
        go (suc n) A e = absurd (omega (arith, e))

    each : length p.names.nvs ≡ length p.nv
    each = sym formed.each_nv

    some : (j : ℕ) → j < length p.nv → 1 ≤ nv_width p.nv j
    some = some_words p.nv formed.nv_some

    inner_by : (ws : List ℕ) (r : ℕ) (env : List Binding) → KeepsIn ws (t.names r) env → (f : Text) (args : TArgs) (ps : List Passed) (σ : Store)
        → call_within p.functions t.writes (t.names r) (call f args) → args_of env σ args ≡ Passes ps → (g : TFunction) → function_named p.functions f ≡ Some g → (cs : List Cell)
        (zs : List ℤ) → AreGiven p.nv cs g.params ps zs → fair p regions targets small formed each some (inside ws) f ps
    unfolding inside
    inner_by ws r env keeps f args ps σ c passes g found cs zs given g' found' hs =
        subst (λ g. KeepsIn ws (t.writes f) (callee_env g ps hs)) (same_Some g g' (sym found ∙ found'))
        (callee_keeps (leaving image ws) p.nv p.names.nvs p.functions t.writes (t.names r) env keeps f args ps σ (t.tells f) c passes g found cs zs given hs)

    -- where a region begins, its execution is brief
    brief : (x : Text) (e k fp : ℕ) → formed.rank x ≤ e → e < length p.functions
        → OpensRun (lasting image b) p.nv p.names p.functions regions formed.rank (formed.rank x) (need_to p.functions e) k fp all_access (λ c. Unit {0}) (Fits t formed.rank x)
    unfolding inside
    brief x e k fp le lt r n line kind rest g o s pc sp γ env cs top σ is deep q fm fits slots low room has stop none =
        let ws = words_for cs fp (t.held r) in
        let none_open : o ≡ 0 = omega (arith, deep, none) in
        let regs : Regs = record { pc = pc + 1; fp = fp; stack = top ++ stack_of cs σ.locals } in
        record {
          words = ws;
          few = omega (arith, words_few cs fp (t.held r), fits.few);
          left = leaves_all d ws (b.spent r) 0 (core_at regs 1 (words_of σ.nv)) refl
              (λ xs are. leaves_more image ws (region_spent p.functions regions (cost_to p regions e) γ s (more (stmt n line kind) rest)) (b.spent r) xs (core_at regs 1 (words_of σ.nv))
              (fits.spent e lt g (subst (λ i. stmts_formed p.names p.functions regions formed.rank (formed.rank x) g i γ s (more (stmt n line kind) rest)) none_open fm))
              (subst (λ i. LeavesOver d ws (region_spent p.functions regions (cost_to p regions e) γ s (more (stmt n line kind) rest)) xs (core_at regs (suc i) (words_of σ.nv))) none
              (region_holds (leaving image ws) (free ws) (λ l v. tt) (λ r c. tt) p.nv small p.names p.functions regions formed.rank (formed.rank x) (need_to p.functions e)
              (cost_to p regions e) (call_within p.functions t.writes (t.names r)) (fair p regions targets small formed each some (inside ws)) (call_to p regions e)
              (λ f g a m lower. calls_run p regions targets small formed each some (inside ws) e e (omega arith) lt f g a m (omega (arith, lower, le)))
              (λ i. 0) k fp (t.names r) (inner_by ws r) r n line kind rest is g o s pc sp γ env cs top (record σ { left = xs }) (omega (arith, deep, none))
              (record {
                holds = record { shaped = q.holds.shaped; nv = q.holds.nv; low = q.holds.low };
                base = q.base;
                full = q.full;
                sees = q.sees;
                keeps = words_keep image p.nv cs fp
                    (t.held r) q.holds.low (t.names r) γ env q.sees fits.covered fits.stored;
              }) none fm fits.lawful slots low room has stop)));
          safe = fits.safe;
        }

    may_all : (q : Place) → May (lasting image b) p.nv q
    may_all (Local l) = tt
    may_all (Global g) = λ j z lt. tt
    may_all (Turn z) = tt
    may_all Nowhere = tt

    -- the whole run, where all may be written
    whole : ((i : ℕ) (f : TFunction) → slice_get p.functions i ≡ Some f → block_lawful regions all_access (λ c. Unit {0}) (Fits t formed.rank f.name) (function_scope p f)
        (length f.params + link_words f) f.body) → code.Claim p regions formed.rank
    whole fit = record {
      watch = lasting image b;
      writes = λ f. all_access;
      within = λ f c. Unit {0};
      fits = λ f. Fits t formed.rank f;
      code = code_stands p regions targets;
      functions = refl;
      low = formed.stack_low;
      lawful = fit;
      fairly = λ x env keeps f args ps σ within passes g found cs zs given hs. record { names = λ y w. may_all _; nvs = λ i w. may_all (Global i) };
      opening = brief;
    }

    -- the code says what the tree says, which tells what its entries cost
    takes_in : b.total + run_toll p regions (toll d b) ≤ b.steps → Lasts d b b.total (start_of d) → Takes d b b.total b.steps (start_of d)
    takes_in most lasts =
        let e : b.total + (b.steps - b.total) ≡ b.steps = omega (arith, most) in
        subst (λ t. Takes d b b.total t (start_of d)) e (takes_said d b (b.steps - b.total) lasts (λ xs are. paid xs))
      where
        paid : (xs : List ℤ) → (m : ℕ) × ((n : ℕ) → m ≤ n → tolls (toll d b) (continuous_run d xs n).out ≤ b.steps - b.total)
        paid xs =
            let shows = (formed_right p regions targets formed).shows xs in
            (shows.0, λ n le. let said = ap (tolls (toll d b)) (shows.1 n le).0 in omega (arith, said, run_within (toll d b) p regions xs, most))

    abbrev AllFit : Type 0
    AllFit = (i : ℕ) (f : TFunction) → slice_get p.functions i ≡ Some f
        → block_lawful regions all_access (λ c. Unit {0}) (Fits t formed.rank f.name) (function_scope p f) (length f.params + link_words f) f.body

    whole_lasts : AllFit → cost_to p regions (length p.functions) (codes "main") ≤ b.total → Lasts d b b.total (start_of d)
    unfolding whole
    whole_lasts fit most =
        all_lists d b b.total (start_of d) (λ xs are. lasts_more image b (cost_to p regions (length p.functions) (codes "main")) b.total xs (start_of d) most
        (main_holds p regions targets formed (whole fit) refl (record { names = λ x w. may_all _; nvs = λ i w. may_all (Global i) }) xs tt))

    -- so the code of a formed program keeps within the bounds that its tree has
    pub bounded : AllFit → cost_to p regions (length p.functions) (codes "main") ≤ b.total → b.total + run_toll p regions (toll d b) ≤ b.steps → d.room + 6 ≤ b.safe → IsBounded d b
    bounded fit most steps safe = record { takes = takes_in steps (whole_lasts fit most); safe = safe }
