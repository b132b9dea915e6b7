-- The sensors, ports, functions and nonvolatile words of a program that breaks no rule are few.
use Rattle.std.proofs.Common.{◌≡◌, ◌≤◌, Bool, true, false, ◌||◌, length, drop, sum_by, Some, refl, ap, sym, ◌∙◌, arith, All}
use Rattle.std.specs.Prelude.{slice_get, nat_lt, cond}
use Rattle.std.proofs.Math.Seq.{drop-length}
use Rattle.std.proofs.Math.ListN.{get_or}
use Rattle.std.proofs.lemmas.Bool.{ltb-false}
use Rattle.std.proofs.lemmas.Option.{slice_get-get_or}
use Rattle.oc_tree.specs.Tree.{TProgram}
use Rattle.oc_tree.specs.declared.tree.NvDecl.{NvDecl}
use Rattle.oc_tree.specs.declared.tree.ValueKind.TheVariants as kinds
use Rattle.oc_tree.specs.Form.{CellsInForm, NvInForm}
use Rattle.oc_tree.specs.Rules.{has_bad_length}
use Rattle.oc_checked.proofs.Declared.{AllWithin, words_in}

module _ (p : TProgram) (within : AllWithin p) where
  -- at most 64 sensors
  pub few_sensors : length p.names.sensors ≤ 64
  few_sensors = omega (arith, within.sensors, within.within.sensors)

  -- at most 64 ports
  pub few_ports : length p.names.ports ≤ 64
  few_ports = omega (arith, within.ports, within.within.ports)

  -- at most 64 nonvolatile variables
  pub few_nvs : length p.names.nvs ≤ 64
  few_nvs = omega (arith, within.nvs, within.within.nvs)

  -- at most 128 functions
  pub few_functions : length p.functions ≤ 128
  few_functions = omega (arith, within.functions, within.within.functions)

  module _ (each : length p.nv ≡ length p.names.nvs) where
    -- at most 65,536 nonvolatile words
    pub few_words : sum_by (λ d. d.words) p.nv ≤ 65536
    few_words =
        let end : within.before.nvs ≡ length p.nv = within.nvs ∙ sym each in
        let none : words_in (drop within.before.nvs p.nv) ≡ 0 = ap (λ n. words_in (drop n p.nv)) end ∙ ap words_in (drop-length p.nv) in
        omega (arith, within.within.counted_words, within.within.few_words, none)

    -- an array has a word, and what is no array has one
    has_words : (d : NvDecl) (array : Bool) → d.array ≡ array → CellsInForm array d.words → has_bad_length (cond array (kinds.Array d.words) kinds.Int) ≡ false → 1 ≤ d.words
    has_words d false is cells good = omega (arith, cells)
    has_words d true is cells good = ltb-false d.words 1 (first (nat_lt d.words 1) (nat_lt 65536 d.words) good)
      where
        first : (a b : Bool) → a || b ≡ false → a ≡ false
        first true b h = h
        first false b h = refl

    -- each nonvolatile variable has a word
    pub nv_some : All NvInForm p.nv → All (λ d. 1 ≤ d.words) p.nv
    nv_some form i d below =
        let own = get_or p.nv i d in
        let at : slice_get p.nv i ≡ Some own = slice_get-get_or p.nv i d below in
        has_words own own.array refl (form i d below).0 (within.within.lengths i own (omega (arith, below, within.nvs, each)) at)
