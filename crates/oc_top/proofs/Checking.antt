-- How the blocks of a source are judged.
use Rattle.std.proofs.Common.{ℕ, ◌<◌, ◌≡◌, ◌∙◌, sym, ap, refl, subst, inl, inr, List, [], length, true, not, Option, Some}
use Rattle.std.specs.Prelude.{codes, Result, Ok, Err, IfErr}
use Rattle.oc_tree.specs.Tree.{TProgram}
use Rattle.oc_tree.specs.Checked.{TChecked}
use Rattle.oc_tree.specs.Expansion.{expansion}
use Rattle.oc_tree.specs.Members.{IsOf}
use Rattle.oc_tree.specs.declared.broken.Broken.{Broken}
use Rattle.oc_tree.specs.declared.marked.Policy.{Policy}
use Rattle.oc_lex.specs.declared.token.Token.{Token}
use Rattle.oc_lex.proofs.TokenLaws.{tokens_same}
use Rattle.oc_grammar.specs.Lexemes.{lexemes_in}
use Rattle.oc_parse.specs.Atomics.{atomics}
use Rattle.oc_parse.proofs.Begun.{atomics_there}
use Rattle.oc_needs.specs.Policies.{policies}
use Rattle.oc_needs.specs.Requirements.{TRequirement, requirements}
use Rattle.oc_region.proofs.Elements.{each_find}
use Rattle.oc_region.proofs.Required.{Asks, asked}
use Rattle.oc_regcheck.specs.Enough.{AreStatements, IsOpen, IsVerdict, is_met}
use Rattle.oc_regcheck.specs.declared.verdict.BlockVerdict.{BlockVerdict}
use Rattle.oc_regcheck.specs.declared.verdict.BlockVerdict.TheVariants.{Covered, Open}
use Rattle.oc_top.specs.Sources.{Reading, ReadsIn, faulty, breaks, program}
use Rattle.oc_top.specs.Steps.{IsNotRead}
use Rattle.oc_report.specs.Runs.{Verdict, is_refusal, refuses}
use Rattle.oc_command.specs.Gaps.{gap_of}
use Rattle.oc_top.specs.Checked.{AcceptsBlocks, AreEnough, AreJudged, IsCheck, IsEnough, IsSafe, IsSaid, no_program, broken_rule, judged}
use Rattle.oc_top.specs.Judged.{IsCheckedOf, IsNotSafe, IsOpenFor}
use Rattle.oc_top.proofs.OneReading.{one_reading_in, same_line, same_rule, same_tree}
use Rattle.oc_command.specs.declared.answer.Answer.{Answer}
use Rattle.oc_command.specs.declared.answer.Answer.TheVariants as answer

-- ---- the steps

pub not_read : (source : List ℕ) (end : Answer) → IsNotRead true source end → IsNotSafe source end
not_read source (answer.Syntax line) r = inr (no_program line r refl)
not_read source (answer.Rule line rule) r = inr (broken_rule (record { line = line; rule = rule }) r refl)
not_read source answer.Memory r = inl refl
not_read source end r = absurd r

module _ (source : List ℕ) (c : TChecked) (blocks : List ℕ) (is : IsCheckedOf source c blocks) where
  -- `atomic` begins statements of the expansion
  pub there : AreStatements c.program blocks
  there =
      let spelled = is.accepted.spelled in
      subst (λ (x : TChecked). AreStatements x.program blocks) (sym is.is_checked)
      (λ b o. atomics_there is.written (lexemes_in true source spelled.tokens) b (subst (IsOf b) spelled.begun o))

  pub not_enough : (end : Answer) → IsOpenFor c.program blocks end → IsNotSafe source end
  not_enough end (inl e) = inl e
  not_enough end (inr o) =
      let found : (v : BlockVerdict) × AreJudged (expansion is.written) blocks v × IsSaid (expansion is.written) v (refuses end) =
      subst (λ (x : TChecked). (v : BlockVerdict) × AreJudged x.program blocks v × IsSaid x.program v (refuses end)) is.is_checked o in
      inr (judged is.written blocks is.accepted found.0 found.1 found.2)

  pub not_enough_in : {X : Type 0} (r : Result X Answer) → IfErr r (IsOpenFor c.program blocks) → IfErr r (IsNotSafe source)
  not_enough_in (Ok x) h = h
  not_enough_in (Err end) h = not_enough end h

  pub are_enough : IsEnough c blocks → AreEnough source
  are_enough e = record { written = is.written; blocks = blocks; accepted = is.accepted; enough = subst (λ (x : TChecked). IsEnough x blocks) is.is_checked e }

-- the policy of an open requirement is one of the policies
pub policy_there : (p : TProgram) (blocks : List ℕ) (policy function first second : ℕ) → IsOpen p blocks policy function first second → policy < length (policies p)
policy_there p blocks policy function first second o =
    let asks = each_find (Asks p (length (policies p))) (λ r. not (is_met p blocks r)) (requirements p) o.requirement o.found (asked p) in
    subst (λ (n : ℕ). n < length (policies p)) o.policy_is asks.1.policy

-- ---- there is one verdict on a source

some_same : {A : Type 0} (a b : A) → ◌≡◌ {A = Option A} (Some a) (Some b) → a ≡ b
some_same a b e = cc

one_verdict : (p : TProgram) (blocks : List ℕ) (v w : BlockVerdict) → IsVerdict p blocks v → IsVerdict p blocks w → v ≡ w
one_verdict p blocks Covered Covered a b = refl
one_verdict p blocks Covered (Open q g t u) a b = let e = sym a ∙ b.found in cc e
one_verdict p blocks (Open q f s t) Covered a b = let e = sym b ∙ a.found in cc e
one_verdict p blocks (Open q f s t) (Open r g u w) a b =
    let same = some_same a.requirement b.requirement (sym a.found ∙ b.found) in
    let policy : q ≡ r = sym a.policy_is ∙ ap (λ (x : TRequirement). x.policy) same ∙ b.policy_is in
    let function : f ≡ g = sym a.function_is ∙ ap (λ (x : TRequirement). x.function) same ∙ b.function_is in
    let first : s ≡ u = cc (a.first_is, b.first_is, same) in
    let second : t ≡ w = cc (a.second_is, b.second_is, same, first) in
    cc (policy, function, first, second)

one_saying : (p : TProgram) (v : BlockVerdict) (run other : Verdict) → IsSaid p v run → IsSaid p v other → run ≡ other
one_saying p Covered run other a b = a ∙ sym b
one_saying p (Open policy function first second) run other a b =
    let same = some_same a.0 b.0 (sym a.1 ∙ b.1) in
    a.2 ∙ ap (λ (q : Policy). refuses (answer.Uncovered (gap_of p q function first second))) same ∙ sym b.2

plain : (source : List ℕ) (p : TProgram) (blocks : List ℕ) → AcceptsBlocks source p blocks → ReadsIn true source (program p)
plain source p blocks a = (record { tokens = a.spelled.tokens; are_tokens = a.spelled.are_tokens; spelled = a.spelled.spelled }, a.unbroken)

module _ (source : List ℕ) where
  same_blocks : (p : TProgram) (blocks others : List ℕ) → AcceptsBlocks source p blocks → AcceptsBlocks source p others → blocks ≡ others
  same_blocks p blocks others a b =
      let same = tokens_same source a.spelled.tokens b.spelled.tokens a.spelled.are_tokens b.spelled.are_tokens in
      a.spelled.begun ∙ ap (λ (ts : List Token). atomics p (lexemes_in true source ts)) (sym same) ∙ sym b.spelled.begun

  same_judged : (p q : TProgram) (blocks others : List ℕ) (v w : BlockVerdict) (run other : Verdict) → p ≡ q → AcceptsBlocks source p blocks → AcceptsBlocks source q others
      → IsVerdict (expansion p) blocks v → IsVerdict (expansion q) others w → IsSaid (expansion p) v run → IsSaid (expansion q) w other → run ≡ other
  same_judged p q blocks others v w run other e a b is js s t =
      let here : AcceptsBlocks source p others = subst (λ (x : TProgram). AcceptsBlocks source x others) (sym e) b in
      let lists = same_blocks p blocks others a here in
      let js' : IsVerdict (expansion p) blocks w = subst (λ (xs : List ℕ). IsVerdict (expansion p) xs w) (sym lists) (subst (λ (x : TProgram). IsVerdict (expansion x) others w) (sym e) js) in
      let same = one_verdict (expansion p) blocks v w is js' in
      let t' : IsSaid (expansion p) v other = subst (λ (z : BlockVerdict). IsSaid (expansion p) z other) (sym same) (subst (λ (x : TProgram). IsSaid (expansion x) w other) (sym e) t) in
      one_saying (expansion p) v run other s t'

  one : (r s : Reading) → ReadsIn true source r → ReadsIn true source s → r ≡ s
  one r s a b = one_reading_in true source r s a b

  pub one_check : (run other : Verdict) → IsCheck source run → IsCheck source other → run ≡ other
  one_check run other (no_program m a e) (no_program n b f) = e ∙ ap (λ (k : ℕ). refuses (answer.Syntax k)) (same_line m n (one (faulty m) (faulty n) a b)) ∙ sym f
  one_check run other (no_program m a e) (broken_rule c b f) = let h = one (faulty m) (breaks c) a b in cc h
  one_check run other (no_program m a e) (judged q others b w js t) = let h = one (faulty m) (program q) a (plain source q others b) in cc h
  one_check run other (broken_rule c a e) (no_program n b f) = let h = one (breaks c) (faulty n) a b in cc h
  one_check run other (broken_rule c a e) (broken_rule d b f) = e ∙ ap (λ (k : Broken). refuses (answer.Rule k.line k.rule)) (same_rule c d (one (breaks c) (breaks d) a b)) ∙ sym f
  one_check run other (broken_rule c a e) (judged q others b w js t) = let h = one (breaks c) (program q) a (plain source q others b) in cc h
  one_check run other (judged p blocks a v is s) (no_program n b f) = let h = one (program p) (faulty n) (plain source p blocks a) b in cc h
  one_check run other (judged p blocks a v is s) (broken_rule d b f) = let h = one (program p) (breaks d) (plain source p blocks a) b in cc h
  one_check run other (judged p blocks a v is s) (judged q others b w js t) =
      same_judged p q blocks others v w run other (same_tree p q (one (program p) (program q) (plain source p blocks a) (plain source q others b))) a b is.verdict js.verdict s t

-- ---- what the answers are

-- blocks that suffice are the verdict on their source
pub safe_check : (source : List ℕ) (run : Verdict) → IsSafe source run → IsCheck source run
safe_check source run s =
    let enough = s.enough.enough in
    judged s.enough.written s.enough.blocks s.enough.accepted Covered (record { verdict = enough.verdict; exact = enough.covered }) s.is_run

said_refuses : (p : TProgram) (v : BlockVerdict) (end : Answer) → IsSaid p v (refuses end) → is_refusal end ≡ true
said_refuses p Covered end s = let e : [] ≡ codes "safe\n" = ap (λ (v : Verdict). v.text) s in cc e
said_refuses p (Open policy function first second) end s = ap (λ (v : Verdict). is_refusal v.answer) s.2

pub check_refuses : (source : List ℕ) (end : Answer) → IsCheck source (refuses end) → is_refusal end ≡ true
check_refuses source end (no_program line r e) = ap (λ (v : Verdict). is_refusal v.answer) e
check_refuses source end (broken_rule b r e) = ap (λ (v : Verdict). is_refusal v.answer) e
check_refuses source end (judged p blocks a v is s) = said_refuses (expansion p) v end s
