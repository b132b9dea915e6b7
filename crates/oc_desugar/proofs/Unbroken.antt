-- A statement that breaks no rule, but maybe that of the counts, rule by rule.
use Rattle.std.proofs.Common.{◌≡◌, Bool, true, false, [], ◌∷◌, Some, None, cond, refl, ap, sym, ◌∙◌}
use Rattle.std.specs.Prelude.{not}
use Rattle.std.proofs.lemmas.Bool.{not-false}
use Rattle.oc_tree.specs.Tree.{TKind, TProgram}
use Rattle.oc_tree.specs.Calls.{own_calls}
use Rattle.oc_tree.specs.Elements.{Here}
use Rattle.oc_tree.specs.Limits.{Tally, statement_passes}
use Rattle.oc_tree.specs.Broken.{Table, statement_rules, lowest}
use Rattle.oc_tree.specs.Rules.{takes_name, own_fits, sides_differ, condition_is_number, used_calls, let_bad_length, target_fixed, array_fixed, pointee_fixed}
use Rattle.oc_tree.specs.Rules.{annotates_other, returns_elsewhere, has_many_turns, pulls_disturb}
use Rattle.oc_tree.specs.Walks.{kind_known, kind_skips}
use Rattle.oc_tree.proofs.PartLaws.{known_of_own, skips_of_own}
use Rattle.oc_desugar.proofs.FineCalls.{CallFine, Gives, Each, fine_from_rules, none_main, all_meet, all_lend, all_alone, none_exposes, none_back, gives_from_rule, all_give}

-- ---- tables

-- no rule of a table is broken
abbrev pub Passes : Table → Type 0
Passes [] = Unit {0}
Passes (r ∷ rs) = (r.1 ≡ false) × Passes rs

pub none_broken : (rs : Table) → lowest rs ≡ None → Passes rs
none_broken [] h = tt
none_broken (r ∷ rs) h = by r.1 refl (none_broken rs)
  where
    by : (b : Bool) → r.1 ≡ b → (lowest rs ≡ None → Passes rs) → (r.1 ≡ false) × Passes rs
    by true e rest = let some : Some r.0 ≡ None = sym (ap (λ c. cond c (Some r.0) (lowest rs)) e) ∙ h in absurd (cc)
    by false e rest = (e, rest (sym (ap (λ c. cond c (Some r.0) (lowest rs)) e) ∙ h))

passes_all : (rs : Table) → Passes rs → lowest rs ≡ None
passes_all [] h = refl
passes_all (r ∷ rs) h = ap (λ b. cond b (Some r.0) (lowest rs)) h.0 ∙ passes_all rs h.1

-- ---- statements

pub record Unbroken (p : TProgram) (h : Here) (k : TKind) : Type 0 where
  pub taken : takes_name p h.scope k ≡ false
  pub known : kind_known p h.scope k ≡ true
  pub fits : own_fits p h.scope k ≡ true
  pub sides : sides_differ p h.scope k ≡ false
  pub condition : condition_is_number p h.scope k ≡ false
  pub gives : Each (Gives p) (used_calls k)
  pub lengths : let_bad_length k ≡ false
  pub target : target_fixed p h.scope k ≡ false
  pub array : array_fixed p h.scope k ≡ false
  pub pointee : pointee_fixed p h.scope k ≡ false
  pub calls : Each (CallFine p h) (own_calls k)
  pub annotates : annotates_other h k ≡ false
  pub returns : returns_elsewhere p h k ≡ false
  pub turns : has_many_turns k ≡ false
  pub skips : kind_skips k ≡ false
  pub undisturbed : pulls_disturb p k ≡ false

pub unbroken : (p : TProgram) (n : Tally) (h : Here) (k : TKind) → lowest (statement_rules p n h k) ≡ None → Unbroken p h k
unbroken p n h k e =
    let r2 : Passes (statement_rules p n h k) = none_broken (statement_rules p n h k) e in
    let r3 = r2.1 in
    let r4 = r3.1 in
    let r5 = r4.1 in
    let r6 = r5.1 in
    let r7 = r6.1 in
    let r8 = r7.1 in
    let r9 = r8.1 in
    let r10 = r9.1 in
    let r11 = r10.1 in
    let r12 = r11.1 in
    let r13 = r12.1 in
    let r14 = r13.1 in
    let r15 = r14.1 in
    let r16 = r15.1 in
    let r18 = r16.1 in
    let r19 = r18.1 in
    let r20 = r19.1 in
    let r21 = r20.1 in
    let r22 = r21.1 in
    let r25 = r22.1 in
    let r26 = r25.1 in
    record {
      taken = r2.0;
      known = sym (known_of_own p h.scope k) ∙ not-false _ r3.0;
      fits = not-false _ r5.0;
      sides = r6.0;
      condition = r7.0;
      gives = gives_from_rule p (used_calls k) (not-false _ r9.0);
      lengths = r10.0;
      target = r11.0;
      array = r12.0;
      pointee = r13.0;
      calls = fine_from_rules p h (own_calls k) r4.0 (not-false _ r8.0) (not-false _ r14.0) (not-false _ r15.0) r16.0 r20.0;
      annotates = r18.0;
      returns = r19.0;
      turns = r21.0;
      skips = sym (skips_of_own k) ∙ r25.0;
      undisturbed = r26.0;
    }

-- one more rule that passes
also : {A B : Type 0} → A → B → A × B
also a b = (a, b)

-- with its counts within the limits it breaks none
pub stays_unbroken : (p : TProgram) (n : Tally) (h : Here) (k : TKind) → Unbroken p h k → statement_passes n ≡ false → lowest (statement_rules p n h k) ≡ None
stays_unbroken p n h k u counts =
    let cs = own_calls k in
    let r26 = also u.undisturbed tt in
    let r25 = also (skips_of_own k ∙ u.skips) r26 in
    let r22 = also counts r25 in
    let r21 = also u.turns r22 in
    let r20 = also (none_back p h cs u.calls) r21 in
    let r19 = also u.returns r20 in
    let r18 = also u.annotates r19 in
    let r16 = also (none_exposes p h cs u.calls) r18 in
    let r15 = also (ap not (all_alone p h cs u.calls)) r16 in
    let r14 = also (ap not (all_lend p h cs u.calls)) r15 in
    let r13 = also u.pointee r14 in
    let r12 = also u.array r13 in
    let r11 = also u.target r12 in
    let r10 = also u.lengths r11 in
    let r9 = also (ap not (all_give p (used_calls k) u.gives)) r10 in
    let r8 = also (ap not (all_meet p h cs u.calls)) r9 in
    let r7 = also u.condition r8 in
    let r6 = also u.sides r7 in
    let r5 = also (ap not u.fits) r6 in
    let r4 = also (none_main p h cs u.calls) r5 in
    let r3 = also (ap not (known_of_own p h.scope k ∙ u.known)) r4 in
    passes_all (statement_rules p n h k) (also u.taken r3)
