-- The function of a name, where the name has a place.
use Rattle.std.proofs.Common.{◌≡◌, ℕ, suc, ◌+◌, Bool, true, false, true≢false, List, [], ◌∷◌, Some, cond, refl, ap, sym, ◌∙◌, arith}
use Rattle.std.specs.Prelude.{is_some, slice_get, option_and_then}
use Rattle.std.specs.Str.{bytes_eq}
use Rattle.std.proofs.lemmas.Slice.Eq.{bytes_eq-Decides}
use Rattle.oc_tree.specs.Names.{Text}
use Rattle.oc_tree.specs.Tree.{TFunction, TProgram}
use Rattle.oc_tree.specs.Calls.{place_from, function_place, function_names}
use Rattle.oc_tree.specs.Scope.{function_named}

-- the function of a name, and its place
pub record Called (p : TProgram) (x : Text) : Type 0 where
  pub number : ℕ
  pub callee : TFunction
  pub placed : function_place p.functions x ≡ Some number
  pub stands : slice_get p.functions number ≡ Some callee
  pub same : x ≡ callee.name

-- the same in a list of which the first has the place `n`
record CalledFrom (n : ℕ) (fs : List TFunction) (x : Text) : Type 0 where
  offset : ℕ
  target : TFunction
  found : place_from n (function_names fs) x ≡ Some (n + offset)
  holds : slice_get fs offset ≡ Some target
  spelled : x ≡ target.name

-- a name that has a place there is that of a function there
called_from : (n : ℕ) (fs : List TFunction) (x : Text) → is_some (place_from n (function_names fs) x) ≡ true → CalledFrom n fs x
called_from n [] x h = absurd (true≢false (sym h))
called_from n (f ∷ fs) x h = by (bytes_eq x f.name) refl (called_from (n + 1) fs x) h
  where
    by : (b : Bool) → bytes_eq x f.name ≡ b → (is_some (place_from (n + 1) (function_names fs) x) ≡ true → CalledFrom (n + 1) fs x)
        → is_some (cond b (Some n) (place_from (n + 1) (function_names fs) x)) ≡ true → CalledFrom n (f ∷ fs) x
    by true is rest e =
        let first : n ≡ n + 0 = omega arith in
        record {
          offset = 0;
          target = f;
          found = ap (λ b. cond b (Some n) (place_from (n + 1) (function_names fs) x)) is ∙ ap Some first;
          holds = refl;
          spelled = (bytes_eq-Decides x f.name).0 is;
        }
    by false is rest e =
        let r = rest e in
        let more : n + 1 + r.offset ≡ n + suc r.offset = omega arith in
        record {
          offset = suc r.offset;
          target = r.target;
          found = ap (λ b. cond b (Some n) (place_from (n + 1) (function_names fs) x)) is ∙ r.found ∙ ap Some more;
          holds = r.holds;
          spelled = r.spelled;
        }

-- a known name is that of a function
pub name_called : (p : TProgram) (x : Text) → is_some (function_place p.functions x) ≡ true → Called p x
name_called p x h =
    let r = called_from 0 p.functions x h in
    let same : 0 + r.offset ≡ r.offset = omega arith in
    record { number = r.offset; callee = r.target; placed = r.found ∙ ap Some same; stands = r.holds; same = r.spelled }

-- which the rules find too
pub called_named : (p : TProgram) (x : Text) → (c : Called p x) → function_named p x ≡ Some c.callee
called_named p x c = ap (option_and_then (λ i. slice_get p.functions i)) c.placed ∙ c.stands
