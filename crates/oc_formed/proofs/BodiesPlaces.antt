-- Names of the top level: what the rules find by its place, the code and the meaning find by its name.
use Rattle.std.proofs.Common.{◌≡◌, ◌<◌, ℕ, suc, ◌+◌, Bool, true, false, true≢false, List, [], ◌∷◌, length, Some, cond, ap, sym, ◌∙◌, arith}
use Rattle.std.specs.Prelude.{is_some, slice_get, if◌then◌else◌}
use Rattle.std.specs.Str.{bytes_eq}
use Rattle.std.proofs.lemmas.Option.{same_Some}
use Rattle.oc_tree.specs.Names.{Text}
use Rattle.oc_tree.specs.Tree.{TProgram}
use Rattle.oc_tree.specs.Calls.{place_from}
use Rattle.oc_tree.specs.Scope.{is_name_of}
use Rattle.oc_meaning.specs.Exec.{number_in}
use Rattle.oc_meaning.specs.Run as meaning
use Rattle.oc_meaning.proofs.Functions.{named_at}
use Rattle.oc_code.specs.Formed.{IsKnown}
use Rattle.oc_checked.proofs.Called.{Called}

-- ---- sensors and ports

-- a name that has a place has a number, wherever places begin
known_from : (n : ℕ) (xs : List Text) (x : Text) → is_some (place_from n xs x) ≡ true → IsKnown xs x
known_from n [] x h = absurd (true≢false (sym h))
known_from n (y ∷ ys) x h = by (bytes_eq x y) (known_from (n + 1) ys x) h
  where
    by : (b : Bool) → (is_some (place_from (n + 1) ys x) ≡ true → IsKnown ys x) → is_some (cond b (Some n) (place_from (n + 1) ys x)) ≡ true → (if b then 0 else suc (number_in ys x)) < suc (length ys)
    by true rest e = omega arith
    by false rest e = let below : number_in ys x < length ys = rest e in omega (arith, below)

-- a name that is among them has a number
pub among_known : (xs : List Text) (x : Text) → is_name_of xs x ≡ true → IsKnown xs x
among_known xs x h = known_from 0 xs x h

-- ---- functions

-- what is called is found by its name
pub called_meant : (p : TProgram) (x : Text) → (c : Called p x) → meaning.function_named p.functions x ≡ Some c.callee
called_meant p x c =
    let r = named_at 0 p.functions x c.number c.placed in
    let at : slice_get p.functions r.0 ≡ Some c.callee = (let same : r.0 ≡ c.number = (let s = r.1 in omega (arith, s)) in ap (slice_get p.functions) same ∙ c.stands) in
    let same : r.2 ≡ c.callee = same_Some r.2 c.callee (sym r.3 ∙ at) in
    r.4 ∙ ap Some same
