-- The first parts of a run, as far as it was told.
use Rattle.std.proofs.Common.{◌≡◌, refl, ap, sym, ◌∙◌, ℕ, ℤ, ◌+◌, ◌≤◌, ◌<◌, nat_le, false, List, [], ◌∷◌, ◌++◌, length, take, drop, subst, length-append, arith}
use Rattle.std.proofs.lemmas.List.{take_all, take-append-drop, take-append-le}
use Rattle.std.proofs.lemmas.Bool.{lt-leb}
use Rattle.oc_tree.specs.Tree.{TProgram}
use Rattle.oc_tree.specs.Marked.{TRegion}
use Rattle.oc_meaning.specs.Store.{Event}
use Rattle.oc_meaning.specs.Run.{in_order, marked_run}
use Rattle.oc_meaning.specs.Cuts.{Begins}
use Rattle.oc_meaning.specs.Parts.{AreParts}
use Rattle.oc_meaning.proofs.Parts.{says_parts}

parts_front : (xs ys : List Event) → AreParts (xs ++ ys) → AreParts xs
parts_front [] ys h = tt
parts_front (x ∷ xs) ys h = (h.0, parts_front xs ys h.1)

pub parts_first : (n : ℕ) (es : List Event) → AreParts es → AreParts (take n es)
parts_first n es h = parts_front (take n es) (drop n es) (subst AreParts (sym (take-append-drop n es)) h)

pub length-in_order : (es : List Event) → length (in_order es) ≡ length es
length-in_order [] = refl
length-in_order (e ∷ es) = let h = length-in_order es in omega (arith, length-append (in_order es) (e ∷ []), h)

pub first_all : (limit : ℕ) (es : List Event) → length es ≤ limit → take limit (in_order es) ≡ in_order es
first_all limit es h = take_all limit (in_order es) (omega (arith, length-in_order es))

pub first_begun : (limit : ℕ) (es all : List Event) → limit ≤ length es → Begins (in_order es) all → take limit (in_order es) ≡ take limit all
first_begun limit es all h b =
    sym (ap (take limit) b.is ∙ take-append-le limit (in_order es) b.rest (omega (arith, h, length-in_order es)))

pub more_begun : (limit : ℕ) (es all : List Event) → limit < length es → Begins (in_order es) all → nat_le (length all) limit ≡ false
more_begun limit es all h b =
    let many : length all ≡ length (in_order es) + length b.rest = ap length b.is ∙ length-append (in_order es) b.rest in
    lt-leb (length all) limit (omega (arith, h, many, length-in_order es))

-- what begins a run's parts are parts
pub parts_begun : (p : TProgram) (rs : List TRegion) (samples : List ℤ) (es : List Event) → Begins es (marked_run p rs samples).events → AreParts es
parts_begun p rs samples es b = parts_front es b.rest (subst AreParts b.is (says_parts p rs samples))
