-- Names that were seen, as keys of a set.
use Rattle.std.proofs.Common.{◌≡◌, List, [], ◌∷◌, ◌++◌, refl, ap, ◌∙◌, false, Bor}
use Rattle.std.specs.Prelude.{◌||◌, if◌then◌else◌, Result, Ok, Err, OnOk}
use Rattle.std.specs.List.{list_any}
use Rattle.std.specs.Str.{bytes_eq}
use Rattle.oc_tree.specs.Names.{Text, names_seen}
use Rattle.oc_verify.specs.Reading.{is_named}

pub any_seen : (x : Text) (ks : List (Bor Text)) → list_any (λ k. bytes_eq x k.now) ks ≡ is_named (names_seen ks) x
any_seen x [] = refl
any_seen x (k ∷ ks) = ap (λ b. bytes_eq x k.now || b) (any_seen x ks)

seen_more : (ks : List (Bor Text)) (k : Bor Text) → names_seen (ks ++ k ∷ []) ≡ names_seen ks ++ k.now ∷ []
seen_more [] k = refl
seen_more (j ∷ ks) k = ap (λ l. j.now ∷ l) (seen_more ks k)

-- a name that wasn't seen goes last
pub seen_then : (ks : List (Bor Text)) (k : Bor Text) → is_named (names_seen ks) k.now ≡ false → names_seen (if list_any (λ j. bytes_eq k.now j.now) ks then ks else ks ++ k ∷ [])
    ≡ names_seen ks ++ k.now ∷ []
seen_then ks k e = ap (λ b. names_seen (if b then ks else ks ++ k ∷ [])) (any_seen k.now ks ∙ e) ∙ seen_more ks k

pub on_any : {A E P : Type 0} (r : Result A E) → P → OnOk r P
on_any (Ok x) p = p
on_any (Err e) p = tt
