-- Fields of a file, put one after the other.
use Rattle.std.proofs.Common.{ℕ, ◌+◌, ◌<◌, ◌≤◌, ◌≡◌, List, [], ◌∷◌, ◌++◌, length, get_or, drop, map, ap, ◌∙◌, append_assoc, subst, sym, refl, arith, Vec, Global}
use Rattle.std.specs.List.{All}
use Rattle.std.proofs.lemmas.List.{drop_more, drop_all, get_or-map, length-map}
use Rattle.oc_tree.specs.Names.{Text}
use Rattle.oc_tree.specs.declared.said.Target.{Target}
use Rattle.oc_isa.specs.declared.image.ImageNv.{ImageNv}
use Rattle.oc_isa.specs.Bytes.{Bytes, IsFew, number_bytes, word_bytes, name_bytes, nvs_bytes}

-- the field of a nonvolatile variable
abbrev pub nv_bytes : Text → ImageNv → Bytes
nv_bytes x v = name_bytes x ++ (number_bytes v.words ++ word_bytes v.initial)

one_more : (x : Text) (v : ImageNv) (rest : Bytes) → name_bytes x ++ (number_bytes v.words ++ (word_bytes v.initial ++ rest)) ≡ nv_bytes x v ++ rest
one_more x v rest =
    ap (λ (s : Bytes). name_bytes x ++ s) (sym (append_assoc (number_bytes v.words) (word_bytes v.initial) rest))
    ∙ sym (append_assoc (name_bytes x) (number_bytes v.words ++ word_bytes v.initial) rest)

-- the fields of nonvolatile variables begin with that of the first
pub nvs_more : (xs : List Text) (vs : List ImageNv) (i : ℕ) (x : Text) (v : ImageNv) → i < length xs → length vs ≡ length xs
    → nvs_bytes (drop i xs) (drop i vs) ≡ nv_bytes (get_or xs i x) (get_or vs i v) ++ nvs_bytes (drop (i + 1) xs) (drop (i + 1) vs)
nvs_more xs vs i x v h e =
    let inside : i < length vs = omega (arith, e) in
    ap (λ ys. nvs_bytes ys (drop i vs)) (drop_more xs i x h)
    ∙ ap (nvs_bytes (get_or xs i x ∷ drop (i + 1) xs)) (drop_more vs i v inside)
    ∙ one_more (get_or xs i x) (get_or vs i v) (nvs_bytes (drop (i + 1) xs) (drop (i + 1) vs))

-- behind the last one nothing is left
pub nvs_end : (xs : List Text) (vs : List ImageNv) (i : ℕ) → length xs ≤ i → nvs_bytes (drop i xs) (drop i vs) ≡ []
nvs_end xs vs i h = ap (λ ys. nvs_bytes ys (drop i vs)) (drop_all i xs h)

-- regions have few targets each, seen as vectors too
pub few_each : (vs : List (Vec Target Global)) → All IsFew (map (λ v. v.items) vs) → All (λ v. IsFew v.items) vs
few_each vs all k d h =
    subst IsFew (get_or-map (λ (v : Vec Target Global). v.items) vs k d d.items h) (all k d.items (subst (λ (n : ℕ). k < n) (sym (length-map vs (λ (v : Vec Target Global). v.items))) h))
