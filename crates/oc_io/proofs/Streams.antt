-- What a stream has and holds back, when bytes are added or written out.
use Rattle.std.proofs.Common.{ℕ, ◌≡◌, ◌≤◌, ◌+◌, List, [], ◌++◌, length, take, drop, Option, Some, None, nat_eq, true, arith, ap, sym, ◌∙◌, subst, append-nil, take-append-drop}
use Rattle.std.proofs.Math.Seq.{drop-nil, take-add}
use Rattle.std.proofs.lemmas.List.{drop-append-le, take_all, length-take}
use Rattle.std.proofs.lemmas.Bool.{eqb-true}
use Rattle.std.proofs.KnownBytes.{Appends-trans, Keeps-refl, append_known-grown, append_known-moved, append_known-passed}
use Rattle.std.specs.Io.KnownBytes.{Appends, Keeps, append_known}
use Rattle.oc_io.specs.Faults.{TookPart}
use Rattle.oc_io.specs.Streams.{unwritten, with_held}

-- bytes up to a place and then more of them
pub joined : (from n k : ℕ) (xs : List ℕ) → from ≤ n → n ≤ length xs → drop from (take (n + k) xs) ≡ drop from (take n xs) ++ take k (drop n xs)
joined from n k xs l m =
    let s = length-take n xs in
    ap (drop from) (take-add n k xs) ∙ drop-append-le from (take n xs) (take k (drop n xs)) (omega (arith, s, l, m))

-- what is left behind a front part
split_at : (from n : ℕ) (xs : List ℕ) → from ≤ n → n ≤ length xs → drop from xs ≡ drop from (take n xs) ++ drop n xs
split_at from n xs l m =
    let s = length-take n xs in
    ap (drop from) (sym (take-append-drop n xs)) ∙ drop-append-le from (take n xs) (drop n xs) (omega (arith, s, l, m))

nothing_more : (a b : Option (List ℕ)) → Keeps a b → Appends a b []
nothing_more None b k = tt
nothing_more (Some x) None k = absurd k
nothing_more (Some x) (Some y) k = k ∙ sym (append-nil x)

-- what was held back is written up to a place
pub written_up_to : (a b : Option (List ℕ)) (from n used : ℕ) (buffer : List ℕ) → from ≤ n → n ≤ length (take used buffer) → Appends a b (drop from (take n (take used buffer)))
    → Appends (with_held a from used buffer) (with_held b n used buffer) []
written_up_to a b from n used buffer l m w =
    nothing_more (with_held a from used buffer) (with_held b n used buffer)
    (append_known-moved a b (drop from (take n (take used buffer))) (unwritten n used buffer) (unwritten from used buffer) w (split_at from n (take used buffer) l m))

-- more is held back
pub grown : (known : Option (List ℕ)) (old new bytes : List ℕ) → new ≡ old ++ bytes → Appends (append_known known old) (append_known known new) bytes
grown known old new bytes e = append_known-grown (append_known known old) known old new bytes (Keeps-refl (append_known known old)) e

-- bytes are written where none are held back
pub passed : (a b : Option (List ℕ)) (held bytes : List ℕ) → held ≡ [] → Appends a b bytes → Appends (append_known a held) (append_known b held) bytes
passed a b held bytes none w =
    subst (Appends (append_known a held) (append_known b held)) (append-nil bytes)
    (append_known-passed (append_known a held) a b held held bytes [] (Keeps-refl (append_known a held)) none w (sym (append-nil held)))

pub none_held : (written used : ℕ) (buffer : List ℕ) → used ≡ 0 → unwritten written used buffer ≡ []
none_held written used buffer e = ap (λ (n : ℕ). drop written (take n buffer)) e ∙ drop-nil written

pub all_taken : {S : Type 0} (took : S → List ℕ → S → Type 0) (a b : S) (bytes : List ℕ) → took a bytes b → TookPart took a bytes b
all_taken took a b bytes t = record { front = bytes; back = []; split = sym (append-nil bytes); taken = t }

-- bytes of which so many are taken
pub front_taken : {S : Type 0} (took : S → List ℕ → S → Type 0) (a b : S) (n : ℕ) (bytes : List ℕ) → took a (take n bytes) b → TookPart took a bytes b
front_taken took a b n bytes t = record { front = take n bytes; back = drop n bytes; split = sym (take-append-drop n bytes); taken = t }

pub whole_taken : (n : ℕ) (bytes : List ℕ) → nat_eq n (length bytes) ≡ true → take n bytes ≡ bytes
whole_taken n bytes e = let all = eqb-true n (length bytes) e in take_all n bytes (omega (arith, all))

-- bytes are put behind the used part
pub more_held : (written used : ℕ) (old new bytes : List ℕ) → written ≤ used → used ≤ length old → take (used + length bytes) new ≡ take used old ++ bytes
    → unwritten written (used + length bytes) new ≡ unwritten written used old ++ bytes
more_held written used old new bytes l m e =
    let s = length-take used old in
    ap (drop written) e ∙ drop-append-le written (take used old) bytes (omega (arith, s, l, m))

-- after what is written, more is held back
pub held_after : {T : Type 0} (contents : T → Option (List ℕ)) (a b c : T) (x y z bytes : List ℕ) → Appends (append_known (contents a) x) (append_known (contents b) y) [] → c ≡ b → z ≡ y ++ bytes
    → Appends (append_known (contents a) x) (append_known (contents c) z) bytes
held_after contents a b c x y z bytes w e h =
    subst (λ t. Appends (append_known (contents a) x) (append_known (contents t) z) bytes) (sym e)
    (Appends-trans (append_known (contents a) x) (append_known (contents b) y) (append_known (contents b) z) [] bytes w (grown (contents b) y z bytes h))

-- after all that was held back is written, bytes are
pub passed_after : {T : Type 0} (contents : T → Option (List ℕ)) (a b c d : T) (x y z bytes : List ℕ) → Appends (append_known (contents a) x) (append_known (contents b) y) [] → y ≡ [] → c ≡ b → z ≡ y
    → Appends (contents c) (contents d) bytes → Appends (append_known (contents a) x) (append_known (contents d) z) bytes
passed_after contents a b c d x y z bytes w none e f p =
    let own : Appends (contents b) (contents d) bytes = subst (λ t. Appends (contents t) (contents d) bytes) e p in
    subst (λ (h : List ℕ). Appends (append_known (contents a) x) (append_known (contents d) h) bytes) (sym f)
    (Appends-trans (append_known (contents a) x) (append_known (contents b) y) (append_known (contents d) y) [] bytes w (passed (contents b) (contents d) y bytes none own))
