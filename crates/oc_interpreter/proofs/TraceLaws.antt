-- Events and marks added at the end of a trace.
use Rattle.std.proofs.Common.{◌≡◌, ℕ, suc, ◌+◌, ◌<◌, ◌≤◌, Bool, true, false, ◌==◌, List, [], ◌∷◌, ◌++◌, length, map, reverse, refl, sym, ap, subst, ◌∙◌, arith, rules, tests}
use Rattle.std.proofs.Common.{append_assoc, append-nil, length-append}
use Rattle.std.proofs.lemmas.List.{length-map, reverse-reverse}
use Rattle.std.proofs.lemmas.Grind.{reverse_onto}
use Rattle.std.specs.Prelude.{if◌then◌else◌}
use Rattle.std.proofs.lemmas.List.{map-append}
use Rattle.oc_tree.specs.declared.said.SourceEvent.{SourceEvent}
use Rattle.oc_meaning.specs.Store.{Event}
use Rattle.oc_meaning.specs.Run.{in_order}
use Rattle.oc_meaning.specs.Unmarked.{is_mark, unmarked}
use Rattle.oc_interpreter.specs.declared.store.Event.{Event as Noted}
use Rattle.oc_interpreter.specs.declared.trace.Mark.{Mark}
use Rattle.oc_interpreter.specs.Stores.{event_view as noted_view, told}
use Rattle.oc_interpreter.specs.Telling.{TellsParts, Adds}
use Rattle.oc_meaning.specs.Parts.{MayBe, AreParts}
use Rattle.oc_interpreter.specs.Traces.{event_view, mark_view, marks_at, told_from, Rises}

same_number : (k n : ℕ) → k ≡ n → (k == n) ≡ true
same_number k n e = search (rules, tests)

other_number : (k n : ℕ) → n < k → (k == n) ≡ false
other_number k n h = search (rules, tests)

choice : {A : Type 0} (b : Bool) (x y : A) → b ≡ true → (if b then x else y) ≡ x
choice b x y e = ap (λ t. if t then x else y) e

otherwise : {A : Type 0} (b : Bool) (x y : A) → b ≡ false → (if b then x else y) ≡ y
otherwise b x y e = ap (λ t. if t then x else y) e

marks_at-append : (n : ℕ) (ms qs : List Mark) → marks_at n (ms ++ qs) ≡ marks_at n ms ++ marks_at n qs
marks_at-append n [] qs = refl
marks_at-append n (m ∷ ms) qs = go (m.before == n) (marks_at-append n ms qs)
  where
    go : (b : Bool) → marks_at n (ms ++ qs) ≡ marks_at n ms ++ marks_at n qs → (if b then mark_view m ∷ marks_at n (ms ++ qs) else marks_at n (ms ++ qs))
        ≡ (if b then mark_view m ∷ marks_at n ms else marks_at n ms) ++ marks_at n qs
    go true h = ap (λ l. mark_view m ∷ l) h
    go false h = h

marks_at-here : (n : ℕ) (ms : List Mark) (m : Mark) → m.before ≡ n → marks_at n (ms ++ m ∷ []) ≡ marks_at n ms ++ mark_view m ∷ []
marks_at-here n ms m e =
    marks_at-append n ms (m ∷ []) ∙ ap (λ l. marks_at n ms ++ l) (choice (m.before == n) (mark_view m ∷ []) [] (same_number m.before n e))

marks_at-later : (n : ℕ) (ms : List Mark) (m : Mark) → n < m.before → marks_at n (ms ++ m ∷ []) ≡ marks_at n ms
marks_at-later n ms m h =
    marks_at-append n ms (m ∷ []) ∙ ap (λ l. marks_at n ms ++ l) (otherwise (m.before == n) (mark_view m ∷ []) [] (other_number m.before n h)) ∙ append-nil (marks_at n ms)

Rises-le : (least : ℕ) (ms : List Mark) (most : ℕ) → Rises least ms most → least ≤ most
Rises-le least [] most h = h
Rises-le least (m ∷ ms) most h = let rest : m.before ≤ most = Rises-le m.before ms most h.1 in omega (arith, h.0)

Rises-more : (least : ℕ) (ms : List Mark) (most n : ℕ) → Rises least ms most → most ≤ n → Rises least ms n
Rises-more least [] most n h e = omega (arith, h)
Rises-more least (m ∷ ms) most n h e = (h.0, Rises-more m.before ms most n h.1 e)

Rises-last : (least : ℕ) (ms : List Mark) (most : ℕ) (m : Mark) → Rises least ms most → m.before ≡ most → Rises least (ms ++ m ∷ []) most
Rises-last least [] most m h e = (omega (arith, h), omega arith)
Rises-last least (q ∷ ms) most m h e = (h.0, Rises-last q.before ms most m h.1 e)

-- no mark stands past the end
marks_at-none : (least : ℕ) (ms : List Mark) (most : ℕ) → Rises least ms most → marks_at (suc most) ms ≡ []
marks_at-none least [] most h = refl
marks_at-none least (m ∷ ms) most h =
    let rest : m.before ≤ most = Rises-le m.before ms most h.1 in
    otherwise (m.before == suc most) (mark_view m ∷ marks_at (suc most) ms) (marks_at (suc most) ms) (search (rules, tests)) ∙ marks_at-none m.before ms most h.1

told_from-mark : (n : ℕ) (ms : List Mark) (m : Mark) (es : List Event) → m.before ≡ n + length es → told_from n (ms ++ m ∷ []) es ≡ told_from n ms es ++ mark_view m ∷ []
told_from-mark n ms m [] e = marks_at-here n ms m (omega (arith, e))
told_from-mark n ms m (x ∷ es) e =
    let later : n < m.before = omega (arith, e) in
    let rest : m.before ≡ suc n + length es = omega (arith, e) in
    ap (λ l. l ++ x ∷ told_from (suc n) (ms ++ m ∷ []) es) (marks_at-later n ms m later)
    ∙ ap (λ l. marks_at n ms ++ x ∷ l) (told_from-mark (suc n) ms m es rest)
    ∙ sym (append_assoc (marks_at n ms) (x ∷ told_from (suc n) ms es) (mark_view m ∷ []))

told_from-event : (n least : ℕ) (ms : List Mark) (es : List Event) (x : Event) → Rises least ms (n + length es) → told_from n ms (es ++ x ∷ []) ≡ told_from n ms es ++ x ∷ []
told_from-event n least ms [] x h =
    let end : n + 0 ≡ n = omega arith in
    ap (λ l. marks_at n ms ++ x ∷ l) (marks_at-none least ms n (subst (Rises least ms) end h))
told_from-event n least ms (y ∷ es) x h =
    let end : n + length (y ∷ es) ≡ suc n + length es = omega arith in
    ap (λ l. marks_at n ms ++ y ∷ l) (told_from-event (suc n) least ms es x (subst (Rises least ms) end h))
    ∙ sym (append_assoc (marks_at n ms) (y ∷ told_from (suc n) ms es) (x ∷ []))

unmarked-append : (a b : List Event) → unmarked (a ++ b) ≡ unmarked a ++ unmarked b
unmarked-append [] b = refl
unmarked-append (e ∷ a) b = go (is_mark e.said) (unmarked-append a b)
  where
    go : (m : Bool) → unmarked (a ++ b) ≡ unmarked a ++ unmarked b → (if m then unmarked (a ++ b) else e ∷ unmarked (a ++ b)) ≡ (if m then unmarked a else e ∷ unmarked a) ++ unmarked b
    go true h = h
    go false h = ap (λ l. e ∷ l) h

pub tells_none : TellsParts [] [] []
tells_none = record { source = refl; parts = refl; rises = omega arith }

pub tells_event : (es : List SourceEvent) (ms : List Mark) (ps : List Event) (e : SourceEvent) (x : Event) → TellsParts es ms ps → event_view e ≡ x → is_mark x.said ≡ false
    → TellsParts (es ++ e ∷ []) ms (ps ++ x ∷ [])
tells_event es ms ps e x h same no_mark =
    let views : map event_view (es ++ e ∷ []) ≡ map event_view es ++ x ∷ [] = map-append event_view es (e ∷ []) ∙ ap (λ y. map event_view es ++ y ∷ []) same in
    let many : length (map event_view es) ≡ length es = length-map es event_view in
    let zero : 0 + length (map event_view es) ≡ length es = omega (arith, many) in
    let more : length (es ++ e ∷ []) ≡ length es + 1 = length-append es (e ∷ []) in
    record {
      source = views ∙ ap (λ l. l ++ x ∷ []) h.source ∙ sym (unmarked-append ps (x ∷ []) ∙ ap (λ l. unmarked ps ++ l) (otherwise (is_mark x.said) [] (x ∷ []) no_mark));
      parts = ap (told_from 0 ms) views ∙ told_from-event 0 0 ms (map event_view es) x (subst (Rises 0 ms) (sym zero) h.rises) ∙ ap (λ l. l ++ x ∷ []) h.parts;
      rises = Rises-more 0 ms (length es) (length (es ++ e ∷ [])) h.rises (omega (arith, more));
    }

pub tells_mark : (es : List SourceEvent) (ms : List Mark) (ps : List Event) (m : Mark) (x : Event) → TellsParts es ms ps → m.before ≡ length es → is_mark x.said ≡ true → mark_view m ≡ x
    → TellsParts es (ms ++ m ∷ []) (ps ++ x ∷ [])
tells_mark es ms ps m x h before mark same =
    let many : length (map event_view es) ≡ length es = length-map es event_view in
    let there : m.before ≡ 0 + length (map event_view es) = omega (arith, before, many) in
    record {
      source = h.source ∙ sym (unmarked-append ps (x ∷ []) ∙ ap (λ l. unmarked ps ++ l) (choice (is_mark x.said) [] (x ∷ []) mark) ∙ append-nil (unmarked ps));
      parts = told_from-mark 0 ms m (map event_view es) there ∙ ap (λ l. l ++ mark_view m ∷ []) h.parts ∙ ap (λ y. ps ++ y ∷ []) same;
      rises = Rises-last 0 ms (length es) m h.rises before;
    }

pub parts_last : (ys : List Noted) (y : Noted) → AreParts (map noted_view (ys ++ y ∷ [])) → AreParts (map noted_view ys) × MayBe y.said y.samples y.instance
parts_last [] y h = (tt, h.0)
parts_last (x ∷ ys) y h = let rest = parts_last ys y h.1 in ((h.0, rest.0), rest.1)

in_order-reverse : (es : List Event) → in_order es ≡ reverse es
in_order-reverse [] = refl
in_order-reverse (e ∷ es) = ap (λ l. l ++ e ∷ []) (in_order-reverse es) ∙ sym (reverse_onto es e [])

-- newest first, turned around again
pub in_order-told : (es : List Noted) → in_order (told es) ≡ map noted_view es
in_order-told es = in_order-reverse (told es) ∙ reverse-reverse (map noted_view es)

pub adds_event : (es : List SourceEvent) (ms : List Mark) (e : SourceEvent) (x : Event) (new : List SourceEvent) → new ≡ es ++ e ∷ []
    → (event_view e ≡ x) × (is_mark x.said ≡ false) → Adds es ms x new ms
adds_event es ms e x new pushed is =
    record { adds = λ ps may told. subst (λ l. TellsParts l ms (ps ++ x ∷ [])) (sym pushed) (tells_event es ms ps e x told is.0 is.1) }

pub adds_mark : (es : List SourceEvent) (ms : List Mark) (m : Mark) (x : Event) (new : List Mark) → new ≡ ms ++ m ∷ [] → m.before ≡ length es → is_mark x.said ≡ true
    → (MayBe x.said x.samples x.instance → mark_view m ≡ x) → Adds es ms x es new
adds_mark es ms m x new pushed before mark same =
    record { adds = λ ps may told. subst (λ l. TellsParts es l (ps ++ x ∷ [])) (sym pushed) (tells_mark es ms ps m x told before mark (same may)) }

pub tells_more : (ys : List Noted) (y : Noted) (es es' : List SourceEvent) (ms ms' : List Mark) → (AreParts (map noted_view ys) → TellsParts es ms (map noted_view ys))
    → Adds es ms (noted_view y) es' ms' → AreParts (map noted_view (ys ++ y ∷ [])) → TellsParts es' ms' (map noted_view (ys ++ y ∷ []))
tells_more ys y es es' ms ms' before step h =
    let l = parts_last ys y h in
    subst (TellsParts es' ms') (sym (map-append noted_view ys (y ∷ []))) (step.adds (map noted_view ys) l.1 (before l.0))
