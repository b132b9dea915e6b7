-- A place that moves on in the rows.
use Rattle.std.proofs.Common.{ℕ, ℤ, pos, ◌+◌, ◌≤◌, ◌<◌, ◌≡◌, ◌==◌, ◌&&◌, List, [], ◌∷◌, length, get_or, drop, set, ap, sym, ◌∙◌, refl, arith, true, false, leb, get_or-set_same, get_or-set_other}
use Rattle.std.proofs.lemmas.List.{drop_more}
use Rattle.std.proofs.Math.ListN.{length-set}
use Rattle.std.proofs.lemmas.Bool.Decides.{nat_tests}
use Rattle.std.proofs.lemmas.Bool.{cases_Bool}
use Rattle.std.proofs.Common.{inl, inr, ◌≢◌}
use Rattle.oc_sensors.specs.declared.sensors.Row.{Row}
use Rattle.oc_sensors.specs.History.{shown_after, history}
use Rattle.oc_sensors.specs.Keeping.{Ordered, Keeps}

-- rows after a tick change nothing at it
pub late : (rows : List Row) (value : ℤ) (n t sensor tick : ℕ) → tick < t → Ordered n t rows → shown_after value rows sensor tick ≡ value
late [] value n t sensor tick h o = refl
late (row ∷ rest) value n t sensor tick h o =
    let l : tick < row.time = omega arith in
    let e : ((row.sensor == sensor) && leb row.time tick) ≡ false = grind (arith, nat_tests) in
    rw e (late rest value n row.time sensor tick l o.2)

lower : (n a b : ℕ) (rows : List Row) → a ≤ b → Ordered n b rows → Ordered n a rows
lower n a b [] h o = tt
lower n a b (row ∷ rest) h o = (omega arith, o.1, o.2)

pub first_late : (rows : List Row) (last : List ℤ) (place now : ℕ) (d : Row) → place < length rows → now < (get_or rows place d).time → Keeps rows last place now
    → (sensor : ℕ) → sensor < length last → get_or last sensor (pos 0) ≡ history rows sensor now
first_late rows last place now d h l k sensor s =
    let o = rw (drop_more rows place d h) at k.ordered in
    let row = get_or rows place d in
    let v = get_or last sensor (pos 0) in
    let g : shown_after v (row ∷ drop (place + 1) rows) sensor now ≡ v = late (row ∷ drop (place + 1) rows) v (length last) row.time sensor now l (omega arith, o.1, o.2) in
    sym g ∙ ap (λ (r : List Row). shown_after v r sensor now) (sym (drop_more rows place d h)) ∙ k.leads sensor now s (omega arith)

-- what each sensor shows after a row that counts
shown : (row : Row) (rest : List Row) (last : List ℤ) (value : ℤ) (sensor tick : ℕ) → row.sensor < length last → row.time ≤ tick → value ≡ row.value
    → shown_after (get_or (set last row.sensor value) sensor (pos 0)) rest sensor tick ≡ shown_after (get_or last sensor (pos 0)) (row ∷ rest) sensor tick
shown row rest last value sensor tick b t e =
    ap (λ (v : ℤ). shown_after v rest sensor tick) (elim (cases_Bool (row.sensor == sensor)) [
      | inl same ↦
          let q : row.sensor ≡ sensor = grind (arith, nat_tests) in
          let u : leb row.time tick ≡ true = grind (arith, nat_tests) in
          rw (same, u, ← q, get_or-set_same) e
      | inr other ↦
          let q : sensor ≢ row.sensor = grind (arith, nat_tests) in
          rw (other, get_or-set_other) refl
    ])

pub one_on : (rows : List Row) (last : List ℤ) (place now : ℕ) (d : Row) (value : ℤ) → place < length rows → (get_or rows place d).time ≤ now → value ≡ (get_or rows place d).value
    → Keeps rows last place now → Keeps rows (set last (get_or rows place d).sensor value) (place + 1) now
one_on rows last place now d value h t e k =
    let row = get_or rows place d in
    let rest = drop (place + 1) rows in
    let o = rw (drop_more rows place d h) at k.ordered in
    record {
      leads = λ sensor tick s l.
          let s' : sensor < length last = omega (arith, length-set {A = ℤ}) in
          shown row rest last value sensor tick o.1 (omega arith) e ∙ ap (λ (r : List Row). shown_after (get_or last sensor (pos 0)) r sensor tick) (sym (drop_more rows place d h))
          ∙ k.leads sensor tick s' l;
      ordered = rw length-set (lower (length last) 0 row.time rest (omega arith) o.2);
    }
