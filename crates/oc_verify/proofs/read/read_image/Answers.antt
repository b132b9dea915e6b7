use Rattle.std.proofs.Common.{◌≡◌, ℕ, Result, Ok, Err, arith, sym, ◌∙◌}
use Rattle.oc_isa.specs.Image.{Parts, parts_of}
use Rattle.oc_verify.specs.Reading.{read_at}
use Rattle.oc_verify.proofs.WholeLaws.{read_is, read_back, fault_inside}
use Rattle.oc_verify.proofs.read.read_image.Goals as goal

one_image : (r : Result Parts ℕ) (i j : Parts) → r ≡ Ok i → r ≡ Ok j → i ≡ j
one_image r i j a b = let e : Ok i ≡ Ok j = sym a ∙ b in (cc)

pub returns-in-Ok : goal.returns-in-Ok
returns-in-Ok c = record {
  found = read_is c.args.bytes.now (λ k. (c.type_inv.bytes k).fits) (parts_of c.in-Ok.image) c.in-Ok.ensures;
  only = λ i h. one_image (read_at c.args.bytes.now) (parts_of c.in-Ok.image) i c.in-Ok.ensures (read_back c.args.bytes.now i h);
  fault = tt;
}

pub overflow_sub-result : goal.overflow_sub-result
overflow_sub-result c =
    let e = rw c.in-Err-Bad.field-0-is at c.in-Err-Bad.ensures in
    fault_inside c.args.bytes.now (λ k. (c.type_inv.bytes k).fits) c.in-Err-Bad.left e

no_image : (r : Result Parts ℕ) (i : Parts) (left : ℕ) → r ≡ Ok i → r ≡ Err left → ⊥
no_image r i left a b = let e : Ok i ≡ Err left = sym a ∙ b in absurd (cc)

pub returns-in-Err-Bad-clause-only : goal.returns-in-Err-Bad-clause-only
returns-in-Err-Bad-clause-only c = λ i h.
    let e = rw c.in-Err-Bad.field-0-is at c.in-Err-Bad.ensures in
    absurd (no_image (read_at c.args.bytes.now) i c.in-Err-Bad.left (read_back c.args.bytes.now i h) e)

pub returns-in-Err-Bad-clause-fault : goal.returns-in-Err-Bad-clause-fault
returns-in-Err-Bad-clause-fault c =
    let e = rw c.in-Err-Bad.field-0-is at c.in-Err-Bad.ensures in
    let l = fault_inside c.args.bytes.now (λ k. (c.type_inv.bytes k).fits) c.in-Err-Bad.left e in
    (c.in-Err-Bad.left, e, omega (arith, l))
