-- Rules of images, and fields of their files, by examples.
use Rattle.std.specs.Prelude.{◌≡◌, refl, true, false, [], ◌∷◌, Ok, Err}
use Rattle.oc_isa.specs.declared.instr.BinOp.TheVariants.{Add}
use Rattle.oc_isa.specs.declared.instr.Instr.TheVariants.{Bin, Commit, Halt}
use Rattle.oc_isa.specs.Worked.{fresh_image}
use Rattle.oc_verify.specs.declared.kind.Kind.TheVariants.{Number}
use Rattle.oc_verify.specs.Typing.{pair}
use Rattle.oc_verify.specs.Reading.{number_at}
use Rattle.oc_verify.specs.Rules.{laid_out, names_exist, judge}

pub laid_out_example : laid_out fresh_image ≡ true
laid_out_example = refl

-- it has one region
pub names_exist_example : names_exist fresh_image 0 (Commit 2) ≡ false
names_exist_example = refl

pub judge_example :
    judge fresh_image [] (Bin Add) (Number ∷ Number ∷ []) [] ≡ Ok (pair (Number ∷ []) [])
judge_example = refl

-- rule 4: there is one number only
pub judge_example_one : judge fresh_image [] (Bin Add) (Number ∷ []) [] ≡ Err 4
judge_example_one = refl

-- rule 9: another region is open
pub judge_example_commit : judge fresh_image [] (Commit 2) [] (1 ∷ []) ≡ Err 9
judge_example_commit = refl

-- rule 8: a region is open
pub judge_example_halt : judge fresh_image [] Halt [] (1 ∷ []) ≡ Err 8
judge_example_halt = refl

-- a number of at most 64, and then a byte
pub number_at_example : number_at 0 64 (64 ∷ 0 ∷ 0 ∷ 0 ∷ 7 ∷ []) ≡ Ok (64, 7 ∷ [])
unfolding number_at
number_at_example = refl

-- a greater one is bad, where 5 bytes are left
pub number_at_example_greater : number_at 0 64 (65 ∷ 0 ∷ 0 ∷ 0 ∷ 7 ∷ []) ≡ Err 5
unfolding number_at
number_at_example_greater = refl
