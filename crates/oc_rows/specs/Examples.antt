-- Numbers and rows of files, by examples.
use Rattle.std.specs.Prelude.{◌≡◌, refl, [], ◌∷◌, Some, None, codes}
use Rattle.csv.specs.Reading.{records_from, strip_bom}
use Rattle.csv.specs.Machine.{next_record}
use Rattle.oc_rows.specs.Numbers.{number_of}
use Rattle.oc_rows.specs.Rows.{file_rows}

pub number_of_example : number_of (codes "0127") ≡ Some 127
number_of_example = refl

pub number_of_example_sign : number_of (codes "+1") ≡ None
number_of_example_sign = refl

-- 2 ^ 63
pub number_of_example_large : number_of (codes "9223372036854775808") ≡ None
number_of_example_large = refl

pub file_rows_example :
    file_rows (codes "on,off\n40,6\n")
    ≡ (codes "on" ∷ codes "off" ∷ []) ∷ (codes "40" ∷ codes "6" ∷ []) ∷ []
unfolding records_from strip_bom next_record
file_rows_example = refl
