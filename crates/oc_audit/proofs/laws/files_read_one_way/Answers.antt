use Rattle.oc_audit.proofs.OneWay.{one_bad_line, no_bad_line}
use Rattle.oc_audit.proofs.laws.files_read_one_way.Goals as goal

pub returns : goal.returns
returns c = λ names sizes bytes. record {
  one_line = one_bad_line names sizes bytes;
  no_line = λ n items nv f. no_bad_line names sizes bytes n items f.words f.file;
}
