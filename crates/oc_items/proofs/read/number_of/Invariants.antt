use Rattle.std.proofs.Common.{◌≡◌, drop}
use Rattle.std.specs.Str.{all_ascii_digits}
use Rattle.oc_items.specs.Reading.{spelled_from}
use Rattle.oc_items.proofs.read.number_of.Given as goal

abbrev pub invariant-loop-byte : goal.invariant-loop-byte
invariant-loop-byte l = record {
  digits : all_ascii_digits (drop l.byte-index l.bytes) ≡ all_ascii_digits l.bytes;
  spelled : spelled_from l.number (drop l.byte-index l.bytes) ≡ spelled_from 0 l.bytes;
}
