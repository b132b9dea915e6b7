use Rattle.std.proofs.Common.{◌≡◌, ◌^◌, ◌<◌, drop}
use Rattle.std.specs.List.{list_all}
use Rattle.std.specs.Char.{is_ascii_digit}
use Rattle.oc_rows.specs.Numbers.{spelled, spelled_after}
use Rattle.oc_rows.proofs.number.read_number.Given as goal

abbrev pub invariant-loop-byte : goal.invariant-loop-byte
invariant-loop-byte l = record {
  small : l.number < 10 ^ l.byte-index;
  spelled : spelled_after l.number (drop l.byte-index l.bytes) ≡ spelled l.bytes;
  digits : list_all is_ascii_digit (drop l.byte-index l.bytes) ≡ list_all is_ascii_digit l.bytes;
}
