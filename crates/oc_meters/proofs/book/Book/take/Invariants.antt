use Rattle.std.proofs.Common.{◌≡◌, drop}
use Rattle.oc_tree.specs.Names.{NameLists, names_view}
use Rattle.oc_meters.specs.Reads.{Page, page, TakesBytes}
use Rattle.oc_meters.proofs.book.Book.take.Given as goal

abbrev pub invariant-loop-byte : goal.invariant-loop-byte
invariant-loop-byte g l =
    let now : Page = page g.M.Meter.kind_of g.M.Meter.numbers l.self.line.bytes l.self.meters.items in
    let old : Page = page g.M.Meter.kind_of g.M.Meter.numbers l.fn.self.line.bytes l.fn.self.meters.items in
    let under : NameLists = names_view l.fn.self.names in
    record {
      names : l.self.names ≡ l.fn.self.names;
      nothing : l.byte-index ≡ 0 → l.self ≡ l.fn.self;
      taken : (end : Page) → TakesBytes under now (drop l.byte-index l.bytes) end → TakesBytes under old l.fn.bytes end;
    }
