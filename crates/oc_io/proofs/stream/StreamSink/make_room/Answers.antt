use Rattle.std.proofs.Common.{ap, subst}
use Rattle.std.specs.Io.KnownBytes.{Appends}
use Rattle.oc_io.specs.Streams.{unwritten, with_held}
use Rattle.oc_io.proofs.Streams.{held_after, passed_after, none_held, all_taken, front_taken, whole_taken}
use Rattle.oc_io.proofs.stream.StreamSink.make_room.Goals as goal

pub returns-then-hold-clause-part : goal.returns-then-hold-clause-part
returns-then-hold-clause-part g c = all_taken _ _ _ c.args.bytes.now
    (held_after g.W.Write.contents c.args.self.now.to c.write_held.new.self.to c.hold.new.self.to _ _ _ c.args.bytes.now c.write_held.ensures.bytes c.hold.ensures.to
    (c.hold.ensures.held c.if-hold.true))

pub returns-else-hold-clause-whole : goal.returns-else-hold-clause-whole
returns-else-hold-clause-whole g c e =
    subst (Appends (with_held (g.W.Write.contents c.args.self.now.to) c.args.self.now.written c.args.self.now.used c.args.self.now.buffer) _)
    (whole_taken c.write_out.result c.args.bytes.now e)
    (passed_after g.W.Write.contents c.args.self.now.to c.write_held.new.self.to c.hold.new.self.to c.write_out.new.to _ _ _ _ c.write_held.ensures.bytes
    (none_held c.write_held.new.self.written c.write_held.new.self.used c.write_held.new.self.buffer (c.write_held.ensures.empty c.if-write_held.true)) c.hold.ensures.to
    (ap (λ s. unwritten s.written s.used s.buffer) (c.hold.ensures.full c.if-hold.false)) c.write_out.ensures.bytes)

pub returns-else-hold-clause-part : goal.returns-else-hold-clause-part
returns-else-hold-clause-part g c = front_taken _ _ _ c.write_out.result c.args.bytes.now
    (passed_after g.W.Write.contents c.args.self.now.to c.write_held.new.self.to c.hold.new.self.to c.write_out.new.to _ _ _ _ c.write_held.ensures.bytes
    (none_held c.write_held.new.self.written c.write_held.new.self.used c.write_held.new.self.buffer (c.write_held.ensures.empty c.if-write_held.true)) c.hold.ensures.to
    (ap (λ s. unwritten s.written s.used s.buffer) (c.hold.ensures.full c.if-hold.false)) c.write_out.ensures.bytes)
