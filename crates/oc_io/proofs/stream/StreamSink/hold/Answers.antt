use Rattle.std.proofs.Common.{rules, ℕ, List, ◌++◌, take, ap, ◌∙◌}
use Rattle.std.proofs.lemmas.Slice.{take-put_mid}
use Rattle.oc_io.proofs.Streams.{more_held}
use Rattle.oc_io.proofs.stream.StreamSink.hold.Goals as goal

pub returns-clause-held : goal.returns-clause-held
returns-clause-held g c e = more_held c.args.self.now.written c.args.self.now.used c.args.self.now.buffer _ c.args.bytes.now c.args.self.now.within (search rules)
    (take-put_mid c.args.self.now.used _ c.args.self.now.buffer _ _ (search rules) (search rules)
    ∙ ap (λ (ys : List ℕ). take c.args.self.now.used c.args.self.now.buffer ++ ys) c.copy_from_slice.ensures.after)
