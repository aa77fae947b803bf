-- One part more was taken and written.
use Rattle.std.proofs.Common.{subst, take, OnOk, Result}
use Rattle.std.specs.Io.KnownBytes.{Appends}
use Rattle.htmd_streams.specs.declared.failed.Failed.{Failed}
use Rattle.htmd_folders.proofs.CopiesLemmas.{copying_more}
use Rattle.htmd_folders.proofs.copies.copy.Goals as goal

pub loop-preserved : goal.loop-preserved
loop-preserved g c =
    let contents = g.W.Sink.contents in
    let remaining = g.R.Source.remaining in
    let part = take c.in-Ok.count c.read.new.buffer in
    let P : Result (Unit {0}) Failed → Type 0 =
    λ r. OnOk r (Appends (contents c.loop.sink) (contents c.write_all.new.sink) part) in
    copying_more (remaining c.args.source.now) (remaining c.loop.source) (remaining c.read.new.self)
    (contents c.args.sink.now) (contents c.loop.sink) (contents c.write_all.new.sink) part c.loop.invariant
    c.in-Ok.ensures.bytes.0 (subst P c.in_ok-written.ensures c.write_all.ensures.bytes)
