-- A read that goes on, the end, and each fault.
use Rattle.std.proofs.Common.{◌≡◌, ◌∙◌, ◌+◌, ap, subst, length, take, arith}
use Rattle.std.specs.Io.KnownBytes.{IsAtEnd}
use Rattle.htmd.specs.Characters.{line_feed}
use Rattle.htmd_cli.specs.Batches.{Answers, followed, rows_from, rows_left}
use Rattle.htmd.specs.PageConverters.{settings_of}
use Rattle.htmd_streams.specs.Lines.{lacks}
use Rattle.htmd_cli.specs.Rows.{counted}
use Rattle.htmd_cli.proofs.BatchesLemmas.{Progress-step, Progress-kept, batch_rests, batch_breaks, batch_ends}
use Rattle.htmd_cli.proofs.BatchesLemmas.{batch_stops, some_rest, none_read}
use Rattle.htmd_cli.proofs.rows.answer_all.Goals as goal

pub returns-in_default-clause-stops : goal.returns-in_default-clause-stops
returns-in_default-clause-stops g c =
    let settings = settings_of c.args.converter.now in
    let source = g.R.Source.remaining c.args.source.now in
    let sink = g.W.Sink.contents c.args.sink.now in
    λ _. batch_rests settings source (g.R.Source.remaining c.loop.source) sink (g.W.Sink.contents c.loop.sink)
    c.loop.batch.begun.items c.loop.batch.answered c.fault.result.row c.loop.invariant.progress c.fault.ensures.row

pub returns-clause-stops : goal.returns-clause-stops
returns-clause-stops g c =
    let settings = settings_of c.args.converter.now in
    let source = g.R.Source.remaining c.args.source.now in
    let sink = g.W.Sink.contents c.args.sink.now in
    λ _. batch_rests settings source (g.R.Source.remaining c.loop.source) sink (g.W.Sink.contents c.loop.sink)
    c.loop.batch.begun.items c.loop.batch.answered c.fault-2.result.row c.loop.invariant.progress c.fault-2.ensures.row

pub returns-in-Err-clause-write : goal.returns-in-Err-clause-write
returns-in-Err-clause-write g c =
    let settings = settings_of c.args.converter.now in
    let source = g.R.Source.remaining c.args.source.now in
    let sink = g.W.Sink.contents c.args.sink.now in
    let was = c.loop.batch in
    let new = c.take_read-outcome.new.self in
    let buffer = c.read.new.buffer in
    let chunk = take c.in-Ok.count buffer in
    let now = g.R.Source.remaining c.read.new.self in
    let ends : length chunk ≡ 0 → IsAtEnd now =
    none_read c.in-Ok.count buffer now (omega (arith, c.in-Ok.ensures.bound)) (omega arith) c.in-Ok.ensures.bytes.1 in
    λ _. batch_breaks settings source (g.R.Source.remaining c.loop.source) now sink (g.W.Sink.contents c.loop.sink)
    (g.W.Sink.contents c.hand_on.new.sink) was.begun.items chunk was.answers.items new.answers.items was.answered
    new.answered c.write_fault.result.row c.loop.invariant.progress c.in-Ok.ensures.bytes.0 c.loop.invariant.waits
    (some_rest settings (λ tail. rows_from was.begun.items (followed chunk tail))
    (λ goes_on. rows_left goes_on new.begun.items) was.answers.items new.answers.items was.answered new.answered
    c.take_read-outcome.result c.take_read-outcome.ensures.ok c.take_read-outcome.ensures.err)
    ends c.in-Err.ensures.part (c.write_fault.ensures.row ∙ ap counted c.hand_on.ensures.answered)

pub returns-in-Ok-false-clause-ok : goal.returns-in-Ok-false-clause-ok
returns-in-Ok-false-clause-ok g c =
    let settings = settings_of c.args.converter.now in
    let source = g.R.Source.remaining c.args.source.now in
    let sink = g.W.Sink.contents c.args.sink.now in
    let was = c.loop.batch in
    let new = c.take_read-outcome.new.self in
    let buffer = c.read.new.buffer in
    let chunk = take c.in-Ok.count buffer in
    let now = g.R.Source.remaining c.read.new.self in
    let ends : length chunk ≡ 0 → IsAtEnd now =
    none_read c.in-Ok.count buffer now (omega (arith, c.in-Ok.ensures.bound)) (omega arith) c.in-Ok.ensures.bytes.1 in
    batch_ends settings source (g.R.Source.remaining c.loop.source) now sink (g.W.Sink.contents c.loop.sink)
    (g.W.Sink.contents c.hand_on.new.sink) was.begun.items chunk was.answers.items new.answers.items was.answered
    new.answered new.begun.items c.loop.invariant.progress c.in-Ok.ensures.bytes.0 c.loop.invariant.waits
    (subst (λ goes_on. Answers settings (λ tail. rows_from was.begun.items (followed chunk tail))
    (rows_left goes_on new.begun.items) was.answers.items new.answers.items was.answered new.answered)
    c.in-Ok-false.field-0-test c.in-Ok-false.ensures.ok)
    ends c.in-Ok-hand_on.ensures.bytes

pub returns-in-Err-outcome-clause-stops : goal.returns-in-Err-outcome-clause-stops
returns-in-Err-outcome-clause-stops g c =
    let settings = settings_of c.args.converter.now in
    let source = g.R.Source.remaining c.args.source.now in
    let sink = g.W.Sink.contents c.args.sink.now in
    let was = c.loop.batch in
    let new = c.take_read-outcome.new.self in
    let buffer = c.read.new.buffer in
    let chunk = take c.in-Ok.count buffer in
    let now = g.R.Source.remaining c.read.new.self in
    let ends : length chunk ≡ 0 → IsAtEnd now =
    none_read c.in-Ok.count buffer now (omega (arith, c.in-Ok.ensures.bound)) (omega arith) c.in-Ok.ensures.bytes.1 in
    λ _. batch_stops settings source (g.R.Source.remaining c.loop.source) now sink (g.W.Sink.contents c.loop.sink)
    (g.W.Sink.contents c.hand_on.new.sink) was.begun.items chunk was.answers.items new.answers.items was.answered
    new.answered c.fault-in-Err-outcome.result.row c.loop.invariant.progress c.in-Ok.ensures.bytes.0
    c.loop.invariant.waits c.in-Err-outcome.ensures.err ends c.in-Ok-hand_on.ensures.bytes
    (c.fault-in-Err-outcome.ensures.row ∙ ap (λ k. counted (k + 1)) c.hand_on.ensures.answered)

pub loop-preserved : goal.loop-preserved
loop-preserved g c =
    let settings = settings_of c.args.converter.now in
    let source = g.R.Source.remaining c.args.source.now in
    let sink = g.W.Sink.contents c.args.sink.now in
    let was = c.loop.batch in
    let new = c.take_read-outcome.new.self in
    let chunk = take c.in-Ok.count c.read.new.buffer in
    let now = g.R.Source.remaining c.read.new.self in
    let full = g.W.Sink.contents c.hand_on.new.sink in
    record {
      unread = c.in-Ok.ensures.failure ∙ c.loop.invariant.unread;
      unwritten = c.in-Ok-hand_on.ensures.failure ∙ c.loop.invariant.unwritten;
      waits = c.in-Ok-hand_on.ensures.empty;
      begun = ap (lacks line_feed) c.hand_on.ensures.begun ∙ c.in-Ok-true.ensures.begun c.in-Ok-true.field-0-test;
      progress = Progress-kept settings source now sink full new.begun.items c.hand_on.new.self.begun.items new.answered
          c.hand_on.new.self.answered c.hand_on.ensures.begun c.hand_on.ensures.answered
          (Progress-step settings source (g.R.Source.remaining c.loop.source) now sink (g.W.Sink.contents c.loop.sink)
          full was.begun.items chunk was.answers.items new.answers.items was.answered new.answered new.begun.items
          c.loop.invariant.progress c.in-Ok.ensures.bytes.0 c.loop.invariant.waits
          (subst (λ goes_on. Answers settings (λ tail. rows_from was.begun.items (followed chunk tail))
          (rows_left goes_on new.begun.items) was.answers.items new.answers.items was.answered new.answered)
          c.in-Ok-true.field-0-test c.in-Ok-true.ensures.ok)
          (c.in-Ok-true.ensures.end c.in-Ok-true.field-0-test) c.in-Ok-hand_on.ensures.bytes);
    }
