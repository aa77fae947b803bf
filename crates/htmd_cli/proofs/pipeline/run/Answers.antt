-- What holds of all that was read holds of the input.
use Rattle.std.proofs.Common.{true}
use Rattle.std.specs.Str.{IsUtf8}
use Rattle.htmd.specs.Conversions.{IsRefused}
use Rattle.htmd_cli.specs.ModeRuns.{HasMarkdown, WritesMarkdown}
use Rattle.htmd_cli.proofs.ModeRunsLemmas.{of_whole, ok_of_whole, order_of_whole}
use Rattle.htmd_cli.proofs.pipeline.run.Goals as goal

pub returns-clause-ok : goal.returns-clause-ok
returns-clause-ok g c =
    ok_of_whole (g.R.Source.remaining c.args.source.now) (g.R.Source.remaining c.read_all.new.source)
    c.in_ok-input.input.items c.as_slice.result.now c.in_ok-input.ensures.bytes c.in_ok-input.ensures.end
    c.as_slice.ensures.value c.write_markdown.result
    (WritesMarkdown c.args.mode.text c.args.mode.faithful (g.W.Sink.contents c.args.sink.now)
    (g.W.Sink.contents c.write_markdown.new.sink)) c.write_markdown.ensures.ok

pub returns-clause-refused : goal.returns-clause-refused
returns-clause-refused g c =
    λ place kind e. (
      c.in_ok-input.ensures.end,
      of_whole (g.R.Source.remaining c.args.source.now) (g.R.Source.remaining c.read_all.new.source)
          c.in_ok-input.input.items c.as_slice.result.now c.in_ok-input.ensures.bytes c.in_ok-input.ensures.end
          c.as_slice.ensures.value (λ input. IsUtf8 input × IsRefused true input place kind)
          (c.write_markdown.ensures.refused place kind e),
    )

pub returns-clause-write : goal.returns-clause-write
returns-clause-write g c =
    λ e. (
      c.in_ok-input.ensures.end,
      of_whole (g.R.Source.remaining c.args.source.now) (g.R.Source.remaining c.read_all.new.source)
          c.in_ok-input.input.items c.as_slice.result.now c.in_ok-input.ensures.bytes c.in_ok-input.ensures.end
          c.as_slice.ensures.value (HasMarkdown c.args.mode.text c.args.mode.faithful)
          (c.write_markdown.ensures.write e),
    )

pub returns-clause-order : goal.returns-clause-order
returns-clause-order g c =
    order_of_whole (g.R.Source.remaining c.args.source.now) (g.R.Source.remaining c.read_all.new.source)
    c.in_ok-input.input.items c.as_slice.result.now c.in_ok-input.ensures.bytes c.in_ok-input.ensures.end
    c.as_slice.ensures.value c.write_markdown.result c.write_markdown.ensures.not_utf8.1
