-- Standard input or a file is shown.
use Rattle.std.proofs.Common.{◌∙◌, ap, sym, subst, inl, inr, List}
use Rattle.std.proofs.lemmas.Slice.Eq.{bytes_eq-Decides}
use Rattle.std.specs.declared.alloc.Global.{Global}
use Rattle.std.specs.declared.string.String.{String}
use Rattle.htmd_cli.specs.Options.{are_known, request_by}
use Rattle.htmd_command.specs.Programs.{ShowsInput}
use Rattle.htmd_command.specs.Streams.{Shows, stream}
use Rattle.htmd_command.proofs.ProgramsLemmas.{at_most_1, shows_by}
use Rattle.htmd_command.proofs.program.show_input.Goals as goal

pub returns-then-eq-clause-shown : goal.returns-then-eq-clause-shown
returns-then-eq-clause-shown g c =
    let options = c.as_slice-options.result.now in
    let output = stream g.W.Sink.contents g.W.Sink.has_failed c.args.sink.now c.command.new.sink in
    let input = g.R.Source.remaining c.args.source.now in
    let value = c.as_slice-options.ensures.value in
    inl (
      (bytes_eq-Decides _ _).0 (sym c.eq.ensures ∙ c.if-eq.true),
      subst (λ (o : List (String Global)). Shows (request_by o) input output c.command.result) value
          (shows_by (request_by options) input output c.command.result c.command.ensures.success
          c.command.ensures.nothing_written c.command.ensures.rows_written),
      at_most_1 (are_known options) c.command.result
          (ap are_known value ∙ c.requires.asked.known) c.command.ensures.unknown c.command.ensures.status,
    )

pub returns-clause-shown : goal.returns-clause-shown
returns-clause-shown g c =
    subst (λ (o : List (String Global)). ShowsInput o (g.S.Store.changes c.args.store.now) c.args.input.now
    (g.R.Source.remaining c.args.source.now)
    (stream g.W.Sink.contents g.W.Sink.has_failed c.args.sink.now c.show_file.new.sink)
    (stream g.E.Sink.contents g.E.Sink.has_failed c.args.errors.now c.show_file.new.errors) c.show_file.result)
    c.as_slice-options.ensures.value (inr c.show_file.ensures.shown)
