-- One name, or none so far.
use Rattle.std.proofs.Common.{◌∙◌, ap, sym}
use Rattle.std.specs.Str.{str_eq_ignore_ascii_case}
use Rattle.htmd_commonmark_reader.proofs.HtmlBlocksLemmas.{name_next, name_found}
use Rattle.htmd_commonmark_reader.proofs.html_blocks.is_named.Goals as goal

pub returns-then-is_same_name : goal.returns-then-is_same_name
returns-then-is_same_name c =
    let test = c.is_same_name.ensures
    ∙ ap (str_eq_ignore_ascii_case c.args.name.now) c.as_bytes.ensures.value in
    sym (name_found c.args.names.now c.args.name.now c.loop-known.known-index c.loop-known-test.true
    c.is_same_name.result test c.if-is_same_name.true)
    ∙ c.loop-known.invariant

pub loop-known-preserved : goal.loop-known-preserved
loop-known-preserved c =
    let test = c.is_same_name.ensures
    ∙ ap (str_eq_ignore_ascii_case c.args.name.now) c.as_bytes.ensures.value in
    sym (name_next c.args.names.now c.args.name.now c.loop-known.known-index c.loop-known-test.true
    c.is_same_name.result test c.if-is_same_name.false)
    ∙ c.loop-known.invariant
