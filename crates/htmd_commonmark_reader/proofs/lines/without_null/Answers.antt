-- U+FFFD for each U+0000.
use Rattle.std.proofs.Common.{◌∙◌, ap, sym, lit<, ◌++◌}
use Rattle.std.proofs.lemmas.Str.Pattern.{split_parts}
use Rattle.std.specs.String.{string_bytes}
use Rattle.std.specs.Char.{encode_utf8}
use Rattle.htmd_commonmark_reading.specs.Characters.{replacement_character}
use Rattle.htmd_commonmark_reader.proofs.LinesLemmas.{null_more, no_null, behind_null}
use Rattle.htmd_commonmark_reader.proofs.lines.without_null.Goals as goal

pub loop-part-preserved : goal.loop-part-preserved
loop-part-preserved c =
    let parts = split_parts 0 c.loop-part.rest.now c.split_once.result c.split_once.ensures.cases (lit< tt) in
    let here = rw c.in-Some.is at parts in
    record {
      text = behind_null c.loop-part.rest.now c.in-Some.part.now c.in-Some.after.now c.loop-part.invariant.text here.0;
      reads = null_more (string_bytes c.loop-part.whole) c.in-Some.part.now
          (string_bytes c.push.new.self) c.loop-part.rest.now c.in-Some.after.now c.args.text.now
          c.loop-part.invariant.reads here.0 here.1
          (c.in_ok-push.ensures.bytes
          ∙ ap (λ x. x ++ encode_utf8 replacement_character) c.in_ok-push_str.ensures.bytes);
    }

pub returns : goal.returns
returns c =
    let parts = split_parts 0 c.loop-part.rest.now c.split_once.result c.split_once.ensures.cases (lit< tt) in
    let none = rw c.in_default.is at parts in
    c.in_ok-push_str-2.ensures.bytes
    ∙ ap (λ x. string_bytes c.loop-part.whole ++ x) (sym (no_null c.loop-part.rest.now none))
    ∙ c.loop-part.invariant.reads
