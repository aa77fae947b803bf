-- One more line, and the last one.
use Rattle.std.proofs.Common.{◌∙◌, ◌∷◌, ◌++◌, [], ap, sym, lit<}
use Rattle.std.proofs.lemmas.Str.Pattern.{split_parts}
use Rattle.std.specs.String.{string_bytes}
use Rattle.htmd_commonmark_reader.proofs.BeginningsLemmas.{behind_sign}
use Rattle.htmd_commonmark_reader.proofs.InlineTokensLemmas.{line_more, one_line_same}
use Rattle.htmd_commonmark_reader.proofs.inline_tokens.in_one_line.Goals as goal

pub loop-before-preserved : goal.loop-before-preserved
unfolding lib.Utf8.encode
loop-before-preserved c =
    let parts = split_parts 10 c.loop-before.rest.now c.split_once.result c.split_once.ensures.cases (lit< tt) in
    let here = rw c.in-Some.is at parts in
    record {
      text = behind_sign 10 c.loop-before.rest.now c.in-Some.before.now c.in-Some.after.now (lit< tt)
          c.loop-before.invariant.text here.0;
      reads = line_more (string_bytes c.loop-before.line) c.in-Some.before.now (string_bytes c.push.new.self)
          c.loop-before.rest.now c.in-Some.after.now c.args.text.now c.loop-before.invariant.reads here.0 here.1
          (c.in_ok-push.ensures.bytes ∙ ap (λ x. x ++ (32 ∷ [])) c.in_ok-push_str.ensures.bytes);
    }

pub returns : goal.returns
returns c =
    let parts = split_parts 10 c.loop-before.rest.now c.split_once.result c.split_once.ensures.cases (lit< tt) in
    let none = rw c.in_default.is at parts in
    c.in_ok-push_str-2.ensures.bytes
    ∙ ap (λ x. string_bytes c.loop-before.line ++ x) (sym (one_line_same c.loop-before.rest.now none))
    ∙ c.loop-before.invariant.reads
