-- A plain text is appended as it is.
use Rattle.std.proofs.Common.{◌≡◌, ◌++◌, ap, subst, sym, string_bytes}
use Rattle.htmd_lexical.proofs.Cases.{pushed}
use Rattle.htmd_commonmark.specs.TextEscapes.{escaped}
use Rattle.htmd_commonmark.proofs.text_escape.push_escaped.Goals as goal

pub returns-then-is_plain : goal.returns-then-is_plain
returns-then-is_plain c =
    let s = c.args.text.now in
    let out = string_bytes c.args.out.now in
    let stays : escaped c.args.place.now s ≡ s =
    subst (λ t. escaped c.args.place.now t ≡ t) c.as_bytes.ensures.value (c.is_plain.ensures c.if-is_plain.true) in
    pushed c.push_str.result (string_bytes c.push_str.new.self) (out ++ s) out c.push_str.ensures.bytes
    (ap (λ l. out ++ l) (sym stays))
