-- The tag in three parts.
use Rattle.std.proofs.Common.{◌++◌, ◌∙◌, ap, append_assoc, codes, string_bytes}
use Rattle.htmd_lexical.proofs.Cases.{pushed}
use Rattle.htmd_document.specs.Tags.{escaped_value}
use Rattle.htmd_document.proofs.tags.push_abbreviation.Goals as goal

pub returns : goal.returns
returns c =
    let out = string_bytes c.args.out.now in
    let v = escaped_value c.args.title.now in
    pushed c.push_str-2.result (string_bytes c.push_str-2.new.self)
    (string_bytes c.push_value.new.out ++ codes "\">") (string_bytes c.push_value.new.out) c.push_str-2.ensures.bytes
    (ap (λ l. l ++ codes "\">") (c.in_ok-push_value.ensures ∙ ap (λ l. l ++ v) c.in_ok-push_str.ensures.bytes)
    ∙ append_assoc (out ++ codes "<abbr title=\"") v (codes "\">")
    ∙ append_assoc out (codes "<abbr title=\"") (v ++ codes "\">"))
