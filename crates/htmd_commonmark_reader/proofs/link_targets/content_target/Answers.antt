-- By the characters of the key.
use Rattle.std.proofs.Common.{◌∙◌, ap}
use Rattle.htmd_commonmark_reading.specs.Brackets.{target_of}
use Rattle.htmd_commonmark_reading.specs.LinkDefinitions.{label_key}
use Rattle.htmd_commonmark_reader.specs.References.{references_of}
use Rattle.htmd_commonmark_reader.proofs.ReferencesLemmas.{key_chars}
use Rattle.htmd_commonmark_reader.proofs.link_targets.content_target.Goals as goal

pub returns : goal.returns
returns c =
    c.target_of.ensures
    ∙ ap (λ k. target_of (references_of c.args.references.now) k c.args.rest.now)
    (key_chars c.as_str.result.now (label_key c.args.content.now) c.as_str.utf8
    (c.as_str.ensures.value ∙ c.in_ok-key.ensures))
