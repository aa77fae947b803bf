-- What the reference stands for, and what it leaves.
use Rattle.std.proofs.Common.{◌∙◌, ap}
use Rattle.std.specs.String.{string_bytes}
use Rattle.htmd_html5_tokens.specs.References.{after_ampersand}
use Rattle.htmd_html5_tokens.specs.ReferenceViews.{characters_of}
use Rattle.htmd_html5_tokens.proofs.ContentsLemmas.{reference_pushed}
use Rattle.htmd_html5_tokens.proofs.contents.push_reference.Goals as goal

pub returns-clause-pushed : goal.returns-clause-pushed
returns-clause-pushed c =
    reference_pushed c.args.reading (string_bytes c.args.held.now) c.args.after.now
    (string_bytes c.push_characters.new.held) c.range_from.result.now
    (characters_of c.read_reference-reference.result.characters) c.read_reference-reference.result.following c.requires
    (c.read_reference-reference.ensures.piece ∙ ap (λ b. after_ampersand b c.args.after.now) c.is_value.ensures)
    c.in_ok-push_characters.ensures c.range_from.ensures.value
