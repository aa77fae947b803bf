-- Phase 1, the definitions, and phase 2.
use Rattle.std.proofs.Common.{◌∙◌}
use Rattle.std.proofs.lemmas.Result.{IfOk-weaker}
use Rattle.htmd_commonmark_reader.specs.ClosedParts.{parts_of}
use Rattle.htmd_commonmark_reader.specs.References.{references_of}
use Rattle.htmd_commonmark_reader.proofs.ReadingLemmas.{whole-read}
use Rattle.htmd_commonmark_reader.proofs.reading.read_markdown.Goals as goal
use Rattle.htmd_parts.specs.PartViews.{all_parts_of}

pub returns : goal.returns
returns c =
    IfOk-weaker c.block_parts.result _ _
    (λ parts h. whole-read c.args.text.now c.as_str.result.now (references_of c.in_ok-references.references)
    c.in_ok-document.document.definitions.items (parts_of c.in_ok-document.document.closed.items)
    (all_parts_of parts.items) (c.as_str.ensures.value ∙ c.in_ok-whole.ensures) c.in_ok-document.ensures.parts
    c.in_ok-document.ensures.found c.in_ok-references.ensures h)
    c.block_parts.ensures
