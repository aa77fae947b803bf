-- A line feed was stripped, or none ends the content.
use Rattle.std.proofs.Common.{ap, lit<, refl, ◌∙◌}
use Rattle.std.proofs.lemmas.Str.Pattern.{strip_suffix_char}
use Rattle.htmd_lexical.specs.Characters.{line_feed}
use Rattle.htmd_markdown.proofs.CodeBlocksLemmas.{code_of-stripped}
use Rattle.htmd_markdown.proofs.code_block.code_of.Goals as goal

pub returns : goal.returns
returns c =
    ap (λ x. x.now) c.unwrap_or.ensures
    ∙ code_of-stripped c.args.content.now c.strip_suffix.result c.args.content refl
    (strip_suffix_char line_feed c.args.content.now c.strip_suffix.result c.strip_suffix.ensures.cases (lit< tt))
