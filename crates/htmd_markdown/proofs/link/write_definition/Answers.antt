-- The address stands between the label and the title.
use Rattle.std.proofs.Common.{rules}
use Rattle.std.specs.Option.{option_copied}
use Rattle.std.specs.String.{string_bytes}
use Rattle.htmd_markdown.specs.Links.{definition_start}
use Rattle.htmd_markdown.specs.Titles.{title_text}
use Rattle.htmd_markdown.proofs.AddressesLemmas.{holds_address}
use Rattle.htmd_markdown.proofs.link.write_definition.Goals as goal

pub returns-clause-text : goal.returns-clause-text
returns-clause-text c = search rules

pub returns-clause-address : goal.returns-clause-address
returns-clause-address c =
    let start = definition_start c.args.style c.args.number c.args.content.now in
    λ none. holds_address start c.args.address.now (title_text (option_copied c.args.title))
    (string_bytes c.push_title.new.out) none (returns-clause-text c)
