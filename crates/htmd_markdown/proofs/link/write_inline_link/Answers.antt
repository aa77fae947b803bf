-- The address stands between its start and its end.
use Rattle.std.proofs.Common.{rules, ◌∙◌}
use Rattle.std.specs.Option.{option_copied}
use Rattle.std.specs.String.{string_bytes}
use Rattle.htmd_markdown.specs.Links.{inline_link_start, inline_link_end}
use Rattle.htmd_markdown.proofs.AddressesLemmas.{holds_address}
use Rattle.htmd_markdown.proofs.LinksLemmas.{inline_link-parts}
use Rattle.htmd_markdown.proofs.link.write_inline_link.Goals as goal

pub returns-clause-text : goal.returns-clause-text
returns-clause-text c = search rules

pub returns-clause-address : goal.returns-clause-address
returns-clause-address c =
    let content = c.args.content.now in
    let address = c.args.address.now in
    let title = option_copied c.args.title in
    λ none. holds_address (inline_link_start content address) address (inline_link_end content address title)
    (string_bytes c.push_str.new.self) none (returns-clause-text c ∙ inline_link-parts content address title)
