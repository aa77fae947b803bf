-- The address stands between the angle brackets.
use Rattle.std.proofs.Common.{rules, codes}
use Rattle.std.specs.String.{string_bytes}
use Rattle.htmd_markdown.proofs.AddressesLemmas.{holds_address}
use Rattle.htmd_markdown.proofs.LinksLemmas.{autolink-parts}
use Rattle.htmd_markdown.proofs.link.write_autolink.Goals as goal

pub returns-clause-text : goal.returns-clause-text
returns-clause-text c = search rules

pub returns-clause-address : goal.returns-clause-address
returns-clause-address c =
    let address = c.args.address.now in
    let text = string_bytes c.push-2.new.self in
    λ none. holds_address (codes "<") address (codes ">") text none
    (autolink-parts c.args.content.now address text (returns-clause-text c))
