-- The address stands between its start and its end.
use Rattle.std.proofs.Common.{rules, ◌∙◌}
use Rattle.std.specs.Option.{option_copied}
use Rattle.std.specs.String.{string_bytes}
use Rattle.htmd_markdown.specs.Links.{image_start, resource_end}
use Rattle.htmd_markdown.proofs.AddressesLemmas.{holds_address}
use Rattle.htmd_markdown.proofs.LinksLemmas.{image-parts}
use Rattle.htmd_markdown.proofs.link.write_image.Goals as goal

pub returns-clause-text : goal.returns-clause-text
returns-clause-text c = search rules

pub returns-clause-address : goal.returns-clause-address
returns-clause-address c =
    let address = c.args.address.now in
    let alt = option_copied c.args.alt in
    let title = option_copied c.args.title in
    λ none. holds_address (image_start address alt) address (resource_end address title)
    (string_bytes c.push_image.new.out) none (returns-clause-text c ∙ image-parts address alt title)
