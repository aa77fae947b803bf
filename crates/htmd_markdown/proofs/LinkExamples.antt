-- Worked rows of links and images. Each holds by computing.
use Rattle.std.proofs.Common.{◌≡◌, refl, codes, Some, None}
use Rattle.std.specs.Fmt.{digits}
use Rattle.htmd_markdown.specs.declared.link.LinkReferenceStyle.TheVariants.{Full, Collapsed}
use Rattle.htmd_markdown.specs.Titles.{tidied_text}
use Rattle.htmd_markdown.specs.Links.{image, inline_link, autolink, reference, definition}

pub lines_of_a_title : tidied_text (codes " say\n\n \"hi\" ") ≡ codes "say\n\\\"hi\\\""
lines_of_a_title = refl

pub described : image (codes "a b.png") (Some (codes "d")) (Some (codes "t")) ≡ codes "![d](<a b.png> \"t\")"
described = refl

pub parentheses : inline_link (codes " t ") (codes "/a(b)") None ≡ codes "[t](/a\\(b\\)) "
parentheses = refl

pub escaped_autolink : autolink (codes "a\\\\(b") (codes "a\\(b") ≡ Some (codes "<a\\\\(b>")
escaped_autolink = refl

pub no_autolink : autolink (codes "/a\\_b") (codes "/a_b") ≡ None
no_autolink = refl

pub numbered : reference Full 12 (codes "t") ≡ codes "[t][12]"
unfolding digits
numbered = refl

pub collapsed : definition Collapsed 1 (codes "A") (codes "/a b") None ≡ codes "[A]: /a b"
collapsed = refl
