-- Lines whose breaks have no white space of any kind beside them.
use Rattle.std.specs.Prelude.{Bool, true, not, ◌&&◌}
use Rattle.htmd_document.specs.Documents.{Inline, formatted, link, Inlines, no_inlines, inline}
use Rattle.htmd_law_returning.specs.SettledDocuments.{is_white_at_break}

abbrev mutual
  pub is_bare_inside : Inline → Bool
  is_bare_inside (formatted f content) = has_bare_breaks content
  is_bare_inside (link address title content) = has_bare_breaks content
  is_bare_inside x = true

  -- in formats and links as well
  pub has_bare_breaks : Inlines → Bool
  has_bare_breaks no_inlines = true
  has_bare_breaks (inline x xs) = is_bare_inside x && not (is_white_at_break x xs) && has_bare_breaks xs
