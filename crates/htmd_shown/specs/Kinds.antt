-- Kinds of nodes of the simpler tree, and what is known of them.
use Rattle.std.specs.Prelude.{Bool, true, false, not, ◌&&◌, ◌||◌, Option, Some, None}
use Rattle.htmd_shown.specs.declared.facts.Facts.{Facts}
use Rattle.htmd_shown.specs.declared.role.Role.{Role}
use Rattle.htmd_shown.specs.Roles.{is_void, is_table, is_header_cell}
use Rattle.htmd_shown.specs.SimpleTrees.{Simple, text, anchor, element, Simples, none, more}
use Rattle.htmd_shown.specs.Spaces.{is_blank_text}

-- an element of this kind
abbrev pub has : (Role → Bool) → Simple → Bool
has kind (element id role facts attributes content) = kind role
has kind _ = false

-- an element of whose content this is known
abbrev pub holds : (Facts → Bool) → Simple → Bool
holds known (element id role facts attributes content) = known facts
holds known _ = false

abbrev pub role_in : Simple → Option Role
role_in (element id role facts attributes content) = Some role
role_in _ = None

abbrev pub content_of : Simple → Simples
content_of (element id role facts attributes content) = content
content_of _ = none

-- nothing shows of it
abbrev pub is_blank : Simple → Bool
is_blank (text s) = is_blank_text s
is_blank (anchor id) = true
is_blank (element id role facts attributes content) = not (is_void role) && facts.is_blank
is_blank _ = false

abbrev pub are_blank : Simples → Bool
are_blank none = true
are_blank (more tree trees) = is_blank tree && are_blank trees

-- ---- what is among nodes

-- a table, or an element with one in it
abbrev pub has_table : Simple → Bool
has_table tree = has is_table tree || holds (λ f. f.holds_table) tree

abbrev pub have_table : Simples → Bool
have_table none = false
have_table (more tree trees) = has_table tree || have_table trees

-- a header cell, or an element with one in it
abbrev pub has_header : Simple → Bool
has_header tree = has is_header_cell tree || holds (λ f. f.holds_header) tree

abbrev pub have_header : Simples → Bool
have_header none = false
have_header (more tree trees) = has_header tree || have_header trees
