-- What the walk over a page is given and gives, as the source keeps it.
use Rattle.std.specs.Prelude.{◌≡◌, ℕ, Bool, List, map, Option, Some, None, if◌then◌else◌, codes}
use Rattle.std.specs.Str.{bytes_eq}
use Rattle.std.specs.Borrow.{Bor}
use Rattle.std.specs.Option.{option_map}
use Rattle.htmd_lexical.specs.AttributePairs.{AttributePair}
use Rattle.htmd_lexical.specs.Attributes.{pairs_of}
use Rattle.htmd_lexical.specs.declared.attribute.Attribute.{Attribute}
use Rattle.htmd_shown.specs.declared.sight.Sight as code
use Rattle.htmd_shown.specs.declared.sight.Around as around
use Rattle.htmd_shown.specs.declared.sight.Seen.{Seen}
use Rattle.htmd_shown.specs.declared.sight.Content.{Content}
use Rattle.htmd_shown.specs.Belows.{below_of, below_among}
use Rattle.htmd_nodes.specs.NumberedTrees.{NumberedTree}
use Rattle.htmd_nodes.specs.NumberedTrees as page
use Rattle.htmd_shown.specs.Images.{picture_source}
use Rattle.htmd_shown.specs.Repeats.{is_repeat}
use Rattle.htmd_shown.specs.Shown.{Sight, Surroundings, inside, is_emptied, marked, raised, raised_by, by_content}
use Rattle.htmd_shown.specs.Shown.{formats_after, raised_one}
use Rattle.htmd_document.specs.declared.document.InlineElement.{InlineElement}
use Rattle.htmd_shown.specs.Shown.{shown, shown_all, source_for}
use Rattle.htmd_shown.specs.SimpleViews.{simple_of, simples_of}
use Rattle.htmd_shown.specs.SimpleTrees.{Simple, Simples, none, more}

abbrev pub sight_with : Bool → List (Bor (List ℕ)) → Bool → Sight
sight_with scripting skip is_rich = record {
  scripting = scripting;
  skip = map (λ name. name.now) skip;
  is_rich = is_rich;
}

abbrev pub sight_of : code.Sight → Sight
sight_of sight = sight_with sight.scripting sight.skip.now sight.is_rich

abbrev pub around_of : around.Around → Surroundings
around_of a = record { in_head = a.in_head; in_pre = a.in_pre; in_numbered_row = a.in_numbered_row }

-- the attributes of the last element
abbrev pub attributes_of : Option (Bor (List Attribute)) → Option (List AttributePair)
attributes_of found = option_map (λ attrs. pairs_of attrs.now) found

abbrev pub node_of : Seen → Simple
node_of seen = simple_of seen.node

abbrev pub nodes_of : Content → Simples
nodes_of content = simples_of content.nodes.items

-- what is known of the node is what is so
abbrev pub IsSummed : Seen → Type 0
IsSummed seen = seen.below ≡ below_of (node_of seen)

abbrev pub AreSummed : Content → Type 0
AreSummed content = content.below ≡ below_among (nodes_of content)

-- ---- what is shown, by parts of the definition

abbrev pub content_shown : Sight → Surroundings → NumberedTree → Simples
content_shown sight around (page.element id name attributes children) =
    if is_emptied around name attributes then none
    else marked (bytes_eq name (codes "q")) (raised (raised_by name) id
    (shown_all sight (inside name children around) (picture_source name children) None children))
content_shown sight around _ = none

-- of an element that isn't skipped and is no formula
abbrev pub other_shown : Sight → Surroundings → Option (List ℕ) → NumberedTree → Option Simple
other_shown sight around source (page.element id name attributes children) =
    by_content sight.is_rich around source id name attributes children
    (content_shown sight around (page.element id name attributes children))
other_shown sight around source _ = None

-- of a node after others
abbrev pub next_shown : Sight → Surroundings → Option (List ℕ) → Option (List AttributePair) → NumberedTree
    → Bool
    → Option Simple
next_shown sight around source before tree follows =
    if is_repeat before tree follows then None else shown sight around (source_for source tree) tree

-- ---- a node in a format, if one shows

abbrev pub formats_past : List (Option InlineElement) → Option Simple → List (Option InlineElement)
formats_past formats None = formats
formats_past formats (Some tree) = formats_after formats tree

abbrev pub raised_next : Option InlineElement → ℕ → Option Simple → Simples
raised_next format id None = none
raised_next format id (Some tree) = more (raised_one format id tree) none
