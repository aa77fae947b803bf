-- What becomes of nodes, as the source keeps it.
use Rattle.std.specs.Prelude.{ℕ, Bool, true, false, if◌then◌else◌, List, Option, Some, None, codes}
use Rattle.std.specs.Option.{option_copied}
use Rattle.std.specs.List.{list_all}
use Rattle.std.specs.Str.{bytes_eq, chars}
use Rattle.htmd_lexical.specs.AttributePairs.{AttributePair}
use Rattle.htmd_values.specs.ValueTrees.{ValueTree, doctype, text, comment, ValueForest}
use Rattle.htmd_nodes.specs.Items.{Data, document_node, doctype_node, text_node, comment_node, element_node}
use Rattle.htmd_nodes.specs.NumberedTrees.{NumberedForest}
use Rattle.htmd_shown.specs.Images.{picture_source}
use Rattle.htmd_shown.specs.Spaces.{is_blank_text}
use Rattle.htmd_trimming.specs.declared.asked.Asked.{Asked}
use Rattle.htmd_trimming.specs.declared.fates.Fate.{Fate}
use Rattle.htmd_trimming.specs.declared.fates.Fate.TheVariants as fates
use Rattle.htmd_trimming.specs.Fates.{gone, said, kept, fate_for, is_sign_or_blank, sign_attributes, without}
use Rattle.htmd_trimming.specs.Fates as spec
use Rattle.htmd_trimming.specs.Trimming.{over}

-- the fate of an element with these attributes
abbrev pub fate_of : List AttributePair → Fate → spec.Fate
fate_of attributes fates.Gone = gone
fate_of attributes (fates.Text s) = said s.now
fate_of attributes (fates.Kept lost) = kept (without (option_copied lost) attributes)
fate_of attributes fates.Sign = kept (sign_attributes attributes)

-- what is left of a node with these children, over what is left of them
abbrev pub node_over : Asked → Option (List ℕ) → Data → NumberedForest → ValueForest → Option ValueTree
node_over asked source document_node children inner = None
node_over asked source doctype_node children inner = Some doctype
node_over asked source (text_node s) children inner = Some (text s)
node_over asked source (comment_node s) children inner = Some (comment s)
node_over asked source (element_node name attributes) children inner =
    over name (fate_for asked source name attributes children) inner

-- the number that an element gets, if it is kept
abbrev pub number_of_kept : spec.Fate → ℕ → Option ℕ
number_of_kept gone n = None
number_of_kept (said s) n = None
number_of_kept (kept attributes) n = Some n

-- the number that a node gets, if others can be below it
abbrev pub number_below : Asked → Option (List ℕ) → Data → NumberedForest → ℕ → Option ℕ
number_below asked source document_node children n = None
number_below asked source doctype_node children n = None
number_below asked source (text_node s) children n = None
number_below asked source (comment_node s) children n = None
number_below asked source (element_node name attributes) children n =
    number_of_kept (fate_for asked source name attributes children) n

-- ---- signs

abbrev pub is_sign : Data → Bool
is_sign document_node = false
is_sign doctype_node = false
is_sign (text_node s) = list_all is_sign_or_blank (chars s)
is_sign (comment_node s) = false
is_sign (element_node name attributes) = false

-- ---- formulas

abbrev pub is_blank : Data → Bool
is_blank document_node = false
is_blank doctype_node = false
is_blank (text_node s) = is_blank_text s
is_blank (comment_node s) = true
is_blank (element_node name attributes) = false

abbrev pub is_math : Data → Bool
is_math document_node = false
is_math doctype_node = false
is_math (text_node s) = false
is_math (comment_node s) = false
is_math (element_node name attributes) = bytes_eq name (codes "math")

-- ---- what a picture gives

abbrev pub is_img : Data → Bool
is_img document_node = false
is_img doctype_node = false
is_img (text_node s) = false
is_img (comment_node s) = false
is_img (element_node name attributes) = bytes_eq name (codes "img")

abbrev pub source_for : Option (List ℕ) → Data → Option (List ℕ)
source_for source d = if is_img d then source else None

abbrev pub source_after : Option (List ℕ) → Data → Option (List ℕ)
source_after source d = if is_img d then None else source

-- what a node gives those below it
abbrev pub source_below : Data → NumberedForest → Option (List ℕ)
source_below document_node children = None
source_below doctype_node children = None
source_below (text_node s) children = None
source_below (comment_node s) children = None
source_below (element_node name attributes) children = picture_source name children
