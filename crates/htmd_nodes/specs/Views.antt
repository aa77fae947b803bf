-- What the nodes of the source stand for.
use Rattle.std.specs.Prelude.{string_bytes}
use Rattle.htmd_nodes.specs.declared.tree.NodeData.{NodeData}
use Rattle.htmd_nodes.specs.declared.tree.NodeData.TheVariants.{Document, Doctype, Text, Comment, Element}
use Rattle.htmd_lexical.specs.Attributes.{pairs_of}
use Rattle.htmd_nodes.specs.Items.{Data, document_node, doctype_node, text_node, comment_node, element_node}

-- what a node is
abbrev pub data_of : NodeData → Data
data_of Document = document_node
data_of Doctype = doctype_node
data_of (Text s) = text_node (string_bytes s)
data_of (Comment s) = comment_node (string_bytes s)
data_of (Element name attributes) = element_node name (pairs_of attributes.items)
