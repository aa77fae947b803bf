-- What a node stands for that the reader adds.
use Rattle.std.specs.Prelude.{string_bytes}
use Rattle.htmd_tree.specs.declared.reader.NewNode.{NewNode}
use Rattle.htmd_tree.specs.declared.reader.NewNode.TheVariants.{Text, OwnedText, Comment, Element}
use Rattle.htmd_lexical.specs.Attributes.{pairs_of}
use Rattle.htmd_nodes.specs.Items.{Data, text_node, comment_node, element_node}

abbrev pub data_of_new : NewNode → Data
data_of_new (Text s) = text_node s.now
data_of_new (OwnedText s) = text_node (string_bytes s)
data_of_new (Comment s) = comment_node s.now
data_of_new (Element name attributes) = element_node name.now (pairs_of attributes.items)
