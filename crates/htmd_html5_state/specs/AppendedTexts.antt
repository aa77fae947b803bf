-- Where text needs nothing before it and goes to the end of the current node.
use Rattle.std.specs.Prelude.{Bool, not, ◌&&◌, nat_lt, length}
use Rattle.htmd_lexical.specs.CharacterClasses.{is_empty}
use Rattle.htmd_html5_state.specs.Formatting.{closed_elements}
use Rattle.htmd_html5_state.specs.Insertion.{current}
use Rattle.htmd_html5_state.specs.State.{StateValue}

-- nothing is to be reconstructed
abbrev pub is_reconstructed : StateValue → Bool
is_reconstructed s = is_empty (closed_elements s.stack s.formatting)

-- and the current node is one of the nodes, which holds what is put into it
abbrev pub appends_text : StateValue → Bool
appends_text s = not s.foster_parenting && is_reconstructed s && nat_lt (current s.stack).node (length s.nodes)
