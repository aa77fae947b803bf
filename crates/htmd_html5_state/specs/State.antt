-- The state of tree construction (HTML Standard, 13.2.4).
use Rattle.std.specs.Prelude.{ℕ, Bool, true, false, List, [], ◌∷◌, Option, None}
use Rattle.htmd_lexical.specs.declared.content_model.ContentModel.{ContentModel}
use Rattle.htmd_lexical.specs.declared.content_model.ContentModel.TheVariants.{Normal}
use Rattle.htmd_html5_state.specs.Nodes.{NodeValue, document, new_node}
use Rattle.htmd_html5_state.specs.OpenElements.{OpenValue}
use Rattle.htmd_html5_state.specs.declared.modes.InsertionMode.{InsertionMode}
use Rattle.htmd_html5_state.specs.declared.modes.InsertionMode.TheVariants.{Initial}

pub record StateValue : Type 0 where
  -- the nodes by number; the Document is number 0
  pub nodes : List NodeValue
  -- the stack of open elements, innermost first
  pub stack : List OpenValue
  -- the list of active formatting elements, newest first; None is a marker
  pub formatting : List (Option ℕ)
  pub mode : InsertionMode
  -- the stack of template insertion modes, innermost first
  pub template_modes : List InsertionMode
  pub head : Option ℕ
  pub form : Option ℕ
  pub frameset_ok : Bool
  pub foster_parenting : Bool
  pub quirks : Bool
  pub scripting : Bool
  -- how the tokenizer reads on; with any element but `plaintext` the mode is "text"
  pub content : ContentModel
  -- whether a line feed that comes next is dropped
  pub skips_line_feed : Bool

abbrev pub initial_state : Bool → StateValue
initial_state scripting = record {
  nodes = new_node document ∷ [];
  stack = [];
  formatting = [];
  mode = Initial;
  template_modes = [];
  head = None;
  form = None;
  frameset_ok = true;
  foster_parenting = false;
  quirks = false;
  scripting = scripting;
  content = Normal;
  skips_line_feed = false;
}

abbrev pub on_nodes : (List NodeValue → List NodeValue) → StateValue → StateValue
on_nodes f s = record s { nodes = f s.nodes }

abbrev pub on_stack : (List OpenValue → List OpenValue) → StateValue → StateValue
on_stack f s = record s { stack = f s.stack }

abbrev pub on_formatting : (List (Option ℕ) → List (Option ℕ)) → StateValue → StateValue
on_formatting f s = record s { formatting = f s.formatting }
