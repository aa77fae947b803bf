-- The state as the program holds it.
use Rattle.std.specs.Prelude.{reverse}
use Rattle.htmd_html5_state.specs.State.{StateValue}
use Rattle.htmd_html5_state.specs.declared.state.HtmlState.TheInside.{Inside}

abbrev pub state_of : Inside → StateValue
state_of s = record {
  nodes = s.document;
  stack = s.stack;
  formatting = s.formatting;
  mode = s.mode;
  template_modes = reverse s.template_modes.items;
  head = s.head;
  form = s.form;
  frameset_ok = s.frameset_ok;
  foster_parenting = s.foster_parenting;
  quirks = s.quirks;
  scripting = s.scripting;
  content = s.content;
  skips_line_feed = s.skips_line_feed;
}
