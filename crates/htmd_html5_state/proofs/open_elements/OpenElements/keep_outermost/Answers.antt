-- All but the outermost are popped.
use Rattle.std.proofs.Common.{◌∙◌}
use Rattle.htmd_html5_state.proofs.StackLemmas.{outermost-drop}
use Rattle.htmd_html5_state.proofs.open_elements.OpenElements.keep_outermost.Goals as goal

pub returns : goal.returns
returns c = c.truncate.ensures ∙ outermost-drop c.args.self.now
