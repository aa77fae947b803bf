-- Each step in turn.
use Rattle.std.proofs.Common.{◌∙◌, ap}
use Rattle.htmd_html5.specs.BodyStarts.{start_ordinary}
use Rattle.htmd_html5.specs.SharedRules.{no_frameset}
use Rattle.htmd_html5.specs.Tokens.{tag_of}
use Rattle.htmd_html5.proofs.body_starts.start_button.Goals as goal

pub returns : goal.returns
returns c =
    c.set_frameset_ok.ensures
    ∙ ap no_frameset
    (c.in_ok-start_ordinary.ensures ∙ ap (start_ordinary (tag_of c.args.tag)) c.close.ensures.closed)
