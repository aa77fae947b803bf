-- A line feed was stripped, or none ends the text.
use Rattle.std.proofs.Common.{◌∙◌, sym, ap, lit<, Some, None}
use Rattle.std.proofs.lemmas.Str.Pattern.{strip_suffix_char}
use Rattle.htmd_lexical.specs.Characters.{line_feed}
use Rattle.htmd_shown.specs.AllTexts.{without_last_line_feed}
use Rattle.htmd_shown.proofs.LineEndsLemmas.{feed_cut, no_feed}
use Rattle.htmd_shown.proofs.texts.without_last_line_feed.Goals as goal

pub returns-in-Some : goal.returns-in-Some
returns-in-Some c =
    sym (ap without_last_line_feed
    (strip_suffix_char line_feed c.args.text.now (Some c.in-Some.rest) c.in-Some.ensures.cases (lit< tt))
    ∙ feed_cut c.in-Some.rest.now)

pub returns-in-None : goal.returns-in-None
returns-in-None c = no_feed c.args.text.now
    (strip_suffix_char line_feed c.args.text.now None c.in-None.ensures.cases (lit< tt))
