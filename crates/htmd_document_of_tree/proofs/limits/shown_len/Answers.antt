use Rattle.std.proofs.Common.{rules, tests, sym, ap, ◌∙◌, length}
use Rattle.std.proofs.lemmas.Iterator.{YieldsList-from_chars}
use Rattle.std.proofs.lemmas.Iterator.Consumers.{YieldsList-from_filter, count_from_yields_List}
use Rattle.htmd_shown.proofs.BlanksLemmas.{chars_shown}
use Rattle.htmd_shown.specs.ShownTexts.{is_shown}
use Rattle.htmd_document_of_tree.proofs.limits.shown_len.Goals as goal

pub returns : goal.returns
returns c =
    count_from_yields_List c.filter.result _ c.count.ensures.ran
    (YieldsList-from_filter _ is_shown (YieldsList-from_chars c.args.text.now c.utf8.text (cc)) c.filter.ensures.closure
    (λ x r q k. search (rules, tests)))
    ∙ sym (ap length (chars_shown c.args.text.now c.utf8.text))
