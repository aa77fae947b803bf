use Rattle.std.proofs.Common.{◌≡◌, true, ap, sym, ◌∙◌}
use Rattle.htmd_shown.specs.TextViews.{begins_visibly}
use Rattle.htmd_shown.proofs.BlanksLemmas.{blank_shown, visible_shows}
use Rattle.htmd_shown.proofs.shown_text.is_blank_when_shown.Goals as goal

pub returns : goal.returns
returns c = c.are_blank_characters.ensures ∙ sym (blank_shown c.args.text.now c.utf8.text)

pub returns-then-begins_visibly : goal.returns-then-begins_visibly
returns-then-begins_visibly c =
    let visible : begins_visibly c.args.text.now ≡ true =
    ap begins_visibly (sym c.as_bytes.ensures.value) ∙ sym c.begins_visibly.ensures ∙ c.if-begins_visibly.true in
    sym (blank_shown c.args.text.now c.utf8.text ∙ visible_shows c.args.text.now visible)
