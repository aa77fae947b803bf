-- A text without carriage returns is as it was.
use Rattle.std.proofs.Common.{◌≡◌, ◌++◌, false, ap, sym, ◌∙◌, string_bytes}
use Rattle.std.specs.List.{list_any}
use Rattle.std.proofs.lemmas.Str.{IsUtf8-string_bytes}
use Rattle.htmd_shown.specs.AllTexts.{all_text_among, with_line_feeds}
use Rattle.htmd_shown.specs.SimpleViews.{simples_of}
use Rattle.htmd_shown.specs.TextViews.{is_return}
use Rattle.htmd_shown.proofs.LineEndsLemmas.{no-returns}
use Rattle.htmd_shown.proofs.texts.all_text.Goals as goal

pub returns-then-not-holds_return : goal.returns-then-not-holds_return
returns-then-not-holds_return c =
    let all : string_bytes c.push_texts.new.out
    ≡ all_text_among (simples_of c.args.nodes.now) =
    c.in_ok-push_texts.ensures
    ∙ ap (λ s. s ++ all_text_among (simples_of c.args.nodes.now))
    c.new-text.ensures.bytes in
    let none : list_any is_return (string_bytes c.push_texts.new.out) ≡ false =
    ap (list_any is_return) (sym c.as_bytes.ensures.value)
    ∙ (sym c.holds_return.ensures ∙ c.if-not-holds_return.true) in
    sym (no-returns (string_bytes c.push_texts.new.out) (IsUtf8-string_bytes c.push_texts.new.out) none)
    ∙ ap with_line_feeds all
