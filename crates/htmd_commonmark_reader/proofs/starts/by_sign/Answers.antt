-- What each sign starts.
use Rattle.std.proofs.Common.{◌≡◌, ◌∙◌, get_or, ap, sym}
use Rattle.htmd_commonmark_reading.specs.BlockStarts.{sign, html_start, is_rule, no_start, quote_sign, tag_sign, bullet}
use Rattle.htmd_commonmark_reading.specs.BlockStarts.{no_sign}
use Rattle.htmd_commonmark_reading.specs.BlockStarts.{bullet_or_rule, heading_sign, fence_sign, rule_sign, digit}
use Rattle.htmd_commonmark_reader.specs.LineStarts.{sign_as}
use Rattle.htmd_commonmark_reader.specs.LineViews.{line_of}
use Rattle.htmd_commonmark_reader.specs.Starts.{after_of}
use Rattle.htmd_commonmark_reader.proofs.LineStartsLemmas.{first_cut, rule_here, no_rule, by_quote, by_heading}
use Rattle.htmd_commonmark_reader.proofs.LineStartsLemmas.{by_fence, by_tag, by_rule, by_bullet}
use Rattle.htmd_commonmark_reader.proofs.LineStartsLemmas.{by_either, by_digit, by_none, bullet_item}
use Rattle.htmd_commonmark_reader.proofs.starts.by_sign.Goals as goal

pub quote-requires-clause-marker : goal.quote-requires-clause-marker
quote-requires-clause-marker c =
    let first = get_or c.as_bytes-bytes.result.now 0 0 in
    let here : sign first ≡ quote_sign = sym c.sign_of.ensures ∙ ap sign_as c.in-Quote.is in
    first_cut c.args.content.text.now c.as_bytes-bytes.result.now c.as_bytes-bytes.ensures.utf8
    c.as_bytes-bytes.ensures.value c.requires.filled
    (λ q. let no : quote_sign ≡ no_sign = sym here ∙ q in absurd (cc))

pub range_from-requires : goal.range_from-requires
range_from-requires c = λ _.
    let first = get_or c.as_bytes-bytes.result.now 0 0 in
    let here : sign first ≡ tag_sign = sym c.sign_of.ensures ∙ ap sign_as c.in-Tag.is in
    first_cut c.args.content.text.now c.as_bytes-bytes.result.now c.as_bytes-bytes.ensures.utf8
    c.as_bytes-bytes.ensures.value c.requires.filled
    (λ q. let no : tag_sign ≡ no_sign = sym here ∙ q in absurd (cc))

pub bullet-requires-clause-marker : goal.bullet-requires-clause-marker
bullet-requires-clause-marker c =
    let first = get_or c.as_bytes-bytes.result.now 0 0 in
    let here : sign first ≡ bullet_or_rule = sym c.sign_of.ensures ∙ ap sign_as c.in-BulletOrRule.is in
    first_cut c.args.content.text.now c.as_bytes-bytes.result.now c.as_bytes-bytes.ensures.utf8
    c.as_bytes-bytes.ensures.value c.requires.filled
    (λ q. let no : bullet_or_rule ≡ no_sign = sym here ∙ q in absurd (cc))

pub bullet-requires-in-Bullet-clause-marker : goal.bullet-requires-in-Bullet-clause-marker
bullet-requires-in-Bullet-clause-marker c =
    let first = get_or c.as_bytes-bytes.result.now 0 0 in
    let here : sign first ≡ bullet = sym c.sign_of.ensures ∙ ap sign_as c.in-Bullet.is in
    first_cut c.args.content.text.now c.as_bytes-bytes.result.now c.as_bytes-bytes.ensures.utf8
    c.as_bytes-bytes.ensures.value c.requires.filled
    (λ q. let no : bullet ≡ no_sign = sym here ∙ q in absurd (cc))

pub returns-in-Quote-clause-start : goal.returns-in-Quote-clause-start
returns-in-Quote-clause-start c =
    let first = get_or c.as_bytes-bytes.result.now 0 0 in
    let here : sign first ≡ quote_sign = sym c.sign_of.ensures ∙ ap sign_as c.in-Quote.is in
    c.quote.ensures.start (line_of c.args.line)
    ∙ by_quote (after_of c.args.after) c.args.line c.args.content c.as_bytes-bytes.result.now c.requires.line.indent
    c.requires.line.content c.requires.near c.requires.content c.requires.place c.requires.filled
    c.as_bytes-bytes.ensures.value here

pub returns-in-Heading-clause-start : goal.returns-in-Heading-clause-start
returns-in-Heading-clause-start c =
    let first = get_or c.as_bytes-bytes.result.now 0 0 in
    let here : sign first ≡ heading_sign = sym c.sign_of.ensures ∙ ap sign_as c.in-Heading.is in
    c.heading.ensures.start (line_of c.args.line)
    ∙ by_heading (after_of c.args.after) c.args.line c.args.content c.as_bytes-bytes.result.now
    c.requires.line.indent
    c.requires.line.content c.requires.near c.requires.content c.requires.place c.requires.filled
    c.as_bytes-bytes.ensures.value here

pub returns-in-Fence-clause-start : goal.returns-in-Fence-clause-start
returns-in-Fence-clause-start c =
    let first = get_or c.as_bytes-bytes.result.now 0 0 in
    let here : sign first ≡ fence_sign = sym c.sign_of.ensures ∙ ap sign_as c.in-Fence.is in
    c.fence.ensures.start (line_of c.args.line)
    ∙ by_fence (after_of c.args.after) c.args.line c.args.content c.as_bytes-bytes.result.now c.requires.line.indent
    c.requires.line.content c.requires.near c.requires.content c.requires.place c.requires.filled
    c.as_bytes-bytes.ensures.value here

pub returns-in-Tag-clause-start : goal.returns-in-Tag-clause-start
returns-in-Tag-clause-start c =
    let first = get_or c.as_bytes-bytes.result.now 0 0 in
    let here : sign first ≡ tag_sign = sym c.sign_of.ensures ∙ ap sign_as c.in-Tag.is in
    c.html.ensures.start
    ∙ ap (html_start (after_of c.args.after) ((line_of c.args.line).text)) c.range_from.ensures.value
    ∙ by_tag (after_of c.args.after) c.args.line c.args.content c.as_bytes-bytes.result.now c.requires.line.indent
    c.requires.line.content c.requires.near c.requires.content c.requires.place c.requires.filled
    c.as_bytes-bytes.ensures.value here

pub returns-then-is_rule-clause-start : goal.returns-then-is_rule-clause-start
returns-then-is_rule-clause-start c =
    let first = get_or c.as_bytes-bytes.result.now 0 0 in
    let here : sign first ≡ rule_sign = sym c.sign_of.ensures ∙ ap sign_as c.in-Rule.is in
    rule_here first c.args.content.text.now no_start
    (ap (is_rule first) (sym c.as_bytes-bytes.ensures.value) ∙ sym c.is_rule.ensures ∙ c.if-is_rule.true)
    ∙ by_rule (after_of c.args.after) c.args.line c.args.content c.as_bytes-bytes.result.now c.requires.line.indent
    c.requires.line.content c.requires.near c.requires.content c.requires.place c.requires.filled
    c.as_bytes-bytes.ensures.value here

pub returns-else-is_rule-clause-start : goal.returns-else-is_rule-clause-start
returns-else-is_rule-clause-start c =
    let first = get_or c.as_bytes-bytes.result.now 0 0 in
    let here : sign first ≡ rule_sign = sym c.sign_of.ensures ∙ ap sign_as c.in-Rule.is in
    no_rule first c.args.content.text.now no_start
    (ap (is_rule first) (sym c.as_bytes-bytes.ensures.value) ∙ sym c.is_rule.ensures ∙ c.if-is_rule.false)
    ∙ by_rule (after_of c.args.after) c.args.line c.args.content c.as_bytes-bytes.result.now c.requires.line.indent
    c.requires.line.content c.requires.near c.requires.content c.requires.place c.requires.filled
    c.as_bytes-bytes.ensures.value here

pub returns-then-is_rule-2-clause-start : goal.returns-then-is_rule-2-clause-start
returns-then-is_rule-2-clause-start c =
    let first = get_or c.as_bytes-bytes.result.now 0 0 in
    let here : sign first ≡ bullet_or_rule = sym c.sign_of.ensures ∙ ap sign_as c.in-BulletOrRule.is in
    rule_here first c.args.content.text.now
    (bullet_item (after_of c.args.after) c.args.line c.args.content c.as_bytes-bytes.result.now
    c.requires.line.indent
    c.requires.line.content c.requires.near c.requires.content c.requires.place c.requires.filled
    c.as_bytes-bytes.ensures.value (line_of c.args.content))
    (ap (is_rule first) (sym c.as_bytes-bytes.ensures.value) ∙ sym c.is_rule-in-BulletOrRule.ensures
    ∙ c.if-is_rule-2.true)
    ∙ by_either (after_of c.args.after) c.args.line c.args.content c.as_bytes-bytes.result.now c.requires.line.indent
    c.requires.line.content c.requires.near c.requires.content c.requires.place c.requires.filled
    c.as_bytes-bytes.ensures.value here

pub returns-else-is_rule-2-clause-start : goal.returns-else-is_rule-2-clause-start
returns-else-is_rule-2-clause-start c =
    let first = get_or c.as_bytes-bytes.result.now 0 0 in
    let here : sign first ≡ bullet_or_rule = sym c.sign_of.ensures ∙ ap sign_as c.in-BulletOrRule.is in
    c.bullet.ensures.start (line_of c.args.line)
    ∙ no_rule first c.args.content.text.now
    (bullet_item (after_of c.args.after) c.args.line c.args.content c.as_bytes-bytes.result.now
    c.requires.line.indent
    c.requires.line.content c.requires.near c.requires.content c.requires.place c.requires.filled
    c.as_bytes-bytes.ensures.value (line_of c.args.content))
    (ap (is_rule first) (sym c.as_bytes-bytes.ensures.value) ∙ sym c.is_rule-in-BulletOrRule.ensures
    ∙ c.if-is_rule-2.false)
    ∙ by_either (after_of c.args.after) c.args.line c.args.content c.as_bytes-bytes.result.now c.requires.line.indent
    c.requires.line.content c.requires.near c.requires.content c.requires.place c.requires.filled
    c.as_bytes-bytes.ensures.value here

pub returns-in-Bullet-clause-start : goal.returns-in-Bullet-clause-start
returns-in-Bullet-clause-start c =
    let first = get_or c.as_bytes-bytes.result.now 0 0 in
    let here : sign first ≡ bullet = sym c.sign_of.ensures ∙ ap sign_as c.in-Bullet.is in
    c.bullet-in-Bullet.ensures.start (line_of c.args.line)
    ∙ by_bullet (after_of c.args.after) c.args.line c.args.content c.as_bytes-bytes.result.now
    c.requires.line.indent
    c.requires.line.content c.requires.near c.requires.content c.requires.place c.requires.filled
    c.as_bytes-bytes.ensures.value here

pub returns-in-Digit-clause-start : goal.returns-in-Digit-clause-start
returns-in-Digit-clause-start c =
    let first = get_or c.as_bytes-bytes.result.now 0 0 in
    let here : sign first ≡ digit = sym c.sign_of.ensures ∙ ap sign_as c.in-Digit.is in
    c.number.ensures.start (line_of c.args.line)
    ∙ by_digit (after_of c.args.after) c.args.line c.args.content c.as_bytes-bytes.result.now c.requires.line.indent
    c.requires.line.content c.requires.near c.requires.content c.requires.place c.requires.filled
    c.as_bytes-bytes.ensures.value here

pub returns-in-Other-clause-start : goal.returns-in-Other-clause-start
returns-in-Other-clause-start c =
    let first = get_or c.as_bytes-bytes.result.now 0 0 in
    let here : sign first ≡ no_sign = sym c.sign_of.ensures ∙ ap sign_as c.in-Other.is in
    by_none (after_of c.args.after) c.args.line c.args.content c.as_bytes-bytes.result.now c.requires.line.indent
    c.requires.line.content c.requires.near c.requires.content c.requires.place c.requires.filled
    c.as_bytes-bytes.ensures.value here
