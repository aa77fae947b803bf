-- Code, or an item.
use Rattle.std.proofs.Common.{◌≡◌, ◌∙◌, ◌≤◌, drop, get_or, ap, sym, arith}
use Rattle.htmd_commonmark_reading.specs.BlockStarts.{alone, bullet_or_rule, is_rule, no_sign, sign}
use Rattle.htmd_commonmark_reading.specs.Lines.{marks, spaces}
use Rattle.htmd_commonmark_reader.specs.BulletRuns.{is_mixed}
use Rattle.htmd_commonmark_reader.specs.LineViews.{line_of}
use Rattle.htmd_commonmark_reader.proofs.BulletRunsLemmas.{bullets, content_marks, marks_behind}
use Rattle.htmd_commonmark_reader.proofs.LineStartsLemmas.{first_cut, no_rule, by_either, bullet_item}
use Rattle.htmd_commonmark_reader.proofs.starts.bullet_start.Goals as goal

pub returns-clause-start : goal.returns-clause-start
returns-clause-start c =
    let l = c.args.line in
    let content = c.without_indent-content.result in
    let bytes = c.as_bytes.result.now in
    let b = c.as_bytes.ensures.value in
    let same = c.without_indent-content.ensures.text in
    let place = c.without_indent-content.ensures.line in
    let close : l.indent ≤ 3 = omega (arith, c.if-line-gt3.false) in
    let mixed = ap (is_mixed c.requires.mixed.0) (ap marks same ∙ sym (content_marks l c.requires.line.content))
    ∙ c.requires.mixed.1 in
    let found = bullets c.requires.mixed.0 content.text.now l.text.now (same ∙ c.requires.line.content) mixed in
    let first = get_or bytes 0 0 in
    let here : sign first ≡ bullet_or_rule = ap (λ s. sign (get_or s 0 0)) b ∙ found.either in
    let unruled = ap (λ s. is_rule (get_or s 0 0) content.text.now) b ∙ found.unruled in
    c.bullet.ensures.start (line_of l)
    ∙ no_rule first content.text.now
    (bullet_item alone l content bytes c.requires.line.indent c.requires.line.content close same place found.filled b
    (line_of content)) unruled
    ∙ by_either alone l content bytes c.requires.line.indent c.requires.line.content close same place found.filled b
    here

pub bullet-requires-clause-marker : goal.bullet-requires-clause-marker
bullet-requires-clause-marker c =
    let l = c.args.line in
    let content = c.without_indent-content.result in
    let b = c.as_bytes.ensures.value in
    let same = c.without_indent-content.ensures.text in
    let mixed = ap (is_mixed c.requires.mixed.0) (ap marks same ∙ sym (content_marks l c.requires.line.content))
    ∙ c.requires.mixed.1 in
    let found = bullets c.requires.mixed.0 content.text.now l.text.now (same ∙ c.requires.line.content) mixed in
    let here : sign (get_or c.as_bytes.result.now 0 0) ≡ bullet_or_rule =
    ap (λ s. sign (get_or s 0 0)) b ∙ found.either in
    first_cut content.text.now c.as_bytes.result.now c.as_bytes.ensures.utf8 b found.filled
    (λ q. let no : bullet_or_rule ≡ no_sign = sym here ∙ q in absurd (cc))

pub returns-clause-behind : goal.returns-clause-behind
returns-clause-behind c =
    let l = c.args.line in
    let content = c.without_indent-content.result in
    let same = c.without_indent-content.ensures.text in
    let all = ap marks same ∙ sym (content_marks l c.requires.line.content) in
    let mixed = ap (is_mixed c.requires.mixed.0) all ∙ c.requires.mixed.1 in
    let found = bullets c.requires.mixed.0 content.text.now l.text.now (same ∙ c.requires.line.content) mixed in
    c.bullet.ensures.behind (marks ((line_of l).text))
    (marks_behind (line_of content)
    ∙ ap (λ n. marks (drop 1 (spaces n content.text.now))) c.without_indent-content.ensures.uncut ∙ found.rest
    ∙ ap (drop 1) all)
