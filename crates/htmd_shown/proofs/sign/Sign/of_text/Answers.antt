-- Two visible characters are more than one.
use Rattle.std.proofs.Common.{◌≡◌, ◌&&◌, true, drop, ap, sym, ◌∙◌}
use Rattle.htmd_shown.specs.TextViews.{begins_visibly}
use Rattle.htmd_shown.proofs.BlanksLemmas.{two_visible}
use Rattle.htmd_shown.proofs.sign.Sign.of_text.Goals as goal

pub returns-then-shows_two : goal.returns-then-shows_two
returns-then-shows_two c =
    let visible : (begins_visibly c.args.text.now && begins_visibly (drop 1 c.args.text.now)) ≡ true =
    ap (λ s. begins_visibly s && begins_visibly (drop 1 s)) (sym c.as_bytes.ensures.value)
    ∙ sym c.shows_two.ensures ∙ c.if-shows_two.true in
    sym (two_visible c.args.text.now visible)
