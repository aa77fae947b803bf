-- The first character is ASCII, and `<` is special only in a text.
use Rattle.std.proofs.Common.{◌≡◌, ◌∙◌, ◌∷◌, ap, get_or}
use Rattle.htmd_html5_tokens.proofs.ContentsLemmas.{cut_after_special, special_is_text, first_and_rest}
use Rattle.htmd_html5_tokens.proofs.contents.push_special.Goals as goal

pub range_from-after-requires : goal.range_from-after-requires
range_from-after-requires c = λ _.
    cut_after_special c.args.reading c.args.text.now c.utf8.text c.requires.more c.requires.special

pub returns-in-60-clause-pushed : goal.returns-in-60-clause-pushed
returns-in-60-clause-pushed c =
    let text = c.args.text.now in
    let first : get_or text 0 0 ≡ 60 = rw c.as_bytes.ensures.value at c.in-60.is in
    let reading = special_is_text c.args.reading (get_or text 0 0) c.requires.special first in
    let all : text ≡ 60 ∷ c.range_from-after.result.now =
    first_and_rest text c.range_from-after.result.now c.requires.more c.range_from-after.ensures.value
    ∙ ap (λ b. b ∷ c.range_from-after.result.now) first in
    rw (reading, all) c.push_less_than.ensures.pushed
