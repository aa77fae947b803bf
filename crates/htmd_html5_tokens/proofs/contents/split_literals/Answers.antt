-- Before `<` and `&` the text may be cut.
use Rattle.std.proofs.Common.{◌∙◌, ap, take, drop, length}
use Rattle.htmd_lexical.specs.CharacterClasses.{leading_run}
use Rattle.htmd_lexical.proofs.RunsLemmas.{take_run, drop_run}
use Rattle.htmd_html5_tokens.specs.AppendedCharacters.{is_literal}
use Rattle.htmd_html5_tokens.specs.declared.contents.Reading.TheVariants.{Text}
use Rattle.htmd_html5_tokens.proofs.ContentsLemmas.{plain_cut}
use Rattle.htmd_html5_tokens.proofs.contents.split_literals.Goals as goal

pub split_at-requires : goal.split_at-requires
split_at-requires c =
    let same =
    c.text_len.ensures.value ∙ ap (λ s. length (leading_run (is_literal Text) s)) c.as_bytes.ensures.value in
    plain_cut Text c.args.text.now c.text_len.result same

pub returns-clause-front : goal.returns-clause-front
returns-clause-front c =
    let same =
    c.text_len.ensures.value ∙ ap (λ s. length (leading_run (is_literal Text) s)) c.as_bytes.ensures.value in
    c.split_at.ensures.front ∙ ap (λ n. take n c.args.text.now) same ∙ take_run (is_literal Text) c.args.text.now

pub returns-clause-rest : goal.returns-clause-rest
returns-clause-rest c =
    let same =
    c.text_len.ensures.value ∙ ap (λ s. length (leading_run (is_literal Text) s)) c.as_bytes.ensures.value in
    c.split_at.ensures.back ∙ ap (λ n. drop n c.args.text.now) same ∙ drop_run (is_literal Text) c.args.text.now
