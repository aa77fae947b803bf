-- The text may be cut there.
use Rattle.std.proofs.Common.{◌∙◌, ap, take, drop, length}
use Rattle.htmd_lexical.specs.CharacterClasses.{up_to}
use Rattle.htmd_lexical.proofs.CharacterClassesLemmas.{take_up_to, drop_up_to}
use Rattle.htmd_html5_tokens.specs.NextToken.{begins_markup}
use Rattle.htmd_html5_tokens.proofs.BeginningsLemmas.{cut_up_to, markup_begins}
use Rattle.htmd_html5_tokens.proofs.markup.split_text.Goals as goal

pub split_at-requires : goal.split_at-requires
split_at-requires c =
    let same = c.text_len.ensures.value ∙ ap (λ s. length (up_to begins_markup s)) c.as_bytes.ensures.value in
    cut_up_to begins_markup c.args.text.now c.text_len.result same markup_begins

pub returns-clause-held : goal.returns-clause-held
returns-clause-held c =
    let same = c.text_len.ensures.value ∙ ap (λ s. length (up_to begins_markup s)) c.as_bytes.ensures.value in
    c.split_at.ensures.front ∙ ap (λ n. take n c.args.text.now) same ∙ take_up_to begins_markup c.args.text.now

pub returns-clause-rest : goal.returns-clause-rest
returns-clause-rest c =
    let same = c.text_len.ensures.value ∙ ap (λ s. length (up_to begins_markup s)) c.as_bytes.ensures.value in
    c.split_at.ensures.back ∙ ap (λ n. drop n c.args.text.now) same ∙ drop_up_to begins_markup c.args.text.now
