-- The text may be cut there.
use Rattle.std.proofs.Common.{◌∙◌, ap, take, drop, length}
use Rattle.htmd_lexical.specs.CharacterClasses.{up_to}
use Rattle.htmd_lexical.proofs.CharacterClassesLemmas.{take_up_to, drop_up_to}
use Rattle.htmd_html5_tokens.specs.NextToken.{ends_section}
use Rattle.htmd_html5_tokens.proofs.BeginningsLemmas.{cut_up_to, section_end_begins}
use Rattle.htmd_html5_tokens.proofs.sections.split_section.Goals as goal

pub split_at-requires : goal.split_at-requires
split_at-requires c =
    let same = c.section_len.ensures.value ∙ ap (λ s. length (up_to ends_section s)) c.as_bytes.ensures.value in
    cut_up_to ends_section c.args.text.now c.section_len.result same section_end_begins

pub returns-clause-held : goal.returns-clause-held
returns-clause-held c =
    let same = c.section_len.ensures.value ∙ ap (λ s. length (up_to ends_section s)) c.as_bytes.ensures.value in
    c.split_at.ensures.front ∙ ap (λ n. take n c.args.text.now) same ∙ take_up_to ends_section c.args.text.now

pub returns-clause-rest : goal.returns-clause-rest
returns-clause-rest c =
    let same = c.section_len.ensures.value ∙ ap (λ s. length (up_to ends_section s)) c.as_bytes.ensures.value in
    c.split_at.ensures.back ∙ ap (λ n. drop n c.args.text.now) same ∙ drop_up_to ends_section c.args.text.now
