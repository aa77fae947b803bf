use Rattle.std.proofs.Common.{◌∙◌, sym, ap}
use Rattle.std.specs.Prelude.{flat_map}
use Rattle.std.specs.Option.{option_copied, option_or}
use Rattle.htmd_lexical.specs.Attributes.{pairs_of}
use Rattle.htmd_flow.specs.Languages.{first_name, near_languages}
use Rattle.htmd_flow.specs.LanguageViews.{near_in}
use Rattle.htmd_flow.proofs.LanguagesLemmas.{near_two, near_three}
use Rattle.htmd_flow.proofs.language.near_language.Goals as goal

pub returns-in-Two : goal.returns-in-Two
returns-in-Two c =
    let a = pairs_of c.in-Two.first.now in
    let b = pairs_of c.in-Two.second.now in
    c.either.ensures
    ∙ ap (λ o. option_or o (option_copied c.language_around-in-Two-2.result)) c.language_around-in-Two.ensures
    ∙ ap (option_or (first_name (near_languages a))) c.language_around-in-Two-2.ensures
    ∙ sym (near_two near_languages a b)
    ∙ sym (ap (λ n. first_name (flat_map near_languages (near_in n))) c.in-Two.is)

pub returns-in-Three : goal.returns-in-Three
returns-in-Three c =
    let a = pairs_of c.in-Three.first.now in
    let b = pairs_of c.in-Three.second.now in
    let d = pairs_of c.in-Three.third.now in
    let both = c.either-in-Three.ensures
    ∙ ap (λ o. option_or o (option_copied c.language_around-in-Three-2.result)) c.language_around-in-Three.ensures
    ∙ ap (option_or (first_name (near_languages a))) c.language_around-in-Three-2.ensures in
    c.either-in-Three-2.ensures
    ∙ ap (λ o. option_or o (option_copied c.language_around-in-Three-3.result)) both
    ∙ ap (option_or (option_or (first_name (near_languages a)) (first_name (near_languages b))))
    c.language_around-in-Three-3.ensures
    ∙ sym (near_three near_languages a b d)
    ∙ sym (ap (λ n. first_name (flat_map near_languages (near_in n))) c.in-Three.is)
