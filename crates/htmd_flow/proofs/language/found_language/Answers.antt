use Rattle.std.proofs.Common.{◌∙◌, ◌++◌, ◌∷◌, [], sym, ap, map}
use Rattle.std.specs.Prelude.{flat_map}
use Rattle.std.specs.Option.{option_copied, option_or}
use Rattle.htmd_lexical.specs.Attributes.{pairs_of}
use Rattle.htmd_shown.specs.SimpleViews.{simple_of}
use Rattle.htmd_flow.specs.Languages.{first_name, own_languages, near_languages, only_code}
use Rattle.htmd_flow.specs.LanguageViews.{near_in}
use Rattle.htmd_flow.proofs.LanguagesLemmas.{first_of_two}
use Rattle.htmd_flow.proofs.language.found_language.Goals as goal

pub returns : goal.returns
returns c =
    let own = only_code (map simple_of c.args.content.now) ++ pairs_of c.args.attrs.now ∷ [] in
    c.either.ensures
    ∙ ap (λ o. option_or o (option_copied c.near_language.result)) c.own_language.ensures
    ∙ ap (option_or (first_name (own_languages own))) c.near_language.ensures
    ∙ sym (first_of_two (own_languages own) (flat_map near_languages (near_in c.args.near)))
