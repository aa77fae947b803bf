-- As the texts of the options say.
use Rattle.std.proofs.Common.{◌∙◌, rules, tests, string_bytes}
use Rattle.std.proofs.lemmas.Iterator.{YieldsList-from_slice}
use Rattle.std.proofs.lemmas.Iterator.Search.{any_from_yields_List}
use Rattle.htmd_files.specs.Words.{is_base}
use Rattle.htmd_files.proofs.WordsLemmas.{any_text}
use Rattle.htmd_files.proofs.words.has_base.Goals as goal

pub returns : goal.returns
returns c =
    let xs = c.args.options.now in
    any_from_yields_List (λ option. is_base (string_bytes option)) _ _ c.any.result
    c.any.ensures.ran (YieldsList-from_slice xs cc)
    (λ x b q k. search (rules, tests))
    ∙ any_text is_base xs
