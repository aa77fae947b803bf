-- As the texts of the options say.
use Rattle.std.proofs.Common.{◌∙◌, rules, tests, string_bytes, List, ℕ, Bool}
use Rattle.std.proofs.lemmas.Iterator.{YieldsList-from_slice}
use Rattle.std.proofs.lemmas.Iterator.Search.{any_from_yields_List}
use Rattle.std.specs.Str.{bytes_eq}
use Rattle.htmd_files.proofs.WordsLemmas.{any_text}
use Rattle.htmd_files.proofs.words.is_given.Goals as goal

pub returns : goal.returns
returns c =
    let xs = c.args.options.now in
    let p : List ℕ → Bool = λ option. bytes_eq option c.args.word.now in
    any_from_yields_List (λ option. p (string_bytes option)) _ _ c.any.result
    c.any.ensures.ran (YieldsList-from_slice xs cc)
    (λ x b q k. search (rules, tests))
    ∙ any_text p xs
