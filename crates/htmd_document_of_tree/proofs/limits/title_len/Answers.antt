use Rattle.std.proofs.Common.{◌∙◌, List, [], ℕ, Option, ap, sym}
use Rattle.std.specs.Option.{unwrap_or}
use Rattle.std.specs.Str.{chars}
use Rattle.std.proofs.lemmas.Iterator.{YieldsList-from_chars}
use Rattle.std.proofs.lemmas.Iterator.Consumers.{count_from_yields_List}
use Rattle.htmd_document.specs.DocumentViews.{bytes_of_title}
use Rattle.htmd_document_of_tree.specs.Limits as spec
use Rattle.htmd_document_of_tree.proofs.limits.title_len.Goals as goal

pub returns-in-Some : goal.returns-in-Some
returns-in-Some c =
    count_from_yields_List c.chars.result _ c.count.ensures.ran
    (YieldsList-from_chars c.as_str.result.now c.as_str.utf8 (cc))
    ∙ ap spec.characters (c.as_str.ensures.value
    ∙ ap (λ (v : Option (List ℕ)). unwrap_or v []) (sym (ap bytes_of_title c.in-Some.is)
    ∙ c.in_ok-title.ensures))

pub returns-in-None : goal.returns-in-None
unfolding chars
returns-in-None c =
    ap (λ (v : Option (List ℕ)). spec.characters (unwrap_or v []))
    (sym (ap bytes_of_title c.in-None.is) ∙ c.in_ok-title.ensures)
