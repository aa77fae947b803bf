use Rattle.std.proofs.Common.{◌∙◌, rules, tests}
use Rattle.std.proofs.lemmas.Iterator.{YieldsList-from_chars}
use Rattle.std.proofs.lemmas.Iterator.Search.{any_from_yields_List}
use Rattle.htmd_shown.specs.Marks.{is_usual_sign}
use Rattle.htmd_shown.proofs.ShowingsLemmas.{whole-signs, shown-signs}
use Rattle.htmd_shown.proofs.showing.has_sign.Goals as goal

pub returns : goal.returns
returns c =
    let any =
    any_from_yields_List is_usual_sign _ _ c.any.result c.any.ensures.ran
    (YieldsList-from_chars c.args.text.now c.utf8.text cc)
    (λ x b q k. search (rules, tests)) in
    record {
      whole = any ∙ whole-signs c.args.text.now;
      shown = any ∙ shown-signs c.args.text.now c.utf8.text;
    }
