-- One more sign.
use Rattle.std.proofs.Common.{◌∷◌, [], ap, ◌∙◌}
use Rattle.htmd_lexical.specs.Characters.{number_sign}
use Rattle.htmd_commonmark.specs.Pages.{wrote}
use Rattle.htmd_commonmark.proofs.PagesLemmas.{signs-more}
use Rattle.htmd_commonmark.proofs.lines.Lines.push_signs.Goals as goal

pub loop-i-preserved : goal.loop-i-preserved
loop-i-preserved c =
    c.in_ok-push_in_line.ensures ∙ ap (λ p. wrote p (number_sign ∷ [])) c.loop-i.invariant
    ∙ signs-more c.args.self.now c.loop-i._i number_sign
