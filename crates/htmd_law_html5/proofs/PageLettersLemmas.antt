-- No letter is made up.
use Rattle.std.proofs.Common.{arith, false, sym}
use Rattle.std.proofs.lemmas.Bool.{true≢false}
use Rattle.htmd_html5.specs.Html5Documents.{state_after, html5_document}
use Rattle.htmd_nodes.specs.Items.{greatest_depth}
use Rattle.htmd_law_html5.specs.PageLetters.{NoLetterIsMadeUp}
use Rattle.htmd_law_html5.proofs.LetterLemmas.{letter_tests}
use Rattle.htmd_law_html5.proofs.PuttingTokens.{state_grew}
use Rattle.htmd_law_html5.proofs.LaidTexts.{laid_texts}

pub no_letter_made_up : NoLetterIsMadeUp
unfolding html5_document
no_letter_made_up scripting page c utf8 letter =
    let a = state_grew false c (letter_tests c letter) scripting page utf8 (λ x. absurd (true≢false (sym x))) in
    let b = laid_texts c greatest_depth (state_after scripting page).nodes a.sound in
    let d = a.at_most in
    omega arith
