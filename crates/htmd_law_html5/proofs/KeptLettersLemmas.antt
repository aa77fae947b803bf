-- Letters are kept.
use Rattle.std.proofs.Common.{arith, true, refl}
use Rattle.htmd_html5.specs.Html5Documents.{state_after, html5_document}
use Rattle.htmd_nodes.specs.Items.{greatest_depth}
use Rattle.htmd_law_html5.specs.KeptLetters.{LettersAreKept}
use Rattle.htmd_law_html5.proofs.LetterLemmas.{letter_tests}
use Rattle.htmd_law_html5.proofs.PuttingTokens.{state_grew}
use Rattle.htmd_law_html5.proofs.NodeWeights.{nodes_utf8}
use Rattle.htmd_law_html5.proofs.LaidTexts.{laid_texts}
use Rattle.htmd_law_html5.proofs.WholeTrees.{whole_hang, whole_texts}

pub letters_kept : LettersAreKept
unfolding html5_document
letters_kept scripting page c u takes whole letter =
    let a = state_grew true c (letter_tests c letter) scripting page u (λ x. takes) in
    let b = laid_texts c greatest_depth (state_after scripting page).nodes a.sound in
    let d = whole_texts c (state_after scripting page).nodes a.sound.root a.sound.forest
    (whole_hang (state_after scripting page).nodes a.sound.root whole) greatest_depth
    (nodes_utf8 (state_after scripting page).nodes a.sound.utf8) in
    let e = a.at_most in
    let f = a.at_least refl in
    omega arith
