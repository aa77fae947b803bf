-- Letters of a page without a start tag of `frameset` or `template`.
use Rattle.std.proofs.Common.{arith, true, refl}
use Rattle.htmd_html5.specs.Html5Documents.{state_after, html5_document}
use Rattle.htmd_nodes.specs.Items.{greatest_depth}
use Rattle.htmd_law_html5.specs.DroppedTexts.{HarmlessLettersAreTaken, HarmlessLettersAreKept}
use Rattle.htmd_law_html5.proofs.LetterLemmas.{letter_tests}
use Rattle.htmd_law_html5.proofs.PuttingTokens.{state_grew, letters_taken}
use Rattle.htmd_law_html5.proofs.NodeWeights.{nodes_utf8}
use Rattle.htmd_law_html5.proofs.LaidTexts.{laid_texts}
use Rattle.htmd_law_html5.proofs.WholeTrees.{ranked_hang, whole_texts}
use Rattle.htmd_law_html5.proofs.UndroppedTokens.{harmless_taken, harmless_hung}

pub harmless_letters_taken : HarmlessLettersAreTaken
harmless_letters_taken scripting page c u dropping_none letter =
    letters_taken scripting page c u (harmless_taken scripting page dropping_none) letter

pub harmless_letters_kept : HarmlessLettersAreKept
unfolding html5_document
harmless_letters_kept scripting page c u dropping_none letter =
    let a = state_grew true c (letter_tests c letter) scripting page u
    (λ x. harmless_taken scripting page dropping_none) in
    let hung = harmless_hung scripting page dropping_none in
    let b = laid_texts c greatest_depth (state_after scripting page).nodes a.sound in
    let d = whole_texts c (state_after scripting page).nodes a.sound.root a.sound.forest
    (ranked_hang hung.rank (state_after scripting page).nodes a.sound.root hung.root hung.hangs) greatest_depth
    (nodes_utf8 (state_after scripting page).nodes a.sound.utf8) in
    let e = a.at_most in
    let f = a.at_least refl in
    omega arith
