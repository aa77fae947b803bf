-- Inlines are read back.
use Rattle.std.proofs.Common.{◌≡◌, ◌∙◌, refl, ap, sym, true, false, [], None, subst}
use Rattle.std.proofs.lemmas.Bool.{and_parts}
use Rattle.htmd_commonmark.specs.WrittenText.{Written, is_one_line}
use Rattle.htmd_law_inlines.specs.PlainReadings.{is_read_plainly}
use Rattle.htmd_commonmark.specs.InlineMarkdown.{written_line}
use Rattle.htmd_commonmark_reading.specs.Brackets.{inlines}
use Rattle.htmd_document.specs.NormalInlines.{are_normal, are_whole, last_passes}
use Rattle.htmd_law_inlines.specs.ReadBack.{InlinesReadBack, InlinesArePlain, references_of, seen_document}
use Rattle.htmd_law_inlines.proofs.Nested.{IsReadIn}
use Rattle.htmd_law_inlines.proofs.TextLaws.{reads_whole}
use Rattle.htmd_law_inlines.proofs.SeenPieces.{seen_document_is}
use Rattle.htmd_law_inlines.proofs.SoundPieces.{nothing_sound}
use Rattle.htmd_law_inlines.proofs.NextPieces.{nothing_ends, is_format}
use Rattle.htmd_law_inlines.proofs.InlineWalk.{walk, same_prefix}
use Rattle.htmd_law_inlines.proofs.DefinitionPieces.{numbered_all, numbers_found}

-- inlines are read back, in each place
pub inlines_read_back : InlinesReadBack
inlines_read_back line before after xs l d n few =
    let start : Written = record { text = []; definitions = before } in
    let all = (written_line line before xs).definitions in
    let refs = references_of line before after xs in
    let normal = (and_parts (are_whole xs) (are_normal false [] xs) n).1 in
    let there : are_normal line.in_link [] xs ≡ true = subst (λ b. are_normal b [] xs ≡ true) (sym l) normal in
    let finds = numbers_found all after (numbered_all line [] start None xs there d) few in
    let c = walk [] [] refs all finds line start None xs [] there tt nothing_sound (same_prefix all) refl
    (nothing_ends (last_passes is_format xs)) in
    ap (λ s. seen_document (inlines refs s)) c.is
    ∙ ap seen_document (reads_whole refs c.text c.shown.raw_inlines
    (subst (λ b. IsReadIn [] refs b [] c.text [] c.shown.raw_inlines) l c.shown.reads))
    ∙ seen_document_is xs c.shown.raw_inlines normal c.shown.shows

pub inlines_are_plain : InlinesArePlain
inlines_are_plain line before after xs l d n few =
    let start : Written = record { text = []; definitions = before } in
    let all = (written_line line before xs).definitions in
    let refs = references_of line before after xs in
    let normal = (and_parts (are_whole xs) (are_normal false [] xs) n).1 in
    let there : are_normal line.in_link [] xs ≡ true = subst (λ b. are_normal b [] xs ≡ true) (sym l) normal in
    let finds = numbers_found all after (numbered_all line [] start None xs there d) few in
    let c = walk [] [] refs all finds line start None xs [] there tt nothing_sound (same_prefix all) refl
    (nothing_ends (last_passes is_format xs)) in
    let may = is_one_line line.kind in
    let read = reads_whole refs c.text c.shown.raw_inlines
    (subst (λ b. IsReadIn [] refs b [] c.text [] c.shown.raw_inlines) l c.shown.reads) in
    subst (λ s. is_read_plainly may (inlines refs s) ≡ true) (sym c.is)
    (subst (λ ys. is_read_plainly may ys ≡ true) (sym read) c.shown.plain)
