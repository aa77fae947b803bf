-- A line's end behind the trees of a line, and other trees behind it.
use Rattle.std.proofs.Common.{◌≡◌, ℕ, true, [], ◌∷◌, ◌++◌, refl, ap, ◌∙◌, codes}
use Rattle.std.proofs.lemmas.Bool.{and_parts}
use Rattle.htmd_lexical.specs.Characters.{line_feed, space}
use Rattle.htmd_commonmark_reading.specs.Markup.{Inlines, no_inlines, letter, code, formatted, link, image}
use Rattle.htmd_commonmark_reading.specs.Markup.{line_break}
use Rattle.htmd_commonmark_reading.specs.Markup.{task, raw, plain_text}
use Rattle.htmd_law_rendering.specs.SpelledTrees.{SpelledForest, none, more, text, element, lone, section, spaced}
use Rattle.htmd_law_rendering.specs.SpelledTrees.{short}
use Rattle.htmd_law_rendering.specs.RenderedTrees.{text_before, format_name, pairs_of_format, pairs_of_image}
use Rattle.htmd_law_rendering.specs.RenderedTrees.{inlines_trees, pairs_of_link, pairs_of_box, line_end}
use Rattle.htmd_law_inlines.specs.PlainReadings.{is_untagged}
use Rattle.htmd_law_returning.proofs.RawReadings.{has_no_raw}
use Rattle.htmd_law_returning.proofs.TreesLemmas.{anchor-first, pairs_of_anchor}
use Rattle.htmd_law_returning.proofs.StartLemmas.{false-true}

-- trees, a line's end in their last text or as a text of its own, and the rest
abbrev pub ended_before : SpelledForest → SpelledForest → SpelledForest
ended_before rest none = more (text (line_feed ∷ [])) rest
ended_before rest (more (text s) none) = more (text (s ++ line_feed ∷ [])) rest
ended_before rest (more t ts) = more t (ended_before rest ts)

pub letter-ended : (c : ℕ) (rest ts : SpelledForest)
    → text_before (c ∷ []) (ended_before rest ts) ≡ ended_before rest (text_before (c ∷ []) ts)
letter-ended c rest none = refl
letter-ended c rest (more (text s) none) = refl
letter-ended c rest (more (text s) (more t ts)) = refl
letter-ended c rest (more (element form name attributes content) ts) = refl
letter-ended c rest (more (lone name attributes s) ts) = refl
letter-ended c rest (more (section rows) ts) = refl

-- what stands behind a line stands behind its trees
pub inlines-ended : (xs : Inlines) (rest : SpelledForest) → has_no_raw xs ≡ true
    → inlines_trees xs (more (text (line_feed ∷ [])) rest) ≡ ended_before rest (inlines_trees xs none)
inlines-ended no_inlines rest h = refl
inlines-ended (letter c xs) rest h =
    ap (text_before (c ∷ [])) (inlines-ended xs rest h) ∙ letter-ended c rest (inlines_trees xs none)
inlines-ended (code s xs) rest h =
    ap (more (element spaced (codes "code") [] (text_before s none))) (inlines-ended xs rest h)
inlines-ended (formatted f content xs) rest h =
    ap (more (element spaced (format_name f) (pairs_of_format f) (inlines_trees content none)))
    (inlines-ended xs rest (and_parts (has_no_raw content) (has_no_raw xs) h).1)
inlines-ended (link a t content xs) rest h =
    ap (more (element spaced (codes "a") (pairs_of_link a t) (inlines_trees content none)))
    (inlines-ended xs rest (and_parts (has_no_raw content) (has_no_raw xs) h).1)
inlines-ended (image a t content xs) rest h =
    ap (more (element spaced (codes "img") (pairs_of_image a t (plain_text content)) none))
    (inlines-ended xs rest (and_parts (is_untagged content) (has_no_raw xs) h).1)
inlines-ended (line_break xs) rest h =
    ap (more (element spaced (codes "br") [] none)) (ap line_end (inlines-ended xs rest h)
    ∙ letter-ended line_feed rest (inlines_trees xs none))
inlines-ended (task d xs) rest h =
    ap (more (element short (codes "input") (pairs_of_box d) none)) (ap (text_before (space ∷ []))
    (inlines-ended xs rest h)
    ∙ letter-ended space rest (inlines_trees xs none))
inlines-ended (raw tag (raw end xs)) rest h =
    let k = anchor-first tag end xs h in
    rw (k.is, k.none, k.ends)
    (ap (more (element spaced (codes "a") (pairs_of_anchor k.id) none)) (inlines-ended xs rest k.rest))
inlines-ended (raw tag no_inlines) rest h = false-true h
inlines-ended (raw tag (letter c xs)) rest h = false-true h
inlines-ended (raw tag (code s xs)) rest h = false-true h
inlines-ended (raw tag (formatted f content xs)) rest h = false-true h
inlines-ended (raw tag (link a t content xs)) rest h = false-true h
inlines-ended (raw tag (image a t content xs)) rest h = false-true h
inlines-ended (raw tag (line_break xs)) rest h = false-true h
inlines-ended (raw tag (task d xs)) rest h = false-true h
