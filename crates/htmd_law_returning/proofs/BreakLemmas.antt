-- Breaks before a line, whose trees begin with no empty text.
use Rattle.std.proofs.Common.{◌≡◌, ℕ, Bool, true, false, ◌&&◌, List, [], ◌∷◌, refl, codes}
use Rattle.std.proofs.lemmas.Bool.{and_parts}
use Rattle.htmd_lexical.specs.CharacterClasses.{is_empty}
use Rattle.htmd_values.specs.ValueTrees as value
use Rattle.htmd_nodes.specs.NumberedTrees.{NumberedForest}
use Rattle.htmd_document.specs.Documents.{text, code, formatted, link, image, anchor, line_break, task}
use Rattle.htmd_document.specs.Documents.{Inlines, no_inlines, inline}
use Rattle.htmd_document.specs.Formats.{Format}
use Rattle.htmd_document.specs.NormalInlines.{is_line, is_text, are_normal}
use Rattle.htmd_law_rendering.specs.RenderedTrees.{line_end}
use Rattle.htmd_law_rendering.specs.SpelledTrees.{value_forest as forest_of}
use Rattle.htmd_law_rendering.specs.SpelledTrees as spelled
use Rattle.htmd_law_returning.proofs.HeldLemmas.{are_held}
use Rattle.htmd_law_returning.proofs.LineFormLemmas.{normal-one}
use Rattle.htmd_law_returning.proofs.PageLemmas.{IsElement}
use Rattle.htmd_law_returning.proofs.StandLemmas.{begins_filled}
use Rattle.htmd_law_returning.proofs.StartLemmas.{false-true, true-false}
use Rattle.htmd_law_returning.proofs.TreesLemmas.{spelled_line}

-- nodes that begin with a break before a line
abbrev pub IsBreak : NumberedForest → Inlines → Type 0
IsBreak f xs = IsElement f (codes "br") [] value.none (forest_of (line_end (spelled_line xs)))

pub some-text : (s : List ℕ) → is_text s ≡ true → is_empty s ≡ false
some-text [] h = false-true (and_parts (is_line []) false (and_parts (is_line [] && false) true h).0).1
some-text (b ∷ s) h = refl

filled-first : (s : List ℕ) (ts : spelled.SpelledForest) → is_empty s ≡ false
    → begins_filled (spelled.more (spelled.text s) ts) ≡ true
filled-first [] ts h = true-false h
filled-first (b ∷ s) ts h = refl

pub line-filled : (xs : Inlines) (b : Bool) (fs : List Format) → are_normal b fs xs ≡ true → are_held xs ≡ true
    → begins_filled (spelled_line xs) ≡ true
line-filled no_inlines b fs n h = refl
line-filled (inline (text s) xs) b fs n h =
    filled-first s (spelled_line xs) (some-text s (normal-one b fs (text s) xs n).own)
line-filled (inline (code s) xs) b fs n h = refl
line-filled (inline (formatted m c) xs) b fs n h = refl
line-filled (inline (link a t c) xs) b fs n h = refl
line-filled (inline (image a t d) xs) b fs n h = refl
line-filled (inline (anchor id) xs) b fs n h = refl
line-filled (inline line_break xs) b fs n h = refl
line-filled (inline (task d) xs) b fs n h = refl
