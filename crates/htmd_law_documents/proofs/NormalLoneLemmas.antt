-- Rows of blocks in which paragraphs of anchors alone stand right before code blocks.
use Rattle.std.proofs.Common.{◌≡◌, ℕ, Bool, true, false, cond, not, ◌&&◌, ◌||◌, List, [], ◌∷◌, ◌++◌, refl, sym, ap}
use Rattle.std.proofs.Common.{subst}
use Rattle.std.proofs.lemmas.List.{append-nil}
use Rattle.htmd_document.specs.Documents.{text, code, formatted, link, image, anchor, line_break, task}
use Rattle.htmd_document.specs.Documents.{Inlines, no_inlines, inline, Block, paragraph, heading, code_block, quote}
use Rattle.htmd_document.specs.Documents.{thematic_break, list, table, element, tags, no_blocks, block, blocks_of}
use Rattle.htmd_document.specs.LoneAnchors.{is_alone, stand_alone}
use Rattle.htmd_document.specs.NormalInlines.{is_anchor, are_anchors, has_none, anchors_stand_well}
use Rattle.htmd_flow.specs.Paragraphs.{Writing, is_leaf, anchored, shown_content, paragraph_of, open_paragraph}
use Rattle.htmd_law_documents.proofs.NormalBlockLemmas.{these_stand}
use Rattle.htmd_law_documents.proofs.VisibleLemmas.{both-true}
use Rattle.htmd_law_documents.proofs.NormalTextLemmas.{and-true, and-false, true-false, false-true}
use Rattle.htmd_law_documents.proofs.NormalStandLemmas.{stand-well}
use Rattle.htmd_law_documents.proofs.NormalWritingLemmas.{State, at_nothing, at_task, at_leaf, in_task}

-- ---- rows of blocks

later : (a : Bool) {b : Bool} → b ≡ true → (a || b) ≡ true
later true e = refl
later false e = e

-- whether a block is a code block
abbrev pub is_code_block : Block → Bool
is_code_block b = stand_alone false (block b no_blocks)

code-longer : (is_end : Bool) (xs ys : List Block) → stand_alone false (blocks_of xs) ≡ true
    → stand_alone is_end (blocks_of (xs ++ ys)) ≡ true
code-longer is_end [] ys h = false-true h
code-longer is_end (code_block language s ∷ xs) ys h = refl
code-longer is_end (paragraph content ∷ xs) ys h = false-true h
code-longer is_end (heading level content ∷ xs) ys h = false-true h
code-longer is_end (quote content ∷ xs) ys h = false-true h
code-longer is_end (thematic_break ∷ xs) ys h = false-true h
code-longer is_end (list start is_tight items ∷ xs) ys h = false-true h
code-longer is_end (table alignments header rows ∷ xs) ys h = false-true h
code-longer is_end (element name attributes content ∷ xs) ys h = false-true h
code-longer is_end (tags s ∷ xs) ys h = false-true h

-- before a code block
code-next : (xs : List Block) (b : Block) → is_code_block b ≡ true → stand_alone true (blocks_of xs) ≡ true
    → stand_alone false (blocks_of (xs ++ b ∷ [])) ≡ true
code-next [] b c h = c
code-next (code_block language s ∷ xs) b c h = refl
code-next (paragraph content ∷ xs) b c h = false-true h
code-next (heading level content ∷ xs) b c h = false-true h
code-next (quote content ∷ xs) b c h = false-true h
code-next (thematic_break ∷ xs) b c h = false-true h
code-next (list start is_tight items ∷ xs) b c h = false-true h
code-next (table alignments header rows ∷ xs) b c h = false-true h
code-next (element name attributes content ∷ xs) b c h = false-true h
code-next (tags s ∷ xs) b c h = false-true h

either-stands : (alone a b : Bool) → (a ≡ true → b ≡ true) → (not alone || a) ≡ true
    → (not alone || b) ≡ true
either-stands true a b f h = f h
either-stands false a b f h = refl

pub stands-append : (is_end : Bool) (xs ys : List Block) → these_stand false (blocks_of xs) ≡ true
    → these_stand is_end (blocks_of ys) ≡ true → these_stand is_end (blocks_of (xs ++ ys)) ≡ true
stands-append is_end [] ys g h = h
stands-append is_end (x ∷ xs) ys g h =
    let own : Bool = not (is_alone x) || stand_alone false (blocks_of xs) in
    let p = both-true own (these_stand false (blocks_of xs)) g in
    and-true
    (either-stands (is_alone x) (stand_alone false (blocks_of xs)) (stand_alone is_end (blocks_of (xs ++ ys)))
    (code-longer is_end xs ys) p.0) (stands-append is_end xs ys p.1 h)

-- a code block behind those that stood at the end
pub code-behind : (xs : List Block) (b : Block) → is_code_block b ≡ true
    → these_stand true (blocks_of xs) ≡ true → these_stand false (blocks_of (xs ++ b ∷ [])) ≡ true
code-behind [] (code_block language s) c h = refl
code-behind [] (paragraph content) c h = false-true c
code-behind [] (heading level content) c h = false-true c
code-behind [] (quote content) c h = false-true c
code-behind [] thematic_break c h = false-true c
code-behind [] (list start is_tight items) c h = false-true c
code-behind [] (table alignments header rows) c h = false-true c
code-behind [] (element name attributes content) c h = false-true c
code-behind [] (tags s) c h = false-true c
code-behind (x ∷ xs) b c h =
    let own : Bool = not (is_alone x) || stand_alone true (blocks_of xs) in
    let p = both-true own (these_stand true (blocks_of xs)) h in
    and-true
    (either-stands (is_alone x) (stand_alone true (blocks_of xs)) (stand_alone false (blocks_of (xs ++ b ∷ [])))
    (code-next xs b c) p.0) (code-behind xs b c p.1)

pub one-stands : (b : Block) → is_alone b ≡ false → these_stand false (block b no_blocks) ≡ true
one-stands b e = ap (λ a. (not a || false) && true) e

-- one more that isn't anchors alone
pub block-behind : (xs : List Block) (b : Block) → is_alone b ≡ false → these_stand false (blocks_of xs) ≡ true
    → these_stand false (blocks_of (xs ++ b ∷ [])) ≡ true
block-behind xs b e h = stands-append false xs (b ∷ []) h (one-stands b e)

-- whatever stands at the end
pub last-stands : (xs : List Block) (ys : Inlines) → these_stand false (blocks_of xs) ≡ true
    → these_stand true (blocks_of (xs ++ paragraph_of ys)) ≡ true
last-stands xs ys h = stands-append true xs (paragraph_of ys) h (by ys)
  where
    by : (zs : Inlines) → these_stand true (blocks_of (paragraph_of zs)) ≡ true
    by no_inlines = refl
    by (inline z zs) = and-true (later (not (are_anchors (inline z zs))) refl) refl

-- what stands anywhere stands at the end
pub stands-last : (xs : List Block) → these_stand false (blocks_of xs) ≡ true
    → these_stand true (blocks_of xs) ≡ true
stands-last xs h =
    subst (λ (bs : List Block). these_stand true (blocks_of bs) ≡ true) (append-nil xs)
    (stands-append true xs [] h refl)

-- ---- what shows in a paragraph isn't anchors alone

-- it is nothing, or more than anchors
abbrev ShowsMore : Inlines → Type 0
ShowsMore xs = has_none xs ≡ false → are_anchors xs ≡ false

well-shows : (xs : Inlines) → anchors_stand_well xs ≡ true → ShowsMore xs
well-shows no_inlines h e = true-false e
well-shows (inline (anchor id) no_inlines) h e = false-true h
well-shows (inline (text s) no_inlines) h e = refl
well-shows (inline (code s) no_inlines) h e = refl
well-shows (inline (formatted f ys) no_inlines) h e = refl
well-shows (inline (link a t ys) no_inlines) h e = refl
well-shows (inline (image a t d) no_inlines) h e = refl
well-shows (inline line_break no_inlines) h e = refl
well-shows (inline (task b) no_inlines) h e = refl
well-shows (inline x (inline y ys)) h e =
    let rest = both-true _ (anchors_stand_well (inline y ys)) h in
    and-false (is_anchor x) (well-shows (inline y ys) rest.1 refl)

either-shows : (b : Bool) (xs : Inlines) → (b ≡ true → ShowsMore xs) → ShowsMore (cond b xs no_inlines)
either-shows true xs f = f refl
either-shows false xs f = λ e. true-false e

shown-more : (w : Writing) → w.anchors ≡ [] → State w → ShowsMore (shown_content w)
shown-more w a (at_nothing e f) = subst (λ (b : Bool). ShowsMore (cond b w.content no_inlines)) (sym (ap is_leaf e))
    (λ n. true-false n)
shown-more w a (at_task b e f g) = subst (λ (b : Bool). ShowsMore (cond b w.content no_inlines)) (sym (ap is_leaf e))
    (λ n. true-false n)
shown-more w a (at_leaf k e h) =
    either-shows (is_leaf w.latest) w.content (λ i. well-shows w.content (stand-well w.content h.stands))
shown-more w a (in_task k e f h) =
    either-shows (is_leaf w.latest) w.content (λ i n. ap are_anchors h.is)

paragraph-stands : (xs : Inlines) → ShowsMore xs → these_stand false (blocks_of (paragraph_of xs)) ≡ true
paragraph-stands no_inlines h = refl
paragraph-stands (inline x xs) h = one-stands (paragraph (inline x xs)) (h refl)

-- where no anchor waits
pub open-stands : (w : Writing) → State w → w.anchors ≡ [] → these_stand false (blocks_of w.done) ≡ true
    → these_stand false (blocks_of (w.done ++ open_paragraph w)) ≡ true
open-stands w s a h =
    stands-append false w.done (open_paragraph w) h
    (subst (λ (ids : List (List ℕ)).
    these_stand false (blocks_of (paragraph_of (anchored 0 (shown_content w) [] ids))) ≡ true) (sym a)
    (paragraph-stands (shown_content w) (shown-more w a s)))
