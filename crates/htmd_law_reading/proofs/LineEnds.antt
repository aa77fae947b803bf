-- A line feed after what is written ends its last line, and begins none: what is read stays as it is.
use Rattle.std.proofs.Common.{◌≡◌, ◌∙◌, refl, ap, sym, subst, ℕ, Bool, false, List, [], ◌∷◌, ◌++◌, append_assoc, codes}
use Rattle.std.specs.Prelude.{◌==◌, if◌then◌else◌}
use Rattle.std.specs.Char.{encode_utf8}
use Rattle.std.specs.List.{flat_map}
use Rattle.std.proofs.lemmas.List.{append-nil}
use Rattle.htmd_lexical.specs.Characters.{null, line_feed, carriage_return}
use Rattle.htmd_document.specs.Documents.{Block, Blocks, no_blocks, block}
use Rattle.htmd_document.specs.FlatDocuments.{flattened}
use Rattle.htmd_commonmark.specs.declared.options.DocumentOptions.{DocumentOptions}
use Rattle.htmd_commonmark.specs.BlockMarkdown.{written_blocks}
use Rattle.htmd_commonmark.specs.DocumentMarkdown.{flat_markdown, markdown_of, written_definitions, outermost}
use Rattle.htmd_commonmark_reading.specs.Characters.{replacement_character}
use Rattle.htmd_commonmark_reading.specs.Lines.{split_lines, without_null, onto_first, placed}
use Rattle.htmd_commonmark_reading.specs.Boxes.{joined_lines}
use Rattle.htmd_commonmark_reading.specs.Containers.{parsed}
use Rattle.htmd_commonmark_reading.specs.LinkDefinitions.{Definition}
use Rattle.htmd_commonmark_reading.specs.Reading.{read, finished, nested_of}
use Rattle.htmd_commonmark_reading.specs.SeenMarkup.{seen_blocks, document_blocks}
use Rattle.htmd_law_blocks.specs.BlockLaws.{definition_lines}
use Rattle.htmd_law_blocks.specs.DocumentTexts.{AreOneLine, DefinitionTexts}
use Rattle.htmd_law_blocks.proofs.TextsLemmas.{IsClean, AreClean, IsFull}
use Rattle.htmd_law_blocks.proofs.FlatLemmas.{one_clean, further_full}
use Rattle.htmd_law_blocks.proofs.DocumentPieces.{first_pieces, first_written}
use Rattle.htmd_law_blocks.proofs.DocumentReadBack.{document_filled}
use Rattle.htmd_law_blocks.proofs.PieceTextsLemmas.{filled_is_text, filled_joined}
use Rattle.htmd_law_blocks.proofs.PiecesLemmas.{pieces_lines}
use Rattle.htmd_document.specs.NormalDocuments.{IsFlat, IsNormal}
use Rattle.htmd_law_inlines.proofs.TextPieces.{test}
use Rattle.htmd_law_texts.specs.TextLaws.{definitions_of}
use Rattle.htmd_law_texts.proofs.NormalForm.{blocks_are_normal}
use Rattle.htmd_law_texts.proofs.DocumentLaws.{texts_are_lines, definitions_are_read}
use Rattle.htmd_law_texts.proofs.FlatForm.{normal_is_flat}
use Rattle.htmd_law_reading.specs.ReadingLaws.{file_of, FilesReadBack}
use Rattle.htmd_law_reading.proofs.ReadingMain.{reads_back}

-- ---- texts that end in a line

-- there is a last character, and it ends no line
abbrev EndsInLine : List ℕ → Type 0
EndsInLine [] = ⊥
EndsInLine (c ∷ []) = ((c == line_feed) ≡ false) × ((c == carriage_return) ≡ false)
EndsInLine (c ∷ d ∷ s) = EndsInLine (d ∷ s)

ends_cons : (c : ℕ) (s : List ℕ) → EndsInLine s → EndsInLine (c ∷ s)
ends_cons c [] h = absurd h
ends_cons c (d ∷ s) h = h

ends_append : (s t : List ℕ) → EndsInLine t → EndsInLine (s ++ t)
ends_append [] t h = h
ends_append (c ∷ s) t h = ends_cons c (s ++ t) (ends_append s t h)

clean_ends : (c : ℕ) (l : List ℕ) → IsClean (c ∷ l) → EndsInLine (c ∷ l)
clean_ends c [] h = (h.0, h.1)
clean_ends c (d ∷ l) h = clean_ends d l h.3

lines_end : (ls : List (List ℕ)) → AreClean ls → IsFull ls → EndsInLine (joined_lines ls)
lines_end [] a f = absurd f
lines_end ([] ∷ []) a f = absurd f
lines_end ((c ∷ l) ∷ []) a f = subst EndsInLine (sym (append-nil (c ∷ l))) (clean_ends c l a.0)
lines_end (l ∷ m ∷ ls) a f =
    ends_append l (10 ∷ joined_lines (m ∷ ls)) (ends_cons 10 (joined_lines (m ∷ ls)) (lines_end (m ∷ ls) a.1 f))

-- ---- a line feed after them

-- what a character makes of the lines of what follows it
abbrev with_character : ℕ → Bool → List (List ℕ) → List (List ℕ)
with_character c is_feed ls =
    if c == line_feed
    then [] ∷ ls
    else if c == carriage_return then if is_feed then ls else [] ∷ ls else onto_first c ls

same_lines : (s : List ℕ) → EndsInLine s → split_lines (s ++ (10 ∷ [])) ≡ split_lines s
same_lines [] h = absurd h
same_lines (c ∷ []) h = rw (h.0, h.1) refl
same_lines (c ∷ d ∷ s) h = ap (with_character c (d == line_feed)) (same_lines (d ∷ s) h)

-- a character as a reader has it
abbrev replaced : ℕ → List ℕ
replaced c = if c == null then encode_utf8 replacement_character else c ∷ []

replaced_first : (c : ℕ) (s : List ℕ) → without_null (c ∷ s) ≡ replaced c ++ without_null s
replaced_first c s = test (c == null) (λ e. rw e refl) (λ e. rw e refl)

nulls_after : (s t : List ℕ) → without_null (s ++ t) ≡ without_null s ++ without_null t
nulls_after [] t = refl
nulls_after (c ∷ s) t =
    replaced_first c (s ++ t) ∙ ap (λ u. replaced c ++ u) (nulls_after s t)
    ∙ sym (append_assoc (replaced c) (without_null s) (without_null t))
    ∙ ap (λ u. u ++ without_null t) (sym (replaced_first c s))

replaced_ends : (c : ℕ) → EndsInLine (c ∷ []) → EndsInLine (replaced c)
unfolding encode_utf8
replaced_ends c h = test (c == null) (λ e. rw e (refl, refl)) (λ e. rw e h)

nulls_end : (s : List ℕ) → EndsInLine s → EndsInLine (without_null s)
nulls_end [] h = absurd h
nulls_end (c ∷ []) h =
    subst EndsInLine (sym (replaced_first c [] ∙ append-nil (replaced c))) (replaced_ends c h)
nulls_end (c ∷ d ∷ s) h =
    subst EndsInLine (sym (replaced_first c (d ∷ s)))
    (ends_append (replaced c) (without_null (d ∷ s)) (nulls_end (d ∷ s) h))

-- what is read stays as it is
same_reading : (s : List ℕ) → EndsInLine s → read (s ++ (10 ∷ [])) ≡ read s
same_reading s h =
    ap (λ ls. finished (parsed (placed ls)))
    (ap split_lines (nulls_after s (10 ∷ [])) ∙ same_lines (without_null s) (nulls_end s h))

-- ---- what is written

definitions_end : (first : List ℕ) (rest : List (List ℕ)) → AreClean (first ∷ rest) → IsFull (first ∷ rest)
    → EndsInLine (first ++ flat_map (λ definition. codes "\n" ++ definition) rest)
definitions_end [] [] a f = absurd f
definitions_end (c ∷ l) [] a f = subst EndsInLine (sym (append-nil (c ∷ l))) (clean_ends c l a.0)
definitions_end first (m ∷ ms) a f =
    ends_append first (10 ∷ (m ++ flat_map (λ definition. codes "\n" ++ definition) ms))
    (ends_cons 10 (m ++ flat_map (λ definition. codes "\n" ++ definition) ms) (definitions_end m ms a.1 f))

after_definitions : (s : List ℕ) (ls : List (List ℕ)) (found : List Definition) → DefinitionTexts ls found
    → EndsInLine s → EndsInLine (s ++ written_definitions ls)
after_definitions s [] found v h = subst EndsInLine (sym (append-nil s)) h
after_definitions s (first ∷ rest) found v h =
    ends_append s (written_definitions (first ∷ rest))
    (ends_append (codes "\n\n") (first ++ flat_map (λ definition. codes "\n" ++ definition) rest)
    (definitions_end first rest (all_clean (first ∷ rest) v.one_line)
    (further_full first rest v.lines.0.black v.lines.1)))
  where
    all_clean : (ls : List (List ℕ)) → AreOneLine ls → AreClean ls
    all_clean [] h = tt
    all_clean (l ∷ ls) h = (one_clean l h.0 h.1, all_clean ls h.2)

-- what is written of a flat document with blocks
written_ends : (options : DocumentOptions) (first : Block) (rest : Blocks) → IsFlat (block first rest)
    → EndsInLine (flat_markdown options (block first rest))
written_ends options first rest n =
    let d = block first rest in
    let ps = first_pieces options outermost [] d in
    let normal = blocks_are_normal d n in
    let good = document_filled options d tt normal (texts_are_lines options d n) in
    let t = filled_is_text ps good.0 good.1 in
    after_definitions (written_blocks options outermost [] d).text (definition_lines options d)
    (definitions_of options d) (definitions_are_read options d n)
    (subst EndsInLine (sym (filled_joined ps good.0 good.1) ∙ first_written options outermost [] d normal)
    (lines_end (pieces_lines ps) t.0 t.1))

same_flat : (options : DocumentOptions) (d : Blocks) → IsFlat d
    → read (flat_markdown options d ++ (10 ∷ [])) ≡ read (flat_markdown options d)
same_flat options no_blocks n = refl
same_flat options (block first rest) n =
    same_reading (flat_markdown options (block first rest)) (written_ends options first rest n)

-- of a file is read what is read of its Markdown
pub files_read : (options : DocumentOptions) (d : Blocks) → IsNormal d
    → read (file_of options d) ≡ read (markdown_of options d)
files_read options d n = same_flat options (flattened d) (normal_is_flat d n)

pub files_read_back : FilesReadBack
files_read_back options d n few =
    ap (λ bs. nested_of (document_blocks (seen_blocks bs))) (files_read options d n) ∙ reads_back options d n few
