-- From the tokens of a page over its tree to its document.
use Rattle.std.proofs.Common.{◌≡◌, ◌∙◌, ℕ, ◌+◌, Bool, true, false, cond, List, [], ◌∷◌, ◌++◌, filter, refl}
use Rattle.std.proofs.Common.{sym, ap, arith}
use Rattle.std.specs.Prelude.{◌==◌, ◌&&◌, count_by}
use Rattle.std.specs.Str.{chars}
use Rattle.std.proofs.lemmas.Bool.{true≢false, and_parts, eqb-true}
use Rattle.std.proofs.lemmas.List.Elements.{filter-append}
use Rattle.std.proofs.lemmas.List.Sums.{sum_by-cons, sum_by-append}
use Rattle.htmd_lexical.proofs.Cases.{test}
use Rattle.htmd_nodes.specs.Items.{greatest_depth}
use Rattle.htmd_html5.specs.Html5Documents.{state_after, html5_document}
use Rattle.htmd_law_html5.specs.PageLetters.{is_letter, is_character, occurrences, occurrences_in, texts_of}
use Rattle.htmd_law_html5.specs.PageLetters.{token_texts}
use Rattle.htmd_law_html5.specs.LetterOrder.{letters_of, letters_in}
use Rattle.htmd_law_html5.proofs.UndroppedLettersLemmas.{harmless_letters_kept}
use Rattle.htmd_law_html5.proofs.LetterOrderLemmas.{letters_in_order}
use Rattle.htmd_shown.specs.Shown.{Sight, shown_in}
use Rattle.htmd_document_of_tree.specs.declared.anchors.Anchors.{Anchors}
use Rattle.htmd_law_documents.specs.DocumentTexts.{text_of_blocks, is_visible, visible}
use Rattle.htmd_law_documents.proofs.Main.{text_of_tree}
use Rattle.htmd_law_documents.proofs.ShownTreeLemmas.{page-sound}
use Rattle.htmd_law_documents.proofs.StoredTextsLemmas.{tree-text}
use Rattle.htmd_law_pages.specs.Pieces.{Piece, shown, hidden, said, texts_of_page, texts_of_document}
use Rattle.htmd_law_pages.specs.Pieces.{hidden_texts, said_texts}
use Rattle.htmd_law_pages.specs.PageTexts.{is_no_dollar, visible_in, seen_of, seen_in, page_tree, page_pieces}
use Rattle.htmd_law_pages.specs.PageTexts.{page_document, IsRead, PageTextIsWritten, PageTextStandsInOrder}
use Rattle.htmd_law_pages.specs.PageTexts.{AllTextIsWritten}
use Rattle.htmd_law_pages.proofs.LayoutOrder.{texts_laid}
use Rattle.htmd_law_pages.proofs.PieceLemmas.{pieces_in_page, page_reads, undollared, all_same, counted_pieces}

-- ---- letters that can be seen

module _ (p q : ℕ → Bool) where
  abbrev both : List ℕ → List ℕ
  both xs = filter (λ x. p x && q x) xs

  -- what passes both tests
  filter_first : (xs : List ℕ) → both xs ≡ filter q (filter p xs)
  filter_first [] = refl
  filter_first (x ∷ xs) = either (p x) (filter_first xs)
    where
      either : (b : Bool) → both xs ≡ filter q (filter p xs)
          → cond (b && q x) (x ∷ both xs) (both xs) ≡ filter q (cond b (x ∷ filter p xs) (filter p xs))
      either true rest = ap (λ (ys : List ℕ). cond (q x) (x ∷ ys) ys) rest
      either false rest = rest

  filter_second : (xs : List ℕ) → both xs ≡ filter p (filter q xs)
  filter_second [] = refl
  filter_second (x ∷ xs) = either (p x) (q x) refl (filter_second xs)
    where
      either : (a b : Bool) → p x ≡ a → both xs ≡ filter p (filter q xs)
          → cond (a && b) (x ∷ both xs) (both xs) ≡ filter p (cond b (x ∷ filter q xs) (filter q xs))
      either true true e rest =
          ap (λ (ys : List ℕ). x ∷ ys) rest
          ∙ sym (ap (λ c. cond c (x ∷ filter p (filter q xs)) (filter p (filter q xs))) e)
      either false true e rest =
          rest ∙ sym (ap (λ c. cond c (x ∷ filter p (filter q xs)) (filter p (filter q xs))) e)
      either true false e rest = rest
      either false false e rest = rest

-- no dollar sign, and visible
abbrev is_other : ℕ → Bool
is_other c = is_no_dollar c && is_visible c

seen_letters : (texts : List (List ℕ)) → seen_in texts ≡ filter is_other (letters_in texts)
unfolding letters_of
seen_letters [] = refl
seen_letters (s ∷ texts) =
    ap (λ (x : List ℕ). x ++ seen_in texts) (filter_first is_letter is_other (chars s))
    ∙ (ap (λ (x : List ℕ). filter is_other (letters_of s) ++ x) (seen_letters texts)
    ∙ sym (filter-append is_other (letters_of s) (letters_in texts)))

-- of the visible characters these are the letters but dollar signs
seen_visible : (s : List ℕ) → seen_of s ≡ filter is_letter (undollared (visible s))
seen_visible s =
    filter_second is_letter is_other (chars s)
    ∙ ap (filter is_letter) (filter_second is_no_dollar is_visible (chars s))

all_seen_visible : (texts : List (List ℕ)) → seen_in texts ≡ filter is_letter (undollared (visible_in texts))
all_seen_visible [] = refl
all_seen_visible (s ∷ texts) =
    ap (λ (x : List ℕ). x ++ seen_in texts) (seen_visible s)
    ∙ (ap (λ (x : List ℕ). filter is_letter (undollared (visible s)) ++ x) (all_seen_visible texts)
    ∙ (sym (filter-append is_letter (undollared (visible s)) (undollared (visible_in texts)))
    ∙ ap (filter is_letter) (sym (filter-append is_no_dollar (visible s) (visible_in texts)))))

-- ---- the tree of a page

tree_texts : (sight : Sight) (page : List ℕ)
    → texts_of_page (page_pieces sight page) ≡ texts_of (html5_document sight.scripting page)
unfolding html5_document
tree_texts sight page =
    pieces_in_page sight (page_tree sight page) ∙ texts_laid greatest_depth (state_after sight.scripting page).nodes

-- ---- in order

tokens_in_order : (sight : Sight) (page : List ℕ)
    → letters_in (texts_of (html5_document sight.scripting page)) ≡ letters_in (token_texts sight.scripting page)
    → seen_in (token_texts sight.scripting page) ≡ seen_in (texts_of_page (page_pieces sight page))
tokens_in_order sight page e =
    seen_letters (token_texts sight.scripting page)
    ∙ (ap (filter is_other) (sym e)
    ∙ (sym (seen_letters (texts_of (html5_document sight.scripting page)))
    ∙ ap seen_in (sym (tree_texts sight page))))

-- what the document says, but dollar signs
said_same : (which : Anchors) (sight : Sight) (page : List ℕ) → IsRead sight page
    → undollared (visible (text_of_blocks (page_document which sight page)))
    ≡ undollared (visible_in (texts_of_document (page_pieces sight page)))
said_same which sight page h =
    let tree = page_tree sight page in
    let e = tree-text (html5_document sight.scripting page) 0 h.texts in
    all_same (shown_in sight tree) false false (visible (text_of_blocks (page_document which sight page)))
    (page-sound sight tree e) (text_of_tree which sight tree e) ∙ ap undollared (page_reads sight tree e)

said_in_order : (which : Anchors) (sight : Sight) (page : List ℕ) → IsRead sight page
    → seen_of (text_of_blocks (page_document which sight page))
    ≡ seen_in (texts_of_document (page_pieces sight page))
said_in_order which sight page h =
    seen_visible (text_of_blocks (page_document which sight page))
    ∙ (ap (filter is_letter) (said_same which sight page h)
    ∙ sym (all_seen_visible (texts_of_document (page_pieces sight page))))

pub page_text_stands_in_order : PageTextStandsInOrder
page_text_stands_in_order which sight page h e = record {
  of_page = tokens_in_order sight page (letters_in_order sight.scripting page h.utf8 e);
  of_document = said_in_order which sight page h;
}

-- ---- nothing hidden, and nothing said

none_of_both : (xs ys : List ℕ) → xs ++ ys ≡ [] → (xs ≡ []) × (ys ≡ [])
none_of_both [] ys e = (refl, e)
none_of_both (x ∷ xs) ys e = absurd (cc)

same_pieces : (ps : List Piece) → seen_in (hidden_texts ps) ≡ [] → seen_in (said_texts ps) ≡ []
    → seen_in (texts_of_document ps) ≡ seen_in (texts_of_page ps)
same_pieces [] e f = refl
same_pieces (shown s ∷ ps) e f = ap (λ (x : List ℕ). seen_of s ++ x) (same_pieces ps e f)
same_pieces (hidden s ∷ ps) e f =
    let parts = none_of_both (seen_of s) (seen_in (hidden_texts ps)) e in
    same_pieces ps parts.1 f ∙ sym (ap (λ (x : List ℕ). x ++ seen_in (texts_of_page ps)) parts.0)
same_pieces (said s ∷ ps) e f =
    let parts = none_of_both (seen_of s) (seen_in (said_texts ps)) f in
    ap (λ (x : List ℕ). x ++ seen_in (texts_of_document ps)) parts.0 ∙ same_pieces ps e parts.1

pub all_text_is_written : AllTextIsWritten
all_text_is_written which sight page h e f g =
    said_in_order which sight page h
    ∙ (same_pieces (page_pieces sight page) f g
    ∙ sym (tokens_in_order sight page (letters_in_order sight.scripting page h.utf8 e)))

-- ---- counted

-- what passes a test counts where the test is made
counted_in : (p : ℕ → Bool) (c : ℕ) (xs : List ℕ) → p c ≡ true
    → count_by (is_character c) (filter p xs) ≡ count_by (is_character c) xs
counted_in p c [] v = refl
counted_in p c (x ∷ xs) v =
    let rest = counted_in p c xs v in
    let whole : count_by (is_character c) (x ∷ xs) ≡ cond (is_character c x) 1 0 + count_by (is_character c) xs =
    sum_by-cons (λ y. cond (is_character c y) 1 0) x xs in
    test (p x)
    (λ e. ap (λ b. count_by (is_character c) (cond b (x ∷ filter p xs) (filter p xs))) e
    ∙ (sum_by-cons (λ y. cond (is_character c y) 1 0) x (filter p xs)
    ∙ (ap (λ n. cond (is_character c x) 1 0 + n) rest ∙ sym whole)))
    (λ e.
    let none : (x == c) ≡ false = test (x == c)
    (λ f. absurd (true≢false (sym v ∙ (ap p (sym (eqb-true x c f)) ∙ e)))) (λ f. f) in
    let zero : cond {A = ℕ} (is_character c x) 1 0 ≡ 0 = ap (λ b. cond {A = ℕ} b 1 0) none in
    let same : count_by (is_character c) xs ≡ count_by (is_character c) (x ∷ xs) = omega arith in
    ap (λ b. count_by (is_character c) (cond b (x ∷ filter p xs) (filter p xs))) e
    ∙ (rest ∙ same))

-- and no others
counted_visible : (c : ℕ) (s : List ℕ) → is_other c ≡ true
    → count_by (is_character c) (undollared (visible s)) ≡ count_by (is_character c) (chars s)
counted_visible c s v =
    let parts = and_parts (is_no_dollar c) (is_visible c) v in
    counted_in is_no_dollar c (visible s) parts.0 ∙ counted_in is_visible c (chars s) parts.1

counted_texts : (c : ℕ) (texts : List (List ℕ)) → is_other c ≡ true
    → occurrences_in c texts ≡ count_by (is_character c) (undollared (visible_in texts))
unfolding occurrences
counted_texts c [] v = refl
counted_texts c (s ∷ texts) v =
    sum_by-cons (occurrences c) s texts
    ∙ (ap (λ n. occurrences c s + n) (counted_texts c texts v)
    ∙ (ap (λ n. n + count_by (is_character c) (undollared (visible_in texts))) (sym (counted_visible c s v))
    ∙ (sym (sum_by-append (λ x. cond (is_character c x) 1 0) (undollared (visible s))
    (undollared (visible_in texts)))
    ∙ ap (count_by (is_character c)) (sym (filter-append is_no_dollar (visible s) (visible_in texts))))))

counted_said : (which : Anchors) (sight : Sight) (page : List ℕ) (c : ℕ) → IsRead sight page
    → is_other c ≡ true
    → occurrences c (text_of_blocks (page_document which sight page))
    ≡ occurrences_in c (texts_of_document (page_pieces sight page))
unfolding occurrences
counted_said which sight page c h v =
    sym (counted_visible c (text_of_blocks (page_document which sight page)) v)
    ∙ (ap (count_by (is_character c)) (said_same which sight page h)
    ∙ sym (counted_texts c (texts_of_document (page_pieces sight page)) v))

pub page_text_is_written : PageTextIsWritten
page_text_is_written which sight page h c e seen =
    let parts = and_parts (is_letter c) (is_other c) seen in
    let pieces : List Piece = page_pieces sight page in
    let a = counted_said which sight page c h parts.1 in
    let b = counted_pieces c pieces in
    let d = harmless_letters_kept sight.scripting page c h.utf8 e parts.0 in
    let f : occurrences_in c (texts_of_page pieces)
    ≡ occurrences_in c (texts_of (html5_document sight.scripting page)) =
    ap (occurrences_in c) (tree_texts sight page) in
    omega arith
