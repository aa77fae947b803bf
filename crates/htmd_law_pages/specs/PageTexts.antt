-- The texts of the tokens of a page, and what its document says.
use Rattle.std.specs.Prelude.{◌≡◌, ℕ, ◌+◌, Bool, true, false, not, ◌==◌, ◌&&◌, List, [], ◌∷◌, ◌++◌, filter, IsUtf8}
use Rattle.std.specs.Str.{chars}
use Rattle.htmd_nodes.specs.Items.{HoldTexts}
use Rattle.htmd_nodes.specs.NumberedTrees.{NumberedTree, tree_of}
use Rattle.htmd_html5.specs.Html5Documents.{html5_document}
use Rattle.htmd_law_html5.specs.PageLetters.{is_letter, occurrences, occurrences_in, token_texts}
use Rattle.htmd_law_html5.specs.DroppedTexts.{no_tag_drops_text}
use Rattle.htmd_law_html5.specs.LetterOrder.{no_tag_moves_text}
use Rattle.htmd_document.specs.Documents.{Blocks}
use Rattle.htmd_shown.specs.AllTexts.{dollar_sign}
use Rattle.htmd_shown.specs.Shown.{Sight, shown_in}
use Rattle.htmd_document_of_tree.specs.declared.anchors.Anchors.{Anchors}
use Rattle.htmd_document_of_tree.specs.TreeDocuments.{document_of_tree}
use Rattle.htmd_law_documents.specs.DocumentTexts.{text_of_blocks, is_visible, visible}
use Rattle.htmd_law_documents.specs.SimpleTexts.{text_of_simples}
use Rattle.htmd_law_documents.specs.TreeForms.{is_text_tree}
use Rattle.htmd_law_pages.specs.Pieces.{Piece, texts_in, pieces_in, texts_of_page, texts_of_document}
use Rattle.htmd_law_pages.specs.Pieces.{hidden_texts, said_texts}

-- ---- letters that can be seen

-- dollar signs stand around a formula in a line, but not around one that is a block
abbrev pub is_no_dollar : ℕ → Bool
is_no_dollar c = not (c == dollar_sign)

-- no white space, also past ASCII, no dollar sign, and neither U+0000, U+FEFF nor U+FFFD
abbrev pub is_seen : ℕ → Bool
is_seen c = is_letter c && (is_no_dollar c && is_visible c)

-- those of a text
abbrev pub seen_of : List ℕ → List ℕ
seen_of s = filter is_seen (chars s)

-- and of all of these, one after another
abbrev pub seen_in : List (List ℕ) → List ℕ
seen_in [] = []
seen_in (s ∷ texts) = seen_of s ++ seen_in texts

-- ---- a page

-- the tree that a page is read as, its pieces, and its document
abbrev pub page_tree : Sight → List ℕ → NumberedTree
page_tree sight page = tree_of (html5_document sight.scripting page) 0

abbrev pub page_pieces : Sight → List ℕ → List Piece
page_pieces sight page = pieces_in sight (page_tree sight page)

abbrev pub page_document : Anchors → Sight → List ℕ → Blocks
page_document which sight page = document_of_tree which sight (page_tree sight page)

-- A page in UTF-8 of which a tree is made. The texts and values of each tree of the source are UTF-8.
pub record IsRead (sight : Sight) (page : List ℕ) : Type 0 where
  pub utf8 : IsUtf8 page
  pub texts : HoldTexts (html5_document sight.scripting page)

-- ---- what a document has of a page

-- Without a start tag of `frameset` or `template`: each letter stands in the document as often as in the texts of the
-- page's tokens, but for texts that are hidden, and for what the document says that is no text of the page.
abbrev pub CountsLetters : Sight → List ℕ → Blocks → Type 0
CountsLetters sight page d =
    (c : ℕ) → no_tag_drops_text sight.scripting page ≡ true → is_seen c ≡ true
    → occurrences c (text_of_blocks d) + occurrences_in c (hidden_texts (page_pieces sight page))
    ≡ occurrences_in c (token_texts sight.scripting page) + occurrences_in c (said_texts (page_pieces sight page))

-- The letters of the tokens' texts are in the same order those of the pieces that stand in the page, and the letters of
-- the document those of the pieces that stand in the document.
pub record IsInOrder (sight : Sight) (page : List ℕ) (d : Blocks) : Type 0 where
  pub of_page : seen_in (token_texts sight.scripting page) ≡ seen_in (texts_of_page (page_pieces sight page))
  pub of_document : seen_of (text_of_blocks d) ≡ seen_in (texts_of_document (page_pieces sight page))

-- So it is without a start tag of `frameset`, `template` or `table`.
abbrev pub KeepsOrder : Sight → List ℕ → Blocks → Type 0
KeepsOrder sight page d = no_tag_moves_text sight.scripting page ≡ true → IsInOrder sight page d

-- And where no letter is hidden, and none is said, the letters of the document are in order those of the tokens' texts.
abbrev pub HasAllText : Sight → List ℕ → Blocks → Type 0
HasAllText sight page d =
    no_tag_moves_text sight.scripting page ≡ true → seen_in (hidden_texts (page_pieces sight page)) ≡ []
    → seen_in (said_texts (page_pieces sight page)) ≡ []
    → seen_of (text_of_blocks d) ≡ seen_in (token_texts sight.scripting page)

-- ---- the pieces of a tree

-- the visible characters of these texts, one after another
abbrev pub visible_in : List (List ℕ) → List ℕ
visible_in [] = []
visible_in (s ∷ texts) = visible s ++ visible_in texts

-- All texts of a tree are among its pieces, in order, shown or hidden; and every visible character of those that stand
-- in the document shows, in order, and no other. A formula stands there as in a line.
pub record ArePieces (sight : Sight) (tree : NumberedTree) : Type 0 where
  pub all : texts_of_page (pieces_in sight tree) ≡ texts_in tree
  pub show : visible (text_of_simples true false (shown_in sight tree))
      ≡ visible_in (texts_of_document (pieces_in sight tree))

-- ---- the laws

-- So it is for every tree of texts.
abbrev pub PiecesShow : Type 0
PiecesShow = (sight : Sight) (tree : NumberedTree) → is_text_tree tree ≡ true → ArePieces sight tree

-- The letters of each page that is read are counted so in its document.
abbrev pub PageTextIsWritten : Type 0
PageTextIsWritten =
    (which : Anchors) (sight : Sight) (page : List ℕ) → IsRead sight page
    → CountsLetters sight page (page_document which sight page)

-- They stand there in that order.
abbrev pub PageTextStandsInOrder : Type 0
PageTextStandsInOrder =
    (which : Anchors) (sight : Sight) (page : List ℕ) → IsRead sight page
    → KeepsOrder sight page (page_document which sight page)

-- And where nothing is hidden or said, there are no others.
abbrev pub AllTextIsWritten : Type 0
AllTextIsWritten =
    (which : Anchors) (sight : Sight) (page : List ℕ) → IsRead sight page
    → HasAllText sight page (page_document which sight page)
