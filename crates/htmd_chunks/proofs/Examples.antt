-- Lines of JSON of a few pieces; which pieces may be longer than asked.
use Rattle.std.proofs.Common.{◌≡◌, true, false, List, ℕ, [], ◌∷◌, Some, None, refl}
use Rattle.std.specs.Fmt.{digits}
use Rattle.std.specs.Prelude.{codes}
use Rattle.json.specs.Print.{escape_byte}
use Rattle.htmd_document.specs.Documents.{no_inlines, inline, text, paragraph, heading, list, Block}
use Rattle.htmd_document.specs.Documents.{no_blocks, block, no_items, item}
use Rattle.htmd_chunks.specs.ChunkLines.{texts, beginning, start_and_joints, number_and_path}
use Rattle.htmd_chunks.specs.Pieces.{Piece}
use Rattle.htmd_chunks.specs.ShortPieces.{may_be_longer}
use Rattle.htmd_chunks.specs.declared.joint.Joint.TheVariants as joint

-- under `Tea` and `A "green"`, it goes on in block 17, in an item of a loose list
abbrev piece : Piece
piece = record {
  path = codes "Tea" ∷ codes "A \"green\"\n" ∷ [];
  start = 17;
  continues = joint.LooseList ∷ joint.Item ∷ [];
  blocks = block (paragraph (inline (text (codes "a")) no_inlines)) no_blocks;
}

texts-none : texts [] ≡ codes "[]"
texts-none = refl

path-two : number_and_path 3 piece ≡ codes "\"n\":3,\"path\":[\"Tea\",\"A \\\"green\\\"\\n\"]"
unfolding escape_byte digits
path-two = refl

place-item : start_and_joints piece ≡ codes ",\"start\":17,\"continues\":[\"loose list\",\"item\"]"
unfolding escape_byte digits
place-item = refl

beginning-none : beginning None None ≡ codes "{"
beginning-none = refl

beginning-both : beginning (Some (codes "a\\b.html")) (Some (codes "{}"))
    ≡ codes "{\"page\":\"a\\\\b.html\",\"front\":{},"
unfolding escape_byte
beginning-both = refl

-- ---- pieces that may be longer than asked

abbrev a_paragraph : List ℕ → Block
a_paragraph s = paragraph (inline (text s) no_inlines)

word-longer : may_be_longer (block (a_paragraph (codes "tea")) no_blocks) ≡ true
word-longer = refl

heading-longer : may_be_longer (block (heading 1 (inline (text (codes "Green tea")) no_inlines)) no_blocks) ≡ true
heading-longer = refl

heading-and-word-short : may_be_longer
    (block (heading 1 (inline (text (codes "Green tea")) no_inlines)) (block (a_paragraph (codes "tea")) no_blocks))
    ≡ false
heading-and-word-short = refl

item-longer : may_be_longer
    (block (list None true (item (block (a_paragraph (codes "tea")) no_blocks) no_items)) no_blocks) ≡ true
item-longer = refl

items-short : may_be_longer
    (block (list None true (item (block (a_paragraph (codes "tea")) no_blocks)
    (item (block (a_paragraph (codes "tea")) no_blocks) no_items))) no_blocks) ≡ false
items-short = refl

-- two items, and behind them an empty one
empty-item-longer : may_be_longer
    (block (list None true (item (block (a_paragraph (codes "tea")) no_blocks)
    (item (block (a_paragraph (codes "tea")) no_blocks) (item no_blocks no_items)))) no_blocks) ≡ true
empty-item-longer = refl
