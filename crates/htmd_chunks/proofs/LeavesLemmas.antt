-- What blocks of the source stand for, and one more part.
use Rattle.std.proofs.Common.{◌≡◌, ℕ, ◌+◌, ◌<◌, List, [], ◌∷◌, ◌++◌, length, map, take}
use Rattle.std.proofs.Common.{get_or, sym, ap, ◌∙◌, String}
use Rattle.std.proofs.Common.{string_bytes}
use Rattle.std.specs.Prelude.{Option, Vec}
use Rattle.std.specs.declared.alloc.Global.{Global}
use Rattle.std.proofs.lemmas.List.{map_more, map_push}
use Rattle.htmd_document.specs.declared.document.Alignment.{Alignment}
use Rattle.htmd_document.specs.declared.document.Block as source
use Rattle.htmd_document.specs.declared.document.Block.{Block, fold-roll-Block}
use Rattle.htmd_document.specs.declared.document.Block.TheVariants.{rolls-CodeBlock, rolls-Paragraph, rolls-Table}
use Rattle.htmd_document.specs.declared.document.Inline.{Inline}
use Rattle.htmd_document.specs.DocumentViews.{block_step, block_of, bytes_of_title, inlines_of}
use Rattle.htmd_document.specs.Documents as value
use Rattle.htmd_commonmark.specs.BlockViews.{cells_of, rows_of}

pub block-paragraph : (xs : Vec Inline Global)
    → block_of (source.Paragraph xs) ≡ value.paragraph (inlines_of xs.items)
block-paragraph xs =
    ap block_of (sym (rolls-Paragraph xs)) ∙ fold-roll-Block value.Block block_step (source.Block-F.Paragraph xs)

pub block-code : (language : Option (String Global)) (s : String Global)
    → block_of (source.CodeBlock language s) ≡ value.code_block (bytes_of_title language) (string_bytes s)
block-code language s =
    ap block_of (sym (rolls-CodeBlock language s))
    ∙ fold-roll-Block value.Block block_step (source.Block-F.CodeBlock language s)

pub block-table : (alignments : Vec Alignment Global) (header : Vec (Vec Inline Global) Global)
    (rows : Vec (Vec (Vec Inline Global) Global) Global)
    → block_of (source.Table alignments header rows)
    ≡ value.table alignments.items (cells_of header.items) (rows_of rows.items)
block-table alignments header rows =
    ap block_of (sym (rolls-Table alignments header rows))
    ∙ fold-roll-Block value.Block block_step (source.Block-F.Table alignments header rows)

-- one more part
pub part-pushed : {X : Type 0} (f : X → value.Block) (all : List X) (i : ℕ) (d : X) (parts now : List Block)
    (b : Block)
    → i < length all → now ≡ parts ++ b ∷ [] → block_of b ≡ f (get_or all i d)
    → map block_of parts ≡ map f (take i all) → map block_of now ≡ map f (take (i + 1) all)
part-pushed f all i d parts now b within pushed is was =
    ap (map block_of) pushed ∙ map_push block_of parts b ∙ ap (λ l. l ++ block_of b ∷ []) was
    ∙ ap (λ x. map f (take i all) ++ x ∷ []) is ∙ sym (map_more f all i d within)
