-- Open leaves as the reader holds them.
use Rattle.std.specs.Prelude.{◌≡◌, ℕ, Bool, true, false, not, List, [], ◌∷◌, ◌++◌, length, map}
use Rattle.std.specs.Prelude.{option_map, string_bytes}
use Rattle.htmd_document.specs.declared.document.Alignment.{Alignment}
use Rattle.htmd_commonmark_reading.specs.Boxes.{Open, nothing, leaf, paragraph, indented, fenced, raw, table}
use Rattle.htmd_commonmark_reading.specs.Boxes.{joined_lines, without_last_blanks, ends_blank, language, fitted_rows}
use Rattle.htmd_commonmark_reader.specs.HtmlBlocks.{ends_of}
use Rattle.htmd_commonmark_reader.specs.Rows.{strings}
use Rattle.htmd_commonmark_reader.specs.declared.leaf_rows.Rows.{Rows}
use Rattle.htmd_commonmark_reader.specs.declared.leaves.Paragraph.{Paragraph}
use Rattle.htmd_commonmark_reader.specs.declared.leaves.IndentedCode.{IndentedCode}
use Rattle.htmd_commonmark_reader.specs.declared.leaves.FencedCode.{FencedCode}
use Rattle.htmd_commonmark_reader.specs.declared.leaves.HtmlBlock.{HtmlBlock}
use Rattle.htmd_commonmark_reader.specs.declared.leaves.Table.{Table}
use Rattle.htmd_commonmark_reader.specs.declared.leaves.Leaf.{Leaf}
use Rattle.htmd_commonmark_reader.specs.declared.leaves.Leaf.TheVariants as variant

abbrev pub are_none : List (List ℕ) → Bool
are_none [] = true
are_none (l ∷ ls) = false

-- these are the lines
pub record IsRows (ls : List (List ℕ)) (r : Rows) : Type 0 where
  pub text : string_bytes r.text ≡ joined_lines ls
  pub none : r.is_empty ≡ are_none ls

-- these are the earlier lines and the last one
pub record IsParagraph (ls : List (List ℕ)) (s : List ℕ) (p : Paragraph) : Type 0 where
  pub earlier : IsRows ls p.earlier
  pub last : p.last.now ≡ s

-- these are the lines, with the blank ones at their end apart
pub record IsIndented (ls : List (List ℕ)) (c : IndentedCode) : Type 0 where
  pub front : List (List ℕ)
  pub back : List (List ℕ)
  pub is : ls ≡ front ++ back
  pub rows : IsRows front c.rows
  pub blanks : IsRows back c.blanks
  pub whole : without_last_blanks ls ≡ front
  pub ends : ends_blank ls ≡ not (are_none back)

pub record IsFenced (columns sign count : ℕ) (info : List ℕ) (ls : List (List ℕ)) (c : FencedCode) : Type 0 where
  pub columns_are : c.columns ≡ columns
  pub sign_is : c.sign ≡ sign
  pub count_is : c.count ≡ count
  pub language_is : option_map (λ t. string_bytes t) c.language ≡ language info
  pub rows : IsRows ls c.rows

pub record IsRaw (ends ls : List (List ℕ)) (h : HtmlBlock) : Type 0 where
  pub ends_are : ends_of h.end ≡ ends
  pub rows : IsRows ls h.rows

pub record IsGrid (alignments : List Alignment) (header ls : List (List ℕ)) (t : Table) : Type 0 where
  pub alignments_are : t.alignments.items ≡ alignments
  pub header_is : strings t.header.items ≡ header
  pub rows : map (λ row. strings row.items) t.rows.items ≡ fitted_rows (length alignments) ls

-- this leaf is open, or none
abbrev pub IsLeaf : Leaf → Open → Type 0
IsLeaf variant.Nothing o = o ≡ nothing
IsLeaf (variant.Paragraph p) o =
    (ls : List (List ℕ)) × (s : List ℕ) × (o ≡ leaf (paragraph ls s)) × IsParagraph ls s p
IsLeaf (variant.Indented c) o = (ls : List (List ℕ)) × (o ≡ leaf (indented ls)) × IsIndented ls c
IsLeaf (variant.Fenced c) o =
    (columns : ℕ) × (sign : ℕ) × (count : ℕ) × (info : List ℕ) × (ls : List (List ℕ))
    × (o ≡ leaf (fenced columns sign count info ls)) × IsFenced columns sign count info ls c
IsLeaf (variant.Html h) o =
    (ends : List (List ℕ)) × (ls : List (List ℕ)) × (o ≡ leaf (raw ends ls)) × IsRaw ends ls h
IsLeaf (variant.Table t) o =
    (alignments : List Alignment) × (header : List (List ℕ)) × (ls : List (List ℕ))
    × (o ≡ leaf (table alignments header ls)) × IsGrid alignments header ls t
