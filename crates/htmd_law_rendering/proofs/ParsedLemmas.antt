-- The reader of any page reads the HTML of what is read as the document of its trees.
use Rattle.std.proofs.Common.{◌≡◌, Bool, true, false, ◌&&◌, refl, sym, ap, ◌∙◌, subst, ◌++◌, codes}
use Rattle.std.proofs.lemmas.Bool.{and_parts}
use Rattle.htmd_lexical.specs.ByteOrderMarks.{behind_mark}
use Rattle.htmd_lexical.specs.Characters.{null}
use Rattle.htmd_lexical.specs.CharacterClasses.{lacks}
use Rattle.htmd_grammar.specs.HtmlDocuments.{below_body, skeleton}
use Rattle.htmd_nodes.specs.Layout.{document_items}
use Rattle.htmd_html5.specs.Html5Documents.{html5_document}
use Rattle.htmd_law_html5.specs.StrictReferences.{outside, IsUnambiguous}
use Rattle.htmd_law_html5.specs.StrictTrees.{PlainPagesAgree, PlainTextsAgree}
use Rattle.htmd_commonmark_reading.specs.Markup.{Block, Blocks, no_blocks, block}
use Rattle.htmd_commonmark_reading.specs.Rendering.{html_of, is_bare}
use Rattle.htmd_law_rendering.specs.RenderedTrees.{blocks_open, spelled_of, trees_of}
use Rattle.htmd_law_rendering.specs.PlainReadings.{IsPlain, block_is_paired, each_is_paired, blocks_unopened}
use Rattle.htmd_law_rendering.specs.PlainReadings.{block_is_strict, blocks_are_strict, stands_right}
use Rattle.htmd_law_rendering.specs.RenderingLaws.{RenderedIsParsed}
use Rattle.htmd_law_rendering.proofs.RenderedLemmas.{rendered, pairs-end, open_blocks}
use Rattle.htmd_law_rendering.proofs.StrictBlocks.{plain-fits, rendered-reads}
use Rattle.htmd_law_rendering.proofs.CleanLemmas.{IsClean, spelled-clean}
use Rattle.htmd_law_rendering.proofs.BeginningLemmas.{BeginsBody, block-begins}
use Rattle.htmd_law_rendering.proofs.PlainTreeLemmas.{trees-plain}

module _ (pages : PlainPagesAgree) (texts : PlainTextsAgree) (z : Bool) where
  unambiguous : (bs : Blocks) → IsPlain bs → lacks null (html_of bs) ≡ true → IsUnambiguous (html_of bs)
  unambiguous bs p n =
      let fits = plain-fits z bs p in
      let c = subst IsClean (sym (rendered bs p.paired)) (spelled-clean z (spelled_of bs) below_body fits) in
      record { line_feeds = p.no_returns; no_null = n; references_end = c outside }

  behind_body : (bs : Blocks) → IsPlain bs → lacks null (html_of bs) ≡ true
      → html5_document z (codes "<body>" ++ html_of bs) ≡ document_items (skeleton (trees_of bs))
  behind_body bs p n =
      pages z (html_of bs) (trees_of bs) (unambiguous bs p n) (trees-plain bs p.paired p.strict) (rendered-reads z bs p)

  -- what a first block begins
  first_begins : (b : Block) (bs : Blocks) → IsPlain (block b bs) → BeginsBody (spelled_of (block b bs))
  first_begins b bs p =
      let r = pairs-end (block b bs) p.paired in
      let e = and_parts (block_is_paired b) (each_is_paired bs) r.1 in
      let left = blocks_unopened bs in
      let s = and_parts (stands_right below_body left b && block_is_strict below_body left b)
      (blocks_are_strict below_body bs) p.strict in
      let own = (and_parts (stands_right below_body left b) (block_is_strict below_body left b) s.0).1 in
      let bare = is_bare false b in
      block-begins b (blocks_open false bare bs) (blocks_unopened bs) below_body r.0 own
      (λ ms f. (open_blocks false bare bs ms f e.1).0)

  alone : (bs : Blocks) → IsPlain bs → lacks null (html_of bs) ≡ true
      → html5_document z (html_of bs) ≡ document_items (skeleton (trees_of bs))
  unfolding html5_document
  alone no_blocks p n = refl
  alone (block b bs) p n =
      let f = first_begins b bs p in
      let e = rendered (block b bs) p.paired in
      texts z (html_of (block b bs)) (trees_of (block b bs)) (unambiguous (block b bs) p n)
      (ap behind_mark e ∙ (f.unmarked ∙ sym e)) (trees-plain (block b bs) p.paired p.strict) f.belongs
      (rendered-reads z (block b bs) p)

pub parsed : PlainPagesAgree → PlainTextsAgree → RenderedIsParsed
parsed pages texts z bs p n = (alone pages texts z bs p n, behind_body pages texts z bs p n)
