-- Blocks that hold no others come back: lines, code, and tables of GitHub's form.
use Rattle.std.proofs.Common.{◌≡◌, ℕ, suc, Bool, true, false, ◌&&◌, List, [], refl, ap, ◌∙◌, subst, codes, Option}
use Rattle.std.proofs.Common.{Some, None, map, ◌<◌}
use Rattle.std.specs.List.{list_all}
use Rattle.std.proofs.lemmas.Bool.{and_parts, and_from}
use Rattle.htmd_lexical.specs.AttributePairs.{AttributePair}
use Rattle.htmd_values.specs.ValueTrees as value
use Rattle.htmd_nodes.specs.NumberedTrees.{NumberedForest, value_forest}
use Rattle.htmd_nodes.specs.NumberedTrees as page
use Rattle.htmd_document.specs.Documents as documents
use Rattle.htmd_document.specs.NormalDocuments.{is_normal_block, has_language, is_code_byte}
use Rattle.htmd_shown.specs.declared.role.Role.TheVariants as role
use Rattle.htmd_shown.specs.Facts.{made, facts_of}
use Rattle.htmd_shown.specs.SimpleTrees.{Simple, Simples, text, none, more}
use Rattle.htmd_law_rendering.specs.RenderedTrees.{heading_name, code_trees, code_block_tree, pairs_of_language}
use Rattle.htmd_law_returning.proofs.LineFactLemmas.{line-seen}
use Rattle.htmd_law_returning.specs.SettledDocuments.{is_settled_block, is_settled_code, has_settled_language}
use Rattle.htmd_law_returning.specs.SettledDocuments.{weight_of_block, is_settled_line, are_away}
use Rattle.htmd_law_returning.proofs.OddTables.{has_odd_table}
use Rattle.htmd_law_returning.specs.PageFormats.{line_shows, block_shows}
use Rattle.htmd_law_returning.proofs.LineFormLemmas.{whole-inlines}
use Rattle.htmd_law_returning.proofs.ShownLineLemmas.{line-shown-at}
use Rattle.htmd_law_returning.proofs.FormatLemmas.{covers-none}
use Rattle.htmd_law_returning.proofs.InlineLemmas.{free-none}
use Rattle.htmd_law_returning.proofs.StandLemmas.{Stands}
use Rattle.htmd_law_returning.proofs.TreesLemmas.{line_trees}
use Rattle.htmd_law_returning.proofs.BlockTrees.{trees_in, cut_block, cut_blocks, spelled_table}
use Rattle.htmd_law_returning.proofs.GridLemmas.{cut_row}
use Rattle.htmd_law_returning.proofs.TableShownLemmas.{table-inside, table-shown}
use Rattle.htmd_law_returning.proofs.StartLemmas.{false-true}
use Rattle.htmd_law_returning.proofs.TaskLemmas.{paragraph-parts, paragraph-some, paragraph-fed, paragraph-shown-at}
use Rattle.htmd_law_returning.proofs.CodeLemmas.{with_end, IsShownCode, code-shows, language-found, language-nameless}
use Rattle.htmd_law_returning.proofs.PageLemmas.{line_before, from-block, block-order, from-none, from-text}
use Rattle.htmd_law_returning.proofs.PageLemmas.{from-element, IsFresh, fresh-first, shown_of, paragraph-shown}
use Rattle.htmd_law_returning.proofs.PageLemmas.{break-shown, shown_in_heading, pre-shown, heading-shown}
use Rattle.htmd_law_returning.proofs.OrderLemmas.{is_ordered}
use Rattle.htmd_law_returning.proofs.HeldLemmas.{are_black_ended, are_held, line-held}
use Rattle.htmd_shown.specs.Pieces.{greatest_count}
use Rattle.htmd_law_rendering.specs.SpelledTrees.{value_forest as forest_of}
use Rattle.htmd_law_returning.proofs.FlowLemmas.{break-gives, heading-gives, paragraph-gives, pre-gives, bare-gives}
use Rattle.htmd_law_returning.proofs.ReturnedBlocks.{behind, first-one, IsFirst}
use Rattle.htmd_law_returning.specs.LastingAnchors.{line_keeps, heading_keeps}
use Rattle.htmd_document.specs.LoneAnchors.{is_alone}
use Rattle.htmd_law_returning.proofs.HeadingLemmas.{heading-normal}
use Rattle.htmd_law_returning.proofs.BlockSteps.{stays, lasting-line}

-- what holds no blocks
abbrev pub is_leaf : documents.Block → Bool
is_leaf (documents.paragraph xs) = true
is_leaf (documents.heading level xs) = true
is_leaf documents.thematic_break = true
is_leaf (documents.code_block language s) = true
is_leaf (documents.table alignments header rows) = true
is_leaf b = false

module _ (scripting is_rich : Bool) where
  pub leaf-first : (block : documents.Block) (d : documents.Blocks) (b is_end : Bool)
      (before : Option (List AttributePair)) (f : NumberedForest) (n : ℕ) → IsFresh before
      → Stands (value_forest f) (trees_in (documents.block block d)) → is_leaf block ≡ true
      → is_settled_block (cut_block block) ≡ true → stays is_end (cut_block block) (cut_blocks d) ≡ true
      → block_shows is_rich (cut_block block) ≡ true → is_normal_block b (cut_block block) ≡ true
      → (is_rich && has_odd_table block) ≡ false → weight_of_block (cut_block block) < greatest_count
      → (k : ℕ) → is_ordered k f ≡ true → is_alone (cut_block block) ≡ false
      → IsFirst scripting is_rich before f n (cut_block block) d
  leaf-first (documents.paragraph xs) d b is_end before f n fresh e leaf settled keep formats normal plain light k o
      other =
      let line = paragraph-parts b xs settled normal (lasting-line is_end xs (cut_blocks d) keep other) in
      let own = from-block f (codes "p") [] (line_trees xs) (trees_in d) e refl in
      let order = block-order k f own.id (codes "p") [] own.inside own.line own.rest own.is o in
      let content : Simples = shown_of scripting is_rich None own.inside in
      let shown = paragraph-shown-at scripting is_rich xs own.inside n own.within line formats light order.0 in
      first-one scripting is_rich before f own.rest n own.line (made own.id role.Paragraph [] content) []
      (documents.paragraph xs) d
      (ap (shown_of scripting is_rich before) own.is
      ∙ paragraph-shown scripting is_rich before own.id own.inside (behind own.line own.rest) fresh)
      (paragraph-gives is_rich n own.id content shown.numbers xs
      shown.sound shown.spent shown.waits shown.gives (paragraph-some xs line) shown.plain shown.shows other shown.first
      (paragraph-fed shown.numbers xs line shown.rising))
      own.others (suc own.line) order.1
  leaf-first (documents.heading level xs) d b is_end before f n fresh e leaf settled keep formats normal plain light k o
      other =
      let whole = and_parts (is_settled_line xs) (are_away xs) settled in
      let line = heading-normal level xs normal in
      let keeps = and_parts (line_keeps xs) (heading_keeps xs)
      (and_parts (line_keeps xs && heading_keeps xs) true keep).0 in
      let held = and_parts (are_black_ended xs) (are_held xs)
      (line-held xs line.normal whole.0 line.stands keeps.0) in
      let shows = and_from (are_away xs) (line_shows is_rich xs) whole.1 formats in
      let own = from-block f (heading_name level) [] (line_trees xs) (trees_in d) e refl in
      let order = block-order k f own.id (heading_name level) [] own.inside own.line own.rest own.is o in
      let shown = line-shown-at scripting is_rich xs 0 false true None own.inside [] [] covers-none free-none
      fresh-first own.within line.normal held.1 shows light order.0 in
      first-one scripting is_rich before f own.rest n own.line
      (made own.id (role.Heading level) [] (shown_in_heading scripting is_rich own.inside))
      [] (documents.heading level xs) d
      (ap (shown_of scripting is_rich before) own.is
      ∙ heading-shown scripting is_rich before own.id own.inside (behind own.line own.rest) level line.right fresh)
      (heading-gives is_rich n own.id level (shown_in_heading scripting is_rich own.inside) shown.numbers
      xs shown.sound (shown.led keeps.1) shown.spent shown.waits
      (shown.gives true n) (whole-inlines xs line.some held.0)
      (shown.plain.bold (line-seen xs false [] (whole-inlines xs line.some held.0) line.normal held.1))
      line.normal held.1 shown.rising)
      own.others (suc own.line) order.1
  leaf-first documents.thematic_break d b is_end before f n fresh e leaf settled keep formats normal plain light k o
      other =
      let own = from-block f (codes "hr") [] value.none (trees_in d) e refl in
      let order = block-order k f own.id (codes "hr") [] own.inside own.line own.rest own.is o in
      first-one scripting is_rich before f own.rest n own.line (made own.id role.ThematicBreak [] none) []
      documents.thematic_break
      d
      (ap (shown_of scripting is_rich before) own.is
      ∙ break-shown scripting is_rich before own.id own.inside (behind own.line own.rest) fresh)
      (bare-gives is_rich n (made own.id role.ThematicBreak [] none) documents.thematic_break
      (break-gives is_rich n own.id) refl refl) own.others (suc own.line) order.1
  leaf-first (documents.code_block language s) d b is_end before f n fresh e leaf settled keep formats normal plain
      light k o
      other =
      let good = and_parts (has_settled_language language) (is_settled_code s) settled in
      let shows : IsShownCode s =
      code-shows s good.1 (and_parts (has_language language) (list_all is_code_byte s) normal).1 in
      let pairs : List AttributePair = pairs_of_language language in
      let own = from-block f (codes "pre") [] (forest_of (code_block_tree language s)) (trees_in d) e refl in
      let order = block-order k f own.id (codes "pre") [] own.inside own.line own.rest own.is o in
      let code = from-element own.inside (codes "code") pairs (forest_of (code_trees s)) value.none own.within in
      let line = from-text code.inside (with_end s) value.none
      (subst (Stands (value_forest code.inside)) shows.tree code.within) in
      let inside : own.inside ≡ page.more (page.element code.id (codes "code") pairs
      (page.more (page.text line.id (with_end s)) page.none)) page.none =
      code.is ∙ (ap (λ g. page.more (page.element code.id (codes "code") pairs g) code.rest)
      (line.is ∙ ap (page.more (page.text line.id (with_end s))) (from-none line.rest line.others))
      ∙ ap (page.more (page.element code.id (codes "code") pairs
      (page.more (page.text line.id (with_end s)) page.none))) (from-none code.rest code.others)) in
      let shown : List ℕ → Simple = λ t. made own.id role.Preformatted []
      (more (made code.id role.Code pairs (more (text t) none)) none) in
      first-one scripting is_rich before f own.rest n own.line (shown (with_end s)) []
      (documents.code_block language s) d
      (ap (shown_of scripting is_rich before) own.is
      ∙ (ap (λ g. shown_of scripting is_rich before
      (page.more (page.element own.id (codes "pre") [] g) (behind own.line own.rest))) inside
      ∙ (pre-shown scripting is_rich before own.id code.id line.id pairs (with_end s)
      (behind own.line own.rest) fresh
      ∙ ap (λ t. more (shown t) (shown_of scripting is_rich (Some []) (behind own.line own.rest))) shows.shown)))
      (pre-gives is_rich n own.id code.id pairs (with_end s) s language (language-nameless language) shows.black
      shows.seen shows.feeds shows.cut shows.longer
      (language-found code.id (facts_of (more (text (with_end s)) none)) (more (text (with_end s)) none) language
      good.0))
      own.others (suc own.line) order.1
  leaf-first (documents.table alignments header rows) d b is_end before f n fresh e leaf settled keep formats normal
      plain light k o
      other =
      let own = from-block f (codes "table") [] (line_before (forest_of (spelled_table alignments header rows)))
      (trees_in d) e refl in
      let order = block-order k f own.id (codes "table") [] own.inside own.line own.rest own.is o in
      let inner = table-inside scripting is_rich n alignments own.id header rows own.inside own.within settled
      (and_parts _ true keep).0 formats normal light plain order.0 in
      first-one scripting is_rich before f own.rest n own.line
      (made own.id role.Table [] (shown_of scripting is_rich None own.inside)) []
      (documents.table alignments header (map cut_row rows)) d
      (ap (shown_of scripting is_rich before) own.is
      ∙ table-shown scripting is_rich before own.id own.inside (behind own.line own.rest) fresh inner.unnumbered)
      inner.gives own.others (suc own.line) order.1
  leaf-first block d b is_end before f n fresh e leaf settled keep formats normal plain light k o other =
      false-true leaf
