-- Each block of a normal and settled document comes back, by its structure.
use Rattle.std.proofs.Common.{◌≡◌, ℕ, suc, ◌+◌, ◌≤◌, Bool, true, false, ◌&&◌, List, ◌∷◌, refl, sym, ap, ◌∙◌, subst}
use Rattle.std.proofs.Common.{arith, codes, Option, Some, None, ◌||◌, ◌<◌, []}
use Rattle.std.specs.List.{list_all}
use Rattle.std.proofs.lemmas.Bool.{and_parts}
use Rattle.std.proofs.lemmas.Bool.Decides.{nat_tests}
use Rattle.htmd_lexical.specs.Characters.{line_feed}
use Rattle.htmd_lexical.specs.AttributePairs.{AttributePair}
use Rattle.htmd_nodes.specs.NumberedTrees.{NumberedForest, value_forest}
use Rattle.htmd_nodes.specs.NumberedTrees as page
use Rattle.htmd_document.specs.DocumentLimits.{most_nested}
use Rattle.htmd_document.specs.Documents as documents
use Rattle.htmd_document.specs.NormalDocuments.{is_normal_block, are_normal_blocks, depth_of, depth_among}
use Rattle.htmd_document.specs.NormalDocuments.{are_normal_items, are_tight, may_be_tight, depth_of_items}
use Rattle.htmd_document.specs.NormalDocuments.{is_normal_element}
use Rattle.htmd_document.specs.TightItems.{is_filled}
use Rattle.htmd_shown.specs.declared.role.Role.TheVariants as role
use Rattle.htmd_shown.specs.Facts.{made}
use Rattle.htmd_shown.specs.SimpleTrees.{Simples, text, more}
use Rattle.htmd_law_rendering.specs.RenderedTrees.{pairs_of_element}
use Rattle.htmd_law_returning.specs.SettledDocuments.{is_settled_block, are_settled_blocks, weight_in}
use Rattle.htmd_law_returning.specs.SettledDocuments.{weight_of_block, are_settled_items, numbers_fit}
use Rattle.htmd_law_returning.specs.SettledDocuments.{block_numbers_fit, item_numbers_fit, is_right_list}
use Rattle.htmd_law_returning.specs.SettledDocuments.{weight_of_items, is_open_at_most, are_settled_in}
use Rattle.htmd_law_returning.specs.SettledDocuments.{has_filled_element, blocks_are_away, has_caption}
use Rattle.htmd_law_returning.proofs.OpenLemmas.{open-kept}
use Rattle.htmd_law_returning.proofs.TaskLemmas.{unboxed, may-always}
use Rattle.htmd_document.specs.declared.document.BlockElement.TheVariants as an
use Rattle.htmd_document.specs.FlatDocuments.{text_in_line, flat_items, flattened}
use Rattle.htmd_document.specs.NormalInlines.{is_attribute}
use Rattle.htmd_law_returning.proofs.OddTables.{has_odd_table, have_odd_tables, items_have_odd_tables}
use Rattle.htmd_law_returning.specs.PageFormats.{block_shows, formats_show, items_show}
use Rattle.htmd_law_returning.proofs.InlineLemmas.{left-light, right-light}
use Rattle.htmd_law_returning.proofs.StandLemmas.{Stands}
use Rattle.htmd_law_returning.proofs.BlockTrees.{trees_in, trees_of_items, item_trees, spelled_in, behind_first}
use Rattle.htmd_law_returning.proofs.BlockTrees.{cut_block, cut_blocks, cut_items, spelled_element, table_parts}
use Rattle.htmd_law_returning.proofs.StartLemmas.{false-true, begins_boxed, in_blocks}
use Rattle.htmd_law_returning.proofs.TableCaptions.{caption-known, caption-left}
use Rattle.htmd_law_returning.proofs.TablePartLemmas.{table-first, one-row, one-cell, none-rows, none-cells}
use Rattle.htmd_law_returning.proofs.TablePartLemmas.{HasRows, HasCells, cell-returned, table-trees, HasTable}
use Rattle.htmd_law_returning.proofs.TablePartLemmas.{nothing-left, section-left, table_trees, section-trees}
use Rattle.htmd_law_returning.proofs.TablePartLemmas.{row_trees, after_trees, more-rows-trees, after-row-trees}
use Rattle.htmd_law_returning.proofs.TablePartLemmas.{no-rows-trees, after-caption-trees}
use Rattle.htmd_law_returning.proofs.ElementForms.{parts-alone, in-alone, flow-plain, terms-long}
use Rattle.htmd_law_returning.proofs.FirstTargets.{line-first, line-seen-none}
use Rattle.htmd_law_returning.proofs.LeanTrees.{line-lean, black-filled}
use Rattle.htmd_law_returning.specs.SettledTables.{is_border_at_most, are_rows_of_element, rows_in, end_at_captions}
use Rattle.htmd_law_returning.proofs.TableContents.{rows_first, behind_rows, rows-split, rows-are, none-begins}
use Rattle.htmd_law_returning.proofs.PageLemmas.{line_before, from-block, block-order, from-none, from-text, IsFresh}
use Rattle.htmd_law_returning.proofs.PageLemmas.{fresh-first, fresh-next, shown_of, line-shown, quote-shown}
use Rattle.htmd_law_returning.proofs.PageLemmas.{none-shown, details-shown, item-shown}
use Rattle.htmd_law_returning.proofs.CostLemmas.{spend-text, spend-past}
use Rattle.htmd_law_returning.proofs.OrderLemmas.{is_ordered, ordered-next}
use Rattle.htmd_shown.specs.Pieces.{greatest_count}
use Rattle.htmd_law_rendering.specs.SpelledTrees.{value_forest as forest_of}
use Rattle.htmd_law_returning.proofs.ListFlowLemmas.{AreItems, more-items, none-items}
use Rattle.htmd_law_returning.proofs.FlowLemmas.{GivesBlock, blocks-inside, details-gives, quote-gives, titled_of}
use Rattle.htmd_law_returning.proofs.ReturnedBlocks.{none-left, all-ready, list_in, list-in, AreReturned, one-more}
use Rattle.htmd_law_returning.proofs.ReturnedBlocks.{none-returned, behind, first-one, IsFirst}
use Rattle.htmd_law_returning.proofs.ItemBlocks.{IsContent, item-content}
use Rattle.htmd_lexical.proofs.Cases.{test}
use Rattle.htmd_law_returning.specs.LastingAnchors.{lines_in, title_keeps}
use Rattle.htmd_document.specs.LoneAnchors.{is_alone}
use Rattle.htmd_law_returning.proofs.KeptBlocks.{blocks_keep, items_keep}
use Rattle.htmd_law_returning.proofs.SoundNodes.{sound-text}
use Rattle.htmd_law_returning.proofs.KindLemmas.{line-waits}
use Rattle.htmd_law_returning.proofs.ElementTrees.{cut-text}
use Rattle.htmd_law_returning.proofs.InsideLemmas.{inside_trees, element-trees, inside-returned}
use Rattle.htmd_law_returning.proofs.TitleLemmas.{title-inside}
use Rattle.htmd_law_returning.proofs.ShownInlines.{shown_at}
use Rattle.htmd_law_returning.proofs.ReadyLemmas.{parts_of}
use Rattle.htmd_law_returning.proofs.ElementShown.{terms-shown, term-shown, meaning-shown, summary-shown}
use Rattle.htmd_law_returning.proofs.FigureLemmas.{AreInFigure, figure-none, figure-first}
use Rattle.htmd_law_returning.proofs.FigureBlocks.{figure-one, caption-one, alone-in-figure}
use Rattle.htmd_law_returning.proofs.GivenBlocks.{AreGiven, plain-parts, titled-parts, given-none, given-first}
use Rattle.htmd_law_returning.proofs.GivenBlocks.{given-title, returned-given}
use Rattle.htmd_law_returning.proofs.DescriptionLemmas.{AreDescribed, described-none, described-term}
use Rattle.htmd_law_returning.proofs.DescriptionLemmas.{described-meaning, terms-gives}
use Rattle.htmd_law_returning.proofs.LeafBlocks.{leaf-first}
use Rattle.htmd_law_returning.proofs.ListBlocks.{list-first}
use Rattle.htmd_law_returning.proofs.BlockSteps.{left-fits, right-fits, none-of, or-false, alone-first, alone-titled}
use Rattle.htmd_law_returning.proofs.BlockSteps.{stays, kept-inside, part-known, cell-settled}

module _ (scripting is_rich : Bool) where
  mutual
    pub returned : (d : documents.Blocks) (b is_end : Bool) (before : Option (List AttributePair))
        (f : NumberedForest) (n : ℕ)
        → IsFresh before → Stands (value_forest f) (trees_in d) → are_settled_blocks (cut_blocks d) ≡ true
        → blocks_keep is_end (cut_blocks d) ≡ true
        → formats_show is_rich (cut_blocks d) ≡ true → are_normal_blocks b (cut_blocks d) ≡ true
        → depth_among (cut_blocks d) + n ≤ most_nested
        → numbers_fit n (cut_blocks d) ≡ true → (is_rich && have_odd_tables d) ≡ false
        → weight_in (cut_blocks d) < greatest_count
        → (k : ℕ) → is_ordered k f ≡ true → AreReturned scripting is_rich is_end before f n (cut_blocks d)
    returned documents.no_blocks in_one is_end before f n fresh e settled keep formats normal fits numbers plain light k
        o =
        none-returned scripting is_rich is_end before f n e
    returned (documents.block b d) in_one is_end before f n fresh e settled keep formats normal fits numbers plain light
        k o =
        let own : documents.Block = cut_block b in
        let rest : documents.Blocks = cut_blocks d in
        let parts = and_parts (is_settled_block own) (are_settled_blocks rest) settled in
        let keeps = and_parts (stays is_end own rest) (blocks_keep is_end rest) keep in
        let shows = and_parts (block_shows is_rich own) (formats_show is_rich rest) formats in
        let good = and_parts (is_normal_block in_one own) (are_normal_blocks false rest) normal in
        let low = and_parts (block_numbers_fit n own) (numbers_fit n rest) numbers in
        let free = none-of is_rich (has_odd_table b) (have_odd_tables d) plain in
        let later : (attributes : List AttributePair) (g : NumberedForest) → Stands (value_forest g) (trees_in d)
        → (k : ℕ) → is_ordered k g ≡ true → AreReturned scripting is_rich is_end (Some attributes) g n rest =
        λ attributes g h j p. returned d false is_end (Some attributes) g n (fresh-next attributes) h parts.1 keeps.1
        shows.1 good.1 (right-fits (depth_of own) (depth_among rest) n most_nested fits) low.1 free.1
        (right-light (weight_of_block own) (weight_in rest) light) j p in
        test (is_alone own)
        (λ alone. alone-first scripting is_rich b d in_one is_end before f n fresh e alone keeps.0 good.0 k o
        (later []))
        (λ other.
        let first = one-returned b d in_one is_end before f n fresh e parts.0 keeps.0 shows.0 good.0
        (left-fits (depth_of own) (depth_among rest) n most_nested fits) low.0 free.0
        (left-light (weight_of_block own) (weight_in rest) light) k o other in
        one-more scripting is_rich is_end before f n own d rest first
        (later first.attributes first.rest first.others first.number first.ordered) (unboxed rest good.1))

    one-returned : (block : documents.Block) (d : documents.Blocks) (b is_end : Bool)
        (before : Option (List AttributePair)) (f : NumberedForest) (n : ℕ) → IsFresh before
        → Stands (value_forest f) (trees_in (documents.block block d))
        → is_settled_block (cut_block block) ≡ true → stays is_end (cut_block block) (cut_blocks d) ≡ true
        → block_shows is_rich (cut_block block) ≡ true
        → is_normal_block b (cut_block block) ≡ true
        → depth_of (cut_block block) + n ≤ most_nested → block_numbers_fit n (cut_block block) ≡ true
        → (is_rich && has_odd_table block) ≡ false → weight_of_block (cut_block block) < greatest_count
        → (k : ℕ)
        → is_ordered k f ≡ true → is_alone (cut_block block) ≡ false
        → IsFirst scripting is_rich before f n (cut_block block) d
    one-returned (documents.paragraph xs) d b is_end before f n fresh e settled keep formats normal
        fits numbers plain light k o other =
        leaf-first scripting is_rich (documents.paragraph xs) d b is_end before f n fresh e refl settled
        keep formats normal plain light k o other
    one-returned (documents.heading level xs) d b is_end before f n fresh e settled keep formats normal
        fits numbers plain light k o other =
        leaf-first scripting is_rich (documents.heading level xs) d b is_end before f n fresh e refl settled
        keep formats normal plain light k o other
    one-returned documents.thematic_break d b is_end before f n fresh e settled keep formats normal
        fits numbers plain light k o other =
        leaf-first scripting is_rich documents.thematic_break d b is_end before f n fresh e refl settled
        keep formats normal plain light k o other
    one-returned (documents.quote all) d b is_end before f n fresh e settled keep formats normal fits numbers plain
        light k
        o other =
        let seen : documents.Blocks = cut_blocks all in
        let good = and_parts (is_filled seen) (are_normal_blocks false seen) normal in
        let own = from-block f (codes "blockquote") [] (line_before (trees_in all)) (trees_in d) e refl in
        let order = block-order k f own.id (codes "blockquote") [] own.inside own.line own.rest own.is o in
        let inner = from-text own.inside (line_feed ∷ []) (trees_in all) own.within in
        let within : AreReturned scripting is_rich false None inner.rest (suc n) seen =
        returned all false false None inner.rest (suc n) fresh-first inner.others settled
        (and_parts (blocks_keep false seen) true keep).0
        formats good.1
        (omega arith) numbers
        plain light (suc inner.id) (ordered-next 0 own.inside (page.text inner.id
        (line_feed ∷ [])) inner.rest inner.is order.0).rest in
        let ts : Simples = shown_of scripting is_rich None inner.rest in
        let content : shown_of scripting is_rich None own.inside ≡ more (text (line_feed ∷ [])) ts =
        ap (shown_of scripting is_rich None) inner.is ∙ line-shown scripting is_rich None inner.id inner.rest in
        let after : Simples = shown_of scripting is_rich (Some []) (behind own.line own.rest) in
        first-one scripting is_rich before f own.rest n own.line
        (made own.id role.BlockQuote [] (more (text (line_feed ∷ [])) ts))
        [] (documents.quote seen) d
        (ap (shown_of scripting is_rich before) own.is
        ∙ (quote-shown scripting is_rich before own.id own.inside (behind own.line own.rest) fresh
        ∙ ap (λ us. more (made own.id role.BlockQuote [] us) after) content))
        (quote-gives is_rich n own.id (more (text (line_feed ∷ [])) ts) seen
        (grind (arith, nat_tests, fits)) good.0
        (black-filled seen (and_parts (blocks_keep false seen) true keep).0 ∙ good.0)
        (sound-text (line_feed ∷ []) ts (lines_in seen) within.sound)
        (spend-past (weight_in seen) (text (line_feed ∷ [])) ts (spend-text (line_feed ∷ [])) within.spent)
        (line-lean is_rich seen ts within.lean) (λ k. line-first ts ∙ within.first k)
        (λ k. line-seen-none ts ∙ within.unseen k)
        (line-waits ts ∙ none-left scripting is_rich None inner.rest (suc n) seen within)
        (blocks-inside is_rich (suc n) ts (list_in seen)
        (λ w h. all-ready scripting is_rich None inner.rest (suc n) seen within in_blocks w [] h
        (may-always (begins_boxed seen) in_blocks [] (unboxed seen good.1))) ∙ list-in seen))
        own.others (suc own.line) order.1
    one-returned (documents.code_block language s) d b is_end before f n fresh e settled keep formats normal
        fits numbers plain light k o other =
        leaf-first scripting is_rich (documents.code_block language s) d b is_end before f n fresh e refl settled
        keep formats normal plain light k o other
    one-returned (documents.list start is_tight items) d b is_end before f n fresh e settled keep formats normal fits
        numbers plain light k o other =
        let seen : documents.Items = cut_items items in
        list-first scripting is_rich start is_tight items d before f n fresh e settled fits numbers normal k o
        (λ g h tight form low j p. items-returned items is_tight None g (suc n) fresh-first h
        (and_parts (is_right_list is_tight seen) (are_settled_items seen) settled).1
        (and_parts (items_keep seen) true keep).0 formats tight form (omega arith) low plain light j p)
    one-returned (documents.table alignments header rows) d b is_end before f n fresh e settled keep formats normal
        fits numbers plain light k o other =
        leaf-first scripting is_rich (documents.table alignments header rows) d b is_end before f n fresh e refl settled
        keep formats normal plain light k o other
    one-returned (documents.element an.Details attributes all) d b is_end before f n fresh e settled keep formats normal
        fits
        numbers plain light k
        o other =
        let seen : documents.Blocks = cut_blocks all in
        let pairs : List AttributePair = pairs_of_element attributes in
        let good = and_parts (is_open_at_most attributes) (are_settled_in an.Details seen) settled in
        let own_keep = kept-inside seen keep in
        let own_pairs = open-kept attributes good.0 in
        let rich = and_parts is_rich (formats_show is_rich seen) formats in
        let form = and_parts (is_normal_element an.Details attributes seen) (are_normal_blocks false seen) normal in
        let filled = (and_parts (list_all (λ a. is_attribute a.value) attributes) (is_filled seen || false)
        form.0).1 in
        let own = from-block f (codes "details") pairs (inside_trees (text_in_line all) (trees_in all)) (trees_in d)
        (subst (Stands (value_forest f))
        (element-trees an.Details attributes (text_in_line all) (spelled_in all) (spelled_in d)) e) refl in
        let order = block-order k f own.id (codes "details") pairs own.inside own.line own.rest own.is o in
        let content : Simples = shown_of scripting is_rich None own.inside in
        let within = inside-returned scripting is_rich n (titled_of an.Summary is_rich n)
        (titled-parts is_rich n an.Summary) all own.inside
        (subst (λ t. Stands (value_forest own.inside) (inside_trees t (trees_in all))) (sym (cut-text all)) own.within)
        (in-alone an.Details seen good.1) rich.1 form.1 light order.0
        (λ g h j p. titled-returned all rich.0 None g n fresh-first h good.1 own_keep rich.1 form.1 fits numbers
        plain light j p) in
        first-one scripting is_rich before f own.rest n own.line (made own.id role.Details pairs content) pairs
        (documents.element an.Details attributes seen) d
        (ap (shown_of scripting is_rich before) own.is
        ∙ details-shown scripting is_rich before own.id pairs own.inside (behind own.line own.rest)
        (own_pairs.fresh before) own_pairs.plain)
        (subst (λ kept. GivesBlock is_rich n (made own.id role.Details pairs content)
        (documents.element an.Details kept seen)) own_pairs.kept
        (details-gives is_rich n own.id pairs content seen rich.0 own_pairs.nameless
        (or-false (is_filled seen) filled) within.sound within.spent within.waits
        (within.shows ∙ (black-filled seen own_keep ∙ or-false (is_filled seen) filled)) within.first within.unseen
        within.written.gives))
        own.others (suc own.line) order.1
    one-returned (documents.element an.Terms [] all) d b is_end before f n fresh e settled keep formats normal fits
        numbers plain light k
        o other =
        let seen : documents.Blocks = cut_blocks all in
        let good = and_parts (has_filled_element seen) (are_settled_in an.Terms seen) settled in
        let own_keep = kept-inside seen keep in
        let rich = and_parts is_rich (formats_show is_rich seen) formats in
        let form = and_parts (is_normal_element an.Terms [] seen) (are_normal_blocks false seen) normal in
        let own = from-block f (codes "dl") [] (line_before (trees_in all)) (trees_in d)
        (subst (λ t. Stands (value_forest f) (forest_of (spelled_element an.Terms [] t (spelled_in all)
        (spelled_in d))))
        (sym (cut-text all) ∙ terms-long seen good.1 good.0) e) refl in
        let order = block-order k f own.id (codes "dl") [] own.inside own.line own.rest own.is o in
        let inner = from-text own.inside (line_feed ∷ []) (trees_in all) own.within in
        let within : AreDescribed is_rich n (shown_of scripting is_rich None inner.rest) seen =
        terms-returned all None inner.rest n fresh-first inner.others good.1 own_keep rich.1 form.1 fits numbers plain
        light
        (suc inner.id) (ordered-next 0 own.inside (page.text inner.id
        (line_feed ∷ [])) inner.rest inner.is order.0).rest in
        let ts : Simples = shown_of scripting is_rich None inner.rest in
        let after : Simples = shown_of scripting is_rich (Some []) (behind own.line own.rest) in
        first-one scripting is_rich before f own.rest n own.line
        (made own.id role.Terms [] (more (text (line_feed ∷ [])) ts)) []
        (documents.element an.Terms [] seen) d
        (ap (shown_of scripting is_rich before) own.is
        ∙ (terms-shown scripting is_rich before own.id own.inside (behind own.line own.rest) fresh
        ∙ ap (λ us. more (made own.id role.Terms [] us) after)
        (ap (shown_of scripting is_rich None) inner.is
        ∙ line-shown scripting is_rich None inner.id inner.rest)))
        (terms-gives is_rich n own.id ts seen rich.0 within good.0)
        own.others (suc own.line) order.1
    one-returned (documents.element an.Table attributes all) d b is_end before f n fresh e settled keep formats normal
        fits numbers plain light k o other =
        let seen : documents.Blocks = cut_blocks all in
        let shape : Bool = are_rows_of_element attributes (rows_in None seen) in
        let place : Bool = end_at_captions (rows_in None seen) in
        let good = and_parts (is_border_at_most attributes && (place && shape)) (are_settled_in an.Table seen)
        settled in
        let both = and_parts (is_border_at_most attributes) (place && shape) good.0 in
        let form_of = and_parts place shape both.1 in
        let rich = and_parts is_rich (formats_show is_rich seen) formats in
        let form = and_parts (is_normal_element an.Table attributes seen) (are_normal_blocks false seen) normal in
        let own_keep = kept-inside seen keep in
        let filled = or-false (is_filled seen)
        (and_parts (list_all (λ a. is_attribute a.value) attributes) (is_filled seen || false) form.0).1 in
        table-first scripting is_rich n attributes seen d (table_trees all) before f k
        (subst (Stands (value_forest f)) (table-trees attributes all d (parts-alone seen good.1) filled) e)
        rich.0 both.0 form_of.0 form_of.1 good.1 o
        (λ g h j p. table-returned all None g n fresh-first h good.1 own_keep rich.1 form.1 fits numbers
        plain light j p)
    one-returned (documents.element an.Figure [] all) d b is_end before f n fresh e settled keep formats normal fits
        numbers plain light k o other =
        let seen : documents.Blocks = cut_blocks all in
        let own_keep = kept-inside seen keep in
        let good = and_parts (has_caption seen) (are_settled_in an.Figure seen) settled in
        let rich = and_parts is_rich (formats_show is_rich seen) formats in
        let form = and_parts (is_normal_element an.Figure [] seen) (are_normal_blocks false seen) normal in
        figure-one scripting is_rich n all d before f k fresh e rich.0 good.0 (or-false (is_filled seen) form.0) o
        (λ g h j p. figure-returned all rich.0 None g n fresh-first h good.1 own_keep rich.1 form.1 fits numbers plain
        light j p)
    one-returned (documents.element name attributes content) d b is_end before f n fresh e settled keep formats normal
        fits numbers
        plain light k
        o other =
        false-true settled
    one-returned (documents.tags s) d b is_end before f n fresh e settled keep formats normal fits numbers plain light k
        o other =
        false-true settled

    -- what stands in a `details`
    titled-returned : (d : documents.Blocks) → is_rich ≡ true → (before : Option (List AttributePair))
        (f : NumberedForest) (n : ℕ)
        → IsFresh before → Stands (value_forest f) (trees_in d) → are_settled_in an.Details (cut_blocks d)
        ≡ true
        → blocks_keep false (cut_blocks d) ≡ true
        → formats_show is_rich (cut_blocks d) ≡ true → are_normal_blocks false (cut_blocks d) ≡ true
        → depth_among (cut_blocks d) + n ≤ most_nested
        → numbers_fit n (cut_blocks d) ≡ true → (is_rich && have_odd_tables d) ≡ false
        → weight_in (cut_blocks d) < greatest_count
        → (k : ℕ) → is_ordered k f ≡ true
        → AreGiven (titled_of an.Summary is_rich n) (shown_of scripting is_rich before f) (cut_blocks d)
    titled-returned documents.no_blocks rich before f n fresh e settled keep formats normal fits numbers plain light k
        o =
        subst (λ (ts : Simples). AreGiven (titled_of an.Summary is_rich n) ts documents.no_blocks)
        (sym (ap (shown_of scripting is_rich before) (from-none f e) ∙ none-shown scripting is_rich before))
        (given-none (titled_of an.Summary is_rich n) (titled-parts is_rich n an.Summary))
    titled-returned (documents.block (documents.element an.Summary [] all) d) rich before f n fresh e settled keep
        formats normal
        fits numbers plain light k o =
        let seen : documents.Blocks = cut_blocks all in
        let rest : documents.Blocks = cut_blocks d in
        let parts = and_parts (blocks_are_away seen && are_settled_in an.Summary seen)
        (are_settled_in an.Details rest) settled in
        let own_parts = and_parts (blocks_are_away seen) (are_settled_in an.Summary seen) parts.0 in
        let keeps = and_parts ((blocks_keep false seen && title_keeps seen) && true) (blocks_keep false rest) keep in
        let own_keep = and_parts (blocks_keep false seen) (title_keeps seen)
        (and_parts (blocks_keep false seen && title_keeps seen) true keeps.0).0 in
        let shows = and_parts (is_rich && formats_show is_rich seen) (formats_show is_rich rest) formats in
        let own_shows = (and_parts is_rich (formats_show is_rich seen) shows.0).1 in
        let lighter = left-light (weight_in seen) (weight_in rest) light in
        let good = and_parts (is_normal_block false (documents.element an.Summary [] seen))
        (are_normal_blocks false rest)
        normal in
        let form = and_parts (is_normal_element an.Summary [] seen) (are_normal_blocks false seen) good.0 in
        let low = and_parts (numbers_fit n seen) (numbers_fit n rest) numbers in
        let free = none-of is_rich (have_odd_tables all) (have_odd_tables d) plain in
        let own = from-block f (codes "summary") [] (inside_trees (text_in_line all) (trees_in all)) (trees_in d)
        (subst (Stands (value_forest f))
        (element-trees an.Summary [] (text_in_line all) (spelled_in all) (spelled_in d)) e) refl in
        let order = block-order k f own.id (codes "summary") [] own.inside own.line own.rest own.is o in
        let content : Simples = shown_at scripting is_rich true None own.inside in
        let within = title-inside scripting is_rich n all own.inside own.within
        own_parts.0 (in-alone an.Summary seen own_parts.1) own_keep.0 own_shows form.1 lighter order.0
        (λ g h j p. returned-given scripting is_rich None g n seen rich (unboxed seen form.1)
        (returned all false false None g n fresh-first h (sym (flow-plain an.Summary refl seen) ∙ own_parts.1)
        own_keep.0 own_shows form.1 (left-fits (depth_among seen) (depth_among rest) n most_nested fits) low.0 free.0
        lighter j p)) in
        let later = titled-returned d rich (Some []) own.rest n (fresh-next []) own.others parts.1 keeps.1 shows.1
        good.1
        (right-fits (depth_among seen) (depth_among rest) n most_nested fits) low.1 free.1
        (right-light (weight_in seen) (weight_in rest) light) (suc own.line) order.1 in
        let ts : Simples = shown_of scripting is_rich (Some []) own.rest in
        subst (λ (us : Simples). AreGiven (titled_of an.Summary is_rich n) us
        (documents.block (documents.element an.Summary [] seen) rest))
        (sym (ap (shown_of scripting is_rich before) own.is
        ∙ (summary-shown scripting is_rich before own.id own.inside (behind own.line own.rest) fresh
        ∙ ap (more (made own.id role.Summary [] content)) (line-shown scripting is_rich
        (Some []) own.line own.rest))))
        (given-title is_rich false n own.id content ts seen rest (or-false (is_filled seen) form.0) within.inside.sound
        (within.first own_keep.1) within.inside.waits
        (within.inside.shows ∙ (black-filled seen own_keep.0 ∙ or-false (is_filled seen) form.0))
        within.inside.unseen within.inside.spent within.inside.written.gives later)
    titled-returned (documents.block b d) rich before f n fresh e settled keep formats normal fits numbers plain light
        k o =
        let own : documents.Block = cut_block b in
        let rest : documents.Blocks = cut_blocks d in
        let parts = and_parts (is_settled_block own) (are_settled_in an.Details rest) settled in
        let keeps = and_parts (stays false own rest) (blocks_keep false rest) keep in
        let shows = and_parts (block_shows is_rich own) (formats_show is_rich rest) formats in
        let good = and_parts (is_normal_block false own) (are_normal_blocks false rest) normal in
        let low = and_parts (block_numbers_fit n own) (numbers_fit n rest) numbers in
        let free = none-of is_rich (has_odd_table b) (have_odd_tables d) plain in
        let later : (attributes : List AttributePair) (g : NumberedForest) → Stands (value_forest g) (trees_in d)
        → (k : ℕ) → is_ordered k g ≡ true
        → AreGiven (titled_of an.Summary is_rich n) (shown_of scripting is_rich (Some attributes) g) rest =
        λ attributes g h j p. titled-returned d rich (Some attributes) g n (fresh-next attributes) h parts.1 keeps.1
        shows.1 good.1 (right-fits (depth_of own) (depth_among rest) n most_nested fits) low.1 free.1
        (right-light (weight_of_block own) (weight_in rest) light) j p in
        test (is_alone own)
        (λ alone. alone-titled scripting is_rich false b d before f n fresh e alone keeps.0 good.0 k o (later []))
        (λ other.
        let first = one-returned b d false false before f n fresh e parts.0 keeps.0 shows.0 good.0
        (left-fits (depth_of own) (depth_among rest) n most_nested fits) low.0 free.0
        (left-light (weight_of_block own) (weight_in rest) light) k o other in
        given-first scripting is_rich false before f n own d rest rich (unboxed (documents.block own rest) normal) first
        (later first.attributes first.rest first.others first.number first.ordered))

    -- the captions of a table, and its rows
    table-returned : (d : documents.Blocks) (before : Option (List AttributePair)) (f : NumberedForest) (n : ℕ)
        → IsFresh before → Stands (value_forest f) (table_trees d)
        → are_settled_in an.Table (cut_blocks d) ≡ true
        → blocks_keep false (cut_blocks d) ≡ true
        → formats_show is_rich (cut_blocks d) ≡ true → are_normal_blocks false (cut_blocks d) ≡ true
        → depth_among (cut_blocks d) + n ≤ most_nested
        → numbers_fit n (cut_blocks d) ≡ true → (is_rich && have_odd_tables d) ≡ false
        → weight_in (cut_blocks d) < greatest_count
        → (k : ℕ) → is_ordered k f ≡ true → HasTable scripting is_rich n (cut_blocks d) before f
    table-returned documents.no_blocks before f n fresh e settled keep formats normal fits numbers plain light
        k o =
        nothing-left scripting is_rich n before f e
    table-returned (documents.block (documents.element an.Caption [] all) d) before f n fresh e settled keep formats
        normal fits numbers plain light k o =
        let seen : documents.Blocks = cut_blocks all in
        let own = caption-known is_rich n all d settled keep formats normal fits numbers plain light in
        caption-left scripting is_rich n all d before f k fresh e own.title
        (in-alone an.Caption seen own.settled) own.keep own.led own.shows own.form own.filled own.light o
        (λ g h j p. returned-given scripting is_rich None g n seen own.rich (unboxed seen own.form)
        (returned all false false None g n fresh-first h (sym (flow-plain an.Caption refl seen) ∙ own.settled)
        own.keep own.shows own.form own.fits own.low own.free own.light j p))
        (λ g h j p. table-returned d (Some []) g n (fresh-next []) h own.others_settled own.others_keep
        own.others_show own.others_form own.others_fit own.others_low own.others_free own.others_light j p)
    table-returned (documents.block (documents.element an.Row [] all) d) before f n fresh e settled keep
        formats normal fits numbers plain light k o =
        let seen : documents.Blocks = cut_blocks all in
        let rest : documents.Blocks = cut_blocks d in
        let parts = and_parts (are_settled_in an.Row seen) (are_settled_in an.Table rest) settled in
        let known = part-known is_rich n an.Row [] all d keep formats normal fits numbers plain light in
        subst (λ (c : documents.Blocks). HasTable scripting is_rich n
        (documents.block (documents.element an.Row [] seen) c) before f) (rows-split rest)
        (section-left scripting is_rich n (documents.block (documents.element an.Row [] seen) (rows_first rest))
        (behind_rows rest) (forest_of (spelled_element an.Row [] (text_in_line all) (spelled_in all)
        (table_parts (spelled_in d)).rows)) (after_trees d) before f k fresh
        (subst (Stands (value_forest f)) (section-trees [] all d) e) (rows-are rest) (none-begins rest parts.1) o
        (λ i q m r. one-row scripting is_rich n all (rows_first rest) (table_parts (spelled_in d)).rows None i m
        fresh-first q parts.0 r
        (λ g h j p. cells-returned all None g n h parts.0 known.keep known.shows known.form known.fits known.low
        known.free known.light j p)
        (λ g h j p. rows-returned d (Some []) g n (fresh-next []) h parts.1 known.others_keep known.others_show
        known.others_form known.others_fit known.others_low known.others_free known.others_light j p))
        (λ g h j p. after-returned d (Some []) g n (fresh-next []) h parts.1 known.others_keep known.others_show
        known.others_form known.others_fit known.others_low known.others_free known.others_light j p))
    table-returned (documents.block b d) before f n fresh e settled keep formats normal fits numbers plain
        light k o =
        false-true settled

    -- what stands in a table behind the rows up to a caption
    after-returned : (d : documents.Blocks) (before : Option (List AttributePair)) (f : NumberedForest) (n : ℕ)
        → IsFresh before → Stands (value_forest f) (after_trees d)
        → are_settled_in an.Table (cut_blocks d) ≡ true
        → blocks_keep false (cut_blocks d) ≡ true
        → formats_show is_rich (cut_blocks d) ≡ true → are_normal_blocks false (cut_blocks d) ≡ true
        → depth_among (cut_blocks d) + n ≤ most_nested
        → numbers_fit n (cut_blocks d) ≡ true → (is_rich && have_odd_tables d) ≡ false
        → weight_in (cut_blocks d) < greatest_count
        → (k : ℕ) → is_ordered k f ≡ true → HasTable scripting is_rich n (behind_rows (cut_blocks d)) before f
    after-returned documents.no_blocks before f n fresh e settled keep formats normal fits numbers plain light
        k o =
        nothing-left scripting is_rich n before f e
    after-returned (documents.block (documents.element an.Caption [] all) d) before f n fresh e settled keep formats
        normal fits numbers plain light k o =
        let seen : documents.Blocks = cut_blocks all in
        let own = caption-known is_rich n all d settled keep formats normal fits numbers plain light in
        caption-left scripting is_rich n all d before f k fresh
        (subst (Stands (value_forest f)) (after-caption-trees [] all d) e) own.title
        (in-alone an.Caption seen own.settled) own.keep own.led own.shows own.form own.filled own.light o
        (λ g h j p. returned-given scripting is_rich None g n seen own.rich (unboxed seen own.form)
        (returned all false false None g n fresh-first h (sym (flow-plain an.Caption refl seen) ∙ own.settled)
        own.keep own.shows own.form own.fits own.low own.free own.light j p))
        (λ g h j p. table-returned d (Some []) g n (fresh-next []) h own.others_settled own.others_keep
        own.others_show own.others_form own.others_fit own.others_low own.others_free own.others_light j p)
    after-returned (documents.block (documents.element an.Row [] all) d) before f n fresh e settled keep
        formats normal fits numbers plain light k o =
        let parts = and_parts (are_settled_in an.Row (cut_blocks all)) (are_settled_in an.Table (cut_blocks d))
        settled in
        let known = part-known is_rich n an.Row [] all d keep formats normal fits numbers plain light in
        after-returned d before f n fresh (subst (Stands (value_forest f)) (after-row-trees [] all d) e) parts.1
        known.others_keep known.others_show known.others_form known.others_fit known.others_low known.others_free
        known.others_light k o
    after-returned (documents.block b d) before f n fresh e settled keep formats normal fits numbers plain
        light k o =
        false-true settled

    -- the rows of a table
    rows-returned : (d : documents.Blocks) (before : Option (List AttributePair)) (f : NumberedForest) (n : ℕ)
        → IsFresh before → Stands (value_forest f) (row_trees d)
        → are_settled_in an.Table (cut_blocks d) ≡ true
        → blocks_keep false (cut_blocks d) ≡ true
        → formats_show is_rich (cut_blocks d) ≡ true → are_normal_blocks false (cut_blocks d) ≡ true
        → depth_among (cut_blocks d) + n ≤ most_nested
        → numbers_fit n (cut_blocks d) ≡ true → (is_rich && have_odd_tables d) ≡ false
        → weight_in (cut_blocks d) < greatest_count
        → (k : ℕ) → is_ordered k f ≡ true → HasRows scripting is_rich n (rows_first (cut_blocks d)) before f
    rows-returned documents.no_blocks before f n fresh e settled keep formats normal fits numbers plain light
        k o =
        none-rows scripting is_rich n before f e
    rows-returned (documents.block (documents.element an.Row [] all) d) before f n fresh e settled keep formats
        normal fits numbers plain light k o =
        let seen : documents.Blocks = cut_blocks all in
        let rest : documents.Blocks = cut_blocks d in
        let parts = and_parts (are_settled_in an.Row seen) (are_settled_in an.Table rest) settled in
        let known = part-known is_rich n an.Row [] all d keep formats normal fits numbers plain light in
        one-row scripting is_rich n all (rows_first rest) (table_parts (spelled_in d)).rows before f k fresh
        (subst (Stands (value_forest f)) (more-rows-trees [] all d) e) parts.0 o
        (λ g h j p. cells-returned all None g n h parts.0 known.keep known.shows known.form known.fits known.low
        known.free known.light j p)
        (λ g h j p. rows-returned d (Some []) g n (fresh-next []) h parts.1 known.others_keep known.others_show
        known.others_form known.others_fit known.others_low known.others_free known.others_light j p)
    rows-returned (documents.block (documents.element an.Caption attributes all) d) before f n fresh e settled
        keep formats normal fits numbers plain light k o =
        none-rows scripting is_rich n before f (subst (Stands (value_forest f)) (no-rows-trees attributes all d) e)
    rows-returned (documents.block b d) before f n fresh e settled keep formats normal fits numbers plain light
        k o =
        false-true settled

    -- the cells of a row
    cells-returned : (d : documents.Blocks) (before : Option (List AttributePair)) (f : NumberedForest) (n : ℕ)
        → Stands (value_forest f) (trees_in d) → are_settled_in an.Row (cut_blocks d) ≡ true
        → blocks_keep false (cut_blocks d) ≡ true
        → formats_show is_rich (cut_blocks d) ≡ true → are_normal_blocks false (cut_blocks d) ≡ true
        → depth_among (cut_blocks d) + n ≤ most_nested
        → numbers_fit n (cut_blocks d) ≡ true → (is_rich && have_odd_tables d) ≡ false
        → weight_in (cut_blocks d) < greatest_count
        → (k : ℕ) → is_ordered k f ≡ true → HasCells scripting is_rich n (cut_blocks d) before f
    cells-returned documents.no_blocks before f n e settled keep formats normal fits numbers plain light k o =
        none-cells scripting is_rich n before f e
    cells-returned (documents.block (documents.element an.Cell attributes all) d) before f n e settled keep
        formats normal fits numbers plain light k o =
        let seen : documents.Blocks = cut_blocks all in
        let known = part-known is_rich n an.Cell attributes all d keep formats normal fits numbers plain light in
        let cell = cell-settled an.Cell attributes seen (cut_blocks d) (flow-plain an.Cell refl seen) settled in
        one-cell scripting is_rich n false attributes seen (cut_blocks d)
        (inside_trees (text_in_line all) (trees_in all)) (trees_in d) before f k
        (subst (Stands (value_forest f))
        (element-trees an.Cell attributes (text_in_line all) (spelled_in all) (spelled_in d)) e)
        known.rich known.form known.keep o
        (λ g h p. cell-returned scripting is_rich n all g h known.rich cell.inner known.shows known.form known.light p
        (λ i q j r. returned all false false None i n fresh-first q cell.inner known.keep known.shows known.form
        known.fits known.low known.free known.light j r))
        (λ g h j p. cells-returned d (Some (pairs_of_element attributes)) g n h cell.after known.others_keep
        known.others_show known.others_form known.others_fit known.others_low known.others_free known.others_light j p)
    cells-returned (documents.block (documents.element an.HeaderCell attributes all) d) before f n e settled keep
        formats normal fits numbers plain light k o =
        let seen : documents.Blocks = cut_blocks all in
        let known = part-known is_rich n an.HeaderCell attributes all d keep formats normal fits numbers plain
        light in
        let cell = cell-settled an.HeaderCell attributes seen (cut_blocks d) (flow-plain an.HeaderCell refl seen)
        settled in
        one-cell scripting is_rich n true attributes seen (cut_blocks d)
        (inside_trees (text_in_line all) (trees_in all)) (trees_in d) before f k
        (subst (Stands (value_forest f))
        (element-trees an.HeaderCell attributes (text_in_line all) (spelled_in all) (spelled_in d)) e)
        known.rich known.form known.keep o
        (λ g h p. cell-returned scripting is_rich n all g h known.rich cell.inner known.shows known.form known.light p
        (λ i q j r. returned all false false None i n fresh-first q cell.inner known.keep known.shows known.form
        known.fits known.low known.free known.light j r))
        (λ g h j p. cells-returned d (Some (pairs_of_element attributes)) g n h cell.after known.others_keep
        known.others_show known.others_form known.others_fit known.others_low known.others_free known.others_light j p)
    cells-returned (documents.block b d) before f n e settled keep formats normal fits numbers plain light k o =
        false-true settled

    -- what stands in a figure
    figure-returned : (d : documents.Blocks) → is_rich ≡ true → (before : Option (List AttributePair))
        (f : NumberedForest) (n : ℕ)
        → IsFresh before → Stands (value_forest f) (trees_in d) → are_settled_in an.Figure (cut_blocks d) ≡ true
        → blocks_keep false (cut_blocks d) ≡ true
        → formats_show is_rich (cut_blocks d) ≡ true → are_normal_blocks false (cut_blocks d) ≡ true
        → depth_among (cut_blocks d) + n ≤ most_nested
        → numbers_fit n (cut_blocks d) ≡ true → (is_rich && have_odd_tables d) ≡ false
        → weight_in (cut_blocks d) < greatest_count
        → (k : ℕ) → is_ordered k f ≡ true
        → AreInFigure is_rich n (shown_of scripting is_rich before f) (cut_blocks d)
    figure-returned documents.no_blocks rich before f n fresh e settled keep formats normal fits numbers plain
        light k o =
        subst (λ (ts : Simples). AreInFigure is_rich n ts documents.no_blocks)
        (sym (ap (shown_of scripting is_rich before) (from-none f e) ∙ none-shown scripting is_rich before))
        (figure-none is_rich n)
    figure-returned (documents.block (documents.element an.FigureCaption [] all) d) rich before f n fresh e settled
        keep formats normal fits numbers plain light k o =
        let seen : documents.Blocks = cut_blocks all in
        let rest : documents.Blocks = cut_blocks d in
        let keeps = and_parts ((blocks_keep false seen && title_keeps seen) && true) (blocks_keep false rest) keep in
        let own_keep = and_parts (blocks_keep false seen) (title_keeps seen)
        (and_parts (blocks_keep false seen && title_keeps seen) true keeps.0).0 in
        let parts = and_parts (blocks_are_away seen && are_settled_in an.FigureCaption seen)
        (are_settled_in an.Figure rest) settled in
        let own_parts = and_parts (blocks_are_away seen) (are_settled_in an.FigureCaption seen) parts.0 in
        let shows = and_parts (is_rich && formats_show is_rich seen) (formats_show is_rich rest) formats in
        let own_shows = and_parts is_rich (formats_show is_rich seen) shows.0 in
        let lighter = left-light (weight_in seen) (weight_in rest) light in
        let good = and_parts (is_normal_block false (documents.element an.FigureCaption [] seen))
        (are_normal_blocks false rest)
        normal in
        let form = and_parts (is_normal_element an.FigureCaption [] seen) (are_normal_blocks false seen) good.0 in
        let low = and_parts (numbers_fit n seen) (numbers_fit n rest) numbers in
        let free = none-of is_rich (have_odd_tables all) (have_odd_tables d) plain in
        caption-one scripting is_rich n all d before f k fresh e own_parts.0
        (in-alone an.FigureCaption seen own_parts.1) own_keep.0 own_keep.1 own_shows.1 form.1
        (or-false (is_filled seen) form.0) lighter o
        (λ g h j p. returned-given scripting is_rich None g n seen rich (unboxed seen form.1)
        (returned all false false None g n fresh-first h (sym (flow-plain an.FigureCaption refl seen) ∙ own_parts.1)
        own_keep.0 own_shows.1 form.1 (left-fits (depth_among seen) (depth_among rest) n most_nested fits) low.0 free.0
        lighter j p))
        (λ g h j p. figure-returned d rich (Some []) g n (fresh-next []) h parts.1 keeps.1 shows.1 good.1
        (right-fits (depth_among seen) (depth_among rest) n most_nested fits) low.1 free.1
        (right-light (weight_in seen) (weight_in rest) light) j p)
    figure-returned (documents.block (documents.element an.FigureCaption (a ∷ attributes) all) d) rich before f n
        fresh e settled keep formats normal fits numbers plain light k o =
        false-true settled
    figure-returned (documents.block b d) rich before f n fresh e settled keep formats normal fits numbers plain light
        k o =
        let own : documents.Block = cut_block b in
        let rest : documents.Blocks = cut_blocks d in
        let keeps = and_parts (stays false own rest) (blocks_keep false rest) keep in
        let parts = and_parts (is_settled_block own) (are_settled_in an.Figure rest) settled in
        let shows = and_parts (block_shows is_rich own) (formats_show is_rich rest) formats in
        let good = and_parts (is_normal_block false own) (are_normal_blocks false rest) normal in
        let low = and_parts (block_numbers_fit n own) (numbers_fit n rest) numbers in
        let free = none-of is_rich (has_odd_table b) (have_odd_tables d) plain in
        let later : (attributes : List AttributePair) (g : NumberedForest) → Stands (value_forest g) (trees_in d)
        → (k : ℕ) → is_ordered k g ≡ true
        → AreInFigure is_rich n (shown_of scripting is_rich (Some attributes) g) rest =
        λ attributes g h j p. figure-returned d rich (Some attributes) g n (fresh-next attributes) h parts.1 keeps.1
        shows.1 good.1 (right-fits (depth_of own) (depth_among rest) n most_nested fits) low.1 free.1
        (right-light (weight_of_block own) (weight_in rest) light) j p in
        test (is_alone own)
        (λ alone. alone-in-figure scripting is_rich b d before f n fresh e alone keeps.0 good.0 k o (later []))
        (λ other.
        let first = one-returned b d false false before f n fresh e parts.0 keeps.0 shows.0 good.0
        (left-fits (depth_of own) (depth_among rest) n most_nested fits) low.0 free.0
        (left-light (weight_of_block own) (weight_in rest) light) k o other in
        figure-first scripting is_rich before f n own d rest rich (unboxed (documents.block own rest) normal) refl first
        (later first.attributes first.rest first.others first.number first.ordered))

    -- what stands in a list of terms
    terms-returned : (d : documents.Blocks) (before : Option (List AttributePair)) (f : NumberedForest) (n : ℕ)
        → IsFresh before → Stands (value_forest f) (trees_in d) → are_settled_in an.Terms (cut_blocks d) ≡ true
        → blocks_keep false (cut_blocks d) ≡ true
        → formats_show is_rich (cut_blocks d) ≡ true → are_normal_blocks false (cut_blocks d) ≡ true
        → depth_among (cut_blocks d) + n ≤ most_nested
        → numbers_fit n (cut_blocks d) ≡ true → (is_rich && have_odd_tables d) ≡ false
        → weight_in (cut_blocks d) < greatest_count
        → (k : ℕ) → is_ordered k f ≡ true
        → AreDescribed is_rich n (shown_of scripting is_rich before f) (cut_blocks d)
    terms-returned documents.no_blocks before f n fresh e settled keep formats normal fits numbers plain light k o =
        subst (λ (ts : Simples). AreDescribed is_rich n ts documents.no_blocks)
        (sym (ap (shown_of scripting is_rich before) (from-none f e) ∙ none-shown scripting is_rich before))
        (described-none is_rich n)
    terms-returned (documents.block (documents.element an.Term [] all) d) before f n fresh e settled keep formats normal
        fits numbers plain light k o =
        let seen : documents.Blocks = cut_blocks all in
        let rest : documents.Blocks = cut_blocks d in
        let parts = and_parts (blocks_are_away seen && are_settled_in an.Term seen)
        (are_settled_in an.Terms rest)
        settled in
        let own_parts = and_parts (blocks_are_away seen) (are_settled_in an.Term seen) parts.0 in
        let keeps = and_parts ((blocks_keep false seen && title_keeps seen) && true) (blocks_keep false rest) keep in
        let own_keep = and_parts (blocks_keep false seen) (title_keeps seen)
        (and_parts (blocks_keep false seen && title_keeps seen) true keeps.0).0 in
        let shows = and_parts (is_rich && formats_show is_rich seen) (formats_show is_rich rest) formats in
        let own_shows = (and_parts is_rich (formats_show is_rich seen) shows.0).1 in
        let lighter = left-light (weight_in seen) (weight_in rest) light in
        let good = and_parts (is_normal_block false (documents.element an.Term [] seen)) (are_normal_blocks false rest)
        normal in
        let form = and_parts (is_normal_element an.Term [] seen) (are_normal_blocks false seen) good.0 in
        let low = and_parts (numbers_fit n seen) (numbers_fit n rest) numbers in
        let free = none-of is_rich (have_odd_tables all) (have_odd_tables d) plain in
        let own = from-block f (codes "dt") [] (inside_trees (text_in_line all) (trees_in all)) (trees_in d)
        (subst (Stands (value_forest f))
        (element-trees an.Term [] (text_in_line all) (spelled_in all) (spelled_in d)) e) refl in
        let order = block-order k f own.id (codes "dt") [] own.inside own.line own.rest own.is o in
        let content : Simples = shown_at scripting is_rich true None own.inside in
        let within = title-inside scripting is_rich n all own.inside own.within
        own_parts.0 (in-alone an.Term seen own_parts.1) own_keep.0 own_shows form.1 lighter order.0
        (λ g h j p. returned-given scripting is_rich None g n seen
        (and_parts is_rich (formats_show is_rich seen) shows.0).0 (unboxed seen form.1)
        (returned all false false None g n fresh-first h (sym (flow-plain an.Term refl seen) ∙ own_parts.1) own_keep.0
        own_shows form.1 (left-fits (depth_among seen) (depth_among rest) n most_nested fits) low.0 free.0
        lighter j p)) in
        let later = terms-returned d (Some []) own.rest n (fresh-next []) own.others parts.1 keeps.1 shows.1 good.1
        (right-fits (depth_among seen) (depth_among rest) n most_nested fits) low.1 free.1
        (right-light (weight_in seen) (weight_in rest) light) (suc own.line) order.1 in
        let ts : Simples = shown_of scripting is_rich (Some []) own.rest in
        subst (λ (us : Simples). AreDescribed is_rich n us (documents.block (documents.element an.Term [] seen) rest))
        (sym (ap (shown_of scripting is_rich before) own.is
        ∙ (term-shown scripting is_rich before own.id own.inside (behind own.line own.rest) fresh
        ∙ ap (more (made own.id role.Term [] content)) (line-shown scripting is_rich (Some []) own.line own.rest))))
        (described-term is_rich n own.id content ts seen rest within.inside (within.first own_keep.1) own_keep.0 later)
    terms-returned (documents.block (documents.element an.Meaning [] all) d) before f n fresh e settled keep formats
        normal
        fits numbers plain light k o =
        let seen : documents.Blocks = cut_blocks all in
        let rest : documents.Blocks = cut_blocks d in
        let parts = and_parts (are_settled_in an.Meaning seen) (are_settled_in an.Terms rest) settled in
        let inner : are_settled_blocks seen ≡ true = sym (flow-plain an.Meaning refl seen) ∙ parts.0 in
        let keeps = and_parts ((blocks_keep false seen && true) && true) (blocks_keep false rest) keep in
        let own_keep = kept-inside seen keeps.0 in
        let shows = and_parts (is_rich && formats_show is_rich seen) (formats_show is_rich rest) formats in
        let own_shows = and_parts is_rich (formats_show is_rich seen) shows.0 in
        let good = and_parts (is_normal_block false (documents.element an.Meaning [] seen))
        (are_normal_blocks false rest)
        normal in
        let form = and_parts (is_normal_element an.Meaning [] seen) (are_normal_blocks false seen) good.0 in
        let low = and_parts (numbers_fit n seen) (numbers_fit n rest) numbers in
        let free = none-of is_rich (have_odd_tables all) (have_odd_tables d) plain in
        let own = from-block f (codes "dd") [] (inside_trees (text_in_line all) (trees_in all)) (trees_in d)
        (subst (Stands (value_forest f))
        (element-trees an.Meaning [] (text_in_line all) (spelled_in all) (spelled_in d)) e) refl in
        let order = block-order k f own.id (codes "dd") [] own.inside own.line own.rest own.is o in
        let content : Simples = shown_of scripting is_rich None own.inside in
        let lighter = left-light (weight_in seen) (weight_in rest) light in
        let within = inside-returned scripting is_rich n (parts_of is_rich n) (plain-parts is_rich n) all own.inside
        (subst (λ t. Stands (value_forest own.inside) (inside_trees t (trees_in all))) (sym (cut-text all)) own.within)
        (in-alone an.Meaning seen parts.0) own_shows.1 form.1 lighter order.0
        (λ g h j p. returned-given scripting is_rich None g n seen own_shows.0 (unboxed seen form.1)
        (returned all false false None g n fresh-first h inner own_keep
        own_shows.1 form.1
        (left-fits (depth_among seen) (depth_among rest) n most_nested fits) low.0 free.0 lighter j p)) in
        let later = terms-returned d (Some []) own.rest n (fresh-next []) own.others parts.1 keeps.1 shows.1 good.1
        (right-fits (depth_among seen) (depth_among rest) n most_nested fits) low.1 free.1
        (right-light (weight_in seen) (weight_in rest) light) (suc own.line) order.1 in
        let ts : Simples = shown_of scripting is_rich (Some []) own.rest in
        subst (λ (us : Simples). AreDescribed is_rich n us (documents.block
        (documents.element an.Meaning [] seen) rest))
        (sym (ap (shown_of scripting is_rich before) own.is
        ∙ (meaning-shown scripting is_rich before own.id own.inside (behind own.line own.rest) fresh
        ∙ ap (more (made own.id role.Meaning [] content))
        (line-shown scripting is_rich (Some []) own.line own.rest))))
        (described-meaning is_rich n own.id content ts seen rest within own_keep later)
    terms-returned (documents.block b d) before f n fresh e settled keep formats normal fits numbers plain light k o =
        false-true settled

    items-returned : (items : documents.Items) (is_tight : Bool) (before : Option (List AttributePair))
        (f : NumberedForest) (n : ℕ) → IsFresh before → Stands (value_forest f) (trees_of_items is_tight items)
        → are_settled_items (cut_items items) ≡ true → items_keep (cut_items items) ≡ true
        → items_show is_rich (cut_items items) ≡ true
        → (is_tight ≡ true → are_tight (flat_items (cut_items items)) ≡ true)
        → are_normal_items (cut_items items) ≡ true → depth_of_items (cut_items items) + n ≤ most_nested
        → item_numbers_fit n (cut_items items) ≡ true → (is_rich && items_have_odd_tables items) ≡ false
        → weight_of_items (cut_items items) < greatest_count → (k : ℕ) → is_ordered k f ≡ true
        → AreItems is_rich n is_tight (cut_items items) (shown_of scripting is_rich before f)
    items-returned documents.no_items is_tight before f n fresh e settled keep formats tight normal fits numbers plain
        light k o =
        subst (λ (ts : Simples). AreItems is_rich n is_tight documents.no_items ts)
        (sym (ap (shown_of scripting is_rich before) (from-none f e) ∙ none-shown scripting is_rich before))
        (none-items is_rich n 0 is_tight)
    items-returned (documents.item bs rest) is_tight before f n fresh e settled keep formats tight normal fits numbers
        plain light k o =
        let first : documents.Blocks = cut_blocks bs in
        let later : documents.Items = cut_items rest in
        let parts = and_parts (are_settled_blocks first) (are_settled_items later) settled in
        let keeps = and_parts (blocks_keep false first) (items_keep later) keep in
        let shows = and_parts (formats_show is_rich first) (items_show is_rich later) formats in
        let good = and_parts (are_normal_blocks true first) (are_normal_items later) normal in
        let low = and_parts (numbers_fit n first) (item_numbers_fit n later) numbers in
        let free = none-of is_rich (have_odd_tables bs) (items_have_odd_tables rest) plain in
        let own = from-block f (codes "li") [] (forest_of (item_trees is_tight bs (spelled_in bs)))
        (trees_of_items is_tight rest) e refl in
        let order = block-order k f own.id (codes "li") [] own.inside own.line own.rest own.is o in
        let within : IsContent scripting is_rich n is_tight first (shown_of scripting is_rich None own.inside) =
        item-content scripting is_rich is_tight bs own.inside n own.within parts.0 keeps.0 shows.0
        (λ t. (and_parts (may_be_tight (flattened first)) (are_tight (flat_items later)) (tight t)).0) good.0
        (left-light (weight_in first) (weight_of_items later) light)
        order.0
        (λ g h j p. returned bs true false None g n fresh-first h parts.0 keeps.0 shows.0 good.0
        (left-fits (depth_among first) (depth_of_items later) n most_nested fits) low.0 free.0
        (left-light (weight_in first) (weight_of_items later) light) j p)
        (λ last g fresher h j p. rest-returned bs last g n fresher h parts.0 keeps.0 shows.0 good.0
        (left-fits (depth_among first) (depth_of_items later) n most_nested fits) low.0 free.0
        (left-light (weight_in first) (weight_of_items later) light) j p) in
        let others = items-returned rest is_tight (Some []) own.rest n (fresh-next []) own.others parts.1 keeps.1
        shows.1
        (λ t. (and_parts (may_be_tight (flattened first)) (are_tight (flat_items later)) (tight t)).1) good.1
        (right-fits (depth_among first) (depth_of_items later) n most_nested fits) low.1 free.1
        (right-light (weight_in first) (weight_of_items later) light) (suc own.line) order.1 in
        let ts : Simples = shown_of scripting is_rich (Some []) own.rest in
        let content : Simples = shown_of scripting is_rich None own.inside in
        subst (λ (us : Simples). AreItems is_rich n is_tight (documents.item first later) us)
        (sym (ap (shown_of scripting is_rich before) own.is
        ∙ (item-shown scripting is_rich before own.id own.inside (behind own.line own.rest) fresh
        ∙ ap (more (made own.id role.Item [] content)) (line-shown scripting is_rich (Some []) own.line own.rest))))
        (more-items is_rich n own.id content ts first is_tight later within.sound within.spent within.waits within.shows
        within.leads within.unseen within.paragraphs
        within.blocks others)

    -- behind the first block of an item
    rest-returned : (bs : documents.Blocks) (before : Option (List AttributePair)) (f : NumberedForest) (n : ℕ)
        → IsFresh before → Stands (value_forest f) (trees_in (behind_first bs))
        → are_settled_blocks (cut_blocks bs) ≡ true → blocks_keep false (cut_blocks bs) ≡ true
        → formats_show is_rich (cut_blocks bs) ≡ true → are_normal_blocks true (cut_blocks bs) ≡ true
        → depth_among (cut_blocks bs) + n ≤ most_nested
        → numbers_fit n (cut_blocks bs) ≡ true → (is_rich && have_odd_tables bs) ≡ false
        → weight_in (cut_blocks bs) < greatest_count
        → (k : ℕ) → is_ordered k f ≡ true
        → AreReturned scripting is_rich false before f n (cut_blocks (behind_first bs))
    rest-returned documents.no_blocks before f n fresh e settled keep formats normal fits numbers plain light k o =
        none-returned scripting is_rich false before f n e
    rest-returned (documents.block b d) before f n fresh e settled keep formats normal fits numbers plain light k o =
        let own : documents.Block = cut_block b in
        let rest : documents.Blocks = cut_blocks d in
        returned d false false before f n fresh e (and_parts (is_settled_block own) (are_settled_blocks rest) settled).1
        (and_parts (stays false own rest) (blocks_keep false rest) keep).1
        (and_parts (block_shows is_rich own) (formats_show is_rich rest) formats).1
        (and_parts (is_normal_block true own) (are_normal_blocks false rest) normal).1
        (right-fits (depth_of own) (depth_among rest) n most_nested fits)
        (and_parts (block_numbers_fit n own) (numbers_fit n rest) numbers).1
        (none-of is_rich (has_odd_table b) (have_odd_tables d) plain).1
        (right-light (weight_of_block own) (weight_in rest) light) k o
