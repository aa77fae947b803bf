-- A caption of a table on a page, and what stands behind it.
use Rattle.std.proofs.Common.{◌≡◌, ℕ, suc, ◌<◌, Bool, true, false, List, [], refl, sym, ap, ◌∙◌, subst}
use Rattle.std.proofs.Common.{Option, Some, None, codes}
use Rattle.htmd_lexical.specs.AttributePairs.{AttributePair}
use Rattle.htmd_nodes.specs.NumberedTrees.{NumberedForest, value_forest}
use Rattle.htmd_nodes.specs.NumberedTrees as page
use Rattle.htmd_document.specs.Documents.{element, Blocks, block}
use Rattle.htmd_document.specs.FlatDocuments.{text_in_line}
use Rattle.htmd_document.specs.NormalDocuments.{are_normal_blocks}
use Rattle.htmd_document.specs.declared.document.BlockElement.TheVariants as an
use Rattle.htmd_shown.specs.declared.role.Role.TheVariants as role
use Rattle.htmd_shown.specs.Facts.{made}
use Rattle.htmd_shown.specs.LineNumbers.{has_numbered_rows}
use Rattle.htmd_shown.specs.Pieces.{greatest_count}
use Rattle.htmd_shown.specs.Roles.{role_of, table_role}
use Rattle.htmd_shown.specs.Shown.{shown}
use Rattle.htmd_shown.specs.SimpleTrees.{Simples, more}
use Rattle.std.proofs.Common.{◌&&◌, ◌||◌, ◌≤◌, ◌+◌, max}
use Rattle.std.proofs.lemmas.Bool.{and_parts}
use Rattle.htmd_document.specs.DocumentLimits.{most_nested}
use Rattle.htmd_document.specs.NormalDocuments.{is_normal_element, is_normal_block, depth_among}
use Rattle.htmd_law_returning.specs.LastingAnchors.{title_keeps}
use Rattle.htmd_law_returning.proofs.KeptBlocks.{blocks_keep}
use Rattle.htmd_law_returning.specs.SettledDocuments.{are_settled_in, numbers_fit}
use Rattle.htmd_law_returning.proofs.BlockSteps.{left-fits, right-fits, none-of, or-false}
use Rattle.htmd_law_returning.proofs.InlineLemmas.{left-light, right-light}
use Rattle.htmd_law_returning.proofs.OddTables.{have_odd_tables}
use Rattle.htmd_law_returning.specs.PageFormats.{formats_show}
use Rattle.htmd_law_returning.specs.SettledDocuments.{blocks_are_away, weight_in}
use Rattle.htmd_law_returning.proofs.BlockTrees.{trees_in, cut_blocks}
use Rattle.htmd_law_returning.proofs.ElementForms.{are_settled_alone}
use Rattle.htmd_document.specs.TightItems.{is_filled}
use Rattle.htmd_law_returning.proofs.LeanTrees.{black-filled}
use Rattle.htmd_law_returning.proofs.GivenBlocks.{AreGiven}
use Rattle.htmd_law_returning.proofs.InsideLemmas.{inside_trees}
use Rattle.htmd_law_returning.proofs.OrderLemmas.{is_ordered}
use Rattle.htmd_law_returning.proofs.PageLemmas.{shown_of, from-block, block-order, line-shown, IsFresh, plain-content}
use Rattle.htmd_law_returning.proofs.ReturnedBlocks.{behind}
use Rattle.htmd_law_returning.proofs.ShownInlines.{shown_at}
use Rattle.htmd_law_returning.proofs.StandLemmas.{Stands}
use Rattle.htmd_law_returning.proofs.TableContents.{AreInTable, table-caption}
use Rattle.htmd_law_returning.proofs.TitleLemmas.{title-inside}
use Rattle.htmd_law_returning.proofs.ReadyLemmas.{parts_of}
use Rattle.htmd_law_returning.proofs.TablePartLemmas.{HasTable, table_trees, caption-trees}

module _ (scripting is_rich : Bool) (before : Option (List AttributePair)) (id : ℕ) (inside f : NumberedForest) where
  -- what stands in one shows as in a heading
  caption-shown : IsFresh before
      → shown_of scripting is_rich before (page.more (page.element id (codes "caption") [] inside) f)
      ≡ more (made id role.Caption [] (shown_at scripting is_rich true None inside))
      (shown_of scripting is_rich (Some []) f)
  unfolding shown role_of table_role
  caption-shown h =
      rw h (ap (λ ts. more (made id role.Caption [] ts) (shown_of scripting is_rich (Some []) f))
      (plain-content id (shown_at scripting is_rich true None inside)))

-- what is known of a caption, and of what stands behind it
pub record IsCaption (is_rich : Bool) (n : ℕ) (all d : Blocks) : Type 0 where
  pub title : blocks_are_away (cut_blocks all) ≡ true
  pub settled : are_settled_in an.Caption (cut_blocks all) ≡ true
  pub others_settled : are_settled_in an.Table (cut_blocks d) ≡ true
  pub keep : blocks_keep false (cut_blocks all) ≡ true
  pub led : title_keeps (cut_blocks all) ≡ true
  pub others_keep : blocks_keep false (cut_blocks d) ≡ true
  pub rich : is_rich ≡ true
  pub shows : formats_show is_rich (cut_blocks all) ≡ true
  pub others_show : formats_show is_rich (cut_blocks d) ≡ true
  pub form : are_normal_blocks false (cut_blocks all) ≡ true
  pub filled : is_filled (cut_blocks all) ≡ true
  pub others_form : are_normal_blocks false (cut_blocks d) ≡ true
  pub fits : depth_among (cut_blocks all) + n ≤ most_nested
  pub others_fit : depth_among (cut_blocks d) + n ≤ most_nested
  pub low : numbers_fit n (cut_blocks all) ≡ true
  pub others_low : numbers_fit n (cut_blocks d) ≡ true
  pub free : (is_rich && have_odd_tables all) ≡ false
  pub others_free : (is_rich && have_odd_tables d) ≡ false
  pub light : weight_in (cut_blocks all) < greatest_count
  pub others_light : weight_in (cut_blocks d) < greatest_count

pub caption-known : (is_rich : Bool) (n : ℕ) (all d : Blocks)
    → are_settled_in an.Table (block (element an.Caption [] (cut_blocks all)) (cut_blocks d)) ≡ true
    → blocks_keep false (block (element an.Caption [] (cut_blocks all)) (cut_blocks d)) ≡ true
    → formats_show is_rich (block (element an.Caption [] (cut_blocks all)) (cut_blocks d)) ≡ true
    → are_normal_blocks false (block (element an.Caption [] (cut_blocks all)) (cut_blocks d)) ≡ true
    → max (depth_among (cut_blocks all)) (depth_among (cut_blocks d)) + n ≤ most_nested
    → (numbers_fit n (cut_blocks all) && numbers_fit n (cut_blocks d)) ≡ true
    → (is_rich && (have_odd_tables all || have_odd_tables d)) ≡ false
    → weight_in (cut_blocks all) + weight_in (cut_blocks d) < greatest_count → IsCaption is_rich n all d
caption-known is_rich n all d settled keep formats normal fits numbers plain light =
    let seen : Blocks = cut_blocks all in
    let rest : Blocks = cut_blocks d in
    let parts = and_parts (blocks_are_away seen && are_settled_in an.Caption seen) (are_settled_in an.Table rest)
    settled in
    let own_parts = and_parts (blocks_are_away seen) (are_settled_in an.Caption seen) parts.0 in
    let keeps = and_parts ((blocks_keep false seen && title_keeps seen) && true) (blocks_keep false rest) keep in
    let own_keep = and_parts (blocks_keep false seen) (title_keeps seen)
    (and_parts (blocks_keep false seen && title_keeps seen) true keeps.0).0 in
    let shows = and_parts (is_rich && formats_show is_rich seen) (formats_show is_rich rest) formats in
    let own_shows = and_parts is_rich (formats_show is_rich seen) shows.0 in
    let good = and_parts (is_normal_block false (element an.Caption [] seen)) (are_normal_blocks false rest) normal in
    let form = and_parts (is_normal_element an.Caption [] seen) (are_normal_blocks false seen) good.0 in
    let low = and_parts (numbers_fit n seen) (numbers_fit n rest) numbers in
    let free = none-of is_rich (have_odd_tables all) (have_odd_tables d) plain in
    record {
      title = own_parts.0;
      settled = own_parts.1;
      others_settled = parts.1;
      keep = own_keep.0;
      led = own_keep.1;
      others_keep = keeps.1;
      rich = own_shows.0;
      shows = own_shows.1;
      others_show = shows.1;
      form = form.1;
      filled = or-false (is_filled seen) form.0;
      others_form = good.1;
      fits = left-fits (depth_among seen) (depth_among rest) n most_nested fits;
      others_fit = right-fits (depth_among seen) (depth_among rest) n most_nested fits;
      low = low.0;
      others_low = low.1;
      free = free.0;
      others_free = free.1;
      light = left-light (weight_in seen) (weight_in rest) light;
      others_light = right-light (weight_in seen) (weight_in rest) light;
    }

module _ (scripting is_rich : Bool) (n : ℕ) (all d : Blocks) (before : Option (List AttributePair))
    (f : NumberedForest) (k : ℕ) where
  pub caption-left : IsFresh before
      → Stands (value_forest f) (table_trees (block (element an.Caption [] all) d))
      → blocks_are_away (cut_blocks all) ≡ true → are_settled_alone (cut_blocks all) ≡ true
      → blocks_keep false (cut_blocks all) ≡ true → title_keeps (cut_blocks all) ≡ true
      → formats_show is_rich (cut_blocks all) ≡ true → are_normal_blocks false (cut_blocks all) ≡ true
      → is_filled (cut_blocks all) ≡ true → weight_in (cut_blocks all) < greatest_count
      → is_ordered k f ≡ true
      → ((g : NumberedForest) → Stands (value_forest g) (trees_in all) → (j : ℕ) → is_ordered j g ≡ true
      → AreGiven (parts_of is_rich n) (shown_of scripting is_rich None g) (cut_blocks all))
      → ((g : NumberedForest) → Stands (value_forest g) (table_trees d) → (j : ℕ) → is_ordered j g ≡ true
      → HasTable scripting is_rich n (cut_blocks d) (Some []) g)
      → HasTable scripting is_rich n (block (element an.Caption [] (cut_blocks all)) (cut_blocks d)) before f
  caption-left fresh e title settled keep led formats normal filled light o inner later =
      let seen : Blocks = cut_blocks all in
      let rest : Blocks = cut_blocks d in
      let own = from-block f (codes "caption") [] (inside_trees (text_in_line all) (trees_in all)) (table_trees d)
      (subst (Stands (value_forest f)) (caption-trees [] all d) e) refl in
      let order = block-order k f own.id (codes "caption") [] own.inside own.line own.rest own.is o in
      let content : Simples = shown_at scripting is_rich true None own.inside in
      let within = title-inside scripting is_rich n all own.inside own.within title settled keep formats normal light
      order.0 inner in
      let others = later own.rest own.others (suc own.line) order.1 in
      record {
        unnumbered = ap has_numbered_rows own.is ∙ others.unnumbered;
        gives = subst (λ (us : Simples). AreInTable is_rich n (block (element an.Caption [] seen) rest) us)
            (sym (ap (shown_of scripting is_rich before) own.is
            ∙ (caption-shown scripting is_rich before own.id own.inside (behind own.line own.rest) fresh
            ∙ ap (more (made own.id role.Caption [] content))
            (line-shown scripting is_rich (Some []) own.line own.rest))))
            (table-caption is_rich n own.id content (shown_of scripting is_rich (Some []) own.rest) seen rest within led
            (within.inside.shows ∙ (black-filled seen keep ∙ filled)) others.gives);
      }
