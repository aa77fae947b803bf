-- What is known of the blocks of a document one after another, and paragraphs of anchors alone.
use Rattle.std.proofs.Common.{◌<◌, ◌≡◌, ℕ, suc, ◌+◌, ◌≤◌, max, Bool, true, false, ◌&&◌, List, refl, sym, ap, ◌∙◌}
use Rattle.std.proofs.Common.{arith, codes, Option, Some, None, not, ◌||◌, []}
use Rattle.htmd_document.specs.declared.document.BlockElement.{BlockElement}
use Rattle.htmd_document.specs.declared.document.BlockElement.TheVariants as an
use Rattle.htmd_document.specs.DocumentLimits.{most_nested, greatest_start}
use Rattle.htmd_document.specs.NormalDocuments.{are_normal_blocks, is_normal_element, depth_among, is_normal_block}
use Rattle.htmd_document.specs.NormalDocuments.{are_short_numbers, is_normal_paragraph}
use Rattle.htmd_shown.specs.Pieces.{greatest_count}
use Rattle.htmd_law_returning.specs.PageFormats.{formats_show}
use Rattle.htmd_law_returning.specs.SettledDocuments.{are_settled_blocks, are_settled_in, numbers_fit, weight_in}
use Rattle.htmd_law_returning.specs.SettledTables.{are_of_cell}
use Rattle.htmd_law_returning.specs.LastingAnchors.{line_keeps}
use Rattle.htmd_document.specs.LoneAnchors.{is_alone, stand_alone}
use Rattle.htmd_law_returning.proofs.KeptBlocks.{blocks_keep, block_keeps}
use Rattle.htmd_law_returning.proofs.InlineLemmas.{left-light, right-light}
use Rattle.htmd_law_returning.proofs.OddTables.{have_odd_tables}
use Rattle.std.proofs.Math.Nat.{le-max_left, le-max_right}
use Rattle.std.proofs.lemmas.Bool.{and_parts, and_from}
use Rattle.std.proofs.lemmas.Bool.Decides.{nat_tests}
use Rattle.htmd_lexical.specs.AttributePairs.{AttributePair}
use Rattle.htmd_nodes.specs.NumberedTrees.{NumberedForest, value_forest}
use Rattle.htmd_document.specs.Documents as documents
use Rattle.htmd_document.specs.Documents.{Inlines}
use Rattle.htmd_document.specs.NormalInlines.{has_none, are_anchors}
use Rattle.htmd_law_returning.proofs.StandLemmas.{Stands}
use Rattle.htmd_law_returning.proofs.TreesLemmas.{line_trees}
use Rattle.htmd_law_returning.proofs.BlockTrees.{trees_in, cut_block, cut_blocks}
use Rattle.htmd_law_returning.proofs.StartLemmas.{false-true, from-not}
use Rattle.htmd_law_returning.proofs.PageLemmas.{from-block, block-order, IsFresh, shown_of, paragraph-shown}
use Rattle.htmd_law_returning.proofs.OrderLemmas.{is_ordered}
use Rattle.htmd_law_returning.proofs.ReturnedBlocks.{AreReturned, behind}
use Rattle.htmd_law_returning.proofs.TaskLemmas.{is_lasting}
use Rattle.htmd_law_returning.proofs.AloneBlocks.{AreTargets, targets-shown, alone-normal, alone-returned}
use Rattle.htmd_law_returning.proofs.AloneBlocks.{alone-given}
use Rattle.htmd_law_returning.proofs.FlowLemmas.{titled_of}
use Rattle.htmd_law_returning.proofs.GivenBlocks.{AreGiven, title_of}
use Rattle.htmd_shown.specs.declared.role.Role.TheVariants as role
use Rattle.htmd_shown.specs.Facts.{made}
use Rattle.htmd_shown.specs.SimpleTrees.{Simples, more}

-- ---- blocks

pub left-fits : (a b n k : ℕ) → max a b + n ≤ k → a + n ≤ k
left-fits a b n k h = let x = le-max_left a b in omega arith

pub right-fits : (a b n k : ℕ) → max a b + n ≤ k → b + n ≤ k
right-fits a b n k h = let x = le-max_right a b in omega arith

-- neither of both
pub none-of : (r a b : Bool) → (r && (a || b)) ≡ false → ((r && a) ≡ false) × ((r && b) ≡ false)
none-of false a b h = (refl, refl)
none-of true true b h = false-true (sym h)
none-of true false b h = (refl, h)

pub or-false : (b : Bool) → (b || false) ≡ true → b ≡ true
or-false true h = refl
or-false false h = false-true h

-- a normal list begins with such a number
pub low-of : (s count : ℕ) → are_short_numbers (Some s) count ≡ true → s ≤ greatest_start + 1
low-of s count h = grind (arith, nat_tests, h)

-- the anchors in an element that is no title
pub kept-inside : (seen : documents.Blocks) → ((blocks_keep false seen && true) && true) ≡ true
    → blocks_keep false seen ≡ true
kept-inside seen h =
    (and_parts (blocks_keep false seen) true (and_parts (blocks_keep false seen && true) true h).0).0

-- ---- parts of tables

-- what is known of one, and of those behind it
pub record IsPart (is_rich : Bool) (n : ℕ) (all d : documents.Blocks) : Type 0 where
  pub rich : is_rich ≡ true
  pub keep : blocks_keep false (cut_blocks all) ≡ true
  pub others_keep : blocks_keep false (cut_blocks d) ≡ true
  pub shows : formats_show is_rich (cut_blocks all) ≡ true
  pub others_show : formats_show is_rich (cut_blocks d) ≡ true
  pub form : are_normal_blocks false (cut_blocks all) ≡ true
  pub others_form : are_normal_blocks false (cut_blocks d) ≡ true
  pub fits : depth_among (cut_blocks all) + n ≤ most_nested
  pub others_fit : depth_among (cut_blocks d) + n ≤ most_nested
  pub low : numbers_fit n (cut_blocks all) ≡ true
  pub others_low : numbers_fit n (cut_blocks d) ≡ true
  pub free : (is_rich && have_odd_tables all) ≡ false
  pub others_free : (is_rich && have_odd_tables d) ≡ false
  pub light : weight_in (cut_blocks all) < greatest_count
  pub others_light : weight_in (cut_blocks d) < greatest_count

pub part-known : (is_rich : Bool) (n : ℕ) (name : BlockElement) (attributes : List documents.BlockAttribute)
    (all d : documents.Blocks)
    → (((blocks_keep false (cut_blocks all) && true) && true)
    && blocks_keep false (cut_blocks d)) ≡ true
    → ((is_rich && formats_show is_rich (cut_blocks all)) && formats_show is_rich (cut_blocks d)) ≡ true
    → (is_normal_block false (documents.element name attributes (cut_blocks all))
    && are_normal_blocks false (cut_blocks d)) ≡ true
    → max (depth_among (cut_blocks all)) (depth_among (cut_blocks d)) + n ≤ most_nested
    → (numbers_fit n (cut_blocks all) && numbers_fit n (cut_blocks d)) ≡ true
    → (is_rich && (have_odd_tables all || have_odd_tables d)) ≡ false
    → weight_in (cut_blocks all) + weight_in (cut_blocks d) < greatest_count → IsPart is_rich n all d
part-known is_rich n name attributes all d keep formats normal fits numbers plain light =
    let seen : documents.Blocks = cut_blocks all in
    let rest : documents.Blocks = cut_blocks d in
    let keeps = and_parts ((blocks_keep false seen && true) && true) (blocks_keep false rest) keep in
    let shows = and_parts (is_rich && formats_show is_rich seen) (formats_show is_rich rest) formats in
    let own_shows = and_parts is_rich (formats_show is_rich seen) shows.0 in
    let good = and_parts (is_normal_block false (documents.element name attributes seen))
    (are_normal_blocks false rest) normal in
    let low = and_parts (numbers_fit n seen) (numbers_fit n rest) numbers in
    let free = none-of is_rich (have_odd_tables all) (have_odd_tables d) plain in
    record {
      rich = own_shows.0;
      keep = kept-inside seen keeps.0;
      others_keep = keeps.1;
      shows = own_shows.1;
      others_show = shows.1;
      form = (and_parts (is_normal_element name attributes seen) (are_normal_blocks false seen) good.0).1;
      others_form = good.1;
      fits = left-fits (depth_among seen) (depth_among rest) n most_nested fits;
      others_fit = right-fits (depth_among seen) (depth_among rest) n most_nested fits;
      low = low.0;
      others_low = low.1;
      free = free.0;
      others_free = free.1;
      light = left-light (weight_in seen) (weight_in rest) light;
      others_light = right-light (weight_in seen) (weight_in rest) light;
    }

-- what is known of a cell, and of those behind it
pub record IsSettledCell (seen rest : documents.Blocks) : Type 0 where
  pub inner : are_settled_blocks seen ≡ true
  pub after : are_settled_in an.Row rest ≡ true

pub cell-settled : (name : BlockElement) (attributes : List documents.BlockAttribute) (seen rest : documents.Blocks)
    → are_settled_in name seen ≡ are_settled_blocks seen
    → ((are_of_cell attributes && are_settled_in name seen) && are_settled_in an.Row rest) ≡ true
    → IsSettledCell seen rest
cell-settled name attributes seen rest plain settled =
    let own : Bool = are_of_cell attributes in
    let parts = and_parts (own && are_settled_in name seen) (are_settled_in an.Row rest) settled in
    let cell = and_parts own (are_settled_in name seen) parts.0 in
    record { inner = sym plain ∙ cell.1; after = parts.1 }

-- ---- anchors

-- those of a block come back before these
abbrev pub stays : Bool → documents.Block → documents.Blocks → Bool
stays is_end b bs = block_keeps b && (not (is_alone b) || stand_alone is_end bs)

pub lasting-line : (is_end : Bool) (xs : Inlines) (bs : documents.Blocks)
    → stays is_end (documents.paragraph xs) bs ≡ true → are_anchors xs ≡ false → is_lasting xs ≡ true
lasting-line is_end xs bs h e =
    and_from (not (are_anchors xs)) (line_keeps xs) (ap not e)
    (and_parts (line_keeps xs) (not (are_anchors xs) || stand_alone is_end bs) h).0

module _ (scripting is_rich : Bool) where
  -- a paragraph of anchors alone, and what stands behind it
  pub record IsAlone (before : Option (List AttributePair)) (f : NumberedForest) (xs : Inlines) (d : documents.Blocks)
      : Type 0 where
    pub id : ℕ
    pub line : ℕ
    pub rest : NumberedForest
    pub content : Simples
    pub some : has_none xs ≡ false
    pub own : AreTargets is_rich content xs
    pub shows : shown_of scripting is_rich before f
        ≡ more (made id role.Paragraph [] content) (shown_of scripting is_rich (Some []) (behind line rest))
    pub others : Stands (value_forest rest) (trees_in d)
    pub ordered : is_ordered (suc line) rest ≡ true

  pub alone-found : (xs : Inlines) (d : documents.Blocks) (b : Bool) (before : Option (List AttributePair))
      (f : NumberedForest) → IsFresh before
      → Stands (value_forest f) (trees_in (documents.block (documents.paragraph xs) d)) → are_anchors xs ≡ true
      → line_keeps xs ≡ true → is_normal_paragraph b xs ≡ true → (k : ℕ) → is_ordered k f ≡ true
      → IsAlone before f xs d
  alone-found xs d b before f fresh e anchors keep normal k o =
      let own = from-block f (codes "p") [] (line_trees xs) (trees_in d) e refl in
      let order = block-order k f own.id (codes "p") [] own.inside own.line own.rest own.is o in
      record {
        id = own.id;
        line = own.line;
        rest = own.rest;
        content = shown_of scripting is_rich None own.inside;
        some = from-not (has_none xs) (and_parts (not (has_none xs)) _ (and_parts _ _ normal).0).0;
        own = targets-shown scripting is_rich xs None own.inside own.within anchors keep
            (alone-normal b xs anchors normal);
        shows = ap (shown_of scripting is_rich before) own.is
            ∙ paragraph-shown scripting is_rich before own.id own.inside (behind own.line own.rest) fresh;
        others = own.others;
        ordered = order.1;
      }

  pub alone-first : (block : documents.Block) (d : documents.Blocks) (b is_end : Bool)
      (before : Option (List AttributePair)) (f : NumberedForest) (n : ℕ) → IsFresh before
      → Stands (value_forest f) (trees_in (documents.block block d)) → is_alone (cut_block block) ≡ true
      → stays is_end (cut_block block) (cut_blocks d) ≡ true → is_normal_block b (cut_block block) ≡ true
      → (k : ℕ) → is_ordered k f ≡ true
      → ((g : NumberedForest) → Stands (value_forest g) (trees_in d) → (k : ℕ) → is_ordered k g ≡ true
      → AreReturned scripting is_rich is_end (Some []) g n (cut_blocks d))
      → AreReturned scripting is_rich is_end before f n (documents.block (cut_block block) (cut_blocks d))
  alone-first (documents.paragraph xs) d b is_end before f n fresh e anchors keep normal k o later =
      let stands : Bool = stand_alone is_end (cut_blocks d) in
      let keeps = and_parts (line_keeps xs) (not (are_anchors xs) || stands) keep in
      let own = alone-found xs d b before f fresh e anchors keeps.0 normal k o in
      alone-returned scripting is_rich is_end before f own.rest n own.line own.id xs own.content anchors own.some
      own.own own.shows (cut_blocks d) (sym (ap (λ a. not a || stands) anchors) ∙ keeps.1)
      (later own.rest own.others (suc own.line) own.ordered)
  alone-first b d in_one is_end before f n fresh e anchors keep normal k o later = false-true anchors

  -- and in a figure or a `details`
  pub alone-titled : (in_figure : Bool) (block : documents.Block) (d : documents.Blocks)
      (before : Option (List AttributePair))
      (f : NumberedForest) (n : ℕ) → IsFresh before
      → Stands (value_forest f) (trees_in (documents.block block d)) → is_alone (cut_block block) ≡ true
      → stays false (cut_block block) (cut_blocks d) ≡ true → is_normal_block false (cut_block block) ≡ true
      → (k : ℕ) → is_ordered k f ≡ true
      → ((g : NumberedForest) → Stands (value_forest g) (trees_in d) → (k : ℕ) → is_ordered k g ≡ true
      → AreGiven (titled_of (title_of in_figure) is_rich n) (shown_of scripting is_rich (Some []) g) (cut_blocks d))
      → AreGiven (titled_of (title_of in_figure) is_rich n) (shown_of scripting is_rich before f)
      (documents.block (cut_block block) (cut_blocks d))
  alone-titled in_figure (documents.paragraph xs) d before f n fresh e anchors keep normal k o later =
      let stands : Bool = stand_alone false (cut_blocks d) in
      let keeps = and_parts (line_keeps xs) (not (are_anchors xs) || stands) keep in
      let own = alone-found xs d false before f fresh e anchors keeps.0 normal k o in
      alone-given scripting is_rich false before f own.rest n own.line own.id xs own.content anchors own.some own.own
      own.shows in_figure (cut_blocks d) (sym (ap (λ a. not a || stands) anchors) ∙ keeps.1)
      (later own.rest own.others (suc own.line) own.ordered)
  alone-titled in_figure b d before f n fresh e anchors keep normal k o later = false-true anchors
