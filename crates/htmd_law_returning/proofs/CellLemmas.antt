-- What is known of the blocks in a cell, and of their nodes.
use Rattle.std.proofs.Common.{◌≡◌, ℕ, suc, ◌<◌, Bool, true, false, not, ◌&&◌, ◌||◌, ap, List, refl, sym}
use Rattle.std.proofs.Common.{◌∙◌, subst, Option, None, [], ◌∷◌}
use Rattle.std.proofs.lemmas.Bool.{and_parts}
use Rattle.htmd_lexical.specs.Characters.{line_feed}
use Rattle.htmd_nodes.specs.NumberedTrees.{NumberedForest, value_forest}
use Rattle.htmd_nodes.specs.NumberedTrees as page
use Rattle.htmd_document.specs.Documents.{paragraph}
use Rattle.htmd_document.specs.Documents.{Blocks, no_blocks, block}
use Rattle.htmd_document.specs.FlatDocuments.{text_in_line}
use Rattle.htmd_document.specs.NormalDocuments.{are_normal_blocks}
use Rattle.htmd_document.specs.NormalDocuments.{is_normal_paragraph}
use Rattle.htmd_document.specs.TightItems.{is_filled}
use Rattle.htmd_document.specs.declared.document.BlockElement.TheVariants as an
use Rattle.htmd_flow.specs.TableElements as elements
use Rattle.htmd_shown.specs.Pieces.{greatest_count}
use Rattle.htmd_shown.specs.SimpleTrees.{Simples}
use Rattle.htmd_law_texts.proofs.FlatForm.{in_line_cases}
use Rattle.htmd_law_returning.specs.PageFormats.{line_shows, formats_show}
use Rattle.htmd_law_returning.specs.SettledDocuments.{are_settled_in}
use Rattle.htmd_law_returning.specs.SettledDocuments.{is_settled_paragraph, weight_in, weight_among}
use Rattle.htmd_law_returning.proofs.BlockTrees.{trees_in, cut_blocks}
use Rattle.htmd_law_returning.proofs.ElementForms.{are_settled_alone}
use Rattle.htmd_law_returning.proofs.InlineLemmas.{left-light}
use Rattle.htmd_law_returning.proofs.InsideLemmas.{inside_trees, a_text, lone-line}
use Rattle.htmd_law_returning.proofs.LeanTrees.{are_plain, AreLeanTrees, none-lean, line-lean, text-lean}
use Rattle.htmd_law_returning.proofs.OrderLemmas.{is_ordered, ordered-next}
use Rattle.htmd_law_returning.proofs.PageLemmas.{shown_of, from-none, from-text, line-shown, none-shown}
use Rattle.htmd_law_returning.proofs.StandLemmas.{Stands}
use Rattle.htmd_law_returning.proofs.StartLemmas.{false-true}
use Rattle.htmd_law_returning.specs.LastingAnchors.{line_keeps}
use Rattle.htmd_law_returning.proofs.KeptBlocks.{blocks_keep}
use Rattle.htmd_document.specs.NormalInlines.{are_anchors}
use Rattle.htmd_law_returning.proofs.TaskLemmas.{unboxed, paragraph-parts, paragraph-shown-at}

-- ---- blocks

-- a paragraph at most: tasks stand in items alone, and anchors alone before code blocks
pub one-paragraph : (bs : Blocks) → elements.is_paragraph_at_most bs ≡ true → are_normal_blocks false bs ≡ true
    → blocks_keep false bs ≡ true → are_plain bs ≡ true
one-paragraph no_blocks h normal keep = refl
one-paragraph (block (paragraph xs) no_blocks) h normal keep =
    let some = (and_parts (line_keeps xs) (not (are_anchors xs) || false)
    (and_parts (line_keeps xs && (not (are_anchors xs) || false)) true keep).0).1 in
    ap (λ x. (not x && not (are_anchors xs)) && true) (unboxed (block (paragraph xs) no_blocks) normal)
    ∙ ap (λ x. x && true) (or-first (not (are_anchors xs)) some)
  where
    or-first : (x : Bool) → (x || false) ≡ true → x ≡ true
    or-first true h = refl
    or-first false h = h
one-paragraph (block b no_blocks) h normal keep = false-true h
one-paragraph (block b (block c bs)) h normal keep = false-true h

-- cells stand in lines of their own
pub cells-long : (bs : Blocks) → are_settled_in an.Row bs ≡ true → is_filled bs ≡ true
    → text_in_line bs ≡ None
cells-long no_blocks h some = false-true some
cells-long (block (paragraph xs) no_blocks) h some = false-true h
cells-long (block b no_blocks) h some = refl
cells-long (block b (block c bs)) h some = refl

-- ---- nodes

module _ (scripting is_rich : Bool) (n : ℕ) where
  pub inside-lean : (all : Blocks) (f : NumberedForest)
      → Stands (value_forest f) (inside_trees (text_in_line (cut_blocks all)) (trees_in all))
      → are_settled_alone (cut_blocks all) ≡ true → formats_show is_rich (cut_blocks all) ≡ true
      → are_normal_blocks false (cut_blocks all) ≡ true → weight_in (cut_blocks all) < greatest_count
      → is_ordered 0 f ≡ true
      → ((g : NumberedForest) → Stands (value_forest g) (trees_in all) → (k : ℕ) → is_ordered k g ≡ true
      → AreLeanTrees is_rich (cut_blocks all) (shown_of scripting is_rich None g))
      → AreLeanTrees is_rich (cut_blocks all) (shown_of scripting is_rich None f)
  inside-lean all f e settled formats normal light o later =
      in_line_cases Inside (cut_blocks all) normal
      (λ e h s g l r. subst (λ (ts : Simples). AreLeanTrees is_rich no_blocks ts)
      (sym (ap (shown_of scripting is_rich None) (from-none f e) ∙ none-shown scripting is_rich None))
      (none-lean is_rich))
      (λ s t e h settled formats light later.
      let own = paragraph-parts false (a_text s) (and_parts (is_settled_paragraph (a_text s)) true settled).0
      (and_parts (is_normal_paragraph false (a_text s)) true h).0 refl in
      let shown = paragraph-shown-at scripting is_rich (a_text s) f n
      (subst (Stands (value_forest f)) (lone-line s t) e) own
      (and_parts (line_shows is_rich (a_text s)) true formats).0 (left-light (weight_among (a_text s)) 0 light) o in
      text-lean is_rich (a_text s) (shown_of scripting is_rich None f) (shown.plain refl) refl)
      (λ c t e h settled formats light later.
      let inner = from-text f (line_feed ∷ []) (trees_in all) e in
      subst (λ (ts : Simples). AreLeanTrees is_rich c ts)
      (sym (ap (shown_of scripting is_rich None) inner.is ∙ line-shown scripting is_rich None inner.id inner.rest))
      (line-lean is_rich c (shown_of scripting is_rich None inner.rest)
      (later inner.rest inner.others (suc inner.id)
      (ordered-next 0 f (page.text inner.id (line_feed ∷ [])) inner.rest inner.is o).rest)))
      e normal settled formats light later
    where
      Inside : Blocks → Option (List ℕ) → Type 0
      Inside c t =
          Stands (value_forest f) (inside_trees t (trees_in all)) → are_normal_blocks false c ≡ true
          → are_settled_alone c ≡ true → formats_show is_rich c ≡ true → weight_in c < greatest_count
          → ((g : NumberedForest) → Stands (value_forest g) (trees_in all) → (k : ℕ) → is_ordered k g ≡ true
          → AreLeanTrees is_rich c (shown_of scripting is_rich None g))
          → AreLeanTrees is_rich c (shown_of scripting is_rich None f)
