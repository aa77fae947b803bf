-- What stands in an item comes back.
use Rattle.std.proofs.Common.{◌≡◌, ℕ, suc, ◌+◌, Bool, true, false, ◌&&◌, List, []}
use Rattle.std.proofs.Common.{◌∷◌, ◌++◌, refl, sym, ap, ◌∙◌}
use Rattle.std.proofs.Common.{subst, arith, Option, None, cond, ◌||◌, not}
use Rattle.std.specs.Prelude.{nat_le}
use Rattle.std.specs.List.{list_any}
use Rattle.std.proofs.lemmas.Bool.{and_parts}
use Rattle.htmd_lexical.specs.Characters.{line_feed}
use Rattle.htmd_lexical.specs.AttributePairs.{AttributePair}
use Rattle.htmd_nodes.specs.NumberedTrees.{NumberedForest, value_forest}
use Rattle.htmd_nodes.specs.NumberedTrees as page
use Rattle.htmd_document.specs.Documents as documents
use Rattle.htmd_document.specs.NormalDocuments.{are_normal_blocks}
use Rattle.htmd_document.specs.TightItems.{goes_on_a_paragraph}
use Rattle.htmd_flow.specs.Flows as flow
use Rattle.htmd_flow.specs.Paragraphs.{Writing, fed, fed_all}
use Rattle.htmd_flow.specs.Paragraphs.{blocks_in}
use Rattle.htmd_flow.specs.Parts.{run}
use Rattle.htmd_flow.specs.Parts.{edge}
use Rattle.htmd_flow.specs.Lists.{holds_paragraph}
use Rattle.htmd_flow.specs.Levels.{list_of}
use Rattle.htmd_shown.specs.SimpleTrees.{Simples, text, more}
use Rattle.htmd_shown.specs.Kinds.{has}
use Rattle.htmd_shown.specs.Roles.{is_paragraph}
use Rattle.std.proofs.Common.{◌<◌}
use Rattle.std.proofs.lemmas.List.Sums.{fold-append}
use Rattle.htmd_document.specs.Documents.{Inlines}
use Rattle.htmd_document.specs.NormalDocuments.{is_normal_paragraph}
use Rattle.htmd_document.specs.NormalDocuments.{may_be_tight}
use Rattle.htmd_document.specs.FlatDocuments.{flattened}
use Rattle.htmd_document.specs.TightItems.{is_paragraph as is_line}
use Rattle.htmd_document.specs.TightItems.{is_filled}
use Rattle.htmd_document_of_tree.specs.Seen.{all_seen}
use Rattle.htmd_law_returning.specs.LastingAnchors.{are_unseen}
use Rattle.htmd_law_returning.specs.LastingAnchors.{title_keeps, heading_keeps}
use Rattle.htmd_law_returning.specs.NoAnchors.{blocks_have_no_anchors}
use Rattle.htmd_law_returning.proofs.FirstTargets.{line-seen-none, line-first, plain-nameless}
use Rattle.htmd_law_returning.proofs.HomeAnchors.{none-in-blocks}
use Rattle.htmd_law_returning.proofs.LocalAnchors.{come_first, comes_first, are_nameless, is_nameless}
use Rattle.htmd_law_returning.proofs.LocalAnchors.{all-nameless-first}
use Rattle.htmd_document_of_tree.specs.Seen.{seen}
use Rattle.htmd_law_returning.specs.SettledDocuments.{are_settled_blocks}
use Rattle.htmd_law_returning.specs.SettledDocuments.{weight_in}
use Rattle.htmd_law_returning.specs.SettledDocuments.{weight_among}
use Rattle.htmd_law_returning.specs.SettledDocuments.{said_in}
use Rattle.htmd_law_returning.proofs.TaskLemmas.{unboxed, may-always}
use Rattle.htmd_law_returning.specs.PageFormats.{line_shows, formats_show}
use Rattle.htmd_law_returning.proofs.InlineLemmas.{left-light}
use Rattle.htmd_law_returning.proofs.StandLemmas.{Stands}
use Rattle.htmd_law_returning.proofs.TreesLemmas.{line_trees, spelled_line}
use Rattle.htmd_law_returning.proofs.BlockTrees.{trees_in, item_trees, spelled_in, behind_first}
use Rattle.htmd_law_returning.proofs.BlockTrees.{cut_block, cut_blocks}
use Rattle.htmd_law_returning.proofs.BehindLineLemmas.{split, both-spent}
use Rattle.htmd_law_returning.proofs.TightLemmas.{blocks-hold, one-goes, two-stop}
use Rattle.htmd_law_returning.proofs.StartLemmas.{clean, false-true}
use Rattle.htmd_law_returning.proofs.StartLemmas.{begins_boxed}
use Rattle.htmd_law_returning.proofs.TaskLemmas.{IsParagraph, paragraph-parts, paragraph-some, paragraph-fed}
use Rattle.htmd_law_returning.proofs.TaskLemmas.{paragraph-shown-at, steady-paragraph}
use Rattle.htmd_law_returning.specs.SettledDocuments.{is_settled_paragraph, behind_box}
use Rattle.htmd_law_returning.proofs.StartLemmas.{in_item}
use Rattle.htmd_law_returning.proofs.PageLemmas.{line_before}
use Rattle.htmd_law_returning.proofs.PageLemmas.{from-none, from-text, IsFresh, fresh-first}
use Rattle.htmd_law_returning.proofs.PageLemmas.{shown_of, line-shown}
use Rattle.htmd_law_returning.proofs.PageLemmas.{none-shown}
use Rattle.htmd_law_returning.proofs.PageLemmas.{and-false}
use Rattle.htmd_law_returning.proofs.CostLemmas.{AllSpend, spend-none, spend-text}
use Rattle.htmd_law_returning.proofs.CostLemmas.{spend-past, spend-within}
use Rattle.htmd_law_returning.proofs.OrderLemmas.{is_ordered, ordered-next}
use Rattle.htmd_shown.specs.Pieces.{greatest_count}
use Rattle.htmd_law_rendering.specs.SpelledTrees.{value_forest as forest_of}
use Rattle.htmd_law_returning.proofs.ReadyLemmas.{IsReady, clean-ready, line-ready, none-parts, parts_of, text-parts}
use Rattle.htmd_law_returning.proofs.ListFlowLemmas.{in_one_item, item-ends, line-item, pair-item}
use Rattle.htmd_law_returning.proofs.ReturnedBlocks.{AreReturned, list_in, list-in, none-left, all-ready}
use Rattle.htmd_law_returning.specs.LastingAnchors.{line, lines_in}
use Rattle.htmd_law_returning.proofs.LocalAnchors.{local_all, pending_all}
use Rattle.htmd_law_returning.proofs.SoundBlocks.{AreSound, sound-none, sound-line}
use Rattle.htmd_law_returning.proofs.SoundNodes.{sound-text}
use Rattle.htmd_law_returning.proofs.SoundNodes.{sound-ended, IsEnded, at_end, at_text, behind_node}
use Rattle.htmd_law_returning.proofs.LeanTrees.{black-filled, line-unseen}
use Rattle.htmd_shown.specs.Showings.{shows, show}
use Rattle.htmd_shown.specs.Spaces.{is_blank_text}
use Rattle.htmd_law_returning.proofs.KindLemmas.{line-local, line-waits}
use Rattle.std.proofs.lemmas.Bool.{and_from}
use Rattle.htmd_document.specs.NormalInlines.{are_anchors}
use Rattle.htmd_law_returning.specs.LastingAnchors.{line_keeps}
use Rattle.htmd_law_returning.proofs.KeptBlocks.{blocks_keep}
use Rattle.htmd_law_returning.proofs.TaskLemmas.{is_lasting}
use Rattle.htmd_document.specs.LoneAnchors.{stand_alone}

-- a list that goes on a paragraph is none
no-paragraph : (b : documents.Block) → goes_on_a_paragraph b ≡ true
    → holds_paragraph (documents.block b documents.no_blocks) ≡ false
no-paragraph (documents.paragraph xs) h = false-true h
no-paragraph (documents.heading level xs) h = refl
no-paragraph (documents.code_block language s) h = refl
no-paragraph (documents.quote content) h = refl
no-paragraph documents.thematic_break h = refl
no-paragraph (documents.list start is_tight items) h = refl
no-paragraph (documents.table alignments header rows) h = refl
no-paragraph (documents.element name attributes content) h = refl
no-paragraph (documents.tags s) h = refl

-- no anchors stand alone in a tight item
lasting-of : (xs : Inlines) (b : Bool) → b ≡ false → (line_keeps xs && (not (are_anchors xs) || b)) ≡ true
    → is_lasting xs ≡ true
lasting-of xs b e h =
    let parts = and_parts (line_keeps xs) (not (are_anchors xs) || b) h in
    and_from (not (are_anchors xs)) (line_keeps xs) (either (are_anchors xs) parts.1) parts.0
  where
    either : (a : Bool) → (not a || b) ≡ true → not a ≡ true
    either true k = false-true (sym e ∙ k)
    either false k = refl

pub lasting-alone : (xs : Inlines) → blocks_keep false (documents.block (documents.paragraph xs) documents.no_blocks)
    ≡ true
    → is_lasting xs ≡ true
lasting-alone xs h = lasting-of xs false refl (and_parts _ true h).0

goes-no-code : (c : documents.Block) → goes_on_a_paragraph c ≡ true
    → stand_alone false (documents.block c documents.no_blocks) ≡ false
goes-no-code (documents.paragraph xs) h = refl
goes-no-code (documents.heading level xs) h = refl
goes-no-code (documents.code_block language s) h = false-true h
goes-no-code (documents.quote content) h = refl
goes-no-code documents.thematic_break h = refl
goes-no-code (documents.list start is_tight items) h = refl
goes-no-code (documents.table alignments header rows) h = refl
goes-no-code (documents.element name attributes content) h = refl
goes-no-code (documents.tags s) h = refl

pub lasting-pair : (xs : Inlines) (c : documents.Block) → goes_on_a_paragraph c ≡ true
    → blocks_keep false (documents.block (documents.paragraph xs) (documents.block c documents.no_blocks)) ≡ true
    → is_lasting xs ≡ true
lasting-pair xs c goes h =
    lasting-of xs (stand_alone false (documents.block c documents.no_blocks)) (goes-no-code c goes)
    (and_parts _ (blocks_keep false (documents.block c documents.no_blocks)) h).0

-- what shows of a line does with others behind it
ended-shows : (us vs ts : Simples) → IsEnded us vs ts → show false vs ≡ true → show false us ≡ true
ended-shows _ _ _ (at_end ts) h = false-true h
ended-shows _ _ _ (at_text s ts e) h =
    ap (λ b. not b || show false ts) e ∙ first (not (is_blank_text s)) (show false ts) h
  where
    first : (a b : Bool) → (a || false) ≡ true → (a || b) ≡ true
    first true b h = refl
    first false b h = false-true h
ended-shows _ _ _ (behind_node t us vs ts k) h =
    either (shows false t) (show false vs) (show false us) h (ended-shows us vs ts k)
  where
    either : (a b c : Bool) → (a || b) ≡ true → (b ≡ true → c ≡ true) → (a || c) ≡ true
    either true b c h f = refl
    either false b c h f = f h

ended-nameless : (us vs ts : Simples) → IsEnded us vs ts → are_nameless vs ≡ true → are_nameless ts ≡ true
    → are_nameless us ≡ true
ended-nameless _ _ _ (at_end ts) h k = k
ended-nameless _ _ _ (at_text s ts e) h k = k
ended-nameless _ _ _ (behind_node t us vs ts e) h k =
    let p = and_parts (is_nameless t) (are_nameless vs) h in
    and_from (is_nameless t) (are_nameless us) p.0 (ended-nameless us vs ts e p.1 k)

-- its targets come first where none stand behind it
ended-first : (us vs ts : Simples) → IsEnded us vs ts → come_first vs ≡ true → are_nameless ts ≡ true
    → come_first us ≡ true
ended-first _ _ _ (at_end ts) h k = all-nameless-first (more (text (line_feed ∷ [])) ts) k
ended-first _ _ _ (at_text s ts e) h k = all-nameless-first (more (text (s ++ line_feed ∷ [])) ts) k
ended-first _ _ _ (behind_node t us vs ts e) h k =
    let p = and_parts (comes_first t) (cond (nat_le (seen t) 0) (come_first vs) (are_nameless vs)) h in
    and_from (comes_first t) (cond (nat_le (seen t) 0) (come_first us) (are_nameless us)) p.0
    (either (nat_le (seen t) 0) p.1 (λ f. ended-first us vs ts e f k) (λ f. ended-nameless us vs ts e f k))
  where
    either : (b : Bool) {x y u v : Bool} → cond b x y ≡ true → (x ≡ true → u ≡ true)
        → (y ≡ true → v ≡ true)
        → cond b u v ≡ true
    either true h f g = f h
    either false h f g = g h

module _ (scripting is_rich : Bool) where
  -- what stands in an item
  pub record IsContent (n : ℕ) (is_tight : Bool) (bs : documents.Blocks) (ts : Simples) : Type 0 where
    pub sound : AreSound ts (lines_in bs)
    pub waits : pending_all [] ts ≡ []
    pub shows : is_rich ≡ true → is_filled bs ≡ true → show false ts ≡ true
    pub leads : title_keeps bs ≡ true → come_first ts ≡ true
    pub unseen : are_unseen bs ≡ true → all_seen ts ≡ 0
    pub spent : AllSpend (weight_in bs) (said_in bs) ts
    pub paragraphs : list_any (has is_paragraph) (list_of ts) ≡ (not is_tight && holds_paragraph bs)
    pub blocks : flow.blocks_of true (in_one_item is_rich n 0 (local_all [] ts)) ≡ bs

  -- blocks in lines of their own
  item-blocks : (is_tight : Bool) (bs : documents.Blocks) (f : NumberedForest) (n : ℕ)
      → Stands (value_forest f) (line_before (trees_in bs))
      → (not is_tight && holds_paragraph (cut_blocks bs)) ≡ holds_paragraph (cut_blocks bs)
      → blocks_keep false (cut_blocks bs) ≡ true → is_ordered 0 f ≡ true
      → ((g : NumberedForest) → Stands (value_forest g) (trees_in bs) → (k : ℕ) → is_ordered k g ≡ true
      → AreReturned scripting is_rich false None g n (cut_blocks bs))
      → IsContent n is_tight (cut_blocks bs) (shown_of scripting is_rich None f)
  item-blocks is_tight bs f n e same keep o later =
      let d : documents.Blocks = cut_blocks bs in
      let inner = from-text f (line_feed ∷ []) (trees_in bs) e in
      let all : AreReturned scripting is_rich false None inner.rest n d = later inner.rest inner.others (suc inner.id)
      (ordered-next 0 f (page.text inner.id (line_feed ∷ [])) inner.rest inner.is o).rest in
      let ts : Simples = shown_of scripting is_rich None inner.rest in
      let start : Writing = fed (clean in_item []) (run (line_feed ∷ []) [] false) in
      let us : Simples = local_all [] ts in
      let v : Writing = fed_all start (parts_of is_rich n us) in
      let ready : IsReady in_item v (list_in d) = all-ready scripting is_rich None inner.rest n d all in_item start []
      (line-ready in_item [] refl) (λ h. (refl, refl)) in
      subst (λ (us : Simples). IsContent n is_tight d us)
      (sym (ap (shown_of scripting is_rich None) inner.is ∙ line-shown scripting is_rich None inner.id inner.rest))
      (record {
        sound = sound-text (line_feed ∷ []) ts (lines_in d) all.sound;
        waits = line-waits ts ∙ none-left scripting is_rich None inner.rest n d all;
        shows = λ r h. line-unseen false ts ∙ (all.lean.shows r ∙ (black-filled d keep ∙ h));
        leads = λ h. line-first ts ∙ all.first h;
        unseen = λ e. line-seen-none ts ∙ all.unseen e;
        spent = spend-past (weight_in d) (text (line_feed ∷ [])) ts (spend-text (line_feed ∷ [])) all.spent;
        paragraphs = all.paragraphs ∙ sym same;
        blocks =
            ap (λ ps. flow.blocks_of true (ps ++ edge ∷ run (line_feed ∷ []) [] false ∷ []))
            (ap (parts_of is_rich n) (line-local ts) ∙ text-parts is_rich n 0 (line_feed ∷ []) us)
            ∙ (ap blocks_in (fold-append fed start (parts_of is_rich n us)
            (edge ∷ run (line_feed ∷ []) [] false ∷ []))
            ∙ item-ends v d (list_in d) ready (list-in d));
      })

  -- a line
  item-line-content : (xs : Inlines) (f : NumberedForest) (n : ℕ) → Stands (value_forest f) (line_trees xs)
      → IsParagraph xs → line_shows is_rich xs ≡ true → weight_among xs < greatest_count
      → is_ordered 0 f ≡ true
      → IsContent n true (documents.block (documents.paragraph xs) documents.no_blocks)
      (shown_of scripting is_rich None f)
  item-line-content xs f n e own formats light o =
      let shown = paragraph-shown-at scripting is_rich xs f n e own formats light o in
      record {
        sound = sound-line xs (shown_of scripting is_rich None f) shown.sound;
        waits = shown.waits;
        shows = λ r h. shown.shows;
        leads = λ h. shown.first (and_parts (heading_keeps (behind_box xs)) true h).0;
        unseen = λ e. false-true e;
        spent = spend-within (weight_among xs) (weight_among xs + 0) (shown_of scripting is_rich None f) (omega arith)
            shown.spent;
        paragraphs = shown.lined;
        blocks = line-item is_rich n (local_all [] (shown_of scripting is_rich None f)) shown.numbers xs shown.gives
            (paragraph-some xs own)
            (paragraph-fed shown.numbers xs own shown.rising in_item [] (λ h. (refl, refl)));
      }

  -- a line and a list
  item-pair : (xs : Inlines) (c : documents.Block) (f : NumberedForest) (n : ℕ)
      → Stands (value_forest f) (forest_of (item_trees true
      (documents.block (documents.paragraph xs) (documents.block c documents.no_blocks))
      (spelled_in (documents.block (documents.paragraph xs) (documents.block c documents.no_blocks)))))
      → are_settled_blocks (documents.block (documents.paragraph xs) (cut_blocks (documents.block c
      documents.no_blocks))) ≡ true → is_lasting xs ≡ true
      → line_shows is_rich xs ≡ true → goes_on_a_paragraph (cut_block c) ≡ true
      → are_normal_blocks true (documents.block (documents.paragraph xs) (cut_blocks (documents.block c
      documents.no_blocks))) ≡ true
      → weight_in (documents.block (documents.paragraph xs) (cut_blocks (documents.block c documents.no_blocks)))
      < greatest_count
      → is_ordered 0 f ≡ true
      → ((before : Option (List AttributePair)) (g : NumberedForest) → IsFresh before
      → Stands (value_forest g) (trees_in (documents.block c documents.no_blocks)) → (k : ℕ)
      → is_ordered k g ≡ true
      → AreReturned scripting is_rich false before g n (cut_blocks (documents.block c documents.no_blocks)))
      → IsContent n true (documents.block (documents.paragraph xs) (cut_blocks (documents.block c
      documents.no_blocks)))
      (shown_of scripting is_rich None f)
  item-pair xs c f n e settled lasts formats goes normal light o behind_it =
      let rest : documents.Blocks = cut_blocks (documents.block c documents.no_blocks) in
      let own = and_parts (is_settled_paragraph xs) (are_settled_blocks rest) settled in
      let form = and_parts (is_normal_paragraph true xs) (are_normal_blocks false rest) normal in
      let own_line = paragraph-parts true xs own.0 form.0 lasts in
      let parts = split scripting is_rich (spelled_line xs) (spelled_in (documents.block c documents.no_blocks))
      n 0 None f
      (steady-paragraph scripting is_rich xs own_line formats) fresh-first e o in
      let us : Simples = shown_of scripting is_rich None f in
      let vs : Simples = shown_of scripting is_rich None parts.front in
      let ts : Simples = shown_of scripting is_rich parts.last parts.back in
      let shown = paragraph-shown-at scripting is_rich xs parts.front n parts.line own_line formats
      (left-light (weight_among xs) (weight_in rest) light) parts.first_ordered in
      let all : AreReturned scripting is_rich false parts.last parts.back n rest =
      behind_it parts.last parts.back parts.fresh parts.others 0 parts.ordered in
      record {
        sound = sound-ended us vs ts (line false xs ∷ []) (lines_in rest) parts.extended.shape shown.waits
            (sound-line xs vs shown.sound) all.sound;
        waits = parts.extended.waits [] ∙ (ap (λ ids. pending_all ids ts) shown.waits
            ∙ none-left scripting is_rich parts.last parts.back n rest all);
        shows = λ r h. ended-shows us vs ts parts.extended.shape shown.shows;
        leads = λ h.
            let p = and_parts (heading_keeps (behind_box xs)) (blocks_have_no_anchors rest) h in
            ended-first us vs ts parts.extended.shape (shown.first p.0)
            (plain-nameless ts (lines_in rest) all.sound (none-in-blocks rest p.1));
        unseen = λ e. false-true e;
        spent = both-spent is_rich n (weight_among xs) (weight_in rest) us vs ts parts.extended shown.spent all.spent;
        paragraphs = parts.extended.kinds
            ∙ (ap (λ x. x || list_any (has is_paragraph) (list_of ts)) shown.lined
            ∙ (all.paragraphs ∙ no-paragraph (cut_block c) goes));
        blocks = pair-item is_rich n (local_all [] us) (local_all [] vs) (local_all [] ts) shown.numbers xs
            (list_in rest)
            (λ w. parts.extended.gives [] w
            ∙ ap (λ ids. fed_all (fed (fed_all w (parts_of is_rich n (local_all [] vs)))
            (run (line_feed ∷ []) [] false)) (parts_of is_rich n (local_all ids ts))) shown.waits)
            shown.gives
            (paragraph-some xs own_line)
            (paragraph-fed shown.numbers xs own_line shown.rising in_item [] (λ h. (refl, refl)))
            (λ w h. all-ready scripting is_rich parts.last parts.back n rest all in_item w
            (documents.paragraph xs ∷ []) h
            (may-always (begins_boxed rest) in_item (documents.paragraph xs ∷ []) (unboxed rest form.1)));
      }

  -- an item of a tight list that begins with another block
  plain-content : (b : documents.Block) (bs : documents.Blocks) (f : NumberedForest) (n : ℕ)
      → Stands (value_forest f) (line_before (trees_in (documents.block b bs)))
      → is_line (cut_block b) ≡ false
      → may_be_tight (flattened (cut_blocks (documents.block b bs))) ≡ true
      → blocks_keep false (cut_blocks (documents.block b bs)) ≡ true → is_ordered 0 f ≡ true
      → ((g : NumberedForest) → Stands (value_forest g) (trees_in (documents.block b bs)) → (k : ℕ)
      → is_ordered k g ≡ true → AreReturned scripting is_rich false None g n (cut_blocks (documents.block b bs)))
      → IsContent n true (cut_blocks (documents.block b bs)) (shown_of scripting is_rich None f)
  plain-content b bs f n e plain short keep o later =
      item-blocks true (documents.block b bs) f n e (sym (blocks-hold (cut_block b) (cut_blocks bs) plain short)) keep
      o later

  pub item-content : (is_tight : Bool) (bs : documents.Blocks) (f : NumberedForest) (n : ℕ)
      → Stands (value_forest f) (forest_of (item_trees is_tight bs (spelled_in bs)))
      → are_settled_blocks (cut_blocks bs) ≡ true → blocks_keep false (cut_blocks bs) ≡ true
      → formats_show is_rich (cut_blocks bs) ≡ true
      → (is_tight ≡ true → may_be_tight (flattened (cut_blocks bs)) ≡ true)
      → are_normal_blocks true (cut_blocks bs) ≡ true
      → weight_in (cut_blocks bs) < greatest_count → is_ordered 0 f ≡ true
      → ((g : NumberedForest) → Stands (value_forest g) (trees_in bs) → (k : ℕ) → is_ordered k g ≡ true
      → AreReturned scripting is_rich false None g n (cut_blocks bs))
      → ((before : Option (List AttributePair)) (g : NumberedForest) → IsFresh before
      → Stands (value_forest g) (trees_in (behind_first bs)) → (k : ℕ) → is_ordered k g ≡ true
      → AreReturned scripting is_rich false before g n (cut_blocks (behind_first bs)))
      → IsContent n is_tight (cut_blocks bs) (shown_of scripting is_rich None f)
  item-content is_tight documents.no_blocks f n e settled keep formats tight normal light o later behind_it =
      subst (λ (us : Simples). IsContent n is_tight documents.no_blocks us)
      (sym (ap (shown_of scripting is_rich None) (from-none f e) ∙ none-shown scripting is_rich None))
      (record {
        sound = sound-none;
        waits = refl;
        shows = λ r h. false-true h;
        leads = λ h. refl;
        unseen = λ h. refl;
        spent = spend-none;
        paragraphs = sym (and-false (not is_tight));
        blocks =
            ap (λ ps. flow.blocks_of true (ps ++ edge ∷ run (line_feed ∷ []) [] false ∷ []))
            (none-parts is_rich n 0)
            ∙ item-ends (clean in_item []) documents.no_blocks [] (clean-ready in_item [] refl) refl;
      })
  item-content false (documents.block b bs) f n e settled keep formats tight normal light o later behind_it =
      item-blocks false (documents.block b bs) f n e refl keep o later
  item-content true (documents.block (documents.paragraph xs) (documents.block c (documents.block d bs))) f n e settled
      keep
      formats tight normal light o later behind_it =
      false-true (sym (two-stop xs (cut_block c) (cut_block d) (cut_blocks bs)) ∙ tight refl)
  item-content true (documents.block (documents.paragraph xs) (documents.block c documents.no_blocks)) f n e settled
      keep
      formats tight normal light o later behind_it =
      item-pair xs c f n e settled (lasting-pair xs (cut_block c) (one-goes xs (cut_block c) (tight refl)) keep)
      (and_parts (line_shows is_rich xs) (formats_show is_rich (cut_blocks (documents.block c
      documents.no_blocks))) formats).0 (one-goes xs (cut_block c) (tight refl)) normal light o behind_it
  item-content true (documents.block (documents.paragraph xs) documents.no_blocks) f n e settled keep formats tight
      normal light o later behind_it =
      let own = paragraph-parts true xs (and_parts (is_settled_paragraph xs) true settled).0
      (and_parts (is_normal_paragraph true xs) true normal).0 (lasting-alone xs keep) in
      item-line-content xs f n e own (and_parts (line_shows is_rich xs) true formats).0
      (left-light (weight_among xs) 0 light) o
  item-content true (documents.block (documents.heading level xs) bs) f n e settled keep formats tight
      normal light o later behind_it =
      plain-content (documents.heading level xs) bs f n e refl (tight refl) keep o later
  item-content true (documents.block (documents.code_block language s) bs) f n e settled keep formats tight
      normal light o later behind_it =
      plain-content (documents.code_block language s) bs f n e refl (tight refl) keep o later
  item-content true (documents.block (documents.quote content) bs) f n e settled keep formats tight
      normal light o later behind_it =
      plain-content (documents.quote content) bs f n e refl (tight refl) keep o later
  item-content true (documents.block documents.thematic_break bs) f n e settled keep formats tight
      normal light o later behind_it =
      plain-content documents.thematic_break bs f n e refl (tight refl) keep o later
  item-content true (documents.block (documents.list start spread items) bs) f n e settled keep formats tight
      normal light o later behind_it =
      plain-content (documents.list start spread items) bs f n e refl (tight refl) keep o later
  item-content true (documents.block (documents.table alignments header rows) bs) f n e settled keep formats tight
      normal light o later behind_it =
      plain-content (documents.table alignments header rows) bs f n e refl (tight refl) keep o later
  item-content true (documents.block (documents.element name attributes content) bs) f n e settled keep formats tight
      normal light o later behind_it =
      plain-content (documents.element name attributes content) bs f n e refl (tight refl) keep o later
  item-content true (documents.block (documents.tags s) bs) f n e settled keep formats tight normal light o later
      behind_it =
      false-true settled
