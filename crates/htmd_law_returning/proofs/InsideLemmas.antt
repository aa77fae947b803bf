-- What stands in an element of HTML: a text alone, or blocks in lines of their own.
use Rattle.std.proofs.Common.{◌≡◌, ℕ, suc, ◌<◌, ◌+◌, Bool, true, false, not, ◌&&◌, List, [], ◌∷◌, refl}
use Rattle.std.proofs.Common.{sym, ap, ◌∙◌, subst, Option, Some, None, arith, ⊎_elim}
use Rattle.std.proofs.lemmas.Bool.{and_parts}
use Rattle.htmd_lexical.specs.CharacterClasses.{is_empty}
use Rattle.htmd_lexical.specs.Characters.{line_feed}
use Rattle.htmd_values.specs.ValueTrees as value
use Rattle.htmd_values.specs.ValueTrees.{ValueForest}
use Rattle.htmd_nodes.specs.NumberedTrees.{NumberedForest, value_forest}
use Rattle.htmd_nodes.specs.NumberedTrees as page
use Rattle.htmd_document.specs.Documents.{Inlines, no_inlines, inline, paragraph, Blocks, no_blocks}
use Rattle.htmd_document.specs.Documents.{block, BlockAttribute}
use Rattle.htmd_document.specs.Documents as documents
use Rattle.htmd_document.specs.FlatDocuments.{text_in_line, text_alone}
use Rattle.htmd_document.specs.NormalDocuments.{are_normal_blocks, is_normal_paragraph}
use Rattle.htmd_document.specs.NormalInlines.{is_text, is_line, has_double_space}
use Rattle.htmd_document.specs.Tags.{element_name}
use Rattle.htmd_document.specs.declared.document.BlockElement.{BlockElement}
use Rattle.htmd_flow.specs.Flows as flow
use Rattle.htmd_flow.specs.Paragraphs.{Writing, fed, fed_all, blocks_in}
use Rattle.htmd_flow.specs.Parts.{Part, run, edge}
use Rattle.htmd_shown.specs.Spaces.{no_gap}
use Rattle.htmd_shown.specs.Pieces.{greatest_count}
use Rattle.htmd_shown.specs.ShownTexts.{shown_text}
use Rattle.htmd_shown.specs.SimpleTrees.{Simples, text, none, more}
use Rattle.htmd_law_rendering.specs.RenderedTrees.{pairs_of_element}
use Rattle.htmd_law_rendering.specs.SpelledTrees.{SpelledForest, lone_text}
use Rattle.htmd_law_rendering.specs.SpelledTrees as spelled
use Rattle.htmd_law_texts.proofs.FlatForm.{in_line_cases}
use Rattle.htmd_document_of_tree.specs.Seen.{all_seen}
use Rattle.htmd_law_returning.specs.LastingAnchors.{are_unseen}
use Rattle.htmd_law_returning.proofs.FirstTargets.{line-seen-none, line-first}
use Rattle.htmd_law_returning.specs.PageFormats.{line_shows, formats_show}
use Rattle.htmd_law_returning.specs.SettledDocuments.{is_settled_paragraph, weight_in, said_in}
use Rattle.htmd_law_returning.specs.SettledDocuments.{weight_among}
use Rattle.htmd_law_returning.proofs.BlockTrees.{trees_in, cut_blocks, spelled_element}
use Rattle.htmd_law_returning.proofs.CostLemmas.{AllSpend, spend-none, spend-text, spend-past, spend-within}
use Rattle.htmd_law_returning.proofs.ElementForms.{are_settled_alone}
use Rattle.htmd_law_returning.proofs.FlowLemmas.{line-end, paragraph-ends}
use Rattle.htmd_law_returning.proofs.GivenBlocks.{AreParts, AreReady, AreGiven}
use Rattle.htmd_law_returning.proofs.RunLemmas.{in_line}
use Rattle.htmd_law_returning.proofs.InlineLemmas.{left-light}
use Rattle.htmd_law_returning.proofs.OrderLemmas.{is_ordered, ordered-next}
use Rattle.htmd_law_returning.proofs.PageLemmas.{shown_of, from-none, from-text, line_before, line-shown, none-shown}
use Rattle.htmd_law_returning.proofs.ReadyLemmas.{parts_of, IsReady, none-parts, text-parts, edge-fed, line-ready}
use Rattle.htmd_law_returning.proofs.ReadyLemmas.{clean-ready, all-done}
use Rattle.htmd_law_returning.proofs.ReturnedBlocks.{list_in, list-in}
use Rattle.htmd_law_returning.proofs.ShownInlines.{text-at}
use Rattle.htmd_law_returning.proofs.LeanTrees.{is_black, line-unseen}
use Rattle.htmd_shown.specs.Showings.{show}
use Rattle.htmd_law_returning.proofs.StandLemmas.{Stands}
use Rattle.htmd_law_returning.proofs.StartLemmas.{in_blocks, clean, has_task, false-true, true-false}
use Rattle.htmd_law_returning.proofs.TaskLemmas.{paragraph-parts, paragraph-some, paragraph-fed, paragraph-shown-at}
use Rattle.htmd_law_returning.proofs.TaskLemmas.{IsParagraph, IsPlain, unboxed-line}
use Rattle.htmd_law_returning.specs.LastingAnchors.{lines_in}
use Rattle.htmd_law_returning.specs.LastingAnchors.{title_keeps}
use Rattle.htmd_law_returning.proofs.KindLemmas.{line-local, line-waits}
use Rattle.htmd_law_returning.proofs.LocalAnchors.{local_all, pending_all, come_first}
use Rattle.htmd_law_returning.proofs.SoundBlocks.{AreSound, sound-none, sound-line}
use Rattle.htmd_law_returning.proofs.SoundNodes.{sound-text}
use Rattle.htmd_law_returning.proofs.PlacedTrees.{bare-all-local}
use Rattle.htmd_law_returning.proofs.TreesLemmas.{line_trees}

-- ---- trees

-- in an element: a text alone, or trees in lines of their own
abbrev pub inside_trees : Option (List ℕ) → ValueForest → ValueForest
inside_trees (Some s) ts = lone_text s
inside_trees None ts = line_before ts

pub element-trees : (name : BlockElement) (attributes : List BlockAttribute) (t : Option (List ℕ))
    (content ts : SpelledForest)
    → spelled.value_forest (spelled_element name attributes t content ts)
    ≡ value.more (value.element (element_name name) (pairs_of_element attributes)
    (inside_trees t (spelled.value_forest content))) (line_before (spelled.value_forest ts))
element-trees name attributes None content ts = refl
element-trees name attributes (Some s) content ts = refl

pub lone-line : (s : List ℕ) → is_text s ≡ true
    → lone_text s ≡ line_trees (inline (documents.text s) no_inlines)
lone-line [] h =
    let line = and_parts (is_line [] && not (is_empty [])) (not (has_double_space [])) h in
    false-true (and_parts (is_line []) (not (is_empty [])) line.0).1
lone-line (b ∷ s) h = refl

-- ---- what they give

-- a paragraph of one text
abbrev pub a_text : List ℕ → Inlines
a_text s = inline (documents.text s) no_inlines

pub one-line : (P : Inlines → Option (List ℕ) → Type 0) (xs : Inlines)
    → ((s : List ℕ) → P (a_text s) (Some s))
    → ((ys : Inlines) → P ys None) → P xs (text_alone xs)
one-line P no_inlines one other = other no_inlines
one-line P (inline (documents.text s) no_inlines) one other = one s
one-line P (inline x no_inlines) one other = other (inline x no_inlines)
one-line P (inline x (inline y ys)) one other = other (inline x (inline y ys))

-- a paragraph in no item has no box
pub plain-line : (xs : Inlines) → IsParagraph xs → is_normal_paragraph false xs ≡ true → IsPlain xs
plain-line xs own normal =
    ⊎_elim (λ p. p) (λ t. true-false (sym (ap has_task t.is) ∙ unboxed-line xs normal)) own

-- so many quotes around: nodes give these blocks, and no more behind the edge of one
pub record IsWritten (parts : Simples → List Part) (us : Simples) (d : Blocks) : Type 0 where
  pub gives : flow.blocks_of false (parts us) ≡ d
  pub ended : fed (fed_all (clean in_blocks []) (parts us)) edge ≡ clean in_blocks (list_in d)

-- where no anchor waits
pub record IsInside (parts : Simples → List Part) (ts : Simples) (d : Blocks) : Type 0 where
  pub sound : AreSound ts (lines_in d)
  pub waits : pending_all [] ts ≡ []
  pub shows : show false ts ≡ is_black d
  pub first : title_keeps d ≡ true → come_first ts ≡ true
  pub unseen : are_unseen d ≡ true → all_seen ts ≡ 0
  pub spent : AllSpend (weight_in d) (said_in d) ts
  pub written : IsWritten parts (local_all [] ts) d

-- in a title, whose anchors stand at its beginning
pub record IsTitle (parts : Simples → List Part) (ts : Simples) (d : Blocks) : Type 0 where
  pub inside : IsInside parts ts d
  pub first : title_keeps d ≡ true → come_first ts ≡ true

nothing-written : (parts : Simples → List Part) → AreParts parts → IsWritten parts none no_blocks
nothing-written parts k = record {
  gives = ap (flow.blocks_of false) k.nothing;
  ended = ap (λ ps. fed (fed_all (clean in_blocks []) ps) edge) k.nothing
      ∙ edge-fed in_blocks (clean in_blocks []) [] (clean-ready in_blocks [] refl);
}

nothing-inside : (parts : Simples → List Part) → AreParts parts → IsInside parts none no_blocks
nothing-inside parts k = record {
  sound = sound-none;
  waits = refl;
  shows = refl;
  first = λ e. refl;
  unseen = λ e. refl;
  spent = spend-none;
  written = nothing-written parts k;
}

lines-written : (parts : Simples → List Part) → AreParts parts → (us : Simples) (d : Blocks)
    → AreReady parts us d → IsWritten parts (more (text (line_feed ∷ [])) us) d
lines-written parts k us d all =
    let start : Writing = fed (clean in_blocks []) (run (line_feed ∷ []) [] false) in
    let ready : IsReady in_blocks (fed_all start (parts us)) (list_in d) =
    all start [] (line-ready in_blocks [] refl) in
    record {
      gives = ap (flow.blocks_of false) (k.behind_text (line_feed ∷ []) us)
          ∙ (ap documents.blocks_of (all-done in_blocks (fed_all start (parts us)) (list_in d) ready) ∙ list-in d);
      ended = ap (λ ps. fed (fed_all (clean in_blocks []) ps) edge) (k.behind_text (line_feed ∷ []) us)
          ∙ edge-fed in_blocks (fed_all start (parts us)) (list_in d) ready;
    }

pub lines-inside : (parts : Simples → List Part) → AreParts parts → (ts : Simples) (d : Blocks)
    → AreGiven parts ts d
    → IsInside parts (more (text (line_feed ∷ [])) ts) d
lines-inside parts k ts d all = record {
  sound = sound-text (line_feed ∷ []) ts (lines_in d) all.sound;
  waits = line-waits ts ∙ all.waits;
  shows = line-unseen false ts ∙ all.shows;
  first = λ e. line-first ts ∙ all.first e;
  unseen = λ e. line-seen-none ts ∙ all.unseen e;
  spent = spend-past (weight_in d) (text (line_feed ∷ [])) ts (spend-text (line_feed ∷ [])) all.spent;
  written = subst (λ (us : Simples). IsWritten parts us d) (sym (line-local ts))
      (lines-written parts k (local_all [] ts) d all.ready);
}

module _ (scripting is_rich : Bool) (n : ℕ) where
  text-shown : (s : List ℕ) (f : NumberedForest) → Stands (value_forest f) (line_trees (a_text s))
      → shown_of scripting is_rich None f ≡ more (text (shown_text s)) none
  text-shown s f e =
      let found = from-text f s value.none e in
      ap (shown_of scripting is_rich None)
      (found.is ∙ ap (page.more (page.text found.id s)) (from-none found.rest found.others))
      ∙ (text-at scripting is_rich false None found.id s page.none
      ∙ ap (more (text (shown_text s))) (none-shown scripting is_rich None))

  text-inside : (parts : Simples → List Part) → AreParts parts → (s : List ℕ) (f : NumberedForest)
      → is_text s ≡ true → Stands (value_forest f) (lone_text s) → is_settled_paragraph (a_text s) ≡ true
      → is_normal_paragraph false (a_text s) ≡ true → line_shows is_rich (a_text s) ≡ true
      → weight_among (a_text s) < greatest_count → is_ordered 0 f ≡ true
      → IsInside parts (shown_of scripting is_rich None f) (block (paragraph (a_text s)) no_blocks)
  text-inside parts k s f t e settled normal formats light o =
      let xs : Inlines = a_text s in
      let own = paragraph-parts false xs settled normal refl in
      let stands : Stands (value_forest f) (line_trees xs) = subst (Stands (value_forest f)) (lone-line s t) e in
      let shown = paragraph-shown-at scripting is_rich xs f n stands own formats light o in
      let line = paragraph-fed shown.numbers xs own shown.rising in_blocks [] (λ h. false-true h) in
      let some = paragraph-some xs own in
      let start : Writing = clean in_blocks [] in
      let one : Simples = more (text (shown_text s)) none in
      let is : shown_of scripting is_rich None f ≡ one = text-shown s f stands in
      let stays : local_all [] one ≡ one = (bare-all-local one refl).0 in
      let same : parts one ≡ parts_of is_rich n one =
      (k.behind_text (shown_text s) none ∙ ap (λ ps. run (shown_text s) [] false ∷ ps) k.nothing)
      ∙ sym (text-parts is_rich n 0 (shown_text s) none
      ∙ ap (λ ps. run (shown_text s) [] false ∷ ps) (none-parts is_rich n 0)) in
      let fed_line : fed_all start (parts one) ≡ in_line in_blocks [] xs line.inner line.last no_gap =
      ap (fed_all start) (same ∙ ap (parts_of is_rich n) (sym (ap (local_all []) is ∙ stays)))
      ∙ (shown.gives start ∙ line.is) in
      record {
        sound = sound-line xs (shown_of scripting is_rich None f) shown.sound;
        waits = shown.waits;
        shows = shown.shows;
        first = λ e. shown.first refl;
        unseen = λ e. false-true e;
        spent = spend-within (weight_among xs) (weight_among xs + 0) (shown_of scripting is_rich None f) (omega arith)
            shown.spent;
        written = subst (λ (us : Simples). IsWritten parts us (block (paragraph xs) no_blocks))
            (sym (ap (local_all []) is ∙ stays))
            (record {
              gives = ap blocks_in fed_line
                  ∙ ap (λ (v : Writing). documents.blocks_of v.done)
                  (paragraph-ends in_blocks xs [] line.inner line.last some);
              ended = ap (λ v. fed v edge) fed_line ∙ line-end in_blocks xs [] line.inner line.last refl some;
            });
      }

  pub inside-returned : (parts : Simples → List Part) → AreParts parts → (all : Blocks) (f : NumberedForest)
      → Stands (value_forest f) (inside_trees (text_in_line (cut_blocks all)) (trees_in all))
      → are_settled_alone (cut_blocks all) ≡ true → formats_show is_rich (cut_blocks all) ≡ true
      → are_normal_blocks false (cut_blocks all) ≡ true → weight_in (cut_blocks all) < greatest_count
      → is_ordered 0 f ≡ true
      → ((g : NumberedForest) → Stands (value_forest g) (trees_in all) → (k : ℕ) → is_ordered k g ≡ true
      → AreGiven parts (shown_of scripting is_rich None g) (cut_blocks all))
      → IsInside parts (shown_of scripting is_rich None f) (cut_blocks all)
  inside-returned parts flows all f e settled formats normal light o later =
      in_line_cases Inside (cut_blocks all) normal
      (λ e h s g l r. subst (λ (ts : Simples). IsInside parts ts no_blocks)
      (sym (ap (shown_of scripting is_rich None) (from-none f e) ∙ none-shown scripting is_rich None))
      (nothing-inside parts flows))
      (λ s t e h settled formats light later. text-inside parts flows s f t e
      (and_parts (is_settled_paragraph (a_text s)) true settled).0
      (and_parts (is_normal_paragraph false (a_text s)) true h).0
      (and_parts (line_shows is_rich (a_text s)) true formats).0 (left-light (weight_among (a_text s)) 0 light) o)
      (λ c t e h settled formats light later.
      let inner = from-text f (line_feed ∷ []) (trees_in all) e in
      subst (λ (ts : Simples). IsInside parts ts c)
      (sym (ap (shown_of scripting is_rich None) inner.is ∙ line-shown scripting is_rich None inner.id inner.rest))
      (lines-inside parts flows (shown_of scripting is_rich None inner.rest) c
      (later inner.rest inner.others (suc inner.id)
      (ordered-next 0 f (page.text inner.id (line_feed ∷ [])) inner.rest inner.is o).rest)))
      e normal settled formats light later
    where
      Inside : Blocks → Option (List ℕ) → Type 0
      Inside c t =
          Stands (value_forest f) (inside_trees t (trees_in all)) → are_normal_blocks false c ≡ true
          → are_settled_alone c ≡ true → formats_show is_rich c ≡ true → weight_in c < greatest_count
          → ((g : NumberedForest) → Stands (value_forest g) (trees_in all) → (k : ℕ) → is_ordered k g ≡ true
          → AreGiven parts (shown_of scripting is_rich None g) c)
          → IsInside parts (shown_of scripting is_rich None f) c
