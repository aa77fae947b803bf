-- A paragraph of anchors alone comes back, before a code block and at the end.
use Rattle.std.proofs.Common.{◌≡◌, ℕ, ◌+◌, Bool, true, false, ◌&&◌, ◌||◌, cond, List, [], ◌∷◌, not}
use Rattle.std.proofs.Common.{◌++◌, refl, sym, ap}
use Rattle.std.proofs.Common.{◌∙◌, subst, append_assoc, codes, Option, Some, None}
use Rattle.std.specs.List.{list_any}
use Rattle.std.proofs.lemmas.Bool.{and_parts}
use Rattle.std.proofs.lemmas.List.{append-nil}
use Rattle.htmd_lexical.specs.AttributePairs.{AttributePair}
use Rattle.htmd_lexical.specs.Characters.{line_feed}
use Rattle.htmd_values.specs.ValueTrees as value
use Rattle.htmd_nodes.specs.NumberedTrees.{NumberedForest, value_forest}
use Rattle.htmd_document.specs.AnchorIds.{ids_of_line}
use Rattle.htmd_document.specs.Documents.{Inlines, no_inlines, inline, paragraph, Block, Blocks, no_blocks, block}
use Rattle.htmd_document.specs.Documents as documents
use Rattle.htmd_document.specs.NormalDocuments.{is_normal_paragraph}
use Rattle.htmd_document.specs.NormalInlines.{are_anchors, are_normal, are_whole, is_normal_line, is_text}
use Rattle.htmd_document.specs.NormalInlines.{anchors_stand_well, has_none, is_trimmed}
use Rattle.htmd_flow.specs.Contexts.{apart}
use Rattle.htmd_flow.specs.Flows.{node_of}
use Rattle.htmd_flow.specs.Levels.{list_of}
use Rattle.htmd_flow.specs.Paragraphs.{Writing, fed, fed_all}
use Rattle.htmd_flow.specs.Parts.{Part, run, edge}
use Rattle.htmd_shown.specs.Facts.{made, facts_of}
use Rattle.htmd_shown.specs.Kinds.{has}
use Rattle.htmd_shown.specs.Roles.{is_paragraph}
use Rattle.htmd_shown.specs.Showings.{show}
use Rattle.htmd_shown.specs.SimpleTrees.{Simple, Simples, text, element, none, more}
use Rattle.htmd_shown.specs.declared.facts.Facts.{Facts}
use Rattle.htmd_shown.specs.declared.role.Role.TheVariants as role
use Rattle.htmd_law_returning.specs.LastingAnchors.{title_keeps, heading_keeps}
use Rattle.htmd_law_returning.specs.NoAnchors.{blocks_have_no_anchors}
use Rattle.htmd_law_returning.proofs.FirstTargets.{first-behind, plain-nameless}
use Rattle.htmd_law_returning.proofs.HomeAnchors.{none-in-blocks}
use Rattle.htmd_law_returning.proofs.LocalAnchors.{come_first, led-first}
use Rattle.htmd_law_returning.specs.LastingAnchors.{line, lines_in, line_keeps}
use Rattle.htmd_document.specs.LoneAnchors.{stand_alone}
use Rattle.htmd_law_returning.specs.SettledDocuments.{behind_box, weight_among, weight_in, said_among, said_in}
use Rattle.htmd_law_returning.specs.SettledDocuments.{is_one_line}
use Rattle.htmd_law_returning.proofs.AloneLemmas.{alone, line-of-anchors}
use Rattle.htmd_law_returning.proofs.CostLemmas.{AllSpend, spend-none, spend-more, spend-element, spend-past}
use Rattle.htmd_law_returning.proofs.CostLemmas.{spend-text}
use Rattle.htmd_law_returning.proofs.FlowLemmas.{paragraph-parts, titled_of}
use Rattle.htmd_law_returning.proofs.GivenBlocks.{AreGiven, AreParts, plain-parts, titled-parts, title_of}
use Rattle.htmd_law_returning.proofs.GivenBlocks.{untitled-more}
use Rattle.htmd_law_returning.proofs.KindLemmas.{line-behind, line-keeps, line-blank}
use Rattle.htmd_law_returning.proofs.LineFormLemmas.{normal-one}
use Rattle.htmd_law_returning.proofs.LocalAnchors.{are_led, local, local_all, own_id, pending_all}
use Rattle.htmd_law_returning.proofs.LocalLines.{place-id, place-led}
use Rattle.htmd_law_returning.proofs.LeanTrees.{AreLeanTrees, alone-lean, is_black, line-unseen}
use Rattle.htmd_law_returning.proofs.PageLemmas.{from-none, from-element, line-shown, none-shown, shown_of}
use Rattle.htmd_law_returning.proofs.ReadyLemmas.{parts_of, IsReady, edge-fed, line-ready, clean-ready, ready-flat}
use Rattle.htmd_law_returning.proofs.ReadyLemmas.{none-parts}
use Rattle.htmd_law_returning.proofs.ReturnedBlocks.{AreReturned, behind, list_in, no-block}
use Rattle.htmd_law_returning.proofs.ShownInlines.{place-at}
use Rattle.htmd_law_returning.proofs.SoundBlocks.{AreSound}
use Rattle.htmd_law_returning.proofs.SoundNodes.{sound-alone, sound-last}
use Rattle.htmd_law_returning.proofs.SoundTrees.{IsSoundLine, sound-end, sound-place}
use Rattle.htmd_law_returning.proofs.StandLemmas.{Stands}
use Rattle.htmd_law_returning.proofs.StartLemmas.{Mode, in_blocks, clean, false-true, true-false, is_flat_mode}
use Rattle.htmd_law_returning.proofs.TreesLemmas.{line_trees, pairs_of_anchor}

-- ---- what shows of anchors

target-parts : (is_rich : Bool) (n id : ℕ) (facts : Facts) (attributes : List AttributePair) (ts : Simples)
    → parts_of is_rich n (more (element id role.Target facts attributes none) ts) ≡ parts_of is_rich n ts
unfolding node_of
target-parts is_rich n id facts attributes ts = refl

-- nodes that are anchors alone
pub record AreTargets (is_rich : Bool) (ts : Simples) (xs : Inlines) : Type 0 where
  pub sound : IsSoundLine xs ts
  pub led : are_led ts ≡ true
  pub spent : AllSpend (weight_among xs) (said_among xs) ts
  pub wait : (ids : List (List ℕ)) → pending_all ids ts ≡ ids ++ ids_of_line xs
  pub nothing : (n : ℕ) (ids : List (List ℕ)) → parts_of is_rich n (local_all ids ts) ≡ []
  pub unseen : show false ts ≡ false

module _ (scripting is_rich : Bool) where
  pub targets-shown : (xs : Inlines) (before : Option (List AttributePair)) (f : NumberedForest)
      → Stands (value_forest f) (line_trees xs) → are_anchors xs ≡ true → line_keeps xs ≡ true
      → are_normal false [] xs ≡ true
      → AreTargets is_rich (shown_of scripting is_rich before f) xs
  targets-shown no_inlines before f e anchors keep normal =
      subst (λ (us : Simples). AreTargets is_rich us no_inlines)
      (sym (ap (shown_of scripting is_rich before) (from-none f e) ∙ none-shown scripting is_rich before))
      (record {
        sound = sound-end;
        led = refl;
        spent = spend-none;
        wait = λ ids. sym (append-nil ids);
        nothing = λ n ids. none-parts is_rich n 0;
        unseen = refl;
      })
  targets-shown (inline (documents.anchor s) xs) before f e anchors keep normal =
      let good = normal-one false [] (documents.anchor s) xs normal in
      let is_id : is_text s ≡ true = (and_parts (is_text s) (is_trimmed s) good.own).0 in
      let keeps = and_parts _ (line_keeps xs) keep in
      let one_line : is_one_line s ≡ true =
      (and_parts (is_one_line s) _ (and_parts (is_one_line s && _) _ keeps.0).0).0 in
      let pairs : List AttributePair = pairs_of_anchor s in
      let found = from-element f (codes "a") pairs value.none (line_trees xs) e in
      let rest = targets-shown xs (Some pairs) found.rest found.others anchors keeps.1 good.rest in
      let ts : Simples = shown_of scripting is_rich (Some pairs) found.rest in
      let tree : Simple = made found.id role.Target pairs none in
      let own : own_id tree ≡ s ∷ [] = place-id found.id s one_line is_id in
      subst (λ (us : Simples). AreTargets is_rich us (inline (documents.anchor s) xs))
      (sym (ap (shown_of scripting is_rich before) found.is
      ∙ (place-at scripting is_rich false before found.id s found.inside found.rest
      ∙ ap (λ us. more (made found.id role.Target pairs us) ts)
      (ap (shown_of scripting is_rich None) (from-none found.inside found.within)
      ∙ none-shown scripting is_rich None))))
      (record {
        sound = sound-place s xs found.id ts one_line is_id rest.sound;
        led = place-led found.id s ts one_line is_id rest.led;
        spent = spend-more 0 (weight_among xs) tree ts
            (spend-element 0 found.id role.Target (facts_of none) pairs none refl spend-none) rest.spent;
        wait = λ ids. rest.wait (ids ++ own_id tree)
            ∙ (ap (λ js. (ids ++ js) ++ ids_of_line xs) own ∙ append_assoc ids (s ∷ []) (ids_of_line xs));
        nothing = λ n ids.
            target-parts is_rich n found.id (facts_of none) pairs (local_all (ids ++ own_id tree) ts)
            ∙ rest.nothing n (ids ++ own_id tree);
        unseen = rest.unseen;
      })
  targets-shown (inline (documents.text s) xs) before f e anchors keep normal = false-true anchors
  targets-shown (inline (documents.code s) xs) before f e anchors keep normal = false-true anchors
  targets-shown (inline (documents.formatted m c) xs) before f e anchors keep normal = false-true anchors
  targets-shown (inline (documents.link a t c) xs) before f e anchors keep normal = false-true anchors
  targets-shown (inline (documents.image a t d) xs) before f e anchors keep normal = false-true anchors
  targets-shown (inline documents.line_break xs) before f e anchors keep normal = false-true anchors
  targets-shown (inline (documents.task d) xs) before f e anchors keep normal = false-true anchors

-- ---- the paragraph

either-same : (b x : Bool) → cond b x x ≡ x
either-same true x = refl
either-same false x = refl

pub alone-normal : (b : Bool) (xs : Inlines) → are_anchors xs ≡ true → is_normal_paragraph b xs ≡ true
    → are_normal false [] xs ≡ true
alone-normal b no_inlines h n = refl
alone-normal b (inline (documents.anchor s) xs) h n =
    let line : Inlines = inline (documents.anchor s) xs in
    let parts = and_parts (true && cond b (is_normal_line line) (is_normal_line line))
    (are_anchors line || anchors_stand_well line) n in
    (and_parts (are_whole line) (are_normal false [] line)
    (sym (either-same b (is_normal_line line)) ∙ parts.0)).1
alone-normal b (inline (documents.text s) xs) h n = false-true h
alone-normal b (inline (documents.code s) xs) h n = false-true h
alone-normal b (inline (documents.formatted m c) xs) h n = false-true h
alone-normal b (inline (documents.link a t c) xs) h n = false-true h
alone-normal b (inline (documents.image a t d) xs) h n = false-true h
alone-normal b (inline documents.line_break xs) h n = false-true h
alone-normal b (inline (documents.task d) xs) h n = false-true h

some-alone : (xs : Inlines) → are_anchors xs ≡ true → has_none xs ≡ false
    → alone (ids_of_line xs) ≡ paragraph xs ∷ []
some-alone no_inlines h e = true-false e
some-alone (inline (documents.anchor s) xs) h e =
    ap (λ ys. paragraph ys ∷ []) (line-of-anchors (inline (documents.anchor s) xs) h)
some-alone (inline (documents.text s) xs) h e = false-true h
some-alone (inline (documents.code s) xs) h e = false-true h
some-alone (inline (documents.formatted m c) xs) h e = false-true h
some-alone (inline (documents.link a t c) xs) h e = false-true h
some-alone (inline (documents.image a t d) xs) h e = false-true h
some-alone (inline documents.line_break xs) h e = false-true h
some-alone (inline (documents.task d) xs) h e = false-true h

-- before blocks they stand alone as inside others
before-blocks : (is_end : Bool) (b : Block) (bs : Blocks)
    → stand_alone is_end (block b bs) ≡ stand_alone false (block b bs)
before-blocks is_end (paragraph xs) bs = refl
before-blocks is_end (documents.heading level xs) bs = refl
before-blocks is_end (documents.code_block language s) bs = refl
before-blocks is_end (documents.quote content) bs = refl
before-blocks is_end documents.thematic_break bs = refl
before-blocks is_end (documents.list start is_tight items) bs = refl
before-blocks is_end (documents.table alignments header rows) bs = refl
before-blocks is_end (documents.element name attributes content) bs = refl
before-blocks is_end (documents.tags s) bs = refl

module _ (scripting is_rich : Bool) (is_end : Bool) (before : Option (List AttributePair)) (f rest : NumberedForest)
    (n at id : ℕ) (xs : Inlines) (content : Simples) (anchors : are_anchors xs ≡ true)
    (some : has_none xs ≡ false)
    (own : AreTargets is_rich content xs)
    (shows : shown_of scripting is_rich before f ≡ more (made id role.Paragraph [] content)
    (shown_of scripting is_rich (Some []) (behind at rest))) where
  abbrev tree : Simple
  tree = made id role.Paragraph [] content

  abbrev ts : Simples
  ts = shown_of scripting is_rich (Some []) rest

  alone-is : shown_of scripting is_rich before f ≡ more tree (more (text (line_feed ∷ [])) ts)
  alone-is = shows ∙ ap (more tree) (line-shown scripting is_rich (Some []) at rest)

  alone-waits : pending_all [] (shown_of scripting is_rich before f) ≡ pending_all (ids_of_line xs) ts
  alone-waits =
      ap (pending_all []) alone-is
      ∙ (ap (λ js. pending_all js (more (text (line_feed ∷ [])) ts)) (own.wait [])
      ∙ line-keeps (ids_of_line xs) ts)

  alone-spent : (d : Blocks) → AllSpend (weight_in d) (said_in d) ts
      → AllSpend (weight_in (block (paragraph xs) d)) (said_in (block (paragraph xs) d))
      (shown_of scripting is_rich before f)
  alone-spent d later =
      subst (λ (us : Simples). AllSpend (weight_among xs + weight_in d) (λ w. said_in d (said_among xs w)) us)
      (sym alone-is)
      (spend-more (weight_among xs) (weight_in d) tree (more (text (line_feed ∷ [])) ts)
      (spend-element (weight_among xs) id role.Paragraph (facts_of content) [] content refl own.spent)
      (spend-past (weight_in d) (text (line_feed ∷ [])) ts (spend-text (line_feed ∷ [])) later))

  alone-trees : (d : Blocks) → AreLeanTrees is_rich d ts
      → AreLeanTrees is_rich (block (paragraph xs) d) (shown_of scripting is_rich before f)
  alone-trees d later =
      subst (λ (us : Simples). AreLeanTrees is_rich (block (paragraph xs) d) us) (sym alone-is)
      (alone-lean is_rich id xs d content ts anchors own.unseen later)

  alone-first : (d : Blocks) → AreSound ts (lines_in d) → title_keeps (block (paragraph xs) d) ≡ true
      → come_first (shown_of scripting is_rich before f) ≡ true
  alone-first d sound h =
      let p = and_parts (heading_keeps (behind_box xs)) (blocks_have_no_anchors d) h in
      ap come_first alone-is
      ∙ first-behind tree (more (text (line_feed ∷ [])) ts) (led-first content own.led)
      (plain-nameless ts (lines_in d) sound (none-in-blocks d p.1))

  -- what it gives: nothing, and its anchors wait
  alone-in : (parts : Simples → List Part) → AreParts parts
      → ((c us : Simples) → parts (more (element id role.Paragraph (facts_of content) [] c) us)
      ≡ apart (parts_of is_rich n c) ++ parts us)
      → (mode : Mode) (w : Writing) (done : List Block) → IsReady mode w done
      → fed_all w (parts (local_all [] (shown_of scripting is_rich before f)))
      ≡ fed_all (fed (clean mode done) (run (line_feed ∷ []) [] false)) (parts (local_all (ids_of_line xs) ts))
  alone-in parts k paragraphs mode w done h =
      let ids : List (List ℕ) = ids_of_line xs in
      let us : Simples = more (text (line_feed ∷ [])) (local_all ids ts) in
      let places : local_all [] (shown_of scripting is_rich before f) ≡ more (local [] tree) us =
      ap (local_all []) alone-is
      ∙ (ap (λ js. more (local [] tree) (local_all js (more (text (line_feed ∷ [])) ts))) (own.wait [])
      ∙ ap (more (local [] tree)) (line-behind ids ts)) in
      let free : is_flat_mode mode ≡ false = ready-flat mode w done h in
      ap (λ us. fed_all w (parts us)) places
      ∙ (ap (fed_all w) (paragraphs (local_all [] content) us ∙ ap (λ ps. apart ps ++ parts us) (own.nothing n []))
      ∙ (ap (λ v. fed_all (fed v edge) (parts us)) (edge-fed mode w done h)
      ∙ (ap (λ v. fed_all v (parts us)) (edge-fed mode (clean mode done) done (clean-ready mode done free))
      ∙ ap (fed_all (clean mode done)) (k.behind_text (line_feed ∷ []) (local_all ids ts)))))

  alone-gives : (mode : Mode) (w : Writing) (done : List Block) → IsReady mode w done
      → fed_all w (parts_of is_rich n (local_all [] (shown_of scripting is_rich before f)))
      ≡ fed_all (fed (clean mode done) (run (line_feed ∷ []) [] false))
      (parts_of is_rich n (local_all (ids_of_line xs) ts))
  alone-gives =
      alone-in (parts_of is_rich n) (plain-parts is_rich n) (paragraph-parts is_rich n id (facts_of content))

  -- in a figure or a `details`
  pub alone-given : (in_figure : Bool) (d : Blocks) → stand_alone false d ≡ true
      → AreGiven (titled_of (title_of in_figure) is_rich n) ts d
      → AreGiven (titled_of (title_of in_figure) is_rich n) (shown_of scripting is_rich before f)
      (block (paragraph xs) d)
  alone-given in_figure d h later =
      let parts : Simples → List Part = titled_of (title_of in_figure) is_rich n in
      let ids : List (List ℕ) = ids_of_line xs in
      let next = later.led ids h in
      let v : List Block → Writing = λ done. fed (clean in_blocks done) (run (line_feed ∷ []) [] false) in
      let paragraphs : (c us : Simples) → parts (more (element id role.Paragraph (facts_of content) [] c) us)
      ≡ apart (parts_of is_rich n c) ++ parts us =
      λ c us.
      let whole : Simple = element id role.Paragraph (facts_of content) [] c in
      untitled-more is_rich n in_figure whole us refl
      ∙ ap (λ ps. ps ++ parts us) (paragraph-parts is_rich n id (facts_of content) c none
      ∙ (ap (λ ps. apart (parts_of is_rich n c) ++ ps) (none-parts is_rich n 0)
      ∙ append-nil (apart (parts_of is_rich n c)))) in
      record {
        sound = subst (λ (us : Simples). AreSound us (line false xs ∷ lines_in d)) (sym alone-is)
            (sound-alone id (line_feed ∷ []) xs content ts (lines_in d) line-blank (later.begins h) own.sound
            later.sound);
        waits = alone-waits ∙ next.0;
        shows = ap (show false) alone-is
            ∙ (ap (λ x. x || show false (more (text (line_feed ∷ [])) ts)) own.unseen
            ∙ (line-unseen false ts ∙ (later.shows ∙ sym (ap (λ x. not x || is_black d) anchors))));
        first = alone-first d later.sound;
        unseen = λ e. false-true e;
        spent = alone-spent d later.spent;
        ready = λ w done r.
            subst (λ (u : Writing). IsReady in_blocks u (done ++ paragraph xs ∷ list_in d))
            (sym (alone-in parts (titled-parts is_rich n (title_of in_figure)) paragraphs in_blocks w done r))
            (subst (λ (bs : List Block). IsReady in_blocks (fed_all (v done) (parts (local_all ids ts)))
            (done ++ (bs ++ list_in d))) (some-alone xs anchors some)
            (next.1 (v done) done (line-ready in_blocks done refl)));
        begins = λ e. false-true e;
        led = λ ids e. false-true e;
      }

  -- right before a code block
  alone-before : (d : Blocks) → stand_alone false d ≡ true
      → AreReturned scripting is_rich is_end (Some []) rest n d
      → AreReturned scripting is_rich is_end before f n (block (paragraph xs) d)
  alone-before d h later =
      let ids : List (List ℕ) = ids_of_line xs in
      let next = later.led ids h in
      record {
        kept = paragraph xs ∷ later.kept;
        left = later.left;
        whole = ap (λ bs. paragraph xs ∷ bs) later.whole;
        last = later.last;
        sound = subst (λ (us : Simples). AreSound us (line false xs ∷ lines_in d)) (sym alone-is)
            (sound-alone id (line_feed ∷ []) xs content ts (lines_in d) line-blank (later.begins h) own.sound
            later.sound);
        waits = alone-waits ∙ next.0;
        spent = alone-spent d later.spent;
        paragraphs = ap (λ us. list_any (has is_paragraph) (list_of us)) alone-is;
        lean = alone-trees d later.lean;
        first = alone-first d later.sound;
        unseen = λ e. false-true e;
        ready = λ mode w done r may.
            subst (λ (u : Writing). IsReady mode u (done ++ paragraph xs ∷ later.kept))
            (sym (alone-gives mode w done r))
            (subst (λ (bs : List Block). IsReady mode
            (fed_all (fed (clean mode done) (run (line_feed ∷ []) [] false)) (parts_of is_rich n (local_all ids ts)))
            (done ++ (bs ++ later.kept))) (some-alone xs anchors some)
            (next.1 mode (fed (clean mode done) (run (line_feed ∷ []) [] false)) done
            (line-ready mode done (ready-flat mode w done r))));
        nothing = λ e. no-block (paragraph xs) d e;
        begins = λ e. false-true e;
        led = λ ids e. false-true e;
      }

  -- at the end of the page
  alone-last : is_end ≡ true → AreReturned scripting is_rich is_end (Some []) rest n no_blocks
      → AreReturned scripting is_rich is_end before f n (block (paragraph xs) no_blocks)
  alone-last h later =
      let ids : List (List ℕ) = ids_of_line xs in
      let nothing : ts ≡ none = later.nothing refl in
      record {
        kept = [];
        left = ids;
        whole = some-alone xs anchors some;
        last = λ e. true-false (sym h ∙ e);
        sound = subst (λ (us : Simples). AreSound us (line false xs ∷ []))
            (sym (alone-is ∙ ap (λ us. more tree (more (text (line_feed ∷ [])) us)) nothing))
            (sound-last id (line_feed ∷ []) xs content own.sound);
        waits = alone-waits ∙ ap (pending_all ids) nothing;
        spent = alone-spent no_blocks later.spent;
        paragraphs = ap (λ us. list_any (has is_paragraph) (list_of us)) alone-is;
        lean = alone-trees no_blocks later.lean;
        first = alone-first no_blocks later.sound;
        unseen = λ e. false-true e;
        ready = λ mode w done r may.
            subst (λ (u : Writing). IsReady mode u (done ++ []))
            (sym (alone-gives mode w done r
            ∙ ap (λ us. fed_all (fed (clean mode done) (run (line_feed ∷ []) [] false))
            (parts_of is_rich n (local_all ids us))) nothing
            ∙ ap (fed_all (fed (clean mode done) (run (line_feed ∷ []) [] false))) (none-parts is_rich n 0)))
            (subst (λ (bs : List Block). IsReady mode (fed (clean mode done) (run (line_feed ∷ []) [] false)) bs)
            (sym (append-nil done)) (line-ready mode done (ready-flat mode w done r)));
        nothing = λ e. no-block (paragraph xs) no_blocks e;
        begins = λ e. false-true e;
        led = λ ids e. false-true e;
      }

  pub alone-returned : (d : Blocks) → stand_alone is_end d ≡ true
      → AreReturned scripting is_rich is_end (Some []) rest n d
      → AreReturned scripting is_rich is_end before f n (block (paragraph xs) d)
  alone-returned no_blocks h later = alone-last h later
  alone-returned (block b bs) h later = alone-before (block b bs) (sym (before-blocks is_end b bs) ∙ h) later
