-- What lists and their items give.
use Rattle.std.proofs.Common.{◌≡◌, ℕ, suc, Bool, true, false, ◌&&◌, ◌||◌, List, [], ◌∷◌, ◌++◌}
use Rattle.std.proofs.Common.{refl, sym}
use Rattle.std.proofs.Common.{ap, ◌∙◌}
use Rattle.std.proofs.Common.{not, None, Some}
use Rattle.std.specs.Prelude.{nat_le}
use Rattle.std.specs.Prelude.{pos}
use Rattle.std.specs.Str.{chars}
use Rattle.std.proofs.lemmas.List.Sums.{fold-append}
use Rattle.std.specs.List.{list_any}
use Rattle.htmd_lexical.specs.AttributePairs.{AttributePair}
use Rattle.htmd_lexical.specs.Characters.{line_feed}
use Rattle.htmd_document.specs.DocumentLimits.{most_nested}
use Rattle.htmd_document.specs.Documents.{Block, Blocks, no_blocks, block, paragraph}
use Rattle.htmd_document.specs.Documents.{blocks_of}
use Rattle.htmd_flow.specs.Flows.{node_of, nodes_of}
use Rattle.htmd_flow.specs.Flows as flow
use Rattle.htmd_flow.specs.Paragraphs.{Writing, fed, fed_all, blocks_in}
use Rattle.htmd_flow.specs.Parts.{Part, run, edge, whole}
use Rattle.htmd_flow.specs.Lists as lists
use Rattle.htmd_shown.specs.Roles as roles
use Rattle.htmd_shown.specs.declared.role.Role.TheVariants as role
use Rattle.htmd_shown.specs.Facts.{made, facts_of}
use Rattle.htmd_shown.specs.SimpleTrees.{Simples, text, none, more}
use Rattle.htmd_document_of_tree.specs.Seen.{seen, all_seen}
use Rattle.htmd_lexical.proofs.Cases.{test}
use Rattle.htmd_law_returning.specs.LastingAnchors.{are_unseen, items_unseen}
use Rattle.std.proofs.Common.{◌+◌}
use Rattle.htmd_law_returning.proofs.LocalAnchors.{comes_first, are_nameless}
use Rattle.std.proofs.Common.{cond}
use Rattle.htmd_law_returning.specs.LastingAnchors.{title_keeps, items_lead}
use Rattle.htmd_law_returning.specs.NoAnchors.{items_have_no_anchors}
use Rattle.htmd_law_returning.proofs.FirstTargets.{first-behind, line-first, line-seen-none, plain-nameless, zero-plus}
use Rattle.htmd_law_returning.proofs.HomeAnchors.{none-in-items}
use Rattle.htmd_law_returning.proofs.LocalAnchors.{come_first}
use Rattle.std.proofs.lemmas.Bool.{and_parts, and_from}
use Rattle.htmd_law_returning.proofs.BareLemmas.{has_no_name}
use Rattle.htmd_document.specs.Documents.{Inlines, no_inlines, inline}
use Rattle.htmd_document.specs.Documents.{Items, no_items, item, list}
use Rattle.htmd_document.specs.NormalInlines.{has_none}
use Rattle.htmd_flow.specs.Nesting.{Wrapper}
use Rattle.htmd_flow.specs.Lists.{holds_paragraph}
use Rattle.htmd_flow.specs.Levels.{list_of}
use Rattle.htmd_shown.specs.Spaces.{no_gap}
use Rattle.htmd_shown.specs.Kinds.{has}
use Rattle.htmd_shown.specs.Showings.{show}
use Rattle.htmd_document.specs.FlatDocuments.{flattened, flat_items}
use Rattle.htmd_document.specs.NormalDocuments.{has_filled_item}
use Rattle.htmd_document.specs.TightItems.{is_filled}
use Rattle.htmd_law_returning.specs.SettledDocuments.{weight_in}
use Rattle.htmd_law_returning.specs.SettledDocuments.{weight_of_items, said_in}
use Rattle.htmd_law_returning.specs.SettledDocuments.{said_of_items}
use Rattle.htmd_law_returning.proofs.LeanTrees.{heavy-tree, line-unseen}
use Rattle.htmd_law_returning.proofs.LineParts.{Numbers, parts_in}
use Rattle.htmd_law_returning.proofs.RunLemmas.{in_line}
use Rattle.htmd_law_returning.proofs.StartLemmas.{clean, true-false, false-true}
use Rattle.htmd_law_returning.proofs.StartLemmas.{Mode, in_item, is_flat_mode}
use Rattle.htmd_law_returning.proofs.CostLemmas.{AllSpend, spend-element, spend-none, spend-more, spend-text}
use Rattle.htmd_law_returning.proofs.CostLemmas.{spend-past}
use Rattle.htmd_law_returning.proofs.ListLemmas.{made_items, flat-filled}
use lib.Utf8.{encode}
use Rattle.htmd_law_returning.proofs.ReadyLemmas.{here, parts_of, no-box, IsReady, line-ready, edge-fed, all-done}
use Rattle.htmd_law_returning.proofs.ReadyLemmas.{ready-flat, apart-fed}
use Rattle.htmd_law_returning.proofs.FlowLemmas.{IsLineFed, line-end, GivesBlock}
use Rattle.htmd_law_returning.specs.LastingAnchors.{lines_in, lines_among}
use Rattle.htmd_law_returning.proofs.LocalAnchors.{local_all, pending_all}
use Rattle.htmd_law_returning.proofs.SoundBlocks.{AreSound, sound-none}
use Rattle.htmd_law_returning.proofs.SoundNodes.{sound-text, sound-more, sound-element}
use Rattle.htmd_law_returning.proofs.KindLemmas.{kinds-local, paragraph-inner, line-local, node-local, line-waits}
use Rattle.htmd_law_returning.proofs.KindLemmas.{node-waits}
use Rattle.htmd_shown.specs.declared.facts.Facts.{Facts}
use Rattle.htmd_shown.specs.SimpleTrees.{element}
use Rattle.htmd_shown.specs.SimpleTrees.{Simple}

-- ---- lists

-- nodes that are the items of a list in so many lists and quotes
pub record AreItems (is_rich : Bool) (n : ℕ) (is_tight : Bool) (items : Items) (ts : Simples) : Type 0 where
  pub sound : AreSound ts (lines_among items)
  pub spent : AllSpend (weight_of_items items) (said_of_items items) ts
  pub waits : pending_all [] ts ≡ []
  pub shows : is_rich ≡ true → has_filled_item (flat_items items) ≡ true → show false ts ≡ true
  pub leads : items_lead items ≡ true → come_first ts ≡ true
  pub unseen : items_unseen items ≡ true → all_seen ts ≡ 0
  pub gives : flow.items_of (nodes_of (local_all [] ts)) (here is_rich n) ≡ made_items is_tight items
  pub first : flow.behind_item (nodes_of (local_all [] ts)) (here is_rich n) ≡ []
  pub before : (k : ℕ) → flow.before_items (nodes_of (local_all [] ts)) (here is_rich k) ≡ []

module _ (is_rich : Bool) (n id : ℕ) where
  -- what stands in an item, with the white space behind it
  abbrev pub in_one_item : Simples → List Part
  in_one_item content = parts_of is_rich n content ++ edge ∷ run (line_feed ∷ []) [] false ∷ []

  -- an item before these
  more-gives : (facts : Facts) (content us : Simples) (bs : Blocks) (is_tight : Bool) (rest : Items)
      → list_any (has roles.is_paragraph) (list_of content) ≡ (not is_tight && holds_paragraph bs)
      → flow.blocks_of true (in_one_item content) ≡ bs
      → flow.items_of (nodes_of us) (here is_rich n) ≡ made_items is_tight rest
      → flow.behind_item (nodes_of us) (here is_rich n) ≡ []
      → flow.items_of (nodes_of (more (element id role.Item facts [] content) (more (text (line_feed ∷ [])) us)))
      (here is_rich n) ≡ made_items is_tight (item bs rest)
  unfolding node_of
  more-gives facts content us bs is_tight rest paragraphs blocks gives first =
      ap (λ ps. flow.item_of (node_of (element id role.Item facts [] content))
      (parts_of is_rich n content ++ edge ∷ run (line_feed ∷ []) [] false ∷ ps)
      ∷ flow.items_of (nodes_of us) (here is_rich n)) first
      ∙ (ap (λ b. record {
        value = None;
        has_paragraph = b;
        blocks = flow.blocks_of true (in_one_item content);
      } ∷ flow.items_of (nodes_of us) (here is_rich n)) paragraphs
      ∙ (ap (λ cs. record { value = None; has_paragraph = not is_tight && holds_paragraph bs; blocks = cs }
      ∷ flow.items_of (nodes_of us) (here is_rich n)) blocks
      ∙ ap (λ is. record { value = None; has_paragraph = not is_tight && holds_paragraph bs; blocks = bs } ∷ is)
      gives))

  more-first : (facts : Facts) (content us : Simples)
      → flow.behind_item (nodes_of (more (element id role.Item facts [] content) us)) (here is_rich n) ≡ []
  unfolding node_of
  more-first facts content us = refl

  more-before : (facts : Facts) (content us : Simples) (k : ℕ)
      → flow.before_items (nodes_of (more (element id role.Item facts [] content) us)) (here is_rich k) ≡ []
  unfolding node_of
  more-before facts content us k = refl

  pub more-items : (content ts : Simples) (bs : Blocks) (is_tight : Bool) (rest : Items)
      → AreSound content (lines_in bs) → AllSpend (weight_in bs) (said_in bs) content
      → pending_all [] content ≡ [] → (is_rich ≡ true → is_filled bs ≡ true → show false content ≡ true)
      → (title_keeps bs ≡ true → come_first content ≡ true)
      → (are_unseen bs ≡ true → all_seen content ≡ 0)
      → list_any (has roles.is_paragraph) (list_of content) ≡ (not is_tight && holds_paragraph bs)
      → flow.blocks_of true (in_one_item (local_all [] content)) ≡ bs → AreItems is_rich n is_tight rest ts
      → AreItems is_rich n is_tight (item bs rest)
      (more (made id role.Item [] content) (more (text (line_feed ∷ [])) ts))
  more-items content ts bs is_tight rest sound spent waits shown leads unseen paragraphs blocks later =
      let tree : Simple = made id role.Item [] content in
      let inside : Simples = local_all [] content in
      let is : local_all [] (more tree (more (text (line_feed ∷ [])) ts))
      ≡ more (element id role.Item (facts_of content) [] inside) (more (text (line_feed ∷ [])) (local_all [] ts)) =
      node-local [] tree ts waits in
      record {
        sound = sound-more tree (more (text (line_feed ∷ [])) ts) (lines_in bs) (lines_among rest) waits
            (sound-element id role.Item [] content (lines_in bs) refl refl sound)
            (sound-text (line_feed ∷ []) ts (lines_among rest) later.sound);
        spent = spend-more (weight_in bs) (weight_of_items rest) tree (more (text (line_feed ∷ [])) ts)
            (spend-element (weight_in bs) id role.Item (facts_of content) [] content refl spent)
            (spend-past (weight_of_items rest) (text (line_feed ∷ [])) ts (spend-text (line_feed ∷ []))
            later.spent);
        waits = node-waits [] tree ts waits ∙ later.waits;
        shows = λ r h. either-shows (is_filled (flattened bs)) (has_filled_item (flat_items rest)) (show false content)
            (show false (more (text (line_feed ∷ [])) ts)) h (λ k. shown r (sym (flat-filled bs) ∙ k))
            (λ k. line-unseen false ts ∙ later.shows r k);
        leads = λ h.
            let behind : Bool = items_have_no_anchors rest in
            let p = and_parts (title_keeps bs) (cond (are_unseen bs) (items_lead rest) behind) h in
            let lines : Simples = more (text (line_feed ∷ [])) ts in
            test (are_unseen bs)
            (λ q. and_from (comes_first tree) (cond (nat_le (seen tree) 0) (come_first lines) (are_nameless lines))
            (leads p.0) (ap (λ k. cond (nat_le k 0) (come_first lines) (are_nameless lines)) (unseen q)
            ∙ (line-first ts ∙ later.leads (sym (ap (λ b. cond b (items_lead rest) behind) q) ∙ p.1))))
            (λ q. first-behind tree lines (leads p.0) (plain-nameless ts (lines_among rest) later.sound
            (none-in-items rest (sym (ap (λ b. cond b (items_lead rest) behind) q) ∙ p.1))));
        unseen = λ h.
            let p = and_parts (are_unseen bs) (items_unseen rest) h in
            let lines : Simples = more (text (line_feed ∷ [])) ts in
            ap (λ k. k + all_seen lines) (unseen p.0)
            ∙ (zero-plus (all_seen lines) ∙ (line-seen-none ts ∙ later.unseen p.1));
        gives = ap (λ us. flow.items_of (nodes_of us) (here is_rich n)) is
            ∙ more-gives (facts_of content) inside (local_all [] ts) bs is_tight rest
            (kinds-local roles.is_paragraph paragraph-inner [] content ∙ paragraphs) blocks later.gives later.first;
        first = ap (λ us. flow.behind_item (nodes_of us) (here is_rich n)) is
            ∙ more-first (facts_of content) inside (more (text (line_feed ∷ [])) (local_all [] ts));
        before = λ k. ap (λ us. flow.before_items (nodes_of us) (here is_rich k)) is
            ∙ more-before (facts_of content) inside (more (text (line_feed ∷ [])) (local_all [] ts)) k;
      }
    where
      either-shows : (a b s t : Bool) → (a || b) ≡ true → (a ≡ true → s ≡ true)
          → (b ≡ true → t ≡ true)
          → (s || t) ≡ true
      either-shows true b s t h f g = ap (λ x. x || t) (f refl)
      either-shows false b true t h f g = refl
      either-shows false b false t h f g = g h

  pub none-items : (is_tight : Bool) → AreItems is_rich n is_tight no_items none
  unfolding node_of
  none-items is_tight = record {
    sound = sound-none;
    spent = spend-none;
    waits = refl;
    shows = λ r h. false-true h;
    leads = λ h. refl;
    unseen = λ h. refl;
    gives = refl;
    first = refl;
    before = λ k. refl;
  }

  pub bullets-parts : (facts : Facts) (content ts : Simples) (is_tight : Bool) (items : Items)
      → nat_le most_nested n ≡ false → AreItems is_rich (suc n) is_tight items content
      → lists.lists_if_filled n None (made_items is_tight items) ≡ whole (list None is_tight items) ∷ []
      → parts_of is_rich n (more (element id role.BulletList facts []
      (more (text (line_feed ∷ [])) (local_all [] content))) ts)
      ≡ edge ∷ run (line_feed ∷ []) [] false ∷ edge ∷ whole
      (list None is_tight items) ∷ edge ∷ parts_of is_rich n ts
  unfolding node_of
  bullets-parts facts content ts is_tight items free all made_list =
      rw free
      (ap (λ ps. ((edge ∷ run (line_feed ∷ []) [] false ∷ ps)
      ++ edge ∷ lists.lists_if_filled n None (flow.items_of (nodes_of (local_all [] content)) (here is_rich (suc n)))
      ++ edge ∷ [])
      ++ parts_of is_rich n ts) (all.before n)
      ∙ (ap (λ is. edge ∷ run (line_feed ∷ []) [] false ∷ edge ∷
      (lists.lists_if_filled n None is ++ edge ∷ [])
      ++ parts_of is_rich n ts) all.gives
      ∙ ap (λ ps. edge ∷ run (line_feed ∷ []) [] false ∷ edge ∷ (ps ++ edge ∷ [])
      ++ parts_of is_rich n ts) made_list))

  pub numbers-parts : (s : ℕ) (facts : Facts) (attributes : List AttributePair) (content ts : Simples)
      (is_tight : Bool) (items : Items) → nat_le most_nested n ≡ false
      → AreItems is_rich (suc n) is_tight items content
      → flow.start_of attributes ≡ pos s
      → lists.lists_if_filled n (Some (pos s)) (made_items is_tight items)
      ≡ whole (list (Some s) is_tight items) ∷ []
      → parts_of is_rich n (more (element id role.NumberedList facts attributes
      (more (text (line_feed ∷ [])) (local_all [] content))) ts)
      ≡ edge ∷ run (line_feed ∷ []) [] false ∷ edge ∷ whole (list (Some s) is_tight items) ∷ edge
      ∷ parts_of is_rich n ts
  unfolding node_of
  numbers-parts s facts attributes content ts is_tight items free all start made_list =
      rw (free, start)
      (ap (λ ps. ((edge ∷ run (line_feed ∷ []) [] false ∷ ps)
      ++ edge ∷ lists.lists_if_filled n (Some (pos s))
      (flow.items_of (nodes_of (local_all [] content)) (here is_rich (suc n)))
      ++ edge ∷ [])
      ++ parts_of is_rich n ts) (all.before n)
      ∙ (ap (λ is. edge ∷ run (line_feed ∷ []) [] false ∷ edge
      ∷ (lists.lists_if_filled n (Some (pos s)) is ++ edge ∷ [])
      ++ parts_of is_rich n ts) all.gives
      ∙ ap (λ ps. edge ∷ run (line_feed ∷ []) [] false ∷ edge ∷ (ps ++ edge ∷ [])
      ++ parts_of is_rich n ts) made_list))

-- a list after blocks: white space, and the list between edges
pub list-fed : (mode : Mode) (w : Writing) (done : List Block) (b : Block) (ps : List Part) → IsReady mode w done
    → fed_all w (edge ∷ run (line_feed ∷ []) [] false ∷ edge ∷ whole b ∷ edge ∷ ps)
    ≡ fed_all (clean mode (done ++ b ∷ [])) ps
list-fed mode w done b ps h =
    let free : is_flat_mode mode ≡ false = ready-flat mode w done h in
    ap (λ v. fed_all (fed (fed (fed (fed v (run (line_feed ∷ []) [] false)) edge) (whole b)) edge) ps)
    (edge-fed mode w done h)
    ∙ ap (λ v. fed_all v ps)
    (apart-fed mode (fed (clean mode done) (run (line_feed ∷ []) [] false)) done (line-ready mode done free) b)

module _ (is_rich : Bool) (n id : ℕ) where
  pub bullets-gives : (content : Simples) (is_tight : Bool) (items : Items) → nat_le most_nested n ≡ false
      → AreItems is_rich (suc n) is_tight items content → has_filled_item (flat_items items) ≡ true
      → lists.lists_if_filled n None (made_items is_tight items) ≡ whole (list None is_tight items) ∷ []
      → GivesBlock is_rich n (made id role.BulletList [] (more (text (line_feed ∷ [])) content))
      (list None is_tight items)
  bullets-gives content is_tight items free all filled made_list = record {
    sound = sound-element id role.BulletList [] (more (text (line_feed ∷ [])) content) (lines_among items) refl
        refl (sound-text (line_feed ∷ []) content (lines_among items) all.sound);
    spent = spend-element (weight_of_items items) id role.BulletList
        (facts_of (more (text (line_feed ∷ [])) content)) []
        (more (text (line_feed ∷ [])) content) refl
        (spend-past (weight_of_items items) (text (line_feed ∷ [])) content
        (spend-text (line_feed ∷ [])) all.spent);
    kind = refl;
    untitled = refl;
    lean = heavy-tree refl refl (λ r. line-unseen false content ∙ all.shows r filled)
        (λ k. line-seen-none content ∙ all.unseen k)
        (λ k. line-first content ∙ all.leads k);
    waits = line-waits content ∙ all.waits;
    led = λ ids e. false-true e;
    gives = λ mode w done h may ts.
        let facts : Facts = facts_of (more (text (line_feed ∷ [])) content) in
        ap (λ us. fed_all w (parts_of is_rich n (more (element id role.BulletList facts [] us) ts)))
        (line-local content)
        ∙ ap (fed_all w) (bullets-parts is_rich n id facts content ts is_tight items free all made_list)
        ∙ list-fed mode w done (list None is_tight items) (parts_of is_rich n ts) h;
  }

  pub numbers-gives : (s : ℕ) (attributes : List AttributePair) (content : Simples) (is_tight : Bool) (items : Items)
      → nat_le most_nested n ≡ false → AreItems is_rich (suc n) is_tight items content
      → has_filled_item (flat_items items) ≡ true → has_no_name attributes ≡ true
      → flow.start_of attributes ≡ pos s
      → lists.lists_if_filled n (Some (pos s)) (made_items is_tight items)
      ≡ whole (list (Some s) is_tight items) ∷ []
      → GivesBlock is_rich n (made id role.NumberedList attributes (more (text (line_feed ∷ [])) content))
      (list (Some s) is_tight items)
  numbers-gives s attributes content is_tight items free all filled nameless start made_list = record {
    sound = sound-element id role.NumberedList attributes (more (text (line_feed ∷ [])) content)
        (lines_among items) refl nameless
        (sound-text (line_feed ∷ []) content (lines_among items) all.sound);
    spent = spend-element (weight_of_items items) id role.NumberedList
        (facts_of (more (text (line_feed ∷ [])) content)) attributes (more (text (line_feed ∷ [])) content) refl
        (spend-past (weight_of_items items) (text (line_feed ∷ [])) content
        (spend-text (line_feed ∷ [])) all.spent);
    kind = refl;
    untitled = refl;
    lean = heavy-tree refl refl (λ r. line-unseen false content ∙ all.shows r filled)
        (λ k. line-seen-none content ∙ all.unseen k)
        (λ k. and_from (has_no_name attributes) (come_first (more (text (line_feed ∷ [])) content)) nameless
        (line-first content ∙ all.leads k));
    waits = line-waits content ∙ all.waits;
    led = λ ids e. false-true e;
    gives = λ mode w done h may ts.
        let facts : Facts = facts_of (more (text (line_feed ∷ [])) content) in
        ap (λ us. fed_all w (parts_of is_rich n (more (element id role.NumberedList facts attributes us) ts)))
        (line-local content)
        ∙ ap (fed_all w)
        (numbers-parts is_rich n id s facts attributes content ts is_tight items free all start made_list)
        ∙ list-fed mode w done (list (Some s) is_tight items) (parts_of is_rich n ts) h;
  }

-- the blocks of an item whose paragraphs have ended
pub item-ends : (v : Writing) (bs : Blocks) (done : List Block) → IsReady in_item v done → blocks_of done ≡ bs
    → blocks_in (fed (fed v edge) (run (line_feed ∷ []) [] false)) ≡ bs
item-ends v bs done h e =
    ap (λ u. blocks_in (fed u (run (line_feed ∷ []) [] false))) (edge-fed in_item v done h)
    ∙ (ap blocks_of (all-done in_item (fed (clean in_item done) (run (line_feed ∷ []) [] false)) done
    (line-ready in_item done refl)) ∙ e)

-- an item of a tight list that is a line
pub line-item : (is_rich : Bool) (n : ℕ) (content : Simples) (ns : Numbers) (xs : Inlines)
    → ((w : Writing) → fed_all w (parts_of is_rich n content) ≡ fed_all w (parts_in [] ns xs))
    → has_none xs ≡ false → IsLineFed in_item [] ns xs
    → flow.blocks_of true (in_one_item is_rich n 0 content) ≡ block (paragraph xs) no_blocks
line-item is_rich n content ns xs e some line =
    ap blocks_in (fold-append fed (clean in_item []) (parts_of is_rich n content)
    (edge ∷ run (line_feed ∷ []) [] false ∷ [])
    ∙ ap (λ v. fed (fed v edge) (run (line_feed ∷ []) [] false)) (e (clean in_item []) ∙ line.is))
    ∙ (ap (λ u. blocks_in (fed u (run (line_feed ∷ []) [] false)))
    (line-end in_item xs [] line.inner line.last refl some)
    ∙ ap blocks_of (all-done in_item (fed (clean in_item (paragraph xs ∷ [])) (run (line_feed ∷ []) [] false))
    (paragraph xs ∷ []) (line-ready in_item (paragraph xs ∷ []) refl)))

-- after a line and its end
line-left-ready : (xs : Inlines) (ms : List Wrapper) (k : Bool) → has_none xs ≡ false
    → IsReady in_item (fed (in_line in_item [] xs ms k no_gap) (run (line_feed ∷ []) [] false))
    (paragraph xs ∷ [])
unfolding chars encode
line-left-ready no_inlines ms k h = true-false h
line-left-ready (inline x xs) ms true h = record {
  flat = refl;
  boxed = no-box (fed (in_line in_item [] (inline x xs) ms true no_gap) (run (line_feed ∷ []) [] false)) refl;
  end = refl;
}
line-left-ready (inline x xs) ms false h = record {
  flat = refl;
  boxed = no-box (fed (in_line in_item [] (inline x xs) ms false no_gap) (run (line_feed ∷ []) [] false)) refl;
  end = refl;
}

-- an item of a tight list that is a line and other blocks
pub pair-item : (is_rich : Bool) (n : ℕ) (us vs ts : Simples) (ns : Numbers) (xs : Inlines) (done : List Block)
    → ((w : Writing) → fed_all w (parts_of is_rich n us)
    ≡ fed_all (fed (fed_all w (parts_of is_rich n vs)) (run (line_feed ∷ []) [] false)) (parts_of is_rich n ts))
    → ((w : Writing) → fed_all w (parts_of is_rich n vs) ≡ fed_all w (parts_in [] ns xs))
    → has_none xs ≡ false → IsLineFed in_item [] ns xs
    → ((w : Writing) → IsReady in_item w (paragraph xs ∷ [])
    → IsReady in_item (fed_all w (parts_of is_rich n ts)) (paragraph xs ∷ done))
    → flow.blocks_of true (in_one_item is_rich n 0 us) ≡ block (paragraph xs) (blocks_of done)
pair-item is_rich n us vs ts ns xs done split e some line rest =
    let start : Writing = fed (in_line in_item [] xs line.inner line.last no_gap) (run (line_feed ∷ []) [] false) in
    ap blocks_in (fold-append fed (clean in_item []) (parts_of is_rich n us)
    (edge ∷ run (line_feed ∷ []) [] false ∷ [])
    ∙ ap (λ v. fed (fed v edge) (run (line_feed ∷ []) [] false)) (split (clean in_item [])
    ∙ ap (λ v. fed_all (fed v (run (line_feed ∷ []) [] false)) (parts_of is_rich n ts))
    (e (clean in_item []) ∙ line.is)))
    ∙ item-ends (fed_all start (parts_of is_rich n ts)) (block (paragraph xs) (blocks_of done))
    (paragraph xs ∷ done)
    (rest start (line-left-ready xs line.inner line.last some)) refl
