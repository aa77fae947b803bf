-- What nodes give whose titles may be elements, as the summary of a `details` is.
use Rattle.std.proofs.Common.{◌≡◌, ℕ, Bool, true, false, not, ◌&&◌, ◌||◌, cond, List, [], ◌∷◌, ◌++◌, refl, sym, ap}
use Rattle.std.proofs.Common.{◌∙◌, subst, Option, Some, None, map}
use Rattle.std.proofs.lemmas.List.{append_assoc, append-nil}
use Rattle.std.proofs.lemmas.List.Sums.{fold-append}
use Rattle.htmd_lexical.specs.AttributePairs.{AttributePair}
use Rattle.htmd_lexical.specs.Characters.{line_feed}
use Rattle.htmd_nodes.specs.NumberedTrees.{NumberedForest}
use Rattle.htmd_document.specs.Documents.{Block, Blocks, no_blocks, block}
use Rattle.htmd_document.specs.Documents as documents
use Rattle.htmd_document.specs.TightItems.{is_filled}
use Rattle.htmd_document.specs.declared.document.BlockElement.{BlockElement}
use Rattle.htmd_document.specs.declared.document.BlockElement.TheVariants as an
use Rattle.htmd_flow.specs.Contexts.{Context, apart}
use Rattle.htmd_flow.specs.Flows.{node_of, nodes_of, flow_all}
use Rattle.htmd_flow.specs.Flows as flow
use Rattle.htmd_flow.specs.Nodes.{Node, is_item, list_parts, items_in_a_row, flow_after}
use Rattle.htmd_flow.specs.Paragraphs.{Writing, fed, fed_all}
use Rattle.htmd_flow.specs.Parts.{Part, run, edge, whole}
use Rattle.htmd_flow.specs.RichNodes.{as_title, around_title, title_element, element_part, is_title_of}
use Rattle.htmd_shown.specs.declared.facts.Facts.{Facts}
use Rattle.htmd_shown.specs.declared.role.Role.{Role}
use Rattle.htmd_shown.specs.declared.role.Role.TheVariants as role
use Rattle.htmd_shown.specs.Facts.{made, facts_of}
use Rattle.htmd_shown.specs.Kinds.{has}
use Rattle.htmd_shown.specs.Roles as roles
use Rattle.htmd_shown.specs.Showings.{shows, show}
use Rattle.htmd_shown.specs.SimpleTrees.{Simple, Simples, text, image, formula, embedded, anchor, element, none, more}
use Rattle.htmd_document_of_tree.specs.Seen.{all_seen}
use Rattle.htmd_law_returning.specs.LastingAnchors.{are_unseen}
use Rattle.htmd_law_returning.specs.LastingAnchors.{title_keeps}
use Rattle.htmd_law_returning.proofs.FirstTargets.{IsLead, first-more, unseen-more}
use Rattle.htmd_law_returning.proofs.LocalAnchors.{come_first}
use Rattle.htmd_law_returning.specs.SettledDocuments.{weight_in, weight_of_block, said_in, said_of_block}
use Rattle.htmd_law_returning.proofs.CostLemmas.{Spends, AllSpend, spend-none, spend-more, spend-text, spend-past}
use Rattle.htmd_law_returning.proofs.CostLemmas.{spend-element}
use Rattle.htmd_law_returning.proofs.AloneLemmas.{alone}
use Rattle.htmd_law_returning.proofs.FlowLemmas.{GivesBlock, is_code, is_item_or_title, titled_of}
use Rattle.htmd_law_returning.proofs.LeanTrees.{is_black}
use Rattle.htmd_law_returning.proofs.PageLemmas.{shown_of, line-shown}
use Rattle.htmd_law_returning.proofs.ReadyLemmas.{here, parts_of, IsReady, none-parts, text-parts, line-ready}
use Rattle.htmd_law_returning.proofs.ReadyLemmas.{apart-fed}
use Rattle.htmd_law_returning.proofs.ReturnedBlocks.{AreReturned, IsFirst, list_in, none-left, all-ready, led-ready}
use Rattle.htmd_law_returning.proofs.ReturnedBlocks.{code-first}
use Rattle.htmd_law_returning.proofs.StartLemmas.{in_blocks, clean, begins_boxed, is_boxed, false-true, true-false}
use Rattle.htmd_law_returning.specs.LastingAnchors.{Line, lines_of, lines_in}
use Rattle.htmd_document.specs.LoneAnchors.{is_alone, stand_alone}
use Rattle.htmd_law_returning.proofs.KindLemmas.{IsInner, verbatim-only, kind-local, node-local, node-waits}
use Rattle.htmd_law_returning.proofs.LocalAnchors.{local, local_all, pending, pending_all}
use Rattle.htmd_law_returning.proofs.SoundBlocks.{IsSound, AreSound, sound-none, begins_coded, is_coded, is_gap}
use Rattle.htmd_law_returning.proofs.SoundNodes.{sound-text, sound-more, sound-title}
use Rattle.htmd_law_returning.proofs.TaskLemmas.{may-always}

-- ---- parts

-- of nodes beside each other
pub record AreParts (parts : Simples → List Part) : Type 0 where
  pub nothing : parts none ≡ []
  pub behind_text : (s : List ℕ) (ts : Simples) → parts (more (text s) ts) ≡ run s [] false ∷ parts ts

neither : (a b : Bool) → (a || b) ≡ false → (a ≡ false) × (b ≡ false)
neither true b h = true-false h
neither false b h = (refl, h)

flow-one : (n : Node) (nodes : List Node) (c : Context) → is_item n ≡ false
    → flow_all (n ∷ nodes) c ≡ n.whole c ++ flow_all nodes c
flow-one n nodes c h =
    ap (λ b. cond b (list_parts None (n ∷ items_in_a_row nodes) c ++ flow_after nodes c)
    (n.whole c ++ flow_all nodes c)) h

flow-first : (n : Node) (nodes : List Node) (c : Context) → is_item n ≡ false
    → flow_all (n ∷ nodes) c ≡ flow_all (n ∷ []) c ++ flow_all nodes c
flow-first n nodes c h =
    flow-one n nodes c h
    ∙ ap (λ ps. ps ++ flow_all nodes c) (sym (flow-one n [] c h ∙ append-nil (n.whole c)))

-- a usual sign in a title isn't unlinked where no link is around
pub around-here : (is_rich : Bool) (n : ℕ) (content : Simples)
    → around_title content (here is_rich n) ≡ here is_rich n
around-here true n content = refl
around-here false n content = refl

-- the title of a figure or of a `details`
abbrev pub title_of : Bool → BlockElement
title_of true = an.FigureCaption
title_of false = an.Summary

abbrev pub title_role : Bool → Role
title_role true = role.FigureCaption
title_role false = role.Summary

no-title : (in_figure : Bool) (r : Role) → (roles.is_summary r || roles.is_figure_caption r) ≡ false
    → is_title_of (title_of in_figure) r ≡ false
no-title true r h = (neither (roles.is_summary r) (roles.is_figure_caption r) h).1
no-title false r h = (neither (roles.is_summary r) (roles.is_figure_caption r) h).0

module _ (is_rich : Bool) (n : ℕ) where
  pub plain-parts : AreParts (parts_of is_rich n)
  plain-parts = record { nothing = none-parts is_rich n 0; behind_text = text-parts is_rich n 0 }

  pub titled-parts : (title : BlockElement) → AreParts (titled_of title is_rich n)
  unfolding node_of
  titled-parts title = record { nothing = refl; behind_text = λ s ts. refl }

  -- a node that is no title
  pub untitled-more : (in_figure : Bool) (t : Simple) (ts : Simples) → has is_item_or_title t ≡ false
      → titled_of (title_of in_figure) is_rich n (more t ts)
      ≡ parts_of is_rich n (more t none) ++ titled_of (title_of in_figure) is_rich n ts
  unfolding node_of
  untitled-more in_figure (text s) ts h = refl
  untitled-more in_figure (image address attributes) ts h =
      flow-first (node_of (image address attributes)) (map (as_title (title_of in_figure)) (nodes_of ts))
      (here is_rich n) refl
  untitled-more in_figure (formula tex is_alone attributes) ts h =
      flow-first (node_of (formula tex is_alone attributes)) (map (as_title (title_of in_figure)) (nodes_of ts))
      (here is_rich n) refl
  untitled-more in_figure (embedded id address title attributes anchors) ts h =
      flow-first (node_of (embedded id address title attributes anchors))
      (map (as_title (title_of in_figure)) (nodes_of ts)) (here is_rich n) refl
  untitled-more in_figure (anchor id) ts h = refl
  untitled-more in_figure (element id r facts attributes content) ts h =
      let node : Node = node_of (element id r facts attributes content) in
      let title : BlockElement = title_of in_figure in
      let nodes : List Node = map (as_title title) (nodes_of ts) in
      let plain = neither (roles.is_item r) (roles.is_summary r || roles.is_figure_caption r) h in
      ap (λ b. flow_all (cond b (record node { whole = title_element title node }) node ∷ nodes)
      (here is_rich n)) (no-title in_figure r plain.1)
      ∙ flow-first node nodes (here is_rich n) plain.0

  -- and one that is
  title-more : (in_figure : Bool) (id : ℕ) (facts : Facts) (content ts : Simples) (d : Blocks)
      → is_filled d ≡ true
      → flow.blocks_of false (parts_of is_rich n content) ≡ d
      → titled_of (title_of in_figure) is_rich n (more (element id (title_role in_figure) facts [] content) ts)
      ≡ edge ∷ whole (documents.element (title_of in_figure) [] d) ∷ edge
      ∷ titled_of (title_of in_figure) is_rich n ts
  unfolding node_of
  title-more in_figure id facts content ts no_blocks filled e = false-true filled
  title-more true id facts content ts (block b bs) filled e =
      ap (λ c. apart (element_part an.FigureCaption [] (flow.blocks_of false (flow_all (nodes_of content) c)))
      ++ titled_of an.FigureCaption is_rich n ts) (around-here is_rich n content)
      ∙ ap (λ d. apart (element_part an.FigureCaption [] d) ++ titled_of an.FigureCaption is_rich n ts) e
  title-more false id facts content ts (block b bs) filled e =
      ap (λ c. apart (element_part an.Summary [] (flow.blocks_of false (flow_all (nodes_of content) c)))
      ++ titled_of an.Summary is_rich n ts) (around-here is_rich n content)
      ∙ ap (λ d. apart (element_part an.Summary [] d) ++ titled_of an.Summary is_rich n ts) e

-- ---- blocks

-- nodes give these blocks, with such parts
abbrev pub AreReady : (Simples → List Part) → Simples → Blocks → Type 0
AreReady parts us d =
    (w : Writing) (done : List Block) → IsReady in_blocks w done
    → IsReady in_blocks (fed_all w (parts us)) (done ++ list_in d)

ready-none : (parts : Simples → List Part) → AreParts parts → AreReady parts none no_blocks
ready-none parts k w done h =
    subst (λ (ps : List Part). IsReady in_blocks (fed_all w ps) (done ++ [])) (sym k.nothing)
    (subst (λ (bs : List Block). IsReady in_blocks w bs) (sym (append-nil done)) h)

-- one gives a block
abbrev Gives : (Simples → List Part) → Simple → Block → Type 0
Gives parts tree b =
    (w : Writing) (done : List Block) → IsReady in_blocks w done → (us : Simples)
    → fed_all w (parts (more tree us)) ≡ fed_all (clean in_blocks (done ++ b ∷ [])) (parts us)

-- and with anchors before them, the first of which is a code block
abbrev pub AreReadyBehind : (Simples → List Part) → List (List ℕ) → Simples → Blocks → Type 0
AreReadyBehind parts ids us d =
    (w : Writing) (done : List Block) → IsReady in_blocks w done
    → IsReady in_blocks (fed_all w (parts us)) (done ++ (alone ids ++ list_in d))

-- what nodes give, and with these anchors before
abbrev pub GivesLed : (Simples → List Part) → List (List ℕ) → Simple → Block → Type 0
GivesLed parts ids tree b =
    (w : Writing) (done : List Block) → IsReady in_blocks w done → (us : Simples)
    → fed_all w (parts (more tree us)) ≡ fed_all (clean in_blocks (done ++ (alone ids ++ b ∷ []))) (parts us)

-- a block, a line's end, and those behind it
ready-more : (parts : Simples → List Part) (tree : Simple) (us : Simples) (b : Block) (d : Blocks)
    → AreParts parts
    → Gives parts tree b → AreReady parts us d
    → AreReady parts (more tree (more (text (line_feed ∷ [])) us)) (block b d)
ready-more parts tree us b d k gives later w done h =
    let v : Writing = fed (clean in_blocks (done ++ b ∷ [])) (run (line_feed ∷ []) [] false) in
    subst (λ (u : Writing). IsReady in_blocks u (done ++ b ∷ list_in d))
    (sym (gives w done h (more (text (line_feed ∷ [])) us)
    ∙ ap (fed_all (clean in_blocks (done ++ b ∷ []))) (k.behind_text (line_feed ∷ []) us)))
    (subst (λ (bs : List Block). IsReady in_blocks (fed_all v (parts us)) bs)
    (append_assoc done (b ∷ []) (list_in d))
    (later v (done ++ b ∷ []) (line-ready in_blocks (done ++ b ∷ []) refl)))

ready-led : (parts : Simples → List Part) (ids : List (List ℕ)) (tree : Simple) (us : Simples) (b : Block)
    (d : Blocks) → AreParts parts → GivesLed parts ids tree b → AreReady parts us d
    → AreReadyBehind parts ids (more tree (more (text (line_feed ∷ [])) us)) (block b d)
ready-led parts ids tree us b d k gives later w done h =
    let all : List Block = done ++ (alone ids ++ b ∷ []) in
    let v : Writing = fed (clean in_blocks all) (run (line_feed ∷ []) [] false) in
    subst (λ (u : Writing). IsReady in_blocks u (done ++ (alone ids ++ b ∷ list_in d)))
    (sym (gives w done h (more (text (line_feed ∷ [])) us)
    ∙ ap (fed_all (clean in_blocks all)) (k.behind_text (line_feed ∷ []) us)))
    (subst (λ (bs : List Block). IsReady in_blocks (fed_all v (parts us)) bs)
    (append_assoc done (alone ids ++ b ∷ []) (list_in d)
    ∙ ap (λ bs. done ++ bs) (append_assoc (alone ids) (b ∷ []) (list_in d)))
    (later v all (line-ready in_blocks all refl)))

-- where no anchor waits
pub record AreGiven (parts : Simples → List Part) (ts : Simples) (d : Blocks) : Type 0 where
  pub sound : AreSound ts (lines_in d)
  pub waits : pending_all [] ts ≡ []
  pub shows : show false ts ≡ is_black d
  pub first : title_keeps d ≡ true → come_first ts ≡ true
  pub unseen : are_unseen d ≡ true → all_seen ts ≡ 0
  pub spent : AllSpend (weight_in d) (said_in d) ts
  pub ready : AreReady parts (local_all [] ts) d
  pub begins : stand_alone false d ≡ true → begins_coded ts ≡ true
  -- with anchors before a code block
  pub led : (ids : List (List ℕ)) → stand_alone false d ≡ true
      → (pending_all ids ts ≡ []) × AreReadyBehind parts ids (local_all ids ts) d

-- the first is led as a code block is
pub record IsLedIn (parts : Simples → List Part) (ids : List (List ℕ)) (tree : Simple) (b : Block) : Type 0 where
  pub coded : is_coded tree ≡ true
  pub waits : pending ids tree ≡ []
  pub gives : GivesLed parts ids (local ids tree) b

pub given-none : (parts : Simples → List Part) → AreParts parts → AreGiven parts none no_blocks
given-none parts k = record {
  sound = sound-none;
  waits = refl;
  shows = refl;
  first = λ e. refl;
  unseen = λ e. refl;
  spent = spend-none;
  ready = ready-none parts k;
  begins = λ e. false-true e;
  led = λ ids e. false-true e;
}

pub given-more : (parts : Simples → List Part) (tree : Simple) (ts : Simples) (b : Block) (d : Blocks)
    → AreParts parts
    → IsSound tree (lines_of b) → pending [] tree ≡ [] → is_alone b ≡ false → shows false tree ≡ true
    → IsLead b tree
    → Spends (weight_of_block b) (said_of_block b) tree
    → Gives parts (local [] tree) b → ((ids : List (List ℕ)) → is_code b ≡ true → IsLedIn parts ids tree b)
    → AreGiven parts ts d
    → AreGiven parts (more tree (more (text (line_feed ∷ [])) ts)) (block b d)
given-more parts tree ts b d k sound waits black shown leads spent gives led later =
    let line : Simples = more (text (line_feed ∷ [])) ts in
    record {
      sound = sound-more tree line (lines_of b) (lines_in d) waits sound
          (sound-text (line_feed ∷ []) ts (lines_in d) later.sound);
      waits = node-waits [] tree ts waits ∙ later.waits;
      shows = ap (λ x. x || show false line) shown ∙ sym (ap (λ x. not x || is_black d) black);
      first = first-more b d tree ts leads later.sound later.first;
      unseen = unseen-more b d tree ts leads later.unseen;
      spent = spend-more (weight_of_block b) (weight_in d) tree line spent
          (spend-past (weight_in d) (text (line_feed ∷ [])) ts (spend-text (line_feed ∷ [])) later.spent);
      ready = subst (λ (us : Simples). AreReady parts us (block b d)) (sym (node-local [] tree ts waits))
          (ready-more parts (local [] tree) (local_all [] ts) b d k gives later.ready);
      begins = λ e. ap (λ x. x || (is_gap tree && begins_coded line)) (led [] (code-first b d e)).coded;
      led = λ ids e.
          let first = led ids (code-first b d e) in (
            node-waits ids tree ts first.waits ∙ later.waits,
            subst (λ (us : Simples). AreReadyBehind parts ids us (block b d))
                (sym (node-local ids tree ts first.waits))
                (ready-led parts ids (local ids tree) (local_all [] ts) b d k first.gives later.ready),
          );
    }

pub title-inner : IsInner is_item_or_title
title-inner = record { plain = refl; verbatim = verbatim-only (λ r. is_item_or_title r ≡ false) refl refl }

module _ (scripting is_rich : Bool) where
  -- what came back
  pub returned-given : (before : Option (List AttributePair)) (f : NumberedForest) (n : ℕ) (d : Blocks)
      → is_rich ≡ true → begins_boxed d ≡ false → AreReturned scripting is_rich false before f n d
      → AreGiven (parts_of is_rich n) (shown_of scripting is_rich before f) d
  returned-given before f n d rich plain all = record {
    sound = all.sound;
    waits = none-left scripting is_rich before f n d all;
    shows = all.lean.shows rich;
    first = all.first;
    unseen = all.unseen;
    spent = all.spent;
    ready = λ w done h. all-ready scripting is_rich before f n d all in_blocks w done h
        (may-always (begins_boxed d) in_blocks done plain);
    begins = all.begins;
    led = λ ids e. led-ready scripting is_rich before f n d all ids e;
  }

  -- a block that is no title
  pub given-first : (in_figure : Bool) (before : Option (List AttributePair)) (f : NumberedForest) (n : ℕ) (b : Block)
      (after d : Blocks)
      → is_rich ≡ true → is_boxed b ≡ false → (first : IsFirst scripting is_rich before f n b after)
      → AreGiven (titled_of (title_of in_figure) is_rich n)
      (shown_of scripting is_rich (Some first.attributes) first.rest) d
      → AreGiven (titled_of (title_of in_figure) is_rich n) (shown_of scripting is_rich before f) (block b d)
  given-first in_figure before f n b after d rich plain first later =
      let parts : Simples → List Part = titled_of (title_of in_figure) is_rich n in
      let tree : Simple = first.tree in
      let own : GivesBlock is_rich n tree b = first.own in
      let ts : Simples = shown_of scripting is_rich (Some first.attributes) first.rest in
      subst (λ (us : Simples). AreGiven parts us (block b d))
      (sym (first.shows
      ∙ ap (more tree) (line-shown scripting is_rich (Some first.attributes) first.line first.rest)))
      (given-more parts tree ts b d (titled-parts is_rich n (title_of in_figure)) own.sound own.waits
      own.lean.black (own.lean.shows rich) own.lean.leads own.spent
      (λ w done h us. titled-more (local [] tree) (kind-local is_item_or_title title-inner [] tree ∙ own.untitled) w
      (done ++ b ∷ []) (own.gives in_blocks w done h (may-always (is_boxed b) in_blocks done plain) none) us)
      (λ ids e.
      let led = own.led ids e in record {
        coded = led.coded;
        waits = led.waits;
        gives = λ w done h us.
            titled-more (local ids tree) (kind-local is_item_or_title title-inner ids tree ∙ own.untitled) w
            (done ++ (alone ids ++ b ∷ [])) (led.gives in_blocks w done h none) us;
      })
      later)
    where
      -- what a node alone gives
      titled-more : (t : Simple) → has is_item_or_title t ≡ false → (w : Writing) (bs : List Block)
          → fed_all w (parts_of is_rich n (more t none)) ≡ fed_all (clean in_blocks bs) (parts_of is_rich n none)
          → (us : Simples)
          → fed_all w (titled_of (title_of in_figure) is_rich n (more t us))
          ≡ fed_all (clean in_blocks bs) (titled_of (title_of in_figure) is_rich n us)
      titled-more t h w bs e us =
          let parts : Simples → List Part = titled_of (title_of in_figure) is_rich n in
          ap (fed_all w) (untitled-more is_rich n in_figure t us h)
          ∙ (fold-append fed w (parts_of is_rich n (more t none)) (parts us)
          ∙ ap (λ v. fed_all v (parts us))
          (e ∙ ap (fed_all (clean in_blocks bs)) (none-parts is_rich n 0)))

title-sound : (in_figure : Bool) (id : ℕ) (content : Simples) (ls : List Line) → come_first content ≡ true
    → AreSound content ls → IsSound (made id (title_role in_figure) [] content) ls
title-sound true id content ls first sound =
    sound-title id role.FigureCaption content ls refl refl refl refl first sound
title-sound false id content ls first sound = sound-title id role.Summary content ls refl refl refl refl first sound

title-spends : (in_figure : Bool) (id : ℕ) (c : Blocks) (content : Simples)
    → AllSpend (weight_in c) (said_in c) content
    → Spends (weight_in c) (said_in c) (made id (title_role in_figure) [] content)
title-spends true id c content h =
    spend-element (weight_in c) id role.FigureCaption (facts_of content) [] content refl h
title-spends false id c content h = spend-element (weight_in c) id role.Summary (facts_of content) [] content refl h

title-waits : (in_figure : Bool) (id : ℕ) (content : Simples) → pending_all [] content ≡ []
    → pending [] (made id (title_role in_figure) [] content) ≡ []
title-waits true id content h = h
title-waits false id content h = h

title-shows : (in_figure : Bool) (id : ℕ) (content : Simples) → show false content ≡ true
    → shows false (made id (title_role in_figure) [] content) ≡ true
title-shows true id content h = h
title-shows false id content h = h

title-leads : (in_figure : Bool) (id : ℕ) (c : Blocks) (content : Simples)
    → (are_unseen c ≡ true → all_seen content ≡ 0)
    → IsLead (documents.element (title_of in_figure) [] c) (made id (title_role in_figure) [] content)
title-leads true id c content unseen = record { first = λ e. refl; unseen = unseen }
title-leads false id c content unseen = record { first = λ e. refl; unseen = unseen }

title-local : (in_figure : Bool) (id : ℕ) (content : Simples)
    → local [] (made id (title_role in_figure) [] content)
    ≡ element id (title_role in_figure) (facts_of content) [] (local_all [] content)
title-local true id content = refl
title-local false id content = refl

-- a title
pub given-title : (is_rich in_figure : Bool) (n id : ℕ) (content ts : Simples) (c d : Blocks) → is_filled c ≡ true
    → AreSound content (lines_in c) → come_first content ≡ true → pending_all [] content ≡ []
    → show false content ≡ true → (are_unseen c ≡ true → all_seen content ≡ 0)
    → AllSpend (weight_in c) (said_in c) content
    → flow.blocks_of false (parts_of is_rich n (local_all [] content)) ≡ c
    → AreGiven (titled_of (title_of in_figure) is_rich n) ts d
    → AreGiven (titled_of (title_of in_figure) is_rich n)
    (more (made id (title_role in_figure) [] content) (more (text (line_feed ∷ [])) ts))
    (block (documents.element (title_of in_figure) [] c) d)
given-title is_rich in_figure n id content ts c d filled sound first waits shown unseen spent e later =
    let parts : Simples → List Part = titled_of (title_of in_figure) is_rich n in
    let title : Block = documents.element (title_of in_figure) [] c in
    given-more parts (made id (title_role in_figure) [] content) ts title d
    (titled-parts is_rich n (title_of in_figure)) (title-sound in_figure id content (lines_in c) first sound)
    (title-waits in_figure id content waits) refl (title-shows in_figure id content shown)
    (title-leads in_figure id c content unseen)
    (title-spends in_figure id c content spent)
    (λ w done h us. ap (λ t. fed_all w (parts (more t us))) (title-local in_figure id content)
    ∙ (ap (fed_all w) (title-more is_rich n in_figure id (facts_of content) (local_all [] content) us c filled e)
    ∙ ap (λ v. fed_all v (parts us)) (apart-fed in_blocks w done h title)))
    (λ ids e. false-true e) later
