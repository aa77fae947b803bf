-- Figures: what stands in one gives blocks and captions, and a figure one element.
use Rattle.std.proofs.Common.{◌≡◌, ℕ, Bool, true, false, ◌&&◌, ◌||◌, List, [], ◌∷◌, ◌++◌, refl, sym, ap}
use Rattle.std.proofs.Common.{◌∙◌, Option, Some, not, cond}
use Rattle.std.specs.List.{list_any}
use Rattle.htmd_lexical.proofs.Cases.{test}
use Rattle.htmd_lexical.specs.AttributePairs.{AttributePair}
use Rattle.htmd_lexical.specs.Characters.{line_feed}
use Rattle.htmd_nodes.specs.NumberedTrees.{NumberedForest}
use Rattle.htmd_document.specs.Documents.{Block, Blocks, no_blocks, block}
use Rattle.htmd_document.specs.Documents as documents
use Rattle.htmd_document.specs.TightItems.{is_filled}
use Rattle.htmd_document.specs.declared.document.BlockElement.TheVariants as an
use Rattle.htmd_flow.specs.Contexts.{apart}
use Rattle.htmd_flow.specs.Flows.{node_of, nodes_of}
use Rattle.htmd_flow.specs.Flows as flow
use Rattle.htmd_flow.specs.Levels.{list_of}
use Rattle.htmd_flow.specs.Nodes.{Node}
use Rattle.htmd_flow.specs.Paragraphs.{fed_all}
use Rattle.htmd_flow.specs.Parts.{edge, whole}
use Rattle.htmd_flow.specs.RichNodes.{element_part, figure_by, figure_parts, shows_title}
use Rattle.htmd_shown.specs.declared.role.Role.TheVariants as role
use Rattle.htmd_shown.specs.Facts.{made, facts_of}
use Rattle.htmd_shown.specs.declared.facts.Facts.{Facts}
use Rattle.htmd_shown.specs.Kinds.{has, content_of}
use Rattle.htmd_shown.specs.Roles as roles
use Rattle.htmd_shown.specs.Showings.{show, code_shows}
use Rattle.htmd_shown.specs.SimpleTrees.{Simple, Simples, text, image, formula, embedded, anchor, element, none, more}
use Rattle.htmd_law_returning.specs.SettledDocuments.{weight_in, is_of_figure, has_caption}
use Rattle.htmd_law_returning.proofs.CostLemmas.{spend-element}
use Rattle.htmd_law_returning.proofs.FlowLemmas.{GivesBlock, is_item_or_title, titled_of}
use Rattle.htmd_law_returning.proofs.GivenBlocks.{titled-parts}
use Rattle.htmd_law_returning.proofs.GivenBlocks.{AreGiven, given-none, given-first, given-title}
use Rattle.htmd_law_returning.proofs.InsideLemmas.{IsInside, IsTitle, lines-inside}
use Rattle.htmd_law_returning.proofs.LeanTrees.{heavy-tree, is_black}
use Rattle.htmd_law_returning.proofs.PageLemmas.{shown_of, line-shown}
use Rattle.htmd_law_returning.proofs.ReadyLemmas.{parts_of, apart-fed}
use Rattle.htmd_law_returning.proofs.ReturnedBlocks.{IsFirst}
use Rattle.htmd_law_returning.proofs.StartLemmas.{is_boxed, false-true, true-false}
use Rattle.htmd_law_returning.specs.LastingAnchors.{title_keeps}
use Rattle.htmd_document.specs.LoneAnchors.{is_alone}
use Rattle.htmd_law_returning.specs.LastingAnchors.{lines_in}
use Rattle.htmd_law_returning.proofs.KindLemmas.{IsInner, kind-local, verbatim-only}
use Rattle.htmd_law_returning.proofs.LocalAnchors.{local, local_all, pending, put_if, own_id}
use Rattle.htmd_law_returning.proofs.NearContexts.{silent-same, figure-same, nodes-same}
use Rattle.htmd_law_returning.proofs.LocalShowings.{all-local-shows}
use Rattle.htmd_law_returning.proofs.SoundNodes.{sound-element}

-- ---- what stands in one

neither : (a b c : Bool) → (a || (b || c)) ≡ false → c ≡ false
neither true b c h = true-false h
neither false true c h = true-false h
neither false false c h = h

no-such : (t : Simple) → has roles.is_figure_caption t ≡ false → shows_title an.FigureCaption t ≡ false
no-such t h = ap (λ b. b && show false (content_of t)) h

no-caption : (t : Simple) → has is_item_or_title t ≡ false → shows_title an.FigureCaption t ≡ false
no-caption (text s) h = refl
no-caption (image address attributes) h = refl
no-caption (formula tex is_alone attributes) h = refl
no-caption (embedded id address title attributes anchors) h = refl
no-caption (anchor id) h = refl
no-caption (element id r facts attributes content) h =
    ap (λ b. b && show false content)
    (neither (roles.is_item r) (roles.is_summary r) (roles.is_figure_caption r) h)

-- a caption among them shows
abbrev pub shows_caption : Simples → Bool
shows_caption ts = list_any (shows_title an.FigureCaption) (list_of ts)

nodes-captioned : (ts : Simples)
    → list_any (λ (n : Node). shows_title an.FigureCaption n.tree) (nodes_of ts) ≡ shows_caption ts
unfolding node_of
nodes-captioned none = refl
nodes-captioned (more (text s) ts) = nodes-captioned ts
nodes-captioned (more (image address attributes) ts) = nodes-captioned ts
nodes-captioned (more (formula tex is_alone attributes) ts) = nodes-captioned ts
nodes-captioned (more (embedded id address title attributes anchors) ts) = nodes-captioned ts
nodes-captioned (more (anchor id) ts) = nodes-captioned ts
nodes-captioned (more (element id r facts attributes content) ts) =
    ap (λ b. shows_title an.FigureCaption (element id r facts attributes content) || b) (nodes-captioned ts)

caption-inner : IsInner roles.is_figure_caption
caption-inner = record { plain = refl; verbatim = verbatim-only (λ r. roles.is_figure_caption r ≡ false) refl refl }

-- it shows wherever anchors stand
caption-local : (ids : List (List ℕ)) (t : Simple)
    → shows_title an.FigureCaption (local ids t) ≡ shows_title an.FigureCaption t
caption-local ids (text s) =
    no-such (local ids (text s)) (kind-local roles.is_figure_caption caption-inner ids (text s))
caption-local ids (image address attributes) =
    no-such (local ids (image address attributes))
    (kind-local roles.is_figure_caption caption-inner ids (image address attributes))
caption-local ids (formula tex is_alone attributes) =
    no-such (local ids (formula tex is_alone attributes))
    (kind-local roles.is_figure_caption caption-inner ids (formula tex is_alone attributes))
caption-local ids (embedded id address title attributes anchors) = refl
caption-local ids (anchor id) = refl
caption-local ids (element id r facts attributes content) =
    let t : Simple = element id r facts attributes content in
    let js : List (List ℕ) = ids ++ own_id t in
    test (roles.is_verbatim r)
    (λ e. no-such (local ids t) (kind-local roles.is_figure_caption caption-inner ids t ∙ caption-inner.verbatim r e)
    ∙ sym (no-such t (caption-inner.verbatim r e)))
    (λ e. ap (λ b. shows_title an.FigureCaption (cond b (put_if (code_shows content) ids t)
    (element id r facts attributes (local_all js content)))) e
    ∙ ap (λ b. roles.is_figure_caption r && b) (all-local-shows false js content))

captions-local : (ids : List (List ℕ)) (ts : Simples) → shows_caption (local_all ids ts) ≡ shows_caption ts
captions-local ids none = refl
captions-local ids (more t ts) =
    ap (λ b. b || shows_caption (local_all (pending ids t) ts)) (caption-local ids t)
    ∙ ap (λ b. shows_title an.FigureCaption t || b) (captions-local (pending ids t) ts)

-- nodes, blocks and captions
pub record AreInFigure (is_rich : Bool) (n : ℕ) (ts : Simples) (d : Blocks) : Type 0 where
  pub given : AreGiven (titled_of an.FigureCaption is_rich n) ts d
  pub captioned : shows_caption ts ≡ has_caption d

pub figure-none : (is_rich : Bool) (n : ℕ) → AreInFigure is_rich n none no_blocks
unfolding nodes_of
figure-none is_rich n = record {
  given = given-none (titled_of an.FigureCaption is_rich n) (titled-parts is_rich n an.FigureCaption);
  captioned = refl;
}

-- a block that is no caption
pub figure-first : (scripting is_rich : Bool) (before : Option (List AttributePair)) (f : NumberedForest) (n : ℕ)
    (b : Block) (after d : Blocks) → is_rich ≡ true → is_boxed b ≡ false → is_of_figure b ≡ false
    → (first : IsFirst scripting is_rich before f n b after)
    → AreInFigure is_rich n (shown_of scripting is_rich (Some first.attributes) first.rest) d
    → AreInFigure is_rich n (shown_of scripting is_rich before f) (block b d)
figure-first scripting is_rich before f n b after d rich plain other first later =
    let tree : Simple = first.tree in
    let ts : Simples = shown_of scripting is_rich (Some first.attributes) first.rest in
    record {
      given = given-first scripting is_rich true before f n b after d rich plain first later.given;
      captioned = ap shows_caption (first.shows
          ∙ ap (more tree) (line-shown scripting is_rich (Some first.attributes) first.line first.rest))
          ∙ (ap (λ x. x || shows_caption ts) (no-caption tree first.own.untitled)
          ∙ (later.captioned ∙ sym (ap (λ x. x || has_caption d) other)));
    }

-- a caption
pub figure-caption : (is_rich : Bool) (n id : ℕ) (content ts : Simples) (c d : Blocks) → is_filled c ≡ true
    → IsTitle (parts_of is_rich n) content c → title_keeps c ≡ true → show false content ≡ true
    → AreInFigure is_rich n ts d
    → AreInFigure is_rich n (more (made id role.FigureCaption [] content) (more (text (line_feed ∷ [])) ts))
    (block (documents.element an.FigureCaption [] c) d)
figure-caption is_rich n id content ts c d filled within led shows later = record {
  given = given-title is_rich true n id content ts c d filled within.inside.sound (within.first led)
      within.inside.waits shows within.inside.unseen within.inside.spent within.inside.written.gives later.given;
  captioned = ap (λ b. b || shows_caption ts) shows;
}

-- a caption isn't anchors alone
caption-black : (d : Blocks) → has_caption d ≡ true → is_black d ≡ true
caption-black no_blocks h = false-true h
caption-black (block (documents.element an.FigureCaption attributes c) bs) h = refl
caption-black (block b bs) h = or-true (not (is_alone b)) (is_black bs) (caption-black bs h)
  where
    or-true : (a c : Bool) → c ≡ true → (a || c) ≡ true
    or-true true c e = refl
    or-true false c e = e

-- ---- the element

module _ (is_rich : Bool) (n id : ℕ) where
  figure-parts : (facts : Facts) (content ts : Simples) (d : Blocks) → is_rich ≡ true → is_filled d ≡ true
      → shows_caption content ≡ true → flow.blocks_of false (titled_of an.FigureCaption is_rich n content) ≡ d
      → parts_of is_rich n (more (element id role.Figure facts [] content) ts)
      ≡ edge ∷ whole (documents.element an.Figure [] d) ∷ edge ∷ parts_of is_rich n ts
  unfolding node_of
  figure-parts facts content ts no_blocks rich filled captioned e = false-true filled
  figure-parts facts content ts (block b bs) rich filled captioned e =
      rw rich
      (ap (λ ps. ps ++ parts_of true n ts) (silent-same facts.pres [] refl (figure_parts (nodes_of content))
      (figure-same (nodes_of content) (nodes-same content)) true n)
      ∙ (ap (λ b. apart (figure_by b (titled_of an.FigureCaption true n content)) ++ parts_of true n ts)
      (nodes-captioned content ∙ captioned)
      ∙ ap (λ d. apart (element_part an.Figure [] d) ++ parts_of true n ts)
      (ap (λ r. flow.blocks_of false (titled_of an.FigureCaption r n content)) (sym rich) ∙ e)))

  pub figure-gives : (ts : Simples) (d : Blocks) → is_rich ≡ true → is_filled d ≡ true
      → has_caption d ≡ true
      → AreInFigure is_rich n ts d
      → GivesBlock is_rich n (made id role.Figure [] (more (text (line_feed ∷ [])) ts))
      (documents.element an.Figure [] d)
  figure-gives ts d rich filled some all =
      let content : Simples = more (text (line_feed ∷ [])) ts in
      let within : IsInside (titled_of an.FigureCaption is_rich n) content d =
      lines-inside (titled_of an.FigureCaption is_rich n) (titled-parts is_rich n an.FigureCaption) ts d all.given in
      record {
        sound = sound-element id role.Figure [] content (lines_in d) refl refl within.sound;
        spent = spend-element (weight_in d) id role.Figure (facts_of content) [] content refl within.spent;
        kind = refl;
        untitled = refl;
        lean = heavy-tree refl refl (λ r. within.shows ∙ caption-black d some) within.unseen within.first;
        waits = within.waits;
        led = λ ids e. false-true e;
        gives = λ mode w done h may us.
            ap (fed_all w) (figure-parts (facts_of content) (local_all [] content) us d rich filled
            (captions-local [] content ∙ (all.captioned ∙ some)) within.written.gives)
            ∙ ap (λ v. fed_all v (parts_of is_rich n us)) (apart-fed mode w done h
            (documents.element an.Figure [] d));
      }
