-- What has come back: blocks one after another.
use Rattle.std.proofs.Common.{◌≡◌, ℕ, ◌+◌, Bool, true, false, ◌&&◌, List, []}
use Rattle.std.proofs.Common.{◌∷◌, ◌++◌, refl, sym, ap, ◌∙◌}
use Rattle.std.proofs.Common.{subst, Option, Some}
use Rattle.std.specs.List.{list_any}
use Rattle.std.proofs.lemmas.List.{append_assoc, append-nil}
use Rattle.htmd_lexical.specs.Characters.{line_feed}
use Rattle.htmd_lexical.specs.AttributePairs.{AttributePair}
use Rattle.htmd_values.specs.ValueTrees as value
use Rattle.htmd_nodes.specs.NumberedTrees.{NumberedForest, value_forest}
use Rattle.htmd_nodes.specs.NumberedTrees as page
use Rattle.htmd_document.specs.TightItems as tight
use Rattle.htmd_document.specs.Documents as documents
use Rattle.htmd_flow.specs.Paragraphs.{Writing, fed, fed_all}
use Rattle.htmd_flow.specs.Parts.{Part, run}
use Rattle.htmd_flow.specs.Lists.{holds_paragraph}
use Rattle.htmd_flow.specs.Levels.{list_of}
use Rattle.htmd_shown.specs.SimpleTrees.{Simple, Simples, text, none, more}
use Rattle.htmd_shown.specs.Kinds.{has}
use Rattle.htmd_shown.specs.Roles.{is_paragraph}
use Rattle.std.proofs.Common.{◌||◌}
use Rattle.htmd_document_of_tree.specs.Seen.{all_seen}
use Rattle.htmd_law_returning.specs.LastingAnchors.{are_unseen}
use Rattle.htmd_law_returning.specs.LastingAnchors.{title_keeps}
use Rattle.htmd_law_returning.proofs.FirstTargets.{first-more, unseen-more}
use Rattle.htmd_law_returning.proofs.LocalAnchors.{come_first}
use Rattle.htmd_law_returning.specs.SettledDocuments.{weight_in, weight_of_block}
use Rattle.htmd_law_returning.specs.SettledDocuments.{said_in, said_of_block}
use Rattle.htmd_law_returning.proofs.TaskLemmas.{may-always}
use Rattle.htmd_law_returning.proofs.BlockTrees.{trees_in}
use Rattle.htmd_law_returning.proofs.OrderLemmas.{is_ordered}
use Rattle.htmd_law_returning.proofs.StandLemmas.{Stands}
use Rattle.htmd_law_returning.proofs.StartLemmas.{in_blocks, clean}
use Rattle.htmd_law_returning.proofs.StartLemmas.{begins_boxed, May}
use Rattle.htmd_law_returning.proofs.StartLemmas.{Mode}
use Rattle.htmd_law_returning.proofs.LeanTrees.{AreLeanTrees, none-lean, line-lean, more-lean}
use Rattle.htmd_law_returning.proofs.PageLemmas.{from-none}
use Rattle.htmd_law_returning.proofs.PageLemmas.{shown_of, line-shown}
use Rattle.htmd_law_returning.proofs.PageLemmas.{none-shown}
use Rattle.htmd_law_returning.proofs.CostLemmas.{AllSpend, spend-none, spend-more, spend-text}
use Rattle.htmd_law_returning.proofs.CostLemmas.{spend-past}
use Rattle.htmd_law_returning.proofs.ReadyLemmas.{IsReady, line-ready, none-parts, parts_of, ready-flat, text-parts}
use Rattle.htmd_law_returning.proofs.FlowLemmas.{GivesBlock}
use Rattle.htmd_law_returning.specs.LastingAnchors.{lines_of, lines_in}
use Rattle.htmd_law_returning.proofs.LocalAnchors.{local_all, pending_all}
use Rattle.htmd_law_returning.proofs.SoundBlocks.{AreSound, sound-none}
use Rattle.htmd_law_returning.proofs.SoundNodes.{sound-text, sound-more}
use Rattle.htmd_law_returning.proofs.KindLemmas.{node-local, node-waits}
use Rattle.htmd_document.specs.LoneAnchors.{stand_alone}
use Rattle.htmd_law_returning.proofs.AloneLemmas.{alone}
use Rattle.htmd_law_returning.proofs.FlowLemmas.{is_code}
use Rattle.htmd_law_returning.proofs.StartLemmas.{is_flat_mode, false-true}
use Rattle.htmd_law_returning.proofs.SoundBlocks.{begins_coded, is_gap}

abbrev pub list_in : documents.Blocks → List documents.Block
list_in documents.no_blocks = []
list_in (documents.block b bs) = b ∷ list_in bs

pub list-in : (bs : documents.Blocks) → documents.blocks_of (list_in bs) ≡ bs
list-in documents.no_blocks = refl
list-in (documents.block b bs) = ap (documents.block b) (list-in bs)

-- ---- blocks

-- what follows a block
abbrev pub behind : (line : ℕ) → NumberedForest → NumberedForest
behind line rest = page.more (page.text line (line_feed ∷ [])) rest

-- a code block is first exactly where such a block is
pub code-first : (b : documents.Block) (d : documents.Blocks)
    → stand_alone false (documents.block b d) ≡ true → is_code b ≡ true
code-first (documents.paragraph xs) d h = false-true h
code-first (documents.heading level xs) d h = false-true h
code-first (documents.code_block language s) d h = refl
code-first (documents.quote content) d h = false-true h
code-first documents.thematic_break d h = false-true h
code-first (documents.list start is_tight items) d h = false-true h
code-first (documents.table alignments header rows) d h = false-true h
code-first (documents.element name attributes content) d h = false-true h
code-first (documents.tags s) d h = false-true h

pub no-block : (b : documents.Block) (d : documents.Blocks) → {A : Type 0}
    → documents.block b d ≡ documents.no_blocks → A
no-block b d e = absurd (clash e)
  where
    clash : documents.block b d ≡ documents.no_blocks → ⊥
    clash p = (cc)

module _ (scripting is_rich : Bool) where
  -- what shows after elements before, with so many quotes around, gives these blocks, but for anchors alone at the end,
  -- which are left
  pub record AreReturned (is_end : Bool) (before : Option (List AttributePair)) (f : NumberedForest) (n : ℕ)
      (d : documents.Blocks) : Type 0 where
    pub kept : List documents.Block
    pub left : List (List ℕ)
    pub whole : kept ++ alone left ≡ list_in d
    pub last : is_end ≡ false → left ≡ []
    pub sound : AreSound (shown_of scripting is_rich before f) (lines_in d)
    pub waits : pending_all [] (shown_of scripting is_rich before f) ≡ left
    pub spent : AllSpend (weight_in d) (said_in d) (shown_of scripting is_rich before f)
    pub paragraphs : list_any (has is_paragraph) (list_of (shown_of scripting is_rich before f)) ≡ holds_paragraph d
    pub lean : AreLeanTrees is_rich d (shown_of scripting is_rich before f)
    pub first : title_keeps d ≡ true → come_first (shown_of scripting is_rich before f) ≡ true
    pub unseen : are_unseen d ≡ true → all_seen (shown_of scripting is_rich before f) ≡ 0
    pub ready : (mode : Mode) (w : Writing) (done : List documents.Block) → IsReady mode w done
        → May (begins_boxed d) mode done
        → IsReady mode (fed_all w (parts_of is_rich n (local_all [] (shown_of scripting is_rich before f))))
        (done ++ kept)
    pub nothing : d ≡ documents.no_blocks → shown_of scripting is_rich before f ≡ none
    pub begins : stand_alone false d ≡ true → begins_coded (shown_of scripting is_rich before f) ≡ true
    -- with anchors before a code block
    pub led : (ids : List (List ℕ)) → stand_alone false d ≡ true
        → (pending_all ids (shown_of scripting is_rich before f) ≡ left)
        × ((mode : Mode) (w : Writing) (done : List documents.Block) → IsReady mode w done
        → IsReady mode (fed_all w (parts_of is_rich n (local_all ids (shown_of scripting is_rich before f))))
        (done ++ (alone ids ++ kept)))

  -- the first block, and what stands behind it
  pub record IsFirst (before : Option (List AttributePair)) (f : NumberedForest) (n : ℕ) (b : documents.Block)
      (d : documents.Blocks) : Type 0 where
    pub tree : Simple
    pub attributes : List AttributePair
    pub line : ℕ
    pub rest : NumberedForest
    pub shows : shown_of scripting is_rich before f
        ≡ more tree (shown_of scripting is_rich (Some attributes) (behind line rest))
    pub own : GivesBlock is_rich n tree b
    pub others : Stands (value_forest rest) (trees_in d)
    pub number : ℕ
    pub ordered : is_ordered number rest ≡ true

  pub first-one : (before : Option (List AttributePair)) (f rest : NumberedForest) (n line : ℕ) (tree : Simple)
      (attributes : List AttributePair) (b : documents.Block) (d : documents.Blocks)
      → shown_of scripting is_rich before f ≡ more tree (shown_of scripting is_rich (Some attributes)
      (behind line rest))
      → GivesBlock is_rich n tree b → Stands (value_forest rest) (trees_in d) → (k : ℕ)
      → is_ordered k rest ≡ true → IsFirst before f n b d
  first-one before f rest n line tree attributes b d shows own others k ordered = record {
    tree = tree;
    attributes = attributes;
    line = line;
    rest = rest;
    shows = shows;
    own = own;
    others = others;
    number = k;
    ordered = ordered;
  }

  -- and what comes back there
  pub one-more : (is_end : Bool) (before : Option (List AttributePair)) (f : NumberedForest) (n : ℕ)
      (b : documents.Block) (d after : documents.Blocks) → (first : IsFirst before f n b d)
      → AreReturned is_end (Some first.attributes) first.rest n after → begins_boxed after ≡ false
      → AreReturned is_end before f n (documents.block b after)
  one-more is_end before f n b d after first later plain =
      let rest : NumberedForest = first.rest in
      let line : ℕ = first.line in
      let tree : Simple = first.tree in
      let attributes : List AttributePair = first.attributes in
      let shows = first.shows in
      let own : GivesBlock is_rich n tree b = first.own in
      let ts : Simples = shown_of scripting is_rich (Some attributes) rest in
      let us : Simples = local_all [] ts in
      let is : shown_of scripting is_rich before f ≡ more tree (more (text (line_feed ∷ [])) ts) =
      shows ∙ ap (more tree) (line-shown scripting is_rich (Some attributes) line rest) in
      let v : Mode → List documents.Block → Writing = λ mode done. fed (clean mode done)
      (run (line_feed ∷ []) [] false) in
      let follows : (mode : Mode) (done : List documents.Block) → is_flat_mode mode ≡ false
      → IsReady mode (fed_all (clean mode done) (parts_of is_rich n (more (text (line_feed ∷ [])) us)))
      (done ++ later.kept) =
      λ mode done h.
      subst (λ (u : Writing). IsReady mode u (done ++ later.kept))
      (sym (ap (fed_all (clean mode done)) (text-parts is_rich n 0 (line_feed ∷ []) us)))
      (later.ready mode (v mode done) done (line-ready mode done h)
      (may-always (begins_boxed after) mode done plain)) in
      record {
        kept = b ∷ later.kept;
        left = later.left;
        whole = ap (λ bs. b ∷ bs) later.whole;
        last = later.last;
        sound = subst (λ (us : Simples). AreSound us (lines_of b ++ lines_in after)) (sym is)
            (sound-more tree (more (text (line_feed ∷ [])) ts) (lines_of b) (lines_in after) own.waits own.sound
            (sound-text (line_feed ∷ []) ts (lines_in after) later.sound));
        waits = ap (pending_all []) is ∙ (node-waits [] tree ts own.waits ∙ later.waits);
        spent = subst (λ (us : Simples). AllSpend (weight_of_block b + weight_in after)
            (λ w. said_in after (said_of_block b w)) us)
            (sym is)
            (spend-more (weight_of_block b) (weight_in after) tree (more (text (line_feed ∷ [])) ts) own.spent
            (spend-past (weight_in after) (text (line_feed ∷ [])) ts (spend-text (line_feed ∷ [])) later.spent));
        paragraphs = ap (λ us. list_any (has is_paragraph) (list_of us)) is
            ∙ (ap (λ x. x || list_any (has is_paragraph) (list_of ts)) own.kind
            ∙ ap (λ x. tight.is_paragraph b || x) later.paragraphs);
        lean = subst (λ (us : Simples). AreLeanTrees is_rich (documents.block b after) us) (sym is)
            (more-lean is_rich b after tree (more (text (line_feed ∷ [])) ts) own.lean
            (line-lean is_rich after ts later.lean));
        first = λ e. ap come_first is ∙ first-more b after tree ts own.lean.leads later.sound later.first e;
        unseen = λ e. ap all_seen is ∙ unseen-more b after tree ts own.lean.leads later.unseen e;
        ready = λ mode w done h may.
            subst (λ (u : Writing). IsReady mode u (done ++ b ∷ later.kept))
            (sym (ap (λ us. fed_all w (parts_of is_rich n us))
            (ap (local_all []) is ∙ node-local [] tree ts own.waits)
            ∙ own.gives mode w done h may (more (text (line_feed ∷ [])) us)))
            (subst (λ (bs : List documents.Block). IsReady mode (fed_all (clean mode (done ++ b ∷ []))
            (parts_of is_rich n (more (text (line_feed ∷ [])) us))) bs) (append_assoc done (b ∷ []) later.kept)
            (follows mode (done ++ b ∷ []) (ready-flat mode w done h)));
        nothing = λ e. no-block b after e;
        begins = λ e. ap begins_coded is
            ∙ ap (λ x. x || (is_gap tree && begins_coded (more (text (line_feed ∷ [])) ts)))
            (own.led [] (code-first b after e)).coded;
        led = λ ids e.
            let first = own.led ids (code-first b after e) in (
              ap (pending_all ids) is ∙ (node-waits ids tree ts first.waits ∙ later.waits),
              λ mode w done h.
                  subst (λ (u : Writing). IsReady mode u (done ++ (alone ids ++ b ∷ later.kept)))
                  (sym (ap (λ us. fed_all w (parts_of is_rich n us))
                  (ap (local_all ids) is ∙ node-local ids tree ts first.waits)
                  ∙ first.gives mode w done h (more (text (line_feed ∷ [])) us)))
                  (subst (λ (bs : List documents.Block). IsReady mode
                  (fed_all (clean mode (done ++ (alone ids ++ b ∷ [])))
                  (parts_of is_rich n (more (text (line_feed ∷ [])) us))) bs)
                  (append_assoc done (alone ids ++ b ∷ []) later.kept
                  ∙ ap (λ bs. done ++ bs) (append_assoc (alone ids) (b ∷ []) later.kept))
                  (follows mode (done ++ (alone ids ++ b ∷ [])) (ready-flat mode w done h))),
            );
      }

  pub none-returned : (is_end : Bool) (before : Option (List AttributePair)) (f : NumberedForest) (n : ℕ)
      → Stands (value_forest f) value.none → AreReturned is_end before f n documents.no_blocks
  none-returned is_end before f n e =
      let is : shown_of scripting is_rich before f ≡ none =
      ap (shown_of scripting is_rich before) (from-none f e) ∙ none-shown scripting is_rich before in
      let gives : parts_of is_rich n (local_all [] (shown_of scripting is_rich before f)) ≡ [] =
      ap (λ us. parts_of is_rich n (local_all [] us)) is ∙ none-parts is_rich n 0 in
      record {
        kept = [];
        left = [];
        whole = refl;
        last = λ e. refl;
        sound = subst (λ (us : Simples). AreSound us []) (sym is) sound-none;
        waits = ap (pending_all []) is;
        spent = subst (λ (us : Simples). AllSpend 0 (λ w. w) us) (sym is) spend-none;
        paragraphs = ap (λ us. list_any (has is_paragraph) (list_of us)) is;
        lean = subst (λ (us : Simples). AreLeanTrees is_rich documents.no_blocks us) (sym is)
            (none-lean is_rich);
        first = λ e. ap come_first is;
        unseen = λ e. ap all_seen is;
        ready = λ mode w done h may. subst (λ (ps : List Part). IsReady mode (fed_all w ps) (done ++ [])) (sym gives)
            (subst (λ (bs : List documents.Block). IsReady mode w bs) (sym (append-nil done)) h);
        nothing = λ e. is;
        begins = λ e. false-true e;
        led = λ ids e. false-true e;
      }

  -- where the page goes on no anchors are left
  module _ (before : Option (List AttributePair)) (f : NumberedForest) (n : ℕ) (d : documents.Blocks)
      (all : AreReturned false before f n d) where
    pub none-left : pending_all [] (shown_of scripting is_rich before f) ≡ []
    none-left = all.waits ∙ all.last refl

    all-kept : all.kept ≡ list_in d
    all-kept = sym (append-nil all.kept) ∙ (ap (λ ids. all.kept ++ alone ids) (sym (all.last refl)) ∙ all.whole)

    -- with anchors before a code block
    pub led-ready : (ids : List (List ℕ)) → stand_alone false d ≡ true
        → (pending_all ids (shown_of scripting is_rich before f) ≡ [])
        × ((w : Writing) (done : List documents.Block) → IsReady in_blocks w done
        → IsReady in_blocks (fed_all w (parts_of is_rich n (local_all ids (shown_of scripting is_rich before f))))
        (done ++ (alone ids ++ list_in d)))
    led-ready ids e =
        let own = all.led ids e in (
          own.0 ∙ all.last refl,
          λ w done h. subst (λ bs. IsReady in_blocks (fed_all w (parts_of is_rich n (local_all ids
              (shown_of scripting is_rich before f)))) (done ++ (alone ids ++ bs))) all-kept (own.1 in_blocks w done h),
        )

    pub all-ready : (mode : Mode) (w : Writing) (done : List documents.Block) → IsReady mode w done
        → May (begins_boxed d) mode done
        → IsReady mode (fed_all w (parts_of is_rich n (local_all [] (shown_of scripting is_rich before f))))
        (done ++ list_in d)
    all-ready mode w done h may =
        subst (λ bs. IsReady mode (fed_all w (parts_of is_rich n (local_all [] (shown_of scripting is_rich before f))))
        (done ++ bs)) all-kept (all.ready mode w done h may)
