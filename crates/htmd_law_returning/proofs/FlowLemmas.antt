-- What blocks give one after another: each one begins where another one ends.
use Rattle.std.proofs.Common.{◌≡◌, ℕ, suc, Bool, true, false, ◌&&◌, cond, List, [], ◌∷◌, ◌++◌}
use Rattle.std.proofs.Common.{refl, ◌≤◌}
use Rattle.std.proofs.Common.{ap, ◌∙◌, Option, subst}
use Rattle.std.proofs.Common.{sym}
use Rattle.std.proofs.Common.{◌||◌}
use Rattle.std.specs.Prelude.{nat_le}
use Rattle.std.proofs.lemmas.List.{append-nil}
use Rattle.std.proofs.lemmas.List.Sums.{fold-append}
use Rattle.htmd_lexical.specs.AttributePairs.{AttributePair}
use Rattle.htmd_lexical.specs.Characters.{line_feed}
use Rattle.htmd_document.specs.DocumentLimits.{most_nested}
use Rattle.htmd_document_of_tree.specs.Limits.{characters}
use Rattle.htmd_document.specs.Documents.{Block, Blocks, no_blocks, block, paragraph, heading, quote, thematic_break}
use Rattle.htmd_document.specs.Documents.{code_block}
use Rattle.htmd_document.specs.Documents as documents
use Rattle.htmd_document.specs.declared.document.BlockElement.TheVariants as name
use Rattle.htmd_document.specs.Documents.{blocks_of}
use Rattle.htmd_document.specs.TightItems.{is_filled}
use Rattle.htmd_document.specs.TightItems.{is_paragraph}
use Rattle.htmd_flow.specs.Contexts.{in_one_line, apart}
use Rattle.htmd_flow.specs.declared.paragraphs.Met.TheVariants as met
use Rattle.htmd_flow.specs.Flows.{node_of, nodes_of, flow_all}
use Rattle.htmd_flow.specs.Flows as flow
use Rattle.htmd_flow.specs.Languages.{language_of_block}
use Rattle.htmd_flow.specs.Paragraphs.{Writing, broken_off, ended, fed, fed_all, line_in, is_boxed_item}
use Rattle.htmd_flow.specs.Parts.{run, edge, whole}
use Rattle.htmd_flow.specs.RichNodes.{element_part, open_attribute}
use Rattle.htmd_shown.specs.Roles as roles
use Rattle.htmd_shown.specs.declared.role.Role.TheVariants as role
use Rattle.htmd_shown.specs.declared.facts.Facts.{Facts}
use Rattle.htmd_shown.specs.Facts.{made, facts_of}
use Rattle.htmd_shown.specs.SimpleTrees.{Simple, Simples, text, element, none, more}
use Rattle.htmd_document.specs.NormalInlines.{are_anchors}
use Rattle.htmd_document_of_tree.specs.Seen.{all_seen}
use Rattle.htmd_law_returning.specs.LastingAnchors.{are_unseen}
use Rattle.htmd_law_returning.specs.LastingAnchors.{title_keeps, heading_keeps}
use Rattle.htmd_law_returning.proofs.LocalAnchors.{come_first}
use Rattle.std.proofs.lemmas.Bool.{and_from}
use Rattle.htmd_law_returning.proofs.BareLemmas.{is_bare, has_no_name}
use Rattle.htmd_document.specs.Documents.{Inlines, no_inlines, inline}
use Rattle.htmd_document.specs.NormalInlines.{has_none, are_normal}
use Rattle.htmd_flow.specs.Nesting.{Wrapper}
use Rattle.htmd_shown.specs.AllTexts.{with_line_feeds, without_last_line_feed}
use Rattle.htmd_shown.specs.Spaces.{no_gap, is_blank_text}
use Rattle.htmd_shown.specs.Kinds.{has}
use Rattle.htmd_law_returning.specs.SettledDocuments.{behind_box, weight_among, weight_of_block, weight_in}
use Rattle.htmd_law_returning.specs.SettledDocuments.{said_among, said_of_block, said_in}
use Rattle.htmd_law_returning.proofs.LineParts.{parts_in, Numbers, is_rising}
use Rattle.htmd_law_returning.proofs.LineEntryLemmas.{IsFed, IsEntry, clean-placed}
use Rattle.htmd_law_returning.proofs.InlineLemmas.{free-none}
use Rattle.htmd_law_returning.proofs.LineLemmas.{begin-all}
use Rattle.htmd_law_returning.proofs.LeanTrees.{IsLeanTree, AreLeanTrees, heavy-tree, paragraph-lean, break-lean}
use Rattle.htmd_law_returning.proofs.LeanTrees.{quote-lean, is_black}
use Rattle.htmd_law_returning.proofs.LineFactLemmas.{AreLineTrees}
use Rattle.htmd_law_returning.proofs.LineFormLemmas.{IsWhole}
use Rattle.htmd_law_returning.proofs.NestLemmas.{whole-hole}
use Rattle.htmd_law_returning.proofs.RunLemmas.{in_line}
use Rattle.htmd_law_returning.proofs.FormatLemmas.{place}
use Rattle.htmd_law_returning.proofs.StartLemmas.{clean, has_task, is_boxed, May, false-true, true-false}
use Rattle.htmd_law_returning.proofs.StartLemmas.{Mode, in_blocks, in_item, one_line, is_flat_mode}
use Rattle.htmd_law_returning.proofs.CostLemmas.{Spends, AllSpend, spend-element, spend-none, spend-more}
use Rattle.htmd_law_returning.proofs.CostLemmas.{spend-longer}
use Rattle.htmd_law_returning.proofs.HeldLemmas.{are_held}
use Rattle.htmd_law_returning.proofs.ReadyLemmas.{here, parts_of, no-box, IsReady, line-ready, edge-fed, whole-fed}
use Rattle.htmd_law_returning.proofs.ReadyLemmas.{all-done, ready-flat, apart-fed, text-parts}
use Rattle.htmd_law_returning.specs.LastingAnchors.{line, lines_of, lines_in}
use Rattle.htmd_law_returning.proofs.LocalAnchors.{local, local_all, pending, pending_all, are_led}
use Rattle.htmd_law_returning.proofs.SoundTrees.{IsSoundLine}
use Rattle.htmd_law_returning.proofs.SoundBlocks.{IsSound, AreSound, sound-line}
use Rattle.htmd_law_returning.proofs.SoundNodes.{sound-element, sound-heading}
use Rattle.htmd_law_returning.proofs.SoundNodes.{sound-bare}
use Rattle.htmd_law_returning.proofs.PlacedTrees.{bare-local}
use Rattle.htmd_law_returning.proofs.KindLemmas.{line-local}
use Rattle.htmd_shown.specs.declared.role.Role.{Role}
use Rattle.htmd_document.specs.declared.document.BlockElement.{BlockElement}
use Rattle.htmd_flow.specs.Parts.{Part}
use Rattle.htmd_shown.specs.Attributes.{is_filled as is_filled_text}
use Rattle.htmd_shown.specs.Marks.{letters}
use Rattle.htmd_shown.specs.Showings.{code_shows, show}
use Rattle.htmd_law_returning.proofs.AnchorLeaves.{places}
use Rattle.htmd_law_returning.proofs.LocalAnchors.{waits as waits_behind, put_if}
use Rattle.htmd_law_returning.proofs.AloneLemmas.{alone, put-parts, led-fed}
use Rattle.htmd_law_returning.proofs.ReadyLemmas.{none-parts}
use Rattle.htmd_law_returning.proofs.SoundBlocks.{is_coded}

-- ---- what elements give

module _ (is_rich : Bool) (n id : ℕ) where
  pub paragraph-parts : (facts : Facts) (content ts : Simples)
      → parts_of is_rich n (more (element id role.Paragraph facts [] content) ts)
      ≡ apart (parts_of is_rich n content) ++ parts_of is_rich n ts
  unfolding node_of
  paragraph-parts facts content ts = refl

  pub heading-parts : (level : ℕ) (facts : Facts) (content ts : Simples)
      → parts_of is_rich n (more (element id (role.Heading level) facts [] content) ts)
      ≡ apart (flow.heading_of level (flow.line_of (flow_all (nodes_of content) (place true is_rich n []))))
      ++ parts_of is_rich n ts
  unfolding node_of
  heading-parts level facts content ts =
      ap (λ c. apart (flow.heading_of level (flow.line_of (flow_all (nodes_of content) (in_one_line c))))
      ++ parts_of is_rich n ts)
      (same-context (facts.shows_sign && false))
    where
      same-context : (b : Bool) → cond b (here is_rich n) (here is_rich n) ≡ here is_rich n
      same-context true = refl
      same-context false = refl

  pub break-parts : (ts : Simples)
      → parts_of is_rich n (more (made id role.ThematicBreak [] none) ts)
      ≡ whole thematic_break ∷ parts_of is_rich n ts
  unfolding node_of
  break-parts ts = refl

  pub pre-parts : (own : ℕ) (attributes : List AttributePair) (t s : List ℕ) (language : Option (List ℕ))
      (ts : Simples)
      → is_blank_text t ≡ false → with_line_feeds t ≡ t → without_last_line_feed t ≡ s
      → language_of_block [] (made own role.Code attributes (more (text t) none) ∷ []) [] ≡ language
      → parts_of is_rich n (more (made id role.Preformatted []
      (more (made own role.Code attributes (more (text t) none)) none)) ts)
      ≡ edge ∷ whole (code_block language s) ∷ edge ∷ parts_of is_rich n ts
  unfolding node_of
  pre-parts own attributes t s language ts black feeds cut named =
      let content : Simples = more (made own role.Code attributes (more (text t) none)) none in
      ap (λ u. flow.text_in_lines [] content u (here is_rich n) ++ parts_of is_rich n ts)
      (ap with_line_feeds (append-nil (t ++ []) ∙ append-nil t) ∙ feeds)
      ∙ rw (black, named, cut) refl

  pub quote-parts : (facts : Facts) (content ts : Simples) (d : Blocks) → nat_le most_nested n ≡ false
      → is_filled d ≡ true
      → flow.blocks_of false (parts_of is_rich (suc n) content) ≡ d
      → parts_of is_rich n (more (element id role.BlockQuote facts [] content) ts)
      ≡ edge ∷ whole (quote d) ∷ edge ∷ parts_of is_rich n ts
  unfolding node_of
  quote-parts facts content ts no_blocks h filled e = false-true filled
  quote-parts facts content ts (block b bs) h filled e = rw h (rw e refl)

-- ---- lines

entry-clean : (flat : Mode) (done : List Block) → IsEntry flat done (λ xs. xs) [] (clean flat done) []
entry-clean in_blocks done around c y e = refl
entry-clean in_item done around c y e = refl
entry-clean one_line done around c y e = refl

pub line-fed : (flat : Mode) (done : List Block) (ns : Numbers) (xs : Inlines) → IsWhole xs → are_normal false [] xs
    ≡ true
    → are_held xs ≡ true → is_rising 0 ns xs ≡ true
    → IsFed flat done (λ ys. ys) [] whole-hole (clean flat done) (parts_in [] ns xs) xs
line-fed flat done ns xs ends normal settled rise =
    begin-all flat done xs false ns 0 (λ ys. ys) [] whole-hole [] (clean flat done) [] (entry-clean flat done)
    (λ first. clean-placed flat done) free-none (λ g d r same o ms. refl) ends normal settled rise

-- the line stands where a paragraph begins
abbrev pub IsLineFed : Mode → List Block → Numbers → Inlines → Type 0
IsLineFed mode done ns xs = IsFed mode done (λ ys. ys) [] whole-hole (clean mode done) (parts_in [] ns xs) xs

-- the paragraph ends
pub paragraph-ends : (mode : Mode) (xs : Inlines) (done : List Block) (ms : List Wrapper) (k : Bool) → has_none xs
    ≡ false
    → record (ended (in_line mode done xs ms k no_gap)) { met = met.Nothing } ≡ clean mode
    (done ++ paragraph xs ∷ [])
paragraph-ends mode no_inlines done ms k h = true-false h
paragraph-ends mode (inline x xs) done ms true h = refl
paragraph-ends mode (inline x xs) done ms false h = refl

pub line-end : (mode : Mode) (xs : Inlines) (done : List Block) (ms : List Wrapper) (k : Bool) → is_flat_mode mode
    ≡ false
    → has_none xs ≡ false
    → fed (in_line mode done xs ms k no_gap) edge ≡ clean mode (done ++ paragraph xs ∷ [])
line-end mode xs done ms k free h =
    let w : Writing = in_line mode done xs ms k no_gap in
    ap (λ b. cond b (broken_off w) (cond (is_boxed_item w) w (record (ended w) { met = met.Nothing }))) free
    ∙ (ap (λ b. cond b w (record (ended w) { met = met.Nothing })) (no-box w refl)
    ∙ paragraph-ends mode xs done ms k h)

-- the one line
pub line-left : (xs : Inlines) (ms : List Wrapper) (k : Bool) → line_in (in_line one_line [] xs ms k no_gap) ≡ xs
line-left xs ms true = refl
line-left xs ms false = refl

some-heading : (level : ℕ) (xs : Inlines) → has_none xs ≡ false
    → flow.heading_of level xs ≡ whole (heading level xs) ∷ []
some-heading level no_inlines h = true-false h
some-heading level (inline x xs) h = refl

abbrev pub is_code : Block → Bool
is_code (code_block language s) = true
is_code b = false

-- what an element around it takes otherwise than its other nodes
abbrev pub is_item_or_title : Role → Bool
is_item_or_title r = roles.is_item r || (roles.is_summary r || roles.is_figure_caption r)

-- what a code block gives with anchors before it
pub record IsLed (is_rich : Bool) (n : ℕ) (tree : Simple) (b : Block) (ids : List (List ℕ)) : Type 0 where
  pub coded : is_coded tree ≡ true
  pub waits : pending ids tree ≡ []
  pub gives : (mode : Mode) (w : Writing) (done : List Block) → IsReady mode w done → (ts : Simples)
      → fed_all w (parts_of is_rich n (more (local ids tree) ts))
      ≡ fed_all (clean mode (done ++ (alone ids ++ b ∷ []))) (parts_of is_rich n ts)

-- the block that an element gives, where no anchor waits before it
pub record GivesBlock (is_rich : Bool) (n : ℕ) (tree : Simple) (b : Block) : Type 0 where
  pub sound : IsSound tree (lines_of b)
  pub spent : Spends (weight_of_block b) (said_of_block b) tree
  pub kind : has roles.is_paragraph tree ≡ is_paragraph b
  pub untitled : has is_item_or_title tree ≡ false
  pub lean : IsLeanTree is_rich b tree
  pub waits : pending [] tree ≡ []
  -- anchors stand alone before a code block
  pub led : (ids : List (List ℕ)) → is_code b ≡ true → IsLed is_rich n tree b ids
  pub gives : (mode : Mode) (w : Writing) (done : List Block) → IsReady mode w done → May (is_boxed b) mode done
      → (ts : Simples)
      → fed_all w (parts_of is_rich n (more (local [] tree) ts))
      ≡ fed_all (clean mode (done ++ b ∷ [])) (parts_of is_rich n ts)

-- the block that an element without targets gives
pub record GivesBare (is_rich : Bool) (n : ℕ) (tree : Simple) (b : Block) : Type 0 where
  pub bare : is_bare tree ≡ true
  pub spent : Spends (weight_of_block b) (said_of_block b) tree
  pub kind : has roles.is_paragraph tree ≡ is_paragraph b
  pub untitled : has is_item_or_title tree ≡ false
  pub lean : IsLeanTree is_rich b tree
  pub gives : (mode : Mode) (w : Writing) (done : List Block) → IsReady mode w done → May (is_boxed b) mode done
      → (ts : Simples)
      → fed_all w (parts_of is_rich n (more tree ts))
      ≡ fed_all (clean mode (done ++ b ∷ [])) (parts_of is_rich n ts)

pub bare-gives : (is_rich : Bool) (n : ℕ) (tree : Simple) (b : Block) → GivesBare is_rich n tree b
    → lines_of b ≡ [] → is_code b ≡ false → GivesBlock is_rich n tree b
bare-gives is_rich n tree b own none_in no_code =
    let stays = bare-local tree own.bare in
    record {
      sound = subst (λ ls. IsSound tree ls) (sym none_in) (sound-bare tree own.bare);
      spent = own.spent;
      kind = own.kind;
      untitled = own.untitled;
      lean = own.lean;
      waits = stays.1;
      led = λ ids e. true-false (sym e ∙ no_code);
      gives = λ mode w done h may ts.
          ap (λ t. fed_all w (parts_of is_rich n (more t ts))) stays.0 ∙ own.gives mode w done h may ts;
    }

module _ (is_rich : Bool) (n id : ℕ) where
  pub paragraph-gives : (content : Simples) (ns : Numbers) (xs : Inlines) → IsSoundLine xs content
      → AllSpend (weight_among xs) (said_among xs) content → pending_all [] content ≡ []
      → ((w : Writing) → fed_all w (parts_of is_rich n (local_all [] content)) ≡ fed_all w (parts_in [] ns xs))
      → has_none xs ≡ false → (has_task xs ≡ false → AreLineTrees xs content)
      → show false content ≡ true → are_anchors xs ≡ false
      → (heading_keeps (behind_box xs) ≡ true → come_first content ≡ true)
      → ((mode : Mode) (done : List Block) → May (has_task xs) mode done → IsLineFed mode done ns xs)
      → GivesBlock is_rich n (made id role.Paragraph [] content) (paragraph xs)
  paragraph-gives content ns xs sound spent waits e some plain shown other first line_of = record {
    sound = sound-element id role.Paragraph [] content (line false xs ∷ []) refl refl
        (sound-line xs content sound);
    spent = spend-element (weight_among xs) id role.Paragraph (facts_of content) [] content refl spent;
    kind = refl;
    untitled = refl;
    lean = paragraph-lean is_rich id xs content plain shown other first;
    waits = waits;
    led = λ ids e. false-true e;
    gives = λ mode w done h may ts.
        let fed_line = line_of mode done may in
        let inside : List Part = parts_of is_rich n (local_all [] content) in
        ap (fed_all w) (paragraph-parts is_rich n id (facts_of content) (local_all [] content) ts)
        ∙ (fold-append fed w (apart inside) (parts_of is_rich n ts)
        ∙ ap (λ v. fed_all v (parts_of is_rich n ts))
        (fold-append fed (fed w edge) inside (edge ∷ [])
        ∙ ap (λ v. fed v edge)
        (ap (λ v. fed_all v inside) (edge-fed mode w done h)
        ∙ (e (clean mode done) ∙ fed_line.is))
        ∙ line-end mode xs done fed_line.inner fed_line.last (ready-flat mode w done h) some));
  }

  pub heading-gives : (level : ℕ) (content : Simples) (ns : Numbers) (xs : Inlines) → IsSoundLine xs content
      → are_led content ≡ true → AllSpend (weight_among xs) (said_among xs) content
      → pending_all [] content ≡ []
      → ((w : Writing) → fed_all w (flow_all (nodes_of (local_all [] content)) (place true is_rich n []))
      ≡ fed_all w (parts_in [] ns xs))
      → IsWhole xs → show true content ≡ true
      → are_normal false [] xs ≡ true → are_held xs ≡ true → is_rising 0 ns xs ≡ true
      → GivesBlock is_rich n (made id (role.Heading level) [] content) (heading level xs)
  heading-gives level content ns xs sound led spent waits e ends shown normal settled rise = record {
    sound = sound-heading id level xs content led sound;
    spent = spend-element (weight_among xs) id (role.Heading level) (facts_of content) [] content refl spent;
    kind = refl;
    untitled = refl;
    lean = heavy-tree refl refl (λ r. shown) (λ k. false-true k) (λ k. refl);
    waits = waits;
    led = λ ids e. false-true e;
    gives = λ mode w done h may ts.
        let fed_line = line-fed one_line [] ns xs ends normal settled rise in
        let same : flow.line_of (flow_all (nodes_of (local_all [] content)) (place true is_rich n [])) ≡ xs =
        ap line_in (e (clean one_line []) ∙ fed_line.is) ∙ line-left xs fed_line.inner fed_line.last in
        ap (fed_all w) (heading-parts is_rich n id level (facts_of content) (local_all [] content) ts
        ∙ (ap (λ ys. apart (flow.heading_of level ys) ++ parts_of is_rich n ts) same
        ∙ ap (λ ps. apart ps ++ parts_of is_rich n ts) (some-heading level xs ends.some)))
        ∙ ap (λ v. fed_all v (parts_of is_rich n ts)) (apart-fed mode w done h (heading level xs));
  }

  pub break-gives : GivesBare is_rich n (made id role.ThematicBreak [] none) thematic_break
  break-gives = record {
    bare = refl;
    spent = spend-element 0 id role.ThematicBreak (facts_of none) [] none refl spend-none;
    kind = refl;
    untitled = refl;
    lean = break-lean is_rich id;
    gives = λ mode w done h may ts.
        ap (fed_all w) (break-parts is_rich n id ts)
        ∙ ap (λ v. fed_all v (parts_of is_rich n ts)) (whole-fed mode w done h thematic_break);
  }

  -- a code block of this text, and with anchors before it
  abbrev pub pre_of : ℕ → List AttributePair → List ℕ → Simple
  pre_of own attributes t =
      made id role.Preformatted [] (more (made own role.Code attributes (more (text t) none)) none)

  pre-led : (own : ℕ) (attributes : List AttributePair) (t : List ℕ) (b : Block)
      → code_shows (more (made own role.Code attributes (more (text t) none)) none) ≡ true
      → ((ts : Simples) → parts_of is_rich n (more (pre_of own attributes t) ts)
      ≡ edge ∷ whole b ∷ edge ∷ parts_of is_rich n ts)
      → (ids : List (List ℕ)) → IsLed is_rich n (pre_of own attributes t) b ids
  pre-led own attributes t b shows parts [] = record {
    coded = shows;
    waits = ap (λ x. waits_behind x []) shows;
    gives = λ mode w done h ts.
        ap (λ x. fed_all w (parts_of is_rich n (more (put_if x [] (pre_of own attributes t)) ts))) shows
        ∙ (ap (fed_all w) (parts ts) ∙ ap (λ v. fed_all v (parts_of is_rich n ts)) (apart-fed mode w done h b));
  }
  pre-led own attributes t b shows parts (i ∷ ids) = record {
    coded = shows;
    waits = ap (λ x. waits_behind x (i ∷ ids)) shows;
    gives = λ mode w done h ts.
        let content : Simples = more (made own role.Code attributes (more (text t) none)) none in
        ap (λ x. fed_all w (parts_of is_rich n (more (put_if x (i ∷ ids) (pre_of own attributes t)) ts))) shows
        ∙ (ap (fed_all w) (put-parts is_rich n (i ∷ ids) id role.Preformatted (facts_of content) [] content ts
        ∙ ap (λ ps. (apart (places (i ∷ ids)) ++ ps) ++ parts_of is_rich n ts)
        (parts none ∙ ap (λ ps. edge ∷ whole b ∷ edge ∷ ps) (none-parts is_rich n 0)))
        ∙ led-fed mode w done i ids b (parts_of is_rich n ts) h);
  }

  pub pre-gives : (own : ℕ) (attributes : List AttributePair) (t s : List ℕ) (language : Option (List ℕ))
      → has_no_name attributes ≡ true → is_blank_text t ≡ false → is_filled_text (letters t) ≡ true
      → with_line_feeds t ≡ t
      → without_last_line_feed t ≡ s → characters s ≤ characters t
      → language_of_block [] (made own role.Code attributes (more (text t) none) ∷ []) [] ≡ language
      → GivesBlock is_rich n (pre_of own attributes t) (code_block language s)
  pre-gives own attributes t s language nameless black letters_there feeds cut longer named =
      let inner : Simples = more (text t) none in
      let code_tree : Simple = made own role.Code attributes inner in
      let content : Simples = more code_tree none in
      let bare : is_bare (pre_of own attributes t) ≡ true = ap (λ b. (b && true) && true) nameless in
      let shows : code_shows content ≡ true =
      ap is_filled_text (append-nil (letters t ++ []) ∙ append-nil (letters t)) ∙ letters_there in
      let before = pre-led own attributes t (code_block language s) shows
      (λ ts. pre-parts is_rich n id own attributes t s language ts black feeds cut named) in
      let first = before [] in
      record {
        sound = sound-bare (pre_of own attributes t) bare;
        spent =
            spend-element 0 id role.Preformatted (facts_of content) [] content refl
            (spend-more 0 0 code_tree none (spend-element 0 own role.Code (facts_of inner) attributes inner refl
            (spend-more 0 0 (text t) none (spend-longer s t longer) spend-none)) spend-none);
        kind = refl;
        untitled = refl;
        lean = heavy-tree refl refl (λ r. shows) (λ k. false-true k) (λ k. refl);
        waits = first.waits;
        led = λ ids e. before ids;
        gives = λ mode w done h may ts. first.gives mode w done h ts;
      }

  pub quote-gives : (content : Simples) (d : Blocks) → nat_le most_nested n ≡ false → is_filled d ≡ true
      → is_black d ≡ true
      → AreSound content (lines_in d) → AllSpend (weight_in d) (said_in d) content
      → AreLeanTrees is_rich d content → (title_keeps d ≡ true → come_first content ≡ true)
      → (are_unseen d ≡ true → all_seen content ≡ 0) → pending_all [] content ≡ []
      → flow.blocks_of false (parts_of is_rich (suc n) (local_all [] content)) ≡ d
      → GivesBlock is_rich n (made id role.BlockQuote [] content) (quote d)
  quote-gives content d free filled black sound spent lean first unseen waits e = record {
    sound = sound-element id role.BlockQuote [] content (lines_in d) refl refl sound;
    spent = spend-element (weight_in d) id role.BlockQuote (facts_of content) [] content refl spent;
    kind = refl;
    untitled = refl;
    lean = quote-lean is_rich id d content black lean first unseen;
    waits = waits;
    led = λ ids e. false-true e;
    gives = λ mode w done h may ts.
        ap (fed_all w) (quote-parts is_rich n id (facts_of content) (local_all [] content) ts d free filled e)
        ∙ ap (λ v. fed_all v (parts_of is_rich n ts)) (apart-fed mode w done h (quote d));
  }

-- ---- elements

-- the blocks between the tags of one
pub blocks-inside : (is_rich : Bool) (n : ℕ) (ts : Simples) (bs : List Block)
    → ((w : Writing) → IsReady in_blocks w []
    → IsReady in_blocks (fed_all w (parts_of is_rich n (local_all [] ts))) bs)
    → flow.blocks_of false (parts_of is_rich n (local_all [] (more (text (line_feed ∷ [])) ts))) ≡ blocks_of bs
blocks-inside is_rich n ts bs ready =
    let start : Writing = fed (clean in_blocks []) (run (line_feed ∷ []) [] false) in
    ap (λ us. flow.blocks_of false (parts_of is_rich n us)) (line-local ts)
    ∙ ap (λ ps. flow.blocks_of false ps) (text-parts is_rich n 0 (line_feed ∷ []) (local_all [] ts))
    ∙ ap blocks_of (all-done in_blocks (fed_all start (parts_of is_rich n (local_all [] ts))) bs
    (ready start (line-ready in_blocks [] refl)))

-- the parts of nodes whose titles are elements of this name
abbrev pub titled_of : BlockElement → Bool → ℕ → Simples → List Part
titled_of title is_rich n ts = flow.titled title (nodes_of ts) (here is_rich n)

module _ (is_rich : Bool) (n id : ℕ) where
  details-parts : (facts : Facts) (attributes : List AttributePair) (content ts : Simples) (d : Blocks)
      → is_rich ≡ true
      → is_filled d ≡ true → flow.blocks_of false (titled_of name.Summary is_rich n content) ≡ d
      → parts_of is_rich n (more (element id role.Details facts attributes content) ts)
      ≡ edge ∷ whole (documents.element name.Details (open_attribute attributes) d) ∷ edge
      ∷ parts_of is_rich n ts
  unfolding node_of
  details-parts facts attributes content ts no_blocks rich filled e = false-true filled
  details-parts facts attributes content ts (block b bs) rich filled e =
      rw rich
      (ap (λ d. apart (element_part name.Details (open_attribute attributes) d) ++ parts_of true n ts)
      (ap (λ r. flow.blocks_of false (titled_of name.Summary r n content)) (sym rich) ∙ e))

  pub details-gives : (attributes : List AttributePair) (content : Simples) (d : Blocks) → is_rich ≡ true
      → has_no_name attributes ≡ true → is_filled d ≡ true
      → AreSound content (lines_in d) → AllSpend (weight_in d) (said_in d) content
      → pending_all [] content ≡ [] → show false content ≡ true
      → (title_keeps d ≡ true → come_first content ≡ true)
      → (are_unseen d ≡ true → all_seen content ≡ 0)
      → flow.blocks_of false (titled_of name.Summary is_rich n (local_all [] content)) ≡ d
      → GivesBlock is_rich n (made id role.Details attributes content)
      (documents.element name.Details (open_attribute attributes) d)
  details-gives attributes content d rich nameless filled sound spent waits shown first unseen e = record {
    sound = sound-element id role.Details attributes content (lines_in d) refl nameless sound;
    spent = spend-element (weight_in d) id role.Details (facts_of content) attributes content refl spent;
    kind = refl;
    untitled = refl;
    lean = heavy-tree refl refl (λ r. shown) unseen
        (λ k. and_from (has_no_name attributes) (come_first content) nameless (first k));
    waits = waits;
    led = λ ids e. false-true e;
    gives = λ mode w done h may ts.
        ap (fed_all w) (details-parts (facts_of content) attributes (local_all [] content) ts d rich filled e)
        ∙ ap (λ v. fed_all v (parts_of is_rich n ts))
        (apart-fed mode w done h (documents.element name.Details (open_attribute attributes) d));
  }
