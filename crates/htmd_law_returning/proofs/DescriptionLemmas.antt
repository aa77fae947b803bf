-- What a list of terms gives, and what they mean.
use Rattle.std.proofs.Common.{◌≡◌, ℕ, Bool, true, false, ◌&&◌, ◌||◌, cond, List, [], ◌∷◌, ◌++◌, refl, sym, ap, ◌∙◌}
use Rattle.std.proofs.Common.{map, fold, length, arith}
use Rattle.std.specs.Prelude.{nat_lt}
use Rattle.std.specs.List.{list_any}
use Rattle.std.specs.Str.{chars}
use Rattle.std.proofs.lemmas.Bool.Decides.{nat_tests}
use Rattle.std.proofs.lemmas.List.{append_assoc, append-nil}
use Rattle.htmd_lexical.specs.Characters.{line_feed}
use Rattle.htmd_document.specs.Documents.{Blocks, no_blocks, block}
use Rattle.htmd_document.specs.Documents as documents
use Rattle.htmd_document.specs.TightItems as tight
use Rattle.htmd_document.specs.declared.document.BlockElement.TheVariants as an
use Rattle.htmd_flow.specs.Contexts.{apart}
use Rattle.htmd_flow.specs.Flows.{node_of, nodes_of, flow_all, terms_of, term_parts}
use Rattle.htmd_flow.specs.Paragraphs.{fed, fed_all, blocks_in}
use Rattle.htmd_flow.specs.Parts.{Part, run, edge, whole}
use Rattle.htmd_flow.specs.RichNodes.{Description, Descriptions, description_with, onto_last_description}
use Rattle.htmd_flow.specs.RichNodes.{with_description, description_element, is_filled_description}
use Rattle.htmd_flow.specs.RichNodes.{described_parts, parts_of_descriptions}
use Rattle.htmd_shown.specs.declared.role.Role.{Role}
use Rattle.htmd_shown.specs.declared.role.Role.TheVariants as role
use Rattle.htmd_shown.specs.Facts.{made, facts_of}
use Rattle.htmd_shown.specs.SimpleTrees.{Simple, Simples, text, element, none, more}
use Rattle.htmd_document_of_tree.specs.Seen.{all_seen}
use Rattle.htmd_law_returning.specs.LastingAnchors.{are_unseen}
use Rattle.htmd_law_returning.specs.LastingAnchors.{title_keeps}
use Rattle.htmd_law_returning.proofs.FirstTargets.{IsLead, first-more, line-first, line-seen-none, unseen-more}
use Rattle.htmd_law_returning.specs.SettledDocuments.{weight_in, said_in, has_filled_element}
use Rattle.htmd_law_returning.proofs.CostLemmas.{Spends, AllSpend, spend-none, spend-more, spend-text, spend-past}
use Rattle.htmd_law_returning.proofs.CostLemmas.{spend-element}
use Rattle.htmd_law_returning.proofs.FlowLemmas.{GivesBlock}
use Rattle.htmd_law_returning.proofs.GivenBlocks.{around-here}
use Rattle.htmd_law_returning.proofs.InsideLemmas.{IsInside, IsWritten}
use Rattle.htmd_document.specs.declared.document.BlockElement.{BlockElement}
use Rattle.htmd_shown.specs.declared.facts.Facts.{Facts}
use Rattle.htmd_law_returning.specs.LastingAnchors.{lines_of, lines_in}
use Rattle.htmd_law_returning.proofs.KeptBlocks.{blocks_keep}
use Rattle.htmd_law_returning.proofs.KindLemmas.{line-local, line-waits, node-local, node-waits}
use Rattle.htmd_law_returning.proofs.LeanTrees.{heavy-tree, black-filled, line-unseen}
use Rattle.htmd_law_returning.proofs.LocalAnchors.{local, local_all, pending, pending_all, come_first}
use Rattle.htmd_law_returning.proofs.SoundBlocks.{IsSound, AreSound, sound-none}
use Rattle.htmd_law_returning.proofs.SoundNodes.{sound-text, sound-more, sound-element, sound-title}
use Rattle.htmd_law_returning.proofs.StartLemmas.{false-true}
use Rattle.htmd_shown.specs.Showings.{shows, show}
use Rattle.htmd_law_returning.proofs.ListFlowLemmas.{list-fed}
use Rattle.htmd_law_returning.proofs.ReadyLemmas.{here, parts_of, all-done, line-ready}
use Rattle.htmd_law_returning.proofs.ReturnedBlocks.{list_in, list-in}
use Rattle.htmd_law_returning.proofs.StartLemmas.{in_blocks, clean}
use lib.Utf8.{encode}

-- ---- descriptions that are begun

some-begun : (ds : List Description) (d : Description) → nat_lt 0 (length (ds ++ d ∷ [])) ≡ true
some-begun [] d = refl
some-begun (e ∷ ds) d = grind (arith, nat_tests)

onto-last : (ds : List Description) (d : Description) (parts : List Part)
    → onto_last_description (ds ++ d ∷ []) parts ≡ ds ++ record d { content = fed_all d.content parts } ∷ []
onto-last [] d parts = refl
onto-last (e ∷ []) d parts = refl
onto-last (e ∷ f ∷ ds) d parts = ap (λ xs. e ∷ xs) (onto-last (f ∷ ds) d parts)

-- white space behind the last
abbrev line_parts : List Part
line_parts = edge ∷ run (line_feed ∷ []) [] false ∷ []

abbrev with_line : Description → Description
with_line d = record d { content = fed_all d.content line_parts }

module _ (is_rich : Bool) (n : ℕ) where
  -- a line's end between two
  line-between : (before : List Part) (ds : List Description) (d : Description) (ts : Simples)
      → fold (with_description (here is_rich n)) (record { before = before; begun = ds ++ d ∷ [] })
      (terms_of (more (text (line_feed ∷ [])) ts))
      ≡ fold (with_description (here is_rich n)) (record { before = before; begun = ds ++ with_line d ∷ [] })
      (terms_of ts)
  unfolding node_of chars encode
  line-between before ds d ts =
      let all : List Description = ds ++ d ∷ [] in
      let after : Descriptions → Descriptions = λ s. fold (with_description (here is_rich n)) s (terms_of ts) in
      ap (λ b. after (cond b (record { before = before; begun = onto_last_description all line_parts })
      (record { before = before ++ run (line_feed ∷ []) [] false ∷ []; begun = all }))) (some-begun ds d)
      ∙ ap (λ xs. after (record { before = before; begun = xs })) (onto-last ds d line_parts)

  -- nodes that are terms and meanings, with line ends between, where no anchor waits
  pub record AreDescribed (ts : Simples) (d : Blocks) : Type 0 where
    pub sound : AreSound ts (lines_in d)
    pub waits : pending_all [] ts ≡ []
    pub spent : AllSpend (weight_in d) (said_in d) ts
    pub begun : List Description
    pub is : (before : List Part) (ds : List Description)
        → fold (with_description (here is_rich n)) (record { before = before; begun = ds })
        (terms_of (local_all [] ts))
        ≡ record { before = before; begun = ds ++ begun }
    pub same : documents.blocks_of (map description_element begun) ≡ d
    pub filled : list_any is_filled_description begun ≡ has_filled_element d
    pub shows : has_filled_element d ≡ true → show false ts ≡ true
    pub leads : title_keeps d ≡ true → come_first ts ≡ true
    pub unseen : are_unseen d ≡ true → all_seen ts ≡ 0

  pub described-none : AreDescribed none no_blocks
  unfolding node_of
  described-none = record {
    sound = sound-none;
    waits = refl;
    spent = spend-none;
    begun = [];
    is = λ before ds. ap (λ xs. record { before = before; begun = xs }) (sym (append-nil ds));
    same = refl;
    filled = refl;
    shows = λ h. false-true h;
    leads = λ h. refl;
    unseen = λ h. refl;
  }

  -- a description, and its element
  abbrev role_for : Bool → Role
  role_for true = role.Term
  role_for false = role.Meaning

  abbrev name_for : Bool → BlockElement
  name_for true = an.Term
  name_for false = an.Meaning

  one-begun : (is_term : Bool) (id : ℕ) (facts : Facts) (content ts : Simples) (before : List Part)
      (ds : List Description)
      → fold (with_description (here is_rich n)) (record { before = before; begun = ds })
      (terms_of (more (element id (role_for is_term) facts [] content) ts))
      ≡ fold (with_description (here is_rich n))
      (record { before = before; begun = ds ++ description_with is_term (parts_of is_rich n content) ∷ [] })
      (terms_of ts)
  unfolding node_of
  one-begun true id facts content ts before ds =
      ap (λ c. fold (with_description (here is_rich n))
      (record { before = before; begun = ds ++ description_with true (flow_all (nodes_of content) c) ∷ [] })
      (terms_of ts)) (around-here is_rich n content)
  one-begun false id facts content ts before ds = refl

  -- one of which these nodes stand in the place
  described-one : (is_term : Bool) (id : ℕ) (facts : Facts) (tree : Simple) (us ts : Simples) (c d : Blocks)
      → IsSound tree (lines_of (documents.element (name_for is_term) [] c))
      → pending [] tree ≡ [] → Spends (weight_in c) (said_in c) tree
      → local [] tree ≡ element id (role_for is_term) facts [] us → IsWritten (parts_of is_rich n) us c
      → (tight.is_filled c ≡ true → shows false tree ≡ true)
      → IsLead (documents.element (name_for is_term) [] c) tree → AreDescribed ts d
      → AreDescribed (more tree (more (text (line_feed ∷ [])) ts))
      (block (documents.element (name_for is_term) [] c) d)
  described-one is_term id facts tree us ts c d sound waits spent places written shown leads later =
      let own : Description = description_with is_term (parts_of is_rich n us) in
      let line : Simples = more (text (line_feed ∷ [])) ts in
      let given : blocks_in (with_line own).content ≡ c =
      ap (λ v. blocks_in (fed v (run (line_feed ∷ []) [] false))) written.ended
      ∙ (ap documents.blocks_of (all-done in_blocks
      (fed (clean in_blocks (list_in c)) (run (line_feed ∷ []) [] false)) (list_in c)
      (line-ready in_blocks (list_in c) refl)) ∙ list-in c) in
      record {
        sound = sound-more tree line (lines_of (documents.element (name_for is_term) [] c)) (lines_in d) waits sound
            (sound-text (line_feed ∷ []) ts (lines_in d) later.sound);
        waits = node-waits [] tree ts waits ∙ later.waits;
        spent = spend-more (weight_in c) (weight_in d) tree line spent
            (spend-past (weight_in d) (text (line_feed ∷ [])) ts (spend-text (line_feed ∷ [])) later.spent);
        begun = with_line own ∷ later.begun;
        is = λ before ds.
            ap (λ vs. fold (with_description (here is_rich n)) (record { before = before; begun = ds })
            (terms_of vs))
            (node-local [] tree ts waits ∙ ap (λ t. more t (more (text (line_feed ∷ [])) (local_all [] ts)))
            places)
            ∙ (one-begun is_term id facts us (more (text (line_feed ∷ [])) (local_all [] ts)) before ds
            ∙ (line-between before ds own (local_all [] ts)
            ∙ (later.is before (ds ++ with_line own ∷ [])
            ∙ ap (λ xs. record { before = before; begun = xs })
            (append_assoc ds (with_line own ∷ []) later.begun))));
        same = ap (λ bs. block (documents.element (cond is_term an.Term an.Meaning) [] bs)
            (documents.blocks_of (map description_element later.begun))) given
            ∙ (ap (λ m. block (documents.element m [] c)
            (documents.blocks_of (map description_element later.begun))) (own-name is_term)
            ∙ ap (block (documents.element (name_for is_term) [] c)) later.same);
        filled = ap (λ bs. tight.is_filled bs || list_any is_filled_description later.begun) given
            ∙ ap (λ x. tight.is_filled c || x) later.filled;
        shows = λ h. either (tight.is_filled c) (has_filled_element d) (shows false tree) (show false line)
            (sym (own-filled is_term) ∙ h) shown
            (λ k. line-unseen false ts ∙ later.shows k);
        leads = first-more (documents.element (name_for is_term) [] c) d tree ts leads later.sound later.leads;
        unseen = unseen-more (documents.element (name_for is_term) [] c) d tree ts leads later.unseen;
      }
    where
      either : (a b s t : Bool) → (a || b) ≡ true → (a ≡ true → s ≡ true) → (b ≡ true → t ≡ true)
          → (s || t) ≡ true
      either true b s t h f g = ap (λ x. x || t) (f refl)
      either false b true t h f g = refl
      either false b false t h f g = g h

      own-filled : (b : Bool) → has_filled_element (block (documents.element (name_for b) [] c) d)
          ≡ (tight.is_filled c || has_filled_element d)
      own-filled true = refl
      own-filled false = refl

      own-name : (b : Bool) → cond b an.Term an.Meaning ≡ name_for b
      own-name true = refl
      own-name false = refl

  pub described-term : (id : ℕ) (content ts : Simples) (c d : Blocks)
      → IsInside (parts_of is_rich n) content c → come_first content ≡ true → blocks_keep false c ≡ true
      → AreDescribed ts d
      → AreDescribed (more (made id role.Term [] content) (more (text (line_feed ∷ [])) ts))
      (block (documents.element an.Term [] c) d)
  described-term id content ts c d inner first keep later =
      described-one true id (facts_of content) (made id role.Term [] content) (local_all [] content) ts c d
      (sound-title id role.Term content (lines_in c) refl refl refl refl first inner.sound) inner.waits
      (spend-element (weight_in c) id role.Term (facts_of content) [] content refl inner.spent) refl inner.written
      (λ h. inner.shows ∙ (black-filled c keep ∙ h)) (record { first = λ e. refl; unseen = inner.unseen }) later

  pub described-meaning : (id : ℕ) (content ts : Simples) (c d : Blocks)
      → IsInside (parts_of is_rich n) content c → blocks_keep false c ≡ true → AreDescribed ts d
      → AreDescribed (more (made id role.Meaning [] content) (more (text (line_feed ∷ [])) ts))
      (block (documents.element an.Meaning [] c) d)
  described-meaning id content ts c d inner keep later =
      described-one false id (facts_of content) (made id role.Meaning [] content) (local_all [] content) ts c d
      (sound-element id role.Meaning [] content (lines_in c) refl refl inner.sound) inner.waits
      (spend-element (weight_in c) id role.Meaning (facts_of content) [] content refl inner.spent) refl inner.written
      (λ h. inner.shows ∙ (black-filled c keep ∙ h)) (record { first = inner.first; unseen = inner.unseen }) later

  -- ---- the list

  terms-parts : (id : ℕ) (facts : Facts) (content ts : Simples) (begun : List Description) (d : Blocks)
      → is_rich ≡ true
      → ((before : List Part) → fold (with_description (here is_rich n)) (record { before = before; begun = [] })
      (terms_of content) ≡ record { before = before; begun = begun })
      → documents.blocks_of (map description_element begun) ≡ d
      → list_any is_filled_description begun ≡ true
      → parts_of is_rich n (more (element id role.Terms facts [] (more (text (line_feed ∷ [])) content)) ts)
      ≡ edge ∷ run (line_feed ∷ []) [] false ∷ edge ∷ whole (documents.element an.Terms [] d) ∷ edge
      ∷ parts_of is_rich n ts
  unfolding node_of chars encode
  terms-parts id facts content ts begun d rich is same filled =
      let line : List Part = run (line_feed ∷ []) [] false ∷ [] in
      elements ∙ (ap (λ s. parts_of_descriptions s ++ parts_of is_rich n ts) (is line)
      ∙ (ap (λ b. edge ∷ line ++ apart (cond b
      (whole (documents.element an.Terms [] (documents.blocks_of (map description_element begun))) ∷ []) [])
      ++ parts_of is_rich n ts) filled
      ∙ ap (λ c. edge ∷ line ++ apart (whole (documents.element an.Terms [] c) ∷ []) ++ parts_of is_rich n ts)
      same))
    where
      elements : parts_of is_rich n (more (element id role.Terms facts [] (more (text (line_feed ∷ [])) content)) ts)
          ≡ parts_of_descriptions (fold (with_description (here is_rich n))
          (record { before = run (line_feed ∷ []) [] false ∷ []; begun = [] }) (terms_of content))
          ++ parts_of is_rich n ts
      elements =
          let lines : Simples = more (text (line_feed ∷ [])) content in
          ap (λ b. cond b (described_parts (terms_of lines) (here is_rich n))
          (term_parts (terms_of lines) (nodes_of lines) (here is_rich n)) ++ parts_of is_rich n ts)
          (ap (λ b. b && true) rich)

  pub terms-gives : (id : ℕ) (content : Simples) (d : Blocks) → is_rich ≡ true → AreDescribed content d
      → has_filled_element d ≡ true
      → GivesBlock is_rich n (made id role.Terms [] (more (text (line_feed ∷ [])) content))
      (documents.element an.Terms [] d)
  terms-gives id content d rich all filled =
      let lines : Simples = more (text (line_feed ∷ [])) content in
      record {
        sound = sound-element id role.Terms [] lines (lines_in d) refl refl
            (sound-text (line_feed ∷ []) content (lines_in d) all.sound);
        spent = spend-element (weight_in d) id role.Terms (facts_of lines) [] lines refl
            (spend-past (weight_in d) (text (line_feed ∷ [])) content (spend-text (line_feed ∷ [])) all.spent);
        kind = refl;
        untitled = refl;
        lean = heavy-tree refl refl (λ r. line-unseen false content ∙ all.shows filled)
            (λ k. line-seen-none content ∙ all.unseen k)
            (λ k. line-first content ∙ all.leads k);
        waits = line-waits content ∙ all.waits;
        led = λ ids e. false-true e;
        gives = λ mode w done h may ts.
            ap (λ us. fed_all w (parts_of is_rich n (more (element id role.Terms (facts_of lines) [] us) ts)))
            (line-local content)
            ∙ (ap (fed_all w) (terms-parts id (facts_of lines) (local_all [] content) ts all.begun d rich
            (λ before. all.is before []) all.same (all.filled ∙ filled))
            ∙ list-fed mode w done (documents.element an.Terms [] d) (parts_of is_rich n ts) h);
      }
