-- Where the anchors of a document stay, its trees get them where their targets stand, and nothing else changes.
use Rattle.std.proofs.Common.{◌≡◌, ℕ, Bool, true, false, not, ◌&&◌, ◌||◌, cond, List, [], ◌∷◌, refl, sym, ap, ◌∙◌}
use Rattle.std.proofs.Common.{subst, None}
use Rattle.std.specs.List.{list_all, list_any, flat_map}
use Rattle.std.specs.Str.{bytes_eq}
use Rattle.std.proofs.lemmas.Bool.{and_parts, and_from}
use Rattle.std.proofs.lemmas.List.{append-nil}
use Rattle.htmd_lexical.specs.CharacterClasses.{are_distinct}
use Rattle.htmd_document.specs.AnchorIds.{ids_of_inline, ids_of_line, has_unique_ids}
use Rattle.htmd_document.specs.Documents.{Inline, text, code, formatted, link, image, anchor, line_break, task}
use Rattle.htmd_document.specs.Documents.{Inlines, no_inlines, inline, Block, paragraph, heading, code_block, quote}
use Rattle.htmd_document.specs.Documents.{thematic_break, list, table, element, tags, Blocks, no_blocks, block, Items}
use Rattle.htmd_document.specs.Documents.{no_items, item}
use Rattle.htmd_shown.specs.Roles.{is_among}
use Rattle.htmd_shown.specs.Shown.{followed_by}
use Rattle.htmd_shown.specs.SimpleTrees.{Simples}
use Rattle.htmd_document_of_tree.specs.Anchors.{values_of, with_targets, anchored}
use Rattle.htmd_document_of_tree.specs.declared.anchors.Anchors.{Anchors}
use Rattle.htmd_document_of_tree.specs.declared.anchors.Anchors.TheVariants as which
use Rattle.htmd_document_of_tree.specs.FirstPieces.{pieced_all}
use Rattle.htmd_document_of_tree.specs.Leadings.{all_leadings, nowhere, is_led_to}
use Rattle.htmd_document_of_tree.specs.declared.leadings.Layout.TheVariants as layout
use Rattle.htmd_document_of_tree.specs.Targets.{Target, targets_among, firsts, firsts_after, ids_among as target_ids}
use Rattle.htmd_law_returning.specs.LastingAnchors.{anchors_stay, anchors_stand, lines_stand}
use Rattle.htmd_document.specs.LoneAnchors.{all_stand}
use Rattle.htmd_law_returning.specs.LastingAnchors.{cells_of, lines_of, lines_in, lines_among, are_led_to}
use Rattle.htmd_law_returning.specs.NoAnchors.{has_no_anchors, have_no_anchors, block_has_no_anchors}
use Rattle.htmd_law_returning.specs.NoAnchors.{blocks_have_no_anchors, items_have_no_anchors}
use Rattle.htmd_law_returning.proofs.LedTargets.{anchored-linked}
use Rattle.htmd_law_returning.proofs.LineIds.{ids_in_lines, ids-both, blocks-ids}
use Rattle.htmd_law_returning.proofs.LocalAnchors.{every, local_all, pending_all, last_of, anchored-local}
use Rattle.htmd_law_returning.proofs.LocalPieces.{anchored-pieced}
use Rattle.htmd_law_returning.proofs.PlacedTrees.{ArePlaces}
use Rattle.htmd_law_returning.proofs.SoundBlocks.{AreSound, no-values, all-same, is_led_somewhere}
use Rattle.htmd_law_returning.proofs.StartLemmas.{false-true, from-not}

-- ---- no id comes twice

-- they are none of these
abbrev are_new : List (List ℕ) → List (List ℕ) → Bool
are_new known ids = list_all (λ s. not (is_among known s)) ids

new-more : (id : List ℕ) (known ids : List (List ℕ)) → list_any (bytes_eq id) ids ≡ false
    → are_new known ids ≡ true
    → are_new (id ∷ known) ids ≡ true
new-more id known [] h k = refl
new-more id known (s ∷ ids) h k =
    let p = either-none (bytes_eq id s) (list_any (bytes_eq id) ids) h in
    let q = and_parts (not (is_among known s)) (are_new known ids) k in
    and_from (not (bytes_eq id s || is_among known s)) (are_new (id ∷ known) ids)
    (ap (λ b. not (b || is_among known s)) p.0 ∙ q.0) (new-more id known ids p.1 q.1)
  where
    either-none : (a b : Bool) → (a || b) ≡ false → (a ≡ false) × (b ≡ false)
    either-none true b h = absurd (cc)
    either-none false b h = (refl, h)

all-first : (ids known : List (List ℕ)) (found : List Target)
    → list_all (λ (t : Target). not t.is_name) found ≡ true → are_distinct (values_of found) ≡ true
    → are_new known (values_of found) ≡ true → firsts_after ids known found ≡ found
all-first ids known [] n d h = refl
all-first ids known (t ∷ found) n d h =
    let a = and_parts (not t.is_name) (list_all (λ (t : Target). not t.is_name) found) n in
    let b = and_parts (not (list_any (bytes_eq t.value) (values_of found))) (are_distinct (values_of found)) d in
    let c = and_parts (not (is_among known t.value)) (are_new known (values_of found)) h in
    let first : (not (is_among known t.value) && not (t.is_name && is_among ids t.value)) ≡ true =
    and_from (not (is_among known t.value)) (not (t.is_name && is_among ids t.value)) c.0
    (ap (λ b. not (b && is_among ids t.value)) (from-not t.is_name a.0)) in
    ap (λ b. cond b (t ∷ firsts_after ids (t.value ∷ known) found) (firsts_after ids known found)) first
    ∙ ap (λ ts. t ∷ ts) (all-first ids (t.value ∷ known) found a.1 b.1
    (new-more t.value known (values_of found) (from-not (list_any (bytes_eq t.value) (values_of found)) b.0) c.1))

none-known : (ids : List (List ℕ)) → are_new [] ids ≡ true
none-known [] = refl
none-known (id ∷ ids) = none-known ids

pub are-firsts : (found : List Target) (ids : List (List ℕ)) → ArePlaces found ids → are_distinct ids ≡ true
    → firsts found ≡ found
are-firsts found ids p d =
    all-first (target_ids found) [] found p.unnamed (subst (λ ids. are_distinct ids ≡ true) (sym p.values) d)
    (none-known (values_of found))

-- ---- without anchors

mutual
  none-of : (x : Inline) → has_no_anchors x ≡ true → ids_of_inline x ≡ []
  none-of (text s) h = refl
  none-of (code s) h = refl
  none-of (formatted f content) h = none-among content h
  none-of (link a t content) h = none-among content h
  none-of (image a t description) h = refl
  none-of (anchor id) h = false-true h
  none-of line_break h = refl
  none-of (task d) h = refl

  none-among : (xs : Inlines) → have_no_anchors xs ≡ true → ids_of_line xs ≡ []
  none-among no_inlines h = refl
  none-among (inline x xs) h =
      let p = and_parts (has_no_anchors x) (have_no_anchors xs) h in
      rw (none-of x p.0, none-among xs p.1) refl

pub none-in-cells : (cells : List Inlines) → list_all have_no_anchors cells ≡ true
    → ids_in_lines (cells_of cells) ≡ []
none-in-cells [] h = refl
none-in-cells (c ∷ cs) h =
    let p = and_parts (have_no_anchors c) (list_all have_no_anchors cs) h in
    rw (none-among c p.0, none-in-cells cs p.1) refl

pub none-in-rows : (rows : List (List Inlines)) → list_all (list_all have_no_anchors) rows ≡ true
    → ids_in_lines (flat_map cells_of rows) ≡ []
none-in-rows [] h = refl
none-in-rows (r ∷ rs) h =
    let p = and_parts (list_all have_no_anchors r) (list_all (list_all have_no_anchors) rs) h in
    ids-both (cells_of r) (flat_map cells_of rs) ∙ rw (none-in-cells r p.0, none-in-rows rs p.1) refl

mutual
  pub none-in-block : (b : Block) → block_has_no_anchors b ≡ true → ids_in_lines (lines_of b) ≡ []
  none-in-block (paragraph xs) h = append-nil (ids_of_line xs) ∙ none-among xs h
  none-in-block (heading level xs) h = append-nil (ids_of_line xs) ∙ none-among xs h
  none-in-block (code_block language s) h = refl
  none-in-block (quote bs) h = none-in-blocks bs h
  none-in-block thematic_break h = refl
  none-in-block (list start is_tight items) h = none-in-items items h
  none-in-block (table alignments header rows) h =
      let p = and_parts (list_all have_no_anchors header) (list_all (list_all have_no_anchors) rows) h in
      ids-both (cells_of header) (flat_map cells_of rows)
      ∙ rw (none-in-cells header p.0, none-in-rows rows p.1) refl
  none-in-block (element name attributes content) h = none-in-blocks content h
  none-in-block (tags s) h = refl

  pub none-in-blocks : (bs : Blocks) → blocks_have_no_anchors bs ≡ true → ids_in_lines (lines_in bs) ≡ []
  none-in-blocks no_blocks h = refl
  none-in-blocks (block b bs) h =
      let p = and_parts (block_has_no_anchors b) (blocks_have_no_anchors bs) h in
      ids-both (lines_of b) (lines_in bs) ∙ rw (none-in-block b p.0, none-in-blocks bs p.1) refl

  pub none-in-items : (items : Items) → items_have_no_anchors items ≡ true
      → ids_in_lines (lines_among items) ≡ []
  none-in-items no_items h = refl
  none-in-items (item bs rest) h =
      let p = and_parts (blocks_have_no_anchors bs) (items_have_no_anchors rest) h in
      ids-both (lines_in bs) (lines_among rest) ∙ rw (none-in-blocks bs p.0, none-in-items rest p.1) refl

-- ---- the page

abbrev targets_in : Simples → List Target
targets_in ts = targets_among every None 0 ts

home : (is_rich : Bool) (ts : Simples) (d : Blocks) → AreSound ts (lines_in d)
    → firsts (targets_in ts) ≡ targets_in ts
    → pieced_all (anchored which.All is_rich ts) ≡ followed_by (local_all [] ts) (last_of (pending_all [] ts))
home is_rich ts d h once =
    ap pieced_all (anchored-local is_rich ts h.placed.marked once)
    ∙ anchored-pieced ts (pending_all [] ts) h.placed.right

-- links lead to each target
all-led : (is_rich : Bool) (ts : Simples) (d : Blocks) → AreSound ts (lines_in d)
    → are_led_to [] (lines_in d) ≡ true
    → list_all (λ (t : Target). is_led_to (all_leadings is_rich ts) t.value t.seen) (targets_in ts) ≡ true
all-led is_rich ts d h e =
    let nobody : List ℕ → ℕ → Bool = λ id m. false in
    all-same (is_led_somewhere nobody nobody (all_leadings is_rich ts))
    (λ (t : Target). is_led_to (all_leadings is_rich ts) t.value t.seen) (targets_in ts)
    (λ t e. here (is_led_to (all_leadings is_rich ts) t.value t.seen) e)
    (h.led (nowhere is_rich) layout.Blocks nobody nobody [] [] (λ m. true) refl refl
    (λ id m i o e. false-true e) (λ id m i o e. false-true e) (ap (are_led_to []) (append-nil (lines_in d)) ∙ e)
    (all-true (targets_in ts)))
  where
    here : (b : Bool) → (b || false) ≡ true → b ≡ true
    here true h = refl
    here false h = h

    all-true : (found : List Target) → list_all (λ (t : Target). true) found ≡ true
    all-true [] = refl
    all-true (t ∷ found) = all-true found

stand-once : (ts : Simples) (d : Blocks) → AreSound ts (lines_in d) → anchors_stand d ≡ true
    → firsts (targets_in ts) ≡ targets_in ts
stand-once ts d h e =
    are-firsts (targets_in ts) (ids_in_lines (lines_in d)) (h.placed.places 0)
    (ap are_distinct (blocks-ids d) ∙ (and_parts (lines_stand d && all_stand true d) (has_unique_ids d) e).1)

pub anchored-home : (w : Anchors) (is_rich : Bool) (ts : Simples) (d : Blocks) → AreSound ts (lines_in d)
    → anchors_stay w d ≡ true
    → pieced_all (anchored w is_rich ts) ≡ followed_by (local_all [] ts) (last_of (pending_all [] ts))
anchored-home which.All is_rich ts d h e = home is_rich ts d h (stand-once ts d h e)
anchored-home which.Linked is_rich ts d h e =
    let p = and_parts (anchors_stand d) (are_led_to [] (lines_in d)) e in
    let once = stand-once ts d h p.0 in
    ap pieced_all (anchored-linked is_rich ts once (all-led is_rich ts d h p.1)) ∙ home is_rich ts d h once
anchored-home which.None is_rich ts d h e =
    let none : targets_in ts ≡ [] = no-values (targets_in ts) ((h.placed.places 0).values ∙ none-in-blocks d e) in
    let once : firsts (targets_in ts) ≡ targets_in ts = ap firsts none ∙ sym none in
    ap (λ found. pieced_all (with_targets (record { seen = 0; targets = found }) ts)) (sym (ap firsts none))
    ∙ home is_rich ts d h once
