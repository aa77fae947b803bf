-- Each link to a part of the page leads to an anchor of the document, if the page has a place for it.
use Rattle.std.proofs.Common.{◌≡◌, ℕ, Bool, true, false, cond, not, ◌&&◌, ◌||◌, List, [], ◌∷◌, filter, drop, refl, sym, ap, ◌∙◌}
use Rattle.std.proofs.Common.{subst, None}
use Rattle.std.specs.List.{list_any, list_all}
use Rattle.std.specs.Str.{bytes_eq}
use Rattle.htmd_lexical.proofs.BytesLemmas.{same_bytes}
use Rattle.htmd_lexical.proofs.Cases.{test}
use Rattle.htmd_document.specs.Documents.{Inline, text, code, formatted, link, image, anchor, line_break, task}
use Rattle.htmd_document.specs.Documents.{Inlines, no_inlines, inline, Block, paragraph, heading, code_block, quote}
use Rattle.htmd_document.specs.Documents.{element, tags}
use Rattle.htmd_document.specs.Documents.{thematic_break, list, table, Blocks, no_blocks, block, Items, no_items, item}
use Rattle.htmd_shown.specs.Roles.{is_among}
use Rattle.htmd_shown.specs.Shown.{shown_in}
use Rattle.htmd_shown.specs.SimpleTrees.{Simples}
use Rattle.htmd_document_of_tree.specs.declared.anchors.Anchors.TheVariants as which
use Rattle.htmd_document_of_tree.specs.Anchors.{targets_by, values_of}
use Rattle.htmd_document_of_tree.specs.Leadings.{Leading, leadings_to, all_leadings, is_linked_to, is_in, is_led_to}
use Rattle.htmd_document_of_tree.specs.Limits.{limited}
use Rattle.htmd_document_of_tree.specs.Targets.{Target}
use Rattle.htmd_document_of_tree.specs.TreeDocuments.{document_of_tree}
use Rattle.htmd_law_documents.proofs.ElementLemmas.{false-true}
use Rattle.htmd_law_documents.proofs.VisibleLemmas.{both-true}
use Rattle.htmd_law_anchors.specs.DocumentLinks.{LinksOf, LinksInLine, LinksInCells, LinksInRows, LinksInBlock}
use Rattle.htmd_law_anchors.specs.DocumentLinks.{LinksInBlocks, LinksInItems}
use Rattle.htmd_law_anchors.specs.DocumentMarks.{marks_of_blocks}
use Rattle.htmd_law_anchors.specs.AnchorLaws.{ids_of, HasAnchors, AreAmong, LeadsAmong, is_outside, AreThere}
use Rattle.htmd_law_anchors.specs.AnchorLaws.{Reaches, LinksReach}
use Rattle.htmd_law_anchors.proofs.LinkMain.{links_count}
use Rattle.htmd_law_anchors.proofs.LinkedLemmas.{linked_targets}
use Rattle.htmd_law_anchors.proofs.Main.{links_lead_there}
use Rattle.htmd_law_anchors.proofs.TruthLemmas.{or-right}

-- ---- what holds of all links

module _ (Is So : List ℕ → Type 0) (f : (address : List ℕ) → Is address → So address) where
  mutual
    map-of : (x : Inline) → LinksOf Is x → LinksOf So x
    map-of (text s) h = tt
    map-of (code s) h = tt
    map-of (formatted format content) h = map-line content h
    map-of (link address title content) h = (f address h.0, map-line content h.1)
    map-of (image address title description) h = tt
    map-of (anchor id) h = tt
    map-of line_break h = tt
    map-of (task is_checked) h = tt

    map-line : (xs : Inlines) → LinksInLine Is xs → LinksInLine So xs
    map-line no_inlines h = tt
    map-line (inline x xs) h = (map-of x h.0, map-line xs h.1)

  map-cells : (cells : List Inlines) → LinksInCells Is cells → LinksInCells So cells
  map-cells [] h = tt
  map-cells (cell ∷ cells) h = (map-line cell h.0, map-cells cells h.1)

  map-rows : (rows : List (List Inlines)) → LinksInRows Is rows → LinksInRows So rows
  map-rows [] h = tt
  map-rows (row ∷ rows) h = (map-cells row h.0, map-rows rows h.1)

  mutual
    map-block : (b : Block) → LinksInBlock Is b → LinksInBlock So b
    map-block (paragraph content) h = map-line content h
    map-block (heading level content) h = map-line content h
    map-block (code_block language s) h = tt
    map-block (quote content) h = map-blocks content h
    map-block thematic_break h = tt
    map-block (element name attributes content) h = map-blocks content h
    map-block (tags s) h = tt
    map-block (list start is_tight items) h = map-items items h
    map-block (table alignments header rows) h = (map-cells header h.0, map-rows rows h.1)

    map-blocks : (bs : Blocks) → LinksInBlocks Is bs → LinksInBlocks So bs
    map-blocks no_blocks h = tt
    map-blocks (block b bs) h = (map-block b h.0, map-blocks bs h.1)

    map-items : (items : Items) → LinksInItems Is items → LinksInItems So items
    map-items no_items h = tt
    map-items (item bs items) h = (map-blocks bs h.0, map-items items h.1)

-- ---- places

-- a link leads to a place that no heading around such a link holds
outside-led : (leadings : List Leading) (s : List ℕ) (n : ℕ) → is_linked_to leadings s ≡ true
    → list_all (λ (l : Leading). not (bytes_eq l.to s && is_in l.heading n)) leadings ≡ true
    → is_led_to leadings s n ≡ true
outside-led [] s n l o = l
outside-led (x ∷ leadings) s n l o =
    either (bytes_eq x.to s) (is_in x.heading n) l
    (both-true (not (bytes_eq x.to s && is_in x.heading n)) _ o).0
    (λ k. outside-led leadings s n k (both-true (not (bytes_eq x.to s && is_in x.heading n)) _ o).1)
  where
    either : (b i : Bool) → (b || is_linked_to leadings s) ≡ true → not (b && i) ≡ true
        → (is_linked_to leadings s ≡ true → is_led_to leadings s n ≡ true)
        → ((b && not i) || is_led_to leadings s n) ≡ true
    either true true l o next = false-true o
    either true false l o next = refl
    either false i l o next = next l

module _ (leadings : List Leading) (s : List ℕ) (l : is_linked_to leadings s ≡ true) where
  abbrev counts : Target → Bool
  counts t = is_led_to leadings t.value t.seen

  abbrev is_place : Target → Bool
  is_place t = bytes_eq t.value s && is_outside leadings t

  counted : (t : Target) → is_place t ≡ true → counts t ≡ true
  counted t e =
      let parts = both-true (bytes_eq t.value s) (is_outside leadings t) e in
      outside-led leadings t.value t.seen
      (subst (λ (x : List ℕ). is_linked_to leadings x ≡ true) (sym (same_bytes t.value s parts.0)) l) parts.1

  place-kept : (ts : List Target) → list_any is_place ts ≡ true
      → is_among (values_of (filter counts ts)) s ≡ true
  place-kept [] e = false-true e
  place-kept (t ∷ ts) e = test (is_place t)
      (λ k. subst (λ (b : Bool). is_among (values_of (cond b (t ∷ filter counts ts) (filter counts ts))) s ≡ true)
      (sym (counted t k))
      (ap (λ b. b || is_among (values_of (filter counts ts)) s)
      (both-true (bytes_eq t.value s) (is_outside leadings t) k).0))
      (λ k. later (counts t) (place-kept ts (sym (ap (λ b. b || list_any is_place ts) k) ∙ e)))
    where
      later : (b : Bool) → is_among (values_of (filter counts ts)) s ≡ true
          → is_among (values_of (cond b (t ∷ filter counts ts) (filter counts ts))) s ≡ true
      later true h = or-right (bytes_eq t.value s) (is_among (values_of (filter counts ts)) s) h
      later false h = h

among-there : (rich : Bool) (trees : Simples) (ids : List (List ℕ))
    → ids ≡ values_of (targets_by which.Linked rich trees)
    → (ls : List Leading) → AreAmong (all_leadings rich trees) ls → AreThere rich trees ids ls
among-there rich trees ids e [] h = tt
among-there rich trees ids e (l ∷ ls) h = (
  (λ p. subst (λ (xs : List (List ℕ)). is_among xs l.to ≡ true)
      (sym (e ∙ ap values_of (linked_targets rich trees)))
      (place-kept (all_leadings rich trees) l.to h.0 (targets_by which.All rich trees) p)),
  among-there rich trees ids e ls h.1,
)

pub links_reach : LinksReach
links_reach sight tree e =
    let rich : Bool = sight.is_rich in
    let trees : Simples = limited (shown_in sight tree) in
    let document : Blocks = document_of_tree which.Linked sight tree in
    let ids : List (List ℕ) = ids_of (marks_of_blocks document) in
    let has : HasAnchors (shown_in sight tree) (targets_by which.Linked rich trees) document =
    links_lead_there which.Linked sight tree e in
    map-blocks (LeadsAmong (all_leadings rich trees)) (Reaches rich trees ids)
    (λ address h p. among-there rich trees ids has.ids (leadings_to None (drop 1 address)) (h p)) document
    (links_count which.Linked sight tree e)
