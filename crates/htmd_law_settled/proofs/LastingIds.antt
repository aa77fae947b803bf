-- The ids of a page's anchors are each one line, and are_distinct.
use Rattle.std.proofs.Common.{◌≡◌, ℕ, Bool, true, false, cond, ◌&&◌, List, [], ◌∷◌, ◌++◌, refl, ap, ◌∙◌}
use Rattle.std.proofs.Common.{Option, None, filter, ◌+◌}
use Rattle.std.specs.Prelude.{codes}
use Rattle.std.specs.Option.{unwrap_or}
use Rattle.std.specs.List.{list_all, list_any, AllByRecursion, IsDistinct}
use Rattle.std.specs.Str.{IsUtf8, bytes_eq}
use Rattle.std.proofs.lemmas.Bool.{and_from}
use Rattle.htmd_lexical.specs.CharacterClasses.{are_distinct}
use Rattle.htmd_lexical.specs.AttributePairs.{AttributePair}
use Rattle.htmd_nodes.specs.NumberedTrees.{NumberedTree}
use Rattle.htmd_shown.specs.Attributes.{text_of, in_line, is_filled}
use Rattle.htmd_shown.specs.Roles.{is_anchor}
use Rattle.htmd_shown.specs.Shown.{Sight, shown_in}
use Rattle.htmd_shown.specs.SimpleTrees.{Simple, text, image, formula, embedded, anchor, element, Simples, none, more}
use Rattle.htmd_document_of_tree.specs.declared.anchors.Anchors.{Anchors}
use Rattle.htmd_document_of_tree.specs.declared.anchors.Anchors.TheVariants as which
use Rattle.htmd_document_of_tree.specs.Anchors.{values_of, targets_by}
use Rattle.htmd_document_of_tree.specs.Leadings.{all_leadings, is_led_to, is_linked_to}
use Rattle.htmd_document_of_tree.specs.Limits.{limited}
use Rattle.htmd_document_of_tree.specs.Seen.{seen}
use Rattle.htmd_document_of_tree.specs.Targets.{Target, target_by, id_target, name_target, whole_in, own_targets}
use Rattle.htmd_document_of_tree.specs.Targets.{targets_inside, targets_among, ids_among, is_first, firsts_after}
use Rattle.htmd_document_of_tree.specs.Targets.{all_targets}
use Rattle.htmd_document_of_tree.specs.TreeDocuments.{document_of_tree}
use Rattle.htmd_law_anchors.specs.AnchorLaws.{ids_of}
use Rattle.htmd_law_anchors.specs.DocumentMarks.{marks_of_blocks}
use Rattle.htmd_law_anchors.proofs.Main.{links_lead_there}
use Rattle.htmd_law_documents.specs.TreeForms.{is_text_tree}
use Rattle.htmd_law_documents.proofs.NormalValueLemmas.{AreTexts, value-text}
use Rattle.htmd_law_documents.proofs.NormalShownLemmas.{IsClear, AreClear, page-clear}
use Rattle.htmd_law_documents.proofs.NormalPlacedLemmas.{limited-clear}
use Rattle.htmd_law_returning.specs.SettledDocuments.{is_one_line}
use Rattle.htmd_law_settled.proofs.OneLines.{one-line}

-- ---- one line each

abbrev AreLines : List Target → Type 0
AreLines targets = list_all is_one_line (values_of targets) ≡ true

lines-append : (xs ys : List Target) → AreLines xs → AreLines ys → AreLines (xs ++ ys)
lines-append [] ys g h = h
lines-append (x ∷ xs) ys g h = at (is_one_line x.value) (λ e. lines-append xs ys e h) g
  where
    at : (b : Bool) → (AreLines xs → AreLines (xs ++ ys)) → (b && list_all is_one_line (values_of xs)) ≡ true
        → (b && list_all is_one_line (values_of (xs ++ ys))) ≡ true
    at true f g = f g
    at false f g = absurd (cc)

target-lines : (counts : List ℕ → Bool) (n : ℕ) (is_name : Bool) (s : List ℕ) → IsUtf8 s
    → AreLines (target_by counts n is_name s)
target-lines counts n is_name s u = either (is_filled (in_line s) && counts (in_line s))
  where
    either : (b : Bool)
        → AreLines (cond b (record { value = in_line s; is_name = is_name; seen = n } ∷ []) [])
    either true = and_from (is_one_line (in_line s)) true (one-line s u) refl
    either false = refl

if-lines : (b : Bool) (xs : List Target) → AreLines xs → AreLines (cond b xs [])
if-lines true xs h = h
if-lines false xs h = refl

module _ (counts : List ℕ → Bool) where
  id-lines : (n : ℕ) (attributes : List AttributePair) → AreTexts attributes
      → AreLines (id_target counts n attributes)
  id-lines n attributes a =
      target-lines counts n false (text_of (codes "id") attributes) (value-text attributes (codes "id") a)

  own-lines : (n : ℕ) (t : Simple) → IsClear t → AreLines (own_targets counts n t)
  own-lines n (text s) h = refl
  own-lines n (image o attributes) h = id-lines n attributes h.1
  own-lines n (formula tex is_alone attributes) h = id-lines n attributes h.1
  own-lines n (embedded id place title attributes ids) h = id-lines n attributes h.4
  own-lines n (anchor id) h = refl
  own-lines n (element id r facts attributes content) h =
      let name : List ℕ = text_of (codes "name") attributes in
      lines-append (id_target counts n attributes) (name_target counts n r attributes) (id-lines n attributes h.0)
      (if-lines (is_anchor r) (target_by counts n true name)
      (target-lines counts n true name (value-text attributes (codes "name") h.0)))

  mutual
    inside-lines : (whole : Option ℕ) (n : ℕ) (t : Simple) → IsClear t
        → AreLines (targets_inside counts whole n t)
    inside-lines whole n (text s) h = refl
    inside-lines whole n (image o attributes) h = refl
    inside-lines whole n (formula tex is_alone attributes) h = refl
    inside-lines whole n (embedded id place title attributes ids) h = refl
    inside-lines whole n (anchor id) h = refl
    inside-lines whole n (element id r facts attributes content) h = among-lines (whole_in whole n r) n content h.2

    among-lines : (whole : Option ℕ) (n : ℕ) (ts : Simples) → AreClear ts
        → AreLines (targets_among counts whole n ts)
    among-lines whole n none h = refl
    among-lines whole n (more t ts) h =
        let own : List Target = own_targets counts (unwrap_or whole n) t in
        let inner : List Target = targets_inside counts whole n t in
        lines-append (own ++ inner) (targets_among counts whole (n + seen t) ts)
        (lines-append own inner (own-lines (unwrap_or whole n) t h.0) (inside-lines whole n t h.0))
        (among-lines whole (n + seen t) ts h.1)

-- some of them
kept-lines : (b : Bool) (t : Target) (xs ys : List Target) → (AreLines (t ∷ [])) → AreLines xs → AreLines ys
    → AreLines (cond b (t ∷ xs) ys)
kept-lines true t xs ys e g h = lines-append (t ∷ []) xs e g
kept-lines false t xs ys e g h = h

first-line : (t : Target) (xs : List Target) → AreLines (t ∷ xs) → AreLines (t ∷ []) × AreLines xs
first-line t xs h = at (is_one_line t.value) h
  where
    at : (b : Bool) → (b && list_all is_one_line (values_of xs)) ≡ true → ((b && true) ≡ true) × AreLines xs
    at true h = (refl, h)
    at false h = absurd (cc)

firsts-lines : (ids known : List (List ℕ)) (found : List Target) → AreLines found
    → AreLines (firsts_after ids known found)
firsts-lines ids known [] h = refl
firsts-lines ids known (t ∷ found) h =
    let p = first-line t found h in
    kept-lines (is_first ids known t) t (firsts_after ids (t.value ∷ known) found) (firsts_after ids known found) p.0
    (firsts-lines ids (t.value ∷ known) found p.1) (firsts-lines ids known found p.1)

all-lines : (counts : List ℕ → Bool) (ts : Simples) → AreClear ts → AreLines (all_targets counts ts)
all-lines counts ts h =
    let found : List Target = targets_among counts None 0 ts in
    firsts-lines (ids_among found) [] found (among-lines counts None 0 ts h)

filter-lines : (p : Target → Bool) (targets : List Target) → AreLines targets → AreLines (filter p targets)
filter-lines p [] h = refl
filter-lines p (t ∷ targets) h =
    let q = first-line t targets h in
    kept-lines (p t) t (filter p targets) (filter p targets) q.0 (filter-lines p targets q.1)
    (filter-lines p targets q.1)

targets-lines : (w : Anchors) (is_rich : Bool) (ts : Simples) → AreClear ts → AreLines (targets_by w is_rich ts)
targets-lines which.Linked is_rich ts h =
    let leadings = all_leadings is_rich ts in
    filter-lines (λ (t : Target). is_led_to leadings t.value t.seen) (all_targets (is_linked_to leadings) ts)
    (all-lines (is_linked_to leadings) ts h)
targets-lines which.All is_rich ts h = all-lines (λ s. true) ts h
targets-lines which.None is_rich ts h = refl

pub ids-lines : (w : Anchors) (sight : Sight) (tree : NumberedTree) → is_text_tree tree ≡ true
    → list_all is_one_line (ids_of (marks_of_blocks (document_of_tree w sight tree))) ≡ true
ids-lines w sight tree e =
    let shown : Simples = shown_in sight tree in
    ap (list_all is_one_line) (links_lead_there w sight tree e).ids
    ∙ targets-lines w sight.is_rich (limited shown) (limited-clear shown (page-clear sight tree e))

-- ---- no two the same

none-same : (s : List ℕ) (ids : List (List ℕ)) → AllByRecursion (λ y. bytes_eq s y ≡ false) ids
    → list_any (bytes_eq s) ids ≡ false
none-same s [] h = refl
none-same s (x ∷ ids) h = rw (h.0, none-same s ids h.1) refl

distinct-differ : (ids : List (List ℕ)) → IsDistinct bytes_eq ids → are_distinct ids ≡ true
unfolding IsDistinct
distinct-differ [] h = refl
distinct-differ (s ∷ ids) h = rw (none-same s ids h.0, distinct-differ ids h.1) refl

pub ids-differ : (w : Anchors) (sight : Sight) (tree : NumberedTree) → is_text_tree tree ≡ true
    → are_distinct (ids_of (marks_of_blocks (document_of_tree w sight tree))) ≡ true
ids-differ w sight tree e =
    let h = links_lead_there w sight tree e in ap are_distinct h.ids ∙ distinct-differ _ h.unique
