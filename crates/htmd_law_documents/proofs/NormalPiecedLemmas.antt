-- What normal documents are made of stays so when links end after their first pieces.
use Rattle.std.proofs.Common.{◌≡◌, ℕ, Bool, true, false, cond, not, ◌&&◌, List, [], ◌∷◌, ◌++◌, refl, sym, ap, ◌∙◌}
use Rattle.std.proofs.Common.{Option, Some, None, subst, ◌⊎◌, inl, inr, arith}
use Rattle.std.specs.Prelude.{codes, nat_lt}
use Rattle.std.specs.Str.{IsUtf8, chars}
use Rattle.std.proofs.lemmas.Bool.Decides.{nat_tests}
use Rattle.std.proofs.lemmas.List.{append-nil}
use Rattle.htmd_lexical.specs.AttributePairs.{AttributePair}
use Rattle.htmd_lexical.proofs.Cases.{test}
use Rattle.htmd_text.specs.Trims.{trimmed_text, is_line_feed}
use Rattle.htmd_shown.specs.declared.facts.Facts.{Facts}
use Rattle.htmd_shown.specs.declared.role.Role.{Role}
use Rattle.htmd_shown.specs.declared.role.Role.TheVariants as role
use Rattle.htmd_shown.specs.AllTexts.{all_text, all_text_among, text_in, dollar_sign, with_line_feeds, lines_of}
use Rattle.htmd_shown.specs.AllTexts.{without_last_line_feed}
use Rattle.htmd_shown.specs.Attributes.{text_of, in_line, is_filled}
use Rattle.htmd_shown.specs.Pieces.{Pieces, no_pieces, is_unseen, after_leaf, at_edge, pieces_after}
use Rattle.htmd_shown.specs.Roles.{is_link, is_line_break, is_verbatim}
use Rattle.htmd_shown.specs.SimpleTrees.{Simple, text, image, formula, embedded, anchor, element, Simples, none, more}
use Rattle.htmd_shown.specs.Spaces.{is_blank_text}
use Rattle.htmd_document_of_tree.specs.FirstPieces.{most_linked, unlinked, cut_leaf, cut, cut_all, pieced, pieced_all}
use Rattle.htmd_shown.specs.Showings.{image_shows, code_shows}
use Rattle.htmd_flow.specs.Contexts.{Context, run_in, in_code}
use Rattle.htmd_flow.specs.Contexts as contexts
use Rattle.htmd_flow.specs.Flows.{node_of, nodes_of, flow_all, image_parts, math_in_line, math_block, formula_parts}
use Rattle.htmd_flow.specs.Flows.{code_parts, verbatim_parts}
use Rattle.htmd_flow.specs.Languages.{language_of_block}
use Rattle.htmd_flow.specs.Levels.{list_of}
use Rattle.htmd_flow.specs.Parts.{Around, Part, edge, whole}
use Rattle.htmd_document.specs.Documents.{code_block}
use Rattle.htmd_law_documents.specs.DocumentTexts.{visible}
use Rattle.htmd_law_documents.specs.SimpleForms.{IsSound, AreSound}
use Rattle.htmd_law_documents.proofs.VisibleLemmas.{Shows, shows-itself, both-true}
use Rattle.htmd_law_documents.proofs.PiecesLemmas.{line_feed-white, AreUtf8, pieces_seen, PiecesShow, pieces-show}
use Rattle.htmd_law_documents.proofs.CodeLemmas.{feeds-show, trimmed-shows, blank-seen}
use Rattle.htmd_law_documents.proofs.NormalTextLemmas.{and-true, and-false, not-false, true-false}
use Rattle.htmd_law_documents.proofs.NormalTextLemmas.{false-true, from-not}
use Rattle.htmd_law_documents.proofs.NormalLineLemmas.{FitAll}
use Rattle.htmd_law_documents.proofs.NormalPartsLemmas.{is_text_character, FineFrom, good, waiting, after}
use Rattle.htmd_law_documents.proofs.NormalPartsLemmas.{IsRun, fine-from}
use Rattle.htmd_law_documents.proofs.NormalPartsLemmas.{fine-append, fine-nil, fine-run, shown-run}
use Rattle.htmd_law_documents.proofs.NormalValueLemmas.{IsClean, IsBlack, text-run, clean-run, seen-trimmed, all-less}
use Rattle.htmd_law_documents.proofs.NormalValueLemmas.{AllPieces}
use Rattle.htmd_law_documents.proofs.NormalValueLemmas.{pieces-pass, AreTexts, value-text, address-fine, title_of-fine}
use Rattle.htmd_law_documents.proofs.NormalValueLemmas.{in_line-line, in_line-clean}
use Rattle.htmd_law_documents.proofs.NormalCodeLemmas.{feeds-clean, code-lines}
use Rattle.htmd_law_documents.proofs.NormalNodesLemmas.{bound, FitsIn, GivesFrom}
use Rattle.htmd_law_documents.proofs.NormalAroundLemmas.{fit-without, unlinked-gives}
use Rattle.htmd_law_documents.proofs.NormalElementLemmas.{IsSource, dollar-run, math-code, verbatim-code}
use Rattle.htmd_law_documents.proofs.NormalSeenElementLemmas.{all-letters-said}
use Rattle.htmd_law_documents.proofs.NormalTreeLemmas.{ShowsInLine, ShowsApart, AreIds, IsFine, AreFine, IsLed}
use Rattle.htmd_law_documents.proofs.NormalTreeLemmas.{IsLedApart, Content, content-text, one-flow, leaf-waits}
use Rattle.htmd_law_documents.proofs.NormalShownLemmas.{line-blank}
use Rattle.htmd_law_documents.proofs.NormalPlacedLemmas.{LeafApart, IsPlaced, ArePlaced, PlacedLed, PlacedApart}
use Rattle.htmd_law_documents.proofs.NormalPlacedLemmas.{no-texts}
use lib.Utf8.{encode}

-- ---- leaves that show

dollar-black : is_blank_text (dollar_sign ∷ []) ≡ false
unfolding chars encode
dollar-black = refl

math-shows : (tex : List ℕ) → IsClean tex → GivesFrom waiting (math_in_line tex)
math-shows tex h c f =
    let flat : Bool = c.is_flat in
    let n : ℕ = bound c in
    fine-from flat n waiting (run_in c (dollar_sign ∷ []) ∷ [])
    (run_in (in_code c) (in_line tex) ∷ run_in c (dollar_sign ∷ []) ∷ [])
    (shown-run flat n (dollar_sign ∷ []) c.around c.is_code dollar-run f dollar-black)
    (fine-append flat n (run_in (in_code c) (in_line tex) ∷ []) (run_in c (dollar_sign ∷ []) ∷ [])
    (fine-run flat n (in_line tex) c.around true (clean-run (in_line tex) (in_line-clean tex h.utf8)) f)
    (fine-run flat n (dollar_sign ∷ []) c.around c.is_code dollar-run f))

filled-black : (s : List ℕ) → is_blank_text s ≡ false → is_filled s ≡ true
unfolding chars
filled-black [] e = true-false e
filled-black (b ∷ s) e = grind (arith, nat_tests)

pub text-shows : (s : List ℕ) → IsClean s → is_blank_text s ≡ false → ShowsInLine (text s)
unfolding node_of
text-shows s h e = record {
  no_item = refl;
  shows = λ c f. shown-run c.is_flat (bound c) s c.around c.is_code (clean-run s h) f e;
}

described : (attributes : List AttributePair) → AreTexts attributes → image_shows None attributes ≡ true
    → GivesFrom waiting (image_parts None attributes)
described attributes a e c f =
    let alt : List ℕ = text_of (codes "alt") attributes in
    let u : IsUtf8 alt = value-text attributes (codes "alt") a in
    let black : is_blank_text (in_line alt) ≡ false = line-blank alt u (from-not _ e) in
    subst (λ (b : Bool). FineFrom c.is_flat (bound c) waiting (cond b (run_in c (in_line alt) ∷ []) []))
    (sym (filled-black (in_line alt) black))
    (shown-run c.is_flat (bound c) (in_line alt) c.around c.is_code (clean-run (in_line alt) (in_line-clean alt u)) f
    black)

pub image-shows : (o : Option (List ℕ)) (attributes : List AttributePair) → IsSource o → AreTexts attributes
    → image_shows o attributes ≡ true → ShowsInLine (image o attributes)
unfolding node_of
image-shows (Some s) attributes o a e = record {
  no_item = refl;
  shows = λ c f. (
    (
      address-fine s o,
      title_of-fine attributes a,
      in_line-line (text_of (codes "alt") attributes) (value-text attributes (codes "alt") a),
      f,
    ),
    tt,
    fine-nil c.is_flat (bound c),
  );
}
image-shows None attributes o a e = record { no_item = refl; shows = described attributes a e }

pub formula-shows-in-line : (tex : List ℕ) (attributes : List AttributePair) → IsBlack tex
    → ShowsInLine (formula tex false attributes)
unfolding node_of
formula-shows-in-line tex attributes h = record { no_item = refl; shows = math-shows tex h.0 }

pub formula-shows-apart : (tex : List ℕ) (is_alone : Bool) (attributes : List AttributePair) → IsBlack tex
    → is_alone ≡ true → ShowsApart (formula tex is_alone attributes)
unfolding node_of
formula-shows-apart tex is_alone attributes h i = record { no_item = refl; shows = at; follows = behind }
  where
    behind : (c : Context) → FitsIn c → c.is_flat ≡ false
        → FineFrom false (bound c) after (formula_parts tex is_alone c)
    behind c f e =
        subst (λ (b : Bool). FineFrom false (bound c) after (cond b (contexts.apart (whole (math_block tex) ∷ []))
        (math_in_line tex c))) (sym (and-true i (not-false e)))
        (tt, tt, ((math-code tex h.0, omega arith), refl, (tt, tt, tt)))

    at : (c : Context) → FitsIn c → c.is_flat ≡ true
        → FineFrom true (bound c) waiting (formula_parts tex is_alone c)
    at c f e =
        let off : (is_alone && not c.is_flat) ≡ false = and-false is_alone (ap not e) in
        subst (λ (b : Bool). FineFrom true (bound c) waiting (cond b (contexts.apart (whole (math_block tex) ∷ []))
        (math_in_line tex c))) (sym off)
        (subst (λ (flat : Bool). FineFrom flat (bound c) waiting (math_in_line tex c)) e (math-shows tex h.0 c f))

-- ---- a code block that shows

-- something is to see of it
abbrev IsSeen : List ℕ → Type 0
IsSeen s = visible s ≡ [] → ⊥

code-seen : (content : Simples) → AreSound content → code_shows content ≡ true → IsSeen (all_text_among content)
code-seen content u e v =
    none (sym (ap is_filled (sym (all-letters-said content u).is ∙ v)) ∙ e)
  where
    none : is_filled [] ≡ true → ⊥
    none e = grind (arith, nat_tests)

-- lines of code, of which one shows
lines-show : (n : ℕ) (pieces : List (List ℕ)) (around : List Around) → AreUtf8 pieces
    → AllPieces (λ b. not (is_line_feed b) && is_text_character b) pieces → FitAll false [] around
    → (pieces_seen pieces ≡ [] → ⊥) → FineFrom true n waiting (code_parts pieces around)
lines-show n [] around u h f s = absurd (s refl)
lines-show n (t ∷ pieces) around u h f s =
    let run-fine : IsRun t = text-run t u.0
    (all-less (λ b. not (is_line_feed b) && is_text_character b) is_text_character
    (λ b e. (both-true (not (is_line_feed b)) (is_text_character b) e).1) t h.0) in
    test (is_blank_text t)
    (λ e. (
      (run-fine, f),
      tt,
      subst (λ (b : Bool). FineFrom true n (cond b waiting good)
          (edge ∷ code_parts pieces around)) (sym e) (
            tt,
            tt,
            lines-show n pieces around u.1 h.1 f
                (λ v. s (ap (λ x. x ++ pieces_seen pieces) (blank-seen t e) ∙ v)),
          ),
    ))
    (λ e. (
      (run-fine, f),
      tt,
      subst (λ (b : Bool). FineFrom true n (cond b waiting good)
          (edge ∷ code_parts pieces around)) (sym e)
          (tt, tt, code-lines true n pieces around u.1 h.1 f),
    ))

code-black : (content : Simples) → IsClean (all_text_among content) → IsSeen (all_text_among content)
    → is_blank_text (with_line_feeds (all_text_among content)) ≡ false
code-black content h v =
    let all : List ℕ = all_text_among content in
    let s : List ℕ = with_line_feeds all in
    let shows : Shows s (visible all) = feeds-show all (visible all) (shows-itself all h.utf8) in
    test (is_blank_text s) (λ b. absurd (v (sym shows.is ∙ blank-seen s b))) (λ b. b)

verbatim-in-line : (attributes : List AttributePair) (content : Simples) → IsClean (all_text_among content)
    → IsSeen (all_text_among content) → (c : Context) → FitsIn c → c.is_flat ≡ true
    → FineFrom true (bound c) waiting (verbatim_parts attributes content c)
verbatim-in-line attributes content h v c f e =
    let all : List ℕ = all_text_among content in
    let s : List ℕ = with_line_feeds all in
    let shows : Shows s (visible all) = feeds-show all (visible all) (shows-itself all h.utf8) in
    let clean : IsClean s = feeds-clean all h in
    let t : List ℕ = trimmed_text is_line_feed s in
    let trimmed : Shows t (visible s) = trimmed-shows is_line_feed line_feed-white s clean.utf8 in
    let pieces : PiecesShow (lines_of s) (visible t) = pieces-show is_line_feed line_feed-white t trimmed.utf8 in
    let black : is_blank_text s ≡ false = code-black content h v in
    let lines : FineFrom true (bound c) waiting (edge ∷ code_parts (lines_of s) c.around) = (
      tt,
      tt,
      lines-show (bound c) (lines_of s) c.around pieces.texts
          (pieces-pass is_line_feed is_text_character t (seen-trimmed is_line_feed s clean.seen)) f
          (λ n. v (sym shows.is ∙ (sym trimmed.is ∙ (pieces.is ∙ n)))),
    ) in
    subst (λ (b : Bool). FineFrom true (bound c) waiting (cond b (edge ∷ []) (cond c.is_flat
    (edge ∷ code_parts (lines_of s) c.around) (body c s)))) (sym black)
    (subst (λ (b : Bool). FineFrom true (bound c) waiting (cond b
    (edge ∷ code_parts (lines_of s) c.around) (body c s))) (sym e) lines)
  where
    body : Context → List ℕ → List Part
    body c s = contexts.apart (whole (code_block (language_of_block attributes (list_of content) c.near)
        (without_last_line_feed s)) ∷ [])

verbatim-follows : (attributes : List AttributePair) (content : Simples) → IsClean (all_text_among content)
    → IsSeen (all_text_among content) → (c : Context) → FitsIn c → c.is_flat ≡ false
    → FineFrom false (bound c) after (verbatim_parts attributes content c)
verbatim-follows attributes content h v c f e =
    let s : List ℕ = with_line_feeds (all_text_among content) in
    let lines : List Part = edge ∷ code_parts (lines_of s) c.around in
    let body : List Part =
    contexts.apart (whole (code_block (language_of_block attributes (list_of content) c.near)
    (without_last_line_feed s)) ∷ []) in
    subst (λ (b : Bool). FineFrom false (bound c) after (cond b (edge ∷ []) (cond c.is_flat lines body)))
    (sym (code-black content h v))
    (subst (λ (b : Bool). FineFrom false (bound c) after (cond b lines body)) (sym e)
    (tt, tt, ((verbatim-code attributes content c.near h, omega arith), refl, (tt, tt, tt))))

verbatim-shows : (r : Role) (id : ℕ) (facts : Facts) (attributes : List AttributePair) (content : Simples)
    → is_verbatim r ≡ true → IsClean (all_text_among content) → IsSeen (all_text_among content)
    → ShowsApart (element id r facts attributes content)
unfolding node_of
verbatim-shows role.Preformatted id facts attributes content v h s =
    record {
      no_item = refl;
      shows = verbatim-in-line attributes content h s;
      follows = verbatim-follows attributes content h s;
    }
verbatim-shows role.Verbatim id facts attributes content v h s =
    record {
      no_item = refl;
      shows = verbatim-in-line attributes content h s;
      follows = verbatim-follows attributes content h s;
    }
verbatim-shows r id facts attributes content v h s = false-true v

-- ---- out of the link

unlinked-in-line : (t : Simple) → ShowsInLine t → ShowsInLine (unlinked t)
unfolding node_of
unlinked-in-line t s = record {
  no_item = refl;
  shows = unlinked-gives waiting (flow_all (nodes_of (more t none))) (leaf-waits t none s refl);
}

unlinked-apart : (t : Simple) → ShowsApart t → ShowsApart (unlinked t)
unfolding node_of
unlinked-apart t s = record {
  no_item = refl;
  shows = λ c f e.
      let d : Context = contexts.unlinked c in
      let g : FitsIn d = fit-without [] c.around f in
      one-flow t none d (FineFrom true (bound d) waiting) s.no_item refl
      (fine-from true (bound d) waiting ((node_of t).whole d) [] (s.shows d g e) (fine-nil true (bound d)));
  follows = λ c f e.
      let d : Context = contexts.unlinked c in
      let g : FitsIn d = fit-without [] c.around f in
      one-flow t none d (FineFrom false (bound d) after) s.no_item refl
      (fine-from false (bound d) after ((node_of t).whole d) [] (s.follows d g e) (fine-nil false (bound d)));
}

-- ---- all text stays

unlinked-text : (t : Simple) → all_text (unlinked t) ≡ all_text t
unlinked-text t = append-nil (all_text t)

leaf-text : (p : Pieces) (t : Simple) → all_text (cut_leaf p t) ≡ all_text t
leaf-text p t = either (not (is_unseen t) && nat_lt most_linked (after_leaf p t).count)
  where
    either : (b : Bool) → all_text (cond b (unlinked t) t) ≡ all_text t
    either true = unlinked-text t
    either false = refl

both-texts : (t u : Simple) (ts us : Simples) → all_text t ≡ all_text u → all_text_among ts ≡ all_text_among us
    → all_text t ++ all_text_among ts ≡ all_text u ++ all_text_among us
both-texts t u ts us e f = ap (λ s. s ++ all_text_among ts) e ∙ ap (λ s. all_text u ++ s) f

mutual
  cut-text : (p : Pieces) (t : Simple) → all_text (cut p t) ≡ all_text t
  cut-text p (text s) = leaf-text p (text s)
  cut-text p (image o attributes) = leaf-text p (image o attributes)
  cut-text p (formula tex is_alone attributes) = leaf-text p (formula tex is_alone attributes)
  cut-text p (embedded id place title attributes ids) = leaf-text p (embedded id place title attributes ids)
  cut-text p (anchor id) = refl
  cut-text p (element id r facts attributes content) =
      either (is_verbatim r) (is_line_break r) (all-cut-text (at_edge r p) content)
    where
      t : Simple
      t = element id r facts attributes content

      either : (b d : Bool) → all_text_among (cut_all (at_edge r p) content) ≡ all_text_among content
          → all_text (cond b (cut_leaf p t) (element id r facts attributes
          (cond d content (cut_all (at_edge r p) content)))) ≡ all_text t
      either true d e = leaf-text p t
      either false true e = refl
      either false false e = ap (text_in r) e

  all-cut-text : (p : Pieces) (ts : Simples) → all_text_among (cut_all p ts) ≡ all_text_among ts
  all-cut-text p none = refl
  all-cut-text p (more t ts) =
      both-texts (cut p t) t (cut_all (pieces_after p t) ts) ts (cut-text p t) (all-cut-text (pieces_after p t) ts)

mutual
  pieced-text : (t : Simple) → all_text (pieced t) ≡ all_text t
  pieced-text (text s) = refl
  pieced-text (image o attributes) = refl
  pieced-text (formula tex is_alone attributes) = refl
  pieced-text (embedded id place title attributes ids) = refl
  pieced-text (anchor id) = refl
  pieced-text (element id r facts attributes content) =
      ap (text_in r) (either (is_link r) (all-pieced-text content))
    where
      either : (b : Bool) → all_text_among (pieced_all content) ≡ all_text_among content
          → all_text_among (cond b (cut_all no_pieces content) (pieced_all content)) ≡ all_text_among content
      either true e = all-cut-text no_pieces content
      either false e = e

  all-pieced-text : (ts : Simples) → all_text_among (pieced_all ts) ≡ all_text_among ts
  all-pieced-text none = refl
  all-pieced-text (more t ts) =
      both-texts (pieced t) t (pieced_all ts) ts (pieced-text t) (all-pieced-text ts)

-- ---- anchors stay

cut-ids : (p : Pieces) (ts : Simples) → AreIds ts → AreIds (cut_all p ts)
cut-ids p none h = tt
cut-ids p (more (anchor id) ts) h = (h.0, cut-ids (pieces_after p (anchor id)) ts h.1)
cut-ids p (more (text s) ts) h = absurd h
cut-ids p (more (image o attributes) ts) h = absurd h
cut-ids p (more (formula tex is_alone attributes) ts) h = absurd h
cut-ids p (more (embedded id place title attributes ids) ts) h = absurd h
cut-ids p (more (element id r facts attributes content) ts) h = absurd h

pub pieced-ids : (ts : Simples) → AreIds ts → AreIds (pieced_all ts)
pieced-ids none h = tt
pieced-ids (more (anchor id) ts) h = (h.0, pieced-ids ts h.1)
pieced-ids (more (text s) ts) h = absurd h
pieced-ids (more (image o attributes) ts) h = absurd h
pieced-ids (more (formula tex is_alone attributes) ts) h = absurd h
pieced-ids (more (embedded id place title attributes ids) ts) h = absurd h
pieced-ids (more (element id r facts attributes content) ts) h = absurd h

no-more : (f : Simples → Simples) (ts : Simples) → ts ≡ none → f none ≡ none → f ts ≡ none
no-more f ts e g = ap f e ∙ g

-- ---- nodes

unlinked-fine : (t : Simple) → IsFine t → IsFine (unlinked t)
unlinked-fine t h = (no-texts, tt, inl (h, tt))

leaf-fine : (p : Pieces) (t : Simple) → IsFine t → IsFine (cut_leaf p t)
leaf-fine p t h = either (not (is_unseen t) && nat_lt most_linked (after_leaf p t).count)
  where
    either : (b : Bool) → IsFine (cond b (unlinked t) t)
    either true = unlinked-fine t h
    either false = h

leaf-in-line : (p : Pieces) (t : Simple) → ShowsInLine t → ShowsInLine (cut_leaf p t)
leaf-in-line p t h = either (not (is_unseen t) && nat_lt most_linked (after_leaf p t).count)
  where
    either : (b : Bool) → ShowsInLine (cond b (unlinked t) t)
    either true = unlinked-in-line t h
    either false = h

leaf-apart : (p : Pieces) (t : Simple) → ShowsApart t → ShowsApart (cut_leaf p t)
leaf-apart p t h = either (not (is_unseen t) && nat_lt most_linked (after_leaf p t).count)
  where
    either : (b : Bool) → ShowsApart (cond b (unlinked t) t)
    either true = unlinked-apart t h
    either false = h

-- one leaf, whatever it is
led-one : (t : Simple) (ts : Simples) → IsFine t → ShowsInLine t → ts ≡ none → IsLed (more t ts)
led-one (text s) ts h s' e = (h, s', e)
led-one (image o attributes) ts h s e = (h, s, e)
led-one (formula tex is_alone attributes) ts h s e = (h, s, e)
led-one (embedded id place title attributes ids) ts h s e = (h, s, e)
led-one (anchor id) ts h s e = absurd h
led-one (element id r facts attributes content) ts h s e = (h, s, e)

formula-in-line : (tex : List ℕ) (is_alone : Bool) (attributes : List AttributePair) → IsBlack tex
    → is_alone ≡ false → ShowsInLine (formula tex is_alone attributes)
formula-in-line tex is_alone attributes h e =
    subst (λ (b : Bool). ShowsInLine (formula tex b attributes)) (sym e) (formula-shows-in-line tex attributes h)

-- a code block with other content that says the same
code-apart : (r : Role) (id : ℕ) (facts : Facts) (attributes : List AttributePair) (content content' : Simples)
    → AreSound content → IsFine (element id r facts attributes content')
    → all_text_among content' ≡ all_text_among content → is_verbatim r ≡ true → code_shows content ≡ true
    → ShowsApart (element id r facts attributes content')
code-apart r id facts attributes content content' u h e v c =
    verbatim-shows r id facts attributes content' v (content-text r content' h.2)
    (λ n. code-seen content u c (sym (ap visible e) ∙ n))

content-same : (r : Role) (content : Simples)
    → all_text_among (cond (is_link r) (cut_all no_pieces content) (pieced_all content)) ≡ all_text_among content
content-same r content = either (is_link r)
  where
    either : (b : Bool)
        → all_text_among (cond b (cut_all no_pieces content) (pieced_all content)) ≡ all_text_among content
    either true = all-cut-text no_pieces content
    either false = all-pieced-text content

abbrev Stands : Role → Simples → Type 0
Stands r content = ArePlaced content ⊎ ((r ≡ role.Plain) × (PlacedLed content ⊎ PlacedApart content))

-- each of its forms as it becomes
stands-by : (r : Role) (content new : Simples) → (ArePlaced content → AreFine new)
    → (PlacedLed content → IsLed new)
    → (PlacedApart content → IsLedApart new) → Stands r content → Content r new
stands-by r content new f g h (inl k) = inl (f k)
stands-by r content new f g h (inr (e, inl k)) = inr (e, inl (g k))
stands-by r content new f g h (inr (e, inr k)) = inr (e, inr (h k))

-- ---- as they are

mutual
  plain-fine : (t : Simple) → IsSound t → IsPlaced t → IsFine t
  plain-fine (text s) u h = h
  plain-fine (image o attributes) u h = h
  plain-fine (formula tex is_alone attributes) u h = h
  plain-fine (embedded id place title attributes ids) u h = h
  plain-fine (anchor id) u h = h
  plain-fine (element id r facts attributes content) u h = (
    h.0,
    h.1,
    stands-by r content content (λ k. all-plain-fine content u.1 k)
        (λ k. plain-led content u.1 k) (λ k. plain-apart content u.1 k) h.2,
  )

  all-plain-fine : (ts : Simples) → AreSound ts → ArePlaced ts → AreFine ts
  all-plain-fine none u h = tt
  all-plain-fine (more t ts) u h = (plain-fine t u.0 h.0, all-plain-fine ts u.1 h.1)

  plain-led : (ts : Simples) → AreSound ts → PlacedLed ts → IsLed ts
  plain-led none u h = absurd h
  plain-led (more (anchor id) ts) u h = (h.0, plain-led ts u.1 h.1)
  plain-led (more (text s) ts) u h = (h.0, text-shows s h.0 h.1, h.2)
  plain-led (more (image o attributes) ts) u h = (h.0, image-shows o attributes h.0.0 h.0.1 h.1, h.2)
  plain-led (more (formula tex is_alone attributes) ts) u h =
      (h.0, formula-in-line tex is_alone attributes h.0 h.1, h.2)
  plain-led (more (embedded id place title attributes ids) ts) u h = absurd h.1
  plain-led (more (element id r facts attributes content) ts) u h = absurd h.1

  plain-apart : (ts : Simples) → AreSound ts → PlacedApart ts → IsLedApart ts
  plain-apart (more (element id role.Anchors facts attributes inner) (more t ts)) u h =
      let fine : IsFine t = plain-fine t u.1.0 h.1 in (h.0, fine, plain-shows t u.1.0 fine h.2, h.3)
  plain-apart ts u h = absurd h

  plain-shows : (t : Simple) → IsSound t → IsFine t → LeafApart t → ShowsApart t
  plain-shows (text s) u h l = absurd l
  plain-shows (image o attributes) u h l = absurd l
  plain-shows (formula tex is_alone attributes) u h l = formula-shows-apart tex is_alone attributes h l
  plain-shows (embedded id place title attributes ids) u h l = absurd l
  plain-shows (anchor id) u h l = absurd l
  plain-shows (element id r facts attributes content) u h l =
      code-apart r id facts attributes content content u.1 h refl l.0 l.1

-- ---- in a link

mutual
  cut-fine : (p : Pieces) (t : Simple) → IsSound t → IsPlaced t → IsFine (cut p t)
  cut-fine p (text s) u h = leaf-fine p (text s) h
  cut-fine p (image o attributes) u h = leaf-fine p (image o attributes) h
  cut-fine p (formula tex is_alone attributes) u h = leaf-fine p (formula tex is_alone attributes) h
  cut-fine p (embedded id place title attributes ids) u h = leaf-fine p (embedded id place title attributes ids) h
  cut-fine p (anchor id) u h = absurd h
  cut-fine p (element id r facts attributes content) u h =
      either (is_verbatim r) (is_line_break r) (stands-by r content content (λ k. all-plain-fine content u.1 k)
      (λ k. plain-led content u.1 k) (λ k. plain-apart content u.1 k) h.2)
      (stands-by r content (cut_all (at_edge r p) content)
      (λ k. all-cut-fine (at_edge r p) content u.1 k) (λ k. cut-led (at_edge r p) content u.1 k)
      (λ k. cut-apart (at_edge r p) content u.1 k) h.2)
    where
      t : Simple
      t = element id r facts attributes content

      either : (b d : Bool) → Content r content → Content r (cut_all (at_edge r p) content)
          → IsFine (cond b (cut_leaf p t) (element id r facts attributes
          (cond d content (cut_all (at_edge r p) content))))
      either true d k l = leaf-fine p t (h.0, h.1, k)
      either false true k l = (h.0, h.1, k)
      either false false k l = (h.0, h.1, l)

  all-cut-fine : (p : Pieces) (ts : Simples) → AreSound ts → ArePlaced ts → AreFine (cut_all p ts)
  all-cut-fine p none u h = tt
  all-cut-fine p (more t ts) u h = (cut-fine p t u.0 h.0, all-cut-fine (pieces_after p t) ts u.1 h.1)

  cut-led : (p : Pieces) (ts : Simples) → AreSound ts → PlacedLed ts → IsLed (cut_all p ts)
  cut-led p none u h = absurd h
  cut-led p (more (anchor id) ts) u h = (h.0, cut-led (pieces_after p (anchor id)) ts u.1 h.1)
  cut-led p (more (text s) ts) u h =
      led-one (cut_leaf p (text s)) (cut_all (pieces_after p (text s)) ts) (leaf-fine p (text s) h.0)
      (leaf-in-line p (text s) (text-shows s h.0 h.1)) (no-more (cut_all (pieces_after p (text s))) ts h.2 refl)
  cut-led p (more (image o attributes) ts) u h =
      let t : Simple = image o attributes in
      led-one (cut_leaf p t) (cut_all (pieces_after p t) ts) (leaf-fine p t h.0)
      (leaf-in-line p t (image-shows o attributes h.0.0 h.0.1 h.1))
      (no-more (cut_all (pieces_after p t)) ts h.2 refl)
  cut-led p (more (formula tex is_alone attributes) ts) u h =
      let t : Simple = formula tex is_alone attributes in
      led-one (cut_leaf p t) (cut_all (pieces_after p t) ts) (leaf-fine p t h.0)
      (leaf-in-line p t (formula-in-line tex is_alone attributes h.0 h.1))
      (no-more (cut_all (pieces_after p t)) ts h.2 refl)
  cut-led p (more (embedded id place title attributes ids) ts) u h = absurd h.1
  cut-led p (more (element id r facts attributes content) ts) u h = absurd h.1

  cut-apart : (p : Pieces) (ts : Simples) → AreSound ts → PlacedApart ts → IsLedApart (cut_all p ts)
  cut-apart p (more (element id role.Anchors facts attributes inner) (more t ts)) u h =
      let q : Pieces = pieces_after p (element id role.Anchors facts attributes inner) in (
        cut-ids (at_edge role.Anchors p) inner h.0,
        cut-fine q t u.1.0 h.1,
        cut-shows q t u.1.0 (plain-fine t u.1.0 h.1) h.2,
        no-more (cut_all (pieces_after q t)) ts h.3 refl,
      )
  cut-apart p ts u h = absurd h

  cut-shows : (p : Pieces) (t : Simple) → IsSound t → IsFine t → LeafApart t → ShowsApart (cut p t)
  cut-shows p (text s) u h l = absurd l
  cut-shows p (image o attributes) u h l = absurd l
  cut-shows p (formula tex is_alone attributes) u h l =
      leaf-apart p (formula tex is_alone attributes) (formula-shows-apart tex is_alone attributes h l)
  cut-shows p (embedded id place title attributes ids) u h l = absurd l
  cut-shows p (anchor id) u h l = absurd l
  cut-shows p (element id r facts attributes content) u h l =
      let t : Simple = element id r facts attributes content in
      subst (λ (b : Bool). ShowsApart (cond b (cut_leaf p t) (element id r facts attributes
      (cond (is_line_break r) content (cut_all (at_edge r p) content))))) (sym l.0)
      (leaf-apart p t (code-apart r id facts attributes content content u.1 h refl l.0 l.1))

-- ---- each link around its first pieces

mutual
  pieced-fine : (t : Simple) → IsSound t → IsPlaced t → IsFine (pieced t)
  pieced-fine (text s) u h = h
  pieced-fine (image o attributes) u h = h
  pieced-fine (formula tex is_alone attributes) u h = h
  pieced-fine (embedded id place title attributes ids) u h = h
  pieced-fine (anchor id) u h = h
  pieced-fine (element id r facts attributes content) u h =
      either (is_link r) (stands-by r content (cut_all no_pieces content)
      (λ k. all-cut-fine no_pieces content u.1 k) (λ k. cut-led no_pieces content u.1 k)
      (λ k. cut-apart no_pieces content u.1 k) h.2)
      (stands-by r content (pieced_all content)
      (λ k. all-pieced-fine content u.1 k) (λ k. pieced-led content u.1 k) (λ k. pieced-apart content u.1 k) h.2)
    where
      either : (b : Bool) → Content r (cut_all no_pieces content) → Content r (pieced_all content)
          → IsFine (element id r facts attributes (cond b (cut_all no_pieces content) (pieced_all content)))
      either true k l = (h.0, h.1, k)
      either false k l = (h.0, h.1, l)

  pub all-pieced-fine : (ts : Simples) → AreSound ts → ArePlaced ts → AreFine (pieced_all ts)
  all-pieced-fine none u h = tt
  all-pieced-fine (more t ts) u h = (pieced-fine t u.0 h.0, all-pieced-fine ts u.1 h.1)

  pieced-led : (ts : Simples) → AreSound ts → PlacedLed ts → IsLed (pieced_all ts)
  pieced-led none u h = absurd h
  pieced-led (more (anchor id) ts) u h = (h.0, pieced-led ts u.1 h.1)
  pieced-led (more (text s) ts) u h = (h.0, text-shows s h.0 h.1, no-more pieced_all ts h.2 refl)
  pieced-led (more (image o attributes) ts) u h =
      (h.0, image-shows o attributes h.0.0 h.0.1 h.1, no-more pieced_all ts h.2 refl)
  pieced-led (more (formula tex is_alone attributes) ts) u h =
      (h.0, formula-in-line tex is_alone attributes h.0 h.1, no-more pieced_all ts h.2 refl)
  pieced-led (more (embedded id place title attributes ids) ts) u h = absurd h.1
  pieced-led (more (element id r facts attributes content) ts) u h = absurd h.1

  pieced-apart : (ts : Simples) → AreSound ts → PlacedApart ts → IsLedApart (pieced_all ts)
  pieced-apart (more (element id role.Anchors facts attributes inner) (more t ts)) u h =
      let fine : IsFine (pieced t) = pieced-fine t u.1.0 h.1 in
      (pieced-ids inner h.0, fine, pieced-shows t u.1.0 fine h.2, no-more pieced_all ts h.3 refl)
  pieced-apart ts u h = absurd h

  pieced-shows : (t : Simple) → IsSound t → IsFine (pieced t) → LeafApart t → ShowsApart (pieced t)
  pieced-shows (text s) u h l = absurd l
  pieced-shows (image o attributes) u h l = absurd l
  pieced-shows (formula tex is_alone attributes) u h l = formula-shows-apart tex is_alone attributes h l
  pieced-shows (embedded id place title attributes ids) u h l = absurd l
  pieced-shows (anchor id) u h l = absurd l
  pieced-shows (element id r facts attributes content) u h l =
      code-apart r id facts attributes content (cond (is_link r) (cut_all no_pieces content) (pieced_all content)) u.1 h
      (content-same r content) l.0 l.1
