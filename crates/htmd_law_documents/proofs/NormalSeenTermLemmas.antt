-- Titles, details, figures and lists of terms of rich documents show where something in them does.
use Rattle.std.proofs.Common.{◌≡◌, Bool, true, false, cond, ◌&&◌, ◌||◌, List, [], ◌∷◌, ◌++◌, refl, sym, ap, ◌∙◌, subst}
use Rattle.std.proofs.Common.{fold, map, length, arith}
use Rattle.std.specs.Prelude.{nat_lt}
use Rattle.std.specs.List.{list_any}
use Rattle.std.proofs.lemmas.Bool.Decides.{nat_tests}
use Rattle.htmd_lexical.specs.AttributePairs.{AttributePair}
use Rattle.htmd_lexical.proofs.Cases.{test}
use Rattle.htmd_document.specs.declared.document.BlockElement.{BlockElement}
use Rattle.htmd_document.specs.declared.document.BlockElement.TheVariants as name
use Rattle.htmd_document.specs.Documents.{BlockAttribute, Blocks, no_blocks, block, element, blocks_of}
use Rattle.htmd_document.specs.TightItems.{is_filled}
use Rattle.htmd_shown.specs.declared.role.Role.TheVariants as role
use Rattle.htmd_shown.specs.Kinds.{has, content_of}
use Rattle.htmd_shown.specs.Roles as roles
use Rattle.htmd_shown.specs.Showings.{shows, show}
use Rattle.htmd_shown.specs.SimpleTrees.{Simple, text, image, formula, embedded, anchor, Simples, none, more}
use Rattle.htmd_shown.specs.SimpleTrees as tree
use Rattle.htmd_flow.specs.Contexts.{Context, has_elements, apart}
use Rattle.htmd_flow.specs.Flows.{Node, TermPart, gap, of_node, flow_all, node_of, nodes_of, nodes_below, terms_of}
use Rattle.htmd_flow.specs.Flows.{parts_of_child, element_part, within, around_node, is_title_of, title_element}
use Rattle.htmd_flow.specs.Flows.{as_title, titled, open_attribute, details_parts, shows_title, figure_by, captioned}
use Rattle.htmd_flow.specs.Flows.{figure_parts, Description, Descriptions, no_descriptions, description_with}
use Rattle.htmd_flow.specs.Flows.{onto_last_description, ends_with_term, before_more, with_between, with_described}
use Rattle.htmd_flow.specs.Flows.{with_description, description_element, is_filled_description, element_of_descriptions}
use Rattle.htmd_flow.specs.Flows.{parts_of_descriptions, described_parts, blocks_within}
use Rattle.htmd_flow.specs.Nodes as nodes
use Rattle.htmd_flow.specs.Paragraphs.{begun}
use Rattle.htmd_flow.specs.Parts.{Part, edge, whole}
use Rattle.htmd_flow.specs.Terms.{is_group, is_term_or_meaning}
use Rattle.htmd_flow.specs.Levels.{list_of}
use Rattle.htmd_law_documents.proofs.VisibleLemmas.{both-true}
use Rattle.htmd_law_documents.proofs.NormalTextLemmas.{false-true, true-false}
use Rattle.htmd_law_documents.proofs.NormalFilledLemmas.{Seen, Holds, begun-holds, fed-holds, holds-blocks}
use Rattle.htmd_law_documents.proofs.NormalFilledLemmas.{parts-filled}
use Rattle.htmd_law_documents.proofs.NormalSeenLemmas.{or-none, or-more, any-append, seen-append, seen-as, seen-edge}
use Rattle.htmd_law_documents.proofs.NormalSeenLemmas.{seen-apart, seen-either, Sits, sits-around, sits-elements}
use Rattle.htmd_law_documents.proofs.NormalSeenLemmas.{GivesSeen, SeenAt, AllSeen, IsPlainKind, shows-content}
use Rattle.htmd_law_documents.proofs.NormalSeenLemmas.{show_nodes, flow-seen, show-nodes}

-- ---- elements around blocks

pub element-part-seen : (b : Bool) (title : BlockElement) (attributes : List BlockAttribute) (bs : Blocks)
    → is_filled bs ≡ b → Seen false b (element_part title attributes bs)
element-part-seen true title attributes no_blocks e = false-true e
element-part-seen false title attributes no_blocks e = refl
element-part-seen true title attributes (block b bs) e = refl
element-part-seen false title attributes (block b bs) e = true-false e

-- ---- titles

title-plain : (title : BlockElement) → IsPlainKind (is_title_of title)
title-plain name.Summary role.Summary e = (refl, refl, refl)
title-plain name.Summary r e = false-true e
title-plain name.FigureCaption role.FigureCaption e = (refl, refl, refl)
title-plain name.FigureCaption r e = false-true e
title-plain title r e = false-true e

title-seen : (title : BlockElement) (n : Node) → SeenAt false n → has (is_title_of title) n.tree ≡ true
    → GivesSeen false (shows false n.tree) (title_element title n)
title-seen title n h e c s =
    let own : Bool = show false (content_of n.tree) in
    let d : Context = around_node n.tree c in
    let bs : Blocks = blocks_within n c in
    seen-as false own (shows false n.tree) (apart (element_part title [] bs))
    (sym (shows-content (is_title_of title) (title-plain title) false n.tree e))
    (seen-apart false own (element_part title [] bs)
    (element-part-seen own title [] bs
    (parts-filled false own (n.content d) (h.content d (sits-around n.tree c s)))))

as_title-seen : (title : BlockElement) (n : Node) → SeenAt false n → SeenAt false (as_title title n)
as_title-seen title n h = at (has (is_title_of title) n.tree) (title-seen title n h)
  where
    at : (b : Bool) → (b ≡ true → GivesSeen false (shows false n.tree) (title_element title n))
        → SeenAt false (cond b (record n { whole = title_element title n }) n)
    at true f = record { whole = f refl; content = h.content }
    at false f = h

all-titles-seen : (title : BlockElement) (ns : List Node) → AllSeen false ns
    → AllSeen false (map (as_title title) ns)
all-titles-seen title [] h = tt
all-titles-seen title (n ∷ ns) h = (as_title-seen title n h.0, all-titles-seen title ns h.1)

titles-show : (title : BlockElement) (ns : List Node)
    → show_nodes false (map (as_title title) ns) ≡ show_nodes false ns
titles-show title [] = refl
titles-show title (n ∷ ns) =
    ap (λ t. shows false t || show_nodes false (map (as_title title) ns)) (same (has (is_title_of title) n.tree))
    ∙ ap (λ b. shows false n.tree || b) (titles-show title ns)
  where
    same : (b : Bool) → (cond b (record n { whole = title_element title n }) n).tree ≡ n.tree
    same true = refl
    same false = refl

titled-seen : (title : BlockElement) (ns : List Node) → AllSeen false ns
    → GivesSeen false (show_nodes false ns) (titled title ns)
titled-seen title ns h c s =
    seen-as false (show_nodes false (map (as_title title) ns)) (show_nodes false ns) (titled title ns c)
    (titles-show title ns)
    (flow-seen false (map (as_title title) ns) (all-titles-seen title ns h) c s)

-- ---- details and figures

pub details-seen : (flat : Bool) (attributes : List AttributePair) (ns : List Node) → AllSeen flat ns
    → GivesSeen flat (show_nodes flat ns) (details_parts attributes ns)
details-seen true attributes ns h c s =
    let b : Bool = show_nodes true ns in
    let inside : List Part =
    element_part name.Details (open_attribute attributes) (nodes.blocks_of false (titled name.Summary ns c)) in
    seen-apart true b (cond (has_elements c) inside (flow_all ns c))
    (seen-either true b (has_elements c) inside (flow_all ns c) (λ e. false-true (sym (sits-elements true c s) ∙ e))
    (λ e. flow-seen true ns h c s))
details-seen false attributes ns h c s =
    let b : Bool = show_nodes false ns in
    let bs : Blocks = nodes.blocks_of false (titled name.Summary ns c) in
    let inside : List Part = element_part name.Details (open_attribute attributes) bs in
    seen-apart false b (cond (has_elements c) inside (flow_all ns c))
    (seen-either false b (has_elements c) inside (flow_all ns c)
    (λ e. element-part-seen b name.Details (open_attribute attributes) bs
    (parts-filled false b (titled name.Summary ns c) (titled-seen name.Summary ns h c s)))
    (λ e. flow-seen false ns h c s))

captioned-seen : (ns : List Node) → AllSeen false ns → GivesSeen false (show_nodes false ns) (captioned ns)
captioned-seen ns h c s = at (list_any (λ (n : Node). shows_title name.FigureCaption n.tree) ns)
  where
    ps : List Part
    ps = titled name.FigureCaption ns c

    seen : Seen false (show_nodes false ns) ps
    seen = titled-seen name.FigureCaption ns h c s

    at : (b : Bool) → Seen false (show_nodes false ns) (figure_by b ps)
    at true =
        element-part-seen (show_nodes false ns) name.Figure [] (nodes.blocks_of false ps)
        (parts-filled false (show_nodes false ns) ps seen)
    at false = seen

pub figure-seen : (flat : Bool) (ns : List Node) → AllSeen flat ns
    → GivesSeen flat (show_nodes flat ns) (figure_parts ns)
figure-seen true ns h c s =
    let b : Bool = show_nodes true ns in
    seen-apart true b (cond (has_elements c) (captioned ns c) (flow_all ns c))
    (seen-either true b (has_elements c) (captioned ns c) (flow_all ns c)
    (λ e. false-true (sym (sits-elements true c s) ∙ e))
    (λ e. flow-seen true ns h c s))
figure-seen false ns h c s =
    let b : Bool = show_nodes false ns in
    seen-apart false b (cond (has_elements c) (captioned ns c) (flow_all ns c))
    (seen-either false b (has_elements c) (captioned ns c) (flow_all ns c) (λ e. captioned-seen ns h c s)
    (λ e. flow-seen false ns h c s))

-- ---- terms and what they mean

abbrev TermSeen : TermPart → Type 0
TermSeen gap = Unit {0}
TermSeen (of_node n) = SeenAt false n

abbrev pub TermsSeen : List TermPart → Type 0
TermsSeen [] = Unit {0}
TermsSeen (p ∷ ps) = TermSeen p × TermsSeen ps

pub terms-seen-append : (xs ys : List TermPart) → TermsSeen xs → TermsSeen ys → TermsSeen (xs ++ ys)
terms-seen-append [] ys g h = h
terms-seen-append (x ∷ xs) ys g h = (g.0, terms-seen-append xs ys g.1 h)

pub nodes-terms-seen : (ns : List Node) → AllSeen false ns → TermsSeen (map of_node ns)
nodes-terms-seen [] h = tt
nodes-terms-seen (n ∷ ns) h = (h.0, nodes-terms-seen ns h.1)

abbrev term_shows : TermPart → Bool
term_shows gap = false
term_shows (of_node n) = shows false n.tree

abbrev terms_show : List TermPart → Bool
terms_show ps = list_any term_shows ps

-- what is begun shows, or nothing of it does
abbrev DescribedAre : Bool → List Description → Type 0
DescribedAre b [] = b ≡ false
DescribedAre b (d ∷ ds) =
    (x : Bool) × (y : Bool) × (b ≡ (x || y)) × Holds false x d.content × DescribedAre y ds

are-append : (a b : Bool) (xs ys : List Description) → DescribedAre a xs → DescribedAre b ys
    → DescribedAre (a || b) (xs ++ ys)
are-append a b [] ys h k = subst (λ (v : Bool). DescribedAre (v || b) ys) (sym h) k
are-append a b (x ∷ xs) ys h k = (
  h.0,
  h.1 || b,
  ap (λ v. v || b) h.2 ∙ sym (or-more h.0 h.1 b),
  h.3,
  are-append h.1 b xs ys h.4 k,
)

one-are : (b is_term : Bool) (ps : List Part) → Seen false b ps
    → DescribedAre b (description_with is_term ps ∷ [])
one-are b is_term ps s =
    (b, false, sym (or-none b), fed-holds false false b ps (begun false false) (begun-holds false false) s, refl)

some-length : (d : Description) (ds : List Description) → nat_lt 0 (length (d ∷ ds)) ≡ true
some-length d ds = grind (arith, nat_tests)

none-length : nat_lt 0 0 ≡ true → ⊥
none-length e = grind (arith, nat_tests)

last-are : (a b : Bool) (ds : List Description) (ps : List Part) → nat_lt 0 (length ds) ≡ true
    → DescribedAre a ds → Seen false b ps → DescribedAre (a || b) (onto_last_description ds ps)
last-are a b [] ps some h s = absurd (none-length some)
last-are a b (d ∷ []) ps some h s =
    let x : Bool = h.0 in (
      x || b,
      false,
      ap (λ v. v || b) (h.2 ∙ (ap (λ v. x || v) h.4 ∙ or-none x)) ∙ sym (or-none (x || b)),
      fed-holds false x b ps d.content h.3 s,
      refl,
    )
last-are a b (d ∷ next ∷ ds) ps some h s = (
  h.0,
  h.1 || b,
  ap (λ v. v || b) h.2 ∙ sym (or-more h.0 h.1 b),
  h.3,
  last-are h.1 b (next ∷ ds) ps (some-length next ds) h.4 s,
)

more-are : (a showing : Bool) (ds : List Description) → DescribedAre a ds → DescribedAre a (before_more showing ds)
more-are a showing ds h = at (showing && ends_with_term ds)
  where
    at : (b : Bool) → DescribedAre a (cond b (ds ++ description_with false [] ∷ []) ds)
    at true =
        subst (λ (v : Bool). DescribedAre v (ds ++ description_with false [] ∷ [])) (or-none a)
        (are-append a false ds (description_with false [] ∷ []) h (one-are false false [] refl))
    at false = h

more-some : (showing : Bool) (ds : List Description) → nat_lt 0 (length ds) ≡ true
    → nat_lt 0 (length (before_more showing ds)) ≡ true
more-some showing [] some = absurd (none-length some)
more-some showing (d ∷ ds) some = at (showing && ends_with_term (d ∷ ds))
  where
    at : (b : Bool)
        → nat_lt 0 (length (cond b ((d ∷ ds) ++ description_with false [] ∷ []) (d ∷ ds))) ≡ true
    at true = some-length d (ds ++ description_with false [] ∷ [])
    at false = some

filled-are : (b : Bool) (ds : List Description) → DescribedAre b ds → list_any is_filled_description ds ≡ b
filled-are b [] h = sym h
filled-are b (d ∷ ds) h =
    ap (λ x. x || list_any is_filled_description ds) (holds-blocks h.0 d.content h.3)
    ∙ (ap (λ x. h.0 || x) (filled-are h.1 ds h.4) ∙ sym h.2)

record StateIs (b : Bool) (d : Descriptions) : Type 0 where
  outside : Bool
  inside : Bool
  same : b ≡ (outside || inside)
  before : Seen false outside d.before
  begun : DescribedAre inside d.begun

term-plain : IsPlainKind roles.is_term
term-plain role.Term e = (refl, refl, refl)
term-plain r e = false-true e

meaning-plain : IsPlainKind roles.is_meaning
meaning-plain role.Meaning e = (refl, refl, refl)
meaning-plain r e = false-true e

module _ (c : Context) (s : Sits false c) where
  either-is : (x b : Bool) (d e : Descriptions) → (x ≡ true → StateIs b d) → (x ≡ false → StateIs b e)
      → StateIs b (cond x d e)
  either-is true b d e g h = g refl
  either-is false b d e g h = h refl

  between-is : (b : Bool) (d : Descriptions) (n : Node) → SeenAt false n → StateIs b d
      → StateIs (b || shows false n.tree) (with_between c d n)
  between-is b d n k h =
      let own : Bool = shows false n.tree in
      let ps : List Part = flow_all (n ∷ []) c in
      let seen : Seen false own ps =
      seen-as false (own || false) own ps (or-none own) (flow-seen false (n ∷ []) (k, tt) c s) in
      let ds : List Description = before_more own d.begun in
      either-is (nat_lt 0 (length d.begun)) (b || own)
      (record d { begun = onto_last_description ds (edge ∷ ps) }) (record d { before = d.before ++ ps })
      (λ e. record {
        outside = h.outside;
        inside = h.inside || own;
        same = ap (λ v. v || own) h.same ∙ sym (or-more h.outside h.inside own);
        before = h.before;
        begun = last-are h.inside own ds (edge ∷ ps) (more-some own d.begun e)
            (more-are h.inside own d.begun h.begun) (seen-edge false own ps seen);
      })
      (λ e. record {
        outside = h.outside || own;
        inside = h.inside;
        same = ap (λ v. v || own) h.same ∙ turned h.outside h.inside own;
        before = seen-append false h.outside own d.before ps h.before seen;
        begun = h.begun;
      })
    where
      turned : (x y z : Bool) → ((x || y) || z) ≡ ((x || z) || y)
      turned true y z = refl
      turned false true true = refl
      turned false true false = refl
      turned false false true = refl
      turned false false false = refl

  described-is : (b : Bool) (d : Descriptions) (n : Node) → SeenAt false n → StateIs b d
      → StateIs (b || shows false n.tree) (with_described c d n)
  described-is b d n k h =
      let t : Simple = n.tree in
      let own : Bool = shows false t in
      let ps : List Part = within n c in
      let one : Description = description_with (has roles.is_term t) ps in
      either-is (has roles.is_term t || has roles.is_meaning t) (b || own) (record d { begun = d.begun ++ one ∷ [] })
      (with_between c d n)
      (λ e.
      let same : own ≡ show false (content_of t) =
      test (has roles.is_term t) (λ i. shows-content roles.is_term term-plain false t i)
      (λ i. shows-content roles.is_meaning meaning-plain false t
      (sym (ap (λ v. v || has roles.is_meaning t) i) ∙ e)) in
      let seen : Seen false own ps =
      seen-as false (show false (content_of t)) own ps (sym same)
      (k.content (around_node t c) (sits-around t c s)) in
      record {
        outside = h.outside;
        inside = h.inside || own;
        same = ap (λ v. v || own) h.same ∙ sym (or-more h.outside h.inside own);
        before = h.before;
        begun = are-append h.inside own d.begun (one ∷ []) h.begun (one-are own (has roles.is_term t) ps seen);
      })
      (λ e. between-is b d n k h)

  description-is : (b : Bool) (d : Descriptions) (p : TermPart) → TermSeen p → StateIs b d
      → StateIs (b || term_shows p) (with_description c d p)
  description-is b d gap k h = subst (λ (v : Bool). StateIs v d) (sym (or-none b)) h
  description-is b d (of_node n) k h = described-is b d n k h

  all-are : (ps : List TermPart) (b : Bool) (d : Descriptions) → TermsSeen ps → StateIs b d
      → StateIs (b || terms_show ps) (fold (with_description c) d ps)
  all-are [] b d k h = subst (λ (v : Bool). StateIs v d) (sym (or-none b)) h
  all-are (p ∷ ps) b d k h =
      subst (λ (v : Bool). StateIs v (fold (with_description c) (with_description c d p) ps))
      (sym (or-more b (term_shows p) (terms_show ps)))
      (all-are ps (b || term_shows p) (with_description c d p) k.1 (description-is b d p k.0 h))

  list-seen : (b : Bool) (ds : List Description) → DescribedAre b ds → Seen false b (element_of_descriptions ds)
  list-seen b ds h = at (list_any is_filled_description ds) b (filled-are b ds h)
    where
      at : (x b : Bool) → x ≡ b
          → Seen false b
          (cond x (whole (element name.Terms [] (blocks_of (map description_element ds))) ∷ []) [])
      at true true e = refl
      at true false e = true-false e
      at false true e = false-true e
      at false false e = refl

pub described-seen : (ps : List TermPart) → TermsSeen ps → GivesSeen false (terms_show ps) (described_parts ps)
described-seen ps k c s =
    let h : StateIs (terms_show ps) (fold (with_description c) no_descriptions ps) =
    all-are c s ps false no_descriptions k
    (record { outside = false; inside = false; same = refl; before = refl; begun = refl }) in
    let d : Descriptions = fold (with_description c) no_descriptions ps in
    let list : List Part = element_of_descriptions d.begun in
    seen-as false (h.outside || h.inside) (terms_show ps) (parts_of_descriptions d) (sym h.same)
    (seen-append false h.outside h.inside (edge ∷ d.before) (apart list)
    (seen-edge false h.outside d.before h.before)
    (seen-apart false h.inside list (list-seen c s h.inside d.begun h.begun)))

-- ---- terms among nodes

division-plain : IsPlainKind roles.is_division
division-plain role.Division e = (refl, refl, refl)
division-plain r e = false-true e

terms-show-nodes : (ns : List Node) → terms_show (map of_node ns) ≡ show_nodes false ns
terms-show-nodes [] = refl
terms-show-nodes (n ∷ ns) = ap (λ b. shows false n.tree || b) (terms-show-nodes ns)

term-shown : (t : Simple) → shows false t ≡ terms_show (parts_of_child (node_of t) (nodes_below t))
unfolding node_of
term-shown (tree.element id r facts attributes content) =
    let t : Simple = tree.element id r facts attributes content in
    let ns : List Node = nodes_of content in
    let n : Node = node_of t in
    test (is_group t)
    (λ e. subst (λ (b : Bool). shows false t
    ≡ terms_show (cond b (gap ∷ map of_node ns ++ gap ∷ []) (of_node n ∷ []))) (sym e)
    (shows-content roles.is_division division-plain false t
    (both-true (has roles.is_division t) (list_any is_term_or_meaning (list_of content)) e).0
    ∙ (show-nodes false content
    ∙ (sym (terms-show-nodes ns)
    ∙ (sym (or-none (terms_show (map of_node ns)))
    ∙ sym (any-append term_shows (gap ∷ map of_node ns) (gap ∷ [])))))))
    (λ e. subst (λ (b : Bool). shows false t
    ≡ terms_show (cond b (gap ∷ map of_node ns ++ gap ∷ []) (of_node n ∷ []))) (sym e)
    (sym (or-none (shows false t))))
term-shown (text s) = sym (or-none (shows false (text s)))
term-shown (image address attributes) = sym (or-none (shows false (image address attributes)))
term-shown (formula tex is_alone attributes) = refl
term-shown (embedded id address title attributes ids) = refl
term-shown (anchor id) = refl

pub terms-shown : (ts : Simples) → show false ts ≡ terms_show (terms_of ts)
unfolding node_of
terms-shown none = refl
terms-shown (more t ts) =
    ap (λ b. b || show false ts) (term-shown t)
    ∙ (ap (λ b. terms_show (parts_of_child (node_of t) (nodes_below t)) || b) (terms-shown ts)
    ∙ sym (any-append term_shows (parts_of_child (node_of t) (nodes_below t)) (terms_of ts)))
