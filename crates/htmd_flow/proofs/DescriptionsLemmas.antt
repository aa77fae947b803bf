-- Terms and what they mean in rich documents, one after another.
use Rattle.std.proofs.Common.{◌≡◌, ℕ, ◌+◌, ◌<◌, Bool, true, false, cond, ◌&&◌, ◌||◌, nat_lt, List, [], ◌∷◌, ◌++◌}
use Rattle.std.proofs.Common.{length, get_or, drop, take, map, fold, refl, sym, ap, ◌∙◌, arith, subst}
use Rattle.std.proofs.lemmas.Bool.Decides.{nat_tests}
use Rattle.std.proofs.Common.{◌-◌, suc, zero, Vec, Global}
use Rattle.std.proofs.lemmas.List.{append-nil, append_assoc, length-drop, length-take-le, map-append, map_push}
use Rattle.std.proofs.lemmas.List.Sums.{fold-append}
use Rattle.htmd_shown.specs.declared.simple.Simple.{Simple}
use Rattle.htmd_shown.specs.Kinds.{has, content_of}
use Rattle.htmd_shown.specs.Roles as roles
use Rattle.htmd_shown.specs.Showings.{shows}
use Rattle.htmd_shown.specs.SimpleTrees as value
use Rattle.htmd_shown.specs.SimpleViews.{simple_of, simples_of}
use Rattle.htmd_flow.specs.declared.descriptions.Description as source
use Rattle.htmd_flow.specs.declared.descriptions.Descriptions as sources
use Rattle.htmd_flow.specs.Contexts.{Context}
use Rattle.std.specs.List.{list_any}
use Rattle.htmd_document.specs.declared.document.Block as blocks
use Rattle.htmd_document.specs.declared.document.Block.{Block}
use Rattle.htmd_document.specs.declared.document.BlockAttribute as attribute
use Rattle.htmd_document.specs.Documents as documents
use Rattle.htmd_document.specs.DocumentViews.{attribute_of, block_of, blocks_of}
use Rattle.htmd_document.specs.declared.document.BlockElement.TheVariants as name
use Rattle.htmd_flow.specs.DescriptionViews.{AreSo, AreDescribed, begun_in, description_of, is_filled_element}
use Rattle.htmd_flow.specs.Flows as spec
use Rattle.htmd_flow.specs.Flows.{Description, Descriptions, TermPart, of_node, before_more, onto_last_description}
use Rattle.htmd_flow.specs.Flows.{with_description, with_described, with_between, description_with, ends_with_term}
use Rattle.htmd_flow.specs.Flows.{flow_all, within, gap, node_of, nodes_below, parts_of_child, terms_of}
use Rattle.htmd_flow.specs.FlowViews.{node_at, nodes_at}
use Rattle.htmd_flow.specs.ParagraphViews.{writing_in}
use Rattle.htmd_flow.specs.Paragraphs.{Writing, fed_all, begun}
use Rattle.htmd_flow.specs.Parts.{Part, edge, whole}
use Rattle.htmd_flow.specs.Terms.{is_group}
use Rattle.htmd_flow.specs.TermViews.{parts_at}
use Rattle.htmd_flow.proofs.BlocksLemmas.{block-element}
use Rattle.htmd_flow.proofs.FeedLemmas.{fed-append}
use Rattle.htmd_flow.proofs.NodesLemmas.{tree_is}
use Rattle.htmd_flow.proofs.TermsLemmas.{parts_of_group, parts_shape}

module _ (context : Context) where
  pub described_none : (w : Writing) (old : sources.Descriptions) → AreDescribed context [] w old w old
  described_none w old v d h = h

  pub described_both : (ps qs : List TermPart) (w u v : Writing) (a b c : sources.Descriptions)
      → AreDescribed context ps w a u b → AreDescribed context qs u b v c
      → AreDescribed context (ps ++ qs) w a v c
  described_both ps qs w u v a b c f g x d h =
      subst (λ e. AreSo x e v c) (sym (fold-append (with_description context) d ps qs))
      (g x (fold (with_description context) d ps) (f x d h))

  pub described_as : (ps qs : List TermPart) (w v : Writing) (a c : sources.Descriptions) → ps ≡ qs
      → AreDescribed context ps w a v c → AreDescribed context qs w a v c
  described_as ps qs w v a c e h = subst (λ rs. AreDescribed context rs w a v c) e h

  -- ---- a term, or what one means

  either : (n : Simple) → (has roles.is_term (simple_of n) || has roles.is_meaning (simple_of n))
      ≡ (has roles.is_term (node_at n).tree || has roles.is_meaning (node_at n).tree)
  either n = ap (λ t. has roles.is_term t || has roles.is_meaning t) (sym (tree_is (simple_of n)))

  pub described_one : (n : Simple) (is_term : Bool) (w : Writing) (old new : sources.Descriptions)
      (made : source.Description)
      → (has roles.is_term (simple_of n) || has roles.is_meaning (simple_of n)) ≡ true
      → is_term ≡ has roles.is_term (simple_of n) → made.is_term ≡ is_term
      → writing_in made.content ≡ fed_all (begun false false) (within (node_at n) context)
      → begun_in new ≡ begun_in old ++ description_of made ∷ []
      → AreDescribed context (map of_node (nodes_at (n ∷ []))) w old w new
  described_one n is_term w old new made h t m c e v d so =
      let node = node_at n in
      let more = description_with (has roles.is_term node.tree) (within node context) in
      let same : description_of made ≡ more =
      ap (λ b. record { is_term = b; content = writing_in made.content })
      (m ∙ t ∙ ap (has roles.is_term) (sym (tree_is (simple_of n))))
      ∙ ap {B = Description} (λ x. record { is_term = has roles.is_term node.tree; content = x }) c in
      let with_more : Descriptions = record d { begun = d.begun ++ more ∷ [] } in
      subst (λ x. AreSo v x w new)
      (sym (ap (λ b. cond b with_more (with_between context d node)) (sym (either n) ∙ h)))
      (record {
        out = so.out;
        begun = e ∙ ap (λ xs. xs ++ description_of made ∷ []) so.begun ∙ ap (λ x. d.begun ++ x ∷ []) same;
      })

  -- ---- what stands between

  between_is : (n : Simple) (d : Descriptions)
      → (has roles.is_term (simple_of n) || has roles.is_meaning (simple_of n)) ≡ false
      → with_described context d (node_at n) ≡ with_between context d (node_at n)
  between_is n d h =
      let node = node_at n in
      ap (λ b. cond b (record d {
        begun = d.begun ++ description_with (has roles.is_term node.tree) (within node context) ∷ [];
      }) (with_between context d node)) (sym (either n) ∙ h)

  pub described_before : (n : Simple) (w v : Writing) (old new : sources.Descriptions)
      → (has roles.is_term (simple_of n) || has roles.is_meaning (simple_of n)) ≡ false
      → begun_in old ≡ [] → begun_in new ≡ begun_in old
      → v ≡ fed_all w (flow_all (nodes_at (n ∷ [])) context)
      → AreDescribed context (map of_node (nodes_at (n ∷ []))) w old v new
  described_before n w v old new h none kept e x d so =
      let node = node_at n in
      let empty : d.begun ≡ [] = sym so.begun ∙ none in
      let outside : Descriptions = record d { before = d.before ++ flow_all (node ∷ []) context } in
      let inside : Descriptions = record d {
        begun = onto_last_description (before_more (shows false node.tree) d.begun)
            (edge ∷ flow_all (node ∷ []) context);
      } in
      subst (λ y. AreSo x y v new)
      (sym (between_is n d h
      ∙ ap (λ b. cond b inside outside) (ap (λ xs. nat_lt 0 (length xs)) empty)))
      (record {
        out = e ∙ ap (λ u. fed_all u (flow_all (node ∷ []) context)) so.out
            ∙ sym (fed-append x d.before (flow_all (node ∷ []) context));
        begun = kept ∙ so.begun;
      })

  onto_end : (ds : List Description) (d : Description) (parts : List Part)
      → onto_last_description (ds ++ d ∷ []) parts ≡ ds ++ (record d { content = fed_all d.content parts }) ∷ []
  onto_end [] d parts = refl
  onto_end (e ∷ []) d parts = refl
  onto_end (e ∷ f ∷ ds) d parts = ap (λ xs. e ∷ xs) (onto_end (f ∷ ds) d parts)

  some_begun : (b : Bool) (xs ys : List Description) (y : Description) → before_more b xs ≡ ys ++ y ∷ []
      → nat_lt 0 (length xs) ≡ true
  some_begun true [] [] y e = (cc)
  some_begun true [] (z ∷ ys) y e = (cc)
  some_begun false [] [] y e = (cc)
  some_begun false [] (z ∷ ys) y e = (cc)
  some_begun b (x ∷ xs) ys y e = grind (arith, nat_tests)

  pub described_within : (n : Simple) (w : Writing) (old taken new : sources.Descriptions)
      (last made : source.Description)
      → (has roles.is_term (simple_of n) || has roles.is_meaning (simple_of n)) ≡ false
      → before_more (shows false (simple_of n)) (begun_in old) ≡ begun_in taken ++ description_of last ∷ []
      → begun_in new ≡ begun_in taken ++ description_of made ∷ []
      → made.is_term ≡ last.is_term
      → writing_in made.content ≡ fed_all (writing_in last.content)
      (edge ∷ flow_all (nodes_at (n ∷ [])) context)
      → AreDescribed context (map of_node (nodes_at (n ∷ []))) w old w new
  described_within n w old taken new last made h out put t c x d so =
      let node = node_at n in
      let parts = edge ∷ flow_all (node ∷ []) context in
      let all : before_more (shows false node.tree) d.begun ≡ begun_in taken ++ description_of last ∷ [] =
      ap (λ s. before_more (shows false s) d.begun) (tree_is (simple_of n))
      ∙ ap (before_more (shows false (simple_of n))) (sym so.begun) ∙ out in
      let outside : Descriptions = record d { before = d.before ++ flow_all (node ∷ []) context } in
      let inside : Descriptions =
      record d { begun = onto_last_description (before_more (shows false node.tree) d.begun) parts } in
      let same : description_of made
      ≡ record (description_of last) { content = fed_all (description_of last).content parts } =
      ap (λ b. record { is_term = b; content = writing_in made.content }) t
      ∙ ap {B = Description} (λ y. record { is_term = last.is_term; content = y }) c in
      subst (λ y. AreSo x y w new)
      (sym (between_is n d h
      ∙ ap (λ b. cond b inside outside) (some_begun (shows false node.tree) d.begun (begun_in taken)
      (description_of last) all)))
      (record {
        out = so.out;
        begun = put ∙ ap (λ y. begun_in taken ++ y ∷ []) same
            ∙ sym (ap (λ xs. onto_last_description xs parts) all
            ∙ onto_end (begun_in taken) (description_of last) parts);
      })

-- ---- children of the list, one at a time

take_none : {A : Type 0} (n : ℕ) → ◌≡◌ {A = List A} (take n []) []
take_none zero = refl
take_none (suc n) = refl

take_both : {A : Type 0} (k m : ℕ) (xs : List A) → take k xs ++ take m (drop k xs) ≡ take (k + m) xs
take_both zero m xs = ap (λ j. take j xs) (none m)
  where
    none : (n : ℕ) → n ≡ 0 + n
    none n = omega arith
take_both (suc k) m [] = take_none m ∙ sym (take_none (suc k + m))
take_both (suc k) m (x ∷ xs) = ap (λ ys. x ∷ ys) (take_both k m xs) ∙ ap (λ j. take j (x ∷ xs)) (one k m)
  where
    one : (i n : ℕ) → suc (i + n) ≡ suc i + n
    one i n = omega arith

both_terms : (xs ys : List value.Simple) → terms_of (value.simples_of xs) ++ terms_of (value.simples_of ys)
    ≡ terms_of (value.simples_of (xs ++ ys))
unfolding terms_of
both_terms [] ys = refl
both_terms (x ∷ xs) ys =
    append_assoc (parts_of_child (node_of x) (nodes_below x)) (terms_of (value.simples_of xs))
    (terms_of (value.simples_of ys))
    ∙ ap (λ ps. parts_of_child (node_of x) (nodes_below x) ++ ps) (both_terms xs ys)

pub terms_more : (ts : List Simple) (k m : ℕ) → m ≡ 1
    → terms_of (simples_of (take k ts)) ++ terms_of (simples_of (take m (drop k ts)))
    ≡ terms_of (simples_of (take (k + 1) ts))
terms_more ts k m e =
    both_terms (map simple_of (take k ts)) (map simple_of (take m (drop k ts)))
    ∙ ap (λ xs. terms_of (value.simples_of xs)) (sym (map-append simple_of (take k ts) (take m (drop k ts))))
    ∙ ap (λ xs. terms_of (simples_of xs)) (take_both k m ts ∙ ap (λ j. take (k + j) ts) e)

pub nodes_more : (ts : List Simple) (k m : ℕ) → m ≡ 1
    → map of_node (nodes_at (take k ts)) ++ map of_node (nodes_at (take m (drop k ts)))
    ≡ map of_node (nodes_at (take (k + 1) ts))
nodes_more ts k m e =
    sym (map-append of_node (nodes_at (take k ts)) (nodes_at (take m (drop k ts))))
    ∙ ap (map of_node) (sym (map-append node_at (take k ts) (take m (drop k ts))))
    ∙ ap (λ xs. map of_node (nodes_at xs)) (take_both k m ts ∙ ap (λ j. take (k + j) ts) e)

pub one_alone : {A : Type 0} (ts : List A) (k m : ℕ) → k < length ts → m ≡ 1
    → length (take m (drop k ts)) ≡ 1
one_alone ts k m l e =
    let size = length-drop k ts in
    let cut = length-take-le m (drop k ts) (omega (arith, size)) in
    omega (arith, cut)

-- a node alone
pub alone_is : (ts : List Simple) (n : Simple) → length ts ≡ 1 → n ≡ get_or ts 0 n → n ∷ [] ≡ ts
alone_is [] n l e = (cc)
alone_is (t ∷ []) n l e = ap (λ x. x ∷ []) e
alone_is (t ∷ u ∷ ts) n l e = absurd (omega (arith, l))

pub terms_alone : (n : Simple) → parts_at (simple_of n) ≡ terms_of (simples_of (n ∷ []))
unfolding terms_of
terms_alone n = parts_shape (simple_of n)
    ∙ sym (append-nil (parts_of_child (node_of (simple_of n)) (nodes_below (simple_of n))))

pub described_no_terms : (context : Context) (w : Writing) (old : sources.Descriptions)
    → AreDescribed context (terms_of value.none) w old w old
unfolding terms_of
described_no_terms context w old v d h = h

pub described_gap : (context : Context) (w : Writing) (old : sources.Descriptions)
    → AreDescribed context (gap ∷ []) w old w old
described_gap context w old v d h = h

-- those of a group
pub described_group : (context : Context) (n : Simple) (content : List Simple) (w v : Writing)
    (old new : sources.Descriptions) → is_group (simple_of n) ≡ true
    → simples_of content ≡ content_of (simple_of n)
    → AreDescribed context (map of_node (nodes_at content)) w old v new
    → AreDescribed context (parts_at (simple_of n)) w old v new
described_group context n content w v old new h e are =
    let inner = map of_node (nodes_at content) in
    described_as context (gap ∷ inner ++ gap ∷ []) (parts_at (simple_of n)) w v old new
    (sym (parts_of_group (simple_of n) content h e))
    (described_both context (gap ∷ []) (inner ++ gap ∷ []) w w v old old new (described_gap context w old)
    (described_both context inner (gap ∷ []) w v v old new new are (described_gap context v new)))

-- ---- the element of all

pub filled_elements : (ds : List Description)
    → list_any is_filled_element (map spec.description_element ds) ≡ list_any spec.is_filled_description ds
filled_elements [] = refl
filled_elements (d ∷ ds) = ap (λ b. spec.is_filled_description d || b) (filled_elements ds)

pub no_element : (w : Writing) (ds : List Description) → list_any spec.is_filled_description ds ≡ false
    → w ≡ fed_all w (spec.element_of_descriptions ds)
no_element w ds h =
    sym (ap (λ b. fed_all w (cond b (whole (documents.element name.Terms [] (documents.blocks_of
    (map spec.description_element ds))) ∷ []) [])) h)

-- ---- the last one taken out

ends_with : (ds : List Description) (d : Description) → ends_with_term (ds ++ d ∷ []) ≡ d.is_term
ends_with [] d = refl
ends_with (e ∷ []) d = refl
ends_with (e ∷ f ∷ ds) d = ends_with (f ∷ ds) d

taken_by : (shows ends : Bool) (old ds : List Description) (d : Description) → old ≡ ds ++ d ∷ []
    → (shows && d.is_term) ≡ ends
    → before_more shows old ≡ cond ends (old ++ description_with false [] ∷ []) old
taken_by shows ends old ds d e h =
    ap (λ b. cond (shows && b) (old ++ description_with false [] ∷ []) old) (ap ends_with_term e ∙ ends_with ds d)
    ∙ ap (λ b. cond b (old ++ description_with false [] ∷ []) old) h

-- the last of those that are begun
pub taken_last : (shows : Bool) (old rest : List source.Description) (d : source.Description)
    → old ≡ rest ++ d ∷ []
    → (shows && d.is_term) ≡ false
    → before_more shows (map description_of old) ≡ map description_of rest ++ description_of d ∷ []
taken_last shows old rest d e h =
    let all : map description_of old ≡ map description_of rest ++ description_of d ∷ [] =
    ap (map description_of) e ∙ map_push description_of rest d in
    taken_by shows false (map description_of old) (map description_of rest) (description_of d) all h ∙ all

-- what a term means, put behind it
pub taken_new : (shows : Bool) (old rest new : List source.Description) (d made : source.Description)
    → old ≡ rest ++ d ∷ [] → new ≡ rest ++ d ∷ [] → (shows && d.is_term) ≡ true
    → description_of made ≡ description_with false []
    → before_more shows (map description_of old) ≡ map description_of new ++ description_of made ∷ []
taken_new shows old rest new d made e f h m =
    let all : map description_of old ≡ map description_of rest ++ description_of d ∷ [] =
    ap (map description_of) e ∙ map_push description_of rest d in
    taken_by shows true (map description_of old) (map description_of rest) (description_of d) all h
    ∙ ap (λ x. map description_of old ++ x ∷ []) (sym m)
    ∙ ap (λ xs. map description_of xs ++ description_of made ∷ []) (e ∙ sym f)

-- an element in which something shows
pub some_element : (w : Writing) (ds : List Description) (attributes : Vec attribute.BlockAttribute Global)
    (bs : Vec Block Global) → attributes.items ≡ [] → map block_of bs.items ≡ map spec.description_element ds
    → list_any spec.is_filled_description ds ≡ true
    → fed_all w (whole (block_of (blocks.Element name.Terms attributes bs)) ∷ [])
    ≡ fed_all w (spec.element_of_descriptions ds)
some_element w ds attributes bs e f h =
    ap (λ b. fed_all w (whole b ∷ [])) (block-element name.Terms attributes bs
    ∙ ap (λ xs. documents.element name.Terms (map attribute_of xs) (blocks_of bs.items)) e
    ∙ ap (λ xs. documents.element name.Terms [] (documents.blocks_of xs)) f)
    ∙ sym (ap (λ b. fed_all w (cond b (whole (documents.element name.Terms [] (documents.blocks_of
    (map spec.description_element ds))) ∷ []) [])) h)
