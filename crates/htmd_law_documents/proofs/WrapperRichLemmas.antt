-- Elements of rich documents keep the wrappers of what is in them: titles, details, figures, and what terms mean.
use Rattle.std.proofs.Common.{◌≡◌, ℕ, suc, Bool, true, false, cond, not, ◌&&◌, ◌||◌, List, [], ◌∷◌, ◌++◌, map, length}
use Rattle.std.proofs.Common.{fold}
use Rattle.std.proofs.Common.{refl, sym, ap, ◌∙◌, append_assoc, subst, arith}
use Rattle.std.specs.Prelude.{nat_lt}
use Rattle.std.specs.List.{list_any}
use Rattle.std.proofs.lemmas.Bool.Decides.{nat_tests}
use Rattle.std.proofs.lemmas.List.{append-nil}
use Rattle.htmd_lexical.proofs.Cases.{test}
use Rattle.htmd_document.specs.Documents.{BlockAttribute, Block, Blocks, no_blocks, block}
use Rattle.htmd_document.specs.Documents as document
use Rattle.htmd_document.specs.TightItems.{is_filled}
use Rattle.htmd_document.specs.declared.document.BlockElement.{BlockElement}
use Rattle.htmd_document.specs.declared.document.BlockElement.TheVariants as name
use Rattle.htmd_shown.specs.declared.role.Role.{Role}
use Rattle.htmd_shown.specs.declared.role.Role.TheVariants as role
use Rattle.htmd_shown.specs.Kinds.{has}
use Rattle.htmd_shown.specs.Roles as roles
use Rattle.htmd_shown.specs.Showings.{shows}
use Rattle.htmd_shown.specs.SimpleTrees.{Simple}
use Rattle.htmd_flow.specs.Contexts.{Context, has_elements, apart}
use Rattle.htmd_flow.specs.Flows.{Node, TermPart, gap, of_node, blocks_of, flow_all, around_node, within, element_part}
use Rattle.htmd_flow.specs.Flows.{blocks_within, is_title_of, title_element, as_title, titled, figure_by, Description}
use Rattle.htmd_flow.specs.Flows.{Descriptions, no_descriptions, description_with, onto_last_description}
use Rattle.htmd_flow.specs.Flows.{ends_with_term, before_more, with_between, with_description}
use Rattle.htmd_flow.specs.Flows.{description_element, is_filled_description, element_of_descriptions}
use Rattle.htmd_flow.specs.Flows.{parts_of_descriptions, described_parts}
use Rattle.htmd_flow.specs.Paragraphs.{begun, blocks_in}
use Rattle.htmd_flow.specs.Parts.{Part, edge, whole}
use Rattle.htmd_law_documents.proofs.ElementLemmas.{false-true, true-false}
use Rattle.htmd_law_documents.proofs.Readers.{Reader, read_blocks, read_tree}
use Rattle.htmd_law_documents.proofs.WrapperWritingLemmas.{Wrote, wrote-nothing, blocks-in_wrappers}
use Rattle.htmd_law_documents.proofs.WrapperPartsLemmas.{Keep, keep-nil, keep-append, keep-same, keep-edge, keep-apart}
use Rattle.htmd_law_documents.proofs.WrapperPartsLemmas.{keep-whole, blocks-keep}
use Rattle.htmd_law_documents.proofs.WrapperKindLemmas.{IsInner, term-inner, meaning-inner}
use Rattle.htmd_law_documents.proofs.WrapperNodesLemmas.{shallow, around-flat, around-alike, wrappers_in, node_wrapped}
use Rattle.htmd_law_documents.proofs.WrapperNodesLemmas.{nodes_wrapped, inner-wrappers, Agree, around-agrees, NodeKeeps}
use Rattle.htmd_law_documents.proofs.WrapperNodesLemmas.{NodeKeepsIn, NodesKeepIn, NodesKeep, fits, keep-either}
use Rattle.htmd_law_documents.proofs.WrapperNodesLemmas.{keep-in}
use Rattle.htmd_law_documents.proofs.WrapperNodesLemmas.{flow-keeps, flow-keeps-in}
use Rattle.htmd_law_documents.proofs.WrapperTermLemmas.{term_wrapped, terms_wrapped, TermKeeps, TermsKeep, more-wrote}

-- where blocks can be elements, all isn't one line
pub elements-unflat : (c : Context) → has_elements c ≡ true → c.is_flat ≡ false
elements-unflat c e = either c.is_rich c.is_flat e
  where
    either : (r f : Bool) → (r && not f) ≡ true → f ≡ false
    either true true h = false-true h
    either true false h = refl
    either false f h = false-true h

module _ (R : Reader) where
  title-inner : (title : BlockElement) (r : Role) → is_title_of title r ≡ true → IsInner R r
  title-inner name.Summary role.Summary e = λ id facts attributes all holds_grid inner c g. refl
  title-inner name.Summary r e = false-true e
  title-inner name.FigureCaption role.FigureCaption e = λ id facts attributes all holds_grid inner c g. refl
  title-inner name.FigureCaption r e = false-true e
  title-inner title r e = false-true e

  -- a term or what one means
  described-inner : (t : Simple) (c : Context) → (has roles.is_term t || has roles.is_meaning t) ≡ true
      → read_tree R t c false ≡ wrappers_in R t (around_node t c)
  described-inner t c e = test (has roles.is_term t)
      (λ i. inner-wrappers R roles.is_term (term-inner R) t c i)
      (λ i. inner-wrappers R roles.is_meaning (meaning-inner R) t c
      (sym (ap (λ b. b || has roles.is_meaning t) i) ∙ e))

  unfilled-read : (bs : Blocks) → is_filled bs ≡ false → read_blocks R bs ≡ []
  unfilled-read no_blocks e = refl
  unfilled-read (block b bs) e = true-false e

  module _ (addr : ℕ → R.Wrap) where
    pub element-part-keeps : (n : BlockElement) (attributes : List BlockAttribute) (bs : Blocks) (cs : List R.Seen)
        → read_blocks R bs ≡ cs → Keep R addr false (element_part n attributes bs) cs
    element-part-keeps n attributes no_blocks cs h = keep-same R addr false [] [] cs h (keep-nil R addr false)
    element-part-keeps n attributes (block b bs) cs h =
        keep-whole R addr (document.element n attributes (block b bs)) cs h

    pub figure-keeps : (b : Bool) (ps : List Part) (cs : List R.Seen) → Keep R addr false ps cs
        → Keep R addr false (figure_by b ps) cs
    figure-keeps true ps cs h =
        element-part-keeps name.Figure [] (blocks_of false ps) cs (blocks-keep R addr false ps cs h)
    figure-keeps false ps cs h = h

    -- what is in a node, as the title that it may be
    pub within-keeps : (n : Node) → NodeKeeps R addr n → (c : Context) → Agree R addr c
        → Keep R addr c.is_flat (within n c) (wrappers_in R n.tree (around_node n.tree (shallow c)))
    within-keeps n k c a =
        let d : Context = around_node n.tree c in
        keep-same R addr c.is_flat (n.content d) (wrappers_in R n.tree (shallow d))
        (wrappers_in R n.tree (around_node n.tree (shallow c)))
        (ap (wrappers_in R n.tree) (around-alike n.tree c))
        (keep-in R addr c.is_flat d.is_flat (n.content d) (wrappers_in R n.tree (shallow d))
        (sym (around-flat n.tree c)) (k.content d (around-agrees R addr n.tree c a)))

    -- ---- titles

    title-keeps : (title : BlockElement) (n : Node) → NodeKeeps R addr n → has (is_title_of title) n.tree ≡ true
        → (c : Context) → Agree R addr c → c.is_flat ≡ false
        → Keep R addr c.is_flat (title_element title n c) (node_wrapped R (shallow c) n)
    title-keeps title n k e c a flat =
        let cs : List R.Seen = wrappers_in R n.tree (around_node n.tree (shallow c)) in
        let part : List Part = element_part title [] (blocks_within n c) in
        keep-same R addr c.is_flat (title_element title n c) cs (node_wrapped R (shallow c) n)
        (sym (inner-wrappers R (is_title_of title) (title-inner title) n.tree (shallow c) e))
        (keep-apart R addr c.is_flat part cs
        (keep-in R addr c.is_flat false part cs flat
        (element-part-keeps title [] (blocks_within n c) cs
        (blocks-keep R addr false (within n c) cs
        (keep-in R addr false c.is_flat (within n c) cs (sym flat) (within-keeps n k c a))))))

    as-title-keeps : (title : BlockElement) (n : Node) → NodeKeeps R addr n
        → NodeKeepsIn R addr true (as_title title n)
    as-title-keeps title n k = either (has (is_title_of title) n.tree) refl
      where
        either : (b : Bool) → has (is_title_of title) n.tree ≡ b
            → NodeKeepsIn R addr true (cond b (record n { whole = title_element title n }) n)
        either true e = record {
          whole = λ c a o. title-keeps title n k e c a (o refl);
          content = λ c a. k.content c a;
        }
        either false e = record {
          whole = λ c a o. k.whole c a (fits R addr c);
          content = λ c a. k.content c a;
        }

    all-titles-keep : (title : BlockElement) (nodes : List Node) → NodesKeep R addr nodes
        → NodesKeepIn R addr true (map (as_title title) nodes)
    all-titles-keep title [] h = tt
    all-titles-keep title (n ∷ nodes) h = (as-title-keeps title n h.0, all-titles-keep title nodes h.1)

    titles-read : (title : BlockElement) (nodes : List Node) (c : Context)
        → nodes_wrapped R (map (as_title title) nodes) c ≡ nodes_wrapped R nodes c
    titles-read title [] c = refl
    titles-read title (n ∷ nodes) c =
        ap (λ t. t ++ nodes_wrapped R (map (as_title title) nodes) c) (either (has (is_title_of title) n.tree))
        ∙ ap (λ t. node_wrapped R c n ++ t) (titles-read title nodes c)
      where
        either : (b : Bool)
            → node_wrapped R c (cond b (record n { whole = title_element title n }) n) ≡ node_wrapped R c n
        either true = refl
        either false = refl

    pub titles-keep : (title : BlockElement) (nodes : List Node) → NodesKeep R addr nodes → (c : Context)
        → Agree R addr c → c.is_flat ≡ false
        → Keep R addr false (titled title nodes c) (nodes_wrapped R nodes (shallow c))
    titles-keep title nodes h c a flat =
        let cs : List R.Seen = nodes_wrapped R (map (as_title title) nodes) (shallow c) in
        keep-same R addr false (titled title nodes c) cs (nodes_wrapped R nodes (shallow c))
        (titles-read title nodes (shallow c))
        (keep-in R addr false c.is_flat (titled title nodes c) cs (sym flat)
        (flow-keeps-in R addr true (map (as_title title) nodes) (all-titles-keep title nodes h) c a (λ e. flat)))

    -- ---- terms and what they mean

    -- those that are begun say these in order
    abbrev Described : List Description → List R.Seen → Type 0
    Described [] cs = cs ≡ []
    Described (d ∷ ds) cs =
        (front : List R.Seen) × (rest : List R.Seen) × (cs ≡ front ++ rest)
        × Wrote R addr d.content false front × Described ds rest

    description-wrote : (is_term : Bool) (ps : List Part) (cs : List R.Seen) → Keep R addr false ps cs
        → Wrote R addr (description_with is_term ps).content false cs
    description-wrote is_term ps cs k =
        more-wrote R addr (begun false false) ps [] cs (wrote-nothing R addr false false) k

    last-described : (d : Description) (ds : List Description) (ps : List Part) (cs es : List R.Seen)
        → Described (d ∷ ds) cs → Keep R addr false ps es
        → Described (onto_last_description (d ∷ ds) ps) (cs ++ es)
    last-described d [] ps cs es h k = (
      h.0 ++ es,
      [],
      ap (λ t. t ++ es) (h.2 ∙ (ap (λ t. h.0 ++ t) h.4 ∙ append-nil h.0)) ∙ sym (append-nil (h.0 ++ es)),
      more-wrote R addr d.content ps h.0 es h.3 k,
      refl,
    )
    last-described d (next ∷ ds) ps cs es h k = (
      h.0,
      h.1 ++ es,
      ap (λ t. t ++ es) h.2 ∙ append_assoc h.0 h.1 es,
      h.3,
      last-described next ds ps h.1 es h.4 k,
    )

    next-described : (ds : List Description) (is_term : Bool) (ps : List Part) (cs es : List R.Seen)
        → Described ds cs → Keep R addr false ps es
        → Described (ds ++ description_with is_term ps ∷ []) (cs ++ es)
    next-described [] is_term ps cs es h k =
        (es, [], ap (λ t. t ++ es) h ∙ sym (append-nil es), description-wrote is_term ps es k, refl)
    next-described (d ∷ ds) is_term ps cs es h k = (
      h.0,
      h.1 ++ es,
      ap (λ t. t ++ es) h.2 ∙ append_assoc h.0 h.1 es,
      h.3,
      next-described ds is_term ps h.1 es h.4 k,
    )

    -- more behind the last, or behind a new one
    behind-described : (b : Bool) (d : Description) (ds : List Description) (ps : List Part) (cs es : List R.Seen)
        → Described (d ∷ ds) cs → Keep R addr false ps es
        → Described (onto_last_description (cond b ((d ∷ ds) ++ description_with false [] ∷ []) (d ∷ ds)) ps)
        (cs ++ es)
    behind-described true d ds ps cs es h k =
        last-described d (ds ++ description_with false [] ∷ []) ps cs es
        (subst (Described ((d ∷ ds) ++ description_with false [] ∷ [])) (append-nil cs)
        (next-described (d ∷ ds) false [] cs [] h (keep-nil R addr false))) k
    behind-described false d ds ps cs es h k = last-described d ds ps cs es h k

    record AllSaid (d : Descriptions) (cs : List R.Seen) : Type 0 where
      first : List R.Seen
      rest : List R.Seen
      before : Keep R addr false d.before first
      begun : Described d.begun rest
      is : cs ≡ first ++ rest

    nothing-before : nat_lt 0 0 ≡ false
    nothing-before = grind (arith, nat_tests)

    something-before : (n : ℕ) → nat_lt 0 (suc n) ≡ true
    something-before n = grind (arith, nat_tests)

    between-said : (c : Context) (n : Node) (before : List Part) (ds : List Description)
        (cs es first rest : List R.Seen)
        → Keep R addr false (flow_all (n ∷ []) c) es → Keep R addr false before first → Described ds rest
        → cs ≡ first ++ rest
        → AllSaid (with_between c (record { before = before; begun = ds }) n) (cs ++ es)
    between-said c n before [] cs es first rest k g h e =
        subst (λ (b : Bool). AllSaid
        (cond b (record {
          before = before;
          begun = onto_last_description (before_more (shows false n.tree) []) (edge ∷ flow_all (n ∷ []) c);
        })
        (record { before = before ++ flow_all (n ∷ []) c; begun = [] })) (cs ++ es))
        (sym nothing-before)
        (record {
          first = first ++ es;
          rest = rest;
          before = keep-append R addr false before (flow_all (n ∷ []) c) first es g k;
          begun = h;
          is = ap (λ x. x ++ es) (e ∙ (ap (λ x. first ++ x) h ∙ append-nil first))
              ∙ (sym (append-nil (first ++ es)) ∙ ap (λ x. (first ++ es) ++ x) (sym h));
        })
    between-said c n before (d ∷ ds) cs es first rest k g h e =
        subst (λ (b : Bool). AllSaid
        (cond b (record {
          before = before;
          begun = onto_last_description (before_more (shows false n.tree) (d ∷ ds)) (edge ∷ flow_all (n ∷ []) c);
        })
        (record { before = before ++ flow_all (n ∷ []) c; begun = d ∷ ds })) (cs ++ es))
        (sym (something-before (length ds)))
        (record {
          first = first;
          rest = rest ++ es;
          before = g;
          begun = behind-described (shows false n.tree && ends_with_term (d ∷ ds)) d ds
              (edge ∷ flow_all (n ∷ []) c)
              rest es h (keep-edge R addr false (flow_all (n ∷ []) c) es k);
          is = ap (λ x. x ++ es) e ∙ append_assoc first rest es;
        })

    either-all : (b : Bool) (d e : Descriptions) (cs : List R.Seen) → (b ≡ true → AllSaid d cs)
        → (b ≡ false → AllSaid e cs) → AllSaid (cond b d e) cs
    either-all true d e cs g h = g refl
    either-all false d e cs g h = h refl

    module _ (c : Context) (a : Agree R addr c) (flat : c.is_flat ≡ false) where
      unflat : (ps : List Part) (cs : List R.Seen) → Keep R addr c.is_flat ps cs → Keep R addr false ps cs
      unflat ps cs k = keep-in R addr false c.is_flat ps cs (sym flat) k

      part-said : (d : Descriptions) (p : TermPart) (cs : List R.Seen) → TermKeeps R addr p → AllSaid d cs
          → AllSaid (with_description c d p) (cs ++ term_wrapped R (shallow c) p)
      part-said d gap cs k h = record {
        first = h.first;
        rest = h.rest;
        before = h.before;
        begun = h.begun;
        is = append-nil cs ∙ h.is;
      }
      part-said d (of_node n) cs k h =
          let es : List R.Seen = node_wrapped R (shallow c) n in
          let is_term : Bool = has roles.is_term n.tree in
          let inner : List R.Seen = wrappers_in R n.tree (around_node n.tree (shallow c)) in
          either-all (is_term || has roles.is_meaning n.tree)
          (record d { begun = d.begun ++ description_with is_term (within n c) ∷ [] }) (with_between c d n) (cs ++ es)
          (λ e. record {
            first = h.first;
            rest = h.rest ++ es;
            before = h.before;
            begun = next-described d.begun is_term (within n c) h.rest es h.begun
                (unflat (within n c) es
                (keep-same R addr c.is_flat (within n c) inner es (sym (described-inner n.tree (shallow c) e))
                (within-keeps n k c a)));
            is = ap (λ x. x ++ es) h.is ∙ append_assoc h.first h.rest es;
          })
          (λ e. between-said c n d.before d.begun cs es h.first h.rest
          (unflat (flow_all (n ∷ []) c) es
          (keep-same R addr c.is_flat (flow_all (n ∷ []) c) (es ++ []) es (append-nil es)
          (flow-keeps R addr (n ∷ []) (k, tt) c a)))
          h.before h.begun h.is)

      parts-all : (ps : List TermPart) (d : Descriptions) (cs : List R.Seen) → TermsKeep R addr ps → AllSaid d cs
          → AllSaid (fold (with_description c) d ps) (cs ++ terms_wrapped R ps (shallow c))
      parts-all [] d cs k h = record {
        first = h.first;
        rest = h.rest;
        before = h.before;
        begun = h.begun;
        is = append-nil cs ∙ h.is;
      }
      parts-all (p ∷ ps) d cs k h =
          let one : List R.Seen = term_wrapped R (shallow c) p in
          subst (AllSaid (fold (with_description c) (with_description c d p) ps))
          (append_assoc cs one (terms_wrapped R ps (shallow c)))
          (parts-all ps (with_description c d p) (cs ++ one) k.1 (part-said d p cs k.0 h))

    described-read : (ds : List Description) (cs : List R.Seen) → Described ds cs
        → read_blocks R (document.blocks_of (map description_element ds)) ≡ cs
    described-read [] cs h = sym h
    described-read (d ∷ ds) cs h =
        ap (λ t. t ++ read_blocks R (document.blocks_of (map description_element ds)))
        (blocks-in_wrappers R addr d.content h.0 h.3)
        ∙ (ap (λ t. h.0 ++ t) (described-read ds h.1 h.4) ∙ sym h.2)

    unfilled-described : (ds : List Description) (cs : List R.Seen) → Described ds cs
        → list_any is_filled_description ds ≡ false → cs ≡ []
    unfilled-described [] cs h e = h
    unfilled-described (d ∷ ds) cs h e = test (is_filled_description d)
        (λ i. true-false (sym (ap (λ b. b || list_any is_filled_description ds) i) ∙ e))
        (λ i. h.2
        ∙ (ap (λ t. t ++ h.1)
        (sym (blocks-in_wrappers R addr d.content h.0 h.3) ∙ unfilled-read (blocks_in d.content) i)
        ∙ unfilled-described ds h.1 h.4 (sym (ap (λ b. b || list_any is_filled_description ds) i) ∙ e)))

    descriptions-keep : (ds : List Description) (cs : List R.Seen) → Described ds cs
        → Keep R addr false (element_of_descriptions ds) cs
    descriptions-keep ds cs h =
        let made : Block = document.element name.Terms [] (document.blocks_of (map description_element ds)) in
        keep-either R addr (list_any is_filled_description ds) false (whole made ∷ []) [] cs
        (λ e. keep-whole R addr made cs (described-read ds cs h))
        (λ e. keep-same R addr false [] [] cs (sym (unfilled-described ds cs h e)) (keep-nil R addr false))

    pub described-keeps : (ps : List TermPart) (c : Context) (cs : List R.Seen) → TermsKeep R addr ps
        → Agree R addr c
        → c.is_flat ≡ false → terms_wrapped R ps (shallow c) ≡ cs
        → Keep R addr c.is_flat (described_parts ps c) cs
    described-keeps ps c cs k a flat e =
        let nothing : AllSaid no_descriptions [] =
        record { first = []; rest = []; before = keep-nil R addr false; begun = refl; is = refl } in
        let d : Descriptions = fold (with_description c) no_descriptions ps in
        let h : AllSaid d (terms_wrapped R ps (shallow c)) = parts-all c a flat ps no_descriptions [] k nothing in
        keep-in R addr c.is_flat false (parts_of_descriptions d) cs flat
        (keep-same R addr false (parts_of_descriptions d) (h.first ++ h.rest) cs (sym h.is ∙ e)
        (keep-append R addr false (edge ∷ d.before) (apart (element_of_descriptions d.begun)) h.first h.rest
        (keep-edge R addr false d.before h.first h.before)
        (keep-apart R addr false (element_of_descriptions d.begun) h.rest
        (descriptions-keep d.begun h.rest h.begun))))
