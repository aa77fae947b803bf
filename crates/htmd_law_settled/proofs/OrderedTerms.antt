-- Each term of a rich document is in order: what stands behind it and shows nothing holds no anchors.
use Rattle.std.proofs.Common.{◌≡◌, Bool, true, false, cond, List, [], ◌∷◌, ◌++◌, map, fold, length, refl, sym, ap}
use Rattle.std.proofs.Common.{◌∙◌, subst, inl, inr}
use Rattle.std.specs.Prelude.{nat_lt, ◌||◌}
use Rattle.std.specs.List.{list_any}
use Rattle.std.proofs.lemmas.List.{append-nil}
use Rattle.htmd_shown.specs.Kinds.{has}
use Rattle.htmd_shown.specs.declared.facts.Facts.{Facts}
use Rattle.htmd_shown.specs.declared.role.Role.{Role}
use Rattle.htmd_shown.specs.declared.role.Role.TheVariants as role
use Rattle.htmd_shown.specs.Roles.{is_division, is_headed, is_meaning, is_term}
use Rattle.htmd_shown.specs.Showings.{shows}
use Rattle.htmd_shown.specs.SimpleTrees.{Simple, text, image, formula, embedded, anchor, element, Simples, none, more}
use Rattle.htmd_flow.specs.Contexts.{Context}
use Rattle.htmd_flow.specs.Flows.{Node, TermPart, gap, of_node, node_of, nodes_of, nodes_below, terms_of}
use Rattle.htmd_flow.specs.Flows.{parts_of_child, around_node, flow_all, within, Description, Descriptions}
use Rattle.htmd_flow.specs.Flows.{no_descriptions, description_with, onto_last_description, ends_with_term}
use Rattle.htmd_flow.specs.Flows.{before_more, with_between, with_description}
use Rattle.htmd_flow.specs.Paragraphs.{begun, blocks_in}
use Rattle.htmd_flow.specs.Parts.{Part, edge}
use Rattle.htmd_flow.specs.Levels.{list_of}
use Rattle.htmd_flow.specs.Terms.{is_group, is_term_or_meaning}
use Rattle.htmd_law_documents.specs.SimpleForms.{IsSound, AreSound}
use Rattle.htmd_law_documents.proofs.ElementLemmas.{false-true, true-false}
use Rattle.htmd_law_documents.proofs.NormalTreeLemmas.{IsFine, AreFine, Content}
use Rattle.htmd_law_documents.proofs.Readers.{holds_anchors, read_tree}
use Rattle.htmd_law_documents.proofs.WrapperNodesLemmas.{shallow, wrappers_in, NodeKeeps, keep-in, flow-keeps}
use Rattle.htmd_law_documents.proofs.WrapperPartsLemmas.{Keep, keep-edge, keep-same}
use Rattle.htmd_law_documents.proofs.WrapperRichLemmas.{within-keeps}
use Rattle.htmd_law_documents.proofs.WrapperRichTableLemmas.{silent-tree}
use Rattle.htmd_law_documents.proofs.VisibleLemmas.{both-true}
use Rattle.htmd_law_documents.proofs.WrapperTableLemmas.{node-tree}
use Rattle.htmd_law_documents.proofs.WrapperTermLemmas.{TermKeeps, TermsKeep, more-wrote}
use Rattle.htmd_law_documents.proofs.WrapperTreeLemmas.{trees-kept, kept-terms}
use Rattle.htmd_law_documents.proofs.WrapperWritingLemmas.{Wrote, wrote-nothing, blocks-in_wrappers}
use Rattle.htmd_law_anchors.proofs.StandLemmas.{StandsWell, StandAll, stands-fit, stand-fit}
use Rattle.htmd_law_settled.proofs.EarlyTrees.{HasEarly, HaveEarly}
use Rattle.htmd_law_settled.proofs.OrderedTrees.{things, blocks-things, trees-read, no-link, no-addresses, none-around}
use Rattle.htmd_law_settled.proofs.Things.{Thing, in_order, things_of}

-- ---- the terms that are begun

-- each term is in order
abbrev pub TermsOrdered : List Description → Type 0
TermsOrdered [] = Unit {0}
TermsOrdered (d ∷ ds) =
    (d.is_term ≡ true → in_order false (things_of (blocks_in d.content)) ≡ true) × TermsOrdered ds

-- in whatever rich context
abbrev pub TermsInOrder : List TermPart → Type 0
TermsInOrder parts =
    (c : Context) → c.is_rich ≡ true → c.is_flat ≡ false
    → TermsOrdered (fold (with_description c) no_descriptions parts).begun

-- a term of which this was taken, in order
abbrev ReadTerm : Description → Type 0
ReadTerm d = (front : List Thing) × Wrote things no-link d.content false front × (in_order false front ≡ true)

abbrev AllRead : List Description → Type 0
AllRead [] = Unit {0}
AllRead (d ∷ ds) = (d.is_term ≡ true → ReadTerm d) × AllRead ds

all-ordered : (ds : List Description) → AllRead ds → TermsOrdered ds
all-ordered [] h = tt
all-ordered (d ∷ ds) h = (one, all-ordered ds h.1)
  where
    one : d.is_term ≡ true → in_order false (things_of (blocks_in d.content)) ≡ true
    one e =
        let r : ReadTerm d = h.0 e in
        ap (in_order false)
        (sym (blocks-things (blocks_in d.content)) ∙ blocks-in_wrappers things no-link d.content r.0 r.1) ∙ r.2

all-append : (ds es : List Description) → AllRead ds → AllRead es → AllRead (ds ++ es)
all-append [] es g h = h
all-append (d ∷ ds) es g h = (g.0, all-append ds es g.1 h)

-- ---- more of the last one

-- more of what is no term
other-last : (ds : List Description) (ps : List Part) → ends_with_term ds ≡ false → AllRead ds
    → AllRead (onto_last_description ds ps)
other-last [] ps e h = tt
other-last (d ∷ []) ps e h = (λ t. true-false (sym t ∙ e), tt)
other-last (d ∷ next ∷ ds) ps e h = (h.0, other-last (next ∷ ds) ps e h.1)

-- nothing more
silent-last : (ds : List Description) (ps : List Part) → Keep things no-link false ps [] → AllRead ds
    → AllRead (onto_last_description ds ps)
silent-last [] ps k h = tt
silent-last (d ∷ []) ps k h = (
  λ e. let r : ReadTerm d = h.0 e in (
    r.0 ++ [],
    more-wrote things no-link d.content ps r.0 [] r.1 k,
    ap (in_order false) (append-nil r.0) ∙ r.2,
  ),
  tt,
)
silent-last (d ∷ next ∷ ds) ps k h = (h.0, silent-last (next ∷ ds) ps k h.1)

abbrev no_term : Description
no_term = description_with false []

no-last-term : (ds : List Description) → ends_with_term (ds ++ no_term ∷ []) ≡ false
no-last-term [] = refl
no-last-term (d ∷ []) = refl
no-last-term (d ∷ next ∷ ds) = no-last-term (next ∷ ds)

-- what stands between them
between-last : (b : Bool) (ds : List Description) (ps : List Part)
    → (b ≡ false → Keep things no-link false ps []) → AllRead ds
    → AllRead (onto_last_description (before_more b ds) ps)
between-last false ds ps k h = silent-last ds ps (k refl) h
between-last true ds ps k h = either (ends_with_term ds) refl
  where
    either : (x : Bool) → ends_with_term ds ≡ x
        → AllRead (onto_last_description (cond x (ds ++ no_term ∷ []) ds) ps)
    either true e =
        other-last (ds ++ no_term ∷ []) ps (no-last-term ds)
        (all-append ds (no_term ∷ []) h (λ t. false-true t, tt))
    either false e = other-last ds ps e h

either-read : (b : Bool) (d e : Descriptions) → AllRead d.begun → AllRead e.begun → AllRead (cond b d e).begun
either-read true d e g h = g
either-read false d e g h = h

-- ---- nodes

-- a term is in order, and from a node in which nothing shows nothing is taken
abbrev Fits : Simple → Type 0
Fits t =
    (has is_term t ≡ true → (c : Context) → in_order false (wrappers_in things t c) ≡ true)
    × (shows false t ≡ false → (c : Context) → read_tree things t c false ≡ [])

abbrev Fit : TermPart → Type 0
Fit gap = Unit {0}
Fit (of_node n) = Fits n.tree

abbrev AllFit : List TermPart → Type 0
AllFit [] = Unit {0}
AllFit (p ∷ parts) = Fit p × AllFit parts

fit-append : (ps qs : List TermPart) → AllFit ps → AllFit qs → AllFit (ps ++ qs)
fit-append [] qs g h = h
fit-append (p ∷ ps) qs g h = (g.0, fit-append ps qs g.1 h)

-- ---- what is made of them

module _ (c : Context) (flat : c.is_flat ≡ false) where
  unflat : (ps : List Part) (cs : List Thing) → Keep things no-link c.is_flat ps cs
      → Keep things no-link false ps cs
  unflat ps cs k = keep-in things no-link false c.is_flat ps cs (sym flat) k

  described-reads : (n : Node) → NodeKeeps things no-link n → Fits n.tree
      → has is_term n.tree ≡ true → ReadTerm (description_with (has is_term n.tree) (within n c))
  described-reads n k h e =
      let front : List Thing = wrappers_in things n.tree (around_node n.tree (shallow c)) in (
        front,
        more-wrote things no-link (begun false false) (within n c) [] front
            (wrote-nothing things no-link false false)
            (unflat (within n c) front (within-keeps things no-link n k c (none-around c.around))),
        h.0 e (around_node n.tree (shallow c)),
      )

  between-keeps : (n : Node) → NodeKeeps things no-link n → Fits n.tree → shows false n.tree ≡ false
      → Keep things no-link false (edge ∷ flow_all (n ∷ []) c) []
  between-keeps n k h e =
      let es : List Thing = read_tree things n.tree (shallow c) false in
      keep-edge things no-link false (flow_all (n ∷ []) c) []
      (unflat (flow_all (n ∷ []) c) []
      (keep-same things no-link c.is_flat (flow_all (n ∷ []) c) (es ++ []) []
      (append-nil es ∙ h.1 e (shallow c))
      (flow-keeps things no-link (n ∷ []) (k, tt) c (none-around c.around))))

  part-read : (d : Descriptions) (p : TermPart) → TermKeeps things no-link p → Fit p → AllRead d.begun
      → AllRead (with_description c d p).begun
  part-read d gap k h g = g
  part-read d (of_node n) k h g =
      let one : Description = description_with (has is_term n.tree) (within n c) in
      let more : List Description = before_more (shows false n.tree) d.begun in
      either-read (has is_term n.tree || has is_meaning n.tree) (record d { begun = d.begun ++ one ∷ [] })
      (with_between c d n)
      (all-append d.begun (one ∷ []) g (described-reads n k h, tt))
      (either-read (nat_lt 0 (length d.begun))
      (record d { begun = onto_last_description more (edge ∷ flow_all (n ∷ []) c) })
      (record d { before = d.before ++ flow_all (n ∷ []) c })
      (between-last (shows false n.tree) d.begun (edge ∷ flow_all (n ∷ []) c) (between-keeps n k h) g) g)

  parts-read : (ps : List TermPart) (d : Descriptions) → TermsKeep things no-link ps → AllFit ps
      → AllRead d.begun → AllRead (fold (with_description c) d ps).begun
  parts-read [] d k h g = g
  parts-read (p ∷ ps) d k h g =
      parts-read ps (with_description c d p) k.1 h.1 (part-read d p k.0 h.0 g)

-- ---- trees

term-headed : (r : Role) → is_term r ≡ true → is_headed r ≡ true
term-headed role.Term e = refl
term-headed r e = false-true e

-- whatever is around an element, the same may stand in it if its content is fine or it is an inserted one
in-content : (here there : Bool) (r : Role) (facts : Facts) (content : Simples) → Content r content
    → (AreFine content → StandAll (holds_anchors there r facts content) content)
    → StandAll (holds_anchors here r facts content) content → StandAll (holds_anchors there r facts content) content
in-content here there r facts content (inl k) g h = g k
in-content here there r facts content (inr (e, k)) g h =
    subst (λ (x : Role). StandAll (holds_anchors there x facts content) content) (sym e)
    (subst (λ (x : Role). StandAll (holds_anchors here x facts content) content) e h)

-- an anchor in what is fine stands in an inserted element, whatever is around this
mutual
  stands-anywhere : (here there : Bool) (t : Simple) → IsFine t → StandsWell here t → StandsWell there t
  stands-anywhere here there (text s) f h = tt
  stands-anywhere here there (image address attributes) f h = tt
  stands-anywhere here there (formula tex is_alone attributes) f h = tt
  stands-anywhere here there (embedded id address title attributes ids) f h = tt
  stands-anywhere here there (anchor id) f h = absurd f
  stands-anywhere here there (element id r facts attributes content) f h =
      in-content here there r facts content f.2
      (λ k. stand-anywhere (holds_anchors here r facts content) (holds_anchors there r facts content) content k h) h

  stand-anywhere : (here there : Bool) (ts : Simples) → AreFine ts → StandAll here ts → StandAll there ts
  stand-anywhere here there none f h = tt
  stand-anywhere here there (more t ts) f h =
      (stands-anywhere here there t f.0 h.0, stand-anywhere here there ts f.1 h.1)

term-ordered : (t : Simple) → IsSound t → HasEarly t → has is_term t ≡ true → (c : Context)
    → in_order false (wrappers_in things t c) ≡ true
term-ordered (element id r facts attributes content) u a e c =
    (trees-read content u.1 false (a.0 (term-headed r e)) c false).order
term-ordered t u a e c = false-true e

fits : (here : Bool) (t : Simple) → IsFine t → IsSound t → HasEarly t → StandsWell here t → Fits t
fits here t f u a s = (
  term-ordered t u a,
  λ e c. silent-tree things t (stands-fit things false t u (stands-anywhere here false t f s)) false e c false,
)

node-fits : (here : Bool) (t : Simple) → IsFine t → IsSound t → HasEarly t → StandsWell here t
    → Fits (node_of t).tree
node-fits here t f u a s = subst Fits (sym (node-tree t)) (fits here t f u a s)

nodes-fit : (here : Bool) (ts : Simples) → AreFine ts → AreSound ts → HaveEarly ts → StandAll here ts
    → AllFit (map of_node (nodes_of ts))
unfolding node_of
nodes-fit here none f u a s = tt
nodes-fit here (more t ts) f u a s = (node-fits here t f.0 u.0 a.0 s.0, nodes-fit here ts f.1 u.1 a.1 s.1)

-- a group is fine
group-fine : (r : Role) (content : Simples) → is_division r ≡ true → Content r content → AreFine content
group-fine r content e (inl k) = k
group-fine r content e (inr (p, k)) = false-true (sym (ap is_division p) ∙ e)

child-fits : (here : Bool) (t : Simple) → IsFine t → IsSound t → HasEarly t → StandsWell here t
    → AllFit (parts_of_child (node_of t) (nodes_below t))
unfolding node_of
child-fits here (text s) f u a p = (fits here (text s) f u a p, tt)
child-fits here (image address attributes) f u a p = (fits here (image address attributes) f u a p, tt)
child-fits here (formula tex is_alone attributes) f u a p =
    (fits here (formula tex is_alone attributes) f u a p, tt)
child-fits here (embedded id address title attributes ids) f u a p =
    (fits here (embedded id address title attributes ids) f u a p, tt)
child-fits here (anchor id) f u a p = absurd f
child-fits here (element id r facts attributes content) f u a p = either (is_group t) refl
  where
    t : Simple
    t = element id r facts attributes content

    either : (b : Bool) → is_group t ≡ b
        → AllFit (cond b (gap ∷ map of_node (nodes_of content) ++ gap ∷ []) (of_node (node_of t) ∷ []))
    either true e = (
      tt,
      fit-append (map of_node (nodes_of content)) (gap ∷ [])
          (nodes-fit (holds_anchors here r facts content) content
          (group-fine r content (both-true (is_division r) (list_any is_term_or_meaning (list_of content)) e).0 f.2)
          u.1 a.1 p)
          (tt, tt),
    )
    either false e = (fits here t f u a p, tt)

terms-fit : (here : Bool) (ts : Simples) → AreFine ts → AreSound ts → HaveEarly ts → StandAll here ts
    → AllFit (terms_of ts)
unfolding node_of
terms-fit here none f u a s = tt
terms-fit here (more t ts) f u a s =
    fit-append (parts_of_child (node_of t) (nodes_below t)) (terms_of ts) (child-fits here t f.0 u.0 a.0 s.0)
    (terms-fit here ts f.1 u.1 a.1 s.1)

pub terms-in-order : (here : Bool) (content : Simples) → AreFine content → AreSound content → HaveEarly content
    → StandAll here content → TermsInOrder (terms_of content)
terms-in-order here content f u a s c rich flat =
    let parts : List TermPart = terms_of content in
    all-ordered (fold (with_description c) no_descriptions parts).begun
    (parts-read c flat parts no_descriptions
    (kept-terms things no-link content
    (trees-kept things no-link here content (stand-fit things here content u s) (no-addresses content)))
    (terms-fit here content f u a s) tt)
