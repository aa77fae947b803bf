-- How much is repeated in elements of rich documents: titles, details, figures and terms.
use Rattle.std.proofs.Common.{◌≡◌, ◌∙◌, refl, sym, ℕ, ◌+◌, ◌≤◌, Bool, true, false, List, [], ◌∷◌, ◌++◌, length, map}
use Rattle.std.proofs.Common.{arith}
use Rattle.std.specs.Prelude.{fold, nat_lt, not, ◌&&◌, ◌||◌, if◌then◌else◌}
use Rattle.std.specs.List.{list_any}
use Rattle.htmd_lexical.specs.AttributePairs.{AttributePair}
use Rattle.htmd_document.specs.declared.document.BlockElement.{BlockElement}
use Rattle.htmd_document.specs.declared.document.BlockElement.TheVariants as name
use Rattle.htmd_document.specs.Documents.{Block, Blocks, no_blocks, block, BlockAttribute}
use Rattle.htmd_document.specs.Documents as document
use Rattle.htmd_shown.specs.declared.role.Role.{Role}
use Rattle.htmd_shown.specs.Kinds.{has, content_of}
use Rattle.htmd_shown.specs.Roles as roles
use Rattle.htmd_shown.specs.Showings.{shows}
use Rattle.htmd_flow.specs.Contexts.{Context, has_elements, apart}
use Rattle.htmd_flow.specs.Flows.{Node, TermPart, gap, of_node, blocks_of, flow_all, element_part, around_node, within}
use Rattle.htmd_flow.specs.Flows.{blocks_within, is_title_of, title_element, as_title, titled, open_attribute}
use Rattle.htmd_flow.specs.Flows.{details_parts, shows_title, figure_by, captioned, figure_parts, Description}
use Rattle.htmd_flow.specs.Flows.{Descriptions, no_descriptions, description_with, onto_last_description, ends_with_term}
use Rattle.htmd_flow.specs.Flows.{before_more, with_between, with_described, with_description, description_element}
use Rattle.htmd_flow.specs.Flows.{is_filled_description, element_of_descriptions, described_parts}
use Rattle.htmd_flow.specs.Paragraphs.{begun}
use Rattle.htmd_flow.specs.Parts.{Part, edge, whole}
use Rattle.htmd_law_sizes.proofs.DebtContexts.{node_inside}
use Rattle.htmd_law_sizes.proofs.DebtNodes.{Due, AllDue, dues, flow_cost, TermsDue, terms_dues}
use Rattle.htmd_law_sizes.proofs.DebtParts.{rep, owed, Costs, at_most, loosely, strictly, nothing, both, edge_before}
use Rattle.htmd_law_sizes.proofs.DebtParts.{flat_cost, block_cost, all_flat, apart_cost, blocks_cost, in_cost}
use Rattle.htmd_law_sizes.proofs.Debts.{debt}
use Rattle.htmd_law_sizes.proofs.Leaves.{due, inner_due, among_grows, inner_le, open_by, summary_open}
use Rattle.htmd_law_sizes.proofs.Leaves.{figure_caption_open, term_open, meaning_open}

-- the same parts in the line that another context is in
pub same_line : (c d : Context) (parts : List Part) (k : ℕ) → d.is_flat ≡ c.is_flat → Costs d.is_flat parts k
    → Costs c.is_flat parts k
same_line c d parts k e h = record { at = λ w g. h.at w (g ∙ sym e) }

-- elements stand in no line
pub not_one_line : (a b : Bool) → (a && not b) ≡ true → b ≡ false
not_one_line true true h = absurd (cc)
not_one_line true false h = refl
not_one_line false b h = absurd (cc)

-- ---- elements

pub part_cost : (f : Bool) (n : BlockElement) (attributes : List BlockAttribute) (bs : Blocks) (k : ℕ)
    → (f ≡ false → debt bs ≤ k) → Costs f (element_part n attributes bs) k
part_cost f n attributes no_blocks k h = at_most f [] 0 k (omega arith) (nothing f)
part_cost true n attributes (block b bs) k h =
    let x = document.element n attributes (block b bs) in
    at_most true (whole x ∷ []) 0 k (omega arith) (flat_cost x)
part_cost false n attributes (block b bs) k h =
    let x = document.element n attributes (block b bs) in
    at_most false (whole x ∷ []) (debt (block b bs)) k (h refl) (block_cost false x)

-- ---- titles

-- what is in a node that is no verbatim block, without the link around it perhaps
within_cost : (n : Node) (c : Context) → Due n → has roles.is_verbatim n.tree ≡ false
    → Costs c.is_flat (within n c) (due (rep c.around) n.tree)
within_cost n c f h =
    let d = around_node n.tree c in
    let i = node_inside n.tree c in
    same_line c d (within n c) (due (rep c.around) n.tree) i.flat
    (at_most d.is_flat (within n c) (inner_due (rep d.around) n.tree) (due (rep c.around) n.tree)
    (omega (
      arith,
      among_grows (rep d.around) (rep c.around) (content_of n.tree) i.room,
      inner_le (rep c.around) n.tree h,
    ))
    (f.inner d))

title_open : (title : BlockElement) (r : Role) → is_title_of title r ≡ true → roles.is_verbatim r ≡ false
title_open name.Details r h = absurd (cc)
title_open name.Summary r h = summary_open r h
title_open name.Terms r h = absurd (cc)
title_open name.Term r h = absurd (cc)
title_open name.Meaning r h = absurd (cc)
title_open name.Figure r h = absurd (cc)
title_open name.FigureCaption r h = figure_caption_open r h
title_open name.Table r h = absurd (cc)
title_open name.Caption r h = absurd (cc)
title_open name.Row r h = absurd (cc)
title_open name.Cell r h = absurd (cc)
title_open name.HeaderCell r h = absurd (cc)

title_cost : (title : BlockElement) (n : Node) (c : Context) → Due n → has (is_title_of title) n.tree ≡ true
    → Costs c.is_flat (title_element title n c) (due (rep c.around) n.tree)
title_cost title n c f e =
    let k = due (rep c.around) n.tree in
    let h = open_by (is_title_of title) (title_open title) n.tree e in
    apart_cost c.is_flat (element_part title [] (blocks_within n c)) k
    (part_cost c.is_flat title [] (blocks_within n c) k
    (λ g. blocks_cost false c.is_flat (within n c) k g (within_cost n c f h)))

title_due : (title : BlockElement) (n : Node) → Due n → Due (as_title title n)
title_due title n f = go (has (is_title_of title) n.tree) refl
  where
    go : (t : Bool) → has (is_title_of title) n.tree ≡ t
        → Due (if t then record n { whole = title_element title n } else n)
    go true e = record { outer = λ c. title_cost title n c f e; inner = λ c. f.inner c }
    go false e = f

titled_due : (title : BlockElement) (nodes : List Node) → AllDue nodes → AllDue (map (as_title title) nodes)
titled_due title [] f = tt
titled_due title (n ∷ nodes) f = (title_due title n f.0, titled_due title nodes f.1)

same_due : (k : ℕ) (title : BlockElement) (n : Node) → due k (as_title title n).tree ≡ due k n.tree
same_due k title n = go (has (is_title_of title) n.tree)
  where
    go : (t : Bool) → due k (if t then record n { whole = title_element title n } else n).tree ≡ due k n.tree
    go true = refl
    go false = refl

titled_dues : (k : ℕ) (title : BlockElement) (nodes : List Node)
    → dues k (map (as_title title) nodes) ≡ dues k nodes
titled_dues k title [] = refl
titled_dues k title (n ∷ nodes) = omega (arith, same_due k title n, titled_dues k title nodes)

titled_cost : (title : BlockElement) (nodes : List Node) (c : Context) → AllDue nodes
    → Costs c.is_flat (titled title nodes c) (dues (rep c.around) nodes)
titled_cost title nodes c f =
    at_most c.is_flat (titled title nodes c) (dues (rep c.around) (map (as_title title) nodes))
    (dues (rep c.around) nodes) (omega (arith, titled_dues (rep c.around) title nodes))
    (flow_cost (map (as_title title) nodes) c (titled_due title nodes f))

-- ---- details and figures

pub details_cost : (attributes : List AttributePair) (nodes : List Node) (c : Context) → AllDue nodes
    → Costs c.is_flat (details_parts attributes nodes c) (dues (rep c.around) nodes)
details_cost attributes nodes c f =
    apart_cost c.is_flat
    (if has_elements c then element_part name.Details (open_attribute attributes) bs else flow_all nodes c) k
    (go (has_elements c))
  where
    k : ℕ
    k = dues (rep c.around) nodes

    bs : Blocks
    bs = blocks_of false (titled name.Summary nodes c)

    go : (t : Bool)
        → Costs c.is_flat
        (if t then element_part name.Details (open_attribute attributes) bs else flow_all nodes c) k
    go true =
        part_cost c.is_flat name.Details (open_attribute attributes) bs k
        (λ g. blocks_cost false c.is_flat (titled name.Summary nodes c) k g (titled_cost name.Summary nodes c f))
    go false = flow_cost nodes c f

figure_by_cost : (f t : Bool) (parts : List Part) (k : ℕ) → Costs f parts k → Costs f (figure_by t parts) k
figure_by_cost f true parts k h =
    part_cost f name.Figure [] (blocks_of false parts) k (λ g. blocks_cost false f parts k g h)
figure_by_cost f false parts k h = h

pub figure_cost : (nodes : List Node) (c : Context) → AllDue nodes
    → Costs c.is_flat (figure_parts nodes c) (dues (rep c.around) nodes)
figure_cost nodes c f =
    apart_cost c.is_flat (if has_elements c then captioned nodes c else flow_all nodes c) k (go (has_elements c))
  where
    k : ℕ
    k = dues (rep c.around) nodes

    go : (t : Bool) → Costs c.is_flat (if t then captioned nodes c else flow_all nodes c) k
    go true =
        figure_by_cost c.is_flat (list_any (λ (n : Node). shows_title name.FigureCaption n.tree) nodes)
        (titled name.FigureCaption nodes c) k (titled_cost name.FigureCaption nodes c f)
    go false = flow_cost nodes c f

-- ---- terms

abbrev started : List Description → ℕ
started [] = 0
started (d ∷ ds) = owed d.content + started ds

-- none is one line
abbrev Loose : List Description → Type 0
Loose [] = Unit {0}
Loose (d ∷ ds) = (d.content.is_flat ≡ false) × Loose ds

started_append : (a b : List Description) → started (a ++ b) ≡ started a + started b
started_append [] b = omega arith
started_append (d ∷ a) b = omega (arith, started_append a b)

loose_append : (a b : List Description) → Loose a → Loose b → Loose (a ++ b)
loose_append [] b f g = g
loose_append (d ∷ a) b f g = (f.0, loose_append a b f.1 g)

new_debt : (t : Bool) (parts : List Part) (k : ℕ) → Costs false parts k
    → owed (description_with t parts).content ≤ k
new_debt t parts k c = omega (arith, c.at (begun false false) refl)

new_loose : (t : Bool) (parts : List Part) → Loose (description_with t parts ∷ [])
new_loose t parts = (all_flat parts (begun false false), tt)

onto_debt : (ds : List Description) (parts : List Part) (k : ℕ) → Loose ds → Costs false parts k
    → started (onto_last_description ds parts) ≤ started ds + k
onto_debt [] parts k f c = omega arith
onto_debt (d ∷ []) parts k f c = omega (arith, c.at d.content f.0)
onto_debt (d ∷ next ∷ ds) parts k f c = omega (arith, onto_debt (next ∷ ds) parts k f.1 c)

onto_loose : (ds : List Description) (parts : List Part) → Loose ds → Loose (onto_last_description ds parts)
onto_loose [] parts f = tt
onto_loose (d ∷ []) parts f = (all_flat parts d.content ∙ f.0, tt)
onto_loose (d ∷ next ∷ ds) parts f = (f.0, onto_loose (next ∷ ds) parts f.1)

-- one that begins with nothing
record Same (ds es : List Description) : Type 0 where
  debt : started ds ≤ started es
  loose : Loose ds

before_same : (t : Bool) (ds : List Description) → Loose ds → Same (before_more t ds) ds
before_same t ds f = go (t && ends_with_term ds)
  where
    go : (x : Bool) → Same (if x then ds ++ description_with false [] ∷ [] else ds) ds
    go true =
        record {
          debt = omega (
            arith,
            started_append ds (description_with false [] ∷ []),
            new_debt false [] 0
                (nothing false),
          );
          loose = loose_append ds (description_with false [] ∷ []) f (new_loose false []);
        }
    go false = record { debt = omega arith; loose = f }

-- what comes before the first, and those that are begun
record Held (d : Descriptions) (k : ℕ) : Type 0 where
  spent : ℕ
  paid : Costs false d.before spent
  fits : spent + started d.begun ≤ k
  loose : Loose d.begun

between_held : (c : Context) (d : Descriptions) (n : Node) (k : ℕ) → c.is_flat ≡ false → Due n → Held d k
    → Held (with_between c d n) (k + due (rep c.around) n.tree)
between_held c d n k h f s = go (nat_lt 0 (length d.begun))
  where
    j : ℕ
    j = due (rep c.around) n.tree

    parts : List Part
    parts = flow_all (n ∷ []) c

    one : Costs false parts j
    one =
        loosely c.is_flat parts j h
        (at_most c.is_flat parts (dues (rep c.around) (n ∷ [])) j (omega arith) (flow_cost (n ∷ []) c (f, tt)))

    ds : List Description
    ds = before_more (shows false n.tree) d.begun

    same : Same ds d.begun
    same = before_same (shows false n.tree) d.begun s.loose

    go : (t : Bool)
        → Held
        (if t then record d { begun = onto_last_description ds (edge ∷ parts) }
        else record d { before = d.before ++ parts }) (k + j)
    go true = record {
      spent = s.spent;
      paid = s.paid;
      fits = omega (
        arith,
        onto_debt ds (edge ∷ parts) j same.loose (edge_before false parts j one),
        same.debt,
        s.fits,
      );
      loose = onto_loose ds (edge ∷ parts) same.loose;
    }
    go false = record {
      spent = s.spent + j;
      paid = both false d.before parts s.spent j s.paid one;
      fits = omega (arith, s.fits);
      loose = s.loose;
    }

-- a term, or what one means, is no verbatim block
described_open : (a b v : Bool) → (a || b) ≡ true → (a ≡ true → v ≡ false) → (b ≡ true → v ≡ false)
    → v ≡ false
described_open true b v h i j = i refl
described_open false b v h i j = j h

node_held : (c : Context) (d : Descriptions) (n : Node) (k : ℕ) → c.is_flat ≡ false → Due n → Held d k
    → Held (with_described c d n) (k + due (rep c.around) n.tree)
node_held c d n k h f s = go (has roles.is_term n.tree || has roles.is_meaning n.tree) refl
  where
    j : ℕ
    j = due (rep c.around) n.tree

    is_term : Bool
    is_term = has roles.is_term n.tree

    new : List Description
    new = description_with is_term (within n c) ∷ []

    go : (t : Bool) → (has roles.is_term n.tree || has roles.is_meaning n.tree) ≡ t
        → Held (if t then record d { begun = d.begun ++ new } else with_between c d n) (k + j)
    go true e =
        let unset =
        described_open (has roles.is_term n.tree) (has roles.is_meaning n.tree) (has roles.is_verbatim n.tree) e
        (open_by roles.is_term term_open n.tree) (open_by roles.is_meaning meaning_open n.tree) in
        let x = loosely c.is_flat (within n c) j h (within_cost n c f unset) in
        record {
          spent = s.spent;
          paid = s.paid;
          fits = omega (arith, started_append d.begun new, new_debt is_term (within n c) j x, s.fits);
          loose = loose_append d.begun new s.loose (new_loose is_term (within n c));
        }
    go false e = between_held c d n k h f s

all_held : (c : Context) (d : Descriptions) (parts : List TermPart) (k : ℕ) → c.is_flat ≡ false → TermsDue parts
    → Held d k → Held (fold (with_description c) d parts) (k + terms_dues (rep c.around) parts)
all_held c d [] k h f s = record {
  spent = s.spent;
  paid = s.paid;
  fits = omega (arith, s.fits);
  loose = s.loose;
}
all_held c d (gap ∷ parts) k h f s = all_held c d parts k h f s
all_held c d (of_node n ∷ parts) k h f s =
    let j = due (rep c.around) n.tree in
    let x = all_held c (with_described c d n) parts (k + j) h f.1 (node_held c d n k h f.0 s) in
    record { spent = x.spent; paid = x.paid; fits = omega (arith, x.fits); loose = x.loose }

elements_debt : (ds : List Description) → debt (document.blocks_of (map description_element ds)) ≤ started ds
elements_debt [] = omega arith
elements_debt (d ∷ ds) = omega (arith, elements_debt ds, in_cost d.content)

element_cost : (ds : List Description) → Costs false (element_of_descriptions ds) (started ds)
element_cost ds = go (list_any is_filled_description ds)
  where
    x : Block
    x = document.element name.Terms [] (document.blocks_of (map description_element ds))

    go : (t : Bool) → Costs false (if t then whole x ∷ [] else []) (started ds)
    go true =
        at_most false (whole x ∷ []) (debt (document.blocks_of (map description_element ds))) (started ds)
        (elements_debt ds) (block_cost false x)
    go false = at_most false [] 0 (started ds) (omega arith) (nothing false)

pub described_cost : (parts : List TermPart) (c : Context) (k : ℕ) → c.is_flat ≡ false → TermsDue parts
    → terms_dues (rep c.around) parts ≤ k → Costs c.is_flat (described_parts parts c) k
described_cost parts c k h f i =
    let d = fold (with_description c) no_descriptions parts in
    let z : Held no_descriptions 0 = record { spent = 0; paid = nothing false; fits = omega arith; loose = tt } in
    let s = all_held c no_descriptions parts 0 h f z in
    strictly c.is_flat (described_parts parts c) k h
    (at_most false (described_parts parts c) (s.spent + started d.begun) k (omega (arith, s.fits, i))
    (both false (edge ∷ d.before) (apart (element_of_descriptions d.begun)) s.spent (started d.begun)
    (edge_before false d.before s.spent s.paid)
    (apart_cost false (element_of_descriptions d.begun) (started d.begun) (element_cost d.begun))))
