-- Parts of the same kinds: what follows each other, lists, and lists of terms.
use Rattle.std.proofs.Common.{◌≡◌, ℕ, suc, Bool, true, false, cond, not, ◌&&◌, ◌||◌, List, [], ◌∷◌, ◌++◌, map, refl}
use Rattle.std.proofs.Common.{sym, ap, ◌∙◌, subst, fold, length, Option, Some, None}
use Rattle.std.specs.Prelude.{ℤ, nat_lt, nat_le}
use Rattle.std.specs.List.{list_any}
use Rattle.htmd_document.specs.DocumentLimits.{most_nested}
use Rattle.htmd_document.specs.Documents.{Inlines, no_inlines, inline, Blocks, no_blocks, block}
use Rattle.htmd_document.specs.TightItems.{is_filled}
use Rattle.htmd_shown.specs.Kinds.{has}
use Rattle.htmd_shown.specs.Roles as roles
use Rattle.htmd_shown.specs.Spaces.{is_blank_text}
use Rattle.htmd_flow.specs.Contexts.{Context, has_elements, is_lined, deeper, apart}
use Rattle.htmd_flow.specs.Flows.{Node, TermPart, gap, of_node, is_item, is_cell, attributes_of, before_items, behind_item, item_of, items_of}
use Rattle.htmd_flow.specs.Flows.{each_whole, list_parts, is_spaces, goes_on, items_in_a_row, flow_all, flow_after}
use Rattle.htmd_flow.specs.Flows.{has_role, beside_terms, within_item, Terms, no_terms, item_with, onto_last, with_term}
use Rattle.htmd_flow.specs.Flows.{with_parts, after_node, with_node, with_part, term_item, items_of_terms, list_of_terms}
use Rattle.htmd_flow.specs.Flows.{term_parts, blocks_of, line_of, heading_of, quote_of}
use Rattle.htmd_flow.specs.Lists.{ListItem, are_filled, list_of, numbered, start_of, new_number, Groups, groups_at}
use Rattle.htmd_flow.specs.Lists.{with_number, with_item, ended, lists_of, lists_if_filled}
use Rattle.htmd_flow.specs.Paragraphs.{Writing, begun, fed_all, blocks_in}
use Rattle.htmd_flow.specs.Parts.{Part, run, picture, break, place, box, edge, whole}
use Rattle.htmd_law_documents.proofs.ElementLemmas.{false-true, true-false}
use Rattle.htmd_law_documents.proofs.NormalTextLemmas.{neither}
use Rattle.htmd_law_anchors.proofs.LinkNodesLemmas.{is_inner, has-more, item-inner, term-inner, meaning-inner}
use Rattle.htmd_law_anchors.proofs.ShapeParagraphLemmas.{Shape, nothing, opened, closed, many, leaf, step, shape_after}
use Rattle.htmd_law_anchors.proofs.ShapeWritingLemmas.{some_line, fills, any_fills, Begun, all-full, nothing-begun}
use Rattle.htmd_law_anchors.proofs.ShapeWritingLemmas.{begun-filled, blocks-filled, line-filled}
use Rattle.htmd_law_anchors.proofs.TruthLemmas.{and-true, and-false, or-none, or-assoc}

-- ---- parts of the same kinds

-- in one line as much shows, and else the same comes of it
abbrev pub Same : Bool → List Part → List Part → Type 0
Same true ps qs = any_fills true ps ≡ any_fills true qs
Same false ps qs = (s : Shape) → shape_after s ps ≡ shape_after s qs

pub same-itself : (flat : Bool) (ps : List Part) → Same flat ps ps
same-itself true ps = refl
same-itself false ps = λ s. refl

pub any-append : (flat : Bool) (ps qs : List Part)
    → any_fills flat (ps ++ qs) ≡ (any_fills flat ps || any_fills flat qs)
any-append flat [] qs = refl
any-append flat (p ∷ ps) qs =
    ap (λ b. fills flat p || b) (any-append flat ps qs)
    ∙ sym (or-assoc (fills flat p) (any_fills flat ps) (any_fills flat qs))

pub shape-append : (ps qs : List Part) (s : Shape) → shape_after s (ps ++ qs) ≡ shape_after (shape_after s ps) qs
shape-append [] qs s = refl
shape-append (p ∷ ps) qs s = shape-append ps qs (step s p)

pub same-append : (flat : Bool) (ps ps' qs qs' : List Part) → Same flat ps ps' → Same flat qs qs'
    → Same flat (ps ++ qs) (ps' ++ qs')
same-append true ps ps' qs qs' g h =
    any-append true ps qs
    ∙ (ap (λ b. b || any_fills true qs) g
    ∙ (ap (λ b. any_fills true ps' || b) h ∙ sym (any-append true ps' qs')))
same-append false ps ps' qs qs' g h = λ s.
    shape-append ps qs s
    ∙ (ap (λ t. shape_after t qs) (g s) ∙ (h (shape_after s ps') ∙ sym (shape-append ps' qs' s)))

pub same-cons : (flat : Bool) (p : Part) (ps qs : List Part) → Same flat ps qs → Same flat (p ∷ ps) (p ∷ qs)
same-cons true p ps qs h = ap (λ b. fills true p || b) h
same-cons false p ps qs h = λ s. h (step s p)

pub same-apart : (flat : Bool) (ps qs : List Part) → Same flat ps qs → Same flat (apart ps) (apart qs)
same-apart flat ps qs h =
    same-append flat (edge ∷ ps) (edge ∷ qs) (edge ∷ []) (edge ∷ []) (same-cons flat edge ps qs h)
    (same-itself flat (edge ∷ []))

pub same-cond : (flat b d : Bool) (ps qs ps' qs' : List Part) → b ≡ d → (b ≡ true → Same flat ps ps')
    → (b ≡ false → Same flat qs qs') → Same flat (cond b ps qs) (cond d ps' qs')
same-cond flat b d ps qs ps' qs' e g h =
    subst (λ (x : Bool). Same flat (cond b ps qs) (cond x ps' qs')) e (either b g h)
  where
    either : (b : Bool) → (b ≡ true → Same flat ps ps') → (b ≡ false → Same flat qs qs')
        → Same flat (cond b ps qs) (cond b ps' qs')
    either true g h = g refl
    either false g h = h refl

pub same-join : (flat : Bool) (ps qs rs : List Part) → Same flat ps qs → Same flat qs rs → Same flat ps rs
same-join true ps qs rs g h = g ∙ h
same-join false ps qs rs g h = λ s. g s ∙ h s

pub same-line : (flat b : Bool) (ps qs : List Part) → flat ≡ b → Same b ps qs → Same flat ps qs
same-line flat b ps qs e h = subst (λ (x : Bool). Same x ps qs) (sym e) h

-- ---- whether anything is there

abbrev is_nothing : Shape → Bool
is_nothing nothing = true
is_nothing _ = false

leaf-some : (s : Shape) → is_nothing (leaf s) ≡ false
leaf-some nothing = refl
leaf-some (opened n) = either (nat_le 2 n)
  where
    either : (b : Bool) → is_nothing (cond b many (opened 0)) ≡ false
    either true = refl
    either false = refl
leaf-some closed = refl
leaf-some many = refl

kept : (s t : Shape) → is_nothing t ≡ is_nothing s → is_nothing t ≡ (is_nothing s && true)
kept s t e = e ∙ sym (and-true (is_nothing s))

lost : (s t : Shape) → is_nothing t ≡ false → is_nothing t ≡ (is_nothing s && false)
lost s t e = e ∙ sym (and-false (is_nothing s))

step-nothing : (p : Part) (s : Shape) → is_nothing (step s p) ≡ (is_nothing s && not (fills false p))
step-nothing (run t around k) s = either (is_blank_text t)
  where
    either : (b : Bool) → is_nothing (cond b s (leaf s)) ≡ (is_nothing s && not (not b))
    either true = kept s s refl
    either false = lost s (leaf s) (leaf-some s)
step-nothing (picture address title description around) s = lost s (leaf s) (leaf-some s)
step-nothing break nothing = refl
step-nothing break (opened n) = refl
step-nothing break closed = refl
step-nothing break many = refl
step-nothing (place id) s = lost s (leaf s) (leaf-some s)
step-nothing (box b) nothing = refl
step-nothing (box b) (opened n) = either (nat_le 2 n)
  where
    either : (b : Bool) → is_nothing (cond b closed (opened 0)) ≡ false
    either true = refl
    either false = refl
step-nothing (box b) closed = refl
step-nothing (box b) many = refl
step-nothing edge nothing = refl
step-nothing edge (opened n) = refl
step-nothing edge closed = refl
step-nothing edge many = refl
step-nothing (whole b) nothing = either _
  where
    either : (b : Bool) → is_nothing (cond b closed many) ≡ false
    either true = refl
    either false = refl
step-nothing (whole b) (opened n) = either _
  where
    either : (b : Bool) → is_nothing (cond b many many) ≡ false
    either true = refl
    either false = refl
step-nothing (whole b) closed = either _
  where
    either : (b : Bool) → is_nothing (cond b many many) ≡ false
    either true = refl
    either false = refl
step-nothing (whole b) many = either _
  where
    either : (b : Bool) → is_nothing (cond b many many) ≡ false
    either true = refl
    either false = refl

and-not : (a b c : Bool) → ((a && not b) && not c) ≡ (a && not (b || c))
and-not true true c = refl
and-not true false c = refl
and-not false b c = refl

all-nothing : (ps : List Part) (s : Shape)
    → is_nothing (shape_after s ps) ≡ (is_nothing s && not (any_fills false ps))
all-nothing [] s = sym (and-true (is_nothing s))
all-nothing (p ∷ ps) s =
    all-nothing ps (step s p)
    ∙ (ap (λ b. b && not (any_fills false ps)) (step-nothing p s)
    ∙ and-not (is_nothing s) (fills false p) (any_fills false ps))

not-same : (a b : Bool) → not a ≡ not b → a ≡ b
not-same true true e = refl
not-same true false e = false-true e
not-same false true e = true-false e
not-same false false e = refl

pub same-fills : (ps qs : List Part) → Same false ps qs → any_fills false ps ≡ any_fills false qs
same-fills ps qs h =
    not-same (any_fills false ps) (any_fills false qs)
    (sym (all-nothing ps nothing) ∙ (ap is_nothing (h nothing) ∙ all-nothing qs nothing))

-- ---- lists

numbered-shape : (nested : ℕ) (start : ℤ) (items : List ListItem) (s : Shape)
    → shape_after s (numbered nested start items) ≡ cond (are_filled items) many s
numbered-shape nested start items s = either (are_filled items)
  where
    either : (b : Bool)
        → shape_after s (cond b (list_of (start_of nested start (length items)) items ∷ []) []) ≡ cond b many s
    either true = refl
    either false = refl

filled-append : (xs : List ListItem) (i : ListItem)
    → are_filled (xs ++ i ∷ []) ≡ (are_filled xs || is_filled i.blocks)
filled-append [] i = or-none (is_filled i.blocks)
filled-append (x ∷ xs) i =
    ap (λ b. is_filled x.blocks || b) (filled-append xs i)
    ∙ sym (or-assoc (is_filled x.blocks) (are_filled xs) (is_filled i.blocks))

many-cond : (f b : Bool) (s : Shape) → cond f many (cond b many s) ≡ cond (b || f) many s
many-cond true true s = refl
many-cond true false s = refl
many-cond false true s = refl
many-cond false false s = refl

-- after these groups comes more than a paragraph, or nothing
abbrev Comes : Groups → Bool → Type 0
Comes g b = (s : Shape) → shape_after s g.done ≡ cond b many s

ended-shape : (g : Groups) (b : Bool) → Comes g b → (s : Shape)
    → shape_after s (ended g) ≡ cond (b || are_filled g.group) many s
ended-shape g b h s =
    shape-append g.done (numbered g.nested g.start g.group) s
    ∙ (ap (λ t. shape_after t (numbered g.nested g.start g.group)) (h s)
    ∙ (numbered-shape g.nested g.start g.group (cond b many s) ∙ many-cond (are_filled g.group) b s))

groups-shape : (items : List ListItem) (g : Groups) (b : Bool) → Comes g b → (s : Shape)
    → shape_after s (ended (fold with_item g items)) ≡ cond ((b || are_filled g.group) || are_filled items) many s
groups-shape [] g b h s =
    ended-shape g b h s ∙ ap (λ x. cond x many s) (sym (or-none (b || are_filled g.group)))
groups-shape (i ∷ items) g b h s =
    either (new_number g.next i.value) (λ k d x. groups-shape items k d x s)
  where
    once : (b g i r : Bool) → ((b || (g || i)) || r) ≡ ((b || g) || (i || r))
    once true g i r = refl
    once false true i r = refl
    once false false i r = refl

    anew : (b g i r : Bool) → (((b || g) || (i || false)) || r) ≡ ((b || g) || (i || r))
    anew true g i r = refl
    anew false true i r = refl
    anew false false true r = refl
    anew false false false r = refl

    either : (o : Option ℤ)
        → ((k : Groups) (d : Bool) → Comes k d
        → shape_after s (ended (fold with_item k items))
        ≡ cond ((d || are_filled k.group) || are_filled items) many s)
        → shape_after s (ended (fold with_item (with_number g i o) items))
        ≡ cond ((b || are_filled g.group) || (is_filled i.blocks || are_filled items)) many s
    either None next =
        next (with_number g i None) b h
        ∙ ap (λ x. cond x many s)
        (ap (λ x. (b || x) || are_filled items) (filled-append g.group i)
        ∙ once b (are_filled g.group) (is_filled i.blocks) (are_filled items))
    either (Some v) next =
        next (with_number g i (Some v)) (b || are_filled g.group) (λ t. ended-shape g b h t)
        ∙ ap (λ x. cond x many s) (anew b (are_filled g.group) (is_filled i.blocks) (are_filled items))

lists-of-shape : (nested : ℕ) (start : Option ℤ) (items : List ListItem) → are_filled items ≡ true
    → (s : Shape)
    → shape_after s (lists_of nested start items) ≡ many
lists-of-shape nested None items e s = refl
lists-of-shape nested (Some start) items e s =
    groups-shape items (groups_at nested start) false (λ t. refl) s ∙ ap (λ x. cond x many s) e

pub lists-shape : (nested : ℕ) (start : Option ℤ) (items : List ListItem) (s : Shape)
    → shape_after s (lists_if_filled nested start items) ≡ cond (are_filled items) many s
lists-shape nested start items s = either (are_filled items) refl
  where
    either : (b : Bool) → are_filled items ≡ b
        → shape_after s (cond b (lists_of nested start items) []) ≡ cond b many s
    either true e = lists-of-shape nested start items e s
    either false e = refl

-- ---- nodes of the same kinds

-- as much is one line, as many lists and quotes are around, and neither document is rich
pub record Twin (c d : Context) : Type 0 where
  pub flat : c.is_flat ≡ d.is_flat
  pub nested : c.nested ≡ d.nested
  pub first : c.is_rich ≡ false
  pub second : d.is_rich ≡ false

pub twin-deeper : (c d : Context) → Twin c d → Twin (deeper c) (deeper d)
twin-deeper c d t = record { flat = t.flat; nested = ap suc t.nested; first = t.first; second = t.second }

-- so nothing is an element
pub same-plain : (c d : Context) → Twin c d → (ps qs ps' qs' : List Part) → Same c.is_flat qs qs'
    → Same c.is_flat (cond (has_elements c) ps qs) (cond (has_elements d) ps' qs')
same-plain c d t ps qs ps' qs' h =
    same-cond c.is_flat (has_elements c) (has_elements d) ps qs ps' qs' (left ∙ sym right)
    (λ e. true-false (sym e ∙ left)) (λ e. h)
  where
    left : has_elements c ≡ false
    left = ap (λ b. b && not c.is_flat) t.first

    right : has_elements d ≡ false
    right = ap (λ b. b && not d.is_flat) t.second

pub lined-same : (c d : Context) → Twin c d → is_lined c ≡ is_lined d
lined-same c d t =
    ap (λ b. b || nat_le most_nested c.nested) t.flat ∙ ap (λ n. d.is_flat || nat_le most_nested n) t.nested

pub not-flat : (c : Context) → is_lined c ≡ false → c.is_flat ≡ false
not-flat c e = (neither c.is_flat (nat_le most_nested c.nested) e).0

abbrev pub GivesSame : (Context → List Part) → (Context → List Part) → Type 0
GivesSame f g = (c d : Context) → Twin c d → Same c.is_flat (f c) (g d)

pub record SameNode (n m : Node) : Type 0 where
  pub whole : GivesSame n.whole m.whole
  pub content : has is_inner n.tree ≡ true → GivesSame n.content m.content
  pub item : is_item n ≡ is_item m
  pub spaces : is_spaces n.tree ≡ is_spaces m.tree
  pub term : has roles.is_term n.tree ≡ has roles.is_term m.tree
  pub meaning : has roles.is_meaning n.tree ≡ has roles.is_meaning m.tree
  pub caption : has roles.is_caption n.tree ≡ has roles.is_caption m.tree
  pub row : has roles.is_row_or_part n.tree ≡ has roles.is_row_or_part m.tree
  pub cell : is_cell n ≡ is_cell m
  pub attributes : is_cell n ≡ true → attributes_of n.tree ≡ attributes_of m.tree

abbrev pub SameNodes : List Node → List Node → Type 0
SameNodes [] [] = Unit {0}
SameNodes (n ∷ ns) (m ∷ ms) = SameNode n m × SameNodes ns ms
SameNodes _ _ = ⊥

each-same : (ns ms : List Node) → SameNodes ns ms → GivesSame (each_whole ns) (each_whole ms)
each-same [] [] h c d t = same-itself c.is_flat []
each-same (n ∷ ns) (m ∷ ms) h c d t =
    same-append c.is_flat (n.whole c) (m.whole d) (each_whole ns c) (each_whole ms d) (h.0.whole c d t)
    (each-same ns ms h.1 c d t)
each-same ns ms h c d t = absurd h

before-same : (ns ms : List Node) → SameNodes ns ms → GivesSame (before_items ns) (before_items ms)
before-same [] [] h c d t = same-itself c.is_flat []
before-same (n ∷ ns) (m ∷ ms) h c d t =
    same-cond c.is_flat (is_item n) (is_item m) [] (n.whole c ++ before_items ns c) []
    (m.whole d ++ before_items ms d) h.0.item (λ e. same-itself c.is_flat [])
    (λ e. same-append c.is_flat (n.whole c) (m.whole d) (before_items ns c) (before_items ms d) (h.0.whole c d t)
    (before-same ns ms h.1 c d t))
before-same ns ms h c d t = absurd h

behind-same : (ns ms : List Node) → SameNodes ns ms → GivesSame (behind_item ns) (behind_item ms)
behind-same [] [] h c d t = same-itself c.is_flat []
behind-same (n ∷ ns) (m ∷ ms) h c d t =
    same-cond c.is_flat (is_item n) (is_item m) [] (edge ∷ n.whole c ++ behind_item ns c) []
    (edge ∷ m.whole d ++ behind_item ms d) h.0.item (λ e. same-itself c.is_flat [])
    (λ e. same-append c.is_flat (edge ∷ n.whole c) (edge ∷ m.whole d) (behind_item ns c) (behind_item ms d)
    (same-cons c.is_flat edge (n.whole c) (m.whole d) (h.0.whole c d t)) (behind-same ns ms h.1 c d t))
behind-same ns ms h c d t = absurd h

filled-cond : (b d : Bool) (i j : ListItem) (xs ys : List ListItem) → b ≡ d
    → (b ≡ true → is_filled i.blocks ≡ is_filled j.blocks) → are_filled xs ≡ are_filled ys
    → are_filled (cond b (i ∷ xs) xs) ≡ are_filled (cond d (j ∷ ys) ys)
filled-cond b d i j xs ys e f g =
    subst (λ (x : Bool). are_filled (cond b (i ∷ xs) xs) ≡ are_filled (cond x (j ∷ ys) ys)) e (either b f)
  where
    either : (b : Bool) → (b ≡ true → is_filled i.blocks ≡ is_filled j.blocks)
        → are_filled (cond b (i ∷ xs) xs) ≡ are_filled (cond b (j ∷ ys) ys)
    either true f = ap (λ x. x || are_filled xs) (f refl) ∙ ap (λ x. is_filled j.blocks || x) g
    either false f = g

items-same : (ns ms : List Node) → SameNodes ns ms → (c d : Context) → Twin c d → c.is_flat ≡ false
    → are_filled (items_of ns c) ≡ are_filled (items_of ms d)
items-same [] [] h c d t f = refl
items-same (n ∷ ns) (m ∷ ms) h c d t f =
    let ps : List Part = n.content c ++ behind_item ns c in
    let qs : List Part = m.content d ++ behind_item ms d in
    filled-cond (is_item n) (is_item m) (item_of n ps) (item_of m qs) (items_of ns c) (items_of ms d) h.0.item
    (λ e.
    let same : Same c.is_flat ps qs =
    same-append c.is_flat (n.content c) (m.content d) (behind_item ns c) (behind_item ms d)
    (h.0.content (has-more roles.is_item is_inner item-inner n.tree e) c d t) (behind-same ns ms h.1 c d t) in
    blocks-filled true ps
    ∙ (same-fills ps qs (same-line false c.is_flat ps qs (sym f) same) ∙ sym (blocks-filled true qs)))
    (items-same ns ms h.1 c d t f)
items-same ns ms h c d t f = absurd h

between-same : (flat : Bool) (ps qs lists lists' : List Part) → Same flat ps qs → Same flat lists lists'
    → Same flat ((edge ∷ ps) ++ edge ∷ lists ++ edge ∷ []) ((edge ∷ qs) ++ edge ∷ lists' ++ edge ∷ [])
between-same flat ps qs lists lists' g h =
    same-append flat ((edge ∷ ps) ++ edge ∷ lists) ((edge ∷ qs) ++ edge ∷ lists') (edge ∷ []) (edge ∷ [])
    (same-append flat (edge ∷ ps) (edge ∷ qs) (edge ∷ lists) (edge ∷ lists') (same-cons flat edge ps qs g)
    (same-cons flat edge lists lists' h)) (same-itself flat (edge ∷ []))

lists-same : (n m : ℕ) (start start' : Option ℤ) (xs ys : List ListItem) → are_filled xs ≡ are_filled ys
    → Same false (lists_if_filled n start xs) (lists_if_filled m start' ys)
lists-same n m start start' xs ys e = λ s.
    lists-shape n start xs s ∙ (ap (λ b. cond b many s) e ∙ sym (lists-shape m start' ys s))

pub list-parts-same : (start start' : Option ℤ) (ns ms : List Node) → SameNodes ns ms
    → GivesSame (list_parts start ns) (list_parts start' ms)
list-parts-same start start' ns ms h c d t =
    same-cond c.is_flat (is_lined c) (is_lined d) (apart (each_whole ns c))
    ((edge ∷ before_items ns c) ++ edge ∷ lists_if_filled c.nested start (items_of ns (deeper c)) ++ edge ∷ [])
    (apart (each_whole ms d))
    ((edge ∷ before_items ms d) ++ edge ∷ lists_if_filled d.nested start' (items_of ms (deeper d)) ++ edge ∷ [])
    (lined-same c d t)
    (λ e. same-apart c.is_flat (each_whole ns c) (each_whole ms d) (each-same ns ms h c d t))
    (λ e. between-same c.is_flat (before_items ns c) (before_items ms d)
    (lists_if_filled c.nested start (items_of ns (deeper c)))
    (lists_if_filled d.nested start' (items_of ms (deeper d))) (before-same ns ms h c d t)
    (same-line c.is_flat false (lists_if_filled c.nested start (items_of ns (deeper c)))
    (lists_if_filled d.nested start' (items_of ms (deeper d))) (not-flat c e)
    (lists-same c.nested d.nested start start' (items_of ns (deeper c)) (items_of ms (deeper d))
    (items-same ns ms h (deeper c) (deeper d) (twin-deeper c d t) (not-flat c e)))))

goes-same : (n m : Node) → SameNode n m → goes_on n ≡ goes_on m
goes-same n m h = ap (λ b. b || is_spaces n.tree) h.item ∙ ap (λ b. is_item m || b) h.spaces

row-same : (ns ms : List Node) → SameNodes ns ms → SameNodes (items_in_a_row ns) (items_in_a_row ms)
row-same [] [] h = tt
row-same (n ∷ ns) (m ∷ ms) h =
    subst (λ (x : Bool). SameNodes (cond (goes_on n) (n ∷ items_in_a_row ns) [])
    (cond x (m ∷ items_in_a_row ms) []))
    (goes-same n m h.0) (either (goes_on n) (row-same ns ms h.1))
  where
    either : (b : Bool) → SameNodes (items_in_a_row ns) (items_in_a_row ms)
        → SameNodes (cond b (n ∷ items_in_a_row ns) []) (cond b (m ∷ items_in_a_row ms) [])
    either true g = (h.0, g)
    either false g = tt
row-same ns ms h = absurd h

mutual
  pub flow-same : (ns ms : List Node) → SameNodes ns ms → GivesSame (flow_all ns) (flow_all ms)
  flow-same [] [] h c d t = same-itself c.is_flat []
  flow-same (n ∷ ns) (m ∷ ms) h c d t =
      same-cond c.is_flat (is_item n) (is_item m) (list_parts None (n ∷ items_in_a_row ns) c ++ flow_after ns c)
      (n.whole c ++ flow_all ns c) (list_parts None (m ∷ items_in_a_row ms) d ++ flow_after ms d)
      (m.whole d ++ flow_all ms d) h.0.item
      (λ e. same-append c.is_flat (list_parts None (n ∷ items_in_a_row ns) c)
      (list_parts None (m ∷ items_in_a_row ms) d) (flow_after ns c) (flow_after ms d)
      (list-parts-same None None (n ∷ items_in_a_row ns) (m ∷ items_in_a_row ms) (h.0, row-same ns ms h.1) c d t)
      (after-same ns ms h.1 c d t))
      (λ e. same-append c.is_flat (n.whole c) (m.whole d) (flow_all ns c) (flow_all ms d) (h.0.whole c d t)
      (flow-same ns ms h.1 c d t))
  flow-same ns ms h c d t = absurd h

  after-same : (ns ms : List Node) → SameNodes ns ms → GivesSame (flow_after ns) (flow_after ms)
  after-same [] [] h c d t = same-itself c.is_flat []
  after-same (n ∷ ns) (m ∷ ms) h c d t =
      same-cond c.is_flat (goes_on n) (goes_on m) (flow_after ns c) (n.whole c ++ flow_all ns c) (flow_after ms d)
      (m.whole d ++ flow_all ms d) (goes-same n m h.0) (λ e. after-same ns ms h.1 c d t)
      (λ e. same-append c.is_flat (n.whole c) (m.whole d) (flow_all ns c) (flow_all ms d) (h.0.whole c d t)
      (flow-same ns ms h.1 c d t))
  after-same ns ms h c d t = absurd h

-- ---- terms

abbrev pub SameTerm : TermPart → TermPart → Type 0
SameTerm gap gap = Unit {0}
SameTerm (of_node n) (of_node m) = SameNode n m
SameTerm _ _ = ⊥

abbrev pub SameTerms : List TermPart → List TermPart → Type 0
SameTerms [] [] = Unit {0}
SameTerms (p ∷ ps) (q ∷ qs) = SameTerm p q × SameTerms ps qs
SameTerms _ _ = ⊥

pub terms-append : (ps ps' qs qs' : List TermPart) → SameTerms ps ps' → SameTerms qs qs'
    → SameTerms (ps ++ qs) (ps' ++ qs')
terms-append [] [] qs qs' g h = h
terms-append (p ∷ ps) (p' ∷ ps') qs qs' g h = (g.0, terms-append ps ps' qs qs' g.1 h)
terms-append ps ps' qs qs' g h = absurd g

pub nodes-terms : (ns ms : List Node) → SameNodes ns ms → SameTerms (map of_node ns) (map of_node ms)
nodes-terms [] [] h = tt
nodes-terms (n ∷ ns) (m ∷ ms) h = (h.0, nodes-terms ns ms h.1)
nodes-terms ns ms h = absurd h

-- two items that are begun, with something in both or in none
record Both (w v : Writing) : Type 0 where
  full : Bool
  left : Begun true false full w
  right : Begun true false full v

abbrev AllBoth : List Writing → List Writing → Type 0
AllBoth [] [] = Unit {0}
AllBoth (w ∷ ws) (v ∷ vs) = Both w v × AllBoth ws vs
AllBoth _ _ = ⊥

both-fed : (w v : Writing) (ps qs : List Part) → Same false ps qs → Both w v → Both (fed_all w ps) (fed_all v qs)
both-fed w v ps qs h b = record {
  full = b.full || any_fills false ps;
  left = all-full true false ps w b.full b.left;
  right = subst (λ (x : Bool). Begun true false (b.full || x) (fed_all v qs)) (sym (same-fills ps qs h))
      (all-full true false qs v b.full b.right);
}

both-new : (ps qs : List Part) → Same false ps qs → Both (item_with ps) (item_with qs)
both-new ps qs h =
    both-fed (begun true false) (begun true false) ps qs h
    (record { full = false; left = nothing-begun true false; right = nothing-begun true false })

last-both : (ws vs : List Writing) (ps qs : List Part) → Same false ps qs → AllBoth ws vs
    → AllBoth (onto_last ws ps) (onto_last vs qs)
last-both [] [] ps qs h b = (both-new ps qs h, tt)
last-both (w ∷ []) (v ∷ []) ps qs h b = (both-fed w v ps qs h b.0, tt)
last-both (w ∷ x ∷ ws) (v ∷ y ∷ vs) ps qs h b = (b.0, last-both (x ∷ ws) (y ∷ vs) ps qs h b.1)
last-both (w ∷ []) (v ∷ y ∷ vs) ps qs h b = absurd b.1
last-both (w ∷ x ∷ ws) (v ∷ []) ps qs h b = absurd b.1
last-both [] (v ∷ vs) ps qs h b = absurd b
last-both (w ∷ ws) [] ps qs h b = absurd b

next-both : (ws vs : List Writing) (ps qs : List Part) → Same false ps qs → AllBoth ws vs
    → AllBoth (ws ++ item_with ps ∷ []) (vs ++ item_with qs ∷ [])
next-both [] [] ps qs h b = (both-new ps qs h, tt)
next-both (w ∷ ws) (v ∷ vs) ps qs h b = (b.0, next-both ws vs ps qs h b.1)
next-both ws vs ps qs h b = absurd b

both-length : (ws vs : List Writing) → AllBoth ws vs → length ws ≡ length vs
both-length [] [] b = refl
both-length (w ∷ ws) (v ∷ vs) b = ap suc (both-length ws vs b.1)
both-length ws vs b = absurd b

both-filled : (ws vs : List Writing) → AllBoth ws vs
    → are_filled (map term_item ws) ≡ are_filled (map term_item vs)
both-filled [] [] b = refl
both-filled (w ∷ ws) (v ∷ vs) b =
    ap (λ x. x || are_filled (map term_item ws))
    (begun-filled true b.0.full w b.0.left ∙ sym (begun-filled true b.0.full v b.0.right))
    ∙ ap (λ x. is_filled (blocks_in v) || x) (both-filled ws vs b.1)
both-filled ws vs b = absurd b

record TermsSame (t u : Terms) : Type 0 where
  before : Same false t.before u.before
  items : AllBoth t.items u.items
  on : t.goes_on ≡ u.goes_on

cond-terms : (b d : Bool) (t u t' u' : Terms) → b ≡ d → (b ≡ true → TermsSame t t') → TermsSame u u'
    → TermsSame (cond b t u) (cond d t' u')
cond-terms b d t u t' u' e g h =
    subst (λ (x : Bool). TermsSame (cond b t u) (cond x t' u')) e (either b g)
  where
    either : (b : Bool) → (b ≡ true → TermsSame t t') → TermsSame (cond b t u) (cond b t' u')
    either true g = g refl
    either false g = h

cond-both : (b d : Bool) (ws xs vs ys : List Writing) → b ≡ d → AllBoth ws vs → AllBoth xs ys
    → AllBoth (cond b ws xs) (cond d vs ys)
cond-both b d ws xs vs ys e g h =
    subst (λ (x : Bool). AllBoth (cond b ws xs) (cond x vs ys)) e (either b)
  where
    either : (b : Bool) → AllBoth (cond b ws xs) (cond b vs ys)
    either true = g
    either false = h

with-parts-same : (t u : Terms) (ps qs ps' qs' : List Part) → TermsSame t u → Same false ps ps'
    → Same false qs qs' → TermsSame (with_parts t ps qs) (with_parts u ps' qs')
with-parts-same t u ps qs ps' qs' h f g =
    cond-terms (nat_lt 0 (length t.items)) (nat_lt 0 (length u.items)) (record t { items = onto_last t.items ps })
    (record t { before = t.before ++ qs }) (record u { items = onto_last u.items ps' })
    (record u { before = u.before ++ qs' }) (ap (nat_lt 0) (both-length t.items u.items h.items))
    (λ e. record { before = h.before; items = last-both t.items u.items ps ps' f h.items; on = h.on })
    (record {
      before = same-append false t.before u.before qs qs' h.before g;
      items = h.items;
      on = h.on;
    })

beside-same : (n m : Node) → SameNode n m → GivesSame (beside_terms n) (beside_terms m)
beside-same n m h c d t =
    same-cond c.is_flat (has roles.is_meaning n.tree) (has roles.is_meaning m.tree) (apart (n.content c))
    (cond (is_item n) (n.content c) (n.whole c)) (apart (m.content d)) (cond (is_item m) (m.content d) (m.whole d))
    h.meaning
    (λ e. same-apart c.is_flat (n.content c) (m.content d)
    (h.content (has-more roles.is_meaning is_inner meaning-inner n.tree e) c d t))
    (λ e. same-cond c.is_flat (is_item n) (is_item m) (n.content c) (n.whole c) (m.content d) (m.whole d) h.item
    (λ k. h.content (has-more roles.is_item is_inner item-inner n.tree k) c d t) (λ k. h.whole c d t))

within-same : (n m : Node) → SameNode n m → GivesSame (within_item n) (within_item m)
within-same n m h c d t =
    same-cond c.is_flat (has roles.is_meaning n.tree) (has roles.is_meaning m.tree) (beside_terms n c)
    (edge ∷ beside_terms n c) (beside_terms m d) (edge ∷ beside_terms m d) h.meaning
    (λ e. beside-same n m h c d t)
    (λ e. same-cons c.is_flat edge (beside_terms n c) (beside_terms m d) (beside-same n m h c d t))

module _ (c d : Context) (t : Twin c d) (f : c.is_flat ≡ false) where
  in-blocks : (ps qs : List Part) → Same c.is_flat ps qs → Same false ps qs
  in-blocks ps qs h = same-line false c.is_flat ps qs (sym f) h

  node-same : (has_meanings : Bool) (x y : Terms) (n m : Node) → SameNode n m → TermsSame x y
      → TermsSame (with_node has_meanings c x n) (with_node has_meanings d y m)
  node-same has_meanings x y n m k h =
      cond-terms (has roles.is_term n.tree) (has roles.is_term m.tree)
      (with_term has_meanings x (apart (n.content (deeper c))))
      (with_parts (after_node x n) (within_item n (deeper c)) (beside_terms n c))
      (with_term has_meanings y (apart (m.content (deeper d))))
      (with_parts (after_node y m) (within_item m (deeper d)) (beside_terms m d)) k.term
      (λ e.
      let same : Same false (apart (n.content (deeper c))) (apart (m.content (deeper d))) =
      in-blocks (apart (n.content (deeper c))) (apart (m.content (deeper d)))
      (same-apart c.is_flat (n.content (deeper c)) (m.content (deeper d))
      (k.content (has-more roles.is_term is_inner term-inner n.tree e) (deeper c) (deeper d) (twin-deeper c d t))) in
      record {
        before = h.before;
        items = cond-both x.goes_on y.goes_on (onto_last x.items (apart (n.content (deeper c))))
            (x.items ++ item_with (apart (n.content (deeper c))) ∷ [])
            (onto_last y.items (apart (m.content (deeper d))))
            (y.items ++ item_with (apart (m.content (deeper d))) ∷ []) h.on
            (last-both x.items y.items (apart (n.content (deeper c))) (apart (m.content (deeper d))) same h.items)
            (next-both x.items y.items (apart (n.content (deeper c))) (apart (m.content (deeper d))) same h.items);
        on = refl;
      })
      (with-parts-same (after_node x n) (after_node y m) (within_item n (deeper c)) (beside_terms n c)
      (within_item m (deeper d)) (beside_terms m d)
      (record {
        before = h.before;
        items = h.items;
        on = ap (λ b. b && not (has roles.is_meaning n.tree)) h.on ∙ ap (λ b. y.goes_on && not b) k.meaning;
      })
      (in-blocks (within_item n (deeper c)) (within_item m (deeper d))
      (within-same n m k (deeper c) (deeper d) (twin-deeper c d t)))
      (in-blocks (beside_terms n c) (beside_terms m d) (beside-same n m k c d t)))

  part-same : (has_meanings : Bool) (x y : Terms) (p q : TermPart) → SameTerm p q → TermsSame x y
      → TermsSame (with_part has_meanings c x p) (with_part has_meanings d y q)
  part-same has_meanings x y gap gap k h = record { before = h.before; items = h.items; on = refl }
  part-same has_meanings x y (of_node n) (of_node m) k h = node-same has_meanings x y n m k h
  part-same has_meanings x y p q k h = absurd k

  all-same : (has_meanings : Bool) (ps qs : List TermPart) (x y : Terms) → SameTerms ps qs → TermsSame x y
      → TermsSame (fold (with_part has_meanings c) x ps) (fold (with_part has_meanings d) y qs)
  all-same has_meanings [] [] x y k h = h
  all-same has_meanings (p ∷ ps) (q ∷ qs) x y k h =
      all-same has_meanings ps qs (with_part has_meanings c x p) (with_part has_meanings d y q) k.1
      (part-same has_meanings x y p q k.0 h)
  all-same has_meanings ps qs x y k h = absurd k

term-kinds : (ps qs : List TermPart) → SameTerms ps qs
    → list_any (has_role roles.is_term) ps ≡ list_any (has_role roles.is_term) qs
term-kinds [] [] h = refl
term-kinds (gap ∷ ps) (gap ∷ qs) h = term-kinds ps qs h.1
term-kinds (of_node n ∷ ps) (of_node m ∷ qs) h =
    ap (λ b. b || list_any (has_role roles.is_term) ps) h.0.term
    ∙ ap (λ b. has roles.is_term m.tree || b) (term-kinds ps qs h.1)
term-kinds (gap ∷ ps) (of_node m ∷ qs) h = absurd h.0
term-kinds (of_node n ∷ ps) (gap ∷ qs) h = absurd h.0
term-kinds [] (q ∷ qs) h = absurd h
term-kinds (p ∷ ps) [] h = absurd h

meaning-kinds : (ps qs : List TermPart) → SameTerms ps qs
    → list_any (has_role roles.is_meaning) ps ≡ list_any (has_role roles.is_meaning) qs
meaning-kinds [] [] h = refl
meaning-kinds (gap ∷ ps) (gap ∷ qs) h = meaning-kinds ps qs h.1
meaning-kinds (of_node n ∷ ps) (of_node m ∷ qs) h =
    ap (λ b. b || list_any (has_role roles.is_meaning) ps) h.0.meaning
    ∙ ap (λ b. has roles.is_meaning m.tree || b) (meaning-kinds ps qs h.1)
meaning-kinds (gap ∷ ps) (of_node m ∷ qs) h = absurd h.0
meaning-kinds (of_node n ∷ ps) (gap ∷ qs) h = absurd h.0
meaning-kinds [] (q ∷ qs) h = absurd h
meaning-kinds (p ∷ ps) [] h = absurd h

pub term-parts-same : (ps qs : List TermPart) (ns ms : List Node) → SameTerms ps qs → SameNodes ns ms
    → GivesSame (term_parts ps ns) (term_parts qs ms)
term-parts-same ps qs ns ms k h c d t =
    let means : Bool = list_any (has_role roles.is_meaning) ps in
    let means' : Bool = list_any (has_role roles.is_meaning) qs in
    let x : Terms = fold (with_part means c) no_terms ps in
    let y : Terms = fold (with_part means' d) no_terms qs in
    same-cond c.is_flat (is_lined c || not (list_any (has_role roles.is_term) ps))
    (is_lined d || not (list_any (has_role roles.is_term) qs)) (apart (flow_all ns c)) (list_of_terms c x)
    (apart (flow_all ms d)) (list_of_terms d y)
    (ap (λ b. b || not (list_any (has_role roles.is_term) ps)) (lined-same c d t)
    ∙ ap (λ b. is_lined d || not b) (term-kinds ps qs k))
    (λ e. same-apart c.is_flat (flow_all ns c) (flow_all ms d) (flow-same ns ms h c d t))
    (λ e.
    let f : c.is_flat ≡ false =
    not-flat c (neither (is_lined c) (not (list_any (has_role roles.is_term) ps)) e).0 in
    let all : TermsSame x y =
    subst (λ (b : Bool). TermsSame x (fold (with_part b d) no_terms qs)) (meaning-kinds ps qs k)
    (all-same c d t f means ps qs no_terms no_terms k (record { before = λ s. refl; items = tt; on = refl })) in
    same-line c.is_flat false (list_of_terms c x) (list_of_terms d y) f
    (between-same false x.before y.before (lists_if_filled c.nested None (items_of_terms x))
    (lists_if_filled d.nested None (items_of_terms y)) all.before
    (lists-same c.nested d.nested None None (items_of_terms x) (items_of_terms y)
    (both-filled x.items y.items all.items))))

-- ---- headings and quotes

heading-shape : (level : ℕ) (xs : Inlines) (s : Shape)
    → shape_after s (heading_of level xs) ≡ cond (some_line xs) many s
heading-shape level no_inlines s = refl
heading-shape level (inline x xs) s = refl

pub heading-same : (level : ℕ) (ps qs : List Part) → Same true ps qs
    → Same false (heading_of level (line_of ps)) (heading_of level (line_of qs))
heading-same level ps qs h = λ s.
    heading-shape level (line_of ps) s
    ∙ (ap (λ b. cond b many s) (line-filled ps ∙ (h ∙ sym (line-filled qs)))
    ∙ sym (heading-shape level (line_of qs) s))

quote-shape : (bs : Blocks) (s : Shape) → shape_after s (quote_of bs) ≡ cond (is_filled bs) many s
quote-shape no_blocks s = refl
quote-shape (block b bs) s = refl

pub quote-same : (ps qs : List Part) → Same false ps qs
    → Same false (quote_of (blocks_of false ps)) (quote_of (blocks_of false qs))
quote-same ps qs h = λ s.
    quote-shape (blocks_of false ps) s
    ∙ (ap (λ b. cond b many s) (blocks-filled false ps ∙ (same-fills ps qs h ∙ sym (blocks-filled false qs)))
    ∙ sym (quote-shape (blocks_of false qs) s))
