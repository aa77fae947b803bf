-- What is open while a text of the strict grammar is read: the elements of the grammar's context.
use Rattle.std.proofs.Common.{◌≡◌, ◌⊎◌, ℕ, ◌<◌, ◌≤◌, true, false, not, ◌&&◌, List, [], ◌∷◌, ◌++◌, length, Option, Some}
use Rattle.std.proofs.Common.{None, refl, sym, ap, ◌∙◌, arith, inl, inr, subst, codes}
use Rattle.std.specs.Prelude.{◌==◌, find}
use Rattle.std.specs.Str.{bytes_eq}
use Rattle.std.proofs.lemmas.Bool.{or_parts, or_right, eq-eqb}
use Rattle.std.proofs.lemmas.Bool.Decides.{nat_tests}
use Rattle.htmd_lexical.proofs.Cases.{test}
use Rattle.htmd_lexical.specs.AttributePairs.{AttributePair}
use Rattle.htmd_lexical.specs.CharacterClasses.{is_among}
use Rattle.htmd_grammar.specs.Nesting.{Context, is_open, is_met_before}
use Rattle.htmd_lexical.proofs.BooleanLemmas.{and_false}
use Rattle.htmd_lexical.proofs.BytesLemmas.{same_bytes, bytes_same}
use Rattle.htmd_html5_state.specs.Names.{NameValue, html, known, other, name_of_text, text_of_name, known_or}
use Rattle.htmd_html5_state.specs.Names.{is_spelled, spelling, names_with, same_tag, is_tag}
use Rattle.htmd_html5_state.specs.Nodes.{KindValue, NodeValue, kind_at, element}
use Rattle.htmd_html5_state.specs.OpenElements.{OpenValue, is_in, is_open_node, scope_has}
use Rattle.htmd_html5_state.specs.Foreign.{current_is_html}
use Rattle.htmd_html5_state.specs.Insertion.{current}
use Rattle.htmd_html5_state.specs.Sets.{is_of, bounds}
use Rattle.htmd_html5_state.specs.Formatting.{is_listed, without_entry, without_some, with_room_for, with_room}
use Rattle.htmd_html5_state.specs.Formatting.{since_marker, after_marker, closed_elements}
use Rattle.htmd_html5_state.specs.Adoption.{node_is}
use Rattle.htmd_html5_state.specs.declared.names.TagName.{TagName}
use Rattle.htmd_html5_state.specs.declared.sets.NameSet.{NameSet}
use Rattle.htmd_html5_state.specs.declared.sets.Scope.{Scope}
use Rattle.htmd_html5_state.specs.declared.sets.NameSet.TheVariants.{Only}

-- ---- names

found_name : (s : List ℕ) (tags : List TagName) → text_of_name (known_or s (find (is_spelled s) tags)) ≡ s
found_name s [] = refl
found_name s (tag ∷ tags) =
    test (is_spelled s tag) (λ t. rw t (sym (same_bytes s (spelling tag) t))) (λ t. rw t (found_name s tags))

-- a name is that of its element
pub name_kept : (n : List ℕ) → text_of_name (name_of_text n) ≡ n
name_kept [] = refl
name_kept (b ∷ s) = found_name (b ∷ s) (names_with b)

-- a set has the names that are spelled like these
abbrev pub HasNames : NameSet → List (List ℕ) → Type 0
HasNames set names = (n : List ℕ) → is_among names n ≡ false → is_of set (html (name_of_text n)) ≡ false

pub has_names : (set : NameSet) (names : List (List ℕ))
    → ((tag : TagName) → is_of set (html (known tag)) ≡ true → is_among names (spelling tag) ≡ true) →
    HasNames set names
has_names set names h n e = by_name (name_of_text n) (name_kept n)
  where
    by_name : (name : NameValue) → text_of_name name ≡ n → is_of set (html name) ≡ false
    by_name (other t) k = refl
    by_name (known tag) k =
        test (is_of set (html (known tag)))
        (λ t. absurd (let q : true ≡ false = sym (h tag t) ∙ ap (is_among names) k ∙ e in cc)) (λ t. t)

-- ---- lists with fewer entries

abbrev pub Fewer : List (Option ℕ) → List (Option ℕ) → Type 0
Fewer fs [] = fs ≡ []
Fewer fs (g ∷ gs) = Fewer fs gs ⊎ ((hs : List (Option ℕ)) × (fs ≡ g ∷ hs) × Fewer hs gs)

pub fewer_same : (fs : List (Option ℕ)) → Fewer fs fs
fewer_same [] = refl
fewer_same (f ∷ fs) = inr (fs, refl, fewer_same fs)

pub fewer_trans : (fs gs hs : List (Option ℕ)) → Fewer fs gs → Fewer gs hs → Fewer fs hs
fewer_trans fs gs [] a b = subst (Fewer fs) b a
fewer_trans fs gs (h ∷ hs) a (inl b) = inl (fewer_trans fs gs hs a b)
fewer_trans fs gs (h ∷ hs) a (inr b) = elim (subst (Fewer fs) b.1 a) [
  | inl k ↦ inl (fewer_trans fs b.0 hs k b.2)
  | inr k ↦ inr (k.0, k.1, fewer_trans k.0 b.0 hs k.2 b.2)
]

pub fewer_without : (n : ℕ) (fs : List (Option ℕ)) → Fewer (without_entry n fs) fs
fewer_without n [] = refl
fewer_without n (None ∷ fs) = inr (without_entry n fs, refl, fewer_without n fs)
fewer_without n (Some m ∷ fs) =
    test (m == n) (λ t. rw t (inl (fewer_same fs))) (λ t. rw t (inr (without_entry n fs, refl, fewer_without n fs)))

fewer_without_some : (o : Option ℕ) (fs : List (Option ℕ)) → Fewer (without_some o fs) fs
fewer_without_some None fs = fewer_same fs
fewer_without_some (Some n) fs = fewer_without n fs

pub fewer_with_room : (nodes : List NodeValue) (kind : KindValue) (fs : List (Option ℕ))
    → Fewer (with_room (with_room_for nodes kind fs)) fs
fewer_with_room nodes kind fs =
    fewer_trans (with_room (with_room_for nodes kind fs)) (with_room_for nodes kind fs) fs
    (fewer_without_some _ (with_room_for nodes kind fs)) (fewer_without_some _ fs)

fewer_after : (fs : List (Option ℕ)) → Fewer (after_marker fs) fs
fewer_after [] = refl
fewer_after (None ∷ fs) = inl (fewer_same fs)
fewer_after (Some n ∷ fs) = inl (fewer_after fs)

-- without the last marker and what is newer
pub fewer_cleared : (fs gs : List (Option ℕ)) → Fewer fs (None ∷ gs) → Fewer (after_marker fs) gs
fewer_cleared fs gs (inl h) = fewer_trans (after_marker fs) fs gs (fewer_after fs) h
fewer_cleared fs gs (inr h) = rw h.1 h.2

pub listed_in : (n : ℕ) (fs gs : List (Option ℕ)) → Fewer fs gs → is_listed n fs ≡ true → is_listed n
    gs ≡ true
listed_in n fs [] h e = subst (λ x. is_listed n x ≡ true) h e
listed_in n fs (None ∷ gs) (inl h) e = listed_in n fs gs h e
listed_in n fs (Some m ∷ gs) (inl h) e = test (m == n) (λ t. rw t refl) (λ t. rw t (listed_in n fs gs h e))
listed_in n fs (None ∷ gs) (inr h) e =
    let f : is_listed n (None ∷ h.0) ≡ true = subst (λ x. is_listed n x ≡ true) h.1 e in
    listed_in n h.0 gs h.2 f
listed_in n fs (Some m ∷ gs) (inr h) e =
    let f : is_listed n (Some m ∷ h.0) ≡ true = subst (λ x. is_listed n x ≡ true) h.1 e in
    test (m == n) (λ t. rw t refl) (λ t. let g = rw t at f in rw t (listed_in n h.0 gs h.2 g))

-- ---- what is open

-- what may be listed: each of them, and a marker before it
abbrev pub entries : List OpenValue → List (Option ℕ)
entries [] = []
entries (e ∷ es) = Some e.node ∷ None ∷ entries es

abbrev pub Below : ℕ → List OpenValue → Type 0
Below n [] = Unit {0}
Below n (e ∷ es) = (e.node < n) × Below n es

not_itself : (n m : ℕ) → n < m → (n == m) ≡ false
not_itself n m l = grind (arith, nat_tests)

pub new_unlisted : (n : ℕ) (es : List OpenValue) → Below n es → is_listed n (entries es) ≡ false
new_unlisted n [] h = refl
new_unlisted n (e ∷ es) h = rw (not_itself e.node n h.0) (new_unlisted n es h.1)

past_marker : (n : ℕ) (fs gs : List (Option ℕ)) → Fewer (Some n ∷ fs) (None ∷ gs) → Fewer (Some n ∷ fs) gs
past_marker n fs gs (inl h) = h
past_marker n fs gs (inr h) = absurd (let q = h.1 in cc)

-- the first of some entries is open
first_open : (n : ℕ) (fs : List (Option ℕ)) (es : List OpenValue) → Fewer (Some n ∷ fs) (entries es)
    → is_open_node n es ≡ true
first_open n fs [] h = absurd (cc)
first_open n fs (e ∷ es) (inl h) =
    or_right (e.node == n) (is_open_node n es) (first_open n fs es (past_marker n fs (entries es) h))
first_open n fs (e ∷ es) (inr h) =
    let q : e.node ≡ n = same h.1 in rw q (rw (eq-eqb n n refl) refl)
  where
    same : {a b : ℕ} {gs hs : List (Option ℕ)} → ◌≡◌ {A = List (Option ℕ)} (Some a ∷ gs)
        (Some b ∷ hs) → b ≡ a
    same e = cc

pub none_closed : (fs : List (Option ℕ)) (es : List OpenValue) → Fewer fs (entries es) → closed_elements es
    fs ≡ []
none_closed [] es h = refl
none_closed (None ∷ fs) es h = refl
none_closed (Some n ∷ fs) es h = rw (first_open n fs es h) refl

-- the open elements are those of a context, each among the nodes, and each newer than those around it
abbrev pub Stands : List NodeValue → List (List ℕ) → List OpenValue → Type 0
Stands nodes [] [] = Unit {0}
Stands nodes [] (e ∷ es) = ⊥
Stands nodes (n ∷ c) [] = ⊥
Stands nodes (n ∷ c) (e ∷ es) =
    (e.name ≡ html (name_of_text n))
    × ((attributes : List AttributePair) × (kind_at nodes e.node ≡ element e.name attributes))
    × (e.node < length nodes) × Below e.node es × Stands nodes c es

pub stands_longer : (nodes longer : List NodeValue) (c : List (List ℕ)) (es : List OpenValue)
    → length nodes ≤ length longer → ((n : ℕ) → n < length nodes → kind_at longer n ≡ kind_at nodes n)
    → Stands nodes c es → Stands longer c es
stands_longer nodes longer [] [] l k h = tt
stands_longer nodes longer (n ∷ c) (e ∷ es) l k h = (
  h.0,
  ((h.1).0, k e.node h.2 ∙ (h.1).1),
  (let m = h.2 in omega arith),
  h.3,
  stands_longer nodes longer c es l k h.4,
)
stands_longer nodes longer _ _ l k h = absurd h

pub stands_below : (nodes : List NodeValue) (c : List (List ℕ)) (es : List OpenValue) → Stands nodes c es
    → Below (length nodes) es
stands_below nodes [] [] h = tt
stands_below nodes (n ∷ c) (e ∷ es) h = (h.2, stands_below nodes c es h.4)
stands_below nodes _ _ h = absurd h

pub stands_html : (nodes : List NodeValue) (c : List (List ℕ)) (es : List OpenValue) → Stands nodes c es
    → current_is_html es ≡ true
stands_html nodes [] [] h = refl
stands_html nodes (n ∷ c) (e ∷ es) h = rw h.0 refl
stands_html nodes _ _ h = absurd h

-- ---- scopes

abbrev pub the_document : List (List ℕ)
the_document = codes "html" ∷ []

-- what isn't met in the context isn't in scope
pub scope_none : (set : NameSet) (scope : Scope) (names ends : List (List ℕ)) → HasNames set names
    → ((n : List ℕ) → is_among ends n ≡ true → bounds scope (html (name_of_text n)) ≡ true)
    → (nodes : List NodeValue) (c : List (List ℕ)) (es : List OpenValue) → Stands nodes c es
    → is_met_before names ends (c ++ the_document) ≡ false → scope_has (is_in set) scope es ≡ false
scope_none set scope names ends h b nodes [] [] s e = refl
scope_none set scope names ends h b nodes (n ∷ c) (x ∷ es) s e =
    let k = or_parts (is_among names n) (not (is_among ends n) && is_met_before names ends (c ++ the_document)) e in
    rw (s.0, h n k.0) (test (is_among ends n) (λ t. rw (b n t) refl)
    (λ t. let f = rw t at k.1 in rw (scope_none set scope names ends h b nodes c es s.4 f) (and_false _)))
scope_none set scope names ends h b nodes _ _ s e = absurd s

-- an element that isn't met anywhere
pub open_met : (names : List (List ℕ)) (c : Context) → is_open names c ≡ false → is_met_before names []
    c ≡ false
open_met names [] e = refl
open_met names (n ∷ c) e =
    let k = or_parts (is_among names n) (is_open names c) e in
    rw (k.0, open_met names c k.1) refl

-- ---- formatting elements

is_tag_of : (tag : TagName) (name : NameValue) → is_of (Only tag) (html name) ≡ false → is_tag tag
    (html name) ≡ false
is_tag_of tag (other t) e = refl
is_tag_of tag (known u) e =
    test (same_tag u tag)
    (λ t. absurd (let q : spelling u ≡ spelling tag = same_bytes (spelling u) (spelling tag) t in
    let w : true ≡ false = sym (bytes_same (spelling tag)) ∙ ap (bytes_eq (spelling tag)) (sym q) ∙ e in cc))
    (λ t. t)

-- none of these is listed
pub none_listed : (tag : TagName) (names : List (List ℕ)) → HasNames (Only tag) names → (nodes : List NodeValue)
    (c : List (List ℕ)) (es : List OpenValue) (fs : List (Option ℕ)) → Stands nodes c es → Fewer fs (entries es)
    → is_met_before names [] (c ++ the_document) ≡ false → find (node_is nodes tag) (since_marker fs) ≡ None
none_listed tag names h nodes [] [] fs s f e = rw f refl
none_listed tag names h nodes (n ∷ c) (x ∷ es) fs s f e =
    let k = or_parts (is_among names n) (is_met_before names [] (c ++ the_document)) e in
    let other_tag : node_is nodes tag x.node ≡ false =
    rw ((s.1).1, s.0) (is_tag_of tag (name_of_text n) (h n k.0)) in
    elim f [
      | inl g ↦
          elim g [ inl i ↦ none_listed tag names h nodes c es fs s.4 i k.1 | inr i ↦ rw i.1 refl ]
      | inr g ↦
          rw (g.1, other_tag)
          (elim g.2 [ inl i ↦ none_listed tag names h nodes c es g.0 s.4 i k.1 | inr i ↦ rw i.1 refl ])
    ]
none_listed tag names h nodes _ _ fs s f e = absurd s

pub stands_within : (nodes : List NodeValue) (n : List ℕ) (c : List (List ℕ)) (es : List OpenValue)
    → Stands nodes (n ∷ c) es → (current es).node < length nodes
stands_within nodes n c [] h = absurd h
stands_within nodes n c (e ∷ es) h = h.2
