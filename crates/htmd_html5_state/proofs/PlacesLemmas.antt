-- Where open elements stand: what a place says of a scope, and what changes where an element is opened or closed.
use Rattle.std.proofs.Common.{◌≡◌, ℕ, suc, ◌+◌, ◌<◌, ◌≤◌, Bool, true, false, ◌||◌, cond, List, [], ◌∷◌, length}
use Rattle.std.proofs.Common.{get_or, set, take, drop, ◌-◌, Option, Some, None, vec_len, ◌++◌, refl, sym, ap, ◌∙◌}
use Rattle.std.proofs.Common.{subst, arith, max}
use Rattle.std.proofs.lemmas.Bool.{true≢false, eqb-true}
use Rattle.std.proofs.lemmas.Bool.Decides.{nat_tests}
use Rattle.std.proofs.lemmas.List.{get_or-set_same, get_or-set_other, length-set, length-append, get_or_append_left}
use Rattle.std.proofs.lemmas.List.Folds.{list_any-append}
use Rattle.std.specs.HashMap.{get_by_text}
use Rattle.std.specs.List.{list_any}
use Rattle.std.specs.Map.{update}
use Rattle.std.specs.Prelude.{◌==◌, nat_lt, unwrap_or, is_some, remove}
use Rattle.std.specs.Str.{bytes_eq}
use Rattle.htmd_lexical.proofs.BytesLemmas.{same_bytes}
use Rattle.htmd_lexical.proofs.Cases.{test}
use Rattle.htmd_html5_state.specs.Adoption.{bounds_any}
use Rattle.htmd_html5_state.specs.Foreign.{is_html, is_in_any_case, is_spelled_so}
use Rattle.htmd_html5_state.specs.ForeignPlaces.{AreNumbered, has_spelling, is_spelled, lower, spelling_place}
use Rattle.htmd_html5_state.specs.Names.{NameValue, ElementNameValue, html, svg, math, known, other, same_element_name}
use Rattle.htmd_html5_state.specs.OpenElements.{OpenValue, is_in, is_node, has_name, inside, scope_has}
use Rattle.htmd_html5_state.specs.OpenElements.{is_node_in_scope}
use Rattle.htmd_html5_state.specs.OpenElements.{is_open_node, pop}
use Rattle.htmd_html5_state.specs.OpenViews.{open_of, stack_of}
use Rattle.htmd_html5_state.specs.Places.{innermost, back_to, has_one, bounds_in, is_from, bound_of, name_place}
use Rattle.htmd_html5_state.specs.Places.{has_room, innermost_named}
use Rattle.htmd_html5_state.specs.Places.{place_of_name, IsAround, IsLinked, HasRoom, AllHaveRoom, IsPlaced}
use Rattle.htmd_html5_state.specs.Sets.{bounds, bounds_known, bounds_list_item, bounds_scope, is_table_context}
use Rattle.htmd_html5_state.specs.Sets.{bounds_button, is_special, is_template, stops_items}
use Rattle.htmd_html5_state.specs.declared.names.TagName.{TagName}
use Rattle.htmd_html5_state.specs.declared.names.TagName.TheVariants.{Address, Applet, Button, Caption, Div, Html}
use Rattle.htmd_html5_state.specs.declared.names.TagName.TheVariants.{Marquee, Object, Ol, P, Table, Td, Template, Th}
use Rattle.htmd_html5_state.specs.declared.names.TagName.TheVariants.{Ul}
use Rattle.htmd_html5_state.specs.declared.open_elements.OpenElement.{OpenElement}
use Rattle.htmd_html5_state.specs.declared.foreign_places.ForeignPlaces.{ForeignPlaces}
use Rattle.htmd_html5_state.specs.declared.places.Around.{Around}
use Rattle.htmd_html5_state.specs.declared.places.Bounds.{Bounds}
use Rattle.htmd_html5_state.specs.TagNumbers.{number}
use Rattle.htmd_html5_state.specs.declared.places.NamePlaces.{NamePlaces}
use Rattle.htmd_html5_state.specs.declared.places.Places.{Places}
use Rattle.htmd_html5_state.specs.declared.sets.NameSet.TheVariants.{Only}
use Rattle.htmd_html5_state.specs.declared.sets.Scope.{Scope}
use Rattle.htmd_html5_state.specs.declared.sets.Scope.TheVariants.{Default, ListItem, Button as ButtonScope}
use Rattle.htmd_html5_state.specs.declared.sets.Scope.TheVariants.{Table as TableScope, Select}
use Rattle.htmd_html5_state.specs.declared.sets.Scope.TheVariants.{Template as TemplateScope, Special, Items}
use Rattle.htmd_html5_state.specs.SetMembers.{members}
use Rattle.htmd_html5_state.specs.declared.sets.NameSet.{NameSet}
use Rattle.htmd_html5_state.proofs.StackLemmas.{stack-around, stack-removed}
use Rattle.htmd_html5_state.proofs.TagLemmas.{same_name-true, only-named, in-members, is_several, number-tests}

-- ---- what a place says

pub innermost-within : (p : OpenValue → Bool) (es : List OpenValue) → innermost p es ≤ length es
innermost-within p [] = omega arith
innermost-within p (e ∷ es) =
    test (p e) (λ t. rw t (omega arith)) (λ t. rw t (omega (arith, innermost-within p es)))

pub scope-by_places : (p : OpenValue → Bool) (scope : Scope) (es : List OpenValue)
    → scope_has p scope es ≡ is_from (innermost (bounds_in scope) es) (innermost p es)
scope-by_places p scope [] = refl
scope-by_places p scope (e ∷ es) =
    let w = innermost-within (bounds_in scope) es in
    let v = innermost-within p es in
    test (p e)
    (λ t. test (bounds scope e.name) (λ s. rw (t, s) (grind (arith, nat_tests)))
    (λ s. rw (t, s) (grind (arith, nat_tests, w))))
    (λ t. test (bounds scope e.name) (λ s. rw (t, s) (grind (arith, nat_tests, v)))
    (λ s. rw (t, s) (scope-by_places p scope es)))

pub open-by_place : (p : OpenValue → Bool) (es : List OpenValue) → list_any p es ≡ is_from 0 (innermost p es)
open-by_place p [] = refl
open-by_place p (e ∷ es) = test (p e) (λ t. rw t (grind (arith, nat_tests))) (λ t. rw t (open-by_place p es))

pub open_node-by_place : (n : ℕ) (es : List OpenValue) → is_open_node n es ≡ nat_lt 0 (innermost (is_node n) es)
open_node-by_place n [] = refl
open_node-by_place n (e ∷ es) =
    test (e.node == n) (λ t. rw t (grind (arith, nat_tests))) (λ t. rw t (open_node-by_place n es))

pub node-by_places : (n : ℕ) (es : List OpenValue)
    → is_node_in_scope n es ≡ nat_lt (innermost (bounds_in Default) es) (innermost (is_node n) es)
node-by_places n [] = refl
node-by_places n (e ∷ es) =
    let w = innermost-within (bounds_in Default) es in
    let v = innermost-within (is_node n) es in
    test (bounds Default e.name)
    (λ t. test (e.node == n) (λ s. rw (t, s) (grind (arith, nat_tests)))
    (λ s. rw (t, s) (grind (arith, nat_tests, v))))
    (λ t. test (e.node == n) (λ s. rw (t, s) (grind (arith, nat_tests, w)))
    (λ s. rw (t, s) (node-by_places n es)))

pub inside-by_places : (n : ℕ) (es : List OpenValue)
    → list_any bounds_any (inside n es) ≡ nat_lt (innermost (is_node n) es) (innermost (bounds_in Default) es)
inside-by_places n [] = refl
inside-by_places n (e ∷ es) =
    let w = innermost-within (bounds_in Default) es in
    let v = innermost-within (is_node n) es in
    test (bounds Default e.name)
    (λ t. test (e.node == n) (λ s. rw (t, s) (grind (arith, nat_tests)))
    (λ s. rw (t, s) (grind (arith, nat_tests, v))))
    (λ t. test (e.node == n) (λ s. rw (t, s) (grind (arith, nat_tests, w)))
    (λ s. rw (t, s) (ap (λ (r : Bool). r || list_any bounds_any (inside n es)) t ∙ inside-by_places n es)))

-- ---- one of several

pub innermost-same : (p q : OpenValue → Bool) → ((e : OpenValue) → p e ≡ q e) → (es : List OpenValue)
    → innermost p es ≡ innermost q es
innermost-same p q same [] = refl
innermost-same p q same (e ∷ es) = rw (same e, innermost-same p q same es) refl

pub none-innermost : (es : List OpenValue) → innermost (λ e. false) es ≡ 0
none-innermost [] = refl
none-innermost (e ∷ es) = none-innermost es

either : (b : ℕ) (p q : OpenValue → Bool) (es : List OpenValue)
    → is_from b (innermost (λ e. p e || q e) es) ≡ is_from b (innermost p es) || is_from b (innermost q es)
either b p q [] = refl
either b p q (e ∷ es) =
    let w = innermost-within p es in
    let v = innermost-within q es in
    test (p e)
    (λ t. test (q e) (λ s. rw (t, s) (grind (arith, nat_tests))) (λ s. rw (t, s) (grind (arith, nat_tests, v))))
    (λ t. test (q e) (λ s. rw (t, s) (grind (arith, nat_tests, w))) (λ s. rw (t, s) (either b p q es)))

pub one_of : (b : ℕ) (ts : List TagName) (es : List OpenValue)
    → is_from b (innermost (λ e. list_any (λ t. is_in (Only t) e) ts) es)
    ≡ list_any (λ t. is_from b (innermost (is_in (Only t)) es)) ts
one_of b [] es = rw (none-innermost es) (grind (arith, nat_tests))
one_of b (t ∷ ts) es =
    either b (is_in (Only t)) (λ e. list_any (λ u. is_in (Only u) e) ts) es
    ∙ ap (λ (r : Bool). is_from b (innermost (is_in (Only t)) es) || r) (one_of b ts es)

-- the further in of two
pub innermost-either : (p q : OpenValue → Bool) (es : List OpenValue)
    → innermost (λ e. p e || q e) es ≡ max (innermost q es) (innermost p es)
innermost-either p q [] = refl
innermost-either p q (e ∷ es) =
    let w = innermost-within p es in
    let v = innermost-within q es in
    test (p e)
    (λ t. test (q e) (λ s. rw (t, s) (omega arith)) (λ s. rw (t, s) (omega (arith, v))))
    (λ t. test (q e) (λ s. rw (t, s) (omega (arith, w))) (λ s. rw (t, s) (innermost-either p q es)))

or_false : (b : Bool) → (b || false) ≡ b
or_false true = refl
or_false false = refl

-- one name more
pub innermost-more : (ts : List TagName) (t : TagName) (es : List OpenValue)
    → innermost (has_one (ts ++ t ∷ [])) es
    ≡ max (innermost (has_name (html (known t))) es) (innermost (has_one ts) es)
innermost-more ts t es =
    innermost-same (has_one (ts ++ t ∷ [])) (λ e. has_one ts e || is_in (Only t) e)
    (λ e. list_any-append (λ u. is_in (Only u) e) ts (t ∷ [])
    ∙ ap (λ (r : Bool). has_one ts e || r) (or_false (is_in (Only t) e))) es
    ∙ (innermost-either (has_one ts) (is_in (Only t)) es
    ∙ ap (λ (n : ℕ). max n (innermost (has_one ts) es))
    (innermost-same (is_in (Only t)) (has_name (html (known t))) (only-named t) es))

pub back-place : (p : OpenValue → Bool) (es : List OpenValue)
    → drop (length es - innermost p es) es ≡ back_to p es
back-place p [] = refl
back-place p (e ∷ es) =
    let w = innermost-within p es in
    test (p e)
    (λ t.
    let none : length (e ∷ es) - suc (length es) ≡ 0 = omega arith in
    rw t (ap (λ (k : ℕ). drop k (e ∷ es)) none))
    (λ t.
    let more : length (e ∷ es) - innermost p es ≡ suc (length es - innermost p es) = omega (arith, w) in
    rw t (ap (λ (k : ℕ). drop k (e ∷ es)) more ∙ back-place p es))

-- ---- an element is opened, or closed

linked-within : (around : List Around) (es : List OpenValue) → IsLinked around es → length es ≤ length around
linked-within around [] l = omega arith
linked-within around (e ∷ es) l = omega (arith, l.0)

-- what is written further in changes nothing
linked-set : (around : List Around) (i : ℕ) (a : Around) (es : List OpenValue) → length es ≤ i
    → IsLinked around es
    → IsLinked (set around i a) es
linked-set around i a [] l h = tt
linked-set around i a (e ∷ es) l h = (
  omega (arith, h.0, length-set around i a),
  (λ d. subst (λ (x : Around). IsAround x e es)
      (sym (get_or-set_other around i (length es) a d (λ s. omega (arith, s, l)))) (h.1 d)),
  linked-set around i a es (omega (arith, l)) h.2,
)

-- popping, one after another, to a depth
pub drop-pop : (len : ℕ) (es : List OpenValue) → len < length es
    → drop (length es - len) es ≡ drop (length (pop es) - len) (pop es)
drop-pop len [] l = absurd (omega arith)
drop-pop len (e ∷ es) l =
    let s : length (e ∷ es) - len ≡ suc (length es - len) = omega (arith, l) in
    ap (λ (k : ℕ). drop k (e ∷ es)) s

pub linked-push : (around : List Around) (a : Around) (e : OpenValue) (es : List OpenValue)
    → length es < length around
    → IsLinked around es → IsAround a e es → IsLinked (set around (length es) a) (e ∷ es)
linked-push around a e es l h is = (
  omega (arith, l, length-set around (length es) a),
  (λ d. subst (λ (x : Around). IsAround x e es) (sym (get_or-set_same around (length es) a d l)) is),
  linked-set around (length es) a es (omega arith) h,
)

pub all_room-kept : (p q : Places) → ((e : OpenValue) → HasRoom p e → HasRoom q e) → (es : List OpenValue)
    → AllHaveRoom p es
    → AllHaveRoom q es
all_room-kept p q kept [] h = tt
all_room-kept p q kept (e ∷ es) h = (kept e h.0, all_room-kept p q kept es h.1)

pub room-in : (p : Places) (xs ys : List OpenValue) (e : OpenValue) → AllHaveRoom p (xs ++ e ∷ ys) → HasRoom p e
room-in p [] ys e h = h.0
room-in p (x ∷ xs) ys e h = room-in p xs ys e h.1

pub room-without : (p : Places) (xs ys : List OpenValue) (e : OpenValue) → AllHaveRoom p (xs ++ e ∷ ys)
    → AllHaveRoom p (xs ++ ys)
room-without p [] ys e h = h.1
room-without p (x ∷ xs) ys e h = (h.0, room-without p xs ys e h.1)

pub room-at : (p : Places) (xs : List OpenElement) (i : ℕ) (x : OpenElement) → i < length xs → x ≡ get_or xs i x
    → AllHaveRoom p (stack_of xs) → HasRoom p (open_of x)
room-at p xs i x l is h =
    room-in p (stack_of (drop (i + 1) xs)) (stack_of (take i xs)) (open_of x)
    (subst (λ (es : List OpenValue). AllHaveRoom p es) (stack-around xs i x l is) h)

pub room-removed : (p : Places) (xs : List OpenElement) (i : ℕ) (x : OpenElement) → i < length xs
    → x ≡ get_or xs i x
    → AllHaveRoom p (stack_of xs) → AllHaveRoom p (stack_of (remove xs i))
room-removed p xs i x l is h =
    subst (λ (es : List OpenValue). AllHaveRoom p es) (sym (stack-removed xs i))
    (room-without p (stack_of (drop (i + 1) xs)) (stack_of (take i xs)) (open_of x)
    (subst (λ (es : List OpenValue). AllHaveRoom p es) (stack-around xs i x l is) h))

-- what is held for each key, before and after
module _ {K : Type 0} (f g : K → ℕ) (p : K → OpenValue → Bool) (e : OpenValue) (es : List OpenValue) where
  pub entered : ((k : K) → f k ≡ innermost (p k) es) → (place : ℕ) → place ≡ suc (length es)
      → ((k : K) → g k ≡ cond (p k e) place (f k)) → (k : K) → g k ≡ innermost (p k) (e ∷ es)
  entered held place at put k =
      put k ∙ (ap (λ (x : ℕ). cond (p k e) x (f k)) at
      ∙ ap (λ (x : ℕ). cond (p k e) (suc (length es)) x) (held k))

  pub left : ((k : K) → f k ≡ innermost (p k) (e ∷ es)) → (place : ℕ)
      → ((k : K) → p k e ≡ true → place ≡ innermost (p k) es)
      → ((k : K) → g k ≡ cond (p k e) place (f k)) → (k : K) → g k ≡ innermost (p k) es
  left held place around put k =
      test (p k e) (λ t. put k ∙ rw t (around k t)) (λ t. put k ∙ (rw t refl ∙ (held k ∙ rw t refl)))

-- with room for more
pub linked-longer : (around more : List Around) (es : List OpenValue) → IsLinked around es
    → IsLinked (around ++ more) es
linked-longer around more [] h = tt
linked-longer around more (e ∷ es) h = (
  omega (arith, h.0, length-append around more),
  (λ d. subst (λ (x : Around). IsAround x e es) (sym (get_or_append_left around more d (length es) h.0)) (h.1 d)),
  linked-longer around more es h.2,
)

-- a name that bounds neither list items nor buttons bounds at most three scopes
no_scope : (t : TagName) → bounds_list_item t ≡ false → bounds_scope t ≡ false
no_scope Ol l = refl
no_scope Ul l = refl
no_scope _ l = l

no_table : (t : TagName) → bounds_scope t ≡ false → is_table_context t ≡ false
no_table Html l = absurd (true≢false l)
no_table Table l = absurd (true≢false l)
no_table Template l = absurd (true≢false l)
no_table _ l = refl

no_template : (t : TagName) → bounds_scope t ≡ false → is_template t ≡ false
no_template Template l = absurd (true≢false l)
no_template _ l = refl

pub few_bounds : (b : Bounds) (t : TagName) (place select special items : ℕ) → bounds_known ListItem t ≡ false
    → bounds_known ButtonScope t ≡ false → select ≡ cond (bounds_known Select t) place b.select
    → special ≡ cond (bounds_known Special t) place b.special
    → items ≡ cond (bounds_known Items t) place b.items → (scope : Scope)
    → bound_of (record b { select = select; special = special; items = items }) scope
    ≡ cond (bounds scope (html (known t))) place (bound_of b scope)
few_bounds b t place s p i l u es ep ei Default = rw (no_scope t l) refl
few_bounds b t place s p i l u es ep ei ListItem = rw l refl
few_bounds b t place s p i l u es ep ei ButtonScope = rw u refl
few_bounds b t place s p i l u es ep ei TableScope = rw (no_table t (no_scope t l)) refl
few_bounds b t place s p i l u es ep ei Select = es
few_bounds b t place s p i l u es ep ei TemplateScope = rw (no_template t (no_scope t l)) refl
few_bounds b t place s p i l u es ep ei Special = ep
few_bounds b t place s p i l u es ep ei Items = ei

-- a name that isn't special bounds at most what is in a `select`
plain_scope : (t : TagName) → is_special t ≡ false → bounds_scope t ≡ false
plain_scope Applet l = absurd (true≢false l)
plain_scope Caption l = absurd (true≢false l)
plain_scope Html l = absurd (true≢false l)
plain_scope Marquee l = absurd (true≢false l)
plain_scope Object l = absurd (true≢false l)
plain_scope Table l = absurd (true≢false l)
plain_scope Td l = absurd (true≢false l)
plain_scope Template l = absurd (true≢false l)
plain_scope Th l = absurd (true≢false l)
plain_scope _ l = refl

plain_list_item : (t : TagName) → is_special t ≡ false → bounds_list_item t ≡ false
plain_list_item Ol l = absurd (true≢false l)
plain_list_item Ul l = absurd (true≢false l)
plain_list_item t l = plain_scope t l

plain_button : (t : TagName) → is_special t ≡ false → bounds_button t ≡ false
plain_button Button l = absurd (true≢false l)
plain_button t l = plain_scope t l

plain_items : (t : TagName) → is_special t ≡ false → stops_items t ≡ false
plain_items Address l = refl
plain_items Div l = refl
plain_items P l = refl
plain_items t l = l

pub plain_bounds : (b : Bounds) (t : TagName) (place select : ℕ) → bounds_known Special t ≡ false
    → select ≡ cond (bounds_known Select t) place b.select → (scope : Scope)
    → bound_of (record b { select = select }) scope
    ≡ cond (bounds scope (html (known t))) place (bound_of b scope)
plain_bounds b t place s l es Default = rw (plain_scope t l) refl
plain_bounds b t place s l es ListItem = rw (plain_list_item t l) refl
plain_bounds b t place s l es ButtonScope = rw (plain_button t l) refl
plain_bounds b t place s l es TableScope = rw (no_table t (plain_scope t l)) refl
plain_bounds b t place s l es Select = es
plain_bounds b t place s l es TemplateScope = rw (no_template t (plain_scope t l)) refl
plain_bounds b t place s l es Special = rw l refl
plain_bounds b t place s l es Items = rw (plain_items t l) refl

-- the bounds among this many elements
pub no-bounds : (b : Bounds) → ((scope : Scope) → bound_of b scope ≡ 0) → (depth : ℕ) → depth ≡ 0
    → (es : List OpenValue)
    → length es ≡ depth → (scope : Scope) → bound_of b scope ≡ innermost (bounds_in scope) es
no-bounds b none depth zero [] len scope = none scope
no-bounds b none depth zero (e ∷ es) len scope = absurd (omega (arith, zero, len))

pub linked-bounds : (around : List Around) (depth : ℕ) (a : Around) → a ≡ get_or around (depth - 1) a
    → 0 < depth
    → (es : List OpenValue) → length es ≡ depth → IsLinked around es → (scope : Scope)
    → bound_of a.bounds scope ≡ innermost (bounds_in scope) es
linked-bounds around depth a read l [] len h scope = absurd (omega (arith, l, len))
linked-bounds around depth a read l (e ∷ es) len h scope =
    let at : depth - 1 ≡ length es = omega (arith, len) in
    (subst (λ (x : Around). IsAround x e es) (sym (read ∙ ap (λ (k : ℕ). get_or around k a) at)) (h.1 a)).bounds
    scope

-- the innermost element of HTML among this many elements
pub linked-html : (around : List Around) (depth : ℕ) (a : Around) → a ≡ get_or around (depth - 1) a → 0 < depth
    → (es : List OpenValue) → length es ≡ depth → IsLinked around es → a.html ≡ innermost is_html es
linked-html around depth a read l [] len h = absurd (omega (arith, l, len))
linked-html around depth a read l (e ∷ es) len h =
    let at : depth - 1 ≡ length es = omega (arith, len) in
    (subst (λ (x : Around). IsAround x e es) (sym (read ∙ ap (λ (k : ℕ). get_or around k a) at)) (h.1 a)).html

named-place : (p : Places) (es : List OpenValue) → IsPlaced p es → (name : ElementNameValue)
    → place_of_name p.names name ≡ innermost_named name es
named-place p es at (html m) = at.names m
named-place p es at (svg s) = at.spellings s
named-place p es at (math s) = at.spellings s

same-named : (name : ElementNameValue) (m : NameValue) (es : List OpenValue)
    → same_element_name name (html m) ≡ true
    → innermost_named name es ≡ innermost (has_name (html m)) es
same-named (html n) m es e = ap (λ (x : NameValue). innermost (has_name (html x)) es) (same_name-true n m e)
same-named (svg s) m es e = absurd (true≢false (sym e))
same-named (math s) m es e = absurd (true≢false (sym e))

spelled-alike : (s t : List ℕ) → is_in_any_case s t ≡ true → (name : ElementNameValue)
    → is_spelled_so s name ≡ is_spelled_so t name
spelled-alike s t e (html n) = refl
spelled-alike s t e (svg r) = ap (bytes_eq (lower r)) (same_bytes (lower s) (lower t) e)
spelled-alike s t e (math r) = ap (bytes_eq (lower r)) (same_bytes (lower s) (lower t) e)

same-spelled : (name : ElementNameValue) (s : List ℕ) (es : List OpenValue) → is_spelled_so s name ≡ true
    → innermost_named name es ≡ innermost (is_spelled s) es
same-spelled (html n) s es e = absurd (true≢false (sym e))
same-spelled (svg r) s es e =
    innermost-same (is_spelled r) (is_spelled s) (λ x. spelled-alike r s e x.name) es
same-spelled (math r) s es e =
    innermost-same (is_spelled r) (is_spelled s) (λ x. spelled-alike r s e x.name) es

-- what is known of an element that is opened
pub around-is : (p : Places) (e : OpenValue) (es : List OpenValue) → IsPlaced p es → (place : ℕ)
    → place ≡ suc (length es)
    → (a : Around) → a.name ≡ place_of_name p.names e.name → a.node ≡ get_or p.nodes.items e.node 0
    → a.html ≡ cond (is_html e) place (innermost is_html es)
    → ((scope : Scope) → bound_of a.bounds scope
    ≡ cond (bounds scope e.name) place (innermost (bounds_in scope) es))
    → IsAround a e es
around-is p e es at place here a name node inner bound = record {
  name = name ∙ named-place p es at e.name;
  node = node ∙ at.nodes e.node;
  html = inner ∙ ap (λ (x : ℕ). cond (is_html e) x (innermost is_html es)) here;
  bounds = λ scope. bound scope
      ∙ ap (λ (x : ℕ). cond (bounds scope e.name) x (innermost (bounds_in scope) es)) here;
}

module _ (p q : Places) (e : OpenValue) (es : List OpenValue)
    (kept : (x : OpenValue) → HasRoom p x → HasRoom q x) where
  pub placed-enter : IsPlaced p es → HasRoom p e → (place : ℕ) → place ≡ suc (length es) → (a : Around)
      → IsAround a e es
      → ((m : NameValue) → name_place q.names m
      ≡ cond (same_element_name e.name (html m)) place (name_place p.names m))
      → ((s : List ℕ) → spelling_place q.names.foreign s
      ≡ cond (is_spelled s e) place (spelling_place p.names.foreign s))
      → AreNumbered q.names.foreign
      → ((n : ℕ) → get_or q.nodes.items n 0 ≡ cond (e.node == n) place (get_or p.nodes.items n 0))
      → q.around.items ≡ set p.around.items (length es) a → length es < vec_len p.around
      → vec_len q.around ≡ vec_len p.around → IsPlaced q (e ∷ es)
  placed-enter at room place here a is names spellings numbers nodes around within len = record {
    names = entered (name_place p.names) (name_place q.names) (λ m. has_name (html m)) e es at.names place here names;
    spellings = entered (spelling_place p.names.foreign) (spelling_place q.names.foreign) is_spelled e es
        at.spellings place here spellings;
    numbered = numbers;
    nodes = entered (λ n. get_or p.nodes.items n 0) (λ n. get_or q.nodes.items n 0)
        (λ n. is_node n) e es at.nodes place
        here nodes;
    linked = subst (λ (x : List Around). IsLinked x (e ∷ es)) (sym around)
        (linked-push p.around.items a e es (omega (arith, within)) at.linked is);
    within = omega (arith, within, len);
    room = all_room-kept p q kept (e ∷ es) (room, at.room);
  }

  pub placed-leave : IsPlaced p (e ∷ es) → (a : Around) → a ≡ get_or p.around.items (length es) a
      → ((m : NameValue) → name_place q.names m
      ≡ cond (same_element_name e.name (html m)) a.name (name_place p.names m))
      → ((s : List ℕ) → spelling_place q.names.foreign s
      ≡ cond (is_spelled s e) a.name (spelling_place p.names.foreign s))
      → AreNumbered q.names.foreign
      → ((n : ℕ) → get_or q.nodes.items n 0 ≡ cond (e.node == n) a.node (get_or p.nodes.items n 0))
      → q.around.items ≡ p.around.items → vec_len q.around ≡ vec_len p.around → IsPlaced q es
  placed-leave at a read names spellings numbers nodes around len =
      let is : IsAround a e es = subst (λ (x : Around). IsAround x e es) (sym read) (at.linked.1 a) in
      record {
        names = left (name_place p.names) (name_place q.names) (λ m. has_name (html m)) e es at.names a.name
            (λ m t. is.name ∙ same-named e.name m es t) names;
        spellings = left (spelling_place p.names.foreign) (spelling_place q.names.foreign) is_spelled e es
            at.spellings a.name (λ s t. is.name ∙ same-spelled e.name s es t) spellings;
        numbered = numbers;
        nodes = left (λ n. get_or p.nodes.items n 0) (λ n. get_or q.nodes.items n 0)
            (λ n. is_node n) e es at.nodes a.node
            (λ n t. is.node ∙ ap (λ (x : ℕ). innermost (is_node x) es) (eqb-true e.node n t)) nodes;
        linked = subst (λ (x : List Around). IsLinked x es) (sym around) at.linked.2;
        within = let w = at.within in omega (arith, w, len);
        room = all_room-kept p q kept es at.room.1;
      }

pub placed-kept : (p q : Places) → ((m : NameValue) → name_place q.names m ≡ name_place p.names m)
    → (AreNumbered p.names.foreign → (s : List ℕ)
    → spelling_place q.names.foreign s ≡ spelling_place p.names.foreign s)
    → (AreNumbered p.names.foreign → AreNumbered q.names.foreign)
    → ((n : ℕ) → get_or q.nodes.items n 0 ≡ get_or p.nodes.items n 0)
    → ((es : List OpenValue) → IsLinked p.around.items es → IsLinked q.around.items es)
    → vec_len p.around ≤ vec_len q.around
    → ((x : OpenValue) → HasRoom p x → HasRoom q x) → (stack : List OpenValue) → IsPlaced p stack
    → IsPlaced q stack
placed-kept p q names spellings numbers nodes linked longer kept stack at = record {
  names = λ m. names m ∙ at.names m;
  spellings = λ s. spellings at.numbered s ∙ at.spellings s;
  numbered = numbers at.numbered;
  nodes = λ n. nodes n ∙ at.nodes n;
  linked = linked stack at.linked;
  within = let w = at.within in omega (arith, w, longer);
  room = all_room-kept p q kept stack at.room;
}

-- ---- a name, or one of several

pub only-from : (p : Places) (stack : List OpenValue) → IsPlaced p stack → (b : ℕ) (t : TagName)
    → is_from b (name_place p.names (known t)) ≡ is_from b (innermost (is_in (Only t)) stack)
only-from p stack at b t =
    ap (is_from b) (at.names (known t)
    ∙ sym (innermost-same (is_in (Only t)) (has_name (html (known t))) (only-named t) stack))

list_any-same : (f g : TagName → Bool) → ((t : TagName) → f t ≡ g t) → (ts : List TagName)
    → list_any f ts ≡ list_any g ts
list_any-same f g same [] = refl
list_any-same f g same (t ∷ ts) = rw (same t, list_any-same f g same ts) refl

pub several-from : (p : Places) (stack : List OpenValue) → IsPlaced p stack → (b : ℕ) (set : NameSet)
    → is_several set ≡ true
    → list_any (λ t. is_from b (name_place p.names (known t))) (members set)
    ≡ is_from b (innermost (is_in set) stack)
several-from p stack at b set s =
    list_any-same (λ t. is_from b (name_place p.names (known t))) (λ t. is_from b (innermost (is_in (Only t)) stack))
    (only-from p stack at b) (members set)
    ∙ (sym (one_of b (members set) stack)
    ∙ ap (is_from b) (sym (innermost-same (is_in set) (λ e. list_any (λ t. is_in (Only t) e) (members set))
    (in-members set s) stack)))

-- ---- a place is written

pub kept-by : (p q : Places) → ((m : ElementNameValue) → has_room q.names m ≡ has_room p.names m)
    → vec_len q.nodes ≡ vec_len p.nodes → (x : OpenValue) → HasRoom p x → HasRoom q x
kept-by p q names nodes x h = record {
  name = names x.name ∙ h.name;
  node = let l = h.node in omega (arith, l, nodes);
}

pub kept-more : (p q : Places)
    → ((m : ElementNameValue) → has_room p.names m ≡ true → has_room q.names m ≡ true)
    → vec_len p.nodes ≤ vec_len q.nodes → (x : OpenValue) → HasRoom p x → HasRoom q x
kept-more p q names nodes x h = record {
  name = names x.name h.name;
  node = let l = h.node in omega (arith, l, nodes);
}

pub tag-put : (p q : NamePlaces) (t : TagName) (n place : ℕ) → n ≡ number t
    → ((k : ℕ) → get_or q.tags k 0 ≡ cond (n == k) place (get_or p.tags k 0))
    → ((s : List ℕ) → get_by_text q.others s ≡ get_by_text p.others s) → (m : NameValue)
    → name_place q m ≡ cond (same_element_name (html (known t)) (html m)) place (name_place p m)
tag-put p q t n place is put others (known u) =
    put (number u)
    ∙ ap (λ (r : Bool). cond r place (get_or p.tags (number u) 0))
    (ap (λ (k : ℕ). k == number u) is ∙ number-tests t u)
tag-put p q t n place is put others (other s) = ap (λ (o : Option ℕ). unwrap_or o 0) (others s)

module _ (p q : NamePlaces) (bs : List ℕ) (place : ℕ) (tags : q.tags ≡ p.tags) (foreign : q.foreign ≡ p.foreign)
    (updates : (s : List ℕ) → get_by_text q.others s ≡ update bytes_eq (get_by_text p.others) bs (Some place) s)
  where
    pub other-put : (m : NameValue) → name_place q m
        ≡ cond (same_element_name (html (other bs)) (html m)) place (name_place p m)
    other-put (known u) = ap (λ (ts : List ℕ). get_or ts (number u) 0) tags
    other-put (other s) =
        ap (λ (o : Option ℕ). unwrap_or o 0) (updates s) ∙ test (bytes_eq bs s) (λ t. rw t refl) (λ t. rw t refl)

    pub other-room : is_some (get_by_text p.others bs) ≡ true → (m : ElementNameValue)
        → has_room q m ≡ has_room p m
    other-room held (html (known u)) = refl
    other-room held (html (other s)) =
        ap is_some (updates s)
        ∙ test (bytes_eq bs s)
        (λ t. rw t (sym (ap (λ (x : List ℕ). is_some (get_by_text p.others x)) (sym (same_bytes bs s t)) ∙ held)))
        (λ t. rw t refl)
    other-room held (svg s) = ap (λ (f : ForeignPlaces). has_spelling f s) foreign
    other-room held (math s) = ap (λ (f : ForeignPlaces). has_spelling f s) foreign

    pub other-kept : (m : ElementNameValue) → has_room p m ≡ true → has_room q m ≡ true
    other-kept (html (known u)) h = refl
    other-kept (html (other s)) h = ap is_some (updates s) ∙ test (bytes_eq bs s) (λ t. rw t refl) (λ t. rw t h)
    other-kept (svg s) h = ap (λ (f : ForeignPlaces). has_spelling f s) foreign ∙ h
    other-kept (math s) h = ap (λ (f : ForeignPlaces). has_spelling f s) foreign ∙ h

none-zero : (o : Option ℕ) → is_some o ≡ false → unwrap_or o 0 ≡ 0
none-zero None h = refl
none-zero (Some n) h = absurd (true≢false h)

-- a name is held that is nowhere
pub other-added : (p q : NamePlaces) (bs : List ℕ) → q.tags ≡ p.tags
    → ((s : List ℕ) → get_by_text q.others s ≡ update bytes_eq (get_by_text p.others) bs (Some 0) s)
    → is_some (get_by_text p.others bs) ≡ false → (m : NameValue) → name_place q m ≡ name_place p m
other-added p q bs tags updates none (known u) = ap (λ (ts : List ℕ). get_or ts (number u) 0) tags
other-added p q bs tags updates none (other s) =
    ap (λ (o : Option ℕ). unwrap_or o 0) (updates s)
    ∙ test (bytes_eq bs s)
    (λ t. rw t (sym (ap (λ (x : List ℕ). unwrap_or (get_by_text p.others x) 0) (sym (same_bytes bs s t))
    ∙ none-zero (get_by_text p.others bs) none)))
    (λ t. rw t refl)
