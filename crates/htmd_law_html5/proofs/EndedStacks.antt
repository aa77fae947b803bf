-- Elements that stay open: the root, and in some modes another one; and how elements are popped above them.
use Rattle.std.proofs.Common.{Bool, List, ap, false, inl, inr, refl, sym, true, ℕ, [], ◌∙◌, ◌∷◌, ◌≡◌, ◌⊎◌}
use Rattle.std.proofs.lemmas.Bool.{and_parts, cond_both, not-true, or_parts, true≢false}
use Rattle.std.specs.List.{list_any}
use Rattle.std.specs.Prelude.{if◌then◌else◌, not, ◌&&◌, ◌==◌}
use Rattle.htmd_lexical.proofs.Cases.{test}
use Rattle.htmd_html5.specs.InSelect.{close_option_in_group}
use Rattle.htmd_law_html5.proofs.OpenNodes.{EachOpen}
use Rattle.htmd_html5_state.specs.Adoption.{bounds_any}
use Rattle.htmd_html5_state.specs.Foreign.{ForeignEnd, by_mode, closed_to, ends_foreign, foreign_end, is_html}
use Rattle.htmd_html5_state.specs.Foreign.{is_html_name, is_spelled_so, leave_foreign}
use Rattle.htmd_html5_state.specs.Names.{ElementNameValue, NameValue, html, known, math, other, same_element_name}
use Rattle.htmd_html5_state.specs.Names.{svg}
use Rattle.htmd_html5_state.specs.Nodes.{NodeValue}
use Rattle.htmd_html5_state.specs.OpenElements.{OpenValue, around, clear_to, close, close_name, current_is, has_name}
use Rattle.htmd_html5_state.specs.OpenElements.{has_second, inside, is_closable, is_in, is_in_scope, is_open, outermost}
use Rattle.htmd_html5_state.specs.OpenElements.{pop, pop_through, pop_until, pop_while, scope_has, without}
use Rattle.htmd_html5_state.specs.Sets.{bounds, bounds_known, has, is_of}
use Rattle.htmd_html5_state.specs.declared.names.TagName.{TagName}
use Rattle.htmd_html5_state.specs.declared.sets.NameSet.{NameSet}
use Rattle.htmd_html5_state.specs.declared.sets.NameSet.TheVariants.{Cells, Only}
use Rattle.htmd_html5_state.specs.declared.sets.Scope.{Scope}
use Rattle.htmd_html5_state.specs.declared.sets.Scope.TheVariants.{Default, Special}
use Rattle.htmd_html5_state.specs.Foreign as foreign
use Rattle.htmd_html5_state.specs.declared.names.TagName.TheVariants as tags

-- ---- what stays open

-- the root, which is the outermost element, a cell, the head, a `noscript` in the head, a `select`
pub data Anchor : Type 0 where
  at_root : Anchor
  at_cell : Anchor
  at_head : Anchor
  at_noscript : Anchor
  at_select : Anchor

abbrev pub names_of : Anchor → NameSet
names_of at_root = Only tags.Html
names_of at_cell = Cells
names_of at_head = Only tags.Head
names_of at_noscript = Only tags.NoScript
names_of at_select = Only tags.Select

-- what is around it
abbrev pub Around : Anchor → List OpenValue → Type 0
Around at_root es = es ≡ []
Around at_noscript es = is_open (Only tags.Head) es ≡ true
Around a es = Unit {0}

abbrev pub At : Anchor → OpenValue → List OpenValue → Type 0
At a e es = (is_of (names_of a) e.name ≡ true) × Around a es

-- it is open
abbrev pub Has : Anchor → List OpenValue → Type 0
Has a [] = ⊥
Has a (e ∷ es) = At a e es ⊎ Has a es

-- what the rules of the body leave open
abbrev pub is_firm : Anchor → Bool
is_firm at_root = true
is_firm at_cell = true
is_firm a = false

abbrev pub is_root : Anchor → Bool
is_root at_root = true
is_root a = false

abbrev pub is_any : Anchor → Bool
is_any a = true

-- ---- names

-- what is said of a name is so of each of its names
abbrev pub each_name : (ElementNameValue → Bool) → Anchor → Bool
each_name f at_root = f (html (known tags.Html))
each_name f at_cell = f (html (known tags.Td)) && f (html (known tags.Th))
each_name f at_head = f (html (known tags.Head))
each_name f at_noscript = f (html (known tags.NoScript))
each_name f at_select = f (html (known tags.Select))

named_so : (f : ElementNameValue → Bool) (a : Anchor) → each_name f a ≡ true → (name : ElementNameValue)
    → is_of (names_of a) name ≡ true → f name ≡ true
named_so f at_root e (html (known tags.Html)) p = e
named_so f at_cell e (html (known tags.Td)) p = (and_parts _ _ e).0
named_so f at_cell e (html (known tags.Th)) p = (and_parts _ _ e).1
named_so f at_head e (html (known tags.Head)) p = e
named_so f at_noscript e (html (known tags.NoScript)) p = e
named_so f at_select e (html (known tags.Select)) p = e
named_so f a e name p = absurd (true≢false (sym p))

-- no name of the set is one of its names
abbrev pub spares : NameSet → Anchor → Bool
spares set a = each_name (λ name. not (is_of set name)) a

pub spared : (set : NameSet) (a : Anchor) → spares set a ≡ true → (name : ElementNameValue)
    → is_of (names_of a) name ≡ true → is_of set name ≡ false
spared set a f name p = not-true (is_of set name) (named_so (λ n. not (is_of set n)) a f name p)

-- nor is this name
abbrev pub spares_name : NameValue → Anchor → Bool
spares_name name a = is_firm a && each_name (λ found. not (same_element_name found (html name))) a

name_spared : (name : NameValue) (a : Anchor) → spares_name name a ≡ true → (found : ElementNameValue)
    → is_of (names_of a) found ≡ true → same_element_name found (html name) ≡ false
name_spared name a f found p =
    not-true (same_element_name found (html name))
    (named_so (λ n. not (same_element_name n (html name))) a (and_parts _ _ f).1 found p)

-- neither the root's name nor a cell's
abbrev pub is_common_tag : TagName → Bool
is_common_tag tags.Html = false
is_common_tag tags.Td = false
is_common_tag tags.Th = false
is_common_tag tag = true

abbrev pub is_common_name : NameValue → Bool
is_common_name (known tag) = is_common_tag tag
is_common_name (other s) = true

abbrev pub is_common : ElementNameValue → Bool
is_common (html name) = is_common_name name
is_common (svg s) = true
is_common (math s) = true

-- what holds of both the root and cells
pub both_firm : (f : Anchor → Bool) → (f at_root && f at_cell) ≡ true → (a : Anchor) → is_firm a ≡ true
    → f a ≡ true
both_firm f e at_root p = (and_parts _ _ e).0
both_firm f e at_cell p = (and_parts _ _ e).1
both_firm f e a p = absurd (true≢false (sym p))

pub firm_name : (a : Anchor) → is_firm a ≡ true → (name : ElementNameValue) → is_of (names_of a) name ≡ true
    → is_common name ≡ false
firm_name a p name h =
    not-true (is_common name)
    (named_so (λ n. not (is_common n)) a (both_firm (each_name (λ n. not (is_common n))) refl a p) name h)

pub tag_spares : (tag : TagName) → is_common_tag tag ≡ true
    → ((spares (Only tag) at_root && spares (Only tag) at_cell) ≡ true)
    × ((spares_name (known tag) at_root && spares_name (known tag) at_cell) ≡ true)
tag_spares tags.Html e = absurd (true≢false (sym e))
tag_spares tags.Td e = absurd (true≢false (sym e))
tag_spares tags.Th e = absurd (true≢false (sym e))
tag_spares tag e = (refl, refl)

-- ---- scopes

-- its names bound the scope
abbrev pub is_bound : Scope → Anchor → Bool
is_bound scope a = is_firm a && each_name (bounds scope) a

bounded : (scope : Scope) (a : Anchor) → is_bound scope a ≡ true → (name : ElementNameValue)
    → is_of (names_of a) name ≡ true → bounds scope name ≡ true
bounded scope a w name p = named_so (bounds scope) a (and_parts (is_firm a) _ w).1 name p

-- ---- elements are popped

-- up to one that is open within the scope
through_has : (wanted : OpenValue → Bool) (scope : Scope) (a : Anchor)
    → ((e : OpenValue) → is_of (names_of a) e.name ≡ true → wanted e ≡ false) → is_bound scope a ≡ true
    → (stack : List OpenValue) → Has a stack → scope_has wanted scope stack ≡ true
    → Has a (pop_through wanted stack)
through_has wanted scope a off w [] h l = h
through_has wanted scope a off w (e ∷ es) (inl h) l =
    absurd (true≢false (sym (rw (off e h.0, bounded scope a w e.name h.0) at l)))
through_has wanted scope a off w (e ∷ es) (inr h) l =
    test (wanted e) (λ t. rw t h) (λ t. rw t (through_has wanted scope a off w es h
    (and_parts (not (bounds scope e.name)) (scope_has wanted scope es) (rw t at l)).1))

pub until_has : (set : NameSet) (scope : Scope) (a : Anchor) → spares set a ≡ true → is_bound scope a ≡ true →
    (stack : List OpenValue) → Has a stack → is_in_scope set scope stack ≡ true → Has a (pop_until set stack)
until_has set scope a f w stack h t = through_has (is_in set) scope a (λ e k. spared set a f e.name k) w stack h t

pub close_has : (set : NameSet) (scope : Scope) (a : Anchor) → (spares set a && is_bound scope a) ≡ true
    → (stack : List OpenValue) → Has a stack → Has a (close set scope stack)
close_has set scope a f stack h =
    let g = and_parts _ _ f in
    cond_both (is_in_scope set scope stack) _ _ (λ es. Has a es) (λ t. until_has set scope a g.0 g.1 stack h t)
    (λ t. h)

pub close_name_has : (name : NameValue) (a : Anchor) → spares_name name a ≡ true → (stack : List OpenValue)
    → Has a stack → Has a (close_name name stack)
close_name_has name a f stack h =
    cond_both (is_closable name stack) _ _ (λ es. Has a es)
    (λ t. through_has (has_name (html name)) Special a (λ e k. name_spared name a f e.name k) (special a f) stack h t)
    (λ t. h)
  where
    special : (b : Anchor) → spares_name name b ≡ true → is_bound Special b ≡ true
    special at_root g = refl
    special at_cell g = refl
    special b g = absurd (true≢false (sym g))

-- the root itself stays, until one of these is popped, which is open
pub open_root : (set : NameSet) → spares set at_root ≡ true → (stack : List OpenValue) → Has at_root stack
    → is_open set stack ≡ true → Has at_root (pop_until set stack)
open_root set f [] h l = h
open_root set f (e ∷ es) (inl h) l = absurd (true≢false (sym (rw (spared set at_root f e.name h.0, h.1) at l)))
open_root set f (e ∷ es) (inr h) l = test (is_in set e) (λ t. rw t h) (λ t. rw t (open_root set f es h (rw t at l)))

-- back to an element of the context, one that is in scope, which is popped: the root stays
pub cleared_popped : (wanted context : NameSet) (scope : Scope) → spares wanted at_root ≡ true
    → bounds_known scope tags.Html ≡ true
    → ((name : ElementNameValue) → is_of wanted name ≡ true → is_of context name ≡ true)
    → (stack : List OpenValue) → Has at_root stack → is_in_scope wanted scope stack ≡ true
    → Has at_root (pop (clear_to context stack))
cleared_popped wanted context scope f b sub [] h l = h
cleared_popped wanted context scope f b sub (e ∷ es) (inl h) l =
    absurd (true≢false (sym (rw (spared wanted at_root f e.name h.0, bounded scope at_root b e.name h.0) at l)))
cleared_popped wanted context scope f b sub (e ∷ es) (inr h) l =
    test (is_in context e) (λ t. rw t h) (λ t. rw t (cleared_popped wanted context scope f b sub es h
    (and_parts (not (bounds scope e.name)) (is_in_scope wanted scope es) (rw (unwanted t) at l)).1))
  where
    unwanted : is_in context e ≡ false → is_in wanted e ≡ false
    unwanted t = test (is_in wanted e) (λ w. absurd (true≢false (sym (sub e.name w) ∙ t))) (λ w. w)

pub outermost_root : (stack : List OpenValue) → Has at_root stack → Has at_root (outermost stack)
outermost_root [] h = h
outermost_root (e ∷ []) h = h
outermost_root (e ∷ f ∷ es) (inl h) = let g = h.1 in absurd (cc)
outermost_root (e ∷ f ∷ es) (inr h) = outermost_root (f ∷ es) h

-- of the root alone
pub only_root : (stack new : List OpenValue) → (Has at_root stack → Has at_root new) → (a : Anchor)
    → is_root a ≡ true → Has a stack → Has a new
only_root stack new f at_root k h = f h
only_root stack new f a k h = absurd (true≢false (sym k))

-- back to one of these, if the root is one
pub cleared_has : (set : NameSet) (a : Anchor) → (is_root a && has set tags.Html) ≡ true
    → (stack : List OpenValue) → Has a stack → Has a (clear_to set stack)
cleared_has set at_root f [] h = h
cleared_has set at_root f (e ∷ es) (inl h) = rw (named_so (is_of set) at_root f e.name h.0) (inl h)
cleared_has set at_root f (e ∷ es) (inr h) =
    test (is_in set e) (λ t. rw t (inr h)) (λ t. rw t (cleared_has set at_root f es h))
cleared_has set a f stack h = absurd (true≢false (sym f))

-- ---- as long as the current node is one of these

pub pop_while_has : (set : NameSet) (a : Anchor) → spares set a ≡ true → (stack : List OpenValue)
    → Has a stack → Has a (pop_while set stack)
pop_while_has set a f [] h = h
pop_while_has set a f (e ∷ es) (inl h) = rw (spared set a f e.name h.0) (inl h)
pop_while_has set a f (e ∷ es) (inr h) =
    test (is_in set e) (λ t. rw t (pop_while_has set a f es h)) (λ t. rw t (inr h))

-- the current node, where it is one of these
pub popped_has : (set : NameSet) (a : Anchor) → spares set a ≡ true → (stack : List OpenValue)
    → Has a stack → current_is set stack ≡ true → Has a (pop stack)
popped_has set a f [] h t = h
popped_has set a f (e ∷ es) (inl h) t = absurd (true≢false (sym t ∙ spared set a f e.name h.0))
popped_has set a f (e ∷ es) (inr h) t = h

pub pop_where_has : (set : NameSet) (a : Anchor) → spares set a ≡ true → (stack : List OpenValue)
    → Has a stack → Has a (if current_is set stack then pop stack else stack)
pop_where_has set a f stack h =
    cond_both (current_is set stack) _ _ (λ es. Has a es) (λ t. popped_has set a f stack h t) (λ t. h)

pub option_in_group_has : (a : Anchor) → spares (Only tags.OptionTag) a ≡ true → (stack : List OpenValue)
    → Has a stack → Has a (close_option_in_group stack)
option_in_group_has a f stack h =
    cond_both (current_is (Only tags.OptionTag) stack && current_is (Only tags.OptGroup) (pop stack)) _ _
    (λ es. Has a es) (λ t. popped_has (Only tags.OptionTag) a f stack h (and_parts _ _ t).0) (λ t. h)

-- ---- an element that is neither the root nor a cell

-- the element with this number, if it is open, has a common name
abbrev pub Apart : ℕ → List OpenValue → Type 0
Apart n stack = EachOpen (λ e. is_common e.name ≡ false → (e.node == n) ≡ false) stack

shorter : (a : Anchor) → is_firm a ≡ true → (n : ℕ) (es : List OpenValue) → Around a es
    → Around a (without n es)
shorter at_root p n es h = ap (without n) h
shorter at_cell p n es h = tt
shorter a p n es h = absurd (true≢false (sym p))

pub without_has : (a : Anchor) → is_firm a ≡ true → (n : ℕ) (stack : List OpenValue) → Apart n stack
    → Has a stack → Has a (without n stack)
without_has a p n [] k h = h
without_has a p n (e ∷ es) k (inl h) = rw (k.0 (firm_name a p e.name h.0)) (inl (h.0, shorter a p n es h.1))
without_has a p n (e ∷ es) k (inr h) =
    test (e.node == n) (λ t. rw t h) (λ t. rw t (inr (without_has a p n es k.1 h)))

-- what is around an element in scope
pub around_has : (a : Anchor) → is_firm a ≡ true → (n : ℕ) (stack : List OpenValue) → Apart n stack
    → list_any bounds_any (inside n stack) ≡ false → Has a stack → Has a (around n stack)
around_has a p n [] k o h = h
around_has a p n (e ∷ es) k o (inl h) = absurd (true≢false (sym found ∙ o))
  where
    found : list_any bounds_any (inside n (e ∷ es)) ≡ true
    found =
        rw (k.0 (firm_name a p e.name h.0), bounded Default a (both_firm (is_bound Default) refl a p) e.name h.0) refl
around_has a p n (e ∷ es) k o (inr h) =
    test (e.node == n) (λ t. rw t h) (λ t. rw t (around_has a p n es k.1 (or_parts _ _ (rw t at o)).1 h))

-- ---- foreign elements

of_html : (set : NameSet) (name : ElementNameValue) → is_of set name ≡ true → is_html_name name ≡ true
of_html set (html name) p = refl
of_html set name p = absurd (true≢false (sym p))

pub leave_foreign_has : (nodes : List NodeValue) (a : Anchor) (stack : List OpenValue) → Has a stack
    → Has a (leave_foreign nodes stack)
leave_foreign_has nodes a [] h = h
leave_foreign_has nodes a (e ∷ es) (inl h) = rw (of_html (names_of a) e.name h.0) (inl h)
leave_foreign_has nodes a (e ∷ es) (inr h) =
    test (ends_foreign nodes e) (λ t. rw t (inr h)) (λ t. rw t (leave_foreign_has nodes a es h))

abbrev pub HasEnd : Anchor → ForeignEnd → Type 0
HasEnd a (closed_to es) = Has a es
HasEnd a by_mode = Unit {0}
HasEnd a foreign.nothing = Unit {0}

pub foreign_end_has : (name : List ℕ) (a : Anchor) (stack : List OpenValue) → Has a stack
    → HasEnd a (foreign_end name stack)
foreign_end_has name a [] h = tt
foreign_end_has name a (e ∷ []) h = tt
foreign_end_has name a (e ∷ f ∷ es) (inl h) = rw (of_html (names_of a) e.name h.0) tt
foreign_end_has name a (e ∷ f ∷ es) (inr h) =
    test (is_html e) (λ t. rw t tt)
    (λ t. rw t (test (is_spelled_so name e.name) (λ u. rw u h) (λ u. rw u (foreign_end_has name a (f ∷ es) h))))

-- ---- the head under a `noscript`

head_open : (stack : List OpenValue) → is_open (Only tags.Head) stack ≡ true → Has at_head stack
head_open [] l = absurd (true≢false (sym l))
head_open (e ∷ es) l = test (is_in (Only tags.Head) e) (λ t. inl (t, tt)) (λ t. inr (head_open es (rw t at l)))

-- what is open by its name
pub has_open : (a : Anchor) (stack : List OpenValue) → Has a stack → is_open (names_of a) stack ≡ true
has_open a [] h = absurd h
has_open a (e ∷ es) (inl h) = rw h.0 refl
has_open a (e ∷ es) (inr h) = test (is_in (names_of a) e) (λ t. rw t refl) (λ t. rw t (has_open a es h))

head_under : (stack : List OpenValue) → Has at_noscript stack → Has at_head stack
head_under [] h = h
head_under (e ∷ es) (inl h) = inr (head_open es h.1)
head_under (e ∷ es) (inr h) = inr (head_under es h)

pub noscript_popped : (stack : List OpenValue) → Has at_noscript stack → Has at_head (pop stack)
noscript_popped [] h = h
noscript_popped (e ∷ es) (inl h) = head_open es h.1
noscript_popped (e ∷ es) (inr h) = head_under es h

-- ---- the current node is popped above the root

pub popped_open : (set : NameSet) → spares set at_root ≡ true → (stack : List OpenValue) → Has at_root stack
    → is_open set stack ≡ true → Has at_root (pop stack)
popped_open set f [] h l = h
popped_open set f (e ∷ es) (inl h) l = absurd (true≢false (sym (rw (spared set at_root f e.name h.0, h.1) at l)))
popped_open set f (e ∷ es) (inr h) l = h

pub second_popped : (stack : List OpenValue) → has_second stack ≡ true → Has at_root stack
    → Has at_root (pop stack)
second_popped [] t h = h
second_popped (e ∷ []) t h = absurd (true≢false (sym t))
second_popped (e ∷ f ∷ es) t (inl h) = let g = h.1 in absurd (cc)
second_popped (e ∷ f ∷ es) t (inr h) = h
