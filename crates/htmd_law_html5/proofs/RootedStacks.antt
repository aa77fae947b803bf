-- What is open in the body: elements that have no mode of their own, then the body, then what was open before it.
use Rattle.std.proofs.Common.{◌≡◌, ◌∙◌, ℕ, ◌<◌, Bool, true, false, List, [], ◌∷◌, ◌++◌}
use Rattle.std.proofs.Common.{refl, sym, ap, arith, inl, inr, ◌⊎◌}
use Rattle.std.specs.Prelude.{unwrap_or, ◌==◌, ◌&&◌, not, if◌then◌else◌}
use Rattle.std.proofs.lemmas.Bool.{true≢false, and_parts, ne_eqb, and_right}
use Rattle.htmd_lexical.proofs.Cases.{test}
use Rattle.htmd_html5_state.specs.Names.{NameValue, ElementNameValue, known, other, html, svg, math, same_tag}
use Rattle.htmd_html5_state.specs.Names.{same_name, same_element_name}
use Rattle.htmd_html5_state.specs.Sets.{is_of, has, bounds}
use Rattle.htmd_html5_state.specs.Nodes.{NodeValue}
use Rattle.htmd_html5_state.specs.OpenElements.{OpenValue, is_in, has_name, is_open, is_open_node, current_is}
use Rattle.htmd_html5_state.specs.OpenElements.{is_in_scope, scope_has, is_closable, pop, pop_through, pop_until}
use Rattle.htmd_html5_state.specs.OpenElements.{pop_while, close, close_name, without, inside, around}
use Rattle.htmd_html5_state.specs.Foreign.{is_html, is_html_name, ends_foreign, leave_foreign, is_spelled_so}
use Rattle.htmd_html5_state.specs.Foreign.{ForeignEnd, by_mode, closed_to, foreign_end}
use Rattle.htmd_html5_state.specs.State.{StateValue}
use Rattle.htmd_html5_state.specs.Resetting.{mode_for_name, mode_of}
use Rattle.htmd_html5_state.specs.declared.modes.InsertionMode.{InsertionMode}
use Rattle.htmd_html5_state.specs.declared.modes.InsertionMode.TheVariants.{InBody, InSelect, AfterBody, AfterAfterBody}
use Rattle.htmd_html5_state.specs.declared.names.TagName.{TagName}
use Rattle.htmd_html5_state.specs.declared.sets.NameSet.{NameSet}
use Rattle.htmd_html5_state.specs.declared.sets.NameSet.TheVariants.{Only}
use Rattle.htmd_html5_state.specs.declared.sets.Scope.{Scope}
use Rattle.htmd_html5_state.specs.declared.sets.Scope.TheVariants.{Template as TemplateScope, Special}
use Rattle.htmd_html5_state.specs.declared.sets.Scope.TheVariants.{Select as SelectScope}
use Rattle.htmd_html5_state.proofs.TagLemmas.{same_tag-true}
use Rattle.htmd_html5.specs.InSelect.{close_option_in_group}
use Rattle.htmd_law_html5.proofs.OpenNodes.{EachOpen}
use Rattle.htmd_html5_state.specs.declared.names.TagName.TheVariants as tags
use Rattle.htmd_html5_state.specs.Foreign as foreign

-- ---- modes and names

-- in the body or after it
abbrev pub is_late : InsertionMode → Bool
is_late InBody = true
is_late InSelect = true
is_late AfterBody = true
is_late AfterAfterBody = true
is_late _ = false

-- of elements that are passed over as the mode is reset, and `select`
abbrev pub is_inner_tag : TagName → Bool
is_inner_tag tags.Html = false
is_inner_tag tags.Head = false
is_inner_tag tags.Body = false
is_inner_tag tags.FrameSet = false
is_inner_tag tags.Template = false
is_inner_tag tags.Table = false
is_inner_tag tags.Caption = false
is_inner_tag tags.ColGroup = false
is_inner_tag tags.TBody = false
is_inner_tag tags.THead = false
is_inner_tag tags.TFoot = false
is_inner_tag tags.Tr = false
is_inner_tag tags.Td = false
is_inner_tag tags.Th = false
is_inner_tag _ = true

abbrev pub is_inner_name : NameValue → Bool
is_inner_name (known tag) = is_inner_tag tag
is_inner_name (other s) = true

abbrev pub is_inner : ElementNameValue → Bool
is_inner (html name) = is_inner_name name
is_inner (svg s) = true
is_inner (math s) = true

-- of the body, and of what may be open before it
abbrev pub is_outer_tag : TagName → Bool
is_outer_tag tags.Html = true
is_outer_tag tags.Head = true
is_outer_tag tags.Body = true
is_outer_tag tags.Title = true
is_outer_tag tags.NoFrames = true
is_outer_tag tags.Style = true
is_outer_tag tags.Script = true
is_outer_tag tags.NoScript = true
is_outer_tag _ = false

abbrev pub is_outer_name : NameValue → Bool
is_outer_name (known tag) = is_outer_tag tag
is_outer_name (other s) = false

abbrev pub is_outer : ElementNameValue → Bool
is_outer (html name) = is_outer_name name
is_outer (svg s) = false
is_outer (math s) = false

-- ---- stacks

-- an element that was open before the body, whose number this is
abbrev pub Before : ℕ → OpenValue → Type 0
Before body e = (is_outer e.name ≡ true) × (e.node < body)

abbrev pub BodyOpen : ℕ → OpenValue → Type 0
BodyOpen body e = (e.name ≡ html (known tags.Body)) × (e.node ≡ body)

abbrev pub InnerOpen : OpenValue → Type 0
InnerOpen e = is_inner e.name ≡ true

-- the body is open under all that is open in it
abbrev pub Rooted : ℕ → List OpenValue → Type 0
Rooted body [] = ⊥
Rooted body (e ∷ es) = (BodyOpen body e × EachOpen (Before body) es) ⊎ (InnerOpen e × Rooted body es)

pub rooted_under : (body : ℕ) (es stack : List OpenValue) → EachOpen InnerOpen es → Rooted body stack
    → Rooted body (es ++ stack)
rooted_under body [] stack h r = r
rooted_under body (e ∷ es) stack h r = inr (h.0, rooted_under body es stack h.1 r)

-- ---- sets of names

-- none of these is the body, or open before it
abbrev pub Spares : NameSet → Type 0
Spares set = (tag : TagName) → is_outer_tag tag ≡ true → has set tag ≡ false

spared : (set : NameSet) → Spares set → (name : ElementNameValue) → is_outer name ≡ true
    → is_of set name ≡ false
spared set f (html (known tag)) p = f tag p
spared set f _ p = absurd (true≢false (sym p))

-- a tag that differs in what is so of it
other_tag : (f : TagName → Bool) (tag u : TagName) → f tag ≡ false → f u ≡ true → same_tag tag u ≡ false
other_tag f tag u e p =
    test (same_tag tag u) (λ t. absurd (true≢false (sym p ∙ (sym (ap f (same_tag-true tag u t)) ∙ e)))) (λ t. t)

pub only_spares : (tag : TagName) → is_outer_tag tag ≡ false → Spares (Only tag)
only_spares tag e u p = other_tag is_outer_tag tag u e p

-- a name that has no mode of its own isn't the body's
pub not_body : (tag : TagName) → is_inner_tag tag ≡ true
    → (same_tag tags.Body tag ≡ false) × (same_tag tag tags.Body ≡ false)
not_body tag p = (
  other_tag is_inner_tag tags.Body tag refl p,
  other_tag (λ t. not (is_inner_tag t)) tag tags.Body (ap not p) refl,
)

none_before : (set : NameSet) (scope : Scope) → Spares set → (body : ℕ) (es : List OpenValue)
    → EachOpen (Before body) es → scope_has (is_in set) scope es ≡ false
none_before set scope f body [] h = refl
none_before set scope f body (e ∷ es) h =
    rw (spared set f e.name h.0.0)
    (and_right (not (bounds scope e.name)) (scope_has (is_in set) scope es) (none_before set scope f body es h.1))

none_open_before : (set : NameSet) → Spares set → (body : ℕ) (es : List OpenValue) → EachOpen (Before body) es
    → is_open set es ≡ false
none_open_before set f body [] h = refl
none_open_before set f body (e ∷ es) h = rw (spared set f e.name h.0.0) (none_open_before set f body es h.1)

-- ---- no table is open, and no template

no_inner : (tag : TagName) → is_inner_tag tag ≡ false → (name : ElementNameValue) → is_inner name ≡ true
    → is_of (Only tag) name ≡ false
no_inner tag e (html (known u)) p = other_tag is_inner_tag tag u e p
no_inner tag e _ p = refl

no_table : (body : ℕ) (stack : List OpenValue) → Rooted body stack
    → is_in_scope (Only tags.Table) TemplateScope stack ≡ false
no_table body [] h = refl
no_table body (e ∷ es) (inl h) =
    rw h.0.0 (none_before (Only tags.Table) TemplateScope (only_spares tags.Table refl) body es h.1)
no_table body (e ∷ es) (inr h) =
    rw (no_inner tags.Table refl e.name h.0)
    (and_right (not (bounds TemplateScope e.name)) (is_in_scope (Only tags.Table) TemplateScope es)
    (no_table body es h.1))

pub no_template : (body : ℕ) (stack : List OpenValue) → Rooted body stack
    → is_open (Only tags.Template) stack ≡ false
no_template body [] h = refl
no_template body (e ∷ es) (inl h) =
    rw h.0.0 (none_open_before (Only tags.Template) (only_spares tags.Template refl) body es h.1)
no_template body (e ∷ es) (inr h) = rw (no_inner tags.Template refl e.name h.0) (no_template body es h.1)

-- ---- the mode is reset

inner_mode : (name : ElementNameValue) (outer : List OpenValue) (s : StateValue) (mode : InsertionMode)
    → is_inner name ≡ true → is_in_scope (Only tags.Table) TemplateScope outer ≡ false → is_late mode ≡ true
    → is_late (unwrap_or (mode_for_name name outer s) mode) ≡ true
inner_mode (html (known tags.Select)) outer s mode p e l = rw e refl
inner_mode _ outer s mode p e l = cc

-- it is one of the body's
pub reset_is_late : (body : ℕ) (stack : List OpenValue) (s : StateValue) → Rooted body stack
    → is_late (mode_of stack s) ≡ true
reset_is_late body [] s h = refl
reset_is_late body (e ∷ es) s (inl h) = rw h.0.0 refl
reset_is_late body (e ∷ es) s (inr h) =
    inner_mode e.name es s (mode_of es s) h.0 (no_table body es h.1) (reset_is_late body es s h.1)

-- ---- elements are popped

-- up to one that is open within the scope, which is neither the body nor open before it
through_rooted : (wanted : OpenValue → Bool) (scope : Scope) (body : ℕ)
    → ((e : OpenValue) → e.name ≡ html (known tags.Body) → wanted e ≡ false)
    → ((es : List OpenValue) → EachOpen (Before body) es
    → (not (bounds scope (html (known tags.Body))) && scope_has wanted scope es) ≡ false)
    → (stack : List OpenValue) → Rooted body stack → scope_has wanted scope stack ≡ true
    → Rooted body (pop_through wanted stack)
through_rooted wanted scope body off out [] h l = absurd (true≢false (sym l))
through_rooted wanted scope body off out (e ∷ es) (inl h) l = absurd (true≢false (sym l ∙ none))
  where
    none : scope_has wanted scope (e ∷ es) ≡ false
    none = rw (off e h.0.0) (rw h.0.0 (out es h.1))
through_rooted wanted scope body off out (e ∷ es) (inr h) l =
    test (wanted e) (λ t. rw t h.1) (λ t. rw t (through_rooted wanted scope body off out es h.1
    (and_parts (not (bounds scope e.name)) (scope_has wanted scope es) (rw t at l)).1))

pub close_rooted : (set : NameSet) (scope : Scope) → Spares set → (body : ℕ) (stack : List OpenValue)
    → Rooted body stack → Rooted body (close set scope stack)
close_rooted set scope f body stack h =
    test (is_in_scope set scope stack)
    (λ t. rw t (through_rooted (is_in set) scope body (λ e n. ap (is_of set) n ∙ f tags.Body refl)
    (λ es o. and_right (not (bounds scope (html (known tags.Body)))) (scope_has (is_in set) scope es)
    (none_before set scope f body es o)) stack h t)) (λ t. rw t h)

pub close_name_rooted : (name : NameValue) → same_name (known tags.Body) name ≡ false → (body : ℕ)
    (stack : List OpenValue) → Rooted body stack → Rooted body (close_name name stack)
close_name_rooted name f body stack h =
    test (is_closable name stack) (λ t. rw t (through_rooted (has_name (html name)) Special body
    (λ e n. ap (λ (x : ElementNameValue). same_element_name x (html name)) n ∙ f) (λ es o. refl) stack h t))
    (λ t. rw t h)

-- a `select` that is in scope
pub select_rooted : (body : ℕ) (stack : List OpenValue) → Rooted body stack
    → is_in_scope (Only tags.Select) SelectScope stack ≡ true → Rooted body (pop_until (Only tags.Select) stack)
select_rooted body stack h t =
    through_rooted (is_in (Only tags.Select)) SelectScope body (λ e n. ap (is_of (Only tags.Select)) n)
    (λ es o. refl) stack h t

pub pop_while_rooted : (set : NameSet) → has set tags.Body ≡ false → (body : ℕ) (stack : List OpenValue)
    → Rooted body stack → Rooted body (pop_while set stack)
pop_while_rooted set f body [] h = h
pop_while_rooted set f body (e ∷ es) (inl h) = rw (ap (is_of set) h.0.0 ∙ f) (inl h)
pop_while_rooted set f body (e ∷ es) (inr h) =
    test (is_in set e) (λ t. rw t (pop_while_rooted set f body es h.1)) (λ t. rw t (inr h))

-- the current node, where it is one of these
pub popped_rooted : (set : NameSet) → has set tags.Body ≡ false → (body : ℕ) (stack : List OpenValue)
    → Rooted body stack → current_is set stack ≡ true → Rooted body (pop stack)
popped_rooted set f body [] h t = h
popped_rooted set f body (e ∷ es) (inl h) t = absurd (true≢false (sym t ∙ (ap (is_of set) h.0.0 ∙ f)))
popped_rooted set f body (e ∷ es) (inr h) t = h.1

pub pop_where_rooted : (set : NameSet) → has set tags.Body ≡ false → (body : ℕ) (stack : List OpenValue)
    → Rooted body stack → Rooted body (if current_is set stack then pop stack else stack)
pop_where_rooted set f body stack h =
    test (current_is set stack) (λ t. rw t (popped_rooted set f body stack h t)) (λ t. rw t h)

pub option_in_group_rooted : (body : ℕ) (stack : List OpenValue) → Rooted body stack
    → Rooted body (close_option_in_group stack)
option_in_group_rooted body stack h =
    test (current_is (Only tags.OptionTag) stack && current_is (Only tags.OptGroup) (pop stack))
    (λ t. rw t (popped_rooted (Only tags.OptionTag) refl body stack h
    (and_parts (current_is (Only tags.OptionTag) stack) (current_is (Only tags.OptGroup) (pop stack)) t).0))
    (λ t. rw t h)

-- ---- an element that was opened after the body

without_each : (P : OpenValue → Type 0) (n : ℕ) (es : List OpenValue) → EachOpen P es
    → EachOpen P (without n es)
without_each P n [] h = tt
without_each P n (e ∷ es) h = test (e.node == n) (λ t. rw t h.1) (λ t. rw t (h.0, without_each P n es h.1))

other_node : (a body n : ℕ) → a ≡ body → body < n → (a == n) ≡ false
other_node a body n e l = ne_eqb a n (λ f. omega arith)

pub without_rooted : (body n : ℕ) → body < n → (stack : List OpenValue) → Rooted body stack
    → Rooted body (without n stack)
without_rooted body n l [] h = h
without_rooted body n l (e ∷ es) (inl h) =
    rw (other_node e.node body n h.0.1 l) (inl (h.0, without_each (Before body) n es h.1))
without_rooted body n l (e ∷ es) (inr h) =
    test (e.node == n) (λ t. rw t h.1) (λ t. rw t (inr (h.0, without_rooted body n l es h.1)))

not_open_before : (body n : ℕ) → body < n → (es : List OpenValue) → EachOpen (Before body) es
    → is_open_node n es ≡ false
not_open_before body n l [] h = refl
not_open_before body n l (e ∷ es) h =
    let a = h.0.1 in rw (ne_eqb e.node n (λ f. omega arith)) (not_open_before body n l es h.1)

not_open_in_body : (body n : ℕ) → body < n → (e : OpenValue) (es : List OpenValue)
    → BodyOpen body e × EachOpen (Before body) es → is_open_node n (e ∷ es) ≡ false
not_open_in_body body n l e es h = rw (other_node e.node body n h.0.1 l) (not_open_before body n l es h.1)

pub around_rooted : (body n : ℕ) → body < n → (stack : List OpenValue) → Rooted body stack
    → is_open_node n stack ≡ true → Rooted body (around n stack)
around_rooted body n l [] h o = h
around_rooted body n l (e ∷ es) (inl h) o = absurd (true≢false (sym o ∙ not_open_in_body body n l e es h))
around_rooted body n l (e ∷ es) (inr h) o =
    test (e.node == n) (λ t. rw t h.1) (λ t. rw t (around_rooted body n l es h.1 (rw t at o)))

pub inside_inner : (body n : ℕ) → body < n → (stack : List OpenValue) → Rooted body stack
    → is_open_node n stack ≡ true → EachOpen InnerOpen (inside n stack)
inside_inner body n l [] h o = tt
inside_inner body n l (e ∷ es) (inl h) o = absurd (true≢false (sym o ∙ not_open_in_body body n l e es h))
inside_inner body n l (e ∷ es) (inr h) o =
    test (e.node == n) (λ t. rw t tt) (λ t. rw t (h.0, inside_inner body n l es h.1 (rw t at o)))

-- ---- foreign elements

pub leave_foreign_rooted : (nodes : List NodeValue) (body : ℕ) (stack : List OpenValue) → Rooted body stack
    → Rooted body (leave_foreign nodes stack)
leave_foreign_rooted nodes body [] h = h
leave_foreign_rooted nodes body (e ∷ es) (inl h) = rw (ends nodes e h.0.0) (inl h)
  where
    ends : (nodes : List NodeValue) (e : OpenValue) → e.name ≡ html (known tags.Body)
        → ends_foreign nodes e ≡ true
    ends nodes e n = rw n refl
leave_foreign_rooted nodes body (e ∷ es) (inr h) =
    test (ends_foreign nodes e) (λ t. rw t (inr h)) (λ t. rw t (leave_foreign_rooted nodes body es h.1))

abbrev pub RootedEnd : ℕ → ForeignEnd → Type 0
RootedEnd body (closed_to es) = Rooted body es
RootedEnd body by_mode = Unit {0}
RootedEnd body foreign.nothing = Unit {0}

pub foreign_end_rooted : (name : List ℕ) (body : ℕ) (stack : List OpenValue) → Rooted body stack
    → RootedEnd body (foreign_end name stack)
foreign_end_rooted name body [] h = tt
foreign_end_rooted name body (e ∷ []) h = tt
foreign_end_rooted name body (e ∷ f ∷ es) (inl h) = rw (ap is_html_name h.0.0) tt
foreign_end_rooted name body (e ∷ f ∷ es) (inr h) =
    test (is_html e) (λ t. rw t tt) (λ t. test (is_spelled_so name e.name) (λ u. rw (t, u) h.1)
    (λ u. rw (t, u) (foreign_end_rooted name body (f ∷ es) h.1)))
