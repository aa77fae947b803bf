-- The innermost element that may have an insertion mode decides.
use Rattle.std.proofs.Common.{◌≡◌, ◌∙◌, Bool, true, false, ◌||◌, cond, List, [], ◌∷◌, Option, None, refl, sym, ap}
use Rattle.std.proofs.lemmas.Bool.{true≢false}
use Rattle.std.specs.List.{list_any}
use Rattle.std.specs.Prelude.{◌&&◌, not, unwrap_or}
use Rattle.htmd_lexical.proofs.Cases.{test}
use Rattle.htmd_html5_state.specs.Names.{ElementNameValue, html, svg, math, known, other}
use Rattle.htmd_html5_state.specs.OpenElements.{OpenValue, is_empty, is_in_scope}
use Rattle.htmd_html5_state.specs.Places.{back_to, has_one}
use Rattle.htmd_html5_state.specs.Resetting.{mode_for, mode_for_name, mode_of, select_mode}
use Rattle.htmd_html5_state.specs.ResettingViews.{deciding, IsSelectMode, IsSelectModeOf}
use Rattle.htmd_html5_state.specs.Sets.{bounds, is_of}
use Rattle.htmd_html5_state.specs.State.{StateValue}
use Rattle.htmd_html5_state.specs.declared.names.TagName.{TagName}
use Rattle.htmd_html5_state.specs.declared.names.TagName.TheVariants.{Body, Caption, ColGroup, FrameSet, Head, Html}
use Rattle.htmd_html5_state.specs.declared.names.TagName.TheVariants.{Select, Table, TBody, Td, Template, TFoot, Th}
use Rattle.htmd_html5_state.specs.declared.names.TagName.TheVariants.{THead, Tr}
use Rattle.htmd_html5_state.specs.declared.sets.NameSet.TheVariants.{Only}
use Rattle.htmd_html5_state.specs.declared.sets.Scope.TheVariants.{Template as TemplateScope}
use Rattle.htmd_html5_state.specs.declared.modes.InsertionMode.{InsertionMode}
use Rattle.htmd_html5_state.specs.declared.modes.InsertionMode.TheVariants.{InBody, InSelect, InSelectInTable}

abbrev decides : ElementNameValue → Bool
decides name = list_any (λ t. is_of (Only t) name) deciding

-- ---- a name that doesn't decide

no_tag_mode : (t : TagName) (outer : List OpenValue) (s : StateValue) → decides (html (known t)) ≡ false
    → mode_for t outer s ≡ None
no_tag_mode Select outer s h = absurd (true≢false h)
no_tag_mode Td outer s h = absurd (true≢false h)
no_tag_mode Th outer s h = absurd (true≢false h)
no_tag_mode Tr outer s h = absurd (true≢false h)
no_tag_mode TBody outer s h = absurd (true≢false h)
no_tag_mode THead outer s h = absurd (true≢false h)
no_tag_mode TFoot outer s h = absurd (true≢false h)
no_tag_mode Caption outer s h = absurd (true≢false h)
no_tag_mode ColGroup outer s h = absurd (true≢false h)
no_tag_mode Table outer s h = absurd (true≢false h)
no_tag_mode Template outer s h = absurd (true≢false h)
no_tag_mode Head outer s h = absurd (true≢false h)
no_tag_mode Body outer s h = absurd (true≢false h)
no_tag_mode FrameSet outer s h = absurd (true≢false h)
no_tag_mode Html outer s h = absurd (true≢false h)
no_tag_mode _ outer s h = refl

no_mode : (name : ElementNameValue) (outer : List OpenValue) (s : StateValue) → decides name ≡ false
    → mode_for_name name outer s ≡ None
no_mode (html (known t)) outer s h = no_tag_mode t outer s h
no_mode (html (other n)) outer s h = refl
no_mode (svg n) outer s h = refl
no_mode (math n) outer s h = refl

no_table : (name : ElementNameValue) → decides name ≡ false → is_of (Only Table) name ≡ false
no_table (html (known Table)) h = absurd (true≢false h)
no_table (html (known _)) h = refl
no_table (html (other n)) h = refl
no_table (svg n) h = refl
no_table (math n) h = refl

no_template : (name : ElementNameValue) → decides name ≡ false → bounds TemplateScope name ≡ false
no_template (html (known Template)) h = absurd (true≢false h)
no_template (html (known _)) h = refl
no_template (html (other n)) h = refl
no_template (svg n) h = refl
no_template (math n) h = refl

mode-back : (es : List OpenValue) (s : StateValue) → mode_of es s ≡ mode_of (back_to (has_one deciding) es) s
mode-back [] s = refl
mode-back (e ∷ es) s =
    test (has_one deciding e) (λ t. rw t refl)
    (λ t. ap (λ (o : Option InsertionMode). unwrap_or o (mode_of es s)) (no_mode e.name es s t)
    ∙ (mode-back es s ∙ rw t refl))

select-back : (es : List OpenValue) → select_mode es ≡ select_mode (back_to (has_one deciding) es)
select-back [] = refl
select-back (e ∷ es) =
    test (has_one deciding e) (λ t. rw t refl)
    (λ t.
    let rest : Bool = is_in_scope (Only Table) TemplateScope es in
    ap (λ (r : Bool). cond (r || (not (bounds TemplateScope e.name) && rest)) InSelectInTable InSelect)
    (no_table e.name t)
    ∙ (ap (λ (r : Bool). cond (not r && rest) InSelectInTable InSelect) (no_template e.name t)
    ∙ (select-back es ∙ rw t refl)))

-- ---- the innermost that does

abbrev first_or : OpenValue → List OpenValue → OpenValue
first_or e [] = e
first_or e (f ∷ fs) = f

back-passes : (p : OpenValue → Bool) (es : List OpenValue) (e : OpenValue) (outer : List OpenValue)
    → back_to p es ≡ e ∷ outer → p e ≡ true
back-passes p [] e outer is = absurd (true≢false (ap is_empty is))
back-passes p (x ∷ xs) e outer is =
    test (p x)
    (λ t. ap p (sym (ap (first_or e) (sym (ap (λ (r : Bool). cond r (x ∷ xs) (back_to p xs)) t) ∙ is))) ∙ t)
    (λ t. back-passes p xs e outer (sym (ap (λ (r : Bool). cond r (x ∷ xs) (back_to p xs)) t) ∙ is))

tag_mode : (t : TagName) (outer : List OpenValue) (s : StateValue) → decides (html (known t)) ≡ true
    → unwrap_or (mode_for t outer s) (mode_of outer s) ≡ unwrap_or (mode_for t outer s) InBody
tag_mode Td [] s h = refl
tag_mode Td (e ∷ es) s h = refl
tag_mode Th [] s h = refl
tag_mode Th (e ∷ es) s h = refl
tag_mode Head [] s h = refl
tag_mode Head (e ∷ es) s h = refl
tag_mode Select outer s h = refl
tag_mode Tr outer s h = refl
tag_mode TBody outer s h = refl
tag_mode THead outer s h = refl
tag_mode TFoot outer s h = refl
tag_mode Caption outer s h = refl
tag_mode ColGroup outer s h = refl
tag_mode Table outer s h = refl
tag_mode Template outer s h = refl
tag_mode Body outer s h = refl
tag_mode FrameSet outer s h = refl
tag_mode Html outer s h = refl
tag_mode _ outer s h = absurd (true≢false (sym h))

name_mode : (name : ElementNameValue) (outer : List OpenValue) (s : StateValue) → decides name ≡ true
    → unwrap_or (mode_for_name name outer s) (mode_of outer s) ≡ unwrap_or (mode_for_name name outer s) InBody
name_mode (html (known t)) outer s h = tag_mode t outer s h
name_mode (html (other n)) outer s h = absurd (true≢false (sym h))
name_mode (svg n) outer s h = absurd (true≢false (sym h))
name_mode (math n) outer s h = absurd (true≢false (sym h))

pub mode-at : (stack : List OpenValue) (s : StateValue) (e : OpenValue) (outer : List OpenValue)
    → back_to (has_one deciding) stack ≡ e ∷ outer
    → mode_of stack s ≡ unwrap_or (mode_for_name e.name outer s) InBody
mode-at stack s e outer is =
    mode-back stack s
    ∙ (ap (λ (es : List OpenValue). mode_of es s) is
    ∙ name_mode e.name outer s (back-passes (has_one deciding) stack e outer is))

pub mode-nowhere : (stack : List OpenValue) (s : StateValue) → back_to (has_one deciding) stack ≡ []
    → mode_of stack s ≡ InBody
mode-nowhere stack s is = mode-back stack s ∙ ap (λ (es : List OpenValue). mode_of es s) is

tag_select : (t : TagName) (e : OpenValue) (outer stack : List OpenValue) → e.name ≡ html (known t)
    → select_mode stack ≡ select_mode (e ∷ outer) → IsSelectMode t outer stack
tag_select Select e outer stack name is =
    is ∙ ap (λ (n : ElementNameValue). cond (is_of (Only Table) n
    || (not (bounds TemplateScope n) && is_in_scope (Only Table) TemplateScope outer)) InSelectInTable InSelect) name
tag_select _ e outer stack name is = tt

name_select : (name : ElementNameValue) (e : OpenValue) (outer stack : List OpenValue) → e.name ≡ name
    → select_mode stack ≡ select_mode (e ∷ outer) → IsSelectModeOf name outer stack
name_select (html (known t)) e outer stack name is = tag_select t e outer stack name is
name_select (html (other n)) e outer stack name is = tt
name_select (svg n) e outer stack name is = tt
name_select (math n) e outer stack name is = tt

pub select-at : (stack : List OpenValue) (e : OpenValue) (outer : List OpenValue)
    → back_to (has_one deciding) stack ≡ e ∷ outer → IsSelectModeOf e.name outer stack
select-at stack e outer is =
    name_select e.name e outer stack refl (select-back stack ∙ ap select_mode is)
