-- States before the body in which the letters stand in order: the head may be opened once more after it.
use Rattle.std.proofs.Common.{◌≡◌, ◌∙◌, ℕ, zero, suc, ◌<◌, Bool, true, false, List, [], ◌∷◌, length, inl, inr, ◌⊎◌}
use Rattle.std.proofs.Common.{Option, Some, None, refl, sym, ap, subst, cond}
use Rattle.std.specs.Prelude.{◌||◌}
use Rattle.std.proofs.lemmas.Bool.{true≢false}
use Rattle.htmd_lexical.proofs.Cases.{test}
use Rattle.htmd_html5_state.specs.Names.{ElementNameValue, known, html}
use Rattle.htmd_html5_state.specs.Nodes.{NodeValue, KindValue, text, last_in, add}
use Rattle.htmd_html5_state.specs.OpenElements.{OpenValue, pop}
use Rattle.htmd_html5_state.specs.State.{StateValue}
use Rattle.htmd_html5_state.specs.Foreign.{current_is_html, is_html_name}
use Rattle.htmd_html5_state.specs.Formatting.{is_listed}
use Rattle.htmd_html5_state.specs.Insertion.{opened, current}
use Rattle.htmd_html5_state.specs.declared.modes.InsertionMode.TheVariants.{Initial, BeforeHtml, BeforeHead, InHead}
use Rattle.htmd_html5_state.specs.declared.modes.InsertionMode.TheVariants.{InHeadNoscript, AfterHead}
use Rattle.htmd_html5_state.specs.declared.modes.InsertionMode.{InsertionMode}
use Rattle.htmd_html5.specs.Feeding.{is_text_mode}
use Rattle.htmd_law_html5.proofs.NodeTexts.{kinds}
use Rattle.htmd_law_html5.proofs.OpenNodes.{EachOpen, Fewer, each_more, all_of, skip, keep, pop_fewer}
use Rattle.htmd_law_html5.proofs.PlainNames.{is_plain_element}
use Rattle.htmd_law_html5.proofs.PlainStates.{is_plain_mode, PlainIn}
use Rattle.htmd_law_html5.proofs.HungNodes.{is_solid}
use Rattle.htmd_law_html5.proofs.HungStates.{HungIn, hung_fewer, hung_last}
use Rattle.htmd_law_html5.proofs.OrderedNodes.{bears}
use Rattle.htmd_law_html5.proofs.OrderedStates.{OrderedIn, Orders, ordered_fewer, loose_in}
use Rattle.htmd_law_html5.proofs.RootedStacks.{is_late, is_outer}
use Rattle.htmd_law_html5.proofs.OrderedLate.{Late}
use Rattle.htmd_law_html5.proofs.Counted.{Choice}
use Rattle.htmd_html5_state.specs.declared.names.TagName.TheVariants as tags

-- ---- names

abbrev pub is_outer_open : OpenValue → Bool
is_outer_open e = is_outer e.name

abbrev pub OuterOpen : OpenValue → Type 0
OuterOpen e = is_outer_open e ≡ true

pub outer_plain : (name : ElementNameValue) → is_outer name ≡ true → is_plain_element name ≡ true
outer_plain (html (known tags.Html)) o = refl
outer_plain _ o = cc

outer_html : (name : ElementNameValue) → is_outer name ≡ true → is_html_name name ≡ true
outer_html (html name) o = refl
outer_html _ o = o

pub current_html : (stack : List OpenValue) → EachOpen OuterOpen stack → current_is_html stack ≡ true
current_html [] h = refl
current_html (e ∷ es) h = outer_html e.name h.0

-- ---- states before the body

-- no element may be opened again, no form is noted, and no template is open
abbrev pub Unused : StateValue → Type 0
Unused s = (s.formatting ≡ []) × ((s.form ≡ None) × (s.template_modes ≡ []))

module _ (choice : Choice) where
  -- only the root, the head and elements of only text are open
  pub record EarlyOf (letters : List ℕ) (nodes : List NodeValue) (stack : List OpenValue) (head : Option ℕ)
      (fosters : Bool)
      : Type 0 where
    pub hung : HungIn nodes stack head
    pub ordered : OrderedIn choice letters nodes stack fosters
    pub names : EachOpen OuterOpen stack

  abbrev pub EarlyIn : List ℕ → StateValue → List OpenValue → Type 0
  EarlyIn letters s stack = EarlyOf letters s.nodes stack s.head s.foster_parenting × Unused s

  abbrev pub Early : List ℕ → StateValue → Type 0
  Early letters s = EarlyIn letters s s.stack

pub early_plain : {choice : Choice} {letters : List ℕ} (s : StateValue) (stack : List OpenValue)
    (mode : InsertionMode) → is_plain_mode mode ≡ true → EarlyIn choice letters s stack
    → PlainIn (kinds s.nodes) s.formatting stack mode s.template_modes
early_plain s stack mode p h = record {
  names = each_more stack (λ e o. outer_plain e.name o) h.0.names;
  entries_at = λ n l. absurd (true≢false (sym l ∙ ap (is_listed n) h.1.0));
  plain_mode = p;
  no_modes = h.1.1.1;
}

-- a step in a plain mode
pub early_step : {choice : Choice} {f : StateValue → StateValue} → Orders choice f → (letters : List ℕ)
    (s : StateValue) → is_plain_mode s.mode ≡ true → EachOpen OuterOpen (f s).stack → Unused (f s)
    → Early choice letters s → Early choice letters (f s)
early_step g letters s p names unused h =
    let plain = early_plain s s.stack s.mode p h in (
      record {
        hung = g.stays.hangs s plain h.0.hung;
        ordered = g.orders letters s plain h.0.hung h.0.ordered;
        names = names;
      },
      unused,
    )

module _ {choice : Choice} {letters : List ℕ} {nodes : List NodeValue} {stack : List OpenValue} {head : Option ℕ}
    {fosters : Bool} where
  pub early_fewer : (es : List OpenValue) → Fewer es stack → EarlyOf choice letters nodes stack head fosters
      → EarlyOf choice letters nodes es head fosters
  early_fewer es f h = record {
    hung = hung_fewer es f h.hung;
    ordered = ordered_fewer choice es f h.ordered;
    names = f.each is_outer_open h.names;
  }

  -- a comment or a doctype at the end of a node
  pub early_loose : (k : KindValue) (p : ℕ) → is_solid k ≡ false → bears choice k ≡ false
      → ((t : List ℕ) → k ≡ text t → ⊥) → p < length nodes
      → EarlyOf choice letters nodes stack head fosters
      → EarlyOf choice letters (add k (last_in p) nodes) stack head fosters
  early_loose k p loose e none within h = record {
    hung = hung_last k p nodes loose h.hung;
    ordered = loose_in choice k p h.hung h.ordered within e none;
    names = h.names;
  }

-- ---- what is open

abbrev pub head_open : ℕ → OpenValue
head_open n = opened n (html (known tags.Head))

-- an element right under the innermost, if that is of only text
abbrev pub under_raw : Bool → OpenValue → List OpenValue → List OpenValue
under_raw false d stack = d ∷ stack
under_raw true d [] = d ∷ []
under_raw true d (e ∷ es) = e ∷ d ∷ es

-- after the head it counts as open once more, if that may be: an element may be put into it
abbrev pub opens_in : InsertionMode → Bool → Bool → Option ℕ → List OpenValue → List OpenValue
opens_in AfterHead true raw (Some n) stack = under_raw raw (head_open n) stack
opens_in mode reopens raw head stack = stack

pub opens_fewer : (mode : InsertionMode) (reopens raw : Bool) (head : Option ℕ) (stack : List OpenValue)
    → Fewer stack (opens_in mode reopens raw head stack)
opens_fewer AfterHead true false (Some n) stack = skip (head_open n) (all_of stack)
opens_fewer AfterHead true true (Some n) [] = skip (head_open n) (all_of [])
opens_fewer AfterHead true true (Some n) (e ∷ es) = keep e (skip (head_open n) (all_of es))
opens_fewer mode reopens raw head stack = all_of stack

-- where the element of only text is closed
pub closed_fewer : (mode : InsertionMode) (reopens : Bool) (head : Option ℕ) (stack : List OpenValue)
    → Fewer (opens_in mode reopens false head (pop stack)) (opens_in mode reopens true head stack)
closed_fewer AfterHead true (Some n) [] = all_of (head_open n ∷ [])
closed_fewer AfterHead true (Some n) (e ∷ es) = skip e (all_of (head_open n ∷ es))
closed_fewer mode reopens head stack = pop_fewer stack

-- ---- modes before the body

abbrev pub is_early : InsertionMode → Bool
is_early Initial = true
is_early BeforeHtml = true
is_early BeforeHead = true
is_early InHead = true
is_early InHeadNoscript = true
is_early AfterHead = true
is_early _ = false

pub early_mode_plain : (mode : InsertionMode) → is_early mode ≡ true → is_plain_mode mode ≡ true
early_mode_plain Initial e = refl
early_mode_plain _ e = cc

abbrev pub popped : ℕ → List OpenValue → List OpenValue
popped zero stack = stack
popped (suc k) stack = popped k (pop stack)

-- the head is the current node once so many have been popped
abbrev pub HeadAt : ℕ → Option ℕ → List OpenValue → Type 0
HeadAt k head stack = (n : ℕ) → head ≡ Some n → (current (popped k stack)).node ≡ n

-- what a mode needs of what is open
abbrev pub Placed : InsertionMode → Bool → Option ℕ → List OpenValue → Type 0
Placed Initial raw head stack = stack ≡ []
Placed BeforeHtml raw head stack = stack ≡ []
Placed InHead raw head stack = HeadAt (cond raw 1 0) head stack
Placed InHeadNoscript raw head stack = HeadAt (cond raw 2 1) head stack
Placed AfterHead raw head stack = raw ≡ true → stack ≡ [] → ⊥
Placed _ raw head stack = Unit {0}

-- what counts as the current node in an element of only text
pub opens_current : (mode : InsertionMode) (reopens : Bool) (head : Option ℕ) (stack : List OpenValue)
    → Placed mode true head stack → (current (opens_in mode reopens true head stack)).node ≡ (current stack).node
opens_current AfterHead true (Some n) [] h = absurd (h refl refl)
opens_current AfterHead true (Some n) (e ∷ es) h = refl
opens_current mode reopens head stack h = refl

pub closed_placed : (mode : InsertionMode) (head : Option ℕ) (stack : List OpenValue) → Placed mode true head stack
    → Placed mode false head (pop stack)
closed_placed Initial head stack h = ap pop h
closed_placed BeforeHtml head stack h = ap pop h
closed_placed AfterHead head stack h = λ z. absurd (true≢false (sym z))
closed_placed InHead head stack h = h
closed_placed InHeadNoscript head stack h = h
closed_placed _ head stack h = tt

module _ (choice : Choice) where
  -- in such a mode, in an element of only text or outside
  pub record BeforeBody (raw : Bool) (mode : InsertionMode) (letters : List ℕ) (s : StateValue) : Type 0 where
    pub early_mode : is_early mode ≡ true
    pub early : EarlyIn choice letters s (opens_in mode choice.reopens raw s.head s.stack)
    pub placed : Placed mode raw s.head s.stack

  -- what holds in a mode
  abbrev pub Stage : Bool → InsertionMode → List ℕ → StateValue → Type 0
  Stage raw mode letters s = Late choice letters s ⊎ BeforeBody raw mode letters s

  abbrev pub Staged : List ℕ → StateValue → Type 0
  Staged letters s = Stage (is_text_mode s.content) s.mode letters s

  pub staged : (raw : Bool) (mode : InsertionMode) (letters : List ℕ) (s : StateValue)
      → is_text_mode s.content ≡ raw → s.mode ≡ mode → BeforeBody raw mode letters s → Staged letters s
  staged raw mode letters s e f h =
      inr (subst (λ (b : Bool). BeforeBody b s.mode letters s) (sym e)
      (subst (λ (m : InsertionMode). BeforeBody raw m letters s) (sym f) h))

  -- by whether the body is open
  pub by_stage : {P : Type 0} (raw : Bool) (letters : List ℕ) (s : StateValue) → is_text_mode s.content ≡ raw
      → Staged letters s → (Late choice letters s → P) → (BeforeBody raw s.mode letters s → P) → P
  by_stage raw letters s e (inl h) late early = late h
  by_stage raw letters s e (inr h) late early = early (subst (λ (b : Bool). BeforeBody b s.mode letters s) e h)

  -- what is open indeed
  pub real : (raw : Bool) (mode : InsertionMode) (letters : List ℕ) (s : StateValue)
      → BeforeBody raw mode letters s → Early choice letters s
  real raw mode letters s h =
      (early_fewer s.stack (opens_fewer mode choice.reopens raw s.head s.stack) h.early.0, h.early.1)

-- it isn't in an element of only text
abbrev pub Calm : StateValue → Type 0
Calm s = is_text_mode s.content ≡ false

-- such a mode, or one in the body or after it
pub stage_mode : {choice : Choice} (raw : Bool) (letters : List ℕ) (s : StateValue)
    → Stage choice raw s.mode letters s → (is_late s.mode || is_early s.mode) ≡ true
stage_mode raw letters s (inl h) = rw h.rooted.late refl
stage_mode raw letters s (inr h) = test (is_late s.mode) (λ t. rw t refl) (λ t. rw (t, h.early_mode) refl)
