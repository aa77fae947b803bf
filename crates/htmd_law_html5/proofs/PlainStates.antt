-- States in which no text is dropped, and steps that stay among them.
use Rattle.std.proofs.Common.{◌≡◌, ◌∙◌, ℕ, Bool, true, false, List, [], ◌∷◌, ◌++◌, length, get_or, Option, Some, None}
use Rattle.std.proofs.Common.{refl, sym, ap, subst, ◌⊎◌}
use Rattle.std.specs.Prelude.{if◌then◌else◌, is_some, unwrap_or}
use Rattle.std.proofs.lemmas.Bool.{true≢false, cond_both}
use Rattle.htmd_lexical.proofs.Cases.{test}
use Rattle.htmd_lexical.specs.AttributePairs.{AttributePair}
use Rattle.htmd_lexical.specs.declared.content_model.RawElement.{RawElement}
use Rattle.htmd_html5_state.specs.Names.{NameValue, ElementNameValue, known, html}
use Rattle.htmd_html5_state.specs.Nodes.{KindValue, NodeValue, document, doctype, comment, element, kind_at}
use Rattle.htmd_html5_state.specs.Nodes.{last_in, add, add_missing}
use Rattle.htmd_html5_state.specs.OpenElements.{OpenValue, pop, is_in_scope}
use Rattle.htmd_html5_state.specs.State.{StateValue, on_nodes, on_stack, on_formatting}
use Rattle.htmd_html5_state.specs.Foreign.{foreign_name, foreign_attributes, pop_if, insert_foreign}
use Rattle.htmd_html5_state.specs.Insertion.{opened, current, place, insert_at, insert_named, insert_element}
use Rattle.htmd_html5_state.specs.Insertion.{insert_root, insert_void, insert_raw, insert_comment_in, insert_comment}
use Rattle.htmd_html5_state.specs.Insertion.{insert_doctype}
use Rattle.htmd_html5_state.specs.Formatting.{is_listed, push_marker, clear_to_marker, without_entry, insert_formatting}
use Rattle.htmd_html5_state.specs.Formatting.{after_closed, insert_like, reconstruct}
use Rattle.htmd_html5_state.specs.Resetting.{unless_outermost, mode_for, mode_for_name, mode_of}
use Rattle.htmd_html5_state.specs.Resetting.{reset_insertion_mode}
use Rattle.htmd_html5_state.specs.declared.modes.InsertionMode.{InsertionMode}
use Rattle.htmd_html5_state.specs.declared.modes.InsertionMode.TheVariants.{InColumnGroup, InTemplate, InFrameset}
use Rattle.htmd_html5_state.specs.declared.modes.InsertionMode.TheVariants.{AfterFrameset, AfterAfterFrameset}
use Rattle.htmd_html5_state.specs.declared.names.TagName.{TagName}
use Rattle.htmd_html5_state.specs.declared.names.Namespace.{Namespace}
use Rattle.htmd_html5_state.specs.declared.sets.NameSet.TheVariants.{Only}
use Rattle.htmd_html5_state.specs.declared.sets.Scope.TheVariants.{Template as TemplateScope}
use Rattle.htmd_law_html5.proofs.NodeTexts.{kinds, kinds_add, kind_read}
use Rattle.htmd_law_html5.proofs.NamedKinds.{grows_new, grows_added, named_added, grows_missing}
use Rattle.htmd_law_html5.proofs.KeepingInsertion.{listed_without, listed_after_marker, listed_closed, listed_first}
use Rattle.htmd_law_html5.proofs.KeepingInsertion.{listed_pushed, one_or_listed, reconstructed}
use Rattle.htmd_law_html5.proofs.PlainNames.{is_plain, is_plain_name, is_plain_element, is_plain_kind}
use Rattle.htmd_law_html5.proofs.PlainNames.{foreign_is_plain, is_plain_open, PlainStack}
use Rattle.htmd_law_html5.proofs.OpenNodes.{Fewer, pop_fewer, pop_if_fewer}
use Rattle.htmd_law_html5.proofs.HungStates.{Hung, hung_fewer, hung_named, hung_under_root, hung_last, hung_missing}
use Rattle.htmd_html5_state.specs.declared.names.TagName.TheVariants as tags

-- ---- states

-- text isn't dropped, whatever is open; nor is a template open
abbrev pub is_plain_mode : InsertionMode → Bool
is_plain_mode InColumnGroup = false
is_plain_mode InTemplate = false
is_plain_mode InFrameset = false
is_plain_mode AfterFrameset = false
is_plain_mode AfterAfterFrameset = false
is_plain_mode _ = true

-- a node of these is an element with a plain name
abbrev pub PlainAt : List KindValue → ℕ → Type 0
PlainAt ks n = is_plain_kind (get_or ks n document) ≡ true

-- what is open and what may be opened again has plain names, and so the mode stays plain
pub record PlainIn (ks : List KindValue) (entries : List (Option ℕ)) (stack : List OpenValue) (mode : InsertionMode)
    (template_modes : List InsertionMode)
    : Type 0 where
  pub names : PlainStack stack
  pub entries_at : (n : ℕ) → is_listed n entries ≡ true → PlainAt ks n
  pub plain_mode : is_plain_mode mode ≡ true
  pub no_modes : template_modes ≡ []

abbrev pub Plain : StateValue → Type 0
Plain s = PlainIn (kinds s.nodes) s.formatting s.stack s.mode s.template_modes

-- a step that leaves a plain state plain, and what hangs under the Document under it
pub record Stays (f : StateValue → StateValue) : Type 0 where
  pub stays : (s : StateValue) → Plain s → Plain (f s)
  pub hangs : (s : StateValue) → Plain s → Hung s → Hung (f s)

-- ---- steps put together

pub then_stays : {f g : StateValue → StateValue} → Stays f → Stays g → Stays (λ s. f (g s))
then_stays {f} {g} first second = record {
  stays = λ s h. first.stays (g s) (second.stays s h);
  hangs = λ s h x. first.hangs (g s) (second.stays s h) (second.hangs s h x);
}

pub still : Stays (λ s. s)
still = record { stays = λ s h. h; hangs = λ s h x. x }

pub stays_by_test : {f g : StateValue → StateValue} (b : StateValue → Bool) → Stays f → Stays g
    → Stays (λ s. if b s then f s else g s)
stays_by_test b first second = record {
  stays = λ s h. cond_both (b s) _ _ Plain (λ t. first.stays s h) (λ t. second.stays s h);
  hangs = λ s h x. cond_both (b s) _ _ Hung (λ t. first.hangs s h x) (λ t. second.hangs s h x);
}

pub stays_by_state : {A : Type 0} {f : A → StateValue → StateValue} (a : StateValue → A)
    → ((x : A) → Stays (f x)) → Stays (λ s. f (a s) s)
stays_by_state a h =
    record { stays = λ s plain. (h (a s)).stays s plain; hangs = λ s plain x. (h (a s)).hangs s plain x }

-- ---- parts of a state changed

module _ {ks : List KindValue} {entries : List (Option ℕ)} {stack : List OpenValue} {mode : InsertionMode}
    {modes : List InsertionMode} where
  pub plain_kinds : {new : List KindValue} → new ≡ ks → PlainIn ks entries stack mode modes
      → PlainIn new entries stack mode modes
  plain_kinds e h = subst (λ (x : List KindValue). PlainIn x entries stack mode modes) (sym e) h

  pub plain_grown : {new : List KindValue} → ((n : ℕ) → PlainAt ks n → PlainAt new n)
      → PlainIn ks entries stack mode modes → PlainIn new entries stack mode modes
  plain_grown f h = record {
    names = h.names;
    entries_at = λ n l. f n (h.entries_at n l);
    plain_mode = h.plain_mode;
    no_modes = h.no_modes;
  }

  pub plain_stack : (es : List OpenValue) → PlainStack es → PlainIn ks entries stack mode modes
      → PlainIn ks entries es mode modes
  plain_stack es names h =
      record { names = names; entries_at = h.entries_at; plain_mode = h.plain_mode; no_modes = h.no_modes }

  pub plain_entries : {later : List (Option ℕ)} → ((n : ℕ) → is_listed n later ≡ true → PlainAt ks n)
      → PlainIn ks entries stack mode modes → PlainIn ks later stack mode modes
  plain_entries f h = record { names = h.names; entries_at = f; plain_mode = h.plain_mode; no_modes = h.no_modes }

  pub in_plain_mode : (new : InsertionMode) → is_plain_mode new ≡ true → PlainIn ks entries stack mode modes
      → PlainIn ks entries stack new modes
  in_plain_mode new p h = record { names = h.names; entries_at = h.entries_at; plain_mode = p; no_modes = h.no_modes }

pub on_stack_stays : (f : List OpenValue → List OpenValue) → ((stack : List OpenValue) → Fewer (f stack) stack)
    → Stays (on_stack f)
on_stack_stays f fewer = record {
  stays = λ s h. plain_stack (f s.stack) ((fewer s.stack).each is_plain_open h.names) h;
  hangs = λ s h x. hung_fewer (f s.stack) (fewer s.stack) x;
}

-- ---- one more node

pub plain_added : (nodes : List NodeValue) (k : KindValue) {new : List KindValue} → new ≡ kinds nodes ++ k ∷ []
    → is_plain_kind k ≡ true → PlainAt new (length nodes)
plain_added nodes k e p = named_added is_plain_element nodes k e p

pub added_grows : (k : KindValue) (at : _) (nodes : List NodeValue) (m : ℕ) → PlainAt (kinds nodes) m
    → PlainAt (kinds (add k at nodes)) m
added_grows k at nodes m p = (grows_added k at nodes).names is_plain_element m p

pub plain_new : {ks new : List KindValue} {entries : List (Option ℕ)} {stack : List OpenValue}
    {mode : InsertionMode} {modes : List InsertionMode} (k : KindValue) → new ≡ ks ++ k ∷ []
    → PlainIn ks entries stack mode modes → PlainIn new entries stack mode modes
plain_new k e h = plain_grown ((grows_new k e).names is_plain_element) h

-- ---- what is inserted

insert_at_plain : (at : StateValue → _) (name : ElementNameValue) (attributes : List AttributePair) (s : StateValue)
    → is_plain_element name ≡ true → Plain s → Plain (insert_at (at s) name attributes s)
insert_at_plain at name attributes s p h =
    plain_stack (opened (length s.nodes) name ∷ s.stack) (p, h.names)
    (plain_new (element name attributes) (kinds_add (element name attributes) (at s) s.nodes) h)

pub insert_named_stays : (name : ElementNameValue) (attributes : List AttributePair) → is_plain_element name ≡ true
    → Stays (insert_named name attributes)
insert_named_stays name attributes p = record {
  stays = λ s h. insert_at_plain place name attributes s p h;
  hangs = λ s h x. hung_named name attributes s x;
}

pub insert_element_stays : (name : NameValue) (attributes : List AttributePair) → is_plain_name name ≡ true
    → Stays (insert_element name attributes)
insert_element_stays name attributes p = insert_named_stays (html name) attributes p

pub insert_root_stays : (name : NameValue) (attributes : List AttributePair) → is_plain_name name ≡ true
    → Stays (insert_root name attributes)
insert_root_stays name attributes p = record {
  stays = λ s h. insert_at_plain (λ s. last_in 0) (html name) attributes s p h;
  hangs = λ s h x. hung_under_root (html name) attributes s.nodes x;
}

pub insert_void_stays : (name : NameValue) (attributes : List AttributePair) → is_plain_name name ≡ true
    → Stays (insert_void name attributes)
insert_void_stays name attributes p = then_stays (on_stack_stays pop pop_fewer) (insert_element_stays name attributes p)

pub insert_raw_stays : (name : NameValue) (raw : RawElement) (attributes : List AttributePair)
    → is_plain_name name ≡ true → Stays (insert_raw name raw attributes)
insert_raw_stays name raw attributes p = record {
  stays = λ s h. (insert_element_stays name attributes p).stays s h;
  hangs = λ s h x. (insert_element_stays name attributes p).hangs s h x;
}

pub insert_foreign_stays : (space : Namespace) (name : List ℕ) (attributes : List AttributePair) (closes : Bool)
    → Stays (insert_foreign space name attributes closes)
insert_foreign_stays space name attributes closes =
    then_stays (on_stack_stays (pop_if closes) (pop_if_fewer closes))
    (insert_named_stays (foreign_name space name) (foreign_attributes space attributes) (foreign_is_plain space name))

pub insert_comment_in_stays : (parent : ℕ) (s : List ℕ) → Stays (insert_comment_in parent s)
insert_comment_in_stays parent c = record {
  stays = λ s h. plain_new (comment c) (kinds_add (comment c) (last_in parent) s.nodes) h;
  hangs = λ s h x. hung_last (comment c) parent s.nodes refl x;
}

pub insert_comment_stays : (s : List ℕ) → Stays (insert_comment s)
insert_comment_stays c = stays_by_state (λ s. (current s.stack).node) (λ n. insert_comment_in_stays n c)

pub insert_doctype_stays : Stays insert_doctype
insert_doctype_stays = record {
  stays = λ s h. plain_new doctype (kinds_add doctype (last_in 0) s.nodes) h;
  hangs = λ s h x. hung_last doctype 0 s.nodes refl x;
}

-- ---- attributes that an element lacks

pub missing_grows : (n : ℕ) (more : List AttributePair) (nodes : List NodeValue) (m : ℕ) → PlainAt (kinds nodes) m
    → PlainAt (kinds (add_missing n more nodes)) m
missing_grows n more nodes m p = (grows_missing n more nodes).names is_plain_element m p

pub add_missing_stays : (n : ℕ) (more : List AttributePair) → Stays (on_nodes (add_missing n more))
add_missing_stays n more = record {
  stays = λ s h. plain_grown (missing_grows n more s.nodes) h;
  hangs = λ s h x. hung_missing n more s.nodes x;
}

-- ---- the list of active formatting elements

pub without_entry_stays : (n : ℕ) → Stays (on_formatting (without_entry n))
without_entry_stays n = record {
  stays = λ s h. plain_entries (λ m l. h.entries_at m (listed_without m n s.formatting l)) h;
  hangs = λ s h x. x;
}

pub push_marker_stays : Stays push_marker
push_marker_stays = record { stays = λ s h. plain_entries (λ n l. h.entries_at n l) h; hangs = λ s h x. x }

pub clear_to_marker_stays : Stays clear_to_marker
clear_to_marker_stays = record {
  stays = λ s h. plain_entries (λ n l. h.entries_at n (listed_after_marker n s.formatting l)) h;
  hangs = λ s h x. x;
}

-- what is listed then is one new element, or was listed before
pub plain_listed : {ks : List KindValue} {entries later : List (Option ℕ)} {stack : List OpenValue}
    {mode : InsertionMode} {modes : List InsertionMode} (m : ℕ) → PlainAt ks m
    → ((n : ℕ) → is_listed n later ≡ true → (n ≡ m) ⊎ (is_listed n entries ≡ true))
    → PlainIn ks entries stack mode modes → PlainIn ks later stack mode modes
plain_listed {ks} m p f h = plain_entries (λ n l. one_or_listed (PlainAt ks) m n p (h.entries_at n) (f n l)) h

pub insert_formatting_stays : (name : NameValue) (attributes : List AttributePair) → is_plain_name name ≡ true
    → Stays (insert_formatting name attributes)
insert_formatting_stays name attributes p = record {
  stays = λ s h. plain_listed (length s.nodes) (plain_added s.nodes (element (html name) attributes)
      (kinds_add (element (html name) attributes) (place s) s.nodes) p)
      (λ n l. listed_pushed n (length s.nodes) (insert_element name attributes s).nodes s.formatting l)
      ((insert_element_stays name attributes p).stays s h);
  hangs = λ s h x. (insert_element_stays name attributes p).hangs s h x;
}

-- ---- elements are reconstructed

-- a step that leaves the state plain, and elements with plain names as they are
pub record Grown (s new : StateValue) : Type 0 where
  pub plain : Plain new
  pub grows : (n : ℕ) → PlainAt (kinds s.nodes) n → PlainAt (kinds new.nodes) n

-- a step of these that leaves what hangs under the Document under it
pub record GrownHung (s new : StateValue) : Type 0 where
  pub grown : Grown s new
  pub hung : Hung s → Hung new

pub grown_then : {s t new : StateValue} → Grown s t → Grown t new → Grown s new
grown_then a b = record { plain = b.plain; grows = λ n p. b.grows n (a.grows n p) }

like_grown : (s : StateValue) (k : KindValue) → is_plain_kind k ≡ true → Plain s
    → GrownHung s (on_formatting (λ entries. Some (length s.nodes) ∷ entries) (insert_like k s))
like_grown s (element name attributes) p h = record {
  grown = record {
    plain = plain_listed (length s.nodes)
        (plain_added s.nodes (element name attributes) (kinds_add (element name attributes) (place s) s.nodes) p)
        (λ n l. listed_first n (length s.nodes) s.formatting l) ((insert_named_stays name attributes p).stays s h);
    grows = added_grows (element name attributes) (place s) s.nodes;
  };
  hung = λ x. hung_named name attributes s x;
}
like_grown s _ p h = absurd (true≢false (sym p))

all_reopened : (s : StateValue) → Plain s → GrownHung (on_formatting (after_closed s.stack) s) (reconstruct s)
all_reopened s h =
    reconstructed (PlainAt (kinds s.nodes)) (GrownHung (on_formatting (after_closed s.stack) s)) s h.entries_at
    (record {
      grown = record {
        plain = plain_entries (λ n l. h.entries_at n (listed_closed n s.stack s.formatting l)) h;
        grows = λ n p. p;
      };
      hung = λ x. x;
    })
    (λ n t p before. let last = like_grown t (kind_at t.nodes n)
    (ap is_plain_kind (kind_read t.nodes n) ∙ before.grown.grows n p) before.grown.plain in
    record { grown = grown_then before.grown last.grown; hung = λ x. last.hung (before.hung x) })

pub reconstruct_stays : Stays reconstruct
reconstruct_stays =
    record { stays = λ s h. (all_reopened s h).grown.plain; hangs = λ s h x. (all_reopened s h).hung x }

-- ---- the mode is reset

-- the mode is plain, if there is one
abbrev is_plain_or_none : Option InsertionMode → Bool
is_plain_or_none None = true
is_plain_or_none (Some mode) = is_plain_mode mode

unless_plain : (mode : InsertionMode) (outer : List OpenValue) → is_plain_mode mode ≡ true
    → is_plain_or_none (unless_outermost mode outer) ≡ true
unless_plain mode [] p = refl
unless_plain mode (e ∷ es) p = p

tag_plain : (tag : TagName) (outer : List OpenValue) (s : StateValue) → is_plain tag ≡ true
    → is_plain_or_none (mode_for tag outer s) ≡ true
tag_plain tags.Select outer s p =
    test (is_in_scope (Only tags.Table) TemplateScope outer) (λ t. rw t refl) (λ t. rw t refl)
tag_plain tags.Td outer s p = unless_plain _ outer refl
tag_plain tags.Th outer s p = unless_plain _ outer refl
tag_plain tags.Head outer s p = unless_plain _ outer refl
tag_plain tags.Html outer s p = test (is_some s.head) (λ t. rw t refl) (λ t. rw t refl)
tag_plain _ outer s p = cc

name_plain : (name : ElementNameValue) (outer : List OpenValue) (s : StateValue) → is_plain_element name ≡ true
    → is_plain_or_none (mode_for_name name outer s) ≡ true
name_plain (html (known tag)) outer s p = tag_plain tag outer s p
name_plain _ outer s p = refl

mode_plain : (stack : List OpenValue) (s : StateValue) → PlainStack stack → is_plain_mode (mode_of stack s) ≡ true
mode_plain [] s h = refl
mode_plain (e ∷ es) s h =
    or_else (mode_for_name e.name es s) (name_plain e.name es s h.0) (mode_plain es s h.1)
  where
    or_else : (mode : Option InsertionMode) → is_plain_or_none mode ≡ true → is_plain_mode (mode_of es s) ≡ true
        → is_plain_mode (unwrap_or mode (mode_of es s)) ≡ true
    or_else None p q = q
    or_else (Some mode) p q = p

pub reset_insertion_mode_stays : Stays reset_insertion_mode
reset_insertion_mode_stays =
    record { stays = λ s h. in_plain_mode (mode_of s.stack s) (mode_plain s.stack s h.names) h; hangs = λ s h x. x }
