-- What the handlers of an element that the walk goes past would give.
use Rattle.std.proofs.Common.{◌≡◌, ℕ, List, [], ◌∷◌, ◌++◌, Option, Some, None, refl, sym, ap, ◌∙◌, Bool, true, false}
use Rattle.std.proofs.Common.{cond, ◌||◌, codes, not, subst, slice_get}
use Rattle.std.proofs.Common.{zero, suc, ◌<◌, length, map, get_or, arith}
use Rattle.std.specs.Borrow.{Bor}
use Rattle.std.specs.Option.{is_some, option_copied}
use Rattle.std.proofs.lemmas.List.{append-nil, append_assoc}
use Rattle.htmd_lexical.proofs.Cases.{test}
use Rattle.htmd_lexical.specs.AttributePairs.{AttributePair}
use Rattle.htmd_nodes.specs.Items.{Data, element_node, data_at}
use Rattle.std.proofs.lemmas.Slice.Eq.{bytes_eq-Decides}
use Rattle.htmd_nodes.specs.Ancestors.{Ancestor, ancestor_of}
use Rattle.htmd_walk.specs.Handling.{ElementView, raw_html, content_of_children, HandlerMeaning}
use Rattle.htmd_walk.specs.Choice.{Config, indexes, handler_at, handlers_at}
use Rattle.htmd_walk.specs.Markdown.{append_text, append_texts}
use Rattle.htmd_walk.proofs.ElementsLemmas.{drop_at_some, drop_at_none}
use Rattle.htmd_walk.specs.OrdinaryText.{in_pre_or_code}
use Rattle.htmd_walk.specs.Outputs.{Output, is_markdown_alone}
use Rattle.htmd_walk.specs.ElementPlans.{ancestors_of}
use Rattle.htmd_walk.specs.Elements.{Occurrence, Answer, content_of, first_answer, answer_after, plan_answer, answer_of}
use Rattle.htmd_walk.specs.Elements.{raw_answer}
use Rattle.htmd_walk.specs.Spans.{is_span, formula_mark, has_math_class, formula_plan, spans}
use Rattle.htmd_walk.specs.Passing.{IsPlain, IsPassed, passed_text}

-- in preformatted text a span's content is kept whole
abbrev pub is_whole : ElementView → Bool
is_whole view = in_pre_or_code (ancestors_of view)

abbrev pub passed_result : Bool → Bool → Output → Answer
passed_result is_span whole out = record {
  result = Some (record {
    content = passed_text is_span whole out.text;
    markdown_translated =
        out.markdown_translated;
  });
  definitions = out.definitions;
}

no_mark : (o : Option (List ℕ)) → is_some o ≡ false → o ≡ None
no_mark None e = refl
no_mark (Some s) e = cc

module _ (at : Occurrence) (name : List ℕ) (attributes : List AttributePair) (definitions : List (List ℕ)) where
  abbrev handlers : List HandlerMeaning
  handlers = handlers_at at.conversion.config.handlers (indexes name at.conversion.config.registered)

  abbrev out : Output
  out = content_of at definitions

  unhandled : handlers ≡ [] → is_markdown_alone at.conversion.config.options ≡ true
      → answer_after 0 name at definitions ≡ passed_result false (is_whole at.view) out
  unhandled e p =
      ap (λ hs. first_answer hs at definitions) e
      ∙ ap (λ b. cond b (answer_of (content_of at definitions)) (raw_answer at definitions)) p

  plain_span : handlers ≡ spans ∷ [] → has_math_class attributes ≡ false
      → data_at at.view.items at.view.node ≡ element_node name attributes
      → is_markdown_alone at.view.options ≡ true
      → answer_after 0 name at definitions ≡ passed_result true (is_whole at.view) out
  plain_span e m d p =
      let plan : spans.plan at.view ≡ content_of_children =
      ap (λ c. formula_plan at.view (formula_mark (ancestor_of c).attributes) at.view.text) d
      ∙ ap (λ o. formula_plan at.view o at.view.text) (no_mark (formula_mark attributes) m)
      ∙ ap (λ b. cond (b || false) content_of_children raw_html) p in
      let put : List (List ℕ) → Answer =
      λ ds. record { result = (passed_result true (is_whole at.view) out).result; definitions = ds } in
      ap (λ hs. first_answer hs at definitions) e
      ∙ ap (λ q. plan_answer spans at definitions q (first_answer [] at definitions)) plan
      ∙ ap put (append-nil out.definitions)

  by_span : (b : Bool) → IsPlain handlers b (has_math_class attributes)
      → data_at at.view.items at.view.node ≡ element_node name attributes
      → is_markdown_alone at.conversion.config.options ≡ true
      → is_markdown_alone at.view.options ≡ true
      → answer_after 0 name at definitions ≡ passed_result b (is_whole at.view) out
  by_span true h d p q = plain_span h.0 h.1 d q
  by_span false h d p q = unhandled h p

  pub passed_answer : IsPassed at.conversion.config (element_node name attributes)
      → data_at at.view.items at.view.node ≡ element_node name attributes
      → at.view.options ≡ at.conversion.config.options
      → passed_result (is_span name) (is_whole at.view) out
      ≡ answer_after 0 name at definitions
  passed_answer h d o = sym (by_span (is_span name) h.1 d h.0 (ap is_markdown_alone o ∙ h.0))

-- a span is neither pre nor code
pub span_tag : (tag : List ℕ) → is_span tag ≡ true → tag ≡ codes "span"
span_tag tag e = (bytes_eq-Decides tag (codes "span")).0 e

span-inside : (tag : List ℕ) (attributes : List AttributePair) (above : List Ancestor) → is_span tag ≡ true
    → in_pre_or_code (record { tag = tag; attributes = attributes } ∷ above) ≡ in_pre_or_code above
span-inside tag attributes above e = ap (λ t. in_pre_or_code (record { tag = t; attributes = attributes } ∷ above))
    (span_tag tag e)

-- so for its content it is the same whether it or only what is above it is asked
pub passed-inside : (tag : List ℕ) (attributes : List AttributePair) (above : List Ancestor) (s : List ℕ)
    → passed_text (is_span tag) (in_pre_or_code (record { tag = tag; attributes = attributes } ∷ above)) s
    ≡ passed_text (is_span tag) (in_pre_or_code above) s
passed-inside tag attributes above s =
    let inside = in_pre_or_code (record { tag = tag; attributes = attributes } ∷ above) in
    test (is_span tag)
    (λ is. ap (λ b. passed_text (is_span tag) b s) (span-inside tag attributes above is))
    (λ other. ap (λ b. passed_text b inside s) other
    ∙ sym (ap (λ b. passed_text b (in_pre_or_code above) s) other))

-- ---- how the walk finds it out

pub no_handlers : (config : Config) (name : List ℕ) → None ≡ slice_get (indexes name config.registered) 0
    → handlers_at config.handlers (indexes name config.registered) ≡ []
no_handlers config name h =
    ap (handlers_at config.handlers) (drop_at_none (indexes name config.registered) 0 h)

pub one_handler : (config : Config) (name : List ℕ) (index : ℕ) (handler : HandlerMeaning)
    → Some index ≡ slice_get (indexes name config.registered) 0
    → None ≡ slice_get (indexes name config.registered) 1
    → handler_at config.handlers index ≡ handler
    → handlers_at config.handlers (indexes name config.registered) ≡ handler ∷ []
one_handler config name index handler h k m =
    ap (handlers_at config.handlers) (drop_at_some (indexes name config.registered) 0 index h
    ∙ ap (λ x. index ∷ x) (drop_at_none (indexes name config.registered) 1 k))
    ∙ ap (λ x. x ∷ []) m

-- an element with these handlers
pub passed-plain : (config : Config) (name : List ℕ) (attributes : List AttributePair) (d : Data) (span : Bool)
    → d ≡ element_node name attributes → is_markdown_alone config.options ≡ true → is_span name ≡ span
    → IsPlain (handlers_at config.handlers (indexes name config.registered)) span (has_math_class attributes)
    → IsPassed config d
passed-plain config name attributes d span e p s plain =
    subst (IsPassed config) (sym e) (
      p,
      subst (λ b. IsPlain (handlers_at config.handlers (indexes name config.registered)) b
          (has_math_class attributes)) (sym s) plain,
    )

pub none_after : {A : Type 0} (o : Option A) → is_some o ≡ false → None ≡ o
none_after None e = refl
none_after (Some x) e = cc

-- the texts that handlers append, one handler more
pub append_texts-push : (hs : List HandlerMeaning) (h : HandlerMeaning) (ds : List (List ℕ))
    → append_texts (hs ++ h ∷ []) ds ≡ append_texts hs ds ++ append_text (h.append ds)
append_texts-push [] h ds = append-nil (append_text (h.append ds))
append_texts-push (x ∷ hs) h ds = ap (λ s. append_text (x.append ds) ++ s) (append_texts-push hs h ds)
    ∙ sym (append_assoc (append_text (x.append ds)) (append_texts hs ds) (append_text (h.append ds)))

pub not-false : {b : Bool} → not b ≡ false → b ≡ true
not-false {b = true} e = refl
not-false {b = false} e = cc

pub not-true : {b : Bool} → not b ≡ true → b ≡ false
not-true {b = true} e = cc
not-true {b = false} e = refl

pub no_value : {A : Type 0} (o : Option (Bor A)) → is_some o ≡ false → is_some (option_copied o) ≡ false
no_value None e = refl
no_value (Some x) e = cc

pub handler_at-map : {A : Type 0} (f : A → HandlerMeaning) (xs : List A) (i : ℕ) (x : A) → i < length (map f xs)
    → x ≡ get_or xs i x → handler_at (map f xs) i ≡ f x
handler_at-map f [] i x l e = absurd (omega arith)
handler_at-map f (y ∷ ys) zero x l e = ap f (sym e)
handler_at-map f (y ∷ ys) (suc i) x l e = handler_at-map f ys i x (omega arith) e
