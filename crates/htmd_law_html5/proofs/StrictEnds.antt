-- What the end tag of a plain element does, where that element is the current node.
use Rattle.std.proofs.Common.{◌≡◌, ℕ, true, false, not, List, [], ◌∷◌, Option, Some, refl, sym, ap, ◌∙◌, inl, inr}
use Rattle.std.proofs.Common.{subst, codes}
use Rattle.std.proofs.lemmas.Bool.{eq-eqb}
use Rattle.htmd_lexical.proofs.Cases.{test}
use Rattle.htmd_lexical.specs.AttributePairs.{AttributePair}
use Rattle.htmd_lexical.proofs.BytesLemmas.{bytes_same}
use Rattle.htmd_html5_tokens.specs.Tokens.{end_tag}
use Rattle.htmd_html5_state.specs.Names.{NameValue, known, other, html, name_of_text, spelling}
use Rattle.htmd_html5_state.specs.Nodes.{kind_at, element}
use Rattle.htmd_html5_state.specs.OpenElements.{OpenValue, is_in_scope, close, close_name, pop, pop_until}
use Rattle.htmd_html5_state.specs.Insertion.{opened}
use Rattle.htmd_html5_state.specs.Formatting.{is_listed}
use Rattle.htmd_html5_state.specs.Adoption.{formatting_element, closes_at_once, round_of, round_with, last_round}
use Rattle.htmd_html5_state.specs.Adoption.{go_on}
use Rattle.htmd_html5_state.specs.Adoption.{rounds, adoption_agency}
use Rattle.htmd_html5_state.specs.State.{StateValue, on_stack}
use Rattle.htmd_html5_state.specs.declared.names.TagName.{TagName}
use Rattle.htmd_html5_state.specs.declared.sets.NameSet.TheVariants.{Only, Headings}
use Rattle.htmd_html5_state.specs.declared.sets.Scope.TheVariants.{Default, Button, ListItem}
use Rattle.htmd_html5.specs.Outcomes.{done}
use Rattle.htmd_html5.specs.BodyEnds.{text_end_rule, end_by, end_in_body, end_paragraph}
use Rattle.htmd_html5.specs.Feeding.{feed, feed_end_tag}
use Rattle.htmd_html5.specs.Modes.{in_mode}
use Rattle.htmd_law_html5.specs.StrictTokens.{tag_named}
use Rattle.htmd_law_html5.proofs.StrictOpen.{Fewer, listed_in, entries, Below, new_unlisted}
use Rattle.htmd_law_html5.proofs.StrictNames.{same_itself, PlainCase, is_formatting_case, unknown, ordinary}
use Rattle.htmd_law_html5.proofs.StrictNames.{formatting, anchor, paragraph, block, heading, list_item, part}
use Rattle.htmd_law_html5.proofs.StrictNames.{no_break}
use Rattle.htmd_law_html5.proofs.StrictNames.{button}
use Rattle.htmd_law_html5.proofs.StrictRules.{InContext, unskipped, no_raw, goes, processed, by_flow}
use Rattle.htmd_law_html5.proofs.StrictModes.{IsFlow, flows, ends_in_cell, ends_in_caption}
use Rattle.htmd_html5_state.specs.declared.names.TagName.TheVariants as tags
use Rattle.htmd_html5.specs.Tokens as construction

-- ---- the adoption agency, where the formatting element is the current node

module _ (tag : TagName) (b : ℕ) (es : List OpenValue) (list : List (Option ℕ)) (s : StateValue) where
  abbrev here : StateValue
  here = record s { stack = opened b (html (known tag)) ∷ es; formatting = Some b ∷ list }

  abbrev gone : StateValue
  gone = record s { stack = es; formatting = list }

  not_at_once : closes_at_once tag here ≡ false
  not_at_once = rw (bytes_same (spelling tag)) (rw (eq-eqb b b refl) refl)

  found : (attributes : List AttributePair) → kind_at s.nodes b ≡ element (html (known tag)) attributes
      → formatting_element tag here ≡ Some b
  found attributes k = rw k (rw (bytes_same (spelling tag)) refl)

  one_round : round_with tag b here ≡ last_round gone
  one_round = rw (eq-eqb b b refl) (rw (eq-eqb b b refl) refl)

  pub adopted : (attributes : List AttributePair) → kind_at s.nodes b ≡ element (html (known tag)) attributes
      → adoption_agency tag here ≡ gone
  adopted attributes k =
      rw not_at_once
      (ap (λ o. go_on (rounds 7 tag) (round_of tag o here)) (found attributes k) ∙ ap (go_on (rounds 7 tag))
      one_round)

closed_at_once : (tag : TagName) (b : ℕ) (es : List OpenValue) (s : StateValue)
    → s.stack ≡ opened b (html (known tag)) ∷ es → is_listed b s.formatting ≡ false
    → adoption_agency tag s ≡ record s { stack = es }
closed_at_once tag b es s k e =
    let at : closes_at_once tag s ≡ true = rw k (rw (bytes_same (spelling tag), e) refl) in
    rw at (ap (λ (stack : List OpenValue). record s { stack = pop stack }) k)

pub agency : (tag : TagName) (b : ℕ) (es : List OpenValue) (s : StateValue) (attributes : List AttributePair)
    (before : List (Option ℕ)) → s.stack ≡ opened b (html (known tag)) ∷ es
    → kind_at s.nodes b ≡ element (html (known tag)) attributes → Below b es → Fewer s.formatting
    (Some b ∷ before) → Fewer before (entries es) → (list : List (Option ℕ)) × Fewer list before
    × (adoption_agency tag s ≡ record s { stack = es; formatting = list })
agency tag b es s attributes before k kind below fewer open_ =
    test (is_listed b s.formatting) (λ t. listed t fewer) (λ t. unlisted t fewer)
  where
    listed : is_listed b s.formatting ≡ true → Fewer s.formatting (Some b ∷ before)
        → (list : List (Option ℕ)) × Fewer list before
        × (adoption_agency tag s ≡ record s { stack = es; formatting = list })
    listed t (inl f) =
        absurd (let m = listed_in b before (entries es) open_ (listed_in b s.formatting before f t) in
        let q : true ≡ false = sym m ∙ new_unlisted b es below in cc)
    listed t (inr f) = (
      f.0,
      f.2,
      ap (λ (stack : List OpenValue). adoption_agency tag (record s { stack = stack })) k
          ∙ ap (λ (list : List (Option ℕ)). adoption_agency tag
          (record s { stack = opened b (html (known tag)) ∷ es; formatting = list })) f.1
          ∙ adopted tag b es f.0 s attributes kind,
    )

    unlisted : is_listed b s.formatting ≡ false → Fewer s.formatting (Some b ∷ before)
        → (list : List (Option ℕ)) × Fewer list before
        × (adoption_agency tag s ≡ record s { stack = es; formatting = list })
    unlisted t (inl f) = (s.formatting, f, closed_at_once tag b es s k t)
    unlisted t (inr f) =
        absurd (let q : is_listed b (Some b ∷ f.0) ≡ false = subst (λ x. is_listed b x ≡ false) f.1 t in
        let w = rw (eq-eqb b b refl) at q in cc)

-- ---- end tags

module _ (p : List ℕ) (c : List (List ℕ)) (s : StateValue) (h : InContext (p ∷ c) s) where
  by_name : (name : NameValue) (n : ℕ) (es : List OpenValue) → s.stack ≡ opened n (html name) ∷ es
      → close_name name s.stack ≡ pop s.stack
  by_name name n es k = rw k (rw (same_itself name) refl)

  by_block : (tag : TagName) (n : ℕ) (es : List OpenValue) → s.stack ≡ opened n (html (known tag)) ∷ es
      → close (Only tag) Default s.stack ≡ pop s.stack
  by_block tag n es k = rw k (rw (bytes_same (spelling tag)) refl)

  by_paragraph : (n : ℕ) (es : List OpenValue) → s.stack ≡ opened n (html (known tags.P)) ∷ es
      → end_paragraph s ≡ on_stack pop s
  by_paragraph n es k =
      let scope : is_in_scope (Only tags.P) Button s.stack ≡ true = rw k refl in
      let closes : pop_until (Only tags.P) s.stack ≡ pop s.stack = rw k refl in
      rw scope (ap (λ (stack : List OpenValue). record s { stack = stack }) closes)

  pub fed_end : (n : List ℕ) (new : StateValue)
      → in_mode s.mode (construction.end_tag (name_of_text n)) s ≡ done new
      → feed (end_tag (tag_named n [] false)) s ≡ new
  fed_end n new e =
      let token : construction.TokenValue = construction.end_tag (name_of_text n) in
      ap (feed_end_tag (name_of_text n)) (unskipped p c s h)
      ∙ rw (no_raw p c s h) (processed p c s h token new (ap not (goes p c s h token)) e)

  -- with what is done with it in the body
  ended : (n : List ℕ) (new : StateValue) → IsFlow s.mode → flows n ≡ true
      → end_in_body (name_of_text n) s ≡ done new → feed (end_tag (tag_named n [] false)) s ≡ new
  ended n new w f e =
      fed_end n new (by_flow p c s h (construction.end_tag (name_of_text n)) w e (ends_in_cell n f s ∙ e)
      (ends_in_caption n f s ∙ e))

  plain_ended : (n : List ℕ) (k : PlainCase n) → is_formatting_case k ≡ false → (node : ℕ)
      (es : List OpenValue) → s.stack ≡ opened node (html (name_of_text n)) ∷ es
      → end_in_body (name_of_text n) s ≡ done (on_stack pop s)
  unfolding text_end_rule
  plain_ended n (unknown t q) e node es k =
      rw q (ap (λ stack. done (record s { stack = stack })) (by_name (other t) node es (rw q at k)))
  plain_ended n (ordinary x) e node es k =
      rw x.1 (ap (λ r. end_by r x.0 s) x.3
      ∙ ap (λ stack. done (record s { stack = stack })) (by_name (known x.0) node es (rw x.1 at k)))
  plain_ended n (button x) e node es k =
      rw x (ap (λ stack. done (record s { stack = stack })) (by_block tags.Button node es (rw x at k)))
  plain_ended n (paragraph x) e node es k = rw x (ap done (by_paragraph node es (rw x at k)))
  plain_ended n (block x) e node es k =
      rw (x.0).1 (ap (λ r. end_by r (x.0).0 s) (x.0).3
      ∙ ap (λ stack. done (record s { stack = stack })) (by_block (x.0).0 node es (rw (x.0).1 at k)))
  plain_ended n (heading x) e node es k =
      let closes : close Headings Default s.stack ≡ pop s.stack = rw k (rw x.3 refl) in
      rw (x.0).1 (ap (λ r. end_by r (x.0).0 s) (x.0).3 ∙ ap (λ stack. done (record s { stack = stack })) closes)
  plain_ended n (list_item x) e node es k =
      let closes : close (Only tags.Li) ListItem s.stack ≡ pop s.stack = rw (rw x at k) refl in
      rw x (ap (λ stack. done (record s { stack = stack })) closes)
  plain_ended n (part x) e node es k =
      rw (x.0).1 (ap (λ r. end_by r (x.0).0 s) (x.0).3
      ∙ ap (λ stack. done (record s { stack = stack })) (by_block (x.0).0 node es (rw (x.0).1 at k)))
  plain_ended n _ e node es k = absurd (cc)

  pub plain_end : IsFlow s.mode → (n : List ℕ) → flows n ≡ true → (k : PlainCase n)
      → is_formatting_case k ≡ false → (node : ℕ)
      (es : List OpenValue) → s.stack ≡ opened node (html (name_of_text n)) ∷ es
      → feed (end_tag (tag_named n [] false)) s ≡ record s { stack = es }
  plain_end w n f k e node es q =
      ended n (on_stack pop s) w f (plain_ended n k e node es q)
      ∙ ap (λ (stack : List OpenValue). record s { stack = pop stack }) q

  pub pre_end : IsFlow s.mode → (node : ℕ) (es : List OpenValue)
      → s.stack ≡ opened node (html (name_of_text (codes "pre"))) ∷
      es → feed (end_tag (tag_named (codes "pre") [] false)) s ≡ record s { stack = es }
  unfolding text_end_rule
  pre_end w node es q =
      ended (codes "pre") (on_stack pop s) w refl
      (ap (λ stack. done (record s { stack = stack })) (by_block tags.Pre node es q))
      ∙ ap (λ (stack : List OpenValue). record s { stack = pop stack }) q

  pub formatting_end : IsFlow s.mode → (n : List ℕ) → flows n ≡ true → (k : PlainCase n)
      → is_formatting_case k ≡ true → (b : ℕ)
      (es : List OpenValue) (attributes : List AttributePair) (before : List (Option ℕ))
      → s.stack ≡ opened b (html (name_of_text n)) ∷ es
      → kind_at s.nodes b ≡ element (html (name_of_text n)) attributes → Below b es
      → Fewer s.formatting (Some b ∷ before) → Fewer before (entries es)
      → (list : List (Option ℕ)) × Fewer list before
      × (feed (end_tag (tag_named n [] false)) s ≡ record s { stack = es; formatting = list })
  unfolding text_end_rule
  formatting_end w n f (formatting x) e b es attributes before k kind below fewer open_ =
      let a = agency x.0 b es s attributes before (rw x.1 at k) (rw x.1 at kind) below fewer open_ in (
        a.0,
        a.1,
        ended n _ w f (rw x.1 (ap (λ r. end_by r x.0 s) x.3 ∙ ap done a.2)),
      )
  formatting_end w n f (anchor x) e b es attributes before k kind below fewer open_ =
      let a = agency tags.A b es s attributes before (rw x at k) (rw x at kind) below fewer open_ in
      (a.0, a.1, ended n _ w f (rw x (ap done a.2)))
  formatting_end w n f (no_break x) e b es attributes before k kind below fewer open_ =
      let a = agency tags.NoBr b es s attributes before (rw x at k) (rw x at kind) below fewer open_ in
      (a.0, a.1, ended n _ w f (rw x (ap done a.2)))
  formatting_end w n f _ e b es attributes before k kind below fewer open_ = absurd (cc)
