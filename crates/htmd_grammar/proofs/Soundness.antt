-- What the steps read, the grammar relates: what has been read is a front at each state.
use Rattle.std.proofs.Common.{Bool, List, None, Ok, Option, Some, [], ap, append_assoc, arith, codes, cond, drop, false}
use Rattle.std.proofs.Common.{inl, inr, length, map, not, refl, subst, suc, sym, true, ℕ, ◌&&◌, ◌++◌, ◌||◌, ◌∙◌, ◌∷◌}
use Rattle.std.proofs.Common.{◌≡◌, ◌≢◌, ◌≤◌}
use Rattle.std.proofs.lemmas.Bool.Decides.{nat_tests}
use Rattle.std.proofs.lemmas.List.{append-nil}
use Rattle.std.specs.Char.{to_ascii_lowercase}
use Rattle.std.specs.List.{list_all, list_any}
use Rattle.std.specs.Prelude.{⊤, ◌==◌}
use Rattle.std.specs.Str.{bytes_eq}
use Rattle.std.proofs.lemmas.Bool.{not-true, and_parts, eqb-true}
use Rattle.std.proofs.Math.Bool.{or-true, or-false}
use Rattle.htmd_lexical.specs.WhiteSpace.{is_ascii_white_space}
use Rattle.htmd_lexical.proofs.Cases.{test}
use Rattle.htmd_lexical.specs.CharacterClasses.{are_distinct, begins_with, behind_run, first_is, is_among, is_empty}
use Rattle.htmd_lexical.specs.CharacterClasses.{is_tag_name, is_tag_name_byte, leading_run, onward, up_to}
use Rattle.htmd_grammar.specs.Comments.{before_comment_end, is_comment_text}
use Rattle.htmd_lexical.specs.LineEnds.{normalized}
use Rattle.htmd_grammar.specs.Faults.{top_children}
use Rattle.htmd_grammar.specs.Fronts.{IsFront, IsKept, content_so_far}
use Rattle.htmd_grammar.specs.Grammar.{ReadsForest, ReadsTree, begins_with_row, may_end_rows, tag_name_at}
use Rattle.htmd_grammar.specs.Nesting.{Context, holds_parts, is_allowed, is_outside, is_row, is_table, is_table_part}
use Rattle.htmd_grammar.specs.Nesting.{parent_name}
use Rattle.htmd_grammar.specs.RawContent.{content_of, drops_line_feed, ends_text, holds_raw_text, holds_text_alone}
use Rattle.htmd_grammar.specs.RawContent.{raw_text_of, text_of}
use Rattle.htmd_grammar.specs.References.{Piece, after_line_feed, less_line_feed, piece_at, stands, wrong}
use Rattle.htmd_grammar.specs.Rules.{Rules}
use Rattle.htmd_values.specs.Serialisation.{is_void}
use Rattle.htmd_grammar.specs.ReaderSteps.{OpenElement, State, Step, add, between, close_step, closed, comment_step}
use Rattle.htmd_grammar.specs.ReaderSteps.{end_tag_name_at, ends_rows, fault, form_step, fresh, has_unknown_reference}
use Rattle.htmd_grammar.specs.ReaderSteps.{is_implied, is_too_deep, markup_step, name_step, names_of, open_step}
use Rattle.htmd_grammar.specs.ReaderSteps.{place_step}
use Rattle.htmd_grammar.specs.ReaderSteps.{raw_text_step, start_tag_step, tbody_step, values_step, with_tree, ◌+++◌}
use Rattle.htmd_lexical.specs.TagReading.{TagForm, form, form_within, no_form}
use Rattle.htmd_grammar.specs.Tags.{IsEndTag, IsStartTag, IsTagForm, decode_values}
use Rattle.htmd_lexical.specs.Attributes.{attribute_names}
use Rattle.htmd_lexical.specs.AttributePairs.{AttributePair}
use Rattle.htmd_values.specs.ValueTrees.{ValueForest, ValueTree, comment, doctype, document, element}
use Rattle.htmd_values.specs.ValueTrees.{more, none, text}
use Rattle.htmd_grammar.specs.declared.fault.FaultKind.TheVariants.{DuplicateAttribute, MalformedComment}
use Rattle.htmd_grammar.specs.declared.fault.FaultKind.TheVariants.{MalformedDeclaration, MalformedTag, SelfClosing}
use Rattle.htmd_grammar.specs.declared.fault.FaultKind.TheVariants.{StrayEndTag, TagOutside, TooDeep, UnknownReference}
use Rattle.htmd_lexical.proofs.BooleanLemmas.{if_then}
use Rattle.htmd_grammar.proofs.CommentsLemmas.{before_close-split, dashes}
use Rattle.htmd_grammar.proofs.Completeness.{at_piece, content_over}
use Rattle.htmd_grammar.proofs.CutLemmas.{kept_cut, piece_cut}
use Rattle.htmd_grammar.proofs.FrontsLemmas.{closes, content_plain, ends_in_text, front_weaker, grows, kept_tag}
use Rattle.htmd_grammar.proofs.FrontsLemmas.{row_append, tag_starts}
use Rattle.htmd_grammar.proofs.FullPieces.{raw_text_full}
use Rattle.htmd_grammar.proofs.NestingLemmas.{no_text_alone, one_name, row_not_void, table_takes}
use Rattle.htmd_lexical.proofs.BytesLemmas.{same_bytes}
use Rattle.htmd_grammar.proofs.NestingLemmas.{text_alone_passes}
use Rattle.htmd_grammar.proofs.ReferencesLemmas.{drop_cut}
use Rattle.htmd_lexical.proofs.LeadingRunsLemmas.{back_split, front_all}
use Rattle.htmd_grammar.proofs.TagSpellingLemmas.{at_head, tag_spelled}
use Rattle.htmd_grammar.proofs.TextLemmas.{Stops, letter_not, markup_head, name_head, no_tag, stop_head, stops-append}
use Rattle.htmd_grammar.proofs.TreeTexts.{IsTextTree, node_stops}

-- an end tag that was read, and what follows it
pub end_tag_at : (name r : List ℕ) → is_tag_name name ≡ true
    → first_is 62 (behind_run is_ascii_white_space r) ≡ true
    → (tag : List ℕ) × (60 ∷ 47 ∷ (name ++ r) ≡ tag ++ drop 1 (behind_run is_ascii_white_space r))
    × IsEndTag tag (map to_ascii_lowercase name)
end_tag_at name r n w =
    let gap : List ℕ = leading_run is_ascii_white_space r in
    let x : List ℕ = drop 1 (behind_run is_ascii_white_space r) in
    let q : r ≡ gap ++ (62 ∷ x) = back_split is_ascii_white_space r
    ∙ ap (λ (y : List ℕ). gap ++ y) (at_head 62 (behind_run is_ascii_white_space r) w) in (
      60 ∷ 47 ∷ (name ++ (gap ++ 62 ∷ [])),
      ap (λ (y : List ℕ). 60 ∷ 47 ∷ (name ++ y)) q
          ∙ ap (λ (y : List ℕ). 60 ∷ 47 ∷ y)
          (ap (λ (y : List ℕ). name ++ y) (sym (append_assoc gap (62 ∷ []) x))
          ∙ sym (append_assoc name (gap ++ 62 ∷ []) x)),
      (name, gap, refl, n, front_all is_ascii_white_space r, refl),
    )

module _ (rules : Rules) (outer : Context) where
  -- whether an implied `tbody` may end here
  abbrev pub flag : List OpenElement → List ℕ → Bool
  flag fs s = not (holds_text_alone rules.scripting (parent_name (names_of outer fs))) && ends_rows s

  -- after the start tag all that is dropped has been dropped
  abbrev pub First : (fs : List OpenElement) (l : Bool) (s rest : List ℕ) → IsFront rules outer l fs s → Type 0
  First [] l s rest h = ⊤
  First (f ∷ gs) l s rest h = f.children ≡ none → IsKept f.name (content_so_far rules outer f gs l s h) rest

  -- what has been read is a viable prefix, and what is left goes with it
  pub record IsConf (fs : List OpenElement) (s rest : List ℕ) : Type 0 where
    pub is_front : IsFront rules outer (flag fs rest) fs s
    pub rows : is_implied fs ≡ true → begins_with_row (top_children fs) ≡ true
    pub texts : ends_in_text (top_children fs) ≡ true → Stops rules.scripting (parent_name (names_of outer fs)) rest
    pub first : First fs (flag fs rest) s rest is_front

  -- the step took a piece of the text
  abbrev pub Takes : List ℕ → List ℕ → State → Type 0
  Takes s rest st = (b : List ℕ) × (rest ≡ b ++ st.rest) × (st.run ≡ []) × IsConf st.stack (s ++ b) st.rest

  pub ends_in_text-last : (ts : ValueForest) (t : ValueTree) → ends_in_text (ts +++ more t none) ≡ IsTextTree t
  ends_in_text-last none (document ks) = refl
  ends_in_text-last none doctype = refl
  ends_in_text-last none (text u) = refl
  ends_in_text-last none (comment u) = refl
  ends_in_text-last none (element n attributes ks) = refl
  ends_in_text-last (more (document ks) none) t = ends_in_text-last none t
  ends_in_text-last (more doctype none) t = ends_in_text-last none t
  ends_in_text-last (more (text u) none) t = ends_in_text-last none t
  ends_in_text-last (more (comment u) none) t = ends_in_text-last none t
  ends_in_text-last (more (element n attributes ks) none) t = ends_in_text-last none t
  ends_in_text-last (more (document ks) (more v ts)) t = ends_in_text-last (more v ts) t
  ends_in_text-last (more doctype (more v ts)) t = ends_in_text-last (more v ts) t
  ends_in_text-last (more (text u) (more v ts)) t = ends_in_text-last (more v ts) t
  ends_in_text-last (more (comment u) (more v ts)) t = ends_in_text-last (more v ts) t
  ends_in_text-last (more (element n attributes ks) (more v ts)) t = ends_in_text-last (more v ts) t

  pub shallow : (fs : List OpenElement) → is_too_deep rules outer fs ≡ false
      → length (names_of outer fs) ≤ rules.depth
  shallow fs e = grind (arith, nat_tests)

  pub not_stops : (n s : List ℕ) → ends_text rules.scripting n s ≡ false → is_empty s ≡ false
      → Stops rules.scripting n s → ⊥
  not_stops n s m k (inl w) = let q = rw w at k in cc
  not_stops n s m k (inr w) = cc

  pub moved_to : (s rest : List ℕ) (a st : State) → ◌≡◌ {A = Step} (Ok a) (Ok st) → Takes s rest a
      → Takes s rest st
  moved_to s rest a st e t = let q : a ≡ st = cc in subst (λ (x : State). Takes s rest x) q t

  -- a node is added where the stack is not too deep
  sound_add : (fs : List OpenElement) (t : ValueTree) (s rest after : List ℕ) (st : State)
      → add rules outer fs t after ≡ Ok st
      → (length (names_of outer fs) ≤ rules.depth → Takes s rest (at_piece (with_tree fs t) (after)))
      → Takes s rest st
  sound_add fs t s rest after st e go =
      elim (if_then (is_too_deep rules outer fs) (fault TooDeep) (between (with_tree fs t) after) (Ok st) e) [
        | inl w ↦ absurd (let q = w.1 in cc)
        | inr w ↦ moved_to s rest (at_piece (with_tree fs t) (after)) st w.1
            (go (shallow fs w.0))
      ]

  -- the flag means nothing if text goes on
  pub no_flag : (f : OpenElement) (gs : List OpenElement) (s : List ℕ)
      → ends_text rules.scripting f.name s ≡ false
      → flag (f ∷ gs) s ≡ false
  no_flag f gs s m = test (holds_text_alone rules.scripting f.name) (λ t. rw t refl) (λ t. let k = rw t at m in
      let q = no_tag s k in rw (t, q.0, q.1) refl)

  pub flag_rows : (fs : List OpenElement) (s : List ℕ) → flag fs s ≡ true → ends_rows s ≡ true
  flag_rows fs s e = (and_parts (not (holds_text_alone rules.scripting (parent_name (names_of outer fs))))
      (ends_rows s) e).1

  pub not_none : (ts : ValueForest) (t : ValueTree) → ts +++ more t none ≡ none → ⊥
  not_none none t e = cc
  not_none (more u us) t e = cc

  -- a leaf, or an element that is whole, is added
  pub added : (f : OpenElement) (gs : List OpenElement) (t : ValueTree) (s b rest : List ℕ)
      → (c : IsConf (f ∷ gs) s (b ++ rest))
      → ReadsTree rules (names_of outer (f ∷ gs)) (flag (f ∷ gs) rest) t b
      → (flag (f ∷ gs) (b ++ rest) ≡ true → is_table_part (tag_name_at b) ≡ true)
      → (Stops rules.scripting f.name (b ++ rest) → IsTextTree t ≡ false)
      → (IsTextTree t ≡ true → Stops rules.scripting f.name rest)
      → IsKept f.name (content_so_far rules outer f gs (flag (f ∷ gs) (b ++ rest)) s c.is_front) b
      → Takes s (b ++ rest) (at_piece (with_tree (f ∷ gs) t) (rest))
  added f gs t s b rest c n p e x k = (
    b,
    refl,
    refl,
    record {
      is_front = grows rules outer f gs t (flag (f ∷ gs) (b ++ rest)) (flag (f ∷ gs) rest) s b c.is_front n p
          (λ q. e (c.texts q)) k;
      rows = λ i. row_append f.children (more t none) (c.rows i);
      texts = λ q. x (sym (ends_in_text-last f.children t) ∙ q);
      first = λ q. absurd (not_none f.children t q);
    },
  )

  pub run_split : (stop : List ℕ → Bool) (s : List ℕ) → s ≡ up_to stop s ++ onward stop s
  run_split stop [] = refl
  run_split stop (b ∷ s) = test (stop (b ∷ s)) (λ q. rw q refl)
      (λ q. rw q (ap (λ (y : List ℕ). b ∷ y) (run_split stop s)))

  pub onward_stops : (n s : List ℕ) → Stops rules.scripting n (onward (ends_text rules.scripting n) s)
  onward_stops n [] = inl refl
  onward_stops n (b ∷ s) =
      test (ends_text rules.scripting n (b ∷ s)) (λ q. rw q (inr q)) (λ q. rw q (onward_stops n s))

  pub run_not_empty : (stop : List ℕ → Bool) (s : List ℕ) → stop s ≡ false → is_empty s ≡ false
      → up_to stop s ≢ []
  run_not_empty stop [] m e q = absurd (cc)
  run_not_empty stop (b ∷ s) m e q = let w = rw m at q in absurd (cc)

  -- what doesn't end a text does not so however it is cut
  pub cut_stops : (n : List ℕ) (b : ℕ) (s x : List ℕ) → ends_text rules.scripting n (b ∷ (s ++ x)) ≡ false
      → ends_text rules.scripting n (b ∷ s) ≡ false
  cut_stops n b s x e = test (ends_text rules.scripting n (b ∷ s))
      (λ q. absurd (let k = stops-append rules.scripting n (b ∷ s) x q in cc)) (λ q. q)

  pub up_to-up_to : (n s : List ℕ) → up_to (ends_text rules.scripting n) (up_to (ends_text rules.scripting n) s)
      ≡ up_to (ends_text rules.scripting n) s
  up_to-up_to n [] = refl
  up_to-up_to n (b ∷ s) = test (ends_text rules.scripting n (b ∷ s)) (λ q. rw q refl) (λ q.
      let k : ends_text rules.scripting n
      (b ∷ (up_to (ends_text rules.scripting n) s ++ onward (ends_text rules.scripting n) s)) ≡ false =
      ap (λ (y : List ℕ). ends_text rules.scripting n (b ∷ y)) (sym (run_split (ends_text rules.scripting n) s))
      ∙ q in
      let m = cut_stops n b (up_to (ends_text rules.scripting n) s) (onward (ends_text rules.scripting n) s) k in
      rw q (rw m (ap (λ (y : List ℕ). b ∷ y) (up_to-up_to n s))))

  pub strict_white : (p u : List ℕ) → (holds_parts p && not (list_all is_ascii_white_space u)) ≡ false
      → holds_parts p ≡ true → list_all is_ascii_white_space u ≡ true
  strict_white p u e t = test (list_all is_ascii_white_space u) (λ q. q) (λ q. let w = rw (t, q) at e in absurd (cc))

  -- if a text is added, an earlier tree begins with `<`
  holds_tag : (p : List ℕ) (c : Context) (l : Bool) (u : ValueTree) (us : ValueForest) (s : List ℕ)
      → ReadsForest rules (p ∷ c) l (more u us) s → ends_in_text (more u us) ≡ false
      → (x t : List ℕ) × (s ≡ x ++ (60 ∷ t))
  holds_tag p c l (document ks) us s h e = absurd (h.4)
  holds_tag p c l doctype us s h e = absurd (h.4)
  holds_tag p c l (text v) none s h e = absurd (cc)
  holds_tag p c l (comment v) us s h e =
      let m = markup_head h.0 (node_stops rules (comment v) (p ∷ c) (may_end_rows l us h.1) h.0 refl h.4) in
      ([], m.0 ++ h.1, h.2 ∙ ap (λ (y : List ℕ). y ++ h.1) m.1)
  holds_tag p c l (element n attributes ks) us s h e =
      let m =
      markup_head h.0 (node_stops rules (element n attributes ks) (p ∷ c) (may_end_rows l us h.1) h.0 refl h.4)
      in
      ([], m.0 ++ h.1, h.2 ∙ ap (λ (y : List ℕ). y ++ h.1) m.1)
  holds_tag p c l (text v) (more w us) s h e =
      let i = holds_tag p c l w us h.1 h.5 e in
      (h.0 ++ i.0, i.1, h.2 ∙ (ap (λ (y : List ℕ). h.0 ++ y) i.2 ∙ sym (append_assoc h.0 i.0 (60 ∷ i.1))))

  -- what is dropped, and what is left
  pub content_split : (n x : List ℕ) → (d : List ℕ) × (x ≡ d ++ content_of n x) × (content_of n d ≡ [])
  content_split n x = test (drops_line_feed n) (λ t. rw t (after x)) (λ t. rw t ([], refl, refl))
    where
      less : (b : ℕ) (s : List ℕ) (p : Piece) → piece_at [] b s ≡ p
          → (d : List ℕ) × (b ∷ s ≡ d ++ less_line_feed p b s)
          × (after_line_feed [] d ≡ [])
      less b s (wrong k) e = ([], refl, refl)
      less b s (stands m v) e = test (bytes_eq v (10 ∷ []))
          (λ t.
          let c = piece_cut [] b s v m e in
          let r : drop m s ≡ c.1 = ap (drop m) c.2 ∙ (drop_cut c.0 c.1 [] m c.3).0 in
          let q : piece_at [] b c.0 ≡ stands m v = ap (piece_at [] b) (sym (append-nil c.0)) ∙ c.4 [] c.1 refl in
          let z : drop m c.0 ≡ [] = ap (drop m) (sym (append-nil c.0)) ∙ (drop_cut c.0 [] [] m c.3).0 in (
            b ∷ c.0,
            rw t (ap (λ (y : List ℕ). b ∷ y) (c.2 ∙ ap (λ (y : List ℕ). c.0 ++ y) (sym r))),
            ap (λ (p : Piece). less_line_feed p b c.0) q ∙ rw t z,
          ))
          (λ t. ([], rw t refl, refl))

      after : (x : List ℕ) → (d : List ℕ) × (x ≡ d ++ after_line_feed [] x) × (after_line_feed [] d ≡ [])
      after [] = ([], refl, refl)
      after (b ∷ s) = less b s (piece_at [] b s) refl

  kept_behind : (n i x t b : List ℕ) → i ≡ x ++ (60 ∷ t) → IsKept n i b
  kept_behind n i x t b e =
      rw (e, append_assoc x (60 ∷ t) b) (content_over n x (t ++ b)
      ∙ (sym (append_assoc (content_of n x) (60 ∷ t) b)
      ∙ ap (λ (y : List ℕ). y ++ b) (sym (content_over n x t))))

  pub kept_nodes : (n : List ℕ) (c : Context) (l : Bool) (ks : ValueForest) (i b z : List ℕ)
      → ReadsForest rules (n ∷ c) l ks (content_of n i) → (ends_in_text ks ≡ true → ⊥)
      → (ks ≡ none → IsKept n i (b ++ z)) → IsKept n i b
  kept_nodes n c l none i b z h e k = kept_cut n i b z h (k refl)
  kept_nodes n c l (more u us) i b z h e k =
      let f : ends_in_text (more u us) ≡ false = test (ends_in_text (more u us)) (λ q. absurd (e q)) (λ q. q) in
      let t = holds_tag n c l u us (content_of n i) h f in
      let d = content_split n i in
      kept_behind n i (d.0 ++ t.0) t.1 b
      (d.1 ∙ (ap (λ (y : List ℕ). d.0 ++ y) t.2 ∙ sym (append_assoc d.0 t.0 (60 ∷ t.1))))

  -- a text that goes on leaves what was dropped
  pub kept_text : (f : OpenElement) (gs : List OpenElement) (s b z : List ℕ) → (c : IsConf (f ∷ gs) s (b ++ z))
      → (Stops rules.scripting f.name (b ++ z) → ⊥)
      → IsKept f.name (content_so_far rules outer f gs (flag (f ∷ gs) (b ++ z)) s c.is_front) b
  kept_text f [] s b z c n = rw (c.is_front).2 refl
  kept_text f (g ∷ gs) s b z c n =
      kept_nodes f.name (names_of outer (g ∷ gs)) (flag (f ∷ g ∷ gs) (b ++ z)) f.children
      (c.is_front).2 b z (c.is_front).6 (λ q. n (c.texts q)) c.first

  raw_no_parts : (p : List ℕ) → holds_raw_text rules.scripting p ≡ true → holds_parts p ≡ false
  raw_no_parts p r = not-true (holds_parts p) (text_alone_passes (λ n. not (holds_parts n)) rules.scripting p
      (rw r (or-true (is_among (codes "title" ∷ codes "textarea" ∷ []) p))) refl)

  -- text without references
  pub sound_raw : (f : OpenElement) (gs : List OpenElement) (s rest : List ℕ) (st : State)
      → IsConf (f ∷ gs) s rest
      → holds_raw_text rules.scripting f.name ≡ true → ends_text rules.scripting f.name rest ≡ false
      → is_empty rest ≡ false
      → (d : Option (List ℕ)) → text_of rules f.name (up_to (ends_text rules.scripting f.name) rest) ≡ d
      → raw_text_step rules outer (f ∷ gs) d (onward (ends_text rules.scripting f.name) rest) ≡ Ok st
      → Takes s rest st
  sound_raw f gs s rest st c y m n None d e = absurd (cc)
  sound_raw f gs s rest st c y m n (Some u) d e =
      sound_add (f ∷ gs) (text u) s rest (onward (ends_text rules.scripting f.name) rest) st e (λ l.
      let r : List ℕ = up_to (ends_text rules.scripting f.name) rest in
      let after : List ℕ = onward (ends_text rules.scripting f.name) rest in
      let q : rest ≡ r ++ after = run_split (ends_text rules.scripting f.name) rest in
      let c2 = subst (λ (y : List ℕ). IsConf (f ∷ gs) s y) q c in
      let m2 : ends_text rules.scripting f.name (r ++ after) ≡ false = ap (ends_text rules.scripting f.name) (sym q)
      ∙ m in
      let n2 : is_empty (r ++ after) ≡ false = ap is_empty (sym q) ∙ n in
      let d2 : raw_text_of f.name r ≡ Some u = rw y at d in
      subst (λ (y : List ℕ). Takes s y (at_piece (with_tree (f ∷ gs) (text u)) after)) (sym q)
      (added f gs (text u) s r after c2 (
        raw_text_full f.name r u d2 (run_not_empty (ends_text rules.scripting f.name) rest m n),
        up_to-up_to f.name rest,
        d,
        λ k. absurd (let w = raw_no_parts f.name y in cc),
        l,
      )
      (λ k. let z = no_flag f gs (r ++ after) m2 in absurd (cc)) (λ k. absurd (not_stops f.name (r ++ after) m2 n2 k))
      (λ _. onward_stops f.name rest)
      (kept_text f gs s r after c2 (λ k. not_stops f.name (r ++ after) m2 n2 k))))

  pub sound_when_closed : (fs : List OpenElement) (s rest : List ℕ) (st : State) → IsConf fs s rest
      → is_implied fs ≡ true
      → ends_rows rest ≡ true → tbody_step rules outer fs rest ≡ Ok st → Takes s rest st
  sound_when_closed [] s rest st c i r e = absurd (c.is_front)
  sound_when_closed (f ∷ []) s rest st c i r e = absurd (let h = c.is_front in let q = h.0 in cc)
  sound_when_closed (f ∷ g ∷ gs) s rest st c i r e =
      let h = c.is_front in
      let t : holds_text_alone rules.scripting g.name ≡ false =
      no_text_alone rules.scripting g.name (names_of outer gs) f.name (h.5).0 in
      let k : flag (g ∷ gs) rest ≡ true = rw (t, r) refl in
      moved_to s rest (at_piece (with_tree (g ∷ gs) (closed f)) (rest)) st e (
        [],
        refl,
        refl,
        record {
          is_front = closes rules outer f g gs (flag (f ∷ g ∷ gs) rest) (flag (g ∷ gs) rest) s [] c.is_front
              (inr (refl, k, i)) c.rows;
          rows = h.7;
          texts = λ q. absurd (let z = ends_in_text-last g.children (closed f) in cc);
          first = λ q. absurd (not_none g.children (closed f) q);
        },
      )

  -- what follows `<` in a comment
  sound_comment : (f : OpenElement) (gs : List OpenElement) (s x : List ℕ) (st : State)
      → IsConf (f ∷ gs) s (60 ∷ 33 ∷ 45 ∷ 45 ∷ x) → holds_text_alone rules.scripting f.name ≡ false
      → (o : Option (List ℕ × List ℕ)) → before_comment_end x ≡ o
      → comment_step rules outer (f ∷ gs) o ≡ Ok st
      → Takes s (60 ∷ 33 ∷ 45 ∷ 45 ∷ x) st
  sound_comment f gs s x st c tf None d e = absurd (cc)
  sound_comment f gs s x st c tf (Some p) d e =
      elim (if_then (is_comment_text p.0) (add rules outer (f ∷ gs) (comment (normalized p.0)) p.1)
      (fault MalformedComment) (Ok st) e) [
        | inr w ↦ absurd (let z = w.1 in cc)
        | inl w ↦ sound_add (f ∷ gs) (comment (normalized p.0)) s (60 ∷ 33 ∷ 45 ∷ 45 ∷ x) p.1 st w.1 (λ l.
            let t = before_close-split x p.0 p.1 d in
            let b : List ℕ = 60 ∷ 33 ∷ 45 ∷ 45 ∷ t.0 in
            let q : 60 ∷ 33 ∷ 45 ∷ 45 ∷ x ≡ b ++ p.1 =
            ap (λ (y : List ℕ). 60 ∷ 33 ∷ 45 ∷ 45 ∷ y) t.1 in
            let c2 = subst (λ (y : List ℕ). IsConf (f ∷ gs) s y) q c in
            subst (λ (y : List ℕ). Takes s y (at_piece (with_tree (f ∷ gs) (comment (normalized p.0))) (p.1)))
            (sym q)
            (added f gs (comment (normalized p.0)) s b p.1 c2 ((t.0, p.0, refl, t.2, w.0, refl), tf, l)
            (λ k. let z = flag_rows (f ∷ gs) (b ++ p.1) k in absurd (cc)) (λ _. refl) (λ k. absurd (cc))
            (content_over f.name (content_so_far rules outer f gs (flag (f ∷ gs) (b ++ p.1)) s c2.is_front)
            (33 ∷ 45 ∷ 45 ∷ t.0))))
      ]

  -- an element that is not void opens
  entered : (f : OpenElement) (gs : List OpenElement) (n : List ℕ) (attributes : List AttributePair)
      (s tag rest : List ℕ) → IsConf (f ∷ gs) s (tag ++ rest) → IsStartTag rules.names tag n attributes
      → is_allowed rules.scripting (names_of outer (f ∷ gs)) n ≡ true
      → length (names_of outer (f ∷ gs)) ≤ rules.depth
      → is_void n ≡ false → (flag (f ∷ gs) (tag ++ rest) ≡ true → is_table_part n ≡ true)
      → Takes s (tag ++ rest) (at_piece (fresh n attributes false ∷ f ∷ gs) (content_of n rest))
  entered f gs n attributes s tag rest c t a l v p = (
    tag ++ d.0,
    ap (λ (y : List ℕ). tag ++ y) d.1 ∙ sym (append_assoc tag d.0 (content_of n rest)),
    refl,
    record {
      is_front = (
        s,
        tag,
        d.0,
        refl,
        weaker,
        (a, l, inl (refl, t, v)),
        d.2,
        λ i. row_append f.children
            (more (closed (fresh n attributes false)) none) (c.rows i),
      );
      rows = λ i. absurd (cc);
      texts = λ q. absurd (cc);
      first = λ _. ap (content_of n) (sym d.1) ∙ ap (λ (y : List ℕ). y ++ content_of n rest) (sym d.2);
    },
  )
    where
      d : (d : List ℕ) × (rest ≡ d ++ content_of n rest) × (content_of n d ≡ [])
      d = content_split n rest

      weaker : IsFront rules outer (is_table_part n) (f ∷ gs) s
      weaker = front_weaker rules outer f gs (flag (f ∷ gs) (tag ++ rest)) (is_table_part n) s p c.is_front

  -- an implied `tbody` and its row open
  entered_row : (f : OpenElement) (gs : List OpenElement) (n : List ℕ) (attributes : List AttributePair)
      (s tag rest : List ℕ) → IsConf (f ∷ gs) s (tag ++ rest) → IsStartTag rules.names tag n attributes
      → is_row n ≡ true → is_table f.name ≡ true
      → length (names_of outer (f ∷ gs)) ≤ rules.depth
      → is_allowed rules.scripting (codes "tbody" ∷ names_of outer (f ∷ gs)) n ≡ true
      → length (codes "tbody" ∷ names_of outer (f ∷ gs)) ≤ rules.depth
      → is_void n ≡ false → (flag (f ∷ gs) (tag ++ rest) ≡ true → is_table_part n ≡ true)
      → Takes s (tag ++ rest) (at_piece (fresh n attributes false ∷ fresh (codes "tbody") [] true ∷ f ∷ gs)
      (rest))
  entered_row f gs n attributes s tag rest c t r q l a k v p = (
    tag,
    refl,
    refl,
    record {
      is_front = (
        s,
        tag,
        [],
        ap (λ (y : List ℕ). s ++ y) (sym (append-nil tag)),
        with_tbody,
        (a, k, inl (refl, t, v)),
        plain [],
        λ _. r,
      );
      rows = λ i. absurd (cc);
      texts = λ i. absurd (cc);
      first = λ _. plain rest ∙ ap (λ (y : List ℕ). y ++ rest) (sym (plain []));
    },
  )
    where
      plain : (y : List ℕ) → content_of n y ≡ y
      plain y = content_plain n y (rw (one_name (codes "tr") n r) refl)

      no_part : is_table_part n ≡ false
      no_part = let e = one_name (codes "tr") n r in rw e refl

      table : is_allowed rules.scripting (names_of outer (f ∷ gs)) (codes "tbody") ≡ true
      table = table_takes rules.scripting f.name (names_of outer gs) q

      with_tbody : IsFront rules outer (is_table_part n) (fresh (codes "tbody") [] true ∷ f ∷ gs) s
      with_tbody = (
        s,
        [],
        [],
        sym (append-nil s),
        front_weaker rules outer f gs (flag (f ∷ gs) (tag ++ rest)) false s
            (λ i. let z = p i in absurd (let y = no_part in cc)) c.is_front,
        (table, l, inr (refl, refl, refl, refl)),
        refl,
        λ i. row_append f.children (more (closed (fresh (codes "tbody") [] true)) none) (c.rows i),
      )

  -- a start tag ends rows only where it is a part of the table
  start_rows : (tag n x : List ℕ) (attributes : List AttributePair) → IsStartTag rules.names tag n attributes
      → ends_rows (tag ++ x) ≡ true → is_table_part n ≡ true
  start_rows tag n x attributes t h =
      let k = name_head (t.2).0 (t.2).3 in
      let e : tag ++ x ≡ 60 ∷ (k.0 ∷ (k.1 ++ ((t.2).1 ++ x))) =
      ap (λ (y : List ℕ). y ++ x) ((t.2).2 ∙ ap (λ (y : List ℕ). 60 ∷ (y ++ (t.2).1)) k.2)
      ∙ ap (λ (y : List ℕ). 60 ∷ k.0 ∷ y) (append_assoc k.1 (t.2).1 x) in
      let u : end_tag_name_at (tag ++ x) ≡ [] = ap end_tag_name_at e ∙ rw (letter_not k.0 k.3).0 refl in
      let w : (is_table_part (tag_name_at (tag ++ x)) || bytes_eq [] (codes "table")) ≡ true =
      ap (λ (y : List ℕ). is_table_part (tag_name_at (tag ++ x)) || bytes_eq y (codes "table")) (sym u) ∙ h in
      ap is_table_part (sym (tag_starts rules outer tag n x attributes t))
      ∙ (sym (or-false (is_table_part (tag_name_at (tag ++ x)))) ∙ w)

  sound_opened : (f : OpenElement) (gs : List OpenElement) (n : List ℕ) (attributes : List AttributePair)
      (s tag rest : List ℕ) (st : State) → IsConf (f ∷ gs) s (tag ++ rest)
      → IsStartTag rules.names tag n attributes
      → open_step rules outer (f ∷ gs) n attributes rest ≡ Ok st → Takes s (tag ++ rest) st
  sound_opened f gs n attributes s tag rest st c t e = test (is_allowed rules.scripting (names_of outer (f ∷ gs)) n)
      (λ a. test (is_too_deep rules outer (f ∷ gs)) (λ k. absurd (deep a k))
      (λ k. test (is_void n) (void_ a k) (full a k))) (λ a. absurd (bad a))
    where
      p : flag (f ∷ gs) (tag ++ rest) ≡ true → is_table_part n ≡ true
      p i = start_rows tag n rest attributes t (flag_rows (f ∷ gs) (tag ++ rest) i)

      kept_whole : (i : List ℕ) → IsKept f.name i tag
      kept_whole i = subst (IsKept f.name i) (append-nil tag) (kept_tag rules outer f.name i tag [] n attributes t)

      tn : tag_name_at tag ≡ n
      tn = ap tag_name_at (sym (append-nil tag)) ∙ tag_starts rules outer tag n [] attributes t

      deep : is_allowed rules.scripting (names_of outer (f ∷ gs)) n ≡ true
          → is_too_deep rules outer (f ∷ gs) ≡ true → ⊥
      deep a k = let w = rw (a, k) at e in cc

      bad : is_allowed rules.scripting (names_of outer (f ∷ gs)) n ≡ false → ⊥
      bad a = let w = rw a at e in cc

      void_ : is_allowed rules.scripting (names_of outer (f ∷ gs)) n ≡ true
          → is_too_deep rules outer (f ∷ gs) ≡ false
          → is_void n ≡ true → Takes s (tag ++ rest) st
      void_ a k v =
          let w = rw (a, k, v) at e in
          moved_to s (tag ++ rest) (at_piece (with_tree (f ∷ gs) (element n attributes none)) (rest)) st w
          (added f gs (element n attributes none) s tag rest c
          (a, shallow (f ∷ gs) k, inl (tag, [], [], sym (append-nil tag), t, rw v (refl, refl, refl)))
          (λ i. ap is_table_part tn ∙ p i) (λ _. refl) (λ i. absurd (cc))
          (kept_whole (content_so_far rules outer f gs (flag (f ∷ gs) (tag ++ rest)) s c.is_front)))

      full : is_allowed rules.scripting (names_of outer (f ∷ gs)) n ≡ true
          → is_too_deep rules outer (f ∷ gs) ≡ false
          → is_void n ≡ false → Takes s (tag ++ rest) st
      full a k v =
          let w = rw (a, k, v) at e in
          moved_to s (tag ++ rest) (at_piece (fresh n attributes false ∷ f ∷ gs) (content_of n rest)) st w
          (entered f gs n attributes s tag rest c t a (shallow (f ∷ gs) k) v p)

  sound_row : (f : OpenElement) (gs : List OpenElement) (n : List ℕ) (attributes : List AttributePair)
      (s tag rest : List ℕ) (st : State) → IsConf (f ∷ gs) s (tag ++ rest)
      → IsStartTag rules.names tag n attributes
      → is_row n ≡ true → is_table f.name ≡ true
      → length (names_of outer (f ∷ gs)) ≤ rules.depth
      → open_step rules outer (fresh (codes "tbody") [] true ∷ f ∷ gs) n attributes rest ≡ Ok st
      → Takes s (tag ++ rest) st
  sound_row f gs n attributes s tag rest st c t r q l e =
      test (is_allowed rules.scripting (codes "tbody" ∷ names_of outer (f ∷ gs)) n)
      (λ a. test (is_too_deep rules outer (fresh (codes "tbody") [] true ∷ f ∷ gs))
      (λ k. absurd (let w = rw (a, k) at e in cc)) (full a)) (λ a. absurd (let w = rw a at e in cc))
    where
      opened_at : List ℕ → Step
      opened_at y = Ok (at_piece (fresh n attributes false ∷ fresh (codes "tbody") [] true ∷ f ∷ gs) (y))

      plain : content_of n rest ≡ rest
      plain = content_plain n rest (rw (one_name (codes "tr") n r) refl)

      row_void : is_void (codes "tr") ≡ false
      row_void = row_not_void

      no_void : is_void n ≡ false
      no_void = ap is_void (one_name (codes "tr") n r) ∙ row_void

      full : is_allowed rules.scripting (codes "tbody" ∷ names_of outer (f ∷ gs)) n ≡ true
          → is_too_deep rules outer (fresh (codes "tbody") [] true ∷ f ∷ gs) ≡ false
          → Takes s (tag ++ rest) st
      full a k =
          let w = rw (a, k, no_void) at e in
          moved_to s (tag ++ rest)
          (at_piece (fresh n attributes false ∷ fresh (codes "tbody") [] true ∷ f ∷ gs) (rest))
          st (ap (λ (y : List ℕ). opened_at y) (sym plain) ∙ w)
          (entered_row f gs n attributes s tag rest c t r q l a (shallow (fresh (codes "tbody") [] true ∷ f ∷ gs) k)
          no_void (λ i. start_rows tag n rest attributes t (flag_rows (f ∷ gs) (tag ++ rest) i)))

  sound_start : (f : OpenElement) (gs : List OpenElement) (n : List ℕ) (attributes : List AttributePair)
      (s tag x : List ℕ) (st : State) → IsConf (f ∷ gs) s (tag ++ x) → IsStartTag rules.names tag n attributes
      → place_step rules outer (f ∷ gs) n attributes x ≡ Ok st → Takes s (tag ++ x) st
  sound_start f gs n attributes s tag x st c t e =
      elim (if_then (is_row n && bytes_eq f.name (codes "table")) _ _ (Ok st) e) [
        | inl w ↦
            let p = and_parts (is_row n) (bytes_eq f.name (codes "table")) w.0 in
            elim (if_then (is_too_deep rules outer (f ∷ gs)) (fault TooDeep)
            (open_step rules outer (fresh (codes "tbody") [] true ∷ f ∷ gs) n attributes x) (Ok st) w.1) [
              | inl v ↦ absurd (let z = v.1 in cc)
              | inr v ↦ sound_row f gs n attributes s tag x st c t p.0
                  (or-false (bytes_eq f.name (codes "table")) ∙ p.1)
                  (shallow (f ∷ gs) v.0) v.1
            ]
        | inr w ↦ sound_opened f gs n attributes s tag x st c t w.1
      ]

  sound_close : (fs : List OpenElement) (s tag n x : List ℕ) (st : State) → IsConf fs s (tag ++ x)
      → IsEndTag tag n
      → close_step rules outer fs n x ≡ Ok st → Takes s (tag ++ x) st
  sound_close [] s tag n x st c t e = absurd (c.is_front)
  sound_close (f ∷ []) s tag n x st c t e = absurd (cc)
  sound_close (f ∷ g ∷ gs) s tag n x st c t e =
      elim (if_then (bytes_eq f.name n) (between (with_tree (g ∷ gs) (closed f)) x) (fault StrayEndTag) (Ok st) e) [
        | inl w ↦ moved_to s (tag ++ x) (at_piece (with_tree (g ∷ gs) (closed f)) x) st w.1 (
          tag,
          refl,
          refl,
          record {
            is_front = closes rules outer f g gs (flag (f ∷ g ∷ gs) (tag ++ x)) (flag (g ∷ gs) x) s tag c.is_front
                (inl (subst (λ (m : List ℕ). IsEndTag tag m) (sym (same_bytes f.name n w.0)) t)) c.rows;
            rows = (c.is_front).7;
            texts = λ q. absurd (let z = ends_in_text-last g.children (closed f) in cc);
            first = λ q. absurd (not_none g.children (closed f) q);
          },
        )
        | inr w ↦ absurd (let q = w.1 in cc)
      ]

  -- the tag that a start tag's reading found
  found_values : (f : OpenElement) (gs : List OpenElement) (s tag n x : List ℕ) (st : State)
      (spelled : List AttributePair) (present : Bool) → IsConf (f ∷ gs) s (tag ++ x)
      → IsTagForm tag n spelled present
      → (o : Option (List AttributePair)) → decode_values rules.names spelled ≡ o
      → values_step rules outer (f ∷ gs) n spelled present x o ≡ Ok st → Takes s (tag ++ x) st
  found_values f gs s tag n x st spelled present c t None d e = absurd (cc)
  found_values f gs s tag n x st spelled present c t (Some attributes) d e =
      elim (if_then (not (are_distinct (attribute_names spelled))) (fault DuplicateAttribute) _ (Ok st) e) [
        | inl v ↦ absurd (let z = v.1 in cc)
        | inr v ↦ elim (if_then (present && not (is_void n)) (fault SelfClosing)
            (cond (is_outside n) (fault TagOutside) (place_step rules outer (f ∷ gs) n attributes x)) (Ok st) v.1) [
              | inl u ↦ absurd (let z = u.1 in cc)
              | inr u ↦ elim (if_then (is_outside n) (fault TagOutside)
                  (place_step rules outer (f ∷ gs) n attributes x)
                  (Ok st) u.1) [
                    | inl y ↦ absurd (let z = y.1 in cc)
                    | inr y ↦ sound_start f gs n attributes s tag x st c (
                      spelled,
                      present,
                      t,
                      d,
                      twice (are_distinct (attribute_names spelled)) v.0,
                      slashed present (is_void n) u.0,
                    ) y.1
                  ]
            ]
      ]
    where
      twice : (b : Bool) → not b ≡ false → b ≡ true
      twice true e = refl
      twice false e = absurd (cc)

      slashed : (a b : Bool) → (a && not b) ≡ false → a ≡ true → b ≡ true
      slashed a true e i = refl
      slashed a false e i = absurd (let w = rw i at e in cc)

  -- the form that was read, as a tag and what follows it
  pub form_at : (name r x w : List ℕ) (spelled : List AttributePair) (present : Bool) → w ≡ name ++ r
      → is_tag_name name ≡ true → form_within (suc (length r)) r ≡ form spelled present x
      → (tag : List ℕ) × (60 ∷ w ≡ tag ++ x) × IsTagForm tag (map to_ascii_lowercase name) spelled present
  form_at name r x w spelled present q n a =
      let t = tag_spelled (suc (length r)) r x spelled present a in (
        60 ∷ (name ++ t.0),
        ap (λ (y : List ℕ). 60 ∷ y)
            (q ∙ (ap (λ (y : List ℕ). name ++ y) t.1 ∙ sym (append_assoc name t.0 x))),
        (name, t.0, refl, n, refl, t.2),
      )

  found_form : (f : OpenElement) (gs : List OpenElement) (s w name r : List ℕ) (st : State)
      → IsConf (f ∷ gs) s (60 ∷ w)
      → w ≡ name ++ r → is_tag_name name ≡ true
      → (t : TagForm) → form_within (suc (length r)) r ≡ t
      → form_step rules outer (f ∷ gs) (map to_ascii_lowercase name) t ≡ Ok st → Takes s (60 ∷ w) st
  found_form f gs s w name r st c q n no_form a e = absurd (cc)
  found_form f gs s w name r st c q n (form spelled present x) a e =
      elim (if_then (list_any (λ a. has_unknown_reference rules.names a.value) spelled) (fault UnknownReference) _
      (Ok st) e) [
        | inl v ↦ absurd (let z = v.1 in cc)
        | inr v ↦
            let t = form_at name r x w spelled present q n a in
            subst (λ (y : List ℕ). Takes s y st) (sym t.1)
            (found_values f gs s t.0 (map to_ascii_lowercase name) x st spelled present
            (subst (λ (y : List ℕ). IsConf (f ∷ gs) s y) t.1 c) t.2 (decode_values rules.names spelled) refl v.1)
      ]

  -- the tag that an end tag's reading found
  found_end : (fs : List OpenElement) (s name r : List ℕ) (st : State) → IsConf fs s (60 ∷ 47 ∷ (name ++ r))
      → is_tag_name name ≡ true → name_step rules outer fs (map to_ascii_lowercase name) r ≡ Ok st
      → Takes s (60 ∷ 47 ∷ (name ++ r)) st
  found_end fs s name r st c n e =
      elim (if_then (first_is 62 (behind_run is_ascii_white_space r))
      (cond (is_outside (map to_ascii_lowercase name)) (fault TagOutside)
      (close_step rules outer fs (map to_ascii_lowercase name) (drop 1 (behind_run is_ascii_white_space r))))
      (fault MalformedTag) (Ok st) e) [
        | inl w ↦ elim (if_then (is_outside (map to_ascii_lowercase name)) (fault TagOutside)
            (close_step rules outer fs (map to_ascii_lowercase name) (drop 1 (behind_run is_ascii_white_space r)))
            (Ok st) w.1) [
              | inl v ↦ absurd (let z = v.1 in cc)
              | inr v ↦
                  let t = end_tag_at name r n w.0 in
                  subst (λ (y : List ℕ). Takes s y st) (sym t.1)
                  (sound_close fs s t.0 (map to_ascii_lowercase name) (drop 1 (behind_run is_ascii_white_space r)) st
                  (subst (λ (y : List ℕ). IsConf fs s y) t.1 c) t.2 v.1)
            ]
        | inr w ↦ absurd (let z = w.1 in cc)
      ]

  sound_markup : (f : OpenElement) (gs : List OpenElement) (s : List ℕ) (d : ℕ) (x : List ℕ) (st : State)
      → IsConf (f ∷ gs) s (60 ∷ d ∷ x) → ends_text rules.scripting f.name (60 ∷ d ∷ x) ≡ true
      → markup_step rules outer (f ∷ gs) (d ∷ x) ≡ Ok st → Takes s (60 ∷ d ∷ x) st
  sound_markup f gs s d x st c m e = elim (if_then (d == 47) _ _ (Ok st) e) [
    | inl w ↦
        let i = eqb-true d 47 w.0 in
        elim (if_then (is_tag_name (leading_run is_tag_name_byte x))
        (name_step rules outer (f ∷ gs) (map to_ascii_lowercase (leading_run is_tag_name_byte x))
        (behind_run is_tag_name_byte x)) (fault MalformedTag) (Ok st) w.1) [
          | inl v ↦
              let k : 60 ∷ d ∷ x ≡ 60 ∷ 47
              ∷ (leading_run is_tag_name_byte x ++ behind_run is_tag_name_byte x) =
              rw i (ap (λ (y : List ℕ). 60 ∷ 47 ∷ y) (back_split is_tag_name_byte x)) in
              subst (λ (y : List ℕ). Takes s y st) (sym k) (found_end (f ∷ gs) s (leading_run is_tag_name_byte x)
              (behind_run is_tag_name_byte x) st (subst (λ (y : List ℕ). IsConf (f ∷ gs) s y) k c) v.0 v.1)
          | inr v ↦ absurd (let z = v.1 in cc)
        ]
    | inr w ↦ elim (if_then (d == 33) _ _ (Ok st) w.1) [
      | inl v ↦
          let i = eqb-true d 33 v.0 in
          elim (if_then (begins_with (codes "--") x)
          (comment_step rules outer (f ∷ gs) (before_comment_end (drop 2 x)))
          (fault MalformedDeclaration) (Ok st) v.1) [
            | inl u ↦ (let k : 60 ∷ d ∷ x ≡ 60 ∷ 33 ∷ 45 ∷ 45 ∷ drop 2 x =
                rw i (ap (λ (y : List ℕ). 60 ∷ 33 ∷ y) (dashes x u.0)) in
                subst (λ (y : List ℕ). Takes s y st) (sym k)
                (sound_comment f gs s (drop 2 x) st (subst (λ (y : List ℕ). IsConf (f ∷ gs) s y) k c)
                (no_title_here i) (before_comment_end (drop 2 x)) refl u.1))
            | inr u ↦ absurd (let z = u.1 in cc)
          ]
      | inr v ↦ elim (if_then (d == 63) (fault MalformedDeclaration) (start_tag_step rules outer (f ∷ gs) (d ∷ x))
          (Ok st) v.1) [
            | inl y ↦ absurd (let z = y.1 in cc)
            | inr y ↦ elim (if_then (is_tag_name (leading_run is_tag_name_byte (d ∷ x)))
                (form_step rules outer (f ∷ gs) (map to_ascii_lowercase (leading_run is_tag_name_byte (d ∷ x)))
                (form_within (suc (length (behind_run is_tag_name_byte (d ∷ x))))
                (behind_run is_tag_name_byte (d ∷ x))))
                (fault MalformedTag) (Ok st) y.1) [
                  | inl u ↦ found_form f gs s (d ∷ x) (leading_run is_tag_name_byte (d ∷ x))
                      (behind_run is_tag_name_byte (d ∷ x)) st c (back_split is_tag_name_byte (d ∷ x)) u.0 _ refl
                      u.1
                  | inr u ↦ absurd (let z = u.1 in cc)
                ]
          ]
    ]
  ]
    where
      no_title_here : d ≡ 33 → holds_text_alone rules.scripting f.name ≡ false
      no_title_here i = test (holds_text_alone rules.scripting f.name) (λ t. absurd (let w = rw (t, i) at m in cc))
          (λ t. t)

  pub sound_any : (f : OpenElement) (gs : List OpenElement) (s rest : List ℕ) (st : State)
      → IsConf (f ∷ gs) s rest
      → ends_text rules.scripting f.name rest ≡ true → markup_step rules outer (f ∷ gs) (drop 1 rest) ≡ Ok st
      → Takes s rest st
  sound_any f gs s [] st c m e = let h = stop_head rules.scripting f.name [] m in absurd (let z = h.1 in cc)
  sound_any f gs s (b ∷ []) st c m e = absurd (cc)
  sound_any f gs s (b ∷ d ∷ x) st c m e =
      let h = (stop_head rules.scripting f.name (b ∷ d ∷ x) m).1 in
      let i : b ≡ 60 = cc in
      subst (λ (y : ℕ). Takes s (y ∷ d ∷ x) st) (sym i)
      (sound_markup f gs s d x st (subst (λ (y : ℕ). IsConf (f ∷ gs) s (y ∷ d ∷ x)) i c)
      (subst (λ (y : ℕ). ends_text rules.scripting f.name (y ∷ d ∷ x) ≡ true) i m) e)
