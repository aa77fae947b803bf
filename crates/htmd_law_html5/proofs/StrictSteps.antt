-- Tokens that are read one after another; a text and a comment of the strict grammar, and what follows a text.
use Rattle.std.proofs.Common.{◌≡◌, ◌≢◌, ℕ, zero, suc, ◌<◌, ◌≤◌, Bool, true, false, not, ◌&&◌, List, [], ◌∷◌, ◌++◌}
use Rattle.std.proofs.Common.{length, if◌then◌else◌}
use Rattle.std.proofs.Common.{Some, refl, sym, ap, ◌∙◌, arith, inl, inr, codes, subst, append_assoc, length-append}
use Rattle.std.proofs.lemmas.Bool.{and_parts, or_parts, not-true}
use Rattle.std.proofs.lemmas.List.{append-nil}
use Rattle.htmd_lexical.specs.AttributePairs.{AttributePair}
use Rattle.htmd_values.specs.ValueTrees.{ValueTree, ValueForest, none, more, text}
use Rattle.htmd_values.specs.ValueTrees.{comment, element}
use Rattle.htmd_lexical.specs.CharacterClasses.{is_among, up_to}
use Rattle.htmd_grammar.specs.Grammar.{Apart, begins_with_row, may_end_rows, tag_name_at, ReadsTree, ReadsForest}
use Rattle.htmd_grammar.specs.Nesting.{Context, is_table, is_tbody, is_table_part}
use Rattle.htmd_grammar.specs.RawContent.{holds_text_alone, holds_raw_text, ends_text, begins_markup, text_of}
use Rattle.htmd_grammar.specs.RawContent.{content_of}
use Rattle.htmd_grammar.proofs.NestingLemmas.{one_name}
use Rattle.htmd_lexical.specs.Characters.{less_than_sign}
use Rattle.std.specs.Char.{is_ascii_alphabetic}
use Rattle.std.specs.Bool.{MatchBool}
use Rattle.std.specs.Prelude.{◌||◌, ◌==◌}
use Rattle.htmd_grammar.specs.Rules.{named_characters, project}
use Rattle.htmd_grammar.specs.References.{decode}
use Rattle.htmd_grammar.specs.Tags.{IsStartTag, IsEndTag}
use Rattle.htmd_values.specs.Serialisation.{is_void}
use Rattle.htmd_lexical.proofs.Cases.{test}
use Rattle.htmd_grammar.proofs.TreeTexts.{Inside, IsTextTree, row_start}
use Rattle.htmd_html5_tokens.specs.Tokens.{TokenValue}
use Rattle.htmd_html5_tokens.specs.NextToken.{next_token}
use Rattle.htmd_lexical.specs.declared.content_model.ContentModel.{ContentModel}
use Rattle.htmd_lexical.specs.declared.content_model.ContentModel.TheVariants.{Normal}
use Rattle.htmd_html5.specs.Html5Documents.{is_end}
use Rattle.htmd_law_html5.specs.StrictReferences.{in_tag, IsUnambiguousAt, IsUnambiguous}
use Rattle.htmd_law_html5.specs.StrictTokens.{content_after, tokens_within, SpellsTree, SpellsForest, is_set_aside}
use Rattle.htmd_law_html5.specs.StrictTokens.{may_be_implied, is_simple_tree, is_simple, is_simple_table}
use Rattle.htmd_law_html5.specs.StrictTokens.{is_simple_body, SpellsTable}
use Rattle.htmd_law_html5.proofs.StrictReferencesLemmas.{Ending}
use Rattle.htmd_law_html5.proofs.StrictCuts.{unambiguous_in_tag, unambiguous_past, unambiguous_after_sign, EndsInSign}
use Rattle.htmd_law_html5.proofs.StrictCuts.{unambiguous_back}
use Rattle.htmd_law_html5.proofs.StrictCuts.{sign_before, start_sign, end_sign}
use Rattle.htmd_law_html5.proofs.StrictTokenCuts.{read, start_read, comment_read, comment_sign, text_token_read}
use Rattle.htmd_law_html5.proofs.StrictRawTexts.{text_nothing, stop_same}
use Rattle.htmd_html5_tokens.specs.Tokens as tokens
use Rattle.htmd_html5_tokens.specs.NextToken as next

pub section_plain : (z : Bool) → holds_text_alone z (codes "tbody") ≡ false
section_plain true = refl
section_plain false = refl

-- the tag of a part of a table is markup
pub part_markup : (s x : List ℕ) → is_table_part (tag_name_at s) ≡ true → next.begins_markup (s ++ x) ≡ true
part_markup [] x e = absurd (cc)
part_markup (b ∷ []) x e = absurd (cc)
part_markup (b ∷ c ∷ s) x e =
    test (b == less_than_sign && is_ascii_alphabetic c)
    (λ t. let k = and_parts (b == less_than_sign) (is_ascii_alphabetic c) t in rw (k.0, k.1) refl)
    (λ t. absurd (let w = rw t at e in cc))

module _ (z : Bool) where
  -- ---- reading tokens one after another

  -- from one content and text to another these tokens are read
  pub data Run : ContentModel → List ℕ → List TokenValue → ContentModel → List ℕ → Type 0 where
    here : {now : ContentModel} {s : List ℕ} → Run now s [] now s
    onward : {now after : ContentModel} {s left : List ℕ} {tokens : List TokenValue} (token : TokenValue)
        (rest : List ℕ)
        → next_token now false s ≡ read token rest → is_end token ≡ false → length rest < length s
        → Run (content_after z now token) rest tokens after left → Run now s (token ∷ tokens) after left

  pub joined : {a b c : ContentModel} {s t u : List ℕ} {xs ys : List TokenValue} → Run a s xs b t → Run b t ys c u
      → Run a s (xs ++ ys) c u
  joined here q = q
  joined (onward token rest e f l r) q = onward token rest e f l (joined r q)

  pub from_content : {now other after : ContentModel} {s left : List ℕ} {xs : List TokenValue} → other ≡ now
      → Run now s xs after left → Run other s xs after left
  from_content e r = rw e r

  pub from_text : {now after : ContentModel} {s t left : List ℕ} {xs : List TokenValue} → t ≡ s
      → Run now s xs after left → Run now t xs after left
  from_text e r = rw e r

  pub nothing_left : (k : ℕ) → tokens_within z k Normal [] ≡ []
  nothing_left zero = refl
  nothing_left (suc k) = refl

  pub all_read : (k : ℕ) {now after : ContentModel} {s left : List ℕ} {xs : List TokenValue}
      → Run now s xs after left
      → after ≡ Normal → left ≡ [] → length s ≤ k → tokens_within z k now s ≡ xs
  all_read k here e f l = rw (e, f) (nothing_left k)
  all_read zero (onward token rest e f l r) g h m = absurd (omega arith)
  all_read (suc k) (onward token rest e f l r) g h m =
      rw (e, f) (ap (λ (y : List TokenValue). token ∷ y) (all_read k r g h (omega arith)))

  -- the tokens of what stands before the rest
  abbrev pub Made : (List TokenValue → Type 0) → List ℕ → List ℕ → Type 0
  Made Spells s rest = (xs : List TokenValue) × Spells xs × Run Normal (s ++ rest) xs Normal rest

  pub shorter : (s x : List ℕ) → s ≢ [] → length x < length (s ++ x)
  shorter [] x n = absurd (n refl)
  shorter (b ∷ s) x n = let l = length-append s x in omega arith

  pub one_token : (token : TokenValue) (s rest : List ℕ) → s ≢ []
      → next_token Normal false (s ++ rest) ≡ read token rest → is_end token ≡ false
      → content_after z Normal token ≡ Normal → Run Normal (s ++ rest) (token ∷ []) Normal rest
  one_token token s rest n e f c = onward token rest e f (shorter s rest n) (from_content c here)

  -- ---- trees

  abbrev pub TreeRun : ValueTree → Type 0
  TreeRun t = (p : List ℕ) (c : Context) (last : Bool) (s rest : List ℕ) → ReadsTree (project z) (p ∷ c) last t
      s → holds_text_alone z p ≡ false → is_simple_tree t ≡ true → IsUnambiguous (s ++ rest)
      → (IsTextTree t ≡ true → Ending rest) → Made (SpellsTree t) s rest

  -- the trees that a table holds
  abbrev pub TableRun : ValueForest → Type 0
  TableRun ts = (p : List ℕ) (c : Context) (last : Bool) (s rest : List ℕ) → ReadsForest (project z) (p ∷ c)
      last ts s
      → holds_text_alone z p ≡ false → is_simple_table ts ≡ true → IsUnambiguous (s ++ rest) → Ending rest
      → Made (SpellsTable ts) s rest

  abbrev pub ForestRun : ValueForest → Type 0
  ForestRun ts = (p : List ℕ) (c : Context) (last : Bool) (s rest : List ℕ) → ReadsForest (project z) (p ∷ c)
      last ts s
      → holds_text_alone z p ≡ false → is_simple ts ≡ true → IsUnambiguous (s ++ rest) → Ending rest
      → Made (SpellsForest ts) s rest

  pub tag_filled : (tag n : List ℕ) (attributes : List AttributePair) → IsStartTag named_characters tag n attributes
      → tag ≢ []
  tag_filled tag n attributes h e = let q = sym (h.2).2 ∙ e in cc

  pub end_filled : (tag n : List ℕ) → IsEndTag tag n → tag ≢ []
  end_filled tag n h e = let q = sym h.2 ∙ e in cc

  -- ---- texts and comments

  pub plain_text : (p : List ℕ) → holds_text_alone z p ≡ false → (holds_raw_text z p ≡ false)
  plain_text p e = (or_parts (is_among (codes "title" ∷ codes "textarea" ∷ []) p) (holds_raw_text z p) e).1

  pub text_run : (u : List ℕ) → TreeRun (text u)
  text_run u p c last s rest h e o k st =
      let f = plain_text p e in
      let d : decode named_characters 0 s ≡ Some u = rw f at h.2 in
      let same : (t : List ℕ) → begins_markup t ≡ ends_text z p t = λ t. rw e refl in
      let l : up_to begins_markup s ≡ s = stop_same begins_markup (ends_text z p) same s ∙ h.1 in
      let filled : s ≢ [] = λ q. h.0 (text_nothing z p u (ap (text_of (project z) p) (sym q) ∙ h.2)) in (
        tokens.text u ∷ [],
        refl,
        one_token (tokens.text u) s rest filled (text_token_read s u rest filled d l (st refl) k) refl refl,
      )

  pub comment_run : (u : List ℕ) → TreeRun (comment u)
  comment_run u p c last s rest h e o k st =
      let r = comment_read s u rest h.0 (unambiguous_in_tag (s ++ rest) k) in
      let filled : s ≢ [] = λ q. (let w = sym (h.0).2 ∙ q in cc) in
      (tokens.comment u ∷ [], refl, one_token (tokens.comment u) s rest filled r.0 refl refl)

  -- ---- what follows a text

  -- what a simple element is, and that its tags stand there
  pub simple_parts : (n : List ℕ) (attributes : List AttributePair) (ks : ValueForest)
      → is_simple_tree (element n attributes ks) ≡ true
      → (is_set_aside n ≡ false) × (may_be_implied n ks ≡ false)
      × ((if is_table n then is_simple_table ks else is_simple ks) ≡ true)
  simple_parts n attributes ks o =
      let inner = if is_table n then is_simple_table ks else is_simple ks in
      let parts = and_parts (not (is_set_aside n) && not (may_be_implied n ks)) inner o in
      let own = and_parts (not (is_set_aside n)) (not (may_be_implied n ks)) parts.0 in
      (not-true (is_set_aside n) own.0, not-true (may_be_implied n ks) own.1, parts.1)

  pub not_implied : (n : List ℕ) (ks : ValueForest) → may_be_implied n ks ≡ false → is_tbody n ≡ true
      → begins_with_row ks ≡ true → ⊥
  not_implied n ks a t b = let w = rw (t, b) at a in cc

  -- what rows without the tags of their `tbody` begin with
  rows_begin : (ks : ValueForest) (c : Context) (s x : List ℕ) → ReadsForest (project z) c true ks s
      → begins_with_row ks ≡ true → IsUnambiguousAt in_tag (s ++ x) → next.begins_markup (s ++ x) ≡ true
  rows_begin ks c s x h b k =
      let r = row_start (project z) ks c true s h b in
      let q : s ++ x ≡ r.0 ++ (r.1 ++ x) = ap (λ (y : List ℕ). y ++ x) r.3 ∙ append_assoc r.0 r.1 x in
      ap next.begins_markup q
      ∙ (start_read r.0 (codes "tr") (r.1 ++ x) r.2 r.4 (subst (IsUnambiguousAt in_tag) q k)).3

  -- a text ends at the end, or before markup
  pub text_ending : (t : ValueTree) (ts : ValueForest) (p : List ℕ) (c : Context) (last : Bool) (s rest : List ℕ)
      → IsTextTree t ≡ true → Apart t ts → ReadsForest (project z) (p ∷ c) last ts s
      → IsUnambiguousAt in_tag (s ++ rest) → Ending rest → Ending (s ++ rest)
  text_ending t none p c last s rest i a h k st = rw h st
  text_ending (text u) (more (text v) ts) p c last s rest i a h k st = absurd a
  text_ending _ (more (text v) ts) p c last s rest i a h k st = absurd (cc)
  text_ending t (more (comment v) ts) p c last s rest i a h k st =
      let q = ap (λ (y : List ℕ). y ++ rest) h.2 ∙ append_assoc h.0 h.1 rest in
      inr (ap next.begins_markup q ∙ (comment_read h.0 v (h.1
      ++ rest) (h.4).0 (subst (IsUnambiguousAt in_tag) q k)).1)
  text_ending t (more (element n attributes ks) ts) p c last s rest i a h k st = go (h.4).2
    where
      go : Inside (project z) (p ∷ c) (may_end_rows last ts h.1) n attributes ks h.0 → Ending (s ++ rest)
      go (inl w) =
          let q : s ++ rest ≡ w.0 ++ ((w.1 ++ w.2) ++ (h.1 ++ rest)) =
          ap (λ (y : List ℕ). y ++ rest) h.2 ∙ append_assoc h.0 h.1 rest
          ∙ ap (λ (y : List ℕ). y ++ (h.1 ++ rest)) w.3 ∙ append_assoc w.0 (w.1 ++ w.2) (h.1 ++ rest) in
          inr (ap next.begins_markup q
          ∙ (start_read w.0 n ((w.1 ++ w.2) ++ (h.1 ++ rest)) attributes w.4 (subst (IsUnambiguousAt in_tag) q k)).3)
      go (inr w) =
          let q : s ++ rest ≡ w.0 ++ (w.1 ++ (h.1 ++ rest)) =
          ap (λ (y : List ℕ). y ++ rest) h.2 ∙ append_assoc h.0 h.1 rest
          ∙ ap (λ (y : List ℕ). y ++ (h.1 ++ rest)) w.2 ∙ append_assoc w.0 w.1 (h.1 ++ rest) in
          inr (ap next.begins_markup q
          ∙ rows_begin ks (n ∷ p ∷ c) w.0 (w.1 ++ (h.1 ++ rest)) w.6 w.5 (subst (IsUnambiguousAt in_tag) q k))
  text_ending t (more _ ts) p c last s rest i a h k st = absurd (h.4)

  -- what follows tags is unambiguous
  after_tags : (n : List ℕ) (attributes : List AttributePair) (ks : ValueForest) (c : Context) (s x : List ℕ)
      (tag inner end : List ℕ) → s ≡ tag ++ (inner ++ end) → IsStartTag named_characters tag n attributes
      → MatchBool (is_void n) ((inner ≡ []) × (end ≡ []) × (ks ≡ none))
      (ReadsForest (project z) (n ∷ c) true ks (content_of n inner) × IsEndTag end n)
      → IsUnambiguous (s ++ x) → IsUnambiguous x
  after_tags n attributes ks c s x tag inner end e start within k =
      test (is_void n)
      (λ v. let m = rw v at within in
      let q : s ≡ tag =
      e ∙ ap (λ (y : List ℕ). tag ++ (y ++ end)) m.0 ∙ ap (λ (y : List ℕ). tag ++ y) m.1
      ∙ append-nil tag in
      unambiguous_after_sign s x (subst EndsInSign (sym q) (start_sign tag n attributes start)) k)
      (λ v. let m = rw v at within in
      unambiguous_after_sign s x (subst EndsInSign (sym e)
      (sign_before tag (inner ++ end) (sign_before inner end (end_sign end n m.1)))) k)

  -- what follows a tree is unambiguous
  pub unambiguous_after : (t : ValueTree) (p : List ℕ) (c : Context) (last : Bool) (s x : List ℕ)
      → ReadsTree (project z) (p ∷ c) last t s → holds_text_alone z p ≡ false → is_simple_tree t ≡ true
      → (IsTextTree t ≡ true → Ending x) → IsUnambiguous (s ++ x) → IsUnambiguous x
  unambiguous_after (text u) p c last s x h e o st k =
      let same : (t : List ℕ) → begins_markup t ≡ ends_text z p t = λ t. rw e refl in
      let l : up_to begins_markup s ≡ s = stop_same begins_markup (ends_text z p) same s ∙ h.1 in
      unambiguous_past s x l (st refl) k
  unambiguous_after (comment u) p c last s x h e o st k = unambiguous_after_sign s x (comment_sign s u h.0) k
  unambiguous_after (element n attributes ks) p c last s x h e o st k = go h.2
    where
      spelled : may_be_implied n ks ≡ false
      spelled = (simple_parts n attributes ks o).1

      go : Inside (project z) (p ∷ c) last n attributes ks s → IsUnambiguous x
      go (inl w) = after_tags n attributes ks (p ∷ c) s x w.0 w.1 w.2 w.3 w.4 w.5 k
      go (inr w) = absurd (not_implied n ks spelled w.3 w.5)
  unambiguous_after _ p c last s x h e o st k = absurd h

  -- and so is what follows trees
  unambiguous_behind : (ts : ValueForest) (p : List ℕ) (c : Context) (last : Bool) (s x : List ℕ)
      → ReadsForest (project z) (p ∷ c) last ts s → holds_text_alone z p ≡ false → is_simple ts ≡ true
      → Ending x → IsUnambiguous (s ++ x) → IsUnambiguous x
  unambiguous_behind none p c last s x h e o st k = rw h at k
  unambiguous_behind (more t ts) p c last s x h e o st k =
      let b = and_parts (is_simple_tree t) (is_simple ts) o in
      let q = ap (λ (y : List ℕ). y ++ x) h.2 ∙ append_assoc h.0 h.1 x in
      let i = subst IsUnambiguous q k in
      let follows : IsTextTree t ≡ true → Ending (h.1 ++ x) =
      λ f. text_ending t ts p c last h.1 x f h.3 h.5 (unambiguous_back h.0 (h.1 ++ x) i) st in
      unambiguous_behind ts p c last h.1 x h.5 e b.1 st
      (unambiguous_after t p c (may_end_rows last ts h.1) h.0 (h.1 ++ x) h.4 e b.0 follows i)

  -- and what follows a part of a table
  pub unambiguous_part : (t : ValueTree) (p : List ℕ) (c : Context) (last : Bool) (s x : List ℕ)
      → ReadsTree (project z) (p ∷ c) last t s → holds_text_alone z p ≡ false
      → (is_simple_tree t || is_simple_body t) ≡ true
      → (IsTextTree t ≡ true → Ending x) → (last ≡ true → Ending x) → IsUnambiguous (s ++ x)
      → IsUnambiguous x
  unambiguous_part (element n attributes ks) p c last s x h e o st ends k =
      test (is_simple_tree (element n attributes ks))
      (λ t. unambiguous_after (element n attributes ks) p c last s x h e t st k)
      (λ t. go (and_parts (may_be_implied n ks) (is_simple ks) (rw t at o)).1 h.2)
    where
      go : is_simple ks ≡ true → Inside (project z) (p ∷ c) last n attributes ks s → IsUnambiguous x
      go b (inl w) = after_tags n attributes ks (p ∷ c) s x w.0 w.1 w.2 w.3 w.4 w.5 k
      go b (inr w) = elim w.7 [
        | inl g ↦ unambiguous_after_sign s x (subst EndsInSign (sym w.2) (sign_before w.0 w.1 (end_sign w.1 n g))) k
        | inr g ↦
            let q : s ≡ w.0 = w.2 ∙ ap (λ (y : List ℕ). w.0 ++ y) g.0 ∙ append-nil w.0 in
            let plain : holds_text_alone z n ≡ false =
            ap (holds_text_alone z) (one_name (codes "tbody") n w.3) ∙ section_plain z in
            unambiguous_behind ks n (p ∷ c) true w.0 x w.6 plain b (ends g.1)
            (subst (λ (y : List ℕ). IsUnambiguous (y ++ x)) q k)
      ]
  unambiguous_part (text u) p c last s x h e o st ends k = unambiguous_after (text u) p c last s x h e refl st k
  unambiguous_part (comment u) p c last s x h e o st ends k =
      unambiguous_after (comment u) p c last s x h e refl st k
  unambiguous_part _ p c last s x h e o st ends k = absurd h
