-- The text of an element that holds only text, and the end tag after it.
use Rattle.std.proofs.Common.{◌≡◌, ◌≢◌, ◌⊎◌, ℕ, Bool, true, false, not, ◌&&◌, List, [], ◌∷◌, ◌++◌, length, take, drop}
use Rattle.std.proofs.Common.{Some, refl, sym, ap, ◌∙◌, inl, inr, codes, subst}
use Rattle.std.specs.Str.{bytes_eq}
use Rattle.std.proofs.lemmas.List.{append-nil}
use Rattle.std.proofs.lemmas.Bool.{not-true}
use Rattle.htmd_lexical.proofs.Cases.{test}
use Rattle.htmd_values.specs.ValueTrees.{ValueForest, none, more, text, comment, element}
use Rattle.htmd_lexical.specs.CharacterClasses.{is_among, up_to}
use Rattle.htmd_lexical.specs.LineEnds.{normalized}
use Rattle.htmd_grammar.specs.Grammar.{ReadsForest}
use Rattle.htmd_grammar.specs.Nesting.{Context, is_outside}
use Rattle.htmd_grammar.specs.RawContent.{holds_text_alone, holds_raw_text, ends_text, text_of}
use Rattle.htmd_lexical.specs.EndTags.{begins_own_end}
use Rattle.htmd_grammar.specs.RawContent.{drops_line_feed}
use Rattle.htmd_grammar.specs.Rules.{project}
use Rattle.htmd_values.specs.Serialisation.{is_void, void_elements}
use Rattle.htmd_lexical.proofs.BytesLemmas.{same_bytes}
use Rattle.htmd_grammar.proofs.NestingLemmas.{among_passes}
use Rattle.htmd_grammar.proofs.TextLemmas.{run_of-append}
use Rattle.htmd_grammar.proofs.TreeTexts.{node_no_title}
use Rattle.htmd_html5_tokens.specs.Contents.{decoded}
use Rattle.htmd_html5_tokens.specs.RawTexts.{reading_of, raw_text_len, own_text_len}
use Rattle.htmd_html5_tokens.specs.Tags.{tag_from_name}
use Rattle.htmd_html5_tokens.specs.Tokens.{end_tag}
use Rattle.htmd_html5_tokens.specs.NextToken.{next_token}
use Rattle.htmd_lexical.specs.declared.content_model.ContentModel.TheVariants.{Normal, Raw}
use Rattle.htmd_lexical.specs.declared.content_model.RawElement.{RawElement}
use Rattle.htmd_lexical.proofs.LeadingRunsLemmas.{filled}
use Rattle.htmd_law_html5.specs.StrictReferences.{outside, after_title, IsUnambiguousAt}
use Rattle.htmd_law_html5.specs.StrictTokens.{content_in, is_set_aside}
use Rattle.htmd_law_html5.proofs.StrictReferencesLemmas.{title_same}
use Rattle.htmd_law_html5.proofs.StrictCuts.{content_place}
use Rattle.htmd_law_html5.proofs.StrictTagsLemmas.{raw_itself}
use Rattle.htmd_law_html5.proofs.StrictTokenCuts.{read, lines_same}
use Rattle.htmd_html5_tokens.specs.Tokens as tokens
use Rattle.htmd_lexical.specs.declared.content_model.RawElement.TheVariants as raw

-- ---- which content an element has

pub is_name : (n m : List ℕ) {P : Type 0} → (n ≡ m → P) → (bytes_eq n m ≡ false → P) → P
is_name n m f g = test (bytes_eq n m) (λ t. f (same_bytes n m t)) g

-- an element that doesn't hold only text
pub normal_content : (z : Bool) (n : List ℕ) → holds_text_alone z n ≡ false → is_outside n ≡ false
    → content_in z n ≡ Normal
normal_content z n e o =
    is_name n (codes "title") (λ t. absurd (let w = rw t at e in cc))
    (λ a. is_name n (codes "textarea") (λ t. absurd (let w = rw t at e in cc))
    (λ b. is_name n (codes "style") (λ t. absurd (let w = rw t at e in cc))
    (λ c. is_name n (codes "script") (λ t. absurd (let w = rw t at e in cc))
    (λ d. is_name n (codes "xmp") (λ t. absurd (let w = rw t at e in cc))
    (λ f. is_name n (codes "iframe") (λ t. absurd (let w = rw t at e in cc))
    (λ g. is_name n (codes "noembed") (λ t. absurd (let w = rw t at e in cc))
    (λ h. is_name n (codes "noframes") (λ t. absurd (let w = rw t at e in cc))
    (λ i. is_name n (codes "plaintext") (λ t. absurd (let w = rw t at o in cc)) (λ j. is_name n (codes "noscript")
    (λ t. test z (λ y. absurd (let w = rw (t, y) at e in cc)) (λ y. rw (t, y) refl))
    (λ k. rw (a, b, c, d, f, g, h, i, j, k) refl))))))))))

void_holds_none : (z : Bool) → (n : List ℕ) → is_void n ≡ true → not (holds_text_alone z n) ≡ true
unfolding is_void
void_holds_none true n e = among_passes (λ m. not (holds_text_alone true m)) void_elements n e refl
void_holds_none false n e = among_passes (λ m. not (holds_text_alone false m)) void_elements n e refl

pub void_content : (z : Bool) (n : List ℕ) → is_void n ≡ true → holds_text_alone z n ≡ false
void_content z n e = not-true (holds_text_alone z n) (void_holds_none z n e)

-- what an element that holds only text is to the tokenizer
pub record IsRaw (z : Bool) (n : List ℕ) (kind : RawElement) : Type 0 where
  pub content : content_in z n ≡ Raw kind
  pub size : (s : List ℕ) → raw_text_len kind s ≡ own_text_len n s
  pub text : (s u : List ℕ) → IsUnambiguousAt (content_place n) s → text_of (project z) n s ≡ Some u
      → decoded (reading_of kind) 0 s ≡ u

title_text : (z : Bool) → holds_raw_text z (codes "title") ≡ false
title_text true = refl
title_text false = refl

is_title : (z : Bool) (s u : List ℕ) → IsUnambiguousAt after_title s
    → text_of (project z) (codes "title") s ≡ Some u → decoded (reading_of raw.Title) 0 s ≡ u
is_title z s u k e = let w = rw (title_text z) at e in title_same s u k w

plain : (kind : RawElement) (s u : List ℕ) → IsUnambiguousAt outside s → Some (normalized s) ≡ Some u
    → reading_of kind ≡ reading_of raw.Style → decoded (reading_of kind) 0 s ≡ u
plain kind s u k e f =
    let q : normalized s ≡ u = cc in
    ap (λ r. decoded r 0 s) f ∙ raw_itself (reading_of raw.Style) refl refl s k.no_null ∙ sym
    (lines_same s k.line_feeds) ∙ q

pub raw_content : (z : Bool) (n : List ℕ) → holds_text_alone z n ≡ true → is_set_aside n ≡ false
    → (kind : RawElement) × IsRaw z n kind
raw_content z n e o =
    is_name n (codes "title") (λ t. subst Found (sym t)
    (raw.Title, record { content = refl; size = λ s. refl; text = λ s u k w. is_title z s u k w }))
    (λ a. is_name n (codes "textarea") (λ t. absurd (let w = rw t at o in cc))
    (λ b. is_name n (codes "script") (λ t. absurd (let w = rw t at o in cc)) (λ c. is_name n (codes "style")
    (λ t. subst Found (sym t)
    (raw.Style, record { content = refl; size = λ s. refl; text = λ s u k w. plain raw.Style s u k w refl }))
    (λ d. is_name n (codes "iframe") (λ t. subst Found (sym t)
    (raw.Iframe, record { content = refl; size = λ s. refl; text = λ s u k w. plain raw.Iframe s u k w refl }))
    (λ f. is_name n (codes "noembed") (λ t. subst Found (sym t)
    (raw.Noembed, record { content = refl; size = λ s. refl; text = λ s u k w. plain raw.Noembed s u k w refl }))
    (λ g. is_name n (codes "noframes") (λ t. subst Found (sym t)
    (raw.Noframes, record { content = refl; size = λ s. refl; text = λ s u k w. plain raw.Noframes s u k w refl }))
    (λ h. is_name n (codes "xmp") (λ t. subst Found (sym t)
    (raw.Xmp, record { content = refl; size = λ s. refl; text = λ s u k w. plain raw.Xmp s u k w refl }))
    (λ i. is_name n (codes "noscript") (λ t. subst Found (sym t) (no_script z (rw t at e)))
    (λ j. absurd (none_left z (rw (a, b, c, d, f, g, h, i, j) at e)))))))))))
  where
    Found : List ℕ → Type 0
    Found n = (kind : RawElement) × IsRaw z n kind

    no_script : (z : Bool) → holds_text_alone z (codes "noscript") ≡ true
        → (kind : RawElement) × IsRaw z (codes "noscript") kind
    no_script true e = (
      raw.Noscript,
      record { content = refl; size = λ s. refl; text = λ s u k w. plain raw.Noscript s u k w refl },
    )
    no_script false e = absurd (cc)

    none_left : (z : Bool) → (z && false) ≡ true → ⊥
    none_left true e = cc
    none_left false e = cc

-- ---- what drops a line feed

pub pre_plain : (z : Bool) (n : List ℕ) → drops_line_feed n ≡ true → is_set_aside n ≡ false
    → holds_text_alone z n ≡ false
pre_plain z n d a =
    is_name n (codes "pre") (λ t. test z (λ y. rw (t, y) refl) (λ y. rw (t, y) refl))
    (λ f. is_name n (codes "textarea") (λ t. absurd (let w = rw t at a in cc))
    (λ g. absurd (let w = rw (f, g) at d in cc)))

pub raw_keeps : (z : Bool) (n : List ℕ) → holds_text_alone z n ≡ true → is_set_aside n ≡ false
    → drops_line_feed n ≡ false
raw_keeps z n e a =
    is_name n (codes "pre")
    (λ t. test z (λ y. absurd (let w = rw (t, y) at e in cc)) (λ y. absurd (let w = rw (t, y) at e in cc)))
    (λ f. is_name n (codes "textarea") (λ t. absurd (let w = rw t at a in cc)) (λ g. rw (f, g) refl))

-- ---- what such an element holds

-- no text denotes nothing
pub text_nothing : (z : Bool) (n u : List ℕ) → text_of (project z) n [] ≡ Some u → u ≡ []
text_nothing z n u e =
    test (holds_raw_text z n) (λ t. test (is_among (codes "script" ∷ []) n)
    (λ q. let w = rw (t, q) at e in cc)
    (λ q. let w = rw (t, q) at e in cc))
    (λ t. let w = rw t at e in cc)

pub raw_children : (z : Bool) (n : List ℕ) (c : Context) (last : Bool) (children : ValueForest) (s : List ℕ)
    → ReadsForest (project z) (n ∷ c) last children s → holds_text_alone z n ≡ true
    → ((children ≡ none) × (s ≡ []))
    ⊎ ((u : List ℕ) × (children ≡ more (text u) none) × (s ≢ []) × (up_to (ends_text z n) s ≡ s)
    × (text_of (project z) n s ≡ Some u))
raw_children z n c last none s h e = inl (refl, h)
raw_children z n c last (more (comment u) ts) s h e = absurd (let f = (h.4).1 in cc)
raw_children z n c last (more (element m attributes ks) ts) s h e =
    absurd (let f = node_no_title (project z) n (element m attributes ks) c _ h.0 refl h.4 in cc)
raw_children z n c last (more (text u) none) s h e =
    let k = h.4 in
    let q : s ≡ h.0 = h.2 ∙ ap (λ (y : List ℕ). h.0 ++ y) h.5 ∙ append-nil h.0 in
    let filled : h.0 ≢ [] = λ x. k.0 (text_nothing z n u (ap (text_of (project z) n) (sym x) ∙ k.2)) in
    rw q (inr (u, refl, filled, k.1, k.2))
raw_children z n c last (more (text u) (more (text v) ts)) s h e = absurd (h.3)
raw_children z n c last (more (text u) (more (comment v) ts)) s h e = absurd (let f = ((h.5).4).1 in cc)
raw_children z n c last (more (text u) (more (element m attributes ks) ts)) s h e =
    absurd (let f = node_no_title (project z) n (element m attributes ks) c _ (h.5).0 refl (h.5).4 in cc)
raw_children z n c last (more (text u) (more _ ts)) s h e = absurd ((h.5).4)
raw_children z n c last (more _ ts) s h e = absurd (h.4)

-- ---- its tokens

pub stop_same : (p q : List ℕ → Bool) → ((s : List ℕ) → p s ≡ q s) → (s : List ℕ) → up_to p
    s ≡ up_to q s
stop_same p q e [] = refl
stop_same p q e (b ∷ s) = rw (e (b ∷ s), stop_same p q e s) refl

own_run : (z : Bool) (n s x : List ℕ) → holds_text_alone z n ≡ true → up_to (ends_text z n) s ≡ s
    → ends_text z n x ≡ true → own_text_len n (s ++ x) ≡ length s
own_run z n s x e l k =
    let same : (t : List ℕ) → begins_own_end n t ≡ ends_text z n t = λ t. rw e refl in
    ap length (stop_same (begins_own_end n) (ends_text z n) same (s ++ x) ∙ (run_of-append z n s x l (inr k)).0)

front_taken : (s x : List ℕ) → (take (length s) (s ++ x) ≡ s) × (drop (length s) (s ++ x) ≡ x)
front_taken [] x = (refl, refl)
front_taken (b ∷ s) x = let i = front_taken s x in (ap (λ (y : List ℕ). b ∷ y) i.0, i.1)

pub raw_text_next : (z : Bool) (n : List ℕ) (kind : RawElement) (s u x : List ℕ) → IsRaw z n kind
    → holds_text_alone z n ≡ true → s ≢ [] → up_to (ends_text z n) s ≡ s → ends_text z n x ≡ true
    → text_of (project z) n s ≡ Some u → IsUnambiguousAt (content_place n) s
    → next_token (Raw kind) false (s ++ x) ≡ read (tokens.text u) x
raw_text_next z n kind s u x r e f l k t m =
    let size : raw_text_len kind (s ++ x) ≡ length s = r.size (s ++ x) ∙ own_run z n s x e l k in
    let front = front_taken s x in
    rw (size, front.0, front.1, filled s f, r.text s u m t) refl

pub raw_end_next : (z : Bool) (n : List ℕ) (kind : RawElement) (x s : List ℕ) → IsRaw z n kind
    → holds_text_alone z n ≡ true → ends_text z n x ≡ true → x ≡ 60 ∷ 47 ∷ s
    → next_token (Raw kind) false x ≡ tag_from_name end_tag s
raw_end_next z n kind x s r e k f =
    let size : raw_text_len kind x ≡ 0 = r.size x ∙ own_run z n [] x e refl k in
    rw size (rw f refl)
