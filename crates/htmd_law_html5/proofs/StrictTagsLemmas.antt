-- A start tag and an end tag, as the strict grammar spells them, are one token.
use Rattle.std.proofs.Common.{◌≡◌, ◌≢◌, ◌⊎◌, ℕ, zero, suc, ◌<◌, Bool, true, false, not, ◌&&◌, List, [], ◌∷◌, ◌++◌}
use Rattle.std.proofs.Common.{length, map, Option, Some, refl, sym, ap, ◌∙◌, arith, inl, inr, append_assoc}
use Rattle.std.proofs.Common.{length-append, subst}
use Rattle.std.specs.Prelude.{◌==◌, ◌||◌}
use Rattle.std.specs.Char.{is_ascii_alphanumeric, to_ascii_lowercase}
use Rattle.std.specs.List.{list_all}
use Rattle.std.proofs.lemmas.Bool.{and_parts, not-true, eq-eqb}
use Rattle.std.proofs.lemmas.Bool.Decides.{nat_tests}
use Rattle.std.proofs.Math.Bool.{and-false}
use Rattle.htmd_lexical.specs.WhiteSpace.{is_ascii_white_space}
use Rattle.htmd_lexical.specs.AttributePairs.{AttributePair}
use Rattle.htmd_lexical.specs.CharacterClasses.{is_empty, first_is, behind_run, lacks, is_tag_name, is_tag_name_byte}
use Rattle.htmd_lexical.specs.CharacterClasses.{is_attribute_name, are_distinct}
use Rattle.htmd_grammar.specs.Rules.{named_characters}
use Rattle.htmd_grammar.specs.References.{decode}
use Rattle.htmd_grammar.specs.Tags.{IsValue, IsTagRest, decode_values}
use Rattle.htmd_lexical.specs.Attributes.{attribute_names}
use Rattle.htmd_lexical.specs.TagReading.{tag_end, attribute, is_other, quoted_value}
use Rattle.htmd_lexical.proofs.BooleanLemmas.{all_pass}
use Rattle.htmd_lexical.proofs.LeadingRunsLemmas.{halts, front_cut, front_whole}
use Rattle.htmd_grammar.proofs.TagReadingLemmas.{rest_halts, rest_length, white_back}
use Rattle.htmd_grammar.proofs.TagsLemmas.{values_parts, decoded_names}
use Rattle.htmd_html5_tokens.proofs.FirstsLemmas.{distinct_firsts}
use Rattle.htmd_html5_tokens.specs.References.{goes_on}
use Rattle.htmd_html5_tokens.specs.Contents.{has_references, is_text, decoded, name_of}
use Rattle.htmd_html5_tokens.specs.Tags.{is_name_byte, is_gap_byte, ends_in_slash, value_part, after_attribute_name}
use Rattle.htmd_html5_tokens.specs.Tags.{next_part, ended, form_within, attribute_of, firsts, attributes_of}
use Rattle.htmd_html5_tokens.specs.Tags.{tag_from_name}
use Rattle.htmd_html5_tokens.specs.Tokens.{TagValue, TokenValue, Read}
use Rattle.htmd_html5_tokens.specs.RawTexts.{reading_of}
use Rattle.htmd_lexical.specs.declared.content_model.RawElement.TheVariants.{Style}
use Rattle.htmd_grammar.proofs.TextLemmas.{name_bytes}
use Rattle.htmd_law_html5.specs.StrictReferences.{in_tag, IsUnambiguousAt, value_spelled}
use Rattle.htmd_law_html5.specs.StrictTokens.{tag_named}
use Rattle.htmd_law_html5.proofs.StrictBytes.{key_byte, key_head, key_no_null, white_gap, white_ends, white_no_slash}
use Rattle.htmd_law_html5.proofs.StrictBytes.{ends_key, ends_reference, bare_byte, bare_head, ends_bare, name_byte}
use Rattle.htmd_law_html5.proofs.StrictReferencesLemmas.{value_same}
use Rattle.htmd_law_html5.proofs.StrictCuts.{unambiguous_back, unambiguous_front}
use Rattle.htmd_lexical.specs.CharacterClasses as strict
use Rattle.htmd_html5_tokens.specs.Tags as lenient

-- ---- what follows a name or a value

-- what begins with a byte that ends a name
abbrev pub BeginsPast : List ℕ → Type 0
BeginsPast s = (b : ℕ) × (t : List ℕ) × (s ≡ b ∷ t) × (is_name_byte b ≡ false)

gap_begins : (gap s : List ℕ) → list_all is_ascii_white_space gap ≡ true → (gap ≡ [] → BeginsPast s)
    → BeginsPast (gap ++ s)
gap_begins [] s w f = f refl
gap_begins (b ∷ gap) s w f =
    (b, gap ++ s, refl, white_ends b (and_parts (is_ascii_white_space b) (list_all is_ascii_white_space gap) w).0)

-- so does the rest of a tag
pub rest_begins : (attributes : List AttributePair) (present : Bool) (s : List ℕ) → IsTagRest attributes present s
    → BeginsPast s
rest_begins [] true s h = subst BeginsPast (sym h.1) (gap_begins h.0 _ h.2 (λ e. (47, 62 ∷ [], refl, refl)))
rest_begins [] false s h = subst BeginsPast (sym h.1) (gap_begins h.0 _ h.2 (λ e. (62, [], refl, refl)))
rest_begins (a ∷ attributes) present s h =
    subst BeginsPast (sym h.4) (gap_begins h.0 _ h.6 (λ e. absurd (h.5 e)))

-- the rest of a tag after which this comes
record Ends (s x : List ℕ) : Type 0 where
  name : halts is_name_byte (s ++ x) ≡ true
  key : halts lenient.is_attribute_name_byte (s ++ x) ≡ true
  value : halts strict.is_unquoted_byte s ≡ true → halts lenient.is_unquoted_byte (s ++ x) ≡ true
  letter : halts is_ascii_alphanumeric (s ++ x) ≡ true
  semicolon : first_is 59 (s ++ x) ≡ false
  further : goes_on (s ++ x) ≡ false

rest_ends : (attributes : List AttributePair) (present : Bool) (s x : List ℕ) → IsTagRest attributes present s
    → Ends s x
rest_ends attributes present s x h =
    let f = rest_begins attributes present s h in
    let r = ends_reference f.0 f.3 in
    subst (λ t. Ends t x) (sym f.2) (record {
      name = ap not f.3;
      key = ap not (ends_key f.0 f.3);
      value = λ k. ap not (ends_bare f.0 f.3 (not-true (strict.is_unquoted_byte f.0) k));
      letter = ap not r.0;
      semicolon = r.1;
      further = r.2;
    })

-- ---- an attribute

key_bytes : (key : List ℕ) → is_attribute_name key ≡ true → list_all strict.is_attribute_name_byte key ≡ true
key_bytes key e =
    let p = and_parts (not (is_empty key) && list_all strict.is_attribute_name_byte key) _ e in
    (and_parts (not (is_empty key)) (list_all strict.is_attribute_name_byte key) p.0).1

-- its name, after a gap
key_read : (gap key y : List ℕ) → list_all is_ascii_white_space gap ≡ true → is_attribute_name key ≡ true
    → halts lenient.is_attribute_name_byte y ≡ true → next_part (gap ++ (key ++ y)) ≡ after_attribute_name key y
key_read gap [] y w e h = absurd (cc)
key_read gap (b ∷ key) y w e h =
    let all = key_bytes (b ∷ key) e in
    let k = and_parts (strict.is_attribute_name_byte b) (list_all strict.is_attribute_name_byte key) all in
    let d = key_head b k.0 in
    let g = front_cut is_gap_byte gap (b ∷ (key ++ y)) (all_pass is_ascii_white_space is_gap_byte gap white_gap w)
    (ap not d.0) in
    let c = front_cut lenient.is_attribute_name_byte key y
    (all_pass strict.is_attribute_name_byte lenient.is_attribute_name_byte key key_byte k.1) h in
    rw (g.0, g.1, d.1, c.0, c.1) refl

spell_quoted : (q : ℕ) (one two body r x : List ℕ)
    → (((one ++ (61 ∷ two)) ++ (q ∷ (body ++ q ∷ []))) ++ r) ++ x ≡ one
    ++ (61 ∷ (two ++ (q ∷ (body ++ (q ∷ (r ++ x))))))
spell_quoted q one two body r x =
    append_assoc ((one ++ (61 ∷ two)) ++ (q ∷ (body ++ q ∷ []))) r x
    ∙ (append_assoc (one ++ (61 ∷ two)) (q ∷ (body ++ q ∷ [])) (r ++ x)
    ∙ (append_assoc one (61 ∷ two) ((q ∷ (body ++ q ∷ [])) ++ (r ++ x))
    ∙ ap (λ (y : List ℕ). one ++ (61 ∷ (two ++ (q ∷ y)))) (append_assoc body (q ∷ []) (r ++ x))))

spell_bare : (one two body r x : List ℕ) → (((one ++ (61 ∷ two)) ++ body) ++ r) ++ x ≡ one
    ++ (61 ∷ (two ++ (body ++ (r ++ x))))
spell_bare one two body r x =
    append_assoc ((one ++ (61 ∷ two)) ++ body) r x
    ∙ (append_assoc (one ++ (61 ∷ two)) body (r ++ x) ∙ append_assoc one (61 ∷ two) (body ++ (r ++ x)))

quoted_read : (q : ℕ) (key body r : List ℕ) → lacks q body ≡ true
    → quoted_value q key (body ++ (q ∷ r)) ≡ attribute key body r
quoted_read q key body r l =
    let c = front_cut (is_other q) body (q ∷ r) l (ap (λ b. not (not b)) (eq-eqb q q refl)) in
    rw (c.0, c.1) refl

after_equals : (key one two r : List ℕ) → list_all is_ascii_white_space one ≡ true
    → list_all is_ascii_white_space two ≡ true → halts is_ascii_white_space r ≡ true
    → after_attribute_name key (one ++ (61 ∷ (two ++ r))) ≡ value_part key r
after_equals key one two r l m h =
    let b = white_back one (61 ∷ (two ++ r)) l refl in
    let c = white_back two r m h in
    rw (b, c) refl

valued_quoted : (q : ℕ) (key body r : List ℕ) → (q ≡ 34) ⊎ (q ≡ 39) → lacks q body ≡ true
    → (halts is_ascii_white_space (q ∷ (body ++ (q ∷ r))) ≡ true)
    × (value_part key (q ∷ (body ++ (q ∷ r))) ≡ attribute key body r)
valued_quoted q key body r (inl e) l =
    let k = rw e at (quoted_read q key body r l) in
    rw e (refl, k)
valued_quoted q key body r (inr e) l =
    let k = rw e at (quoted_read q key body r l) in
    rw e (refl, k)

valued_bare : (key body r : List ℕ) → body ≢ [] → list_all strict.is_unquoted_byte body ≡ true
    → halts lenient.is_unquoted_byte r ≡ true → (halts is_ascii_white_space (body ++ r) ≡ true)
    × (value_part key (body ++ r) ≡ attribute key body r)
valued_bare key [] r n l h = absurd (n refl)
valued_bare key (b ∷ body) r n l h =
    let k = and_parts (strict.is_unquoted_byte b) (list_all strict.is_unquoted_byte body) l in
    let w = bare_head b k.0 in
    let c = front_cut lenient.is_unquoted_byte (b ∷ body) r
    (all_pass strict.is_unquoted_byte lenient.is_unquoted_byte (b ∷ body) bare_byte l) h in
    rw (ap not w.0) (refl, rw (w.1, w.2) (rw (c.0, c.1) refl))

-- its value, after its name
value_read : (key value r x v : List ℕ) → IsValue value r v → Ends r x
    → first_is 61 (behind_run is_ascii_white_space (r ++ x)) ≡ false
    → after_attribute_name key ((value ++ r) ++ x) ≡ attribute key v (r ++ x)
value_read key value r x v (inl h) n q = rw (h.0, q, h.1) refl
value_read key value r x v (inr (inl h)) n q =
    let w = valued_quoted h.1 key v (r ++ x) h.4 h.5 in
    let e : (value ++ r) ++ x ≡ (h.3).0 ++ (61 ∷ ((h.3).1 ++ (h.1 ∷ (v ++ (h.1 ∷ (r ++ x)))))) =
    ap (λ (y : List ℕ). (y ++ r) ++ x) (h.2 ∙ ap (λ (y : List ℕ). y ++ (h.1 ∷ (v ++ h.1 ∷ []))) (h.3).2)
    ∙ spell_quoted h.1 (h.3).0 (h.3).1 v r x in
    ap (after_attribute_name key) e
    ∙ (after_equals key (h.3).0 (h.3).1 (h.1 ∷ (v ++ (h.1 ∷ (r ++ x)))) (h.3).3 (h.3).4 w.0 ∙ w.1)
value_read key value r x v (inr (inr h)) n q =
    let f = front_whole strict.is_unquoted_byte v r h.4 in
    let w = valued_bare key v (r ++ x) h.3 f.0 (n.value f.1) in
    let e : (value ++ r) ++ x ≡ (h.2).0 ++ (61 ∷ ((h.2).1 ++ (v ++ (r ++ x)))) =
    ap (λ (y : List ℕ). (y ++ r) ++ x) (h.1 ∙ ap (λ (y : List ℕ). y ++ v) (h.2).2)
    ∙ spell_bare (h.2).0 (h.2).1 v r x in
    ap (after_attribute_name key) e ∙ (after_equals key (h.2).0 (h.2).1 (v ++ (r ++ x)) (h.2).3 (h.2).4 w.0 ∙ w.1)

equals_halts : (one r : List ℕ) → list_all is_ascii_white_space one ≡ true
    → halts lenient.is_attribute_name_byte (one ++ (61 ∷ r)) ≡ true
equals_halts [] r l = refl
equals_halts (b ∷ one) r l =
    let k = and_parts (is_ascii_white_space b) (list_all is_ascii_white_space one) l in
    ap not (ends_key b (white_ends b k.0))

value_halts : (value r x v : List ℕ) → IsValue value r v → Ends r x
    → halts lenient.is_attribute_name_byte ((value ++ r) ++ x) ≡ true
value_halts value r x v (inl h) k = rw h.0 (k.key)
value_halts value r x v (inr (inl h)) k =
    let e = spell_quoted h.1 (h.3).0 (h.3).1 v r x in
    rw (h.2, (h.3).2, e) (equals_halts (h.3).0 ((h.3).1 ++ (h.1 ∷ (v ++ (h.1 ∷ (r ++ x))))) (h.3).3)
value_halts value r x v (inr (inr h)) k =
    let e = spell_bare (h.2).0 (h.2).1 v r x in
    rw (h.1, (h.2).2, e) (equals_halts (h.2).0 ((h.2).1 ++ (v ++ (r ++ x))) (h.2).3)

attribute_read : (a : AttributePair) (attributes : List AttributePair) (present : Bool) (s x : List ℕ)
    (h : IsTagRest (a ∷ attributes) present s) → next_part (s ++ x) ≡ attribute h.1 a.value (h.3 ++ x)
attribute_read a attributes present s x h =
    let y : List ℕ = (h.2 ++ h.3) ++ x in
    let n = rest_ends attributes present h.3 x h.10 in
    let r = rest_halts attributes present h.3 x h.10 in
    let v = value_read h.1 h.2 h.3 x a.value h.9 n r.1 in
    let e : s ++ x ≡ h.0 ++ (h.1 ++ y) =
    ap (λ (z : List ℕ). z ++ x) h.4 ∙ (append_assoc h.0 (h.1 ++ (h.2 ++ h.3)) x
    ∙ ap (λ (z : List ℕ). h.0 ++ z) (append_assoc h.1 (h.2 ++ h.3) x)) in
    ap next_part e ∙ (key_read h.0 h.1 y h.6 h.7 (value_halts h.2 h.3 x a.value h.9 n) ∙ v)

-- ---- the end of a tag

slash_last : (gap : List ℕ) → list_all is_ascii_white_space gap ≡ true
    → (ends_in_slash gap ≡ false) × (ends_in_slash (gap ++ 47 ∷ []) ≡ true)
slash_last [] w = (refl, refl)
slash_last (b ∷ []) w = (white_no_slash b (and_parts (is_ascii_white_space b) true w).0, refl)
slash_last (b ∷ c ∷ gap) w =
    slash_last (c ∷ gap) (and_parts (is_ascii_white_space b) (list_all is_ascii_white_space (c ∷ gap)) w).1

end_read : (gap x : List ℕ) → list_all is_gap_byte gap ≡ true → next_part (gap ++ (62 ∷ x)) ≡ tag_end
    (ends_in_slash gap) x
end_read gap x w = let g = front_cut is_gap_byte gap (62 ∷ x) w refl in rw (g.0, g.1) refl

gap_slash : (gap : List ℕ) → list_all is_ascii_white_space gap ≡ true → list_all is_gap_byte
    (gap ++ 47 ∷ []) ≡ true
gap_slash [] w = refl
gap_slash (b ∷ gap) w =
    let k = and_parts (is_ascii_white_space b) (list_all is_ascii_white_space gap) w in
    rw (white_gap b k.0, gap_slash gap k.1) refl

tag_ends : (present : Bool) (s x : List ℕ) → IsTagRest [] present s → next_part (s ++ x) ≡ tag_end present x
tag_ends false s x h =
    let e : s ++ x ≡ h.0 ++ (62 ∷ x) = ap (λ (y : List ℕ). y ++ x) h.1 ∙ append_assoc h.0 (62 ∷ []) x in
    ap next_part e ∙ end_read h.0 x (all_pass is_ascii_white_space is_gap_byte h.0 white_gap h.2)
    ∙ ap (λ b. tag_end b x) (slash_last h.0 h.2).0
tag_ends true s x h =
    let e : s ++ x ≡ (h.0 ++ 47 ∷ []) ++ (62 ∷ x) =
    ap (λ (y : List ℕ). y ++ x) h.1 ∙ append_assoc h.0 (47 ∷ 62 ∷ []) x
    ∙ sym (append_assoc h.0 (47 ∷ []) (62 ∷ x)) in
    ap next_part e ∙ end_read (h.0 ++ 47 ∷ []) x (gap_slash h.0 h.2) ∙ ap (λ b. tag_end b x)
    (slash_last h.0 h.2).1

-- ---- all attributes

-- with what the value stands for
abbrev valued : AttributePair → AttributePair
valued a = record { name = a.name; value = value_spelled a.value }

pub raw_itself : (r : _) → has_references r ≡ false → is_text r ≡ false → (s : List ℕ) → lacks 0
    s ≡ true → decoded r 0 s ≡ s
raw_itself r f t [] e = refl
raw_itself r f t (b ∷ s) e =
    let k = and_parts (not (b == 0)) (lacks 0 s) e in
    let z = not-true (b == 0) k.0 in
    rw (f, t, and-false (b == 38), and-false (b == 60), z, raw_itself r f t s k.1) refl

key_same : (a : AttributePair) (key : List ℕ) → is_attribute_name key ≡ true → map to_ascii_lowercase
    key ≡ a.name → attribute_of (record { name = key; value = a.value }) ≡ valued a
key_same a key e f =
    let clean = all_pass strict.is_attribute_name_byte (λ b. not (b == 0)) key key_no_null (key_bytes key e) in
    let n = ap (map to_ascii_lowercase) (raw_itself (reading_of Style) refl refl key clean) ∙ f in
    rw n refl

form_read : (spelled : List AttributePair) (present : Bool) (k : ℕ) (s x : List ℕ) → IsTagRest spelled present s
    → length spelled < k → (raw : List AttributePair) × (form_within k (s ++ x) ≡ ended raw present x)
    × (map attribute_of raw ≡ map valued spelled)
form_read spelled present zero s x h l = absurd (omega arith)
form_read [] present (suc k) s x h l = ([], rw (tag_ends present s x h) refl, refl)
form_read (a ∷ spelled) present (suc k) s x h l =
    let t = attribute_read a spelled present s x h in
    let i = form_read spelled present k h.3 x h.10 (omega arith) in (
      record { name = h.1; value = a.value } ∷ i.0,
      rw (t, i.1) refl,
      rw (key_same a h.1 h.7 h.8, i.2) refl,
    )

value_unambiguous : (value r x v : List ℕ) → IsValue value r v → Ends r x
    → IsUnambiguousAt in_tag (value ++ (r ++ x)) → IsUnambiguousAt in_tag v
value_unambiguous value r x v (inl h) n k = rw h.1 (record { line_feeds = refl; no_null = refl; references_end = refl })
value_unambiguous value r x v (inr (inl h)) n k =
    let e : value ++ (r ++ x) ≡ h.0 ++ (h.1 ∷ (v ++ (h.1 ∷ (r ++ x)))) =
    ap (λ (y : List ℕ). y ++ (r ++ x)) h.2 ∙ append_assoc h.0 (h.1 ∷ (v ++ h.1 ∷ [])) (r ++ x)
    ∙ ap (λ (y : List ℕ). h.0 ++ (h.1 ∷ y)) (append_assoc v (h.1 ∷ []) (r ++ x)) in
    let q = quote h.4 in
    let m = unambiguous_back (h.1 ∷ []) (v ++ (h.1 ∷ (r ++ x)))
    (unambiguous_back h.0 (h.1 ∷ (v ++ (h.1 ∷ (r ++ x)))) (subst (IsUnambiguousAt in_tag) e k)) in
    unambiguous_front v (h.1 ∷ (r ++ x)) m (ap not q.0) q.1 q.2
  where
    quote : {q : ℕ} → (q ≡ 34) ⊎ (q ≡ 39) → (is_ascii_alphanumeric q ≡ false) × ((q == 59) ≡ false)
        × (((q == 61) || is_ascii_alphanumeric q) ≡ false)
    quote (inl e) = rw e (refl, refl, refl)
    quote (inr e) = rw e (refl, refl, refl)
value_unambiguous value r x v (inr (inr h)) n k =
    let e = ap (λ (y : List ℕ). y ++ (r ++ x)) h.1 ∙ append_assoc h.0 v (r ++ x) in
    unambiguous_front v (r ++ x) (unambiguous_back h.0 (v ++ (r ++ x)) (subst (IsUnambiguousAt in_tag) e k)) n.letter
    n.semicolon n.further

values_same : (spelled : List AttributePair) (present : Bool) (s x : List ℕ) (attributes : List AttributePair)
    → IsTagRest spelled present s → IsUnambiguousAt in_tag (s ++ x) → decode_values named_characters spelled
    ≡ Some attributes → map valued spelled ≡ attributes
values_same [] present s x attributes h k e =
    let q : ◌≡◌ {A = Option (List AttributePair)} (Some []) (Some attributes) = e in cc
values_same (a ∷ spelled) present s x attributes h k e =
    let w = values_parts a.name (decode named_characters 0 a.value) (decode_values named_characters spelled)
    attributes e in
    let n = rest_ends spelled present h.3 x h.10 in
    let q : s ++ x ≡ h.0 ++ (h.1 ++ (h.2 ++ (h.3 ++ x))) =
    ap (λ (y : List ℕ). y ++ x) h.4 ∙ append_assoc h.0 (h.1 ++ (h.2 ++ h.3)) x
    ∙ ap (λ (y : List ℕ). h.0 ++ y) (append_assoc h.1 (h.2 ++ h.3) x)
    ∙ ap (λ (y : List ℕ). h.0 ++ (h.1 ++ y)) (append_assoc h.2 h.3 x) in
    let m = unambiguous_back h.1 (h.2 ++ (h.3 ++ x))
    (unambiguous_back h.0 (h.1 ++ (h.2 ++ (h.3 ++ x))) (subst (IsUnambiguousAt in_tag) q k)) in
    let v = value_same a.value w.0 (value_unambiguous h.2 h.3 x a.value h.9 n m) w.2 in
    let i = values_same spelled present h.3 x w.1 h.10 (unambiguous_back h.2 (h.3 ++ x) m) w.3 in
    rw (v, i) (sym w.4)

-- ---- the tag

name_lower : (name : List ℕ) → list_all is_tag_name_byte name ≡ true → name_of name ≡ map to_ascii_lowercase
    name
name_lower name e =
    ap (map to_ascii_lowercase) (raw_itself (reading_of Style) refl refl name
    (all_pass is_tag_name_byte (λ b. not (b == 0)) name (λ b f. grind (arith, nat_tests)) e))

abbrev read : TokenValue → List ℕ → Read
read token rest = record { token = token; rest = rest }

-- a tag from its name on
pub tag_read : (kind : TagValue → TokenValue) (name n : List ℕ) (spelled attributes : List AttributePair)
    (present : Bool) (s x : List ℕ) → is_tag_name name ≡ true → map to_ascii_lowercase name ≡ n
    → IsTagRest spelled present s → IsUnambiguousAt in_tag (s ++ x)
    → decode_values named_characters spelled ≡ Some attributes → are_distinct (attribute_names spelled) ≡ true
    → tag_from_name kind (name ++ (s ++ x)) ≡ read (kind (tag_named n attributes present)) x
tag_read kind name n spelled attributes present s x t l h k d distinct =
    let bytes = name_bytes name t in
    let ends = rest_ends spelled present s x h in
    let c = front_cut is_name_byte name (s ++ x) (all_pass is_tag_name_byte is_name_byte name name_byte bytes)
    ends.name in
    let long : length spelled < suc (length (s ++ x)) =
    omega (arith, rest_length spelled present s h, length-append s x) in
    let f = form_read spelled present (suc (length (s ++ x))) s x h long in
    let keys = ap are_distinct (sym (decoded_names named_characters spelled attributes d)) ∙ distinct in
    let all : attributes_of f.0 ≡ attributes =
    ap (firsts []) (f.2 ∙ values_same spelled present s x attributes h k d) ∙ sym (distinct_firsts attributes keys)
    in rw (c.0, c.1, f.1) (rw (name_lower name bytes, l, all) refl)
