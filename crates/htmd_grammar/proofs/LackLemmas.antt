-- A byte below 32 that the strings of a tree lack is not in its serialisation.
use Rattle.std.proofs.Common.{Bool, List, [], arith, codes, false, inl, inr, not, refl, rules, subst, true, ℕ, ◌&&◌}
use Rattle.std.proofs.Common.{◌++◌, ◌<◌, ◌∷◌, ◌≡◌}
use Rattle.std.proofs.lemmas.Bool.Decides.{nat_tests}
use Rattle.std.specs.Char.{is_ascii_alphabetic}
use Rattle.std.specs.List.{flat_map, list_all}
use Rattle.std.specs.Prelude.{nat_le, ◌==◌}
use Rattle.std.proofs.lemmas.Bool.{and_parts}
use Rattle.htmd_lexical.specs.CharacterClasses.{holds_control, is_attribute_name, is_attribute_name_byte, is_empty}
use Rattle.htmd_lexical.specs.CharacterClasses.{is_tag_name, is_tag_name_byte, lacks}
use Rattle.htmd_grammar.specs.Grammar.{ReadsForest, ReadsTree, may_end_rows}
use Rattle.htmd_grammar.specs.Nesting.{Context}
use Rattle.htmd_grammar.specs.RawContent.{content_of}
use Rattle.htmd_grammar.specs.ReadBack.{all_read_alone, reads_alone, attribute_reads_alone, is_special}
use Rattle.htmd_grammar.specs.Rules.{Rules}
use Rattle.htmd_values.specs.Serialisation.{all_markup_of, attribute_text, end_tag, escaped_html, is_no_break_space}
use Rattle.htmd_values.specs.Serialisation.{is_raw_text, is_void, markup_of, serialisation, start_tag, text_byte}
use Rattle.htmd_values.specs.Serialisation.{value_byte}
use Rattle.htmd_lexical.specs.Attributes.{attribute_names}
use Rattle.htmd_lexical.specs.AttributePairs.{AttributePair}
use Rattle.htmd_values.specs.ValueTrees.{ValueForest, ValueTree, comment, doctype, document, element}
use Rattle.htmd_values.specs.ValueTrees.{more, none, text}
use Rattle.htmd_lexical.proofs.BooleanLemmas.{all_pass, lacks-append}
use Rattle.htmd_grammar.proofs.NestingLemmas.{one_name}
use Rattle.htmd_grammar.proofs.TagsLemmas.{AreTreeKeys, IsTreeName, decoded_names, tree_keys, tree_name}
use Rattle.htmd_grammar.proofs.TreeTexts.{Inside}
use Rattle.htmd_lexical.proofs.Cases.{test}

abbrev mutual
  -- the texts, comments and values of a tree lack the byte
  pub strings_lack : ℕ → ValueTree → Bool
  strings_lack k (document ks) = false
  strings_lack k doctype = false
  strings_lack k (text u) = lacks k u
  strings_lack k (comment u) = lacks k u
  strings_lack k (element n attributes ks) = list_all (λ a. lacks k a.value) attributes && all_lack k ks

  pub all_lack : ℕ → ValueForest → Bool
  all_lack k none = true
  all_lack k (more t ts) = strings_lack k t && all_lack k ts

module _ (k : ℕ) (low : k < 32) where
  high : (s : List ℕ) → list_all (λ c. nat_le 32 c) s ≡ true → lacks k s ≡ true
  high s e = all_pass (λ c. nat_le 32 c) (λ c. not (c == k)) s (λ b h. grind (arith, nat_tests)) e

  name_high : (n : List ℕ) → is_tag_name n ≡ true → lacks k n ≡ true
  name_high [] e = absurd (cc)
  name_high (b ∷ n) e =
      let p = and_parts (is_ascii_alphabetic b) (list_all is_tag_name_byte n) e in
      rw (letter_high b p.0, all_pass is_tag_name_byte (λ c. not (c == k)) n byte_high p.1) refl
    where
      letter_high : (b : ℕ) → is_ascii_alphabetic b ≡ true → (b == k) ≡ false
      letter_high b e = grind (arith, nat_tests)

      byte_high : (b : ℕ) → is_tag_name_byte b ≡ true → not (b == k) ≡ true
      byte_high b e = grind (arith, nat_tests)

  key_high : (n : List ℕ) → is_attribute_name n ≡ true → lacks k n ≡ true
  key_high n e =
      let p = and_parts (not (is_empty n) && list_all is_attribute_name_byte n) (not (holds_control n)) e in
      all_pass is_attribute_name_byte (λ c. not (c == k)) n byte_high
      (and_parts (not (is_empty n)) (list_all is_attribute_name_byte n) p.0).1
    where
      byte_high : (b : ℕ) → is_attribute_name_byte b ≡ true → not (b == k) ≡ true
      byte_high b e = grind (arith, nat_tests)

  text_byte_lacks : (b : ℕ) → not (b == k) ≡ true → lacks k (text_byte b) ≡ true
  text_byte_lacks b e =
      test (b == 0x26) (λ q. rw q (high (codes "&amp;") refl))
      (λ q. test (b == 0x3C) (λ r. rw (q, r) (high (codes "&lt;") refl)) (λ r.
      test (b == 0x3E) (λ t. rw (q, r, t) (high (codes "&gt;") refl)) (λ t. rw (q, r, t) (rw e refl))))

  value_byte_lacks : (b : ℕ) → not (b == k) ≡ true → lacks k (value_byte b) ≡ true
  value_byte_lacks b e = test (b == 0x26) (λ q. rw q (high (codes "&amp;") refl))
      (λ q. test (b == 0x22) (λ r. rw (q, r) (high (codes "&quot;") refl)) (λ r. rw (q, r) (rw e refl)))

  escaped_lacks : (byte : ℕ → List ℕ) → ((b : ℕ) → not (b == k) ≡ true → lacks k (byte b) ≡ true)
      → (s : List ℕ)
      → lacks k s ≡ true → lacks k (escaped_html byte s) ≡ true
  escaped_lacks byte h [] e = refl
  escaped_lacks byte h (b ∷ []) e = h b (and_parts (not (b == k)) true e).0
  escaped_lacks byte h (b ∷ c ∷ s) e =
      let p = and_parts (not (b == k)) (lacks k (c ∷ s)) e in
      let q = and_parts (not (c == k)) (lacks k s) p.1 in
      test (is_no_break_space b c)
      (λ t. rw t (lacks-append k (codes "&nbsp;") (escaped_html byte s) (high (codes "&nbsp;") refl)
      (escaped_lacks byte h s q.1)))
      (λ t. rw t (lacks-append k (byte b) (escaped_html byte (c ∷ s)) (h b p.0)
      (escaped_lacks byte h (c ∷ s) p.1)))

  attributes_lack : (attributes : List AttributePair) → AreTreeKeys (attribute_names attributes)
      → list_all (λ a. lacks k a.value) attributes ≡ true → lacks k (flat_map attribute_text attributes) ≡ true
  attributes_lack [] h e = refl
  attributes_lack (a ∷ attributes) h e =
      let p = and_parts (lacks k a.value) (list_all (λ a. lacks k a.value) attributes) e in
      let key : lacks k (codes " " ++ a.name) ≡ true = lacks-append k (codes " ") a.name (high (codes " ") refl)
      (key_high a.name h.0) in
      let eq : lacks k ((codes " " ++ a.name) ++ codes "=\"") ≡ true =
      lacks-append k (codes " " ++ a.name) (codes "=\"") key (high (codes "=\"") refl) in
      let value : lacks k (((codes " " ++ a.name) ++ codes "=\"") ++ escaped_html value_byte a.value) ≡ true =
      lacks-append k ((codes " " ++ a.name) ++ codes "=\"") (escaped_html value_byte a.value) eq
      (escaped_lacks value_byte value_byte_lacks a.value p.0) in
      let whole : lacks k (attribute_text a) ≡ true =
      lacks-append k (((codes " " ++ a.name) ++ codes "=\"") ++ escaped_html value_byte a.value) (codes "\"") value
      (high (codes "\"") refl) in
      lacks-append k (attribute_text a) (flat_map attribute_text attributes) whole (attributes_lack attributes h.2 p.1)

  start_lacks : (n : List ℕ) (attributes : List AttributePair) → IsTreeName n
      → AreTreeKeys (attribute_names attributes)
      → list_all (λ a. lacks k a.value) attributes ≡ true → lacks k (start_tag n attributes) ≡ true
  start_lacks n attributes t h e =
      lacks-append k (60 ∷ n ++ flat_map attribute_text attributes) (codes ">")
      (lacks-append k (60 ∷ n) (flat_map attribute_text attributes)
      (lacks-append k (codes "<") n (high (codes "<") refl) (name_high n t.0)) (attributes_lack attributes h e))
      (high (codes ">") refl)

  end_lacks : (n : List ℕ) → IsTreeName n → lacks k (end_tag n) ≡ true
  end_lacks n t = lacks-append k (60 ∷ 47 ∷ n) (codes ">") (lacks-append k (codes "</") n (high (codes "</") refl)
      (name_high n t.0)) (high (codes ">") refl)

  module _ (rules : Rules) where
    element_lacks : (c : Context) (l raw : Bool) (n : List ℕ) (attributes : List AttributePair) (ks : ValueForest)
        (s : List ℕ) → ((y : List ℕ) → ReadsForest rules (n ∷ c) true ks y
        → lacks k (all_markup_of (is_raw_text n) ks)
        ≡ true)
        → ReadsTree rules c l (element n attributes ks) s → list_all (λ a. lacks k a.value) attributes ≡ true
        → lacks k (markup_of raw (element n attributes ks)) ≡ true
    element_lacks c l raw n attributes ks s ih h e = go h.2
      where
        put_together : IsTreeName n → AreTreeKeys (attribute_names attributes)
            → (is_void n ≡ false → lacks k (all_markup_of (is_raw_text n) ks) ≡ true)
            → lacks k (markup_of raw (element n attributes ks)) ≡ true
        put_together t a i = test (is_void n)
            (λ v. rw v (start_lacks n attributes t a e))
            (λ v. rw v (lacks-append k (start_tag n attributes ++ all_markup_of (is_raw_text n) ks) (end_tag n)
            (lacks-append k (start_tag n attributes) (all_markup_of (is_raw_text n) ks)
            (start_lacks n attributes t a e) (i v)) (end_lacks n t)))

        go : Inside rules c l n attributes ks s → lacks k (markup_of raw (element n attributes ks)) ≡ true
        go (inl w) = put_together (tree_name ((w.4).2).0 n ((w.4).2).3 ((w.4).2).4)
            (subst AreTreeKeys (decoded_names rules.names (w.4).0 attributes (w.4).3)
            (tree_keys (w.4).0 (w.4).1 ((w.4).2).1 ((w.4).2).5))
            (λ v. let m = rw v at w.5 in ih (content_of n w.1) m.0)
        go (inr w) = put_together (rw (one_name (codes "tbody") n w.3) (refl, refl)) (rw w.4 tt) (λ v. ih w.0 w.6)

    mutual
      pub node_lacks : (t : ValueTree) (c : Context) (l raw : Bool) (s : List ℕ) → ReadsTree rules c l t s
          → strings_lack k t ≡ true → lacks k (markup_of raw t) ≡ true
      node_lacks (document ks) c l raw s h e = absurd h
      node_lacks doctype c l raw s h e = absurd h
      node_lacks (text u) c l true s h e = e
      node_lacks (text u) c l false s h e = escaped_lacks text_byte text_byte_lacks u e
      node_lacks (comment u) c l raw s h e = lacks-append k (60 ∷ 33 ∷ 45 ∷ 45 ∷ u) (codes "-->")
          (lacks-append k (codes "<!--") u (high (codes "<!--") refl) e) (high (codes "-->") refl)
      node_lacks (element n attributes ks) c l raw s h e =
          let p = and_parts (list_all (λ a. lacks k a.value) attributes) (all_lack k ks) e in
          element_lacks c l raw n attributes ks s (λ y g. nodes_lack ks (n ∷ c) true (is_raw_text n) y g p.1) h p.0

      pub nodes_lack : (ts : ValueForest) (c : Context) (l raw : Bool) (s : List ℕ) → ReadsForest rules c l ts s
          → all_lack k ts ≡ true → lacks k (all_markup_of raw ts) ≡ true
      nodes_lack none c l raw s h e = refl
      nodes_lack (more t ts) c l raw s h e =
          let p = and_parts (strings_lack k t) (all_lack k ts) e in
          lacks-append k (markup_of raw t) (all_markup_of raw ts)
          (node_lacks t c (may_end_rows l ts h.1) raw h.0 h.4 p.0) (nodes_lack ts c l raw h.1 h.5 p.1)

mutual
  pub plain_lacks : (t : ValueTree) → reads_alone t ≡ true → strings_lack 13 t ≡ true
  plain_lacks (document ks) e = absurd (cc)
  plain_lacks doctype e = absurd (cc)
  plain_lacks (text u) e = e
  plain_lacks (comment u) e = absurd (cc)
  plain_lacks (element n attributes ks) e =
      let p = and_parts (not (is_special n) && list_all attribute_reads_alone attributes) (all_read_alone ks) e in
      let q = and_parts (not (is_special n)) (list_all attribute_reads_alone attributes) p.0 in
      rw (q.1, plains_lack ks p.1) refl

  pub plains_lack : (ts : ValueForest) → all_read_alone ts ≡ true → all_lack 13 ts ≡ true
  plains_lack none e = refl
  plains_lack (more t ts) e = let p = and_parts (reads_alone t) (all_read_alone ts) e in
      rw (plain_lacks t p.0, plains_lack ts p.1) refl

-- no carriage return in what the serialiser writes of a plain tree that was read
pub ser_no_carriage_return : (rules : Rules) (t : ValueTree) (c : Context) (l : Bool) (s : List ℕ)
    → ReadsTree rules c l t s → reads_alone t ≡ true → lacks 13 (serialisation t) ≡ true
ser_no_carriage_return rules t c l s h p = node_lacks 13 (omega arith) rules t c l false s h (plain_lacks t p)
