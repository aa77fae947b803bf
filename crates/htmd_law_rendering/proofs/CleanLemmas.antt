-- Each reference in what trees are spelled as has its `;`.
use Rattle.std.proofs.Common.{◌≡◌, ℕ, Bool, true, false, not, List, [], ◌∷◌, ◌++◌, refl, sym, subst, codes}
use Rattle.std.specs.List.{flat_map}
use Rattle.std.specs.Prelude.{◌==◌, ◌||◌}
use Rattle.std.specs.Str.{bytes_eq}
use Rattle.std.proofs.lemmas.Bool.{and_parts, not-true, eqb-true}
use Rattle.std.proofs.lemmas.List.{append_assoc, append-nil}
use Rattle.htmd_lexical.proofs.BooleanLemmas.{and_false, all_pass}
use Rattle.htmd_lexical.proofs.Cases.{test}
use Rattle.htmd_lexical.specs.AttributePairs.{AttributePair}
use Rattle.htmd_lexical.specs.CharacterClasses.{first_is, behind_run, lacks, is_among, is_tag_name_byte}
use Rattle.std.specs.Char.{is_ascii_alphanumeric}
use Rattle.htmd_document.specs.Tags.{in_value, in_text, escaped_text}
use Rattle.htmd_html5_tokens.specs.NamedReferences.{longest_old, old_names}
use Rattle.htmd_values.specs.Serialisation.{is_void, end_tag}
use Rattle.htmd_grammar.specs.Nesting.{Context}
use Rattle.htmd_grammar.proofs.TextLemmas.{name_bytes}
use Rattle.htmd_law_html5.specs.StrictReferences.{Place, has_bare_reference, is_bare_reference, counts, is_in_tag}
use Rattle.htmd_law_html5.specs.StrictReferences.{place_after}
use Rattle.htmd_commonmark_reading.specs.Rendering.{escaped_byte, escaped}
use Rattle.htmd_law_rendering.specs.SpelledTrees.{Spelled, SpelledForest, text, element, lone, section, none, more}
use Rattle.htmd_law_rendering.specs.SpelledTrees.{document_keys}
use Rattle.htmd_law_rendering.specs.SpelledTrees.{value_in, attribute_in, TagForm, spaced, slashed, short}
use Rattle.htmd_law_rendering.specs.SpelledTrees.{end_of_void}
use Rattle.htmd_law_rendering.specs.SpelledTrees.{tag_end, tag, spelled, all_spelled}
use Rattle.htmd_law_rendering.proofs.SpellingLemmas.{element-spelled, void-spelled}
use Rattle.htmd_law_rendering.proofs.TagLemmas.{IsTreeName, AreTreeKeys}
use Rattle.htmd_law_rendering.proofs.FittingLemmas.{FitsTree, Fits}

-- wherever the text begins
abbrev pub IsClean : List ℕ → Type 0
IsClean s = (p : Place) → has_bare_reference p s ≡ false

-- before what is clean it is
abbrev pub KeepsClean : List ℕ → Type 0
KeepsClean s = (z : List ℕ) → IsClean z → IsClean (s ++ z)

both : (s t : List ℕ) → KeepsClean s → KeepsClean t → KeepsClean (s ++ t)
both s t f g z h = subst IsClean (sym (append_assoc s t z)) (f (t ++ z) (g z h))

plain : (s : List ℕ) → lacks 38 s ≡ true → KeepsClean s
plain [] a z h p = h p
plain (b ∷ s) a z h p =
    let q = and_parts (not (b == 38)) (lacks 38 s) a in
    rw (not-true (b == 38) q.0) (plain s q.1 z h (place_after p b (s ++ z)))

-- ---- references

with_end : (v : Bool) (s : List ℕ) → first_is 59 (behind_run is_ascii_alphanumeric s) ≡ true
    → is_bare_reference v s ≡ false
with_end v s e = rw e (and_false (counts v (longest_old s) s))

reference : (s : List ℕ) → KeepsClean s → ((v : Bool) (z : List ℕ) → is_bare_reference v (s ++ z) ≡ false)
    → KeepsClean (38 ∷ s)
reference s f bare z h p = rw (bare (is_in_tag p) z) (f z h (place_after p 38 (s ++ z)))

amp : KeepsClean (codes "&amp;")
amp = reference (codes "amp;") (plain (codes "amp;") refl) (λ v z. with_end v (codes "amp;" ++ z) refl)

lt : KeepsClean (codes "&lt;")
lt = reference (codes "lt;") (plain (codes "lt;") refl) (λ v z. with_end v (codes "lt;" ++ z) refl)

gt : KeepsClean (codes "&gt;")
gt = reference (codes "gt;") (plain (codes "gt;") refl) (λ v z. with_end v (codes "gt;" ++ z) refl)

quot : KeepsClean (codes "&quot;")
quot = reference (codes "quot;") (plain (codes "quot;") refl) (λ v z. with_end v (codes "quot;" ++ z) refl)

bar : KeepsClean (codes "&#124;")
unfolding old_names
bar = reference (codes "#124;") (plain (codes "#124;") refl) (λ v z. refl)

bracket : KeepsClean (codes "&#93;")
unfolding old_names
bracket = reference (codes "#93;") (plain (codes "#93;") refl) (λ v z. refl)

one : (b : ℕ) → (b == 38) ≡ false → KeepsClean (b ∷ [])
one b e = plain (b ∷ []) (rw e refl)

byte-clean : (b : ℕ) → KeepsClean (escaped_byte b)
byte-clean b =
    test (b == 38) (λ t. rw t amp) (λ t.
    test (b == 60) (λ p. rw (t, p) lt) (λ p.
    test (b == 62) (λ q. rw (t, p, q) gt) (λ q.
    test (b == 34) (λ r. rw (t, p, q, r) quot) (λ r.
    rw (t, p, q, r) (one b t)))))

value_byte-clean : (b : ℕ) → KeepsClean (in_value b)
value_byte-clean b =
    test (b == 38) (λ t. rw t amp) (λ t.
    test (b == 60) (λ p. rw (t, p) lt) (λ p.
    test (b == 62) (λ q. rw (t, p, q) gt) (λ q.
    test (b == 34) (λ r. rw (t, p, q, r) quot) (λ r.
    test (b == 124) (λ v. rw (t, p, q, r, v) bar) (λ v.
    test (b == 93) (λ w. rw (t, p, q, r, v, w) bracket) (λ w.
    rw (t, p, q, r, v, w) (one b t)))))))

text_byte-clean : (b : ℕ) → KeepsClean (in_text b)
text_byte-clean b =
    test (b == 38) (λ t. rw t amp) (λ t.
    test (b == 60) (λ p. rw (t, p) lt) (λ p.
    rw (t, p) (one b t)))

bytes : (byte : ℕ → List ℕ) → ((b : ℕ) → KeepsClean (byte b)) → (s : List ℕ)
    → KeepsClean (flat_map byte s)
bytes byte f [] = λ z h. h
bytes byte f (b ∷ s) = both (byte b) (flat_map byte s) (f b) (bytes byte f s)

text-clean : (s : List ℕ) → KeepsClean (escaped s)
text-clean s = bytes escaped_byte byte-clean s

value-clean : (n k s : List ℕ) → KeepsClean (value_in n k s)
value-clean n k s =
    test (bytes_eq n (codes "abbr") || is_among document_keys k)
    (λ e. rw e (bytes in_value value_byte-clean s)) (λ e. rw e (text-clean s))

-- ---- names

no_name_byte : (c b : ℕ) → is_tag_name_byte c ≡ false → is_tag_name_byte b ≡ true → not (b == c) ≡ true
no_name_byte c b e h =
    test (b == c)
    (λ q. let v = subst (λ n. is_tag_name_byte n ≡ true) (eqb-true b c q) h in absurd (cc)) (λ q. rw q refl)

name-clean : (n : List ℕ) → IsTreeName n → KeepsClean n
name-clean n t =
    plain n (all_pass is_tag_name_byte (λ b. not (b == 38)) n (λ b h. no_name_byte 38 b refl h) (name_bytes n t.0))

-- ---- trees

pairs-clean : (n : List ℕ) (attributes : List AttributePair) → AreTreeKeys attributes
    → KeepsClean (flat_map (attribute_in n) attributes)
pairs-clean n [] k = λ z h. h
pairs-clean n (a ∷ attributes) k =
    both (attribute_in n a) (flat_map (attribute_in n) attributes)
    (both (codes " " ++ a.name ++ codes "=\"" ++ value_in n a.name a.value) (codes "\"")
    (both (codes " " ++ a.name ++ codes "=\"") (value_in n a.name a.value)
    (both (codes " " ++ a.name) (codes "=\"")
    (both (codes " ") a.name (plain (codes " ") refl) (plain a.name k.2))
    (plain (codes "=\"") refl))
    (value-clean n a.name a.value))
    (plain (codes "\"") refl))
    (pairs-clean n attributes k.3)

void-clean : (s : TagForm) → KeepsClean (end_of_void s)
void-clean spaced = plain (codes " />") refl
void-clean slashed = plain (codes "/>") refl
void-clean short = plain (codes ">") refl

tag_end-clean : (s : TagForm) (n : List ℕ) → KeepsClean (tag_end s n)
tag_end-clean s n = test (is_void n) (λ e. rw e (void-clean s)) (λ e. rw e (plain (codes ">") refl))

tag-clean : (s : TagForm) (n : List ℕ) (attributes : List AttributePair) → IsTreeName n → AreTreeKeys attributes
    → KeepsClean (tag s n attributes)
tag-clean s n attributes t k =
    both (codes "<" ++ n ++ flat_map (attribute_in n) attributes) (tag_end s n)
    (both (codes "<" ++ n) (flat_map (attribute_in n) attributes)
    (both (codes "<") n (plain (codes "<") refl) (name-clean n t)) (pairs-clean n attributes k))
    (tag_end-clean s n)

end_tag-clean : (n : List ℕ) → IsTreeName n → KeepsClean (end_tag n)
end_tag-clean n t =
    both (codes "</" ++ n) (codes ">") (both (codes "</") n (plain (codes "</") refl) (name-clean n t))
    (plain (codes ">") refl)

module _ (z : Bool) where
  mutual
    tree-clean : (t : Spelled) (c : Context) → FitsTree z c t → KeepsClean (spelled t)
    tree-clean (text u) c f = text-clean u
    tree-clean (element k n attributes ks) c f =
        test (is_void n)
        (λ v. subst KeepsClean (sym (void-spelled k n attributes ks v)) (tag-clean k n attributes f.1 f.2.0))
        (λ v. let e = rw v at f.3 in
        subst KeepsClean (sym (element-spelled k n attributes ks v))
        (both (tag k n attributes ++ all_spelled ks) (end_tag n)
        (both (tag k n attributes) (all_spelled ks) (tag-clean k n attributes f.1 f.2.0)
        (trees-clean ks (n ∷ c) e.1))
        (end_tag-clean n f.1)))
    tree-clean (lone n attributes s) c f =
        both (tag spaced n attributes ++ escaped_text s) (end_tag n)
        (both (tag spaced n attributes) (escaped_text s) (tag-clean spaced n attributes f.1 f.2.0)
        (bytes in_text text_byte-clean s))
        (end_tag-clean n f.1)
    tree-clean (section rows) c f = trees-clean rows (codes "tbody" ∷ c) f.2

    trees-clean : (ts : SpelledForest) (c : Context) → Fits z c ts → KeepsClean (all_spelled ts)
    trees-clean none c f = λ z h. h
    trees-clean (more t ts) c f =
        both (spelled t) (all_spelled ts) (tree-clean t c f.0) (trees-clean ts c f.2)

  pub spelled-clean : (ts : SpelledForest) (c : Context) → Fits z c ts → IsClean (all_spelled ts)
  spelled-clean ts c f = subst IsClean (append-nil (all_spelled ts)) (trees-clean ts c f [] (λ p. refl))
