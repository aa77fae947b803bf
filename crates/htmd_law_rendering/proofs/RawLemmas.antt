-- What raw tags are spelled as, and how they pair.
use Rattle.std.proofs.Common.{◌≡◌, ℕ, Bool, true, false, List, [], ◌∷◌, ◌++◌, refl, sym, ap, ◌∙◌, codes, Option, Some}
use Rattle.std.proofs.Common.{None, drop, subst}
use Rattle.std.specs.List.{list_all}
use Rattle.std.specs.Prelude.{⊤, not, ◌&&◌, if◌then◌else◌}
use Rattle.std.specs.Str.{bytes_eq}
use Rattle.std.proofs.lemmas.Bool.{and_parts, not-true}
use Rattle.std.proofs.lemmas.List.{append_assoc, append-nil}
use Rattle.htmd_lexical.proofs.BytesLemmas.{same_bytes}
use Rattle.htmd_lexical.proofs.Cases.{test}
use Rattle.htmd_lexical.specs.AttributePairs.{AttributePair}
use Rattle.htmd_lexical.specs.Attributes.{attribute_names}
use Rattle.htmd_lexical.specs.CharacterClasses.{are_distinct, is_among}
use Rattle.htmd_values.specs.Serialisation.{is_void, end_tag}
use Rattle.htmd_grammar.specs.Nesting.{is_tbody}
use Rattle.htmd_grammar.proofs.NestingLemmas.{among_passes}
use Rattle.htmd_document.specs.Tags.{anchor_tag, abbreviation_tag, escaped_value, end_of_anchor}
use Rattle.htmd_commonmark_reading.specs.Anchors.{value, anchor_id, abbreviation_title}
use Rattle.htmd_commonmark_reading.specs.SeenMarkup.{Tag, tags, abbreviation, closing_tag, role_among, role_by_title}
use Rattle.htmd_law_rendering.specs.RawTags.{RawTag, opening, closing, breaking, unknown, pairs_of, tag_by_role}
use Rattle.htmd_law_rendering.specs.RawTags.{tag_by_id, raw_tag}
use Rattle.htmd_law_rendering.proofs.RawNames.{raw_names}
use Rattle.htmd_law_rendering.specs.SpelledTrees.{spaced, SpelledForest, tag, all_spelled}
use Rattle.htmd_law_rendering.specs.RenderedTrees.{Behind, Open, opened, with_raw}
use Rattle.htmd_law_rendering.specs.PlainReadings.{opened_names, names_with}
use Rattle.htmd_law_rendering.proofs.TagLemmas.{AreTreeKeys}
use Rattle.htmd_law_rendering.proofs.SpellingLemmas.{element-spelled, titled}

-- ---- tags

-- what a raw tag is spelled as, and that its element may stand in lines
abbrev pub IsRaw : List ℕ → RawTag → Type 0
IsRaw s (opening n attributes) =
    (s ≡ tag spaced n attributes) × (is_void n ≡ false) × (is_among raw_names n ≡ true)
    × AreTreeKeys attributes × (are_distinct (attribute_names attributes) ≡ true)
IsRaw s (closing n) = (s ≡ end_tag n) × (is_among raw_names n ≡ true)
IsRaw s (breaking form) = s ≡ tag form (codes "br") []
IsRaw s unknown = ⊤

-- what is written at the end of an element: nothing for the section of a table
abbrev pub end_of_open : List ℕ → List ℕ
end_of_open n = if is_tbody n then [] else end_tag n

raw-no_section : (n : List ℕ) → is_among raw_names n ≡ true → is_tbody n ≡ false
raw-no_section n e = not-true (is_tbody n) (among_passes (λ m. not (is_tbody m)) raw_names n e refl)

-- the first of these alone
abbrev pub IsTag : List ℕ → RawTag → Type 0
IsTag s (opening n attributes) = (s ≡ tag spaced n attributes) × (is_void n ≡ false) × (is_tbody n ≡ false)
IsTag s (closing n) = s ≡ end_of_open n
IsTag s (breaking form) = s ≡ tag form (codes "br") []
IsTag s unknown = ⊤

pub raw-tagged : (r : RawTag) (s : List ℕ) → IsRaw s r → IsTag s r
raw-tagged (opening n attributes) s k = (k.0, k.1, raw-no_section n k.2)
raw-tagged (closing n) s k = rw (raw-no_section n k.1) k.0
raw-tagged (breaking form) s k = k
raw-tagged unknown s k = tt

abbrev has_no_pairs : List AttributePair → Bool
has_no_pairs [] = true
has_no_pairs (a ∷ attributes) = false

-- a tag without attributes
abbrev is_bare : Tag → Bool
is_bare t =
    bytes_eq t.open_tag (codes "<" ++ t.name ++ codes ">") && not (is_void t.name) && is_among raw_names t.name
    && has_no_pairs (pairs_of t.pair)

no-pairs : (attributes : List AttributePair) → has_no_pairs attributes ≡ true → attributes ≡ []
no-pairs [] e = refl
no-pairs (a ∷ attributes) e = absurd (cc)

bare_tag : (n : List ℕ) → is_void n ≡ false → codes "<" ++ n ++ codes ">" ≡ tag spaced n []
bare_tag n v = rw v (ap (λ x. x ++ codes ">") (sym (append-nil (codes "<" ++ n))))

a_break : (s : List ℕ) → IsRaw s (tag_by_role s (role_among [] s))
unfolding is_void
a_break s =
    test (bytes_eq s (codes "<br>")) (λ e. rw (e, e) (same_bytes s (codes "<br>") e)) (λ e.
    test (bytes_eq s (codes "<br/>")) (λ f. rw (e, f, e, f) (same_bytes s (codes "<br/>") f)) (λ f.
    test (bytes_eq s (codes "<br />")) (λ g. rw (e, f, g, e, f) (same_bytes s (codes "<br />") g)) (λ g.
    rw (e, f, g) tt)))

by_names : (ts : List Tag) (s : List ℕ) → list_all is_bare ts ≡ true → IsRaw s (tag_by_role s (role_among ts s))
by_names [] s h = a_break s
by_names (t ∷ ts) s h =
    let p = and_parts (is_bare t) (list_all is_bare ts) h in
    let q = and_parts (bytes_eq t.open_tag (codes "<" ++ t.name ++ codes ">") && not (is_void t.name)
    && is_among raw_names t.name) (has_no_pairs (pairs_of t.pair)) p.0 in
    let r = and_parts (bytes_eq t.open_tag (codes "<" ++ t.name ++ codes ">") && not (is_void t.name))
    (is_among raw_names t.name) q.0 in
    let u = and_parts (bytes_eq t.open_tag (codes "<" ++ t.name ++ codes ">")) (not (is_void t.name)) r.0 in
    let v = not-true (is_void t.name) u.1 in
    let none = no-pairs (pairs_of t.pair) q.1 in
    test (bytes_eq t.open_tag s)
    (λ e. rw e (
      sym (same_bytes t.open_tag s e)
          ∙ (same_bytes t.open_tag (codes "<" ++ t.name ++ codes ">") u.0
          ∙ (bare_tag t.name v ∙ ap (tag spaced t.name) (sym none))),
      v,
      r.1,
      subst AreTreeKeys (sym none) tt,
      ap (λ attributes. are_distinct (attribute_names attributes)) none,
    ))
    (λ e. test (bytes_eq (closing_tag t) s) (λ f. rw (e, f) (sym (same_bytes (closing_tag t) s f), r.1))
    (λ f. rw (e, f) (by_names ts s p.1)))

by_title : (o : Option (List ℕ)) (s : List ℕ) → abbreviation_title s ≡ o
    → IsRaw s (tag_by_role s (role_by_title o s))
unfolding is_void
by_title None s e =
    test (bytes_eq (closing_tag (abbreviation [])) s)
    (λ f. rw f (sym (same_bytes (closing_tag (abbreviation [])) s f), refl))
    (λ f. rw f (by_names tags s refl))
by_title (Some title) s e = (
  sym found ∙ ap (λ x. codes "<abbr title=\"" ++ x) (sym (titled (escaped_value title))),
  refl,
  refl,
  (refl, refl, refl, tt),
  refl,
)
  where
    found : abbreviation_tag title ≡ s
    found = test (bytes_eq (abbreviation_tag (value (drop 13 s))) s)
        (λ t. let w = rw t at e in let x : value (drop 13 s) ≡ title = cc in
        subst (λ v. abbreviation_tag v ≡ s) x (same_bytes (abbreviation_tag (value (drop 13 s))) s t))
        (λ t. let w = rw t at e in absurd (cc))

by_id : (o : Option (List ℕ)) (s : List ℕ) → anchor_id s ≡ o → IsRaw s (tag_by_id o s)
unfolding is_void
by_id None s e =
    test (bytes_eq s end_of_anchor) (λ f. rw f (same_bytes s end_of_anchor f, refl))
    (λ f. rw f (by_title (abbreviation_title s) s refl))
by_id (Some id) s e = (
  sym found ∙ ap (λ x. codes "<a id=\"" ++ x) (sym (titled (escaped_value id))),
  refl,
  refl,
  (refl, refl, refl, tt),
  refl,
)
  where
    found : anchor_tag id ≡ s
    found = test (bytes_eq (anchor_tag (value (drop 7 s))) s)
        (λ t. let w = rw t at e in let x : value (drop 7 s) ≡ id = cc in
        subst (λ v. anchor_tag v ≡ s) x (same_bytes (anchor_tag (value (drop 7 s))) s t))
        (λ t. let w = rw t at e in absurd (cc))

pub raw-is : (s : List ℕ) → IsRaw s (raw_tag s)
raw-is s = by_id (anchor_id s) s refl

-- ---- what stands behind end tags

abbrev pub behind_spelled : List Behind → List ℕ
behind_spelled [] = []
behind_spelled (b ∷ bs) = end_of_open b.name ++ all_spelled b.trees ++ behind_spelled bs

abbrev pub open_spelled : Open → List ℕ
open_spelled o = all_spelled o.first ++ behind_spelled o.behind

abbrev pub names_of : List Behind → List (List ℕ)
names_of [] = []
names_of (b ∷ bs) = b.name ∷ names_of bs

-- so many end tags are left, and this is what is spelled
abbrev pub IsOpen : Open → List (List ℕ) → List ℕ → Type 0
IsOpen o ns s = (names_of o.behind ≡ ns) × (open_spelled o ≡ s)

closed : (t f e x b html rest : List ℕ) → f ++ ((e ++ x) ++ b) ≡ html ++ rest
    → ((t ++ f ++ e) ++ x) ++ b ≡ (t ++ html) ++ rest
closed t f e x b html rest h = simp append_assoc (ap (λ s. t ++ s) (flat ∙ h ∙ refl))
  where
    flat : f ++ (e ++ (x ++ b)) ≡ f ++ ((e ++ x) ++ b)
    flat = simp append_assoc

opened-ok : (n : List ℕ) (attributes : List AttributePair) (s html rest : List ℕ) (first : SpelledForest)
    (behind : List Behind) (ms ns : List (List ℕ)) → IsTag s (opening n attributes)
    → names_of behind ≡ ms → opened_names n ms ≡ Some ns
    → all_spelled first ++ behind_spelled behind ≡ html ++ rest
    → IsOpen (opened n attributes first behind) ns ((s ++ html) ++ rest)
opened-ok n attributes s html rest first [] [] ns r e f h = absurd (cc)
opened-ok n attributes s html rest first [] (m ∷ ms) ns r e f h = absurd (cc)
opened-ok n attributes s html rest first (b ∷ bs) [] ns r e f h = absurd (cc)
opened-ok n attributes s html rest first (b ∷ bs) (m ∷ ms) ns r e f h =
    test (bytes_eq m n)
    (λ t. let w = rw t at f in
    let left : ms ≡ ns = cc in
    let same : names_of bs ≡ ms = cc in
    let name : b.name ≡ n = (let x : b.name ≡ m = cc in x ∙ same_bytes m n t) in
    let whole : all_spelled first ++ ((end_of_open n ++ all_spelled b.trees) ++ behind_spelled bs) ≡ html ++ rest =
    subst (λ x. all_spelled first ++ ((end_of_open x ++ all_spelled b.trees) ++ behind_spelled bs) ≡ html ++ rest)
    name h in
    let k : all_spelled first ++ ((end_tag n ++ all_spelled b.trees) ++ behind_spelled bs) ≡ html ++ rest =
    rw r.2 at whole in (
      same ∙ left,
      ap (λ x. (x ++ all_spelled b.trees) ++ behind_spelled bs) (element-spelled spaced n attributes first r.1)
          ∙ (closed (tag spaced n attributes) (all_spelled first) (end_tag n) (all_spelled b.trees)
          (behind_spelled bs) html rest k
          ∙ ap (λ x. (x ++ html) ++ rest) (sym r.0)),
    ))
    (λ t. let w = rw t at f in absurd (cc))

-- a raw tag before what is open
pub raw-ok : (r : RawTag) (s html rest : List ℕ) (o : Open) (left : Option (List (List ℕ))) (ns : List (List ℕ))
    → IsTag s r → names_with r left ≡ Some ns
    → ((ms : List (List ℕ)) → left ≡ Some ms → IsOpen o ms (html ++ rest))
    → IsOpen (with_raw r o) ns ((s ++ html) ++ rest)
unfolding is_void
raw-ok r s html rest o None ns k e h = absurd (cc)
raw-ok (opening n attributes) s html rest o (Some ms) ns k e h =
    let i = h ms refl in opened-ok n attributes s html rest o.first o.behind ms ns k i.0 e i.1
raw-ok (closing n) s html rest o (Some ms) ns k e h =
    let i = h ms refl in
    let x : n ∷ ms ≡ ns = cc in (
      ap (λ y. n ∷ y) i.0 ∙ x,
      append_assoc (end_of_open n) (all_spelled o.first) (behind_spelled o.behind)
          ∙ (ap (λ y. end_of_open n ++ y) i.1
          ∙ (sym (append_assoc (end_of_open n) html rest) ∙ ap (λ y. (y ++ html) ++ rest) (sym k))),
    )
raw-ok (breaking form) s html rest o (Some ms) ns k e h =
    let i = h ms refl in
    let x : ms ≡ ns = cc in (
      i.0 ∙ x,
      append_assoc (tag form (codes "br") []) (all_spelled o.first) (behind_spelled o.behind)
          ∙ (ap (λ y. tag form (codes "br") [] ++ y) i.1
          ∙ (sym (append_assoc (tag form (codes "br") []) html rest) ∙ ap (λ y. (y ++ html) ++ rest) (sym k))),
    )
raw-ok unknown s html rest o (Some ms) ns k e h = absurd (cc)
