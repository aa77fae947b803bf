-- Raw tags that are read in a text without carriage returns and U+0000 have none either.
use Rattle.std.proofs.Common.{◌≡◌, ℕ, Bool, true, false, List, [], ◌∷◌, ◌++◌, refl, Option, Some, None, drop, codes}
use Rattle.std.specs.List.{list_all}
use Rattle.std.specs.Option.{option_or}
use Rattle.std.specs.Prelude.{⊤, ◌&&◌, if◌then◌else◌}
use Rattle.std.proofs.lemmas.Bool.{and_parts, and_from}
use Rattle.htmd_lexical.proofs.Cases.{test}
use Rattle.htmd_lexical.specs.Characters.{greater_than_sign, question_mark, slash}
use Rattle.htmd_lexical.specs.CharacterClasses.{first_is, begins_with, leading_run, behind_run}
use Rattle.htmd_document.specs.NormalDocuments.{is_code_byte}
use Rattle.htmd_commonmark_reading.specs.Characters.{is_white, one_more, in_front_of}
use Rattle.htmd_commonmark_reading.specs.RawTags.{Place, in_tag_name, after_space, in_attribute_name}
use Rattle.htmd_commonmark_reading.specs.RawTags.{after_attribute_name, before_value, in_unquoted_value, in_quotes}
use Rattle.htmd_commonmark_reading.specs.RawTags.{after_quotes, after_slash, at_end, refused, place_after, with_place}
use Rattle.htmd_commonmark_reading.specs.RawTags.{tag_rest, open_tag, begins_with_letter, is_in_tag_name, through}
use Rattle.htmd_commonmark_reading.specs.RawTags.{closing_tag_end, closing_tag, comment, instruction, declaration}
use Rattle.htmd_commonmark_reading.specs.RawTags.{cdata_section, raw_tag}
use Rattle.htmd_law_texts.proofs.PieceTexts.{all_append}
use Rattle.htmd_law_texts.proofs.TextLines.{all_drop}

-- no carriage return and no U+0000
abbrev pub is_sound : List ℕ → Bool
is_sound s = list_all is_code_byte s

abbrev pub IsSoundIf : Option (List ℕ) → Type 0
IsSoundIf None = ⊤
IsSoundIf (Some s) = is_sound s ≡ true

leading-sound : (p : ℕ → Bool) (s : List ℕ) → is_sound s ≡ true → is_sound (leading_run p s) ≡ true
leading-sound p [] h = refl
leading-sound p (b ∷ s) h =
    let q = and_parts (is_code_byte b) (is_sound s) h in
    test (p b)
    (λ t. rw t (and_from (is_code_byte b) (is_sound (leading_run p s)) q.0 (leading-sound p s q.1)))
    (λ t. rw t refl)

pub behind-sound : (p : ℕ → Bool) (s : List ℕ) → is_sound s ≡ true → is_sound (behind_run p s) ≡ true
behind-sound p [] h = refl
behind-sound p (b ∷ s) h =
    test (p b) (λ t. rw t (behind-sound p s (and_parts (is_code_byte b) (is_sound s) h).1)) (λ t. rw t h)

if-sound : (t : Bool) (x y : Option (List ℕ)) → IsSoundIf x → IsSoundIf y → IsSoundIf (if t then x else y)
if-sound true x y h k = h
if-sound false x y h k = k

or-sound : (x y : Option (List ℕ)) → IsSoundIf x → IsSoundIf y → IsSoundIf (option_or x y)
or-sound None y h k = k
or-sound (Some s) y h k = h

more-sound : (c : ℕ) (o : Option (List ℕ)) → is_code_byte c ≡ true → IsSoundIf o → IsSoundIf (one_more c o)
more-sound c None h k = tt
more-sound c (Some s) h k = and_from (is_code_byte c) (is_sound s) h k

front-sound : (s : List ℕ) (o : Option (List ℕ)) → is_sound s ≡ true → IsSoundIf o
    → IsSoundIf (in_front_of s o)
front-sound s None h k = tt
front-sound s (Some t) h k = all_append is_code_byte s t h k

-- ---- open tags

place-sound : (p : Place) (c : ℕ) (o : Option (List ℕ)) → is_code_byte c ≡ true → IsSoundIf o
    → IsSoundIf (with_place p c o)
place-sound in_tag_name c o h k = more-sound c o h k
place-sound after_space c o h k = more-sound c o h k
place-sound in_attribute_name c o h k = more-sound c o h k
place-sound after_attribute_name c o h k = more-sound c o h k
place-sound before_value c o h k = more-sound c o h k
place-sound in_unquoted_value c o h k = more-sound c o h k
place-sound (in_quotes quote) c o h k = more-sound c o h k
place-sound after_quotes c o h k = more-sound c o h k
place-sound after_slash c o h k = more-sound c o h k
place-sound at_end c o h k = and_from (is_code_byte c) true h refl
place-sound refused c o h k = tt

rest-sound : (p : Place) (s : List ℕ) → is_sound s ≡ true → IsSoundIf (tag_rest p s)
rest-sound p [] h = tt
rest-sound p (c ∷ s) h =
    let q = and_parts (is_code_byte c) (is_sound s) h in
    place-sound (place_after c p) c (tag_rest (place_after c p) s) q.0 (rest-sound (place_after c p) s q.1)

-- ---- the others

through-sound : (signs s : List ℕ) → is_sound signs ≡ true → is_sound s ≡ true → IsSoundIf (through signs s)
through-sound signs [] h k = tt
through-sound signs (c ∷ s) h k =
    let q = and_parts (is_code_byte c) (is_sound s) k in
    if-sound (begins_with signs (c ∷ s)) (Some signs) (one_more c (through signs s)) h
    (more-sound c (through signs s) q.0 (through-sound signs s h q.1))

closing-sound : (s : List ℕ) → is_sound s ≡ true → IsSoundIf (closing_tag s)
closing-sound s h =
    let t = drop 1 s in
    let k = all_drop is_code_byte 1 s h in
    let name = leading_run is_in_tag_name t in
    let rest = behind_run is_in_tag_name t in
    let white = leading_run is_white rest in
    let front = all_append is_code_byte name white (leading-sound is_in_tag_name t k)
    (leading-sound is_white rest (behind-sound is_in_tag_name t k)) in
    if-sound (first_is slash s && begins_with_letter t) (in_front_of (slash ∷ []) (closing_tag_end name rest)) None
    (front-sound (slash ∷ []) (closing_tag_end name rest) refl
    (if-sound (first_is greater_than_sign (behind_run is_white rest))
    (Some (name ++ white ++ (greater_than_sign ∷ []))) None
    (all_append is_code_byte (name ++ white) (greater_than_sign ∷ []) front refl) tt)) tt

comment-sound : (s : List ℕ) → is_sound s ≡ true → IsSoundIf (comment s)
comment-sound s h =
    let long = in_front_of (codes "!--") (through (codes "-->") (drop 3 s)) in
    if-sound (begins_with (codes "!-->") s) (Some (codes "!-->"))
    (if begins_with (codes "!--->") s
    then Some (codes "!--->")
    else if begins_with (codes "!--") s then long else None) refl
    (if-sound (begins_with (codes "!--->") s) (Some (codes "!--->"))
    (if begins_with (codes "!--") s then long else None) refl
    (if-sound (begins_with (codes "!--") s) long None
    (front-sound (codes "!--") (through (codes "-->") (drop 3 s)) refl
    (through-sound (codes "-->") (drop 3 s) refl (all_drop is_code_byte 3 s h))) tt))

pub tag-sound : (s : List ℕ) → is_sound s ≡ true → IsSoundIf (raw_tag s)
tag-sound s h =
    let last = option_or (declaration s) (cdata_section s) in
    or-sound (open_tag s) (option_or (closing_tag s) (option_or (comment s) (option_or (instruction s) last)))
    (if-sound (begins_with_letter s) (tag_rest in_tag_name s) None (rest-sound in_tag_name s h) tt)
    (or-sound (closing_tag s) (option_or (comment s) (option_or (instruction s) last)) (closing-sound s h)
    (or-sound (comment s) (option_or (instruction s) last) (comment-sound s h)
    (or-sound (instruction s) last
    (if-sound (first_is question_mark s) (in_front_of (question_mark ∷ []) (through (codes "?>") (drop 1 s))) None
    (front-sound (question_mark ∷ []) (through (codes "?>") (drop 1 s)) refl
    (through-sound (codes "?>") (drop 1 s) refl (all_drop is_code_byte 1 s h))) tt)
    (or-sound (declaration s) (cdata_section s)
    (if-sound (begins_with (codes "!") s && begins_with_letter (drop 1 s)) (through (codes ">") s) None
    (through-sound (codes ">") s refl h) tt)
    (if-sound (begins_with (codes "![CDATA[") s)
    (in_front_of (codes "![CDATA[") (through (codes "]]>") (drop 8 s))) None
    (front-sound (codes "![CDATA[") (through (codes "]]>") (drop 8 s)) refl
    (through-sound (codes "]]>") (drop 8 s) refl (all_drop is_code_byte 8 s h))) tt)))))
