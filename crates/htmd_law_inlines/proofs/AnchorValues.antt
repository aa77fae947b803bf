-- The value of an anchor's tag is read as the id that was written.
use Rattle.std.proofs.Common.{◌≡◌, ◌∙◌, refl, ap, sym, ℕ, true, false, List, [], ◌∷◌, ◌++◌, Some, None}
use Rattle.std.specs.Prelude.{not, ◌==◌, if◌then◌else◌}
use Rattle.std.specs.Str.{bytes_eq}
use Rattle.std.specs.List.{list_all}
use Rattle.std.proofs.lemmas.Bool.{eqb-true, and_from}
use Rattle.std.proofs.lemmas.List.{append_assoc}
use Rattle.std.proofs.lemmas.List.Folds.{list_all-append}
use Rattle.htmd_document.specs.Tags.{in_value, escaped_value, anchor_tag, abbreviation_tag}
use Rattle.htmd_commonmark_reading.specs.Anchors.{value, anchor_id, abbreviation_title}
use Rattle.htmd_law_inlines.proofs.TextPieces.{test}
use Rattle.htmd_lexical.proofs.BytesLemmas.{bytes_same}

-- a byte that is itself
pub plain_byte : (b : ℕ) → (b == 38) ≡ false → (b == 60) ≡ false → (b == 62) ≡ false
    → (b == 34) ≡ false → (b == 124) ≡ false → (b == 93) ≡ false → in_value b ≡ b ∷ []
plain_byte b n1 n2 n3 n4 n5 n6 = rw (n1, n2, n3, n4, n5, n6) refl

-- a byte
byte_read : (b : ℕ) (s : List ℕ) → value (in_value b ++ s) ≡ b ∷ value s
byte_read b s =
    test (b == 38) (λ e. rw e (ap (λ c. c ∷ value s) (sym (eqb-true b 38 e))))
    (λ n1. test (b == 60) (λ e. rw (n1, e) (ap (λ c. c ∷ value s) (sym (eqb-true b 60 e))))
    (λ n2. test (b == 62) (λ e. rw (n1, n2, e) (ap (λ c. c ∷ value s) (sym (eqb-true b 62 e))))
    (λ n3. test (b == 34) (λ e. rw (n1, n2, n3, e) (ap (λ c. c ∷ value s) (sym (eqb-true b 34 e))))
    (λ n4. test (b == 124) (λ e. rw (n1, n2, n3, n4, e) (ap (λ c. c ∷ value s) (sym (eqb-true b 124 e))))
    (λ n5. test (b == 93) (λ e. rw (n1, n2, n3, n4, n5, e) (ap (λ c. c ∷ value s) (sym (eqb-true b 93 e))))
    (λ n6. ap (λ l. value (l ++ s)) (plain_byte b n1 n2 n3 n4 n5 n6) ∙ rw (n4, n1) refl))))))

pub value_read : (id rest : List ℕ) → value (escaped_value id ++ (34 ∷ rest)) ≡ id
value_read [] rest = refl
value_read (b ∷ id) rest =
    ap value (append_assoc (in_value b) (escaped_value id) (34 ∷ rest))
    ∙ byte_read b (escaped_value id ++ (34 ∷ rest)) ∙ ap (λ l. b ∷ l) (value_read id rest)

-- the tag of an id has that id
pub id_of : (id : List ℕ) → anchor_id (anchor_tag id) ≡ Some id
id_of id =
    ap (λ i. if bytes_eq (anchor_tag i) (anchor_tag id) then Some i else None) (value_read id (62 ∷ []))
    ∙ ap (λ t. if t then Some id else None) (bytes_same (anchor_tag id))

-- so has the tag of an abbreviation its title
pub title_read : (title : List ℕ) → abbreviation_title (abbreviation_tag title) ≡ Some title
title_read title =
    ap (λ i. if bytes_eq (abbreviation_tag i) (abbreviation_tag title) then Some i else None)
    (value_read title (62 ∷ []))
    ∙ ap (λ t. if t then Some title else None) (bytes_same (abbreviation_tag title))

-- no quotation mark is in it
byte_unquoted : (b : ℕ) → list_all (λ c. not (c == 34)) (in_value b) ≡ true
byte_unquoted b =
    test (b == 38) (λ e. rw e refl)
    (λ n1. test (b == 60) (λ e. rw (n1, e) refl)
    (λ n2. test (b == 62) (λ e. rw (n1, n2, e) refl)
    (λ n3. test (b == 34) (λ e. rw (n1, n2, n3, e) refl)
    (λ n4. test (b == 124) (λ e. rw (n1, n2, n3, n4, e) refl)
    (λ n5. test (b == 93) (λ e. rw (n1, n2, n3, n4, n5, e) refl)
    (λ n6. ap (list_all (λ c. not (c == 34))) (plain_byte b n1 n2 n3 n4 n5 n6) ∙ rw n4 refl))))))

pub unquoted : (id : List ℕ) → list_all (λ c. not (c == 34)) (escaped_value id) ≡ true
unquoted [] = refl
unquoted (b ∷ id) =
    list_all-append (λ c. not (c == 34)) (in_value b) (escaped_value id)
    ∙ and_from (list_all (λ c. not (c == 34)) (in_value b)) (list_all (λ c. not (c == 34)) (escaped_value id))
    (byte_unquoted b) (unquoted id)
