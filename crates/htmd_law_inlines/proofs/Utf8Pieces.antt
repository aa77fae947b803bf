-- What is written of addresses, titles and codes is UTF-8.
use Rattle.std.proofs.Common.{◌≡◌, ◌∙◌, refl, ap, sym, ℕ, ◌<◌, true, false, List, [], ◌∷◌, ◌++◌, Option, Some, None}
use Rattle.std.proofs.Common.{codes, subst, arith}
use Rattle.std.specs.Prelude.{not, nat_lt}
use Rattle.std.specs.List.{list_all}
use Rattle.std.specs.Str.{IsUtf8}
use Rattle.std.specs.Char.{is_ascii_punctuation}
use Rattle.std.proofs.lemmas.Bool.{and_parts, not-true, ltb-true, lt-ltb}
use Rattle.std.proofs.lemmas.List.{append-nil}
use Rattle.std.proofs.lemmas.Str.{encode_ascii, IsUtf8-append}
use Rattle.htmd_commonmark.specs.Addresses.{escaped_in, needs_brackets}
use Rattle.htmd_commonmark.specs.Addresses as writer
use Rattle.htmd_commonmark.specs.InlineMarkdown.{written_resource}
use Rattle.htmd_law_inlines.proofs.TextPieces.{test}
use Rattle.htmd_law_inlines.proofs.ReferencePieces.{is_small}
use Rattle.htmd_law_inlines.proofs.CharacterPieces.{plain_encode}
use Rattle.htmd_law_inlines.proofs.AddressPieces.{AreSigns, are_bare_signs, bare_signs, piece_cases, plain_piece}
use Rattle.htmd_law_inlines.proofs.ResourcePieces.{pointed_signs, title_signs}
use Rattle.htmd_law_inlines.proofs.WalkPieces.{ascii_utf8}
use lib.Utf8.{encode, encodes, scalar, scalars}

-- bytes that aren't punctuation stand as they are
plain_escaped : (signs : List ℕ) → AreSigns signs → (s t : List ℕ)
    → list_all (λ b. not (is_ascii_punctuation b)) s ≡ true → escaped_in signs (s ++ t)
    ≡ s ++ escaped_in signs t
plain_escaped signs w [] t h = refl
plain_escaped signs w (b ∷ s) t h =
    let p = and_parts (not (is_ascii_punctuation b)) (list_all (λ b. not (is_ascii_punctuation b)) s) h in
    ap (λ l. l ++ escaped_in signs (s ++ t)) (plain_piece signs w b (s ++ t) (not-true (is_ascii_punctuation b) p.0))
    ∙ ap (λ l. b ∷ l) (plain_escaped signs w s t p.1)

ascii_piece : (signs : List ℕ) (c : ℕ) (t : List ℕ) → c < 128 → scalar c ≡ true
    → IsUtf8 (escaped_in signs t)
    → IsUtf8 (escaped_in signs (c ∷ t))
ascii_piece signs c t l h u =
    piece_cases signs c t
    (λ e p. rw p (IsUtf8-append (92 ∷ c ∷ []) (escaped_in signs t)
    (IsUtf8-append (92 ∷ []) (c ∷ []) (ascii_utf8 92 (omega arith) refl) (ascii_utf8 c l h)) u))
    (λ e p. rw p (IsUtf8-append (codes "&amp;") (escaped_in signs t) amp_utf8 u))
    (λ e a p. rw p (IsUtf8-append (c ∷ []) (escaped_in signs t) (ascii_utf8 c l h) u))
  where
    amp_utf8 : IsUtf8 (codes "&amp;")
    amp_utf8 = (
      codes "&amp;",
      (
        refl,
        rw (
          encode_ascii 38 (omega arith),
          encode_ascii 97 (omega arith),
          encode_ascii 109 (omega arith),
          encode_ascii 112 (omega arith),
          encode_ascii 59 (omega arith),
        ) refl,
      ),
    )

pub escaped_in_utf8 : (signs : List ℕ) → AreSigns signs → (cs : List ℕ) → scalars cs ≡ true
    → IsUtf8 (escaped_in signs (encodes cs))
escaped_in_utf8 signs w [] h = ([], (refl, refl))
escaped_in_utf8 signs w (c ∷ cs) h =
    let p = and_parts (scalar c) (scalars cs) h in
    let u = escaped_in_utf8 signs w cs p.1 in
    test (nat_lt c 128)
    (λ l. subst (λ x. IsUtf8 (escaped_in signs (x ++ encodes cs))) (sym (encode_ascii c (ltb-true c 128 l)))
    (ascii_piece signs c (encodes cs) (ltb-true c 128 l) p.0 u))
    (λ l. let q : is_ascii_punctuation c ≡ false =
    test (is_ascii_punctuation c) (λ x. let y = lt-ltb c 128 (is_small c x) in absurd (cc)) (λ x. x) in
    subst IsUtf8 (sym (plain_escaped signs w (encode c) (encodes cs) (plain_encode c q)))
    (IsUtf8-append (encode c) (escaped_in signs (encodes cs)) (c ∷ [], (rw p.0 refl, append-nil (encode c))) u))

-- an address and a title in parentheses
escaped_text_utf8 : (signs : List ℕ) → AreSigns signs → (s : List ℕ) → IsUtf8 s
    → IsUtf8 (escaped_in signs s)
escaped_text_utf8 signs w s (cs, (h, e)) = subst (λ x. IsUtf8 (escaped_in signs x)) e (escaped_in_utf8 signs w cs h)

destination_utf8 : (s : List ℕ) → IsUtf8 s → IsUtf8 (writer.destination s)
destination_utf8 s u =
    test (needs_brackets s)
    (λ e. rw e (IsUtf8-append (codes "<" ++ escaped_in (codes "<>") s) (codes ">")
    (IsUtf8-append (codes "<") (escaped_in (codes "<>") s) (ascii_utf8 60 (omega arith) refl)
    (escaped_text_utf8 (codes "<>") pointed_signs s u)) (ascii_utf8 62 (omega arith) refl)))
    (λ e. rw e (escaped_text_utf8 bare_signs are_bare_signs s u))

title_utf8 : (t : Option (List ℕ)) → ((s : List ℕ) → t ≡ Some s → IsUtf8 s) → IsUtf8 (writer.title t)
title_utf8 None u = ([], (refl, refl))
title_utf8 (Some s) u =
    IsUtf8-append (codes " \"" ++ escaped_in (codes "\"") s) (codes "\"")
    (IsUtf8-append (codes " \"") (escaped_in (codes "\"") s)
    (IsUtf8-append (32 ∷ []) (34 ∷ []) (ascii_utf8 32 (omega arith) refl) (ascii_utf8 34 (omega arith) refl))
    (escaped_text_utf8 (codes "\"") title_signs s (u s refl))) (ascii_utf8 34 (omega arith) refl)

pub resource_utf8 : (a : List ℕ) (t : Option (List ℕ)) → IsUtf8 a
    → ((s : List ℕ) → t ≡ Some s → IsUtf8 s)
    → IsUtf8 (written_resource a t)
resource_utf8 a t u v =
    IsUtf8-append ((codes "](" ++ writer.destination a) ++ writer.title t) (codes ")")
    (IsUtf8-append (codes "](" ++ writer.destination a) (writer.title t)
    (IsUtf8-append (codes "](") (writer.destination a)
    (IsUtf8-append (93 ∷ []) (40 ∷ []) (ascii_utf8 93 (omega arith) refl) (ascii_utf8 40 (omega arith) refl))
    (destination_utf8 a u)) (title_utf8 t v)) (ascii_utf8 41 (omega arith) refl)
