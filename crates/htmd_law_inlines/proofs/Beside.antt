-- What the writer takes to be before a mark is there for the reader.
use Rattle.std.proofs.Common.{◌≡◌, ◌∙◌, refl, ap, sym, ℕ, true, false, List, [], ◌∷◌, ◌++◌, Option, Some, subst}
use Rattle.std.specs.Prelude.{◌==◌}
use Rattle.std.specs.Str.{IsUtf8}
use Rattle.std.proofs.lemmas.Bool.{eqb-true}
use Rattle.std.proofs.lemmas.List.{append-nil}
use Rattle.std.proofs.lemmas.Str.{encodes-append}
use Rattle.htmd_lexical.specs.CharacterClasses.{first_is}
use Rattle.htmd_commonmark.specs.CharacterKinds as writer
use Rattle.htmd_commonmark.specs.WrittenText.{character_before, in_line}
use Rattle.htmd_commonmark.specs.Marks.{is_character}
use Rattle.htmd_commonmark_reading.specs.Characters.{last_character}
use Rattle.htmd_commonmark_reading.specs.DelimiterRuns.{past_tildes}
use Rattle.htmd_law_inlines.proofs.Pieces.{pushed, pushed_append}
use Rattle.htmd_law_inlines.proofs.TextPieces.{test}
use Rattle.htmd_law_inlines.proofs.CharacterPieces.{shape, last_is_character, no_tildes, tilde_pushed}
use Rattle.htmd_law_inlines.proofs.RowsRead.{snoc, scalars_last, last_of_encodes}
use Rattle.htmd_law_inlines.proofs.Flanking.{IsOuter, outer_same, outer_end}
use lib.Utf8.{encode, encodes, scalar, scalars}

-- a character other than a tilde is what a row of any sign sees before it
pub seen_before : (sign c : ℕ) (x : List ℕ) → scalar c ≡ true
    → ((sign == 126) ≡ false → (c == 126) ≡ false)
    → last_character (past_tildes sign (pushed (encode c) x)) ≡ Some c
seen_before sign c x h k =
    let s = shape c in
    test (sign == 126) (λ e. rw e (last_is_character c x h))
    (λ e. rw e (ap last_character
    (no_tildes (pushed (encode c) x)
    (ap (λ l. first_is 126 (pushed l x)) s.is ∙ tilde_pushed s.rest (s.lead ∷ x) s.goes (s.no_tilde (k e))))
    ∙ last_is_character c x h))

outer_line : (c : ℕ) → IsOuter (in_line (Some c)) (Some c)
outer_line c =
    test (c == 10) (λ e. rw (eqb-true c 10 e) (record { apart = λ h. refl })) (λ e. rw e (outer_same c))

-- unless a tilde stands there, beside other signs
pub outer_before : (sign : ℕ) (s : List ℕ) → IsUtf8 s
    → ((sign == 126) ≡ false → is_character 126 (character_before s) ≡ false)
    → IsOuter (character_before s) (last_character (past_tildes sign (pushed s [])))
outer_before sign s ([], (sc, e)) t =
    subst (λ l. IsOuter (character_before l) (last_character (past_tildes sign (pushed l [])))) e
    (test (sign == 126) (λ x. rw x (none_before (character_before [])))
    (λ x. rw x (none_before (character_before []))))
  where
    none_before : (o : Option ℕ) → IsOuter o (last_character [])
    none_before o = outer_end o
outer_before sign s (d ∷ ds, (sc, e)) t =
    let v = snoc d ds in
    let c = v.last in
    let sc' : scalars (v.front ++ (c ∷ [])) ≡ true = ap scalars (sym v.is) ∙ sc in
    let is : s ≡ encodes v.front ++ encode c =
    sym e ∙ ap encodes v.is ∙ encodes-append v.front (c ∷ [])
    ∙ ap (λ l. encodes v.front ++ l) (append-nil (encode c)) in
    let last : writer.last_character s ≡ Some c =
    ap writer.last_character (sym e ∙ ap encodes v.is) ∙ last_of_encodes v.front c sc' in
    let no : (sign == 126) ≡ false → (c == 126) ≡ false =
    λ x. test (c == 126) (λ y. let z : is_character 126 (in_line (Some c)) ≡ false =
    ap (λ o. is_character 126 (in_line o)) (sym last) ∙ t x in
    let q : true ≡ false = rw (eqb-true c 126 y) at z in absurd (cc)) (λ y. y) in
    subst (λ o. IsOuter (in_line o) (last_character (past_tildes sign (pushed s [])))) (sym last)
    (subst (IsOuter (in_line (Some c)))
    (sym (ap (λ l. last_character (past_tildes sign l))
    (ap (λ l. pushed l []) is ∙ pushed_append (encodes v.front) (encode c) [])
    ∙ seen_before sign c (pushed (encodes v.front) []) (scalars_last v.front c sc') no))
    (outer_line c))
