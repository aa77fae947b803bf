-- What stands after the box of a task: the same is written there as at the beginning of a text, and a text reads
-- without the space that parts it from the box.
use Rattle.std.proofs.Common.{◌≡◌, ◌∙◌, refl, ap, sym, ℕ, suc, ◌+◌, ◌-◌, ◌≤◌, Bool, true, false, List, [], ◌∷◌, ◌++◌}
use Rattle.std.proofs.Common.{Option, Some, codes, length, arith}
use Rattle.std.specs.Prelude.{not, ◌&&◌, ◌||◌, ◌==◌, slice_get, reverse, take}
use Rattle.std.specs.Option.{option_or}
use Rattle.std.specs.Str.{chars, IsUtf8}
use Rattle.std.specs.List.{prefix_len, suffix_len}
use Rattle.std.proofs.lemmas.Bool.{not-true}
use Rattle.std.proofs.lemmas.List.{append_assoc, reverse-append, length-append}
use Rattle.std.proofs.lemmas.Str.{chars-append, chars-encodes}
use Rattle.htmd_lexical.specs.Characters.{is_one_of}
use Rattle.htmd_lexical.specs.CharacterClasses.{is_empty}
use Rattle.htmd_text.specs.EscapedPlaces.{with_backslashes}
use Rattle.htmd_text.specs.Trims.{trimmed_end}
use Rattle.htmd_commonmark.specs.declared.text_escape.Place.{Place}
use Rattle.htmd_commonmark.specs.WrittenText.{in_line, character_before, is_last_escaped}
use Rattle.htmd_commonmark.specs.TextEscapes as text
use Rattle.htmd_commonmark.specs.TextEscapes.{is_of_word, is_underscore, is_bracket, may_be_escaped, may_be_in_tag}
use Rattle.htmd_commonmark.specs.References.{is_reference}
use Rattle.htmd_commonmark.specs.Marks.{is_apart_there, is_character}
use Rattle.htmd_law_inlines.proofs.Pieces.{pushed, pushed_append}
use Rattle.htmd_law_inlines.proofs.TextPieces.{test}
use Rattle.htmd_law_inlines.proofs.ReferencePieces.{one_of}
use Rattle.htmd_law_inlines.proofs.TextMarks.{MarksAll, mark_at}
use Rattle.htmd_law_inlines.proofs.RowsRead.{snoc}
use Rattle.htmd_law_inlines.proofs.SoundPieces.{odd_after, never, is_odd, odd_pushed, last_escaped}
use Rattle.htmd_law_inlines.proofs.NextPieces.{sign_chars}
use Rattle.htmd_law_inlines.proofs.AlikePieces.{IsSame, AreAlike}
use lib.Utf8.{encode}

-- ---- a box and its space before a text

-- a box, and the space after it
pub record IsBox (head : List ℕ) : Type 0 where
  pub utf8 : IsUtf8 head
  pub even : is_odd (pushed head []) ≡ false
  pub before : character_before head ≡ Some 32

abbrev pub box : Bool → List ℕ
box true = codes "[x] "
box false = codes "[ ] "

pub a_box : (d : Bool) → IsBox (box d)
unfolding chars encode
a_box true = record { utf8 = (codes "[x] ", (refl, refl)); even = refl; before = refl }
a_box false = record { utf8 = (codes "[ ] ", (refl, refl)); even = refl; before = refl }

-- the text begins with a character, whatever comes after it
abbrev pub IsFirm : List ℕ → Type 0
IsFirm z = (u : List ℕ) → (c : ℕ) × ((cs : List ℕ) × (chars (z ++ u) ≡ c ∷ cs))

last_of_longer : (bs : List ℕ) (c : ℕ) (cs : List ℕ)
    → slice_get (reverse (bs ++ (c ∷ cs))) 0 ≡ slice_get (reverse (c ∷ cs)) 0
last_of_longer bs c cs =
    let v = snoc c cs in
    let end : reverse (c ∷ cs) ≡ v.last ∷ reverse v.front =
    ap reverse v.is ∙ reverse-append v.front (v.last ∷ []) in
    ap (λ l. slice_get l 0) (reverse-append bs (c ∷ cs) ∙ ap (λ l. l ++ reverse bs) end)
    ∙ sym (ap (λ l. slice_get l 0) end)

same_character : (head z u : List ℕ) → IsBox head → IsFirm z
    → character_before ((head ++ z) ++ u) ≡ character_before (z ++ u)
same_character head z u h f =
    let v = f u in
    ap (λ l. in_line (slice_get (reverse (chars l)) 0)) (append_assoc head z u)
    ∙ ap (λ l. in_line (slice_get (reverse l) 0))
    (chars-append head (z ++ u) h.utf8 ∙ ap (λ l. chars head ++ l) v.1.1)
    ∙ ap in_line (last_of_longer (chars head) v.0 v.1.0)
    ∙ sym (ap (λ l. in_line (slice_get (reverse l) 0)) v.1.1)

same_backslashes : (head : List ℕ) (c : ℕ) (z : List ℕ) → IsBox head
    → is_last_escaped (head ++ (c ∷ z)) ≡ is_last_escaped (c ∷ z)
same_backslashes head c z h =
    let v = snoc c z in
    ap (λ l. is_last_escaped (head ++ l)) v.is ∙ ap is_last_escaped (sym (append_assoc head v.front (v.last ∷ [])))
    ∙ last_escaped (head ++ v.front) v.last
    ∙ ap is_odd (pushed_append head v.front []) ∙ odd_pushed v.front (pushed head [])
    ∙ ap (λ o. odd_after o v.front) h.even
    ∙ sym (odd_pushed v.front []) ∙ sym (last_escaped v.front v.last) ∙ ap is_last_escaped (sym v.is)

pub same_behind : (head : List ℕ) (c : ℕ) (z : List ℕ) → IsBox head → IsFirm (c ∷ z)
    → IsSame (head ++ (c ∷ z)) (c ∷ z)
same_behind head c z h f u = (
  same_character head (c ∷ z) u h f,
  ap is_last_escaped (append_assoc head (c ∷ z) u) ∙ same_backslashes head c (z ++ u) h,
)

sign_firm : (h : ℕ) (u : List ℕ) → is_one_of (codes "`*_~<[!\\") h ≡ true → IsFirm (h ∷ u)
sign_firm h u i v = (
  h,
  sign_chars h (u ++ v)
      (one_of (is_one_of (codes "`*_~<>[]!\\ ")) (codes "`*_~<[!\\") h i refl),
)

pub utf8_firm : (c : ℕ) (s : List ℕ) → IsUtf8 (c ∷ s) → IsFirm (c ∷ s)
utf8_firm c s ([], (sc, e)) u = absurd (cc)
utf8_firm c s (d ∷ ds, (sc, e)) u = (
  d,
  (
    ds ++ chars u,
    chars-append (c ∷ s) u (d ∷ ds, (sc, e))
        ∙ ap (λ l. l ++ chars u) (ap chars (sym e) ∙ chars-encodes (d ∷ ds) sc),
  ),
)

-- to marks it is as if nothing stood before
nothing_apart : is_apart_there (Some 32) ≡ is_apart_there (character_before [])
unfolding chars
nothing_apart = refl

nothing_there : (c : ℕ) → is_character c (character_before []) ≡ false
unfolding chars
nothing_there c = refl

pub box_alike : (head : List ℕ) → IsBox head → AreAlike head []
box_alike head h = record {
  apart = ap is_apart_there h.before ∙ nothing_apart;
  signs = λ c i. ap (is_character c) h.before ∙ no_space c i ∙ sym (nothing_there c);
  bare = λ c i.
      ap (λ b. b && not (is_last_escaped head)) (ap (is_character c) h.before ∙ no_space c i)
      ∙ sym (ap (λ b. b && not (is_last_escaped [])) (nothing_there c));
  more = λ c u i. same_behind head c u h (sign_firm c u i);
}
  where
    no_space : (c : ℕ) → is_one_of (codes "*_~") c ≡ true → (32 == c) ≡ false
    no_space c i = not-true (32 == c) (one_of (λ d. not (32 == d)) (codes "*_~") c i refl)

-- ---- a text without the space before it

run_with_space : (s : List ℕ) → prefix_len is_underscore (s ++ (32 ∷ [])) ≡ prefix_len is_underscore s
run_with_space [] = refl
run_with_space (c ∷ s) = test (c == 95) (λ e. rw e (ap (λ n. 1 + n) (run_with_space s))) (λ e. rw e refl)

run_fits : (s : List ℕ) → prefix_len is_underscore s ≤ length s
run_fits [] = omega arith
run_fits (c ∷ s) = let n = run_fits s in test (c == 95) (λ e. rw e (omega arith)) (λ e. rw e (omega arith))

reverse_length : (s : List ℕ) → length (reverse s) ≡ length s
reverse_length [] = refl
reverse_length (c ∷ s) =
    let e = ap length (reverse-append (c ∷ []) s) ∙ length-append (reverse s) (c ∷ []) in
    let n = reverse_length s in omega arith

trimmed_space : (pre : List ℕ) → trimmed_end is_underscore (32 ∷ pre) ≡ 32 ∷ trimmed_end is_underscore pre
trimmed_space pre =
    let n = suffix_len is_underscore pre in
    let a : suffix_len is_underscore (32 ∷ pre) ≡ n =
    ap (prefix_len is_underscore) (reverse-append (32 ∷ []) pre) ∙ run_with_space (reverse pre) in
    let l : n ≤ length pre = let x = run_fits (reverse pre) in let y = reverse_length pre in omega arith in
    let b : length (32 ∷ pre) - suffix_len is_underscore (32 ∷ pre) ≡ suc (length pre - n) = omega arith in
    ap (λ i. take i (32 ∷ pre)) b

space_char : (s : List ℕ) → chars (32 ∷ s) ≡ 32 ∷ chars s
unfolding chars encode
space_char [] = refl
space_char (c ∷ s) = refl

end_of : (cs : List ℕ) (o : Option ℕ)
    → option_or (slice_get (reverse (32 ∷ cs)) 0) o ≡ option_or (slice_get (reverse cs) 0) (Some 32)
end_of [] o = refl
end_of (c ∷ cs) o =
    let v = snoc c cs in
    ap (λ l. option_or (slice_get l 0) o) (ap (λ l. reverse (32 ∷ l)) v.is
    ∙ reverse-append (32 ∷ v.front) (v.last ∷ []))
    ∙ sym (ap (λ l. option_or (slice_get l 0) (Some 32))
    (ap reverse v.is ∙ reverse-append v.front (v.last ∷ [])))

-- the place after the space
abbrev pub behind_space : Place → Place
behind_space place = record place { before = Some 32 }

before_behind : (place : Place) (pre : List ℕ)
    → text.character_before place (32 ∷ pre) ≡ text.character_before (behind_space place) pre
before_behind place pre =
    ap (λ l. option_or (slice_get (reverse (chars l)) 0) place.before) (trimmed_space pre)
    ∙ ap (λ l. option_or (slice_get (reverse l) 0) place.before) (space_char (trimmed_end is_underscore pre))
    ∙ end_of (chars (trimmed_end is_underscore pre)) place.before

pub no_both : (x y : Bool) → ((x && false) && y) ≡ false
no_both true y = refl
no_both false y = refl

mark_behind : (place : Place) (pre t : List ℕ) (c : ℕ)
    → mark_at place (32 ∷ pre) c t ≡ mark_at (behind_space place) pre c t
mark_behind place pre t c =
    let others = λ (o : Option ℕ) (caret : Bool).
    is_one_of (codes "`*[~") c
    || ((c == 93) && place.in_brackets)
    || ((c == 92) && may_be_escaped (option_or (slice_get t 0) place.after))
    || ((c == 95) && not (is_of_word o && is_of_word (text.character_after place (c ∷ t))))
    || ((c == 60) && may_be_in_tag (option_or (slice_get t 0) place.after))
    || ((c == 38) && is_reference t)
    || ((c == 33) && is_empty t && is_bracket place.after)
    || caret in
    let here = is_one_of (codes "^") c in
    ap (λ o. others o ((here && false) && is_bracket place.before)) (before_behind place pre)
    ∙ ap (others (text.character_before (behind_space place) pre))
    (no_both here (is_bracket place.before) ∙ sym (never (here && is_empty pre)))

pub marks_behind : (place : Place) (s : List ℕ) (marked : ℕ → Bool) → MarksAll place (32 ∷ s) marked
    → MarksAll (behind_space place) s (λ k. marked (suc k))
marks_behind place s marked m = record {
  punctuation = λ pre t c e h. m.punctuation (32 ∷ pre) t c (ap (λ l. 32 ∷ l) e) h;
  none_left = λ pre t c e h.
      sym (mark_behind place pre t c) ∙ m.none_left (32 ∷ pre) t c (ap (λ l. 32 ∷ l) e) h;
  rows = λ pre t e.
      m.rows (32 ∷ pre) t (ap (λ l. 32 ∷ l) e)
      ∙ ap (λ o. not (is_of_word o && is_of_word (text.character_after place (95 ∷ t)))) (before_behind place pre);
}

pub behind_written : (marked : ℕ → Bool) (k : ℕ) (s : List ℕ)
    → with_backslashes marked (suc k) s ≡ with_backslashes (λ j. marked (suc j)) k s
behind_written marked k [] = refl
behind_written marked k (c ∷ s) =
    test (marked (suc k)) (λ m. rw m (ap (λ l. 92 ∷ c ∷ l) (behind_written marked (suc k) s)))
    (λ m. rw m (ap (λ l. c ∷ l) (behind_written marked (suc k) s)))
