-- Which kind of token comes next, and a text of literal characters.
use Rattle.std.proofs.Common.{◌≡◌, ℕ, Bool, true, false, List, [], ◌∷◌, length, drop, refl, ap, sym, ◌∙◌}
use Rattle.std.proofs.lemmas.Bool.{and_parts}
use Rattle.std.specs.List.{list_all}
use Rattle.std.specs.Prelude.{◌==◌, not}
use Rattle.htmd_lexical.proofs.Cases.{test}
use Rattle.htmd_lexical.specs.CharacterClasses.{leading_run, behind_run, up_to, onward}
use Rattle.htmd_html5_tokens.specs.NextToken.{begins_section, begins_markup, read_markup, read_piece, read_text}
use Rattle.htmd_html5_tokens.specs.AppendedCharacters.{is_literal, ends_text}
use Rattle.htmd_html5_tokens.specs.Tokens.{text, Read}
use Rattle.htmd_html5_tokens.specs.declared.contents.Reading.TheVariants.{Text}
use Rattle.htmd_html5_tokens.proofs.ContentsLemmas.{decoded_itself}

pub markup_next : (foreign : Bool) (s after : List ℕ) → (length s == 0) ≡ false
    → begins_section foreign s ≡ false → begins_markup s ≡ true → after ≡ drop 1 s
    → read_markup after ≡ read_piece foreign s
markup_next foreign [] after e f g h = absurd (cc)
markup_next foreign (b ∷ s) after e f g h = rw (f, g, h) refl

-- ---- literal characters up to markup or the end

no : (x : Bool) → not x ≡ true → x ≡ false
no true e = cc
no false e = refl

plain_is_before : (b : ℕ) (s : List ℕ) → is_literal Text b ≡ true → begins_markup (b ∷ s) ≡ false
plain_is_before b s e =
    let both = and_parts (not (b == 38)) (not (b == 60)) e in rw (no (b == 60) both.1) refl

plain_up_to : (s : List ℕ) → ends_text (behind_run (is_literal Text) s) ≡ true
    → (up_to begins_markup s ≡ leading_run (is_literal Text) s)
    × (onward begins_markup s ≡ behind_run (is_literal Text) s)
plain_up_to [] e = (refl, refl)
plain_up_to (b ∷ s) e =
    test (is_literal Text b)
    (λ p. let more = plain_up_to s (rw p at e) in rw (plain_is_before b s p, p, more.0, more.1) (refl, refl))
    (λ p. let f = rw p at e in let m : begins_markup (b ∷ s) ≡ true = f in rw (m, p) (refl, refl))

run_passes : (p : ℕ → Bool) (s : List ℕ) → list_all p (leading_run p s) ≡ true
run_passes p [] = refl
run_passes p (b ∷ s) = test (p b) (λ e. rw (e, e, run_passes p s) refl) (λ e. rw e refl)

pub plain_text : (s front rest read : List ℕ) → front ≡ leading_run (is_literal Text) s
    → rest ≡ behind_run (is_literal Text) s → ends_text rest ≡ true → read ≡ front
    → ◌≡◌ {A = Read} (record { token = text read; rest = rest }) (read_text s)
plain_text s front rest read e f g h =
    let u = plain_up_to s (ap ends_text (sym f) ∙ g) in
    let d = decoded_itself Text (leading_run (is_literal Text) s) (run_passes (is_literal Text) s) in
    rw (h, e, f, u.0, u.1, d) refl
