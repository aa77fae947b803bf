-- Which characters of a text count, in order. Where the modules above speak of letters, they mean those that count.
use Rattle.std.proofs.Common.{◌≡◌, ℕ, Bool, true, false, List, [], ◌∷◌, ◌++◌, refl}
use Rattle.std.specs.Prelude.{filter}
use Rattle.std.specs.Str.{chars}
use Rattle.htmd_lexical.specs.WhiteSpace.{is_ascii_white_space}
use Rattle.htmd_lexical.specs.Characters.{null}
use Rattle.htmd_html5_tokens.specs.References.{replacement_character}
use Rattle.htmd_law_html5.specs.PageLetters.{is_letter}

-- U+0000 and U+FFFD count only if no U+0000 comes, and white space only if the head isn't opened once more after it
pub record Choice : Type 0 where
  pub counts : ℕ → Bool
  pub reopens : Bool
  pub nulls : Bool
  pub no_null : nulls ≡ true → counts null ≡ false
  pub no_replacement : nulls ≡ true → counts replacement_character ≡ false
  pub no_white : reopens ≡ true → (c : ℕ) → is_ascii_white_space c ≡ true → counts c ≡ false

-- those of a text
unfoldable pub counted_of : Choice → List ℕ → List ℕ
counted_of choice s = filter choice.counts (chars s)

-- and of all of these, one after another
abbrev pub counted_in : Choice → List (List ℕ) → List ℕ
counted_in choice [] = []
counted_in choice (s ∷ texts) = counted_of choice s ++ counted_in choice texts

-- letters, with no white space among them
abbrev pub letter_choice : Choice
letter_choice = record {
  counts = is_letter;
  reopens = true;
  nulls = true;
  no_null = λ e. refl;
  no_replacement = λ e. refl;
  no_white = λ e c w. rw w refl;
}
