-- Texts are taken run by run: all white space, all U+0000, or neither, each as long as it goes.
use Rattle.std.specs.Prelude.{ℕ, Bool, not, ◌&&◌, ◌==◌, if◌then◌else◌, List, [], ◌∷◌}
use Rattle.htmd_lexical.specs.CharacterClasses.{leading_run, behind_run}
use Rattle.htmd_lexical.specs.WhiteSpace.{is_ascii_white_space}
use Rattle.htmd_lexical.specs.Characters.{null}
use Rattle.htmd_html5.specs.declared.tokens.RunKind.{RunKind}
use Rattle.htmd_html5.specs.declared.tokens.RunKind.TheVariants.{White, Nulls, Characters}

abbrev pub is_null : ℕ → Bool
is_null b = b == null

abbrev pub kind_of_byte : ℕ → RunKind
kind_of_byte b = if is_ascii_white_space b then White else if is_null b then Nulls else Characters

-- the kind of the first run
abbrev pub first_kind : List ℕ → RunKind
first_kind [] = Characters
first_kind (b ∷ s) = kind_of_byte b

abbrev pub is_of_kind : RunKind → ℕ → Bool
is_of_kind White b = is_ascii_white_space b
is_of_kind Nulls b = is_null b
is_of_kind Characters b = not (is_ascii_white_space b) && not (is_null b)

abbrev pub first_run : List ℕ → List ℕ
first_run s = leading_run (is_of_kind (first_kind s)) s

abbrev pub after_first_run : List ℕ → List ℕ
after_first_run s = behind_run (is_of_kind (first_kind s)) s
