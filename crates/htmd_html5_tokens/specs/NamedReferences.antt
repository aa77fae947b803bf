-- The named character references (HTML Standard, 13.5), by the first letter of their names, and what they stand for.
-- The tables themselves are in `src/names`.
use Rattle.std.specs.Prelude.{ℕ, ◌==◌, if◌then◌else◌, List, [], ◌∷◌, Option, Some, None, map}
use Rattle.std.specs.List.{before_first, after_first}
use Rattle.std.specs.Str.{bytes_eq}
use Rattle.std.specs.Char.{is_ascii_uppercase}
use Rattle.std.specs.Borrow.{Bor}
use Rattle.htmd_lexical.specs.Characters.{semicolon}
use Rattle.htmd_lexical.specs.CharacterClasses.{begins_with}
use Rattle.htmd_html5_tokens.specs.declared.names.capital_names.TheConstants.{CAPITAL_A, CAPITAL_B, CAPITAL_C}
use Rattle.htmd_html5_tokens.specs.declared.names.capital_names.TheConstants.{CAPITAL_D, CAPITAL_E, CAPITAL_F}
use Rattle.htmd_html5_tokens.specs.declared.names.capital_names.TheConstants.{CAPITAL_G, CAPITAL_H, CAPITAL_I}
use Rattle.htmd_html5_tokens.specs.declared.names.capital_names.TheConstants.{CAPITAL_J, CAPITAL_K, CAPITAL_L}
use Rattle.htmd_html5_tokens.specs.declared.names.capital_names.TheConstants.{CAPITAL_M, CAPITAL_N, CAPITAL_O}
use Rattle.htmd_html5_tokens.specs.declared.names.capital_names.TheConstants.{CAPITAL_P, CAPITAL_Q, CAPITAL_R}
use Rattle.htmd_html5_tokens.specs.declared.names.capital_names.TheConstants.{CAPITAL_S, CAPITAL_T, CAPITAL_U}
use Rattle.htmd_html5_tokens.specs.declared.names.capital_names.TheConstants.{CAPITAL_V, CAPITAL_W, CAPITAL_X}
use Rattle.htmd_html5_tokens.specs.declared.names.capital_names.TheConstants.{CAPITAL_Y, CAPITAL_Z}
use Rattle.htmd_html5_tokens.specs.declared.names.names_a_to_k.TheConstants.{SMALL_A, SMALL_B, SMALL_C, SMALL_D}
use Rattle.htmd_html5_tokens.specs.declared.names.names_a_to_k.TheConstants.{SMALL_E, SMALL_F, SMALL_G, SMALL_H}
use Rattle.htmd_html5_tokens.specs.declared.names.names_a_to_k.TheConstants.{SMALL_I, SMALL_J, SMALL_K}
use Rattle.htmd_html5_tokens.specs.declared.names.names_l_to_r.TheConstants.{SMALL_L, SMALL_M, SMALL_N, SMALL_O}
use Rattle.htmd_html5_tokens.specs.declared.names.names_l_to_r.TheConstants.{SMALL_P, SMALL_Q, SMALL_R}
use Rattle.htmd_html5_tokens.specs.declared.names.names_s_to_z.TheConstants.{SMALL_S, SMALL_T, SMALL_U, SMALL_V}
use Rattle.htmd_html5_tokens.specs.declared.names.names_s_to_z.TheConstants.{SMALL_W, SMALL_X, SMALL_Y, SMALL_Z}
use Rattle.htmd_html5_tokens.specs.declared.names.old_names.TheConstants.{OLD_NAMES}

pub record NamedReference : Type 0 where
  pub name : List ℕ
  pub characters : List ℕ

-- a row of a table: the name, its `;`, and what it stands for
abbrev pub row_of : List ℕ → NamedReference
row_of s = record { name = before_first (λ b. b == semicolon) s; characters = after_first (λ b. b == semicolon) s }

abbrev rows_of : List (record { now : List ℕ }) → List NamedReference
rows_of rows = map (λ r. row_of r.now) rows

-- the same of rows that the program has
abbrev pub loan_rows : List (Bor (List ℕ)) → List NamedReference
loan_rows rows = map (λ r. row_of r.now) rows

-- the names that begin with this capital letter
unfoldable pub capital_names : ℕ → List NamedReference
capital_names b =
    if b == 0x41 then rows_of CAPITAL_A else
    if b == 0x42 then rows_of CAPITAL_B else
    if b == 0x43 then rows_of CAPITAL_C else
    if b == 0x44 then rows_of CAPITAL_D else
    if b == 0x45 then rows_of CAPITAL_E else
    if b == 0x46 then rows_of CAPITAL_F else
    if b == 0x47 then rows_of CAPITAL_G else
    if b == 0x48 then rows_of CAPITAL_H else
    if b == 0x49 then rows_of CAPITAL_I else
    if b == 0x4A then rows_of CAPITAL_J else
    if b == 0x4B then rows_of CAPITAL_K else
    if b == 0x4C then rows_of CAPITAL_L else
    if b == 0x4D then rows_of CAPITAL_M else
    if b == 0x4E then rows_of CAPITAL_N else
    if b == 0x4F then rows_of CAPITAL_O else
    if b == 0x50 then rows_of CAPITAL_P else
    if b == 0x51 then rows_of CAPITAL_Q else
    if b == 0x52 then rows_of CAPITAL_R else
    if b == 0x53 then rows_of CAPITAL_S else
    if b == 0x54 then rows_of CAPITAL_T else
    if b == 0x55 then rows_of CAPITAL_U else
    if b == 0x56 then rows_of CAPITAL_V else
    if b == 0x57 then rows_of CAPITAL_W else
    if b == 0x58 then rows_of CAPITAL_X else
    if b == 0x59 then rows_of CAPITAL_Y else
    if b == 0x5A then rows_of CAPITAL_Z else
    []

-- the names that begin with this small letter
unfoldable pub small_names : ℕ → List NamedReference
small_names b =
    if b == 0x61 then rows_of SMALL_A else
    if b == 0x62 then rows_of SMALL_B else
    if b == 0x63 then rows_of SMALL_C else
    if b == 0x64 then rows_of SMALL_D else
    if b == 0x65 then rows_of SMALL_E else
    if b == 0x66 then rows_of SMALL_F else
    if b == 0x67 then rows_of SMALL_G else
    if b == 0x68 then rows_of SMALL_H else
    if b == 0x69 then rows_of SMALL_I else
    if b == 0x6A then rows_of SMALL_J else
    if b == 0x6B then rows_of SMALL_K else
    if b == 0x6C then rows_of SMALL_L else
    if b == 0x6D then rows_of SMALL_M else
    if b == 0x6E then rows_of SMALL_N else
    if b == 0x6F then rows_of SMALL_O else
    if b == 0x70 then rows_of SMALL_P else
    if b == 0x71 then rows_of SMALL_Q else
    if b == 0x72 then rows_of SMALL_R else
    if b == 0x73 then rows_of SMALL_S else
    if b == 0x74 then rows_of SMALL_T else
    if b == 0x75 then rows_of SMALL_U else
    if b == 0x76 then rows_of SMALL_V else
    if b == 0x77 then rows_of SMALL_W else
    if b == 0x78 then rows_of SMALL_X else
    if b == 0x79 then rows_of SMALL_Y else
    if b == 0x7A then rows_of SMALL_Z else
    []

-- a row of the table of names that may stand without `;`, and the same of rows that the program has
abbrev old_row_of : record { now : List ℕ } × record { now : List ℕ } → NamedReference
old_row_of r = record { name = r.0.now; characters = r.1.now }

abbrev pub old_loan_row : Bor (List ℕ) × Bor (List ℕ) → NamedReference
old_loan_row r = record { name = r.0.now; characters = r.1.now }

abbrev pub old_loan_rows : List (Bor (List ℕ) × Bor (List ℕ)) → List NamedReference
old_loan_rows rows = map old_loan_row rows

-- the names that may stand without `;`; none begins another, so a text begins with at most one of them
unfoldable pub old_names : List NamedReference
old_names = map old_row_of OLD_NAMES

-- what the reference with this name stands for
abbrev pub named_in : List NamedReference → List ℕ → Option (List ℕ)
named_in [] n = None
named_in (r ∷ rows) n = if bytes_eq n r.name then Some r.characters else named_in rows n

abbrev pub named : List ℕ → Option (List ℕ)
named [] = None
named (b ∷ n) =
    if is_ascii_uppercase b then named_in (capital_names b) (b ∷ n) else named_in (small_names b) (b ∷ n)

-- the first of these names with which the text begins
abbrev pub first_in : List NamedReference → List ℕ → Option NamedReference
first_in [] s = None
first_in (r ∷ rows) s = if begins_with r.name s then Some r else first_in rows s

-- the one that may stand without `;`
abbrev pub longest_old : List ℕ → Option NamedReference
longest_old s = first_in old_names s
