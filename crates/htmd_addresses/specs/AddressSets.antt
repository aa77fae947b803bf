-- Sets of addresses, as in `srcset`: candidates, each an address and what describes it (HTML, 4.8.4.2.1).
use Rattle.std.specs.Prelude.{ℕ, ◌+◌, ◌-◌, Bool, false, not, ◌&&◌, ◌||◌, ◌==◌, nat_lt, if◌then◌else◌}
use Rattle.std.specs.Prelude.{zero, suc, List, [], ◌∷◌, ◌++◌, length, take, drop, Option, Some, None}
use Rattle.std.specs.Char.{is_ascii_whitespace}
use Rattle.std.specs.List.{prefix_len, suffix_len}
use Rattle.htmd_lexical.specs.Characters.{comma, left_parenthesis, right_parenthesis}

-- what addresses become
abbrev pub Resolution : Type 0
Resolution = List ℕ → List ℕ

abbrev pub is_comma : ℕ → Bool
is_comma b = b == comma

-- white space and commas are before an address
abbrev pub is_before : ℕ → Bool
is_before b = is_ascii_whitespace b || is_comma b

abbrev pub before_len : List ℕ → ℕ
before_len s = prefix_len is_before s

-- how long what is before white space is
abbrev pub word_len : List ℕ → ℕ
word_len s = prefix_len (λ b. not (is_ascii_whitespace b)) s

-- how long an address is: a word without the commas at its end
abbrev pub address_len : List ℕ → ℕ
address_len s = word_len s - suffix_len is_comma (take (word_len s) s)

-- in parentheses, after this byte
abbrev pub is_inside : Bool → ℕ → Bool
is_inside inside b = if inside then not (b == right_parenthesis) else b == left_parenthesis

-- how long a description is: up to a comma that isn't in parentheses
abbrev pub description_len : Bool → List ℕ → ℕ
description_len inside [] = 0
description_len inside (b ∷ s) =
    if not inside && is_comma b then 0 else 1 + description_len (is_inside inside b) s

-- an address, what is before it in a set, what describes it, and the candidates after that
pub record Candidate : Type 0 where
  pub before : List ℕ
  pub address : List ℕ
  pub description : List ℕ
  pub after : List ℕ

-- the candidate with this address, and what follows it
abbrev pub described : List ℕ → List ℕ → List ℕ → Candidate
described before address rest =
    record {
      before = before;
      address = address;
      description = take (description_len false rest) rest;
      after = drop (description_len false rest) rest;
    }

-- the same, if there is an address
abbrev pub candidate_with : List ℕ → List ℕ → List ℕ → Option Candidate
candidate_with before address rest =
    if nat_lt 0 (length address) then Some (described before address rest) else None

-- the first candidate of what follows white space and commas
abbrev pub candidate_after : List ℕ → List ℕ → Option Candidate
candidate_after before s = candidate_with before (take (address_len s) s) (drop (address_len s) s)

-- the first candidate of a set
abbrev pub first_candidate : List ℕ → Option Candidate
first_candidate s = candidate_after (take (before_len s) s) (drop (before_len s) s)

-- a set whose first address becomes another one, and those after it too
abbrev pub set_from : Resolution → (List ℕ → List ℕ) → List ℕ → Option Candidate → List ℕ
set_from to others s None = s
set_from to others s (Some c) = c.before ++ (to c.address ++ (c.description ++ others c.after))

-- a set whose first addresses, as many as said, become others
abbrev pub set_by : ℕ → Resolution → List ℕ → List ℕ
set_by zero to s = s
set_by (suc n) to s = set_from to (set_by n to) s (first_candidate s)

-- a set whose addresses become others: there are no more of them than bytes
abbrev pub set_with : Resolution → List ℕ → List ℕ
set_with to s = set_by (length s) to s
