-- What inlines give as parts, by the numbers of their links.
use Rattle.std.proofs.Common.{◌≡◌, ℕ, Bool, true, false, ◌&&◌, List, []}
use Rattle.std.proofs.Common.{◌∷◌, ◌++◌}
use Rattle.std.proofs.Common.{ap, ◌∙◌}
use Rattle.std.proofs.Common.{suc, ◌≤◌, arith}
use Rattle.std.specs.Prelude.{nat_le}
use Rattle.std.proofs.lemmas.Bool.{and_parts}
use Rattle.std.proofs.lemmas.Bool.Decides.{nat_tests}
use Rattle.htmd_lexical.specs.Characters.{line_feed}
use Rattle.htmd_document.specs.Documents.{Inline, text, code, formatted, link, image, anchor, line_break, task}
use Rattle.htmd_document.specs.Documents.{Inlines, no_inlines, inline}
use Rattle.htmd_flow.specs.Parts as part
use Rattle.htmd_flow.specs.Parts.{Around, Part, run}
use Rattle.htmd_law_returning.proofs.StartLemmas.{false-true}

-- the numbers of the links in a line, by its structure, and behind which breaks there is no line's end
pub data Numbers : Type 0 where
  unknown : Numbers
  unended : Numbers
  numbered : (id : ℕ) (inside rest : Numbers) → Numbers

abbrev pub own_number : Numbers → ℕ
own_number unknown = 0
own_number unended = 0
own_number (numbered id inside rest) = id

abbrev pub numbers_inside : Numbers → Numbers
numbers_inside unknown = unknown
numbers_inside unended = unknown
numbers_inside (numbered id inside rest) = inside

abbrev pub numbers_after : Numbers → Numbers
numbers_after unknown = unknown
numbers_after unended = unknown
numbers_after (numbered id inside rest) = rest

-- the numbers of what stands in a line rise from this one
abbrev mutual
  pub is_rising_in : Numbers → Inline → Bool
  is_rising_in ns (formatted f content) = is_rising 0 ns content
  is_rising_in ns (link a t content) = is_rising 0 ns content
  is_rising_in ns x = true

  pub is_rising : ℕ → Numbers → Inlines → Bool
  is_rising k ns no_inlines = true
  is_rising k unknown (inline x xs) = false
  is_rising k unended (inline x xs) = false
  is_rising k (numbered id inside rest) (inline x xs) =
      (nat_le k id && is_rising_in inside x) && is_rising (suc id) rest xs

pub rise-more : (k id : ℕ) (inside rest : Numbers) (x : Inline) (xs : Inlines) → nat_le k id ≡ true
    → is_rising_in inside x ≡ true → is_rising (suc id) rest xs ≡ true
    → is_rising k (numbered id inside rest) (inline x xs) ≡ true
rise-more k id inside rest x xs h e g =
    ap (λ b. (b && is_rising_in inside x) && is_rising (suc id) rest xs) h
    ∙ (ap (λ b. b && is_rising (suc id) rest xs) e ∙ g)

pub record IsRising (k : ℕ) (ns : Numbers) (x : Inline) (xs : Inlines) : Type 0 where
  pub least : nat_le k (own_number ns) ≡ true
  pub inside : is_rising_in (numbers_inside ns) x ≡ true
  pub rest : is_rising (suc (own_number ns)) (numbers_after ns) xs ≡ true
  pub below : k ≤ suc (own_number ns)

pub rising-next : (k : ℕ) (ns : Numbers) (x : Inline) (xs : Inlines) → is_rising k ns (inline x xs) ≡ true
    → IsRising k ns x xs
rising-next k unknown x xs h = false-true h
rising-next k unended x xs h = false-true h
rising-next k (numbered id inside rest) x xs h =
    let parts = and_parts (nat_le k id && is_rising_in inside x) (is_rising (suc id) rest xs) h in
    let own = and_parts (nat_le k id) (is_rising_in inside x) parts.0 in
    record { least = own.0; inside = own.1; rest = parts.1; below = grind (arith, nat_tests, own.0) }

abbrev pub is_ended : Numbers → Bool
is_ended unended = false
is_ended ns = true

-- the line's end behind a break
abbrev pub end_of_line : Bool → List Around → List Part
end_of_line false around = []
end_of_line true around = run (line_feed ∷ []) around false ∷ []

-- what inlines give, in what stands around
abbrev mutual
  pub parts_one : List Around → Numbers → Inline → List Part
  parts_one around ns (text s) = run s around false ∷ []
  parts_one around ns (code s) = run s around true ∷ []
  parts_one around ns (formatted f content) =
      parts_in (around ++ part.formatted f ∷ []) (numbers_inside ns) content
  parts_one around ns (link a t content) =
      parts_in (around ++ part.linked (own_number ns) a t ∷ []) (numbers_inside ns) content
  parts_one around ns line_break = part.break ∷ end_of_line (is_ended (numbers_inside ns)) around
  parts_one around ns (image a t d) = part.picture a t d around ∷ []
  parts_one around ns (anchor id) = part.place id ∷ []
  parts_one around ns (task d) = part.box d ∷ []

  pub parts_in : List Around → Numbers → Inlines → List Part
  parts_in around ns no_inlines = []
  parts_in around ns (inline x xs) = parts_one around ns x ++ parts_in around (numbers_after ns) xs
