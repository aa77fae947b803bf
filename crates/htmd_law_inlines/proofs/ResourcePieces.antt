-- The address and title behind a bracket, and the bracket that they close.
use Rattle.std.proofs.Common.{◌≡◌, ◌∙◌, refl, ap, ℕ, ◌-◌, true, false, List, [], ◌∷◌, ◌++◌, Option, Some, None, codes}
use Rattle.std.proofs.Common.{length, arith}
use Rattle.std.specs.Prelude.{not, ◌==◌, if◌then◌else◌}
use Rattle.std.specs.List.{list_all, list_any}
use Rattle.std.specs.Option.{option_or}
use Rattle.std.proofs.lemmas.Bool.{and_parts, or_parts}
use Rattle.std.proofs.lemmas.List.{append_assoc, length-append}
use Rattle.htmd_lexical.specs.CharacterClasses.{is_empty, first_is, lacks}
use Rattle.htmd_commonmark.specs.Addresses.{escaped_in, needs_brackets, is_space_or_control}
use Rattle.htmd_commonmark.specs.Addresses as writer
use Rattle.htmd_commonmark.specs.InlineMarkdown.{written_resource}
use Rattle.htmd_commonmark_reading.specs.Characters.{is_white, unescaped}
use Rattle.htmd_commonmark_reading.specs.LinkDefinitions.{past_white, destination, on_one_line, unless_front_is_empty}
use Rattle.htmd_commonmark_reading.specs.LinkDefinitions.{bare, title_after, pointed, label}
use Rattle.htmd_commonmark_reading.specs.Markup.{no_inlines, link, image}
use Rattle.htmd_commonmark_reading.specs.DelimiterRuns.{Token, finished, processed}
use Rattle.htmd_commonmark_reading.specs.Brackets.{References, inline_target, target_at, target_title, closed_target}
use Rattle.htmd_commonmark_reading.specs.Brackets.{reference_target, before_end, Brackets, bracket, and_tokens}
use Rattle.htmd_commonmark_reading.specs.Brackets.{without_links, linked, scanned, token_step}
use Rattle.htmd_document.specs.NormalInlines.{is_kept}
use Rattle.htmd_law_inlines.proofs.Pieces.{steps_to, pushed}
use Rattle.htmd_law_inlines.proofs.TextPieces.{test, differs, skips}
use Rattle.htmd_law_inlines.proofs.AddressPieces.{AreSigns, are_bare_signs, bare_signs, piece_cases, address_text}
use Rattle.htmd_law_inlines.proofs.AddressPieces.{until_read, bare_read, ends_address, not_sign}

-- ---- addresses

pub pointed_signs : AreSigns (codes "<>")
pointed_signs = record { punctuation = refl; no_backslash = refl; no_ampersand = refl; no_semicolon = refl }

pub title_signs : AreSigns (codes "\"")
title_signs = record { punctuation = refl; no_backslash = refl; no_ampersand = refl; no_semicolon = refl }

-- what is written of one line is one line
one_line : (signs : List ℕ) (s : List ℕ) → list_all is_kept s ≡ true → lacks 10 (escaped_in signs s) ≡ true
one_line signs [] h = refl
one_line signs (b ∷ s) h =
    let p = and_parts (is_kept b) (list_all is_kept s) h in
    let d = differs is_kept b 10 p.0 refl in
    piece_cases signs b s
    (λ e q. rw (q, d) (one_line signs s p.1))
    (λ e q. rw q (one_line signs s p.1))
    (λ e a q. rw (q, d) (one_line signs s p.1))

-- an address as it stands between its brackets, or bare
abbrev pub raw_address : List ℕ → List ℕ
raw_address s = if needs_brackets s then escaped_in (codes "<>") s else escaped_in bare_signs s

pub raw_text : (s : List ℕ) → unescaped (raw_address s) ≡ s
raw_text s =
    test (needs_brackets s) (λ e. rw e (address_text (codes "<>") pointed_signs s))
    (λ e. rw e (address_text bare_signs are_bare_signs s))

pub bare_destination : (u : List ℕ) → first_is 60 u ≡ false → destination u
    ≡ unless_front_is_empty (bare 0 false u)
bare_destination [] h = refl
bare_destination (c ∷ u) h = rw h refl

-- how an address begins: not with white space or a parenthesis
pub record Begins (u : List ℕ) : Type 0 where
  pub no_white : past_white u ≡ u
  pub no_end : first_is 41 u ≡ false

pub begins_other : (c : ℕ) (u : List ℕ) → is_white c ≡ false → (c == 41) ≡ false → Begins (c ∷ u)
begins_other c u h k = record { no_white = rw h refl; no_end = k }

not_white : (c : ℕ) → is_space_or_control c ≡ false → is_white c ≡ false
not_white c h =
    let p = λ (x : ℕ). not (is_space_or_control x) in
    let k = ap not h in
    rw (differs p c 32 k refl, differs p c 9 k refl, differs p c 10 k refl) refl

pub bare_begins : (b : ℕ) (s r : List ℕ) → is_space_or_control b ≡ false
    → Begins (escaped_in bare_signs (b ∷ s) ++ r) × (first_is 60 (escaped_in bare_signs (b ∷ s) ++ r) ≡ false)
    × (is_empty (escaped_in bare_signs (b ∷ s)) ≡ false)
bare_begins b s r h =
    piece_cases bare_signs b s
    (λ e p. rw p (begins_other 92 (b ∷ (escaped_in bare_signs s ++ r)) refl refl, refl, refl))
    (λ e p. rw p (begins_other 38 (codes "amp;" ++ (escaped_in bare_signs s ++ r)) refl refl, refl, refl))
    (λ e a p. rw p (
      begins_other b (escaped_in bare_signs s ++ r) (not_white b h) (not_sign bare_signs b 41 s e refl),
      not_sign bare_signs b 60 s e refl,
      refl,
    ))

pub pointed_read : (s r : List ℕ) → list_all is_kept s ≡ true
    → pointed (escaped_in (codes "<>") s ++ (62 ∷ r))
    ≡ Some (record { front = escaped_in (codes "<>") s; rest = r })
pointed_read s r h =
    ap on_one_line (until_read (codes "<>") pointed_signs 62 60 refl refl s r)
    ∙ ap (λ t. if t then Some (record { front = escaped_in (codes "<>") s; rest = r }) else None)
    (one_line (codes "<>") s h)

pub destination_read : (s r : List ℕ) → list_all is_kept s ≡ true → ends_address r ≡ true
    → (destination (writer.destination s ++ r) ≡ Some (record { front = raw_address s; rest = r }))
    × Begins (writer.destination s ++ r)
destination_read [] r h k = (refl, begins_other 60 (62 ∷ r) refl refl)
destination_read (b ∷ s) r h k =
    test (needs_brackets (b ∷ s))
    (λ e. rw e (
      ap pointed (append_assoc (escaped_in (codes "<>") (b ∷ s)) (codes ">") r) ∙ pointed_read (b ∷ s) r h,
      begins_other 60 ((escaped_in (codes "<>") (b ∷ s) ++ codes ">") ++ r) refl refl,
    ))
    (λ e. let o = or_parts (is_space_or_control b) (list_any is_space_or_control s) e in
    let g = bare_begins b s r o.0 in
    rw e (
      bare_destination (escaped_in bare_signs (b ∷ s) ++ r) g.1
          ∙ ap unless_front_is_empty (bare_read (b ∷ s) r e k)
          ∙ ap (λ t. if t then None else Some (record { front = escaped_in bare_signs (b ∷ s); rest = r })) g.2,
      g.0,
    ))

-- ---- titles

-- what stands behind an address
abbrev behind_address : Option (List ℕ) → List ℕ → List ℕ
behind_address None ks = 41 ∷ ks
behind_address (Some t) ks = 32 ∷ 34 ∷ (escaped_in (codes "\"") t ++ (34 ∷ 41 ∷ ks))

title_written : (t : Option (List ℕ)) (ks : List ℕ) → writer.title t ++ (41 ∷ ks) ≡ behind_address t ks
title_written None ks = refl
title_written (Some t) ks = ap (λ l. 32 ∷ 34 ∷ l)
    (append_assoc (escaped_in (codes "\"") t) (codes "\"") (41 ∷ ks))

title_read : (address : List ℕ) (t : Option (List ℕ)) (ks : List ℕ)
    → target_title address (behind_address t ks) (title_after (behind_address t ks))
    ≡ Some (record { address = unescaped address; title = t; rest = ks })
title_read address None ks = refl
title_read address (Some t) ks =
    ap (target_title address (behind_address (Some t) ks))
    (until_read (codes "\"") title_signs 34 34 refl refl t (41 ∷ ks))
    ∙ ap (λ u. Some (record { address = unescaped address; title = Some u; rest = ks }))
    (address_text (codes "\"") title_signs t)

-- ---- what stands in parentheses

abbrev in_parentheses : List ℕ → Option (List ℕ) → List ℕ
in_parentheses a t = 40 ∷ ((writer.destination a ++ writer.title t) ++ (41 ∷ []))

resource_written : (a : List ℕ) (t : Option (List ℕ)) (ks : List ℕ)
    → in_parentheses a t ++ ks ≡ 40 ∷ (writer.destination a ++ behind_address t ks)
resource_written a t ks =
    ap (λ l. 40 ∷ l)
    (append_assoc (writer.destination a ++ writer.title t) (41 ∷ []) ks
    ∙ append_assoc (writer.destination a) (writer.title t) (41 ∷ ks)
    ∙ ap (λ l. writer.destination a ++ l) (title_written t ks))

behind_ends : (t : Option (List ℕ)) (ks : List ℕ) → ends_address (behind_address t ks) ≡ true
behind_ends None ks = refl
behind_ends (Some t) ks = refl

pub resource_read : (a : List ℕ) (t : Option (List ℕ)) (ks : List ℕ) → list_all is_kept a ≡ true
    → inline_target (40 ∷ (writer.destination a ++ behind_address t ks))
    ≡ Some (record { address = a; title = t; rest = ks })
resource_read a t ks h =
    let u = writer.destination a ++ behind_address t ks in
    let d = destination_read a (behind_address t ks) h (behind_ends t ks) in
    ap (λ v. if first_is 41 v then closed_target [] None v else target_at (destination v)) d.1.no_white
    ∙ ap (λ b. if b then closed_target [] None u else target_at (destination u)) d.1.no_end
    ∙ ap target_at d.0 ∙ title_read (raw_address a) t ks
    ∙ ap (λ x. Some (record { address = x; title = t; rest = ks })) (raw_text a)

-- ---- the bracket that is closed

pub closes_link : (refs : References) (a : List ℕ) (t : Option (List ℕ)) (ks before text : List ℕ)
    (ts : List Token)
    (below : Brackets) → list_all is_kept a ≡ true
    → scanned refs (written_resource a t ++ ks) 0 before (bracket false true text ts below)
    ≡ scanned refs ks 0 (pushed (written_resource a t) before)
    (and_tokens (without_links below) (finished (link a t (processed ts) no_inlines) ∷ []))
closes_link refs a t ks before text ts below h =
    let tail = in_parentheses a t in
    let new = and_tokens (without_links below) (finished (link a t (processed ts) no_inlines) ∷ []) in
    let content = before_end text (93 ∷ (tail ++ ks)) in
    let more : length (tail ++ ks) - length ks ≡ length tail = let l = length-append tail ks in omega arith in
    steps_to refs 93 (tail ++ ks) before (bracket false true text ts below)
    (token_step (without_links below) (link a t (processed ts) no_inlines) (length (tail ++ ks) - length ks))
    (ap (λ o. linked false ts below (tail ++ ks) (option_or o
    (reference_target refs content (tail ++ ks) (label (tail ++ ks)))))
    (ap inline_target (resource_written a t ks) ∙ resource_read a t ks h))
    ∙ ap (λ n. scanned refs (tail ++ ks) n (93 ∷ before) new) more
    ∙ skips refs tail ks (93 ∷ before) new

pub closes_image : (refs : References) (a : List ℕ) (t : Option (List ℕ)) (ks before text : List ℕ)
    (ts : List Token)
    (below : Brackets) → list_all is_kept a ≡ true
    → scanned refs (written_resource a t ++ ks) 0 before (bracket true true text ts below)
    ≡ scanned refs ks 0 (pushed (written_resource a t) before)
    (and_tokens (below) (finished (image a t (processed ts) no_inlines) ∷ []))
closes_image refs a t ks before text ts below h =
    let tail = in_parentheses a t in
    let new = and_tokens (below) (finished (image a t (processed ts) no_inlines) ∷ []) in
    let content = before_end text (93 ∷ (tail ++ ks)) in
    let more : length (tail ++ ks) - length ks ≡ length tail = let l = length-append tail ks in omega arith in
    steps_to refs 93 (tail ++ ks) before (bracket true true text ts below)
    (token_step (below) (image a t (processed ts) no_inlines) (length (tail ++ ks) - length ks))
    (ap (λ o. linked true ts below (tail ++ ks) (option_or o
    (reference_target refs content (tail ++ ks) (label (tail ++ ks)))))
    (ap inline_target (resource_written a t ks) ∙ resource_read a t ks h))
    ∙ ap (λ n. scanned refs (tail ++ ks) n (93 ∷ before) new) more
    ∙ skips refs tail ks (93 ∷ before) new
