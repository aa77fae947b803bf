-- The lines of link definitions are read as those.
use Rattle.std.proofs.Common.{◌≡◌, ◌∙◌, refl, ap, sym, subst, ℕ, ◌-◌, true, false, List, []}
use Rattle.std.proofs.Common.{◌∷◌, ◌++◌, Option, Some, None, codes, append_assoc, arith}
use Rattle.std.specs.Prelude.{length, ◌==◌, ◌&&◌, if◌then◌else◌, not, slice_get}
use Rattle.std.specs.List.{list_all, list_any}
use Rattle.std.specs.Option.{option_or}
use Rattle.std.specs.Fmt.{decimal}
use Rattle.std.proofs.lemmas.Bool.{or_parts, eqb-true}
use Rattle.std.proofs.lemmas.List.{append-nil, length-append}
use Rattle.htmd_lexical.specs.Characters.{is_one_of}
use Rattle.htmd_lexical.specs.CharacterClasses.{first_is}
use Rattle.htmd_commonmark.specs.Addresses.{escaped_in, needs_brackets, is_space_or_control, may_escape}
use Rattle.htmd_commonmark.specs.Addresses as writer
use Rattle.htmd_commonmark.specs.InlineMarkdown as writing
use Rattle.htmd_commonmark_reading.specs.Characters.{unescaped}
use Rattle.htmd_commonmark_reading.specs.LinkDefinitions.{Definition, Definitions, definition, definitions}
use Rattle.htmd_commonmark_reading.specs.LinkDefinitions.{definitions_behind, no_more, and_then, after_label}
use Rattle.htmd_commonmark_reading.specs.LinkDefinitions.{after_destination, with_title, defined_with, title_after}
use Rattle.htmd_commonmark_reading.specs.LinkDefinitions.{past_line, past_white, destination, unless_front_is_empty}
use Rattle.htmd_commonmark_reading.specs.LinkDefinitions.{bare, pointed, label_key}
use Rattle.htmd_commonmark_reading.specs.Boxes.{joined_lines, end_line}
use Rattle.htmd_law_blocks.specs.LineTexts.{IsFirstLine, IsFurtherLine, AreFurtherLines}
use Rattle.htmd_law_blocks.specs.DocumentTexts.{AreOneLine, DefinitionTexts}
use Rattle.htmd_document.specs.NormalInlines.{is_kept, is_title}
use Rattle.htmd_law_inlines.specs.ReadBack.{references, of_defined}
use Rattle.htmd_law_inlines.proofs.TextPieces.{test}
use Rattle.htmd_law_inlines.proofs.AddressPieces.{are_bare_signs, bare_signs, piece_cases, address_text, until_read}
use Rattle.htmd_law_inlines.proofs.AddressPieces.{escaped_punctuation, bare_plain, no_punctuation_next, slash_escapes}
use Rattle.htmd_law_inlines.proofs.ResourcePieces.{title_signs, raw_address, Begins, begins_other, raw_text}
use Rattle.htmd_law_inlines.proofs.ResourcePieces.{bare_destination, bare_begins, pointed_read}
use Rattle.htmd_law_inlines.proofs.NumberPieces.{digits_until, label_of_number}
use Rattle.htmd_law_texts.proofs.PieceTexts.{decimal_digits, definition_all}
use Rattle.htmd_law_texts.proofs.WrittenLines.{IsClean, plain_of_clean, clean_line}
use Rattle.htmd_law_texts.proofs.InlineStarts.{bracket_line}

-- ---- addresses before an end of a line

-- the end of the text, or a line feed and a next definition
abbrev IsTail : List ℕ → Type 0
IsTail [] = Unit {0}
IsTail (c ∷ s) = (c ≡ 10) × (first_is 91 s ≡ true)

-- what follows an address
record EndsBare (r : List ℕ) : Type 0 where
  none : bare 0 false r ≡ Some (record { front = []; rest = r })

bare_to : (s r : List ℕ) → list_any is_space_or_control s ≡ false → EndsBare r
    → bare 0 false (escaped_in bare_signs s ++ r) ≡ Some (record { front = escaped_in bare_signs s; rest = r })
bare_to [] r h k = k.none
bare_to (b ∷ s) r h k =
    let c = or_parts (is_space_or_control b) (list_any is_space_or_control s) h in
    let next = bare_to s r c.1 k in
    piece_cases bare_signs b s
    (λ e p. rw (p, escaped_punctuation bare_signs are_bare_signs b s e, next) refl)
    (λ e p. rw (p, next) refl)
    (λ e a p. let o = (or_parts (is_one_of bare_signs b) ((b == 92) && may_escape (slice_get s 0)) e).0 in
    let q = bare_plain b c.0 o in
    test (b == 92)
    (λ x. rw (p, q.0, q.1, x, no_punctuation_next s r (slash_escapes bare_signs b s e x), next) refl)
    (λ x. rw (p, q.0, q.1, x, next) refl))

address_to : (s r : List ℕ) → list_all is_kept s ≡ true → EndsBare r
    → (destination (writer.destination s ++ r) ≡ Some (record { front = raw_address s; rest = r }))
    × Begins (writer.destination s ++ r)
address_to [] r h k = (refl, begins_other 60 (62 ∷ r) refl refl)
address_to (b ∷ s) r h k =
    test (needs_brackets (b ∷ s))
    (λ e. rw e (
      ap pointed (append_assoc (escaped_in (codes "<>") (b ∷ s)) (codes ">") r) ∙ pointed_read (b ∷ s) r h,
      begins_other 60 ((escaped_in (codes "<>") (b ∷ s) ++ codes ">") ++ r) refl refl,
    ))
    (λ e. let o = or_parts (is_space_or_control b) (list_any is_space_or_control s) e in
    let g = bare_begins b s r o.0 in
    rw e (
      bare_destination (escaped_in bare_signs (b ∷ s) ++ r) g.1
          ∙ ap unless_front_is_empty (bare_to (b ∷ s) r e k)
          ∙ ap (λ t. if t then None else Some (record { front = escaped_in bare_signs (b ∷ s); rest = r })) g.2,
      g.0,
    ))

-- ---- titles before an end of a line

-- what stands after an address
abbrev behind : Option (List ℕ) → List ℕ → List ℕ
behind None r = r
behind (Some t) r = 32 ∷ 34 ∷ (escaped_in (codes "\"") t ++ (34 ∷ r))

title_written : (t : Option (List ℕ)) (r : List ℕ) → writer.title t ++ r ≡ behind t r
title_written None r = refl
title_written (Some t) r = ap (λ l. 32 ∷ 34 ∷ l) (append_assoc (escaped_in (codes "\"") t) (codes "\"") r)

-- what follows a definition
abbrev after_tail : List ℕ → List ℕ
after_tail [] = []
after_tail (c ∷ s) = s

tail_line : (r : List ℕ) → IsTail r → past_line r ≡ Some (after_tail r)
tail_line [] h = refl
tail_line (c ∷ s) h = subst (λ d. past_line (d ∷ s) ≡ Some s) (sym h.0) refl

tail_title : (r : List ℕ) → IsTail r → title_after r ≡ None
tail_title [] h = refl
tail_title (c ∷ s) h = subst (λ d. title_after (d ∷ s) ≡ None) (sym h.0) (bracket s h.1)
  where
    bracket : (s : List ℕ) → first_is 91 s ≡ true → title_after (10 ∷ s) ≡ None
    bracket [] h = absurd (cc)
    bracket (d ∷ s) h = subst (λ e. title_after (10 ∷ e ∷ s) ≡ None) (sym (eqb-true d 91 h)) refl

tail_bare : (t : Option (List ℕ)) (r : List ℕ) → IsTail r → EndsBare (behind t r)
tail_bare None [] h = record { none = refl }
tail_bare None (c ∷ s) h = subst (λ d. EndsBare (d ∷ s)) (sym h.0) (record { none = refl })
tail_bare (Some t) r h = record { none = refl }

title_to : (key a : List ℕ) (t : Option (List ℕ)) (r : List ℕ) → IsTail r
    → after_destination key (Some (record { front = a; rest = behind t r }))
    ≡ Some (record { definition = record { key = key; address = unescaped a; title = t }; rest = after_tail r })
title_to key a None r h =
    ap (λ x. option_or (with_title key a x) (defined_with key a None (past_line r))) (tail_title r h)
    ∙ ap (λ x. defined_with key a None x) (tail_line r h)
title_to key a (Some t) r h =
    let f = until_read (codes "\"") title_signs 34 34 refl refl t r in
    ap (λ x. option_or (with_title key a x) (defined_with key a None (past_line (behind (Some t) r)))) f
    ∙ ap (λ x. option_or (defined_with key a (Some (unescaped (escaped_in (codes "\"") t))) x)
    (defined_with key a None (past_line (behind (Some t) r)))) (tail_line r h)
    ∙ ap (λ x. Some (record {
      definition = record { key = key; address = unescaped a; title = Some x };
      rest = after_tail r;
    })) (address_text (codes "\"") title_signs t)

-- ---- a definition

abbrev pub defined_as : ℕ → List ℕ → Option (List ℕ) → Definition
defined_as n a t = record { key = label_key (decimal n); address = a; title = t }

line_written : (n : ℕ) (a : List ℕ) (t : Option (List ℕ)) (r : List ℕ)
    → writing.definition n a t ++ r ≡ 91 ∷ (decimal n ++
    (93 ∷ 58 ∷ 32 ∷ (writer.destination a ++ behind t r)))
line_written n a t r =
    let d = decimal n in
    let x = writer.destination a in
    ap (λ l. 91 ∷ l)
    (append_assoc ((d ++ codes "]: ") ++ x) (writer.title t) r
    ∙ append_assoc (d ++ codes "]: ") x (writer.title t ++ r)
    ∙ append_assoc d (codes "]: ") (x ++ (writer.title t ++ r))
    ∙ ap (λ l. d ++ (93 ∷ 58 ∷ 32 ∷ (x ++ l))) (title_written t r))

pub definition_read : (n : ℕ) (a : List ℕ) (t : Option (List ℕ)) (r : List ℕ) → list_all is_kept a ≡ true
    → IsTail r
    → definition (writing.definition n a t ++ r)
    ≡ Some (record { definition = defined_as n a t; rest = after_tail r })
definition_read n a t r h k =
    let u = writer.destination a ++ behind t r in
    let d = address_to a (behind t r) h (tail_bare t r k) in
    let key = label_key (decimal n) in
    ap definition (line_written n a t r)
    ∙ ap after_label (digits_until (decimal n) (58 ∷ 32 ∷ u) (decimal_digits n))
    ∙ ap (λ b. if not b then after_destination key (destination (past_white u)) else None) (label_of_number n)
    ∙ ap (λ v. after_destination key (destination v)) d.1.no_white
    ∙ ap (after_destination key) d.0
    ∙ title_to key (raw_address a) t r k
    ∙ ap (λ x. Some (record { definition = record { key = key; address = x; title = t }; rest = after_tail r }))
    (raw_text a)

-- ---- all of them

-- lines that were written as definitions
pub record IsDefined (l : List ℕ) : Type 0 where
  pub number : ℕ
  pub address : List ℕ
  pub title : Option (List ℕ)
  pub is : l ≡ writing.definition number address title
  pub kept : list_all is_kept address ≡ true
  pub titled : is_title title ≡ true

abbrev pub AreDefined : List (List ℕ) → Type 0
AreDefined [] = Unit {0}
AreDefined (l ∷ ls) = IsDefined l × AreDefined ls

pub are_defined_append : (ls ms : List (List ℕ)) → AreDefined ls → AreDefined ms → AreDefined (ls ++ ms)
are_defined_append [] ms a b = b
are_defined_append (l ∷ ls) ms a b = (a.0, are_defined_append ls ms a.1 b)

-- the definition that a line is
abbrev found_in : (l : List ℕ) → IsDefined l → Definition
found_in l d = defined_as d.number d.address d.title

line_read : (l r : List ℕ) (d : IsDefined l) → IsTail r
    → definition (l ++ r) ≡ Some (record { definition = found_in l d; rest = after_tail r })
line_read l r d k =
    ap (λ x. definition (x ++ r)) d.is ∙ definition_read d.number d.address d.title r d.kept k

skipped : (u r : List ℕ) → definitions_behind (length u) (u ++ r) ≡ definitions_behind 0 r
skipped [] r = refl
skipped (c ∷ u) r = skipped u r

-- the characters of a definition are passed, and the line feed after it
skip_tail : (u r : List ℕ) → definitions_behind (length (u ++ r) - length (after_tail r)) (u ++ r)
    ≡ definitions (after_tail r)
skip_tail u [] =
    let e = length-append u [] in
    let n : length (u ++ []) - 0 ≡ length u = omega arith in
    ap (λ i. definitions_behind i (u ++ [])) n ∙ skipped u []
skip_tail u (c ∷ s) =
    let e = length-append u (c ∷ s) in
    let f = length-append u (c ∷ []) in
    let n : length (u ++ (c ∷ s)) - length s ≡ length (u ++ (c ∷ [])) = omega arith in
    ap (λ i. definitions_behind i (u ++ (c ∷ s))) n
    ∙ ap (definitions_behind (length (u ++ (c ∷ [])))) (sym (append_assoc u (c ∷ []) s))
    ∙ skipped (u ++ (c ∷ [])) s

one_more : (l r : List ℕ) (d : IsDefined l) → IsTail r
    → definitions (l ++ r) ≡ and_then (found_in l d) (definitions (after_tail r))
one_more l r d k = ap (λ x. definitions (x ++ r)) d.is ∙ written
  where
    u : List ℕ
    u = ((decimal d.number ++ codes "]: ") ++ writer.destination d.address) ++ writer.title d.title

    written : definitions (writing.definition d.number d.address d.title ++ r)
        ≡ and_then (found_in l d) (definitions (after_tail r))
    written =
        let e : definition (91 ∷ (u ++ r)) ≡ Some (record { definition = found_in l d; rest = after_tail r }) =
        definition_read d.number d.address d.title r d.kept k in
        ap (λ o. elim o as (λ x. Definitions) [
          | None ↦ no_more (91 ∷ (u ++ r))
          | Some d ↦ and_then d.definition (definitions_behind (length (u ++ r) - length d.rest) (u ++ r))
        ]) e
        ∙ ap (and_then (found_in l d)) (skip_tail u r)

alone : (l : List ℕ) (d : IsDefined l) → definition l ≡ Some (record { definition = found_in l d; rest = [] })
alone l d = ap definition (sym (append-nil l)) ∙ line_read l [] d tt

found_first : (l : List ℕ) (ls : List (List ℕ)) (d : IsDefined l) → references (l ∷ ls)
    ≡ found_in l d ∷ references ls
found_first l ls d = ap (λ o. of_defined o ++ references ls) (alone l d)

begins_bracket : (m : List ℕ) (t : List ℕ) → IsDefined m → first_is 91 (m ++ t) ≡ true
begins_bracket m t d = ap (λ x. first_is 91 (x ++ t)) d.is

definitions_read : (l : List ℕ) (ls : List (List ℕ)) → AreDefined (l ∷ ls)
    → definitions (joined_lines (l ∷ ls)) ≡ record { found = references (l ∷ ls); rest = [] }
definitions_read l [] a =
    one_more l [] a.0 tt ∙ ap (λ f. record { found = f; rest = [] }) (sym (found_first l [] a.0))
definitions_read l (m ∷ ms) a =
    one_more l (10 ∷ joined_lines (m ∷ ms)) a.0
    (refl, begins_bracket m (end_line ms (joined_lines ms)) a.1.0)
    ∙ ap (and_then (found_in l a.0)) (definitions_read m ms a.1)
    ∙ ap (λ f. record { found = f; rest = [] }) (sym (found_first l (m ∷ ms) a.0))

defined_clean : (l : List ℕ) → IsDefined l → IsClean l
defined_clean l d = subst IsClean (sym d.is) (definition_all false d.number d.address d.title d.kept d.titled)

each_one_line : (ls : List (List ℕ)) → AreDefined ls → AreOneLine ls
each_one_line [] a = tt
each_one_line (l ∷ ls) a =
    let c = defined_clean l a.0 in (plain_of_clean l c, clean_line l c, each_one_line ls a.1)

each_further : (ls : List (List ℕ)) → AreDefined ls → AreFurtherLines ls
each_further [] a = tt
each_further (l ∷ ls) a = (subst IsFurtherLine (sym a.0.is) (bracket_line _).1, each_further ls a.1)

-- lines of definitions are read as those
pub definitions_are : (ls : List (List ℕ)) → AreDefined ls → DefinitionTexts ls (references ls)
definitions_are [] a = refl
definitions_are (l ∷ ls) a = record {
  one_line = each_one_line (l ∷ ls) a;
  lines = (subst IsFirstLine (sym a.0.is) (bracket_line _).0, each_further ls a.1);
  all = definitions_read l ls a;
  some = λ e. let x = sym (found_first l ls a.0) ∙ e in absurd (cc);
}
