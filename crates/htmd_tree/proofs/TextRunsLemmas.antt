-- Runs of characters and references, against the grammar's steps.
use Rattle.std.proofs.Common.{◌≡◌, ℕ, ◌+◌, ◌-◌, ◌<◌, ◌≤◌, Bool, true}
use Rattle.std.proofs.Common.{false, cond, List, [], ◌∷◌, ◌++◌}
use Rattle.std.proofs.Common.{length, take, drop, get_or, Ok, Err, Some, None, refl, ap, sym, subst, ◌∙◌, arith}
use Rattle.std.proofs.Common.{⊎_elim, append_assoc}
use Rattle.std.proofs.lemmas.Bool.{and_parts, and_cases, and_left, cases_lt, cases_eq}
use Rattle.std.proofs.lemmas.Bool.Decides.{nat_tests}
use Rattle.std.proofs.lemmas.List.{append-nil, drop-drop, length-drop, get_or-drop, length-append}
use Rattle.std.proofs.lemmas.Str.{encode_ascii, length-encode, len_utf8_bounds, inside_one}
use Rattle.std.proofs.lemmas.Str.{IsCharBoundary-after_ascii}
use Rattle.std.specs.Char.{encode_utf8, is_ascii_whitespace}
use Rattle.std.specs.List.{list_all}
use Rattle.std.specs.Prelude.{◌==◌, ◌&&◌, not, slice_index}
use Rattle.std.specs.Str.{IsUtf8, IsCharBoundary}
use Rattle.htmd_lexical.proofs.Cases.{test}
use Rattle.htmd_lexical.specs.WhiteSpace.{is_ascii_white_space}
use Rattle.htmd_lexical.proofs.CharacterClassesLemmas.{white_is_ascii}
use Rattle.htmd_lexical.specs.CharacterClasses.{is_empty, leading_run, behind_run}
use Rattle.htmd_grammar.specs.HtmlDocuments.{above_body}
use Rattle.htmd_grammar.specs.Nesting.{parent_name, holds_parts}
use Rattle.htmd_grammar.specs.RawContent.{begins_markup, holds_raw_text, ends_text}
use Rattle.htmd_lexical.specs.EndTags.{begins_own_end}
use Rattle.htmd_grammar.specs.References.{Piece, stands, wrong, piece_at}
use Rattle.htmd_grammar.specs.Rules.{project, named_characters}
use Rattle.htmd_grammar.specs.ReaderSteps.{OpenElement, Reaches, here, via, step, names_of, is_implied, ends_rows}
use Rattle.htmd_grammar.specs.ReaderSteps.{is_too_deep, character_step}
use Rattle.htmd_grammar.specs.declared.fault.FaultKind.{FaultKind}
use Rattle.htmd_grammar.specs.declared.fault.FaultKind.TheVariants.{StrayText, TooDeep}
use Rattle.htmd_lexical.proofs.BooleanLemmas.{and_false}
use Rattle.htmd_grammar.proofs.TextLemmas.{rows_go_on}
use Rattle.htmd_grammar.proofs.ReadBackLemmas.{no_markup, no_end}
use Rattle.htmd_tree.specs.DecodedCharacters.{piece_of, IsPieceEnd}
use Rattle.htmd_tree.specs.TextRuns.{is_literal, is_run_end, TellsOfText, in_run, fault_of, IsCharacterIn}
use Rattle.htmd_tree.specs.TextRuns.{IsFaultIn, Pushes, StopsRun}
use Rattle.htmd_tree.specs.declared.reader.Stop.{Stop}
use Rattle.htmd_tree.specs.declared.reader.Stop.TheVariants.{Memory, Refused}
use Rattle.htmd_tree.specs.declared.reader.references.Character.{Character}
use Rattle.htmd_tree.specs.declared.reader.texts.TextSurroundings.{TextSurroundings}
use Rattle.htmd_lexical.proofs.CharacterClassesLemmas.{take_leading_run, drop_leading_run, behind_leading_run}
use Rattle.htmd_lexical.proofs.RunsLemmas.{run_within, behind_last}

-- ---- where a run may be cut

pub before_others : (p : ℕ → Bool) (s : List ℕ) → ((b : ℕ) → p b ≡ false → b < 128)
    → IsCharBoundary s (length (leading_run p s))
before_others p s h = (
  run_within p s,
  λ l high. let a = h (get_or s (length (leading_run p s)) 0) (behind_leading_run p s l) in
      absurd (omega arith),
)

plain_white_is_ascii : (b : ℕ) → is_literal true b ≡ true → b < 128
plain_white_is_ascii b e = grind (arith, nat_tests)

other_is_ascii : (b : ℕ) → is_literal false b ≡ false → b < 128
other_is_ascii b e = grind (arith, nat_tests)

pub plain_cut : (parts : Bool) (s : List ℕ) (n : ℕ) → IsUtf8 s → n ≡ length (leading_run (is_literal parts) s)
    → IsCharBoundary s n
plain_cut true s n u e = behind_last (is_literal true) s n u plain_white_is_ascii (sym e)
plain_cut false s n u e = subst (IsCharBoundary s) (sym e) (before_others (is_literal false) s other_is_ascii)

-- ---- literal characters

white_is_other : (b : ℕ) → is_literal true b ≡ true → ((b == 60) ≡ false) × ((b == 38) ≡ false)
    × ((b == 13) ≡ false)
white_is_other b e = (grind (arith, nat_tests), grind (arith, nat_tests), grind (arith, nat_tests))

plain_is_other : (b : ℕ) → is_literal false b ≡ true → ((b == 60) ≡ false) × ((b == 38) ≡ false)
    × ((b == 13) ≡ false)
plain_is_other b e = (grind (arith, nat_tests), grind (arith, nat_tests), grind (arith, nat_tests))

other : (parts : Bool) (b : ℕ) → is_literal parts b ≡ true
    → ((b == 60) ≡ false) × ((b == 38) ≡ false) × ((b == 13) ≡ false)
other true b e = white_is_other b e
other false b e = plain_is_other b e

plain_piece : (parts : Bool) (b : ℕ) (s : List ℕ) → is_literal parts b ≡ true
    → piece_at named_characters b s ≡ stands 0 (b ∷ [])
plain_piece parts b s e = let k = other parts b e in rw (k.1, k.2) refl

plain_goes_on : (alone parts : Bool) (n : List ℕ) (b : ℕ) (s : List ℕ) → is_literal parts b ≡ true
    → is_run_end alone n (b ∷ s) ≡ false
plain_goes_on true parts n b s e = no_end n b s (other parts b e).0
plain_goes_on false parts n b s e = no_markup b s (other parts b e).0

plain_white : (parts : Bool) (b : ℕ) → is_literal parts b ≡ true
    → (parts && not (list_all is_ascii_white_space (b ∷ []))) ≡ false
plain_white true b e = let k = and_parts (is_ascii_white_space b) (not (b == 13)) e in rw k.0 refl
plain_white false b e = refl

-- ---- steps in a run

module _ (scripting : Bool) (around : TextSurroundings) (n : List ℕ) (fs : List OpenElement)
    (here_is : TellsOfText scripting around n fs) where
  goes_on : (b : ℕ) (s : List ℕ) → is_run_end around.alone n (b ∷ s) ≡ false
      → ends_text scripting (parent_name (names_of above_body fs)) (b ∷ s) ≡ false
  goes_on b s e =
      subst (λ m. ends_text scripting m (b ∷ s) ≡ false) here_is.name_is
      (subst (λ z. cond z (begins_own_end n (b ∷ s)) (begins_markup (b ∷ s)) ≡ false) here_is.alone_is e)

  no_rows_end : (b : ℕ) (s : List ℕ) → is_run_end around.alone n (b ∷ s) ≡ false
      → (is_implied fs && ends_rows (b ∷ s)) ≡ false
  no_rows_end b s e =
      ⊎_elim (λ f. and_left (is_implied fs) (ends_rows (b ∷ s)) f)
      (λ q. rows_go_on (is_implied fs) (b ∷ s)
      (subst (λ z. cond z (begins_own_end n (b ∷ s)) (begins_markup (b ∷ s)) ≡ false) q e))
      (and_cases (is_implied fs) around.alone here_is.no_rows)

  no_raw : holds_raw_text scripting (parent_name (names_of above_body fs)) ≡ false
  no_raw = subst (λ m. holds_raw_text scripting m ≡ false) here_is.name_is here_is.no_raw_text

  parts_here : holds_parts (parent_name (names_of above_body fs)) ≡ around.parts
  parts_here = ap holds_parts (sym here_is.name_is) ∙ sym here_is.parts_is

  is_step : (run : List ℕ) (b : ℕ) (s : List ℕ) → is_run_end around.alone n (b ∷ s) ≡ false
      → step (project scripting) above_body (in_run fs run (b ∷ s))
      ≡ character_step (project scripting) above_body fs run s (piece_at named_characters b s)
  unfolding step
  is_step run b s e = rw (goes_on b s e, and_false (not (is_empty run)), no_rows_end b s e, no_raw) refl

  -- what a piece does there
  right_piece : (run s v : List ℕ) (m : ℕ) (p : Piece) → around.too_deep ≡ false → p ≡ stands m v
      → fault_of around.parts p ≡ None
      → character_step (project scripting) above_body fs run s p ≡ Ok (in_run fs (run ++ v) (drop m s))
  right_piece run s v m p d e f =
      let white : (holds_parts (parent_name (names_of above_body fs)) && not (list_all is_ascii_white_space v))
      ≡ false =
      ap (λ z. z && not (list_all is_ascii_white_space v)) parts_here
      ∙ test (around.parts && not (list_all is_ascii_white_space v))
      (λ q. absurd (let w : fault_of around.parts (stands m v) ≡ None = ap (fault_of around.parts) (sym e) ∙ f in
      let z = rw q at w in cc)) (λ q. q) in
      let deep : is_too_deep (project scripting) above_body fs ≡ false = sym here_is.deep_is ∙ d in
      rw e (rw (white, deep) refl)

  deep_piece : (run s v : List ℕ) (m : ℕ) (p : Piece) → around.too_deep ≡ true → p ≡ stands m v
      → fault_of around.parts p ≡ None
      → character_step (project scripting) above_body fs run s p ≡ Err TooDeep
  deep_piece run s v m p d e f =
      let white : (holds_parts (parent_name (names_of above_body fs)) && not (list_all is_ascii_white_space v))
      ≡ false =
      ap (λ z. z && not (list_all is_ascii_white_space v)) parts_here
      ∙ test (around.parts && not (list_all is_ascii_white_space v))
      (λ q. absurd (let w : fault_of around.parts (stands m v) ≡ None = ap (fault_of around.parts) (sym e) ∙ f in
      let z = rw q at w in cc)) (λ q. q) in
      let deep : is_too_deep (project scripting) above_body fs ≡ true = sym here_is.deep_is ∙ d in
      rw e (rw (white, deep) refl)

  wrong_piece : (run s : List ℕ) (p : Piece) (kind : FaultKind) → fault_of around.parts p ≡ Some kind
      → character_step (project scripting) above_body fs run s p ≡ Err kind
  wrong_piece run s (wrong k) kind e = let q : k ≡ kind = cc in ap (λ x. Err x) q
  wrong_piece run s (stands m v) kind e =
      test (around.parts && not (list_all is_ascii_white_space v))
      (λ q. let w = rw q at e in
      let same : StrayText ≡ kind = cc in
      let stray : (holds_parts (parent_name (names_of above_body fs)) && not (list_all is_ascii_white_space v))
      ≡ true = ap (λ z. z && not (list_all is_ascii_white_space v)) parts_here ∙ q in
      rw stray (ap (λ x. Err x) same))
      (λ q. absurd (let w = rw q at e in cc))

  -- ---- literal characters

  no_fault : (b : ℕ) → is_literal around.parts b ≡ true → fault_of around.parts (stands 0 (b ∷ [])) ≡ None
  no_fault b p = rw (plain_white around.parts b p) refl

  plain_step : (run : List ℕ) (b : ℕ) (s : List ℕ) → around.too_deep ≡ false
      → is_literal around.parts b ≡ true
      → step (project scripting) above_body (in_run fs run (b ∷ s)) ≡ Ok (in_run fs (run ++ b ∷ []) s)
  plain_step run b s d p =
      let e = plain_piece around.parts b s p in
      is_step run b s (plain_goes_on around.alone around.parts n b s p)
      ∙ right_piece run s (b ∷ []) 0 (piece_at named_characters b s) d e
      (ap (fault_of around.parts) e ∙ no_fault b p)

  plain_reaches : (s run : List ℕ) → around.too_deep ≡ false
      → Reaches (project scripting) above_body (in_run fs run s)
      (in_run fs (run ++ leading_run (is_literal around.parts) s) (behind_run (is_literal around.parts) s))
  plain_reaches [] run d =
      subst (λ r. Reaches (project scripting) above_body (in_run fs run []) (in_run fs r [])) (sym (append-nil run))
      here
  plain_reaches (b ∷ s) run d =
      test (is_literal around.parts b)
      (λ q. rw q (via (plain_step run b s d q)
      (subst (λ r. Reaches (project scripting) above_body (in_run fs (run ++ b ∷ []) s)
      (in_run fs r (behind_run (is_literal around.parts) s)))
      (append_assoc run (b ∷ []) (leading_run (is_literal around.parts) s)) (plain_reaches s (run ++ b ∷ []) d))))
      (λ q. rw q (subst (λ r. Reaches (project scripting) above_body (in_run fs run (b ∷ s))
      (in_run fs r (b ∷ s)))
      (sym (append-nil run)) here))

  pub plain_pushed : (run s front rest after : List ℕ) (len : ℕ) → around.too_deep ≡ false
      → len ≡ length (leading_run (is_literal around.parts) s) → front ≡ take len s → rest ≡ drop len s
      → after ≡ run ++ front → Reaches (project scripting) above_body (in_run fs run s) (in_run fs after rest)
  plain_pushed run s front rest after len d e f r a =
      let g : after ≡ run ++ leading_run (is_literal around.parts) s =
      a ∙ ap (λ x. run ++ x) (f ∙ ap (λ m. take m s) e ∙ take_leading_run (is_literal around.parts) s) in
      let h : rest ≡ behind_run (is_literal around.parts) s =
      r ∙ ap (λ m. drop m s) e ∙ drop_leading_run (is_literal around.parts) s in
      subst (λ x. Reaches (project scripting) above_body (in_run fs run s) (in_run fs x rest)) (sym g)
      (subst (λ x. Reaches (project scripting) above_body (in_run fs run s)
      (in_run fs (run ++ leading_run (is_literal around.parts) s) x)) (sym h) (plain_reaches s run d))

  pub plain_deep : (run s : List ℕ) → around.too_deep ≡ true
      → 0 < length (leading_run (is_literal around.parts) s)
      → step (project scripting) above_body (in_run fs run s) ≡ Err TooDeep
  plain_deep run [] d l = absurd (omega arith)
  plain_deep run (b ∷ s) d l =
      test (is_literal around.parts b)
      (λ p. let e = plain_piece around.parts b s p in
      is_step run b s (plain_goes_on around.alone around.parts n b s p)
      ∙ deep_piece run s (b ∷ []) 0 (piece_at named_characters b s) d e
      (ap (fault_of around.parts) e ∙ no_fault b p))
      (λ p. let m = rw p at l in absurd (omega arith))

  -- ---- other characters

  pub special_pushed : (run s rest after : List ℕ) (character : Character) → around.too_deep ≡ false
      → is_run_end around.alone n s ≡ false → IsCharacterIn around.parts s character
      → rest ≡ drop (1 + character.behind) s → after ≡ run ++ encode_utf8 character.value
      → Reaches (project scripting) above_body (in_run fs run s) (in_run fs after rest)
  special_pushed run [] rest after character d e i r a = absurd (cc)
  special_pushed run (b ∷ s) rest after character d e i r a =
      let one = is_step run b s e
      ∙ right_piece run s (encode_utf8 character.value) character.behind (piece_at named_characters b s) d i.piece
      i.right in
      let q : rest ≡ drop character.behind s = r ∙ sym (drop-drop character.behind 1 (b ∷ s)) in
      subst (λ x. Reaches (project scripting) above_body (in_run fs run (b ∷ s)) (in_run fs x rest)) (sym a)
      (subst (λ x. Reaches (project scripting) above_body (in_run fs run (b ∷ s))
      (in_run fs (run ++ encode_utf8 character.value) x)) (sym q) (via one here))

  pub special_deep : (run s : List ℕ) (character : Character) → around.too_deep ≡ true
      → is_run_end around.alone n s ≡ false → IsCharacterIn around.parts s character
      → step (project scripting) above_body (in_run fs run s) ≡ Err TooDeep
  special_deep run [] character d e i = absurd (cc)
  special_deep run (b ∷ s) character d e i =
      is_step run b s e
      ∙ deep_piece run s (encode_utf8 character.value) character.behind (piece_at named_characters b s) d i.piece
      i.right

  pub special_wrong : (run s : List ℕ) (kind : FaultKind) → is_run_end around.alone n s ≡ false
      → IsFaultIn around.parts s kind → step (project scripting) above_body (in_run fs run s) ≡ Err kind
  special_wrong run [] kind e i = absurd (cc)
  special_wrong run (b ∷ s) kind e i = is_step run b s e ∙ wrong_piece run s (piece_at named_characters b s) kind i

-- ---- the first character

same_white : (b : ℕ) → is_ascii_whitespace b ≡ is_ascii_white_space b
same_white b = grind (arith, nat_tests)

white_first : (s : List ℕ) → 0 < length s → list_all is_ascii_white_space s ≡ true → get_or s 0 0 < 128
white_first [] l e = absurd (omega arith)
white_first (b ∷ s) l e =
    white_is_ascii b (and_parts (is_ascii_white_space b) (list_all is_ascii_white_space s) e).0

-- a character is white space where its bytes are
white_character : (c : ℕ) → list_all is_ascii_white_space (encode_utf8 c) ≡ is_ascii_whitespace c
white_character c = ⊎_elim low high (cases_lt c 128)
  where
    low : c < 128 → list_all is_ascii_white_space (encode_utf8 c) ≡ is_ascii_whitespace c
    low l = ap (list_all is_ascii_white_space) (encode_ascii c l) ∙ one (is_ascii_white_space c)
        ∙ sym (same_white c)
      where
        one : (x : Bool) → (x && true) ≡ x
        one true = refl
        one false = refl

    no_white : 128 ≤ c → is_ascii_whitespace c ≡ false
    no_white h = grind (arith, nat_tests)

    high : 128 ≤ c → list_all is_ascii_white_space (encode_utf8 c) ≡ is_ascii_whitespace c
    high h =
        test (list_all is_ascii_white_space (encode_utf8 c))
        (λ t. let some = len_utf8_bounds c in
        let size = length-encode c in
        let first = white_first (encode_utf8 c) (omega (arith, some.0, size)) t in
        let same = inside_one c [] (encode_utf8 c) 0 (sym (append-nil (encode_utf8 c))) (omega (arith, some.0, size))
        first in absurd (omega (arith, same, first)))
        (λ t. t ∙ sym (no_white h))

high_piece : (b : ℕ) (s : List ℕ) → 128 ≤ b → piece_at named_characters b s ≡ stands 0 (b ∷ [])
high_piece b s h =
    let a : (b == 38) ≡ false = grind (arith, nat_tests) in
    let r : (b == 13) ≡ false = grind (arith, nat_tests) in
    rw (a, r) refl

pub stray_character : (parts : Bool) (s x : List ℕ) (character : Character) → x ≡ drop 1 s
    → piece_of (Ok character) ≡ piece_at named_characters (slice_index s 0) x → parts ≡ true
    → is_ascii_whitespace character.value ≡ false → IsFaultIn parts s StrayText
stray_character parts s x character e p q w =
    let white = white_character character.value ∙ w in
    ap (fault_of parts) (ap (piece_at named_characters (slice_index s 0)) (sym e) ∙ sym p) ∙ rw (q, white) refl

-- the text may be cut after its first character
pub first_cut : (s : List ℕ) (n : ℕ) → IsUtf8 s → 0 < length s → slice_index s 0 < 128
    → IsPieceEnd (drop 1 s) n
    → IsCharBoundary s (1 + n)
first_cut s n u l ascii end = subst (IsCharBoundary s) k
    (IsCharBoundary-after_ascii s n u (omega (arith, end.0, length-drop 1 s)) low)
  where
    k : n + 1 ≡ 1 + n
    k = omega arith

    low : get_or s n 0 < 128
    low = ⊎_elim none some (cases_eq n 0)
      where
        none : n ≡ 0 → get_or s n 0 < 128
        none e = subst (λ m. get_or s m 0 < 128) (sym e) ascii

        some : (n ≡ 0 → ⊥) → get_or s n 0 < 128
        some h =
            let m : 1 + (n - 1) ≡ n = omega arith in
            let a = end.1 (omega arith) in
            let b : get_or s (1 + (n - 1)) 0 < 128 = subst (λ v. v < 128) (get_or-drop 1 s (n - 1) 0) a in
            subst (λ v. get_or s v 0 < 128) m b

pub special_cut : (parts : Bool) (s : List ℕ) (character : Character) → IsUtf8 s → 0 < length s
    → IsCharacterIn parts s character → IsCharBoundary s (1 + character.behind)
special_cut parts s character u l i = first_cut s character.behind u l i.ascii i.end

pub some_bytes : (run after : List ℕ) (c : ℕ) → after ≡ run ++ encode_utf8 c → 0 < length after
some_bytes run after c e =
    omega (arith, ap length e, length-append run (encode_utf8 c), length-encode c, (len_utf8_bounds c).0)

-- ---- from push to push

run_not_empty : (alone : Bool) (n s : List ℕ) → is_run_end alone n s ≡ false → is_empty s ≡ false
run_not_empty alone n [] e = e
run_not_empty alone n (b ∷ s) e = refl

-- a fault where a push would begin is a fault of the run
pub stops_there : (scripting : Bool) (fs : List OpenElement) (around : TextSurroundings)
    (n s was run rest after : List ℕ) (stop : Stop)
    → Reaches (project scripting) above_body (in_run fs [] s) (in_run fs run rest) → was ≡ run
    → is_run_end around.alone n rest ≡ false → Pushes scripting fs was rest after (Err stop)
    → StopsRun scripting fs s stop
stops_there scripting fs around n s was run rest after Memory r q e p = tt
stops_there scripting fs around n s was run rest after (Refused left kind) r q e p = (
  in_run fs run rest,
  r,
  subst (λ x. step (project scripting) above_body (in_run fs x rest) ≡ Err kind) q p.0,
  run_not_empty around.alone n rest e,
  p.1,
)
