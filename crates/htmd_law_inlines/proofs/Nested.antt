-- Pieces in links and formats: a bracket is closed by its own address, and a row by its own row.
use Rattle.std.proofs.Common.{◌≡◌, ◌∙◌, refl, ap, sym, ℕ, suc, Bool, true, false, List, [], ◌∷◌, ◌++◌, Option, length}
use Rattle.std.specs.Prelude.{◌==◌, nat_le, if◌then◌else◌}
use Rattle.std.specs.List.{list_all}
use Rattle.std.proofs.lemmas.List.{append_assoc}
use Rattle.std.proofs.lemmas.Bool.{eq-eqb, and_right}
use Rattle.htmd_lexical.specs.CharacterClasses.{first_is, leading_run, behind_run}
use Rattle.htmd_commonmark.specs.InlineMarkdown.{written_resource}
use Rattle.htmd_commonmark_reading.specs.Markup.{Inlines, no_inlines, formatted, link, image, joined, signs}
use Rattle.htmd_commonmark_reading.specs.DelimiterRuns.{Token, finished, run, run_of, processed, Stack, base, opener}
use Rattle.htmd_commonmark_reading.specs.DelimiterRuns.{with_tokens, with_token, with_items, unstacked, may_open}
use Rattle.htmd_commonmark_reading.specs.DelimiterRuns.{may_close, past_tildes}
use Rattle.htmd_commonmark_reading.specs.BlockStarts.{is_same}
use Rattle.htmd_commonmark_reading.specs.Brackets.{References, Brackets, outermost, bracket, and_tokens, without_links}
use Rattle.htmd_commonmark_reading.specs.Brackets.{scanned, kind, Kind, step_of, run_with, opening_step, token_step}
use Rattle.htmd_commonmark_reading.specs.Characters.{last_character, first_character}
use Rattle.htmd_document.specs.NormalInlines.{is_kept}
use Rattle.htmd_law_inlines.proofs.Pieces.{IsRead, AreBrackets, still_brackets, both_tokens, no_tokens, tokens_append}
use Rattle.htmd_law_inlines.proofs.Pieces.{with_both, with_none, joined_none, pushed, pushed_append, steps_to}
use Rattle.htmd_law_inlines.proofs.OpenRuns.{RowFormat, row_format, row_length, IsSignOf, AreOpeners, IsNoneOf}
use Rattle.htmd_law_inlines.proofs.OpenRuns.{no_openers, still_openers, opening, closing, one_more_opener, opens_own}
use Rattle.htmd_law_inlines.proofs.OpenRuns.{closes_own, one, two, tildes}
use Rattle.htmd_law_inlines.proofs.ResourcePieces.{closes_image}

-- Between these texts, and within rows of these formats, a piece is read as tokens that mean these inlines.
pub record IsReadIn
    (around : List RowFormat) (refs : References) (in_link : Bool) (before s ks : List ℕ) (xs : Inlines) : Type 0
  where
    pub tokens : List Token
    pub scans : (b : Brackets) → AreBrackets in_link b
        → scanned refs (s ++ ks) 0 before b ≡ scanned refs ks 0 (pushed s before) (and_tokens b tokens)
    pub means : (st : Stack) → AreOpeners around st → with_tokens st tokens ≡ with_items st xs

-- what is read anywhere is read there
pub anywhere : (around : List RowFormat) (refs : References) (in_link : Bool) (before s ks : List ℕ) (xs : Inlines)
    → IsRead refs in_link before s ks xs → IsReadIn around refs in_link before s ks xs
anywhere around refs in_link before s ks xs p =
    record { tokens = p.tokens; scans = p.scans; means = λ st h. p.means st }

pub nothing_in : (around : List RowFormat) (refs : References) (in_link : Bool) (before ks : List ℕ)
    → IsReadIn around refs in_link before [] ks no_inlines
nothing_in around refs in_link before ks = record {
  tokens = [];
  scans = λ b h. ap (scanned refs ks 0 before) (sym (no_tokens b));
  means = λ st h. sym (with_none st);
}

pub both_in : (around : List RowFormat) (refs : References) (in_link : Bool) (before s t ks : List ℕ)
    (xs ys : Inlines)
    → IsReadIn around refs in_link before s (t ++ ks) xs → IsReadIn around refs in_link (pushed s before) t ks ys
    → IsReadIn around refs in_link before (s ++ t) ks (joined xs ys)
both_in around refs in_link before s t ks xs ys p q = record {
  tokens = p.tokens ++ q.tokens;
  scans = λ b h.
      ap (λ u. scanned refs u 0 before b) (append_assoc s t ks) ∙ p.scans b h
      ∙ q.scans (and_tokens b p.tokens) (still_brackets in_link b p.tokens h)
      ∙ ap (λ u. scanned refs ks 0 u (and_tokens (and_tokens b p.tokens) q.tokens)) (sym (pushed_append s t before))
      ∙ ap (scanned refs ks 0 (pushed (s ++ t) before)) (both_tokens b p.tokens q.tokens);
  means = λ st h.
      tokens_append p.tokens q.tokens st ∙ ap (λ u. with_tokens u q.tokens) (p.means st h)
      ∙ q.means (with_items st xs) (still_openers around st xs h) ∙ with_both st xs ys;
}

-- ---- links and images

processed_is : (ts : List Token) (xs : Inlines) → with_tokens (base no_inlines) ts ≡ with_items (base no_inlines) xs
    → processed ts ≡ xs
processed_is ts xs h = ap (λ s. unstacked s no_inlines) h ∙ joined_none xs

-- a link whose text this closes
pub link_with : (around : List RowFormat) (refs : References) (before s tail ks a : List ℕ) (t : Option (List ℕ))
    (xs : Inlines)
    → ((front text : List ℕ) (ts : List Token) (below : Brackets)
    → scanned refs (tail ++ ks) 0 front (bracket false true text ts below)
    ≡ scanned refs ks 0 (pushed tail front)
    (and_tokens (without_links below) (finished (link a t (processed ts) no_inlines) ∷ [])))
    → IsReadIn [] refs true (91 ∷ before) s (tail ++ ks) xs
    → IsReadIn around refs false before (91 ∷ (s ++ tail)) ks (link a t xs no_inlines)
link_with around refs before s tail ks a t xs closes p = record {
  tokens = finished (link a t xs no_inlines) ∷ [];
  scans = λ b w. scans_link b w;
  means = λ st o. refl;
}
  where
    scans_link : (b : Brackets) → AreBrackets false b
        → scanned refs (91 ∷ ((s ++ tail) ++ ks)) 0 before b
        ≡ scanned refs ks 0 (pushed (s ++ tail) (91 ∷ before))
        (and_tokens b (finished (link a t xs no_inlines) ∷ []))
    scans_link (bracket i c u ts below) w = absurd w
    scans_link (outermost ts) w =
        let all = (s ++ tail) ++ ks in
        steps_to refs 91 all before (outermost ts) (opening_step (outermost ts) false all 0) refl
        ∙ ap (λ u. scanned refs u 0 (91 ∷ before) (bracket false true all [] (outermost ts)))
        (append_assoc s tail ks)
        ∙ p.scans (bracket false true all [] (outermost ts)) tt
        ∙ closes (pushed s (91 ∷ before)) all p.tokens (outermost ts)
        ∙ ap (λ u. scanned refs ks 0 u (outermost
        (ts ++ (finished (link a t (processed p.tokens) no_inlines) ∷ []))))
        (sym (pushed_append s tail (91 ∷ before)))
        ∙ ap (λ x. scanned refs ks 0 (pushed (s ++ tail) (91 ∷ before))
        (outermost (ts ++ (finished (link a t x no_inlines) ∷ []))))
        (processed_is p.tokens xs (p.means (base no_inlines) no_openers))

pub image_in : (around : List RowFormat) (refs : References) (in_link : Bool) (before s ks a : List ℕ)
    (t : Option (List ℕ)) (xs : Inlines) → list_all is_kept a ≡ true
    → IsReadIn [] refs true (91 ∷ 33 ∷ before) s (written_resource a t ++ ks) xs
    → IsReadIn around refs in_link before (33 ∷ 91 ∷ (s ++ written_resource a t)) ks (image a t xs no_inlines)
image_in around refs in_link before s ks a t xs h p = record {
  tokens = finished (image a t xs no_inlines) ∷ [];
  scans = λ b w.
      let all = (s ++ written_resource a t) ++ ks in
      steps_to refs 33 (91 ∷ all) before b (opening_step b true (91 ∷ all) 1) refl
      ∙ ap (λ u. scanned refs u 0 (91 ∷ 33 ∷ before) (bracket true true all [] b))
      (append_assoc s (written_resource a t) ks)
      ∙ p.scans (bracket true true all [] b) tt
      ∙ closes_image refs a t ks (pushed s (91 ∷ 33 ∷ before)) all p.tokens b h
      ∙ ap (λ u. scanned refs ks 0 u (and_tokens b (finished (image a t (processed p.tokens) no_inlines) ∷ [])))
      (sym (pushed_append s (written_resource a t) (91 ∷ 33 ∷ before)))
      ∙ ap (λ x. scanned refs ks 0 (pushed (s ++ written_resource a t) (91 ∷ 33 ∷ before))
      (and_tokens b (finished (image a t x no_inlines) ∷ [])))
      (processed_is p.tokens xs (p.means (base no_inlines) no_openers));
  means = λ st o. refl;
}

-- ---- rows

abbrev pub row_text : RowFormat → ℕ → List ℕ
row_text one sign = sign ∷ []
row_text two sign = sign ∷ sign ∷ []
row_text tildes sign = sign ∷ sign ∷ []

no_more : (sign : ℕ) (ks : List ℕ) → first_is sign ks ≡ false
    → (leading_run (is_same sign) ks ≡ []) × (behind_run (is_same sign) ks ≡ ks)
no_more sign [] h = (refl, refl)
no_more sign (d ∷ ks) h = (rw h refl, rw h refl)

one_more : (sign : ℕ) (ks : List ℕ) → first_is sign ks ≡ false
    → (leading_run (is_same sign) (sign ∷ ks) ≡ sign ∷ []) × (behind_run (is_same sign) (sign ∷ ks) ≡ ks)
one_more sign ks h =
    let e = eq-eqb sign sign refl in
    (rw e (ap (λ l. sign ∷ l) (no_more sign ks h).0), rw e (no_more sign ks h).1)

-- one or two signs are a run, also of tildes
short_run : (b : Brackets) (sign n : ℕ) (before ks : List ℕ) → nat_le 2 n ≡ false
    → run_with b sign n before ks
    ≡ record { brackets = and_tokens b (run (run_of sign (suc n) before ks) ∷ []); more = n }
short_run b sign n before ks h =
    ap (λ t. if t then token_step b (signs sign (suc n) no_inlines) n
    else record { brackets = and_tokens b (run (run_of sign (suc n) before ks) ∷ []); more = n })
    (and_right (sign == 126) (nat_le 2 n) h)

-- a row is one run
one_scans : (refs : References) (sign : ℕ) (before ks : List ℕ) (b : Brackets) → kind sign ≡ Kind.sign
    → first_is sign ks ≡ false
    → scanned refs (sign ∷ ks) 0 before b
    ≡ scanned refs ks 0 (sign ∷ before) (and_tokens b (run (run_of sign 1 before ks) ∷ []))
one_scans refs sign before ks b k h =
    steps_to refs sign ks before b (record { brackets = and_tokens b (run (run_of sign 1 before ks) ∷ []); more = 0 })
    (ap (λ x. step_of x refs b before sign ks) k
    ∙ ap (λ l. run_with b sign (length l) before (behind_run (is_same sign) ks)) (no_more sign ks h).0
    ∙ ap (run_with b sign 0 before) (no_more sign ks h).1 ∙ short_run b sign 0 before ks refl)

two_scans : (refs : References) (sign : ℕ) (before ks : List ℕ) (b : Brackets) → kind sign ≡ Kind.sign
    → first_is sign ks ≡ false
    → scanned refs (sign ∷ sign ∷ ks) 0 before b
    ≡ scanned refs ks 0 (sign ∷ sign ∷ before) (and_tokens b (run (run_of sign 2 before ks) ∷ []))
two_scans refs sign before ks b k h =
    steps_to refs sign (sign ∷ ks) before b
    (record { brackets = and_tokens b (run (run_of sign 2 before ks) ∷ []); more = 1 })
    (ap (λ x. step_of x refs b before sign (sign ∷ ks)) k
    ∙ ap (λ l. run_with b sign (length l) before (behind_run (is_same sign) (sign ∷ ks))) (one_more sign ks h).0
    ∙ ap (run_with b sign 1 before) (one_more sign ks h).1 ∙ short_run b sign 1 before ks refl)

pub row_scans : (refs : References) (f : RowFormat) (sign : ℕ) (before ks : List ℕ) (b : Brackets) → kind sign
    ≡ Kind.sign
    → first_is sign ks ≡ false
    → scanned refs (row_text f sign ++ ks) 0 before b
    ≡ scanned refs ks 0 (pushed (row_text f sign) before)
    (and_tokens b (run (run_of sign (row_length f) before ks) ∷ []))
row_scans refs one sign before ks b k h = one_scans refs sign before ks b k h
row_scans refs two sign before ks b k h = two_scans refs sign before ks b k h
row_scans refs tildes sign before ks b k h = two_scans refs sign before ks b k h

-- what stands beside a row between these texts
abbrev pub beside_before : ℕ → List ℕ → Option ℕ
beside_before sign before = last_character (past_tildes sign before)

abbrev pub beside_after : ℕ → List ℕ → Option ℕ
beside_after sign ks = first_character (past_tildes sign ks)

opens_here : (f : RowFormat) (sign : ℕ) (before ks : List ℕ)
    → may_open sign (beside_before sign before) (beside_after sign ks) ≡ true
    → run_of sign (row_length f) before ks
    ≡ opening f sign (may_close sign (beside_before sign before) (beside_after sign ks))
opens_here f sign before ks h =
    ap (λ (o : Bool). record {
      sign = sign;
      unused = row_length f;
      count = row_length f;
      opens = o;
      closes = may_close sign (beside_before sign before) (beside_after sign ks);
    }) h

closes_here : (f : RowFormat) (sign : ℕ) (before ks : List ℕ)
    → may_close sign (beside_before sign before) (beside_after sign ks) ≡ true
    → run_of sign (row_length f) before ks
    ≡ closing f sign (may_open sign (beside_before sign before) (beside_after sign ks))
closes_here f sign before ks h =
    ap (λ (o : Bool). record {
      sign = sign;
      unused = row_length f;
      count = row_length f;
      opens = may_open sign (beside_before sign before) (beside_after sign ks);
      closes = o;
    }) h

-- a format whose marks are rows that open and close there, and beside which no equal sign stands
pub row_in : (around : List RowFormat) (refs : References) (in_link : Bool) (f : RowFormat) (sign : ℕ)
    (before s ks : List ℕ) (xs : Inlines) → kind sign ≡ Kind.sign → IsSignOf f sign → IsNoneOf f around
    → first_is sign (s ++ (row_text f sign ++ ks)) ≡ false → first_is sign ks ≡ false
    → may_open sign (beside_before sign before) (beside_after sign (s ++ (row_text f sign ++ ks))) ≡ true
    → may_close sign (beside_before sign (pushed s (pushed (row_text f sign) before))) (beside_after sign ks) ≡ true
    → IsReadIn (f ∷ around) refs in_link (pushed (row_text f sign) before) s (row_text f sign ++ ks) xs
    → IsReadIn around refs in_link before (row_text f sign ++ (s ++ row_text f sign)) ks
    (formatted (row_format f) xs no_inlines)
row_in around refs in_link f sign before s ks xs k i a u v o c p =
    let row = row_text f sign in
    let inside = pushed row before in
    let end = pushed s inside in
    let start = run (run_of sign (row_length f) before (s ++ (row ++ ks))) in
    let stop = run (run_of sign (row_length f) end ks) in
    record {
      tokens = start ∷ (p.tokens ++ (stop ∷ []));
      scans = λ b w.
          let b1 = and_tokens b (start ∷ []) in
          let b2 = and_tokens b1 p.tokens in
          ap (λ l. scanned refs l 0 before b)
          (append_assoc row (s ++ row) ks ∙ ap (λ l. row ++ l) (append_assoc s row ks))
          ∙ row_scans refs f sign before (s ++ (row ++ ks)) b k u
          ∙ p.scans b1 (still_brackets in_link b (start ∷ []) w)
          ∙ row_scans refs f sign end ks b2 k v
          ∙ ap (λ l. scanned refs ks 0 l (and_tokens b2 (stop ∷ [])))
          (sym (pushed_append s row inside) ∙ sym (pushed_append row (s ++ row) before))
          ∙ ap (scanned refs ks 0 (pushed (row ++ (s ++ row)) before))
          (both_tokens b1 p.tokens (stop ∷ []) ∙ both_tokens b (start ∷ []) (p.tokens ++ (stop ∷ [])));
      means = λ st h.
          let closes = may_close sign (beside_before sign before) (beside_after sign (s ++ (row ++ ks))) in
          let opens = may_open sign (beside_before sign end) (beside_after sign ks) in
          let top = opener (opening f sign closes) no_inlines st in
          ap (λ r. with_tokens (with_token st (run r)) (p.tokens ++ (stop ∷ [])))
          (opens_here f sign before (s ++ (row ++ ks)) o)
          ∙ ap (λ x. with_tokens x (p.tokens ++ (stop ∷ []))) (opens_own around st f sign closes i h a)
          ∙ tokens_append p.tokens (stop ∷ []) top
          ∙ ap (λ x. with_tokens x (stop ∷ [])) (p.means top (one_more_opener around st f sign closes i h))
          ∙ ap (λ r. with_token (opener (opening f sign closes) xs st) (run r)) (closes_here f sign end ks c)
          ∙ closes_own st f sign closes opens xs i;
    }
