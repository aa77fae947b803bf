-- An address and a title end where they end, and are what was written.
use Rattle.std.proofs.Common.{◌≡◌, ◌∙◌, refl, ap, ℕ, Bool, true, false, List, [], ◌∷◌, ◌++◌, Option, Some, None, codes}
use Rattle.std.proofs.Common.{inl, inr}
use Rattle.std.specs.Prelude.{◌&&◌, ◌||◌, ◌==◌, slice_get, nat_le}
use Rattle.std.specs.List.{list_all, list_any}
use Rattle.std.specs.Char.{is_ascii_punctuation}
use Rattle.std.proofs.lemmas.Bool.{eqb-true, and_parts, or_parts, or_cases, eq-eqb}
use Rattle.htmd_lexical.specs.Characters.{is_one_of}
use Rattle.htmd_html5_tokens.specs.NamedReferences.{small_names}
use Rattle.htmd_commonmark.specs.References.{is_reference}
use Rattle.htmd_commonmark.specs.Addresses.{escaped_in, is_escaped, piece, may_escape, is_space_or_control}
use Rattle.htmd_commonmark_reading.specs.Characters.{Piece, resolved, escaped, unescaped, reference}
use Rattle.htmd_commonmark_reading.specs.Characters.{begins_with_punctuation, itself, piece_or}
use Rattle.htmd_commonmark_reading.specs.LinkDefinitions.{until_sign, bare, ends_bare, open_after}
use Rattle.htmd_law_inlines.proofs.TextPieces.{test, is_no_reference}
use Rattle.htmd_law_inlines.proofs.ReferencePieces.{one_of, Writes, written_none}

-- ---- pieces

-- the signs that get a backslash are punctuation, and none of those that escapes have
pub record AreSigns (signs : List ℕ) : Type 0 where
  pub punctuation : list_all is_ascii_punctuation signs ≡ true
  pub no_backslash : is_one_of signs 92 ≡ false
  pub no_ampersand : is_one_of signs 38 ≡ false
  pub no_semicolon : is_one_of signs 59 ≡ false

-- a character with a backslash, the ampersand of a reference, and any other
pub piece_cases : {P : Type 0} (signs : List ℕ) (b : ℕ) (s : List ℕ)
    → (is_escaped signs b s ≡ true → piece signs b s ≡ 92 ∷ b ∷ [] → P)
    → (b ≡ 38 → piece signs b s ≡ codes "&amp;" → P)
    → (is_escaped signs b s ≡ false → ((b == 38) && is_reference s) ≡ false → piece signs b s ≡ b ∷ []
    → P) → P
piece_cases signs b s x y z =
    test (is_escaped signs b s) (λ e. x e (rw e refl))
    (λ e. test ((b == 38) && is_reference s)
    (λ a. y (eqb-true b 38 (and_parts (b == 38) (is_reference s) a).0) (rw (e, a) refl))
    (λ a. z e a (rw (e, a) refl)))

pub escaped_punctuation : (signs : List ℕ) → AreSigns signs → (b : ℕ) (s : List ℕ) → is_escaped signs b s
    ≡ true
    → is_ascii_punctuation b ≡ true
escaped_punctuation signs w b s h =
    elim (or_cases (is_one_of signs b) ((b == 92) && may_escape (slice_get s 0)) h) as (λ x.
    is_ascii_punctuation b ≡ true) [
      | inl x ↦ one_of is_ascii_punctuation signs b x w.punctuation
      | inr x ↦ rw (eqb-true b 92 (and_parts (b == 92) (may_escape (slice_get s 0)) x).0) refl
    ]

pub writes_address : (signs : List ℕ) → AreSigns signs → (s : List ℕ) → Writes s (escaped_in signs s)
writes_address signs w [] = refl
writes_address signs w (b ∷ s) =
    piece_cases signs b s
    (λ e p. rw p (inr (escaped_punctuation signs w b s e, refl)))
    (λ e p. rw (p, e) (inr (refl, refl)))
    (λ e a p. rw p (inl (refl, writes_address signs w s)))

-- a character that isn't punctuation stands as it is
pub plain_piece : (signs : List ℕ) → AreSigns signs → (d : ℕ) (s : List ℕ) → is_ascii_punctuation d
    ≡ false
    → piece signs d s ≡ d ∷ []
plain_piece signs w d s h =
    piece_cases signs d s
    (λ e p. let x = escaped_punctuation signs w d s e in absurd (cc))
    (λ e p. let x : true ≡ false = rw e at h in absurd (cc))
    (λ e a p. p)

-- ---- the text of it

amp_reference : (u : List ℕ) → reference (97 ∷ 109 ∷ 112 ∷ 59 ∷ u)
    ≡ Some (record { meaning = 38 ∷ []; following = 4 })
unfolding small_names
amp_reference u = refl

no_piece : (r : Option Piece) (b : ℕ) → is_no_reference r ≡ true → piece_or r (itself b) ≡ itself b
no_piece None b h = refl
no_piece (Some p) b h = absurd (cc)

-- a backslash that stands as it is
slash_itself : (signs : List ℕ) → AreSigns signs → (s : List ℕ) → may_escape (slice_get s 0) ≡ false
    → escaped 92 (escaped_in signs s) ≡ itself 92
slash_itself signs w [] h = absurd (cc)
slash_itself signs w (d ∷ s) h = rw (plain_piece signs w d s h, h) refl

escaped_itself : (signs : List ℕ) → AreSigns signs → (b : ℕ) (s : List ℕ) → is_escaped signs b s ≡ false
    → ((b == 38) && is_reference s) ≡ false → escaped b (escaped_in signs s) ≡ itself b
escaped_itself signs w b s e a =
    test (b == 92)
    (λ x. let y : may_escape (slice_get s 0) ≡ false =
    rw x at ((or_parts (is_one_of signs b) ((b == 92) && may_escape (slice_get s 0)) e).1) in
    rw (eqb-true b 92 x) (slash_itself signs w s y))
    (λ x. test (b == 38)
    (λ z. rw (x, z) (no_piece (reference (escaped_in signs s)) b
    (written_none s (escaped_in signs s) (writes_address signs w s) (rw z at a))))
    (λ z. rw (x, z) refl))

pub address_text : (signs : List ℕ) → AreSigns signs → (s : List ℕ) → unescaped (escaped_in signs s) ≡ s
address_text signs w [] = refl
address_text signs w (b ∷ s) =
    piece_cases signs b s
    (λ e p. rw (p, escaped_punctuation signs w b s e) (ap (λ l. b ∷ l) (address_text signs w s)))
    (λ e p. rw (p, amp_reference (escaped_in signs s)) (rw e (ap (λ l. 38 ∷ l) (address_text signs w s))))
    (λ e a p. rw p (ap (λ (x : Piece). x.meaning ++ resolved escaped x.following (escaped_in signs s))
    (escaped_itself signs w b s e a) ∙ ap (λ l. b ∷ l) (address_text signs w s)))

-- ---- between two signs

pub slash_escapes : (signs : List ℕ) (b : ℕ) (s : List ℕ) → is_escaped signs b s ≡ false → (b == 92)
    ≡ true
    → may_escape (slice_get s 0) ≡ false
slash_escapes signs b s e x = rw x at ((or_parts (is_one_of signs b) ((b == 92) && may_escape (slice_get s 0)) e).1)

pub not_sign : (signs : List ℕ) (b c : ℕ) (s : List ℕ) → is_escaped signs b s ≡ false → is_one_of signs c
    ≡ true
    → (b == c) ≡ false
not_sign signs b c s e h =
    test (b == c)
    (λ x. let y = (or_parts (is_one_of signs b) ((b == 92) && may_escape (slice_get s 0)) e).0 in
    let z = ap (is_one_of signs) (eqb-true b c x) in absurd (cc))
    (λ x. x)

no_other : (signs : List ℕ) (c d : ℕ) → is_one_of signs c ≡ false → is_one_of signs d ≡ true → (c == d)
    ≡ false
no_other signs c d h k = test (c == d) (λ x. let y = ap (is_one_of signs) (eqb-true c d x) in absurd (cc)) (λ x. x)

no_letter : (signs : List ℕ) → AreSigns signs → (c : ℕ) → is_ascii_punctuation c ≡ false
    → is_one_of signs c ≡ false
no_letter signs w c h =
    test (is_one_of signs c) (λ x. let y = one_of is_ascii_punctuation signs c x w.punctuation in absurd (cc))
    (λ x. x)

-- the text up to the sign that closes, also where its first character is behind a backslash
abbrev IsUntil : List ℕ → ℕ → ℕ → List ℕ → List ℕ → Type 0
IsUntil signs stop refused s r =
    (until_sign stop refused false (escaped_in signs s ++ (stop ∷ r))
    ≡ Some (record { front = escaped_in signs s; rest = r }))
    × (may_escape (slice_get s 0) ≡ false
    → until_sign stop refused true (escaped_in signs s ++ (stop ∷ r))
    ≡ Some (record { front = escaped_in signs s; rest = r }))

until_both : (signs : List ℕ) → AreSigns signs → (stop refused : ℕ) → is_one_of signs stop ≡ true
    → is_one_of signs refused ≡ true → (s r : List ℕ) → IsUntil signs stop refused s r
until_both signs w stop refused i j [] r = (rw (eq-eqb stop stop refl) refl, λ h. absurd (cc))
until_both signs w stop refused i j (b ∷ s) r =
    let next = until_both signs w stop refused i j s r in (
      piece_cases signs b s
          (λ e p. rw (p, no_other signs 92 stop w.no_backslash i, no_other signs 92 refused w.no_backslash j, next.0)
          refl)
          (λ e p. let la = no_letter signs w 97 refl in let lm = no_letter signs w 109 refl in let lp = no_letter
          signs w 112 refl in
          rw (
            p,
            no_other signs 38 stop w.no_ampersand i,
            no_other signs 38 refused w.no_ampersand j,
            no_other signs 97 stop la i,
            no_other signs 97 refused la j,
            no_other signs 109 stop lm i,
            no_other signs 109 refused lm j,
            no_other signs 112 stop lp i,
            no_other signs 112 refused lp j,
            no_other signs 59 stop w.no_semicolon i,
            no_other signs 59 refused w.no_semicolon j,
            next.0,
          ) refl)
          (λ e a p. test (b == 92)
          (λ x. rw (
            p,
            not_sign signs b stop s e i,
            not_sign signs b refused s e j,
            x,
            next.1
                (slash_escapes signs b s e x),
          ) refl)
          (λ x. rw (p, not_sign signs b stop s e i, not_sign signs b refused s e j, x, next.0) refl)),
      λ h. rw (plain_piece signs w b s h, next.0) refl,
    )

pub until_read : (signs : List ℕ) → AreSigns signs → (stop refused : ℕ) → is_one_of signs stop ≡ true
    → is_one_of signs refused ≡ true → (s r : List ℕ)
    → until_sign stop refused false (escaped_in signs s ++ (stop ∷ r))
    ≡ Some (record { front = escaped_in signs s; rest = r })
until_read signs w stop refused i j s r = (until_both signs w stop refused i j s r).0

-- ---- bare addresses

-- the signs of an address that stands bare
abbrev pub bare_signs : List ℕ
bare_signs = codes "()<>"

pub are_bare_signs : AreSigns bare_signs
are_bare_signs = record { punctuation = refl; no_backslash = refl; no_ampersand = refl; no_semicolon = refl }

-- what follows a bare address
abbrev pub ends_address : List ℕ → Bool
ends_address [] = true
ends_address (c ∷ r) = (c == 32) || (c == 41)

bare_end : (r : List ℕ) → ends_address r ≡ true → bare 0 false r ≡ Some (record { front = []; rest = r })
bare_end [] h = refl
bare_end (c ∷ r) h =
    test (c == 32) (λ e. rw (eqb-true c 32 e) refl)
    (λ n. let e : (c == 41) ≡ true = rw n at h in rw (eqb-true c 41 e) refl)

pub bare_plain : (b : ℕ) → is_space_or_control b ≡ false → is_one_of bare_signs b ≡ false
    → (ends_bare 0 b ≡ false) × (open_after 0 b ≡ 0)
bare_plain b h k =
    let p = or_parts (nat_le b 32) (b == 0x7F) h in
    let q = no_other bare_signs b 40 k refl in
    let r = no_other bare_signs b 41 k refl in
    (rw (p.0, p.1, r) refl, rw (q, r) refl)

pub no_punctuation_next : (s r : List ℕ) → may_escape (slice_get s 0) ≡ false
    → begins_with_punctuation (escaped_in bare_signs s ++ r) ≡ false
no_punctuation_next [] r h = absurd (cc)
no_punctuation_next (d ∷ s) r h = rw (plain_piece bare_signs are_bare_signs d s h, h) refl

pub bare_read : (s r : List ℕ) → list_any is_space_or_control s ≡ false → ends_address r ≡ true
    → bare 0 false (escaped_in bare_signs s ++ r) ≡ Some (record { front = escaped_in bare_signs s; rest = r })
bare_read [] r h k = bare_end r k
bare_read (b ∷ s) r h k =
    let c = or_parts (is_space_or_control b) (list_any is_space_or_control s) h in
    let next = bare_read s r c.1 k in
    piece_cases bare_signs b s
    (λ e p. rw (p, escaped_punctuation bare_signs are_bare_signs b s e, next) refl)
    (λ e p. rw (p, next) refl)
    (λ e a p. let o = (or_parts (is_one_of bare_signs b) ((b == 92) && may_escape (slice_get s 0)) e).0 in
    let q = bare_plain b c.0 o in
    test (b == 92)
    (λ x. rw (p, q.0, q.1, x, no_punctuation_next s r (slash_escapes bare_signs b s e x), next) refl)
    (λ x. rw (p, q.0, q.1, x, next) refl))
