-- The line feed at the beginning of a `pre`, which both readers drop, is a piece of the text.
use Rattle.std.proofs.Common.{◌≡◌, ◌⊎◌, ℕ, zero, suc, ◌+◌, ◌≤◌, Bool, true, false, not, ◌&&◌, List, [], ◌∷◌, ◌++◌}
use Rattle.std.proofs.Common.{length, drop, Option, Some, None, refl, sym, ap, ◌∙◌, arith, inl, inr, subst, codes}
use Rattle.std.specs.Prelude.{◌==◌, nat_lt}
use Rattle.std.specs.Char.{encode_utf8, is_ascii_alphanumeric, is_ascii_digit, is_ascii_hexdigit}
use Rattle.std.specs.List.{list_all}
use Rattle.std.specs.Str.{bytes_eq}
use Rattle.std.proofs.lemmas.Bool.{and_parts, not-true, eqb-true}
use Rattle.htmd_lexical.proofs.Cases.{test}
use Rattle.htmd_lexical.specs.CharacterClasses.{first_is, begins_in_any_case, leading_run, behind_run, lacks, up_to}
use Rattle.htmd_grammar.specs.References.{Piece, stands, wrong, number_at, numbered, may_be_numbered, named}
use Rattle.htmd_lexical.specs.Numbers.{number}
use Rattle.htmd_grammar.specs.References.{behind_number_sign, behind_ampersand, piece_at, decode, after_line_feed}
use Rattle.htmd_grammar.specs.References.{less_line_feed}
use Rattle.htmd_grammar.specs.RawContent.{begins_markup}
use Rattle.htmd_grammar.specs.Rules.{NamedCharacter, character_named, named_characters}
use Rattle.htmd_lexical.proofs.BytesLemmas.{same_bytes}
use Rattle.htmd_grammar.proofs.ReferencesLemmas.{stands_same, put_parts, piece_fits, drop_cut}
use Rattle.htmd_grammar.proofs.CutLemmas.{piece_cut, piece_white, IsLineFeedPiece}

-- ---- the first byte of a character

encode_head : (c : ℕ) → (d : ℕ) × (t : List ℕ) × (encode_utf8 c ≡ d ∷ t) × (d ≡ 10 → t ≡ [])
unfolding encode_utf8
encode_head c =
    test (nat_lt c 128) (λ t. rw t (c, [], refl, λ e. refl))
    (λ t. test (nat_lt c 2048) (λ q. rw (t, q) (_, _, refl, λ e. absurd (omega arith)))
    (λ q. test (nat_lt c 65536) (λ r. rw (t, q, r) (_, _, refl, λ e. absurd (omega arith)))
    (λ r. rw (t, q, r) (_, _, refl, λ e. absurd (omega arith)))))

-- what is so of each named character
pub named_so : (p : ℕ → Bool) (entries : List NamedCharacter) (w : List ℕ) (c : ℕ)
    → list_all (λ (entry : NamedCharacter). p entry.character) entries ≡ true
    → character_named entries w ≡ Some c → p c ≡ true
named_so p [] w c a e = absurd (cc)
named_so p (entry ∷ entries) w c a e =
    let h = and_parts (p entry.character) (list_all (λ (x : NamedCharacter). p x.character) entries) a in
    test (bytes_eq w entry.name)
    (λ t. let f : Some entry.character ≡ Some c = rw t at e in
    let k : entry.character ≡ c = cc in
    subst (λ n. p n ≡ true) k h.0) (λ t. let f = rw t at e in named_so p entries w c h.1 f)

abbrev is_no_feed : ℕ → Bool
is_no_feed c = not (first_is 10 (encode_utf8 c))

no_feed_named : list_all (λ (entry : NamedCharacter). is_no_feed entry.character) named_characters ≡ true
unfolding encode_utf8
no_feed_named = refl

-- ---- what a piece stands for

-- it begins with a byte, and with a line feed only if it is one by any names
abbrev Begins : ℕ → List ℕ → List ℕ → ℕ → Type 0
Begins b s v m = (d : ℕ) × (t : List ℕ) × (v ≡ d ∷ t) × (d ≡ 10 → IsLineFeedPiece b s m)

numbered_is : (n c m : ℕ) (v : List ℕ) → numbered n c ≡ stands m v
    → (v ≡ encode_utf8 c) × (may_be_numbered c ≡ true)
numbered_is n c m v e =
    test (may_be_numbered c) (λ t. let w = rw t at e in (sym (stands_same n m (encode_utf8 c) v w).1, t))
    (λ t. absurd (let w = rw t at e in cc))

-- the character of a number
abbrev pub Numbered : List ℕ → Type 0
Numbered v = (c : ℕ) × (v ≡ encode_utf8 c) × (may_be_numbered c ≡ true)

number_is : (p : ℕ → Bool) (base from m : ℕ) (s v : List ℕ) → number_at p base from s ≡ stands m v
    → Numbered v
number_is p base from m s v e =
    test (first_is 59 (behind_run p s) && not (first_is 59 s))
    (λ t. let w = rw t at e in
    let n = numbered_is (suc (from + length (leading_run p s))) (number base 0 (leading_run p s)) m v w in
    (number base 0 (leading_run p s), n.0, n.1)) (λ t. absurd (let w = rw t at e in cc))

pub sign_is : (s v : List ℕ) (m : ℕ) → behind_number_sign s ≡ stands m v → Numbered v
sign_is [] v m e = absurd (cc)
sign_is (b ∷ s) v m e =
    test (begins_in_any_case (codes "x") (b ∷ s))
    (λ t. let w = rw t at e in number_is is_ascii_hexdigit 16 2 m s v w)
    (λ t. let w = rw t at e in number_is is_ascii_digit 10 1 m (b ∷ s) v w)

name_is : (n m : ℕ) (w v : List ℕ) (o : Option ℕ) → character_named named_characters w ≡ o → named n
    o ≡ stands m v → (d : ℕ) × (t : List ℕ) × (v ≡ d ∷ t) × (d ≡ 10 → ⊥)
name_is n m w v None q e = absurd (cc)
name_is n m w v (Some c) q e =
    let h = encode_head c in
    let same : v ≡ h.0 ∷ h.1 = sym (stands_same n m (encode_utf8 c) v e).1 ∙ h.2 in (
      h.0,
      h.1,
      same,
      λ ten. no_ten h.0 h.1 ten (ap (first_is 10) (sym h.2)
          ∙ not-true (first_is 10 (encode_utf8 c)) (named_so is_no_feed named_characters w c no_feed_named q)),
    )
  where
    no_ten : (d : ℕ) (t : List ℕ) → d ≡ 10 → first_is 10 (d ∷ t) ≡ false → ⊥
    no_ten d t e f = let w = rw e at f in cc

reference_begins : (s v : List ℕ) (m : ℕ) → behind_ampersand named_characters s ≡ stands m v
    → (d : ℕ) × (t : List ℕ) × (v ≡ d ∷ t) × (d ≡ 10 → behind_ampersand [] s ≡ stands m (10 ∷ []))
reference_begins s v m e =
    test (first_is 35 s)
    (λ t. let w = rw t at e in
    let c = sign_is (drop 1 s) v m w in
    let h = encode_head c.0 in
    (h.0, h.1, c.1 ∙ h.2, λ ten. rw t (w ∙ ap (stands m) (c.1 ∙ h.2 ∙ line_feed_alone h.0 h.1 ten (h.3 ten)))))
    (λ t. let w = rw t at e in
    test (first_is 59 (behind_run is_ascii_alphanumeric s) && not (first_is 59 s))
    (λ q. let y = rw q at w in
    let n = name_is _ m (leading_run is_ascii_alphanumeric s) v _ refl y in
    (n.0, n.1, n.2, λ ten. absurd (n.3 ten)))
    (λ q. let y = rw q at w in
    (38, [], sym (stands_same 0 m (38 ∷ []) v y).1, λ ten. absurd (omega arith))))
  where
    line_feed_alone : (d : ℕ) (t : List ℕ) → d ≡ 10 → t ≡ [] → d ∷ t ≡ 10 ∷ []
    line_feed_alone d t e f = rw (e, f) refl

piece_begins : (b m : ℕ) (s v : List ℕ) → (b == 13) ≡ false → piece_at named_characters b s ≡ stands m v
    → Begins b s v m
piece_begins b m s v cr e =
    test (b == 38)
    (λ t. let w = rw t at e in
    let r = reference_begins s v m w in (r.0, r.1, r.2, λ ten. rw t (r.3 ten)))
    (λ t. let w = rw (t, cr) at e in
    let q = stands_same 0 m (b ∷ []) v w in
    (b, [], sym q.1, λ ten. rw (t, cr) (one b m ten q.0)))
  where
    one : (b m : ℕ) → b ≡ 10 → 0 ≡ m → stands 0 (b ∷ []) ≡ stands m (10 ∷ [])
    one b m e f = rw (e, sym f) refl

-- ---- by any names

reference_named : (s v : List ℕ) (m : ℕ) → behind_ampersand [] s ≡ stands m v
    → behind_ampersand named_characters s ≡ stands m v
reference_named s v m e =
    test (first_is 35 s) (λ t. let w = rw t at e in rw t w)
    (λ t. let w = rw t at e in
    test (first_is 59 (behind_run is_ascii_alphanumeric s) && not (first_is 59 s))
    (λ q. absurd (let y = rw q at w in cc)) (λ q. let y = rw q at w in rw (t, q) y))

pub piece_named : (b m : ℕ) (s v : List ℕ) → piece_at [] b s ≡ stands m v → piece_at named_characters b
    s ≡ stands m v
piece_named b m s v e =
    test (b == 38) (λ t. let w = rw t at e in rw t (reference_named s v m w)) (λ t. let w = rw t at e in rw t w)

-- ---- a line feed that is kept

drop_shorter : (n : ℕ) (s : List ℕ) → length (drop n s) ≤ length s
drop_shorter zero s = omega arith
drop_shorter (suc n) [] = omega arith
drop_shorter (suc n) (b ∷ s) = let l = drop_shorter n s in omega arith

-- where nothing is dropped, what the text denotes begins with no line feed
pub kept_begins : (this u after : List ℕ) → lacks 13 this ≡ true → decode named_characters 0 this ≡ Some u
    → first_is 10 after ≡ false → after_line_feed [] (this ++ after) ≡ this ++ after → first_is 10 u ≡ false
kept_begins [] u after cr e a k = let w : [] ≡ u = cc in rw (sym w) refl
kept_begins (b ∷ s) u after cr e a k =
    let c = and_parts (not (b == 13)) (lacks 13 s) cr in
    let p = put_parts (piece_at named_characters b s) (λ n. decode named_characters n s) u e in
    let h = piece_begins b p.0 s p.1 (not-true (b == 13) c.0) p.3 in
    test (h.0 == 10)
    (λ t. let d : IsLineFeedPiece b (s ++ after) p.0 =
    piece_white [] b s (10 ∷ []) after p.0 (h.3 (eqb-true h.0 10 t)) refl a in
    let f : drop p.0 (s ++ after) ≡ b ∷ (s ++ after) =
    sym (ap (λ q. less_line_feed q b (s ++ after)) d) ∙ k in
    absurd (let l = drop_shorter p.0 (s ++ after) in let m = ap length f in omega arith))
    (λ t. ap (first_is 10) (p.5 ∙ ap (λ (x : List ℕ). x ++ p.2) h.2) ∙ t)

-- ---- a line feed that is dropped

abbrev pub Drops : ℕ → List ℕ → Type 0
Drops b s = (m : ℕ) × IsLineFeedPiece b s m × (after_line_feed [] (b ∷ s) ≡ drop m s)

pub feed_case : (b : ℕ) (s : List ℕ) → (after_line_feed [] (b ∷ s) ≡ b ∷ s) ⊎ Drops b s
feed_case b s = go (piece_at [] b s) refl
  where
    go : (q : Piece) → piece_at [] b s ≡ q → (after_line_feed [] (b ∷ s) ≡ b ∷ s) ⊎ Drops b s
    go (wrong kind) e = inl (rw e refl)
    go (stands m v) e =
        test (bytes_eq v (10 ∷ []))
        (λ t. let same : v ≡ 10 ∷ [] = same_bytes v (10 ∷ []) t in
        inr (m, e ∙ ap (stands m) same, rw e (rw t refl))) (λ t. inl (rw e (rw t refl)))

same_front : (w r x y : List ℕ) → w ++ r ≡ x ++ y → length w ≡ length x → w ≡ x
same_front [] r [] y e l = refl
same_front [] r (c ∷ x) y e l = absurd (omega arith)
same_front (b ∷ w) r [] y e l = absurd (omega arith)
same_front (b ∷ w) r (c ∷ x) y e l =
    let h : b ≡ c = cc in
    let t : w ++ r ≡ x ++ y = cc in
    rw (h, same_front w r x y t (omega arith)) refl

-- the bytes of the piece, which stand for a line feed before any beginning of what follows
pub record Feed (b : ℕ) (w r : List ℕ) : Type 0 where
  pub no_less : lacks 60 w ≡ true
  pub no_less_first : (b == 60) ≡ false
  pub piece : (x z : List ℕ) → r ≡ x ++ z → piece_at named_characters b (w ++ x) ≡ stands (length w)
      (10 ∷ [])

pub dropped_feed : (b m : ℕ) (s : List ℕ) → (b == 13) ≡ false → IsLineFeedPiece b s m
    → (w : List ℕ) × (s ≡ w ++ drop m s) × Feed b w (drop m s)
dropped_feed b m s cr e =
    let c = piece_cut [] b s (10 ∷ []) m e in
    let f = piece_fits [] b s (10 ∷ []) m e in
    let same : c.0 ≡ f.0 = same_front c.0 c.1 f.0 f.1 (sym c.2 ∙ f.2) (omega (arith, c.3, f.3)) in
    let left : drop m s ≡ c.1 = ap (drop m) c.2 ∙ (drop_cut c.0 c.1 [] m c.3).0 in (
      c.0,
      c.2 ∙ ap (λ (x : List ℕ). c.0 ++ x) (sym left),
      record {
        no_less = rw same f.4;
        no_less_first = not_less b m s cr e;
        piece = λ x z q. piece_named b (length c.0) (c.0 ++ x) (10 ∷ [])
            (c.4 x z (sym left ∙ q) ∙ ap (λ n. stands n (10 ∷ [])) (sym c.3));
      },
    )
  where
    not_less : (b m : ℕ) (s : List ℕ) → (b == 13) ≡ false → IsLineFeedPiece b s m → (b == 60) ≡ false
    not_less b m s cr e =
        test (b == 60) (λ t. absurd (let k = eqb-true b 60 t in let w : stands 0 (60 ∷ []) ≡ stands m
        (10 ∷ []) = rw k at e in cc)) (λ t. t)

skipped : (w x : List ℕ) → decode named_characters (length w) (w ++ x) ≡ decode named_characters 0 x
skipped [] x = refl
skipped (b ∷ w) x = skipped w x

-- with it before it, a text is a text that begins with a line feed
pub feed_text : (b : ℕ) (w r this z u : List ℕ) → Feed b w r → r ≡ this ++ z
    → decode named_characters 0 this ≡ Some u → up_to begins_markup this ≡ this
    → (decode named_characters 0 (b ∷ (w ++ this)) ≡ Some (10 ∷ u))
    × (up_to begins_markup (b ∷ (w ++ this)) ≡ b ∷ (w ++ this))
feed_text b w r this z u f e d l =
    (rw (f.piece this z e) (rw (skipped w this ∙ d) refl), no_markup b w this f.no_less_first f.no_less l)
  where
    no_markup : (b : ℕ) (w this : List ℕ) → (b == 60) ≡ false → lacks 60 w ≡ true → up_to begins_markup
        this ≡ this → up_to begins_markup (b ∷ (w ++ this)) ≡ b ∷ (w ++ this)
    no_markup b [] [] e l k = refl
    no_markup b [] (c ∷ this) e l k = rw e (ap (λ (x : List ℕ). b ∷ x) k)
    no_markup b (c ∷ w) this e l k =
        let h = and_parts (not (c == 60)) (lacks 60 w) l in
        rw e (ap (λ (x : List ℕ). b ∷ x) (no_markup c w this (not-true (c == 60) h.0) h.1 k))
