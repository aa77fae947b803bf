-- What a text of the strict grammar denotes is not empty and holds no U+0000.
use Rattle.std.proofs.Common.{◌≡◌, ◌≢◌, ℕ, zero, suc, ◌+◌, ◌<◌, Bool, true, false, not, ◌&&◌, List, [], ◌∷◌, ◌++◌, drop}
use Rattle.std.proofs.Common.{Option, Some, None, refl, sym, arith, subst, codes}
use Rattle.std.specs.Prelude.{◌==◌, nat_lt}
use Rattle.std.specs.Char.{encode_utf8, is_ascii_alphanumeric}
use Rattle.std.specs.List.{list_all}
use Rattle.std.specs.Str.{bytes_eq}
use Rattle.std.proofs.lemmas.Bool.{and_parts, not-true}
use Rattle.std.proofs.lemmas.Bool.Decides.{nat_tests}
use Rattle.htmd_lexical.proofs.Cases.{test}
use Rattle.htmd_lexical.specs.CharacterClasses.{is_among, first_is, leading_run, behind_run, lacks}
use Rattle.htmd_lexical.specs.LineEnds.{normalized}
use Rattle.htmd_grammar.specs.References.{Piece, stands, wrong, may_be_numbered, named, behind_ampersand, piece_at}
use Rattle.htmd_grammar.specs.References.{decode, after_line_feed, less_line_feed}
use Rattle.htmd_grammar.specs.RawContent.{holds_raw_text, has_script_escape, text_of, content_of, drops_line_feed}
use Rattle.htmd_grammar.specs.Rules.{NamedCharacter, character_named, named_characters, project}
use Rattle.htmd_grammar.proofs.ReferencesLemmas.{stands_same, put_parts}
use Rattle.htmd_lexical.proofs.LeadingRunsLemmas.{filled}
use Rattle.htmd_html5.specs.AtOnce.{is_not_null, is_without_null}
use Rattle.htmd_law_html5.proofs.StrictLineFeeds.{named_so, sign_is, Numbered}

abbrev AreNotNull : List ℕ → Type 0
AreNotNull v = list_all is_not_null v ≡ true

not_null_both : (v w : List ℕ) → AreNotNull v → AreNotNull w → AreNotNull (v ++ w)
not_null_both [] w e f = f
not_null_both (b ∷ v) w e f =
    let k = and_parts (is_not_null b) (list_all is_not_null v) e in
    rw (k.0, not_null_both v w k.1 f) refl

-- ---- characters

not_null_sum : (k x : ℕ) → 0 < k → is_not_null (k + x) ≡ true
not_null_sum k x l = grind (arith, nat_tests)

encode_not_null : (c : ℕ) → (c == 0) ≡ false → AreNotNull (encode_utf8 c)
unfolding encode_utf8
encode_not_null c e =
    test (nat_lt c 128) (λ t. rw t (rw e refl)) (λ t. test (nat_lt c 2048)
    (λ q. rw (t, q) (rw (not_null_sum 192 _ (omega arith), not_null_sum 128 _ (omega arith)) refl))
    (λ q. test (nat_lt c 65536)
    (λ r. rw (t, q, r) (rw (
      not_null_sum 224 _ (omega arith),
      not_null_sum 128 _ (omega arith),
      not_null_sum 128 _ (omega arith),
    ) refl))
    (λ r. rw (t, q, r) (rw (
      not_null_sum 240 _ (omega arith),
      not_null_sum 128 _ (omega arith),
      not_null_sum 128 _ (omega arith),
      not_null_sum 128 _ (omega arith),
    ) refl))))

abbrev is_other : ℕ → Bool
is_other c = list_all is_not_null (encode_utf8 c)

names_not_null : list_all (λ (entry : NamedCharacter). is_other entry.character) named_characters ≡ true
unfolding encode_utf8
names_not_null = refl

-- ---- pieces

numbered_not_null : (v : List ℕ) → Numbered v → AreNotNull v
unfolding may_be_numbered
numbered_not_null v n =
    let t : may_be_numbered n.0 ≡ true = n.2 in
    let zero_ : (n.0 == 0) ≡ false = grind (arith, nat_tests) in
    subst AreNotNull (sym n.1) (encode_not_null n.0 zero_)

name_not_null : (n m : ℕ) (w v : List ℕ) (o : Option ℕ) → character_named named_characters w ≡ o
    → named n o ≡ stands m v → AreNotNull v
name_not_null n m w v None q e = absurd (cc)
name_not_null n m w v (Some c) q e =
    subst AreNotNull (stands_same n m (encode_utf8 c) v e).1 (named_so is_other named_characters w c names_not_null q)

reference_not_null : (s v : List ℕ) (m : ℕ) → behind_ampersand named_characters s ≡ stands m v → AreNotNull v
reference_not_null s v m e =
    test (first_is 35 s) (λ t. let w = rw t at e in numbered_not_null v (sign_is (drop 1 s) v m w))
    (λ t. let w = rw t at e in
    test (first_is 59 (behind_run is_ascii_alphanumeric s) && not (first_is 59 s))
    (λ q. let y = rw q at w in name_not_null _ m (leading_run is_ascii_alphanumeric s) v _ refl y)
    (λ q. let y = rw q at w in subst AreNotNull (stands_same 0 m (38 ∷ []) v y).1 refl))

piece_not_null : (b m : ℕ) (s v : List ℕ) → (b == 0) ≡ false → piece_at named_characters b s ≡ stands m v
    → AreNotNull v
piece_not_null b m s v z e =
    test (b == 38) (λ t. let w = rw t at e in reference_not_null s v m w)
    (λ t. test (b == 13) (λ r. test (first_is 10 s)
    (λ q. let w = rw (t, r, q) at e in subst AreNotNull (stands_same 1 m (10 ∷ []) v w).1 refl)
    (λ q. let w = rw (t, r, q) at e in subst AreNotNull (stands_same 0 m (10 ∷ []) v w).1 refl))
    (λ r. let w = rw (t, r) at e in subst AreNotNull (stands_same 0 m (b ∷ []) v w).1 (rw z refl)))

-- ---- texts

decoded_not_null : (n : ℕ) (s u : List ℕ) → lacks 0 s ≡ true → decode named_characters n s ≡ Some u →
    AreNotNull u
decoded_not_null n [] u l e = let w : [] ≡ u = cc in subst AreNotNull w refl
decoded_not_null zero (b ∷ s) u l e =
    let k = and_parts (not (b == 0)) (lacks 0 s) l in
    let p = put_parts (piece_at named_characters b s) (λ n. decode named_characters n s) u e in
    subst AreNotNull (sym p.5) (not_null_both p.1 p.2 (piece_not_null b p.0 s p.1 (not-true (b == 0) k.0) p.3)
    (decoded_not_null p.0 s p.2 k.1 p.4))
decoded_not_null (suc n) (b ∷ s) u l e = decoded_not_null n s u (and_parts (not (b == 0)) (lacks 0 s) l).1 e

lines_not_null : (s : List ℕ) → lacks 0 s ≡ true → AreNotNull (normalized s)
lines_not_null [] l = refl
lines_not_null (b ∷ s) l =
    let k = and_parts (not (b == 0)) (lacks 0 s) l in
    let i = lines_not_null s k.1 in
    test (b == 13) (λ t. test (first_is 10 s) (λ q. rw (t, q) i) (λ q. rw (t, q) i))
    (λ t. rw t (rw (not-true (b == 0) k.0, i) refl))

pub plain_text : (z : Bool) (p s u : List ℕ) → lacks 0 s ≡ true → text_of (project z) p s ≡ Some u → u ≢
    [] → is_without_null u ≡ true
plain_text z p s u l e f = rw (filled u f, text_not_null) refl
  where
    text_not_null : AreNotNull u
    text_not_null =
        test (holds_raw_text z p) (λ t. test (is_among (codes "script" ∷ []) p && has_script_escape s)
        (λ q. absurd (let w = rw (t, q) at e in cc))
        (λ q. let w : Some (normalized s) ≡ Some u = rw (t, q) at e in
        let same : normalized s ≡ u = cc in
        subst AreNotNull same (lines_not_null s l)))
        (λ t. let w : decode named_characters 0 s ≡ Some u = rw t at e in decoded_not_null 0 s u l w)

-- ---- what an element holds

drop_lacks : (n c : ℕ) (s : List ℕ) → lacks c s ≡ true → lacks c (drop n s) ≡ true
drop_lacks zero c s l = l
drop_lacks (suc n) c [] l = refl
drop_lacks (suc n) c (b ∷ s) l = drop_lacks n c s (and_parts (not (b == c)) (lacks c s) l).1

less_lacks : (q : Piece) (b : ℕ) (s : List ℕ) → lacks 0 (b ∷ s) ≡ true → lacks 0
    (less_line_feed q b s) ≡ true
less_lacks (wrong kind) b s l = l
less_lacks (stands n v) b s l =
    test (bytes_eq v (10 ∷ []))
    (λ t. rw t (drop_lacks n 0 s (and_parts (not (b == 0)) (lacks 0 s) l).1)) (λ t. rw t l)

feed_lacks : (s : List ℕ) → lacks 0 s ≡ true → lacks 0 (after_line_feed [] s) ≡ true
feed_lacks [] l = refl
feed_lacks (b ∷ s) l = less_lacks (piece_at [] b s) b s l

pub content_lacks : (n s : List ℕ) → lacks 0 s ≡ true → lacks 0 (content_of n s) ≡ true
content_lacks n s l = test (drops_line_feed n) (λ t. rw t (feed_lacks s l)) (λ t. rw t l)
