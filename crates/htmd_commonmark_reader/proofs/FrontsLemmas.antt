-- What a text has up to a sign, and as a bare destination, looked at byte by byte.
use Rattle.std.proofs.Common.{◌≡◌, ℕ, ◌+◌, ◌<◌, ◌≤◌, Bool, true, false, not, ◌&&◌, List, [], ◌∷◌, ◌++◌, length}
use Rattle.std.proofs.Common.{take, drop, get_or, refl, ap, sym, ◌∙◌, arith, append_assoc, Option, Some, None}
use Rattle.std.proofs.lemmas.Bool.{and_parts}
use Rattle.std.proofs.lemmas.Bool.Decides.{nat_tests}
use Rattle.std.proofs.lemmas.List.{append-nil, drop_more, drop_all, take_more}
use Rattle.std.proofs.lemmas.Str.{IsCharBoundary-before_ascii, IsCharBoundary-end}
use Rattle.std.specs.Option.{IfSome}
use Rattle.std.specs.Prelude.{◌==◌, option_map}
use Rattle.std.specs.Str.{IsCharBoundary}
use Rattle.htmd_lexical.proofs.Cases.{test}
use Rattle.htmd_commonmark_reading.specs.Characters.{Front, before_in_front, begins_with_punctuation}
use Rattle.htmd_commonmark_reading.specs.LinkDefinitions.{until_sign, bare, closed_bare, ends_bare}
use Rattle.htmd_commonmark_reader.specs.Fronts.{split, around, behind, depth_after, if_closed}

behind_more : (s : List ℕ) (c : ℕ) (f : Option Front)
    → behind s (before_in_front c f) ≡ behind (s ++ c ∷ []) f
behind_more s c None = refl
behind_more s c (Some f) =
    ap (λ (t : List ℕ). Some (record { front = t; rest = f.rest })) (sym (append_assoc s (c ∷ []) f.front))

-- what is found from a place on is found from the next
step : (s : List ℕ) (i : ℕ) (here next : Option Front) → i < length s
    → here ≡ before_in_front (get_or s i 0) next
    → behind (take i s) here ≡ behind (take (i + 1) s) next
step s i here next l e =
    ap (behind (take i s)) e ∙ behind_more (take i s) (get_or s i 0) next
    ∙ ap (λ t. behind t next) (sym (take_more s i 0 l))

-- ---- up to a sign

module _ (stop refused : ℕ) where
  plain_more : (e : Bool) (c : ℕ) (s : List ℕ) → (not e && (c == stop)) ≡ false
      → (not e && (c == refused)) ≡ false
      → until_sign stop refused e (c ∷ s) ≡ before_in_front c (until_sign stop refused (not e && (c == 92)) s)
  plain_more true c s f g = refl
  plain_more false c s f g = rw (f, g) refl

  pub sign_more : (s : List ℕ) (i : ℕ) (e : Bool) → i < length s → (not e && (get_or s i 0 == stop)) ≡ false
      → (not e && (get_or s i 0 == refused)) ≡ false
      → behind (take i s) (until_sign stop refused e (drop i s))
      ≡ behind (take (i + 1) s) (until_sign stop refused (not e && (get_or s i 0 == 92)) (drop (i + 1) s))
  sign_more s i e l f g =
      step s i _ _ l
      (ap (until_sign stop refused e) (drop_more s i 0 l) ∙ plain_more e (get_or s i 0) (drop (i + 1) s) f g)

  pub sign_found : (s : List ℕ) (i : ℕ) (e : Bool) → i < length s → (not e && (get_or s i 0 == stop)) ≡ true
      → behind (take i s) (until_sign stop refused e (drop i s)) ≡ Some (around s i)
  sign_found s i true l f = absurd (cc)
  sign_found s i false l f =
      ap (λ t. behind (take i s) (until_sign stop refused false t)) (drop_more s i 0 l)
      ∙ (rw f (ap (λ (t : List ℕ). Some (record { front = t; rest = drop (i + 1) s })) (append-nil (take i s))))

  pub sign_refused : (s : List ℕ) (i : ℕ) (e : Bool) → i < length s
      → (not e && (get_or s i 0 == stop)) ≡ false
      → (not e && (get_or s i 0 == refused)) ≡ true
      → behind (take i s) (until_sign stop refused e (drop i s)) ≡ None
  sign_refused s i true l f g = absurd (cc)
  sign_refused s i false l f g =
      ap (λ t. behind (take i s) (until_sign stop refused false t)) (drop_more s i 0 l) ∙ (rw (f, g) refl)

  pub sign_missing : (s : List ℕ) (i : ℕ) (e : Bool) → length s ≤ i
      → behind (take i s) (until_sign stop refused e (drop i s)) ≡ None
  sign_missing s i e l = ap (λ t. behind (take i s) (until_sign stop refused e t)) (drop_all i s l)

  pub sign_same : (c : ℕ) (e : Bool) → (not e && (c == stop)) ≡ true → c ≡ stop
  sign_same c e f = let h = and_parts (not e) (c == stop) f in same h.1
    where
      same : (c == stop) ≡ true → c ≡ stop
      same q = grind (arith, nat_tests)

-- ---- bare destinations

bare_next : (depth : ℕ) (e : Bool) (c : ℕ) (s : List ℕ) → (not e && ends_bare depth c) ≡ false
    → bare depth e (c ∷ s)
    ≡ before_in_front c
    (bare (depth_after depth e c) (not e && ((c == 92) && begins_with_punctuation s)) s)
bare_next depth true c s f = refl
bare_next depth false c s f = rw f refl

pub bare_more : (s : List ℕ) (i depth : ℕ) (e : Bool) → i < length s
    → (not e && ends_bare depth (get_or s i 0)) ≡ false
    → behind (take i s) (bare depth e (drop i s))
    ≡ behind (take (i + 1) s)
    (bare (depth_after depth e (get_or s i 0))
    (not e && ((get_or s i 0 == 92) && begins_with_punctuation (drop (i + 1) s))) (drop (i + 1) s))
bare_more s i depth e l f =
    step s i _ _ l (ap (bare depth e) (drop_more s i 0 l) ∙ bare_next depth e (get_or s i 0) (drop (i + 1) s) f)

closed_behind : (s : List ℕ) (i depth : ℕ)
    → behind (take i s) (closed_bare depth (drop i s)) ≡ option_map (split s) (if_closed depth i)
closed_behind s i depth =
    test (depth == 0)
    (λ e. rw e (ap (λ (t : List ℕ). Some (record { front = t; rest = drop i s })) (append-nil (take i s))))
    (λ e. rw e refl)

pub bare_ends : (s : List ℕ) (i depth : ℕ) (e : Bool) → i < length s
    → (not e && ends_bare depth (get_or s i 0)) ≡ true
    → behind (take i s) (bare depth e (drop i s)) ≡ option_map (split s) (if_closed depth i)
bare_ends s i depth true l f = absurd (cc)
bare_ends s i depth false l f =
    ap (λ t. behind (take i s) (bare depth false t)) (drop_more s i 0 l)
    ∙ (rw f (ap (λ t. behind (take i s) (closed_bare depth t)) (sym (drop_more s i 0 l))))
    ∙ closed_behind s i depth

pub bare_whole : (s : List ℕ) (i depth : ℕ) (e : Bool) → length s ≤ i
    → behind (take i s) (bare depth e (drop i s)) ≡ option_map (split s) (if_closed depth i)
bare_whole s i depth e l =
    ap (λ t. behind (take i s) (bare depth e t)) (drop_all i s l)
    ∙ ap (λ t. behind (take i s) (closed_bare depth t)) (sym (drop_all i s l)) ∙ closed_behind s i depth

closed_place : (P : ℕ → Type 0) (depth i : ℕ) → P i → IfSome (if_closed depth i) P
closed_place P depth i p = test (depth == 0) (λ e. rw e p) (λ e. rw e tt)

bare_ascii : (depth c : ℕ) (e : Bool) → (not e && ends_bare depth c) ≡ true → c < 128
bare_ascii depth c true f = absurd (cc)
bare_ascii depth c false f = grind (arith, nat_tests)

pub bare_cut : (s : List ℕ) (i depth : ℕ) (e : Bool) → i < length s
    → (not e && ends_bare depth (get_or s i 0)) ≡ true
    → IfSome (if_closed depth i) (λ end. IsCharBoundary s end)
bare_cut s i depth e l f =
    closed_place (λ end. IsCharBoundary s end) depth i
    (IsCharBoundary-before_ascii s i l (bare_ascii depth (get_or s i 0) e f))

pub bare_cut_end : (s : List ℕ) (depth : ℕ) → IfSome (if_closed depth (length s)) (λ end. IsCharBoundary s end)
bare_cut_end s depth = closed_place (λ end. IsCharBoundary s end) depth (length s) (IsCharBoundary-end s)
