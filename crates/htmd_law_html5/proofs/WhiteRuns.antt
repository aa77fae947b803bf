-- The white space that a text begins with.
use Rattle.std.proofs.Common.{◌≡◌, ℕ, Bool, true, false, List, [], ◌∷◌, drop, refl, sym, ap}
use Rattle.std.specs.Prelude.{◌&&◌}
use Rattle.std.specs.List.{list_all}
use Rattle.std.proofs.lemmas.Bool.{true≢false, and_parts, cond_both, not-true}
use Rattle.htmd_lexical.specs.WhiteSpace.{is_ascii_white_space}
use Rattle.htmd_lexical.proofs.Cases.{test}
use Rattle.htmd_lexical.specs.Characters.{line_feed}
use Rattle.htmd_lexical.specs.CharacterClasses.{behind_run, first_is}
use Rattle.htmd_html5.specs.Feeding.{without_line_feed}
use Rattle.htmd_html5_state.specs.declared.modes.InsertionMode.{InsertionMode}
use Rattle.htmd_html5_state.specs.declared.modes.InsertionMode.TheVariants.{Initial}
use Rattle.htmd_html5.specs.Runs.{kind_of_byte, is_of_kind, first_kind, after_first_run, is_null}
use Rattle.htmd_law_html5.specs.TextKept.{is_before_head, without_white, is_no_null}
use Rattle.htmd_law_html5.proofs.RootedStacks.{is_late}

pub behind_twice : (p : ℕ → Bool) (s : List ℕ) → behind_run p (behind_run p s) ≡ behind_run p s
behind_twice p [] = refl
behind_twice p (b ∷ s) = test (p b) (λ t. rw t (behind_twice p s)) (λ t. rw t (rw t refl))

pub behind_white : (s : List ℕ) → first_kind s ≡ kind_of_byte 32 → after_first_run s
    ≡ behind_run is_ascii_white_space s
behind_white s e = ap (λ (kind : _). behind_run (is_of_kind kind) s) e

-- a text that begins with none
abbrev pub Dark : List ℕ → Type 0
Dark s = behind_run is_ascii_white_space s ≡ s

pub dark_whole : (s : List ℕ) → Dark s → (drops : Bool) → without_white drops s ≡ s
dark_whole s d true = d
dark_whole s d false = refl

dark_unless : (s : List ℕ) → (first_kind s ≡ kind_of_byte 32 → ⊥) → Dark s
dark_unless [] n = refl
dark_unless (b ∷ s) n = test (is_ascii_white_space b) (λ t. absurd (n (rw t refl))) (λ t. rw t refl)

pub dark_nulls : (s : List ℕ) → first_kind s ≡ kind_of_byte 0 → Dark s
dark_nulls s e = dark_unless s (λ f. cc)

pub dark_characters : (s : List ℕ) → first_kind s ≡ kind_of_byte 97 → Dark s
dark_characters s e = dark_unless s (λ f. cc)

-- ---- texts without U+0000

-- if none may come
abbrev pub Clean : Bool → List ℕ → Type 0
Clean nulls s = nulls ≡ false → list_all is_no_null s ≡ true

all_behind : (f p : ℕ → Bool) (s : List ℕ) → list_all f s ≡ true → list_all f (behind_run p s) ≡ true
all_behind f p [] e = refl
all_behind f p (b ∷ s) e =
    test (p b) (λ t. rw t (all_behind f p s (and_parts (f b) (list_all f s) e).1)) (λ t. rw t e)

pub clean_rest : (nulls : Bool) (s : List ℕ) → Clean nulls s → Clean nulls (after_first_run s)
clean_rest nulls s clean z = all_behind is_no_null (is_of_kind (first_kind s)) s (clean z)

all_dropped : (s : List ℕ) → list_all is_no_null s ≡ true → list_all is_no_null (drop 1 s) ≡ true
all_dropped [] e = refl
all_dropped (b ∷ s) e = (and_parts (is_no_null b) (list_all is_no_null s) e).1

pub clean_shortened : (nulls skips : Bool) (s : List ℕ) → Clean nulls s → Clean nulls (without_line_feed skips s)
clean_shortened nulls skips s clean z =
    cond_both (skips && first_is line_feed s) _ _ (λ (x : List ℕ). list_all is_no_null x ≡ true)
    (λ e. all_dropped s (clean z)) (λ e. clean z)

no_null_first : (s : List ℕ) → first_kind s ≡ kind_of_byte 0 → list_all is_no_null s ≡ true → ⊥
no_null_first [] e f = cc
no_null_first (b ∷ s) e f =
    let none = not-true (is_null b) (and_parts (is_no_null b) (list_all is_no_null s) f).0 in
    test (is_ascii_white_space b) (λ t. let g = rw t at e in cc) (λ t. let g = rw (t, none) at e in cc)

-- a text that begins with one
pub nulls_come : (nulls : Bool) (s : List ℕ) → Clean nulls s → first_kind s ≡ kind_of_byte 0 → nulls ≡ true
nulls_come true s clean e = refl
nulls_come false s clean e = absurd (no_null_first s e (clean refl))

-- ---- modes before the head

pub before_is_early : (mode : InsertionMode) → is_before_head mode ≡ true → is_late mode ≡ false
before_is_early Initial e = refl
before_is_early _ e = cc

pub late_is_after : (mode : InsertionMode) → is_late mode ≡ true → is_before_head mode ≡ false
late_is_after Initial e = absurd (true≢false (sym e))
late_is_after _ e = cc
