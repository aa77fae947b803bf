-- Containers that take a line.
use Rattle.std.proofs.Common.{◌≡◌, ◌∙◌, ℕ, ◌+◌, ◌<◌, ◌==◌, Bool, true, ◌&&◌, List, [], ◌∷◌, map}
use Rattle.std.proofs.Common.{length, drop, get_or, Some, None, refl, ap, sym, subst, arith}
use Rattle.std.proofs.lemmas.Str.{IsCharBoundary-after_ascii}
use Rattle.std.specs.Str.{IsUtf8, IsCharBoundary}
use Rattle.htmd_lexical.specs.CharacterClasses.{first_is}
use Rattle.htmd_commonmark_reader.proofs.BeginningsLemmas.{first_sign}
use Rattle.std.proofs.lemmas.Bool.Decides.{nat_tests}
use Rattle.std.proofs.lemmas.List.{drop_more}
use Rattle.htmd_commonmark_reading.specs.Boxes.{Container}
use Rattle.htmd_commonmark_reading.specs.Containers.{taken}
use Rattle.htmd_commonmark_reading.specs.Lines.{Line}
use Rattle.htmd_commonmark_reader.specs.ClosedParts.{kind_of}
use Rattle.htmd_commonmark_reader.specs.OpenBlocks.{passed, passed_one_more, passed_no_more, is_last}
use Rattle.htmd_commonmark_reader.specs.declared.closed.Container as declared

pub last_box : (ks : List declared.Container) → (length ks == 0) ≡ is_last (map kind_of ks)
last_box [] = refl
last_box (k ∷ ks) = grind (arith, nat_tests)

pub passed_some : (k : Container) (ks : List Container) (e flag : Bool) (l r : Line) → flag ≡ (is_last ks && e)
    → Some r ≡ taken k flag l → passed (k ∷ ks) e l ≡ passed_one_more (passed ks e r)
passed_some k ks e flag l r f g =
    let found : taken k (is_last ks && e) l ≡ Some r = ap (λ b. taken k b l) (sym f)
    ∙ sym g in rw (found, passed) refl

passed_none : (k : Container) (ks : List Container) (e flag : Bool) (l : Line) → flag ≡ (is_last ks && e)
    → None ≡ taken k flag l → passed (k ∷ ks) e l ≡ passed_no_more l
passed_none k ks e flag l f g =
    let found : taken k (is_last ks && e) l ≡ None = ap (λ b. taken k b l) (sym f)
    ∙ sym g in rw (found, passed) refl

-- the container at a place
module _ (ks : List declared.Container) (d : declared.Container) (i : ℕ) (within : i < length ks) (e flag : Bool)
    (l : Line) (f : flag ≡ (is_last (map kind_of (drop (i + 1) ks)) && e)) where
  here : map kind_of (drop i ks) ≡ kind_of (get_or ks i d) ∷ map kind_of (drop (i + 1) ks)
  here = ap (map kind_of) (drop_more ks i d within)

  pub takes : (r : Line) → Some r ≡ taken (kind_of (get_or ks i d)) flag l
      → passed (map kind_of (drop i ks)) e l ≡ passed_one_more (passed (map kind_of (drop (i + 1) ks)) e r)
  takes r g =
      ap (λ k. passed k e l) here
      ∙ passed_some (kind_of (get_or ks i d)) (map kind_of (drop (i + 1) ks)) e flag l r f g

  pub takes_none : None ≡ taken (kind_of (get_or ks i d)) flag l
      → passed (map kind_of (drop i ks)) e l ≡ passed_no_more l
  takes_none g =
      ap (λ k. passed k e l) here
      ∙ passed_none (kind_of (get_or ks i d)) (map kind_of (drop (i + 1) ks)) e flag l f g

-- after `>` a line may be cut
pub quote_cut : (text bytes : List ℕ) (b : Bool) → IsUtf8 bytes → bytes ≡ text → b ≡ first_is 62 bytes
    → b ≡ true
    → IsCharBoundary text 1
quote_cut text bytes b u e f g =
    let first : text ≡ 62 ∷ drop 1 text = first_sign 62 text (ap (first_is 62) (sym e) ∙ sym f ∙ g) in
    let size = ap length first in
    let some : 0 < length text = omega (arith, size) in
    let sign : get_or text 0 0 ≡ 62 = ap (λ t. get_or t 0 0) first in
    IsCharBoundary-after_ascii text 0 (subst IsUtf8 e u) some (omega (arith, sign))
