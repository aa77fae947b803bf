-- Addresses, titles and descriptions that a page gives as they are.
use Rattle.std.proofs.Common.{◌≡◌, ℕ, zero, suc, ◌+◌, ◌<◌, ◌-◌, Bool, true, false, cond, List, []}
use Rattle.std.proofs.Common.{◌∷◌, refl}
use Rattle.std.proofs.Common.{sym, ap, ◌∙◌, arith, length, take, drop, get_or, filter, encode_utf8_all, Option}
use Rattle.std.proofs.Common.{Some, None}
use Rattle.std.proofs.Common.{codes}
use Rattle.std.specs.List.{list_all, prefix_len, suffix_len}
use Rattle.std.specs.Option.{option_or}
use Rattle.std.specs.Option.{unwrap_or}
use Rattle.std.specs.Str.{chars, IsAscii}
use Rattle.std.proofs.lemmas.Bool.{and_parts}
use Rattle.std.proofs.lemmas.Bool.Decides.{nat_tests}
use Rattle.std.proofs.lemmas.List.Sums.{suffix_len_is}
use Rattle.std.proofs.lemmas.Str.{chars-IsAscii, encodes-chars, IsUtf8-from_ascii}
use Rattle.htmd_lexical.specs.AttributePairs.{AttributePair}
use Rattle.htmd_lexical.proofs.BytesLemmas.{same_bytes}
use Rattle.htmd_document.specs.NormalInlines.{is_title}
use Rattle.htmd_shown.specs.declared.role.Role.TheVariants as role
use Rattle.htmd_shown.specs.Attributes.{address, title_of, title_of_value, description_of, in_line, is_filled}
use Rattle.htmd_shown.specs.Attributes.{is_space_or_control, is_in_address}
use Rattle.htmd_shown.specs.Attributes.{text_of}
use Rattle.htmd_shown.specs.Images.{image_address, is_file}
use Rattle.htmd_shown.specs.Repeats.{is_copied}
use Rattle.htmd_shown.specs.Marks.{letters}
use Rattle.htmd_text.specs.Trims.{trimmed_text}
use Rattle.htmd_commonmark_reading.specs.Rendering.{stays_in_address}
use Rattle.htmd_law_rendering.specs.RenderedTrees.{encoded_address, pairs_of_image}
use Rattle.htmd_law_rendering.specs.RenderedTrees.{pairs_of_link}
use Rattle.htmd_law_returning.specs.SettledDocuments.{is_one_line, is_settled_title, is_settled_address}
use Rattle.htmd_law_returning.proofs.BareLemmas.{has_no_name}
use Rattle.htmd_law_returning.proofs.StartLemmas.{false-true}
use Rattle.htmd_document_of_tree.specs.Limits.{size, characters, title_text}

-- ---- addresses

low-byte : (b : ℕ) → stays_in_address b ≡ true → b < 128
low-byte b h = grind (arith, nat_tests, h)

black-byte : (b : ℕ) → stays_in_address b ≡ true → is_space_or_control b ≡ false
black-byte b h = grind (arith, nat_tests, h)

in-address : (b : ℕ) → is_space_or_control b ≡ false → is_in_address b ≡ true
in-address b h = grind (arith, nat_tests, h)

pub ascii-bytes : (s : List ℕ) → list_all stays_in_address s ≡ true → IsAscii s
ascii-bytes [] h i = omega arith
ascii-bytes (b ∷ s) h zero = low-byte b (and_parts (stays_in_address b) (list_all stays_in_address s) h).0
ascii-bytes (b ∷ s) h (suc i) = ascii-bytes s (and_parts (stays_in_address b) (list_all stays_in_address s) h).1 i

pub encoded-stays : (s : List ℕ) → is_settled_address s ≡ true → encoded_address s ≡ s
encoded-stays [] h = refl
encoded-stays (b ∷ s) h =
    let parts = and_parts (stays_in_address b) (list_all stays_in_address s) h in
    rw parts.0 (ap (λ x. b ∷ x) (encoded-stays s parts.1))

front-stays : (s : List ℕ) → list_all stays_in_address s ≡ true → prefix_len is_space_or_control s ≡ 0
front-stays [] h = refl
front-stays (b ∷ s) h =
    ap (λ c. cond c (1 + prefix_len is_space_or_control s) 0)
    (black-byte b (and_parts (stays_in_address b) (list_all stays_in_address s) h).0)

byte-at : (s : List ℕ) (k : ℕ) → list_all stays_in_address s ≡ true → k < length s
    → stays_in_address (get_or s k 0) ≡ true
byte-at [] k h l = absurd (omega (arith, l))
byte-at (b ∷ s) zero h l = (and_parts (stays_in_address b) (list_all stays_in_address s) h).0
byte-at (b ∷ s) (suc k) h l =
    byte-at s k (and_parts (stays_in_address b) (list_all stays_in_address s) h).1 (omega (arith, l))

end-stays : (s : List ℕ) → list_all stays_in_address s ≡ true → suffix_len is_space_or_control s ≡ 0
end-stays s h =
    suffix_len_is is_space_or_control s (length s) 0 (omega arith)
    (λ k from until. absurd (omega (arith, from, until)))
    (λ some. black-byte (get_or s (length s - 1) 0) (byte-at s (length s - 1) h (omega (arith, some))))
    ∙ omega arith

take-all : (s : List ℕ) → take (length s) s ≡ s
take-all [] = refl
take-all (b ∷ s) = ap (λ x. b ∷ x) (take-all s)

less-none : (n : ℕ) → n - 0 ≡ n
less-none n = omega arith

untrimmed : (s : List ℕ) → list_all stays_in_address s ≡ true → trimmed_text is_space_or_control s ≡ s
untrimmed s h =
    ap (λ n. take (length (drop n s) - suffix_len is_space_or_control (drop n s)) (drop n s)) (front-stays s h)
    ∙ (ap (λ n. take (length s - n) s) (end-stays s h)
    ∙ (ap (λ n. take n s) (less-none (length s)) ∙ take-all s))

all-in-address : (s : List ℕ) → list_all stays_in_address s ≡ true → filter is_in_address s ≡ s
all-in-address [] h = refl
all-in-address (b ∷ s) h =
    let parts = and_parts (stays_in_address b) (list_all stays_in_address s) h in
    ap (λ c. cond c (b ∷ filter is_in_address s) (filter is_in_address s)) (in-address b (black-byte b parts.0))
    ∙ ap (λ x. b ∷ x) (all-in-address s parts.1)

pub address-stays : (s : List ℕ) → is_settled_address s ≡ true → address s ≡ s
address-stays s h =
    let ascii : IsAscii s = ascii-bytes s h in
    ap (λ t. encode_utf8_all (filter is_in_address (chars t))) (untrimmed s h)
    ∙ (ap (λ t. encode_utf8_all (filter is_in_address t)) (chars-IsAscii s ascii)
    ∙ (ap encode_utf8_all (all-in-address s h)
    ∙ (ap encode_utf8_all (sym (chars-IsAscii s ascii)) ∙ encodes-chars s (IsUtf8-from_ascii s ascii))))

-- ---- titles

pub line-stays : (s : List ℕ) → is_one_line s ≡ true → in_line s ≡ s
line-stays s h = same_bytes (in_line s) s h

title-filled : (s : List ℕ) → is_title (Some s) ≡ true → is_filled s ≡ true
title-filled [] h = false-true (and_parts _ false h).1
title-filled (b ∷ s) h = grind (arith, nat_tests)

pub title-stays : (title : Option (List ℕ)) → is_title title ≡ true → is_settled_title title ≡ true
    → title_of_value title ≡ title
title-stays None n h = refl
title-stays (Some s) n h =
    ap (λ x. cond (is_filled x) (Some x) None) (line-stays s h)
    ∙ ap (λ b. cond b (Some s) None) (title-filled s n)

-- ---- images

-- none shows a formula again
pub image-fresh : (before : Option (List AttributePair)) (a : List ℕ) (title : Option (List ℕ)) (d : List ℕ)
    → is_copied before (pairs_of_image a title d) ≡ false
image-fresh None a title d = refl
image-fresh (Some b) a None d = refl
image-fresh (Some b) a (Some s) d = refl

pub image-nameless : (a : List ℕ) (title : Option (List ℕ)) (d : List ℕ)
    → has_no_name (pairs_of_image a title d) ≡ true
image-nameless a None d = refl
image-nameless a (Some s) d = refl

-- the address that counts is its own
pub own-address : (a : List ℕ) (title : Option (List ℕ)) (d : List ℕ)
    → image_address (pairs_of_image a title d) None ≡ Some (encoded_address a)
own-address a None d = either (is_file (encoded_address a))
  where
    either : (b : Bool)
        → option_or (option_or (cond b (Some (encoded_address a)) None) None) (Some (encoded_address a))
        ≡ Some (encoded_address a)
    either true = refl
    either false = refl
own-address a (Some s) d = either (is_file (encoded_address a))
  where
    either : (b : Bool)
        → option_or (option_or (cond b (Some (encoded_address a)) None) None) (Some (encoded_address a))
        ≡ Some (encoded_address a)
    either true = refl
    either false = refl

pub own-title : (a : List ℕ) (title : Option (List ℕ)) (d : List ℕ)
    → title_of (pairs_of_image a title d) ≡ title_of_value title
own-title a None d = refl
own-title a (Some s) d = refl

pub own-description : (a : List ℕ) (title : Option (List ℕ)) (d : List ℕ)
    → description_of (pairs_of_image a title d) ≡ in_line d
own-description a None d = refl
own-description a (Some s) d = refl

-- ---- links

pub link-fresh : (before : Option (List AttributePair)) (a : List ℕ) (title : Option (List ℕ))
    → is_copied before (pairs_of_link a title) ≡ false
link-fresh None a title = refl
link-fresh (Some b) a None = refl
link-fresh (Some b) a (Some s) = refl

pub link-nameless : (a : List ℕ) (title : Option (List ℕ)) → has_no_name (pairs_of_link a title) ≡ true
link-nameless a None = refl
link-nameless a (Some s) = refl

pub link-title : (a : List ℕ) (title : Option (List ℕ)) → title_of (pairs_of_link a title)
    ≡ title_of_value title
link-title a None = refl
link-title a (Some s) = refl

pub link-address : (a : List ℕ) → is_settled_address a ≡ true → address (encoded_address a) ≡ a
link-address a h = ap address (encoded-stays a h) ∙ address-stays a h

-- what an address and a title have of characters
pub link-size : (a : List ℕ) (title : Option (List ℕ)) → is_settled_address a ≡ true → is_title title ≡ true
    → is_settled_title title ≡ true
    → size role.Link (pairs_of_link a title) ≡ characters a + characters (unwrap_or title [])
link-size a title h n e =
    ap (λ s. characters s + characters (title_text (pairs_of_link a title))) (link-address a h)
    ∙ ap (λ t. characters a + characters (unwrap_or t [])) (link-title a title ∙ title-stays title n e)

-- ---- what is seen of an image

pub image-letters : (a : List ℕ) (title : Option (List ℕ)) (d : List ℕ)
    → letters (text_of (codes "alt") (pairs_of_image a title d)) ≡ letters d
image-letters a None d = refl
image-letters a (Some s) d = refl
