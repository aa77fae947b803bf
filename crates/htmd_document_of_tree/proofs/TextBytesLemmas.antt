-- Lemmas on the bytes of texts, which bound a budget from below.
use Rattle.std.proofs.Common.{◌≡◌, ℕ, ◌+◌, ◌*◌, ◌≤◌, ◌<◌, Bool, true, false, cond, List, [], ◌∷◌, length, encode_utf8_all}
use Rattle.std.proofs.Common.{suc, sym, ap, subst, drop, map, get_or, add-one, arith}
use Rattle.std.specs.Char.{encode_utf8}
use Rattle.std.specs.Str.{chars, IsUtf8}
use Rattle.std.proofs.lemmas.List.{length-append}
use Rattle.std.proofs.lemmas.Str.{encodes-chars, len_utf8_bounds, length-encode}
use Rattle.htmd_lexical.specs.AttributePairs.{AttributePair}
use Rattle.htmd_shown.specs.Roles.{is_among}
use Rattle.htmd_shown.specs.declared.role.Role.{Role}
use Rattle.htmd_shown.specs.SimpleTrees.{Simple, text, image, formula, embedded, anchor, element, Simples, none, more, simples_of}
use Rattle.htmd_document_of_tree.specs.Limits.{Written, written, written_all, with_pair, with_element, nothing_written}
use Rattle.htmd_document_of_tree.specs.Limits.{pair_of, is_carrying, size, budget, always_written, characters}
use Rattle.htmd_document_of_tree.specs.WrittenViews.{text_characters, all_text_characters}
use Rattle.htmd_document_of_tree.proofs.WalksLemmas.{gone, drop-item, drop-end}

-- ---- characters have at most four bytes

pub encoded_le : (c : ℕ) → length (encode_utf8 c) ≤ 4
encoded_le c = omega (arith, length-encode c, (len_utf8_bounds c).1)

pub encodes_le : (cs : List ℕ) → length (encode_utf8_all cs) ≤ 4 * length cs
encodes_le [] = omega arith
encodes_le (c ∷ cs) = omega (arith, encodes_le cs, encoded_le c, length-append (encode_utf8 c) (encode_utf8_all cs))

pub text_le : (s shown : List ℕ) → IsUtf8 s → shown ≡ s → length s ≤ 4 * characters shown
text_le s shown u e =
    subst (λ t. length s ≤ 4 * characters t) (sym e)
    (omega (arith, encodes_le (chars s), ap length (encodes-chars s u)))

-- ---- nodes one after the other

-- so much, and four times the characters of a node's texts
abbrev pub added : ℕ → Simple → ℕ
added n tree = n + 4 * text_characters tree

gone-le : (m n : ℕ) (ts : List Simple) → m ≤ n → gone added m ts ≤ gone added n ts
gone-le m n [] h = h
gone-le m n (t ∷ ts) h = gone-le (added m t) (added n t) ts (omega (arith, h))

gone-added : (n : ℕ) (ts : List Simple) → gone added n ts ≡ n + 4 * all_text_characters (simples_of ts)
gone-added n [] = omega arith
gone-added n (t ∷ ts) =
    let rest : gone added (added n t) ts ≡ added n t + 4 * all_text_characters (simples_of ts) =
    gone-added (added n t) ts in
    omega (arith, rest)

pub one-more : {X : Type 0} (view : X → Simple) (xs : List X) (i : ℕ) (x : X) (count now whole : ℕ)
    → i < length xs → x ≡ get_or xs i x → now ≤ added count (view x)
    → gone added count (drop i (map view xs)) ≤ whole → gone added now (drop (i + 1) (map view xs)) ≤ whole
one-more view xs i x count now whole l e bound h =
    let rest : List Simple = drop (suc i) (map view xs) in
    let step : gone added (added count (view x)) rest ≤ whole =
    subst (λ ts. gone added count ts ≤ whole) (drop-item view xs i x l e) h in
    rw add-one (omega (arith, step, gone-le now (added count (view x)) rest bound))

-- the rest adds to it
pub at-once : {X : Type 0} (view : X → Simple) (xs : List X) (i count start : ℕ)
    → gone added count (drop i (map view xs)) ≤ gone added start (map view xs)
    → count ≤ start + 4 * all_text_characters (simples_of (map view xs))
at-once view xs i count start h =
    omega (arith, h, gone-added start (map view xs), gone-added count (drop i (map view xs)))

pub at-end : {X : Type 0} (view : X → Simple) (xs : List X) (i count start : ℕ) → length xs ≤ i
    → gone added count (drop i (map view xs)) ≤ gone added start (map view xs)
    → count ≤ start + 4 * all_text_characters (simples_of (map view xs))
at-end view xs i count start l h =
    let end : count ≤ gone added start (map view xs) =
    subst (λ ts. gone added count ts ≤ gone added start (map view xs)) (drop-end view xs i l) h in
    omega (arith, end, gone-added start (map view xs))

-- ---- the budget

pair-more : (w : Written) (role : Role) (attributes : List AttributePair)
    → w.count ≤ (with_pair w role attributes).count
pair-more w role attributes = by (is_among w.pairs (pair_of role attributes))
  where
    by : (b : Bool)
        → w.count ≤ (cond b w (record {
          count = w.count + size role attributes;
          pairs = pair_of role attributes ∷ w.pairs;
        })).count
    by true = omega arith
    by false = omega arith

element-more : (w : Written) (role : Role) (attributes : List AttributePair)
    → w.count ≤ (with_element w role attributes).count
element-more w role attributes = by (is_carrying role)
  where
    by : (b : Bool) → w.count ≤ (cond b (with_pair w role attributes) w).count
    by true = pair-more w role attributes
    by false = omega arith

mutual
  written-more : (w : Written) (t : Simple) → w.count + text_characters t ≤ (written w t).count
  written-more w (text s) = omega arith
  written-more w (image address attributes) = omega arith
  written-more w (formula tex is_alone attributes) = omega arith
  written-more w (embedded id address title attributes anchors) = omega arith
  written-more w (anchor id) = omega arith
  written-more w (element id role facts attributes content) =
      omega (arith, all-written-more (with_element w role attributes) content, element-more w role attributes)

  all-written-more : (w : Written) (ts : Simples) → w.count + all_text_characters ts ≤ (written_all w ts).count
  all-written-more w none = omega arith
  all-written-more w (more t ts) = omega (arith, written-more w t, all-written-more (written w t) ts)

pub least : (ts : Simples) (n : ℕ) → n ≤ 4 * (4 * all_text_characters ts) + always_written → n ≤ budget ts
least ts n h = omega (arith, h, all-written-more nothing_written ts)
