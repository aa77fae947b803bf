-- Quotes among containers, and what takes an empty line.
use Rattle.std.proofs.Common.{◌≡◌, ◌∙◌, ℕ, zero, suc, ◌+◌, ◌-◌, ◌<◌, ◌≤◌, Bool, true, false, ◌&&◌, List, [], ◌∷◌, ◌++◌}
use Rattle.std.proofs.Common.{map, length, take, drop, get_or, Some, refl, ap, subst, sym, arith, not}
use Rattle.std.specs.Prelude.{◌==◌}
use Rattle.std.proofs.lemmas.Bool.{and_parts, eqb-true}
use Rattle.std.proofs.lemmas.List.{drop_more, length-map}
use Rattle.htmd_lexical.specs.CharacterClasses.{is_empty}
use Rattle.htmd_commonmark_reading.specs.Boxes.{Container, quoting, listing}
use Rattle.htmd_commonmark_reading.specs.Lines.{Line, line, cut}
use Rattle.htmd_commonmark_reader.specs.ClosedParts.{kind_of}
use Rattle.htmd_commonmark_reader.specs.OpenBlocks.{passed, passed_one_more, is_last}
use Rattle.htmd_commonmark_reader.specs.Quotes.{quote_count}
use Rattle.htmd_commonmark_reader.specs.declared.closed.Container as declared
use Rattle.htmd_commonmark_reader.proofs.ContainersLemmas.{passed_some}

-- ---- so many quotes

quotes_first : (k : Container) (ks : List Container)
    → quote_count (k ∷ ks) ≡ quote_count (k ∷ []) + quote_count ks
quotes_first quoting ks = omega arith
quotes_first (listing sign number columns) ks = omega arith

pub quotes_behind : (ks ls : List Container) → quote_count (ks ++ ls) ≡ quote_count ks + quote_count ls
quotes_behind [] ls = omega arith
quotes_behind (quoting ∷ ks) ls = omega (arith, quotes_behind ks ls)
quotes_behind (listing sign number columns ∷ ks) ls = omega (arith, quotes_behind ks ls)

quotes_within : (ks : List Container) → quote_count ks ≤ length ks
quotes_within [] = omega arith
quotes_within (quoting ∷ ks) = omega (arith, quotes_within ks)
quotes_within (listing sign number columns ∷ ks) = omega (arith, quotes_within ks)

pub few_quotes : (ks : List declared.Container) → quote_count (map kind_of ks) ≤ length ks
few_quotes ks = omega (arith, quotes_within (map kind_of ks), length-map ks kind_of)

pub quotes_split : (d : ℕ) (ks : List declared.Container)
    → quote_count (map kind_of ks) ≡ quote_count (map kind_of (take d ks)) + quote_count (map kind_of (drop d ks))
quotes_split zero ks = omega arith
quotes_split (suc d) [] = omega arith
quotes_split (suc d) (k ∷ ks) = omega (
  arith,
  quotes_split d ks,
  quotes_first (kind_of k) (map kind_of ks),
  quotes_first (kind_of k) (map kind_of (take d ks)),
)

-- the container at a place, and those behind it
module _ (ks : List declared.Container) (d : declared.Container) (i q : ℕ) (within : i < length ks)
    (one : q ≡ quote_count (kind_of (get_or ks i d) ∷ [])) where
  quotes_here : quote_count (map kind_of (drop i ks)) ≡ q + quote_count (map kind_of (drop (i + 1) ks))
  quotes_here =
      ap (λ l. quote_count (map kind_of l)) (drop_more ks i d within)
      ∙ quotes_first (kind_of (get_or ks i d)) (map kind_of (drop (i + 1) ks))
      ∙ ap (λ n. n + quote_count (map kind_of (drop (i + 1) ks))) (sym one)

  pub quotes_left : (left : ℕ) → left ≡ quote_count (map kind_of (drop i ks))
      → (q ≤ left) × (left - q ≡ quote_count (map kind_of (drop (i + 1) ks)))
  quotes_left left e = (omega (arith, e, quotes_here), omega (arith, e, quotes_here))

  pub quotes_counted : (n : ℕ) → n + quote_count (map kind_of (drop i ks)) ≡ quote_count (map kind_of ks)
      → (n + q ≤ length ks)
      × (n + q + quote_count (map kind_of (drop (i + 1) ks)) ≡ quote_count (map kind_of ks))
  quotes_counted n e = (omega (arith, e, quotes_here, few_quotes ks), omega (arith, e, quotes_here))

-- ---- an empty line

cut_none : (n k : ℕ) → cut n (line k []) ≡ line k []
cut_none zero k = refl
cut_none (suc n) k = refl

and_false : (b : Bool) → (b && false) ≡ false
and_false true = refl
and_false false = refl

items_pass : (ks : List Container) (k : ℕ) → quote_count ks ≡ 0
    → passed ks false (line k []) ≡ record { count = length ks; rest = line k [] }
items_pass [] k e = refl
items_pass (quoting ∷ ks) k e = absurd (omega (arith, e))
items_pass (listing sign number columns ∷ ks) k e =
    passed_some (listing sign number columns) ks false false (line k []) (line k []) (sym (and_false (is_last ks)))
    (sym (ap Some (cut_none columns k)))
    ∙ ap passed_one_more (items_pass ks k e)

-- items take it
pub all_pass : (ks : List Container) (left : ℕ) (e : Bool) (l : Line) → left ≡ quote_count ks
    → ((left == 0) && not e && is_empty l.text) ≡ true → passed ks e l ≡ record { count = length ks; rest = l }
all_pass ks left true l q h =
    let f = and_parts (left == 0) false (and_parts ((left == 0) && false) (is_empty l.text) h).0 in
    absurd (false_true f.1)
  where
    false_true : false ≡ true → ⊥
    false_true e = absurd (cc)
all_pass ks left false l q h =
    let f = and_parts ((left == 0) && true) (is_empty l.text) h in
    let none : quote_count ks ≡ 0 = sym q ∙ eqb-true left 0 (and_parts (left == 0) true f.0).0 in
    go l.text refl f.1 none
  where
    go : (t : List ℕ) → l.text ≡ t → is_empty t ≡ true → quote_count ks ≡ 0
        → passed ks false l ≡ record { count = length ks; rest = l }
    go [] e z none =
        let same : l ≡ line l.column [] = ap (line l.column) e in
        subst (λ x. passed ks false x ≡ record { count = length ks; rest = x }) (sym same)
        (items_pass ks l.column none)
    go (c ∷ t) e z none = absurd (cc)
