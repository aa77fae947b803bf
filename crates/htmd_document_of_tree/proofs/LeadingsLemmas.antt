-- Lemmas on where links lead.
use Rattle.std.proofs.Common.{◌≡◌, ℕ, ◌+◌, ◌*◌, ◌<◌, ◌≤◌, Bool, true, false, cond, not, ◌||◌, ◌&&◌, nat_le, nat_lt, min, max}
use Rattle.std.proofs.Common.{List, [], ◌∷◌, ◌++◌, length, map, drop, get_or, Option, Some, None, is_some, refl, ap, sym, ◌∙◌}
use Rattle.std.proofs.Common.{add-one, arith}
use Rattle.std.specs.Char.{digit_value, is_digit}
use Rattle.std.specs.List.{list_any}
use Rattle.std.specs.Option.{unwrap_or}
use Rattle.std.specs.Str.{IsUtf8}
use Rattle.std.specs.Str.Lossy.{utf8_lossy}
use Rattle.std.proofs.lemmas.Bool.{or_parts}
use Rattle.std.proofs.lemmas.Str.{utf8_lossy-IsUtf8}
use Rattle.percent_encoding.specs.Percent.{percent_decode, percent_sign}
use Rattle.std.proofs.lemmas.Bool.Decides.{nat_tests}
use Rattle.htmd_lexical.proofs.BytesLemmas.{same_bytes}
use Rattle.std.specs.Prelude.{◌≢◌, ◌==◌}
use Rattle.htmd_lexical.specs.Characters.{number_sign}
use Rattle.htmd_shown.specs.Attributes.{address, is_filled, is_to_part}
use Rattle.htmd_shown.specs.Attributes as attributes
use Rattle.htmd_document_of_tree.specs.declared.leadings.Leadings.{Leadings}
use Rattle.htmd_document_of_tree.specs.LeadingViews.{is_in_span, leads_elsewhere, span_to}
use Rattle.htmd_lexical.specs.AttributePairs.{AttributePair}
use Rattle.htmd_shown.specs.Roles.{is_link, is_verbatim}
use Rattle.htmd_shown.specs.declared.facts.Facts.{Facts}
use Rattle.htmd_shown.specs.declared.role.Role.{Role}
use Rattle.htmd_shown.specs.declared.role.Role.TheVariants as role
use Rattle.htmd_document_of_tree.specs.Leadings.{is_in, is_led_to, leading_to, leadings_to, around_in, heading_in, is_written}
use Rattle.htmd_document_of_tree.specs.Leadings.{layout_in, leadings_if, leadings_inside, leadings_of_element, own_leadings}
use Rattle.htmd_document_of_tree.specs.Leadings.{shows_in_link, is_linked_in}
use Rattle.htmd_shown.specs.Showings.{code_shows}
use Rattle.htmd_document_of_tree.specs.Seen.{leaf_shows}
use Rattle.std.specs.Str.{bytes_eq, chars}
use Rattle.htmd_lexical.proofs.Cases.{test}
use Rattle.htmd_shown.specs.declared.simple.Simple as code
use Rattle.htmd_shown.specs.SimpleTrees.{Simple, text, image, formula, embedded, anchor, element, Simples, simples_of}
use Rattle.htmd_shown.specs.SimpleViews.{simple_of}
use Rattle.htmd_document_of_tree.specs.declared.leadings.Around.{Around}
use Rattle.htmd_document_of_tree.specs.declared.leadings.Layout.{Layout}
use Rattle.htmd_document_of_tree.specs.declared.leadings.Span.{Span}
use Rattle.htmd_document_of_tree.specs.LeadingViews.{in_both, merged, span_of}
use Rattle.htmd_document_of_tree.specs.Leadings.{Leading, after, has_leaf, have_leaf, is_flat, is_linked_to, leadings}
use Rattle.htmd_document_of_tree.specs.Leadings.{leadings_among, leads_to_part, lead_to_part}
use Rattle.htmd_document_of_tree.proofs.WalksLemmas.{drop-item, drop-end}

pub merged-append : (known : Option Span) (s : List ℕ) (xs ys : List Leading)
    → merged known s (xs ++ ys) ≡ merged (merged known s xs) s ys
merged-append known s [] ys = refl
merged-append known s (l ∷ xs) ys =
    merged-append (cond (bytes_eq l.to s) (Some (in_both known (span_of l.heading))) known) s xs ys

-- ---- a value that is led to twice

abbrev made : ℕ → ℕ → Span
made from until = record { from = from; until = until }

both_twice : (known : Option Span) (span : Span) → in_both (Some (in_both known span)) span ≡ in_both known span
both_twice None span =
    let from : max span.from span.from ≡ span.from = omega arith in
    let until : min span.until span.until ≡ span.until = omega arith in
    ap (λ n. made n (min span.until span.until)) from ∙ ap (made span.from) until
both_twice (Some known) span =
    let from : max (max known.from span.from) span.from ≡ max known.from span.from = omega arith in
    let until : min (min known.until span.until) span.until ≡ min known.until span.until = omega arith in
    ap (λ n. made n (min (min known.until span.until) span.until)) from ∙ ap (made (max known.from span.from)) until

pub merged-twice : (known : Option Span) (s : List ℕ) (heading : Option Span) (value : List ℕ)
    → merged known s (leading_to heading value ++ leading_to heading value)
    ≡ merged known s (leading_to heading value)
merged-twice known s heading value = by (is_filled value)
  where
    led : Bool → List Leading
    led filled = cond filled (record { to = value; heading = heading } ∷ []) []

    twice : (is : Bool)
        → cond is (Some (in_both (cond is (Some (in_both known (span_of heading))) known) (span_of heading)))
        (cond is (Some (in_both known (span_of heading))) known)
        ≡ cond is (Some (in_both known (span_of heading))) known
    twice true = ap (λ span. Some span) (both_twice known (span_of heading))
    twice false = refl

    by : (filled : Bool) → merged known s (led filled ++ led filled) ≡ merged known s (led filled)
    by true = twice (bytes_eq value s)
    by false = refl

-- what has no percent sign is decoded to itself
decoded_bytes : (s : List ℕ) → list_any (λ b. b == percent_sign) s ≡ false → percent_decode s ≡ s
unfolding percent_decode
decoded_bytes [] none = refl
decoded_bytes (b ∷ []) none = refl
decoded_bytes (b ∷ c ∷ []) none = refl
decoded_bytes (b ∷ high ∷ low ∷ rest) none =
    let parts = or_parts (b == percent_sign) (list_any (λ c. c == percent_sign) (high ∷ low ∷ rest)) none in
    ap (λ is. cond (is && is_digit high 16 && is_digit low 16)
    ((16 * digit_value high + digit_value low) ∷ percent_decode rest) (b ∷ percent_decode (high ∷ low ∷ rest)))
    parts.0
    ∙ ap (λ l. b ∷ l) (decoded_bytes (high ∷ low ∷ rest) parts.1)

pub decoded_plain : (s : List ℕ) → IsUtf8 s → list_any (λ b. b == percent_sign) s ≡ false
    → utf8_lossy (percent_decode s) ≡ s
decoded_plain s u none = ap utf8_lossy (decoded_bytes s none) ∙ utf8_lossy-IsUtf8 s u

-- ---- from an element on

abbrev pub leaf-from : Bool → Bool → Layout → List code.Simple → ℕ → Bool
leaf-from is_rich to_part beside zs i = have_leaf is_rich to_part beside (simples_of (drop i (map simple_of zs)))

pub leaf-drop : (is_rich to_part : Bool) (beside : Layout) (zs : List code.Simple) (i : ℕ) (x : code.Simple)
    → i < length zs
    → x ≡ get_or zs i x
    → leaf-from is_rich to_part beside zs i
    ≡ (has_leaf is_rich to_part (is_flat beside (simple_of x)) (simple_of x)
    || leaf-from is_rich to_part beside zs (i + 1))
leaf-drop is_rich to_part beside zs i x h is =
    rw add-one (ap (λ vs. have_leaf is_rich to_part beside (simples_of vs)) (drop-item simple_of zs i x h is))

pub leaf-end : (is_rich to_part : Bool) (beside : Layout) (zs : List code.Simple) (i : ℕ) → length zs ≤ i
    → leaf-from is_rich to_part beside zs i ≡ false
leaf-end is_rich to_part beside zs i h =
    ap (λ vs. have_leaf is_rich to_part beside (simples_of vs)) (drop-end simple_of zs i h)

abbrev pub part-from : List code.Simple → ℕ → Bool
part-from zs i = lead_to_part (simples_of (drop i (map simple_of zs)))

pub part-drop : (zs : List code.Simple) (i : ℕ) (x : code.Simple) → i < length zs → x ≡ get_or zs i x
    → part-from zs i ≡ (leads_to_part (simple_of x) || part-from zs (i + 1))
part-drop zs i x h is = rw add-one (ap (λ vs. lead_to_part (simples_of vs)) (drop-item simple_of zs i x h is))

pub part-end : (zs : List code.Simple) (i : ℕ) → length zs ≤ i → part-from zs i ≡ false
part-end zs i h = ap (λ vs. lead_to_part (simples_of vs)) (drop-end simple_of zs i h)

-- what the links in the nodes from an element on lead to
abbrev pub leadings-from : Around → Layout → List code.Simple → ℕ → List Leading
leadings-from around beside zs i = leadings_among around beside (simples_of (drop i (map simple_of zs)))

pub leadings-drop : (around : Around) (beside : Layout) (zs : List code.Simple) (i : ℕ) (x : code.Simple)
    → i < length zs → x ≡ get_or zs i x
    → leadings-from around beside zs i
    ≡ leadings around (is_flat beside (simple_of x)) (simple_of x)
    ++ leadings-from (after around (simple_of x)) beside zs (i + 1)
leadings-drop around beside zs i x h is =
    rw add-one (ap (λ vs. leadings_among around beside (simples_of vs)) (drop-item simple_of zs i x h is))

pub leadings-end : (around : Around) (beside : Layout) (zs : List code.Simple) (i : ℕ) → length zs ≤ i
    → leadings-from around beside zs i ≡ []
leadings-end around beside zs i h =
    ap (λ vs. leadings_among around beside (simples_of vs)) (drop-end simple_of zs i h)

-- ---- addresses

-- what leads there by its attribute does by its address
pub part_of_value : (v : Option (List ℕ)) → attributes.leads_to_part v ≡ is_to_part (address (unwrap_or v []))
unfolding chars
part_of_value None = refl
part_of_value (Some s) = refl

pub no_part : (s : List ℕ) → ((rest : List ℕ) → s ≢ number_sign ∷ rest) → is_to_part s ≡ false
no_part [] h = refl
no_part (b ∷ s) h = test (b == number_sign)
    (λ e.
    let same : b ≡ number_sign = grind (arith, nat_tests, e) in
    absurd (h s (ap (λ x. x ∷ s) same)))
    (λ e. e)

pub part_led : (heading : Option Span) (s rest : List ℕ) → s ≡ number_sign ∷ rest
    → cond (is_to_part s) (leadings_to heading (drop 1 s)) [] ≡ leadings_to heading rest
part_led heading s rest e = ap (λ x. cond (is_to_part x) (leadings_to heading (drop 1 x)) []) e

pub written-among : (linked link shows : Bool)
    → (linked || ((link && not linked) && shows)) ≡ (linked || (link && shows))
written-among true link shows = refl
written-among false true shows = refl
written-among false false shows = refl

pub written-own : (linked link shows : Bool) → ((link && not linked) && shows) ≡ (not linked && (link && shows))
written-own true true shows = refl
written-own true false shows = refl
written-own false true shows = refl
written-own false false shows = refl

-- ---- one more value

pub noted : (old new : Leadings) (value : List ℕ) (heading : Option Span)
    → ((s : List ℕ) → span_to new s
    ≡ cond (bytes_eq value s) (Some (in_both (span_to old value) (span_of heading))) (span_to old s))
    → is_filled value ≡ true → (s : List ℕ)
    → span_to new s ≡ merged (span_to old s) s (leading_to heading value)
noted old new value heading updates filled s =
    let one : leading_to heading value ≡ record { to = value; heading = heading } ∷ [] =
    ap (λ b. cond b (record { to = value; heading = heading } ∷ []) []) filled in
    updates s ∙ (test (bytes_eq value s)
    (λ h.
    ap (λ b. cond b (Some (in_both (span_to old value) (span_of heading))) (span_to old s)) h
    ∙ (ap (λ v. Some (in_both (span_to old v) (span_of heading))) (same_bytes value s h)
    ∙ sym (ap (λ b. cond b (Some (in_both (span_to old s) (span_of heading))) (span_to old s)) h)))
    (λ h.
    ap (λ b. cond b (Some (in_both (span_to old value) (span_of heading))) (span_to old s)) h
    ∙ sym (ap (λ b. cond b (Some (in_both (span_to old s) (span_of heading))) (span_to old s)) h))
    ∙ sym (ap (λ found. merged (span_to old s) s found) one))

-- ---- which values links lead to

some-merged : (span : Span) (s : List ℕ) (found : List Leading) → is_some (merged (Some span) s found) ≡ true
some-merged span s [] = refl
some-merged span s (l ∷ found) = test (bytes_eq l.to s)
    (λ h. ap (λ b. is_some (merged (cond b (Some (in_both (Some span) (span_of l.heading))) (Some span)) s found)) h
    ∙ some-merged (in_both (Some span) (span_of l.heading)) s found)
    (λ h. ap (λ b. is_some (merged (cond b (Some (in_both (Some span) (span_of l.heading))) (Some span)) s found)) h
    ∙ some-merged span s found)

pub is-linked : (s : List ℕ) (found : List Leading) → is_some (merged None s found) ≡ is_linked_to found s
is-linked s [] = refl
is-linked s (l ∷ found) = test (bytes_eq l.to s)
    (λ h. ap (λ b. is_some (merged (cond b (Some (span_of l.heading)) None) s found)) h
    ∙ (some-merged (span_of l.heading) s found ∙ sym (ap (λ b. b || is_linked_to found s) h)))
    (λ h. ap (λ b. is_some (merged (cond b (Some (span_of l.heading)) None) s found)) h
    ∙ (is-linked s found ∙ sym (ap (λ b. b || is_linked_to found s) h)))

-- a thing to see stands in both spans, or not in one of them
in-both-numbers : (n from until others end : ℕ)
    → not (nat_le (max from others) n && nat_lt n (min until end))
    ≡ (not (nat_le from n && nat_lt n until) || not (nat_le others n && nat_lt n end))
in-both-numbers n from until others end =
    test (nat_le from n)
    (λ a. test (nat_lt n until)
    (λ b. test (nat_le others n)
    (λ c. test (nat_lt n end)
    (λ d. grind (arith, nat_tests, a, b, c, d))
    (λ d. grind (arith, nat_tests, a, b, c, d)))
    (λ c. grind (arith, nat_tests, a, b, c)))
    (λ b. grind (arith, nat_tests, a, b)))
    (λ a. grind (arith, nat_tests, a))

in-both-test : (a b : Span) (n : ℕ) → not (is_in_span (in_both (Some a) b) n)
    ≡ (not (is_in_span a n) || not (is_in_span b n))
in-both-test a b n = in-both-numbers n a.from a.until b.from b.until

and-false : (a b : Bool) → b ≡ false → false ≡ (a && b)
and-false true b e = sym e
and-false false b e = refl

none-in : (heading : Option Span) (n : ℕ) → is_in heading n ≡ is_in_span (span_of heading) n
none-in None n = let e : nat_lt n 0 ≡ false = grind (arith, nat_tests) in and-false (nat_le 0 n) (nat_lt n 0) e
none-in (Some span) n = refl

or-false : (a : Bool) → a ≡ (a || false)
or-false true = refl
or-false false = refl

or-assoc : (a b c : Bool) → ((a || b) || c) ≡ (a || (b || c))
or-assoc true b c = refl
or-assoc false b c = refl

led-more : (span : Span) (s : List ℕ) (n : ℕ) (found : List Leading)
    → leads_elsewhere (merged (Some span) s found) n ≡ (not (is_in_span span n) || is_led_to found s n)
led-more span s n [] = or-false (not (is_in_span span n))
led-more span s n (l ∷ found) =
    let both = in_both (Some span) (span_of l.heading) in
    let rest = is_led_to found s n in
    let here = not (is_in_span span n) in
    test (bytes_eq l.to s)
    (λ h. ap (λ b. leads_elsewhere (merged (cond b (Some both) (Some span)) s found) n) h
    ∙ (led-more both s n found
    ∙ (ap (λ b. b || rest) (in-both-test span (span_of l.heading) n)
    ∙ (or-assoc here (not (is_in_span (span_of l.heading) n)) rest
    ∙ (ap (λ b. here || (not b || rest)) (sym (none-in l.heading n))
    ∙ sym (ap (λ b. here || ((b && not (is_in l.heading n)) || rest)) h))))))
    (λ h. ap (λ b. leads_elsewhere (merged (cond b (Some both) (Some span)) s found) n) h
    ∙ (led-more span s n found ∙ sym (ap (λ b. here || ((b && not (is_in l.heading n)) || rest)) h)))

pub is-led : (s : List ℕ) (n : ℕ) (found : List Leading)
    → leads_elsewhere (merged None s found) n ≡ is_led_to found s n
is-led s n [] = refl
is-led s n (l ∷ found) =
    let rest = is_led_to found s n in
    test (bytes_eq l.to s)
    (λ h. ap (λ b. leads_elsewhere (merged (cond b (Some (span_of l.heading)) None) s found) n) h
    ∙ (led-more (span_of l.heading) s n found
    ∙ (ap (λ b. not b || rest) (sym (none-in l.heading n))
    ∙ sym (ap (λ b. (b && not (is_in l.heading n)) || rest) h))))
    (λ h. ap (λ b. leads_elsewhere (merged (cond b (Some (span_of l.heading)) None) s found) n) h
    ∙ (is-led s n found ∙ sym (ap (λ b. (b && not (is_in l.heading n)) || rest) h)))

-- ---- an element

-- a title is no link
written-in : (around : Around) (flat : Bool) (role : Role) (content : Simples) (shows : Bool)
    → (is_linked_in around flat role content || ((is_link role && not around.is_linked) && shows))
    ≡ (is_linked_in around flat role content || (is_link role && shows))
written-in around flat role.Link content shows =
    ap (λ b. b || ((true && not around.is_linked) && shows)) (still around.is_linked flat)
    ∙ (written-among around.is_linked true shows ∙ ap (λ b. b || shows) (sym (still around.is_linked flat)))
  where
    still : (linked flat : Bool) → (linked && (flat || true)) ≡ linked
    still true true = refl
    still true false = refl
    still false flat = refl
written-in around flat r content shows = refl

module _ (around : Around) (flat : Bool) (role : Role) (attributes : List AttributePair) (content : Simples)
    (layout : Layout) (heading : Option Span) (written : Bool) (inner : Around)
    (layout_is : layout ≡ layout_in around.is_rich flat role content)
    (heading_is : heading ≡ heading_in around.heading around.seen role content)
    (written_is : written ≡ ((is_link role && not around.is_linked) && shows_in_link around.is_rich layout attributes
    content))
    (inner_is : inner ≡ record {
      seen = around.seen;
      heading = heading;
      is_linked = is_linked_in around flat role content || written;
      is_rich = around.is_rich;
    })
  where
    own-led : leadings_if ((is_link role && not around.is_linked) && shows_in_link around.is_rich layout attributes
        content) heading
        attributes ≡ own_leadings around (is_written around.is_rich flat role attributes content) role attributes
        content
    own-led =
        let linked = around.is_linked in
        let link = is_link role in
        ap (λ b. leadings_if b heading attributes)
        (written-own linked link (shows_in_link around.is_rich layout attributes content))
        ∙ (ap (λ h. leadings_if (not linked && (link && shows_in_link around.is_rich layout attributes content)) h
        attributes)
        heading_is
        ∙ ap (λ l. leadings_if (not linked && (link && shows_in_link around.is_rich l attributes content))
        (heading_in around.heading around.seen role content) attributes) layout_is)

    inner-led : leadings_among inner layout content
        ≡ leadings_among (around_in around flat (is_written around.is_rich flat role attributes content) role content)
        (layout_in around.is_rich flat role content) content
    inner-led =
        let linked = is_linked_in around flat role content in
        let link = is_link role in
        let made : Option Span → Bool → Around =
        λ h b. record { seen = around.seen; heading = h; is_linked = b; is_rich = around.is_rich } in
        ap (λ a. leadings_among a layout content) (inner_is
        ∙ (ap (λ h. made h (linked || written)) heading_is
        ∙ ap (λ b. made (heading_in around.heading around.seen role content) b) (ap (λ b. linked || b) written_is
        ∙ written-in around flat role content (shows_in_link around.is_rich layout attributes content))))
        ∙ ap (λ l. leadings_among (made (heading_in around.heading around.seen role content)
        (linked || (link && shows_in_link around.is_rich l attributes content))) l content) layout_is

    pub element-led : (old mid new : Leadings)
        → ((s : List ℕ) → span_to mid s ≡ merged (span_to old s) s (leadings_if
        ((is_link role && not around.is_linked) && shows_in_link around.is_rich layout attributes content) heading
        attributes))
        → ((s : List ℕ) → span_to new s ≡ merged (span_to mid s) s (leadings_among inner layout content))
        → (s : List ℕ)
        → span_to new s ≡ merged (span_to old s) s (leadings_of_element around flat role attributes content)
    element-led old mid new own inside s =
        let one = leadings_if
        ((is_link role && not around.is_linked) && shows_in_link around.is_rich layout attributes content) heading
        attributes in
        let two = leadings_among inner layout content in
        inside s ∙ (ap (λ k. merged k s two) (own s)
        ∙ (sym (merged-append (span_to old s) s one two)
        ∙ (ap (λ found. merged (span_to old s) s (found ++ two)) own-led
        ∙ ap (λ found. merged (span_to old s) s
        (own_leadings around (is_written around.is_rich flat role attributes content) role attributes content ++ found))
        inner-led)))

-- ---- a leaf, or what has its leaves in it

some-same : (a b : Bool) → Some a ≡ Some b → a ≡ b
some-same a b e = cc

code-nowhere : (around : Around) (flat v shows : Bool) (id : ℕ) (role : Role) (facts : Facts)
    (attributes : List AttributePair) (content : Simples) → is_verbatim role ≡ v
    → cond v (Some (code_shows content)) None ≡ Some shows
    → leadings around flat (element id role facts attributes content) ≡ []
code-nowhere around flat true shows id role facts attributes content verbatim e = rw verbatim refl
code-nowhere around flat false shows id role facts attributes content verbatim e = cc

-- a leaf is no link
pub leaf-nowhere : (around : Around) (flat shows : Bool) (tree : Simple) → leaf_shows tree ≡ Some shows
    → leadings around flat tree ≡ []
leaf-nowhere around flat shows (text s) e = refl
leaf-nowhere around flat shows (image address attributes) e = refl
leaf-nowhere around flat shows (formula tex is_alone attributes) e = refl
leaf-nowhere around flat shows (embedded id address title attributes found) e = refl
leaf-nowhere around flat shows (anchor id) e = refl
leaf-nowhere around flat shows (element id role facts attributes content) e =
    code-nowhere around flat (is_verbatim role) shows id role facts attributes content refl e

code-inside : (around : Around) (flat v : Bool) (id : ℕ) (role : Role) (facts : Facts)
    (attributes : List AttributePair)
    (content : Simples) → is_verbatim role ≡ v → cond v (Some (code_shows content)) None ≡ None
    → leadings_inside around flat (element id role facts attributes content)
    ≡ leadings around flat (element id role facts attributes content)
code-inside around flat true id role facts attributes content verbatim e = cc
code-inside around flat false id role facts attributes content verbatim e = rw verbatim refl

pub inside-led : (around : Around) (flat : Bool) (tree : Simple) → leaf_shows tree ≡ None
    → leadings_inside around flat tree ≡ leadings around flat tree
inside-led around flat (text s) e = cc
inside-led around flat (image address attributes) e = cc
inside-led around flat (formula tex is_alone attributes) e = cc
inside-led around flat (embedded id address title attributes found) e = cc
inside-led around flat (anchor id) e = refl
inside-led around flat (element id role facts attributes content) e =
    code-inside around flat (is_verbatim role) id role facts attributes content refl e
