-- The columns of an ordered list stay where they are among the blocks around it, and each item takes a number.
use Rattle.std.proofs.Common.{◌≡◌, ◌⊎◌, ℕ, zero, suc, ◌+◌, ◌-◌, ◌^◌, ◌<◌, ◌≤◌, Bool, true, false, cond, List, [], ◌∷◌}
use Rattle.std.proofs.Common.{◌++◌, length, get_or, take, drop, refl, sym, ap, ◌∙◌, arith, subst, inl, inr, ⊎_elim}
use Rattle.std.proofs.Common.{append_assoc, length-append, add-one, Option, Some, None, IfSome, nat_lt}
use Rattle.std.specs.Prelude.{replicate, reverse, ◌&&◌, ◌||◌, codes}
use Rattle.std.specs.List.{prefix_len, suffix_len, zip, filter}
use Rattle.std.specs.Option.{option_map}
use Rattle.std.specs.Fmt.{decimal}
use Rattle.std.specs.Str.{all_ascii_digits}
use Rattle.std.specs.Str.Parse.{without_leading_plus, digits_value}
use Rattle.std.proofs.Math.Seq.{take-append-add}
use Rattle.std.proofs.lemmas.Bool.{cond-true, cond-false, cases_Bool}
use Rattle.std.proofs.lemmas.Bool.Decides.{nat_tests}
use Rattle.std.proofs.lemmas.Fmt.{decimal_is_IsNumeral}
use Rattle.std.proofs.lemmas.Str.Parse.{digit_at}
use Rattle.std.proofs.lemmas.List.{append-nil, reverse-append, replicate_more, length-reverse, get_or-reverse}
use Rattle.std.proofs.lemmas.List.{take_more}
use Rattle.std.proofs.lemmas.List.Sums.{prefix_len_stops, suffix_len-le-length}
use Rattle.std.proofs.lemmas.Slice.Zip.{length-zip}
use Rattle.htmd_lexical.specs.Characters.{line_feed, space, full_stop}
use Rattle.htmd_text.specs.Digits.{digits}
use Rattle.htmd_text.specs.Trims.{trimmed_start, trimmed_end, trimmed_text, some_text, is_line_feed}
use Rattle.htmd_text.specs.Indents.{indented_text}
use Rattle.htmd_markdown.specs.ListItems.{number_marker}
use Rattle.htmd_markdown.specs.Lists.{Block, item, other, item_count, highest_number, first_number, ordered_list}
use Rattle.htmd_markdown.specs.Lists.{list_block, between_line_feeds}
use Rattle.htmd_markdown.specs.ListColumns.{item_content, StandsInColumn, HasEqualColumns}
use Rattle.htmd_markdown.proofs.ListsLemmas.{items_in, item_count-append}
use Rattle.htmd_markdown.proofs.ListColumnsLemmas.{columns_equal}
use Rattle.htmd_nodes.specs.Items.{Item, children_of, tag_of, data_at}
use Rattle.htmd_walk.specs.Handling.{ElementView, ResultView}
use Rattle.htmd_walk.specs.Outputs.{is_markdown_alone}
use Rattle.htmd_walk.specs.Children.{content_alone, descendant_tree}
use Rattle.htmd_walk.specs.Elements.{Occurrence, contents_alone}
use Rattle.htmd_walk.specs.ElementPlans.{raw_block_result, are_markdown, attributes_of, value_of}
use Rattle.htmd_walk.specs.ElementPlans.{optional_markdown}
use Rattle.htmd_walk.specs.Lists.{block_of_child, blocks_of_list, blocks_of, first_number_of, is_in_item}
use Rattle.htmd_law_trees.specs.ListLaws.{ItemsBeginInOneColumn, is_item, HasItemBehind, EachItemTakesANumber}

-- ---- line feeds are cut after a text

-- the last byte isn't a line feed
record Ends (s : List ℕ) : Type 0 where
  pub before : List ℕ
  pub last : ℕ
  pub is : s ≡ before ++ last ∷ []
  pub differs : is_line_feed last ≡ false

ends_behind : (front s : List ℕ) → Ends s → Ends (front ++ s)
ends_behind front s ends = record {
  before = front ++ ends.before;
  last = ends.last;
  is = ap (λ l. front ++ l) ends.is ∙ sym (append_assoc front ends.before (ends.last ∷ []));
  differs = ends.differs;
}

prefix_stops : (xs ys : List ℕ) (b : ℕ) → is_line_feed b ≡ false
    → prefix_len is_line_feed (xs ++ b ∷ ys) ≡ prefix_len is_line_feed xs
prefix_stops [] ys b differs = cond-false (is_line_feed b) (1 + prefix_len is_line_feed ys) 0 differs
prefix_stops (x ∷ xs) ys b differs = ap (λ n. cond (is_line_feed x) (1 + n) 0) (prefix_stops xs ys b differs)

end_kept : (s rest : List ℕ) → Ends s
    → trimmed_end is_line_feed (s ++ rest) ≡ s ++ trimmed_end is_line_feed rest
end_kept s rest ends =
    let turned = ap reverse ends.is ∙ reverse-append ends.before (ends.last ∷ []) in
    let same : suffix_len is_line_feed (s ++ rest) ≡ suffix_len is_line_feed rest =
    ap (prefix_len is_line_feed) (reverse-append s rest ∙ ap (λ l. reverse rest ++ l) turned)
    ∙ prefix_stops (reverse rest) (reverse ends.before) ends.last ends.differs in
    let size : length (s ++ rest) - suffix_len is_line_feed (s ++ rest)
    ≡ length s + (length rest - suffix_len is_line_feed rest) =
    omega (arith, length-append s rest, same, suffix_len-le-length is_line_feed rest) in
    ap (λ n. take n (s ++ rest)) size ∙ take-append-add s rest (length rest - suffix_len is_line_feed rest)

-- what is left of a text is empty or ends in another byte
cut_at : (s : List ℕ) (n : ℕ) → n ≡ length s - suffix_len is_line_feed s
    → (take n s ≡ []) ⊎ Ends (take n s)
cut_at s zero e = inl refl
cut_at s (suc n) e =
    let stops = prefix_len_stops is_line_feed (reverse s) 0 (omega (arith, length-reverse s)) in
    let same : get_or (reverse s) (suffix_len is_line_feed s) 0 ≡ get_or s n 0 =
    get_or-reverse s (suffix_len is_line_feed s) 0 (omega arith)
    ∙ ap (λ k. get_or s k 0) (omega (arith, suffix_len-le-length is_line_feed s)) in
    inr (record {
      before = take n s;
      last = get_or s n 0;
      is = ap (λ k. take k s) (sym (add-one n)) ∙ take_more s n 0 (omega arith);
      differs = ap is_line_feed (sym same) ∙ stops;
    })

-- ---- line feeds are cut before a text

-- the first byte isn't a line feed
Begins : List ℕ → Type 0
Begins [] = ⊥
Begins (b ∷ s) = is_line_feed b ≡ false

-- what comes before the text, if line feeds at the start are cut: it ends a line
record Cut (line text : List ℕ) : Type 0 where
  pub front : List ℕ
  pub before : List ℕ
  pub is : trimmed_start is_line_feed text ≡ front ++ line
  pub line_end : line_feed ∷ front ≡ before ++ line_feed ∷ []

one_more : (n : ℕ) → 1 + n ≡ suc n
one_more n = omega arith

stays : (b : ℕ) (s : List ℕ) → is_line_feed b ≡ false → trimmed_start is_line_feed (b ∷ s) ≡ b ∷ s
stays b s differs = ap (λ n. drop n (b ∷ s)) (cond-false (is_line_feed b) (1 + prefix_len is_line_feed s) 0 differs)

passed : (b : ℕ) (s : List ℕ) → is_line_feed b ≡ true
    → trimmed_start is_line_feed (b ∷ s) ≡ trimmed_start is_line_feed s
passed b s is = ap (λ n. drop n (b ∷ s))
    (cond-true (is_line_feed b) (1 + prefix_len is_line_feed s) 0 is ∙ one_more (prefix_len is_line_feed s))

cut_before : (before line : List ℕ) → Begins line → Cut line ((before ++ line_feed ∷ []) ++ line)
unfolding Begins
cut_before [] [] begins = absurd begins
cut_before [] (b ∷ line) begins = record {
  front = [];
  before = [];
  is = passed line_feed (b ∷ line) refl ∙ stays b line begins;
  line_end = refl;
}
cut_before (b ∷ before) line begins =
    let text = (before ++ line_feed ∷ []) ++ line in
    ⊎_elim
    (λ is. let cut = cut_before before line begins in record {
      front = cut.front;
      before = cut.before;
      is = passed b text is ∙ cut.is;
      line_end = cut.line_end;
    })
    (λ differs. record {
      front = (b ∷ before) ++ line_feed ∷ [];
      before = line_feed ∷ b ∷ before;
      is = stays b text differs;
      line_end = refl;
    })
    (cases_Bool (is_line_feed b))

-- ---- the marker of an item

spaces_end : (count : ℕ) → Ends (full_stop ∷ replicate count space)
spaces_end zero = record { before = []; last = full_stop; is = refl; differs = refl }
spaces_end (suc count) = record {
  before = full_stop ∷ replicate count space;
  last = space;
  is = ap (λ l. full_stop ∷ l) (sym (replicate_more count space ∙ ap (λ n. replicate n space) (add-one count)));
  differs = refl;
}

marker_ends : (spacing highest number : ℕ) → Ends (number_marker spacing highest number)
marker_ends spacing highest number =
    ends_behind (decimal number) _ (spaces_end (spacing + (digits highest - digits number)))

digit_other : (b : ℕ) → 48 ≤ b → is_line_feed b ≡ false
digit_other b le = grind (arith, nat_tests)

begins_behind : (s rest : List ℕ) → 0 < length s → is_line_feed (get_or s 0 0) ≡ false → Begins (s ++ rest)
unfolding Begins
begins_behind [] rest some differs = absurd (omega arith)
begins_behind (b ∷ s) rest some differs = differs

marker_begins : (spacing highest number : ℕ) (content behind : List ℕ) → number < 2 ^ 64
    → Begins ((number_marker spacing highest number ++ content) ++ behind)
marker_begins spacing highest number content behind small =
    let numeral = (decimal_is_IsNumeral number small).0 in
    let digit = digit_at (decimal number) 0 numeral.1 numeral.0 in
    let spaces = full_stop ∷ replicate (spacing + (digits highest - digits number)) space in
    subst Begins (regrouped (decimal number) spaces content behind)
    (begins_behind (decimal number) (spaces ++ (content ++ behind)) numeral.0
    (digit_other (get_or (decimal number) 0 0) digit.0))
  where
    regrouped : (a b c d : List ℕ) → a ++ (b ++ (c ++ d)) ≡ ((a ++ b) ++ c) ++ d
    regrouped a b c d = simp append_assoc

marked_ends : (marker content : List ℕ) → Ends marker
    → Ends (marker ++ trimmed_end is_line_feed content)
marked_ends marker content ends =
    ⊎_elim
    (λ none. subst Ends (sym (ap (λ l. marker ++ l) none ∙ append-nil marker)) ends)
    (ends_behind marker (trimmed_end is_line_feed content))
    (cut_at content (length content - suffix_len is_line_feed content) refl)

-- ---- a list among the blocks around it

behind_front : (front marker content rest : List ℕ)
    → front ++ marker ++ content ++ rest ≡ front ++ ((marker ++ content) ++ rest)
behind_front front marker content rest = simp append_assoc

-- behind a line feed a line begins with the marker and the content
record BeginsLine (marker content text : List ℕ) : Type 0 where
  pub before : List ℕ
  pub rest : List ℕ
  pub is : line_feed ∷ text ≡ (before ++ line_feed ∷ []) ++ marker ++ content ++ rest

begins_line : (marker content before behind : List ℕ) → Ends (marker ++ content)
    → Begins ((marker ++ content) ++ behind)
    → BeginsLine marker content
    (trimmed_text is_line_feed ((before ++ line_feed ∷ []) ++ marker ++ content ++ behind))
begins_line marker content before behind ends begins =
    let own = marker ++ content in
    let cut = cut_before before (own ++ behind) begins in
    let rest = trimmed_end is_line_feed behind in
    let is : trimmed_text is_line_feed ((before ++ line_feed ∷ []) ++ marker ++ content ++ behind)
    ≡ cut.front ++ (own ++ rest) =
    ap (trimmed_text is_line_feed) (behind_front (before ++ line_feed ∷ []) marker content behind)
    ∙ ap (trimmed_end is_line_feed) (cut.is ∙ sym (append_assoc cut.front own behind))
    ∙ end_kept (cut.front ++ own) behind (ends_behind cut.front own ends)
    ∙ append_assoc cut.front own rest in
    record {
      before = cut.before;
      rest = rest;
      is = ap (λ l. line_feed ∷ l) is
          ∙ ap (λ l. l ++ (own ++ rest)) cut.line_end
          ∙ sym (behind_front (cut.before ++ line_feed ∷ []) marker content rest);
    }

stands_between : (inside : Bool) (column : ℕ) (marker content text : List ℕ) → length marker ≡ column
    → BeginsLine marker content text
    → StandsInColumn column marker content (between_line_feeds (cond inside 1 2) text)
stands_between true column marker content text width begins =
    let line = (begins.before ++ line_feed ∷ []) ++ marker ++ content in
    record {
      before = begins.before;
      behind = begins.rest ++ line_feed ∷ [];
      whole = ap (λ l. l ++ line_feed ∷ []) begins.is ∙ append_assoc line begins.rest (line_feed ∷ []);
      width = width;
    }
stands_between false column marker content text width begins =
    let line = (begins.before ++ line_feed ∷ []) ++ marker ++ content in
    let ends = line_feed ∷ line_feed ∷ [] in
    record {
      before = line_feed ∷ begins.before;
      behind = begins.rest ++ ends;
      whole = ap (λ l. line_feed ∷ l ++ ends) begins.is
          ∙ ap (λ l. line_feed ∷ l) (append_assoc line begins.rest ends);
      width = width;
    }

equal_between : (inside : Bool) (first spacing : ℕ) (blocks : List Block) → first + item_count blocks < 2 ^ 64
    → HasEqualColumns first spacing blocks (between_line_feeds (cond inside 1 2)
    (trimmed_text is_line_feed (ordered_list first spacing blocks)))
equal_between inside first spacing blocks small = λ earlier later content split.
    let highest = highest_number first blocks in
    let number = first + item_count earlier in
    let marker = number_marker spacing highest number in
    let column = spacing + digits highest + 1 in
    let own = item_content column content in
    let list = ordered_list first spacing blocks in
    let stands = columns_equal first spacing blocks small earlier later content split in
    let count = ap item_count split ∙ item_count-append earlier (item content ∷ later) in
    let begins = begins_line marker own stands.before stands.behind
    (marked_ends marker (indented_text (trimmed_start is_line_feed content) column true)
    (marker_ends spacing highest number))
    (marker_begins spacing highest number own stands.behind (omega (arith, count))) in
    stands_between inside column marker own (trimmed_text is_line_feed list) stands.width
    (subst (λ (l : List ℕ). BeginsLine marker own (trimmed_text is_line_feed l)) (sym stands.whole) begins)

-- ---- the result of the handler

block_holds : (P : List ℕ → Type 0) (between : List ℕ → List ℕ) (text : List ℕ) → P (between text)
    → IfSome (option_map between (some_text text)) P
block_holds P between [] h = tt
block_holds P between (b ∷ text) h = h

markdown_holds : (P : List ℕ → Type 0) (markdown : Bool) (block : Option (List ℕ)) (raw : ResultView)
    → raw.markdown_translated ≡ false → IfSome block P
    → IfSome (cond markdown (optional_markdown block) (Some raw)) (λ r. r.markdown_translated ≡ true
    → P r.content)
markdown_holds P true None raw e h = tt
markdown_holds P true (Some s) raw e h = λ is. h
markdown_holds P false block raw e h = λ is. absurd (cc)

-- ---- the numbers

first_below : (start : Option (List ℕ)) → first_number start < 2 ^ 31
first_below None = omega arith
first_below (Some start) =
    let numeral = without_leading_plus start in
    let number = digits_value 10 numeral in
    either_below (nat_lt 0 (length numeral) && all_ascii_digits numeral && nat_lt 0 number && nat_lt number (2 ^ 31))
    number (λ e. grind (arith, nat_tests))
  where
    either_below : (test : Bool) (number : ℕ) → (test ≡ true → number < 2 ^ 31) → cond test number 1 < 2 ^ 31
    either_below true number below = below refl
    either_below false number below = omega arith

items_among : (view : ElementView) (results : List ResultView)
    → item_count (blocks_of view results) ≤ length (children_of view.items view.node)
items_among view results =
    let block : ℕ × ResultView → Block = λ p. block_of_child (tag_of (data_at view.items p.0)) p.1.content in
    omega (
      arith,
      items_in block (zip (children_of view.items view.node) results),
      length-zip (children_of view.items view.node) results,
    )

pub items_begin : (view : ElementView) → length (children_of view.items view.node) < 2 ^ 63
    → ItemsBeginInOneColumn view
items_begin view few results =
    let first = first_number_of view in
    let spacing = view.options.ol_number_spacing in
    let blocks = blocks_of view results in
    let small : first + item_count blocks < 2 ^ 64 =
    omega (arith, few, items_among view results, first_below (value_of (codes "start") (attributes_of view))) in
    markdown_holds (HasEqualColumns first spacing blocks) (is_markdown_alone view.options || are_markdown results)
    (list_block (is_in_item view) (ordered_list first spacing blocks)) (raw_block_result view) refl
    (block_holds (HasEqualColumns first spacing blocks) (between_line_feeds (cond (is_in_item view) 1 2))
    (trimmed_text is_line_feed (ordered_list first spacing blocks))
    (equal_between (is_in_item view) first spacing blocks small))

-- ---- each item takes a number

contents_length : (at : Occurrence) (nodes : List ℕ) (definitions : List (List ℕ))
    → length (contents_alone at nodes definitions).results ≡ length nodes
contents_length at [] definitions = refl
contents_length at (node ∷ nodes) definitions =
    let tree = descendant_tree at.conversion.items at.view.text node in
    ap suc (contents_length at nodes (content_alone at.write at.conversion tree node definitions).definitions)

behind_child : (is_li : Bool) (child : ℕ) (before : List ℕ) (content : List ℕ) (blocks : List Block)
    → HasItemBehind (length before) blocks
    → HasItemBehind (length (cond is_li (child ∷ before) before))
    (cond is_li (item content) (other content) ∷ blocks)
behind_child true child before content blocks has = record {
  earlier = item content ∷ has.earlier;
  later = has.later;
  content = has.content;
  whole = ap (λ l. item content ∷ l) has.whole;
  counted = ap suc has.counted;
}
behind_child false child before content blocks has = record {
  earlier = other content ∷ has.earlier;
  later = has.later;
  content = has.content;
  whole = ap (λ l. other content ∷ l) has.whole;
  counted = has.counted;
}

item_among : (items : List Item) (earlier later : List ℕ) (child : ℕ) (results : List ResultView)
    → length results ≡ length (earlier ++ child ∷ later) → is_item items child ≡ true
    → HasItemBehind (length (filter (is_item items) earlier))
    (blocks_of_list items (earlier ++ child ∷ later) results)
item_among items [] later child [] size is = absurd (omega (arith, size))
item_among items (e ∷ earlier) later child [] size is = absurd (omega (arith, size))
item_among items [] later child (r ∷ results) size is = record {
  earlier = [];
  later = blocks_of_list items later results;
  content = r.content;
  whole = ap (λ b. cond b (item r.content) (other r.content) ∷ blocks_of_list items later results) is;
  counted = refl;
}
item_among items (e ∷ earlier) later child (r ∷ results) size is =
    behind_child (is_item items e) e (filter (is_item items) earlier) r.content
    (blocks_of_list items (earlier ++ child ∷ later) results)
    (item_among items earlier later child results (omega (arith, size)) is)

pub each_item : EachItemTakesANumber
each_item at definitions earlier later child split is =
    let items = at.view.items in
    let children = children_of items at.view.node in
    let results = (contents_alone at children definitions).results in
    subst (λ (l : List ℕ). HasItemBehind (length (filter (is_item items) earlier)) (blocks_of_list items l results))
    (sym split)
    (item_among items earlier later child results (contents_length at children definitions ∙ ap length split) is)
