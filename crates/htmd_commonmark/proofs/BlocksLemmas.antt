-- Blocks and items, one after the other.
use Rattle.std.proofs.Common.{◌≡◌, ℕ, zero, suc, ◌+◌, ◌-◌, ◌*◌, ◌%◌, ◌^◌, ◌<◌, ◌≤◌, Bool, true, false, cond, List}
use Rattle.std.proofs.Common.{[]}
use Rattle.std.proofs.Common.{◌∷◌, ◌++◌, length, get_or, drop, map, refl, sym, ap, ◌∙◌, arith, append_assoc, codes}
use Rattle.std.proofs.Common.{add-one}
use Rattle.std.proofs.Common.{subst, drop-cons}
use Rattle.std.specs.Prelude.{◌==◌, ◌||◌, Option, None, Vec, Result, Ok, Err, OnOk, replicate, take}
use Rattle.std.specs.declared.alloc.Global.{Global}
use Rattle.std.specs.Fmt.{decimal}
use Rattle.std.specs.List.{flat_map}
use Rattle.std.proofs.lemmas.Bool.Decides.{nat_tests}
use Rattle.std.proofs.lemmas.Fmt.{decimal_by_steps}
use Rattle.std.proofs.lemmas.List.{append-nil, drop_all, length-take-le, take_more}
use Rattle.std.proofs.lemmas.List.Folds.{list_any-append}
use Rattle.htmd_lexical.specs.Characters.{line_feed, number_sign}
use Rattle.htmd_text.specs.Trims.{is_line_feed}
use Rattle.htmd_document.specs.declared.document.Block.{Block}
use Rattle.htmd_document.specs.declared.document.Block as source
use Rattle.htmd_document.specs.declared.document.Block.{fold-roll-Block}
use Rattle.htmd_document.specs.declared.document.Block.TheVariants.{rolls-List}
use Rattle.htmd_document.specs.declared.document.Inline.{Inline}
use Rattle.htmd_document.specs.Documents as value
use Rattle.htmd_document.specs.DocumentViews.{block_step, block_of, blocks_of, inline_of, inlines_of}
use Rattle.htmd_document.specs.FlatDocuments.{flattened, flat_items, flat_block}
use Rattle.htmd_document.specs.FlatViews.{flat_of, flat_blocks_of}
use Rattle.htmd_document.specs.NormalDocuments.{depth_of, depth_among, depth_of_items}
use Rattle.htmd_document.proofs.FlatLemmas.{depth-at, depth-in-item}
use Rattle.htmd_document.specs.declared.flat.FlatBlock.{FlatBlock}
use Rattle.htmd_commonmark.specs.declared.blocks.Place.{Place}
use Rattle.htmd_commonmark.specs.declared.markers.Markers.{Markers}
use Rattle.htmd_commonmark.specs.declared.markers.Sign.{Sign}
use Rattle.htmd_commonmark.specs.declared.options.DocumentOptions.{DocumentOptions}
use Rattle.htmd_commonmark.specs.BlockMarkdown.{has_break, is_or_has_break, marker, spaces, sign_text, sign_of}
use Rattle.htmd_commonmark.specs.BlockMarkdown.{separator}
use Rattle.htmd_commonmark.specs.BlockMarkdown.{behind_first, place_at, place_in_item, written_blocks, further_blocks}
use Rattle.htmd_commonmark.specs.BlockMarkdown.{written_block}
use Rattle.htmd_commonmark.specs.BlockMarkdown.{written_items, further_items, item_count, number_signs}
use Rattle.htmd_commonmark.specs.DocumentMarkdown.{written_definitions}
use Rattle.htmd_commonmark.specs.BlockViews.{Output, put, put_text, all_items_of}
use Rattle.htmd_commonmark.specs.Pages.{Page, IsMarker, nothing, with_byte, wrote, in_item, behind_item, in_quote}
use Rattle.htmd_commonmark.specs.Pages.{behind_quote, quoted, indented}
use Rattle.htmd_commonmark.specs.WrittenText.{Written}
use Rattle.htmd_commonmark.proofs.PagesLemmas.{wrote-append, in_item-wrote, in_quote-wrote}

-- ---- breaks

pub break_next : (xs : List Inline) (i : ℕ) (x : Inline) → i < length xs → x ≡ get_or xs i x
    → has_break (inlines_of (drop i xs))
    ≡ (is_or_has_break (inline_of x) || has_break (inlines_of (drop (i + 1) xs)))
break_next xs i x within is =
    let split : drop i xs ≡ get_or xs i x ∷ drop (i + 1) xs =
    drop-cons xs i x within ∙ ap (λ n. get_or xs i x ∷ drop n xs) (sym (add-one i)) in
    ap (λ l. has_break (inlines_of l)) split
    ∙ ap (λ y. is_or_has_break (inline_of y) || has_break (inlines_of (drop (i + 1) xs))) (sym is)

-- ---- markers

pub decimal_is_marker : (n : ℕ) → n < 2 ^ 64 → IsMarker (decimal n)
decimal_is_marker n lt = decimal_by_steps (λ _ ds. IsMarker ds) one more n lt
  where
    one : (n : ℕ) → n < 10 → IsMarker ((48 + n) ∷ [])
    one n lt =
        let other : ((48 + n) == 10) ≡ false = grind (arith, nat_tests) in
        record { some = refl; line = rw other refl }

    longer : (ds : List ℕ) (d : ℕ) → (length (ds ++ d ∷ []) == 0) ≡ false
    longer [] d = refl
    longer (b ∷ ds) d = let none : (length (b ∷ ds ++ d ∷ []) == 0) ≡ false = grind (arith, nat_tests) in none

    more : (n : ℕ) (ds : List ℕ) → 10 ≤ n → IsMarker ds → IsMarker (ds ++ (48 + n % 10) ∷ [])
    more n ds le was =
        let other : ((48 + n % 10) == 10) ≡ false = grind (arith, nat_tests) in
        record {
          some = longer ds (48 + n % 10);
          line = list_any-append is_line_feed ds ((48 + n % 10) ∷ []) ∙ rw (was.line, other) refl;
        }

pub sign_is_marker : (sign : Sign) → IsMarker (sign_text sign)
sign_is_marker Sign.Asterisk = record { some = refl; line = refl }
sign_is_marker Sign.Hyphen = record { some = refl; line = refl }
sign_is_marker Sign.FullStop = record { some = refl; line = refl }
sign_is_marker Sign.Parenthesis = record { some = refl; line = refl }

pub number_is_marker : (n : ℕ) (sign : Sign) → n < 2 ^ 64 → IsMarker (decimal n ++ sign_text sign)
number_is_marker n sign lt =
    let first = decimal_is_marker n lt in
    let second = sign_is_marker sign in
    record {
      some = longer (decimal n) (sign_text sign) first.some;
      line = list_any-append is_line_feed (decimal n) (sign_text sign) ∙ rw (first.line, second.line) refl;
    }
  where
    longer : (s t : List ℕ) → (length s == 0) ≡ false → (length (s ++ t) == 0) ≡ false
    longer [] t some = cc
    longer (b ∷ s) t some = let none : (length (b ∷ s ++ t) == 0) ≡ false = grind (arith, nat_tests) in none

-- ---- outputs

pub put-put : (o : Output) (s t : List ℕ) (first second : List (List ℕ))
    → put_text (put_text o s first) t second ≡ put_text o (s ++ t) second
put-put o s t first second = ap (λ p. record { page = p; definitions = second }) (sym (wrote-append o.page s t))

pub item_put : (o out : Output) (m : List ℕ) (n : ℕ) (w : Written) (lines last : Page) (outside : ℕ)
    → IsMarker m
    → lines ≡ in_item o.page m n → out ≡ put (record { page = lines; definitions = o.definitions }) w
    → outside ≡ length o.page.prefix → last ≡ behind_item out.page outside
    → record { page = last; definitions = out.definitions } ≡ put_text o (indented m n w.text) w.definitions
item_put o out [] n w lines last outside is opened written before closed = let none = is.some in cc
item_put o out (b ∷ m) n w lines last outside is opened written before closed =
    let page : last ≡ wrote o.page (indented (b ∷ m) n w.text) =
    closed ∙ ap (λ p. behind_item p outside) (ap (λ u. u.page) written)
    ∙ ap (λ k. behind_item (wrote lines w.text) k) before
    ∙ ap (λ p. behind_item (wrote p w.text) (length o.page.prefix)) opened
    ∙ in_item-wrote o.page b m n w.text is.line in
    ap (λ p. record { page = p; definitions = out.definitions }) page
    ∙ ap (λ ds. put_text o (indented (b ∷ m) n w.text) ds) (ap (λ u. u.definitions) written)

pub quote_put : (o out : Output) (w : Written) (lines last : Page) (outside : ℕ)
    → o.page.written ≤ length o.page.prefix
    → lines ≡ in_quote o.page → out ≡ put (record { page = lines; definitions = o.definitions }) w
    → outside ≡ length o.page.prefix → last ≡ behind_quote out.page outside
    → record { page = last; definitions = out.definitions } ≡ put_text o (quoted w.text) w.definitions
quote_put o out w lines last outside within opened written before closed =
    let page : last ≡ wrote o.page (quoted w.text) =
    closed ∙ ap (λ p. behind_quote p outside) (ap (λ u. u.page) written)
    ∙ ap (λ k. behind_quote (wrote lines w.text) k) before
    ∙ ap (λ p. behind_quote (wrote p w.text) (length o.page.prefix)) opened
    ∙ in_quote-wrote o.page w.text within in
    ap (λ p. record { page = p; definitions = out.definitions }) page
    ∙ ap (λ ds. put_text o (quoted w.text) ds) (ap (λ u. u.definitions) written)

-- ---- blocks

-- what is written with the blocks to come: the first of all, or further ones
abbrev pub with_blocks : Bool → DocumentOptions → Place → Option Sign → Output → value.Blocks → Output
with_blocks true options place before o bs = put o (written_blocks options place o.definitions bs)
with_blocks false options place before o bs =
    put o (further_blocks options (behind_first place) before o.definitions bs)

pub block_split : (bs : List FlatBlock) (i : ℕ) (b : FlatBlock) → i < length bs → b ≡ get_or bs i b
    → flat_blocks_of (drop i bs) ≡ value.block (flat_of b) (flat_blocks_of (drop (i + 1) bs))
block_split bs i b within is =
    ap flat_blocks_of (drop-cons bs i b within ∙ ap (λ n. get_or bs i b ∷ drop n bs) (sym (add-one i)))
    ∙ ap (λ y. value.block (flat_of y) (flat_blocks_of (drop (i + 1) bs))) (sym is)

pub first_block : (options : DocumentOptions) (place : Place) (o next : Output) (b : value.Block) (rest : value.Blocks)
    (sign : Option Sign) → next ≡ put o (written_block options place None o.definitions b)
    → sign ≡ sign_of options None place.outer b
    → with_blocks false options place sign next rest ≡ with_blocks true options place None o (value.block b rest)
first_block options place o next b rest sign is signed =
    let w = written_block options place None o.definitions b in
    let later = further_blocks options (behind_first place) (sign_of options None place.outer b) w.definitions rest in
    ap (λ x. with_blocks false options place x next rest) signed
    ∙ ap (λ p. with_blocks false options place (sign_of options None place.outer b) p rest) is
    ∙ put-put o w.text later.text w.definitions later.definitions

pub later_block : (options : DocumentOptions) (place : Place) (before sign : Option Sign) (o next : Output)
    (b : value.Block) (rest : value.Blocks)
    → next ≡ put (put_text o (separator place.tight) o.definitions)
    (written_block options (behind_first place) before o.definitions b)
    → sign ≡ sign_of options before None b
    → with_blocks false options place sign next rest ≡ with_blocks false options place before o (value.block b rest)
later_block options place before sign o next b rest is signed =
    let w = written_block options (behind_first place) before o.definitions b in
    let later = further_blocks options (behind_first place) (sign_of options before None b) w.definitions rest in
    ap (λ x. with_blocks false options place x next rest) signed
    ∙ ap (λ p. with_blocks false options place (sign_of options before None b) p rest)
    (is ∙ put-put o (separator place.tight) w.text o.definitions w.definitions)
    ∙ put-put o (separator place.tight ++ w.text) later.text w.definitions later.definitions

pub no_more_blocks : (t : Bool) (options : DocumentOptions) (place : Place) (before : Option Sign) (o : Output)
    (bs : List FlatBlock) (i : ℕ) → length bs ≤ i
    → with_blocks t options place before o (flat_blocks_of (drop i bs)) ≡ o
no_more_blocks true options place before o bs i past =
    ap (λ l. with_blocks true options place before o (flat_blocks_of l)) (drop_all i bs past)
no_more_blocks false options place before o bs i past =
    ap (λ l. with_blocks false options place before o (flat_blocks_of l)) (drop_all i bs past)

-- ---- items

abbrev pub with_items : ℕ → DocumentOptions → Markers → Bool → Output → value.Items → Output
with_items zero options markers is_tight o items = put o (written_items options markers is_tight o.definitions items)
with_items (suc k) options markers is_tight o items =
    put o (further_items options markers is_tight (suc k) o.definitions items)

pub item_split : (items : List (Vec Block Global)) (i : ℕ) (b : Vec Block Global) → i < length items
    → b ≡ get_or items i b
    → flat_items (all_items_of (drop i items))
    ≡ value.item (flattened (blocks_of b.items)) (flat_items (all_items_of (drop (i + 1) items)))
item_split items i b within is =
    ap (λ l. flat_items (all_items_of l))
    (drop-cons items i b within ∙ ap (λ n. get_or items i b ∷ drop n items) (sym (add-one i)))
    ∙ ap (λ y. value.item (flattened (blocks_of y.items)) (flat_items (all_items_of (drop (i + 1) items)))) (sym is)

pub first_item : (options : DocumentOptions) (markers : Markers) (is_tight : Bool) (o next : Output) (bs : value.Blocks)
    (rest : value.Items)
    → next ≡ (let w = written_blocks options (place_in_item markers is_tight) o.definitions bs in
    put_text o (indented (marker markers 0) (spaces markers 0) w.text) w.definitions)
    → with_items 1 options markers is_tight next rest ≡ with_items 0 options markers is_tight o (value.item bs rest)
first_item options markers is_tight o next bs rest is =
    let w = written_blocks options (place_in_item markers is_tight) o.definitions bs in
    let text = indented (marker markers 0) (spaces markers 0) w.text in
    let later = further_items options markers is_tight 1 w.definitions rest in
    ap (λ p. with_items 1 options markers is_tight p rest) is
    ∙ put-put o text later.text w.definitions later.definitions

pub later_item : (options : DocumentOptions) (markers : Markers) (is_tight : Bool) (k : ℕ) (o next : Output)
    (bs : value.Blocks) (rest : value.Items)
    → next ≡ (let w = written_blocks options (place_in_item markers is_tight) o.definitions bs in
    put_text (put_text o (separator is_tight) o.definitions)
    (indented (marker markers (suc k)) (spaces markers (suc k)) w.text) w.definitions)
    → with_items (suc (suc k)) options markers is_tight next rest
    ≡ with_items (suc k) options markers is_tight o (value.item bs rest)
later_item options markers is_tight k o next bs rest is =
    let w = written_blocks options (place_in_item markers is_tight) o.definitions bs in
    let text = indented (marker markers (suc k)) (spaces markers (suc k)) w.text in
    let later = further_items options markers is_tight (suc (suc k)) w.definitions rest in
    ap (λ p. with_items (suc (suc k)) options markers is_tight p rest)
    (is ∙ put-put o (separator is_tight) text o.definitions w.definitions)
    ∙ put-put o (separator is_tight ++ text) later.text w.definitions later.definitions

pub no_more_items : (n : ℕ) (options : DocumentOptions) (markers : Markers) (is_tight : Bool) (o : Output)
    (items : List (Vec Block Global)) (i : ℕ) → length items ≤ i
    → with_items n options markers is_tight o (flat_items (all_items_of (drop i items))) ≡ o
no_more_items zero options markers is_tight o items i past =
    ap (λ l. with_items 0 options markers is_tight o (flat_items (all_items_of l))) (drop_all i items past)
no_more_items (suc n) options markers is_tight o items i past =
    ap (λ l. with_items (suc n) options markers is_tight o (flat_items (all_items_of l))) (drop_all i items past)

pub counted : (items : List (Vec Block Global)) → item_count (flat_items (all_items_of items)) ≡ length items
counted [] = refl
counted (bs ∷ items) = ap (λ n. suc n) (counted items)

-- ---- the loops' steps

pub blocks_step : (options : DocumentOptions) (place : Place) (before sign : Option Sign) (o pushed next : Output)
    (b : value.Block) (rest : value.Blocks) (i : ℕ) → (i ≡ 0 → before ≡ None)
    → pushed ≡ cond (i == 0) o (put_text o (separator place.tight) o.definitions)
    → next ≡ put pushed (written_block options (place_at place i) before pushed.definitions b)
    → sign ≡ sign_of options before (place_at place i).outer b
    → with_blocks ((i + 1) == 0) options place sign next rest
    ≡ with_blocks (i == 0) options place before o (value.block b rest)
blocks_step options place before sign o pushed next b rest zero none at is signed =
    let start : before ≡ None = none refl in
    first_block options place o next b rest sign
    (is ∙ ap (λ p. put p (written_block options place before p.definitions b)) at
    ∙ ap (λ x. put o (written_block options place x o.definitions b)) start)
    (signed ∙ ap (λ x. sign_of options x place.outer b) start)
blocks_step options place before sign o pushed next b rest (suc i) none at is signed =
    let later : ((suc i + 1) == 0) ≡ false = grind (arith, nat_tests) in
    let some : (suc i == 0) ≡ false = grind (arith, nat_tests) in
    rw (later, some) (later_block options place before sign o next b rest
    (is
    ∙ ap (λ t.
    put pushed (written_block options (cond t place (behind_first place)) before pushed.definitions b)) some
    ∙ ap (λ p. put p (written_block options (behind_first place) before p.definitions b))
    (at ∙ ap (λ t. cond t o (put_text o (separator place.tight) o.definitions)) some))
    (signed ∙ ap (λ t. sign_of options before (cond t place (behind_first place)).outer b) some))

pub items_step : (options : DocumentOptions) (markers : Markers) (is_tight : Bool) (o pushed next : Output)
    (bs : value.Blocks) (rest : value.Items) (i : ℕ)
    → pushed ≡ cond (i == 0) o (put_text o (separator is_tight) o.definitions)
    → next ≡ (let w = written_blocks options (place_in_item markers is_tight) pushed.definitions bs in
    put_text pushed (indented (marker markers i) (spaces markers i) w.text) w.definitions)
    → with_items (i + 1) options markers is_tight next rest
    ≡ with_items i options markers is_tight o (value.item bs rest)
items_step options markers is_tight o pushed next bs rest zero at is =
    first_item options markers is_tight o next bs rest
    (is ∙ ap (λ p. let w = written_blocks options (place_in_item markers is_tight) p.definitions bs in
    put_text p (indented (marker markers 0) (spaces markers 0) w.text) w.definitions) at)
items_step options markers is_tight o pushed next bs rest (suc i) at is =
    let some : (suc i == 0) ≡ false = grind (arith, nat_tests) in
    let same : suc i + 1 ≡ suc (suc i) = omega arith in
    ap (λ n. with_items n options markers is_tight next rest) same
    ∙ later_item options markers is_tight i o next bs rest
    (is ∙ ap (λ p. let w = written_blocks options (place_in_item markers is_tight) p.definitions bs in
    put_text p (indented (marker markers (suc i)) (spaces markers (suc i)) w.text) w.definitions)
    (at ∙ ap (λ t. cond t o (put_text o (separator is_tight) o.definitions)) some))

pub pushed_some : (o : Output) (lines : Page) (between : List ℕ) (i : ℕ) → 0 < i → lines
    ≡ wrote o.page between
    → record { page = lines; definitions = o.definitions } ≡ cond (i == 0) o (put_text o between o.definitions)
pushed_some o lines between i lt is =
    let some : (i == 0) ≡ false = grind (arith, nat_tests) in
    rw some (ap (λ p. record { page = p; definitions = o.definitions }) is)

pub pushed_none : (o other : Output) (i : ℕ) → i ≤ 0 → o ≡ cond (i == 0) o other
pushed_none o other i le = let none : (i == 0) ≡ true = grind (arith, nat_tests) in rw none refl

-- number signs, a space and the text
pub signs_put : {T E : Type 0} (r : Result T E) (o : Output) (w : Written) (level : ℕ) (first second last : Page)
    (s : List ℕ) (definitions : List (List ℕ)) → first ≡ wrote o.page (replicate level number_sign)
    → second ≡ wrote first (codes " ") → OnOk r (last ≡ wrote second s) → s ≡ w.text
    → definitions ≡ w.definitions
    → OnOk r (record { page = last; definitions = definitions }
    ≡ put_text o (number_signs level ++ w.text) w.definitions)
signs_put (Ok x) o w level first second last s definitions one two three text same =
    let page : last ≡ wrote o.page (number_signs level ++ w.text) =
    three ∙ ap (λ p. wrote p s) (two ∙ ap (λ p. wrote p (codes " ")) one)
    ∙ ap (wrote (wrote (wrote o.page (replicate level number_sign)) (codes " "))) text
    ∙ ap (λ p. wrote p w.text) (sym (wrote-append o.page (replicate level number_sign) (codes " ")))
    ∙ sym (wrote-append o.page (number_signs level) w.text) in
    ap (λ p. record { page = p; definitions = definitions }) page
    ∙ ap (λ ds. put_text o (number_signs level ++ w.text) ds) same
signs_put (Err e) o w level first second last s definitions one two three text same = tt

-- ---- definitions

flat_map_push : (f : List ℕ → List ℕ) (ds : List (List ℕ)) (d : List ℕ)
    → flat_map f (ds ++ d ∷ []) ≡ flat_map f ds ++ f d
flat_map_push f [] d = append-nil (f d)
flat_map_push f (e ∷ ds) d =
    ap (λ l. f e ++ l) (flat_map_push f ds d) ∙ sym (append_assoc (f e) (flat_map f ds) (f d))

pub definitions_more : (page next : Page) (ds : List (List ℕ)) (i : ℕ) (s d : List ℕ) → i < length ds
    → s ≡ cond (i == 0) (codes "\n\n") (codes "\n") → d ≡ get_or ds i d
    → next ≡ wrote (wrote (wrote page (written_definitions (take i ds))) s) d
    → next ≡ wrote page (written_definitions (take (i + 1) ds))
definitions_more page next ds i s d lt is at wrote_is =
    let front : take (i + 1) ds ≡ take i ds ++ d ∷ [] =
    take_more ds i d lt ∙ ap (λ y. take i ds ++ y ∷ []) (sym at) in
    let some : (length (take i ds) == 0) ≡ (i == 0) =
    ap (λ n. n == 0) (length-take-le i ds (omega arith)) in
    wrote_is ∙ sym (ap (λ l. wrote page (written_definitions l)) front
    ∙ ap (wrote page) (one_more (take i ds) d)
    ∙ ap (λ t. wrote page ((written_definitions (take i ds) ++ cond t (codes "\n\n") (codes "\n")) ++ d)) some
    ∙ ap (λ l. wrote page ((written_definitions (take i ds) ++ l) ++ d)) (sym is)
    ∙ wrote-append page (written_definitions (take i ds) ++ s) d
    ∙ ap (λ p. wrote p d) (wrote-append page (written_definitions (take i ds)) s))
  where
    one_more : (ds : List (List ℕ)) (d : List ℕ)
        → written_definitions (ds ++ d ∷ [])
        ≡ (written_definitions ds ++ cond (length ds == 0) (codes "\n\n") (codes "\n")) ++ d
    one_more [] d = append-nil (codes "\n\n" ++ d)
    one_more (e ∷ ds) d =
        let some : (length (e ∷ ds) == 0) ≡ false = grind (arith, nat_tests) in
        let more : flat_map (λ l. codes "\n" ++ l) (ds ++ d ∷ [])
        ≡ flat_map (λ l. codes "\n" ++ l) ds ++ (codes "\n" ++ d) =
        flat_map_push (λ l. codes "\n" ++ l) ds d in
        rw some (ap (λ l. (codes "\n\n" ++ e) ++ l) more
        ∙ sym (append_assoc (codes "\n\n" ++ e) (flat_map (λ l. codes "\n" ++ l) ds) (codes "\n" ++ d))
        ∙ sym (append_assoc ((codes "\n\n" ++ e) ++ flat_map (λ l. codes "\n" ++ l) ds) (codes "\n") d))

-- ---- a document

outermost_page : List ℕ → Page
outermost_page out = record { out = out; prefix = []; written = 0; gap = 0 }

outermost-byte : (out : List ℕ) (b : ℕ) (t : Bool) → (b == line_feed) ≡ t
    → with_byte (outermost_page out) b ≡ outermost_page (out ++ b ∷ [])
unfolding outermost_page
outermost-byte out b true here =
    let same : line_feed ≡ b = grind (arith, nat_tests) in
    rw here (ap (λ l. outermost_page (l ++ line_feed ∷ [])) (append-nil out)
    ∙ ap (λ c. outermost_page (out ++ c ∷ [])) same)
outermost-byte out b false other = rw other (ap (λ l. outermost_page (l ++ b ∷ [])) (append-nil out))

outermost-wrote : (out s : List ℕ) → wrote (outermost_page out) s ≡ outermost_page (out ++ s)
outermost-wrote out [] = ap outermost_page (sym (append-nil out))
outermost-wrote out (b ∷ s) =
    ap (λ p. wrote p s) (outermost-byte out b (b == line_feed) refl) ∙ outermost-wrote (out ++ b ∷ []) s
    ∙ ap outermost_page (append_assoc out (b ∷ []) s)

pub document_put : (o out : Output) (w : Written) (last : Page) (definitions : List (List ℕ)) (text : List ℕ)
    → o ≡ record { page = nothing; definitions = [] } → out ≡ put o w → definitions ≡ out.definitions
    → last ≡ wrote out.page (written_definitions definitions) → text ≡ last.out
    → text ≡ w.text ++ written_definitions w.definitions
unfolding outermost_page
document_put o out w last definitions text start written same pushed is =
    let defined : definitions ≡ w.definitions = same ∙ ap (λ u. u.definitions) written in
    let page : out.page ≡ outermost_page w.text =
    ap (λ u. u.page) written ∙ ap (λ u. wrote u.page w.text) start ∙ outermost-wrote [] w.text in
    is ∙ ap (λ p. p.out) (pushed ∙ ap (λ ds. wrote out.page (written_definitions ds)) defined
    ∙ ap (λ p. wrote p (written_definitions w.definitions)) page
    ∙ outermost-wrote w.text (written_definitions w.definitions))

pub on_ok : {T E : Type 0} (r : Result T E) {A B : Type 0} → OnOk r A → (A → B) → OnOk r B
on_ok (Ok x) a f = f a
on_ok (Err e) a f = tt

-- ---- a list as a value

items_shape : (f : Vec Block Global → Vec value.Block Global)
    → ((v : Vec Block Global) → (f v).items ≡ map block_of v.items) → (l : List (Vec Block Global))
    → value.items_of (map (λ bs. value.blocks_of bs.items) (map f l)) ≡ all_items_of l
items_shape f each [] = refl
items_shape f each (v ∷ l) =
    ap (λ bs. value.items_of (value.blocks_of bs ∷ map (λ w. value.blocks_of w.items) (map f l))) (each v)
    ∙ ap (value.item (blocks_of v.items)) (items_shape f each l)

pub list_shape : (start : Option ℕ) (tight : Bool) (items : Vec (Vec Block Global) Global)
    → block_of (source.List start tight items) ≡ value.list start tight (all_items_of items.items)
list_shape start tight items =
    ap block_of (sym (rolls-List start tight items))
    ∙ fold-roll-Block value.Block block_step (source.Block-F.List start tight items)
    ∙ ap (value.list start tight) (items_shape _ (λ v. refl) items.items)

-- ---- how deep a call goes: a list is above its items, an item or a quote above its blocks

pub flat_less : (bs : List FlatBlock) (i : ℕ) (b : FlatBlock) (n : ℕ) → i < length bs → b ≡ get_or bs i b
    → depth_among (flat_blocks_of bs) * 7 + 2 ≡ n → depth_of (flat_of b) * 7 + 1 < n
flat_less bs i b n within is measure =
    let h : depth_of (flat_of b) ≤ depth_among (flat_blocks_of bs) = depth-at flat_of bs i b within is in
    omega (arith, h, measure)

pub all_less : (bs : List FlatBlock) (cs : value.Blocks) (n : ℕ) → flat_blocks_of bs ≡ cs
    → depth_among cs * 7 + 3 ≡ n → depth_among (flat_blocks_of bs) * 7 + 2 < n
all_less bs cs n is measure =
    let h : depth_among (flat_blocks_of bs) ≡ depth_among cs = ap depth_among is in omega (arith, h, measure)

pub list_less : (items : List (Vec Block Global)) (ys : List (Vec Block Global)) (b : value.Block) (start : Option ℕ)
    (is_tight : Bool) (n : ℕ) → b ≡ value.list start is_tight (all_items_of ys) → items ≡ ys
    → depth_of (flat_block b) * 7 ≡ n → depth_of_items (flat_items (all_items_of items)) * 7 + 5 < n
list_less items ys b start is_tight n shape is measure =
    let h : depth_of (flat_block b) ≡ suc (depth_of_items (flat_items (all_items_of items))) =
    ap (λ c. depth_of (flat_block c)) shape
    ∙ ap (λ zs. suc (depth_of_items (flat_items (all_items_of zs)))) (sym is) in
    omega (arith, h, measure)

pub item_less : (items : List (Vec Block Global)) (i : ℕ) (item : Vec Block Global) (blocks : List Block) (n : ℕ)
    → i < length items → item ≡ get_or items i item → blocks ≡ item.items
    → depth_of_items (flat_items (all_items_of items)) * 7 + 5 ≡ n
    → depth_among (flattened (blocks_of blocks)) * 7 + 4 < n
item_less items i item blocks n within is of_item measure =
    let h : depth_among (flattened (blocks_of item.items)) ≤ depth_of_items (flat_items (all_items_of items)) =
    depth-in-item (λ v. blocks_of v.items) items i item within is in
    let k : depth_among (flattened (blocks_of blocks)) ≡ depth_among (flattened (blocks_of item.items)) =
    ap (λ l. depth_among (flattened (blocks_of l))) of_item in
    omega (arith, h, k, measure)
