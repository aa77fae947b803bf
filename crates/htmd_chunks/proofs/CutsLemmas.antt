-- What is cut is joined again.
use Rattle.std.proofs.Common.{◌≡◌, ℕ, suc, ◌+◌, ◌-◌, Bool, true, false, cond, List, [], ◌∷◌, ◌++◌, map, refl}
use Rattle.std.proofs.Common.{sym, ap}
use Rattle.std.proofs.Common.{◌∙◌, ◌⊎◌, inl, inr, subst, append_assoc}
use Rattle.std.specs.Prelude.{◌&&◌, nat_le, Option, replicate}
use Rattle.std.proofs.lemmas.List.{append-nil}
use Rattle.htmd_document.specs.declared.document.Alignment.{Alignment}
use Rattle.htmd_document.specs.Documents.{Inlines, Block, paragraph, heading, code_block, quote}
use Rattle.htmd_document.specs.Documents.{thematic_break, list, table, element, tags, Blocks, no_blocks, block}
use Rattle.htmd_document.specs.Documents.{blocks_of, Items, no_items, item, items_of}
use Rattle.htmd_document.specs.FlatDocuments.{flat_items}
use Rattle.htmd_document.specs.NormalDocuments.{item_count as count_of}
use Rattle.htmd_document.specs.NormalDocuments.{is_normal_block, are_normal_blocks, are_normal_items, has_filled_item}
use Rattle.htmd_document.specs.NormalDocuments.{is_normal_list, are_short_numbers, has_right_distance}
use Rattle.htmd_document.specs.TightItems.{is_filled}
use Rattle.htmd_commonmark.specs.BlockMarkdown.{item_count}
use Rattle.htmd_chunks.specs.Cuts.{block_part, leaf_parts, whole, quote_part, quote_parts, cost_of_last, cut, filled}
use Rattle.htmd_chunks.specs.Cuts.{cost_of_last_blocks, items_filled}
use Rattle.htmd_chunks.specs.Fillings.{Part, BlockPart, Filling, filling, parts_in, with_whole, with_heads}
use Rattle.htmd_chunks.specs.Fillings.{with_parts}
use Rattle.htmd_chunks.specs.Fillings.{ListFilling, list_filling, list_parts_in, list_with_room, list_gap_in}
use Rattle.htmd_chunks.specs.Fillings.{with_whole_items, with_item_parts, with_empty_items}
use Rattle.htmd_chunks.specs.Joins.{blocks_behind, items_behind, join}
use Rattle.htmd_chunks.specs.Least.{is_heading, is_too_large, least, least_among, empties_before, group_cost}
use Rattle.htmd_chunks.specs.Measures.{gap, block_cost, heads_cost, empties_cost, item_width}
use Rattle.htmd_chunks.specs.Rows.{rows_cost, table_parts}
use Rattle.htmd_chunks.specs.Runs.{together}
use Rattle.htmd_chunks.specs.Sizes.{in_quote, in_item}
use Rattle.htmd_chunks.specs.declared.bounds.Bounds.{Bounds}
use Rattle.htmd_chunks.specs.declared.bounds.ListShape.{ListShape}
use Rattle.htmd_chunks.specs.declared.joint.Joint.TheVariants as joint
use Rattle.htmd_chunks.specs.declared.size.Margin.{Margin}
use Rattle.htmd_chunks.proofs.CodeLinesLemmas.{code-parts}
use Rattle.htmd_chunks.proofs.FillingsLemmas.{joined_in, IsBegun, own, merged, GoOn, no_parts, goes_on, AreParts}
use Rattle.htmd_chunks.proofs.FillingsLemmas.{parts_of, whole-joined, whole-begun, heads-joined, heads-begun}
use Rattle.htmd_chunks.proofs.FillingsLemmas.{parts-joined, parts-begun, go_on-so}
use Rattle.htmd_chunks.proofs.JoinsLemmas.{behind-none, behind-assoc, blocks_of-append, join-none, parts_joined}
use Rattle.htmd_chunks.proofs.ListsLemmas.{items-none, items-assoc, IsGoing, at_start, at_first, Placed, items_so_far}
use Rattle.htmd_chunks.proofs.ListsLemmas.{put-items, list_room-items, list_room-going, going-grown, room-placed}
use Rattle.htmd_chunks.proofs.ListsLemmas.{item_parts-items, item_parts-going, item_parts-placed, placed-parts}
use Rattle.htmd_chunks.proofs.ListsLemmas.{empties, behind_empties, empties-first, empties-around, list-parts}
use Rattle.htmd_chunks.proofs.ListsLemmas.{AreOfList, all_items}
use Rattle.htmd_chunks.proofs.RunsLemmas.{and_left, and_right, runs-together, runs-some, IsSomething}
use Rattle.htmd_chunks.proofs.RunsLemmas.{something}
use Rattle.htmd_chunks.proofs.WordsLemmas.{paragraph-parts}

-- ---- leaves

pub whole-parts : (b : Block) → AreParts b (whole b)
whole-parts b = parts_of (block_part [] b) [] no_parts

-- ---- tables

pub rows-merged : (alignments : List Alignment) (header : List Inlines) (rows : List (List Inlines))
    (rest : List (List (List Inlines)))
    → merged (table alignments header rows)
    (map (block_part (joint.Table ∷ [])) (map (table alignments header) rest))
    ≡ table alignments header (rows ++ together rest)
rows-merged alignments header rows [] = ap (table alignments header) (sym (append-nil rows))
rows-merged alignments header rows (run ∷ rest) =
    rows-merged alignments header (rows ++ run) rest
    ∙ ap (table alignments header) (append_assoc rows run (together rest))

table-of : (alignments : List Alignment) (header : List Inlines) (rows : List (List Inlines))
    (parts : List (List (List Inlines))) → IsSomething parts → together parts ≡ rows
    → AreParts (table alignments header rows) (leaf_parts joint.Table (map (table alignments header) parts))
table-of alignments header rows parts (something run rest) is =
    subst (λ (b : Block). AreParts b (leaf_parts joint.Table (map (table alignments header) (run ∷ rest))))
    (rows-merged alignments header run rest ∙ ap (table alignments header) is)
    (parts_of (block_part [] (table alignments header run))
    (map (block_part (joint.Table ∷ [])) (map (table alignments header) rest))
    (go_on-so joint.Table (map (table alignments header) rest)))

pub table-parts : (c : Bounds) (m : Margin) (first : ℕ) (alignments : List Alignment) (header : List Inlines)
    (rows : List (List Inlines))
    → AreParts (table alignments header rows) (cut c m first (table alignments header rows))
table-parts c m first alignments header rows =
    table-of alignments header rows (table_parts c m first alignments header rows)
    (runs-some (rows_cost c.options m alignments header) c.most first rows)
    (runs-together (rows_cost c.options m alignments header) c.most first rows)

-- ---- quotes

append-some : {X : Type 0} (xs : List X) (x : X) → IsSomething (xs ++ x ∷ [])
append-some [] x = something x []
append-some (y ∷ ys) x = something y (ys ++ x ∷ [])

quotes-merged : (a : Blocks) (parts : List Part)
    → merged (quote a) (map quote_part parts) ≡ quote (parts_joined a parts)
quotes-merged a [] = refl
quotes-merged a (p ∷ parts) = quotes-merged (join p.continues a (blocks_of p.blocks)) parts

quotes-go_on : (parts : List Part) → GoOn (map quote_part parts)
quotes-go_on [] = no_parts
quotes-go_on (p ∷ parts) =
    goes_on (quote (blocks_of p.blocks)) joint.Quote p.continues (map quote_part parts) (quotes-go_on parts)

quote-of : (content : Blocks) (parts : List Part) → IsSomething parts → parts_joined no_blocks parts ≡ content
    → AreParts (quote content) (quote_parts parts)
quote-of content parts (something p rest) is =
    subst (λ (b : Block). AreParts b (quote_parts (p ∷ rest)))
    (quotes-merged (blocks_of p.blocks) rest
    ∙ ap (λ a. quote (parts_joined a rest)) (sym (join-none p.continues (blocks_of p.blocks))) ∙ ap quote is)
    (parts_of (block_part [] (quote (blocks_of p.blocks))) (map quote_part rest) (quotes-go_on rest))

-- ---- all of it

-- a heading more before what is behind
moved : (a : Blocks) (heads : List Block) (b : Block) (rest : Blocks)
    → blocks_behind (blocks_behind a (blocks_of (heads ++ b ∷ []))) rest
    ≡ blocks_behind (blocks_behind a (blocks_of heads)) (block b rest)
moved a heads b rest =
    ap (λ l. blocks_behind (blocks_behind a l) rest) (blocks_of-append heads (b ∷ []))
    ∙ ap (λ l. blocks_behind l rest) (sym (behind-assoc a (blocks_of heads) (block b no_blocks)))
    ∙ behind-assoc (blocks_behind a (blocks_of heads)) (block b no_blocks) rest

-- a list's parts follow each other
pub items-placed : (c : Bounds) (m : Margin) (l : ListShape) (f : ListFilling) (k before : ℕ) (items : Items)
    → Placed l f → Placed l (items_filled c m l f k before items)
items-placed c m l f k before no_items placed = placed
items-placed c m l f k before (item no_blocks rest) placed = items-placed c m l f (suc k) before rest placed
items-placed c m l f k before (item (block b bs) rest) placed =
    let content = block b bs in
    let place = k - before in
    let heads = empties_cost m l place before in
    let after = empties_before rest in
    let all = group_cost c m l k heads content after in
    let within = in_item (item_width c.options l k) m in
    let between = gap m l.is_tight in
    let group = replicate before no_blocks ++ content ∷ replicate after no_blocks in
    let kept = with_whole_items c.most between l f place group all in
    let least_bytes = heads + least_among c within l.is_tight 0 content in
    let g = list_with_room c.most between l f place least_bytes in
    let room = g.free - (g.used + list_gap_in between g + heads) in
    let parts = parts_in (filled c within l.is_tight (filling room) [] content) in
    let h : ListFilling = record g { now = g.now ++ replicate before no_blocks } in
    let last = cost_of_last_blocks c within l.is_tight parts in
    let begun = with_item_parts c.most between l h k parts heads last in
    let cut_off = with_empty_items begun after (empties_cost m l (suc k) after) in
    elim (nat_le all c.most)
    as (λ b. Placed l (items_filled c m l (cond b kept cut_off) (suc k) 0 rest)) [
      | true ↦ items-placed c m l kept (suc k) 0 rest (room-placed c.most between l f place all placed)
      | false ↦
          items-placed c m l cut_off (suc k) 0 rest
          (item_parts-placed c.most between l h k parts heads last
          (room-placed c.most between l f place least_bytes placed))
    ]

-- a list with an item that isn't empty is cut, and another isn't
list-either : (l : ListShape) (items : Items) (parts : List BlockPart) → AreOfList l parts
    → (has_filled_item items ≡ true → all_items no_items parts ≡ items)
    → has_right_distance l.is_tight (flat_items items) ≡ true
    → (e : Bool) → has_filled_item items ≡ e
    → AreParts (list l.start l.is_tight items) (cond e parts (whole (list l.start l.is_tight items)))
list-either l items parts are all right true e = list-parts l items parts are (all e) right
list-either l items parts are all right false e = whole-parts (list l.start l.is_tight items)

-- of a normal list
list-distance : (start : Option ℕ) (is_tight : Bool) (items : Items) → is_normal_list start is_tight items ≡ true
    → has_right_distance is_tight items ≡ true
list-distance start is_tight items normal =
    and_right (has_filled_item items && are_short_numbers start (count_of items)) (has_right_distance is_tight items)
    normal

mutual
  pub cut-parts : (c : Bounds) (m : Margin) (first : ℕ) (in_item : Bool) (b : Block)
      → is_normal_block in_item b ≡ true → AreParts b (cut c m first b)
  cut-parts c m first in_item (quote content) normal =
      let f = filled c (in_quote m) false (filling first) [] content in
      quote-of content (parts_in f) (append-some f.done (record { blocks = f.now; continues = f.continues }))
      (filled-joined c (in_quote m) false no_blocks (filling first) [] content false (own [])
      (and_right (is_filled content) (are_normal_blocks false content) normal))
  cut-parts c m first in_item (list start is_tight items) normal =
      let l : ListShape = record { start = start; is_tight = is_tight; count = item_count items } in
      let f = items_filled c m l (list_filling first) 0 (empties_before items) items in
      let right = list-distance start is_tight (flat_items items) (and_left
      (is_normal_list start is_tight (flat_items items)) (are_normal_items items) normal) in
      let inside = and_right (is_normal_list start is_tight (flat_items items)) (are_normal_items items) normal in
      list-either l items (list_parts_in l f)
      (placed-parts l f.done f.first f.continues f.now
      (items-placed c m l (list_filling first) 0 (empties_before items) items at_first))
      (λ some. items-joined c m l (list_filling first) 0 (empties_before items) items (at_start []) inside (inr some)
      ∙ empties-first items)
      right (has_filled_item items) refl
  cut-parts c m first in_item (table alignments header rows) normal = table-parts c m first alignments header rows
  cut-parts c m first in_item (code_block language s) normal = code-parts c m first language s
  cut-parts c m first in_item (paragraph content) normal = paragraph-parts c m first in_item content normal
  cut-parts c m first in_item (heading level content) normal = whole-parts (heading level content)
  cut-parts c m first in_item thematic_break normal = whole-parts thematic_break
  cut-parts c m first in_item (element name attributes content) normal =
      whole-parts (element name attributes content)
  cut-parts c m first in_item (tags s) normal = whole-parts (tags s)

  pub filled-joined : (c : Bounds) (m : Margin) (is_tight : Bool) (d : Blocks) (f : Filling) (heads : List Block)
      (blocks : Blocks) (in_item : Bool) → IsBegun f.continues f.now → are_normal_blocks in_item blocks ≡ true
      → joined_in d (filled c m is_tight f heads blocks)
      ≡ blocks_behind (blocks_behind (joined_in d f) (blocks_of heads)) blocks
  filled-joined c m is_tight d f [] no_blocks in_item begun normal =
      sym (behind-none (blocks_behind (joined_in d f) no_blocks) ∙ behind-none (joined_in d f))
  filled-joined c m is_tight d f (h ∷ heads) no_blocks in_item begun normal =
      whole-joined d c.most (gap m is_tight) f (h ∷ heads)
      (heads_cost c.options m is_tight (h ∷ heads) - gap m is_tight) begun
      ∙ sym (behind-none (blocks_behind (joined_in d f) (blocks_of (h ∷ heads))))
  filled-joined c m is_tight d f heads (block first rest) in_item begun normal =
      let gap_bytes = gap m is_tight in
      let taken = heads_cost c.options m is_tight heads in
      let others = and_right (is_normal_block in_item first) (are_normal_blocks false rest) normal in
      let g = with_heads c.most gap_bytes f heads taken (taken + least c m first) in
      let parts = cut c m (g.free - g.used) first in
      let are = cut-parts c m (g.free - g.used) in_item first
      (and_left (is_normal_block in_item first) (are_normal_blocks false rest) normal) in
      let g_begun = heads-begun c.most gap_bytes f heads taken (taken + least c m first) begun in
      let last = cost_of_last c m parts in
      let cut_off = with_parts c.most g parts last in
      let together = taken + block_cost c.options m first in
      let kept = with_whole c.most gap_bytes f (heads ++ first ∷ []) together in
      let before = blocks_behind (joined_in d f) (blocks_of heads) in
      elim (is_heading first)
      as (λ b. joined_in d (cond b (filled c m is_tight f (heads ++ first ∷ []) rest)
      (filled c m is_tight (cond (is_too_large c m taken first) cut_off kept) [] rest))
      ≡ blocks_behind before (block first rest)) [
        | true ↦
            filled-joined c m is_tight d f (heads ++ first ∷ []) rest false begun others
            ∙ moved (joined_in d f) heads first rest
        | false ↦
            elim (is_too_large c m taken first)
            as (λ b. joined_in d (filled c m is_tight (cond b cut_off kept) [] rest)
            ≡ blocks_behind before (block first rest)) [
              | true ↦
                  filled-joined c m is_tight d cut_off [] rest false
                  (parts-begun c.most g first parts last are g_begun) others
                  ∙ ap (λ l. blocks_behind l rest) (behind-none (joined_in d cut_off))
                  ∙ ap (λ l. blocks_behind l rest)
                  (parts-joined d c.most g first parts last are g_begun
                  ∙ ap (λ l. blocks_behind l (block first no_blocks))
                  (heads-joined d c.most gap_bytes f heads taken (taken + least c m first) begun))
                  ∙ behind-assoc before (block first no_blocks) rest
              | false ↦
                  filled-joined c m is_tight d kept [] rest false
                  (whole-begun c.most gap_bytes f (heads ++ first ∷ []) together begun) others
                  ∙ ap (λ l. blocks_behind l rest) (behind-none (joined_in d kept))
                  ∙ ap (λ l. blocks_behind l rest)
                  (whole-joined d c.most gap_bytes f (heads ++ first ∷ []) together begun)
                  ∙ moved (joined_in d f) heads first rest
            ]
      ]

  pub items-joined : (c : Bounds) (m : Margin) (l : ListShape) (f : ListFilling) (k before : ℕ) (items : Items)
      → IsGoing f.continues f.now → are_normal_items items ≡ true
      → (before ≡ 0) ⊎ (has_filled_item items ≡ true)
      → items_so_far l (items_filled c m l f k before items)
      ≡ items_behind (items_so_far l f) (items_behind (empties before) (behind_empties items))
  items-joined c m l f k before no_items going normal (inl at_zero) =
      sym (ap (λ n. items_behind (items_so_far l f) (items_behind (empties n) no_items)) at_zero
      ∙ items-none (items_so_far l f))
  items-joined c m l f k before no_items going normal (inr some) = absurd (cc)
  items-joined c m l f k before (item no_blocks rest) going normal some =
      items-joined c m l f (suc k) before rest going normal some
  items-joined c m l f k before (item (block b bs) rest) going normal some =
      let content = block b bs in
      let place = k - before in
      let heads = empties_cost m l place before in
      let after = empties_before rest in
      let all = group_cost c m l k heads content after in
      let within = in_item (item_width c.options l k) m in
      let between = gap m l.is_tight in
      let inside = and_left (are_normal_blocks true content) (are_normal_items rest) normal in
      let others = and_right (are_normal_blocks true content) (are_normal_items rest) normal in
      let group = replicate before no_blocks ++ content ∷ replicate after no_blocks in
      let far = items_so_far l f in
      let kept = with_whole_items c.most between l f place group all in
      let room_f = list_with_room c.most between l f place all in
      let kept_going = list_room-going c.most between l f place all going in
      let least_bytes = heads + least_among c within l.is_tight 0 content in
      let g = list_with_room c.most between l f place least_bytes in
      let g_going = list_room-going c.most between l f place least_bytes going in
      let room = g.free - (g.used + list_gap_in between g + heads) in
      let parts = parts_in (filled c within l.is_tight (filling room) [] content) in
      let h : ListFilling = record g { now = g.now ++ replicate before no_blocks } in
      let h_going = going-grown g.continues g.now (replicate before no_blocks) g_going in
      let last = cost_of_last_blocks c within l.is_tight parts in
      let begun = with_item_parts c.most between l h k parts heads last in
      let cut_off = with_empty_items begun after (empties_cost m l (suc k) after) in
      let begun_going = item_parts-going c.most between l h k parts heads last h_going in
      let whole_list = items_behind far (items_behind (empties before) (item content rest)) in
      let ends : (x : Items) → x ≡ items_behind far (items_behind (empties before) (item content (empties after)))
      → items_behind x (items_behind (empties 0) (behind_empties rest)) ≡ whole_list =
      λ x is. ap (λ y. items_behind y (behind_empties rest)) is
      ∙ items-assoc far (items_behind (empties before) (item content (empties after))) (behind_empties rest)
      ∙ ap (items_behind far) (items-assoc (empties before) (item content (empties after)) (behind_empties rest))
      ∙ ap (λ y. items_behind far (items_behind (empties before) (item content y))) (empties-first rest) in
      elim (nat_le all c.most)
      as (λ b. items_so_far l (items_filled c m l (cond b kept cut_off) (suc k) 0 rest) ≡ whole_list) [
        | true ↦
            items-joined c m l kept (suc k) 0 rest
            (going-grown room_f.continues room_f.now group kept_going) others (inl refl)
            ∙ ends (items_so_far l kept)
            (put-items l room_f kept group kept_going refl refl refl
            ∙ ap (λ y. items_behind y (items_of group)) (list_room-items c.most between l f place all)
            ∙ ap (items_behind far) (empties-around before after content))
        | false ↦
            items-joined c m l cut_off (suc k) 0 rest
            (going-grown begun.continues begun.now (replicate after no_blocks) begun_going) others (inl refl)
            ∙ ends (items_so_far l cut_off)
            (put-items l begun cut_off (replicate after no_blocks) begun_going refl refl refl
            ∙ ap (λ y. items_behind y (empties after))
            (item_parts-items c.most between l h k parts heads last b bs h_going
            (filled-joined c within l.is_tight no_blocks (filling room) [] (block b bs) true (own []) inside)
            ∙ ap (λ y. items_behind y (item content no_items))
            (put-items l g h (replicate before no_blocks) g_going refl refl refl
            ∙ ap (λ y. items_behind y (empties before)) (list_room-items c.most between l f place least_bytes)))
            ∙ items-assoc (items_behind far (empties before)) (item content no_items) (empties after)
            ∙ items-assoc far (empties before) (item content (empties after)))
      ]
