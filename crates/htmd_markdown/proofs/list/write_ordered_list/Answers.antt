-- One more block, and all of them joined.
use Rattle.std.proofs.Common.{rules, ℕ, List, ◌≡◌, ◌+◌, ◌-◌, ◌<◌, ◌^◌, length, map, map-id, arith, ap, ◌∷◌, [], ◌++◌}
use Rattle.std.proofs.Common.{◌∙◌, sym, subst}
use Rattle.std.proofs.lemmas.Iterator.Adapters.{YieldsList-from_vec}
use Rattle.std.proofs.lemmas.Iterator.Consumers.{YieldsList-turn, YieldsList-end}
use Rattle.std.proofs.lemmas.List.{map_push}
use Rattle.std.proofs.lemmas.Result.{IfOk-weaker}
use Rattle.std.specs.Prelude.{String}
use Rattle.std.specs.Global.{Global}
use Rattle.std.specs.String.{string_bytes}
use Rattle.htmd_markdown.specs.ListItems.{numbered_item}
use Rattle.htmd_markdown.specs.ListColumns.{HasEqualColumns}
use Rattle.htmd_markdown.specs.Lists.{item_count, block_of, numbered_blocks, highest_number, ordered_list}
use Rattle.htmd_markdown.specs.declared.list.ListBlock.{ListBlock}
use Rattle.htmd_text.specs.Joins.{joined_blocks}
use Rattle.htmd_markdown.proofs.ListColumnsLemmas.{columns_equal}
use Rattle.htmd_markdown.proofs.ListsLemmas.{items_in, item_count-append, numbered_more}
use Rattle.htmd_markdown.proofs.list.write_ordered_list.Goals as goal

abbrev bytes_of : String Global → List ℕ
bytes_of text = string_bytes text

pub overflow_add-number : goal.overflow_add-number
overflow_add-number c = omega (
  arith,
  items_in block_of c.deref.result.now,
  c.item_count.ensures,
  c.deref.ensures.len,
  ap length c.deref.ensures.value,
  c.args.blocks.small,
)

pub overflow_add-number-in-Item : goal.overflow_add-number-in-Item
overflow_add-number-in-Item c =
    let yields = YieldsList-from_vec {s = c.into_iter-block-iterator.result} c.args.blocks.items (search rules)
    (search rules) in
    let turn = YieldsList-turn yields c.loop-block.yielded _ c.loop-block.yielded_by c.next.result c.next.new.self
    c.in-Some.block c.in-Some.is c.next.ensures.steps in
    omega (
      arith,
      turn.0,
      c.loop-block.invariant.number,
      items_in block_of c.loop-block.yielded,
      c.deref.ensures.len,
      ap length c.deref.ensures.value,
    )

pub loop-block-preserved-in-Item : goal.loop-block-preserved-in-Item
loop-block-preserved-in-Item c =
    let before = map block_of c.loop-block.yielded in
    let more : map block_of (c.loop-block.yielded ++ c.in-Some.block ∷ []) ≡ before ++ block_of c.in-Some.block
    ∷ [] =
    map_push block_of c.loop-block.yielded c.in-Some.block in
    let count = ap item_count more ∙ item_count-append before (block_of c.in-Some.block ∷ []) in
    let one = ap (λ block. item_count (block_of block ∷ [])) c.in-Item.is in
    let numbers = numbered_blocks c.args.spacing c.saturating_sub-highest.result in
    let content = c.in_ok-write_numbered_item-in-Item.ensures
    ∙ ap (numbered_item c.args.spacing c.saturating_sub-highest.result c.loop-block.number) c.deref-in-Item.ensures
    in
    let text : numbers c.loop-block.number (block_of c.in-Some.block ∷ [])
    ≡ string_bytes c.in_ok-write_numbered_item-in-Item.field-0 ∷ [] =
    ap (λ block. numbers c.loop-block.number (block_of block ∷ [])) c.in-Item.is
    ∙ ap (λ l. l ∷ []) (sym content) in
    record {
      texts =
          ap (map bytes_of) c.in_ok-push-in-Item.ensures.items
          ∙ map_push bytes_of c.loop-block.texts.items c.in_ok-write_numbered_item-in-Item.field-0
          ∙ ap (λ l. l ++ bytes_of c.in_ok-write_numbered_item-in-Item.field-0 ∷ []) c.loop-block.invariant.texts
          ∙ sym (ap (numbers c.args.first) more
          ∙ numbered_more c.args.spacing c.saturating_sub-highest.result c.args.first c.loop-block.number before
          (block_of c.in-Some.block) _ c.loop-block.invariant.number text);
      number = omega (arith, c.loop-block.invariant.number, count, one);
    }

pub loop-block-preserved : goal.loop-block-preserved
loop-block-preserved c =
    let before = map block_of c.loop-block.yielded in
    let more : map block_of (c.loop-block.yielded ++ c.in-Some.block ∷ []) ≡ before ++ block_of c.in-Some.block
    ∷ [] =
    map_push block_of c.loop-block.yielded c.in-Some.block in
    let count = ap item_count more ∙ item_count-append before (block_of c.in-Some.block ∷ []) in
    let none = ap (λ block. item_count (block_of block ∷ [])) c.in-Other.is in
    let numbers = numbered_blocks c.args.spacing c.saturating_sub-highest.result in
    let text : numbers c.loop-block.number (block_of c.in-Some.block ∷ []) ≡ string_bytes c.in-Other.text ∷ [] =
    ap (λ block. numbers c.loop-block.number (block_of block ∷ [])) c.in-Other.is in
    record {
      texts =
          ap (map bytes_of) c.in_ok-push-in-Other.ensures.items
          ∙ map_push bytes_of c.loop-block.texts.items c.in-Other.text
          ∙ ap (λ l. l ++ bytes_of c.in-Other.text ∷ []) c.loop-block.invariant.texts
          ∙ sym (ap (numbers c.args.first) more
          ∙ numbered_more c.args.spacing c.saturating_sub-highest.result c.args.first c.loop-block.number before
          (block_of c.in-Some.block) _ c.loop-block.invariant.number text);
      number = omega (arith, c.loop-block.invariant.number, count, none);
    }

pub returns-clause-text : goal.returns-clause-text
returns-clause-text c =
    let yields = YieldsList-from_vec {s = c.into_iter-block-iterator.result} c.args.blocks.items (search rules)
    (search rules) in
    let all = YieldsList-end yields c.loop-block.yielded _ c.loop-block.yielded_by c.next.result c.next.new.self
    c.in-None.is c.next.ensures.steps in
    let whole : c.loop-block.yielded ≡ c.args.blocks.items = sym (map-id c.loop-block.yielded) ∙ all.0 in
    let given = ap (λ (blocks : List ListBlock). item_count (map block_of blocks)) c.deref.ensures.value in
    let highest : c.saturating_sub-highest.result ≡ highest_number c.args.first (map block_of c.args.blocks.items) =
    c.saturating_sub-highest.ensures ∙ ap (λ n. c.args.first + n - 1) (c.item_count.ensures ∙ given) in
    let texts =
    ap (map bytes_of) c.deref-2.ensures.value
    ∙ c.loop-block.invariant.texts
    ∙ ap (λ (blocks : List ListBlock). numbered_blocks c.args.spacing c.saturating_sub-highest.result c.args.first
    (map block_of blocks)) whole
    ∙ ap (λ n. numbered_blocks c.args.spacing n c.args.first (map block_of c.args.blocks.items)) highest in
    IfOk-weaker c.join_blocks.result _ (λ t. string_bytes t ≡ ordered_list c.args.first c.args.spacing
    (map block_of c.args.blocks.items)) (λ t e. e ∙ ap joined_blocks texts) c.join_blocks.ensures

pub returns-clause-columns : goal.returns-clause-columns
returns-clause-columns c =
    let blocks = map block_of c.args.blocks.items in
    let small : c.args.first + item_count blocks < 2 ^ 64 =
    omega (
      arith,
      c.ranges.first.fits,
      items_in block_of c.args.blocks.items,
      c.deref.ensures.len,
      ap length c.deref.ensures.value,
      c.args.blocks.small,
    ) in
    IfOk-weaker c.join_blocks.result _ (λ t. HasEqualColumns c.args.first c.args.spacing blocks (string_bytes t))
    (λ t e. subst (HasEqualColumns c.args.first c.args.spacing blocks) (sym e)
    (columns_equal c.args.first c.args.spacing blocks small)) (returns-clause-text c)
