-- A part more, and all parts between headings.
use Rattle.std.proofs.Common.{◌≡◌, ◌+◌, ◌-◌, ◌++◌, [], true, false, length, map, take, drop}
use Rattle.std.proofs.Common.{sym, ap, ◌∙◌, append_assoc, arith}
use Rattle.std.specs.Prelude.{◌&&◌, nat_le, nat_lt, List}
use Rattle.std.proofs.lemmas.Bool.Decides.{nat_tests}
use Rattle.std.proofs.lemmas.List.{length-map, get_or_read}
use Rattle.std.proofs.Math.Seq.{drop-length}
use Rattle.htmd_document.specs.Documents as value
use Rattle.htmd_document.specs.DocumentViews.{block_of}
use Rattle.htmd_commonmark.proofs.BlocksLemmas.{on_ok}
use Rattle.htmd_chunks.specs.Sections as spec
use Rattle.htmd_chunks.specs.declared.sections.Section.{Section}
use Rattle.htmd_chunks.proofs.GatherLemmas.{total-is, gather_more, gather_alone, gather_cut, part_more, part_begun}
use Rattle.htmd_chunks.specs.Sections.{end_in_other}
use Rattle.htmd_chunks.proofs.GatherLemmas.{ends-before, none-before, at_index, and-false, same_state, slice_costs}
use Rattle.htmd_chunks.proofs.GatherLemmas.{rest_costs}
use Rattle.htmd_chunks.proofs.sections.+sections.Goals.{push_part-else-gathered-gt0-via-else-gathered-gt0}
use Rattle.htmd_chunks.proofs.sections.+sections.Goals.{push_part-else-gathered-gt0-via-then-gathered-gt0+else-together-bounds}
use Rattle.htmd_chunks.proofs.sections.+sections.Goals.{push_level-then-i-from+then-begins_part+in_ok-gathered}
use Rattle.htmd_chunks.proofs.sections.+sections.Goals.{push_level-else-i-from, push_level-else-i-from-via-else-i-from}
use Rattle.htmd_chunks.proofs.sections.+sections.Goals.{push_level-else-i-from-via-then-i-from+else-begins_part}
use Rattle.htmd_chunks.proofs.sections.+sections.Goals as goal

pub push_part-returns-then-together-bounds : goal.push_part-returns-then-together-bounds
push_part-returns-then-together-bounds t c =
    let bounds = c.args.bounds.now in
    let blocks = c.args.blocks.now in
    let part = map block_of blocks in
    let further : List value.Block → List Section = λ p. spec.sections bounds c.args.lower.now p in
    let count = c.args.gathered.count in
    let used = c.args.gathered.used in
    let taken : c.in_ok-bytes.bytes ≡ spec.total_cost bounds part =
    c.in_ok-bytes.ensures ∙ ap spec.total c.requires ∙ total-is bounds part in
    let together : c.in_ok-together.together ≡ used + 2 + spec.total_cost bounds part =
    omega (arith, c.in_ok-together.ensures, c.in_ok-sum.ensures, taken) in
    let some : nat_lt 0 count ≡ true = grind (arith, nat_tests, c.if-gathered-gt0.true) in
    let fits : nat_le (used + 2 + spec.total_cost bounds part) bounds.most ≡ true =
    grind (arith, nat_tests, c.if-together-bounds.true, together) in
    let both : (nat_lt 0 count && nat_le (used + 2 + spec.total_cost bounds part) bounds.most) ≡ true =
    ap (λ b. b && nat_le (used + 2 + spec.total_cost bounds part) bounds.most) some ∙ fits in
    let counted : count + length part ≡ c.in_ok-sum-2.field-0 =
    omega (arith, c.in_ok-sum-2.ensures, length-map blocks block_of) in
    λ parts. ap (λ l. c.args.done.now.items ++ l)
    (gather_more bounds further count used part parts both
    ∙ ap (λ n. spec.gathered bounds further n (used + 2 + spec.total_cost bounds part) parts) counted
    ∙ ap (λ n. spec.gathered bounds further c.in_ok-sum-2.field-0 n parts) (sym together))

pub push_part-returns-then-bytes-bounds : goal.push_part-returns-then-bytes-bounds
push_part-returns-then-bytes-bounds t c =
    let bounds = c.args.bounds.now in
    let blocks = c.args.blocks.now in
    let part = map block_of blocks in
    let further : List value.Block → List Section = λ p. spec.sections bounds c.args.lower.now p in
    let count = c.args.gathered.count in
    let used = c.args.gathered.used in
    let done = c.args.done.now.items in
    let taken : c.in_ok-bytes.bytes ≡ spec.total_cost bounds part =
    c.in_ok-bytes.ensures ∙ ap spec.total c.requires ∙ total-is bounds part in
    let together : c.in_ok-together.together ≡ used + 2 + spec.total_cost bounds part =
    omega (arith, c.in_ok-together.ensures, c.in_ok-sum.ensures, taken) in
    let apart : (nat_lt 0 count && nat_le (used + 2 + spec.total_cost bounds part) bounds.most) ≡ false =
    elim c.else-gathered-gt0.branch [
      | push_part-else-gathered-gt0-via-then-gathered-gt0+else-together-bounds w ↦
          let some : nat_lt 0 count ≡ true = grind (arith, nat_tests, w.if-gathered-gt0.true) in
          let over : nat_le (used + 2 + spec.total_cost bounds part) bounds.most ≡ false =
          grind (arith, nat_tests, w.if-together-bounds.false, together) in
          ap (λ b. b && nat_le (used + 2 + spec.total_cost bounds part) bounds.most) some ∙ over
      | push_part-else-gathered-gt0-via-else-gathered-gt0 w ↦
          let none : nat_lt 0 count ≡ false = grind (arith, nat_tests, w.if-gathered-gt0.false) in
          ap (λ b. b && nat_le (used + 2 + spec.total_cost bounds part) bounds.most) none
    ] in
    let fits : nat_le (spec.total_cost bounds part) bounds.most ≡ true =
    grind (arith, nat_tests, c.if-bytes-bounds.true, taken) in
    λ parts. ap (λ l. done ++ l)
    (gather_alone bounds further count used part parts apart fits)
    ∙ sym (append_assoc done (spec.fitting count) (spec.gathered bounds further (length part)
    (spec.total_cost bounds part) parts))
    ∙ ap (λ l. l ++ spec.gathered bounds further (length part) (spec.total_cost bounds part) parts)
    (sym c.in_ok-push_fitting.ensures)
    ∙ ap (λ n. c.push_fitting.new.done.items ++ spec.gathered bounds further n (spec.total_cost bounds part) parts)
    (length-map blocks block_of)
    ∙ ap (λ n. c.push_fitting.new.done.items ++ spec.gathered bounds further (length blocks) n parts) (sym taken)

pub push_part-returns : goal.push_part-returns
push_part-returns t c =
    let bounds = c.args.bounds.now in
    let blocks = c.args.blocks.now in
    let part = map block_of blocks in
    let further : List value.Block → List Section = λ p. spec.sections bounds c.args.lower.now p in
    let count = c.args.gathered.count in
    let used = c.args.gathered.used in
    let done = c.args.done.now.items in
    let taken : c.in_ok-bytes.bytes ≡ spec.total_cost bounds part =
    c.in_ok-bytes.ensures ∙ ap spec.total c.requires ∙ total-is bounds part in
    let together : c.in_ok-together.together ≡ used + 2 + spec.total_cost bounds part =
    omega (arith, c.in_ok-together.ensures, c.in_ok-sum.ensures, taken) in
    let apart : (nat_lt 0 count && nat_le (used + 2 + spec.total_cost bounds part) bounds.most) ≡ false =
    elim c.else-gathered-gt0.branch [
      | push_part-else-gathered-gt0-via-then-gathered-gt0+else-together-bounds w ↦
          let some : nat_lt 0 count ≡ true = grind (arith, nat_tests, w.if-gathered-gt0.true) in
          let over : nat_le (used + 2 + spec.total_cost bounds part) bounds.most ≡ false =
          grind (arith, nat_tests, w.if-together-bounds.false, together) in
          ap (λ b. b && nat_le (used + 2 + spec.total_cost bounds part) bounds.most) some ∙ over
      | push_part-else-gathered-gt0-via-else-gathered-gt0 w ↦
          let none : nat_lt 0 count ≡ false = grind (arith, nat_tests, w.if-gathered-gt0.false) in
          ap (λ b. b && nat_le (used + 2 + spec.total_cost bounds part) bounds.most) none
    ] in
    let over : nat_le (spec.total_cost bounds part) bounds.most ≡ false =
    grind (arith, nat_tests, c.if-bytes-bounds.false, taken) in
    λ parts. ap (λ l. done ++ l)
    (gather_cut bounds further count used part parts apart over)
    ∙ sym (append_assoc done (spec.fitting count) (further part ++ spec.gathered bounds further 0 0 parts))
    ∙ ap (λ l. l ++ (further part ++ spec.gathered bounds further 0 0 parts)) (sym c.in_ok-push_fitting.ensures)
    ∙ sym (append_assoc c.push_fitting.new.done.items (further part) (spec.gathered bounds further 0 0 parts))
    ∙ ap (λ l. l ++ spec.gathered bounds further 0 0 parts) (sym c.in_ok-push_sections.ensures)

pub push_level-push_part-requires : goal.push_level-push_part-requires
push_level-push_part-requires t c = (
  omega (arith, c.decreases),
  slice_costs c.args.bounds.now c.args.blocks.now c.args.costs.now c.loop-i.from (c.loop-i.i - c.loop-i.from)
      c.requires,
)

pub push_level-push_part-requires-2 : goal.push_level-push_part-requires-2
push_level-push_part-requires-2 t c = (
  omega (arith, c.decreases),
  rest_costs c.args.bounds.now c.args.blocks.now c.args.costs.now c.loop-i.from c.requires,
)

pub push_level-loop-i-preserved : goal.push_level-loop-i-preserved
push_level-loop-i-preserved t c =
    let bounds = c.args.bounds.now in
    let blocks = c.args.blocks.now in
    let level = c.args.level in
    let further : List value.Block → List Section = λ p. spec.sections bounds c.args.lower.now p in
    let l = c.loop-i in
    let i = l.i in
    let all = c.args.done.now.items
    ++ spec.gathered bounds further 0 0 (spec.level_parts level [] (map block_of blocks)) in
    let at = l.invariant.rest in
    elim c.if-i-from.branch [
      | push_level-then-i-from+then-begins_part+in_ok-gathered w ↦
          let b = w.index-blocks-i-then-i-from in
          let before = w.index-blocks-i in
          let begins : (spec.is_of_level level (block_of b.result)
          && end_in_other (map block_of (take (i - l.from) (drop l.from blocks)))) ≡ true =
          ap (λ e. spec.is_of_level level (block_of b.result) && e)
          (ends-before blocks l.from i before.result w.if-i-from.true (omega (arith, c.loop-i-test.true)) before.is)
          ∙ sym w.begins_part.ensures ∙ w.if-begins_part.true in
          let parts = spec.level_parts level (map block_of (take ((i + 1) - i) (drop i blocks)))
          (map block_of (drop (i + 1) blocks)) in
          record {
            rest = same_state bounds further level blocks (i + 1) all w.push_part.new.done.items c.if-i-from.done.items
                w.in_ok-gathered.gathered.count c.if-i-from.gathered.count w.in_ok-gathered.gathered.used
                c.if-i-from.gathered.used i c.if-i-from.from (ap (λ v. v.items) w.done-is)
                (ap (λ g. g.count) w.gathered-is) (ap (λ g. g.used) w.gathered-is) w.from-is
                (at ∙ ap (λ ps. l.done.items ++ spec.gathered bounds further l.gathered.count l.gathered.used ps)
                (part_begun level blocks l.from i b.result c.loop-i-test.true b.is begins)
                ∙ w.in_ok-gathered.ensures parts);
            from = omega (arith, w.from-is);
          }
      | push_level-else-i-from w ↦
          let there = at_index blocks i c.loop-i-test.true in
          let b = there.0 in
          let goes : (spec.is_of_level level (block_of b)
          && end_in_other (map block_of (take (i - l.from) (drop l.from blocks)))) ≡ false =
          elim w.else-i-from.branch [
            | push_level-else-i-from-via-then-i-from+else-begins_part x ↦
                let here = x.index-blocks-i-then-i-from in
                let before = x.index-blocks-i in
                let same : b ≡ here.result =
                get_or_read blocks i b c.loop-i-test.true there.1 here.result ∙ sym here.is in
                ap (λ z. spec.is_of_level level (block_of z)
                && end_in_other (map block_of (take (i - l.from) (drop l.from blocks)))) same
                ∙ ap (λ e. spec.is_of_level level (block_of here.result) && e)
                (ends-before blocks l.from i before.result x.if-i-from.true (omega (arith, c.loop-i-test.true))
                before.is)
                ∙ sym x.begins_part.ensures ∙ x.if-begins_part.false
            | push_level-else-i-from-via-else-i-from x ↦
                and-false (spec.is_of_level level (block_of b))
                (end_in_other (map block_of (take (i - l.from) (drop l.from blocks))))
                (none-before blocks l.from i x.if-i-from.false)
          ] in
          record {
            rest = same_state bounds further level blocks (i + 1) all l.done.items c.if-i-from.done.items
                l.gathered.count c.if-i-from.gathered.count l.gathered.used c.if-i-from.gathered.used l.from
                c.if-i-from.from (ap (λ v. v.items) w.done-is) (ap (λ g. g.count) w.gathered-is)
                (ap (λ g. g.used) w.gathered-is) w.from-is
                (at ∙ ap (λ ps. l.done.items ++ spec.gathered bounds further l.gathered.count l.gathered.used ps)
                (part_more level blocks l.from i b l.invariant.from c.loop-i-test.true there.1 goes));
            from = omega (arith, w.from-is, l.invariant.from);
          }
    ]

pub push_level-returns : goal.push_level-returns
push_level-returns t c =
    let bounds = c.args.bounds.now in
    let blocks = c.args.blocks.now in
    let level = c.args.level in
    let further : List value.Block → List Section = λ p. spec.sections bounds c.args.lower.now p in
    let l = c.loop-i in
    let ends : l.i ≡ length blocks = omega (arith, c.loop-i-test.false, l.auto.i-end) in
    let begun = map block_of (take (length blocks - l.from) (drop l.from blocks)) in
    on_ok c.push_fitting.result c.push_fitting.ensures (λ put.
    put ∙ sym (c.in_ok-gathered-2.ensures [])
    ∙ ap (λ bs. l.done.items ++ spec.gathered bounds further l.gathered.count l.gathered.used
    (spec.level_parts level begun (map block_of bs))) (sym (drop-length blocks))
    ∙ ap (λ n. l.done.items ++ spec.gathered bounds further l.gathered.count l.gathered.used
    (spec.level_parts level (map block_of (take (n - l.from) (drop l.from blocks))) (map block_of (drop n blocks))))
    (sym ends)
    ∙ sym l.invariant.rest)
