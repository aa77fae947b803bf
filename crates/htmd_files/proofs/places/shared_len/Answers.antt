-- The first names that differ, or the end of one list.
use Rattle.std.proofs.Common.{◌∙◌, sym, arith, []}
use Rattle.std.proofs.lemmas.List.Sums.{common_prefix_len-drop_no}
use Rattle.htmd_files.proofs.PathsLemmas.{same_name, shared_texts, shared_past_a, shared_past_b}
use Rattle.htmd_files.proofs.places.shared_len.Goals as goal

pub returns-else-eq-clause-value : goal.returns-else-eq-clause-value
returns-else-eq-clause-value c =
    let s = shared_texts c.args.a.now c.args.b.now in
    let d = common_prefix_len-drop_no same_name c.args.a.now c.args.b.now c.loop-len.len
    (record { ref_ptr = (0, 0); now = [] }) (record { ref_ptr = (0, 0); now = [] }) c.loop-len-test.true
    c.if-len-b.true (sym c.eq.ensures ∙ c.if-eq.false) in
    omega (arith, s, d)

pub returns-else-len-b-clause-value : goal.returns-else-len-b-clause-value
returns-else-len-b-clause-value c =
    let s = shared_texts c.args.a.now c.args.b.now in
    let d = shared_past_b c.args.a.now c.args.b.now c.loop-len.len c.if-len-b.false in
    omega (arith, s, d)

pub returns-after-loop-len-clause-value : goal.returns-after-loop-len-clause-value
returns-after-loop-len-clause-value c =
    let s = shared_texts c.args.a.now c.args.b.now in
    let d = shared_past_a c.args.a.now c.args.b.now c.loop-len.len c.loop-len-test.false in
    omega (arith, s, d)
