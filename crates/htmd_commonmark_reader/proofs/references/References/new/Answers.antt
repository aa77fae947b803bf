-- One definition more.
use Rattle.std.proofs.Common.{◌≡◌, ◌-◌, ◌∙◌, ap, arith, drop, rules, string_bytes}
use Rattle.std.specs.Prelude.{map}
use Rattle.htmd_commonmark_reader.specs.Definitions.{held_of}
use Rattle.htmd_commonmark_reader.specs.Keys.{with_key}
use Rattle.htmd_commonmark_reader.proofs.ReferencesLemmas.{definition_more}
use Rattle.htmd_commonmark_reader.proofs.references.References.new.Goals as goal

pub loop-left-preserved : goal.loop-left-preserved
loop-left-preserved c =
    let ds = c.args.definitions.items in
    let left = c.loop-left.left - 1 in
    let same : c.in_ok-key.key.items ≡ string_bytes c.index.result.now.key = search rules in
    record {
      within = omega arith;
      kept = definition_more ds left c.index.result.now c.loop-left.places c.insert.new.self c.in_ok-key.key
          (omega arith) c.index.ensures same c.in_ok-insert.ensures.updates
          (λ text. c.loop-left.invariant.kept text
          ∙ ap (λ n. with_key (map held_of (drop n ds)) text) (omega arith));
    }
