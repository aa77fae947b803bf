use Rattle.std.proofs.Common.{◌≡◌, ◌∙◌, ◌+◌, true, false, cond, ap, sym, refl, string_bytes}
use Rattle.std.specs.HashSet.{contains_text}
use Rattle.std.specs.Str.{bytes_eq}
use Rattle.std.proofs.lemmas.Map.Text.{hash_set_updates_text}
use Rattle.htmd_lexical.specs.Attributes.{pairs_of}
use Rattle.htmd_document_of_tree.specs.Limits as spec
use Rattle.htmd_document_of_tree.proofs.LimitsLemmas.{again, counts-known, counts-new, not-false, not-true}
use Rattle.htmd_document_of_tree.proofs.limits.Written.note_pair.Goals as goal

pub returns-then-not-is_new : goal.returns-then-not-is_new
returns-then-not-is_new c = λ w known.
    let key = string_bytes c.in_ok-pair_of.field-0 in
    let pair : key ≡ spec.pair_of c.args.role (pairs_of c.args.attrs.now) = c.in_ok-pair_of.ensures in
    let held : contains_text c.args.self.now.pairs key ≡ true =
    not-true (contains_text c.args.self.now.pairs key) (sym c.in_ok-is_new.ensures.added ∙ c.if-not-is_new.true) in
    counts-known c.args.self.now _ w c.args.role (pairs_of c.args.attrs.now) refl
    (λ s. hash_set_updates_text key c.args.self.now.pairs c.insert.new.self true c.in_ok-is_new.ensures.updates s
    ∙ again c.args.self.now.pairs key s held)
    (sym (known.pairs (spec.pair_of c.args.role (pairs_of c.args.attrs.now)))
    ∙ (ap (λ k. contains_text c.args.self.now.pairs k) (sym pair) ∙ held))
    known

pub returns : goal.returns
returns c = λ w known.
    let attributes = pairs_of c.args.attrs.now in
    let key = string_bytes c.in_ok-pair_of.field-0 in
    let pair : key ≡ spec.pair_of c.args.role attributes = c.in_ok-pair_of.ensures in
    let held : contains_text c.args.self.now.pairs key ≡ false =
    not-false (contains_text c.args.self.now.pairs key) (sym c.in_ok-is_new.ensures.added ∙ c.if-not-is_new.false) in
    counts-new c.args.self.now _ w c.args.role attributes
    (c.in_ok-self.ensures ∙ ap (λ n. c.args.self.now.count + n) c.in_ok-size.ensures)
    (λ s. hash_set_updates_text key c.args.self.now.pairs c.insert.new.self true c.in_ok-is_new.ensures.updates s
    ∙ ap (λ k. cond (bytes_eq k s) true (contains_text c.args.self.now.pairs s)) pair)
    (sym (known.pairs (spec.pair_of c.args.role attributes))
    ∙ (ap (λ k. contains_text c.args.self.now.pairs k) (sym pair) ∙ held))
    known
