-- The text of an image or a link.
use Rattle.std.proofs.Common.{◌≡◌, ◌∙◌, ◌+◌, [], ◌∷◌, ◌++◌, List, length, drop, min, refl, ap, sym, subst, rules}
use Rattle.std.specs.Prelude.{reverse, if◌then◌else◌}
use Rattle.std.proofs.lemmas.List.{reverse-append}
use Rattle.htmd_commonmark_reading.specs.Brackets.{bracket}
use Rattle.htmd_parts.specs.Parts.{inlines_parts}
use Rattle.htmd_commonmark_reader.specs.Scans.{AreOpen}
use Rattle.htmd_commonmark_reader.specs.declared.brackets.Bracket.{Bracket}
use Rattle.htmd_commonmark_reader.specs.declared.brackets.Scan.{Scan}
use Rattle.htmd_commonmark_reader.proofs.ScansLemmas.{behind_slot, link_closed, lent, same_processed}
use Rattle.htmd_commonmark_reader.proofs.brackets.close_link.Goals as goal

pub begin_in-requires-clause-tokens : goal.begin_in-requires-clause-tokens
begin_in-requires-clause-tokens c =
    let o = c.args.scan.now in
    let k = c.in-Some.bracket in
    let ks = reverse c.pop.new.self.items in
    let last : reverse o.brackets.items ≡ k ∷ ks =
    ap reverse c.in-Some.ensures.items ∙ reverse-append c.pop.new.self.items (k ∷ []) in
    let open_are = subst (λ (e : List Bracket). AreOpen o.active
    (bracket c.requires.0 c.requires.1 c.requires.2 c.requires.3 c.requires.4) e o.slots.items o.runs.items) last
    c.requires.5.open_are in
    let behind = behind_slot o.active c.requires.0 c.requires.1 c.requires.2 c.requires.3 c.requires.4 k ks
    o.slots.items o.runs.items open_are in (
      behind.tokens,
      lent behind.tokens c.deref.result.now o.runs.items o.slots.items o.slots.items k.runs
          (k.slot + 1) c.deref.ensures.value refl behind.are,
    )

pub returns : goal.returns
returns c = λ i v text ts below h.
    let o = c.args.scan.now in
    let k = c.in-Some.bracket in
    let ks = reverse c.pop.new.self.items in
    let n : Scan = record {
      slots = c.push.new.self;
      runs = c.truncate.new.self;
      brackets = c.pop.new.self;
      active = c.active_after-scan.result;
    } in
    let begin = c.link_slots.result.0 in
    let end = c.link_slots.result.1 in
    let inner = drop (k.slot + 1) c.begin_in.new.slots.items in
    let last : reverse o.brackets.items ≡ k ∷ ks =
    ap reverse c.in-Some.ensures.items ∙ reverse-append c.pop.new.self.items (k ∷ []) in
    let open_are = subst (λ (e : List Bracket). AreOpen o.active (bracket i v text ts below) e o.slots.items
    o.runs.items) last h.open_are in
    let count : c.len.result ≡ length c.pop.new.self.items = search rules in
    let behind = behind_slot o.active i v text ts below k ks o.slots.items o.runs.items open_are in
    link_closed i v text ts below o n k ks inner begin end c.args.target refl open_are
    (record {
      slots_are = c.in_ok-push.ensures.items
          ∙ ap (λ l. l ++ (end ∷ []))
          c.in_ok-begin_in.ensures.slots;
      runs_are = c.truncate.ensures.items;
      active = c.active_after-scan.ensures
          ∙ ap (λ j. if k.is_image then min o.active j else j) count;
    })
    (c.in_ok-begin_in.ensures.parts behind.tokens
    (lent behind.tokens c.deref.result.now o.runs.items o.slots.items o.slots.items k.runs (k.slot + 1)
    c.deref.ensures.value refl behind.are)
    ∙ ap (λ x. inlines_parts x []) (sym (same_processed ts behind.tokens behind.alike)))
    c.link_slots.ensures
