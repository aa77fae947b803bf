-- A search goes from a tag's newest registration to the older ones.
use Rattle.std.proofs.Common.{◌≡◌, ◌<◌, ◌-◌, suc, ◌∙◌, ap, sym, subst, arith, map, length, Some, get_or, rules}
use Rattle.std.proofs.lemmas.List.{length-map}
use Rattle.htmd_walk.specs.Choice.{TagIndex}
use Rattle.htmd_walk.proofs.WalkingLemmas.{none_of}
use Rattle.htmd_walk.specs.TagIndexes.{tag_index}
use Rattle.htmd_walk.proofs.LatestLemmas.{search_begins, search_finds, search_ends, search_goes_on, search_fails, bound}
use Rattle.htmd_walk.proofs.LatestLemmas.{bound_begins, bound_falls, registered_at, older_at}
use Rattle.htmd_walk.proofs.element_handler.registrations.Registrations.find.Goals as goal

pub loop-position-init : goal.loop-position-init
loop-position-init c =
    let items = c.args.self.now.all.items in
    let rs = map tag_index items in
    let e = c.copied-position.ensures ∙ c.get.ensures.value ∙ c.args.self.now.newest_is c.args.tag.now in
    let b = bound_begins c.args.tag.now rs c.copied-position.result e in
    record {
      search = search_begins c.args.tag.now rs c.args.skipped c.copied-position.result e;
      passed = omega (arith, length-map items tag_index);
    }

pub returns-then-left-eq0-clause-value : goal.returns-then-left-eq0-clause-value
returns-then-left-eq0-clause-value c =
    let items = c.args.self.now.all.items in
    let r = c.index-registration.result.now in
    let found = search_finds c.args.tag.now (map tag_index items) c.args.skipped c.loop-position.left c.in-Some.at
    c.loop-position.position c.in-Some.is c.loop-position.invariant.search in
    ap (λ (x : TagIndex). Some x.index) (registered_at items c.in-Some.at r c.index-registration.ensures)
    ∙ search_ends c.args.tag.now (map tag_index items) c.args.skipped c.loop-position.left c.in-Some.at (tag_index r)
    found
    c.if-left-eq0.true

pub returns-then-left-eq0-clause-within : goal.returns-then-left-eq0-clause-within
returns-then-left-eq0-clause-within c = λ n all.
    let items = c.args.self.now.all.items in
    let r = c.index-registration.result.now in
    let found = search_finds c.args.tag.now (map tag_index items) c.args.skipped c.loop-position.left c.in-Some.at
    c.loop-position.position c.in-Some.is c.loop-position.invariant.search in
    subst (λ (x : TagIndex). x.index < n) (sym (registered_at items c.in-Some.at r c.index-registration.ensures))
    (all c.in-Some.at (tag_index r) found.within)

pub index-registration-requires : goal.index-registration-requires
index-registration-requires c =
    let items = c.args.self.now.all.items in
    let found = search_finds c.args.tag.now (map tag_index items) c.args.skipped c.loop-position.left c.in-Some.at
    c.loop-position.position c.in-Some.is c.loop-position.invariant.search in
    let l : c.in-Some.at < length (map tag_index items) = found.within in
    let m : c.in-Some.at < length items = omega (arith, length-map items tag_index) in
    first_of (omega arith, search (rules, m))

pub loop-position-smaller : goal.loop-position-smaller
loop-position-smaller c =
    let items = c.args.self.now.all.items in
    let r = c.index-registration.result.now in
    let found = search_finds c.args.tag.now (map tag_index items) c.args.skipped c.loop-position.left c.in-Some.at
    c.loop-position.position c.in-Some.is c.loop-position.invariant.search in
    let l : c.in-Some.at < length (map tag_index items) = found.within in
    let m : c.in-Some.at < length items = omega (arith, length-map items tag_index) in
    let older = older_at items c.in-Some.at r c.index-registration.ensures c.args.self.now.older_is m in
    let falls = bound_falls (get_or (map tag_index items) c.in-Some.at (tag_index r)).tag (map tag_index items)
    c.in-Some.at r.older older in
    let b : bound c.loop-position.position ≡ suc c.in-Some.at = ap bound c.in-Some.is in
    omega arith

pub loop-position-preserved : goal.loop-position-preserved
loop-position-preserved c =
    let items = c.args.self.now.all.items in
    let rs = map tag_index items in
    let r = c.index-registration.result.now in
    let found = search_finds c.args.tag.now rs c.args.skipped c.loop-position.left c.in-Some.at c.loop-position.position
    c.in-Some.is c.loop-position.invariant.search in
    let l : c.in-Some.at < length rs = found.within in
    let m : c.in-Some.at < length items = omega (arith, length-map items tag_index) in
    let older = older_at items c.in-Some.at r c.index-registration.ensures c.args.self.now.older_is m in
    let falls = bound_falls (get_or rs c.in-Some.at (tag_index r)).tag rs c.in-Some.at r.older older in
    let b : bound c.loop-position.position ≡ suc c.in-Some.at = ap bound c.in-Some.is in
    let less : suc (c.loop-position.left - 1) ≡ c.loop-position.left = omega arith in
    record {
      search = search_goes_on c.args.tag.now rs c.args.skipped c.loop-position.left
          (c.loop-position.left - 1) c.in-Some.at
          (tag_index r) r.older found less older;
      passed = omega arith;
    }

pub returns-clause-value : goal.returns-clause-value
returns-clause-value c =
    search_fails c.args.tag.now (map tag_index c.args.self.now.all.items) c.args.skipped c.loop-position.left
    c.loop-position.position (none_of c.loop-position.position c.in_default.not-Some) c.loop-position.invariant.search
