-- Up from a folder, case by case.
use Rattle.std.proofs.Common.{◌≡◌, ◌==◌, ◌-◌, ◌∙◌, length, take, rules, sym, ap, true, false}
use Rattle.std.proofs.lemmas.List.{map_push}
use Rattle.std.specs.Str.{bytes_eq}
use Rattle.htmd_addresses.specs.PageViews.{names_of}
use Rattle.htmd_addresses.specs.Paths.{parent}
use Rattle.htmd_addresses.proofs.PathsLemmas.{up-none, up-root, up-parent, up-name}
use Rattle.htmd_addresses.proofs.paths.go_up.Goals as goal

pub returns-in_default : goal.returns-in_default
returns-in_default c =
    ap names_of c.in_ok-push.ensures.items
    ∙ (map_push (λ name. name.now) c.args.folder.now.items _
    ∙ sym (up-none c.deref.result.now c.args.folder.now.items c.last.result c.deref.ensures.value c.last.ensures.value
    c.in_default.is))

pub returns-then-is_empty : goal.returns-then-is_empty
returns-then-is_empty c =
    let empty : (length c.in-Some.name.now.now == 0) ≡ true = search rules in
    sym (up-root c.deref.result.now c.args.folder.now.items c.last.result c.deref.ensures.value c.last.ensures.value
    c.in-Some.name c.in-Some.is empty)

pub returns-then-eq : goal.returns-then-eq
returns-then-eq c =
    let full : (length c.in-Some.name.now.now == 0) ≡ false = search rules in
    let dots : bytes_eq c.in-Some.name.now.now parent ≡ true = search rules in
    ap names_of c.in_ok-push-2.ensures.items
    ∙ (map_push (λ name. name.now) c.args.folder.now.items _
    ∙ sym (up-parent c.deref.result.now c.args.folder.now.items c.last.result c.deref.ensures.value
    c.last.ensures.value
    c.in-Some.name c.in-Some.is full dots))

pub returns : goal.returns
returns c =
    let full : (length c.in-Some.name.now.now == 0) ≡ false = search rules in
    let other : bytes_eq c.in-Some.name.now.now parent ≡ false = search rules in
    ap names_of c.pop.ensures.rest
    ∙ ap (λ n. names_of (take (n - 1) c.args.folder.now.items))
    (sym c.deref.ensures.len ∙ ap length c.deref.ensures.value)
    ∙ sym (up-name c.deref.result.now c.args.folder.now.items c.last.result c.deref.ensures.value c.last.ensures.value
    c.in-Some.name c.in-Some.is full other)
