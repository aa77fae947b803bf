-- One quote more, or none.
use Rattle.std.proofs.Common.{◌∙◌, [], ◌∷◌, map, ap, arith}
use Rattle.std.proofs.lemmas.List.{map-append}
use Rattle.htmd_commonmark_reader.specs.ClosedParts.{kind_of}
use Rattle.htmd_commonmark_reader.specs.Quotes.{quote_count}
use Rattle.htmd_commonmark_reader.proofs.QuotesLemmas.{few_quotes, quotes_behind}
use Rattle.htmd_commonmark_reader.proofs.open_containers.OpenContainers.push.Goals as goal

pub overflow_add-self : goal.overflow_add-self
overflow_add-self c =
    let ks = c.args.self.now.kinds.items in
    let more = c.args.kind ∷ [] in
    let one = few_quotes more in
    omega (arith, c.args.self.now.counted, few_quotes ks, c.quotes.ensures, one)

pub invariant_of-self-2 : goal.invariant_of-self-2
invariant_of-self-2 c =
    let ks = c.args.self.now.kinds.items in
    let more = c.args.kind ∷ [] in
    let all = ap (λ l. quote_count (map kind_of l)) c.in_ok-push.ensures.items
    ∙ ap quote_count (map-append kind_of ks more) ∙ quotes_behind (map kind_of ks) (kind_of c.args.kind ∷ []) in
    record { counted = omega (arith, c.args.self.now.counted, c.quotes.ensures, all) }
