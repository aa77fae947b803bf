-- What is left to prove of `replacement`.
use Rattle.std.proofs.Common.{◌≡◌, ℕ, List, [], true, length, get_or, subst, sym, arith}
use Rattle.std.specs.List.{between}
use Rattle.std.proofs.lemmas.Slice.{first_rest}
use Rattle.htmd_lexical.specs.WhiteSpace.{is_ascii_white_space, begins_with_white_space}
use Rattle.htmd_text.specs.Replacement.{IsReplaced}
use Rattle.htmd_text.proofs.WhiteSpaceLemmas.{inner_replaced}
use Rattle.htmd_text.proofs.white_space.replacement.Goals as goal

pub returns-then-begins_with_white_space : goal.returns-then-begins_with_white_space
returns-then-begins_with_white_space c =
    let s = c.args.bytes.now in
    let b = get_or s 0 0 in
    let behind = between 1 (length s) s in
    let white : is_ascii_white_space b ≡ true = cc in
    let more : begins_with_white_space behind ≡ true = cc in
    subst (λ (l : List ℕ). IsReplaced l []) (sym (first_rest s 0 (omega arith))) (inner_replaced b behind white more)
