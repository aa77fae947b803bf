-- What is left to prove of `escape_if_needed`.
use Rattle.std.proofs.Common.{◌≡◌, ℕ, List, Result, Global, IfOk, IsOkAnd, IsTrue, false, subst, sym}
use Rattle.std.specs.declared.alloc.AllocError.{AllocError}
use Rattle.std.specs.declared.borrow.CowStr.{CowStr}
use Rattle.htmd_text.specs.PlainText.{each_bare, begins_no_inline, begins_no_html, begins_item}
use Rattle.htmd_text.proofs.PlainTextLemmas.{no_inline, no_html}
use Rattle.htmd_text.proofs.PlainTextLemmas.{no_block, no_item}
use Rattle.std.proofs.lemmas.Result.{IfOk-weaker}
use Rattle.std.specs.Cow.{cow_str_bytes, IsBorrowedStr}
use Rattle.htmd_text.specs.EscapedPlaces.{escaped_markdown, begins_block, numbered_item_dot, with_backslashes}
use Rattle.htmd_text.specs.EscapeKinds.{is_escaped_by}
use Rattle.htmd_text.specs.declared.escape.EscapeKind.{EscapeKind}
use Rattle.htmd_text.specs.declared.escape.EscapeKind.TheVariants.{Markdown}
use Rattle.htmd_text.specs.Unescape.{unescape}
use Rattle.htmd_text.proofs.UnescapeLemmas.{unescape-escaped}
use Rattle.htmd_text.proofs.EscapeKindsLemmas.{marks_are_ascii}
use Rattle.htmd_text.proofs.escape.escape_if_needed.Goals as goal

pub with_backslashes-requires : goal.with_backslashes-requires
with_backslashes-requires c = rw (c.begins_block.ensures, c.numbered_item_dot.ensures) (marks_are_ascii c.args.text.now)

pub returns-clause-text : goal.returns-clause-text
returns-clause-text c =
    let s = c.args.text.now in
    let same : Markdown c.begins_block.result c.numbered_item_dot.result ≡ Markdown (begins_block s)
    (numbered_item_dot s) = cc in
    subst (λ (m : EscapeKind). IfOk c.with_backslashes.result
    (λ t. cow_str_bytes t ≡ with_backslashes (is_escaped_by m s) 0 s)) same c.with_backslashes.ensures.text

pub returns-clause-borrowed : goal.returns-clause-borrowed
returns-clause-borrowed c =
    let s = c.args.text.now in
    let same : Markdown c.begins_block.result c.numbered_item_dot.result ≡ Markdown (begins_block s)
    (numbered_item_dot s) = cc in
    subst (λ (m : EscapeKind). with_backslashes (is_escaped_by m s) 0 s ≡ s
    → IsOkAnd c.with_backslashes.result (λ t. IsBorrowedStr t)) same c.with_backslashes.ensures.borrowed

-- what holds for the escaped text holds for the answer
of_answer : (r : Result (CowStr Global) AllocError) (s : List ℕ) (P : List ℕ → Type 0) → P (escaped_markdown s)
    → IfOk r (λ t. cow_str_bytes t ≡ escaped_markdown s) → IfOk r (λ t. P (cow_str_bytes t))
of_answer r s P here told = IfOk-weaker r (λ t. cow_str_bytes t ≡ escaped_markdown s) (λ t. P (cow_str_bytes t))
    (λ t same. subst P (sym same) here) told

pub returns-clause-reads_back : goal.returns-clause-reads_back
returns-clause-reads_back c = of_answer c.with_backslashes.result c.args.text.now (λ t. unescape t ≡ c.args.text.now)
    (unescape-escaped c.args.text.now) (returns-clause-text c)

pub returns-clause-inline : goal.returns-clause-inline
returns-clause-inline c = of_answer c.with_backslashes.result c.args.text.now
    (λ t. IsTrue (each_bare begins_no_inline t)) (no_inline c.args.text.now) (returns-clause-text c)

pub returns-clause-html : goal.returns-clause-html
returns-clause-html c = of_answer c.with_backslashes.result c.args.text.now (λ t. IsTrue (each_bare begins_no_html t))
    (no_html c.args.text.now) (returns-clause-text c)

pub returns-clause-block : goal.returns-clause-block
returns-clause-block c = of_answer c.with_backslashes.result c.args.text.now (λ t. begins_block t ≡ false)
    (no_block c.args.text.now) (returns-clause-text c)

pub returns-clause-item : goal.returns-clause-item
returns-clause-item c = of_answer c.with_backslashes.result c.args.text.now (λ t. begins_item t ≡ false)
    (no_item c.args.text.now) (returns-clause-text c)
