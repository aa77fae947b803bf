use Rattle.std.proofs.Common.{◌≡◌, ◌-◌, ◌++◌, length, min, ap, ◌∙◌, arith, codes, string_bytes}
use Rattle.std.specs.Prelude.{replicate}
use Rattle.std.specs.Str.{chars}
use Rattle.htmd_lexical.specs.Characters.{space}
use Rattle.htmd_markdown.specs.Tables.{normalised_cell}
use Rattle.htmd_markdown.proofs.TablesLemmas.{padded_pushed}
use Rattle.htmd_markdown.proofs.table.push_padded.Goals as goal

pub returns : goal.returns
returns c =
    let out = string_bytes c.args.text.now in
    let cell = normalised_cell c.args.cell.now in
    let characters : c.cell_width.result ≡ min (length (chars cell)) 0xFFFF_FFFF_FFFF_FFFF =
    c.cell_width.ensures in
    let missing : c.saturating_sub.result ≡ c.args.width - length (chars cell) =
    omega (arith, characters, c.saturating_sub.ensures, c.ranges.width.fits) in
    let pad = replicate (c.args.width - length (chars cell)) space in
    c.in_ok-push_str-2.ensures.bytes
    ∙ ap (λ l. l ++ codes " |") (c.in_ok-push_repeated.ensures.ok
    ∙ ap (λ n. string_bytes c.push_normalised.new.text ++ replicate n space) missing)
    ∙ ap (λ l. (l ++ pad) ++ codes " |") (c.in_ok-push_normalised.ensures
    ∙ ap (λ l. l ++ cell) c.in_ok-push_str.ensures.bytes)
    ∙ padded_pushed out cell pad
