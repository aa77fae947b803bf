-- The last number sign of a heading may be cut off, and stands there with a backslash.
use Rattle.std.proofs.Common.{◌≡◌, ◌++◌, length, ap, sym, ◌∙◌, arith, string_bytes, codes}
use Rattle.std.proofs.lemmas.List.{take_rest}
use Rattle.htmd_commonmark.specs.TextEscapes.{escaped}
use Rattle.htmd_commonmark.specs.InlineMarkdown.{place_of, ends_in_closing_signs, with_last_escaped}
use Rattle.htmd_commonmark.specs.WrittenText.{written_of}
use Rattle.htmd_commonmark.proofs.HeadingEndsLemmas.{IsEnded, ended_part, ended-cut, ended-escaped, with_text-ended}
use Rattle.htmd_commonmark.proofs.inlines.InlineWriter.write_text.Goals as goal

pub truncate-requires : goal.truncate-requires
truncate-requires c =
    let so_far = string_bytes c.args.self.now.text in
    let all = string_bytes c.push_escaped.new.out in
    let e = escaped c.place_of-place.result c.args.text.now in
    let from : c.len-start.result ≡ length so_far = omega (arith, c.len-start.ensures) in
    let long : c.len.result ≡ length all = omega (arith, c.len.ensures) in
    let is : IsEnded so_far e all c.as_bytes.result.now c.len-start.result c.len.result = record {
      whole = c.in_ok-push_escaped.ensures;
      from = from;
      seen = c.as_bytes.ensures.value;
      long = long;
      ends =
          ap ends_in_closing_signs (sym (take_rest c.as_bytes.result.now c.len-start.result))
          ∙ sym c.ends_in_closing_signs.ensures ∙ c.if-ends_in_closing_signs.true;
    } in
    λ _. ended-cut so_far e all c.as_bytes.result.now c.len-start.result c.len.result is

pub returns-in_ok-push_str : goal.returns-in_ok-push_str
returns-in_ok-push_str c =
    let so_far = string_bytes c.args.self.now.text in
    let all = string_bytes c.push_escaped.new.out in
    let e = escaped c.place_of-place.result c.args.text.now in
    let from : c.len-start.result ≡ length so_far = omega (arith, c.len-start.ensures) in
    let long : c.len.result ≡ length all = omega (arith, c.len.ensures) in
    let is : IsEnded so_far e all c.as_bytes.result.now c.len-start.result c.len.result = record {
      whole = c.in_ok-push_escaped.ensures;
      from = from;
      seen = c.as_bytes.ensures.value;
      long = long;
      ends =
          ap ends_in_closing_signs (sym (take_rest c.as_bytes.result.now c.len-start.result))
          ∙ sym c.ends_in_closing_signs.ensures ∙ c.if-ends_in_closing_signs.true;
    } in
    let where_is : c.place_of-place.result ≡ place_of c.args.line so_far c.args.follows.after =
    c.place_of-place.ensures
    ∙ ap (λ l. place_of c.args.line l c.args.follows.after) c.deref.ensures in
    let same : e ≡ escaped (place_of c.args.line so_far c.args.follows.after) c.args.text.now =
    ap (λ p. escaped p c.args.text.now) where_is in
    let text : string_bytes c.push_str.new.self ≡ so_far ++ with_last_escaped e =
    c.in_ok-push_str.ensures.bytes
    ∙ ap (λ l. l ++ codes "\\#") c.truncate.ensures.bytes
    ∙ ended-escaped so_far e all c.as_bytes.result.now c.len-start.result c.len.result is in
    with_text-ended c.args.line (written_of c.args.self.now) c.args.follows c.args.text.now
    (string_bytes c.push_str.new.self)
    (sym c.is_end_of_heading.ensures ∙ c.if-is_end_of_heading.true)
    (ap ends_in_closing_signs (sym same)
    ∙ ended_part so_far e all c.as_bytes.result.now c.len-start.result c.len.result is)
    (text ∙ ap (λ l. so_far ++ with_last_escaped l) same)
