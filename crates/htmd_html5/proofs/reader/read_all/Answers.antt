-- One more token is read.
use Rattle.std.proofs.Common.{◌≡◌, ◌∙◌, Bool, length, ap, sym, subst, arith}
use Rattle.std.specs.Prelude.{not, OnOk}
use Rattle.htmd_html5_state.specs.State.{StateValue}
use Rattle.htmd_html5_tokens.specs.NextToken.{next_token}
use Rattle.htmd_html5_tokens.specs.Tokens.{Read, value_of}
use Rattle.htmd_lexical.specs.declared.content_model.ContentModel.{ContentModel}
use Rattle.htmd_html5.specs.Html5Documents.{next_read}
use Rattle.htmd_html5.proofs.Html5DocumentsLemmas.{turn_on, turn_ends, reads_over}
use Rattle.htmd_html5.proofs.reader.read_all.Goals as goal

pub returns-then-ends : goal.returns-then-ends
returns-then-ends c =
    let text = c.args.text.now in
    let rest = c.loop-token.tokenizer in
    let s = c.loop-token.state in
    let read : next_token c.content.result (not c.current_is_html.result) rest ≡ next_read rest s =
    ap (λ (x : ContentModel). next_token x (not c.current_is_html.result) rest) c.content.ensures
    ∙ ap (λ (b : Bool). next_token s.content (not b) rest) c.current_is_html.ensures in
    turn_ends text c.args.state.now rest s c.feed.new.state (value_of c.in_ok-token.token) c.loop-token._token
    (length text) c.loop-token.invariant (omega arith)
    (c.in_ok-token.ensures.token ∙ ap (λ (r : Read). r.token) read) c.in_ok-feed.ensures
    (sym c.is_end-ends.ensures ∙ c.if-ends.true)

pub loop-token-preserved : goal.loop-token-preserved
loop-token-preserved c =
    let text = c.args.text.now in
    let rest = c.loop-token.tokenizer in
    let s = c.loop-token.state in
    let read : next_token c.content.result (not c.current_is_html.result) rest ≡ next_read rest s =
    ap (λ (x : ContentModel). next_token x (not c.current_is_html.result) rest) c.content.ensures
    ∙ ap (λ (b : Bool). next_token s.content (not b) rest) c.current_is_html.ensures in
    turn_on text c.args.state.now rest c.next.new.self s c.feed.new.state (value_of c.in_ok-token.token)
    c.loop-token._token (length text) c.loop-token.invariant
    (c.in_ok-token.ensures.token ∙ ap (λ (r : Read). r.token) read)
    (c.in_ok-token.ensures.rest ∙ ap (λ (r : Read). r.rest) read) c.in_ok-feed.ensures
    (sym c.is_end-ends.ensures ∙ c.if-ends.false)

pub returns : goal.returns
returns c =
    let over = reads_over c.args.text.now c.args.state.now c.loop-token.tokenizer c.loop-token.state
    c.loop-token._token (length c.args.text.now) c.loop-token.invariant (omega arith) in
    subst (λ (s : StateValue). OnOk c.feed_end_of_file.result (c.feed_end_of_file.new.state ≡ s)) over
    c.feed_end_of_file.ensures
