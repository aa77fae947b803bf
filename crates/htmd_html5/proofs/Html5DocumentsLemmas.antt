-- The tokens of a text, one after another.
use Rattle.std.proofs.Common.{◌≡◌, ◌∙◌, ℕ, suc, ◌+◌, ◌-◌, ◌<◌, true, false, List, refl, ap, sym, subst, arith}
use Rattle.htmd_html5_state.specs.State.{StateValue}
use Rattle.htmd_html5_tokens.specs.Tokens.{Read, TokenValue, end_of_file}
use Rattle.htmd_html5.specs.Html5Documents.{next_read, is_end, after_token, read_within}
use Rattle.htmd_html5.specs.Feeding.{feed}

-- what is left to read is what was at first
abbrev pub Reads : List ℕ → StateValue → List ℕ → StateValue → ℕ → ℕ → Type 0
Reads text first rest s turn all =
    (k : ℕ) → k + turn ≡ all → read_within k rest s ≡ read_within all text first

pub reads_first : (text : List ℕ) (s : StateValue) (all : ℕ) → Reads text s text s 0 all
reads_first text s all k e = let same : k ≡ all = omega arith in ap (λ n. read_within n text s) same

on : (go : List ℕ → StateValue → StateValue) (read : Read) (s : StateValue) → is_end read.token ≡ false
    → after_token go read s ≡ go read.rest (feed read.token s)
on go read s e = rw e refl

at_end : (go : List ℕ → StateValue → StateValue) (read : Read) (s : StateValue) → is_end read.token ≡ true
    → after_token go read s ≡ feed read.token s
at_end go read s e = rw e refl

pub reads_on : (text : List ℕ) (first : StateValue) (rest : List ℕ) (s : StateValue) (turn all : ℕ)
    → Reads text first rest s turn all → is_end (next_read rest s).token ≡ false
    → Reads text first (next_read rest s).rest (feed (next_read rest s).token s) (turn + 1) all
reads_on text first rest s turn all r e k f =
    let more : suc k + turn ≡ all = omega arith in sym (on (read_within k) (next_read rest s) s e) ∙ r (suc k) more

pub reads_end : (text : List ℕ) (first : StateValue) (rest : List ℕ) (s : StateValue) (turn all : ℕ)
    → Reads text first rest s turn all → turn < all → is_end (next_read rest s).token ≡ true
    → feed (next_read rest s).token s ≡ read_within all text first
reads_end text first rest s turn all r l e =
    let k = all - suc turn in
    let more : suc k + turn ≡ all = omega arith in
    sym (at_end (read_within k) (next_read rest s) s e) ∙ r (suc k) more

pub reads_over : (text : List ℕ) (first : StateValue) (rest : List ℕ) (s : StateValue) (turn all : ℕ)
    → Reads text first rest s turn all → turn ≡ all → feed end_of_file s ≡ read_within all text first
reads_over text first rest s turn all r e = let none : 0 + turn ≡ all = omega arith in r 0 none

-- a turn of the program
pub turn_on : (text : List ℕ) (first : StateValue) (rest after : List ℕ) (s new : StateValue) (token : TokenValue)
    (turn all : ℕ) → Reads text first rest s turn all → token ≡ (next_read rest s).token
    → after ≡ (next_read rest s).rest → new ≡ feed token s → is_end token ≡ false
    → Reads text first after new (turn + 1) all
turn_on text first rest after s new token turn all r t a n e =
    let goes = reads_on text first rest s turn all r (ap is_end (sym t) ∙ e) in
    subst (λ (x : StateValue). Reads text first after x (turn + 1) all)
    (sym (n ∙ ap (λ (x : TokenValue). feed x s) t))
    (subst (λ (x : List ℕ). Reads text first x (feed (next_read rest s).token s) (turn + 1) all) (sym a) goes)

pub turn_ends : (text : List ℕ) (first : StateValue) (rest : List ℕ) (s new : StateValue) (token : TokenValue)
    (turn all : ℕ) → Reads text first rest s turn all → turn < all → token ≡ (next_read rest s).token
    → new ≡ feed token s → is_end token ≡ true → new ≡ read_within all text first
turn_ends text first rest s new token turn all r l t n e =
    n ∙ ap (λ (x : TokenValue). feed x s) t ∙ reads_end text first rest s turn all r l (ap is_end (sym t) ∙ e)
