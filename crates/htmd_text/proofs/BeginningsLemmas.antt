-- Beginnings of beginnings.
use Rattle.std.proofs.Common.{◌≡◌, [], List, ◌++◌, sym, ap, ◌∙◌, append_assoc, append-nil}
use Rattle.htmd_text.specs.Beginnings.{IsBeginning}

-- a list begins itself, also where it has not changed
pub begins-same : {X : Type 0} {a b : List X} → b ≡ a → IsBeginning a b
begins-same {a = a} e = record { rest = []; is = e ∙ sym (append-nil a) }

-- and what more is put after it
pub begins-pushed : {X : Type 0} {a b : List X} (more : List X) → b ≡ a ++ more → IsBeginning a b
begins-pushed more e = record { rest = more; is = e }

pub begins-trans : {X : Type 0} {a b c : List X} → IsBeginning a b → IsBeginning b c → IsBeginning a c
begins-trans {a = a} x y = record {
  rest = x.rest ++ y.rest;
  is = y.is ∙ ap (λ l. l ++ y.rest) x.is ∙ append_assoc a x.rest y.rest;
}
