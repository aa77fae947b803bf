-- What the functions that read a part of a text answer.
use Rattle.std.specs.Prelude.{ℕ, List, Option, option_map}
use Rattle.std.specs.Borrow.{Bor}
use Rattle.htmd_html5_tokens.specs.Doctypes.{Quoted}
use Rattle.htmd_html5_tokens.specs.Tokens.{Read, value_of}
use Rattle.htmd_html5_tokens.specs.declared.tokens.Token.{Token}

abbrev pub read_of : Token × Bor (List ℕ) → Read
read_of r = record { token = value_of r.0; rest = r.1.now }

abbrev pub quoted_of : Option (Bor (List ℕ) × Bor (List ℕ)) → Option Quoted
quoted_of o = option_map pair o
  where
    pair : Bor (List ℕ) × Bor (List ℕ) → Quoted
    pair p = record { held = p.0.now; rest = p.1.now }
