-- Behind what was passed stands a row of so many grave accents.
use Rattle.std.proofs.Common.{◌≡◌, ◌≤◌, ◌-◌, ◌++◌, take, drop}
use Rattle.htmd_commonmark_reading.specs.Characters.{in_front_of}
use Rattle.htmd_commonmark_reading.specs.InlineTokens as spec
use Rattle.htmd_commonmark_reader.proofs.inline_tokens.before_graves.Given as goal

abbrev pub invariant-loop-at : goal.invariant-loop-at
invariant-loop-at l = record {
  within : l.row ≤ l.at;
  behind : take l.at l.text ≡ take (l.at - l.row) l.text ++ spec.graves l.row;
  passed : in_front_of (take (l.at - l.row) l.text) (spec.before_graves l.count l.row (drop l.at l.text))
      ≡ spec.before_graves l.count 0 l.text;
}
