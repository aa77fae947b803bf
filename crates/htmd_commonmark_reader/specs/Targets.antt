-- Where links lead, as the reader holds it.
use Rattle.std.specs.Prelude.{ℕ, List, Option, option_map, string_bytes}
use Rattle.htmd_commonmark_reading.specs.Brackets.{Target}
use Rattle.htmd_commonmark_reading.specs.Characters.{unescaped}
use Rattle.htmd_commonmark_reader.specs.declared.targets.RawTarget.{RawTarget}
use Rattle.htmd_commonmark_reader.specs.declared.targets.Target as declared
use Rattle.htmd_commonmark_reader.specs.declared.targets.Target.TheVariants.{Written, Defined}

abbrev pub target_of : RawTarget → Target
target_of t = record {
  address = unescaped t.address.now;
  title = option_map (λ s. unescaped s.now) t.title;
  rest = t.rest.now;
}

abbrev pub address_of : declared.Target → List ℕ
address_of (Written address title) = unescaped address.now
address_of (Defined d) = string_bytes d.now.address

abbrev pub title_of : declared.Target → Option (List ℕ)
title_of (Written address title) = option_map (λ s. unescaped s.now) title
title_of (Defined d) = option_map (λ s. string_bytes s) d.now.title
