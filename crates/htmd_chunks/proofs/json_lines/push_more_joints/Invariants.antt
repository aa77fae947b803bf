-- The names that are left.
use Rattle.std.proofs.Common.{◌≡◌, ◌++◌, map, drop, string_bytes}
use Rattle.htmd_chunks.specs.ChunkLines.{more_texts}
use Rattle.htmd_chunks.specs.JointNames.{name_of}
use Rattle.htmd_chunks.proofs.json_lines.push_more_joints.Given as goal

abbrev pub invariant-loop-joint : goal.invariant-loop-joint
invariant-loop-joint l =
    string_bytes l.initial.out ++ more_texts (map name_of l.joints)
    ≡ string_bytes l.out ++ more_texts (map name_of (drop l.joint-index l.joints))
