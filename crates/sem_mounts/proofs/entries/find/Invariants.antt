use Rattle.std.proofs.Common.{◌≡◌, drop}
use Rattle.std.specs.Map.{lookup}
use Rattle.std.specs.Str.{bytes_eq}
use Rattle.sem_mounts.proofs.entries.find.Given as goal

-- the entries that are left have what all entries have
abbrev pub invariant-loop-key : goal.invariant-loop-key
invariant-loop-key g l = lookup (bytes_eq l.name) l.entries ≡ lookup (bytes_eq l.name) (drop
    l.key-index l.entries)
