use Rattle.std.proofs.Common.{◌*◌, ◌/◌, ◌^◌, ◌<◌, length}
use Rattle.eleos_gcm.proofs.Fours.{IsHashed}
use Rattle.eleos_gcm.proofs.hash.hash_from.Given as goal

abbrev pub invariant-fours : goal.invariant-fours
invariant-fours l = IsHashed l.powers l.start l.bytes l.sum (4 * l.i) × (l.sum < 2 ^ 128) × (0 < l.i → l.powers < 2 ^ 128)

abbrev pub invariant-others : goal.invariant-others
invariant-others l =
    IsHashed l.powers l.start l.bytes l.sum l.i
    × (0 < length l.bytes / 64 → l.powers < 2 ^ 128) × (4 * (length l.bytes / 64) < l.i → l.powers < 2 ^ 128)
