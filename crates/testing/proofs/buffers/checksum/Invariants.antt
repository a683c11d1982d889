-- Each sum is below the modulus, so its product with 257 fits.
use Rattle.std.proofs.Common.{◌<◌}
use Rattle.testing.proofs.buffers.checksum.Given as goal

abbrev pub invariant-loop-byte : goal.invariant-loop-byte
invariant-loop-byte l = l.sum < 36028797018963913
