use Rattle.std.proofs.Common.{◌≡◌, pos, length, arith}
use Rattle.std.specs.Int.{w64, int_rem_euclid, cast_signed, cast_unsigned}
use Rattle.std.proofs.lemmas.Bool.Decides.{nat_tests}
use Rattle.std.proofs.lemmas.Int.{to_z-of_z, to_z_pos}
use Rattle.dd_kernels.proofs.RotationLemmas.{rotated_is}
use Rattle.dd_kernels.proofs.ordered.rot.Goals as goal

pub returns-then-not-is_empty : goal.returns-then-not-is_empty
returns-then-not-is_empty c =
    let is : cast_signed w64 (cast_unsigned w64 c.rem_euclid-places.result) ≡ int_rem_euclid c.args.k (pos (length c.args.x.now)) = grind (arith, to_z-of_z, to_z_pos, c.rem_euclid-places.ensures.value) in
    rotated_is c.args.k c.args.x.now _ _ (grind (arith, nat_tests)) c.rotate_left.ensures.len is c.rotate_left.ensures.by_index
