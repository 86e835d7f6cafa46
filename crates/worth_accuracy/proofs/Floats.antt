-- THE ROWS THAT ARE SENT TO THE GIMBAL for a matrix of an accepted chain are within 2 parts in 10^16 of it, entry by entry. Assumes nothing.
use Rattle.std.specs.Prelude.{◌≡◌}
use Rattle.attitude_gimbal.specs.Near.{RowsSent}
use Rattle.attitude_gimbal.proofs.Near.{rotation-sent}
use Rattle.chain.specs.Chain.{Call, tracked_of}
use Rattle.worth_accuracy.proofs.Chain.{tracked-worth}
use Rattle.std.specs.Prelude.{Ok}

pub chain-sent : (c : Call) → (tracked_of c).outcome ≡ Ok tt → RowsSent 2 (tracked_of c).matrix
chain-sent c accepted = rotation-sent (tracked_of c).matrix (tracked-worth c accepted).rotation
