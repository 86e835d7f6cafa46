-- A place in a frame. Assumes nothing.
use Rattle.std.specs.Prelude.{ℕ, ◌+◌, ◌*◌, ◌<◌}
use Rattle.std.proofs.Common.{suc-mul, mul-le-mul_right, arith}

-- a pixel of a frame has a place in its list
pub place-below : (height width row column : ℕ) → row < height → column < width → row * width + column < height * width
place-below height width row column p q = omega (arith, suc-mul row width, mul-le-mul_right width p)
